-- A turn of the current transaction.
use Rattle.std.proofs.Common.{◌≡◌, ◌≤◌, Bool, true, false, Option, Some, None, Result, Err, ◌⊎◌, inl, inr, List, [], ◌∷◌, ◌++◌, take, drop, refl, ap, sym, ◌∙◌, arith}
use Rattle.std.specs.Prelude.{cond, if◌then◌else◌}
use Rattle.tp_logrec.specs.declared.record.LogRec.{LogRec}
use Rattle.tp_model.specs.Parts.{Who, Arc, Out, Current, Digest}
use Rattle.tp_model.specs.Dialogues.{is_nil, is_rolling}
use Rattle.tp_model.specs.Transactions.{Transaction, Turn, Row, transacted, step_of}
use Rattle.tp_model.specs.declared.transaction.TxEvent.{TxEvent}
use Rattle.tp_model.specs.declared.transaction.Step.{Step}
use Rattle.tp_model.specs.Recovery.{kept_after}
use Rattle.tp_commit.specs.Branch.{standing, standing_rows}
use Rattle.std.specs.Option.{option_map}
use Rattle.tp_model.specs.declared.transaction.TxOut.{TxOut}
use Rattle.tp_model.specs.Node.{Move, move, followed, perform, branches_of, seen, remaining, turned, passed, transact, try_start, is_over, Passage as PassageValue, committed_arcs, grants, entered, played, Stays, Enters, Falls, Falls_at_once, Commits, Rolls_back, Leaves, perform_commit, started_next}
use Rattle.tp_model.specs.Arcs.{performed}
use Rattle.tp_node.specs.declared.halt.Halt.{Halt}
use Rattle.tp_node_state.specs.declared.arc_step.ArcStep.{ArcStep}
use Rattle.tp_node.specs.declared.passage.Passage.{Passage}
use Rattle.tp_draft.specs.Draft.{Draft, with_current, goes_on, Plays}
use Rattle.tp_node_state.specs.ArcStep.{stepped_arcs}
use Rattle.tp_draft.specs.Passage.{giving, completing, speaking, recording, acting_by, turning, passing, turning_by, playing, said_then, place_of_completion, played_outs}
use Rattle.tp_node.specs.Passage.{passage_of}
use Rattle.tp_draft.proofs.Drafts.{plays_alike, plays_same_at, plays_halted_at, followed_silent, append_again}
use Rattle.tp_node_state.proofs.Steps.{done_arcs, rolled_arcs, gone_arcs}
use Rattle.tp_node.specs.Node.{current_of}
use Rattle.tp_draft.proofs.Beginnings.{branches_seen, start_rises}
use Rattle.tp_draft.proofs.Parted.{parted_turn}

-- what is seen anew is seen of what is kept
pub seen_again : (who : Who) (arcs : List Arc) (c : Current) → current_of (seen who arcs c) ≡ c
seen_again who arcs c = ap (λ bs. let x : Current = record c { branches = bs } in x) (branches_seen arcs c.branches)

-- ---- a completed commitment

abbrev at_arcs : Draft → List Arc → Draft
at_arcs a arcs = record a { move = record a.move { next = record a.move.next { arcs = arcs } } }

pub given : (r : Result (Unit {0}) Halt) (a b c : Draft) (t : Transaction) (gs : List TxOut) → gs ≡ grants t a.move.next.arcs
    → b ≡ record a { move = record a.move { next = record a.move.next { arcs = stepped_arcs ArcStep.Commit a.move.next.superior t a.move.next.arcs } } }
    → Plays r b c (λ who. perform gs) → Plays r a c (giving t)
given r a b c t gs said is p =
    let d = a.move.next in
    plays_alike r a b c (giving t) (λ who. perform gs) (
    ap (λ (x : Draft). goes_on x (λ who. perform gs)) is
    ∙ ap (λ (arcs : List Arc). goes_on (at_arcs a arcs) (λ who. perform gs)) (done_arcs d t d.arcs)
    ∙ ap (λ (l : List TxOut). goes_on (at_arcs a (committed_arcs d t d.arcs)) (λ who. perform l)) said
    ∙ sym (ap (λ (m : Move). record a { move = followed a.move (λ _. m) }) (followed_silent (record d { arcs = committed_arcs d t d.arcs }) (perform (grants t d.arcs))))
    ) p

-- what is said at a completed commitment, in its parts
pub commit_parts : (t : Transaction) (outs : List TxOut) (who : Who) (d : Digest) → playing t Commits outs who d ≡ followed (perform (take (place_of_completion outs) outs) d) (completing t (drop (place_of_completion outs) outs) who)
commit_parts t outs who d =
    let first : List Arc × List Out = performed d.arcs (take (place_of_completion outs) outs) in
    let gave : List Arc × List Out = performed (committed_arcs d t first.0) (grants t first.0) in
    let last : List Arc × List Out = performed gave.0 (drop (place_of_completion outs) outs) in
    ap (λ (l : List Out). move l (record d { arcs = last.0 })) (append_again first.1 gave.1 last.1)

pub says_plainly : (t : Transaction) (outs : List TxOut) (w : Passage) → (w ≡ Passage.Stays) ⊎ ((w ≡ Passage.Enters) ⊎ (w ≡ Passage.Falls)) → (who : Who) (d : Digest) → playing t (passage_of w) outs who d ≡ perform outs d
unfolding played
says_plainly t outs w (inl e) who d = ap (λ (x : Passage). playing t (passage_of x) outs who d) e
says_plainly t outs w (inr (inl e)) who d = ap (λ (x : Passage). playing t (passage_of x) outs who d) e
says_plainly t outs w (inr (inr e)) who d = ap (λ (x : Passage). playing t (passage_of x) outs who d) e

pub rolls_then : (t : Transaction) (outs : List TxOut) (w : Passage) → (w ≡ Passage.FallsAtOnce) ⊎ (w ≡ Passage.RollsBack) → (who : Who) (d : Digest) → playing t (passage_of w) outs who d ≡ said_then ArcStep.RollBack t outs who d
unfolding played
rolls_then t outs w (inl e) who d =
    let p : List Arc × List Out = performed d.arcs outs in
    ap (λ (x : Passage). playing t (passage_of x) outs who d) e ∙ sym (ap (λ (arcs : List Arc). move p.1 (record d { arcs = arcs })) (rolled_arcs d t p.0))
rolls_then t outs w (inr e) who d =
    let p : List Arc × List Out = performed d.arcs outs in
    ap (λ (x : Passage). playing t (passage_of x) outs who d) e ∙ sym (ap (λ (arcs : List Arc). move p.1 (record d { arcs = arcs })) (rolled_arcs d t p.0))

pub leaves_then : (t : Transaction) (outs : List TxOut) (w : Passage) → w ≡ Passage.Leaves → (who : Who) (d : Digest) → playing t (passage_of w) outs who d ≡ said_then ArcStep.Leave t outs who d
unfolding played
leaves_then t outs w e who d =
    let p : List Arc × List Out = performed d.arcs outs in
    ap (λ (x : Passage). playing t (passage_of x) outs who d) e ∙ sym (ap (λ (arcs : List Arc). move p.1 (record d { arcs = arcs })) (gone_arcs d.superior t p.0))

pub completing_rises : (t : Transaction) (outs : List TxOut) (who : Who) (d : Digest) → d.drawn ≤ (completing t outs who d).next.drawn
completing_rises t outs who d = omega arith

-- ---- a turn

pub speaks : (r : Result (Unit {0}) Halt) (a b c : Draft) (t : Transaction) (w : Passage) (outs : List TxOut)
    → b ≡ record a { move = record a.move { next = record a.move.next { arcs = entered t (passage_of w) a.move.next.arcs } } }
    → Plays r b c (playing t (passage_of w) outs) → Plays r a c (speaking t (passage_of w) outs)
speaks r a b c t w outs is p =
    plays_alike r a b c (speaking t (passage_of w) outs) (playing t (passage_of w) outs)
    (ap (λ (x : Draft). goes_on x (playing t (passage_of w) outs)) is
    ∙ sym (ap (λ (m : Move). record a { move = followed a.move (λ _. m) }) (followed_silent (record a.move.next { arcs = entered t (passage_of w) a.move.next.arcs }) (playing t (passage_of w) outs a.who))))
    p

pub recording_rises : (r : Option LogRec) (who : Who) (d : Digest) → d.drawn ≤ (recording r who d).next.drawn
recording_rises r who d = omega arith

-- ---- a turn by an event

rows_stand : (rolls : Bool) (rs : List Row) → branches_of (standing_rows rolls rs) ≡ branches_of rs
rows_stand rolls [] = refl
rows_stand rolls (r ∷ rs) = ap (λ l. r.branch ∷ l) (rows_stand rolls rs)

pub remaining_stands : (t : Transaction) → remaining (standing t) ≡ remaining t
remaining_stands t = ap (λ bs. cond (is_nil t.phase) None (Some (record (current_of t) { branches = bs }))) (rows_stand (is_rolling t.phase) t.rows)

-- what a turn has said and logged, and then what the transaction has become
pub settled_turn : (a b c : Draft) (t u : Transaction) (e : TxEvent) → b ≡ goes_on a (acting_by t e) → u ≡ standing (transacted e t).next → c ≡ with_current b (remaining u)
    → c ≡ goes_on a (turning_by t e)
settled_turn a b c t u e acts leaves is =
    is
    ∙ ap (λ (x : Draft). with_current x (remaining u)) acts
    ∙ ap (with_current (goes_on a (acting_by t e))) (ap remaining leaves ∙ remaining_stands (transacted e t).next)

-- where a turn halts, it halts before the transaction has become anything
pub halted_turn : (x : Halt) (a b : Draft) (t : Transaction) (e : TxEvent) → Plays (Err x) a b (acting_by t e) → Plays (Err x) a b (turning_by t e)
halted_turn Halt.NumbersSpent a b t e p = p
halted_turn Halt.NoMemory a b t e p = tt

-- what is played of a turn reads its outputs, and not the arcs elsewhere
playing_turn : (e : TxEvent) (d : Digest) (arcs : List Arc) (t : Transaction) (w : PassageValue) → played_outs (record d { arcs = arcs }) t w (transacted e t).outs arcs ≡ played d t w (transacted e t) arcs
unfolding played
playing_turn e d arcs t Stays = refl
playing_turn e d arcs t Enters = refl
playing_turn e d arcs t Falls = refl
playing_turn e d arcs t Falls_at_once = refl
playing_turn e d arcs t Commits = ap (λ (s : List TxOut × List TxOut). perform_commit d t s arcs) (parted_turn e t)
playing_turn e d arcs t Rolls_back = refl
playing_turn e d arcs t Leaves = refl

abbrev pub without_current : Draft → Draft
without_current a = record a { move = record a.move { next = record a.move.next { current = None } } }

-- a turn does not read the transaction where the node keeps it
turning_alike : (d : Digest) (t n : Transaction) (w : PassageValue) (s : Step) (who : Who) → turning t w s n who (record d { current = None }) ≡ turning t w s n who d
unfolding played
turning_alike d t n Stays s who = refl
turning_alike d t n Enters s who = refl
turning_alike d t n Falls s who = refl
turning_alike d t n Falls_at_once s who = refl
turning_alike d t n Commits s who = refl
turning_alike d t n Rolls_back s who = refl
turning_alike d t n Leaves s who = refl

pub taken_out : (r : Result (Unit {0}) Halt) (a b d : Draft) (t : Transaction) (e : TxEvent) → b ≡ without_current a → Plays r b d (turning_by t e) → Plays r a d (turning_by t e)
taken_out r a b d t e is p =
    plays_alike r a b d (turning_by t e) (turning_by t e) (
    ap (λ (x : Draft). goes_on x (turning_by t e)) is
    ∙ ap (λ (m : Move). record a { move = followed a.move (λ _. m) }) (turning_alike a.move.next t (transacted e t).next (passing t e) (step_of (transacted e t)) a.who)
    ) p

pub none_taken : (a b : Draft) → option_map (seen a.who a.move.next.arcs) a.move.next.current ≡ None → b ≡ without_current a → b ≡ a
none_taken a b h is = is ∙ go a.move.next.current refl h
  where
    go : (o : Option Current) → a.move.next.current ≡ o → option_map (seen a.who a.move.next.arcs) o ≡ None → without_current a ≡ a
    go None f g = ap (λ (o : Option Current). let x : Draft = record a { move = record a.move { next = record a.move.next { current = o } } } in x) (sym f)
    go (Some c) f g = absurd (let clash : Some (seen a.who a.move.next.arcs c) ≡ None = g in cc)

pub turned_by : (who : Who) (e : TxEvent) (d : Digest) (c : Current) → turned who e d c ≡ turning_by (seen who d.arcs c) e who d
turned_by who e d c =
    let t : Transaction = seen who d.arcs c in
    let a : Turn = transacted e t in
    let w : PassageValue = passing t e in
    let made : Option LogRec → List Out → List Arc → Move = λ r outs arcs. record { rec = r; outs = outs; next = record d { arcs = arcs; current = remaining a.next; kept = kept_after a.rec d.kept } } in
    let p : List Arc × List Out = played d t w a (entered t w d.arcs) in
    let q : List Arc × List Out = played_outs (record d { arcs = entered t w d.arcs }) t w a.outs (entered t w d.arcs) in
    let same : q ≡ p = playing_turn e d (entered t w d.arcs) t w in
    ap (λ (x : List Arc × List Out). made a.rec x.1 x.0) (sym same)
    ∙ ap (λ (r : Option LogRec). made r q.1 q.0) (logged a.rec)
    ∙ ap (λ (l : List Out). made (elim a.rec as (λ _. Option LogRec) [ None ↦ None | Some r ↦ Some r ]) l q.0) (sym (none_more q.1))
  where
    logged : (r : Option LogRec) → r ≡ elim r as (λ _. Option LogRec) [ None ↦ None | Some x ↦ Some x ]
    logged None = refl
    logged (Some x) = refl

    none_more : (xs : List Out) → xs ++ [] ≡ xs
    none_more [] = refl
    none_more (x ∷ xs) = ap (λ (ys : List Out). x ∷ ys) (none_more xs)

pub transacts_none : (a : Draft) (e : TxEvent) → option_map (seen a.who a.move.next.arcs) a.move.next.current ≡ None → transact a.who e a.move.next ≡ move [] a.move.next
unfolding transact
transacts_none a e h = go a.move.next.current refl h
  where
    go : (o : Option Current) → a.move.next.current ≡ o → option_map (seen a.who a.move.next.arcs) o ≡ None → transact a.who e a.move.next ≡ move [] a.move.next
    go None f g = ap (λ (o : Option Current). elim o as (λ _. Move) [ None ↦ move [] a.move.next | Some c ↦ started_next a.who (passed a.who e a.move.next c) (turned a.who e a.move.next c) ]) f
    go (Some c) f g = absurd (let clash : Some (seen a.who a.move.next.arcs c) ≡ None = g in cc)

pub transacts : (a : Draft) (e : TxEvent) (t : Transaction) → option_map (seen a.who a.move.next.arcs) a.move.next.current ≡ Some t
    → transact a.who e a.move.next ≡ cond (is_over (passing t e)) (followed (turning_by t e a.who a.move.next) (try_start a.who)) (turning_by t e a.who a.move.next)
unfolding transact
transacts a e t h = go a.move.next.current refl h
  where
    d : Digest
    d = a.move.next

    by_seen : (u : Transaction) → Move
    by_seen u = cond (is_over (passing u e)) (followed (turning_by u e a.who d) (try_start a.who)) (turning_by u e a.who d)

    go : (o : Option Current) → a.move.next.current ≡ o → option_map (seen a.who a.move.next.arcs) o ≡ Some t
        → transact a.who e a.move.next ≡ cond (is_over (passing t e)) (followed (turning_by t e a.who a.move.next) (try_start a.who)) (turning_by t e a.who a.move.next)
    go None f g = absurd (let clash : (let o : Option Transaction = None in o) ≡ Some t = g in cc)
    go (Some c) f g =
        let same : seen a.who a.move.next.arcs c ≡ t = ap (λ (o : Option Transaction). elim o as (λ _. Transaction) [ None ↦ t | Some x ↦ x ]) g in
        ap (λ (o : Option Current). elim o as (λ _. Move) [ None ↦ move [] a.move.next | Some x ↦ started_next a.who (passed a.who e a.move.next x) (turned a.who e a.move.next x) ]) f
        ∙ ap (λ (m : Move). cond (is_over (passed a.who e a.move.next c)) (followed m (try_start a.who)) m) (turned_by a.who e a.move.next c)
        ∙ ap by_seen same

pub transact_halts : (x : Halt) (a b : Draft) (e : TxEvent) (t : Transaction) → option_map (seen a.who a.move.next.arcs) a.move.next.current ≡ Some t
    → Plays (Err x) a b (turning_by t e) → Plays (Err x) a b (λ who. transact who e)
transact_halts x a b e t there p = go (is_over (passing t e)) refl
  where
    go : (o : Bool) → is_over (passing t e) ≡ o → Plays (Err x) a b (λ who. transact who e)
    go true f =
        plays_halted_at x a b b (turning_by t e) try_start (λ who. transact who e)
        (transacts a e t there ∙ ap (λ (w : Bool). cond w (followed (turning_by t e a.who a.move.next) (try_start a.who)) (turning_by t e a.who a.move.next)) f) start_rises p
    go false f =
        plays_same_at (Err x) a b (λ who. transact who e) (turning_by t e)
        (transacts a e t there ∙ ap (λ (w : Bool). cond w (followed (turning_by t e a.who a.move.next) (try_start a.who)) (turning_by t e a.who a.move.next)) f) p

-- an event of the transaction takes no mark back
pub transact_rises : (e : TxEvent) (who : Who) (d : Digest) → d.drawn ≤ (transact who e d).next.drawn
unfolding transact
transact_rises e who d = go d.current refl
  where
    over : (c : Current) (b : Bool) → d.drawn ≤ (if b then followed (turned who e d c) (try_start who) else turned who e d c).next.drawn
    over c true = start_rises who (turned who e d c).next
    over c false = omega arith

    go : (o : Option Current) → d.current ≡ o → d.drawn ≤ (elim o as (λ _. Move) [ None ↦ move [] d | Some c ↦ started_next who (passed who e d c) (turned who e d c) ]).next.drawn
    go None i = omega arith
    go (Some c) i = over c (is_over (passed who e d c))
