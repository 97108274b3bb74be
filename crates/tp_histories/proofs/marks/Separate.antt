-- In every legal history no two arcs lead to one number, and none is idle.
use Rattle.std.proofs.Common.{sym, if◌then◌else◌, ◌≡◌, ℕ, Bool, true, false, refl, ap, ◌∙◌, arith, Option, Some, None, List, [], ◌∷◌, ◌++◌, ◌||◌, ◌==◌}
use Rattle.std.proofs.lemmas.Bool.Decides.{nat_tests}
use Rattle.tp_names.specs.declared.identifiers.Mark.{Mark}
use Rattle.tp_names.specs.declared.identifiers.Addr.{Addr}
use Rattle.tp_names.specs.declared.identifiers.Aaid.{Aaid}
use Rattle.tp_names.specs.declared.identifiers.BranchId.{BranchId}
use Rattle.tp_names.specs.declared.outcome.Outcome.{Outcome}
use Rattle.tp_records.specs.declared.request.Request.{Request}
use Rattle.tp_records.specs.declared.dialogue.DialogueRecord.{DialogueRecord}
use Rattle.tp_records.specs.declared.peer.PeerRecord.{PeerRecord}
use Rattle.tp_model.specs.declared.arc.Side.{Side}
use Rattle.tp_model.specs.declared.transaction.TxEvent.{TxEvent}
use Rattle.tp_model.specs.declared.transaction.TxOut.{TxOut}
use Rattle.tp_model.specs.Parts.{Who, Origin, Event, Out, Entry, Link, Idle, Opening, Offered, Live, Dialogue, Arc, Current, Digest}
use Rattle.tp_model.specs.Links.{is_idle, with_one_taken}
use Rattle.tp_model.specs.Dialogues.{begun_by, named_holder, fresh_dialogue}
use Rattle.tp_model.specs.Arcs.{find_arc, link_with, put_arc, without_arc, with_dialogue, with_link, with_dialogues, carried_on, carried, shut_with, performed_one, performed}
use Rattle.tp_model.specs.Transactions.{Transaction, Turn, aaid_of, transacted}
use Rattle.tp_model.specs.Recovery.{settled}
use Rattle.tp_model.specs.Node.{Move, next_mark, superior_arc, seen, Passage, Stays, Enters, Falls, Falls_at_once, Commits, Rolls_back, Leaves, passage, is_leaving, entered, played, completed_arcs, left_arcs, perform_commit, committed_arcs, grants, may_begin_on, begin_on, turned, around_grants}
use Rattle.tp_model.specs.Requests.{refused_request}
use Rattle.tp_model.specs.Arrivals.{refused_arrival}
use Rattle.tp_model.specs.Events.{refusal, verdict, after_crash, started}
use Rattle.tp_model.specs.History.{digest}
use Rattle.tp_model.specs.Legal.{IsGrown}
use Rattle.tp_steps.specs.Moves.{Moves, prelude, called, accepted_by, accepted_on, linked, begun_in, counted_in}
use Rattle.tp_histories.specs.Known.{with_an_arc}
use Rattle.tp_steps.specs.Ends.{is_there, are_separate}
use Rattle.tp_steps.proofs.every.EveryEvent.{every_move}
use Rattle.tp_histories.proofs.trees.Late.{late_law}
use Rattle.tp_steps.proofs.every.BeginCases.{begun_over, begin_cases}

-- ---- what stands in a list of arcs

-- whom they lead to, in order
abbrev pub numbers : List Arc → List ℕ
numbers [] = []
numbers (a ∷ arcs) = a.peer.node ∷ numbers arcs

-- where the second lead to fewer
pub those_fewer : (xs ys : List Arc) (ps : List ℕ) → ((p : ℕ) → is_there p xs ≡ false → is_there p ys ≡ false) → with_an_arc ys (with_an_arc xs ps) ≡ with_an_arc ys ps
those_fewer xs ys [] k = refl
those_fewer xs ys (p ∷ ps) k = go (is_there p xs) refl (is_there p ys) refl (those_fewer xs ys ps k)
  where
    go : (b : Bool) → is_there p xs ≡ b → (c : Bool) → is_there p ys ≡ c → with_an_arc ys (with_an_arc xs ps) ≡ with_an_arc ys ps → with_an_arc ys (if b then p ∷ with_an_arc xs ps else with_an_arc xs ps) ≡ (if c then p ∷ with_an_arc ys ps else with_an_arc ys ps)
    go true i true j rest = rw (j, rest) refl
    go true i false j rest = rw (j, rest) refl
    go false i true j rest = absurd (let off : is_there p ys ≡ false = k p i in cc (off, j))
    go false i false j rest = rest

-- one that is not among them makes no difference
those_aside : (b : Arc) (xs ys : List Arc) → is_there b.peer.node xs ≡ false → with_an_arc (b ∷ ys) (numbers xs) ≡ with_an_arc ys (numbers xs)
those_aside b [] ys h = refl
those_aside b (a ∷ xs) ys h =
    let other : (a.peer.node == b.peer.node) ≡ false = grind (arith, h) in
    let mine : (b.peer.node == a.peer.node) ≡ false = grind (arith, nat_tests, other) in
    let rest : with_an_arc (b ∷ ys) (numbers xs) ≡ with_an_arc ys (numbers xs) = those_aside b xs ys (grind (arith, h)) in
    rw (mine, rest) refl

those_numbers : (xs : List Arc) → are_separate xs ≡ true → with_an_arc xs (numbers xs) ≡ numbers xs
those_numbers [] h = refl
those_numbers (a ∷ xs) h =
    let self : (a.peer.node == a.peer.node) ≡ true = grind (arith, nat_tests) in
    let rest : with_an_arc xs (numbers xs) ≡ numbers xs = those_numbers xs (grind (arith, h)) in
    rw (self, those_aside a xs xs (grind (arith, h)), rest) refl

-- nobody is new, what was separate stays so, and so does the order
pub record Thins (xs ys : List Arc) : Type 0 where
  pub none : (p : ℕ) → is_there p xs ≡ false → is_there p ys ≡ false
  pub apart : are_separate xs ≡ true → are_separate ys ≡ true
  pub order : are_separate xs ≡ true → numbers ys ≡ with_an_arc ys (numbers xs)

pub thins_self : (xs : List Arc) → Thins xs xs
thins_self xs = record { none = λ p h. h; apart = λ h. h; order = λ h. sym (those_numbers xs h) }

pub thins_then : (xs ys zs : List Arc) → Thins xs ys → Thins ys zs → Thins xs zs
thins_then xs ys zs one two = record {
  none = λ p h. two.none p (one.none p h);
  apart = λ h. two.apart (one.apart h);
  order = λ h. two.order (one.apart h) ∙ ap (with_an_arc zs) (one.order h) ∙ those_fewer ys zs (numbers xs) two.none;
}

thins_cons : (a b : Arc) (xs ys : List Arc) → b.peer.node ≡ a.peer.node → (is_idle a.link ≡ false → is_idle b.link ≡ false) → Thins xs ys → Thins (a ∷ xs) (b ∷ ys)
thins_cons a b xs ys same busy rest = record { none = none; apart = apart; order = order }
  where
    none : (p : ℕ) → is_there p (a ∷ xs) ≡ false → is_there p (b ∷ ys) ≡ false
    none p h =
        let less : is_there p ys ≡ false = rest.none p (grind (arith, h)) in
        let other : (a.peer.node == p) ≡ false = grind (arith, h) in
        let mine : (b.peer.node == p) ≡ false = ap (λ (n : ℕ). n == p) same ∙ other in
        grind (arith, less, mine)

    apart : are_separate (a ∷ xs) ≡ true → are_separate (b ∷ ys) ≡ true
    apart h =
        let live : is_idle b.link ≡ false = busy (grind (arith, h)) in
        let gone : is_there a.peer.node ys ≡ false = rest.none a.peer.node (grind (arith, h)) in
        let mine : is_there b.peer.node ys ≡ false = ap (λ (n : ℕ). is_there n ys) same ∙ gone in
        let all : are_separate ys ≡ true = rest.apart (grind (arith, h)) in
        grind (arith, live, mine, all)

    order : are_separate (a ∷ xs) ≡ true → numbers (b ∷ ys) ≡ with_an_arc (b ∷ ys) (numbers (a ∷ xs))
    order h =
        let self : (b.peer.node == a.peer.node) ≡ true = ap (λ (n : ℕ). n == a.peer.node) same ∙ grind (arith, nat_tests) in
        let gone : is_there b.peer.node xs ≡ false = ap (λ (n : ℕ). is_there n xs) same ∙ grind (arith, h) in
        rw (self, those_aside b xs ys gone, sym (rest.order (grind (arith, h)))) (ap (λ (n : ℕ). n ∷ numbers ys) same)

thins_skip : (a : Arc) (xs ys : List Arc) → Thins xs ys → Thins (a ∷ xs) ys
thins_skip a xs ys rest = record { none = λ p h. rest.none p (grind (arith, h)); apart = λ h. rest.apart (grind (arith, h)); order = order }
  where
    order : are_separate (a ∷ xs) ≡ true → numbers ys ≡ with_an_arc ys (numbers (a ∷ xs))
    order h = let gone : is_there a.peer.node ys ≡ false = rest.none a.peer.node (grind (arith, h)) in rw gone (rest.order (grind (arith, h)))

-- ---- changes of arcs

pub thins_dialogue : (arcs : List Arc) (p : ℕ) (f : Dialogue → Dialogue) → Thins arcs (with_dialogue arcs p f)
thins_dialogue [] p f = thins_self []
thins_dialogue (a ∷ arcs) p f = go (a.peer.node == p) (thins_dialogue arcs p f)
  where
    go : (b : Bool) → Thins arcs (with_dialogue arcs p f) → Thins (a ∷ arcs) (if b then record a { dialogue = f a.dialogue } ∷ arcs else a ∷ with_dialogue arcs p f)
    go true rest = thins_cons a (record a { dialogue = f a.dialogue }) arcs arcs refl (λ h. h) (thins_self arcs)
    go false rest = thins_cons a a arcs (with_dialogue arcs p f) refl (λ h. h) rest

pub thins_dialogues : (arcs : List Arc) (t : Arc → Bool) (f : Arc → Dialogue) → Thins arcs (with_dialogues arcs t f)
thins_dialogues [] t f = thins_self []
thins_dialogues (a ∷ arcs) t f = go (t a) (thins_dialogues arcs t f)
  where
    go : (b : Bool) → Thins arcs (with_dialogues arcs t f) → Thins (a ∷ arcs) ((if b then record a { dialogue = f a } else a) ∷ with_dialogues arcs t f)
    go true rest = thins_cons a (record a { dialogue = f a }) arcs (with_dialogues arcs t f) refl (λ h. h) rest
    go false rest = thins_cons a a arcs (with_dialogues arcs t f) refl (λ h. h) rest

taken_busy : (l : Link) → is_idle l ≡ false → is_idle (with_one_taken l) ≡ false
taken_busy Idle h = h
taken_busy (Opening x) h = h
taken_busy (Offered x) h = h
taken_busy (Live x y s t) h = h

pub thins_taken : (arcs : List Arc) (p : ℕ) → Thins arcs (with_link arcs p with_one_taken)
thins_taken [] p = thins_self []
thins_taken (a ∷ arcs) p = go (a.peer.node == p) (thins_taken arcs p)
  where
    go : (b : Bool) → Thins arcs (with_link arcs p with_one_taken) → Thins (a ∷ arcs) (if b then record a { link = with_one_taken a.link } ∷ arcs else a ∷ with_link arcs p with_one_taken)
    go true rest = thins_cons a (record a { link = with_one_taken a.link }) arcs arcs refl (taken_busy a.link) (thins_self arcs)
    go false rest = thins_cons a a arcs (with_link arcs p with_one_taken) refl (λ h. h) rest

pub thins_put : (arcs : List Arc) (b : Arc) → is_idle b.link ≡ false → Thins arcs (put_arc arcs b)
thins_put [] b busy = thins_self []
thins_put (a ∷ arcs) b busy = go (a.peer.node == b.peer.node) refl (thins_put arcs b busy)
  where
    go : (c : Bool) → (a.peer.node == b.peer.node) ≡ c → Thins arcs (put_arc arcs b) → Thins (a ∷ arcs) (if c then b ∷ arcs else a ∷ put_arc arcs b)
    go true i rest = let same : b.peer.node ≡ a.peer.node = grind (arith, nat_tests, i) in thins_cons a b arcs arcs same (λ h. busy) (thins_self arcs)
    go false i rest = thins_cons a a arcs (put_arc arcs b) refl (λ h. h) rest

pub thins_without : (arcs : List Arc) (p : ℕ) → Thins arcs (without_arc arcs p)
thins_without [] p = thins_self []
thins_without (a ∷ arcs) p = go (a.peer.node == p) (thins_without arcs p)
  where
    go : (b : Bool) → Thins arcs (without_arc arcs p) → Thins (a ∷ arcs) (if b then without_arc arcs p else a ∷ without_arc arcs p)
    go true rest = thins_skip a arcs (without_arc arcs p) rest
    go false rest = thins_cons a a arcs (without_arc arcs p) refl (λ h. h) rest

-- ---- outputs

peer_carried : (a : Arc) (r : DialogueRecord) → (carried_on a r).0.peer.node ≡ a.peer.node
peer_carried a r = grind arith

busy_carried : (a : Arc) (r : DialogueRecord) → is_idle a.link ≡ false → is_idle (carried_on a r).0.link ≡ false
busy_carried a r h = grind (arith, h)

thins_carried : (arcs : List Arc) (p : ℕ) (r : DialogueRecord) → Thins arcs (carried arcs p r).0
thins_carried [] p r = thins_self []
thins_carried (a ∷ arcs) p r = go (a.peer.node == p) (thins_carried arcs p r)
  where
    go : (b : Bool) → Thins arcs (carried arcs p r).0
        → Thins (a ∷ arcs) (if◌then◌else◌ {A = List Arc × List Out} b (let s = carried_on a r in (s.0 ∷ arcs, s.1)) (let s = carried arcs p r in (a ∷ s.0, s.1))).0
    go true rest = thins_cons a (carried_on a r).0 arcs arcs (peer_carried a r) (busy_carried a r) (thins_self arcs)
    go false rest = thins_cons a a arcs (carried arcs p r).0 refl (λ h. h) rest

thins_shut : (arcs : List Arc) (p : ℕ) → Thins arcs (shut_with arcs p).0
thins_shut arcs p = go (find_arc arcs p) refl
  where
    go : (o : Option Arc) → find_arc arcs p ≡ o → Thins arcs (shut_with arcs p).0
    go None i = rw (i, shut_with) (thins_self arcs)
    go (Some a) i = rw (i, shut_with) (thins_without arcs p)

thins_one : (arcs : List Arc) (o : TxOut) → Thins arcs (performed_one arcs o).0
thins_one arcs (TxOut.Carry p r) = thins_carried arcs p r
thins_one arcs (TxOut.Shut p) = thins_shut arcs p
thins_one arcs (TxOut.Close p) = thins_without arcs p
thins_one arcs _ = thins_self arcs

pub thins_performed : (arcs : List Arc) (outs : List TxOut) → Thins arcs (performed arcs outs).0
thins_performed arcs [] = thins_self arcs
thins_performed arcs (o ∷ outs) =
    let next : List Arc = (performed_one arcs o).0 in
    thins_then arcs next (performed next outs).0 (thins_one arcs o) (thins_performed next outs)

pub thins_entered : (t : Transaction) (w : Passage) (arcs : List Arc) → Thins arcs (entered t w arcs)
unfolding entered
thins_entered t Stays arcs = thins_self arcs
thins_entered t Enters arcs = thins_dialogues arcs _ _
thins_entered t Falls arcs = thins_dialogues arcs _ _
thins_entered t Falls_at_once arcs = thins_dialogues arcs _ _
thins_entered t Commits arcs = thins_self arcs
thins_entered t Rolls_back arcs = thins_self arcs
thins_entered t Leaves arcs = thins_self arcs

thins_commit : (d : Digest) (t : Transaction) (s : List TxOut × List TxOut) (arcs : List Arc) → Thins arcs (perform_commit d t s arcs).0
thins_commit d t s arcs =
    let one : List Arc = (performed arcs s.0).0 in
    let mid : List Arc = committed_arcs d t one in
    let two : List Arc = (performed mid (grants t one)).0 in
    let first : Thins arcs one = thins_performed arcs s.0 in
    let second : Thins one mid = thins_dialogues one _ _ in
    let third : Thins mid two = thins_performed mid (grants t one) in
    thins_then arcs one (performed two s.1).0 first (thins_then one mid (performed two s.1).0 second (thins_then mid two (performed two s.1).0 third (thins_performed two s.1)))

thins_completed : (d : Digest) (t : Transaction) (o : Outcome) (arcs : List Arc) → Thins arcs (completed_arcs d t o arcs)
thins_completed d t o arcs = thins_dialogues arcs _ _

thins_left : (t : Transaction) (arcs : List Arc) → Thins arcs (left_arcs t arcs)
thins_left t arcs = thins_then arcs _ (left_arcs t arcs) (thins_dialogues arcs _ _) (thins_dialogues _ _ _)

thins_played : (d : Digest) (t : Transaction) (w : Passage) (asks : Turn) (arcs : List Arc) → Thins arcs (played d t w asks arcs).0
unfolding played
thins_played d t Falls_at_once asks arcs = let s = performed arcs asks.outs in thins_then arcs s.0 (completed_arcs d t Outcome.Rollback s.0) (thins_performed arcs asks.outs) (thins_completed d t Outcome.Rollback s.0)
thins_played d t Commits asks arcs = thins_commit d t (around_grants asks) arcs
thins_played d t Rolls_back asks arcs = let s = performed arcs asks.outs in thins_then arcs s.0 (completed_arcs d t Outcome.Rollback s.0) (thins_performed arcs asks.outs) (thins_completed d t Outcome.Rollback s.0)
thins_played d t Leaves asks arcs = let s = performed arcs asks.outs in thins_then arcs s.0 (left_arcs t s.0) (thins_performed arcs asks.outs) (thins_left t s.0)
thins_played d t _ asks arcs = thins_performed arcs asks.outs

-- ---- the steps

pub thins_turned : (who : Who) (f : TxEvent) (d : Digest) (c : Current) → Thins d.arcs (turned who f d c).next.arcs
thins_turned who f d c =
    let t : Transaction = seen who d.arcs c in
    let a : Turn = transacted f t in
    let w : Passage = passage (is_leaving f) t.phase a.next.phase in
    let arcs : List Arc = entered t w d.arcs in
    thins_then d.arcs arcs (played d t w a arcs).0 (thins_entered t w d.arcs) (thins_played d t w a arcs)

pub thins_begins : (who : Who) (q : ℕ) (d : Digest) → Thins d.arcs (begin_on who q d).next.arcs
thins_begins who q d = begin_cases (λ (m : Move). Thins d.arcs m.next.arcs) who q d (thins_self d.arcs) on
  where
    on : (c : Current) (a : Arc) → d.current ≡ Some c → find_arc d.arcs q ≡ Some a → may_begin_on who d a ≡ true → Thins d.arcs (begun_over who q d c a).next.arcs
    on c a now found may =
        let arcs : List Arc = with_dialogue d.arcs q (begun_by (named_holder a.dialogue) Side.Superior) in
        let outs : List TxOut = TxOut.Carry q (DialogueRecord.Begin (aaid_of c.key) (record { superior = who.site; mark = next_mark who d }) (named_holder a.dialogue)) ∷ [] in
        thins_then d.arcs arcs (performed arcs outs).0 (thins_dialogue d.arcs q (begun_by (named_holder a.dialogue) Side.Superior)) (thins_performed arcs outs)

pub thins_moves : (who : Who) (e : Event) (s : Digest) → Moves who e s (λ d m. Thins d.arcs m.next.arcs)
thins_moves who e s = record {
  still = λ d. thins_self d.arcs;
  chain = λ d a f one two none. thins_then d.arcs a.next.arcs (f a.next).next.arcs one two;
  speaks = λ d outs h own said. thins_performed d.arcs outs;
  changes_dialogue = λ d q f m by one. thins_then d.arcs (with_dialogue d.arcs q f) m.next.arcs (thins_dialogue d.arcs q f) one;
  drops_arc = λ d q m at one. thins_then d.arcs (without_arc d.arcs q) m.next.arcs (thins_without d.arcs q) one;
  notes_kept = λ d ks m held one. one;
  keeps = λ d k f held. thins_performed d.arcs (settled k f).outs;
  turns = λ d c f now at asked put gone. thins_turned who f d c;
  begins = λ d q free. thins_begins who q d;
  roots = λ d m nil may one. one;
}

-- ---- the prelude

there_append : (p : ℕ) (arcs : List Arc) (a : Arc) → is_there p (arcs ++ a ∷ []) ≡ (is_there p arcs || (a.peer.node == p))
there_append p [] a = grind arith
there_append p (b ∷ arcs) a = grind (arith, there_append p arcs a)

separate_append : (arcs : List Arc) (a : Arc) → is_idle a.link ≡ false → find_arc arcs a.peer.node ≡ None → are_separate arcs ≡ true → are_separate (arcs ++ a ∷ []) ≡ true
separate_append [] a busy none h = grind (arith, busy)
separate_append (b ∷ arcs) a busy none h =
    let other : (b.peer.node == a.peer.node) ≡ false = grind (arith, none) in
    let swapped : (a.peer.node == b.peer.node) ≡ false = grind (arith, nat_tests, other) in
    let later : find_arc arcs a.peer.node ≡ None = grind (arith, none, other) in
    let rest : are_separate (arcs ++ a ∷ []) ≡ true = separate_append arcs a busy later (grind (arith, h)) in
    let gone : is_there b.peer.node arcs ≡ false = grind (arith, h) in
    let mine : is_there b.peer.node (arcs ++ a ∷ []) ≡ false = there_append b.peer.node arcs a ∙ rw (gone, swapped) refl in
    grind (arith, h, rest, mine)

-- who is there is linked
pub busy_there : (p : ℕ) (arcs : List Arc) → are_separate arcs ≡ true → is_there p arcs ≡ true → is_idle (link_with arcs p) ≡ false
busy_there p [] h i = absurd cc
busy_there p (a ∷ arcs) h i = go (a.peer.node == p) refl (busy_there p arcs)
  where
    go : (b : Bool) → (a.peer.node == p) ≡ b → (are_separate arcs ≡ true → is_there p arcs ≡ true → is_idle (link_with arcs p) ≡ false) → is_idle (link_with (a ∷ arcs) p) ≡ false
    go true j rest = grind (arith, h, j)
    go false j rest = let k : is_idle (link_with arcs p) ≡ false = rest (grind (arith, h)) (grind (arith, i, j)) in grind (arith, j, k)

nobody_there : (p : ℕ) (arcs : List Arc) → are_separate arcs ≡ true → is_idle (link_with arcs p) ≡ true → is_there p arcs ≡ false
nobody_there p arcs h idle = go (is_there p arcs) refl
  where
    go : (b : Bool) → is_there p arcs ≡ b → b ≡ false
    go false i = refl
    go true i = absurd (cc (busy_there p arcs h i, idle))

separate_call : (who : Who) (d : Digest) (a : Addr) (u : ℕ) → refusal who d (Event.Do (Request.BeginDialogue a u)) ≡ None → are_separate d.arcs ≡ true → are_separate (called who a u d).arcs ≡ true
unfolding refusal verdict refused_request
separate_call who d a u ok h =
    let none : find_arc d.arcs a.node ≡ None = grind (arith, ok) in
    separate_append d.arcs (record { peer = a; link = Opening (next_mark who d); dialogue = fresh_dialogue u Side.Superior }) refl none h

separate_accepted : (who : Who) (d : Digest) (u : ℕ) (o : Option Arc) → are_separate d.arcs ≡ true → are_separate (accepted_by who u o d).arcs ≡ true
separate_accepted who d u None h = h
separate_accepted who d u (Some a) h = on a.link
  where
    on : (l : Link) → are_separate (accepted_on who u a l d).arcs ≡ true
    on Idle = h
    on (Opening x) = h
    on (Offered x) = (thins_put d.arcs (record a { link = Live x (next_mark who d) 0 0; dialogue = fresh_dialogue u Side.Subordinate }) refl).apart h
    on (Live x y s t) = h

separate_open : (who : Who) (d : Digest) (from : Addr) (x : Mark) (u : ℕ) → refusal who d (Event.Arrive from (PeerRecord.OpenAssoc x u)) ≡ None → are_separate d.arcs ≡ true
    → are_separate (record { peer = from; link = Offered x; dialogue = fresh_dialogue u Side.Subordinate } ∷ d.arcs) ≡ true
unfolding refusal verdict refused_arrival
separate_open who d from x u ok h =
    let idle : is_idle (link_with d.arcs from.node) ≡ true = grind (arith, ok) in
    let none : is_there from.node d.arcs ≡ false = nobody_there from.node d.arcs h idle in
    grind (arith, h, none)

separate_linked : (d : Digest) (o : Option Arc) (x y : Mark) (u : ℕ) → are_separate d.arcs ≡ true → are_separate (linked o x y u d).arcs ≡ true
separate_linked d None x y u h = h
separate_linked d (Some a) x y u h = (thins_put d.arcs (record a { link = Live x y 0 0; dialogue = fresh_dialogue u Side.Superior }) refl).apart h

separate_begun : (o : Option Arc) (t : Aaid) (b : BranchId) (d : Digest) → are_separate d.arcs ≡ true → are_separate (begun_in o t b d).arcs ≡ true
separate_begun None t b d h = h
separate_begun (Some a) t b d h = h

pub separate_prelude : (who : Who) (d : Digest) (e : Event) → refusal who d e ≡ None → are_separate d.arcs ≡ true → are_separate (prelude who d e).arcs ≡ true
unfolding after_crash
separate_prelude who d (Event.Do (Request.BeginDialogue a u)) ok h = separate_call who d a u ok h
separate_prelude who d (Event.Do (Request.Accept u)) ok h = separate_accepted who d u (superior_arc d) h
separate_prelude who d (Event.Arrive from (PeerRecord.OpenAssoc x u)) ok h = separate_open who d from x u ok h
separate_prelude who d (Event.Arrive from (PeerRecord.AcceptAssoc x y u)) ok h = separate_linked d (find_arc d.arcs from.node) x y u h
separate_prelude who d (Event.Arrive from (PeerRecord.OnAssoc x y q (DialogueRecord.Begin t b k))) ok h = separate_begun (find_arc d.arcs from.node) t b (counted_in d from) ((thins_taken d.arcs from.node).apart h)
separate_prelude who d (Event.Arrive from (PeerRecord.OnAssoc x y q r)) ok h = (thins_taken d.arcs from.node).apart h
separate_prelude who d Event.Crash ok h = refl
separate_prelude who d _ ok h = h

-- ---- every legal history

pub separate_law : (o : Origin) (up : Option Addr) (h : List Entry) → IsGrown o up h → are_separate (digest o h).arcs ≡ true
unfolding started
separate_law o up [] legal = refl
separate_law o up (e ∷ h) legal =
    let d : Digest = digest o h in
    let pre : are_separate (prelude o.who d e.event).arcs ≡ true = separate_prelude o.who d e.event legal.0 (separate_law o up h legal.3) in
    (every_move o.who d e.event (λ d m. Thins d.arcs m.next.arcs) (thins_moves o.who e.event (prelude o.who d e.event)) (late_law o up h legal.3) legal.0).apart pre
