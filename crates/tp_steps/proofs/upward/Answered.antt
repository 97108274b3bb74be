-- Every event of a node answers its superior only after a closed round: an instance of the steps of a node.
use Rattle.std.proofs.Common.{◌≡◌, ◌≤◌, ◌+◌, ℕ, Bool, true, false, refl, ap, sym, subst, ◌∙◌, arith, Option, Some, None, List, [], ◌∷◌, ◌++◌}
use Rattle.tp_records.specs.declared.dialogue.DialogueRecord.{DialogueRecord}
use Rattle.tp_model.specs.declared.arc.Phase.{Phase}
use Rattle.tp_model.specs.declared.arc.Side.{Side}
use Rattle.tp_model.specs.declared.transaction.TxEvent.{TxEvent}
use Rattle.tp_model.specs.declared.transaction.TxOut.{TxOut}
use Rattle.tp_model.specs.declared.recovery.Kept.{Kept}
use Rattle.tp_model.specs.declared.recovery.KeptEvent.{KeptEvent}
use Rattle.tp_names.specs.declared.identifiers.Aaid.{Aaid}
use Rattle.tp_model.specs.Parts.{Who, Event, Arc, Idle, Key, Root, Current, Digest}
use Rattle.tp_model.specs.Links.{is_live}
use Rattle.tp_model.specs.Dialogues.{is_nil, begun_by, named_holder}
use Rattle.tp_model.specs.Arcs.{find_arc, link_with, with_dialogue}
use Rattle.tp_model.specs.Transactions.{Transaction, Turn, aaid_of, is_under_at, transacted}
use Rattle.tp_model.specs.Recovery.{settled}
use Rattle.tp_model.specs.Node.{Move, move, followed, perform, next_mark, with_mark_drawn, seen, passage, is_leaving, turned, fresh_current, with_begun, may_begin_on, begin_on, keep, remaining}
use Rattle.tp_model.specs.Events.{refusal, action}
use Rattle.tp_model.specs.Questions.{said_to}
use Rattle.tp_steps.specs.Turns.{loses, hears_close}
use Rattle.tp_steps.specs.Moves.{IsAsked, IsPut, IsLate, prelude, Moves, are_spoken}
use Rattle.tp_steps.specs.Facts.{only_words, spoken, stays, none_of, words_to, IsHeard, Reads}
use Rattle.tp_steps.specs.Control.{rounds, flag_from, closes_up, voted_behind}
use Rattle.tp_steps.specs.Answering.{MayAnswer, Answers, IsAnswering, AnswersAt, IsAnswered}
use Rattle.tp_steps.proofs.links.Links.{said_append, link_dialogue}
use Rattle.tp_steps.proofs.links.Apart.{apart_spoken, apart_turn}
use Rattle.tp_steps.proofs.every.EveryEvent.{every_move}
use Rattle.tp_steps.proofs.lemmas.Words.{dead_stays}
use Rattle.tp_steps.proofs.links.Wrapped.{Agrees, agrees_performed, agrees_played, words_append}
use Rattle.tp_steps.proofs.words.Hushed.{spoken_none, settled_spoken}
use Rattle.tp_steps.proofs.words.HeardTurned.{seen_sees}
use Rattle.tp_steps.proofs.words.Heard.{heard_moves, dropped_live}
use Rattle.tp_steps.proofs.lemmas.UpwardWords.{is_upward}
use Rattle.tp_steps.proofs.upward.Answering.{rounds_append, flag_append, none_rounds, answering_turn, same_rounds}
use Rattle.tp_steps.proofs.every.BeginCases.{begun_over, begin_cases, begin_word, begin_arcs}
use Rattle.tp_steps.proofs.links.Whole.{whole_turn}

-- ---- moves that answer nothing

answered_none : (p : ℕ) (cl : Bool) (d : Digest) (m : Move) → none_of is_upward (words_to p m.outs) ≡ true → ((c b : ℕ) (v f : Bool) → AnswersAt cl c b v f d.current p → AnswersAt cl c b v f m.next.current p) → IsAnswered p cl d m
answered_none p cl d m none keeps = record { answers = λ c b v f le old live n w i j. go c b v f le old n w i j }
  where
    go : (c b : ℕ) (v f : Bool) → c ≤ b → AnswersAt cl c b v f d.current p → (n : ℕ) (w : Bool) → n ≡ c + rounds closes_up voted_behind v (words_to p m.outs) → w ≡ flag_from voted_behind v (words_to p m.outs) → (n ≤ b) × AnswersAt cl n b w f m.next.current p
    go c b v f le old n w i j =
        let r = none_rounds v (words_to p m.outs) none in
        let same : c ≡ n = same_rounds c (rounds closes_up voted_behind v (words_to p m.outs)) n i r.0 in
        let flag : v ≡ w = sym (j ∙ r.1) in
        (subst (λ (k : ℕ). k ≤ b) same le, subst (λ (k : ℕ). AnswersAt cl k b w f m.next.current p) same (subst (λ (u : Bool). AnswersAt cl c b u f m.next.current p) flag (keeps c b v f old)))

silent : (ws : List DialogueRecord) → ws ≡ [] → none_of is_upward ws ≡ true
silent ws h = rw h refl

answered_quiet : (p : ℕ) (cl : Bool) (d : Digest) (m : Move) → words_to p m.outs ≡ [] → m.next.current ≡ d.current → IsAnswered p cl d m
answered_quiet p cl d m none same = answered_none p cl d m (silent (words_to p m.outs) none) (λ c b v f old. subst (λ (o : Option Current). AnswersAt cl c b v f o p) (sym same) old)

answered_perform : (p : ℕ) (cl : Bool) (d : Digest) (outs : List TxOut) → are_spoken outs ≡ true → IsAnswered p cl d (perform outs d)
answered_perform p cl d outs h =
    let a = agrees_performed d.arcs outs p (apart_spoken outs h) in
    answered_quiet p cl d (perform outs d) (a.words ∙ spoken_none (is_live (link_with d.arcs p)) p outs h) refl

answered_keep : (p : ℕ) (cl : Bool) (d : Digest) (k : Kept) (f : KeptEvent) → IsAnswered p cl d (keep (settled k f) d)
answered_keep p cl d k f =
    let outs : List TxOut = (settled k f).outs in
    let h = settled_spoken k f in
    let a = agrees_performed d.arcs outs p (apart_spoken outs h) in
    answered_quiet p cl d (keep (settled k f) d) (a.words ∙ spoken_none (is_live (link_with d.arcs p)) p outs h) refl

-- ---- an event of the transaction

pub may_same : (cl : Bool) (c b : ℕ) (v f a a' : Bool) (x x' : Phase) (t t' r r' : Bool) → a' ≡ a → x' ≡ x → t' ≡ t → r' ≡ r → MayAnswer cl c b v f a x t r → MayAnswer cl c b v f a' x' t' r'
may_same cl c b v f a a' x x' t t' r r' e g h i m = rw (e, g, h, i) m

record Left (t : Transaction) (x : Current) : Type 0 where
  key : x.key ≡ t.key
  phase : x.phase ≡ t.phase
  asked : x.asked ≡ t.asked
  told : x.told_prepare ≡ t.told_prepare
  rolled : x.superior_rolled ≡ t.superior_rolled

left_of : (t : Transaction) (x : Current) → remaining t ≡ Some x → Left t x
left_of t x h = record { key = grind (arith, h); phase = grind (arith, h); asked = grind (arith, h); told = grind (arith, h); rolled = grind (arith, h) }

answers_left : (cl : Bool) (c b : ℕ) (v f : Bool) (t : Transaction) (p : ℕ) → Answers cl c b v f t p → AnswersAt cl c b v f (remaining t) p
answers_left cl c b v f t p old x is n u =
    let l = left_of t x is in
    let may = old (ap is_nil (sym l.phase) ∙ n) (ap (λ (k : Key). is_under_at k p) (sym l.key) ∙ u) in
    may_same cl c b v f t.asked x.asked t.phase x.phase t.told_prepare x.told_prepare t.superior_rolled x.superior_rolled l.asked l.phase l.told l.rolled may

-- what closes a round is known of the event
abbrev pub Hears : Who → Event → ℕ → Bool → Digest → Type 0
Hears who e p cl s = (x : Current) (f : TxEvent) (arcs : List Arc) → s.current ≡ Some x → IsAsked e x f → is_under_at x.key p ≡ true → hears_close f (seen who arcs x) ≡ true → cl ≡ true

answered_turned : (who : Who) (e : Event) (f : TxEvent) (d s : Digest) (c : Current) (p : ℕ) (cl : Bool) → Hears who e p cl s → d.current ≡ Some c → s.current ≡ Some c → IsAsked e c f
    → IsPut f (seen who d.arcs c) → ((n : ℕ) → loses f n ≡ true → link_with d.arcs n ≡ Idle) → IsAnswered p cl d (turned who f d c)
answered_turned who e f d s c p cl hears now at asked put gone = record { answers = λ k b v g le old live n w i j. go k b v g le old live n w i j (is_live (link_with d.arcs p)) refl }
  where
    t : Transaction
    t = seen who d.arcs c

    a : Turn
    a = transacted f t

    m : Move
    m = turned who f d c

    agrees : Agrees p (is_live (link_with d.arcs p)) a.outs m.outs (is_live (link_with m.next.arcs p))
    agrees = agrees_played d t (passage (is_leaving f) t.phase a.next.phase) a (whole_turn f t) d.arcs p (apart_turn f t put)

    kept : (b : Bool) → loses f p ≡ b → is_live (link_with d.arcs p) ≡ true → loses f p ≡ false
    kept false i l = i
    kept true i l = absurd (cc (l, ap is_live (gone p i)))

    turn_is : IsAnswering f t p t a
    turn_is = answering_turn f t p put

    go : (k b : ℕ) (v g : Bool) → k ≤ b → AnswersAt cl k b v g d.current p → is_live (link_with m.next.arcs p) ≡ true → (n : ℕ) (w : Bool) → n ≡ k + rounds closes_up voted_behind v (words_to p m.outs) → w ≡ flag_from voted_behind v (words_to p m.outs)
        → (x : Bool) → is_live (link_with d.arcs p) ≡ x → (n ≤ b) × AnswersAt cl n b w g m.next.current p
    go k b v g le old live n w i j false l = let off : is_live (link_with m.next.arcs p) ≡ false = agrees.live ∙ ap (λ (u : Bool). stays u p a.outs) l ∙ dead_stays p a.outs in absurd (cc (live, off))
    go k b v g le old live n w i j true l =
        let words : words_to p m.outs ≡ spoken true p a.outs = agrees.words ∙ ap (λ (u : Bool). spoken u p a.outs) l in
        let live_is : is_live (link_with m.next.arcs p) ≡ stays true p a.outs = agrees.live ∙ ap (λ (u : Bool). stays u p a.outs) l in
        let was : Answers cl k b v g t p = λ x u. old c now x u in
        let r = turn_is.answers (seen_sees who d.arcs c p l) (kept (loses f p) refl l) cl (λ u h. hears c f d.arcs at asked u h) k b v g le was (sym live_is ∙ live) n w (i ∙ ap (λ (ws : List DialogueRecord). k + rounds closes_up voted_behind v ws) words) (j ∙ ap (flag_from voted_behind v) words) in
        (r.0, answers_left cl n b w g a.next p r.1)

-- ---- a transaction begins on an arc

answered_begins : (who : Who) (p q : ℕ) (cl : Bool) (d : Digest) → IsAnswered p cl d (begin_on who q d)
answered_begins who p q cl d = begin_cases (IsAnswered p cl d) who q d still on
  where
    still : IsAnswered p cl d (move [] d)
    still = answered_quiet p cl d (move [] d) refl refl

    on : (c : Current) (a : Arc) → d.current ≡ Some c → find_arc d.arcs q ≡ Some a → may_begin_on who d a ≡ true → IsAnswered p cl d (begun_over who q d c a)
    on c a now found may = answered_none p cl d m quiet keeps
      where
        m : Move
        m = begun_over who q d c a

        agrees : Agrees p (is_live (link_with (begin_arcs q d a) p)) (TxOut.Carry q (begin_word who d c a) ∷ []) m.outs (is_live (link_with m.next.arcs p))
        agrees = agrees_performed (begin_arcs q d a) (TxOut.Carry q (begin_word who d c a) ∷ []) p refl

        one : (b : Bool) → none_of is_upward (spoken b p (TxOut.Carry q (begin_word who d c a) ∷ [])) ≡ true
        one b = grind arith

        quiet : none_of is_upward (words_to p m.outs) ≡ true
        quiet = rw (agrees.words) (one (is_live (link_with (begin_arcs q d a) p)))

        begun : Transaction
        begun = (transacted (TxEvent.Begun (record { addr = a.peer; branch = record { superior = who.site; mark = next_mark who d } } ∷ [])) (seen who d.arcs c)).next

        keeps : (k b : ℕ) (v f : Bool) → AnswersAt cl k b v f d.current p → AnswersAt cl k b v f m.next.current p
        keeps k b v f old = answers_left cl k b v f begun p (λ n u. old c now n u)

-- ---- chains

answered_then : (p : ℕ) (sup fall : Bool) (shut : ℕ) (cl : Bool) (s d : Digest) (a : Move) (f : Digest → Move) → IsHeard p sup fall shut s a.next (f a.next) → IsAnswered p cl d a → IsAnswered p cl a.next (f a.next) → IsAnswered p cl d (followed a f)
answered_then p sup fall shut cl s d a f heard one two = record { answers = λ c k v g le old live n w i j. go c k v g le old live n w i j }
  where
    b : Move
    b = f a.next

    xs : List DialogueRecord
    xs = words_to p a.outs

    ys : List DialogueRecord
    ys = words_to p b.outs

    words : words_to p (followed a f).outs ≡ xs ++ ys
    words = ap only_words (said_append p a.outs b.outs) ∙ words_append (said_to p a.outs) (said_to p b.outs)

    go : (c k : ℕ) (v g : Bool) → c ≤ k → AnswersAt cl c k v g d.current p → is_live (link_with b.next.arcs p) ≡ true → (n : ℕ) (w : Bool) → n ≡ c + rounds closes_up voted_behind v (words_to p (followed a f).outs)
        → w ≡ flag_from voted_behind v (words_to p (followed a f).outs) → (n ≤ k) × AnswersAt cl n k w g b.next.current p
    go c k v g le old live n w i j =
        let first = one.answers c k v g le old (heard.back live) (c + rounds closes_up voted_behind v xs) (flag_from voted_behind v xs) refl refl in
        let split = rounds_append closes_up voted_behind v xs ys in
        let sum : n ≡ c + rounds closes_up voted_behind v (xs ++ ys) = i ∙ ap (λ (ws : List DialogueRecord). c + rounds closes_up voted_behind v ws) words in
        let total : n ≡ c + rounds closes_up voted_behind v xs + rounds closes_up voted_behind (flag_from voted_behind v xs) ys = omega (arith, sum, split) in
        let flag : w ≡ flag_from voted_behind (flag_from voted_behind v xs) ys = j ∙ ap (flag_from voted_behind v) words ∙ flag_append voted_behind v xs ys in
        two.answers (c + rounds closes_up voted_behind v xs) k (flag_from voted_behind v xs) g first.0 first.1 live n w total flag

-- ---- the steps

answered_root : (p : ℕ) (cl : Bool) (d : Digest) (t : Aaid) (m : Move) → IsAnswered p cl (record (with_mark_drawn d) { current = Some (fresh_current (Root t)) }) m → IsAnswered p cl d m
answered_root p cl d t m one = record { answers = λ c b v f le old live n w i j. one.answers c b v f le (λ x is n u. absurd (rooted x is u)) live n w i j }
  where
    rooted : (x : Current) → Some (fresh_current (Root t)) ≡ Some x → is_under_at x.key p ≡ true → ⊥
    rooted x is u = let same : fresh_current (Root t) ≡ x = cc (is) in cc (ap (λ (y : Current). is_under_at y.key p) same, u)

answered_moves : (who : Who) (e : Event) (s : Digest) (p : ℕ) (sup fall : Bool) (shut : ℕ) (cl : Bool) → Hears who e p cl s
    → Moves who e s (λ d m. d.superior ≡ s.superior → (is_live (link_with d.arcs p) ≡ true → is_live (link_with s.arcs p) ≡ true) → IsHeard p sup fall shut s d m)
    → Moves who e s (λ d m. d.superior ≡ s.superior → (is_live (link_with d.arcs p) ≡ true → is_live (link_with s.arcs p) ≡ true) → IsHeard p sup fall shut s d m × IsAnswered p cl d m)
answered_moves who e s p sup fall shut cl hears h = record {
  still = λ d up lives. (h.still d up lives, answered_quiet p cl d (move [] d) refl refl);
  chain = λ d a f one two quiet up lives.
      let x = one up lives in
      let y = two (x.0.superior ∙ up) (λ l. lives (x.0.back l)) in
      (h.chain d a f (λ u l. x.0) (λ u l. y.0) quiet up lives, answered_then p sup fall shut cl s d a f y.0 x.1 y.1);
  speaks = λ d outs k own said up lives. (h.speaks d outs k own said up lives, answered_perform p cl d outs k);
  changes_dialogue = λ d q f m by one up lives.
      let same : link_with (with_dialogue d.arcs q f) p ≡ link_with d.arcs p = link_dialogue d.arcs q f p in
      let x = one up (λ l. lives (ap is_live (sym same) ∙ l)) in
      (h.changes_dialogue d q f m by (λ u l. x.0) up lives, record { answers = x.1.answers });
  drops_arc = λ d q m at one up lives. let x = one up (λ l. lives (dropped_live d.arcs q p l)) in (h.drops_arc d q m at (λ u l. x.0) up lives, record { answers = x.1.answers });
  notes_kept = λ d ks m held one up lives. let x = one up lives in (h.notes_kept d ks m held (λ u l. x.0) up lives, record { answers = x.1.answers });
  keeps = λ d k f held up lives. (h.keeps d k f held up lives, answered_keep p cl d k f);
  turns = λ d c f now at asked put gone up lives. (h.turns d c f now at asked put gone up lives, answered_turned who e f d s c p cl hears now at asked put gone);
  begins = λ d q free up lives. (h.begins d q free up lives, answered_begins who p q cl d);
  roots = λ d m nil may one up lives. let x = one up lives in (h.roots d m nil may (λ u l. x.0) up lives, answered_root p cl d _ m x.1);
}

-- every accepted event, from its prelude on
pub answered_event : (who : Who) (d : Digest) (e : Event) (p : ℕ) (sup fall : Bool) (shut : ℕ) (cl : Bool) → IsLate d → refusal who d e ≡ None → Reads who e p sup fall shut (prelude who d e) → Hears who e p cl (prelude who d e)
    → IsAnswered p cl (prelude who d e) (action who d e)
answered_event who d e p sup fall shut cl late ok reads hears =
    (every_move who d e (λ g m. g.superior ≡ (prelude who d e).superior → (is_live (link_with g.arcs p) ≡ true → is_live (link_with (prelude who d e).arcs p) ≡ true) → IsHeard p sup fall shut (prelude who d e) g m × IsAnswered p cl g m)
    (answered_moves who e (prelude who d e) p sup fall shut cl hears (heard_moves who e (prelude who d e) p sup fall shut reads)) late ok refl (λ h. h)).1
