-- Who orders a commitment in recovery: an instance of the steps of a turn, and one of those of a node.
use Rattle.std.proofs.Common.{◌≡◌, ◌⊎◌, inl, inr, ℕ, Bool, true, false, refl, ap, sym, ◌∙◌, arith, Option, Some, None, List, [], ◌∷◌, ◌++◌, ◌&&◌, ◌||◌}
use Rattle.tp_names.specs.declared.identifiers.Aaid.{Aaid}
use Rattle.tp_names.specs.declared.identifiers.NodeKey.{NodeKey}
use Rattle.tp_names.specs.Same.{is_aaid}
use Rattle.tp_records.specs.declared.dialogue.DialogueRecord.{DialogueRecord}
use Rattle.tp_logrec.specs.declared.record.LogRec.{LogRec}
use Rattle.tp_model.specs.declared.arc.Side.{Side}
use Rattle.tp_model.specs.declared.transaction.TxEvent.{TxEvent}
use Rattle.tp_model.specs.declared.transaction.TxOut.{TxOut}
use Rattle.tp_model.specs.declared.recovery.Kept.{Kept}
use Rattle.tp_model.specs.declared.recovery.KeptEvent.{KeptEvent}
use Rattle.tp_model.specs.Parts.{Who, Event, Out, Arc, Key, Root, Current, Digest}
use Rattle.tp_model.specs.Dialogues.{is_active, is_committing, begun_by, named_holder}
use Rattle.tp_model.specs.Arcs.{find_arc, with_dialogue, carried, performed_one, performed}
use Rattle.tp_model.specs.Transactions.{Transaction, Turn, aaid_of, transacted}
use Rattle.tp_model.specs.Recovery.{is_commit, settled, kept_after}
use Rattle.tp_model.specs.Node.{Move, move, followed, perform, next_mark, with_mark_drawn, phase_of, seen, fresh_current, Passage, Commits, passage, is_leaving, entered, played, perform_commit, committed_arcs, grants, with_begun, may_begin_on, begin_on, keep, around_grants}
use Rattle.tp_model.specs.Outcomes.{is_now}
use Rattle.tp_model.specs.Node.{turned}
use Rattle.tp_steps.specs.Moves.{orders_in, keeps_commit, is_committed_in, Moves, IsPut}
use Rattle.tp_steps.specs.Passages.{is_commit_rec, IsLogged, IsPassed}
use Rattle.tp_steps.specs.Trees.{commits_tree}
use Rattle.tp_steps.specs.Orders.{sends_order, IsOwnMove}
use Rattle.tp_steps.proofs.log.Passed.{passed_turn}
use Rattle.tp_steps.proofs.lemmas.Equality.{or_case, and_left, and_right}
use Rattle.tp_steps.proofs.words.Treed.{now_left, phase_left}
use Rattle.tp_steps.proofs.log.Asking.{none_grants, asks_turn}
use Rattle.tp_steps.proofs.log.Owned.{orders_append, key_aaid}
use Rattle.tp_steps.proofs.every.BeginCases.{begun_over, begin_cases}
use Rattle.tp_steps.proofs.lemmas.EachKept.{HoldsBy, one_after}
use Rattle.tp_steps.proofs.links.Whole.{IsWhole, whole_turn}

-- ---- at the arcs

pub sends_append : (u : Aaid) (xs ys : List Out) → sends_order u (xs ++ ys) ≡ (sends_order u xs || sends_order u ys)
sends_append u [] ys = refl
sends_append u (x ∷ xs) ys = grind (arith, sends_append u xs ys)

sends_carried : (u : Aaid) (arcs : List Arc) (q : ℕ) (r : DialogueRecord) → sends_order u (carried arcs q r).1 ≡ false
sends_carried u [] q r = refl
sends_carried u (a ∷ arcs) q r = grind (arith, sends_carried u arcs q r)

sends_one : (u : Aaid) (arcs : List Arc) (o : TxOut) → sends_order u (performed_one arcs o).1 ≡ orders_in u (o ∷ [])
sends_one u arcs (TxOut.Carry q r) = sends_carried u arcs q r
sends_one u arcs (TxOut.Shut q) = grind arith
sends_one u arcs _ = refl

sends_performed : (u : Aaid) (arcs : List Arc) (outs : List TxOut) → sends_order u (performed arcs outs).1 ≡ orders_in u outs
sends_performed u arcs [] = refl
sends_performed u arcs (o ∷ outs) =
    let next : List Arc = (performed_one arcs o).0 in
    sends_append u (performed_one arcs o).1 (performed next outs).1 ∙ rw (sends_one u arcs o, sends_performed u next outs) (sym (orders_append u (o ∷ []) outs))

sends_commit : (u : Aaid) (d : Digest) (t : Transaction) (s : List TxOut × List TxOut) (arcs : List Arc) → sends_order u (perform_commit d t s arcs).1 ≡ orders_in u (s.0 ++ s.1)
sends_commit u d t s arcs =
    let one = performed arcs s.0 in
    let two = performed (committed_arcs d t one.0) (grants t one.0) in
    let three = performed two.0 s.1 in
    let joined : orders_in u (s.0 ++ s.1) ≡ (orders_in u s.0 || orders_in u s.1) = orders_append u s.0 s.1 in
    let none : sends_order u two.1 ≡ false = sends_performed u (committed_arcs d t one.0) (grants t one.0) ∙ none_grants u t one.0 in
    sends_append u (one.1 ++ two.1) three.1 ∙ rw (sends_append u one.1 two.1, none, sends_performed u arcs s.0, sends_performed u two.0 s.1, joined) (grind arith)

sends_played : (u : Aaid) (d : Digest) (t : Transaction) (w : Passage) (a : Turn) → IsWhole a → (arcs : List Arc) → sends_order u (played d t w a arcs).1 ≡ orders_in u a.outs
unfolding played
sends_played u d t Commits a whole arcs = sends_commit u d t (around_grants a) arcs ∙ ap (orders_in u) whole
sends_played u d t _ a whole arcs = sends_performed u arcs a.outs

-- ---- what is kept

abbrev commits_of : Aaid → Kept → Bool
commits_of u k = is_commit k.side && is_aaid u k.key.aaid

-- the record keeps a commitment of the tree
abbrev KeptBy : Aaid → Option LogRec → Type 0
KeptBy u r = HoldsBy (commits_of u) r

kept_record : (u : Aaid) (r : Option LogRec) (ks : List Kept) → keeps_commit u (kept_after r ks) ≡ true → (keeps_commit u ks ≡ true) ⊎ KeptBy u r
kept_record u r ks h = one_after (commits_of u) (keeps_commit u) (record { none = refl; more = λ k ks. refl }) (λ k b. refl) r ks h

-- ---- the steps of a node

own_hush : (d : Digest) (m : Move) → ((u : Aaid) → sends_order u m.outs ≡ true → is_committed_in u d ≡ true) → ((u : Aaid) → is_committed_in u m.next ≡ true → is_committed_in u d ≡ true) → IsOwnMove d m
own_hush d m sends stays g old new = (λ u h. old u (sends u h), λ u h. old u (stays u h))

own_turned : (who : Who) (f : TxEvent) (d : Digest) (c : Current) → d.current ≡ Some c → IsPut f (seen who d.arcs c) → IsOwnMove d (turned who f d c)
own_turned who f d c now put g old new = (
  λ u h. asked u (asks_turn f q put u (sym (sends_played u d q w a (whole_turn f q) (entered q w d.arcs)) ∙ h)),
  λ u h. stands u (or_case (is_now u m.next.current && is_committing (phase_of m.next)) (keeps_commit u m.next.kept) h),
)
  where
    q : Transaction
    q = seen who d.arcs c

    a : Turn
    a = transacted f q

    w : Passage
    w = passage (is_leaving f) q.phase a.next.phase

    m : Move
    m = turned who f d c

    passed : IsPassed f q q a
    passed = passed_turn f q put

    -- the current transaction, where it commits
    committing : (u : Aaid) → is_committing c.phase ≡ true → is_aaid u (aaid_of c.key) ≡ true → g u ≡ true
    committing u i j =
        let n : is_now u d.current ≡ true = ap (is_now u) now ∙ j in
        let p : is_committing (phase_of d) ≡ true = rw (now, phase_of) i in
        old u (rw (n, p) refl)

    asked : (u : Aaid) → (is_committing c.phase && is_aaid u (aaid_of c.key)) ≡ true → g u ≡ true
    asked u h = committing u (and_left (is_committing c.phase) (is_aaid u (aaid_of c.key)) h) (and_right (is_committing c.phase) (is_aaid u (aaid_of c.key)) h)

    commit_rec : (u : Aaid) → is_aaid u (aaid_of c.key) ≡ true → (r : Option LogRec) → IsLogged q r a.next → is_commit_rec r ≡ true → commits_tree u r ≡ true
    commit_rec u same None l h = absurd cc
    commit_rec u same (Some (LogRec.Commit n k s cs)) l h = ap (is_aaid u) (ap (λ (x : NodeKey). x.aaid) l.0 ∙ key_aaid c.key) ∙ same
    commit_rec u same (Some (LogRec.Boot n)) l h = absurd cc
    commit_rec u same (Some (LogRec.Ready n k s cs)) l h = absurd cc
    commit_rec u same (Some (LogRec.Heuristic n k o)) l h = absurd cc
    commit_rec u same (Some (LogRec.Damage n k s o p cs)) l h = absurd cc
    commit_rec u same (Some (LogRec.End n k o)) l h = absurd cc

    current : (u : Aaid) → is_now u m.next.current ≡ true → is_committing (phase_of m.next) ≡ true → g u ≡ true
    current u n i =
        let l = now_left u a.next n in
        let tree : is_aaid u (aaid_of c.key) ≡ true = ap (λ (k : Key). is_aaid u (aaid_of k)) (sym passed.key) ∙ l.0 in
        let phase : is_committing a.next.phase ≡ true = ap is_committing (sym (phase_left a.next m.next refl l.1)) ∙ i in
        elim (or_case (is_committing c.phase) (is_commit_rec a.rec) (passed.commits phase)) [
          | inl j ↦ committing u j tree
          | inr j ↦ new u (commit_rec u tree a.rec passed.logs j)
        ]

    damage : (u : Aaid) (k : KeptBy u a.rec) → (r : Option LogRec) → a.rec ≡ r → IsLogged q r a.next → g u ≡ true
    damage u k None i l = absurd (cc (sym i ∙ k.is))
    damage u k (Some (LogRec.Damage n j s o p cs)) i l =
        let same : Some (LogRec.Damage n j s o p cs) ≡ Some (LogRec.Damage k.node k.key k.superior k.side k.report k.owed) = sym i ∙ k.is in
        let side : o ≡ k.side = cc (same) in
        let key : j ≡ k.key = cc (same) in
        let tree : is_aaid u (aaid_of c.key) ≡ true = ap (is_aaid u) (sym (key_aaid c.key) ∙ ap (λ (x : NodeKey). x.aaid) (sym l.0 ∙ key)) ∙ and_right (is_commit k.side) (is_aaid u k.key.aaid) k.holds in
        committing u (l.1 (ap is_commit side ∙ and_left (is_commit k.side) (is_aaid u k.key.aaid) k.holds)) tree
    damage u k (Some (LogRec.Boot n)) i l = absurd l
    damage u k (Some (LogRec.Ready n j s cs)) i l = absurd (cc (sym i ∙ k.is))
    damage u k (Some (LogRec.Heuristic n j o)) i l = absurd (cc (sym i ∙ k.is))
    damage u k (Some (LogRec.Commit n j s cs)) i l = absurd (cc (sym i ∙ k.is))
    damage u k (Some (LogRec.End n j o)) i l = absurd (cc (sym i ∙ k.is))

    kept : (u : Aaid) → (keeps_commit u d.kept ≡ true) ⊎ KeptBy u a.rec → g u ≡ true
    kept u (inl i) = old u (rw i (grind arith))
    kept u (inr k) = damage u k a.rec refl passed.logs

    stands : (u : Aaid) → ((is_now u m.next.current && is_committing (phase_of m.next)) ≡ true) ⊎ (keeps_commit u m.next.kept ≡ true) → g u ≡ true
    stands u (inl i) = current u (and_left (is_now u m.next.current) (is_committing (phase_of m.next)) i) (and_right (is_now u m.next.current) (is_committing (phase_of m.next)) i)
    stands u (inr i) = kept u (kept_record u a.rec d.kept i)

own_begins : (who : Who) (d : Digest) (q : ℕ) → IsOwnMove d (begin_on who q d)
own_begins who d q = begin_cases (IsOwnMove d) who q d still on
  where
    still : IsOwnMove d (move [] d)
    still = own_hush d (move [] d) (λ u h. absurd (cc (h))) (λ u h. h)

    on : (c : Current) (a : Arc) → d.current ≡ Some c → find_arc d.arcs q ≡ Some a → may_begin_on who d a ≡ true → IsOwnMove d (begun_over who q d c a)
    on c a now found may = own_hush d m (λ u h. absurd (cc (sends_performed u arcs outs, h))) stays
      where
        outs : List TxOut
        outs = TxOut.Carry q (DialogueRecord.Begin (aaid_of c.key) (record { superior = who.site; mark = next_mark who d }) (named_holder a.dialogue)) ∷ []

        arcs : List Arc
        arcs = with_dialogue d.arcs q (begun_by (named_holder a.dialogue) Side.Superior)

        m : Move
        m = perform outs (record (with_begun who (with_mark_drawn d) c (record { addr = a.peer; branch = record { superior = who.site; mark = next_mark who d } })) { arcs = arcs })

        begun : Transaction
        begun = (transacted (TxEvent.Begun (record { addr = a.peer; branch = record { superior = who.site; mark = next_mark who d } } ∷ [])) (seen who (with_mark_drawn d).arcs c)).next

        stays : (u : Aaid) → is_committed_in u m.next ≡ true → is_committed_in u d ≡ true
        stays u h = elim (or_case (is_now u m.next.current && is_committing (phase_of m.next)) (keeps_commit u d.kept) h) [
          | inl j ↦ absurd (active_commits (and_left (is_now u m.next.current) (is_committing (phase_of m.next)) j) (and_right (is_now u m.next.current) (is_committing (phase_of m.next)) j))
          | inr j ↦ rw j (grind arith)
        ]
          where
            act : is_active c.phase ≡ true
            act = let h : is_active (phase_of d) ≡ true = grind (arith, may) in rw (now, phase_of) at h

            active_commits : is_now u m.next.current ≡ true → is_committing (phase_of m.next) ≡ true → ⊥
            active_commits n k =
                let l = now_left u begun n in
                let phase : is_committing c.phase ≡ true = ap is_committing (sym (phase_left begun m.next refl l.1)) ∙ k in
                absurd (grind (arith, act, phase))

own_then : (d : Digest) (a : Move) (f : Digest → Move) → IsOwnMove d a → IsOwnMove a.next (f a.next) → (a.rec ≡ None) ⊎ ((f a.next).rec ≡ None) → IsOwnMove d (followed a f)
own_then d a f one two quiet g old new =
    let x = one g old (λ u h. first u a.rec (f a.next).rec refl refl quiet h) in
    let y = two g x.1 (λ u h. second u a.rec (f a.next).rec refl refl h) in
    (λ u h. elim (or_case (sends_order u a.outs) (sends_order u (f a.next).outs) (sym (sends_append u a.outs (f a.next).outs) ∙ h)) [ inl i ↦ x.0 u i | inr i ↦ y.0 u i ], y.1)
  where
    later : Option LogRec → Option LogRec → Option LogRec
    later p q = elim q as (λ _. Option LogRec) [ None ↦ p | Some r ↦ Some r ]

    first : (u : Aaid) (p q : Option LogRec) → a.rec ≡ p → (f a.next).rec ≡ q → (a.rec ≡ None) ⊎ ((f a.next).rec ≡ None) → commits_tree u a.rec ≡ true → g u ≡ true
    first u p q i j (inl n) h = absurd (cc (ap (commits_tree u) n, h))
    first u p q i j (inr n) h = new u (ap (commits_tree u) (ap (λ (z : Option LogRec). later a.rec z) n) ∙ h)

    second : (u : Aaid) (p q : Option LogRec) → a.rec ≡ p → (f a.next).rec ≡ q → commits_tree u (f a.next).rec ≡ true → g u ≡ true
    second u p None i j h = absurd (cc (ap (commits_tree u) j, h))
    second u p (Some r) i j h = new u (ap (commits_tree u) (ap (λ (z : Option LogRec). later a.rec z) j) ∙ ap (commits_tree u) (sym j) ∙ h)

settled_orders : (u : Aaid) (k : Kept) (f : KeptEvent) → orders_in u (settled k f).outs ≡ false
unfolding settled
settled_orders u k (KeptEvent.Done a b r) = grind arith
settled_orders u k _ = refl

-- a record of a kept transaction keeps its side
settled_keeps : (u : Aaid) (k : Kept) (f : KeptEvent) → KeptBy u (settled k f).rec → (is_commit k.side && is_aaid u k.key.aaid) ≡ true
unfolding settled
settled_keeps u k (KeptEvent.Done a b r) x = grind (arith, x.is, x.holds)
settled_keeps u k KeptEvent.Forget x = absurd (grind (arith, x.is))
settled_keeps u k KeptEvent.Purge x = absurd (cc (x.is))

own_keeps : (d : Digest) (k : Kept) (f : KeptEvent) → ((u : Aaid) → (is_commit k.side && is_aaid u k.key.aaid) ≡ true → keeps_commit u d.kept ≡ true) → IsOwnMove d (keep (settled k f) d)
own_keeps d k f held = own_hush d (keep (settled k f) d) (λ u h. absurd (cc (sends_performed u d.arcs (settled k f).outs ∙ settled_orders u k f, h))) (λ u h. stays u (or_case (is_now u d.current && is_committing (phase_of d)) (keeps_commit u (kept_after (settled k f).rec d.kept)) h))
  where
    behind : (u : Aaid) → (keeps_commit u d.kept ≡ true) ⊎ KeptBy u (settled k f).rec → is_committed_in u d ≡ true
    behind u (inl i) = rw i (grind arith)
    behind u (inr x) = let i = held u (settled_keeps u k f x) in rw i (grind arith)

    stays : (u : Aaid) → ((is_now u d.current && is_committing (phase_of d)) ≡ true) ⊎ (keeps_commit u (kept_after (settled k f).rec d.kept) ≡ true) → is_committed_in u d ≡ true
    stays u (inl i) = rw i refl
    stays u (inr i) = behind u (kept_record u (settled k f).rec d.kept i)

pub own_moves : (who : Who) (e : Event) (s : Digest) → Moves who e s IsOwnMove
own_moves who e s = record {
  still = λ d. own_hush d (move [] d) (λ u h. absurd (cc (h))) (λ u h. h);
  chain = λ d a f one two quiet. own_then d a f one two quiet;
  speaks = λ d outs h own said. own_hush d (perform outs d) (λ u i. own.0 u (sym (sends_performed u d.arcs outs) ∙ i)) (λ u i. i);
  changes_dialogue = λ d p f m by one. one;
  drops_arc = λ d p m at one. one;
  notes_kept = λ d ks m held one. λ g old new. one g (λ u h. old u (noted d ks held.0 u h)) new;
  keeps = λ d k f held. own_keeps d k f held.0;
  turns = λ d c f now at asked put gone. own_turned who f d c now put;
  begins = λ d q free. own_begins who d q;
  roots = λ d m nil may one. λ g old new. one g (λ u h. old u (rooted d u h)) new;
}
  where
    noted : (d : Digest) (ks : List Kept) → ((u : Aaid) → keeps_commit u ks ≡ true → keeps_commit u d.kept ≡ true) → (u : Aaid) → is_committed_in u (record d { kept = ks }) ≡ true → is_committed_in u d ≡ true
    noted d ks held u h = elim (or_case (is_now u d.current && is_committing (phase_of d)) (keeps_commit u ks) h) [ inl i ↦ rw i refl | inr i ↦ rw (held u i) (grind arith) ]

    rooted : (d : Digest) (u : Aaid) → is_committed_in u (record (with_mark_drawn d) { current = Some (fresh_current (Root (record { owner = who.site; mark = next_mark who d }))) }) ≡ true → is_committed_in u d ≡ true
    rooted d u h = kept_only (keeps_commit u d.kept) (grind (arith, h))
      where
        kept_only : (b : Bool) → keeps_commit u d.kept ≡ true → is_committed_in u d ≡ true
        kept_only b i = rw i (grind arith)
