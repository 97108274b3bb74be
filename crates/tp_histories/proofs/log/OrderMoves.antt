-- Each record that an event forces follows those before it: an instance of the steps of a node.
use Rattle.std.proofs.Common.{◌≡◌, ◌≤◌, ◌⊎◌, inl, inr, ℕ, true, false, refl, ap, sym, subst, ◌∙◌, arith, Option, Some, None, List, [], ◌∷◌, ◌||◌}
use Rattle.std.specs.Prelude.{nat_le}
use Rattle.std.proofs.lemmas.Bool.Decides.{nat_tests}
use Rattle.tp_names.specs.declared.identifiers.Aaid.{Aaid}
use Rattle.tp_names.specs.declared.identifiers.BranchId.{BranchId}
use Rattle.tp_names.specs.declared.identifiers.NodeKey.{NodeKey}
use Rattle.tp_names.specs.declared.outcome.Outcome.{Outcome}
use Rattle.tp_names.specs.Same.{is_aaid, is_branch_option, is_key}
use Rattle.tp_records.specs.declared.dialogue.DialogueRecord.{DialogueRecord}
use Rattle.tp_records.specs.declared.peer.PeerRecord.{PeerRecord}
use Rattle.tp_records.specs.declared.peer.RecState.{RecState}
use Rattle.tp_logrec.specs.declared.record.LogRec.{LogRec}
use Rattle.tp_logrec.specs.Order.{is_ready as is_ready_rec, is_commit as is_commit_rec}
use Rattle.tp_model.specs.declared.arc.Phase.{Phase}
use Rattle.tp_model.specs.declared.transaction.TxEvent.{TxEvent}
use Rattle.tp_model.specs.declared.recovery.Kept.{Kept}
use Rattle.tp_model.specs.Parts.{Who, Event, Arc, Key, Root, Under, Current, Digest}
use Rattle.tp_model.specs.Dialogues.{is_active, is_ready, is_rolling}
use Rattle.tp_model.specs.Arcs.{find_arc}
use Rattle.tp_model.specs.Transactions.{Transaction, node_key, is_under, is_under_at, refused_tx, transacted}
use Rattle.tp_model.specs.Recovery.{kept_after, not_forgotten}
use Rattle.tp_model.specs.Node.{Move, move, followed, perform, next_mark, with_mark_drawn, seen, remaining, may_begin_on, begin_on, fresh_current, turned}
use Rattle.tp_model.specs.Arrivals.{branch_key}
use Rattle.tp_model.specs.Events.{recovered_current}
use Rattle.tp_steps.specs.Turns.{is_order_for}
use Rattle.tp_steps.specs.Moves.{Moves, is_took, IsPut, IsAsked}
use Rattle.tp_steps.specs.Passages.{IsLogged, IsPassed}
use Rattle.tp_steps.specs.Standing.{current_after}
use Rattle.tp_steps.proofs.lemmas.Equality.{and_right}
use Rattle.tp_steps.proofs.every.EveryMove.{quiet_begin}
use Rattle.tp_histories.proofs.pairs.Committed.{order_record, no_request}
use Rattle.tp_steps.proofs.log.Passed.{passed_turn}
use Rattle.tp_histories.proofs.log.KeptLog.{IsKeptMove, kept_moves}
use Rattle.tp_steps.proofs.log.CurrentLog.{seen_in_log}
use Rattle.tp_steps.proofs.log.Sound.{left_is}
use Rattle.tp_steps.proofs.log.SoundMoves.{IsSound, IsSoundMove, apart_noted, nil_off, sound_root, sound_noted, sound_moves}
use Rattle.tp_steps.proofs.log.NextTurns.{IsNext, AreNext, next_turn}
use Rattle.tp_steps.proofs.log.StandLog.{IsFit}
use Rattle.tp_steps.proofs.log.NextLog.{MayFollow, next_follows, kept_in, settled_follows}
use Rattle.tp_steps.proofs.every.BeginCases.{begun_over, begin_cases}

-- ---- a root's key is of a boot that was reached

abbrev pub IsReached : Digest → Type 0
IsReached d = (c : Current) → d.current ≡ Some c → is_under c.key ≡ false → nat_le (node_key c.key).aaid.mark.boot d.boot ≡ true

abbrev pub IsReachedMove : Digest → Move → Type 0
IsReachedMove d m = (m.next.boot ≡ d.boot) × (IsReached d → IsReached m.next)

reached_left : (d : Digest) (c : Current) (u : Transaction) (o : Option Current) → d.current ≡ Some c → u.key ≡ c.key → o ≡ remaining u → IsReached d
    → (v : Current) → o ≡ Some v → is_under v.key ≡ false → nat_le (node_key v.key).aaid.mark.boot d.boot ≡ true
reached_left d c u o now key left h v is root =
    let same : v.key ≡ c.key = (left_is u v (sym left ∙ is)).0 ∙ key in
    subst (λ (k : Key). nat_le (node_key k).aaid.mark.boot d.boot ≡ true) (sym same) (h c now (ap is_under (sym same) ∙ root))

reached_begins : (who : Who) (q : ℕ) (d : Digest) → IsReachedMove d (begin_on who q d)
reached_begins who q d = begin_cases (IsReachedMove d) who q d (refl, λ h. h) on
  where
    on : (c : Current) (a : Arc) → d.current ≡ Some c → find_arc d.arcs q ≡ Some a → may_begin_on who d a ≡ true → IsReachedMove d (begun_over who q d c a)
    on c a i found may = (
      refl,
      λ h v is root. reached_left d c (transacted (TxEvent.Begun (record { addr = a.peer; branch = record { superior = who.site; mark = next_mark who d } } ∷ [])) (seen who d.arcs c)).next
          (remaining (transacted (TxEvent.Begun (record { addr = a.peer; branch = record { superior = who.site; mark = next_mark who d } } ∷ [])) (seen who d.arcs c)).next) i refl refl h v is root,
    )

pub reached_root : (who : Who) (d : Digest) → IsReached (record (with_mark_drawn d) { current = Some (fresh_current (Root (record { owner = who.site; mark = next_mark who d }))) })
reached_root who d c is root =
    let same : fresh_current (Root (record { owner = who.site; mark = next_mark who d })) ≡ c = cc (is) in
    subst (λ (x : Current). nat_le (node_key x.key).aaid.mark.boot d.boot ≡ true) same (itself d.boot)
  where
    itself : (n : ℕ) → nat_le n n ≡ true
    itself n = grind (arith, nat_tests)

pub reached_moves : (who : Who) (e : Event) (s : Digest) → Moves who e s IsReachedMove
reached_moves who e s = record {
  still = λ d. (refl, λ h. h);
  chain = λ d a f one two quiet. (two.0 ∙ one.0, λ h. two.1 (one.1 h));
  speaks = λ d outs h own said. (refl, λ h. h);
  changes_dialogue = λ d p f m by one. one;
  drops_arc = λ d p m at one. one;
  notes_kept = λ d ks m held one. one;
  keeps = λ d k f held. (refl, λ h. h);
  turns = λ d c f now at asked put gone.
      (refl, λ h v is root. reached_left d c (transacted f (seen who d.arcs c)).next (remaining (transacted f (seen who d.arcs c)).next) now (passed_turn f (seen who d.arcs c) put).key refl h v is root);
  begins = λ d p free. reached_begins who p d;
  roots = λ d m nil may one. (one.0, λ h. one.1 (reached_root who d));
}

-- ---- what an event asks of the current transaction

under_at : (k : Key) (p : ℕ) → is_under_at k p ≡ true → is_under k ≡ true
under_at (Root t) p h = absurd (cc (h))
under_at (Under t b a) p h = refl

named_under : (k : Key) (t : Aaid) (b : BranchId) → is_key (node_key k) (branch_key t b) ≡ true → is_under k ≡ true
named_under (Root u) t b h = absurd (let off : false ≡ true = and_right (is_aaid u t) (is_branch_option None (Some b)) h in cc (off))
named_under (Under u c a) t b h = refl

-- the order of a superior goes to a branch alone
asked_under : (e : Event) (c : Current) (f : TxEvent) (t : Transaction) → t.key ≡ c.key → IsAsked e c f → is_order_for f t ≡ true → is_under c.key ≡ true
asked_under (Event.Arrive from (PeerRecord.OnAssoc x y q r)) c f t key asked ord =
    let one : is_order_for (TxEvent.Took from.node r) t ≡ true = subst (λ (g : TxEvent). is_order_for g t ≡ true) asked ord in
    let commit = order_record r from.node t one in
    let under : is_under_at t.key from.node ≡ true = subst (λ (v : DialogueRecord). is_order_for (TxEvent.Took from.node v) t ≡ true) commit one in
    under_at c.key from.node (ap (λ (k : Key). is_under_at k from.node) (sym key) ∙ under)
asked_under (Event.Arrive from (PeerRecord.RecCommit u b)) c f t key asked ord = named_under c.key u b asked.1
asked_under (Event.Arrive from (PeerRecord.RecReply u b RecState.Commit)) c f t key asked ord = named_under c.key u b asked.1
asked_under (Event.Arrive from (PeerRecord.RecReply u b (RecState.Done r))) c f t key asked ord = absurd (cc (ap (λ (g : TxEvent). is_order_for g t) asked.0, ord))
asked_under (Event.Arrive from (PeerRecord.RecReply u b RecState.Unknown)) c f t key asked ord = absurd (cc (ap (λ (g : TxEvent). is_order_for g t) asked.0, ord))
asked_under (Event.Arrive from (PeerRecord.RecReply u b RecState.RetryLater)) c f t key asked ord = absurd (cc (ap (λ (g : TxEvent). is_order_for g t) asked.0, ord))
asked_under (Event.Arrive from (PeerRecord.ShutAssoc x None)) c f t key asked ord = absurd asked
asked_under (Event.Arrive from (PeerRecord.ShutAssoc x (Some y))) c f t key asked ord = absurd (cc (ap (λ (g : TxEvent). is_order_for g t) asked, ord))
asked_under (Event.Arrive from r) c f t key asked ord = absurd asked
asked_under (Event.Do r) c f t key asked ord = absurd (no_request r c f t asked ord)
asked_under (Event.Declare s) c f t key asked ord = absurd asked
asked_under (Event.Break from r) c f t key asked ord = absurd (cc (ap (λ (g : TxEvent). is_order_for g t) asked, ord))
asked_under (Event.Lose p) c f t key asked ord = absurd (cc (ap (λ (g : TxEvent). is_order_for g t) asked, ord))
asked_under (Event.Heur v) c f t key asked ord = absurd (cc (ap (λ (g : TxEvent). is_order_for g t) asked, ord))
asked_under (Event.GiveUp p) c f t key asked ord = absurd (cc (ap (λ (g : TxEvent). is_order_for g t) asked, ord))
asked_under Event.Retry c f t key asked ord = absurd (cc (ap (λ (g : TxEvent). is_order_for g t) asked, ord))
asked_under Event.Purge c f t key asked ord = absurd asked
asked_under Event.Crash c f t key asked ord = absurd asked

-- a decision comes where there is none
fresh_decision : (f : TxEvent) (t : Transaction) → IsPut f t → (o : Outcome) → f ≡ TxEvent.Heur o → t.decision ≡ None
unfolding refused_tx
fresh_decision f t put o is = go t.decision refl
  where
    ok : refused_tx (TxEvent.Heur o) t ≡ None
    ok = subst (λ (g : TxEvent). refused_tx g t ≡ None) is (put.ok (ap is_took is))

    go : (u : Option Outcome) → t.decision ≡ u → u ≡ None
    go None e = refl
    go (Some u) e = absurd (grind (arith, ok, e))

-- ---- the steps

-- each record that a move forces may stand after records that tell what is current and kept
abbrev pub FollowsOf : Who → Digest → Move → Type 0
FollowsOf who d m =
    (ps : List LogRec) (b : ℕ) → d.boot ≤ b → IsSound who d → IsReached d → IsFit who.node ps (recovered_current d.current) (not_forgotten d.kept) → (r : LogRec) → m.rec ≡ Some r
    → (k : NodeKey) × MayFollow who.node b ps k r

abbrev pub IsOrderMove : Who → Digest → Move → Type 0
IsOrderMove who d m = IsReachedMove d m × IsSoundMove who d m × IsKeptMove d m × FollowsOf who d m

quiet_follows : (who : Who) (d : Digest) (m : Move) → m.rec ≡ None → FollowsOf who d m
quiet_follows who d m none ps b le s reach fit r is = let off : None ≡ Some r = sym none ∙ is in absurd (cc (off))

unrolled : (t u : Transaction) (r : LogRec) → IsLogged t (Some r) u → (is_ready_rec r || is_commit_rec r) ≡ true → is_rolling t.phase ≡ false
unrolled t u (LogRec.Ready n k s cs) h i = go t.phase h.3
  where
    go : (p : Phase) → is_active p ≡ true → is_rolling p ≡ false
    go Phase.Nil e = refl
    go Phase.Active e = refl
    go Phase.Ready e = refl
    go Phase.Committing e = refl
    go Phase.Rolling e = absurd (cc (e))
unrolled t u (LogRec.Commit n k s cs) h i = go t.phase h.2
  where
    go : (p : Phase) → (is_active p || is_ready p) ≡ true → is_rolling p ≡ false
    go Phase.Nil e = refl
    go Phase.Active e = refl
    go Phase.Ready e = refl
    go Phase.Committing e = refl
    go Phase.Rolling e = absurd (cc (e))
unrolled t u _ h i = absurd (cc (i))

pub at_most_le : (m n b : ℕ) → nat_le m n ≡ true → n ≤ b → nat_le m b ≡ true
at_most_le m n b h i = grind (arith, nat_tests, h, i)

follows_turned : (who : Who) (e : Event) (f : TxEvent) (d : Digest) (c : Current) → d.current ≡ Some c → IsAsked e c f → IsPut f (seen who d.arcs c) → FollowsOf who d (turned who f d c)
follows_turned who e f d c now asked put ps b le s reach fit r is =
    let t : Transaction = seen who d.arcs c in
    let passed : IsPassed f t t (transacted f t) = passed_turn f t put in
    let logged : IsLogged t (Some r) (transacted f t).next = subst (λ (x : Option LogRec). IsLogged t x (transacted f t).next) is passed.logs in
    let next : AreNext t (transacted f t) = next_turn f t put (fresh_decision f t put) (λ ord. asked_under e c f t refl asked ord) (s.3 c now) in (
      node_key c.key,
      next_follows who.node b ps c.key (recovered_current d.current) (not_forgotten d.kept) r fit
          (λ i. apart_noted (node_key c.key) d.kept (s.0 c now (unrolled t (transacted f t).next r logged i)))
          (λ root. at_most_le (node_key c.key).aaid.mark.boot d.boot b (reach c now root) le)
          (subst (λ (l : Option Current). IsNext who.node c.key l r) (sym (ap recovered_current now ∙ seen_in_log who d.arcs c)) (next r is)),
    )

follows_then : (who : Who) (d : Digest) (a : Move) (f : Digest → Move) → IsOrderMove who d a → IsOrderMove who a.next (f a.next) → (a.rec ≡ None) ⊎ ((f a.next).rec ≡ None) → FollowsOf who d (followed a f)
follows_then who d a f one two quiet ps b le s reach fit r is = go a.rec (f a.next).rec refl refl quiet is
  where
    go : (x y : Option LogRec) → a.rec ≡ x → (f a.next).rec ≡ y → (x ≡ None) ⊎ (y ≡ None) → elim y as (λ _. Option LogRec) [ None ↦ x | Some q ↦ Some q ] ≡ Some r → (k : NodeKey) × MayFollow who.node b ps k r
    go x None i j q is = one.3 ps b le s reach fit r (i ∙ is)
    go None (Some q) i j w is =
        let after = one.1 s in
        two.3 ps b (subst (λ (n : ℕ). n ≤ b) (sym one.0.0) le) after.0 (one.0.1 reach)
        (subst (λ (l : Option Current). IsFit who.node ps l (not_forgotten a.next.kept)) (ap (λ (o : Option LogRec). current_after o (recovered_current d.current)) (sym i) ∙ after.1)
        (subst (λ (ks : List Kept). IsFit who.node ps (recovered_current d.current) ks) (ap (λ (o : Option LogRec). kept_after o (not_forgotten d.kept)) (sym i) ∙ sym one.2.0) fit))
        r (j ∙ is)
    go (Some p) (Some q) i j (inl w) is = absurd (cc (w))
    go (Some p) (Some q) i j (inr w) is = absurd (cc (w))

pub order_moves : (who : Who) (e : Event) (s : Digest) → Moves who e s (IsOrderMove who)
order_moves who e s = record {
  still = λ d. (reached.still d, sound.still d, kept.still d, quiet_follows who d (move [] d) refl);
  chain = λ d a f one two quiet.
      (reached.chain d a f one.0 two.0 quiet, sound.chain d a f one.1 two.1 quiet, kept.chain d a f one.2 two.2 quiet, follows_then who d a f one two quiet);
  speaks = λ d outs h own said. (reached.speaks d outs h own said, sound.speaks d outs h own said, kept.speaks d outs h own said, quiet_follows who d (perform outs d) refl);
  changes_dialogue = λ d p f m by one. one;
  drops_arc = λ d p m at one. one;
  notes_kept = λ d ks m held one. (
    reached.notes_kept d ks m held one.0,
    sound.notes_kept d ks m held one.1,
    kept.notes_kept d ks m held one.2,
    λ ps b le is reach fit r rec. one.3 ps b le (sound_noted who d ks held.1 is) reach (subst (λ (xs : List Kept). IsFit who.node ps (recovered_current d.current) xs) (sym held.1) fit) r rec,
  );
  keeps = λ d k f held. (
    reached.keeps d k f held,
    sound.keeps d k f held,
    kept.keeps d k f held,
    λ ps b le is reach fit r rec. (k.key, settled_follows who.node b ps k f (kept_in who.node ps d.kept k fit.kept held.2) r rec),
  );
  turns = λ d c f now at asked put gone.
      (reached.turns d c f now at asked put gone, sound.turns d c f now at asked put gone, kept.turns d c f now at asked put gone, follows_turned who e f d c now asked put);
  begins = λ d p free. (reached.begins d p free, sound.begins d p free, kept.begins d p free, quiet_follows who d (begin_on who p d) (quiet_begin who p d));
  roots = λ d m nil may one. (
    reached.roots d m nil may one.0,
    sound.roots d m nil may one.1,
    kept.roots d m nil may one.2,
    λ ps b le is reach fit r rec. one.3 ps b le (sound_root who d is) (reached_root who d) (subst (λ (l : Option Current). IsFit who.node ps l (not_forgotten d.kept)) (nil_off d nil) fit) r rec,
  );
}
  where
    reached : Moves who e s IsReachedMove
    reached = reached_moves who e s

    sound : Moves who e s (IsSoundMove who)
    sound = sound_moves who e s

    kept : Moves who e s IsKeptMove
    kept = kept_moves who e s
