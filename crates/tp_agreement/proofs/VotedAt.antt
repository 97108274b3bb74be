-- Of a node: a record that binds a tree leaves it current and bound, and each of its branches counted or left.
use Rattle.std.proofs.Common.{◌≡◌, ℕ, Bool, true, false, refl, ap, sym, ◌∙◌, arith, Option, Some, None, [], ◌∷◌}
use Rattle.tp_names.specs.declared.identifiers.Aaid.{Aaid}
use Rattle.tp_names.specs.Same.{is_aaid}
use Rattle.tp_logrec.specs.declared.record.LogRec.{LogRec}
use Rattle.tp_model.specs.declared.arc.Phase.{Phase}
use Rattle.tp_model.specs.declared.transaction.TxEvent.{TxEvent}
use Rattle.tp_model.specs.declared.recovery.Kept.{Kept}
use Rattle.tp_model.specs.declared.recovery.KeptEvent.{KeptEvent}
use Rattle.tp_model.specs.Parts.{Who, Event, Arc, Key, Branch, Current, Digest}
use Rattle.tp_model.specs.Dialogues.{is_nil, is_active}
use Rattle.tp_model.specs.Arcs.{find_arc}
use Rattle.tp_model.specs.Recovery.{settled}
use Rattle.tp_model.specs.Transactions.{Transaction, Turn, aaid_of, transacted}
use Rattle.tp_model.specs.Node.{Move, move, followed, perform, next_mark, with_mark_drawn, seen, phase_of, turned, remaining, fresh_current, may_begin_on, begin_on}
use Rattle.tp_model.specs.Events.{refusal, action}
use Rattle.tp_model.specs.Promises.{is_bound_of}
use Rattle.tp_steps.specs.Moves.{IsPut, IsLate, prelude, Moves}
use Rattle.tp_steps.specs.Facts.{find_branch}
use Rattle.tp_runs.specs.Bare.{rec_of_tree}
use Rattle.tp_steps.proofs.every.EveryEvent.{every_move}
use Rattle.tp_runs.proofs.Bare.{logged_tree}
use Rattle.tp_steps.proofs.log.Passed.{passed_turn}
use Rattle.tp_steps.proofs.branches.Branched.{row_left, row_seen}
use Rattle.tp_agreement.proofs.Marked.{remaining_key}
use Rattle.tp_agreement.proofs.Settled.{is_bound_phase}
use Rattle.tp_agreement.proofs.SettledAt.{phase_left}
use Rattle.tp_agreement.proofs.Voted.{is_voted_branch, binds_opt, binding_turn}
use Rattle.tp_steps.proofs.every.BeginCases.{begun_over, begin_cases}
use Rattle.tp_steps.proofs.lemmas.Options.{some_same}

abbrev pub VotedAt : Aaid → Digest → Type 0
VotedAt t d = (c : Current) → d.current ≡ Some c → is_aaid t (aaid_of c.key) ≡ true → is_bound_phase c.phase ≡ true → (p : ℕ) (b : Branch) → find_branch c.branches p ≡ Some b → is_voted_branch b ≡ true

abbrev pub BoundNow : Aaid → Digest → Type 0
BoundNow t d = (c : Current) × (d.current ≡ Some c) × (is_aaid t (aaid_of c.key) ≡ true) × (is_bound_phase c.phase ≡ true)

abbrev pub binds_tree : Aaid → Option LogRec → Bool
binds_tree t None = false
binds_tree t (Some r) = is_bound_of t r

pub record BindsAt (t : Aaid) (d : Digest) (m : Move) : Type 0 where
  pub voted : VotedAt t d → VotedAt t m.next
  pub rec : binds_tree t m.rec ≡ true → BoundNow t m.next
  pub stays : m.rec ≡ None → BoundNow t d → BoundNow t m.next

tree_opt : (t : Aaid) (r : Option LogRec) → binds_tree t r ≡ true → binds_opt r ≡ true
tree_opt t (Some (LogRec.Ready n k s cs)) h = refl
tree_opt t (Some (LogRec.Commit n k s cs)) h = refl
tree_opt t _ h = absurd (cc (h))

tree_rec : (t : Aaid) (r : Option LogRec) → binds_tree t r ≡ true → rec_of_tree t r ≡ true
tree_rec t (Some (LogRec.Ready n k s cs)) h = h
tree_rec t (Some (LogRec.Commit n k s cs)) h = h
tree_rec t _ h = absurd (cc (h))

pub late_bound : (v : Phase) → is_bound_phase v ≡ true → is_nil v ≡ false
late_bound v h = grind (arith, h)

pub active_bound : (v : Phase) → is_active v ≡ true → is_bound_phase v ≡ true → ⊥
active_bound v h i = absurd (grind (arith, h, i))

remaining_some : (t : Aaid) (d : Digest) (u : Transaction) → d.current ≡ remaining u → is_bound_phase u.phase ≡ true → is_aaid t (aaid_of u.key) ≡ true → BoundNow t d
remaining_some t d u is bound tree = go (remaining u) refl
  where
    off : is_nil u.phase ≡ false
    off = late_bound u.phase bound

    go : (o : Option Current) → remaining u ≡ o → BoundNow t d
    go None i = absurd (grind (arith, i, off))
    go (Some c) i = (c, is ∙ i, ap (λ (k : Key). is_aaid t (aaid_of k)) (sym (remaining_key u c i)) ∙ tree, ap is_bound_phase (sym (phase_left u c i)) ∙ bound)

same_at : (t : Aaid) (d : Digest) (m : Move) → m.next.current ≡ d.current → binds_tree t m.rec ≡ false → BindsAt t d m
same_at t d m same none = record {
  voted = λ old c at. old c (sym same ∙ at);
  rec = λ h. absurd (cc (h, none));
  stays = λ n b. (b.0, same ∙ b.1, b.2, b.3);
}

keep_binds : (t : Aaid) (k : Kept) (f : KeptEvent) → binds_tree t (settled k f).rec ≡ false
unfolding settled
keep_binds t k (KeptEvent.Done a b r) = grind arith
keep_binds t k KeptEvent.Forget = grind arith
keep_binds t k KeptEvent.Purge = refl

turned_at : (who : Who) (t : Aaid) (f : TxEvent) (d : Digest) (c : Current) → d.current ≡ Some c → IsPut f (seen who d.arcs c) → BindsAt t d (turned who f d c)
turned_at who t f d c now put = record {
  voted = λ old u at tree bound p b found.
      let w = row_left a.next p u b at found in
      let same : u.key ≡ c.key = sym (remaining_key a.next u at) ∙ (passed_turn f q put).key in
      ap is_voted_branch (sym w.2) ∙ (binding_turn f q put).voted (λ k n r h. old c now (ap (λ (j : Key). is_aaid t (aaid_of j)) (sym same) ∙ tree) k n r.branch (row_seen d.arcs c.branches n r h)) (ap is_bound_phase (phase_left a.next u at) ∙ bound) p w.0 w.1;
  rec = λ h.
      let tree = logged_tree t q a.rec a.next (passed_turn f q put).logs (tree_rec t a.rec h) in
      remaining_some t (turned who f d c).next a.next refl ((binding_turn f q put).rec (tree_opt t a.rec h)) (ap (λ (j : Key). is_aaid t (aaid_of j)) ((passed_turn f q put).key) ∙ tree);
  stays = λ n b.
      let same = some_same b.0 c (sym b.1 ∙ now) in
      remaining_some t (turned who f d c).next a.next refl ((binding_turn f q put).stays n (ap (λ (v : Current). is_bound_phase v.phase) (sym same) ∙ b.3))
      (ap (λ (j : Key). is_aaid t (aaid_of j)) ((passed_turn f q put).key) ∙ ap (λ (v : Current). is_aaid t (aaid_of v.key)) (sym same) ∙ b.2);
}
  where
    q : Transaction
    q = seen who d.arcs c

    a : Turn
    a = transacted f q

begins_at : (who : Who) (t : Aaid) (q : ℕ) (d : Digest) → BindsAt t d (begin_on who q d)
begins_at who t q d = begin_cases (BindsAt t d) who q d still on
  where
    still : BindsAt t d (move [] d)
    still = same_at t d (move [] d) refl refl

    on : (c : Current) (a : Arc) → d.current ≡ Some c → find_arc d.arcs q ≡ Some a → may_begin_on who d a ≡ true → BindsAt t d (begun_over who q d c a)
    on c a now found_so may =
        let act : is_active (phase_of d) ≡ true = grind (arith, may) in
        let phase : is_active c.phase ≡ true = rw (now, phase_of) at act in
        record {
          voted = λ old u at tree bound p b found.
              let same = phase_left (transacted (TxEvent.Begun ((record { addr = a.peer; branch = record { superior = who.site; mark = next_mark who d } }) ∷ [])) (seen who (with_mark_drawn d).arcs c)).next u at in
              absurd (active_bound c.phase phase (ap is_bound_phase same ∙ bound));
          rec = λ h. absurd (cc (h));
          stays = λ n b. absurd (active_bound c.phase phase (ap (λ (v : Current). is_bound_phase v.phase) (some_same c b.0 (sym now ∙ b.1)) ∙ b.3));
        }

then_at : (t : Aaid) (d : Digest) (a : Move) (f : Digest → Move) → BindsAt t d a → BindsAt t a.next (f a.next) → BindsAt t d (followed a f)
then_at t d a f one two = record { voted = λ old. two.voted (one.voted old); rec = rec (f a.next).rec refl; stays = stays (f a.next).rec refl }
  where
    rec : (r : Option LogRec) → (f a.next).rec ≡ r → binds_tree t (elim r as (λ _. Option LogRec) [ None ↦ a.rec | Some l ↦ Some l ]) ≡ true → BoundNow t (f a.next).next
    rec None i h = two.stays i (one.rec h)
    rec (Some l) i h = two.rec (ap (binds_tree t) i ∙ h)

    stays : (r : Option LogRec) → (f a.next).rec ≡ r → elim r as (λ _. Option LogRec) [ None ↦ a.rec | Some l ↦ Some l ] ≡ None → BoundNow t d → BoundNow t (f a.next).next
    stays None i h b = two.stays i (one.stays h b)
    stays (Some l) i h b = absurd (cc (h))

moves_at : (who : Who) (e : Event) (t : Aaid) (s : Digest) → Moves who e s (BindsAt t)
moves_at who e t s = record {
  still = λ d. same_at t d (move [] d) refl refl;
  chain = λ d a f one two quiet. then_at t d a f one two;
  speaks = λ d outs h own said. same_at t d (perform outs d) refl refl;
  changes_dialogue = λ d q f m by one. record { voted = one.voted; rec = one.rec; stays = one.stays };
  drops_arc = λ d q m at one. record { voted = one.voted; rec = one.rec; stays = one.stays };
  notes_kept = λ d ks m held one. record { voted = one.voted; rec = one.rec; stays = one.stays };
  keeps = λ d k f held. same_at t d _ refl (keep_binds t k f);
  turns = λ d c f now at asked put gone. turned_at who t f d c now put;
  begins = λ d q free. begins_at who t q d;
  roots = λ d m nil may one. record {
    voted = λ old. one.voted (λ c at tree bound. absurd (fresh _ c at bound));
    rec = one.rec;
    stays = λ n b. absurd (over d b nil);
  };
}
  where
    fresh : (k : Key) (c : Current) → Some (fresh_current k) ≡ Some c → is_bound_phase c.phase ≡ true → ⊥
    fresh k c at bound = let same = some_same (fresh_current k) c at in cc (ap (λ (u : Current). is_bound_phase u.phase) same ∙ bound)

    over : (d : Digest) → BoundNow t d → is_nil (phase_of d) ≡ true → ⊥
    over d b nil = let n : is_nil b.0.phase ≡ true = rw (b.1, phase_of) at nil in cc (late_bound b.0.phase b.3, n)

pub binding_event : (who : Who) (d : Digest) (e : Event) (t : Aaid) → IsLate d → refusal who d e ≡ None → BindsAt t (prelude who d e) (action who d e)
binding_event who d e t late ok = every_move who d e (BindsAt t) (moves_at who e t (prelude who d e)) late ok
