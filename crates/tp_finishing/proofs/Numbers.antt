-- In every legal history no more marks are drawn than there are, and a node that has a transaction takes requests and retries.
use Rattle.std.proofs.Common.{◌≡◌, ℕ, ◌≤◌, Bool, true, false, refl, ap, sym, subst, ◌∙◌, arith, Option, Some, None, List, [], ◌∷◌, nat_lt}
use Rattle.std.proofs.lemmas.Bool.Decides.{nat_tests}
use Rattle.tp_names.specs.declared.identifiers.Addr.{Addr}
use Rattle.tp_model.specs.declared.refusal.Refusal.{Refusal}
use Rattle.tp_model.specs.declared.transaction.TxEvent.{TxEvent}
use Rattle.tp_model.specs.declared.recovery.Kept.{Kept}
use Rattle.tp_model.specs.Parts.{Who, Origin, Event, Entry, Current, Digest, Verdict}
use Rattle.tp_model.specs.Links.{greatest}
use Rattle.tp_model.specs.declared.recovery.KeptEvent.{KeptEvent}
use Rattle.tp_model.specs.Recovery.{owed, settled}
use Rattle.tp_model.specs.Transactions.{transacted}
use Rattle.tp_model.specs.Node.{Move, Passage, Stays, move, perform, passage, passed, is_leaving, seen, transact, turned, started_next, keep}
use Rattle.tp_model.specs.Events.{refusal, verdict_within, may_need_numbers, action, after_crash, started, retry, retry_each, purge}
use Rattle.tp_model.specs.History.{digest}
use Rattle.tp_model.specs.Legal.{IsGrown}
use Rattle.tp_model.proofs.Verdicts.{plainly_none, plainly_not, accepted_by_none}
use Rattle.tp_finishing.proofs.Retries.{same_phase}

-- ---- marks that are drawn

enough : (n : ℕ) → nat_lt greatest n ≡ false → n ≤ greatest
enough n h = grind (arith, nat_tests, h)

spent_less : (who : Who) (d : Digest) (e : Event) → may_need_numbers e ≡ true → refusal who d e ≡ None → (action who d e).next.drawn ≤ greatest
spent_less who d e may ok = enough (action who d e).next.drawn (go (nat_lt greatest (action who d e).next.drawn) refl)
  where
    within : verdict_within who d e ≡ Verdict.Accepted
    within = sym (plainly_not who d e (plainly_none who d e ok)) ∙ accepted_by_none who d e ok

    go : (b : Bool) → nat_lt greatest (action who d e).next.drawn ≡ b → b ≡ false
    go false i = refl
    go true i = absurd (let off : Verdict.Refused Refusal.NumbersSpent ≡ Verdict.Accepted = sym (rw (may, i, verdict_within) refl) ∙ within in cc (off))

calm_drawn : (who : Who) (f : TxEvent) (d : Digest) → ((c : Current) → (transacted f (seen who d.arcs c)).next.phase ≡ c.phase) → (transact who f d).next.drawn ≡ d.drawn
unfolding transact
calm_drawn who f d same = go d.current refl
  where
    go : (o : Option Current) → d.current ≡ o → (elim o as (λ _. Move) [ None ↦ move [] d | Some c ↦ started_next who (passed who f d c) (turned who f d c) ]).next.drawn ≡ d.drawn
    go None i = refl
    go (Some c) i =
        let stays : passed who f d c ≡ Stays = ap (passage (is_leaving f) c.phase) (same c) ∙ same_phase (is_leaving f) c.phase in
        ap (λ (w : Passage). (started_next who w (turned who f d c)).next.drawn) stays

each_drawn : (ks : List Kept) (d : Digest) → (retry_each ks d).next.drawn ≡ d.drawn
each_drawn [] d = refl
each_drawn (k ∷ ks) d = each_drawn ks (perform (owed k) d).next

retry_drawn : (who : Who) (d : Digest) → (retry who d).next.drawn ≡ d.drawn
unfolding retry
retry_drawn who d = each_drawn (transact who TxEvent.Retry d).next.kept (transact who TxEvent.Retry d).next ∙ calm_drawn who TxEvent.Retry d (λ c. refl)

purge_drawn : (d : Digest) → (purge d).next.drawn ≡ d.drawn
unfolding purge
purge_drawn d = go d.kept
  where
    go : (ks : List Kept) → (elim ks as (λ _. Move) [ [] ↦ move [] d | k ∷ js ↦ keep (settled k KeptEvent.Purge) d ]).next.drawn ≡ d.drawn
    go [] = refl
    go (k ∷ ks) = refl

drawn_after : (who : Who) (d : Digest) (e : Event) → d.drawn ≤ greatest → refusal who d e ≡ None → (action who d e).next.drawn ≤ greatest
unfolding after_crash
drawn_after who d (Event.Declare s) h ok = h
drawn_after who d (Event.Do r) h ok = spent_less who d (Event.Do r) refl ok
drawn_after who d (Event.Arrive from r) h ok = spent_less who d (Event.Arrive from r) refl ok
drawn_after who d (Event.Break from r) h ok = spent_less who d (Event.Break from r) refl ok
drawn_after who d (Event.Lose p) h ok = spent_less who d (Event.Lose p) refl ok
drawn_after who d (Event.Heur o) h ok = subst (λ (n : ℕ). n ≤ greatest) (sym (calm_drawn who (TxEvent.Heur o) d (λ c. refl))) h
drawn_after who d (Event.GiveUp p) h ok = spent_less who d (Event.GiveUp p) refl ok
drawn_after who d Event.Retry h ok = subst (λ (n : ℕ). n ≤ greatest) (sym (retry_drawn who d)) h
drawn_after who d Event.Purge h ok = subst (λ (n : ℕ). n ≤ greatest) (sym (purge_drawn d)) h
drawn_after who d Event.Crash h ok = omega arith

pub drawn_law : (o : Origin) (up : Option Addr) (h : List Entry) → IsGrown o up h → (digest o h).drawn ≤ greatest
unfolding started
drawn_law o up [] legal = omega arith
drawn_law o up (e ∷ h) legal = drawn_after o.who (digest o h) e.event (drawn_law o up h legal.3) legal.0
