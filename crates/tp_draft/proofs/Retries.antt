-- What is said again.
use Rattle.std.specs.List.{slice_get}
use Rattle.tp_model.specs.declared.recovery.KeptEvent.{KeptEvent}
use Rattle.std.proofs.Common.{◌≡◌, ◌≤◌, Option, Some, None, List, [], ◌∷◌, Err, refl, ap, sym, ◌∙◌, arith}
use Rattle.tp_model.specs.declared.transaction.TxEvent.{TxEvent}
use Rattle.tp_model.specs.declared.transaction.TxOut.{TxOut}
use Rattle.tp_model.specs.declared.recovery.Kept.{Kept}
use Rattle.tp_model.specs.Parts.{Who, Digest}
use Rattle.tp_model.specs.Node.{Move, move, followed, perform, transact, keep}
use Rattle.tp_model.specs.Recovery.{owed, settled}
use Rattle.tp_model.specs.Events.{retry, retry_each, purge, needs_numbers}
use Rattle.tp_node.specs.declared.halt.Halt.{Halt}
use Rattle.tp_draft.specs.Draft.{Draft, goes_on, Plays}
use Rattle.tp_draft.proofs.Drafts.{goes_on_twice, still_needs}

pub retry_is : (who : Who) (d : Digest) → retry who d ≡ followed (transact who TxEvent.Retry d) (λ e. retry_each e.kept e)
unfolding retry
retry_is who d = refl

-- saying takes no mark back
pub each_keeps : (ks : List Kept) (d : Digest) → d.drawn ≤ (retry_each ks d).next.drawn
each_keeps [] d = omega arith
each_keeps (k ∷ ks) d = each_keeps ks (perform (owed k) d).next

pub retries_rise : (who : Who) (d : Digest) → d.drawn ≤ (retry_each d.kept d).next.drawn
retries_rise who d = each_keeps d.kept d

pub retry_more : (a : Draft) (k : Kept) (ks : List Kept) → goes_on (goes_on a (λ who. perform (owed k))) (λ who. retry_each ks) ≡ goes_on a (λ who. retry_each (k ∷ ks))
retry_more a k ks = goes_on_twice a (λ who. perform (owed k)) (λ who. retry_each ks)

pub retry_halts : (e : Halt) (a b c d : Draft) (k : Kept) (outs : List TxOut) (ks xs ys : List Kept) → outs ≡ owed k → xs ≡ k ∷ ks → goes_on a (λ who. retry_each xs) ≡ goes_on b (λ who. retry_each ys)
    → Plays (Err e) a c (λ who. perform outs) → Plays (Err e) b d (λ who. retry_each ys)
retry_halts Halt.NoMemory a b c d k outs ks xs ys said is same h = tt
retry_halts Halt.NumbersSpent a b c d k outs ks xs ys said is same h =
    sym (ap (λ (x : Draft). needs_numbers x.move) same)
    ∙ ap (λ (l : List Kept). needs_numbers (followed a.move (retry_each l))) is
    ∙ sym (ap (λ (x : Draft). needs_numbers x.move) (retry_more a k ks))
    ∙ still_needs (followed a.move (perform (owed k))) (retry_each ks) (each_keeps ks (perform (owed k) a.move.next).next) (sym (ap (λ (l : List TxOut). needs_numbers (followed a.move (perform l))) said) ∙ h)

-- ---- the oldest ends

pub purge_oldest : (d : Digest) (k : Kept) → slice_get d.kept 0 ≡ Some k → purge d ≡ keep (settled k KeptEvent.Purge) d
unfolding purge
purge_oldest d k first = go d.kept refl
  where
    the_first : Option Kept → Kept
    the_first None = k
    the_first (Some x) = x

    go : (ks : List Kept) → d.kept ≡ ks → purge d ≡ keep (settled k KeptEvent.Purge) d
    go [] e = absurd (let clash : None ≡ Some k = sym (ap (λ (l : List Kept). slice_get l 0) e) ∙ first in cc)
    go (x ∷ ks) e =
        let same : x ≡ k = ap the_first (sym (ap (λ (l : List Kept). slice_get l 0) e) ∙ first) in
        ap (λ (l : List Kept). elim l as (λ _. Move) [ [] ↦ move [] d | y ∷ ys ↦ keep (settled y KeptEvent.Purge) d ]) e ∙ ap (λ (y : Kept). keep (settled y KeptEvent.Purge) d) same
