-- The first record that does not follow those before it stands at the place that the definitions tell.
use Rattle.std.proofs.Common.{◌≡◌, ℕ, zero, suc, ◌+◌, ◌<◌, Bool, true, false, Option, Some, None, List, [], ◌∷◌, ◌++◌, length, take, slice_index_or, refl, sym, ap, ◌∙◌, arith, append_assoc}
use Rattle.std.proofs.lemmas.List.{append-nil}
use Rattle.tp_names.proofs.Sames.{both}
use Rattle.tp_logrec.specs.declared.record.LogRec.{LogRec}
use Rattle.tp_logrec.specs.Order.{follows, follow_from}
use Rattle.tp_model.specs.LogCommands.{disordered}
use Rattle.tp_journal.specs.declared.receipts.Receipt.{Receipt}
use Rattle.tp_journal.specs.Records.{text, receipts_from}
use Rattle.tp_log_tools.specs.Readings.{as_placed}

pub receipts_length : (wide : Bool) (at : ℕ) (rs : List LogRec) → length (receipts_from at wide rs) ≡ length rs
receipts_length wide at [] = refl
receipts_length wide at (r ∷ rs) = ap suc (receipts_length wide (at + 3 + length (text wide r)) rs)

module _ (wide : Bool) where
  -- the rest, where the record follows, and its place, where it doesn't
  first_follows : (before : List LogRec) (at : ℕ) (r : LogRec) (rs : List LogRec) → follows before r ≡ true
      → disordered before (as_placed (receipts_from at wide (r ∷ rs))) ≡ disordered (before ++ r ∷ []) (as_placed (receipts_from (at + 3 + length (text wide r)) wide rs))
  first_follows before at r rs e =
      ap (λ (t : Bool). elim t as (λ _. Option ℕ) [ true ↦ disordered (before ++ r ∷ []) (as_placed (receipts_from (at + 3 + length (text wide r)) wide rs)) | false ↦ Some at ]) e

  first_breaks : (before : List LogRec) (at : ℕ) (r : LogRec) (rs : List LogRec) → follows before r ≡ false → disordered before (as_placed (receipts_from at wide (r ∷ rs))) ≡ Some at
  first_breaks before at r rs e =
      ap (λ (t : Bool). elim t as (λ _. Option ℕ) [ true ↦ disordered (before ++ r ∷ []) (as_placed (receipts_from (at + 3 + length (text wide r)) wide rs)) | false ↦ Some at ]) e

  pub all_in_order : (before : List LogRec) (at : ℕ) (rs : List LogRec) → follow_from before rs ≡ true → disordered before (as_placed (receipts_from at wide rs)) ≡ None
  all_in_order before at [] order = refl
  all_in_order before at (r ∷ rs) order =
      let p = both (follows before r) (follow_from (before ++ r ∷ []) rs) order in
      first_follows before at r rs p.0 ∙ all_in_order (before ++ r ∷ []) (at + 3 + length (text wide r)) rs p.1

  pub breaks_at : (before : List LogRec) (at : ℕ) (rs : List LogRec) (i : ℕ) (e : Receipt) → i < length rs → follow_from before (take i rs) ≡ true
      → ((d : LogRec) → follows (before ++ take i rs) (slice_index_or rs i d) ≡ false) → disordered before (as_placed (receipts_from at wide rs)) ≡ Some (slice_index_or (receipts_from at wide rs) i e).place
  breaks_at before at [] i e below order broken = absurd (omega arith)
  breaks_at before at (r ∷ rs) zero e below order broken = first_breaks before at r rs (ap (λ l. follows l r) (sym (append-nil before)) ∙ broken r)
  breaks_at before at (r ∷ rs) (suc i) e below order broken =
      let p = both (follows before r) (follow_from (before ++ r ∷ []) (take i rs)) order in
      first_follows before at r rs p.0
      ∙ breaks_at (before ++ r ∷ []) (at + 3 + length (text wide r)) rs i e (omega arith) p.1 (λ d. ap (λ l. follows l (slice_index_or rs i d)) (append_assoc before (r ∷ []) (take i rs)) ∙ broken d)
