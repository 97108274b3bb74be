-- Lanes that have done nothing, with one lane more.
use Rattle.std.proofs.Common.{◌≡◌, ℕ, ◌<◌, ◌++◌, nat_lt, Bool, true, false, List, [], ◌∷◌, get_or, length, refl, sym, ◌∙◌, subst, arith}
use Rattle.std.proofs.lemmas.Bool.Decides.{nat_tests}
use Rattle.std.proofs.lemmas.List.{get_or_append_left, get_or_push, length_push}
use Rattle.tp_model.specs.NodeRun.{Opening}
use Rattle.tp_journal.specs.declared.receipts.Receipt.{Receipt}
use Rattle.tp_drive.specs.Crews.{AreFresh}
use Rattle.tp_drive.specs.Works.{Working, IsFresh}

pub fresh_push : (stood : List Receipt) (wide : Bool) (o : Opening) (lanes : ℕ) (ws : List Working) (w : Working) (own : ℕ) → length ws ≡ own → AreFresh stood wide o lanes ws → IsFresh stood wide o lanes own w
    → AreFresh stood wide o lanes (ws ++ w ∷ [])
fresh_push stood wide o lanes ws w own counted all fresh i d h = go (nat_lt i (length ws)) refl
  where
    go : (b : Bool) → nat_lt i (length ws) ≡ b → IsFresh stood wide o lanes i (get_or (ws ++ w ∷ []) i d)
    go true is =
        let here : i < length ws = grind (arith, nat_tests, is) in
        subst (IsFresh stood wide o lanes i) (sym (get_or_append_left ws (w ∷ []) d i here)) (all i d here)
    go false is =
        let last : length ws ≡ i = grind (arith, nat_tests, is, h, length_push ws w) in
        subst (IsFresh stood wide o lanes i) (sym (get_or_push ws w d i last)) (subst (λ n. IsFresh stood wide o lanes n w) (sym counted ∙ last) fresh)
