-- The frames of the outputs of one event more.
use Rattle.std.proofs.Common.{◌≡◌, ◌∙◌, ℕ, List, [], ◌∷◌, ◌++◌, sym, ap, append_assoc}
use Rattle.std.proofs.lemmas.List.{append-nil}
use Rattle.tp_records.specs.declared.body.Output.{Output}
use Rattle.tp_model.specs.NodeTranscript.{outputs_bytes, written_of}
use Rattle.tp_serve.proofs.Runs.{outputs_appended, written_appended}

pub one_written : (xs : List (List Output)) (x : List Output) → written_of (xs ++ x ∷ []) ≡ (written_of xs ++ outputs_bytes x) ++ outputs_bytes (Output.Over ∷ [])
one_written xs x =
    let over = outputs_bytes (Output.Over ∷ []) in
    written_appended xs (x ∷ [])
    ∙ ap (λ (l : List ℕ). written_of xs ++ l) (append-nil (outputs_bytes (x ++ Output.Over ∷ [])) ∙ outputs_appended x (Output.Over ∷ []))
    ∙ sym (append_assoc (written_of xs) (outputs_bytes x) over)
