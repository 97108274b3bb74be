use Rattle.std.proofs.Common.{◌≡◌, ◌+◌, ◌++◌, ℕ, List, [], ◌∷◌, take, sym, ap, ◌∙◌}
use Rattle.std.proofs.lemmas.List.{take_more}
use Rattle.tp_records.specs.declared.body.Output.{Output}
use Rattle.tp_model.specs.NodeTranscript.{outputs_bytes, written_of}
use Rattle.tp_drive_tool.proofs.Texts.{one_written}
use Rattle.tp_drive_tool.proofs.text.text_of.Goals as goal

pub events-preserved : goal.events-preserved
events-preserved c =
    let i = c.events.outputs-index in
    let xs = c.args.outs.now in
    let x = c.outputs-item.result in
    let over = outputs_bytes (Output.Over ∷ []) in
    let one : take (i + 1) xs ≡ take i xs ++ x ∷ [] = take_more xs i x c.events-test.true ∙ ap (λ (y : List Output). take i xs ++ y ∷ []) (sym c.outputs-item.is) in
    (c.in_ok-put_outputs-2.ensures {u = tt})
    ∙ ap (λ (l : List ℕ). l ++ over) ((c.in_ok-put_outputs.ensures {u = tt}) ∙ ap (λ (l : List ℕ). l ++ outputs_bytes c.as_slice.result.now) c.events.invariant ∙ ap (λ (os : List Output). written_of (take i xs) ++ outputs_bytes os) c.as_slice.ensures)
    ∙ sym (one_written (take i xs) x)
    ∙ ap written_of (sym one)
