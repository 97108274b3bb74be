use Rattle.std.proofs.Common.{◌≡◌, ◌+◌, ◌++◌, ℕ, List, [], ◌∷◌, take, sym, ap, ◌∙◌, append_assoc}
use Rattle.std.proofs.lemmas.List.{take_more}
use Rattle.tp_records.specs.declared.body.Output.{Output}
use Rattle.tp_records.specs.Bodies.{output_bytes}
use Rattle.tp_framing.specs.Frames.{frame_bytes}
use Rattle.tp_model.specs.NodeTranscript.{outputs_bytes}
use Rattle.tp_serve.proofs.Runs.{outputs_more}
use Rattle.tp_serve.proofs.outgoing.put_outputs.Goals as goal

pub loop-output-preserved : goal.loop-output-preserved
loop-output-preserved c =
    let i = c.loop-output.output-index in
    let xs = c.args.outputs.now in
    let x = c.output-item.result in
    let before = c.args.out.now in
    let one : take (i + 1) xs ≡ take i xs ++ x ∷ [] = take_more xs i x (c.loop-output-test.true) ∙ ap (λ (y : Output). take i xs ++ y ∷ []) (sym c.output-item.is) in
    (c.in_ok-put_output.ensures {u = tt})
    ∙ ap (λ (l : List ℕ). l ++ frame_bytes (output_bytes x)) c.loop-output.invariant
    ∙ append_assoc before (outputs_bytes (take i xs)) (frame_bytes (output_bytes x))
    ∙ ap (λ (l : List ℕ). before ++ l) (sym (outputs_more (take i xs) x) ∙ ap outputs_bytes (sym one))
