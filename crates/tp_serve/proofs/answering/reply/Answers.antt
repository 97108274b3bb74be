use Rattle.std.proofs.Common.{◌≡◌, ◌++◌, List, ℕ, ap, ◌∙◌, sym}
use Rattle.tp_records.specs.declared.body.Output.{Output}
use Rattle.tp_records.specs.Bodies.{output_bytes}
use Rattle.tp_framing.specs.Frames.{frame_bytes}
use Rattle.tp_model.specs.NodeTranscript.{outputs_bytes}
use Rattle.tp_serve.proofs.Replies.{on_ok}
use Rattle.tp_serve.proofs.Runs.{outputs_more}
use Rattle.tp_serve.proofs.answering.reply.Goals as goal

pub returns : goal.returns
returns c =
    let over = frame_bytes (output_bytes Output.Over) in
    on_ok c.put_output.result (c.put_output.new.out ≡ c.put_outputs.new.out ++ over) _
    (λ is.
    is
    ∙ ap (λ (l : List ℕ). l ++ over) ((c.in_ok-put_outputs.ensures {u = tt}) ∙ ap (λ (l : List ℕ). l ++ outputs_bytes c.as_slice.result.now) c.truncate.ensures ∙ ap outputs_bytes c.as_slice.ensures)
    ∙ sym (outputs_more c.args.outputs.now Output.Over))
    c.put_output.ensures
