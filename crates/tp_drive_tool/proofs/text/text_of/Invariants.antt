use Rattle.std.proofs.Common.{◌≡◌, take}
use Rattle.tp_model.specs.NodeTranscript.{written_of}
use Rattle.tp_drive_tool.proofs.text.text_of.Given as goal

abbrev pub invariant-events : goal.invariant-events
invariant-events l = l.text ≡ written_of (take l.outputs-index l.outs)
