use Rattle.std.proofs.Common.{take}
use Rattle.tp_text_builder.specs.Written.{Adds}
use Rattle.tp_model.specs.OutText.{out_texts}
use Rattle.tp_replay.proofs.playing.put_texts.Given as goal

abbrev pub invariant-loop-line : goal.invariant-loop-line
invariant-loop-line l = Adds l.fn.text (out_texts (take l.line-index l.line-items)) l.text
