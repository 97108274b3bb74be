use Rattle.tp_transcript.specs.OutWords.{aaid, branch, maybe}
use Rattle.tp_schedule.proofs.lemmas.Readings.{both_plain}
use Rattle.tp_transcript.proofs.out_values.read_key.Goals as goal

pub returns : goal.returns
returns c = rw (c.both.ensures, c.read_aaid.ensures, c.read_maybe_branch.ensures) (both_plain (aaid c.args.aaid.now) (maybe branch c.args.branch.now))
