use Rattle.tp_framing.proofs.Fronts.{next_frame, next_begins_bad, next_bad_more}
use Rattle.tp_framing.proofs.laws.what_comes_next.Goals as goal

pub returns : goal.returns
returns c = record { frame = next_frame; bad = next_begins_bad; for_good = next_bad_more }
