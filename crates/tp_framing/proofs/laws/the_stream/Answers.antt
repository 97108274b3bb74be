use Rattle.tp_framing.proofs.Streams.{stream_part, stream_bad}
use Rattle.tp_framing.proofs.Splits.{stream_split, stream_whole}
use Rattle.tp_framing.proofs.laws.the_stream.Goals as goal

pub returns : goal.returns
returns c = record { split = stream_split; frames = stream_whole; part = stream_part; bad = stream_bad }
