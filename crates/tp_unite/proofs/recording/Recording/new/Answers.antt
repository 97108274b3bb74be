use Rattle.std.proofs.Common.{[]}
use Rattle.tp_unite.proofs.Trees.{none_tells}
use Rattle.tp_unite.proofs.recording.Recording.new.Goals as goal

pub returns : goal.returns
returns c = record {
  places = c.new.ensures;
  arranged = tt;
  apart = tt;
  played = c.new-2.ensures.items;
  trees = none_tells c.new-3.result (c.new-3.ensures []);
}
