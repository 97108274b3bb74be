use Rattle.tp_commit.proofs.Known.{begun_known, ready_known, committing_known, known_stands, begun_in_order, found_in_order}
use Rattle.tp_commit.proofs.laws.a_branch_is_what_is_known.Goals as goal

pub returns : goal.returns
returns c = record {
  begun = begun_known;
  ready = ready_known;
  committing = committing_known;
  stands = known_stands;
  begun_in_order = begun_in_order;
  found_in_order = found_in_order;
}
