use Rattle.tp_commit.proofs.Behind.{behind_asks, behind_stands, behind_over}
use Rattle.tp_commit.proofs.Touched.{begins_behind}
use Rattle.tp_commit.proofs.laws.a_branch_stands_behind_every_event.Goals as goal

pub returns : goal.returns
returns c = record {
  asks = behind_asks;
  stands = λ who f d o u arcs among k ok h. (behind_stands who f d o u arcs among k ok h).0;
  keeps = λ who f d o u arcs among k ok h. (behind_stands who f d o u arcs among k ok h).1;
  over = behind_over;
  begins = λ who p d o u a now found may h. (begins_behind who p d o u a now found may h).stands;
  begins_keep = λ who p d o u a among now found may h. (begins_behind who p d o u a now found may h).among among;
}
