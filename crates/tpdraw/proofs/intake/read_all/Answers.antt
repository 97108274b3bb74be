use Rattle.std.proofs.Common.{drop, arith}
use Rattle.tpdraw.proofs.Arrived.{came, ended}
use Rattle.tpdraw.proofs.intake.read_all.Goals as goal

pub returns-then-branch-eq0-clause-reads : goal.returns-then-branch-eq0-clause-reads
returns-then-branch-eq0-clause-reads g c all is =
    let so = c.input.invariant.so_far all is in
    ended c.in_ok-pull.field-0 c.input.bytes c.pull.new.bytes so.0 all (g.S.Source.left c.pull.new.source) (c.in_ok-pull.ensures.gains so.0 so.1) c.if-branch-eq0.true so.2

pub input-preserved : goal.input-preserved
input-preserved g c = record {
  so_far = λ all is.
      let so = c.input.invariant.so_far all is in
      let gains = c.in_ok-pull.ensures.gains so.0 so.1 in
      (drop c.in_ok-pull.field-0 so.0, gains.left, came c.in_ok-pull.field-0 c.input.bytes c.pull.new.bytes so.0 all (g.S.Source.left c.pull.new.source) gains so.2);
  kept = omega (arith, c.input.invariant.kept, c.in_ok-pull.ensures.kept);
}
