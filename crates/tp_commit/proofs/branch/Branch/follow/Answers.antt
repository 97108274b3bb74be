use Rattle.tp_commit.proofs.Courses.{followed}
use Rattle.tp_commit.proofs.branch.Branch.follow.Goals as goal

pub returns-clause-step : goal.returns-clause-step
returns-clause-step c =
    followed
    c.args.course
    c.args.self.now
    c.carry_out.new.self
    c.carry_out-2.new.self
    c.args.step.now
    c.carry_out.new.step
    c.carry_out-2.new.step
    c.carry_out-3.new.step
    c.requires.rec
    c.requires.outs
    c.in_ok-carry_out.ensures.next
    c.in_ok-carry_out.ensures.rec
    c.in_ok-carry_out.ensures.outs
    c.in_ok-carry_out-2.ensures.next
    c.in_ok-carry_out-2.ensures.rec
    c.in_ok-carry_out-2.ensures.outs
    c.in_ok-carry_out-3.ensures.rec
    c.in_ok-carry_out-3.ensures.outs
