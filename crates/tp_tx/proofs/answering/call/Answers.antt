-- Each call is taken by the node's number and where the program stands.
use Rattle.std.proofs.Common.{sym, subst, []}
use Rattle.tp_records.specs.declared.request.Request.{Request}
use Rattle.tp_records.specs.declared.body.Event.{Event as Given}
use Rattle.tx_face.specs.Stands.{takes_begin, takes_commit, takes_rollback, takes_finish}
use Rattle.tx_face.specs.Face.{is_fed}
use Rattle.tp_tx.specs.declared.frame.Frame.{Frame}
use Rattle.tp_tx.specs.Transcript.{asks, stand_after}
use Rattle.tp_tx.specs.Progress.{CallsFor}
use Rattle.tp_tx.proofs.Calling.{called}
use Rattle.tp_tx.proofs.answering.call.Goals as goal

pub returns-in-Event-clause-calls : goal.returns-in-Event-clause-calls
returns-in-Event-clause-calls g c = λ o gs at node.
    subst (λ (f : Frame). CallsFor g.K.Keeper.standing o gs (asks (stand_after o gs) f) c.args.face.now c.feed.result c.feed.new.self) (sym c.in-Event.is)
    (called g.K.Keeper.standing o gs c.args.face.now (λ n s. is_fed n c.in-Event.event) (λ n. c.in-Event.event) c.feed.result c.feed.new.self at node c.feed.ensures.calls (c.feed.ensures.goes o gs [] at))

pub returns-in-Begin-clause-calls : goal.returns-in-Begin-clause-calls
returns-in-Begin-clause-calls g c = λ o gs at node.
    subst (λ (f : Frame). CallsFor g.K.Keeper.standing o gs (asks (stand_after o gs) f) c.args.face.now c.begin.result c.begin.new.self) (sym c.in-Begin.is)
    (called g.K.Keeper.standing o gs c.args.face.now (λ n s. takes_begin s) (λ n. Given.Do n (Request.BeginTransaction c.in-Begin.peer)) c.begin.result c.begin.new.self at node c.begin.ensures.calls (c.begin.ensures.goes o gs [] at))

pub returns-in-Commit-clause-calls : goal.returns-in-Commit-clause-calls
returns-in-Commit-clause-calls g c = λ o gs at node.
    subst (λ (f : Frame). CallsFor g.K.Keeper.standing o gs (asks (stand_after o gs) f) c.args.face.now c.commit.result c.commit.new.self) (sym c.in-Commit.is)
    (called g.K.Keeper.standing o gs c.args.face.now (λ n s. takes_commit s) (λ n. Given.Do n Request.Commit) c.commit.result c.commit.new.self at node c.commit.ensures.calls (c.commit.ensures.goes o gs [] at))

pub returns-in-Rollback-clause-calls : goal.returns-in-Rollback-clause-calls
returns-in-Rollback-clause-calls g c = λ o gs at node.
    subst (λ (f : Frame). CallsFor g.K.Keeper.standing o gs (asks (stand_after o gs) f) c.args.face.now c.rollback.result c.rollback.new.self) (sym c.in-Rollback.is)
    (called g.K.Keeper.standing o gs c.args.face.now (λ n s. takes_rollback s) (λ n. Given.Do n Request.Rollback) c.rollback.result c.rollback.new.self at node c.rollback.ensures.calls (c.rollback.ensures.goes o gs [] at))

pub returns-in-Finish-clause-calls : goal.returns-in-Finish-clause-calls
returns-in-Finish-clause-calls g c = λ o gs at node.
    subst (λ (f : Frame). CallsFor g.K.Keeper.standing o gs (asks (stand_after o gs) f) c.args.face.now c.finish.result c.finish.new.self) (sym c.in-Finish.is)
    (called g.K.Keeper.standing o gs c.args.face.now (λ n s. takes_finish s) (λ n. Given.Do n Request.Done) c.finish.result c.finish.new.self at node c.finish.ensures.calls (c.finish.ensures.goes o gs [] at))
