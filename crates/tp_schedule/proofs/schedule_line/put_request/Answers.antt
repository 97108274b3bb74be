use Rattle.tp_schedule.proofs.schedule_line.put_request.Goals as goal

pub returns-in-EndDialogue : goal.returns-in-EndDialogue
returns-in-EndDialogue c = rw c.in-EndDialogue.is c.put_one.ensures

pub returns-in-AskControl : goal.returns-in-AskControl
returns-in-AskControl c = rw c.in-AskControl.is c.put_one-in-AskControl.ensures

pub returns-in-HandshakeGrant : goal.returns-in-HandshakeGrant
returns-in-HandshakeGrant c = rw c.in-HandshakeGrant.is c.put_one-in-HandshakeGrant.ensures

pub returns-in-BeginTransaction : goal.returns-in-BeginTransaction
returns-in-BeginTransaction c = rw c.in-BeginTransaction.is c.put_one-in-BeginTransaction.ensures

pub returns-in-DeferEnd : goal.returns-in-DeferEnd
returns-in-DeferEnd c = rw c.in-DeferEnd.is c.put_one-in-DeferEnd.ensures

pub returns-in-DeferGrant : goal.returns-in-DeferGrant
returns-in-DeferGrant c = rw c.in-DeferGrant.is c.put_one-in-DeferGrant.ensures

pub returns-in-BeginDialogue : goal.returns-in-BeginDialogue
returns-in-BeginDialogue c = rw c.in-BeginDialogue.is c.put_begin.ensures
