use Rattle.tp_text_builder.proofs.Added.{adds_then}
use Rattle.tp_transcript.proofs.told_words.put_told.Goals as goal

pub returns-in-BeginDialogue : goal.returns-in-BeginDialogue
returns-in-BeginDialogue c = rw c.in-BeginDialogue.is (adds_then c.put_one.ensures (adds_then c.space.ensures (rw c.bits.ensures.value at c.units.ensures)))

pub returns-in-BegunDialogue : goal.returns-in-BegunDialogue
returns-in-BegunDialogue c =
    rw c.in-BegunDialogue.is
    (adds_then c.put_one-in-BegunDialogue.ensures
    (adds_then c.space-in-BegunDialogue.ensures (rw c.bits-in-BegunDialogue.ensures.value at c.units-in-BegunDialogue.ensures)))

pub returns-in-EndDialogue : goal.returns-in-EndDialogue
returns-in-EndDialogue c = rw c.in-EndDialogue.is c.put_one-in-EndDialogue.ensures

pub returns-in-UserData : goal.returns-in-UserData
returns-in-UserData c = rw c.in-UserData.is (adds_then c.put_one-in-UserData.ensures (adds_then c.space-in-UserData.ensures c.octets.ensures))

pub returns-in-AskControl : goal.returns-in-AskControl
returns-in-AskControl c = rw c.in-AskControl.is c.put_one-in-AskControl.ensures

pub returns-in-HandshakeConfirm : goal.returns-in-HandshakeConfirm
returns-in-HandshakeConfirm c = rw c.in-HandshakeConfirm.is c.put_one-in-HandshakeConfirm.ensures

pub returns-in-HandshakeGrant : goal.returns-in-HandshakeGrant
returns-in-HandshakeGrant c = rw c.in-HandshakeGrant.is c.put_one-in-HandshakeGrant.ensures

pub returns-in-BeginTransaction : goal.returns-in-BeginTransaction
returns-in-BeginTransaction c =
    rw c.in-BeginTransaction.is (adds_then c.put_one-in-BeginTransaction.ensures (adds_then c.space-in-BeginTransaction.ensures c.aaid.ensures))

pub returns-in-DeferEnd : goal.returns-in-DeferEnd
returns-in-DeferEnd c = rw c.in-DeferEnd.is c.put_one-in-DeferEnd.ensures

pub returns-in-DeferGrant : goal.returns-in-DeferGrant
returns-in-DeferGrant c = rw c.in-DeferGrant.is c.put_one-in-DeferGrant.ensures

pub returns-in-CommitComplete : goal.returns-in-CommitComplete
returns-in-CommitComplete c = rw c.in-CommitComplete.is c.put_reported.ensures

pub returns-in-HeuristicReport : goal.returns-in-HeuristicReport
returns-in-HeuristicReport c =
    rw c.in-HeuristicReport.is (adds_then c.put_one-in-HeuristicReport.ensures (adds_then c.space-in-HeuristicReport.ensures c.report.ensures))
