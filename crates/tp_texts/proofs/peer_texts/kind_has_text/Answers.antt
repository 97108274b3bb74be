-- What is shown of a record of each kind.
use Rattle.tp_texts.proofs.peer_texts.kind_has_text.Goals as goal

pub returns-in-OpenAssoc : goal.returns-in-OpenAssoc
returns-in-OpenAssoc c = rw c.in-OpenAssoc.is c.open_has_text.ensures

pub returns-in-AcceptAssoc : goal.returns-in-AcceptAssoc
returns-in-AcceptAssoc c = rw c.in-AcceptAssoc.is c.accept_has_text.ensures

pub returns-in-ShutAssoc : goal.returns-in-ShutAssoc
returns-in-ShutAssoc c = rw c.in-ShutAssoc.is c.shut_has_text.ensures

pub returns-in-OnAssoc : goal.returns-in-OnAssoc
returns-in-OnAssoc c = rw c.in-OnAssoc.is c.on_assoc_has_text.ensures

pub returns-in-RecReady : goal.returns-in-RecReady
returns-in-RecReady c = rw c.in-RecReady.is c.names_have_text.ensures.ready

pub returns-in-RecCommit : goal.returns-in-RecCommit
returns-in-RecCommit c = rw c.in-RecCommit.is c.names_have_text-in-RecCommit.ensures.commit

pub returns-in-RecReply : goal.returns-in-RecReply
returns-in-RecReply c = rw c.in-RecReply.is c.reply_has_text.ensures

pub returns-in-Forget : goal.returns-in-Forget
returns-in-Forget c = rw c.in-Forget.is c.names_have_text-in-Forget.ensures.forget
