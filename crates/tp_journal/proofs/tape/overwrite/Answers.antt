use Rattle.tp_journal.proofs.Formats.{written_anew}
use Rattle.tp_journal.proofs.tape.overwrite.Goals as goal

pub returns-clause-stored : goal.returns-clause-stored
returns-clause-stored g c = written_anew c.args.bytes.now _ _ _ _ c.in_ok-cut.ensures.resized c.in_ok-write_at.ensures.written c.in_ok-sync.ensures.synced
