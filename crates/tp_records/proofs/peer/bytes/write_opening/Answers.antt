use Rattle.tp_names.specs.Bytes.{mark_bytes}
use Rattle.tp_names.proofs.Keeping.{behind_code}
use Rattle.tp_records.specs.Openings.{opening}
use Rattle.tp_records.proofs.peer.bytes.write_opening.Goals as goal

pub returns-clause-ok : goal.returns-clause-ok
unfolding opening
returns-clause-ok c = behind_code c.args.code _ _ _ (mark_bytes c.args.x.now) c.in_ok-push.ensures.ok c.in_ok-write_mark.ensures.ok
