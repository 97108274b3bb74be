use Rattle.tp_names.specs.Bytes.{mark_bytes}
use Rattle.tp_names.proofs.Keeping.{behind_code}
use Rattle.tp_names.proofs.writing.write_maybe_mark.Goals as goal

pub returns-in_ok-write_mark-in-Some-clause-ok : goal.returns-in_ok-write_mark-in-Some-clause-ok
returns-in_ok-write_mark-in-Some-clause-ok c =
    rw c.in-Some.is (behind_code 1 _ _ _ (mark_bytes c.in-Some.mark) c.in_ok-push-in-Some.ensures.ok c.in_ok-write_mark-in-Some.ensures.ok)
