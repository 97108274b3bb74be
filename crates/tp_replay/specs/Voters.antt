-- What the members of the program may answer.
use Rattle.std.specs.Prelude.{List}
use Rattle.tp_records.specs.Answers.{Answer, AreWith}
use Rattle.tp_records.specs.declared.request.Request.{Request}
use Rattle.tp_replay.specs.declared.voter.Voter.{Voter}

abbrev pub may_vote : Voter → List Answer → Type 0
may_vote (Voter.Willing m) answers = AreWith Request.Commit answers
may_vote (Voter.Unwilling m) answers = AreWith Request.Rollback answers
