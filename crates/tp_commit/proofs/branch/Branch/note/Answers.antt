use Rattle.std.proofs.Common.{sym, ◌∙◌}
use Rattle.tp_commit.proofs.Notes.{noted_row}
use Rattle.tp_commit.proofs.branch.Branch.note.Goals as goal

pub returns : goal.returns
returns c = c.note_at.ensures ∙ sym (noted_row c.args.self.now c.args.arc c.args.note)
