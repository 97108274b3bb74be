use Rattle.std.proofs.Common.{map, subst}
use Rattle.clap.specs.Words.{matches_of}
use Rattle.tp_words.specs.DriveLine.{drive_program, found_drive, AnswersDrive}
use Rattle.tp_words.proofs.Drives.{refused_by, refused_plain, taken, taken_plain, unknown_plain}
use Rattle.tp_words.proofs.drive_line.read_drive.Goals as goal

pub returns-in_err-drive-clause-usage : goal.returns-in_err-drive-clause-usage
returns-in_err-drive-clause-usage c =
    refused_by (map (λ w. w.now) c.args.words.now) c.in_err-drive.field-0.0 c.from_residual.result c.in_err-drive.ensures.kinds c.from_residual.ensures.1

pub returns-in_err-drive-clause-plain : goal.returns-in_err-drive-clause-plain
returns-in_err-drive-clause-plain c =
    (refused_plain (map (λ w. w.now) c.args.words.now) c.in_err-drive.field-0.0 c.from_residual.result c.in_err-drive.ensures.kinds c.from_residual.ensures.1).plain

pub returns-in-Some-clause-ok : goal.returns-in-Some-clause-ok
returns-in-Some-clause-ok c =
    let words = map (λ w. w.now) c.args.words.now in
    taken words c.in-Some.drive c.in_ok-drive.ensures.kinds (subst (AnswersDrive (found_drive (matches_of drive_program words))) c.in-Some.is c.in_ok-drive.ensures.given)

pub returns-in-Some-clause-plain : goal.returns-in-Some-clause-plain
returns-in-Some-clause-plain c =
    let words = map (λ w. w.now) c.args.words.now in
    (taken_plain words c.in-Some.drive (subst (AnswersDrive (found_drive (matches_of drive_program words))) c.in-Some.is c.in_ok-drive.ensures.given)).plain

pub returns-in-None-clause-plain : goal.returns-in-None-clause-plain
returns-in-None-clause-plain c =
    let words = map (λ w. w.now) c.args.words.now in
    (unknown_plain words (subst (AnswersDrive (found_drive (matches_of drive_program words))) c.in-None.is c.in_ok-drive.ensures.given)).plain
