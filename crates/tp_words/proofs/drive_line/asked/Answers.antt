use Rattle.std.proofs.Common.{◌≡◌, ◌∙◌, ap, sym, subst, codes, ℕ, List, Option, Some, None, if◌then◌else◌}
use Rattle.std.specs.Option.{option_map_or}
use Rattle.clap.specs.Words.{found_of, rows_of}
use Rattle.clap.proofs.WalkLemmas.{first_value-rows, one_text-rows}
use Rattle.tp_names.specs.Bytes.{is_site_name}
use Rattle.tp_words.specs.declared.drive.Drive.{Drive}
use Rattle.tp_words.specs.CommandLine.{number_of}
use Rattle.tp_words.specs.DriveLine.{found_drive, AnswersDrive}
use Rattle.tp_words.proofs.Drives.{no_site, a_site}
use Rattle.tp_words.proofs.Numbers.{text_or}
use Rattle.tp_words.proofs.drive_line.asked.Goals as goal

pub returns-in_err-name : goal.returns-in_err-name
returns-in_err-name c =
    let f = found_of c.args.matches.now in
    let s = found_drive (rows_of f) in
    let name : c.unwrap_or.result.now ≡ s.name = text_or _ _ _ _ (c.get_str.ensures ∙ first_value-rows f (codes "name")) c.unwrap_or.ensures in
    let bytes : c.as_bytes.result.now ≡ s.name = c.as_bytes.ensures.value ∙ name in
    let none : (if is_site_name s.name then Some s.name else None) ≡ None = ap (λ (b : List ℕ). if is_site_name b then Some b else None) (sym bytes) ∙ sym c.new.ensures ∙ c.in_err-name.was in
    subst (λ (d : Option Drive). AnswersDrive s d) (sym c.from_residual.ensures) (no_site s.name none)

pub returns : goal.returns
returns c =
    let f = found_of c.args.matches.now in
    let s = found_drive (rows_of f) in
    let name : c.unwrap_or.result.now ≡ s.name = text_or _ _ _ _ (c.get_str.ensures ∙ first_value-rows f (codes "name")) c.unwrap_or.ensures in
    let bytes : c.as_bytes.result.now ≡ s.name = c.as_bytes.ensures.value ∙ name in
    let some : (if is_site_name s.name then Some s.name else None) ≡ Some c.in_ok-name.name = ap (λ (b : List ℕ). if is_site_name b then Some b else None) (sym bytes) ∙ sym c.new.ensures ∙ c.in_ok-name.was in
    let site = a_site s.name c.in_ok-name.name some in
    (site.0, (site.1, c.number-workers.ensures ∙ ap (λ t. option_map_or number_of t 1) (one_text-rows f (codes "workers"))))
