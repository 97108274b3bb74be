use Rattle.std.proofs.Common.{◌≡◌, ℕ, Err, rules, ap, sym, ◌∙◌, List}
use Rattle.tp_model.specs.declared.line.Action.{Action}
use Rattle.tp_model.specs.declared.line.Line.{Line}
use Rattle.tp_model.specs.LineReading.{both, number_in, site, fill, words_in, read_by, action_readers}
use Rattle.tp_schedule.specs.Answers.{pair, read_as, Reads}
use Rattle.tp_schedule.proofs.lemmas.Readings.{passed, mapped, plain, both_plain, both_reads}
use Rattle.tp_schedule.proofs.LineForms.{crash_in_form}
use Rattle.tp_schedule.proofs.line_reading.read_crash_in.Goals as goal

pub returns-in_err-site : goal.returns-in_err-site
returns-in_err-site c =
    let is : c.from_residual.result ≡ Err c.in_err-site.field-0.0 = search rules in
    let f = λ (q : (((List ℕ × ℕ) × ℕ) × Action)). Line.CrashIn q.0.0.0 q.0.0.1 q.0.1 q.1 in
    let x = site c.args.site.now in
    let y = number_in 1 99 c.args.call.now in
    let z = fill c.args.octet.now in
    let l = read_by action_readers (words_in c.args.rest.now) in
    let place : c.both-place.result ≡ read_as (both pair x y) = rw (c.both-place.ensures, c.read_site.ensures, c.read_call.ensures) (both_plain x y) in
    let filled : c.both.result ≡ read_as (both pair (both pair x y) z) = rw (c.both.ensures, place, c.read_fill.ensures) (both_plain (both pair x y) z) in
    let read : Reads (both pair (both pair (both pair x y) z) l) c.both-2.result = rw c.both-2.ensures (both_reads (both pair (both pair x y) z) l _ _ (plain _ _ filled) c.read_action-action.ensures) in
    passed f (both pair (both pair (both pair x y) z) l) _ c.both-2.result _ (crash_in_form c.args.site.now c.args.call.now c.args.octet.now (words_in c.args.rest.now)) read (is ∙ ap (mapped f) (sym c.in_err-site.was))

pub returns : goal.returns
returns c =
    let f = λ (q : (((List ℕ × ℕ) × ℕ) × Action)). Line.CrashIn q.0.0.0 q.0.0.1 q.0.1 q.1 in
    let x = site c.args.site.now in
    let y = number_in 1 99 c.args.call.now in
    let z = fill c.args.octet.now in
    let l = read_by action_readers (words_in c.args.rest.now) in
    let place : c.both-place.result ≡ read_as (both pair x y) = rw (c.both-place.ensures, c.read_site.ensures, c.read_call.ensures) (both_plain x y) in
    let filled : c.both.result ≡ read_as (both pair (both pair x y) z) = rw (c.both.ensures, place, c.read_fill.ensures) (both_plain (both pair x y) z) in
    let read : Reads (both pair (both pair (both pair x y) z) l) c.both-2.result = rw c.both-2.ensures (both_reads (both pair (both pair x y) z) l _ _ (plain _ _ filled) c.read_action-action.ensures) in
    passed f (both pair (both pair (both pair x y) z) l) _ c.both-2.result _ (crash_in_form c.args.site.now c.args.call.now c.args.octet.now (words_in c.args.rest.now)) read (ap (mapped f) (sym c.in_ok-site.was))
