use Rattle.std.proofs.Common.{◌≡◌, sym, ◌∙◌, ◌∷◌, refl}
use Rattle.tp_model.specs.LineReading.{crash_from, crash_in, words_in}
use Rattle.tp_schedule.proofs.LineForms.{crash_found}
use Rattle.tp_schedule.proofs.line_reading.crash_of.Goals as goal

pub returns : goal.returns
returns c =
    let chain : words_in c.args.bytes.now ≡ c.in-Some.site.now ∷ c.in-Some-next_word.at.now ∷ c.in-Some-next_word-2.call.now ∷ c.in-Some-next_word-3.fill.now ∷ c.in-Some-next_word-4.octet.now ∷ c.in-Some-next_word-5.within.now ∷ words_in c.in-Some-next_word-5.rest.now =
    rw (c.in-Some.ensures, c.in-Some-next_word.ensures, c.in-Some-next_word-2.ensures, c.in-Some-next_word-3.ensures, c.in-Some-next_word-4.ensures, c.in-Some-next_word-5.ensures) refl in
    let found : crash_from (words_in c.args.bytes.now) ≡ crash_in c.in-Some.site.now c.in-Some-next_word-2.call.now c.in-Some-next_word-4.octet.now (words_in c.in-Some-next_word-5.rest.now) =
    crash_found c.args.bytes.now _ _ _ _ _ _ _ chain
    (sym c.is_word.ensures ∙ c.if-not-is_word.false)
    (sym c.is_word-else-not-is_word.ensures ∙ c.if-not-is_word-2.false)
    (sym c.is_word-else-not-is_word-2.ensures ∙ c.if-not-is_word-3.false) in
    rw found c.read_crash_in.ensures
