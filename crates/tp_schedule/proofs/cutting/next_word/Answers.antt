use Rattle.std.proofs.Common.{◌<◌, length, ap, ◌∙◌, arith, length-drop, eqb-true, sym}
use Rattle.std.proofs.lemmas.Bool.Decides.{nat_tests}
use Rattle.tp_schedule.proofs.lemmas.Cut.{no_word_left, word_behind, to_the_end}
use Rattle.tp_schedule.proofs.cutting.next_word.Goals as goal

pub returns-then-is_empty : goal.returns-then-is_empty
returns-then-is_empty c =
    let bs = c.args.bytes.now in
    let size = ap length (to_the_end bs c.spaces-start.result) ∙ length-drop c.spaces-start.result bs in
    no_word_left bs c.spaces-start.result c.spaces-start.ensures.within c.spaces-start.ensures.before (omega (arith, eqb-true _ _ (sym c.is_empty.ensures ∙ c.if-is_empty.true)))

pub returns : goal.returns
returns c =
    let bs = c.args.bytes.now in
    let size = ap length (to_the_end bs c.spaces-start.result) ∙ length-drop c.spaces-start.result bs in
    let some : c.spaces-start.result < length bs = grind (arith, nat_tests, c.is_empty.ensures, c.if-is_empty.false) in
    word_behind bs _ c.spaces-start.result c.word_len-end.result (to_the_end bs c.spaces-start.result) some c.spaces-start.ensures.before
    (c.spaces-start.ensures.behind some)
    c.word_len-end.ensures.within c.word_len-end.ensures.before c.word_len-end.ensures.behind
