use Rattle.std.proofs.Common.{ℕ, ◌+◌, List, take, sym, subst}
use Rattle.tp_schedule.proofs.lemmas.Cut.{to_the_end}
use Rattle.tpdraw.specs.Transcripts.{IsNext}
use Rattle.tpdraw.proofs.Lines.{cut_first, cut_last, nothing_left, some_bytes}
use Rattle.tpdraw.proofs.next_line.next_line.Goals as goal

pub returns-in-Some : goal.returns-in-Some
returns-in-Some c =
    let bs = c.args.bytes.now in
    let at = c.in-Some.at in
    subst (λ (t : List ℕ). IsNext bs (take at bs) t) (sym (to_the_end bs (at + 1))) (cut_first bs at c.in-Some.ensures)

pub returns-in-None : goal.returns-in-None
returns-in-None c =
    let bs = c.args.bytes.now in
    subst (λ (t : List ℕ). IsNext bs bs t) (sym (nothing_left bs)) (cut_last bs (some_bytes bs c.is_empty.result c.is_empty.ensures c.if-is_empty.false) c.in-None.ensures)
