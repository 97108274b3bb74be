use Rattle.std.proofs.Common.{◌≡◌, ◌+◌, take, get_or, Option, None, sym, subst, arith}
use Rattle.std.proofs.lemmas.List.{take_more}
use Rattle.tp_drive.specs.declared.stop.Stop.{Stop}
use Rattle.tp_drive.specs.Endings.{EndsSo, ended_after}
use Rattle.tp_drive.proofs.Ends.{ends_push}
use Rattle.tp_drive.proofs.ending.ending_of.Goals as goal

-- with one lane more
pub loop-i-preserved : goal.loop-i-preserved
loop-i-preserved c =
    let stops = c.args.stops.now in
    let i = c.loop-i.i in
    let stop : Option Stop = get_or stops i None in
    let more = take_more stops i None (omega arith) in
    let pushed = ends_push (take i stops) stop c.loop-i.ended c.loop-i.invariant in
    let is : ended_after c.loop-i.ended stop ≡ c.after-ended.result = sym c.after-ended.ensures in
    subst (EndsSo (take (i + 1) stops)) is (subst (λ l. EndsSo l (ended_after c.loop-i.ended stop)) (sym more) pushed)
