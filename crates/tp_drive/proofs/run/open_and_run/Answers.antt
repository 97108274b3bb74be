use Rattle.std.proofs.Common.{◌≡◌, length, map, sym, ap, subst, arith, rules}
use Rattle.std.specs.List.{All, sum_by}
use Rattle.tp_drive.specs.Crews.{IsOf, stop_of, stake_left}
use Rattle.tp_drive.specs.Endings.{IsLeastStop}
use Rattle.tp_drive.proofs.Begins.{begun_records}
use Rattle.tp_drive.proofs.Outcomes.{lent_back, on_err_all}
use Rattle.tp_drive.proofs.Ran.{fresh_idle}
use Rattle.tp_drive.proofs.run.open_and_run.Goals as goal

pub run_opened-requires-clause-stood : goal.run_opened-requires-clause-stood
run_opened-requires-clause-stood g c = λ κs h. begun_records g.L.Stood.stood g.L.Stood.wide g.L.Begun.opening c.args.name c.args.boot c.requires.begun

-- lanes that were opened have forced nothing
pub returns-in_err-open_lanes-clause-idle : goal.returns-in_err-open_lanes-clause-idle
returns-in_err-open_lanes-clause-idle g c = on_err_all c.from_residual.result _ (fresh_idle g.L.Stood.stood g.L.Stood.wide g.L.Begun.opening c.args.count c.open_lanes.new.lanes.items (begun_records g.L.Stood.stood g.L.Stood.wide g.L.Begun.opening c.args.name c.args.boot c.requires.begun) c.open_lanes.ensures.fresh)

-- the lanes are those that ran
pub returns-clause-stopped : goal.returns-clause-stopped
returns-clause-stopped g c = λ event is.
    let lanes = c.open_lanes.new.lanes in
    let ran = c.run_opened.new.lanes in
    let long : length ran ≡ lanes.len = search rules in
    let all : length lanes.items ≡ lanes.len = search rules in
    let same = lent_back ran lanes.items lanes.len long all in
    let spent = c.run_opened.ensures.stopped event (subst (λ l. IsLeastStop (map stop_of l) event) same is) in
    let counted : lanes.len ≡ c.args.count = c.in_ok-open_lanes.ensures.ok in
    let given : length c.as_mut_slice.result.now ≡ lanes.len = search rules in
    omega (arith, ap (sum_by stake_left) same, spent, counted, given)

-- and are lanes of the log
pub returns-clause-of : goal.returns-clause-of
returns-clause-of g c =
    let lanes = c.open_lanes.new.lanes in
    let ran = c.run_opened.new.lanes in
    let long : length ran ≡ lanes.len = search rules in
    let all : length lanes.items ≡ lanes.len = search rules in
    let same = lent_back ran lanes.items lanes.len long all in
    subst (All (IsOf c.args.log.now)) (sym same) (c.run_opened.ensures.of c.args.log.now (subst (All (IsOf c.args.log.now)) (search rules) c.in_ok-open_lanes.ensures.of))
