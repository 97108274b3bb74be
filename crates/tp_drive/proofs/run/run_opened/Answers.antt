use Rattle.std.proofs.Common.{◌≡◌, length, arith, rules}
use Rattle.tp_drive.proofs.Ran.{all_one_part, are_run, some_spent}
use Rattle.tp_drive.proofs.Slips.{stays_of}
use Rattle.tp_drive.proofs.run.run_opened.Goals as goal

pub returns-clause-one_part : goal.returns-clause-one_part
returns-clause-one_part g c =
    all_one_part g.L.Stood.stood g.L.Stood.wide g.L.Begun.opening (length c.args.lanes.now) c.args.events.now c.run_lanes.new.lanes (search rules) (λ i d h. c.run_lanes.ensures.worked i d h)

-- each lane did its own
pub returns-clause-run : goal.returns-clause-run
returns-clause-run g c =
    are_run g.L.Stood.stood g.L.Stood.wide g.L.Begun.opening (length c.args.lanes.now) c.args.events.now c.run_lanes.new.lanes c.requires.stood (search rules) (λ i d h. c.run_lanes.ensures.worked i d h)

-- and is a lane of its log as before
pub returns-clause-of : goal.returns-clause-of
returns-clause-of g c = λ log. stays_of log c.args.lanes.now c.run_lanes.new.lanes (search rules) (λ i d h. c.run_lanes.ensures.of i d h)

-- a lane that stopped for another cause than memory has spent its stake
pub returns-clause-stopped : goal.returns-clause-stopped
returns-clause-stopped g c = λ event is.
    let ws = c.run_lanes.new.lanes in
    let same : length ws ≡ length c.args.lanes.now = search rules in
    let spent = some_spent ws event (λ i d h. (c.run_lanes.ensures.worked i d (omega (arith, same, h))).backed) is in
    omega (arith, same, spent)
