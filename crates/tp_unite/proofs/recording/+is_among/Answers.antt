-- The first lane is of the site of that name, or another one is.
use Rattle.tp_unite.proofs.Laid.{no_lane, first_lane, other_lane}
use Rattle.tp_unite.proofs.recording.+is_among.Goals as goal

pub returns-in-empty : goal.returns-in-empty
returns-in-empty t c = λ qs rs are. no_lane qs rs c.args.lanes.now c.args.name.now c.in-empty.len_below are

pub returns-then-is_name : goal.returns-then-is_name
returns-then-is_name t c = λ qs rs are.
    first_lane qs rs c.args.lanes.now c.first-item.result c.args.name.now c.is_name.result c.in-len1-up.len_at_least c.first-item.is c.is_name.ensures c.if-is_name.true are

pub returns-else-is_name : goal.returns-else-is_name
returns-else-is_name t c = λ qs rs are.
    other_lane qs rs c.args.lanes.now c.first-item.result c.args.name.now c.is_name.result c.is_among.result c.in-len1-up.len_at_least c.first-item.is c.is_name.ensures c.if-is_name.false c.is_among.ensures are
