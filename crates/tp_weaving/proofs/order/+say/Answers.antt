-- The first letter is said, and then the others.
use Rattle.std.proofs.Common.{◌∙◌, ◌-◌, drop, take, length, sym, subst}
use Rattle.tp_weaving.specs.Weaving.{Says}
use Rattle.tp_weaving.proofs.Lanes.{one_said, parted}
use Rattle.tp_weaving.proofs.order.+say.Goals as goal

pub returns-in_ok-say-in-len1-up : goal.returns-in_ok-say-in-len1-up
returns-in_ok-say-in-len1-up t c =
    let says = c.args.says.now in
    let m = c.in_ok-copy-in-len1-up.field-0 in
    let more = one_said c.args.said.now c.insert.new.self c.say.new.said m (take (length says - 1) (drop 1 says)) c.in_ok-insert-in-len1-up.ensures c.in_ok-say-in-len1-up.ensures in
    subst (Says c.args.said.now c.say.new.said) (sym (parted says c.first-item.result m c.in-len1-up.len_at_least (c.in_ok-copy-in-len1-up.ensures ∙ c.first-item.is))) more
