-- No node is asked.
use Rattle.tp_unite.proofs.Played.{declined}
use Rattle.tp_unite.proofs.playing.Playing.decline.Goals as goal

pub returns : goal.returns
returns c = λ qs r g k is asks.
    let plain = c.plain.ensures in
    declined qs r c.args.self.now is g k c.push.new.self c.plain.result c.args.at asks c.in_ok-push.ensures.name c.in_ok-push.ensures.taken c.in_ok-push.ensures.steps (record { says = plain.says; needs = plain.needs }) plain.at
