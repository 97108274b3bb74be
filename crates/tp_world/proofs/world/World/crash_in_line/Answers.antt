use Rattle.std.proofs.Common.{◌≡◌, true, ap, sym, ◌∙◌, arith}
use Rattle.std.specs.Option.{is_some}
use Rattle.tp_model.specs.Lines.{is_named, stands_at, node_of_action}
use Rattle.tp_model.specs.World.{is_site}
use Rattle.tp_world.proofs.StopDeeds.{site_found, line_gives}
use Rattle.tp_world.proofs.world.World.crash_in_line.Goals as goal

pub returns : goal.returns
returns c = λ w run h.
    let s = c.args.site.now in
    let l = c.args.action.now in
    let stop = c.args.stop.now in
    let there : is_site w s ≡ true = sym (c.site.ensures.there w h) ∙ ap is_some c.in-Some.is in
    let name : is_named w l ≡ true = grind (arith, c.has_names.ensures w h, c.if-not-has_names.false) in
    let here : stands_at w s (node_of_action w l) ≡ true = grind (arith, c.stands_at.ensures w h, c.if-not-stands_at.false) in
    let z = site_found w s there in
    line_gives w s stop.call stop.fill l c.stop_in.result c.args.lines.now c.stop_in.new.lines c.stop_in.new.self there name here
    (c.stop_in.ensures w s z.0 (record { run = run; mirrors = h; site = z.1; at = (c.in-Some.ensures {u = tt}).place }) here)
