use Rattle.std.proofs.Common.{◌≡◌, ◌∙◌, false, ap, sym}
use Rattle.std.specs.Option.{is_some}
use Rattle.tp_model.specs.World.{is_site}
use Rattle.tp_world.proofs.Crashing.{IsThere, place_there}
use Rattle.tp_world.proofs.Imaged.{gives_no_image, gives_image}
use Rattle.tp_world.proofs.world.World.image_line.Goals as goal

pub returns-in-None : goal.returns-in-None
returns-in-None c = λ w h.
    let missing : is_site w c.args.site.now ≡ false = sym (c.site.ensures.there w h) ∙ ap is_some c.in-None.is in
    gives_no_image w c.args.site.now c.args.lines.now c.args.lines.now c.args.self.now missing

pub returns-in_ok-push-in-Some : goal.returns-in_ok-push-in-Some
returns-in_ok-push-in-Some c = λ w h.
    let xs = c.args.self.now.sites.items in
    let x = c.index.result.now in
    let s = c.args.site.now in
    let at : IsThere w s xs x = place_there w s xs x c.in-Some.place h.sites (c.in-Some.ensures {u = tt}).place (c.in-Some.ensures {u = tt}).within (sym c.index.ensures) in
    gives_image w s c.args.self.now x c.in_ok-bytes-in-Some.bytes c.args.lines.now c.push.new.self tt h at ((c.in_ok-bytes-in-Some.ensures {u = tt}) ∙ c.bytes.ensures) ((c.in_ok-push-in-Some.ensures {u = tt}).ok)
