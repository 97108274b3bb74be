use Rattle.std.proofs.Common.{◌≡◌, Bool, true, false, ap, sym, ◌∙◌}
use Rattle.std.specs.Option.{is_some}
use Rattle.tp_laws.specs.SiteLogs.{DisksTell, DisksStart}
use Rattle.tp_laws.proofs.EveryLog.{disks_tell}
use Rattle.tp_laws.proofs.LineRuns.{of_run}
use Rattle.tp_laws.proofs.NextStart.{disks_start}
use Rattle.tp_model.specs.Happenings.{crash_turn}
use Rattle.tp_model.specs.Lines.{if_named, within_limits}
use Rattle.tp_model.specs.World.{is_site}
use Rattle.tp_world.proofs.Limits.{gives_name}
use Rattle.tp_world.proofs.Resolved.{gives_named}
use Rattle.tp_world.proofs.world.World.crash_line.Goals as goal

pub returns-in-None : goal.returns-in-None
returns-in-None c = λ w run h.
    let s = c.args.site.now in
    let missing : is_site w s ≡ false = sym (c.site.ensures.there w h) ∙ ap is_some c.in-None.is in
    gives_name (if_named (is_site w s) (within_limits (crash_turn w s))) c.args.lines.now c.args.lines.now c.args.self.now (ap (λ (b : Bool). if_named b (within_limits (crash_turn w s))) missing)

pub returns-in-Some : goal.returns-in-Some
returns-in-Some c = λ w run h.
    let s = c.args.site.now in
    let there : is_site w s ≡ true = sym (c.site.ensures.there w h) ∙ ap is_some c.in-Some.is in
    gives_named (is_site w s) (within_limits (crash_turn w s)) c.args.lines.now c.crash.new.lines c.crash.result c.crash.new.self there
    (c.crash.ensures w s (of_run DisksTell disks_tell w run) (of_run DisksStart disks_start w run) h (c.in-Some.ensures {u = tt}).place)
