use Rattle.std.proofs.Common.{◌++◌, ◌∷◌, [], ℕ, refl, ap, sym, ◌∙◌, subst, Err, List, length, slice_set}
use Rattle.tp_model.specs.declared.out_line.LogWords.{LogWords}
use Rattle.tp_model.specs.declared.out_line.OutLine.{OutLine}
use Rattle.tp_model.specs.Happenings.{crash_turn}
use Rattle.tp_model.specs.Lines.{within_limits}
use Rattle.tp_world.specs.World.{Gives}
use Rattle.tp_world_sites.specs.declared.fault.WorldFault.{WorldFault}
use Rattle.tp_world.specs.declared.world.World.{World as CodeWorld}
use Rattle.tp_world.proofs.Crashing.{gives_crash}
use Rattle.tp_world.proofs.Halted.{set_again}
use Rattle.tp_world.proofs.Restarting.{at, may, unshut, fails, stopped, none, started_here}
use Rattle.tp_world_sites.proofs.Stopping.{memory_only}
use Rattle.tp_world_sites.proofs.Handed.{err_is}
use Rattle.tp_world.proofs.world.World.restart.Goals as goal

pub returns-in_err-next : goal.returns-in_err-next
returns-in_err-next c = λ w s x tells starts place stop.
    let old = c.args.self.now in
    let slot = c.index.result.now in
    let f = c.in_err-next.field-0.0 in
    let j = c.args.journal in
    let lost = c.args.lost.now in
    let may_be = may w s old c.args.place lost j x slot tells starts place stop c.requires c.index.ensures in
    let open_log = unshut w s old c.args.place lost j x slot tells starts place stop c.requires c.index.ensures in
    subst (λ r. Gives (within_limits (crash_turn w s)) c.args.lines.now r c.args.lines.now old) (sym (err_is c.from_residual.result f c.from_residual.ensures.1))
    (fails w s old c.args.place lost j x slot tells starts place stop c.requires c.index.ensures f c.args.lines.now c.args.lines.now old (c.in_err-next.ensures {u = tt} open_log may_be))

pub returns-in_err-restart_nodes : goal.returns-in_err-restart_nodes
returns-in_err-restart_nodes c = λ w s x tells starts place stop.
    let old = c.args.self.now in
    let slot = c.index.result.now in
    let y = c.in_ok-next.next in
    let f = c.in_err-restart_nodes.field-0.0 in
    let j = c.args.journal in
    let lost = c.args.lost.now in
    let new : CodeWorld = record old { nodes = c.restart_nodes.new.nodes } in
    let may_be = may w s old c.args.place lost j x slot tells starts place stop c.requires c.index.ensures in
    let open_log = unshut w s old c.args.place lost j x slot tells starts place stop c.requires c.index.ensures in
    let h = c.in_ok-next.ensures {u = tt} open_log may_be in
    let halts = stopped w s old c.args.place lost j x slot tells starts place stop c.requires c.index.ensures y h c.index-2.result.now c.index-2.ensures in
    let begins = none w s old c.args.place lost j x slot tells starts place stop c.requires c.index.ensures y h in
    let memory = memory_only w.nodes (length w.nodes) y f c.restart_nodes.new.nodes c.restart_nodes.new.next (c.in_err-restart_nodes.ensures {u = tt} w.nodes halts begins) in
    subst (λ r. Gives (within_limits (crash_turn w s)) c.args.lines.now r c.push.new.self new) (sym (err_is c.from_residual-in_err-restart_nodes.result f c.from_residual-in_err-restart_nodes.ensures.1 ∙ ap (λ (g : WorldFault). Err g) memory)) tt

pub returns : goal.returns
returns c = λ w s x tells starts place stop.
    let old = c.args.self.now in
    let slot = c.index.result.now in
    let xs = old.sites.items in
    let y = c.in_ok-next.next in
    let z = c.restart_nodes.new.next in
    let j = c.args.journal in
    let lost = c.args.lost.now in
    let there = at w s old c.args.place lost j x slot tells starts place stop c.requires c.index.ensures in
    let may_be = may w s old c.args.place lost j x slot tells starts place stop c.requires c.index.ensures in
    let open_log = unshut w s old c.args.place lost j x slot tells starts place stop c.requires c.index.ensures in
    let h = c.in_ok-next.ensures {u = tt} open_log may_be in
    let halts = stopped w s old c.args.place lost j x slot tells starts place stop c.requires c.index.ensures y h c.index-2.result.now c.index-2.ensures in
    let begins = none w s old c.args.place lost j x slot tells starts place stop c.requires c.index.ensures y h in
    let to = c.in_ok-restart_nodes.ensures {u = tt} w.nodes halts begins in
    let lines = (c.in_ok-push.ensures {u = tt}).ok ∙ ap (λ (a : List ℕ). c.args.lines.now ++ OutLine.Log a (LogWords.Boot c.boot.result) ∷ []) c.name-site.ensures ∙ ap (λ (n : ℕ). c.args.lines.now ++ OutLine.Log y.site.nodes.site (LogWords.Boot n) ∷ []) c.boot.ensures in
    gives_crash w s (slice_set xs c.args.place x) old.nodes old.frames old.trees.items x stop.sites stop.rest tells starts there y z
    (started_here w s old c.args.place lost j x slot tells starts place stop c.requires c.index.ensures y h) c.restart_nodes.new.nodes to _ c.args.lines.now c.push.new.self tt (set_again xs s c.args.place x z place c.requires stop.name) refl refl refl lines
