use Rattle.std.proofs.Common.{◌≡◌, true, refl, ap, sym, ◌∙◌, subst}
use Rattle.tp_model.specs.declared.line.Action.{Action}
use Rattle.tp_model.specs.Lines.{stands_at, node_of_action}
use Rattle.tp_world.specs.Stops.{stop_named}
use Rattle.tp_world.specs.World.{Gives}
use Rattle.tp_world.proofs.StopDeeds.{named_gives}
use Rattle.tp_world.proofs.world.World.stop_in.Goals as goal

pub returns-in-Do : goal.returns-in-Do
returns-in-Do c = λ w s z stops stand.
    let stop = c.args.stop.now in
    let a : Action = Action.Do c.in-Do.node c.in-Do.request in
    let on : stands_at w s (node_of_action w a) ≡ true = ap (λ (l : Action). stands_at w s (node_of_action w l)) (sym c.in-Do.is) ∙ stand in
    subst (λ (l : Action). Gives (stop_named w s stop.call stop.fill l) c.args.lines.now c.stop_request.result c.stop_request.new.lines c.stop_request.new.self) (sym c.in-Do.is)
    (named_gives w s z stop.call stop.fill a c.stop_request.result c.args.lines.now c.stop_request.new.lines c.stop_request.new.self stops.site refl refl (c.stop_request.ensures w s z stops on))

pub returns-in-Again : goal.returns-in-Again
returns-in-Again c = λ w s z stops stand.
    let stop = c.args.stop.now in
    let a : Action = Action.Again c.in-Again.frame in
    let on : stands_at w s (node_of_action w a) ≡ true = ap (λ (l : Action). stands_at w s (node_of_action w l)) (sym c.in-Again.is) ∙ stand in
    subst (λ (l : Action). Gives (stop_named w s stop.call stop.fill l) c.args.lines.now c.stop_delivery.result c.stop_delivery.new.lines c.stop_delivery.new.self) (sym c.in-Again.is)
    (named_gives w s z stop.call stop.fill a c.stop_delivery.result c.args.lines.now c.stop_delivery.new.lines c.stop_delivery.new.self stops.site refl refl (c.stop_delivery.ensures w s z stops on))

pub returns-in-Lose : goal.returns-in-Lose
returns-in-Lose c = λ w s z stops stand.
    let stop = c.args.stop.now in
    let a : Action = Action.Lose c.in-Lose.node c.in-Lose.peer in
    let on : stands_at w s (node_of_action w a) ≡ true = ap (λ (l : Action). stands_at w s (node_of_action w l)) (sym c.in-Lose.is) ∙ stand in
    subst (λ (l : Action). Gives (stop_named w s stop.call stop.fill l) c.args.lines.now c.stop_local.result c.stop_local.new.lines c.stop_local.new.self) (sym c.in-Lose.is)
    (named_gives w s z stop.call stop.fill a c.stop_local.result c.args.lines.now c.stop_local.new.lines c.stop_local.new.self stops.site refl refl (c.stop_local.ensures w s z a stops on refl (λ up. tt)))

pub returns-in-GiveUp : goal.returns-in-GiveUp
returns-in-GiveUp c = λ w s z stops stand.
    let stop = c.args.stop.now in
    let a : Action = Action.GiveUp c.in-GiveUp.node c.in-GiveUp.peer in
    let on : stands_at w s (node_of_action w a) ≡ true = ap (λ (l : Action). stands_at w s (node_of_action w l)) (sym c.in-GiveUp.is) ∙ stand in
    subst (λ (l : Action). Gives (stop_named w s stop.call stop.fill l) c.args.lines.now c.stop_local-in-GiveUp.result c.stop_local-in-GiveUp.new.lines c.stop_local-in-GiveUp.new.self) (sym c.in-GiveUp.is)
    (named_gives w s z stop.call stop.fill a c.stop_local-in-GiveUp.result c.args.lines.now c.stop_local-in-GiveUp.new.lines c.stop_local-in-GiveUp.new.self stops.site refl refl (c.stop_local-in-GiveUp.ensures w s z a stops on refl (λ up. tt)))

pub returns-in-Heur : goal.returns-in-Heur
returns-in-Heur c = λ w s z stops stand.
    let stop = c.args.stop.now in
    let a : Action = Action.Heur c.in-Heur.node c.in-Heur.outcome in
    let on : stands_at w s (node_of_action w a) ≡ true = ap (λ (l : Action). stands_at w s (node_of_action w l)) (sym c.in-Heur.is) ∙ stand in
    subst (λ (l : Action). Gives (stop_named w s stop.call stop.fill l) c.args.lines.now c.stop_local-in-Heur.result c.stop_local-in-Heur.new.lines c.stop_local-in-Heur.new.self) (sym c.in-Heur.is)
    (named_gives w s z stop.call stop.fill a c.stop_local-in-Heur.result c.args.lines.now c.stop_local-in-Heur.new.lines c.stop_local-in-Heur.new.self stops.site refl refl (c.stop_local-in-Heur.ensures w s z a stops on refl (λ up. tt)))

pub returns-in-Retry : goal.returns-in-Retry
returns-in-Retry c = λ w s z stops stand.
    let stop = c.args.stop.now in
    let a : Action = Action.Retry c.in-Retry.node in
    let on : stands_at w s (node_of_action w a) ≡ true = ap (λ (l : Action). stands_at w s (node_of_action w l)) (sym c.in-Retry.is) ∙ stand in
    subst (λ (l : Action). Gives (stop_named w s stop.call stop.fill l) c.args.lines.now c.stop_local-in-Retry.result c.stop_local-in-Retry.new.lines c.stop_local-in-Retry.new.self) (sym c.in-Retry.is)
    (named_gives w s z stop.call stop.fill a c.stop_local-in-Retry.result c.args.lines.now c.stop_local-in-Retry.new.lines c.stop_local-in-Retry.new.self stops.site refl refl (c.stop_local-in-Retry.ensures w s z a stops on refl (λ up. tt)))

pub returns-in-Purge : goal.returns-in-Purge
returns-in-Purge c = λ w s z stops stand.
    let stop = c.args.stop.now in
    let a : Action = Action.Purge c.in-Purge.node in
    let on : stands_at w s (node_of_action w a) ≡ true = ap (λ (l : Action). stands_at w s (node_of_action w l)) (sym c.in-Purge.is) ∙ stand in
    subst (λ (l : Action). Gives (stop_named w s stop.call stop.fill l) c.args.lines.now c.stop_local-in-Purge.result c.stop_local-in-Purge.new.lines c.stop_local-in-Purge.new.self) (sym c.in-Purge.is)
    (named_gives w s z stop.call stop.fill a c.stop_local-in-Purge.result c.args.lines.now c.stop_local-in-Purge.new.lines c.stop_local-in-Purge.new.self stops.site refl refl (c.stop_local-in-Purge.ensures w s z a stops on refl (λ up. tt)))

pub returns-in-Pass : goal.returns-in-Pass
returns-in-Pass c = λ w s z stops stand.
    let stop = c.args.stop.now in
    let a : Action = Action.Pass c.in-Pass.from c.in-Pass.to in
    let on : stands_at w s (node_of_action w a) ≡ true = ap (λ (l : Action). stands_at w s (node_of_action w l)) (sym c.in-Pass.is) ∙ stand in
    subst (λ (l : Action). Gives (stop_named w s stop.call stop.fill l) c.args.lines.now c.stop_pass.result c.stop_pass.new.lines c.stop_pass.new.self) (sym c.in-Pass.is) (c.stop_pass.ensures w s z stops on)
