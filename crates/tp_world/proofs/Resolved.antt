-- Lines with an event, passes and skips: what they give, once their names and their frame are known.
use Rattle.std.proofs.Common.{◌≡◌, ◌++◌, ◌&&◌, ℕ, Bool, true, refl, ap, sym, subst, ◌∙◌, Option, Some, None, List, [], ◌∷◌, Result, Ok}
use Rattle.tp_model.specs.declared.line.Action.{Action}
use Rattle.tp_model.specs.declared.out_line.OutLine.{OutLine}
use Rattle.tp_model.specs.World.{World, is_node, oldest_between}
use Rattle.tp_model.specs.Happenings.{Does, Mark, happens, WorldTurn}
use Rattle.tp_model.specs.Lines.{Fault, if_named, is_named, resolved, marked, marked_by, action_line, skip_line, shows, within_limits}
use Rattle.tp_world.specs.World.{Mirrors, Gives}
use Rattle.tp_world_sites.specs.declared.fault.WorldFault.{WorldFault}
use Rattle.tp_world.specs.declared.world.World.{World as CodeWorld}
use Rattle.tp_world.proofs.Limits.{gives_ok}

-- ---- names

pub gives_named : (b : Bool) (q : Result WorldTurn Fault) (before after : List OutLine) (r : Result (Unit {0}) WorldFault) (v : CodeWorld) → b ≡ true → Gives q before r after v → Gives (if_named b q) before r after v
gives_named b q before after r v e h = subst (λ (x : Bool). Gives (if_named x q) before r after v) (sym e) h

named : (b : Bool) (r : Result WorldTurn Fault) → b ≡ true → if_named b r ≡ r
named b r e = ap (λ (x : Bool). if_named x r) e

-- ---- an event

abbrev event_by : World → World → Option Action → Result WorldTurn Fault
event_by w v o = elim o [ None ↦ Ok (shows w (OutLine.Nothing ∷ [])) | Some a ↦ within_limits (happens v (Does a)) ]

-- all that the line names is there
pub gives_action : (w : World) (a : Action) (before after : List OutLine) (r : Result (Unit {0}) WorldFault) (v : CodeWorld) → is_named w a ≡ true → resolved w a ≡ Some a → marked_by w a ≡ w
    → Gives (within_limits (happens w (Does a))) before r after v → Gives (action_line w a) before r after v
gives_action w a before after r v name is same h =
    subst (λ (q : Result WorldTurn Fault). Gives q before r after v)
    (sym
    (named (is_named w a) (event_by w (marked_by w a) (resolved w a)) name
    ∙ ap (event_by w (marked_by w a)) is
    ∙ ap (λ (x : World). within_limits (happens x (Does a))) same))
    h

-- ---- passes

abbrev pass_by : World → Option ℕ → Result WorldTurn Fault
pass_by w o = elim o [ None ↦ Ok (shows w (OutLine.Nothing ∷ [])) | Some k ↦ within_limits (happens (happens w (Mark k)).world (Does (Action.Again k))) ]

passed : (w : World) (a b : ℕ) (o : Option ℕ) → (is_node w a && is_node w b) ≡ true → oldest_between w a b ≡ o → action_line w (Action.Pass a b) ≡ pass_by w o
passed w a b o name found =
    named (is_node w a && is_node w b) (event_by w (marked w (oldest_between w a b)) (resolved w (Action.Pass a b))) name
    ∙ ap (λ (q : Option ℕ). event_by w (marked w q) (elim q as (λ _. Option Action) [ None ↦ None | Some k ↦ Some (Action.Again k) ])) found
    ∙ go o
  where
    go : (q : Option ℕ) → event_by w (marked w q) (elim q as (λ _. Option Action) [ None ↦ None | Some k ↦ Some (Action.Again k) ]) ≡ pass_by w q
    go None = refl
    go (Some k) = refl

pub gives_no_pass : (w : World) (a b : ℕ) (before after : List OutLine) (u : Unit {0}) (v : CodeWorld) → (is_node w a && is_node w b) ≡ true → oldest_between w a b ≡ None → Mirrors w v
    → after ≡ before ++ OutLine.Nothing ∷ [] → Gives (action_line w (Action.Pass a b)) before (Ok u) after v
gives_no_pass w a b before after u v name none h lines = gives_ok (action_line w (Action.Pass a b)) (shows w (OutLine.Nothing ∷ [])) before after v u (passed w a b None name none) lines h

pub gives_pass : (w : World) (a b k : ℕ) (before after : List OutLine) (r : Result (Unit {0}) WorldFault) (v : CodeWorld) → (is_node w a && is_node w b) ≡ true → oldest_between w a b ≡ Some k
    → Gives (within_limits (happens (happens w (Mark k)).world (Does (Action.Again k)))) before r after v → Gives (action_line w (Action.Pass a b)) before r after v
gives_pass w a b k before after r v name found h = subst (λ (q : Result WorldTurn Fault). Gives q before r after v) (sym (passed w a b (Some k) name found)) h

-- ---- skips

abbrev skip_by : World → Option ℕ → WorldTurn
skip_by w o = elim o [ None ↦ shows w (OutLine.Nothing ∷ []) | Some k ↦ shows (happens w (Mark k)).world (OutLine.Lost k ∷ []) ]

pub gives_no_skip : (w : World) (a b : ℕ) (before after : List OutLine) (u : Unit {0}) (v : CodeWorld) → (is_node w a && is_node w b) ≡ true → oldest_between w a b ≡ None → Mirrors w v
    → after ≡ before ++ OutLine.Nothing ∷ [] → Gives (if_named (is_node w a && is_node w b) (Ok (skip_line w a b))) before (Ok u) after v
gives_no_skip w a b before after u v name none h lines =
    gives_ok (if_named (is_node w a && is_node w b) (Ok (skip_line w a b))) (shows w (OutLine.Nothing ∷ [])) before after v u
    (named (is_node w a && is_node w b) (Ok (skip_line w a b)) name ∙ ap (λ (o : Option ℕ). Ok (skip_by w o)) none) lines h

pub gives_skip : (w : World) (a b k : ℕ) (before after : List OutLine) (u : Unit {0}) (v : CodeWorld) → (is_node w a && is_node w b) ≡ true → oldest_between w a b ≡ Some k
    → Mirrors (happens w (Mark k)).world v → after ≡ before ++ OutLine.Lost k ∷ [] → Gives (if_named (is_node w a && is_node w b) (Ok (skip_line w a b))) before (Ok u) after v
gives_skip w a b k before after u v name some h lines =
    gives_ok (if_named (is_node w a && is_node w b) (Ok (skip_line w a b))) (shows (happens w (Mark k)).world (OutLine.Lost k ∷ [])) before after v u
    (named (is_node w a && is_node w b) (Ok (skip_line w a b)) name ∙ ap (λ (o : Option ℕ). Ok (skip_by w o)) some) lines h
