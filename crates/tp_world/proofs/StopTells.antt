-- The laws of a site's log, for a world that differs from another in nothing that they read.
use Rattle.std.proofs.Common.{◌≡◌, ◌≤◌, ℕ, suc, Bool, true, false, cond, refl, ap, sym, ◌∙◌, subst, arith, Option, Some, None, List, [], ◌∷◌, length, reverse}
use Rattle.std.specs.Option.{is_some}
use Rattle.tp_names.specs.Same.{is_name}
use Rattle.tp_names.proofs.Sames.{name_same, name_self}
use Rattle.tp_logrec.specs.declared.record.LogRec.{LogRec}
use Rattle.tp_logrec.specs.declared.record.LogVersion.{LogVersion}
use Rattle.tp_logrec.specs.Order.{boots}
use Rattle.tp_model.specs.declared.line.Action.{Action}
use Rattle.tp_model.specs.Events.{started}
use Rattle.tp_model.specs.History.{digest}
use Rattle.tp_model.specs.Legal.{is_start}
use Rattle.tp_model.specs.NodeRun.{Opening, boot_of, records_at, origin_at}
use Rattle.tp_model.specs.Parts.{Event, Entry as EntryValue}
use Rattle.tp_model.specs.World.{World, Node, Site, number_of, find_node, find_site, put_site}
use Rattle.tp_model.specs.Happenings.{Happening, Task, Does, happens, task_of, still, after_lines, action_lines, event_turn, entry_turn, WorldTurn}
use Rattle.tp_laws.specs.Expansion.{IsOfRun}
use Rattle.tp_laws.specs.SiteLogs.{log_of, is_in_order, forced_by, one_to, next_opening, TellsItsNodes, StartsNext, DisksTell, DisksStart}
use Rattle.tp_laws.proofs.EveryLog.{disks_tell}
use Rattle.tp_laws.proofs.LineRuns.{of_run}
use Rattle.tp_laws.proofs.NextStart.{disks_start}
use Rattle.tp_world_sites.specs.Standing.{after_entry, entry_answered, number_answered}

-- ---- one site

-- the laws read no more of a site
pub record IsLike (x y : Site) : Type 0 where
  pub name : y.name ≡ x.name
  pub boot : y.boot ≡ x.boot
  pub records : y.disk.records ≡ x.disk.records

pub like_self : (x : Site) → IsLike x x
like_self x = record { name = refl; boot = refl; records = refl }

module _ (w v : World) (x y : Site) (nodes : v.nodes ≡ w.nodes) (like : IsLike x y) where
  log : log_of y ≡ log_of x
  log = ap reverse like.records

  found : (n : Node) → find_node v.nodes (number_of n) ≡ Some n → find_node w.nodes (number_of n) ≡ Some n
  found n h = ap (λ (ns : List Node). find_node ns (number_of n)) (sym nodes) ∙ h

  tells_like : TellsItsNodes w x → TellsItsNodes v y
  tells_like t = record {
    nodes = λ k. ap (records_at k) log ∙ t.nodes k ∙ ap (λ (a : List ℕ). forced_by a (find_node w.nodes k)) (sym like.name) ∙ ap (λ (ns : List Node). forced_by y.name (find_node ns k)) (sym nodes);
    starts = ap boots log ∙ t.starts ∙ ap one_to (sym like.boot);
    last = λ n here on. t.last n (found n here) (ap (is_name n.origin.who.site) (sym like.name) ∙ on) ∙ sym like.boot;
    order = ap is_in_order log ∙ t.order;
  }

  opening : next_opening y ≡ next_opening x
  opening = go y.name x.name (log_of y) (log_of x) like.name log
    where
      go : (a b : List ℕ) (rs qs : List LogRec) → a ≡ b → rs ≡ qs → ◌≡◌ {A = Opening} (record { site = a; version = LogVersion.Two; records = rs }) (record { site = b; version = LogVersion.Two; records = qs })
      go a b rs qs e f = rw (e, f) refl

  starts_like : StartsNext w x → StartsNext v y
  starts_like t = record {
    order = ap (λ (o : Opening). is_in_order o.records) opening ∙ t.order;
    legal = λ k. ap (λ (o : Opening). is_start (origin_at o k)) opening ∙ t.legal k;
    boot = ap boot_of opening ∙ t.boot ∙ ap (λ (n : ℕ). suc n) (sym like.boot);
    most = subst (λ (rs : List LogRec). y.boot ≤ length rs) (sym log) (subst (λ (n : ℕ). n ≤ length (log_of x)) (sym like.boot) t.most);
    nodes = λ n here on. ap (λ (o : Opening). digest (origin_at o (number_of n)) []) opening ∙ t.nodes n (found n here) (ap (is_name n.origin.who.site) (sym like.name) ∙ on);
    others = λ k none. ap (λ (o : Opening). digest (origin_at o k) []) opening ∙ t.others k (ap (records_at k) (sym log) ∙ none) ∙ ap (λ (n : ℕ). started (record { boot = suc n; version = LogVersion.Two; records = [] })) (sym like.boot);
  }

-- ---- all sites

-- each site of the one world is like one of the other
abbrev AreLike : World → World → Type 0
AreLike w v = (s : List ℕ) (y : Site) → find_site v.sites s ≡ Some y → (x : Site) × (find_site w.sites s ≡ Some x) × IsLike x y

all_tell : (w v : World) → v.nodes ≡ w.nodes → AreLike w v → DisksTell w → DisksTell v
all_tell w v nodes like tells s y at = let x = like s y at in tells_like w v x.0 y nodes x.2 (tells s x.0 x.1)

all_start : (w v : World) → v.nodes ≡ w.nodes → AreLike w v → DisksStart w → DisksStart v
all_start w v nodes like starts s y at = let x = like s y at in starts_like w v x.0 y nodes x.2 (starts s x.0 x.1)

-- ---- the world after an event

-- one thing more happens
pub happens_on : (w : World) (e : Happening) → IsOfRun w → IsOfRun (happens w e).world
happens_on w e r = (e ∷ r.0, ap (λ (v : World). (happens v e).world) r.1)

turn_nodes : (w : World) (n : Node) (number : Option ℕ) (ent : Option EntryValue) → (after_entry w n ent).nodes ≡ (entry_turn w n number ent).world.nodes
turn_nodes w n number None = refl
turn_nodes w n number (Some e) = refl

turn_sites : (w : World) (n : Node) (number : Option ℕ) (ent : Option EntryValue) → (entry_turn w n number ent).world.sites ≡ (after_entry w n ent).sites
turn_sites w n number None = refl
turn_sites w n number (Some e) = refl

module _ (w : World) (d : Action) (n : Node) (e : Event) (run : IsOfRun w) (task : task_of w d ≡ Some (record { node = n; event = e })) where
  world_is : (happens w (Does d)).world ≡ (event_turn w n e).world
  world_is = ap (λ (o : Option Task). (elim o as (λ _. WorldTurn) [ None ↦ still w | Some t ↦ after_lines (action_lines d) (event_turn w t.node t.event) ]).world) task

  run_after : IsOfRun (event_turn w n e).world
  run_after = subst IsOfRun world_is (happens_on w (Does d) run)

  nodes : (after_entry w n (entry_answered n e)).nodes ≡ (event_turn w n e).world.nodes
  nodes = turn_nodes w n (number_answered n e) (entry_answered n e)

  like : AreLike (event_turn w n e).world (after_entry w n (entry_answered n e))
  like s y at = (y, ap (λ (ss : List Site). find_site ss s) (turn_sites w n (number_answered n e) (entry_answered n e)) ∙ at, like_self y)

  pub event_tells : DisksTell (after_entry w n (entry_answered n e))
  event_tells = all_tell (event_turn w n e).world (after_entry w n (entry_answered n e)) nodes like (of_run DisksTell disks_tell (event_turn w n e).world run_after)

  pub event_starts : DisksStart (after_entry w n (entry_answered n e))
  event_starts = all_start (event_turn w n e).world (after_entry w n (entry_answered n e)) nodes like (of_run DisksStart disks_start (event_turn w n e).world run_after)

-- ---- another disk, with the same records

pub find_put_site : (ss : List Site) (y : Site) (t : List ℕ) → is_some (find_site ss y.name) ≡ true → find_site (put_site ss y) t ≡ cond (is_name y.name t) (Some y) (find_site ss t)
find_put_site [] y t there = absurd cc
find_put_site (x ∷ ss) y t there = go (is_name x.name y.name) refl (find_put_site ss y t)
  where
    apart : is_name x.name y.name ≡ false → is_name x.name t ≡ true → is_name y.name t ≡ true → ⊥
    apart other one two =
        let same : x.name ≡ y.name = name_same x.name t one ∙ sym (name_same y.name t two) in
        let self : is_name x.name y.name ≡ true = ap (λ (a : List ℕ). is_name a y.name) same ∙ name_self y.name in
        absurd (let clash = sym other ∙ self in cc (clash))

    go : (b : Bool) → is_name x.name y.name ≡ b → (is_some (find_site ss y.name) ≡ true → find_site (put_site ss y) t ≡ cond (is_name y.name t) (Some y) (find_site ss t))
        → find_site (put_site (x ∷ ss) y) t ≡ cond (is_name y.name t) (Some y) (find_site (x ∷ ss) t)
    go true e rest =
        let same : is_name x.name t ≡ is_name y.name t = ap (λ (a : List ℕ). is_name a t) (name_same x.name y.name e) in
        grind (arith, e, same)
    go false e rest =
        let tail = rest (grind (arith, e, there)) in
        grind (arith, e, tail, apart)

module _ (w : World) (x y : Site) (at : find_site w.sites x.name ≡ Some x) (same : IsLike x y) where
  abbrev v : World
  v = record w { sites = put_site w.sites y }

  put_like : AreLike w v
  put_like s u is = go (is_name y.name s) refl
    where
      looked : find_site (put_site w.sites y) s ≡ cond (is_name y.name s) (Some y) (find_site w.sites s)
      looked = find_put_site w.sites y s (ap (λ (a : List ℕ). is_some (find_site w.sites a)) same.name ∙ ap is_some at)

      go : (b : Bool) → is_name y.name s ≡ b → (q : Site) × (find_site w.sites s ≡ Some q) × IsLike q u
      go true here =
          let both : Some u ≡ Some y = sym is ∙ looked ∙ ap (λ (c : Bool). cond c (Some y) (find_site w.sites s)) here in
          let one : u ≡ y = cc (both) in
          (x, ap (find_site w.sites) (sym (sym same.name ∙ name_same y.name s here)) ∙ at, subst (IsLike x) (sym one) same)
      go false there = (u, sym (looked ∙ ap (λ (c : Bool). cond c (Some y) (find_site w.sites s)) there) ∙ is, like_self u)

  pub put_tells : DisksTell w → DisksTell (record w { sites = put_site w.sites y })
  put_tells = all_tell w v refl put_like

  pub put_starts : DisksStart w → DisksStart (record w { sites = put_site w.sites y })
  put_starts = all_start w v refl put_like
