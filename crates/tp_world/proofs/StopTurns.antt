-- Lines that are shown before a stop, and whether its record has room.
use Rattle.std.proofs.Common.{◌≡◌, ◌++◌, ◌||◌, ℕ, Bool, true, false, nat_le, nat_lt, refl, ap, sym, ◌∙◌, subst, arith, Option, Some, None, Result, Ok, Err, List, [], ◌∷◌, length, append_assoc}
use Rattle.std.proofs.lemmas.Bool.Decides.{nat_tests}
use Rattle.std.specs.Result.{IsErrAnd}
use Rattle.tp_names.specs.Same.{is_name}
use Rattle.tp_names.proofs.Sames.{name_same}
use Rattle.tp_logrec.specs.declared.record.LogRec.{LogRec}
use Rattle.tp_model.specs.declared.out_line.OutLine.{OutLine}
use Rattle.tp_model.specs.declared.verdict.What.{What}
use Rattle.tp_model.specs.Disk.{forced}
use Rattle.tp_model.specs.Happenings.{Task, logged, still, after_lines, stop_in_task, world_with_entry, WorldTurn}
use Rattle.tp_model.specs.Lines.{Fault, Over, has_room, is_full, log_size, most_bytes, within_limits}
use Rattle.tp_model.specs.Parts.{Event, Entry as EntryValue}
use Rattle.tp_model.specs.World.{World, Node, Site, find_site, put_site, site_of}
use Rattle.tp_world.specs.Stops.{forced_in, stop_judged, stop_deed}
use Rattle.tp_world_sites.specs.Standing.{after_entry, entry_answered}
use Rattle.tp_world.specs.World.{Gives}
use Rattle.tp_world_sites.specs.declared.fault.WorldFault.{WorldFault}
use Rattle.tp_world.specs.declared.world.World.{World as CodeWorld}
use Rattle.tp_world_sites.proofs.SiteLists.{full_put, site_name}

-- ---- lines that are shown first

-- a fault does not depend on what was shown
pub fault_same : (f : Fault) (r : Result (Unit {0}) WorldFault) (first before after : List OutLine) (v : CodeWorld) → Gives (Err f) first r after v → Gives (Err f) before r after v
fault_same f (Ok u) first before after v h = absurd h
fault_same f (Err WorldFault.Name) first before after v h = h
fault_same f (Err (WorldFault.Limit what)) first before after v h = h
fault_same f (Err WorldFault.NoMemory) first before after v h = tt

-- what a `?` hands on, of another name of the same result
pub fails_with : (q p : Result WorldTurn Fault) (f : WorldFault) (r : Result (Unit {0}) WorldFault) (before after : List OutLine) (v : CodeWorld) → p ≡ q → IsErrAnd r (λ y. y ≡ f) → Gives q before (Err f) after v → Gives p before r after v
fails_with q p f (Ok u) before after v same h g = absurd h
fails_with q p f (Err y) before after v same h g = subst (λ (e : WorldFault). Gives p before (Err e) after v) (sym h) (subst (λ (t : Result WorldTurn Fault). Gives t before (Err f) after v) (sym same) g)

turn_behind : (ls : List OutLine) (t : WorldTurn) (r : Result (Unit {0}) WorldFault) (before first after : List OutLine) (v : CodeWorld) → first ≡ before ++ ls → Gives (Ok t) first r after v → Gives (Ok (after_lines ls t)) before r after v
turn_behind ls t (Ok u) before first after v start h = (h.0 ∙ ap (λ (l : List OutLine). l ++ t.lines) start ∙ append_assoc before ls t.lines, h.1)
turn_behind ls t (Err WorldFault.Name) before first after v start h = absurd h
turn_behind ls t (Err (WorldFault.Limit what)) before first after v start h = absurd h
turn_behind ls t (Err WorldFault.NoMemory) before first after v start h = tt

pub gives_behind : (ls : List OutLine) (t : WorldTurn) (r : Result (Unit {0}) WorldFault) (before first after : List OutLine) (v : CodeWorld) → first ≡ before ++ ls → Gives (within_limits t) first r after v → Gives (within_limits (after_lines ls t)) before r after v
gives_behind ls t r before first after v start h = go (is_full t.world.sites) (nat_lt 65535 (length t.world.frames)) h
  where
    judged : Bool → Bool → WorldTurn → Result WorldTurn Fault
    judged a b u = elim a as (λ _. Result WorldTurn Fault) [ true ↦ Err (Over What.Log) | false ↦ elim b as (λ _. Result WorldTurn Fault) [ true ↦ Err (Over What.Frames) | false ↦ Ok u ] ]

    go : (a b : Bool) → Gives (judged a b t) first r after v → Gives (judged a b (after_lines ls t)) before r after v
    go true b g = fault_same (Over What.Log) r first before after v g
    go false true g = fault_same (Over What.Frames) r first before after v g
    go false false g = turn_behind ls t r before first after v start g

-- ---- the stop of a task that is here

pub deed_gives : (w : World) (s : List ℕ) (z : Site) (call fill : ℕ) (ls : List OutLine) (t : Task) (r : Result (Unit {0}) WorldFault) (before first after : List OutLine) (v : CodeWorld) → is_name (site_of t.node) z.name ≡ true → first ≡ before ++ ls
    → Gives (stop_judged w s z call fill t) first r after v → Gives (stop_deed w s z call fill ls (Some t)) before r after v
deed_gives w s z call fill ls t r before first after v here start h = go (has_room w s (forced_in t)) h
  where
    here_by : Bool → WorldTurn
    here_by b = elim (elim b as (λ _. Option Task) [ true ↦ Some t | false ↦ None ]) as (λ _. WorldTurn) [ None ↦ still w | Some u ↦ after_lines ls (stop_in_task w z call fill u) ]

    go : (b : Bool) → Gives (elim b as (λ _. Result WorldTurn Fault) [ false ↦ Err (Over What.Log) | true ↦ within_limits (stop_in_task w z call fill t) ]) first r after v
        → Gives (elim b as (λ _. Result WorldTurn Fault) [ false ↦ Err (Over What.Log) | true ↦ within_limits (here_by (is_name (site_of t.node) z.name)) ]) before r after v
    go false g = fault_same (Over What.Log) r first before after v g
    go true g = subst (λ (b : Bool). Gives (within_limits (here_by b)) before r after v) (sym here) (gives_behind ls (stop_in_task w z call fill t) r before first after v start g)

-- ---- room for the record

or_false : (a b : Bool) → (a || b) ≡ false → (a ≡ false) × (b ≡ false)
or_false a b h = (grind (arith, h), grind (arith, h))

-- where one log takes the place of another and a log is full, it is that one
full_one : (ss : List Site) (t : Site) → is_full ss ≡ false → is_full (put_site ss t) ≡ true → nat_lt most_bytes (log_size t.disk.records) ≡ true
full_one [] t none full = absurd cc
full_one (x ∷ ss) t none full = go (is_name x.name t.name) full (λ f. full_one ss t parts.1 f)
  where
    parts : (nat_lt most_bytes (log_size x.disk.records) ≡ false) × (is_full ss ≡ false)
    parts = or_false (nat_lt most_bytes (log_size x.disk.records)) (is_full ss) none

    either : (a b : Bool) → (a || b) ≡ true → b ≡ false → a ≡ true
    either a b h off = grind (arith, h, off)

    other : (a b : Bool) → (a || b) ≡ true → a ≡ false → b ≡ true
    other a b h off = grind (arith, h, off)

    go : (b : Bool) → is_full (elim b as (λ _. List Site) [ true ↦ t ∷ ss | false ↦ x ∷ put_site ss t ]) ≡ true → (is_full (put_site ss t) ≡ true → nat_lt most_bytes (log_size t.disk.records) ≡ true) → nat_lt most_bytes (log_size t.disk.records) ≡ true
    go true h rest = either (nat_lt most_bytes (log_size t.disk.records)) (is_full ss) h parts.1
    go false h rest = rest (other (nat_lt most_bytes (log_size x.disk.records)) (is_full (put_site ss t)) h parts.0)

module _ (w : World) (s : List ℕ) (z : Site) (n : Node) (e : Event) (found : find_site w.sites s ≡ Some z) (here : is_name (site_of n) s ≡ true) where
  name : z.name ≡ s
  name = site_name w.sites s z found

  at_home : find_site w.sites (site_of n) ≡ Some z
  at_home = ap (find_site w.sites) (name_same (site_of n) s here) ∙ found

  logged_sites : (r : LogRec) → elim (find_site w.sites (site_of n)) as (λ _. List Site) [ None ↦ w.sites | Some x ↦ put_site w.sites (record x { disk = forced r x.disk }) ] ≡ put_site w.sites (record z { disk = forced r z.disk })
  logged_sites r = ap (λ (o : Option Site). elim o as (λ _. List Site) [ None ↦ w.sites | Some x ↦ put_site w.sites (record x { disk = forced r x.disk }) ]) at_home

  abbrev room_by : Option Site → LogRec → Bool
  room_by o r = elim o as (λ _. Bool) [ None ↦ true | Some x ↦ nat_le (log_size (r ∷ x.disk.records)) most_bytes ]

  abbrev room_of : (o : Option EntryValue) → Option LogRec
  room_of o = elim o as (λ _. Option LogRec) [ None ↦ None | Some x ↦ x.rec ]

  room_is : (r : LogRec) → has_room w s (Some r) ≡ nat_le (log_size (r ∷ z.disk.records)) most_bytes
  room_is r = ap (λ (o : Option Site). room_by o r) found

  none_there : (o : Option EntryValue) (rec : Option LogRec) → room_of o ≡ rec → is_full w.sites ≡ false → is_full (after_entry w n o).sites ≡ true → has_room w s rec ≡ false
  none_there None rec at none full = absurd (let clash = sym none ∙ full in cc (clash))
  none_there (Some x) rec at none full = by_rec x.rec rec at full
    where
      by_rec : (q rec : Option LogRec) → q ≡ rec → is_full (logged (world_with_entry w n x) n q).sites ≡ true → has_room w s rec ≡ false
      by_rec None rec is f = absurd (let clash = sym none ∙ f in cc (clash))
      by_rec (Some r) rec is f =
          let over : nat_lt most_bytes (log_size (r ∷ z.disk.records)) ≡ true = full_one w.sites (record z { disk = forced r z.disk }) none (sym (ap is_full (logged_sites r)) ∙ f) in
          ap (has_room w s) (sym is) ∙ room_is r ∙ grind (arith, nat_tests, over)

  all_there : (o : Option EntryValue) (rec : Option LogRec) → room_of o ≡ rec → is_full (after_entry w n o).sites ≡ false → has_room w s rec ≡ true
  all_there None rec at free = ap (has_room w s) (sym at)
  all_there (Some x) rec at free = by_rec x.rec rec at free
    where
      by_rec : (q rec : Option LogRec) → q ≡ rec → is_full (logged (world_with_entry w n x) n q).sites ≡ false → has_room w s rec ≡ true
      by_rec None rec is f = ap (has_room w s) (sym is)
      by_rec (Some r) rec is f = ap (has_room w s) (sym is) ∙ room_is r ∙ go (nat_lt most_bytes (log_size (r ∷ z.disk.records))) refl
        where
          go : (b : Bool) → nat_lt most_bytes (log_size (r ∷ z.disk.records)) ≡ b → nat_le (log_size (r ∷ z.disk.records)) most_bytes ≡ true
          go false fits = grind (arith, nat_tests, fits)
          go true over =
              let full : is_full (put_site w.sites (record z { disk = forced r z.disk })) ≡ true = full_put w.sites s z (record z { disk = forced r z.disk }) found name over in
              absurd (let clash = sym full ∙ sym (ap is_full (logged_sites r)) ∙ f in cc (clash))

  pub no_room : is_full w.sites ≡ false → is_full (after_entry w n (entry_answered n e)).sites ≡ true → has_room w s (forced_in (record { node = n; event = e })) ≡ false
  no_room none full = none_there (entry_answered n e) (forced_in (record { node = n; event = e })) refl none full

  pub has_space : is_full (after_entry w n (entry_answered n e)).sites ≡ false → has_room w s (forced_in (record { node = n; event = e })) ≡ true
  has_space free = all_there (entry_answered n e) (forced_in (record { node = n; event = e })) refl free

  -- there is room, and the site stops; or there is none
  pub judged_room : (call fill : ℕ) (r : Result (Unit {0}) WorldFault) (before after : List OutLine) (v : CodeWorld) → is_full (after_entry w n (entry_answered n e)).sites ≡ false
      → Gives (within_limits (stop_in_task w z call fill (record { node = n; event = e }))) before r after v → Gives (stop_judged w s z call fill (record { node = n; event = e })) before r after v
  judged_room call fill r before after v free h =
      subst (λ (b : Bool). Gives (elim b as (λ _. Result WorldTurn Fault) [ false ↦ Err (Over What.Log) | true ↦ within_limits (stop_in_task w z call fill (record { node = n; event = e })) ]) before r after v) (sym (has_space free)) h

  pub judged_full : (call fill : ℕ) (before after : List OutLine) (v : CodeWorld) → is_full w.sites ≡ false → is_full (after_entry w n (entry_answered n e)).sites ≡ true
      → Gives (stop_judged w s z call fill (record { node = n; event = e })) before (Err (WorldFault.Limit What.Log)) after v
  judged_full call fill before after v none full =
      subst (λ (b : Bool). Gives (elim b as (λ _. Result WorldTurn Fault) [ false ↦ Err (Over What.Log) | true ↦ within_limits (stop_in_task w z call fill (record { node = n; event = e })) ]) before (Err (WorldFault.Limit What.Log)) after v) (sym (no_room none full)) refl
