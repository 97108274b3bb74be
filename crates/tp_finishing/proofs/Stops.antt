-- One stop of each site leaves no association, and no node active or rolling.
use Rattle.std.proofs.Common.{◌≡◌, ℕ, ◌≤◌, Bool, true, false, refl, ap, sym, subst, ◌∙◌, arith, Option, Some, None, List, [], ◌∷◌, ◌++◌, ◌||◌, length}
use Rattle.tp_names.specs.declared.identifiers.Addr.{Addr}
use Rattle.tp_names.specs.Same.{is_name}
use Rattle.tp_names.proofs.Sames.{name_same, name_self}
use Rattle.tp_model.specs.Parts.{Origin, Event, Entry, Current, Digest}
use Rattle.tp_model.specs.Dialogues.{is_active, is_rolling}
use Rattle.tp_model.specs.Node.{phase_of}
use Rattle.tp_model.specs.Events.{verdict, after_crash, recovered_current}
use Rattle.tp_model.specs.History.{digest, grown, crashed}
use Rattle.tp_model.specs.World.{World, Node, Site, number_of, site_of, find_site}
use Rattle.tp_model.specs.Happenings.{Happening, Crash, restarted, crash_turn, run}
use Rattle.tp_finishing.specs.Doubt.{known_of}
use Rattle.tp_finishing.specs.Quiet.{IsQuietAt, Each, IsStop, StopsQuieten}
use Rattle.tp_finishing.proofs.Sites.{is_some_site, EachNode, nodes_weaker, nodes_found, nodes_restarted, has_site, ArePlaced, placed_run}

-- ---- a node that stopped

recovered_calm : (o : Option Current) (d : Digest) → (is_active (phase_of (record d { current = recovered_current o })) ≡ false) × (is_rolling (phase_of (record d { current = recovered_current o })) ≡ false)
recovered_calm None d = (refl, refl)
recovered_calm (Some c) d = (grind arith, grind arith)

-- it is declared again
pub stopped_is : (o : Origin) (h : List Entry) (s : Option Addr) → digest o (grown o (crashed h) (Event.Declare s)) ≡ record (after_crash (digest o h)) { declared = true; superior = s }
unfolding verdict after_crash
stopped_is o h s = refl

quiet_crash : (d : Digest) (s : Option Addr) → IsQuietAt (record (after_crash d) { declared = true; superior = s })
unfolding after_crash
quiet_crash d s = record { arcs = refl; active = (recovered_calm d.current d).0; rolling = (recovered_calm d.current d).1 }

restarted_quiet : (x : Node) → IsQuietAt (known_of (restarted x))
restarted_quiet x = subst IsQuietAt (sym (stopped_is x.origin x.history x.superior)) (quiet_crash (digest x.origin x.history) x.superior)

-- ---- all sites, one after the other

stops : List Site → List Happening
stops [] = []
stops (x ∷ xs) = Crash x.name ∷ stops xs

is_among : List Site → List ℕ → Bool
is_among [] s = false
is_among (x ∷ xs) s = is_name x.name s || is_among xs s

-- at a site of the world, and quiet if that is one of these
abbrev IsStopped : World → List Site → Node → Type 0
IsStopped w xs x = (has_site w.sites (site_of x) ≡ true) × (is_among xs (site_of x) ≡ true → IsQuietAt (known_of x))

name_swap : (s t : List ℕ) → is_name s t ≡ true → is_name t s ≡ true
name_swap s t h = subst (λ (u : List ℕ). is_name u s ≡ true) (name_same s t h) (name_self s)

-- one site more
stopped_more : (es : List Happening) (xs : List Site) (z : Site) (w : World) → ArePlaced w → EachNode (IsStopped (run es) xs) w.nodes → EachNode (IsStopped (run es) (z ∷ xs)) (crash_turn w z.name).world.nodes
unfolding is_among
stopped_more es xs z w placed old = go (find_site w.sites z.name) refl
  where
    among : (s : List ℕ) (b : Bool) → is_name z.name s ≡ b → b ≡ false → (is_name z.name s || is_among xs s) ≡ true → is_among xs s ≡ true
    among s b i j h = grind (arith, i, j, h)

    none : (x : Node) → has_site w.sites (site_of x) ≡ true → find_site w.sites z.name ≡ None → is_name z.name (site_of x) ≡ false
    none x at i = by (is_name z.name (site_of x)) refl
      where
        by : (b : Bool) → is_name z.name (site_of x) ≡ b → b ≡ false
        by false j = refl
        by true j = absurd (let off : false ≡ true = sym (ap is_some_site i) ∙ ap (has_site w.sites) (name_same z.name (site_of x) j) ∙ at in cc (off))

    go : (o : Option Site) → find_site w.sites z.name ≡ o → EachNode (IsStopped (run es) (z ∷ xs)) (crash_turn w z.name).world.nodes
    go None i = rw (i, crash_turn) (both w.nodes placed old)
      where
        both : (ns : List Node) → EachNode (λ x. has_site w.sites (site_of x) ≡ true) ns → EachNode (IsStopped (run es) xs) ns → EachNode (IsStopped (run es) (z ∷ xs)) ns
        both [] p q = tt
        both (x ∷ ns) p q = ((q.0.0, λ j. q.0.1 (among (site_of x) (is_name z.name (site_of x)) refl (none x p.0 i) j)), both ns p.1 q.1)
    go (Some y) i =
        rw (i, crash_turn) (nodes_restarted (IsStopped (run es) xs) (IsStopped (run es) (z ∷ xs)) z.name w.nodes (λ x j k. (k.0, λ l. restarted_quiet x))
        (λ x j k. (k.0, λ l. k.1 (among (site_of x) (is_name z.name (site_of x)) refl (other x j) l))) old)
      where
        other : (x : Node) → is_name (site_of x) z.name ≡ false → is_name z.name (site_of x) ≡ false
        other x j = by (is_name z.name (site_of x)) refl
          where
            by : (b : Bool) → is_name z.name (site_of x) ≡ b → b ≡ false
            by false k = refl
            by true k = absurd (cc (j, name_swap z.name (site_of x) k))

stopped_all : (es : List Happening) (xs : List Site) → EachNode (IsStopped (run es) xs) (run (stops xs ++ es)).nodes
unfolding stops is_among
stopped_all es [] = nodes_weaker (λ x. has_site (run es).sites (site_of x) ≡ true) (IsStopped (run es) []) (λ x h. (h, λ i. absurd (let off : false ≡ true = i in cc (off)))) (run es).nodes (placed_run es)
stopped_all es (z ∷ xs) = stopped_more es xs z (run (stops xs ++ es)) (placed_run (stops xs ++ es)) (stopped_all es xs)

each_stop : (xs : List Site) → Each IsStop (stops xs)
unfolding stops
each_stop [] = tt
each_stop (x ∷ xs) = (tt, each_stop xs)

many_stops : (xs : List Site) → length (stops xs) ≤ length xs
unfolding stops
many_stops [] = omega arith
many_stops (x ∷ xs) = let rest = many_stops xs in omega (arith, rest)

found_among : (xs : List Site) (s : List ℕ) → has_site xs s ≡ true → is_among xs s ≡ true
unfolding is_among
found_among [] s h = h
found_among (x ∷ xs) s h = go (is_name x.name s) h (found_among xs s)
  where
    go : (b : Bool) → is_some_site (elim b as (λ _. Option Site) [ true ↦ Some x | false ↦ find_site xs s ]) ≡ true → (has_site xs s ≡ true → is_among xs s ≡ true) → (b || is_among xs s) ≡ true
    go true i rest = refl
    go false i rest = rest i

pub stops_quieten : StopsQuieten
stops_quieten es = (
  stops (run es).sites,
  record {
    by = each_stop (run es).sites;
    short = many_stops (run es).sites;
    quiet = λ x here. let k = nodes_found (IsStopped (run es) (run es).sites) (run (stops (run es).sites ++ es)).nodes (number_of x) x (stopped_all es (run es).sites) here in k.1 (found_among (run es).sites (site_of x) k.0);
  },
)
