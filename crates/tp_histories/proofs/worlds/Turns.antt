-- Turns of a world by their cases: a node comes, declared or not; a site starts again, with its nodes declared or not; and a node is
-- declared later.
use Rattle.std.proofs.Common.{◌≡◌, ℕ, true, false, refl, ap, sym, subst, ◌∙◌, arith, Option, Some, None, List, [], ◌∷◌, ◌++◌}
use Rattle.std.proofs.lemmas.Bool.Decides.{nat_tests}
use Rattle.tp_names.specs.declared.identifiers.Addr.{Addr}
use Rattle.tp_names.specs.Same.{is_name}
use Rattle.tp_model.specs.declared.out_line.LogWords.{LogWords}
use Rattle.tp_model.specs.declared.out_line.OutLine.{OutLine}
use Rattle.tp_model.specs.Parts.{Origin, Event, Entry, Verdict, Answer}
use Rattle.tp_model.specs.Refusal.{number_of as refusal_number}
use Rattle.tp_model.specs.Events.{verdict}
use Rattle.tp_model.specs.History.{digest, answer, entry_of, grown, with_entry, crashed}
use Rattle.tp_model.proofs.Verdicts.{breaks_so}
use Rattle.tp_model.specs.World.{World, Node, Site, number_of, site_of, addr_of, find_node, put_node, addr_at, find_site, put_site}
use Rattle.tp_model.specs.Happenings.{still, WorldTurn, new_site, with_node, booted, declare_again_turn}
use Rattle.tp_histories.proofs.worlds.Nodes.{find_is}

-- ---- a node comes

-- to its site, in the boot that the site is in: `declared_at` and `placed_at` are such turns
abbrev pub turn_at : World → List ℕ → (ℕ → Node) → WorldTurn
turn_at w s made = elim (find_site w.sites s) [
  | Some x ↦ still (with_node w (made x.boot))
  | None ↦ record { world = with_node (record w { sites = w.sites ++ new_site s ∷ [] }) (made 1); lines = OutLine.Log s (LogWords.Boot 1) ∷ []; told = [] }
]

pub by_site : (Q : World → Type 0) (w : World) (s : List ℕ) (made : ℕ → Node) → ((x : Site) → find_site w.sites s ≡ Some x → Q (with_node w (made x.boot)))
    → (find_site w.sites s ≡ None → Q (with_node (record w { sites = w.sites ++ new_site s ∷ [] }) (made 1))) → Q (turn_at w s made).world
by_site Q w s made old new = go (find_site w.sites s) refl
  where
    go : (o : Option Site) → find_site w.sites s ≡ o
        → Q (elim o as (λ _. WorldTurn) [
          | Some x ↦ still (with_node w (made x.boot))
          | None ↦ record { world = with_node (record w { sites = w.sites ++ new_site s ∷ [] }) (made 1); lines = OutLine.Log s (LogWords.Boot 1) ∷ []; told = [] }
        ]).world
    go (Some x) i = old x i
    go None i = new i

-- under the node with that number, where its own number is free: `declare_turn` and `place_turn` are such turns
abbrev pub turn_under : World → ℕ → Option ℕ → (Option Addr → WorldTurn) → WorldTurn
turn_under w n under at = elim (find_node w.nodes n) [
  | Some x ↦ still w
  | None ↦ elim under [ None ↦ at None | Some p ↦ elim (addr_at w p) [ None ↦ still w | Some a ↦ at (Some a) ] ]
]

-- a node has that address, if it is one
abbrev pub IsThere : World → Option Addr → Type 0
IsThere w up = (a : Addr) → up ≡ Some a → (u : Node) × (find_node w.nodes a.node ≡ Some u) × (addr_of u ≡ a)

addr_found : (w : World) (p : ℕ) (a : Addr) → addr_at w p ≡ Some a → (u : Node) × (find_node w.nodes a.node ≡ Some u) × (addr_of u ≡ a)
addr_found w p a h = go (find_node w.nodes p) refl
  where
    go : (o : Option Node) → find_node w.nodes p ≡ o → (u : Node) × (find_node w.nodes a.node ≡ Some u) × (addr_of u ≡ a)
    go None i = let none : None ≡ Some a = rw (i, addr_at) at h in absurd (cc (none))
    go (Some x) i =
        let one : Some (addr_of x) ≡ Some a = rw (i, addr_at) at h in
        let same : addr_of x ≡ a = cc (one) in
        let at : number_of x ≡ p = find_is w.nodes p x i in
        (x, ap (find_node w.nodes) (sym (ap (λ (b : Addr). b.node) same) ∙ at) ∙ i, same)

pub by_superior : (Q : World → Type 0) (w : World) (n : ℕ) (under : Option ℕ) (at : Option Addr → WorldTurn) → Q w
    → (find_node w.nodes n ≡ None → (up : Option Addr) → IsThere w up → Q (at up).world) → Q (turn_under w n under at).world
by_superior Q w n under at same comes = go (find_node w.nodes n) refl
  where
    above : find_node w.nodes n ≡ None → (p : ℕ) (o : Option Addr) → addr_at w p ≡ o → Q (elim o as (λ _. WorldTurn) [ None ↦ still w | Some a ↦ at (Some a) ]).world
    above none p None i = same
    above none p (Some a) i = comes none (Some a) (λ b j. addr_found w p b (i ∙ j))

    below : find_node w.nodes n ≡ None → (u : Option ℕ) → Q (elim u as (λ _. WorldTurn) [ None ↦ at None | Some p ↦ elim (addr_at w p) as (λ _. WorldTurn) [ None ↦ still w | Some a ↦ at (Some a) ] ]).world
    below none None = comes none None (λ b j. absurd (cc (j)))
    below none (Some p) = above none p (addr_at w p) refl

    go : (o : Option Node) → find_node w.nodes n ≡ o
        → Q (elim o as (λ _. WorldTurn) [
          | Some x ↦ still w
          | None ↦ elim under as (λ _. WorldTurn) [ None ↦ at None | Some p ↦ elim (addr_at w p) as (λ _. WorldTurn) [ None ↦ still w | Some a ↦ at (Some a) ] ]
        ]).world
    go (Some x) i = same
    go None i = below i under

-- ---- a site starts again

-- each of its nodes has another history then: it stops, and is declared again or not
abbrev pub restarts : Node → List Entry
restarts n = grown n.origin (crashed n.history) (Event.Declare n.superior)

abbrev pub halts : Node → List Entry
halts n = crashed n.history

abbrev pub anew : (Node → List Entry) → Node → Node
anew h n = record n { history = h n }

-- `restarted_at` and `stopped_at` are such lists
abbrev pub anew_at : (Node → List Entry) → List ℕ → List Node → List Node
anew_at h s [] = []
anew_at h s (n ∷ ns) = elim (is_name (site_of n) s) [ true ↦ anew h n ∷ anew_at h s ns | false ↦ n ∷ anew_at h s ns ]

-- `crash_turn` and `stop_turn` are such turns
abbrev pub turn_anew : (Node → List Entry) → World → List ℕ → WorldTurn
turn_anew h w s = elim (find_site w.sites s) [
  | None ↦ still w
  | Some x ↦ record { world = record w { nodes = anew_at h s w.nodes; sites = put_site w.sites (booted x) }; lines = OutLine.Log s (LogWords.Boot (booted x).boot) ∷ []; told = [] }
]

pub by_start : (Q : World → Type 0) (h : Node → List Entry) (w : World) (s : List ℕ) → (find_site w.sites s ≡ None → Q w)
    → ((x : Site) → find_site w.sites s ≡ Some x → Q (record w { nodes = anew_at h s w.nodes; sites = put_site w.sites (booted x) })) → Q (turn_anew h w s).world
by_start Q h w s same starts = go (find_site w.sites s) refl
  where
    go : (o : Option Site) → find_site w.sites s ≡ o
        → Q (elim o as (λ _. WorldTurn) [
          | None ↦ still w
          | Some x ↦ record { world = record w { nodes = anew_at h s w.nodes; sites = put_site w.sites (booted x) }; lines = OutLine.Log s (LogWords.Boot (booted x).boot) ∷ []; told = [] }
        ]).world
    go None i = same i
    go (Some x) i = starts x i

-- ---- a node is declared

pub declare_entry : (o : Origin) (h : List Entry) (s : Option Addr) (y : Entry) → (answer o h (Event.Declare s)).entry ≡ Some y → y ≡ entry_of o h (Event.Declare s)
declare_entry o h s y is = go (verdict o.who (digest o h) (Event.Declare s)) refl is
  where
    go : (v : Verdict) → verdict o.who (digest o h) (Event.Declare s) ≡ v
        → (elim v as (λ _. Answer) [
          | Verdict.Accepted ↦ record { number = None; entry = Some (entry_of o h (Event.Declare s)) }
          | Verdict.Refused x ↦ record { number = Some (refusal_number x); entry = None }
          | Verdict.Breaks from r ↦ record { number = Some 24; entry = Some (entry_of o h (Event.Break from r)) }
        ]).entry ≡ Some y → y ≡ entry_of o h (Event.Declare s)
    go Verdict.Accepted i k = cc (k)
    go (Verdict.Refused x) i k = absurd (cc (k))
    go (Verdict.Breaks from r) i k = let other : Event.Declare s ≡ Event.Arrive from r = (breaks_so o.who (digest o h) (Event.Declare s) from r i).0 in absurd (cc (other))

-- where it is refused, the node is put where it stands already
put_itself : (ns : List Node) (x : Node) → find_node ns (number_of x) ≡ Some x → put_node ns x ≡ ns
put_itself [] x h = absurd (cc (h))
put_itself (y ∷ ns) x h = grind (arith, nat_tests, h, put_itself ns x)

pub by_declaration : (Q : World → Type 0) (w : World) (n : ℕ) → Q w
    → ((x : Node) (y : Entry) → find_node w.nodes (number_of x) ≡ Some x → (answer x.origin x.history (Event.Declare x.superior)).entry ≡ Some y → Q (record w { nodes = put_node w.nodes (record x { history = y ∷ x.history }) }))
    → Q (declare_again_turn w n).world
by_declaration Q w n same declares = go (find_node w.nodes n) refl
  where
    put : Node → Option Entry → World
    put x o = record w { nodes = put_node w.nodes (record x { history = with_entry o x.history }) }

    entered : (x : Node) → find_node w.nodes (number_of x) ≡ Some x → (o : Option Entry) → (answer x.origin x.history (Event.Declare x.superior)).entry ≡ o → Q (put x o)
    entered x here None i = subst (λ (l : List Node). Q (record w { nodes = l })) (sym (put_itself w.nodes x here)) same
    entered x here (Some y) i = declares x y here i

    go : (o : Option Node) → find_node w.nodes n ≡ o → Q (elim o as (λ _. WorldTurn) [ None ↦ still w | Some x ↦ still (put x (answer x.origin x.history (Event.Declare x.superior)).entry) ]).world
    go None i = same
    go (Some x) i = entered x (ap (find_node w.nodes) (find_is w.nodes n x i) ∙ i) (answer x.origin x.history (Event.Declare x.superior)).entry refl
