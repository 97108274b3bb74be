-- A node gains an entry, and what is kept of it is what its history tells.
use Rattle.std.proofs.Common.{◌≡◌, ◌==◌, ◌&&◌, ◌++◌, not, ℕ, Bool, true, false, refl, ap, sym, ◌∙◌, subst, arith, Option, Some, None, List, ◌∷◌}
use Rattle.std.specs.Prelude.{if◌then◌else◌}
use Rattle.std.specs.Option.{option_map}
use Rattle.std.proofs.lemmas.Bool.Decides.{nat_tests}
use Rattle.tp_names.specs.declared.identifiers.Aaid.{Aaid}
use Rattle.tp_names.specs.declared.identifiers.Addr.{Addr}
use Rattle.tp_names.specs.Same.{is_name, is_addr, is_aaid}
use Rattle.tp_names.proofs.Sames.{both, name_same}
use Rattle.tp_model.specs.declared.out_line.LogWords.{LogWords}
use Rattle.tp_model.specs.Parts.{Entry, Key, Root, Under, Current, Digest}
use Rattle.tp_model.specs.History.{digest, crash_entry, crashed}
use Rattle.tp_model.specs.Happenings.{log_shown, trees_of}
use Rattle.tp_model.specs.Outcomes.{is_unchanged, is_now, root_of, root_started}
use Rattle.tp_model.specs.Transactions.{aaid_of, node_key}
use Rattle.tp_model.specs.World.{Node}
use Rattle.tp_node.specs.declared.state.NodeTree.{NodeTree}
use Rattle.tp_node.specs.State.{tree_of, tree_in}
use Rattle.tp_network.specs.TreeSummary.{is_in, summary_after}
use Rattle.tp_network.specs.TreeSummaries.{summary_at}
use Rattle.tp_network.specs.declared.nodes.NodeSlot.{NodeSlot}
use Rattle.tp_network.specs.declared.tree_summary.TreeChange.{TreeChange}
use Rattle.tp_network.specs.declared.tree_summary.TreeSummary.{TreeSummary}
use Rattle.tp_outcomes.specs.Starting.{starts}
use Rattle.tp_site_logs.specs.Lives.{first_origin}
use Rattle.tp_deployments.specs.Deployments.{Deed, Place, history_at}
use Rattle.tp_deployments.specs.RunOf.{node_at}
use Rattle.tp_world_sites.specs.Summary.{summary}
use Rattle.tp_closing.specs.declared.trees.Shown.{Shown}
use Rattle.tp_closing.specs.declared.trees.State.{State}
use Rattle.tp_closing.specs.Seen.{IsSeen, words_heeded, change_from, tree_begun, Turns, IsEntered, IsStopped}

-- ---- what a change shows

-- the record tells of a tree no more than what is heeded of it
heeded : (t : Aaid) (before after : Option NodeTree) (leaves : Bool) (rec : Option LogWords) (p : TreeSummary)
    → summary_after t (record { before = before; after = after; leaves = leaves; rec = words_heeded rec }) p ≡ summary_after t (record { before = before; after = after; leaves = leaves; rec = rec }) p
heeded t before after leaves None p = refl
heeded t before after leaves (Some (LogWords.Boot n)) p = refl
heeded t before after leaves (Some (LogWords.Ready n k)) p = refl
heeded t before after leaves (Some (LogWords.Heuristic n k o)) p = refl
heeded t before after leaves (Some (LogWords.Commit n k)) p = refl
heeded t before after leaves (Some (LogWords.Damage n k s r)) p = refl
heeded t before after leaves (Some (LogWords.End n k o)) p = refl

key_tree : (t : Aaid) (k : Key) → is_aaid t (node_key k).aaid ≡ is_aaid t (aaid_of k)
key_tree t (Root u) = refl
key_tree t (Under u b a) = refl

in_same : (t : Aaid) (v : Option Current) → is_in t (option_map tree_of v) ≡ is_now t v
in_same t None = refl
in_same t (Some c) = key_tree t c.key

-- the tree that begins is the one that the histories tell
begun_same : (d e : Digest) (leaves : Bool) (rec : Option LogWords) → tree_begun (record { before = tree_in d; after = tree_in e; leaves = leaves; rec = rec }) ≡ root_started d e
begun_same d e leaves rec = go e.current refl
  where
    by : Option Current → Option Aaid
    by v = elim (option_map tree_of v) as (λ _. Option Aaid) [
      | None ↦ None
      | Some b ↦ elim (b.is_root && not (is_in b.aaid (tree_in d))) as (λ _. Option Aaid) [ true ↦ Some b.aaid | false ↦ None ]
    ]

    of : Option Current → Option Aaid
    of v = elim (root_of v) as (λ _. Option Aaid) [ None ↦ None | Some t ↦ if is_now t d.current then None else Some t ]

    at : (c : Current) (k : Key) → c.key ≡ k → by (Some c) ≡ of (Some c)
    at c (Under t b a) i = rw i refl
    at c (Root t) i = rw i (on (is_now t d.current) refl)
      where
        on : (b : Bool) → is_now t d.current ≡ b
            → elim (not (is_in t (tree_in d))) as (λ _. Option Aaid) [ true ↦ Some t | false ↦ None ] ≡ (if is_now t d.current then None else Some t)
        on b j = rw (in_same t d.current, j) (split b)
          where
            split : (b : Bool) → elim (not b) as (λ _. Option Aaid) [ true ↦ Some t | false ↦ None ] ≡ (if b then None else Some t)
            split true = refl
            split false = refl

    go : (v : Option Current) → e.current ≡ v → by e.current ≡ of e.current
    go None i = rw i refl
    go (Some c) i = rw i (at c c.key refl)

-- ---- an entry

shown_same : (before a b : Option NodeTree) (c d : Bool) (r q : Option LogWords) → a ≡ b → c ≡ d → r ≡ q → ◌≡◌ {A = TreeChange} (record { before = before; after = a; leaves = c; rec = r }) (record { before = before; after = b; leaves = d; rec = q })
shown_same before a b c d r q h i j = rw (h, i, j) refl

abbrev pub with_entry : Node → Entry → Node
with_entry n e = record n { history = e ∷ n.history }

pub turned : (n : Node) (e : Entry) (w : Shown) (x : NodeSlot) (s : State) (y : NodeSlot) (r : State) → w.after ≡ tree_in (digest n.origin (e ∷ n.history)) → w.leaves ≡ is_unchanged e.event → w.rec ≡ words_heeded (option_map log_shown e.rec)
    → Turns w x s y r → IsSeen n x s → IsSeen (with_entry n e) y r
turned n e w x s y r after leaves rec turns seen = record {
  addr = turns.addr ∙ seen.addr;
  superior = turns.superior ∙ seen.superior;
  summaries = λ t.
      turns.summaries t
      ∙ ap (λ (c : TreeChange). summary_after t c (summary_at x.summaries t)) change
      ∙ ap (summary_after t (record { before = tree_in d; after = tree_in f; leaves = is_unchanged e.event; rec = words_heeded (option_map log_shown e.rec) })) (seen.summaries t)
      ∙ heeded t (tree_in d) (tree_in f) (is_unchanged e.event) (option_map log_shown e.rec) (summary n.origin t n.history);
  now = turns.now ∙ after;
  begun = turns.begun ∙ ap (λ (l : List Aaid). l ++ trees_of (tree_begun (change_from s.now w))) seen.begun
      ∙ ap (λ (o : Option Aaid). starts n.origin n.history ++ trees_of o) (ap tree_begun change ∙ begun_same d f (is_unchanged e.event) (words_heeded (option_map log_shown e.rec)));
}
  where
    d : Digest
    d = digest n.origin n.history

    f : Digest
    f = digest n.origin (e ∷ n.history)

    change : change_from s.now w ≡ record { before = tree_in d; after = tree_in f; leaves = is_unchanged e.event; rec = words_heeded (option_map log_shown e.rec) }
    change = ap (λ (o : Option NodeTree). change_from o w) seen.now ∙ shown_same (tree_in d) w.after (tree_in f) w.leaves (is_unchanged e.event) w.rec (words_heeded (option_map log_shown e.rec)) after leaves rec

-- ---- at a place

abbrev node_with : Place → List Entry → Node
node_with q h = record { origin = first_origin q.addr.site q.addr.node; superior = q.superior; history = h }

addr_same : (a b : Addr) → is_addr a b ≡ true → a ≡ b
addr_same a b h = made (both (is_name a.site b.site) (a.node == b.node) h)
  where
    made : (is_name a.site b.site ≡ true) × ((a.node == b.node) ≡ true) → a ≡ b
    made p =
        let site : a.site ≡ b.site = name_same a.site b.site p.0 in
        let number : a.node ≡ b.node = (let k = p.1 in grind (arith, nat_tests, k)) in
        ap (λ (s : List ℕ). address s a.node) site ∙ ap (address b.site) number
      where
        address : List ℕ → ℕ → Addr
        address s n = record { site = s; node = n }

-- the node at that address gains it
pub entered_here : (old new : List Deed) (at : Addr) (w : Shown) (x : NodeSlot) (s : State) (y : NodeSlot) (r : State) → IsEntered old new at w → is_addr x.addr at ≡ true → Turns w x s y r → (q : Place) → IsSeen (node_at old q) x s → IsSeen (node_at new q) y r
entered_here old new at w x s y r is here turns q seen =
    subst (λ (h : List Entry). IsSeen (node_with q h) y r) (sym gains)
    (turned (node_at old q) is.entry w x s y r (is.after_is ∙ ap (λ (a : Addr). tree_in (digest (first_origin a.site a.node) (history_at new a))) (sym same) ∙ ap (λ (h : List Entry). tree_in (digest (first_origin q.addr.site q.addr.node) h)) gains) is.leaves_is is.rec_is turns seen)
  where
    same : q.addr ≡ at
    same = sym seen.addr ∙ addr_same x.addr at here

    gains : history_at new q.addr ≡ is.entry ∷ history_at old q.addr
    gains = ap (history_at new) same ∙ is.here ∙ ap (λ (a : Addr). is.entry ∷ history_at old a) (sym same)

-- and the others do not
pub entered_there : (old new : List Deed) (at : Addr) (w : Shown) (x : NodeSlot) (s : State) → IsEntered old new at w → is_addr x.addr at ≡ false → (q : Place) → IsSeen (node_at old q) x s → IsSeen (node_at new q) x s
entered_there old new at w x s is off q seen = subst (λ (h : List Entry). IsSeen (node_with q h) x s) (sym (is.there q.addr (ap (λ (a : Addr). is_addr a at) (sym seen.addr) ∙ off))) seen

-- ---- a stop

pub stopped_here : (old new : List Deed) (site : List ℕ) (after : ℕ → Option NodeTree) (w : Shown) (x : NodeSlot) (s : State) (y : NodeSlot) (r : State) → IsStopped old new site after → is_name x.addr.site site ≡ true
    → w.after ≡ after x.addr.node → w.leaves ≡ false → w.rec ≡ None → Turns w x s y r → (q : Place) → IsSeen (node_at old q) x s → IsSeen (node_at new q) y r
stopped_here old new site after w x s y r is here tree leaves rec turns q seen =
    subst (λ (h : List Entry). IsSeen (node_with q h) y r) (sym stops)
    (turned (node_at old q) crash_entry w x s y r (tree ∙ ap (λ (a : Addr). after a.node) seen.addr ∙ is.after_is q.addr on ∙ ap (λ (h : List Entry). tree_in (digest (first_origin q.addr.site q.addr.node) h)) stops) leaves rec turns seen)
  where
    on : is_name q.addr.site site ≡ true
    on = ap (λ (a : Addr). is_name a.site site) (sym seen.addr) ∙ here

    stops : history_at new q.addr ≡ crashed (history_at old q.addr)
    stops = is.here q.addr on

pub stopped_there : (old new : List Deed) (site : List ℕ) (after : ℕ → Option NodeTree) (x : NodeSlot) (s : State) → IsStopped old new site after → is_name x.addr.site site ≡ false → (q : Place) → IsSeen (node_at old q) x s → IsSeen (node_at new q) x s
stopped_there old new site after x s is off q seen = subst (λ (h : List Entry). IsSeen (node_with q h) x s) (sym (is.there q.addr (ap (λ (a : Addr). is_name a.site site) (sym seen.addr) ∙ off))) seen
