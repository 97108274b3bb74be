-- What the parts of the nodes show of a tree is what the definitions' nodes show of it.
use Rattle.std.proofs.Common.{if◌then◌else◌, ◌≡◌, ◌&&◌, ◌||◌, not, ℕ, Bool, true, false, refl, ap, sym, subst, ◌∙◌, Option, Some, None, List, [], ◌∷◌}
use Rattle.std.specs.Option.{is_some}
use Rattle.tp_names.specs.declared.identifiers.Aaid.{Aaid}
use Rattle.tp_names.specs.declared.outcome.Outcome.{Outcome}
use Rattle.tp_model.specs.declared.out_line.OutLine.{OutLine}
use Rattle.tp_model.specs.Outcomes.{is_member, decision, decided, told}
use Rattle.tp_model.specs.Trees.{members_of, stays, is_told, some_told, all_told, placed, deciders, closing_line, closing_from, closing}
use Rattle.tp_model.specs.World.{World, Node, number_of}
use Rattle.tp_network.specs.TreeSummary.{stays_in, told_by_summary}
use Rattle.tp_world_sites.specs.Summary.{Tells}
use Rattle.tp_network.specs.TreeSummaries.{summary_at}
use Rattle.tp_network.specs.TreeOutcomes.{outcomes_at, with_node}
use Rattle.tp_world_sites.specs.Told.{deciders_at, line_by, closing_at}
use Rattle.tp_world_sites.specs.Standing.{IsNode, AreNodes}
use Rattle.tp_world.specs.World.{Stands}
use Rattle.tp_network.specs.declared.tree_summary.TreeSummary.{TreeSummary}
use Rattle.tp_network.specs.declared.nodes.NodeSlot.{NodeSlot}
use Rattle.tp_world.specs.declared.world.World.{World as CodeWorld}
use Rattle.tp_world.proofs.SummaryTold.{summary_tells}

node_tells : (n : Node) (x : NodeSlot) (t : Aaid) → IsNode n x → Tells n.origin t n.history (summary_at x.summaries t)
node_tells n x t h = subst (λ (p : TreeSummary). Tells n.origin t n.history p) (sym (h.summaries t)) (summary_tells n.origin n.superior t n.history h.legal h.fresh)

told_same : (n : Node) (t : Aaid) (p : TreeSummary) → Tells n.origin t n.history p → told_by_summary p ≡ told n.origin t n.history
told_same n t p k =
    ap (λ (d : Option Outcome). elim d as (λ _. Option Outcome) [ Some u ↦ Some u | None ↦ if p.decided then Some Outcome.Commit else if p.rolled then Some Outcome.Rollback else None ]) k.decision
    ∙ ap (λ (b : Bool). elim (decision n.origin t n.history) as (λ _. Option Outcome) [ Some u ↦ Some u | None ↦ if b then Some Outcome.Commit else if p.rolled then Some Outcome.Rollback else None ]) k.decided
    ∙ ap (λ (b : Bool). elim (decision n.origin t n.history) as (λ _. Option Outcome) [ Some u ↦ Some u | None ↦ if decided n.origin t n.history then Some Outcome.Commit else if b then Some Outcome.Rollback else None ]) k.rolled

-- ---- what the staying nodes were told, one outcome at a time

abbrev some_told_at : Outcome → Aaid → List NodeSlot → Bool
some_told_at o t [] = false
some_told_at o t (x ∷ xs) = (stays_in (summary_at x.summaries t) && is_told o (told_by_summary (summary_at x.summaries t))) || some_told_at o t xs

abbrev all_told_at : Outcome → Aaid → List NodeSlot → Bool
all_told_at o t [] = true
all_told_at o t (x ∷ xs) = (not (stays_in (summary_at x.summaries t)) || is_told o (told_by_summary (summary_at x.summaries t))) && all_told_at o t xs

outcomes_are : (t : Aaid) (xs : List NodeSlot)
    → outcomes_at xs t ≡ record { some_committed = some_told_at Outcome.Commit t xs; all_committed = all_told_at Outcome.Commit t xs; some_rolled_back = some_told_at Outcome.Rollback t xs; all_rolled_back = all_told_at Outcome.Rollback t xs }
outcomes_are t [] = refl
outcomes_are t (x ∷ xs) = ap (with_node (summary_at x.summaries t)) (outcomes_are t xs)

-- ---- the nodes of a tree

some_same : (o : Outcome) (t : Aaid) (ns : List Node) (xs : List NodeSlot) → AreNodes ns xs → some_told_at o t xs ≡ some_told o t (members_of t ns)
some_same o t [] [] h = refl
some_same o t [] (x ∷ xs) h = absurd h
some_same o t (n ∷ ns) [] h = absurd h
some_same o t (n ∷ ns) (x ∷ xs) h = go (is_member n.origin t n.history) refl (some_same o t ns xs h.1)
  where
    p : TreeSummary
    p = summary_at x.summaries t

    k : Tells n.origin t n.history p
    k = node_tells n x t h.0

    head : (b : Bool) → is_member n.origin t n.history ≡ b → some_told_at o t xs ≡ some_told o t (members_of t ns) → some_told_at o t (x ∷ xs) ≡ ((b && stays t n && is_told o (told n.origin t n.history)) || some_told o t (members_of t ns))
    head b i rest =
        ap (λ (c : Bool). (c && not p.left && is_told o (told_by_summary p)) || some_told_at o t xs) (k.member ∙ i)
        ∙ ap (λ (c : Bool). (b && not c && is_told o (told_by_summary p)) || some_told_at o t xs) k.left
        ∙ ap (λ (c : Option Outcome). (b && stays t n && is_told o c) || some_told_at o t xs) (told_same n t p k)
        ∙ ap (λ (c : Bool). (b && stays t n && is_told o (told n.origin t n.history)) || c) rest

    go : (b : Bool) → is_member n.origin t n.history ≡ b → some_told_at o t xs ≡ some_told o t (members_of t ns) → some_told_at o t (x ∷ xs) ≡ some_told o t (members_of t (n ∷ ns))
    go true i rest = head true i rest ∙ sym (ap (λ (c : Bool). some_told o t (elim c as (λ _. List Node) [ true ↦ n ∷ members_of t ns | false ↦ members_of t ns ])) i)
    go false i rest = head false i rest ∙ sym (ap (λ (c : Bool). some_told o t (elim c as (λ _. List Node) [ true ↦ n ∷ members_of t ns | false ↦ members_of t ns ])) i)

all_same : (o : Outcome) (t : Aaid) (ns : List Node) (xs : List NodeSlot) → AreNodes ns xs → all_told_at o t xs ≡ all_told o t (members_of t ns)
all_same o t [] [] h = refl
all_same o t [] (x ∷ xs) h = absurd h
all_same o t (n ∷ ns) [] h = absurd h
all_same o t (n ∷ ns) (x ∷ xs) h = go (is_member n.origin t n.history) refl (all_same o t ns xs h.1)
  where
    p : TreeSummary
    p = summary_at x.summaries t

    k : Tells n.origin t n.history p
    k = node_tells n x t h.0

    head : (b : Bool) → is_member n.origin t n.history ≡ b → all_told_at o t xs ≡ all_told o t (members_of t ns) → all_told_at o t (x ∷ xs) ≡ ((not (b && stays t n) || is_told o (told n.origin t n.history)) && all_told o t (members_of t ns))
    head b i rest =
        ap (λ (c : Bool). (not (c && not p.left) || is_told o (told_by_summary p)) && all_told_at o t xs) (k.member ∙ i)
        ∙ ap (λ (c : Bool). (not (b && not c) || is_told o (told_by_summary p)) && all_told_at o t xs) k.left
        ∙ ap (λ (c : Option Outcome). (not (b && stays t n) || is_told o c) && all_told_at o t xs) (told_same n t p k)
        ∙ ap (λ (c : Bool). (not (b && stays t n) || is_told o (told n.origin t n.history)) && c) rest

    go : (b : Bool) → is_member n.origin t n.history ≡ b → all_told_at o t xs ≡ all_told o t (members_of t ns) → all_told_at o t (x ∷ xs) ≡ all_told o t (members_of t (n ∷ ns))
    go true i rest = head true i rest ∙ sym (ap (λ (c : Bool). all_told o t (elim c as (λ _. List Node) [ true ↦ n ∷ members_of t ns | false ↦ members_of t ns ])) i)
    go false i rest = head false i rest ∙ sym (ap (λ (c : Bool). all_told o t (elim c as (λ _. List Node) [ true ↦ n ∷ members_of t ns | false ↦ members_of t ns ])) i)

deciders_same : (t : Aaid) (ns : List Node) (xs : List NodeSlot) → AreNodes ns xs → deciders_at t xs ≡ deciders t (members_of t ns)
deciders_same t [] [] h = refl
deciders_same t [] (x ∷ xs) h = absurd h
deciders_same t (n ∷ ns) [] h = absurd h
deciders_same t (n ∷ ns) (x ∷ xs) h = go (is_member n.origin t n.history) (decision n.origin t n.history) refl refl (deciders_same t ns xs h.1)
  where
    p : TreeSummary
    p = summary_at x.summaries t

    k : Tells n.origin t n.history p
    k = node_tells n x t h.0

    number : x.addr.node ≡ number_of n
    number = ap (λ a. a.node) h.0.addr

    head : (b : Bool) (o : Option Outcome) → is_member n.origin t n.history ≡ b → decision n.origin t n.history ≡ o → deciders_at t xs ≡ deciders t (members_of t ns)
        → deciders_at t (x ∷ xs) ≡ elim (b && is_some o) as (λ _. List ℕ) [ true ↦ placed (number_of n) (deciders t (members_of t ns)) | false ↦ deciders t (members_of t ns) ]
    head b o i j rest =
        ap (λ (c : Bool). elim (c && is_some p.decision) as (λ _. List ℕ) [ true ↦ placed x.addr.node (deciders_at t xs) | false ↦ deciders_at t xs ]) (k.member ∙ i)
        ∙ ap (λ (c : Option Outcome). elim (b && is_some c) as (λ _. List ℕ) [ true ↦ placed x.addr.node (deciders_at t xs) | false ↦ deciders_at t xs ]) (k.decision ∙ j)
        ∙ ap (λ (c : ℕ). elim (b && is_some o) as (λ _. List ℕ) [ true ↦ placed c (deciders_at t xs) | false ↦ deciders_at t xs ]) number
        ∙ ap (λ (l : List ℕ). elim (b && is_some o) as (λ _. List ℕ) [ true ↦ placed (number_of n) l | false ↦ l ]) rest

    whole : (b : Bool) → is_member n.origin t n.history ≡ b → deciders t (elim b as (λ _. List Node) [ true ↦ n ∷ members_of t ns | false ↦ members_of t ns ]) ≡ deciders t (members_of t (n ∷ ns))
    whole b i = sym (ap (λ (c : Bool). deciders t (elim c as (λ _. List Node) [ true ↦ n ∷ members_of t ns | false ↦ members_of t ns ])) i)

    in_tree : (o : Option Outcome) → decision n.origin t n.history ≡ o
        → elim o as (λ _. List ℕ) [ None ↦ deciders t (members_of t ns) | Some u ↦ placed (number_of n) (deciders t (members_of t ns)) ] ≡ deciders t (n ∷ members_of t ns)
    in_tree o j = sym (ap (λ (v : Option Outcome). elim v as (λ _. List ℕ) [ None ↦ deciders t (members_of t ns) | Some u ↦ placed (number_of n) (deciders t (members_of t ns)) ]) j)

    go : (b : Bool) (o : Option Outcome) → is_member n.origin t n.history ≡ b → decision n.origin t n.history ≡ o → deciders_at t xs ≡ deciders t (members_of t ns) → deciders_at t (x ∷ xs) ≡ deciders t (members_of t (n ∷ ns))
    go true None i j rest = head true None i j rest ∙ in_tree None j ∙ whole true i
    go true (Some u) i j rest = head true (Some u) i j rest ∙ in_tree (Some u) j ∙ whole true i
    go false o i j rest = head false o i j rest ∙ whole false i

-- ---- the lines

abbrev agreed_by : Aaid → Bool → Bool → OutLine
agreed_by t all_committed all_rolled_back = elim all_committed as (λ _. OutLine) [
  | true ↦ OutLine.Agreed t Outcome.Commit
  | false ↦ elim all_rolled_back as (λ _. OutLine) [ true ↦ OutLine.Agreed t Outcome.Rollback | false ↦ OutLine.Open t ]
]

line_same : (t : Aaid) (ns : List Node) (xs : List NodeSlot) → AreNodes ns xs → line_by t xs (outcomes_at xs t) ≡ closing_line t (members_of t ns)
line_same t ns xs h =
    ap (line_by t xs) (outcomes_are t xs)
    ∙ ap (λ (b : Bool). elim (b && some_told_at Outcome.Rollback t xs) as (λ _. OutLine) [ true ↦ OutLine.Mixed t (deciders_at t xs) | false ↦ agreed_by t (all_told_at Outcome.Commit t xs) (all_told_at Outcome.Rollback t xs) ]) (some_same Outcome.Commit t ns xs h)
    ∙ ap (λ (b : Bool). elim (some_told Outcome.Commit t (members_of t ns) && b) as (λ _. OutLine) [ true ↦ OutLine.Mixed t (deciders_at t xs) | false ↦ agreed_by t (all_told_at Outcome.Commit t xs) (all_told_at Outcome.Rollback t xs) ]) (some_same Outcome.Rollback t ns xs h)
    ∙ ap (λ (l : List ℕ). elim (some_told Outcome.Commit t (members_of t ns) && some_told Outcome.Rollback t (members_of t ns)) as (λ _. OutLine) [ true ↦ OutLine.Mixed t l | false ↦ agreed_by t (all_told_at Outcome.Commit t xs) (all_told_at Outcome.Rollback t xs) ]) (deciders_same t ns xs h)
    ∙ ap (λ (b : Bool). elim (some_told Outcome.Commit t (members_of t ns) && some_told Outcome.Rollback t (members_of t ns)) as (λ _. OutLine) [ true ↦ OutLine.Mixed t (deciders t (members_of t ns)) | false ↦ agreed_by t b (all_told_at Outcome.Rollback t xs) ]) (all_same Outcome.Commit t ns xs h)
    ∙ ap (λ (b : Bool). elim (some_told Outcome.Commit t (members_of t ns) && some_told Outcome.Rollback t (members_of t ns)) as (λ _. OutLine) [ true ↦ OutLine.Mixed t (deciders t (members_of t ns)) | false ↦ agreed_by t (all_told Outcome.Commit t (members_of t ns)) b ]) (all_same Outcome.Rollback t ns xs h)

pub lines_same : (ns : List Node) (xs : List NodeSlot) (ts : List Aaid) → AreNodes ns xs → closing_at xs ts ≡ closing_from ns ts
lines_same ns xs [] h = refl
lines_same ns xs (t ∷ ts) h = ap (λ (l : OutLine). l ∷ closing_at xs ts) (line_same t ns xs h) ∙ ap (λ (l : List OutLine). closing_line t (members_of t ns) ∷ l) (lines_same ns xs ts h)

pub closing_same : (w : World) (v : CodeWorld) → Stands w v → closing_at v.nodes v.trees.items ≡ closing w
closing_same w v h = lines_same w.nodes v.nodes v.trees.items h.mirrors.rest.nodes ∙ ap (closing_from w.nodes) h.mirrors.rest.trees
