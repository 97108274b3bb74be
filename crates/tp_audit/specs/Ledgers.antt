-- What is kept of the entries of all logs, so that the next log is judged with them: the first entries of each tree, the first two
-- that clash, and the nodes in doubt. What these are for is said in Verdicts and Fates.
use Rattle.std.specs.Prelude.{ℕ, suc, ◌≡◌, ◌&&◌, nat_lt, Bool, true, false, Option, Some, None, option_map, List, [], ◌∷◌, ◌++◌, length}
use Rattle.std.specs.Map.{lookup}
use Rattle.tp_names.specs.declared.identifiers.Aaid.{Aaid}
use Rattle.tp_names.specs.declared.identifiers.Addr.{Addr}
use Rattle.tp_names.specs.declared.identifiers.NodeKey.{NodeKey}
use Rattle.tp_names.specs.declared.outcome.Outcome.{Outcome}
use Rattle.tp_names.specs.Same.{is_aaid, is_outcome}
use Rattle.tp_audit.specs.declared.verdict.Verdict.{Verdict}
use Rattle.tp_audit.specs.declared.firsts.Place.{Place}
use Rattle.tp_audit.specs.declared.firsts.Firsts.{Firsts}
use Rattle.tp_audit.specs.declared.ledger.Clash.{Clash}
use Rattle.tp_audit.specs.declared.ledger.Doubt.{Doubt}
use Rattle.tp_audit.specs.declared.keys.TreeKey.{TreeKey}
use Rattle.tp_audit.specs.Entries.{Entry, addr_of, tree_of}
use Rattle.tp_audit.specs.Verdicts.{settled_of, first_clash}
use Rattle.tp_audit.specs.Doubts.{superior_of}
use Rattle.tp_audit.specs.Keys.{is_tree, tree_key}

-- ---- the first entries of a tree, numbered from n on

abbrev pub place_of : ℕ → Entry → Place
place_of n e = record { number = n; node = addr_of e }

abbrev pub ends_by : Outcome → Option Outcome → Bool
ends_by o None = false
ends_by o (Some p) = is_outcome o p

-- the entry is of that tree, and its node ended so and took no decision of its own
abbrev pub is_end_in : Aaid → Outcome → Entry → Bool
is_end_in t o e = is_aaid t (tree_of e) && ends_by o (settled_of e.records)

abbrev pub first_from : ℕ → Aaid → Outcome → List Entry → Option Place
first_from n t o [] = None
first_from n t o (e ∷ es) = elim (is_end_in t o e) [ true ↦ Some (place_of n e) | false ↦ first_from (suc n) t o es ]

abbrev pub no_firsts : Firsts
no_firsts = record { commit = None; rollback = None }

abbrev pub firsts_in : Aaid → List Entry → Firsts
firsts_in t es = record { commit = first_from 0 t Outcome.Commit es; rollback = first_from 0 t Outcome.Rollback es }

abbrev pub other : Outcome → Outcome
other Outcome.Commit = Outcome.Rollback
other Outcome.Rollback = Outcome.Commit

abbrev pub first_of : Outcome → Firsts → Option Place
first_of Outcome.Commit f = f.commit
first_of Outcome.Rollback f = f.rollback

-- the place, unless there is one before it
abbrev pub or_place : Option Place → Place → Option Place
or_place None p = Some p
or_place (Some q) p = Some q

abbrev pub firsts_with : Firsts → Outcome → Place → Firsts
firsts_with f Outcome.Commit p = record { commit = or_place f.commit p; rollback = f.rollback }
firsts_with f Outcome.Rollback p = record { commit = f.commit; rollback = or_place f.rollback p }

-- what a table has of a tree
abbrev pub firsts_at : List (TreeKey × Firsts) → Aaid → Firsts
firsts_at ts t = elim (lookup (is_tree (tree_key t)) ts) [ None ↦ no_firsts | Some f ↦ f ]

-- the first node that committed in the tree and took no decision of its own
abbrev pub committed_at : List (TreeKey × Firsts) → Aaid → Option Addr
committed_at ts t = option_map (λ (p : Place). p.node) (firsts_at ts t).commit

-- ---- the first entry that clashes with a later one

abbrev pub clash_at : ℕ → Entry → Addr → Clash
clash_at n e a = record { number = n; aaid = tree_of e; first = addr_of e; second = a }

abbrev pub clash_from : ℕ → List Entry → Option Clash
clash_from n [] = None
clash_from n (e ∷ es) = elim (option_map addr_of (first_clash settled_of e es)) [ Some a ↦ Some (clash_at n e a) | None ↦ clash_from (suc n) es ]

abbrev pub is_before : ℕ → Option Clash → Bool
is_before n None = true
is_before n (Some c) = nat_lt n c.number

-- with an entry of the tree more, by the first ones of its outcome and of the other
abbrev pub clash_by : Option Clash → Option Place → Option Place → Aaid → Addr → Option Clash
clash_by c same None t a = c
clash_by c (Some q) (Some p) t a = c
clash_by c None (Some p) t a = elim (is_before p.number c) [
  | true ↦ Some (record { number = p.number; aaid = t; first = p.node; second = a })
  | false ↦ c
]

abbrev pub verdict_of : Option Clash → Verdict
verdict_of None = Verdict.Yes
verdict_of (Some c) = Verdict.Differ c.aaid c.first c.second

-- ---- nodes in doubt

abbrev pub doubts_by : Addr → NodeKey → Option Addr → List Doubt
doubts_by a k None = []
doubts_by a k (Some s) = record { node = a; key = k; superior = s } ∷ []

abbrev pub doubts_of : List Entry → List Doubt
doubts_of [] = []
doubts_of (e ∷ es) = doubts_by (addr_of e) e.owner.key (superior_of e.records) ++ doubts_of es

-- ---- all of it

pub record Ledger : Type 0 where
  -- how many entries there are
  pub count : ℕ
  pub trees : List (TreeKey × Firsts)
  pub clash : Option Clash
  pub doubts : List Doubt
  -- so many entries more take no memory
  pub room : ℕ

pub record IsLedgerOf (es : List Entry) (l : Ledger) : Type 0 where
  pub count : l.count ≡ length es
  pub trees : (t : Aaid) → firsts_at l.trees t ≡ firsts_in t es
  pub clash : l.clash ≡ clash_from 0 es
  pub doubts : l.doubts ≡ doubts_of es
