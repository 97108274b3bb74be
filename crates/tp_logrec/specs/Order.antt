-- The order of a log's records: which record may follow a list, and what of a list still stands.
-- Lists are oldest first. A key speaks of one node, and its records are those since its last End, so a key may begin again.
-- How records are written is no matter of this file.
use Rattle.std.specs.Prelude.{ℕ, ◌==◌, ◌≡◌, ◌&&◌, ◌||◌, not, nat_le, nat_lt, max, Bool, true, false, Option, Some, None, List, [], ◌∷◌, ◌++◌}
use Rattle.tp_names.specs.declared.identifiers.Addr.{Addr}
use Rattle.tp_names.specs.declared.identifiers.NodeKey.{NodeKey}
use Rattle.tp_names.specs.declared.children.Child.{Child}
use Rattle.tp_names.specs.declared.outcome.Outcome.{Outcome}
use Rattle.tp_names.specs.declared.outcome.Report.{Report}
use Rattle.tp_names.specs.Same.{is_addr, is_addr_option, is_branch, is_key}
use Rattle.tp_logrec.specs.declared.record.LogRec.{LogRec}
pub use Rattle.tp_logrec.specs.declared.owner.Owner.{Owner}

-- ---- the kinds of records

abbrev pub is_boot : LogRec → Bool
is_boot (LogRec.Boot n) = true
is_boot (LogRec.Ready n k a cs) = false
is_boot (LogRec.Heuristic n k o) = false
is_boot (LogRec.Commit n k a cs) = false
is_boot (LogRec.Damage n k a o r cs) = false
is_boot (LogRec.End n k o) = false

abbrev pub is_ready : LogRec → Bool
is_ready (LogRec.Boot n) = false
is_ready (LogRec.Ready n k a cs) = true
is_ready (LogRec.Heuristic n k o) = false
is_ready (LogRec.Commit n k a cs) = false
is_ready (LogRec.Damage n k a o r cs) = false
is_ready (LogRec.End n k o) = false

abbrev pub is_heuristic : LogRec → Bool
is_heuristic (LogRec.Boot n) = false
is_heuristic (LogRec.Ready n k a cs) = false
is_heuristic (LogRec.Heuristic n k o) = true
is_heuristic (LogRec.Commit n k a cs) = false
is_heuristic (LogRec.Damage n k a o r cs) = false
is_heuristic (LogRec.End n k o) = false

abbrev pub is_commit : LogRec → Bool
is_commit (LogRec.Boot n) = false
is_commit (LogRec.Ready n k a cs) = false
is_commit (LogRec.Heuristic n k o) = false
is_commit (LogRec.Commit n k a cs) = true
is_commit (LogRec.Damage n k a o r cs) = false
is_commit (LogRec.End n k o) = false

abbrev pub is_damage : LogRec → Bool
is_damage (LogRec.Boot n) = false
is_damage (LogRec.Ready n k a cs) = false
is_damage (LogRec.Heuristic n k o) = false
is_damage (LogRec.Commit n k a cs) = false
is_damage (LogRec.Damage n k a o r cs) = true
is_damage (LogRec.End n k o) = false

abbrev pub is_end : LogRec → Bool
is_end (LogRec.Boot n) = false
is_end (LogRec.Ready n k a cs) = false
is_end (LogRec.Heuristic n k o) = false
is_end (LogRec.Commit n k a cs) = false
is_end (LogRec.Damage n k a o r cs) = false
is_end (LogRec.End n k o) = true

-- ---- whose records they are

abbrev pub owner : ℕ → NodeKey → Owner
owner n k = record { node = n; key = k }

-- a Boot speaks of no key
abbrev pub owner_of : LogRec → Option Owner
owner_of (LogRec.Boot n) = None
owner_of (LogRec.Ready n k a cs) = Some (owner n k)
owner_of (LogRec.Heuristic n k o) = Some (owner n k)
owner_of (LogRec.Commit n k a cs) = Some (owner n k)
owner_of (LogRec.Damage n k a o r cs) = Some (owner n k)
owner_of (LogRec.End n k o) = Some (owner n k)

abbrev pub is_owner : Owner → Owner → Bool
is_owner a b = (a.node == b.node) && is_key a.key b.key

-- ---- lives: a key that is not at its end, and its records since its last End

pub record Life : Type 0 where
  pub owner : Owner
  pub records : List LogRec

abbrev pub with_record : List Life → Owner → LogRec → List Life
with_record [] o r = record { owner = o; records = r ∷ [] } ∷ []
with_record (l ∷ ls) o r = elim (is_owner l.owner o) [ true ↦ record l { records = l.records ++ r ∷ [] } ∷ ls | false ↦ l ∷ with_record ls o r ]

abbrev pub without : List Life → Owner → List Life
without [] o = []
without (l ∷ ls) o = elim (is_owner l.owner o) [ true ↦ without ls o | false ↦ l ∷ without ls o ]

-- what a record of that key makes of them
abbrev pub lives_by : List Life → Owner → LogRec → List Life
lives_by ls o r = elim (is_end r) [ true ↦ without ls o | false ↦ with_record ls o r ]

abbrev pub lives_after : List Life → LogRec → List Life
lives_after ls r = elim (owner_of r) [ None ↦ ls | Some o ↦ lives_by ls o r ]

abbrev pub lives_from : List Life → List LogRec → List Life
lives_from ls [] = ls
lives_from ls (r ∷ rs) = lives_from (lives_after ls r) rs

-- the lives that stand, in the order of their first records
abbrev pub lives : List LogRec → List Life
lives rs = lives_from [] rs

-- a key's records since its last End
abbrev pub records_of : List Life → Owner → List LogRec
records_of [] o = []
records_of (l ∷ ls) o = elim (is_owner l.owner o) [ true ↦ l.records | false ↦ records_of ls o ]

-- the last of the records, or another where there are none
abbrev pub last_or : Option LogRec → List LogRec → Option LogRec
last_or before [] = before
last_or before (r ∷ rs) = last_or (Some r) rs

abbrev pub last : List LogRec → Option LogRec
last rs = last_or None rs

abbrev pub holds : Option LogRec → (LogRec → Bool) → Bool
holds None test = false
holds (Some r) test = test r

-- the records that pass, in their order
abbrev pub those : (LogRec → Bool) → List LogRec → List LogRec
those test [] = []
those test (r ∷ rs) = elim (test r) [ true ↦ r ∷ those test rs | false ↦ those test rs ]

-- ---- bound keys: those whose last record is a Ready, a Heuristic or a Commit

abbrev pub is_bound : LogRec → Bool
is_bound r = is_ready r || is_heuristic r || is_commit r

abbrev pub others : List Owner → Owner → List Owner
others [] o = []
others (p ∷ ps) o = elim (is_owner p o) [ true ↦ others ps o | false ↦ p ∷ others ps o ]

abbrev pub bound_by : List Owner → Owner → LogRec → List Owner
bound_by os o r = elim (is_bound r) [ true ↦ others os o ++ o ∷ [] | false ↦ others os o ]

abbrev pub bound_after : List Owner → LogRec → List Owner
bound_after os r = elim (owner_of r) [ None ↦ os | Some o ↦ bound_by os o r ]

abbrev pub bound_from : List Owner → List LogRec → List Owner
bound_from os [] = os
bound_from os (r ∷ rs) = bound_from (bound_after os r) rs

abbrev pub bound : List LogRec → List Owner
bound rs = bound_from [] rs

-- no key of the node is among them
abbrev pub is_free : ℕ → List Owner → Bool
is_free n [] = true
is_free n (o ∷ os) = not (o.node == n) && is_free n os

-- ---- what the rules ask of a key's records

abbrev pub is_child : Child → Child → Bool
is_child c d = is_addr c.addr d.addr && is_branch c.branch d.branch

abbrev pub are_children : List Child → List Child → Bool
are_children [] [] = true
are_children [] (d ∷ ds) = false
are_children (c ∷ cs) [] = false
are_children (c ∷ cs) (d ∷ ds) = is_child c d && are_children cs ds

-- the first are among the second, in their order
abbrev pub are_among : List Child → List Child → Bool
are_among [] ds = true
are_among (c ∷ cs) [] = false
are_among (c ∷ cs) (d ∷ ds) = elim (is_child c d) [ true ↦ are_among cs ds | false ↦ are_among (c ∷ cs) ds ]

-- a Ready with this superior and these children
abbrev pub is_as_ready : Option Addr → List Child → LogRec → Bool
is_as_ready a cs (LogRec.Boot n) = false
is_as_ready a cs (LogRec.Ready n k b ds) = is_addr_option a (Some b) && are_children cs ds
is_as_ready a cs (LogRec.Heuristic n k o) = false
is_as_ready a cs (LogRec.Commit n k b ds) = false
is_as_ready a cs (LogRec.Damage n k b o r ds) = false
is_as_ready a cs (LogRec.End n k o) = false

abbrev pub is_ready_of : Option Addr → LogRec → Bool
is_ready_of a (LogRec.Boot n) = false
is_ready_of a (LogRec.Ready n k b ds) = is_addr_option a (Some b)
is_ready_of a (LogRec.Heuristic n k o) = false
is_ready_of a (LogRec.Commit n k b ds) = false
is_ready_of a (LogRec.Damage n k b o r ds) = false
is_ready_of a (LogRec.End n k o) = false

-- a damage has the superior of the key's Ready, and none where the key has no branch
abbrev pub has_superior : NodeKey → Option Addr → Option LogRec → Bool
has_superior k a ready = elim k.branch [ None ↦ is_addr_option a None | Some b ↦ holds ready (is_ready_of a) ]

-- a Commit with these owed among its children, or a Damage with commit with them among those owed
abbrev pub may_owe : List Child → LogRec → Bool
may_owe owed (LogRec.Boot n) = false
may_owe owed (LogRec.Ready n k b ds) = false
may_owe owed (LogRec.Heuristic n k o) = false
may_owe owed (LogRec.Commit n k b ds) = are_among owed ds
may_owe owed (LogRec.Damage n k b Outcome.Commit r ds) = are_among owed ds
may_owe owed (LogRec.Damage n k b Outcome.Rollback r ds) = false
may_owe owed (LogRec.End n k o) = false

abbrev pub is_decision : Outcome → LogRec → Bool
is_decision o (LogRec.Boot n) = false
is_decision o (LogRec.Ready n k b ds) = false
is_decision Outcome.Commit (LogRec.Heuristic n k Outcome.Commit) = true
is_decision Outcome.Commit (LogRec.Heuristic n k Outcome.Rollback) = false
is_decision Outcome.Rollback (LogRec.Heuristic n k Outcome.Commit) = false
is_decision Outcome.Rollback (LogRec.Heuristic n k Outcome.Rollback) = true
is_decision o (LogRec.Commit n k b ds) = false
is_decision o (LogRec.Damage n k b p r ds) = false
is_decision o (LogRec.End n k p) = false

abbrev pub is_mix : Report → Bool
is_mix Report.None = false
is_mix Report.Hazard = false
is_mix Report.Mix = true

abbrev pub is_none : List Child → Bool
is_none [] = true
is_none (c ∷ cs) = false

-- an End with that outcome may stand after the record
abbrev pub may_end : Outcome → LogRec → Bool
may_end o (LogRec.Boot n) = false
may_end Outcome.Commit (LogRec.Ready n k b ds) = false
may_end Outcome.Rollback (LogRec.Ready n k b ds) = true
may_end Outcome.Commit (LogRec.Heuristic n k p) = false
may_end Outcome.Rollback (LogRec.Heuristic n k Outcome.Commit) = false
may_end Outcome.Rollback (LogRec.Heuristic n k Outcome.Rollback) = true
may_end Outcome.Commit (LogRec.Commit n k b ds) = true
may_end Outcome.Rollback (LogRec.Commit n k b ds) = false
may_end Outcome.Commit (LogRec.Damage n k b Outcome.Commit r ds) = true
may_end Outcome.Commit (LogRec.Damage n k b Outcome.Rollback r ds) = false
may_end Outcome.Rollback (LogRec.Damage n k b Outcome.Commit r ds) = false
may_end Outcome.Rollback (LogRec.Damage n k b Outcome.Rollback r ds) = true
may_end o (LogRec.End n k p) = false

-- ---- boots

abbrev pub boots : List LogRec → List ℕ
boots [] = []
boots (LogRec.Boot n ∷ rs) = n ∷ boots rs
boots (LogRec.Ready n k a cs ∷ rs) = boots rs
boots (LogRec.Heuristic n k o ∷ rs) = boots rs
boots (LogRec.Commit n k a cs ∷ rs) = boots rs
boots (LogRec.Damage n k a o r cs ∷ rs) = boots rs
boots (LogRec.End n k o ∷ rs) = boots rs

abbrev pub all_below : ℕ → List ℕ → Bool
all_below n [] = true
all_below n (m ∷ ms) = nat_lt m n && all_below n ms

abbrev pub last_number : List ℕ → ℕ
last_number [] = 0
last_number (n ∷ ns) = elim ns [ [] ↦ n | m ∷ ms ↦ last_number ns ]

-- ---- what the rules read of a list

abbrev pub is_begun : List LogRec → Bool
is_begun [] = false
is_begun (r ∷ rs) = true

abbrev pub boot_by : ℕ → LogRec → ℕ
boot_by n (LogRec.Boot m) = m
boot_by n (LogRec.Ready m k a cs) = n
boot_by n (LogRec.Heuristic m k o) = n
boot_by n (LogRec.Commit m k a cs) = n
boot_by n (LogRec.Damage m k a o r cs) = n
boot_by n (LogRec.End m k o) = n

-- the number of the last Boot, or n where there is none
abbrev pub last_boot_from : ℕ → List LogRec → ℕ
last_boot_from n [] = n
last_boot_from n (r ∷ rs) = last_boot_from (boot_by n r) rs

abbrev pub is_of : Owner → LogRec → Bool
is_of o r = elim (owner_of r) [ None ↦ false | Some p ↦ is_owner p o ]

-- the key's last record since its last End, where the one before is given
abbrev pub last_by : Owner → Option LogRec → LogRec → Option LogRec
last_by o before r = elim (is_of o r) [ false ↦ before | true ↦ elim (is_end r) [ true ↦ None | false ↦ Some r ] ]

abbrev pub last_from : Owner → Option LogRec → List LogRec → Option LogRec
last_from o before [] = before
last_from o before (r ∷ rs) = last_from o (last_by o before r) rs

-- the key's Ready since its last End
abbrev pub ready_by : Owner → Option LogRec → LogRec → Option LogRec
ready_by o before r = elim (is_of o r) [
  | false ↦ before
  | true ↦ elim (is_end r) [ true ↦ None | false ↦ elim (is_ready r) [ true ↦ Some r | false ↦ before ] ]
]

abbrev pub ready_from : Owner → Option LogRec → List LogRec → Option LogRec
ready_from o before [] = before
ready_from o before (r ∷ rs) = ready_from o (ready_by o before r) rs

-- for a record of one key: whether the list has records, the number of its last Boot, whether the node has no bound key,
-- and the key's last record and its Ready, both since its last End
pub record Before : Type 0 where
  pub begun : Bool
  pub boot : ℕ
  pub free : Bool
  pub last : Option LogRec
  pub ready : Option LogRec

abbrev pub before : List LogRec → Owner → Before
before rs o = record {
  begun = is_begun rs;
  boot = last_boot_from 0 rs;
  free = is_free o.node (bound rs);
  last = last_from o None rs;
  ready = ready_from o None rs;
}

-- ---- what may follow

abbrev pub is_new : Before → Bool
is_new b = b.free && elim b.last [ None ↦ true | Some r ↦ false ]

abbrev pub may_commit : Before → NodeKey → Option Addr → List Child → Bool
may_commit b k a cs = elim k.branch [
  | None ↦ is_new b && nat_le k.aaid.mark.boot b.boot
  | Some c ↦ (holds b.last is_ready || holds b.last is_heuristic) && holds b.ready (is_as_ready a cs)
]

abbrev pub may_damage : Before → NodeKey → Option Addr → Outcome → Report → List Child → Bool
may_damage b k a Outcome.Commit r cs = holds b.last (may_owe cs) && has_superior k a b.ready
may_damage b k a Outcome.Rollback r cs = holds b.last (is_decision Outcome.Commit) && is_mix r && is_none cs && has_superior k a b.ready

-- what the rules say of a record of a key, which stands after a Boot
abbrev pub may_follow : Before → LogRec → Bool
may_follow b (LogRec.Boot n) = false
may_follow b (LogRec.Ready n k a cs) = b.begun && is_new b
may_follow b (LogRec.Heuristic n k o) = b.begun && holds b.last is_ready
may_follow b (LogRec.Commit n k a cs) = b.begun && may_commit b k a cs
may_follow b (LogRec.Damage n k a o r cs) = b.begun && may_damage b k a o r cs
may_follow b (LogRec.End n k o) = b.begun && holds b.last (may_end o)

abbrev pub follows : List LogRec → LogRec → Bool
follows rs (LogRec.Boot n) = all_below n (boots rs)
follows rs (LogRec.Ready n k a cs) = may_follow (before rs (owner n k)) (LogRec.Ready n k a cs)
follows rs (LogRec.Heuristic n k o) = may_follow (before rs (owner n k)) (LogRec.Heuristic n k o)
follows rs (LogRec.Commit n k a cs) = may_follow (before rs (owner n k)) (LogRec.Commit n k a cs)
follows rs (LogRec.Damage n k a o r cs) = may_follow (before rs (owner n k)) (LogRec.Damage n k a o r cs)
follows rs (LogRec.End n k o) = may_follow (before rs (owner n k)) (LogRec.End n k o)

-- each record follows those before it
abbrev pub follow_from : List LogRec → List LogRec → Bool
follow_from before [] = true
follow_from before (r ∷ rs) = follows before r && follow_from (before ++ r ∷ []) rs

abbrev pub all_follow : List LogRec → Bool
all_follow rs = follow_from [] rs

-- ---- what stands

abbrev pub last_only : List LogRec → List LogRec
last_only rs = elim (last rs) [ None ↦ [] | Some r ↦ r ∷ [] ]

-- of a life its Ready, its decision, its Commit and its last Damage
abbrev pub brief_life : List LogRec → List LogRec
brief_life rs = those is_ready rs ++ those is_heuristic rs ++ those is_commit rs ++ last_only (those is_damage rs)

abbrev pub brief_lives : List Life → List LogRec
brief_lives [] = []
brief_lives (l ∷ ls) = brief_life l.records ++ brief_lives ls

abbrev pub greatest : List ℕ → Option ℕ
greatest [] = None
greatest (n ∷ ns) = elim (greatest ns) [ None ↦ Some n | Some m ↦ Some (max n m) ]

abbrev pub boot_record : Option ℕ → List LogRec
boot_record None = []
boot_record (Some n) = LogRec.Boot n ∷ []

-- the greatest boot, and of each life in order what stands
abbrev pub brief : List LogRec → List LogRec
brief rs = boot_record (greatest (boots rs)) ++ brief_lives (lives rs)

abbrev pub lives_at : ℕ → List Life → List Life
lives_at n [] = []
lives_at n (l ∷ ls) = elim (l.owner.node == n) [ true ↦ l ∷ lives_at n ls | false ↦ lives_at n ls ]

-- what stands for one node, in the order of its keys
abbrev pub standing_at : ℕ → List LogRec → List LogRec
standing_at n rs = brief_lives (lives_at n (lives rs))

-- two logs after which a site starts alike, whatever the order of records of different nodes
pub record IsStandingAlike (rs qs : List LogRec) : Type 0 where
  pub boot : greatest (boots rs) ≡ greatest (boots qs)
  pub nodes : (n : ℕ) → standing_at n rs ≡ standing_at n qs
