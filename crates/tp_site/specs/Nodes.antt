-- The nodes of a site, found by their numbers. One that is not among them is what it was at the start: the log has no record
-- of it, and nothing has happened to it.
use Rattle.std.specs.Prelude.{Box, ℕ, nat_eq, ◌≡◌, Bool, true, false, Option, Some, None, List, [], slice_get}
use Rattle.std.specs.Map.{lookup}
use Rattle.std.specs.declared.alloc.Global.{Global}
use Rattle.tp_logrec.specs.declared.record.LogRec.{LogRec}
use Rattle.tp_logrec.specs.declared.record.LogVersion.{LogVersion}
use Rattle.tp_model.specs.Parts.{Who, Start, Digest}
use Rattle.tp_model.specs.Events.{started}
use Rattle.tp_model.specs.NodeRun.{records_at}
use Rattle.tp_node.specs.Node.{Node}
use Rattle.tp_site.specs.declared.nodes.Nodes.TheInside.{Inside}

pub record Nodes : Type 0 where
  pub site : List ℕ
  pub boot : ℕ
  pub version : LogVersion
  pub nodes : List (ℕ × Box Node Global)

abbrev pub nodes_of : Inside → Nodes
nodes_of v = record { site = v.site; boot = v.boot; version = v.version; nodes = v.nodes.entries }

abbrev pub has_node : Nodes → ℕ → Bool
has_node v n = elim (lookup (nat_eq n) v.nodes) [ None ↦ false | Some x ↦ true ]

abbrev pub who_at : Nodes → ℕ → Who
who_at v n = record { site = v.site; node = n }

-- where the log has no record of it
abbrev pub unknown_start : Nodes → Start
unknown_start v = record { boot = v.boot; version = v.version; records = [] }

abbrev pub digest_at : Nodes → ℕ → Digest
digest_at v n = elim (lookup (nat_eq n) v.nodes) [ None ↦ started (unknown_start v) | Some x ↦ x.value.digest ]

abbrev pub node_at : Nodes → ℕ → Node
node_at v n = record { who = who_at v n; digest = digest_at v n }

-- the node, where it is among them
abbrev pub find_node : Nodes → ℕ → Option Node
find_node v n = elim (lookup (nat_eq n) v.nodes) [ None ↦ None | Some x ↦ Some (node_at v n) ]

-- the node of that number stands at that place
abbrev pub IsPlaced : ℕ → Nodes → ℕ → Type 0
IsPlaced n v i = (x : Box Node Global) × (slice_get v.nodes i ≡ Some (n, x)) × (lookup (nat_eq n) v.nodes ≡ Some x)

-- each stands under its number, at this site
abbrev pub IsNamed : Inside → Type 0
IsNamed v = (n : ℕ) (x : Box Node Global) → lookup (nat_eq n) v.nodes.entries ≡ Some x → x.value.who ≡ record { site = v.site; node = n }

-- the site and its start are as before
pub record IsSameSite (old new : Nodes) : Type 0 where
  pub site : new.site ≡ old.site
  pub boot : new.boot ≡ old.boot
  pub version : new.version ≡ old.version

-- the nodes that a start finds on these records, oldest first
abbrev pub AreFrom : List LogRec → Nodes → Type 0
AreFrom rs v = (n : ℕ) → digest_at v n ≡ started (record { boot = v.boot; version = v.version; records = records_at n rs })
