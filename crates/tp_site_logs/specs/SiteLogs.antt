-- The log of a site as one list: what it tells of each of the site's nodes, and what the next start finds on it.
-- A node's history says which records the node forced; the disk of its site has those of all nodes there, among the boots.
-- Statements alone; nothing is proved here.
use Rattle.std.specs.Prelude.{ℕ, zero, suc, ◌≡◌, ◌≤◌, ◌&&◌, Bool, true, false, Option, Some, None, List, [], ◌∷◌, ◌++◌, reverse, length, if◌then◌else◌}
use Rattle.tp_names.specs.declared.identifiers.Addr.{Addr}
use Rattle.tp_names.specs.Same.{is_name}
use Rattle.tp_records.specs.declared.body.Event.{Event as Given}
use Rattle.tp_logrec.specs.declared.record.LogRec.{LogRec}
use Rattle.tp_logrec.specs.declared.record.LogVersion.{LogVersion}
use Rattle.tp_logrec.specs.Order.{boots, all_follow}
use Rattle.tp_model.specs.Events.{started}
use Rattle.tp_model.specs.History.{digest, records, crashed}
use Rattle.tp_model.specs.NodeRun.{Opening, boot_of, records_at, origin_at, history_of, run_from}
use Rattle.tp_model.specs.World.{World, Node, Site, number_of, site_of, find_node, find_site}
use Rattle.tp_model.specs.Happenings.{Happening, Declare, Place, Declare_again, Does, Mark, Crash, Crash_in, Stop, Drive, Drop}
use Rattle.tp_model.specs.Legal.{is_start, IsGrown, IsLegal}
use Rattle.tp_model.specs.Promises.{IsIn}

-- a site's log, oldest record first
abbrev pub log_of : Site → List LogRec
log_of x = reverse x.disk.records

-- ---- a log that a site may start on

-- only a branch votes: a root has no superior that counts its Ready
abbrev pub is_vote_of_branch : LogRec → Bool
is_vote_of_branch (LogRec.Boot n) = true
is_vote_of_branch (LogRec.Ready n k a cs) = elim k.branch [ None ↦ false | Some b ↦ true ]
is_vote_of_branch (LogRec.Heuristic n k o) = true
is_vote_of_branch (LogRec.Commit n k a cs) = true
is_vote_of_branch (LogRec.Damage n k a o r cs) = true
is_vote_of_branch (LogRec.End n k o) = true

abbrev pub only_branches_vote : List LogRec → Bool
only_branches_vote [] = true
only_branches_vote (r ∷ rs) = is_vote_of_branch r && only_branches_vote rs

-- each record follows those before it, and only branches have voted; children may be twins, and keys of any age
abbrev pub is_in_order : List LogRec → Bool
is_in_order rs = all_follow rs && only_branches_vote rs

-- ---- the histories that a list of events leaves

-- each grew under one superior, and is legal where its start is
abbrev pub HistoriesAreLegal : Opening → List Given → Type 0
HistoriesAreLegal o es =
    (n : ℕ) → (up : Option Addr)
    × IsGrown (origin_at o n) up (history_of (run_from o [] es).pasts n)
    × (is_start (origin_at o n) ≡ true → IsLegal (origin_at o n) up (history_of (run_from o [] es).pasts n))

-- ---- what the log tells

-- of a number: all that its node ever forced, oldest first, where that node stands at the site of that name; else nothing
abbrev pub forced_by : List ℕ → Option Node → List LogRec
forced_by s None = []
forced_by s (Some n) = if is_name (site_of n) s then reverse (records n.origin n.history) else []

-- 1, 2, .., n
abbrev pub one_to : ℕ → List ℕ
one_to zero = []
one_to (suc n) = one_to n ++ suc n ∷ []

pub record TellsItsNodes (w : World) (x : Site) : Type 0 where
  pub nodes : (k : ℕ) → records_at k (log_of x) ≡ forced_by x.name (find_node w.nodes k)
  -- each start of the site has its Boot, and the last is the one in which its nodes are
  pub starts : boots (log_of x) ≡ one_to x.boot
  pub last : (n : Node) → IsIn w n → is_name (site_of n) x.name ≡ true → (digest n.origin n.history).boot ≡ x.boot
  pub order : is_in_order (log_of x) ≡ true

-- so does every site of the world
abbrev pub DisksTell : World → Type 0
DisksTell w = (s : List ℕ) (x : Site) → find_site w.sites s ≡ Some x → TellsItsNodes w x

-- ---- the next start

-- what the site opens where it starts again on its log
abbrev pub next_opening : Site → Opening
next_opening x = record { site = x.name; version = LogVersion.Two; records = log_of x }

pub record StartsNext (w : World) (x : Site) : Type 0 where
  -- no record of the log is foreign to it, and every number has a start that a history can begin with
  pub order : is_in_order (next_opening x).records ≡ true
  pub legal : (k : ℕ) → is_start (origin_at (next_opening x) k) ≡ true
  -- its boot number is the next, and no more boots stand in the log than records
  pub boot : boot_of (next_opening x) ≡ suc x.boot
  pub most : x.boot ≤ length (log_of x)
  -- of each node of the site it knows what a crash leaves, and of every other number nothing
  pub nodes : (n : Node) → IsIn w n → is_name (site_of n) x.name ≡ true
      → digest (origin_at (next_opening x) (number_of n)) [] ≡ digest n.origin (crashed n.history)
  pub others : (k : ℕ) → records_at k (log_of x) ≡ []
      → digest (origin_at (next_opening x) k) [] ≡ started (record { boot = suc x.boot; version = LogVersion.Two; records = [] })

abbrev pub DisksStart : World → Type 0
DisksStart w = (s : List ℕ) (x : Site) → find_site w.sites s ≡ Some x → StartsNext w x

-- how often a site stopped in a run
abbrev pub stops : List Happening → ℕ
stops [] = 0
stops (Declare n s under ∷ es) = stops es
stops (Place n s under ∷ es) = stops es
stops (Declare_again n ∷ es) = stops es
stops (Does d ∷ es) = stops es
stops (Mark k ∷ es) = stops es
stops (Crash s ∷ es) = suc (stops es)
stops (Crash_in s call fill d ∷ es) = suc (stops es)
stops (Stop s ∷ es) = suc (stops es)
stops (Drive n k ∷ es) = stops es
stops (Drop k ∷ es) = stops es
