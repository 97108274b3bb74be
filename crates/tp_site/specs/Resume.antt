-- A site that goes on over a log that was started already, with the nodes of one lane: those whose number is that of the lane,
-- modulo the number of lanes.
use Rattle.std.specs.Prelude.{ℕ, ◌%◌, ◌==◌, ◌≡◌, Bool, true, false, Some, None, List, [], ◌∷◌, ◌++◌, Result, Ok, Err}
use Rattle.tp_names.specs.declared.no_memory.NoMemory.{NoMemory}
use Rattle.tp_logrec.specs.declared.record.LogRec.{LogRec}
use Rattle.tp_logrec.specs.Order.{owner_of}
use Rattle.tp_model.specs.Events.{started}
use Rattle.tp_model.specs.NodeRun.{Opening, boot_of, records_at}
use Rattle.tp_model.specs.Lanes.{records_in}
use Rattle.tp_journal.specs.Keeping.{Standing}
use Rattle.tp_journal.specs.Records.{version_of}
use Rattle.tp_site.specs.Nodes.{Nodes, AreFrom}
use Rattle.tp_site.specs.Site.{Site, known_at, told_records}
use Rattle.tp_site.specs.Events.{kept_records}

abbrev pub is_in_lane : ℕ → ℕ → ℕ → Bool
is_in_lane lane lanes n = n % lanes == lane

-- the record is one of a node of the lane
abbrev pub is_record_in : ℕ → ℕ → LogRec → Bool
is_record_in lane lanes r = elim (owner_of r) [ None ↦ false | Some o ↦ o.node % lanes == lane ]

-- what the records of a log tell of the nodes of a lane, for a site of that name and boot number
pub record IsLaneOf (standing : Standing) (name : List ℕ) (number lane lanes : ℕ) (v : Nodes) : Type 0 where
  pub site : v.site ≡ name
  pub boot : v.boot ≡ number
  pub version : v.version ≡ version_of standing.wide
  pub from : AreFrom (records_in lane lanes (told_records standing)) v

-- each node of the lane is what its records make of it, and nothing was forced
pub record IsResumed {K : Type 0} (standing : K → Standing) (old : K) (name : List ℕ) (number lane lanes : ℕ) (s : Site K) : Type 0 where
  pub site : s.nodes.site ≡ name
  pub boot : s.nodes.boot ≡ number
  pub version : s.nodes.version ≡ version_of (standing old).wide
  pub known : (n : ℕ) → is_in_lane lane lanes n ≡ true
      → known_at s n ≡ started (record { boot = number; version = version_of (standing old).wide; records = records_at n (told_records (standing old)) })
  pub keeper : s.keeper ≡ old
  pub shut : s.shut ≡ None

abbrev pub Resumes : {K : Type 0} → (K → Standing) → K → List ℕ → ℕ → ℕ → ℕ → Result (Site K) (K × NoMemory) → Type 0
Resumes standing old name boot lane lanes (Ok s) = IsResumed standing old name boot lane lanes s
Resumes standing old name boot lane lanes (Err (new, fault)) = new ≡ old

-- the log is as a start of a site of that name leaves it: the records that it began on, and the boot, which is the last; and this
-- keeper has forced nothing since
pub record IsStartedOn (standing : Standing) (name : List ℕ) (number : ℕ) (o : Opening) : Type 0 where
  pub site : o.site ≡ name
  pub version : o.version ≡ version_of standing.wide
  pub boot : boot_of o ≡ number
  pub told : told_records standing ≡ o.records ++ LogRec.Boot number ∷ []
  pub kept : kept_records standing ≡ told_records standing
