-- A site: its nodes over a keeper of its log. What an event answers, in the words of the definitions: the record is forced
-- before anything of the event is so, and nothing else of the site changes.
use Rattle.std.specs.Prelude.{ℕ, ◌≡◌, ◌==◌, ◌⊎◌, cond, if◌then◌else◌, suc, true, Option, Some, None, List, Result, Ok, Err, map, slice_index_or}
use Rattle.tp_logrec.specs.declared.record.LogRec.{LogRec}
use Rattle.tp_logrec.specs.Order.{all_follow}
use Rattle.tp_model.specs.Links.{greatest}
use Rattle.tp_model.specs.Parts.{Event, Digest, Out, State}
use Rattle.tp_model.specs.Events.{started, is_no_node}
use Rattle.tp_model.specs.History.{state}
use Rattle.tp_model.specs.NodeRun.{Opening, boot_of, origin_at}
use Rattle.tp_model.specs.Node.{Move}
use Rattle.tp_journal.specs.declared.receipts.Receipt.{Receipt}
use Rattle.tp_journal.specs.declared.faults.ForceFault.{ForceFault}
use Rattle.tp_journal.specs.declared.faults.ForceFault.TheVariants as force
use Rattle.tp_journal.specs.Keeping.{Standing, Forces}
use Rattle.tp_journal.specs.Records.{version_of}
use Rattle.tp_journal.specs.Disorder.{IsFirstOutOfOrder}
use Rattle.tp_site.specs.Nodes.{Nodes, IsSameSite, AreFrom, has_node, who_at, digest_at}
use Rattle.tp_draft.specs.Draft.{Draft}
use Rattle.tp_model.specs.declared.refusal.Refusal.{Refusal}
use Rattle.tp_model.specs.Refusal.{number_in}
use Rattle.tp_node.specs.NodeEvent.{Answer, Refuses, Happens, answer_at}
use Rattle.tp_site.specs.declared.site.Played.{Played}
use Rattle.tp_model.specs.declared.transaction.TxFault.{TxFault}
use Rattle.tp_site.specs.declared.faults.SiteFault.{SiteFault}
use Rattle.tp_site.specs.declared.faults.LogFault.{LogFault}
use Rattle.tp_site.specs.Faults.{shut_by}
use Rattle.tp_site.specs.declared.faults.StartFault.{StartFault}

pub record Site (K : Type 0) : Type 0 where
  pub keeper : K
  -- its name, its boot number, the version of its log, and what is known of each node
  pub nodes : Nodes
  -- the count of faults with which it was shut
  pub shut : Option ℕ

-- what is known of the node of that number
abbrev pub known_at : {K : Type 0} → Site K → ℕ → Digest
known_at s n = digest_at s.nodes n

-- the name and the start are as before, and what is known of each node
pub record IsSame {K : Type 0} (old new : Site K) : Type 0 where
  pub site : IsSameSite old.nodes new.nodes
  pub known : (n : ℕ) → known_at new n ≡ known_at old n

-- ---- the record of an event

-- forced, where there is one
abbrev pub IsForced : {K : Type 0} → (K → Standing) → K → Option LogRec → K → Type 0
IsForced standing old None new = new ≡ old
IsForced standing old (Some r) new = (receipt : Receipt) × Forces (standing old) r (Ok receipt) (standing new)

-- not forced, for that fault; the keeper is not asked by a site that is shut
abbrev pub IsUnforced : {K : Type 0} → (K → Standing) → K → Option LogRec → ForceFault → K → Type 0
IsUnforced standing old None fault new = ⊥
IsUnforced standing old (Some r) fault new = Forces (standing old) r (Err fault) (standing new)

-- what the keeper answered of it
abbrev pub Records : {K : Type 0} → (K → Standing) → K → Option LogRec → Result (Unit {0}) ForceFault → K → Type 0
Records standing old rec (Ok u) new = IsForced standing old rec new
Records standing old rec (Err (force.Full size)) new = IsUnforced standing old rec (force.Full size) new
Records standing old rec (Err (force.DiskFault n)) new = IsUnforced standing old rec (force.DiskFault n) new
Records standing old rec (Err (force.Shut n)) new = IsUnforced standing old rec (force.Shut n) new
Records standing old rec (Err force.NoMemory) new = standing new ≡ standing old

abbrev pub rec_of : Answer → Option LogRec
rec_of (Refuses n) = None
rec_of (Happens n m) = m.rec

-- ---- what an event answers, at that node

-- it happens: its record was forced, its outputs are given, and the node is what it makes of it
pub record IsPlayed {K : Type 0} (standing : K → Standing) (old : Site K) (n : ℕ) (e : Event) (p : Played) (new : Site K) (m : Move) : Type 0 where
  pub answer : answer_at (who_at old.nodes n) (known_at old n) e ≡ Happens (number_in p.refusal) m
  pub outs : p.outs ≡ m.outs
  pub forced : IsForced standing old.keeper m.rec new.keeper
  pub known : (k : ℕ) → known_at new k ≡ cond (n == k) m.next (known_at old k)
  pub site : IsSameSite old.nodes new.nodes
  pub open_before : old.shut ≡ None
  pub open_after : new.shut ≡ None

-- its record was not forced
pub record IsHalted {K : Type 0} (standing : K → Standing) (old : Site K) (n : ℕ) (e : Event) (fault : ForceFault) (new : Site K) : Type 0 where
  pub unforced : IsUnforced standing old.keeper (rec_of (answer_at (who_at old.nodes n) (known_at old n) e)) fault new.keeper
  pub open_before : old.shut ≡ None
  pub same : IsSame old new

abbrev pub Plays : {K : Type 0} → (K → Standing) → Site K → ℕ → Event → Result Played SiteFault → Site K → Type 0
Plays standing old n e (Ok p) new = (m : Move) × IsPlayed standing old n e p new m
Plays standing old n e (Err (SiteFault.Refused k)) new =
    (answer_at (who_at old.nodes n) (known_at old n) e ≡ Refuses k) × (old.shut ≡ None) × (new ≡ old)
Plays standing old n e (Err (SiteFault.Full size)) new = IsHalted standing old n e (force.Full size) new × (new.shut ≡ None)
Plays standing old n e (Err (SiteFault.DiskFault faults)) new = IsHalted standing old n e (force.DiskFault faults) new × (new.shut ≡ Some faults)
-- it was shut, or the keeper is
Plays standing old n e (Err (SiteFault.Shut faults)) new =
    ((old.shut ≡ Some faults) × (new ≡ old)) ⊎ (IsHalted standing old n e (force.Shut faults) new × (new.shut ≡ None))
-- the free answer
Plays standing old n e (Err SiteFault.NoMemory) new = IsSame old new × (standing new.keeper ≡ standing old.keeper) × (old.shut ≡ None) × (new.shut ≡ None)

-- the same, where the outputs stand beside the answer
abbrev pub played_with : Result (Option Refusal) SiteFault → List Out → Result Played SiteFault
played_with (Ok refusal) outs = Ok (record { refusal = refusal; outs = outs })
played_with (Err fault) outs = Err fault

abbrev pub PlaysInto : {K : Type 0} → (K → Standing) → Site K → ℕ → Event → Result (Option Refusal) SiteFault → List Out → Site K → Type 0
PlaysInto standing old n e result outs new = Plays standing old n e (played_with result outs) new

-- ---- the two steps of it

-- an answer is known, and nothing of it is so
pub record IsAttempted {K : Type 0} (old : Site K) (n : ℕ) (e : Event) (refusal : Option Refusal) (a : Draft) (new : Site K) : Type 0 where
  pub answer : answer_at (who_at old.nodes n) (known_at old n) e ≡ Happens (number_in refusal) a.move
  pub who : a.who ≡ who_at new.nodes n
  pub there : has_node new.nodes n ≡ true
  pub same : IsSame old new
  pub keeper : new.keeper ≡ old.keeper
  pub open_before : old.shut ≡ None
  pub open_after : new.shut ≡ None

abbrev pub Attempts : {K : Type 0} → (K → Standing) → Site K → ℕ → Event → Result (Option Refusal) TxFault → Draft → Site K → Type 0
Attempts standing old n e (Ok refusal) a new = IsAttempted old n e refusal a new
Attempts standing old n e (Err (TxFault.Refused k)) a new =
    (answer_at (who_at old.nodes n) (known_at old n) e ≡ Refuses k) × (old.shut ≡ None) × (new ≡ old)
Attempts standing old n e (Err TxFault.NoMemory) a new = IsSame old new × (new.keeper ≡ old.keeper) × (old.shut ≡ None) × (new.shut ≡ None)

-- the node has become that, and its record is forced
pub record IsSettled {K : Type 0} (standing : K → Standing) (old : Site K) (n : ℕ) (d : Digest) (rec : Option LogRec) (new : Site K) : Type 0 where
  pub forced : IsForced standing old.keeper rec new.keeper
  pub known : (k : ℕ) → known_at new k ≡ cond (n == k) d (known_at old k)
  pub site : IsSameSite old.nodes new.nodes
  pub shut : new.shut ≡ old.shut

-- without it, the nodes are as before; a fault of the disk shuts the site
abbrev pub Settles : {K : Type 0} → (K → Standing) → Site K → ℕ → Digest → Option LogRec → Result (Unit {0}) ForceFault → Site K → Type 0
Settles standing old n d rec (Ok u) new = IsSettled standing old n d rec new
Settles standing old n d rec (Err fault) new = Records standing old.keeper rec (Err fault) new.keeper × (new.nodes ≡ old.nodes)
    × (new.shut ≡ shut_by fault old.shut)

-- ---- the start

-- the records that a keeper tells, oldest first
abbrev pub told_records : Standing → List LogRec
told_records s = map (λ r. r.rec) s.told

-- the site's name, and the log that it starts on
abbrev pub opening_of : Standing → List ℕ → Opening
opening_of s name = record { site = name; version = version_of s.wide; records = told_records s }

-- it stands on a log in order; each node is what the records of the log make of it, and the boot was forced
pub record IsStarted {K : Type 0} (standing : K → Standing) (old : K) (name : List ℕ) (s : Site K) : Type 0 where
  pub order : all_follow (told_records (standing old)) ≡ true
  pub site : s.nodes.site ≡ name
  pub boot : s.nodes.boot ≡ boot_of (opening_of (standing old) name)
  pub version : s.nodes.version ≡ version_of (standing old).wide
  pub known : (n : ℕ) → known_at s n ≡ started (origin_at (opening_of (standing old) name) n).start
  pub forced : IsForced standing old (Some (LogRec.Boot s.nodes.boot)) s.keeper
  pub shut : s.shut ≡ None

-- the first record that may not stand after those before it stands at that place
pub record IsForeign (told : List Receipt) (records : List LogRec) (at : ℕ) : Type 0 where
  pub index : ℕ
  pub first : IsFirstOutOfOrder records (Some index)
  pub place : (d : Receipt) → (slice_index_or told index d).place ≡ at

-- the boot was not forced, for that fault
pub record IsUnstarted {K : Type 0} (standing : K → Standing) (old : K) (name : List ℕ) (fault : ForceFault) (new : K) : Type 0 where
  pub order : all_follow (told_records (standing old)) ≡ true
  pub unforced : IsUnforced standing old (Some (LogRec.Boot (boot_of (opening_of (standing old) name)))) fault new

abbrev pub Starts : {K : Type 0} → (K → Standing) → K → List ℕ → Result (Site K) (K × StartFault) → Type 0
Starts standing old name (Ok s) = IsStarted standing old name s
Starts standing old name (Err (new, StartFault.Foreign at)) = IsForeign (standing old).told (told_records (standing old)) at × (new ≡ old)
Starts standing old name (Err (new, StartFault.BootsSpent)) =
    (all_follow (told_records (standing old)) ≡ true) × (boot_of (opening_of (standing old) name) ≡ suc greatest) × (new ≡ old)
Starts standing old name (Err (new, StartFault.Full size)) = IsUnstarted standing old name (force.Full size) new
Starts standing old name (Err (new, StartFault.DiskFault faults)) = IsUnstarted standing old name (force.DiskFault faults) new
Starts standing old name (Err (new, StartFault.Shut faults)) = IsUnstarted standing old name (force.Shut faults) new
-- the free answer
Starts standing old name (Err (new, StartFault.NoMemory)) = standing new ≡ standing old

-- what the records of a log tell before the boot is forced
pub record IsFound (standing : Standing) (name : List ℕ) (v : Nodes) : Type 0 where
  pub order : all_follow (told_records standing) ≡ true
  pub site : v.site ≡ name
  pub boot : v.boot ≡ boot_of (opening_of standing name)
  pub version : v.version ≡ version_of standing.wide
  pub from : AreFrom (told_records standing) v

abbrev pub IsUnfound : Standing → List ℕ → LogFault → Type 0
IsUnfound standing name (LogFault.Foreign at) = IsForeign standing.told (told_records standing) at
IsUnfound standing name LogFault.BootsSpent = (all_follow (told_records standing) ≡ true) × (boot_of (opening_of standing name) ≡ suc greatest)
-- the free answer
IsUnfound standing name LogFault.NoMemory = Unit {0}

-- the boot is forced, and the site stands on those nodes
abbrev pub Opens : {K : Type 0} → (K → Standing) → K → Nodes → Result (Site K) (K × ForceFault) → Type 0
Opens standing old v (Ok s) = (s.nodes ≡ v) × IsForced standing old (Some (LogRec.Boot v.boot)) s.keeper × (s.shut ≡ None)
Opens standing old v (Err (new, fault)) = Records standing old (Some (LogRec.Boot v.boot)) (Err fault) new

-- ---- what is shown

-- of a node that is declared or known
abbrev pub state_at : {K : Type 0} → Site K → ℕ → Option State
state_at s n = if is_no_node (known_at s n) then None else Some (state (known_at s n))
