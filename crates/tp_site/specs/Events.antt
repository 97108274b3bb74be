-- The events that a site is given, each as it comes: records as octets, with the address that they are for. What the site
-- answers to one, and what it has come to after a list of them: the run of that list on the log that it started on.
use Rattle.std.specs.Prelude.{ℕ, ◌≡◌, ◌⊎◌, Bool, true, Option, Some, None, List, [], ◌∷◌, ◌++◌, Result, Ok, Err, map}
use Rattle.tp_logrec.specs.declared.record.LogRec.{LogRec}
use Rattle.tp_logrec.specs.declared.record.LogVersion.{LogVersion}
use Rattle.tp_records.specs.declared.body.Event.{Event as Given}
use Rattle.tp_records.specs.declared.body.Output.{Output}
use Rattle.tp_records.specs.Bodies.{peer_bytes}
use Rattle.tp_model.specs.Parts.{Event, Entry, Answer, Out, Tell, Send}
use Rattle.tp_model.specs.History.{answer, digest}
use Rattle.tp_model.specs.NodeRun.{Opening, boot_of, origin_at, Refuses, Is, asked, node_of, history_of, refusal_of, outputs_of, entry_outputs, run_from, log_after, AskedEvent}
use Rattle.tp_model.specs.Refusal.{number_in}
use Rattle.tp_journal.specs.declared.faults.ForceFault.{ForceFault}
use Rattle.tp_journal.specs.declared.faults.ForceFault.TheVariants as force
use Rattle.tp_journal.specs.Keeping.{Standing}
use Rattle.tp_journal.specs.Records.{version_of}
use Rattle.tp_site.specs.Nodes.{who_at}
use Rattle.tp_site.specs.Site.{Site, Plays, IsForced, IsUnforced, known_at, rec_of}
use Rattle.tp_node.specs.NodeEvent.{answer_at}
use Rattle.tp_site.specs.declared.faults.SiteFault.{SiteFault}
use Rattle.tp_site.specs.declared.site.Played.{Played}
use Rattle.tp_site_logs.specs.SiteLogs.{is_in_order}

-- ---- one event, whatever came before

-- an opening at that site: to know which node is asked, and who sends, nothing else of it is read
abbrev pub opening_at : List ℕ → Opening
opening_at name = record { site = name; version = LogVersion.Two; records = [] }

-- what goes out of a node at that site: the number of a refusal, where there is one, and its outputs with their records as octets
abbrev pub given_out : List ℕ → ℕ → Option ℕ → List Out → List Output
given_out name n number outs = refusal_of number ++ outputs_of (opening_at name) n outs

-- one of these outputs
abbrev pub output_of : List ℕ → ℕ → Out → Output
output_of name n (Tell i) = Output.Tell n i
output_of name n (Send to r) = Output.Send (record { site = name; node = n }) to (peer_bytes r)

-- the node of that number plays it, and its outputs go out
abbrev pub Gives : {K : Type 0} → (K → Standing) → Site K → ℕ → Event → Result (List Output) SiteFault → Site K → Type 0
Gives standing old n e (Ok outputs) new = (p : Played) × Plays standing old n e (Ok p) new × (outputs ≡ given_out old.nodes.site n (number_in p.refusal) p.outs)
Gives standing old n e (Err fault) new = Plays standing old n e (Err fault) new

-- it is refused by that number before any node is asked
abbrev pub Declines : {K : Type 0} → Site K → ℕ → Result (List Output) SiteFault → Site K → Type 0
Declines old k (Ok outputs) new = ⊥
Declines old k (Err (SiteFault.Refused n)) new = (n ≡ k) × (old.shut ≡ None) × (new ≡ old)
Declines old k (Err (SiteFault.Full size)) new = ⊥
Declines old k (Err (SiteFault.DiskFault faults)) new = ⊥
Declines old k (Err (SiteFault.Shut faults)) new = (old.shut ≡ Some faults) × (new ≡ old)
-- the free answer
Declines old k (Err SiteFault.NoMemory) new = (old.shut ≡ None) × (new ≡ old)

-- what was asked, and what came of it
abbrev pub PlaysAsked : {K : Type 0} → (K → Standing) → Site K → AskedEvent → Result (List Output) SiteFault → Site K → Type 0
PlaysAsked standing old (Refuses k) result new = Declines old k result new
PlaysAsked standing old (Is n e) result new = Gives standing old n e result new

-- the record that it asks for
abbrev pub rec_asked : {K : Type 0} → Site K → AskedEvent → Option LogRec
rec_asked old (Refuses k) = None
rec_asked old (Is n e) = rec_of (answer_at (who_at old.nodes n) (known_at old n) e)

-- ---- a list of events, from the start

-- the records of a keeper's own, oldest first
abbrev pub kept_records : Standing → List LogRec
kept_records s = map (λ r. r.rec) s.kept

-- each follows those before it, and only branches have voted
abbrev pub IsInOrder : Standing → Type 0
IsInOrder s = is_in_order (kept_records s) ≡ true

-- the history of a node after these events, newest entry first
abbrev pub history_at : Opening → List Given → ℕ → List Entry
history_at o gs n = history_of (run_from o [] gs).pasts n

-- The site stands where a run of these events on that opening does: each node is what its history makes of it, and the keeper's
-- records are those of the opening, the boot, and those of the run. A site may have some of the nodes alone: `mine` says which
-- these are.
pub record IsAt {K : Type 0} (standing : K → Standing) (mine : ℕ → Bool) (o : Opening) (gs : List Given) (s : Site K) : Type 0 where
  pub site : s.nodes.site ≡ o.site
  pub boot : s.nodes.boot ≡ boot_of o
  pub version : s.nodes.version ≡ o.version
  pub wide : version_of (standing s.keeper).wide ≡ o.version
  pub known : (n : ℕ) → mine n ≡ true → known_at s n ≡ digest (origin_at o n) (history_at o gs n)
  pub kept : kept_records (standing s.keeper) ≡ log_after o gs

-- a site that has them all
abbrev pub all_nodes : ℕ → Bool
all_nodes n = true

-- ---- the next event after these

-- what was asked is answered: the number of a refusal, and the entry of the node's history
abbrev pub answer_asked : Opening → List Given → AskedEvent → Answer
answer_asked o gs (Refuses k) = record { number = Some k; entry = None }
answer_asked o gs (Is n e) = answer (origin_at o n) (history_at o gs n) e

abbrev pub answer_after : Opening → List Given → Given → Answer
answer_after o gs g = answer_asked o gs (asked o g)

abbrev pub outputs_after : Opening → List Given → Given → List Output
outputs_after o gs g = let a : Answer = answer_after o gs g in refusal_of a.number ++ entry_outputs o (node_of g) a.entry

abbrev pub record_of : Option Entry → Option LogRec
record_of None = None
record_of (Some e) = e.rec

abbrev pub record_after : Opening → List Given → Given → Option LogRec
record_after o gs g = record_of (answer_after o gs g).entry

-- it happens: its record was forced, its outputs are given, and it is one event more
pub record IsStepped {K : Type 0} (standing : K → Standing) (mine : ℕ → Bool) (o : Opening) (gs : List Given) (old : Site K) (g : Given)
    (outputs : List Output) (new : Site K) : Type 0 where
  pub at : IsAt standing mine o (gs ++ g ∷ []) new
  pub entry : Entry
  pub happens : (answer_after o gs g).entry ≡ Some entry
  pub given : outputs ≡ outputs_after o gs g
  pub forced : IsForced standing old.keeper (record_after o gs g) new.keeper
  pub open_before : old.shut ≡ None
  pub open_after : new.shut ≡ None

-- its record was not forced, for that fault, and nothing of it is so
pub record IsStopped {K : Type 0} (standing : K → Standing) (mine : ℕ → Bool) (o : Opening) (gs : List Given) (old : Site K) (g : Given)
    (fault : ForceFault) (new : Site K) : Type 0 where
  pub at : IsAt standing mine o gs new
  pub unforced : IsUnforced standing old.keeper (record_after o gs g) fault new.keeper
  pub open_before : old.shut ≡ None

-- what the site has come to, by what it answers
abbrev pub StepsTo : {K : Type 0} → (K → Standing) → (ℕ → Bool) → Opening → List Given → Site K → Given → Result (List Output) SiteFault → Site K → Type 0
StepsTo standing mine o gs old g (Ok outputs) new = IsStepped standing mine o gs old g outputs new
-- it is refused, and changes nothing: it is no entry of any history
StepsTo standing mine o gs old g (Err (SiteFault.Refused k)) new =
    IsAt standing mine o (gs ++ g ∷ []) new × (answer_after o gs g ≡ record { number = Some k; entry = None }) × (old.shut ≡ None) × (new ≡ old)
StepsTo standing mine o gs old g (Err (SiteFault.Full size)) new = IsStopped standing mine o gs old g (force.Full size) new × (new.shut ≡ None)
StepsTo standing mine o gs old g (Err (SiteFault.DiskFault faults)) new = IsStopped standing mine o gs old g (force.DiskFault faults) new
    × (new.shut ≡ Some faults)
-- it was shut, or the keeper is
StepsTo standing mine o gs old g (Err (SiteFault.Shut faults)) new =
    (IsAt standing mine o gs new × (old.shut ≡ Some faults) × (new ≡ old)) ⊎ (IsStopped standing mine o gs old g (force.Shut faults) new × (new.shut ≡ None))
-- the free answer
StepsTo standing mine o gs old g (Err SiteFault.NoMemory) new = IsAt standing mine o gs new × (standing new.keeper ≡ standing old.keeper)
    × (old.shut ≡ None) × (new.shut ≡ None)
