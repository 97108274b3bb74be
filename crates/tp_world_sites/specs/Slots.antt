-- What the functions of a site's slot answer.
use Rattle.std.specs.Prelude.{ℕ, ◌≡◌, ◌++◌, true, Option, Some, None, List, [], ◌∷◌, Result, Ok, Err, slice_get}
use Rattle.std.specs.Option.{option_map}
use Rattle.tp_logrec.specs.declared.record.LogRec.{LogRec}
use Rattle.tp_outside.specs.declared.mem_disk.MemDisk.{MemDisk}
use Rattle.tp_outside.specs.MemDisk.{recorded}
use Rattle.tp_journal.specs.declared.faults.ForceFault.TheVariants as force
use Rattle.tp_journal.specs.Journals.{Kept, standing_of}
use Rattle.tp_journal.specs.Keeping.{Standing}
use Rattle.tp_journal.specs.Log.{head, blocks}
use Rattle.tp_journal.specs.Records.{bodies_of}
use Rattle.tp_journal.specs.Told.{IsOn}
use Rattle.tp_model.specs.declared.out_line.LogWords.{LogWords}
use Rattle.tp_model.specs.declared.refusal.Refusal.{Refusal}
use Rattle.tp_model.specs.declared.verdict.What.{What}
use Rattle.tp_model.specs.Happenings.{log_shown, new_site}
use Rattle.tp_model.specs.Node.{Move}
use Rattle.tp_model.specs.Outcomes.{is_unchanged}
use Rattle.tp_model.specs.Refusal.{number_in}
use Rattle.tp_names.specs.declared.identifiers.Addr.{Addr}
use Rattle.tp_model.specs.Parts.{Event, Declare}
use Rattle.tp_site.specs.Nodes.{who_at}
use Rattle.tp_site.specs.NodeEvent.{Refuses, answer_at}
use Rattle.tp_site.specs.Site.{IsPlayed, IsUnforced, known_at, rec_of}
use Rattle.tp_site.specs.State.{tree_in}
use Rattle.tp_world_sites.specs.Sites.{IsSite, unknown_at}
use Rattle.tp_world_sites.specs.declared.fault.WorldFault.{WorldFault}
use Rattle.tp_world_sites.specs.NodeAnswers.{Answer}
use Rattle.tp_world_sites.specs.declared.site_slot.Entry.{Entry}
use Rattle.tp_world_sites.specs.declared.site_slot.SiteSlot.{SiteSlot}

-- ---- the log

-- what a journal in memory tells
abbrev pub standing : Kept MemDisk → Standing
standing j = standing_of j (recorded j.disk).faults (Some (recorded j.disk).story) None

-- a log of version 2 with no records, and its file
abbrev pub blank_file : List ℕ
blank_file = head 1 ++ blocks (bodies_of true []) ++ 0 ∷ []

pub record IsBlank (j : Kept MemDisk) : Type 0 where
  pub list : j.list ≡ []
  pub wide : j.wide ≡ true
  pub gate : j.gate ≡ 10
  pub unshut : j.shut ≡ None
  pub bytes : IsOn (Some (recorded j.disk).story) blank_file

-- what is shown of the record after the first so many, where there is one
abbrev pub shown_behind : List LogRec → ℕ → Option LogWords
shown_behind rs count = option_map log_shown (slice_get rs count)

-- ---- a new site

-- it is the new site of that name, and no number has had to do with it
pub record IsFresh (name : List ℕ) (x : SiteSlot) : Type 0 where
  pub site : IsSite (new_site name) x
  pub unknown : (k : ℕ) → known_at x.site k ≡ unknown_at x

-- ---- an event

-- it has happened: the site has played it, and the step is what it shows of trees
pub record HasHappened (old : SiteSlot) (n : ℕ) (e : Event) (refusal : Option Refusal) (x : Entry) (new : SiteSlot) : Type 0 where
  pub move : Move
  pub played : IsPlayed standing old.site n e (record { refusal = refusal; outs = x.outs }) new.site move
  pub change : x.change ≡ record {
    before = tree_in (known_at old.site n);
    after = tree_in (known_at new.site n);
    leaves = is_unchanged e;
    rec = option_map log_shown move.rec;
  }

-- it is refused by that number, and nothing has changed
abbrev pub IsRefused : SiteSlot → ℕ → Event → ℕ → SiteSlot → Type 0
IsRefused old n e k new = (answer_at (who_at old.site.nodes n) (known_at old.site n) e ≡ Refuses k) × (new ≡ old)

abbrev pub SlotAnswers : SiteSlot → ℕ → Event → Answer → SiteSlot → Type 0
SlotAnswers old n e (Answer.Refused k) new = IsRefused old n e k new
SlotAnswers old n e (Answer.Happened refusal x) new = HasHappened old n e refusal x new

-- the number of the refusal that is answered, and the entry that the node's history gains
abbrev pub number_told : Answer → Option ℕ
number_told (Answer.Refused k) = Some k
number_told (Answer.Happened refusal x) = number_in refusal

abbrev pub entry_told : Answer → Option Entry
entry_told (Answer.Refused k) = None
entry_told (Answer.Happened refusal x) = Some x

-- the log has no room for the event's record
abbrev pub IsOver : SiteSlot → ℕ → Event → SiteSlot → Type 0
IsOver old n e new = (size : ℕ)
    × IsUnforced standing old.site.keeper (rec_of (answer_at (who_at old.site.nodes n) (known_at old.site n) e)) (force.Full size) new.site.keeper

abbrev pub SlotPlays : SiteSlot → ℕ → Event → Result Answer WorldFault → SiteSlot → Type 0
SlotPlays old n e (Ok a) new = SlotAnswers old n e a new
SlotPlays old n e (Err WorldFault.Name) new = ⊥
SlotPlays old n e (Err (WorldFault.Limit what)) new = (what ≡ What.Log) × IsOver old n e new
SlotPlays old n e (Err WorldFault.NoMemory) new = Unit {0}

-- the node is declared
abbrev pub Declares : SiteSlot → ℕ → Option Addr → SiteSlot → Type 0
Declares old n s new = (a : Answer) × SlotPlays old n (Declare s) (Ok a) new
