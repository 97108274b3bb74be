-- A site that is played again: its steps lead to the deeds of its record, and it stands where these leave it.
use Rattle.std.specs.Prelude.{ℕ, ◌≡◌, true, Some, None, List, [], ◌∷◌}
use Rattle.tp_outside.specs.declared.mem_disk.MemDisk.{MemDisk}
use Rattle.tp_outside.specs.MemDisk.{recorded}
use Rattle.tp_records.specs.declared.body.Event.{Event as Given}
use Rattle.tp_journal.specs.Journals.{Kept, standing_of}
use Rattle.tp_journal.specs.Keeping.{Standing}
use Rattle.tp_site.specs.Site.{Site, opening_of}
use Rattle.tp_site.specs.Events.{IsAt, all_nodes}
use Rattle.tp_site_logs.specs.Lives.{Life, opening_after}
use Rattle.tp_deployments.specs.Deployments.{Place, life_after}
use Rattle.tp_weaving.specs.Frames.{Record}
use Rattle.tp_weaving.specs.Steps.{Leads, numbered}
use Rattle.tp_unite.specs.declared.playing.Playing.{Playing}

-- what a journal in memory tells
abbrev pub standing : Kept MemDisk → Standing
standing j = standing_of j (recorded j.disk).faults (Some (recorded j.disk).story) None

-- the log holds what the processes before left, and tells all of it
pub record IsPlaying (qs : List Place) (r : Record) (p : Playing) : Type 0 where
  pub name : p.lane.name ≡ r.site
  pub taken : p.lane.taken ≡ 0
  pub leads : Leads qs r.site [] p.lane.steps.items r.deeds
  pub frames : numbered [] p.lane.steps.items ≡ r.frames
  pub given : List Given
  pub life : Life
  pub lived : life_after r.deeds r.site ≡ given ∷ life
  pub at : IsAt standing all_nodes (opening_after r.site life) given p.site
  pub is_open : p.site.shut ≡ None

-- ---- the log

pub record IsFreshLog (j : Kept MemDisk) : Type 0 where
  pub wide : j.wide ≡ true
  pub list : j.list ≡ []

-- a process has started on it
pub record StartsOn (j : Kept MemDisk) (name : List ℕ) (s : Site (Kept MemDisk)) : Type 0 where
  pub at : IsAt standing all_nodes (opening_of (standing j) name) [] s
  pub is_open : s.shut ≡ None
