-- The story that a disk in memory tells, from the record that it keeps of its changes.
use Rattle.std.specs.Prelude.{Bool, true, false, List, [], ◌∷◌, ◌++◌, ℕ, ◌+◌, ◌-◌, min, length, take, drop, reverse}
use Rattle.tp_outside.specs.Story.{Story, Made, Wrote, Resized, Synced}
use Rattle.tp_outside.specs.declared.changes.Call.{Call}
use Rattle.tp_outside.specs.declared.changes.Call.TheVariants.{Write, Resize, Nothing}
use Rattle.tp_outside.specs.declared.changes.Change.{Change}
use Rattle.tp_outside.specs.declared.changes.Changes.{Changes}

-- how many bytes a call wrote over or cut off
abbrev pub covered : Call → ℕ
covered (Write at len was) = min (at + len) was - min at was
covered (Resize len was) = was - min len was
covered Nothing = 0

-- the bytes that a write of n bytes goes over
abbrev pub written_over : ℕ → ℕ → List ℕ → List ℕ
written_over at n old = take (min (at + n) (length old) - min at (length old)) (drop (min at (length old)) old)

-- what reads gave before a call, from what they give after it and what it wrote over or cut off
abbrev pub before : Call → List ℕ → List ℕ → List ℕ
before (Write at len was) now lost = take (min at was) now ++ (lost ++ take (was - (at + len)) (drop (at + len) now))
before (Resize len was) now lost = take (min len was) now ++ lost
before Nothing now lost = now

-- the story goes on by a call, after which reads give this
abbrev pub after : Call → List ℕ → Story → Story
after (Write at len was) now s = Wrote at len now s
after (Resize len was) now s = Resized len now s
after Nothing now s = s

-- and by a sync, if one came next
abbrev pub synced_if : Bool → Story → Story
synced_if true s = Synced s
synced_if false s = s

-- The changes are listed the newest first, and reads give `now`. What the calls wrote over or cut off stands in `lost`, the
-- newest last.
abbrev pub story_from : List ℕ → List ℕ → List Change → Story
story_from now lost [] = Made now
story_from now lost (change ∷ changes) =
    synced_if change.synced (
    after change.call now (
    story_from (before change.call now (drop (length lost - covered change.call) lost)) (take (length lost - covered change.call) lost) changes
    )
    )

abbrev pub story_after : List ℕ → Changes → Story
story_after now changes = story_from now changes.lost.items (reverse changes.items.items)
