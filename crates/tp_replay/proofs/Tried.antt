-- How a trial ends.
use Rattle.std.proofs.Common.{◌≡◌, ◌∙◌, ◌++◌, ℕ, Option, Some, None, List, [], length, map, refl, ap, sym, subst, arith}
use Rattle.tp_records.specs.Answers.{Answer}
use Rattle.tp_model.specs.World.{World}
use Rattle.tp_model.specs.Generator.{made, schedule, summary, summary_of}
use Rattle.tp_model.specs.Transcript.{Transcript, Ending, Done, Bad_input, At_limit, raw_lines, transcript, transcript_with}
use Rattle.tp_model.specs.OutText.{out_texts}
use Rattle.tp_model.specs.Trees.{closing}
use Rattle.tp_schedule.specs.LinesLeft.{Place}
use Rattle.tp_generate.specs.declared.schedule.Schedule.{Schedule}
use Rattle.tp_generate.specs.Making.{IsScheduleOf}
use Rattle.tp_world_members.specs.DrivenWorld.{members_of, Stands}
use Rattle.tp_world_members.specs.declared.driven_world.DrivenWorld.{DrivenWorld}
use Rattle.tp_replay.specs.declared.stop.LineStop.{LineStop}
use Rattle.tp_replay.specs.declared.stop.InputStop.{InputStop}
use Rattle.tp_replay.specs.Stops.{IsNumbered}
use Rattle.tp_replay.specs.Transcribing.{past_bad, past_limit}
use Rattle.tp_replay.specs.Playing.{EndsNext, IsLast}
use Rattle.tp_replay.specs.Trying.{alone, IsPlayed, StopsAt}
use Rattle.tp_replay.proofs.SoFar.{SoFar, Whole}
use Rattle.tp_replay.proofs.Ending.{stops_as, closed, closed_world, whole_read}
use Rattle.tp_replay.proofs.Alone.{unanswered, same_with}

-- ---- the lines

abbrev IsNone : Option (List ℕ) → Type 0
IsNone None = Unit {0}
IsNone (Some all) = ⊥

pub none_is_some : (all : List ℕ) → None ≡ Some all → ⊥
none_is_some all e = subst IsNone e tt

-- no member was there to answer
is_alone : {M : Type 0} (allowed : M → List Answer → Type 0) (bytes : List ℕ) (now : List (Option M)) (text : List ℕ) (e : Ending) (w : Whole allowed (map (λ (m : M). Some m) []) now (λ answers. transcript_with 0 bytes answers) text e)
    → alone bytes ≡ record { written = text; ending = e; world = w.world; puts = w.puts }
is_alone allowed bytes now text e w = ap (transcript_with 0 bytes) (sym (unanswered allowed now w.puts w.answers w.each w.gave)) ∙ w.is

module _ {M : Type 0} (allowed : M → List Answer → Type 0) (at : ℕ) (bytes : List ℕ) (v : DrivenWorld M) (place : Place) (left start now : Option (List ℕ)) (pending : List ℕ) (new : DrivenWorld M) (unread : Option (List ℕ))
    (s : SoFar allowed [] at bytes v place left start now pending) where
  -- the replay ends at the first of the lines that are left
  pub ends_at_line : (stop : LineStop) → IsNumbered stop → EndsNext allowed at place.before s.world s.lines (InputStop.Line stop) unread v new → StopsAt (alone bytes) stop
  ends_at_line (LineStop.BadInput n why) some h =
      (some, ap (λ (t : Transcript). t.ending) (is_alone allowed bytes (members_of new) s.text (Bad_input n why) (stops_as allowed [] at bytes v place left start now pending s new n (past_bad why s.lines) unread (Bad_input n why) h)))
  ends_at_line (LineStop.Limit what n) some h =
      (some, ap (λ (t : Transcript). t.ending) (is_alone allowed bytes (members_of new) s.text (At_limit what n) (stops_as allowed [] at bytes v place left start now pending s new n (past_limit what s.lines) unread (At_limit what n) h)))
  ends_at_line LineStop.NoMemory some h = tt

  -- no line is left
  pub ends_after_lines : IsLast s.lines unread v new → IsPlayed (alone bytes) new
  ends_after_lines h =
      let none : raw_lines bytes ≡ s.read = whole_read allowed [] at bytes v place left start now pending s h.none in
      let w : Whole allowed (map (λ (m : M). Some m) []) (members_of v) (λ answers. transcript_with 0 bytes answers) (s.text ++ out_texts (closing s.world)) Done = closed allowed [] at bytes v place left start now pending s bytes none in
      let is : alone bytes ≡ record { written = s.text ++ out_texts (closing s.world); ending = Done; world = w.world; puts = w.puts } = is_alone allowed bytes (members_of v) (s.text ++ out_texts (closing s.world)) Done w in
      let world : (alone bytes).world ≡ s.world = ap (λ (t : Transcript). t.world) is ∙ closed_world allowed [] at bytes v place left start now pending s bytes none in
      (ap (λ (t : Transcript). t.ending) is, subst (λ (u : World). Stands u new) (sym world) (subst (λ (x : DrivenWorld M). Stands s.world x) (sym h.same) s.stands))

-- ---- the summary

-- what is summed up of the world that is left is the summary of the definitions
pub summed : {M : Type 0} (number nodes rounds : ℕ) (m : Schedule) (new : DrivenWorld M) (text : List ℕ) → IsScheduleOf number nodes rounds m → IsPlayed (alone m.text) new
    → ((w : World) → Stands w new → text ≡ summary_of m.lines w) → text ≡ summary number nodes rounds
summed number nodes rounds m new text is played sums =
    let same : transcript m.text [] ≡ alone m.text = same_with 3 m.text played.0 in
    sums (alone m.text).world played.1
    ∙ ap (λ n. summary_of n (alone m.text).world) is.lines
    ∙ ap (λ (t : Transcript). summary_of (length (made number nodes rounds)) t.world) (sym same)
    ∙ ap (λ b. summary_of (length (made number nodes rounds)) (transcript b []).world) is.text

pub stopped_of : (number nodes rounds : ℕ) (m : Schedule) (stop : LineStop) → IsScheduleOf number nodes rounds m → StopsAt (alone m.text) stop
    → StopsAt (alone (schedule number nodes rounds)) stop
stopped_of number nodes rounds m stop is h = subst (λ b. StopsAt (alone b) stop) is.text h

-- ---- the command

-- it stops in a line with a number
pub stops_numbered : (t : Transcript) (stop : LineStop) → StopsAt t stop → IsNumbered stop
stops_numbered t (LineStop.BadInput at why) h = h.0
stops_numbered t (LineStop.Limit what at) h = h.0
stops_numbered t LineStop.NoMemory h = tt
