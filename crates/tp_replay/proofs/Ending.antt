-- How a replay ends: at a line that was not played, with the closing lines, or where the sink fails.
use Rattle.std.proofs.Common.{◌≡◌, ◌≤◌, ◌-◌, ◌++◌, ◌⊎◌, inl, inr, ℕ, suc, List, [], ◌∷◌, Option, Some, Result, Ok, Err, refl, ap, subst, sym, ◌∙◌, arith, length, drop, map}
use Rattle.std.specs.Prelude.{IfErr}
use Rattle.std.proofs.lemmas.List.{append-nil}
use Rattle.tp_records.specs.declared.request.Request.{Request}
use Rattle.tp_records.specs.Answers.{Answer}
use Rattle.tp_model.specs.OutText.{out_texts}
use Rattle.tp_model.specs.Trees.{closing}
use Rattle.tp_model.specs.World.{World}
use Rattle.tp_model.specs.Transcript.{Put, RawLine, raw_lines, Ending, Done, Bad_input, At_limit, Transcript, transcript_from, transcript_with}
use Rattle.tp_schedule.specs.LinesLeft.{Place, first_length}
use Rattle.tp_world_members.specs.DrivenWorld.{members_of, Stands}
use Rattle.tp_world_members.specs.declared.driven_world.DrivenWorld.{DrivenWorld}
use Rattle.tp_replay.specs.declared.status.Status.{Status}
use Rattle.tp_replay.specs.declared.stop.LineStop.{LineStop}
use Rattle.tp_replay.specs.declared.stop.InputStop.{InputStop}
use Rattle.tp_replay.specs.declared.stop.ReplayStop.{ReplayStop}
use Rattle.tp_replay.specs.Stops.{IsInputStop, IsReplayStop}
use Rattle.tp_replay.specs.Status.{IsEnding, replay_status}
use Rattle.tp_outside.specs.Faults.{HasRisen}
use Rattle.tp_streams.specs.Written.{WritesPrefix}
use Rattle.tp_replay.specs.Written.{Writes, WritesBut, WroteBut}
use Rattle.tp_replay.specs.Transcribing.{may_of, lines_from, past_bad, past_limit, ReadsTo, ReadsLine, ReadsInput, Reads, TellsAll, TellsSome, TellsLine, TellsLines, TellsInput, Tells, Transcribes, replay_of, IsComplete}
use Rattle.tp_replay.specs.Playing.{Stops, ShowsNext, EndsAt, EndsFirst, EndsNext, IsLast}
use Rattle.tp_replay.proofs.Cuts.{Cut, cut_at}
use Rattle.tp_replay.proofs.Pending.{Part, part_of, wrote_more, wrote_whole, wrote_prefix}
use Rattle.tp_replay.proofs.SoFar.{SoFar, Whole, Goes, stops_whole, are_allowed, tells_all, whole_some, tells_some, tells_prefix, count, goes_on, goes_out, goes_further}

-- ---- in the midst

drop_first : {A : Type 0} (xs ys : List A) → drop (length xs) (xs ++ ys) ≡ ys
drop_first [] ys = refl
drop_first (x ∷ xs) ys = drop_first xs ys

-- some text of which a prefix was written
writes_part : (may : ℕ → List Answer → Type 0) (members : ℕ) (bytes text : List ℕ) (old new : Option (List ℕ)) → TellsSome may members bytes text → ((before : List ℕ) → old ≡ Some before → WritesPrefix before text new) → Writes (TellsSome may members bytes) old new
writes_part may members bytes text old new tells writes =
    let p : Part text old new = part_of text old new writes in
    record { text = p.part; tells = tells_prefix may members bytes text p.part tells p.prefix; written = p.written }

module _ {M : Type 0} (allowed : M → List Answer → Type 0) (ms : List M) (at : ℕ) (bytes : List ℕ) (v : DrivenWorld M) (place : Place) (left start now : Option (List ℕ)) (pending : List ℕ)
    (s : SoFar allowed ms at bytes v place left start now pending) where
  abbrev May : ℕ → List Answer → Type 0
  May = may_of allowed ms

  abbrev k : ℕ
  k = length ms

  so_far_some : TellsSome May k bytes s.text
  so_far_some = tells_some allowed ms bytes (members_of v) (λ later. transcript_from k at place.before later s.world s.lines) s.text (goes_on allowed ms at bytes v place left start now pending s)

  -- some lines, with the closing lines after them
  pub closed : (part : List ℕ) → raw_lines part ≡ s.read → Whole allowed (map (λ m. Some m) ms) (members_of v) (λ answers. transcript_with k part answers) (s.text ++ out_texts (closing s.world)) Done
  closed part is =
      let g : Goes allowed (map (λ m. Some m) ms) (members_of v) (λ answers. transcript_with k part answers) s.text (λ later. transcript_from k at place.before later s.world []) = goes_out allowed ms at bytes v place left start now pending s part is in
      record {
        answers = g.given;
        puts = g.put;
        world = s.world;
        each = g.each;
        is = ap (λ (a : List (Option Request)). transcript_with k part a) (sym (append-nil g.given)) ∙ g.goes []
            ∙ ap (λ (qs : List Put). let y : Transcript = record { written = s.text ++ out_texts (closing s.world); ending = Done; world = s.world; puts = qs } in y) (append-nil g.put);
        gave = g.gave;
      }

  pub closed_world : (part : List ℕ) (is : raw_lines part ≡ s.read) → (closed part is).world ≡ s.world
  unfolding closed
  closed_world part is = refl

  so_far_lines : (unread : Option (List ℕ)) → ReadsTo (first_length s.lines) s.lines unread → TellsLines May k bytes unread s.text
  so_far_lines unread reads =
      let c : Cut bytes s.read s.lines = cut_at bytes s.read s.lines s.all in
      let w : Whole allowed (map (λ m. Some m) ms) (members_of v) (λ answers. transcript_with k c.prefix answers) (s.text ++ out_texts (closing s.world)) Done = closed c.prefix c.first_lines in
      record {
        lines = c.prefix;
        rest = c.behind;
        is = c.is;
        cut = s.all ∙ ap (λ (ls : List RawLine). ls ++ s.lines) (sym c.first_lines) ∙ ap (λ (ls : List RawLine). raw_lines c.prefix ++ ls) (sym c.other_lines);
        answers = w.answers;
        allowed = are_allowed allowed ms c.prefix (members_of v) (s.text ++ out_texts (closing s.world)) Done w;
        ending = ap (λ (t : Transcript). t.ending) w.is;
        whole = ap (λ (t : Transcript). t.written) w.is ∙ ap (λ (u : World). s.text ++ out_texts (closing u)) (sym (ap (λ (t : Transcript). t.world) w.is ∙ closed_world c.prefix c.first_lines));
        short = subst (λ (ls : List RawLine). ReadsTo (first_length ls) ls unread) (sym c.other_lines) reads;
      }

  pub stops_as : (new : DrivenWorld M) (n most : ℕ) (unread : Option (List ℕ)) (e : Ending) → EndsAt allowed at place.before s.world s.lines n e most unread v new → Whole allowed (map (λ m. Some m) ms) (members_of new) (λ answers. transcript_with k bytes answers) s.text e
  stops_as new n most unread e h =
      let stops : Stops allowed (members_of v) (members_of new) (λ later. transcript_from k at place.before later s.world s.lines) e =
      subst (λ (n : ℕ). Stops allowed (members_of v) (members_of new) (λ answers. transcript_from n at place.before answers s.world s.lines) e) (count allowed ms at bytes v place left start now pending s) h.stops in
      stops_whole allowed (map (λ m. Some m) ms) (members_of v) (members_of new) (λ answers. transcript_with k bytes answers) (λ later. transcript_from k at place.before later s.world s.lines) s.text e (goes_on allowed ms at bytes v place left start now pending s) stops

  stops_at : (new : DrivenWorld M) (n most : ℕ) (unread : Option (List ℕ)) (e : Ending) → EndsAt allowed at place.before s.world s.lines n e most unread v new → TellsAll May k bytes e s.text
  stops_at new n most unread e h = tells_all allowed ms bytes (members_of new) s.text e (stops_as new n most unread e h)

  pub whole_read : s.lines ≡ [] → raw_lines bytes ≡ s.read
  whole_read none = s.all ∙ ap (λ (ls : List RawLine). s.read ++ ls) none ∙ append-nil s.read

  pub ends_so : (out : List ℕ) (stop : InputStop) (unread : Option (List ℕ)) (new : DrivenWorld M) → out ≡ pending → EndsNext allowed at place.before s.world s.lines stop unread v new
      → WritesBut (λ text. TellsInput May k bytes (Err stop) unread text × TellsSome May k bytes text) out start now
  ends_so out stop unread new same h = record {
    text = s.text;
    tells = (go stop h, so_far_some);
    wrote = λ before is. subst (λ (o : List ℕ). WroteBut before s.text o now) (sym same) (s.wrote before is);
  }
    where
      in_line : (st : LineStop) → EndsFirst allowed at place.before s.world s.lines st unread v new → TellsLine May k bytes st s.text
      in_line (LineStop.BadInput n why) h = stops_at new n (past_bad why s.lines) unread (Bad_input n why) h
      in_line (LineStop.Limit what n) h = stops_at new n (past_limit what s.lines) unread (At_limit what n) h
      in_line LineStop.NoMemory h = so_far_some

      go : (st : InputStop) → EndsNext allowed at place.before s.world s.lines st unread v new → TellsInput May k bytes (Err st) unread s.text
      go (InputStop.Line st) h = in_line st h
      go (InputStop.ReadFault n) h = so_far_lines unread h

  here_are : (n : ℕ) → n ≡ at → s.lines ≡ lines_from n bytes
  here_are n is =
      let number : at ≡ suc (length s.read) = s.number in
      let e : n - 1 ≡ length s.read = omega (arith, is, number) in
      sym (ap (λ (m : ℕ). drop m (raw_lines bytes)) e ∙ ap (drop (length s.read)) s.all ∙ drop_first s.read s.lines)

  pub reads_so : (stop : InputStop) (unread : Option (List ℕ)) (new : DrivenWorld M) → EndsNext allowed at place.before s.world s.lines stop unread v new → ReadsInput bytes (Err stop) unread
  reads_so (InputStop.Line stop) unread new h = in_line stop h
    where
      in_line : (st : LineStop) → EndsFirst allowed at place.before s.world s.lines st unread v new → ReadsLine bytes st unread
      in_line (LineStop.BadInput n why) h = subst (λ (ls : List RawLine). ReadsTo (past_bad why ls) ls unread) (here_are n h.number) h.reads
      in_line (LineStop.Limit what n) h = subst (λ (ls : List RawLine). ReadsTo (past_limit what ls) ls unread) (here_are n h.number) h.reads
      in_line LineStop.NoMemory h = tt
  reads_so (InputStop.ReadFault n) unread new h = tt

  -- memory was wanting
  pub starves_so : (out : List ℕ) (unread : Option (List ℕ)) → out ≡ pending → WritesBut (λ text. TellsInput May k bytes (Err (InputStop.Line LineStop.NoMemory)) unread text × TellsSome May k bytes text) out start now
  starves_so out unread same = record {
    text = s.text;
    tells = (so_far_some, so_far_some);
    wrote = λ before is. subst (λ (o : List ℕ). WroteBut before s.text o now) (sym same) (s.wrote before is);
  }

  -- the closing lines come after the last line
  pub closes_so : (out last : List ℕ) (unread : Option (List ℕ)) (new : DrivenWorld M) → out ≡ pending → IsLast s.lines unread v new → ((w : World) → Stands w new → last ≡ out ++ out_texts (closing w))
      → WritesBut (λ text. TellsInput May k bytes (Ok tt) unread text × TellsSome May k bytes text) last start now
  closes_so out last unread new same h closes = record {
    text = s.text ++ out_texts (closing s.world);
    tells = (tells_all allowed ms bytes (members_of v) (s.text ++ out_texts (closing s.world)) Done whole, whole_some allowed ms bytes (members_of v) (s.text ++ out_texts (closing s.world)) Done whole);
    wrote = λ before is. subst (λ (o : List ℕ). WroteBut before (s.text ++ out_texts (closing s.world)) o now) (sym (closes s.world stands ∙ ap (λ (o : List ℕ). o ++ out_texts (closing s.world)) same)) (wrote_more before s.text pending (out_texts (closing s.world)) now (s.wrote before is));
  }
    where
      stands : Stands s.world new
      stands = subst (λ (x : DrivenWorld M). Stands s.world x) (sym h.same) s.stands

      whole : Whole allowed (map (λ m. Some m) ms) (members_of v) (λ answers. transcript_with k bytes answers) (s.text ++ out_texts (closing s.world)) Done
      whole = closed bytes (whole_read h.none)

  -- what a line shows was put at the end of what was pending, which was written in part
  pub fails_so : (shown : List ℕ) (new_place : Place) (unread : Option (List ℕ)) (new : DrivenWorld M) (then : Option (List ℕ)) → ShowsNext allowed at place.before s.world s.lines pending shown new_place unread v new
      → ((all : List ℕ) → now ≡ Some all → WritesPrefix all shown then) → Writes (TellsSome May k bytes) start then
  fails_so shown new_place unread new then n writes =
      writes_part May k bytes (s.text ++ n.text) start then
      (tells_some allowed ms bytes (members_of new) (λ later. transcript_from k (suc at) new_place.before later n.world n.rest) (s.text ++ n.text) (goes_further allowed ms at bytes v place left start now pending s shown new_place unread new n))
      (λ before is. wrote_prefix before (s.text ++ n.text) (pending ++ n.text) now then (wrote_more before s.text pending n.text now (s.wrote before is)) (λ all e. subst (λ (t : List ℕ). WritesPrefix all t then) n.shows (writes all e)))

-- the source's count was lower before
pub input_stop : (a b c : ℕ) (stop : InputStop) → a ≤ b → IsInputStop b c stop → IsInputStop a c stop
input_stop a b c (InputStop.Line stop) le h = h
input_stop a b c (InputStop.ReadFault n) le h = record { risen = let r = h.risen in grind (arith, r, le); told = h.told }

-- ---- in the end

-- what is so of the reading is so of the replay
pub replay_stop : (a b c d : ℕ) (input : Result (Unit {0}) InputStop) → IfErr input (IsInputStop a b) → IfErr (replay_of input) (IsReplayStop a b c d)
replay_stop a b c d (Ok u) h = tt
replay_stop a b c d (Err stop) h = h

pub replay_reads : (bytes : List ℕ) (unread : Option (List ℕ)) (input : Result (Unit {0}) InputStop) → ReadsInput bytes input unread → Reads bytes (replay_of input) unread
replay_reads bytes unread (Ok u) h = h
replay_reads bytes unread (Err stop) h = h

replay_tells : (may : ℕ → List Answer → Type 0) (members : ℕ) (bytes : List ℕ) (unread : Option (List ℕ)) (text : List ℕ) (input : Result (Unit {0}) InputStop) → TellsInput may members bytes input unread text → Tells may members bytes (replay_of input) unread text
replay_tells may members bytes unread text (Ok u) h = h
replay_tells may members bytes unread text (Err stop) h = h

module _ (may : ℕ → List Answer → Type 0) (members : ℕ) (bytes : List ℕ) (input : Result (Unit {0}) InputStop) (unread : Option (List ℕ)) (pending : List ℕ) (old now then : Option (List ℕ))
    (h : WritesBut (λ text. TellsInput may members bytes input unread text × TellsSome may members bytes text) pending old now) where
  -- the last bytes are written
  pub finishes : ((all : List ℕ) → now ≡ Some all → then ≡ Some (all ++ pending)) → Writes (Tells may members bytes (replay_of input) unread) old then
  finishes writes = record { text = h.text; tells = replay_tells may members bytes unread h.text input h.tells.0; written = λ before is. wrote_whole before h.text pending now then (h.wrote before is) writes }

  -- in part
  pub fails_at_last : ((all : List ℕ) → now ≡ Some all → WritesPrefix all pending then) → Writes (TellsSome may members bytes) old then
  fails_at_last writes = writes_part may members bytes h.text old then h.tells.1 (λ before is. wrote_prefix before h.text pending now then (h.wrote before is) writes)

-- ---- completeness

module _ (may : ℕ → List Answer → Type 0) (members : ℕ) (bytes : List ℕ) (unread old new : Option (List ℕ)) (complete : IsComplete may members bytes) where
  ends_done : (e : Ending) (text : List ℕ) → TellsAll may members bytes e text → Done ≡ e
  ends_done e text t = sym (complete t.answers t.allowed) ∙ t.ending

  pub completes : (status : Status) (a b c d e f : ℕ) → IsEnding a b c d e f status → Transcribes may members bytes status unread old new → (HasRisen a b → ⊥) → (HasRisen c d → ⊥) → (status ≡ Status.Ok) ⊎ (status ≡ Status.NoMemory)
  completes status a b c d e f h w read written = go w.answer w.ends w.writes
    where
      go : (answer : Result (Unit {0}) ReplayStop) → status ≡ replay_status answer → Writes (Tells may members bytes answer unread) old new → (status ≡ Status.Ok) ⊎ (status ≡ Status.NoMemory)
      go (Ok u) is x = inl is
      go (Err (ReplayStop.Input (InputStop.Line (LineStop.BadInput at why)))) is x = absurd (let no : Done ≡ Bad_input at why = ends_done (Bad_input at why) x.text x.tells in grind (arith, no))
      go (Err (ReplayStop.Input (InputStop.Line (LineStop.Limit what at)))) is x = absurd (let no : Done ≡ At_limit what at = ends_done (At_limit what at) x.text x.tells in grind (arith, no))
      go (Err (ReplayStop.Input (InputStop.Line LineStop.NoMemory))) is x = inr is
      go (Err (ReplayStop.Input (InputStop.ReadFault n))) is x = absurd (read (subst (IsEnding a b c d e f) is h).risen)
      go (Err (ReplayStop.WriteFault n)) is x = absurd (written (subst (IsEnding a b c d e f) is h).risen)
