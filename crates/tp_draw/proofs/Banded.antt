-- The band of a lane is what the last record of its node says.
use Rattle.std.proofs.Common.{◌≡◌, ℕ, zero, suc, ◌==◌, Bool, true, false, if◌then◌else◌, Option, Some, None, unwrap_or, List, [], ◌∷◌, map, take, refl, ap, sym, ◌∙◌, arith}
use Rattle.tp_names.specs.declared.outcome.Outcome.{Outcome}
use Rattle.tp_records.specs.declared.indication.Indication.{Indication}
use Rattle.tp_model.specs.declared.line.Line.{Line}
use Rattle.tp_model.specs.declared.out_line.LogWords.{LogWords}
use Rattle.tp_model.specs.declared.out_line.OutLine.{OutLine}
use Rattle.tp_draw.specs.Events.{event_of}
use Rattle.tp_draw.specs.declared.band.Band.{Band}
use Rattle.tp_draw.specs.declared.lane.Lane.{Lane}
use Rattle.tp_draw.specs.declared.news.News.{News}
use Rattle.tp_draw.specs.declared.news.Turn.{Turn}
use Rattle.tp_draw.specs.declared.track.Track.{Track}
use Rattle.tp_draw.specs.Lanes.{lanes_of, is_of_site}
use Rattle.tp_draw.specs.Bands.{band_of, news_of, news_of_log, news_of_told, news_of_event, turned, restarted, moved, fresh, first_tracks, all_moved, tracks_after}
use Rattle.tp_draw.specs.Laws.{item, latest, held_in, held_by, down_after, down_by, IsTrack}

-- ---- one line

lane_same : (news : News) (t : Track) → (moved news t).lane ≡ t.lane
lane_same News.Nothing t = refl
lane_same (News.Stops s) t = go (is_of_site s t.lane)
  where
    go : (b : Bool) → (if b then record { lane = t.lane; band = t.band; down = true } else t).lane ≡ t.lane
    go true = refl
    go false = refl
lane_same (News.Starts s) t = go (is_of_site s t.lane)
  where
    go : (b : Bool) → (if b then record { lane = t.lane; band = restarted t.band; down = false } else t).lane ≡ t.lane
    go true = refl
    go false = refl
lane_same (News.Turns n turn) t = go (t.lane.node == n)
  where
    go : (b : Bool) → (if b then record { lane = t.lane; band = turned turn t.band; down = t.down } else t).lane ≡ t.lane
    go true = refl
    go false = refl

down_step : (news : News) (t : Track) → (moved news t).down ≡ unwrap_or (down_after t.lane news) t.down
down_step News.Nothing t = refl
down_step (News.Stops s) t = go (is_of_site s t.lane)
  where
    go : (b : Bool) → (if b then record { lane = t.lane; band = t.band; down = true } else t).down ≡ unwrap_or (if b then Some true else None) t.down
    go true = refl
    go false = refl
down_step (News.Starts s) t = go (is_of_site s t.lane)
  where
    go : (b : Bool) → (if b then record { lane = t.lane; band = restarted t.band; down = false } else t).down ≡ unwrap_or (if b then Some false else None) t.down
    go true = refl
    go false = refl
down_step (News.Turns n turn) t = go (t.lane.node == n)
  where
    go : (b : Bool) → (if b then record { lane = t.lane; band = turned turn t.band; down = t.down } else t).down ≡ t.down
    go true = refl
    go false = refl

restarted_twice : (b : Band) → restarted (restarted b) ≡ restarted b
restarted_twice Band.Quiet = refl
restarted_twice Band.InDoubt = refl
restarted_twice Band.Committed = refl
restarted_twice Band.RolledBack = refl
restarted_twice Band.Rolling = refl

rolls_same : (b : Band) → restarted (turned Turn.Rolls b) ≡ restarted b
rolls_same Band.Quiet = refl
rolls_same Band.InDoubt = refl
rolls_same Band.Committed = refl
rolls_same Band.RolledBack = refl
rolls_same Band.Rolling = refl

completes_same : (b : Band) → restarted (turned Turn.Completes b) ≡ restarted b
completes_same Band.Quiet = refl
completes_same Band.InDoubt = refl
completes_same Band.Committed = refl
completes_same Band.RolledBack = refl
completes_same Band.Rolling = refl

recorded : (o : Outcome) → restarted (band_of o) ≡ band_of o
recorded Outcome.Commit = refl
recorded Outcome.Rollback = refl

-- a start of a site changes no record
starts_same : (s : List ℕ) (t : Track) → restarted (moved (News.Starts s) t).band ≡ restarted t.band
starts_same s t = go (is_of_site s t.lane)
  where
    go : (b : Bool) → restarted (if b then record { lane = t.lane; band = restarted t.band; down = false } else t).band ≡ restarted t.band
    go true = restarted_twice t.band
    go false = refl

stops_same : (s : List ℕ) (t : Track) → restarted (moved (News.Stops s) t).band ≡ restarted t.band
stops_same s t = go (is_of_site s t.lane)
  where
    go : (b : Bool) → restarted (if b then record { lane = t.lane; band = t.band; down = true } else t).band ≡ restarted t.band
    go true = refl
    go false = refl

turns_to : (n : ℕ) (turn : Turn) (t : Track) → restarted (turned turn t.band) ≡ restarted t.band → restarted (moved (News.Turns n turn) t).band ≡ restarted t.band
turns_to n turn t same = go (t.lane.node == n)
  where
    go : (b : Bool) → restarted (if b then record { lane = t.lane; band = turned turn t.band; down = t.down } else t).band ≡ restarted t.band
    go true = same
    go false = refl

holds : (n : ℕ) (held : Band) (t : Track) → restarted held ≡ held
    → restarted (moved (News.Turns n (Turn.Holds held)) t).band ≡ unwrap_or (if t.lane.node == n then Some held else None) (restarted t.band)
holds n held t same = go (t.lane.node == n)
  where
    go : (b : Bool) → restarted (if b then record { lane = t.lane; band = held; down = t.down } else t).band ≡ unwrap_or (if b then Some held else None) (restarted t.band)
    go true = same
    go false = refl

log_step : (s : List ℕ) (r : LogWords) (t : Track) → restarted (moved (news_of_log s r) t).band ≡ unwrap_or (held_in t.lane.node r) (restarted t.band)
log_step s (LogWords.Boot n) t = starts_same s t
log_step s (LogWords.Ready n k) t = holds n Band.InDoubt t refl
log_step s (LogWords.Heuristic n k o) t = refl
log_step s (LogWords.Commit n k) t = holds n Band.Committed t refl
log_step s (LogWords.Damage n k o r) t = holds n (band_of o) t (recorded o)
log_step s (LogWords.End n k o) t = holds n Band.Quiet t refl

told_step : (n : ℕ) (i : Indication) (t : Track) → restarted (moved (news_of_told n i) t).band ≡ restarted t.band
told_step n Indication.Rollback t = turns_to n Turn.Rolls t (rolls_same t.band)
told_step n (Indication.RollbackComplete r) t = turns_to n Turn.Completes t (completes_same t.band)
told_step n _ t = refl

event_step : (e : Option Line) (t : Track) → restarted (moved (news_of_event e) t).band ≡ restarted t.band
event_step (Some (Line.Crash s)) t = stops_same s t
event_step _ t = refl

band_step : (o : OutLine) (t : Track) → restarted (moved (news_of o) t).band ≡ unwrap_or (held_by t.lane.node o) (restarted t.band)
band_step (OutLine.Echo text) t = event_step (event_of (OutLine.Echo text)) t
band_step (OutLine.Log s r) t = log_step s r t
band_step (OutLine.Tell n i) t = told_step n i t
band_step (OutLine.Stopped s f) t = stops_same s t
band_step _ t = refl

-- ---- all lines

-- what became of a track over these lines
record Came (lines : List OutLine) (old : Option Track) (t : Track) : Type 0 where
  was : Track
  here : old ≡ Some was
  lane : t.lane ≡ was.lane
  band : restarted t.band ≡ latest (held_by t.lane.node) (restarted was.band) lines
  down : t.down ≡ latest (down_by t.lane) was.down lines

-- the item of a list that became the item of its map
record IsFrom (news : News) (old : Option Track) (t : Track) : Type 0 where
  was : Track
  here : old ≡ Some was
  same : t ≡ moved news was

from_map : (news : News) (ts : List Track) (place : ℕ) (t : Track) → item (map (moved news) ts) place ≡ Some t → IsFrom news (item ts place) t
from_map news [] place t is = absurd (grind arith)
from_map news (x ∷ ts) zero t is = record { was = x; here = refl; same = sym (ap (λ (y : Option Track). unwrap_or y (moved news x)) is) }
from_map news (x ∷ ts) (suc place) t is = let f = from_map news ts place t is in record { was = f.was; here = f.here; same = f.same }

came_from : (o : OutLine) (os : List OutLine) (old : Option Track) (mid : Track) (t : Track) → IsFrom (news_of o) old mid → t.lane ≡ mid.lane
    → restarted t.band ≡ latest (held_by t.lane.node) (restarted mid.band) os → t.down ≡ latest (down_by t.lane) mid.down os
    → Came (o ∷ os) old t
came_from o os old mid t from lane band down =
    let moves : mid.lane ≡ from.was.lane = ap (λ (x : Track). x.lane) from.same ∙ lane_same (news_of o) from.was in
    let own : t.lane ≡ from.was.lane = lane ∙ moves in record {
      was = from.was;
      here = from.here;
      lane = own;
      band = band ∙ ap (λ (b : Band). latest (held_by t.lane.node) b os)
          (ap (λ (x : Track). restarted x.band) from.same
          ∙ band_step o from.was
          ∙ ap (λ (l : Lane). unwrap_or (held_by l.node o) (restarted from.was.band)) (sym own));
      down = down ∙ ap (λ (b : Bool). latest (down_by t.lane) b os)
          (ap (λ (x : Track). x.down) from.same
          ∙ down_step (news_of o) from.was
          ∙ ap (λ (l : Lane). unwrap_or (down_by l o) from.was.down) (sym own));
    }

came : (os : List OutLine) (ts : List Track) (place : ℕ) (t : Track) → item (tracks_after os ts) place ≡ Some t → Came os (item ts place) t
came [] ts place t is = record { was = t; here = is; lane = refl; band = refl; down = refl }
came (o ∷ os) ts place t is =
    let c = came os (all_moved o ts) place t is in
    came_from o os (item ts place) c.was t (from_map (news_of o) ts place c.was c.here) c.lane c.band c.down

-- the item of a list of fresh tracks
record IsFresh (old : Option Lane) (t : Track) : Type 0 where
  was : Lane
  here : old ≡ Some was
  same : t ≡ fresh was

from_fresh : (ls : List Lane) (place : ℕ) (t : Track) → item (map fresh ls) place ≡ Some t → IsFresh (item ls place) t
from_fresh [] place t is = absurd (grind arith)
from_fresh (x ∷ ls) zero t is = record { was = x; here = refl; same = sym (ap (λ (y : Option Track). unwrap_or y (fresh x)) is) }
from_fresh (x ∷ ls) (suc place) t is = let f = from_fresh ls place t is in record { was = f.was; here = f.here; same = f.same }

pub bands_law : (os : List OutLine) (count place : ℕ) (t : Track) → item (tracks_after (take count os) (first_tracks os)) place ≡ Some t
    → IsTrack (take count os) (item (lanes_of os) place) t
bands_law os count place t is =
    let c = came (take count os) (first_tracks os) place t is in
    let f = from_fresh (lanes_of os) place c.was c.here in record {
      lane = f.here ∙ ap (λ (l : Lane). Some l) (sym (c.lane ∙ ap (λ (x : Track). x.lane) f.same));
      band = c.band ∙ ap (λ (x : Track). latest (held_by t.lane.node) (restarted x.band) (take count os)) f.same;
      down = c.down ∙ ap (λ (x : Track). latest (down_by t.lane) x.down (take count os)) f.same;
    }
