-- The band on each lane: what the records of its node say, and where its site is down.
use Rattle.std.specs.Prelude.{ℕ, ◌==◌, true, false, if◌then◌else◌, Option, Some, List, [], ◌∷◌, map}
use Rattle.tp_names.specs.declared.outcome.Outcome.{Outcome}
use Rattle.tp_records.specs.declared.indication.Indication.{Indication}
use Rattle.tp_model.specs.declared.line.Line.{Line}
use Rattle.tp_model.specs.declared.out_line.LogWords.{LogWords}
use Rattle.tp_model.specs.declared.out_line.OutLine.{OutLine}
use Rattle.tp_draw.specs.declared.lane.Lane.{Lane}
use Rattle.tp_draw.specs.declared.band.Band.{Band}
use Rattle.tp_draw.specs.declared.news.News.{News}
use Rattle.tp_draw.specs.declared.news.Turn.{Turn}
use Rattle.tp_draw.specs.declared.track.Track.{Track}
use Rattle.tp_draw.specs.Events.{event_of}
use Rattle.tp_draw.specs.Lanes.{lanes_of, is_of_site}

-- ---- what a line tells

abbrev pub band_of : Outcome → Band
band_of Outcome.Commit = Band.Committed
band_of Outcome.Rollback = Band.RolledBack

-- A heuristic decision leaves the node in doubt. What a stop keeps has no line in a transcript, and so no band.
abbrev pub news_of_log : List ℕ → LogWords → News
news_of_log s (LogWords.Boot n) = News.Starts s
news_of_log s (LogWords.Ready n k) = News.Turns n (Turn.Holds Band.InDoubt)
news_of_log s (LogWords.Heuristic n k o) = News.Nothing
news_of_log s (LogWords.Commit n k) = News.Turns n (Turn.Holds Band.Committed)
news_of_log s (LogWords.Damage n k o r) = News.Turns n (Turn.Holds (band_of o))
news_of_log s (LogWords.End n k o) = News.Turns n (Turn.Holds Band.Quiet)

abbrev pub news_of_told : ℕ → Indication → News
news_of_told n Indication.Rollback = News.Turns n Turn.Rolls
news_of_told n (Indication.RollbackComplete r) = News.Turns n Turn.Completes
news_of_told n _ = News.Nothing

abbrev pub news_of_event : Option Line → News
news_of_event (Some (Line.Crash s)) = News.Stops s
news_of_event _ = News.Nothing

abbrev pub news_of : OutLine → News
news_of (OutLine.Log s r) = news_of_log s r
news_of (OutLine.Tell n i) = news_of_told n i
news_of (OutLine.Stopped s f) = News.Stops s
news_of o = news_of_event (event_of o)

-- ---- what becomes of a lane

-- a node that has no record rolls back from when its user is told so until that is complete
abbrev pub turned : Turn → Band → Band
turned (Turn.Holds b) old = b
turned Turn.Rolls Band.Quiet = Band.Rolling
turned Turn.Rolls b = b
turned Turn.Completes Band.Rolling = Band.Quiet
turned Turn.Completes b = b

-- what is not in the log is forgotten
abbrev pub restarted : Band → Band
restarted Band.Rolling = Band.Quiet
restarted b = b

abbrev pub moved : News → Track → Track
moved News.Nothing t = t
moved (News.Stops s) t = if is_of_site s t.lane then record { lane = t.lane; band = t.band; down = true } else t
moved (News.Starts s) t = if is_of_site s t.lane then record { lane = t.lane; band = restarted t.band; down = false } else t
moved (News.Turns n turn) t = if t.lane.node == n then record { lane = t.lane; band = turned turn t.band; down = t.down } else t

-- ---- all lanes

abbrev pub fresh : Lane → Track
fresh l = record { lane = l; band = Band.Quiet; down = false }

-- before the first line
abbrev pub first_tracks : List OutLine → List Track
first_tracks os = map fresh (lanes_of os)

-- after one more line
abbrev pub all_moved : OutLine → List Track → List Track
all_moved o ts = map (moved (news_of o)) ts

-- after these lines
abbrev pub tracks_after : List OutLine → List Track → List Track
tracks_after [] ts = ts
tracks_after (o ∷ os) ts = tracks_after os (all_moved o ts)
