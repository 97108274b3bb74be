-- The color of each line: that of the outcome that it tells of.
use Rattle.std.specs.Prelude.{ℕ, List, codes}
use Rattle.tp_names.specs.declared.outcome.Outcome.{Outcome}
use Rattle.tp_names.specs.declared.outcome.Report.{Report}
use Rattle.tp_records.specs.declared.dialogue.DialogueRecord.{DialogueRecord}
use Rattle.tp_records.specs.declared.indication.Indication.{Indication}
use Rattle.tp_records.specs.declared.peer.RecState.{RecState}
use Rattle.tp_model.specs.declared.out_line.LogWords.{LogWords}
use Rattle.tp_model.specs.declared.out_line.SentWords.{SentWords}
use Rattle.tp_model.specs.declared.out_line.OutLine.{OutLine}
use Rattle.tp_draw.specs.declared.tone.Tone.{Tone}

abbrev pub tone_of_outcome : Outcome → Tone
tone_of_outcome Outcome.Commit = Tone.Commit
tone_of_outcome Outcome.Rollback = Tone.Rollback

-- of an end with that report, which is clear or tells of damage
abbrev pub tone_of_report : Report → Tone → Tone
tone_of_report Report.None clear = clear
tone_of_report Report.Hazard clear = Tone.Damage
tone_of_report Report.Mix clear = Tone.Damage

abbrev pub tone_of_log : LogWords → Tone
tone_of_log (LogWords.Boot n) = Tone.Plain
tone_of_log (LogWords.Ready n k) = Tone.Plain
tone_of_log (LogWords.Heuristic n k o) = tone_of_outcome o
tone_of_log (LogWords.Commit n k) = Tone.Commit
tone_of_log (LogWords.Damage n k o r) = Tone.Damage
tone_of_log (LogWords.End n k o) = tone_of_outcome o

abbrev pub tone_of_dialogue : DialogueRecord → Tone
tone_of_dialogue DialogueRecord.Commit = Tone.Commit
tone_of_dialogue (DialogueRecord.Done r) = tone_of_report r Tone.Commit
tone_of_dialogue DialogueRecord.Rollback = Tone.Rollback
tone_of_dialogue (DialogueRecord.RolledBack r) = tone_of_report r Tone.Rollback
tone_of_dialogue _ = Tone.Plain

abbrev pub tone_of_state : RecState → Tone
tone_of_state RecState.Commit = Tone.Commit
tone_of_state (RecState.Done r) = tone_of_report r Tone.Commit
tone_of_state RecState.Unknown = Tone.Rollback
tone_of_state RecState.RetryLater = Tone.Plain

abbrev pub tone_of_sent : SentWords → Tone
tone_of_sent (SentWords.OnAssoc s r) = tone_of_dialogue r
tone_of_sent (SentWords.RecCommit a b) = Tone.Commit
tone_of_sent (SentWords.RecReply a b s) = tone_of_state s
tone_of_sent _ = Tone.Plain

abbrev pub tone_of_told : Indication → Tone
tone_of_told Indication.Commit = Tone.Commit
tone_of_told (Indication.CommitComplete r) = tone_of_report r Tone.Commit
tone_of_told Indication.Rollback = Tone.Rollback
tone_of_told (Indication.RollbackComplete r) = tone_of_report r Tone.Rollback
tone_of_told (Indication.HeuristicReport p r) = Tone.Damage
tone_of_told _ = Tone.Plain

abbrev pub tone_of : OutLine → Tone
tone_of (OutLine.Echo text) = Tone.Plain
tone_of (OutLine.Log s r) = tone_of_log r
tone_of (OutLine.Take k) = Tone.Faint
tone_of (OutLine.Send k a b r) = tone_of_sent r
tone_of (OutLine.Tell n i) = tone_of_told i
tone_of (OutLine.Refused n) = Tone.Plain
tone_of (OutLine.Dropped n) = Tone.Plain
tone_of OutLine.Nothing = Tone.Faint
tone_of (OutLine.Lost k) = Tone.Plain
tone_of (OutLine.Stopped s f) = Tone.Plain
tone_of (OutLine.State n p k) = Tone.Plain
tone_of (OutLine.Image s bs) = Tone.Faint
tone_of (OutLine.Agreed a o) = tone_of_outcome o
tone_of (OutLine.Mixed a ns) = Tone.Damage
tone_of (OutLine.Open a) = Tone.Plain

-- its name in a file: the class of what has that color, and the tip of its arrows
abbrev pub tone_name : Tone → List ℕ
tone_name Tone.Plain = codes "p"
tone_name Tone.Faint = codes "f"
tone_name Tone.Commit = codes "c"
tone_name Tone.Rollback = codes "r"
tone_name Tone.Damage = codes "d"
