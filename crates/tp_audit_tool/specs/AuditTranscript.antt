-- What an audit writes for a stream of frames, and how it ends: the logs of several sites are read, each on a disk of its own, and then
-- the verdict and the fates are written, one on each line.
use Rattle.std.specs.Prelude.{ℕ, suc, ◌+◌, nat_le, nat_lt, true, false, Option, Some, None, Result, Ok, Err, List, [], ◌∷◌, ◌++◌, length, codes}
use Rattle.tp_framing.specs.Frames.{Stream, Rest, stream}
use Rattle.tp_model.specs.declared.verdict.What.{What}
use Rattle.tp_model.specs.declared.verdict.Why.{Why}
use Rattle.tp_model.specs.LogCommands.{Opened, Is_foreign, Has, opened}
use Rattle.tp_logrec.specs.LogText.{recs}
use Rattle.tp_model.specs.NodeTranscript.{rest_ending}
use Rattle.tp_model.specs.Transcript.{Ending, Done, Bad_input, At_limit}
use Rattle.tp_model.specs.Words.{decimal, words, aaid_word, key_words}
use Rattle.tp_streams.specs.declared.stop.Stop.{Stop}
use Rattle.tp_audit.specs.declared.fate.Fate.{Fate}
use Rattle.tp_audit.specs.declared.fate.FateState.{FateState}
use Rattle.tp_audit.specs.declared.verdict.Verdict.{Verdict}
use Rattle.tp_audit.specs.Audits.{is_added, with_log}
use Rattle.tp_audit.specs.Entries.{SiteLog}
use Rattle.tp_audit.specs.Fates.{fates}
use Rattle.tp_audit.specs.Verdicts.{verdict}
use Rattle.tp_audit_tool.specs.declared.hearing.OpenLog.{OpenLog}
use Rattle.tp_audit_tool.specs.Frames.{Asked, Opens, Goes_on, asked_in}

-- ---- the logs, frame by frame

-- the logs that were read whole, the one that is still open, and how many bytes came for all sites
pub record Progress : Type 0 where
  pub logs : List SiteLog
  pub pending : Option OpenLog
  pub size : ℕ

abbrev pub nothing_heard : Progress
nothing_heard = record { logs = []; pending = None; size = 0 }

-- a log that is at its end is read: it is foreign, or it stands behind those before it
abbrev pub read_behind : Progress → OpenLog → Opened → Result Progress Stop
read_behind p o (Is_foreign at) = Err (Stop.Foreign at)
read_behind p o (Has version ps) = Ok (record { logs = with_log p.logs o.site (recs ps); pending = None; size = p.size })

abbrev pub closed : Progress → Result Progress Stop
closed p = elim p.pending [ None ↦ Ok p | Some o ↦ read_behind p o (opened o.bytes) ]

-- the log of a site that did not come before, of 16 at most, opens
abbrev pub opens_behind : ℕ → List ℕ → Progress → Result Progress Stop
opens_behind at name p = elim (is_added p.logs name) [
  | true ↦ Err (Stop.BadInput at Why.Name)
  | false ↦ elim (nat_le 16 (length p.logs)) [
    | true ↦ Err (Stop.Limit What.Sites at)
    | false ↦ Ok (record { logs = p.logs; pending = Some (record { site = name; bytes = [] }); size = p.size })
  ]
]

-- the log before it is read first
abbrev pub opens_at : ℕ → Progress → List ℕ → Result Progress Stop
opens_at at p name = elim (closed p) [ Err stop ↦ Err stop | Ok q ↦ opens_behind at name q ]

-- 268,435,456 bytes at most, over all sites
abbrev pub goes_on_at : ℕ → Progress → List ℕ → Result Progress Stop
goes_on_at at p bytes = elim p.pending [
  | None ↦ Err (Stop.BadInput at Why.Body)
  | Some o ↦ elim (nat_lt 268435456 (p.size + length bytes)) [
    | true ↦ Err (Stop.Limit What.Log at)
    | false ↦ Ok (record { logs = p.logs; pending = Some (record { site = o.site; bytes = o.bytes ++ bytes }); size = p.size + length bytes })
  ]
]

abbrev pub asked_at : ℕ → Progress → Option Asked → Result Progress Stop
asked_at at p None = Err (Stop.BadInput at Why.Body)
asked_at at p (Some (Opens name)) = opens_at at p name
asked_at at p (Some (Goes_on bytes)) = goes_on_at at p bytes

-- the frame with that number
abbrev pub heard_at : ℕ → Progress → List ℕ → Result Progress Stop
heard_at at p body = asked_at at p (asked_in body)

-- the input ends within a frame, or the log that is open is at its end
abbrev pub ends_at : Progress → Ending → Result (List SiteLog) Stop
ends_at p Done = elim (closed p) [ Err stop ↦ Err stop | Ok q ↦ Ok q.logs ]
ends_at p (Bad_input at why) = Err (Stop.BadInput at why)
ends_at p (At_limit what at) = Err (Stop.Limit what at)

-- from the frame with that number on
abbrev pub heard_from : ℕ → Progress → List (List ℕ) → Rest → Result (List SiteLog) Stop
heard_from at p [] rest = ends_at p (rest_ending at rest)
heard_from at p (b ∷ bs) rest = elim (heard_at at p b) [ Err stop ↦ Err stop | Ok q ↦ heard_from (suc at) q bs rest ]

abbrev pub heard : List ℕ → Result (List SiteLog) Stop
heard bytes = let s : Stream = stream bytes in heard_from 1 nothing_heard s.bodies s.rest

-- ---- what is written

abbrev pub verdict_words : Verdict → List (List ℕ)
verdict_words Verdict.Yes = codes "yes" ∷ []
verdict_words (Verdict.Differ t a b) = codes "differ" ∷ aaid_word t ∷ a.site ∷ decimal a.node ∷ b.site ∷ decimal b.node ∷ []

abbrev pub state_word : FateState → List ℕ
state_word FateState.Commit = codes "commit"
state_word FateState.RetryLater = codes "retry-later"
state_word FateState.Unknown = codes "unknown"
state_word FateState.Absent = codes "absent"

abbrev pub fate_text : Fate → List ℕ
fate_text f = words (codes "fate" ∷ f.node.site ∷ decimal f.node.node ∷ []) ++ 32 ∷ words (key_words f.key) ++ 32 ∷ state_word f.state ++ 10 ∷ []

abbrev pub fate_texts : List Fate → List ℕ
fate_texts [] = []
fate_texts (f ∷ fs) = fate_text f ++ fate_texts fs

abbrev pub audit_text : List SiteLog → List ℕ
audit_text logs = words (verdict_words (verdict logs)) ++ 10 ∷ fate_texts (fates logs)

-- one finding where two nodes ended apart
abbrev pub findings_of : Verdict → ℕ
findings_of Verdict.Yes = 0
findings_of (Verdict.Differ t a b) = 1

-- ---- the whole

pub record AuditTranscript : Type 0 where
  pub written : List ℕ
  -- how many findings there are; or what stops the audit, before anything is written
  pub ending : Result ℕ Stop

abbrev pub audit_transcript : List ℕ → AuditTranscript
audit_transcript bytes = elim (heard bytes) [
  | Ok logs ↦ record { written = audit_text logs; ending = Ok (findings_of (verdict logs)) }
  | Err stop ↦ record { written = []; ending = Err stop }
]
