-- How one log record is read from the front of bytes, in each version of the log.
use Rattle.std.specs.Prelude.{ℕ, nat_le, Option, Some, None, List, [], ◌∷◌}
use Rattle.tp_names.specs.declared.identifiers.Aaid.{Aaid}
use Rattle.tp_names.specs.declared.identifiers.Addr.{Addr}
use Rattle.tp_names.specs.declared.identifiers.BranchId.{BranchId}
use Rattle.tp_names.specs.declared.identifiers.NodeKey.{NodeKey}
use Rattle.tp_names.specs.declared.children.Child.{Child}
use Rattle.tp_names.specs.declared.outcome.Outcome.{Outcome}
use Rattle.tp_names.specs.declared.outcome.Report.{Report}
use Rattle.tp_names.specs.Reading.{Reader, make, ◌and◌, that, chosen_by, key_of, read_byte, read_short, read_long, read_many, read_by_code, read_aaid, read_branch, read_key, read_addr, read_outcome, read_child}
use Rattle.tp_logrec.specs.declared.record.LogRec.{LogRec}
use Rattle.tp_logrec.specs.declared.record.LogVersion.{LogVersion}
use Rattle.tp_names.specs.Grammar.{Grammar}
use Rattle.tp_logrec.specs.RecordText.{record_bytes}

abbrev pub read_children : LogVersion → Reader (List Child)
read_children LogVersion.One = chosen_by (that (λ n. nat_le n 32) read_byte) (read_many read_child)
read_children LogVersion.Two = chosen_by (that (λ n. nat_le n 256) read_short) (read_many read_child)

-- ---- keys

-- 01 and a branch
abbrev pub read_some_branch : Reader (Option BranchId)
read_some_branch = read_by_code ((1, make (λ b. Some b) and read_branch) ∷ [])

abbrev pub read_branch_key : Reader NodeKey
read_branch_key = make key_of and read_aaid and read_some_branch

-- 00, or 01, a branch, and the superior's address
abbrev pub read_branch_and_superior : Reader (Option BranchId × Option Addr)
read_branch_and_superior = read_by_code ((0, make (None, None)) ∷ (1, make (λ b a. (Some b, Some a)) and read_branch and read_addr) ∷ [])

abbrev pub key_and_superior_of : Aaid → Option BranchId × Option Addr → NodeKey × Option Addr
key_and_superior_of a p = (key_of a p.0, p.1)

-- a key, and the superior's address where it has a branch
abbrev pub read_key_and_superior : Reader (NodeKey × Option Addr)
read_key_and_superior = make key_and_superior_of and read_aaid and read_branch_and_superior

-- a report of damage
abbrev pub read_harm : Reader Report
read_harm = read_by_code ((1, make Report.Hazard) ∷ (2, make Report.Mix) ∷ [])

abbrev pub judgement_of : Outcome → Report → Outcome × Report
judgement_of o r = (o, r)

abbrev pub read_judgement : Reader (Outcome × Report)
read_judgement = make judgement_of and read_outcome and read_harm

-- ---- records

abbrev pub boot_of : ℕ → LogRec
boot_of n = LogRec.Boot n

abbrev pub ready_of : ℕ → NodeKey → Addr → List Child → LogRec
ready_of n k a cs = LogRec.Ready n k a cs

abbrev pub heuristic_of : ℕ → NodeKey → Outcome → LogRec
heuristic_of n k o = LogRec.Heuristic n k o

abbrev pub commit_of : ℕ → NodeKey × Option Addr → List Child → LogRec
commit_of n k cs = LogRec.Commit n k.0 k.1 cs

abbrev pub damage_of : ℕ → NodeKey × Option Addr → Outcome × Report → List Child → LogRec
damage_of n k j cs = LogRec.Damage n k.0 k.1 j.0 j.1 cs

abbrev pub end_of : ℕ → NodeKey → Outcome → LogRec
end_of n k o = LogRec.End n k o

abbrev pub record_kinds : LogVersion → List (ℕ × Reader LogRec)
record_kinds ver =
    (1, make boot_of and read_long)
    ∷ (2, make ready_of and read_short and read_branch_key and read_addr and read_children ver)
    ∷ (3, make heuristic_of and read_short and read_branch_key and read_outcome)
    ∷ (4, make commit_of and read_short and read_key_and_superior and read_children ver)
    ∷ (5, make damage_of and read_short and read_key_and_superior and read_judgement and read_children ver)
    ∷ (6, make end_of and read_short and read_key and read_outcome)
    ∷ []

abbrev pub read_record : LogVersion → Reader LogRec
read_record ver = read_by_code (record_kinds ver)

abbrev pub whole : {A : Type 0} → Option (A × List ℕ) → Option A
whole None = None
whole (Some p) = elim p.1 [ [] ↦ Some p.0 | b ∷ bytes ↦ None ]

-- the record of which these bytes are the whole text
abbrev pub record_in : LogVersion → List ℕ → Option LogRec
record_in ver body = whole (read_record ver body)

-- the texts of records in one version
abbrev pub record_grammar : LogVersion → Grammar LogRec
record_grammar ver = record { bytes = record_bytes ver; reader = read_record ver }
