-- How the last transaction that was complete ended: the code of its completion, by what was told of it.
use Rattle.std.specs.Prelude.{ℕ, ◌==◌, Bool, true, false, if◌then◌else◌, Option, Some, None, List, [], ◌∷◌, ◌++◌}
use Rattle.tp_names.specs.declared.identifiers.Aaid.{Aaid}
use Rattle.tp_names.specs.declared.outcome.Report.{Report}
use Rattle.tp_records.specs.declared.indication.Indication.{Indication}
use Rattle.tp_records.specs.declared.body.Output.{Output}
use Rattle.tp_model.specs.Parts.{Origin, Out, Tell, Send, Entry, Current}
use Rattle.tp_model.specs.Transactions.{aaid_of}
use Rattle.tp_model.specs.History.{digest}
use Rattle.tx_face.specs.declared.code.Code.{Code}

-- ---- what a completion says

abbrev pub committed : Report → Code
committed Report.None = Code.Committed
committed Report.Hazard = Code.CommittedHazard
committed Report.Mix = Code.CommittedMixed

abbrev pub rolled_back : Report → Code
rolled_back Report.None = Code.RolledBack
rolled_back Report.Hazard = Code.RolledBackHazard
rolled_back Report.Mix = Code.RolledBackMixed

-- the code once that is told, after the one from before
abbrev pub code_by : Indication → Option Code → Option Code
code_by (Indication.CommitComplete r) before = Some (committed r)
code_by (Indication.RollbackComplete r) before = Some (rolled_back r)
code_by _ before = before

-- ---- of a history

-- the code once all that is told, in order
abbrev pub code_told : List Out → Option Code → Option Code
code_told [] before = before
code_told (Tell i ∷ outs) before = code_told outs (code_by i before)
code_told (Send to r ∷ outs) before = code_told outs before

-- the code of the last completion that these entries told, newest entry first
abbrev pub code_of : List Entry → Option Code
code_of [] = None
code_of (e ∷ h) = code_told e.outs (code_of h)

-- ---- of the outputs of a site

-- the node with that number is told its own
abbrev pub code_given_one : ℕ → Output → Option Code → Option Code
code_given_one n (Output.Tell m i) before = if m == n then code_by i before else before
code_given_one n (Output.Send from to octets) before = before
code_given_one n (Output.Refused k) before = before
code_given_one n Output.Over before = before

abbrev pub code_given : ℕ → List Output → Option Code → Option Code
code_given n [] before = before
code_given n (o ∷ outputs) before = code_given n outputs (code_given_one n o before)

-- ---- the tree

abbrev pub has_code : Option Code → Bool
has_code None = false
has_code (Some c) = true

abbrev pub tree_now : Option Current → Option Aaid
tree_now None = None
tree_now (Some c) = Some (aaid_of c.key)

-- the tree that was current when the last completion was told, of these entries after the older ones
abbrev pub last_completed : Origin → List Entry → List Entry → Option Aaid
last_completed o older [] = None
last_completed o older (e ∷ h) =
    if has_code (code_told e.outs None) then tree_now (digest o (h ++ older)).current else last_completed o older h
