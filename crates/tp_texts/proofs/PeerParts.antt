-- The parts of a peer record: which are read back from their bytes.
use Rattle.std.proofs.Common.{ℕ, ◌<◌, ◌≤◌, ◌^◌, Some, None, List, ◌++◌, length, IsTrue, refl, arith}
use Rattle.std.specs.Prelude.{nat_le}
use Rattle.tp_names.specs.declared.identifiers.Mark.{Mark}
use Rattle.tp_names.specs.declared.identifiers.Aaid.{Aaid}
use Rattle.tp_names.specs.declared.identifiers.BranchId.{BranchId}
use Rattle.tp_names.specs.declared.outcome.Report.{Report}
use Rattle.tp_names.specs.Bytes.{byte_bytes, short_bytes, mark_bytes, aaid_bytes, branch_bytes, maybe_bytes, report_bytes, octets_bytes}
use Rattle.tp_names.specs.Reading.{read_byte, read_short, read_bytes, read_mark, read_aaid, read_branch, read_maybe, read_report, read_octets}
use Rattle.tp_names.proofs.Choices.{bytes_taken}
use Rattle.tp_names.proofs.Passing.{that_read}
use Rattle.tp_units.specs.Units.{is_permitted}
use Rattle.tp_records.specs.declared.dialogue.DialogueRecord.{DialogueRecord}
use Rattle.tp_records.specs.declared.dialogue.Holder.{Holder}
use Rattle.tp_records.specs.declared.peer.RecState.{RecState}
use Rattle.tp_records.specs.Bodies.{holder_bytes, dialogue_bytes, state_bytes}
use Rattle.tp_records.specs.BodyReading.{read_units, read_holder, read_dialogue, read_state}
use Rattle.tp_texts.specs.Texts.{Takes}
use Rattle.tp_texts.proofs.TakenValues.{made, both, counted, byte_taken, short_taken}
use Rattle.tp_texts.proofs.RecordParts.{le_true}

pub units_taken : (u : ℕ) → u < 2 ^ 8 → IsTrue (is_permitted u) → Takes read_units (byte_bytes u) u
units_taken u h permitted = record { reads = λ rest. that_read is_permitted read_byte (byte_bytes u ++ rest) u rest ((byte_taken u h).reads rest) permitted }

pub no_mark_taken : Takes (read_maybe read_mark) (maybe_bytes mark_bytes None) None
no_mark_taken = record { reads = λ rest. refl }

pub some_mark_taken : (m : Mark) → Takes read_mark (mark_bytes m) m → Takes (read_maybe read_mark) (maybe_bytes mark_bytes (Some m)) (Some m)
some_mark_taken m x = record { reads = λ rest. (both (made (λ (a : Mark). Some a)) x).reads rest }

report_taken : (r : Report) → Takes read_report (report_bytes r) r
report_taken Report.None = record { reads = λ rest. refl }
report_taken Report.Hazard = record { reads = λ rest. refl }
report_taken Report.Mix = record { reads = λ rest. refl }

pub state_taken : (s : RecState) → Takes read_state (state_bytes s) s
state_taken RecState.Commit = record { reads = λ rest. refl }
state_taken (RecState.Done r) = record { reads = λ rest. (both (made (λ r. RecState.Done r)) (report_taken r)).reads rest }
state_taken RecState.Unknown = record { reads = λ rest. refl }
state_taken RecState.RetryLater = record { reads = λ rest. refl }

holder_taken : (h : Holder) → Takes read_holder (holder_bytes h) h
holder_taken Holder.None = record { reads = λ rest. refl }
holder_taken Holder.Superior = record { reads = λ rest. refl }
holder_taken Holder.Subordinate = record { reads = λ rest. refl }

octets_taken : (most : ℕ) (xs : List ℕ) → length xs ≤ most → most < 2 ^ 16 → Takes (read_octets most) (octets_bytes xs) xs
octets_taken most xs few small =
    counted (λ n. nat_le n most) read_short read_bytes (short_bytes (length xs)) xs (length xs) xs (le_true _ _ few) (short_taken (length xs) (omega (arith, few, small))) (record { reads = bytes_taken xs })

begin_taken : (a : Aaid) (b : BranchId) (h : Holder) → Takes read_aaid (aaid_bytes a) a → Takes read_branch (branch_bytes b) b → Takes read_dialogue (dialogue_bytes (DialogueRecord.Begin a b h)) (DialogueRecord.Begin a b h)
begin_taken a b h x y = record { reads = λ rest. (both (both (both (made (λ a b h. DialogueRecord.Begin a b h)) x) y) (holder_taken h)).reads rest }

-- what is asked of a record of a dialogue
abbrev pub PartsTaken : DialogueRecord → Type 0
PartsTaken (DialogueRecord.UserData xs) = length xs ≤ 1024
PartsTaken (DialogueRecord.Begin a b h) = Takes read_aaid (aaid_bytes a) a × Takes read_branch (branch_bytes b) b
PartsTaken _ = Unit {0}

pub dialogue_taken : (v : DialogueRecord) → PartsTaken v → Takes read_dialogue (dialogue_bytes v) v
dialogue_taken DialogueRecord.EndDialogue x = record { reads = λ rest. refl }
dialogue_taken (DialogueRecord.UserData xs) x = record { reads = λ rest. (both (made (λ xs. DialogueRecord.UserData xs)) (octets_taken 1024 xs x (omega arith))).reads rest }
dialogue_taken DialogueRecord.UError x = record { reads = λ rest. refl }
dialogue_taken DialogueRecord.UAbort x = record { reads = λ rest. refl }
dialogue_taken DialogueRecord.Grant x = record { reads = λ rest. refl }
dialogue_taken DialogueRecord.AskControl x = record { reads = λ rest. refl }
dialogue_taken DialogueRecord.Handshake x = record { reads = λ rest. refl }
dialogue_taken DialogueRecord.HandshakeGrant x = record { reads = λ rest. refl }
dialogue_taken DialogueRecord.Response x = record { reads = λ rest. refl }
dialogue_taken DialogueRecord.DeferEnd x = record { reads = λ rest. refl }
dialogue_taken DialogueRecord.DeferGrant x = record { reads = λ rest. refl }
dialogue_taken (DialogueRecord.Begin a b h) x = begin_taken a b h x.0 x.1
dialogue_taken DialogueRecord.Prepare x = record { reads = λ rest. refl }
dialogue_taken DialogueRecord.Ready x = record { reads = λ rest. refl }
dialogue_taken DialogueRecord.Commit x = record { reads = λ rest. refl }
dialogue_taken (DialogueRecord.Done r) x = record { reads = λ rest. (both (made (λ r. DialogueRecord.Done r)) (report_taken r)).reads rest }
dialogue_taken DialogueRecord.Rollback x = record { reads = λ rest. refl }
dialogue_taken (DialogueRecord.RolledBack r) x = record { reads = λ rest. (both (made (λ r. DialogueRecord.RolledBack r)) (report_taken r)).reads rest }
dialogue_taken DialogueRecord.Left x = record { reads = λ rest. refl }
dialogue_taken DialogueRecord.LeftEnd x = record { reads = λ rest. refl }
