-- Which lines of a transcript have a text: those whose fields are in the ranges of their types, and whose nodes and frames
-- count from 1. In the records of a log any number of a node may stand.
use Rattle.std.specs.Prelude.{ℕ, ◌&&◌, Bool, true, false, Option, Some, None, List, [], ◌∷◌, nat_le}
use Rattle.tp_names.specs.declared.identifiers.Mark.{Mark}
use Rattle.tp_names.specs.declared.identifiers.Aaid.{Aaid}
use Rattle.tp_names.specs.declared.identifiers.BranchId.{BranchId}
use Rattle.tp_names.specs.declared.identifiers.NodeKey.{NodeKey}
use Rattle.tp_names.specs.Bytes.{all_bytes, is_site_name}
use Rattle.tp_units.specs.Units.{is_permitted}
use Rattle.tp_records.specs.declared.dialogue.DialogueRecord.{DialogueRecord}
use Rattle.tp_records.specs.declared.indication.Indication.{Indication}
use Rattle.tp_model.specs.declared.out_line.LogWords.{LogWords}
use Rattle.tp_model.specs.declared.out_line.SentWords.{SentWords}
use Rattle.tp_model.specs.declared.out_line.OutLine.{OutLine}
use Rattle.tp_schedule.specs.HasText.{is_number, is_byte}

-- ---- the ranges of types

abbrev pub is_short : ℕ → Bool
is_short n = nat_le n 65535

abbrev pub is_long : ℕ → Bool
is_long n = nat_le n 18446744073709551615

abbrev pub are_bytes : List ℕ → Bool
are_bytes xs = all_bytes is_byte xs

abbrev pub mark_has_text : Mark → Bool
mark_has_text m = is_long m.boot && is_short m.node && is_long m.count

abbrev pub aaid_has_text : Aaid → Bool
aaid_has_text a = is_site_name a.owner && mark_has_text a.mark

abbrev pub branch_has_text : BranchId → Bool
branch_has_text b = is_site_name b.superior && mark_has_text b.mark

abbrev pub if_there : {A : Type 0} → (A → Bool) → Option A → Bool
if_there f None = true
if_there f (Some a) = f a

abbrev pub key_has_text : NodeKey → Bool
key_has_text k = aaid_has_text k.aaid && if_there branch_has_text k.branch

-- some numbers of nodes, one at least
abbrev pub are_numbers : List ℕ → Bool
are_numbers [] = true
are_numbers (n ∷ ns) = is_number n && are_numbers ns

abbrev pub some_numbers : List ℕ → Bool
some_numbers [] = false
some_numbers (n ∷ ns) = is_number n && are_numbers ns

-- ---- records and indications

abbrev pub log_has_text : LogWords → Bool
log_has_text (LogWords.Boot n) = is_long n
log_has_text (LogWords.Ready n k) = is_short n && key_has_text k
log_has_text (LogWords.Heuristic n k o) = is_short n && key_has_text k
log_has_text (LogWords.Commit n k) = is_short n && key_has_text k
log_has_text (LogWords.Damage n k o r) = is_short n && key_has_text k
log_has_text (LogWords.End n k o) = is_short n && key_has_text k

abbrev pub dialogue_has_text : DialogueRecord → Bool
dialogue_has_text DialogueRecord.EndDialogue = true
dialogue_has_text (DialogueRecord.UserData xs) = are_bytes xs
dialogue_has_text DialogueRecord.UError = true
dialogue_has_text DialogueRecord.UAbort = true
dialogue_has_text DialogueRecord.Grant = true
dialogue_has_text DialogueRecord.AskControl = true
dialogue_has_text DialogueRecord.Handshake = true
dialogue_has_text DialogueRecord.HandshakeGrant = true
dialogue_has_text DialogueRecord.Response = true
dialogue_has_text DialogueRecord.DeferEnd = true
dialogue_has_text DialogueRecord.DeferGrant = true
dialogue_has_text (DialogueRecord.Begin a b h) = aaid_has_text a && branch_has_text b
dialogue_has_text DialogueRecord.Prepare = true
dialogue_has_text DialogueRecord.Ready = true
dialogue_has_text DialogueRecord.Commit = true
dialogue_has_text (DialogueRecord.Done r) = true
dialogue_has_text DialogueRecord.Rollback = true
dialogue_has_text (DialogueRecord.RolledBack r) = true
dialogue_has_text DialogueRecord.Left = true
dialogue_has_text DialogueRecord.LeftEnd = true

abbrev pub sent_has_text : SentWords → Bool
sent_has_text (SentWords.OpenAssoc x u) = mark_has_text x && is_permitted u
sent_has_text (SentWords.AcceptAssoc x y u) = mark_has_text x && mark_has_text y && is_permitted u
sent_has_text (SentWords.ShutAssoc x y) = mark_has_text x && if_there mark_has_text y
sent_has_text (SentWords.OnAssoc s r) = is_long s && dialogue_has_text r
sent_has_text (SentWords.RecReady a b) = aaid_has_text a && branch_has_text b
sent_has_text (SentWords.RecCommit a b) = aaid_has_text a && branch_has_text b
sent_has_text (SentWords.RecReply a b s) = aaid_has_text a && branch_has_text b
sent_has_text (SentWords.Forget a b) = aaid_has_text a && branch_has_text b

abbrev pub told_has_text : Indication → Bool
told_has_text (Indication.BeginDialogue p u) = is_number p && is_permitted u
told_has_text (Indication.BegunDialogue p u) = is_number p && is_permitted u
told_has_text (Indication.Rejected p) = is_number p
told_has_text (Indication.EndDialogue p) = is_number p
told_has_text (Indication.UserData p xs) = is_number p && are_bytes xs
told_has_text (Indication.UError p) = is_number p
told_has_text (Indication.UAbort p) = is_number p
told_has_text (Indication.PAbort p) = is_number p
told_has_text (Indication.Grant p) = is_number p
told_has_text (Indication.AskControl p) = is_number p
told_has_text (Indication.Handshake p) = is_number p
told_has_text (Indication.HandshakeConfirm p) = is_number p
told_has_text (Indication.HandshakeGrant p) = is_number p
told_has_text (Indication.BeginTransaction p a) = is_number p && aaid_has_text a
told_has_text (Indication.DeferEnd p) = is_number p
told_has_text (Indication.DeferGrant p) = is_number p
told_has_text Indication.Prepare = true
told_has_text (Indication.Ready p) = is_number p
told_has_text Indication.Commit = true
told_has_text (Indication.CommitComplete r) = true
told_has_text Indication.Rollback = true
told_has_text (Indication.RollbackComplete r) = true
told_has_text (Indication.HeuristicReport p r) = is_number p
told_has_text (Indication.Left p) = is_number p

-- ---- lines

abbrev pub out_has_text : OutLine → Bool
out_has_text (OutLine.Echo text) = true
out_has_text (OutLine.Log s r) = is_site_name s && log_has_text r
out_has_text (OutLine.Take k) = is_number k
out_has_text (OutLine.Send k a b r) = is_number k && is_number a && is_number b && sent_has_text r
out_has_text (OutLine.Tell n i) = is_number n && told_has_text i
out_has_text (OutLine.Refused n) = is_byte n
out_has_text (OutLine.Dropped n) = is_byte n
out_has_text OutLine.Nothing = true
out_has_text (OutLine.Lost k) = is_number k
out_has_text (OutLine.Stopped s f) = is_site_name s
out_has_text (OutLine.State n p k) = is_number n && is_long k
out_has_text (OutLine.Image s xs) = is_site_name s && are_bytes xs
out_has_text (OutLine.Agreed a o) = aaid_has_text a
out_has_text (OutLine.Mixed a ns) = aaid_has_text a && some_numbers ns
out_has_text (OutLine.Open a) = aaid_has_text a
