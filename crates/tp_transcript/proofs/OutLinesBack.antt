-- Each record, each indication and each line of a transcript that has a text reads back from its words.
use Rattle.std.proofs.Common.{◌≡◌, ℕ, true, List, [], ◌∷◌, refl, ap, ◌∙◌, codes}
use Rattle.std.specs.Prelude.{◌&&◌}
use Rattle.tp_names.specs.declared.identifiers.Aaid.{Aaid}
use Rattle.tp_names.specs.declared.identifiers.BranchId.{BranchId}
use Rattle.tp_names.specs.declared.identifiers.NodeKey.{NodeKey}
use Rattle.tp_names.specs.declared.outcome.Outcome.{Outcome}
use Rattle.tp_names.specs.declared.outcome.Report.{Report}
use Rattle.tp_names.specs.Bytes.{is_site_name}
use Rattle.tp_units.specs.Units.{is_permitted}
use Rattle.tp_records.specs.declared.dialogue.DialogueRecord.{DialogueRecord}
use Rattle.tp_records.specs.declared.indication.Indication.{Indication}
use Rattle.tp_records.specs.declared.peer.RecState.{RecState}
use Rattle.tp_model.specs.declared.out_line.LogWords.{LogWords}
use Rattle.tp_model.specs.declared.out_line.SentWords.{SentWords}
use Rattle.tp_model.specs.declared.out_line.PhaseWord.{PhaseWord}
use Rattle.tp_model.specs.declared.out_line.OutLine.{OutLine}
use Rattle.tp_model.specs.LineReading.{Form, Well, form_of, with, both, three, no_words, one_word, two_words, outcome, words_in}
use Rattle.tp_model.specs.Words.{decimal, hex, aaid_word, branch_word, maybe_word, outcome_word, report_word, words}
use Rattle.tp_model.specs.OutText.{log_words, dialogue_words, state_words, sent_words, indication_words, phase_word, fate_word, numbers_word, out_text}
use Rattle.tp_schedule.specs.Answers.{pair, same}
use Rattle.tp_schedule.specs.HasText.{is_number}
use Rattle.tp_transcript.specs.OutHasText.{is_short, is_long, are_bytes, mark_has_text, aaid_has_text, branch_has_text, if_there, key_has_text, some_numbers, log_has_text, dialogue_has_text, sent_has_text, told_has_text, out_has_text}
use Rattle.tp_transcript.specs.OutWords.{report}
use Rattle.tp_transcript.specs.OutReading.{keyed, read_log, read_dialogue, read_state, read_sent, read_told, candidate_in, candidate, hex_word}
use Rattle.tp_schedule.proofs.lemmas.Back.{all_plain, is_plain, words_back, two_then_space, hex_back, hex_plain}
use Rattle.tp_transcript.proofs.OutBack.{Reads_back, parts_of, number_again, short_again, small_again, long_again, mark_again, aaid_again, site_again, branch_again, maybe_mark_again, maybe_branch_again, permitted_again, octets_again, report_again, holder_again, outcome_again, phase_again, fate_again, numbers_again}

-- words that read as a value, each with no space in it
pub record Read_back {A : Type 0} (read : Form A) (a : A) (ws : List (List ℕ)) : Type 0 where
  pub reads : read ≡ Well a
  pub plain : all_plain ws ≡ true

none_back : {A : Type 0} → (a : A) (v : List ℕ) → is_plain v ≡ true → Read_back (Well a) a (v ∷ [])
none_back a v plain = record { reads = refl; plain = rw plain refl }

one_back : {A B : Type 0} → (f : B → A) (read : Form B) (b : B) (v w : List ℕ) → is_plain v ≡ true → Reads_back read b w → Read_back (with f read) (f b) (v ∷ w ∷ [])
one_back f read b v w plain back = record { reads = ap (with f) back.reads; plain = rw (plain, back.plain) refl }

two_back : {A B C : Type 0} → (f : B → C → A) (x : Form B) (y : Form C) (b : B) (c : C) (v s w : List ℕ) → is_plain v ≡ true → Reads_back x b s → Reads_back y c w
    → Read_back (both f x y) (f b c) (v ∷ s ∷ w ∷ [])
two_back f x y b c v s w plain first second = record { reads = rw (first.reads, second.reads) refl; plain = rw (plain, first.plain, second.plain) refl }

three_back : {A B C D : Type 0} → (f : B → C → D → A) (x : Form B) (y : Form C) (z : Form D) (b : B) (c : C) (d : D) (v s w u : List ℕ) → is_plain v ≡ true
    → Reads_back x b s → Reads_back y c w → Reads_back z d u → Read_back (three f x y z) (f b c d) (v ∷ s ∷ w ∷ u ∷ [])
three_back f x y z b c d v s w u plain first second third =
    record { reads = rw (first.reads, second.reads, third.reads) refl; plain = rw (plain, first.plain, second.plain, third.plain) refl }

-- a word, and words after it
and_back : {A B C : Type 0} → (f : B → C → A) (x : Form B) (y : Form C) (b : B) (c : C) (v s : List ℕ) (ws : List (List ℕ)) → is_plain v ≡ true → Reads_back x b s → Read_back y c ws
    → Read_back (both f x y) (f b c) (v ∷ s ∷ ws)
and_back f x y b c v s ws plain first rest = record { reads = rw (first.reads, rest.reads) refl; plain = rw (plain, first.plain, rest.plain) refl }

-- ---- indications

told_back : (i : Indication) → told_has_text i ≡ true → Read_back (read_told (indication_words i)) i (indication_words i)
told_back (Indication.BeginDialogue p u) good = let q = parts_of (is_number p) (is_permitted u) good in two_back Indication.BeginDialogue _ _ p u (codes "begin-dialogue") _ _ refl (number_again p q.0) (permitted_again u q.1)
told_back (Indication.BegunDialogue p u) good = let q = parts_of (is_number p) (is_permitted u) good in two_back Indication.BegunDialogue _ _ p u (codes "begun-dialogue") _ _ refl (number_again p q.0) (permitted_again u q.1)
told_back (Indication.Rejected p) good = one_back Indication.Rejected _ p (codes "rejected") _ refl (number_again p good)
told_back (Indication.EndDialogue p) good = one_back Indication.EndDialogue _ p (codes "end-dialogue") _ refl (number_again p good)
told_back (Indication.UserData p xs) good = let q = parts_of (is_number p) (are_bytes xs) good in two_back Indication.UserData _ _ p xs (codes "data") _ _ refl (number_again p q.0) (octets_again xs q.1)
told_back (Indication.UError p) good = one_back Indication.UError _ p (codes "u-error") _ refl (number_again p good)
told_back (Indication.UAbort p) good = one_back Indication.UAbort _ p (codes "u-abort") _ refl (number_again p good)
told_back (Indication.PAbort p) good = one_back Indication.PAbort _ p (codes "p-abort") _ refl (number_again p good)
told_back (Indication.Grant p) good = one_back Indication.Grant _ p (codes "grant-control") _ refl (number_again p good)
told_back (Indication.AskControl p) good = one_back Indication.AskControl _ p (codes "request-control") _ refl (number_again p good)
told_back (Indication.Handshake p) good = one_back Indication.Handshake _ p (codes "handshake") _ refl (number_again p good)
told_back (Indication.HandshakeConfirm p) good = one_back Indication.HandshakeConfirm _ p (codes "handshake-confirm") _ refl (number_again p good)
told_back (Indication.HandshakeGrant p) good = one_back Indication.HandshakeGrant _ p (codes "handshake-and-grant") _ refl (number_again p good)
told_back (Indication.BeginTransaction p a) good = let q = parts_of (is_number p) (aaid_has_text a) good in two_back Indication.BeginTransaction _ _ p a (codes "begin-transaction") _ _ refl (number_again p q.0) (aaid_again a q.1)
told_back (Indication.DeferEnd p) good = one_back Indication.DeferEnd _ p (codes "deferred-end") _ refl (number_again p good)
told_back (Indication.DeferGrant p) good = one_back Indication.DeferGrant _ p (codes "deferred-grant") _ refl (number_again p good)
told_back Indication.Prepare good = none_back Indication.Prepare (codes "prepare") refl
told_back (Indication.Ready p) good = one_back Indication.Ready _ p (codes "ready") _ refl (number_again p good)
told_back Indication.Commit good = none_back Indication.Commit (codes "commit") refl
told_back (Indication.CommitComplete r) good = one_back Indication.CommitComplete _ r (codes "commit-complete") _ refl (report_again r)
told_back Indication.Rollback good = none_back Indication.Rollback (codes "rollback") refl
told_back (Indication.RollbackComplete r) good = one_back Indication.RollbackComplete _ r (codes "rollback-complete") _ refl (report_again r)
told_back (Indication.HeuristicReport p r) good = two_back Indication.HeuristicReport _ _ p r (codes "heuristic-report") _ _ refl (number_again p good) (report_again r)
told_back (Indication.Left p) good = one_back Indication.Left _ p (codes "left") _ refl (number_again p good)

-- ---- records that are sent

dialogue_back : (i : DialogueRecord) → dialogue_has_text i ≡ true → Read_back (read_dialogue (dialogue_words i)) i (dialogue_words i)
dialogue_back DialogueRecord.EndDialogue good = none_back DialogueRecord.EndDialogue (codes "end-dialogue") refl
dialogue_back (DialogueRecord.UserData xs) good = one_back DialogueRecord.UserData _ xs (codes "user") _ refl (octets_again xs good)
dialogue_back DialogueRecord.UError good = none_back DialogueRecord.UError (codes "u-error") refl
dialogue_back DialogueRecord.UAbort good = none_back DialogueRecord.UAbort (codes "u-abort") refl
dialogue_back DialogueRecord.Grant good = none_back DialogueRecord.Grant (codes "grant") refl
dialogue_back DialogueRecord.AskControl good = none_back DialogueRecord.AskControl (codes "request-control") refl
dialogue_back DialogueRecord.Handshake good = none_back DialogueRecord.Handshake (codes "handshake") refl
dialogue_back DialogueRecord.HandshakeGrant good = none_back DialogueRecord.HandshakeGrant (codes "handshake-grant") refl
dialogue_back DialogueRecord.Response good = none_back DialogueRecord.Response (codes "response") refl
dialogue_back DialogueRecord.DeferEnd good = none_back DialogueRecord.DeferEnd (codes "deferred-end") refl
dialogue_back DialogueRecord.DeferGrant good = none_back DialogueRecord.DeferGrant (codes "deferred-grant") refl
dialogue_back (DialogueRecord.Begin a b h) good = let q = parts_of (aaid_has_text a) (branch_has_text b) good in three_back DialogueRecord.Begin _ _ _ a b h (codes "begin") _ _ _ refl (aaid_again a q.0) (branch_again b q.1) (holder_again h)
dialogue_back DialogueRecord.Prepare good = none_back DialogueRecord.Prepare (codes "prepare") refl
dialogue_back DialogueRecord.Ready good = none_back DialogueRecord.Ready (codes "ready") refl
dialogue_back DialogueRecord.Commit good = none_back DialogueRecord.Commit (codes "commit") refl
dialogue_back (DialogueRecord.Done r) good = one_back DialogueRecord.Done _ r (codes "done") _ refl (report_again r)
dialogue_back DialogueRecord.Rollback good = none_back DialogueRecord.Rollback (codes "rollback") refl
dialogue_back (DialogueRecord.RolledBack r) good = one_back DialogueRecord.RolledBack _ r (codes "rolled-back") _ refl (report_again r)
dialogue_back DialogueRecord.Left good = none_back DialogueRecord.Left (codes "left") refl
dialogue_back DialogueRecord.LeftEnd good = none_back DialogueRecord.LeftEnd (codes "left-end") refl

state_back : (s : RecState) → Read_back (read_state (state_words s)) s (state_words s)
state_back RecState.Commit = none_back RecState.Commit (codes "commit") refl
state_back (RecState.Done r) = one_back RecState.Done _ r (codes "done") _ refl (report_again r)
state_back RecState.Unknown = none_back RecState.Unknown (codes "unknown") refl
state_back RecState.RetryLater = none_back RecState.RetryLater (codes "retry-later") refl

reply_back : (a : Aaid) (b : BranchId) (s : RecState) → sent_has_text (SentWords.RecReply a b s) ≡ true
    → Read_back (read_sent (sent_words (SentWords.RecReply a b s))) (SentWords.RecReply a b s) (sent_words (SentWords.RecReply a b s))
reply_back a b s good =
    let q = parts_of (aaid_has_text a) (branch_has_text b) good in
    let first = aaid_again a q.0 in
    let second = branch_again b q.1 in
    let rest = state_back s in
    record { reads = rw (first.reads, second.reads, rest.reads) refl; plain = rw (first.plain, second.plain, rest.plain) refl }

sent_back : (i : SentWords) → sent_has_text i ≡ true → Read_back (read_sent (sent_words i)) i (sent_words i)
sent_back (SentWords.OpenAssoc x u) good = let q = parts_of (mark_has_text x) (is_permitted u) good in two_back SentWords.OpenAssoc _ _ x u (codes "open") _ _ refl (mark_again x q.0) (permitted_again u q.1)
sent_back (SentWords.AcceptAssoc x y u) good = let q = parts_of (mark_has_text x && mark_has_text y) (is_permitted u) good in let r = parts_of (mark_has_text x) (mark_has_text y) q.0 in three_back SentWords.AcceptAssoc _ _ _ x y u (codes "accept") _ _ _ refl (mark_again x r.0) (mark_again y r.1) (permitted_again u q.1)
sent_back (SentWords.ShutAssoc x y) good = let q = parts_of (mark_has_text x) (if_there mark_has_text y) good in two_back SentWords.ShutAssoc _ _ x y (codes "shut") _ _ refl (mark_again x q.0) (maybe_mark_again y q.1)
sent_back (SentWords.OnAssoc s r) good = let q = parts_of (is_long s) (dialogue_has_text r) good in and_back SentWords.OnAssoc _ _ s r (codes "data") _ _ refl (long_again s q.0) (dialogue_back r q.1)
sent_back (SentWords.RecReady a b) good = let q = parts_of (aaid_has_text a) (branch_has_text b) good in two_back SentWords.RecReady _ _ a b (codes "rec-ready") _ _ refl (aaid_again a q.0) (branch_again b q.1)
sent_back (SentWords.RecCommit a b) good = let q = parts_of (aaid_has_text a) (branch_has_text b) good in two_back SentWords.RecCommit _ _ a b (codes "rec-commit") _ _ refl (aaid_again a q.0) (branch_again b q.1)
sent_back (SentWords.RecReply a b s) good = reply_back a b s good
sent_back (SentWords.Forget a b) good = let q = parts_of (aaid_has_text a) (branch_has_text b) good in two_back SentWords.Forget _ _ a b (codes "forget") _ _ refl (aaid_again a q.0) (branch_again b q.1)

-- ---- records of a log

keyed_back : {B : Type 0} → (more : List (List ℕ) → Form B) (n : ℕ) (k : NodeKey) (b : B) (v : List ℕ) (ws : List (List ℕ)) → is_plain v ≡ true → is_short n ≡ true → key_has_text k ≡ true
    → Read_back (more ws) b ws
    → Read_back (keyed more (decimal n ∷ aaid_word k.aaid ∷ maybe_word branch_word k.branch ∷ ws)) ((n, (k.aaid, k.branch)), b) (v ∷ decimal n ∷ aaid_word k.aaid ∷ maybe_word branch_word k.branch ∷ ws)
keyed_back more n k b v ws plain few good rest =
    let p = parts_of (aaid_has_text k.aaid) (if_there branch_has_text k.branch) good in
    let first = short_again n few in
    let second = aaid_again k.aaid p.0 in
    let third = maybe_branch_again k.branch p.1 in
    record { reads = rw (first.reads, second.reads, third.reads, rest.reads) refl; plain = rw (plain, first.plain, second.plain, third.plain, rest.plain) refl }

under : {A B : Type 0} → (f : B → A) (x : Form B) (b : B) (ws : List (List ℕ)) → Read_back x b ws → Read_back (with f x) (f b) ws
under f x b ws back = record { reads = ap (with f) back.reads; plain = back.plain }

end_back : Read_back {A = Unit {0}} (no_words (tt {0}) []) (tt {0}) []
end_back = record { reads = refl; plain = refl }

outcome_alone : (o : Outcome) → Read_back (one_word same outcome (outcome_word o ∷ [])) o (outcome_word o ∷ [])
outcome_alone o = let back = outcome_again o in record { reads = rw back.reads refl; plain = rw back.plain refl }

damage_back : (o : Outcome) (r : Report) → Read_back (two_words pair outcome report (outcome_word o ∷ report_word r ∷ [])) (o, r) (outcome_word o ∷ report_word r ∷ [])
damage_back o r =
    let first = outcome_again o in
    let second = report_again r in
    record { reads = rw (first.reads, second.reads) refl; plain = rw (first.plain, second.plain) refl }

log_back : (r : LogWords) → log_has_text r ≡ true → Read_back (read_log (log_words r)) r (log_words r)
log_back (LogWords.Boot n) good = one_back LogWords.Boot _ n (codes "boot") _ refl (long_again n good)
log_back (LogWords.Ready n k) good =
    let p = parts_of (is_short n) (key_has_text k) good in
    under _ _ _ _ (keyed_back {B = Unit {0}} (no_words (tt {0})) n k (tt {0}) (codes "ready") [] refl p.0 p.1 end_back)
log_back (LogWords.Heuristic n k o) good =
    let p = parts_of (is_short n) (key_has_text k) good in
    under _ _ _ _ (keyed_back (one_word same outcome) n k o (codes "heuristic") _ refl p.0 p.1 (outcome_alone o))
log_back (LogWords.Commit n k) good =
    let p = parts_of (is_short n) (key_has_text k) good in
    under _ _ _ _ (keyed_back {B = Unit {0}} (no_words (tt {0})) n k (tt {0}) (codes "commit") [] refl p.0 p.1 end_back)
log_back (LogWords.Damage n k o r) good =
    let p = parts_of (is_short n) (key_has_text k) good in
    under _ _ _ _ (keyed_back (two_words pair outcome report) n k (o, r) (codes "damage") _ refl p.0 p.1 (damage_back o r))
log_back (LogWords.End n k o) good =
    let p = parts_of (is_short n) (key_has_text k) good in
    under _ _ _ _ (keyed_back (one_word same outcome) n k o (codes "end") _ refl p.0 p.1 (outcome_alone o))

-- ---- lines

hex_again : (x : ℕ) (xs : List ℕ) → are_bytes (x ∷ xs) ≡ true → Reads_back (hex_word (hex (x ∷ xs))) (x ∷ xs) (hex (x ∷ xs))
hex_again x xs good = record { reads = ap form_of (hex_back (x ∷ xs) good); plain = hex_plain (x ∷ xs) good }

-- an image of no bytes: its last word is empty, and is none where words are cut out
empty_image : (s : List ℕ) → is_site_name s ≡ true → candidate (out_text (OutLine.Image s [])) ≡ Well (OutLine.Image s [])
empty_image s name =
    let first = site_again s name in
    ap (λ (ws : List (List ℕ)). candidate_in ws) (two_then_space (codes "image") s refl first.plain) ∙ rw first.reads refl

send_back : (k a b : ℕ) (r : SentWords) → out_has_text (OutLine.Send k a b r) ≡ true
    → Read_back (candidate_in (codes "send" ∷ decimal k ∷ decimal a ∷ decimal b ∷ sent_words r)) (OutLine.Send k a b r) (codes "send" ∷ decimal k ∷ decimal a ∷ decimal b ∷ sent_words r)
send_back k a b r good =
    let p = parts_of (is_number k && is_number a && is_number b) (sent_has_text r) good in
    let q = parts_of (is_number k && is_number a) (is_number b) p.0 in
    let t = parts_of (is_number k) (is_number a) q.0 in
    let first = number_again k t.0 in
    let second = number_again a t.1 in
    let third = number_again b q.1 in
    let rest = sent_back r p.1 in
    record { reads = rw (first.reads, second.reads, third.reads, rest.reads) refl; plain = rw (first.plain, second.plain, third.plain, rest.plain) refl }

stated_back : (n : ℕ) (p : PhaseWord) (k : ℕ) → out_has_text (OutLine.State n p k) ≡ true
    → Read_back (candidate_in (codes "state" ∷ decimal n ∷ phase_word p ∷ codes "kept" ∷ decimal k ∷ [])) (OutLine.State n p k) (codes "state" ∷ decimal n ∷ phase_word p ∷ codes "kept" ∷ decimal k ∷ [])
stated_back n p k good =
    let q = parts_of (is_number n) (is_long k) good in
    let first = number_again n q.0 in
    let second = phase_again p in
    let third = long_again k q.1 in
    record { reads = rw (first.reads, second.reads, third.reads) refl; plain = rw (first.plain, second.plain, third.plain) refl }

image_back : (s : List ℕ) (x : ℕ) (xs : List ℕ) → out_has_text (OutLine.Image s (x ∷ xs)) ≡ true
    → Read_back (candidate_in (codes "image" ∷ s ∷ hex (x ∷ xs) ∷ [])) (OutLine.Image s (x ∷ xs)) (codes "image" ∷ s ∷ hex (x ∷ xs) ∷ [])
image_back s x xs good =
    let q = parts_of (is_site_name s) (are_bytes (x ∷ xs)) good in
    let first = site_again s q.0 in
    let second = hex_again x xs q.1 in
    record { reads = rw (first.reads, second.reads) refl; plain = rw (first.plain, second.plain) refl }

agreed_back : (a : Aaid) (o : Outcome) → aaid_has_text a ≡ true
    → Read_back (candidate_in (codes "tree" ∷ aaid_word a ∷ codes "agreed" ∷ outcome_word o ∷ [])) (OutLine.Agreed a o) (codes "tree" ∷ aaid_word a ∷ codes "agreed" ∷ outcome_word o ∷ [])
agreed_back a o good =
    let first = aaid_again a good in
    let second = outcome_again o in
    record { reads = rw (first.reads, second.reads) refl; plain = rw (first.plain, second.plain) refl }

mixed_back : (a : Aaid) (ns : List ℕ) → out_has_text (OutLine.Mixed a ns) ≡ true
    → Read_back (candidate_in (codes "tree" ∷ aaid_word a ∷ codes "mixed" ∷ codes "by" ∷ numbers_word ns ∷ [])) (OutLine.Mixed a ns) (codes "tree" ∷ aaid_word a ∷ codes "mixed" ∷ codes "by" ∷ numbers_word ns ∷ [])
mixed_back a ns good =
    let q = parts_of (aaid_has_text a) (some_numbers ns) good in
    let first = aaid_again a q.0 in
    let second = numbers_again ns q.1 in
    record { reads = rw (first.reads, second.reads) refl; plain = rw (first.plain, second.plain) refl }

opened_back : (a : Aaid) → aaid_has_text a ≡ true
    → Read_back (candidate_in (codes "tree" ∷ aaid_word a ∷ codes "open" ∷ [])) (OutLine.Open a) (codes "tree" ∷ aaid_word a ∷ codes "open" ∷ [])
opened_back a good =
    let first = aaid_again a good in
    record { reads = rw first.reads refl; plain = rw first.plain refl }

-- the bytes of a line of words are no echo
said : (o : OutLine) (ws : List (List ℕ)) → candidate (words ws) ≡ candidate_in (words_in (words ws)) → Read_back (candidate_in ws) o ws → candidate (words ws) ≡ Well o
said o ws form back = form ∙ ap candidate_in (words_back ws back.plain) ∙ back.reads

pub out_back : (o : OutLine) → out_has_text o ≡ true → candidate (out_text o) ≡ Well o
out_back (OutLine.Echo text) good = refl
out_back (OutLine.Log s r) good =
    let p = parts_of (is_site_name s) (log_has_text r) good in
    said (OutLine.Log s r) (codes "log" ∷ s ∷ log_words r) refl (and_back OutLine.Log _ _ s r (codes "log") _ _ refl (site_again s p.0) (log_back r p.1))
out_back (OutLine.Take k) good = said (OutLine.Take k) (codes "take" ∷ decimal k ∷ []) refl (one_back OutLine.Take _ k (codes "take") _ refl (number_again k good))
out_back (OutLine.Send k a b r) good = said (OutLine.Send k a b r) (codes "send" ∷ decimal k ∷ decimal a ∷ decimal b ∷ sent_words r) refl (send_back k a b r good)
out_back (OutLine.Tell n i) good =
    let p = parts_of (is_number n) (told_has_text i) good in
    said (OutLine.Tell n i) (codes "tell" ∷ decimal n ∷ indication_words i) refl (and_back OutLine.Tell _ _ n i (codes "tell") _ _ refl (number_again n p.0) (told_back i p.1))
out_back (OutLine.Refused n) good = said (OutLine.Refused n) (codes "refused" ∷ decimal n ∷ []) refl (one_back OutLine.Refused _ n (codes "refused") _ refl (small_again n good))
out_back (OutLine.Dropped n) good = said (OutLine.Dropped n) (codes "dropped" ∷ decimal n ∷ []) refl (one_back OutLine.Dropped _ n (codes "dropped") _ refl (small_again n good))
out_back OutLine.Nothing good = refl
out_back (OutLine.Lost k) good = said (OutLine.Lost k) (codes "lost" ∷ decimal k ∷ []) refl (one_back OutLine.Lost _ k (codes "lost") _ refl (number_again k good))
out_back (OutLine.Stopped s f) good = said (OutLine.Stopped s f) (codes "stopped" ∷ s ∷ fate_word f ∷ []) refl (two_back OutLine.Stopped _ _ s f (codes "stopped") _ _ refl (site_again s good) (fate_again f))
out_back (OutLine.State n p k) good = said (OutLine.State n p k) (codes "state" ∷ decimal n ∷ phase_word p ∷ codes "kept" ∷ decimal k ∷ []) refl (stated_back n p k good)
out_back (OutLine.Image s []) good = empty_image s (parts_of (is_site_name s) true good).0
out_back (OutLine.Image s (x ∷ xs)) good = said (OutLine.Image s (x ∷ xs)) (codes "image" ∷ s ∷ hex (x ∷ xs) ∷ []) refl (image_back s x xs good)
out_back (OutLine.Agreed a o) good = said (OutLine.Agreed a o) (codes "tree" ∷ aaid_word a ∷ codes "agreed" ∷ outcome_word o ∷ []) refl (agreed_back a o good)
out_back (OutLine.Mixed a ns) good = said (OutLine.Mixed a ns) (codes "tree" ∷ aaid_word a ∷ codes "mixed" ∷ codes "by" ∷ numbers_word ns ∷ []) refl (mixed_back a ns good)
out_back (OutLine.Open a) good = said (OutLine.Open a) (codes "tree" ∷ aaid_word a ∷ codes "open" ∷ []) refl (opened_back a good)
