-- The words beside each shape: the first words of what a line says.
use Rattle.std.specs.Prelude.{ℕ, List, [], ◌∷◌, codes}
use Rattle.tp_model.specs.declared.out_line.LogWords.{LogWords}
use Rattle.tp_model.specs.declared.out_line.SentWords.{SentWords}
use Rattle.tp_model.specs.declared.out_line.OutLine.{OutLine}
use Rattle.tp_model.specs.Words.{decimal, words, outcome_word}
use Rattle.tp_model.specs.OutText.{log_words, dialogue_words, state_words, sent_words, indication_words, phase_word, fate_word}
use Rattle.tp_draw.specs.Reasons.{reason}

abbrev pub first_word : List (List ℕ) → List ℕ
first_word [] = []
first_word (w ∷ ws) = w

-- what a peer's record is: of a record of a dialogue its own word, and of a reply what it says
abbrev pub sent_label : SentWords → List ℕ
sent_label (SentWords.OnAssoc s r) = first_word (dialogue_words r)
sent_label (SentWords.RecReply a b s) = words (codes "rec-reply" ∷ first_word (state_words s) ∷ [])
sent_label r = first_word (sent_words r)

abbrev pub log_label : LogWords → List ℕ
log_label (LogWords.Boot n) = words (codes "boot" ∷ decimal n ∷ [])
log_label (LogWords.Heuristic n k o) = words (codes "decides" ∷ outcome_word o ∷ [])
log_label r = first_word (log_words r)

-- a take has words where it is not the first of its frame, a loss always
abbrev pub label : OutLine → List ℕ
label (OutLine.Log s r) = log_label r
label (OutLine.Take k) = words (decimal k ∷ codes "again" ∷ [])
label (OutLine.Send k a b r) = words (decimal k ∷ sent_label r ∷ [])
label (OutLine.Tell n i) = first_word (indication_words i)
label (OutLine.Refused n) = words (codes "refused:" ∷ reason n ∷ [])
label (OutLine.Dropped n) = words (codes "dropped:" ∷ reason n ∷ [])
label (OutLine.Lost k) = words (decimal k ∷ codes "lost" ∷ [])
label (OutLine.Stopped s f) = words (codes "crash:" ∷ fate_word f ∷ [])
label (OutLine.State n p k) = words (phase_word p ∷ codes "kept" ∷ decimal k ∷ [])
label _ = []
