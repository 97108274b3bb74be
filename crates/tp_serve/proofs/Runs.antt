-- A run with more events: its log and its outputs go on.
use Rattle.std.proofs.Common.{◌≡◌, ℕ, ◌+◌, Option, Some, None, List, [], ◌∷◌, ◌++◌, length, refl, sym, ap, ◌∙◌, arith, append_assoc, length-append}
use Rattle.std.proofs.lemmas.List.{append-nil}
use Rattle.tp_names.specs.Bytes.{short_bytes}
use Rattle.tp_records.specs.declared.body.Event.{Event as Given}
use Rattle.tp_records.specs.declared.body.Output.{Output}
use Rattle.tp_records.specs.Bodies.{output_bytes}
use Rattle.tp_framing.specs.Frames.{frame_bytes}
use Rattle.tp_logrec.specs.declared.record.LogRec.{LogRec}
use Rattle.tp_logrec.specs.declared.record.LogVersion.{LogVersion}
use Rattle.tp_logrec.specs.RecordText.{record_bytes}
use Rattle.tp_logrec.specs.LogText.{framed, records_text, version_text}
use Rattle.tp_model.specs.Parts.{Entry}
use Rattle.tp_model.specs.History.{answer}
use Rattle.tp_model.specs.NodeRun.{Opening, boot_of, NodeRun, Refuses, Is, asked, node_of, origin_at, history_of, refusal_of, entry_record, entry_outputs, run_from, node_run, log_after, AskedEvent}
use Rattle.tp_model.specs.NodeTranscript.{outputs_bytes, written_of, size_of}
use Rattle.tp_site.specs.Events.{answer_asked, outputs_after, record_after, record_of}
use Rattle.tp_site.proofs.Runs.{asked_at, run_asked, run_more, run_next}
use Rattle.tp_serve.specs.Progress.{answer_bytes}

-- ---- the log

abbrev pub log_beyond : Opening → List Given → List Given → List LogRec
log_beyond o gs hs = (run_from o (run_from o [] gs).pasts hs).log

pub log_appended : (o : Opening) (gs hs : List Given) → log_after o (gs ++ hs) ≡ log_after o gs ++ log_beyond o gs hs
log_appended o gs hs =
    ap (λ (r : NodeRun). o.records ++ LogRec.Boot (boot_of o) ∷ r.log) (run_more o gs hs [])
    ∙ sym (append_assoc o.records (LogRec.Boot (boot_of o) ∷ (run_from o [] gs).log) (log_beyond o gs hs))

abbrev pub rec_list : Option LogRec → List LogRec
rec_list None = []
rec_list (Some r) = r ∷ []

-- one event more
pub log_next : (o : Opening) (gs : List Given) (g : Given) → log_after o (gs ++ g ∷ []) ≡ log_after o gs ++ rec_list (record_after o gs g)
log_next o gs g = go (asked o g) refl
  where
    rec_list_of : (y : Option Entry) → entry_record y ++ [] ≡ rec_list (record_of y)
    rec_list_of None = refl
    rec_list_of (Some e) = by e.rec
      where
        by : (r : Option LogRec) → (elim r as (λ _. List LogRec) [ None ↦ [] | Some x ↦ x ∷ [] ]) ++ [] ≡ rec_list r
        by None = refl
        by (Some x) = refl

    more : (a : AskedEvent) → (run_asked o (run_from o [] gs).pasts a []).log ≡ rec_list (record_of (answer_asked o gs a).entry)
    more (Refuses n) = refl
    more (Is n e) = rec_list_of (answer (origin_at o n) (history_of (run_from o [] gs).pasts n) e).entry

    go : (a : AskedEvent) → asked o g ≡ a → log_after o (gs ++ g ∷ []) ≡ log_after o gs ++ rec_list (record_after o gs g)
    go a i =
        ap (λ (r : NodeRun). o.records ++ LogRec.Boot (boot_of o) ∷ r.log) (run_next o gs g a i)
        ∙ sym (append_assoc o.records (LogRec.Boot (boot_of o) ∷ (run_from o [] gs).log) (run_asked o (run_from o [] gs).pasts a []).log)
        ∙ ap (λ (l : List LogRec). log_after o gs ++ l) (more a ∙ ap (λ (b : AskedEvent). rec_list (record_of (answer_asked o gs b).entry)) (sym i))

-- ---- the outputs

pub written_appended : (xs ys : List (List Output)) → written_of (xs ++ ys) ≡ written_of xs ++ written_of ys
written_appended [] ys = refl
written_appended (x ∷ xs) ys =
    ap (λ (l : List ℕ). outputs_bytes (x ++ Output.Over ∷ []) ++ l) (written_appended xs ys)
    ∙ sym (append_assoc (outputs_bytes (x ++ Output.Over ∷ [])) (written_of xs) (written_of ys))

-- the outputs of more events come after those of the first
pub written_beyond : (o : Opening) (gs hs : List Given) → written_of (node_run o (gs ++ hs)).outputs ≡ written_of (node_run o gs).outputs ++ written_of (run_from o (run_from o [] gs).pasts hs).outputs
written_beyond o gs hs =
    ap (λ (r : NodeRun). written_of r.outputs) (run_more o gs hs [])
    ∙ written_appended (run_from o [] gs).outputs (run_from o (run_from o [] gs).pasts hs).outputs

-- one event more
pub written_next : (o : Opening) (gs : List Given) (g : Given) → written_of (node_run o (gs ++ g ∷ [])).outputs ≡ written_of (node_run o gs).outputs ++ answer_bytes o gs g
written_next o gs g = go (asked o g) refl
  where
    one : (a : AskedEvent) → asked o g ≡ a → (run_asked o (run_from o [] gs).pasts a []).outputs ≡ outputs_after o gs g ∷ []
    one (Refuses n) i = ap (λ (b : AskedEvent). (refusal_of (answer_asked o gs b).number ++ entry_outputs o (node_of g) (answer_asked o gs b).entry) ∷ []) (sym i)
    one (Is n e) i =
        ap (λ (m : ℕ). (refusal_of (answer_asked o gs (Is n e)).number ++ entry_outputs o m (answer_asked o gs (Is n e)).entry) ∷ []) (sym (asked_at o g n e i))
        ∙ ap (λ (b : AskedEvent). (refusal_of (answer_asked o gs b).number ++ entry_outputs o (node_of g) (answer_asked o gs b).entry) ∷ []) (sym i)

    go : (a : AskedEvent) → asked o g ≡ a → written_of (node_run o (gs ++ g ∷ [])).outputs ≡ written_of (node_run o gs).outputs ++ answer_bytes o gs g
    go a i =
        ap (λ (r : NodeRun). written_of r.outputs) (run_next o gs g a i)
        ∙ written_appended (run_from o [] gs).outputs (run_asked o (run_from o [] gs).pasts a []).outputs
        ∙ ap (λ (l : List (List Output)). written_of (run_from o [] gs).outputs ++ written_of l) (one a i)
        ∙ ap (λ (l : List ℕ). written_of (run_from o [] gs).outputs ++ l) (append-nil (answer_bytes o gs g))

-- ---- sizes

pub records_appended : (ver : LogVersion) (rs qs : List LogRec) → records_text ver (rs ++ qs) ≡ records_text ver rs ++ records_text ver qs
records_appended ver [] qs = refl
records_appended ver (r ∷ rs) qs =
    ap (λ (l : List ℕ). (1 ∷ framed (record_bytes ver r)) ++ l) (records_appended ver rs qs)
    ∙ sym (append_assoc (1 ∷ framed (record_bytes ver r)) (records_text ver rs) (records_text ver qs))

pub size_grows : (ver : LogVersion) (rs qs : List LogRec) → size_of ver (rs ++ qs) ≡ size_of ver rs + length (records_text ver qs)
size_grows ver rs qs =
    omega (
      arith,
      ap length (records_appended ver rs qs),
      length-append (records_text ver rs) (records_text ver qs),
      length-append (version_text ver) (records_text ver (rs ++ qs)),
      length-append (version_text ver) (records_text ver rs),
    )

pub size_one : (ver : LogVersion) (rs : List LogRec) (r : LogRec) → size_of ver (rs ++ r ∷ []) ≡ size_of ver rs + 3 + length (record_bytes ver r)
size_one ver rs r =
    omega (
      arith,
      size_grows ver rs (r ∷ []),
      length-append (1 ∷ framed (record_bytes ver r)) [],
      length-append (short_bytes (length (record_bytes ver r))) (record_bytes ver r),
    )

-- ---- frames of outputs

pub outputs_appended : (xs ys : List Output) → outputs_bytes (xs ++ ys) ≡ outputs_bytes xs ++ outputs_bytes ys
outputs_appended [] ys = refl
outputs_appended (x ∷ xs) ys =
    ap (λ (l : List ℕ). frame_bytes (output_bytes x) ++ l) (outputs_appended xs ys)
    ∙ sym (append_assoc (frame_bytes (output_bytes x)) (outputs_bytes xs) (outputs_bytes ys))

-- one more of them
pub outputs_more : (xs : List Output) (x : Output) → outputs_bytes (xs ++ x ∷ []) ≡ outputs_bytes xs ++ frame_bytes (output_bytes x)
outputs_more xs x = outputs_appended xs (x ∷ []) ∙ ap (λ (l : List ℕ). outputs_bytes xs ++ l) (append-nil (frame_bytes (output_bytes x)))
