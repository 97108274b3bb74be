-- What workers write and leave, beside what `node` writes of the same input and leaves.
use Rattle.std.proofs.Common.{◌≡◌, ◌≤◌, ◌<◌, ◌+◌, ◌==◌, ℕ, suc, nat_lt, Bool, true, false, Option, Some, None, List, [], ◌∷◌, ◌++◌, length, length-append, refl, sym, ap, subst, ◌∙◌, arith, append_assoc}
use Rattle.std.proofs.lemmas.Bool.Decides.{nat_tests}
use Rattle.std.proofs.lemmas.List.{append-nil}
use Rattle.tp_names.specs.Bytes.{short_bytes}
use Rattle.tp_records.specs.declared.body.Event.{Event as Given}
use Rattle.tp_records.specs.declared.body.Output.{Output}
use Rattle.tp_records.specs.BodyReading.{event_in}
use Rattle.tp_framing.specs.Frames.{Rest, stream}
use Rattle.tp_logrec.specs.declared.record.LogRec.{LogRec}
use Rattle.tp_logrec.specs.declared.record.LogVersion.{LogVersion}
use Rattle.tp_logrec.specs.LogText.{framed, log_text, records_text, version_text}
use Rattle.tp_logrec.specs.RecordText.{record_bytes}
use Rattle.tp_model.specs.declared.verdict.What.{What}
use Rattle.tp_model.specs.declared.verdict.Why.{Why}
use Rattle.tp_model.specs.Links.{greatest}
use Rattle.tp_model.specs.Transcript.{Ending, Done, Bad_input, At_limit}
use Rattle.tp_model.specs.NodeRun.{Opening, boot_of, node_run, run_from, log_after, records_at}
use Rattle.tp_model.specs.NodeTranscript.{Input, NodeTranscript, declared_by, is_past_limit, limited, node_transcript, nothing_written, size_of, transcript_of, with_event, written_of, input_of as node_input}
use Rattle.tp_journal.specs.Log.{blocks, counted, place_behind}
use Rattle.tp_journal.specs.Records.{bodies_of, text, texts, version_of}
use Rattle.tp_streams.specs.Events.{events_from}
use Rattle.tp_streams.proofs.Steps.{events_by, events_step, limits_by, nodes_by, past_events, past_nodes, says_none}
use Rattle.tp_serve.proofs.Fitting.{fewer_fit, limited_whole, within_so}
use Rattle.tp_serve.proofs.Runs.{size_grows, size_one}
use Rattle.tp_serve.proofs.Whole.{not_spent}
use Rattle.tp_drive.specs.Begun.{booted}
use Rattle.tp_drive.specs.Woven.{IsWoven}
use Rattle.tp_drive.proofs.Alike.{alike_at, alike_size, at_append}
use Rattle.tp_drive_tool.specs.Reading.{input_of}
use Rattle.tp_drive_tool.specs.Driving.{IsAsNode}

-- ---- the input

-- an event within both limits is handed out
handed : (most at declares : ℕ) (b : List ℕ) (bs : List (List ℕ)) (rest : Rest) (g : Given) → event_in b ≡ Some g → at ≤ most → declares + declared_by g ≤ 256
    → events_from most at declares (b ∷ bs) rest ≡ with_event g (events_from most (suc at) (declares + declared_by g) bs rest)
handed most at declares b bs rest g says few within =
    let early : nat_lt most at ≡ false = grind (arith, nat_tests, few) in
    let under : nat_lt 256 (declares + declared_by g) ≡ false = grind (arith, nat_tests, within) in
    events_step most at declares b bs rest
    ∙ ap (λ (o : Option Given). events_by most at declares o (λ x. events_from most (suc at) (declares + declared_by x) bs rest)) says
    ∙ ap (λ (t : Bool). limits_by t (nat_lt 256 (declares + declared_by g)) at g (events_from most (suc at) (declares + declared_by g) bs rest)) early
    ∙ ap (λ (t : Bool). nodes_by t at g (events_from most (suc at) (declares + declared_by g) bs rest)) under

-- events that are at most 100,000, to the end of the input, are so many at most a million
few_are_some : (at declares : ℕ) (bs : List (List ℕ)) (rest : Rest) → (events_from 100000 at declares bs rest).ending ≡ Done → events_from 1000000 at declares bs rest ≡ events_from 100000 at declares bs rest
few_are_some at declares [] rest done = refl
few_are_some at declares (b ∷ bs) rest done = go (event_in b) refl (λ d. few_are_some (suc at) d bs rest)
  where
    go : (e : Option Given) → event_in b ≡ e → ((d : ℕ) → (events_from 100000 (suc at) d bs rest).ending ≡ Done → events_from 1000000 (suc at) d bs rest ≡ events_from 100000 (suc at) d bs rest) → events_from 1000000 at declares (b ∷ bs) rest ≡ events_from 100000 at declares (b ∷ bs) rest
    go None is later = says_none 1000000 at declares b bs rest is ∙ sym (says_none 100000 at declares b bs rest is)
    go (Some g) is later = by (nat_lt 100000 at) (nat_lt 256 (declares + declared_by g)) refl refl
      where
        by : (m n : Bool) → nat_lt 100000 at ≡ m → nat_lt 256 (declares + declared_by g) ≡ n → events_from 1000000 at declares (b ∷ bs) rest ≡ events_from 100000 at declares (b ∷ bs) rest
        by true n h k =
            let past : 100000 < at = grind (arith, nat_tests, h) in
            absurd (let clash : At_limit What.Events at ≡ Done = sym (ap (λ (i : Input). i.ending) (past_events 100000 at declares b bs rest g is past)) ∙ done in cc)
        by false true h k =
            let few : at ≤ 100000 = grind (arith, nat_tests, h) in
            let many : 256 < declares + declared_by g = grind (arith, nat_tests, k) in
            absurd (let clash : At_limit What.Nodes at ≡ Done = sym (ap (λ (i : Input). i.ending) (past_nodes 100000 at declares b bs rest g is few many)) ∙ done in cc)
        by false false h k =
            let few : at ≤ 100000 = grind (arith, nat_tests, h) in
            let within : declares + declared_by g ≤ 256 = grind (arith, nat_tests, k) in
            let less = handed 100000 at declares b bs rest g is few within in
            let more = handed 1000000 at declares b bs rest g is (omega (arith, few)) within in
            let still : (events_from 100000 (suc at) (declares + declared_by g) bs rest).ending ≡ Done = sym (ap (λ (i : Input). i.ending) less) ∙ done in
            more ∙ ap (with_event g) (later (declares + declared_by g) still) ∙ sym less

-- so `node` reads the same
pub read_alike : (bytes : List ℕ) (events : List Given) → input_of bytes ≡ record { events = events; ending = Done } → node_input bytes ≡ record { events = events; ending = Done }
read_alike bytes events is = few_are_some 1 0 (stream bytes).bodies (stream bytes).rest (ap (λ (i : Input). i.ending) is) ∙ is

-- ---- sizes

texts_size : (wide : Bool) (rs : List LogRec) → length (blocks (texts wide rs)) ≡ length (records_text (version_of wide) rs)
texts_size wide [] = refl
texts_size wide (r ∷ rs) =
    let ver = version_of wide in
    omega (
      arith,
      texts_size wide rs,
      length-append (counted (text wide r)) (blocks (texts wide rs)),
      length-append (1 ∷ framed (record_bytes ver r)) (records_text ver rs),
      length-append (short_bytes (length (record_bytes ver r))) (record_bytes ver r),
    )

-- the bytes up to the closing gate, that one included
pub behind_size : (wide : Bool) (rs : List LogRec) → place_behind (bodies_of wide rs) + 1 ≡ size_of (version_of wide) rs
behind_size false rs = omega (arith, texts_size false rs)
behind_size true rs = omega (arith, texts_size true rs)

module _ (o : Opening) (events : List Given) where
  boot : LogRec
  boot = LogRec.Boot (boot_of o)

  abbrev forced : List LogRec
  forced = (run_from o [] events).log

  log_is : log_after o events ≡ booted o ++ forced
  log_is = sym (append_assoc o.records (LogRec.Boot (boot_of o) ∷ []) forced)

  -- the log with these records, in whatever order, has the size of the log of one thread
  pub log_size : (more : List LogRec) → length (records_text o.version more) ≡ length (records_text o.version forced) → size_of o.version (booted o ++ more) ≡ size_of o.version (log_after o events)
  log_size more same =
      let whole = ap (size_of o.version) log_is in
      omega (arith, whole, size_grows o.version (booted o) more, size_grows o.version (booted o) forced, same)

  -- and one with fewer is shorter
  pub log_shorter : (more : List LogRec) → length (records_text o.version more) ≤ length (records_text o.version forced) → size_of o.version (booted o ++ more) ≤ size_of o.version (log_after o events)
  log_shorter more less =
      let whole = ap (size_of o.version) log_is in
      omega (arith, whole, size_grows o.version (booted o) more, size_grows o.version (booted o) forced, less)

-- ---- the transcript

transcript_by : (o : Opening) (bytes : List ℕ) (spent over : Bool) → (boot_of o == suc greatest) ≡ spent → is_past_limit o [] ≡ over
    → node_transcript o bytes ≡ (elim spent as (λ _. NodeTranscript) [ true ↦ nothing_written o What.Boots | false ↦ elim over as (λ _. NodeTranscript) [ true ↦ nothing_written o What.Log | false ↦ limited o (node_input bytes) ] ])
transcript_by o bytes spent over is full =
    ap (λ (b : Bool). elim b as (λ _. NodeTranscript) [ true ↦ nothing_written o What.Boots | false ↦ elim (is_past_limit o []) as (λ _. NodeTranscript) [ true ↦ nothing_written o What.Log | false ↦ limited o (node_input bytes) ] ]) is
    ∙ ap (λ (b : Bool). elim spent as (λ _. NodeTranscript) [ true ↦ nothing_written o What.Boots | false ↦ elim b as (λ _. NodeTranscript) [ true ↦ nothing_written o What.Log | false ↦ limited o (node_input bytes) ] ]) full

-- where the log has room for all
pub transcript_is : (o : Opening) (events : List Given) (bytes : List ℕ) → (boot_of o ≡ suc greatest → ⊥) → size_of o.version (log_after o events) ≤ 268435456 → node_input bytes ≡ record { events = events; ending = Done }
    → node_transcript o bytes ≡ transcript_of o events Done
transcript_is o events bytes boots fits is =
    let within : is_past_limit o events ≡ false = within_so (size_of o.version (log_after o events)) fits in
    transcript_by o bytes false false (not_spent o boots) (fewer_fit o [] events within) ∙ ap (limited o) is ∙ limited_whole o (record { events = events; ending = Done }) within

-- a drive of these events
pub as_node : (o : Opening) (workers : ℕ) (events : List Given) (outs : List (List Output)) (more : List LogRec) → 0 < workers → (boot_of o ≡ suc greatest → ⊥) → outs ≡ (node_run o events).outputs → IsWoven o workers events more
    → size_of o.version (booted o ++ more) ≤ 268435456 → (bytes : List ℕ) → input_of bytes ≡ record { events = events; ending = Done } → IsAsNode o bytes outs (booted o ++ more)
as_node o workers events outs more some boots one_thread woven fits bytes is =
    let whole = log_size o events more (alike_size o events workers some more woven o.version) in
    let t = transcript_is o events bytes boots (omega (arith, fits, whole)) (read_alike bytes events is) in
    record {
      ends = ap (λ (x : NodeTranscript). x.ending) t;
      written = ap written_of one_thread ∙ sym (ap (λ (x : NodeTranscript). x.written) t);
      records = λ n.
          at_append n (booted o) more
          ∙ ap (λ (l : List LogRec). records_at n (booted o) ++ l) (alike_at o events workers some more woven n)
          ∙ sym (at_append n (booted o) (run_from o [] events).log)
          ∙ ap (records_at n) (sym (log_is o events))
          ∙ sym (ap (λ (x : NodeTranscript). records_at n x.log) t);
    }
