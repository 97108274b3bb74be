-- A whole run: what was served, as the definitions say it.
use Rattle.std.proofs.Common.{◌≡◌, ◌⊎◌, inl, inr, ◌<◌, ℕ, suc, ◌==◌, Bool, true, false, Option, Some, Result, Ok, Err, List, [], ◌∷◌, ◌++◌, length, refl, sym, ap, subst, ◌∙◌, arith, append_assoc}
use Rattle.std.specs.List.{AllByRecursion}
use Rattle.std.specs.Prelude.{IfErr}
use Rattle.std.proofs.lemmas.Bool.Decides.{nat_tests}
use Rattle.std.proofs.lemmas.List.{append-nil}
use Rattle.tp_outside.specs.Story.{Story, Synced, seen}
use Rattle.tp_records.specs.declared.body.Event.{Event as Given}
use Rattle.tp_logrec.specs.declared.record.LogRec.{LogRec}
use Rattle.tp_logrec.specs.declared.record.LogVersion.{LogVersion}
use Rattle.tp_logrec.specs.LogText.{Placed, IsLog}
use Rattle.tp_model.specs.declared.verdict.What.{What}
use Rattle.tp_model.specs.Links.{greatest}
use Rattle.tp_model.specs.Transcript.{Ending, Done, Bad_input, At_limit}
use Rattle.tp_model.specs.LogCommands.{Has, opened}
use Rattle.tp_model.specs.NodeRun.{Opening, boot_of, node_run, run_from, log_after}
use Rattle.tp_model.specs.NodeTranscript.{Input, NodeTranscript, input_of, written_of, transcript_of, limited, nothing_written, node_transcript, is_past_limit}
use Rattle.tp_journal.specs.Keeping.{Standing}
use Rattle.tp_journal.specs.Records.{HasText}
use Rattle.tp_journal.specs.Settling.{story_on}
use Rattle.tp_journal.specs.Told.{LeavesOnly, LeavesNow}
use Rattle.tp_streams.specs.declared.stop.Stop.{Stop}
use Rattle.tp_streams.specs.Stops.{IsFaultOf}
use Rattle.tp_streams.specs.Events.{input_at}
use Rattle.tp_streams.specs.Written.{IsPrefix, WritesPrefix}
use Rattle.tp_framing.specs.Frames.{stream}
use Rattle.tp_site.specs.Site.{Site}
use Rattle.tp_serve.specs.Images.{IsNodeImage}
use Rattle.tp_serve.specs.Progress.{is_wide, IsSettled}
use Rattle.tp_serve.specs.Starting.{opening, IsSpent, IsLimitedBefore, FailsBefore, NotStarted, IsStartStop}
use Rattle.tp_serve.specs.Serving.{GoesOn, IsCutShort, IsInput, IsLimited, HasRead, HasWritten, SiteLeft, EndsServing, IsEventsStop, IsServeStop, Ran, IsUntouched, IsTranscribed, Transcribes, RunsOn, Serves}
use Rattle.tp_serve.proofs.Lists.{taken_all}
use Rattle.tp_serve.proofs.Fitting.{fewer_fit, limited_whole, limited_at, limited_prefix}
use Rattle.tp_serve.proofs.Holding.{only_weaker, now_weaker, leaves_now}
use Rattle.tp_serve.proofs.Starts.{boot_small}

-- ---- prefixes

longer : (before xs ys : List ℕ) (new : Option (List ℕ)) → IsPrefix xs ys → WritesPrefix before xs new → WritesPrefix before ys new
longer before xs ys new more w =
    (w.0, (w.1.0 ++ more.0, more.1 ∙ ap (λ (l : List ℕ). l ++ more.0) w.1.1 ∙ append_assoc w.0 w.1.0 more.0), w.2)

whole_prefix : (before bytes : List ℕ) (new : Option (List ℕ)) → new ≡ Some (before ++ bytes) → WritesPrefix before bytes new
whole_prefix before bytes new is = (bytes, ([], sym (append-nil bytes)), is)

none_prefix : (before bytes : List ℕ) (new : Option (List ℕ)) → new ≡ Some before → WritesPrefix before bytes new
none_prefix before bytes new is = ([], (bytes, refl), is ∙ ap (λ (l : List ℕ). Some l) (sym (append-nil before)))

pub wrote_prefix : (before bytes : List ℕ) (new : Option (List ℕ)) (result : Result (Unit {0}) Stop) → HasWritten before bytes new result → WritesPrefix before bytes new
wrote_prefix before bytes new (Ok u) w = whole_prefix before bytes new w
wrote_prefix before bytes new (Err (Stop.BadInput at why)) w = whole_prefix before bytes new w
wrote_prefix before bytes new (Err (Stop.Limit what at)) w = whole_prefix before bytes new w
wrote_prefix before bytes new (Err (Stop.Foreign at)) w = absurd w
wrote_prefix before bytes new (Err (Stop.ReadFault n)) w = whole_prefix before bytes new w
wrote_prefix before bytes new (Err (Stop.WriteFault n)) w = w
wrote_prefix before bytes new (Err (Stop.DiskFault n)) w = whole_prefix before bytes new w
wrote_prefix before bytes new (Err Stop.NoMemory) w = w

-- ---- the transcript of a site that has started

pub boot_text : (wide : Bool) (rs qs : List LogRec) (r : LogRec) → AllByRecursion (HasText wide) (rs ++ r ∷ qs) → HasText wide r
boot_text wide [] qs r texts = texts.0
boot_text wide (x ∷ rs) qs r texts = boot_text wide rs qs r texts.1

transcript_by : (o : Opening) (bytes : List ℕ) (spent over : Bool) → (boot_of o == suc greatest) ≡ spent → is_past_limit o [] ≡ over
    → node_transcript o bytes ≡ (elim spent as (λ _. NodeTranscript) [ true ↦ nothing_written o What.Boots | false ↦ elim over as (λ _. NodeTranscript) [ true ↦ nothing_written o What.Log | false ↦ limited o (input_of bytes) ] ])
transcript_by o bytes spent over is full =
    ap (λ (b : Bool). elim b as (λ _. NodeTranscript) [ true ↦ nothing_written o What.Boots | false ↦ elim (is_past_limit o []) as (λ _. NodeTranscript) [ true ↦ nothing_written o What.Log | false ↦ limited o (input_of bytes) ] ]) is
    ∙ ap (λ (b : Bool). elim spent as (λ _. NodeTranscript) [ true ↦ nothing_written o What.Boots | false ↦ elim b as (λ _. NodeTranscript) [ true ↦ nothing_written o What.Log | false ↦ limited o (input_of bytes) ] ]) full

pub not_spent : (o : Opening) → (boot_of o ≡ suc greatest → ⊥) → (boot_of o == suc greatest) ≡ false
not_spent o never = go (boot_of o == suc greatest) refl
  where
    go : (b : Bool) → (boot_of o == suc greatest) ≡ b → (boot_of o == suc greatest) ≡ false
    go false i = i
    go true i = absurd (never (grind (arith, nat_tests, i)))

spent_so : (n : ℕ) → n ≡ suc greatest → (n == suc greatest) ≡ true
spent_so n is = grind (arith, nat_tests, is)

starts_as : (o : Opening) (gs : List Given) (bytes : List ℕ) → AllByRecursion (HasText (is_wide o.version)) (log_after o gs) → is_past_limit o gs ≡ false → node_transcript o bytes ≡ limited o (input_of bytes)
starts_as o gs bytes texts room =
    let text : HasText (is_wide o.version) (LogRec.Boot (boot_of o)) = boot_text (is_wide o.version) o.records (run_from o [] gs).log (LogRec.Boot (boot_of o)) texts in
    transcript_by o bytes false false (not_spent o (boot_small (is_wide o.version) (boot_of o) text)) (fewer_fit o [] gs room)

-- ---- what was read and written, as the definitions say

goes_first : (bytes : List ℕ) (gs hs : List Given) → GoesOn bytes (gs ++ hs) → GoesOn bytes gs
goes_first bytes gs hs x = record { more = hs ++ x.more; are = x.are ∙ append_assoc gs hs x.more }

cut_goes : (bytes : List ℕ) (gs : List Given) (unread : Option (List ℕ)) → IsCutShort bytes gs unread → GoesOn bytes gs
cut_goes bytes gs unread x = record { more = (input_at x.place (stream (x.held ++ x.rest))).events; are = ap (λ (i : Input). i.events) x.are }

input_goes : (bytes : List ℕ) (gs : List Given) (e : Ending) → IsInput bytes gs e → GoesOn bytes gs
input_goes bytes gs e is = record { more = []; are = ap (λ (i : Input). i.events) is ∙ sym (append-nil gs) }

module _ (o : Opening) (events : List Given) (r : Ran) (fits : is_past_limit o events ≡ false) (texts : AllByRecursion (HasText (is_wide o.version)) (log_after o events)) (bytes before : List ℕ) where
  t_is : node_transcript o bytes ≡ limited o (input_of bytes)
  t_is = starts_as o events bytes texts fits

  exactly : (ending : Ending) → limited o (input_of bytes) ≡ transcript_of o events ending → r.output ≡ Some (before ++ written_of (node_run o events).outputs) → LeavesNow (λ c. IsLog c (log_after o events)) r.story
      → IsTranscribed (node_transcript o bytes) ending before r
  exactly ending is output log =
      subst (λ (t : NodeTranscript). IsTranscribed t ending before r) (sym (t_is ∙ is)) (record { ends = refl; output = output; log = log })

  ended_so : (ending : Ending) → IsInput bytes events ending → r.output ≡ Some (before ++ written_of (node_run o events).outputs) → LeavesNow (λ c. IsLog c (log_after o events)) r.story
      → IsTranscribed (node_transcript o bytes) ending before r
  ended_so ending is output log = exactly ending (ap (limited o) is ∙ limited_whole o (record { events = events; ending = ending }) fits) output log

  limited_so : (what : What) (at : ℕ) → IsLimited o bytes events what at → r.output ≡ Some (before ++ written_of (node_run o events).outputs) → LeavesNow (λ c. IsLog c (log_after o events)) r.story
      → IsTranscribed (node_transcript o bytes) (At_limit what at) before r
  limited_so what at (inl is) output log = ended_so (At_limit what at) is output log
  limited_so what at (inr x) output log =
      let g = x.0 in
      let are : (input_of bytes).events ≡ events ++ g ∷ x.1.more = x.1.are ∙ append_assoc events (g ∷ []) x.1.more in
      let input : input_of bytes ≡ record { events = events ++ g ∷ x.1.more; ending = (input_of bytes).ending } = ap (λ (l : List Given). record { events = l; ending = (input_of bytes).ending }) are in
      let last : limited o (input_of bytes) ≡ transcript_of o events (At_limit What.Log (suc (length events))) = ap (limited o) input ∙ limited_at o events g x.1.more (input_of bytes).ending fits x.2 in
      subst (λ (n : ℕ). IsTranscribed (node_transcript o bytes) (At_limit what n) before r) (sym x.4)
      (subst (λ (w : What). IsTranscribed (node_transcript o bytes) (At_limit w (suc (length events))) before r) (sym x.3) (exactly (At_limit What.Log (suc (length events))) last output log))

  pub partly : GoesOn bytes events → WritesPrefix before (written_of (node_run o events).outputs) r.output → WritesPrefix before (node_transcript o bytes).written r.output
  partly x w =
      let input : input_of bytes ≡ record { events = events ++ x.more; ending = (input_of bytes).ending } = ap (λ (l : List Given). record { events = l; ending = (input_of bytes).ending }) x.are in
      let first : IsPrefix (written_of (node_run o events).outputs) (limited o (input_of bytes)).written =
      subst (λ (i : Input). IsPrefix (written_of (node_run o events).outputs) (limited o i).written) (sym input) (limited_prefix o events x.more (input_of bytes).ending fits) in
      longer before (written_of (node_run o events).outputs) (node_transcript o bytes).written r.output
      (subst (λ (t : NodeTranscript). IsPrefix (written_of (node_run o events).outputs) t.written) (sym t_is) first) w

  pub transcribed : (next : List Given) (result : Result (Unit {0}) Stop) → HasRead o bytes events next r.unread result → HasWritten before (written_of (node_run o events).outputs) r.output result
      → ((u : Unit {0}) → LeavesNow (λ c. IsLog c (log_after o events)) r.story) ⊎ ((n : ℕ) × (result ≡ Err (Stop.DiskFault n))) → Transcribes (node_transcript o bytes) before r result
  transcribed next (Ok u) read wrote (inl log) = ended_so Done read.0 wrote (log tt)
  transcribed next (Ok u) read wrote (inr x) = absurd (let clash = x.1 in cc)
  transcribed next (Err (Stop.BadInput at why)) read wrote (inl log) = ended_so (Bad_input at why) read wrote (log tt)
  transcribed next (Err (Stop.BadInput at why)) read wrote (inr x) = absurd (let clash = x.1 in cc)
  transcribed next (Err (Stop.Limit what at)) read wrote (inl log) = limited_so what at read wrote (log tt)
  transcribed next (Err (Stop.Limit what at)) read wrote (inr x) = absurd (let clash = x.1 in cc)
  transcribed next (Err (Stop.Foreign at)) read wrote log = read
  transcribed next (Err (Stop.ReadFault n)) read wrote log = partly (cut_goes bytes events r.unread read) (whole_prefix before (written_of (node_run o events).outputs) r.output wrote)
  transcribed next (Err (Stop.WriteFault n)) read wrote log = partly read wrote
  transcribed next (Err (Stop.DiskFault n)) read wrote log = partly (goes_first bytes events next read) (whole_prefix before (written_of (node_run o events).outputs) r.output wrote)
  transcribed next (Err Stop.NoMemory) read wrote log = partly read wrote

-- ---- a site that had started

goes_with : (o : Opening) (bytes : List ℕ) (events next : List Given) (unread : Option (List ℕ)) (result : Result (Unit {0}) Stop) → HasRead o bytes events next unread result → (next ≡ []) ⊎ ((n : ℕ) × (result ≡ Err (Stop.DiskFault n))) → GoesOn bytes (events ++ next)
goes_with o bytes events next unread (Ok u) read (inl none) = subst (λ (l : List Given). GoesOn bytes (events ++ l)) (sym none) (subst (GoesOn bytes) (sym (append-nil events)) (input_goes bytes events Done read.0))
goes_with o bytes events next unread (Ok u) read (inr x) = absurd (let clash = x.1 in cc)
goes_with o bytes events next unread (Err (Stop.BadInput at why)) read (inl none) = subst (λ (l : List Given). GoesOn bytes (events ++ l)) (sym none) (subst (GoesOn bytes) (sym (append-nil events)) (input_goes bytes events (Bad_input at why) read))
goes_with o bytes events next unread (Err (Stop.BadInput at why)) read (inr x) = absurd (let clash = x.1 in cc)
goes_with o bytes events next unread (Err (Stop.Limit what at)) (inl is) (inl none) = subst (λ (l : List Given). GoesOn bytes (events ++ l)) (sym none) (subst (GoesOn bytes) (sym (append-nil events)) (input_goes bytes events (At_limit what at) is))
goes_with o bytes events next unread (Err (Stop.Limit what at)) (inr y) (inl none) = subst (λ (l : List Given). GoesOn bytes (events ++ l)) (sym none) (subst (GoesOn bytes) (sym (append-nil events)) (goes_first bytes events (y.0 ∷ []) y.1))
goes_with o bytes events next unread (Err (Stop.Limit what at)) read (inr x) = absurd (let clash = x.1 in cc)
goes_with o bytes events next unread (Err (Stop.Foreign at)) read x = absurd read
goes_with o bytes events next unread (Err (Stop.ReadFault n)) read (inl none) = subst (λ (l : List Given). GoesOn bytes (events ++ l)) (sym none) (subst (GoesOn bytes) (sym (append-nil events)) (cut_goes bytes events unread read))
goes_with o bytes events next unread (Err (Stop.ReadFault n)) read (inr x) = absurd (let clash = x.1 in cc)
goes_with o bytes events next unread (Err (Stop.WriteFault n)) read (inl none) = subst (λ (l : List Given). GoesOn bytes (events ++ l)) (sym none) (subst (GoesOn bytes) (sym (append-nil events)) read)
goes_with o bytes events next unread (Err (Stop.WriteFault n)) read (inr x) = absurd (let clash = x.1 in cc)
goes_with o bytes events next unread (Err (Stop.DiskFault n)) read x = read
goes_with o bytes events next unread (Err Stop.NoMemory) read (inl none) = subst (λ (l : List Given). GoesOn bytes (events ++ l)) (sym none) (subst (GoesOn bytes) (sym (append-nil events)) read)
goes_with o bytes events next unread (Err Stop.NoMemory) read (inr x) = absurd (let clash = x.1 in cc)

-- what is so of it at the end
pub record Ended (o : Opening) (events next : List Given) (begun story : Option Story) (result : Result (Unit {0}) Stop) : Type 0 where
  pub fits : is_past_limit o events ≡ false
  pub texts : AllByRecursion (HasText (is_wide o.version)) (log_after o events)
  pub log : ((u : Unit {0}) → LeavesNow (λ c. IsLog c (log_after o events)) story) ⊎ ((n : ℕ) × (result ≡ Err (Stop.DiskFault n)))
  pub none : (next ≡ []) ⊎ ((n : ℕ) × (result ≡ Err (Stop.DiskFault n)))
  pub moments : LeavesOnly (IsNodeImage o (events ++ next) 0) begun story
  pub last : LeavesNow (IsNodeImage o (events ++ next) (length events)) story

module _ {K : Type 0} (standing : K → Standing) (o : Opening) (events next : List Given) (begun : Option Story) (faults : ℕ) (s : Site K) where
  image_of_all : (c : List ℕ) → IsLog c (log_after o events) → IsNodeImage o events (length events) c
  image_of_all c x = inl (length events, omega arith, omega arith, subst (λ (l : List Given). IsLog c (log_after o l)) (sym (taken_all events)) x)

  from_settled : (result : Result (Unit {0}) Stop) → IsSettled standing o events begun s × (next ≡ []) → Ended o events next begun (story_on (standing s.keeper).lasting) result
  from_settled result x =
      let story = story_on (standing s.keeper).lasting in
      let same : events ≡ events ++ next = sym (append-nil events) ∙ ap (λ (l : List Given). events ++ l) (sym x.1) in
      record {
        fits = x.0.room;
        texts = x.0.texts;
        log = inl (λ u. x.0.rests.last);
        none = inl x.1;
        moments = subst (λ (l : List Given). LeavesOnly (IsNodeImage o l 0) begun story) same x.0.rests.moments;
        last = subst (λ (l : List Given). LeavesNow (IsNodeImage o l (length events)) story) same (now_weaker (λ c. IsLog c (log_after o events)) (IsNodeImage o events (length events)) story image_of_all x.0.rests.last);
      }

  pub ended_of : (result : Result (Unit {0}) Stop) → SiteLeft standing o events next begun faults s result → Ended o events next begun (story_on (standing s.keeper).lasting) result
  ended_of (Ok u) x = from_settled (Ok u) x
  ended_of (Err (Stop.BadInput at why)) x = from_settled (Err (Stop.BadInput at why)) x
  ended_of (Err (Stop.Limit what at)) x = from_settled (Err (Stop.Limit what at)) x
  ended_of (Err (Stop.Foreign at)) x = absurd x
  ended_of (Err (Stop.ReadFault n)) x = from_settled (Err (Stop.ReadFault n)) x
  ended_of (Err (Stop.WriteFault n)) x = from_settled (Err (Stop.WriteFault n)) x
  ended_of (Err (Stop.DiskFault n)) x = record {
    fits = x.room;
    texts = x.texts;
    log = inr (n, refl);
    none = inr (n, refl);
    moments = x.moments;
    last = x.last;
  }
  ended_of (Err Stop.NoMemory) x = from_settled (Err Stop.NoMemory) x

module _ {K : Type 0} (standing : K → Standing) (name : List ℕ) (r : Ran) (faults : ℕ) (version : LogVersion) (listed : List Placed) (opens : opened (seen r.told) ≡ Has version listed) (s : Site K) (story_is : r.story ≡ story_on (standing s.keeper).lasting) where
  abbrev began : Opening
  began = opening name version listed

  module _ (result : Result (Unit {0}) Stop) (e : EndsServing standing began (Some (Synced r.told)) faults r.left r.unread r.written r.output result s) where
    ended : Ended began e.events e.next (Some (Synced r.told)) r.story result
    ended = subst (λ (t : Option Story). Ended began e.events e.next (Some (Synced r.told)) t result) (sym story_is) (ended_of standing began e.events e.next (Some (Synced r.told)) faults s result e.site)

    runs_on : RunsOn name r result
    runs_on = record {
      version = version;
      listed = listed;
      opens = opens;
      events = e.events;
      next = e.next;
      read = λ bytes is. goes_with began bytes e.events e.next r.unread result (e.read bytes is) ended.none;
      all = λ bytes is res. (subst (HasRead began bytes e.events e.next r.unread) res (e.read bytes is)).1;
      cut = λ bytes n is res. subst (HasRead began bytes e.events e.next r.unread) res (e.read bytes is);
      wrote = λ before is. wrote_prefix before (written_of (node_run began e.events).outputs) r.output result (e.wrote before is);
      transcribes = λ bytes before is was. transcribed began e.events r ended.fits ended.texts bytes before e.next result (e.read bytes is) (e.wrote before was) ended.log;
      moments = ended.moments;
      last = ended.last;
    }

  pub served : (result : Result (Unit {0}) Stop) → EndsServing standing began (Some (Synced r.told)) faults r.left r.unread r.written r.output result s → Serves name r result
  served (Ok u) e = runs_on (Ok u) e
  served (Err (Stop.BadInput at why)) e = runs_on (Err (Stop.BadInput at why)) e
  served (Err (Stop.Limit what at)) e = runs_on (Err (Stop.Limit what at)) e
  served (Err (Stop.Foreign at)) e = absurd e.site
  served (Err (Stop.ReadFault n)) e = runs_on (Err (Stop.ReadFault n)) e
  served (Err (Stop.WriteFault n)) e = runs_on (Err (Stop.WriteFault n)) e
  served (Err (Stop.DiskFault n)) e = inr (runs_on (Err (Stop.DiskFault n)) e)
  served (Err Stop.NoMemory) e = inr (runs_on (Err Stop.NoMemory) e)

-- ---- no site

module _ (name : List ℕ) (r : Ran) (idle : IsUntouched r) where
  module _ (what : What) (at : ℕ) (x : IsLimitedBefore name r.told r.story what at) where
    abbrev kept : Opening
    kept = opening name x.version x.listed

    now : LeavesNow (λ c. IsLog c kept.records) r.story
    now = leaves_now (λ c. IsLog c kept.records) (Some (Synced r.told)) r.story x.moments

    nothing : (bytes before : List ℕ) (w : What) → at ≡ 0 → what ≡ w → node_transcript kept bytes ≡ nothing_written kept w → r.written ≡ Some before → IsTranscribed (node_transcript kept bytes) (At_limit what at) before r
    nothing bytes before w zero is t was =
        subst (λ (y : NodeTranscript). IsTranscribed y (At_limit what at) before r) (sym t)
        (subst (λ (n : ℕ). IsTranscribed (nothing_written kept w) (At_limit what n) before r) (sym zero)
        (subst (λ (v : What). IsTranscribed (nothing_written kept w) (At_limit v 0) before r) (sym is)
        (record { ends = refl; output = idle.sink ∙ was ∙ ap (λ (l : List ℕ). Some l) (sym (append-nil before)); log = now })))

    transcribed_before : (bytes before : List ℕ) → r.written ≡ Some before → IsSpent kept what at → IsTranscribed (node_transcript kept bytes) (At_limit what at) before r
    transcribed_before bytes before was (inl y) = nothing bytes before What.Boots y.0 y.1.0 (transcript_by kept bytes true (is_past_limit kept []) (spent_so (boot_of kept) y.1.1) refl) was
    transcribed_before bytes before was (inr y) = nothing bytes before What.Log y.0 y.1.0 (transcript_by kept bytes false true (not_spent kept y.1.1) y.1.2) was

    limited_before : RunsOn name r (Err (Stop.Limit what at))
    limited_before = record {
      version = x.version;
      listed = x.listed;
      opens = x.opens;
      events = [];
      next = [];
      read = λ bytes is. record { more = (input_of bytes).events; are = refl };
      all = λ bytes is res. absurd (let clash = res in cc);
      cut = λ bytes n is res. absurd (let clash = res in cc);
      wrote = λ before is. none_prefix before [] r.output (idle.sink ∙ is);
      transcribes = λ bytes before is was. transcribed_before bytes before was x.spent;
      moments = only_weaker (λ c. IsLog c kept.records) (IsNodeImage kept [] 0) (Some (Synced r.told)) r.story (λ c y. inr (refl, y)) x.moments;
      last = now_weaker (λ c. IsLog c kept.records) (IsNodeImage kept [] 0) r.story (λ c y. inr (refl, y)) now;
    }

  failed_before : (n : ℕ) → FailsBefore name r.told r.story → RunsOn name r (Err (Stop.DiskFault n))
  failed_before n x = record {
    version = x.version;
    listed = x.listed;
    opens = x.opens;
    events = [];
    next = [];
    read = λ bytes is. record { more = (input_of bytes).events; are = refl };
    all = λ bytes is res. absurd (let clash = res in cc);
    cut = λ bytes m is res. absurd (let clash = res in cc);
    wrote = λ before is. none_prefix before [] r.output (idle.sink ∙ is);
    transcribes = λ bytes before is was. none_prefix before (node_transcript (opening name x.version x.listed) bytes).written r.output (idle.sink ∙ was);
    moments = x.moments;
    last = leaves_now (IsNodeImage (opening name x.version x.listed) [] 0) (Some (Synced r.told)) r.story x.moments;
  }

  pub not_served : (stop : Stop) → NotStarted name r.told r.story stop → Serves name r (Err stop)
  not_served (Stop.BadInput at why) x = absurd x
  not_served (Stop.Limit what at) x = limited_before what at x
  not_served (Stop.Foreign at) x = (x.0, x.1, idle)
  not_served (Stop.ReadFault n) x = absurd x
  not_served (Stop.WriteFault n) x = absurd x
  not_served (Stop.DiskFault n) x = elim x [ inl y ↦ inl (y, idle) | inr y ↦ inr (failed_before n y) ]
  not_served Stop.NoMemory x = inl (x, idle)

-- ---- causes

pub start_stop : (disk left source sink : ℕ) (stop : Stop) → IsStartStop disk left stop → IsServeStop disk left source source sink sink stop
start_stop disk left source sink (Stop.BadInput at why) x = absurd x
start_stop disk left source sink (Stop.Limit what at) x = inr x
start_stop disk left source sink (Stop.Foreign at) x = tt
start_stop disk left source sink (Stop.ReadFault n) x = absurd x
start_stop disk left source sink (Stop.WriteFault n) x = absurd x
start_stop disk left source sink (Stop.DiskFault n) x = x
start_stop disk left source sink Stop.NoMemory x = tt

pub served_stop : {K : Type 0} (standing : K → Standing) (o : Opening) (events next : List Given) (begun : Option Story) (s : Site K) (disk left source read sink wrote : ℕ) (result : Result (Unit {0}) Stop)
    → IfErr result (IsEventsStop source read sink wrote) → SiteLeft standing o events next begun disk s result → (standing s.keeper).faults ≡ left → IfErr result (IsServeStop disk left source read sink wrote)
served_stop standing o events next begun s disk left source read sink wrote (Ok u) x site same = tt
served_stop standing o events next begun s disk left source read sink wrote (Err (Stop.BadInput at why)) x site same = x
served_stop standing o events next begun s disk left source read sink wrote (Err (Stop.Limit what at)) x site same = inl x
served_stop standing o events next begun s disk left source read sink wrote (Err (Stop.Foreign at)) x site same = absurd x
served_stop standing o events next begun s disk left source read sink wrote (Err (Stop.ReadFault n)) x site same = x
served_stop standing o events next begun s disk left source read sink wrote (Err (Stop.WriteFault n)) x site same = x
served_stop standing o events next begun s disk left source read sink wrote (Err (Stop.DiskFault n)) x site same = subst (IsFaultOf n disk) same site.fault
served_stop standing o events next begun s disk left source read sink wrote (Err Stop.NoMemory) x site same = tt

pub never_foreign : (result : Result (Unit {0}) Stop) (source read sink wrote at : ℕ) → IfErr result (IsEventsStop source read sink wrote) → result ≡ Err (Stop.Foreign at) → ⊥
never_foreign result source read sink wrote at x is = subst (λ (r : Result (Unit {0}) Stop). IfErr r (IsEventsStop source read sink wrote)) is x

pub never_before : (result : Result (Unit {0}) Stop) (source read sink wrote : ℕ) (what : What) → IfErr result (IsEventsStop source read sink wrote) → result ≡ Err (Stop.Limit what 0) → ⊥
never_before result source read sink wrote what x is = let far : 0 < 0 = subst (λ (r : Result (Unit {0}) Stop). IfErr r (IsEventsStop source read sink wrote)) is x in omega arith
