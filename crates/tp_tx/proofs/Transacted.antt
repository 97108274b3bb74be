-- A run, from the start of the site to the end.
use Rattle.std.proofs.Common.{◌≡◌, ◌⊎◌, ◌==◌, inl, inr, ℕ, suc, Bool, true, false, refl, ap, sym, subst, ◌∙◌, append_assoc, Option, Some, None, List, [], ◌++◌, Result, Ok, Err}
use Rattle.std.specs.Prelude.{option_map}
use Rattle.std.specs.List.{AllByRecursion}
use Rattle.std.proofs.lemmas.List.{append-nil}
use Rattle.tp_outside.specs.Story.{Story, Synced, seen}
use Rattle.tp_outside.specs.FuseDisk.{Fused}
use Rattle.tp_records.specs.declared.body.Event.{Event as Given}
use Rattle.tp_logrec.specs.declared.record.LogRec.{LogRec}
use Rattle.tp_logrec.specs.declared.record.LogVersion.{LogVersion}
use Rattle.tp_logrec.specs.LogText.{Placed, IsLog}
use Rattle.tp_framing.specs.Frames.{stream}
use Rattle.tp_model.specs.declared.verdict.What.{What}
use Rattle.tp_model.specs.Links.{greatest}
use Rattle.tp_model.specs.Events.{started}
use Rattle.tp_model.specs.Transcript.{Ending, Done, Bad_input, At_limit}
use Rattle.tp_model.specs.LogCommands.{Has, opened}
use Rattle.tp_model.specs.NodeRun.{Opening, boot_of, run_from, log_after}
use Rattle.tp_model.specs.NodeTranscript.{is_past_limit}
use Rattle.tp_journal.specs.Keeping.{Standing}
use Rattle.tp_journal.specs.Records.{HasText}
use Rattle.tp_journal.specs.Journals.{Kept}
use Rattle.tp_journal.specs.Gathering.{Gathered, gathered_standing}
use Rattle.tp_journal.specs.Settling.{story_on}
use Rattle.tp_journal.specs.Told.{LeavesOnly, LeavesNow}
use Rattle.tp_streams.specs.declared.stop.Stop.{Stop}
use Rattle.tp_streams.specs.Written.{WritesPrefix}
use Rattle.tp_log_tools.specs.Readings.{IsFile}
use Rattle.tp_site.specs.declared.faults.SiteFault.{SiteFault}
use Rattle.tp_site.specs.Site.{Site, known_at}
use Rattle.tp_site.specs.Events.{StepsTo, all_nodes}
use Rattle.tp_serve.specs.Images.{IsNodeImage}
use Rattle.tp_serve.specs.Progress.{is_wide, journal_of, IsServing}
use Rattle.tp_serve.specs.Starting.{opening, HasStarted, FailsBefore, NotStarted}
use Rattle.tp_serve.specs.Serving.{Ran, IsUntouched, HasWritten, IsTranscribed, Transcribes}
use Rattle.tp_serve.proofs.Ahead.{begins, serves_ahead, is_settled}
use Rattle.tp_serve.proofs.Fitting.{fewer_fit}
use Rattle.tp_serve.proofs.Starts.{boot_small}
use Rattle.tp_serve.proofs.Whole.{boot_text, not_spent, Ended, ended_of}
use Rattle.tx_face.specs.Face.{Face, undeclared, Goes}
use Rattle.tp_tx.specs.Transcript.{TxTranscript, nothing_written, tx_transcript, first_events, after_bytes}
use Rattle.tp_tx.specs.Progress.{IsRunning, turns_of}
use Rattle.tp_tx.specs.Running.{IsWhole, HasRead, EndsRunning}
use Rattle.tp_tx.specs.Transacting.{told_by, RunsOn, HasMade, NotMade, Transacts}
use Rattle.tp_tx.proofs.Responding.{happened}

-- ---- the transcript of a site that has started

tx_by : (o : Opening) (input : List ℕ) (spent over : Bool) → (boot_of o == suc greatest) ≡ spent → is_past_limit o [] ≡ over
    → tx_transcript o input ≡ (elim spent as (λ _. TxTranscript) [ true ↦ nothing_written o What.Boots | false ↦ elim over as (λ _. TxTranscript) [ true ↦ nothing_written o What.Log | false ↦ turns_of o input ] ])
tx_by o input spent over is full =
    ap (λ (b : Bool). elim b as (λ _. TxTranscript) [ true ↦ nothing_written o What.Boots | false ↦ elim (is_past_limit o []) as (λ _. TxTranscript) [ true ↦ nothing_written o What.Log | false ↦ turns_of o input ] ]) is
    ∙ ap (λ (b : Bool). elim spent as (λ _. TxTranscript) [ true ↦ nothing_written o What.Boots | false ↦ elim b as (λ _. TxTranscript) [ true ↦ nothing_written o What.Log | false ↦ turns_of o input ] ]) full

starts_as : (o : Opening) (gs : List Given) (input : List ℕ) → AllByRecursion (HasText (is_wide o.version)) (log_after o gs) → is_past_limit o gs ≡ false → tx_transcript o input ≡ turns_of o input
starts_as o gs input texts room =
    let text : HasText (is_wide o.version) (LogRec.Boot (boot_of o)) = boot_text (is_wide o.version) o.records (run_from o [] gs).log (LogRec.Boot (boot_of o)) texts in
    tx_by o input false false (not_spent o (boot_small (is_wide o.version) (boot_of o) text)) (fewer_fit o [] gs room)

longer : (before xs ys : List ℕ) (new : Option (List ℕ)) → WritesPrefix before xs new → WritesPrefix before (xs ++ ys) new
longer before xs ys new w = (w.0, (w.1.0 ++ ys, ap (λ (l : List ℕ). l ++ ys) w.1.1 ∙ append_assoc w.0 w.1.0 ys), w.2)

all_of : (before bytes : List ℕ) (new : Option (List ℕ)) → new ≡ Some (before ++ bytes) → WritesPrefix before bytes new
all_of before bytes new is = (bytes, ([], sym (append-nil bytes)), is)

module _ (o : Opening) (events : List Given) (bytes : List ℕ) (r : Ran) (fits : is_past_limit o events ≡ false) (texts : AllByRecursion (HasText (is_wide o.version)) (log_after o events)) (input before : List ℕ) where
  t_is : tx_transcript o input ≡ turns_of o input
  t_is = starts_as o events input texts fits

  exactly : (e : Ending) → IsWhole o input events bytes e → r.output ≡ Some (before ++ bytes) → LeavesNow (λ c. IsLog c (log_after o events)) r.story → IsTranscribed (told_by (tx_transcript o input)) e before r
  exactly e is output log =
      subst (λ (t : TxTranscript). IsTranscribed (told_by t) e before r) (sym (t_is ∙ is))
      (record { ends = refl; output = output ∙ ap (λ (l : List ℕ). Some (before ++ l)) (sym (append-nil bytes)); log = log })

  partly : (t : TxTranscript) → turns_of o input ≡ after_bytes bytes t → WritesPrefix before bytes r.output → WritesPrefix before (told_by (tx_transcript o input)).written r.output
  partly t is w = subst (λ (x : TxTranscript). WritesPrefix before x.written r.output) (sym (t_is ∙ is)) (longer before bytes t.written r.output w)

  transcribed : (next : List Given) (result : Result (Unit {0}) Stop) → HasRead o input events next bytes r.unread result → HasWritten before bytes r.output result
      → ((u : Unit {0}) → LeavesNow (λ c. IsLog c (log_after o events)) r.story) ⊎ ((n : ℕ) × (result ≡ Err (Stop.DiskFault n))) → Transcribes (told_by (tx_transcript o input)) before r result
  transcribed next (Ok u) read wrote (inl log) = exactly Done read wrote (log tt)
  transcribed next (Ok u) read wrote (inr x) = absurd (let clash = x.1 in cc)
  transcribed next (Err (Stop.BadInput at why)) read wrote (inl log) = exactly (Bad_input at why) read wrote (log tt)
  transcribed next (Err (Stop.BadInput at why)) read wrote (inr x) = absurd (let clash = x.1 in cc)
  transcribed next (Err (Stop.Limit what at)) read wrote (inl log) = exactly (At_limit what at) read wrote (log tt)
  transcribed next (Err (Stop.Limit what at)) read wrote (inr x) = absurd (let clash = x.1 in cc)
  transcribed next (Err (Stop.Foreign at)) read wrote log = absurd read
  transcribed next (Err (Stop.ReadFault n)) read wrote log = partly _ read.are (all_of before bytes r.output wrote)
  transcribed next (Err (Stop.WriteFault n)) read wrote log = partly _ read.are wrote
  transcribed next (Err (Stop.DiskFault n)) read wrote log = partly _ read.first.are (all_of before bytes r.output wrote)
  transcribed next (Err Stop.NoMemory) read wrote log = partly _ read.are wrote

-- ---- the face is made

module _ {K : Type 0} (standing : K → Standing) (o : Opening) (begun : Option Story) (faults : ℕ) (site : Site K) (serving : IsServing standing o [] begun faults site) where
  before_it : IsRunning standing o [] begun faults (undeclared site 1)
  before_it = record { face = record { site = serving.at; since = []; history = refl; code = refl }; node = refl; serving = serving }

  pub made : (f : Face K) → Goes standing o [] [] (undeclared site 1) (Given.Declare 1 None) (Ok []) f → IsRunning standing o first_events begun faults f
  made f x = happened standing o [] begun faults (undeclared site 1) before_it (Given.Declare 1 None) f [] x

  -- no event came before
  pub undeclared_yet : (known_at site 1).declared ≡ false
  unfolding started
  undeclared_yet = ap (λ d. d.declared) (serving.at.known 1 refl)

  -- without memory the log stays as it was
  pub unmade : (new : Site K) (fault : SiteFault) → fault ≡ SiteFault.NoMemory → StepsTo standing all_nodes o [] site (Given.Declare 1 None) (Err fault) new → LeavesOnly (IsNodeImage o [] 0) begun (standing new.keeper).story
  unmade new fault starved steps =
      let quiet : StepsTo standing all_nodes o [] site (Given.Declare 1 None) (Err SiteFault.NoMemory) new = subst (λ (f : SiteFault). StepsTo standing all_nodes o [] site (Given.Declare 1 None) (Err f) new) starved steps in
      subst (LeavesOnly (IsNodeImage o [] 0) begun) (sym (ap (λ (s : Standing). s.story) quiet.1)) serving.log.moments

-- ---- the whole

module _ {K : Type 0} (standing : K → Standing) (name : List ℕ) (r : Ran) (faults : ℕ) (version : LogVersion) (listed : List Placed) (opens : opened (seen r.told) ≡ Has version listed) (f : Face K) (story_is : r.story ≡ story_on (standing f.site.keeper).lasting) where
  abbrev began : Opening
  began = opening name version listed

  module _ (result : Result (Unit {0}) Stop) (e : EndsRunning standing began (Some (Synced r.told)) faults r.left r.unread r.written r.output result f) where
    ended : Ended began e.events e.next (Some (Synced r.told)) r.story result
    ended = subst (λ (t : Option Story). Ended began e.events e.next (Some (Synced r.told)) t result) (sym story_is) (ended_of standing began e.events e.next (Some (Synced r.told)) faults f.site result e.site)

    runs_on : RunsOn name r result
    runs_on = record {
      version = version;
      listed = listed;
      opens = opens;
      events = e.events;
      next = e.next;
      bytes = e.bytes;
      read = e.read;
      wrote = e.wrote;
      transcribes = λ input before is was. transcribed began e.events e.bytes r ended.fits ended.texts input before e.next result (e.read input is) (e.wrote before was) ended.log;
      moments = ended.moments;
      last = ended.last;
    }

  pub ran : (result : Result (Unit {0}) Stop) → EndsRunning standing began (Some (Synced r.told)) faults r.left r.unread r.written r.output result f → Transacts name r result
  ran (Ok u) e = runs_on (Ok u) e
  ran (Err (Stop.BadInput at why)) e = runs_on (Err (Stop.BadInput at why)) e
  ran (Err (Stop.Limit what at)) e = inr (runs_on (Err (Stop.Limit what at)) e)
  ran (Err (Stop.Foreign at)) e = absurd e.site
  ran (Err (Stop.ReadFault n)) e = runs_on (Err (Stop.ReadFault n)) e
  ran (Err (Stop.WriteFault n)) e = runs_on (Err (Stop.WriteFault n)) e
  ran (Err (Stop.DiskFault n)) e = inr (inr (runs_on (Err (Stop.DiskFault n)) e))
  ran (Err Stop.NoMemory) e = inr (inr (runs_on (Err Stop.NoMemory) e))

-- ---- a face over a journal, whose records are noted from now on

abbrev pub begins_face : {D : Type 0} → Face (Kept D) → Face (Gathered D)
begins_face f = record { site = begins f.site; node = f.node; code = f.code }

module _ {D : Type 0} (count : D → ℕ) (told : D → Option Story) (fuse : D → Option Fused) (o : Opening) (begun : Option Story) (faults : ℕ) (f : Face (Kept D)) (running : IsRunning (journal_of count told fuse) o first_events begun faults f) where
  pub runs_ahead : IsRunning (gathered_standing count told) o first_events None faults (begins_face f)
  runs_ahead =
      let serving = serves_ahead count told fuse o first_events begun faults f.site running.serving in
      record {
        face = record { site = serving.at; since = running.face.since; history = running.face.history; code = running.face.code };
        node = running.node;
        serving = serving;
      }

  -- there is no memory to go on
  pub none_run : (left written : Option (List ℕ)) → EndsRunning (gathered_standing count told) o begun faults left left written written (Err Stop.NoMemory) (begins_face f)
  none_run left written = record {
    events = first_events;
    next = [];
    bytes = [];
    site = (is_settled count told fuse o first_events begun faults f.site running.serving, refl);
    read = λ input is. record { number = 0; declares = 0; more = stream input; are = refl };
    wrote = λ before is. ([], ([], refl), is ∙ ap (λ (l : List ℕ). Some l) (sym (append-nil before)));
  }

-- there is no site
pub not_started : (name : List ℕ) (r : Ran) → IsUntouched r → (stop : Stop) → NotStarted name r.told r.story stop → Transacts name r (Err stop)
not_started name r idle (Stop.BadInput at why) x = absurd x
not_started name r idle (Stop.Limit what at) x = inl (x, idle)
not_started name r idle (Stop.Foreign at) x = (x.0, x.1, idle)
not_started name r idle (Stop.ReadFault n) x = absurd x
not_started name r idle (Stop.WriteFault n) x = absurd x
not_started name r idle (Stop.DiskFault n) x = elim x [ inl y ↦ inl (y, idle) | inr y ↦ inr (inl (y, idle)) ]
not_started name r idle Stop.NoMemory x = inl (x, idle)

pub not_made : (name : List ℕ) (r : Ran) → IsUntouched r → (stop : Stop) → NotMade name r.told r.story stop → Transacts name r (Err stop)
not_made name r idle stop (inl x) = not_started name r idle stop x
not_made name r idle stop (inr x) = subst (λ (s : Stop). Transacts name r (Err s)) (sym x.0) (inr (inl (x.1, idle)))

-- a site that had started, and its face
pub has_made : {K : Type 0} (standing : K → Standing) (name : List ℕ) (told : Option Story) (faults : ℕ) (s : Site K) (f : Face K) → HasStarted standing name told faults s
    → ((o : Opening) (begun : Option Story) (faults : ℕ) → IsServing standing o [] begun faults s → IsRunning standing o first_events begun faults f) → HasMade standing name told faults f
has_made standing name told faults s f h makes = record { version = h.version; listed = h.listed; running = makes (opening name h.version h.listed) (option_map Synced told) faults h.serving; opens = h.opens }

-- and no face, since there is no memory
pub has_failed : {K : Type 0} (standing : K → Standing) (name : List ℕ) (told new : Option Story) (faults : ℕ) (s : Site K) (story : Story) → HasStarted standing name told faults s → told ≡ Some story → IsFile (seen story)
    → ((o : Opening) (begun : Option Story) (faults : ℕ) → IsServing standing o [] begun faults s → LeavesOnly (IsNodeImage o [] 0) begun new) → FailsBefore name story new
has_failed standing name told new faults s story h is file leaves = record {
  version = h.version;
  listed = h.listed;
  opens = h.opens story is file;
  moments = subst (λ (t : Option Story). LeavesOnly (IsNodeImage (opening name h.version h.listed) [] 0) (option_map Synced t) new) is (leaves (opening name h.version h.listed) (option_map Synced told) faults h.serving);
}
