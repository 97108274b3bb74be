-- A site that runs ahead of its log: all that is noted is forced at once, and then the answers that wait are written.
use Rattle.std.proofs.Common.{◌≡◌, ◌⊎◌, inl, inr, ◌+◌, ◌≤◌, ℕ, Bool, true, false, Option, Some, None, Result, Ok, Err, List, [], ◌∷◌, ◌++◌, length, map, take, refl, sym, ap, subst, ◌∙◌, arith}
use Rattle.std.specs.List.{AllByRecursion}
use Rattle.std.specs.Prelude.{OnOk, IfErr}
use Rattle.std.proofs.lemmas.List.{length-map, take-append-le, take_all}
use Rattle.tp_outside.specs.Faults.{HasRisen}
use Rattle.tp_outside.specs.Story.{Story}
use Rattle.tp_outside.specs.FuseDisk.{Fused}
use Rattle.tp_records.specs.declared.body.Event.{Event as Given}
use Rattle.tp_logrec.specs.declared.record.LogRec.{LogRec}
use Rattle.tp_logrec.specs.LogText.{IsLog}
use Rattle.tp_model.specs.NodeRun.{Opening, log_after}
use Rattle.tp_model.specs.NodeTranscript.{is_past_limit}
use Rattle.tp_journal.specs.declared.faults.ForceFault.{ForceFault}
use Rattle.tp_journal.specs.declared.faults.ForceFault.TheVariants as force
use Rattle.tp_journal.specs.declared.receipts.Receipt.{Receipt}
use Rattle.tp_journal.specs.Keeping.{Standing, Lasting, bodies_kept}
use Rattle.tp_journal.specs.Log.{StandsFor, StandsForEither}
use Rattle.tp_journal.specs.Records.{HasText, bodies_of, placed, first_place}
use Rattle.tp_journal.specs.Journals.{Kept}
use Rattle.tp_journal.specs.Gathering.{Gathered, gathered_standing}
use Rattle.tp_journal.specs.Settling.{KeepsAll, HasAll, SettlesTo, story_on, count_on, bodies_on}
use Rattle.tp_journal.specs.Told.{LeavesOnly, LeavesNow}
use Rattle.tp_journal.proofs.AsLogs.{is_log}
use Rattle.tp_journal.proofs.RecordBodies.{receipts_long}
use Rattle.tp_streams.specs.declared.stop.Stop.{Stop}
use Rattle.tp_streams.specs.Stops.{IsFaultOf}
use Rattle.tp_site.specs.Nodes.{Nodes, digest_at}
use Rattle.tp_site.specs.Site.{Site}
use Rattle.tp_site.specs.Events.{IsAt, all_nodes, kept_records}
use Rattle.tp_serve.specs.Images.{IsNodeImage}
use Rattle.tp_serve.specs.Progress.{is_wide, journal_of, Holds, IsServing, RestsOn, IsAhead, IsSettled, HasFailed, IsShutAt, SettlesAll, IsSettleStop}
use Rattle.tp_serve.specs.Writing.{Writes, WritesSettled, unsettled_by}
use Rattle.tp_serve.proofs.Fitting.{fewer_fit}
use Rattle.tp_serve.proofs.Runs.{log_appended, log_beyond}
use Rattle.tp_serve.proofs.Holding.{wide_so, leaves_now, now_weaker, only_weaker, goes_on}
use Rattle.tp_serve.proofs.Served.{were, without_them, with_them, any_of_them}

-- ---- the first of a list

texts_front : (wide : Bool) (rs qs : List LogRec) → AllByRecursion (HasText wide) (rs ++ qs) → AllByRecursion (HasText wide) rs
texts_front wide [] qs texts = tt
texts_front wide (r ∷ rs) qs texts = (texts.0, texts_front wide rs qs texts.1)

first_of : (rs qs : List LogRec) → take (length rs) (rs ++ qs) ≡ rs
first_of rs qs = take-append-le (length rs) rs qs (omega arith) ∙ take_all (length rs) rs (omega arith)

-- ---- how far a site is ahead

module _ {K : Type 0} (standing : K → Standing) (o : Opening) (gs all : List Given) (begun : Option Story) (faults : ℕ) (s : Site K) where
  -- it serves all, and the first are on the disk
  pub is_ahead : (ahead : List Given) → all ≡ gs ++ ahead → IsServing standing o all None faults s → RestsOn o gs begun (standing s.keeper).lasting → IsAhead standing o gs all begun faults s
  is_ahead ahead are serving rests = record {
    ahead = ahead;
    are = are;
    at = serving.at;
    rests = rests;
    texts = serving.log.texts;
    room = serving.room;
    counted = serving.log.counted;
    fault = λ n shut. absurd (let clash : None ≡ Some n = sym serving.log.unshut ∙ shut in cc);
  }

  -- or the keeper was shut in the event after them
  pub shut_ahead : (old : Site K) (count : ℕ) (ahead : List Given) → all ≡ gs ++ ahead → IsServing standing o all None faults old → RestsOn o gs begun (standing s.keeper).lasting → IsShutAt standing o all faults count s → IsAhead standing o gs all begun faults s
  shut_ahead old count ahead are serving rests x = record {
    ahead = ahead;
    are = are;
    at = x.at;
    rests = rests;
    texts = serving.log.texts;
    room = serving.room;
    counted = x.counted;
    fault = λ n shut. let same : count ≡ n = cc (x.shut, shut) in subst (λ (k : ℕ). IsFaultOf k faults (standing s.keeper).faults) same x.fault;
  }

-- ---- what is noted is forced

module _ {K : Type 0} (standing : K → Standing) (o : Opening) (gs all : List Given) (begun : Option Story) (faults : ℕ) (old new : Site K) (is : IsAhead standing o gs all begun faults old) where
  abbrev wide : Bool
  wide = is_wide o.version

  abbrev was : Standing
  was = standing old.keeper

  abbrev now : Standing
  now = standing new.keeper

  front : log_after o all ≡ log_after o gs ++ log_beyond o gs is.ahead
  front = ap (log_after o) is.are ∙ log_appended o gs is.ahead

  texts_first : AllByRecursion (HasText wide) (log_after o gs)
  texts_first = texts_front wide (log_after o gs) (log_beyond o gs is.ahead) (subst (AllByRecursion (HasText wide)) front is.texts)

  room_first : is_past_limit o gs ≡ false
  room_first = fewer_fit o gs is.ahead (ap (is_past_limit o) (sym is.are) ∙ is.room)

  wide_is : was.wide ≡ wide
  wide_is = wide_so was.wide o.version is.at.wide

  on_is : bodies_on was ≡ bodies_of wide (log_after o gs)
  on_is =
      ap (λ (w : Bool). bodies_of w (take (count_on was.lasting) (kept_records was))) wide_is
      ∙ ap (λ (n : ℕ). bodies_of wide (take n (kept_records was))) is.rests.count
      ∙ ap (λ (l : List LogRec). bodies_of wide (take (length (log_after o gs)) l)) (is.at.kept ∙ front)
      ∙ ap (bodies_of wide) (first_of (log_after o gs) (log_beyond o gs is.ahead))

  all_is : bodies_kept was ≡ bodies_of wide (log_after o all)
  all_is = ap (λ (w : Bool). bodies_of w (kept_records was)) wide_is ∙ ap (bodies_of wide) is.at.kept

  whole : (c : List ℕ) → StandsFor c (bodies_kept was) → IsLog c (log_after o all)
  whole c x = is_log c wide (log_after o all) is.texts (subst (StandsFor c) all_is x)

  either : (c : List ℕ) → StandsForEither (bodies_on was) (bodies_kept was) c → IsLog c (log_after o gs) ⊎ IsLog c (log_after o all)
  either c (inl x) = inl (is_log c wide (log_after o gs) texts_first (subst (StandsFor c) on_is x))
  either c (inr x) = inr (whole c x)

  -- the images that a run leaves
  were_so : (c : List ℕ) → IsNodeImage o gs 0 c → IsNodeImage o all 0 c
  were_so c x = subst (λ (l : List Given). IsNodeImage o l 0 c) (sym is.are) (were o gs is.ahead c x)

  first_so : (c : List ℕ) → IsLog c (log_after o gs) → IsNodeImage o all (length gs) c
  first_so c x = subst (λ (l : List Given). IsNodeImage o l (length gs) c) (sym is.are) (without_them o gs is.ahead c x)

  all_so : (c : List ℕ) → IsLog c (log_after o all) → IsNodeImage o all (length gs) c
  all_so c x = subst (λ (l : List Given). IsNodeImage o l (length gs) c) (sym is.are) (with_them o gs is.ahead c (subst (λ (l : List Given). IsLog c (log_after o l)) is.are x))

  allowed : (c : List ℕ) → StandsForEither (bodies_on was) (bodies_kept was) c → IsNodeImage o all (length gs) c
  allowed c x = elim (either c x) [ inl y ↦ first_so c y | inr y ↦ all_so c y ]

  moments_of : KeepsAll was now → LeavesOnly (IsNodeImage o all 0) begun (story_on now.lasting)
  moments_of keeps =
      goes_on (IsNodeImage o gs 0) (StandsForEither (bodies_on was) (bodies_kept was)) (IsNodeImage o all 0) begun (story_on was.lasting) (story_on now.lasting) were_so
      (λ c x. any_of_them o all (length gs) c (allowed c x)) is.rests.moments keeps.moments

  all_settled : HasAll was now → IsAt standing all_nodes o all new → IsSettled standing o all begun new
  all_settled has at = record {
    at = at;
    rests = record {
      count = has.all ∙ sym (length-map now.kept (λ (r : Receipt). r.rec)) ∙ ap length at.kept;
      moments = moments_of has.keeps;
      last = now_weaker (λ c. StandsFor c (bodies_kept was)) (λ c. IsLog c (log_after o all)) (story_on now.lasting) whole has.last;
    };
    texts = is.texts;
    room = is.room;
  }

  -- the disk failed, or had failed before
  not_settled : (n : ℕ) → KeepsAll was now × HasRisen was.faults now.faults × (now.shut ≡ Some n) × (n ≡ now.faults) → IsAt standing all_nodes o all new → HasFailed standing o gs all begun faults n new
  not_settled n x at = record {
    at = at;
    room = room_first;
    texts = texts_first;
    moments = moments_of x.0;
    last = now_weaker (StandsForEither (bodies_on was) (bodies_kept was)) (IsNodeImage o all (length gs)) (story_on now.lasting) allowed (leaves_now (StandsForEither (bodies_on was) (bodies_kept was)) (story_on was.lasting) (story_on now.lasting) x.0.moments);
    fault = record { risen = omega (arith, is.counted, x.1); told = x.3 };
  }

  was_shut : (n : ℕ) → (was.shut ≡ Some n) × (now ≡ was) → IsAt standing all_nodes o all new → HasFailed standing o gs all begun faults n new
  was_shut n x at =
      let same : was.lasting ≡ now.lasting = ap (λ (s : Standing). s.lasting) (sym x.1) in
      record {
        at = at;
        room = room_first;
        texts = texts_first;
        moments = subst (λ (l : Lasting). LeavesOnly (IsNodeImage o all 0) begun (story_on l)) same (only_weaker (IsNodeImage o gs 0) (IsNodeImage o all 0) begun (story_on was.lasting) were_so is.rests.moments);
        last = subst (λ (l : Lasting). LeavesNow (IsNodeImage o all (length gs)) (story_on l)) same (now_weaker (λ c. IsLog c (log_after o gs)) (IsNodeImage o all (length gs)) (story_on was.lasting) first_so is.rests.last);
        fault = subst (λ (s : Standing). IsFaultOf n faults s.faults) (sym x.1) (is.fault n x.0);
      }

  -- what waits is written
  module _ (waiting : List ℕ) (written output : Option (List ℕ)) (before after : ℕ) where
    wrote : (result : Result (Unit {0}) Stop) → IsSettled standing o all begun new → Writes result waiting written output before after → SettlesAll standing o gs all begun faults result new waiting written output
    wrote (Ok u) settled w = (settled, w.whole)
    wrote (Err (Stop.BadInput n why)) settled w = absurd w.fault
    wrote (Err (Stop.Limit what n)) settled w = absurd w.fault
    wrote (Err (Stop.Foreign n)) settled w = absurd w.fault
    wrote (Err (Stop.ReadFault n)) settled w = absurd w.fault
    wrote (Err (Stop.WriteFault n)) settled w = (settled, w.prefix)
    wrote (Err (Stop.DiskFault n)) settled w = absurd w.fault
    wrote (Err Stop.NoMemory) settled w = absurd w.fault

    abbrev Ends : Result (Unit {0}) Stop → Type 0
    Ends result = SettlesAll standing o gs all begun faults result new waiting written output

    pub settles_all : (r : Result (Unit {0}) ForceFault) (result : Result (Unit {0}) Stop) → SettlesTo was r now → IsAt standing all_nodes o all new → WritesSettled r result waiting written output before after → Ends result
    settles_all (Ok u) result settles at writes = wrote result (all_settled settles at) writes
    settles_all (Err (force.Full size)) result settles at writes = absurd settles
    settles_all (Err (force.DiskFault n)) result settles at writes = subst Ends (sym writes.0) (not_settled n settles at, writes.1)
    settles_all (Err (force.Shut n)) result settles at writes = subst Ends (sym writes.0) (was_shut n settles at, writes.1)
    settles_all (Err force.NoMemory) result settles at writes = absurd settles

-- the site goes on
pub serves_on : {K : Type 0} (standing : K → Standing) (o : Opening) (gs : List Given) (faults : ℕ) (old new : Site K) → IsServing standing o gs None faults old → HasAll (standing old.keeper) (standing new.keeper) → IsAt standing all_nodes o gs new → new.shut ≡ old.shut
    → IsServing standing o gs None faults new
serves_on standing o gs faults old new serving has at shut = record {
  at = at;
  is_open = shut ∙ serving.is_open;
  log = record {
    wide = has.keeps.wide ∙ serving.log.wide;
    kept = at.kept;
    texts = serving.log.texts;
    unshut = has.open_after;
    size = has.keeps.length_told ∙ serving.log.size;
    moments = has.keeps.story ∙ serving.log.moments;
    last = subst (LeavesNow (λ c. IsLog c (log_after o gs))) (sym has.keeps.story) serving.log.last;
    counted = omega (arith, serving.log.counted, has.keeps.faults);
  };
  room = serving.room;
}

-- what was written was settled
module _ {K : Type 0} (standing : K → Standing) (old new : Site K) (waiting : List ℕ) (written output : Option (List ℕ)) (before after : ℕ) where
  pub serves_settled : (r : Result (Unit {0}) ForceFault) (result : Result (Unit {0}) Stop) → SettlesTo (standing old.keeper) r (standing new.keeper) → ((mine : ℕ → Bool) (o : Opening) (gs : List Given) → IsAt standing mine o gs old → IsAt standing mine o gs new)
      → OnOk r (new.shut ≡ old.shut) → WritesSettled r result waiting written output before after → OnOk result ((o : Opening) (gs : List Given) (faults : ℕ) → IsServing standing o gs None faults old → IsServing standing o gs None faults new)
  serves_settled (Ok u) (Ok v) settles at shut writes = λ o gs faults serving. serves_on standing o gs faults old new serving settles (at all_nodes o gs serving.at) shut
  serves_settled (Ok u) (Err stop) settles at shut writes = tt
  serves_settled (Err fault) (Ok v) settles at shut writes = absurd (let clash = writes.0 in cc)
  serves_settled (Err fault) (Err stop) settles at shut writes = tt

  -- and the log was open
  pub open_before : (r : Result (Unit {0}) ForceFault) (result : Result (Unit {0}) Stop) → SettlesTo (standing old.keeper) r (standing new.keeper) → WritesSettled r result waiting written output before after → OnOk result ((standing old.keeper).shut ≡ None)
  open_before (Ok u) (Ok v) settles writes = settles.keeps.open_before
  open_before (Ok u) (Err stop) settles writes = tt
  open_before (Err fault) (Ok v) settles writes = absurd (let clash = writes.0 in cc)
  open_before (Err fault) (Err stop) settles writes = tt

pub settle_stop : (old new : Standing) (r : Result (Unit {0}) ForceFault) (result : Result (Unit {0}) Stop) (waiting : List ℕ) (written output : Option (List ℕ)) (before after : ℕ) → SettlesTo old r new → WritesSettled r result waiting written output before after → IfErr result (IsSettleStop before after)
settle_stop old new (Ok u) (Ok v) waiting written output before after settles writes = tt
settle_stop old new (Ok u) (Err (Stop.BadInput n why)) waiting written output before after settles writes = writes.fault
settle_stop old new (Ok u) (Err (Stop.Limit what n)) waiting written output before after settles writes = writes.fault
settle_stop old new (Ok u) (Err (Stop.Foreign n)) waiting written output before after settles writes = writes.fault
settle_stop old new (Ok u) (Err (Stop.ReadFault n)) waiting written output before after settles writes = writes.fault
settle_stop old new (Ok u) (Err (Stop.WriteFault n)) waiting written output before after settles writes = writes.fault
settle_stop old new (Ok u) (Err (Stop.DiskFault n)) waiting written output before after settles writes = tt
settle_stop old new (Ok u) (Err Stop.NoMemory) waiting written output before after settles writes = writes.fault
settle_stop old new (Err (force.Full size)) result waiting written output before after settles writes = absurd settles
settle_stop old new (Err (force.DiskFault n)) result waiting written output before after settles writes = subst (λ (r : Result (Unit {0}) Stop). IfErr r (IsSettleStop before after)) (sym writes.0) tt
settle_stop old new (Err (force.Shut n)) result waiting written output before after settles writes = subst (λ (r : Result (Unit {0}) Stop). IfErr r (IsSettleStop before after)) (sym writes.0) tt
settle_stop old new (Err force.NoMemory) result waiting written output before after settles writes = absurd settles

-- ---- a site over a journal, whose records are noted from now on

abbrev pub begins : {D : Type 0} → Site (Kept D) → Site (Gathered D)
begins s = record { keeper = record { journal = s.keeper; settled = length s.keeper.list }; nodes = s.nodes; shut = s.shut }

module _ {D : Type 0} (count : D → ℕ) (told : D → Option Story) (fuse : D → Option Fused) (o : Opening) (gs : List Given) (begun : Option Story) (faults : ℕ) (s : Site (Kept D)) (serving : IsServing (journal_of count told fuse) o gs begun faults s) where
  at_begin : IsAt (gathered_standing count told) all_nodes o gs (begins s)
  at_begin = record { site = serving.at.site; boot = serving.at.boot; version = serving.at.version; wide = serving.at.wide; known = serving.at.known; kept = serving.at.kept }

  pub serves_ahead : IsServing (gathered_standing count told) o gs None faults (begins s)
  serves_ahead = record {
    at = at_begin;
    is_open = serving.is_open;
    log = record {
      wide = serving.log.wide;
      kept = serving.log.kept;
      texts = serving.log.texts;
      unshut = serving.log.unshut;
      size = serving.log.size;
      moments = refl;
      last = tt;
      counted = serving.log.counted;
    };
    room = serving.room;
  }

  pub rests_ahead : RestsOn o gs begun (gathered_standing count told (begins s).keeper).lasting
  rests_ahead = record {
    count = sym (receipts_long (first_place s.keeper.wide) s.keeper.wide s.keeper.list) ∙ sym (length-map (placed s.keeper.wide s.keeper.list) (λ (r : Receipt). r.rec)) ∙ ap length serving.log.kept;
    moments = serving.log.moments;
    last = serving.log.last;
  }

  -- and all that happened is on the disk
  pub is_settled : IsSettled (gathered_standing count told) o gs begun (begins s)
  is_settled = record { at = at_begin; rests = rests_ahead; texts = serving.log.texts; room = serving.room }
