-- One event more at a site that serves.
use Rattle.std.proofs.Common.{◌≡◌, ◌⊎◌, inl, inr, ◌+◌, ℕ, true, false, Option, Some, None, Result, Ok, Err, List, [], ◌∷◌, ◌++◌, length, refl, sym, ap, subst, ◌∙◌, arith, length-append}
use Rattle.std.specs.Prelude.{nat_lt}
use Rattle.std.proofs.lemmas.List.{append-nil}
use Rattle.tp_outside.specs.Story.{Story}
use Rattle.tp_records.specs.declared.body.Event.{Event as Given}
use Rattle.tp_records.specs.declared.body.Output.{Output}
use Rattle.tp_logrec.specs.declared.record.LogRec.{LogRec}
use Rattle.tp_model.specs.NodeRun.{Opening, log_after}
use Rattle.tp_model.specs.NodeTranscript.{size_of, is_past_limit}
use Rattle.tp_journal.specs.declared.faults.ForceFault.TheVariants as force
use Rattle.tp_journal.specs.Keeping.{Standing}
use Rattle.tp_streams.specs.declared.stop.Stop.{Stop}
use Rattle.tp_site.specs.Site.{Site, IsForced, IsUnforced}
use Rattle.tp_site.specs.Shaped.{HasTextOption}
use Rattle.tp_site.specs.Events.{record_after}
use Rattle.tp_logrec.specs.LogText.{IsLog}
use Rattle.tp_serve.specs.Images.{IsNodeImage}
use Rattle.tp_serve.specs.Answering.{IsAnswered, IsUnanswered, IsWithoutMemory, Answers}
use Rattle.tp_serve.specs.Progress.{Holds, IsServing, IsShutAt, ServesOne}
use Rattle.tp_serve.proofs.Lists.{taken_all, taken_front, taken_more}
use Rattle.tp_serve.proofs.Runs.{rec_list, log_next}
use Rattle.tp_serve.proofs.Fitting.{over_so, within_so}
use Rattle.tp_serve.proofs.Holding.{holds_more, holds_still, holds_weaker, fault_at, stored_room, full_over, not_shut}

-- ---- what a crash may leave, with more events

module _ (o : Opening) (gs hs : List Given) where
  longer : length (gs ++ hs) ≡ length gs + length hs
  longer = length-append gs hs

  pub were : (c : List ℕ) → IsNodeImage o gs 0 c → IsNodeImage o (gs ++ hs) 0 c
  were c (inl x) = inl (x.0, x.1, omega (arith, x.2, longer), subst (λ (l : List Given). IsLog c (log_after o l)) (sym (taken_more x.0 gs hs x.2)) x.3)
  were c (inr x) = inr x

  pub without_them : (c : List ℕ) → IsLog c (log_after o gs) → IsNodeImage o (gs ++ hs) (length gs) c
  without_them c s = inl (length gs, omega arith, omega (arith, longer), subst (λ (l : List Given). IsLog c (log_after o l)) (sym (taken_front gs hs)) s)

  pub with_them : (c : List ℕ) → IsLog c (log_after o (gs ++ hs)) → IsNodeImage o (gs ++ hs) (length gs) c
  with_them c s = inl (length (gs ++ hs), omega (arith, longer), omega arith, subst (λ (l : List Given). IsLog c (log_after o l)) (sym (taken_all (gs ++ hs))) s)

pub any_of_them : (o : Opening) (gs : List Given) (n : ℕ) (c : List ℕ) → IsNodeImage o gs n c → IsNodeImage o gs 0 c
any_of_them o gs n c (inl x) = inl (x.0, omega arith, x.2, x.3)
any_of_them o gs n c (inr x) = inr (refl, x.1)

-- ---- the next event

module _ {K : Type 0} (standing : K → Standing) (o : Opening) (gs : List Given) (begun : Option Story) (faults : ℕ) (old : Site K) (serving : IsServing standing o gs begun faults old) (g : Given) where
  abbrev Before : List ℕ → Type 0
  Before = IsNodeImage o gs 0

  abbrev After : List ℕ → Type 0
  After = IsNodeImage o (gs ++ g ∷ []) 0

  alone : (c : List ℕ) → IsLog c (log_after o gs) → After c
  alone c s = any_of_them o (gs ++ g ∷ []) (length gs) c (without_them o gs (g ∷ []) c s)

  next_is : (r : LogRec) → record_after o gs g ≡ Some r → log_after o gs ++ r ∷ [] ≡ log_after o (gs ++ g ∷ [])
  next_is r is = ap (λ (x : Option LogRec). log_after o gs ++ rec_list x) (sym is) ∙ sym (log_next o gs g)

  same_is : record_after o gs g ≡ None → log_after o gs ≡ log_after o (gs ++ g ∷ [])
  same_is is = sym (append-nil (log_after o gs)) ∙ ap (λ (x : Option LogRec). log_after o gs ++ rec_list x) (sym is) ∙ sym (log_next o gs g)

  with_next : (r : LogRec) → record_after o gs g ≡ Some r → (c : List ℕ) → IsLog c (log_after o gs ++ r ∷ []) → IsNodeImage o (gs ++ g ∷ []) (length gs) c
  with_next r is c s = with_them o gs (g ∷ []) c (subst (λ (l : List LogRec). IsLog c l) (next_is r is) s)

  more : (r : LogRec) → record_after o gs g ≡ Some r → (c : List ℕ) → IsLog c (log_after o gs ++ r ∷ []) → After c
  more r is c s = any_of_them o (gs ++ g ∷ []) (length gs) c (with_next r is c s)

  abbrev Logged : Site K → Type 0
  Logged new = Holds After o.version (log_after o (gs ++ g ∷ [])) begun faults (standing new.keeper) × (is_past_limit o (gs ++ g ∷ []) ≡ false)

  logged : (new : Site K) (x : Option LogRec) → record_after o gs g ≡ x → HasTextOption (standing old.keeper).wide x → IsForced standing old.keeper x new.keeper → Logged new
  logged new None is text same =
      let kept : Holds After o.version (log_after o gs) begun faults (standing new.keeper) =
      subst (λ (k : K). Holds After o.version (log_after o gs) begun faults (standing k)) (sym same) (holds_weaker Before o.version (log_after o gs) begun faults (standing old.keeper) serving.log After (were o gs (g ∷ []))) in (
        subst (λ (l : List LogRec). Holds After o.version l begun faults (standing new.keeper)) (same_is is) kept,
        ap (λ (l : List LogRec). nat_lt 268435456 (size_of o.version l)) (sym (same_is is)) ∙ serving.room,
      )
  logged new (Some r) is text forced =
      let kept = holds_more Before After o.version (log_after o gs) begun faults (standing old.keeper) serving.log r text (were o gs (g ∷ [])) alone (more r is) forced.0 (standing new.keeper) forced.1 in
      let room = stored_room Before After o.version (log_after o gs) begun faults (standing old.keeper) serving.log r forced.0 (standing new.keeper) forced.1 in (
        subst (λ (l : List LogRec). Holds After o.version l begun faults (standing new.keeper)) (next_is r is) kept,
        within_so (size_of o.version (log_after o (gs ++ g ∷ []))) (let e : size_of o.version (log_after o gs ++ r ∷ []) ≡ size_of o.version (log_after o (gs ++ g ∷ [])) = ap (size_of o.version) (next_is r is) in omega (arith, e, room)),
      )

  -- it is one event more
  pub answered : (outputs : List Output) (new : Site K) → IsAnswered standing o gs old g outputs new → IsServing standing o (gs ++ g ∷ []) begun faults new
  answered outputs new x =
      let log = logged new (record_after o gs g) refl x.text x.forced in
      record { at = x.at; is_open = x.is_open; log = log.0; room = log.1 }

  -- it has no room
  full : (size : ℕ) (new : Site K) → new.shut ≡ None → IsUnanswered standing o gs old g (force.Full size) new → IsServing standing o gs begun faults new × (is_past_limit o (gs ++ g ∷ []) ≡ true)
  full size new is_open x = go (record_after o gs g) refl x.unforced
    where
      go : (r : Option LogRec) → record_after o gs g ≡ r → IsUnforced standing old.keeper r (force.Full size) new.keeper → IsServing standing o gs begun faults new × (is_past_limit o (gs ++ g ∷ []) ≡ true)
      go None is u = absurd u
      go (Some r) is u =
          let over = full_over Before Before o.version (log_after o gs) begun faults (standing old.keeper) serving.log r size (standing new.keeper) u in (
            record {
              at = x.at;
              is_open = is_open;
              log = holds_still Before o.version (log_after o gs) begun faults (standing old.keeper) serving.log (standing new.keeper) u.0 u.3 u.4;
              room = serving.room;
            },
            over_so (size_of o.version (log_after o (gs ++ g ∷ []))) (let e : size_of o.version (log_after o gs ++ r ∷ []) ≡ size_of o.version (log_after o (gs ++ g ∷ [])) = ap (size_of o.version) (next_is r is) in omega (arith, e, over)),
          )

  -- the disk failed
  failed : (n : ℕ) (new : Site K) → IsUnanswered standing o gs old g (force.DiskFault n) new → IsShutAt standing o gs faults n new
  failed n new x = go (record_after o gs g) x.unforced
    where
      go : (r : Option LogRec) → IsUnforced standing old.keeper r (force.DiskFault n) new.keeper → IsShutAt standing o gs faults n new
      go None u = absurd u
      go (Some r) u = record {
        at = x.at;
        counted = omega (arith, serving.log.counted, u.0.faults);
        shut = u.3;
        fault = fault_at Before Before o.version (log_after o gs) begun faults (standing old.keeper) serving.log r n (standing new.keeper) u;
      }

  never_shut : (n : ℕ) (new : Site K) → IsUnanswered standing o gs old g (force.Shut n) new → ⊥
  never_shut n new x = go (record_after o gs g) x.unforced
    where
      go : (r : Option LogRec) → IsUnforced standing old.keeper r (force.Shut n) new.keeper → ⊥
      go None u = absurd u
      go (Some r) u = not_shut Before Before o.version (log_after o gs) begun faults (standing old.keeper) serving.log r n (standing new.keeper) u

  -- there was no memory for it, or for its outputs
  pub starved : (new : Site K) → IsWithoutMemory standing o gs old g new → IsServing standing o gs begun faults new ⊎ IsServing standing o (gs ++ g ∷ []) begun faults new
  starved new (inl x) = inl (record {
    at = x.0;
    is_open = x.2;
    log = subst (λ (s : Standing). Holds Before o.version (log_after o gs) begun faults s) (sym x.1) serving.log;
    room = serving.room;
  })
  starved new (inr x) = inr (answered x.0 new x.1)

  -- it is not answered, and no more waits
  pub unanswered : (at : ℕ) (stop : Stop) (new : Site K) (waiting : List ℕ) → Answers standing o gs at old g (Err stop) new → ServesOne standing o gs begun faults at g (Err stop) new waiting waiting
  unanswered at (Stop.BadInput n why) new waiting x = x
  unanswered at (Stop.Limit what n) new waiting x =
      let y = full x.2.0 new x.3 x.2.1 in
      (y.0, x.0, x.1, y.1, refl)
  unanswered at (Stop.Foreign n) new waiting x = x
  unanswered at (Stop.ReadFault n) new waiting x = x
  unanswered at (Stop.WriteFault n) new waiting x = absurd x
  unanswered at (Stop.DiskFault n) new waiting (inl x) = (failed n new x.0, refl)
  unanswered at (Stop.DiskFault n) new waiting (inr x) = absurd (never_shut n new x)
  unanswered at Stop.NoMemory new waiting x = (starved new x, refl)
