-- A list of records that takes the place of another.
use Rattle.std.proofs.Common.{◌≡◌, ℕ, ◌+◌, Bool, Option, Some, None, List, [], ◌∷◌, ◌++◌, length, sym, ap, ◌∙◌, subst, arith, length-append}
use Rattle.std.specs.List.{AllByRecursion}
use Rattle.tp_outside.specs.Story.{Story}
use Rattle.tp_logrec.specs.declared.record.LogRec.{LogRec}
use Rattle.tp_journal.specs.Log.{IsBody, blocks, StandsForEither}
use Rattle.tp_journal.specs.Told.{LeavesOnly, IsTextOf}
use Rattle.tp_journal.specs.Started.{Started, Replaces, IsStarted}
use Rattle.tp_journal.specs.Records.{HasText, bodies_of, wide_of, recs_of, AreRecords}
use Rattle.tp_journal.specs.Journals.{Kept, kept_of, bodies_in, Becomes}
use Rattle.tp_journal.proofs.RecordBodies.{wide_is, recs_is, are_records}
use Rattle.tp_journal.proofs.Sizes.{bodies_are}
use Rattle.tp_journal.proofs.Forcing.{face_of}
use Rattle.tp_journal.proofs.Unmoved.{still}

-- the disk was not called
pub still_now : {D : Type 0} (told : D → Option Story) (log : Started D (List (List ℕ))) (now : Kept D) (after : List (List ℕ)) (shut : Option ℕ) → kept_of log ≡ now → AreRecords log.shelf
    → IsStarted (told log.disk) log.gate log.shelf shut → shut ≡ None → (s : Story) → told now.disk ≡ Some s → LeavesOnly (StandsForEither (bodies_in now) after) (told now.disk) (told now.disk)
still_now told log now after shut same records started open_now s is =
    subst (λ (v : Kept _). LeavesOnly (StandsForEither (bodies_in v) after) (told v.disk) (told v.disk)) same
    (subst (λ b. LeavesOnly (StandsForEither b after) (told log.disk) (told log.disk)) records.are
    (still (told log.disk) log.gate log.shelf after shut open_now started.kept s (ap (λ (v : Kept _). told v.disk) same ∙ is)))

module _ (wide : Bool) (rs : List LogRec) (each : AllByRecursion (HasText wide) rs) (bodies : List (List ℕ)) (are : bodies ≡ bodies_of wide rs) where
  pub text_is : (text : List ℕ) → text ≡ blocks (bodies_of wide rs) ++ 0 ∷ [] → IsTextOf bodies text
  text_is text written = record {
    gate = 0;
    whole = written ∙ ap (λ b. blocks b ++ 0 ∷ []) (sym are);
    closed = λ e. absurd (omega (arith, e));
    each = subst (AllByRecursion IsBody) (sym are) (bodies_are wide rs each);
  }

  pub records_are : (shelf : List (List ℕ)) → shelf ≡ bodies → AreRecords shelf
  records_are shelf is = subst AreRecords (sym (is ∙ are)) (are_records wide rs each)

  pub becomes : {D : Type 0} (old new : Started D (List (List ℕ))) (f g : ℕ) (text : List ℕ) → text ≡ blocks (bodies_of wide rs) ++ 0 ∷ []
      → Replaces (face_of old f) bodies (length text) (face_of new g) → Becomes wide rs (kept_of old) f (kept_of new) g
  becomes old new f g text written replaces =
      let now : new.shelf ≡ bodies_of wide rs = replaces.bodies_new ∙ are in
      let long : length text ≡ length (blocks (bodies_of wide rs)) + 1 = ap length written ∙ length-append (blocks (bodies_of wide rs)) (0 ∷ []) in
      record {
        open_before = replaces.open_before;
        open_after = replaces.open_after;
        wide = ap wide_of now ∙ wide_is wide rs;
        list = ap recs_of now ∙ recs_is wide rs each;
        gate = omega (arith, replaces.gate, long);
        faults = replaces.faults;
      }
