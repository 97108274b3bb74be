-- The log of a site, over one record more.
use Rattle.std.proofs.Common.{◌≡◌, ◌⊎◌, inl, inr, ◌≤◌, ◌<◌, ℕ, Bool, true, false, Option, Some, None, Err, List, [], ◌∷◌, ◌++◌, length, map, refl, sym, ap, subst, ◌∙◌, arith}
use Rattle.std.specs.List.{AllByRecursion}
use Rattle.std.proofs.lemmas.List.{map-append}
use Rattle.tp_outside.specs.Story.{Story}
use Rattle.tp_outside.proofs.Stories.{weaker, joined}
use Rattle.tp_logrec.specs.declared.record.LogRec.{LogRec}
use Rattle.tp_logrec.specs.declared.record.LogVersion.{LogVersion}
use Rattle.tp_logrec.specs.RecordText.{record_bytes}
use Rattle.tp_logrec.specs.LogText.{IsLog}
use Rattle.tp_model.specs.NodeTranscript.{size_of}
use Rattle.tp_journal.specs.declared.receipts.Receipt.{Receipt}
use Rattle.tp_journal.specs.declared.faults.ForceFault.TheVariants as force
use Rattle.tp_journal.specs.Keeping.{Standing, Forces, Stored, Refused, LeavesEither, bodies_kept, bodies_with, longer, longer_told, HasRoom, IsFull, IsShut, CountsAs}
use Rattle.tp_journal.specs.Log.{StandsFor, StandsForEither}
use Rattle.tp_journal.specs.Records.{version_of, HasText, text, bodies_of}
use Rattle.tp_journal.proofs.AsLogs.{is_log}
use Rattle.tp_journal.specs.Told.{LeavesOnly, LeavesNow}
use Rattle.tp_streams.specs.Stops.{IsFaultOf}
use Rattle.tp_site.specs.Events.{kept_records}
use Rattle.tp_serve.specs.Progress.{is_wide, Holds, FailsAt}
use Rattle.tp_serve.proofs.Runs.{size_one}

-- ---- versions

pub wide_so : (wide : Bool) (ver : LogVersion) → version_of wide ≡ ver → wide ≡ is_wide ver
wide_so true LogVersion.Two is = refl
wide_so true LogVersion.One is = absurd cc
wide_so false LogVersion.Two is = absurd cc
wide_so false LogVersion.One is = refl

pub version_so : (ver : LogVersion) → version_of (is_wide ver) ≡ ver
version_so LogVersion.One = refl
version_so LogVersion.Two = refl

-- ---- stories

-- a crash now is a crash at a moment
pub leaves_now : (P : List ℕ → Type 0) (begun new : Option Story) → LeavesOnly P begun new → LeavesNow P new
leaves_now P None new leaves = subst (LeavesNow P) (sym leaves) tt
leaves_now P (Some s) new leaves = subst (LeavesNow P) (sym leaves.1) (leaves.2.each 0 (omega arith))

pub now_weaker : (P Q : List ℕ → Type 0) (new : Option Story) → ((c : List ℕ) → P c → Q c) → LeavesNow P new → LeavesNow Q new
now_weaker P Q None implies leaves = tt
now_weaker P Q (Some s) implies leaves = λ c image. implies c (leaves c image)

pub only_weaker : (P Q : List ℕ → Type 0) (begun new : Option Story) → ((c : List ℕ) → P c → Q c) → LeavesOnly P begun new → LeavesOnly Q begun new
only_weaker P Q None new implies leaves = leaves
only_weaker P Q (Some s) new implies leaves = (leaves.0, leaves.1, weaker P Q s leaves.0 implies leaves.2)

-- two runs of a disk, one after the other
pub goes_on : (P Q R : List ℕ → Type 0) (begun mid new : Option Story) → ((c : List ℕ) → P c → R c) → ((c : List ℕ) → Q c → R c) → LeavesOnly P begun mid → LeavesOnly Q mid new → LeavesOnly R begun new
goes_on P Q R None mid new p q first second = subst (λ (m : Option Story). LeavesOnly Q m new) first second
goes_on P Q R (Some s) mid new p q first second =
    let more : LeavesOnly Q (Some first.0) new = subst (λ (m : Option Story). LeavesOnly Q m new) first.1 second in
    (more.0, more.1, joined R s first.0 more.0 (weaker P R s first.0 p first.2) (weaker Q R first.0 more.0 q more.2))

-- ---- one record more

texts_more : (wide : Bool) (rs : List LogRec) (r : LogRec) → AllByRecursion (HasText wide) rs → HasText wide r → AllByRecursion (HasText wide) (rs ++ r ∷ [])
texts_more wide [] r texts text = (text, tt)
texts_more wide (q ∷ rs) r texts text = (texts.0, texts_more wide rs r texts.1 text)

module _ (P Q : List ℕ → Type 0) (ver : LogVersion) (records : List LogRec) (begun : Option Story) (faults : ℕ) (old : Standing) (holds : Holds P ver records begun faults old) (r : LogRec) where
  before_is : bodies_kept old ≡ bodies_of (is_wide ver) records
  before_is = ap (λ (w : Bool). bodies_of w (kept_records old)) holds.wide ∙ ap (bodies_of (is_wide ver)) holds.kept

  after_is : bodies_with old r ≡ bodies_of (is_wide ver) (records ++ r ∷ [])
  after_is = ap (λ (w : Bool). bodies_of w (kept_records old ++ r ∷ [])) holds.wide ∙ ap (λ (l : List LogRec). bodies_of (is_wide ver) (l ++ r ∷ [])) holds.kept

  text_is : text old.wide r ≡ record_bytes ver r
  text_is = ap (λ (w : Bool). text w r) holds.wide ∙ ap (λ (v : LogVersion). record_bytes v r) (version_so ver)

  longer_is : longer (size_of ver records) old.wide r ≡ size_of ver (records ++ r ∷ [])
  longer_is = let e : length (text old.wide r) ≡ length (record_bytes ver r) = ap length text_is in omega (arith, e, size_one ver records r)

  -- a fault of the disk tells the count of its faults
  pub fault_at : (n : ℕ) (new : Standing) → Forces old r (Err (force.DiskFault n)) new → IsFaultOf n faults new.faults
  fault_at n new f =
      let told : n ≡ new.faults = subst (λ (l : Option ℕ). CountsAs l n new.faults) holds.size f.4 in
      record { risen = omega (arith, holds.counted, f.1); told = told }

  -- the images that were, and those with the record, are allowed
  module _ (has_text : HasText old.wide r) (were : (c : List ℕ) → P c → Q c) (alone : (c : List ℕ) → IsLog c records → Q c) (more : (c : List ℕ) → IsLog c (records ++ r ∷ []) → Q c) where
    texts : AllByRecursion (HasText (is_wide ver)) (records ++ r ∷ [])
    texts = texts_more (is_wide ver) records r holds.texts (subst (λ (w : Bool). HasText w r) holds.wide has_text)

    after : (c : List ℕ) → StandsFor c (bodies_with old r) → IsLog c (records ++ r ∷ [])
    after c s = is_log c (is_wide ver) (records ++ r ∷ []) texts (subst (λ (b : List (List ℕ)). StandsFor c b) after_is s)

    either : (c : List ℕ) → StandsForEither (bodies_kept old) (bodies_with old r) c → IsLog c records ⊎ IsLog c (records ++ r ∷ [])
    either c (inl s) = inl (is_log c (is_wide ver) records holds.texts (subst (λ (b : List (List ℕ)). StandsFor c b) before_is s))
    either c (inr s) = inr (after c s)

    allowed : (c : List ℕ) → StandsForEither (bodies_kept old) (bodies_with old r) c → Q c
    allowed c e = elim (either c e) [ inl s ↦ alone c s | inr s ↦ more c s ]

    moments_with : (new : Standing) → LeavesEither old r new → LeavesOnly Q begun new.story
    moments_with new leaves = goes_on P (λ c. StandsForEither (bodies_kept old) (bodies_with old r) c) Q begun old.story new.story were allowed holds.moments leaves

    pub holds_more : (receipt : Receipt) (new : Standing) → Stored old r receipt new → Holds Q ver (records ++ r ∷ []) begun faults new
    holds_more receipt new stored = record {
      wide = stored.wide ∙ holds.wide;
      kept =
          ap (λ (l : List Receipt). map (λ (x : Receipt). x.rec) l) stored.kept
          ∙ map-append (λ (x : Receipt). x.rec) old.kept (receipt ∷ [])
          ∙ ap (λ (x : LogRec). kept_records old ++ x ∷ []) stored.same
          ∙ ap (λ (l : List LogRec). l ++ r ∷ []) holds.kept;
      texts = texts;
      unshut = stored.open_after;
      size = stored.length_told ∙ ap (λ (l : Option ℕ). longer_told l old.wide r) holds.size ∙ ap (λ (n : ℕ). Some n) longer_is;
      moments = moments_with new stored.moments;
      last = now_weaker (λ c. StandsFor c (bodies_with old r)) (λ c. IsLog c (records ++ r ∷ [])) new.story after stored.last;
      counted = omega (arith, holds.counted, stored.faults);
    }

    pub fails_at : (n : ℕ) (new : Standing) → Forces old r (Err (force.DiskFault n)) new → FailsAt Q ver records r begun faults n new
    fails_at n new f = record {
      moments = moments_with new f.5;
      last = now_weaker (λ c. StandsForEither (bodies_kept old) (bodies_with old r) c) (λ c. IsLog c records ⊎ IsLog c (records ++ r ∷ [])) new.story either (leaves_now _ old.story new.story f.5);
      fault = fault_at n new f;
    }

  pub stored_room : (receipt : Receipt) (new : Standing) → Stored old r receipt new → size_of ver (records ++ r ∷ []) ≤ 268435456
  stored_room receipt new stored =
      let room : longer (size_of ver records) old.wide r ≤ 268435456 = subst (λ (l : Option ℕ). HasRoom l old.wide r) holds.size stored.room in
      omega (arith, room, longer_is)

  pub full_over : (size : ℕ) (new : Standing) → Forces old r (Err (force.Full size)) new → 268435456 < size_of ver (records ++ r ∷ [])
  full_over size new f =
      let full = subst (λ (l : Option ℕ). IsFull l old.wide r size new.faults) holds.size f.1 in
      omega (arith, full.0, full.1, longer_is)

  pub not_shut : (n : ℕ) (new : Standing) → Forces old r (Err (force.Shut n)) new → ⊥
  not_shut n new f =
      let shut : old.shut ≡ Some n = subst (λ (l : Option ℕ). IsShut l old.shut n new.faults) holds.size f.1 in
      let clash : None ≡ Some n = sym holds.unshut ∙ shut in
      absurd cc

-- ---- nothing more

module _ (P : List ℕ → Type 0) (ver : LogVersion) (records : List LogRec) (begun : Option Story) (faults : ℕ) (old : Standing) (holds : Holds P ver records begun faults old) where
  pub holds_still : (new : Standing) → Refused old new → new.shut ≡ None → new.story ≡ old.story → Holds P ver records begun faults new
  holds_still new same unshut story = record {
    wide = same.wide ∙ holds.wide;
    kept = ap (λ (l : List Receipt). map (λ (x : Receipt). x.rec) l) same.kept ∙ holds.kept;
    texts = holds.texts;
    unshut = unshut;
    size = same.length_told ∙ holds.size;
    moments = subst (LeavesOnly P begun) (sym story) holds.moments;
    last = subst (LeavesNow (λ c. IsLog c records)) (sym story) holds.last;
    counted = omega (arith, holds.counted, same.faults);
  }

  pub holds_weaker : (Q : List ℕ → Type 0) → ((c : List ℕ) → P c → Q c) → Holds Q ver records begun faults old
  holds_weaker Q implies = record {
    wide = holds.wide;
    kept = holds.kept;
    texts = holds.texts;
    unshut = holds.unshut;
    size = holds.size;
    moments = only_weaker P Q begun old.story implies holds.moments;
    last = holds.last;
    counted = holds.counted;
  }
