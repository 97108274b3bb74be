-- Bodies that pass are read as records, up to what stands after them.
use Rattle.std.proofs.Common.{◌≡◌, ◌≢◌, ℕ, zero, suc, ◌+◌, ◌/◌, ◌%◌, ◌<◌, ◌≤◌, ◌^◌, Bool, true, false, Option, Some, None, List, [], ◌∷◌, ◌++◌, length, take, drop, refl, sym, ap, ◌∙◌, subst, arith, append_assoc, length-append}
use Rattle.std.specs.Prelude.{◌==◌, ◌&&◌, ◌||◌}
use Rattle.std.specs.List.{AllByRecursion}
use Rattle.std.proofs.lemmas.List.{take-append-drop}
use Rattle.tp_names.specs.Places.{AreBytes}
use Rattle.tp_names.specs.Same.{is_name}
use Rattle.tp_names.proofs.Sames.{name_same}
use Rattle.tp_names.proofs.Sequences.{AreBytes-front, AreBytes-back}
use Rattle.tp_logrec.specs.declared.record.LogRec.{LogRec}
use Rattle.tp_logrec.specs.declared.record.LogVersion.{LogVersion}
use Rattle.tp_logrec.specs.RecordReading.{record_in}
use Rattle.tp_logrec.specs.LogText.{framed, version_mark, version_text, LogReading, Foreign, Reads, Placed, with_record, body_in, records_from, is_marked, listed_from}
use Rattle.tp_logrec.proofs.Logs.{gate_is, on_gate, on_body, on_record, body_back, mark_is, on_mark, body_unmarked, record_code, not_one}
use Rattle.tp_logrec.proofs.ReadLogs.{BodyParts, body_parts, record_parts, bytes_same}
use Rattle.tp_journal.specs.Log.{IsBody, counted, blocks}
use Rattle.tp_journal.specs.Foreign.{ArePassed, IsBroken}
use Rattle.tp_journal.specs.Records.{version_of, is_mark, is_some, is_text, record_body, wide_of}

-- ---- bodies that are texts

abbrev pub AreTexts : Bool → List (List ℕ) → Type 0
AreTexts wide [] = Unit {0}
AreTexts wide (b ∷ bs) = IsBody b × (is_text wide b ≡ true) × AreTexts wide bs

-- a reading after so many records
abbrev pub with_records : List Placed → LogReading → LogReading
with_records [] reading = reading
with_records (p ∷ ps) reading = with_record p (with_records ps reading)

pub still_foreign : (ps : List Placed) (at : ℕ) → with_records ps (Foreign at) ≡ Foreign at
still_foreign [] at = refl
still_foreign (p ∷ ps) at = ap (with_record p) (still_foreign ps at)

pub reads_more : (ps : List Placed) (ver : LogVersion) (qs : List Placed) (gate : ℕ) → with_records ps (Reads ver qs gate) ≡ Reads ver (ps ++ qs) gate
reads_more [] ver qs gate = refl
reads_more (p ∷ ps) ver qs gate = ap (with_record p) (reads_more ps ver qs gate)

pub counted_framed : (body more : List ℕ) → length body < 2 ^ 16 → counted body ++ more ≡ framed body ++ more
counted_framed body more short =
    let high : length body / 256 ≡ length body / 256 % 256 = omega arith in
    ap (λ (n : ℕ). n ∷ length body % 256 ∷ (body ++ more)) high

-- how the reading goes on after texts in one version
pub record GoesOn (ver : LogVersion) (fuel at : ℕ) (bytes : List ℕ) (before : ℕ) (rest : List ℕ) : Type 0 where
  pub passed : List Placed
  pub left : ℕ
  pub enough : length rest ≤ left
  pub is : records_from fuel ver at bytes ≡ with_records passed (records_from left ver (at + before) rest)

some_text : (wide : Bool) (body : List ℕ) (o : Option LogRec) → record_in (version_of wide) body ≡ o → is_some o ≡ true → (r : LogRec) × (record_in (version_of wide) body ≡ Some r)
some_text wide body None is e = absurd cc
some_text wide body (Some r) is e = (r, is)

one_on : (wide : Bool) (fuel at : ℕ) (b : List ℕ) (bs : List (List ℕ)) (rest : List ℕ) → length b < 2 ^ 16 → (r : LogRec) → record_in (version_of wide) b ≡ Some r
    → GoesOn (version_of wide) fuel (at + 3 + length b) (blocks bs ++ rest) (length (blocks bs)) rest
    → GoesOn (version_of wide) (suc fuel) at (blocks (b ∷ bs) ++ rest) (length (blocks (b ∷ bs))) rest
one_on wide fuel at b bs rest short r reads g =
    let ver = version_of wide in
    let more : List ℕ = blocks bs ++ rest in
    let p : Placed = record { place = at; rec = r } in
    let place : at + 3 + length b + length (blocks bs) ≡ at + length (blocks (b ∷ bs)) = omega (arith, length-append (1 ∷ counted b) (blocks bs)) in
    record {
      passed = p ∷ g.passed;
      left = g.left;
      enough = g.enough;
      is = ap (records_from (suc fuel) ver at) (append_assoc (1 ∷ counted b) (blocks bs) rest)
          ∙ gate_is fuel ver at 1 (counted b ++ more)
          ∙ ap (λ w. on_body ver fuel at (body_in w)) (counted_framed b more short)
          ∙ ap (on_body ver fuel at) (body_back b more short)
          ∙ ap (on_record ver fuel at (b, more)) reads
          ∙ ap (with_record p) g.is
          ∙ ap (λ n. with_record p (with_records g.passed (records_from g.left ver n rest))) place;
    }

pub texts_on : (wide : Bool) (bodies : List (List ℕ)) (rest : List ℕ) (fuel at : ℕ) → AreTexts wide bodies → length (blocks bodies ++ rest) ≤ fuel
    → GoesOn (version_of wide) fuel at (blocks bodies ++ rest) (length (blocks bodies)) rest
texts_on wide [] rest fuel at texts enough =
    let same : at ≡ at + 0 = omega arith in
    record { passed = []; left = fuel; enough = enough; is = ap (λ n. records_from fuel (version_of wide) n rest) same }
texts_on wide (b ∷ bs) rest zero at texts enough = absurd (omega arith)
texts_on wide (b ∷ bs) rest (suc fuel) at texts enough =
    let found = some_text wide b (record_in (version_of wide) b) refl texts.1 in
    let size : length (blocks (b ∷ bs) ++ rest) ≡ 3 + length b + length (blocks bs ++ rest) =
    omega (arith, length-append (blocks (b ∷ bs)) rest, length-append (1 ∷ counted b) (blocks bs), length-append (blocks bs) rest) in
    one_on wide fuel at b bs rest texts.0.1 found.0 found.1 (texts_on wide bs rest fuel (at + 3 + length b) texts.2 (omega (arith, size, enough)))

-- ---- bodies that pass

texts_behind : (first : List ℕ) (more bs : List (List ℕ)) → ArePassed record_body (first ∷ more) bs → AllByRecursion IsBody bs → AreTexts (is_mark first) bs
texts_behind first more [] passed each = tt
texts_behind first more (b ∷ bs) passed each = (each.0, passed.0, texts_behind first (more ++ b ∷ []) bs passed.1 each.1)

-- how the reading of a whole text goes on
pub record ListsOn (at : ℕ) (bodies : List (List ℕ)) (rest : List ℕ) : Type 0 where
  pub passed : List Placed
  pub left : ℕ
  pub enough : length rest ≤ left
  pub is : listed_from at (blocks bodies ++ rest) ≡ with_records passed (records_from left (version_of (wide_of bodies)) (at + length (blocks bodies)) rest)

unmarked_on : (at : ℕ) (bodies : List (List ℕ)) (rest : List ℕ) → is_marked (blocks bodies ++ rest) ≡ false → wide_of bodies ≡ false → AreTexts false bodies → ListsOn at bodies rest
unmarked_on at bodies rest none wide texts =
    let bytes = blocks bodies ++ rest in
    let g = texts_on false bodies rest (length bytes) at texts (omega arith) in
    record {
      passed = g.passed;
      left = g.left;
      enough = g.enough;
      is = mark_is at bytes ∙ ap (on_mark at bytes) none ∙ g.is
          ∙ ap (λ w. with_records g.passed (records_from g.left (version_of w) (at + length (blocks bodies)) rest)) (sym wide);
    }

marked_on : (at : ℕ) (bs : List (List ℕ)) (rest : List ℕ) → AreTexts true bs → ListsOn at (version_mark ∷ bs) rest
marked_on at bs rest texts =
    let bytes = blocks (version_mark ∷ bs) ++ rest in
    let g = texts_on true bs rest (length bytes) (at + 5) texts (omega arith) in
    let place : at + 5 + length (blocks bs) ≡ at + length (blocks (version_mark ∷ bs)) = omega arith in
    record {
      passed = g.passed;
      left = g.left;
      enough = g.enough;
      is = mark_is at bytes ∙ g.is ∙ ap (λ n. with_records g.passed (records_from g.left LogVersion.Two n rest)) place;
    }

-- a text of version 1 begins with no mark
text_unmarked : (b : List ℕ) (bs : List (List ℕ)) (rest : List ℕ) → AreBytes b → length b < 2 ^ 16 → is_text false b ≡ true → is_marked (blocks (b ∷ bs) ++ rest) ≡ false
text_unmarked b bs rest fits short text =
    let found = some_text false b (record_in LogVersion.One b) refl text in
    let parts = record_parts LogVersion.One b found.0 fits found.1 in
    let x = record_code found.0 in
    ap is_marked (append_assoc (1 ∷ counted b) (blocks bs) rest ∙ ap (λ w. 1 ∷ w) (counted_framed b (blocks bs ++ rest) short))
    ∙ body_unmarked b (blocks bs ++ rest) x.0 x.1 (parts.1 ∙ x.2) x.3

text_or_mark : (mark text : Bool) → mark ≡ false → (mark || text) ≡ true → text ≡ true
text_or_mark true text none e = absurd cc
text_or_mark false text none e = e

first_bytes : (b : List ℕ) (bs : List (List ℕ)) (rest : List ℕ) → AreBytes (blocks (b ∷ bs) ++ rest) → AreBytes b
first_bytes b bs rest fits =
    let cut : AreBytes ((1 ∷ counted b) ++ (blocks bs ++ rest)) = bytes_same _ _ (append_assoc (1 ∷ counted b) (blocks bs) rest) fits in
    AreBytes-front b (blocks bs ++ rest) cut.1.1.1

first_on : (at : ℕ) (b : List ℕ) (bs : List (List ℕ)) (rest : List ℕ) → AreBytes (blocks (b ∷ bs) ++ rest) → AllByRecursion IsBody (b ∷ bs) → ArePassed record_body [] (b ∷ bs)
    → (t : Bool) → is_mark b ≡ t → ListsOn at (b ∷ bs) rest
first_on at b bs rest fits each passed true e =
    let is : b ≡ version_mark = name_same b version_mark e in
    let texts : AreTexts true bs = subst (λ w. AreTexts w bs) e (texts_behind b [] bs passed.1 each.1) in
    subst (λ w. ListsOn at (w ∷ bs) rest) (sym is) (marked_on at bs rest texts)
first_on at b bs rest fits each passed false e =
    let text : is_text false b ≡ true = text_or_mark (is_mark b) (is_text false b) e passed.0 in
    let texts : AreTexts false bs = subst (λ w. AreTexts w bs) e (texts_behind b [] bs passed.1 each.1) in
    unmarked_on at (b ∷ bs) rest (text_unmarked b bs rest (first_bytes b bs rest fits) each.0.1 text) e (each.0, text, texts)

pub lists_on : (at : ℕ) (bodies : List (List ℕ)) (rest : List ℕ) → AreBytes (blocks bodies ++ rest) → AllByRecursion IsBody bodies → ArePassed record_body [] bodies
    → (bodies ≡ [] → is_marked rest ≡ false) → ListsOn at bodies rest
lists_on at [] rest fits each passed none = unmarked_on at [] rest (none refl) refl tt
lists_on at (b ∷ bs) rest fits each passed none = first_on at b bs rest fits each passed (is_mark b) refl

-- ---- a text that breaks off, and one that closes

-- no text begins here
abbrev NoText : Bool → List ℕ → Type 0
NoText wide [] = Unit {0}
NoText wide (gate ∷ after) = (gate ≡ 1) × AreBytes after × ((body rest : List ℕ) → IsBody body → is_text wide body ≡ true → after ≡ counted body ++ rest → ⊥)

no_body : (wide : Bool) (fuel at : ℕ) (after : List ℕ) → AreBytes after → ((body rest : List ℕ) → IsBody body → is_text wide body ≡ true → after ≡ counted body ++ rest → ⊥)
    → (o : Option (List ℕ × List ℕ)) → body_in after ≡ o → on_body (version_of wide) fuel at o ≡ Foreign at
no_body wide fuel at after fits none None e = refl
no_body wide fuel at after fits none (Some p) e = go (record_in (version_of wide) p.0) refl
  where
    parts : BodyParts after p.0 p.1
    parts = body_parts after p.0 p.1 fits e

    some : (body : List ℕ) (r : LogRec) → record_in (version_of wide) body ≡ Some r → 0 < length body
    some [] r is = absurd (empty wide is)
      where
        empty : (w : Bool) → record_in (version_of w) [] ≡ Some r → ⊥
        empty true is = cc
        empty false is = cc
    some (b ∷ body) r is = omega arith

    go : (o : Option LogRec) → record_in (version_of wide) p.0 ≡ o → on_record (version_of wide) fuel at p o ≡ Foreign at
    go None is = refl
    go (Some r) is = absurd (none p.0 p.1 (some p.0 r is, parts.short) (ap is_some is) (parts.is ∙ sym (counted_framed p.0 p.1 parts.short)))

breaks_here : (wide : Bool) (fuel at : ℕ) (rest : List ℕ) → NoText wide rest → records_from fuel (version_of wide) at rest ≡ Foreign at
breaks_here wide zero at [] none = refl
breaks_here wide (suc fuel) at [] none = refl
breaks_here wide zero at (gate ∷ after) none = refl
breaks_here wide (suc fuel) at (gate ∷ after) none =
    gate_is fuel (version_of wide) at gate after ∙ ap (λ n. on_gate (version_of wide) fuel at after (n == 1)) none.0
    ∙ no_body wide fuel at after none.1 none.2 (body_in after) refl

closes_here : (ver : LogVersion) (fuel at gate : ℕ) (rest : List ℕ) → gate ≢ 1 → length (gate ∷ rest) ≤ fuel → records_from fuel ver at (gate ∷ rest) ≡ Reads ver [] at
closes_here ver zero at gate rest closed enough = absurd (omega arith)
closes_here ver (suc fuel) at gate rest closed enough = gate_is fuel ver at gate rest ∙ ap (on_gate ver fuel at rest) (not_one gate closed)

mark_or_text : (mark text : Bool) → text ≡ true → (mark || text) ≡ true
mark_or_text true text e = refl
mark_or_text false text e = e

no_text : (bodies : List (List ℕ)) (rest : List ℕ) → AreBytes rest → IsBroken record_body bodies rest → NoText (wide_of bodies) rest
no_text bodies [] fits broken = tt
no_text [] (gate ∷ after) fits broken = (broken.0, fits.1, λ body rest sound text is. broken.1 body rest sound (mark_or_text (is_mark body) (is_text false body) text) is)
no_text (b ∷ bs) (gate ∷ after) fits broken = (broken.0, fits.1, broken.1)

-- and no mark
broken_unmarked : (rest : List ℕ) → IsBroken record_body [] rest → is_marked rest ≡ false
broken_unmarked [] broken = refl
broken_unmarked (gate ∷ after) broken = go (is_marked (gate ∷ after)) refl
  where
    go : (t : Bool) → is_marked (gate ∷ after) ≡ t → is_marked (gate ∷ after) ≡ false
    go false e = e
    go true e =
        let named : take 5 (gate ∷ after) ≡ version_text LogVersion.Two = name_same (take 5 (gate ∷ after)) (version_text LogVersion.Two) e in
        let four : take 4 after ≡ counted version_mark = ap (drop 1) named in
        let whole : after ≡ counted version_mark ++ drop 4 after = sym (take-append-drop 4 after) ∙ ap (λ w. w ++ drop 4 after) four in
        absurd (broken.1 version_mark (drop 4 after) (omega arith, omega arith) refl whole)

pub listed_breaks : (at : ℕ) (bodies : List (List ℕ)) (rest : List ℕ) → AreBytes (blocks bodies ++ rest) → AllByRecursion IsBody bodies → ArePassed record_body [] bodies
    → IsBroken record_body bodies rest → listed_from at (blocks bodies ++ rest) ≡ Foreign (at + length (blocks bodies))
listed_breaks at bodies rest fits each passed broken =
    let g = lists_on at bodies rest fits each passed (λ none. broken_unmarked rest (subst (λ l. IsBroken record_body l rest) none broken)) in
    let place = at + length (blocks bodies) in
    g.is ∙ ap (with_records g.passed) (breaks_here (wide_of bodies) g.left place rest (no_text bodies rest (AreBytes-back (blocks bodies) rest fits) broken)) ∙ still_foreign g.passed place

-- the records, and the version in which they are written
pub record ListsAll (at : ℕ) (text : List ℕ) (gate : ℕ) : Type 0 where
  pub version : LogVersion
  pub placed : List Placed
  pub is : listed_from at text ≡ Reads version placed gate

pub listed_closes : (at : ℕ) (bodies : List (List ℕ)) (gate : ℕ) (rest : List ℕ) → AreBytes (blocks bodies ++ gate ∷ rest) → AllByRecursion IsBody bodies → ArePassed record_body [] bodies
    → gate ≢ 1 → ListsAll at (blocks bodies ++ gate ∷ rest) (at + length (blocks bodies))
listed_closes at bodies gate rest fits each passed closed =
    let g = lists_on at bodies (gate ∷ rest) fits each passed (λ none. ap (λ (t : Bool). t && is_name (take 4 rest) (0 ∷ 2 ∷ 7 ∷ 2 ∷ [])) (not_one gate closed)) in
    let place = at + length (blocks bodies) in
    let ver = version_of (wide_of bodies) in
    record {
      version = ver;
      placed = g.passed ++ [];
      is = g.is ∙ ap (with_records g.passed) (closes_here ver g.left place gate rest closed g.enough) ∙ reads_more g.passed ver [] place;
    }
