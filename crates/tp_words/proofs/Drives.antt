-- What `read_drive` answers, by what clap found.
use Rattle.std.proofs.Common.{◌≡◌, ◌∙◌, inl, inr, ℕ, Bool, true, false, if◌then◌else◌, List, [], ◌∷◌, Option, Some, None, refl, ap, sym, subst}
use Rattle.std.specs.Prelude.{Result, Ok, Err, MatchResult}
use Rattle.std.specs.List.{list_all}
use Rattle.std.specs.Result.{IsErrAnd}
use Rattle.clap.specs.Words.{Kinds, HasKind, IsAmong, fault_of, matches_of}
use Rattle.clap.specs.Values.{kind_of}
use Rattle.clap.specs.declared.error.Error.{Error}
use Rattle.clap.specs.declared.error.kind.ErrorKind.{ErrorKind}
use Rattle.tp_names.specs.Bytes.{is_site_name}
use Rattle.tp_words.specs.declared.drive.Drive.{Drive}
use Rattle.tp_words.specs.declared.fault.WordsFault.{WordsFault}
use Rattle.tp_words.specs.Faults.{fault_by}
use Rattle.tp_words.specs.DriveLine.{drive_program, SaidDrive, drive_said, drive_unless, found_drive, is_drive, AnswersDrive, AsksDrive, IsDriveAsked}
use Rattle.tp_words.specs.DrivePlain.{DriveSetting, Site, Workers, IsPlainDrive, drive_default, drive_typed, is_drive_in_range, with_drive, with_drives}
use Rattle.tp_words.proofs.DriveWalk.{drive_taken}
use Rattle.tp_words.proofs.PlainWalk.{both}

-- ---- the name

abbrev site_when : Bool → List ℕ → Option (List ℕ)
site_when b s = if b then Some s else None

when_none : (b : Bool) (s : List ℕ) → site_when b s ≡ None → b ≡ false
when_none true s e = absurd (let n : Some s ≡ None = e in cc)
when_none false s e = refl

when_some : (b : Bool) (s n : List ℕ) → site_when b s ≡ Some n → (b ≡ true) × (n ≡ s)
when_some true s n e = (refl, let same : Some s ≡ Some n = e in cc)
when_some false s n e = absurd (let bad : None ≡ Some n = e in cc)

pub no_site : (s : List ℕ) → (if is_site_name s then Some s else None) ≡ None → is_site_name s ≡ false
no_site s e = when_none (is_site_name s) s e

pub a_site : (s n : List ℕ) → (if is_site_name s then Some s else None) ≡ Some n → (is_site_name s ≡ true) × (n ≡ s)
a_site s n e = when_some (is_site_name s) s n e

-- ---- the words

none_said : (k : ErrorKind) (ks : Kinds) (rows : _) → IsAmong k ks → drive_unless ks rows ≡ None
none_said k [] rows among = absurd among
none_said k (x ∷ xs) rows among = refl

pub refused_by : (words : List (List ℕ)) (e : Error) (r : Result Drive WordsFault) → HasKind (fault_of drive_program words) e
    → IsErrAnd r (λ fault. fault ≡ fault_by (kind_of e)) → r ≡ Err WordsFault.Usage → is_drive (drive_said words) ≡ false
refused_by words e (Ok d) has by is = absurd by
refused_by words e (Err fault) (inl memory) by is =
    let same : fault ≡ WordsFault.Usage = ap (λ (r : Result Drive WordsFault). elim r [ Ok d ↦ fault | Err f ↦ f ]) is in
    let n : WordsFault.NoMemory ≡ WordsFault.Usage = sym (by ∙ ap fault_by memory) ∙ same in
    cc
refused_by words e (Err fault) (inr among) by is = ap is_drive (none_said (kind_of e) (fault_of drive_program words) (matches_of drive_program words) among)

says : (words : List (List ℕ)) → fault_of drive_program words ≡ [] → drive_said words ≡ Some (found_drive (matches_of drive_program words))
says words none = ap (λ ks. drive_unless ks (matches_of drive_program words)) none

pub taken : (words : List (List ℕ)) (d : Drive) → fault_of drive_program words ≡ [] → AnswersDrive (found_drive (matches_of drive_program words)) (Some d) → AsksDrive (drive_said words) d
taken words d none asked = (found_drive (matches_of drive_program words), says words none, asked.0, asked.1)

pub unknown : (words : List (List ℕ)) → fault_of drive_program words ≡ [] → AnswersDrive (found_drive (matches_of drive_program words)) None → is_drive (drive_said words) ≡ false
unknown words none asked = ap is_drive (says words none) ∙ asked

-- ---- plain words

pub record ReadsPlain (words : List (List ℕ)) (r : Result Drive WordsFault) : Type 0 where
  pub plain : (settings : List DriveSetting) → IsPlainDrive settings → words ≡ drive_typed settings
      → MatchResult r (IsDriveAsked (with_drives drive_default settings)) (λ fault. fault ≡ WordsFault.NoMemory)

pub refused_plain : (words : List (List ℕ)) (e : Error) (r : Result Drive WordsFault) → HasKind (fault_of drive_program words) e
    → IsErrAnd r (λ fault. fault ≡ fault_by (kind_of e)) → ReadsPlain words r
refused_plain words e (Ok d) has by = absurd by
refused_plain words e (Err fault) (inl memory) by = record { plain = λ settings plain is. by ∙ ap fault_by memory }
refused_plain words e (Err fault) (inr among) by = record {
  plain = λ settings plain is.
      let none : fault_of drive_program words ≡ [] = ap (fault_of drive_program) is ∙ (drive_taken settings plain).passes in
      absurd (subst (IsAmong (kind_of e)) none among);
}

found_plain : (words : List (List ℕ)) (settings : List DriveSetting) → IsPlainDrive settings → words ≡ drive_typed settings → found_drive (matches_of drive_program words) ≡ with_drives drive_default settings
found_plain words settings plain is = ap (λ w. found_drive (matches_of drive_program w)) is ∙ (drive_taken settings plain).finds

name_stays : (s : SaidDrive) (settings : List DriveSetting) → is_site_name s.name ≡ true → list_all is_drive_in_range settings ≡ true → is_site_name (with_drives s settings).name ≡ true
name_stays s [] site ranges = site
name_stays s (Site n ∷ os) site ranges = let r = both (is_site_name n) (list_all is_drive_in_range os) ranges in name_stays (with_drive s (Site n)) os r.0 r.1
name_stays s (Workers n ∷ os) site ranges = name_stays (with_drive s (Workers n)) os site (both (is_drive_in_range (Workers n)) (list_all is_drive_in_range os) ranges).1

pub taken_plain : (words : List (List ℕ)) (d : Drive) → AnswersDrive (found_drive (matches_of drive_program words)) (Some d) → ReadsPlain words (Ok d)
taken_plain words d asked = record { plain = λ settings plain is. subst (λ s. IsDriveAsked s d) (found_plain words settings plain is) asked.1 }

pub unknown_plain : (words : List (List ℕ)) → AnswersDrive (found_drive (matches_of drive_program words)) None → ReadsPlain words (Err WordsFault.Usage)
unknown_plain words asked = record {
  plain = λ settings plain is.
      let n : true ≡ false = sym (name_stays drive_default settings refl plain.ranges) ∙ subst (λ s. is_site_name s.name ≡ false) (found_plain words settings plain is) asked in
      cc;
}
