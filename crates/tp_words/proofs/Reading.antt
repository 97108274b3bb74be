-- What is read, by what clap found.
use Rattle.std.proofs.Common.{◌≡◌, ◌∙◌, inl, inr, ◌&&◌, ℕ, Bool, true, false, List, [], ◌∷◌, Some, None, refl, ap, sym, subst}
use Rattle.std.specs.Prelude.{Result, Ok, Err, IfOk, MatchResult}
use Rattle.std.specs.List.{list_all}
use Rattle.std.specs.Result.{IsErrAnd}
use Rattle.clap.specs.Words.{Kinds, HasKind, IsAmong, fault_of, matches_of}
use Rattle.clap.specs.Values.{kind_of}
use Rattle.clap.specs.declared.error.Error.{Error}
use Rattle.clap.specs.declared.error.kind.ErrorKind.{ErrorKind}
use Rattle.tp_names.specs.Bytes.{is_site_name}
use Rattle.tp_words.specs.declared.command.Command.{Command}
use Rattle.tp_words.specs.declared.fault.WordsFault.{WordsFault}
use Rattle.tp_words.specs.declared.command_line.Given.{Given}
use Rattle.tp_words.specs.Faults.{fault_by}
use Rattle.tp_words.specs.CommandLine.{program, Said, said, said_unless, alone, found_in}
use Rattle.tp_words.specs.Asked.{is_line, IsAsked, Asks}
use Rattle.tp_words.specs.Given.{AnswersTo, IsSaid}
use Rattle.tp_words.specs.Plain.{Setting, Name, Number, Nodes, Rounds, IsPlain, settings_typed, is_in_range, with_setting, with_settings}
use Rattle.tp_words.proofs.PlainWalk.{plain_taken}

-- what `read` ensures
pub record Reads (words : List (List ℕ)) (r : Result Command WordsFault) : Type 0 where
  pub ok : IfOk r (Asks (said words))
  pub usage : r ≡ Err WordsFault.Usage → is_line (said words) ≡ false
  pub plain : (word : List ℕ) (settings : List Setting) → IsPlain word settings → words ≡ word ∷ settings_typed settings
      → MatchResult r (IsAsked (with_settings (alone word) settings)) (λ fault. fault ≡ WordsFault.NoMemory)

pub plain_said : (word : List ℕ) (settings : List Setting) → IsPlain word settings → said (word ∷ settings_typed settings) ≡ Some (with_settings (alone word) settings)
plain_said word settings plain =
    let t = plain_taken word settings plain in
    rw (t.passes, t.finds) refl

-- ---- clap refuses

none_said : (words : List (List ℕ)) (k : ErrorKind) (ks : Kinds) (rows : _) → IsAmong k ks → said_unless ks rows ≡ None
none_said words k [] rows among = absurd among
none_said words k (x ∷ xs) rows among = refl

refused_usage : (words : List (List ℕ)) (e : Error) (fault : WordsFault) → HasKind (fault_of program words) e → fault ≡ fault_by (kind_of e)
    → fault ≡ WordsFault.Usage → is_line (said words) ≡ false
refused_usage words e fault (inl memory) by is = let n : WordsFault.NoMemory ≡ WordsFault.Usage = sym (by ∙ ap fault_by memory) ∙ is in cc
refused_usage words e fault (inr among) by is = ap is_line (none_said words (kind_of e) (fault_of program words) (matches_of program words) among)

refused_plain : (words : List (List ℕ)) (e : Error) (fault : WordsFault) → HasKind (fault_of program words) e → fault ≡ fault_by (kind_of e)
    → (word : List ℕ) (settings : List Setting) → IsPlain word settings → words ≡ word ∷ settings_typed settings → fault ≡ WordsFault.NoMemory
refused_plain words e fault (inl memory) by word settings plain is = by ∙ ap fault_by memory
refused_plain words e fault (inr among) by word settings plain is =
    let none : fault_of program words ≡ [] = ap (fault_of program) is ∙ (plain_taken word settings plain).passes in
    absurd (subst (IsAmong (kind_of e)) none among)

refused : (words : List (List ℕ)) (e : Error) (fault : WordsFault) → HasKind (fault_of program words) e → fault ≡ fault_by (kind_of e) → Reads words (Err fault)
refused words e fault has by = record {
  ok = tt;
  usage = λ is.
      let same : fault ≡ WordsFault.Usage = ap (λ (r : Result Command WordsFault). elim r [ Ok c ↦ fault | Err f ↦ f ]) is in
      refused_usage words e fault has by same;
  plain = refused_plain words e fault has by;
}

pub refused_by : (words : List (List ℕ)) (e : Error) (r : Result Command WordsFault) → HasKind (fault_of program words) e
    → IsErrAnd r (λ fault. fault ≡ fault_by (kind_of e)) → Reads words r
refused_by words e (Err fault) has by = refused words e fault has by
refused_by words e (Ok c) has by = absurd by

-- ---- clap takes the words

word_stays : (s : Said) (settings : List Setting) → (with_settings s settings).word ≡ s.word
word_stays s [] = refl
word_stays s (Name n ∷ os) = word_stays (with_setting s (Name n)) os
word_stays s (Number n ∷ os) = word_stays (with_setting s (Number n)) os
word_stays s (Nodes n ∷ os) = word_stays (with_setting s (Nodes n)) os
word_stays s (Rounds n ∷ os) = word_stays (with_setting s (Rounds n)) os

both : (a b : Bool) → (a && b) ≡ true → (a ≡ true) × (b ≡ true)
both true b h = (refl, h)
both false b h = let n : false ≡ true = h in cc

name_stays : (s : Said) (settings : List Setting) → is_site_name s.name ≡ true → list_all is_in_range settings ≡ true → is_site_name (with_settings s settings).name ≡ true
name_stays s [] site ranges = site
name_stays s (Name n ∷ os) site ranges = let r = both (is_site_name n) (list_all is_in_range os) ranges in name_stays (with_setting s (Name n)) os r.0 r.1
name_stays s (Number n ∷ os) site ranges = name_stays (with_setting s (Number n)) os site (both (is_in_range (Number n)) (list_all is_in_range os) ranges).1
name_stays s (Nodes n ∷ os) site ranges = name_stays (with_setting s (Nodes n)) os site (both (is_in_range (Nodes n)) (list_all is_in_range os) ranges).1
name_stays s (Rounds n ∷ os) site ranges = name_stays (with_setting s (Rounds n)) os site (both (is_in_range (Rounds n)) (list_all is_in_range os) ranges).1

plain_line : (word : List ℕ) (settings : List Setting) → IsPlain word settings → is_line (Some (with_settings (alone word) settings)) ≡ true
plain_line word settings plain =
    rw (word_stays (alone word) settings, plain.command, name_stays (alone word) settings refl plain.ranges) refl

some_injective : (a b : Said) → Some a ≡ Some b → a ≡ b
some_injective a b e = cc

pub taken : (words : List (List ℕ)) (g : Given) (c : Command) → fault_of program words ≡ [] → IsSaid (found_in (matches_of program words)) g
    → ((s : Said) → IsSaid s g → AnswersTo s (Some c)) → Reads words (Ok c)
taken words g c none is asked =
    let s : Said = found_in (matches_of program words) in
    let says : said words ≡ Some s = ap (λ ks. said_unless ks (matches_of program words)) none in
    record {
      ok = (s, says, (asked s is).0, (asked s is).1);
      usage = λ e. cc;
      plain = λ word settings plain e.
          let same : s ≡ with_settings (alone word) settings = some_injective _ _ (sym says ∙ ap said e ∙ plain_said word settings plain) in
          subst (λ t. IsAsked t c) same (asked s is).1;
    }

pub unknown : (words : List (List ℕ)) (g : Given) → fault_of program words ≡ [] → IsSaid (found_in (matches_of program words)) g
    → ((s : Said) → IsSaid s g → AnswersTo s None) → Reads words (Err WordsFault.Usage)
unknown words g none is asked =
    let s : Said = found_in (matches_of program words) in
    let says : said words ≡ Some s = ap (λ ks. said_unless ks (matches_of program words)) none in
    record {
      ok = tt;
      usage = λ _. ap is_line says ∙ asked s is;
      plain = λ word settings plain e.
          let same : s ≡ with_settings (alone word) settings = some_injective _ _ (sym says ∙ ap said e ∙ plain_said word settings plain) in
          let n : true ≡ false = sym (plain_line word settings plain) ∙ subst (λ t. is_line (Some t) ≡ false) same (asked s is) in
          cc;
    }
