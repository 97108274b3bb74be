-- A body that is decoded: a record's whole text, or none.
use Rattle.std.proofs.Common.{◌≡◌, ◌≢◌, ◌<◌, ℕ, Option, Some, None, List, [], ◌∷◌, ◌++◌, length, drop, refl, sym, ap, ◌∙◌, arith, length-drop, take-append-drop}
use Rattle.std.proofs.lemmas.List.{take_all, append-nil}
use Rattle.tp_names.specs.Places.{AreBytes}
use Rattle.tp_names.specs.Grammar.{Begins, IsBadAt, IsGrammar}
use Rattle.tp_names.proofs.Texts.{is_grammar}
use Rattle.tp_logrec.specs.declared.record.LogRec.{LogRec}
use Rattle.tp_logrec.specs.declared.record.LogVersion.{LogVersion}
use Rattle.tp_logrec.specs.RecordText.{record_bytes}
use Rattle.tp_logrec.specs.RecordReading.{record_grammar, record_in, read_record, whole}
use Rattle.tp_logrec.proofs.RecordScans.{record_scan}
use Rattle.tp_logrec.proofs.RecordWritten.{record_written}

texts : (ver : LogVersion) → IsGrammar (record_grammar ver)
texts ver = is_grammar (record_grammar ver) (record_scan ver).steady (record_written ver)

pub whole_text : (ver : LogVersion) (body : List ℕ) (rec : LogRec) (n : ℕ) → Begins (record_grammar ver) rec n body → n ≡ length body → record_bytes ver rec ≡ body
whole_text ver body rec n begins is = begins.1.1 ∙ take_all n body (omega (arith, is))

not_whole : (rec : LogRec) (rest : List ℕ) → 0 < length rest → whole (Some (rec, rest)) ≡ None
not_whole rec [] some = absurd (omega arith)
not_whole rec (b ∷ rest) some = refl

-- a text with more after it is no whole text
pub front_text : (ver : LogVersion) (body : List ℕ) (rec : LogRec) (n : ℕ) → Begins (record_grammar ver) rec n body → n ≢ length body → record_in ver body ≡ None
front_text ver body rec n begins differs =
    let parts : record_bytes ver rec ++ drop n body ≡ body = ap (λ l. l ++ drop n body) begins.1.1 ∙ take-append-drop n body in
    let reads : read_record ver body ≡ Some (rec, drop n body) = ap (read_record ver) (sym parts) ∙ (texts ver).read_back rec (drop n body) begins.1.0 in
    let some : 0 < length (drop n body) = omega (arith, length-drop n body, begins.0, differs) in
    ap whole reads ∙ not_whole rec (drop n body) some

whole_is : (o : Option (LogRec × List ℕ)) (rec : LogRec) → whole o ≡ Some rec → o ≡ Some (rec, [])
whole_is None rec is = absurd cc
whole_is (Some p) rec is = go p.1 refl is
  where
    go : (rest : List ℕ) → p.1 ≡ rest → (elim rest as (λ _. Option LogRec) [ [] ↦ Some p.0 | b ∷ bytes ↦ None ]) ≡ Some rec → Some p ≡ Some (rec, [])
    go [] at is = let e : p.0 ≡ rec = cc in ap Some (rw (← e, ← at) refl)
    go (b ∷ bytes) at is = absurd cc

pub no_text : (ver : LogVersion) (body : List ℕ) (at : ℕ) → AreBytes body → IsBadAt (record_grammar ver) body at → record_in ver body ≡ None
no_text ver body at fits bad = go (record_in ver body) refl
  where
    go : (o : Option LogRec) → record_in ver body ≡ o → record_in ver body ≡ None
    go None is = is
    go (Some rec) is =
        let reads : read_record ver body ≡ Some (rec, []) = whole_is (read_record ver body) rec is in
        let written = (texts ver).written rec body [] fits reads in
        absurd (bad.no_text rec (length body) (omega arith, (written.0, sym (append-nil (record_bytes ver rec)) ∙ sym written.1 ∙ sym (take_all (length body) body (omega arith)))))
