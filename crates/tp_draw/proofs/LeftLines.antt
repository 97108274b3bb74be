-- A line that is left, in the list of those that are.
use Rattle.std.proofs.Common.{◌≡◌, ℕ, Bool, true, false, if◌then◌else◌, List, [], ◌∷◌, ◌++◌, ap, sym, ◌∙◌, append_assoc}
use Rattle.tp_model.specs.declared.out_line.OutLine.{OutLine}
use Rattle.tp_draw.specs.declared.lane.Lane.{Lane}
use Rattle.tp_draw.specs.declared.subject.Subject.{Subject}
use Rattle.tp_draw.specs.Subjects.{subject_of}
use Rattle.tp_draw.specs.Chosen.{with_frame, is_left, left_of}

pub one_left : (ns : List ℕ) (ls : List Lane) (fs gs : List ℕ) (before after : Bool) (items rest : List OutLine) (o : OutLine) (s : Subject) (kept more all : List OutLine)
    → items ≡ o ∷ rest → s ≡ subject_of o → after ≡ is_left ns ls fs before s → after ≡ true → gs ≡ with_frame o fs → more ≡ kept ++ o ∷ []
    → kept ++ left_of ns ls fs before items ≡ all → more ++ left_of ns ls gs after rest ≡ all
one_left ns ls fs gs before after items rest o s kept more all first whom test is framed pushed was =
    let is_so : is_left ns ls fs before (subject_of o) ≡ true = ap (λ (t : Subject). is_left ns ls fs before t) (sym whom) ∙ sym test ∙ is in
    let step : left_of ns ls fs before (o ∷ rest) ≡ o ∷ left_of ns ls (with_frame o fs) true rest =
    ap (λ (b : Bool). if b then o ∷ left_of ns ls (with_frame o fs) true rest else left_of ns ls fs false rest) is_so in
    ap (λ (l : List OutLine). l ++ left_of ns ls gs after rest) pushed
    ∙ append_assoc kept (o ∷ []) (left_of ns ls gs after rest)
    ∙ ap (λ (g : List ℕ). kept ++ o ∷ left_of ns ls g after rest) framed
    ∙ ap (λ (b : Bool). kept ++ o ∷ left_of ns ls (with_frame o fs) b rest) is
    ∙ ap (λ (l : List OutLine). kept ++ l) (sym step)
    ∙ ap (λ (l : List OutLine). kept ++ left_of ns ls fs before l) (sym first)
    ∙ was
