-- What reading a line of a transcript answers, from the one candidate for it.
use Rattle.std.proofs.Common.{◌≡◌, ◌≢◌, ℕ, true, Ok, Err, List, refl, ap, sym, subst, ◌∙◌}
use Rattle.tp_model.specs.declared.out_line.OutLine.{OutLine}
use Rattle.tp_model.specs.OutText.{out_text}
use Rattle.tp_model.specs.LineReading.{Form, Wrong, Outside, Well}
use Rattle.tp_schedule.specs.declared.line_fault.LineFault.{LineFault}
use Rattle.tp_schedule.specs.Answers.{Reads}
use Rattle.tp_transcript.specs.OutHasText.{out_has_text}
use Rattle.tp_transcript.specs.OutReading.{candidate, no_line, SaysOut}
use Rattle.tp_transcript.proofs.OutLinesBack.{out_back}
use Rattle.tp_transcript.proofs.OutGood.{candidate_good}

well : {A : Type 0} → (x : Form A) (a : A) → Reads x (Ok a) → x ≡ Well a
well Wrong a e = absurd cc
well Outside a e = absurd cc
well (Well b) a e = cc

pub one_value : (o p : OutLine) → out_has_text o ≡ true → out_has_text p ≡ true → out_text o ≡ out_text p → o ≡ p
one_value o p a b same = the_well (candidate (out_text p)) o p (sym (ap candidate same) ∙ out_back o a) (out_back p b)
  where
    the_well : (x : Form OutLine) (y z : OutLine) → x ≡ Well y → x ≡ Well z → y ≡ z
    the_well x y z i j = cc

-- the candidate is written with these bytes
pub said : (bs : List ℕ) (o : OutLine) → Reads (candidate bs) (Ok o) → out_text o ≡ bs → (out_has_text o ≡ true) × (out_text o ≡ bs)
said bs o reads is = (candidate_good bs o (well (candidate bs) o reads), is)

-- the candidate is written otherwise
pub written_otherwise : (bs : List ℕ) (o : OutLine) → Reads (candidate bs) (Ok o) → out_text o ≢ bs → (p : OutLine) → out_has_text p ≡ true → out_text p ≢ bs
written_otherwise bs o reads other p good is =
    let e : Well p ≡ Well o = sym (out_back p good) ∙ ap candidate is ∙ well (candidate bs) o reads in
    let f : p ≡ o = cc in
    other (ap out_text (sym f) ∙ is)

none_has : (bs : List ℕ) (f : LineFault) → Reads (candidate bs) (Err f) → f ≢ LineFault.NoMemory → (p : OutLine) → out_has_text p ≡ true → out_text p ≢ bs
none_has bs f reads other p good is = go (candidate bs) f (sym (ap candidate is) ∙ out_back p good) reads other
  where
    go : (x : Form OutLine) (e : LineFault) → x ≡ Well p → Reads x (Err e) → e ≢ LineFault.NoMemory → ⊥
    go x LineFault.NoMemory is_well reads other = other refl
    go x LineFault.Long is_well reads other = let e : Reads (Well p) (Err LineFault.Long) = subst (λ (y : Form OutLine). Reads y (Err LineFault.Long)) is_well reads in absurd cc
    go x LineFault.Word is_well reads other = let e : Reads (Well p) (Err LineFault.Word) = subst (λ (y : Form OutLine). Reads y (Err LineFault.Word)) is_well reads in absurd cc
    go x LineFault.Number is_well reads other = let e : Reads (Well p) (Err LineFault.Number) = subst (λ (y : Form OutLine). Reads y (Err LineFault.Number)) is_well reads in absurd cc

-- there is none
pub no_candidate : (bs : List ℕ) (f : LineFault) → Reads (candidate bs) (Err f) → SaysOut bs (Err (no_line f))
no_candidate bs LineFault.Long reads = none_has bs LineFault.Long reads (λ e. absurd cc)
no_candidate bs LineFault.Word reads = none_has bs LineFault.Word reads (λ e. absurd cc)
no_candidate bs LineFault.Number reads = none_has bs LineFault.Number reads (λ e. absurd cc)
no_candidate bs LineFault.NoMemory reads = tt
