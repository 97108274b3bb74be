-- The outputs of an event as they go out.
use Rattle.std.proofs.Common.{◌≡◌, ℕ, List, [], ◌∷◌, ◌++◌, map, refl, ap, sym, subst, ◌∙◌, append_assoc}
use Rattle.tp_records.specs.declared.body.Output.{Output}
use Rattle.tp_model.specs.Parts.{Out as OutValue, Tell, Send}
use Rattle.tp_model.specs.NodeRun.{outputs_of}
use Rattle.tp_node_state.specs.declared.outs.Out.{Out}
use Rattle.tp_node_state.specs.Outs.{out_of}
use Rattle.tp_encodable.specs.Sizes.{IsShort, AreShort}
use Rattle.tp_site.specs.Events.{opening_at, output_of}

one_out : (name : List ℕ) (n : ℕ) (x : OutValue) (xs : List OutValue) → outputs_of (opening_at name) n (x ∷ xs) ≡ output_of name n x ∷ outputs_of (opening_at name) n xs
one_out name n (Tell i) xs = refl
one_out name n (Send to r) xs = refl

-- what is made so far, and what is left to make
abbrev pub IsGoing : List ℕ → ℕ → List Output → List Output → List Out → Type 0
IsGoing name n whole made left = made ++ outputs_of (opening_at name) n (map out_of left) ≡ whole

pub going_on : (name : List ℕ) (n : ℕ) (whole made : List Output) (x : Out) (left rest : List Out) (one : Output) (more : List Output) → left ≡ x ∷ rest → one ≡ output_of name n (out_of x) → more ≡ made ++ one ∷ []
    → IsGoing name n whole made left → IsGoing name n whole more rest
going_on name n whole made x left rest one more first is pushed was =
    ap (λ (l : List Output). l ++ outputs_of (opening_at name) n (map out_of rest)) (pushed ∙ ap (λ (y : Output). made ++ y ∷ []) is)
    ∙ append_assoc made (output_of name n (out_of x) ∷ []) (outputs_of (opening_at name) n (map out_of rest))
    ∙ ap (λ (l : List Output). made ++ l) (sym (one_out name n (out_of x) (map out_of rest)))
    ∙ ap (λ (l : List Out). made ++ outputs_of (opening_at name) n (map out_of l)) (sym first)
    ∙ was

-- what is left to make has texts
pub short_all : (items : List Out) (outs : List OutValue) → map out_of items ≡ outs → AreShort outs → AreShort (map out_of items)
short_all items outs is h = subst AreShort (sym is) h

pub short_first : (left rest : List Out) (x : Out) → left ≡ x ∷ rest → AreShort (map out_of left) → IsShort (out_of x)
short_first left rest x is h = (subst (λ (l : List Out). AreShort (map out_of l)) is h).0

pub short_rest : (left rest : List Out) (x : Out) → left ≡ x ∷ rest → AreShort (map out_of left) → AreShort (map out_of rest)
short_rest left rest x is h = (subst (λ (l : List Out). AreShort (map out_of l)) is h).1
