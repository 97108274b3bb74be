-- One more body is read.
use Rattle.std.proofs.Common.{◌≡◌, ℕ, ◌-◌, ◌<◌, List, [], ◌∷◌, ◌++◌, length, take, drop, get_or, true, ◌+◌, arith, length-append, sym, ap, ◌∙◌, subst, append_assoc}
use Rattle.std.proofs.lemmas.List.{append-nil, drop_more, take_rest}
use Rattle.std.proofs.Math.Seq.{take-append_seam}
use Rattle.std.specs.List.{AllByRecursion}
use Rattle.tp_journal.specs.Log.{IsBody, counted, blocks, place_behind}
use Rattle.tp_journal.specs.Foreign.{Grammar, ArePassed}
use Rattle.tp_journal.specs.Read.{Takes}
use Rattle.tp_journal.proofs.Appending.{blocks-push, each-push}

pub passed-push : (accepts : Grammar) (before bodies : List (List ℕ)) (body : List ℕ) → ArePassed accepts before bodies → accepts (before ++ bodies) body ≡ true → ArePassed accepts before (bodies ++ body ∷ [])
passed-push accepts before [] body all is = (subst (λ l. accepts l body ≡ true) (append-nil before) is, tt)
passed-push accepts before (b ∷ bodies) body all is =
    (all.0, passed-push accepts (before ++ b ∷ []) bodies body all.1 (subst (λ l. accepts l body ≡ true) (sym (append_assoc before (b ∷ []) bodies)) is))

-- an open gate and what follows
opens : (rest : List ℕ) → 0 < length rest → get_or rest 0 0 ≡ 1 → rest ≡ 1 ∷ take (length rest - 1) (drop 1 rest)
opens rest some is =
    let e : rest ≡ get_or rest 0 0 ∷ drop 1 rest = drop_more rest 0 0 some in
    e ∙ ap (λ (g : ℕ). g ∷ drop 1 rest) is ∙ ap (λ (l : List ℕ). 1 ∷ l) (sym (take_rest rest 1))

module _ (accepts : Grammar) (old new : List (List ℕ)) (body : List ℕ) (taken : Takes accepts old body new true) where
  pub whole_more : (text rest behind : List ℕ) → text ≡ blocks old ++ rest → 0 < length rest → get_or rest 0 0 ≡ 1 → take (length rest - 1) (drop 1 rest) ≡ counted body ++ behind → text ≡ blocks new ++ behind
  whole_more text rest behind whole some is found =
      whole ∙ ap (λ (l : List ℕ). blocks old ++ l) (opens rest some is ∙ ap (λ (l : List ℕ). 1 ∷ l) found)
      ∙ sym (append_assoc (blocks old) (1 ∷ counted body) behind)
      ∙ ap (λ (l : List ℕ). l ++ behind) (sym (blocks-push old body) ∙ ap blocks (sym taken.1))

  pub each_more : AllByRecursion IsBody old → IsBody body → AllByRecursion IsBody new
  each_more all is = subst (AllByRecursion IsBody) (sym taken.1) (each-push old body all is)

  pub passed_more : ArePassed accepts [] old → ArePassed accepts [] new
  passed_more all = subst (ArePassed accepts []) (sym taken.1) (passed-push accepts [] old body all taken.0)

-- the closing gate after one more body
pub place_more : (old new : List (List ℕ)) (body : List ℕ) → new ≡ old ++ body ∷ [] → (gate : ℕ) → gate ≡ place_behind old → gate + 4 + length body - 1 ≡ place_behind new
place_more old new body longer gate is =
    let size : length (blocks new) ≡ length (blocks old) + 3 + length body =
    ap (λ (l : List (List ℕ)). length (blocks l)) longer ∙ ap length (blocks-push old body) ∙ omega (arith, length-append (blocks old) (1 ∷ counted body)) in
    omega (arith, size, is)

-- the body in what is written for it
pub body_in_piece : (len : ℕ) (body piece : List ℕ) → len ≡ length body → piece ≡ counted body ++ 0 ∷ [] → take (2 + len - 2) (drop 2 piece) ≡ body
body_in_piece len body piece long is =
    let count : 2 + len - 2 ≡ length body = omega (arith, long) in
    ap (λ (n : ℕ). take n (drop 2 piece)) count ∙ ap (λ (l : List ℕ). take (length body) (drop 2 l)) is ∙ take-append_seam body (0 ∷ [])
