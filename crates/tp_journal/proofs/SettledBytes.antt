-- What a settle leaves of a file is what forcing each body in turn leaves.
use Rattle.std.proofs.Common.{◌≡◌, ◌≤◌, ◌<◌, ℕ, suc, ◌+◌, List, [], ◌∷◌, ◌++◌, length, take, drop, refl, sym, ap, ◌∙◌, arith, append_assoc, length-append, length-take}
use Rattle.std.proofs.lemmas.List.{take_at, drop_at, drop-drop}
use Rattle.tp_journal.specs.Log.{counted, blocks, forced_bytes, settled_bytes}
use Rattle.tp_journal.specs.Stops.{with_gate}
use Rattle.tp_journal.proofs.Appending.{one_block}

past : (front rest : List ℕ) (n k m : ℕ) → length front ≡ n → m ≡ n + suc k → drop m (front ++ (0 ∷ rest)) ≡ drop k rest
past front rest n k m long is =
    ap (λ (j : ℕ). drop j (front ++ (0 ∷ rest))) is ∙ sym (drop-drop (suc k) n (front ++ (0 ∷ rest))) ∙ ap (λ (l : List ℕ). drop (suc k) l) (drop_at front (0 ∷ rest) n long)

settled_is : (gate : ℕ) (body : List ℕ) (more : List (List ℕ)) (file : List ℕ) → gate ≤ length file
    → settled_bytes gate (body ∷ more) file ≡ take gate file ++ ((blocks (body ∷ more) ++ 0 ∷ []) ++ drop (gate + 1 + length (blocks (body ∷ more))) file)
settled_is gate body [] file within =
    let front : 1 ∷ (counted body ++ 0 ∷ []) ≡ blocks (body ∷ []) ++ 0 ∷ [] = one_block body (counted body ++ 0 ∷ []) refl in
    let long : gate + 4 + length body ≡ gate + 1 + length (blocks (body ∷ [])) = omega (arith, ap length front, length-append (counted body) (0 ∷ []), length-append (blocks (body ∷ [])) (0 ∷ [])) in
    ap (λ (l : List ℕ). take gate file ++ (l ++ drop (gate + 4 + length body) file)) front ∙ ap (λ (n : ℕ). take gate file ++ ((blocks (body ∷ []) ++ 0 ∷ []) ++ drop n file)) long
settled_is gate body (next ∷ more) file within =
    let rest = drop (gate + 4 + length body) file in
    let front = take gate file ++ (1 ∷ counted body) in
    let here = gate + 3 + length body in
    let then = blocks (next ∷ more) in
    let mid = forced_bytes gate body file in
    let end = gate + 1 + length (blocks (body ∷ next ∷ more)) in
    let parts : mid ≡ front ++ (0 ∷ rest) =
    ap (λ (l : List ℕ). take gate file ++ (1 ∷ l)) (append_assoc (counted body) (0 ∷ []) rest) ∙ sym (append_assoc (take gate file) (1 ∷ counted body) (0 ∷ rest)) in
    let long : length front ≡ here = omega (arith, length-append (take gate file) (1 ∷ counted body), length-take gate file, within) in
    let longer : here ≤ length mid = omega (arith, ap length parts, length-append front (0 ∷ rest), long) in
    let before : take here mid ≡ front = ap (λ (l : List ℕ). take here l) parts ∙ take_at front (0 ∷ rest) here long in
    let count : gate + 4 + length body + length then ≡ end = omega (arith, length-append (1 ∷ counted body) then) in
    let after : drop (here + 1 + length then) mid ≡ drop end file =
    ap (λ (l : List ℕ). drop (here + 1 + length then) l) parts ∙ past front rest here (length then) (here + 1 + length then) long (omega arith)
    ∙ drop-drop (length then) (gate + 4 + length body) file ∙ ap (λ (n : ℕ). drop n file) count in
    settled_is here next more mid longer
    ∙ ap (λ (l : List ℕ). l ++ ((then ++ 0 ∷ []) ++ drop (here + 1 + length then) mid)) before
    ∙ ap (λ (l : List ℕ). front ++ ((then ++ 0 ∷ []) ++ l)) after
    ∙ append_assoc (take gate file) (1 ∷ counted body) ((then ++ 0 ∷ []) ++ drop end file)
    ∙ ap (λ (l : List ℕ). take gate file ++ l) (sym (append_assoc (1 ∷ counted body) (then ++ 0 ∷ []) (drop end file)))
    ∙ ap (λ (l : List ℕ). take gate file ++ (l ++ drop end file)) (sym (append_assoc (1 ∷ counted body) then (0 ∷ [])))

pub opened_all : (gate : ℕ) (more : List (List ℕ)) (piece file : List ℕ) → 0 < length more → gate ≤ length file → 1 ∷ piece ≡ blocks more ++ 0 ∷ [] → with_gate gate piece file ≡ settled_bytes gate more file
opened_all gate [] piece file some within is = absurd (omega arith)
opened_all gate (body ∷ more) piece file some within is =
    let long : gate + 1 + length piece ≡ gate + 1 + length (blocks (body ∷ more)) = omega (arith, ap length is, length-append (blocks (body ∷ more)) (0 ∷ [])) in
    ap (λ (l : List ℕ). take gate file ++ (l ++ drop (gate + 1 + length piece) file)) is
    ∙ ap (λ (n : ℕ). take gate file ++ ((blocks (body ∷ more) ++ 0 ∷ []) ++ drop n file)) long
    ∙ sym (settled_is gate body more file within)
