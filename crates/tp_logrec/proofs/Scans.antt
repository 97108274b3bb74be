-- So many children are scanned one after the other.
use Rattle.std.proofs.Common.{◌≡◌, ℕ, suc, Result, Ok, Err, List, [], ◌∷◌, ◌++◌, refl, sym, ◌∙◌, ap, append_assoc}
use Rattle.tp_names.specs.declared.children.Child.{Child}
use Rattle.tp_names.specs.Scanning.{with_value, then_scan, scan_many, scan_child}
use Rattle.tp_logrec.specs.RecordScanning.{behind}

abbrev pub Scanned : Type 0
Scanned = Result (List Child × List ℕ) ℕ

abbrev pub next_child : ℕ → Result (Child × List ℕ) ℕ → Scanned
next_child k (Err left) = Err left
next_child k (Ok p) = with_value (λ rest. p.0 ∷ rest) (scan_many scan_child k p.1)

pub many_next : (k : ℕ) (bytes : List ℕ) → scan_many scan_child (suc k) bytes ≡ next_child k (scan_child bytes)
many_next k bytes = go (scan_child bytes)
  where
    go : (r : Result (Child × List ℕ) ℕ) → then_scan (with_value (λ (a : Child) (rest : List Child). a ∷ rest) r) (λ g rest. with_value g (scan_many scan_child k rest)) ≡ next_child k r
    go (Err left) = refl
    go (Ok p) = refl

pub behind_more : (front : List Child) (c : Child) (r : Scanned) → behind front (with_value (λ rest. c ∷ rest) r) ≡ behind (front ++ c ∷ []) r
behind_more front c (Err left) = refl
behind_more front c (Ok p) = ap (λ w. let s : Scanned = Ok (w, p.1) in s) (sym (append_assoc front (c ∷ []) p.0))

-- one child more
pub many_more : (front : List Child) (k : ℕ) (bytes : List ℕ) (c : Child) (rest : List ℕ) → scan_child bytes ≡ Ok (c, rest)
    → behind front (scan_many scan_child (suc k) bytes) ≡ behind (front ++ c ∷ []) (scan_many scan_child k rest)
many_more front k bytes c rest e = ap (behind front) (many_next k bytes ∙ ap (next_child k) e) ∙ behind_more front c (scan_many scan_child k rest)

-- and where none can be had
pub many_stops : (front : List Child) (k : ℕ) (bytes : List ℕ) (left : ℕ) → scan_child bytes ≡ Err left
    → behind front (scan_many scan_child (suc k) bytes) ≡ Err left
many_stops front k bytes left e = ap (behind front) (many_next k bytes ∙ ap (next_child k) e)
