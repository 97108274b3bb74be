-- What of the lines is written, piece by piece.
use Rattle.std.proofs.Common.{◌≡◌, ℕ, OnOk, OnErr, Result, Ok, Err, Option, Some, List, [], ◌++◌, map, Vec, refl, sym, ap, ◌∙◌, append_assoc, append-nil}
use Rattle.std.specs.declared.alloc.Global.{Global}
use Rattle.tp_streams.specs.Written.{WritesPrefix}
use Rattle.tp_bound.specs.Content.{Content}
use Rattle.tp_keys.specs.Printing.{WritesPart}

abbrev pub Bytes : Type 0
Bytes = Vec ℕ Global

-- what the entries of a table show
abbrev pub shown : List (Bytes × Bytes) → Content
shown es = map (λ e. (e.0.items, e.1.items)) es

-- ---- answers

pub where_ok : {A E P Q : Type 0} (r : Result A E) → (P → Q) → OnOk r P → OnOk r Q
where_ok (Ok a) f x = f x
where_ok (Err e) f x = x

pub where_err : {A E P Q : Type 0} (r : Result A E) → (P → Q) → OnErr r P → OnErr r Q
where_err (Ok a) f x = x
where_err (Err e) f x = f x

pub anyway : {A E P : Type 0} (r : Result A E) → P → OnErr r P
anyway (Ok a) p = tt
anyway (Err e) p = p

-- ---- bytes

pub nothing_written : (before all : List ℕ) (new : Option (List ℕ)) → new ≡ Some before → WritesPart before all all new
nothing_written before all new is = ([], refl, is ∙ ap (λ (t : List ℕ). Some t) (sym (append-nil before)))

pub part_more : (before all text text1 text2 line rest : List ℕ) (mid new : Option (List ℕ)) → WritesPart before all (text ++ (line ++ rest)) mid → text1 ≡ text ++ line
    → ((b : List ℕ) → mid ≡ Some b → WritesPart b text1 text2 new) → WritesPart before all (text2 ++ rest) new
part_more before all text text1 text2 line rest mid new x is next =
    let y = next (before ++ x.0) x.2 in
    let left : text ++ (line ++ rest) ≡ y.0 ++ (text2 ++ rest) = sym (append_assoc text line rest) ∙ ap (λ (t : List ℕ). t ++ rest) (sym is ∙ y.1) ∙ append_assoc y.0 text2 rest in (
      x.0 ++ y.0,
      x.1 ∙ ap (λ (t : List ℕ). x.0 ++ t) left ∙ sym (append_assoc x.0 y.0 (text2 ++ rest)),
      y.2 ∙ ap (λ (t : List ℕ). Some t) (append_assoc before x.0 y.0),
    )

pub stops_here : (before all left : List ℕ) (new : Option (List ℕ)) → WritesPart before all left new → WritesPrefix before all new
stops_here before all left new x = (x.0, (left, x.1), x.2)

pub stops_in : (before all text text1 line rest : List ℕ) (mid new : Option (List ℕ)) → WritesPart before all (text ++ (line ++ rest)) mid → text1 ≡ text ++ line
    → ((b : List ℕ) → mid ≡ Some b → WritesPrefix b text1 new) → WritesPrefix before all new
stops_in before all text text1 line rest mid new x is next =
    let y = next (before ++ x.0) x.2 in
    let left : text ++ (line ++ rest) ≡ y.0 ++ (y.1.0 ++ rest) = sym (append_assoc text line rest) ∙ ap (λ (t : List ℕ). t ++ rest) (sym is ∙ y.1.1) ∙ append_assoc y.0 y.1.0 rest in (
      x.0 ++ y.0,
      (y.1.0 ++ rest, x.1 ∙ ap (λ (t : List ℕ). x.0 ++ t) left ∙ sym (append_assoc x.0 y.0 (y.1.0 ++ rest))),
      y.2 ∙ ap (λ (t : List ℕ). Some t) (append_assoc before x.0 y.0),
    )

pub stops_last : (before all text : List ℕ) (mid new : Option (List ℕ)) → WritesPart before all (text ++ []) mid → ((b : List ℕ) → mid ≡ Some b → WritesPrefix b text new) → WritesPrefix before all new
stops_last before all text mid new x next = stops_in before all text text [] [] mid new x (sym (append-nil text)) next

pub whole : (before all text : List ℕ) (mid new : Option (List ℕ)) → WritesPart before all (text ++ []) mid → ((b : List ℕ) → mid ≡ Some b → new ≡ Some (b ++ text)) → new ≡ Some (before ++ all)
whole before all text mid new x next =
    let spelled : x.0 ++ text ≡ all = ap (λ (t : List ℕ). x.0 ++ t) (sym (append-nil text)) ∙ sym x.1 in
    next (before ++ x.0) x.2 ∙ ap (λ (t : List ℕ). Some t) (append_assoc before x.0 text ∙ ap (λ (t : List ℕ). before ++ t) spelled)
