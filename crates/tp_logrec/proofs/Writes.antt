-- What stands first stays in front, and children are written one after the other.
use Rattle.std.specs.Prelude.{OnErr}
use Rattle.std.proofs.Common.{◌≡◌, ℕ, ◌<◌, ◌+◌, Result, Ok, Err, List, ◌++◌, length, drop, get_or, sym, subst, ◌∙◌, ap, append_assoc}
use Rattle.std.proofs.lemmas.List.{drop_more}
use Rattle.tp_names.specs.declared.children.Child.{Child}
use Rattle.tp_names.specs.Bytes.{child_bytes, each_child_bytes}
use Rattle.tp_names.specs.Writing.{Keeps}
use Rattle.tp_names.proofs.Keeping.{kept_front, keeps_front}

pub keeps_more : (old new more : List ℕ) → Keeps old new → Keeps old (new ++ more)
keeps_more old new more k =
    let f = kept_front old new k in
    subst (λ (w : List ℕ). Keeps old w) (sym (ap (λ (w : List ℕ). w ++ more) f.1 ∙ append_assoc old f.0 more)) (keeps_front old (f.0 ++ more))

pub keeps_through : (old new last : List ℕ) → Keeps old new → Keeps new last → Keeps old last
keeps_through old new last k l =
    let f = kept_front new last l in
    subst (λ (w : List ℕ). Keeps old w) (sym f.1) (keeps_more old new f.0 k)

pub child_next : (cs : List Child) (i : ℕ) (c : Child) (out : List ℕ) → i < length cs → c ≡ get_or cs i c
    → (out ++ child_bytes c) ++ each_child_bytes (drop (i + 1) cs) ≡ out ++ each_child_bytes (drop i cs)
child_next cs i c out within is =
    append_assoc out (child_bytes c) (each_child_bytes (drop (i + 1) cs))
    ∙ ap (λ (d : Child). out ++ (child_bytes d ++ each_child_bytes (drop (i + 1) cs))) is
    ∙ ap (λ (w : List Child). out ++ each_child_bytes w) (sym (drop_more cs i c within))

pub on_err : {T E : Type 0} (r : Result T E) (P : Type 0) → P → OnErr r P
on_err (Ok v) P p = tt
on_err (Err e) P p = p
