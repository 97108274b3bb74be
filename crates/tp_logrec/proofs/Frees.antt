-- A node is free where no record binds a key of it that does not come again.
use Rattle.std.proofs.Common.{◌≡◌, ℕ, Some, None, List, [], ◌∷◌, ◌++◌, refl, sym, ◌∙◌, ap, arith, Bool, true, false}
use Rattle.std.specs.Prelude.{◌&&◌, ◌==◌, not}
use Rattle.std.proofs.lemmas.Bool.Decides.{nat_tests}
use Rattle.tp_logrec.specs.declared.record.LogRec.{LogRec}
use Rattle.tp_logrec.specs.Order.{Owner, owner, owner_of, is_owner, is_of, others, bound_after, bound_from, is_free}
use Rattle.tp_logrec.specs.Binding.{binds, some_of, comes_again, none_binds}
use Rattle.tp_logrec.proofs.Sames.{owner_either}

pub and_true : (a : Bool) → (a && true) ≡ a
and_true true = refl
and_true false = refl

pub and_assoc : (a b d : Bool) → ((a && b) && d) ≡ (a && (b && d))
and_assoc true b d = refl
and_assoc false b d = refl

pub binding : (a : Bool) → (a && true) ≡ a
binding = and_true

pub no_binding : (a : Bool) → (a && false) ≡ false
no_binding true = refl
no_binding false = refl

-- each of these keys of the node comes again
abbrev pub all_again : ℕ → List Owner → List LogRec → Bool
all_again n [] rs = true
all_again n (o ∷ os) rs = not ((o.node == n) && not (some_of o rs)) && all_again n os rs

pub all_again_nil : (n : ℕ) (os : List Owner) → all_again n os [] ≡ is_free n os
all_again_nil n [] = refl
all_again_nil n (o ∷ os) = grind (arith, nat_tests, all_again_nil n os)

pub all_again_skips : (n : ℕ) (os : List Owner) (r : LogRec) (rs : List LogRec) → owner_of r ≡ None → all_again n (os) rs ≡ all_again n os (r ∷ rs)
all_again_skips n [] r rs e = refl
all_again_skips n (p ∷ ps) r rs e =
    let not_its : is_of p r ≡ false = ap (λ q. elim q as (λ _. Bool) [ None ↦ false | Some o ↦ is_owner o p ]) e in
    let rest = all_again_skips n ps r rs e in
    grind (arith, nat_tests, not_its, rest)

-- others come again among these where all do with the record in front
pub all_again_others : (n : ℕ) (os : List Owner) (o : Owner) (r : LogRec) (rs : List LogRec) → owner_of r ≡ Some o
    → all_again n (others os o) rs ≡ all_again n os (r ∷ rs)
all_again_others n [] o r rs e = refl
all_again_others n (p ∷ ps) o r rs e =
    let its : is_of p r ≡ is_owner o p = ap (λ q. elim q as (λ _. Bool) [ None ↦ false | Some o ↦ is_owner o p ]) e in
    let either = owner_either p o in
    let rest = all_again_others n ps o r rs e in
    grind (arith, nat_tests, its, either, rest)

pub all_again_more : (n : ℕ) (os : List Owner) (o : Owner) (rs : List LogRec)
    → all_again n (os ++ o ∷ []) rs ≡ (all_again n os rs && not ((o.node == n) && not (some_of o rs)))
all_again_more n [] o rs = and_true (not ((o.node == n) && not (some_of o rs)))
all_again_more n (p ∷ ps) o rs =
    ap (λ b. not ((p.node == n) && not (some_of p rs)) && b) (all_again_more n ps o rs)
    ∙ sym (and_assoc (not ((p.node == n) && not (some_of p rs))) (all_again n ps rs) (not ((o.node == n) && not (some_of o rs))))

abbrev pub Steps : ℕ → List Owner → LogRec → List LogRec → Type 0
Steps n os r rs = all_again n (bound_after os r) rs ≡ (all_again n os (r ∷ rs) && not (binds r n && not (comes_again r rs)))

pub steps_none : (n : ℕ) (os : List Owner) (r : LogRec) (rs : List LogRec) → owner_of r ≡ None → bound_after os r ≡ os → binds r n ≡ false → Steps n os r rs
steps_none n os r rs e f g = let rest = all_again_skips n os r rs e in grind (arith, f, g, rest)

pub steps_bound : (n : ℕ) (os : List Owner) (o : Owner) (r : LogRec) (rs : List LogRec) → owner_of r ≡ Some o
    → bound_after os r ≡ others os o ++ o ∷ [] → binds r n ≡ (o.node == n) → comes_again r rs ≡ some_of o rs → Steps n os r rs
steps_bound n os o r rs e f g h =
    let rest = all_again_others n os o r rs e in
    rw (f, g, h, ← rest) (all_again_more n (others os o) o rs)

pub steps_free : (n : ℕ) (os : List Owner) (o : Owner) (r : LogRec) (rs : List LogRec) → owner_of r ≡ Some o
    → bound_after os r ≡ others os o → binds r n ≡ false → Steps n os r rs
steps_free n os o r rs e f g = let rest = all_again_others n os o r rs e in grind (arith, f, g, rest)

pub steps : (n : ℕ) (os : List Owner) (r : LogRec) (rs : List LogRec) → Steps n os r rs
steps n os (LogRec.Boot b) rs = steps_none n os (LogRec.Boot b) rs refl refl refl
steps n os (LogRec.Ready m k a cs) rs = steps_bound n os (owner m k) (LogRec.Ready m k a cs) rs refl refl (binding (m == n)) refl
steps n os (LogRec.Heuristic m k o) rs = steps_bound n os (owner m k) (LogRec.Heuristic m k o) rs refl refl (binding (m == n)) refl
steps n os (LogRec.Commit m k a cs) rs = steps_bound n os (owner m k) (LogRec.Commit m k a cs) rs refl refl (binding (m == n)) refl
steps n os (LogRec.Damage m k a o r cs) rs = steps_free n os (owner m k) (LogRec.Damage m k a o r cs) rs refl refl (no_binding (m == n))
steps n os (LogRec.End m k o) rs = steps_free n os (owner m k) (LogRec.End m k o) rs refl refl (no_binding (m == n))

pub none_binds_from : (n : ℕ) (os : List Owner) (rs : List LogRec) → is_free n (bound_from os rs) ≡ (all_again n os rs && none_binds n rs)
none_binds_from n os [] = sym (and_true (all_again n os []) ∙ all_again_nil n os)
none_binds_from n os (r ∷ rs) =
    none_binds_from n (bound_after os r) rs
    ∙ ap (λ b. b && none_binds n rs) (steps n os r rs)
    ∙ and_assoc (all_again n os (r ∷ rs)) (not (binds r n && not (comes_again r rs))) (none_binds n rs)

pub none_binds_is_free : (n : ℕ) (rs : List LogRec) → none_binds n rs ≡ is_free n (bound_from [] rs)
none_binds_is_free n rs = sym (none_binds_from n [] rs)
