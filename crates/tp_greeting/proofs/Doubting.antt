-- Which keys are in doubt after a record more.
use Rattle.std.proofs.Common.{◌≡◌, Some, arith, refl, Bool, true, false}
use Rattle.std.specs.Prelude.{cond}
use Rattle.tp_logrec.specs.declared.record.LogRec.{LogRec}
use Rattle.tp_logrec.specs.declared.owner.Owner.{Owner}
use Rattle.tp_logrec.specs.Order.{owner_of, is_owner, is_ready}
use Rattle.tp_greeting.specs.Doubts.{doubted_by}

pub after_ready : (p o : Owner) (before : Bool) (r : LogRec) → owner_of r ≡ Some p → is_ready r ≡ true → cond (is_owner p o) true before ≡ doubted_by o before r
after_ready p o before r of e = go (is_owner p o) refl
  where
    go : (b : Bool) → is_owner p o ≡ b → cond (is_owner p o) true before ≡ doubted_by o before r
    go true f = grind (arith, of, e, f)
    go false f = grind (arith, of, e, f)

pub after_other : (p o : Owner) (before : Bool) (r : LogRec) → owner_of r ≡ Some p → is_ready r ≡ false → cond (is_owner p o) false before ≡ doubted_by o before r
after_other p o before r of e = go (is_owner p o) refl
  where
    go : (b : Bool) → is_owner p o ≡ b → cond (is_owner p o) false before ≡ doubted_by o before r
    go true f = grind (arith, of, e, f)
    go false f = grind (arith, of, e, f)
