-- What a store does with an indication is one of the answers that it may give.
use Rattle.std.proofs.Common.{◌≡◌, inl, inr, ℕ, Option, Some, None, Result, Ok, Err, IfOk, sym, ap, ◌∙◌}
use Rattle.tp_records.specs.declared.request.Request.{Request}
use Rattle.tp_bound.specs.Bounds.{Standing}
use Rattle.tp_bound.specs.Told.{Wish, Answers, Adds, Tells, HasFailed}
use Rattle.tp_bound.specs.Says.{IsShutBy, speaker, Speaks}

has_shut : {D : Type 0} (old new : Standing D) (before after : ℕ) → HasFailed old before new after → (n : ℕ) × (new.shut ≡ Some n)
has_shut {D} old new before after (inl x) = x.2
has_shut {D} old new before after (inr x) = (x.0, ap (λ (b : Standing D). b.shut) x.2 ∙ x.1)

pub speaks : {D : Type 0} (w : Wish) (old new : Standing D) (told : Option Request) (before after : ℕ) → Tells w old before told new after → Speaks w (speaker old) told (speaker new)
speaks {D} (Answers answer current) old new told before after x = (x.0, ap (λ (b : Standing D). speaker b) x.1)
speaks (Adds body added not_added current) old new told before after (inl x) = inl (
  x.0,
  record {
    bound_to = x.1.bound_to;
    gate = x.1.gate;
    store = x.1.store;
    current_is = x.1.current_is;
    open_before = x.1.open_before;
    open_after = x.1.open_after;
  },
)
speaks (Adds body added not_added current) old new told before after (inr x) = inr (
  x.0,
  record {
    bound_to = x.1.bound_to;
    gate = x.1.gate;
    store = x.1.store;
    current_is = x.1.current_is;
    shut = has_shut old new before after x.1.cause;
  },
)

-- ---- what shuts a store

some_none : {A : Type 0} (o : Option ℕ) (n : ℕ) → o ≡ None → o ≡ Some n → A
some_none o n none some = absurd (let clash : None ≡ Some n = sym none ∙ some in cc)

pub shut_still : {D : Type 0} (faults : D → ℕ) (old new : Standing D) → new.shut ≡ old.shut → IsShutBy faults (speaker old) old.disk (speaker new) new.disk
shut_still faults old new same unshut n is = some_none new.shut n (same ∙ unshut) is

shut_failed : {D : Type 0} (faults : D → ℕ) (old new : Standing D) → HasFailed old (faults old.disk) new (faults new.disk) → IsShutBy faults (speaker old) old.disk (speaker new) new.disk
shut_failed faults old new (inl x) unshut n is = x.1
shut_failed faults old new (inr x) unshut n is = some_none old.shut x.0 unshut x.1

pub shuts : {D : Type 0} (faults : D → ℕ) (w : Wish) (old new : Standing D) (told : Option Request) → Tells w old (faults old.disk) told new (faults new.disk) → IsShutBy faults (speaker old) old.disk (speaker new) new.disk
shuts {D} faults (Answers answer current) old new told x = shut_still faults old new (ap (λ (b : Standing D). b.shut) x.1)
shuts faults (Adds body added not_added current) old new told (inl x) = λ unshut n is. some_none new.shut n x.1.open_after is
shuts faults (Adds body added not_added current) old new told (inr x) = shut_failed faults old new x.1.cause

pub if_ok_so : {A E : Type 0} (r : Result A E) (P Q : A → Type 0) → IfOk r P → ((a : A) → P a → Q a) → IfOk r Q
if_ok_so (Ok a) P Q p f = f a p
if_ok_so (Err e) P Q p f = tt
