-- What a `?` hands on.
use Rattle.std.proofs.Common.{◌≡◌, ap, Result, Ok, Err}
use Rattle.std.specs.Result.{IsErrAnd}

pub err_is : {A E : Type 0} (r : Result A E) (f : E) → IsErrAnd r (λ y. y ≡ f) → r ≡ Err f
err_is (Ok x) f h = absurd h
err_is (Err y) f h = ap (λ (q : _). Err q) h
