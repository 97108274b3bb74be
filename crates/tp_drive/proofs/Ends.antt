-- How lanes end, with one lane more.
use Rattle.std.proofs.Common.{◌≡◌, ℕ, ◌≤◌, ◌++◌, nat_le, Bool, true, false, List, [], ◌∷◌, Option, Some, None, length, refl, sym, subst, arith}
use Rattle.std.specs.List.{All}
use Rattle.std.proofs.lemmas.Bool.Decides.{nat_tests}
use Rattle.std.proofs.lemmas.List.{get_or_append_left, get_or_push, length_push}
use Rattle.std.proofs.lemmas.List.Elements.{All-push}
use Rattle.tp_drive.specs.declared.ending.Ended.{Ended}
use Rattle.tp_drive.specs.declared.stop.Cause.{Cause}
use Rattle.tp_drive.specs.declared.stop.Stop.{Stop}
use Rattle.tp_drive.specs.Endings.{EndsSo, IsLeastStop, IsNoSooner, IsLog, StoppedAt, ended_after, ended_by, sooner}

abbrev Stops : Type 0
Stops = List (Option Stop)

abbrev Free : Option Stop → Type 0
Free s = (n : ℕ) → StoppedAt s n → ⊥

sooner_yet : (ys : Stops) (event other : ℕ) → other ≤ event → All (IsNoSooner event) ys → All (IsNoSooner other) ys
sooner_yet ys event other le all i d h = λ n at. let far : event ≤ n = all i d h n at in omega (arith, far)

free_no_sooner : (ys : Stops) (event : ℕ) → All Free ys → All (IsNoSooner event) ys
free_no_sooner ys event all i d h = λ n at. absurd (all i d h n at)

going_free : (ys : Stops) → All (λ s. s ≡ None) ys → All Free ys
going_free ys all i d h = λ n at. subst (λ (s : Option Stop). StoppedAt s n) (all i d h) at

-- a lane that stopped is still there
still : (ys : Stops) (x : Option Stop) (event : ℕ) → IsLeastStop ys event → IsNoSooner event x → IsLeastStop (ys ++ x ∷ []) event
still ys x event is no_sooner = record {
  lane = is.lane;
  within = omega (arith, is.within, length_push ys x);
  stopped = λ d. subst (λ (s : Option Stop). StoppedAt s event) (sym (get_or_append_left ys (x ∷ []) d is.lane is.within)) (is.stopped d);
  least = All-push (IsNoSooner event) ys x is.least no_sooner;
}

-- the last lane stopped first
last : (ys : Stops) (s : Stop) → IsLog s.cause → All (IsNoSooner s.event) ys → IsLeastStop (ys ++ Some s ∷ []) s.event
last ys s log all = record {
  lane = length ys;
  within = omega (arith, length_push ys (Some s));
  stopped = λ d. subst (λ (x : Option Stop). StoppedAt x s.event) (sym (get_or_push ys (Some s) d (length ys) refl)) (log, refl);
  least = All-push (IsNoSooner s.event) ys (Some s) all (λ n at. omega (arith, at.1));
}

by_log : (ys : Stops) (s : Stop) → IsLog s.cause → (e : Ended) → EndsSo ys e → EndsSo (ys ++ Some s ∷ []) (sooner e s.event)
by_log ys s log Ended.All h = last ys s log (free_no_sooner ys s.event (going_free ys h))
by_log ys s log Ended.NoMemory h = last ys s log (free_no_sooner ys s.event h)
by_log ys s log (Ended.Stopped event) h = go (nat_le event s.event) refl
  where
    go : (b : Bool) → nat_le event s.event ≡ b → EndsSo (ys ++ Some s ∷ []) (sooner (Ended.Stopped event) s.event)
    go true e = let le : event ≤ s.event = grind (arith, nat_tests, e) in rw e (still ys (Some s) event h (λ n at. omega (arith, at.1, le)))
    go false e = let le : s.event ≤ event = grind (arith, nat_tests, e) in rw e (last ys s log (sooner_yet ys event s.event le h.least))

by_cause : (ys : Stops) (s : Stop) (c : Cause) → s.cause ≡ c → (e : Ended) → EndsSo ys e → EndsSo (ys ++ Some s ∷ []) (ended_by e c s.event)
by_cause ys s Cause.Log is e h = by_log ys s (subst IsLog (sym is) tt) e h
by_cause ys s Cause.Memory is Ended.All h = All-push Free ys (Some s) (going_free ys h) (λ n at. subst IsLog is at.0)
by_cause ys s Cause.Memory is Ended.NoMemory h = All-push Free ys (Some s) h (λ n at. subst IsLog is at.0)
by_cause ys s Cause.Memory is (Ended.Stopped event) h = still ys (Some s) event h (λ n at. absurd (subst IsLog is at.0))

pub ends_push : (ys : Stops) (x : Option Stop) (e : Ended) → EndsSo ys e → EndsSo (ys ++ x ∷ []) (ended_after e x)
ends_push ys None Ended.All h = All-push (λ (s : Option Stop). s ≡ None) ys None h refl
ends_push ys None Ended.NoMemory h = All-push Free ys None h (λ n at. at)
ends_push ys None (Ended.Stopped event) h = still ys None event h (λ n at. absurd at)
ends_push ys (Some s) e h = by_cause ys s s.cause refl e h
