-- What indications say of a tree: those that come between the Begin of a branch of it and the next Begin.
use Rattle.std.proofs.Common.{◌≡◌, ◌&&◌, ◌||◌, Bool, true, false, refl, ap, ◌∙◌, Option, Some, None, List, [], ◌∷◌, ◌++◌, inl, inr}
use Rattle.tp_names.specs.declared.identifiers.Aaid.{Aaid}
use Rattle.tp_names.specs.Same.{is_aaid}
use Rattle.tp_records.specs.declared.indication.Indication.{Indication}
use Rattle.tp_steps.proofs.lemmas.Equality.{or_case, and_left, and_right}
use Rattle.tp_bound.specs.Kept.{Heard, Told, Reopened}
use Rattle.tp_bound.specs.Branches.{written, is_told_commit, with_branch, committed}
use Rattle.tp_stores.specs.Stores.{heard_of, is_among, has_committed, is_told_rollback, has_rolled_back}

-- the tree whose branch began last
abbrev pub begun_by : Option Aaid → Indication → Option Aaid
begun_by c (Indication.BeginTransaction p t) = Some t
begun_by c _ = c

abbrev pub last_begun : Option Aaid → List Indication → Option Aaid
last_begun c [] = c
last_begun c (i ∷ is) = last_begun (begun_by c i) is

abbrev pub is_of : Aaid → Option Aaid → Bool
is_of t None = false
is_of t (Some u) = is_aaid t u

-- one of the indications passes the test, and the branch that began last then is of the tree
abbrev pub hears : (Indication → Bool) → Aaid → Option Aaid → List Indication → Bool
hears f t c [] = false
hears f t c (i ∷ is) = (f i && is_of t c) || hears f t (begun_by c i) is

abbrev pub is_commit : Indication → Bool
is_commit Indication.Commit = true
is_commit _ = false

abbrev pub is_rollback : Indication → Bool
is_rollback Indication.Rollback = true
is_rollback _ = false

pub or_first : (a b : Bool) → a ≡ true → (a || b) ≡ true
or_first true b h = refl
or_first false b h = absurd (cc (h))

pub or_over : (a b : Bool) → b ≡ true → (a || b) ≡ true
or_over true b h = refl
or_over false b h = h

or_again : (a b c : Bool) → (a || (b || c)) ≡ ((a || b) || c)
or_again true b c = refl
or_again false b c = refl

pub last_append : (c : Option Aaid) (xs ys : List Indication) → last_begun c (xs ++ ys) ≡ last_begun (last_begun c xs) ys
last_append c [] ys = refl
last_append c (i ∷ xs) ys = last_append (begun_by c i) xs ys

pub hears_append : (f : Indication → Bool) (t : Aaid) (c : Option Aaid) (xs ys : List Indication) → hears f t c (xs ++ ys) ≡ (hears f t c xs || hears f t (last_begun c xs) ys)
hears_append f t c [] ys = refl
hears_append f t c (i ∷ xs) ys =
    ap (λ (b : Bool). (f i && is_of t c) || b) (hears_append f t (begun_by c i) xs ys) ∙ or_again (f i && is_of t c) (hears f t (begun_by c i) xs) (hears f t (last_begun (begun_by c i) xs) ys)

-- ---- a branch that is told commit

told_heard : (t a : Aaid) (hs : List Heard) → is_aaid t a ≡ true → is_told_commit hs ≡ true → hears is_commit t (Some a) (heard_of hs) ≡ true
told_heard t a [] same h = absurd (cc (h))
told_heard t a (Told Indication.Commit answer ∷ hs) same h = or_first (is_aaid t a) (hears is_commit t (Some a) (heard_of hs)) same
told_heard t a (Told (Indication.BeginTransaction p b) answer ∷ hs) same h = absurd (cc (h))
told_heard t a (Told i answer ∷ hs) same h = told_heard t a hs same h
told_heard t a (Reopened ∷ hs) same h = told_heard t a hs same h

pub committed_heard : (t : Aaid) (c : Option Aaid) (hs : List Heard) → has_committed t hs ≡ true → hears is_commit t c (heard_of hs) ≡ true
committed_heard t c [] h = absurd (cc (h))
committed_heard t c (Told (Indication.BeginTransaction p a) answer ∷ hs) h = go (is_told_commit hs) refl h (committed_heard t (Some a) hs)
  where
    go : (b : Bool) → is_told_commit hs ≡ b → is_among t (with_branch b (record { aaid = a; writes = written hs }) (committed hs)) ≡ true → (has_committed t hs ≡ true → hears is_commit t (Some a) (heard_of hs) ≡ true)
        → hears is_commit t (Some a) (heard_of hs) ≡ true
    go true i k rest = elim (or_case (is_aaid t a) (is_among t (committed hs)) k) [ inl same ↦ told_heard t a hs same i | inr more ↦ rest more ]
    go false i k rest = rest k
committed_heard t c (Told Indication.Commit answer ∷ hs) h = or_over (is_of t c) (hears is_commit t c (heard_of hs)) (committed_heard t c hs h)
committed_heard t c (Told i answer ∷ hs) h = committed_heard t c hs h
committed_heard t c (Reopened ∷ hs) h = committed_heard t c hs h

-- ---- and one that is told rollback

rolled_heard : (t a : Aaid) (hs : List Heard) → is_aaid t a ≡ true → is_told_rollback hs ≡ true → hears is_rollback t (Some a) (heard_of hs) ≡ true
rolled_heard t a [] same h = absurd (cc (h))
rolled_heard t a (Told Indication.Rollback answer ∷ hs) same h = or_first (is_aaid t a) (hears is_rollback t (Some a) (heard_of hs)) same
rolled_heard t a (Told (Indication.BeginTransaction p b) answer ∷ hs) same h = absurd (cc (h))
rolled_heard t a (Told i answer ∷ hs) same h = rolled_heard t a hs same h
rolled_heard t a (Reopened ∷ hs) same h = rolled_heard t a hs same h

pub rolled_back_heard : (t : Aaid) (c : Option Aaid) (hs : List Heard) → has_rolled_back t hs ≡ true → hears is_rollback t c (heard_of hs) ≡ true
rolled_back_heard t c [] h = absurd (cc (h))
rolled_back_heard t c (Told (Indication.BeginTransaction p a) answer ∷ hs) h =
    elim (or_case (is_aaid t a && is_told_rollback hs) (has_rolled_back t hs) h) [
      | inl k ↦ rolled_heard t a hs (and_left (is_aaid t a) (is_told_rollback hs) k) (and_right (is_aaid t a) (is_told_rollback hs) k)
      | inr more ↦ rolled_back_heard t (Some a) hs more
    ]
rolled_back_heard t c (Told Indication.Rollback answer ∷ hs) h = or_over (is_of t c) (hears is_rollback t c (heard_of hs)) (rolled_back_heard t c hs h)
rolled_back_heard t c (Told i answer ∷ hs) h = rolled_back_heard t c hs h
rolled_back_heard t c (Reopened ∷ hs) h = rolled_back_heard t c hs h
