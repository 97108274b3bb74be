-- A log whose disk was not called.
use Rattle.std.proofs.Common.{◌≡◌, inl, inr, ℕ, Option, Some, None, List, sym, subst, ap}
use Rattle.tp_outside.specs.Story.{Story}
use Rattle.tp_journal.specs.Log.{StandsForEither}
use Rattle.tp_journal.specs.Told.{LeavesOnly}
use Rattle.tp_journal.specs.Started.{Started, IsKept}
use Rattle.tp_journal.proofs.Steps.{at_first}

-- nothing is left but what was there
pub still : (told : Option Story) (gate : ℕ) (bodies after : List (List ℕ)) (shut : Option ℕ) → shut ≡ None → IsKept told gate bodies shut → (s : Story) → told ≡ Some s → LeavesOnly (StandsForEither bodies after) told told
still told gate bodies after (Some faults) open_now kept s is = absurd (cc open_now)
still told gate bodies after None open_now (inl none) s is = absurd (cc (none, is))
still told gate bodies after None open_now (inr rests) s is = at_first (StandsForEither bodies after) told rests.file rests.on (inl (inl rests.stands))

module _ {D S : Type 0} (told : D → Option Story) (bodies_of : S → List (List ℕ)) (inside now : Started D S) (same : inside ≡ now) (kept : IsKept (told inside.disk) inside.gate (bodies_of inside.shelf) inside.shut) (open_now : now.shut ≡ None) (s : Story) (is : told now.disk ≡ Some s) (after : List (List ℕ)) where
  pub unmoved : LeavesOnly (StandsForEither (bodies_of now.shelf) after) (told now.disk) (told now.disk)
  unmoved = still (told now.disk) now.gate (bodies_of now.shelf) after now.shut open_now (subst (λ v. IsKept (told v.disk) v.gate (bodies_of v.shelf) v.shut) same kept) s is

  pub unmoved_inside : LeavesOnly (StandsForEither (bodies_of now.shelf) after) (told now.disk) (told inside.disk)
  unmoved_inside = subst (λ o. LeavesOnly (StandsForEither (bodies_of now.shelf) after) (told now.disk) o) (sym (ap (λ v. told v.disk) same)) unmoved
