-- The nodes of a recording, of which the first so many are as after more deeds.
use Rattle.std.proofs.Common.{◌≡◌, ◌≤◌, ◌<◌, ◌+◌, ◌++◌, ℕ, zero, suc, refl, sym, subst, arith, List, [], ◌∷◌, length}
use Rattle.std.specs.Prelude.{slice_index_or, slice_set, min}
use Rattle.tp_deployments.specs.Deployments.{Deed, Place}
use Rattle.tp_model.specs.World.{Node}
use Rattle.tp_deployments.specs.RunOf.{node_at}
use Rattle.tp_network.specs.declared.nodes.NodeSlot.{NodeSlot}
use Rattle.tp_closing.specs.declared.trees.State.{State}
use Rattle.tp_closing.specs.Seen.{IsSeen, AreSeen, AreSeenTo}

pub seen_set : (new old : List Deed) (i : ℕ) (qs : List Place) (xs : List NodeSlot) (ss : List State) (d y : NodeSlot) (e r : State) → i < length xs → i < length ss → AreSeenTo new old i qs xs ss
    → ((q : Place) → IsSeen (node_at old q) (slice_index_or xs i d) (slice_index_or ss i e) → IsSeen (node_at new q) y r) → AreSeenTo new old (suc i) qs (slice_set xs i y) (slice_set ss i r)
seen_set new old i qs [] ss d y e r h k seen turn = absurd (omega (arith, h))
seen_set new old i qs (x ∷ xs) [] d y e r h k seen turn = absurd (omega (arith, k))
seen_set new old zero [] (x ∷ xs) (s ∷ ss) d y e r h k seen turn = absurd seen
seen_set new old zero (q ∷ qs) (x ∷ xs) (s ∷ ss) d y e r h k seen turn = (turn q seen.0, seen.1)
seen_set new old (suc i) [] (x ∷ xs) (s ∷ ss) d y e r h k seen turn = absurd seen
seen_set new old (suc i) (q ∷ qs) (x ∷ xs) (s ∷ ss) d y e r h k seen turn = (seen.0, seen_set new old i qs xs ss d y e r (omega (arith, h)) (omega (arith, k)) seen.1 turn)

pub seen_kept : (new old : List Deed) (i : ℕ) (qs : List Place) (xs : List NodeSlot) (ss : List State) (d : NodeSlot) → i < length xs → i < length ss → AreSeenTo new old i qs xs ss
    → ((q : Place) (s : State) → IsSeen (node_at old q) (slice_index_or xs i d) s → IsSeen (node_at new q) (slice_index_or xs i d) s) → AreSeenTo new old (suc i) qs xs ss
seen_kept new old i qs [] ss d h k seen turn = absurd (omega (arith, h))
seen_kept new old i qs (x ∷ xs) [] d h k seen turn = absurd (omega (arith, k))
seen_kept new old zero [] (x ∷ xs) (s ∷ ss) d h k seen turn = absurd seen
seen_kept new old zero (q ∷ qs) (x ∷ xs) (s ∷ ss) d h k seen turn = (turn q s seen.0, seen.1)
seen_kept new old (suc i) [] (x ∷ xs) (s ∷ ss) d h k seen turn = absurd seen
seen_kept new old (suc i) (q ∷ qs) (x ∷ xs) (s ∷ ss) d h k seen turn = (seen.0, seen_kept new old i qs xs ss d (omega (arith, h)) (omega (arith, k)) seen.1 turn)

-- a node is there, whatever stands for one that is not
pub same_at : (xs : List NodeSlot) (i : ℕ) (d e : NodeSlot) → i < length xs → slice_index_or xs i d ≡ slice_index_or xs i e
same_at [] i d e h = absurd (omega (arith, h))
same_at (x ∷ xs) zero d e h = refl
same_at (x ∷ xs) (suc i) d e h = same_at xs i d e (omega (arith, h))

pub one_more : (new old : List Deed) (i : ℕ) (qs : List Place) (xs : List NodeSlot) (ss : List State) → AreSeenTo new old (suc i) qs xs ss → AreSeenTo new old (i + 1) qs xs ss
one_more new old i qs xs ss seen = let more : suc i ≡ i + 1 = omega arith in subst (λ (k : ℕ). AreSeenTo new old k qs xs ss) more seen

-- all of them
pub seen_all : (new old : List Deed) (i : ℕ) (qs : List Place) (xs : List NodeSlot) (ss : List State) → min (length xs) (length ss) ≤ i → AreSeenTo new old i qs xs ss → AreSeen new qs xs ss
seen_all new old i [] [] [] h seen = tt
seen_all new old zero [] [] (s ∷ ss) h seen = absurd seen
seen_all new old zero [] (x ∷ xs) [] h seen = absurd seen
seen_all new old zero [] (x ∷ xs) (s ∷ ss) h seen = absurd seen
seen_all new old zero (q ∷ qs) [] [] h seen = absurd seen
seen_all new old zero (q ∷ qs) [] (s ∷ ss) h seen = absurd seen
seen_all new old zero (q ∷ qs) (x ∷ xs) [] h seen = absurd seen
seen_all new old zero (q ∷ qs) (x ∷ xs) (s ∷ ss) h seen = absurd (omega (arith, h))
seen_all new old (suc i) [] [] (s ∷ ss) h seen = absurd seen
seen_all new old (suc i) [] (x ∷ xs) [] h seen = absurd seen
seen_all new old (suc i) [] (x ∷ xs) (s ∷ ss) h seen = absurd seen
seen_all new old (suc i) (q ∷ qs) [] [] h seen = absurd seen
seen_all new old (suc i) (q ∷ qs) [] (s ∷ ss) h seen = absurd seen
seen_all new old (suc i) (q ∷ qs) (x ∷ xs) [] h seen = absurd seen
seen_all new old (suc i) (q ∷ qs) (x ∷ xs) (s ∷ ss) h seen = (seen.0, seen_all new old i qs xs ss (omega (arith, h)) seen.1)

-- no deed of theirs is among the new ones
pub seen_still : (new old : List Deed) (qs : List Place) (xs : List NodeSlot) (ss : List State) → ((q : Place) → node_at new q ≡ node_at old q) → AreSeen old qs xs ss → AreSeen new qs xs ss
seen_still new old [] [] [] same seen = tt
seen_still new old [] [] (s ∷ ss) same seen = absurd seen
seen_still new old [] (x ∷ xs) [] same seen = absurd seen
seen_still new old [] (x ∷ xs) (s ∷ ss) same seen = absurd seen
seen_still new old (q ∷ qs) [] [] same seen = absurd seen
seen_still new old (q ∷ qs) [] (s ∷ ss) same seen = absurd seen
seen_still new old (q ∷ qs) (x ∷ xs) [] same seen = absurd seen
seen_still new old (q ∷ qs) (x ∷ xs) (s ∷ ss) same seen = (subst (λ (n : Node). IsSeen n x s) (sym (same q)) seen.0, seen_still new old qs xs ss same seen.1)

-- one more
pub seen_more : (ds : List Deed) (qs : List Place) (xs : List NodeSlot) (ss : List State) (q : Place) (x : NodeSlot) (s : State) → IsSeen (node_at ds q) x s → AreSeen ds qs xs ss → AreSeen ds (qs ++ q ∷ []) (xs ++ x ∷ []) (ss ++ s ∷ [])
seen_more ds [] [] [] q x s is seen = (is, tt)
seen_more ds [] [] (r ∷ ss) q x s is seen = absurd seen
seen_more ds [] (y ∷ xs) [] q x s is seen = absurd seen
seen_more ds [] (y ∷ xs) (r ∷ ss) q x s is seen = absurd seen
seen_more ds (p ∷ qs) [] [] q x s is seen = absurd seen
seen_more ds (p ∷ qs) [] (r ∷ ss) q x s is seen = absurd seen
seen_more ds (p ∷ qs) (y ∷ xs) [] q x s is seen = absurd seen
seen_more ds (p ∷ qs) (y ∷ xs) (r ∷ ss) q x s is seen = (seen.0, seen_more ds qs xs ss q x s is seen.1)
