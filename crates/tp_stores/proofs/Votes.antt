-- What a part of what was heard makes of a vote, where no branch begins in it and none is told rollback.
use Rattle.std.proofs.Common.{◌≡◌, ◌||◌, Bool, true, false, refl, ap, Option, Some, List, [], ◌∷◌, ◌++◌}
use Rattle.tp_records.specs.declared.indication.Indication.{Indication}
use Rattle.tp_records.specs.declared.request.Request.{Request}
use Rattle.tp_bound.specs.Kept.{Heard, Told, Reopened}
use Rattle.tp_bound.specs.Branches.{has_voted, FollowsVote, FollowVotes}
use Rattle.tp_encodable.specs.Begins.{is_begin_told}
use Rattle.tp_stores.specs.Stores.{heard_of}
use Rattle.tp_stores.specs.Served.{votes}
use Rattle.tp_stores.proofs.Hearing.{is_commit, is_rollback}
use Rattle.tp_stores.proofs.Telling.{some}

pub heard_append : (xs ys : List Heard) → heard_of (xs ++ ys) ≡ heard_of xs ++ heard_of ys
heard_append [] ys = refl
heard_append (Told i answer ∷ xs) ys = ap (λ (is : List Indication). i ∷ is) (heard_append xs ys)
heard_append (Reopened ∷ xs) ys = heard_append xs ys

pub votes_append : (voted : Bool) (xs ys : List Heard) → votes voted (xs ++ ys) ≡ votes (votes voted xs) ys
votes_append voted [] ys = refl
votes_append voted (h ∷ xs) ys = votes_append (has_voted voted h) xs ys

pub follow_append : (voted : Bool) (xs ys : List Heard) → FollowVotes voted xs → FollowVotes (votes voted xs) ys → FollowVotes voted (xs ++ ys)
follow_append voted [] ys one two = two
follow_append voted (h ∷ xs) ys one two = (one.0, follow_append (has_voted voted h) xs ys one.1 two)

-- ---- a vote stands

pub votes_on : (hs : List Heard) → some is_begin_told (heard_of hs) ≡ false → some is_rollback (heard_of hs) ≡ false → votes true hs ≡ true
votes_on [] b r = refl
votes_on (Reopened ∷ hs) b r = votes_on hs b r
votes_on (Told (Indication.BeginTransaction p t) answer ∷ hs) b r = absurd (cc (b))
votes_on (Told Indication.Rollback answer ∷ hs) b r = absurd (cc (r))
votes_on (Told Indication.Prepare (Some Request.Commit) ∷ hs) b r = votes_on hs b r
votes_on (h ∷ hs) b r = votes_on hs b r

pub follow_on : (hs : List Heard) → some is_begin_told (heard_of hs) ≡ false → some is_rollback (heard_of hs) ≡ false → FollowVotes true hs
follow_on [] b r = tt
follow_on (Reopened ∷ hs) b r = (tt, follow_on hs b r)
follow_on (Told (Indication.BeginTransaction p t) answer ∷ hs) b r = absurd (cc (b))
follow_on (Told Indication.Rollback answer ∷ hs) b r = absurd (cc (r))
follow_on (Told Indication.Commit answer ∷ hs) b r = (refl, follow_on hs b r)
follow_on (Told Indication.Prepare (Some Request.Commit) ∷ hs) b r = (tt, follow_on hs b r)
follow_on (h ∷ hs) b r = (tt, follow_on hs b r)

-- ---- where no commit is told no vote is asked for

pub follow_none : (voted : Bool) (hs : List Heard) → some is_commit (heard_of hs) ≡ false → FollowVotes voted hs
follow_none voted [] n = tt
follow_none voted (Reopened ∷ hs) n = (tt, follow_none voted hs n)
follow_none voted (Told Indication.Commit answer ∷ hs) n = absurd (cc (n))
follow_none voted (Told i answer ∷ hs) n = (follows i answer n, follow_none (has_voted voted (Told i answer)) hs (rest i n))
  where
    follows : (i : Indication) (answer : Option Request) → (is_commit i || some is_commit (heard_of hs)) ≡ false → FollowsVote voted (Told i answer)
    follows Indication.Commit answer m = absurd (cc (m))
    follows i answer m = tt

    rest : (i : Indication) → (is_commit i || some is_commit (heard_of hs)) ≡ false → some is_commit (heard_of hs) ≡ false
    rest Indication.Commit m = absurd (cc (m))
    rest i m = m
