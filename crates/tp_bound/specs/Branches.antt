-- The branches of a list of indications: which were told commit, and what each of them wrote before it voted for commit.
-- It looks at indications and answers alone, and knows no log and no disk.
use Rattle.std.specs.Prelude.{◌≡◌, Bool, true, false, Option, Some, None, List, [], ◌∷◌, ◌++◌}
use Rattle.tp_names.specs.declared.identifiers.Aaid.{Aaid}
use Rattle.tp_records.specs.declared.indication.Indication.{Indication}
use Rattle.tp_records.specs.declared.request.Request.{Request}
use Rattle.tp_bound.specs.declared.write.Write.{Write}
use Rattle.tp_bound.specs.Gathered.{write_in}
use Rattle.tp_bound.specs.Kept.{Heard, Told}

pub record Branch : Type 0 where
  pub aaid : Aaid
  pub writes : List Write

abbrev pub one_write : Option Write → List Write
one_write None = []
one_write (Some w) = w ∷ []

-- of what follows the begin of a branch: its data up to the vote for commit, each one write
abbrev pub written : List Heard → List Write
written [] = []
written (Told (Indication.UserData p xs) answer ∷ hs) = one_write (write_in xs) ++ written hs
written (Told (Indication.BeginTransaction p aaid) answer ∷ hs) = []
written (Told Indication.Prepare (Some Request.Commit) ∷ hs) = []
written (h ∷ hs) = written hs

-- of what follows the begin of a branch: whether commit is told before the next one begins
abbrev pub is_told_commit : List Heard → Bool
is_told_commit [] = false
is_told_commit (Told Indication.Commit answer ∷ hs) = true
is_told_commit (Told (Indication.BeginTransaction p aaid) answer ∷ hs) = false
is_told_commit (h ∷ hs) = is_told_commit hs

abbrev pub with_branch : Bool → Branch → List Branch → List Branch
with_branch true b bs = b ∷ bs
with_branch false b bs = bs

-- the branches that were told commit, each once, in the order in which they began
abbrev pub committed : List Heard → List Branch
committed [] = []
committed (Told (Indication.BeginTransaction p aaid) answer ∷ hs) = with_branch (is_told_commit hs) (record { aaid = aaid; writes = written hs }) (committed hs)
committed (h ∷ hs) = committed hs

-- what they wrote, one branch after the other
abbrev pub all_written : List Branch → List Write
all_written [] = []
all_written (b ∷ bs) = b.writes ++ all_written bs

-- ---- a node that starts no transaction of its own

-- whether the branch that began last has voted for commit and was not told rollback since
abbrev pub has_voted : Bool → Heard → Bool
has_voted voted (Told (Indication.BeginTransaction p aaid) answer) = false
has_voted voted (Told Indication.Prepare (Some Request.Commit)) = true
has_voted voted (Told Indication.Rollback answer) = false
has_voted voted h = voted

abbrev pub FollowsVote : Bool → Heard → Type 0
FollowsVote voted (Told Indication.Commit answer) = voted ≡ true
FollowsVote voted h = Unit {0}

abbrev pub FollowVotes : Bool → List Heard → Type 0
FollowVotes voted [] = Unit {0}
FollowVotes voted (h ∷ hs) = FollowsVote voted h × FollowVotes (has_voted voted h) hs

-- Each commit is told to a branch of the node, after its vote: so it is where the node starts no transaction of its own.
abbrev pub OfBranches : List Heard → Type 0
OfBranches hs = FollowVotes false hs
