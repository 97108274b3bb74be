-- A store that its node's user goes by: it heard all that the user was told, and where the user asked for commitment it had
-- voted for that. So its node's indications come as the law of its branches asks.
-- What a store answers, and what it keeps, is no matter of this file.
-- Statements alone; nothing is proved here.
use Rattle.std.specs.Prelude.{◌≡◌, Bool, true, false, None, List, [], ◌∷◌, ◌++◌}
use Rattle.tp_names.specs.declared.identifiers.Aaid.{Aaid}
use Rattle.tp_records.specs.declared.indication.Indication.{Indication}
use Rattle.tp_model.specs.Parts.{Out, Entry}
use Rattle.tp_model.specs.Questions.{is_crash}
use Rattle.tp_model.specs.Outcomes.{is_commit_request}
use Rattle.tp_model.specs.World.{World, Node}
use Rattle.tp_model.specs.Promises.{IsIn, has_told_in}
use Rattle.tp_bound.specs.Content.{made}
use Rattle.tp_bound.specs.Stores.{empty}
use Rattle.tp_bound.specs.Says.{Speaker}
use Rattle.tp_bound.specs.Kept.{Heard, HearsAll}
use Rattle.tp_bound.specs.Branches.{committed, all_written, has_voted, OfBranches}
use Rattle.tp_stores.specs.Stores.{told_in, all_told, IsHeardOf, heard_of, IsHeardAt, is_branch_alone, has_committed}

-- of what was told: whether the branch that began last has voted for commit, and was not told rollback since
abbrev pub votes : Bool → List Heard → Bool
votes voted [] = voted
votes voted (h ∷ hs) = votes (has_voted voted h) hs

-- what a store heard of a history, whose newest entry stands first, with its answers; `stops`: the site stops in the newest entry.
-- The user asks for commitment only where the store has voted so, of all that had been told by then
abbrev pub IsServedIn : Bool → List Entry → List Heard → Type 0
IsServedIn stops [] hs = heard_of hs ≡ []
IsServedIn stops (e ∷ h) hs =
    (before : List Heard) × (own : List Heard) × (hs ≡ before ++ own) × IsHeardOf stops (told_in e.outs) (heard_of own)
    × (is_commit_request e.event ≡ true → votes false before ≡ true) × IsServedIn (is_crash e.event) h before

abbrev pub IsServedAt : Node → List Heard → Type 0
IsServedAt x hs = IsServedIn false x.history hs

-- ---- what is promised, at a node that starts no transaction of its own

-- each commit is told to a branch after its vote
abbrev pub AreOfBranches : World → Type 0
AreOfBranches w = (x : Node) (hs : List Heard) → IsIn w x → is_branch_alone x ≡ true → IsServedAt x hs → OfBranches hs

-- so a store whose disk does not fail holds the writes of exactly the branches that it counts as committed, each once, in order
abbrev pub HoldsItsBranches : World → Type 0
HoldsItsBranches w =
    (x : Node) (first last : Speaker) (hs : List Heard) → IsIn w x → is_branch_alone x ≡ true → IsServedAt x hs → first.store ≡ empty
    → first.current ≡ None → HearsAll first hs last
    → last.store.content ≡ made [] (all_written (committed hs))

abbrev pub tells_to_commit : List Out → Bool
tells_to_commit [] = false
tells_to_commit (Out.Tell Indication.Commit ∷ outs) = true
tells_to_commit (_ ∷ outs) = tells_to_commit outs

-- and it counts those that its node was told to commit
pub record CountsCommits (w : World) : Type 0 where
  -- no others
  pub counted_is_told : (t : Aaid) (x : Node) (hs : List Heard) → IsIn w x → is_branch_alone x ≡ true → IsHeardAt x hs → has_committed t hs ≡ true
      → has_told_in tells_to_commit x.origin t x.history ≡ true
  -- and all of them, where it heard all that was told
  pub told_is_counted : (t : Aaid) (x : Node) (hs : List Heard) → IsIn w x → is_branch_alone x ≡ true → heard_of hs ≡ all_told x.history
      → has_told_in tells_to_commit x.origin t x.history ≡ true → has_committed t hs ≡ true
