-- Stores at the nodes of a run: what a store heard of all that its node's user was told, and that no two stores of one tree
-- disagree about its transaction. Which of its branches a store counts as committed, and that its content has the writes of exactly
-- these, is no matter of this file.
-- Statements alone; nothing is proved here.
use Rattle.std.specs.Prelude.{◌≡◌, ◌&&◌, ◌||◌, Bool, true, false, Option, Some, None, List, [], ◌∷◌, ◌++◌}
use Rattle.tp_names.specs.declared.identifiers.Aaid.{Aaid}
use Rattle.tp_names.specs.Same.{is_aaid}
use Rattle.tp_records.specs.declared.indication.Indication.{Indication}
use Rattle.tp_model.specs.Parts.{Origin, Out, Tell, Send, Entry}
use Rattle.tp_model.specs.History.{digest}
use Rattle.tp_model.specs.Questions.{is_crash}
use Rattle.tp_model.specs.Outcomes.{root_of}
use Rattle.tp_model.specs.World.{World, Node}
use Rattle.tp_model.specs.Promises.{IsIn}
use Rattle.tp_bound.specs.Kept.{Heard, Told, Reopened}
use Rattle.tp_bound.specs.Branches.{Branch, committed}

-- ---- what a store heard

-- what a user is told by these outputs
abbrev pub told_in : List Out → List Indication
told_in [] = []
told_in (Tell i ∷ outs) = i ∷ told_in outs
told_in (Send to r ∷ outs) = told_in outs

-- and by a history, whose newest entry stands first: the oldest indication first
abbrev pub all_told : List Entry → List Indication
all_told [] = []
all_told (e ∷ h) = all_told h ++ told_in e.outs

-- of what an event tells, all is heard; or, where the site stops then, perhaps only the first of it
abbrev pub IsHeardOf : Bool → List Indication → List Indication → Type 0
IsHeardOf false told heard = heard ≡ told
IsHeardOf true told heard = (lost : List Indication) × (told ≡ heard ++ lost)

-- what is heard of a history, whose newest entry stands first, the oldest indication first; `stops`: the site stops in the newest
-- entry
abbrev pub IsHeardIn : Bool → List Entry → List Indication → Type 0
IsHeardIn stops [] is = is ≡ []
IsHeardIn stops (e ∷ h) is =
    (before : List Indication) × (heard : List Indication) × (is ≡ before ++ heard) × IsHeardOf stops (told_in e.outs) heard
    × IsHeardIn (is_crash e.event) h before

-- the indications that a store heard, without its answers, and without its being opened again
abbrev pub heard_of : List Heard → List Indication
heard_of [] = []
heard_of (Told i answer ∷ hs) = i ∷ heard_of hs
heard_of (Reopened ∷ hs) = heard_of hs

-- a store at that node heard all that its user was told, in order; where the site stopped in an event, perhaps only the first of
-- what it tells
abbrev pub IsHeardAt : Node → List Heard → Type 0
IsHeardAt x hs = IsHeardIn false x.history (heard_of hs)

-- ---- a node that starts no transaction of its own

abbrev pub is_none : Option Aaid → Bool
is_none None = true
is_none (Some t) = false

-- whatever happened came while the current transaction, where there was one, was a superior's
abbrev pub only_under : Origin → List Entry → Bool
only_under o [] = true
only_under o (e ∷ h) = is_none (root_of (digest o h).current) && only_under o h

abbrev pub is_branch_alone : Node → Bool
is_branch_alone x = only_under x.origin x.history

-- ---- one tree

-- one of these branches is of the tree
abbrev pub is_among : Aaid → List Branch → Bool
is_among t [] = false
is_among t (b ∷ bs) = is_aaid t b.aaid || is_among t bs

-- the store counts a branch of the tree among those that were told commit
abbrev pub has_committed : Aaid → List Heard → Bool
has_committed t hs = is_among t (committed hs)

-- of what follows the begin of a branch: whether rollback is told before the next one begins
abbrev pub is_told_rollback : List Heard → Bool
is_told_rollback [] = false
is_told_rollback (Told Indication.Rollback answer ∷ hs) = true
is_told_rollback (Told (Indication.BeginTransaction p aaid) answer ∷ hs) = false
is_told_rollback (h ∷ hs) = is_told_rollback hs

-- a branch of the tree was told rollback
abbrev pub has_rolled_back : Aaid → List Heard → Bool
has_rolled_back t [] = false
has_rolled_back t (Told (Indication.BeginTransaction p aaid) answer ∷ hs) = (is_aaid t aaid && is_told_rollback hs) || has_rolled_back t hs
has_rolled_back t (h ∷ hs) = has_rolled_back t hs

-- ---- what is promised

-- no store was told that a tree commits of which another was told that it rolls back
abbrev pub StoresAgree : World → Type 0
StoresAgree w =
    (t : Aaid) (x y : Node) (hs gs : List Heard) → IsIn w x → IsIn w y → is_branch_alone x ≡ true → is_branch_alone y ≡ true → IsHeardAt x hs → IsHeardAt y gs
    → has_committed t hs ≡ true → has_rolled_back t gs ≡ true → ⊥
