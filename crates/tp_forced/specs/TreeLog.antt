-- What a node forces of one tree: its records of the tree are of one key and stand in one order, and nothing follows the end.
use Rattle.std.specs.Prelude.{ℕ, ◌≡◌, ◌⊎◌, not, Bool, true, false, Option, Some, None, List, [], ◌∷◌, ◌++◌}
use Rattle.tp_names.specs.declared.identifiers.Aaid.{Aaid}
use Rattle.tp_names.specs.declared.identifiers.NodeKey.{NodeKey}
use Rattle.tp_names.specs.declared.identifiers.Addr.{Addr}
use Rattle.tp_names.specs.declared.children.Child.{Child}
use Rattle.tp_names.specs.declared.outcome.Outcome.{Outcome}
use Rattle.tp_names.specs.Same.{is_key}
use Rattle.tp_logrec.specs.declared.record.LogRec.{LogRec}
use Rattle.tp_logrec.specs.Order.{is_end}
use Rattle.tp_model.specs.Recovery.{is_root_key, is_nothing_owed}
use Rattle.tp_model.specs.History.{records}
use Rattle.tp_model.specs.Outcomes.{completed_none, decision, rolled, has_left}
use Rattle.tp_model.specs.World.{World, Node}
use Rattle.tp_model.specs.Promises.{IsIn, is_of_tree}
use Rattle.tp_histories.specs.Fates.{has_ready_in}

-- ---- the records of a tree

abbrev pub of_tree : Aaid → List LogRec → List LogRec
of_tree t [] = []
of_tree t (r ∷ rs) = elim (is_of_tree t r) [ true ↦ r ∷ of_tree t rs | false ↦ of_tree t rs ]

-- what the node forced of it, newest first
abbrev pub forced_of : Aaid → Node → List LogRec
forced_of t x = of_tree t (records x.origin x.history)

-- ---- how far a log is with a tree

pub data Stage : Type 0 where
  -- nothing stands of it
  Blank : Stage
  -- Ready; and then a decision of the node's own
  Voted : Stage
  Decided : Outcome → Stage
  Ordered : Stage
  -- damage of a commitment; of a rollback
  Damaged : Stage
  Backed : Stage
  -- the end
  Over : Stage

abbrev pub when : Bool → Stage → Option Stage
when true g = Some g
when false g = None

-- after a Ready, which a branch alone gives; after a decision
abbrev pub after_vote : NodeKey → Stage → Option Stage
after_vote k Stage.Blank = when (not (is_root_key k)) Stage.Voted
after_vote k Stage.Voted = None
after_vote k (Stage.Decided u) = None
after_vote k Stage.Ordered = None
after_vote k Stage.Damaged = None
after_vote k Stage.Backed = None
after_vote k Stage.Over = None

abbrev pub after_decision : Outcome → Stage → Option Stage
after_decision o Stage.Blank = None
after_decision o Stage.Voted = Some (Stage.Decided o)
after_decision o (Stage.Decided u) = None
after_decision o Stage.Ordered = None
after_decision o Stage.Damaged = None
after_decision o Stage.Backed = None
after_decision o Stage.Over = None

-- after a Commit: of a root, its first record
abbrev pub after_order : NodeKey → Stage → Option Stage
after_order k Stage.Blank = when (is_root_key k) Stage.Ordered
after_order k Stage.Voted = Some Stage.Ordered
after_order k (Stage.Decided u) = Some Stage.Ordered
after_order k Stage.Ordered = None
after_order k Stage.Damaged = None
after_order k Stage.Backed = None
after_order k Stage.Over = None

-- after damage of a commitment, which stands again with each branch that is done later; of a rollback against the node's own
-- decision, which owes no branch
abbrev pub after_damage : Outcome → List Child → Stage → Option Stage
after_damage Outcome.Commit cs Stage.Ordered = Some Stage.Damaged
after_damage Outcome.Commit cs Stage.Damaged = Some Stage.Damaged
after_damage Outcome.Commit cs Stage.Blank = None
after_damage Outcome.Commit cs Stage.Voted = None
after_damage Outcome.Commit cs (Stage.Decided u) = None
after_damage Outcome.Commit cs Stage.Backed = None
after_damage Outcome.Commit cs Stage.Over = None
after_damage Outcome.Rollback cs (Stage.Decided Outcome.Commit) = when (is_nothing_owed cs) Stage.Backed
after_damage Outcome.Rollback cs (Stage.Decided Outcome.Rollback) = None
after_damage Outcome.Rollback cs Stage.Blank = None
after_damage Outcome.Rollback cs Stage.Voted = None
after_damage Outcome.Rollback cs Stage.Ordered = None
after_damage Outcome.Rollback cs Stage.Damaged = None
after_damage Outcome.Rollback cs Stage.Backed = None
after_damage Outcome.Rollback cs Stage.Over = None

abbrev pub after_end : Outcome → Stage → Option Stage
after_end Outcome.Commit Stage.Ordered = Some Stage.Over
after_end Outcome.Commit Stage.Damaged = Some Stage.Over
after_end Outcome.Commit Stage.Blank = None
after_end Outcome.Commit Stage.Voted = None
after_end Outcome.Commit (Stage.Decided u) = None
after_end Outcome.Commit Stage.Backed = None
after_end Outcome.Commit Stage.Over = None
after_end Outcome.Rollback Stage.Voted = Some Stage.Over
after_end Outcome.Rollback (Stage.Decided Outcome.Rollback) = Some Stage.Over
after_end Outcome.Rollback (Stage.Decided Outcome.Commit) = None
after_end Outcome.Rollback Stage.Backed = Some Stage.Over
after_end Outcome.Rollback Stage.Blank = None
after_end Outcome.Rollback Stage.Ordered = None
after_end Outcome.Rollback Stage.Damaged = None
after_end Outcome.Rollback Stage.Over = None

abbrev pub after_record : NodeKey → Stage → LogRec → Option Stage
after_record k g (LogRec.Boot n) = None
after_record k g (LogRec.Ready n j s cs) = after_vote k g
after_record k g (LogRec.Heuristic n j o) = after_decision o g
after_record k g (LogRec.Commit n j s cs) = after_order k g
after_record k g (LogRec.Damage n j s o r cs) = after_damage o cs g
after_record k g (LogRec.End n j o) = after_end o g

abbrev pub is_of_key : NodeKey → LogRec → Bool
is_of_key k (LogRec.Boot n) = false
is_of_key k (LogRec.Ready n j s cs) = is_key j k
is_of_key k (LogRec.Heuristic n j o) = is_key j k
is_of_key k (LogRec.Commit n j s cs) = is_key j k
is_of_key k (LogRec.Damage n j s o r cs) = is_key j k
is_of_key k (LogRec.End n j o) = is_key j k

-- none where the record has another key, or may not stand there
abbrev pub if_own : Bool → Option Stage → Option Stage
if_own true o = o
if_own false o = None

abbrev pub next_stage : NodeKey → LogRec → Option Stage → Option Stage
next_stage k r None = None
next_stage k r (Some g) = if_own (is_of_key k r) (after_record k g r)

-- of records of one tree, newest first
abbrev pub stage : NodeKey → List LogRec → Option Stage
stage k [] = Some Stage.Blank
stage k (r ∷ rs) = next_stage k r (stage k rs)

-- ---- every node of a world

-- its records of a tree have one key, and each may stand where it stands
abbrev pub OneLog : World → Type 0
OneLog w = (t : Aaid) (x : Node) → IsIn w x → (k : NodeKey) × (g : Stage) × (stage k (forced_of t x) ≡ Some g)

-- nothing follows an end
abbrev pub EndsLast : World → Type 0
EndsLast w = (t : Aaid) (x : Node) (newer older : List LogRec) (r : LogRec) → IsIn w x → forced_of t x ≡ newer ++ r ∷ older → is_end r ≡ true → newer ≡ []

-- a commitment that was complete with no report, of a node that decided nothing by itself: a branch forced Ready, Commit and End,
-- a root Commit and End
pub data CommitsIn (k : NodeKey) (rs : List LogRec) : Type 0 where
  Of_branch : (m n l : ℕ) (a : Option Addr) (b : Addr) (cs ds : List Child) → is_root_key k ≡ false
      → rs ≡ LogRec.End l k Outcome.Commit ∷ LogRec.Commit n k a cs ∷ LogRec.Ready m k b ds ∷ [] → CommitsIn k rs
  Of_root : (n l : ℕ) (a : Option Addr) (cs : List Child) → is_root_key k ≡ true
      → rs ≡ LogRec.End l k Outcome.Commit ∷ LogRec.Commit n k a cs ∷ [] → CommitsIn k rs

abbrev pub CommitsForceSo : World → Type 0
CommitsForceSo w =
    (t : Aaid) (x : Node) → IsIn w x → completed_none x.origin t x.history ≡ true → decision x.origin t x.history ≡ None
    → (k : NodeKey) × CommitsIn k (forced_of t x)

-- a node that left, or that rolled and gave no Ready, forced nothing
abbrev pub RollsUnforced : World → Type 0
RollsUnforced w =
    (t : Aaid) (x : Node) → IsIn w x
    → (has_left x.origin t x.history ≡ true) ⊎ (rolled x.origin t x.history ≡ true) × (has_ready_in t (records x.origin x.history) ≡ false)
    → forced_of t x ≡ []
