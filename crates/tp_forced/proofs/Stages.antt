-- Which stage of its log goes with which phase of a transaction, and what a record makes of it.
use Rattle.std.proofs.Common.{◌≡◌, Bool, true, false, refl, ap, sym, ◌∙◌, Option, Some, None, List, [], ◌∷◌, ◌||◌}
use Rattle.std.specs.Prelude.{not}
use Rattle.tp_names.specs.declared.identifiers.Aaid.{Aaid}
use Rattle.tp_names.specs.declared.identifiers.NodeKey.{NodeKey}
use Rattle.tp_names.specs.declared.outcome.Outcome.{Outcome}
use Rattle.tp_names.specs.Same.{is_key, is_outcome}
use Rattle.tp_logrec.specs.declared.record.LogRec.{LogRec}
use Rattle.tp_model.specs.declared.arc.Phase.{Phase}
use Rattle.tp_model.specs.Parts.{Key, Root, Under}
use Rattle.tp_model.specs.Dialogues.{is_active, is_ready, is_committing, is_rolling}
use Rattle.tp_model.specs.Transactions.{node_key, is_under}
use Rattle.tp_model.specs.Recovery.{is_root_key}
use Rattle.tp_model.specs.History.{with_rec}
use Rattle.tp_model.specs.Promises.{is_of_tree, has_record}
use Rattle.tp_runs.specs.Bare.{rec_of_tree}
use Rattle.tp_forced.specs.TreeLog.{Stage, of_tree, after_record, is_of_key, if_own, next_stage, stage}
use Rattle.tp_steps.proofs.log.TurnLog.{key_self}

-- ---- stages and phases

abbrev pub is_blank : Stage → Bool
is_blank Stage.Blank = true
is_blank Stage.Voted = false
is_blank (Stage.Decided u) = false
is_blank Stage.Ordered = false
is_blank Stage.Damaged = false
is_blank Stage.Backed = false
is_blank Stage.Over = false

abbrev pub is_ordered : Stage → Bool
is_ordered Stage.Blank = false
is_ordered Stage.Voted = false
is_ordered (Stage.Decided u) = false
is_ordered Stage.Ordered = true
is_ordered Stage.Damaged = false
is_ordered Stage.Backed = false
is_ordered Stage.Over = false

-- a transaction that is over, or rolls, may be there
abbrev pub is_away : Stage → Bool
is_away Stage.Blank = true
is_away Stage.Voted = false
is_away (Stage.Decided u) = false
is_away Stage.Ordered = false
is_away Stage.Damaged = true
is_away Stage.Backed = true
is_away Stage.Over = true

abbrev pub is_voted : Option Outcome → Stage → Bool
is_voted u Stage.Blank = false
is_voted None Stage.Voted = true
is_voted (Some o) Stage.Voted = false
is_voted None (Stage.Decided p) = false
is_voted (Some o) (Stage.Decided p) = is_outcome o p
is_voted u Stage.Ordered = false
is_voted u Stage.Damaged = false
is_voted u Stage.Backed = false
is_voted u Stage.Over = false

abbrev pub is_open : Option Outcome → Stage → Bool
is_open None g = is_blank g
is_open (Some o) g = false

abbrev pub fits : Phase → Option Outcome → Stage → Bool
fits Phase.Nil u g = is_away g
fits Phase.Active u g = is_open u g
fits Phase.Ready u g = is_voted u g
fits Phase.Committing u g = is_ordered g
fits Phase.Rolling u g = is_away g

blank_is : (g : Stage) → is_blank g ≡ true → g ≡ Stage.Blank
blank_is Stage.Blank h = refl
blank_is _ h = absurd (cc (h))

ordered_is : (g : Stage) → is_ordered g ≡ true → g ≡ Stage.Ordered
ordered_is Stage.Ordered h = refl
ordered_is _ h = absurd (cc (h))

pub outcomes_equal : (o p : Outcome) → is_outcome o p ≡ true → o ≡ p
outcomes_equal Outcome.Commit Outcome.Commit h = refl
outcomes_equal Outcome.Rollback Outcome.Rollback h = refl
outcomes_equal _ _ h = absurd (cc (h))

pub outcome_self : (o : Outcome) → is_outcome o o ≡ true
outcome_self Outcome.Commit = refl
outcome_self Outcome.Rollback = refl

pub active_stage : (p : Phase) (u : Option Outcome) (g : Stage) → is_active p ≡ true → fits p u g ≡ true → (g ≡ Stage.Blank) × (u ≡ None)
active_stage Phase.Active None g a f = (blank_is g f, refl)
active_stage Phase.Active (Some o) g a f = absurd (cc (f))
active_stage Phase.Nil u g a f = absurd (cc (a))
active_stage Phase.Ready u g a f = absurd (cc (a))
active_stage Phase.Committing u g a f = absurd (cc (a))
active_stage Phase.Rolling u g a f = absurd (cc (a))

-- what stands of a ready one
pub data VotedAs (u : Option Outcome) (g : Stage) : Type 0 where
  Undecided : u ≡ None → g ≡ Stage.Voted → VotedAs u g
  By_itself : (o : Outcome) → u ≡ Some o → g ≡ Stage.Decided o → VotedAs u g

voted_as : (u : Option Outcome) (g : Stage) → is_voted u g ≡ true → VotedAs u g
voted_as None Stage.Voted h = Undecided refl refl
voted_as (Some o) (Stage.Decided p) h = By_itself o refl (ap (λ (q : Outcome). Stage.Decided q) (sym (outcomes_equal o p h)))
voted_as None (Stage.Decided p) h = absurd (cc (h))
voted_as (Some o) Stage.Voted h = absurd (cc (h))
voted_as u Stage.Blank h = absurd (cc (h))
voted_as u Stage.Ordered h = absurd (cc (h))
voted_as u Stage.Damaged h = absurd (cc (h))
voted_as u Stage.Backed h = absurd (cc (h))
voted_as u Stage.Over h = absurd (cc (h))

pub ready_stage : (p : Phase) (u : Option Outcome) (g : Stage) → is_ready p ≡ true → fits p u g ≡ true → VotedAs u g
ready_stage Phase.Ready u g a f = voted_as u g f
ready_stage Phase.Nil u g a f = absurd (cc (a))
ready_stage Phase.Active u g a f = absurd (cc (a))
ready_stage Phase.Committing u g a f = absurd (cc (a))
ready_stage Phase.Rolling u g a f = absurd (cc (a))

pub ordered_stage : (p : Phase) (u : Option Outcome) (g : Stage) → is_committing p ≡ true → fits p u g ≡ true → g ≡ Stage.Ordered
ordered_stage Phase.Committing u g a f = ordered_is g f
ordered_stage Phase.Nil u g a f = absurd (cc (a))
ordered_stage Phase.Active u g a f = absurd (cc (a))
ordered_stage Phase.Ready u g a f = absurd (cc (a))
ordered_stage Phase.Rolling u g a f = absurd (cc (a))

pub rolling_stage : (p : Phase) (u : Option Outcome) (g : Stage) → is_rolling p ≡ true → fits p u g ≡ true → is_away g ≡ true
rolling_stage Phase.Rolling u g a f = f
rolling_stage Phase.Nil u g a f = absurd (cc (a))
rolling_stage Phase.Active u g a f = absurd (cc (a))
rolling_stage Phase.Ready u g a f = absurd (cc (a))
rolling_stage Phase.Committing u g a f = absurd (cc (a))

pub blank_away : (g : Stage) → g ≡ Stage.Blank → is_away g ≡ true
blank_away g h = ap is_away h

-- ---- a record

pub own_key : (j k : NodeKey) → j ≡ k → is_key j k ≡ true
own_key j k h = ap (is_key j) (sym h) ∙ key_self j

-- of a transaction: none, or one of its key
abbrev pub own_stage : NodeKey → Stage → Option LogRec → Option Stage
own_stage k g None = Some g
own_stage k g (Some r) = next_stage k r (Some g)

pub keyed : (k : NodeKey) (g : Stage) (r : LogRec) (o : Option Stage) → is_of_key k r ≡ true → after_record k g r ≡ o → own_stage k g (Some r) ≡ o
keyed k g r o h i = ap (λ (b : Bool). if_own b (after_record k g r)) h ∙ i

pub root_key : (v : Key) → is_root_key (node_key v) ≡ not (is_under v)
root_key (Root t) = refl
root_key (Under t b a) = refl

-- of a node: one of the tree, or another
abbrev pub tree_stage : Bool → NodeKey → Stage → LogRec → Option Stage
tree_stage true k g r = next_stage k r (Some g)
tree_stage false k g r = Some g

abbrev pub log_step : Aaid → NodeKey → Stage → Option LogRec → Option Stage
log_step t k g None = Some g
log_step t k g (Some r) = tree_stage (is_of_tree t r) k g r

pub not_of_tree : (t : Aaid) (k : NodeKey) (g : Stage) (r : Option LogRec) → rec_of_tree t r ≡ false → log_step t k g r ≡ Some g
not_of_tree t k g None h = refl
not_of_tree t k g (Some r) h = ap (λ (b : Bool). tree_stage b k g r) h

pub of_its_tree : (t : Aaid) (k : NodeKey) (g : Stage) (r : LogRec) → is_of_tree t r ≡ true → log_step t k g (Some r) ≡ own_stage k g (Some r)
of_its_tree t k g r h = ap (λ (b : Bool). tree_stage b k g r) h

abbrev pub log_stage : Aaid → NodeKey → List LogRec → Option Stage
log_stage t k rs = stage k (of_tree t rs)

pub log_more : (t : Aaid) (k : NodeKey) (g : Stage) (r : Option LogRec) (rs : List LogRec) (o : Option Stage) → log_stage t k rs ≡ Some g → log_step t k g r ≡ o → log_stage t k (with_rec r rs) ≡ o
log_more t k g None rs o h i = h ∙ i
log_more t k g (Some r) rs o h i = go (is_of_tree t r) refl i
  where
    go : (b : Bool) → is_of_tree t r ≡ b → tree_stage (is_of_tree t r) k g r ≡ o → stage k (elim (is_of_tree t r) as (λ _. List LogRec) [ true ↦ r ∷ of_tree t rs | false ↦ of_tree t rs ]) ≡ o
    go true j l =
        ap (λ (b : Bool). stage k (elim b as (λ _. List LogRec) [ true ↦ r ∷ of_tree t rs | false ↦ of_tree t rs ])) j
        ∙ ap (next_stage k r) h ∙ sym (ap (λ (b : Bool). tree_stage b k g r) j) ∙ l
    go false j l =
        ap (λ (b : Bool). stage k (elim b as (λ _. List LogRec) [ true ↦ r ∷ of_tree t rs | false ↦ of_tree t rs ])) j
        ∙ h ∙ sym (ap (λ (b : Bool). tree_stage b k g r) j) ∙ l

-- where nothing is logged of the tree
pub no_records : (t : Aaid) (rs : List LogRec) → has_record (is_of_tree t) rs ≡ false → of_tree t rs ≡ []
no_records t [] h = refl
no_records t (r ∷ rs) h =
    let here : is_of_tree t r ≡ false = first (is_of_tree t r) (has_record (is_of_tree t) rs) h in
    let rest : has_record (is_of_tree t) rs ≡ false = second (is_of_tree t r) (has_record (is_of_tree t) rs) h in
    ap (λ (b : Bool). elim b as (λ _. List LogRec) [ true ↦ r ∷ of_tree t rs | false ↦ of_tree t rs ]) here ∙ no_records t rs rest
  where
    first : (x y : Bool) → (x || y) ≡ false → x ≡ false
    first false y i = refl
    first true y i = absurd (cc (i))

    second : (x y : Bool) → (x || y) ≡ false → y ≡ false
    second false y i = i
    second true y i = absurd (cc (i))
