-- What is promised of a tree, over every run: the three sentences, and what carries them. Statements alone; nothing is proved here.
-- `t` is a tree, by its identifier; x and y are nodes of one world.
use Rattle.std.specs.Prelude.{ℕ, ◌==◌, ◌≡◌, ◌≢◌, ◌⊎◌, ◌&&◌, ◌||◌, Bool, true, false, Option, Some, None, List, [], ◌∷◌, ◌++◌, Any}
use Rattle.tp_names.specs.declared.identifiers.Aaid.{Aaid}
use Rattle.tp_names.specs.declared.identifiers.BranchId.{BranchId}
use Rattle.tp_names.specs.declared.identifiers.Mark.{Mark}
use Rattle.tp_names.specs.declared.identifiers.Addr.{Addr}
use Rattle.tp_names.specs.declared.outcome.Outcome.{Outcome}
use Rattle.tp_names.specs.declared.outcome.Report.{Report}
use Rattle.tp_names.specs.Same.{is_name, is_aaid, is_branch, is_addr}
use Rattle.tp_records.specs.declared.indication.Indication.{Indication}
use Rattle.tp_records.specs.declared.dialogue.DialogueRecord.{DialogueRecord}
use Rattle.tp_records.specs.declared.peer.PeerRecord.{PeerRecord}
use Rattle.tp_records.specs.declared.peer.RecState.{RecState}
use Rattle.tp_logrec.specs.declared.record.LogRec.{LogRec}
use Rattle.tp_model.specs.declared.out_line.OutLine.{OutLine}
use Rattle.tp_model.specs.Parts.{Origin, Event, Out, Entry, Arc, Branch}
use Rattle.tp_model.specs.Links.{is_live_with}
use Rattle.tp_model.specs.Dialogues.{is_polarized}
use Rattle.tp_model.specs.History.{digest, records}
use Rattle.tp_model.specs.Outcomes.{is_now, is_member, decided, rolled, has_left, decision, told, has_asked_or_left, completed_none, is_owed, has_failed}
use Rattle.tp_model.specs.Legal.{IsLegal}
use Rattle.tp_model.specs.Traces.{sent_on, taken_on}
use Rattle.tp_model.specs.World.{World, Node, Frame, number_of, site_of, addr_of, find_node}
use Rattle.tp_model.specs.Trees.{stays, members_of, closing_line}
use Rattle.tp_model.specs.Questions.{tells_commit_complete}

-- ---- a node and a tree

abbrev pub IsIn : World → Node → Type 0
IsIn w x = find_node w.nodes (number_of x) ≡ Some x

-- the node is in the world and in the tree
pub record IsOf (w : World) (t : Aaid) (x : Node) : Type 0 where
  pub here : IsIn w x
  pub of_tree : is_member x.origin t x.history ≡ true

-- it drew the tree's identifier
abbrev pub is_root : Aaid → Node → Bool
is_root t x = is_name t.owner (site_of x) && (t.mark.node == number_of x)

abbrev pub told_of : Aaid → Node → Option Outcome
told_of t x = told x.origin t x.history

abbrev pub HasDecided : Aaid → Node → Type 0
HasDecided t x = (o : Outcome) × (decision x.origin t x.history ≡ Some o)

-- ---- the three sentences

-- of two nodes of one tree told different outcomes, at least one logged a decision
abbrev pub OneOutcome : World → Type 0
OneOutcome w =
    (t : Aaid) (x y : Node) (o p : Outcome) → IsOf w t x → IsOf w t y → told_of t x ≡ Some o → told_of t y ≡ Some p → o ≢ p
    → HasDecided t x ⊎ HasDecided t y

-- every staying node is told commit
abbrev pub AllCommitted : World → Aaid → Type 0
AllCommitted w t = (y : Node) → IsOf w t y → stays t y ≡ true → told_of t y ≡ Some Outcome.Commit

-- a commit completion with no report at the root means that every staying node committed
abbrev pub ReportFree : World → Type 0
ReportFree w = (t : Aaid) (x : Node) → IsOf w t x → is_root t x ≡ true → completed_none x.origin t x.history ≡ true → AllCommitted w t

-- the node took the frame's record from its sender
abbrev pub HasTaken : Frame → Node → Type 0
HasTaken f x = Any (λ e. e.event ≡ Event.Arrive f.from f.rec) x.history

-- each frame that a node of the tree sent was taken where it went, and no node of the tree owes its done
pub record IsDrained (w : World) (t : Aaid) : Type 0 where
  pub taken : (x y : Node) (f : Frame) → IsOf w t x → Any (λ g. g ≡ f) w.frames → f.from ≡ addr_of x → find_node w.nodes f.to.node ≡ Some y → HasTaken f y
  pub settled : (x : Node) → IsOf w t x → is_owed x.origin t x.history ≡ false

-- no node of the tree crashed, lost an association, decided, gave up, rolled back or aborted by request, or was out of phase
abbrev pub IsFailureFree : World → Aaid → Type 0
IsFailureFree w t = (x : Node) → IsOf w t x → has_failed x.history ≡ false

-- each user asked for commitment, or left
abbrev pub AllAsked : World → Aaid → Type 0
AllAsked w t = (x : Node) → IsOf w t x → has_asked_or_left x.origin t x.history ≡ true

-- every staying node logged Commit, and was told that it is complete, with no report
pub record HasCommitted (t : Aaid) (y : Node) : Type 0 where
  pub logged : decided y.origin t y.history ≡ true
  pub complete : completed_none y.origin t y.history ≡ true

-- a drained failure-free tree whose users all asked for commitment or left has committed at every staying node
abbrev pub DrainedCommits : World → Type 0
DrainedCommits w =
    (t : Aaid) → Any (λ u. u ≡ t) w.trees → IsDrained w t → IsFailureFree w t → AllAsked w t
    → (y : Node) → IsOf w t y → stays t y ≡ true → HasCommitted t y

pub record Headline (w : World) : Type 0 where
  pub one_outcome : OneOutcome w
  pub report_free : ReportFree w
  pub drained_commits : DrainedCommits w

-- ---- what users see

abbrev pub tells_commit : List Out → Bool
tells_commit [] = false
tells_commit (Out.Tell Indication.Commit ∷ outs) = true
tells_commit (Out.Tell (Indication.CommitComplete r) ∷ outs) = true
tells_commit (_ ∷ outs) = tells_commit outs

abbrev pub tells_rollback : List Out → Bool
tells_rollback [] = false
tells_rollback (Out.Tell Indication.Rollback ∷ outs) = true
tells_rollback (Out.Tell (Indication.RollbackComplete r) ∷ outs) = true
tells_rollback (_ ∷ outs) = tells_rollback outs

-- an entry that comes while the tree is current tells so
abbrev pub has_told_in : (List Out → Bool) → Origin → Aaid → List Entry → Bool
has_told_in test o t [] = false
has_told_in test o t (e ∷ h) = is_now t (digest o h).current && test e.outs || has_told_in test o t h

-- users are told commit only where it is logged, and rollback only where the node rolled; never both
pub record WhatUsersSee (w : World) : Type 0 where
  pub sees_commit : (t : Aaid) (x : Node) → IsIn w x → has_told_in tells_commit x.origin t x.history ≡ true → decided x.origin t x.history ≡ true
  pub sees_rollback : (t : Aaid) (x : Node) → IsIn w x → has_told_in tells_rollback x.origin t x.history ≡ true → rolled x.origin t x.history ≡ true
  pub never_both : (t : Aaid) (x : Node) → IsIn w x → decided x.origin t x.history ≡ true → rolled x.origin t x.history ≡ true → ⊥

-- ---- parent and child

-- the record is Ready of that branch; it is Ready or Commit of the tree
abbrev pub is_ready_of_branch : Aaid → BranchId → LogRec → Bool
is_ready_of_branch t b (LogRec.Ready n k s cs) = is_aaid t k.aaid && elim k.branch [ None ↦ false | Some c ↦ is_branch b c ]
is_ready_of_branch t b _ = false

abbrev pub is_bound_of : Aaid → LogRec → Bool
is_bound_of t (LogRec.Ready n k s cs) = is_aaid t k.aaid
is_bound_of t (LogRec.Commit n k s cs) = is_aaid t k.aaid
is_bound_of t _ = false

abbrev pub is_of_tree : Aaid → LogRec → Bool
is_of_tree t (LogRec.Boot n) = false
is_of_tree t (LogRec.Ready n k s cs) = is_aaid t k.aaid
is_of_tree t (LogRec.Heuristic n k u) = is_aaid t k.aaid
is_of_tree t (LogRec.Commit n k s cs) = is_aaid t k.aaid
is_of_tree t (LogRec.Damage n k s u r cs) = is_aaid t k.aaid
is_of_tree t (LogRec.End n k u) = is_aaid t k.aaid

abbrev pub has_record : (LogRec → Bool) → List LogRec → Bool
has_record test [] = false
has_record test (r ∷ rs) = test r || has_record test rs

abbrev pub has_logged : (LogRec → Bool) → Node → Bool
has_logged test x = has_record test (records x.origin x.history)

-- the node took a Begin of the tree's branch from that address
abbrev pub is_begin_of : Aaid → BranchId → Addr → Event → Bool
is_begin_of t b a (Event.Arrive from (PeerRecord.OnAssoc x y s (DialogueRecord.Begin u c h))) = is_addr a from && is_aaid t u && is_branch b c
is_begin_of t b a _ = false

abbrev pub has_begun : Aaid → BranchId → Addr → List Entry → Bool
has_begun t b a [] = false
has_begun t b a (e ∷ h) = is_begin_of t b a e.event || has_begun t b a h

-- y is the node at the end of the branch b of x
pub record IsBranchOf (w : World) (t : Aaid) (b : BranchId) (x y : Node) : Type 0 where
  pub superior : IsOf w t x
  pub child : IsOf w t y
  pub begun : has_begun t b (addr_of x) y.history ≡ true

-- the Ready of the branch was taken in the current transaction
abbrev pub is_counted_in : BranchId → List Branch → Bool
is_counted_in b [] = false
is_counted_in b (c ∷ cs) = (is_branch b c.id && c.counted) || is_counted_in b cs

abbrev pub is_counted : Aaid → BranchId → Node → Bool
is_counted t b x = elim (digest x.origin x.history).current [ None ↦ false | Some c ↦ is_now t (Some c) && is_counted_in b c.branches ]

-- y is x, or stands below it
pub data IsBelow (w : World) (t : Aaid) (x : Node) : Node → Type 0 where
  itself : IsBelow w t x x
  below : (b : BranchId) (y z : Node) → IsBelow w t x y → IsBranchOf w t b y z → IsBelow w t x z

pub record ParentAndChild (w : World) : Type 0 where
  -- Commit goes up
  pub commits_up : (t : Aaid) (b : BranchId) (x y : Node) → IsBranchOf w t b x y → decided y.origin t y.history ≡ true → decided x.origin t x.history ≡ true
  -- Ready goes down, but to branches that left
  pub ready_down : (t : Aaid) (b : BranchId) (x y : Node) → IsBranchOf w t b x y → has_logged (is_bound_of t) x ≡ true
      → (has_left y.origin t y.history ≡ true) ⊎ (has_logged (is_ready_of_branch t b) y ≡ true)
  -- what is counted is logged
  pub counted_is_logged : (t : Aaid) (b : BranchId) (x y : Node) → IsBranchOf w t b x y → is_counted t b x ≡ true → has_logged (is_ready_of_branch t b) y ≡ true
  -- a ready child rolls only with its superior
  pub rolls_up : (t : Aaid) (b : BranchId) (x y : Node) → IsBranchOf w t b x y → has_logged (is_ready_of_branch t b) y ≡ true
      → rolled y.origin t y.history ≡ true
      → rolled x.origin t x.history ≡ true
  -- a child that rolled without Ready is never counted
  pub rolled_is_uncounted : (t : Aaid) (b : BranchId) (x y : Node) → IsBranchOf w t b x y → has_logged (is_ready_of_branch t b) y ≡ false
      → rolled y.origin t y.history ≡ true
      → is_counted t b x ≡ false
  -- a node that left has no record, did not roll, and all below it left
  pub left_is_bare : (t : Aaid) (x : Node) → IsOf w t x → has_left x.origin t x.history ≡ true → has_logged (is_of_tree t) x ≡ false
  pub left_is_not_rolled : (t : Aaid) (x : Node) → IsOf w t x → has_left x.origin t x.history ≡ true → rolled x.origin t x.history ≡ false
  pub left_goes_down : (t : Aaid) (x y : Node) → IsOf w t x → has_left x.origin t x.history ≡ true → IsBelow w t x y → has_left y.origin t y.history ≡ true

-- ---- reports

-- Done with no report, on the association while the tree is current, or as a reply for the branch
abbrev pub is_done_none : Aaid → BranchId → Bool → Out → Bool
is_done_none t b now (Out.Tell i) = false
is_done_none t b now (Out.Send a (PeerRecord.OnAssoc x y s (DialogueRecord.Done Report.None))) = now
is_done_none t b now (Out.Send a (PeerRecord.RecReply u c (RecState.Done Report.None))) = is_aaid t u && is_branch b c
is_done_none t b now (Out.Send a _) = false

abbrev pub some_out : (Out → Bool) → List Out → Bool
some_out test [] = false
some_out test (o ∷ outs) = test o || some_out test outs

abbrev pub has_sent_done_none : Origin → Aaid → BranchId → List Entry → Bool
has_sent_done_none o t b [] = false
has_sent_done_none o t b (e ∷ h) = some_out (is_done_none t b (is_now t (digest o h).current)) e.outs || has_sent_done_none o t b h

-- while the superior has not completed, a Done with no report means that all at and below the branch are told commit
abbrev pub Reports : World → Type 0
Reports w =
    (t : Aaid) (b : BranchId) (x y z : Node) → IsBranchOf w t b x y → has_told_in tells_commit_complete x.origin t x.history ≡ false
    → has_sent_done_none y.origin t b y.history ≡ true → IsBelow w t y z → stays t z ≡ true → told_of t z ≡ Some Outcome.Commit

-- ---- closing lines

-- a tree that is mixed names those that decided
abbrev pub MixedIsNamed : World → Type 0
MixedIsNamed w = (t : Aaid) (ns : List ℕ) → closing_line t (members_of t w.nodes) ≡ OutLine.Mixed t ns → ns ≢ []

-- ---- associations and control

-- what one end took with a pair of marks is a prefix of what the other end sent with it
abbrev pub PrefixTaken : World → Type 0
PrefixTaken w =
    (n m : Node) (x y : Mark) → IsIn w n → IsIn w m
    → (more : List DialogueRecord) × (sent_on x y (number_of m) n.history ≡ taken_on x y (number_of n) m.history ++ more)

-- the end of a live polarized dialogue with that pair holds control
abbrev pub holds_on : Mark → Mark → Arc → Bool
holds_on x y a = is_live_with a.link x y && is_polarized a.dialogue && a.dialogue.holds

abbrev pub some_holds : Mark → Mark → List Arc → Bool
some_holds x y [] = false
some_holds x y (a ∷ arcs) = holds_on x y a || some_holds x y arcs

abbrev pub holds_at : Mark → Mark → Node → Bool
holds_at x y n = some_holds x y (digest n.origin n.history).arcs

-- two live ends of one polarized dialogue never both hold control
abbrev pub OneHolder : World → Type 0
OneHolder w = (n m : Node) (x y : Mark) → IsIn w n → IsIn w m → number_of n ≢ number_of m → holds_at x y n ≡ true → holds_at x y m ≡ true → ⊥

-- every history is legal
abbrev pub AllLegal : World → Type 0
AllLegal w = (n : Node) → IsIn w n → IsLegal n.origin n.superior n.history

-- ---- the whole

pub record Promised (w : World) : Type 0 where
  pub legal : AllLegal w
  pub associations : PrefixTaken w
  pub control : OneHolder w
  pub headline : Headline w
  pub users : WhatUsersSee w
  pub family : ParentAndChild w
  pub reports : Reports w
  pub mixed : MixedIsNamed w
