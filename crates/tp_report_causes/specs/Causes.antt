-- Where a report comes from: a completion that tells one has its cause at the node, or at a branch that told it.
use Rattle.std.specs.Prelude.{◌≡◌, ◌⊎◌, ◌&&◌, ◌||◌, not, Bool, true, false, Option, Some, None, List, [], ◌∷◌}
use Rattle.tp_names.specs.declared.identifiers.Aaid.{Aaid}
use Rattle.tp_names.specs.declared.outcome.Outcome.{Outcome}
use Rattle.tp_names.specs.declared.outcome.Report.{Report}
use Rattle.tp_names.specs.Same.{is_aaid}
use Rattle.tp_records.specs.declared.indication.Indication.{Indication}
use Rattle.tp_records.specs.declared.dialogue.DialogueRecord.{DialogueRecord}
use Rattle.tp_records.specs.declared.peer.PeerRecord.{PeerRecord}
use Rattle.tp_records.specs.declared.peer.RecState.{RecState}
use Rattle.tp_model.specs.Parts.{Origin, Event, Out, Entry, Branch, Current}
use Rattle.tp_model.specs.Dialogues.{is_committing, is_rolling}
use Rattle.tp_model.specs.Transactions.{aaid_of}
use Rattle.tp_model.specs.Arrivals.{find_branch_by_id}
use Rattle.tp_model.specs.History.{digest}
use Rattle.tp_model.specs.Outcomes.{decision}
use Rattle.tp_model.specs.World.{World, Node}
use Rattle.tp_model.specs.Promises.{IsIn, has_told_in}
use Rattle.tp_steps.specs.Facts.{find_branch}
use Rattle.tp_steps.specs.Clearing.{same_report}

-- ---- what is told

-- that a commitment is complete, with that report; that a rollback is
abbrev pub tells_committed : Report → List Out → Bool
tells_committed r [] = false
tells_committed r (Out.Tell (Indication.CommitComplete s) ∷ outs) = same_report r s || tells_committed r outs
tells_committed r (_ ∷ outs) = tells_committed r outs

abbrev pub tells_rolled_back : Report → List Out → Bool
tells_rolled_back r [] = false
tells_rolled_back r (Out.Tell (Indication.RollbackComplete s) ∷ outs) = same_report r s || tells_rolled_back r outs
tells_rolled_back r (_ ∷ outs) = tells_rolled_back r outs

-- ---- causes

-- a branch that is neither done nor left
abbrev pub is_awaited : Option Branch → Bool
is_awaited None = false
is_awaited (Some b) = not b.ended && not b.left

-- the event takes the word of such a branch, with that report: Done in a commitment, over an association or as a reply, or
-- RolledBack in a rollback
abbrev pub hears : Report → Current → Event → Bool
hears r c (Event.Arrive a (PeerRecord.OnAssoc x y q (DialogueRecord.Done s))) = is_committing c.phase
    && is_awaited (find_branch c.branches a.node) && same_report r s
hears r c (Event.Arrive a (PeerRecord.OnAssoc x y q (DialogueRecord.RolledBack s))) = is_rolling c.phase
    && is_awaited (find_branch c.branches a.node) && same_report r s
hears r c (Event.Arrive a (PeerRecord.RecReply u b (RecState.Done s))) = is_committing c.phase
    && is_awaited (find_branch_by_id c.branches b) && is_aaid (aaid_of c.key) u && same_report r s
hears r c _ = false

abbrev pub gives_up : Current → Event → Bool
gives_up c (Event.GiveUp p) = true
gives_up c _ = false

-- while the tree is current
abbrev pub is_met : (Current → Event → Bool) → Aaid → Option Current → Event → Bool
is_met f t None e = false
is_met f t (Some c) e = is_aaid t (aaid_of c.key) && f c e

abbrev pub has_met : (Current → Event → Bool) → Origin → Aaid → List Entry → Bool
has_met f o t [] = false
has_met f o t (e ∷ h) = is_met f t (digest o h).current e.event || has_met f o t h

-- a branch told the report; the node gave up a branch
abbrev pub has_heard : Report → Aaid → Node → Bool
has_heard r t x = has_met (hears r) x.origin t x.history

abbrev pub has_given_up : Aaid → Node → Bool
has_given_up t x = has_met gives_up x.origin t x.history

-- ---- every node of a world

pub record ReportsHaveCauses (w : World) : Type 0 where
  -- mix at a commitment: the node decided rollback by itself, or a branch told mix
  pub mixed_commit : (t : Aaid) (x : Node) → IsIn w x → has_told_in (tells_committed Report.Mix) x.origin t x.history ≡ true
      → (decision x.origin t x.history ≡ Some Outcome.Rollback) ⊎ (has_heard Report.Mix t x ≡ true)
  -- mix at a rollback: the node decided commit by itself, or a branch told mix
  pub mixed_rollback : (t : Aaid) (x : Node) → IsIn w x → has_told_in (tells_rolled_back Report.Mix) x.origin t x.history ≡ true
      → (decision x.origin t x.history ≡ Some Outcome.Commit) ⊎ (has_heard Report.Mix t x ≡ true)
  -- hazard: the node gave up a branch, or a branch told hazard
  pub hazard_commit : (t : Aaid) (x : Node) → IsIn w x → has_told_in (tells_committed Report.Hazard) x.origin t x.history ≡ true
      → (has_given_up t x ≡ true) ⊎ (has_heard Report.Hazard t x ≡ true)
  pub hazard_rollback : (t : Aaid) (x : Node) → IsIn w x → has_told_in (tells_rolled_back Report.Hazard) x.origin t x.history ≡ true
      → (has_given_up t x ≡ true) ⊎ (has_heard Report.Hazard t x ≡ true)
