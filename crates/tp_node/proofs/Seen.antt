-- What a transaction refuses, and what it tells an arc, rests on nothing that it sees of its arcs.
use Rattle.std.proofs.Common.{◌≡◌, ℕ, Bool, true, false, ◌&&◌, Option, Some, None, List, [], ◌∷◌, refl, ap, ◌∙◌, arith}
use Rattle.std.specs.Option.{option_map}
use Rattle.std.proofs.lemmas.Grind.{common_steps}
use Rattle.tp_records.specs.declared.request.Request.{Request}
use Rattle.tp_records.specs.declared.dialogue.DialogueRecord.{DialogueRecord}
use Rattle.tp_model.specs.declared.transaction.TxEvent.{TxEvent}
use Rattle.tp_model.specs.Parts.{Who, Arc, Branch}
use Rattle.tp_model.specs.Transactions.{Row, Transaction, find_row, row_holds, all_left, situation_of, refused_user, refused_tx, may_give_up, sight_of_tx, out_of_phase}
use Rattle.tp_model.specs.Node.{seen_row, seen_rows, seen, branches_of}
use Rattle.tp_node.specs.Node.{current_of}

abbrev again : List Arc → List Row → List Row
again arcs rows = seen_rows arcs (branches_of rows)

find_again : (arcs : List Arc) (rows : List Row) (p : ℕ) → find_row (again arcs rows) p ≡ option_map (λ (r : Row). seen_row arcs r.branch) (find_row rows p)
find_again arcs [] p = refl
find_again arcs (r ∷ rows) p = grind (arith, common_steps, find_again arcs rows p)

abbrev answer : (Branch → Bool) → Option Row → Bool
answer f o = elim o [ None ↦ false | Some r ↦ f r.branch ]

answer_seen : (arcs : List Arc) (f : Branch → Bool) (o : Option Row) → answer f (option_map (λ (r : Row). seen_row arcs r.branch) o) ≡ answer f o
answer_seen arcs f None = refl
answer_seen arcs f (Some r) = refl

holds_again : (arcs : List Arc) (rows : List Row) (p : ℕ) (f : Branch → Bool) → row_holds (again arcs rows) p f ≡ row_holds rows p f
holds_again arcs rows p f = ap (answer f) (find_again arcs rows p) ∙ answer_seen arcs f (find_row rows p)

left_again : (arcs : List Arc) (rows : List Row) → all_left (again arcs rows) ≡ all_left rows
left_again arcs [] = refl
left_again arcs (r ∷ rows) = ap (λ b. r.branch.left && b) (left_again arcs rows)

pub situation_seen : (who : Who) (arcs : List Arc) (t : Transaction) (p : ℕ) → situation_of t p ≡ situation_of (seen who arcs (current_of t)) p
unfolding situation_of
situation_seen who arcs t p = grind (arith, holds_again arcs t.rows p (λ b. true), holds_again arcs t.rows p (λ b. b.prepared), holds_again arcs t.rows p (λ b. b.ended), holds_again arcs t.rows p (λ b. b.left))

pub user_seen : (who : Who) (arcs : List Arc) (t : Transaction) (r : Request) → refused_user t r ≡ refused_user (seen who arcs (current_of t)) r
user_seen who arcs t Request.Unchanged = grind (arith, left_again arcs t.rows)
user_seen who arcs t _ = refl

give_up_seen : (who : Who) (arcs : List Arc) (t : Transaction) (p : ℕ) → may_give_up t p ≡ may_give_up (seen who arcs (current_of t)) p
give_up_seen who arcs t p = grind (arith, holds_again arcs t.rows p)

pub sight_seen : (who : Who) (arcs : List Arc) (t : Transaction) (p : ℕ) (r : DialogueRecord) → sight_of_tx t p r ≡ sight_of_tx (seen who arcs (current_of t)) p r
unfolding sight_of_tx
sight_seen who arcs t p DialogueRecord.Ready = grind (arith, holds_again arcs t.rows p)
sight_seen who arcs t p (DialogueRecord.Done x) = grind (arith, holds_again arcs t.rows p)
sight_seen who arcs t p DialogueRecord.Rollback = grind (arith, common_steps, find_again arcs t.rows p)
sight_seen who arcs t p (DialogueRecord.RolledBack x) = grind (arith, holds_again arcs t.rows p)
sight_seen who arcs t p DialogueRecord.Left = grind (arith, holds_again arcs t.rows p)
sight_seen who arcs t p DialogueRecord.LeftEnd = grind (arith, holds_again arcs t.rows p)
sight_seen who arcs t p _ = refl

pub refused_seen : (who : Who) (arcs : List Arc) (t : Transaction) (e : TxEvent) → refused_tx e t ≡ refused_tx e (seen who arcs (current_of t))
unfolding refused_tx
refused_seen who arcs t (TxEvent.User r) = user_seen who arcs t r
refused_seen who arcs t (TxEvent.Took p r) = ap out_of_phase (sight_seen who arcs t p r)
refused_seen who arcs t (TxEvent.GiveUp p) = grind (arith, give_up_seen who arcs t p)
refused_seen who arcs t _ = refl
