-- A turn touches the arcs that the transaction has: before it and after it they are the same.
use Rattle.std.proofs.Common.{◌≡◌, ◌∙◌, Bool, ◌&&◌, ◌||◌, not, List, [], ◌∷◌, ◌++◌, refl, ap, sym, subst}
use Rattle.std.specs.Prelude.{if◌then◌else◌}
use Rattle.tp_names.specs.declared.outcome.Outcome.{Outcome}
use Rattle.tp_records.specs.declared.dialogue.DialogueRecord.{DialogueRecord}
use Rattle.tp_model.specs.declared.arc.Side.{Side}
use Rattle.tp_model.specs.declared.transaction.Step.{Step}
use Rattle.tp_model.specs.declared.transaction.TxEvent.{TxEvent}
use Rattle.tp_model.specs.declared.transaction.TxOut.{TxOut}
use Rattle.tp_model.specs.Parts.{Who, Arc, Dialogue, Digest, Out}
use Rattle.tp_model.specs.Links.{is_live}
use Rattle.tp_model.specs.Dialogues.{is_grant_deferred, is_unchained, Ask_grant, said, cleared, completed, rested}
use Rattle.tp_model.specs.Arcs.{with_dialogues, performed}
use Rattle.tp_model.specs.Transactions.{Transaction, is_under_at, transacted, step_of}
use Rattle.tp_commit.specs.Branch.{standing, begins}
use Rattle.tp_model.specs.Node.{Move, move, followed, side_at, is_arc_of, is_arc_below, is_granting, without_deferral, entered, completed_arcs, left_arcs, grants, committed_dialogue, committed_arcs, perform_commit, played, Passage, Stays, Enters, Falls, Falls_at_once, Commits, Rolls_back, Leaves}
use Rattle.tp_draft.specs.Draft.{Draft, goes_on}
use Rattle.tp_draft.proofs.Members.{IsOnArcsOf, turned_on}
use Rattle.tp_draft.specs.Passage.{entering, playing, recording, acting, passing, acting_by, played_outs, around_completion}

arc_test : (t u : Transaction) → IsOnArcsOf t u → is_arc_of u ≡ is_arc_of t
arc_test t u on = λ i a. is_under_at (on.key i) a.peer.node || on.rows a.peer.node i

abbrev is_above : Transaction → Arc → Bool
is_above t a = is_under_at t.key a.peer.node

above_test : (t u : Transaction) → IsOnArcsOf t u → is_above u ≡ is_above t
above_test t u on = λ i a. is_under_at (on.key i) a.peer.node

below_test : (t u : Transaction) → IsOnArcsOf t u → is_arc_below u ≡ is_arc_below t
below_test t u on = λ i a. not (is_under_at (on.key i) a.peer.node) && on.rows a.peer.node i

granting_test : (t u : Transaction) → IsOnArcsOf t u → is_granting u ≡ is_granting t
granting_test t u on = λ i a. below_test t u on i a && is_live a.link && is_unchained a.dialogue && is_grant_deferred a.dialogue.deferral

entered_same : (t u : Transaction) → IsOnArcsOf t u → (w : Passage) (arcs : List Arc) → entered u w arcs ≡ entered t w arcs
unfolding entered
entered_same t u on Stays arcs = refl
entered_same t u on Enters arcs = λ i. with_dialogues arcs (arc_test t u on i) (λ a. cleared a.dialogue)
entered_same t u on Falls arcs = λ i. with_dialogues arcs (arc_test t u on i) (λ a. without_deferral (cleared a.dialogue))
entered_same t u on Falls_at_once arcs = λ i. with_dialogues arcs (arc_test t u on i) (λ a. without_deferral (cleared a.dialogue))
entered_same t u on Commits arcs = refl
entered_same t u on Rolls_back arcs = refl
entered_same t u on Leaves arcs = refl

completed_same : (t u : Transaction) → IsOnArcsOf t u → (d : Digest) (o : Outcome) (arcs : List Arc) → completed_arcs d u o arcs ≡ completed_arcs d t o arcs
completed_same t u on d o arcs = λ i. with_dialogues arcs (arc_test t u on i) (λ a. completed o (side_at d a.peer.node) a.dialogue)

left_same : (t u : Transaction) → IsOnArcsOf t u → (arcs : List Arc) → left_arcs u arcs ≡ left_arcs t arcs
left_same t u on arcs = λ i. with_dialogues (with_dialogues arcs (below_test t u on i) (λ a. completed Outcome.Rollback Side.Superior a.dialogue)) (above_test t u on i) (λ a. rested a.dialogue)

grants_same : (t u : Transaction) → IsOnArcsOf t u → (arcs : List Arc) → grants u arcs ≡ grants t arcs
grants_same t u on [] = refl
grants_same t u on (a ∷ arcs) = λ i. if granting_test t u on i a then TxOut.Carry a.peer.node DialogueRecord.Grant ∷ grants_same t u on arcs i else grants_same t u on arcs i

dialogue_same : (t u : Transaction) → IsOnArcsOf t u → (d : Digest) → committed_dialogue d u ≡ committed_dialogue d t
dialogue_same t u on d = λ i a. let over : Dialogue = completed Outcome.Commit (side_at d a.peer.node) a.dialogue in if granting_test t u on i a then said Ask_grant over else over

committed_same : (t u : Transaction) → IsOnArcsOf t u → (d : Digest) (arcs : List Arc) → committed_arcs d u arcs ≡ committed_arcs d t arcs
committed_same t u on d arcs = λ i. with_dialogues arcs (arc_test t u on i) (dialogue_same t u on d i)

commit_same : (t u : Transaction) → IsOnArcsOf t u → (d : Digest) (s : List TxOut × List TxOut) (arcs : List Arc) → perform_commit d u s arcs ≡ perform_commit d t s arcs
commit_same t u on d s arcs =
    let first : List Arc × List Out = performed arcs s.0 in
    λ i.
    let given : List Arc × List Out = performed (committed_same t u on d first.0 i) (grants_same t u on first.0 i) in
    let last : List Arc × List Out = performed given.0 s.1 in
    (last.0, first.1 ++ given.1 ++ last.1)

played_same : (t u : Transaction) → IsOnArcsOf t u → (d : Digest) (w : Passage) (outs : List TxOut) (arcs : List Arc) → played_outs d u w outs arcs ≡ played_outs d t w outs arcs
unfolding played
played_same t u on d Stays outs arcs = refl
played_same t u on d Enters outs arcs = refl
played_same t u on d Falls outs arcs = refl
played_same t u on d Falls_at_once outs arcs = let p : List Arc × List Out = performed arcs outs in λ i. (completed_same t u on d Outcome.Rollback p.0 i, p.1)
played_same t u on d Commits outs arcs = commit_same t u on d (around_completion outs) arcs
played_same t u on d Rolls_back outs arcs = let p : List Arc × List Out = performed arcs outs in λ i. (completed_same t u on d Outcome.Rollback p.0 i, p.1)
played_same t u on d Leaves outs arcs = let p : List Arc × List Out = performed arcs outs in λ i. (left_same t u on p.0 i, p.1)

entering_same : (t u : Transaction) → IsOnArcsOf t u → (w : Passage) (who : Who) (d : Digest) → entering u w who d ≡ entering t w who d
entering_same t u on w who d = λ i. move [] (record d { arcs = entered_same t u on w d.arcs i })

playing_same : (t u : Transaction) → IsOnArcsOf t u → (w : Passage) (outs : List TxOut) (who : Who) (d : Digest) → playing u w outs who d ≡ playing t w outs who d
playing_same t u on w outs who d = λ i. let p : List Arc × List Out = played_same t u on d w outs d.arcs i in move p.1 (record d { arcs = p.0 })

acting_same_arcs : (t u : Transaction) → IsOnArcsOf t u → (w : Passage) (s : Step) (who : Who) (d : Digest) → acting u w s who d ≡ acting t w s who d
acting_same_arcs t u on w s who d =
    λ i. followed (followed (entering_same t u on w who d i) (λ e. playing_same t u on w s.outs who e i)) (recording s.rec who)

-- a turn by an event that begins no branch, played at what the transaction has become
pub acts_alike : (a : Draft) (t u : Transaction) (e : TxEvent) (w : Passage) (s : Step) → begins e ≡ 0 → w ≡ passing t e → s ≡ step_of (transacted e t) → u ≡ standing (transacted e t).next
    → goes_on a (acting u w s) ≡ goes_on a (acting_by t e)
acts_alike a t u e w s none passes asks leaves =
    let on : IsOnArcsOf t u = subst (IsOnArcsOf t) (sym leaves) (turned_on e t none) in
    ap (λ (m : Move). record a { move = followed a.move (λ _. m) }) (acting_same_arcs t u on w s a.who a.move.next)
    ∙ ap (λ (x : Passage). goes_on a (acting t x s)) passes
    ∙ ap (λ (x : Step). goes_on a (acting t (passing t e) x)) asks
