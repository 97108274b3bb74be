-- Turns of which the record is logged and kept before anything is said: saying reads neither.
use Rattle.std.proofs.Common.{◌≡◌, Option, Some, None, Result, List, [], ◌∷◌, ◌++◌, refl, ap, sym, ◌∙◌}
use Rattle.tp_logrec.specs.declared.record.LogRec.{LogRec}
use Rattle.tp_model.specs.declared.recovery.Kept.{Kept}
use Rattle.tp_model.specs.declared.transaction.TxEvent.{TxEvent}
use Rattle.tp_model.specs.declared.transaction.TxOut.{TxOut}
use Rattle.tp_model.specs.declared.transaction.Step.{Step}
use Rattle.tp_model.specs.Parts.{Who, Out, Digest}
use Rattle.tp_model.specs.Transactions.{Transaction, transacted, step_of}
use Rattle.tp_model.specs.Recovery.{kept_after}
use Rattle.tp_model.specs.Node.{Move, Passage, played, Stays, Enters, Falls, Falls_at_once, Commits, Rolls_back, Leaves}
use Rattle.tp_commit.specs.Branch.{begins, standing}
use Rattle.tp_node.specs.declared.halt.Halt.{Halt}
use Rattle.tp_draft.specs.Draft.{Draft, goes_on, Plays, later, recorded}
use Rattle.tp_draft.specs.Passage.{speaking, acting, acting_by, passing}
use Rattle.tp_draft.proofs.Drafts.{plays_alike}
use Rattle.tp_draft.proofs.SameArcs.{acts_alike}

-- what is said, with that record and what is kept of it
abbrev said_with : Draft → Option LogRec → List Out → List Kept → Move → Draft
said_with a r outs kept m = record { who = a.who; move = record { rec = r; outs = a.move.outs ++ outs; next = record m.next { kept = kept } } }

said_so : (r : Option LogRec) (a : Draft) (t : Transaction) (outs : List TxOut) (w : Passage)
    → goes_on (recorded r a) (speaking t w outs) ≡ (let m : Move = speaking t w outs a.who a.move.next in said_with a (later a.move.rec r) m.outs (kept_after r a.move.next.kept) m)
unfolding played
said_so r a t outs Stays = refl
said_so r a t outs Enters = refl
said_so r a t outs Falls = refl
said_so r a t outs Falls_at_once = refl
said_so r a t outs Commits = refl
said_so r a t outs Rolls_back = refl
said_so r a t outs Leaves = refl

keeps_kept : (t : Transaction) (outs : List TxOut) (who : Who) (d : Digest) (w : Passage) → (speaking t w outs who d).next.kept ≡ d.kept
unfolding played
keeps_kept t outs who d Stays = refl
keeps_kept t outs who d Enters = refl
keeps_kept t outs who d Falls = refl
keeps_kept t outs who d Falls_at_once = refl
keeps_kept t outs who d Commits = refl
keeps_kept t outs who d Rolls_back = refl
keeps_kept t outs who d Leaves = refl

none_more : (xs : List Out) → xs ++ [] ≡ xs
none_more [] = refl
none_more (x ∷ xs) = ap (λ (ys : List Out). x ∷ ys) (none_more xs)

none_before : (r : Option LogRec) → later None r ≡ r
none_before None = refl
none_before (Some x) = refl

acts_after : (a : Draft) (t : Transaction) (w : Passage) (s : Step) → goes_on (recorded s.rec a) (speaking t w s.outs) ≡ goes_on a (acting t w s)
acts_after a t w s =
    let d : Digest = a.move.next in
    let m : Move = speaking t w s.outs a.who d in
    said_so s.rec a t s.outs w
    ∙ ap (λ (q : Option LogRec). said_with a (later a.move.rec q) m.outs (kept_after s.rec d.kept) m) (sym (none_before s.rec))
    ∙ ap (λ (l : List Out). said_with a (later a.move.rec (later None s.rec)) l (kept_after s.rec d.kept) m) (sym (none_more m.outs))
    ∙ ap (λ (k : List Kept). said_with a (later a.move.rec (later None s.rec)) (m.outs ++ []) (kept_after s.rec k) m) (sym (keeps_kept t s.outs a.who d w))

-- a turn by an event that begins no branch, played at what the transaction has become, once its record is logged
pub turns_by : (r : Result (Unit {0}) Halt) (a b c : Draft) (t u : Transaction) (e : TxEvent) (w : Passage) (outs : List TxOut) → begins e ≡ 0 → w ≡ passing t e
    → b ≡ recorded (step_of (transacted e t)).rec a → outs ≡ (step_of (transacted e t)).outs → u ≡ standing (transacted e t).next
    → Plays r b c (speaking u w outs) → Plays r a c (acting_by t e)
turns_by r a b c t u e w outs none passes logs says leaves p =
    let s : Step = step_of (transacted e t) in
    plays_alike r a b c (acting_by t e) (speaking u w outs) (
    ap (λ (x : Draft). goes_on x (speaking u w outs)) logs
    ∙ ap (λ (l : List TxOut). goes_on (recorded s.rec a) (speaking u w l)) says
    ∙ acts_after a u w s
    ∙ acts_alike a t u e w s none passes refl leaves
    ) p
