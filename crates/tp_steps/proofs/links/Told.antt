-- What the outputs of a rule tell the user is told, whatever becomes of them at the arcs.
use Rattle.std.proofs.Common.{◌≡◌, ℕ, Bool, true, false, refl, ap, sym, ◌∙◌, arith, List, [], ◌∷◌, ◌++◌, ◌||◌, not}
use Rattle.tp_records.specs.declared.indication.Indication.{Indication}
use Rattle.tp_records.specs.declared.dialogue.DialogueRecord.{DialogueRecord}
use Rattle.tp_model.specs.declared.transaction.TxOut.{TxOut}
use Rattle.tp_model.specs.Parts.{Out, Arc, Digest}
use Rattle.tp_model.specs.Arcs.{carried, performed_one, performed}
use Rattle.tp_model.specs.Transactions.{Transaction, Turn}
use Rattle.tp_model.specs.Node.{Passage, Commits, played, perform_commit, committed_arcs, grants, around_grants}
use Rattle.tp_steps.specs.Turns.{is_outcome_told}
use Rattle.tp_steps.specs.Moves.{is_spoken, are_spoken}
use Rattle.tp_steps.specs.Passages.{asks_tell}
use Rattle.tp_steps.specs.Trees.{out_tells}
use Rattle.tp_steps.proofs.lemmas.Equality.{and_left, and_right}
use Rattle.tp_steps.proofs.lemmas.Phases.{tell_append}
use Rattle.tp_steps.proofs.links.Whole.{IsWhole}

pub told_append : (f : Indication → Bool) (xs ys : List Out) → out_tells f (xs ++ ys) ≡ (out_tells f xs || out_tells f ys)
told_append f [] ys = refl
told_append f (x ∷ xs) ys = grind (arith, told_append f xs ys)

told_carried : (f : Indication → Bool) (arcs : List Arc) (q : ℕ) (r : DialogueRecord) → out_tells f (carried arcs q r).1 ≡ false
told_carried f [] q r = refl
told_carried f (a ∷ arcs) q r = grind (arith, told_carried f arcs q r)

told_one : (f : Indication → Bool) (arcs : List Arc) (o : TxOut) → out_tells f (performed_one arcs o).1 ≡ asks_tell f (o ∷ [])
told_one f arcs (TxOut.Carry q r) = told_carried f arcs q r
told_one f arcs (TxOut.Shut q) = grind arith
told_one f arcs _ = refl

pub told_performed : (f : Indication → Bool) (arcs : List Arc) (outs : List TxOut) → out_tells f (performed arcs outs).1 ≡ asks_tell f outs
told_performed f arcs [] = refl
told_performed f arcs (o ∷ outs) =
    let next : List Arc = (performed_one arcs o).0 in
    told_append f (performed_one arcs o).1 (performed next outs).1 ∙ rw (told_one f arcs o, told_performed f next outs) (sym (tell_append f (o ∷ []) outs))

told_grants : (f : Indication → Bool) (t : Transaction) (arcs : List Arc) → asks_tell f (grants t arcs) ≡ false
told_grants f t [] = refl
told_grants f t (a ∷ arcs) = grind (arith, told_grants f t arcs)

told_commit : (f : Indication → Bool) (d : Digest) (t : Transaction) (s : List TxOut × List TxOut) (arcs : List Arc) → out_tells f (perform_commit d t s arcs).1 ≡ asks_tell f (s.0 ++ s.1)
told_commit f d t s arcs =
    let one = performed arcs s.0 in
    let two = performed (committed_arcs d t one.0) (grants t one.0) in
    let three = performed two.0 s.1 in
    let joined : asks_tell f (s.0 ++ s.1) ≡ (asks_tell f s.0 || asks_tell f s.1) = tell_append f s.0 s.1 in
    let none : out_tells f two.1 ≡ false = told_performed f (committed_arcs d t one.0) (grants t one.0) ∙ told_grants f t one.0 in
    told_append f (one.1 ++ two.1) three.1 ∙ rw (told_append f one.1 two.1, none, told_performed f arcs s.0, told_performed f two.0 s.1, joined) (grind arith)

pub told_played : (f : Indication → Bool) (d : Digest) (t : Transaction) (w : Passage) (a : Turn) → IsWhole a → (arcs : List Arc) → out_tells f (played d t w a arcs).1 ≡ asks_tell f a.outs
unfolding played
told_played f d t Commits a whole arcs = told_commit f d t (around_grants a) arcs ∙ ap (asks_tell f) whole
told_played f d t _ a whole arcs = told_performed f arcs a.outs

-- outside transactions no outcome is told
pub spoken_untold : (f : Indication → Bool) → ((i : Indication) → is_outcome_told i ≡ false → f i ≡ false) → (outs : List TxOut) → are_spoken outs ≡ true → asks_tell f outs ≡ false
spoken_untold f k [] h = refl
spoken_untold f k (TxOut.Tell i ∷ outs) h = let rest = spoken_untold f k outs (and_right (is_spoken (TxOut.Tell i)) (are_spoken outs) h) in let one : f i ≡ false = k i (off (is_outcome_told i) (and_left (is_spoken (TxOut.Tell i)) (are_spoken outs) h)) in rw (one, rest) refl
  where
    off : (v : Bool) → not v ≡ true → v ≡ false
    off v i = grind (arith, i)
spoken_untold f k (TxOut.Carry p r ∷ outs) h = spoken_untold f k outs (and_right (is_spoken (TxOut.Carry p r)) (are_spoken outs) h)
spoken_untold f k (TxOut.Shut p ∷ outs) h = spoken_untold f k outs h
spoken_untold f k (TxOut.Recovery a r ∷ outs) h = spoken_untold f k outs (and_right (is_spoken (TxOut.Recovery a r)) (are_spoken outs) h)
spoken_untold f k (TxOut.Close p ∷ outs) h = spoken_untold f k outs h
