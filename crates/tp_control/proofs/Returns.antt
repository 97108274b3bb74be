-- No event of a transaction carries control: a Grant goes out by a request, or at a completed commitment.
use Rattle.std.proofs.Common.{◌≡◌, ℕ, Bool, true, false, refl, ap, sym, subst, ◌∙◌, arith, List, [], ◌∷◌, ◌++◌, ◌&&◌, ◌||◌, ◌==◌}
use Rattle.std.proofs.lemmas.Bool.Decides.{nat_tests}
use Rattle.tp_records.specs.declared.dialogue.DialogueRecord.{DialogueRecord}
use Rattle.tp_model.specs.declared.transaction.TxEvent.{TxEvent}
use Rattle.tp_model.specs.declared.transaction.TxOut.{TxOut}
use Rattle.tp_model.specs.declared.recovery.Kept.{Kept}
use Rattle.tp_model.specs.declared.recovery.KeptEvent.{KeptEvent}
use Rattle.tp_model.specs.Parts.{Event, Out, Arc}
use Rattle.tp_model.specs.Arcs.{carried, performed_one, performed}
use Rattle.tp_model.specs.Transactions.{Transaction, forgets, row_holds, transacted}
use Rattle.tp_model.specs.Recovery.{settled}
use Rattle.tp_model.specs.Node.{grants}
use Rattle.tp_model.specs.Questions.{said_to}
use Rattle.tp_steps.specs.Moves.{IsPut, gives_to, grants_to, hands_to, are_said, are_spoken, closes_at}
use Rattle.tp_steps.specs.Facts.{none_of}
use Rattle.tp_control.specs.Control.{is_returning}
use Rattle.tp_control.specs.Holding.{returns_in}
use Rattle.tp_steps.proofs.links.Links.{said_append, recovery_silent}
use Rattle.tp_steps.proofs.links.Saying.{no_gift}
use Rattle.tp_steps.proofs.lemmas.Words.{none_append}
use Rattle.tp_steps.proofs.lemmas.Equality.{and_right}
use Rattle.tp_steps.proofs.words.TurnWords.{AreTurnWords, turn_words}
use Rattle.std.proofs.lemmas.Bool.{or_from}

returns_append : (u : ℕ) (xs ys : List TxOut) → returns_in u (xs ++ ys) ≡ (returns_in u xs || returns_in u ys)
returns_append u [] ys = refl
returns_append u (x ∷ xs) ys = grind (arith, returns_append u xs ys)

pub returns_turn : (e : TxEvent) (s : Transaction) (u : ℕ) → IsPut e s → returns_in u (transacted e s).outs ≡ false
returns_turn e s u put = turn_words e s (λ outs. returns_in u outs ≡ false) words put
  where
    words : AreTurnWords e s (λ outs. returns_in u outs ≡ false)
    words = record {
      joined = record { none = refl; more = λ xs ys one two. returns_append u xs ys ∙ or_from (returns_in u xs) (returns_in u ys) one two };
      tells = λ i. refl;
      carries = λ p r is. let no : is_returning r ≡ false = grind (arith, is) in rw no refl;
      leaves = λ is p r word. let no : is_returning r ≡ false = grind (arith, word) in rw no refl;
      shuts = λ p. refl;
      closes = λ p. refl;
      asks = λ is z b. refl;
      ready = λ z a b. refl;
      replies = λ z a b r. refl;
      forgets = λ z a b. refl;
    }

-- ---- what goes out

said_carried : (arcs : List Arc) (q : ℕ) (r : DialogueRecord) (p : ℕ) → (is_returning r && (q == p)) ≡ false → none_of is_returning (said_to p (carried arcs q r).1) ≡ true
said_carried [] q r p h = refl
said_carried (a ∷ arcs) q r p h = grind (arith, nat_tests, h, said_carried arcs q r p)

said_one : (arcs : List Arc) (o : TxOut) (p : ℕ) → returns_in p (o ∷ []) ≡ false → none_of is_returning (said_to p (performed_one arcs o).1) ≡ true
said_one arcs (TxOut.Tell i) p h = refl
said_one arcs (TxOut.Carry q r) p h = said_carried arcs q r p (grind (arith, h))
said_one arcs (TxOut.Shut q) p h = grind arith
said_one arcs (TxOut.Recovery a r) p h = ap (none_of is_returning) (recovery_silent p a r (grind (arith, h)))
said_one arcs (TxOut.Close q) p h = refl

pub returns_then : (p : ℕ) (us vs : List Out) → none_of is_returning (said_to p us) ≡ true → none_of is_returning (said_to p vs) ≡ true → none_of is_returning (said_to p (us ++ vs)) ≡ true
returns_then p us vs one two = ap (none_of is_returning) (said_append p us vs) ∙ none_append is_returning (said_to p us) (said_to p vs) ∙ rw (one, two) refl

pub returns_performed : (arcs : List Arc) (outs : List TxOut) (p : ℕ) → returns_in p outs ≡ false → none_of is_returning (said_to p (performed arcs outs).1) ≡ true
returns_performed arcs [] p h = refl
returns_performed arcs (o ∷ outs) p h =
    let next : List Arc = (performed_one arcs o).0 in
    let split = returns_append p (o ∷ []) outs in
    returns_then p (performed_one arcs o).1 (performed next outs).1 (said_one arcs o p (grind (arith, h, split))) (returns_performed next outs p (grind (arith, h, split)))

-- a Grant at a completed commitment goes to a branch
pub returns_grants : (p : ℕ) (t : Transaction) (arcs : List Arc) → row_holds t.rows p (λ b. true) ≡ false → returns_in p (grants t arcs) ≡ false
returns_grants p t [] h = refl
returns_grants p t (a ∷ arcs) h = go (a.peer.node == p) refl (returns_grants p t arcs h)
  where
    go : (b : Bool) → (a.peer.node == p) ≡ b → returns_in p (grants t arcs) ≡ false → returns_in p (grants t (a ∷ arcs)) ≡ false
    go true i rest =
        let same : a.peer.node ≡ p = grind (arith, nat_tests, i) in
        let none : row_holds t.rows a.peer.node (λ b. true) ≡ false = subst (λ (n : ℕ). row_holds t.rows n (λ b. true) ≡ false) (sym same) h in
        grind (arith, none, rest)
    go false i rest = grind (arith, i, rest)

pub returns_split : (p : ℕ) (s : List TxOut × List TxOut) → returns_in p (s.0 ++ s.1) ≡ false → (returns_in p s.0 || returns_in p s.1) ≡ false
returns_split p s h = sym (returns_append p s.0 s.1) ∙ h

-- what is said outside transactions carries control by a request alone
pub returns_said : (e : Event) (p : ℕ) (outs : List TxOut) → gives_to e p ≡ false → are_said e outs ≡ true → are_spoken outs ≡ true → returns_in p outs ≡ false
returns_said e p [] none h i = refl
returns_said e p (TxOut.Carry q r ∷ outs) none h s = go (q == p) refl (returns_said e p outs none (grind (arith, h)) (grind (arith, s)))
  where
    other : (b : Bool) → (is_returning r && false || b) ≡ b
    other b = grind arith

    go : (b : Bool) → (q == p) ≡ b → returns_in p outs ≡ false → (is_returning r && (q == p) || returns_in p outs) ≡ false
    go false i rest = rw (i, rest) (other false)
    go true i rest =
        let same : q ≡ p = grind (arith, nat_tests, i) in
        let here = no_gift e q (subst (λ (n : ℕ). gives_to e n ≡ false) (sym same) none) in
        let granted : grants_to e q ≡ false = here.0 in
        let handed : hands_to e q ≡ false = here.1 in
        grind (arith, granted, handed, h, rest)
returns_said e p (TxOut.Tell i ∷ outs) none h s = returns_said e p outs none h (grind (arith, s))
returns_said e p (TxOut.Shut q ∷ outs) none h s = absurd (cc (h))
returns_said e p (TxOut.Recovery a r ∷ outs) none h s = let rest = returns_said e p outs none h (grind (arith, s)) in grind (arith, s, rest)
returns_said e p (TxOut.Close q ∷ outs) none h s = returns_said e p outs none (and_right (closes_at e q) (are_said e outs) h) s

pub returns_settled : (p : ℕ) (k : Kept) (f : KeptEvent) → returns_in p (settled k f).outs ≡ false
unfolding settled
returns_settled p k (KeptEvent.Done a b r) = grind arith
returns_settled p k KeptEvent.Forget = refl
returns_settled p k KeptEvent.Purge = refl
