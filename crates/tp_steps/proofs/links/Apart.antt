-- Records with a number go out by Carry alone, and so only over their link: an instance of the steps of a turn.
use Rattle.std.proofs.Common.{◌≡◌, true, refl, ◌∙◌, arith, List, [], ◌∷◌, ◌++◌, ◌&&◌}
use Rattle.tp_model.specs.declared.transaction.TxEvent.{TxEvent}
use Rattle.tp_model.specs.declared.transaction.TxOut.{TxOut}
use Rattle.tp_model.specs.declared.recovery.Kept.{Kept}
use Rattle.tp_model.specs.declared.recovery.KeptEvent.{KeptEvent}
use Rattle.tp_model.specs.Parts.{Arc}
use Rattle.tp_model.specs.Transactions.{Transaction, transacted}
use Rattle.tp_model.specs.Recovery.{settled}
use Rattle.tp_model.specs.Node.{grants}
use Rattle.tp_steps.specs.Moves.{are_apart, are_spoken, IsPut}
use Rattle.tp_steps.proofs.words.TurnWords.{AreTurnWords, turn_words}

pub apart_append : (xs ys : List TxOut) → are_apart (xs ++ ys) ≡ (are_apart xs && are_apart ys)
apart_append [] ys = refl
apart_append (x ∷ xs) ys = grind (arith, apart_append xs ys)

pub apart_spoken : (xs : List TxOut) → are_spoken xs ≡ true → are_apart xs ≡ true
apart_spoken [] h = refl
apart_spoken (TxOut.Tell i ∷ xs) h = apart_spoken xs (grind arith)
apart_spoken (TxOut.Carry p r ∷ xs) h = apart_spoken xs (grind arith)
apart_spoken (TxOut.Shut p ∷ xs) h = apart_spoken xs h
apart_spoken (TxOut.Recovery a r ∷ xs) h = grind (arith, apart_spoken xs)
apart_spoken (TxOut.Close p ∷ xs) h = apart_spoken xs h

-- ---- lists that rules write

pub apart_grants : (t : Transaction) (arcs : List Arc) → are_apart (grants t arcs) ≡ true
apart_grants t [] = refl
apart_grants t (a ∷ arcs) = grind (arith, apart_grants t arcs)

pub apart_settled : (k : Kept) (f : KeptEvent) → are_apart (settled k f).outs ≡ true
unfolding settled
apart_settled k (KeptEvent.Done a b r) = grind arith
apart_settled k _ = refl

pub apart_turn : (e : TxEvent) (s : Transaction) → IsPut e s → are_apart (transacted e s).outs ≡ true
apart_turn e s put = turn_words e s (λ outs. are_apart outs ≡ true) words put
  where
    words : AreTurnWords e s (λ outs. are_apart outs ≡ true)
    words = record {
      joined = record { none = refl; more = λ xs ys one two. apart_append xs ys ∙ rw (one, two) refl };
      tells = λ i. refl;
      carries = λ p r is. refl;
      leaves = λ is p r word. refl;
      shuts = λ p. refl;
      closes = λ p. refl;
      asks = λ is z b. refl;
      ready = λ z a b. refl;
      replies = λ z a b r. refl;
      forgets = λ z a b. refl;
    }
