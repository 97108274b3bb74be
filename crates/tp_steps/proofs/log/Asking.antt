-- What a transaction orders in recovery is its own commitment.
use Rattle.std.proofs.Common.{◌≡◌, inl, inr, true, false, refl, sym, ◌∙◌, arith, List, [], ◌∷◌, ◌&&◌}
use Rattle.tp_names.specs.declared.identifiers.Aaid.{Aaid}
use Rattle.tp_names.specs.Same.{is_aaid}
use Rattle.tp_model.specs.declared.transaction.TxEvent.{TxEvent}
use Rattle.tp_model.specs.Parts.{Arc}
use Rattle.tp_model.specs.Dialogues.{is_committing}
use Rattle.tp_model.specs.Transactions.{Transaction, aaid_of, transacted}
use Rattle.tp_model.specs.Node.{grants}
use Rattle.tp_steps.specs.Moves.{orders_in, IsPut}
use Rattle.tp_steps.specs.Orders.{AsksOwn}
use Rattle.tp_steps.proofs.lemmas.Equality.{or_case}
use Rattle.tp_steps.proofs.log.Owned.{orders_append}
use Rattle.tp_model.specs.declared.transaction.TxOut.{TxOut}
use Rattle.tp_steps.proofs.words.TurnWords.{AreTurnWords, turn_words}

-- ---- lists that rules write

pub none_grants : (u : Aaid) (t : Transaction) (arcs : List Arc) → orders_in u (grants t arcs) ≡ false
none_grants u t [] = refl
none_grants u t (a ∷ arcs) = grind (arith, none_grants u t arcs)

pub asks_turn : (e : TxEvent) (s : Transaction) → IsPut e s → AsksOwn s (transacted e s)
asks_turn e s put = turn_words e s IsOwn words put
  where
    IsOwn : List TxOut → Type 0
    IsOwn outs = (u : Aaid) → orders_in u outs ≡ true → (is_committing s.phase && is_aaid u (aaid_of s.key)) ≡ true

    words : AreTurnWords e s IsOwn
    words = record {
      joined = record {
        none = λ u h. absurd (cc (h));
        more = λ xs ys one two u h. elim (or_case (orders_in u xs) (orders_in u ys) (sym (orders_append u xs ys) ∙ h)) [ inl i ↦ one u i | inr i ↦ two u i ];
      };
      tells = λ i u h. absurd (cc (h));
      carries = λ p r is u h. absurd (cc (h));
      leaves = λ is p r word u h. absurd (cc (h));
      shuts = λ p u h. absurd (cc (h));
      closes = λ p u h. absurd (cc (h));
      asks = λ is z b u h. grind (arith, is, h);
      ready = λ z a b u h. absurd (cc (h));
      replies = λ z a b r u h. absurd (cc (h));
      forgets = λ z a b u h. absurd (cc (h));
    }
