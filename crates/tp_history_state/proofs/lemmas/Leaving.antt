-- The turn of a user who leaves: which event it is, when it may be, and what it says.
use Rattle.tp_history_state.proofs.Vocabulary.{if◌then◌else◌, ◌≡◌, ℕ, Bool, true, false, refl, ap, ◌∙◌, arith, None, List, [], ◌∷◌, ◌++◌, ◌==◌, Request, DialogueRecord, TxEvent, TxOut, Arc, is_live, is_nil, is_active, is_live_with_peer, without_arc, Transaction, refused_tx, is_leaving, link_without}

pub gone : (p : ℕ) (arcs : List Arc) (q : ℕ) → (q == p) ≡ true → is_live_with_peer (without_arc arcs q) p ≡ false
gone p arcs q i = ap is_live (link_without arcs q p) ∙ rw i refl

abbrev pub says_of : Bool → Bool → ℕ → List TxOut
says_of ending up n =
    if ending then (if up then TxOut.Carry n DialogueRecord.LeftEnd ∷ [] else []) ++ (if ending then TxOut.Close n ∷ [] else [])
    else (if up then TxOut.Carry n DialogueRecord.Left ∷ [] else [])

pub active_put : (t : Transaction) → refused_tx (TxEvent.User Request.Unchanged) t ≡ None → is_nil t.phase ≡ false → is_active t.phase ≡ true
unfolding refused_tx
active_put t ok late = grind arith

pub leaving_is : (f : TxEvent) → is_leaving f ≡ true → f ≡ TxEvent.User Request.Unchanged
leaving_is (TxEvent.User Request.Unchanged) h = refl
leaving_is f h = absurd (grind (arith, h))
