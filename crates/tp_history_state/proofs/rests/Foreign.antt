-- What no event of a transaction says on an association but its user's leaving: words of the dialogue, Begin and Left.
use Rattle.tp_history_state.proofs.Vocabulary.{if◌then◌else◌, ◌≡◌, ℕ, Bool, true, false, refl, ◌∙◌, arith, List, [], ◌∷◌, ◌++◌, ◌&&◌, ◌==◌, not, nat_tests, DialogueRecord, TxEvent, TxOut, Kept, KeptEvent, Arc, Digest, performed_one, performed, Transaction, transacted, settled, is_leaving, Passage, Commits, played, committed_arcs, is_granting, grants, said_to, has_said, is_grant_record, IsPut, is_apart_record, said_both, carries_not, carries_none, said_carried, said_none, and_left, and_right, around_grants, parts_none, Turn, IsWhole, ap}
use Rattle.tp_history_state.proofs.lemmas.Rare.{IsRare, silent_turn}

abbrev pub is_foreign : DialogueRecord → Bool
is_foreign DialogueRecord.EndDialogue = true
is_foreign (DialogueRecord.UserData xs) = true
is_foreign DialogueRecord.UError = true
is_foreign DialogueRecord.UAbort = false
is_foreign DialogueRecord.Grant = true
is_foreign DialogueRecord.AskControl = true
is_foreign DialogueRecord.Handshake = true
is_foreign DialogueRecord.HandshakeGrant = true
is_foreign DialogueRecord.Response = true
is_foreign DialogueRecord.DeferEnd = false
is_foreign DialogueRecord.DeferGrant = false
is_foreign (DialogueRecord.Begin t b h) = true
is_foreign DialogueRecord.Prepare = false
is_foreign DialogueRecord.Ready = false
is_foreign DialogueRecord.Commit = false
is_foreign (DialogueRecord.Done r) = false
is_foreign DialogueRecord.Rollback = false
is_foreign (DialogueRecord.RolledBack r) = false
is_foreign DialogueRecord.Left = true
is_foreign DialogueRecord.LeftEnd = true

-- words among the foreign ones
abbrev pub IsForeign : (DialogueRecord → Bool) → Type 0
IsForeign g = (r : DialogueRecord) → is_foreign r ≡ false → g r ≡ false

pub none_narrow : (g : DialogueRecord → Bool) → IsForeign g → (outs : List TxOut) → carries_none is_foreign outs ≡ true → carries_none g outs ≡ true
none_narrow g k [] h = refl
none_narrow g k (o ∷ outs) h =
    let rest : carries_none g outs ≡ true = none_narrow g k outs (and_right (carries_not is_foreign o) (carries_none is_foreign outs) h) in
    rw (one o (and_left (carries_not is_foreign o) (carries_none is_foreign outs) h), rest) refl
  where
    off : (v : Bool) → not v ≡ true → v ≡ false
    off v i = grind (arith, i)

    one : (o : TxOut) → carries_not is_foreign o ≡ true → carries_not g o ≡ true
    one (TxOut.Carry q r) j = let no : g r ≡ false = k r (off (is_foreign r) j) in rw no refl
    one (TxOut.Recovery a r) j = j
    one _ j = refl

-- ---- a turn

rare_foreign : IsRare is_foreign
rare_foreign = record { prepare = refl; ready = refl; commit = refl; done = λ r. refl; rollback = refl; rolled = λ r. refl; abort = refl }

pub foreign_turn : (e : TxEvent) (s : Transaction) → is_leaving e ≡ false → IsPut e s → carries_none is_foreign (transacted e s).outs ≡ true
foreign_turn e s off put = silent_turn is_foreign rare_foreign e s off (λ q is. refl) (λ q is. refl) put

pub foreign_settled : (k : Kept) (f : KeptEvent) → carries_none is_foreign (settled k f).outs ≡ true
unfolding settled
foreign_settled k (KeptEvent.Done a b r) = grind arith
foreign_settled k _ = refl

-- ---- at the arcs

plain_grants : (g : DialogueRecord → Bool) → g DialogueRecord.Grant ≡ false → (t : Transaction) (arcs : List Arc) → carries_none g (grants t arcs) ≡ true
plain_grants g off t [] = refl
plain_grants g off t (a ∷ arcs) = grind (arith, off, plain_grants g off t arcs)

-- a word that goes to that peer
abbrev pub carries_not_to : (DialogueRecord → Bool) → ℕ → TxOut → Bool
carries_not_to g p (TxOut.Tell i) = true
carries_not_to g p (TxOut.Carry q r) = not ((q == p) && g r)
carries_not_to g p (TxOut.Shut q) = true
carries_not_to g p (TxOut.Recovery a r) = is_apart_record r
carries_not_to g p (TxOut.Close q) = true

abbrev pub carries_none_to : (DialogueRecord → Bool) → ℕ → List TxOut → Bool
carries_none_to g p [] = true
carries_none_to g p (o ∷ outs) = carries_not_to g p o && carries_none_to g p outs

said_one_to : (g : DialogueRecord → Bool) (p : ℕ) (arcs : List Arc) (o : TxOut) → carries_not_to g p o ≡ true → has_said g (said_to p (performed_one arcs o).1) ≡ false
said_one_to g p arcs o h1 = grind (arith, said_carried)

pub said_none_to : (g : DialogueRecord → Bool) (p : ℕ) (arcs : List Arc) (outs : List TxOut) → carries_none_to g p outs ≡ true → has_said g (said_to p (performed arcs outs).1) ≡ false
said_none_to g p arcs [] h = refl
said_none_to g p arcs (o ∷ outs) h =
    let next : List Arc = (performed_one arcs o).0 in
    said_both g p (performed_one arcs o).1 (performed next outs).1
    ∙ rw (said_one_to g p arcs o (and_left (carries_not_to g p o) (carries_none_to g p outs) h), said_none_to g p next outs (and_right (carries_not_to g p o) (carries_none_to g p outs) h)) refl

grants_elsewhere : (p : ℕ) (t : Transaction) (arcs : List Arc) → ((a : Arc) → a.peer.node ≡ p → is_granting t a ≡ false) → carries_none_to is_grant_record p (grants t arcs) ≡ true
grants_elsewhere p t [] none = refl
grants_elsewhere p t (a ∷ arcs) none = go (is_granting t a) refl (a.peer.node == p) refl (grants_elsewhere p t arcs none)
  where
    go : (b : Bool) → is_granting t a ≡ b → (v : Bool) → (a.peer.node == p) ≡ v → carries_none_to is_grant_record p (grants t arcs) ≡ true
        → carries_none_to is_grant_record p (if b then TxOut.Carry a.peer.node DialogueRecord.Grant ∷ grants t arcs else grants t arcs) ≡ true
    go true i true j rest = let at : a.peer.node ≡ p = grind (arith, nat_tests, j) in absurd (cc (none a at, i))
    go true i false j rest = rw j rest
    go false i v j rest = rest

-- what is played says none of the words that its outputs do not carry
pub said_played : (g : DialogueRecord → Bool) → g DialogueRecord.Grant ≡ false → (d : Digest) (t : Transaction) (w : Passage) (asks : Turn) → IsWhole asks → (arcs : List Arc) (p : ℕ) → carries_none g asks.outs ≡ true → has_said g (said_to p (played d t w asks arcs).1) ≡ false
unfolding played
said_played g off d t Commits asks whole arcs p h =
    let s = around_grants asks in
    let k = parts_none g s (ap (carries_none g) whole ∙ h) in
    let one = performed arcs s.0 in
    let mid : List Arc = committed_arcs d t one.0 in
    let two = performed mid (grants t one.0) in
    let three = performed two.0 s.1 in
    said_both g p (one.1 ++ two.1) three.1
    ∙ rw (said_both g p one.1 two.1, said_none g p arcs s.0 (and_left (carries_none g s.0) (carries_none g s.1) k), said_none g p mid (grants t one.0) (plain_grants g off t one.0), said_none g p two.0 s.1 (and_right (carries_none g s.0) (carries_none g s.1) k)) refl
said_played g off d t _ asks whole arcs p h = said_none g p arcs asks.outs h

-- nor a Grant, but at a completed commitment, on an arc of it
pub granted_played : (d : Digest) (t : Transaction) (w : Passage) (asks : Turn) → IsWhole asks → (arcs : List Arc) (p : ℕ) → ((a : Arc) → a.peer.node ≡ p → is_granting t a ≡ false) → carries_none is_grant_record asks.outs ≡ true → has_said is_grant_record (said_to p (played d t w asks arcs).1) ≡ false
unfolding played
granted_played d t Commits asks whole arcs p none h =
    let s = around_grants asks in
    let k = parts_none is_grant_record s (ap (carries_none is_grant_record) whole ∙ h) in
    let one = performed arcs s.0 in
    let mid : List Arc = committed_arcs d t one.0 in
    let two = performed mid (grants t one.0) in
    let three = performed two.0 s.1 in
    said_both is_grant_record p (one.1 ++ two.1) three.1
    ∙ rw (said_both is_grant_record p one.1 two.1, said_none is_grant_record p arcs s.0 (and_left (carries_none is_grant_record s.0) (carries_none is_grant_record s.1) k), said_none_to is_grant_record p mid (grants t one.0) (grants_elsewhere p t one.0 none), said_none is_grant_record p two.0 s.1 (and_right (carries_none is_grant_record s.0) (carries_none is_grant_record s.1) k)) refl
granted_played d t _ asks whole arcs p none h = said_none is_grant_record p arcs asks.outs h

-- outside its commitment no Grant is said at all
pub ungranted_played : (d : Digest) (t : Transaction) (w : Passage) (asks : Turn) (arcs : List Arc) (p : ℕ) → (w ≡ Commits → ⊥) → carries_none is_grant_record asks.outs ≡ true → has_said is_grant_record (said_to p (played d t w asks arcs).1) ≡ false
unfolding played
ungranted_played d t Commits asks arcs p other h = absurd (other refl)
ungranted_played d t _ asks arcs p other h = said_none is_grant_record p arcs asks.outs h
