-- What the rules make of control at the end that faces the superior.
use Rattle.std.proofs.Common.{◌≡◌, ◌⊎◌, inl, inr, ℕ, Bool, true, false, refl, ap, sym, subst, ◌∙◌, arith, Option, Some, None, List, [], ◌∷◌, ◌||◌, ◌==◌}
use Rattle.std.proofs.lemmas.Bool.Decides.{nat_tests}
use Rattle.tp_names.specs.declared.outcome.Outcome.{Outcome}
use Rattle.tp_records.specs.declared.dialogue.DialogueRecord.{DialogueRecord}
use Rattle.tp_records.specs.declared.dialogue.Holder.{Holder}
use Rattle.tp_records.specs.declared.peer.PeerRecord.{PeerRecord}
use Rattle.tp_model.specs.declared.arc.Phase.{Phase}
use Rattle.tp_model.specs.declared.arc.Side.{Side}
use Rattle.tp_model.specs.declared.transaction.TxOut.{TxOut}
use Rattle.tp_model.specs.Parts.{Event, Dialogue, Arc, Branch, Digest}
use Rattle.tp_model.specs.Dialogues.{is_nil, is_active, Asked, Ask_grant, Heard, said, heard, cleared, begun_by, completed, rested, woken}
use Rattle.tp_model.specs.Arcs.{find_arc, without_arc, with_dialogue, with_dialogues, carried_on, carried, shut_with, performed_one, performed}
use Rattle.tp_model.specs.Transactions.{Transaction, is_under_at, row_holds, Turn}
use Rattle.tp_model.specs.Node.{is_superior, side_at, seen_rows, Passage, Enters, Falls, Falls_at_once, Commits, Rolls_back, Leaves, passage, is_arc_of, is_arc_below, without_deferral, entered, played, completed_arcs, left_arcs, committed_dialogue, committed_arcs, grants, perform_commit, around_grants}
use Rattle.tp_steps.specs.Moves.{IsChange, By_waking, By_saying, By_hearing, By_beginning, By_leaving, heard_by, begun_by_record}
use Rattle.tp_steps.specs.Facts.{find_branch}
use Rattle.tp_control.specs.Holding.{is_holding, holding_at, gains_at}

-- ---- arcs

-- where the second holds control, the first does, or g
abbrev pub Gains : Bool → ℕ → List Arc → List Arc → Type 0
Gains g p xs ys = holding_at p ys ≡ true → (holding_at p xs || g) ≡ true

pub gains_self : (g : Bool) (p : ℕ) (xs : List Arc) → Gains g p xs xs
gains_self g p xs h = rw h refl

pub gains_then : (g : Bool) (p : ℕ) (xs ys zs : List Arc) → Gains g p xs ys → Gains g p ys zs → Gains g p xs zs
gains_then true p xs ys zs one two h = all (holding_at p xs)
  where
    all : (b : Bool) → (b || true) ≡ true
    all b = grind arith
gains_then false p xs ys zs one two h = one (left (holding_at p ys) (two h))
  where
    left : (b : Bool) → (b || false) ≡ true → b ≡ true
    left true i = refl
    left false i = absurd (cc (i))

-- an end that holds none gains none
pub none_gained : (p : ℕ) (xs ys : List Arc) → Gains false p xs ys → holding_at p xs ≡ false → holding_at p ys ≡ false
none_gained p xs ys h none = go (holding_at p ys) refl
  where
    go : (b : Bool) → holding_at p ys ≡ b → b ≡ false
    go false i = refl
    go true i = let k : (holding_at p xs || false) ≡ true = h i in absurd (cc (rw none at k))

pub gains_dialogue : (g : Bool) (arcs : List Arc) (q : ℕ) (f : Dialogue → Dialogue) (p : ℕ) → ((q == p) ≡ true → (d : Dialogue) → is_holding (f d) ≡ true → (is_holding d || g) ≡ true) → Gains g p arcs (with_dialogue arcs q f)
gains_dialogue g [] q f p less h = absurd cc
gains_dialogue g (a ∷ arcs) q f p less h = go (a.peer.node == q) refl (a.peer.node == p) refl (gains_dialogue g arcs q f p less)
  where
    go : (b : Bool) → (a.peer.node == q) ≡ b → (c : Bool) → (a.peer.node == p) ≡ c → Gains g p arcs (with_dialogue arcs q f) → (holding_at p (a ∷ arcs) || g) ≡ true
    go true i true j rest =
        let same : (q == p) ≡ true = grind (arith, nat_tests, i, j) in
        let now : is_holding (f a.dialogue) ≡ true = grind (arith, h, i, j) in
        let was = less same a.dialogue now in
        grind (arith, j, was)
    go true i false j rest = let now : holding_at p arcs ≡ true = grind (arith, h, i, j) in grind (arith, j, now)
    go false i true j rest = let now : is_holding a.dialogue ≡ true = grind (arith, h, i, j) in grind (arith, j, now)
    go false i false j rest =
        let now : holding_at p (with_dialogue arcs q f) ≡ true = grind (arith, h, i, j) in
        let was = rest now in
        grind (arith, j, was)

pub gains_dialogues : (arcs : List Arc) (t : Arc → Bool) (f : Arc → Dialogue) (p : ℕ) → ((a : Arc) → a.peer.node ≡ p → t a ≡ true → is_holding (f a) ≡ true → is_holding a.dialogue ≡ true) → Gains false p arcs (with_dialogues arcs t f)
gains_dialogues [] t f p less h = absurd cc
gains_dialogues (a ∷ arcs) t f p less h = go (t a) refl (a.peer.node == p) refl (gains_dialogues arcs t f p less)
  where
    go : (b : Bool) → t a ≡ b → (c : Bool) → (a.peer.node == p) ≡ c → Gains false p arcs (with_dialogues arcs t f) → (holding_at p (a ∷ arcs) || false) ≡ true
    go true i true j rest =
        let same : a.peer.node ≡ p = grind (arith, nat_tests, j) in
        let now : is_holding (f a) ≡ true = grind (arith, h, i, j) in
        let was = less a same i now in
        grind (arith, j, was)
    go true i false j rest =
        let now : holding_at p (with_dialogues arcs t f) ≡ true = grind (arith, h, i, j) in
        let was = rest now in
        grind (arith, j, was)
    go false i true j rest = let now : is_holding a.dialogue ≡ true = grind (arith, h, i, j) in grind (arith, j, now)
    go false i false j rest =
        let now : holding_at p (with_dialogues arcs t f) ≡ true = grind (arith, h, i, j) in
        let was = rest now in
        grind (arith, j, was)

-- what is cleared at the peer
clears_dialogues : (arcs : List Arc) (t : Arc → Bool) (f : Arc → Dialogue) (p : ℕ) → ((a : Arc) → a.peer.node ≡ p → t a ≡ true) → ((a : Arc) → is_holding (f a) ≡ false) → holding_at p (with_dialogues arcs t f) ≡ false
clears_dialogues [] t f p all none = refl
clears_dialogues (a ∷ arcs) t f p all none = go (a.peer.node == p) refl (clears_dialogues arcs t f p all none)
  where
    go : (c : Bool) → (a.peer.node == p) ≡ c → holding_at p (with_dialogues arcs t f) ≡ false → holding_at p (with_dialogues (a ∷ arcs) t f) ≡ false
    go true j rest =
        let same : a.peer.node ≡ p = grind (arith, nat_tests, j) in
        let chosen : t a ≡ true = all a same in
        let is : is_holding (f a) ≡ false = none a in
        grind (arith, j, chosen, is)
    go false j rest = grind (arith, j, rest)

pub gains_without : (g : Bool) (arcs : List Arc) (q p : ℕ) → Gains g p arcs (without_arc arcs q)
gains_without g [] q p h = absurd cc
gains_without g (a ∷ arcs) q p h = go (a.peer.node == q) refl (a.peer.node == p) refl (gains_without g arcs q p)
  where
    none : (xs : List Arc) → (q == p) ≡ true → holding_at p (without_arc xs q) ≡ false
    none [] i = refl
    none (b ∷ xs) i = grind (arith, nat_tests, i, none xs i)

    go : (b : Bool) → (a.peer.node == q) ≡ b → (c : Bool) → (a.peer.node == p) ≡ c → Gains g p arcs (without_arc arcs q) → (holding_at p (a ∷ arcs) || g) ≡ true
    go true i true j rest =
        let same : (q == p) ≡ true = grind (arith, nat_tests, i, j) in
        let no : holding_at p (without_arc arcs q) ≡ false = none arcs same in
        absurd (grind (arith, h, i, no))
    go true i false j rest =
        let now : holding_at p (without_arc arcs q) ≡ true = grind (arith, h, i) in
        let was = rest now in
        grind (arith, j, was)
    go false i true j rest = let now : is_holding a.dialogue ≡ true = grind (arith, h, i, j) in grind (arith, j, now)
    go false i false j rest =
        let now : holding_at p (without_arc arcs q) ≡ true = grind (arith, h, i, j) in
        let was = rest now in
        grind (arith, j, was)

same_carried : (a : Arc) (r : DialogueRecord) → ((carried_on a r).0.dialogue ≡ a.dialogue) × ((carried_on a r).0.peer ≡ a.peer)
same_carried a r = (grind arith, grind arith)

pub holding_carried : (arcs : List Arc) (q : ℕ) (r : DialogueRecord) (p : ℕ) → holding_at p (carried arcs q r).0 ≡ holding_at p arcs
holding_carried [] q r p = refl
holding_carried (a ∷ arcs) q r p = grind (arith, same_carried a r, holding_carried arcs q r p)

gains_one : (g : Bool) (arcs : List Arc) (o : TxOut) (p : ℕ) → Gains g p arcs (performed_one arcs o).0
gains_one g arcs (TxOut.Tell i) p h = gains_self g p arcs h
gains_one g arcs (TxOut.Carry q r) p h = gains_self g p arcs (sym (holding_carried arcs q r p) ∙ h)
gains_one g arcs (TxOut.Shut q) p h = go (find_arc arcs q) refl h
  where
    go : (o : Option Arc) → find_arc arcs q ≡ o → holding_at p (shut_with arcs q).0 ≡ true → (holding_at p arcs || g) ≡ true
    go None i k = gains_self g p arcs (rw (i, shut_with) at k)
    go (Some a) i k = gains_without g arcs q p (rw (i, shut_with) at k)
gains_one g arcs (TxOut.Recovery a r) p h = gains_self g p arcs h
gains_one g arcs (TxOut.Close q) p h = gains_without g arcs q p h

pub gains_performed : (g : Bool) (arcs : List Arc) (outs : List TxOut) (p : ℕ) → Gains g p arcs (performed arcs outs).0
gains_performed g arcs [] p = gains_self g p arcs
gains_performed g arcs (o ∷ outs) p =
    let next : List Arc = (performed_one arcs o).0 in
    gains_then g p arcs next (performed next outs).0 (gains_one g arcs o p) (gains_performed g next outs p)

-- ---- changes of a dialogue

heard_gains : (e : Event) (q : ℕ) (h : Heard) → heard_by e ≡ Some (q, h) → (d : Dialogue) → is_holding (heard h d) ≡ true → (is_holding d || gains_at e q) ≡ true
unfolding heard
heard_gains (Event.Arrive from (PeerRecord.OnAssoc x y n (DialogueRecord.UserData xs))) q h is d now = grind (arith, is, now)
heard_gains (Event.Arrive from (PeerRecord.OnAssoc x y n DialogueRecord.UError)) q h is d now = grind (arith, is, now)
heard_gains (Event.Arrive from (PeerRecord.OnAssoc x y n DialogueRecord.Grant)) q h is d now = grind (arith, nat_tests, is, now)
heard_gains (Event.Arrive from (PeerRecord.OnAssoc x y n DialogueRecord.AskControl)) q h is d now = grind (arith, is, now)
heard_gains (Event.Arrive from (PeerRecord.OnAssoc x y n DialogueRecord.Handshake)) q h is d now = grind (arith, is, now)
heard_gains (Event.Arrive from (PeerRecord.OnAssoc x y n DialogueRecord.HandshakeGrant)) q h is d now = grind (arith, nat_tests, is, now)
heard_gains (Event.Arrive from (PeerRecord.OnAssoc x y n DialogueRecord.Response)) q h is d now = grind (arith, is, now)
heard_gains (Event.Arrive from (PeerRecord.OnAssoc x y n DialogueRecord.DeferEnd)) q h is d now = grind (arith, is, now)
heard_gains (Event.Arrive from (PeerRecord.OnAssoc x y n DialogueRecord.DeferGrant)) q h is d now = grind (arith, is, now)
heard_gains e q h is d now = absurd (cc (is))

begun_gains : (e : Event) (q : ℕ) (h : Holder) → begun_by_record e ≡ Some (q, h) → (d : Dialogue) → is_holding (begun_by h Side.Subordinate d) ≡ true → (is_holding d || gains_at e q) ≡ true
unfolding begun_by
begun_gains (Event.Arrive from (PeerRecord.OnAssoc x y n (DialogueRecord.Begin t b k))) q h is d now = grind (arith, nat_tests, is, now)
begun_gains e q h is d now = absurd (cc (is))

said_gains : (a : Asked) (d : Dialogue) (g : Bool) → is_holding (said a d) ≡ true → (is_holding d || g) ≡ true
unfolding said
said_gains a d g now = grind (arith, now)

pub woken_gains : (d : Dialogue) (g : Bool) → is_holding (woken d) ≡ true → (is_holding d || g) ≡ true
unfolding woken
woken_gains d g now = grind (arith, now)

pub cleared_none : (d : Dialogue) → is_holding (cleared d) ≡ false
unfolding cleared
cleared_none d = refl

pub change_gains : (e : Event) (u : Digest) (q : ℕ) (f : Dialogue → Dialogue) → IsChange e u q f → (d : Dialogue) → is_holding (f d) ≡ true → (is_holding d || gains_at e q) ≡ true
change_gains e u q f (By_waking w i) d h = woken_gains d (gains_at e q) (ap (λ (k : Dialogue → Dialogue). is_holding (k d)) (sym i) ∙ h)
change_gains e u q f (By_saying a by i off) d h = said_gains a d (gains_at e q) (ap (λ (k : Dialogue → Dialogue). is_holding (k d)) (sym i) ∙ h)
change_gains e u q f (By_hearing k by i off) d h = heard_gains e q k by d (ap (λ (k : Dialogue → Dialogue). is_holding (k d)) (sym i) ∙ h)
change_gains e u q f (By_beginning k by i) d h = begun_gains e q k by d (ap (λ (k : Dialogue → Dialogue). is_holding (k d)) (sym i) ∙ h)
change_gains e u q f (By_leaving by i) d h = absurd (cc (ap (λ (k : Dialogue → Dialogue). is_holding (k d)) (sym i) ∙ h, cleared_none d))

-- ---- passages of a transaction

cleared_gains : (d : Dialogue) → is_holding (cleared d) ≡ true → is_holding d ≡ true
cleared_gains d h = absurd (cc (h, cleared_none d))

forgot_none : (d : Dialogue) → is_holding (without_deferral (cleared d)) ≡ false
unfolding cleared
forgot_none d = refl

pub entered_gains : (t : Transaction) (w : Passage) (arcs : List Arc) (p : ℕ) → Gains false p arcs (entered t w arcs)
unfolding entered
entered_gains t Enters arcs p = gains_dialogues arcs _ _ p (λ a same is h. cleared_gains a.dialogue h)
entered_gains t Falls arcs p = gains_dialogues arcs _ _ p (λ a same is h. absurd (cc (h, forgot_none a.dialogue)))
entered_gains t Falls_at_once arcs p = gains_dialogues arcs _ _ p (λ a same is h. absurd (cc (h, forgot_none a.dialogue)))
entered_gains t _ arcs p = gains_self false p arcs

completed_gains : (o : Outcome) (d : Dialogue) → is_holding (completed o Side.Subordinate d) ≡ true → is_holding d ≡ true
unfolding completed
completed_gains o d h = grind (arith, h)

granted_gains : (d : Dialogue) → is_holding (said Ask_grant d) ≡ true → is_holding d ≡ true
unfolding said
granted_gains d h = grind (arith, h)

rested_none : (d : Dialogue) → is_holding (rested d) ≡ false
unfolding rested cleared
rested_none d = refl

-- the end that faces the superior of a transaction: no branch of it
pub record Faces (d : Digest) (t : Transaction) (p : ℕ) : Type 0 where
  pub side : is_superior d p ≡ true
  pub bare : row_holds t.rows p (λ b. true) ≡ false

side_there : (d : Digest) (t : Transaction) (p : ℕ) (a : Arc) → Faces d t p → a.peer.node ≡ p → side_at d a.peer.node ≡ Side.Subordinate
side_there d t p a f same = ap (side_at d) same ∙ rw (f.side, side_at) refl

completed_over : (d : Digest) (t : Transaction) (o : Outcome) (arcs : List Arc) (p : ℕ) → Faces d t p → Gains false p arcs (completed_arcs d t o arcs)
completed_over d t o arcs p f =
    gains_dialogues arcs _ _ p
    (λ a same is h. completed_gains o a.dialogue (subst (λ (s : Side). is_holding (completed o s a.dialogue) ≡ true) (side_there d t p a f same) h))

committed_over : (d : Digest) (t : Transaction) (arcs : List Arc) (p : ℕ) → Faces d t p → Gains false p arcs (committed_arcs d t arcs)
committed_over d t arcs p f = gains_dialogues arcs _ _ p over
  where
    over : (a : Arc) → a.peer.node ≡ p → is_arc_of t a ≡ true → is_holding (committed_dialogue d t a) ≡ true → is_holding a.dialogue ≡ true
    over a same is h = completed_gains Outcome.Commit a.dialogue (subst (λ (s : Side). is_holding (completed Outcome.Commit s a.dialogue) ≡ true) (side_there d t p a f same) (plain h))
      where
        plain : is_holding (committed_dialogue d t a) ≡ true → is_holding (completed Outcome.Commit (side_at d a.peer.node) a.dialogue) ≡ true
        plain h = grind (arith, h, granted_gains (completed Outcome.Commit (side_at d a.peer.node) a.dialogue))

left_over : (t : Transaction) (arcs : List Arc) (p : ℕ) → row_holds t.rows p (λ b. true) ≡ false → Gains false p arcs (left_arcs t arcs)
left_over t arcs p bare =
    let mid : List Arc = with_dialogues arcs (is_arc_below t) (λ a. completed Outcome.Rollback Side.Superior a.dialogue) in
    gains_then false p arcs mid (left_arcs t arcs)
    (gains_dialogues arcs _ _ p (λ a same is h. absurd (no_branch a same is)))
    (gains_dialogues mid _ _ p (λ a same is h. absurd (cc (h, rested_none a.dialogue))))
  where
    no_branch : (a : Arc) → a.peer.node ≡ p → is_arc_below t a ≡ true → ⊥
    no_branch a same is =
        let none : row_holds t.rows a.peer.node (λ b. true) ≡ false = subst (λ (n : ℕ). row_holds t.rows n (λ b. true) ≡ false) (sym same) bare in
        grind (arith, is, none)

left_none : (t : Transaction) (arcs : List Arc) (p : ℕ) → is_under_at t.key p ≡ true → holding_at p (left_arcs t arcs) ≡ false
left_none t arcs p under = clears_dialogues _ _ _ p (λ a same. subst (λ (n : ℕ). is_under_at t.key n ≡ true) (sym same) under) (λ a. rested_none a.dialogue)

commit_gains : (d : Digest) (t : Transaction) (s : List TxOut × List TxOut) (arcs : List Arc) (p : ℕ) → Faces d t p → Gains false p arcs (perform_commit d t s arcs).0
commit_gains d t s arcs p f =
    let one : List Arc = (performed arcs s.0).0 in
    let mid : List Arc = committed_arcs d t one in
    let two : List Arc = (performed mid (grants t one)).0 in
    gains_then false p arcs one (performed two s.1).0 (gains_performed false arcs s.0 p)
    (gains_then false p one mid (performed two s.1).0 (committed_over d t one p f)
    (gains_then false p mid two (performed two s.1).0 (gains_performed false mid (grants t one) p) (gains_performed false two s.1 p)))

pub played_gains : (d : Digest) (t : Transaction) (w : Passage) (asks : Turn) (arcs : List Arc) (p : ℕ) → Faces d t p → Gains false p arcs (played d t w asks arcs).0
unfolding played
played_gains d t Falls_at_once asks arcs p f = let s = performed arcs asks.outs in gains_then false p arcs s.0 (completed_arcs d t Outcome.Rollback s.0) (gains_performed false arcs asks.outs p) (completed_over d t Outcome.Rollback s.0 p f)
played_gains d t Commits asks arcs p f = commit_gains d t (around_grants asks) arcs p f
played_gains d t Rolls_back asks arcs p f = let s = performed arcs asks.outs in gains_then false p arcs s.0 (completed_arcs d t Outcome.Rollback s.0) (gains_performed false arcs asks.outs p) (completed_over d t Outcome.Rollback s.0 p f)
played_gains d t Leaves asks arcs p f = let s = performed arcs asks.outs in gains_then false p arcs s.0 (left_arcs t s.0) (gains_performed false arcs asks.outs p) (left_over t s.0 p f.bare)
played_gains d t _ asks arcs p f = gains_performed false arcs asks.outs p

-- a passage that enters or falls clears the superior's arc; so does leaving
pub entered_none : (t : Transaction) (w : Passage) (arcs : List Arc) (p : ℕ) → is_under_at t.key p ≡ true → (w ≡ Enters) ⊎ (w ≡ Falls) ⊎ (w ≡ Falls_at_once) → holding_at p (entered t w arcs) ≡ false
unfolding entered
entered_none t w arcs p under (inl i) = rw i (clears_dialogues arcs _ _ p (λ a same. here a same) (λ a. cleared_none a.dialogue))
  where
    here : (a : Arc) → a.peer.node ≡ p → is_arc_of t a ≡ true
    here a same = let at : is_under_at t.key a.peer.node ≡ true = subst (λ (n : ℕ). is_under_at t.key n ≡ true) (sym same) under in rw at refl
entered_none t w arcs p under (inr (inl i)) = rw i (clears_dialogues arcs _ _ p (λ a same. here a same) (λ a. forgot_none a.dialogue))
  where
    here : (a : Arc) → a.peer.node ≡ p → is_arc_of t a ≡ true
    here a same = let at : is_under_at t.key a.peer.node ≡ true = subst (λ (n : ℕ). is_under_at t.key n ≡ true) (sym same) under in rw at refl
entered_none t w arcs p under (inr (inr i)) = rw i (clears_dialogues arcs _ _ p (λ a same. here a same) (λ a. forgot_none a.dialogue))
  where
    here : (a : Arc) → a.peer.node ≡ p → is_arc_of t a ≡ true
    here a same = let at : is_under_at t.key a.peer.node ≡ true = subst (λ (n : ℕ). is_under_at t.key n ≡ true) (sym same) under in rw at refl

played_left : (d : Digest) (t : Transaction) (asks : Turn) (arcs : List Arc) (p : ℕ) → is_under_at t.key p ≡ true → holding_at p (played d t Leaves asks arcs).0 ≡ false
unfolding played
played_left d t asks arcs p under = left_none t (performed arcs asks.outs).0 p under

-- from a transaction that is active, or holds no control, to one that is no longer active
pub passed_none : (d : Digest) (t : Transaction) (leaving : Bool) (next : Phase) (asks : Turn) (arcs : List Arc) (p : ℕ) → Faces d t p → is_under_at t.key p ≡ true → is_nil t.phase ≡ false → (is_active t.phase ≡ false → holding_at p arcs ≡ false) → is_active next ≡ false
    → holding_at p (played d t (passage leaving t.phase next) asks (entered t (passage leaving t.phase next) arcs)).0 ≡ false
passed_none d t leaving next asks arcs p f under late none after = go (is_active t.phase) refl
  where
    w : Passage
    w = passage leaving t.phase next

    all : Gains false p arcs (played d t w asks (entered t w arcs)).0
    all = gains_then false p arcs (entered t w arcs) (played d t w asks (entered t w arcs)).0 (entered_gains t w arcs p) (played_gains d t w asks (entered t w arcs) p f)

    cleared_so : (w ≡ Enters) ⊎ (w ≡ Falls) ⊎ (w ≡ Falls_at_once) → holding_at p (played d t w asks (entered t w arcs)).0 ≡ false
    cleared_so is = none_gained p (entered t w arcs) (played d t w asks (entered t w arcs)).0 (played_gains d t w asks (entered t w arcs) p f) (entered_none t w arcs p under is)

    left_so : w ≡ Leaves → holding_at p (played d t w asks (entered t w arcs)).0 ≡ false
    left_so is = subst (λ (v : Passage). holding_at p (played d t v asks (entered t w arcs)).0 ≡ false) (sym is) (played_left d t asks (entered t w arcs) p under)

    is_act : (q : Phase) → is_active q ≡ true → q ≡ Phase.Active
    is_act Phase.Active h = refl
    is_act Phase.Nil h = absurd (cc (h))
    is_act Phase.Ready h = absurd (cc (h))
    is_act Phase.Committing h = absurd (cc (h))
    is_act Phase.Rolling h = absurd (cc (h))

    which : (l : Bool) (q : Phase) → is_active q ≡ false → (passage l Phase.Active q ≡ Leaves) ⊎ (passage l Phase.Active q ≡ Enters) ⊎ (passage l Phase.Active q ≡ Falls) ⊎ (passage l Phase.Active q ≡ Falls_at_once)
    which true Phase.Nil h = inl refl
    which false Phase.Nil h = inr (inr (inr refl))
    which l Phase.Active h = absurd (cc (h))
    which l Phase.Ready h = inr (inl refl)
    which l Phase.Committing h = inr (inl refl)
    which l Phase.Rolling h = inr (inr (inl refl))

    go : (b : Bool) → is_active t.phase ≡ b → holding_at p (played d t w asks (entered t w arcs)).0 ≡ false
    go false i = none_gained p arcs (played d t w asks (entered t w arcs)).0 all (none i)
    go true i =
        let act : t.phase ≡ Phase.Active = is_act t.phase i in
        let same : w ≡ passage leaving Phase.Active next = ap (λ (q : Phase). passage leaving q next) act in
        elim (which leaving next after) [ inl k ↦ left_so (same ∙ k) | inr k ↦ cleared_so (elim k [ inl m ↦ inl (same ∙ m) | inr m ↦ inr (elim m [ inl n ↦ inl (same ∙ n) | inr n ↦ inr (same ∙ n) ]) ]) ]

-- ---- rows and branches

pub bare_rows : (arcs : List Arc) (bs : List Branch) (p : ℕ) → find_branch bs p ≡ None → (f : Branch → Bool) → row_holds (seen_rows arcs bs) p f ≡ false
bare_rows arcs [] p h f = refl
bare_rows arcs (b ∷ bs) p h f = grind (arith, h, bare_rows arcs bs p)
