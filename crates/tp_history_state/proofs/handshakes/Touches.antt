-- What becomes of the dialogue with one peer, as a list of the changes that it is made of.
use Rattle.tp_history_state.proofs.Vocabulary.{if◌then◌else◌, ◌≡◌, ℕ, Bool, true, false, refl, ap, sym, ◌∙◌, arith, Option, Some, None, List, [], ◌∷◌, ◌++◌, ◌||◌, ◌==◌, Outcome, Holder, Side, TxOut, Event, Dialogue, Arc, Digest, Asked, Ask_grant, Heard, said, heard, begun_by, cleared, woken, rested, completed, find_arc, is_live_with_peer, without_arc, with_dialogue, with_dialogues, performed, Transaction, is_under_at, side_at, Passage, Stays, Enters, Falls, Falls_at_once, Commits, Rolls_back, Leaves, is_arc_of, is_arc_below, without_deferral, entered, completed_arcs, left_arcs, is_granting, committed_dialogue, committed_arcs, grants, played, IsChange, By_waking, By_saying, By_hearing, By_beginning, By_leaving, wakes, said_by, heard_by, begun_by_record, left_by, part_at, Keeps, part_dialogue, part_same, keeps_without, keeps_performed, find_arc_is, link_dialogue, link_dialogues, is_unchanged, around_grants, Turn}

pub data Touch : Type 0 where
  Waking : Touch
  Saying : Asked → Touch
  Hearing : Heard → Touch
  Taking_begin : Holder → Touch
  Taking_left : Touch
  -- a phase is entered; with a rollback
  Entering : Touch
  Falling : Touch
  -- it is complete, at the end of that side; and its control is given away
  Ending : Outcome → Side → Bool → Touch
  Resting : Touch
  Beginning : Holder → Touch

abbrev pub touched : Touch → Dialogue → Dialogue
touched Waking x = woken x
touched (Saying a) x = said a x
touched (Hearing h) x = heard h x
touched (Taking_begin h) x = begun_by h Side.Subordinate x
touched Taking_left x = cleared x
touched Entering x = cleared x
touched Falling x = without_deferral (cleared x)
touched (Ending o s given) x = if given then said Ask_grant (completed o s x) else completed o s x
touched Resting x = rested x
touched (Beginning h) x = begun_by h Side.Superior x

-- the first one first
abbrev pub run : List Touch → Dialogue → Dialogue
run [] x = x
run (t ∷ ts) x = run ts (touched t x)

abbrev pub some_touch : (Touch → Bool) → List Touch → Bool
some_touch f [] = false
some_touch f (t ∷ ts) = f t || some_touch f ts

abbrev pub is_passing : Touch → Bool
is_passing Entering = true
is_passing Falling = true
is_passing _ = false

abbrev pub is_ending : Touch → Bool
is_ending (Ending o s given) = true
is_ending _ = false

abbrev pub is_resting : Touch → Bool
is_resting Resting = true
is_resting _ = false

abbrev pub is_beginning : Touch → Bool
is_beginning (Beginning h) = true
is_beginning _ = false

-- a touch by the event e on the arc with p, which leads to the superior or not
abbrev pub FitsTouch : Event → ℕ → Bool → Touch → Type 0
FitsTouch e p up Waking = wakes e p ≡ true
FitsTouch e p up (Saying a) = said_by e ≡ Some (p, a)
FitsTouch e p up (Hearing h) = heard_by e ≡ Some (p, h)
FitsTouch e p up (Taking_begin h) = begun_by_record e ≡ Some (p, h)
FitsTouch e p up Taking_left = left_by e ≡ Some p
FitsTouch e p up Entering = Unit {0}
FitsTouch e p up Falling = Unit {0}
FitsTouch e p up (Ending o s given) = up ≡ false → s ≡ Side.Superior
FitsTouch e p up Resting = (is_unchanged e ≡ true) × (up ≡ true)
FitsTouch e p up (Beginning h) = up ≡ false

abbrev pub FitTouches : Event → ℕ → Bool → List Touch → Type 0
FitTouches e p up [] = Unit {0}
FitTouches e p up (t ∷ ts) = FitsTouch e p up t × FitTouches e p up ts

pub some_more : (f : Touch → Bool) (ts us : List Touch) → some_touch f (ts ++ us) ≡ (some_touch f ts || some_touch f us)
some_more f [] us = refl
some_more f (t ∷ ts) us = grind (arith, some_more f ts us)

pub fit_more : (e : Event) (p : ℕ) (up : Bool) (ts us : List Touch) → FitTouches e p up ts → FitTouches e p up us → FitTouches e p up (ts ++ us)
fit_more e p up [] us one two = two
fit_more e p up (t ∷ ts) us one two = (one.0, fit_more e p up ts us one.1 two)

pub run_more : (ts us : List Touch) (x : Dialogue) → run (ts ++ us) x ≡ run us (run ts x)
run_more [] us x = refl
run_more (t ∷ ts) us x = run_more ts us (touched t x)

-- ---- from arcs to arcs: where the peer is linked live after it, it was before, and its dialogue has become this

abbrev pub IsMade : ℕ → List Arc → List Arc → List Touch → Type 0
IsMade p xs ys ts = is_live_with_peer ys p ≡ true → (is_live_with_peer xs p ≡ true) × ((g : Dialogue → Bool) → part_at g p ys ≡ part_at (λ x. g (run ts x)) p xs)

pub made_keeps : (p : ℕ) (xs ys : List Arc) → ((g : Dialogue → Bool) → Keeps g p xs ys) → IsMade p xs ys []
made_keeps p xs ys k live = ((k (λ x. true) live).0, λ g. (k g live).1)

pub made_then : (p : ℕ) (xs ys zs : List Arc) (ts us : List Touch) → IsMade p xs ys ts → IsMade p ys zs us → IsMade p xs zs (ts ++ us)
made_then p xs ys zs ts us one two live =
    let b = two live in
    let a = one b.0 in
    (a.0, λ g. b.1 g ∙ a.1 (λ x. g (run us x)) ∙ part_same (λ x. g (run us (run ts x))) (λ x. g (run (ts ++ us) x)) p xs (λ x. ap g (sym (run_more ts us x))))

-- and nothing changes after it
pub made_after : (p : ℕ) (xs ys zs : List Arc) (ts : List Touch) → IsMade p xs ys ts → IsMade p ys zs [] → IsMade p xs zs ts
made_after p xs ys zs ts one two live = let b = two live in let a = one b.0 in (a.0, λ g. b.1 g ∙ a.1 g)

pub made_performed : (p : ℕ) (arcs : List Arc) (outs : List TxOut) → IsMade p arcs (performed arcs outs).0 []
made_performed p arcs outs = made_keeps p arcs (performed arcs outs).0 (λ g. keeps_performed g p arcs outs)

pub made_without : (p : ℕ) (arcs : List Arc) (q : ℕ) → IsMade p arcs (without_arc arcs q) []
made_without p arcs q = made_keeps p arcs (without_arc arcs q) (λ g. keeps_without g p arcs q)

pub made_dialogue : (p : ℕ) (arcs : List Arc) (q : ℕ) (f : Dialogue → Dialogue) (t : Touch) → ((x : Dialogue) → f x ≡ touched t x) → IsMade p arcs (with_dialogue arcs q f) (if q == p then t ∷ [] else [])
made_dialogue p arcs q f t same live = grind (arith, link_dialogue, part_dialogue, part_same)

abbrev remade : (Arc → Bool) → (Arc → Dialogue) → Arc → Arc
remade t f a = record a { dialogue = if t a then f a else a.dialogue }

found_dialogues : (arcs : List Arc) (t : Arc → Bool) (f : Arc → Dialogue) (p : ℕ) → find_arc (with_dialogues arcs t f) p ≡ elim (find_arc arcs p) as (λ _. Option Arc) [ None ↦ None | Some a ↦ Some (remade t f a) ]
found_dialogues [] t f p = refl
found_dialogues (a ∷ arcs) t f p = go (t a) refl (a.peer.node == p) refl (found_dialogues arcs t f p)
  where
    go : (b : Bool) → t a ≡ b → (v : Bool) → (a.peer.node == p) ≡ v → find_arc (with_dialogues arcs t f) p ≡ elim (find_arc arcs p) as (λ _. Option Arc) [ None ↦ None | Some x ↦ Some (remade t f x) ]
        → find_arc ((if b then record a { dialogue = f a } else a) ∷ with_dialogues arcs t f) p ≡ elim (if v then Some a else find_arc arcs p) as (λ _. Option Arc) [ None ↦ None | Some x ↦ Some (remade t f x) ]
    go true i true j rest = rw (i, j) refl
    go true i false j rest = rw j rest
    go false i true j rest = rw (i, j) refl
    go false i false j rest = rw j rest

pub made_dialogues : (p : ℕ) (arcs : List Arc) (t : Arc → Bool) (f : Arc → Dialogue) (ts : List Touch) → ((a : Arc) → find_arc arcs p ≡ Some a → a.peer.node ≡ p → (if t a then f a else a.dialogue) ≡ run ts a.dialogue) → IsMade p arcs (with_dialogues arcs t f) ts
made_dialogues p arcs t f ts same live = grind (arith, find_arc_is, found_dialogues, link_dialogues)

-- ---- what the passage of a transaction makes of it; b: its arc is one of the transaction

abbrev pub when : Bool → List Touch → List Touch
when b ts = if b then ts else []

chosen : (b c : Bool) → c ≡ b → (x y : Dialogue) (t : Touch) → touched t x ≡ y → (if c then y else x) ≡ run (when b (t ∷ [])) x
chosen true c i x y t same = rw i (sym same)
chosen false c i x y t same = rw i refl

abbrev pub passing_by : Passage → List Touch
passing_by Stays = []
passing_by Enters = Entering ∷ []
passing_by Falls = Falling ∷ []
passing_by Falls_at_once = Falling ∷ []
passing_by Commits = []
passing_by Rolls_back = []
passing_by Leaves = []

made_none : (p : ℕ) (arcs : List Arc) (b : Bool) → IsMade p arcs arcs (when b [])
made_none p arcs true live = (live, λ g. refl)
made_none p arcs false live = (live, λ g. refl)

pub made_entered : (p : ℕ) (t : Transaction) (w : Passage) (arcs : List Arc) (b : Bool) → ((a : Arc) → a.peer.node ≡ p → is_arc_of t a ≡ b) → IsMade p arcs (entered t w arcs) (when b (passing_by w))
unfolding entered
made_entered p t Enters arcs b all = made_dialogues p arcs (is_arc_of t) (λ a. cleared a.dialogue) (when b (Entering ∷ [])) (λ a found at. chosen b (is_arc_of t a) (all a at) a.dialogue (cleared a.dialogue) Entering refl)
made_entered p t Falls arcs b all = made_dialogues p arcs (is_arc_of t) (λ a. without_deferral (cleared a.dialogue)) (when b (Falling ∷ [])) (λ a found at. chosen b (is_arc_of t a) (all a at) a.dialogue (without_deferral (cleared a.dialogue)) Falling refl)
made_entered p t Falls_at_once arcs b all = made_dialogues p arcs (is_arc_of t) (λ a. without_deferral (cleared a.dialogue)) (when b (Falling ∷ [])) (λ a found at. chosen b (is_arc_of t a) (all a at) a.dialogue (without_deferral (cleared a.dialogue)) Falling refl)
made_entered p t _ arcs b all = made_none p arcs b

abbrev granting_at : Transaction → ℕ → List Arc → Bool
granting_at t p arcs = elim (find_arc arcs p) [ None ↦ false | Some a ↦ is_granting t a ]

abbrev pub ending_by : Digest → Transaction → ℕ → Passage → Turn → List Arc → List Touch
ending_by d t p Stays asks arcs = []
ending_by d t p Enters asks arcs = []
ending_by d t p Falls asks arcs = []
ending_by d t p Falls_at_once asks arcs = Ending Outcome.Rollback (side_at d p) false ∷ []
ending_by d t p Commits asks arcs = Ending Outcome.Commit (side_at d p) (granting_at t p (performed arcs (around_grants asks).0).0) ∷ []
ending_by d t p Rolls_back asks arcs = Ending Outcome.Rollback (side_at d p) false ∷ []
ending_by d t p Leaves asks arcs = []

made_completed : (p : ℕ) (d : Digest) (t : Transaction) (o : Outcome) (arcs : List Arc) (b : Bool) → ((a : Arc) → a.peer.node ≡ p → is_arc_of t a ≡ b) → IsMade p arcs (completed_arcs d t o arcs) (when b (Ending o (side_at d p) false ∷ []))
made_completed p d t o arcs b all =
    made_dialogues p arcs (is_arc_of t) (λ a. completed o (side_at d a.peer.node) a.dialogue) (when b (Ending o (side_at d p) false ∷ []))
    (λ a found at. chosen b (is_arc_of t a) (all a at) a.dialogue (completed o (side_at d a.peer.node) a.dialogue) (Ending o (side_at d p) false) (ap (λ (n : ℕ). completed o (side_at d n) a.dialogue) (sym at)))

made_committed : (p : ℕ) (d : Digest) (t : Transaction) (arcs : List Arc) (b : Bool) → ((a : Arc) → a.peer.node ≡ p → is_arc_of t a ≡ b) → IsMade p arcs (committed_arcs d t arcs) (when b (Ending Outcome.Commit (side_at d p) (granting_at t p arcs) ∷ []))
made_committed p d t arcs b all =
    made_dialogues p arcs (is_arc_of t) (committed_dialogue d t) (when b (Ending Outcome.Commit (side_at d p) (granting_at t p arcs) ∷ []))
    (λ a found at. chosen b (is_arc_of t a) (all a at) a.dialogue (committed_dialogue d t a) (Ending Outcome.Commit (side_at d p) (granting_at t p arcs)) (same a found at))
  where
    same : (a : Arc) → find_arc arcs p ≡ Some a → a.peer.node ≡ p → touched (Ending Outcome.Commit (side_at d p) (granting_at t p arcs)) a.dialogue ≡ committed_dialogue d t a
    same a found at =
        ap (λ (n : ℕ). touched (Ending Outcome.Commit (side_at d n) (granting_at t p arcs)) a.dialogue) (sym at)
        ∙ ap (λ (o : Option Arc). touched (Ending Outcome.Commit (side_at d a.peer.node) (elim o as (λ _. Bool) [ None ↦ false | Some x ↦ is_granting t x ])) a.dialogue) found

pub made_played : (p : ℕ) (d : Digest) (t : Transaction) (w : Passage) (asks : Turn) (arcs : List Arc) (b : Bool) → ((a : Arc) → a.peer.node ≡ p → is_arc_of t a ≡ b) → (w ≡ Leaves → ⊥) → IsMade p arcs (played d t w asks arcs).0 (when b (ending_by d t p w asks arcs))
unfolding played
made_played p d t Falls_at_once asks arcs b all other =
    let s = performed arcs asks.outs in
    made_then p arcs s.0 (completed_arcs d t Outcome.Rollback s.0) [] (when b (Ending Outcome.Rollback (side_at d p) false ∷ [])) (made_performed p arcs asks.outs) (made_completed p d t Outcome.Rollback s.0 b all)
made_played p d t Commits asks arcs b all other =
    let s = around_grants asks in
    let one : List Arc = (performed arcs s.0).0 in
    let mid : List Arc = committed_arcs d t one in
    let two : List Arc = (performed mid (grants t one)).0 in
    let last : List Arc = (performed two s.1).0 in
    let ts : List Touch = when b (Ending Outcome.Commit (side_at d p) (granting_at t p one) ∷ []) in
    made_then p arcs one last [] ts (made_performed p arcs s.0)
    (made_after p one two last ts (made_after p one mid two ts (made_committed p d t one b all) (made_performed p mid (grants t one))) (made_performed p two s.1))
made_played p d t Rolls_back asks arcs b all other =
    let s = performed arcs asks.outs in
    made_then p arcs s.0 (completed_arcs d t Outcome.Rollback s.0) [] (when b (Ending Outcome.Rollback (side_at d p) false ∷ [])) (made_performed p arcs asks.outs) (made_completed p d t Outcome.Rollback s.0 b all)
made_played p d t Leaves asks arcs b all other = absurd (other refl)
made_played p d t _ asks arcs b all other = made_after p arcs arcs (performed arcs asks.outs).0 (when b []) (made_none p arcs b) (made_performed p arcs asks.outs)

-- its user leaves: below it is over, and the superior's arc rests
pub made_left : (p : ℕ) (t : Transaction) (arcs : List Arc) (b c : Bool) → ((a : Arc) → a.peer.node ≡ p → is_arc_below t a ≡ b) → is_under_at t.key p ≡ c → IsMade p arcs (left_arcs t arcs) (when b (Ending Outcome.Rollback Side.Superior false ∷ []) ++ when c (Resting ∷ []))
made_left p t arcs b c below under =
    let mid : List Arc = with_dialogues arcs (is_arc_below t) (λ a. completed Outcome.Rollback Side.Superior a.dialogue) in
    made_then p arcs mid (left_arcs t arcs) (when b (Ending Outcome.Rollback Side.Superior false ∷ [])) (when c (Resting ∷ []))
    (made_dialogues p arcs (is_arc_below t) (λ a. completed Outcome.Rollback Side.Superior a.dialogue) (when b (Ending Outcome.Rollback Side.Superior false ∷ [])) (λ a found at. chosen b (is_arc_below t a) (below a at) a.dialogue _ (Ending Outcome.Rollback Side.Superior false) refl))
    (made_dialogues p mid (λ a. is_under_at t.key a.peer.node) (λ a. rested a.dialogue) (when c (Resting ∷ [])) (λ a found at. chosen c (is_under_at t.key a.peer.node) (ap (is_under_at t.key) at ∙ under) a.dialogue (rested a.dialogue) Resting refl))

-- ---- what an event changes in one dialogue

pub touch_of : (e : Event) (d : Digest) (q : ℕ) (f : Dialogue → Dialogue) (up : Bool) → IsChange e d q f → (t : Touch) × (FitsTouch e q up t) × ((x : Dialogue) → f x ≡ touched t x) × ((is_passing t || is_ending t || is_resting t || is_beginning t) ≡ false)
touch_of e d q f up (By_waking w i) = (Waking, w, λ x. ap (λ (g : Dialogue → Dialogue). g x) i, refl)
touch_of e d q f up (By_saying a by i off) = (Saying a, by, λ x. ap (λ (g : Dialogue → Dialogue). g x) i, refl)
touch_of e d q f up (By_hearing h by i off) = (Hearing h, by, λ x. ap (λ (g : Dialogue → Dialogue). g x) i, refl)
touch_of e d q f up (By_beginning h by i) = (Taking_begin h, by, λ x. ap (λ (g : Dialogue → Dialogue). g x) i, refl)
touch_of e d q f up (By_leaving by i) = (Taking_left, by, λ x. ap (λ (g : Dialogue → Dialogue). g x) i, refl)
