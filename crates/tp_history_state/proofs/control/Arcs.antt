-- Control on the arc with a peer, as its dialogue has it, and what the changes of arcs make of it.
use Rattle.tp_history_state.proofs.Vocabulary.{Bool, List, None, Option, Some, [], ap, arith, false, if◌then◌else◌, refl, sym, true, ℕ, ◌&&◌, ◌==◌, ◌∙◌, ◌∷◌, ◌≡◌, ◌||◌, and-true, nat_tests, DialogueRecord, is_polarized, gives_control, Arc, Dialogue, Link, Out, Transaction, TxOut, carried, find_arc, is_live_with_peer, performed, with_dialogue, with_dialogues, with_link, without_arc, carried_on, has_said, said_to, is_granting, grants, is_live, with_one_taken, some_leads, are_separate, is_there, said_carried, Keeps, keeps_dialogues, keeps_performed, keeps_taken, keeps_without, part_at, said_both, and_left, and_right, find_arc_is}

-- ---- the arc with the peer

-- it is live, and polarized
abbrev pub ruled_of : Option Arc → Bool
ruled_of None = false
ruled_of (Some a) = is_live a.link && is_polarized a.dialogue

-- whether this end holds control, and whether the response that it owes gives it control
abbrev pub control_from : Dialogue → Bool × Bool
control_from x = (x.holds, gives_control x.due)

abbrev pub control_of : Option Arc → Bool × Bool
control_of None = (false, false)
control_of (Some a) = control_from a.dialogue

abbrev pub is_ruled : ℕ → List Arc → Bool
is_ruled p arcs = ruled_of (find_arc arcs p)

abbrev pub control_at : ℕ → List Arc → Bool × Bool
control_at p arcs = control_of (find_arc arcs p)

abbrev pub held : Dialogue → Bool
held x = x.holds

abbrev pub waits : Dialogue → Bool
waits x = gives_control x.due

pub ruled_live : (p : ℕ) (arcs : List Arc) → is_ruled p arcs ≡ true → is_live_with_peer arcs p ≡ true
ruled_live p arcs = grind (arith, and_left)

ruled_polarized : (p : ℕ) (arcs : List Arc) → is_ruled p arcs ≡ true → part_at is_polarized p arcs ≡ true
ruled_polarized p arcs = grind (arith, and_right)

pub made_ruled : (p : ℕ) (arcs : List Arc) → is_live_with_peer arcs p ≡ true → part_at is_polarized p arcs ≡ true → is_ruled p arcs ≡ true
made_ruled p arcs = grind arith

pub parts_of : (p : ℕ) (arcs : List Arc) → control_at p arcs ≡ (part_at held p arcs, part_at waits p arcs)
parts_of p arcs = grind arith

-- ---- it is as it was

abbrev pub Same : ℕ → List Arc → List Arc → Type 0
Same p xs ys = is_ruled p ys ≡ true → (is_ruled p xs ≡ true) × (control_at p ys ≡ control_at p xs)

pub same_self : (p : ℕ) (xs : List Arc) → Same p xs xs
same_self p xs h = (h, refl)

pub same_then : (p : ℕ) (xs ys zs : List Arc) → Same p xs ys → Same p ys zs → Same p xs zs
same_then p xs ys zs one two h = let b = two h in let a = one b.0 in (a.0, b.1 ∙ a.1)

pub same_keeps : (p : ℕ) (xs ys : List Arc) → Keeps is_polarized p xs ys → Keeps held p xs ys → Keeps waits p xs ys → Same p xs ys
same_keeps p xs ys a b c h =
    let live = ruled_live p ys h in
    let x = a live in
    let u = (b live).1 in
    let v = (c live).1 in
    (made_ruled p xs x.0 (sym x.1 ∙ ruled_polarized p ys h), parts_of p ys ∙ rw (u, v) refl ∙ sym (parts_of p xs))

pub same_performed : (p : ℕ) (arcs : List Arc) (outs : List TxOut) → Same p arcs (performed arcs outs).0
same_performed p arcs outs = same_keeps p arcs (performed arcs outs).0 (keeps_performed is_polarized p arcs outs) (keeps_performed held p arcs outs) (keeps_performed waits p arcs outs)

pub same_without : (p : ℕ) (arcs : List Arc) (q : ℕ) → Same p arcs (without_arc arcs q)
same_without p arcs q = same_keeps p arcs (without_arc arcs q) (keeps_without is_polarized p arcs q) (keeps_without held p arcs q) (keeps_without waits p arcs q)

pub same_taken : (p : ℕ) (arcs : List Arc) (q : ℕ) → Same p arcs (with_link arcs q with_one_taken)
same_taken p arcs q = same_keeps p arcs (with_link arcs q with_one_taken) (keeps_taken is_polarized p arcs q) (keeps_taken held p arcs q) (keeps_taken waits p arcs q)

-- what a change keeps of a dialogue
abbrev pub Alike : Dialogue → Dialogue → Type 0
Alike x y = (is_polarized y ≡ is_polarized x) × (y.holds ≡ x.holds) × (gives_control y.due ≡ gives_control x.due)

pub same_dialogues : (p : ℕ) (arcs : List Arc) (t : Arc → Bool) (f : Arc → Dialogue) → ((a : Arc) → a.peer.node ≡ p → t a ≡ true → Alike a.dialogue (f a)) → Same p arcs (with_dialogues arcs t f)
same_dialogues p arcs t f k =
    same_keeps p arcs (with_dialogues arcs t f) (keeps_dialogues is_polarized p arcs t f (λ a at is. (k a at is).0)) (keeps_dialogues held p arcs t f (λ a at is. (k a at is).1))
    (keeps_dialogues waits p arcs t f (λ a at is. (k a at is).2))

-- ---- dialogues that are changed

abbrev changed : (Arc → Bool) → (Arc → Dialogue) → Option Arc → Option Arc
changed t f None = None
changed t f (Some a) = Some (if t a then record a { dialogue = f a } else a)

found_dialogues : (arcs : List Arc) (t : Arc → Bool) (f : Arc → Dialogue) (p : ℕ) → find_arc (with_dialogues arcs t f) p ≡ changed t f (find_arc arcs p)
found_dialogues [] t f p = refl
found_dialogues (a ∷ arcs) t f p = go (t a) refl (a.peer.node == p) refl (found_dialogues arcs t f p)
  where
    go : (b : Bool) → t a ≡ b → (c : Bool) → (a.peer.node == p) ≡ c → find_arc (with_dialogues arcs t f) p ≡ changed t f (find_arc arcs p)
        → find_arc ((if b then record a { dialogue = f a } else a) ∷ with_dialogues arcs t f) p ≡ changed t f (if c then Some a else find_arc arcs p)
    go true i true j rest = rw (i, j) refl
    go false i true j rest = rw (i, j) refl
    go true i false j rest = rw j rest
    go false i false j rest = rw j rest

pub found_dialogue : (arcs : List Arc) (q : ℕ) (f : Dialogue → Dialogue) (p : ℕ) (a : Arc) → find_arc arcs p ≡ Some a → find_arc (with_dialogue arcs q f) p ≡ Some (if q == p then record a { dialogue = f a.dialogue } else a)
found_dialogue [] q f p a h = absurd (cc (h))
found_dialogue (b ∷ arcs) q f p a h = go (b.peer.node == q) refl (b.peer.node == p) refl (q == p) refl h (found_dialogue arcs q f p a)
  where
    go : (u : Bool) → (b.peer.node == q) ≡ u → (v : Bool) → (b.peer.node == p) ≡ v → (w : Bool) → (q == p) ≡ w → (if v then Some b else find_arc arcs p) ≡ Some a
        → (find_arc arcs p ≡ Some a → find_arc (with_dialogue arcs q f) p ≡ Some (if q == p then record a { dialogue = f a.dialogue } else a))
        → find_arc (if u then record b { dialogue = f b.dialogue } ∷ arcs else b ∷ with_dialogue arcs q f) p ≡ Some (if w then record a { dialogue = f a.dialogue } else a)
    go true i true j true k h rest = let same : b ≡ a = cc (h) in rw j (ap (λ (x : Arc). Some (record x { dialogue = f x.dialogue })) same)
    go true i false j false k h rest = rw j h
    go false i true j false k h rest = rw j h
    go false i false j true k h rest = rw j (rest h ∙ rw k refl)
    go false i false j false k h rest = rw j (rest h ∙ rw k refl)
    go _ i _ j _ k h rest = absurd (grind (arith, nat_tests, i, j, k))

none_dialogue : (arcs : List Arc) (q : ℕ) (f : Dialogue → Dialogue) (p : ℕ) → find_arc arcs p ≡ None → find_arc (with_dialogue arcs q f) p ≡ None
none_dialogue [] q f p h = refl
none_dialogue (b ∷ arcs) q f p h = go (b.peer.node == q) refl (b.peer.node == p) refl h (none_dialogue arcs q f p)
  where
    go : (u : Bool) → (b.peer.node == q) ≡ u → (v : Bool) → (b.peer.node == p) ≡ v → (if v then Some b else find_arc arcs p) ≡ None → (find_arc arcs p ≡ None → find_arc (with_dialogue arcs q f) p ≡ None)
        → find_arc (if u then record b { dialogue = f b.dialogue } ∷ arcs else b ∷ with_dialogue arcs q f) p ≡ None
    go u i true j h rest = absurd (cc (h))
    go true i false j h rest = rw j h
    go false i false j h rest = rw j (rest h)

-- one dialogue gets control as given, where it is the peer's
pub dialogue_gets : (arcs : List Arc) (f : Dialogue → Dialogue) (p : ℕ) (v : Bool × Bool) → ((a : Arc) → find_arc arcs p ≡ Some a → (is_polarized (f a.dialogue) ≡ is_polarized a.dialogue) × (is_polarized a.dialogue ≡ true → control_from (f a.dialogue) ≡ v))
    → is_ruled p (with_dialogue arcs p f) ≡ true → (is_ruled p arcs ≡ true) × (control_at p (with_dialogue arcs p f) ≡ v)
dialogue_gets arcs f p v k ruled = go (find_arc arcs p) refl
  where
    self : (p == p) ≡ true
    self = grind (arith, nat_tests)

    go : (o : Option Arc) → find_arc arcs p ≡ o → (is_ruled p arcs ≡ true) × (control_at p (with_dialogue arcs p f) ≡ v)
    go None i = absurd (let no : is_ruled p (with_dialogue arcs p f) ≡ false = ap ruled_of (none_dialogue arcs p f p i) in cc (no, ruled))
    go (Some a) i =
        let is : find_arc (with_dialogue arcs p f) p ≡ Some (record a { dialogue = f a.dialogue }) = found_dialogue arcs p f p a i ∙ rw self refl in
        let on : (is_live a.link && is_polarized (f a.dialogue)) ≡ true = ap ruled_of (sym is) ∙ ruled in
        let w = k a i in
        let pol : is_polarized a.dialogue ≡ true = sym w.0 ∙ and_right (is_live a.link) (is_polarized (f a.dialogue)) on in
        let live : is_live a.link ≡ true = and_left (is_live a.link) (is_polarized (f a.dialogue)) on in
        (ap ruled_of i ∙ rw (live, pol) refl, ap control_of is ∙ w.1 pol)

-- it is another's, or changes nothing of control
pub same_dialogue : (p : ℕ) (arcs : List Arc) (q : ℕ) (f : Dialogue → Dialogue) → ((q == p) ≡ true → (x : Dialogue) → Alike x (f x)) → Same p arcs (with_dialogue arcs q f)
same_dialogue p arcs q f k ruled = go (find_arc arcs p) refl
  where
    on : (a : Arc) → find_arc arcs p ≡ Some a → (b : Bool) → (q == p) ≡ b → (is_ruled p arcs ≡ true) × (control_at p (with_dialogue arcs q f) ≡ control_at p arcs)
    on a i true j =
        let is : find_arc (with_dialogue arcs q f) p ≡ Some (record a { dialogue = f a.dialogue }) = found_dialogue arcs q f p a i ∙ rw j refl in
        let w = k j a.dialogue in
        let on : (is_live a.link && is_polarized (f a.dialogue)) ≡ true = ap ruled_of (sym is) ∙ ruled in
        let was : (is_live a.link && is_polarized a.dialogue) ≡ true = ap (λ (b : Bool). is_live a.link && b) (sym w.0) ∙ on in
        (ap ruled_of i ∙ was, ap control_of is ∙ rw (w.1, w.2) refl ∙ sym (ap control_of i))
    on a i false j =
        let is : find_arc (with_dialogue arcs q f) p ≡ Some a = found_dialogue arcs q f p a i ∙ rw j refl in
        (ap ruled_of i ∙ sym (ap ruled_of is) ∙ ruled, ap control_of is ∙ sym (ap control_of i))

    go : (o : Option Arc) → find_arc arcs p ≡ o → (is_ruled p arcs ≡ true) × (control_at p (with_dialogue arcs q f) ≡ control_at p arcs)
    go None i = absurd (let no : is_ruled p (with_dialogue arcs q f) ≡ false = ap ruled_of (none_dialogue arcs q f p i) in cc (no, ruled))
    go (Some a) i = on a i (q == p) refl

-- all dialogues with the peer get control as given
pub dialogues_get : (p : ℕ) (arcs : List Arc) (t : Arc → Bool) (f : Arc → Dialogue) (v : Bool × Bool)
    → ((a : Arc) → find_arc arcs p ≡ Some a → a.peer.node ≡ p → (t a ≡ true) × (is_polarized (f a) ≡ is_polarized a.dialogue) × (is_polarized a.dialogue ≡ true → control_from (f a) ≡ v))
    → is_ruled p (with_dialogues arcs t f) ≡ true → (is_ruled p arcs ≡ true) × (control_at p (with_dialogues arcs t f) ≡ v)
dialogues_get p arcs t f v k ruled = grind (arith, and_left, and_right, changed, find_arc_is, found_dialogues)

-- ---- what is said to the peer

-- ---- the Grants at a completion

abbrev pub granting_at : Transaction → ℕ → List Arc → Bool
granting_at t p arcs = elim (find_arc arcs p) [ None ↦ false | Some a ↦ is_granting t a ]

live_carried : (arcs : List Arc) (q : ℕ) (r : DialogueRecord) (p : ℕ) → is_live_with_peer (carried arcs q r).0 p ≡ is_live_with_peer arcs p
live_carried [] q r p = refl
live_carried (a ∷ arcs) q r p = go (a.peer.node == q) (live_carried arcs q r p)
  where
    on : (l : Link) → a.link ≡ l → is_live_with_peer ((carried_on a r).0 ∷ arcs) p ≡ is_live_with_peer (a ∷ arcs) p
    on _ i = grind (arith, i)

    go : (b : Bool) → is_live_with_peer (carried arcs q r).0 p ≡ is_live_with_peer arcs p
        → is_live_with_peer (if◌then◌else◌ {A = List Arc × List Out} b (let s = carried_on a r in (s.0 ∷ arcs, s.1)) (let s = carried arcs q r in (a ∷ s.0, s.1))).0 p ≡ is_live_with_peer (a ∷ arcs) p
    go true rest = on a.link refl
    go false rest = grind (arith, rest)

abbrev pub is_gift : DialogueRecord → Bool
is_gift DialogueRecord.Grant = true
is_gift DialogueRecord.HandshakeGrant = true
is_gift _ = false

leads_none : (f : Arc → Bool) (p : ℕ) (arcs : List Arc) → is_there p arcs ≡ false → some_leads f p arcs ≡ false
leads_none f p [] h = refl
leads_none f p (a ∷ arcs) h = go (a.peer.node == p) refl (f a) (leads_none f p arcs)
  where
    go : (b : Bool) → (a.peer.node == p) ≡ b → (c : Bool) → (is_there p arcs ≡ false → some_leads f p arcs ≡ false) → ((c && b) || some_leads f p arcs) ≡ false
    go true i c rest = absurd (grind (arith, h, i))
    go false i true rest = rest (grind (arith, h, i))
    go false i false rest = rest (grind (arith, h, i))

leads_found : (f : Arc → Bool) (p : ℕ) (arcs : List Arc) → are_separate arcs ≡ true → some_leads f p arcs ≡ elim (find_arc arcs p) as (λ _. Bool) [ None ↦ false | Some a ↦ f a ]
leads_found f p [] apart = refl
leads_found f p (a ∷ arcs) apart = go (a.peer.node == p) refl (f a) refl (leads_found f p arcs (grind (arith, apart)))
  where
    go : (b : Bool) → (a.peer.node == p) ≡ b → (c : Bool) → f a ≡ c → some_leads f p arcs ≡ elim (find_arc arcs p) as (λ _. Bool) [ None ↦ false | Some a ↦ f a ]
        → ((c && b) || some_leads f p arcs) ≡ elim (if b then Some a else find_arc arcs p) as (λ _. Bool) [ None ↦ false | Some a ↦ f a ]
    go true i true j rest = sym j
    go true i false j rest =
        let at : a.peer.node ≡ p = grind (arith, nat_tests, i) in
        let none : is_there a.peer.node arcs ≡ false = grind (arith, apart) in
        leads_none f p arcs (ap (λ (n : ℕ). is_there n arcs) (sym at) ∙ none) ∙ sym j
    go false i true j rest = rest
    go false i false j rest = rest

grants_lead : (t : Transaction) (p : ℕ) (xs mid : List Arc) → has_said is_gift (said_to p (performed mid (grants t xs)).1) ≡ (some_leads (is_granting t) p xs && is_live_with_peer mid p)
grants_lead t p [] mid = refl
grants_lead t p (a ∷ xs) mid = go (is_granting t a) refl (grants_lead t p xs mid) (grants_lead t p xs (carried mid a.peer.node DialogueRecord.Grant).0)
  where
    on : (u v w z : Bool) → (a.peer.node == p) ≡ u → is_live_with_peer mid a.peer.node ≡ v → is_live_with_peer mid p ≡ w → (has_said is_gift (if u && v then DialogueRecord.Grant ∷ [] else []) || (z && w)) ≡ ((u || z) && w)
    on true true true z i j k = refl
    on true true false z i j k = let at : a.peer.node ≡ p = grind (arith, nat_tests, i) in absurd (let same : is_live_with_peer mid p ≡ true = ap (is_live_with_peer mid) (sym at) ∙ j in cc (same, k))
    on true false true z i j k = let at : a.peer.node ≡ p = grind (arith, nat_tests, i) in absurd (let same : is_live_with_peer mid p ≡ false = ap (is_live_with_peer mid) (sym at) ∙ j in cc (same, k))
    on true false false true i j k = refl
    on true false false false i j k = refl
    on false v w z i j k = refl

    Leads : List Arc → Type 0
    Leads ys = has_said is_gift (said_to p (performed ys (grants t xs)).1) ≡ (some_leads (is_granting t) p xs && is_live_with_peer ys p)

    go : (b : Bool) → is_granting t a ≡ b → Leads mid → Leads (carried mid a.peer.node DialogueRecord.Grant).0 → has_said is_gift (said_to p (performed mid (if b then TxOut.Carry a.peer.node DialogueRecord.Grant ∷ grants t xs else grants t xs)).1) ≡ (((b && (a.peer.node == p)) || some_leads (is_granting t) p xs) && is_live_with_peer mid p)
    go false i here there = here
    go true i here there =
        let next : List Arc = (carried mid a.peer.node DialogueRecord.Grant).0 in
        said_both is_gift p (carried mid a.peer.node DialogueRecord.Grant).1 (performed next (grants t xs)).1
        ∙ rw (said_carried p mid a.peer.node DialogueRecord.Grant, there, live_carried mid a.peer.node DialogueRecord.Grant p)
        (on (a.peer.node == p) (is_live_with_peer mid a.peer.node) (is_live_with_peer mid p) (some_leads (is_granting t) p xs) refl refl refl)

-- a Grant is said to the peer where its arc is granted
pub grants_say : (t : Transaction) (p : ℕ) (xs mid : List Arc) → are_separate xs ≡ true → is_live_with_peer mid p ≡ true → has_said is_gift (said_to p (performed mid (grants t xs)).1) ≡ granting_at t p xs
grants_say t p xs mid apart live = grants_lead t p xs mid ∙ rw (leads_found (is_granting t) p xs apart, live) (and-true (granting_at t p xs))
