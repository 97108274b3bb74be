-- What a step of a node leaves as it was of the dialogue with one peer, and what it says there.
use Rattle.std.proofs.Common.{if◌then◌else◌, ◌≡◌, inl, inr, ℕ, Bool, true, false, refl, ap, sym, ◌∙◌, arith, Option, Some, None, List, [], ◌∷◌, ◌++◌, ◌&&◌, ◌||◌, ◌==◌, not, ◌⊎◌, subst}
use Rattle.std.proofs.lemmas.Bool.Decides.{nat_tests}
use Rattle.tp_records.specs.declared.dialogue.DialogueRecord.{DialogueRecord}
use Rattle.tp_model.specs.declared.transaction.TxOut.{TxOut}
use Rattle.tp_model.specs.Parts.{Out, Link, Idle, Opening, Offered, Live, Dialogue, Arc, Digest, Who, Event}
use Rattle.tp_model.specs.Links.{is_live, with_one_taken}
use Rattle.tp_model.specs.Arcs.{find_arc, link_with, is_live_with_peer, without_arc, with_dialogue, with_link, with_dialogues, carried_on, carried, shut_with, performed_one, performed, link_of, put_arc}
use Rattle.tp_model.specs.Node.{Move, next_mark, superior_arc}
use Rattle.tp_model.specs.Questions.{said_to, has_said, sent_more}
use Rattle.tp_steps.specs.Moves.{is_apart_record, prelude, called, accepted_by, accepted_on, linked, counted_in}
use Rattle.tp_steps.specs.Traces.{IsLinked}
use Rattle.tp_steps.proofs.links.Links.{said_append}
use Rattle.tp_steps.proofs.lemmas.Equality.{and_left, and_right}
use Rattle.tp_names.specs.declared.identifiers.Mark.{Mark}
use Rattle.tp_names.specs.declared.identifiers.Addr.{Addr}
use Rattle.tp_records.specs.declared.request.Request.{Request}
use Rattle.tp_records.specs.declared.peer.PeerRecord.{PeerRecord}
use Rattle.tp_model.specs.declared.arc.Side.{Side}
use Rattle.tp_model.specs.Dialogues.{fresh_dialogue}
use Rattle.tp_model.specs.Arrivals.{refused_arrival}
use Rattle.tp_model.specs.Events.{refusal, verdict, after_crash}
use Rattle.tp_runs.specs.Known.{all_arcs}
use Rattle.tp_steps.proofs.every.EveryRecord.{find_arc_is}
use Rattle.tp_steps.proofs.every.Preludes.{superior_found, begun_arcs}
use Rattle.tp_steps.specs.Ends.{is_there, are_separate}
use Rattle.tp_steps.proofs.links.Fading.{live_without}

-- ---- the dialogue with the peer

abbrev pub part_at : (Dialogue → Bool) → ℕ → List Arc → Bool
part_at g p arcs = elim (find_arc arcs p) [ None ↦ false | Some a ↦ g a.dialogue ]

-- where the peer is linked live after it, it was before, and the dialogue has the property as before
abbrev pub Keeps : (Dialogue → Bool) → ℕ → List Arc → List Arc → Type 0
Keeps g p xs ys = is_live_with_peer ys p ≡ true → (is_live_with_peer xs p ≡ true) × (part_at g p ys ≡ part_at g p xs)

pub keeps_self : (g : Dialogue → Bool) (p : ℕ) (xs : List Arc) → Keeps g p xs xs
keeps_self g p xs live = (live, refl)

pub keeps_then : (g : Dialogue → Bool) (p : ℕ) (xs ys zs : List Arc) → Keeps g p xs ys → Keeps g p ys zs → Keeps g p xs zs
keeps_then g p xs ys zs one two live = let b = two live in let a = one b.0 in (a.0, b.1 ∙ a.1)

keeps_cons : (g : Dialogue → Bool) (p : ℕ) (a b : Arc) (xs ys : List Arc) → b.peer.node ≡ a.peer.node → (a.peer.node ≡ p → is_live b.link ≡ true → (is_live a.link ≡ true) × (g b.dialogue ≡ g a.dialogue)) → Keeps g p xs ys
    → Keeps g p (a ∷ xs) (b ∷ ys)
keeps_cons g p a b xs ys same one rest = go (a.peer.node == p) refl
  where
    go : (v : Bool) → (a.peer.node == p) ≡ v → Keeps g p (a ∷ xs) (b ∷ ys)
    go true i live =
        let j : (b.peer.node == p) ≡ true = ap (λ (n : ℕ). n == p) same ∙ i in
        let now : is_live b.link ≡ true = rw (j, is_live_with_peer) at live in
        let at : a.peer.node ≡ p = grind (arith, nat_tests, i) in
        let was = one at now in
        (rw (i, is_live_with_peer) was.0, rw (i, j, part_at) was.1)
    go false i live =
        let j : (b.peer.node == p) ≡ false = ap (λ (n : ℕ). n == p) same ∙ i in
        let now : is_live_with_peer ys p ≡ true = rw (j, is_live_with_peer) at live in
        let was = rest now in
        (rw (i, is_live_with_peer) was.0, rw (i, j, part_at) was.1)

-- ---- changes of arcs

pub part_dialogue : (g : Dialogue → Bool) (p : ℕ) (arcs : List Arc) (q : ℕ) (f : Dialogue → Dialogue) → part_at g p (with_dialogue arcs q f) ≡ (if q == p then part_at (λ x. g (f x)) p arcs else part_at g p arcs)
part_dialogue g p [] q f = grind arith
part_dialogue g p (a ∷ arcs) q f = go (a.peer.node == q) refl (a.peer.node == p) refl (q == p) refl (part_dialogue g p arcs q f)
  where
    go : (u : Bool) → (a.peer.node == q) ≡ u → (v : Bool) → (a.peer.node == p) ≡ v → (w : Bool) → (q == p) ≡ w
        → part_at g p (with_dialogue arcs q f) ≡ (if q == p then part_at (λ x. g (f x)) p arcs else part_at g p arcs)
        → part_at g p (if u then record a { dialogue = f a.dialogue } ∷ arcs else a ∷ with_dialogue arcs q f) ≡ (if w then part_at (λ x. g (f x)) p (a ∷ arcs) else part_at g p (a ∷ arcs))
    go true i true j true k rest = rw (j, part_at) refl
    go true i true j false k rest = absurd (grind (arith, nat_tests, i, j, k))
    go true i false j true k rest = absurd (grind (arith, nat_tests, i, j, k))
    go true i false j false k rest = rw (j, part_at) refl
    go false i true j true k rest = absurd (grind (arith, nat_tests, i, j, k))
    go false i true j false k rest = rw (j, part_at) refl
    go false i false j true k rest = rw (j, part_at) (rest ∙ rw k refl)
    go false i false j false k rest = rw (j, part_at) (rest ∙ rw k refl)

pub part_none : (g : Dialogue → Bool) (p : ℕ) (arcs : List Arc) → ((x : Dialogue) → g x ≡ false) → part_at g p arcs ≡ false
part_none g p arcs none = go (find_arc arcs p)
  where
    go : (o : Option Arc) → elim o as (λ _. Bool) [ None ↦ false | Some a ↦ g a.dialogue ] ≡ false
    go None = refl
    go (Some a) = none a.dialogue

pub part_same : (g k : Dialogue → Bool) (p : ℕ) (arcs : List Arc) → ((x : Dialogue) → g x ≡ k x) → part_at g p arcs ≡ part_at k p arcs
part_same g k p arcs same = go (find_arc arcs p)
  where
    go : (o : Option Arc) → elim o as (λ _. Bool) [ None ↦ false | Some a ↦ g a.dialogue ] ≡ elim o as (λ _. Bool) [ None ↦ false | Some a ↦ k a.dialogue ]
    go None = refl
    go (Some a) = same a.dialogue

pub keeps_dialogues : (g : Dialogue → Bool) (p : ℕ) (arcs : List Arc) (t : Arc → Bool) (f : Arc → Dialogue) → ((a : Arc) → a.peer.node ≡ p → t a ≡ true → g (f a) ≡ g a.dialogue) → Keeps g p arcs (with_dialogues arcs t f)
keeps_dialogues g p [] t f k = keeps_self g p []
keeps_dialogues g p (a ∷ arcs) t f k = go (t a) refl (keeps_dialogues g p arcs t f k)
  where
    go : (b : Bool) → t a ≡ b → Keeps g p arcs (with_dialogues arcs t f) → Keeps g p (a ∷ arcs) ((if b then record a { dialogue = f a } else a) ∷ with_dialogues arcs t f)
    go true i rest = keeps_cons g p a (record a { dialogue = f a }) arcs (with_dialogues arcs t f) refl (λ at live. (live, k a at i)) rest
    go false i rest = keeps_cons g p a a arcs (with_dialogues arcs t f) refl (λ at live. (live, refl)) rest

taken_live : (l : Link) → is_live (with_one_taken l) ≡ true → is_live l ≡ true
taken_live Idle h = h
taken_live (Opening x) h = h
taken_live (Offered x) h = h
taken_live (Live x y s t) h = h

pub keeps_taken : (g : Dialogue → Bool) (p : ℕ) (arcs : List Arc) (q : ℕ) → Keeps g p arcs (with_link arcs q with_one_taken)
keeps_taken g p [] q = keeps_self g p []
keeps_taken g p (a ∷ arcs) q = go (a.peer.node == q) (keeps_taken g p arcs q)
  where
    go : (b : Bool) → Keeps g p arcs (with_link arcs q with_one_taken) → Keeps g p (a ∷ arcs) (if b then record a { link = with_one_taken a.link } ∷ arcs else a ∷ with_link arcs q with_one_taken)
    go true rest = keeps_cons g p a (record a { link = with_one_taken a.link }) arcs arcs refl (λ at live. (taken_live a.link live, refl)) (keeps_self g p arcs)
    go false rest = keeps_cons g p a a arcs (with_link arcs q with_one_taken) refl (λ at live. (live, refl)) rest

pub part_without : (g : Dialogue → Bool) (p : ℕ) (arcs : List Arc) (q : ℕ) → part_at g p (without_arc arcs q) ≡ (if q == p then false else part_at g p arcs)
part_without g p [] q = grind arith
part_without g p (a ∷ arcs) q = grind (arith, nat_tests, part_without g p arcs q)

pub keeps_without : (g : Dialogue → Bool) (p : ℕ) (arcs : List Arc) (q : ℕ) → Keeps g p arcs (without_arc arcs q)
keeps_without g p arcs q live = go (q == p) refl
  where
    go : (b : Bool) → (q == p) ≡ b → (is_live_with_peer arcs p ≡ true) × (part_at g p (without_arc arcs q) ≡ part_at g p arcs)
    go true i = absurd (let off : is_live_with_peer (without_arc arcs q) p ≡ false = live_without arcs q p ∙ rw i refl in cc (live, off))
    go false i = (sym (live_without arcs q p ∙ rw i refl) ∙ live, part_without g p arcs q ∙ rw i refl)

-- ---- outputs

keeps_carried : (g : Dialogue → Bool) (p : ℕ) (arcs : List Arc) (q : ℕ) (r : DialogueRecord) → Keeps g p arcs (carried arcs q r).0
keeps_carried g p [] q r = keeps_self g p []
keeps_carried g p (a ∷ arcs) q r = go (a.peer.node == q) (keeps_carried g p arcs q r)
  where
    on : (l : Link) → a.link ≡ l → Keeps g p (a ∷ arcs) ((carried_on a r).0 ∷ arcs)
    on l i = keeps_cons g p a (carried_on a r).0 arcs arcs (grind arith) (λ at live. (grind (arith, live), grind arith)) (keeps_self g p arcs)

    go : (b : Bool) → Keeps g p arcs (carried arcs q r).0
        → Keeps g p (a ∷ arcs) (if◌then◌else◌ {A = List Arc × List Out} b (let s = carried_on a r in (s.0 ∷ arcs, s.1)) (let s = carried arcs q r in (a ∷ s.0, s.1))).0
    go true rest = on a.link refl
    go false rest = keeps_cons g p a a arcs (carried arcs q r).0 refl (λ at live. (live, refl)) rest

keeps_shut : (g : Dialogue → Bool) (p : ℕ) (arcs : List Arc) (q : ℕ) → Keeps g p arcs (shut_with arcs q).0
keeps_shut g p arcs q = go (find_arc arcs q) refl
  where
    go : (o : Option Arc) → find_arc arcs q ≡ o → Keeps g p arcs (shut_with arcs q).0
    go None i = rw (i, shut_with) (keeps_self g p arcs)
    go (Some a) i = rw (i, shut_with) (keeps_without g p arcs q)

keeps_one : (g : Dialogue → Bool) (p : ℕ) (arcs : List Arc) (o : TxOut) → Keeps g p arcs (performed_one arcs o).0
keeps_one g p arcs (TxOut.Tell i) = keeps_self g p arcs
keeps_one g p arcs (TxOut.Carry q r) = keeps_carried g p arcs q r
keeps_one g p arcs (TxOut.Shut q) = keeps_shut g p arcs q
keeps_one g p arcs (TxOut.Recovery a r) = keeps_self g p arcs
keeps_one g p arcs (TxOut.Close q) = keeps_without g p arcs q

pub keeps_performed : (g : Dialogue → Bool) (p : ℕ) (arcs : List Arc) (outs : List TxOut) → Keeps g p arcs (performed arcs outs).0
keeps_performed g p arcs [] = keeps_self g p arcs
keeps_performed g p arcs (o ∷ outs) =
    let next : List Arc = (performed_one arcs o).0 in
    keeps_then g p arcs next (performed next outs).0 (keeps_one g p arcs o) (keeps_performed g p next outs)

-- ---- what is said to the peer

pub said_more : (g : DialogueRecord → Bool) (xs ys : List DialogueRecord) → has_said g (xs ++ ys) ≡ (has_said g xs || has_said g ys)
said_more g [] ys = refl
said_more g (x ∷ xs) ys = grind (arith, said_more g xs ys)

pub said_both : (g : DialogueRecord → Bool) (p : ℕ) (xs ys : List Out) → has_said g (said_to p (xs ++ ys)) ≡ (has_said g (said_to p xs) || has_said g (said_to p ys))
said_both g p xs ys = ap (has_said g) (said_append p xs ys) ∙ said_more g (said_to p xs) (said_to p ys)

-- no such record is carried, and records with a number go out by Carry alone
abbrev pub carries_not : (DialogueRecord → Bool) → TxOut → Bool
carries_not g (TxOut.Tell i) = true
carries_not g (TxOut.Carry q r) = not (g r)
carries_not g (TxOut.Shut q) = true
carries_not g (TxOut.Recovery a r) = is_apart_record r
carries_not g (TxOut.Close q) = true

abbrev pub carries_none : (DialogueRecord → Bool) → List TxOut → Bool
carries_none g [] = true
carries_none g (o ∷ outs) = carries_not g o && carries_none g outs

pub none_more : (g : DialogueRecord → Bool) (xs ys : List TxOut) → carries_none g (xs ++ ys) ≡ (carries_none g xs && carries_none g ys)
none_more g [] ys = refl
none_more g (x ∷ xs) ys = grind (arith, none_more g xs ys)

pub said_carried : (p : ℕ) (arcs : List Arc) (q : ℕ) (r : DialogueRecord) → said_to p (carried arcs q r).1 ≡ (if (q == p) && is_live_with_peer arcs q then r ∷ [] else [])
said_carried p [] q r = grind arith
said_carried p (a ∷ arcs) q r = go (a.peer.node == q) refl (said_carried p arcs q r)
  where
    on : (l : Link) → a.link ≡ l → a.peer.node ≡ q → said_to p (carried_on a r).1 ≡ (if (q == p) && is_live l then r ∷ [] else [])
    on Idle i at = grind (arith, i)
    on (Opening x) i at = grind (arith, i)
    on (Offered x) i at = grind (arith, i)
    on (Live x y s t) i at = grind (arith, i, at)

    go : (b : Bool) → (a.peer.node == q) ≡ b → said_to p (carried arcs q r).1 ≡ (if (q == p) && is_live_with_peer arcs q then r ∷ [] else [])
        → said_to p (if◌then◌else◌ {A = List Arc × List Out} b (let s = carried_on a r in (s.0 ∷ arcs, s.1)) (let s = carried arcs q r in (a ∷ s.0, s.1))).1 ≡ (if (q == p) && is_live_with_peer (a ∷ arcs) q then r ∷ [] else [])
    go true i rest = let at : a.peer.node ≡ q = grind (arith, nat_tests, i) in rw (i, is_live_with_peer) (on a.link refl at)
    go false i rest = rw (i, is_live_with_peer) rest

said_shut : (g : DialogueRecord → Bool) (p : ℕ) (arcs : List Arc) (q : ℕ) → has_said g (said_to p (shut_with arcs q).1) ≡ false
said_shut g p arcs q = grind arith

said_one : (g : DialogueRecord → Bool) (p : ℕ) (arcs : List Arc) (o : TxOut) → carries_not g o ≡ true → has_said g (said_to p (performed_one arcs o).1) ≡ false
said_one g p arcs (TxOut.Tell i) h = refl
said_one g p arcs (TxOut.Carry q r) h = let off : g r ≡ false = grind (arith, h) in ap (has_said g) (said_carried p arcs q r) ∙ grind (arith, off)
said_one g p arcs (TxOut.Shut q) h = said_shut g p arcs q
said_one g p arcs (TxOut.Recovery a r) h = grind (arith, h)
said_one g p arcs (TxOut.Close q) h = refl

pub said_none : (g : DialogueRecord → Bool) (p : ℕ) (arcs : List Arc) (outs : List TxOut) → carries_none g outs ≡ true → has_said g (said_to p (performed arcs outs).1) ≡ false
said_none g p arcs [] h = refl
said_none g p arcs (o ∷ outs) h =
    let next : List Arc = (performed_one arcs o).0 in
    said_both g p (performed_one arcs o).1 (performed next outs).1
    ∙ rw (said_one g p arcs o (and_left (carries_not g o) (carries_none g outs) h), said_none g p next outs (and_right (carries_not g o) (carries_none g outs) h)) refl

-- ---- a live link was live before

more_live : (n : ℕ) (l : Link) → is_live (sent_more n l) ≡ true → is_live l ≡ true
more_live n Idle h = h
more_live n (Opening x) h = h
more_live n (Offered x) h = h
more_live n (Live x y s t) h = h

pub live_back : (p : ℕ) (d : Digest) (m : Move) → IsLinked p d m → is_live_with_peer m.next.arcs p ≡ true → is_live_with_peer d.arcs p ≡ true
live_back p d m k live = elim k.over.link [
  | inl i ↦ more_live _ (link_with d.arcs p) (ap is_live (sym i) ∙ live)
  | inr i ↦ absurd (let off : is_live (link_with m.next.arcs p) ≡ false = ap is_live i in cc (off, live))
]

-- ---- outputs in two parts

pub parts_none : (g : DialogueRecord → Bool) (s : List TxOut × List TxOut) → carries_none g (s.0 ++ s.1) ≡ true → (carries_none g s.0 && carries_none g s.1) ≡ true
parts_none g s h = sym (none_more g s.0 s.1) ∙ h

-- ---- a property that is given

-- ---- what comes first in an event: a link that becomes live has a fresh dialogue

abbrev pub IsFirst : (Dialogue → Bool) → ℕ → List Arc → List Arc → Type 0
IsFirst g p xs ys =
    is_live_with_peer ys p ≡ true → ((is_live_with_peer xs p ≡ true) × (part_at g p ys ≡ part_at g p xs)) ⊎ ((is_live_with_peer xs p ≡ false) × ((v : ℕ) × (s : Side) × (part_at g p ys ≡ g (fresh_dialogue v s))))

first_kept : (g : Dialogue → Bool) (p : ℕ) (xs ys : List Arc) → Keeps g p xs ys → IsFirst g p xs ys
first_kept g p xs ys k live = inl (k live)

pub keeps_append : (g : Dialogue → Bool) (p : ℕ) (arcs : List Arc) (a : Arc) → is_live a.link ≡ false → Keeps g p arcs (arcs ++ a ∷ [])
keeps_append g p [] a off = λ live. absurd (grind (arith, live, off))
keeps_append g p (b ∷ arcs) a off = go (b.peer.node == p) refl (keeps_append g p arcs a off)
  where
    go : (v : Bool) → (b.peer.node == p) ≡ v → Keeps g p arcs (arcs ++ a ∷ []) → Keeps g p (b ∷ arcs) (b ∷ (arcs ++ a ∷ []))
    go true i rest live = (rw (i, is_live_with_peer) (rw (i, is_live_with_peer) at live), rw (i, part_at) refl)
    go false i rest live = let w = rest (rw (i, is_live_with_peer) at live) in (rw (i, is_live_with_peer) w.0, rw (i, part_at) w.1)

pub keeps_front : (g : Dialogue → Bool) (p : ℕ) (arcs : List Arc) (a : Arc) → is_live a.link ≡ false → Keeps g p arcs (a ∷ arcs)
keeps_front g p arcs a off = go (a.peer.node == p) refl
  where
    go : (v : Bool) → (a.peer.node == p) ≡ v → Keeps g p arcs (a ∷ arcs)
    go true i live = absurd (let on : is_live a.link ≡ true = rw (i, is_live_with_peer) at live in cc (on, off))
    go false i live = let now : is_live_with_peer arcs p ≡ true = rw (i, is_live_with_peer) at live in (now, rw (i, part_at) refl)

pub find_put : (arcs : List Arc) (a b : Arc) (p : ℕ) → find_arc arcs b.peer.node ≡ Some a → find_arc (put_arc arcs b) p ≡ (if b.peer.node == p then Some b else find_arc arcs p)
find_put [] a b p h = absurd cc
find_put (x ∷ arcs) a b p h = grind (arith, nat_tests, h, find_put arcs a b p)

first_put : (g : Dialogue → Bool) (p : ℕ) (arcs : List Arc) (a b : Arc) (u : ℕ) (side : Side) → find_arc arcs b.peer.node ≡ Some a → is_live a.link ≡ false → b.dialogue ≡ fresh_dialogue u side → IsFirst g p arcs (put_arc arcs b)
first_put g p arcs a b u side found off fresh live = go (b.peer.node == p) refl
  where
    is : find_arc (put_arc arcs b) p ≡ (if b.peer.node == p then Some b else find_arc arcs p)
    is = find_put arcs a b p found

    go : (v : Bool) → (b.peer.node == p) ≡ v → ((is_live_with_peer arcs p ≡ true) × (part_at g p (put_arc arcs b) ≡ part_at g p arcs)) ⊎ ((is_live_with_peer arcs p ≡ false) × ((v : ℕ) × (s : Side) × (part_at g p (put_arc arcs b) ≡ g (fresh_dialogue v s))))
    go true i =
        let at : b.peer.node ≡ p = grind (arith, nat_tests, i) in
        let was : find_arc arcs p ≡ Some a = ap (find_arc arcs) (sym at) ∙ found in
        let now : find_arc (put_arc arcs b) p ≡ Some b = is ∙ rw i refl in
        inr (ap (λ (o : Option Arc). is_live (link_of o)) was ∙ off, (u, side, ap (λ (o : Option Arc). elim o as (λ _. Bool) [ None ↦ false | Some x ↦ g x.dialogue ]) now ∙ ap g fresh))
    go false i =
        let same : find_arc (put_arc arcs b) p ≡ find_arc arcs p = is ∙ rw i refl in
        inl (ap (λ (o : Option Arc). is_live (link_of o)) (sym same) ∙ live, ap (λ (o : Option Arc). elim o as (λ _. Bool) [ None ↦ false | Some x ↦ g x.dialogue ]) same)

first_accept : (who : Who) (g : Dialogue → Bool) (p : ℕ) (d : Digest) (u : ℕ) → IsFirst g p d.arcs (accepted_by who u (superior_arc d) d).arcs
first_accept who g p d u = go (superior_arc d) refl
  where
    on : (a : Arc) → superior_arc d ≡ Some a → (l : Link) → a.link ≡ l → IsFirst g p d.arcs (accepted_on who u a l d).arcs
    on a i Idle j = first_kept g p d.arcs d.arcs (keeps_self g p d.arcs)
    on a i (Opening x) j = first_kept g p d.arcs d.arcs (keeps_self g p d.arcs)
    on a i (Live x y v w) j = first_kept g p d.arcs d.arcs (keeps_self g p d.arcs)
    on a i (Offered x) j =
        let s = superior_found d a i in
        let at : a.peer.node ≡ s.0.node = find_arc_is d.arcs s.0.node a s.2 in
        first_put g p d.arcs a (record a { link = Live x (next_mark who d) 0 0; dialogue = fresh_dialogue u Side.Subordinate }) u Side.Subordinate (ap (find_arc d.arcs) at ∙ s.2) (ap is_live j) refl

    go : (o : Option Arc) → superior_arc d ≡ o → IsFirst g p d.arcs (accepted_by who u o d).arcs
    go None i = first_kept g p d.arcs d.arcs (keeps_self g p d.arcs)
    go (Some a) i = on a i a.link refl

first_confirm : (who : Who) (g : Dialogue → Bool) (p : ℕ) (d : Digest) (from : Addr) (x y : Mark) (u : ℕ) → refusal who d (Event.Arrive from (PeerRecord.AcceptAssoc x y u)) ≡ None
    → IsFirst g p d.arcs (linked (find_arc d.arcs from.node) x y u d).arcs
unfolding refusal verdict refused_arrival
first_confirm who g p d from x y u ok = go (find_arc d.arcs from.node) refl
  where
    dead : (a : Arc) (l : Link) → find_arc d.arcs from.node ≡ Some a → a.link ≡ l → is_live a.link ≡ false
    dead a Idle i j = ap is_live j
    dead a (Offered z) i j = ap is_live j
    dead a (Opening z) i j = ap is_live j
    dead a (Live z w v n) i j = absurd (grind (arith, ok, i, j))

    go : (o : Option Arc) → find_arc d.arcs from.node ≡ o → IsFirst g p d.arcs (linked o x y u d).arcs
    go None i = first_kept g p d.arcs d.arcs (keeps_self g p d.arcs)
    go (Some a) i =
        let at : a.peer.node ≡ from.node = find_arc_is d.arcs from.node a i in
        first_put g p d.arcs a (record a { link = Live x y 0 0; dialogue = fresh_dialogue u Side.Superior }) u Side.Superior (ap (find_arc d.arcs) at ∙ i) (dead a a.link i refl) refl

pub first_dialogue : (who : Who) (g : Dialogue → Bool) (p : ℕ) (d : Digest) (e : Event) → refusal who d e ≡ None → IsFirst g p d.arcs (prelude who d e).arcs
unfolding after_crash
first_dialogue who g p d (Event.Do (Request.BeginDialogue a u)) ok = first_kept g p d.arcs (called who a u d).arcs (keeps_append g p d.arcs (record { peer = a; link = Opening (next_mark who d); dialogue = fresh_dialogue u Side.Superior }) refl)
first_dialogue who g p d (Event.Do (Request.Accept u)) ok = first_accept who g p d u
first_dialogue who g p d (Event.Do r) ok = first_kept g p d.arcs d.arcs (keeps_self g p d.arcs)
first_dialogue who g p d (Event.Arrive from (PeerRecord.OpenAssoc x u)) ok = let a : Arc = record { peer = from; link = Offered x; dialogue = fresh_dialogue u Side.Subordinate } in first_kept g p d.arcs (a ∷ d.arcs) (keeps_front g p d.arcs a refl)
first_dialogue who g p d (Event.Arrive from (PeerRecord.AcceptAssoc x y u)) ok = first_confirm who g p d from x y u ok
first_dialogue who g p d (Event.Arrive from (PeerRecord.OnAssoc x y q (DialogueRecord.Begin t b h))) ok =
    subst (λ (arcs : List Arc). IsFirst g p d.arcs arcs) (sym (begun_arcs (find_arc d.arcs from.node) t b (counted_in d from))) (first_kept g p d.arcs (with_link d.arcs from.node with_one_taken) (keeps_taken g p d.arcs from.node))
first_dialogue who g p d (Event.Arrive from (PeerRecord.OnAssoc x y q r)) ok = first_kept g p d.arcs (with_link d.arcs from.node with_one_taken) (keeps_taken g p d.arcs from.node)
first_dialogue who g p d Event.Crash ok = λ live. absurd (cc (live))
first_dialogue who g p d e ok = first_kept g p d.arcs d.arcs (keeps_self g p d.arcs)

-- of what does not hold of a fresh one
pub first_part : (who : Who) (g : Dialogue → Bool) (p : ℕ) (d : Digest) (e : Event) → refusal who d e ≡ None → ((v : ℕ) (s : Side) → g (fresh_dialogue v s) ≡ false) → is_live_with_peer (prelude who d e).arcs p ≡ true
    → ((is_live_with_peer d.arcs p ≡ true) × (part_at g p (prelude who d e).arcs ≡ part_at g p d.arcs)) ⊎ ((is_live_with_peer d.arcs p ≡ false) × (part_at g p (prelude who d e).arcs ≡ false))
first_part who g p d e ok fresh live = elim (first_dialogue who g p d e ok live) [ inl k ↦ inl k | inr k ↦ inr (k.0, k.1.2 ∙ fresh k.1.0 k.1.1) ]

-- ---- of all arcs, which lead to different nodes

pub there_found : (arcs : List Arc) (p : ℕ) (a : Arc) → find_arc arcs p ≡ Some a → is_there p arcs ≡ true
there_found [] p a h = absurd cc
there_found (b ∷ arcs) p a h = go (b.peer.node == p) refl (there_found arcs p a)
  where
    go : (v : Bool) → (b.peer.node == p) ≡ v → (find_arc arcs p ≡ Some a → is_there p arcs ≡ true) → (v || is_there p arcs) ≡ true
    go true i rest = refl
    go false i rest = rest (rw i at h)

pub all_found : (f : Arc → Bool) (arcs : List Arc) → are_separate arcs ≡ true → ((a : Arc) → find_arc arcs a.peer.node ≡ Some a → f a ≡ true) → all_arcs f arcs ≡ true
all_found f [] apart k = refl
all_found f (a ∷ arcs) apart k =
    let one : f a ≡ true = k a (rw (self a.peer.node) refl) in
    let rest : all_arcs f arcs ≡ true = all_found f arcs (grind (arith, apart)) (λ b found. k b (later b found)) in
    rw (one, rest) refl
  where
    self : (n : ℕ) → (n == n) ≡ true
    self n = grind (arith, nat_tests)

    later : (b : Arc) → find_arc arcs b.peer.node ≡ Some b → find_arc (a ∷ arcs) b.peer.node ≡ Some b
    later b found = go (a.peer.node == b.peer.node) refl
      where
        go : (v : Bool) → (a.peer.node == b.peer.node) ≡ v → (if v then Some a else find_arc arcs b.peer.node) ≡ Some b
        go true i =
            let at : b.peer.node ≡ a.peer.node = grind (arith, nat_tests, i) in
            let there : is_there b.peer.node arcs ≡ true = there_found arcs b.peer.node b found in
            let none : is_there a.peer.node arcs ≡ false = grind (arith, apart) in
            absurd (let on : is_there a.peer.node arcs ≡ true = ap (λ (n : ℕ). is_there n arcs) (sym at) ∙ there in cc (on, none))
        go false i = found
