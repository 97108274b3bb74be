-- Ends that are deferred on arcs: but for the two events that defer one, what becomes of a node's arcs defers no end, and
-- leaves an arc live on which one is deferred.
use Rattle.std.proofs.Common.{if◌then◌else◌, ◌≡◌, ℕ, Bool, true, false, refl, ap, sym, ◌∙◌, arith, Option, Some, None, List, [], ◌∷◌, ◌++◌, ◌==◌}
use Rattle.std.proofs.lemmas.Bool.Decides.{nat_tests}
use Rattle.tp_names.specs.declared.outcome.Outcome.{Outcome}
use Rattle.tp_records.specs.declared.dialogue.DialogueRecord.{DialogueRecord}
use Rattle.tp_records.specs.declared.dialogue.Holder.{Holder}
use Rattle.tp_model.specs.declared.arc.Side.{Side}
use Rattle.tp_model.specs.declared.transaction.TxOut.{TxOut}
use Rattle.tp_model.specs.Parts.{Out, Link, Idle, Opening, Offered, Live, Dialogue, Arc, Digest}
use Rattle.tp_model.specs.Links.{is_live, with_one_taken}
use Rattle.tp_model.specs.Dialogues.{is_end_deferred, Asked, Ask_defer_end, Ask_defer_grant, Heard, Hear_defer_end, Hear_defer_grant, said, heard, cleared, begun_by, completed, rested, woken}
use Rattle.tp_model.specs.Arcs.{find_arc, is_live_with_peer, put_arc, without_arc, with_dialogue, with_link, with_dialogues, carried_on, carried, shut_with, performed_one, performed}
use Rattle.tp_model.specs.Transactions.{Transaction, Turn}
use Rattle.tp_model.specs.Node.{is_end_deferred_at, Passage, Enters, Falls, Falls_at_once, Commits, Rolls_back, Leaves, is_arc_of, without_deferral, entered, played, completed_arcs, left_arcs, perform_commit, committed_arcs, committed_dialogue, grants, around_grants}

-- ---- one arc, and all of them

abbrev puts_off : Arc → Bool
puts_off a = is_end_deferred a.dialogue.deferral

record Dims (a b : Arc) : Type 0 where
  peer : b.peer.node ≡ a.peer.node
  ends : puts_off b ≡ true → puts_off a ≡ true
  live : puts_off b ≡ true → is_live a.link ≡ true → is_live b.link ≡ true

pub record FadesAt (p : ℕ) (xs ys : List Arc) : Type 0 where
  pub ends : is_end_deferred_at ys p ≡ true → is_end_deferred_at xs p ≡ true
  pub live : is_end_deferred_at ys p ≡ true → is_live_with_peer xs p ≡ true → is_live_with_peer ys p ≡ true

abbrev pub Fades : List Arc → List Arc → Type 0
Fades xs ys = (p : ℕ) → FadesAt p xs ys

pub fades_self : (xs : List Arc) → Fades xs xs
fades_self xs p = record { ends = λ h. h; live = λ h i. i }

pub fades_then : (xs ys zs : List Arc) → Fades xs ys → Fades ys zs → Fades xs zs
fades_then xs ys zs one two p = record { ends = λ h. (one p).ends ((two p).ends h); live = λ h i. (two p).live h ((one p).live ((two p).ends h) i) }

-- no end is deferred there
fades_none : (p : ℕ) (xs ys : List Arc) → is_end_deferred_at ys p ≡ false → FadesAt p xs ys
fades_none p xs ys off = record { ends = λ h. absurd (cc (h, off)); live = λ h. absurd (cc (h, off)) }

fades_cons : (a b : Arc) (xs ys : List Arc) → Dims a b → Fades xs ys → Fades (a ∷ xs) (b ∷ ys)
fades_cons a b xs ys dims rest p = go (a.peer.node == p) refl
  where
    go : (v : Bool) → (a.peer.node == p) ≡ v → FadesAt p (a ∷ xs) (b ∷ ys)
    go true i =
        let j : (b.peer.node == p) ≡ true = ap (λ (n : ℕ). n == p) dims.peer ∙ i in
        record {
          ends = λ h. let off : puts_off b ≡ true = rw (j, is_end_deferred_at) at h in rw (i, is_end_deferred_at) (dims.ends off);
          live = λ h up. let off : puts_off b ≡ true = rw (j, is_end_deferred_at) at h in let was : is_live a.link ≡ true = rw (i, is_live_with_peer) at up in rw (j, is_live_with_peer) (dims.live off was);
        }
    go false i =
        let j : (b.peer.node == p) ≡ false = ap (λ (n : ℕ). n == p) dims.peer ∙ i in
        let k : FadesAt p xs ys = rest p in
        record {
          ends = λ h. let off : is_end_deferred_at ys p ≡ true = rw (j, is_end_deferred_at) at h in rw (i, is_end_deferred_at) (k.ends off);
          live = λ h up. let off : is_end_deferred_at ys p ≡ true = rw (j, is_end_deferred_at) at h in let was : is_live_with_peer xs p ≡ true = rw (i, is_live_with_peer) at up in rw (j, is_live_with_peer) (k.live off was);
        }

dims_self : (a : Arc) → Dims a a
dims_self a = record { peer = refl; ends = λ h. h; live = λ h i. i }

-- ---- changes of one dialogue

abbrev pub Keeps : (Dialogue → Dialogue) → Type 0
Keeps f = (x : Dialogue) → is_end_deferred (f x).deferral ≡ true → is_end_deferred x.deferral ≡ true

dims_dialogue : (a : Arc) (x : Dialogue) → (is_end_deferred x.deferral ≡ true → puts_off a ≡ true) → Dims a (record a { dialogue = x })
dims_dialogue a x k = record { peer = refl; ends = k; live = λ h i. i }

pub fades_dialogue : (arcs : List Arc) (q : ℕ) (f : Dialogue → Dialogue) → Keeps f → Fades arcs (with_dialogue arcs q f)
fades_dialogue [] q f k = fades_self []
fades_dialogue (a ∷ arcs) q f k = go (a.peer.node == q) (fades_dialogue arcs q f k)
  where
    go : (b : Bool) → Fades arcs (with_dialogue arcs q f) → Fades (a ∷ arcs) (if b then record a { dialogue = f a.dialogue } ∷ arcs else a ∷ with_dialogue arcs q f)
    go true rest = fades_cons a (record a { dialogue = f a.dialogue }) arcs arcs (dims_dialogue a (f a.dialogue) (k a.dialogue)) (fades_self arcs)
    go false rest = fades_cons a a arcs (with_dialogue arcs q f) (dims_self a) rest

fades_dialogues : (arcs : List Arc) (t : Arc → Bool) (f : Arc → Dialogue) → ((a : Arc) → is_end_deferred (f a).deferral ≡ true → puts_off a ≡ true) → Fades arcs (with_dialogues arcs t f)
fades_dialogues [] t f k = fades_self []
fades_dialogues (a ∷ arcs) t f k = go (t a) (fades_dialogues arcs t f k)
  where
    go : (b : Bool) → Fades arcs (with_dialogues arcs t f) → Fades (a ∷ arcs) ((if b then record a { dialogue = f a } else a) ∷ with_dialogues arcs t f)
    go true rest = fades_cons a (record a { dialogue = f a }) arcs (with_dialogues arcs t f) (dims_dialogue a (f a) (k a)) rest
    go false rest = fades_cons a a arcs (with_dialogues arcs t f) (dims_self a) rest

abbrev pub is_putting_off : Asked → Bool
is_putting_off Ask_defer_end = true
is_putting_off _ = false

pub keeps_said : (x : Asked) → is_putting_off x ≡ false → Keeps (said x)
unfolding said
keeps_said Ask_defer_end i x h = absurd (cc (i))
keeps_said Ask_defer_grant i x h = absurd (cc (h))
keeps_said _ i x h = h

abbrev pub is_put_off_by : Heard → Bool
is_put_off_by Hear_defer_end = true
is_put_off_by _ = false

pub keeps_heard : (x : Heard) → is_put_off_by x ≡ false → Keeps (heard x)
unfolding heard
keeps_heard Hear_defer_end i x h = absurd (cc (i))
keeps_heard Hear_defer_grant i x h = absurd (cc (h))
keeps_heard _ i x h = h

pub keeps_cleared : Keeps cleared
unfolding cleared
keeps_cleared x h = h

pub keeps_woken : Keeps woken
unfolding woken
keeps_woken x h = h

pub keeps_begun : (h : Holder) (s : Side) → Keeps (begun_by h s)
unfolding begun_by
keeps_begun h s x i = absurd (cc (i))

keeps_rested : Keeps rested
unfolding rested cleared
keeps_rested x h = h

keeps_completed : (o : Outcome) (s : Side) → Keeps (completed o s)
unfolding completed
keeps_completed o s x h = grind (arith, h)

-- ---- links, and arcs that come and go

pub fades_taken : (arcs : List Arc) (q : ℕ) → Fades arcs (with_link arcs q with_one_taken)
fades_taken [] q = fades_self []
fades_taken (a ∷ arcs) q = go (a.peer.node == q) (fades_taken arcs q)
  where
    still : (l : Link) → is_live l ≡ true → is_live (with_one_taken l) ≡ true
    still Idle h = h
    still (Opening x) h = h
    still (Offered x) h = h
    still (Live x y s t) h = h

    go : (b : Bool) → Fades arcs (with_link arcs q with_one_taken) → Fades (a ∷ arcs) (if b then record a { link = with_one_taken a.link } ∷ arcs else a ∷ with_link arcs q with_one_taken)
    go true rest = fades_cons a (record a { link = with_one_taken a.link }) arcs arcs (record { peer = refl; ends = λ h. h; live = λ h i. still a.link i }) (fades_self arcs)
    go false rest = fades_cons a a arcs (with_link arcs q with_one_taken) (dims_self a) rest

-- an arc on which nothing is deferred takes the place of another
pub fades_put : (arcs : List Arc) (b : Arc) → is_end_deferred b.dialogue.deferral ≡ false → Fades arcs (put_arc arcs b)
fades_put [] b off = fades_self []
fades_put (a ∷ arcs) b off = go (a.peer.node == b.peer.node) refl (fades_put arcs b off)
  where
    go : (c : Bool) → (a.peer.node == b.peer.node) ≡ c → Fades arcs (put_arc arcs b) → Fades (a ∷ arcs) (if c then b ∷ arcs else a ∷ put_arc arcs b)
    go true i rest = let same : b.peer.node ≡ a.peer.node = grind (arith, nat_tests, i) in fades_cons a b arcs arcs (record { peer = same; ends = λ h. absurd (cc (h, off)); live = λ h. absurd (cc (h, off)) }) (fades_self arcs)
    go false i rest = fades_cons a a arcs (put_arc arcs b) (dims_self a) rest

-- it comes first, or last
pub fades_front : (arcs : List Arc) (b : Arc) → is_end_deferred b.dialogue.deferral ≡ false → Fades arcs (b ∷ arcs)
fades_front arcs b off p = go (b.peer.node == p) refl
  where
    go : (c : Bool) → (b.peer.node == p) ≡ c → FadesAt p arcs (b ∷ arcs)
    go true i = fades_none p arcs (b ∷ arcs) (rw (i, is_end_deferred_at) off)
    go false i = record { ends = λ h. rw (i, is_end_deferred_at) at h; live = λ h up. rw (i, is_live_with_peer) up }

pub fades_back : (arcs : List Arc) (b : Arc) → is_end_deferred b.dialogue.deferral ≡ false → Fades arcs (arcs ++ b ∷ [])
fades_back [] b off = fades_front [] b off
fades_back (a ∷ arcs) b off = fades_cons a a arcs (arcs ++ b ∷ []) (dims_self a) (fades_back arcs b off)

pub ends_without : (arcs : List Arc) (q p : ℕ) → is_end_deferred_at (without_arc arcs q) p ≡ (if q == p then false else is_end_deferred_at arcs p)
ends_without [] q p = grind arith
ends_without (a ∷ arcs) q p = grind (arith, nat_tests, ends_without arcs q p)

pub live_without : (arcs : List Arc) (q p : ℕ) → is_live_with_peer (without_arc arcs q) p ≡ (if q == p then false else is_live_with_peer arcs p)
live_without [] q p = grind arith
live_without (a ∷ arcs) q p = grind (arith, nat_tests, live_without arcs q p)

pub fades_without : (arcs : List Arc) (q : ℕ) → Fades arcs (without_arc arcs q)
fades_without arcs q p = go (q == p) refl
  where
    go : (b : Bool) → (q == p) ≡ b → FadesAt p arcs (without_arc arcs q)
    go true i = fades_none p arcs (without_arc arcs q) (ends_without arcs q p ∙ rw i refl)
    go false i =
        let ends : is_end_deferred_at (without_arc arcs q) p ≡ is_end_deferred_at arcs p = ends_without arcs q p ∙ rw i refl in
        let live : is_live_with_peer (without_arc arcs q) p ≡ is_live_with_peer arcs p = live_without arcs q p ∙ rw i refl in
        record { ends = λ h. sym ends ∙ h; live = λ h up. live ∙ up }

-- ---- outputs

dims_carried : (a : Arc) (r : DialogueRecord) → Dims a (carried_on a r).0
dims_carried a r = record { peer = grind arith; ends = λ h. grind (arith, h); live = λ h up. grind (arith, up) }

fades_carried : (arcs : List Arc) (q : ℕ) (r : DialogueRecord) → Fades arcs (carried arcs q r).0
fades_carried [] q r = fades_self []
fades_carried (a ∷ arcs) q r = go (a.peer.node == q) (fades_carried arcs q r)
  where
    go : (b : Bool) → Fades arcs (carried arcs q r).0
        → Fades (a ∷ arcs) (if◌then◌else◌ {A = List Arc × List Out} b (let s = carried_on a r in (s.0 ∷ arcs, s.1)) (let s = carried arcs q r in (a ∷ s.0, s.1))).0
    go true rest = fades_cons a (carried_on a r).0 arcs arcs (dims_carried a r) (fades_self arcs)
    go false rest = fades_cons a a arcs (carried arcs q r).0 (dims_self a) rest

fades_shut : (arcs : List Arc) (q : ℕ) → Fades arcs (shut_with arcs q).0
fades_shut arcs q = go (find_arc arcs q) refl
  where
    go : (o : Option Arc) → find_arc arcs q ≡ o → Fades arcs (shut_with arcs q).0
    go None i = rw (i, shut_with) (fades_self arcs)
    go (Some a) i = rw (i, shut_with) (fades_without arcs q)

fades_one : (arcs : List Arc) (o : TxOut) → Fades arcs (performed_one arcs o).0
fades_one arcs (TxOut.Carry q r) = fades_carried arcs q r
fades_one arcs (TxOut.Shut q) = fades_shut arcs q
fades_one arcs (TxOut.Close q) = fades_without arcs q
fades_one arcs _ = fades_self arcs

pub fades_performed : (arcs : List Arc) (outs : List TxOut) → Fades arcs (performed arcs outs).0
fades_performed arcs [] = fades_self arcs
fades_performed arcs (o ∷ outs) =
    let next : List Arc = (performed_one arcs o).0 in
    fades_then arcs next (performed next outs).0 (fades_one arcs o) (fades_performed next outs)

-- ---- passages of a transaction

pub fades_entered : (t : Transaction) (w : Passage) (arcs : List Arc) → Fades arcs (entered t w arcs)
unfolding entered
fades_entered t Enters arcs = fades_dialogues arcs (is_arc_of t) (λ a. cleared a.dialogue) (λ a h. keeps_cleared a.dialogue h)
fades_entered t Falls arcs = fades_dialogues arcs (is_arc_of t) (λ a. without_deferral (cleared a.dialogue)) (λ a h. absurd (cc (h)))
fades_entered t Falls_at_once arcs = fades_dialogues arcs (is_arc_of t) (λ a. without_deferral (cleared a.dialogue)) (λ a h. absurd (cc (h)))
fades_entered t _ arcs = fades_self arcs

committed_keeps : (d : Digest) (t : Transaction) (a : Arc) → is_end_deferred (committed_dialogue d t a).deferral ≡ true → puts_off a ≡ true
unfolding said completed
committed_keeps d t a h = grind (arith, h)

fades_commit : (d : Digest) (t : Transaction) (s : List TxOut × List TxOut) (arcs : List Arc) → Fades arcs (perform_commit d t s arcs).0
fades_commit d t s arcs =
    let one : List Arc = (performed arcs s.0).0 in
    let mid : List Arc = committed_arcs d t one in
    let two : List Arc = (performed mid (grants t one)).0 in
    let first : Fades arcs one = fades_performed arcs s.0 in
    let second : Fades one mid = fades_dialogues one (is_arc_of t) (committed_dialogue d t) (committed_keeps d t) in
    let third : Fades mid two = fades_performed mid (grants t one) in
    fades_then arcs one (performed two s.1).0 first (fades_then one mid (performed two s.1).0 second (fades_then mid two (performed two s.1).0 third (fades_performed two s.1)))

fades_completed : (d : Digest) (t : Transaction) (o : Outcome) (arcs : List Arc) → Fades arcs (completed_arcs d t o arcs)
fades_completed d t o arcs = fades_dialogues arcs (is_arc_of t) _ (λ a h. keeps_completed o _ a.dialogue h)

fades_left : (t : Transaction) (arcs : List Arc) → Fades arcs (left_arcs t arcs)
fades_left t arcs = fades_then arcs _ (left_arcs t arcs) (fades_dialogues arcs _ _ (λ a h. keeps_completed Outcome.Rollback Side.Superior a.dialogue h)) (fades_dialogues _ _ _ (λ a h. keeps_rested a.dialogue h))

pub fades_played : (d : Digest) (t : Transaction) (w : Passage) (a : Turn) (arcs : List Arc) → Fades arcs (played d t w a arcs).0
unfolding played
fades_played d t Falls_at_once a arcs = let s = performed arcs a.outs in fades_then arcs s.0 (completed_arcs d t Outcome.Rollback s.0) (fades_performed arcs a.outs) (fades_completed d t Outcome.Rollback s.0)
fades_played d t Commits a arcs = fades_commit d t (around_grants a) arcs
fades_played d t Rolls_back a arcs = let s = performed arcs a.outs in fades_then arcs s.0 (completed_arcs d t Outcome.Rollback s.0) (fades_performed arcs a.outs) (fades_completed d t Outcome.Rollback s.0)
fades_played d t Leaves a arcs = let s = performed arcs a.outs in fades_then arcs s.0 (left_arcs t s.0) (fades_performed arcs a.outs) (fades_left t s.0)
fades_played d t _ a arcs = fades_performed arcs a.outs

-- a rollback defers nothing on its arcs
pub forgets_all : (t : Transaction) (arcs : List Arc) (p : ℕ) → ((a : Arc) → a.peer.node ≡ p → is_arc_of t a ≡ true) → is_end_deferred_at (entered t Falls arcs) p ≡ false
unfolding entered
forgets_all t [] p all = refl
forgets_all t (a ∷ arcs) p all = go (a.peer.node == p) refl (is_arc_of t a) refl (forgets_all t arcs p all)
  where
    f : Arc → Dialogue
    f b = without_deferral (cleared b.dialogue)

    go : (v : Bool) → (a.peer.node == p) ≡ v → (w : Bool) → is_arc_of t a ≡ w → is_end_deferred_at (with_dialogues arcs (is_arc_of t) f) p ≡ false
        → is_end_deferred_at ((if w then record a { dialogue = f a } else a) ∷ with_dialogues arcs (is_arc_of t) f) p ≡ false
    go true i true j rest = rw (i, is_end_deferred_at) refl
    go true i false j rest = let at : a.peer.node ≡ p = grind (arith, nat_tests, i) in absurd (cc (all a at, j))
    go false i true j rest = rw (i, is_end_deferred_at) rest
    go false i false j rest = rw (i, is_end_deferred_at) rest
