-- The numbers of the frames that wait: the first of them is the oldest, a frame that is sent waits last, the oldest that is
-- handed over leaves them, and all of them are above those in front.
use Rattle.std.proofs.Common.{◌≡◌, ◌≤◌, ◌<◌, ◌+◌, ◌++◌, ◌&&◌, not, ℕ, zero, suc, Bool, true, false, refl, ap, sym, subst, ◌∙◌, arith, Option, Some, None, List, [], ◌∷◌, length, length-append, map, drop}
use Rattle.std.specs.Prelude.{cond, nat_lt}
use Rattle.std.proofs.lemmas.Bool.Decides.{nat_tests}
use Rattle.std.proofs.lemmas.List.{length-map}
use Rattle.tp_model.specs.World.{Frame, mark_handed, oldest_from}
use Rattle.tp_network.specs.Frames.{AreNumbered, frame_of, handed_over, is_between, leading}
use Rattle.tp_network.specs.Waiting.{above, first_of, is_pair, queue_at, waiting_from}
use Rattle.tp_network.specs.declared.frames.Frame.{Frame as Sent}
use Rattle.tp_network.specs.declared.frames.Frames.TheInside.{Inside}
use Rattle.tp_network.proofs.Oldest.{leading_behind}

-- ---- the oldest

pub first_waiting : (k : ℕ) (test : Frame → Bool) (fs : List Frame) → first_of (waiting_from k test fs) ≡ oldest_from k test fs
first_waiting k test [] = refl
first_waiting k test (f ∷ fs) = go (not f.handed && test f) refl (first_waiting (suc k) test fs)
  where
    go : (b : Bool) → (not f.handed && test f) ≡ b → first_of (waiting_from (suc k) test fs) ≡ oldest_from (suc k) test fs → first_of (waiting_from k test (f ∷ fs)) ≡ oldest_from k test (f ∷ fs)
    go true e more = grind (arith, e)
    go false e more = grind (arith, e, more)

pub oldest_past : (k : ℕ) (test : Frame → Bool) (fs : List Frame) (n : ℕ) → oldest_from k test fs ≡ Some n → (k < n) × (n ≤ k + length fs)
oldest_past k test [] n h = absurd cc
oldest_past k test (f ∷ fs) n h = go (not f.handed && test f) refl (oldest_past (suc k) test fs n)
  where
    go : (b : Bool) → (not f.handed && test f) ≡ b → (oldest_from (suc k) test fs ≡ Some n → (suc k < n) × (n ≤ suc k + length fs)) → (k < n) × (n ≤ k + length (f ∷ fs))
    go true e more = let one : Some (suc k) ≡ Some n = grind (arith, e, h) in let is : suc k ≡ n = cc in (omega (arith, is), omega (arith, is))
    go false e more = let rest = more (grind (arith, e, h)) in (omega (arith, rest.0), omega (arith, rest.1))

-- ---- a frame that is sent

pub waiting_behind : (k : ℕ) (test : Frame → Bool) (fs : List Frame) (f : Frame) → f.handed ≡ false
    → waiting_from k test (fs ++ f ∷ []) ≡ cond (test f) (waiting_from k test fs ++ suc (k + length fs) ∷ []) (waiting_from k test fs)
waiting_behind k test [] f new = go (test f) refl
  where
    go : (b : Bool) → test f ≡ b → waiting_from k test (f ∷ []) ≡ cond b (suc (k + 0) ∷ []) []
    go true e = let far : k + 0 ≡ k = omega arith in grind (arith, e, new, far)
    go false e = grind (arith, e, new)
waiting_behind k test (x ∷ fs) f new = go (not x.handed && test x) refl (test f) refl (waiting_behind (suc k) test fs f new)
  where
    far : suc k + length fs ≡ k + length (x ∷ fs)
    far = omega arith

    go : (b : Bool) → (not x.handed && test x) ≡ b → (c : Bool) → test f ≡ c → waiting_from (suc k) test (fs ++ f ∷ []) ≡ cond (test f) (waiting_from (suc k) test fs ++ suc (suc k + length fs) ∷ []) (waiting_from (suc k) test fs)
        → waiting_from k test (x ∷ fs ++ f ∷ []) ≡ cond (test f) (waiting_from k test (x ∷ fs) ++ suc (k + length (x ∷ fs)) ∷ []) (waiting_from k test (x ∷ fs))
    go true e true i more = grind (arith, e, i, far, more)
    go true e false i more = grind (arith, e, i, far, more)
    go false e true i more = grind (arith, e, i, far, more)
    go false e false i more = grind (arith, e, i, far, more)

-- ---- the oldest is handed over

-- it waits no longer
marked_waits : (k : ℕ) (test : Frame → Bool) (fs : List Frame) (i : ℕ) → oldest_from k test fs ≡ Some (suc (k + i)) → waiting_from k test (mark_handed fs (suc i)) ≡ drop 1 (waiting_from k test fs)
marked_waits k test [] i h = absurd cc
marked_waits k test (f ∷ fs) zero h = go (not f.handed && test f) refl (oldest_past (suc k) test fs (suc (k + 0)))
  where
    go : (b : Bool) → (not f.handed && test f) ≡ b → (oldest_from (suc k) test fs ≡ Some (suc (k + 0)) → (suc k < suc (k + 0)) × (suc (k + 0) ≤ suc k + length fs))
        → waiting_from (suc k) test fs ≡ drop 1 (waiting_from k test (f ∷ fs))
    go true e past = grind (arith, e)
    go false e past = absurd (let p = past (grind (arith, e, h)) in omega (arith, p.0))
marked_waits k test (f ∷ fs) (suc i) h = go (not f.handed && test f) refl (marked_waits (suc k) test fs i)
  where
    far : suc (k + suc i) ≡ suc (suc k + i)
    far = omega arith

    go : (b : Bool) → (not f.handed && test f) ≡ b → (oldest_from (suc k) test fs ≡ Some (suc (suc k + i)) → waiting_from (suc k) test (mark_handed fs (suc i)) ≡ drop 1 (waiting_from (suc k) test fs))
        → waiting_from k test (f ∷ mark_handed fs (suc i)) ≡ drop 1 (waiting_from k test (f ∷ fs))
    go true e more = absurd (let one : Some (suc k) ≡ Some (suc (k + suc i)) = grind (arith, e, h) in let is : suc k ≡ suc (k + suc i) = cc in omega (arith, is))
    go false e more = let rest = more (grind (arith, e, h, far)) in grind (arith, e, rest)

-- those of another test wait as before
marked_apart : (k : ℕ) (test other : Frame → Bool) (fs : List Frame) (i : ℕ) → ((f : Frame) → test f ≡ true → other f ≡ false) → oldest_from k test fs ≡ Some (suc (k + i)) → waiting_from k other (mark_handed fs (suc i)) ≡ waiting_from k other fs
marked_apart k test other [] i apart h = refl
marked_apart k test other (f ∷ fs) zero apart h = go f.handed refl (test f) refl (oldest_past (suc k) test fs (suc (k + 0)))
  where
    go : (b : Bool) → f.handed ≡ b → (c : Bool) → test f ≡ c → (oldest_from (suc k) test fs ≡ Some (suc (k + 0)) → (suc k < suc (k + 0)) × (suc (k + 0) ≤ suc k + length fs))
        → waiting_from (suc k) other fs ≡ waiting_from k other (f ∷ fs)
    go true e c i past = grind (arith, e)
    go false e true i past = let none = apart f i in grind (arith, e, none)
    go false e false i past = absurd (let p = past (grind (arith, e, i, h)) in omega (arith, p.0))
marked_apart k test other (f ∷ fs) (suc i) apart h = go (not f.handed && test f) refl (not f.handed && other f) refl (marked_apart (suc k) test other fs i apart)
  where
    far : suc (k + suc i) ≡ suc (suc k + i)
    far = omega arith

    go : (b : Bool) → (not f.handed && test f) ≡ b → (c : Bool) → (not f.handed && other f) ≡ c → (oldest_from (suc k) test fs ≡ Some (suc (suc k + i)) → waiting_from (suc k) other (mark_handed fs (suc i)) ≡ waiting_from (suc k) other fs)
        → waiting_from k other (f ∷ mark_handed fs (suc i)) ≡ waiting_from k other (f ∷ fs)
    go true e c x more = absurd (let one : Some (suc k) ≡ Some (suc (k + suc i)) = grind (arith, e, h) in let is : suc k ≡ suc (k + suc i) = cc in omega (arith, is))
    go false e true x more = let rest = more (grind (arith, e, h, far)) in grind (arith, x, rest)
    go false e false x more = let rest = more (grind (arith, e, h, far)) in grind (arith, x, rest)

-- ---- those above a number

above_above : (m n : ℕ) (ns : List ℕ) → m ≤ n → above n (above m ns) ≡ above n ns
above_above m n [] h = refl
above_above m n (x ∷ ns) h = go (nat_lt m x) refl (nat_lt n x) refl (above_above m n ns h)
  where
    go : (b : Bool) → nat_lt m x ≡ b → (c : Bool) → nat_lt n x ≡ c → above n (above m ns) ≡ above n ns → above n (above m (x ∷ ns)) ≡ above n (x ∷ ns)
    go true e true i more = grind (arith, e, i, more)
    go true e false i more = grind (arith, e, i, more)
    go false e true i more = absurd (let far : x ≤ m = grind (arith, nat_tests, e) in let near : n < x = grind (arith, nat_tests, i) in omega (arith, far, near, h))
    go false e false i more = grind (arith, e, i, more)

-- all that wait are above a number that is not above those in front
waits_above : (k m : ℕ) (test : Frame → Bool) (fs : List Sent) → m ≤ k + leading fs → above m (waiting_from k test (map frame_of fs)) ≡ waiting_from k test (map frame_of fs)
waits_above k m test [] h = refl
waits_above k m test (f ∷ fs) h = go f.handed refl (test (frame_of f)) refl (waits_above (suc k) m test fs)
  where
    go : (b : Bool) → f.handed ≡ b → (c : Bool) → test (frame_of f) ≡ c → (m ≤ suc k + leading fs → above m (waiting_from (suc k) test (map frame_of fs)) ≡ waiting_from (suc k) test (map frame_of fs))
        → above m (waiting_from k test (map frame_of (f ∷ fs))) ≡ waiting_from k test (map frame_of (f ∷ fs))
    go true e c i more =
        let one_more : leading (f ∷ fs) ≡ suc (leading fs) = grind (arith, e) in
        let rest = more (omega (arith, one_more, h)) in
        grind (arith, e, rest)
    go false e true i more =
        let none : leading (f ∷ fs) ≡ 0 = grind (arith, e) in
        let rest = more (omega (arith, none, h)) in
        let over : nat_lt m (suc k) ≡ true = grind (arith, nat_tests, none, h) in
        grind (arith, e, i, rest, over)
    go false e false i more =
        let none : leading (f ∷ fs) ≡ 0 = grind (arith, e) in
        let rest = more (omega (arith, none, h)) in
        grind (arith, e, i, rest)

-- those above a number do not see that a frame of a lower one is handed over
marked_below : (k m : ℕ) (test : Frame → Bool) (fs : List Frame) (i : ℕ) → k + i < m → above m (waiting_from k test (mark_handed fs (suc i))) ≡ above m (waiting_from k test fs)
marked_below k m test [] i h = refl
marked_below k m test (f ∷ fs) zero h = go f.handed refl (test f) refl
  where
    under : nat_lt m (suc k) ≡ false
    under = grind (arith, nat_tests, h)

    go : (b : Bool) → f.handed ≡ b → (c : Bool) → test f ≡ c → above m (waiting_from (suc k) test fs) ≡ above m (waiting_from k test (f ∷ fs))
    go true e c i = grind (arith, e)
    go false e true i = grind (arith, e, i, under)
    go false e false i = grind (arith, e, i)
marked_below k m test (f ∷ fs) (suc i) h = go (not f.handed && test f) refl (marked_below (suc k) m test fs i (omega (arith, h)))
  where
    go : (b : Bool) → (not f.handed && test f) ≡ b → above m (waiting_from (suc k) test (mark_handed fs (suc i))) ≡ above m (waiting_from (suc k) test fs)
        → above m (waiting_from k test (f ∷ mark_handed fs (suc i))) ≡ above m (waiting_from k test (f ∷ fs))
    go true e more = grind (arith, e, more)
    go false e more = grind (arith, e, more)

-- ---- between two nodes

none_left : (ns : List ℕ) → first_of ns ≡ None → drop 1 ns ≡ ns
none_left [] h = refl
none_left (n ∷ ns) h = absurd cc

-- two pairs of nodes have no frame in common
apart_between : (from to a b : ℕ) → is_pair (from, to) (a, b) ≡ false → (f : Frame) → is_between from to f ≡ true → is_between a b f ≡ false
apart_between from to a b e f h = grind (arith, nat_tests, e, h)

same_from : (from to a b : ℕ) → is_pair (from, to) (a, b) ≡ true → (from ≡ a) × (to ≡ b)
same_from from to a b e = (grind (arith, nat_tests, e), grind (arith, nat_tests, e))

handed_waits : (a b from to : ℕ) (fs : List Frame) (i : ℕ) → oldest_from 0 (is_between from to) fs ≡ Some (suc (0 + i))
    → cond (is_pair (from, to) (a, b)) (drop 1 (waiting_from 0 (is_between a b) fs)) (waiting_from 0 (is_between a b) fs) ≡ waiting_from 0 (is_between a b) (mark_handed fs (suc i))
handed_waits a b from to fs i h = go (is_pair (from, to) (a, b)) refl
  where
    go : (c : Bool) → is_pair (from, to) (a, b) ≡ c → cond c (drop 1 (waiting_from 0 (is_between a b) fs)) (waiting_from 0 (is_between a b) fs) ≡ waiting_from 0 (is_between a b) (mark_handed fs (suc i))
    go true e = let same = same_from from to a b e in let at : oldest_from 0 (is_between a b) fs ≡ Some (suc (0 + i)) = rw (← same.0, ← same.1) h in sym (marked_waits 0 (is_between a b) fs i at)
    go false e = sym (marked_apart 0 (is_between from to) (is_between a b) fs i (apart_between from to a b e) h)

pub hands_between : (a b from to : ℕ) (fs : List Frame) (o : Option ℕ) → oldest_from 0 (is_between from to) fs ≡ o
    → cond (is_pair (from, to) (a, b)) (drop 1 (waiting_from 0 (is_between a b) fs)) (waiting_from 0 (is_between a b) fs) ≡ waiting_from 0 (is_between a b) (handed_over fs o)
hands_between a b from to fs None h = go (is_pair (from, to) (a, b)) refl
  where
    go : (c : Bool) → is_pair (from, to) (a, b) ≡ c → cond c (drop 1 (waiting_from 0 (is_between a b) fs)) (waiting_from 0 (is_between a b) fs) ≡ waiting_from 0 (is_between a b) fs
    go true e = let same = same_from from to a b e in none_left (waiting_from 0 (is_between a b) fs) (first_waiting 0 (is_between a b) fs ∙ rw (← same.0, ← same.1) h)
    go false e = refl
hands_between a b from to fs (Some zero) h = absurd (let p = oldest_past 0 (is_between from to) fs 0 h in omega (arith, p.0))
hands_between a b from to fs (Some (suc i)) h = let far : suc i ≡ suc (0 + i) = omega arith in handed_waits a b from to fs i (h ∙ ap Some far)

-- ---- the frames of the code

abbrev values : Inside → List Frame
values v = map frame_of v.items.items

pub first_between : (v : Inside) → AreNumbered v → (a b : ℕ) → first_of (above v.first (queue_at v.waiting a b)) ≡ oldest_from 0 (is_between a b) (map frame_of v.items.items)
first_between v h a b = ap first_of (h.waiting a b) ∙ first_waiting 0 (is_between a b) (values v)

-- as they were
pub numbered_same : (old new : Inside) → AreNumbered old → new.items.items ≡ old.items.items → new.first ≡ old.first → ((a b : ℕ) → above old.first (queue_at new.waiting a b) ≡ above old.first (queue_at old.waiting a b)) → AreNumbered new
numbered_same old new h items first waiting = record {
  first = first ∙ h.first ∙ ap leading (sym items);
  most = subst (λ (fs : List Sent). length fs ≤ 65535) (sym items) h.most;
  waiting = λ a b. ap (λ (m : ℕ). above m (queue_at new.waiting a b)) first ∙ waiting a b ∙ h.waiting a b ∙ ap (λ (fs : List Sent). waiting_from 0 (is_between a b) (map frame_of fs)) (sym items);
}

map_behind : (fs : List Sent) (f : Sent) → map frame_of (fs ++ f ∷ []) ≡ map frame_of fs ++ frame_of f ∷ []
map_behind [] f = refl
map_behind (x ∷ fs) f = ap (λ l. frame_of x ∷ l) (map_behind fs f)

-- one more is sent
pub numbered_more : (old new : Inside) (f : Sent) (n : ℕ) → AreNumbered old → f.handed ≡ false → n ≡ length (map frame_of old.items.items) + 1 → n ≤ 65535 → new.items.items ≡ old.items.items ++ f ∷ [] → new.first ≡ old.first
    → ((a b : ℕ) → above old.first (queue_at new.waiting a b) ≡ cond (is_pair (f.from.node, f.to.node) (a, b)) (above old.first (queue_at old.waiting a b) ++ n ∷ []) (above old.first (queue_at old.waiting a b))) → AreNumbered new
numbered_more old new f n h fresh number most items first at = record {
  first = first ∙ h.first ∙ sym (leading_behind old.items.items f fresh) ∙ ap leading (sym items);
  most = subst (λ (fs : List Sent). length fs ≤ 65535) (sym items) (let more : length (old.items.items ++ f ∷ []) ≡ length old.items.items + 1 = length-append old.items.items (f ∷ []) in let same : length (map frame_of old.items.items) ≡ length old.items.items = length-map old.items.items frame_of in omega (arith, more, same, number, most));
  waiting = λ a b.
      let fs = values old in
      let w = waiting_from 0 (is_between a b) fs in
      ap (λ (m : ℕ). above m (queue_at new.waiting a b)) first
      ∙ at a b
      ∙ ap (λ (ns : List ℕ). cond (is_pair (f.from.node, f.to.node) (a, b)) (ns ++ n ∷ []) ns) (h.waiting a b)
      ∙ ap (λ (m : ℕ). cond (is_pair (f.from.node, f.to.node) (a, b)) (w ++ m ∷ []) w) (omega (arith, number))
      ∙ sym (waiting_behind 0 (is_between a b) fs (frame_of f) fresh)
      ∙ ap (λ (l : List Frame). waiting_from 0 (is_between a b) l) (sym (map_behind old.items.items f))
      ∙ ap (λ (l : List Sent). waiting_from 0 (is_between a b) (map frame_of l)) (sym items);
}

-- the oldest between two nodes is handed over
pub numbered_handed : (old new : Inside) (from to : ℕ) (o : Option ℕ) → AreNumbered old → o ≡ first_of (above old.first (queue_at old.waiting from to)) → map frame_of new.items.items ≡ handed_over (map frame_of old.items.items) o
    → new.first ≡ leading new.items.items → leading old.items.items ≤ leading new.items.items → length new.items.items ≡ length old.items.items
    → ((a b : ℕ) → above old.first (queue_at new.waiting a b) ≡ cond (is_pair (from, to) (a, b)) (drop 1 (above old.first (queue_at old.waiting a b))) (above old.first (queue_at old.waiting a b))) → AreNumbered new
numbered_handed old new from to o h is frames first leads count at = record {
  first = first;
  most = subst (λ (n : ℕ). n ≤ 65535) (sym count) h.most;
  waiting = λ a b.
      let fs = values old in
      let before = h.first in
      sym (above_above old.first new.first (queue_at new.waiting a b) (omega (arith, before, first, leads)))
      ∙ ap (above new.first)
      (at a b
      ∙ ap (λ (ns : List ℕ). cond (is_pair (from, to) (a, b)) (drop 1 ns) ns) (h.waiting a b)
      ∙ hands_between a b from to fs o (sym (is ∙ first_between old h from to))
      ∙ ap (λ (l : List Frame). waiting_from 0 (is_between a b) l) (sym frames))
      ∙ waits_above 0 new.first (is_between a b) new.items.items (omega (arith, first));
}

-- the oldest of all is handed over, and its number stays where it is
pub numbered_first : (old new : Inside) → AreNumbered old → map frame_of new.items.items ≡ mark_handed (map frame_of old.items.items) (old.first + 1) → new.first ≡ leading new.items.items → old.first + 1 ≤ leading new.items.items
    → length new.items.items ≡ length old.items.items → ((a b : ℕ) → queue_at new.waiting a b ≡ queue_at old.waiting a b) → AreNumbered new
numbered_first old new h frames first past count same = record {
  first = first;
  most = subst (λ (n : ℕ). n ≤ 65535) (sym count) h.most;
  waiting = λ a b.
      let fs = values old in
      let number : old.first + 1 ≡ suc old.first = omega arith in
      ap (above new.first) (same a b)
      ∙ sym (above_above old.first new.first (queue_at old.waiting a b) (omega (arith, first, past)))
      ∙ ap (above new.first) (h.waiting a b)
      ∙ sym (marked_below 0 new.first (is_between a b) fs old.first (omega (arith, first, past)))
      ∙ ap (λ (l : List Frame). above new.first (waiting_from 0 (is_between a b) l)) (sym (frames ∙ ap (mark_handed fs) number))
      ∙ waits_above 0 new.first (is_between a b) new.items.items (omega (arith, first));
}

-- the number of a frame that waits
pub number_there : (v : Inside) → AreNumbered v → (a b n : ℕ) → Some n ≡ first_of (above v.first (queue_at v.waiting a b)) → (0 < n) × (n ≤ length v.items.items)
number_there v h a b n is =
    let past = oldest_past 0 (is_between a b) (values v) n (sym (is ∙ first_between v h a b)) in
    let same : length (values v) ≡ length v.items.items = length-map v.items.items frame_of in
    (past.0, omega (arith, past.1, same))
