-- In every run: histories are legal, frames were sent, and what was taken is a frame.
use Rattle.std.proofs.Common.{◌≡◌, ◌≤◌, ℕ, zero, suc, Bool, true, false, cond, inl, inr, refl, ap, sym, subst, ◌∙◌, arith, Some, List, [], ◌∷◌, ◌++◌, ◌==◌}
use Rattle.std.proofs.lemmas.Bool.Decides.{nat_tests}
use Rattle.tp_names.specs.declared.identifiers.Addr.{Addr}
use Rattle.tp_records.specs.declared.peer.PeerRecord.{PeerRecord}
use Rattle.tp_model.specs.Parts.{Event, Entry, Out}
use Rattle.tp_model.specs.History.{entry_of}
use Rattle.tp_model.specs.World.{Node, Frame, number_of, addr_of, find_node, put_node, mark_handed}
use Rattle.tp_model.specs.Happenings.{Happening, frames_of, run}
use Rattle.tp_model.specs.Legal.{IsGrown}
use Rattle.tp_histories.specs.Histories.{IsSentIn, HasSent, HasBrought}
use Rattle.tp_histories.specs.Worlds.{Each, WasSent, IsFrameOf, place, Above, IsGood, grown_node, Accepts, Comes, shown}
use Rattle.tp_histories.proofs.worlds.Nodes.{find_put, find_append, place_put, place_append, place_last}
use Rattle.tp_histories.proofs.worlds.Runs.{Steps}
use Rattle.tp_histories.proofs.worlds.Traversal.{induct}

-- ---- lists of frames

pub each_append : (P : Frame → Type 0) (fs gs : List Frame) → Each P fs → Each P gs → Each P (fs ++ gs)
each_append P [] gs a b = b
each_append P (f ∷ fs) gs a b = (a.0, each_append P fs gs a.1 b)

pub each_weaker : (P Q : Frame → Type 0) → ((f : Frame) → P f → Q f) → (fs : List Frame) → Each P fs → Each Q fs
each_weaker P Q w [] a = a
each_weaker P Q w (f ∷ fs) a = (w f a.0, each_weaker P Q w fs a.1)

pub frame_more : (fs gs : List Frame) (a : Addr) (n : ℕ) (r : PeerRecord) → IsFrameOf fs a n r → IsFrameOf (fs ++ gs) a n r
frame_more [] gs a n r h = absurd h
frame_more (f ∷ fs) gs a n r (inl h) = inl h
frame_more (f ∷ fs) gs a n r (inr h) = inr (frame_more fs gs a n r h)

frame_marked : (fs : List Frame) (k : ℕ) (a : Addr) (n : ℕ) (r : PeerRecord) → IsFrameOf fs a n r → IsFrameOf (mark_handed fs k) a n r
frame_marked fs zero a n r h = h
frame_marked [] (suc k) a n r h = h
frame_marked (f ∷ fs) (suc zero) a n r h = h
frame_marked (f ∷ fs) (suc (suc k)) a n r (inl h) = inl h
frame_marked (f ∷ fs) (suc (suc k)) a n r (inr h) = inr (frame_marked fs (suc k) a n r h)

each_marked : (ns : List Node) (fs : List Frame) (k : ℕ) → Each (WasSent ns) fs → Each (WasSent ns) (mark_handed fs k)
each_marked ns fs zero e = e
each_marked ns [] (suc k) e = e
each_marked ns (f ∷ fs) (suc zero) e = e
each_marked ns (f ∷ fs) (suc (suc k)) e = (e.0, each_marked ns fs (suc k) e.1)

-- ---- a node comes

comes_good : (ns : List Node) (fs : List Frame) (x : Node) → Comes ns x → IsGood ns fs → IsGood (ns ++ x ∷ []) fs
comes_good ns fs x c g = record {
  legal = λ n y i. legal n y (number_of x == n) refl i;
  fresh = λ n y i. fresh n y (number_of x == n) refl i;
  above = λ n y s i u. above n y s (number_of x == n) refl i u;
  sent = each_weaker (WasSent ns) (WasSent (ns ++ x ∷ [])) (λ f w. (w.0, found f.from.node w.0 w.1, w.2, w.3)) fs g.sent;
  taken = λ n y a r i t. taken n y a r (number_of x == n) refl i t;
}
  where
    at : (n : ℕ) → find_node (ns ++ x ∷ []) n ≡ cond (number_of x == n) (Some x) (find_node ns n)
    at n = find_append ns x n c.none

    new : (n : ℕ) (y : Node) → (number_of x == n) ≡ true → find_node (ns ++ x ∷ []) n ≡ Some y → x ≡ y
    new n y b i = grind (arith, at n)

    old : (n : ℕ) (y : Node) → (number_of x == n) ≡ false → find_node (ns ++ x ∷ []) n ≡ Some y → find_node ns n ≡ Some y
    old n y b i = grind (arith, at n)

    found : (n : ℕ) (y : Node) → find_node ns n ≡ Some y → find_node (ns ++ x ∷ []) n ≡ Some y
    found n y i = go (number_of x == n) refl
      where
        go : (b : Bool) → (number_of x == n) ≡ b → find_node (ns ++ x ∷ []) n ≡ Some y
        go false b = grind (arith, at n, b, i)
        go true b = let same : number_of x ≡ n = grind (arith, nat_tests) in absurd (cc (c.none, i, ap (find_node ns) same))

    legal : (n : ℕ) (y : Node) (b : Bool) → (number_of x == n) ≡ b → find_node (ns ++ x ∷ []) n ≡ Some y → IsGrown y.origin y.superior y.history
    legal n y true b i = subst (λ (z : Node). IsGrown z.origin z.superior z.history) (new n y b i) (subst (λ (h : List Entry). IsGrown x.origin x.superior h) (sym c.bare) tt)
    legal n y false b i = g.legal n y (old n y b i)

    fresh : (n : ℕ) (y : Node) (b : Bool) → (number_of x == n) ≡ b → find_node (ns ++ x ∷ []) n ≡ Some y → y.origin.start.records ≡ []
    fresh n y true b i = subst (λ (z : Node). z.origin.start.records ≡ []) (new n y b i) c.fresh
    fresh n y false b i = g.fresh n y (old n y b i)

    above : (n : ℕ) (y : Node) (s : Addr) (b : Bool) → (number_of x == n) ≡ b → find_node (ns ++ x ∷ []) n ≡ Some y → y.superior ≡ Some s → Above (ns ++ x ∷ []) s n
    above n y s true b i u =
        let up = c.above s (ap (λ (z : Node). z.superior) (new n y b i) ∙ u) in
        let m : number_of x ≡ n = grind (arith, nat_tests) in
        record {
          node = up.0;
          found = found s.node up.0 up.1;
          is = up.2;
          before =
              subst (λ (k : ℕ). suc (place (ns ++ x ∷ []) s.node) ≤ place (ns ++ x ∷ []) k) m
              (subst (λ (k : ℕ). suc k ≤ place (ns ++ x ∷ []) (number_of x)) (sym (place_append ns x up.0 s.node up.1)) (place_last ns x up.0 s.node up.1 c.none));
        }
    above n y s false b i u =
        let o = g.above n y s (old n y b i) u in
        let one = place_append ns x o.node s.node o.found in
        let two = place_append ns x y n (old n y b i) in
        record { node = o.node; found = found s.node o.node o.found; is = o.is; before = rw (one, two) o.before }

    taken : (n : ℕ) (y : Node) (a : Addr) (r : PeerRecord) (b : Bool) → (number_of x == n) ≡ b → find_node (ns ++ x ∷ []) n ≡ Some y → HasBrought y.history a r → IsFrameOf fs a n r
    taken n y a r true b i t =
        let none : HasBrought x.history a r = subst (λ (z : Node). HasBrought z.history a r) (sym (new n y b i)) t in
        absurd (subst (λ (h : List Entry). HasBrought h a r) c.bare none)
    taken n y a r false b i t = g.taken n y a r (old n y b i) t

-- ---- a node accepts an event

frames_sent : (ns : List Node) (x : Node) (all outs : List Out) → ((a : Addr) (r : PeerRecord) → IsSentIn outs a r → IsSentIn all a r)
    → (y : Node) → find_node ns (number_of x) ≡ Some y → addr_of y ≡ addr_of x → ((a : Addr) (r : PeerRecord) → IsSentIn all a r → HasSent y.history a r)
    → Each (WasSent ns) (frames_of (addr_of x) outs)
frames_sent ns x all [] part y find same has = tt
frames_sent ns x all (Out.Tell i ∷ outs) part y find same has = frames_sent ns x all outs part y find same has
frames_sent ns x all (Out.Send a r ∷ outs) part y find same has = (
  (y, find, same, has a r (part a r (inl (refl, refl)))),
  frames_sent ns x all outs (λ b s k. part b s (inr k)) y find same has,
)

pub event_good : (ns : List Node) (fs : List Frame) (x : Node) (e : Event) → Accepts ns fs x e → (b : Bool) → IsGood ns fs
    → IsGood (put_node ns (grown_node x e)) (fs ++ shown b (frames_of (addr_of x) (entry_of x.origin x.history e).outs))
event_good ns fs x e a told g = record {
  legal = λ n z i. legal n z (number_of x == n) refl i;
  fresh = λ n z i. fresh n z (number_of x == n) refl i;
  above = λ n z s i u. above n z s (number_of x == n) refl i u;
  sent = each_append (WasSent now) fs (shown told more) (each_weaker (WasSent ns) (WasSent now) (λ f w. kept f w (number_of x == f.from.node) refl) fs g.sent) (new_sent told);
  taken = λ n z c r i t. frame_more fs (shown told more) c n r (taken n z c r (number_of x == n) refl i t);
}
  where
    y : Node
    y = grown_node x e

    now : List Node
    now = put_node ns y

    more : List Frame
    more = frames_of (addr_of x) (entry_of x.origin x.history e).outs

    at : (n : ℕ) → find_node now n ≡ cond (number_of x == n) (Some y) (find_node ns n)
    at n = find_put ns y x n a.here

    new : (n : ℕ) (z : Node) → (number_of x == n) ≡ true → find_node now n ≡ Some z → y ≡ z
    new n z b i = grind (arith, at n)

    old : (n : ℕ) (z : Node) → (number_of x == n) ≡ false → find_node now n ≡ Some z → find_node ns n ≡ Some z
    old n z b i = grind (arith, at n)

    here : find_node now (number_of x) ≡ Some y
    here = grind (arith, nat_tests, at (number_of x))

    legal : (n : ℕ) (z : Node) (b : Bool) → (number_of x == n) ≡ b → find_node now n ≡ Some z → IsGrown z.origin z.superior z.history
    legal n z true b i = subst (λ (u : Node). IsGrown u.origin u.superior u.history) (new n z b i) (a.ok, refl, a.under, g.legal (number_of x) x a.here)
    legal n z false b i = g.legal n z (old n z b i)

    fresh : (n : ℕ) (z : Node) (b : Bool) → (number_of x == n) ≡ b → find_node now n ≡ Some z → z.origin.start.records ≡ []
    fresh n z true b i = subst (λ (u : Node). u.origin.start.records ≡ []) (new n z b i) (g.fresh (number_of x) x a.here)
    fresh n z false b i = g.fresh n z (old n z b i)

    above_of : (n : ℕ) (s : Addr) → Above ns s n → Above now s n
    above_of n s o = go (number_of x == s.node) refl
      where
        before : suc (place now s.node) ≤ place now n
        before = rw (place_put ns y s.node, place_put ns y n) o.before

        go : (b : Bool) → (number_of x == s.node) ≡ b → Above now s n
        go true b =
            let m : number_of x ≡ s.node = grind (arith, nat_tests) in
            let one : Some o.node ≡ Some x = sym o.found ∙ ap (find_node ns) (sym m) ∙ a.here in
            let same : o.node ≡ x = cc (one) in
            record { node = y; found = ap (find_node now) (sym m) ∙ here; is = ap addr_of (sym same) ∙ o.is; before = before }
        go false b = record { node = o.node; found = grind (arith, at s.node, b, o.found); is = o.is; before = before }

    above : (n : ℕ) (z : Node) (s : Addr) (b : Bool) → (number_of x == n) ≡ b → find_node now n ≡ Some z → z.superior ≡ Some s → Above now s n
    above n z s true b i u =
        let m : number_of x ≡ n = grind (arith, nat_tests) in
        let up : x.superior ≡ Some s = ap (λ (v : Node). v.superior) (new n z b i) ∙ u in
        subst (λ (k : ℕ). Above now s k) m (above_of (number_of x) s (g.above (number_of x) x s a.here up))
    above n z s false b i u = above_of n s (g.above n z s (old n z b i) u)

    kept : (f : Frame) → WasSent ns f → (b : Bool) → (number_of x == f.from.node) ≡ b → WasSent now f
    kept f w true b =
        let m : number_of x ≡ f.from.node = grind (arith, nat_tests) in
        let one : Some w.0 ≡ Some x = sym w.1 ∙ ap (find_node ns) (sym m) ∙ a.here in
        let same : w.0 ≡ x = cc (one) in
        let sent : HasSent x.history f.to f.rec = subst (λ (v : Node). HasSent v.history f.to f.rec) same w.3 in
        (y, ap (find_node now) (sym m) ∙ here, ap addr_of (sym same) ∙ w.2, inr sent)
    kept f w false b = (w.0, grind (arith, at f.from.node, b, w.1), w.2, w.3)

    new_sent : (b : Bool) → Each (WasSent now) (shown b more)
    new_sent false = tt
    new_sent true = frames_sent now x (entry_of x.origin x.history e).outs (entry_of x.origin x.history e).outs (λ c r k. k) y here refl (λ c r k. inl k)

    taken : (n : ℕ) (z : Node) (c : Addr) (r : PeerRecord) (b : Bool) → (number_of x == n) ≡ b → find_node now n ≡ Some z → HasBrought z.history c r → IsFrameOf fs c n r
    taken n z c r true b i t =
        let m : number_of x ≡ n = grind (arith, nat_tests) in
        let took : HasBrought y.history c r = subst (λ (v : Node). HasBrought v.history c r) (sym (new n z b i)) t in
        let one : IsFrameOf fs c (number_of x) r = elim took [ inl j ↦ a.came c r j | inr j ↦ g.taken (number_of x) x c r a.here j ] in
        subst (λ (k : ℕ). IsFrameOf fs c k r) m one
    taken n z c r false b i t = g.taken n z c r (old n z b i) t

good_steps : Steps IsGood
good_steps = record {
  start = record { legal = λ n x i. absurd (cc (i)); fresh = λ n x i. absurd (cc (i)); above = λ n x s i u. absurd (cc (i)); sent = tt; taken = λ n x a r i t. absurd (cc (i)) };
  comes = comes_good;
  event = event_good;
  mark = λ ns fs k g. record {
    legal = g.legal;
    fresh = g.fresh;
    above = g.above;
    sent = each_marked ns fs k g.sent;
    taken = λ n x a r i t. frame_marked fs k a n r (g.taken n x a r i t);
  };
}

pub good_run : (es : List Happening) → IsGood (run es).nodes (run es).frames
good_run es = induct IsGood good_steps es

-- a frame that was taken was sent by the node that it is from
pub record Sender (ns : List Node) (a : Addr) (n : ℕ) (r : PeerRecord) : Type 0 where
  pub node : Node
  pub found : find_node ns a.node ≡ Some node
  pub is : addr_of node ≡ a
  pub to : Addr
  pub at : to.node ≡ n
  pub sent : HasSent node.history to r

pub was_sent : (ns : List Node) (fs : List Frame) (a : Addr) (n : ℕ) (r : PeerRecord) → Each (WasSent ns) fs → IsFrameOf fs a n r → Sender ns a n r
was_sent ns [] a n r each h = absurd h
was_sent ns (f ∷ fs) a n r each (inl h) =
    let w : WasSent ns f = each.0 in
    record {
      node = w.0;
      found = ap (λ (b : Addr). find_node ns b.node) (sym h.0) ∙ w.1;
      is = w.2 ∙ h.0;
      to = f.to;
      at = h.1;
      sent = subst (λ (s : PeerRecord). HasSent w.0.history f.to s) h.2 w.3;
    }
was_sent ns (f ∷ fs) a n r each (inr h) = was_sent ns fs a n r each.1 h

-- ---- induction with all this at hand

-- an event that a node accepts in a good world
pub record Step (ns : List Node) (fs : List Frame) (x : Node) (e : Event) : Type 0 where
  pub good : IsGood ns fs
  pub accepts : Accepts ns fs x e

pub record LawSteps (P : List Node → List Frame → Type 0) : Type 0 where
  pub start : P [] []
  pub comes : (ns : List Node) (fs : List Frame) (x : Node) → Comes ns x → IsGood ns fs → P ns fs → P (ns ++ x ∷ []) fs
  pub event : (ns : List Node) (fs : List Frame) (x : Node) (e : Event) → Step ns fs x e → (b : Bool) → P ns fs
      → P (put_node ns (grown_node x e)) (fs ++ shown b (frames_of (addr_of x) (entry_of x.origin x.history e).outs))
  pub mark : (ns : List Node) (fs : List Frame) (k : ℕ) → P ns fs → P ns (mark_handed fs k)

pub law : (P : List Node → List Frame → Type 0) → LawSteps P → (es : List Happening) → P (run es).nodes (run es).frames
law P s es = (induct (λ ns fs. IsGood ns fs × P ns fs) all es).1
  where
    all : Steps (λ ns fs. IsGood ns fs × P ns fs)
    all = record {
      start = (good_steps.start, s.start);
      comes = λ ns fs x c p. (comes_good ns fs x c p.0, s.comes ns fs x c p.0 p.1);
      event = λ ns fs x e a b p. (event_good ns fs x e a b p.0, s.event ns fs x e (record { good = p.0; accepts = a }) b p.1);
      mark = λ ns fs k p. (good_steps.mark ns fs k p.0, s.mark ns fs k p.1);
    }
