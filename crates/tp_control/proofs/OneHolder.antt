-- Two ends of one dialogue never both hold control: by what each end counted of its own words, and since what one end took
-- is a prefix of what the other sent.
use Rattle.std.proofs.Common.{◌≡◌, ◌≤◌, ◌+◌, inl, inr, ℕ, zero, suc, Bool, true, false, if◌then◌else◌, refl, ap, sym, subst, ◌∙◌, arith, Option, Some, None, List, [], ◌∷◌, ◌++◌, ◌==◌}
use Rattle.std.proofs.lemmas.Bool.Decides.{nat_tests}
use Rattle.tp_names.specs.declared.identifiers.Mark.{Mark}
use Rattle.tp_names.specs.declared.identifiers.Addr.{Addr}
use Rattle.tp_records.specs.declared.dialogue.DialogueRecord.{DialogueRecord}
use Rattle.tp_model.specs.Parts.{Who, Link, Live, Arc}
use Rattle.tp_model.specs.Links.{is_idle, is_live_with}
use Rattle.tp_model.specs.Arcs.{link_with}
use Rattle.tp_model.specs.History.{digest}
use Rattle.tp_model.specs.Questions.{is_at}
use Rattle.tp_model.specs.Traces.{sent_on, taken_on}
use Rattle.tp_model.specs.World.{Node, Frame, number_of, find_node}
use Rattle.tp_model.specs.Happenings.{Happening, run}
use Rattle.tp_model.specs.Promises.{IsIn, OneHolder, holds_on, some_holds}
use Rattle.tp_histories.specs.Worlds.{place, IsGood}
use Rattle.tp_histories.specs.Traces.{own_mark}
use Rattle.tp_steps.specs.Ends.{is_there, are_separate}
use Rattle.tp_histories.specs.Ends.{own_is, opened}
use Rattle.tp_steps.specs.Moves.{some_leads}
use Rattle.tp_steps.specs.Control.{rounds, closes_up, voted_behind}
use Rattle.tp_histories.specs.Control.{answered, closes_down, begun_behind}
use Rattle.tp_control.specs.Control.{behind, count, given, returned, is_giving, is_returning, holds_with, TookBack, TookMore}
use Rattle.tp_steps.proofs.every.Preludes.{marks_same}
use Rattle.tp_histories.proofs.worlds.Good.{good_run}
use Rattle.tp_runs.proofs.Breaks.{all_sent, associations}
use Rattle.tp_histories.proofs.marks.Separate.{separate_law}
use Rattle.tp_histories.proofs.marks.Ends.{alone_law}

-- ---- counts in a prefix

pub count_more : (f : DialogueRecord → Bool) (xs ys : List DialogueRecord) → count f xs ≤ count f (xs ++ ys)
count_more f [] ys = omega arith
count_more f (x ∷ xs) ys = let rest = count_more f xs ys in omega (arith, rest)

pub rounds_more : (f g : Bool → DialogueRecord → Bool) (b : Bool) (xs ys : List DialogueRecord) → rounds f g b xs ≤ rounds f g b (xs ++ ys)
rounds_more f g b [] ys = omega arith
rounds_more f g b (x ∷ xs) ys = let rest = rounds_more f g (g b x) xs ys in omega (arith, rest)

pub behind_more : (h : DialogueRecord → Bool) (f g : Bool → DialogueRecord → Bool) (b : Bool) (k : ℕ) (xs ys : List DialogueRecord) → count h (behind f g b k xs) ≤ count h (behind f g b k (xs ++ ys))
behind_more h f g b zero xs ys = count_more h xs ys
behind_more h f g b (suc k) [] ys = omega arith
behind_more h f g b (suc k) (x ∷ xs) ys = go (f b x) (behind_more h f g (g b x) k xs ys) (behind_more h f g (g b x) (suc k) xs ys)
  where
    go : (c : Bool) → count h (behind f g (g b x) k xs) ≤ count h (behind f g (g b x) k (xs ++ ys)) → count h (behind f g (g b x) (suc k) xs) ≤ count h (behind f g (g b x) (suc k) (xs ++ ys))
        → count h (if c then behind f g (g b x) k xs else behind f g (g b x) (suc k) xs) ≤ count h (if c then behind f g (g b x) k (xs ++ ys) else behind f g (g b x) (suc k) (xs ++ ys))
    go true one two = one
    go false one two = two

-- after more rounds stands less
pub behind_less : (h : DialogueRecord → Bool) (f g : Bool → DialogueRecord → Bool) (b : Bool) (k : ℕ) (xs : List DialogueRecord) → count h (behind f g b (suc k) xs) ≤ count h (behind f g b k xs)
behind_less h f g b zero [] = omega arith
behind_less h f g b zero (x ∷ xs) = go (f b x) (behind_less h f g (g b x) zero xs)
  where
    go : (c : Bool) → count h (behind f g (g b x) 1 xs) ≤ count h xs → count h (if c then xs else behind f g (g b x) 1 xs) ≤ count h (x ∷ xs)
    go true rest = omega arith
    go false rest = omega (arith, rest)
behind_less h f g b (suc k) [] = omega arith
behind_less h f g b (suc k) (x ∷ xs) = go (f b x) (behind_less h f g (g b x) k xs) (behind_less h f g (g b x) (suc k) xs)
  where
    go : (c : Bool) → count h (behind f g (g b x) (suc k) xs) ≤ count h (behind f g (g b x) k xs) → count h (behind f g (g b x) (suc (suc k)) xs) ≤ count h (behind f g (g b x) (suc k) xs)
        → count h (if c then behind f g (g b x) (suc k) xs else behind f g (g b x) (suc (suc k)) xs) ≤ count h (if c then behind f g (g b x) k xs else behind f g (g b x) (suc k) xs)
    go true one two = one
    go false one two = two

-- nothing after k rounds is nothing after more
none_later : (h : DialogueRecord → Bool) (f g : Bool → DialogueRecord → Bool) (b : Bool) (k n m : ℕ) (xs : List DialogueRecord) → m ≡ n + k → count h (behind f g b k xs) ≡ 0 → count h (behind f g b m xs) ≡ 0
none_later h f g b k zero m xs i none = let same : m ≡ k = omega (arith, i) in rw same none
none_later h f g b k (suc n) zero xs i none = absurd (omega (arith, i))
none_later h f g b k (suc n) (suc m) xs i none =
    let rest = none_later h f g b k n m xs (omega (arith, i)) none in
    let less = behind_less h f g b m xs in
    omega (arith, rest, less)

-- ---- one dialogue

-- what the superior end took and sent, and what the other end sent and took
never_both : (sent taken : List DialogueRecord) (more later : List DialogueRecord) → given (answered taken) (sent ++ later) ≤ returned (answered taken) taken → given (suc (answered taken)) (sent ++ later) ≡ 0
    → suc (returned (answered (taken ++ more)) (taken ++ more)) ≤ given (answered (taken ++ more)) sent → ⊥
never_both sent taken more later back none held = go (answered (taken ++ more)) refl
  where
    old : answered taken ≤ answered (taken ++ more)
    old = rounds_more closes_up voted_behind false taken more

    rest : (c d : ℕ) → answered (taken ++ more) ≡ c → c ≡ d + answered taken → ⊥
    rest c zero i j =
        let same : answered (taken ++ more) ≡ answered taken = omega (arith, i, j) in
        let held_now : suc (returned (answered taken) (taken ++ more)) ≤ given (answered taken) sent = subst (λ (k : ℕ). suc (returned k (taken ++ more)) ≤ given k sent) same held in
        let gave : given (answered taken) sent ≤ given (answered taken) (sent ++ later) = behind_more is_giving closes_down begun_behind false (answered taken) sent later in
        let took : returned (answered taken) taken ≤ returned (answered taken) (taken ++ more) = behind_more is_returning closes_up voted_behind false (answered taken) taken more in
        omega (arith, held_now, gave, took, back)
    rest c (suc d) i j =
        let nothing : given c (sent ++ later) ≡ 0 = none_later is_giving closes_down begun_behind false (suc (answered taken)) d c (sent ++ later) (omega (arith, j)) none in
        let gave : given c sent ≤ given c (sent ++ later) = behind_more is_giving closes_down begun_behind false c sent later in
        let held_now : suc (returned c (taken ++ more)) ≤ given c sent = subst (λ (k : ℕ). suc (returned k (taken ++ more)) ≤ given k sent) i held in
        omega (arith, held_now, gave, nothing)

    split : (a b : ℕ) → a ≤ b → (d : ℕ) × (b ≡ d + a)
    split zero b h = (b, omega arith)
    split (suc a) zero h = absurd (omega (arith, h))
    split (suc a) (suc b) h = let s = split a b (omega (arith, h)) in (s.0, omega (arith, s.1))

    go : (c : ℕ) → answered (taken ++ more) ≡ c → ⊥
    go c i = let s = split (answered taken) c (subst (λ (k : ℕ). answered taken ≤ k) i old) in rest c s.0 i s.1

-- ---- an arc that holds control

record Found (x y : Mark) (arcs : List Arc) : Type 0 where
  peer : ℕ
  sent : ℕ
  taken : ℕ
  live : link_with arcs peer ≡ Live x y sent taken
  holds : some_leads (holds_on x y) peer arcs ≡ true

pub live_link : (l : Link) (x y : Mark) → is_live_with l x y ≡ true → (s : ℕ) × (t : ℕ) × (l ≡ Live x y s t)
live_link (Live z w s t) x y h =
    let ez = marks_same z x (grind (arith, h)) in
    let ew = marks_same w y (grind (arith, h)) in
    (s, t, same z x w y ez ew)
  where
    same : (z x w y : Mark) → z ≡ x → w ≡ y → Live z w s t ≡ Live x y s t
    same z x w y e f = rw (e, f) refl
live_link _ x y h = absurd cc

there_busy : (p : ℕ) (arcs : List Arc) → is_idle (link_with arcs p) ≡ false → is_there p arcs ≡ true
there_busy p [] h = absurd cc
there_busy p (a ∷ arcs) h = go (a.peer.node == p) refl (there_busy p arcs)
  where
    go : (b : Bool) → (a.peer.node == p) ≡ b → (is_idle (link_with arcs p) ≡ false → is_there p arcs ≡ true) → is_there p (a ∷ arcs) ≡ true
    go true j rest = grind (arith, j)
    go false j rest = let k : is_there p arcs ≡ true = rest (grind (arith, h, j)) in grind (arith, j, k)

found : (x y : Mark) (arcs : List Arc) → are_separate arcs ≡ true → some_holds x y arcs ≡ true → Found x y arcs
found x y [] h i = absurd cc
found x y (a ∷ arcs) h i = go (holds_on x y a) refl (found x y arcs)
  where
    go : (b : Bool) → holds_on x y a ≡ b → (are_separate arcs ≡ true → some_holds x y arcs ≡ true → Found x y arcs) → Found x y (a ∷ arcs)
    go true j rest =
        let l = live_link a.link x y (grind (arith, j)) in
        let mine : link_with (a ∷ arcs) a.peer.node ≡ a.link = grind (arith, nat_tests) in
        record { peer = a.peer.node; sent = l.0; taken = l.1; live = mine ∙ l.2; holds = grind (arith, nat_tests, j) }
    go false j rest =
        let f = rest (grind (arith, h)) (grind (arith, i, j)) in
        let busy : is_there f.peer arcs ≡ true = there_busy f.peer arcs (ap is_idle f.live) in
        let gone : is_there a.peer.node arcs ≡ false = grind (arith, h) in
        let other : (a.peer.node == f.peer) ≡ false = apart (a.peer.node == f.peer) f.peer refl busy gone in
        let same : link_with (a ∷ arcs) f.peer ≡ link_with arcs f.peer = grind (arith, other) in
        record { peer = f.peer; sent = f.sent; taken = f.taken; live = same ∙ f.live; holds = grind (arith, j, f.holds) }
      where
        apart : (b : Bool) (p : ℕ) → (a.peer.node == p) ≡ b → is_there p arcs ≡ true → is_there a.peer.node arcs ≡ false → b ≡ false
        apart false p k busy gone = refl
        apart true p k busy gone = let same : a.peer.node ≡ p = grind (arith, nat_tests, k) in absurd (cc (same, busy, gone))

-- ---- who the two ends are

nothing_given : (k : ℕ) → given k [] ≡ 0
nothing_given zero = refl
nothing_given (suc k) = refl

front_some : (xs more ys : List DialogueRecord) (k n : ℕ) → suc n ≤ given k xs → ys ≡ xs ++ more → ys ≡ [] → ⊥
front_some [] more ys k n h i j = absurd (omega (arith, h, nothing_given k))
front_some (x ∷ xs) more ys k n h i j = let no : x ∷ xs ++ more ≡ [] = sym i ∙ j in absurd (cc (no))

pub at_some : (o : Option Addr) (q : ℕ) → is_at o q ≡ true → (s : Addr) × (o ≡ Some s) × (s.node ≡ q)
at_some None q h = absurd cc
at_some (Some s) q h = (s, refl, grind (arith, nat_tests, h))

-- of a node and its superior, the one is not the superior's superior
not_above : (ns : List Node) (fs : List Frame) → IsGood ns fs → (v m : Node) (s : Addr) → find_node ns (number_of v) ≡ Some v → suc (place ns (number_of v)) ≤ place ns (number_of m) → (b : Bool) → is_at v.superior (number_of m) ≡ b → b ≡ false
not_above ns fs good v m s here below false i = refl
not_above ns fs good v m s here below true i =
    let u = at_some v.superior (number_of m) i in
    let before : suc (place ns u.0.node) ≤ place ns (number_of v) = (good.above (number_of v) v u.0 here u.1).before in
    let same : place ns u.0.node ≡ place ns (number_of m) = ap (place ns) u.2 in
    absurd (omega (arith, before, below, same))

record AreEnds (n m : Node) (p q : ℕ) : Type 0 where
  down : p ≡ number_of m
  up : q ≡ number_of n

ends : (es : List Happening) → TookMore (run es) → (n m : Node) (x y : Mark) (p q : ℕ) → IsIn (run es) n → IsIn (run es) m → is_at n.superior p ≡ false → is_at m.superior q ≡ true
    → opened (link_with (digest n.origin n.history).arcs p) ≡ Some x → x.node ≡ number_of n → holds_with x y q m ≡ true → AreEnds n m p q
ends es more n m x y p q here there down up offers mine held =
    let good = good_run es in
    let u = at_some m.superior q up in
    let above = good.above (number_of m) m u.0 there u.1 in
    let v : Node = above.node in
    let at : number_of v ≡ q = ap (λ (a : Addr). a.node) above.is ∙ u.2 in
    let v_here : find_node (run es).nodes (number_of v) ≡ Some v = ap (λ (a : Addr). find_node (run es).nodes a.node) above.is ∙ above.found in
    let below : suc (place (run es).nodes (number_of v)) ≤ place (run es).nodes (number_of m) = subst (λ (a : Addr). suc (place (run es).nodes a.node) ≤ place (run es).nodes (number_of m)) (sym above.is) above.before in
    let not_over : is_at v.superior (number_of m) ≡ false = not_above (run es).nodes (run es).frames good v m u.0 v_here below (is_at v.superior (number_of m)) refl in
    let took = more m q x y there up held in
    let sent = associations es v m x y v_here there in
    let taken_there : suc (returned (answered (sent_on x y q m.history)) (sent_on x y q m.history)) ≤ given (answered (sent_on x y q m.history)) (taken_on x y (number_of v) m.history) =
    subst (λ (k : ℕ). suc (returned (answered (sent_on x y q m.history)) (sent_on x y q m.history)) ≤ given (answered (sent_on x y q m.history)) (taken_on x y k m.history)) (sym at) took in
    let some_sent : sent_on x y (number_of m) v.history ≡ [] → ⊥ =
    λ none. front_some (taken_on x y (number_of v) m.history) sent.0 (sent_on x y (number_of m) v.history) (answered (sent_on x y q m.history)) (returned (answered (sent_on x y q m.history)) (sent_on x y q m.history)) taken_there sent.1 none in
    let drawn : x.node ≡ number_of v = elim ((alone_law v.origin v.superior v.history (good.legal (number_of v) v v_here)).said (number_of m) x y) [
      | inl none ↦ absurd (some_sent (all_sent x y (number_of m) v.history ∙ none))
      | inr own ↦ rw not_over at own
    ] in
    let one : Some v ≡ Some n = sym v_here ∙ ap (find_node (run es).nodes) (sym drawn ∙ mine) ∙ here in
    let same : v ≡ n = cc (one) in
    record {
      down = elim ((alone_law n.origin n.superior n.history (good.legal (number_of n) n here)).quiet p (number_of m) x y down (subst (λ (z : Node). is_at z.superior (number_of m) ≡ false) same not_over) offers) [
        | inl none ↦ absurd (subst (λ (z : Node). sent_on x y (number_of m) z.history ≡ [] → ⊥) same some_sent (all_sent x y (number_of m) n.history ∙ none))
        | inr p_is ↦ p_is
      ];
      up = sym at ∙ ap number_of same;
    }

-- ---- both ends

at_ends : (es : List Happening) → TookBack (run es) → TookMore (run es) → (n m : Node) (x y : Mark) (p q : ℕ) → IsIn (run es) n → IsIn (run es) m → AreEnds n m p q → is_at n.superior p ≡ false → is_at m.superior q ≡ true
    → holds_with x y p n ≡ true → holds_with x y q m ≡ true → ⊥
at_ends es back more n m x y p q here there are down up one two =
    let a = associations es n m x y here there in
    let b = associations es m n x y there here in
    let below_it : is_at m.superior (number_of n) ≡ true = ap (is_at m.superior) (sym are.up) ∙ up in
    let not_over : is_at n.superior (number_of m) ≡ false = ap (is_at n.superior) (sym are.down) ∙ down in
    let over = back n m x y here there below_it not_over (ap (λ (k : ℕ). holds_with x y k n) (sym are.down) ∙ one) in
    let above = subst (λ (k : ℕ). (given (answered (taken_on x y k n.history)) (sent_on x y k n.history) ≤ returned (answered (taken_on x y k n.history)) (taken_on x y k n.history)) × (given (suc (answered (taken_on x y k n.history))) (sent_on x y k n.history) ≡ 0)) (sym are.down) over in
    let below = more m q x y there up two in
    let sent_there : sent_on x y p n.history ≡ taken_on x y q m.history ++ a.0 = ap (λ (k : ℕ). sent_on x y k n.history) are.down ∙ a.1 ∙ ap (λ (k : ℕ). taken_on x y k m.history ++ a.0) (sym are.up) in
    let sent_back : sent_on x y q m.history ≡ taken_on x y p n.history ++ b.0 = ap (λ (k : ℕ). sent_on x y k m.history) are.up ∙ b.1 ∙ ap (λ (k : ℕ). taken_on x y k n.history ++ b.0) (sym are.down) in
    let above_sent = subst (λ (rs : List DialogueRecord). (given (answered (taken_on x y p n.history)) rs ≤ returned (answered (taken_on x y p n.history)) (taken_on x y p n.history)) × (given (suc (answered (taken_on x y p n.history))) rs ≡ 0)) sent_there above in
    let below_sent = subst (λ (rs : List DialogueRecord). suc (returned (answered rs) rs) ≤ given (answered rs) (taken_on x y q m.history)) sent_back below in
    never_both (taken_on x y q m.history) (taken_on x y p n.history) b.0 a.0 above_sent.0 above_sent.1 below_sent

pub one_holder : (es : List Happening) → TookBack (run es) → TookMore (run es) → OneHolder (run es)
one_holder es back more n m x y here there differ one two = go (is_at n.superior f.peer) refl (is_at m.superior g.peer) refl
  where
    good : IsGood (run es).nodes (run es).frames
    good = good_run es

    f : Found x y (digest n.origin n.history).arcs
    f = found x y (digest n.origin n.history).arcs (separate_law n.origin n.superior n.history (good.legal (number_of n) n here)) one

    g : Found x y (digest m.origin m.history).arcs
    g = found x y (digest m.origin m.history).arcs (separate_law m.origin m.superior m.history (good.legal (number_of m) m there)) two

    own_n : own_is n.origin.who n.superior f.peer (Live x y f.sent f.taken) ≡ true
    own_n = ap (own_is n.origin.who n.superior f.peer) (sym f.live) ∙ (alone_law n.origin n.superior n.history (good.legal (number_of n) n here)).own f.peer

    own_m : own_is m.origin.who m.superior g.peer (Live x y g.sent g.taken) ≡ true
    own_m = ap (own_is m.origin.who m.superior g.peer) (sym g.live) ∙ (alone_law m.origin m.superior m.history (good.legal (number_of m) m there)).own g.peer

    mine : (who : Who) (up : Option Addr) (p : ℕ) (s t : ℕ) → own_is who up p (Live x y s t) ≡ true → (own_mark up p x y).node ≡ who.node
    mine who up p s t h = grind (arith, nat_tests, h)

    first : is_at n.superior f.peer ≡ false → x.node ≡ number_of n
    first i = let own = mine n.origin.who n.superior f.peer f.sent f.taken own_n in rw i at own

    first_m : is_at m.superior g.peer ≡ false → x.node ≡ number_of m
    first_m i = let own = mine m.origin.who m.superior g.peer g.sent g.taken own_m in rw i at own

    second : is_at n.superior f.peer ≡ true → y.node ≡ number_of n
    second i = let own = mine n.origin.who n.superior f.peer f.sent f.taken own_n in rw i at own

    second_m : is_at m.superior g.peer ≡ true → y.node ≡ number_of m
    second_m i = let own = mine m.origin.who m.superior g.peer g.sent g.taken own_m in rw i at own

    go : (b : Bool) → is_at n.superior f.peer ≡ b → (c : Bool) → is_at m.superior g.peer ≡ c → ⊥
    go false i false j = differ (sym (first i) ∙ first_m j)
    go true i true j = differ (sym (second i) ∙ second_m j)
    go false i true j =
        let are = ends es more n m x y f.peer g.peer here there i j (ap opened f.live) (first i) g.holds in
        at_ends es back more n m x y f.peer g.peer here there are i j f.holds g.holds
    go true i false j =
        let are = ends es more m n x y g.peer f.peer there here j i (ap opened g.live) (first_m j) f.holds in
        at_ends es back more m n x y g.peer f.peer there here are j i g.holds f.holds
