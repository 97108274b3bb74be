-- One way through all runs: a node comes, or a node accepts an event. Crashes, crashes within a
-- write, stops and declarations are made of these two steps.
use Rattle.std.proofs.Common.{◌≡◌, ℕ, Bool, true, false, refl, ap, sym, subst, ◌∙◌, arith, Some, None, List, [], ◌∷◌, ◌++◌}
use Rattle.std.proofs.lemmas.Bool.Decides.{nat_tests}
use Rattle.std.proofs.lemmas.List.{append-nil}
use Rattle.tp_names.specs.Same.{is_name}
use Rattle.tp_model.specs.Parts.{Event, Entry}
use Rattle.tp_model.specs.Events.{refusal, verdict, after_crash}
use Rattle.tp_model.specs.History.{entry_of}
use Rattle.tp_model.specs.World.{World, Node, Frame, number_of, site_of, addr_of, find_node, put_node, mark_handed}
use Rattle.tp_model.specs.Happenings.{frames_of, restarted, stopped, crash_turn, stop_turn}
use Rattle.tp_histories.specs.Worlds.{AreDistinct, grown_node, Accepts, Comes, shown}
use Rattle.tp_histories.proofs.worlds.Turns.{restarts, halts, anew, anew_at, turn_anew, by_start}
use Rattle.tp_histories.proofs.worlds.Nodes.{find_behind, put_behind, find_first, put_first, one_behind, distinct_append, distinct_over, distinct_put}

abbrev pub ComesStep : (List Node → List Frame → Type 0) → Type 0
ComesStep P = (ns : List Node) (fs : List Frame) (x : Node) → Comes ns x → P ns fs → P (ns ++ x ∷ []) fs

abbrev pub EventStep : (List Node → List Frame → Type 0) → Type 0
EventStep P = (ns : List Node) (fs : List Frame) (x : Node) (e : Event) → Accepts ns fs x e → (b : Bool) → P ns fs
    → P (put_node ns (grown_node x e)) (fs ++ shown b (frames_of (addr_of x) (entry_of x.origin x.history e).outs))

abbrev pub MarkStep : (List Node → List Frame → Type 0) → Type 0
MarkStep P = (ns : List Node) (fs : List Frame) (k : ℕ) → P ns fs → P ns (mark_handed fs k)

-- what is carried through a run
pub record Steps (P : List Node → List Frame → Type 0) : Type 0 where
  pub start : P [] []
  pub comes : ComesStep P
  pub event : EventStep P
  pub mark : MarkStep P

-- besides it, that no two nodes have one number
pub record Kept (P : List Node → List Frame → Type 0) (ns : List Node) (fs : List Frame) : Type 0 where
  pub distinct : AreDistinct [] ns
  pub holds : P ns fs

pub kept_steps : (P : List Node → List Frame → Type 0) → Steps P → Steps (Kept P)
kept_steps P s = record {
  start = record { distinct = tt; holds = s.start };
  comes = λ ns fs x c k. record { distinct = distinct_append [] ns x k.distinct refl c.none; holds = s.comes ns fs x c k.holds };
  event = λ ns fs x e a b k. record { distinct = distinct_put [] ns (grown_node x e) k.distinct; holds = s.event ns fs x e a b k.holds };
  mark = λ ns fs i k. record { distinct = k.distinct; holds = s.mark ns fs i k.holds };
}

-- an event whose frames do not go out
pub unsent : (P : List Node → List Frame → Type 0) → Steps P → (ns : List Node) (fs : List Frame) (x : Node) (e : Event) → Accepts ns fs x e → P ns fs
    → P (put_node ns (grown_node x e)) fs
unsent P s ns fs x e a p = subst (λ (gs : List Frame). P (put_node ns (grown_node x e)) gs) (append-nil fs) (s.event ns fs x e a false p)

-- ---- a site stops and starts again

stop_one : (P : List Node → List Frame → Type 0) → Steps P → (old rest : List Node) (y : Node) (fs : List Frame) → find_node old (number_of y) ≡ None → P (old ++ y ∷ rest) fs
    → P (old ++ stopped y ∷ rest) fs
unfolding refusal verdict after_crash
stop_one P s old rest y fs none p =
    let y1 : Node = grown_node y Event.Crash in
    let here1 : find_node (old ++ y ∷ rest) (number_of y) ≡ Some y = find_behind old (y ∷ rest) (number_of y) none ∙ find_first y rest in
    let one : P (put_node (old ++ y ∷ rest) y1) fs =
    unsent P s (old ++ y ∷ rest) fs y Event.Crash (record { here = here1; ok = refl; came = λ a r i. cc (i); under = tt }) p in
    let at1 : put_node (old ++ y ∷ rest) y1 ≡ old ++ y1 ∷ rest = put_behind old (y ∷ rest) y1 none ∙ ap (λ (l : List Node). old ++ l) (put_first y y1 rest refl) in
    subst (λ (l : List Node). P l fs) at1 one

restart_one : (P : List Node → List Frame → Type 0) → Steps P → (old rest : List Node) (y : Node) (fs : List Frame) → find_node old (number_of y) ≡ None → P (old ++ y ∷ rest) fs
    → P (old ++ restarted y ∷ rest) fs
unfolding refusal verdict after_crash
restart_one P s old rest y fs none p =
    let y1 : Node = stopped y in
    let y2 : Node = grown_node y1 (Event.Declare y.superior) in
    let p1 : P (old ++ y1 ∷ rest) fs = stop_one P s old rest y fs none p in
    let here2 : find_node (old ++ y1 ∷ rest) (number_of y1) ≡ Some y1 = find_behind old (y1 ∷ rest) (number_of y1) none ∙ find_first y1 rest in
    let two : P (put_node (old ++ y1 ∷ rest) y2) fs =
    unsent P s (old ++ y1 ∷ rest) fs y1 (Event.Declare y.superior) (record { here = here2; ok = refl; came = λ a r i. cc (i); under = refl }) p1 in
    let at2 : put_node (old ++ y1 ∷ rest) y2 ≡ old ++ y2 ∷ rest = put_behind old (y1 ∷ rest) y2 none ∙ ap (λ (l : List Node). old ++ l) (put_first y1 y2 rest refl) in
    subst (λ (l : List Node). P l fs) at2 two

with_other : (y z : Node) → number_of z ≡ number_of y → (xs : List Node) (m : ℕ) → find_node (xs ++ y ∷ []) m ≡ None → find_node (xs ++ z ∷ []) m ≡ None
with_other y z same [] m h = grind (arith, nat_tests, same, h)
with_other y z same (x ∷ xs) m h = grind (arith, with_other y z same xs m)

-- where one node may have its other history, all of the site may
abbrev OneAnew : (Node → List Entry) → (List Node → List Frame → Type 0) → Type 0
OneAnew h P = (old rest : List Node) (y : Node) (fs : List Frame) → find_node old (number_of y) ≡ None → P (old ++ y ∷ rest) fs → P (old ++ anew h y ∷ rest) fs

all_anew : (h : Node → List Entry) (P : List Node → List Frame → Type 0) → OneAnew h P → (name : List ℕ) (old ns : List Node) (fs : List Frame) → AreDistinct old ns → P (old ++ ns) fs
    → P (old ++ anew_at h name ns) fs
all_anew h P one name old [] fs d p = p
all_anew h P one name old (y ∷ ns) fs d p = go (is_name (site_of y) name) (λ z. all_anew h P one name (old ++ z ∷ []) ns fs)
  where
    on : (z : Node) → number_of z ≡ number_of y → (AreDistinct (old ++ z ∷ []) ns → P ((old ++ z ∷ []) ++ ns) fs → P ((old ++ z ∷ []) ++ anew_at h name ns) fs)
        → P (old ++ z ∷ ns) fs → P (old ++ z ∷ anew_at h name ns) fs
    on z same rest q =
        let d' : AreDistinct (old ++ z ∷ []) ns = distinct_over (old ++ y ∷ []) (old ++ z ∷ []) ns (λ m i. with_other y z same old m i) d.1 in
        let q' : P ((old ++ z ∷ []) ++ ns) fs = subst (λ (l : List Node). P l fs) (sym (one_behind old ns z)) q in
        subst (λ (l : List Node). P l fs) (one_behind old (anew_at h name ns) z) (rest d' q')

    go : (b : Bool) → ((z : Node) → AreDistinct (old ++ z ∷ []) ns → P ((old ++ z ∷ []) ++ ns) fs → P ((old ++ z ∷ []) ++ anew_at h name ns) fs)
        → P (old ++ elim b [ true ↦ anew h y ∷ anew_at h name ns | false ↦ y ∷ anew_at h name ns ]) fs
    go true rest = on (anew h y) refl (rest (anew h y)) (one old ns y fs d.0 p)
    go false rest = on y refl (rest y) p

abbrev Holds : (List Node → List Frame → Type 0) → World → Type 0
Holds P w = Kept P w.nodes w.frames

start_holds : (h : Node → List Entry) (P : List Node → List Frame → Type 0) → OneAnew h (Kept P) → (w : World) (name : List ℕ) → Holds P w → Holds P (turn_anew h w name).world
start_holds h P one w name k = by_start (λ (v : World). Holds P v) h w name (λ i. k) (λ x i. all_anew h (Kept P) one name [] w.nodes w.frames k.distinct k)

pub crash_holds : (P : List Node → List Frame → Type 0) → Steps P → (w : World) (name : List ℕ) → Holds P w → Holds P (crash_turn w name).world
crash_holds P s w name k = start_holds restarts P (restart_one (Kept P) (kept_steps P s)) w name k

pub stop_holds : (P : List Node → List Frame → Type 0) → Steps P → (w : World) (name : List ℕ) → Holds P w → Holds P (stop_turn w name).world
stop_holds P s w name k = start_holds halts P (stop_one (Kept P) (kept_steps P s)) w name k
