-- From what is computed of a run to a tree that is settled in it.
use Rattle.std.proofs.Common.{◌≡◌, ◌<◌, ℕ, zero, suc, Bool, true, false, refl, ap, sym, subst, ◌∙◌, arith, Option, Some, None, List, [], ◌∷◌, ◌==◌, length}
use Rattle.std.specs.Prelude.{not}
use Rattle.std.specs.List.{Any, slice_index_or}
use Rattle.tp_model.specs.Parts.{Event, Entry}
use Rattle.tp_model.specs.World.{World, Node, Frame, number_of, find_node}
use Rattle.tp_model.specs.Outcomes.{is_owed, has_failed}
use Rattle.tp_model.specs.Happenings.{Happening}
use Rattle.tp_model.specs.Promises.{HasTaken}
use Rattle.tp_failure_free.specs.DrainedTrees.{IsSettled}
use Rattle.tp_steps.proofs.lemmas.Options.{some_same}
use Rattle.tp_steps.proofs.lemmas.Equality.{and_left, and_right}
use Rattle.tp_trials.specs.DrainedTrials.{tree_of_four, world_after, takes_frame, taken_as, taken_at, takings, arrivals, each_node, is_each, is_unowing, is_unfailed, has_answered}

pub off : (b : Bool) → not b ≡ true → b ≡ false
off true h = absurd (cc (h))
off false h = refl

each_found : (g : Node → Bool) (ns : List Node) (n : ℕ) (x : Node) → each_node g ns ≡ true → find_node ns n ≡ Some x → g x ≡ true
each_found g [] n x all at = absurd (cc (at))
each_found g (y ∷ ys) n x all at = step (number_of y == n) (each_found g ys n x (and_right (g y) (each_node g ys) all)) at
  where
    step : (b : Bool) → (find_node ys n ≡ Some x → g x ≡ true) → elim b [ true ↦ Some y | false ↦ find_node ys n ] ≡ Some x → g x ≡ true
    step true later h = sym (ap g (some_same y x h)) ∙ and_left (g y) (each_node g ys) all
    step false later h = later h

pub any_first : {X : Type 0} (P : X → Type 0) (x : X) (xs : List X) → P x → Any P (x ∷ xs)
any_first P x xs h = (0, x, omega arith, refl, h)

any_later : {X : Type 0} (P : X → Type 0) (x : X) (xs : List X) → Any P xs → Any P (x ∷ xs)
any_later P x xs h = (suc h.0, h.1, (let l = h.2 in omega (arith, l)), h.3, h.4)

as_taken : (f : Frame) (h : List Entry) (v : Event) → taken_as f h ≡ Some v → Any (λ e. e.event ≡ v) h
as_taken f [] v i = absurd (cc (i))
as_taken f (e ∷ h) v i = step (takes_frame f e.event) (as_taken f h v) i
  where
    step : (b : Bool) → (taken_as f h ≡ Some v → Any (λ z. z.event ≡ v) h) → elim b [ true ↦ Some e.event | false ↦ taken_as f h ] ≡ Some v → Any (λ z. z.event ≡ v) (e ∷ h)
    step true later j = any_first (λ z. z.event ≡ v) e h (some_same e.event v j)
    step false later j = any_later (λ z. z.event ≡ v) e h (later j)

unfoldable pub first_of : List (Option Event) → Option Event
first_of [] = None
first_of (v ∷ vs) = v

unfoldable pub rest_of : List (Option Event) → List (Option Event)
rest_of [] = []
rest_of (v ∷ vs) = vs

sent_at : (w : World) (fs : List Frame) (k : ℕ) (g : Frame) → k < length fs → slice_index_or fs k g ≡ g → takings w fs ≡ arrivals fs → taken_at w g ≡ Some (Event.Arrive g.from g.rec)
unfolding first_of rest_of
sent_at w [] k g l at same = absurd (omega (arith, l))
sent_at w (f ∷ fs) zero g l at same = subst (λ v. taken_at w v ≡ Some (Event.Arrive v.from v.rec)) at (ap first_of same)
sent_at w (f ∷ fs) (suc k) g l at same = sent_at w fs k g (less l) at (ap rest_of same)
  where
    less : suc k < suc (length fs) → k < length fs
    less i = omega (arith, i)

frame_taken : (w : World) (f : Frame) (y : Node) → takings w w.frames ≡ arrivals w.frames → Any (λ g. g ≡ f) w.frames → find_node w.nodes f.to.node ≡ Some y → HasTaken f y
frame_taken w f y same sent to = as_taken f y.history (Event.Arrive f.from f.rec) (sym (ap (taking) to) ∙ here)
  where
    taking : Option Node → Option Event
    taking v = elim v [ None ↦ None | Some z ↦ taken_as f z.history ]

    here : taken_at w f ≡ Some (Event.Arrive f.from f.rec)
    here = subst (λ v. taken_at w v ≡ Some (Event.Arrive v.from v.rec)) sent.4 (sent_at w w.frames sent.0 sent.1 sent.2 sent.3 same)

pub settled_by : (es : List Happening) → (world_after es).trees ≡ tree_of_four ∷ [] → takings (world_after es) (world_after es).frames ≡ arrivals (world_after es).frames → is_each is_unowing es ≡ true → is_each is_unfailed es ≡ true → is_each has_answered es ≡ true
    → IsSettled (world_after es) tree_of_four
settled_by es trees same unowing unfailed answered =
    record {
      started = subst (Any (λ u. u ≡ tree_of_four)) (sym trees) (any_first (λ u. u ≡ tree_of_four) tree_of_four [] refl);
      drained =
          record {
            taken = λ x y f of sent from to. frame_taken (world_after es) f y same sent to;
            settled = λ x of. off (is_owed x.origin tree_of_four x.history) (each_found is_unowing (world_after es).nodes (number_of x) x unowing of.here);
          };
      unfailed = λ x of. off (has_failed x.history) (each_found is_unfailed (world_after es).nodes (number_of x) x unfailed of.here);
      asked = λ x of. each_found has_answered (world_after es).nodes (number_of x) x answered of.here;
    }
