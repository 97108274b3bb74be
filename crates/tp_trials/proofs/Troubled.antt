-- From what is computed of a run to a tree that is settled in its own time.
use Rattle.std.proofs.Common.{◌≡◌, ◌⊎◌, inl, inr, ℕ, Bool, true, false, refl, ap, sym, subst, ◌∙◌, Option, Some, None, List, [], ◌∷◌, ◌++◌, ◌==◌}
use Rattle.std.specs.List.{Any}
use Rattle.tp_names.specs.declared.identifiers.Addr.{Addr}
use Rattle.tp_records.specs.declared.peer.PeerRecord.{PeerRecord}
use Rattle.tp_model.specs.Parts.{Origin, Event, Out, Entry}
use Rattle.tp_model.specs.History.{digest}
use Rattle.tp_model.specs.World.{World, Node, Frame, number_of, addr_of, find_node}
use Rattle.tp_model.specs.Outcomes.{is_now, is_owed}
use Rattle.tp_model.specs.Happenings.{Happening}
use Rattle.tp_model.specs.Promises.{IsOf}
use Rattle.tp_histories.specs.Histories.{IsSentIn}
use Rattle.tp_failure_free.specs.Drained.{has_failed_in}
use Rattle.tp_failure_free.specs.DrainedWorlds.{HasCome, is_word_of, HasSaidIn}
use Rattle.tp_failure_free.specs.DrainedTrees.{IsSettledTree}
use Rattle.tp_steps.proofs.lemmas.Options.{some_same}
use Rattle.tp_steps.proofs.lemmas.Equality.{and_left, and_right}
use Rattle.tp_trials.specs.DrainedTrials.{world_after, takes_frame, taken_as, taken_at, takings, arrivals}
use Rattle.tp_trials.specs.TroubledTrials.{tree_of_three, is_inside, each_inside, is_each_inside, is_unowing, is_unfailed, has_answered, words_out, words_of, words_in}
use Rattle.tp_trials.proofs.Settled.{off, any_first, first_of, rest_of}

-- ---- a node of the tree among all

inside_found : (g : Node → Bool) (ns : List Node) (n : ℕ) (x : Node) → each_inside g ns ≡ true → find_node ns n ≡ Some x → is_inside x ≡ true → g x ≡ true
inside_found g [] n x all at own = absurd (cc (at))
inside_found g (y ∷ ys) n x all at own = step (number_of y == n) (inside_found g ys n x (and_right (here y) (each_inside g ys) all)) at
  where
    here : Node → Bool
    here z = elim (is_inside z) [ true ↦ g z | false ↦ true ]

    mine : here x ≡ true → g x ≡ true
    mine h = sym (ap (λ (b : Bool). elim b as (λ _. Bool) [ true ↦ g x | false ↦ true ]) own) ∙ h

    step : (b : Bool) → (find_node ys n ≡ Some x → is_inside x ≡ true → g x ≡ true) → elim b [ true ↦ Some y | false ↦ find_node ys n ] ≡ Some x → g x ≡ true
    step true later h = mine (sym (ap here (some_same y x h)) ∙ and_left (here y) (each_inside g ys) all)
    step false later h = later h own

-- ---- a word of the tree among all

IsAmong : Frame → List Frame → Type 0
IsAmong f [] = ⊥
IsAmong f (g ∷ gs) = (g ≡ f) ⊎ IsAmong f gs

among_first : (f : Frame) (xs ys : List Frame) → IsAmong f xs → IsAmong f (xs ++ ys)
unfolding IsAmong
among_first f [] ys h = absurd h
among_first f (x ∷ xs) ys (inl h) = inl h
among_first f (x ∷ xs) ys (inr h) = inr (among_first f xs ys h)

among_later : (f : Frame) (xs ys : List Frame) → IsAmong f ys → IsAmong f (xs ++ ys)
unfolding IsAmong
among_later f [] ys h = h
among_later f (x ∷ xs) ys h = inr (among_later f xs ys h)

word : Addr → Addr → PeerRecord → Frame
word from a r = record { from = from; to = a; rec = r; handed = false }

out_among : (now : Bool) (from a : Addr) (r : PeerRecord) (outs : List Out) → is_word_of tree_of_three now r ≡ true → IsSentIn outs a r → IsAmong (word from a r) (words_out now from outs)
unfolding IsAmong word
out_among now from a r [] is s = absurd s
out_among now from a r (Out.Tell i ∷ outs) is s = out_among now from a r outs is s
out_among now from a r (Out.Send b v ∷ outs) is s = step (is_word_of tree_of_three now v) refl s (out_among now from a r outs is)
  where
    both : (b : Addr) (v : PeerRecord) → b ≡ a → v ≡ r → word from b v ≡ word from a r
    both b v i j = rw (i, j) refl

    step : (w : Bool) → is_word_of tree_of_three now v ≡ w → IsSentIn (Out.Send b v ∷ outs) a r → (IsSentIn outs a r → IsAmong (word from a r) (words_out now from outs))
        → IsAmong (word from a r) (elim w [ true ↦ record { from = from; to = b; rec = v; handed = false } ∷ words_out now from outs | false ↦ words_out now from outs ])
    step true i (inl s) rest = inl (both b v s.0 s.1)
    step true i (inr s) rest = inr (rest s)
    step false i (inl s) rest = absurd (cc (sym i ∙ ap (is_word_of tree_of_three now) (s.1) ∙ is))
    step false i (inr s) rest = rest s

said_among : (o : Origin) (from a : Addr) (r : PeerRecord) (h : List Entry) → HasSaidIn o tree_of_three h a r → IsAmong (word from a r) (words_of o from h)
said_among o from a r [] s = absurd s
said_among o from a r (e ∷ h) (inl s) = among_first (word from a r) (words_out (is_now tree_of_three (digest o h).current) from e.outs) (words_of o from h) (out_among (is_now tree_of_three (digest o h).current) from a r e.outs s.0 s.1)
said_among o from a r (e ∷ h) (inr s) = among_later (word from a r) (words_out (is_now tree_of_three (digest o h).current) from e.outs) (words_of o from h) (said_among o from a r h s)

node_among : (f : Frame) (ns : List Node) (n : ℕ) (x : Node) → find_node ns n ≡ Some x → IsAmong f (words_of x.origin (addr_of x) x.history) → IsAmong f (words_in ns)
node_among f [] n x at s = absurd (cc (at))
node_among f (y ∷ ys) n x at s = step (number_of y == n) (λ i. node_among f ys n x i s) at
  where
    step : (b : Bool) → (find_node ys n ≡ Some x → IsAmong f (words_in ys)) → elim b [ true ↦ Some y | false ↦ find_node ys n ] ≡ Some x → IsAmong f (words_in (y ∷ ys))
    step true later h = among_first f (words_of y.origin (addr_of y) y.history) (words_in ys) (subst (λ (z : Node). IsAmong f (words_of z.origin (addr_of z) z.history)) (sym (some_same y x h)) s)
    step false later h = among_later f (words_of y.origin (addr_of y) y.history) (words_in ys) (later h)

-- ---- it came

taken_among : (w : World) (fs : List Frame) (f : Frame) → IsAmong f fs → takings w fs ≡ arrivals fs → taken_at w f ≡ Some (Event.Arrive f.from f.rec)
unfolding IsAmong first_of rest_of
taken_among w [] f s same = absurd s
taken_among w (g ∷ fs) f (inl s) same = subst (λ v. taken_at w v ≡ Some (Event.Arrive v.from v.rec)) s (ap first_of same)
taken_among w (g ∷ fs) f (inr s) same = taken_among w fs f s (ap rest_of same)

as_come : (f : Frame) (h : List Entry) → taken_as f h ≡ Some (Event.Arrive f.from f.rec) → HasCome h f.from f.rec
as_come f [] i = absurd (cc (i))
as_come f (e ∷ h) i = step (takes_frame f e.event) (as_come f h) i
  where
    step : (b : Bool) → (taken_as f h ≡ Some (Event.Arrive f.from f.rec) → HasCome h f.from f.rec) → elim b [ true ↦ Some e.event | false ↦ taken_as f h ] ≡ Some (Event.Arrive f.from f.rec) → HasCome (e ∷ h) f.from f.rec
    step true later j = inl (some_same e.event (Event.Arrive f.from f.rec) j)
    step false later j = inr (later j)

pub settled_in_time_by : (es : List Happening) → (world_after es).trees ≡ tree_of_three ∷ [] → takings (world_after es) (words_in (world_after es).nodes) ≡ arrivals (words_in (world_after es).nodes) → is_each_inside is_unowing es ≡ true → is_each_inside is_unfailed es ≡ true
    → is_each_inside has_answered es ≡ true → IsSettledTree (world_after es) tree_of_three
unfolding word
settled_in_time_by es trees same unowing unfailed answered =
    record {
      started = subst (Any (λ u. u ≡ tree_of_three)) (sym trees) (any_first (λ u. u ≡ tree_of_three) tree_of_three [] refl);
      drained = record { taken = came; settled = λ x of. off (is_owed x.origin tree_of_three x.history) (inside_found is_unowing w.nodes (number_of x) x unowing of.here of.of_tree) };
      unfailed = λ x of. off (has_failed_in x.origin tree_of_three x.history) (inside_found is_unfailed w.nodes (number_of x) x unfailed of.here of.of_tree);
      asked = λ x of. inside_found has_answered w.nodes (number_of x) x answered of.here of.of_tree;
    }
  where
    w : World
    w = world_after es

    came : (x z : Node) (a : Addr) (r : PeerRecord) → IsOf w tree_of_three x → HasSaidIn x.origin tree_of_three x.history a r → find_node w.nodes a.node ≡ Some z → HasCome z.history (addr_of x) r
    came x z a r of said there = as_come f z.history (sym (ap taking there) ∙ here)
      where
        f : Frame
        f = word (addr_of x) a r

        taking : Option Node → Option Event
        taking v = elim v [ None ↦ None | Some y ↦ taken_as f y.history ]

        here : taken_at w f ≡ Some (Event.Arrive f.from f.rec)
        here = taken_among w (words_in w.nodes) f (node_among f w.nodes (number_of x) x of.here (said_among x.origin (addr_of x) a r x.history said)) same
