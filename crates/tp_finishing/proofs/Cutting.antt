-- Cuts make a world quiet, where each node may be cut: one cut after the other, at the first node that is not quiet.
use Rattle.std.proofs.Common.{if◌then◌else◌, ◌≡◌, ◌⊎◌, inl, inr, ℕ, zero, suc, ◌≤◌, ◌+◌, Bool, true, false, refl, ap, sym, subst, ◌∙◌, arith, Option, Some, None, List, [], ◌∷◌, ◌++◌, ◌&&◌, ◌||◌, ◌==◌, not, length, length-append, append_assoc}
use Rattle.std.proofs.lemmas.Bool.Decides.{nat_tests}
use Rattle.tp_names.specs.declared.identifiers.Addr.{Addr}
use Rattle.tp_names.specs.declared.outcome.Report.{Report}
use Rattle.tp_records.specs.declared.request.Request.{Request}
use Rattle.tp_model.specs.declared.arc.Phase.{Phase}
use Rattle.tp_model.specs.declared.line.Action.{Action}
use Rattle.tp_model.specs.declared.line.LineRequest.{LineRequest}
use Rattle.tp_model.specs.declared.transaction.TxEvent.{TxEvent}
use Rattle.tp_model.specs.Parts.{Who, Origin, Event, Arc, Current, Digest}
use Rattle.tp_model.specs.Links.{greatest, is_idle}
use Rattle.tp_model.specs.Dialogues.{is_nil, is_active, is_committing, is_rolling, is_late}
use Rattle.tp_model.specs.Arcs.{find_arc, link_of, link_with, is_live_with_peer}
use Rattle.tp_model.specs.Transactions.{is_own_commit, begin_rolling, roll, transacted, refused_tx}
use Rattle.tp_model.specs.Requests.{refused_request}
use Rattle.tp_model.specs.Node.{phase_of, seen}
use Rattle.tp_model.specs.Events.{refused_plainly, unless_missing, is_no_node}
use Rattle.tp_model.specs.World.{Node, number_of, find_node, put_node}
use Rattle.tp_model.specs.Happenings.{Happening, Does, task_of, run}
use Rattle.tp_model.specs.Promises.{IsIn}
use Rattle.tp_steps.specs.Moves.{IsPut}
use Rattle.tp_steps.specs.Ends.{are_separate}
use Rattle.tp_steps.proofs.lemmas.Options.{some_same}
use Rattle.tp_histories.specs.Worlds.{IsGood, grown_node}
use Rattle.tp_histories.proofs.marks.Separate.{separate_law}
use Rattle.tp_histories.proofs.trees.Above.{undeclared_idle}
use Rattle.tp_histories.proofs.trees.Late.{late_law}
use Rattle.tp_histories.proofs.worlds.Good.{good_run}
use Rattle.tp_finishing.specs.Doubt.{known_of}
use Rattle.tp_finishing.specs.Quiet.{IsQuietAt, IsQuiet, Each, Quietens}
use Rattle.tp_finishing.specs.Waiting.{WaitsFor}
use Rattle.tp_finishing.specs.Cuts.{IsCut, MayBeCut, AllMayBeCut, cuts_at, most_cuts, CutsQuieten}
use Rattle.tp_finishing.proofs.Awake.{has_node}
use Rattle.tp_finishing.proofs.Numbers.{drawn_law}
use Rattle.tp_finishing.proofs.Deliveries.{Takes, does_take, task_here, taken_here, taken_there}
use Rattle.tp_finishing.proofs.WaitingLaw.{rollbacks_wait}
use Rattle.tp_finishing.proofs.Losing.{Cut, loses_one, gone_alone, nil_remains, none_cut}
use Rattle.tp_finishing.proofs.Picks.{distinct_run, First, pick_first}
use Rattle.tp_finishing.proofs.Sites.{EachNode, nodes_found}
use Rattle.tp_finishing.proofs.Still.{left_by, Turned, quiet_turn}
use Rattle.tp_finishing.proofs.Taking.{Taken, taken_by, done_taken}
use Rattle.tp_finishing.proofs.Costs.{total_put}

-- ---- an arc of a node

-- none is idle
none_idle : (arcs : List Arc) → are_separate arcs ≡ true → (p : ℕ) (x : Arc) → find_arc arcs p ≡ Some x → is_idle x.link ≡ false
none_idle [] h p x i = absurd (cc (i))
none_idle (a ∷ arcs) h p x i = go (a.peer.node == p) i (none_idle arcs (grind (arith, h)) p x)
  where
    go : (b : Bool) → (if b then Some a else find_arc arcs p) ≡ Some x → (find_arc arcs p ≡ Some x → is_idle x.link ≡ false) → is_idle x.link ≡ false
    go true k rest = let same : a ≡ x = some_same a x k in subst (λ (z : Arc). is_idle z.link ≡ false) same (grind (arith, h))
    go false k rest = rest k

-- a node that has one is declared
arcs_declared : (o : Origin) (up : Option Addr) (x : Node) (a : Arc) (arcs : List Arc) → (known_of x).arcs ≡ a ∷ arcs → are_separate (known_of x).arcs ≡ true → ((p : ℕ) → (known_of x).declared ≡ false → is_idle (link_with (known_of x).arcs p) ≡ true) → is_no_node (known_of x) ≡ false
arcs_declared o up x a arcs are apart idle = go (known_of x).declared refl
  where
    self : (a.peer.node == a.peer.node) ≡ true
    self = grind (arith, nat_tests)

    found : find_arc (known_of x).arcs a.peer.node ≡ Some a
    found = ap (λ (l : List Arc). find_arc l a.peer.node) are ∙ rw (self, find_arc) refl

    go : (b : Bool) → (known_of x).declared ≡ b → is_no_node (known_of x) ≡ false
    go true i = rw (i, is_no_node) refl
    go false i = absurd (let off : is_idle (link_with (known_of x).arcs a.peer.node) ≡ false = ap (λ (v : Option Arc). is_idle (link_of v)) found ∙ none_idle (known_of x).arcs apart a.peer.node a found in let on = idle a.peer.node i in cc (off, on))

-- ---- a node without associations

rollback_put : (who : Who) (c : Current) → is_active c.phase ≡ true → IsPut (TxEvent.User Request.Rollback) (seen who [] c)
unfolding refused_tx
rollback_put who c act = record { late = late c.phase act; ok = λ h. rw (still_open c.phase act) refl; abort = λ p h. absurd (cc (h)); ordered = λ h. absurd (cc (h)); not_begun = λ arcs h. cc (h) }
  where
    late : (p : Phase) → is_active p ≡ true → is_nil p ≡ false
    late p h = grind (arith, h)

    still_open : (p : Phase) → is_active p ≡ true → is_late p ≡ false
    still_open p h = grind (arith, h)

-- what it leaves is nothing
rolled_alone : (who : Who) (c : Current) → (roll true (seen who [] c)).next.phase ≡ Phase.Nil
unfolding begin_rolling
rolled_alone who c = gone_alone who (record c { phase = Phase.Rolling; owes = false; decision = None; own = if is_own_commit (seen who [] c) then Report.Mix else c.own }) refl

done_alone : (who : Who) (c : Current) → c.phase ≡ Phase.Rolling → (transacted (TxEvent.User Request.Done) (seen who [] c)).next.phase ≡ Phase.Nil
done_alone who c h = ap (λ (p : Phase). (transacted (TxEvent.User Request.Done) (seen who [] (record c { phase = p }))).next.phase) h ∙ gone_alone who (record c { phase = Phase.Rolling; owes = false }) refl

-- an event that ends its transaction
ends_it : (who : Who) (d : Digest) (e : Event) (f : TxEvent) (c : Current) → d.arcs ≡ [] → d.current ≡ Some c → (is_active c.phase || is_rolling c.phase) ≡ true → Taken who d e (left_by who f d c) → (transacted f (seen who [] c)).next.phase ≡ Phase.Nil → Cut who d e
ends_it who d e f c none at busy taken over = record {
  ok = taken.ok;
  may = subst MayBeCut (sym taken.next_is) (none_cut (left_by who f d c) gone);
  less = subst (λ (z : Digest). suc (cuts_at z) ≤ cuts_at d) (sym taken.next_is) (lower (cuts_at (left_by who f d c)) (cuts_at d) nothing (one_more (length d.arcs) (cuts_at d) flag));
}
  where
    gone : (left_by who f d c).current ≡ None
    gone = nil_remains (transacted f (seen who [] c)).next over

    nothing : cuts_at (left_by who f d c) ≡ 0
    nothing = ap (λ (o : Option Current). 0 + (if is_active (elim o as (λ _. Phase) [ None ↦ Phase.Nil | Some u ↦ u.phase ]) || is_rolling (elim o as (λ _. Phase) [ None ↦ Phase.Nil | Some u ↦ u.phase ]) then 1 else 0)) gone

    flag : cuts_at d ≡ length d.arcs + 1
    flag = ap (λ (o : Option Current). length d.arcs + (if is_active (elim o as (λ _. Phase) [ None ↦ Phase.Nil | Some u ↦ u.phase ]) || is_rolling (elim o as (λ _. Phase) [ None ↦ Phase.Nil | Some u ↦ u.phase ]) then 1 else 0)) at ∙ ap (λ (b : Bool). length d.arcs + (if b then 1 else 0)) busy

    one_more : (m n : ℕ) → n ≡ m + 1 → 1 ≤ n
    one_more m n h = omega (arith, h)

    lower : (m n : ℕ) → m ≡ 0 → 1 ≤ n → suc m ≤ n
    lower m n h i = omega (arith, h, i)

rollback_taken : (who : Who) (d : Digest) (c : Current) → d.arcs ≡ [] → d.current ≡ Some c → is_active c.phase ≡ true → is_no_node d ≡ false → d.drawn ≤ greatest → Taken who d (Event.Do Request.Rollback) (left_by who (TxEvent.User Request.Rollback) d c)
unfolding refused_request
rollback_taken who d c none at act node h = taken_by who d (Event.Do Request.Rollback) (left_by who (TxEvent.User Request.Rollback) d c) plain (turned.numbers h) turned.next
  where
    turned : Turned who (TxEvent.User Request.Rollback) d c
    turned = quiet_turn who (TxEvent.User Request.Rollback) d c none at (rollback_put who c act)

    declared : (b : Bool) → unless_missing (not b && false) None ≡ None
    declared true = refl
    declared false = refl

    still_open : (p : Phase) → is_active p ≡ true → is_late p ≡ false
    still_open p i = grind (arith, i)

    plain : refused_plainly who d (Event.Do Request.Rollback) ≡ None
    plain = rw (node, at, refused_plainly) (rw (still_open c.phase act) (declared d.declared))

-- ---- the next cut

data Next (es : List Happening) (x : Node) : Type 0 where
  Loses : (p : ℕ) → Cut x.origin.who (known_of x) (Event.Lose p) → Next es x
  Finishes : Cut x.origin.who (known_of x) (Event.Do Request.Done) → Next es x
  Rolls : Cut x.origin.who (known_of x) (Event.Do Request.Rollback) → Next es x

is_busy : Node → Bool
is_busy x = elim (cuts_at (known_of x)) as (λ _. Bool) [ zero ↦ false | suc n ↦ true ]

next : (es : List Happening) (x : Node) → IsIn (run es) x → MayBeCut (known_of x) → is_busy x ≡ true → Next es x
unfolding is_busy
next es x here may busy = by (known_of x).arcs refl
  where
    good : IsGood (run es).nodes (run es).frames
    good = good_run es

    d : Digest
    d = known_of x

    drawn : d.drawn ≤ greatest
    drawn = drawn_law x.origin x.superior x.history (good.legal (number_of x) x here)

    apart : are_separate d.arcs ≡ true
    apart = separate_law x.origin x.superior x.history (good.legal (number_of x) x here)

    node : (c : Current) → d.current ≡ Some c → is_no_node d ≡ false
    node c at = has_node x.origin x.superior x.history c (good.fresh (number_of x) x here) (good.legal (number_of x) x here) at

    alone : (c : Current) → d.arcs ≡ [] → d.current ≡ Some c → (a b : Bool) → is_active c.phase ≡ a → is_rolling c.phase ≡ b → (a || b) ≡ true → Next es x
    alone c none at true b i j h = Rolls (ends_it x.origin.who d (Event.Do Request.Rollback) (TxEvent.User Request.Rollback) c none at (rw i refl) (rollback_taken x.origin.who d c none at i (node c at) drawn) (rolled_alone x.origin.who c))
    alone c none at false true i j h =
        let owes : c.owes ≡ true = owing c.owes refl in
        Finishes (ends_it x.origin.who d (Event.Do Request.Done) (TxEvent.User Request.Done) c none at (rw (i, j) refl) (done_taken x.origin.who d c none at owes (rw j (either (is_committing c.phase))) (node c at) drawn) (done_alone x.origin.who c (phase_is c.phase j)))
      where
        -- nobody is linked that it could wait for
        owing : (b : Bool) → c.owes ≡ b → b ≡ true
        owing true k = refl
        owing false k = absurd (let w : WaitsFor d.arcs c = rollbacks_wait es x here c at j k in let off : is_live_with_peer d.arcs w.peer ≡ false = ap (λ (arcs : List Arc). is_live_with_peer arcs w.peer) none in let on = w.linked in cc (on, off))

        phase_is : (p : Phase) → is_rolling p ≡ true → p ≡ Phase.Rolling
        phase_is Phase.Rolling k = refl
        phase_is p k = absurd (grind (arith, k))

        either : (v : Bool) → (v || true) ≡ true
        either v = grind arith
    alone c none at false false i j h = absurd (cc (h))

    idle : d.arcs ≡ [] → (o : Option Current) → d.current ≡ o → Next es x
    idle none None at = absurd (let off : is_busy x ≡ false = ap (λ (n : ℕ). elim n as (λ _. Bool) [ zero ↦ false | suc m ↦ true ]) (nothing none at) in cc (off, busy))
      where
        nothing : d.arcs ≡ [] → d.current ≡ None → cuts_at d ≡ 0
        nothing i j = ap (λ (l : List Arc). length l + (if is_active (phase_of d) || is_rolling (phase_of d) then 1 else 0)) i ∙ ap (λ (o : Option Current). 0 + (if is_active (elim o as (λ _. Phase) [ None ↦ Phase.Nil | Some u ↦ u.phase ]) || is_rolling (elim o as (λ _. Phase) [ None ↦ Phase.Nil | Some u ↦ u.phase ]) then 1 else 0)) j
    idle none (Some c) at = alone c none at (is_active c.phase) (is_rolling c.phase) refl refl (flagged (is_active c.phase || is_rolling c.phase) refl)
      where
        flagged : (b : Bool) → (is_active c.phase || is_rolling c.phase) ≡ b → b ≡ true
        flagged true i = refl
        flagged false i = absurd (let off : is_busy x ≡ false = ap (λ (n : ℕ). elim n as (λ _. Bool) [ zero ↦ false | suc m ↦ true ]) nothing in cc (off, busy))
          where
            nothing : cuts_at d ≡ 0
            nothing =
                ap (λ (l : List Arc). length l + (if is_active (phase_of d) || is_rolling (phase_of d) then 1 else 0)) none
                ∙ ap (λ (o : Option Current). 0 + (if is_active (elim o as (λ _. Phase) [ None ↦ Phase.Nil | Some u ↦ u.phase ]) || is_rolling (elim o as (λ _. Phase) [ None ↦ Phase.Nil | Some u ↦ u.phase ]) then 1 else 0)) at
                ∙ ap (λ (v : Bool). 0 + (if v then 1 else 0)) i

    by : (arcs : List Arc) → d.arcs ≡ arcs → Next es x
    by [] i = idle i d.current refl
    by (a ∷ arcs) i =
        let k = loses_one x.origin.who d a arcs i (none_idle d.arcs apart) (arcs_declared x.origin x.superior x a arcs i apart (λ p off. undeclared_idle x.origin x.superior x.history (good.legal (number_of x) x here) p off)) drawn (late_law x.origin x.superior x.history (good.legal (number_of x) x here)) (rollbacks_wait es x here) may in
        Loses k.0 k.1

-- ---- in a world

cuts_put : (ns : List Node) (x y : Node) → find_node ns (number_of y) ≡ Some x → most_cuts (put_node ns y) + cuts_at (known_of x) ≡ most_cuts ns + cuts_at (known_of y)
cuts_put ns x y h = total_put (λ z. cuts_at (known_of z)) most_cuts (λ z ns. refl) ns x y h

record Progress (es : List Happening) : Type 0 where
  line : Happening
  is : IsCut line
  may : AllMayBeCut (run (line ∷ es))
  less : suc (most_cuts (run (line ∷ es)).nodes) ≤ most_cuts (run es).nodes

progress : (es : List Happening) (x : Node) (a : Action) (e : Event) → AllMayBeCut (run es) → IsIn (run es) x → task_of (run es) a ≡ Some (record { node = x; event = e }) → IsCut (Does a) → Cut x.origin.who (known_of x) e → Progress es
progress es x a e all here task is cut = record { line = Does a; is = is; may = may; less = lower (most_cuts (run (Does a ∷ es)).nodes) (most_cuts (run es).nodes) (cuts_at (known_of (grown_node x e))) (cuts_at (known_of x)) cost cut.less }
  where
    takes : Takes (run es) x e (run (Does a ∷ es))
    takes = does_take (run es) a x e task cut.ok

    found : find_node (run (Does a ∷ es)).nodes (number_of x) ≡ Some (grown_node x e)
    found = taken_here (run es) (run (Does a ∷ es)) x e here takes

    cost : most_cuts (run (Does a ∷ es)).nodes + cuts_at (known_of x) ≡ most_cuts (run es).nodes + cuts_at (known_of (grown_node x e))
    cost = ap (λ (ns : List Node). most_cuts ns + cuts_at (known_of x)) takes.nodes ∙ cuts_put (run es).nodes x (grown_node x e) here

    lower : (v w m n : ℕ) → v + n ≡ w + m → suc m ≤ n → suc v ≤ w
    lower v w m n h i = omega (arith, h, i)

    may : AllMayBeCut (run (Does a ∷ es))
    may z there = go (number_of x == number_of z) refl
      where
        go : (b : Bool) → (number_of x == number_of z) ≡ b → MayBeCut (known_of z)
        go false i = all z (sym (taken_there (run es) (run (Does a ∷ es)) x e (number_of z) here takes i) ∙ there)
        go true i =
            let same : number_of x ≡ number_of z = grind (arith, nat_tests, i) in
            subst (λ (u : Node). MayBeCut (known_of u)) (some_same (grown_node x e) z (sym found ∙ ap (find_node (run (Does a ∷ es)).nodes) same ∙ there)) cut.may

of_next : (es : List Happening) (x : Node) → AllMayBeCut (run es) → IsIn (run es) x → Next es x → Progress es
of_next es x all here (Loses p cut) = progress es x (Action.Lose (number_of x) p) (Event.Lose p) all here (task_here (run es) x (Event.Lose p) here) tt cut
of_next es x all here (Finishes cut) = progress es x (Action.Do (number_of x) LineRequest.Done) (Event.Do Request.Done) all here (task_here (run es) x (Event.Do Request.Done) here) tt cut
of_next es x all here (Rolls cut) = progress es x (Action.Do (number_of x) LineRequest.Rollback) (Event.Do Request.Rollback) all here (task_here (run es) x (Event.Do Request.Rollback) here) tt cut

-- a node that is not busy is quiet
quiet_idle : (x : Node) → is_busy x ≡ false → IsQuietAt (known_of x)
unfolding is_busy
quiet_idle x h = record { arcs = empty (known_of x).arcs refl; active = (flags (is_active (phase_of (known_of x))) (is_rolling (phase_of (known_of x))) refl refl).0; rolling = (flags (is_active (phase_of (known_of x))) (is_rolling (phase_of (known_of x))) refl refl).1 }
  where
    zero_is : (n : ℕ) → elim n as (λ _. Bool) [ zero ↦ false | suc m ↦ true ] ≡ false → n ≡ 0
    zero_is zero i = refl
    zero_is (suc n) i = absurd (cc (i))

    none : cuts_at (known_of x) ≡ 0
    none = zero_is (cuts_at (known_of x)) h

    empty : (arcs : List Arc) → (known_of x).arcs ≡ arcs → arcs ≡ []
    empty [] i = refl
    empty (a ∷ arcs) i = absurd (off (length arcs) (if is_active (phase_of (known_of x)) || is_rolling (phase_of (known_of x)) then 1 else 0) (ap (λ (l : List Arc). length l + (if is_active (phase_of (known_of x)) || is_rolling (phase_of (known_of x)) then 1 else 0)) (sym i) ∙ none))
      where
        off : (m n : ℕ) → suc m + n ≡ 0 → ⊥
        off m n j = omega (arith, j)

    flags : (a b : Bool) → is_active (phase_of (known_of x)) ≡ a → is_rolling (phase_of (known_of x)) ≡ b → (a ≡ false) × (b ≡ false)
    flags false false i j = (refl, refl)
    flags true b i j = absurd (off (length (known_of x).arcs) (sym (rw (i) refl) ∙ none))
      where
        off : (m : ℕ) → m + 1 ≡ 0 → ⊥
        off m k = omega (arith, k)
    flags false true i j = absurd (off (length (known_of x).arcs) (sym (rw (i, j) refl) ∙ none))
      where
        off : (m : ℕ) → m + 1 ≡ 0 → ⊥
        off m k = omega (arith, k)

step : (es : List Happening) → AllMayBeCut (run es) → IsQuiet (run es) ⊎ Progress es
step es all = go (pick_first is_busy (run es).nodes (distinct_run es))
  where
    go : EachNode (λ z. is_busy z ≡ false) (run es).nodes ⊎ First is_busy (run es).nodes → IsQuiet (run es) ⊎ Progress es
    go (inl none) = inl (λ z there. quiet_idle z (nodes_found (λ v. is_busy v ≡ false) (run es).nodes (number_of z) z none there))
    go (inr r) = inr (of_next es r.node all r.here (next es r.node r.here (all r.node r.here) r.is))

pub each_append : (P : Happening → Type 0) (xs ys : List Happening) → Each P xs → Each P ys → Each P (xs ++ ys)
each_append P [] ys h i = i
each_append P (x ∷ xs) ys h i = (h.0, each_append P xs ys h.1 i)

pub joined : (xs ys zs : List Happening) → (xs ++ ys) ++ zs ≡ xs ++ (ys ++ zs)
joined xs ys zs = simp append_assoc

after_one : (es : List Happening) (n : ℕ) → (p : Progress es) → (more : List Happening) × Quietens IsCut n (p.line ∷ es) more → suc n ≤ most_cuts (run es).nodes → (more : List Happening) × Quietens IsCut (most_cuts (run es).nodes) es more
after_one es n p rest less = (
  rest.0 ++ p.line ∷ [],
  record {
    by = each_append IsCut rest.0 (p.line ∷ []) rest.1.by (p.is, tt);
    short = short (length (rest.0 ++ p.line ∷ [])) (length rest.0) n (most_cuts (run es).nodes) (length-append rest.0 (p.line ∷ [])) rest.1.short less;
    quiet = subst (λ (l : List Happening). IsQuiet (run l)) (sym (joined rest.0 (p.line ∷ []) es)) rest.1.quiet;
  },
)
  where
    short : (l m n k : ℕ) → l ≡ m + 1 → m ≤ n → suc n ≤ k → l ≤ k
    short l m n k h i j = omega (arith, h, i, j)

cut_all : (fuel : ℕ) (es : List Happening) → AllMayBeCut (run es) → most_cuts (run es).nodes ≤ fuel → (more : List Happening) × Quietens IsCut (most_cuts (run es).nodes) es more
cut_all zero es all most = go (step es all)
  where
    none : (a : ℕ) → suc a ≤ most_cuts (run es).nodes → ⊥
    none a h = omega (arith, most, h)

    go : IsQuiet (run es) ⊎ Progress es → (more : List Happening) × Quietens IsCut (most_cuts (run es).nodes) es more
    go (inl quiet) = ([], record { by = tt; short = omega arith; quiet = quiet })
    go (inr p) = absurd (none (most_cuts (run (p.line ∷ es)).nodes) p.less)
cut_all (suc fuel) es all most = go (step es all) (λ p less. cut_all fuel (p.line ∷ es) p.may less)
  where
    lower : (a : ℕ) → suc a ≤ most_cuts (run es).nodes → a ≤ fuel
    lower a h = omega (arith, most, h)

    go : IsQuiet (run es) ⊎ Progress es → ((p : Progress es) → most_cuts (run (p.line ∷ es)).nodes ≤ fuel → (more : List Happening) × Quietens IsCut (most_cuts (run (p.line ∷ es)).nodes) (p.line ∷ es) more) → (more : List Happening) × Quietens IsCut (most_cuts (run es).nodes) es more
    go (inl quiet) rest = ([], record { by = tt; short = omega arith; quiet = quiet })
    go (inr p) rest = after_one es (most_cuts (run (p.line ∷ es)).nodes) p (rest p (lower (most_cuts (run (p.line ∷ es)).nodes) p.less)) p.less

pub cuts_quieten : CutsQuieten
cuts_quieten es all = cut_all (most_cuts (run es).nodes) es all (omega arith)
