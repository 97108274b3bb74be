-- From every quiet world recovery alone ends all transactions, in so many lines.
use Rattle.std.proofs.Common.{◌≡◌, ◌⊎◌, inl, inr, ℕ, zero, suc, ◌≤◌, ◌<◌, ◌+◌, Bool, true, false, refl, ap, sym, subst, ◌∙◌, arith, Option, Some, None, List, [], ◌∷◌, ◌++◌, ◌&&◌, not, length, length-append}
use Rattle.std.proofs.lemmas.Bool.Decides.{nat_tests}
use Rattle.tp_names.specs.declared.identifiers.Addr.{Addr}
use Rattle.tp_names.specs.declared.children.Child.{Child}
use Rattle.tp_model.specs.declared.arc.Phase.{Phase}
use Rattle.tp_model.specs.declared.line.Action.{Action}
use Rattle.tp_model.specs.declared.line.LineRequest.{LineRequest}
use Rattle.tp_model.specs.declared.recovery.Kept.{Kept}
use Rattle.tp_model.specs.Parts.{Key, Root, Under, Current, Digest}
use Rattle.tp_model.specs.Dialogues.{is_nil, is_active, is_ready, is_committing, is_rolling}
use Rattle.tp_model.specs.Transactions.{node_key, superior_of}
use Rattle.tp_model.specs.Recovery.{is_commit, is_root_key}
use Rattle.tp_model.specs.Node.{phase_of}
use Rattle.tp_model.specs.Questions.{is_at}
use Rattle.tp_model.specs.World.{World, Node, number_of, addr_of}
use Rattle.tp_model.specs.Parts.{Entry}
use Rattle.tp_model.specs.History.{answer}
use Rattle.tp_model.specs.Happenings.{Happening, Does, Task, task_of, frames_of, logged, world_with_entry, entry_turn, action_turn, happens, run}
use Rattle.tp_histories.proofs.worlds.Traversal.{logged_frames}
use Rattle.tp_model.specs.Promises.{IsIn}
use Rattle.tp_histories.specs.Worlds.{place, Above}
use Rattle.tp_histories.proofs.trees.Late.{late_law}
use Rattle.tp_histories.proofs.worlds.Good.{good_run}
use Rattle.tp_finishing.specs.Doubt.{known_of}
use Rattle.tp_finishing.specs.Quiet.{IsQuiet, Each, IsStop, Quietens}
use Rattle.tp_finishing.specs.Cuts.{IsCut, most_cuts}
use Rattle.tp_finishing.specs.Finishing.{IsRecovery, IsOver, most_lines, NoRunIsStuck, EndsBy, EveryRunEnds, CutsEnd}
use Rattle.tp_finishing.proofs.Kindred.{KeyAt, FitsKept, AllFit}
use Rattle.tp_finishing.proofs.Closed.{over_is_closed}
use Rattle.tp_finishing.proofs.Stops.{stops_quieten}
use Rattle.tp_finishing.proofs.Cutting.{each_append, joined, cuts_quieten}
use Rattle.tp_finishing.proofs.Sites.{EachNode, nodes_found}
use Rattle.tp_finishing.proofs.Picks.{distinct_run, First, Last, pick_first, pick_last}
use Rattle.tp_finishing.proofs.Doubts.{IsSuperiorAt, IsBranchAt, fit_run}
use Rattle.tp_finishing.proofs.Exchanges.{Progress, finishes, answers}
use Rattle.tp_finishing.proofs.Owed.{AreIdle, asks_branch, asks_kept, forgets_kept, purges}

-- ---- what is next

-- a superior stands before the nodes below it
before : (es : List Happening) (x z : Node) → IsIn (run es) x → IsIn (run es) z → is_at x.superior (number_of z) ≡ true → suc (place (run es).nodes (number_of z)) ≤ place (run es).nodes (number_of x)
before es x z here there up = go x.superior refl up
  where
    go : (o : Option Addr) → x.superior ≡ o → is_at o (number_of z) ≡ true → suc (place (run es).nodes (number_of z)) ≤ place (run es).nodes (number_of x)
    go None i h = absurd (cc (h))
    go (Some a) i h =
        let above : Above (run es).nodes a (number_of x) = (good_run es).above (number_of x) x a here i in
        let same : a.node ≡ number_of z = grind (arith, nat_tests, h) in
        subst (λ (n : ℕ). suc (place (run es).nodes n) ≤ place (run es).nodes (number_of x)) same above.before

is_in_doubt : Node → Bool
is_in_doubt x = is_ready (phase_of (known_of x))

is_under_way : Node → Bool
is_under_way x = is_committing (phase_of (known_of x))

keeps_some : List Kept → Bool
keeps_some [] = false
keeps_some (k ∷ ks) = true

has_kept : Node → Bool
has_kept x = keeps_some (known_of x).kept

-- the transaction of a node in that phase
current_in : (f : Phase → Bool) (d : Digest) → f Phase.Nil ≡ false → f (phase_of d) ≡ true → (c : Current) × (d.current ≡ Some c) × (f c.phase ≡ true)
current_in f d nil h = go d.current refl h
  where
    go : (o : Option Current) → d.current ≡ o → f (elim o as (λ _. Phase) [ None ↦ Phase.Nil | Some c ↦ c.phase ]) ≡ true → (c : Current) × (d.current ≡ Some c) × (f c.phase ≡ true)
    go None i k = absurd (cc (nil, k))
    go (Some c) i k = (c, i, k)

-- a node in doubt is answered; the first one, so that its superior is not in doubt
in_doubt : (es : List Happening) → IsQuiet (run es) → First is_in_doubt (run es).nodes → Progress es
unfolding is_in_doubt
in_doubt es quiet r =
    let c = current_in is_ready (known_of r.node) refl r.is in
    answers es r.node c.0 quiet r.here c.1 c.2 (λ z there up. r.before (number_of z) z there (before es r.node z r.here there up))

-- a node that commits finishes, or asks a branch; the last one, so that no branch of it commits
under_way : (es : List Happening) → IsQuiet (run es) → EachNode (λ z. is_in_doubt z ≡ false) (run es).nodes → Last is_under_way (run es).nodes → Progress es
unfolding is_in_doubt is_under_way
under_way es quiet none r = go (current_in is_committing (known_of r.node) refl r.is)
  where
    phases : (p : Phase) → is_nil p ≡ false → is_active p ≡ false → is_rolling p ≡ false → is_ready p ≡ false → is_committing p ≡ false → ⊥
    phases p a b c d e = absurd (grind (arith, a, b, c, d, e))

    still : (z : Node) (u : Current) → IsIn (run es) z → (known_of z).current ≡ Some u → is_at z.superior (number_of r.node) ≡ true → ⊥
    still z u there at up =
        phases (phase_of (known_of z)) (ap (λ (o : Option Current). is_nil (elim o as (λ _. Phase) [ None ↦ Phase.Nil | Some c ↦ c.phase ])) at ∙ late_law z.origin z.superior z.history ((good_run es).legal (number_of z) z there) u at) (quiet z there).active (quiet z there).rolling
        (nodes_found (λ v. is_in_doubt v ≡ false) (run es).nodes (number_of z) z none there) (r.behind (number_of z) z there (before es z r.node there r.here up))

    go : (c : Current) × ((known_of r.node).current ≡ Some c) × (is_committing c.phase ≡ true) → Progress es
    go c = by c.0.owes refl
      where
        by : (b : Bool) → c.0.owes ≡ b → Progress es
        by true i = finishes es r.node c.0 quiet r.here c.1 c.2 i
        by false i = asks_branch es r.node c.0 quiet r.here c.1 c.2 i still

-- what a node keeps is asked for, let forget, or purged
kept_next : (es : List Happening) (x : Node) (k : Kept) (ks : List Kept) → IsQuiet (run es) → AreIdle (run es) → IsIn (run es) x → (known_of x).kept ≡ k ∷ ks → Progress es
kept_next es x k ks quiet idle here kept = go k.owed refl
  where
    head : {l : List Kept} → AllFit (IsSuperiorAt (run es) x) (IsBranchAt (run es) x) l → l ≡ k ∷ ks → FitsKept (IsSuperiorAt (run es) x) (IsBranchAt (run es) x) k
    head h i = (subst (AllFit (IsSuperiorAt (run es) x) (IsBranchAt (run es) x)) i h).0

    fit : FitsKept (IsSuperiorAt (run es) x) (IsBranchAt (run es) x) k
    fit = head (fit_run es x here).1 kept

    alone : k.owed ≡ [] → (j : Key) → fit.0 ≡ j → (b : Bool) → is_commit k.side ≡ b → Progress es
    alone none (Under t b a) i true m = forgets_kept es x k ks t b a quiet idle here kept none m (fit.1 ∙ ap node_key i) (fit.2 ∙ ap superior_of i) (subst (λ (v : Key). KeyAt (IsSuperiorAt (run es) x) v) i fit.3)
    alone none (Root t) i true m = purges es x k ks quiet idle here kept none (ap (λ (v : _). is_commit k.side && not (is_root_key v)) (fit.1 ∙ ap node_key i) ∙ rw m refl)
    alone none j i false m = purges es x k ks quiet idle here kept none (rw m refl)

    go : (cs : List Child) → k.owed ≡ cs → Progress es
    go [] i = alone i fit.0 refl (is_commit k.side) refl
    go (c ∷ cs) i = asks_kept es x k ks c cs quiet idle here kept i

kept_by_some : (es : List Happening) → IsQuiet (run es) → AreIdle (run es) → First has_kept (run es).nodes → Progress es
unfolding has_kept keeps_some
kept_by_some es quiet idle r = go (known_of r.node).kept refl r.is
  where
    go : (ks : List Kept) → (known_of r.node).kept ≡ ks → keeps_some ks ≡ true → Progress es
    go [] i h = absurd (cc (h))
    go (k ∷ ks) i h = kept_next es r.node k ks quiet idle r.here i

-- all is over, or something is next
next : (es : List Happening) → IsQuiet (run es) → IsOver (run es) ⊎ Progress es
unfolding is_in_doubt is_under_way has_kept keeps_some
next es quiet = doubts (pick_first is_in_doubt (run es).nodes (distinct_run es))
  where
    phases : (p : Phase) → is_nil p ≡ false → is_active p ≡ false → is_rolling p ≡ false → is_ready p ≡ false → is_committing p ≡ false → ⊥
    phases p a b c d e = absurd (grind (arith, a, b, c, d, e))

    idle : EachNode (λ z. is_in_doubt z ≡ false) (run es).nodes → EachNode (λ z. is_under_way z ≡ false) (run es).nodes → AreIdle (run es)
    idle none less z there = go (known_of z).current refl
      where
        go : (o : Option Current) → (known_of z).current ≡ o → (known_of z).current ≡ None
        go None i = i
        go (Some u) i =
            absurd (phases (phase_of (known_of z)) (ap (λ (o : Option Current). is_nil (elim o as (λ _. Phase) [ None ↦ Phase.Nil | Some c ↦ c.phase ])) i ∙ late_law z.origin z.superior z.history ((good_run es).legal (number_of z) z there) u i) (quiet z there).active (quiet z there).rolling
            (nodes_found (λ v. is_in_doubt v ≡ false) (run es).nodes (number_of z) z none there) (nodes_found (λ v. is_under_way v ≡ false) (run es).nodes (number_of z) z less there))

    empty : (ks : List Kept) → keeps_some ks ≡ false → ks ≡ []
    empty [] h = refl
    empty (k ∷ ks) h = absurd (cc (h))

    keeps : AreIdle (run es) → EachNode (λ z. has_kept z ≡ false) (run es).nodes ⊎ First has_kept (run es).nodes → IsOver (run es) ⊎ Progress es
    keeps still (inl none) = inl (λ z there. record { current = still z there; kept = empty (known_of z).kept (nodes_found (λ v. has_kept v ≡ false) (run es).nodes (number_of z) z none there) })
    keeps still (inr r) = inr (kept_by_some es quiet still r)

    ways : EachNode (λ z. is_in_doubt z ≡ false) (run es).nodes → EachNode (λ z. is_under_way z ≡ false) (run es).nodes ⊎ Last is_under_way (run es).nodes → IsOver (run es) ⊎ Progress es
    ways none (inl less) = keeps (idle none less) (pick_first has_kept (run es).nodes (distinct_run es))
    ways none (inr r) = inr (under_way es quiet none r)

    doubts : EachNode (λ z. is_in_doubt z ≡ false) (run es).nodes ⊎ First is_in_doubt (run es).nodes → IsOver (run es) ⊎ Progress es
    doubts (inl none) = ways none (pick_last is_under_way (run es).nodes (distinct_run es))
    doubts (inr r) = inr (in_doubt es quiet r)

-- ---- and so on, as long as something costs

-- lines of recovery that were written earlier
each_more : (m n : ℕ) (es : List Happening) → m ≤ n → Each (IsRecovery n) es → Each (IsRecovery m) es
each_more m n [] less h = tt
each_more m n (e ∷ es) less h = (one e h.0, each_more m n es less h.1)
  where
    lower : (k : ℕ) → n < k → m < k
    lower k i = omega (arith, less, i)

    one : (e : Happening) → IsRecovery n e → IsRecovery m e
    one (Does (Action.Retry k)) h = tt
    one (Does (Action.Purge k)) h = tt
    one (Does (Action.Again k)) h = lower k h
    one (Does (Action.Do k LineRequest.Done)) h = tt
    one e h = absurd (grind (arith, h))

-- the frames stay
logged_grow : (w : World) (x : Node) (number : Option ℕ) (o : Option Entry) → length w.frames ≤ length (entry_turn w x number o).world.frames
logged_grow w x number None = omega arith
logged_grow w x number (Some e) =
    let same = ap length (logged_frames (world_with_entry w x e) x e.rec) in
    let more = length-append (logged (world_with_entry w x e) x e.rec).frames (frames_of (addr_of x) e.outs) in
    omega (arith, same, more)

does_grow : (w : World) (d : Action) → length w.frames ≤ length (action_turn w d).world.frames
does_grow w d = go (task_of w d) refl
  where
    go : (o : Option Task) → task_of w d ≡ o → length w.frames ≤ length (action_turn w d).world.frames
    go None i = rw (i, action_turn) (omega arith)
    go (Some t) i = rw (i, action_turn) (logged_grow w t.node (answer t.node.origin t.node.history t.event).number (answer t.node.origin t.node.history t.event).entry)

recovery_grows : (n : ℕ) (w : World) (e : Happening) → IsRecovery n e → length w.frames ≤ length (happens w e).world.frames
recovery_grows n w (Does d) h = does_grow w d
recovery_grows n w e h = absurd (grind (arith, h))

all_grow : (n : ℕ) (es more : List Happening) → Each (IsRecovery n) more → length (run es).frames ≤ length (run (more ++ es)).frames
all_grow n es [] h = omega arith
all_grow n es (e ∷ more) h = let one = recovery_grows n (run (more ++ es)) e h.0 in let rest = all_grow n es more h.1 in omega (arith, one, rest)

record Ends (es : List Happening) : Type 0 where
  more : List Happening
  recovers : Each (IsRecovery (length (run es).frames)) more
  short : length more ≤ most_lines (run es).nodes
  over : IsOver (run (more ++ es))

-- what is done after some progress
ends_after : (es : List Happening) → (p : Progress es) → Ends (p.more ++ es) → Ends es
ends_after es p e = record {
  more = e.more ++ p.more;
  recovers = each_append (IsRecovery (length (run es).frames)) e.more p.more (each_more (length (run es).frames) (length (run (p.more ++ es)).frames) e.more (all_grow (length (run es).frames) es p.more p.recovers) e.recovers) p.recovers;
  short = total (length (e.more ++ p.more)) (length e.more) (length p.more) (most_lines (run (p.more ++ es)).nodes) (most_lines (run es).nodes) (length-append e.more p.more) e.short p.less;
  over = subst (λ (l : List Happening). IsOver (run l)) (sym (joined e.more p.more es)) e.over;
}
  where
    total : (l a b c d : ℕ) → l ≡ a + b → a ≤ c → c + b ≤ d → l ≤ d
    total l a b c d h i j = omega (arith, h, i, j)

finish : (fuel : ℕ) (es : List Happening) → IsQuiet (run es) → most_lines (run es).nodes ≤ fuel → Ends es
finish zero es quiet most = go (next es quiet)
  where
    none : (a b : ℕ) → a + b ≤ most_lines (run es).nodes → 1 ≤ b → ⊥
    none a b h i = omega (arith, most, h, i)

    go : IsOver (run es) ⊎ Progress es → Ends es
    go (inl over) = record { more = []; recovers = tt; short = omega arith; over = over }
    go (inr p) = absurd (none (most_lines (run (p.more ++ es)).nodes) (length p.more) p.less p.some)
finish (suc fuel) es quiet most = go (next es quiet) (λ p less. finish fuel (p.more ++ es) p.quiet less)
  where
    lower : (a b : ℕ) → a + b ≤ most_lines (run es).nodes → 1 ≤ b → a ≤ fuel
    lower a b h i = omega (arith, most, h, i)

    go : IsOver (run es) ⊎ Progress es → ((p : Progress es) → most_lines (run (p.more ++ es)).nodes ≤ fuel → Ends (p.more ++ es)) → Ends es
    go (inl over) rest = record { more = []; recovers = tt; short = omega arith; over = over }
    go (inr p) rest = ends_after es p (rest p (lower (most_lines (run (p.more ++ es)).nodes) (length p.more) p.less p.some))

pub no_run_is_stuck : NoRunIsStuck
no_run_is_stuck es quiet =
    let f : Ends es = finish (most_lines (run es).nodes) es quiet (omega arith) in
    (f.more, record { recovers = f.recovers; short = f.short; over = f.over; closed = over_is_closed (f.more ++ es) f.over })

-- after lines that make the world quiet
ends_after_quiet : (P : Happening → Type 0) (most : ℕ) (es : List Happening) → (first : List Happening) × Quietens P most es first → (first : List Happening) × (more : List Happening) × EndsBy P most es first more
ends_after_quiet P most es q = let f = no_run_is_stuck (q.0 ++ es) q.1.quiet in (q.0, f.0, record { by = q.1.by; few = q.1.short; finishes = f.1 })

pub every_run_ends : EveryRunEnds
every_run_ends es = ends_after_quiet IsStop (length (run es).sites) es (stops_quieten es)

pub cuts_end : CutsEnd
cuts_end es may = ends_after_quiet IsCut (most_cuts (run es).nodes) es (cuts_quieten es may)
