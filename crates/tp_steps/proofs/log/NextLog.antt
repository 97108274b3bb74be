-- The record of a turn, and that of a kept transaction, follow those that tell what is current and kept.
use Rattle.std.proofs.Common.{◌≡◌, inl, inr, ℕ, Bool, true, false, refl, ap, sym, subst, ◌∙◌, arith, Option, Some, None, List, [], ◌∷◌, ◌&&◌, ◌||◌, if◌then◌else◌}
use Rattle.std.specs.Prelude.{nat_le}
use Rattle.std.proofs.lemmas.Bool.Decides.{nat_tests}
use Rattle.tp_names.specs.declared.identifiers.NodeKey.{NodeKey}
use Rattle.tp_names.specs.declared.identifiers.BranchId.{BranchId}
use Rattle.tp_names.specs.declared.identifiers.Addr.{Addr}
use Rattle.tp_names.specs.declared.children.Child.{Child}
use Rattle.tp_names.specs.declared.outcome.Outcome.{Outcome}
use Rattle.tp_names.specs.declared.outcome.Report.{Report}
use Rattle.tp_names.specs.Same.{is_branch, is_addr}
use Rattle.tp_logrec.specs.declared.record.LogRec.{LogRec}
use Rattle.tp_logrec.specs.declared.owner.Owner.{Owner}
use Rattle.tp_logrec.specs.Order.{owner, owner_of, is_ready, is_heuristic, is_commit, is_bound, holds, is_as_ready, is_ready_of, is_child, are_children, are_among, may_owe, may_end, is_decision, has_superior, last_from, last_boot_from, bound, is_free, follows}
use Rattle.tp_logrec.proofs.BoundKeys.{loose_is_free}
use Rattle.tp_model.specs.declared.arc.Phase.{Phase}
use Rattle.tp_model.specs.declared.recovery.Kept.{Kept}
use Rattle.tp_model.specs.declared.recovery.KeptEvent.{KeptEvent}
use Rattle.tp_model.specs.Parts.{Key, Root, Under, Current}
use Rattle.tp_model.specs.Dialogues.{is_ready as is_ready_phase}
use Rattle.tp_model.specs.Transactions.{node_key, superior_of, is_under}
use Rattle.tp_model.specs.Recovery.{is_commit as is_commitment, find_owed, without_owed, is_nothing_owed, rec_of_done, settled, not_forgotten}
use Rattle.tp_model.specs.Events.{recovered, fresh_branches}
use Rattle.tp_steps.specs.Moves.{StandsIn}
use Rattle.tp_steps.specs.Standing.{AreApart}
use Rattle.tp_steps.specs.Trees.{children_in}
use Rattle.tp_steps.proofs.lemmas.Equality.{both_true}
use Rattle.tp_steps.proofs.log.NextTurns.{is_own_commitment, IsOrderable, IsNext, addr_self, child_self, among_more}
use Rattle.tp_steps.proofs.log.StandLog.{last_at, ready_at, told_last, StandsReady, StandsOrdered, Stands, Nothing, Voted, Ordered, IsKept, AreKept, IsFit, bound_absent}

-- ---- what stands of a transaction that is named

children_fresh : (cs : List Child) → children_in (fresh_branches cs) ≡ cs
children_fresh [] = refl
children_fresh (c ∷ cs) = ap (λ (ds : List Child). c ∷ ds) (children_fresh cs)

fresh_same : (cs ds : List Child) → fresh_branches cs ≡ fresh_branches ds → cs ≡ ds
fresh_same cs ds h = sym (children_fresh cs) ∙ ap children_in h ∙ children_fresh ds

voted_of : (n : ℕ) (ps : List LogRec) (o : Option Current) (k : Key) (ds : List Child) (u : Option Outcome) → Stands n ps o → o ≡ Some (recovered k Phase.Ready (fresh_branches ds) u) → StandsReady n ps k ds u
voted_of n ps o k ds u (Nothing i) is = let off : None ≡ Some (recovered k Phase.Ready (fresh_branches ds) u) = sym i ∙ is in absurd (cc (off))
voted_of n ps o k ds u (Voted j es v i s) is =
    let one : Some (recovered j Phase.Ready (fresh_branches es) v) ≡ Some (recovered k Phase.Ready (fresh_branches ds) u) = sym i ∙ is in
    let same : recovered j Phase.Ready (fresh_branches es) v ≡ recovered k Phase.Ready (fresh_branches ds) u = cc (one) in
    subst (λ (x : Option Outcome). StandsReady n ps k ds x) (ap (λ (c : Current). c.decision) same)
    (subst (λ (xs : List Child). StandsReady n ps k xs v) (fresh_same es ds (ap (λ (c : Current). c.branches) same)) (subst (λ (x : Key). StandsReady n ps x es v) (ap (λ (c : Current). c.key) same) s))
voted_of n ps o k ds u (Ordered j es v i s) is =
    let one : Some (recovered j Phase.Committing (fresh_branches es) v) ≡ Some (recovered k Phase.Ready (fresh_branches ds) u) = sym i ∙ is in
    let same : recovered j Phase.Committing (fresh_branches es) v ≡ recovered k Phase.Ready (fresh_branches ds) u = cc (one) in
    let clash : false ≡ true = ap (λ (c : Current). is_ready_phase c.phase) same in
    absurd (cc (clash))

ordered_of : (n : ℕ) (ps : List LogRec) (o : Option Current) (k : Key) (ds : List Child) (u : Option Outcome) → Stands n ps o → o ≡ Some (recovered k Phase.Committing (fresh_branches ds) u) → StandsOrdered n ps k ds
ordered_of n ps o k ds u (Nothing i) is = let off : None ≡ Some (recovered k Phase.Committing (fresh_branches ds) u) = sym i ∙ is in absurd (cc (off))
ordered_of n ps o k ds u (Ordered j es v i s) is =
    let one : Some (recovered j Phase.Committing (fresh_branches es) v) ≡ Some (recovered k Phase.Committing (fresh_branches ds) u) = sym i ∙ is in
    let same : recovered j Phase.Committing (fresh_branches es) v ≡ recovered k Phase.Committing (fresh_branches ds) u = cc (one) in
    subst (λ (xs : List Child). StandsOrdered n ps k xs) (fresh_same es ds (ap (λ (c : Current). c.branches) same)) (subst (λ (x : Key). StandsOrdered n ps x es) (ap (λ (c : Current). c.key) same) s)
ordered_of n ps o k ds u (Voted j es v i s) is =
    let one : Some (recovered j Phase.Ready (fresh_branches es) v) ≡ Some (recovered k Phase.Committing (fresh_branches ds) u) = sym i ∙ is in
    let same : recovered j Phase.Ready (fresh_branches es) v ≡ recovered k Phase.Committing (fresh_branches ds) u = cc (one) in
    let clash : true ≡ false = ap (λ (c : Current). is_ready_phase c.phase) same in
    absurd (cc (clash))

-- ---- a key that is new at a node that is free

none_free : (n b : ℕ) (ps : List LogRec) (o : Option Current) (ks : List Kept) → IsFit n ps o ks → o ≡ None → is_free n (bound (LogRec.Boot b ∷ ps)) ≡ true
none_free n b ps o ks h none = loose_is_free n (LogRec.Boot b ∷ ps) (λ x at. go x (grind (arith, nat_tests, at)) (holds (last_from x None ps) is_bound) refl)
  where
    go : (x : Owner) → x.node ≡ n → (v : Bool) → holds (last_from x None ps) is_bound ≡ v → v ≡ false
    go x at false e = refl
    go x at true e =
        let here : holds (last_at n x.key ps) is_bound ≡ true = ap (λ (m : ℕ). holds (last_from (owner m x.key) None ps) is_bound) (sym at) ∙ e in
        absurd (bound_absent n ps o ks x.key h (λ c is same. let off : None ≡ Some c = sym none ∙ is in cc (off)) here)

new_is : (x : Bool) (v : Option LogRec) → x ≡ true → v ≡ None → (x && elim v as (λ _. Bool) [ None ↦ true | Some r ↦ false ]) ≡ true
new_is x v h i = rw (h, i) refl

-- ---- the record of a turn

abbrev pub MayFollow : ℕ → ℕ → List LogRec → NodeKey → LogRec → Type 0
MayFollow n b ps k r = (owner_of r ≡ Some (owner n k)) × (follows (LogRec.Boot b ∷ ps) r ≡ true)

children_self : (cs : List Child) → are_children cs cs ≡ true
children_self [] = refl
children_self (c ∷ cs) = both_true (is_child c c) (are_children cs cs) (child_self c) (children_self cs)

vote_above : (n : ℕ) (ps : List LogRec) (k : Key) (ds : List Child) (u : Option Outcome) → StandsReady n ps k ds u → has_superior (node_key k) (superior_of k) (ready_at n (node_key k) ps) ≡ true
vote_above n ps (Root a) ds u s = refl
vote_above n ps (Under a b x) ds u s =
    let one : Some x ≡ Some s.superior = s.under refl in
    let same : x ≡ s.superior = cc (one) in
    ap (λ (v : Option LogRec). holds v (is_ready_of (Some x))) s.ready ∙ ap (is_addr x) (sym same) ∙ addr_self x

follows_vote : (n b : ℕ) (ps : List LogRec) (k : Key) (o : Option Current) (ks : List Kept) (s : Addr) (cs : List Child) → IsFit n ps o ks → AreApart (node_key k) ks → o ≡ None
    → follows (LogRec.Boot b ∷ ps) (LogRec.Ready n (node_key k) s cs) ≡ true
follows_vote n b ps k o ks s cs h a none =
    new_is (is_free n (bound (LogRec.Boot b ∷ ps))) (last_at n (node_key k) ps) (none_free n b ps o ks h none)
    (h.none (node_key k) a (λ c is same. let off : None ≡ Some c = sym none ∙ is in cc (off)))

follows_order : (n b : ℕ) (ps : List LogRec) (k : Key) (o : Option Current) (ks : List Kept) (cs : List Child) → IsFit n ps o ks → AreApart (node_key k) ks → (is_under k ≡ false → nat_le (node_key k).aaid.mark.boot b ≡ true)
    → IsOrderable k cs o → follows (LogRec.Boot b ∷ ps) (LogRec.Commit n (node_key k) (superior_of k) cs) ≡ true
follows_order n b ps (Root t) o ks cs h a reached (inl may) =
    both_true _ (nat_le t.mark.boot (last_boot_from b ps))
    (new_is (is_free n (bound (LogRec.Boot b ∷ ps))) (last_at n (node_key (Root t)) ps) (none_free n b ps o ks h may.0)
    (h.none (node_key (Root t)) a (λ c is same. let off : None ≡ Some c = sym may.0 ∙ is in cc (off))))
    (ap (nat_le t.mark.boot) (h.boots b) ∙ reached refl)
follows_order n b ps (Under t c s) o ks cs h a reached (inl may) = absurd (cc (may.1))
follows_order n b ps (Root t) o ks cs h a reached (inr may) = absurd (cc (may.0))
follows_order n b ps (Under t c s) o ks cs h a reached (inr may) =
    let k : Key = Under t c s in
    let stands : StandsReady n ps k cs may.1.0 = voted_of n ps o k cs may.1.0 h.now may.1.1 in
    let one : Some s ≡ Some stands.superior = stands.under refl in
    let same : s ≡ stands.superior = cc (one) in
    both_true (holds (last_at n (node_key k) ps) is_ready || holds (last_at n (node_key k) ps) is_heuristic) (holds (ready_at n (node_key k) ps) (is_as_ready (Some s) cs))
    (ap (λ (v : Option LogRec). holds v is_ready || holds v is_heuristic) stands.last ∙ told may.1.0 stands.superior)
    (ap (λ (v : Option LogRec). holds v (is_as_ready (Some s) cs)) stands.ready ∙ both_true (is_addr s stands.superior) (are_children cs cs) (ap (is_addr s) (sym same) ∙ addr_self s) (children_self cs))
  where
    told : (u : Option Outcome) (x : Addr) → (holds (Some (told_last n (node_key (Under t c s)) x cs u)) is_ready || holds (Some (told_last n (node_key (Under t c s)) x cs u)) is_heuristic) ≡ true
    told None x = refl
    told (Some w) x = refl

pub next_follows : (n b : ℕ) (ps : List LogRec) (k : Key) (o : Option Current) (ks : List Kept) (r : LogRec) → IsFit n ps o ks → ((is_ready r || is_commit r) ≡ true → AreApart (node_key k) ks)
    → (is_under k ≡ false → nat_le (node_key k).aaid.mark.boot b ≡ true) → IsNext n k o r → MayFollow n b ps (node_key k) r
next_follows n b ps k o ks (LogRec.Boot m) h a reached next = absurd next
next_follows n b ps k o ks (LogRec.Ready m j s cs) h a reached next =
    subst (λ (x : ℕ). MayFollow n b ps (node_key k) (LogRec.Ready x j s cs)) (sym next.0)
    (subst (λ (x : NodeKey). MayFollow n b ps (node_key k) (LogRec.Ready n x s cs)) (sym next.1) (refl, follows_vote n b ps k o ks s cs h (a refl) next.2))
next_follows n b ps k o ks (LogRec.Heuristic m j u) h a reached next =
    subst (λ (x : ℕ). MayFollow n b ps (node_key k) (LogRec.Heuristic x j u)) (sym next.0)
    (subst (λ (x : NodeKey). MayFollow n b ps (node_key k) (LogRec.Heuristic n x u)) (sym next.1)
    (refl, ap (λ (v : Option LogRec). holds v is_ready) (voted_of n ps o k next.2.0 None h.now next.2.1).last))
next_follows n b ps k o ks (LogRec.Commit m j s cs) h a reached next =
    subst (λ (x : ℕ). MayFollow n b ps (node_key k) (LogRec.Commit x j s cs)) (sym next.0)
    (subst (λ (x : NodeKey). MayFollow n b ps (node_key k) (LogRec.Commit n x s cs)) (sym next.1)
    (subst (λ (x : Option Addr). MayFollow n b ps (node_key k) (LogRec.Commit n (node_key k) x cs)) (sym next.2) (refl, follows_order n b ps k o ks cs h (a refl) reached next.3)))
next_follows n b ps k o ks (LogRec.Damage m j s Outcome.Commit w cs) h a reached next =
    let stands : StandsOrdered n ps k next.3.0 = ordered_of n ps o k next.3.0 next.3.1 h.now next.3.2 in
    subst (λ (x : ℕ). MayFollow n b ps (node_key k) (LogRec.Damage x j s Outcome.Commit w cs)) (sym next.0)
    (subst (λ (x : NodeKey). MayFollow n b ps (node_key k) (LogRec.Damage n x s Outcome.Commit w cs)) (sym next.1)
    (subst (λ (x : Option Addr). MayFollow n b ps (node_key k) (LogRec.Damage n (node_key k) x Outcome.Commit w cs)) (sym next.2) (
      refl,
      both_true (holds (last_at n (node_key k) ps) (may_owe cs)) (has_superior (node_key k) (superior_of k) (ready_at n (node_key k) ps)) (ap (λ (v : Option LogRec). holds v (may_owe cs)) stands.last ∙ next.3.3) stands.above,
    )))
next_follows n b ps k o ks (LogRec.Damage m j s Outcome.Rollback w cs) h a reached next =
    let stands : StandsReady n ps k next.3.0 (Some Outcome.Commit) = voted_of n ps o k next.3.0 (Some Outcome.Commit) h.now next.3.1 in
    subst (λ (x : ℕ). MayFollow n b ps (node_key k) (LogRec.Damage x j s Outcome.Rollback w cs)) (sym next.0)
    (subst (λ (x : NodeKey). MayFollow n b ps (node_key k) (LogRec.Damage n x s Outcome.Rollback w cs)) (sym next.1)
    (subst (λ (x : Option Addr). MayFollow n b ps (node_key k) (LogRec.Damage n (node_key k) x Outcome.Rollback w cs)) (sym next.2)
    (subst (λ (x : Report). MayFollow n b ps (node_key k) (LogRec.Damage n (node_key k) (superior_of k) Outcome.Rollback x cs)) (sym next.3.2)
    (subst (λ (xs : List Child). MayFollow n b ps (node_key k) (LogRec.Damage n (node_key k) (superior_of k) Outcome.Rollback Report.Mix xs)) (sym next.3.3)
    (refl, rolled (ap (λ (v : Option LogRec). holds v (is_decision Outcome.Commit)) stands.last) (vote_above n ps k next.3.0 (Some Outcome.Commit) stands))))))
  where
    rolled : holds (last_at n (node_key k) ps) (is_decision Outcome.Commit) ≡ true → has_superior (node_key k) (superior_of k) (ready_at n (node_key k) ps) ≡ true
        → follows (LogRec.Boot b ∷ ps) (LogRec.Damage n (node_key k) (superior_of k) Outcome.Rollback Report.Mix []) ≡ true
    rolled x y = grind (arith, x, y)
next_follows n b ps k o ks (LogRec.End m j Outcome.Commit) h a reached next =
    let stands : StandsOrdered n ps k next.2.0 = ordered_of n ps o k next.2.0 next.2.1 h.now next.2.2 in
    subst (λ (x : ℕ). MayFollow n b ps (node_key k) (LogRec.End x j Outcome.Commit)) (sym next.0)
    (subst (λ (x : NodeKey). MayFollow n b ps (node_key k) (LogRec.End n x Outcome.Commit)) (sym next.1) (refl, ap (λ (v : Option LogRec). holds v (may_end Outcome.Commit)) stands.last))
next_follows n b ps k o ks (LogRec.End m j Outcome.Rollback) h a reached next =
    let stands : StandsReady n ps k next.2.0 next.2.1 = voted_of n ps o k next.2.0 next.2.1 h.now next.2.2 in
    subst (λ (x : ℕ). MayFollow n b ps (node_key k) (LogRec.End x j Outcome.Rollback)) (sym next.0)
    (subst (λ (x : NodeKey). MayFollow n b ps (node_key k) (LogRec.End n x Outcome.Rollback)) (sym next.1)
    (refl, ap (λ (v : Option LogRec). holds v (may_end Outcome.Rollback)) stands.last ∙ told next.2.1 next.2.0 stands.superior next.2.3))
  where
    told : (u : Option Outcome) (ds : List Child) (x : Addr) → is_own_commitment u ≡ false → may_end Outcome.Rollback (told_last n (node_key k) x ds u) ≡ true
    told None ds x e = refl
    told (Some Outcome.Commit) ds x e = absurd (cc (e))
    told (Some Outcome.Rollback) ds x e = refl

-- ---- the record of a kept transaction

pub kept_in : (n : ℕ) (ps : List LogRec) (ks : List Kept) (k : Kept) → AreKept n ps (not_forgotten ks) → StandsIn ks k → IsKept n ps (record k { forgot = false })
kept_in n ps [] k h i = absurd i
kept_in n ps (x ∷ xs) k h (inl i) = subst (IsKept n ps) i h.1
kept_in n ps (x ∷ xs) k h (inr i) = kept_in n ps xs k h.2 i

among_head : (cs ds : List Child) (c : Child) → are_among cs ds ≡ true → are_among (c ∷ cs) (c ∷ ds) ≡ true
among_head cs ds c h = rw (child_self c, are_among) h

among_self : (cs : List Child) → are_among cs cs ≡ true
among_self [] = refl
among_self (c ∷ cs) = among_head cs cs c (among_self cs)

without_among : (cs : List Child) (b : BranchId) → are_among (without_owed cs b) cs ≡ true
without_among [] b = refl
without_among (c ∷ cs) b = go (is_branch c.branch b) refl (without_among cs b)
  where
    go : (v : Bool) → is_branch c.branch b ≡ v → are_among (without_owed cs b) cs ≡ true → are_among (without_owed (c ∷ cs) b) (c ∷ cs) ≡ true
    go true e rest = rw (e, without_owed) (among_more cs cs c (among_self cs))
    go false e rest = rw (e, without_owed) (among_head (without_owed cs b) cs c rest)

ends_kept : (n b : ℕ) (ps : List LogRec) (k : Kept) → IsKept n ps (record k { forgot = false }) → MayFollow n b ps k.key (LogRec.End k.node k.key k.side)
ends_kept n b ps k h = subst (λ (m : ℕ). MayFollow n b ps k.key (LogRec.End m k.key k.side)) (sym h.node) (refl, ap (λ (v : Option LogRec). holds v (may_end k.side)) h.last ∙ ends k.side)
  where
    ends : (u : Outcome) → may_end u (LogRec.Damage n k.key k.superior u k.report k.owed) ≡ true
    ends Outcome.Commit = refl
    ends Outcome.Rollback = refl

owes_less : (n b : ℕ) (ps : List LogRec) (k : Kept) (c : BranchId) (d : Child) (w : Report) → IsKept n ps (record k { forgot = false }) → find_owed k.owed c ≡ Some d
    → MayFollow n b ps k.key (LogRec.Damage k.node k.key k.superior k.side w (without_owed k.owed c))
owes_less n b ps k c d w h found = subst (λ (m : ℕ). MayFollow n b ps k.key (LogRec.Damage m k.key k.superior k.side w (without_owed k.owed c))) (sym h.node) (refl, go k.side h.last h.owed)
  where
    go : (u : Outcome) → last_at n k.key ps ≡ Some (LogRec.Damage n k.key k.superior u k.report k.owed) → (is_commitment u ≡ false → k.owed ≡ [])
        → follows (LogRec.Boot b ∷ ps) (LogRec.Damage n k.key k.superior u w (without_owed k.owed c)) ≡ true
    go Outcome.Commit last owed =
        both_true (holds (last_at n k.key ps) (may_owe (without_owed k.owed c))) (has_superior k.key k.superior (ready_at n k.key ps))
        (ap (λ (v : Option LogRec). holds v (may_owe (without_owed k.owed c))) last ∙ without_among k.owed c) h.above
    go Outcome.Rollback last owed = let off : None ≡ Some d = ap (λ (cs : List Child). find_owed cs c) (sym (owed refl)) ∙ found in absurd (cc (off))

pub settled_follows : (n b : ℕ) (ps : List LogRec) (k : Kept) (f : KeptEvent) → IsKept n ps (record k { forgot = false }) → (r : LogRec) → (settled k f).rec ≡ Some r → MayFollow n b ps k.key r
unfolding settled
settled_follows n b ps k (KeptEvent.Done from c w) h r is = go (find_owed k.owed c) refl is
  where
    rest : (d : Child) → find_owed k.owed c ≡ Some d → (v : Bool) → (is_nothing_owed (without_owed k.owed c) && k.forgot) ≡ v → MayFollow n b ps k.key (rec_of_done k c w)
    rest d found true e = rw (e, rec_of_done) (ends_kept n b ps k h)
    rest d found false e = rw (e, rec_of_done) (owes_less n b ps k c d _ h found)

    go : (o : Option Child) → find_owed k.owed c ≡ o → elim o as (λ _. Option LogRec) [ None ↦ None | Some d ↦ Some (rec_of_done k c w) ] ≡ Some r → MayFollow n b ps k.key r
    go None found is = absurd (cc (is))
    go (Some d) found is = let same : rec_of_done k c w ≡ r = cc (is) in subst (MayFollow n b ps k.key) same (rest d found (is_nothing_owed (without_owed k.owed c) && k.forgot) refl)
settled_follows n b ps k KeptEvent.Forget h r is = go (is_commitment k.side && is_nothing_owed k.owed) is
  where
    go : (v : Bool) → (if v then Some (LogRec.End k.node k.key k.side) else None) ≡ Some r → MayFollow n b ps k.key r
    go true is = let same : LogRec.End k.node k.key k.side ≡ r = cc (is) in subst (MayFollow n b ps k.key) same (ends_kept n b ps k h)
    go false is = absurd (cc (is))
settled_follows n b ps k KeptEvent.Purge h r is = let same : LogRec.End k.node k.key k.side ≡ r = cc (is) in subst (MayFollow n b ps k.key) same (ends_kept n b ps k h)
