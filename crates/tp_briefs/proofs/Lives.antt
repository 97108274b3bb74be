-- What one life of a node leaves: its transaction is kept by its last Damage, or is current, or neither.
use Rattle.std.proofs.Common.{◌≡◌, ◌⊎◌, inl, inr, ℕ, Bool, true, false, refl, ap, sym, subst, ◌∙◌, Option, Some, None, List, [], ◌∷◌, if◌then◌else◌}
use Rattle.std.specs.Prelude.{◌&&◌, ◌||◌}
use Rattle.tp_names.specs.declared.children.Child.{Child}
use Rattle.tp_names.specs.declared.identifiers.Addr.{Addr}
use Rattle.tp_names.specs.declared.identifiers.BranchId.{BranchId}
use Rattle.tp_names.specs.declared.identifiers.NodeKey.{NodeKey}
use Rattle.tp_names.specs.declared.outcome.Outcome.{Outcome}
use Rattle.tp_names.specs.Same.{is_key}
use Rattle.tp_names.proofs.Sames.{both, key_self}
use Rattle.tp_logrec.specs.declared.record.LogRec.{LogRec}
use Rattle.tp_logrec.specs.declared.owner.Owner.{Owner}
use Rattle.tp_logrec.specs.Order.{owner_of, is_ready, is_heuristic, is_damage, is_end, is_bound, is_as_ready, may_owe, holds, is_begun, may_commit, may_follow, last_or, last, brief_life}
use Rattle.tp_logrec.proofs.Briefs.{AllOwn, AllAre, own_brief}
use Rattle.tp_logrec.proofs.LifeOrders.{in_life, ready_now, runs, all_damage, rolled_back, IsBriefed, life_briefed}
use Rattle.tp_model.specs.declared.recovery.Kept.{Kept}
use Rattle.tp_model.specs.declared.arc.Phase.{Phase}
use Rattle.tp_model.specs.Parts.{Current, Key}
use Rattle.tp_model.specs.Transactions.{node_key}
use Rattle.tp_model.specs.Events.{fresh_branches, recovered, current_by, current_from, key_in_log, current_in_log, decision_of, without_current}

-- ---- kept

abbrev pub kept_of : LogRec → Option Kept
kept_of (LogRec.Boot n) = None
kept_of (LogRec.Ready n k s cs) = None
kept_of (LogRec.Heuristic n k o) = None
kept_of (LogRec.Commit n k s cs) = None
kept_of (LogRec.Damage n k s o r cs) = Some (record { node = n; key = k; superior = s; side = o; report = r; owed = cs; forgot = false })
kept_of (LogRec.End n k o) = None

abbrev pub kept_in : Option LogRec → Option Kept
kept_in None = None
kept_in (Some r) = kept_of r

pub bound_is_unkept : (r : LogRec) → is_bound r ≡ true → kept_of r ≡ None
bound_is_unkept (LogRec.Boot n) h = refl
bound_is_unkept (LogRec.Ready n k s cs) h = refl
bound_is_unkept (LogRec.Heuristic n k o) h = refl
bound_is_unkept (LogRec.Commit n k s cs) h = refl
bound_is_unkept (LogRec.Damage n k s o r cs) h = absurd cc
bound_is_unkept (LogRec.End n k o) h = refl

-- ---- current

-- it is there while the last record binds the key
abbrev IsSo : Owner → Option LogRec → Option Current → Type 0
IsSo o None c = c ≡ None
IsSo o (Some q) c = elim (is_bound q) [ true ↦ (x : Current) × (c ≡ Some x) × (node_key x.key ≡ o.key) | false ↦ c ≡ None ]

abbrev Either : Owner → Option Current → Type 0
Either o c = (c ≡ None) ⊎ ((x : Current) × (c ≡ Some x) × (node_key x.key ≡ o.key))

so_either : (o : Owner) (before : Option LogRec) (c : Option Current) → IsSo o before c → Either o c
so_either o None c so = inl so
so_either o (Some q) c so = go (is_bound q) so
  where
    go : (b : Bool) → elim b as (λ _. Type 0) [ true ↦ (x : Current) × (c ≡ Some x) × (node_key x.key ≡ o.key) | false ↦ c ≡ None ] → Either o c
    go true x = inr x
    go false x = inl x

bound_so : (o : Owner) (q : LogRec) (c : Option Current) → is_bound q ≡ true → IsSo o (Some q) c → (x : Current) × (c ≡ Some x) × (node_key x.key ≡ o.key)
bound_so o q c h so = subst (λ (b : Bool). elim b as (λ _. Type 0) [ true ↦ (x : Current) × (c ≡ Some x) × (node_key x.key ≡ o.key) | false ↦ c ≡ None ]) h so

loose_so : (o : Owner) (q : LogRec) (c : Option Current) → is_bound q ≡ false → IsSo o (Some q) c → c ≡ None
loose_so o q c h so = subst (λ (b : Bool). elim b as (λ _. Type 0) [ true ↦ (x : Current) × (c ≡ Some x) × (node_key x.key ≡ o.key) | false ↦ c ≡ None ]) h so

-- ---- one record more

owned : (n : ℕ) (k : NodeKey) (o : Owner) → ◌≡◌ {A = Option Owner} (Some (record { node = n; key = k })) (Some o) → k ≡ o.key
owned n k o h = let same : ◌≡◌ {A = Owner} (record { node = n; key = k }) o = cc (h) in ap (λ (w : Owner). w.key) same

-- the key of a Ready, or of a Commit, and its superior
abbrev HasKey : NodeKey → Option Addr → Type 0
HasKey k s = (x : Key) × (key_in_log k s ≡ Some x) × (node_key x ≡ k)

keyed : (k : NodeKey) (s : Option Addr) → ((b : BranchId) → k.branch ≡ Some b → (a : Addr) × (s ≡ Some a)) → HasKey k s
keyed k s above = go k.branch refl
  where
    go : (b : Option BranchId) → k.branch ≡ b → HasKey k s
    go None i = (Key.Root k.aaid, rw (i, key_in_log) refl, ap (λ (c : Option BranchId). let w : NodeKey = record { aaid = k.aaid; branch = c } in w) (sym i))
    go (Some b) i =
        let a = above b i in
        (Key.Under k.aaid b a.0, rw (i, a.1, key_in_log) refl, ap (λ (c : Option BranchId). let w : NodeKey = record { aaid = k.aaid; branch = c } in w) (sym i))

-- the Ready before a Commit of a branch has its superior
under_ready : (s : Option Addr) (cs : List Child) (ready : Option LogRec) → holds ready (is_as_ready s cs) ≡ true → (a : Addr) × (s ≡ Some a)
under_ready s cs None h = absurd (cc (h))
under_ready None cs (Some (LogRec.Ready n k b ds)) h = absurd (cc (h))
under_ready (Some a) cs (Some (LogRec.Ready n k b ds)) h = (a, refl)
under_ready s cs (Some (LogRec.Boot n)) h = absurd (cc (h))
under_ready s cs (Some (LogRec.Heuristic n k p)) h = absurd (cc (h))
under_ready s cs (Some (LogRec.Commit n k b ds)) h = absurd (cc (h))
under_ready s cs (Some (LogRec.Damage n k b p r ds)) h = absurd (cc (h))
under_ready s cs (Some (LogRec.End n k p)) h = absurd (cc (h))

committed : (boot : ℕ) (before ready : Option LogRec) (k : NodeKey) (s : Option Addr) (cs : List Child) → may_commit (in_life boot before ready) k s cs ≡ true → HasKey k s
committed boot before ready k s cs e = keyed k s (λ b i. under_ready s cs ready (above b i))
  where
    above : (b : BranchId) → k.branch ≡ Some b → holds ready (is_as_ready s cs) ≡ true
    above b i =
        let may : ((holds before is_ready || holds before is_heuristic) && holds ready (is_as_ready s cs)) ≡ true = rw (i, may_commit) at e in
        (both (holds before is_ready || holds before is_heuristic) (holds ready (is_as_ready s cs)) may).1

ready_bound : (q : LogRec) → is_ready q ≡ true → is_bound q ≡ true
ready_bound q h = rw h refl

dropped : (o : Owner) (k : NodeKey) (c : Option Current) → k ≡ o.key → Either o c → without_current k c ≡ None
dropped o k c same (inl none) = ap (without_current k) none
dropped o k c same (inr x) =
    let own : is_key (node_key x.0.key) k ≡ true = ap (λ (j : NodeKey). is_key j k) (x.2 ∙ sym same) ∙ key_self k in
    ap (without_current k) x.1 ∙ ap (λ (b : Bool). if b then None else Some x.0) own

life_step : (boot : ℕ) (o : Owner) (before ready : Option LogRec) (r : LogRec) (c : Option Current) → owner_of r ≡ Some o → is_end r ≡ false → may_follow (in_life boot before ready) r ≡ true → IsSo o before c
    → IsSo o (Some r) (current_by r c)
life_step boot o before ready (LogRec.Boot n) c own alive e so = absurd (cc (own))
life_step boot o before ready (LogRec.Ready n k s cs) c own alive e so =
    let x : HasKey k (Some s) = keyed k (Some s) (λ b i. (s, refl)) in
    (recovered x.0 Phase.Ready (fresh_branches cs) None, ap (λ (u : Option Key). current_in_log u Phase.Ready cs None) x.1, x.2 ∙ owned n k o own)
life_step boot o None ready (LogRec.Heuristic n k h) c own alive e so = absurd (cc (e))
life_step boot o (Some q) ready (LogRec.Heuristic n k h) c own alive e so =
    let x = bound_so o q c (ready_bound q e) so in
    (record (x.0) { decision = Some h }, ap (current_by (LogRec.Heuristic n k h)) x.1, x.2)
life_step boot o before ready (LogRec.Commit n k s cs) c own alive e so =
    let x : HasKey k s = committed boot before ready k s cs e in
    (recovered x.0 Phase.Committing (fresh_branches cs) (decision_of c), ap (λ (u : Option Key). current_in_log u Phase.Committing cs (decision_of c)) x.1, x.2 ∙ owned n k o own)
life_step boot o before ready (LogRec.Damage n k s u p cs) c own alive e so = dropped o k c (owned n k o own) (so_either o before c so)
life_step boot o before ready (LogRec.End n k h) c own alive e so = absurd (cc (alive))

runs_so : (boot : ℕ) (o : Owner) (before ready : Option LogRec) (rs : List LogRec) (c : Option Current) → AllOwn o rs → runs boot before ready rs ≡ true → IsSo o before c → IsSo o (last_or before rs) (current_from c rs)
runs_so boot o before ready [] c own e so = so
runs_so boot o before ready (r ∷ rs) c own e so =
    let p = both (may_follow (in_life boot before ready) r) (runs boot (Some r) (ready_now ready r) rs) e in
    runs_so boot o (Some r) (ready_now ready r) rs (current_by r c) own.2 p.1 (life_step boot o before ready r c own.0 own.1 p.0 so)

-- ---- a whole life

-- where its last record binds no key, it has nothing current
pub loose_is_none : (boot : ℕ) (o : Owner) (rs : List LogRec) → AllOwn o rs → runs boot None None rs ≡ true → holds (last rs) is_bound ≡ false → current_from None rs ≡ None
loose_is_none boot o rs own e loose = go (last rs) loose (runs_so boot o None None rs None own e refl)
  where
    go : (q : Option LogRec) → holds q is_bound ≡ false → IsSo o q (current_from None rs) → current_from None rs ≡ None
    go None h so = so
    go (Some q) h so = loose_so o q (current_from None rs) h so

-- what is current is of its key
pub of_its_key : (boot : ℕ) (o : Owner) (rs : List LogRec) → AllOwn o rs → runs boot None None rs ≡ true → (current_from None rs ≡ None) ⊎ ((x : Current) × (current_from None rs ≡ Some x) × (node_key x.key ≡ o.key))
of_its_key boot o rs own e = so_either o (last rs) (current_from None rs) (runs_so boot o None None rs None own e refl)

-- ---- its brief

-- after a Commit that is the last nothing else stands
alone : (boot : ℕ) (o : Owner) (q : LogRec) (ready : Option LogRec) (rs : List LogRec) → may_owe [] q ≡ true → AllOwn o rs → runs boot (Some q) ready rs ≡ true → holds (last_or (Some q) rs) is_bound ≡ true → rs ≡ []
alone boot o q ready [] owing own e h = refl
alone boot o q ready (r ∷ rs) owing own e h = absurd (not_bound (r ∷ rs) (some (r ∷ rs) refl) (all_damage boot q ready o (r ∷ rs) owing own e) h)
  where
    some : (xs : List LogRec) → xs ≡ r ∷ rs → is_begun xs ≡ true
    some xs i = ap is_begun i

    off : (x : LogRec) → is_damage x ≡ true → is_bound x ≡ true → ⊥
    off (LogRec.Boot n) d b = cc (d)
    off (LogRec.Ready n k s cs) d b = cc (d)
    off (LogRec.Heuristic n k o) d b = cc (d)
    off (LogRec.Commit n k s cs) d b = cc (d)
    off (LogRec.Damage n k s o r cs) d b = cc (b)
    off (LogRec.End n k o) d b = cc (d)

    not_bound : (xs : List LogRec) → is_begun xs ≡ true → AllAre is_damage true xs → holds (last_or (Some q) xs) is_bound ≡ true → ⊥
    not_bound [] b a h = cc (b)
    not_bound (x ∷ []) b a h = off x a.0 h
    not_bound (x ∷ y ∷ xs) b a h = not_bound (y ∷ xs) refl a.1 h

-- a life whose last record binds its key is brief
bound_is_brief : (boot : ℕ) (o : Owner) (rs : List LogRec) → AllOwn o rs → runs boot None None rs ≡ true → holds (last rs) is_bound ≡ true → brief_life rs ≡ rs
bound_is_brief boot o [] own e h = absurd (cc (h))
bound_is_brief boot o (LogRec.Boot n ∷ rs) own e h = absurd (cc (own.0))
bound_is_brief boot o (LogRec.Heuristic n k u ∷ rs) own e h = absurd (cc (e))
bound_is_brief boot o (LogRec.Commit n k a cs ∷ rs) own e h =
    let q : LogRec = LogRec.Commit n k a cs in
    let p = both (may_follow (in_life boot None None) q) (runs boot (Some q) None rs) e in
    let none : rs ≡ [] = alone boot o q None rs refl own.2 p.1 h in
    ap (λ (l : List LogRec). brief_life (q ∷ l)) none ∙ sym (ap (λ (l : List LogRec). q ∷ l) none)
bound_is_brief boot o (LogRec.Damage n k a Outcome.Commit p cs ∷ rs) own e h = absurd (cc (e))
bound_is_brief boot o (LogRec.Damage n k a Outcome.Rollback p cs ∷ rs) own e h = absurd (cc (e))
bound_is_brief boot o (LogRec.End n k u ∷ rs) own e h = absurd (cc (own.1))
bound_is_brief boot o (LogRec.Ready n k a cs ∷ []) own e h = refl
bound_is_brief boot o (LogRec.Ready n k a cs ∷ LogRec.Boot m ∷ rs) own e h = absurd (cc (own.2.0))
bound_is_brief boot o (LogRec.Ready n k a cs ∷ LogRec.Ready m j b ds ∷ rs) own e h = absurd (cc (e))
bound_is_brief boot o (LogRec.Ready n k a cs ∷ LogRec.Commit m j b ds ∷ rs) own e h =
    let f : LogRec = LogRec.Ready n k a cs in
    let q : LogRec = LogRec.Commit m j b ds in
    let p = both (may_follow (in_life boot (Some f) (Some f)) q) (runs boot (Some q) (Some f) rs) e in
    let none : rs ≡ [] = alone boot o q (Some f) rs refl own.2.2 p.1 h in
    ap (λ (l : List LogRec). brief_life (f ∷ q ∷ l)) none ∙ sym (ap (λ (l : List LogRec). f ∷ q ∷ l) none)
bound_is_brief boot o (LogRec.Ready n k a cs ∷ LogRec.Damage m j b Outcome.Commit p ds ∷ rs) own e h = absurd (cc (e))
bound_is_brief boot o (LogRec.Ready n k a cs ∷ LogRec.Damage m j b Outcome.Rollback p ds ∷ rs) own e h = absurd (cc (e))
bound_is_brief boot o (LogRec.Ready n k a cs ∷ LogRec.End m j u ∷ rs) own e h = absurd (cc (own.2.1))
bound_is_brief boot o (LogRec.Ready n k a cs ∷ LogRec.Heuristic m j u ∷ []) own e h = refl
bound_is_brief boot o (LogRec.Ready n k a cs ∷ LogRec.Heuristic m j u ∷ LogRec.Boot i ∷ rs) own e h = absurd (cc (e))
bound_is_brief boot o (LogRec.Ready n k a cs ∷ LogRec.Heuristic m j u ∷ LogRec.Ready i l b ds ∷ rs) own e h = absurd (cc (e))
bound_is_brief boot o (LogRec.Ready n k a cs ∷ LogRec.Heuristic m j u ∷ LogRec.Heuristic i l g ∷ rs) own e h = absurd (cc (e))
bound_is_brief boot o (LogRec.Ready n k a cs ∷ LogRec.Heuristic m j u ∷ LogRec.Commit i l b ds ∷ rs) own e h =
    let f : LogRec = LogRec.Ready n k a cs in
    let g : LogRec = LogRec.Heuristic m j u in
    let q : LogRec = LogRec.Commit i l b ds in
    let p = both (may_follow (in_life boot (Some g) (Some f)) q) (runs boot (Some q) (Some f) rs) e in
    let none : rs ≡ [] = alone boot o q (Some f) rs refl own.2.2.2 p.1 h in
    ap (λ (l : List LogRec). brief_life (f ∷ g ∷ q ∷ l)) none ∙ sym (ap (λ (l : List LogRec). f ∷ g ∷ q ∷ l) none)
bound_is_brief boot o (LogRec.Ready n k a cs ∷ LogRec.Heuristic m j u ∷ LogRec.Damage i l b Outcome.Commit p ds ∷ rs) own e h = absurd (cc (e))
bound_is_brief boot o (LogRec.Ready n k a cs ∷ LogRec.Heuristic m j u ∷ LogRec.Damage i l b Outcome.Rollback p ds ∷ []) own e h = absurd (cc (h))
bound_is_brief boot o (LogRec.Ready n k a cs ∷ LogRec.Heuristic m j u ∷ LogRec.Damage i l b Outcome.Rollback p ds ∷ r ∷ rs) own e h =
    let d : LogRec = LogRec.Damage i l b Outcome.Rollback p ds in
    let ready : Option LogRec = Some (LogRec.Ready n k a cs) in
    let s = both (may_follow (in_life boot (Some (LogRec.Heuristic m j u)) ready) d) (runs boot (Some d) ready (r ∷ rs)) e in
    let t = both (may_follow (in_life boot (Some d) ready) r) (runs boot (Some r) (ready_now ready r) rs) s.1 in
    absurd (rolled_back boot i l b p ds ready r own.2.2.2.1 t.0)
bound_is_brief boot o (LogRec.Ready n k a cs ∷ LogRec.Heuristic m j u ∷ LogRec.End i l g ∷ rs) own e h = absurd (cc (own.2.2.1))

pub brief_is_current : (boot : ℕ) (o : Owner) (rs : List LogRec) → AllOwn o rs → runs boot None None rs ≡ true → current_from None (brief_life rs) ≡ current_from None rs
brief_is_current boot o rs own e = go (holds (last rs) is_bound) refl
  where
    b : IsBriefed boot rs
    b = life_briefed boot o rs own e

    go : (x : Bool) → holds (last rs) is_bound ≡ x → current_from None (brief_life rs) ≡ current_from None rs
    go true h = ap (current_from None) (bound_is_brief boot o rs own e h)
    go false h =
        loose_is_none boot o (brief_life rs) (own_brief o rs own) b.runs (ap (λ (q : Option LogRec). holds q is_bound) b.last ∙ h) ∙ sym (loose_is_none boot o rs own e h)
