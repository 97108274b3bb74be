-- What the records of a node's log say of its current transaction and of those that it keeps, and which record may follow.
use Rattle.std.proofs.Common.{◌≡◌, ◌⊎◌, inl, inr, ℕ, Bool, true, false, refl, ap, sym, subst, ◌∙◌, arith, Option, Some, None, List, [], ◌∷◌, ◌++◌, ◌&&◌}
use Rattle.std.proofs.lemmas.Bool.Decides.{nat_tests}
use Rattle.tp_names.specs.declared.identifiers.NodeKey.{NodeKey}
use Rattle.tp_names.specs.declared.identifiers.BranchId.{BranchId}
use Rattle.tp_names.specs.declared.identifiers.Addr.{Addr}
use Rattle.tp_names.specs.declared.children.Child.{Child}
use Rattle.tp_names.specs.declared.outcome.Outcome.{Outcome}
use Rattle.tp_names.specs.Same.{is_key}
use Rattle.tp_logrec.specs.declared.record.LogRec.{LogRec}
use Rattle.tp_logrec.specs.Order.{owner, owner_of, is_end, is_ready, is_damage, is_bound, holds, has_superior, last_from, ready_from, last_boot_from, bound, is_free}
use Rattle.tp_logrec.proofs.BriefOrders.{ready_from-append, last_from-append}
use Rattle.tp_logrec.proofs.BoundKeys.{free_is_loose}
use Rattle.tp_model.specs.declared.arc.Phase.{Phase}
use Rattle.tp_model.specs.declared.recovery.Kept.{Kept}
use Rattle.tp_model.specs.Parts.{Key, Root, Under, Current}
use Rattle.tp_model.specs.Transactions.{node_key, superior_of, is_under}
use Rattle.tp_model.specs.Recovery.{is_commit, put_kept, without_kept}
use Rattle.tp_model.specs.Events.{recovered, fresh_branches, key_in_log, current_in_log, without_current}
use Rattle.tp_steps.specs.Standing.{AreApart}
use Rattle.tp_steps.proofs.log.TurnLog.{key_self}
use Rattle.tp_steps.proofs.log.ApartLog.{keys_equal}
use Rattle.tp_steps.proofs.log.Sound.{apart_put, apart_without}

-- ---- the last record of a key, with one more

abbrev pub last_at : ℕ → NodeKey → List LogRec → Option LogRec
last_at n k ps = last_from (owner n k) None ps

pub key_other : (k j : NodeKey) → (k ≡ j → ⊥) → is_key k j ≡ false
key_other k j h = go (is_key k j) refl
  where
    go : (b : Bool) → is_key k j ≡ b → b ≡ false
    go true e = absurd (h (keys_equal k j e))
    go false e = refl

pub key_swap : (k j : NodeKey) → is_key k j ≡ false → is_key j k ≡ false
key_swap k j h = key_other j k (λ e. let same : is_key k j ≡ true = ap (λ (x : NodeKey). is_key k x) e ∙ key_self k in cc (same, h))

pub last_other : (n : ℕ) (k j : NodeKey) (ps : List LogRec) (r : LogRec) → owner_of r ≡ Some (owner n k) → is_key k j ≡ false → last_at n j (ps ++ r ∷ []) ≡ last_at n j ps
last_other n k j ps r own other =
    last_from-append (owner n j) None ps (r ∷ []) ∙ grind (arith, own, other)

pub last_mine : (n : ℕ) (k : NodeKey) (ps : List LogRec) (r : LogRec) → owner_of r ≡ Some (owner n k) → is_end r ≡ false → last_at n k (ps ++ r ∷ []) ≡ Some r
last_mine n k ps r own alive =
    let self = key_self k in
    last_from-append (owner n k) None ps (r ∷ []) ∙ grind (arith, nat_tests, own, self, alive)

-- ---- the vote of a key, with one record more

abbrev pub ready_at : ℕ → NodeKey → List LogRec → Option LogRec
ready_at n k ps = ready_from (owner n k) None ps

pub ready_other : (n : ℕ) (k j : NodeKey) (ps : List LogRec) (r : LogRec) → owner_of r ≡ Some (owner n k) → is_key k j ≡ false → ready_at n j (ps ++ r ∷ []) ≡ ready_at n j ps
ready_other n k j ps r own other = ready_from-append (owner n j) None ps (r ∷ []) ∙ grind (arith, own, other)

pub ready_stays : (n : ℕ) (k : NodeKey) (ps : List LogRec) (r : LogRec) → owner_of r ≡ Some (owner n k) → is_end r ≡ false → is_ready r ≡ false → ready_at n k (ps ++ r ∷ []) ≡ ready_at n k ps
ready_stays n k ps r own alive other = let self = key_self k in ready_from-append (owner n k) None ps (r ∷ []) ∙ grind (arith, nat_tests, own, self, alive, other)

pub ready_new : (n : ℕ) (k : NodeKey) (ps : List LogRec) (r : LogRec) → owner_of r ≡ Some (owner n k) → is_end r ≡ false → is_ready r ≡ true → ready_at n k (ps ++ r ∷ []) ≡ Some r
ready_new n k ps r own alive is = let self = key_self k in ready_from-append (owner n k) None ps (r ∷ []) ∙ grind (arith, nat_tests, own, self, alive, is)

pub last_ended : (n : ℕ) (k : NodeKey) (ps : List LogRec) (r : LogRec) → owner_of r ≡ Some (owner n k) → is_end r ≡ true → last_at n k (ps ++ r ∷ []) ≡ None
last_ended n k ps r own ends = let self = key_self k in last_from-append (owner n k) None ps (r ∷ []) ∙ grind (arith, nat_tests, own, self, ends)

-- ---- what stands of the current transaction

abbrev pub told_last : ℕ → NodeKey → Addr → List Child → Option Outcome → LogRec
told_last n k s ds None = LogRec.Ready n k s ds
told_last n k s ds (Some o) = LogRec.Heuristic n k o

-- of a ready one: its vote, and its decision where it has one
pub record StandsReady (n : ℕ) (ps : List LogRec) (k : Key) (ds : List Child) (u : Option Outcome) : Type 0 where
  pub superior : Addr
  pub ready : ready_at n (node_key k) ps ≡ Some (LogRec.Ready n (node_key k) superior ds)
  pub last : last_at n (node_key k) ps ≡ Some (told_last n (node_key k) superior ds u)
  pub under : is_under k ≡ true → superior_of k ≡ Some superior

-- of a committing one: its order, after the vote of a branch
pub record StandsOrdered (n : ℕ) (ps : List LogRec) (k : Key) (ds : List Child) : Type 0 where
  pub superior : Option Addr
  pub last : last_at n (node_key k) ps ≡ Some (LogRec.Commit n (node_key k) superior ds)
  pub above : has_superior (node_key k) (superior_of k) (ready_at n (node_key k) ps) ≡ true

pub data Stands (n : ℕ) (ps : List LogRec) (o : Option Current) : Type 0 where
  Nothing : o ≡ None → Stands n ps o
  Voted : (k : Key) (ds : List Child) (u : Option Outcome) → o ≡ Some (recovered k Phase.Ready (fresh_branches ds) u) → StandsReady n ps k ds u → Stands n ps o
  Ordered : (k : Key) (ds : List Child) (u : Option Outcome) → o ≡ Some (recovered k Phase.Committing (fresh_branches ds) u) → StandsOrdered n ps k ds → Stands n ps o

pub ready_on : (n : ℕ) (j : NodeKey) (ps : List LogRec) (r : LogRec) (k : Key) (ds : List Child) (u : Option Outcome) → owner_of r ≡ Some (owner n j) → is_key j (node_key k) ≡ false → StandsReady n ps k ds u
    → StandsReady n (ps ++ r ∷ []) k ds u
ready_on n j ps r k ds u own other s = record {
  superior = s.superior;
  ready = ready_other n j (node_key k) ps r own other ∙ s.ready;
  last = last_other n j (node_key k) ps r own other ∙ s.last;
  under = s.under;
}

pub ordered_on : (n : ℕ) (j : NodeKey) (ps : List LogRec) (r : LogRec) (k : Key) (ds : List Child) → owner_of r ≡ Some (owner n j) → is_key j (node_key k) ≡ false → StandsOrdered n ps k ds
    → StandsOrdered n (ps ++ r ∷ []) k ds
ordered_on n j ps r k ds own other s = record {
  superior = s.superior;
  last = last_other n j (node_key k) ps r own other ∙ s.last;
  above = ap (has_superior (node_key k) (superior_of k)) (ready_other n j (node_key k) ps r own other) ∙ s.above;
}

told_bound : (n : ℕ) (k : NodeKey) (s : Addr) (ds : List Child) (u : Option Outcome) → is_bound (told_last n k s ds u) ≡ true
told_bound n k s ds None = refl
told_bound n k s ds (Some o) = refl

pub stands_bound : (n : ℕ) (ps : List LogRec) (o : Option Current) (c : Current) → Stands n ps o → o ≡ Some c → holds (last_at n (node_key c.key) ps) is_bound ≡ true
stands_bound n ps o c (Nothing i) is = let off : None ≡ Some c = sym i ∙ is in absurd (cc (off))
stands_bound n ps o c (Voted k ds u i s) is =
    let one : Some (recovered k Phase.Ready (fresh_branches ds) u) ≡ Some c = sym i ∙ is in
    let same : recovered k Phase.Ready (fresh_branches ds) u ≡ c = cc (one) in
    subst (λ (x : Current). holds (last_at n (node_key x.key) ps) is_bound ≡ true) same (ap (λ (v : Option LogRec). holds v is_bound) s.last ∙ told_bound n (node_key k) s.superior ds u)
stands_bound n ps o c (Ordered k ds u i s) is =
    let one : Some (recovered k Phase.Committing (fresh_branches ds) u) ≡ Some c = sym i ∙ is in
    let same : recovered k Phase.Committing (fresh_branches ds) u ≡ c = cc (one) in
    subst (λ (x : Current). holds (last_at n (node_key x.key) ps) is_bound ≡ true) same (ap (λ (v : Option LogRec). holds v is_bound) s.last)

pub stands_without : (n : ℕ) (j : NodeKey) (ps : List LogRec) (r : LogRec) (o : Option Current) → owner_of r ≡ Some (owner n j) → Stands n ps o → Stands n (ps ++ r ∷ []) (without_current j o)
stands_without n j ps r o own (Nothing i) = Nothing (ap (without_current j) i)
stands_without n j ps r o own (Voted k ds u i s) = go (is_key (node_key k) j) refl
  where
    go : (b : Bool) → is_key (node_key k) j ≡ b → Stands n (ps ++ r ∷ []) (without_current j o)
    go true e = Nothing (ap (without_current j) i ∙ rw (e, without_current) refl)
    go false e = Voted k ds u (ap (without_current j) i ∙ rw (e, without_current) refl) (ready_on n j ps r k ds u own (key_swap (node_key k) j e) s)
stands_without n j ps r o own (Ordered k ds u i s) = go (is_key (node_key k) j) refl
  where
    go : (b : Bool) → is_key (node_key k) j ≡ b → Stands n (ps ++ r ∷ []) (without_current j o)
    go true e = Nothing (ap (without_current j) i ∙ rw (e, without_current) refl)
    go false e = Ordered k ds u (ap (without_current j) i ∙ rw (e, without_current) refl) (ordered_on n j ps r k ds own (key_swap (node_key k) j e) s)

-- ---- what stands of the kept ones

pub record IsKept (n : ℕ) (ps : List LogRec) (x : Kept) : Type 0 where
  pub node : x.node ≡ n
  pub last : last_at n x.key ps ≡ Some (LogRec.Damage n x.key x.superior x.side x.report x.owed)
  pub above : has_superior x.key x.superior (ready_at n x.key ps) ≡ true
  pub owed : is_commit x.side ≡ false → x.owed ≡ []

abbrev pub AreKept : ℕ → List LogRec → List Kept → Type 0
AreKept n ps [] = Unit {0}
AreKept n ps (x ∷ xs) = AreApart x.key xs × IsKept n ps x × AreKept n ps xs

pub kept_on : (n : ℕ) (j : NodeKey) (ps : List LogRec) (r : LogRec) (x : Kept) → owner_of r ≡ Some (owner n j) → is_key j x.key ≡ false → IsKept n ps x → IsKept n (ps ++ r ∷ []) x
kept_on n j ps r x own other s = record {
  node = s.node;
  last = last_other n j x.key ps r own other ∙ s.last;
  above = ap (has_superior x.key x.superior) (ready_other n j x.key ps r own other) ∙ s.above;
  owed = s.owed;
}

kept_apart : (n : ℕ) (j : NodeKey) (ps : List LogRec) (r : LogRec) (ks : List Kept) → owner_of r ≡ Some (owner n j) → AreApart j ks → AreKept n ps ks → AreKept n (ps ++ r ∷ []) ks
kept_apart n j ps r [] own a h = tt
kept_apart n j ps r (x ∷ xs) own a h = (h.0, kept_on n j ps r x own (key_other j x.key (λ e. a.0 (sym e))) h.1, kept_apart n j ps r xs own a.1 h.2)

pub kept_put : (n : ℕ) (ps : List LogRec) (r : LogRec) (ks : List Kept) (x : Kept) → owner_of r ≡ Some (owner n x.key) → IsKept n (ps ++ r ∷ []) x → AreKept n ps ks → AreKept n (ps ++ r ∷ []) (put_kept ks x)
kept_put n ps r [] x own i h = (tt, i, tt)
kept_put n ps r (y ∷ ys) x own i h = go (is_key y.key x.key) refl (kept_put n ps r ys x own i h.2)
  where
    go : (b : Bool) → is_key y.key x.key ≡ b → AreKept n (ps ++ r ∷ []) (put_kept ys x) → AreKept n (ps ++ r ∷ []) (put_kept (y ∷ ys) x)
    go true e rest =
        let a : AreApart x.key ys = subst (λ (k : NodeKey). AreApart k ys) (keys_equal y.key x.key e) h.0 in
        rw (e, put_kept) (a, record { node = i.node; last = i.last; above = i.above; owed = i.owed }, kept_apart n x.key ps r ys own a h.2)
    go false e rest =
        rw (e, put_kept) (
          apart_put y.key ys x h.0 (λ same. let self : is_key y.key x.key ≡ true = ap (λ (k : NodeKey). is_key y.key k) same ∙ key_self y.key in cc (self, e)),
          kept_on n x.key ps r y own (key_swap y.key x.key e) h.1,
          rest,
        )

pub kept_without : (n : ℕ) (j : NodeKey) (ps : List LogRec) (r : LogRec) (ks : List Kept) → owner_of r ≡ Some (owner n j) → AreKept n ps ks → AreKept n (ps ++ r ∷ []) (without_kept ks j)
kept_without n j ps r [] own h = tt
kept_without n j ps r (x ∷ xs) own h = go (is_key x.key j) refl (kept_without n j ps r xs own h.2)
  where
    go : (b : Bool) → is_key x.key j ≡ b → AreKept n (ps ++ r ∷ []) (without_kept xs j) → AreKept n (ps ++ r ∷ []) (without_kept (x ∷ xs) j)
    go true e rest = rw (e, without_kept) (kept_apart n j ps r xs own (subst (λ (k : NodeKey). AreApart k xs) (keys_equal x.key j e) h.0) h.2)
    go false e rest = rw (e, without_kept) (apart_without x.key xs j h.0, kept_on n j ps r x own (key_swap x.key j e) h.1, rest)

-- a record of a key that is not damaged
pub kept_by_others : (n : ℕ) (j : NodeKey) (ps : List LogRec) (r : LogRec) (ks : List Kept) → owner_of r ≡ Some (owner n j) → (holds (last_at n j ps) is_damage ≡ true → ⊥) → AreKept n ps ks → AreKept n (ps ++ r ∷ []) ks
kept_by_others n j ps r [] own off h = tt
kept_by_others n j ps r (x ∷ xs) own off h = (h.0, go (is_key j x.key) refl, kept_by_others n j ps r xs own off h.2)
  where
    go : (b : Bool) → is_key j x.key ≡ b → IsKept n (ps ++ r ∷ []) x
    go true e = absurd (off (ap (λ (k : NodeKey). holds (last_at n k ps) is_damage) (keys_equal j x.key e) ∙ ap (λ (v : Option LogRec). holds v is_damage) h.1.last))
    go false e = kept_on n j ps r x own e h.1

pub kept_or : (n : ℕ) (ps : List LogRec) (k : NodeKey) (ks : List Kept) → AreKept n ps ks → AreApart k ks ⊎ (holds (last_at n k ps) is_damage ≡ true)
kept_or n ps k [] h = inl tt
kept_or n ps k (x ∷ xs) h = go (is_key x.key k) refl (kept_or n ps k xs h.2)
  where
    go : (b : Bool) → is_key x.key k ≡ b → AreApart k xs ⊎ (holds (last_at n k ps) is_damage ≡ true) → AreApart k (x ∷ xs) ⊎ (holds (last_at n k ps) is_damage ≡ true)
    go true e rest = inr (ap (λ (j : NodeKey). holds (last_at n j ps) is_damage) (sym (keys_equal x.key k e)) ∙ ap (λ (v : Option LogRec). holds v is_damage) h.1.last)
    go false e (inl a) = inl ((λ same. let self : is_key x.key k ≡ true = ap (λ (j : NodeKey). is_key x.key j) (sym same) ∙ key_self x.key in cc (self, e)), a)
    go false e (inr d) = inr d

pub unput : (j : NodeKey) (ks : List Kept) (x : Kept) → AreApart j (put_kept ks x) → (x.key ≡ j → ⊥) × AreApart j ks
unput j [] x h = (h.0, tt)
unput j (y ∷ ys) x h = go (is_key y.key x.key) refl (unput j ys x)
  where
    go : (b : Bool) → is_key y.key x.key ≡ b → (AreApart j (put_kept ys x) → (x.key ≡ j → ⊥) × AreApart j ys) → (x.key ≡ j → ⊥) × AreApart j (y ∷ ys)
    go true e rest = let a : (x.key ≡ j → ⊥) × AreApart j ys = rw (e, put_kept) at h in (a.0, (λ same. a.0 (sym (keys_equal y.key x.key e) ∙ same), a.1))
    go false e rest = let a : (y.key ≡ j → ⊥) × AreApart j (put_kept ys x) = rw (e, put_kept) at h in let b = rest a.1 in (b.0, (a.0, b.1))

pub unwithout : (j k : NodeKey) (ks : List Kept) → (k ≡ j → ⊥) → AreApart j (without_kept ks k) → AreApart j ks
unwithout j k [] off h = tt
unwithout j k (y ∷ ys) off h = go (is_key y.key k) refl (unwithout j k ys off)
  where
    go : (b : Bool) → is_key y.key k ≡ b → (AreApart j (without_kept ys k) → AreApart j ys) → AreApart j (y ∷ ys)
    go true e rest = let a : AreApart j ys = rw (e, without_kept) at h in (λ same. off (sym (keys_equal y.key k e) ∙ same), a)
    go false e rest = let a : (y.key ≡ j → ⊥) × AreApart j (without_kept ys k) = rw (e, without_kept) at h in (a.0, rest a.1)

-- ---- the whole

abbrev pub NotNow : NodeKey → Option Current → Type 0
NotNow k o = (c : Current) → o ≡ Some c → node_key c.key ≡ k → ⊥

-- the records tell what is current and what is kept, and nothing stands of other keys
pub record IsFit (n : ℕ) (ps : List LogRec) (o : Option Current) (ks : List Kept) : Type 0 where
  pub now : Stands n ps o
  pub kept : AreKept n ps ks
  pub none : (k : NodeKey) → AreApart k ks → NotNow k o → last_at n k ps ≡ None
  pub boots : (b : ℕ) → last_boot_from b ps ≡ b

pub no_both : (v : Option LogRec) → holds v is_damage ≡ true → holds v is_bound ≡ true → ⊥
no_both (Some (LogRec.Damage m k s o r cs)) h i = cc (i)
no_both _ h i = cc (h)

pub bound_absent : (n : ℕ) (ps : List LogRec) (o : Option Current) (ks : List Kept) (k : NodeKey) → IsFit n ps o ks → NotNow k o → holds (last_at n k ps) is_bound ≡ true → ⊥
bound_absent n ps o ks k h off b = go (kept_or n ps k ks h.kept)
  where
    go : AreApart k ks ⊎ (holds (last_at n k ps) is_damage ≡ true) → ⊥
    go (inl a) = let gone : false ≡ true = ap (λ (v : Option LogRec). holds v is_bound) (sym (h.none k a off)) ∙ b in cc (gone)
    go (inr d) = no_both (last_at n k ps) d b

pub new_parts : (x : Bool) (v : Option LogRec) → (x && elim v as (λ _. Bool) [ None ↦ true | Some r ↦ false ]) ≡ true → (x ≡ true) × (v ≡ None)
new_parts true None h = (refl, refl)
new_parts _ _ h = absurd (cc (h))

-- where the node is free no key of it is bound
pub loose_at : (n b : ℕ) (ps : List LogRec) (k : NodeKey) → is_free n (bound (LogRec.Boot b ∷ ps)) ≡ true → holds (last_at n k ps) is_bound ≡ false
loose_at n b ps k free = free_is_loose n (LogRec.Boot b ∷ ps) free (owner n k) (grind (arith, nat_tests))

pub none_now : (n b : ℕ) (ps : List LogRec) (o : Option Current) → is_free n (bound (LogRec.Boot b ∷ ps)) ≡ true → Stands n ps o → (k : NodeKey) → NotNow k o
none_now n b ps o free s k c is same =
    let yes : holds (last_at n (node_key c.key) ps) is_bound ≡ true = stands_bound n ps o c s is in
    let off : holds (last_at n (node_key c.key) ps) is_bound ≡ false = loose_at n b ps (node_key c.key) free in
    cc (yes, off)

pub logged_now : (k : NodeKey) (s : Addr) (p : Phase) (cs : List Child) (u : Option Outcome) → (c : Current) × (current_in_log (key_in_log k (Some s)) p cs u ≡ Some c) × (node_key c.key ≡ k)
logged_now k s p cs u = go k.branch
  where
    go : (b : Option BranchId) → (c : Current) × (current_in_log (key_in_log (record k { branch = b }) (Some s)) p cs u ≡ Some c) × ◌≡◌ {A = NodeKey} (node_key c.key) (record k { branch = b })
    go None = (recovered (Root k.aaid) p (fresh_branches cs) u, refl, refl)
    go (Some b) = (recovered (Under k.aaid b s) p (fresh_branches cs) u, refl, refl)

-- after a record of a key that becomes the current one, where none was
pub none_new : (n : ℕ) (k : NodeKey) (ps : List LogRec) (r : LogRec) (o l : Option Current) (ks : List Kept) → owner_of r ≡ Some (owner n k) → IsFit n ps o ks → ((j : NodeKey) → (k ≡ j → ⊥) → NotNow j o)
    → (c : Current) × (l ≡ Some c) × (node_key c.key ≡ k) → (j : NodeKey) → AreApart j ks → NotNow j l → last_at n j (ps ++ r ∷ []) ≡ None
none_new n k ps r o l ks own h free now j a off = go (is_key k j) refl
  where
    go : (b : Bool) → is_key k j ≡ b → last_at n j (ps ++ r ∷ []) ≡ None
    go true e = absurd (off now.0 now.1 (now.2 ∙ keys_equal k j e))
    go false e =
        last_other n k j ps r own e
        ∙ h.none j a (free j (λ same. let self : is_key k j ≡ true = ap (λ (x : NodeKey). is_key k x) (sym same) ∙ key_self k in cc (self, e)))
