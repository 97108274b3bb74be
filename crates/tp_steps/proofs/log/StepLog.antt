-- A record that follows makes of what is current and kept by the log what is current and kept after it.
use Rattle.std.proofs.Common.{◌≡◌, ℕ, Bool, true, false, refl, ap, sym, subst, ◌∙◌, arith, Option, Some, None, List, [], ◌∷◌, ◌++◌, ◌&&◌, ◌||◌}
use Rattle.std.specs.Prelude.{nat_le}
use Rattle.tp_names.specs.declared.identifiers.NodeKey.{NodeKey}
use Rattle.tp_names.specs.declared.identifiers.BranchId.{BranchId}
use Rattle.tp_names.specs.declared.identifiers.Addr.{Addr}
use Rattle.tp_names.specs.declared.children.Child.{Child}
use Rattle.tp_names.specs.declared.outcome.Outcome.{Outcome}
use Rattle.tp_names.specs.declared.outcome.Report.{Report}
use Rattle.tp_names.specs.Same.{is_key, is_addr_option}
use Rattle.tp_logrec.specs.declared.record.LogRec.{LogRec}
use Rattle.tp_logrec.specs.Order.{owner, owner_of, is_ready, is_heuristic, is_damage, is_bound, is_decision, is_mix, holds, is_as_ready, is_ready_of, may_owe, has_superior, is_none, boot_by, last_boot_from, bound, is_free, follows}
use Rattle.tp_logrec.proofs.Stands.{boot_after_is}
use Rattle.tp_model.specs.declared.arc.Phase.{Phase}
use Rattle.tp_model.specs.declared.recovery.Kept.{Kept}
use Rattle.tp_model.specs.Parts.{Key, Root, Under, Current}
use Rattle.tp_model.specs.Transactions.{node_key}
use Rattle.tp_model.specs.Recovery.{is_commit, put_kept, without_kept, kept_by}
use Rattle.tp_model.specs.Events.{recovered, fresh_branches, key_in_log, current_in_log, decision_of, without_current, current_by}
use Rattle.tp_steps.specs.Standing.{AreApart}
use Rattle.tp_steps.proofs.lemmas.Equality.{and_left, and_right}
use Rattle.tp_steps.proofs.log.TurnLog.{key_self}
use Rattle.tp_steps.proofs.log.ApartLog.{keys_equal}
use Rattle.tp_steps.proofs.log.StandLog.{last_at, key_other, last_other, last_mine, ready_at, ready_stays, ready_new, last_ended, StandsReady, Stands, Nothing, Voted, Ordered, stands_without, kept_put, kept_without, kept_by_others, unput, unwithout, NotNow, IsFit, no_both, bound_absent, new_parts, none_now, logged_now, none_new}

pub none_boots : (n : ℕ) (k : NodeKey) (ps : List LogRec) (r : LogRec) → owner_of r ≡ Some (owner n k) → ((b : ℕ) → last_boot_from b ps ≡ b) → (b : ℕ) → last_boot_from b (ps ++ r ∷ []) ≡ b
none_boots n k ps r own h b = boot_after_is b ps r ∙ go r own
  where
    go : (r : LogRec) → owner_of r ≡ Some (owner n k) → boot_by (last_boot_from b ps) r ≡ b
    go (LogRec.Boot m) own = absurd (cc (own))
    go (LogRec.Ready m j s cs) own = h b
    go (LogRec.Heuristic m j o) own = h b
    go (LogRec.Commit m j s cs) own = h b
    go (LogRec.Damage m j s o w cs) own = h b
    go (LogRec.End m j o) own = h b

-- ---- a vote

fit_ready : (n b : ℕ) (ps : List LogRec) (k : NodeKey) (s : Addr) (cs : List Child) (o : Option Current) (ks : List Kept) → follows (LogRec.Boot b ∷ ps) (LogRec.Ready n k s cs) ≡ true → IsFit n ps o ks
    → IsFit n (ps ++ LogRec.Ready n k s cs ∷ []) (current_by (LogRec.Ready n k s cs) o) ks
fit_ready n b ps k s cs o ks f h =
    let p = new_parts (is_free n (bound (LogRec.Boot b ∷ ps))) (last_at n k ps) f in
    record {
      now = now k.branch;
      kept = kept_by_others n k ps (LogRec.Ready n k s cs) ks refl (λ d. let gone : false ≡ true = ap (λ (v : Option LogRec). holds v is_damage) (sym p.1) ∙ d in cc (gone)) h.kept;
      none = none_new n k ps (LogRec.Ready n k s cs) o (current_by (LogRec.Ready n k s cs) o) ks refl h (λ j differs. none_now n b ps o p.0 h.now j) (logged_now k s Phase.Ready cs None);
      boots = none_boots n k ps (LogRec.Ready n k s cs) refl h.boots;
    }
  where
    now : (b : Option BranchId) → Stands n (ps ++ LogRec.Ready n (record k { branch = b }) s cs ∷ []) (current_in_log (key_in_log (record k { branch = b }) (Some s)) Phase.Ready cs None)
    now None =
        let j : NodeKey = record k { branch = None } in
        Voted (Root k.aaid) cs None refl
        (record { superior = s; ready = ready_new n j ps (LogRec.Ready n j s cs) refl refl refl; last = last_mine n j ps (LogRec.Ready n j s cs) refl refl; under = λ h. absurd (cc (h)) })
    now (Some c) =
        let j : NodeKey = record k { branch = Some c } in
        Voted (Under k.aaid c s) cs None refl
        (record { superior = s; ready = ready_new n j ps (LogRec.Ready n j s cs) refl refl refl; last = last_mine n j ps (LogRec.Ready n j s cs) refl refl; under = λ h. refl })

-- ---- a decision

pub vote_bound : (v : Option LogRec) → holds v is_ready ≡ true → holds v is_bound ≡ true
vote_bound (Some (LogRec.Ready m k s cs)) h = refl
vote_bound _ h = absurd (cc (h))

other_now : (k : NodeKey) (o : Option Current) (c : Current) → o ≡ Some c → is_key (node_key c.key) k ≡ false → NotNow k o
other_now k o c is other x i same =
    let one : Some c ≡ Some x = sym is ∙ i in
    let equal : c ≡ x = cc (one) in
    let self : is_key (node_key c.key) k ≡ true = ap (is_key (node_key c.key)) (sym same ∙ ap (λ (y : Current). node_key y.key) (sym equal)) ∙ key_self (node_key c.key) in
    cc (self, other)

fit_heuristic : (n b : ℕ) (ps : List LogRec) (k : NodeKey) (u : Outcome) (o : Option Current) (ks : List Kept) → follows (LogRec.Boot b ∷ ps) (LogRec.Heuristic n k u) ≡ true → IsFit n ps o ks
    → IsFit n (ps ++ LogRec.Heuristic n k u ∷ []) (current_by (LogRec.Heuristic n k u) o) ks
fit_heuristic n b ps k u o ks f h =
    let r : LogRec = LogRec.Heuristic n k u in
    record {
      now = now h.now;
      kept = kept_by_others n k ps r ks refl (λ d. no_both (last_at n k ps) d (vote_bound (last_at n k ps) f)) h.kept;
      none = none;
      boots = none_boots n k ps r refl h.boots;
    }
  where
    gone : NotNow k o → ⊥
    gone off = bound_absent n ps o ks k h off (vote_bound (last_at n k ps) f)

    decided : (j : Key) (ds : List Child) (v : Option Outcome) → o ≡ Some (recovered j Phase.Ready (fresh_branches ds) v) → StandsReady n ps j ds v → (x : NodeKey) → node_key j ≡ x
        → Stands n (ps ++ LogRec.Heuristic n x u ∷ []) (current_by (LogRec.Heuristic n x u) o)
    decided j ds v i s x e =
        let r : LogRec = LogRec.Heuristic n (node_key j) u in
        subst (λ (y : NodeKey). Stands n (ps ++ LogRec.Heuristic n y u ∷ []) (current_by (LogRec.Heuristic n y u) o)) e
        (Voted j ds (Some u) (ap (current_by r) i)
        (record { superior = s.superior; ready = ready_stays n (node_key j) ps r refl refl refl ∙ s.ready; last = last_mine n (node_key j) ps r refl refl; under = s.under }))

    now : Stands n ps o → Stands n (ps ++ LogRec.Heuristic n k u ∷ []) (current_by (LogRec.Heuristic n k u) o)
    now (Nothing i) = absurd (gone (λ c is same. let none : None ≡ Some c = sym i ∙ is in cc (none)))
    now (Voted j ds v i s) = go (is_key (node_key j) k) refl
      where
        go : (b : Bool) → is_key (node_key j) k ≡ b → Stands n (ps ++ LogRec.Heuristic n k u ∷ []) (current_by (LogRec.Heuristic n k u) o)
        go true e = decided j ds v i s k (keys_equal (node_key j) k e)
        go false e = absurd (gone (other_now k o (recovered j Phase.Ready (fresh_branches ds) v) i e))
    now (Ordered j ds v i s) = go (is_key (node_key j) k) refl
      where
        go : (b : Bool) → is_key (node_key j) k ≡ b → Stands n (ps ++ LogRec.Heuristic n k u ∷ []) (current_by (LogRec.Heuristic n k u) o)
        go true e =
            let ordered : last_at n k ps ≡ Some (LogRec.Commit n (node_key j) s.superior ds) = ap (λ (y : NodeKey). last_at n y ps) (sym (keys_equal (node_key j) k e)) ∙ s.last in
            let clash : false ≡ true = ap (λ (v : Option LogRec). holds v is_ready) (sym ordered) ∙ f in
            absurd (cc (clash))
        go false e = absurd (gone (other_now k o (recovered j Phase.Committing (fresh_branches ds) v) i e))

    before : (j : NodeKey) → NotNow j (current_by (LogRec.Heuristic n k u) o) → NotNow j o
    before j off c is same = off (record c { decision = Some u }) (ap (current_by (LogRec.Heuristic n k u)) is) same

    none : (j : NodeKey) → AreApart j ks → NotNow j (current_by (LogRec.Heuristic n k u) o) → last_at n j (ps ++ LogRec.Heuristic n k u ∷ []) ≡ None
    none j a off = go (is_key k j) refl
      where
        go : (b : Bool) → is_key k j ≡ b → last_at n j (ps ++ LogRec.Heuristic n k u ∷ []) ≡ None
        go true e = absurd (gone (subst (λ (y : NodeKey). NotNow y o) (sym (keys_equal k j e)) (before j off)))
        go false e = last_other n k j ps (LogRec.Heuristic n k u) refl e ∙ h.none j a (before j off)

-- ---- an order

pub as_some : (cs : List Child) (v : Option LogRec) → holds v (is_as_ready None cs) ≡ true → ⊥
as_some cs None h = cc (h)
as_some cs (Some (LogRec.Boot m)) h = cc (h)
as_some cs (Some (LogRec.Ready m k s ds)) h = cc (h)
as_some cs (Some (LogRec.Heuristic m k o)) h = cc (h)
as_some cs (Some (LogRec.Commit m k s ds)) h = cc (h)
as_some cs (Some (LogRec.Damage m k s o r ds)) h = cc (h)
as_some cs (Some (LogRec.End m k o)) h = cc (h)

as_ready : (a : Option Addr) (cs : List Child) (v : Option LogRec) → holds v (is_as_ready a cs) ≡ true → holds v (is_ready_of a) ≡ true
as_ready a cs (Some (LogRec.Ready m k s ds)) h = and_left (is_addr_option a (Some s)) _ h
as_ready a cs _ h = absurd (cc (h))

pub either_bound : (v : Option LogRec) → (holds v is_ready || holds v is_heuristic) ≡ true → holds v is_bound ≡ true
either_bound (Some (LogRec.Ready m k s cs)) h = refl
either_bound (Some (LogRec.Heuristic m k o)) h = refl
either_bound _ h = absurd (cc (h))

fit_commit : (n b : ℕ) (ps : List LogRec) (k : NodeKey) (a : Option Addr) (cs : List Child) (o : Option Current) (ks : List Kept) → follows (LogRec.Boot b ∷ ps) (LogRec.Commit n k a cs) ≡ true → IsFit n ps o ks
    → IsFit n (ps ++ LogRec.Commit n k a cs ∷ []) (current_by (LogRec.Commit n k a cs) o) ks
fit_commit n b ps k a cs o ks f h = go k.branch a f
  where
    go : (c : Option BranchId) (a : Option Addr) → follows (LogRec.Boot b ∷ ps) (LogRec.Commit n (record k { branch = c }) a cs) ≡ true
        → IsFit n (ps ++ LogRec.Commit n (record k { branch = c }) a cs ∷ []) (current_by (LogRec.Commit n (record k { branch = c }) a cs) o) ks
    go None a f =
        let j : NodeKey = record k { branch = None } in
        let r : LogRec = LogRec.Commit n j a cs in
        let p = new_parts (is_free n (bound (LogRec.Boot b ∷ ps))) (last_at n j ps) (and_left _ (nat_le k.aaid.mark.boot (last_boot_from b ps)) f) in
        record {
          now = Ordered (Root k.aaid) cs (decision_of o) refl (record { superior = a; last = last_mine n j ps r refl refl; above = refl });
          kept = kept_by_others n j ps r ks refl (λ d. let gone : false ≡ true = ap (λ (v : Option LogRec). holds v is_damage) (sym p.1) ∙ d in cc (gone)) h.kept;
          none = none_new n j ps r o (current_by r o) ks refl h (λ i differs. none_now n b ps o p.0 h.now i) (recovered (Root k.aaid) Phase.Committing (fresh_branches cs) (decision_of o), refl, refl);
          boots = none_boots n j ps r refl h.boots;
        }
    go (Some c) None f = absurd (as_some cs (ready_at n (record k { branch = Some c }) ps) (and_right (holds (last_at n (record k { branch = Some c }) ps) is_ready || holds (last_at n (record k { branch = Some c }) ps) is_heuristic) (holds (ready_at n (record k { branch = Some c }) ps) (is_as_ready None cs)) f))
    go (Some c) (Some s) f =
        let j : NodeKey = record k { branch = Some c } in
        let r : LogRec = LogRec.Commit n j (Some s) cs in
        let binds : holds (last_at n j ps) is_bound ≡ true = either_bound (last_at n j ps) (and_left (holds (last_at n j ps) is_ready || holds (last_at n j ps) is_heuristic) (holds (ready_at n j ps) (is_as_ready (Some s) cs)) f) in
        let voted : holds (ready_at n j ps) (is_as_ready (Some s) cs) ≡ true = and_right (holds (last_at n j ps) is_ready || holds (last_at n j ps) is_heuristic) (holds (ready_at n j ps) (is_as_ready (Some s) cs)) f in
        record {
          now =
              Ordered (Under k.aaid c s) cs (decision_of o) refl
              (record { superior = Some s; last = last_mine n j ps r refl refl; above = ap (λ (v : Option LogRec). holds v (is_ready_of (Some s))) (ready_stays n j ps r refl refl refl) ∙ as_ready (Some s) cs (ready_at n j ps) voted });
          kept = kept_by_others n j ps r ks refl (λ d. no_both (last_at n j ps) d binds) h.kept;
          none =
              none_new n j ps r o (current_by r o) ks refl h
              (λ i differs x is same. bound_absent n ps o ks j h
              (other_now j o x is (key_other (node_key x.key) j (λ e. differs (sym e ∙ same)))) binds)
              (recovered (Under k.aaid c s) Phase.Committing (fresh_branches cs) (decision_of o), refl, refl);
          boots = none_boots n j ps r refl h.boots;
        }

-- ---- damage and ends

was_not : (k j : NodeKey) (o : Option Current) → (k ≡ j → ⊥) → NotNow j (without_current k o) → NotNow j o
was_not k j o differs off c is same = off c (ap (without_current k) is ∙ rw (key_other (node_key c.key) k (λ e. differs (sym e ∙ same)), without_current) refl) same

fit_damage : (n b : ℕ) (ps : List LogRec) (k : NodeKey) (a : Option Addr) (u : Outcome) (w : Report) (cs : List Child) (o : Option Current) (ks : List Kept)
    → follows (LogRec.Boot b ∷ ps) (LogRec.Damage n k a u w cs) ≡ true → IsFit n ps o ks
    → IsFit n (ps ++ LogRec.Damage n k a u w cs ∷ []) (current_by (LogRec.Damage n k a u w cs) o) (kept_by (LogRec.Damage n k a u w cs) ks)
unfolding kept_by
fit_damage n b ps k a u w cs o ks f h =
    let r : LogRec = LogRec.Damage n k a u w cs in
    let x : Kept = record { node = n; key = k; superior = a; side = u; report = w; owed = cs; forgot = false } in
    record {
      now = stands_without n k ps r o refl h.now;
      kept = kept_put n ps r ks x refl (record {
        node = refl;
        last = last_mine n k ps r refl refl;
        above = ap (has_superior k a) (ready_stays n k ps r refl refl refl) ∙ above u f;
        owed = nothing u f;
      }) h.kept;
      none = none;
      boots = none_boots n k ps r refl h.boots;
    }
  where
    above : (u : Outcome) → follows (LogRec.Boot b ∷ ps) (LogRec.Damage n k a u w cs) ≡ true → has_superior k a (ready_at n k ps) ≡ true
    above Outcome.Commit f = and_right (holds (last_at n k ps) (may_owe cs)) (has_superior k a (ready_at n k ps)) f
    above Outcome.Rollback f =
        and_right (is_none cs) (has_superior k a (ready_at n k ps))
        (and_right (is_mix w) (is_none cs && has_superior k a (ready_at n k ps)) (and_right (holds (last_at n k ps) (is_decision Outcome.Commit)) (is_mix w && (is_none cs && has_superior k a (ready_at n k ps))) (split f)))
      where
        split : (holds (last_at n k ps) (is_decision Outcome.Commit) && is_mix w && is_none cs && has_superior k a (ready_at n k ps)) ≡ true
            → (holds (last_at n k ps) (is_decision Outcome.Commit) && (is_mix w && (is_none cs && has_superior k a (ready_at n k ps)))) ≡ true
        split g = grind (arith, g)

    empty : (ds : List Child) → is_none ds ≡ true → ds ≡ []
    empty [] h = refl
    empty (d ∷ ds) h = absurd (cc (h))

    nothing : (u : Outcome) → follows (LogRec.Boot b ∷ ps) (LogRec.Damage n k a u w cs) ≡ true → is_commit u ≡ false → cs ≡ []
    nothing Outcome.Commit f c = absurd (cc (c))
    nothing Outcome.Rollback f c = empty cs (grind (arith, f))

    none : (j : NodeKey) → AreApart j (put_kept ks (record { node = n; key = k; superior = a; side = u; report = w; owed = cs; forgot = false })) → NotNow j (without_current k o) → last_at n j (ps ++ LogRec.Damage n k a u w cs ∷ []) ≡ None
    none j ap off =
        let p = unput j ks (record { node = n; key = k; superior = a; side = u; report = w; owed = cs; forgot = false }) ap in
        last_other n k j ps (LogRec.Damage n k a u w cs) refl (key_other k j p.0) ∙ h.none j p.1 (was_not k j o p.0 off)

fit_end : (n b : ℕ) (ps : List LogRec) (k : NodeKey) (u : Outcome) (o : Option Current) (ks : List Kept) → IsFit n ps o ks
    → IsFit n (ps ++ LogRec.End n k u ∷ []) (current_by (LogRec.End n k u) o) (kept_by (LogRec.End n k u) ks)
unfolding kept_by
fit_end n b ps k u o ks h =
    let r : LogRec = LogRec.End n k u in
    record { now = stands_without n k ps r o refl h.now; kept = kept_without n k ps r ks refl h.kept; none = none; boots = none_boots n k ps r refl h.boots }
  where
    none : (j : NodeKey) → AreApart j (without_kept ks k) → NotNow j (without_current k o) → last_at n j (ps ++ LogRec.End n k u ∷ []) ≡ None
    none j ap off = go (is_key k j) refl
      where
        go : (b : Bool) → is_key k j ≡ b → last_at n j (ps ++ LogRec.End n k u ∷ []) ≡ None
        go true e = subst (λ (y : NodeKey). last_at n y (ps ++ LogRec.End n k u ∷ []) ≡ None) (keys_equal k j e) (last_ended n k ps (LogRec.End n k u) refl refl)
        go false e =
            let differs : k ≡ j → ⊥ = (λ same. let self : is_key k j ≡ true = ap_key same ∙ key_self k in cc (self, e)) in
            last_other n k j ps (LogRec.End n k u) refl e ∙ h.none j (unwithout j k ks differs ap) (was_not k j o differs off)
          where
            ap_key : k ≡ j → is_key k j ≡ is_key k k
            ap_key same = rw (← same) refl

-- ---- every record of the node

at : (m n : ℕ) (j k : NodeKey) → Some (owner m j) ≡ Some (owner n k) → m ≡ n
at m n j k e = let same : owner m j ≡ owner n k = cc (e) in ap (λ w. w.node) same

pub fit_step : (n b : ℕ) (ps : List LogRec) (r : LogRec) (o : Option Current) (ks : List Kept) (k : NodeKey) → owner_of r ≡ Some (owner n k) → follows (LogRec.Boot b ∷ ps) r ≡ true → IsFit n ps o ks
    → IsFit n (ps ++ r ∷ []) (current_by r o) (kept_by r ks)
unfolding kept_by
fit_step n b ps (LogRec.Boot m) o ks k own f h = absurd (cc (own))
fit_step n b ps (LogRec.Ready m j s cs) o ks k own f h =
    subst (λ (x : ℕ). IsFit n (ps ++ LogRec.Ready x j s cs ∷ []) (current_by (LogRec.Ready x j s cs) o) ks) (sym (at m n j k own))
    (fit_ready n b ps j s cs o ks (subst (λ (x : ℕ). follows (LogRec.Boot b ∷ ps) (LogRec.Ready x j s cs) ≡ true) (at m n j k own) f) h)
fit_step n b ps (LogRec.Heuristic m j u) o ks k own f h =
    subst (λ (x : ℕ). IsFit n (ps ++ LogRec.Heuristic x j u ∷ []) (current_by (LogRec.Heuristic x j u) o) ks) (sym (at m n j k own))
    (fit_heuristic n b ps j u o ks (subst (λ (x : ℕ). follows (LogRec.Boot b ∷ ps) (LogRec.Heuristic x j u) ≡ true) (at m n j k own) f) h)
fit_step n b ps (LogRec.Commit m j a cs) o ks k own f h =
    subst (λ (x : ℕ). IsFit n (ps ++ LogRec.Commit x j a cs ∷ []) (current_by (LogRec.Commit x j a cs) o) ks) (sym (at m n j k own))
    (fit_commit n b ps j a cs o ks (subst (λ (x : ℕ). follows (LogRec.Boot b ∷ ps) (LogRec.Commit x j a cs) ≡ true) (at m n j k own) f) h)
fit_step n b ps (LogRec.Damage m j a u w cs) o ks k own f h =
    subst (λ (x : ℕ). IsFit n (ps ++ LogRec.Damage x j a u w cs ∷ []) (current_by (LogRec.Damage x j a u w cs) o) (kept_by (LogRec.Damage x j a u w cs) ks)) (sym (at m n j k own))
    (fit_damage n b ps j a u w cs o ks (subst (λ (x : ℕ). follows (LogRec.Boot b ∷ ps) (LogRec.Damage x j a u w cs) ≡ true) (at m n j k own) f) h)
fit_step n b ps (LogRec.End m j u) o ks k own f h =
    subst (λ (x : ℕ). IsFit n (ps ++ LogRec.End x j u ∷ []) (current_by (LogRec.End x j u) o) (kept_by (LogRec.End x j u) ks)) (sym (at m n j k own)) (fit_end n b ps j u o ks h)
