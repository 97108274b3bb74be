-- The keys that stand by the records of a log are those that are kept, and then the one that is current.
use Rattle.std.proofs.Common.{if◌then◌else◌, ◌≡◌, ◌⊎◌, inl, inr, ℕ, Bool, true, false, refl, ap, sym, subst, ◌∙◌, arith, append_assoc, append-nil, Option, Some, None, List, [], ◌∷◌, ◌++◌, ◌||◌, reverse}
use Rattle.std.specs.Prelude.{nat_le}
use Rattle.std.proofs.lemmas.List.{reverse-append}
use Rattle.tp_names.specs.declared.identifiers.NodeKey.{NodeKey}
use Rattle.tp_names.specs.declared.identifiers.BranchId.{BranchId}
use Rattle.tp_names.specs.declared.identifiers.Addr.{Addr}
use Rattle.tp_names.specs.declared.children.Child.{Child}
use Rattle.tp_names.specs.declared.outcome.Outcome.{Outcome}
use Rattle.tp_names.specs.declared.outcome.Report.{Report}
use Rattle.tp_names.specs.Same.{is_key}
use Rattle.tp_logrec.specs.declared.record.LogRec.{LogRec}
use Rattle.tp_logrec.specs.Order.{owner, owner_of, is_damage, is_bound, is_decision, holds, may_owe, may_end, bound, is_free, last_boot_from, follows, follow_from}
use Rattle.tp_model.specs.declared.arc.Phase.{Phase}
use Rattle.tp_model.specs.declared.recovery.Kept.{Kept}
use Rattle.tp_model.specs.Parts.{Current}
use Rattle.tp_model.specs.Transactions.{node_key}
use Rattle.tp_model.specs.Recovery.{put_kept, without_kept, kept_by}
use Rattle.tp_model.specs.Keys.{has_key, without_key, standing_keys}
use Rattle.tp_model.specs.Events.{without_current, current_by, current_from, kept_from}
use Rattle.tp_model.specs.Legal.{is_own_record, are_own_records}
use Rattle.tp_steps.specs.Standing.{AreApart}
use Rattle.tp_steps.proofs.lemmas.Equality.{and_left, and_right}
use Rattle.tp_steps.proofs.log.TurnLog.{key_self}
use Rattle.tp_steps.proofs.log.ApartLog.{keys_equal, not_let_go}
use Rattle.tp_steps.proofs.log.StandLog.{last_at, key_other, key_swap, AreKept, NotNow, IsFit, stands_bound, kept_or, no_both, new_parts, none_now, logged_now, Nothing}
use Rattle.tp_steps.proofs.log.StepLog.{vote_bound, either_bound, as_some, fit_step}
use Rattle.tp_histories.proofs.log.StartLog.{own_key}

abbrev pub keys_of : List Kept → List NodeKey
keys_of [] = []
keys_of (x ∷ xs) = x.key ∷ keys_of xs

abbrev pub key_now : Option Current → List NodeKey
key_now None = []
key_now (Some c) = node_key c.key ∷ []

-- ---- lists of keys

pub key_sym : (a b : NodeKey) → is_key a b ≡ is_key b a
key_sym a b = go (is_key a b) refl
  where
    go : (v : Bool) → is_key a b ≡ v → is_key a b ≡ is_key b a
    go true i = ap (is_key a) (sym (keys_equal a b i)) ∙ ap (λ (k : NodeKey). is_key k a) (keys_equal a b i)
    go false i = i ∙ sym (key_swap a b i)

has_append : (k : NodeKey) (xs ys : List NodeKey) → has_key k (xs ++ ys) ≡ (has_key k xs || has_key k ys)
has_append k [] ys = refl
has_append k (x ∷ xs) ys = let rest = has_append k xs ys in grind (arith, rest)

without_there : (k : NodeKey) (xs ys : List NodeKey) → has_key k xs ≡ true → without_key k (xs ++ ys) ≡ without_key k xs ++ ys
without_there k [] ys h = absurd (cc (h))
without_there k (x ∷ xs) ys h = go (is_key k x) refl (without_there k xs ys)
  where
    go : (b : Bool) → is_key k x ≡ b → (has_key k xs ≡ true → without_key k (xs ++ ys) ≡ without_key k xs ++ ys) → without_key k (x ∷ xs ++ ys) ≡ without_key k (x ∷ xs) ++ ys
    go true i rest = rw (i, without_key) refl
    go false i rest = rw (i, without_key) (ap (λ (l : List NodeKey). x ∷ l) (rest (rw (i, has_key) at h)))

without_off : (k : NodeKey) (xs ys : List NodeKey) → has_key k xs ≡ false → without_key k (xs ++ ys) ≡ xs ++ without_key k ys
without_off k [] ys h = refl
without_off k (x ∷ xs) ys h = go (is_key k x) refl (without_off k xs ys)
  where
    go : (b : Bool) → is_key k x ≡ b → (has_key k xs ≡ false → without_key k (xs ++ ys) ≡ xs ++ without_key k ys) → without_key k (x ∷ xs ++ ys) ≡ x ∷ xs ++ without_key k ys
    go true i rest = let no : true ≡ false = rw (i, has_key) at h in absurd (cc (no))
    go false i rest = rw (i, without_key) (ap (λ (l : List NodeKey). x ∷ l) (rest (rw (i, has_key) at h)))

apart_has : (k : NodeKey) (ks : List Kept) → AreApart k ks → has_key k (keys_of ks) ≡ false
apart_has k [] h = refl
apart_has k (x ∷ xs) h = let one : is_key k x.key ≡ false = key_other k x.key (λ e. h.0 (sym e)) in rw (one, has_key) (apart_has k xs h.1)

pub has_or : (k : NodeKey) (ks : List Kept) → AreApart k ks ⊎ (has_key k (keys_of ks) ≡ true)
has_or k [] = inl tt
has_or k (x ∷ xs) = go (is_key k x.key) refl (has_or k xs)
  where
    go : (b : Bool) → is_key k x.key ≡ b → AreApart k xs ⊎ (has_key k (keys_of xs) ≡ true) → AreApart k (x ∷ xs) ⊎ (has_key k (keys_of (x ∷ xs)) ≡ true)
    go true i rest = inr (rw (i, has_key) refl)
    go false i (inl a) = inl ((λ same. let self : is_key k x.key ≡ true = ap (is_key k) same ∙ key_self k in cc (self, i)), a)
    go false i (inr h) = inr (rw (i, has_key) h)

put_apart : (ks : List Kept) (x : Kept) → AreApart x.key ks → keys_of (put_kept ks x) ≡ keys_of ks ++ (x.key ∷ [])
put_apart [] x h = refl
put_apart (y ∷ ys) x h =
    let one : is_key y.key x.key ≡ false = key_other y.key x.key h.0 in
    rw (one, put_kept) (ap (λ (l : List NodeKey). y.key ∷ l) (put_apart ys x h.1))

put_there : (ks : List Kept) (x : Kept) → has_key x.key (keys_of ks) ≡ true → keys_of (put_kept ks x) ≡ keys_of ks
put_there [] x h = absurd (cc (h))
put_there (y ∷ ys) x h = go (is_key y.key x.key) refl (put_there ys x)
  where
    go : (b : Bool) → is_key y.key x.key ≡ b → (has_key x.key (keys_of ys) ≡ true → keys_of (put_kept ys x) ≡ keys_of ys) → keys_of (put_kept (y ∷ ys) x) ≡ keys_of (y ∷ ys)
    go true i rest = rw (i, put_kept) (ap (λ (k : NodeKey). k ∷ keys_of ys) (sym (keys_equal y.key x.key i)))
    go false i rest =
        let other : is_key x.key y.key ≡ false = key_swap y.key x.key i in
        rw (i, put_kept) (ap (λ (l : List NodeKey). y.key ∷ l) (rest (rw (other, has_key) at h)))

pub drop_apart : (ks : List Kept) (k : NodeKey) → AreApart k ks → without_kept ks k ≡ ks
drop_apart [] k h = refl
drop_apart (y ∷ ys) k h = let one : is_key y.key k ≡ false = key_other y.key k h.0 in rw (one, without_kept) (ap (λ (l : List Kept). y ∷ l) (drop_apart ys k h.1))

without_keys : (ks : List Kept) (k : NodeKey) → without_key k (keys_of ks) ≡ keys_of (without_kept ks k)
without_keys [] k = refl
without_keys (y ∷ ys) k = go (is_key y.key k) refl (without_keys ys k)
  where
    go : (b : Bool) → is_key y.key k ≡ b → without_key k (keys_of ys) ≡ keys_of (without_kept ys k) → without_key k (keys_of (y ∷ ys)) ≡ keys_of (without_kept (y ∷ ys) k)
    go true i rest = let j : is_key k y.key ≡ true = key_sym k y.key ∙ i in rw (i, j, without_key, without_kept) refl
    go false i rest = let j : is_key k y.key ≡ false = key_sym k y.key ∙ i in rw (i, j, without_key, without_kept) (ap (λ (l : List NodeKey). y.key ∷ l) rest)

-- ---- where a key stands

pub data Place (k : NodeKey) (o : Option Current) (ks : List Kept) : Type 0 where
  New : AreApart k ks → NotNow k o → Place k o ks
  Here : (c : Current) → o ≡ Some c → node_key c.key ≡ k → AreApart k ks → Place k o ks
  There : has_key k (keys_of ks) ≡ true → NotNow k o → Place k o ks

pub place : (n : ℕ) (ps : List LogRec) (o : Option Current) (ks : List Kept) (k : NodeKey) → IsFit n ps o ks → Place k o ks
place n ps o ks k fit = go o refl
  where
    off : NotNow k o → Place k o ks
    off none = elim (has_or k ks) [ inl a ↦ New a none | inr h ↦ There h none ]

    on : (c : Current) → o ≡ Some c → (b : Bool) → is_key (node_key c.key) k ≡ b → Place k o ks
    on c i true e =
        let same : node_key c.key ≡ k = keys_equal (node_key c.key) k e in
        let binds : holds (last_at n k ps) is_bound ≡ true = subst (λ (j : NodeKey). holds (last_at n j ps) is_bound ≡ true) same (stands_bound n ps o c fit.now i) in
        elim (kept_or n ps k ks fit.kept) [ inl a ↦ Here c i same a | inr d ↦ absurd (no_both (last_at n k ps) d binds) ]
    on c i false e =
        off (λ x is same.
        let one : Some c ≡ Some x = sym i ∙ is in
        let equal : c ≡ x = cc (one) in
        let self : is_key (node_key c.key) k ≡ true = ap (λ (y : Current). is_key (node_key y.key) k) equal ∙ ap (λ (j : NodeKey). is_key j k) same ∙ key_self k in
        cc (self, e))

    go : (v : Option Current) → o ≡ v → Place k o ks
    go None i = off (λ x is same. let no : None ≡ Some x = sym i ∙ is in cc (no))
    go (Some c) i = on c i (is_key (node_key c.key) k) refl

pub kept_damage : (n : ℕ) (ps : List LogRec) (ks : List Kept) (k : NodeKey) → AreKept n ps ks → has_key k (keys_of ks) ≡ true → holds (last_at n k ps) is_damage ≡ true
kept_damage n ps [] k h i = absurd (cc (i))
kept_damage n ps (x ∷ xs) k h i = go (is_key k x.key) refl (kept_damage n ps xs k h.2)
  where
    go : (b : Bool) → is_key k x.key ≡ b → (has_key k (keys_of xs) ≡ true → holds (last_at n k ps) is_damage ≡ true) → holds (last_at n k ps) is_damage ≡ true
    go true e rest = ap (λ (j : NodeKey). holds (last_at n j ps) is_damage) (keys_equal k x.key e) ∙ ap (λ (v : Option LogRec). holds v is_damage) h.1.last
    go false e rest = rest (rw (e, has_key) at i)

-- ---- one record more

abbrev stands_after : LogRec → List NodeKey → NodeKey → List NodeKey
stands_after r ss k = if has_key k ss then ss else ss ++ (k ∷ [])

-- a key that is new stands after the others; one that is current stands there already
new_after : (k : NodeKey) (ks : List Kept) (o : Option Current) → o ≡ None → AreApart k ks → (if has_key k (keys_of ks ++ key_now o) then keys_of ks ++ key_now o else (keys_of ks ++ key_now o) ++ (k ∷ [])) ≡ keys_of ks ++ (k ∷ [])
new_after k ks o none a =
    let same : keys_of ks ++ key_now o ≡ keys_of ks = ap (λ (x : Option Current). keys_of ks ++ key_now x) none ∙ append-nil (keys_of ks) in
    rw (same, apart_has k ks a) refl

here_after : (k : NodeKey) (ks : List Kept) (o : Option Current) (c : Current) → o ≡ Some c → node_key c.key ≡ k
    → (if has_key k (keys_of ks ++ key_now o) then keys_of ks ++ key_now o else (keys_of ks ++ key_now o) ++ (k ∷ [])) ≡ keys_of ks ++ (k ∷ [])
here_after k ks o c i same =
    let now : keys_of ks ++ key_now o ≡ keys_of ks ++ (k ∷ []) = ap (λ (x : Option Current). keys_of ks ++ key_now x) i ∙ ap (λ (j : NodeKey). keys_of ks ++ (j ∷ [])) same in
    let self : has_key k (k ∷ []) ≡ true = rw (key_self k, has_key) refl in
    let there : has_key k (keys_of ks ++ (k ∷ [])) ≡ true = has_append k (keys_of ks) (k ∷ []) ∙ either (has_key k (keys_of ks)) (has_key k (k ∷ [])) self in
    rw (now, there) refl
  where
    either : (a b : Bool) → b ≡ true → (a || b) ≡ true
    either true b h = refl
    either false b h = h

there_after : (k : NodeKey) (ks : List Kept) (o : Option Current) → has_key k (keys_of ks) ≡ true → (if has_key k (keys_of ks ++ key_now o) then keys_of ks ++ key_now o else (keys_of ks ++ key_now o) ++ (k ∷ [])) ≡ keys_of ks ++ key_now o
there_after k ks o h =
    let there : has_key k (keys_of ks ++ key_now o) ≡ true = has_append k (keys_of ks) (key_now o) ∙ rw h refl in
    rw there refl

-- where nothing is bound nothing is current
pub nothing_now : (n b : ℕ) (ps : List LogRec) (o : Option Current) (ks : List Kept) → is_free n (bound (LogRec.Boot b ∷ ps)) ≡ true → IsFit n ps o ks → (v : Option Current) → o ≡ v → o ≡ None
nothing_now n b ps o ks free fit None i = i
nothing_now n b ps o ks free fit (Some c) i = absurd (none_now n b ps o free fit.now (node_key c.key) c i refl)

pub last_none : (n : ℕ) (ps : List LogRec) (o : Option Current) (ks : List Kept) (k : NodeKey) (f : LogRec → Bool) → IsFit n ps o ks → AreApart k ks → NotNow k o → holds (last_at n k ps) f ≡ true → ⊥
last_none n ps o ks k f fit a off h = let no : false ≡ true = ap (λ (v : Option LogRec). holds v f) (sym (fit.none k a off)) ∙ h in cc (no)

apart_new : (n : ℕ) (ps : List LogRec) (o : Option Current) (ks : List Kept) (k : NodeKey) → IsFit n ps o ks → last_at n k ps ≡ None → AreApart k ks
apart_new n ps o ks k fit none = elim (has_or k ks) [
  | inl a ↦ a
  | inr h ↦ absurd (let no : false ≡ true = ap (λ (v : Option LogRec). holds v is_damage) (sym none) ∙ kept_damage n ps ks k fit.kept h in cc (no))
]

step_ready : (n b : ℕ) (ps : List LogRec) (k : NodeKey) (s : Addr) (cs : List Child) (o : Option Current) (ks : List Kept) → follows (LogRec.Boot b ∷ ps) (LogRec.Ready n k s cs) ≡ true → IsFit n ps o ks
    → stands_after (LogRec.Ready n k s cs) (keys_of ks ++ key_now o) k ≡ keys_of ks ++ key_now (current_by (LogRec.Ready n k s cs) o)
step_ready n b ps k s cs o ks f fit =
    let p = new_parts (is_free n (bound (LogRec.Boot b ∷ ps))) (last_at n k ps) f in
    let none : o ≡ None = nothing_now n b ps o ks p.0 fit o refl in
    let now = logged_now k s Phase.Ready cs None in
    new_after k ks o none (apart_new n ps o ks k fit p.1) ∙ ap (λ (j : NodeKey). keys_of ks ++ (j ∷ [])) (sym now.2) ∙ ap (λ (x : Option Current). keys_of ks ++ key_now x) (sym now.1)

step_heuristic : (n b : ℕ) (ps : List LogRec) (k : NodeKey) (u : Outcome) (o : Option Current) (ks : List Kept) → follows (LogRec.Boot b ∷ ps) (LogRec.Heuristic n k u) ≡ true → IsFit n ps o ks
    → stands_after (LogRec.Heuristic n k u) (keys_of ks ++ key_now o) k ≡ keys_of ks ++ key_now (current_by (LogRec.Heuristic n k u) o)
step_heuristic n b ps k u o ks f fit = go (place n ps o ks k fit)
  where
    go : Place k o ks → stands_after (LogRec.Heuristic n k u) (keys_of ks ++ key_now o) k ≡ keys_of ks ++ key_now (current_by (LogRec.Heuristic n k u) o)
    go (New a off) = absurd (last_none n ps o ks k is_bound fit a off (vote_bound (last_at n k ps) f))
    go (There h off) = absurd (no_both (last_at n k ps) (kept_damage n ps ks k fit.kept h) (vote_bound (last_at n k ps) f))
    go (Here c i same a) =
        here_after k ks o c i same ∙ ap (λ (j : NodeKey). keys_of ks ++ (j ∷ [])) (sym same)
        ∙ ap (λ (x : Option Current). keys_of ks ++ key_now (current_by (LogRec.Heuristic n k u) x)) (sym i)

step_commit : (n b : ℕ) (ps : List LogRec) (k : NodeKey) (a : Option Addr) (cs : List Child) (o : Option Current) (ks : List Kept) → follows (LogRec.Boot b ∷ ps) (LogRec.Commit n k a cs) ≡ true → IsFit n ps o ks
    → stands_after (LogRec.Commit n k a cs) (keys_of ks ++ key_now o) k ≡ keys_of ks ++ key_now (current_by (LogRec.Commit n k a cs) o)
step_commit n b ps k a cs o ks f fit = go k.branch a f
  where
    go : (c : Option BranchId) (a : Option Addr) → follows (LogRec.Boot b ∷ ps) (LogRec.Commit n (record k { branch = c }) a cs) ≡ true
        → stands_after (LogRec.Commit n (record k { branch = c }) a cs) (keys_of ks ++ key_now o) (record k { branch = c }) ≡ keys_of ks ++ key_now (current_by (LogRec.Commit n (record k { branch = c }) a cs) o)
    go None a f =
        let j : NodeKey = record k { branch = None } in
        let p = new_parts (is_free n (bound (LogRec.Boot b ∷ ps))) (last_at n j ps) (and_left _ (nat_le k.aaid.mark.boot (last_boot_from b ps)) f) in
        new_after j ks o (nothing_now n b ps o ks p.0 fit o refl) (apart_new n ps o ks j fit p.1)
    go (Some c) None f = absurd (as_some cs _ (and_right _ _ f))
    go (Some c) (Some s) f =
        let j : NodeKey = record k { branch = Some c } in
        let binds : holds (last_at n j ps) is_bound ≡ true = either_bound (last_at n j ps) (and_left _ _ f) in
        on j binds (place n ps o ks j fit)
      where
        on : (j : NodeKey) → holds (last_at n j ps) is_bound ≡ true → Place j o ks → (if has_key j (keys_of ks ++ key_now o) then keys_of ks ++ key_now o else (keys_of ks ++ key_now o) ++ (j ∷ [])) ≡ keys_of ks ++ (j ∷ [])
        on j binds (New ap off) = absurd (last_none n ps o ks j is_bound fit ap off binds)
        on j binds (There h off) = absurd (no_both (last_at n j ps) (kept_damage n ps ks j fit.kept h) binds)
        on j binds (Here x i same ap) = here_after j ks o x i same

damage_last : (n b : ℕ) (ps : List LogRec) (k : NodeKey) (a : Option Addr) (u : Outcome) (w : Report) (cs : List Child) → follows (LogRec.Boot b ∷ ps) (LogRec.Damage n k a u w cs) ≡ true → holds (last_at n k ps) (λ r. true) ≡ true
damage_last n b ps k a Outcome.Commit w cs f = some (last_at n k ps) (may_owe cs) (and_left (holds (last_at n k ps) (may_owe cs)) _ f)
  where
    some : (v : Option LogRec) (g : LogRec → Bool) → holds v g ≡ true → holds v (λ r. true) ≡ true
    some None g h = absurd (cc (h))
    some (Some r) g h = refl
damage_last n b ps k a Outcome.Rollback w cs f = some (last_at n k ps) (is_decision Outcome.Commit) (grind (arith, f))
  where
    some : (v : Option LogRec) (g : LogRec → Bool) → holds v g ≡ true → holds v (λ r. true) ≡ true
    some None g h = absurd (cc (h))
    some (Some r) g h = refl

let_go : (k : NodeKey) (o : Option Current) → NotNow k o → without_current k o ≡ o
let_go k o off = not_let_go k o (λ c is same. off c is (sym same))

gone_now : (k : NodeKey) (o : Option Current) (c : Current) → o ≡ Some c → node_key c.key ≡ k → without_current k o ≡ None
gone_now k o c i same =
    let self : is_key (node_key c.key) k ≡ true = ap (λ (j : NodeKey). is_key j k) same ∙ key_self k in
    ap (without_current k) i ∙ rw (self, without_current) refl

step_damage : (n b : ℕ) (ps : List LogRec) (k : NodeKey) (a : Option Addr) (u : Outcome) (w : Report) (cs : List Child) (o : Option Current) (ks : List Kept)
    → follows (LogRec.Boot b ∷ ps) (LogRec.Damage n k a u w cs) ≡ true → IsFit n ps o ks
    → stands_after (LogRec.Damage n k a u w cs) (keys_of ks ++ key_now o) k ≡ keys_of (kept_by (LogRec.Damage n k a u w cs) ks) ++ key_now (current_by (LogRec.Damage n k a u w cs) o)
unfolding kept_by
step_damage n b ps k a u w cs o ks f fit = go (place n ps o ks k fit)
  where
    x : Kept
    x = record { node = n; key = k; superior = a; side = u; report = w; owed = cs; forgot = false }

    go : Place k o ks → stands_after (LogRec.Damage n k a u w cs) (keys_of ks ++ key_now o) k ≡ keys_of (put_kept ks x) ++ key_now (without_current k o)
    go (New ap off) = absurd (last_none n ps o ks k (λ r. true) fit ap off (damage_last n b ps k a u w cs f))
    go (Here c i same apart) =
        here_after k ks o c i same ∙ sym (put_apart ks x apart) ∙ sym (append-nil (keys_of (put_kept ks x))) ∙ ap (λ (v : Option Current). keys_of (put_kept ks x) ++ key_now v) (sym (gone_now k o c i same))
    go (There h off) =
        there_after k ks o h ∙ ap (λ (l : List NodeKey). l ++ key_now o) (sym (put_there ks x h)) ∙ ap (λ (v : Option Current). keys_of (put_kept ks x) ++ key_now v) (sym (let_go k o off))

step_end : (n b : ℕ) (ps : List LogRec) (k : NodeKey) (u : Outcome) (o : Option Current) (ks : List Kept) → follows (LogRec.Boot b ∷ ps) (LogRec.End n k u) ≡ true → IsFit n ps o ks
    → without_key k (keys_of ks ++ key_now o) ≡ keys_of (kept_by (LogRec.End n k u) ks) ++ key_now (current_by (LogRec.End n k u) o)
unfolding kept_by
step_end n b ps k u o ks f fit = go (place n ps o ks k fit)
  where
    go : Place k o ks → without_key k (keys_of ks ++ key_now o) ≡ keys_of (without_kept ks k) ++ key_now (without_current k o)
    go (New ap off) = absurd (last_none n ps o ks k (may_end u) fit ap off f)
    go (Here c i same apart) =
        let self : is_key k (node_key c.key) ≡ true = ap (is_key k) same ∙ key_self k in
        let one : without_key k (node_key c.key ∷ []) ≡ [] = rw (self, without_key) refl in
        without_off k (keys_of ks) (key_now o) (apart_has k ks apart)
        ∙ ap (λ (v : Option Current). keys_of ks ++ without_key k (key_now v)) i
        ∙ ap (λ (l : List NodeKey). keys_of ks ++ l) one
        ∙ ap (λ (l : List Kept). keys_of l ++ []) (sym (drop_apart ks k apart))
        ∙ ap (λ (v : Option Current). keys_of (without_kept ks k) ++ key_now v) (sym (gone_now k o c i same))
    go (There h off) =
        without_there k (keys_of ks) (key_now o) h ∙ ap (λ (l : List NodeKey). l ++ key_now o) (without_keys ks k) ∙ ap (λ (v : Option Current). keys_of (without_kept ks k) ++ key_now v) (sym (let_go k o off))

-- every record of the node
stand_step : (n b : ℕ) (ps : List LogRec) (r : LogRec) (o : Option Current) (ks : List Kept) (k : NodeKey) → owner_of r ≡ Some (owner n k) → follows (LogRec.Boot b ∷ ps) r ≡ true → IsFit n ps o ks
    → (rs : List LogRec) → standing_keys rs ≡ keys_of ks ++ key_now o → standing_keys (r ∷ rs) ≡ keys_of (kept_by r ks) ++ key_now (current_by r o)
unfolding kept_by
stand_step n b ps (LogRec.Boot m) o ks k own f fit rs h = absurd (cc (own))
stand_step n b ps (LogRec.Ready m j s cs) o ks k own f fit rs h =
    let same : m ≡ n = grind (arith, own) in
    rw h (step_ready n b ps j s cs o ks (subst (λ (x : ℕ). follows (LogRec.Boot b ∷ ps) (LogRec.Ready x j s cs) ≡ true) same f) fit)
stand_step n b ps (LogRec.Heuristic m j u) o ks k own f fit rs h =
    let same : m ≡ n = grind (arith, own) in
    rw h (step_heuristic n b ps j u o ks (subst (λ (x : ℕ). follows (LogRec.Boot b ∷ ps) (LogRec.Heuristic x j u) ≡ true) same f) fit)
stand_step n b ps (LogRec.Commit m j a cs) o ks k own f fit rs h =
    let same : m ≡ n = grind (arith, own) in
    rw h (step_commit n b ps j a cs o ks (subst (λ (x : ℕ). follows (LogRec.Boot b ∷ ps) (LogRec.Commit x j a cs) ≡ true) same f) fit)
stand_step n b ps (LogRec.Damage m j a u w cs) o ks k own f fit rs h =
    let same : m ≡ n = grind (arith, own) in
    rw h (subst (λ (x : ℕ). stands_after (LogRec.Damage x j a u w cs) (keys_of ks ++ key_now o) j ≡ keys_of (kept_by (LogRec.Damage x j a u w cs) ks) ++ key_now (current_by (LogRec.Damage x j a u w cs) o)) (sym same)
    (step_damage n b ps j a u w cs o ks (subst (λ (x : ℕ). follows (LogRec.Boot b ∷ ps) (LogRec.Damage x j a u w cs) ≡ true) same f) fit))
stand_step n b ps (LogRec.End m j u) o ks k own f fit rs h =
    let same : m ≡ n = grind (arith, own) in
    rw h (step_end n b ps j u o ks (subst (λ (x : ℕ). follows (LogRec.Boot b ∷ ps) (LogRec.End x j u) ≡ true) same f) fit)

-- ---- all records of a log

stand_from : (n boot b : ℕ) (ps rs : List LogRec) (o : Option Current) (ks : List Kept) → follow_from (LogRec.Boot b ∷ ps) rs ≡ true → are_own_records n boot rs ≡ true → IsFit n ps o ks
    → standing_keys (reverse ps) ≡ keys_of ks ++ key_now o → standing_keys (reverse (ps ++ rs)) ≡ keys_of (kept_from ks rs) ++ key_now (current_from o rs)
stand_from n boot b ps [] o ks f own fit h = ap (λ (l : List LogRec). standing_keys (reverse l)) (append-nil ps) ∙ h
stand_from n boot b ps (r ∷ rs) o ks f own fit h =
    let k = own_key n boot r (and_left (is_own_record n boot r) (are_own_records n boot rs) own) in
    let one = and_left (follows (LogRec.Boot b ∷ ps) r) (follow_from (LogRec.Boot b ∷ ps ++ r ∷ []) rs) f in
    let more : standing_keys (reverse (ps ++ r ∷ [])) ≡ keys_of (kept_by r ks) ++ key_now (current_by r o) = ap standing_keys (reverse-append ps (r ∷ [])) ∙ stand_step n b ps r o ks k.0 k.1 one fit (reverse ps) h in
    ap (λ (l : List LogRec). standing_keys (reverse l)) (sym (append_assoc ps (r ∷ []) rs))
    ∙ stand_from n boot b (ps ++ r ∷ []) rs (current_by r o) (kept_by r ks) (and_right (follows (LogRec.Boot b ∷ ps) r) (follow_from (LogRec.Boot b ∷ ps ++ r ∷ []) rs) f) (and_right (is_own_record n boot r) (are_own_records n boot rs) own)
    (fit_step n b ps r o ks k.0 k.1 one fit) more

pub standing_law : (n boot b : ℕ) (rs : List LogRec) → follow_from (LogRec.Boot b ∷ []) rs ≡ true → are_own_records n boot rs ≡ true → standing_keys (reverse rs) ≡ keys_of (kept_from [] rs) ++ key_now (current_from None rs)
standing_law n boot b rs f own = stand_from n boot b [] rs None [] f own (record { now = Nothing refl; kept = tt; none = λ k a off. refl; boots = λ x. refl }) refl
