-- Each step keeps the rule.
use Rattle.std.proofs.Common.{◌≡◌, ◌≢◌, ◌==◌, ◌⊎◌, ℕ, zero, suc, ◌+◌, ◌≤◌, ◌<◌, true, false, List, [], ◌∷◌, ◌++◌, length, set, drop, get_or, refl, sym, ap, ◌∙◌, subst, inl, inr, ⊎_elim, arith, eq-eqb, ne_eqb, length-append, length-set, append-nil}
use mathlib.Core.Option.{Option, none, some, some-injective, some-ne-none}
use mathlib.Core.Logic.{dite}
use native.Mathlib.Decide.{ℕ_discrete}
use prog.Atomic.{either}
use lib.ListN.{get_elem?}
use Rattle.atomic_table.specs.Table.{State, Me, Act, keeps, takes, gives, step, Allows, Enters, Joins, Final, Seen, opening, stepped, Valid, carried_after}
use Rattle.atomic_table.proofs.Lists.{at_set, set_again, exchanged}
use Rattle.tp_turns.specs.declared.knows.Claim.{Claim}
use Rattle.tp_turns.specs.declared.knows.Knows.{Knows}
use Rattle.tp_turns.specs.Turns.{own_of, items_of, lists_of, Lacks, knows, idle, claim, AreTold, both_of, Covers, Lies, Kept, took, gave, sealed, entered}
use Rattle.tp_turns.proofs.Covering.{own_same, own_else, covers}

module _ {A : Type 0} where
  pub at_end : (l : List A) (a b : A) (j : ℕ) → get_elem? (l ++ a ∷ []) j ≡ some b → (get_elem? l j ≡ some b) ⊎ ((j ≡ length l) × (a ≡ b))
  at_end [] a b zero e = inr (refl, some-injective a b e)
  at_end [] a b (suc j) e = absurd (some-ne-none b (sym e))
  at_end (x ∷ xs) a b zero e = inl e
  at_end (x ∷ xs) a b (suc j) e = ⊎_elim inl (λ t. inr (ap suc t.0, t.1)) (at_end xs a b j e)

  -- an item is within the list
  pub at_within : (l : List A) (j : ℕ) (a : A) → get_elem? l j ≡ some a → j < length l
  at_within [] j a e = absurd (some-ne-none a (sym e))
  at_within (x ∷ xs) zero a e = omega arith
  at_within (x ∷ xs) (suc j) a e = let h = at_within xs j a e in omega arith

  drop_all : (xs ys : List A) → drop (length xs) (xs ++ ys) ≡ ys
  drop_all [] ys = refl
  drop_all (x ∷ xs) ys = drop_all xs ys

abbrev choose : ℕ → ℕ → ℕ → ℕ → ℕ
choose a b x y = elim (a == b) [ true ↦ x | false ↦ y ]

choose_same : (a b x y : ℕ) → a ≡ b → choose a b x y ≡ x
choose_same a b x y e = ap (λ t. elim t [ true ↦ x | false ↦ y ]) (eq-eqb a b e)

choose_else : (a b x y : ℕ) → a ≢ b → choose a b x y ≡ y
choose_else a b x y ne = ap (λ t. elim t [ true ↦ x | false ↦ y ]) (ne_eqb a b ne)

module _ {R : Type 0} where
  -- ---- claims

  -- more passes, other numbers, other owners
  retold : (log : List (ℕ × R)) (owner owner' : ℕ → ℕ) (by by' n m : ℕ) (cs : List (Claim R)) → n ≤ m → ((t : ℕ) → t < n → owner t ≡ by → owner' t ≡ by')
      → AreTold log owner by n cs → AreTold log owner' by' m cs
  retold log owner owner' by by' n m [] le f h = tt
  retold log owner owner' by by' n m (c ∷ cs) le f h =
      ((h.0.0, f c.tag h.0.2 h.0.1, (let b = h.0.2 in omega arith), h.0.3), retold log owner owner' by by' n m cs le f h.1)

  lacks_by : (log : List (ℕ × R)) (owner : ℕ → ℕ) (by n t : ℕ) (cs : List (Claim R)) → owner t ≢ by → AreTold log owner by n cs → Lacks t cs
  lacks_by log owner by n t [] ne h = tt
  lacks_by log owner by n t (c ∷ cs) ne h = ((λ e. ne (ap owner (sym e) ∙ h.0.1)), lacks_by log owner by n t cs ne h.1)

  lacks_both : (t : ℕ) (xs ys : List (Claim R)) → Lacks t xs → Lacks t ys → Lacks t (xs ++ ys)
  lacks_both t [] ys h k = k
  lacks_both t (x ∷ xs) ys h k = (h.0, lacks_both t xs ys h.1 k)

  joined : (log : List (ℕ × R)) (owner owner' : ℕ → ℕ) (i j n : ℕ) (xs ys : List (Claim R)) → i ≢ j
      → ((t : ℕ) → owner t ≡ i → owner' t ≡ i) → ((t : ℕ) → owner t ≡ j → owner' t ≡ i)
      → AreTold log owner i n xs → AreTold log owner j n ys → AreTold log owner' i n (xs ++ ys)
  joined log owner owner' i j n [] ys ne f g h k = retold log owner owner' j i n n ys (omega arith) (λ t _ e. g t e) k
  joined log owner owner' i j n (x ∷ xs) ys ne f g h k =
      ((h.0.0, f x.tag h.0.1, h.0.2, lacks_both x.tag xs ys h.0.3 (lacks_by log owner j n x.tag ys (λ e. ne (sym h.0.1 ∙ e)) k)), joined log owner owner' i j n xs ys ne f g h.1 k)

  -- ---- items that are put under one number

  abbrev under : ℕ → List R → List (ℕ × R)
  under t [] = []
  under t (r ∷ rs) = (t, r) ∷ under t rs

  items_put : (log : List (ℕ × R)) (t : ℕ) (rs : List R) → items_of (log ++ under t rs) ≡ items_of log ++ rs
  items_put [] t [] = refl
  items_put [] t (r ∷ rs) = ap (λ l. r ∷ l) (items_put [] t rs)
  items_put (e ∷ es) t rs = ap (λ l. e.1 ∷ l) (items_put es t rs)

  own_under : (t u : ℕ) (rs : List R) → u ≡ t → own_of t (under u rs) ≡ rs
  own_under t u [] e = refl
  own_under t u (r ∷ rs) e = own_same t u r (under u rs) e ∙ ap (λ l. r ∷ l) (own_under t u rs e)

  none_under : (t u : ℕ) (rs : List R) → u ≢ t → own_of t (under u rs) ≡ []
  none_under t u [] ne = refl
  none_under t u (r ∷ rs) ne = own_else t u r (under u rs) ne ∙ none_under t u rs ne

  own_both : (t : ℕ) (xs ys : List (ℕ × R)) → own_of t (xs ++ ys) ≡ own_of t xs ++ own_of t ys
  own_both t [] ys = refl
  own_both t (e ∷ es) ys =
      dite (ℕ_discrete e.0 t)
      (λ is. own_same t e.0 e.1 (es ++ ys) is ∙ ap (λ l. e.1 ∷ l) (own_both t es ys) ∙ ap (λ l. l ++ own_of t ys) (sym (own_same t e.0 e.1 es is)))
      (λ ne. own_else t e.0 e.1 (es ++ ys) ne ∙ own_both t es ys ∙ ap (λ l. l ++ own_of t ys) (sym (own_else t e.0 e.1 es ne)))

  own_put : (t : ℕ) (log : List (ℕ × R)) (rs : List R) → own_of t (log ++ under t rs) ≡ own_of t log ++ rs
  own_put t log rs = own_both t log (under t rs) ∙ ap (λ l. own_of t log ++ l) (own_under t t rs refl)

  own_stays : (t u : ℕ) (log : List (ℕ × R)) (rs : List R) → u ≢ t → own_of t (log ++ under u rs) ≡ own_of t log
  own_stays t u log rs ne = own_both t log (under u rs) ∙ ap (λ l. own_of t log ++ l) (none_under t u rs ne) ∙ append-nil (own_of t log)

  -- claims under other numbers stay
  told_stays : (log : List (ℕ × R)) (u : ℕ) (rs : List R) (owner : ℕ → ℕ) (by n : ℕ) (cs : List (Claim R)) → Lacks u cs → AreTold log owner by n cs → AreTold (log ++ under u rs) owner by n cs
  told_stays log u rs owner by n [] lacks h = tt
  told_stays log u rs owner by n (c ∷ cs) lacks h =
      ((h.0.0 ∙ sym (own_stays c.tag u log rs (λ e. lacks.0 (sym e))), h.0.1, h.0.2, h.0.3), told_stays log u rs owner by n cs lacks.1 h.1)

module _ {S R : Type 0} (list : S → List R) where
  abbrev Views : Type 0
  Views = List (Knows R)

  abbrev table : List ℕ → List (Option S) → Views → State S (Knows R)
  table ws hs vs = record { words = ws; homes = hs; views = vs }

  -- what is told of the claims of all passes
  abbrev Tells : List (ℕ × R) → (ℕ → ℕ) → ℕ → Views → Type 0
  Tells log owner n views = (i : ℕ) (v : Knows R) → get_elem? views i ≡ some v → AreTold log owner i n v.claims

  -- the claims of one pass are new
  told_set : (log : List (ℕ × R)) (owner : ℕ → ℕ) (views : Views) (id : ℕ) (w : Knows R)
      → ((i : ℕ) (v : Knows R) → i ≢ id → get_elem? views i ≡ some v → AreTold log owner i (length views) v.claims) → AreTold log owner id (length views) w.claims
      → Tells log owner (length (set views id w)) (set views id w)
  told_set log owner views id w others mine i v e =
      let len : length (set views id w) ≡ length views = length-set views id w in
      subst (λ n. AreTold log owner i n v.claims) (sym len) (⊎_elim
      (λ (t : (i ≡ id) × (w ≡ v)). subst (λ (u : Knows R). AreTold log owner i (length views) u.claims) t.1 (subst (λ k. AreTold log owner k (length views) w.claims) (sym t.0) mine))
      (λ (t : (i ≢ id) × (get_elem? views i ≡ some v)). others i v t.0 t.1)
      (at_set views id i w v e))

  fresh_set : (log : List (ℕ × R)) (views : Views) (id : ℕ) (w : Knows R) → ((t : ℕ) → length views ≤ t → own_of t log ≡ []) → (t : ℕ) → length (set views id w) ≤ t → own_of t log ≡ []
  fresh_set log views id w f t le = f t (let len = length-set views id w in omega arith)

  -- where the value is free every pass does nothing
  all_idle : (s : State S (Knows R)) (items : List R) (h : Lies list s items) → h.stage ≡ 0 → (i : ℕ) (v : Knows R) → get_elem? s.views i ≡ some v → v.stage ≡ 0
  all_idle s items h free i v e =
      dite (ℕ_discrete i h.by) (λ is. (h.here v (subst (λ k. get_elem? s.views k ≡ some v) is e)).0 ∙ free) (λ ne. h.others i v e ne)

  -- a pass that does something is the one
  it_is : (s : State S (Knows R)) (items : List R) (h : Lies list s items) (i : ℕ) (v : Knows R) → get_elem? s.views i ≡ some v → v.stage ≢ 0 → i ≡ h.by
  it_is s items h i v e busy = dite (ℕ_discrete i h.by) (λ is. is) (λ ne. absurd (busy (h.others i v e ne)))

  -- one pass steps, and the others do nothing
  lies_set : (ws : List ℕ) (hs : List (Option S)) (views : Views) (id : ℕ) (w : Knows R) (items : List R) → ((i : ℕ) (v : Knows R) → i ≢ id → get_elem? views i ≡ some v → v.stage ≡ 0)
      → ws ≡ w.stage ∷ [] → (w.stage ≡ 1 → w.seen ≡ items) → (w.stage ≢ 1 → (x : S) × (hs ≡ some x ∷ []) × (list x ≡ items)) → (w.stage ≡ 1 → hs ≡ none ∷ []) → id < length views
      → Lies list (table ws hs (set views id w)) items
  lies_set ws hs views id w items others words seen home away inside =
      record {
        stage = w.stage;
        by = id;
        words = words;
        others = λ i v e ne. ⊎_elim (λ (t : (i ≡ id) × (w ≡ v)). absurd (ne t.0)) (λ (t : (i ≢ id) × (get_elem? views i ≡ some v)). others i v t.0 t.1) (at_set views id i w v e);
        here = λ v e. ⊎_elim
            (λ (t : (id ≡ id) × (w ≡ v)). subst (λ (u : Knows R). (u.stage ≡ w.stage) × (w.stage ≡ 1 → u.seen ≡ items)) t.1 (refl, seen))
            (λ (t : (id ≢ id) × (get_elem? views id ≡ some v)). absurd (t.0 refl))
            (at_set views id id w v e);
        home = home;
        away = away;
        within = λ _. (let len = length-set views id w in omega arith);
      }

  -- ---- the start

  pub begins : (x : S) → list x ≡ [] → Kept list (opening (0 ∷ []) (x ∷ []) (idle []))
  begins x empty =
      record {
        log = [];
        owner = λ _. 0;
        told = λ i v e. subst (λ (u : Knows R). AreTold [] (λ _. 0) i 1 u.claims) (one i v e) tt;
        fresh = λ t _. refl;
        lock = record {
          stage = 0;
          by = 0;
          words = refl;
          others = λ i v e _. ap (λ (u : Knows R). u.stage) (sym (one i v e));
          here = λ v e. (ap (λ (u : Knows R). u.stage) (sym (one 0 v e)), λ z. absurd (omega arith));
          home = λ _. (x, refl, empty);
          away = λ z. absurd (omega arith);
          within = λ n. absurd (n refl);
        };
      }
    where
      one : (i : ℕ) (v : Knows R) → get_elem? (idle {R = R} [] ∷ []) i ≡ some v → idle [] ≡ v
      one zero v e = some-injective _ _ e
      one (suc i) v e = absurd (some-ne-none v (sym e))

  -- ---- a pass takes the value

  taken : (s : State S (Knows R)) (h : Kept list s) (id : ℕ) (v : Knows R) (x : S) → get_elem? s.views id ≡ some v → h.lock.stage ≡ 0 → list x ≡ items_of h.log
      → Kept list (table (1 ∷ []) (none ∷ []) (set s.views id (knows 1 (list x) v.claims)))
  taken s h id v x at free is =
      let w = knows 1 (list x) v.claims in
      record {
        log = h.log;
        owner = h.owner;
        told = told_set h.log h.owner s.views id w (λ i u _ e. h.told i u e) (h.told id v at);
        fresh = fresh_set h.log s.views id w h.fresh;
        lock = lies_set (1 ∷ []) (none ∷ []) s.views id w (items_of h.log) (λ i u _ e. all_idle s (items_of h.log) h.lock free i u e) refl (λ _. is) (λ n. absurd (n refl)) (λ _. refl) (at_within s.views id v at);
      }

  abbrev Goes : State S (Knows R) → ℕ → Me S (Knows R) → (ℕ → Me S (Knows R) → Type 0) → ℕ → Type 0
  Goes s id me then n = (w : Knows R) × (a : Act S) × Valid s.homes me.1 a × Kept list (stepped s 0 n id me.1 w a) × then (get_or s.words 0 0) (w, carried_after me.1 a)

  -- the table, with words, slots and views that are these
  as_is : (ws ws' : List ℕ) (hs hs' : List (Option S)) (vs vs' : Views) → ws ≡ ws' → hs ≡ hs' → vs ≡ vs' → Kept list (table ws' hs' vs') → Kept list (table ws hs vs)
  as_is ws ws' hs hs' vs vs' p q r h = subst (λ (t : List ℕ × List (Option S) × Views). Kept list (table t.0 t.1 t.2)) (λ i. (sym p i, sym q i, sym r i)) h

  pub may_take : (slots id : ℕ) (v : Knows R) → Allows (Kept list) slots id (v, []) 0 (λ n. either (n == 0) 1 n) (took list (step slots 0 0 1 none) (v, []))
  may_take slots id v s h wide at small =
      let k = h.lock in
      let word : get_or s.words 0 0 ≡ k.stage = ap (λ l. get_or l 0 0) k.words in
      exchanged (get_or s.words 0 0) 0 1 (Goes s id (v, []) (took list (step slots 0 0 1 none) (v, [])))
      (λ hit.
      let free : k.stage ≡ 0 = sym word ∙ hit in
      let t = k.home (λ e. absurd (omega (arith, e, free))) in
      let w = knows 1 (list t.0) v.claims in (
        w,
        takes 0 t.0,
        ap (λ l. get_elem? l 0) t.1,
        as_is (set s.words 0 1) (1 ∷ []) (set s.homes 0 none) (none ∷ []) (set s.views id w) (set s.views id w) (ap (λ l. set l 0 1) k.words) (ap (λ l. set l 0 none) t.1) refl (taken s h id v t.0 at free t.2),
        ((λ _. (t.0, refl)), (λ miss. absurd (miss hit))),
      ))
      (λ miss. (
        v,
        keeps,
        tt,
        as_is (set s.words 0 (get_or s.words 0 0)) s.words s.homes s.homes (set s.views id v) s.views (ap (λ l. set l 0 (get_or l 0 0)) k.words ∙ sym k.words) refl (set_again s.views id v at) h,
        ((λ hit. absurd (miss hit)), (λ _. refl)),
      ))

  -- ---- a pass gives it back

  -- the pass has the value
  record Holds (s : State S (Knows R)) (h : Kept list s) (id : ℕ) (seen : List R) : Type 0 where
    pub it : id ≡ h.lock.by
    pub seen_is : seen ≡ items_of h.log
    pub out : s.homes ≡ none ∷ []

  holds : (s : State S (Knows R)) (h : Kept list s) (id : ℕ) (seen : List R) (cs : List (Claim R)) → get_elem? s.views id ≡ some (knows 1 seen cs) → Holds s h id seen
  holds s h id seen cs at =
      let k = h.lock in
      let v = knows 1 seen cs in
      let it : id ≡ k.by = it_is s (items_of h.log) k id v at (λ e. absurd (omega (arith, e))) in
      let here = k.here v (subst (λ j. get_elem? s.views j ≡ some v) it at) in
      record { it = it; seen_is = here.1 (sym here.0); out = k.away (sym here.0) }

  given : (s : State S (Knows R)) (h : Kept list s) (id : ℕ) (seen more : List R) (c : Claim R) (cs : List (Claim R)) (x : S) → list x ≡ seen ++ more → get_elem? s.views id ≡ some (knows 1 seen (c ∷ cs))
      → Kept list (table (0 ∷ []) (some x ∷ []) (set s.views id (idle (claim c.tag (c.list ++ more) ∷ cs))))
  given s h id seen more c cs x is at =
      let k = h.lock in
      let v = knows 1 seen (c ∷ cs) in
      let n = length s.views in
      let b : Holds s h id seen = holds s h id seen (c ∷ cs) at in
      let told = h.told id v at in
      let log = h.log ++ under c.tag more in
      let w = idle (claim c.tag (c.list ++ more) ∷ cs) in
      record {
        log = log;
        owner = h.owner;
        told = told_set log h.owner s.views id w
            (λ i u ne e. let t = h.told i u e in told_stays h.log c.tag more h.owner i n u.claims (lacks_by h.log h.owner i n c.tag u.claims (λ q. ne (sym q ∙ told.0.1)) t) t)
            ((ap (λ l. l ++ more) told.0.0 ∙ sym (own_put c.tag h.log more), told.0.1, told.0.2, told.0.3), told_stays h.log c.tag more h.owner id n cs told.0.3 told.1);
        fresh = fresh_set log s.views id w (λ t le. own_stays t c.tag h.log more (λ e. (let l = told.0.2 in omega (arith, e))) ∙ h.fresh t le);
        lock = lies_set (0 ∷ []) (some x ∷ []) s.views id w (items_of log) (λ i u ne e. k.others i u e (λ q. ne (q ∙ sym b.it))) refl (λ z. absurd (omega (arith, z)))
            (λ _. (x, refl, is ∙ ap (λ l. l ++ more) b.seen_is ∙ sym (items_put h.log c.tag more))) (λ z. absurd (omega (arith, z))) (at_within s.views id v at);
      }

  pub may_give : (slots id : ℕ) (seen more : List R) (c : Claim R) (cs : List (Claim R)) (x : S) → list x ≡ seen ++ more
      → let me : Me S (Knows R) = (knows 1 seen (c ∷ cs), (0, x) ∷ []) in Allows (Kept list) slots id me 0 (λ _. 0) (λ _. gave list (step slots 0 0 0 none) me 0)
  may_give slots id seen more c cs x is s h wide at small =
      let k = h.lock in
      let b : Holds s h id seen = holds s h id seen (c ∷ cs) at in
      let w = idle (claim c.tag (c.list ++ more) ∷ cs) in (
        w,
        gives,
        tt,
        as_is (set s.words 0 0) (0 ∷ []) (set s.homes 0 (some x)) (some x ∷ []) (set s.views id w) (set s.views id w) (ap (λ l. set l 0 0) k.words) (ap (λ l. set l 0 (some x)) b.out) refl (given s h id seen more c cs x is at),
        (λ y e.
            let same : x ≡ y = ap (λ (l : List (ℕ × S)). (get_or l 0 (0, x)).1) e in
            ap (λ m. (idle (claim c.tag (c.list ++ m) ∷ cs), [])) (sym (ap (drop (length seen)) is ∙ drop_all seen more) ∙ ap (λ z. drop (length seen) (list z)) same)),
      )

  -- ---- a pass seals it

  shut : (s : State S (Knows R)) (h : Kept list s) (id : ℕ) (seen : List R) (cs : List (Claim R)) (x : S) → list x ≡ seen → get_elem? s.views id ≡ some (knows 1 seen cs)
      → Kept list (table (2 ∷ []) (some x ∷ []) (set s.views id (knows 2 [] cs)))
  shut s h id seen cs x is at =
      let k = h.lock in
      let v = knows 1 seen cs in
      let b : Holds s h id seen = holds s h id seen cs at in
      let w = knows 2 [] cs in
      record {
        log = h.log;
        owner = h.owner;
        told = told_set h.log h.owner s.views id w (λ i u _ e. h.told i u e) (h.told id v at);
        fresh = fresh_set h.log s.views id w h.fresh;
        lock = lies_set (2 ∷ []) (some x ∷ []) s.views id w (items_of h.log) (λ i u ne e. k.others i u e (λ q. ne (q ∙ sym b.it))) refl (λ z. absurd (omega (arith, z)))
            (λ _. (x, refl, is ∙ b.seen_is)) (λ z. absurd (omega (arith, z))) (at_within s.views id v at);
      }

  pub may_seal : (slots id : ℕ) (seen : List R) (cs : List (Claim R)) (x : S) → list x ≡ seen
      → let me : Me S (Knows R) = (knows 1 seen cs, (0, x) ∷ []) in Allows (Kept list) slots id me 0 (λ _. 2) (λ _. sealed list (step slots 0 2 0 none) me 2)
  may_seal slots id seen cs x is s h wide at small =
      let k = h.lock in
      let b : Holds s h id seen = holds s h id seen cs at in
      let w = knows 2 [] cs in (
        w,
        gives,
        tt,
        as_is (set s.words 0 2) (2 ∷ []) (set s.homes 0 (some x)) (some x ∷ []) (set s.views id w) (set s.views id w) (ap (λ l. set l 0 2) k.words) (ap (λ l. set l 0 (some x)) b.out) refl (shut s h id seen cs x is at),
        refl,
      )

  -- ---- a new pass

  lies_longer : (s : State S (Knows R)) (items : List R) (w : Knows R) → w.stage ≡ 0 → Lies list s items → Lies list (table s.words s.homes (s.views ++ w ∷ [])) items
  lies_longer s items w rests k =
      let n = length s.views in
      let more : length (s.views ++ w ∷ []) ≡ n + 1 = length-append s.views (w ∷ []) in
      record {
        stage = k.stage;
        by = k.by;
        words = k.words;
        others = λ i v e ne. ⊎_elim (λ t. k.others i v t ne) (λ (t : (i ≡ n) × (w ≡ v)). ap (λ (u : Knows R). u.stage) (sym t.1) ∙ rests) (at_end s.views w v i e);
        here = λ v e. ⊎_elim
            (λ t. k.here v t)
            (λ (t : (k.by ≡ n) × (w ≡ v)).
            let free : k.stage ≡ 0 = dite (ℕ_discrete k.stage 0) (λ z. z) (λ busy. absurd (let l = k.within busy in omega (arith, l, t.0))) in
            (ap (λ (u : Knows R). u.stage) (sym t.1) ∙ rests ∙ sym free, λ one. absurd (omega (arith, one, free))))
            (at_end s.views w v k.by e);
        home = k.home;
        away = k.away;
        within = λ busy. (let l = k.within busy in omega (arith, more));
      }

  pub may_enter : (slots : ℕ) → Enters (Kept list) slots 0 (λ n w. entered list (step slots 0 0 0 none) (idle [], []) n (w, []))
  may_enter slots s h wide small =
      let n = length s.views in
      let w = idle (claim n [] ∷ []) in
      let more : length (s.views ++ w ∷ []) ≡ n + 1 = length-append s.views (w ∷ []) in
      let owner : ℕ → ℕ = λ t. choose t n n (h.owner t) in (
        w,
        record {
          log = h.log;
          owner = owner;
          told = λ i v e. ⊎_elim
              (λ t. retold h.log h.owner owner i i n (length (s.views ++ w ∷ [])) v.claims (omega (arith, more)) (λ u lt q. choose_else u n n (h.owner u) (λ z. omega (arith, z)) ∙ q) (h.told i v t))
              (λ (t : (i ≡ n) × (w ≡ v)). subst (λ (u : Knows R). AreTold h.log owner i (length (s.views ++ w ∷ [])) u.claims) t.1
              ((sym (h.fresh n (omega arith)), choose_same n n n (h.owner n) refl ∙ sym t.0, omega (arith, more), tt), tt))
              (at_end s.views w v i e);
          fresh = λ t le. h.fresh t (omega (arith, more));
          lock = lies_longer s (items_of h.log) w refl h.lock;
        },
        (n, refl),
      )

  -- ---- two passes become one

  lies_joined : (s : State S (Knows R)) (items : List R) (id other : ℕ) (v w : Knows R) → w.stage ≡ 0 → other ≢ id → get_elem? s.views id ≡ some v → get_elem? s.views other ≡ some w
      → Lies list s items → Lies list (table s.words s.homes (set (set s.views id (both_of v w)) other (idle []))) items
  lies_joined s items id other v w rests apart at there k =
      let both = both_of v w in
      let P : Knows R → Type 0 = λ u. (u.stage ≡ k.stage) × (k.stage ≡ 1 → u.seen ≡ items) in
      record {
        stage = k.stage;
        by = k.by;
        words = k.words;
        others = λ i u e ne. ⊎_elim
            (λ (t : (i ≡ other) × (idle [] ≡ u)). ap (λ (y : Knows R). y.stage) (sym t.1))
            (λ (t : (i ≢ other) × (get_elem? (set s.views id both) i ≡ some u)). ⊎_elim
            (λ (q : (i ≡ id) × (both ≡ u)). ap (λ (y : Knows R). y.stage) (sym q.1) ∙ k.others id v at (λ z. ne (q.0 ∙ z)))
            (λ (q : (i ≢ id) × (get_elem? s.views i ≡ some u)). k.others i u q.1 ne)
            (at_set s.views id i both u t.1))
            (at_set (set s.views id both) other i (idle []) u e);
        here = λ u e. ⊎_elim
            (λ (t : (k.by ≡ other) × (idle [] ≡ u)).
            let free : k.stage ≡ 0 = sym (k.here w (subst (λ j. get_elem? s.views j ≡ some w) (sym t.0) there)).0 ∙ rests in
            subst P t.1 (sym free, λ one. absurd (omega (arith, one, free))))
            (λ (t : (k.by ≢ other) × (get_elem? (set s.views id both) k.by ≡ some u)). ⊎_elim
            (λ (q : (k.by ≡ id) × (both ≡ u)). subst P q.1 (k.here v (subst (λ j. get_elem? s.views j ≡ some v) (sym q.0) at)))
            (λ (q : (k.by ≢ id) × (get_elem? s.views k.by ≡ some u)). k.here u q.1)
            (at_set s.views id k.by both u t.1))
            (at_set (set s.views id both) other k.by (idle []) u e);
        home = k.home;
        away = k.away;
        within = λ busy. (let l = k.within busy in let a = length-set s.views id both in let b = length-set (set s.views id both) other (idle {R = R} []) in omega (arith, a, b));
      }

  pub may_join : (id other : ℕ) (v w : Knows R) → w.stage ≡ 0 → Joins (Kept list) id v other w (both_of v w) (idle [])
  may_join id other v w rests s h at apart found =
      let both = both_of v w in
      let n = length s.views in
      let there : get_elem? s.views other ≡ some w =
      ⊎_elim (λ (t : (other ≡ id) × (both ≡ w)). absurd (apart t.0)) (λ (t : (other ≢ id) × (get_elem? s.views other ≡ some w)). t.1) (at_set s.views id other both w found) in
      let owner : ℕ → ℕ = λ t. choose (h.owner t) other id (h.owner t) in
      let stays : (t i : ℕ) → i ≢ other → h.owner t ≡ i → owner t ≡ i = λ t i ne e. choose_else (h.owner t) other id (h.owner t) (λ z. ne (sym e ∙ z)) ∙ e in
      let moves : (t : ℕ) → h.owner t ≡ other → owner t ≡ id = λ t e. choose_same (h.owner t) other id (h.owner t) e in
      let one : length (set s.views id both) ≡ n = length-set s.views id both in
      let both_long : length (set (set s.views id both) other (idle [])) ≡ length (set s.views id both) = length-set (set s.views id both) other (idle []) in
      record {
        log = h.log;
        owner = owner;
        told = told_set h.log owner (set s.views id both) other (idle [])
            (λ i u ne e. subst (λ m. AreTold h.log owner i m u.claims) (sym one) (⊎_elim
            (λ (q : (i ≡ id) × (both ≡ u)). subst (λ (y : Knows R). AreTold h.log owner i n y.claims) q.1 (subst (λ j. AreTold h.log owner j n (v.claims ++ w.claims)) (sym q.0)
            (joined h.log h.owner owner id other n v.claims w.claims (λ z. apart (sym z)) (λ t z. stays t id (λ y. apart (sym y)) z) moves (h.told id v at) (h.told other w there))))
            (λ (q : (i ≢ id) × (get_elem? s.views i ≡ some u)). retold h.log h.owner owner i i n n u.claims (omega arith) (λ t _ z. stays t i ne z) (h.told i u q.1))
            (at_set s.views id i both u e)))
            tt;
        fresh = λ t le. h.fresh t (omega (arith, one, both_long));
        lock = lies_joined s (items_of h.log) id other v w rests apart at there h.lock;
      }

  -- ---- the end

  pub ends : (words : List ℕ) (xs : List S) (id : ℕ) (v : Knows R) (y : S) → v.stage ≡ 2 → Final (Seen (Kept list) id v) words xs → get_elem? xs 0 ≡ some y → Covers (list y) (lists_of v.claims)
  ends words xs id v y two (s, (h, at), is, long, values) first =
      let k = h.lock in
      let it : id ≡ k.by = it_is s (items_of h.log) k id v at (λ z. absurd (omega (arith, z, two))) in
      let here = k.here v (subst (λ j. get_elem? s.views j ≡ some v) it at) in
      let t = k.home (λ one. absurd (omega (arith, one, two, here.0))) in
      let same : y ≡ t.0 = some-injective y t.0 (sym first ∙ values 0 t.0 (ap (λ l. get_elem? l 0) t.1)) in
      subst (λ items. Covers items (lists_of v.claims)) (sym (ap list same ∙ t.2)) (covers h.owner id (length s.views) h.log v.claims (h.told id v at))
