-- Claims that have all items are lists that these are woven of.
use Rattle.std.proofs.Common.{◌≡◌, ◌≢◌, ◌⊎◌, ℕ, suc, ◌+◌, ◌≤◌, true, false, List, [], ◌∷◌, ◌++◌, length, refl, sym, ap, ◌∙◌, subst, inl, inr, ⊎_elim, arith, eq-eqb, ne_eqb}
use mathlib.Core.Logic.{dite}
use native.Mathlib.Decide.{ℕ_discrete}
use Rattle.tp_model.specs.Lanes.{AreEmpty, IsInterleaving}
use Rattle.tp_turns.specs.declared.knows.Claim.{Claim}
use Rattle.tp_turns.specs.Turns.{own_of, items_of, lists_of, Lacks, claim, AreTold, counted, Covers}

module _ {R : Type 0} where
  pub own_same : (t u : ℕ) (r : R) (es : List (ℕ × R)) → u ≡ t → own_of t ((u, r) ∷ es) ≡ r ∷ own_of t es
  own_same t u r es e = ap (λ b. elim b [ true ↦ r ∷ own_of t es | false ↦ own_of t es ]) (eq-eqb u t e)

  pub own_else : (t u : ℕ) (r : R) (es : List (ℕ × R)) → u ≢ t → own_of t ((u, r) ∷ es) ≡ own_of t es
  own_else t u r es ne = ap (λ b. elim b [ true ↦ r ∷ own_of t es | false ↦ own_of t es ]) (ne_eqb u t ne)

  pub length-items : (log : List (ℕ × R)) → length (items_of log) ≡ length log
  length-items [] = refl
  length-items (e ∷ es) = ap suc (length-items es)

  module _ (owner : ℕ → ℕ) (by n : ℕ) where
    -- an item under another number changes no claim
    told_else : (t : ℕ) (r : R) (es : List (ℕ × R)) (cs : List (Claim R)) → Lacks t cs → AreTold ((t, r) ∷ es) owner by n cs → AreTold es owner by n cs
    told_else t r es [] lacks h = tt
    told_else t r es (c ∷ cs) lacks h =
        ((h.0.0 ∙ own_else c.tag t r es (λ e. lacks.0 (sym e)), h.0.1, h.0.2, h.0.3), told_else t r es cs lacks.1 h.1)

    -- one list loses its first item
    pub record Takes (old new : List (List R)) (r : R) : Type 0 where
      pub before : List (List R)
      pub own : List R
      pub behind : List (List R)
      pub was : old ≡ before ++ (r ∷ own) ∷ behind
      pub is : new ≡ before ++ own ∷ behind

    record Without (t : ℕ) (r : R) (es : List (ℕ × R)) (cs : List (Claim R)) : Type 0 where
      pub left : List (Claim R)
      pub told : AreTold es owner by n left
      pub fewer : counted (lists_of cs) ≡ suc (counted (lists_of left))
      pub takes : Takes (lists_of cs) (lists_of left) r
      pub lacks : (u : ℕ) → Lacks u cs → Lacks u left

    here : (t : ℕ) (r : R) (es : List (ℕ × R)) (c : Claim R) (cs : List (Claim R)) → AreTold ((t, r) ∷ es) owner by n (c ∷ cs) → c.tag ≡ t → Without t r es (c ∷ cs)
    here t r es c cs h e =
        let is : c.list ≡ r ∷ own_of c.tag es = h.0.0 ∙ own_same c.tag t r es (sym e) in
        let lacks : Lacks t cs = subst (λ u. Lacks u cs) e h.0.3 in
        record {
          left = claim c.tag (own_of c.tag es) ∷ cs;
          told = ((refl, h.0.1, h.0.2, h.0.3), told_else t r es cs lacks h.1);
          fewer = (let n = ap length is in omega (arith, n));
          takes = record { before = []; own = own_of c.tag es; behind = lists_of cs; was = ap (λ l. l ∷ lists_of cs) is; is = refl };
          lacks = λ u l. l;
        }

    there : (t : ℕ) (r : R) (es : List (ℕ × R)) (c : Claim R) (cs : List (Claim R)) → AreTold ((t, r) ∷ es) owner by n (c ∷ cs) → c.tag ≢ t → Without t r es cs → Without t r es (c ∷ cs)
    there t r es c cs h ne w =
        record {
          left = c ∷ w.left;
          told = ((h.0.0 ∙ own_else c.tag t r es (λ e. ne (sym e)), h.0.1, h.0.2, w.lacks c.tag h.0.3), w.told);
          fewer = omega (arith, w.fewer);
          takes = record { before = c.list ∷ w.takes.before; own = w.takes.own; behind = w.takes.behind; was = ap (λ ls. c.list ∷ ls) w.takes.was; is = ap (λ ls. c.list ∷ ls) w.takes.is };
          lacks = λ u l. (l.0, w.lacks u l.1);
        }

    -- the first item stands under one of the claims, or under none
    first : (t : ℕ) (r : R) (es : List (ℕ × R)) (cs : List (Claim R)) → AreTold ((t, r) ∷ es) owner by n cs → AreTold es owner by n cs ⊎ Without t r es cs
    first t r es [] h = inl tt
    first t r es (c ∷ cs) h =
        dite (ℕ_discrete c.tag t)
        (λ e. inr (here t r es c cs h e))
        (λ ne. ⊎_elim
        (λ told. inl ((h.0.0 ∙ own_else c.tag t r es (λ e. ne (sym e)), h.0.1, h.0.2, h.0.3), told))
        (λ w. inr (there t r es c cs h ne w))
        (first t r es cs h.1))

    none : (cs : List (Claim R)) → AreTold [] owner by n cs → (counted (lists_of cs) ≡ 0) × AreEmpty (lists_of cs)
    none [] h = (refl, tt)
    none (c ∷ cs) h =
        subst (λ (l : List R). (length l + counted (lists_of cs) ≡ 0) × AreEmpty (l ∷ lists_of cs)) (sym h.0.0) (omega (arith, (none cs h.1).0), (none cs h.1).1)

    few : (log : List (ℕ × R)) (cs : List (Claim R)) → AreTold log owner by n cs → counted (lists_of cs) ≤ length log
    few [] cs h = omega (arith, (none cs h).0)
    few (e ∷ es) cs h =
        ⊎_elim
        (λ told. omega (arith, few es cs told))
        (λ (w : Without e.0 e.1 es cs). omega (arith, w.fewer, few es w.left w.told))
        (first e.0 e.1 es cs h)

    woven : (log : List (ℕ × R)) (cs : List (Claim R)) → AreTold log owner by n cs → counted (lists_of cs) ≡ length log → IsInterleaving (items_of log) (lists_of cs)
    woven [] cs h all = (none cs h).1
    woven (e ∷ es) cs h all =
        ⊎_elim
        (λ told. absurd (omega (arith, few es cs told, all)))
        (λ (w : Without e.0 e.1 es cs).
        let rest : counted (lists_of w.left) ≡ length es = omega (arith, w.fewer, all) in
        (w.takes.before, w.takes.own, w.takes.behind, w.takes.was, subst (IsInterleaving (items_of es)) w.takes.is (woven es w.left w.told rest)))
        (first e.0 e.1 es cs h)

    -- claims that have all items
    pub covers : (log : List (ℕ × R)) (cs : List (Claim R)) → AreTold log owner by n cs → Covers (items_of log) (lists_of cs)
    covers log cs h all = woven log cs h (all ∙ length-items log)
