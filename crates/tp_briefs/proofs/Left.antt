-- What the records of a node leave is what its lives leave, on every log in order.
use Rattle.std.proofs.Common.{◌≡◌, ◌==◌, inl, ℕ, Bool, true, false, refl, ap, sym, subst, ◌∙◌, Option, Some, None, List, [], ◌∷◌, ◌++◌, append-nil, append_assoc}
use Rattle.tp_names.specs.declared.children.Child.{Child}
use Rattle.tp_names.specs.declared.identifiers.Addr.{Addr}
use Rattle.tp_names.specs.declared.identifiers.NodeKey.{NodeKey}
use Rattle.tp_names.specs.declared.outcome.Outcome.{Outcome}
use Rattle.tp_names.specs.declared.outcome.Report.{Report}
use Rattle.tp_names.proofs.Sames.{both}
use Rattle.tp_logrec.specs.declared.record.LogRec.{LogRec}
use Rattle.tp_logrec.specs.declared.owner.Owner.{Owner}
use Rattle.tp_logrec.specs.Order.{owner, owner_of, is_bound, is_end, follows, follow_from, last_boot_from, Life, with_record, without, lives_after, lives, lives_at}
use Rattle.tp_logrec.proofs.Stands.{boot_after_is, lives_after_is}
use Rattle.tp_logrec.proofs.Briefs.{lives_with, lives_all, after_own}
use Rattle.tp_logrec.proofs.BriefOrders.{boot_own}
use Rattle.tp_logrec.proofs.LifeOrders.{runs}
use Rattle.tp_logrec.proofs.LivesInOrder.{InOrder, IsOrdered, order_step}
use Rattle.tp_model.specs.declared.recovery.Kept.{Kept}
use Rattle.tp_model.specs.Parts.{Current}
use Rattle.tp_model.specs.Recovery.{kept_by, put_kept, without_kept}
use Rattle.tp_model.specs.Events.{current_by, current_from, kept_from, without_current}
use Rattle.tp_model.specs.NodeRun.{is_record_at, records_at}
use Rattle.tp_briefs.proofs.Lives.{kept_of}
use Rattle.tp_briefs.proofs.Rows.{Row, row_of, at_with, beside_with, at_without, none_without, absent_beside}
use Rattle.tp_briefs.proofs.Steps.{keeps, current_over, from_more, keeps_bound, keeps_damage, keeps_end, current_bound, current_damage, current_end}

pub record IsLeft (n : ℕ) (rs : List LogRec) : Type 0 where
  pub kept : kept_from [] (records_at n rs) ≡ keeps (lives_at n (lives rs))
  pub current : current_from None (records_at n rs) ≡ current_over None (lives_at n (lives rs))

-- ---- one record more

kept_more : (ks : List Kept) (rs : List LogRec) (r : LogRec) → kept_from ks (rs ++ r ∷ []) ≡ kept_by r (kept_from ks rs)
kept_more ks [] r = refl
kept_more ks (q ∷ rs) r = kept_more (kept_by q ks) rs r

at_more : (n : ℕ) (rs : List LogRec) (r : LogRec) → records_at n (rs ++ r ∷ []) ≡ records_at n rs ++ records_at n (r ∷ [])
at_more n [] r = refl
at_more n (q ∷ rs) r = go (is_record_at n q) (at_more n rs r)
  where
    go : (b : Bool) → records_at n (rs ++ r ∷ []) ≡ records_at n rs ++ records_at n (r ∷ [])
        → elim b as (λ _. List LogRec) [ true ↦ q ∷ records_at n (rs ++ r ∷ []) | false ↦ records_at n (rs ++ r ∷ []) ] ≡ elim b as (λ _. List LogRec) [ true ↦ q ∷ records_at n rs | false ↦ records_at n rs ] ++ records_at n (r ∷ [])
    go true rest = ap (λ (l : List LogRec). q ∷ l) rest
    go false rest = rest

-- a record of no key of the node leaves what is there
beside : (n : ℕ) (front : List LogRec) (r : LogRec) → is_record_at n r ≡ false → lives_at n (lives_after (lives front) r) ≡ lives_at n (lives front) → IsLeft n front → IsLeft n (front ++ r ∷ [])
beside n front r off same left =
    let rs : records_at n (front ++ r ∷ []) ≡ records_at n front =
    at_more n front r ∙ ap (λ (b : Bool). records_at n front ++ elim b as (λ _. List LogRec) [ true ↦ r ∷ [] | false ↦ [] ]) off ∙ append-nil (records_at n front) in
    let ls : lives_at n (lives (front ++ r ∷ [])) ≡ lives_at n (lives front) = ap (lives_at n) (lives_after_is [] front r) ∙ same in
    record { kept = ap (kept_from []) rs ∙ left.kept ∙ sym (ap keeps ls); current = ap (current_from None) rs ∙ left.current ∙ sym (ap (current_over None) ls) }

-- and one of a key of the node does to it what it does to its lives
own : (n : ℕ) (front : List LogRec) (r : LogRec) (now : List Life) → is_record_at n r ≡ true → lives_at n (lives_after (lives front) r) ≡ now → kept_by r (keeps (lives_at n (lives front))) ≡ keeps now
    → current_by r (current_over None (lives_at n (lives front))) ≡ current_over None now → IsLeft n front → IsLeft n (front ++ r ∷ [])
own n front r now at is kept current left =
    let rs : records_at n (front ++ r ∷ []) ≡ records_at n front ++ r ∷ [] = at_more n front r ∙ ap (λ (b : Bool). records_at n front ++ elim b as (λ _. List LogRec) [ true ↦ r ∷ [] | false ↦ [] ]) at in
    let ls : lives_at n (lives (front ++ r ∷ [])) ≡ now = ap (lives_at n) (lives_after_is [] front r) ∙ is in
    record {
      kept = ap (kept_from []) rs ∙ kept_more [] (records_at n front) r ∙ ap (kept_by r) left.kept ∙ kept ∙ sym (ap keeps ls);
      current = ap (current_from None) rs ∙ from_more None (records_at n front) r ∙ ap (current_by r) left.current ∙ current ∙ sym (ap (current_over None) ls);
    }

module _ (n : ℕ) (front : List LogRec) (r : LogRec) (o : Owner) (mine : owner_of r ≡ Some o) (was : IsOrdered front) (left : IsLeft n front) where
  boot : ℕ
  boot = last_boot_from 0 front

  abbrev here : List Life
  here = lives_at n (lives front)

  owned : (b : Bool) → (o.node == n) ≡ b → is_record_at n r ≡ b
  owned b i = ap (λ (x : Option Owner). elim x as (λ _. Bool) [ None ↦ false | Some p ↦ p.node == n ]) mine ∙ i

  old_row : Row n (last_boot_from 0 front) here
  old_row = row_of n (last_boot_from 0 front) (lives front) (lives_all [] front tt) was.order

  new_row : is_end r ≡ false → (o.node == n) ≡ true → IsOrdered (front ++ r ∷ []) → Row n (last_boot_from 0 front) (with_record here o r)
  new_row alive at now =
      let same : last_boot_from 0 (front ++ r ∷ []) ≡ last_boot_from 0 front = boot_after_is 0 front r ∙ boot_own o (last_boot_from 0 front) r mine in
      let order : InOrder (last_boot_from 0 front) (with_record (lives front) o r) =
      subst (λ (ls : List Life). InOrder (last_boot_from 0 front) ls) (lives_after_is [] front r ∙ after_own (lives front) o r mine alive) (subst (λ (b : ℕ). InOrder b (lives (front ++ r ∷ []))) same now.order) in
      subst (Row n (last_boot_from 0 front)) (at_with n (lives front) o r at) (row_of n (last_boot_from 0 front) (with_record (lives front) o r) (lives_with (lives front) o r mine alive (lives_all [] front tt)) order)

  there : is_end r ≡ false → (o.node == n) ≡ true → lives_at n (lives_after (lives front) r) ≡ with_record here o r
  there alive at = ap (lives_at n) (after_own (lives front) o r mine alive) ∙ at_with n (lives front) o r at

  away : is_end r ≡ false → (o.node == n) ≡ false → IsLeft n (front ++ r ∷ [])
  away alive off = beside n front r (owned false off) (ap (lives_at n) (after_own (lives front) o r mine alive) ∙ beside_with n (lives front) o r off) left

  binds : is_end r ≡ false → is_bound r ≡ true → ((ks : List Kept) → kept_by r ks ≡ ks) → IsOrdered (front ++ r ∷ []) → IsLeft n (front ++ r ∷ [])
  binds alive bound keeps_all now = go (o.node == n) refl
    where
      go : (b : Bool) → (o.node == n) ≡ b → IsLeft n (front ++ r ∷ [])
      go false off = away alive off
      go true at =
          own n front r (with_record here o r) (owned true at) (there alive at)
          (keeps_all (keeps here) ∙ sym (keeps_bound n (last_boot_from 0 front) here o r bound (new_row alive at now)))
          (sym (current_bound n (last_boot_from 0 front) None here o r (inl refl) bound (new_row alive at now))) left

  keeps_it : (k : Kept) → is_end r ≡ false → kept_of r ≡ Some k → k.key ≡ o.key → k.forgot ≡ false → ((ks : List Kept) → kept_by r ks ≡ put_kept ks k) → ((x : Option Current) → current_by r x ≡ without_current o.key x)
      → ((b : ℕ) → runs b None None (r ∷ []) ≡ false) → IsOrdered (front ++ r ∷ []) → IsLeft n (front ++ r ∷ [])
  keeps_it k alive is key forgot puts drops first now = go (o.node == n) refl
    where
      go : (b : Bool) → (o.node == n) ≡ b → IsLeft n (front ++ r ∷ [])
      go false off = away alive off
      go true at =
          own n front r (with_record here o r) (owned true at) (there alive at)
          (puts (keeps here) ∙ sym (keeps_damage n (last_boot_from 0 front) here o r k is key forgot at (first (last_boot_from 0 front)) (new_row alive at now) old_row))
          (drops (current_over None here) ∙ sym (current_damage n (last_boot_from 0 front) None here o r drops at (first (last_boot_from 0 front)) (new_row alive at now) old_row)) left

  ends : lives_after (lives front) r ≡ without (lives front) o → ((ks : List Kept) → kept_by r ks ≡ without_kept ks o.key) → ((x : Option Current) → current_by r x ≡ without_current o.key x) → IsLeft n (front ++ r ∷ [])
  ends gone takes drops = go (o.node == n) refl
    where
      go : (b : Bool) → (o.node == n) ≡ b → IsLeft n (front ++ r ∷ [])
      go false off = beside n front r (owned false off) (ap (lives_at n) gone ∙ at_without n (lives front) o ∙ none_without here o (absent_beside n (lives front) o off)) left
      go true at =
          own n front r (without here o) (owned true at) (ap (lives_at n) gone ∙ at_without n (lives front) o)
          (takes (keeps here) ∙ sym (keeps_end n (last_boot_from 0 front) here o at old_row))
          (drops (current_over None here) ∙ sym (current_end n (last_boot_from 0 front) None here o at old_row refl (λ more. refl))) left

-- no life begins with a Damage
never_first : (b m : ℕ) (k : NodeKey) (s : Option Addr) (u : Outcome) (p : Report) (cs : List Child) → runs b None None (LogRec.Damage m k s u p cs ∷ []) ≡ false
never_first b m k s Outcome.Commit p cs = refl
never_first b m k s Outcome.Rollback p cs = refl

left_step : (n : ℕ) (front : List LogRec) (r : LogRec) → IsOrdered front → IsOrdered (front ++ r ∷ []) → IsLeft n front → IsLeft n (front ++ r ∷ [])
unfolding kept_by
left_step n front (LogRec.Boot m) was now left = beside n front (LogRec.Boot m) refl refl left
left_step n front (LogRec.Ready m k s cs) was now left = binds n front (LogRec.Ready m k s cs) (owner m k) refl was left refl refl (λ ks. refl) now
left_step n front (LogRec.Heuristic m k u) was now left = binds n front (LogRec.Heuristic m k u) (owner m k) refl was left refl refl (λ ks. refl) now
left_step n front (LogRec.Commit m k s cs) was now left = binds n front (LogRec.Commit m k s cs) (owner m k) refl was left refl refl (λ ks. refl) now
left_step n front (LogRec.Damage m k s u p cs) was now left =
    let d : Kept = record { node = m; key = k; superior = s; side = u; report = p; owed = cs; forgot = false } in
    keeps_it n front (LogRec.Damage m k s u p cs) (owner m k) refl was left d refl refl refl refl (λ ks. refl) (λ x. refl) (λ b. never_first b m k s u p cs) now
left_step n front (LogRec.End m k u) was now left = ends n front (LogRec.End m k u) (owner m k) refl was left refl (λ ks. refl) (λ x. refl)

-- ---- all of them

pub left_all : (n : ℕ) (front rs : List LogRec) → follow_from front rs ≡ true → IsOrdered front → IsLeft n front → IsLeft n (front ++ rs)
left_all n front [] e was left = subst (IsLeft n) (sym (append-nil front)) left
left_all n front (r ∷ rs) e was left =
    let p = both (follows front r) (follow_from (front ++ r ∷ []) rs) e in
    let now : IsOrdered (front ++ r ∷ []) = order_step front r p.0 was in
    subst (IsLeft n) (append_assoc front (r ∷ []) rs) (left_all n (front ++ r ∷ []) rs p.1 now (left_step n front r was now left))
