-- A start on the brief of a log knows what a start on the log knows.
use Rattle.std.proofs.Common.{◌≡◌, ℕ, suc, true, false, refl, ap, sym, ◌∙◌, Option, Some, None, List, [], ◌∷◌}
use Rattle.tp_logrec.specs.declared.record.LogRec.{LogRec}
use Rattle.tp_logrec.specs.declared.record.LogVersion.{LogVersion}
use Rattle.tp_logrec.specs.Order.{all_follow, brief, boots, last_boot_from, last_number, greatest, is_begun, last, brief_life, Life, lives, lives_at}
use Rattle.tp_logrec.proofs.Briefs.{shortened, lives_of_brief, at_again, lives_all, greatest_of_brief}
use Rattle.tp_logrec.proofs.BriefOrders.{brief_in_order}
use Rattle.tp_logrec.proofs.LifeOrders.{IsBriefed, life_briefed}
use Rattle.tp_logrec.proofs.LivesInOrder.{IsOrdered, order_all}
use Rattle.tp_model.specs.declared.recovery.Kept.{Kept}
use Rattle.tp_model.specs.Parts.{Current, Digest}
use Rattle.tp_model.specs.Events.{current_from, kept_from, is_known, started}
use Rattle.tp_model.specs.NodeRun.{boot_of, records_at}
use Rattle.tp_briefs.specs.Starts.{on, BriefsStartAlike}
use Rattle.tp_briefs.proofs.Lives.{kept_in, brief_is_current}
use Rattle.tp_briefs.proofs.Rows.{Row, row_of}
use Rattle.tp_briefs.proofs.Steps.{keep_first, keeps, current_over}
use Rattle.tp_briefs.proofs.Left.{IsLeft, left_all}

-- ---- lives that are brief

keeps_short : (n boot : ℕ) (ls : List Life) → Row n boot ls → keeps (shortened ls) ≡ keeps ls
keeps_short n boot [] row = refl
keeps_short n boot (l ∷ ls) row =
    let b : IsBriefed boot l.records = life_briefed boot l.owner l.records row.0.own row.0.runs in
    ap (λ (ks : List Kept). keep_first (kept_in (last (brief_life l.records))) ks) (keeps_short n boot ls row.1) ∙ ap (λ (q : Option LogRec). keep_first (kept_in q) (keeps ls)) b.last

current_short : (n boot : ℕ) (c : Option Current) (ls : List Life) → Row n boot ls → current_over c (shortened ls) ≡ current_over c ls
current_short n boot c [] row = refl
current_short n boot c (l ∷ ls) row =
    current_short n boot (current_from None (brief_life l.records)) ls row.1 ∙ ap (λ (x : Option Current). current_over x ls) (brief_is_current boot l.owner l.records row.0.own row.0.runs)

-- ---- what is left

nothing_ordered : IsOrdered []
nothing_ordered = record { booted = λ h. absurd (cc (h)); order = tt }

ordered : (rs : List LogRec) → all_follow rs ≡ true → IsOrdered rs
ordered rs e = order_all [] rs e nothing_ordered

left_of : (n : ℕ) (rs : List LogRec) → all_follow rs ≡ true → IsLeft n rs
left_of n rs e = left_all n [] rs e nothing_ordered (record { kept = refl; current = refl })

lives_short : (n : ℕ) (rs : List LogRec) → lives_at n (lives (brief rs)) ≡ shortened (lives_at n (lives rs))
lives_short n rs = ap (lives_at n) (lives_of_brief rs) ∙ at_again n (lives rs)

row : (n : ℕ) (rs : List LogRec) → all_follow rs ≡ true → Row n (last_boot_from 0 rs) (lives_at n (lives rs))
row n rs e = row_of n (last_boot_from 0 rs) (lives rs) (lives_all [] rs tt) (ordered rs e).order

same_kept : (n : ℕ) (rs : List LogRec) → all_follow rs ≡ true → kept_from [] (records_at n (brief rs)) ≡ kept_from [] (records_at n rs)
same_kept n rs e = (left_of n (brief rs) (brief_in_order rs e)).kept ∙ ap keeps (lives_short n rs) ∙ keeps_short n (last_boot_from 0 rs) (lives_at n (lives rs)) (row n rs e) ∙ sym (left_of n rs e).kept

same_current : (n : ℕ) (rs : List LogRec) → all_follow rs ≡ true → current_from None (records_at n (brief rs)) ≡ current_from None (records_at n rs)
same_current n rs e =
    (left_of n (brief rs) (brief_in_order rs e)).current ∙ ap (current_over None) (lives_short n rs) ∙ current_short n (last_boot_from 0 rs) None (lives_at n (lives rs)) (row n rs e) ∙ sym (left_of n rs e).current

-- ---- the boot

last_or_number : ℕ → List ℕ → ℕ
last_or_number n [] = n
last_or_number n (m ∷ ms) = last_or_number m ms

last_is : (n : ℕ) (ns : List ℕ) → last_number (n ∷ ns) ≡ last_or_number n ns
unfolding last_or_number
last_is n [] = refl
last_is n (m ∷ ms) = last_is m ms

boot_is : (n : ℕ) (rs : List LogRec) → last_boot_from n rs ≡ last_or_number n (boots rs)
unfolding last_or_number
boot_is n [] = refl
boot_is n (LogRec.Boot m ∷ rs) = boot_is m rs
boot_is n (LogRec.Ready m k s cs ∷ rs) = boot_is n rs
boot_is n (LogRec.Heuristic m k u ∷ rs) = boot_is n rs
boot_is n (LogRec.Commit m k s cs ∷ rs) = boot_is n rs
boot_is n (LogRec.Damage m k s u p cs ∷ rs) = boot_is n rs
boot_is n (LogRec.End m k u ∷ rs) = boot_is n rs

number_is : (ns : List ℕ) → last_number ns ≡ last_or_number 0 ns
unfolding last_or_number
number_is [] = refl
number_is (n ∷ ns) = last_is n ns

pub last_boot : (rs : List LogRec) → last_number (boots rs) ≡ last_boot_from 0 rs
last_boot rs = number_is (boots rs) ∙ sym (boot_is 0 rs)

same_boot : (rs : List LogRec) → all_follow rs ≡ true → last_boot_from 0 (brief rs) ≡ last_boot_from 0 rs
same_boot rs e = go rs refl (brief rs) refl
  where
    old : IsOrdered rs
    old = ordered rs e

    new : IsOrdered (brief rs)
    new = ordered (brief rs) (brief_in_order rs e)

    go : (qs : List LogRec) → rs ≡ qs → (ps : List LogRec) → brief rs ≡ ps → last_boot_from 0 (brief rs) ≡ last_boot_from 0 rs
    go [] i ps j = ap (λ (l : List LogRec). last_boot_from 0 (brief l)) i ∙ sym (ap (last_boot_from 0) i)
    go (q ∷ qs) i [] j =
        let some : greatest (boots rs) ≡ Some (last_boot_from 0 rs) = old.booted (ap is_begun i) in
        let none : greatest (boots rs) ≡ None = sym (greatest_of_brief rs) ∙ ap (λ (l : List LogRec). greatest (boots l)) j in
        absurd (let clash : None ≡ Some (last_boot_from 0 rs) = sym none ∙ some in cc (clash))
    go (q ∷ qs) i (p ∷ ps) j =
        let same : Some (last_boot_from 0 (brief rs)) ≡ Some (last_boot_from 0 rs) = sym (new.booted (ap is_begun j)) ∙ greatest_of_brief rs ∙ old.booted (ap is_begun i) in
        cc (same)

-- ---- the start

pub started_as : (b d : ℕ) (v : LogVersion) (c u : Option Current) (ks xs : List Kept) → b ≡ d → c ≡ u → ks ≡ xs
    → ◌≡◌ {A = Digest} (record { declared = false; known = is_known c ks; superior = None; arcs = []; current = c; kept = ks; drawn = 0; boot = b; version = v })
    (record { declared = false; known = is_known u xs; superior = None; arcs = []; current = u; kept = xs; drawn = 0; boot = d; version = v })
started_as b d v c u ks xs h i j = rw (h, i, j) refl

pub alike : BriefsStartAlike
unfolding started
alike s v rs e =
    let boot : boot_of (on s v (brief rs)) ≡ boot_of (on s v rs) = ap suc (last_boot (brief rs) ∙ same_boot rs e ∙ sym (last_boot rs)) in
    record {
      boot = boot;
      knows = λ n. started_as (boot_of (on s v (brief rs))) (boot_of (on s v rs)) v (current_from None (records_at n (brief rs))) (current_from None (records_at n rs)) (kept_from [] (records_at n (brief rs))) (kept_from [] (records_at n rs))
          boot (same_current n rs e) (same_kept n rs e);
    }
