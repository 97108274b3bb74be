-- Records that are an interleaving of what lanes force, beside those that one thread forces: of each node they are the same, and the
-- log has one size.
use Rattle.std.proofs.Common.{◌≡◌, ◌≢◌, ◌≤◌, ◌<◌, ℕ, zero, suc, ◌+◌, ◌%◌, ◌==◌, nat_lt, Bool, true, false, Option, Some, None, List, [], ◌∷◌, ◌++◌, take, drop, get_or, length, length-append, refl, ap, sym, subst, ◌∙◌, arith}
use Rattle.std.specs.List.{sum_by}
use Rattle.std.proofs.lemmas.Bool.Decides.{nat_tests}
use Rattle.std.proofs.lemmas.List.{take-append-drop}
use Rattle.std.proofs.lemmas.List.Sums.{sum_by-append, sum_by-cons}
use Rattle.std.proofs.lemmas.Nat.{mod_below}
use Rattle.tp_names.specs.Bytes.{short_bytes}
use Rattle.tp_records.specs.declared.body.Event.{Event as Given}
use Rattle.tp_logrec.specs.declared.owner.Owner.{Owner}
use Rattle.tp_logrec.specs.declared.record.LogRec.{LogRec}
use Rattle.tp_logrec.specs.declared.record.LogVersion.{LogVersion}
use Rattle.tp_logrec.specs.LogText.{framed, records_text}
use Rattle.tp_logrec.specs.Order.{owner_of}
use Rattle.tp_logrec.specs.RecordText.{record_bytes}
use Rattle.tp_model.specs.NodeRun.{Opening, NodeRun, Past, is_record_at, records_at, run_from}
use Rattle.tp_model.specs.Lanes.{lane, lane_log, records_in}
use Rattle.tp_runs.proofs.LaneRecords.{own_history_law}
use Rattle.tp_site.proofs.Runs.{run_more}
use Rattle.tp_drive.specs.declared.stop.Stop.{Stop}
use Rattle.tp_drive.specs.Drives.{IsPartDriven}
use Rattle.tp_drive.specs.Woven.{IsWoven}
use Rattle.tp_drive.proofs.Dealt.{made_of_lanes, rec_mine, rec_none, rec_other}
use Rattle.tp_drive.proofs.Interleavings.{HasAlone, kept_by, woven_alone, woven_sum}
use Rattle.tp_drive.proofs.Lanes.{lane-append}

-- ---- the records of one node

at_yes : (n : ℕ) (r : LogRec) (rs : List LogRec) → is_record_at n r ≡ true → records_at n (r ∷ rs) ≡ r ∷ records_at n rs
at_yes n r rs h = rw (h, records_at) refl

at_no : (n : ℕ) (r : LogRec) (rs : List LogRec) → is_record_at n r ≡ false → records_at n (r ∷ rs) ≡ records_at n rs
at_no n r rs h = rw (h, records_at) refl

unowned : (n : ℕ) (r : LogRec) → owner_of r ≡ None → is_record_at n r ≡ false
unowned n r is = rw (is, is_record_at) refl

owned_by : (n : ℕ) (r : LogRec) (q : Owner) → owner_of r ≡ Some q → is_record_at n r ≡ (q.node == n)
owned_by n r q is = rw (is, is_record_at) refl

kept_records : (n : ℕ) (rs : List LogRec) → kept_by (is_record_at n) rs ≡ records_at n rs
kept_records n [] = refl
kept_records n (r ∷ rs) = go (is_record_at n r) refl (kept_records n rs)
  where
    go : (b : Bool) → is_record_at n r ≡ b → kept_by (is_record_at n) rs ≡ records_at n rs → kept_by (is_record_at n) (r ∷ rs) ≡ records_at n (r ∷ rs)
    go true h rest = rw (h, kept_by, records_at) (ap (λ (l : List LogRec). r ∷ l) rest)
    go false h rest = rw (h, kept_by, records_at) rest

pub at_append : (n : ℕ) (rs qs : List LogRec) → records_at n (rs ++ qs) ≡ records_at n rs ++ records_at n qs
at_append n [] qs = refl
at_append n (r ∷ rs) qs = grind (arith, at_append n rs qs)

-- its lane has all of them
at_own : (n w : ℕ) (rs : List LogRec) → records_at n (records_in (n % w) w rs) ≡ records_at n rs
at_own n w [] = refl
at_own n w (r ∷ rs) = go (owner_of r) refl (at_own n w rs)
  where
    go : (q : Option Owner) → owner_of r ≡ q → records_at n (records_in (n % w) w rs) ≡ records_at n rs → records_at n (records_in (n % w) w (r ∷ rs)) ≡ records_at n (r ∷ rs)
    go None is rest = ap (records_at n) (rec_none (n % w) w r rs is) ∙ rest ∙ sym (at_no n r rs (unowned n r is))
    go (Some q) is rest = by (q.node == n) (q.node % w == n % w) refl refl
      where
        by : (b c : Bool) → (q.node == n) ≡ b → (q.node % w == n % w) ≡ c → records_at n (records_in (n % w) w (r ∷ rs)) ≡ records_at n (r ∷ rs)
        by true true h k =
            let own = owned_by n r q is ∙ h in
            ap (records_at n) (rec_mine (n % w) w r rs q is k) ∙ at_yes n r (records_in (n % w) w rs) own ∙ ap (λ (l : List LogRec). r ∷ l) rest ∙ sym (at_yes n r rs own)
        by true false h k =
            let e : q.node ≡ n = grind (arith, nat_tests, h) in
            let same : q.node % w ≡ n % w = ap (λ (m : ℕ). m % w) e in
            absurd (let clash : (q.node % w == n % w) ≡ true = grind (arith, nat_tests, same) in cc (clash, k))
        by false true h k =
            let other = owned_by n r q is ∙ h in
            ap (records_at n) (rec_mine (n % w) w r rs q is k) ∙ at_no n r (records_in (n % w) w rs) other ∙ rest ∙ sym (at_no n r rs other)
        by false false h k =
            let other = owned_by n r q is ∙ h in
            ap (records_at n) (rec_other (n % w) w r rs q is k) ∙ rest ∙ sym (at_no n r rs other)

-- every other lane has none
at_other : (n i w : ℕ) (rs : List LogRec) → i ≢ n % w → records_at n (records_in i w rs) ≡ []
at_other n i w [] apart = refl
at_other n i w (r ∷ rs) apart = go (owner_of r) refl (at_other n i w rs apart)
  where
    go : (q : Option Owner) → owner_of r ≡ q → records_at n (records_in i w rs) ≡ [] → records_at n (records_in i w (r ∷ rs)) ≡ []
    go None is rest = ap (records_at n) (rec_none i w r rs is) ∙ rest
    go (Some q) is rest = by (q.node == n) (q.node % w == i) refl refl
      where
        by : (b c : Bool) → (q.node == n) ≡ b → (q.node % w == i) ≡ c → records_at n (records_in i w (r ∷ rs)) ≡ []
        by b false h k = ap (records_at n) (rec_other i w r rs q is k) ∙ rest
        by true true h k =
            let e : q.node ≡ n = grind (arith, nat_tests, h) in
            let at : q.node % w ≡ i = grind (arith, nat_tests, k) in
            absurd (apart (sym at ∙ ap (λ (m : ℕ). m % w) e))
        by false true h k = ap (records_at n) (rec_mine i w r rs q is k) ∙ at_no n r (records_in i w rs) (owned_by n r q is ∙ h) ∙ rest

-- ---- lists of lists

past_end : {A : Type 0} (xs : List A) (i : ℕ) (d : A) → length xs ≤ i → get_or xs i d ≡ d
past_end [] i d h = refl
past_end (x ∷ xs) zero d h = absurd (omega (arith, h))
past_end (x ∷ xs) (suc i) d h = past_end xs i d (omega (arith, h))

-- ---- sizes

-- what a record takes of a log
abbrev weight : LogVersion → LogRec → ℕ
weight ver r = 3 + length (record_bytes ver r)

pub text_weighs : (ver : LogVersion) (rs : List LogRec) → length (records_text ver rs) ≡ sum_by (weight ver) rs
text_weighs ver [] = refl
text_weighs ver (r ∷ rs) =
    omega (
      arith,
      text_weighs ver rs,
      sum_by-cons (weight ver) r rs,
      length-append (1 ∷ framed (record_bytes ver r)) (records_text ver rs),
      length-append (short_bytes (length (record_bytes ver r))) (record_bytes ver r),
    )

sums_le : (f : LogRec → ℕ) (xs ys : List (List LogRec)) → length xs ≡ length ys → ((i : ℕ) (d : List LogRec) → i < length xs → sum_by f (get_or xs i d) ≤ sum_by f (get_or ys i d))
    → sum_by (λ (l : List LogRec). sum_by f l) xs ≤ sum_by (λ (l : List LogRec). sum_by f l) ys
sums_le f [] [] same le = omega arith
sums_le f [] (y ∷ ys) same le = absurd (omega (arith, same))
sums_le f (x ∷ xs) [] same le = absurd (omega (arith, same))
sums_le f (x ∷ xs) (y ∷ ys) same le =
    let g : List LogRec → ℕ = λ l. sum_by f l in
    omega (arith, sum_by-cons g x xs, sum_by-cons g y ys, le 0 x (omega arith), sums_le f xs ys (omega (arith, same)) (λ i d h. le (suc i) d (omega (arith, h))))

-- a lane forces no less of more events
lane_more : (o : Opening) (es : List Given) (i w k : ℕ) (f : LogRec → ℕ) → sum_by f (lane_log o (take k es) i w) ≤ sum_by f (lane_log o es i w)
lane_more o es i w k f =
    let first = lane (take k es) i w in
    let after = lane (drop k es) i w in
    let whole : lane_log o es i w ≡ lane_log o (take k es) i w ++ (run_from o (run_from o [] first).pasts after).log =
    ap (λ (l : List Given). (run_from o [] (lane l i w)).log) (sym (take-append-drop k es)) ∙ ap (λ (l : List Given). (run_from o [] l).log) (lane-append i w (take k es) (drop k es)) ∙ ap (λ (r : NodeRun). r.log) (run_more o first after []) in
    omega (arith, ap (sum_by f) whole, sum_by-append f (lane_log o (take k es) i w) (run_from o (run_from o [] first).pasts after).log)

module _ (o : Opening) (events : List Given) (lanes : ℕ) (some : 0 < lanes) where
  -- what one thread forces
  abbrev forced : List LogRec
  forced = (run_from o [] events).log

  -- prefixes of the lanes' records take no more of a log than the records of one thread
  pub part_weighs : (ver : LogVersion) (stops : List (Option Stop)) (list : List LogRec) (part : IsPartDriven o lanes events stops list) → length (records_text ver part.more) ≤ length (records_text ver forced)
  part_weighs ver stops list part =
      let made = (made_of_lanes o events lanes some).log in
      let f = weight ver in
      let le = sums_le f part.logs made.logs (part.counted.0 ∙ sym made.counted) (λ i d h. each i d (omega (arith, h, part.counted.0))) in
      omega (arith, text_weighs ver part.more, text_weighs ver forced, woven_sum f part.more part.logs part.woven, woven_sum f forced made.logs made.woven, le)
    where
      each : (i : ℕ) (d : List LogRec) → i < lanes → sum_by (weight ver) (get_or part.logs i d) ≤ sum_by (weight ver) (get_or (made_of_lanes o events lanes some).log.logs i d)
      each i d h =
          let own = part.each i d None h in
          let made = (made_of_lanes o events lanes some).log in
          let f = weight ver in
          omega (arith, ap (sum_by f) own.records, ap (sum_by f) (made.each i d h), lane_more o events i lanes own.met f)

  module _ (more : List LogRec) (woven : IsWoven o lanes events more) where
    -- they take as much of a log
    pub alike_size : (ver : LogVersion) → length (records_text ver more) ≡ length (records_text ver forced)
    alike_size ver =
        let made = (made_of_lanes o events lanes some).log in
        let f = weight ver in
        let counted : length woven.logs ≡ length made.logs = woven.counted ∙ sym made.counted in
        let there = sums_le f woven.logs made.logs counted (λ i d h. same i d (omega (arith, h, woven.counted))) in
        let back = sums_le f made.logs woven.logs (sym counted) (λ i d h. same_back i d (omega (arith, h, made.counted))) in
        omega (arith, text_weighs ver more, text_weighs ver forced, woven_sum f more woven.logs woven.woven, woven_sum f forced made.logs made.woven, there, back)
      where
        is : (i : ℕ) (d : List LogRec) → i < lanes → get_or woven.logs i d ≡ get_or (made_of_lanes o events lanes some).log.logs i d
        is i d h = woven.each i d h ∙ sym ((made_of_lanes o events lanes some).log.each i d h)

        same : (i : ℕ) (d : List LogRec) → i < lanes → sum_by (weight ver) (get_or woven.logs i d) ≤ sum_by (weight ver) (get_or (made_of_lanes o events lanes some).log.logs i d)
        same i d h = omega (arith, ap (sum_by (weight ver)) (is i d h))

        same_back : (i : ℕ) (d : List LogRec) → i < lanes → sum_by (weight ver) (get_or (made_of_lanes o events lanes some).log.logs i d) ≤ sum_by (weight ver) (get_or woven.logs i d)
        same_back i d h = omega (arith, ap (sum_by (weight ver)) (is i d h))

    -- and are the same of each node
    pub alike_at : (n : ℕ) → records_at n more ≡ records_at n forced
    alike_at n =
        sym (kept_records n more)
        ∙ woven_alone (is_record_at n) more woven.logs (n % lanes) woven.woven alone
        ∙ kept_records n (get_or woven.logs (n % lanes) [])
        ∙ ap (records_at n) (woven.each (n % lanes) [] (mod_below n lanes some) ∙ sym (own_history_law o events (n % lanes) lanes).records)
        ∙ at_own n lanes forced
      where
        alone : HasAlone (is_record_at n) woven.logs (n % lanes)
        alone i apart = go (nat_lt i lanes) refl
          where
            go : (b : Bool) → nat_lt i lanes ≡ b → kept_by (is_record_at n) (get_or woven.logs i []) ≡ []
            go true h =
                let here : i < lanes = grind (arith, nat_tests, h) in
                kept_records n (get_or woven.logs i []) ∙ ap (records_at n) (woven.each i [] here ∙ sym (own_history_law o events i lanes).records) ∙ at_other n i lanes forced apart
            go false h =
                let beyond : length woven.logs ≤ i = grind (arith, nat_tests, h, woven.counted) in
                ap (kept_by (is_record_at n)) (past_end woven.logs i [] beyond)
