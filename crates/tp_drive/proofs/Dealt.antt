-- The records of a run are an interleaving of those of its lanes.
use Rattle.std.proofs.Common.{◌≡◌, ◌≤◌, ◌<◌, ℕ, zero, suc, ◌+◌, ◌%◌, ◌==◌, Bool, true, false, Option, Some, None, List, [], ◌∷◌, get_or, length, refl, ap, sym, ◌∙◌, arith}
use Rattle.std.specs.List.{AllByRecursion}
use Rattle.std.proofs.lemmas.Bool.Decides.{nat_tests}
use Rattle.tp_records.specs.declared.body.Event.{Event as Given}
use Rattle.tp_logrec.specs.declared.record.LogRec.{LogRec}
use Rattle.tp_logrec.specs.declared.owner.Owner.{Owner}
use Rattle.tp_logrec.specs.Order.{owner_of}
use Rattle.tp_model.specs.NodeRun.{Opening, node_of, run_from}
use Rattle.tp_model.specs.Lanes.{lane, records_in, AreEmpty, IsInterleaving}
use Rattle.tp_runs.proofs.Lanes.{lane_mine}
use Rattle.tp_runs.proofs.LaneRecords.{own_history_law}
use Rattle.tp_drive.specs.Woven.{IsMadeOfLanes}
use Rattle.tp_drive.proofs.Interleavings.{Takes, interleaves_step}

-- the records of so many lanes, from one on
abbrev dealt : ℕ → ℕ → ℕ → List LogRec → List (List LogRec)
dealt zero i w rs = []
dealt (suc k) i w rs = records_in i w rs ∷ dealt k (suc i) w rs

pub rec_none : (i w : ℕ) (r : LogRec) (rs : List LogRec) → owner_of r ≡ None → records_in i w (r ∷ rs) ≡ records_in i w rs
rec_none i w r rs is = rw (is, records_in) refl

pub rec_mine : (i w : ℕ) (r : LogRec) (rs : List LogRec) (o : Owner) → owner_of r ≡ Some o → (o.node % w == i) ≡ true → records_in i w (r ∷ rs) ≡ r ∷ records_in i w rs
rec_mine i w r rs o is mine = rw (is, mine, records_in) refl

pub rec_other : (i w : ℕ) (r : LogRec) (rs : List LogRec) (o : Owner) → owner_of r ≡ Some o → (o.node % w == i) ≡ false → records_in i w (r ∷ rs) ≡ records_in i w rs
rec_other i w r rs o is other = rw (is, other, records_in) refl

-- ---- one record more

apart : (k i w : ℕ) (r : LogRec) (rs : List LogRec) (o : Owner) → owner_of r ≡ Some o → o.node % w < i → dealt k i w (r ∷ rs) ≡ dealt k i w rs
apart zero i w r rs o is before = refl
apart (suc k) i w r rs o is before =
    let other : (o.node % w == i) ≡ false = grind (arith, nat_tests, before) in
    ap (λ (l : List LogRec). l ∷ dealt k (suc i) w (r ∷ rs)) (rec_other i w r rs o is other) ∙ ap (λ (ls : List (List LogRec)). records_in i w rs ∷ ls) (apart k (suc i) w r rs o is (omega (arith, before)))

dealt_takes : (k i w : ℕ) (r : LogRec) (rs : List LogRec) (o : Owner) → owner_of r ≡ Some o → i ≤ o.node % w → o.node % w < i + k → Takes (dealt k i w (r ∷ rs)) r (dealt k i w rs)
dealt_takes zero i w r rs o is from to = absurd (omega (arith, from, to))
dealt_takes (suc k) i w r rs o is from to = go (o.node % w == i) refl (λ past. dealt_takes k (suc i) w r rs o is past (omega (arith, to)))
  where
    go : (b : Bool) → (o.node % w == i) ≡ b → (suc i ≤ o.node % w → Takes (dealt k (suc i) w (r ∷ rs)) r (dealt k (suc i) w rs)) → Takes (dealt (suc k) i w (r ∷ rs)) r (dealt (suc k) i w rs)
    go true h further =
        let here : o.node % w ≡ i = grind (arith, nat_tests, h) in
        record {
          before = [];
          own = records_in i w rs;
          behind = dealt k (suc i) w rs;
          was = ap (λ (l : List LogRec). l ∷ dealt k (suc i) w (r ∷ rs)) (rec_mine i w r rs o is h) ∙ ap (λ (ls : List (List LogRec)). (r ∷ records_in i w rs) ∷ ls) (apart k (suc i) w r rs o is (omega (arith, here)));
          is = refl;
        }
    go false h further =
        let past : suc i ≤ o.node % w = grind (arith, nat_tests, h, from) in
        let rest = further past in
        record {
          before = records_in i w rs ∷ rest.before;
          own = rest.own;
          behind = rest.behind;
          was = ap (λ (l : List LogRec). l ∷ dealt k (suc i) w (r ∷ rs)) (rec_other i w r rs o is h) ∙ ap (λ (ls : List (List LogRec)). records_in i w rs ∷ ls) rest.was;
          is = ap (λ (ls : List (List LogRec)). records_in i w rs ∷ ls) rest.is;
        }

-- ---- all records

abbrev HasOwner : LogRec → Type 0
HasOwner r = (o : Owner) × (owner_of r ≡ Some o)

none_dealt : (k i w : ℕ) → AreEmpty (dealt k i w [])
none_dealt zero i w = tt
none_dealt (suc k) i w = none_dealt k (suc i) w

dealt_woven : (w : ℕ) (rs : List LogRec) → 0 < w → AllByRecursion HasOwner rs → IsInterleaving rs (dealt w 0 w rs)
dealt_woven w [] some all = none_dealt w 0 w
dealt_woven w (r ∷ rs) some ((o, is), all) =
    interleaves_step (dealt w 0 w (r ∷ rs)) (dealt w 0 w rs) r rs (dealt_takes w 0 w r rs o is (omega arith) (omega (arith, some))) (dealt_woven w rs some all)

shorter : (i w : ℕ) (rs : List LogRec) → length (records_in i w rs) ≤ length rs
shorter i w [] = omega arith
shorter i w (r ∷ rs) = go (owner_of r) refl (shorter i w rs)
  where
    go : (o : Option Owner) → owner_of r ≡ o → length (records_in i w rs) ≤ length rs → length (records_in i w (r ∷ rs)) ≤ length (r ∷ rs)
    go None is rest = omega (arith, ap length (rec_none i w r rs is), rest)
    go (Some o) is rest = by (o.node % w == i) refl
      where
        by : (b : Bool) → (o.node % w == i) ≡ b → length (records_in i w (r ∷ rs)) ≤ length (r ∷ rs)
        by true h = omega (arith, ap length (rec_mine i w r rs o is h), rest)
        by false h = omega (arith, ap length (rec_other i w r rs o is h), rest)

tail_same : (r q : LogRec) (rs qs : List LogRec) → r ∷ rs ≡ q ∷ qs → rs ≡ qs
tail_same r q rs qs same = ap (λ (l : List LogRec). elim l as (λ _. List LogRec) [ [] ↦ [] | x ∷ xs ↦ xs ]) same

-- a list of which one lane among one has all has an owner of each
owned : (rs : List LogRec) → records_in 0 1 rs ≡ rs → AllByRecursion HasOwner rs
owned [] all = tt
owned (r ∷ rs) all = go (owner_of r) refl (λ rest. owned rs rest)
  where
    go : (o : Option Owner) → owner_of r ≡ o → (records_in 0 1 rs ≡ rs → AllByRecursion HasOwner rs) → AllByRecursion HasOwner (r ∷ rs)
    go None is further = absurd (omega (arith, ap length (sym (rec_none 0 1 r rs is) ∙ all), shorter 0 1 rs))
    go (Some o) is further =
        let mine : (o.node % 1 == 0) ≡ true = grind (arith, nat_tests) in
        ((o, is), further (tail_same r r (records_in 0 1 rs) rs (sym (rec_mine 0 1 r rs o is mine) ∙ all)))

-- one lane among one has all events
one_lane : (gs : List Given) → lane gs 0 1 ≡ gs
one_lane [] = refl
one_lane (g ∷ gs) = let mine : (node_of g % 1 == 0) ≡ true = grind (arith, nat_tests) in lane_mine g gs 0 1 mine ∙ ap (λ (l : List Given). g ∷ l) (one_lane gs)

run_owned : (o : Opening) (gs : List Given) → AllByRecursion HasOwner (run_from o [] gs).log
run_owned o gs = owned (run_from o [] gs).log ((own_history_law o gs 0 1).records ∙ ap (λ (l : List Given). (run_from o [] l).log) (one_lane gs))

-- ---- the lists

dealt_length : (k i w : ℕ) (rs : List LogRec) → length (dealt k i w rs) ≡ k
dealt_length zero i w rs = refl
dealt_length (suc k) i w rs = ap suc (dealt_length k (suc i) w rs)

dealt_at : (k i w j : ℕ) (rs : List LogRec) (d : List LogRec) → j < k → get_or (dealt k i w rs) j d ≡ records_in (i + j) w rs
dealt_at zero i w j rs d h = absurd (omega arith)
dealt_at (suc k) i w zero rs d h = ap (λ n. records_in n w rs) (omega arith)
dealt_at (suc k) i w (suc j) rs d h = dealt_at k (suc i) w j rs d (omega arith) ∙ ap (λ n. records_in n w rs) (omega arith)

pub made_of_lanes : (o : Opening) (gs : List Given) (w : ℕ) → 0 < w → IsMadeOfLanes o gs w
made_of_lanes o gs w some = record {
  log = record {
    logs = dealt w 0 w (run_from o [] gs).log;
    counted = dealt_length w 0 w (run_from o [] gs).log;
    each = λ i d h. dealt_at w 0 w i (run_from o [] gs).log d h ∙ ap (λ n. records_in n w (run_from o [] gs).log) (omega arith) ∙ (own_history_law o gs i w).records;
    woven = dealt_woven w (run_from o [] gs).log some (run_owned o gs);
  };
  outputs = λ i h. (own_history_law o gs i w).outputs;
}
