-- Events are taken from the lanes one after the other, as their records come.
use Rattle.std.proofs.Common.{◌≡◌, ◌==◌, ◌%◌, ◌<◌, ◌≤◌, ◌⊎◌, inl, inr, ℕ, zero, suc, Bool, true, false, refl, ap, sym, ◌∙◌, subst, arith, List, [], ◌∷◌, ◌++◌, get_or, length}
use Rattle.std.proofs.lemmas.Bool.Decides.{nat_tests}
use Rattle.tp_records.specs.declared.body.Event.{Event as Given}
use Rattle.tp_logrec.specs.declared.record.LogRec.{LogRec}
use Rattle.tp_model.specs.NodeRun.{Opening, Past, node_of, run_from}
use Rattle.tp_model.specs.Lanes.{lane, AreEmpty, IsInterleaving}
use Rattle.tp_runs.proofs.Lanes.{Agree, lane_mine, lane_other}
use Rattle.tp_batches.proofs.Steps.{forced, past, run_log, one_or_none, same_forced, agree_own, agree_apart, AreOf, put, put_here, put_there, at_empty, at_place, off_place, as_long, stands_within}

-- After some events, of each lane those that are still to come, its past alone, and what they force.
pub record Stands (o : Opening) (w : ℕ) (ps : List Past) (es : ℕ → List Given) (qs : ℕ → List Past) (ls : List (List LogRec)) : Type 0 where
  pub counted : length ls ≡ w
  pub agree : (i : ℕ) → i < w → Agree i w ps (qs i)
  pub own : (i : ℕ) → i < w → AreOf i w (es i)
  pub logs : (i : ℕ) → i < w → get_or ls i [] ≡ (run_from o (qs i) (es i)).log

-- a list of what is to come that forces these; where it is whole nothing is left
pub record Built (o : Opening) (w : ℕ) (ps : List Past) (es : ℕ → List Given) (records : List LogRec) (whole : Bool) : Type 0 where
  pub events : List Given
  pub log : (run_from o ps events).log ≡ records
  pub rests : ℕ → List Given
  pub lanes : (i : ℕ) → i < w → es i ≡ lane events i w ++ rests i
  pub none : whole ≡ true → (i : ℕ) → i < w → rests i ≡ []

-- ---- one event more

apart_lane : (m w i j : ℕ) → (m % w == i) ≡ true → (j == i) ≡ false → (m % w == j) ≡ false
apart_lane m w i j mine other = grind (arith, nat_tests, mine, other)

same_number : (i j : ℕ) → (j == i) ≡ true → i ≡ j
same_number i j h = grind (arith, nat_tests, h)

one_more : (o : Opening) (w : ℕ) (ps : List Past) (es : ℕ → List Given) (i : ℕ) (g : Given) (more : List Given) (records : List LogRec) (whole : Bool) → es i ≡ g ∷ more → (node_of g % w == i) ≡ true
    → Built o w (past o ps g) (put es i more) records whole → Built o w ps es (forced o ps g ++ records) whole
one_more o w ps es i g more records whole is mine b = record {
  events = g ∷ b.events;
  log = run_log o ps g b.events ∙ ap (λ (l : List LogRec). forced o ps g ++ l) b.log;
  rests = b.rests;
  lanes = λ j h. at j (j == i) refl (b.lanes j h);
  none = b.none;
}
  where
    at : (j : ℕ) (x : Bool) → (j == i) ≡ x → put es i more j ≡ lane b.events j w ++ b.rests j → es j ≡ lane (g ∷ b.events) j w ++ b.rests j
    at j true e was =
        let here : i ≡ j = same_number i j e in
        let mine_here : (node_of g % w == j) ≡ true = subst (λ (k : ℕ). (node_of g % w == k) ≡ true) here mine in
        let first : es j ≡ g ∷ more = ap es (sym here) ∙ is in
        let rest : more ≡ lane b.events j w ++ b.rests j = sym (subst (λ (k : ℕ). put es i more k ≡ more) here (put_here es i more)) ∙ was in
        first ∙ ap (λ (l : List Given). g ∷ l) rest ∙ sym (ap (λ (l : List Given). l ++ b.rests j) (lane_mine g b.events j w mine_here))
    at j false e was = sym (put_there es i j more e) ∙ was ∙ sym (ap (λ (l : List Given). l ++ b.rests j) (lane_other g b.events j w (apart_lane (node_of g) w i j mine e)))

first_own : (i w : ℕ) (l : List Given) (g : Given) (more : List Given) → l ≡ g ∷ more → AreOf i w l → ((node_of g % w == i) ≡ true) × AreOf i w more
first_own i w l g more is own = let k : AreOf i w (g ∷ more) = subst (AreOf i w) is own in (k.0, k.1)

goes_on : (o : Opening) (w : ℕ) (ps : List Past) (es : ℕ → List Given) (qs : ℕ → List Past) (ls ks : List (List LogRec)) (i : ℕ) (g : Given) (more : List Given) → Stands o w ps es qs ls → i < w → es i ≡ g ∷ more
    → length ks ≡ w → get_or ks i [] ≡ (run_from o (past o (qs i) g) more).log → ((j : ℕ) → (j == i) ≡ false → get_or ks j [] ≡ get_or ls j [])
    → Stands o w (past o ps g) (put es i more) (put qs i (past o (qs i) g)) ks
goes_on o w ps es qs ls ks i g more s within is counted here there = record {
  counted = counted;
  agree = λ j h. agrees j h (j == i) refl;
  own = λ j h. owns j h (j == i) refl;
  logs = λ j h. forces j h (j == i) refl;
}
  where
    mine : ((node_of g % w == i) ≡ true) × AreOf i w more
    mine = first_own i w (es i) g more is (s.own i within)

    agrees : (j : ℕ) → j < w → (x : Bool) → (j == i) ≡ x → Agree j w (past o ps g) (put qs i (past o (qs i) g) j)
    agrees j h true e =
        let same : i ≡ j = same_number i j e in
        subst (λ (k : ℕ). Agree k w (past o ps g) (put qs i (past o (qs i) g) k)) same (subst (Agree i w (past o ps g)) (sym (put_here qs i (past o (qs i) g))) (agree_own o i w ps (qs i) g mine.0 (s.agree i within)))
    agrees j h false e = subst (Agree j w (past o ps g)) (sym (put_there qs i j (past o (qs i) g) e)) (agree_apart o j w ps (qs j) g (apart_lane (node_of g) w i j mine.0 e) (s.agree j h))

    owns : (j : ℕ) → j < w → (x : Bool) → (j == i) ≡ x → AreOf j w (put es i more j)
    owns j h true e = let same : i ≡ j = same_number i j e in subst (λ (k : ℕ). AreOf k w (put es i more k)) same (subst (AreOf i w) (sym (put_here es i more)) mine.1)
    owns j h false e = subst (AreOf j w) (sym (put_there es i j more e)) (s.own j h)

    forces : (j : ℕ) → j < w → (x : Bool) → (j == i) ≡ x → get_or ks j [] ≡ (run_from o (put qs i (past o (qs i) g) j) (put es i more j)).log
    forces j h true e =
        let same : i ≡ j = same_number i j e in
        subst (λ (k : ℕ). get_or ks k [] ≡ (run_from o (put qs i (past o (qs i) g) k) (put es i more k)).log) same
        (here ∙ ap (λ (p : List Past). (run_from o p more).log) (sym (put_here qs i (past o (qs i) g))) ∙ ap (λ (l : List Given). (run_from o (put qs i (past o (qs i) g) i) l).log) (sym (put_here es i more)))
    forces j h false e =
        there j e ∙ s.logs j h ∙ ap (λ (p : List Past). (run_from o p (es j)).log) (sym (put_there qs i j (past o (qs i) g) e))
        ∙ ap (λ (l : List Given). (run_from o (put qs i (past o (qs i) g) j) l).log) (sym (put_there es i j more e))

-- what the first event of a lane forces, and what the rest does
splits : (o : Opening) (w : ℕ) (ps : List Past) (es : ℕ → List Given) (qs : ℕ → List Past) (ls : List (List LogRec)) (i : ℕ) (g : Given) (more : List Given) → Stands o w ps es qs ls → i < w → es i ≡ g ∷ more
    → get_or ls i [] ≡ forced o (qs i) g ++ (run_from o (past o (qs i) g) more).log
splits o w ps es qs ls i g more s within is = s.logs i within ∙ ap (λ (l : List Given). (run_from o (qs i) l).log) is ∙ run_log o (qs i) g more

forces_alike : (o : Opening) (w : ℕ) (ps : List Past) (es : ℕ → List Given) (qs : ℕ → List Past) (ls : List (List LogRec)) (i : ℕ) (g : Given) (more : List Given) → Stands o w ps es qs ls → i < w → es i ≡ g ∷ more
    → forced o ps g ≡ forced o (qs i) g
forces_alike o w ps es qs ls i g more s within is = same_forced o i w ps (qs i) g (first_own i w (es i) g more is (s.own i within)).0 (s.agree i within)

-- an event that forces nothing
silent : (o : Opening) (w : ℕ) (ps : List Past) (es : ℕ → List Given) (qs : ℕ → List Past) (ls : List (List LogRec)) (i : ℕ) (g : Given) (more : List Given) (records : List LogRec) (whole : Bool)
    → Stands o w ps es qs ls → i < w → es i ≡ g ∷ more → forced o (qs i) g ≡ []
    → (Stands o w (past o ps g) (put es i more) (put qs i (past o (qs i) g)) ls → Built o w (past o ps g) (put es i more) records whole) → Built o w ps es records whole
silent o w ps es qs ls i g more records whole s within is none rest =
    let mine : (node_of g % w == i) ≡ true = (first_own i w (es i) g more is (s.own i within)).0 in
    let log : get_or ls i [] ≡ (run_from o (past o (qs i) g) more).log = splits o w ps es qs ls i g more s within is ∙ ap (λ (l : List LogRec). l ++ (run_from o (past o (qs i) g) more).log) none in
    subst (λ (l : List LogRec). Built o w ps es (l ++ records) whole) (forces_alike o w ps es qs ls i g more s within is ∙ none)
    (one_more o w ps es i g more records whole is mine (rest (goes_on o w ps es qs ls ls i g more s within is s.counted log (λ j e. refl))))

-- ---- where no record is left, what is left of the lanes one after the other

abbrev Done : ℕ → ℕ → (ℕ → List Given) → Type 0
Done w k es = (i : ℕ) → i < w → k ≤ i → es i ≡ []

none_left : (o : Opening) (w : ℕ) (ps : List Past) (es : ℕ → List Given) → Done w 0 es → Built o w ps es [] true
none_left o w ps es done = record { events = []; log = refl; rests = λ i. []; lanes = λ i h. done i h (omega arith); none = λ all i h. refl }

nothing_forced : (a : List LogRec) (r : LogRec) (b : List LogRec) → a ≡ r ∷ [] → a ++ b ≡ [] → ⊥
nothing_forced a r b is none = let clash : r ∷ b ≡ [] = sym (ap (λ (l : List LogRec). l ++ b) is) ∙ none in cc (clash)

drain : (o : Opening) (w k : ℕ) (ls : List (List LogRec)) → AreEmpty ls → k < w → ((ps : List Past) (es : ℕ → List Given) (qs : ℕ → List Past) → Stands o w ps es qs ls → Done w k es → Built o w ps es [] true)
    → (mine : List Given) (ps : List Past) (es : ℕ → List Given) (qs : ℕ → List Past) → es k ≡ mine → Stands o w ps es qs ls → Done w (suc k) es → Built o w ps es [] true
drain o w k ls empty within next [] ps es qs is s done = next ps es qs s (λ i h from. at i h from (i == k) refl)
  where
    at : (i : ℕ) → i < w → k ≤ i → (x : Bool) → (i == k) ≡ x → es i ≡ []
    at i h from true e = let same : k ≡ i = same_number k i e in ap es (sym same) ∙ is
    at i h from false e = let beyond : suc k ≤ i = grind (arith, nat_tests, from, e) in done i h beyond
drain o w k ls empty within next (g ∷ more) ps es qs is s done = go (one_or_none o (qs k) g) (λ rs fs gs at t d. drain o w k ls empty within next more rs fs gs at t d)
  where
    none : forced o (qs k) g ++ (run_from o (past o (qs k) g) more).log ≡ []
    none = sym (splits o w ps es qs ls k g more s within is) ∙ at_empty ls k empty

    still : Done w (suc k) (put es k more)
    still i h from = let other : (i == k) ≡ false = grind (arith, nat_tests, from) in put_there es k i more other ∙ done i h from

    go : (forced o (qs k) g ≡ []) ⊎ ((r : LogRec) × (forced o (qs k) g ≡ r ∷ []))
        → ((rs : List Past) (fs : ℕ → List Given) (gs : ℕ → List Past) → fs k ≡ more → Stands o w rs fs gs ls → Done w (suc k) fs → Built o w rs fs [] true) → Built o w ps es [] true
    go (inl quiet) rest = silent o w ps es qs ls k g more [] true s within is quiet (λ t. rest (past o ps g) (put es k more) (put qs k (past o (qs k) g)) (put_here es k more) t still)
    go (inr one) rest = absurd (nothing_forced (forced o (qs k) g) one.0 (run_from o (past o (qs k) g) more).log one.1 none)

flush : (o : Opening) (w k : ℕ) (ls : List (List LogRec)) → AreEmpty ls → k ≤ w → (ps : List Past) (es : ℕ → List Given) (qs : ℕ → List Past) → Stands o w ps es qs ls → Done w k es → Built o w ps es [] true
flush o w zero ls empty within ps es qs s done = none_left o w ps es done
flush o w (suc k) ls empty within ps es qs s done =
    drain o w k ls empty (omega (arith, within)) (λ rs fs gs t d. flush o w k ls empty (omega (arith, within)) rs fs gs t d) (es k) ps es qs refl s done

-- ---- record by record

abbrev Next : Opening → ℕ → List (List LogRec) → List LogRec → Bool → Type 0
Next o w ls records whole = (ps : List Past) (es : ℕ → List Given) (qs : ℕ → List Past) → Stands o w ps es qs ls → Built o w ps es records whole

none_there : (x : LogRec) (own : List LogRec) → x ∷ own ≡ [] → ⊥
none_there x own h = cc (h)

one_there : (x r : LogRec) (own rest : List LogRec) → x ∷ own ≡ r ∷ rest → (r ≡ x) × (own ≡ rest)
one_there x r own rest h = (cc (h), cc (h))

-- the events of a lane up to the one that forces its first record
until : (o : Opening) (w : ℕ) (before behind : List (List LogRec)) (x : LogRec) (own xs : List LogRec) (whole : Bool) → Next o w (before ++ own ∷ behind) xs whole
    → (mine : List Given) (ps : List Past) (es : ℕ → List Given) (qs : ℕ → List Past) → es (length before) ≡ mine → Stands o w ps es qs (before ++ (x ∷ own) ∷ behind) → Built o w ps es (x ∷ xs) whole
until o w before behind x own xs whole next [] ps es qs is s =
    let i : ℕ = length before in
    let inside : i < w = subst (λ (n : ℕ). i < n) s.counted (stands_within before behind (x ∷ own)) in
    absurd (none_there x own (sym (at_place before behind (x ∷ own) []) ∙ s.logs i inside ∙ ap (λ (l : List Given). (run_from o (qs i) l).log) is))
until o w before behind x own xs whole next (g ∷ more) ps es qs is s = go (one_or_none o (qs (length before)) g) (λ rs fs gs at t. until o w before behind x own xs whole next more rs fs gs at t)
  where
    i : ℕ
    i = length before

    ls : List (List LogRec)
    ls = before ++ (x ∷ own) ∷ behind

    inside : i < w
    inside = subst (λ (n : ℕ). i < n) s.counted (stands_within before behind (x ∷ own))

    go : (forced o (qs i) g ≡ []) ⊎ ((r : LogRec) × (forced o (qs i) g ≡ r ∷ []))
        → ((rs : List Past) (fs : ℕ → List Given) (gs : ℕ → List Past) → fs i ≡ more → Stands o w rs fs gs ls → Built o w rs fs (x ∷ xs) whole) → Built o w ps es (x ∷ xs) whole
    go (inl quiet) rest = silent o w ps es qs ls i g more (x ∷ xs) whole s inside is quiet (λ t. rest (past o ps g) (put es i more) (put qs i (past o (qs i) g)) (put_here es i more) t)
    go (inr one) rest =
        let all : x ∷ own ≡ one.0 ∷ (run_from o (past o (qs i) g) more).log =
        sym (at_place before behind (x ∷ own) []) ∙ splits o w ps es qs ls i g more s inside is ∙ ap (λ (l : List LogRec). l ++ (run_from o (past o (qs i) g) more).log) one.1 in
        let both : (one.0 ≡ x) × (own ≡ (run_from o (past o (qs i) g) more).log) = one_there x one.0 own (run_from o (past o (qs i) g) more).log all in
        let mine : (node_of g % w == i) ≡ true = (first_own i w (es i) g more is (s.own i inside)).0 in
        let forces : forced o ps g ≡ x ∷ [] = forces_alike o w ps es qs ls i g more s inside is ∙ one.1 ∙ ap (λ (r : LogRec). r ∷ []) both.0 in
        let t : Stands o w (past o ps g) (put es i more) (put qs i (past o (qs i) g)) (before ++ own ∷ behind) =
        goes_on o w ps es qs ls (before ++ own ∷ behind) i g more s inside is (as_long before behind own (x ∷ own) ∙ s.counted) (at_place before behind own [] ∙ both.1) (λ j e. off_place before behind own (x ∷ own) [] j e) in
        subst (λ (l : List LogRec). Built o w ps es (l ++ xs) whole) forces (one_more o w ps es i g more xs whole is mine (next (past o ps g) (put es i more) (put qs i (past o (qs i) g)) t))

-- the first of the records, and perhaps all
pub weave : (o : Opening) (w : ℕ) (records later : List LogRec) (whole : Bool) (ls : List (List LogRec)) → (whole ≡ true → later ≡ []) → IsInterleaving (records ++ later) ls → Next o w ls records whole
weave o w [] later false ls only woven ps es qs s = record { events = []; log = refl; rests = es; lanes = λ i h. refl; none = λ all. absurd (cc (all)) }
weave o w [] later true ls only woven ps es qs s =
    let empty : AreEmpty ls = subst (λ (l : List LogRec). IsInterleaving l ls) (only refl) woven in
    flush o w w ls empty (omega arith) ps es qs s (λ i h from. absurd (omega (arith, h, from)))
weave o w (x ∷ xs) later whole ls only (before, own, behind, is, rest) ps es qs s =
    until o w before behind x own xs whole (λ rs fs gs t. weave o w xs later whole (before ++ own ∷ behind) only rest rs fs gs t) (es (length before)) ps es qs refl (subst (Stands o w ps es qs) is s)
