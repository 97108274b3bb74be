-- One event of a lane, in the lane alone and among all.
use Rattle.std.proofs.Common.{◌≡◌, ◌==◌, ◌%◌, ◌<◌, ◌⊎◌, inl, inr, ℕ, zero, suc, Bool, true, false, cond, refl, ap, sym, ◌∙◌, arith, Option, Some, None, List, [], ◌∷◌, ◌++◌, get_or, length}
use Rattle.std.proofs.lemmas.Bool.Decides.{nat_tests}
use Rattle.tp_records.specs.declared.body.Event.{Event as Given}
use Rattle.tp_logrec.specs.declared.record.LogRec.{LogRec}
use Rattle.tp_model.specs.Parts.{Entry}
use Rattle.tp_model.specs.History.{answer}
use Rattle.tp_model.specs.NodeRun.{Opening, origin_at, Past, AskedEvent, Refuses, Is, asked, node_of, entry_record, with_entry, NodeRun, run_from}
use Rattle.tp_model.specs.Lanes.{lane, AreEmpty}
use Rattle.tp_runs.proofs.Lanes.{given, run_step, Agree, asked_at, agree_mine, agree_other}

-- ---- what an event forces, and what it makes of the pasts

abbrev pub forced_by : Opening → List Past → AskedEvent → List LogRec
forced_by o ps (Refuses k) = []
forced_by o ps (Is n e) = entry_record (given o ps n e).entry

abbrev pub past_by : Opening → List Past → AskedEvent → List Past
past_by o ps (Refuses k) = ps
past_by o ps (Is n e) = with_entry ps n (given o ps n e).entry

abbrev pub forced : Opening → List Past → Given → List LogRec
forced o ps g = forced_by o ps (asked o g)

abbrev pub past : Opening → List Past → Given → List Past
past o ps g = past_by o ps (asked o g)

pub run_log : (o : Opening) (ps : List Past) (g : Given) (gs : List Given) → (run_from o ps (g ∷ gs)).log ≡ forced o ps g ++ (run_from o (past o ps g) gs).log
run_log o ps g gs = go (asked o g) refl
  where
    go : (a : AskedEvent) → asked o g ≡ a → (run_from o ps (g ∷ gs)).log ≡ forced_by o ps a ++ (run_from o (past_by o ps a) gs).log
    go (Refuses k) i = ap (λ (r : NodeRun). r.log) (run_step o ps g gs (Refuses k) i)
    go (Is n e) i = ap (λ (r : NodeRun). r.log) (run_step o ps g gs (Is n e) i)

-- one record at most
pub one_or_none : (o : Opening) (ps : List Past) (g : Given) → (forced o ps g ≡ []) ⊎ ((r : LogRec) × (forced o ps g ≡ r ∷ []))
one_or_none o ps g = go (asked o g)
  where
    rec : (r : Option LogRec) → (elim r as (λ _. List LogRec) [ None ↦ [] | Some q ↦ q ∷ [] ] ≡ []) ⊎ ((x : LogRec) × (elim r as (λ _. List LogRec) [ None ↦ [] | Some q ↦ q ∷ [] ] ≡ x ∷ []))
    rec None = inl refl
    rec (Some q) = inr (q, refl)

    entry : (y : Option Entry) → (entry_record y ≡ []) ⊎ ((x : LogRec) × (entry_record y ≡ x ∷ []))
    entry None = inl refl
    entry (Some e) = rec e.rec

    go : (a : AskedEvent) → (forced_by o ps a ≡ []) ⊎ ((r : LogRec) × (forced_by o ps a ≡ r ∷ []))
    go (Refuses k) = inl refl
    go (Is n e) = entry (given o ps n e).entry

-- ---- the lane of the event, and the others

module _ (o : Opening) (i w : ℕ) (ps qs : List Past) (g : Given) where
  pub same_forced : (node_of g % w == i) ≡ true → Agree i w ps qs → forced o ps g ≡ forced o qs g
  same_forced mine agree = go (asked o g) refl
    where
      go : (a : AskedEvent) → asked o g ≡ a → forced_by o ps a ≡ forced_by o qs a
      go (Refuses k) h = refl
      go (Is n e) h =
          let own : (n % w == i) ≡ true = ap (λ (m : ℕ). m % w == i) (sym (asked_at o g n e h)) ∙ mine in
          ap (λ (l : List Entry). entry_record (answer (origin_at o n) l e).entry) (agree n own)

  pub agree_own : (node_of g % w == i) ≡ true → Agree i w ps qs → Agree i w (past o ps g) (past o qs g)
  agree_own mine agree = go (asked o g) refl
    where
      go : (a : AskedEvent) → asked o g ≡ a → Agree i w (past_by o ps a) (past_by o qs a)
      go (Refuses k) h = agree
      go (Is n e) h =
          let own : (n % w == i) ≡ true = ap (λ (m : ℕ). m % w == i) (sym (asked_at o g n e h)) ∙ mine in
          let same : (given o ps n e).entry ≡ (given o qs n e).entry = ap (λ (l : List Entry). (answer (origin_at o n) l e).entry) (agree n own) in
          agree_mine i w ps qs n (given o ps n e).entry (given o qs n e).entry own same agree

  pub agree_apart : (node_of g % w == i) ≡ false → Agree i w ps qs → Agree i w (past o ps g) qs
  agree_apart other agree = go (asked o g) refl
    where
      go : (a : AskedEvent) → asked o g ≡ a → Agree i w (past_by o ps a) qs
      go (Refuses k) h = agree
      go (Is n e) h =
          let off : (n % w == i) ≡ false = ap (λ (m : ℕ). m % w == i) (sym (asked_at o g n e h)) ∙ other in
          agree_other i w ps qs n (given o ps n e).entry off agree

-- ---- events of one lane

abbrev pub AreOf : ℕ → ℕ → List Given → Type 0
AreOf i w [] = Unit {0}
AreOf i w (g ∷ gs) = ((node_of g % w == i) ≡ true) × AreOf i w gs

pub lane_is_own : (i w : ℕ) (gs : List Given) → AreOf i w (lane gs i w)
lane_is_own i w [] = tt
lane_is_own i w (g ∷ gs) = go (node_of g % w == i) refl (lane_is_own i w gs)
  where
    go : (b : Bool) → (node_of g % w == i) ≡ b → AreOf i w (lane gs i w) → AreOf i w (elim b as (λ _. List Given) [ true ↦ g ∷ lane gs i w | false ↦ lane gs i w ])
    go true h rest = (h, rest)
    go false h rest = rest

-- ---- a value for each number, and one put in its place

abbrev pub put : {A : Type 0} → (ℕ → A) → ℕ → A → ℕ → A
put f i v j = cond (j == i) v (f j)

pub put_here : {A : Type 0} (f : ℕ → A) (i : ℕ) (v : A) → put f i v i ≡ v
put_here f i v = let itself : (i == i) ≡ true = grind (arith, nat_tests) in rw itself refl

pub put_there : {A : Type 0} (f : ℕ → A) (i j : ℕ) (v : A) → (j == i) ≡ false → put f i v j ≡ f j
put_there f i j v other = rw other refl

-- ---- lists of lists

pub at_empty : {A : Type 0} (ls : List (List A)) (i : ℕ) → AreEmpty ls → get_or ls i [] ≡ []
at_empty [] i none = refl
at_empty ([] ∷ ls) zero none = refl
at_empty ([] ∷ ls) (suc i) none = at_empty ls i none
at_empty ((x ∷ xs) ∷ ls) i none = absurd none

pub at_place : {A : Type 0} (before behind : List A) (x d : A) → get_or (before ++ x ∷ behind) (length before) d ≡ x
at_place [] behind x d = refl
at_place (y ∷ before) behind x d = at_place before behind x d

pub off_place : {A : Type 0} (before behind : List A) (x y d : A) (j : ℕ) → (j == length before) ≡ false → get_or (before ++ x ∷ behind) j d ≡ get_or (before ++ y ∷ behind) j d
off_place [] behind x y d zero other = absurd (let same : true ≡ false = other in cc (same))
off_place [] behind x y d (suc j) other = refl
off_place (z ∷ before) behind x y d zero other = refl
off_place (z ∷ before) behind x y d (suc j) other = let less : (j == length before) ≡ false = grind (arith, nat_tests, other) in off_place before behind x y d j less

pub as_long : {A : Type 0} (before behind : List A) (x y : A) → length (before ++ x ∷ behind) ≡ length (before ++ y ∷ behind)
as_long [] behind x y = refl
as_long (z ∷ before) behind x y = ap suc (as_long before behind x y)

pub stands_within : {A : Type 0} (before behind : List A) (x : A) → length before < length (before ++ x ∷ behind)
stands_within [] behind x = omega arith
stands_within (z ∷ before) behind x = omega (arith, stands_within before behind x)
