-- A brief has the standing of its list, whatever the list.
use Rattle.std.proofs.Common.{◌≡◌, ℕ, Option, Some, None, List, [], ◌∷◌, ◌++◌, refl, sym, subst, ◌∙◌, ap, append_assoc, append-nil, Bool, true, false}
use Rattle.std.specs.Prelude.{◌==◌}
use Rattle.tp_names.specs.declared.identifiers.Addr.{Addr}
use Rattle.tp_names.specs.declared.identifiers.NodeKey.{NodeKey}
use Rattle.tp_names.specs.declared.children.Child.{Child}
use Rattle.tp_names.specs.declared.outcome.Outcome.{Outcome}
use Rattle.tp_names.specs.declared.outcome.Report.{Report}
use Rattle.tp_logrec.specs.declared.record.LogRec.{LogRec}
use Rattle.tp_logrec.specs.Order.{Owner, owner, owner_of, is_owner, is_ready, is_heuristic, is_commit, is_damage, is_end, Life, with_record, without, lives_after, lives_from, lives, last_or, last, those, boots, greatest, is_begun, last_only, brief_life, brief_lives, boot_record, brief, lives_at, IsStandingAlike}
use Rattle.tp_logrec.proofs.Sames.{owner_same, owner_self, owner_either}
use Rattle.tp_logrec.proofs.Stands.{those-append, boots-append}

-- ---- records of one key

-- each is a record of that key, and no End
abbrev pub AllOwn : Owner → List LogRec → Type 0
AllOwn o [] = Unit {0}
AllOwn o (r ∷ rs) = (owner_of r ≡ Some o) × (is_end r ≡ false) × AllOwn o rs

pub own_append : (o : Owner) (rs qs : List LogRec) → AllOwn o rs → AllOwn o qs → AllOwn o (rs ++ qs)
own_append o [] qs a b = b
own_append o (r ∷ rs) qs a b = (a.0, a.1, own_append o rs qs a.2 b)

pub own_those : (test : LogRec → Bool) (o : Owner) (rs : List LogRec) → AllOwn o rs → AllOwn o (those test rs)
own_those test o [] a = tt
own_those test o (r ∷ rs) a = go (test r) (own_those test o rs a.2)
  where
    go : (b : Bool) → AllOwn o (those test rs) → AllOwn o (elim b as (λ _. List LogRec) [ true ↦ r ∷ those test rs | false ↦ those test rs ])
    go true p = (a.0, a.1, p)
    go false p = p

abbrev pub only : Option LogRec → List LogRec
only None = []
only (Some r) = r ∷ []

pub last_only_is : (rs : List LogRec) → last_only rs ≡ only (last rs)
last_only_is rs = go (last rs)
  where
    go : (o : Option LogRec) → elim o as (λ _. List LogRec) [ None ↦ [] | Some r ↦ r ∷ [] ] ≡ only o
    go None = refl
    go (Some r) = refl

pub own_last : (o : Owner) (before : Option LogRec) (rs : List LogRec) → AllOwn o (only before) → AllOwn o rs → AllOwn o (only (last_or before rs))
own_last o before [] b a = b
own_last o before (r ∷ rs) b a = own_last o (Some r) rs (a.0, a.1, tt) a.2

pub own_last_only : (o : Owner) (rs : List LogRec) → AllOwn o rs → AllOwn o (last_only rs)
own_last_only o rs a = subst (λ (w : List LogRec). AllOwn o w) (sym (last_only_is rs)) (own_last o None rs tt a)

pub own_brief : (o : Owner) (rs : List LogRec) → AllOwn o rs → AllOwn o (brief_life rs)
own_brief o rs a =
    own_append o (those is_ready rs ++ those is_heuristic rs ++ those is_commit rs) (last_only (those is_damage rs))
    (own_append o (those is_ready rs ++ those is_heuristic rs) (those is_commit rs)
    (own_append o (those is_ready rs) (those is_heuristic rs) (own_those is_ready o rs a) (own_those is_heuristic o rs a)) (own_those is_commit o rs a))
    (own_last_only o (those is_damage rs) (own_those is_damage o rs a))

-- ---- a brief of a brief

abbrev pub AllAre : (LogRec → Bool) → Bool → List LogRec → Type 0
AllAre test b [] = Unit {0}
AllAre test b (r ∷ rs) = (test r ≡ b) × AllAre test b rs

pub those_all : (test : LogRec → Bool) (rs : List LogRec) → AllAre test true rs → those test rs ≡ rs
those_all test [] a = refl
those_all test (r ∷ rs) a =
    ap (λ (b : Bool). elim b as (λ _. List LogRec) [ true ↦ r ∷ those test rs | false ↦ those test rs ]) a.0 ∙ ap (λ w. r ∷ w) (those_all test rs a.1)

pub those_none : (test : LogRec → Bool) (rs : List LogRec) → AllAre test false rs → those test rs ≡ []
those_none test [] a = refl
those_none test (r ∷ rs) a =
    ap (λ (b : Bool). elim b as (λ _. List LogRec) [ true ↦ r ∷ those test rs | false ↦ those test rs ]) a.0 ∙ those_none test rs a.1

pub are_those : (test other : LogRec → Bool) (b : Bool) → ((r : LogRec) → test r ≡ true → other r ≡ b) → (rs : List LogRec) → AllAre other b (those test rs)
are_those test other b says [] = tt
are_those test other b says (r ∷ rs) = go (test r) refl (are_those test other b says rs)
  where
    go : (t : Bool) → test r ≡ t → AllAre other b (those test rs) → AllAre other b (elim t as (λ _. List LogRec) [ true ↦ r ∷ those test rs | false ↦ those test rs ])
    go true e p = (says r e, p)
    go false e p = p

pub are_last : (test : LogRec → Bool) (b : Bool) (before : Option LogRec) (rs : List LogRec) → AllAre test b (only before) → AllAre test b rs → AllAre test b (only (last_or before rs))
are_last test b before [] a c = a
are_last test b before (r ∷ rs) a c = are_last test b (Some r) rs (c.0, tt) c.1

pub are_last_only : (test : LogRec → Bool) (b : Bool) (rs : List LogRec) → AllAre test b rs → AllAre test b (last_only rs)
are_last_only test b rs a = subst (λ (w : List LogRec). AllAre test b w) (sym (last_only_is rs)) (are_last test b None rs tt a)

-- a kind of which no Ready is makes no Ready, and so on
pub else_ready : (test : LogRec → Bool) → ((n : ℕ) (k : NodeKey) (a : Addr) (cs : List Child) → test (LogRec.Ready n k a cs) ≡ false) → (r : LogRec) → test r ≡ true → is_ready r ≡ false
else_ready test says (LogRec.Ready n k a cs) e = absurd (let clash : false ≡ true = sym (says n k a cs) ∙ e in cc)
else_ready test says r e = refl

pub else_heuristic : (test : LogRec → Bool) → ((n : ℕ) (k : NodeKey) (o : Outcome) → test (LogRec.Heuristic n k o) ≡ false) → (r : LogRec) → test r ≡ true → is_heuristic r ≡ false
else_heuristic test says (LogRec.Heuristic n k o) e = absurd (let clash : false ≡ true = sym (says n k o) ∙ e in cc)
else_heuristic test says r e = refl

pub else_commit : (test : LogRec → Bool) → ((n : ℕ) (k : NodeKey) (a : Option Addr) (cs : List Child) → test (LogRec.Commit n k a cs) ≡ false) → (r : LogRec) → test r ≡ true → is_commit r ≡ false
else_commit test says (LogRec.Commit n k a cs) e = absurd (let clash : false ≡ true = sym (says n k a cs) ∙ e in cc)
else_commit test says r e = refl

pub else_damage : (test : LogRec → Bool) → ((n : ℕ) (k : NodeKey) (a : Option Addr) (o : Outcome) (p : Report) (cs : List Child) → test (LogRec.Damage n k a o p cs) ≡ false) → (r : LogRec) → test r ≡ true → is_damage r ≡ false
else_damage test says (LogRec.Damage n k a o p cs) e = absurd (let clash : false ≡ true = sym (says n k a o p cs) ∙ e in cc)
else_damage test says r e = refl

pub last_only_again : (rs : List LogRec) → last_only (last_only rs) ≡ last_only rs
last_only_again rs = ap last_only (last_only_is rs) ∙ go (last rs) ∙ sym (last_only_is rs)
  where
    go : (o : Option LogRec) → last_only (only o) ≡ only o
    go None = refl
    go (Some r) = refl

pub those_four : (test : LogRec → Bool) (a b c d : List LogRec) → those test (a ++ b ++ c ++ d) ≡ those test a ++ those test b ++ those test c ++ those test d
those_four test a b c d =
    those-append test (a ++ b ++ c) d
    ∙ ap (λ w. w ++ those test d) (those-append test (a ++ b) c ∙ ap (λ w. w ++ those test c) (those-append test a b))

module _ (rs : List LogRec) where
  abbrev pub readies : List LogRec
  readies = those is_ready rs

  abbrev pub decisions : List LogRec
  decisions = those is_heuristic rs

  abbrev pub commits : List LogRec
  commits = those is_commit rs

  abbrev pub damages : List LogRec
  damages = those is_damage rs

pub ready_again : (rs : List LogRec) → those is_ready (brief_life rs) ≡ readies rs
ready_again rs =
    those_four is_ready (readies rs) (decisions rs) (commits rs) (last_only (damages rs))
    ∙ ap (λ w. w ++ those is_ready (decisions rs) ++ those is_ready (commits rs) ++ those is_ready (last_only (damages rs))) (those_all is_ready (readies rs) (are_those is_ready is_ready true (λ r e. e) rs))
    ∙ ap (λ w. readies rs ++ w ++ those is_ready (commits rs) ++ those is_ready (last_only (damages rs))) (those_none is_ready (decisions rs) (are_those is_heuristic is_ready false (else_ready is_heuristic (λ n k a cs. refl)) rs))
    ∙ ap (λ w. readies rs ++ [] ++ w ++ those is_ready (last_only (damages rs))) (those_none is_ready (commits rs) (are_those is_commit is_ready false (else_ready is_commit (λ n k a cs. refl)) rs))
    ∙ ap (λ w. readies rs ++ [] ++ [] ++ w) (those_none is_ready (last_only (damages rs)) (are_last_only is_ready false (damages rs) (are_those is_damage is_ready false (else_ready is_damage (λ n k a cs. refl)) rs)))
    ∙ append-nil (readies rs ++ [] ++ []) ∙ append-nil (readies rs ++ []) ∙ append-nil (readies rs)

pub decision_again : (rs : List LogRec) → those is_heuristic (brief_life rs) ≡ decisions rs
decision_again rs =
    those_four is_heuristic (readies rs) (decisions rs) (commits rs) (last_only (damages rs))
    ∙ ap (λ w. w ++ those is_heuristic (decisions rs) ++ those is_heuristic (commits rs) ++ those is_heuristic (last_only (damages rs))) (those_none is_heuristic (readies rs) (are_those is_ready is_heuristic false (else_heuristic is_ready (λ n k o. refl)) rs))
    ∙ ap (λ w. w ++ those is_heuristic (commits rs) ++ those is_heuristic (last_only (damages rs))) (those_all is_heuristic (decisions rs) (are_those is_heuristic is_heuristic true (λ r e. e) rs))
    ∙ ap (λ w. decisions rs ++ w ++ those is_heuristic (last_only (damages rs))) (those_none is_heuristic (commits rs) (are_those is_commit is_heuristic false (else_heuristic is_commit (λ n k o. refl)) rs))
    ∙ ap (λ w. decisions rs ++ [] ++ w) (those_none is_heuristic (last_only (damages rs)) (are_last_only is_heuristic false (damages rs) (are_those is_damage is_heuristic false (else_heuristic is_damage (λ n k o. refl)) rs)))
    ∙ append-nil (decisions rs ++ []) ∙ append-nil (decisions rs)

pub commit_again : (rs : List LogRec) → those is_commit (brief_life rs) ≡ commits rs
commit_again rs =
    those_four is_commit (readies rs) (decisions rs) (commits rs) (last_only (damages rs))
    ∙ ap (λ w. w ++ those is_commit (decisions rs) ++ those is_commit (commits rs) ++ those is_commit (last_only (damages rs))) (those_none is_commit (readies rs) (are_those is_ready is_commit false (else_commit is_ready (λ n k a cs. refl)) rs))
    ∙ ap (λ w. w ++ those is_commit (commits rs) ++ those is_commit (last_only (damages rs))) (those_none is_commit (decisions rs) (are_those is_heuristic is_commit false (else_commit is_heuristic (λ n k a cs. refl)) rs))
    ∙ ap (λ w. w ++ those is_commit (last_only (damages rs))) (those_all is_commit (commits rs) (are_those is_commit is_commit true (λ r e. e) rs))
    ∙ ap (λ w. commits rs ++ w) (those_none is_commit (last_only (damages rs)) (are_last_only is_commit false (damages rs) (are_those is_damage is_commit false (else_commit is_damage (λ n k a cs. refl)) rs)))
    ∙ append-nil (commits rs)

pub damage_again : (rs : List LogRec) → those is_damage (brief_life rs) ≡ last_only (damages rs)
damage_again rs =
    those_four is_damage (readies rs) (decisions rs) (commits rs) (last_only (damages rs))
    ∙ ap (λ w. w ++ those is_damage (decisions rs) ++ those is_damage (commits rs) ++ those is_damage (last_only (damages rs))) (those_none is_damage (readies rs) (are_those is_ready is_damage false (else_damage is_ready (λ n k a o p cs. refl)) rs))
    ∙ ap (λ w. w ++ those is_damage (commits rs) ++ those is_damage (last_only (damages rs))) (those_none is_damage (decisions rs) (are_those is_heuristic is_damage false (else_damage is_heuristic (λ n k a o p cs. refl)) rs))
    ∙ ap (λ w. w ++ those is_damage (last_only (damages rs))) (those_none is_damage (commits rs) (are_those is_commit is_damage false (else_damage is_commit (λ n k a o p cs. refl)) rs))
    ∙ those_all is_damage (last_only (damages rs)) (are_last_only is_damage true (damages rs) (are_those is_damage is_damage true (λ r e. e) rs))

pub brief_again : (rs : List LogRec) → brief_life (brief_life rs) ≡ brief_life rs
brief_again rs =
    ap (λ w. w ++ those is_heuristic (brief_life rs) ++ those is_commit (brief_life rs) ++ last_only (those is_damage (brief_life rs))) (ready_again rs)
    ∙ ap (λ w. readies rs ++ w ++ those is_commit (brief_life rs) ++ last_only (those is_damage (brief_life rs))) (decision_again rs)
    ∙ ap (λ w. readies rs ++ decisions rs ++ w ++ last_only (those is_damage (brief_life rs))) (commit_again rs)
    ∙ ap (λ w. readies rs ++ decisions rs ++ commits rs ++ w) (ap last_only (damage_again rs) ∙ last_only_again (damages rs))

-- ---- a life's brief has a record

pub begun_behind : (rs : List LogRec) (q : LogRec) (qs : List LogRec) → is_begun (rs ++ q ∷ qs) ≡ true
begun_behind [] q qs = refl
begun_behind (r ∷ rs) q qs = refl

pub begun_before : (rs qs : List LogRec) → is_begun rs ≡ true → is_begun (rs ++ qs) ≡ true
begun_before [] qs e = absurd cc
begun_before (r ∷ rs) qs e = refl

pub begun_last : (r : LogRec) (rs : List LogRec) → is_begun (last_only (r ∷ rs)) ≡ true
begun_last r rs = ap is_begun (last_only_is (r ∷ rs)) ∙ go r rs
  where
    go : (q : LogRec) (qs : List LogRec) → is_begun (only (last_or (Some q) qs)) ≡ true
    go q [] = refl
    go q (p ∷ ps) = go p ps

pub brief_begun : (o : Owner) (rs : List LogRec) → AllOwn o rs → is_begun rs ≡ true → is_begun (brief_life rs) ≡ true
brief_begun o [] own e = absurd cc
brief_begun o (LogRec.Boot n ∷ rs) own e = absurd (let clash : None ≡ Some o = own.0 in cc)
brief_begun o (LogRec.Ready n k a cs ∷ rs) own e = refl
brief_begun o (LogRec.Heuristic n k h ∷ rs) own e =
    let front = those is_ready rs in
    begun_before (front ++ LogRec.Heuristic n k h ∷ those is_heuristic rs ++ those is_commit rs) (last_only (those is_damage rs))
    (begun_before (front ++ LogRec.Heuristic n k h ∷ those is_heuristic rs) (those is_commit rs) (begun_behind front (LogRec.Heuristic n k h) (those is_heuristic rs)))
brief_begun o (LogRec.Commit n k a cs ∷ rs) own e =
    let front = those is_ready rs ++ those is_heuristic rs in
    begun_before (front ++ LogRec.Commit n k a cs ∷ those is_commit rs) (last_only (those is_damage rs)) (begun_behind front (LogRec.Commit n k a cs) (those is_commit rs))
brief_begun o (LogRec.Damage n k a h p cs ∷ rs) own e =
    let front = those is_ready rs ++ those is_heuristic rs ++ those is_commit rs in
    let d : LogRec = LogRec.Damage n k a h p cs in
    begun_after front (last_only (d ∷ those is_damage rs)) (begun_last d (those is_damage rs))
  where
    begun_after : (xs ys : List LogRec) → is_begun ys ≡ true → is_begun (xs ++ ys) ≡ true
    begun_after [] ys e = e
    begun_after (x ∷ xs) ys e = refl
brief_begun o (LogRec.End n k h ∷ rs) own e = absurd (let clash : true ≡ false = own.1 in cc)

-- ---- lives

-- the key has no life among these
abbrev pub Absent : Owner → List Life → Type 0
Absent o [] = Unit {0}
Absent o (l ∷ ls) = (is_owner l.owner o ≡ false) × Absent o ls

-- each life is of its own key, with records of that key
abbrev pub AreLives : List Life → Type 0
AreLives [] = Unit {0}
AreLives (l ∷ ls) = Absent l.owner ls × AllOwn l.owner l.records × (is_begun l.records ≡ true) × AreLives ls

pub absent_with : (ls : List Life) (p o : Owner) (r : LogRec) → Absent p ls → is_owner o p ≡ false → Absent p (with_record ls o r)
absent_with [] p o r a e = (e, tt)
absent_with (l ∷ ls) p o r a e = go (is_owner l.owner o) (absent_with ls p o r a.1 e)
  where
    go : (b : Bool) → Absent p (with_record ls o r) → Absent p (elim b as (λ _. List Life) [ true ↦ (let m : Life = record { owner = l.owner; records = l.records ++ r ∷ [] } in m) ∷ ls | false ↦ l ∷ with_record ls o r ])
    go true x = a
    go false x = (a.0, x)

pub absent_without : (ls : List Life) (p o : Owner) → Absent p ls → Absent p (without ls o)
absent_without [] p o a = tt
absent_without (l ∷ ls) p o a = go (is_owner l.owner o) (absent_without ls p o a.1)
  where
    go : (b : Bool) → Absent p (without ls o) → Absent p (elim b as (λ _. List Life) [ true ↦ without ls o | false ↦ l ∷ without ls o ])
    go true x = x
    go false x = (a.0, x)

pub lives_with : (ls : List Life) (o : Owner) (r : LogRec) → owner_of r ≡ Some o → is_end r ≡ false → AreLives ls → AreLives (with_record ls o r)
lives_with [] o r own alive a = (tt, (own, alive, tt), refl, tt)
lives_with (l ∷ ls) o r own alive a = go (is_owner l.owner o) refl (lives_with ls o r own alive a.3)
  where
    go : (b : Bool) → is_owner l.owner o ≡ b → AreLives (with_record ls o r) → AreLives (elim b as (λ _. List Life) [ true ↦ (let m : Life = record { owner = l.owner; records = l.records ++ r ∷ [] } in m) ∷ ls | false ↦ l ∷ with_record ls o r ])
    go true e x =
        let same : owner_of r ≡ Some l.owner = own ∙ ap Some (sym (owner_same l.owner o e)) in
        (a.0, own_append l.owner l.records (r ∷ []) a.1 (same, alive, tt), begun_before l.records (r ∷ []) a.2, a.3)
    go false e x = (absent_with ls l.owner o r a.0 (owner_either o l.owner ∙ e), a.1, a.2, x)

pub lives_without : (ls : List Life) (o : Owner) → AreLives ls → AreLives (without ls o)
lives_without [] o a = tt
lives_without (l ∷ ls) o a = go (is_owner l.owner o) (lives_without ls o a.3)
  where
    go : (b : Bool) → AreLives (without ls o) → AreLives (elim b as (λ _. List Life) [ true ↦ without ls o | false ↦ l ∷ without ls o ])
    go true x = x
    go false x = (absent_without ls l.owner o a.0, a.1, a.2, x)

pub lives_step : (ls : List Life) (r : LogRec) → AreLives ls → AreLives (lives_after ls r)
lives_step ls (LogRec.Boot n) a = a
lives_step ls (LogRec.Ready n k d cs) a = lives_with ls (owner n k) (LogRec.Ready n k d cs) refl refl a
lives_step ls (LogRec.Heuristic n k h) a = lives_with ls (owner n k) (LogRec.Heuristic n k h) refl refl a
lives_step ls (LogRec.Commit n k d cs) a = lives_with ls (owner n k) (LogRec.Commit n k d cs) refl refl a
lives_step ls (LogRec.Damage n k d h p cs) a = lives_with ls (owner n k) (LogRec.Damage n k d h p cs) refl refl a
lives_step ls (LogRec.End n k h) a = lives_without ls (owner n k) a

pub lives_all : (ls : List Life) (rs : List LogRec) → AreLives ls → AreLives (lives_from ls rs)
lives_all ls [] a = a
lives_all ls (r ∷ rs) a = lives_all (lives_after ls r) rs (lives_step ls r a)

-- ---- the lives of a brief

abbrev pub shorten : Life → Life
shorten l = record l { records = brief_life l.records }

abbrev pub shortened : List Life → List Life
shortened [] = []
shortened (l ∷ ls) = shorten l ∷ shortened ls

abbrev pub life : Owner → List LogRec → Life
life o rs = record { owner = o; records = rs }

pub absent_push : (ls : List Life) (p o : Owner) (rs : List LogRec) → Absent p ls → is_owner o p ≡ false → Absent p (ls ++ life o rs ∷ [])
absent_push [] p o rs a e = (e, tt)
absent_push (l ∷ ls) p o rs a e = (a.0, absent_push ls p o rs a.1 e)

-- a key without a life begins one at the end
pub with_new : (ls : List Life) (o : Owner) (r : LogRec) → Absent o ls → with_record ls o r ≡ ls ++ life o (r ∷ []) ∷ []
with_new [] o r a = refl
with_new (l ∷ ls) o r a =
    ap (λ (b : Bool). elim b as (λ _. List Life) [ true ↦ life l.owner (l.records ++ r ∷ []) ∷ ls | false ↦ l ∷ with_record ls o r ]) a.0
    ∙ ap (λ w. l ∷ w) (with_new ls o r a.1)

-- and goes on with it there
pub with_last : (ls : List Life) (o : Owner) (rs : List LogRec) (r : LogRec) → Absent o ls → with_record (ls ++ life o rs ∷ []) o r ≡ ls ++ life o (rs ++ r ∷ []) ∷ []
with_last [] o rs r a = ap (λ (b : Bool). elim b as (λ _. List Life) [ true ↦ life o (rs ++ r ∷ []) ∷ [] | false ↦ life o rs ∷ life o (r ∷ []) ∷ [] ]) (owner_self o)
with_last (l ∷ ls) o rs r a =
    ap (λ (b : Bool). elim b as (λ _. List Life) [ true ↦ life l.owner (l.records ++ r ∷ []) ∷ (ls ++ life o rs ∷ []) | false ↦ l ∷ with_record (ls ++ life o rs ∷ []) o r ]) a.0
    ∙ ap (λ w. l ∷ w) (with_last ls o rs r a.1)

pub after_own : (ls : List Life) (o : Owner) (r : LogRec) → owner_of r ≡ Some o → is_end r ≡ false → lives_after ls r ≡ with_record ls o r
after_own ls o r own alive =
    ap (λ (p : Option Owner). elim p as (λ _. List Life) [ None ↦ ls | Some q ↦ elim (is_end r) as (λ _. List Life) [ true ↦ without ls q | false ↦ with_record ls q r ] ]) own
    ∙ ap (λ (b : Bool). elim b as (λ _. List Life) [ true ↦ without ls o | false ↦ with_record ls o r ]) alive

pub lives_run : (ls : List Life) (o : Owner) (rs qs : List LogRec) → Absent o ls → AllOwn o qs → lives_from (ls ++ life o rs ∷ []) qs ≡ ls ++ life o (rs ++ qs) ∷ []
lives_run ls o rs [] a own = ap (λ w. ls ++ life o w ∷ []) (sym (append-nil rs))
lives_run ls o rs (q ∷ qs) a own =
    ap (λ w. lives_from w qs) (after_own (ls ++ life o rs ∷ []) o q own.0 own.1 ∙ with_last ls o rs q a)
    ∙ lives_run ls o (rs ++ q ∷ []) qs a own.2 ∙ ap (λ w. ls ++ life o w ∷ []) (append_assoc rs (q ∷ []) qs)

pub lives_begin : (ls : List Life) (o : Owner) (qs : List LogRec) → Absent o ls → AllOwn o qs → is_begun qs ≡ true → lives_from ls qs ≡ ls ++ life o qs ∷ []
lives_begin ls o [] a own e = absurd cc
lives_begin ls o (q ∷ qs) a own e =
    ap (λ w. lives_from w qs) (after_own ls o q own.0 own.1 ∙ with_new ls o q a) ∙ lives_run ls o (q ∷ []) qs a own.2

pub lives_from-append : (ls : List Life) (rs qs : List LogRec) → lives_from ls (rs ++ qs) ≡ lives_from (lives_from ls rs) qs
lives_from-append ls [] qs = refl
lives_from-append ls (r ∷ rs) qs = lives_from-append (lives_after ls r) rs qs

-- none of the keys has a life among the first
abbrev pub AllAbsent : List Life → List Life → Type 0
AllAbsent ls [] = Unit {0}
AllAbsent ls (m ∷ ms) = Absent m.owner ls × AllAbsent ls ms

pub all_absent_push : (ls ms : List Life) (o : Owner) (rs : List LogRec) → AllAbsent ls ms → Absent o ms → AllAbsent (ls ++ life o rs ∷ []) ms
all_absent_push ls [] o rs a b = tt
all_absent_push ls (m ∷ ms) o rs a b = (absent_push ls m.owner o rs a.0 (owner_either o m.owner ∙ b.0), all_absent_push ls ms o rs a.1 b.1)

pub all_absent_nil : (ms : List Life) → AllAbsent [] ms
all_absent_nil [] = tt
all_absent_nil (m ∷ ms) = (tt, all_absent_nil ms)

pub lives_briefs : (ls ms : List Life) → AllAbsent ls ms → AreLives ms → lives_from ls (brief_lives ms) ≡ ls ++ shortened ms
lives_briefs ls [] a l = sym (append-nil ls)
lives_briefs ls (m ∷ ms) a l =
    lives_from-append ls (brief_life m.records) (brief_lives ms)
    ∙ ap (λ w. lives_from w (brief_lives ms)) (lives_begin ls m.owner (brief_life m.records) a.0 (own_brief m.owner m.records l.1) (brief_begun m.owner m.records l.1 l.2))
    ∙ lives_briefs (ls ++ shorten m ∷ []) ms (all_absent_push ls ms m.owner (brief_life m.records) a.1 l.0) l.3
    ∙ append_assoc ls (shorten m ∷ []) (shortened ms)

pub lives_boot : (g : Option ℕ) (rs : List LogRec) → lives (boot_record g ++ rs) ≡ lives rs
lives_boot None rs = refl
lives_boot (Some n) rs = refl

pub lives_of_brief : (rs : List LogRec) → lives (brief rs) ≡ shortened (lives rs)
lives_of_brief rs = lives_boot (greatest (boots rs)) (brief_lives (lives rs)) ∙ lives_briefs [] (lives rs) (all_absent_nil (lives rs)) (lives_all [] rs tt)

-- ---- the standing

pub briefs_again : (ls : List Life) → brief_lives (shortened ls) ≡ brief_lives ls
briefs_again [] = refl
briefs_again (l ∷ ls) = ap (λ w. w ++ brief_lives (shortened ls)) (brief_again l.records) ∙ ap (λ w. brief_life l.records ++ w) (briefs_again ls)

pub at_again : (n : ℕ) (ls : List Life) → lives_at n (shortened ls) ≡ shortened (lives_at n ls)
at_again n [] = refl
at_again n (l ∷ ls) = go (l.owner.node == n) (at_again n ls)
  where
    go : (b : Bool) → lives_at n (shortened ls) ≡ shortened (lives_at n ls)
        → elim b as (λ _. List Life) [ true ↦ shorten l ∷ lives_at n (shortened ls) | false ↦ lives_at n (shortened ls) ] ≡ shortened (elim b as (λ _. List Life) [ true ↦ l ∷ lives_at n ls | false ↦ lives_at n ls ])
    go true e = ap (λ w. shorten l ∷ w) e
    go false e = e

pub own_boots : (o : Owner) (rs : List LogRec) → AllOwn o rs → boots rs ≡ []
own_boots o [] a = refl
own_boots o (LogRec.Boot n ∷ rs) a = absurd (let clash : None ≡ Some o = a.0 in cc)
own_boots o (LogRec.Ready n k d cs ∷ rs) a = own_boots o rs a.2
own_boots o (LogRec.Heuristic n k h ∷ rs) a = own_boots o rs a.2
own_boots o (LogRec.Commit n k d cs ∷ rs) a = own_boots o rs a.2
own_boots o (LogRec.Damage n k d h p cs ∷ rs) a = own_boots o rs a.2
own_boots o (LogRec.End n k h ∷ rs) a = own_boots o rs a.2

pub brief_boots : (ls : List Life) → AreLives ls → boots (brief_lives ls) ≡ []
brief_boots [] a = refl
brief_boots (l ∷ ls) a =
    boots-append (brief_life l.records) (brief_lives ls)
    ∙ ap (λ w. w ++ boots (brief_lives ls)) (own_boots l.owner (brief_life l.records) (own_brief l.owner l.records a.1))
    ∙ brief_boots ls a.3

pub boot_again : (g : Option ℕ) (rs : List LogRec) → boots rs ≡ [] → greatest (boots (boot_record g ++ rs)) ≡ g
boot_again None rs e = ap greatest e
boot_again (Some n) rs e = ap (λ w. greatest (n ∷ w)) e

pub greatest_of_brief : (rs : List LogRec) → greatest (boots (brief rs)) ≡ greatest (boots rs)
greatest_of_brief rs = boot_again (greatest (boots rs)) (brief_lives (lives rs)) (brief_boots (lives rs) (lives_all [] rs tt))

pub brief_of_brief : (rs : List LogRec) → brief (brief rs) ≡ brief rs
brief_of_brief rs =
    ap (λ g. boot_record g ++ brief_lives (lives (brief rs))) (greatest_of_brief rs)
    ∙ ap (λ w. boot_record (greatest (boots rs)) ++ w) (ap brief_lives (lives_of_brief rs) ∙ briefs_again (lives rs))

pub brief_stands_alike : (rs : List LogRec) → IsStandingAlike (brief rs) rs
brief_stands_alike rs = record {
  boot = greatest_of_brief rs;
  nodes = λ n. ap (λ w. brief_lives (lives_at n w)) (lives_of_brief rs) ∙ ap brief_lives (at_again n (lives rs)) ∙ briefs_again (lives_at n (lives rs));
}
