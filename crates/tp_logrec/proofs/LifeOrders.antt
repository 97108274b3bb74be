-- The brief of one life in order is itself in order, and ends with the same record.
use Rattle.std.proofs.Common.{◌≡◌, ◌≤◌, ℕ, Option, Some, None, List, [], ◌∷◌, ◌++◌, refl, sym, subst, ◌∙◌, ap, append_assoc, append-nil, arith, Bool, true, false}
use Rattle.std.specs.Prelude.{◌&&◌, ◌||◌, nat_le}
use Rattle.std.proofs.lemmas.Bool.Decides.{nat_tests}
use Rattle.tp_names.specs.declared.identifiers.Addr.{Addr}
use Rattle.tp_names.specs.declared.identifiers.BranchId.{BranchId}
use Rattle.tp_names.specs.declared.identifiers.NodeKey.{NodeKey}
use Rattle.tp_names.specs.declared.children.Child.{Child}
use Rattle.tp_names.specs.declared.outcome.Outcome.{Outcome}
use Rattle.tp_names.specs.declared.outcome.Report.{Report}
use Rattle.tp_names.proofs.Sames.{both}
use Rattle.tp_logrec.specs.declared.record.LogRec.{LogRec}
use Rattle.tp_logrec.specs.Order.{Owner, is_end, is_ready, is_heuristic, is_commit, is_damage, is_as_ready, are_among, holds, may_owe, has_superior, Before, may_follow, last_or, last, those, last_only, brief_life}
use Rattle.tp_logrec.proofs.Sames.{among_through}
use Rattle.tp_logrec.proofs.Frees.{and_true, and_assoc}
use Rattle.tp_logrec.proofs.Stands.{those-append}
use Rattle.tp_logrec.proofs.Briefs.{AllOwn, AllAre, only, last_only_is, own_last, those_all, those_none, else_ready, else_heuristic, else_commit}

-- what the rules read for a life's record, where the node was free when the life began
abbrev pub in_life : ℕ → Option LogRec → Option LogRec → Before
in_life boot last ready = record { begun = true; boot = boot; free = true; last = last; ready = ready }

abbrev pub ready_now : Option LogRec → LogRec → Option LogRec
ready_now before r = elim (is_ready r) [ true ↦ Some r | false ↦ before ]

pub and_both : (a b : Bool) → a ≡ true → b ≡ true → (a && b) ≡ true
and_both a b e f = ap (λ x. x && b) e ∙ f

-- each follows those before it
abbrev pub runs : ℕ → Option LogRec → Option LogRec → List LogRec → Bool
runs boot last ready [] = true
runs boot last ready (r ∷ rs) = may_follow (in_life boot last ready) r && runs boot (Some r) (ready_now ready r) rs

pub runs_more : (boot : ℕ) (last ready : Option LogRec) (rs : List LogRec) (r : LogRec)
    → runs boot last ready (rs ++ r ∷ []) ≡ (runs boot last ready rs && may_follow (in_life boot (last_or last rs) (last_or ready (those is_ready rs))) r)
runs_more boot last ready [] r = and_true (may_follow (in_life boot last ready) r)
runs_more boot last ready (q ∷ qs) r =
    let first = may_follow (in_life boot last ready) q in
    ap (λ b. first && b) (runs_more boot (Some q) (ready_now ready q) qs r)
    ∙ sym (and_assoc first (runs boot (Some q) (ready_now ready q) qs) (may_follow (in_life boot (last_or (Some q) qs) (last_or (ready_now ready q) (those is_ready qs))) r))
    ∙ ap (λ d. (first && runs boot (Some q) (ready_now ready q) qs) && may_follow (in_life boot (last_or (Some q) qs) d) r) (go (is_ready q))
  where
    go : (b : Bool) → last_or (elim b as (λ _. Option LogRec) [ true ↦ Some q | false ↦ ready ]) (those is_ready qs)
        ≡ last_or ready (elim b as (λ _. List LogRec) [ true ↦ q ∷ those is_ready qs | false ↦ those is_ready qs ])
    go true = refl
    go false = refl

-- a rule that holds goes on to hold after a later Boot
pub may_later : (m n : ℕ) (last ready : Option LogRec) (r : LogRec) → m ≤ n → may_follow (in_life m last ready) r ≡ true → may_follow (in_life n last ready) r ≡ true
may_later m n last ready (LogRec.Boot b) le e = e
may_later m n last ready (LogRec.Ready b k a cs) le e = e
may_later m n last ready (LogRec.Heuristic b k o) le e = e
may_later m n last ready (LogRec.Commit b k a cs) le e = go k.branch (elim last as (λ _. Bool) [ None ↦ true | Some r ↦ false ]) ((holds last is_ready || holds last is_heuristic) && holds ready (is_as_ready a cs)) e
  where
    up : (x : Bool) (c : ℕ) → (x && nat_le c m) ≡ true → (x && nat_le c n) ≡ true
    up x c f = let p = both x (nat_le c m) f in let y : nat_le c n ≡ true = grind (arith, nat_tests, p.1, le) in and_both x (nat_le c n) p.0 y

    go : (b : Option BranchId) (x y : Bool) → elim b as (λ _. Bool) [ None ↦ x && nat_le k.aaid.mark.boot m | Some c ↦ y ] ≡ true → elim b as (λ _. Bool) [ None ↦ x && nat_le k.aaid.mark.boot n | Some c ↦ y ] ≡ true
    go None x y f = up x k.aaid.mark.boot f
    go (Some c) x y f = f
may_later m n last ready (LogRec.Damage b k a o p cs) le e = e
may_later m n last ready (LogRec.End b k o) le e = e

pub runs_later : (m n : ℕ) (last ready : Option LogRec) (rs : List LogRec) → m ≤ n → runs m last ready rs ≡ true → runs n last ready rs ≡ true
runs_later m n last ready [] le e = refl
runs_later m n last ready (r ∷ rs) le e =
    let p = both (may_follow (in_life m last ready) r) (runs m (Some r) (ready_now ready r) rs) e in
    and_both (may_follow (in_life n last ready) r) (runs n (Some r) (ready_now ready r) rs) (may_later m n last ready r le p.0) (runs_later m n (Some r) (ready_now ready r) rs le p.1)

-- ---- after a Commit, or a Damage with commit

pub never : (b : Option BranchId) → elim b as (λ _. Bool) [ None ↦ false | Some c ↦ false ] ≡ true → ⊥
never None e = cc
never (Some b) e = cc

pub owing_next : (boot : ℕ) (q : LogRec) (ready : Option LogRec) (r : LogRec) → may_owe [] q ≡ true → is_end r ≡ false → may_follow (in_life boot (Some q) ready) r ≡ true
    → (is_damage r ≡ true) × (may_owe [] r ≡ true)
owing_next boot (LogRec.Commit n k a cs) ready (LogRec.Boot m) owing alive e = absurd cc
owing_next boot (LogRec.Commit n k a cs) ready (LogRec.Ready m j b ds) owing alive e = absurd cc
owing_next boot (LogRec.Commit n k a cs) ready (LogRec.Heuristic m j h) owing alive e = absurd cc
owing_next boot (LogRec.Commit n k a cs) ready (LogRec.Commit m j b ds) owing alive e = absurd (never j.branch e)
owing_next boot (LogRec.Commit n k a cs) ready (LogRec.Damage m j b Outcome.Commit p ds) owing alive e = (refl, refl)
owing_next boot (LogRec.Commit n k a cs) ready (LogRec.Damage m j b Outcome.Rollback p ds) owing alive e = absurd cc
owing_next boot (LogRec.Commit n k a cs) ready (LogRec.End m j h) owing alive e = absurd cc
owing_next boot (LogRec.Damage n k a Outcome.Commit p cs) ready (LogRec.Boot m) owing alive e = absurd cc
owing_next boot (LogRec.Damage n k a Outcome.Commit p cs) ready (LogRec.Ready m j b ds) owing alive e = absurd cc
owing_next boot (LogRec.Damage n k a Outcome.Commit p cs) ready (LogRec.Heuristic m j h) owing alive e = absurd cc
owing_next boot (LogRec.Damage n k a Outcome.Commit p cs) ready (LogRec.Commit m j b ds) owing alive e = absurd (never j.branch e)
owing_next boot (LogRec.Damage n k a Outcome.Commit p cs) ready (LogRec.Damage m j b Outcome.Commit q ds) owing alive e = (refl, refl)
owing_next boot (LogRec.Damage n k a Outcome.Commit p cs) ready (LogRec.Damage m j b Outcome.Rollback q ds) owing alive e = absurd cc
owing_next boot (LogRec.Damage n k a Outcome.Commit p cs) ready (LogRec.End m j h) owing alive e = absurd cc
owing_next boot _ ready r owing alive e = absurd cc

pub owe_through : (q : LogRec) (cs ds : List Child) → may_owe cs q ≡ true → are_among ds cs ≡ true → may_owe ds q ≡ true
owe_through (LogRec.Commit n k a es) cs ds e f = among_through ds cs es f e
owe_through (LogRec.Damage n k a Outcome.Commit p es) cs ds e f = among_through ds cs es f e
owe_through _ cs ds e f = absurd cc

-- a later Damage may stand where an earlier one stood
pub owing_through : (boot : ℕ) (q r d : LogRec) (ready : Option LogRec) → may_owe [] q ≡ true → is_end r ≡ false → is_end d ≡ false
    → may_follow (in_life boot (Some q) ready) r ≡ true → may_follow (in_life boot (Some r) (ready_now ready r)) d ≡ true → may_follow (in_life boot (Some q) ready) d ≡ true
owing_through boot q r d ready owing alive living e f =
    let p = owing_next boot q ready r owing alive e in
    let s = owing_next boot r (ready_now ready r) d p.1 living f in
    go r d p.0 p.1 s.0 s.1 e f
  where
    go : (r d : LogRec) → is_damage r ≡ true → may_owe [] r ≡ true → is_damage d ≡ true → may_owe [] d ≡ true
        → may_follow (in_life boot (Some q) ready) r ≡ true → may_follow (in_life boot (Some r) (ready_now ready r)) d ≡ true → may_follow (in_life boot (Some q) ready) d ≡ true
    go (LogRec.Damage n k a Outcome.Commit p cs) (LogRec.Damage m j b Outcome.Commit s ds) x y z w e f =
        let s = both (may_owe cs q) (has_superior k a ready) e in
        let t = both (are_among ds cs) (has_superior j b ready) f in
        and_both (may_owe ds q) (has_superior j b ready) (owe_through q cs ds s.0 t.0) t.1
    go _ _ x y z w e f = absurd cc

pub all_damage : (boot : ℕ) (q : LogRec) (ready : Option LogRec) (o : Owner) (rs : List LogRec) → may_owe [] q ≡ true → AllOwn o rs → runs boot (Some q) ready rs ≡ true → AllAre is_damage true rs
all_damage boot q ready o [] owing own e = tt
all_damage boot q ready o (r ∷ rs) owing own e =
    let p = both (may_follow (in_life boot (Some q) ready) r) (runs boot (Some r) (ready_now ready r) rs) e in
    let d = owing_next boot q ready r owing own.1 p.0 in
    (d.0, all_damage boot r (ready_now ready r) o rs d.1 own.2 p.1)

pub runs_short : (boot : ℕ) (q : LogRec) (ready : Option LogRec) (o : Owner) (rs : List LogRec) → may_owe [] q ≡ true → AllOwn o rs → runs boot (Some q) ready rs ≡ true → runs boot (Some q) ready (last_only rs) ≡ true
runs_short boot q ready o [] owing own e = refl
runs_short boot q ready o (r ∷ []) owing own e = e
runs_short boot q ready o (r ∷ s ∷ rs) owing own e =
    let p = both (may_follow (in_life boot (Some q) ready) r) (runs boot (Some r) (ready_now ready r) (s ∷ rs)) e in
    let d = owing_next boot q ready r owing own.1 p.0 in
    let rest = runs_short boot r (ready_now ready r) o (s ∷ rs) d.1 own.2 p.1 in
    subst (λ (w : List LogRec). runs boot (Some q) ready w ≡ true) (sym (last_only_is (s ∷ rs)))
    (skip (last (s ∷ rs)) (own_last o None (s ∷ rs) tt own.2) p.0 (subst (λ (w : List LogRec). runs boot (Some r) (ready_now ready r) w ≡ true) (last_only_is (s ∷ rs)) rest))
  where
    skip : (x : Option LogRec) → AllOwn o (only x) → may_follow (in_life boot (Some q) ready) r ≡ true → runs boot (Some r) (ready_now ready r) (only x) ≡ true → runs boot (Some q) ready (only x) ≡ true
    skip None mine first f = refl
    skip (Some d) mine first f =
        let p = both (may_follow (in_life boot (Some r) (ready_now ready r)) d) true f in
        and_both (may_follow (in_life boot (Some q) ready) d) true (owing_through boot q r d ready owing own.1 mine.1 first p.0) refl

-- ---- the brief of a life

pub last_short : (q : LogRec) (rs : List LogRec) → last_or (Some q) (last_only rs) ≡ last_or (Some q) rs
last_short q [] = refl
last_short q (r ∷ rs) = ap (λ w. last_or (Some q) w) (last_only_is (r ∷ rs)) ∙ go r rs
  where
    go : (r : LogRec) (rs : List LogRec) → last_or (Some q) (only (last_or (Some r) rs)) ≡ last_or (Some r) rs
    go r [] = refl
    go r (s ∷ rs) = go s rs

pub last_behind : (b : Option LogRec) (fs : List LogRec) (q : LogRec) (rs : List LogRec) → last_or b (fs ++ q ∷ rs) ≡ last_or (Some q) rs
last_behind b [] q rs = refl
last_behind b (f ∷ fs) q rs = last_behind (Some f) fs q rs

pub are_others : (test : LogRec → Bool) → ((r : LogRec) → is_damage r ≡ true → test r ≡ false) → (rs : List LogRec) → AllAre is_damage true rs → AllAre test false rs
are_others test says [] a = tt
are_others test says (r ∷ rs) a = (says r a.0, are_others test says rs a.1)

-- records of a life, and Damages after them
pub brief_behind : (fs ds : List LogRec) → AllAre is_damage false fs → AllAre is_damage true ds → brief_life (fs ++ ds) ≡ (those is_ready fs ++ those is_heuristic fs ++ those is_commit fs) ++ last_only ds
brief_behind fs ds a b =
    ap (λ w. w ++ those is_heuristic (fs ++ ds) ++ those is_commit (fs ++ ds) ++ last_only (those is_damage (fs ++ ds))) (none is_ready (else_ready is_damage (λ n k a cs. refl)))
    ∙ ap (λ w. those is_ready fs ++ w ++ those is_commit (fs ++ ds) ++ last_only (those is_damage (fs ++ ds))) (none is_heuristic (else_heuristic is_damage (λ n k o. refl)))
    ∙ ap (λ w. those is_ready fs ++ those is_heuristic fs ++ w ++ last_only (those is_damage (fs ++ ds))) (none is_commit (else_commit is_damage (λ n k a cs. refl)))
    ∙ ap (λ w. those is_ready fs ++ those is_heuristic fs ++ those is_commit fs ++ last_only w) (those-append is_damage fs ds ∙ ap (λ w. w ++ those is_damage ds) (those_none is_damage fs a) ∙ those_all is_damage ds b)
  where
    none : (test : LogRec → Bool) → ((r : LogRec) → is_damage r ≡ true → test r ≡ false) → those test (fs ++ ds) ≡ those test fs
    none test says = those-append test fs ds ∙ ap (λ w. those test fs ++ w) (those_none test ds (are_others test says ds b)) ∙ append-nil (those test fs)

pub record IsBriefed (boot : ℕ) (rs : List LogRec) : Type 0 where
  pub runs : runs boot None None (brief_life rs) ≡ true
  pub last : last (brief_life rs) ≡ last rs

pub short_behind : (boot : ℕ) (last ready : Option LogRec) (o : Owner) (fs : List LogRec) (q : LogRec) (ds : List LogRec) → may_owe [] q ≡ true → AllOwn o (fs ++ q ∷ ds) → runs boot last ready (fs ++ q ∷ ds) ≡ true
    → AllAre is_damage true ds × (runs boot last ready (fs ++ q ∷ last_only ds) ≡ true)
short_behind boot last ready o [] q ds owing own e =
    let p = both (may_follow (in_life boot last ready) q) (runs boot (Some q) (ready_now ready q) ds) e in (
      all_damage boot q (ready_now ready q) o ds owing own.2 p.1,
      and_both (may_follow (in_life boot last ready) q) (runs boot (Some q) (ready_now ready q) (last_only ds)) p.0 (runs_short boot q (ready_now ready q) o ds owing own.2 p.1),
    )
short_behind boot last ready o (f ∷ fs) q ds owing own e =
    let p = both (may_follow (in_life boot last ready) f) (runs boot (Some f) (ready_now ready f) (fs ++ q ∷ ds)) e in
    let rest = short_behind boot (Some f) (ready_now ready f) o fs q ds owing own.2 p.1 in
    (rest.0, and_both (may_follow (in_life boot last ready) f) (runs boot (Some f) (ready_now ready f) (fs ++ q ∷ last_only ds)) p.0 rest.1)

-- records in the order of a brief, the last of which may owe, and Damages after them
pub briefed : (boot : ℕ) (o : Owner) (fs : List LogRec) (q : LogRec) (ds : List LogRec) → may_owe [] q ≡ true → AllAre is_damage false (fs ++ q ∷ [])
    → those is_ready (fs ++ q ∷ []) ++ those is_heuristic (fs ++ q ∷ []) ++ those is_commit (fs ++ q ∷ []) ≡ fs ++ q ∷ []
    → AllOwn o (fs ++ q ∷ ds) → runs boot None None (fs ++ q ∷ ds) ≡ true → IsBriefed boot (fs ++ q ∷ ds)
briefed boot o fs q ds owing others sorted own e =
    let p = short_behind boot None None o fs q ds owing own e in
    let whole : fs ++ q ∷ ds ≡ (fs ++ q ∷ []) ++ ds = sym (append_assoc fs (q ∷ []) ds) in
    let short : brief_life (fs ++ q ∷ ds) ≡ fs ++ q ∷ last_only ds =
    ap brief_life whole ∙ brief_behind (fs ++ q ∷ []) ds others p.0 ∙ ap (λ w. w ++ last_only ds) sorted ∙ append_assoc fs (q ∷ []) (last_only ds) in
    record {
      runs = ap (λ w. runs boot None None w) short ∙ p.1;
      last = ap last short ∙ last_behind None fs q (last_only ds) ∙ last_short q ds ∙ sym (last_behind None fs q ds);
    }

pub rolled_back : (boot : ℕ) (n : ℕ) (k : NodeKey) (a : Option Addr) (p : Report) (cs : List Child) (ready : Option LogRec) (r : LogRec) → is_end r ≡ false
    → may_follow (in_life boot (Some (LogRec.Damage n k a Outcome.Rollback p cs)) ready) r ≡ true → ⊥
rolled_back boot n k a p cs ready (LogRec.Commit m j b ds) alive e = never j.branch e
rolled_back boot n k a p cs ready (LogRec.Damage m j b Outcome.Commit q ds) alive e = cc
rolled_back boot n k a p cs ready (LogRec.Damage m j b Outcome.Rollback q ds) alive e = cc
rolled_back boot n k a p cs ready _ alive e = cc

pub life_briefed : (boot : ℕ) (o : Owner) (rs : List LogRec) → AllOwn o rs → runs boot None None rs ≡ true → IsBriefed boot rs
life_briefed boot o [] own e = record { runs = refl; last = refl }
life_briefed boot o (LogRec.Boot n ∷ rs) own e = absurd cc
life_briefed boot o (LogRec.Heuristic n k h ∷ rs) own e = absurd cc
life_briefed boot o (LogRec.Commit n k a cs ∷ rs) own e = briefed boot o [] (LogRec.Commit n k a cs) rs refl (refl, tt) refl own e
life_briefed boot o (LogRec.Damage n k a Outcome.Commit p cs ∷ rs) own e = absurd cc
life_briefed boot o (LogRec.Damage n k a Outcome.Rollback p cs ∷ rs) own e = absurd cc
life_briefed boot o (LogRec.End n k h ∷ rs) own e = absurd cc
life_briefed boot o (LogRec.Ready n k a cs ∷ []) own e = record { runs = refl; last = refl }
life_briefed boot o (LogRec.Ready n k a cs ∷ LogRec.Boot m ∷ rs) own e = absurd cc
life_briefed boot o (LogRec.Ready n k a cs ∷ LogRec.Ready m j b ds ∷ rs) own e = absurd cc
life_briefed boot o (LogRec.Ready n k a cs ∷ LogRec.Commit m j b ds ∷ rs) own e = briefed boot o (LogRec.Ready n k a cs ∷ []) (LogRec.Commit m j b ds) rs refl (refl, (refl, tt)) refl own e
life_briefed boot o (LogRec.Ready n k a cs ∷ LogRec.Damage m j b Outcome.Commit p ds ∷ rs) own e = absurd cc
life_briefed boot o (LogRec.Ready n k a cs ∷ LogRec.Damage m j b Outcome.Rollback p ds ∷ rs) own e = absurd cc
life_briefed boot o (LogRec.Ready n k a cs ∷ LogRec.End m j h ∷ rs) own e = absurd (let clash : true ≡ false = own.2.1 in cc)
life_briefed boot o (LogRec.Ready n k a cs ∷ LogRec.Heuristic m j h ∷ []) own e = record { runs = refl; last = refl }
life_briefed boot o (LogRec.Ready n k a cs ∷ LogRec.Heuristic m j h ∷ LogRec.Boot i ∷ rs) own e = absurd cc
life_briefed boot o (LogRec.Ready n k a cs ∷ LogRec.Heuristic m j h ∷ LogRec.Ready i l b ds ∷ rs) own e = absurd cc
life_briefed boot o (LogRec.Ready n k a cs ∷ LogRec.Heuristic m j h ∷ LogRec.Heuristic i l g ∷ rs) own e = absurd cc
life_briefed boot o (LogRec.Ready n k a cs ∷ LogRec.Heuristic m j h ∷ LogRec.Commit i l b ds ∷ rs) own e =
    briefed boot o (LogRec.Ready n k a cs ∷ LogRec.Heuristic m j h ∷ []) (LogRec.Commit i l b ds) rs refl (refl, (refl, (refl, tt))) refl own e
life_briefed boot o (LogRec.Ready n k a cs ∷ LogRec.Heuristic m j h ∷ LogRec.Damage i l b Outcome.Commit p ds ∷ rs) own e = absurd cc
life_briefed boot o (LogRec.Ready n k a cs ∷ LogRec.Heuristic m j h ∷ LogRec.Damage i l b Outcome.Rollback p ds ∷ []) own e = record { runs = e; last = refl }
life_briefed boot o (LogRec.Ready n k a cs ∷ LogRec.Heuristic m j h ∷ LogRec.Damage i l b Outcome.Rollback p ds ∷ r ∷ rs) own e =
    let d = LogRec.Damage i l b Outcome.Rollback p ds in
    let ready : Option LogRec = Some (LogRec.Ready n k a cs) in
    let s = both (may_follow (in_life boot (Some (LogRec.Heuristic m j h)) ready) d) (runs boot (Some d) ready (r ∷ rs)) e in
    let t = both (may_follow (in_life boot (Some d) ready) r) (runs boot (Some r) (ready_now ready r) rs) s.1 in
    absurd (rolled_back boot i l b p ds ready r own.2.2.2.1 t.0)
life_briefed boot o (LogRec.Ready n k a cs ∷ LogRec.Heuristic m j h ∷ LogRec.End i l g ∷ rs) own e = absurd (let clash : true ≡ false = own.2.2.1 in cc)
