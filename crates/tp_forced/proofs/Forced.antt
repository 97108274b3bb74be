-- What the order of a tree's records gives: nothing follows an end, a clear commitment is three records of a branch and two of a
-- root, and what left, or rolled before it was ready, is in no log.
use Rattle.std.proofs.Common.{if◌then◌else◌, ◌≡◌, ◌⊎◌, inl, inr, ℕ, Bool, true, false, refl, ap, sym, subst, ◌∙◌, Option, Some, None, List, [], ◌∷◌, ◌++◌, ◌&&◌, ◌||◌}
use Rattle.std.specs.Prelude.{not}
use Rattle.tp_names.specs.declared.identifiers.Aaid.{Aaid}
use Rattle.tp_names.specs.declared.identifiers.NodeKey.{NodeKey}
use Rattle.tp_names.specs.declared.identifiers.Addr.{Addr}
use Rattle.tp_names.specs.declared.children.Child.{Child}
use Rattle.tp_names.specs.declared.outcome.Outcome.{Outcome}
use Rattle.tp_names.specs.declared.outcome.Report.{Report}
use Rattle.tp_names.specs.Same.{is_aaid}
use Rattle.tp_logrec.specs.declared.record.LogRec.{LogRec}
use Rattle.tp_logrec.specs.Order.{is_end}
use Rattle.tp_model.specs.Parts.{Origin, Entry}
use Rattle.tp_model.specs.Recovery.{is_commit, is_root_key}
use Rattle.tp_model.specs.History.{digest, records}
use Rattle.tp_model.specs.Outcomes.{is_now, is_unchanged, has_left, has_commit_of, last_decision, decision_in, is_member, decided}
use Rattle.tp_model.specs.World.{number_of}
use Rattle.tp_model.specs.Happenings.{Happening, run}
use Rattle.tp_model.specs.Promises.{is_of_tree}
use Rattle.tp_steps.specs.Clearing.{damages_tree, has_damage}
use Rattle.tp_histories.specs.Fates.{IsFated, has_ready_in}
use Rattle.tp_reports.specs.Clearing.{has_cleared, ends_tree}
use Rattle.tp_forced.specs.TreeLog.{Stage, when, after_vote, after_order, after_record, is_of_key, if_own, next_stage, of_tree, stage, forced_of, EndsLast, CommitsIn, Of_branch, Of_root, CommitsForceSo, RollsUnforced}
use Rattle.tp_steps.proofs.log.ApartLog.{keys_equal}
use Rattle.tp_steps.proofs.lemmas.Equality.{or_case, and_left, and_right}
use Rattle.tp_steps.proofs.lemmas.Options.{some_same}
use Rattle.tp_histories.proofs.trees.Fated.{fated_law}
use Rattle.tp_histories.proofs.worlds.Good.{good_run}
use Rattle.tp_histories.proofs.worlds.Unique.{unique_run}
use Rattle.tp_runs.proofs.Hanging.{member_head}
use Rattle.tp_runs.proofs.Bare.{left_is_bare}
use Rattle.tp_agreement.proofs.Logs.{later_member}
use Rattle.tp_reports.proofs.ClearedLaw.{cleared_law}
use Rattle.tp_forced.proofs.Stages.{no_records}
use Rattle.tp_forced.proofs.TreeLogs.{staged_run}

-- ---- the newest record

pub record Newest (k : NodeKey) (r : LogRec) (rs : List LogRec) (g : Stage) : Type 0 where
  pub before : Stage
  pub stands : stage k rs ≡ Some before
  pub own : is_of_key k r ≡ true
  pub after : after_record k before r ≡ Some g

pub newest : (k : NodeKey) (r : LogRec) (rs : List LogRec) (g : Stage) → stage k (r ∷ rs) ≡ Some g → Newest k r rs g
newest k r rs g h = go (stage k rs) refl
  where
    own : (u : Stage) → next_stage k r (Some u) ≡ Some g → stage k rs ≡ Some u → (b : Bool) → is_of_key k r ≡ b → Newest k r rs g
    own u i is true j = record { before = u; stands = is; own = j; after = sym (ap (λ (b : Bool). if_own b (after_record k u r)) j) ∙ i }
    own u i is false j = absurd (let off : None ≡ Some g = sym (ap (λ (b : Bool). if_own b (after_record k u r)) j) ∙ i in cc (off))

    go : (o : Option Stage) → stage k rs ≡ o → Newest k r rs g
    go None i = absurd (let off : None ≡ Some g = sym (ap (next_stage k r) i) ∙ h in cc (off))
    go (Some u) i = own u (sym (ap (next_stage k r) i) ∙ h) i (is_of_key k r) refl

-- ---- nothing follows an end

end_over : (k : NodeKey) (g u : Stage) (r : LogRec) → is_end r ≡ true → after_record k g r ≡ Some u → u ≡ Stage.Over
end_over k g u (LogRec.End n j Outcome.Commit) h i = go g i
  where
    go : (g : Stage) → after_record k g (LogRec.End n j Outcome.Commit) ≡ Some u → u ≡ Stage.Over
    go Stage.Ordered l = sym (some_same Stage.Over u l)
    go Stage.Damaged l = sym (some_same Stage.Over u l)
    go _ l = absurd (cc (l))
end_over k g u (LogRec.End n j Outcome.Rollback) h i = go g i
  where
    go : (g : Stage) → after_record k g (LogRec.End n j Outcome.Rollback) ≡ Some u → u ≡ Stage.Over
    go Stage.Voted l = sym (some_same Stage.Over u l)
    go (Stage.Decided Outcome.Rollback) l = sym (some_same Stage.Over u l)
    go (Stage.Decided Outcome.Commit) l = absurd (cc (l))
    go Stage.Backed l = sym (some_same Stage.Over u l)
    go _ l = absurd (cc (l))
end_over k g u r h i = absurd (cc (h))

over_last : (k : NodeKey) (u : Stage) (r : LogRec) → after_record k Stage.Over r ≡ Some u → ⊥
over_last k u (LogRec.Boot n) h = cc (h)
over_last k u (LogRec.Ready n j s cs) h = cc (h)
over_last k u (LogRec.Heuristic n j o) h = cc (h)
over_last k u (LogRec.Commit n j s cs) h = cc (h)
over_last k u (LogRec.Damage n j s Outcome.Commit p cs) h = cc (h)
over_last k u (LogRec.Damage n j s Outcome.Rollback p cs) h = cc (h)
over_last k u (LogRec.End n j Outcome.Commit) h = cc (h)
over_last k u (LogRec.End n j Outcome.Rollback) h = cc (h)

last_end : (k : NodeKey) (newer older : List LogRec) (r : LogRec) (g : Stage) → is_end r ≡ true → stage k (newer ++ r ∷ older) ≡ Some g → newer ≡ []
last_end k [] older r g e h = refl
last_end k (y ∷ ys) older r g e h =
    let n : Newest k y (ys ++ r ∷ older) g = newest k y (ys ++ r ∷ older) g h in
    let none : ys ≡ [] = last_end k ys older r n.before e n.stands in
    let m : Newest k r older n.before = newest k r older n.before (ap (λ (l : List LogRec). stage k (l ++ r ∷ older)) (sym none) ∙ n.stands) in
    let over : n.before ≡ Stage.Over = end_over k m.before n.before r e m.after in
    absurd (over_last k g y (ap (λ (v : Stage). after_record k v y) (sym over) ∙ n.after))

pub ends_last : (es : List Happening) → EndsLast (run es)
ends_last es t x newer older r here split e =
    let l = staged_run es t x here in
    last_end l.key newer older r l.stage e (ap (stage l.key) (sym split) ∙ l.stands)

-- ---- what is in no log

not_true : (b : Bool) → (b ≡ true → ⊥) → b ≡ false
not_true false h = refl
not_true true h = absurd (h refl)

or_off : (x y : Bool) → (x || y) ≡ false → (x ≡ false) × (y ≡ false)
or_off false y h = (refl, h)
or_off true y h = absurd (cc (h))

-- of a tree whose log has neither Ready nor Commit
unbound : (t : Aaid) (k : NodeKey) (rs : List LogRec) (g : Stage) → has_ready_in t rs ≡ false → has_commit_of t rs ≡ false → stage k (of_tree t rs) ≡ Some g → of_tree t rs ≡ []
unbound t k [] g v c h = refl
unbound t k (r ∷ rs) g v c h = go (is_of_tree t r) refl (λ u i. unbound t k rs u (or_off _ _ v).1 (or_off _ _ c).1 i)
  where
    list : Bool → List LogRec
    list b = elim b as (λ _. List LogRec) [ true ↦ r ∷ of_tree t rs | false ↦ of_tree t rs ]

    bare : (r : LogRec) → is_of_tree t r ≡ true → has_ready_in t (r ∷ rs) ≡ false → has_commit_of t (r ∷ rs) ≡ false → after_record k Stage.Blank r ≡ Some g → ⊥
    bare (LogRec.Boot n) i v c a = cc (a)
    bare (LogRec.Ready n j s cs) i v c a = cc (i, (or_off (is_aaid t j.aaid) (has_ready_in t rs) v).0)
    bare (LogRec.Heuristic n j o) i v c a = cc (a)
    bare (LogRec.Commit n j s cs) i v c a = cc (i, (or_off (is_aaid t j.aaid) (has_commit_of t rs) c).0)
    bare (LogRec.Damage n j s Outcome.Commit p cs) i v c a = cc (a)
    bare (LogRec.Damage n j s Outcome.Rollback p cs) i v c a = cc (a)
    bare (LogRec.End n j Outcome.Commit) i v c a = cc (a)
    bare (LogRec.End n j Outcome.Rollback) i v c a = cc (a)

    go : (b : Bool) → is_of_tree t r ≡ b → ((after : Stage) → stage k (of_tree t rs) ≡ Some after → of_tree t rs ≡ []) → of_tree t (r ∷ rs) ≡ []
    go false i first = ap list i ∙ first g (sym (ap (λ (b : Bool). stage k (list b)) i) ∙ h)
    go true i first =
        let n : Newest k r (of_tree t rs) g = newest k r (of_tree t rs) g (sym (ap (λ (b : Bool). stage k (list b)) i) ∙ h) in
        let none : of_tree t rs ≡ [] = first n.before n.stands in
        let blank : Stage.Blank ≡ n.before = some_same Stage.Blank n.before (sym (ap (stage k) none) ∙ n.stands) in
        absurd (bare r i v c (ap (λ (u : Stage). after_record k u r) blank ∙ n.after))

left_member : (o : Origin) (t : Aaid) (h : List Entry) → has_left o t h ≡ true → is_member o t h ≡ true
left_member o t [] l = absurd (cc (l))
left_member o t (e ∷ h) l = elim (or_case (is_now t (digest o h).current && is_unchanged e.event) (has_left o t h) l) [
  | inl i ↦ later_member o t e h (member_head o t h (and_left (is_now t (digest o h).current) (is_unchanged e.event) i))
  | inr i ↦ later_member o t e h (left_member o t h i)
]

pub rolls_unforced : (es : List Happening) → RollsUnforced (run es)
rolls_unforced es t x here (inl gone) = no_records t (records x.origin x.history) (left_is_bare es t x (record { here = here; of_tree = left_member x.origin t x.history gone }) gone)
rolls_unforced es t x here (inr back) =
    let good = good_run es in
    let fated : IsFated x.origin x.history t = fated_law x.origin x.superior x.history t (good.fresh (number_of x) x here) (good.legal (number_of x) x here) ((unique_run es).once (number_of x) x here) in
    let l = staged_run es t x here in
    unbound t l.key (records x.origin x.history) l.stage back.1 (not_true (decided x.origin t x.history) (λ c. fated.never_both c back.0)) l.stands

-- ---- a clear commitment

-- what stands of a tree whose log has no decision and no damage
data Plain (k : NodeKey) (g : Stage) (rs : List LogRec) : Type 0 where
  Nothing : g ≡ Stage.Blank → rs ≡ [] → Plain k g rs
  Votes : (n : ℕ) (b : Addr) (cs : List Child) → g ≡ Stage.Voted → is_root_key k ≡ false → rs ≡ LogRec.Ready n k b cs ∷ [] → Plain k g rs
  Orders : (n : ℕ) (a : Option Addr) (cs : List Child) → g ≡ Stage.Ordered → is_root_key k ≡ true → rs ≡ LogRec.Commit n k a cs ∷ [] → Plain k g rs
  Orders_voted : (m n : ℕ) (a : Option Addr) (b : Addr) (cs ds : List Child) → g ≡ Stage.Ordered → is_root_key k ≡ false → rs ≡ LogRec.Commit n k a cs ∷ LogRec.Ready m k b ds ∷ [] → Plain k g rs
  Commits : g ≡ Stage.Over → CommitsIn k rs → Plain k g rs
  Rolls : (m l : ℕ) (b : Addr) (ds : List Child) → g ≡ Stage.Over → rs ≡ LogRec.End l k Outcome.Rollback ∷ LogRec.Ready m k b ds ∷ [] → Plain k g rs

consed : (r : LogRec) (rs qs : List LogRec) (x : LogRec) → r ≡ x → rs ≡ qs → r ∷ rs ≡ x ∷ qs
consed r rs qs x i j = rw (i, j) refl

when_true : (b : Bool) (g u : Stage) → when b g ≡ Some u → (b ≡ true) × (u ≡ g)
when_true true g u h = (refl, sym (some_same g u h))
when_true false g u h = absurd (cc (h))

not_false : (b : Bool) → not b ≡ true → b ≡ false
not_false false h = refl
not_false true h = absurd (cc (h))

plain_more : (k : NodeKey) (g u : Stage) (r : LogRec) (rs : List LogRec) → is_of_key k r ≡ true → after_record k g r ≡ Some u → ((n : ℕ) (j : NodeKey) (o : Outcome) → r ≡ LogRec.Heuristic n j o → ⊥)
    → ((n : ℕ) (j : NodeKey) (s : Option Addr) (o : Outcome) (p : Report) (cs : List Child) → r ≡ LogRec.Damage n j s o p cs → ⊥) → Plain k g rs → Plain k u (r ∷ rs)
plain_more k g u (LogRec.Boot n) rs own a heur harm p = absurd (cc (a))
plain_more k g u (LogRec.Heuristic n j o) rs own a heur harm p = absurd (heur n j o refl)
plain_more k g u (LogRec.Damage n j s o v cs) rs own a heur harm p = absurd (harm n j s o v cs refl)
plain_more k g u (LogRec.Ready n j s cs) rs own a heur harm p = go p
  where
    same : LogRec.Ready n j s cs ≡ LogRec.Ready n k s cs
    same = ap (λ (v : NodeKey). LogRec.Ready n v s cs) (keys_equal j k own)

    off : (v : Stage) → g ≡ v → after_vote k v ≡ None → Plain k u (LogRec.Ready n j s cs ∷ rs)
    off v i none = absurd (let no : None ≡ Some u = sym none ∙ ap (after_vote k) (sym i) ∙ a in cc (no))

    go : Plain k g rs → Plain k u (LogRec.Ready n j s cs ∷ rs)
    go (Nothing i is) =
        let w = when_true (not (is_root_key k)) Stage.Voted u (ap (after_vote k) (sym i) ∙ a) in
        Votes n s cs w.1 (not_false (is_root_key k) w.0) (consed _ rs [] _ same is)
    go (Votes m b ds i w is) = off Stage.Voted i refl
    go (Orders m b ds i w is) = off Stage.Ordered i refl
    go (Orders_voted m l b c ds qs i w is) = off Stage.Ordered i refl
    go (Commits i w) = off Stage.Over i refl
    go (Rolls m l b ds i is) = off Stage.Over i refl
plain_more k g u (LogRec.Commit n j s cs) rs own a heur harm p = go p
  where
    same : LogRec.Commit n j s cs ≡ LogRec.Commit n k s cs
    same = ap (λ (v : NodeKey). LogRec.Commit n v s cs) (keys_equal j k own)

    off : (v : Stage) → g ≡ v → after_order k v ≡ None → Plain k u (LogRec.Commit n j s cs ∷ rs)
    off v i none = absurd (let no : None ≡ Some u = sym none ∙ ap (after_order k) (sym i) ∙ a in cc (no))

    go : Plain k g rs → Plain k u (LogRec.Commit n j s cs ∷ rs)
    go (Nothing i is) =
        let w = when_true (is_root_key k) Stage.Ordered u (ap (after_order k) (sym i) ∙ a) in
        Orders n s cs w.1 w.0 (consed _ rs [] _ same is)
    go (Votes m b ds i w is) = Orders_voted m n s b cs ds (sym (some_same Stage.Ordered u (ap (after_order k) (sym i) ∙ a))) w (consed _ rs _ _ same is)
    go (Orders m b ds i w is) = off Stage.Ordered i refl
    go (Orders_voted m l b c ds qs i w is) = off Stage.Ordered i refl
    go (Commits i w) = off Stage.Over i refl
    go (Rolls m l b ds i is) = off Stage.Over i refl
plain_more k g u (LogRec.End n j Outcome.Commit) rs own a heur harm p = go p
  where
    same : LogRec.End n j Outcome.Commit ≡ LogRec.End n k Outcome.Commit
    same = ap (λ (v : NodeKey). LogRec.End n v Outcome.Commit) (keys_equal j k own)

    off : (v : Stage) → g ≡ v → after_record k v (LogRec.End n j Outcome.Commit) ≡ None → Plain k u (LogRec.End n j Outcome.Commit ∷ rs)
    off v i none = absurd (let no : None ≡ Some u = sym none ∙ ap (λ (w : Stage). after_record k w (LogRec.End n j Outcome.Commit)) (sym i) ∙ a in cc (no))

    over : g ≡ Stage.Ordered → u ≡ Stage.Over
    over i = sym (some_same Stage.Over u (ap (λ (w : Stage). after_record k w (LogRec.End n j Outcome.Commit)) (sym i) ∙ a))

    go : Plain k g rs → Plain k u (LogRec.End n j Outcome.Commit ∷ rs)
    go (Nothing i is) = off Stage.Blank i refl
    go (Votes m b ds i w is) = off Stage.Voted i refl
    go (Orders m b ds i w is) = Commits (over i) (Of_root m n b ds w (consed _ rs _ _ same is))
    go (Orders_voted m l b c ds qs i w is) = Commits (over i) (Of_branch m l n b c ds qs w (consed _ rs _ _ same is))
    go (Commits i w) = off Stage.Over i refl
    go (Rolls m l b ds i is) = off Stage.Over i refl
plain_more k g u (LogRec.End n j Outcome.Rollback) rs own a heur harm p = go p
  where
    same : LogRec.End n j Outcome.Rollback ≡ LogRec.End n k Outcome.Rollback
    same = ap (λ (v : NodeKey). LogRec.End n v Outcome.Rollback) (keys_equal j k own)

    off : (v : Stage) → g ≡ v → after_record k v (LogRec.End n j Outcome.Rollback) ≡ None → Plain k u (LogRec.End n j Outcome.Rollback ∷ rs)
    off v i none = absurd (let no : None ≡ Some u = sym none ∙ ap (λ (w : Stage). after_record k w (LogRec.End n j Outcome.Rollback)) (sym i) ∙ a in cc (no))

    go : Plain k g rs → Plain k u (LogRec.End n j Outcome.Rollback ∷ rs)
    go (Nothing i is) = off Stage.Blank i refl
    go (Votes m b ds i w is) = Rolls m n b ds (sym (some_same Stage.Over u (ap (λ (v : Stage). after_record k v (LogRec.End n j Outcome.Rollback)) (sym i) ∙ a))) (consed _ rs _ _ same is)
    go (Orders m b ds i w is) = off Stage.Ordered i refl
    go (Orders_voted m l b c ds qs i w is) = off Stage.Ordered i refl
    go (Commits i w) = off Stage.Over i refl
    go (Rolls m l b ds i is) = off Stage.Over i refl

-- an End of a commitment
abbrev is_clear_end : LogRec → Bool
is_clear_end (LogRec.Boot n) = false
is_clear_end (LogRec.Ready n k s cs) = false
is_clear_end (LogRec.Heuristic n k o) = false
is_clear_end (LogRec.Commit n k s cs) = false
is_clear_end (LogRec.Damage n k s o r cs) = false
is_clear_end (LogRec.End n k o) = is_commit o

abbrev has_clear_end : List LogRec → Bool
has_clear_end [] = false
has_clear_end (r ∷ rs) = is_clear_end r || has_clear_end rs

ends_here : (t : Aaid) (r : LogRec) → ends_tree t (Some r) ≡ true → (is_of_tree t r ≡ true) × (is_clear_end r ≡ true)
ends_here t (LogRec.End n k o) h = (and_right (is_commit o) (is_aaid t k.aaid) h, and_left (is_commit o) (is_aaid t k.aaid) h)
ends_here t _ h = absurd (cc (h))

cleared_ends : (t : Aaid) (rs : List LogRec) → has_cleared t rs ≡ true → has_clear_end (of_tree t rs) ≡ true
cleared_ends t [] h = absurd (cc (h))
cleared_ends t (r ∷ rs) h = go (is_of_tree t r) refl (or_case (ends_tree t (Some r) && not (has_damage t rs)) (has_cleared t rs) h) (cleared_ends t rs)
  where
    list : Bool → List LogRec
    list b = elim b as (λ _. List LogRec) [ true ↦ r ∷ of_tree t rs | false ↦ of_tree t rs ]

    go : (b : Bool) → is_of_tree t r ≡ b → ((ends_tree t (Some r) && not (has_damage t rs)) ≡ true) ⊎ (has_cleared t rs ≡ true) → (has_cleared t rs ≡ true → has_clear_end (of_tree t rs) ≡ true) → has_clear_end (of_tree t (r ∷ rs)) ≡ true
    go true i (inl e) rest =
        let at : is_clear_end r ≡ true = (ends_here t r (and_left (ends_tree t (Some r)) (not (has_damage t rs)) e)).1 in
        ap (λ (b : Bool). has_clear_end (list b)) i ∙ ap (λ (b : Bool). b || has_clear_end (of_tree t rs)) at
    go true i (inr e) rest = ap (λ (b : Bool). has_clear_end (list b)) i ∙ later (is_clear_end r) (has_clear_end (of_tree t rs)) (rest e)
      where
        later : (x y : Bool) → y ≡ true → (x || y) ≡ true
        later true y j = refl
        later false y j = j
    go false i (inl e) rest = absurd (cc (i, (ends_here t r (and_left (ends_tree t (Some r)) (not (has_damage t rs)) e)).0))
    go false i (inr e) rest = ap (λ (b : Bool). has_clear_end (list b)) i ∙ rest e

-- of a tree whose log has no decision and no damage
plain_log : (t : Aaid) (k : NodeKey) (rs : List LogRec) (g : Stage) → has_damage t rs ≡ false → last_decision t rs ≡ None → stage k (of_tree t rs) ≡ Some g → Plain k g (of_tree t rs)
plain_log t k [] g harm heur h = Nothing (sym (some_same Stage.Blank g h)) refl
plain_log t k (r ∷ rs) g harm heur h = go (is_of_tree t r) refl (λ u i. plain_log t k rs u whole.1 free.1 i)
  where
    list : Bool → List LogRec
    list b = elim b as (λ _. List LogRec) [ true ↦ r ∷ of_tree t rs | false ↦ of_tree t rs ]

    undecided : (o : Option Outcome) → decision_in t r ≡ o → (decision_in t r ≡ None) × (last_decision t rs ≡ None)
    undecided None i = (i, sym (ap (λ (v : Option Outcome). elim v as (λ _. Option Outcome) [ Some u ↦ Some u | None ↦ last_decision t rs ]) i) ∙ heur)
    undecided (Some u) i = absurd (let off : Some u ≡ None = sym (ap (λ (v : Option Outcome). elim v as (λ _. Option Outcome) [ Some u ↦ Some u | None ↦ last_decision t rs ]) i) ∙ heur in cc (off))

    free : (decision_in t r ≡ None) × (last_decision t rs ≡ None)
    free = undecided (decision_in t r) refl

    whole : (damages_tree t (Some r) ≡ false) × (has_damage t rs ≡ false)
    whole = or_off (damages_tree t (Some r)) (has_damage t rs) harm

    go : (b : Bool) → is_of_tree t r ≡ b → ((u : Stage) → stage k (of_tree t rs) ≡ Some u → Plain k u (of_tree t rs)) → Plain k g (of_tree t (r ∷ rs))
    go false i rest = subst (λ (l : List LogRec). Plain k g l) (sym (ap list i)) (rest g (sym (ap (λ (b : Bool). stage k (list b)) i) ∙ h))
    go true i rest =
        let n : Newest k r (of_tree t rs) g = newest k r (of_tree t rs) g (sym (ap (λ (b : Bool). stage k (list b)) i) ∙ h) in
        subst (λ (l : List LogRec). Plain k g l) (sym (ap list i))
        (plain_more k n.before g r (of_tree t rs) n.own n.after (no_heuristic r i free.0) (no_damage r i whole.0) (rest n.before n.stands))
      where
        no_heuristic : (r : LogRec) → is_of_tree t r ≡ true → decision_in t r ≡ None → (n : ℕ) (j : NodeKey) (o : Outcome) → r ≡ LogRec.Heuristic n j o → ⊥
        no_heuristic r own none n j o is =
            let of : is_aaid t j.aaid ≡ true = ap (is_of_tree t) (sym is) ∙ own in
            let off : Some o ≡ None = sym (ap (λ (b : Bool). if b then Some o else None) of) ∙ ap (decision_in t) (sym is) ∙ none in
            cc (off)

        no_damage : (r : LogRec) → is_of_tree t r ≡ true → damages_tree t (Some r) ≡ false → (n : ℕ) (j : NodeKey) (s : Option Addr) (o : Outcome) (p : Report) (cs : List Child) → r ≡ LogRec.Damage n j s o p cs → ⊥
        no_damage r own none n j s o p cs is = cc (ap (is_of_tree t) (sym is) ∙ own, ap (λ (v : LogRec). damages_tree t (Some v)) (sym is) ∙ none)

pub commits_force_so : (es : List Happening) → CommitsForceSo (run es)
commits_force_so es t x here clear undecided =
    let good = good_run es in
    let c = cleared_law x.origin x.superior x.history t (good.fresh (number_of x) x here) (good.legal (number_of x) x here) ((unique_run es).once (number_of x) x here) in
    let ends : has_cleared t (records x.origin x.history) ≡ true = c.completed clear in
    let l = staged_run es t x here in
    (l.key, go l.key l.stage (plain_log t l.key (records x.origin x.history) l.stage (c.clear_whole ends) undecided l.stands) (cleared_ends t (records x.origin x.history) ends))
  where
    go : (k : NodeKey) (g : Stage) → Plain k g (forced_of t x) → has_clear_end (forced_of t x) ≡ true → CommitsIn k (forced_of t x)
    go k g (Commits i w) e = w
    go k g (Nothing i is) e = absurd (let off : false ≡ true = sym (ap has_clear_end is) ∙ e in cc (off))
    go k g (Votes n b cs i w is) e = absurd (let off : false ≡ true = sym (ap has_clear_end is) ∙ e in cc (off))
    go k g (Orders n a cs i w is) e = absurd (let off : false ≡ true = sym (ap has_clear_end is) ∙ e in cc (off))
    go k g (Orders_voted m n a b cs ds i w is) e = absurd (let off : false ≡ true = sym (ap has_clear_end is) ∙ e in cc (off))
    go k g (Rolls m l b ds i is) e = absurd (let off : false ≡ true = sym (ap has_clear_end is) ∙ e in cc (off))
