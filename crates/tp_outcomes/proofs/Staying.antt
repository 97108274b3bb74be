-- In every run, what is so of a node in a tree stays so, whatever happens after it.
use Rattle.std.proofs.Common.{if◌then◌else◌, ◌≡◌, ◌⊎◌, inl, inr, ℕ, Bool, true, false, refl, ap, sym, subst, ◌∙◌, arith, Option, Some, None, List, [], ◌∷◌, ◌++◌, ◌||◌}
use Rattle.tp_names.specs.declared.identifiers.Aaid.{Aaid}
use Rattle.tp_names.specs.declared.identifiers.NodeKey.{NodeKey}
use Rattle.tp_names.specs.declared.identifiers.Addr.{Addr}
use Rattle.tp_names.specs.declared.children.Child.{Child}
use Rattle.tp_names.specs.declared.outcome.Outcome.{Outcome}
use Rattle.tp_names.specs.Same.{is_aaid}
use Rattle.tp_logrec.specs.declared.record.LogRec.{LogRec}
use Rattle.tp_model.specs.declared.arc.Phase.{Phase}
use Rattle.tp_model.specs.Parts.{Origin, Out, Entry, Current}
use Rattle.tp_model.specs.Dialogues.{is_rolling}
use Rattle.tp_model.specs.Node.{phase_of}
use Rattle.tp_model.specs.History.{digest, records, with_rec}
use Rattle.tp_model.specs.Outcomes.{is_now, is_member, is_commit_of, has_commit_of, last_decision, decision_in, decided, decision, rolled, has_left, told, completed_none}
use Rattle.tp_model.specs.World.{Node, number_of, find_node}
use Rattle.tp_model.specs.Happenings.{Happening, run}
use Rattle.tp_model.specs.Promises.{is_of_tree, has_told_in}
use Rattle.tp_model.specs.Legal.{IsGrown}
use Rattle.tp_histories.specs.Members.{IsOnce}
use Rattle.tp_histories.specs.Fates.{IsFated}
use Rattle.tp_forced.specs.TreeLog.{Stage, after_record, of_tree, stage}
use Rattle.tp_outcomes.specs.Staying.{GoesOn, StaysSo, OutcomesStay}
use Rattle.tp_steps.proofs.branches.Rolls.{phase_at}
use Rattle.tp_steps.proofs.lemmas.Options.{some_same}
use Rattle.tp_steps.proofs.lemmas.Words.{commit_more}
use Rattle.tp_histories.proofs.trees.Fated.{fated_law}
use Rattle.tp_histories.proofs.worlds.Good.{good_run}
use Rattle.tp_histories.proofs.worlds.Unique.{unique_run}
use Rattle.tp_agreement.proofs.OwingLaw.{rolled_more}
use Rattle.tp_agreement.proofs.Logs.{later_member}
use Rattle.tp_forced.proofs.Stages.{is_away, fits}
use Rattle.tp_forced.proofs.TreeLogs.{IsStagedLog, staged_law}
use Rattle.tp_forced.proofs.Forced.{newest}
use Rattle.tp_outcomes.proofs.GoingOn.{onward_run}

-- ---- a decision stands after a Ready, and nothing else

record OnlyReady (rs : List LogRec) : Type 0 where
  node : ℕ
  key : NodeKey
  superior : Addr
  children : List Child
  is : rs ≡ LogRec.Ready node key superior children ∷ []

blank_none : (k : NodeKey) (rs : List LogRec) → stage k rs ≡ Some Stage.Blank → rs ≡ []
blank_none k [] h = refl
blank_none k (r ∷ rs) h = let n = newest k r rs Stage.Blank h in absurd (no_blank n.before r n.after)
  where
    no_blank : (g : Stage) (r : LogRec) → after_record k g r ≡ Some Stage.Blank → ⊥
    no_blank g r i = grind (arith, i)

voted_only : (k : NodeKey) (rs : List LogRec) → stage k rs ≡ Some Stage.Voted → OnlyReady rs
voted_only k [] h = absurd (cc (h))
voted_only k (r ∷ rs) h = let n = newest k r rs Stage.Voted h in go r n.before n.after n.stands
  where
    go : (r : LogRec) (g : Stage) → after_record k g r ≡ Some Stage.Voted → stage k rs ≡ Some g → OnlyReady (r ∷ rs)
    go (LogRec.Ready n j s cs) Stage.Blank i j2 = record { node = n; key = j; superior = s; children = cs; is = ap (λ (l : List LogRec). LogRec.Ready n j s cs ∷ l) (blank_none k rs j2) }
    go r g i j2 = absurd (grind (arith, i))

-- a Heuristic of the tree stands on a Ready alone
on_ready : (k : NodeKey) (n : ℕ) (j : NodeKey) (o : Outcome) (rs : List LogRec) (g : Stage) → stage k (LogRec.Heuristic n j o ∷ rs) ≡ Some g → OnlyReady rs
on_ready k n j o rs g h = let m = newest k (LogRec.Heuristic n j o) rs g h in voted_only k rs (m.stands ∙ ap (λ (v : Stage). Some v) (voted m.before m.after))
  where
    voted : (u : Stage) → after_record k u (LogRec.Heuristic n j o) ≡ Some g → u ≡ Stage.Voted
    voted Stage.Voted i = refl
    voted _ i = absurd (cc (i))

-- a tree's decision and its Commit are among its records
decision_there : (t : Aaid) (rs : List LogRec) → last_decision t (of_tree t rs) ≡ last_decision t rs
decision_there t [] = refl
decision_there t (r ∷ rs) = go (is_of_tree t r) refl (decision_there t rs)
  where
    list : Bool → List LogRec
    list b = elim b as (λ _. List LogRec) [ true ↦ r ∷ of_tree t rs | false ↦ of_tree t rs ]

    over : (o : Option Outcome) → decision_in t r ≡ o → (d e : Option Outcome) → d ≡ e → elim (decision_in t r) as (λ _. Option Outcome) [ Some u ↦ Some u | None ↦ d ] ≡ elim (decision_in t r) as (λ _. Option Outcome) [ Some u ↦ Some u | None ↦ e ]
    over o i d e h = ap (λ (v : Option Outcome). elim (decision_in t r) as (λ _. Option Outcome) [ Some u ↦ Some u | None ↦ v ]) h

    none : (r : LogRec) → is_of_tree t r ≡ false → decision_in t r ≡ None
    none (LogRec.Heuristic n j u) i = rw (i, decision_in) refl
    none (LogRec.Boot n) i = refl
    none (LogRec.Ready n j s cs) i = refl
    none (LogRec.Commit n j s cs) i = refl
    none (LogRec.Damage n j s u p cs) i = refl
    none (LogRec.End n j u) i = refl

    go : (b : Bool) → is_of_tree t r ≡ b → last_decision t (of_tree t rs) ≡ last_decision t rs → last_decision t (of_tree t (r ∷ rs)) ≡ last_decision t (r ∷ rs)
    go true i rest = ap (λ (b : Bool). last_decision t (list b)) i ∙ over (decision_in t r) refl (last_decision t (of_tree t rs)) (last_decision t rs) rest
    go false i rest =
        ap (λ (b : Bool). last_decision t (list b)) i ∙ rest
        ∙ sym (ap (λ (v : Option Outcome). elim v as (λ _. Option Outcome) [ Some u ↦ Some u | None ↦ last_decision t rs ]) (none r i))

commit_there : (t : Aaid) (rs : List LogRec) → has_commit_of t (of_tree t rs) ≡ has_commit_of t rs
commit_there t [] = refl
commit_there t (r ∷ rs) = go (is_of_tree t r) refl (commit_there t rs)
  where
    list : Bool → List LogRec
    list b = elim b as (λ _. List LogRec) [ true ↦ r ∷ of_tree t rs | false ↦ of_tree t rs ]

    none : (r : LogRec) → is_of_tree t r ≡ false → is_commit_of t r ≡ false
    none (LogRec.Commit n j s cs) i = i
    none (LogRec.Heuristic n j u) i = refl
    none (LogRec.Boot n) i = refl
    none (LogRec.Ready n j s cs) i = refl
    none (LogRec.Damage n j s u p cs) i = refl
    none (LogRec.End n j u) i = refl

    go : (b : Bool) → is_of_tree t r ≡ b → has_commit_of t (of_tree t rs) ≡ has_commit_of t rs → has_commit_of t (of_tree t (r ∷ rs)) ≡ has_commit_of t (r ∷ rs)
    go true i rest = ap (λ (b : Bool). has_commit_of t (list b)) i ∙ ap (λ (b : Bool). is_commit_of t r || b) rest
    go false i rest = ap (λ (b : Bool). has_commit_of t (list b)) i ∙ rest ∙ sym (ap (λ (b : Bool). b || has_commit_of t rs) (none r i))

-- ---- one entry more

-- the entry logs no decision of the tree, or what stands of the tree is a Ready alone
data Decides (t : Aaid) (r : Option LogRec) (rs : List LogRec) : Type 0 where
  Not_at_all : last_decision t (with_rec r rs) ≡ last_decision t rs → Decides t r rs
  On_ready : OnlyReady (of_tree t rs) → Decides t r rs

decides : (t : Aaid) (k : NodeKey) (g : Stage) (r : Option LogRec) (rs : List LogRec) → stage k (of_tree t (with_rec r rs)) ≡ Some g → Decides t r rs
decides t k g None rs h = Not_at_all refl
decides t k g (Some (LogRec.Heuristic n j u)) rs h = go (is_aaid t j.aaid) refl
  where
    list : Bool → List LogRec
    list b = elim b as (λ _. List LogRec) [ true ↦ LogRec.Heuristic n j u ∷ of_tree t rs | false ↦ of_tree t rs ]

    go : (b : Bool) → is_aaid t j.aaid ≡ b → Decides t (Some (LogRec.Heuristic n j u)) rs
    go true i = On_ready (on_ready k n j u (of_tree t rs) g (sym (ap (λ (b : Bool). stage k (list b)) i) ∙ h))
    go false i = Not_at_all (rw (i, last_decision) refl)
decides t k g (Some (LogRec.Boot n)) rs h = Not_at_all refl
decides t k g (Some (LogRec.Ready n j s cs)) rs h = Not_at_all refl
decides t k g (Some (LogRec.Commit n j s cs)) rs h = Not_at_all refl
decides t k g (Some (LogRec.Damage n j s u p cs)) rs h = Not_at_all refl
decides t k g (Some (LogRec.End n j u)) rs h = Not_at_all refl

-- where a Ready alone stands, nothing is decided and the node did not roll
record IsOpen (o : Origin) (h : List Entry) (t : Aaid) : Type 0 where
  undecided : decision o t h ≡ None
  uncommitted : decided o t h ≡ false
  unrolled : rolled o t h ≡ true → ⊥

ready_open : (o : Origin) (up : Option Addr) (h : List Entry) (t : Aaid) → o.start.records ≡ [] → IsGrown o up h → IsOnce o h → OnlyReady (of_tree t (records o h)) → IsOpen o h t
ready_open o up h t empty legal once only = record {
  undecided = sym (decision_there t (records o h)) ∙ ap (last_decision t) only.is;
  uncommitted = sym (commit_there t (records o h)) ∙ ap (has_commit_of t) only.is;
  unrolled = λ roll. standing (is_now t (digest o h).current) refl roll;
}
  where
    l : IsStagedLog o h t
    l = staged_law o up h t empty legal once

    stage_is : (g : Stage) → stage l.key (of_tree t (records o h)) ≡ Some g → is_away g ≡ true → ⊥
    stage_is g i away =
        let n = newest l.key (LogRec.Ready only.node only.key only.superior only.children) [] g (sym (ap (stage l.key) only.is) ∙ i) in
        voted n.before g n.after away
      where
        voted : (u v : Stage) → after_record l.key u (LogRec.Ready only.node only.key only.superior only.children) ≡ Some v → is_away v ≡ true → ⊥
        voted u v j a = grind (arith, j, a)

    standing : (b : Bool) → is_now t (digest o h).current ≡ b → rolled o t h ≡ true → ⊥
    standing false i roll = stage_is l.stage l.stands (l.fits.away i)
    standing true i roll = rolling (digest o h).current refl ((fated_law o up h t empty legal once).rolled_now roll i)
      where
        rolling : (v : Option Current) → (digest o h).current ≡ v → is_rolling (phase_of (digest o h)) ≡ true → ⊥
        rolling None j r = let off : false ≡ true = sym (ap (is_now t) j) ∙ i in cc (off)
        rolling (Some c) j r =
            let n = l.fits.now c j (sym (ap (is_now t) j) ∙ i) in
            let roll : is_rolling c.phase ≡ true = ap is_rolling (sym (phase_at (digest o h) c j)) ∙ r in
            stage_is l.stage l.stands (at c.phase roll n.1)
          where
            at : (p : Phase) → is_rolling p ≡ true → fits p c.decision l.stage ≡ true → is_away l.stage ≡ true
            at Phase.Rolling a f = f
            at Phase.Nil a f = absurd (cc (a))
            at Phase.Active a f = absurd (cc (a))
            at Phase.Ready a f = absurd (cc (a))
            at Phase.Committing a f = absurd (cc (a))

pub decision_step : (o : Origin) (up : Option Addr) (e : Entry) (h : List Entry) (t : Aaid) (u : Outcome) → o.start.records ≡ [] → IsGrown o up (e ∷ h) → IsOnce o (e ∷ h) → decision o t h ≡ Some u → decision o t (e ∷ h) ≡ Some u
decision_step o up e h t u empty legal once d = go (decides t l.key l.stage e.rec (records o h) l.stands)
  where
    l : IsStagedLog o (e ∷ h) t
    l = staged_law o up (e ∷ h) t empty legal once

    go : Decides t e.rec (records o h) → decision o t (e ∷ h) ≡ Some u
    go (Not_at_all i) = i ∙ d
    go (On_ready i) = absurd (let off : None ≡ Some u = sym (ready_open o up h t empty legal.3 once.1 i).undecided ∙ d in cc (off))

-- where the outcome is not a decision of the node's own, none comes later
undecided_step : (o : Origin) (up : Option Addr) (e : Entry) (h : List Entry) (t : Aaid) → o.start.records ≡ [] → IsGrown o up (e ∷ h) → IsOnce o (e ∷ h) → decision o t h ≡ None → (decided o t h ≡ true) ⊎ (rolled o t h ≡ true)
    → decision o t (e ∷ h) ≡ None
undecided_step o up e h t empty legal once d over = go (decides t l.key l.stage e.rec (records o h) l.stands)
  where
    l : IsStagedLog o (e ∷ h) t
    l = staged_law o up (e ∷ h) t empty legal once

    closed : (decided o t h ≡ true) ⊎ (rolled o t h ≡ true) → IsOpen o h t → ⊥
    closed (inl c) k = cc (c, k.uncommitted)
    closed (inr r) k = k.unrolled r

    go : Decides t e.rec (records o h) → decision o t (e ∷ h) ≡ None
    go (Not_at_all i) = i ∙ d
    go (On_ready i) = absurd (closed over (ready_open o up h t empty legal.3 once.1 i))

-- what a node was told, by what it decided, logged and rolled
data Outcomes (o : Origin) (t : Aaid) (h : List Entry) (u : Outcome) : Type 0 where
  By_itself : decision o t h ≡ Some u → Outcomes o t h u
  By_commit : decision o t h ≡ None → decided o t h ≡ true → u ≡ Outcome.Commit → Outcomes o t h u
  By_rollback : decision o t h ≡ None → decided o t h ≡ false → rolled o t h ≡ true → u ≡ Outcome.Rollback → Outcomes o t h u

abbrev told_made : Option Outcome → Bool → Bool → Option Outcome
told_made (Some u) c r = Some u
told_made None true r = Some Outcome.Commit
told_made None false true = Some Outcome.Rollback
told_made None false false = None

told_is : (o : Origin) (t : Aaid) (h : List Entry) → told o t h ≡ told_made (decision o t h) (decided o t h) (rolled o t h)
told_is o t h = go (decision o t h) (decided o t h) (rolled o t h)
  where
    go : (d : Option Outcome) (c r : Bool) → elim d as (λ _. Option Outcome) [ Some u ↦ Some u | None ↦ if c then Some Outcome.Commit else if r then Some Outcome.Rollback else None ] ≡ told_made d c r
    go (Some u) c r = refl
    go None true r = refl
    go None false true = refl
    go None false false = refl

outcomes_of : (o : Origin) (t : Aaid) (h : List Entry) (u : Outcome) → told o t h ≡ Some u → Outcomes o t h u
outcomes_of o t h u told = go (decision o t h) (decided o t h) (rolled o t h) refl refl refl (sym (told_is o t h) ∙ told)
  where
    go : (d : Option Outcome) (c r : Bool) → decision o t h ≡ d → decided o t h ≡ c → rolled o t h ≡ r → told_made d c r ≡ Some u → Outcomes o t h u
    go (Some v) c r i j k m = By_itself (i ∙ m)
    go None true r i j k m = By_commit i j (sym (some_same Outcome.Commit u m))
    go None false true i j k m = By_rollback i j k (sym (some_same Outcome.Rollback u m))
    go None false false i j k m = absurd (cc (m))

outcomes_told : (o : Origin) (t : Aaid) (h : List Entry) (u : Outcome) → Outcomes o t h u → told o t h ≡ Some u
outcomes_told o t h u (By_itself i) = told_is o t h ∙ ap (λ (d : Option Outcome). told_made d (decided o t h) (rolled o t h)) i
outcomes_told o t h u (By_commit i j k) =
    told_is o t h ∙ ap (λ (d : Option Outcome). told_made d (decided o t h) (rolled o t h)) i ∙ ap (λ (c : Bool). told_made None c (rolled o t h)) j ∙ ap (λ (v : Outcome). Some v) (sym k)
outcomes_told o t h u (By_rollback i j l k) =
    told_is o t h ∙ ap (λ (d : Option Outcome). told_made d (decided o t h) (rolled o t h)) i ∙ ap (λ (c : Bool). told_made None c (rolled o t h)) j ∙ ap (λ (r : Bool). told_made None false r) l ∙ ap (λ (v : Outcome). Some v) (sym k)

told_step : (o : Origin) (up : Option Addr) (e : Entry) (h : List Entry) (t : Aaid) (u : Outcome) → o.start.records ≡ [] → IsGrown o up (e ∷ h) → IsOnce o (e ∷ h) → told o t h ≡ Some u → told o t (e ∷ h) ≡ Some u
told_step o up e h t u empty legal once told = outcomes_told o t (e ∷ h) u (go (outcomes_of o t h u told))
  where
    fated : IsFated o (e ∷ h) t
    fated = fated_law o up (e ∷ h) t empty legal once

    not_true : (b : Bool) → (b ≡ true → ⊥) → b ≡ false
    not_true false i = refl
    not_true true i = absurd (i refl)

    go : Outcomes o t h u → Outcomes o t (e ∷ h) u
    go (By_itself i) = By_itself (decision_step o up e h t u empty legal once i)
    go (By_commit i j k) = By_commit (undecided_step o up e h t empty legal once i (inl j)) (commit_more t e.rec (records o h) j) k
    go (By_rollback i j l k) =
        let roll : rolled o t (e ∷ h) ≡ true = rolled_more o e h t l in
        By_rollback (undecided_step o up e h t empty legal once i (inr l)) (not_true (decided o t (e ∷ h)) (λ c. fated.never_both c roll)) roll k

-- ---- more entries

-- what holds after an entry more holds after any
pub onward : (P : List Entry → Type 0) (o : Origin) (up : Option Addr) → ((e : Entry) (h : List Entry) → IsGrown o up (e ∷ h) → IsOnce o (e ∷ h) → P h → P (e ∷ h)) → (es h : List Entry) → IsGrown o up (es ++ h) → IsOnce o (es ++ h) → P h → P (es ++ h)
onward P o up step [] h legal once p = p
onward P o up step (e ∷ es) h legal once p = step e (es ++ h) legal once (onward P o up step es h legal.3 once.1 p)

or_later : (x y : Bool) → y ≡ true → (x || y) ≡ true
or_later true y h = refl
or_later false y h = h

record Later (o : Origin) (t : Aaid) (h g : List Entry) : Type 0 where
  told : (u : Outcome) → told o t h ≡ Some u → told o t g ≡ Some u
  decides : (u : Outcome) → decision o t h ≡ Some u → decision o t g ≡ Some u
  commits : decided o t h ≡ true → decided o t g ≡ true
  rolls : rolled o t h ≡ true → rolled o t g ≡ true
  leaves : has_left o t h ≡ true → has_left o t g ≡ true
  clears : completed_none o t h ≡ true → completed_none o t g ≡ true
  belongs : is_member o t h ≡ true → is_member o t g ≡ true
  tells : (f : List Out → Bool) → has_told_in f o t h ≡ true → has_told_in f o t g ≡ true

later_step : (o : Origin) (up : Option Addr) (t : Aaid) (h : List Entry) → o.start.records ≡ [] → (e : Entry) (g : List Entry) → IsGrown o up (e ∷ g) → IsOnce o (e ∷ g) → Later o t h g → Later o t h (e ∷ g)
later_step o up t h empty e g legal once l = record {
  told = λ u i. told_step o up e g t u empty legal once (l.told u i);
  decides = λ u i. decision_step o up e g t u empty legal once (l.decides u i);
  commits = λ i. commit_more t e.rec (records o g) (l.commits i);
  rolls = λ i. rolled_more o e g t (l.rolls i);
  leaves = λ i. or_later _ (has_left o t g) (l.leaves i);
  clears = λ i. or_later _ (completed_none o t g) (l.clears i);
  belongs = λ i. later_member o t e g (l.belongs i);
  tells = λ f i. or_later _ (has_told_in f o t g) (l.tells f i);
}

later_same : (o : Origin) (t : Aaid) (h : List Entry) → Later o t h h
later_same o t h = record { told = λ u i. i; decides = λ u i. i; commits = λ i. i; rolls = λ i. i; leaves = λ i. i; clears = λ i. i; belongs = λ i. i; tells = λ f i. i }

later_law : (o : Origin) (up : Option Addr) (t : Aaid) (es h : List Entry) → o.start.records ≡ [] → IsGrown o up (es ++ h) → IsOnce o (es ++ h) → Later o t h (es ++ h)
later_law o up t es h empty legal once = onward (Later o t h) o up (later_step o up t h empty) es h legal once (later_same o t h)

-- ---- every run

stays_made : (t : Aaid) (x y : Node) → y.origin ≡ x.origin → Later x.origin t x.history y.history → StaysSo t x y
stays_made t x y same l = subst (λ (o : Origin). StaysSo t x (record y { origin = o })) (sym same) (record {
  told = l.told;
  decides = l.decides;
  commits = l.commits;
  rolls = l.rolls;
  leaves = l.leaves;
  clears = l.clears;
  belongs = l.belongs;
  tells = l.tells;
})

pub outcomes_stay : (more es : List Happening) → OutcomesStay more es
outcomes_stay more es t x y hx hy number =
    let z = onward_run more es (number_of x) x hx in
    let same : z.0 ≡ y = some_same z.0 y (sym z.1 ∙ ap (find_node (run (more ++ es)).nodes) (sym number) ∙ hy) in
    let g : GoesOn x y = subst (λ (v : Node). GoesOn x v) same z.2 in
    let good = good_run (more ++ es) in
    let legal : IsGrown x.origin x.superior (g.since ++ x.history) =
    subst (λ (l : List Entry). IsGrown x.origin x.superior l) g.history (subst (λ (s : Option Addr). IsGrown x.origin s y.history) g.superior (subst (λ (o : Origin). IsGrown o y.superior y.history) g.origin (good.legal (number_of y) y hy))) in
    let once : IsOnce x.origin (g.since ++ x.history) =
    subst (λ (l : List Entry). IsOnce x.origin l) g.history (subst (λ (o : Origin). IsOnce o y.history) g.origin ((unique_run (more ++ es)).once (number_of y) y hy)) in
    stays_made t x y g.origin
    (subst (λ (l : List Entry). Later x.origin t x.history l) (sym g.history) (later_law x.origin x.superior t g.since x.history ((good_run es).fresh (number_of x) x hx) legal once))
