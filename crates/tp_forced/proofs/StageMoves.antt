-- Every event of a node forces a record of a tree that may stand at the tree's stage, or none.
use Rattle.std.proofs.Common.{if◌then◌else◌, ◌≡◌, ◌≤◌, ◌⊎◌, inl, inr, ℕ, Bool, true, false, refl, ap, sym, subst, ◌∙◌, arith, Option, Some, None, List, [], ◌∷◌, ◌&&◌}
use Rattle.tp_names.specs.declared.identifiers.Aaid.{Aaid}
use Rattle.tp_names.specs.declared.identifiers.BranchId.{BranchId}
use Rattle.tp_names.specs.declared.identifiers.NodeKey.{NodeKey}
use Rattle.tp_names.specs.declared.identifiers.Addr.{Addr}
use Rattle.tp_names.specs.declared.children.Child.{Child}
use Rattle.tp_names.specs.declared.outcome.Outcome.{Outcome}
use Rattle.tp_names.specs.declared.outcome.Report.{Report}
use Rattle.tp_names.specs.Same.{is_aaid}
use Rattle.tp_names.specs.Reports.{join}
use Rattle.tp_logrec.specs.declared.record.LogRec.{LogRec}
use Rattle.tp_model.specs.declared.arc.Phase.{Phase}
use Rattle.tp_model.specs.declared.transaction.TxEvent.{TxEvent}
use Rattle.tp_model.specs.declared.recovery.Kept.{Kept}
use Rattle.tp_model.specs.declared.recovery.KeptEvent.{KeptEvent}
use Rattle.tp_model.specs.Parts.{Who, Event, Arc, Root, Current, Digest}
use Rattle.tp_model.specs.Dialogues.{is_nil}
use Rattle.tp_model.specs.Arcs.{find_arc}
use Rattle.tp_model.specs.Transactions.{Transaction, Turn, aaid_of, node_key, transacted}
use Rattle.tp_model.specs.Recovery.{is_commit, is_nothing_owed, find_owed, without_owed, rec_of_done, settled, find_kept}
use Rattle.tp_model.specs.Node.{Move, move, followed, perform, next_mark, with_mark_drawn, phase_of, seen, remaining, fresh_current, may_begin_on, begin_on, turned, keep}
use Rattle.tp_model.specs.Outcomes.{is_now}
use Rattle.tp_model.specs.Promises.{is_of_tree}
use Rattle.tp_steps.specs.Moves.{Moves, IsPut, IsFound}
use Rattle.tp_steps.specs.Passages.{IsLogged}
use Rattle.tp_steps.specs.Traces.{is_old}
use Rattle.tp_runs.specs.Bare.{rec_of_tree}
use Rattle.tp_forced.specs.TreeLog.{Stage, after_record}
use Rattle.tp_steps.proofs.links.Marks.{new_mark, drawn_old}
use Rattle.tp_steps.proofs.words.Treed.{now_some, old_kept}
use Rattle.tp_steps.proofs.log.Owned.{key_aaid}
use Rattle.tp_steps.proofs.log.Passed.{passed_turn, later_rec}
use Rattle.tp_steps.proofs.log.Sound.{left_is}
use Rattle.tp_steps.proofs.lemmas.Equality.{aaids_equal}
use Rattle.tp_steps.proofs.lemmas.Options.{some_same}
use Rattle.tp_steps.proofs.every.BeginCases.{begun_over, begin_cases}
use Rattle.tp_runs.proofs.Bare.{logged_tree}
use Rattle.tp_forced.proofs.Stages.{fits, is_away, own_stage, own_key, keyed, log_step, not_of_tree, of_its_tree}
use Rattle.tp_forced.proofs.Sides.{Side, side_of, sides, stood, sides_same, sides_after, found_side, is_odd}
use Rattle.tp_forced.proofs.StageTurns.{Staged, staged_turn}

-- what a node knows, and the stage of its log with the tree
pub record Fits (who : Who) (t : Aaid) (k : NodeKey) (g : Stage) (d : Digest) : Type 0 where
  pub now : (c : Current) → d.current ≡ Some c → is_aaid t (aaid_of c.key) ≡ true → (node_key c.key ≡ k) × (fits c.phase c.decision g ≡ true)
  pub away : is_now t d.current ≡ false → is_away g ≡ true
  pub kept : sides t d.kept ≡ stood k g
  pub old : is_now t d.current ≡ true → is_old who d t.mark ≡ true
  pub fresh : is_old who d t.mark ≡ false → (g ≡ Stage.Blank) × (k ≡ record { aaid = t; branch = None })

pub record StagedMove (who : Who) (t : Aaid) (k : NodeKey) (g : Stage) (m : Move) : Type 0 where
  pub next : Stage
  pub steps : log_step t k g m.rec ≡ Some next
  pub fits : Fits who t k next m.next

abbrev pub IsStagedMove : Who → Aaid → NodeKey → Digest → Move → Type 0
IsStagedMove who t k d m = (g : Stage) → Fits who t k g d → StagedMove who t k g m

-- what is known is the same but for arcs
fits_arcs : (who : Who) (t : Aaid) (k : NodeKey) (g : Stage) (d e : Digest) → e.current ≡ d.current → sides t e.kept ≡ sides t d.kept → e.boot ≡ d.boot → e.drawn ≡ d.drawn → Fits who t k g d → Fits who t k g e
fits_arcs who t k g d e now kept boot drawn f = record {
  now = λ c is own. f.now c (sym now ∙ is) own;
  away = λ n. f.away (ap (is_now t) (sym now) ∙ n);
  kept = kept ∙ f.kept;
  old = λ n. same ∙ f.old (ap (is_now t) (sym now) ∙ n);
  fresh = λ o. f.fresh (sym same ∙ o);
}
  where
    same : is_old who e t.mark ≡ is_old who d t.mark
    same = rw (boot, drawn) refl

quiet : (who : Who) (t : Aaid) (k : NodeKey) (d : Digest) (m : Move) → m.rec ≡ None → m.next.current ≡ d.current → sides t m.next.kept ≡ sides t d.kept → m.next.boot ≡ d.boot → m.next.drawn ≡ d.drawn → IsStagedMove who t k d m
quiet who t k d m none now kept boot drawn g f = record { next = g; steps = ap (log_step t k g) none; fits = fits_arcs who t k g d m.next now kept boot drawn f }

-- ---- chains

chained : (who : Who) (t : Aaid) (k : NodeKey) (d : Digest) (a : Move) (f : Digest → Move) → IsStagedMove who t k d a → IsStagedMove who t k a.next (f a.next) → (a.rec ≡ None) ⊎ ((f a.next).rec ≡ None)
    → IsStagedMove who t k d (followed a f)
chained who t k d a f one two still g fit = go (later_rec a.rec (f a.next).rec still)
  where
    x : StagedMove who t k g a
    x = one g fit

    y : StagedMove who t k x.next (f a.next)
    y = two x.next x.fits

    go : (a.rec ≡ None) × ((followed a f).rec ≡ (f a.next).rec) ⊎ ((f a.next).rec ≡ None) × ((followed a f).rec ≡ a.rec) → StagedMove who t k g (followed a f)
    go (inl i) =
        let same : g ≡ x.next = some_same g x.next (sym (ap (log_step t k g) i.0) ∙ x.steps) in
        record { next = y.next; steps = ap (log_step t k g) i.1 ∙ ap (λ (v : Stage). log_step t k v (f a.next).rec) same ∙ y.steps; fits = y.fits }
    go (inr i) =
        let same : x.next ≡ y.next = some_same x.next y.next (sym (ap (log_step t k x.next) i.0) ∙ y.steps) in
        record { next = y.next; steps = ap (log_step t k g) i.1 ∙ x.steps ∙ ap (λ (v : Stage). Some v) same; fits = y.fits }

-- ---- an event of the current transaction

own_record : (t : Aaid) (q : Transaction) (r : LogRec) (u : Transaction) → IsLogged q (Some r) u → is_aaid t (aaid_of q.key) ≡ true → is_of_tree t r ≡ true
own_record t q (LogRec.Boot n) u l h = absurd l
own_record t q (LogRec.Ready n j s cs) u l h = ap (λ (v : NodeKey). is_aaid t v.aaid) l.0 ∙ ap (is_aaid t) (key_aaid q.key) ∙ h
own_record t q (LogRec.Heuristic n j o) u l h = ap (λ (v : NodeKey). is_aaid t v.aaid) l.0 ∙ ap (is_aaid t) (key_aaid q.key) ∙ h
own_record t q (LogRec.Commit n j s cs) u l h = ap (λ (v : NodeKey). is_aaid t v.aaid) l.0 ∙ ap (is_aaid t) (key_aaid q.key) ∙ h
own_record t q (LogRec.Damage n j s o p cs) u l h = ap (λ (v : NodeKey). is_aaid t v.aaid) l.0 ∙ ap (is_aaid t) (key_aaid q.key) ∙ h
own_record t q (LogRec.End n j o) u l h = ap (λ (v : NodeKey). is_aaid t v.aaid) l ∙ ap (is_aaid t) (key_aaid q.key) ∙ h

own_step : (t : Aaid) (k : NodeKey) (g : Stage) (q : Transaction) (r : Option LogRec) (u : Transaction) → IsLogged q r u → is_aaid t (aaid_of q.key) ≡ true → log_step t k g r ≡ own_stage k g r
own_step t k g q None u l h = refl
own_step t k g q (Some r) u l h = of_its_tree t k g r (own_record t q r u l h)

-- what stays of a transaction is of its tree
left_now : (t : Aaid) (u : Transaction) (b : Bool) → is_aaid t (aaid_of u.key) ≡ b → is_now t (remaining u) ≡ true → b ≡ true
left_now t u true h n = refl
left_now t u false h n =
    let c = now_some t (remaining u) n in
    let same : (c.0).key ≡ u.key = (left_is u c.0 c.1).0 in
    absurd (cc (ap (λ (v : _). is_aaid t (aaid_of v)) same ∙ h, c.2))

nil_left : (t : Aaid) (u : Transaction) → is_aaid t (aaid_of u.key) ≡ true → is_now t (remaining u) ≡ false → is_nil u.phase ≡ true
nil_left t u own n = go (is_nil u.phase) refl
  where
    go : (b : Bool) → is_nil u.phase ≡ b → b ≡ true
    go true i = refl
    go false i = absurd (grind (arith, own, n, i))

nil_away : (p : Phase) (o : Option Outcome) (g : Stage) → is_nil p ≡ true → fits p o g ≡ true → is_away g ≡ true
nil_away Phase.Nil o g h f = f
nil_away _ o g h f = absurd (cc (h))

turns : (who : Who) (t : Aaid) (k : NodeKey) (f : TxEvent) (d : Digest) (c : Current) → d.current ≡ Some c → IsPut f (seen who d.arcs c) → IsStagedMove who t k d (turned who f d c)
turns who t k f d c now put g fit = go (is_aaid t (aaid_of c.key)) refl
  where
    q : Transaction
    q = seen who d.arcs c

    a : Turn
    a = transacted f q

    m : Move
    m = turned who f d c

    key : a.next.key ≡ c.key
    key = (passed_turn f q put).key

    logs : IsLogged q a.rec a.next
    logs = (passed_turn f q put).logs

    other : is_aaid t (aaid_of c.key) ≡ false → (b : Bool) → rec_of_tree t a.rec ≡ b → rec_of_tree t a.rec ≡ false
    other i false j = j
    other i true j = absurd (cc (i, logged_tree t q a.rec a.next logs j))

    is_left : (v : Current) → remaining a.next ≡ Some v → is_aaid t (aaid_of v.key) ≡ is_aaid t (aaid_of c.key)
    is_left v is = ap (λ (u : _). is_aaid t (aaid_of u)) ((left_is a.next v is).0 ∙ key)

    not_left : is_aaid t (aaid_of c.key) ≡ false → is_now t m.next.current ≡ true → ⊥
    not_left i n = cc (left_now t a.next false (ap (λ (u : _). is_aaid t (aaid_of u)) key ∙ i) n)

    go : (b : Bool) → is_aaid t (aaid_of c.key) ≡ b → StagedMove who t k g m
    go false i =
        let steps : log_step t k g a.rec ≡ Some g = not_of_tree t k g a.rec (other i (rec_of_tree t a.rec) refl) in
        record {
          next = g;
          steps = steps;
          fits = record {
            now = λ v is own. absurd (cc (is_left v is ∙ i, own));
            away = λ n. fit.away (ap (is_now t) now ∙ i);
            kept = sides_after t k g g a.rec d.kept fit.kept steps;
            old = λ n. absurd (not_left i n);
            fresh = λ o. fit.fresh o;
          };
        }
    go true i =
        let f = fit.now c now i in
        let s : Staged k q.key g a = staged_turn k _ q put g f.0 f.1 in
        let steps : log_step t k g a.rec ≡ Some s.next = own_step t k g q a.rec a.next logs i ∙ s.steps in
        record {
          next = s.next;
          steps = steps;
          fits = record {
            now = λ v is own. (
              ap node_key ((left_is a.next v is).0 ∙ key) ∙ f.0,
              ap (λ (p : Phase). fits p v.decision s.next) (left_is a.next v is).1 ∙ ap (λ (o : Option Outcome). fits a.next.phase o s.next) (left_is a.next v is).2 ∙ s.fit,
            );
            away = λ n. nil_away a.next.phase a.next.decision s.next (nil_left t a.next (ap (λ (u : _). is_aaid t (aaid_of u)) key ∙ i) n) s.fit;
            kept = sides_after t k g s.next a.rec d.kept fit.kept steps;
            old = λ n. fit.old (ap (is_now t) now ∙ i);
            fresh = λ o. absurd (cc (o, fit.old (ap (is_now t) now ∙ i)));
          };
        }

-- ---- an event of a kept transaction

-- what of a kept transaction its record reads
pub data Keeps (k : NodeKey) (g : Stage) (x : Kept) : Type 0 where
  Commitment : g ≡ Stage.Damaged → x.key ≡ k → x.side ≡ Outcome.Commit → Keeps k g x
  Rollback : g ≡ Stage.Backed → x.key ≡ k → x.side ≡ Outcome.Rollback → is_nothing_owed x.owed ≡ true → Keeps k g x

bare : (o : Outcome) (cs : List Child) → o ≡ Outcome.Rollback → is_odd o cs ≡ false → is_nothing_owed cs ≡ true
bare Outcome.Rollback [] i h = refl
bare Outcome.Rollback (c ∷ cs) i h = absurd (cc (h))
bare Outcome.Commit cs i h = absurd (cc (i))

keeps_as : (t : Aaid) (k : NodeKey) (g : Stage) (ks : List Kept) (j : NodeKey) (x : Kept) → sides t ks ≡ stood k g → find_kept ks j ≡ Some x → is_aaid t x.key.aaid ≡ true → Keeps k g x
keeps_as t k g ks j x is found own = go g is
  where
    at : (sides t ks ≡ [] → ⊥) × ((s : Side) → sides t ks ≡ s ∷ [] → side_of x ≡ s)
    at = found_side t ks j x found own

    go : (v : Stage) → sides t ks ≡ stood k v → Keeps k v x
    go Stage.Damaged i = let e = at.1 _ i in Commitment refl (ap (λ (s : Side). s.key) e) (ap (λ (s : Side). s.outcome) e)
    go Stage.Backed i =
        let e = at.1 _ i in
        let back : x.side ≡ Outcome.Rollback = ap (λ (s : Side). s.outcome) e in
        Rollback refl (ap (λ (s : Side). s.key) e) back (bare x.side x.owed back (ap (λ (s : Side). s.odd) e))
    go Stage.Blank i = absurd (at.0 i)
    go Stage.Voted i = absurd (at.0 i)
    go (Stage.Decided o) i = absurd (at.0 i)
    go Stage.Ordered i = absurd (at.0 i)
    go Stage.Over i = absurd (at.0 i)

-- from a stage that keeps something to one that is away
pub record Settles (k : NodeKey) (g : Stage) (r : Option LogRec) : Type 0 where
  pub next : Stage
  pub steps : own_stage k g r ≡ Some next
  pub away : is_away next ≡ true

ends_side : (k j : NodeKey) (n : ℕ) (o : Outcome) (g : Stage) → j ≡ k → (g ≡ Stage.Damaged) × (o ≡ Outcome.Commit) ⊎ (g ≡ Stage.Backed) × (o ≡ Outcome.Rollback) → Settles k g (Some (LogRec.End n j o))
ends_side k j n o g same (inl i) = record { next = Stage.Over; steps = keyed k g (LogRec.End n j o) (Some Stage.Over) (own_key j k same) (ap (λ (v : Outcome). after_record k g (LogRec.End n j v)) i.1 ∙ ap (λ (v : Stage). after_record k v (LogRec.End n j Outcome.Commit)) i.0); away = refl }
ends_side k j n o g same (inr i) = record { next = Stage.Over; steps = keyed k g (LogRec.End n j o) (Some Stage.Over) (own_key j k same) (ap (λ (v : Outcome). after_record k g (LogRec.End n j v)) i.1 ∙ ap (λ (v : Stage). after_record k v (LogRec.End n j Outcome.Rollback)) i.0); away = refl }

harms_side : (k j : NodeKey) (n : ℕ) (s : Option Addr) (o : Outcome) (p : Report) (cs : List Child) (g : Stage) → j ≡ k → g ≡ Stage.Damaged → o ≡ Outcome.Commit → Settles k g (Some (LogRec.Damage n j s o p cs))
harms_side k j n s o p cs g same at commit = record {
  next = Stage.Damaged;
  steps = keyed k g (LogRec.Damage n j s o p cs) (Some Stage.Damaged) (own_key j k same)
      (ap (λ (v : Outcome). after_record k g (LogRec.Damage n j s v p cs)) commit ∙ ap (λ (v : Stage). after_record k v (LogRec.Damage n j s Outcome.Commit p cs)) at);
  away = refl;
}

settles_nothing : (k : NodeKey) (g : Stage) (x : Kept) → Keeps k g x → Settles k g None
settles_nothing k g x (Commitment i j l) = record { next = g; steps = refl; away = ap is_away i }
settles_nothing k g x (Rollback i j l n) = record { next = g; steps = refl; away = ap is_away i }

ends_kept : (k : NodeKey) (g : Stage) (x : Kept) → Keeps k g x → Settles k g (Some (LogRec.End x.node x.key x.side))
ends_kept k g x (Commitment i j l) = ends_side k x.key x.node x.side g j (inl (i, l))
ends_kept k g x (Rollback i j l n) = ends_side k x.key x.node x.side g j (inr (i, l))

nothing_found : (cs : List Child) (b : BranchId) (c : Child) → is_nothing_owed cs ≡ true → find_owed cs b ≡ Some c → ⊥
nothing_found [] b c h i = cc (i)
nothing_found (x ∷ cs) b c h i = cc (h)

settles : (k : NodeKey) (g : Stage) (x : Kept) (f : KeptEvent) → Keeps k g x → Settles k g (settled x f).rec
unfolding settled
settles k g x (KeptEvent.Done a b r) kept = go (find_owed x.owed b) refl
  where
    done : Keeps k g x → (c : Child) → find_owed x.owed b ≡ Some c → Settles k g (Some (rec_of_done x b r))
    done (Rollback i j l n) c found = absurd (nothing_found x.owed b c n found)
    done (Commitment i j l) c found = on (is_nothing_owed (without_owed x.owed b) && x.forgot)
      where
        on : (v : Bool) → Settles k g (Some (if v then LogRec.End x.node x.key x.side else LogRec.Damage x.node x.key x.superior x.side (join x.report r) (without_owed x.owed b)))
        on true = ends_side k x.key x.node x.side g j (inl (i, l))
        on false = harms_side k x.key x.node x.superior x.side (join x.report r) (without_owed x.owed b) g j i l

    go : (o : Option Child) → find_owed x.owed b ≡ o → Settles k g (elim (find_owed x.owed b) as (λ _. Option LogRec) [ None ↦ None | Some c ↦ Some (rec_of_done x b r) ])
    go None i = subst (λ (v : Option LogRec). Settles k g v) (sym (ap (λ (v : Option Child). elim v as (λ _. Option LogRec) [ None ↦ None | Some c ↦ Some (rec_of_done x b r) ]) i)) (settles_nothing k g x kept)
    go (Some c) i = subst (λ (v : Option LogRec). Settles k g v) (sym (ap (λ (v : Option Child). elim v as (λ _. Option LogRec) [ None ↦ None | Some c ↦ Some (rec_of_done x b r) ]) i)) (done kept c i)
settles k g x KeptEvent.Forget kept = on (is_commit x.side && is_nothing_owed x.owed)
  where
    on : (v : Bool) → Settles k g (if v then Some (LogRec.End x.node x.key x.side) else None)
    on true = ends_kept k g x kept
    on false = settles_nothing k g x kept
settles k g x KeptEvent.Purge kept = ends_kept k g x kept

-- a record of a kept transaction is of its tree
kept_tree : (t : Aaid) (x : Kept) (f : KeptEvent) → rec_of_tree t (settled x f).rec ≡ true → is_aaid t x.key.aaid ≡ true
unfolding settled
kept_tree t x (KeptEvent.Done a b r) h = grind (arith, h)
kept_tree t x KeptEvent.Forget h = grind (arith, h)
kept_tree t x KeptEvent.Purge h = h

kept_step : (t : Aaid) (k : NodeKey) (g : Stage) (x : Kept) (f : KeptEvent) → is_aaid t x.key.aaid ≡ true → log_step t k g (settled x f).rec ≡ own_stage k g (settled x f).rec
unfolding settled
kept_step t k g x (KeptEvent.Done a b r) h = grind (arith, h)
kept_step t k g x KeptEvent.Forget h = grind (arith, h)
kept_step t k g x KeptEvent.Purge h = of_its_tree t k g (LogRec.End x.node x.key x.side) h

-- what keeps something is current only where it rolls
kept_fits : (p : Phase) (o : Option Outcome) (g u : Stage) → (g ≡ Stage.Damaged) ⊎ (g ≡ Stage.Backed) → is_away u ≡ true → fits p o g ≡ true → fits p o u ≡ true
kept_fits p o g u (inl i) away h = on p o (ap (fits p o) (sym i) ∙ h)
  where
    on : (p : Phase) (o : Option Outcome) → fits p o Stage.Damaged ≡ true → fits p o u ≡ true
    on Phase.Nil o j = away
    on Phase.Rolling o j = away
    on Phase.Active None j = absurd (cc (j))
    on Phase.Active (Some v) j = absurd (cc (j))
    on Phase.Ready o j = absurd (cc (j))
    on Phase.Committing o j = absurd (cc (j))
kept_fits p o g u (inr i) away h = on p o (ap (fits p o) (sym i) ∙ h)
  where
    on : (p : Phase) (o : Option Outcome) → fits p o Stage.Backed ≡ true → fits p o u ≡ true
    on Phase.Nil o j = away
    on Phase.Rolling o j = away
    on Phase.Active None j = absurd (cc (j))
    on Phase.Active (Some v) j = absurd (cc (j))
    on Phase.Ready o j = absurd (cc (j))
    on Phase.Committing o j = absurd (cc (j))

kept_side : (k : NodeKey) (g : Stage) (x : Kept) → Keeps k g x → (g ≡ Stage.Damaged) ⊎ (g ≡ Stage.Backed)
kept_side k g x (Commitment i j l) = inl i
kept_side k g x (Rollback i j l n) = inr i

not_blank : (k : NodeKey) (g : Stage) (x : Kept) → Keeps k g x → g ≡ Stage.Blank → ⊥
not_blank k g x (Commitment i j l) b = cc (i, b)
not_blank k g x (Rollback i j l n) b = cc (i, b)

keeps : (who : Who) (t : Aaid) (k : NodeKey) (d : Digest) (x : Kept) (f : KeptEvent) → IsFound d.kept x → IsStagedMove who t k d (keep (settled x f) d)
keeps who t k d x f found g fit = go (is_aaid t x.key.aaid) refl
  where
    m : Move
    m = keep (settled x f) d

    other : is_aaid t x.key.aaid ≡ false → (b : Bool) → rec_of_tree t (settled x f).rec ≡ b → rec_of_tree t (settled x f).rec ≡ false
    other i false j = j
    other i true j = absurd (cc (i, kept_tree t x f j))

    -- what is found is this one, but for what is noted of it
    like : (y : Kept) → ◌≡◌ {A = Kept} (record y { forgot = false }) (record x { forgot = false }) → Keeps k g y → Keeps k g x
    like y same (Commitment i j l) = Commitment i (ap (λ (v : Kept). v.key) (sym same) ∙ j) (ap (λ (v : Kept). v.side) (sym same) ∙ l)
    like y same (Rollback i j l n) = Rollback i (ap (λ (v : Kept). v.key) (sym same) ∙ j) (ap (λ (v : Kept). v.side) (sym same) ∙ l) (ap (λ (v : Kept). is_nothing_owed v.owed) (sym same) ∙ n)

    go : (b : Bool) → is_aaid t x.key.aaid ≡ b → StagedMove who t k g m
    go false i =
        let steps : log_step t k g (settled x f).rec ≡ Some g = not_of_tree t k g (settled x f).rec (other i (rec_of_tree t (settled x f).rec) refl) in
        record { next = g; steps = steps; fits = record { now = fit.now; away = fit.away; kept = sides_after t k g g (settled x f).rec d.kept fit.kept steps; old = fit.old; fresh = fit.fresh } }
    go true i =
        let own : is_aaid t (found.0).key.aaid ≡ true = ap (λ (v : Kept). is_aaid t v.key.aaid) found.2 ∙ i in
        let held : Keeps k g x = like found.0 found.2 (keeps_as t k g d.kept x.key found.0 fit.kept found.1 own) in
        let s : Settles k g (settled x f).rec = settles k g x f held in
        let steps : log_step t k g (settled x f).rec ≡ Some s.next = kept_step t k g x f i ∙ s.steps in
        record {
          next = s.next;
          steps = steps;
          fits = record {
            now = λ c is own. let n = fit.now c is own in (n.0, kept_fits c.phase c.decision g s.next (kept_side k g x held) s.away n.1);
            away = λ n. s.away;
            kept = sides_after t k g s.next (settled x f).rec d.kept fit.kept steps;
            old = fit.old;
            fresh = λ o. absurd (not_blank k g x held (fit.fresh o).0);
          };
        }

-- ---- transactions begin

not_old : (who : Who) (d e : Digest) (t : Aaid) → e.boot ≡ d.boot → d.drawn ≤ e.drawn → is_old who e t.mark ≡ false → is_old who d t.mark ≡ false
not_old who d e t b n h = go (is_old who d t.mark) refl
  where
    go : (v : Bool) → is_old who d t.mark ≡ v → is_old who d t.mark ≡ false
    go false i = i
    go true i = absurd (cc (old_kept who d e t.mark b n i, h))

begins : (who : Who) (t : Aaid) (k : NodeKey) (d : Digest) (q : ℕ) → IsStagedMove who t k d (begin_on who q d)
begins who t k d q g fit = begin_cases (StagedMove who t k g) who q d (quiet who t k d (move [] d) refl refl refl refl refl g fit) on
  where
    on : (c : Current) (a : Arc) → d.current ≡ Some c → find_arc d.arcs q ≡ Some a → may_begin_on who d a ≡ true → StagedMove who t k g (begun_over who q d c a)
    on c a now found may =
        let m : Move = begun_over who q d c a in
        let u : Transaction = (transacted (TxEvent.Begun (record { addr = a.peer; branch = record { superior = who.site; mark = next_mark who d } } ∷ [])) (seen who d.arcs c)).next in
        let at : m.next.current ≡ remaining u = refl in
        record {
          next = g;
          steps = refl;
          fits = record {
            now = λ v is own.
                let l = left_is u v is in
                let n = fit.now c now (ap (λ (x : _). is_aaid t (aaid_of x)) (sym l.0) ∙ own) in (
                  ap node_key l.0 ∙ n.0,
                  ap (λ (p : Phase). fits p v.decision g) l.1 ∙ ap (λ (o : Option Outcome). fits c.phase o g) l.2 ∙ n.1,
                );
            away = λ n. gone c now n;
            kept = fit.kept;
            old = λ n. old_kept who d m.next t.mark refl (omega arith) (fit.old (ap (is_now t) now ∙ left_now t u (is_aaid t (aaid_of c.key)) refl n));
            fresh = λ o. fit.fresh (not_old who d m.next t refl (omega arith) o);
          };
        }
      where
        gone : (c : Current) → d.current ≡ Some c → is_now t (remaining (transacted (TxEvent.Begun (record { addr = a.peer; branch = record { superior = who.site; mark = next_mark who d } } ∷ [])) (seen who d.arcs c)).next) ≡ false → is_away g ≡ true
        gone c now n = go (is_aaid t (aaid_of c.key)) refl
          where
            go : (b : Bool) → is_aaid t (aaid_of c.key) ≡ b → is_away g ≡ true
            go false i = fit.away (ap (is_now t) now ∙ i)
            go true i = nil_away c.phase c.decision g (nil_left t (transacted (TxEvent.Begun (record { addr = a.peer; branch = record { superior = who.site; mark = next_mark who d } } ∷ [])) (seen who d.arcs c)).next i n) (fit.now c now i).1

root_fits : (who : Who) (t : Aaid) (k : NodeKey) (g : Stage) (d : Digest) → is_nil (phase_of d) ≡ true → Fits who t k g d
    → Fits who t k g (record (with_mark_drawn d) { current = Some (fresh_current (Root (record { owner = who.site; mark = next_mark who d }))) })
root_fits who t k g d nil fit = record {
  now = λ c is own. subst (λ (v : Current). (node_key v.key ≡ k) × (fits v.phase v.decision g ≡ true)) (some_same (fresh_current (Root u)) c is) (new (ap (λ (v : Current). is_aaid t (aaid_of v.key)) (some_same (fresh_current (Root u)) c is) ∙ own));
  away = λ n. gone d.current refl;
  kept = fit.kept;
  old = λ n. ap (λ (v : Aaid). is_old who e v.mark) (aaids_equal t u n) ∙ drawn_old who d e refl (omega arith);
  fresh = λ o. fit.fresh (not_old who d e t refl (omega arith) o);
}
  where
    u : Aaid
    u = record { owner = who.site; mark = next_mark who d }

    e : Digest
    e = record (with_mark_drawn d) { current = Some (fresh_current (Root u)) }

    new : is_aaid t u ≡ true → (node_key (Root u) ≡ k) × (fits Phase.Active None g ≡ true)
    new i =
        let same : t ≡ u = aaids_equal t u i in
        let f = fit.fresh (ap (λ (v : Aaid). is_old who d v.mark) same ∙ new_mark who d) in (
          ap (λ (v : Aaid). record { aaid = v; branch = None }) (sym same) ∙ sym f.1,
          ap (λ (v : Stage). fits Phase.Active None v) f.0,
        )

    gone : (o : Option Current) → d.current ≡ o → is_away g ≡ true
    gone None i = fit.away (ap (is_now t) i)
    gone (Some c) i = on (is_aaid t (aaid_of c.key)) refl
      where
        over : is_nil c.phase ≡ true
        over = ap (λ (v : Option Current). is_nil (elim v as (λ _. Phase) [ None ↦ Phase.Nil | Some x ↦ x.phase ])) (sym i) ∙ nil

        on : (b : Bool) → is_aaid t (aaid_of c.key) ≡ b → is_away g ≡ true
        on false j = fit.away (ap (is_now t) i ∙ j)
        on true j = nil_away c.phase c.decision g over (fit.now c i j).1

-- ---- the steps of a node

pub staged_moves : (who : Who) (e : Event) (s : Digest) (t : Aaid) (k : NodeKey) → Moves who e s (IsStagedMove who t k)
staged_moves who e s t k = record {
  still = λ d. quiet who t k d (move [] d) refl refl refl refl refl;
  chain = λ d a f one two still. chained who t k d a f one two still;
  speaks = λ d outs h own said. quiet who t k d (perform outs d) refl refl refl refl refl;
  changes_dialogue = λ d p f m by one g fit. one g (fits_arcs who t k g d _ refl refl refl refl fit);
  drops_arc = λ d p m at one g fit. one g (fits_arcs who t k g d _ refl refl refl refl fit);
  notes_kept = λ d ks m held one g fit. one g (fits_arcs who t k g d _ refl (sides_same t ks d.kept held.1) refl refl fit);
  keeps = λ d x f held. keeps who t k d x f held.3;
  turns = λ d c f now at asked put gone. turns who t k f d c now put;
  begins = λ d q free. begins who t k d q;
  roots = λ d m nil may one g fit. let r = one g (root_fits who t k g d nil fit) in record { next = r.next; steps = r.steps; fits = r.fits };
}
