-- What one history tells of one tree, as far as the page asks: how a node enters, what its first Ready, decision and Commit stand on, and what a
-- crash and a declaration change.
use Rattle.std.proofs.Common.{◌≡◌, ◌⊎◌, inl, inr, ℕ, Bool, true, false, refl, ap, sym, subst, ◌∙◌, arith, Option, Some, None, List, [], ◌∷◌, ◌&&◌, ◌||◌}
use Rattle.tp_names.specs.declared.identifiers.Aaid.{Aaid}
use Rattle.tp_names.specs.declared.identifiers.BranchId.{BranchId}
use Rattle.tp_names.specs.declared.identifiers.NodeKey.{NodeKey}
use Rattle.tp_names.specs.declared.identifiers.Addr.{Addr}
use Rattle.tp_names.specs.declared.children.Child.{Child}
use Rattle.tp_names.specs.declared.outcome.Outcome.{Outcome}
use Rattle.tp_names.specs.Same.{is_aaid}
use Rattle.tp_records.specs.declared.request.Request.{Request}
use Rattle.tp_logrec.specs.declared.record.LogRec.{LogRec}
use Rattle.tp_model.specs.declared.arc.Phase.{Phase}
use Rattle.tp_model.specs.Parts.{Who, Origin, Event, Entry, Key, Root, Under, Current, Digest}
use Rattle.tp_model.specs.Dialogues.{is_active, is_ready, is_rolling}
use Rattle.tp_model.specs.Transactions.{aaid_of, node_key, superior_of, is_under}
use Rattle.tp_model.specs.Requests.{refused_request}
use Rattle.tp_model.specs.Recovery.{is_root_key}
use Rattle.tp_model.specs.Node.{phase_of, fresh_current}
use Rattle.tp_model.specs.Events.{action, refusal, verdict}
use Rattle.tp_model.specs.History.{digest, records, with_rec}
use Rattle.tp_model.specs.Outcomes.{is_now, is_member, has_commit_of, last_decision, decided, decision, rolls, rolled, is_crash_in_active, is_unchanged, has_left, completed_none, tells_complete_none}
use Rattle.tp_model.specs.Promises.{is_of_tree, has_record}
use Rattle.tp_model.specs.Legal.{IsGrown}
use Rattle.tp_steps.specs.Moves.{prelude, IsLate}
use Rattle.tp_steps.specs.Facts.{has_ready_of}
use Rattle.tp_steps.specs.Trees.{IsLoggedIn, IsDrawn, IsTreed, commits_tree}
use Rattle.tp_histories.specs.Members.{is_own, is_known, is_begun_by, has_taken_begin, IsOnce}
use Rattle.tp_histories.specs.Fates.{readies_tree, has_ready_in, IsFated}
use Rattle.tp_forced.specs.TreeLog.{Stage, of_tree, stage, after_record}
use Rattle.tp_steps.proofs.lemmas.Equality.{aaids_equal, or_case, and_left, and_right}
use Rattle.tp_steps.proofs.lemmas.Options.{some_same}
use Rattle.tp_steps.proofs.words.Leaves.{branch_same}
use Rattle.tp_steps.proofs.words.Treed.{now_some, drawn_new}
use Rattle.tp_steps.proofs.branches.Rolls.{phase_at}
use Rattle.tp_steps.proofs.log.Owned.{key_aaid}
use Rattle.tp_histories.proofs.trees.Late.{late_law, late_prelude}
use Rattle.tp_histories.proofs.trees.Fated.{fated_law}
use Rattle.tp_histories.proofs.trees.Knowing.{Came, As_it_was, By_begin, By_crash, came_by, now_prelude, old_prelude, treed_event}
use Rattle.tp_histories.proofs.trees.Entered.{Entered, Crashed, Begun, Plain, entered}
use Rattle.tp_histories.proofs.trees.Above.{IsKeyOf, key_law, recovered_key}
use Rattle.tp_histories.proofs.trees.Behind.{readies_opt, ready_case, commit_case, LoggedNow, commit_logged, ready_logged, same_phase, no_open_rolling}
use Rattle.tp_histories.proofs.worlds.TreeMembers.{own_untaken, known_old}
use Rattle.tp_runs.proofs.Bare.{bare_law, unchanged_is}
use Rattle.tp_runs.proofs.Left.{left_law}
use Rattle.tp_runs.proofs.Hanging.{member_head}
use Rattle.tp_runs.proofs.KnownKeys.{crash_next}
use Rattle.tp_model.specs.Questions.{is_crash}
use Rattle.tp_agreement.proofs.BelowRuns.{current_took, ready_took}
use Rattle.tp_agreement.proofs.ReadyDown.{took_taken}
use Rattle.tp_reports.proofs.ClearedLaw.{IsCleared, cleared_law}
use Rattle.tp_steps.proofs.lemmas.Words.{ready_more as ready_more_of}
use Rattle.tp_forced.proofs.Stages.{fits, is_away}
use Rattle.tp_forced.proofs.TreeLogs.{IsStagedLog, staged_law}
use Rattle.tp_forced.proofs.Forced.{Newest, newest}
use Rattle.tp_steps.proofs.log.ApartLog.{keys_equal}

-- the history of a node whose log was empty when it was declared: each event was accepted, and no Begin of a tree is taken twice
pub record Sound (o : Origin) (up : Option Addr) (h : List Entry) : Type 0 where
  pub empty : o.start.records ≡ []
  pub legal : IsGrown o up h
  pub once : IsOnce o h

pub earlier : (o : Origin) (up : Option Addr) (e : Entry) (h : List Entry) → Sound o up (e ∷ h) → Sound o up h
earlier o up e h k = record { empty = k.empty; legal = k.legal.3; once = k.once.1 }

pub not_true : (b : Bool) → (b ≡ true → ⊥) → b ≡ false
not_true false h = refl
not_true true h = absurd (h refl)

-- ---- the records that an entry adds

abbrev heuristic_opt : Aaid → Option LogRec → Bool
heuristic_opt t (Some (LogRec.Heuristic n k u)) = is_aaid t k.aaid
heuristic_opt t _ = false

heuristic_logged : (t : Aaid) (s : Digest) (r : Option LogRec) → IsLoggedIn t s r → heuristic_opt t r ≡ true → LoggedNow t s
heuristic_logged t s (Some (LogRec.Heuristic n k u)) l h =
    let x = l h in
    record { now = ap (is_now t) x.1 ∙ ap (is_aaid t) (sym (ap (λ (v : NodeKey). v.aaid) x.2 ∙ key_aaid x.0.key)) ∙ h; phase = ap (λ (p : Phase). is_active p || is_ready p) (phase_at s x.0 x.1) ∙ x.3 }
heuristic_logged t s _ l h = absurd (cc (h))

decision_case : (t : Aaid) (r : Option LogRec) (rs : List LogRec) (u : Outcome) → last_decision t (with_rec r rs) ≡ Some u → (heuristic_opt t r ≡ true) ⊎ (last_decision t rs ≡ Some u)
decision_case t (Some (LogRec.Heuristic n k v)) rs u h = go (is_aaid t k.aaid) refl
  where
    go : (b : Bool) → is_aaid t k.aaid ≡ b → (is_aaid t k.aaid ≡ true) ⊎ (last_decision t rs ≡ Some u)
    go true i = inl i
    go false i = inr (let same : last_decision t (LogRec.Heuristic n k v ∷ rs) ≡ last_decision t rs = rw (i, last_decision) refl in sym same ∙ h)
decision_case t None rs u h = inr h
decision_case t (Some (LogRec.Boot n)) rs u h = inr h
decision_case t (Some (LogRec.Ready n k s cs)) rs u h = inr h
decision_case t (Some (LogRec.Commit n k s cs)) rs u h = inr h
decision_case t (Some (LogRec.Damage n k s o p cs)) rs u h = inr h
decision_case t (Some (LogRec.End n k o)) rs u h = inr h

pub decision_record : (t : Aaid) (rs : List LogRec) (u : Outcome) → last_decision t rs ≡ Some u → has_record (is_of_tree t) rs ≡ true
decision_record t [] u h = absurd (cc (h))
decision_record t (r ∷ rs) u h = elim (decision_case t (Some r) rs u h) [ inl i ↦ first r i | inr i ↦ later (is_of_tree t r) (has_record (is_of_tree t) rs) (decision_record t rs u i) ]
  where
    first : (r : LogRec) → heuristic_opt t (Some r) ≡ true → has_record (is_of_tree t) (r ∷ rs) ≡ true
    first (LogRec.Heuristic n k v) i = rw i refl
    first _ i = absurd (cc (i))

    later : (x y : Bool) → y ≡ true → (x || y) ≡ true
    later true y i = refl
    later false y i = i

pub ready_more : (t : Aaid) (r : Option LogRec) (rs : List LogRec) → has_ready_in t rs ≡ true → has_ready_in t (with_rec r rs) ≡ true
ready_more t None rs h = h
ready_more t (Some r) rs h = later (readies_tree t r) (has_ready_in t rs) h
  where
    later : (x y : Bool) → y ≡ true → (x || y) ≡ true
    later true y i = refl
    later false y i = i

-- ---- an event, as it is told of its node

logs_of : (o : Origin) (up : Option Addr) (e : Entry) (h : List Entry) (t : Aaid) → Sound o up (e ∷ h) → IsLoggedIn t (prelude o.who (digest o h) e.event) e.rec
logs_of o up e h t k =
    subst (λ (r : Option LogRec). IsLoggedIn t (prelude o.who (digest o h) e.event) r) (ap (λ (v : Entry). v.rec) k.legal.1) (treed_event o.who (digest o h) e.event t 0 (late_law o up h k.legal.3) k.legal.0).logs

-- ---- a node enters a tree

pub record Fresh (o : Origin) (h : List Entry) (t : Aaid) : Type 0 where
  pub unready : has_ready_in t (records o h) ≡ false
  pub uncommitted : decided o t h ≡ false
  pub undecided : decision o t h ≡ None
  pub unrolled : rolled o t h ≡ false
  pub unleft : has_left o t h ≡ false
  pub unclear : completed_none o t h ≡ false

-- of a tree that it enters it knew nothing, and it logs nothing of it
record Enters (o : Origin) (e : Entry) (h : List Entry) (t : Aaid) : Type 0 where
  unknown : is_known o t h ≡ true → ⊥
  quiet : is_now t (prelude o.who (digest o h) e.event).current ≡ true → e.rec ≡ None

enters : (o : Origin) (up : Option Addr) (e : Entry) (h : List Entry) (t : Aaid) → Sound o up (e ∷ h) → is_member o t h ≡ false → is_now t (digest o (e ∷ h)).current ≡ true → Enters o e h t
enters o up e h t k out now = go (entered o e h k.legal.0)
  where
    d : Digest
    d = digest o h

    s : Digest
    s = prelude o.who d e.event

    not_now : is_now t d.current ≡ true → ⊥
    not_now n = cc (member_head o t h n, out)

    treed : IsTreed o.who s true t 0 s (action o.who d e.event)
    treed = treed_event o.who d e.event t 0 (late_law o up h k.legal.3) k.legal.0

    late : IsLate s
    late = late_prelude o.who d e.event (late_law o up h k.legal.3)

    drawn : IsDrawn o.who s (action o.who d e.event).next t → is_known o t h ≡ true → ⊥
    drawn x known = drawn_new o.who s (action o.who d e.event).next t x (old_prelude o.who d e.event t.mark (known_old o h t k.once.1 known))

    begun : is_begun_by t e.event ≡ true → is_known o t h ≡ true → ⊥
    begun b known = let f = k.once.0 t b in let none : is_known o t h ≡ false = rw (f.0, f.1) refl in cc (known, none)

    unknown : is_known o t h ≡ true → ⊥
    unknown known = elim (treed.enters late now) [
      | inl i ↦ elim (now_prelude o.who d e.event t k.legal.0 i) [ inl j ↦ not_now j | inr j ↦ begun j known ]
      | inr x ↦ drawn x known
    ]

    go : Entered o e h → Enters o e h t
    go (Crashed i) = absurd (crashed (now_some t (digest o (e ∷ h)).current now))
      where
        crashed : (c : Current) × ((digest o (e ∷ h)).current ≡ Some c) × (is_aaid t (aaid_of c.key) ≡ true) → ⊥
        crashed c =
            let x = recovered_key d.current c.0 (sym (crash_next o e h (ap is_crash i)) ∙ c.1) in
            not_now (ap (is_now t) x.1 ∙ ap (λ (v : Key). is_aaid t (aaid_of v)) (sym x.2) ∙ c.2)
    go (Begun from u b a begun calm cur nil quiet sent) = record { unknown = unknown; quiet = λ n. ap (λ (v : Entry). v.rec) (sym k.legal.1) ∙ quiet.2 }
    go (Plain calm begun same) = record { unknown = unknown; quiet = λ n. absurd (not_now (ap (is_now t) (sym same) ∙ n)) }

pub entering_fresh : (o : Origin) (up : Option Addr) (e : Entry) (h : List Entry) (t : Aaid) → Sound o up (e ∷ h) → is_member o t h ≡ false → is_now t (digest o (e ∷ h)).current ≡ true → Fresh o (e ∷ h) t
entering_fresh o up e h t k out now = record {
  unready = not_true (has_ready_in t (records o (e ∷ h))) (λ r. elim (ready_case t e.rec (records o h) r) [
    | inl i ↦ unlogged (ready_logged t s e.rec logs i) (λ none. cc (ap (readies_opt t) none, i))
    | inr i ↦ f.unknown (fated.ready_known i)
  ]);
  uncommitted = not_true (decided o t (e ∷ h)) (λ r. elim (commit_case t e.rec (records o h) r) [
    | inl i ↦ unlogged (commit_logged t s e.rec logs i) (λ none. no_commit e.rec none i)
    | inr i ↦ f.unknown (fated.commit_known i)
  ]);
  undecided = undecided (decision o t (e ∷ h)) refl;
  unrolled = off (rolls o.who d e.event || is_crash_in_active d e.event) (rolled o t h) (not_true (rolled o t h) (λ r. f.unknown (fated.rolled_known r)));
  unleft = off (is_unchanged e.event) (has_left o t h) (not_true (has_left o t h) (λ r. f.unknown (left_law o up h t k.empty k.legal.3 k.once.1 r).known));
  unclear = off (tells_complete_none e.outs) (completed_none o t h) (not_true (completed_none o t h) (λ r. f.unknown (fated.commit_known (cleared.clear_decided (cleared.completed r)))));
}
  where
    d : Digest
    d = digest o h

    s : Digest
    s = prelude o.who d e.event

    f : Enters o e h t
    f = enters o up e h t k out now

    fated : IsFated o h t
    fated = fated_law o up h t k.empty k.legal.3 k.once.1

    cleared : IsCleared o h t
    cleared = cleared_law o up h t k.empty k.legal.3 k.once.1

    logs : IsLoggedIn t s e.rec
    logs = logs_of o up e h t k

    unlogged : LoggedNow t s → (e.rec ≡ None → ⊥) → ⊥
    unlogged l some = some (f.quiet l.now)

    no_commit : (r : Option LogRec) → r ≡ None → commits_tree t r ≡ true → ⊥
    no_commit None i c = cc (c)
    no_commit (Some r) i c = cc (i)

    no_heuristic : (r : Option LogRec) → r ≡ None → heuristic_opt t r ≡ true → ⊥
    no_heuristic None i c = cc (c)
    no_heuristic (Some r) i c = cc (i)

    undecided : (v : Option Outcome) → decision o t (e ∷ h) ≡ v → decision o t (e ∷ h) ≡ None
    undecided None i = i
    undecided (Some u) i = absurd (elim (decision_case t e.rec (records o h) u i) [
      | inl j ↦ unlogged (heuristic_logged t s e.rec logs j) (λ none. no_heuristic e.rec none j)
      | inr j ↦ f.unknown ((bare_law o up h t k.empty k.legal.3 k.once.1).known (decision_record t (records o h) u j))
    ])

    -- what counts while the tree is current does not count now
    off : (x y : Bool) → y ≡ false → (is_now t d.current && x || y) ≡ false
    off x y i = let none : is_now t d.current ≡ false = not_true (is_now t d.current) (λ n. cc (member_head o t h n, out)) in rw (none, i) refl

-- ---- whose branch it is

under_is : (k : NodeKey) (c : Key) (a : Addr) → k ≡ node_key c → superior_of c ≡ Some a → (u : Aaid) × (b : BranchId) × (c ≡ Under u b a) × (k ≡ record { aaid = u; branch = Some b })
under_is k (Root u) a i s = absurd (cc (s))
under_is k (Under u b f) a i s = let at : f ≡ a = cc (s) in (u, b, ap (λ (v : Addr). Under u b v) at, i)

named : (t : Aaid) (n : ℕ) (j : NodeKey) (a : Addr) (cs : List Child) (rs : List LogRec) (u : Aaid) (b : BranchId) → j ≡ record { aaid = u; branch = Some b } → is_aaid t u ≡ true → has_ready_of (t, b) (LogRec.Ready n j a cs ∷ rs) ≡ true
named t n j a cs rs u b is tree = rw (is, tree, branch_same b) refl

-- a Ready of the tree is of one branch
pub ready_branch : (o : Origin) (up : Option Addr) (h : List Entry) (t : Aaid) → Sound o up h → has_ready_in t (records o h) ≡ true → (b : BranchId) × (has_ready_of (t, b) (records o h) ≡ true)
ready_branch o up [] t k r = absurd (let none : has_ready_in t (records o []) ≡ false = rw (k.empty) refl in cc (r, none))
ready_branch o up (e ∷ h) t k r = go (ready_case t e.rec (records o h) r) (ready_branch o up h t (earlier o up e h k))
  where
    s : Digest
    s = prelude o.who (digest o h) e.event

    here : (v : Option LogRec) → IsLoggedIn t s v → readies_opt t v ≡ true → (b : BranchId) × (has_ready_of (t, b) (with_rec v (records o h)) ≡ true)
    here (Some (LogRec.Ready n j a cs)) l i =
        let c = l i in
        let u = under_is j c.0.key a c.2 c.3 in
        let tree : is_aaid t u.0 ≡ true = ap (λ (v : NodeKey). is_aaid t v.aaid) (sym u.3) ∙ i in
        (u.1, named t n j a cs (records o h) u.0 u.1 u.3 tree)
    here _ l i = absurd (cc (i))

    go : (readies_opt t e.rec ≡ true) ⊎ (has_ready_in t (records o h) ≡ true) → (has_ready_in t (records o h) ≡ true → (b : BranchId) × (has_ready_of (t, b) (records o h) ≡ true)) → (b : BranchId) × (has_ready_of (t, b) (records o (e ∷ h)) ≡ true)
    go (inl i) rest = here e.rec (logs_of o up e h t k) i
    go (inr i) rest = let b = rest i in (b.0, ready_more_of (t, b.0) e.rec (records o h) b.1)

-- a node that logged Ready of a tree, or left it, took its Begin; so it is not the node's own
pub ready_foreign : (o : Origin) (up : Option Addr) (h : List Entry) (t : Aaid) → Sound o up h → has_ready_in t (records o h) ≡ true → is_own o.who t ≡ true → ⊥
ready_foreign o up h t k r own =
    let b = ready_branch o up h t k r in
    let took = ready_took o up h (t, b.0) k.empty k.legal b.1 in
    cc (took_taken t b.0 took.from took.x took.y took.seq took.holder h took.took, own_untaken o t h k.once own)

left_under : (who : Who) (d : Digest) (c : Current) → d.current ≡ Some c → refusal who d (Event.Do Request.Unchanged) ≡ None → is_under c.key ≡ true
unfolding refusal verdict refused_request
left_under who d c now ok = grind (arith, ok, now)

pub left_foreign : (o : Origin) (up : Option Addr) (h : List Entry) (t : Aaid) → Sound o up h → has_left o t h ≡ true → is_own o.who t ≡ true → ⊥
left_foreign o up [] t k l own = absurd (cc (l))
left_foreign o up (e ∷ h) t k l own = go (or_case (is_now t d.current && is_unchanged e.event) (has_left o t h) l) (λ i. left_foreign o up h t (earlier o up e h k) i own)
  where
    d : Digest
    d = digest o h

    on : (c : Current) → d.current ≡ Some c → is_aaid t (aaid_of c.key) ≡ true → (j : Key) → c.key ≡ j → is_under j ≡ true → ⊥
    on c at tree (Root u) i under = cc (under)
    on c at tree (Under u b a) i under =
        let same : t ≡ u = aaids_equal t u (ap (λ (v : Key). is_aaid t (aaid_of v)) (sym i) ∙ tree) in
        let took = current_took o up h c u b a k.empty k.legal.3 at i in
        let taken : has_taken_begin t h ≡ true = ap (λ (v : Aaid). has_taken_begin v h) same ∙ took_taken u b took.from took.x took.y took.seq took.holder h took.took in
        cc (taken, own_untaken o t h k.once.1 own)

    go : ((is_now t d.current && is_unchanged e.event) ≡ true) ⊎ (has_left o t h ≡ true) → (has_left o t h ≡ true → ⊥) → ⊥
    go (inr i) rest = rest i
    go (inl i) rest =
        let c = now_some t d.current (and_left (is_now t d.current) (is_unchanged e.event) i) in
        let is = unchanged_is e.event (and_right (is_now t d.current) (is_unchanged e.event) i) in
        on c.0 c.1 c.2 c.0.key refl (left_under o.who d c.0 c.1 (ap (refusal o.who d) (sym is) ∙ k.legal.0))

-- ---- what the log of a tree says at its stage

record Says (t : Aaid) (rs : List LogRec) (g : Stage) : Type 0 where
  blank : g ≡ Stage.Blank → (has_ready_in t rs ≡ false) × (has_commit_of t rs ≡ false) × (last_decision t rs ≡ None)
  voted : g ≡ Stage.Voted → (has_ready_in t rs ≡ true) × (has_commit_of t rs ≡ false) × (last_decision t rs ≡ None)
  decides : (u : Outcome) → g ≡ Stage.Decided u → (has_ready_in t rs ≡ true) × (has_commit_of t rs ≡ false)

-- the newest record of the tree
newest_of : (t : Aaid) (k : NodeKey) (r : LogRec) (rs : List LogRec) (g : Stage) → is_of_tree t r ≡ true → stage k (of_tree t (r ∷ rs)) ≡ Some g → Newest k r (of_tree t rs) g
newest_of t k r rs g i h = newest k r (of_tree t rs) g (sym (ap (λ (b : Bool). stage k (elim b as (λ _. List LogRec) [ true ↦ r ∷ of_tree t rs | false ↦ of_tree t rs ])) i) ∙ h)

older_stage : (t : Aaid) (k : NodeKey) (r : LogRec) (rs : List LogRec) (g : Stage) → is_of_tree t r ≡ false → stage k (of_tree t (r ∷ rs)) ≡ Some g → stage k (of_tree t rs) ≡ Some g
older_stage t k r rs g i h = sym (ap (λ (b : Bool). stage k (elim b as (λ _. List LogRec) [ true ↦ r ∷ of_tree t rs | false ↦ of_tree t rs ])) i) ∙ h

-- a record of another tree says nothing of it
says_other : (t : Aaid) (r : LogRec) (rs : List LogRec) (g : Stage) → is_of_tree t r ≡ false → Says t rs g → Says t (r ∷ rs) g
says_other t (LogRec.Ready n k s cs) rs g i y = record {
  blank = λ is. let b = y.blank is in (rw i (b.0), b.1, b.2);
  voted = λ is. let b = y.voted is in (rw i (b.0), b.1, b.2);
  decides = λ u is. let b = y.decides u is in (rw i (b.0), b.1);
}
says_other t (LogRec.Heuristic n k v) rs g i y = record {
  blank = λ is. let b = y.blank is in (b.0, b.1, same ∙ b.2);
  voted = λ is. let b = y.voted is in (b.0, b.1, same ∙ b.2);
  decides = λ u is. y.decides u is;
}
  where
    same : last_decision t (LogRec.Heuristic n k v ∷ rs) ≡ last_decision t rs
    same = rw (i, last_decision) refl
says_other t (LogRec.Commit n k s cs) rs g i y = record {
  blank = λ is. let b = y.blank is in (b.0, rw i (b.1), b.2);
  voted = λ is. let b = y.voted is in (b.0, rw i (b.1), b.2);
  decides = λ u is. let b = y.decides u is in (b.0, rw i (b.1));
}
says_other t (LogRec.Boot n) rs g i y = record { blank = y.blank; voted = y.voted; decides = y.decides }
says_other t (LogRec.Damage n k s o p cs) rs g i y = record { blank = y.blank; voted = y.voted; decides = y.decides }
says_other t (LogRec.End n k o) rs g i y = record { blank = y.blank; voted = y.voted; decides = y.decides }

blank_before : (k : NodeKey) (b g : Stage) (n : ℕ) (j : NodeKey) (s : Addr) (cs : List Child) → after_record k b (LogRec.Ready n j s cs) ≡ Some g → (b ≡ Stage.Blank) × (g ≡ Stage.Voted)
blank_before k b g n j s cs h = grind (arith, h)

voted_before : (k : NodeKey) (b g : Stage) (n : ℕ) (j : NodeKey) (o : Outcome) → after_record k b (LogRec.Heuristic n j o) ≡ Some g → (b ≡ Stage.Voted) × (g ≡ Stage.Decided o)
voted_before k Stage.Voted g n j o h = (refl, sym (some_same (Stage.Decided o) g h))
voted_before k _ g n j o h = absurd (cc (h))

-- a Commit stands on a Ready, but at a root
data Ordering (k : NodeKey) (b : Stage) : Type 0 where
  On_nothing : b ≡ Stage.Blank → is_root_key k ≡ true → Ordering k b
  On_vote : b ≡ Stage.Voted → Ordering k b
  On_decision : (u : Outcome) → b ≡ Stage.Decided u → Ordering k b

order_before : (k : NodeKey) (b g : Stage) (n : ℕ) (j : NodeKey) (s : Option Addr) (cs : List Child) → after_record k b (LogRec.Commit n j s cs) ≡ Some g → (g ≡ Stage.Ordered) × Ordering k b
order_before k Stage.Blank g n j s cs h = go (is_root_key k) refl
  where
    go : (v : Bool) → is_root_key k ≡ v → (g ≡ Stage.Ordered) × Ordering k Stage.Blank
    go true i = (grind (arith, h, i), On_nothing refl i)
    go false i = absurd (grind (arith, h, i))
order_before k Stage.Voted g n j s cs h = (sym (some_same Stage.Ordered g h), On_vote refl)
order_before k (Stage.Decided u) g n j s cs h = (sym (some_same Stage.Ordered g h), On_decision u refl)
order_before k Stage.Ordered g n j s cs h = absurd (cc (h))
order_before k Stage.Damaged g n j s cs h = absurd (cc (h))
order_before k Stage.Backed g n j s cs h = absurd (cc (h))
order_before k Stage.Over g n j s cs h = absurd (cc (h))

-- later stages say nothing of these
abbrev is_later : Stage → Bool
is_later Stage.Ordered = true
is_later Stage.Damaged = true
is_later Stage.Backed = true
is_later Stage.Over = true
is_later _ = false

says_later : (t : Aaid) (rs : List LogRec) (g : Stage) → is_later g ≡ true → Says t rs g
says_later t rs g l = record {
  blank = λ is. absurd (cc (ap is_later (sym is) ∙ l));
  voted = λ is. absurd (cc (ap is_later (sym is) ∙ l));
  decides = λ u is. absurd (cc (ap is_later (sym is) ∙ l));
}

ends_later : (k : NodeKey) (b g : Stage) (r : LogRec) → after_record k b r ≡ Some g → ((n : ℕ) (j : NodeKey) (s : Addr) (cs : List Child) → r ≡ LogRec.Ready n j s cs → ⊥) → ((n : ℕ) (j : NodeKey) (o : Outcome) → r ≡ LogRec.Heuristic n j o → ⊥) → is_later g ≡ true
ends_later k b g (LogRec.Boot n) h a c = absurd (cc (h))
ends_later k b g (LogRec.Ready n j s cs) h a c = absurd (a n j s cs refl)
ends_later k b g (LogRec.Heuristic n j o) h a c = absurd (c n j o refl)
ends_later k b g (LogRec.Commit n j s cs) h a c = ap is_later (order_before k b g n j s cs h).0
ends_later k b g (LogRec.Damage n j s o p cs) h a c = grind (arith, h)
ends_later k b g (LogRec.End n j o) h a c = grind (arith, h)

log_says : (t : Aaid) (k : NodeKey) (rs : List LogRec) (g : Stage) → stage k (of_tree t rs) ≡ Some g → Says t rs g
log_says t k [] g h = record {
  blank = λ is. (refl, refl, refl);
  voted = λ is. absurd (cc (h, is));
  decides = λ u is. absurd (cc (h, is));
}
log_says t k (r ∷ rs) g h = go (is_of_tree t r) refl (λ b i. log_says t k rs b i)
  where
    own : (r : LogRec) → is_of_tree t r ≡ true → (b : Stage) → after_record k b r ≡ Some g → Says t rs b → Says t (r ∷ rs) g
    own (LogRec.Ready n j s cs) i b a y =
        let w = blank_before k b g n j s cs a in
        let v = y.blank w.0 in
        record { blank = λ is. absurd (cc (w.1, is)); voted = λ is. (rw i refl, v.1, v.2); decides = λ u is. absurd (cc (w.1, is)) }
    own (LogRec.Heuristic n j o) i b a y =
        let w = voted_before k b g n j o a in
        let v = y.voted w.0 in
        record { blank = λ is. absurd (cc (w.1, is)); voted = λ is. absurd (cc (w.1, is)); decides = λ u is. (v.0, v.1) }
    own (LogRec.Boot n) i b a y = absurd (cc (i))
    own (LogRec.Commit n j s cs) i b a y = says_later t (LogRec.Commit n j s cs ∷ rs) g (ends_later k b g (LogRec.Commit n j s cs) a (λ n j s cs i. cc (i)) (λ n j o i. cc (i)))
    own (LogRec.Damage n j s o p cs) i b a y = says_later t (LogRec.Damage n j s o p cs ∷ rs) g (ends_later k b g (LogRec.Damage n j s o p cs) a (λ n j s cs i. cc (i)) (λ n j o i. cc (i)))
    own (LogRec.End n j o) i b a y = says_later t (LogRec.End n j o ∷ rs) g (ends_later k b g (LogRec.End n j o) a (λ n j s cs i. cc (i)) (λ n j o i. cc (i)))

    go : (v : Bool) → is_of_tree t r ≡ v → ((b : Stage) → stage k (of_tree t rs) ≡ Some b → Says t rs b) → Says t (r ∷ rs) g
    go false i rest = says_other t r rs g i (rest g (older_stage t k r rs g i h))
    go true i rest = let n = newest_of t k r rs g i h in own r i n.before n.after (rest n.before n.stands)

staged_at : (o : Origin) (up : Option Addr) (h : List Entry) (t : Aaid) → Sound o up h → IsStagedLog o h t
staged_at o up h t k = staged_law o up h t k.empty k.legal k.once

-- what rolled back is in doubt no more
rolled_away : (o : Origin) (up : Option Addr) (h : List Entry) (t : Aaid) → (k : Sound o up h) → rolled o t h ≡ true → is_away (staged_at o up h t k).stage ≡ true
rolled_away o up h t k r = go (is_now t (digest o h).current) refl
  where
    l : IsStagedLog o h t
    l = staged_at o up h t k

    rolls_away : (p : Phase) (u : Option Outcome) (g : Stage) → is_rolling p ≡ true → fits p u g ≡ true → is_away g ≡ true
    rolls_away Phase.Rolling u g i f = f
    rolls_away Phase.Nil u g i f = absurd (cc (i))
    rolls_away Phase.Active u g i f = absurd (cc (i))
    rolls_away Phase.Ready u g i f = absurd (cc (i))
    rolls_away Phase.Committing u g i f = absurd (cc (i))

    go : (b : Bool) → is_now t (digest o h).current ≡ b → is_away l.stage ≡ true
    go false i = l.fits.away i
    go true i =
        let c = now_some t (digest o h).current i in
        let rolling : is_rolling c.0.phase ≡ true = ap is_rolling (sym (phase_at (digest o h) c.0 c.1)) ∙ (fated_law o up h t k.empty k.legal k.once).rolled_now r i in
        rolls_away c.0.phase c.0.decision l.stage rolling (l.fits.now c.0 c.1 c.2).1

-- ---- the first Ready, decision and Commit

-- what an entry logs of the tree, on what stage
record Logged (o : Origin) (e : Entry) (h : List Entry) (t : Aaid) (r : LogRec) : Type 0 where
  key : NodeKey
  stage : Stage
  new : Newest key r (of_tree t (records o h)) stage
  now : Says t (records o (e ∷ h)) stage
  before : Says t (records o h) new.before
  away : rolled o t (e ∷ h) ≡ true → is_away stage ≡ true

logged : (o : Origin) (up : Option Addr) (e : Entry) (h : List Entry) (t : Aaid) (r : LogRec) → Sound o up (e ∷ h) → e.rec ≡ Some r → is_of_tree t r ≡ true → Logged o e h t r
logged o up e h t r k is own = record {
  key = l.key;
  stage = l.stage;
  new = n;
  now = log_says t l.key (records o (e ∷ h)) l.stage l.stands;
  before = log_says t l.key (records o h) n.before n.stands;
  away = λ f. rolled_away o up (e ∷ h) t k f;
}
  where
    l : IsStagedLog o (e ∷ h) t
    l = staged_at o up (e ∷ h) t k

    n : Newest l.key r (of_tree t (records o h)) l.stage
    n = newest_of t l.key r (records o h) l.stage own (ap (λ (v : Option LogRec). stage l.key (of_tree t (with_rec v (records o h)))) (sym is) ∙ l.stands)

-- with the first Ready of a tree nothing of it is decided, committed or rolled back
pub record OpenStill (o : Origin) (h : List Entry) (t : Aaid) : Type 0 where
  pub uncommitted : decided o t h ≡ false
  pub undecided : decision o t h ≡ None
  pub unrolled : rolled o t h ≡ false

pub first_ready : (o : Origin) (up : Option Addr) (e : Entry) (h : List Entry) (t : Aaid) → Sound o up (e ∷ h) → has_ready_in t (records o h) ≡ false → has_ready_in t (records o (e ∷ h)) ≡ true → OpenStill o (e ∷ h) t
first_ready o up e h t k out there = elim (ready_case t e.rec (records o h) there) [ inl i ↦ go e.rec refl i | inr i ↦ absurd (cc (i, out)) ]
  where
    go : (r : Option LogRec) → e.rec ≡ r → readies_opt t r ≡ true → OpenStill o (e ∷ h) t
    go (Some (LogRec.Ready n j s cs)) is i =
        let l = logged o up e h t (LogRec.Ready n j s cs) k is i in
        let w = blank_before l.key l.new.before l.stage n j s cs l.new.after in
        let v = l.now.voted w.1 in
        record { uncommitted = v.1; undecided = v.2; unrolled = not_true (rolled o t (e ∷ h)) (λ f. cc (l.away f, w.1)) }
    go _ is i = absurd (cc (i))

-- a decision stands on a Ready alone
pub record Doubtful (o : Origin) (h : List Entry) (t : Aaid) : Type 0 where
  pub ready : has_ready_in t (records o h) ≡ true
  pub uncommitted : decided o t h ≡ false
  pub unrolled : rolled o t h ≡ false

pub first_decision : (o : Origin) (up : Option Addr) (e : Entry) (h : List Entry) (t : Aaid) (u : Outcome) → Sound o up (e ∷ h) → decision o t h ≡ None → decision o t (e ∷ h) ≡ Some u → Doubtful o h t
first_decision o up e h t u k out there = elim (decision_case t e.rec (records o h) u there) [ inl i ↦ go e.rec refl i | inr i ↦ absurd (cc (i, out)) ]
  where
    d : Digest
    d = digest o h

    s : Digest
    s = prelude o.who d e.event

    unrolled : LoggedNow t s → rolled o t h ≡ true → ⊥
    unrolled l r =
        let f = fated_law o up h t k.empty k.legal.3 k.once.1 in
        let same = same_phase o up e h t k.empty k.legal k.once (f.rolled_known r) l.now in
        no_open_rolling (phase_of d) (ap (λ (p : Phase). is_active p || is_ready p) (sym same.phase) ∙ l.phase) (f.rolled_now r same.now)

    go : (r : Option LogRec) → e.rec ≡ r → heuristic_opt t r ≡ true → Doubtful o h t
    go (Some (LogRec.Heuristic n j v)) is i =
        let l = logged o up e h t (LogRec.Heuristic n j v) k is i in
        let w = voted_before l.key l.new.before l.stage n j v l.new.after in
        let b = l.before.voted w.0 in
        let now = heuristic_logged t s e.rec (logs_of o up e h t k) (ap (heuristic_opt t) is ∙ i) in
        record { ready = b.0; uncommitted = b.1; unrolled = not_true (rolled o t h) (unrolled now) }
    go _ is i = absurd (cc (i))

-- a key with no branch is of a tree that the node drew
root_drew : (o : Origin) (up : Option Addr) (e : Entry) (h : List Entry) (t : Aaid) (c : Current) → Sound o up (e ∷ h) → (prelude o.who (digest o h) e.event).current ≡ Some c → is_root_key (node_key c.key) ≡ true → is_aaid t (aaid_of c.key) ≡ true
    → (t.owner ≡ o.who.site) × (t.mark.node ≡ o.who.node)
root_drew o up e h t c k at root tree = on c.key refl root
  where
    d : Digest
    d = digest o h

    drew : (v : Current) (u : Aaid) → d.current ≡ Some v → v.key ≡ Root u → (u.owner ≡ o.who.site) × (u.mark.node ≡ o.who.node)
    drew v u i j = subst (λ (w : Key). IsKeyOf o.who up w) j (key_law o up h v k.empty k.legal.3 i)

    not_under : (w : Key) (u v : Aaid) (b : BranchId) (a : Addr) → w ≡ Root u → w ≡ Under v b a → ⊥
    not_under w u v b a i j = cc (i, j)

    by : (u : Aaid) → c.key ≡ Root u → Came o.who d e.event → (u.owner ≡ o.who.site) × (u.mark.node ≡ o.who.node)
    by u j (As_it_was i) = drew c u (sym i ∙ at) j
    by u j (By_begin from x y q v b g a is found cur nil above) = absurd (not_under c.key u v b a.peer j (ap (λ (w : Current). w.key) (sym (some_same (fresh_current (Under v b a.peer)) c (sym cur ∙ at)))))
    by u j (By_crash is cur) = let r = recovered_key d.current c (sym cur ∙ at) in drew r.0 u r.1 (sym r.2 ∙ j)

    on : (j : Key) → c.key ≡ j → is_root_key (node_key j) ≡ true → (t.owner ≡ o.who.site) × (t.mark.node ≡ o.who.node)
    on (Root u) j r =
        let same : t ≡ u = aaids_equal t u (ap (λ (w : Key). is_aaid t (aaid_of w)) (sym j) ∙ tree) in
        let own = by u j (came_by o.who d e.event k.legal.0) in
        (ap (λ (v : Aaid). v.owner) same ∙ own.0, ap (λ (v : Aaid). v.mark.node) same ∙ own.1)
    on (Under u b a) j r = absurd (cc (r))

-- a Commit stands on a Ready, or the node drew the tree
pub first_commit : (o : Origin) (up : Option Addr) (e : Entry) (h : List Entry) (t : Aaid) → Sound o up (e ∷ h) → decided o t h ≡ false → decided o t (e ∷ h) ≡ true → (has_ready_in t (records o h) ≡ true) ⊎ (t.owner ≡ o.who.site) × (t.mark.node ≡ o.who.node)
first_commit o up e h t k out there = elim (commit_case t e.rec (records o h) there) [ inl i ↦ go e.rec refl i (logs_of o up e h t k) | inr i ↦ absurd (cc (i, out)) ]
  where
    go : (r : Option LogRec) → e.rec ≡ r → commits_tree t r ≡ true → IsLoggedIn t (prelude o.who (digest o h) e.event) r → (has_ready_in t (records o h) ≡ true) ⊎ (t.owner ≡ o.who.site) × (t.mark.node ≡ o.who.node)
    go (Some (LogRec.Commit n j s cs)) is i logs = by (order_before l.key l.new.before l.stage n j s cs l.new.after).1
      where
        l : Logged o e h t (LogRec.Commit n j s cs)
        l = logged o up e h t (LogRec.Commit n j s cs) k is i

        by : Ordering l.key l.new.before → (has_ready_in t (records o h) ≡ true) ⊎ (t.owner ≡ o.who.site) × (t.mark.node ≡ o.who.node)
        by (On_vote w) = inl (l.before.voted w).0
        by (On_decision u w) = inl (l.before.decides u w).0
        by (On_nothing w root) =
            let c = logs i in
            let same : j ≡ l.key = keys_equal j l.key l.new.own in
            inr (root_drew o up e h t c.0 k c.1 (ap is_root_key (sym c.2 ∙ same) ∙ root) (ap (is_aaid t) (sym (ap (λ (v : NodeKey). v.aaid) c.2 ∙ key_aaid c.0.key)) ∙ i))
    go _ is i logs = absurd (cc (i))
