-- What users are told is what was logged, or what rolled.
use Rattle.std.proofs.Common.{◌≡◌, ◌⊎◌, inl, inr, Bool, true, refl, ap, sym, ◌∙◌, arith, Option, Some, List, [], ◌∷◌, ◌&&◌, ◌||◌}
use Rattle.tp_names.specs.declared.identifiers.Aaid.{Aaid}
use Rattle.tp_names.specs.declared.identifiers.Addr.{Addr}
use Rattle.tp_names.specs.Same.{is_aaid}
use Rattle.tp_records.specs.declared.indication.Indication.{Indication}
use Rattle.tp_logrec.specs.declared.record.LogRec.{LogRec}
use Rattle.tp_model.specs.Parts.{Origin, Event, Out, Entry, Current, Digest}
use Rattle.tp_model.specs.Dialogues.{is_committing, is_rolling}
use Rattle.tp_model.specs.Transactions.{aaid_of}
use Rattle.tp_model.specs.Node.{phase_of}
use Rattle.tp_model.specs.Events.{action}
use Rattle.tp_model.specs.History.{digest, records}
use Rattle.tp_model.specs.Outcomes.{is_now, decided, rolls, is_crash_in_active, rolled}
use Rattle.tp_model.specs.World.{Node, number_of}
use Rattle.tp_model.specs.Happenings.{Happening, run}
use Rattle.tp_model.specs.Promises.{IsIn, tells_commit, tells_rollback, has_told_in, WhatUsersSee}
use Rattle.tp_model.specs.Legal.{IsGrown}
use Rattle.tp_steps.specs.Moves.{prelude}
use Rattle.tp_steps.specs.Passages.{is_commit_told, is_rollback_told, is_commit_rec}
use Rattle.tp_steps.specs.Trees.{IsLoggedIn, commits_tree, out_tells, IsTreed}
use Rattle.tp_histories.specs.Members.{IsOnce}
use Rattle.tp_histories.specs.Worlds.{IsGood}
use Rattle.tp_histories.proofs.trees.Late.{late_law}
use Rattle.tp_steps.proofs.words.Leaves.{aaid_same}
use Rattle.tp_steps.proofs.lemmas.Equality.{or_case, and_left, and_right}
use Rattle.tp_histories.proofs.trees.Knowing.{Came, As_it_was, By_begin, By_crash, came_by, nil_now}
use Rattle.tp_histories.proofs.trees.Behind.{treed_rolls, commit_first}
use Rattle.tp_histories.proofs.trees.Fated.{fated_law}
use Rattle.tp_histories.proofs.worlds.Good.{good_run}
use Rattle.tp_histories.proofs.worlds.Unique.{unique_run}
use Rattle.tp_steps.proofs.branches.Rolls.{phase_at}
use Rattle.tp_steps.proofs.lemmas.Words.{commit_more}
use Rattle.tp_steps.proofs.lemmas.Options.{some_same}
use Rattle.tp_steps.proofs.log.Owned.{key_aaid}

pub commit_tells : (outs : List Out) → tells_commit outs ≡ out_tells is_commit_told outs
commit_tells (o ∷ outs) = let rest = commit_tells outs in grind (arith, rest)
commit_tells _ = refl

pub rollback_tells : (outs : List Out) → tells_rollback outs ≡ out_tells is_rollback_told outs
rollback_tells (o ∷ outs) = let rest = rollback_tells outs in grind (arith, rest)
rollback_tells _ = refl

-- an event that tells anything, of a tree that was current
pub record Tells (o : Origin) (h : List Entry) (e : Event) (t : Aaid) : Type 0 where
  pub same : (prelude o.who (digest o h) e).current ≡ (digest o h).current

pub tells_at : (o : Origin) (up : Option Addr) (e : Entry) (h : List Entry) (t : Aaid) (f : Indication → Bool) → IsGrown o up (e ∷ h) → is_now t (digest o h).current ≡ true → out_tells f e.outs ≡ true → Tells o h e.event t
tells_at o up e h t f legal n tell = go (came_by o.who (digest o h) e.event legal.0)
  where
    go : Came o.who (digest o h) e.event → Tells o h e.event t
    go (As_it_was i) = record { same = i }
    go (By_begin from x y q u b k a is found cur nil above) = absurd (cc (n, nil_now (digest o h) t (late_law o up h legal.3) nil))
    go (By_crash is cur) =
        let none : e.outs ≡ [] = ap (λ (v : Entry). v.outs) (sym legal.1) ∙ ap (λ (v : Event). (action o.who (digest o h) v).outs) is in
        absurd (cc (tell, ap (out_tells f) none))

-- the tree of a Commit that is logged is that which is current
commit_of : (t : Aaid) (s : Digest) (c : Current) (r : Option LogRec) → ((u : Aaid) → IsLoggedIn u s r) → s.current ≡ Some c → is_aaid t (aaid_of c.key) ≡ true → is_commit_rec r ≡ true → commits_tree t r ≡ true
commit_of t s c (Some (LogRec.Commit n k a cs)) l at same h =
    let x = l k.aaid (aaid_same k.aaid) in
    let one : x.0 ≡ c = some_same x.0 c (sym x.1 ∙ at) in
    let tree : k.aaid ≡ aaid_of c.key = ap (λ (v : _). v.aaid) x.2 ∙ key_aaid x.0.key ∙ ap (λ (v : Current). aaid_of v.key) one in
    ap (is_aaid t) tree ∙ same
commit_of t s c _ l at same h = absurd cc

now_at : (t : Aaid) (o : Option Current) (c : Current) → is_now t o ≡ true → o ≡ Some c → is_aaid t (aaid_of c.key) ≡ true
now_at t o c n i = ap (is_now t) (sym i) ∙ n

pub sees_commit : (o : Origin) (up : Option Addr) (h : List Entry) (t : Aaid) → o.start.records ≡ [] → IsGrown o up h → IsOnce o h → has_told_in tells_commit o t h ≡ true → decided o t h ≡ true
sees_commit o up [] t empty legal once h = absurd cc
sees_commit o up (e ∷ h) t empty legal once told = go (or_case (is_now t (digest o h).current && tells_commit e.outs) (has_told_in tells_commit o t h) told) (sees_commit o up h t empty legal.3 once.1)
  where
    d : Digest
    d = digest o h

    s : Digest
    s = prelude o.who d e.event

    recs : e.rec ≡ (action o.who d e.event).rec
    recs = ap (λ (v : Entry). v.rec) (sym legal.1)

    treed : (u : Aaid) → IsTreed o.who s (rolls o.who d e.event) u 0 s (action o.who d e.event)
    treed u = treed_rolls o.who d e.event u 0 (late_law o up h legal.3) legal.0

    new : is_now t d.current ≡ true → tells_commit e.outs ≡ true → decided o t (e ∷ h) ≡ true
    new n tell =
        let told_out : out_tells is_commit_told e.outs ≡ true = sym (commit_tells e.outs) ∙ tell in
        let same = (tells_at o up e h t is_commit_told legal n told_out).same in
        let k = (treed t).tells_commit (ap (λ (v : Entry). out_tells is_commit_told v.outs) legal.1 ∙ told_out) in
        let now_s : is_now t s.current ≡ true = ap (is_now t) same ∙ n in
        let of_c : is_aaid t (aaid_of k.0.key) ≡ true = now_at t s.current k.0 now_s k.1 in
        elim (or_case (is_committing k.0.phase) (is_commit_rec (action o.who d e.event).rec) k.2) [
          | inl i ↦
              (let phase : is_committing (phase_of d) ≡ true = ap is_committing (phase_at d k.0 (sym same ∙ k.1)) ∙ i in
              commit_more t e.rec (records o h) ((fated_law o up h t empty legal.3 once.1).committing n phase))
          | inr i ↦
              (let c : commits_tree t (action o.who d e.event).rec ≡ true = commit_of t s k.0 (action o.who d e.event).rec (λ u. (treed u).logs) k.1 of_c i in
              commit_first t e.rec (records o h) (ap (commits_tree t) recs ∙ c))
        ]

    go : ((is_now t (digest o h).current && tells_commit e.outs) ≡ true) ⊎ (has_told_in tells_commit o t h ≡ true) → (has_told_in tells_commit o t h ≡ true → decided o t h ≡ true) → decided o t (e ∷ h) ≡ true
    go (inl i) rest = new (and_left (is_now t d.current) (tells_commit e.outs) i) (and_right (is_now t d.current) (tells_commit e.outs) i)
    go (inr i) rest = commit_more t e.rec (records o h) (rest i)

pub sees_rollback : (o : Origin) (up : Option Addr) (h : List Entry) (t : Aaid) → o.start.records ≡ [] → IsGrown o up h → IsOnce o h → has_told_in tells_rollback o t h ≡ true → rolled o t h ≡ true
sees_rollback o up [] t empty legal once h = absurd cc
sees_rollback o up (e ∷ h) t empty legal once told = go (or_case (is_now t (digest o h).current && tells_rollback e.outs) (has_told_in tells_rollback o t h) told) (sees_rollback o up h t empty legal.3 once.1)
  where
    d : Digest
    d = digest o h

    s : Digest
    s = prelude o.who d e.event

    treed : IsTreed o.who s (rolls o.who d e.event) t 0 s (action o.who d e.event)
    treed = treed_rolls o.who d e.event t 0 (late_law o up h legal.3) legal.0

    here : (w x y z : Bool) → w ≡ true → x ≡ true → ((w && (x || y)) || z) ≡ true
    here w x y z i j = rw (i, j) refl

    behind : (w z : Bool) → z ≡ true → (w || z) ≡ true
    behind w z i = rw i (grind arith)

    new : is_now t d.current ≡ true → tells_rollback e.outs ≡ true → rolled o t (e ∷ h) ≡ true
    new n tell =
        let told_out : out_tells is_rollback_told e.outs ≡ true = sym (rollback_tells e.outs) ∙ tell in
        let same = (tells_at o up e h t is_rollback_told legal n told_out).same in
        let k = treed.tells_rollback (ap (λ (v : Entry). out_tells is_rollback_told v.outs) legal.1 ∙ told_out) in
        elim (or_case (is_rolling k.0.phase) (rolls o.who d e.event) k.2) [
          | inl i ↦
              (let phase : is_rolling (phase_of d) ≡ true = ap is_rolling (phase_at d k.0 (sym same ∙ k.1)) ∙ i in
              behind (is_now t d.current && (rolls o.who d e.event || is_crash_in_active d e.event)) (rolled o t h) ((fated_law o up h t empty legal.3 once.1).rolling n phase))
          | inr i ↦ here (is_now t d.current) (rolls o.who d e.event) (is_crash_in_active d e.event) (rolled o t h) n i
        ]

    go : ((is_now t (digest o h).current && tells_rollback e.outs) ≡ true) ⊎ (has_told_in tells_rollback o t h ≡ true) → (has_told_in tells_rollback o t h ≡ true → rolled o t h ≡ true) → rolled o t (e ∷ h) ≡ true
    go (inl i) rest = new (and_left (is_now t d.current) (tells_rollback e.outs) i) (and_right (is_now t d.current) (tells_rollback e.outs) i)
    go (inr i) rest = behind (is_now t d.current && (rolls o.who d e.event || is_crash_in_active d e.event)) (rolled o t h) (rest i)

pub users_see : (es : List Happening) → WhatUsersSee (run es)
users_see es = record {
  sees_commit = λ t x here told. sees_commit x.origin x.superior x.history t (fresh x here) (legal x here) (once x here) told;
  sees_rollback = λ t x here told. sees_rollback x.origin x.superior x.history t (fresh x here) (legal x here) (once x here) told;
  never_both = λ t x here c r. (fated_law x.origin x.superior x.history t (fresh x here) (legal x here) (once x here)).never_both c r;
}
  where
    good : IsGood (run es).nodes (run es).frames
    good = good_run es

    fresh : (x : Node) → IsIn (run es) x → x.origin.start.records ≡ []
    fresh x here = good.fresh (number_of x) x here

    legal : (x : Node) → IsIn (run es) x → IsGrown x.origin x.superior x.history
    legal x here = good.legal (number_of x) x here

    once : (x : Node) → IsIn (run es) x → IsOnce x.origin x.history
    once x here = (unique_run es).once (number_of x) x here
