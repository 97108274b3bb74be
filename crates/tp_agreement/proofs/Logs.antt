-- In every run, the logs of a tree's nodes agree: where one has Commit, none has an end or a damage with rollback.
use Rattle.std.proofs.Common.{◌≡◌, ◌⊎◌, inl, inr, true, refl, ap, sym, ◌∙◌, arith, Option, Some, None, List, [], ◌∷◌, ◌&&◌, ◌||◌}
use Rattle.tp_names.specs.declared.identifiers.Aaid.{Aaid}
use Rattle.tp_names.specs.declared.identifiers.Addr.{Addr}
use Rattle.tp_logrec.specs.declared.record.LogRec.{LogRec}
use Rattle.tp_model.specs.Parts.{Origin, Entry, Digest}
use Rattle.tp_model.specs.Events.{action}
use Rattle.tp_model.specs.History.{digest, records, with_rec}
use Rattle.tp_model.specs.Outcomes.{is_now, is_member, is_commit_of, has_commit_of, rolls, is_crash_in_active, rolled, decided}
use Rattle.tp_model.specs.World.{number_of}
use Rattle.tp_model.specs.Happenings.{Happening, run}
use Rattle.tp_model.specs.Promises.{has_record}
use Rattle.tp_model.specs.Legal.{IsGrown}
use Rattle.tp_steps.specs.Moves.{prelude}
use Rattle.tp_steps.specs.Trees.{commits_tree}
use Rattle.tp_agreement.specs.Owing.{keeps_rollback, backs_tree}
use Rattle.tp_agreement.specs.Logs.{is_rollback_of, LogsAgree}
use Rattle.tp_steps.proofs.lemmas.Equality.{or_case, and_left}
use Rattle.tp_histories.proofs.trees.Late.{late_law, late_prelude}
use Rattle.tp_histories.proofs.trees.Knowing.{now_prelude, treed_event}
use Rattle.tp_histories.proofs.trees.Behind.{commit_case, commit_logged}
use Rattle.tp_runs.proofs.Hanging.{staying_event, member_head}
use Rattle.tp_histories.proofs.log.KeptLog.{kept_prelude}
use Rattle.tp_agreement.proofs.OwingMoves.{rollback_noted}
use Rattle.tp_agreement.proofs.OwingLaw.{owing_entry, rolled_here, rolled_more, back_rolled}
use Rattle.tp_histories.proofs.worlds.Good.{good_run}
use Rattle.tp_agreement.proofs.Agreed.{never_two}

-- ---- what is logged of a rollback rolled

rollback_case : (t : Aaid) (r : Option LogRec) (rs : List LogRec) → has_record (is_rollback_of t) (with_rec r rs) ≡ true → (backs_tree t r ≡ true) ⊎ (has_record (is_rollback_of t) rs ≡ true)
rollback_case t None rs h = inr h
rollback_case t (Some r) rs h = or_case (is_rollback_of t r) (has_record (is_rollback_of t) rs) h

pub back_logged : (o : Origin) (up : Option Addr) (h : List Entry) (u : Aaid) → o.start.records ≡ [] → IsGrown o up h → has_record (is_rollback_of u) (records o h) ≡ true → rolled o u h ≡ true
back_logged o up [] u empty legal r = absurd (cc (ap (has_record (is_rollback_of u)) empty, r))
back_logged o up (e ∷ h) u empty legal r = go (rollback_case u e.rec (records o h) r) (back_logged o up h u empty legal.3)
  where
    s : Digest
    s = prelude o.who (digest o h) e.event

    first : keeps_rollback u s.kept ≡ keeps_rollback u (digest o h).kept
    first = sym (rollback_noted u s.kept) ∙ ap (keeps_rollback u) (kept_prelude o.who (digest o h) e.event).0 ∙ rollback_noted u (digest o h).kept

    go : (backs_tree u e.rec ≡ true) ⊎ (has_record (is_rollback_of u) (records o h) ≡ true) → (has_record (is_rollback_of u) (records o h) ≡ true → rolled o u h ≡ true) → rolled o u (e ∷ h) ≡ true
    go (inr i) rest = rolled_more o e h u (rest i)
    go (inl i) rest = elim ((owing_entry o up e h legal).backs u (ap (λ (f : Entry). backs_tree u f.rec) legal.1 ∙ i)) [
      | inl k ↦ rolled_more o e h u (back_rolled o up h u empty legal.3 (sym first ∙ k))
      | inr k ↦ rolled_here o up e h u legal k.0 k.1
    ]

-- ---- what rolled, or logged Commit, is in the tree

pub later_member : (o : Origin) (t : Aaid) (e : Entry) (h : List Entry) → is_member o t h ≡ true → is_member o t (e ∷ h) ≡ true
later_member o t e h m = rw m (grind arith)

pub rolled_member : (o : Origin) (t : Aaid) (h : List Entry) → rolled o t h ≡ true → is_member o t h ≡ true
rolled_member o t [] r = absurd (cc (r))
rolled_member o t (e ∷ h) r = later_member o t e h (go (or_case (is_now t (digest o h).current && (rolls o.who (digest o h) e.event || is_crash_in_active (digest o h) e.event)) (rolled o t h) r) (rolled_member o t h))
  where
    go : ((is_now t (digest o h).current && (rolls o.who (digest o h) e.event || is_crash_in_active (digest o h) e.event)) ≡ true) ⊎ (rolled o t h ≡ true) → (rolled o t h ≡ true → is_member o t h ≡ true) → is_member o t h ≡ true
    go (inl i) rest = member_head o t h (and_left (is_now t (digest o h).current) (rolls o.who (digest o h) e.event || is_crash_in_active (digest o h) e.event) i)
    go (inr i) rest = rest i

decided_member : (o : Origin) (up : Option Addr) (h : List Entry) (t : Aaid) → o.start.records ≡ [] → IsGrown o up h → decided o t h ≡ true → is_member o t h ≡ true
decided_member o up [] t empty legal c = absurd (cc (ap (has_commit_of t) empty, c))
decided_member o up (e ∷ h) t empty legal c = go (commit_case t e.rec (records o h) c) (decided_member o up h t empty legal.3)
  where
    go : (commits_tree t e.rec ≡ true) ⊎ (has_commit_of t (records o h) ≡ true) → (decided o t h ≡ true → is_member o t h ≡ true) → is_member o t (e ∷ h) ≡ true
    go (inr i) rest = later_member o t e h (rest i)
    go (inl i) rest =
        let late = late_law o up h legal.3 in
        let w = commit_logged t (prelude o.who (digest o h) e.event) (action o.who (digest o h) e.event).rec (treed_event o.who (digest o h) e.event t 0 late legal.0).logs (ap (λ (f : Entry). commits_tree t f.rec) legal.1 ∙ i) in
        elim (now_prelude o.who (digest o h) e.event t legal.0 w.now) [
          | inl j ↦ later_member o t e h (member_head o t h j)
          | inr j ↦ member_head o t (e ∷ h) ((staying_event o.who (digest o h) e.event t 0 late legal.0).stays (late_prelude o.who (digest o h) e.event late) w.now (inr j))
        ]

commit_record : (t : Aaid) (rs : List LogRec) → has_record (is_commit_of t) rs ≡ true → has_commit_of t rs ≡ true
commit_record t [] h = h
commit_record t (r ∷ rs) h = elim (or_case (is_commit_of t r) (has_record (is_commit_of t) rs) h) [
  | inl i ↦ rw i refl
  | inr i ↦ (let k = commit_record t rs i in rw k (grind arith))
]

-- ---- every run

pub logs_agree : (es : List Happening) → LogsAgree (run es)
logs_agree es t x y hx hy c b =
    let good = good_run es in
    let commits : decided x.origin t x.history ≡ true = commit_record t (records x.origin x.history) c in
    let rolls : rolled y.origin t y.history ≡ true = back_logged y.origin y.superior y.history t (good.fresh (number_of y) y hy) (good.legal (number_of y) y hy) b in
    never_two es t x y
    (record { here = hx; of_tree = decided_member x.origin x.superior x.history t (good.fresh (number_of x) x hx) (good.legal (number_of x) x hx) commits })
    (record { here = hy; of_tree = rolled_member y.origin t y.history rolls })
    commits rolls
