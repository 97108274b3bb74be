-- In every run a superior takes a branch's Done where it has committed itself; in a drained tree without failure it takes it in
-- committing, with the branch.
use Rattle.std.proofs.Common.{◌≡◌, ◌≤◌, ◌⊎◌, inl, inr, ℕ, suc, Bool, true, false, cond, refl, ap, sym, subst, ◌∙◌, arith, Option, Some, None, List, [], ◌∷◌, ◌++◌, ◌&&◌, ◌||◌, ◌==◌, not, slice_get}
use Rattle.std.proofs.lemmas.Bool.Decides.{nat_tests}
use Rattle.tp_names.specs.declared.identifiers.Mark.{Mark}
use Rattle.tp_names.specs.declared.identifiers.Aaid.{Aaid}
use Rattle.tp_names.specs.declared.identifiers.BranchId.{BranchId}
use Rattle.tp_names.specs.declared.identifiers.Addr.{Addr}
use Rattle.tp_names.specs.declared.outcome.Outcome.{Outcome}
use Rattle.tp_names.specs.declared.outcome.Report.{Report}
use Rattle.tp_names.specs.Reports.{is_report_none}
use Rattle.tp_names.specs.Same.{is_aaid}
use Rattle.tp_records.specs.declared.dialogue.DialogueRecord.{DialogueRecord}
use Rattle.tp_records.specs.declared.dialogue.Holder.{Holder}
use Rattle.tp_records.specs.declared.peer.PeerRecord.{PeerRecord}
use Rattle.tp_model.specs.Parts.{Origin, Event, Entry, Branch, Current, Digest}
use Rattle.tp_model.specs.Dialogues.{is_committing}
use Rattle.tp_model.specs.Transactions.{aaid_of}
use Rattle.tp_model.specs.Requests.{has_branch_at}
use Rattle.tp_model.specs.Events.{action}
use Rattle.tp_model.specs.History.{digest, records}
use Rattle.tp_model.specs.Outcomes.{is_now, decided}
use Rattle.tp_model.specs.Questions.{is_at}
use Rattle.tp_model.specs.World.{Node, Frame, number_of, find_node, put_node}
use Rattle.tp_model.specs.Happenings.{Happening, run}
use Rattle.tp_model.specs.Legal.{IsGrown}
use Rattle.tp_steps.specs.Histories.{brought}
use Rattle.tp_histories.specs.Histories.{IsSentIn, HasSent, HasBrought}
use Rattle.tp_histories.specs.Worlds.{IsGood, place, grown_node, Comes}
use Rattle.tp_steps.specs.Moves.{IsLate, prelude}
use Rattle.tp_histories.specs.Traces.{sent_on, accepted_on}
use Rattle.tp_steps.specs.Facts.{ends_in, BranchKey, begun_keys, find_branch, key_at}
use Rattle.tp_steps.specs.Trees.{IsOld, IsTreed}
use Rattle.tp_histories.specs.Members.{is_known, is_own, IsOnce, IsUnique}
use Rattle.tp_steps.specs.Upward.{Deeds, holds_at, voting_from}
use Rattle.tp_histories.specs.Upward.{deeds_of}
use Rattle.tp_runs.specs.Heeded.{is_heeded}
use Rattle.tp_failure_free.specs.DrainedWorlds.{DonesAreTaken, TakesDecided, DoneDecided, DonesDecided}
use Rattle.tp_histories.proofs.worlds.Nodes.{find_append}
use Rattle.tp_failure_free.specs.Drained.{IsUnfailed, is_done}
use Rattle.tp_failure_free.proofs.LiveLaw.{unfailed_before, no_crash}
use Rattle.tp_histories.proofs.trees.Late.{late_law, late_prelude}
use Rattle.tp_steps.proofs.lemmas.Equality.{and_left}
use Rattle.tp_steps.proofs.branches.Rolls.{phase_at}
use Rattle.tp_histories.proofs.trees.Knowing.{Came, As_it_was, By_begin, By_crash, came_by, nil_now, treed_event}
use Rattle.tp_histories.proofs.worlds.TreeMembers.{sent_known, now_then, prelude_old}
use Rattle.tp_histories.proofs.trees.Fated.{fated_law}
use Rattle.tp_histories.proofs.worlds.Good.{good_run, Sender, was_sent, Step, law}
use Rattle.tp_histories.proofs.worlds.Unique.{unique_comes, unique_event, unique_run}
use Rattle.tp_runs.proofs.Family.{commits_above}
use Rattle.tp_steps.proofs.lemmas.UpwardWords.{is_upward}
use Rattle.tp_runs.proofs.Heeded.{word_taken}
use Rattle.tp_agreement.proofs.CountedBranch.{sent_begun}
use Rattle.tp_agreement.proofs.LeftDown.{key_branch}
use Rattle.tp_agreement.proofs.BelowRuns.{branch_above}
use Rattle.tp_agreement.proofs.RollsUp.{Grew, Neither, The_upper, The_lower, grew}
use Rattle.tp_failure_free.proofs.DrainedTaken.{sent_with}
use Rattle.tp_failure_free.proofs.Moments.{moment_of, moment_legal, moment_once, took_then}
use Rattle.tp_failure_free.proofs.DrainedWords.{begin_at, heard_word, Reached, reached_up}
use Rattle.tp_steps.proofs.every.Course.{past_first}
use Rattle.tp_control.proofs.OneHolder.{at_some}

-- ---- Done is taken where the superior has committed

-- a tree that the superior knows was not drawn below it
pub not_drawn : (ns : List Node) (fs : List Frame) (x y : Node) (t : Aaid) → IsGood ns fs → IsUnique ns → find_node ns (number_of x) ≡ Some x → find_node ns (number_of y) ≡ Some y → is_at y.superior (number_of x) ≡ true → is_known x.origin t x.history ≡ true
    → is_own y.origin.who t ≡ true → ⊥
not_drawn ns fs x y t good unique hx hy above known own =
    let s = at_some y.superior (number_of x) above in
    let drawer = unique.drawn (number_of x) x t hx known in
    let over = good.above (number_of y) y s.0 hy s.1 in
    let mine : t.mark.node ≡ number_of y = grind (arith, nat_tests, own) in
    let before : suc (place ns (number_of x)) ≤ place ns (number_of y) = subst (λ (n : ℕ). suc (place ns n) ≤ place ns (number_of y)) s.2 over.before in
    past_first (place ns t.mark.node) (place ns (number_of x)) (place ns (number_of y)) drawer.before before (ap (place ns) (sym mine))

done_decided : (ns : List Node) (fs : List Frame) (x : Node) (e : Event) (y : Node) → Step ns fs x e → IsUnique ns → find_node ns (number_of y) ≡ Some y → is_at y.superior (number_of x) ≡ true → TakesDecided x.origin (number_of y) x.history e
done_decided ns fs x e y st unique hy above a m k q r is at = go (slice_get keys n) refl
  where
    now : Step ns fs x (Event.Arrive a (PeerRecord.OnAssoc m k q (DialogueRecord.Done r)))
    now = subst (λ (f : Event). Step ns fs x f) is st

    keys : List BranchKey
    keys = begun_keys (sent_on m k (number_of y) x.history)

    n : ℕ
    n = ends_in (accepted_on m k (number_of y) x.history)

    g : Deeds
    g = deeds_of y.origin y.history

    heeded : is_heeded keys g (records y.origin y.history) n (voting_from false (accepted_on m k (number_of y) x.history)) (DialogueRecord.Done r) ≡ true
    heeded = word_taken ns fs x y a m k q (DialogueRecord.Done r) now unique hy above at

    held : holds_at keys n g.committed ≡ true
    held = and_left (holds_at keys n g.committed) (not (is_report_none r) || holds_at keys n g.completed) (and_left (holds_at keys n g.committed && (not (is_report_none r) || holds_at keys n g.completed)) (is_report_none r || holds_at keys n g.damaged) (and_left (holds_at keys n g.committed && (not (is_report_none r) || holds_at keys n g.completed) && (is_report_none r || holds_at keys n g.damaged)) (holds_at keys n (g.told Outcome.Commit r)) (and_left (holds_at keys n g.committed && (not (is_report_none r) || holds_at keys n g.completed) && (is_report_none r || holds_at keys n g.damaged) && holds_at keys n (g.told Outcome.Commit r)) true heeded)))

    hx : find_node ns (number_of x) ≡ Some x
    hx = st.accepts.here

    go : (o : Option BranchKey) → slice_get keys n ≡ o → holds_at keys n (λ t. decided x.origin t x.history) ≡ true
    go None i = absurd (cc (rw (i, holds_at) at held))
    go (Some j) i =
        let below : decided y.origin j.0 y.history ≡ true = rw (i, holds_at) at held in
        let w = begin_at (sent_on m k (number_of y) x.history) n j.0 j.1 i in
        let s = sent_with x.origin x.superior x.history (number_of y) m k w.0 (DialogueRecord.Begin j.0 j.1 w.1) (st.good.legal (number_of x) x hx) w.2 in
        let known = sent_known x.origin x.superior x.history s.0 m k w.0 j.0 j.1 w.1 (st.good.fresh (number_of x) x hx) (st.good.legal (number_of x) x hx) s.2 in
        let up : decided x.origin j.0 x.history ≡ true = commits_above ns fs j.0 x y st.good hx hy above (not_drawn ns fs x y j.0 st.good unique hx hy above known) below in
        rw (i, holds_at) up

-- of a node that sent nothing
none_taken : (o : Origin) (p : ℕ) (h : List Entry) → ((a : Addr) (r : PeerRecord) → HasBrought h a r → a.node ≡ p → ⊥) → DoneDecided o p h
none_taken o p [] none = tt
none_taken o p (e ∷ h) none = (λ a x y q r is at. absurd (none a (PeerRecord.OnAssoc x y q (DialogueRecord.Done r)) (inl (ap brought is)) at), none_taken o p h (λ a r t. none a r (inr t)))

dones_come : (ns : List Node) (fs : List Frame) (x : Node) → Comes ns x → IsGood ns fs → DonesDecided ns → DonesDecided (ns ++ x ∷ [])
dones_come ns fs x c good old u z hu hz under = go (number_of x == number_of u) refl (number_of x == number_of z) refl
  where
    at : (n : ℕ) → find_node (ns ++ x ∷ []) n ≡ cond (number_of x == n) (Some x) (find_node ns n)
    at n = find_append ns x n c.none

    new : (n : ℕ) (y : Node) → (number_of x == n) ≡ true → find_node (ns ++ x ∷ []) n ≡ Some y → x ≡ y
    new n y b i = grind (arith, at n, b, i)

    was : (n : ℕ) (y : Node) → (number_of x == n) ≡ false → find_node (ns ++ x ∷ []) n ≡ Some y → find_node ns n ≡ Some y
    was n y b i = grind (arith, at n, b, i)

    go : (b : Bool) → (number_of x == number_of u) ≡ b → (d : Bool) → (number_of x == number_of z) ≡ d → DoneDecided u.origin (number_of z) u.history
    go true i d j =
        let bare : u.history ≡ [] = ap (λ (v : Node). v.history) (sym (new (number_of u) u i hu)) ∙ c.bare in
        subst (λ (h : List Entry). DoneDecided u.origin (number_of z) h) (sym bare) tt
    go false i false j = old u z (was (number_of u) u i hu) (was (number_of z) z j hz) under
    go false i true j =
        none_taken u.origin (number_of z) u.history
        (λ a r t n.
        let s : Sender ns a (number_of u) r = was_sent ns fs a (number_of u) r good.sent (good.taken (number_of u) u a r (was (number_of u) u i hu) t) in
        let eq : number_of x ≡ number_of z = grind (arith, nat_tests, j) in
        cc (s.found, ap (find_node ns) (n ∙ sym eq), c.none))

dones_event : (ns : List Node) (fs : List Frame) (z : Node) (e : Event) → Step ns fs z e → IsUnique ns → DonesDecided ns → DonesDecided (put_node ns (grown_node z e))
dones_event ns fs z e st unique old x y hx hy above = go (grew ns fs z e x y st hx hy above)
  where
    go : Grew ns z (grown_node z e) x y → DoneDecided x.origin (number_of y) x.history
    go (Neither ux vy) = old x y ux vy above
    go (The_upper same vy below) = subst (λ (w : Node). DoneDecided w.origin (number_of y) w.history) same (done_decided ns fs z e y st unique vy below, old z y st.accepts.here vy below)
    go (The_lower same ux below) = subst (λ (w : Node). DoneDecided x.origin (number_of w) x.history) same (old x z ux st.accepts.here below)

pub dones_run : (es : List Happening) → DonesDecided (run es).nodes
dones_run es = (law (λ ns fs. IsUnique ns × DonesDecided ns) (record {
  start = (record { once = λ n x i. absurd (cc (i)); drawn = λ n x t i k. absurd (cc (i)) }, λ x y hx hy under. absurd (cc (hx)));
  comes = λ ns fs x c g p. (unique_comes ns fs x c g p.0, dones_come ns fs x c g p.1);
  event = λ ns fs x e st b p. (unique_event ns fs x e st p.0, dones_event ns fs x e st p.0 p.1);
  mark = λ ns fs k p. p;
}) es).1

-- ---- a branch that was begun stands with its peer as long as the tree is current

pub stands_there : (o : Origin) (up : Option Addr) (h : List Entry) (a : Addr) (x y : Mark) (q : ℕ) (t : Aaid) (b : BranchId) (i : Holder) → IsUnfailed t o up h
    → HasSent h a (PeerRecord.OnAssoc x y q (DialogueRecord.Begin t b i)) → is_now t (digest o h).current ≡ true → key_at (digest o h).current a.node ≡ Some (t, b)
stands_there o up [] a x y q t b i u s n = absurd s
stands_there o up (e ∷ h) a x y q t b i u s n = go s (stands_there o up h a x y q t b i (unfailed_before t o up e h u).1)
  where
    empty : o.start.records ≡ []
    empty = u.fresh

    legal : IsGrown o up (e ∷ h)
    legal = u.grown

    once : IsOnce o (e ∷ h)
    once = u.once

    d : Digest
    d = digest o h

    w : Digest
    w = prelude o.who d e.event

    late : IsLate w
    late = late_prelude o.who d e.event (late_law o up h legal.3)

    k : IsTreed o.who w true t a.node w (action o.who d e.event)
    k = treed_event o.who d e.event t a.node (late_law o up h legal.3) legal.0

    old : IsOld o.who t w
    old = prelude_old o up e h t empty legal once

    stays : key_at w.current a.node ≡ Some (t, b) → key_at (digest o (e ∷ h)).current a.node ≡ Some (t, b)
    stays v = k.ids b late old n (inr v)

    go : IsSentIn e.outs a (PeerRecord.OnAssoc x y q (DialogueRecord.Begin t b i)) ⊎ HasSent h a (PeerRecord.OnAssoc x y q (DialogueRecord.Begin t b i))
        → (HasSent h a (PeerRecord.OnAssoc x y q (DialogueRecord.Begin t b i)) → is_now t d.current ≡ true → key_at d.current a.node ≡ Some (t, b)) → key_at (digest o (e ∷ h)).current a.node ≡ Some (t, b)
    go (inl v) rest =
        let outs : IsSentIn (action o.who d e.event).outs a (PeerRecord.OnAssoc x y q (DialogueRecord.Begin t b i)) = subst (λ (f : Entry). IsSentIn f.outs a (PeerRecord.OnAssoc x y q (DialogueRecord.Begin t b i))) (sym legal.1) v in
        k.ids b late old n (inl (sent_begun t a.node (action o.who d e.event).outs a x y q b i refl outs))
    go (inr v) rest = at (now_then o up e h t empty legal once (sent_known o up h a x y q t b i empty legal.3 v) n) (came_by o.who d e.event legal.0)
      where
        at : is_now t d.current ≡ true → Came o.who d e.event → key_at (digest o (e ∷ h)).current a.node ≡ Some (t, b)
        at before (As_it_was cur) = stays (ap (λ (w : Option Current). key_at w a.node) cur ∙ rest v before)
        at before (By_begin from z v r c j g l is found cur nil above) = absurd (cc (before, nil_now d t (late_law o up h legal.3) nil))
        at before (By_crash is cur) = absurd (no_crash t o up e h u before is)

found_there : (bs : List Branch) (p : ℕ) (b : Branch) → find_branch bs p ≡ Some b → has_branch_at bs p ≡ true
found_there [] p b h = absurd (cc (h))
found_there (x ∷ bs) p b h = go (x.peer.node == p) refl (found_there bs p b)
  where
    go : (v : Bool) → (x.peer.node == p) ≡ v → (find_branch bs p ≡ Some b → has_branch_at bs p ≡ true) → has_branch_at (x ∷ bs) p ≡ true
    go true i rest = rw i refl
    go false i rest = let r = rest (rw i at h) in rw r (grind arith)

-- ---- in a drained tree

done_up : (r : DialogueRecord) → is_done r ≡ true → is_upward r ≡ true
done_up (DialogueRecord.Done r) h = refl
done_up r h = absurd (cc (h))

pub done_is : (r : DialogueRecord) → is_done r ≡ true → (v : Report) × (r ≡ DialogueRecord.Done v)
done_is (DialogueRecord.Done v) h = (v, refl)
done_is r h = absurd (cc (h))

pub dones_are_taken : (es : List Happening) → DonesAreTaken (run es)
dones_are_taken es t drained fine b x z branch told now =
    took_then (λ d. is_aaid t (aaid_of d.key) && is_committing d.phase && has_branch_at d.branches (number_of z)) is_done x.origin (number_of z) k.entry k.behind x.history k.moment k.current k.now (rw (k.tree, phase, there) refl)
    (heard_word is_done (number_of z) k.entry.event k.from k.x k.y k.seq k.word k.is k.at k.kind)
  where
    good : IsGood (run es).nodes (run es).frames
    good = good_run es

    hx : find_node (run es).nodes (number_of x) ≡ Some x
    hx = branch.superior.here

    k : Reached x.origin x.history t (number_of z) is_done
    k = reached_up es t drained b x z branch is_done done_up told now

    legal : IsGrown x.origin x.superior (k.entry ∷ k.behind)
    legal = moment_legal x.origin x.superior k.entry k.behind x.history k.moment (good.legal (number_of x) x hx)

    once : IsOnce x.origin (k.entry ∷ k.behind)
    once = moment_once x.origin k.entry k.behind x.history k.moment ((unique_run es).once (number_of x) x hx)

    empty : x.origin.start.records ≡ []
    empty = good.fresh (number_of x) x hx

    unfailed : IsUnfailed t x.origin x.superior k.behind
    unfailed = (unfailed_before t x.origin x.superior k.entry k.behind (moment_of (IsUnfailed t x.origin x.superior) (λ f h u. (unfailed_before t x.origin x.superior f h u).1) k.entry k.behind x.history k.moment (record {
      fresh = empty;
      grown = good.legal (number_of x) x hx;
      once = (unique_run es).once (number_of x) x hx;
      calm = fine x branch.superior;
    }))).1

    decisions : DoneDecided x.origin (number_of z) (k.entry ∷ k.behind)
    decisions = moment_of (DoneDecided x.origin (number_of z)) (λ f h p. p.1) k.entry k.behind x.history k.moment (dones_run es x z hx branch.child.here (branch_above es t b x z branch))

    done : decided x.origin t k.behind ≡ true
    done =
        let r = done_is k.word k.kind in
        let is : k.entry.event ≡ Event.Arrive k.from (PeerRecord.OnAssoc k.x k.y k.seq (DialogueRecord.Done r.0)) = k.is ∙ ap (λ (v : DialogueRecord). Event.Arrive k.from (PeerRecord.OnAssoc k.x k.y k.seq v)) r.1 in
        let held = decisions.0 k.from k.x k.y k.seq r.0 is k.at in
        rw (k.place, holds_at) at held

    is_current : is_now t (digest x.origin k.behind).current ≡ true
    is_current = ap (is_now t) k.now ∙ k.tree

    phase : is_committing k.current.phase ≡ true
    phase = ap is_committing (sym (phase_at (digest x.origin k.behind) k.current k.now)) ∙ (fated_law x.origin x.superior k.behind t empty legal.3 once.1).commit_now done is_current

    there : has_branch_at k.current.branches (number_of z) ≡ true
    there =
        let key = stands_there x.origin x.superior k.behind k.to k.x k.y k.number t k.id k.holder unfailed k.begun is_current in
        let f = key_branch k.current k.to.node (t, k.id) (ap (λ (u : Option Current). key_at u k.to.node) (sym k.now) ∙ key) in
        found_there k.current.branches (number_of z) f.0 (subst (λ (n : ℕ). find_branch k.current.branches n ≡ Some f.0) k.there f.1)
