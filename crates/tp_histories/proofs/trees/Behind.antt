-- What an event leaves of a tree: the newest record, and the phase.
use Rattle.std.proofs.Common.{◌≡◌, ◌⊎◌, inr, ℕ, Bool, true, false, refl, ap, sym, ◌∙◌, arith, Option, Some, None, List, [], ◌∷◌, ◌||◌}
use Rattle.tp_names.specs.declared.identifiers.Mark.{Mark}
use Rattle.tp_names.specs.declared.identifiers.Aaid.{Aaid}
use Rattle.tp_names.specs.declared.identifiers.Addr.{Addr}
use Rattle.tp_names.specs.declared.identifiers.BranchId.{BranchId}
use Rattle.tp_records.specs.declared.dialogue.DialogueRecord.{DialogueRecord}
use Rattle.tp_records.specs.declared.dialogue.Holder.{Holder}
use Rattle.tp_records.specs.declared.peer.PeerRecord.{PeerRecord}
use Rattle.tp_names.specs.Same.{is_aaid}
use Rattle.tp_logrec.specs.declared.record.LogRec.{LogRec}
use Rattle.tp_model.specs.declared.arc.Phase.{Phase}
use Rattle.tp_model.specs.Parts.{Who, Origin, Event, Entry, Arc, Current, Digest}
use Rattle.tp_model.specs.Dialogues.{is_nil, is_active, is_ready, is_committing, is_rolling}
use Rattle.tp_model.specs.Transactions.{node_key}
use Rattle.tp_model.specs.Arcs.{find_arc}
use Rattle.tp_model.specs.Node.{phase_of}
use Rattle.tp_model.specs.Events.{refusal, action, recovered_current, after_crash}
use Rattle.tp_model.specs.History.{digest, with_rec}
use Rattle.tp_model.specs.Outcomes.{is_now, has_commit_of, rolls}
use Rattle.tp_model.specs.Legal.{IsGrown}
use Rattle.tp_steps.specs.Moves.{IsLate, prelude}
use Rattle.tp_steps.specs.Passages.{may_move}
use Rattle.tp_steps.specs.Trees.{IsLoggedIn, IsBoundIn, commits_tree, IsTreed}
use Rattle.tp_histories.specs.Members.{is_known, IsOnce}
use Rattle.tp_histories.specs.Fates.{readies_tree, has_ready_in}
use Rattle.tp_steps.proofs.every.EveryEvent.{every_move}
use Rattle.tp_histories.proofs.trees.Late.{late_law}
use Rattle.tp_steps.proofs.lemmas.Equality.{or_case}
use Rattle.tp_steps.proofs.words.Treed.{now_some}
use Rattle.tp_histories.proofs.trees.TreedMoves.{treed_moves}
use Rattle.tp_histories.proofs.trees.Knowing.{Came, As_it_was, By_begin, By_crash, came_by, nil_now, begin_arc, begin_seen}
use Rattle.tp_histories.proofs.worlds.TreeMembers.{now_before}
use Rattle.tp_steps.proofs.branches.Rolls.{rolls_so, phase_at}
use Rattle.tp_histories.proofs.trees.Fallen.{is_plain}
use Rattle.tp_steps.proofs.log.Owned.{key_aaid}

-- ---- an event

pub treed_rolls : (who : Who) (d : Digest) (e : Event) (t : Aaid) (p : ℕ) → IsLate d → refusal who d e ≡ None → IsTreed who (prelude who d e) (rolls who d e) t p (prelude who d e) (action who d e)
treed_rolls who d e t p late ok = every_move who d e (IsTreed who (prelude who d e) (rolls who d e) t p) (treed_moves who e (prelude who d e) (rolls who d e) t p (λ c f arcs at asked h. rolls_so who d e ok c f arcs at asked h)) late ok

-- ---- the newest record

abbrev pub readies_opt : Aaid → Option LogRec → Bool
readies_opt t None = false
readies_opt t (Some r) = readies_tree t r

pub commit_case : (t : Aaid) (r : Option LogRec) (rs : List LogRec) → has_commit_of t (with_rec r rs) ≡ true → (commits_tree t r ≡ true) ⊎ (has_commit_of t rs ≡ true)
commit_case t (Some (LogRec.Commit n k s cs)) rs h = or_case (is_aaid t k.aaid) (has_commit_of t rs) h
commit_case t _ rs h = inr h

pub commit_first : (t : Aaid) (r : Option LogRec) (rs : List LogRec) → commits_tree t r ≡ true → has_commit_of t (with_rec r rs) ≡ true
commit_first t (Some (LogRec.Commit n k s cs)) rs h = rw h refl
commit_first t _ rs h = absurd cc

pub ready_case : (t : Aaid) (r : Option LogRec) (rs : List LogRec) → has_ready_in t (with_rec r rs) ≡ true → (readies_opt t r ≡ true) ⊎ (has_ready_in t rs ≡ true)
ready_case t None rs h = inr h
ready_case t (Some r) rs h = or_case (readies_tree t r) (has_ready_in t rs) h

pub plain_commit : (t : Aaid) (r : Option LogRec) → is_plain r ≡ true → commits_tree t r ≡ false
plain_commit t (Some (LogRec.Commit n k s cs)) h = absurd cc
plain_commit t _ h = refl

pub logged_now : (t : Aaid) (s : Digest) (j : _) (c : Current) → s.current ≡ Some c → j ≡ node_key c.key → is_aaid t j.aaid ≡ true → is_now t s.current ≡ true
logged_now t s j c at k same = rw at (ap (is_aaid t) (sym (ap (λ (v : _). v.aaid) k ∙ key_aaid c.key)) ∙ same)

-- Commit is logged of what is current after the prelude, in active or ready
pub record LoggedNow (t : Aaid) (s : Digest) : Type 0 where
  pub now : is_now t s.current ≡ true
  pub phase : (is_active (phase_of s) || is_ready (phase_of s)) ≡ true

pub commit_logged : (t : Aaid) (s : Digest) (r : Option LogRec) → IsLoggedIn t s r → commits_tree t r ≡ true → LoggedNow t s
commit_logged t s (Some (LogRec.Commit n k a cs)) l h =
    let x = l h in
    record { now = logged_now t s k x.0 x.1 x.2 h; phase = ap (λ (p : Phase). is_active p || is_ready p) (phase_at s x.0 x.1) ∙ x.3 }
commit_logged t s _ l h = absurd cc

pub ready_logged : (t : Aaid) (s : Digest) (r : Option LogRec) → IsLoggedIn t s r → readies_opt t r ≡ true → LoggedNow t s
ready_logged t s (Some (LogRec.Ready n k a cs)) l h =
    let x = l h in
    record { now = logged_now t s k x.0 x.1 x.2 h; phase = rw (phase_at s x.0 x.1, x.4) refl }
ready_logged t s _ l h = absurd cc

-- and what is then current is past that
pub commit_bound : (t : Aaid) (d : Digest) (r : Option LogRec) → IsBoundIn t r d.current → commits_tree t r ≡ true → is_now t d.current ≡ true → may_move Phase.Committing (phase_of d) ≡ true
commit_bound t d (Some (LogRec.Commit m k a cs)) b h n = let c = now_some t d.current n in ap (may_move Phase.Committing) (phase_at d c.0 c.1) ∙ (b h n c.0 c.1).1
commit_bound t d _ b h n = absurd cc

pub ready_bound : (t : Aaid) (d : Digest) (r : Option LogRec) → IsBoundIn t r d.current → readies_opt t r ≡ true → is_now t d.current ≡ true → may_move Phase.Ready (phase_of d) ≡ true
ready_bound t d (Some (LogRec.Ready m k a cs)) b h n = let c = now_some t d.current n in ap (may_move Phase.Ready) (phase_at d c.0 c.1) ∙ (b h n c.0 c.1).1
ready_bound t d _ b h n = absurd cc

-- ---- phases

pub to_committing : (p q : Phase) → may_move p q ≡ true → is_committing p ≡ true → is_nil q ≡ false → is_committing q ≡ true
to_committing Phase.Committing Phase.Committing h i j = refl
to_committing _ _ h i j = absurd cc

pub to_rolling : (p q : Phase) → may_move p q ≡ true → is_rolling p ≡ true → is_nil q ≡ false → is_rolling q ≡ true
to_rolling Phase.Rolling Phase.Rolling h i j = refl
to_rolling _ _ h i j = absurd cc

pub stays_past : (p q : Phase) → may_move p q ≡ true → is_active p ≡ false → is_active q ≡ false
stays_past p Phase.Nil h i = refl
stays_past p Phase.Ready h i = refl
stays_past p Phase.Committing h i = refl
stays_past p Phase.Rolling h i = refl
stays_past Phase.Nil Phase.Active h i = absurd cc
stays_past Phase.Active Phase.Active h i = absurd cc
stays_past Phase.Ready Phase.Active h i = absurd cc
stays_past Phase.Committing Phase.Active h i = absurd cc
stays_past Phase.Rolling Phase.Active h i = absurd cc

-- a tree that is known and current after the prelude was so before, in its phase
pub record SamePhase (d s : Digest) (t : Aaid) : Type 0 where
  pub now : is_now t d.current ≡ true
  pub phase : phase_of s ≡ phase_of d

recovered_phase : (o : Option Current) (t : Aaid) → is_now t (recovered_current o) ≡ true → elim (recovered_current o) as (λ _. Phase) [ None ↦ Phase.Nil | Some c ↦ c.phase ] ≡ elim o as (λ _. Phase) [ None ↦ Phase.Nil | Some c ↦ c.phase ]
recovered_phase None t h = refl
recovered_phase (Some c) t h = grind (arith, h)

pub same_phase : (o : Origin) (up : Option Addr) (e : Entry) (h : List Entry) (t : Aaid) → o.start.records ≡ [] → IsGrown o up (e ∷ h) → IsOnce o (e ∷ h) → is_known o t h ≡ true
    → is_now t (prelude o.who (digest o h) e.event).current ≡ true → SamePhase (digest o h) (prelude o.who (digest o h) e.event) t
same_phase o up e h t empty legal once known n = record { now = before; phase = go (came_by o.who d e.event legal.0) }
  where
    d : Digest
    d = digest o h

    s : Digest
    s = prelude o.who d e.event

    before : is_now t d.current ≡ true
    before = now_before o up e h t empty legal once known n

    phase_by : (u : Option Current) → s.current ≡ u → phase_of s ≡ elim u as (λ _. Phase) [ None ↦ Phase.Nil | Some c ↦ c.phase ]
    phase_by u i = ap (λ (v : Option Current). elim v as (λ _. Phase) [ None ↦ Phase.Nil | Some c ↦ c.phase ]) i

    go : Came o.who d e.event → phase_of s ≡ phase_of d
    go (As_it_was i) = phase_by d.current i
    go (By_begin from x y q u b k a is found cur nil above) = absurd (cc (before, nil_now d t (late_law o up h legal.3) nil))
    go (By_crash is cur) = phase_by (recovered_current d.current) cur ∙ recovered_phase d.current t (ap (is_now t) (sym cur) ∙ n)

pub crash_current : (who : Who) (d : Digest) → (prelude who d Event.Crash).current ≡ recovered_current d.current
unfolding after_crash
crash_current who d = refl

pub no_open_rolling : (p : Phase) → (is_active p || is_ready p) ≡ true → is_rolling p ≡ true → ⊥
no_open_rolling p h i = absurd (grind (arith, h, i))

pub no_open_committing : (p : Phase) → (is_active p || is_ready p) ≡ true → is_committing p ≡ true → ⊥
no_open_committing p h i = absurd (grind (arith, h, i))

-- a Begin is taken where nothing is current
pub begin_nil : (who : Who) (d : Digest) (from : Addr) (x y : Mark) (q : ℕ) (u : Aaid) (b : BranchId) (k : Holder) (t : Aaid) → IsLate d → refusal who d (Event.Arrive from (PeerRecord.OnAssoc x y q (DialogueRecord.Begin u b k))) ≡ None
    → is_now t d.current ≡ true → ⊥
begin_nil who d from x y q u b k t late ok n = go (find_arc d.arcs from.node) refl
  where
    go : (v : Option Arc) → find_arc d.arcs from.node ≡ v → ⊥
    go None j = begin_arc who d from x y q u b k ok j
    go (Some a) j = absurd (cc (n, nil_now d t late ((begin_seen who d from x y q u b k a ok j).0)))
