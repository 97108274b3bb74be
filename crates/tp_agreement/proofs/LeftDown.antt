-- Leaving goes down: what a superior that left knows of a branch that it began.
use Rattle.std.proofs.Common.{if◌then◌else◌, ◌≡◌, ◌≤◌, ◌+◌, ◌⊎◌, inl, inr, ℕ, suc, Bool, true, false, refl, ap, sym, subst, ◌∙◌, arith, Option, Some, None, List, [], ◌∷◌, ◌&&◌, ◌==◌}
use Rattle.tp_names.specs.declared.identifiers.Aaid.{Aaid}
use Rattle.tp_names.specs.declared.identifiers.BranchId.{BranchId}
use Rattle.tp_names.specs.declared.identifiers.Addr.{Addr}
use Rattle.tp_names.specs.declared.identifiers.Mark.{Mark}
use Rattle.tp_names.specs.Same.{is_aaid}
use Rattle.tp_records.specs.declared.request.Request.{Request}
use Rattle.tp_records.specs.declared.dialogue.DialogueRecord.{DialogueRecord}
use Rattle.tp_records.specs.declared.dialogue.Holder.{Holder}
use Rattle.tp_records.specs.declared.peer.PeerRecord.{PeerRecord}
use Rattle.tp_logrec.specs.declared.record.LogRec.{LogRec}
use Rattle.tp_model.specs.declared.transaction.TxEvent.{TxEvent}
use Rattle.tp_model.specs.Parts.{Who, Origin, Event, Entry, Arc, Branch, Current, Digest}
use Rattle.tp_model.specs.Dialogues.{is_nil, is_active}
use Rattle.tp_model.specs.Transactions.{Row, Transaction, Turn, aaid_of, find_row, all_left, refused_tx, transacted, leave}
use Rattle.tp_model.specs.Requests.{refused_request}
use Rattle.tp_model.specs.Node.{Move, move, followed, seen_row, seen_rows, seen, phase_of, turned, is_over, try_start, transact, is_leaving, passage, Passage, started_next}
use Rattle.tp_model.specs.Events.{refusal, verdict, action}
use Rattle.tp_model.specs.History.{digest, records}
use Rattle.tp_model.specs.Outcomes.{is_now, is_unchanged, decided, has_left}
use Rattle.tp_model.specs.Questions.{said_to}
use Rattle.tp_model.specs.Legal.{IsGrown}
use Rattle.tp_histories.specs.Histories.{IsSentIn, HasSent}
use Rattle.tp_steps.specs.Moves.{IsPut, IsLate, prelude}
use Rattle.tp_steps.specs.Traces.{is_old}
use Rattle.tp_steps.specs.Facts.{BranchKey, begun_keys, only_words, words_to, find_branch, key_at}
use Rattle.tp_steps.specs.Trees.{begins_of, branch_of_tree, IsTreed}
use Rattle.tp_histories.specs.Members.{IsOnce}
use Rattle.tp_steps.specs.Upward.{Deeds}
use Rattle.tp_runs.specs.Hanging.{IsStaying}
use Rattle.tp_runs.specs.Heeded.{heeds_event, heeds}
use Rattle.tp_histories.proofs.trees.Late.{late_law, late_prelude, late_remaining}
use Rattle.tp_steps.proofs.links.Links.{said_append}
use Rattle.tp_steps.proofs.links.Wrapped.{words_append}
use Rattle.tp_steps.proofs.lemmas.Words.{commit_more}
use Rattle.tp_steps.proofs.every.EveryMove.{every_start}
use Rattle.tp_steps.proofs.words.Treed.{begins_append, now_some, now_left, no_one, some_of}
use Rattle.tp_histories.proofs.trees.TreedMoves.{treed_moves}
use Rattle.tp_histories.proofs.trees.Knowing.{now_known, now_prelude}
use Rattle.tp_histories.proofs.worlds.TreeMembers.{known_old, sent_counts, sent_row}
use Rattle.tp_steps.proofs.words.Treed.{drawn_new}
use Rattle.tp_runs.proofs.Left.{left_active, left_law}
use Rattle.tp_steps.proofs.branches.Rolls.{phase_at}
use Rattle.tp_steps.proofs.lemmas.Equality.{aaids_equal, or_case, and_left, and_right}
use Rattle.tp_steps.proofs.words.HeardTurned.{seen_find}
use Rattle.tp_runs.proofs.Hanging.{staying_event}
use Rattle.tp_agreement.proofs.Closing.{turned_none}
use Rattle.tp_agreement.proofs.Marked.{Marked}
use Rattle.tp_agreement.proofs.Accounts.{left_of, Accounts}
use Rattle.tp_agreement.proofs.AccountLaw.{account_law}
use Rattle.tp_steps.specs.Facts.{has_ready_of}

-- ---- what is known of a peer below

pub record Below (o : Origin) (up : Option Addr) (p : ℕ) (g : Deeds) (rs : List LogRec) (h : List Entry) : Type 0 where
  pub empty : o.start.records ≡ []
  pub legal : IsGrown o up h
  pub once : IsOnce o h
  pub heeded : heeds g rs p h ≡ true
  pub never : (j : BranchKey) → g.rolled j.0 ≡ true → has_ready_of j rs ≡ true → decided o j.0 h ≡ true → ⊥

pub below_tail : (o : Origin) (up : Option Addr) (p : ℕ) (g : Deeds) (rs : List LogRec) (e : Entry) (h : List Entry) → Below o up p g rs (e ∷ h) → Below o up p g rs h
below_tail o up p g rs e h b = record {
  empty = b.empty;
  legal = b.legal.3;
  once = b.once.1;
  heeded = and_right (heeds_event g rs p h e.event) (heeds g rs p h) b.heeded;
  never = λ j r v c. b.never j r v (commit_more j.0 e.rec (records o h) c);
}

pub accounts_of : (o : Origin) (up : Option Addr) (p : ℕ) (g : Deeds) (rs : List LogRec) (h : List Entry) → Below o up p g rs h → Accounts o p g rs h
accounts_of o up p g rs h b = account_law o up p g rs h b.empty b.legal b.once b.heeded b.never

-- ---- the event of leaving

unchanged_ok : (who : Who) (d : Digest) (c : Current) → refusal who d (Event.Do Request.Unchanged) ≡ None → d.current ≡ Some c → refused_tx (TxEvent.User Request.Unchanged) (seen who d.arcs c) ≡ None
unfolding refusal verdict refused_request refused_tx
unchanged_ok who d c ok now = grind (arith, ok, now)

rows_left : (t : Transaction) → refused_tx (TxEvent.User Request.Unchanged) t ≡ None → all_left t.rows ≡ true
unfolding refused_tx
rows_left t h = grind (arith, h)

left_row : (rows : List Row) (p : ℕ) (r : Row) → all_left rows ≡ true → find_row rows p ≡ Some r → r.branch.left ≡ true
left_row [] p r h i = absurd cc
left_row (x ∷ rows) p r h i = go (x.branch.peer.node == p) refl (left_row rows p r)
  where
    go : (b : Bool) → (x.branch.peer.node == p) ≡ b → (all_left rows ≡ true → find_row rows p ≡ Some r → r.branch.left ≡ true) → r.branch.left ≡ true
    go true j rest =
        let one : Some x ≡ Some r = rw j at i in
        let same : x ≡ r = cc (one) in
        ap (λ (v : Row). v.branch.left) (sym same) ∙ and_left x.branch.left (all_left rows) h
    go false j rest = rest (and_right x.branch.left (all_left rows) h) (rw j at i)

pub no_begins : (t : Aaid) (ws : List DialogueRecord) → begun_keys ws ≡ [] → begins_of t ws ≡ 0
no_begins t [] h = refl
no_begins t (DialogueRecord.Begin u b i ∷ ws) h = absurd (cc (h))
no_begins t (r ∷ ws) h = no_begins t ws h

-- no Begin of the tree goes out with it
left_begins : (who : Who) (d : Digest) (c : Current) (t : Aaid) (p : ℕ) → d.current ≡ Some c → is_old who d t.mark ≡ true → IsPut (TxEvent.User Request.Unchanged) (seen who d.arcs c) → suc 0 ≤ begins_of t (words_to p (transact who (TxEvent.User Request.Unchanged) d).outs) → ⊥
unfolding transact leave
left_begins who d c t p now old put =
    subst (λ (o : Option Current). suc 0 ≤ begins_of t (words_to p (elim o as (λ _. Move) [ None ↦ move [] d | Some x ↦ started_next who (passage (is_leaving f) (seen who d.arcs x).phase (transacted f (seen who d.arcs x)).next.phase) (turned who f d x) ]).outs) → ⊥) (sym now)
    (over (is_over w))
  where
    f : TxEvent
    f = TxEvent.User Request.Unchanged

    a : Turn
    a = transacted f (seen who d.arcs c)

    w : Passage
    w = passage (is_leaving f) c.phase a.next.phase

    m : Move
    m = turned who f d c

    g : Digest
    g = m.next

    gone : is_now t g.current ≡ true → ⊥
    gone n = let k = now_left t a.next n in let none : is_nil a.next.phase ≡ true = refl in absurd (cc (k.1, none))

    quiet : begins_of t (words_to p m.outs) ≡ 0
    quiet = no_begins t (words_to p m.outs) (turned_none who f d c p put)

    starts : IsTreed who g true t p g (try_start who g)
    starts = every_start who Event.Retry g (IsTreed who g true t p) (treed_moves who Event.Retry g true t p (λ x y z at asked h. refl)) g

    over : (b : Bool) → suc 0 ≤ begins_of t (words_to p (if b then followed m (try_start who) else m).outs) → ⊥
    over false n = no_one (begins_of t (words_to p m.outs)) quiet n
    over true n =
        let split : begins_of t (words_to p (followed m (try_start who)).outs) ≡ begins_of t (words_to p m.outs) + begins_of t (words_to p (try_start who g).outs) =
        ap (begins_of t) (ap only_words (said_append p m.outs (try_start who g).outs) ∙ words_append (said_to p m.outs) (said_to p (try_start who g).outs)) ∙ begins_append t (words_to p m.outs) (words_to p (try_start who g).outs) in
        elim (starts.born (late_remaining a.next) (some_of (begins_of t (words_to p m.outs)) (begins_of t (words_to p (try_start who g).outs)) quiet (subst (λ (k : ℕ). suc 0 ≤ k) split n))) [
          | inl here ↦ gone here
          | inr x ↦ drawn_new who g (try_start who g).next t x old
        ]

-- ---- every legal history

pub branch_some : (t : Aaid) (o : Option BranchKey) → suc 0 ≤ branch_of_tree t o → (j : BranchKey) × (o ≡ Some j) × (is_aaid t j.0 ≡ true)
branch_some t None h = absurd (omega (arith, h))
branch_some t (Some j) h = go (is_aaid t j.0) refl
  where
    go : (v : Bool) → is_aaid t j.0 ≡ v → (k : BranchKey) × (Some j ≡ Some k) × (is_aaid t k.0 ≡ true)
    go true i = (j, refl, i)
    go false i = let z : branch_of_tree t (Some j) ≡ 0 = grind (arith, i) in absurd (no_one (branch_of_tree t (Some j)) z h)

pub key_branch : (c : Current) (p : ℕ) (j : BranchKey) → key_at (Some c) p ≡ Some j → (b : Branch) × (find_branch c.branches p ≡ Some b) × (j ≡ (aaid_of c.key, b.id))
key_branch c p j h = go (is_nil c.phase) refl (find_branch c.branches p) refl
  where
    go : (v : Bool) → is_nil c.phase ≡ v → (o : Option Branch) → find_branch c.branches p ≡ o → (b : Branch) × (find_branch c.branches p ≡ Some b) × (j ≡ (aaid_of c.key, b.id))
    go true i o k = let none : None ≡ Some j = rw (i, key_at) at h in absurd (cc (none))
    go false i None k = let none : None ≡ Some j = rw (i, k, key_at) at h in absurd (cc (none))
    go false i (Some b) k = let one : ◌≡◌ {A = Option BranchKey} (Some (aaid_of c.key, b.id)) (Some j) = rw (i, k, key_at) at h in (b, k, cc (one))

seen_left : (who : Who) (arcs : List Arc) (c : Current) (p : ℕ) (b : Branch) → all_left (seen who arcs c).rows ≡ true → find_branch c.branches p ≡ Some b → b.left ≡ true
seen_left who arcs c p b all found = left_row (seen_rows arcs c.branches) p (seen_row arcs b) all (seen_find arcs c.branches p ∙ rw found refl)

pub left_sent : (o : Origin) (up : Option Addr) (p : ℕ) (g : Deeds) (rs : List LogRec) (h : List Entry) (a : Addr) (x y : Mark) (q : ℕ) (t : Aaid) (b : BranchId) (i : Holder) → Below o up p g rs h → a.node ≡ p → HasSent h a (PeerRecord.OnAssoc x y q (DialogueRecord.Begin t b i)) → has_left o t h ≡ true → g.left t ≡ true
left_sent o up p g rs [] a x y q t b i below at s l = absurd s
left_sent o up p g rs (e ∷ h) a x y q t b i below at s l =
    go s (or_case (is_now t d.current && is_unchanged e.event) (has_left o t h) l) (left_sent o up p g rs h a x y q t b i (below_tail o up p g rs e h below) at)
  where
    d : Digest
    d = digest o h

    late : IsLate d
    late = late_law o up h below.legal.3

    counts : IsSentIn e.outs a (PeerRecord.OnAssoc x y q (DialogueRecord.Begin t b i)) → suc 0 ≤ begins_of t (words_to a.node (action o.who d e.event).outs)
    counts k = sent_counts t a.node (action o.who d e.event).outs a x y q b i refl (subst (λ (f : Entry). IsSentIn f.outs a (PeerRecord.OnAssoc x y q (DialogueRecord.Begin t b i))) (sym below.legal.1) k)

    -- a tree that was left before begins no branch
    later : has_left o t h ≡ true → IsSentIn e.outs a (PeerRecord.OnAssoc x y q (DialogueRecord.Begin t b i)) → ⊥
    later old k =
        let gone = left_law o up h t below.empty below.legal.3 below.once.1 old in
        let st : IsStaying e.event t a.node (prelude o.who d e.event) (prelude o.who d e.event) (action o.who d e.event) = staying_event o.who d e.event t a.node late below.legal.0 in
        elim (st.begins (late_prelude o.who d e.event late) (counts k)) [
          | inl n ↦ (left_law o up (e ∷ h) t below.empty below.legal below.once l).gone n
          | inr n ↦ elim (now_prelude o.who d e.event t below.legal.0 n) [
            | inl j ↦ gone.gone j
            | inr j ↦ (let new = below.once.0 t j in absurd (grind (arith, gone.known, new.0, new.1)))
          ]
        ]

    unchanged : (f : Event) → is_unchanged f ≡ true → f ≡ Event.Do Request.Unchanged
    unchanged (Event.Do Request.Unchanged) u = refl
    unchanged f u = absurd (cc (u))

    here : is_now t d.current ≡ true → e.event ≡ Event.Do Request.Unchanged → IsSentIn e.outs a (PeerRecord.OnAssoc x y q (DialogueRecord.Begin t b i)) ⊎ HasSent h a (PeerRecord.OnAssoc x y q (DialogueRecord.Begin t b i)) → g.left t ≡ true
    here n is sent = by sent
      where
        c : (u : Current) × (d.current ≡ Some u)
        c = let u = now_some t d.current n in (u.0, u.1)

        ok : refusal o.who d (Event.Do Request.Unchanged) ≡ None
        ok = ap (refusal o.who d) (sym is) ∙ below.legal.0

        tx : refused_tx (TxEvent.User Request.Unchanged) (seen o.who d.arcs c.0) ≡ None
        tx = unchanged_ok o.who d c.0 ok c.1

        put : IsPut (TxEvent.User Request.Unchanged) (seen o.who d.arcs c.0)
        put = record { late = late c.0 c.1; ok = λ v. tx; abort = λ n v. absurd (cc (v)); ordered = λ v. absurd (cc (v)); not_begun = λ arcs v. cc (v) }

        by : IsSentIn e.outs a (PeerRecord.OnAssoc x y q (DialogueRecord.Begin t b i)) ⊎ HasSent h a (PeerRecord.OnAssoc x y q (DialogueRecord.Begin t b i)) → g.left t ≡ true
        by (inl k) =
            absurd (left_begins o.who d c.0 t a.node c.1 (known_old o h t below.once.1 (now_known o up h t below.empty below.legal.3 n)) put
            (subst (λ (f : Event). suc 0 ≤ begins_of t (words_to a.node (action o.who d f).outs)) is (counts k)))
        by (inr k) =
            let act : is_active (phase_of d) ≡ true = ap is_active (phase_at d c.0 c.1) ∙ left_active o.who d c.0 c.1 (late c.0 c.1) ok in
            let row = sent_row o up h a x y q t b i below.empty below.legal.3 below.once.1 k n act in
            let j = branch_some t (key_at d.current a.node) row in
            let w = key_branch c.0 a.node j.0 (ap (λ (u : Option Current). key_at u a.node) (sym c.1) ∙ j.1) in
            let gone = seen_left o.who d.arcs c.0 a.node w.0 (rows_left (seen o.who d.arcs c.0) tx) w.1 in
            let m : Marked left_of d.current p j.0 = subst (λ (n : ℕ). Marked left_of d.current n j.0) at (record { current = c.0; branch = w.0; at = c.1; found = w.1; is = gone; key = w.2 }) in
            ap g.left (aaids_equal t j.0.0 j.2) ∙ (accounts_of o up p g rs h (below_tail o up p g rs e h below)).left j.0 m

    go : IsSentIn e.outs a (PeerRecord.OnAssoc x y q (DialogueRecord.Begin t b i)) ⊎ HasSent h a (PeerRecord.OnAssoc x y q (DialogueRecord.Begin t b i)) → ((is_now t d.current && is_unchanged e.event) ≡ true) ⊎ (has_left o t h ≡ true)
        → (HasSent h a (PeerRecord.OnAssoc x y q (DialogueRecord.Begin t b i)) → has_left o t h ≡ true → g.left t ≡ true) → g.left t ≡ true
    go (inr k) (inr old) rest = rest k old
    go (inl k) (inr old) rest = absurd (later old k)
    go sent (inl now) rest = here (and_left (is_now t d.current) (is_unchanged e.event) now) (unchanged e.event (and_right (is_now t d.current) (is_unchanged e.event) now)) sent
