-- A ready branch rolls by the Rollback of its superior, or by its reply that it knows of nothing.
use Rattle.std.proofs.Common.{◌≡◌, ◌⊎◌, inl, inr, ℕ, Bool, true, false, refl, ap, sym, subst, ◌∙◌, arith, Option, Some, None, List, [], ◌∷◌, ◌++◌, ◌&&◌, ◌||◌, ◌==◌}
use Rattle.std.proofs.lemmas.Bool.Decides.{nat_tests}
use Rattle.tp_names.specs.declared.identifiers.Mark.{Mark}
use Rattle.tp_names.specs.declared.identifiers.Aaid.{Aaid}
use Rattle.tp_names.specs.declared.identifiers.BranchId.{BranchId}
use Rattle.tp_names.specs.declared.identifiers.Addr.{Addr}
use Rattle.tp_names.specs.Same.{is_aaid, is_addr, is_key}
use Rattle.tp_records.specs.declared.dialogue.DialogueRecord.{DialogueRecord}
use Rattle.tp_records.specs.declared.peer.PeerRecord.{PeerRecord}
use Rattle.tp_records.specs.declared.peer.RecState.{RecState}
use Rattle.tp_logrec.specs.declared.record.LogRec.{LogRec}
use Rattle.tp_model.specs.declared.arc.Phase.{Phase}
use Rattle.tp_model.specs.Parts.{Who, Origin, Event, Entry, Arc, Key, Root, Under, Current, Digest}
use Rattle.tp_model.specs.Dialogues.{is_active, is_ready}
use Rattle.tp_model.specs.Arcs.{find_arc}
use Rattle.tp_model.specs.Transactions.{Row, Transaction, aaid_of, node_key, superior_of, is_under_at, find_row, sight_of_tx, acts}
use Rattle.tp_model.specs.Node.{phase_of, seen}
use Rattle.tp_model.specs.Arrivals.{branch_key, named_by_key, is_current_ready, sight_at, refused_arrival}
use Rattle.tp_model.specs.Events.{refusal, verdict, action}
use Rattle.tp_model.specs.History.{digest, records, with_rec}
use Rattle.tp_model.specs.Outcomes.{is_now, is_fatal, rolls, rolls_by_rollback, is_crash_in_active, rolled}
use Rattle.tp_model.specs.Questions.{is_at}
use Rattle.tp_model.specs.World.{Node, Frame, number_of, find_node}
use Rattle.tp_model.specs.Legal.{IsGrown}
use Rattle.tp_histories.specs.Worlds.{IsGood}
use Rattle.tp_steps.specs.Moves.{prelude}
use Rattle.tp_steps.specs.Traces.{took_of}
use Rattle.tp_histories.specs.Traces.{sent_on, accepted_on}
use Rattle.tp_steps.specs.Facts.{BranchKey, has_ready_of, is_rollback, last_from, is_rolled}
use Rattle.tp_histories.specs.Members.{IsOnce}
use Rattle.tp_histories.specs.Fates.{has_ready_in, IsFated}
use Rattle.tp_steps.specs.Trees.{IsLoggedIn}
use Rattle.tp_histories.proofs.trees.Late.{late_law}
use Rattle.tp_steps.proofs.links.Links.{mark_same}
use Rattle.tp_steps.proofs.every.Preludes.{takes_next}
use Rattle.tp_steps.proofs.lemmas.Equality.{aaids_equal, branches_equal, addrs_equal, or_case, and_left, and_right}
use Rattle.tp_steps.proofs.every.EveryRecord.{find_arc_is}
use Rattle.tp_steps.proofs.words.Treed.{now_some}
use Rattle.tp_histories.proofs.trees.Knowing.{now_known}
use Rattle.tp_histories.proofs.worlds.TreeMembers.{known_old}
use Rattle.tp_steps.proofs.branches.Rolls.{rolls_from, phase_at, sight_rollback}
use Rattle.tp_histories.proofs.trees.Fallen.{is_plain, IsFallen, fallen_event}
use Rattle.tp_histories.proofs.trees.Behind.{treed_rolls, readies_opt, ready_logged, same_phase, no_open_rolling}
use Rattle.tp_histories.proofs.trees.Fated.{fated_law}
use Rattle.tp_histories.proofs.trees.Above.{IsKeyOf, key_law}
use Rattle.tp_histories.proofs.pairs.PairedSteps.{paired_law}
use Rattle.tp_histories.proofs.pairs.Committed.{last_taken}
use Rattle.tp_histories.proofs.worlds.Prefix.{prefix_list}
use Rattle.tp_runs.proofs.Family.{placed_under, at_same, history_is}

-- ---- which events roll what is ready

pub data ReadyRolls (c : Current) (e : Event) : Type 0 where
  By_rollback : (from : Addr) (x y : Mark) (q : ℕ) → e ≡ Event.Arrive from (PeerRecord.OnAssoc x y q DialogueRecord.Rollback) → is_under_at c.key from.node ≡ true → ReadyRolls c e
  By_unknown : (from : Addr) (t : Aaid) (b : BranchId) → e ≡ Event.Arrive from (PeerRecord.RecReply t b RecState.Unknown) → is_key (node_key c.key) (branch_key t b) ≡ true → ReadyRolls c e

not_fatal : (d : Digest) (c : Current) (p : ℕ) → d.current ≡ Some c → is_ready c.phase ≡ true → is_fatal d p ≡ true → ⊥
not_fatal d c p now ready h = absurd (grind (arith, h, now, ready))

rollback_under : (t : Transaction) (p : ℕ) → is_ready t.phase ≡ true → acts (sight_of_tx t p DialogueRecord.Rollback) ≡ true → is_under_at t.key p ≡ true
unfolding sight_of_tx
rollback_under t p ready h = go (is_under_at t.key p) refl (find_row t.rows p) refl
  where
    go : (b : Bool) → is_under_at t.key p ≡ b → (o : Option Row) → find_row t.rows p ≡ o → is_under_at t.key p ≡ true
    go true i o j = i
    go false i None j = absurd (grind (arith, h, i, j))
    go false i (Some r) j = absurd (grind (arith, h, i, j, ready))

rollback_here : (who : Who) (d : Digest) (c : Current) (p : ℕ) → d.current ≡ Some c → is_ready c.phase ≡ true → rolls_by_rollback who d p ≡ true → is_under_at c.key p ≡ true
rollback_here who d c p now ready h = go (find_arc d.arcs p) refl
  where
    go : (o : Option Arc) → find_arc d.arcs p ≡ o → is_under_at c.key p ≡ true
    go None i = absurd (grind (arith, h, i))
    go (Some a) i =
        let act : acts (sight_at who d a DialogueRecord.Rollback) ≡ true = grind (arith, h, i) in
        let at : a.peer.node ≡ p = find_arc_is d.arcs p a i in
        subst (λ (n : ℕ). is_under_at c.key n ≡ true) at (rollback_under (seen who d.arcs c) a.peer.node ready (sym (ap acts (sight_rollback who d a c now)) ∙ act))

unknown_key : (d : Digest) (c : Current) (t : Aaid) (b : BranchId) → d.current ≡ Some c → is_current_ready (named_by_key d (branch_key t b)) ≡ true → is_key (node_key c.key) (branch_key t b) ≡ true
unknown_key d c t b now h = go (is_key (node_key c.key) (branch_key t b)) refl
  where
    go : (v : Bool) → is_key (node_key c.key) (branch_key t b) ≡ v → is_key (node_key c.key) (branch_key t b) ≡ true
    go true i = i
    go false i = absurd (grind (arith, h, now, i))

pub ready_event : (who : Who) (d : Digest) (e : Event) (c : Current) → d.current ≡ Some c → is_ready c.phase ≡ true → rolls who d e ≡ true → ReadyRolls c e
ready_event who d (Event.Do r) c now ready h = absurd (grind (arith, h, now, ready))
ready_event who d (Event.Arrive from (PeerRecord.ShutAssoc x (Some y))) c now ready h = absurd (not_fatal d c from.node now ready h)
ready_event who d (Event.Arrive from (PeerRecord.OnAssoc x y q DialogueRecord.UAbort)) c now ready h = absurd (not_fatal d c from.node now ready h)
ready_event who d (Event.Arrive from (PeerRecord.OnAssoc x y q DialogueRecord.Rollback)) c now ready h = By_rollback from x y q refl (rollback_here who d c from.node now ready h)
ready_event who d (Event.Arrive from (PeerRecord.RecReply t b RecState.Unknown)) c now ready h = By_unknown from t b refl (unknown_key d c t b now h)
ready_event who d (Event.Break from r) c now ready h = absurd (not_fatal d c from.node now ready h)
ready_event who d (Event.Lose p) c now ready h = absurd (not_fatal d c p now ready h)
ready_event who d _ c now ready h = absurd (cc (h))

-- ---- what was taken

-- Rollback was taken from the superior, after the Begin of the tree
pub record RollbackTaken (up : Option Addr) (h : List Entry) (t : Aaid) : Type 0 where
  pub peer : ℕ
  pub x : Mark
  pub y : Mark
  pub id : BranchId
  pub before : List DialogueRecord
  pub rest : List DialogueRecord
  pub at : is_at up peer ≡ true
  pub taken : accepted_on x y peer h ≡ before ++ DialogueRecord.Rollback ∷ rest
  pub last : last_from None before ≡ Some (t, id)

-- the reply of the superior, that it knows of nothing, to the key that is ready
pub record UnknownTaken (up : Option Addr) (e : Event) (c : Current) (t : Aaid) : Type 0 where
  pub from : Addr
  pub id : BranchId
  pub is : e ≡ Event.Arrive from (PeerRecord.RecReply t id RecState.Unknown)
  pub at : is_at up from.node ≡ true
  pub key : c.key ≡ Under t id from

reply_from : (who : Who) (d : Digest) (from : Addr) (t : Aaid) (b : BranchId) (c : Current) (u : Aaid) (v : BranchId) (a : Addr) → refusal who d (Event.Arrive from (PeerRecord.RecReply t b RecState.Unknown)) ≡ None → d.current ≡ Some c
    → is_key (node_key c.key) (branch_key t b) ≡ true → c.key ≡ Under u v a → is_addr a from ≡ true
unfolding refusal verdict refused_arrival
reply_from who d from t b c u v a ok now key under =
    let one : superior_of c.key ≡ Some a = ap superior_of under in
    grind (arith, ok, now, key, one)

no_root : (u t : Aaid) (b : BranchId) → is_key (node_key (Root u)) (branch_key t b) ≡ true → ⊥
no_root u t b h = absurd (grind (arith, h))

pub rollback_taken : (o : Origin) (up : Option Addr) (e : Entry) (h : List Entry) (t : Aaid) (c : Current) → o.start.records ≡ [] → IsGrown o up (e ∷ h) → (digest o h).current ≡ Some c → is_aaid t (aaid_of c.key) ≡ true → (k : Key) → c.key ≡ k
    → (from : Addr) (x y : Mark) (q : ℕ) → e.event ≡ Event.Arrive from (PeerRecord.OnAssoc x y q DialogueRecord.Rollback) → is_under_at c.key from.node ≡ true → RollbackTaken up (e ∷ h) t
rollback_taken o up e h t c empty legal now tree (Root u) key from x y q is under = absurd (cc (ap (λ (k : Key). is_under_at k from.node) key, under))
rollback_taken o up e h t c empty legal now tree (Under u b a) key from x y q is under =
    let d : Digest = digest o h in
    let ok : refusal o.who d (Event.Arrive from (PeerRecord.OnAssoc x y q DialogueRecord.Rollback)) ≡ None = subst (λ (v : Event). refusal o.who d v ≡ None) is legal.0 in
    let l = takes_next o.who d from x y q DialogueRecord.Rollback ok in
    let last = last_taken o up h from.node x y l.sent q c u b a (paired_law o up h empty legal.3) (late_law o up h legal.3) l.live now key under in
    let node : a.node ≡ from.node = node_is (subst (λ (k : Key). is_under_at k from.node ≡ true) key under) in
    let above : is_at up a.node ≡ true = subst (λ (k : Key). IsKeyOf o.who up k) key (key_law o up h c empty legal.3 now) in
    let took : took_of x y from.node e.event ≡ DialogueRecord.Rollback ∷ [] = ap (took_of x y from.node) is ∙ grind (arith, nat_tests, mark_same x, mark_same y) in
    let same : u ≡ t = sym (aaids_equal t u (ap (λ (k : Key). is_aaid t (aaid_of k)) (sym key) ∙ tree)) in
    record {
      peer = from.node;
      x = x;
      y = y;
      id = b;
      before = accepted_on x y from.node h;
      rest = [];
      at = subst (λ (n : ℕ). is_at up n ≡ true) node above;
      taken = ap (λ (rs : List DialogueRecord). accepted_on x y from.node h ++ rs) took;
      last = last ∙ ap (λ (v : Aaid). Some (v, b)) same;
    }
  where
    node_is : (a.node == from.node) ≡ true → a.node ≡ from.node
    node_is h = grind (arith, nat_tests, h)

pub unknown_taken : (o : Origin) (up : Option Addr) (e : Entry) (h : List Entry) (t : Aaid) (c : Current) → o.start.records ≡ [] → IsGrown o up (e ∷ h) → (digest o h).current ≡ Some c → is_aaid t (aaid_of c.key) ≡ true → (k : Key) → c.key ≡ k
    → (from : Addr) (v : Aaid) (w : BranchId) → e.event ≡ Event.Arrive from (PeerRecord.RecReply v w RecState.Unknown) → is_key (node_key c.key) (branch_key v w) ≡ true → UnknownTaken up e.event c t
unknown_taken o up e h t c empty legal now tree (Root u) key from v w is same = absurd (no_root u v w (subst (λ (k : Key). is_key (node_key k) (branch_key v w) ≡ true) key same))
unknown_taken o up e h t c empty legal now tree (Under u b a) key from v w is same =
    let d : Digest = digest o h in
    let ok : refusal o.who d (Event.Arrive from (PeerRecord.RecReply v w RecState.Unknown)) ≡ None = subst (λ (f : Event). refusal o.who d f ≡ None) is legal.0 in
    let at = addrs_equal a from (reply_from o.who d from v w c u b a ok now same key) in
    let above : is_at up a.node ≡ true = subst (λ (k : Key). IsKeyOf o.who up k) key (key_law o up h c empty legal.3 now) in
    let mine : is_key (node_key (Under u b a)) (branch_key v w) ≡ true = subst (λ (k : Key). is_key (node_key k) (branch_key v w) ≡ true) key same in
    let first : u ≡ t = sym (aaids_equal t u (ap (λ (k : Key). is_aaid t (aaid_of k)) (sym key) ∙ tree)) in
    let one : v ≡ t = sym (aaids_equal u v (grind (arith, mine))) ∙ first in
    let two : b ≡ w = branches_equal b w (grind (arith, mine)) in
    record {
      from = from;
      id = w;
      is = is ∙ ap (λ (z : Aaid). Event.Arrive from (PeerRecord.RecReply z w RecState.Unknown)) one;
      at = ap (λ (z : Addr). is_at up z.node) (sym at) ∙ above;
      key = key ∙ made u t b w a from first two at;
    }
  where
    made : (u t : Aaid) (b w : BranchId) (a f : Addr) → u ≡ t → b ≡ w → a ≡ f → Under u b a ≡ Under t w f
    made u t b w a f i j k = rw (i, j, k) refl

plain_ready : (t : Aaid) (r : Option LogRec) → is_plain r ≡ true → readies_opt t r ≡ false
plain_ready t (Some (LogRec.Ready n k s cs)) h = absurd cc
plain_ready t (Some (LogRec.Commit n k s cs)) h = absurd cc
plain_ready t _ h = refl

crash_is : (d : Digest) (f : Event) → is_crash_in_active d f ≡ true → (f ≡ Event.Crash) × (is_active (phase_of d) ≡ true)
crash_is d Event.Crash i = (refl, i)
crash_is d f i = absurd (grind (arith, i))

ready_left : (p : Phase) → (is_active p || is_ready p) ≡ true → is_active p ≡ false → is_ready p ≡ true
ready_left p h i = grind (arith, h, i)

-- ---- every legal history

-- what is ready rolls by this event
pub record RollsNow (o : Origin) (e : Entry) (h : List Entry) (t : Aaid) : Type 0 where
  pub current : Current
  pub now : (digest o h).current ≡ Some current
  pub tree : is_aaid t (aaid_of current.key) ≡ true
  pub ready : is_ready current.phase ≡ true
  pub by : ReadyRolls current e.event

ready_split : (j : BranchKey) (r : Option LogRec) (rs : List LogRec) → has_ready_of j (with_rec r rs) ≡ true → (readies_opt j.0 r ≡ true) ⊎ (has_ready_of j rs ≡ true)
ready_split j (Some (LogRec.Ready n k s cs)) rs h = elim (or_case (is_key (record { aaid = j.0; branch = Some j.1 }) k) (has_ready_of j rs) h) [ inl i ↦ inl (grind (arith, i)) | inr i ↦ inr i ]
ready_split j _ rs h = inr h

ready_in : (j : BranchKey) (rs : List LogRec) → has_ready_of j rs ≡ true → has_ready_in j.0 rs ≡ true
ready_in j [] h = absurd cc
ready_in j (LogRec.Ready n k s cs ∷ rs) h = let rest = ready_in j rs in grind (arith, h, rest)
ready_in j (LogRec.Commit n k s cs ∷ rs) h = ready_in j rs h
ready_in j (LogRec.Boot n ∷ rs) h = ready_in j rs h
ready_in j (LogRec.Heuristic n k o ∷ rs) h = ready_in j rs h
ready_in j (LogRec.Damage n k s o r cs ∷ rs) h = ready_in j rs h
ready_in j (LogRec.End n k o ∷ rs) h = ready_in j rs h

-- a ready branch that rolled did so before, or rolls now
pub ready_rolls : (o : Origin) (up : Option Addr) (e : Entry) (h : List Entry) (j : BranchKey) → o.start.records ≡ [] → IsGrown o up (e ∷ h) → IsOnce o (e ∷ h) → has_ready_of j (records o (e ∷ h)) ≡ true → rolled o j.0 (e ∷ h) ≡ true
    → (has_ready_of j (records o h) ≡ true) × (rolled o j.0 h ≡ true) ⊎ RollsNow o e h j.0
ready_rolls o up e h j empty legal once ready roll =
    go (or_case (is_now t d.current && (rolls o.who d e.event || is_crash_in_active d e.event)) (rolled o t h) roll) (ready_split j e.rec (records o h) ready)
  where
    t : Aaid
    t = j.0

    d : Digest
    d = digest o h

    s : Digest
    s = prelude o.who d e.event

    fated : IsFated o h t
    fated = fated_law o up h t empty legal.3 once.1

    recs : e.rec ≡ (action o.who d e.event).rec
    recs = ap (λ (v : Entry). v.rec) (sym legal.1)

    logs : IsLoggedIn t s e.rec
    logs = subst (λ (r : Option LogRec). IsLoggedIn t s r) (sym recs) (treed_rolls o.who d e.event t 0 (late_law o up h legal.3) legal.0).logs

    here : is_now t d.current ≡ true → is_active (phase_of d) ≡ false → rolls o.who d e.event ≡ true → RollsNow o e h t
    here n past r =
        let c = now_some t d.current n in
        let phase : is_ready c.0.phase ≡ true = ap is_ready (sym (phase_at d c.0 c.1)) ∙ ready_left (phase_of d) (rolls_from o.who d e.event r) past in
        record { current = c.0; now = c.1; tree = c.2; ready = phase; by = ready_event o.who d e.event c.0 c.1 phase r }

    go : ((is_now t d.current && (rolls o.who d e.event || is_crash_in_active d e.event)) ≡ true) ⊎ (rolled o t h ≡ true) → (readies_opt t e.rec ≡ true) ⊎ (has_ready_of j (records o h) ≡ true)
        → (has_ready_of j (records o h) ≡ true) × (rolled o j.0 h ≡ true) ⊎ RollsNow o e h j.0
    go (inr old) (inr before) = inl (before, old)
    go (inr old) (inl new) =
        let k = ready_logged t s e.rec logs new in
        let b = same_phase o up e h t empty legal once (fated.rolled_known old) k.now in
        absurd (no_open_rolling (phase_of d) (ap (λ (p : Phase). is_active p || is_ready p) (sym b.phase) ∙ k.phase) (fated.rolled_now old b.now))
    go (inl now) before =
        let n = and_left (is_now t d.current) (rolls o.who d e.event || is_crash_in_active d e.event) now in
        elim (or_case (rolls o.who d e.event) (is_crash_in_active d e.event) (and_right (is_now t d.current) (rolls o.who d e.event || is_crash_in_active d e.event) now)) [
          | inl r ↦ elim before [
            | inl new ↦
                (let f : IsFallen t (action o.who d e.event) = fallen_event o.who d e.event t legal.0 r n (known_old o h t once.1 (now_known o up h t empty legal.3 n)) in
                absurd (cc (new, plain_ready t e.rec (ap is_plain recs ∙ f.plain))))
            | inr old ↦ inr (here n (fated.ready_now (ready_in j (records o h) old) n) r)
          ]
          | inr c ↦
              (let k = crash_is d e.event c in
              elim before [
                | inl new ↦ (let none : e.rec ≡ None = recs ∙ ap (λ (f : Event). (action o.who d f).rec) k.0 in absurd (cc (new, ap (readies_opt t) none)))
                | inr old ↦ absurd (cc (k.1, fated.ready_now (ready_in j (records o h) old) n))
              ])
        ]

-- ---- in a world

-- the superior sent that Rollback, to a branch of a tree that rolled
pub rollback_sent : (ns : List Node) (fs : List Frame) (x y : Node) (t : Aaid) → IsGood ns fs → find_node ns (number_of x) ≡ Some x → find_node ns (number_of y) ≡ Some y → is_at y.superior (number_of x) ≡ true → RollbackTaken y.superior y.history t
    → rolled x.origin t x.history ≡ true
rollback_sent ns fs x y t good hx hy above r =
    let same : r.peer ≡ number_of x = at_same y.superior r.peer (number_of x) r.at above in
    let there : find_node ns r.peer ≡ Some x = ap (find_node ns) same ∙ hx in
    let pre = prefix_list ns fs good (number_of y) r.peer r.x r.y in
    let sent : sent_on r.x r.y (number_of y) x.history ≡ (r.before ++ DialogueRecord.Rollback ∷ r.rest) ++ pre.0 =
    ap (sent_on r.x r.y (number_of y)) (sym (history_is ns r.peer x there)) ∙ pre.1
    ∙ ap (λ (h : List Entry). accepted_on r.x r.y r.peer h ++ pre.0) (history_is ns (number_of y) y hy) ∙ ap (λ (rs : List DialogueRecord). rs ++ pre.0) r.taken in
    placed_under is_rollback (is_rolled (λ u. rolled x.origin u x.history)) (Some (t, r.id)) DialogueRecord.Rollback r.before r.rest pre.0 (sent_on r.x r.y (number_of y) x.history) sent r.last refl
    ((paired_law x.origin x.superior x.history (good.fresh (number_of x) x hx) (good.legal (number_of x) x hx)).rollbacks (number_of y) r.x r.y)
