-- In every run, no node of a tree whose nodes did not fail rolls in it: who rolls first was told so by one that rolled.
use Rattle.std.proofs.Common.{not, ◌≡◌, ◌⊎◌, inl, inr, ℕ, Bool, true, false, cond, refl, ap, sym, subst, ◌∙◌, arith, Option, Some, None, List, [], ◌∷◌, ◌++◌, ◌&&◌, ◌||◌, ◌==◌, length, slice_get}
use Rattle.std.proofs.lemmas.Bool.Decides.{nat_tests}
use Rattle.tp_names.specs.declared.identifiers.Mark.{Mark}
use Rattle.tp_names.specs.declared.identifiers.Aaid.{Aaid}
use Rattle.tp_names.specs.declared.identifiers.BranchId.{BranchId}
use Rattle.tp_names.specs.declared.identifiers.Addr.{Addr}
use Rattle.tp_names.specs.Same.{is_aaid, is_key}
use Rattle.tp_records.specs.declared.request.Request.{Request}
use Rattle.tp_records.specs.declared.dialogue.DialogueRecord.{DialogueRecord}
use Rattle.tp_records.specs.declared.peer.PeerRecord.{PeerRecord}
use Rattle.tp_records.specs.declared.peer.RecState.{RecState}
use Rattle.tp_logrec.specs.declared.record.LogRec.{LogRec}
use Rattle.tp_model.specs.Parts.{Who, Origin, Event, Entry, Link, Idle, Live, Arc, Key, Root, Under, Branch, Current, Digest}
use Rattle.tp_model.specs.Dialogues.{is_active, is_ready}
use Rattle.tp_model.specs.Arcs.{find_arc, link_with}
use Rattle.tp_model.specs.Transactions.{Row, Transaction, aaid_of, node_key, is_under_at, find_row, sight_of_tx, acts}
use Rattle.tp_model.specs.Requests.{refused_request}
use Rattle.tp_model.specs.Node.{seen, situation_at}
use Rattle.tp_model.specs.Arrivals.{branch_key, named_by_key, is_current_ready, sight_at}
use Rattle.tp_model.specs.Events.{refusal, verdict, action, started}
use Rattle.tp_model.specs.History.{digest, records, entry_of}
use Rattle.tp_model.specs.Outcomes.{is_now, is_member, is_failure, rolls, rolls_by_rollback, is_active_at, is_fatal, is_waited_for_at, is_crash_in_active, rolled}
use Rattle.tp_model.specs.Questions.{sent_more, is_at}
use Rattle.tp_model.specs.World.{Node, Frame, number_of, addr_of, find_node, put_node}
use Rattle.tp_model.specs.Happenings.{Happening, frames_of, run}
use Rattle.tp_model.specs.Legal.{IsGrown}
use Rattle.tp_steps.specs.Histories.{brought}
use Rattle.tp_histories.specs.Histories.{HasSent}
use Rattle.tp_histories.specs.Worlds.{IsGood, grown_node, Comes, shown}
use Rattle.tp_steps.specs.Traces.{count_to}
use Rattle.tp_histories.specs.Traces.{sent_on, own_mark}
use Rattle.tp_histories.specs.Ends.{own_is}
use Rattle.tp_steps.specs.Facts.{BranchKey, find_branch, open_at}
use Rattle.tp_steps.specs.Upward.{Deeds, holds_at}
use Rattle.tp_histories.specs.Upward.{deeds_of}
use Rattle.tp_steps.specs.Moves.{prelude}
use Rattle.tp_runs.specs.Heeded.{heeds_event, heeds}
use Rattle.tp_failure_free.specs.Drained.{is_done_with, depends_on, touches, fails_in, has_failed_in}
use Rattle.tp_steps.proofs.every.EveryMove.{abort_peer}
use Rattle.tp_failure_free.specs.DrainedWorlds.{NobodyRolls}
use Rattle.tp_histories.proofs.worlds.Nodes.{find_put, find_append}
use Rattle.tp_histories.proofs.trees.Late.{late_law}
use Rattle.tp_steps.proofs.every.Preludes.{Prelinked, As_before, Now_idle, Now_called, Now_offered, Now_accepted, Now_confirmed, Took_one, called_at, Taken, takes_next}
use Rattle.tp_steps.proofs.lemmas.Equality.{aaids_equal, or_case, and_left, and_right}
use Rattle.tp_steps.proofs.every.EveryRecord.{find_arc_is}
use Rattle.tp_steps.proofs.words.Treed.{now_some}
use Rattle.tp_steps.proofs.branches.Rolls.{sight_rollback}
use Rattle.tp_steps.proofs.branches.Branched.{row_seen}
use Rattle.tp_agreement.proofs.Marked.{Marked}
use Rattle.tp_histories.proofs.marks.Ends.{alone_law}
use Rattle.tp_histories.proofs.trees.Above.{IsKeyOf, key_law}
use Rattle.tp_histories.proofs.worlds.Prefix.{sent_at}
use Rattle.tp_histories.proofs.marks.Traced.{Told}
use Rattle.tp_histories.proofs.pairs.PairedSteps.{paired_law, told_entry}
use Rattle.tp_histories.proofs.worlds.Good.{Sender, was_sent, event_good, Step, law}
use Rattle.tp_runs.proofs.Hanging.{member_head}
use Rattle.tp_agreement.proofs.Logs.{later_member}
use Rattle.tp_agreement.proofs.ReadyRolls.{ReadyRolls, By_rollback, By_unknown, ready_event, rollback_taken}
use Rattle.tp_agreement.proofs.Accounts.{Balanced, keys_to, ends_from, votes_from, Accounts, last_at, marked_key, open_most}
use Rattle.tp_agreement.proofs.AccountSteps.{heeded_at, is_next, voted_ready}
use Rattle.tp_agreement.proofs.AccountLaw.{holds_long, holds_key}
use Rattle.tp_agreement.proofs.LeftDown.{Below, below_tail, accounts_of}
use Rattle.tp_agreement.proofs.RollsUp.{IsTied, below_of, tied_comes, tied_event, tied_run, legal_now, rollback_above, ready_above}
use Rattle.tp_steps.proofs.lemmas.Options.{some_same}

-- ---- no association of a node with itself

never_called : (who : Who) (d : Digest) (e : Event) → refusal who d e ≡ None → called_at e ≡ Some who.node → ⊥
unfolding refusal verdict refused_request
never_called who d (Event.Do (Request.BeginDialogue a u)) ok h = absurd (let same : a.node ≡ who.node = cc (h) in grind (arith, nat_tests, ok, same))
never_called who d _ ok h = absurd (cc (h))

pub no_own_link : (o : Origin) (up : Option Addr) (h : List Entry) → IsGrown o up h → is_at up o.who.node ≡ false → link_with (digest o h).arcs o.who.node ≡ Idle
unfolding started
no_own_link o up [] legal off = refl
no_own_link o up (e ∷ h) legal off = elim told.linked.over.link [ inl i ↦ i ∙ more (link_with (prelude o.who (digest o h) e.event).arcs o.who.node) (pre (link_with (prelude o.who (digest o h) e.event).arcs o.who.node) told.pre (no_own_link o up h legal.3 off)) | inr i ↦ i ]
  where
    d : Digest
    d = digest o h

    told : Told o.who up o.who.node d e.event
    told = told_entry o up e h legal o.who.node

    pre : (l : Link) → Prelinked o.who up o.who.node d e.event l → link_with d.arcs o.who.node ≡ Idle → l ≡ Idle
    pre l (As_before i none) old = i ∙ old
    pre l (Now_idle i none) old = i
    pre l (Now_called i down n none below calls) old = absurd (never_called o.who d e.event legal.0 calls)
    pre l (Now_offered x i u none) old = absurd (cc (off, u))
    pre l (Now_accepted x i u n none nil) old = absurd (cc (off, u))
    pre l (Now_confirmed x y op i none) old = absurd (cc (old, op))
    pre l (Took_one a x y s t r i j at ev) old = absurd (cc (old, i))

    more : (l : Link) → l ≡ Idle → sent_more (count_to o.who.node (action o.who d e.event).outs) l ≡ Idle
    more l i = ap (sent_more (count_to o.who.node (action o.who d e.event).outs)) i

-- ---- what rolls a tree without a failure

data Cause (who : Who) (d : Digest) (e : Event) : Type 0 where
  By_word : (from : Addr) (x y : Mark) (q : ℕ) → e ≡ Event.Arrive from (PeerRecord.OnAssoc x y q DialogueRecord.Rollback) → rolls_by_rollback who d from.node ≡ true → Cause who d e
  By_reply : (from : Addr) (t : Aaid) (b : BranchId) → e ≡ Event.Arrive from (PeerRecord.RecReply t b RecState.Unknown) → is_current_ready (named_by_key d (branch_key t b)) ≡ true → Cause who d e

cause : (who : Who) (d : Digest) (e : Event) → rolls who d e ≡ true → is_failure e ≡ false → Cause who d e
cause who d (Event.Arrive from (PeerRecord.OnAssoc x y q DialogueRecord.UAbort)) h f = absurd (cc (f))
cause who d (Event.Arrive from (PeerRecord.OnAssoc x y q DialogueRecord.Rollback)) h f = By_word from x y q refl h
cause who d (Event.Arrive from (PeerRecord.OnAssoc x y q r)) h f = absurd (cc (h))
cause who d (Event.Arrive from (PeerRecord.RecReply t b RecState.Unknown)) h f = By_reply from t b refl h
cause who d (Event.Arrive from (PeerRecord.RecReply t b v)) h f = absurd (cc (h))
cause who d (Event.Arrive from (PeerRecord.ShutAssoc x (Some y))) h f = absurd (cc (f))
cause who d (Event.Arrive from r) h f = absurd (cc (h))
cause who d (Event.Do (Request.UAbort p)) h f = absurd (cc (f))
cause who d (Event.Do Request.Rollback) h f = absurd (cc (f))
cause who d (Event.Do r) h f = absurd (cc (h))
cause who d (Event.Break from r) h f = absurd (cc (f))
cause who d (Event.Lose p) h f = absurd (cc (f))
cause who d e h f = absurd (cc (h))

-- a loss that rolls the transaction is of its superior or of a branch
waited_there : (bs : List Branch) (p : ℕ) → is_waited_for_at bs p ≡ true → elim (find_branch bs p) as (λ _. Bool) [ None ↦ false | Some b ↦ not (is_done_with b) ] ≡ true
waited_there [] p h = absurd (cc (h))
waited_there (b ∷ bs) p h = grind (arith, h, waited_there bs p)

fatal_peer : (d : Digest) (c : Current) (p : ℕ) → d.current ≡ Some c → is_fatal d p ≡ true → depends_on c p ≡ true
fatal_peer d c p i h = go (is_under_at c.key p) refl
  where
    one : (is_active c.phase && (is_under_at c.key p || is_waited_for_at c.branches p)) ≡ true
    one = rw (i, is_fatal) at h

    go : (v : Bool) → is_under_at c.key p ≡ v → depends_on c p ≡ true
    go true j = rw j refl
    go false j = let waited : is_waited_for_at c.branches p ≡ true = grind (arith, one, j) in let there = waited_there c.branches p waited in rw there (grind arith)

-- so what rolls it is a failure of it, or none
rolls_calm : (who : Who) (d : Digest) (e : Event) (c : Current) → d.current ≡ Some c → rolls who d e ≡ true → (is_failure e && touches c e) ≡ false → is_failure e ≡ false
rolls_calm who d (Event.Do (Request.UAbort p)) c i h m = absurd (cc (abort_peer who d p c (and_right (is_active_at d) (situation_at who d p).branch h) i, m))
rolls_calm who d (Event.Do Request.Rollback) c i h m = absurd (cc (m))
rolls_calm who d (Event.Do r) c i h m = absurd (cc (h))
rolls_calm who d (Event.Arrive from (PeerRecord.OnAssoc x y q DialogueRecord.UAbort)) c i h m = absurd (cc (fatal_peer d c from.node i h, m))
rolls_calm who d (Event.Arrive from (PeerRecord.OnAssoc x y q r)) c i h m = refl
rolls_calm who d (Event.Arrive from (PeerRecord.ShutAssoc x (Some y))) c i h m = absurd (cc (fatal_peer d c from.node i h, m))
rolls_calm who d (Event.Arrive from (PeerRecord.ShutAssoc x None)) c i h m = refl
rolls_calm who d (Event.Arrive from r) c i h m = refl
rolls_calm who d (Event.Break from r) c i h m = absurd (cc (fatal_peer d c from.node i h, m))
rolls_calm who d (Event.Lose p) c i h m = absurd (cc (fatal_peer d c p i h, m))
rolls_calm who d e c i h m = absurd (cc (h))

reply_ready : (d : Digest) (c : Current) (t : Aaid) (b : BranchId) → d.current ≡ Some c → is_current_ready (named_by_key d (branch_key t b)) ≡ true → is_ready c.phase ≡ true
reply_ready d c t b now h = go (is_key (node_key c.key) (branch_key t b)) refl
  where
    go : (v : Bool) → is_key (node_key c.key) (branch_key t b) ≡ v → is_ready c.phase ≡ true
    go true i = grind (arith, h, now, i)
    go false i = absurd (grind (arith, h, now, i))

-- a Rollback that acts is the superior's, or that of a branch
acting_row : (t : Transaction) (p : ℕ) → acts (sight_of_tx t p DialogueRecord.Rollback) ≡ true → (is_under_at t.key p ≡ true) ⊎ (r : Row) × (find_row t.rows p ≡ Some r)
unfolding sight_of_tx
acting_row t p h = go (is_under_at t.key p) refl (find_row t.rows p) refl
  where
    go : (b : Bool) → is_under_at t.key p ≡ b → (o : Option Row) → find_row t.rows p ≡ o → (is_under_at t.key p ≡ true) ⊎ (r : Row) × (find_row t.rows p ≡ Some r)
    go true i o j = inl i
    go false i None j = absurd (grind (arith, h, i, j))
    go false i (Some r) j = inr (r, j)

rollback_of : (who : Who) (d : Digest) (c : Current) (p : ℕ) → d.current ≡ Some c → rolls_by_rollback who d p ≡ true → (is_under_at c.key p ≡ true) ⊎ (b : Branch) × (find_branch c.branches p ≡ Some b)
rollback_of who d c p now h = go (find_arc d.arcs p) refl
  where
    go : (o : Option Arc) → find_arc d.arcs p ≡ o → (is_under_at c.key p ≡ true) ⊎ (b : Branch) × (find_branch c.branches p ≡ Some b)
    go None i = absurd (grind (arith, h, i))
    go (Some a) i =
        let act : acts (sight_at who d a DialogueRecord.Rollback) ≡ true = grind (arith, h, i) in
        let at : a.peer.node ≡ p = find_arc_is d.arcs p a i in
        elim (acting_row (seen who d.arcs c) a.peer.node (sym (ap acts (sight_rollback who d a c now)) ∙ act)) [
          | inl k ↦ inl (subst (λ (n : ℕ). is_under_at c.key n ≡ true) at k)
          | inr k ↦ inr (k.0.branch, subst (λ (n : ℕ). find_branch c.branches n ≡ Some k.0.branch) at (row_seen d.arcs c.branches a.peer.node k.0 k.1))
        ]

-- the branch that said so rolled in the tree
branch_rolled : (o : Origin) (up : Option Addr) (p : ℕ) (g : Deeds) (rs : List LogRec) (e : Entry) (h : List Entry) → Below o up p g rs (e ∷ h) → (from : Addr) (x y : Mark) (q : ℕ)
    → e.event ≡ Event.Arrive from (PeerRecord.OnAssoc x y q DialogueRecord.Rollback) → from.node ≡ p → (j : BranchKey) → Marked (λ b. true) (digest o h).current p j → g.rolled j.0 ≡ true
branch_rolled o up p g rs e h below from x y q is at j stands = by (acc.balance x y next.sent q live)
  where
    d : Digest
    d = digest o h

    behind : Below o up p g rs h
    behind = below_tail o up p g rs e h below

    acc : Accounts o p g rs h
    acc = accounts_of o up p g rs h behind

    held : holds_at (keys_to x y p h) (ends_from x y p h) g.rolled ≡ true
    held = and_left (holds_at (keys_to x y p h) (ends_from x y p h) g.rolled) true (heeded_at p g rs e.event h from x y q DialogueRecord.Rollback is at (and_left (heeds_event g rs p h e.event) (heeds g rs p h) below.heeded))

    next : Taken d from x y q
    next = takes_next o.who d from x y q DialogueRecord.Rollback (subst (λ (f : Event). refusal o.who d f ≡ None) is below.legal.0)

    live : link_with d.arcs p ≡ Live x y next.sent q
    live = ap (link_with d.arcs) (sym at) ∙ next.live

    by : Balanced o h (keys_to x y p h) (ends_from x y p h) (votes_from x y p h) (open_at d.current p) → g.rolled j.0 ≡ true
    by (inl b) =
        let i = is_next (length (keys_to x y p h)) (ends_from x y p h) (open_at d.current p) (holds_long (keys_to x y p h) (ends_from x y p h) g.rolled held) b (open_most d.current p) in
        let place = last_at (sent_on x y p h) (ends_from x y p h) j ((paired_law o up h below.empty below.legal.3).rows p x y next.sent q live j (marked_key (λ b. true) d p j (late_law o up h below.legal.3) stands)) i.0 in
        holds_key (keys_to x y p h) (ends_from x y p h) g.rolled j place held
    by (inr debt) =
        let r = holds_key (keys_to x y p h) (ends_from x y p h) g.rolled debt.key debt.at held in
        let v = voted_ready (keys_to x y p h) rs (ends_from x y p h) debt.key debt.at (acc.voted x y debt.voted) in
        absurd (behind.never debt.key r v debt.done)

-- ---- who stands below whom

-- a node that speaks on a live association to one that is not below it stands below that one; h is what that one did by then
pub below_it : (ns : List Node) (fs : List Frame) (x y : Node) (h : List Entry) (m k : Mark) (s q : ℕ) (a : Addr) (i : ℕ) (r : DialogueRecord) → IsGood ns fs → IsGrown x.origin x.superior h → find_node ns (number_of y) ≡ Some y → is_at x.superior (number_of y) ≡ false
    → link_with (digest x.origin h).arcs (number_of y) ≡ Live m k s q → a.node ≡ number_of x → HasSent y.history a (PeerRecord.OnAssoc m k i r) → is_at y.superior (number_of x) ≡ true
below_it ns fs x y h m k s q a i r good legal hy off live at sent = go (is_at y.superior (number_of x)) refl
  where
    own : m.node ≡ number_of x
    own =
        let one = (alone_law x.origin x.superior h legal).own (number_of y) in
        let two : ((own_mark x.superior (number_of y) m k).node == number_of x) ≡ true = sym (ap (own_is x.origin.who x.superior (number_of y)) live) ∙ one in
        grind (arith, nat_tests, two, off)

    some_sent : sent_on m k (number_of x) y.history ≡ [] → ⊥
    some_sent none =
        let stands = sent_at y.origin y.superior y.history a m k i r (good.legal (number_of y) y hy) sent in
        let one : slice_get (sent_on m k (number_of x) y.history) i ≡ Some r = subst (λ (n : ℕ). slice_get (sent_on m k n y.history) i ≡ Some r) at stands in
        cc (sym (ap (λ (rs : List DialogueRecord). slice_get rs i) none) ∙ one)

    go : (b : Bool) → is_at y.superior (number_of x) ≡ b → is_at y.superior (number_of x) ≡ true
    go true i = i
    go false i = elim ((alone_law y.origin y.superior y.history (good.legal (number_of y) y hy)).said (number_of x) m k) [
      | inl none ↦ absurd (some_sent none)
      | inr drawn ↦
          (let mine : m.node ≡ number_of y = rw (i, own_mark) at drawn in
          let same : number_of y ≡ number_of x = sym mine ∙ own in
          let idle = no_own_link x.origin x.superior h legal (subst (λ (n : ℕ). is_at x.superior n ≡ false) same off) in
          absurd (cc (sym live ∙ ap (link_with (digest x.origin h).arcs) same ∙ idle)))
    ]

record Superior (ns : List Node) (p : ℕ) : Type 0 where
  node : Node
  here : find_node ns (number_of node) ≡ Some node
  at : number_of node ≡ p

superior_node : (ns : List Node) (fs : List Frame) (z : Node) (p : ℕ) → IsGood ns fs → find_node ns (number_of z) ≡ Some z → is_at z.superior p ≡ true → Superior ns p
superior_node ns fs z p good hz above = go z.superior refl
  where
    go : (s : Option Addr) → z.superior ≡ s → Superior ns p
    go None i = absurd (cc (above, ap (λ (s : Option Addr). is_at s p) i))
    go (Some s) i =
        let u = good.above (number_of z) z s hz i in
        let node : number_of u.node ≡ s.node = ap (λ (a : Addr). a.node) u.is in
        let under : is_at (Some s) p ≡ true = ap (λ (v : Option Addr). is_at v p) (sym i) ∙ above in
        record { node = u.node; here = ap (find_node ns) node ∙ u.found; at = node ∙ grind (arith, nat_tests, under) }

-- ---- in a world

-- nothing failed in the tree
abbrev pub IsCalm : List Node → Aaid → Type 0
IsCalm ns t = (x : Node) → find_node ns (number_of x) ≡ Some x → is_member x.origin t x.history ≡ true → has_failed_in x.origin t x.history ≡ false

abbrev pub NoneRolled : List Node → Type 0
NoneRolled ns = (t : Aaid) → IsCalm ns t → (x : Node) → find_node ns (number_of x) ≡ Some x → rolled x.origin t x.history ≡ true → ⊥

-- another node rolled in the tree before
record RolledBefore (ns : List Node) (t : Aaid) : Type 0 where
  node : Node
  here : find_node ns (number_of node) ≡ Some node
  is : rolled node.origin t node.history ≡ true

-- a node that rolls in an event that is no failure
rolled_before : (ns : List Node) (fs : List Frame) (z : Node) (e : Event) (told : Bool) (t : Aaid) → Step ns fs z e → IsTied ns → is_now t (digest z.origin z.history).current ≡ true → rolls z.origin.who (digest z.origin z.history) e ≡ true → is_failure e ≡ false
    → RolledBefore ns t
rolled_before ns fs z e told t st p n r calm = by (cause o.who d e r calm)
  where
    o : Origin
    o = z.origin

    h : List Entry
    h = z.history

    d : Digest
    d = digest o h

    entry : Entry
    entry = entry_of z.origin z.history e

    hz : find_node ns (number_of z) ≡ Some z
    hz = st.accepts.here

    empty : o.start.records ≡ []
    empty = st.good.fresh (number_of z) z hz

    legal : IsGrown o z.superior (entry ∷ h)
    legal = legal_now ns fs z e st

    c : (u : Current) × (d.current ≡ Some u) × (is_aaid t (aaid_of u.key) ≡ true)
    c = now_some t d.current n

    under_it : (q : ℕ) → is_under_at c.0.key q ≡ true → is_at z.superior q ≡ true
    under_it q under = on c.0.key refl
      where
        on : (k : Key) → c.0.key ≡ k → is_at z.superior q ≡ true
        on (Root u) i = absurd (cc (under, ap (λ (v : Key). is_under_at v q) i))
        on (Under u b a) i =
            let above : is_at z.superior a.node ≡ true = subst (λ (v : Key). IsKeyOf o.who z.superior v) i (key_law o z.superior h c.0 empty legal.3 c.1) in
            let at : (a.node == q) ≡ true = sym (ap (λ (v : Key). is_under_at v q) i) ∙ under in
            let same : a.node ≡ q = grind (arith, nat_tests, at) in
            subst (λ (v : ℕ). is_at z.superior v ≡ true) same above

    from_above : (q : ℕ) → is_under_at c.0.key q ≡ true → ((u : Node) → find_node ns (number_of u) ≡ Some u → is_at z.superior (number_of u) ≡ true → rolled u.origin t u.history ≡ true) → RolledBefore ns t
    from_above q under rolls_there =
        let u = superior_node ns fs z q st.good hz (under_it q under) in
        record { node = u.node; here = u.here; is = rolls_there u.node u.here (subst (λ (v : ℕ). is_at z.superior v ≡ true) (sym u.at) (under_it q under)) }

    under_some : ReadyRolls c.0 e → (q : ℕ) × (is_under_at c.0.key q ≡ true)
    under_some (By_rollback from x y q is under) = (from.node, under)
    under_some (By_unknown from v w is same) = on c.0.key refl
      where
        on : (k : Key) → c.0.key ≡ k → (q : ℕ) × (is_under_at c.0.key q ≡ true)
        on (Root u) i = let key : is_key (node_key (Root u)) (branch_key v w) ≡ true = subst (λ (k : Key). is_key (node_key k) (branch_key v w) ≡ true) i same in absurd (grind (arith, key))
        on (Under u b a) i = (a.node, ap (λ (k : Key). is_under_at k a.node) i ∙ grind (arith, nat_tests))

    ready : is_ready c.0.phase ≡ true → ReadyRolls c.0 e → RolledBefore ns t
    ready is k =
        let q = under_some k in
        from_above q.0 q.1 (λ u hu above. ready_above ns fs z e told u t st p hu above (record { current = c.0; now = c.1; tree = c.2; ready = is; by = k }))

    -- a branch of the node rolled
    below : (from : Addr) (x y : Mark) (q : ℕ) → e ≡ Event.Arrive from (PeerRecord.OnAssoc x y q DialogueRecord.Rollback) → (b : Branch) → find_branch c.0.branches from.node ≡ Some b → RolledBefore ns t
    below from x y q is b found = record { node = v; here = hv; is = subst (λ (u : Aaid). rolled v.origin u v.history ≡ true) (sym (aaids_equal t (aaid_of c.0.key) c.2)) rolled_there }
      where
        word : PeerRecord
        word = PeerRecord.OnAssoc x y q DialogueRecord.Rollback

        s : Sender ns from (number_of z) word
        s = was_sent ns fs from (number_of z) word st.good.sent (st.accepts.came from word (ap brought is))

        v : Node
        v = s.node

        node : number_of v ≡ from.node
        node = ap (λ (a : Addr). a.node) s.is

        hv : find_node ns (number_of v) ≡ Some v
        hv = ap (find_node ns) node ∙ s.found

        next : Taken d from x y q
        next = takes_next o.who d from x y q DialogueRecord.Rollback (subst (λ (f : Event). refusal o.who d f ≡ None) is st.accepts.ok)

        live : link_with d.arcs (number_of v) ≡ Live x y next.sent q
        live = ap (link_with d.arcs) node ∙ next.live

        stands : Marked (λ b. true) d.current (number_of v) (aaid_of c.0.key, b.id)
        stands = record { current = c.0; branch = b; at = c.1; found = ap (find_branch c.0.branches) node ∙ found; is = refl; key = refl }

        never : {k : BranchKey} → None ≡ Some k → ⊥
        never i = cc (i)

        off : (w : Bool) → is_at z.superior (number_of v) ≡ w → is_at z.superior (number_of v) ≡ false
        off false i = i
        off true i =
            let key = marked_key (λ b. true) d (number_of v) (aaid_of c.0.key, b.id) (late_law o z.superior h legal.3) stands in
            let paired = paired_law o z.superior h empty legal.3 in
            absurd (never {k = (aaid_of c.0.key, b.id)} (sym (paired.upward (number_of v) x y i) ∙ paired.rows (number_of v) x y next.sent q live (aaid_of c.0.key, b.id) key))

        not_above : is_at z.superior (number_of v) ≡ false
        not_above = off (is_at z.superior (number_of v)) refl

        under : is_at v.superior (number_of z) ≡ true
        under = below_it ns fs z v z.history x y next.sent q s.to q DialogueRecord.Rollback st.good (st.good.legal (number_of z) z hz) hv not_above live s.at s.sent

        now : List Node
        now = put_node ns (grown_node z e)

        at : (n : ℕ) → find_node now n ≡ cond (number_of z == n) (Some (grown_node z e)) (find_node ns n)
        at n = find_put ns (grown_node z e) z n hz

        here : find_node now (number_of z) ≡ Some (grown_node z e)
        here = grind (arith, nat_tests, at (number_of z))

        there : (w : Bool) → (number_of z == number_of v) ≡ w → find_node now (number_of v) ≡ Some v
        there false i = grind (arith, at (number_of v), i, hv)
        there true i =
            let same : number_of v ≡ number_of z = grind (arith, nat_tests, i) in
            let idle = no_own_link o z.superior h legal.3 (subst (λ (n : ℕ). is_at z.superior n ≡ false) same not_above) in
            absurd (cc (sym live ∙ ap (link_with d.arcs) same ∙ idle))

        rolled_there : rolled v.origin (aaid_of c.0.key) v.history ≡ true
        rolled_there =
            branch_rolled o z.superior (number_of v) (deeds_of v.origin v.history) (records v.origin v.history) entry h
            (below_of now (fs ++ shown told (frames_of (addr_of z) entry.outs)) (grown_node z e) v (event_good ns fs z e st.accepts told st.good) (tied_event ns fs z e st told p) here (there (number_of z == number_of v) refl) under)
            from x y q is (sym node) (aaid_of c.0.key, b.id) stands

    by : Cause o.who d e → RolledBefore ns t
    by (By_reply from u b is named) = let phase = reply_ready d c.0 u b c.1 named in ready phase (ready_event o.who d e c.0 c.1 phase r)
    by (By_word from x y q is acting) = elim (rollback_of o.who d c.0 from.node c.1 acting) [
      | inl under ↦ from_above from.node under (λ u hu above. rollback_above ns fs z e told u t st hu above (rollback_taken o z.superior entry h t c.0 empty legal c.1 c.2 c.0.key refl from x y q is under))
      | inr b ↦ below from x y q is b.0 b.1
    ]

-- ---- a node comes

none_comes : (ns : List Node) (z : Node) → Comes ns z → NoneRolled ns → NoneRolled (ns ++ z ∷ [])
none_comes ns z c p t calm x hx r = go (number_of z == number_of x) refl
  where
    at : (n : ℕ) → find_node (ns ++ z ∷ []) n ≡ cond (number_of z == n) (Some z) (find_node ns n)
    at n = find_append ns z n c.none

    there : (b : Bool) (y : Node) → (number_of z == number_of y) ≡ b → find_node ns (number_of y) ≡ Some y → find_node (ns ++ z ∷ []) (number_of y) ≡ Some y
    there false y i h = grind (arith, at (number_of y), i, h)
    there true y i h =
        let same : number_of z ≡ number_of y = grind (arith, nat_tests, i) in
        absurd (cc (sym h ∙ ap (find_node ns) (sym same) ∙ c.none))

    go : (b : Bool) → (number_of z == number_of x) ≡ b → ⊥
    go true i =
        let same : z ≡ x = some_same z x (grind (arith, at (number_of x), i, hx)) in
        cc (r, ap (λ (y : Node). rolled x.origin t y.history) (sym same) ∙ ap (rolled x.origin t) c.bare)
    go false i = p t (λ y hy m. calm y (there (number_of z == number_of y) y refl hy) m) x (grind (arith, at (number_of x), i, hx)) r

-- ---- an event

none_event : (ns : List Node) (fs : List Frame) (z : Node) (e : Event) → Step ns fs z e → (told : Bool) → IsTied ns → NoneRolled ns → NoneRolled (put_node ns (grown_node z e))
none_event ns fs z e st told tied p t calm x hx r = go (number_of z == number_of x) refl
  where
    y : Node
    y = grown_node z e

    at : (n : ℕ) → find_node (put_node ns y) n ≡ cond (number_of z == n) (Some y) (find_node ns n)
    at n = find_put ns y z n st.accepts.here

    here : find_node (put_node ns y) (number_of y) ≡ Some y
    here = grind (arith, nat_tests, at (number_of y))

    both_false : (a b : Bool) → (a || b) ≡ false → (a ≡ false) × (b ≡ false)
    both_false false b h = (refl, h)
    both_false true b h = absurd (cc (h))

    -- nothing had failed in the tree
    before : IsCalm ns t
    before v hv m = on (number_of z == number_of v) refl
      where
        on : (b : Bool) → (number_of z == number_of v) ≡ b → has_failed_in v.origin t v.history ≡ false
        on false i = calm v (grind (arith, at (number_of v), i, hv)) m
        on true i =
            let number : number_of z ≡ number_of v = grind (arith, nat_tests, i) in
            let same : v ≡ z = some_same v z (sym hv ∙ ap (find_node ns) (sym number) ∙ st.accepts.here) in
            let member : is_member y.origin t y.history ≡ true = later_member z.origin t (entry_of z.origin z.history e) z.history (subst (λ (u : Node). is_member u.origin t u.history ≡ true) same m) in
            let fine : has_failed_in y.origin t y.history ≡ false = calm y here member in
            subst (λ (u : Node). has_failed_in u.origin t u.history ≡ false) (sym same) ((both_false (fails_in t (digest z.origin z.history).current e) (has_failed_in z.origin t z.history) fine).1)

    mine : rolled y.origin t y.history ≡ true → ⊥
    mine roll = elim (or_case (is_now t (digest z.origin z.history).current && (rolls z.origin.who (digest z.origin z.history) e || is_crash_in_active (digest z.origin z.history) e)) (rolled z.origin t z.history) roll) [
      | inr old ↦ p t before z st.accepts.here old
      | inl now ↦ new (and_left (is_now t (digest z.origin z.history).current) (rolls z.origin.who (digest z.origin z.history) e || is_crash_in_active (digest z.origin z.history) e) now)
          (or_case (rolls z.origin.who (digest z.origin z.history) e) (is_crash_in_active (digest z.origin z.history) e) (and_right (is_now t (digest z.origin z.history).current) (rolls z.origin.who (digest z.origin z.history) e || is_crash_in_active (digest z.origin z.history) e) now))
    ]
      where
        d : Digest
        d = digest z.origin z.history

        rest : (a b v : Bool) → a ≡ true → (a && b && v) ≡ false → (b && v) ≡ false
        rest a b v i h = grind (arith, i, h)

        mild : (c : Current) → d.current ≡ Some c → is_aaid t (aaid_of c.key) ≡ true → (is_failure e && touches c e) ≡ false
        mild c i tree =
            let there = calm y here (later_member z.origin t (entry_of z.origin z.history e) z.history (member_head z.origin t z.history (ap (is_now t) i ∙ tree))) in
            rest (is_aaid t (aaid_of c.key)) (is_failure e) (touches c e) tree (ap (λ (v : Option Current). fails_in t v e) (sym i) ∙ (both_false (fails_in t d.current e) (has_failed_in z.origin t z.history) there).0)

        crashed : (c : Current) (f : Event) → is_crash_in_active d f ≡ true → (is_failure f && touches c f) ≡ false → ⊥
        crashed c Event.Crash h k = cc (k)
        crashed c f h k = absurd (grind (arith, h))

        new : is_now t d.current ≡ true → (rolls z.origin.who d e ≡ true) ⊎ (is_crash_in_active d e ≡ true) → ⊥
        new n r = by (now_some t d.current n) r
          where
            by : (c : Current) × (d.current ≡ Some c) × (is_aaid t (aaid_of c.key) ≡ true) → (rolls z.origin.who d e ≡ true) ⊎ (is_crash_in_active d e ≡ true) → ⊥
            by c (inl k) = let b = rolled_before ns fs z e told t st tied n k (rolls_calm z.origin.who d e c.0 c.1 k (mild c.0 c.1 c.2)) in p t before b.node b.here b.is
            by c (inr k) = crashed c.0 e k (mild c.0 c.1 c.2)

    go : (b : Bool) → (number_of z == number_of x) ≡ b → ⊥
    go true i =
        let same : y ≡ x = some_same y x (grind (arith, at (number_of x), i, hx)) in
        mine (subst (λ (u : Node). rolled u.origin t u.history ≡ true) (sym same) r)
    go false i = p t before x (grind (arith, at (number_of x), i, hx)) r

-- ---- every run

none_run : (es : List Happening) → IsTied (run es).nodes × NoneRolled (run es).nodes
none_run es = law (λ ns fs. IsTied ns × NoneRolled ns) (record {
  start = (tied_run [], λ t calm x hx r. absurd (cc (hx)));
  comes = λ ns fs x c g p. (tied_comes ns fs x c g p.0, none_comes ns x c p.1);
  event = λ ns fs x e st b p. (tied_event ns fs x e st b p.0, none_event ns fs x e st b p.0 p.1);
  mark = λ ns fs k p. p;
}) es

pub nobody_rolls : (es : List Happening) → NobodyRolls (run es)
nobody_rolls es t fine x of = off (rolled x.origin t x.history) refl
  where
    calm : IsCalm (run es).nodes t
    calm y hy m = fine y (record { here = hy; of_tree = m })

    off : (b : Bool) → rolled x.origin t x.history ≡ b → rolled x.origin t x.history ≡ false
    off false i = i
    off true i = absurd ((none_run es).1 t calm x of.here i)
