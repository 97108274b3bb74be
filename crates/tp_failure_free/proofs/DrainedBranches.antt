-- Who was spoken to on an association is there; in a drained tree without failure each branch that was begun is in the tree.
use Rattle.std.proofs.Common.{if◌then◌else◌, ◌≡◌, ◌⊎◌, inl, inr, ℕ, Bool, true, false, refl, ap, sym, subst, ◌∙◌, arith, Option, Some, None, List, [], ◌∷◌, ◌==◌}
use Rattle.std.proofs.lemmas.Bool.Decides.{nat_tests}
use Rattle.tp_names.specs.declared.identifiers.Mark.{Mark}
use Rattle.tp_names.specs.declared.identifiers.Aaid.{Aaid}
use Rattle.tp_names.specs.declared.identifiers.BranchId.{BranchId}
use Rattle.tp_names.specs.declared.identifiers.Addr.{Addr}
use Rattle.tp_records.specs.declared.request.Request.{Request}
use Rattle.tp_records.specs.declared.dialogue.DialogueRecord.{DialogueRecord}
use Rattle.tp_records.specs.declared.dialogue.Holder.{Holder}
use Rattle.tp_records.specs.declared.peer.PeerRecord.{PeerRecord}
use Rattle.tp_model.specs.declared.arc.Side.{Side}
use Rattle.tp_model.specs.Parts.{Who, Origin, Event, Entry, Link, Idle, Opening, Offered, Live, Arc, Digest}
use Rattle.tp_model.specs.Links.{is_live}
use Rattle.tp_model.specs.Dialogues.{fresh_dialogue}
use Rattle.tp_model.specs.Arcs.{find_arc, link_of, link_with, put_arc}
use Rattle.tp_model.specs.Requests.{refused_request}
use Rattle.tp_model.specs.Node.{next_mark, superior_arc}
use Rattle.tp_model.specs.Events.{refusal, verdict, action, after_crash, started}
use Rattle.tp_model.specs.History.{digest}
use Rattle.tp_model.specs.Outcomes.{is_now, is_member}
use Rattle.tp_model.specs.Questions.{is_at}
use Rattle.tp_model.specs.World.{Node, number_of, addr_of, find_node}
use Rattle.tp_model.specs.Happenings.{Happening, run}
use Rattle.tp_model.specs.Legal.{IsGrown}
use Rattle.tp_steps.specs.Histories.{brought}
use Rattle.tp_histories.specs.Histories.{IsSentIn, HasSent, HasBrought}
use Rattle.tp_histories.specs.Worlds.{IsGood}
use Rattle.tp_steps.specs.Moves.{prelude, linked, accepted_on, accepted_by, begun_in, counted_in}
use Rattle.tp_histories.specs.Members.{is_begun_by}
use Rattle.tp_failure_free.specs.DrainedWorlds.{BranchesAreThere}
use Rattle.tp_histories.proofs.worlds.Nodes.{find_is}
use Rattle.tp_histories.proofs.trees.Late.{late_law, late_prelude}
use Rattle.tp_steps.proofs.words.Leaves.{aaid_same}
use Rattle.tp_steps.proofs.every.EveryRecord.{find_arc_is}
use Rattle.tp_steps.proofs.every.Preludes.{Prelinked, As_before, Now_idle, Now_called, Now_offered, Now_accepted, Now_confirmed, Took_one, link_append, link_put, link_counted, superior_found, begun_arcs}
use Rattle.tp_histories.proofs.marks.Traced.{live_before}
use Rattle.tp_histories.proofs.worlds.Prefix.{fits_place}
use Rattle.tp_histories.proofs.pairs.PairedSteps.{told_entry}
use Rattle.tp_histories.proofs.trees.Knowing.{begin_arc}
use Rattle.tp_histories.proofs.worlds.Good.{good_run, Sender, was_sent}
use Rattle.tp_histories.proofs.worlds.Unique.{TookOn}
use Rattle.tp_runs.proofs.Hanging.{staying_event, began_from}
use Rattle.tp_failure_free.proofs.DrainedTaken.{come_took, begin_sent_in}

-- ---- an association that opens was confirmed by its peer

-- the event brings something from the peer
abbrev BringsFrom : ℕ → Event → Type 0
BringsFrom p e = (a : Addr) × (r : PeerRecord) × (brought e ≡ Some (a, r)) × (a.node ≡ p)

not_live : (l m : Link) (x : Mark) → m ≡ l → l ≡ Opening x → is_live m ≡ true → ⊥
not_live l m x same op live = cc (live, ap is_live (same ∙ op))

accepts_other : (who : Who) (d : Digest) (u p : ℕ) (x : Mark) → refusal who d (Event.Do (Request.Accept u)) ≡ None → link_with d.arcs p ≡ Opening x → is_live (link_with (accepted_by who u (superior_arc d) d).arcs p) ≡ true → ⊥
unfolding refusal verdict refused_request
accepts_other who d u p x ok op live = go (superior_arc d) refl live
  where
    on : (a : Arc) (l : Link) → superior_arc d ≡ Some a → a.link ≡ l → is_live (link_with (accepted_on who u a l d).arcs p) ≡ true → ⊥
    on a Idle i j h = absurd (grind (arith, ok, i, j))
    on a (Opening z) i j h = absurd (grind (arith, ok, i, j))
    on a (Live z w v n) i j h = absurd (grind (arith, ok, i, j))
    on a (Offered z) i j h =
        let s = superior_found d a i in
        let at : a.peer.node ≡ s.0.node = find_arc_is d.arcs s.0.node a s.2 in
        let found : find_arc d.arcs a.peer.node ≡ Some a = ap (find_arc d.arcs) at ∙ s.2 in
        let put = link_put d.arcs a (record a { link = Live z (next_mark who d) 0 0; dialogue = fresh_dialogue u Side.Subordinate }) p found in
        there (a.peer.node == p) refl found put h
      where
        there : (c : Bool) → (a.peer.node == p) ≡ c → find_arc d.arcs a.peer.node ≡ Some a
            → link_with (put_arc d.arcs (record a { link = Live z (next_mark who d) 0 0; dialogue = fresh_dialogue u Side.Subordinate })) p ≡ (if a.peer.node == p then Live z (next_mark who d) 0 0 else link_with d.arcs p)
            → is_live (link_with (put_arc d.arcs (record a { link = Live z (next_mark who d) 0 0; dialogue = fresh_dialogue u Side.Subordinate })) p) ≡ true → ⊥
        there true c found put h =
            let same : a.peer.node ≡ p = grind (arith, nat_tests, c) in
            let offered : link_with d.arcs p ≡ Offered z = ap link_of (ap (find_arc d.arcs) (sym same) ∙ found) ∙ j in
            cc (sym op ∙ offered)
        there false c found put h = not_live (link_with d.arcs p) _ x (put ∙ rw c refl) op h

    go : (o : Option Arc) → superior_arc d ≡ o → is_live (link_with (accepted_by who u o d).arcs p) ≡ true → ⊥
    go None i h = absurd (grind (arith, ok, i))
    go (Some a) i h = on a a.link i refl h

calls_other : (who : Who) (d : Digest) (a : Addr) (u p : ℕ) (x : Mark) → refusal who d (Event.Do (Request.BeginDialogue a u)) ≡ None → link_with d.arcs p ≡ Opening x → is_live (link_with (prelude who d (Event.Do (Request.BeginDialogue a u))).arcs p) ≡ true → ⊥
unfolding refusal verdict refused_request
calls_other who d a u p x ok op live = go (a.node == p) refl
  where
    new : Arc
    new = record { peer = a; link = Opening (next_mark who d); dialogue = fresh_dialogue u Side.Superior }

    put : link_with (prelude who d (Event.Do (Request.BeginDialogue a u))).arcs p ≡ (if a.node == p then Opening (next_mark who d) else link_with d.arcs p)
    put = link_append d.arcs new p (grind (arith, ok))

    go : (c : Bool) → (a.node == p) ≡ c → ⊥
    go true i = not_live (Opening (next_mark who d)) _ (next_mark who d) (put ∙ rw i refl) refl live
    go false i = not_live (link_with d.arcs p) _ x (put ∙ rw i refl) op live

confirms : (who : Who) (d : Digest) (from : Addr) (x y : Mark) (u p : ℕ) (z : Mark) (o : Option Arc) → find_arc d.arcs from.node ≡ o → link_with d.arcs p ≡ Opening z → is_live (link_with (linked o x y u d).arcs p) ≡ true
    → BringsFrom p (Event.Arrive from (PeerRecord.AcceptAssoc x y u))
confirms who d from x y u p z None i op live = absurd (not_live (link_with d.arcs p) _ z refl op live)
confirms who d from x y u p z (Some a) i op live =
    let at : a.peer.node ≡ from.node = find_arc_is d.arcs from.node a i in
    let put = link_put d.arcs a (record a { link = Live x y 0 0; dialogue = fresh_dialogue u Side.Superior }) p (ap (find_arc d.arcs) at ∙ i) in
    there (a.peer.node == p) refl at put live
  where
    there : (c : Bool) → (a.peer.node == p) ≡ c → a.peer.node ≡ from.node
        → link_with (put_arc d.arcs (record a { link = Live x y 0 0; dialogue = fresh_dialogue u Side.Superior })) p ≡ (if a.peer.node == p then Live x y 0 0 else link_with d.arcs p)
        → is_live (link_with (put_arc d.arcs (record a { link = Live x y 0 0; dialogue = fresh_dialogue u Side.Superior })) p) ≡ true → BringsFrom p (Event.Arrive from (PeerRecord.AcceptAssoc x y u))
    there true c at put h = let same : a.peer.node ≡ p = grind (arith, nat_tests, c) in (from, PeerRecord.AcceptAssoc x y u, refl, sym at ∙ same)
    there false c at put h = absurd (not_live (link_with d.arcs p) _ z (put ∙ rw c refl) op h)

counts_other : (d : Digest) (from : Addr) (p : ℕ) (z : Mark) → link_with d.arcs p ≡ Opening z → is_live (link_with (counted_in d from).arcs p) ≡ true → ⊥
counts_other d from p z op live = absurd (let put = link_counted d.arcs from.node p in grind (arith, op, live, put))

confirmed_by : (who : Who) (d : Digest) (e : Event) (p : ℕ) (z : Mark) → refusal who d e ≡ None → link_with d.arcs p ≡ Opening z → is_live (link_with (prelude who d e).arcs p) ≡ true → BringsFrom p e
unfolding after_crash
confirmed_by who d (Event.Do (Request.BeginDialogue a u)) p z ok op live = absurd (calls_other who d a u p z ok op live)
confirmed_by who d (Event.Do (Request.Accept u)) p z ok op live = absurd (accepts_other who d u p z ok op live)
confirmed_by who d (Event.Arrive from (PeerRecord.OpenAssoc x u)) p z ok op live = absurd (grind (arith, op, live))
confirmed_by who d (Event.Arrive from (PeerRecord.AcceptAssoc x y u)) p z ok op live = confirms who d from x y u p z (find_arc d.arcs from.node) refl op live
confirmed_by who d (Event.Arrive from (PeerRecord.OnAssoc x y q (DialogueRecord.Begin t b h))) p z ok op live =
    absurd (counts_other d from p z op (subst (λ (arcs : List Arc). is_live (link_with arcs p) ≡ true) (begun_arcs (find_arc d.arcs from.node) t b (counted_in d from)) live))
confirmed_by who d (Event.Arrive from (PeerRecord.OnAssoc x y q r)) p z ok op live = absurd (counts_other d from p z op live)
confirmed_by who d Event.Crash p z ok op live = absurd (cc (live))
confirmed_by who d _ p z ok op live = absurd (not_live (link_with d.arcs p) _ z refl op live)

-- ---- so who stands at the other end of a live link was heard from, or is the superior

abbrev pub Met : Option Addr → ℕ → List Entry → Type 0
Met up p h = (is_at up p ≡ true) ⊎ (a : Addr) × (r : PeerRecord) × HasBrought h a r × (a.node ≡ p)

later_met : (up : Option Addr) (p : ℕ) (e : Entry) (h : List Entry) → Met up p h → Met up p (e ∷ h)
later_met up p e h (inl i) = inl i
later_met up p e h (inr i) = inr (i.0, i.1, inr i.2, i.3)

met_here : (o : Origin) (up : Option Addr) (e : Entry) (h : List Entry) (p : ℕ) (x y : Mark) (s k : ℕ) → IsGrown o up (e ∷ h) → ((x y : Mark) (s k : ℕ) → link_with (digest o h).arcs p ≡ Live x y s k → Met up p h) → link_with (prelude o.who (digest o h) e.event).arcs p ≡ Live x y s k → Met up p (e ∷ h)
met_here o up e h p x y s k legal old live = go (link_with (prelude o.who (digest o h) e.event).arcs p) refl (told_entry o up e h legal p).pre
  where
    d : Digest
    d = digest o h

    go : (l : Link) → link_with (prelude o.who d e.event).arcs p ≡ l → Prelinked o.who up p d e.event l → Met up p (e ∷ h)
    go l at (As_before i none) = later_met up p e h (old x y s k (sym i ∙ sym at ∙ live))
    go l at (Now_idle i none) = absurd (cc (sym live ∙ at ∙ i))
    go l at (Now_called i down n none below calls) = absurd (cc (sym live ∙ at ∙ i))
    go l at (Now_offered z i u none) = inl u
    go l at (Now_accepted z i u n none nil) = inl u
    go l at (Now_confirmed z w op i none) =
        let b = confirmed_by o.who d e.event p z legal.0 op (ap is_live live) in
        inr (b.0, b.1, inl b.2, b.3)
    go l at (Took_one a z w u v r i j node ev) = inr (a, PeerRecord.OnAssoc z w v r, inl (ap brought ev), node)

met : (o : Origin) (up : Option Addr) (h : List Entry) (p : ℕ) (x y : Mark) (s k : ℕ) → IsGrown o up h → link_with (digest o h).arcs p ≡ Live x y s k → Met up p h
unfolding started
met o up [] p x y s k legal live = absurd (cc (live))
met o up (e ∷ h) p x y s k legal live =
    let told = told_entry o up e h legal p in
    let w = live_before p (link_with (prelude o.who (digest o h) e.event).arcs p) (link_with (digest o (e ∷ h)).arcs p) (action o.who (digest o h) e.event).outs x y s k told.linked.over live in
    met_here o up e h p x y w.sent k legal (λ z v n m at. met o up h p z v n m legal.3 at) w.is

pub met_peer : (o : Origin) (up : Option Addr) (h : List Entry) (a : Addr) (x y : Mark) (q : ℕ) (r : DialogueRecord) → IsGrown o up h → HasSent h a (PeerRecord.OnAssoc x y q r) → Met up a.node h
met_peer o up [] a x y q r legal s = absurd s
met_peer o up (e ∷ h) a x y q r legal (inr s) = later_met up a.node e h (met_peer o up h a x y q r legal.3 s)
met_peer o up (e ∷ h) a x y q r legal (inl s) =
    let told = told_entry o up e h legal a.node in
    let now : IsSentIn (action o.who (digest o h) e.event).outs a (PeerRecord.OnAssoc x y q r) = subst (λ (f : Entry). IsSentIn f.outs a (PeerRecord.OnAssoc x y q r)) (sym legal.1) s in
    let p = fits_place a.node (link_with (prelude o.who (digest o h) e.event).arcs a.node) (action o.who (digest o h) e.event).outs a x y q r told.linked.over.numbered refl now in
    met_here o up e h a.node x y p.first p.taken legal (λ z v n m at. met o up h a.node z v n m legal.3 at) p.link

-- ---- a Begin that is taken makes a member

begun_now : (who : Who) (d : Digest) (from : Addr) (x y : Mark) (q : ℕ) (t : Aaid) (b : BranchId) (i : Holder) → refusal who d (Event.Arrive from (PeerRecord.OnAssoc x y q (DialogueRecord.Begin t b i))) ≡ None
    → is_now t (prelude who d (Event.Arrive from (PeerRecord.OnAssoc x y q (DialogueRecord.Begin t b i)))).current ≡ true
begun_now who d from x y q t b i ok = go (find_arc d.arcs from.node) refl
  where
    go : (o : Option Arc) → find_arc d.arcs from.node ≡ o → is_now t (begun_in o t b (counted_in d from)).current ≡ true
    go None k = absurd (begin_arc who d from x y q t b i ok k)
    go (Some a) k = aaid_same t

begun_member : (o : Origin) (up : Option Addr) (h : List Entry) (from : Addr) (x y : Mark) (q : ℕ) (t : Aaid) (b : BranchId) (i : Holder) → IsGrown o up h → TookOn h from x y q (DialogueRecord.Begin t b i) → is_member o t h ≡ true
begun_member o up [] from x y q t b i legal k = absurd k
begun_member o up (e ∷ h) from x y q t b i legal (inr k) = let m = begun_member o up h from x y q t b i legal.3 k in rw m (grind arith)
begun_member o up (e ∷ h) from x y q t b i legal (inl k) =
    let d : Digest = digest o h in
    let f : Event = Event.Arrive from (PeerRecord.OnAssoc x y q (DialogueRecord.Begin t b i)) in
    let s = begun_now o.who d from x y q t b i (subst (λ (v : Event). refusal o.who d v ≡ None) k legal.0) in
    let now : is_now t (prelude o.who d e.event).current ≡ true = subst (λ (v : Event). is_now t (prelude o.who d v).current ≡ true) (sym k) s in
    let n : is_now t (digest o (e ∷ h)).current ≡ true = (staying_event o.who d e.event t 0 (late_law o up h legal.3) legal.0).stays (late_prelude o.who d e.event (late_law o up h legal.3)) now (inr (ap (is_begun_by t) k ∙ aaid_same t)) in
    rw n refl

-- ---- in a drained tree

pub branches_are_there : (es : List Happening) → BranchesAreThere (run es)
branches_are_there es t drained x p b x_in begun = (
  z.0,
  find_is (run es).nodes p z.0 z.1,
  record {
    superior = x_in;
    child = record { here = hz; of_tree = begun_member z.0.origin z.0.superior z.0.history (addr_of x) begun.1 begun.2 begun.3 t b begun.4 ((good_run es).legal (number_of z.0) z.0 hz) took };
    begun = began_from z.0.history (addr_of x) begun.1 begun.2 begun.3 t b begun.4 took;
  },
)
  where
    good : IsGood (run es).nodes (run es).frames
    good = good_run es

    there : Met x.superior begun.0.node x.history → (z : Node) × (find_node (run es).nodes p ≡ Some z)
    there (inl above) = go x.superior refl
      where
        go : (s : Option Addr) → x.superior ≡ s → (z : Node) × (find_node (run es).nodes p ≡ Some z)
        go None i = absurd (cc (above, ap (λ (v : Option Addr). is_at v begun.0.node) i))
        go (Some s) i =
            let u = good.above (number_of x) x s x_in.here i in
            let under : is_at (Some s) begun.0.node ≡ true = ap (λ (v : Option Addr). is_at v begun.0.node) (sym i) ∙ above in
            let same : s.node ≡ begun.0.node = grind (arith, nat_tests, under) in
            (u.node, ap (find_node (run es).nodes) (sym (same ∙ begun.5)) ∙ u.found)
    there (inr m) =
        let s : Sender (run es).nodes m.0 (number_of x) m.1 = was_sent (run es).nodes (run es).frames m.0 (number_of x) m.1 good.sent (good.taken (number_of x) x m.0 m.1 x_in.here m.2) in
        (s.node, ap (find_node (run es).nodes) (sym (m.3 ∙ begun.5)) ∙ s.found)

    z : (u : Node) × (find_node (run es).nodes p ≡ Some u)
    z = there (met_peer x.origin x.superior x.history begun.0 begun.1 begun.2 begun.3 (DialogueRecord.Begin t b begun.4) (good.legal (number_of x) x x_in.here) begun.6)

    hz : find_node (run es).nodes (number_of z.0) ≡ Some z.0
    hz = ap (find_node (run es).nodes) (find_is (run es).nodes p z.0 z.1) ∙ z.1

    took : TookOn z.0.history (addr_of x) begun.1 begun.2 begun.3 (DialogueRecord.Begin t b begun.4)
    took =
        come_took z.0.history (addr_of x) begun.1 begun.2 begun.3 (DialogueRecord.Begin t b begun.4)
        (drained.taken x z.0 begun.0 (PeerRecord.OnAssoc begun.1 begun.2 begun.3 (DialogueRecord.Begin t b begun.4)) x_in (begin_sent_in x.origin t x.history begun.0 begun.1 begun.2 begun.3 b begun.4 begun.6) (ap (find_node (run es).nodes) begun.5 ∙ z.1))
