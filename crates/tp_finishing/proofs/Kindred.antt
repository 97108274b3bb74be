-- What a node keeps of others, in every legal history: the superior of its transaction and its branches are at addresses from which
-- it has heard, it has sent each of its branches a Begin, and so it is of what it keeps for damage. An instance of the steps of a node.
use Rattle.std.proofs.Common.{if◌then◌else◌, ◌≡◌, ◌⊎◌, inl, inr, ℕ, Bool, true, false, refl, ap, sym, subst, ◌∙◌, arith, Option, Some, None, List, [], ◌∷◌, ◌++◌, ◌&&◌, ◌==◌}
use Rattle.std.proofs.lemmas.Bool.Decides.{nat_tests}
use Rattle.tp_names.specs.declared.identifiers.Aaid.{Aaid}
use Rattle.tp_names.specs.declared.identifiers.Addr.{Addr}
use Rattle.tp_names.specs.declared.identifiers.BranchId.{BranchId}
use Rattle.tp_names.specs.declared.identifiers.Mark.{Mark}
use Rattle.tp_names.specs.declared.identifiers.NodeKey.{NodeKey}
use Rattle.tp_names.specs.declared.children.Child.{Child}
use Rattle.tp_names.specs.declared.outcome.Outcome.{Outcome}
use Rattle.tp_names.specs.declared.outcome.Report.{Report}
use Rattle.tp_names.specs.Same.{is_addr}
use Rattle.tp_names.specs.Reports.{join}
use Rattle.tp_records.specs.declared.request.Request.{Request}
use Rattle.tp_records.specs.declared.dialogue.DialogueRecord.{DialogueRecord}
use Rattle.tp_records.specs.declared.dialogue.Holder.{Holder}
use Rattle.tp_records.specs.declared.peer.PeerRecord.{PeerRecord}
use Rattle.tp_logrec.specs.declared.record.LogRec.{LogRec}
use Rattle.tp_model.specs.declared.arc.Side.{Side}
use Rattle.tp_model.specs.declared.transaction.TxEvent.{TxEvent}
use Rattle.tp_model.specs.declared.recovery.Kept.{Kept}
use Rattle.tp_model.specs.declared.recovery.KeptEvent.{KeptEvent}
use Rattle.tp_model.specs.Parts.{Who, Origin, Event, Out, Entry, Link, Idle, Opening, Offered, Live, Dialogue, Arc, Key, Root, Under, Branch, Current, Digest}
use Rattle.tp_model.specs.Links.{is_live, with_one_taken}
use Rattle.tp_model.specs.Dialogues.{is_ready, begun_by, named_holder, fresh_dialogue}
use Rattle.tp_model.specs.Arcs.{find_arc, link_of, link_with, put_arc, without_arc, with_dialogue, with_link, carried}
use Rattle.tp_model.specs.Transactions.{Transaction, Turn, is_under, aaid_of, node_key, superior_of, fresh_branch, transacted}
use Rattle.tp_model.specs.Recovery.{is_commit, settled, find_owed, without_owed, is_nothing_owed, not_forgotten}
use Rattle.tp_model.specs.Node.{Move, superior_arc, next_mark, with_mark_drawn, seen, remaining, may_begin_on, begin_on, fresh_current, turned, keep}
use Rattle.tp_model.specs.Requests.{refused_request}
use Rattle.tp_model.specs.Arrivals.{is_from_superior, refused_arrival}
use Rattle.tp_model.specs.Events.{refusal, verdict, action, after_crash, started, recovered_current, named_again}
use Rattle.tp_model.specs.History.{digest}
use Rattle.tp_model.specs.Questions.{is_at, sent_more}
use Rattle.tp_model.specs.Legal.{IsGrown}
use Rattle.tp_steps.specs.Histories.{brought}
use Rattle.tp_steps.specs.Moves.{Moves, IsPut, StandsIn, prelude, called, accepted_by, accepted_on, linked, counted_in}
use Rattle.tp_steps.specs.Traces.{IsLinked, count_to}
use Rattle.tp_steps.specs.Passages.{IsPassed, IsLogged}
use Rattle.tp_steps.proofs.every.EveryEvent.{every_move}
use Rattle.tp_steps.proofs.every.BeginCases.{begun_over, begin_cases}
use Rattle.tp_steps.proofs.every.Preludes.{superior_found, takes_next, begun_arcs, link_counted}
use Rattle.tp_steps.proofs.lemmas.EachKept.{IsEach, each_after, each_noted, each_unnoted}
use Rattle.tp_steps.proofs.lemmas.Equality.{addrs_equal}
use Rattle.tp_steps.proofs.lemmas.Options.{some_same}
use Rattle.tp_steps.proofs.links.Linked.{linked_moves}
use Rattle.tp_steps.proofs.log.KinTurns.{kin, kids, kids_seen, kids_left, kids_more}
use Rattle.tp_steps.proofs.log.Passed.{passed_turn}
use Rattle.tp_steps.proofs.log.Sound.{left_branches, left_is}
use Rattle.tp_histories.specs.Histories.{IsSentIn, HasSent, HasBrought}
use Rattle.tp_histories.proofs.log.KeptLog.{kept_prelude}
use Rattle.tp_histories.proofs.marks.Traced.{traced_law}
use Rattle.tp_histories.proofs.worlds.Unique.{TookOn, superior_is}
use Rattle.tp_histories.proofs.trees.Late.{late_law}
use Rattle.tp_histories.proofs.trees.Knowing.{Came, As_it_was, By_begin, By_crash, came_by, current_none}
use Rattle.tp_agreement.proofs.OwingLaw.{kept_none}
use Rattle.tp_history_state.proofs.links.Kin.{IsKin, kin_link, kin_moves, found_without}
use Rattle.tp_finishing.proofs.Retries.{sent_first, sent_second}
use Rattle.tp_finishing.proofs.KeptTurns.{EachChild, each_more, each_without, Keeps, IsDoubtOf, IsKeeping, keeping_turn}
use Rattle.tp_history_state.proofs.links.Named.{found_put}

-- ---- arcs over which something was heard

abbrev pub is_heard : Link → Bool
is_heard Idle = false
is_heard (Opening x) = false
is_heard (Offered x) = true
is_heard (Live x y s t) = true

abbrev pub AreHeard : (Addr → Type 0) → List Arc → Type 0
AreHeard P arcs = (p : ℕ) (a : Arc) → find_arc arcs p ≡ Some a → is_heard a.link ≡ true → P a.peer

found_is : (arcs : List Arc) (p : ℕ) (a : Arc) → find_arc arcs p ≡ Some a → a.peer.node ≡ p
found_is [] p a h = absurd (cc (h))
found_is (x ∷ arcs) p a h = grind (arith, nat_tests, found_is arcs p a, h)

found_end : (arcs : List Arc) (n : Arc) (p : ℕ) (a : Arc) → find_arc (arcs ++ (n ∷ [])) p ≡ Some a → (find_arc arcs p ≡ Some a) ⊎ (n ≡ a)
found_end [] n p a h = go (n.peer.node == p) h
  where
    go : (b : Bool) → (if b then Some n else None) ≡ Some a → (None ≡ Some a) ⊎ (n ≡ a)
    go true k = inr (some_same n a k)
    go false k = absurd (cc (k))
found_end (x ∷ arcs) n p a h = go (x.peer.node == p) h (found_end arcs n p a)
  where
    go : (b : Bool) → (if b then Some x else find_arc (arcs ++ (n ∷ [])) p) ≡ Some a → (find_arc (arcs ++ (n ∷ [])) p ≡ Some a → (find_arc arcs p ≡ Some a) ⊎ (n ≡ a)) → ((if b then Some x else find_arc arcs p) ≡ Some a) ⊎ (n ≡ a)
    go true k rest = inl k
    go false k rest = rest k

-- an arc that takes the place of another one has its peer
heard_put : (P : Addr → Type 0) (arcs : List Arc) (n x : Arc) → find_arc arcs n.peer.node ≡ Some x → P n.peer → AreHeard P arcs → AreHeard P (put_arc arcs n)
heard_put P arcs n x found at old p a h heard = go (n.peer.node == p) (sym (found_put arcs n x p found) ∙ h)
  where
    go : (b : Bool) → (if b then Some n else find_arc arcs p) ≡ Some a → P a.peer
    go true k = subst (λ (v : Arc). P v.peer) (some_same n a k) at
    go false k = old p a k heard

heard_dialogue : (P : Addr → Type 0) (arcs : List Arc) (q : ℕ) (f : Dialogue → Dialogue) → AreHeard P arcs → AreHeard P (with_dialogue arcs q f)
heard_dialogue P arcs q f old p a h heard = let b = back arcs h in subst P b.2 (old p b.0 b.1 (ap is_heard b.3 ∙ heard))
  where
    back : (xs : List Arc) → find_arc (with_dialogue xs q f) p ≡ Some a → (b : Arc) × (find_arc xs p ≡ Some b) × (b.peer ≡ a.peer) × (b.link ≡ a.link)
    back [] k = absurd (cc (k))
    back (x ∷ xs) k = go (x.peer.node == q) (x.peer.node == p) refl k (back xs)
      where
        y : Arc
        y = record x { dialogue = f x.dialogue }

        go : (v w : Bool) → (x.peer.node == p) ≡ w → find_arc (if v then y ∷ xs else x ∷ with_dialogue xs q f) p ≡ Some a
            → (find_arc (with_dialogue xs q f) p ≡ Some a → (b : Arc) × (find_arc xs p ≡ Some b) × (b.peer ≡ a.peer) × (b.link ≡ a.link))
            → (b : Arc) × (find_arc (x ∷ xs) p ≡ Some b) × (b.peer ≡ a.peer) × (b.link ≡ a.link)
        go true true i m rest = let one : y ≡ a = some_same y a (rw (i, find_arc) at m) in (x, rw (i, find_arc) refl, ap (λ (z : Arc). z.peer) one, ap (λ (z : Arc). z.link) one)
        go true false i m rest = (a, rw (i, find_arc) (rw (i, find_arc) at m), refl, refl)
        go false true i m rest = let one : x ≡ a = some_same x a (rw (i, find_arc) at m) in (x, rw (i, find_arc) refl, ap (λ (z : Arc). z.peer) one, ap (λ (z : Arc). z.link) one)
        go false false i m rest = let r = rest (rw (i, find_arc) at m) in (r.0, rw (i, find_arc) r.1, r.2, r.3)

heard_without : (P : Addr → Type 0) (arcs : List Arc) (q : ℕ) → AreHeard P arcs → AreHeard P (without_arc arcs q)
heard_without P arcs q old p a h heard = go (q == p) (sym (found_without arcs q p) ∙ h)
  where
    go : (b : Bool) → (if b then None else find_arc arcs p) ≡ Some a → P a.peer
    go true k = absurd (cc (k))
    go false k = old p a k heard

taken_heard : (l : Link) → is_heard (with_one_taken l) ≡ is_heard l
taken_heard Idle = refl
taken_heard (Opening x) = refl
taken_heard (Offered x) = refl
taken_heard (Live x y s t) = refl

heard_counted : (P : Addr → Type 0) (arcs : List Arc) (q : ℕ) → AreHeard P arcs → AreHeard P (with_link arcs q with_one_taken)
heard_counted P arcs q old p a h heard =
    let k = kin_link p q with_one_taken arcs a h in
    let links : a.link ≡ (if q == p then with_one_taken k.0.link else k.0.link) = sym (ap link_of h) ∙ link_counted arcs q p ∙ ap (λ (o : Option Arc). if q == p then with_one_taken (link_of o) else link_of o) k.1 in
    subst P (sym k.2) (old p k.0 k.1 (go (q == p) links))
  where
    go : (b : Bool) → a.link ≡ (if b then with_one_taken (kin_link p q with_one_taken arcs a h).0.link else (kin_link p q with_one_taken arcs a h).0.link) → is_heard (kin_link p q with_one_taken arcs a h).0.link ≡ true
    go true i = sym (taken_heard (kin_link p q with_one_taken arcs a h).0.link) ∙ ap is_heard (sym i) ∙ heard
    go false i = ap is_heard (sym i) ∙ heard

-- ---- the prelude of an event

not_offered : (who : Who) (d : Digest) (u : ℕ) (x : Arc) (l : Link) → refusal who d (Event.Do (Request.Accept u)) ≡ None → superior_arc d ≡ Some x → x.link ≡ l → is_heard l ≡ true
unfolding refusal verdict refused_request
not_offered who d u x Idle ok i j = absurd (grind (arith, ok, i, j))
not_offered who d u x (Opening z) ok i j = absurd (grind (arith, ok, i, j))
not_offered who d u x (Offered z) ok i j = refl
not_offered who d u x (Live z y s t) ok i j = refl

opened_from : (who : Who) (d : Digest) (from : Addr) (x y : Mark) (u : ℕ) (a : Arc) → refusal who d (Event.Arrive from (PeerRecord.AcceptAssoc x y u)) ≡ None → find_arc d.arcs from.node ≡ Some a → is_addr a.peer from ≡ true
unfolding refusal verdict refused_arrival
opened_from who d from x y u a ok i = go (is_addr a.peer from) refl
  where
    go : (b : Bool) → is_addr a.peer from ≡ b → is_addr a.peer from ≡ true
    go true j = j
    go false j = absurd (grind (arith, ok, i, j))

heard_accepted : (P : Addr → Type 0) (who : Who) (d : Digest) (u : ℕ) → refusal who d (Event.Do (Request.Accept u)) ≡ None → AreHeard P d.arcs → AreHeard P (accepted_by who u (superior_arc d) d).arcs
heard_accepted P who d u ok old = go (superior_arc d) refl
  where
    on : (x : Arc) (l : Link) → superior_arc d ≡ Some x → x.link ≡ l → AreHeard P (accepted_on who u x l d).arcs
    on x Idle i j = old
    on x (Opening z) i j = old
    on x (Live z y s t) i j = old
    on x (Offered z) i j =
        let s = superior_found d x i in
        let at : x.peer.node ≡ s.0.node = found_is d.arcs s.0.node x s.2 in
        heard_put P d.arcs (record x { link = Live z (next_mark who d) 0 0; dialogue = fresh_dialogue u Side.Subordinate }) x (ap (find_arc d.arcs) at ∙ s.2) (old s.0.node x s.2 (ap is_heard j)) old

    go : (o : Option Arc) → superior_arc d ≡ o → AreHeard P (accepted_by who u o d).arcs
    go None i = old
    go (Some x) i = on x x.link i refl

heard_linked : (P : Addr → Type 0) (who : Who) (d : Digest) (from : Addr) (x y : Mark) (u : ℕ) → refusal who d (Event.Arrive from (PeerRecord.AcceptAssoc x y u)) ≡ None → P from → AreHeard P d.arcs → AreHeard P (linked (find_arc d.arcs from.node) x y u d).arcs
heard_linked P who d from x y u ok here old = go (find_arc d.arcs from.node) refl
  where
    go : (o : Option Arc) → find_arc d.arcs from.node ≡ o → AreHeard P (linked o x y u d).arcs
    go None i = old
    go (Some a) i =
        let same : a.peer ≡ from = addrs_equal a.peer from (opened_from who d from x y u a ok i) in
        heard_put P d.arcs (record a { link = Live x y 0 0; dialogue = fresh_dialogue u Side.Superior }) a (ap (λ (v : Addr). find_arc d.arcs v.node) same ∙ i) (subst P (sym same) here) old

heard_prelude : (P : Addr → Type 0) (who : Who) (d : Digest) (e : Event) → refusal who d e ≡ None → ((a : Addr) (r : PeerRecord) → brought e ≡ Some (a, r) → P a) → AreHeard P d.arcs → AreHeard P (prelude who d e).arcs
unfolding after_crash
heard_prelude P who d (Event.Do (Request.BeginDialogue b u)) ok came old = λ p a h heard. elim (found_end d.arcs (record { peer = b; link = Opening (next_mark who d); dialogue = fresh_dialogue u Side.Superior }) p a h) [
  | inl i ↦ old p a i heard
  | inr i ↦ absurd (let off : false ≡ true = ap (λ (v : Arc). is_heard v.link) i ∙ heard in cc (off))
]
heard_prelude P who d (Event.Do (Request.Accept u)) ok came old = heard_accepted P who d u ok old
heard_prelude P who d (Event.Do r) ok came old = old
heard_prelude P who d (Event.Arrive from (PeerRecord.OpenAssoc x u)) ok came old = on
  where
    n : Arc
    n = record { peer = from; link = Offered x; dialogue = fresh_dialogue u Side.Subordinate }

    on : AreHeard P (n ∷ d.arcs)
    on p a h heard = go (from.node == p) h
      where
        go : (b : Bool) → (if b then Some n else find_arc d.arcs p) ≡ Some a → P a.peer
        go true k = subst (λ (v : Arc). P v.peer) (some_same n a k) (came from (PeerRecord.OpenAssoc x u) refl)
        go false k = old p a k heard
heard_prelude P who d (Event.Arrive from (PeerRecord.AcceptAssoc x y u)) ok came old = heard_linked P who d from x y u ok (came from (PeerRecord.AcceptAssoc x y u) refl) old
heard_prelude P who d (Event.Arrive from (PeerRecord.OnAssoc x y q (DialogueRecord.Begin t b k))) ok came old =
    subst (λ (arcs : List Arc). AreHeard P arcs) (sym (begun_arcs (find_arc d.arcs from.node) t b (counted_in d from))) (heard_counted P d.arcs from.node old)
heard_prelude P who d (Event.Arrive from (PeerRecord.OnAssoc x y q r)) ok came old = heard_counted P d.arcs from.node old
heard_prelude P who d (Event.Arrive from r) ok came old = old
heard_prelude P who d Event.Crash ok came old = λ p a h heard. absurd (cc (h))
heard_prelude P who d _ ok came old = old

-- ---- what is kept of others

-- of a branch, its tree, its identifier and its superior
abbrev pub KeyAt : (Aaid → BranchId → Addr → Type 0) → Key → Type 0
KeyAt K (Root t) = Unit {0}
KeyAt K (Under t b a) = K t b a

-- of one that is kept for its damage: its key and superior are those of one transaction, and no branch is owed after a rollback
abbrev pub FitsKept : (Aaid → BranchId → Addr → Type 0) → (Aaid → Child → Type 0) → Kept → Type 0
FitsKept K Q k = (j : Key) × (k.key ≡ node_key j) × (k.superior ≡ superior_of j) × KeyAt K j × EachChild (Q (aaid_of j)) k.owed × (is_commit k.side ≡ false → k.owed ≡ [])

abbrev pub AllFit : (Aaid → BranchId → Addr → Type 0) → (Aaid → Child → Type 0) → List Kept → Type 0
AllFit K Q [] = Unit {0}
AllFit K Q (k ∷ ks) = FitsKept K Q k × AllFit K Q ks

abbrev pub FitsCurrent : (Aaid → BranchId → Addr → Type 0) → (Aaid → Child → Type 0) → Current → Type 0
FitsCurrent K Q c = KeyAt K c.key × EachChild (Q (aaid_of c.key)) (kin c.branches) × IsDoubtOf c.phase c.key

abbrev pub Fits : (Aaid → BranchId → Addr → Type 0) → (Aaid → Child → Type 0) → Digest → Type 0
Fits K Q d = ((c : Current) → d.current ≡ Some c → FitsCurrent K Q c) × AllFit K Q d.kept

fit_each : (K : Aaid → BranchId → Addr → Type 0) (Q : Aaid → Child → Type 0) → IsEach (FitsKept K Q) (AllFit K Q)
fit_each K Q = record { none = tt; both = λ k ks h i. (h, i); first = λ k ks h. h.0; rest = λ k ks h. h.1 }

fit_again : (K : Aaid → BranchId → Addr → Type 0) (Q : Aaid → Child → Type 0) (ks js : List Kept) → not_forgotten ks ≡ not_forgotten js → AllFit K Q js → AllFit K Q ks
fit_again K Q ks js same h = each_unnoted (FitsKept K Q) (AllFit K Q) (fit_each K Q) (λ k i. i) ks (subst (AllFit K Q) (sym same) (each_noted (FitsKept K Q) (AllFit K Q) (fit_each K Q) (λ k i. i) js h))

stands_fit : (K : Aaid → BranchId → Addr → Type 0) (Q : Aaid → Child → Type 0) (ks : List Kept) (k : Kept) → AllFit K Q ks → StandsIn ks k → FitsKept K Q k
stands_fit K Q [] k h i = absurd i
stands_fit K Q (x ∷ xs) k h (inl i) = subst (FitsKept K Q) i h.0
stands_fit K Q (x ∷ xs) k h (inr i) = stands_fit K Q xs k h.1 i

-- a record leaves what fits
abbrev RecFits : (Aaid → BranchId → Addr → Type 0) → (Aaid → Child → Type 0) → Option LogRec → Type 0
RecFits K Q r = (n : ℕ) (k : NodeKey) (s : Option Addr) (o : Outcome) (p : Report) (cs : List Child) (b : Bool) → r ≡ Some (LogRec.Damage n k s o p cs) → FitsKept K Q (record { node = n; key = k; superior = s; side = o; report = p; owed = cs; forgot = b })

settled_fits : (K : Aaid → BranchId → Addr → Type 0) (Q : Aaid → Child → Type 0) (k : Kept) (f : KeptEvent) → FitsKept K Q k → RecFits K Q (settled k f).rec
unfolding settled
settled_fits K Q k (KeptEvent.Done from b r) h = go (find_owed k.owed b) (is_nothing_owed (without_owed k.owed b) && k.forgot)
  where
    less : is_commit k.side ≡ false → without_owed k.owed b ≡ []
    less i = ap (λ (cs : List Child). without_owed cs b) (h.5 i)

    go : (o : Option Child) (v : Bool) → RecFits K Q (elim o as (λ _. Option LogRec) [ None ↦ None | Some c ↦ Some (if v then LogRec.End k.node k.key k.side else LogRec.Damage k.node k.key k.superior k.side (join k.report r) (without_owed k.owed b)) ])
    go None v = λ n j s o p cs w is. absurd (cc (is))
    go (Some c) true = λ n j s o p cs w is. absurd (cc (is))
    go (Some c) false = λ n j s o p cs w is.
        subst (FitsKept K Q) (made k.node n k.key j k.superior s k.side o (join k.report r) p (without_owed k.owed b) cs w is) (h.0, h.1, h.2, h.3, each_without (Q (aaid_of h.0)) k.owed b h.4, less)
      where
        made : (n m : ℕ) (k j : NodeKey) (s z : Option Addr) (o u : Outcome) (p v : Report) (cs ds : List Child) (w : Bool) → Some (LogRec.Damage n k s o p cs) ≡ Some (LogRec.Damage m j z u v ds)
            → ◌≡◌ {A = Kept} (record { node = n; key = k; superior = s; side = o; report = p; owed = cs; forgot = w }) (record { node = m; key = j; superior = z; side = u; report = v; owed = ds; forgot = w })
        made n m k j s z o u p v cs ds w i = cc
settled_fits K Q k KeptEvent.Forget h = λ n j s o p cs b is. absurd (grind (arith, is))
settled_fits K Q k KeptEvent.Purge h = λ n j s o p cs b is. absurd (cc (is))

turned_fits : (K : Aaid → BranchId → Addr → Type 0) (Q : Aaid → Child → Type 0) (t : Transaction) (a : Turn) → IsKeeping (Q (aaid_of t.key)) t a → KeyAt K t.key → EachChild (Q (aaid_of t.key)) (kids t.rows) → ((n : ℕ) (k : NodeKey) (s : Option Addr) (o : Outcome) (p : Report) (cs : List Child) → a.rec ≡ Some (LogRec.Damage n k s o p cs) → k ≡ node_key t.key)
    → RecFits K Q a.rec
turned_fits K Q t a keep at each key n k s o p cs b is =
    let z : Keeps (Q (aaid_of t.key)) t.key (Some (LogRec.Damage n k s o p cs)) = subst (Keeps (Q (aaid_of t.key)) t.key) is (keep.2 each) in
    (t.key, key n k s o p cs is, z.0, at, z.1, z.2)

-- ---- the steps of a node

-- what holds of each branch that is begun
abbrev Begins : ℕ → (Addr → Type 0) → (Aaid → Child → Type 0) → List Out → Type 0
Begins n P Q outs =
    (t : Aaid) (c : Child) (x y : Mark) (q : ℕ) (i : Holder) → IsSentIn outs c.addr (PeerRecord.OnAssoc x y q (DialogueRecord.Begin t c.branch i)) → P c.addr → (c.addr.node == n) ≡ false → Q t c

-- no arc leads to the node itself
abbrev HasNoLoop : ℕ → Digest → Type 0
HasNoLoop n d = find_arc d.arcs n ≡ None

abbrev IsFitMove : ℕ → (Addr → Type 0) → (Aaid → BranchId → Addr → Type 0) → (Aaid → Child → Type 0) → Digest → Move → Type 0
IsFitMove n P K Q d m = ((p : ℕ) → IsKin p d.arcs m.next.arcs) × ((p : ℕ) → IsLinked p d m) × (Begins n P Q m.outs → AreHeard P d.arcs → HasNoLoop n d → Fits K Q d → Fits K Q m.next)

more_heard : (n : ℕ) (l : Link) → is_heard (sent_more n l) ≡ true → is_heard l ≡ true
more_heard n Idle h = h
more_heard n (Opening x) h = h
more_heard n (Offered x) h = refl
more_heard n (Live x y s t) h = refl

heard_after : (P : Addr → Type 0) (d : Digest) (m : Move) → ((p : ℕ) → IsKin p d.arcs m.next.arcs) → ((p : ℕ) → IsLinked p d m) → AreHeard P d.arcs → AreHeard P m.next.arcs
heard_after P d m kin_of linked_of old p a h heard =
    let k = kin_of p a h in
    let link : a.link ≡ link_with m.next.arcs p = sym (ap link_of h) in
    elim ((linked_of p).over.link) [
      | inl i ↦ subst P (sym k.2) (old p k.0 k.1 (more_heard (count_to p m.outs) k.0.link (ap (λ (l : Link). is_heard (sent_more (count_to p m.outs) l)) (sym (ap link_of k.1)) ∙ ap is_heard (sym i) ∙ ap is_heard (sym link) ∙ heard)))
      | inr i ↦ absurd (let off : false ≡ true = ap is_heard (sym i) ∙ ap is_heard (sym link) ∙ heard in cc (off))
    ]

no_loop_after : (n : ℕ) (d : Digest) (m : Move) → ((p : ℕ) → IsKin p d.arcs m.next.arcs) → HasNoLoop n d → HasNoLoop n m.next
no_loop_after n d m kin_of none = go (find_arc m.next.arcs n) refl
  where
    go : (o : Option Arc) → find_arc m.next.arcs n ≡ o → o ≡ None
    go None i = refl
    go (Some a) i = let k = kin_of n a i in absurd (let off : None ≡ Some k.0 = sym none ∙ k.1 in cc (off))

no_loop_dialogue : (n q : ℕ) (f : Dialogue → Dialogue) (arcs : List Arc) → find_arc arcs n ≡ None → find_arc (with_dialogue arcs q f) n ≡ None
no_loop_dialogue n q f [] h = refl
no_loop_dialogue n q f (a ∷ arcs) h = grind (arith, nat_tests, no_loop_dialogue n q f arcs, h)

dialogue_at : (arcs : List Arc) (q : ℕ) (f : Dialogue → Dialogue) (a : Arc) → find_arc arcs q ≡ Some a → find_arc (with_dialogue arcs q f) q ≡ Some (record a { dialogue = f a.dialogue })
dialogue_at [] q f a h = absurd (cc (h))
dialogue_at (x ∷ xs) q f a h = go (x.peer.node == q) refl (dialogue_at xs q f a)
  where
    go : (b : Bool) → (x.peer.node == q) ≡ b → (find_arc xs q ≡ Some a → find_arc (with_dialogue xs q f) q ≡ Some (record a { dialogue = f a.dialogue })) → find_arc (with_dialogue (x ∷ xs) q f) q ≡ Some (record a { dialogue = f a.dialogue })
    go true i rest = let one : x ≡ a = some_same x a (rw (i, find_arc) at h) in rw (i, with_dialogue) (rw (i, find_arc) (ap (λ (v : Arc). Some (record v { dialogue = f v.dialogue })) one))
    go false i rest = rw (i, with_dialogue) (rw (i, find_arc) (rest (rw (i, find_arc) at h)))

-- a record goes out on a live arc
carried_goes : (arcs : List Arc) (q : ℕ) (w : DialogueRecord) (a : Arc) (x y : Mark) (s t : ℕ) → find_arc arcs q ≡ Some a → a.link ≡ Live x y s t → IsSentIn (carried arcs q w).1 a.peer (PeerRecord.OnAssoc x y s w)
carried_goes [] q w a x y s t h l = absurd (cc (h))
carried_goes (b ∷ arcs) q w a x y s t h l = go (b.peer.node == q) refl (carried_goes arcs q w a x y s t)
  where
    go : (v : Bool) → (b.peer.node == q) ≡ v → (find_arc arcs q ≡ Some a → a.link ≡ Live x y s t → IsSentIn (carried arcs q w).1 a.peer (PeerRecord.OnAssoc x y s w)) → IsSentIn (carried (b ∷ arcs) q w).1 a.peer (PeerRecord.OnAssoc x y s w)
    go true i rest =
        let one : b ≡ a = some_same b a (rw (i, find_arc) at h) in
        let at : b.link ≡ Live x y s t = ap (λ (v : Arc). v.link) one ∙ l in
        rw (i, carried) (rw at (inl (ap (λ (v : Arc). v.peer) one, refl)))
    go false i rest = rw (i, carried) (rest (rw (i, find_arc) at h) l)

live_is : (l : Link) → is_live l ≡ true → (x : Mark) × (y : Mark) × (s : ℕ) × (t : ℕ) × (l ≡ Live x y s t)
live_is (Live x y s t) h = (x, y, s, t, refl)
live_is _ h = absurd (cc (h))

fit_begins : (P : Addr → Type 0) (K : Aaid → BranchId → Addr → Type 0) (Q : Aaid → Child → Type 0) (who : Who) (q : ℕ) (d : Digest) → Begins who.node P Q (begin_on who q d).outs → AreHeard P d.arcs → HasNoLoop who.node d → Fits K Q d → Fits K Q (begin_on who q d).next
fit_begins P K Q who q d = begin_cases (λ (m : Move). Begins who.node P Q m.outs → AreHeard P d.arcs → HasNoLoop who.node d → Fits K Q d → Fits K Q m.next) who q d (λ b heard loop h. h) on
  where
    on : (c : Current) (a : Arc) → d.current ≡ Some c → find_arc d.arcs q ≡ Some a → may_begin_on who d a ≡ true → Begins who.node P Q (begun_over who q d c a).outs → AreHeard P d.arcs → HasNoLoop who.node d → Fits K Q d → Fits K Q (begun_over who q d c a).next
    on c a now found may begins heard loop h = (λ v i. next v i, h.1)
      where
        id : BranchId
        id = record { superior = who.site; mark = next_mark who d }

        child : Child
        child = record { addr = a.peer; branch = id }

        word : DialogueRecord
        word = DialogueRecord.Begin (aaid_of c.key) id (named_holder a.dialogue)

        arcs : List Arc
        arcs = with_dialogue d.arcs q (begun_by (named_holder a.dialogue) Side.Superior)

        t0 : Transaction
        t0 = seen who (with_mark_drawn d).arcs c

        u : Transaction
        u = record t0 { rows = t0.rows ++ (record { branch = fresh_branch child; live = true; ends = false }) ∷ [] }

        live : is_live a.link ≡ true
        live = grind (arith, may)

        l : (x : Mark) × (y : Mark) × (s : ℕ) × (t : ℕ) × (a.link ≡ Live x y s t)
        l = live_is a.link live

        sent : IsSentIn (begun_over who q d c a).outs a.peer (PeerRecord.OnAssoc l.0 l.1 l.2 word)
        sent = sent_first (carried arcs q word).1 [] a.peer (PeerRecord.OnAssoc l.0 l.1 l.2 word) (carried_goes arcs q word (record a { dialogue = begun_by (named_holder a.dialogue) Side.Superior a.dialogue }) l.0 l.1 l.2 l.3 (dialogue_at d.arcs q _ a found) l.4)

        apart : (b : Bool) → (a.peer.node == who.node) ≡ b → b ≡ false
        apart false i = refl
        apart true i =
            let at : a.peer.node ≡ who.node = grind (arith, nat_tests, i) in
            absurd (let off : None ≡ Some a = sym loop ∙ ap (find_arc d.arcs) (sym at ∙ found_is d.arcs q a found) ∙ found in cc (off))

        own : Q (aaid_of c.key) child
        own = begins (aaid_of c.key) child l.0 l.1 l.2 (named_holder a.dialogue) sent (heard q a found (ap is_heard l.4)) (apart (a.peer.node == who.node) refl)

        kids_u : EachChild (Q (aaid_of c.key)) (kids u.rows)
        kids_u = subst (EachChild (Q (aaid_of c.key))) (sym (kids_more t0.rows child)) (each_more (Q (aaid_of c.key)) (kids t0.rows) child (subst (EachChild (Q (aaid_of c.key))) (sym (kids_seen d.arcs c.branches)) (h.0 c now).1) own)

        next : (v : Current) → remaining u ≡ Some v → FitsCurrent K Q v
        next v i =
            let key : v.key ≡ c.key = (left_is u v i).0 in
            let same : kin v.branches ≡ kids u.rows = ap kin (left_branches u v i) ∙ kids_left u.rows in (
              subst (KeyAt K) (sym key) (h.0 c now).0,
              subst (λ (k : Key). EachChild (Q (aaid_of k)) (kin v.branches)) (sym key) (subst (EachChild (Q (aaid_of c.key))) (sym same) kids_u),
              λ r. ap is_under key ∙ (h.0 c now).2 (ap is_ready (sym (left_is u v i).1) ∙ r),
            )

fit_turned : (K : Aaid → BranchId → Addr → Type 0) (Q : Aaid → Child → Type 0) (who : Who) (f : TxEvent) (d : Digest) (c : Current) → d.current ≡ Some c → IsPut f (seen who d.arcs c) → Fits K Q d → Fits K Q (turned who f d c).next
fit_turned K Q who f d c now put h = (next, each_after (FitsKept K Q) (AllFit K Q) (fit_each K Q) a.rec d.kept h.1 (turned_fits K Q t a keep (h.0 c now).0 each logged))
  where
    t : Transaction
    t = seen who d.arcs c

    a : Turn
    a = transacted f t

    keep : IsKeeping (Q (aaid_of c.key)) t a
    keep = keeping_turn (Q (aaid_of c.key)) f t put

    passed : IsPassed f t t a
    passed = passed_turn f t put

    each : EachChild (Q (aaid_of c.key)) (kids t.rows)
    each = subst (EachChild (Q (aaid_of c.key))) (sym (kids_seen d.arcs c.branches)) (h.0 c now).1

    logged : (n : ℕ) (k : NodeKey) (s : Option Addr) (o : Outcome) (p : Report) (cs : List Child) → a.rec ≡ Some (LogRec.Damage n k s o p cs) → k ≡ node_key t.key
    logged n k s o p cs is = (subst (λ (r : Option LogRec). IsLogged t r a.next) is passed.logs).0

    next : (v : Current) → remaining a.next ≡ Some v → FitsCurrent K Q v
    next v i =
        let key : v.key ≡ c.key = (left_is a.next v i).0 ∙ keep.1 in
        let same : kin v.branches ≡ kids t.rows = ap kin (left_branches a.next v i) ∙ kids_left a.next.rows ∙ keep.0 in (
          subst (KeyAt K) (sym key) (h.0 c now).0,
          subst (λ (k : Key). EachChild (Q (aaid_of k)) (kin v.branches)) (sym key) (subst (EachChild (Q (aaid_of c.key))) (sym same) each),
          λ r. ap is_under key ∙ keep.3 (h.0 c now).2 (ap is_ready (sym (left_is a.next v i).1) ∙ r),
        )

fit_moves : (P : Addr → Type 0) (K : Aaid → BranchId → Addr → Type 0) (Q : Aaid → Child → Type 0) (who : Who) (e : Event) (s : Digest) → Moves who e s (IsFitMove who.node P K Q)
fit_moves P K Q who e s = record {
  still = λ d. (λ p. (kin_moves who e s p).still d, λ p. (linked_moves who e s p).still d, λ b heard loop h. h);
  chain = λ d a f one two quiet. (
    λ p. (kin_moves who e s p).chain d a f (one.0 p) (two.0 p) quiet,
    λ p. (linked_moves who e s p).chain d a f (one.1 p) (two.1 p) quiet,
    λ b heard loop h.
        two.2 (λ t c x y q i sent at own. b t c x y q i (sent_second a.outs (f a.next).outs c.addr (PeerRecord.OnAssoc x y q (DialogueRecord.Begin t c.branch i)) sent) at own) (heard_after P d a one.0 one.1 heard) (no_loop_after who.node d a one.0 loop)
        (one.2 (λ t c x y q i sent at own. b t c x y q i (sent_first a.outs (f a.next).outs c.addr (PeerRecord.OnAssoc x y q (DialogueRecord.Begin t c.branch i)) sent) at own) heard loop h),
  );
  speaks = λ d outs h own said. (λ p. (kin_moves who e s p).speaks d outs h own said, λ p. (linked_moves who e s p).speaks d outs h own said, λ b heard loop h. h);
  changes_dialogue = λ d q f m by one. (λ p. (kin_moves who e s p).changes_dialogue d q f m by (one.0 p), λ p. (linked_moves who e s p).changes_dialogue d q f m by (one.1 p), λ b heard loop h. one.2 b (heard_dialogue P d.arcs q f heard) (no_loop_dialogue who.node q f d.arcs loop) h);
  drops_arc = λ d q m at one. (λ p. (kin_moves who e s p).drops_arc d q m at (one.0 p), λ p. (linked_moves who e s p).drops_arc d q m at (one.1 p), λ b heard loop h. one.2 b (heard_without P d.arcs q heard) (found_without d.arcs q who.node ∙ gone (q == who.node) loop) h);
  notes_kept = λ d ks m held one. (λ p. (kin_moves who e s p).notes_kept d ks m held (one.0 p), λ p. (linked_moves who e s p).notes_kept d ks m held (one.1 p), λ b heard loop h. one.2 b heard loop (h.0, fit_again K Q ks d.kept held.1 h.1));
  keeps = λ d k f held. (
    λ p. (kin_moves who e s p).keeps d k f held,
    λ p. (linked_moves who e s p).keeps d k f held,
    λ b heard loop h. (h.0, each_after (FitsKept K Q) (AllFit K Q) (fit_each K Q) (settled k f).rec d.kept h.1 (settled_fits K Q k f (stands_fit K Q d.kept k h.1 held.2))),
  );
  turns = λ d c f now at asked put gone. (λ p. (kin_moves who e s p).turns d c f now at asked put gone, λ p. (linked_moves who e s p).turns d c f now at asked put gone, λ b heard loop h. fit_turned K Q who f d c now put h);
  begins = λ d q free. (λ p. (kin_moves who e s p).begins d q free, λ p. (linked_moves who e s p).begins d q free, fit_begins P K Q who q d);
  roots = λ d m nil may one. (λ p. (kin_moves who e s p).roots d m nil may (one.0 p), λ p. (linked_moves who e s p).roots d m nil may (one.1 p), λ b heard loop h. one.2 b heard loop (rooted d, h.1));
}
  where
    gone : {o : Option Arc} (b : Bool) → o ≡ None → (if b then None else o) ≡ None
    gone true i = refl
    gone false i = i

    rooted : (d : Digest) (c : Current) → Some (fresh_current (Root (record { owner = who.site; mark = next_mark who d }))) ≡ Some c → FitsCurrent K Q c
    rooted d c i = subst (FitsCurrent K Q) (some_same (fresh_current (Root (record { owner = who.site; mark = next_mark who d }))) c i) (tt, tt, λ r. absurd (let off : false ≡ true = r in cc (off)))

-- ---- every legal history

named_fit : (Q : Child → Type 0) (bs : List Branch) → EachChild Q (kin bs) → EachChild Q (kin (named_again bs))
named_fit Q [] h = tt
named_fit Q (b ∷ bs) h = go b.left (named_fit Q bs h.1)
  where
    go : (v : Bool) → EachChild Q (kin (named_again bs)) → EachChild Q (kin (if v then named_again bs else fresh_branch (record { addr = b.peer; branch = b.id }) ∷ named_again bs))
    go true rest = rest
    go false rest = (h.0, rest)

-- what holds of a Begin that the event takes from a superior that was heard
abbrev Begun : (Addr → Type 0) → (Aaid → BranchId → Addr → Type 0) → Option Addr → Event → Type 0
Begun P K up e = (t : Aaid) (b : BranchId) (from : Addr) (x y : Mark) (q : ℕ) (i : Holder) (a : Addr) → e ≡ Event.Arrive from (PeerRecord.OnAssoc x y q (DialogueRecord.Begin t b i)) → P a → is_at up a.node ≡ true → K t b a

fit_prelude : (P : Addr → Type 0) (K : Aaid → BranchId → Addr → Type 0) (Q : Aaid → Child → Type 0) (who : Who) (up : Option Addr) (d : Digest) (e : Event) → refusal who d e ≡ None → ((a : Addr) → d.superior ≡ Some a → up ≡ Some a) → Begun P K up e → AreHeard P d.arcs → Fits K Q d → Fits K Q (prelude who d e)
fit_prelude P K Q who up d e ok under begun heard h = (λ c i. now c i (came_by who d e ok), fit_again K Q (prelude who d e).kept d.kept (kept_prelude who d e).0 h.1)
  where
    above_is : {n : ℕ} → (s : Addr) × (up ≡ Some s) × (s.node ≡ n) → is_at up n ≡ true
    above_is s = rw (s.1) (grind (arith, nat_tests, s.2))

    now : (c : Current) → (prelude who d e).current ≡ Some c → Came who d e → FitsCurrent K Q c
    now c i (As_it_was k) = h.0 c (sym k ∙ i)
    now c i (By_begin from x y q t b g a is found cur nil above) =
        let took = takes_next who d from x y q (DialogueRecord.Begin t b g) (subst (λ (f : Event). refusal who d f ≡ None) is ok) in
        let link : is_heard a.link ≡ true = ap (λ (o : Option Arc). is_heard (link_of o)) (sym found) ∙ ap is_heard took.live in
        subst (FitsCurrent K Q) (some_same (fresh_current (Under t b a.peer)) c (sym cur ∙ i)) (begun t b from x y q g a.peer is (heard from.node a found link) (above_is (superior_is d up a.peer.node under above)), tt, λ r. refl)
    now c i (By_crash is cur) = crashed d.current h.0 (sym cur ∙ i)
      where
        crashed : (o : Option Current) → ((v : Current) → o ≡ Some v → FitsCurrent K Q v) → recovered_current o ≡ Some c → FitsCurrent K Q c
        crashed None old j = absurd (cc (j))
        crashed (Some v) old j =
            let branches : named_again v.branches ≡ c.branches = grind (arith, j) in
            let key : c.key ≡ v.key = grind (arith, j) in
            let phase : c.phase ≡ v.phase = grind (arith, j) in (
              subst (KeyAt K) (sym key) (old v refl).0,
              subst (λ (k : Key). EachChild (Q (aaid_of k)) (kin c.branches)) (sym key) (subst (λ (bs : List Branch). EachChild (Q (aaid_of v.key)) (kin bs)) branches (named_fit (Q (aaid_of v.key)) v.branches (old v refl).1)),
              λ r. ap is_under key ∙ (old v refl).2 (ap is_ready (sym phase) ∙ r),
            )

is_from : (who : Who) (d : Digest) (from : Addr) (x : Mark) (u : ℕ) → refusal who d (Event.Arrive from (PeerRecord.OpenAssoc x u)) ≡ None → is_from_superior d from ≡ true
unfolding refusal verdict refused_arrival
is_from who d from x u ok = go (is_from_superior d from) refl
  where
    go : (b : Bool) → is_from_superior d from ≡ b → is_from_superior d from ≡ true
    go true i = i
    go false i = absurd (grind (arith, ok, i))

other_peer : (who : Who) (d : Digest) (b : Addr) (u : ℕ) → refusal who d (Event.Do (Request.BeginDialogue b u)) ≡ None → b.node ≡ who.node → ⊥
unfolding refusal verdict refused_request
other_peer who d b u ok same = absurd (grind (arith, nat_tests, ok, same))

offered_up : (who : Who) (up : Option Addr) (d : Digest) (from : Addr) (x : Mark) (u : ℕ) → refusal who d (Event.Arrive from (PeerRecord.OpenAssoc x u)) ≡ None → ((a : Addr) → d.superior ≡ Some a → up ≡ Some a) → is_at up from.node ≡ true
offered_up who up d from x u ok under = go d.superior refl (is_from who d from x u ok)
  where
    go : (o : Option Addr) → d.superior ≡ o → elim o as (λ _. Bool) [ None ↦ false | Some a ↦ is_addr a from ] ≡ true → is_at up from.node ≡ true
    go None i h = absurd (cc (h))
    go (Some a) i h = rw (under a i) (ap (λ (b : Addr). b.node == from.node) (addrs_equal a from h) ∙ self from.node)
      where
        self : (n : ℕ) → (n == n) ≡ true
        self n = grind (arith, nat_tests)

put_loop : (arcs : List Arc) (n x : Arc) (p : ℕ) → find_arc arcs n.peer.node ≡ Some x → find_arc arcs p ≡ None → find_arc (put_arc arcs n) p ≡ None
put_loop arcs n x p found none = found_put arcs n x p found ∙ go (n.peer.node == p) refl
  where
    go : (b : Bool) → (n.peer.node == p) ≡ b → (if b then Some n else find_arc arcs p) ≡ None
    go false i = none
    go true i = let at : n.peer.node ≡ p = grind (arith, nat_tests, i) in absurd (let off : None ≡ Some x = sym none ∙ ap (find_arc arcs) (sym at) ∙ found in cc (off))

counted_loop : (q n : ℕ) (arcs : List Arc) → find_arc arcs n ≡ None → find_arc (with_link arcs q with_one_taken) n ≡ None
counted_loop q n [] h = refl
counted_loop q n (a ∷ arcs) h = grind (arith, nat_tests, counted_loop q n arcs, h)

-- the prelude of an event makes no such arc, where the node is not its own superior
no_loop_prelude : (who : Who) (up : Option Addr) (d : Digest) (e : Event) → refusal who d e ≡ None → ((a : Addr) → d.superior ≡ Some a → up ≡ Some a) → (is_at up who.node ≡ true → ⊥) → HasNoLoop who.node d → HasNoLoop who.node (prelude who d e)
unfolding after_crash
no_loop_prelude who up d (Event.Do (Request.BeginDialogue b u)) ok under self none = go (find_arc (called who b u d).arcs who.node) refl
  where
    go : (o : Option Arc) → find_arc (called who b u d).arcs who.node ≡ o → o ≡ None
    go None i = refl
    go (Some a) i = elim (found_end d.arcs (record { peer = b; link = Opening (next_mark who d); dialogue = fresh_dialogue u Side.Superior }) who.node a i) [
      | inl j ↦ absurd (let off : None ≡ Some a = sym none ∙ j in cc (off))
      | inr j ↦ absurd (other_peer who d b u ok (ap (λ (v : Arc). v.peer.node) j ∙ found_is (called who b u d).arcs who.node a i))
    ]
no_loop_prelude who up d (Event.Do (Request.Accept u)) ok under self none = on (superior_arc d) refl
  where
    linked_to : (x : Arc) (l : Link) → superior_arc d ≡ Some x → find_arc (accepted_on who u x l d).arcs who.node ≡ None
    linked_to x Idle i = none
    linked_to x (Opening z) i = none
    linked_to x (Live z y s t) i = none
    linked_to x (Offered z) i =
        let s = superior_found d x i in
        let at : x.peer.node ≡ s.0.node = found_is d.arcs s.0.node x s.2 in
        put_loop d.arcs (record x { link = Live z (next_mark who d) 0 0; dialogue = fresh_dialogue u Side.Subordinate }) x who.node (ap (find_arc d.arcs) at ∙ s.2) none

    on : (o : Option Arc) → superior_arc d ≡ o → find_arc (accepted_by who u o d).arcs who.node ≡ None
    on None i = none
    on (Some x) i = linked_to x x.link i
no_loop_prelude who up d (Event.Do r) ok under self none = none
no_loop_prelude who up d (Event.Arrive from (PeerRecord.OpenAssoc x u)) ok under self none = go (from.node == who.node) refl
  where
    go : (b : Bool) → (from.node == who.node) ≡ b → (if b then Some (record { peer = from; link = Offered x; dialogue = fresh_dialogue u Side.Subordinate }) else find_arc d.arcs who.node) ≡ None
    go false i = none
    go true i =
        let at : from.node ≡ who.node = grind (arith, nat_tests, i) in
        absurd (self (subst (λ (n : ℕ). is_at up n ≡ true) at (offered_up who up d from x u ok under)))
no_loop_prelude who up d (Event.Arrive from (PeerRecord.AcceptAssoc x y u)) ok under self none = on (find_arc d.arcs from.node) refl
  where
    on : (o : Option Arc) → find_arc d.arcs from.node ≡ o → find_arc (linked o x y u d).arcs who.node ≡ None
    on None i = none
    on (Some a) i = let at : a.peer.node ≡ from.node = found_is d.arcs from.node a i in put_loop d.arcs (record a { link = Live x y 0 0; dialogue = fresh_dialogue u Side.Superior }) a who.node (ap (find_arc d.arcs) at ∙ i) none
no_loop_prelude who up d (Event.Arrive from (PeerRecord.OnAssoc x y q (DialogueRecord.Begin t b k))) ok under self none =
    ap (λ (arcs : List Arc). find_arc arcs who.node) (begun_arcs (find_arc d.arcs from.node) t b (counted_in d from)) ∙ counted_loop from.node who.node d.arcs none
no_loop_prelude who up d (Event.Arrive from (PeerRecord.OnAssoc x y q r)) ok under self none = counted_loop from.node who.node d.arcs none
no_loop_prelude who up d (Event.Arrive from r) ok under self none = none
no_loop_prelude who up d Event.Crash ok under self none = refl
no_loop_prelude who up d _ ok under self none = none

pub fit_law : (P : Addr → Type 0) (K : Aaid → BranchId → Addr → Type 0) (Q : Aaid → Child → Type 0) (o : Origin) (up : Option Addr) (h : List Entry) → o.start.records ≡ [] → IsGrown o up h → ((a : Addr) (r : PeerRecord) → HasBrought h a r → P a)
    → ((t : Aaid) (c : Child) (x y : Mark) (q : ℕ) (i : Holder) → HasSent h c.addr (PeerRecord.OnAssoc x y q (DialogueRecord.Begin t c.branch i)) → P c.addr → (c.addr.node == o.who.node) ≡ false → Q t c)
    → ((t : Aaid) (b : BranchId) (from : Addr) (x y : Mark) (q : ℕ) (i : Holder) (a : Addr) → TookOn h from x y q (DialogueRecord.Begin t b i) → P a → is_at up a.node ≡ true → K t b a) → (is_at up o.who.node ≡ true → ⊥) → AreHeard P (digest o h).arcs × HasNoLoop o.who.node (digest o h) × Fits K Q (digest o h)
unfolding started
fit_law P K Q o up [] empty legal came sent began self = (λ p a h heard. absurd (cc (h)), refl, ((λ c i. absurd (cc (current_none o empty, i))), subst (AllFit K Q) (sym (kept_none o empty)) tt))
fit_law P K Q o up (e ∷ h) empty legal came sent began self =
    let d : Digest = digest o h in
    let s : Digest = prelude o.who d e.event in
    let old = fit_law P K Q o up h empty legal.3 (λ a r b. came a r (inr b)) (λ t c x y q i b at own. sent t c x y q i (inr b) at own) (λ t b from x y q i a w. began t b from x y q i a (inr w)) self in
    let loop : HasNoLoop o.who.node s = no_loop_prelude o.who up d e.event legal.0 (traced_law o up h legal.3).under self old.1 in
    let heard : AreHeard P s.arcs = heard_prelude P o.who d e.event legal.0 (λ a r b. came a r (inl b)) old.0 in
    let moved : IsFitMove o.who.node P K Q s (action o.who d e.event) = every_move o.who d e.event (IsFitMove o.who.node P K Q) (fit_moves P K Q o.who e.event s) (late_law o up h legal.3) legal.0 in
    let begins : Begins o.who.node P Q (action o.who d e.event).outs = λ t c x y q i b at own. sent t c x y q i (inl (subst (λ (f : Entry). IsSentIn f.outs c.addr (PeerRecord.OnAssoc x y q (DialogueRecord.Begin t c.branch i))) legal.1 b)) at own in
    (heard_after P s (action o.who d e.event) moved.0 moved.1 heard, no_loop_after o.who.node s (action o.who d e.event) moved.0 loop, moved.2 begins heard loop (fit_prelude P K Q o.who up d e.event legal.0 (traced_law o up h legal.3).under (λ t b from x y q i a is. began t b from x y q i a (inl is)) old.0 old.2))
