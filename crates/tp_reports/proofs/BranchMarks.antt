-- The branches that a node begins, and those whose commitment it orders, have identifiers of its own marks: an instance of the steps
-- of a node.
use Rattle.std.proofs.Common.{◌≡◌, ◌⊎◌, inl, inr, ℕ, Bool, true, false, refl, ap, sym, ◌∙◌, arith, Option, Some, None, List, [], ◌∷◌, ◌++◌, ◌&&◌}
use Rattle.std.proofs.lemmas.Bool.Decides.{nat_tests}
use Rattle.tp_names.specs.declared.identifiers.Aaid.{Aaid}
use Rattle.tp_names.specs.declared.identifiers.BranchId.{BranchId}
use Rattle.tp_names.specs.declared.identifiers.Mark.{Mark}
use Rattle.tp_names.specs.declared.identifiers.Addr.{Addr}
use Rattle.tp_names.specs.declared.children.Child.{Child}
use Rattle.tp_names.specs.Same.{is_branch}
use Rattle.tp_records.specs.declared.dialogue.DialogueRecord.{DialogueRecord}
use Rattle.tp_records.specs.declared.dialogue.Holder.{Holder}
use Rattle.tp_records.specs.declared.peer.PeerRecord.{PeerRecord}
use Rattle.tp_logrec.specs.declared.record.LogRec.{LogRec}
use Rattle.tp_model.specs.declared.arc.Side.{Side}
use Rattle.tp_model.specs.declared.transaction.TxEvent.{TxEvent}
use Rattle.tp_model.specs.declared.transaction.TxOut.{TxOut}
use Rattle.tp_model.specs.declared.recovery.Kept.{Kept}
use Rattle.tp_model.specs.declared.recovery.KeptEvent.{KeptEvent}
use Rattle.tp_model.specs.Parts.{Who, Origin, Event, Entry, Arc, Root, Under, Branch, Current, Digest}
use Rattle.tp_model.specs.Dialogues.{begun_by, named_holder}
use Rattle.tp_model.specs.Arcs.{find_arc, with_dialogue}
use Rattle.tp_model.specs.Transactions.{Transaction, Turn, aaid_of, fresh_branch, transacted}
use Rattle.tp_model.specs.Recovery.{settled, find_owed, without_owed, kept_after, not_forgotten}
use Rattle.tp_model.specs.Node.{Move, move, followed, perform, next_mark, with_mark_drawn, seen, remaining, Passage, passage, is_leaving, entered, with_begun, may_begin_on, begin_on, fresh_current, turned, keep}
use Rattle.tp_model.specs.Events.{action, recovered_current, named_again}
use Rattle.tp_model.specs.History.{digest}
use Rattle.tp_model.specs.Legal.{IsGrown}
use Rattle.tp_histories.specs.Histories.{IsSentIn, HasSent}
use Rattle.tp_steps.specs.Moves.{Moves, IsPut, AreSaid, StandsIn, owes_branch, are_spoken, prelude}
use Rattle.tp_steps.specs.Facts.{words_to}
use Rattle.tp_steps.specs.Trees.{begins_of}
use Rattle.tp_agreement.specs.Owing.{BeginsTo}
use Rattle.tp_steps.proofs.lemmas.Equality.{and_left, and_right, or_case, branches_equal}
use Rattle.tp_steps.proofs.every.EveryEvent.{every_move}
use Rattle.tp_histories.proofs.trees.Late.{late_law}
use Rattle.tp_steps.proofs.words.Hushed.{settled_spoken}
use Rattle.tp_steps.proofs.log.Sound.{left_branches}
use Rattle.tp_steps.proofs.log.KinTurns.{kin, kids, kids_seen, kids_left, kids_more}
use Rattle.tp_histories.proofs.log.KeptLog.{kept_prelude}
use Rattle.tp_histories.proofs.trees.Knowing.{Came, As_it_was, By_begin, By_crash, came_by, current_none}
use Rattle.tp_agreement.proofs.Closing.{turned_none}
use Rattle.tp_histories.proofs.worlds.TreeMembers.{sent_counts}
use Rattle.tp_agreement.proofs.LeftDown.{no_begins}
use Rattle.tp_agreement.proofs.OwingMoves.{sent_split, sent_performed, sent_played, carried_is, one_sent, begin_id, spoken_words, no_begin, settled_silent}
use Rattle.tp_agreement.proofs.OwingLaw.{kept_none, sent_now}
use Rattle.tp_reports.proofs.MarkTurns.{is_of, are_of, keeps_of, asks_in, IsMarkedTurn, marked_turn}
use Rattle.tp_steps.proofs.every.BeginCases.{begun_over, begin_cases}
use Rattle.tp_steps.proofs.lemmas.EachKept.{IsEach, each_after}
use Rattle.tp_steps.proofs.lemmas.Options.{some_same}
use Rattle.tp_steps.proofs.links.Whole.{whole_turn}

-- ---- the kept transactions of a node

abbrev owe_of : ℕ → List Kept → Bool
owe_of n [] = true
owe_of n (k ∷ ks) = are_of n k.owed && owe_of n ks

of_each : (n : ℕ) → IsEach (λ k. are_of n k.owed ≡ true) (λ ks. owe_of n ks ≡ true)
of_each n = record {
  none = refl;
  both = λ k ks h i. rw (h, i) refl;
  first = λ k ks h. and_left (are_of n k.owed) (owe_of n ks) h;
  rest = λ k ks h. and_right (are_of n k.owed) (owe_of n ks) h;
}

after_of : (n : ℕ) (r : Option LogRec) (ks : List Kept) → owe_of n ks ≡ true → keeps_of n r ≡ true → owe_of n (kept_after r ks) ≡ true
after_of n r ks h i = each_after (λ k. are_of n k.owed ≡ true) (λ ks. owe_of n ks ≡ true) (of_each n) r ks h (λ m k s o p cs b is. sym (ap (keeps_of n) is) ∙ i)

noted_of : (n : ℕ) (ks : List Kept) → owe_of n (not_forgotten ks) ≡ owe_of n ks
noted_of n [] = refl
noted_of n (k ∷ ks) = grind (arith, noted_of n ks)

stands_of : (n : ℕ) (ks : List Kept) (k : Kept) → owe_of n ks ≡ true → StandsIn ks k → are_of n k.owed ≡ true
stands_of n [] k h i = absurd i
stands_of n (x ∷ xs) k h (inl i) = ap (λ (y : Kept). are_of n y.owed) (sym i) ∙ and_left (are_of n x.owed) (owe_of n xs) h
stands_of n (x ∷ xs) k h (inr i) = stands_of n xs k (and_right (are_of n x.owed) (owe_of n xs) h) i

less_of : (n : ℕ) (cs : List Child) (b : BranchId) → are_of n cs ≡ true → are_of n (without_owed cs b) ≡ true
less_of n [] b h = refl
less_of n (c ∷ cs) b h = let rest = less_of n cs b (grind (arith, h)) in grind (arith, h, rest)

settled_of : (n : ℕ) (k : Kept) (f : KeptEvent) → are_of n k.owed ≡ true → keeps_of n (settled k f).rec ≡ true
unfolding settled
settled_of n k (KeptEvent.Done a b r) h = let less = less_of n k.owed b h in grind (arith, less)
settled_of n k KeptEvent.Forget h = grind arith
settled_of n k KeptEvent.Purge h = refl

found_of : (n : ℕ) (cs : List Child) (b : BranchId) → are_of n cs ≡ true → elim (find_owed cs b) as (λ _. Bool) [ None ↦ false | Some c ↦ true ] ≡ true → is_of n b ≡ true
found_of n [] b h i = absurd (cc (i))
found_of n (c ∷ cs) b h i = go (is_branch c.branch b) refl (found_of n cs b (and_right (is_of n c.branch) (are_of n cs) h))
  where
    go : (v : Bool) → is_branch c.branch b ≡ v → (elim (find_owed cs b) as (λ _. Bool) [ None ↦ false | Some x ↦ true ] ≡ true → is_of n b ≡ true) → is_of n b ≡ true
    go true j rest = ap (is_of n) (sym (branches_equal c.branch b j)) ∙ and_left (is_of n c.branch) (are_of n cs) h
    go false j rest = rest (rw (j, find_owed) at i)

owes_of : (n : ℕ) (ks : List Kept) (b : BranchId) → owe_of n ks ≡ true → owes_branch b ks ≡ true → is_of n b ≡ true
owes_of n [] b h i = absurd (cc (i))
owes_of n (k ∷ ks) b h i = elim (or_case (elim (find_owed k.owed b) as (λ _. Bool) [ None ↦ false | Some c ↦ true ]) (owes_branch b ks) i) [
  | inl j ↦ found_of n k.owed b (and_left (are_of n k.owed) (owe_of n ks) h) j
  | inr j ↦ owes_of n ks b (and_right (are_of n k.owed) (owe_of n ks) h) j
]

-- ---- events of a node

abbrev AreMarked : Who → Digest → Type 0
AreMarked who d = ((c : Current) → d.current ≡ Some c → are_of who.node (kin c.branches) ≡ true) × (owe_of who.node d.kept ≡ true)

record IsMarking (who : Who) (d : Digest) (m : Move) : Type 0 where
  marked : AreMarked who d → AreMarked who m.next
  orders : AreMarked who d → (a : Addr) (t : Aaid) (b : BranchId) → IsSentIn m.outs a (PeerRecord.RecCommit t b) → is_of who.node b ≡ true
  begins : (t : Aaid) (p : ℕ) (b : BranchId) → BeginsTo t p b m.outs → is_of who.node b ≡ true

marking_perform : (who : Who) (e : _) (s d : Digest) (outs : List TxOut) → are_spoken outs ≡ true → AreSaid e s d outs → IsMarking who d (perform outs d)
marking_perform who e s d outs spoken said = record {
  marked = λ h. h;
  orders = λ h a t b sent. owes_of who.node d.kept b h.1 (said a (PeerRecord.RecCommit t b) (sent_performed d.arcs outs a (PeerRecord.RecCommit t b) refl sent));
  begins = λ t p b h. absurd (no_begin d.arcs outs t p b (ap (begins_of t) (spoken_words d.arcs outs p spoken)) h);
}

marking_keep : (who : Who) (d : Digest) (k : Kept) (f : KeptEvent) → StandsIn d.kept k → IsMarking who d (keep (settled k f) d)
marking_keep who d k f stands = record {
  marked = λ h. (h.0, after_of who.node (settled k f).rec d.kept h.1 (settled_of who.node k f (stands_of who.node d.kept k h.1 stands)));
  orders = λ h a t b sent. absurd (other t b (settled_silent k f a (PeerRecord.RecCommit t b) (sent_performed d.arcs (settled k f).outs a (PeerRecord.RecCommit t b) refl sent)));
  begins = λ t p b h. absurd (no_begin d.arcs (settled k f).outs t p b (ap (begins_of t) (spoken_words d.arcs (settled k f).outs p (settled_spoken k f))) h);
}
  where
    other : (t : Aaid) (b : BranchId) → (u : Aaid) × (v : BranchId) × (PeerRecord.RecCommit t b ≡ PeerRecord.Forget u v) → ⊥
    other t b w = let h = w.2 in cc (h)

left_of : (n : ℕ) (t : Transaction) → are_of n (kids t.rows) ≡ true → (c : Current) → remaining t ≡ Some c → are_of n (kin c.branches) ≡ true
left_of n t h c i = ap (λ (bs : List Branch). are_of n (kin bs)) (left_branches t c i) ∙ ap (are_of n) (kids_left t.rows) ∙ h

marking_turned : (who : Who) (f : TxEvent) (d : Digest) (c : Current) → d.current ≡ Some c → IsPut f (seen who d.arcs c) → IsMarking who d (turned who f d c)
marking_turned who f d c now put = record {
  marked = λ h. (λ u i. left_of who.node a.next (ap (are_of who.node) own.0 ∙ kids_of h) u i, after_of who.node a.rec d.kept h.1 (own.1 who.node (kids_of h)).0);
  orders = λ h z t b sent. asks_in who.node a.outs z t b (own.1 who.node (kids_of h)).1 (sent_played d q w a (whole_turn f q) (entered q w d.arcs) z (PeerRecord.RecCommit t b) refl sent);
  begins = λ t p b h. absurd (none t p b h);
}
  where
    q : Transaction
    q = seen who d.arcs c

    a : Turn
    a = transacted f q

    w : Passage
    w = passage (is_leaving f) q.phase a.next.phase

    own : IsMarkedTurn q a
    own = marked_turn f q put

    kids_of : AreMarked who d → are_of who.node (kids q.rows) ≡ true
    kids_of h = ap (are_of who.node) (kids_seen d.arcs c.branches) ∙ h.0 c now

    none : (t : Aaid) (p : ℕ) (b : BranchId) → BeginsTo t p b (turned who f d c).outs → ⊥
    none t p b h = absurd (omega (arith, no_begins t (words_to p (turned who f d c).outs) (turned_none who f d c p put), sent_counts t p (turned who f d c).outs h.0 h.1 h.2 h.3 b h.4 h.5 h.6))

of_more : (n : ℕ) (cs : List Child) (c : Child) → are_of n cs ≡ true → is_of n c.branch ≡ true → are_of n (cs ++ c ∷ []) ≡ true
of_more n [] c h i = rw i refl
of_more n (x ∷ cs) c h i = let rest = of_more n cs c (grind (arith, h)) i in grind (arith, h, rest)

marking_begins : (who : Who) (q : ℕ) (d : Digest) → IsMarking who d (begin_on who q d)
marking_begins who q d = begin_cases (IsMarking who d) who q d still on
  where
    still : IsMarking who d (move [] d)
    still = record { marked = λ h. h; orders = λ h a t b i. absurd i; begins = λ t p b h. absurd (h.6) }

    on : (c : Current) (a : Arc) → d.current ≡ Some c → find_arc d.arcs q ≡ Some a → may_begin_on who d a ≡ true → IsMarking who d (begun_over who q d c a)
    on c a now found may = record {
      marked = λ h. (λ v i. left_of who.node u (kids_u h) v i, h.1);
      orders = λ h z t b i. absurd (sent_performed arcs outs z (PeerRecord.RecCommit t b) refl i);
      begins = λ t p b h. begins t p b h;
    }
      where
        id : BranchId
        id = record { superior = who.site; mark = next_mark who d }

        child : Child
        child = record { addr = a.peer; branch = id }

        word : DialogueRecord
        word = DialogueRecord.Begin (aaid_of c.key) id (named_holder a.dialogue)

        outs : List TxOut
        outs = TxOut.Carry q word ∷ []

        arcs : List Arc
        arcs = with_dialogue d.arcs q (begun_by (named_holder a.dialogue) Side.Superior)

        t0 : Transaction
        t0 = seen who (with_mark_drawn d).arcs c

        u : Transaction
        u = record t0 { rows = t0.rows ++ (record { branch = fresh_branch child; live = true; ends = false }) ∷ [] }

        own : is_of who.node id ≡ true
        own = grind (arith, nat_tests)

        kids_u : AreMarked who d → are_of who.node (kids u.rows) ≡ true
        kids_u h = ap (are_of who.node) (kids_more t0.rows child) ∙ of_more who.node (kids t0.rows) child (ap (are_of who.node) (kids_seen d.arcs c.branches) ∙ h.0 c now) own

        begins : (t : Aaid) (p : ℕ) (b : BranchId) → BeginsTo t p b (perform outs (record (with_begun who (with_mark_drawn d) c child) { arcs = arcs })).outs → is_of who.node b ≡ true
        begins t p b h =
            let w = carried_is arcs q word h.0 (PeerRecord.OnAssoc h.1 h.2 h.3 (DialogueRecord.Begin t b h.4)) (one_sent arcs q word h.0 (PeerRecord.OnAssoc h.1 h.2 h.3 (DialogueRecord.Begin t b h.4)) h.6) in
            let same : id ≡ b = begin_id h.1 w.1 h.2 w.2 h.3 w.3 t (aaid_of c.key) b id h.4 (named_holder a.dialogue) w.4 in
            ap (is_of who.node) (sym same) ∙ own

begins_split : (t : Aaid) (p : ℕ) (b : BranchId) (a : Move) (f : Digest → Move) → BeginsTo t p b (followed a f).outs → BeginsTo t p b a.outs ⊎ BeginsTo t p b (f a.next).outs
begins_split t p b a f h = elim (sent_split a.outs (f a.next).outs h.0 (PeerRecord.OnAssoc h.1 h.2 h.3 (DialogueRecord.Begin t b h.4)) h.6) [ inl i ↦ inl (h.0, h.1, h.2, h.3, h.4, h.5, i) | inr i ↦ inr (h.0, h.1, h.2, h.3, h.4, h.5, i) ]

marking_moves : (who : Who) (e : Event) (s : Digest) → Moves who e s (IsMarking who)
marking_moves who e s = record {
  still = λ d. record { marked = λ h. h; orders = λ h a t b i. absurd i; begins = λ t p b h. absurd (h.6) };
  chain = λ d a f one two quiet. record {
    marked = λ h. two.marked (one.marked h);
    orders = λ h z t b i. elim (sent_split a.outs (f a.next).outs z (PeerRecord.RecCommit t b) i) [ inl j ↦ one.orders h z t b j | inr j ↦ two.orders (one.marked h) z t b j ];
    begins = λ t p b h. elim (begins_split t p b a f h) [ inl i ↦ one.begins t p b i | inr i ↦ two.begins t p b i ];
  };
  speaks = λ d outs h own said. marking_perform who e s d outs h own.1;
  changes_dialogue = λ d p f m by one. record { marked = one.marked; orders = one.orders; begins = one.begins };
  drops_arc = λ d p m at one. record { marked = one.marked; orders = one.orders; begins = one.begins };
  notes_kept = λ d ks m held one. record { marked = λ h. one.marked (h.0, noted d ks held.1 h.1); orders = λ h. one.orders (h.0, noted d ks held.1 h.1); begins = one.begins };
  keeps = λ d k f held. marking_keep who d k f held.2;
  turns = λ d c f now at asked put gone. marking_turned who f d c now put;
  begins = λ d q free. marking_begins who q d;
  roots = λ d m nil may one. record { marked = λ h. one.marked (rooted d h); orders = λ h. one.orders (rooted d h); begins = one.begins };
}
  where
    noted : (d : Digest) (ks : List Kept) → not_forgotten ks ≡ not_forgotten d.kept → owe_of who.node d.kept ≡ true → owe_of who.node ks ≡ true
    noted d ks same h = sym (noted_of who.node ks) ∙ ap (owe_of who.node) same ∙ noted_of who.node d.kept ∙ h

    rooted : (d : Digest) → AreMarked who d → AreMarked who (record (with_mark_drawn d) { current = Some (fresh_current (Root (record { owner = who.site; mark = next_mark who d }))) })
    rooted d h = (λ c i. ap (λ (x : Current). are_of who.node (kin x.branches)) (sym (some_same _ c i)), h.1)

-- ---- every legal history

named_of : (n : ℕ) (bs : List Branch) → are_of n (kin bs) ≡ true → are_of n (kin (named_again bs)) ≡ true
named_of n [] h = refl
named_of n (b ∷ bs) h = let rest = named_of n bs (grind (arith, h)) in grind (arith, h, rest)

recovered_of : (n : ℕ) (o : Option Current) → ((c : Current) → o ≡ Some c → are_of n (kin c.branches) ≡ true) → (c : Current) → recovered_current o ≡ Some c → are_of n (kin c.branches) ≡ true
recovered_of n None h c i = absurd (cc (i))
recovered_of n (Some u) h c i =
    let same : named_again u.branches ≡ c.branches = grind (arith, i) in
    ap (λ (bs : List Branch). are_of n (kin bs)) (sym same) ∙ named_of n u.branches (h u refl)

marked_prelude : (o : Origin) (up : Option Addr) (e : Entry) (h : List Entry) → IsGrown o up (e ∷ h) → AreMarked o.who (digest o h) → AreMarked o.who (prelude o.who (digest o h) e.event)
marked_prelude o up e h legal old = (λ c i. now c i (came_by o.who d e.event legal.0), sym (noted_of o.who.node s.kept) ∙ ap (owe_of o.who.node) (kept_prelude o.who d e.event).0 ∙ noted_of o.who.node d.kept ∙ old.1)
  where
    d : Digest
    d = digest o h

    s : Digest
    s = prelude o.who d e.event

    now : (c : Current) → s.current ≡ Some c → Came o.who d e.event → are_of o.who.node (kin c.branches) ≡ true
    now c i (As_it_was k) = old.0 c (sym k ∙ i)
    now c i (By_begin from x y q t b g a is found cur nil above) = ap (λ (x : Current). are_of o.who.node (kin x.branches)) (sym (some_same (fresh_current (Under t b a.peer)) c (sym cur ∙ i)))
    now c i (By_crash is cur) = recovered_of o.who.node d.current old.0 c (sym cur ∙ i)

marking_at : (o : Origin) (up : Option Addr) (e : Entry) (h : List Entry) → IsGrown o up (e ∷ h) → IsMarking o.who (prelude o.who (digest o h) e.event) (action o.who (digest o h) e.event)
marking_at o up e h legal = every_move o.who (digest o h) e.event (IsMarking o.who) (marking_moves o.who e.event (prelude o.who (digest o h) e.event)) (late_law o up h legal.3) legal.0

marked_law : (o : Origin) (up : Option Addr) (h : List Entry) → o.start.records ≡ [] → IsGrown o up h → AreMarked o.who (digest o h)
marked_law o up [] empty legal = (λ c i. absurd (cc (current_none o empty, i)), ap (owe_of o.who.node) (kept_none o empty))
marked_law o up (e ∷ h) empty legal = (marking_at o up e h legal).marked (marked_prelude o up e h legal (marked_law o up h empty legal.3))

-- whose commitment it orders
pub ordered_mark : (o : Origin) (up : Option Addr) (h : List Entry) (a : Addr) (t : Aaid) (b : BranchId) → o.start.records ≡ [] → IsGrown o up h → HasSent h a (PeerRecord.RecCommit t b) → is_of o.who.node b ≡ true
ordered_mark o up [] a t b empty legal s = absurd s
ordered_mark o up (e ∷ h) a t b empty legal (inr s) = ordered_mark o up h a t b empty legal.3 s
ordered_mark o up (e ∷ h) a t b empty legal (inl s) = (marking_at o up e h legal).orders (marked_prelude o up e h legal (marked_law o up h empty legal.3)) a t b (sent_now o up e h a (PeerRecord.RecCommit t b) legal s)

-- which it begins
pub begun_mark : (o : Origin) (up : Option Addr) (h : List Entry) (a : Addr) (x y : Mark) (q : ℕ) (t : Aaid) (b : BranchId) (i : Holder) → IsGrown o up h → HasSent h a (PeerRecord.OnAssoc x y q (DialogueRecord.Begin t b i)) → is_of o.who.node b ≡ true
begun_mark o up [] a x y q t b i legal s = absurd s
begun_mark o up (e ∷ h) a x y q t b i legal (inr s) = begun_mark o up h a x y q t b i legal.3 s
begun_mark o up (e ∷ h) a x y q t b i legal (inl s) = (marking_at o up e h legal).begins t a.node b (a, x, y, q, i, refl, sent_now o up e h a (PeerRecord.OnAssoc x y q (DialogueRecord.Begin t b i)) legal s)
