-- Every node of a tree but its root is a branch of a node of the tree.
use Rattle.std.proofs.Common.{◌≡◌, ◌≤◌, ◌+◌, ◌⊎◌, inl, inr, ℕ, suc, zero, Bool, true, false, refl, ap, sym, subst, ◌∙◌, arith, Option, Some, None, List, [], ◌∷◌}
use Rattle.std.proofs.lemmas.Bool.Decides.{nat_tests}
use Rattle.tp_names.specs.declared.identifiers.Mark.{Mark}
use Rattle.tp_names.specs.declared.identifiers.Aaid.{Aaid}
use Rattle.tp_names.specs.declared.identifiers.BranchId.{BranchId}
use Rattle.tp_names.specs.declared.identifiers.Addr.{Addr}
use Rattle.tp_names.specs.Same.{is_aaid, is_name}
use Rattle.tp_records.specs.declared.dialogue.DialogueRecord.{DialogueRecord}
use Rattle.tp_records.specs.declared.dialogue.Holder.{Holder}
use Rattle.tp_records.specs.declared.peer.PeerRecord.{PeerRecord}
use Rattle.tp_model.specs.declared.transaction.TxEvent.{TxEvent}
use Rattle.tp_model.specs.declared.transaction.TxOut.{TxOut}
use Rattle.tp_model.specs.declared.recovery.Kept.{Kept}
use Rattle.tp_model.specs.declared.recovery.KeptEvent.{KeptEvent}
use Rattle.tp_model.specs.Parts.{Who, Origin, Event, Entry, Arc, Key, Root, Under, Current, Digest}
use Rattle.tp_model.specs.Links.{is_live}
use Rattle.tp_model.specs.Dialogues.{is_nil}
use Rattle.tp_model.specs.Arcs.{find_arc, link_with}
use Rattle.tp_model.specs.Transactions.{Transaction, Turn, aaid_of, transacted, sight_of_tx}
use Rattle.tp_model.specs.Recovery.{settled}
use Rattle.tp_model.specs.Node.{Move, move, followed, perform, next_mark, with_mark_drawn, seen, turned, fresh_current, may_begin_on, begin_on, keep, remaining}
use Rattle.tp_model.specs.Events.{refusal, action}
use Rattle.tp_model.specs.History.{digest}
use Rattle.tp_model.specs.Outcomes.{is_now, is_member}
use Rattle.tp_model.specs.Questions.{said_to}
use Rattle.tp_model.specs.World.{Node, number_of, site_of, find_node}
use Rattle.tp_model.specs.Happenings.{Happening, run}
use Rattle.tp_model.specs.Promises.{IsOf, IsBranchOf, is_root, is_begin_of, has_begun}
use Rattle.tp_model.specs.Legal.{IsGrown}
use Rattle.tp_histories.specs.Histories.{IsSentIn, HasSent}
use Rattle.tp_histories.specs.Worlds.{IsGood, place}
use Rattle.tp_steps.specs.Moves.{IsAsked, IsPut, IsLate, prelude, Moves, are_spoken}
use Rattle.tp_steps.specs.Facts.{only_words, spoken, words_to}
use Rattle.tp_steps.specs.Trees.{begins_of}
use Rattle.tp_histories.specs.Members.{is_begun_by, has_taken_begin}
use Rattle.tp_steps.specs.Keyed.{HasKeyFrom, IsKeyedMove}
use Rattle.tp_runs.specs.Hanging.{IsStaying}
use Rattle.tp_steps.proofs.links.Links.{said_append}
use Rattle.tp_steps.proofs.links.Apart.{apart_spoken}
use Rattle.tp_steps.proofs.every.EveryEvent.{every_move}
use Rattle.tp_histories.proofs.trees.Late.{late_law, late_prelude, late_remaining, late_fresh}
use Rattle.tp_steps.proofs.links.Wrapped.{Agrees, agrees_performed, words_append}
use Rattle.tp_steps.proofs.words.Hushed.{spoken_none, settled_spoken}
use Rattle.tp_steps.proofs.words.Leaves.{name_same, aaid_same, branch_same}
use Rattle.tp_steps.proofs.lemmas.Equality.{aaids_equal, or_case}
use Rattle.tp_steps.proofs.words.Treed.{begins_append, now_some}
use Rattle.tp_histories.proofs.trees.TreedTurned.{treed_turned}
use Rattle.tp_histories.proofs.trees.Knowing.{Came, As_it_was, By_begin, By_crash, came_by, now_prelude, nil_now, begun_is, current_none}
use Rattle.tp_histories.proofs.worlds.TreeMembers.{sent_counts}
use Rattle.tp_steps.proofs.log.Keyed.{keyed_moves}
use Rattle.tp_histories.proofs.trees.Above.{IsKeyOf, key_law, recovered_key}
use Rattle.tp_histories.proofs.worlds.Unique.{TookOn, took_has, took_begin}
use Rattle.tp_histories.proofs.upward.Risen.{begun_current}
use Rattle.tp_histories.proofs.worlds.Good.{good_run, Sender, was_sent}
use Rattle.tp_steps.proofs.every.BeginCases.{begun_over, begin_cases, begin_word, begin_arcs, next_child}
use Rattle.tp_steps.proofs.lemmas.Options.{some_same}
use Rattle.tp_steps.proofs.log.NextTurns.{addr_self}

-- ---- steps that leave what is current

staying_quiet : (e : Event) (t : Aaid) (p : ℕ) (s d : Digest) (m : Move) → m.next.current ≡ d.current → words_to p m.outs ≡ [] → IsStaying e t p s d m
staying_quiet e t p s d m same none = record {
  late = λ l c i. l c (sym same ∙ i);
  stays = λ l n w. ap (is_now t) same ∙ n;
  begins = λ l b. absurd (no_begin (ap (begins_of t) none) b);
}
  where
    no_begin : begins_of t (words_to p m.outs) ≡ 0 → suc 0 ≤ begins_of t (words_to p m.outs) → ⊥
    no_begin z b = omega (arith, z, b)

staying_perform : (e : Event) (t : Aaid) (p : ℕ) (s d : Digest) (outs : List TxOut) → are_spoken outs ≡ true → IsStaying e t p s d (perform outs d)
staying_perform e t p s d outs h =
    let a = agrees_performed d.arcs outs p (apart_spoken outs h) in
    staying_quiet e t p s d (perform outs d) refl (a.words ∙ spoken_none (is_live (link_with d.arcs p)) p outs h)

staying_keep : (e : Event) (t : Aaid) (p : ℕ) (s d : Digest) (k : Kept) (f : KeptEvent) → IsStaying e t p s d (keep (settled k f) d)
staying_keep e t p s d k f =
    let h = settled_spoken k f in
    let a = agrees_performed d.arcs (settled k f).outs p (apart_spoken (settled k f).outs h) in
    staying_quiet e t p s d (keep (settled k f) d) refl (a.words ∙ spoken_none (is_live (link_with d.arcs p)) p (settled k f).outs h)

-- ---- an event of the transaction

begin_event : (e : Event) (t : Aaid) (c : Current) (f : TxEvent) → is_begun_by t e ≡ true → IsAsked e c f → (p : ℕ) × (u : Aaid) × (b : BranchId) × (h : Holder) × (f ≡ TxEvent.Took p (DialogueRecord.Begin u b h))
begin_event (Event.Arrive from (PeerRecord.OnAssoc x y q (DialogueRecord.Begin u b h))) t c f i asked = (from.node, u, b, h, asked)
begin_event e t c f i asked = absurd (grind (arith, i))

taking_begin : (q : Transaction) (p : ℕ) (u : Aaid) (b : BranchId) (h : Holder) → (transacted (TxEvent.Took p (DialogueRecord.Begin u b h)) q).next ≡ q
unfolding sight_of_tx
taking_begin q p u b h = refl

now_remaining : (t : Aaid) (u : Transaction) → is_nil u.phase ≡ false → is_aaid t (aaid_of u.key) ≡ true → is_now t (remaining u) ≡ true
now_remaining t u late h = grind (arith, late, h)

staying_turned : (who : Who) (e : Event) (f : TxEvent) (t : Aaid) (p : ℕ) (s d : Digest) (c : Current) → d.current ≡ Some c → s.current ≡ Some c → IsAsked e c f → IsPut f (seen who d.arcs c) → IsStaying e t p s d (turned who f d c)
staying_turned who e f t p s d c now at asked put = record {
  late = λ l. late_remaining a.next;
  stays = λ l n w. stays n w;
  begins = λ l b. inr (elim ((treed_turned who e f d s c true t p (λ h. refl) now at put).born l b) [
    | inl n ↦ ap (is_now t) (at ∙ sym now) ∙ n
    | inr x ↦ absurd (no_draw x.count x.later x.known)
  ]);
}
  where
    q : Transaction
    q = seen who d.arcs c

    a : Turn
    a = transacted f q

    m : Move
    m = turned who f d c

    no_draw : (k : ℕ) → suc d.drawn ≤ k → k ≤ d.drawn → ⊥
    no_draw k i j = omega (arith, i, j)

    stays : is_now t d.current ≡ true → (is_now t s.current ≡ false) ⊎ (is_begun_by t e ≡ true) → is_now t m.next.current ≡ true
    stays n (inl w) = absurd (cc (ap (is_now t) (at ∙ sym now) ∙ n, w))
    stays n (inr w) =
        let b = begin_event e t c f w asked in
        let same : a.next ≡ q = ap (λ (g : TxEvent). (transacted g q).next) b.4 ∙ taking_begin q b.0 b.1 b.2 b.3 in
        let tree : is_aaid t (aaid_of c.key) ≡ true = ap (is_now t) (sym now) ∙ n in
        subst (λ (u : Transaction). is_now t (remaining u) ≡ true) (sym same) (now_remaining t q put.late tree)

-- ---- a transaction begins on an arc

staying_begins : (who : Who) (e : Event) (t : Aaid) (p q : ℕ) (s d : Digest) → IsStaying e t p s d (begin_on who q d)
staying_begins who e t p q s d = begin_cases (IsStaying e t p s d) who q d still on
  where
    still : IsStaying e t p s d (move [] d)
    still = staying_quiet e t p s d (move [] d) refl refl

    on : (c : Current) (a : Arc) → d.current ≡ Some c → find_arc d.arcs q ≡ Some a → may_begin_on who d a ≡ true → IsStaying e t p s d (begun_over who q d c a)
    on c a now found may = record {
      late = λ l. late_remaining (transacted (TxEvent.Begun (next_child who d a ∷ [])) (seen who (with_mark_drawn d).arcs c)).next;
      stays = λ l n w. same_tree l (ap (is_now t) (sym now) ∙ n);
      begins = λ l b. inl (same_tree l (begun (is_live (link_with (begin_arcs q d a) p)) (subst (λ (ws : List DialogueRecord). suc 0 ≤ begins_of t ws) agrees.words b)));
    }
      where
        m : Move
        m = begun_over who q d c a

        agrees : Agrees p (is_live (link_with (begin_arcs q d a) p)) (TxOut.Carry q (begin_word who d c a) ∷ []) m.outs (is_live (link_with m.next.arcs p))
        agrees = agrees_performed (begin_arcs q d a) (TxOut.Carry q (begin_word who d c a) ∷ []) p refl

        begun : (b : Bool) → suc 0 ≤ begins_of t (spoken b p (TxOut.Carry q (begin_word who d c a) ∷ [])) → is_aaid t (aaid_of c.key) ≡ true
        begun b h = pick (is_aaid t (aaid_of c.key)) refl
          where
            none_begun : is_aaid t (aaid_of c.key) ≡ false → begins_of t (spoken b p (TxOut.Carry q (begin_word who d c a) ∷ [])) ≡ 0
            none_begun i = grind (arith, i)

            pick : (v : Bool) → is_aaid t (aaid_of c.key) ≡ v → is_aaid t (aaid_of c.key) ≡ true
            pick true i = i
            pick false i = let z = none_begun i in absurd (omega (arith, z, h))

        same_tree : IsLate d → is_aaid t (aaid_of c.key) ≡ true → is_now t m.next.current ≡ true
        same_tree l h =
            let u = begun_current who (with_mark_drawn d) c (record { addr = a.peer; branch = record { superior = who.site; mark = next_mark who d } }) (l c now) in
            ap (is_now t) u.1 ∙ ap (λ (k : Key). is_aaid t (aaid_of k)) u.2 ∙ h

-- ---- the steps

staying_then : (e : Event) (t : Aaid) (p : ℕ) (s d : Digest) (a : Move) (f : Digest → Move) → IsStaying e t p s d a → IsStaying e t p s a.next (f a.next) → IsStaying e t p s d (followed a f)
staying_then e t p s d a f one two = record {
  late = λ l. two.late (one.late l);
  stays = λ l n w. two.stays (one.late l) (one.stays l n w) w;
  begins = λ l h. begins l (begins_of t wa) refl (subst (λ (k : ℕ). suc 0 ≤ k) count h);
}
  where
    b : Move
    b = f a.next

    wa : List DialogueRecord
    wa = words_to p a.outs

    wb : List DialogueRecord
    wb = words_to p b.outs

    count : begins_of t (words_to p (followed a f).outs) ≡ begins_of t wa + begins_of t wb
    count = ap (begins_of t) (ap only_words (said_append p a.outs b.outs) ∙ words_append (said_to p a.outs) (said_to p b.outs)) ∙ begins_append t wa wb

    later : IsLate d → (is_now t a.next.current ≡ true) ⊎ (is_now t s.current ≡ true) → (is_now t b.next.current ≡ true) ⊎ (is_now t s.current ≡ true)
    later l (inr n) = inr n
    later l (inl n) = pick (is_now t s.current) refl
      where
        pick : (v : Bool) → is_now t s.current ≡ v → (is_now t b.next.current ≡ true) ⊎ (is_now t s.current ≡ true)
        pick true i = inr i
        pick false i = inl (two.stays (one.late l) n (inl i))

    begins : IsLate d → (k : ℕ) → begins_of t wa ≡ k → suc 0 ≤ begins_of t wa + begins_of t wb → (is_now t b.next.current ≡ true) ⊎ (is_now t s.current ≡ true)
    begins l zero i h = two.begins (one.late l) (second (begins_of t wa) (begins_of t wb) i h)
      where
        second : (x y : ℕ) → x ≡ 0 → suc 0 ≤ x + y → suc 0 ≤ y
        second x y z h = omega (arith, z, h)
    begins l (suc k) i h = later l (one.begins l (first (begins_of t wa) i))
      where
        first : (x : ℕ) → x ≡ suc k → suc 0 ≤ x
        first x z = omega (arith, z)

staying_moves : (who : Who) (e : Event) (t : Aaid) (p : ℕ) (s : Digest) → Moves who e s (IsStaying e t p s)
staying_moves who e t p s = record {
  still = λ d. staying_quiet e t p s d (move [] d) refl refl;
  chain = λ d a f one two quiet. staying_then e t p s d a f one two;
  speaks = λ d outs h own said. staying_perform e t p s d outs h;
  changes_dialogue = λ d q f m by one. record { late = one.late; stays = one.stays; begins = one.begins };
  drops_arc = λ d q m at one. record { late = one.late; stays = one.stays; begins = one.begins };
  notes_kept = λ d ks m held one. record { late = one.late; stays = one.stays; begins = one.begins };
  keeps = λ d k f held. staying_keep e t p s d k f;
  turns = λ d c f now at asked put gone. staying_turned who e f t p s d c now at asked put;
  begins = λ d q free. staying_begins who e t p q s d;
  roots = λ d m nil may one. record {
    late = λ l. one.late (late_fresh _);
    stays = λ l n w. absurd (cc (n, nil_now d t l nil));
    begins = λ l h. one.begins (late_fresh _) h;
  };
}

pub staying_event : (who : Who) (d : Digest) (e : Event) (t : Aaid) (p : ℕ) → IsLate d → refusal who d e ≡ None → IsStaying e t p (prelude who d e) (prelude who d e) (action who d e)
staying_event who d e t p late ok = every_move who d e (IsStaying e t p (prelude who d e)) (staying_moves who e t p (prelude who d e)) late ok

-- ---- every legal history

pub member_head : (o : Origin) (t : Aaid) (h : List Entry) → is_now t (digest o h).current ≡ true → is_member o t h ≡ true
member_head o t [] n = n
member_head o t (e ∷ h) n = rw n refl

-- who sent a Begin of the tree is in it
pub sent_member : (o : Origin) (up : Option Addr) (h : List Entry) (a : Addr) (x y : Mark) (q : ℕ) (t : Aaid) (b : BranchId) (i : Holder) → IsGrown o up h → HasSent h a (PeerRecord.OnAssoc x y q (DialogueRecord.Begin t b i)) → is_member o t h ≡ true
sent_member o up [] a x y q t b i legal s = absurd s
sent_member o up (e ∷ h) a x y q t b i legal (inr s) = let m = sent_member o up h a x y q t b i legal.3 s in rw m (grind arith)
sent_member o up (e ∷ h) a x y q t b i legal (inl s) =
    elim (k.begins late (sent_counts t a.node (action o.who d e.event).outs a x y q b i refl outs)) [
      | inl n ↦ member_head o t (e ∷ h) n
      | inr n ↦ elim (now_prelude o.who d e.event t legal.0 n) [
        | inl j ↦ (let m = member_head o t h j in rw m (grind arith))
        | inr j ↦ member_head o t (e ∷ h) (k.stays late n (inr j))
      ]
    ]
  where
    d : Digest
    d = digest o h

    late : IsLate (prelude o.who d e.event)
    late = late_prelude o.who d e.event (late_law o up h legal.3)

    k : IsStaying e.event t a.node (prelude o.who d e.event) (prelude o.who d e.event) (action o.who d e.event)
    k = staying_event o.who d e.event t a.node (late_law o up h legal.3) legal.0

    outs : IsSentIn (action o.who d e.event).outs a (PeerRecord.OnAssoc x y q (DialogueRecord.Begin t b i))
    outs = subst (λ (f : Entry). IsSentIn f.outs a (PeerRecord.OnAssoc x y q (DialogueRecord.Begin t b i))) (sym legal.1) s

-- a transaction that came from a superior began by its Begin
under_taken : (o : Origin) (up : Option Addr) (h : List Entry) (u : Current) (t : Aaid) (b : BranchId) (a : Addr) → o.start.records ≡ [] → IsGrown o up h → (digest o h).current ≡ Some u → u.key ≡ Under t b a → has_taken_begin t h ≡ true
under_taken o up [] u t b a empty legal i key = absurd (cc (current_none o empty, i))
under_taken o up (e ∷ h) u t b a empty legal i key = go (moves.keys u i) (λ c. under_taken o up h c t b a empty legal.3)
  where
    d : Digest
    d = digest o h

    s : Digest
    s = prelude o.who d e.event

    moves : IsKeyedMove o.who e.event s s (action o.who d e.event)
    moves = every_move o.who d e.event (IsKeyedMove o.who e.event s) (keyed_moves o.who e.event s) (late_law o up h legal.3) legal.0

    older : has_taken_begin t h ≡ true → has_taken_begin t (e ∷ h) ≡ true
    older k = rw k (grind arith)

    same_aaid : (v w : Aaid) (x y : BranchId) (f g : Addr) → Under v x f ≡ Under w y g → v ≡ w
    same_aaid v w x y f g k = cc (k)

    from : (c : Current) → s.current ≡ Some c → c.key ≡ Under t b a → ((v : Current) → d.current ≡ Some v → v.key ≡ Under t b a → has_taken_begin t h ≡ true) → Came o.who d e.event → has_taken_begin t (e ∷ h) ≡ true
    from c at k rest (As_it_was j) = older (rest c (sym j ∙ at) k)
    from c at k rest (By_begin fr x y q v w g l is found cur nil above) =
        let same = some_same (fresh_current (Under v w l.peer)) c (sym cur ∙ at) in
        let tree : v ≡ t = same_aaid v t w b l.peer a (ap (λ (z : Current). z.key) same ∙ k) in
        let began : is_begun_by t e.event ≡ true = begun_is t v fr x y q w g e.event is (ap (is_aaid t) tree ∙ aaid_same t) in
        rw began refl
    from c at k rest (By_crash is cur) = let r = recovered_key d.current c (sym cur ∙ at) in older (rest r.0 r.1 (sym r.2 ∙ k))

    go : HasKeyFrom o.who s u → ((v : Current) → d.current ≡ Some v → v.key ≡ Under t b a → has_taken_begin t h ≡ true) → has_taken_begin t (e ∷ h) ≡ true
    go (inl c) rest = from c.0 c.1 (sym c.2 ∙ key) rest (came_by o.who d e.event legal.0)
    go (inr c) rest = absurd (cc (sym c.1 ∙ key))

abbrev pub Drew : Origin → Aaid → Type 0
Drew o t = (t.owner ≡ o.who.site) × (t.mark.node ≡ o.who.node)

-- a node of a tree drew its identifier, or took its Begin
member_how : (o : Origin) (up : Option Addr) (h : List Entry) (t : Aaid) → o.start.records ≡ [] → IsGrown o up h → is_member o t h ≡ true → Drew o t ⊎ (has_taken_begin t h ≡ true)
member_how o up [] t empty legal m = absurd (cc (ap (is_now t) (current_none o empty), m))
member_how o up (e ∷ h) t empty legal m = go (or_case (is_now t (digest o (e ∷ h)).current) (is_member o t h) m) (member_how o up h t empty legal.3)
  where
    go : (is_now t (digest o (e ∷ h)).current ≡ true) ⊎ (is_member o t h ≡ true) → (is_member o t h ≡ true → Drew o t ⊎ (has_taken_begin t h ≡ true)) → Drew o t ⊎ (has_taken_begin t (e ∷ h) ≡ true)
    go (inr i) rest = elim (rest i) [ inl j ↦ inl j | inr j ↦ inr (rw j (grind arith)) ]
    go (inl n) rest = let c = now_some t (digest o (e ∷ h)).current n in by_key c.0 c.1 c.2 c.0.key refl
      where
        by_key : (c : Current) → (digest o (e ∷ h)).current ≡ Some c → is_aaid t (aaid_of c.key) ≡ true → (k : Key) → c.key ≡ k → Drew o t ⊎ (has_taken_begin t (e ∷ h) ≡ true)
        by_key c at tree (Root u) k =
            let same : t ≡ u = aaids_equal t u (ap (λ (j : Key). is_aaid t (aaid_of j)) (sym k) ∙ tree) in
            let own : Drew o u = subst (λ (v : Key). IsKeyOf o.who up v) k (key_law o up (e ∷ h) c empty legal at) in
            inl (ap (λ (v : Aaid). v.owner) same ∙ own.0, ap (λ (v : Aaid). v.mark.node) same ∙ own.1)
        by_key c at tree (Under u b a) k =
            let same : t ≡ u = aaids_equal t u (ap (λ (j : Key). is_aaid t (aaid_of j)) (sym k) ∙ tree) in
            inr (subst (λ (v : Aaid). has_taken_begin v (e ∷ h) ≡ true) (sym same) (under_taken o up (e ∷ h) c u b a empty legal at k))

-- ---- every run

pub began_from : (h : List Entry) (from : Addr) (x y : Mark) (q : ℕ) (t : Aaid) (b : BranchId) (i : Holder) → TookOn h from x y q (DialogueRecord.Begin t b i) → has_begun t b from h ≡ true
began_from [] from x y q t b i k = absurd k
began_from (e ∷ h) from x y q t b i (inr k) = let r = began_from h from x y q t b i k in rw r (grind arith)
began_from (e ∷ h) from x y q t b i (inl k) =
    let one : is_begin_of t b from e.event ≡ true = ap (is_begin_of t b from) k ∙ rw (addr_self from, aaid_same t, branch_same b) refl in
    rw one refl

-- the superior of a node of the tree, which stands before it
pub record Hangs (es : List Happening) (t : Aaid) (y : Node) : Type 0 where
  pub superior : Node
  pub id : BranchId
  pub branch : IsBranchOf (run es) t id superior y
  pub before : suc (place (run es).nodes (number_of superior)) ≤ place (run es).nodes (number_of y)

pub hangs : (es : List Happening) (t : Aaid) (y : Node) → IsOf (run es) t y → is_root t y ≡ false → Hangs es t y
hangs es t y of other = go (member_how y.origin y.superior y.history t (good.fresh (number_of y) y of.here) legal of.of_tree)
  where
    ns : List Node
    ns = (run es).nodes

    good : IsGood ns (run es).frames
    good = good_run es

    legal : IsGrown y.origin y.superior y.history
    legal = good.legal (number_of y) y of.here

    go : Drew y.origin t ⊎ (has_taken_begin t y.history ≡ true) → Hangs es t y
    go (inl own) =
        let site : is_name t.owner (site_of y) ≡ true = ap (λ (n : List ℕ). is_name n (site_of y)) own.0 ∙ name_same (site_of y) in
        let mine : is_root t y ≡ true = rw site (grind (arith, nat_tests, own.1)) in
        absurd (cc (mine, other))
    go (inr taken) =
        let b = took_begin y.origin y.superior y.history t legal taken in
        let frame = good.taken (number_of y) y b.from (PeerRecord.OnAssoc b.x b.y b.seq (DialogueRecord.Begin t b.id b.holder)) of.here (took_has y.history b.from b.x b.y b.seq (DialogueRecord.Begin t b.id b.holder) b.took) in
        let s : Sender ns b.from (number_of y) (PeerRecord.OnAssoc b.x b.y b.seq (DialogueRecord.Begin t b.id b.holder)) = was_sent ns (run es).frames b.from (number_of y) (PeerRecord.OnAssoc b.x b.y b.seq (DialogueRecord.Begin t b.id b.holder)) good.sent frame in
        let node : number_of s.node ≡ b.from.node = ap (λ (a : Addr). a.node) s.is in
        let here : find_node ns (number_of s.node) ≡ Some s.node = ap (find_node ns) node ∙ s.found in
        let above = good.above (number_of y) y b.superior of.here b.is in
        record {
          superior = s.node;
          id = b.id;
          branch = record {
            superior = record { here = here; of_tree = sent_member s.node.origin s.node.superior s.node.history s.to b.x b.y b.seq t b.id b.holder (good.legal b.from.node s.node s.found) s.sent };
            child = of;
            begun = ap (λ (a : Addr). has_begun t b.id a y.history) s.is ∙ began_from y.history b.from b.x b.y b.seq t b.id b.holder b.took;
          };
          before = subst (λ (n : ℕ). suc (place ns n) ≤ place ns (number_of y)) (b.at ∙ sym node) above.before;
        }
