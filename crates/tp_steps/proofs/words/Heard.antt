-- Every event of a node keeps the facts of words and branches from its prelude on: an instance of the steps of a node,
-- with the transaction's own facts carried through its wrapping once.
use Rattle.std.proofs.Common.{if◌then◌else◌, ◌≡◌, ◌≤◌, ◌+◌, ℕ, Bool, true, false, refl, ap, sym, subst, ◌∙◌, arith, Option, Some, None, List, [], ◌∷◌, ◌++◌, ◌==◌, length}
use Rattle.std.proofs.lemmas.Bool.Decides.{nat_tests}
use Rattle.tp_names.specs.declared.identifiers.Aaid.{Aaid}
use Rattle.tp_names.specs.declared.identifiers.Addr.{Addr}
use Rattle.tp_names.specs.declared.identifiers.BranchId.{BranchId}
use Rattle.tp_records.specs.declared.dialogue.DialogueRecord.{DialogueRecord}
use Rattle.tp_model.specs.declared.arc.Side.{Side}
use Rattle.tp_model.specs.declared.transaction.TxOut.{TxOut}
use Rattle.tp_model.specs.Parts.{Who, Event, Idle, Arc, Key, Root, Under, Current, Digest}
use Rattle.tp_model.specs.Links.{is_live}
use Rattle.tp_model.specs.Dialogues.{is_nil, is_active, begun_by, named_holder}
use Rattle.tp_model.specs.Arcs.{find_arc, link_of, link_with, with_dialogue, without_arc}
use Rattle.tp_model.specs.Transactions.{Row, Transaction, aaid_of, is_under_at, find_row, fresh_branch, situation_of}
use Rattle.tp_model.specs.Node.{Move, move, perform, next_mark, with_mark_drawn, is_superior, phase_of, seen_rows, seen, situation_at, fresh_current, with_begun, may_begin_on, begin_on}
use Rattle.tp_model.specs.Events.{refusal, action}
use Rattle.tp_steps.specs.Moves.{IsLate}
use Rattle.tp_steps.specs.Moves.{prelude, Moves}
use Rattle.tp_steps.specs.Facts.{spoken, BranchKey, begun_keys, last_from, open_now, id_at, under_at, open_at, key_at, HasPlaceAt, KnowsAt, words_to, IsHeard, Reads}
use Rattle.tp_steps.proofs.links.Links.{link_dialogue, link_without}
use Rattle.tp_steps.proofs.every.EveryRecord.{find_arc_is}
use Rattle.tp_steps.proofs.every.EveryEvent.{every_move}
use Rattle.tp_steps.proofs.links.Wrapped.{Agrees, agrees_performed}
use Rattle.tp_steps.proofs.words.Hushed.{zero_plus, hush, hush_other, hush_perform, hush_keep, heard_then}
use Rattle.tp_steps.proofs.words.HeardTurned.{open_seen, id_seen, under_left, open_left, key_left, heard_turned}
use Rattle.tp_steps.proofs.every.BeginCases.{begun_over, begin_cases}
use Rattle.tp_steps.proofs.words.Fair.{at_most_same, none_left}

-- ---- a transaction begins on an arc

pub find_last : (rows : List Row) (r : Row) (p : ℕ) → find_row (rows ++ r ∷ []) p ≡ elim (find_row rows p) as (λ _. Option Row) [ None ↦ if r.branch.peer.node == p then Some r else None | Some x ↦ Some x ]
find_last [] r p = refl
find_last (x ∷ rows) r p = grind (arith, find_last rows r p)

abbrev pub row_fresh : Addr → BranchId → Row
row_fresh a b = record { branch = fresh_branch (record { addr = a; branch = b }); live = true; ends = false }

-- what stands of a transaction with one more branch
pub begun_open : (t : Transaction) (a : Addr) (b : BranchId) (p : ℕ) → is_nil t.phase ≡ false → (a.node == p) ≡ false → open_now (record t { rows = t.rows ++ row_fresh a b ∷ [] }) p ≡ open_now t p
begun_open t a b p late ne = let f = find_last t.rows (row_fresh a b) p in go (find_row t.rows p) refl f
  where
    go : (o : Option Row) → find_row t.rows p ≡ o → find_row (t.rows ++ row_fresh a b ∷ []) p ≡ elim (find_row t.rows p) as (λ _. Option Row) [ None ↦ if a.node == p then Some (row_fresh a b) else None | Some x ↦ Some x ]
        → open_now (record t { rows = t.rows ++ row_fresh a b ∷ [] }) p ≡ open_now t p
    go None i f = let g : find_row (t.rows ++ row_fresh a b ∷ []) p ≡ None = f ∙ rw (i, ne) refl in grind (arith, late, g, i)
    go (Some x) i f = let g : find_row (t.rows ++ row_fresh a b ∷ []) p ≡ Some x = f ∙ rw i refl in grind (arith, late, g, i)

pub begun_id : (t : Transaction) (a : Addr) (b : BranchId) (p : ℕ) → (a.node == p) ≡ false → id_at (record t { rows = t.rows ++ row_fresh a b ∷ [] }) p ≡ id_at t p
begun_id t a b p ne = let f = find_last t.rows (row_fresh a b) p in go (find_row t.rows p) refl f
  where
    go : (o : Option Row) → find_row t.rows p ≡ o → find_row (t.rows ++ row_fresh a b ∷ []) p ≡ elim (find_row t.rows p) as (λ _. Option Row) [ None ↦ if a.node == p then Some (row_fresh a b) else None | Some x ↦ Some x ]
        → id_at (record t { rows = t.rows ++ row_fresh a b ∷ [] }) p ≡ id_at t p
    go None i f = let g : find_row (t.rows ++ row_fresh a b ∷ []) p ≡ None = f ∙ rw (i, ne) refl in rw (g, i, id_at) refl
    go (Some x) i f = let g : find_row (t.rows ++ row_fresh a b ∷ []) p ≡ Some x = f ∙ rw i refl in rw (g, i, id_at) refl

-- of the arc's own peer, which had no row
pub begun_row : (t : Transaction) (a : Addr) (b : BranchId) (p : ℕ) → (a.node == p) ≡ true → find_row t.rows p ≡ None → find_row (t.rows ++ row_fresh a b ∷ []) p ≡ Some (row_fresh a b)
begun_row t a b p at none = find_last t.rows (row_fresh a b) p ∙ rw (none, at) refl

pub free_row : (who : Who) (arcs : List Arc) (c : Current) (p : ℕ) → (situation_of (seen who arcs c) p).branch ≡ false → (find_row (seen_rows arcs c.branches) p ≡ None) × (is_under_at c.key p ≡ false)
unfolding situation_of
free_row who arcs c p h = go (find_row (seen_rows arcs c.branches) p) refl
  where
    go : (o : Option Row) → find_row (seen_rows arcs c.branches) p ≡ o → (find_row (seen_rows arcs c.branches) p ≡ None) × (is_under_at c.key p ≡ false)
    go None i = (i, grind (arith, h))
    go (Some x) i = absurd (grind (arith, h, i))

last_begun : (k : Option BranchKey) (ws : List DialogueRecord) (t : Aaid) (b : BranchId) (h : _) (v : BranchKey) → ws ≡ DialogueRecord.Begin t b h ∷ [] → b ≡ v.1 → v.0 ≡ t → last_from k ws ≡ Some v
last_begun k ws t b h v e f g = rw (e, f, ← g) refl

key_same_tree : (o u : Option Current) (p : ℕ) (t : Aaid) (v : BranchKey) → o ≡ u → key_at u p ≡ Some (t, v.1) → v.0 ≡ t → key_at o p ≡ Some v
key_same_tree o u p t v e h g = rw (e, g) h

same_branch : (o : Option Row) (r : Row) (u : Transaction) (p : ℕ) (v : BranchId) → find_row u.rows p ≡ Some r → id_at u p ≡ Some v → r.branch.id ≡ v
same_branch o r u p v f h = let one : Some r.branch.id ≡ Some v = rw (f, id_at) at h in cc (one)

never_live : (b : Bool) → b ≡ true → b ≡ false → ⊥
never_live true h i = absurd (cc (i))
never_live false h i = absurd (cc (h))

-- one Begin goes to the peer, over a live association to a subordinate
begun_to : (p : ℕ) (sup fall : Bool) (shut : ℕ) (s d : Digest) (m : Move) (t : Aaid) (b : BranchId) (h : _) → m.next.superior ≡ d.superior → is_live (link_with d.arcs p) ≡ true → words_to p m.outs ≡ DialogueRecord.Begin t b h ∷ [] → (sup ≡ true → ⊥)
    → under_at m.next.current p ≡ under_at d.current p → 1 + open_at d.current p ≤ open_at m.next.current p → ((ks : List BranchKey) (n : ℕ) → HasPlaceAt ks n d.current p → HasPlaceAt ks n m.next.current p)
    → ((k : Option BranchKey) (v : BranchKey) → key_at m.next.current p ≡ Some v → last_from k (words_to p m.outs) ≡ Some v) → IsHeard p sup fall shut s d m
begun_to p sup fall shut s d m t b i up live words down under more places last = record {
  superior = up;
  dead = λ h. absurd (never_live (is_live (link_with d.arcs p)) live h);
  back = λ h. live;
  dead_rows = λ h k. absurd (never_live (is_live (link_with d.arcs p)) live h);
  upward = λ h. absurd (down h);
  balance = λ h. rw words (none_left (under_at m.next.current p) (under_at d.current p) under);
  places = λ ks n h k. rw words (subst (λ (v : ℕ). HasPlaceAt ks v m.next.current p) (zero_plus 0 n refl) (places ks n k));
  opens = λ z h. rw words more;
  votes = λ ks rs n h. rw words refl;
  orders = λ k rs kn. rw words refl;
  knows = λ k h kn v r. last k v r;
  rollbacks = λ k g kn w v. rw words refl;
}

heard_begins : (who : Who) (e : Event) (d s : Digest) (q p : ℕ) (sup fall : Bool) (shut : ℕ) → Reads who e p sup fall shut s → d.superior ≡ s.superior → (is_live (link_with d.arcs p) ≡ true → is_live (link_with s.arcs p) ≡ true) → IsHeard p sup fall shut s d (begin_on who q d)
heard_begins who e d s q p sup fall shut reads same lives = begin_cases (IsHeard p sup fall shut s d) who q d still on
  where
    id : BranchId
    id = record { superior = who.site; mark = next_mark who d }

    still : IsHeard p sup fall shut s d (move [] d)
    still = hush p sup fall shut s d (move [] d) refl refl (λ h. h) refl

    on : (c : Current) (a : Arc) → d.current ≡ Some c → find_arc d.arcs q ≡ Some a → may_begin_on who d a ≡ true → IsHeard p sup fall shut s d (begun_over who q d c a)
    on c a now found may = at (q == p) refl
      where
        t : Transaction
        t = seen who d.arcs c

        u : Transaction
        u = record t { rows = t.rows ++ row_fresh a.peer id ∷ [] }

        word : DialogueRecord
        word = DialogueRecord.Begin (aaid_of c.key) id (named_holder a.dialogue)

        arcs : List Arc
        arcs = with_dialogue d.arcs q (begun_by (named_holder a.dialogue) Side.Superior)

        m : Move
        m = perform (TxOut.Carry q word ∷ []) (record (with_begun who (with_mark_drawn d) c (record { addr = a.peer; branch = id })) { arcs = arcs })

        peer : a.peer.node ≡ q
        peer = find_arc_is d.arcs q a found

        active : is_active c.phase ≡ true
        active = let h : is_active (phase_of d) ≡ true = grind (arith, may) in rw (now, phase_of) at h

        late : is_nil t.phase ≡ false
        late = grind (arith, active)

        agrees : Agrees p (is_live (link_with arcs p)) (TxOut.Carry q word ∷ []) m.outs (is_live (link_with m.next.arcs p))
        agrees = agrees_performed arcs (TxOut.Carry q word ∷ []) p refl

        link : link_with arcs p ≡ link_with d.arcs p
        link = link_dialogue d.arcs q (begun_by (named_holder a.dialogue) Side.Superior) p

        after : is_live (link_with m.next.arcs p) ≡ is_live (link_with d.arcs p)
        after = agrees.live ∙ ap is_live link

        under : under_at m.next.current p ≡ under_at d.current p
        under = under_left u p ∙ ap (λ (o : Option Current). under_at o p) (sym now)

        open_before : open_at d.current p ≡ open_now t p
        open_before = ap (λ (o : Option Current). open_at o p) now ∙ sym (open_seen who d.arcs c p)

        places : (ks : List BranchKey) (n : ℕ) → HasPlaceAt ks n d.current p → HasPlaceAt ks n m.next.current p
        places ks n h y b z k is l key v =
            let same_key : c.key ≡ y.key = grind (arith, is, late) in
            h c b z k now late (same_key ∙ key) (ap (λ (j : Key). is_under_at j p) same_key ∙ v)

        at : (v : Bool) → (q == p) ≡ v → IsHeard p sup fall shut s d m
        at false j =
            let none : words_to p m.outs ≡ [] = agrees.words ∙ grind (arith, j) in
            let ne : (a.peer.node == p) ≡ false = ap (λ (n : ℕ). n == p) peer ∙ j in
            let back : (v : BranchKey) → key_at m.next.current p ≡ Some v → key_at d.current p ≡ Some v = λ v r.
            (let left = key_left u p v r in
            let was : id_at t p ≡ Some v.1 = sym (begun_id t a.peer id p ne) ∙ left.0 in
            key_same_tree d.current (Some c) p (aaid_of c.key) v now (id_seen who d.arcs c p v.1 late was) left.1) in
            hush_other p sup fall shut s d m refl none after under (at_most_same (open_at d.current p) (open_at m.next.current p) (open_before ∙ sym (open_left u p ∙ begun_open t a.peer id p late ne))) places back
        at true j =
            let ep : q ≡ p = grind (arith, nat_tests, j) in
            let here : a.peer.node ≡ p = peer ∙ ep in
            let eq : (a.peer.node == p) ≡ true = ap (λ (n : ℕ). n == p) peer ∙ j in
            let live_arc : is_live a.link ≡ true = grind (arith, may) in
            let live : is_live (link_with d.arcs p) ≡ true = ap (λ (n : ℕ). is_live (link_with d.arcs n)) (sym ep) ∙ ap (λ (o : Option Arc). is_live (link_of o)) found ∙ live_arc in
            let words : words_to p m.outs ≡ word ∷ [] = agrees.words ∙ ap (λ (v : Bool). spoken v p (TxOut.Carry q word ∷ [])) (ap is_live link ∙ live) ∙ grind (arith, j) in
            let free_sit : (situation_at who d a.peer.node).branch ≡ false = grind (arith, may) in
            let free : (situation_of t p).branch ≡ false = ap (λ (n : ℕ). (situation_of t n).branch) (sym here) ∙ (rw (now, situation_at) at free_sit) in
            let empty = free_row who d.arcs c p free in
            let row : find_row u.rows p ≡ Some (row_fresh a.peer id) = begun_row t a.peer id p eq empty.0 in
            let down : sup ≡ true → ⊥ = λ h.
            let up : is_superior d p ≡ true = ap (λ (o : Option Addr). is_superior (record d { superior = o }) p) same ∙ reads.is_superior_so h (lives live) in
            let no_up : is_superior d a.peer.node ≡ false = grind (arith, may) in
            absurd (cc (up, no_up, here)) in
            begun_to p sup fall shut s d m (aaid_of c.key) id (named_holder a.dialogue) refl live words down under (one_more (open_least row empty)) places
            (λ k v r. let left = key_left u p v r in last_begun k (words_to p m.outs) (aaid_of c.key) id (named_holder a.dialogue) v words (same_branch None (row_fresh a.peer id) u p v.1 row left.0) left.1)
          where
            one_more : 1 + open_now t p ≤ open_now u p → 1 + open_at d.current p ≤ open_at m.next.current p
            one_more h = rw (open_before, open_left u p) h

            open_least : find_row u.rows p ≡ Some (row_fresh a.peer id) → (find_row (seen_rows d.arcs c.branches) p ≡ None) × (is_under_at c.key p ≡ false) → 1 + open_now t p ≤ open_now u p
            open_least row empty = grind (arith, late, row, empty)

-- ---- the steps

pub nil_under : (d : Digest) (p : ℕ) → is_nil (phase_of d) ≡ true → (under_at d.current p ≡ 0) × (open_at d.current p ≡ 0) × (key_at d.current p ≡ None)
nil_under d p h = go d.current refl
  where
    go : (o : Option Current) → d.current ≡ o → (under_at o p ≡ 0) × (open_at o p ≡ 0) × (key_at o p ≡ None)
    go None i = (refl, refl, refl)
    go (Some c) i = let nil : is_nil c.phase ≡ true = rw (i, phase_of) at h in (rw nil refl, rw nil refl, rw nil refl)

heard_root : (who : Who) (p : ℕ) (sup fall : Bool) (shut : ℕ) (s d : Digest) (a : Aaid) (m : Move) → is_nil (phase_of d) ≡ true
    → IsHeard p sup fall shut s (record (with_mark_drawn d) { current = Some (fresh_current (Root a)) }) m → IsHeard p sup fall shut s d m
heard_root who p sup fall shut s d a m nil one =
    let z = nil_under d p nil in
    record {
      superior = one.superior;
      dead = one.dead;
      back = one.back;
      dead_rows = λ h k. one.dead_rows h refl;
      upward = one.upward;
      balance = λ h. one.balance h ∙ sym z.0;
      places = λ ks n h q. one.places ks n h (λ c b y w is late key u. absurd (rooted c b y w is key));
      opens = λ c h. subst (λ (v : ℕ). length (begun_keys (words_to p m.outs)) + v ≤ open_at m.next.current p) (sym z.1) (one.opens c h);
      votes = λ ks rs n h. one.votes ks rs n (λ c b y w is late key u. absurd (rooted c b y w is key));
      orders = λ k rs kn. one.orders k rs (λ v h. absurd (cc (h)));
      knows = λ k h kn. one.knows k h (λ v q. absurd (cc (q)));
      rollbacks = λ k g kn u v. one.rollbacks k g (λ w q. absurd (cc (q))) u v;
    }
  where
    rooted : (c : Current) (b : Aaid) (y : BranchId) (w : Addr) → Some (fresh_current (Root a)) ≡ Some c → c.key ≡ Under b y w → ⊥
    rooted c b y w is key =
        let same : fresh_current (Root a) ≡ c = cc (is) in
        let k : Root a ≡ Under b y w = ap (λ (x : Current). x.key) same ∙ key in
        absurd (cc (k))

heard_arcs : (p : ℕ) (sup fall : Bool) (shut : ℕ) (s d g : Digest) (m : Move) → g.superior ≡ d.superior → g.current ≡ d.current → (is_live (link_with g.arcs p) ≡ true → is_live (link_with d.arcs p) ≡ true)
    → IsHeard p sup fall shut s g m → IsHeard p sup fall shut s d m
heard_arcs p sup fall shut s d g m up same live one = record {
  superior = one.superior ∙ up;
  dead = λ h. one.dead (off (is_live (link_with g.arcs p)) refl h);
  back = λ h. live (one.back h);
  dead_rows = λ h k. one.dead_rows (off (is_live (link_with g.arcs p)) refl h) (ap (λ (o : Option Current). key_at o p) same ∙ k);
  upward = one.upward;
  balance = λ h. one.balance h ∙ ap (λ (o : Option Current). under_at o p) same;
  places = λ ks n h q. one.places ks n h (subst (λ (o : Option Current). HasPlaceAt ks n o p) (sym same) q);
  opens = λ c h. subst (λ (o : Option Current). length (begun_keys (words_to p m.outs)) + open_at o p ≤ open_at m.next.current p) same (one.opens c h);
  votes = λ ks rs n h. one.votes ks rs n (subst (λ (o : Option Current). HasPlaceAt ks n o p) (sym same) h);
  orders = λ k rs kn. one.orders k rs (subst (λ (o : Option Current). KnowsAt k o p) (sym same) kn);
  knows = λ k h kn. one.knows k h (subst (λ (o : Option Current). KnowsAt k o p) (sym same) kn);
  rollbacks = λ k g1 kn u v. one.rollbacks k g1 (subst (λ (o : Option Current). KnowsAt k o p) (sym same) kn) u v;
}
  where
    off : (b : Bool) → is_live (link_with g.arcs p) ≡ b → is_live (link_with d.arcs p) ≡ false → is_live (link_with g.arcs p) ≡ false
    off false i h = i
    off true i h = absurd (cc (h, live i))

pub dropped_live : (arcs : List Arc) (q p : ℕ) → is_live (link_with (without_arc arcs q) p) ≡ true → is_live (link_with arcs p) ≡ true
dropped_live arcs q p h = go (q == p) refl
  where
    go : (b : Bool) → (q == p) ≡ b → is_live (link_with arcs p) ≡ true
    go true i = let gone : link_with (without_arc arcs q) p ≡ Idle = link_without arcs q p ∙ rw i refl in absurd (cc (h, ap is_live gone))
    go false i = let same : link_with (without_arc arcs q) p ≡ link_with arcs p = link_without arcs q p ∙ rw i refl in ap is_live (sym same) ∙ h

pub heard_moves : (who : Who) (e : Event) (s : Digest) (p : ℕ) (sup fall : Bool) (shut : ℕ) → Reads who e p sup fall shut s
    → Moves who e s (λ d m. d.superior ≡ s.superior → (is_live (link_with d.arcs p) ≡ true → is_live (link_with s.arcs p) ≡ true) → IsHeard p sup fall shut s d m)
heard_moves who e s p sup fall shut reads = record {
  still = λ d up lives. hush p sup fall shut s d (move [] d) refl refl (λ h. h) refl;
  chain = λ d a f one two quiet up lives. let x = one up lives in heard_then p sup fall shut s d a f x (two (x.superior ∙ up) (λ h. lives (x.back h))) quiet;
  speaks = λ d outs h own said up lives. hush_perform p sup fall shut s d outs h;
  changes_dialogue = λ d q f m by one up lives.
      let same : link_with (with_dialogue d.arcs q f) p ≡ link_with d.arcs p = link_dialogue d.arcs q f p in
      heard_arcs p sup fall shut s d (record d { arcs = with_dialogue d.arcs q f }) m refl refl (λ h. ap is_live (sym same) ∙ h) (one up (λ h. lives (ap is_live (sym same) ∙ h)));
  drops_arc = λ d q m at one up lives. heard_arcs p sup fall shut s d (record d { arcs = without_arc d.arcs q }) m refl refl (λ h. dropped_live d.arcs q p h) (one up (λ h. lives (dropped_live d.arcs q p h)));
  notes_kept = λ d ks m held one up lives. heard_arcs p sup fall shut s d (record d { kept = ks }) m refl refl (λ h. h) (one up lives);
  keeps = λ d k f held up lives. hush_keep p sup fall shut s d k f;
  turns = λ d c f now at asked put gone up lives. heard_turned who e f d s c p sup fall shut reads now at asked put gone;
  begins = λ d q free up lives. heard_begins who e d s q p sup fall shut reads up lives;
  roots = λ d m nil may one up lives. heard_root who p sup fall shut s d (record { owner = who.site; mark = next_mark who d }) m nil (one up lives);
}

-- every accepted event, from its prelude on
pub heard_event : (who : Who) (d : Digest) (e : Event) (p : ℕ) (sup fall : Bool) (shut : ℕ) → IsLate d → refusal who d e ≡ None → Reads who e p sup fall shut (prelude who d e)
    → IsHeard p sup fall shut (prelude who d e) (prelude who d e) (action who d e)
heard_event who d e p sup fall shut late ok reads =
    every_move who d e (λ g m. g.superior ≡ (prelude who d e).superior → (is_live (link_with g.arcs p) ≡ true → is_live (link_with (prelude who d e).arcs p) ≡ true) → IsHeard p sup fall shut (prelude who d e) g m)
    (heard_moves who e (prelude who d e) p sup fall shut reads) late ok refl (λ h. h)
