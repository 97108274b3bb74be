-- What is said or heard on a dialogue by itself, outside transactions: what it makes of the dialogue, and nothing else.
use Rattle.tp_history_state.proofs.Vocabulary.{if◌then◌else◌, ◌≡◌, ℕ, Bool, true, false, refl, ap, sym, subst, ◌∙◌, arith, Option, Some, None, List, [], ◌∷◌, ◌++◌, ◌||◌, ◌==◌, not, nat_tests, Mark, Addr, Request, Indication, DialogueRecord, PeerRecord, TxOut, Origin, Event, Entry, Dialogue, Arc, Digest, with_one_taken, Sight, Acts, Nothing_happens, Out_of_phase, Asked, Ask_end, Ask_data, Ask_error, Ask_abort, Ask_grant, Ask_control, Ask_handshake, Ask_respond, Ask_handshake_grant, Ask_begin, Ask_defer_end, Ask_defer_grant, Ask_prepare, Heard, Hear_end, Hear_data, Hear_error, Hear_grant, Hear_control, Hear_handshake, Hear_handshake_grant, Hear_response, Hear_defer_end, Hear_defer_grant, said, heard, woken, find_arc, is_live_with_peer, with_dialogue, with_link, carried, acts, Move, move, perform, is_response, sight_at, take_record, woken_by, take_on, refusal, action, digest, rolls, said_to, acting_from, said_by, heard_by, part_at, keeps_taken, keeps_performed, said_carried, the, find_arc_is, on_none, on_live, plain_arrival, said_append}
use Rattle.std.proofs.lemmas.List.{append-nil}
use Rattle.tp_history_state.proofs.handshakes.Touches.{Touch, Waking, Saying, Hearing, run, IsMade, made_keeps, made_then, made_after, made_performed, made_dialogue, when}

abbrev pub is_put_off_ask : Asked → Bool
is_put_off_ask Ask_defer_end = true
is_put_off_ask Ask_defer_grant = true
is_put_off_ask _ = false

abbrev pub is_put_off_heard : Heard → Bool
is_put_off_heard Hear_defer_end = true
is_put_off_heard Hear_defer_grant = true
is_put_off_heard _ = false

-- nothing but a deferral is said there, or heard
abbrev pub says_none : Event → ℕ → Bool
says_none e p = elim (said_by e) [ None ↦ true | Some v ↦ not (v.0 == p) || is_put_off_ask v.1 ]

abbrev pub hears_none : Event → ℕ → Bool
hears_none e p = elim (heard_by e) [ None ↦ true | Some v ↦ not (v.0 == p) || is_put_off_heard v.1 ]

-- the record with which it is said
abbrev pub Speaks : Asked → DialogueRecord → Type 0
Speaks Ask_end r = ⊥
Speaks Ask_data r = (xs : List ℕ) × (r ≡ DialogueRecord.UserData xs)
Speaks Ask_error r = r ≡ DialogueRecord.UError
Speaks Ask_abort r = ⊥
Speaks Ask_grant r = r ≡ DialogueRecord.Grant
Speaks Ask_control r = r ≡ DialogueRecord.AskControl
Speaks Ask_handshake r = r ≡ DialogueRecord.Handshake
Speaks Ask_respond r = r ≡ DialogueRecord.Response
Speaks Ask_handshake_grant r = r ≡ DialogueRecord.HandshakeGrant
Speaks Ask_begin r = ⊥
Speaks Ask_defer_end r = ⊥
Speaks Ask_defer_grant r = ⊥
Speaks Ask_prepare r = ⊥

abbrev pub Tells : Heard → DialogueRecord → Type 0
Tells Hear_end r = ⊥
Tells Hear_data r = (xs : List ℕ) × (r ≡ DialogueRecord.UserData xs)
Tells Hear_error r = r ≡ DialogueRecord.UError
Tells Hear_grant r = r ≡ DialogueRecord.Grant
Tells Hear_control r = r ≡ DialogueRecord.AskControl
Tells Hear_handshake r = r ≡ DialogueRecord.Handshake
Tells Hear_handshake_grant r = r ≡ DialogueRecord.HandshakeGrant
Tells Hear_response r = r ≡ DialogueRecord.Response
Tells Hear_defer_end r = ⊥
Tells Hear_defer_grant r = ⊥

pub record TalkSo (o : Origin) (p : ℕ) (h : List Entry) (e : Event) (m : Move) (ts : List Touch) (v : Option DialogueRecord) (rs : List DialogueRecord) : Type 0 where
  pub live : is_live_with_peer (digest o h).arcs p ≡ true
  pub made : (g : Dialogue → Bool) → part_at g p m.next.arcs ≡ part_at (λ x. g (run ts x)) p (digest o h).arcs
  pub acting : acting_from o p e h ≡ v
  pub says : said_to p m.outs ≡ rs
  pub quiet : m.rec ≡ None
  pub stays : rolls o.who (digest o h) e ≡ false

pub data Talk (o : Origin) (p : ℕ) (h : List Entry) (e : Event) (m : Move) : Type 0 where
  Speaks_there : (a : Asked) (r : DialogueRecord) → Speaks a r → said_by e ≡ Some (p, a) → TalkSo o p h e m (Saying a ∷ []) None (r ∷ []) → Talk o p h e m
  Hears_there : (k : Heard) (r : DialogueRecord) (w b : Bool) → Tells k r → heard_by e ≡ Some (p, k) → TalkSo o p h e m (when w (Waking ∷ []) ++ when b (Hearing k ∷ [])) (if b then Some r else None) [] → Talk o p h e m
  Silent : says_none e p ≡ true → hears_none e p ≡ true → Talk o p h e m

-- ---- what a request says

speaks_at : (o : Origin) (p : ℕ) (h : List Entry) (u : Request) (q : ℕ) (a : Asked) (r : DialogueRecord) → Speaks a r → said_by (Event.Do u) ≡ Some (q, a) → rolls o.who (digest o h) (Event.Do u) ≡ false
    → action o.who (digest o h) (Event.Do u) ≡ perform (TxOut.Carry q r ∷ []) (record (digest o h) { arcs = with_dialogue (digest o h).arcs q (said a) }) → says_none (Event.Do u) p ≡ (not (q == p) || is_put_off_ask a) → hears_none (Event.Do u) p ≡ true
    → is_live_with_peer (action o.who (digest o h) (Event.Do u)).next.arcs p ≡ true → Talk o p h (Event.Do u) (action o.who (digest o h) (Event.Do u))
speaks_at o p h u q a r speaks by stays is none hear live = go (q == p) refl
  where
    d : Digest
    d = digest o h

    xs : List Arc
    xs = with_dialogue d.arcs q (said a)

    m : Move
    m = perform (TxOut.Carry q r ∷ []) (record d { arcs = xs })

    now : is_live_with_peer m.next.arcs p ≡ true
    now = ap (λ (k : Move). is_live_with_peer k.next.arcs p) (sym is) ∙ live

    go : (b : Bool) → (q == p) ≡ b → Talk o p h (Event.Do u) (action o.who (digest o h) (Event.Do u))
    go false i = Silent (none ∙ rw i refl) hear
    go true i =
        let at : q ≡ p = grind (arith, nat_tests, i) in
        let first : IsMade p d.arcs xs (Saying a ∷ []) = subst (λ (b : Bool). IsMade p d.arcs xs (if b then Saying a ∷ [] else [])) i (made_dialogue p d.arcs q (said a) (Saying a) (λ x. refl)) in
        let all = made_after p d.arcs xs m.next.arcs (Saying a ∷ []) first (made_performed p xs (TxOut.Carry q r ∷ [])) now in
        let there : is_live_with_peer xs q ≡ true = ap (is_live_with_peer xs) at ∙ (keeps_performed (λ x. true) p xs (TxOut.Carry q r ∷ []) now).0 in
        subst (λ (k : Move). Talk o p h (Event.Do u) k) (sym is)
        (Speaks_there a r speaks (by ∙ ap (λ (n : ℕ). Some (n, a)) at) (record {
          live = all.0;
          made = all.1;
          acting = refl;
          says = said_append p (carried xs q r).1 [] ∙ append-nil (said_to p (carried xs q r).1) ∙ said_carried p xs q r ∙ rw (i, there) refl;
          quiet = refl;
          stays = stays;
        }))

-- ---- what a record makes heard

hears_at : (o : Origin) (p : ℕ) (h : List Entry) (from : Addr) (x y : Mark) (q : ℕ) (r : DialogueRecord) (k : Heard) (i : (n : ℕ) → Indication) → Tells k r → heard_by (the from x y q r) ≡ Some (from.node, k) → rolls o.who (digest o h) (the from x y q r) ≡ false
    → ((a : Arc) (u : Digest) → take_record o.who a r u ≡ perform (TxOut.Tell (i a.peer.node) ∷ []) (record u { arcs = with_dialogue u.arcs a.peer.node (heard k) })) → hears_none (the from x y q r) p ≡ (not (from.node == p) || is_put_off_heard k)
    → refusal o.who (digest o h) (the from x y q r) ≡ None → is_live_with_peer (action o.who (digest o h) (the from x y q r)).next.arcs p ≡ true → Talk o p h (the from x y q r) (action o.who (digest o h) (the from x y q r))
hears_at o p h from x y q r k i tells by stays takes none ok live = go (from.node == p) refl
  where
    d : Digest
    d = digest o h

    e : Event
    e = the from x y q r

    m : Move
    m = action o.who d e

    there : (a : Arc) → find_arc d.arcs from.node ≡ Some a → (from.node == p) ≡ true → Talk o p h e m
    there a found self = on (sight_at o.who d a r) refl (is_response r) refl
      where
        n : ℕ
        n = a.peer.node

        at : from.node ≡ p
        at = grind (arith, nat_tests, self)

        peer : n ≡ p
        peer = find_arc_is d.arcs from.node a found ∙ at

        eq : (n == p) ≡ true
        eq = grind (arith, nat_tests, peer)

        here : find_arc d.arcs p ≡ Some a
        here = ap (find_arc d.arcs) (sym at) ∙ found

        was : is_live_with_peer d.arcs p ≡ true
        was = ap (is_live_with_peer d.arcs) (sym at) ∙ on_live o.who d from x y q r (plain_arrival o.who d from (PeerRecord.OnAssoc x y q r) ok)

        g : Digest
        g = record d { arcs = with_link d.arcs n with_one_taken }

        u : Digest
        u = woken_by r n g

        acting : (b : Bool) → acts (sight_at o.who d a r) ≡ b → acting_from o p e h ≡ (if b then Some r else None)
        acting b j = rw (self, acting_from) (rw (here, j) refl)

        counted : IsMade p d.arcs g.arcs []
        counted = made_keeps p d.arcs g.arcs (λ f. keeps_taken f p d.arcs n)

        woke : (b : Bool) → is_response r ≡ b → IsMade p g.arcs u.arcs (when (not b) (Waking ∷ []))
        woke true j = let same : u ≡ g = rw (j, woken_by) refl in subst (λ (z : Digest). IsMade p g.arcs z.arcs []) (sym same) (made_keeps p g.arcs g.arcs (λ f l. (l, refl)))
        woke false j =
            let one : IsMade p g.arcs (with_dialogue g.arcs n woken) (Waking ∷ []) = subst (λ (b : Bool). IsMade p g.arcs (with_dialogue g.arcs n woken) (if b then Waking ∷ [] else [])) eq (made_dialogue p g.arcs n woken Waking (λ z. refl)) in
            let same : u ≡ record g { arcs = with_dialogue g.arcs n woken } = rw (j, woken_by) refl in
            subst (λ (z : Digest). IsMade p g.arcs z.arcs (Waking ∷ [])) (sym same) one

        first : (b : Bool) → is_response r ≡ b → IsMade p d.arcs u.arcs (when (not b) (Waking ∷ []))
        first b j = made_then p d.arcs g.arcs u.arcs [] (when (not b) (Waking ∷ [])) counted (woke b j)

        is : m ≡ take_on o.who a r d
        is = ap (λ (v : Option Arc). elim v as (λ _. Move) [ None ↦ move [] d | Some z ↦ take_on o.who z r d ]) found

        taken : (v : Sight) → sight_at o.who d a r ≡ v → m ≡ elim v as (λ _. Move) [ Acts ↦ take_record o.who a r u | Nothing_happens ↦ move [] u | Out_of_phase ↦ move [] u ]
        taken v j = is ∙ ap (λ (s : Sight). elim s as (λ _. Move) [ Acts ↦ take_record o.who a r u | Nothing_happens ↦ move [] u | Out_of_phase ↦ move [] u ]) j

        by_there : heard_by e ≡ Some (p, k)
        by_there = by ∙ ap (λ (c : ℕ). Some (c, k)) at

        still : (b : Bool) → is_response r ≡ b → m ≡ move [] u → acts (sight_at o.who d a r) ≡ false → Talk o p h e m
        still b j same off =
            Hears_there k r (not b) false tells by_there (record {
              live = was;
              made = λ f. ap (λ (z : Move). part_at f p z.next.arcs) same ∙ (first b j (ap (λ (z : Move). is_live_with_peer z.next.arcs p) (sym same) ∙ live)).1 f ∙ more f (not b);
              acting = acting false off;
              says = ap (λ (z : Move). said_to p z.outs) same;
              quiet = ap (λ (z : Move). z.rec) same;
              stays = stays;
            })
          where
            more : (f : Dialogue → Bool) (w : Bool) → part_at (λ z. f (run (when w (Waking ∷ [])) z)) p d.arcs ≡ part_at (λ z. f (run (when w (Waking ∷ []) ++ []) z)) p d.arcs
            more f true = refl
            more f false = refl

        on : (v : Sight) → sight_at o.who d a r ≡ v → (b : Bool) → is_response r ≡ b → Talk o p h e m
        on Acts j b l =
            let same : m ≡ perform (TxOut.Tell (i n) ∷ []) (record u { arcs = with_dialogue u.arcs n (heard k) }) = taken Acts j ∙ takes a u in
            let ys : List Arc = with_dialogue u.arcs n (heard k) in
            let last : IsMade p u.arcs ys (Hearing k ∷ []) = subst (λ (c : Bool). IsMade p u.arcs ys (if c then Hearing k ∷ [] else [])) eq (made_dialogue p u.arcs n (heard k) (Hearing k) (λ z. refl)) in
            let all = made_then p d.arcs u.arcs ys (when (not b) (Waking ∷ [])) (Hearing k ∷ []) (first b l) last (ap (λ (z : Move). is_live_with_peer z.next.arcs p) (sym same) ∙ live) in
            Hears_there k r (not b) true tells by_there (record {
              live = was;
              made = λ f. ap (λ (z : Move). part_at f p z.next.arcs) same ∙ all.1 f;
              acting = acting true (ap acts j);
              says = ap (λ (z : Move). said_to p z.outs) same;
              quiet = ap (λ (z : Move). z.rec) same;
              stays = stays;
            })
        on Nothing_happens j b l = still b l (taken Nothing_happens j) (ap acts j)
        on Out_of_phase j b l = still b l (taken Out_of_phase j) (ap acts j)

    some : (v : Option Arc) → find_arc d.arcs from.node ≡ v → (from.node == p) ≡ true → Talk o p h e m
    some None j self = absurd (on_none o.who d from x y q r (plain_arrival o.who d from (PeerRecord.OnAssoc x y q r) ok) j)
    some (Some a) j self = there a j self

    go : (b : Bool) → (from.node == p) ≡ b → Talk o p h e m
    go true self = some (find_arc d.arcs from.node) refl self
    go false off = Silent refl (none ∙ rw off refl)

-- ---- every accepted event

pub talk_of : (o : Origin) (p : ℕ) (h : List Entry) (e : Event) → refusal o.who (digest o h) e ≡ None → is_live_with_peer (action o.who (digest o h) e).next.arcs p ≡ true → Talk o p h e (action o.who (digest o h) e)
talk_of o p h (Event.Do (Request.UserData q xs)) ok live = speaks_at o p h (Request.UserData q xs) q Ask_data (DialogueRecord.UserData xs) (xs, refl) refl refl refl refl refl live
talk_of o p h (Event.Do (Request.UError q)) ok live = speaks_at o p h (Request.UError q) q Ask_error DialogueRecord.UError refl refl refl refl refl refl live
talk_of o p h (Event.Do (Request.Grant q)) ok live = speaks_at o p h (Request.Grant q) q Ask_grant DialogueRecord.Grant refl refl refl refl refl refl live
talk_of o p h (Event.Do (Request.AskControl q)) ok live = speaks_at o p h (Request.AskControl q) q Ask_control DialogueRecord.AskControl refl refl refl refl refl refl live
talk_of o p h (Event.Do (Request.Handshake q)) ok live = speaks_at o p h (Request.Handshake q) q Ask_handshake DialogueRecord.Handshake refl refl refl refl refl refl live
talk_of o p h (Event.Do (Request.Respond q)) ok live = speaks_at o p h (Request.Respond q) q Ask_respond DialogueRecord.Response refl refl refl refl refl refl live
talk_of o p h (Event.Do (Request.HandshakeGrant q)) ok live = speaks_at o p h (Request.HandshakeGrant q) q Ask_handshake_grant DialogueRecord.HandshakeGrant refl refl refl refl refl refl live
talk_of o p h (Event.Do (Request.DeferEnd q)) ok live = Silent (last (q == p)) refl
  where
    last : (b : Bool) → (not b || true) ≡ true
    last b = grind arith
talk_of o p h (Event.Do (Request.DeferGrant q)) ok live = Silent (last (q == p)) refl
  where
    last : (b : Bool) → (not b || true) ≡ true
    last b = grind arith
talk_of o p h (Event.Arrive from (PeerRecord.OnAssoc x y q (DialogueRecord.UserData xs))) ok live = hears_at o p h from x y q (DialogueRecord.UserData xs) Hear_data (λ n. Indication.UserData n xs) (xs, refl) refl refl (λ a u. refl) refl ok live
talk_of o p h (Event.Arrive from (PeerRecord.OnAssoc x y q DialogueRecord.UError)) ok live = hears_at o p h from x y q DialogueRecord.UError Hear_error (λ n. Indication.UError n) refl refl refl (λ a u. refl) refl ok live
talk_of o p h (Event.Arrive from (PeerRecord.OnAssoc x y q DialogueRecord.Grant)) ok live = hears_at o p h from x y q DialogueRecord.Grant Hear_grant (λ n. Indication.Grant n) refl refl refl (λ a u. refl) refl ok live
talk_of o p h (Event.Arrive from (PeerRecord.OnAssoc x y q DialogueRecord.AskControl)) ok live = hears_at o p h from x y q DialogueRecord.AskControl Hear_control (λ n. Indication.AskControl n) refl refl refl (λ a u. refl) refl ok live
talk_of o p h (Event.Arrive from (PeerRecord.OnAssoc x y q DialogueRecord.Handshake)) ok live = hears_at o p h from x y q DialogueRecord.Handshake Hear_handshake (λ n. Indication.Handshake n) refl refl refl (λ a u. refl) refl ok live
talk_of o p h (Event.Arrive from (PeerRecord.OnAssoc x y q DialogueRecord.HandshakeGrant)) ok live = hears_at o p h from x y q DialogueRecord.HandshakeGrant Hear_handshake_grant (λ n. Indication.HandshakeGrant n) refl refl refl (λ a u. refl) refl ok live
talk_of o p h (Event.Arrive from (PeerRecord.OnAssoc x y q DialogueRecord.Response)) ok live = hears_at o p h from x y q DialogueRecord.Response Hear_response (λ n. Indication.HandshakeConfirm n) refl refl refl (λ a u. refl) refl ok live
talk_of o p h (Event.Arrive from (PeerRecord.OnAssoc x y q DialogueRecord.DeferEnd)) ok live = Silent refl (last (from.node == p))
  where
    last : (b : Bool) → (not b || true) ≡ true
    last b = grind arith
talk_of o p h (Event.Arrive from (PeerRecord.OnAssoc x y q DialogueRecord.DeferGrant)) ok live = Silent refl (last (from.node == p))
  where
    last : (b : Bool) → (not b || true) ≡ true
    last b = grind arith
talk_of o p h _ ok live = Silent refl refl
