-- The prelude of an event, and the events that give or take control, at the end that faces the superior.
use Rattle.std.proofs.Common.{if◌then◌else◌, ◌≡◌, ◌⊎◌, inl, inr, ℕ, Bool, true, false, refl, ap, sym, subst, ◌∙◌, arith, Option, Some, None, List, [], ◌∷◌, ◌++◌, ◌&&◌, ◌||◌, ◌==◌, not}
use Rattle.std.proofs.lemmas.Bool.Decides.{nat_tests}
use Rattle.tp_names.specs.declared.identifiers.Mark.{Mark}
use Rattle.tp_names.specs.declared.identifiers.Aaid.{Aaid}
use Rattle.tp_names.specs.declared.identifiers.BranchId.{BranchId}
use Rattle.tp_names.specs.declared.identifiers.Addr.{Addr}
use Rattle.tp_records.specs.declared.request.Request.{Request}
use Rattle.tp_records.specs.declared.indication.Indication.{Indication}
use Rattle.tp_records.specs.declared.dialogue.DialogueRecord.{DialogueRecord}
use Rattle.tp_records.specs.declared.dialogue.Holder.{Holder}
use Rattle.tp_records.specs.declared.peer.PeerRecord.{PeerRecord}
use Rattle.tp_model.specs.declared.arc.Phase.{Phase}
use Rattle.tp_model.specs.declared.arc.Side.{Side}
use Rattle.tp_model.specs.declared.transaction.TxEvent.{TxEvent}
use Rattle.tp_model.specs.declared.transaction.TxOut.{TxOut}
use Rattle.tp_model.specs.Parts.{Who, Event, Link, Idle, Opening, Offered, Live, Dialogue, Arc, Key, Under, Branch, Current, Digest}
use Rattle.tp_model.specs.Links.{is_live, with_one_taken}
use Rattle.tp_model.specs.Dialogues.{is_nil, is_active, is_late, is_polarized, is_chained, has_handshake, is_due, is_silenced, acts_or_out, refused_on_arc, Ask_grant, Ask_handshake_grant, Sight, Acts, Nothing_happens, Out_of_phase, Heard, Hear_grant, Hear_handshake_grant, arrived, said, heard, woken, begun_by, fresh_dialogue}
use Rattle.tp_model.specs.Arcs.{find_arc, link_of, link_with, put_arc, with_dialogue, with_link, carried}
use Rattle.tp_model.specs.Transactions.{Transaction, is_under_at, row_holds, situation_of, transacted}
use Rattle.tp_model.specs.Node.{Move, move, perform, next_mark, superior_arc, seen, situation_at, fresh_current, may_begin_on, begin_on, begin_each, chained_peers, remaining}
use Rattle.tp_model.specs.Requests.{refused_request}
use Rattle.tp_model.specs.Arrivals.{sight_of, sight_at, take_begin, take_record, is_response, woken_by, take_on, refused_arrival}
use Rattle.tp_model.specs.Questions.{said_to}
use Rattle.tp_model.specs.Events.{refusal, verdict, action, after_crash}
use Rattle.tp_steps.specs.Moves.{IsLate, prelude, called, accepted_by, accepted_on, linked, begun_in, counted_in}
use Rattle.tp_steps.specs.Facts.{find_branch}
use Rattle.tp_control.specs.Holding.{is_holding, holding_at, IsPastHolding}
use Rattle.std.proofs.lemmas.List.{append-nil}
use Rattle.tp_steps.proofs.every.EveryRecord.{find_arc_is, on_none, begin_acts}
use Rattle.tp_steps.proofs.every.EveryEvent.{plain_request, plain_arrival}
use Rattle.tp_steps.proofs.links.Links.{said_append, link_dialogue}
use Rattle.tp_steps.proofs.links.Wrapped.{said_carried}
use Rattle.tp_control.proofs.Holding.{Gains, gains_then, none_gained, gains_dialogue, holding_carried, woken_gains, bare_rows}
use Rattle.tp_steps.proofs.every.BeginCases.{begun_over, begin_cases}

-- ---- arcs

holding_link : (arcs : List Arc) (q : ℕ) (f : Link → Link) (p : ℕ) → holding_at p (with_link arcs q f) ≡ holding_at p arcs
holding_link [] q f p = refl
holding_link (a ∷ arcs) q f p = grind (arith, holding_link arcs q f p)

holding_append : (arcs : List Arc) (a : Arc) (p : ℕ) → is_live a.link ≡ false → is_live (link_with (arcs ++ a ∷ []) p) ≡ true → holding_at p (arcs ++ a ∷ []) ≡ holding_at p arcs
holding_append [] a p dead live = absurd (grind (arith, dead, live))
holding_append (b ∷ arcs) a p dead live = go (b.peer.node == p) refl (holding_append arcs a p dead)
  where
    go : (c : Bool) → (b.peer.node == p) ≡ c → (is_live (link_with (arcs ++ a ∷ []) p) ≡ true → holding_at p (arcs ++ a ∷ []) ≡ holding_at p arcs) → holding_at p (b ∷ arcs ++ a ∷ []) ≡ holding_at p (b ∷ arcs)
    go true i rest = grind (arith, i)
    go false i rest = let k = rest (grind (arith, i, live)) in grind (arith, i, k)

link_appended : (arcs : List Arc) (a : Arc) (p : ℕ) → is_live a.link ≡ false → is_live (link_with (arcs ++ a ∷ []) p) ≡ true → link_with (arcs ++ a ∷ []) p ≡ link_with arcs p
link_appended [] a p dead live = absurd (grind (arith, dead, live))
link_appended (b ∷ arcs) a p dead live = go (b.peer.node == p) refl (link_appended arcs a p dead)
  where
    go : (c : Bool) → (b.peer.node == p) ≡ c → (is_live (link_with (arcs ++ a ∷ []) p) ≡ true → link_with (arcs ++ a ∷ []) p ≡ link_with arcs p) → link_with (b ∷ arcs ++ a ∷ []) p ≡ link_with (b ∷ arcs) p
    go true i rest = grind (arith, i)
    go false i rest = let k = rest (grind (arith, i, live)) in grind (arith, i, k)

put_other : (arcs : List Arc) (b : Arc) (p : ℕ) → (b.peer.node == p) ≡ false → (holding_at p (put_arc arcs b) ≡ holding_at p arcs) × (link_with (put_arc arcs b) p ≡ link_with arcs p)
put_other [] b p h = (refl, refl)
put_other (a ∷ arcs) b p h = let rest = put_other arcs b p h in (grind (arith, nat_tests, h, rest), grind (arith, nat_tests, h, rest))

put_none : (arcs : List Arc) (b : Arc) (p : ℕ) → (b.peer.node == p) ≡ true → is_holding b.dialogue ≡ false → holding_at p (put_arc arcs b) ≡ false
put_none [] b p h none = refl
put_none (a ∷ arcs) b p h none = grind (arith, nat_tests, h, none, put_none arcs b p h none)

fresh_none : (u : ℕ) → is_holding (fresh_dialogue u Side.Subordinate) ≡ false
fresh_none u = grind arith

-- ---- the prelude

-- the peer's arc is as it was, but for a record taken, or is new and holds no control
pub data Prepared (p : ℕ) (d s : Digest) : Type 0 where
  Stays_there : Gains false p d.arcs s.arcs → (link_with s.arcs p ≡ link_with d.arcs p) ⊎ (link_with s.arcs p ≡ with_one_taken (link_with d.arcs p)) → Prepared p d s
  Holds_none : holding_at p s.arcs ≡ false → Prepared p d s

same_there : (p : ℕ) (d s : Digest) → holding_at p s.arcs ≡ holding_at p d.arcs → link_with s.arcs p ≡ link_with d.arcs p → Prepared p d s
same_there p d s same link = Stays_there (λ h. rw (sym same ∙ h) refl) (inl link)

counted_there : (d : Digest) (from : Addr) (p : ℕ) → Prepared p d (counted_in d from)
counted_there d from p = Stays_there (λ h. rw (sym (holding_link d.arcs from.node with_one_taken p) ∙ h) refl) (counted d.arcs from.node)
  where
    counted : (arcs : List Arc) (q : ℕ) → (link_with (with_link arcs q with_one_taken) p ≡ link_with arcs p) ⊎ (link_with (with_link arcs q with_one_taken) p ≡ with_one_taken (link_with arcs p))
    counted [] q = inl refl
    counted (a ∷ arcs) q = go (a.peer.node == q) refl (a.peer.node == p) refl (counted arcs q)
      where
        go : (b : Bool) → (a.peer.node == q) ≡ b → (c : Bool) → (a.peer.node == p) ≡ c → (link_with (with_link arcs q with_one_taken) p ≡ link_with arcs p) ⊎ (link_with (with_link arcs q with_one_taken) p ≡ with_one_taken (link_with arcs p))
            → (link_with (with_link (a ∷ arcs) q with_one_taken) p ≡ link_with (a ∷ arcs) p) ⊎ (link_with (with_link (a ∷ arcs) q with_one_taken) p ≡ with_one_taken (link_with (a ∷ arcs) p))
        go true i true j rest = inr (grind (arith, i, j))
        go true i false j rest = inl (grind (arith, i, j))
        go false i true j rest = inl (grind (arith, i, j))
        go false i false j (inl k) = inl (grind (arith, i, j, k))
        go false i false j (inr k) = inr (grind (arith, i, j, k))

accepted_there : (who : Who) (d : Digest) (u p : ℕ) (o : Option Arc) → superior_arc d ≡ o → Prepared p d (accepted_by who u o d)
accepted_there who d u p None i = same_there p d d refl refl
accepted_there who d u p (Some a) i = on a.link
  where
    on : (l : Link) → Prepared p d (accepted_on who u a l d)
    on Idle = same_there p d d refl refl
    on (Opening x) = same_there p d d refl refl
    on (Live x y s t) = same_there p d d refl refl
    on (Offered x) = go (a.peer.node == p) refl
      where
        new : Arc
        new = record a { link = Live x (next_mark who d) 0 0; dialogue = fresh_dialogue u Side.Subordinate }

        go : (b : Bool) → (a.peer.node == p) ≡ b → Prepared p d (accepted_on who u a (Offered x) d)
        go true j = Holds_none (put_none d.arcs new p j (fresh_none u))
        go false j = let o = put_other d.arcs new p j in same_there p d (accepted_on who u a (Offered x) d) o.0 o.1

linked_there : (who : Who) (d : Digest) (from : Addr) (x y : Mark) (u p : ℕ) → refusal who d (Event.Arrive from (PeerRecord.AcceptAssoc x y u)) ≡ None → ((z : Mark) → link_with d.arcs p ≡ Opening z → ⊥) → (o : Option Arc) → find_arc d.arcs from.node ≡ o → Prepared p d (linked o x y u d)
unfolding refusal verdict refused_arrival
linked_there who d from x y u p ok shut None i = same_there p d d refl refl
linked_there who d from x y u p ok shut (Some a) i = go (a.peer.node == p) refl
  where
    new : Arc
    new = record a { link = Live x y 0 0; dialogue = fresh_dialogue u Side.Superior }

    opening : (l : Link) → a.link ≡ l → (z : Mark) × (a.link ≡ Opening z)
    opening (Opening z) j = (z, j)
    opening Idle j = absurd (grind (arith, ok, i, j))
    opening (Offered z) j = absurd (grind (arith, ok, i, j))
    opening (Live z w s t) j = absurd (grind (arith, ok, i, j))

    go : (b : Bool) → (a.peer.node == p) ≡ b → Prepared p d (linked (Some a) x y u d)
    go false j = let o = put_other d.arcs new p j in same_there p d (linked (Some a) x y u d) o.0 o.1
    go true j =
        let node : from.node ≡ p = sym (find_arc_is d.arcs from.node a i) ∙ grind (arith, nat_tests, j) in
        let z = opening a.link refl in
        absurd (shut z.0 (ap (λ (n : ℕ). link_with d.arcs n) (sym node) ∙ ap link_of i ∙ z.1))

pub prepared : (who : Who) (d : Digest) (e : Event) (p : ℕ) → refusal who d e ≡ None → ((z : Mark) → link_with d.arcs p ≡ Opening z → ⊥) → is_live (link_with (prelude who d e).arcs p) ≡ true → Prepared p d (prelude who d e)
unfolding after_crash
prepared who d (Event.Declare s) p ok shut live = same_there p d _ refl refl
prepared who d (Event.Do (Request.BeginDialogue a u)) p ok shut live =
    let new : Arc = record { peer = a; link = Opening (next_mark who d); dialogue = fresh_dialogue u Side.Superior } in
    same_there p d (called who a u d) (holding_append d.arcs new p refl live) (link_appended d.arcs new p refl live)
prepared who d (Event.Do (Request.Accept u)) p ok shut live = accepted_there who d u p (superior_arc d) refl
prepared who d (Event.Do r) p ok shut live = other r
  where
    other : (r : Request) → Prepared p d d
    other r = same_there p d d refl refl
prepared who d (Event.Arrive from (PeerRecord.OpenAssoc x u)) p ok shut live = go (from.node == p) refl
  where
    new : Arc
    new = record { peer = from; link = Offered x; dialogue = fresh_dialogue u Side.Subordinate }

    go : (b : Bool) → (from.node == p) ≡ b → Prepared p d (record d { arcs = new ∷ d.arcs })
    go true i = let none = fresh_none u in Holds_none (grind (arith, i, none))
    go false i = same_there p d (record d { arcs = new ∷ d.arcs }) (grind (arith, i)) (grind (arith, i))
prepared who d (Event.Arrive from (PeerRecord.AcceptAssoc x y u)) p ok shut live = linked_there who d from x y u p ok shut (find_arc d.arcs from.node) refl
prepared who d (Event.Arrive from (PeerRecord.OnAssoc x y q (DialogueRecord.Begin t b h))) p ok shut live = go (find_arc d.arcs from.node)
  where
    go : (o : Option Arc) → Prepared p d (begun_in o t b (counted_in d from))
    go None = counted_there d from p
    go (Some a) = begun (counted_there d from p)
      where
        begun : Prepared p d (counted_in d from) → Prepared p d (begun_in (Some a) t b (counted_in d from))
        begun (Stays_there g l) = Stays_there g l
        begun (Holds_none n) = Holds_none n
prepared who d (Event.Arrive from (PeerRecord.OnAssoc x y q r)) p ok shut live = counted_there d from p
prepared who d Event.Crash p ok shut live = absurd (cc (live))
prepared who d _ p ok shut live = same_there p d d refl refl

-- ---- a request that gives control

holding_changed : (arcs : List Arc) (q : ℕ) (f : Dialogue → Dialogue) (a : Arc) → find_arc arcs q ≡ Some a → (holding_at q (with_dialogue arcs q f) ≡ is_holding (f a.dialogue)) × (holding_at q arcs ≡ is_holding a.dialogue)
holding_changed [] q f a h = absurd cc
holding_changed (b ∷ arcs) q f a h = go (b.peer.node == q) refl (holding_changed arcs q f a)
  where
    go : (c : Bool) → (b.peer.node == q) ≡ c → (find_arc arcs q ≡ Some a → (holding_at q (with_dialogue arcs q f) ≡ is_holding (f a.dialogue)) × (holding_at q arcs ≡ is_holding a.dialogue))
        → (holding_at q (with_dialogue (b ∷ arcs) q f) ≡ is_holding (f a.dialogue)) × (holding_at q (b ∷ arcs) ≡ is_holding a.dialogue)
    go true i rest = let same : Some b ≡ Some a = grind (arith, h, i) in let is : b ≡ a = cc (same) in (grind (arith, i, is), grind (arith, i, is))
    go false i rest = let k = rest (grind (arith, h, i)) in (grind (arith, i, k), grind (arith, i, k))

pub record Gave (q : ℕ) (r : DialogueRecord) (d : Digest) (m : Move) : Type 0 where
  pub before : holding_at q d.arcs ≡ true
  pub after : holding_at q m.next.arcs ≡ false
  pub said : said_to q m.outs ≡ r ∷ []

gave_there : (d : Digest) (q : ℕ) (f : Dialogue → Dialogue) (r : DialogueRecord) (a : Arc) → find_arc d.arcs q ≡ Some a → is_live a.link ≡ true → is_holding a.dialogue ≡ true → is_holding (f a.dialogue) ≡ false
    → Gave q r d (perform (TxOut.Carry q r ∷ []) (record d { arcs = with_dialogue d.arcs q f }))
gave_there d q f r a i live before after =
    let arcs : List Arc = with_dialogue d.arcs q f in
    let at = holding_changed d.arcs q f a i in
    let link : is_live (link_with arcs q) ≡ true = ap is_live (link_dialogue d.arcs q f q ∙ ap link_of i) ∙ live in
    record {
      before = at.1 ∙ before;
      after = holding_carried arcs q r q ∙ at.0 ∙ after;
      said = said_append q (carried arcs q r).1 [] ∙ append-nil (said_to q (carried arcs q r).1) ∙ said_carried arcs q r q ∙ said_if link;
    }
  where
    said_if : is_live (link_with (with_dialogue d.arcs q f) q) ≡ true → (if (q == q) && is_live (link_with (with_dialogue d.arcs q f) q) then r ∷ [] else []) ≡ r ∷ []
    said_if live = grind (arith, nat_tests, live)

pub gave_grant : (who : Who) (d : Digest) (q : ℕ) → refusal who d (Event.Do (Request.Grant q)) ≡ None → Gave q DialogueRecord.Grant d (action who d (Event.Do (Request.Grant q)))
unfolding refused_request refused_on_arc said
gave_grant who d q ok = go (find_arc d.arcs q) refl
  where
    plain : refused_request who d (Request.Grant q) ≡ None
    plain = plain_request who d (Request.Grant q) ok

    go : (o : Option Arc) → find_arc d.arcs q ≡ o → Gave q DialogueRecord.Grant d (action who d (Event.Do (Request.Grant q)))
    go None i = absurd (grind (arith, i, plain))
    go (Some a) i = gave_there d q (said Ask_grant) DialogueRecord.Grant a i (grind (arith, i, plain)) (grind (arith, i, plain)) (grind (arith, i, plain))

pub gave_handshake : (who : Who) (d : Digest) (q : ℕ) → refusal who d (Event.Do (Request.HandshakeGrant q)) ≡ None → Gave q DialogueRecord.HandshakeGrant d (action who d (Event.Do (Request.HandshakeGrant q)))
unfolding refused_request refused_on_arc said
gave_handshake who d q ok = go (find_arc d.arcs q) refl
  where
    plain : refused_request who d (Request.HandshakeGrant q) ≡ None
    plain = plain_request who d (Request.HandshakeGrant q) ok

    go : (o : Option Arc) → find_arc d.arcs q ≡ o → Gave q DialogueRecord.HandshakeGrant d (action who d (Event.Do (Request.HandshakeGrant q)))
    go None i = absurd (grind (arith, i, plain))
    go (Some a) i = gave_there d q (said Ask_handshake_grant) DialogueRecord.HandshakeGrant a i (grind (arith, i, plain)) (grind (arith, i, plain)) (grind (arith, i, plain))

-- ---- a record that gives control

pub silenced : (who : Who) (d : Digest) (p : ℕ) (c : Current) → d.current ≡ Some c → is_under_at c.key p ≡ true → is_active c.phase ≡ false → is_nil c.phase ≡ false → find_branch c.branches p ≡ None → is_silenced (situation_at who d p) ≡ true
unfolding situation_of
silenced who d p c now under done late bare = rw (now, situation_at) there
  where
    rows : (f : Branch → Bool) → row_holds (seen who d.arcs c).rows p f ≡ false
    rows f = bare_rows d.arcs c.branches p bare f

    past : is_late c.phase ≡ true
    past = late_so c.phase done late
      where
        late_so : (x : Phase) → is_active x ≡ false → is_nil x ≡ false → is_late x ≡ true
        late_so Phase.Nil h i = absurd (cc (i))
        late_so Phase.Active h i = absurd (cc (h))
        late_so Phase.Ready h i = refl
        late_so Phase.Committing h i = refl
        late_so Phase.Rolling h i = refl

    ended : row_holds (seen who d.arcs c).rows p (λ b. b.ended) ≡ false
    ended = rows (λ b. b.ended)

    left : row_holds (seen who d.arcs c).rows p (λ b. b.left) ≡ false
    left = rows (λ b. b.left)

    there : is_silenced (situation_of (seen who d.arcs c) p) ≡ true
    there = grind (arith, under, past, ended, left)

-- what it leaves: nothing is said, and a transaction past work has heard nothing
pub record Took_control (p : ℕ) (d : Digest) (m : Move) : Type 0 where
  pub none : said_to p m.outs ≡ []
  pub current : m.next.current ≡ d.current
  pub past : IsPastHolding p d → IsPastHolding p m.next

took_on : (who : Who) (a : Arc) (r : DialogueRecord) (h : Heard) (i : Indication) (d : Digest) (p : ℕ) → a.peer.node ≡ p → is_response r ≡ false → ((u : Digest) → take_record who a r u ≡ perform (TxOut.Tell i ∷ []) (record u { arcs = with_dialogue u.arcs a.peer.node (heard h) }))
    → (sight_at who d a r ≡ Acts → is_silenced (situation_at who d a.peer.node) ≡ false) → IsLate d → ((c : Current) → d.current ≡ Some c → find_branch c.branches p ≡ None) → Took_control p d (take_on who a r d)
took_on who a r h i d p node word takes acts late bare = go (sight_at who d a r) refl
  where
    n : ℕ
    n = a.peer.node

    g : Digest
    g = record d { arcs = with_link d.arcs n with_one_taken }

    u : Digest
    u = record g { arcs = with_dialogue g.arcs n woken }

    woken_is : woken_by r n g ≡ u
    woken_is = rw word refl

    lowers : Gains false p d.arcs u.arcs
    lowers = gains_then false p d.arcs g.arcs u.arcs (λ k. rw (sym (holding_link d.arcs n with_one_taken p) ∙ k) refl) (gains_dialogue false g.arcs n woken p (λ same x k. woken_gains x false k))

    quiet : Took_control p d (move [] u)
    quiet = record { none = refl; current = refl; past = λ old c is under done. none_gained p d.arcs u.arcs lowers (old c is under done) }

    heard_now : sight_at who d a r ≡ Acts → Took_control p d (perform (TxOut.Tell i ∷ []) (record u { arcs = with_dialogue u.arcs n (heard h) }))
    heard_now act = record { none = refl; current = refl; past = λ old c is under done. absurd (heard_late c is under done) }
      where
        heard_late : (c : Current) → d.current ≡ Some c → is_under_at c.key p ≡ true → is_active c.phase ≡ false → ⊥
        heard_late c is under done =
            let s : is_silenced (situation_at who d a.peer.node) ≡ true = ap (λ (k : ℕ). is_silenced (situation_at who d k)) node ∙ silenced who d p c is under done (late c is) (bare c is) in
            cc (s, acts act)

    go : (v : Sight) → sight_at who d a r ≡ v → Took_control p d (elim v as (λ _. Move) [ Acts ↦ take_record who a r (woken_by r n g) | Nothing_happens ↦ move [] (woken_by r n g) | Out_of_phase ↦ move [] (woken_by r n g) ])
    go Acts j = subst (λ (x : Digest). Took_control p d (take_record who a r x)) (sym woken_is) (subst (λ (m : Move). Took_control p d m) (sym (takes u)) (heard_now j))
    go Nothing_happens j = subst (λ (x : Digest). Took_control p d (move [] x)) (sym woken_is) quiet
    go Out_of_phase j = subst (λ (x : Digest). Took_control p d (move [] x)) (sym woken_is) quiet

pub took_grant : (who : Who) (d : Digest) (from : Addr) (x y : Mark) (q p : ℕ) → from.node ≡ p → IsLate d → ((c : Current) → d.current ≡ Some c → find_branch c.branches p ≡ None) → Took_control p d (action who d (Event.Arrive from (PeerRecord.OnAssoc x y q DialogueRecord.Grant)))
unfolding sight_of arrived
took_grant who d from x y q p node late bare = go (find_arc d.arcs from.node) refl
  where
    go : (o : Option Arc) → find_arc d.arcs from.node ≡ o → Took_control p d (elim o as (λ _. Move) [ None ↦ move [] d | Some a ↦ take_on who a DialogueRecord.Grant d ])
    go None i = record { none = refl; current = refl; past = λ old. old }
    go (Some a) i =
        took_on who a DialogueRecord.Grant Hear_grant (Indication.Grant a.peer.node) d p (find_arc_is d.arcs from.node a i ∙ node) refl (λ u. refl)
        (λ act. acted (is_silenced (situation_at who d a.peer.node)) (a.dialogue.holds || (is_chained a.dialogue && not (situation_at who d a.peer.node).branch) || not (is_polarized a.dialogue)) (rests a.dialogue.rests act)) late bare
      where
        rests : (b : Bool) → (if b && false then Nothing_happens else sight_of who d a DialogueRecord.Grant) ≡ Acts → sight_of who d a DialogueRecord.Grant ≡ Acts
        rests true h = h
        rests false h = h

        acted : (b c : Bool) → (if b then Nothing_happens else acts_or_out (not c)) ≡ Acts → b ≡ false
        acted true c h = absurd (cc (h))
        acted false c h = refl

pub took_handshake : (who : Who) (d : Digest) (from : Addr) (x y : Mark) (q p : ℕ) → from.node ≡ p → IsLate d → ((c : Current) → d.current ≡ Some c → find_branch c.branches p ≡ None) → Took_control p d (action who d (Event.Arrive from (PeerRecord.OnAssoc x y q DialogueRecord.HandshakeGrant)))
unfolding sight_of arrived
took_handshake who d from x y q p node late bare = go (find_arc d.arcs from.node) refl
  where
    go : (o : Option Arc) → find_arc d.arcs from.node ≡ o → Took_control p d (elim o as (λ _. Move) [ None ↦ move [] d | Some a ↦ take_on who a DialogueRecord.HandshakeGrant d ])
    go None i = record { none = refl; current = refl; past = λ old. old }
    go (Some a) i =
        took_on who a DialogueRecord.HandshakeGrant Hear_handshake_grant (Indication.HandshakeGrant a.peer.node) d p (find_arc_is d.arcs from.node a i ∙ node) refl (λ u. refl)
        (λ act. acted (is_silenced (situation_at who d a.peer.node)) (a.dialogue.holds || (is_chained a.dialogue && not (situation_at who d a.peer.node).branch) || not (is_polarized a.dialogue) || not (has_handshake a.dialogue) || is_due a.dialogue.due) (rests a.dialogue.rests act)) late bare
      where
        rests : (b : Bool) → (if b && false then Nothing_happens else sight_of who d a DialogueRecord.HandshakeGrant) ≡ Acts → sight_of who d a DialogueRecord.HandshakeGrant ≡ Acts
        rests true h = h
        rests false h = h

        acted : (b c : Bool) → (if b then Nothing_happens else acts_or_out (not c)) ≡ Acts → b ≡ false
        acted true c h = absurd (cc (h))
        acted false c h = refl

-- ---- a transaction that the superior begins

pub record IsActiveAs (k : Key) (d : Digest) : Type 0 where
  pub now : Current
  pub is : d.current ≡ Some now
  pub key : now.key ≡ k
  pub active : is_active now.phase ≡ true

active_remaining : (t : Transaction) (k : Key) (d : Digest) → d.current ≡ remaining t → t.key ≡ k → is_active t.phase ≡ true → IsActiveAs k d
active_remaining t k d is key act = go (remaining t) refl
  where
    go : (o : Option Current) → remaining t ≡ o → IsActiveAs k d
    go None i = absurd (grind (arith, i, act))
    go (Some c) i =
        let same : c.key ≡ t.key = grind (arith, i) in
        let phase : c.phase ≡ t.phase = grind (arith, i) in
        record { now = c; is = is ∙ i; key = same ∙ key; active = ap is_active phase ∙ act }

active_begin : (who : Who) (q : ℕ) (k : Key) (d : Digest) → IsActiveAs k d → IsActiveAs k (begin_on who q d).next
active_begin who q k d old = begin_cases (λ (m : Move). IsActiveAs k m.next) who q d old on
  where
    on : (c : Current) (a : Arc) → d.current ≡ Some c → find_arc d.arcs q ≡ Some a → may_begin_on who d a ≡ true → IsActiveAs k (begun_over who q d c a).next
    on c a now found may =
        let same : old.now ≡ c = cc (sym old.is ∙ now) in
        active_remaining (transacted (TxEvent.Begun (record { addr = a.peer; branch = record { superior = who.site; mark = next_mark who d } } ∷ [])) (seen who d.arcs c)).next k _ refl (ap (λ (x : Current). x.key) (sym same) ∙ old.key) (ap (λ (x : Current). is_active x.phase) (sym same) ∙ old.active)

active_each : (who : Who) (qs : List ℕ) (k : Key) (d : Digest) → IsActiveAs k d → IsActiveAs k (begin_each who qs d).next
active_each who [] k d old = old
active_each who (q ∷ qs) k d old = active_each who qs k (begin_on who q d).next (active_begin who q k d old)

pub record Took_begin (d : Digest) (from : Addr) (s : Digest) (m : Move) : Type 0 where
  pub key : Key
  pub begun : s.current ≡ Some (fresh_current key)
  pub active : IsActiveAs key m.next

pub took_begin : (who : Who) (d : Digest) (from : Addr) (x y : Mark) (q : ℕ) (t : Aaid) (b : BranchId) (h : Holder) → refusal who d (Event.Arrive from (PeerRecord.OnAssoc x y q (DialogueRecord.Begin t b h))) ≡ None
    → Took_begin d from (prelude who d (Event.Arrive from (PeerRecord.OnAssoc x y q (DialogueRecord.Begin t b h)))) (action who d (Event.Arrive from (PeerRecord.OnAssoc x y q (DialogueRecord.Begin t b h))))
unfolding take_begin
took_begin who d from x y q t b h ok = go (find_arc d.arcs from.node) refl
  where
    r : DialogueRecord
    r = DialogueRecord.Begin t b h

    plain : refused_arrival who d from (PeerRecord.OnAssoc x y q r) ≡ None
    plain = plain_arrival who d from (PeerRecord.OnAssoc x y q r) ok

    go : (o : Option Arc) → find_arc d.arcs from.node ≡ o → Took_begin d from (begun_in o t b (counted_in d from)) (elim o as (λ _. Move) [ None ↦ move [] d | Some a ↦ take_on who a r d ])
    go None i = absurd (on_none who d from x y q r plain i)
    go (Some a) i = record { key = Under t b a.peer; begun = refl; active = subst (λ (m : Move). IsActiveAs (Under t b a.peer) m.next) (sym is) (active_each who (chained_peers who v) (Under t b a.peer) v fresh) }
      where
        g : Digest
        g = record d { arcs = with_link d.arcs a.peer.node with_one_taken }

        u : Digest
        u = woken_by r a.peer.node g

        v : Digest
        v = record u { arcs = with_dialogue u.arcs a.peer.node (begun_by h Side.Subordinate); current = Some (fresh_current (Under t b a.peer)) }

        fresh : IsActiveAs (Under t b a.peer) v
        fresh = record { now = fresh_current (Under t b a.peer); is = refl; key = refl; active = refl }

        acts : sight_at who d a r ≡ Acts
        acts = begin_acts who d from x y q t b h a plain i (sight_at who d a r) refl

        is : take_on who a r d ≡ take_begin who a t b h u
        is = ap (λ (w : Sight). elim w as (λ _. Move) [ Acts ↦ take_record who a r (woken_by r a.peer.node g) | Nothing_happens ↦ move [] (woken_by r a.peer.node g) | Out_of_phase ↦ move [] (woken_by r a.peer.node g) ]) acts
