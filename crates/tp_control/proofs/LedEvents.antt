-- The prelude of an event, and the events that give control to a branch, take it back, or answer, at the superior end.
use Rattle.std.proofs.Common.{if◌then◌else◌, ◌≡◌, ◌≤◌, ◌+◌, ◌⊎◌, inl, inr, ℕ, suc, Bool, true, false, refl, ap, sym, subst, ◌∙◌, arith, Option, Some, None, List, [], ◌∷◌, ◌++◌, ◌&&◌, ◌||◌, ◌==◌, not}
use Rattle.std.proofs.lemmas.Bool.Decides.{nat_tests}
use Rattle.std.proofs.lemmas.List.{append-nil, append_assoc}
use Rattle.tp_units.specs.Units.{has_bit, bad_bit}
use Rattle.tp_names.specs.declared.identifiers.Mark.{Mark}
use Rattle.tp_names.specs.declared.identifiers.Addr.{Addr}
use Rattle.tp_records.specs.declared.request.Request.{Request}
use Rattle.tp_records.specs.declared.indication.Indication.{Indication}
use Rattle.tp_records.specs.declared.dialogue.DialogueRecord.{DialogueRecord}
use Rattle.tp_records.specs.declared.peer.PeerRecord.{PeerRecord}
use Rattle.tp_model.specs.declared.arc.Phase.{Phase}
use Rattle.tp_model.specs.declared.arc.Side.{Side}
use Rattle.tp_model.specs.declared.arc.Situation.{Situation}
use Rattle.tp_model.specs.declared.transaction.TxEvent.{TxEvent}
use Rattle.tp_model.specs.declared.transaction.TxOut.{TxOut}
use Rattle.tp_model.specs.Parts.{Who, Event, Link, Idle, Opening, Offered, Live, Dialogue, Arc, Branch, Current, Digest}
use Rattle.tp_model.specs.Links.{is_live, with_one_taken}
use Rattle.tp_model.specs.Dialogues.{is_nil, is_active, is_late, is_rolling, is_polarized, is_chained, Ask_grant, Ask_handshake_grant, Sight, Acts, Nothing_happens, Out_of_phase, Heard, Hear_grant, Hear_handshake_grant, said, heard, woken, cleared, fresh_dialogue, refused_on_arc}
use Rattle.tp_model.specs.Arcs.{find_arc, link_of, link_with, put_arc, with_dialogue, with_link}
use Rattle.tp_model.specs.Transactions.{is_under_at, row_holds, situation_of, sight_of_tx, transacted}
use Rattle.tp_model.specs.Node.{Move, move, followed, perform, next_mark, is_superior, superior_arc, phase_of, seen_rows, seen, idle_situation, situation_at, is_leaving, is_over, passed, turned, transact, try_start, remaining, started_next}
use Rattle.tp_model.specs.Requests.{refused_request}
use Rattle.tp_model.specs.Arrivals.{sight_of, sight_at, take_record, is_response, woken_by, take_on, refused_arrival}
use Rattle.tp_model.specs.Questions.{said_to, is_at}
use Rattle.tp_model.specs.Events.{refusal, verdict, action, after_crash}
use Rattle.tp_steps.specs.Turns.{loses}
use Rattle.tp_steps.specs.Moves.{IsPut, IsLate, prelude, called, accepted_by, accepted_on, linked, begun_in, counted_in}
use Rattle.tp_steps.specs.Facts.{find_branch, Reads}
use Rattle.tp_steps.specs.Ends.{are_separate}
use Rattle.tp_steps.specs.Control.{rounds}
use Rattle.tp_histories.specs.Control.{closed, closes_down, begun_behind}
use Rattle.tp_control.specs.Control.{given, is_giving}
use Rattle.tp_control.specs.Holding.{is_holding}
use Rattle.tp_control.specs.Leading.{opens, lags, is_sound, of_branch, has_branch, dialogue_at, begun, IsKept, IsLed}
use Rattle.tp_steps.proofs.every.EveryRecord.{find_arc_is}
use Rattle.tp_steps.proofs.every.EveryEvent.{plain_request}
use Rattle.tp_steps.proofs.links.Links.{said_append}
use Rattle.tp_steps.proofs.every.Preludes.{superior_found}
use Rattle.tp_histories.proofs.trees.Knowing.{Came, As_it_was, By_begin, By_crash}
use Rattle.tp_histories.proofs.marks.Separate.{thins_dialogue, thins_taken, thins_turned}
use Rattle.tp_control.proofs.Counting.{behind_past, behind_next}
use Rattle.tp_control.proofs.HoldingEvents.{gave_grant, gave_handshake}
use Rattle.tp_control.proofs.LedWords.{given_later}
use Rattle.tp_steps.proofs.upward.Answering.{rounds_append, flag_append}
use Rattle.tp_control.proofs.LedTurned.{was_performed, found_of, dialogue_is, one_or_none, at_most_one, over_nil, led_turned}
use Rattle.tp_control.proofs.LedMoves.{Softens, led_mute, softens_dialogue, softens_woken, IsCalm, led_start}

-- ---- more was taken

-- nothing was given ahead of the round that is not answered
pub nothing_ahead : (p : ℕ) (d : Digest) (sent : List DialogueRecord) (c r : ℕ) → IsLed p d sent c r → given (suc c) sent ≡ 0
nothing_ahead p d sent c r old = go (of_branch false lags d.current p) refl
  where
    lag_has : (o : Option Current) (p : ℕ) → of_branch false lags o p ≡ true → (has_branch o p ≡ true) × (of_branch false opens o p ≡ false)
    lag_has None p h = absurd (cc (h))
    lag_has (Some c) p h = on (find_branch c.branches p) refl
      where
        on : (b : Option Branch) → find_branch c.branches p ≡ b → (has_branch (Some c) p ≡ true) × (of_branch false opens (Some c) p ≡ false)
        on None j = absurd (grind (arith, h, j))
        on (Some b) j = (grind (arith, h, j), grind (arith, h, j))

    go : (x : Bool) → of_branch false lags d.current p ≡ x → given (suc c) sent ≡ 0
    go false i =
        let le : closed sent ≤ c + 0 = subst (λ (x : Bool). closed sent ≤ c + (if x then 1 else 0)) i old.ahead in
        behind_past is_giving closes_down begun_behind false (suc c) sent (omega (arith, le))
    go true i =
        let le : closed sent ≤ c + 1 = subst (λ (x : Bool). closed sent ≤ c + (if x then 1 else 0)) i old.ahead in
        let has = lag_has d.current p i in
        given_later sent (closed sent) (suc c) (omega (arith, le)) (old.quiet has.0 (old.open_now ∙ has.1))

-- as many rounds are answered, and no less came back; or one more
pub led_later : (p : ℕ) (d : Digest) (sent : List DialogueRecord) (c r c' r' : ℕ) → (c' ≡ c) × (r ≤ r') ⊎ (c' ≡ suc c) → IsLed p d sent c r → IsLed p d sent c' r'
led_later p d sent c r c' r' (inl more) old = record {
  sound = old.sound;
  open_now = old.open_now;
  ahead = subst (λ (k : ℕ). closed sent ≤ k + (if of_branch false lags d.current p then 1 else 0)) (sym more.0) old.ahead;
  quiet = old.quiet;
  kept = λ g at. let k = old.kept g at in record {
    control = λ pol. wider (given c' sent) (given c sent) (is_holding g) (ap (λ (n : ℕ). given n sent) more.0) (k.control pol);
    chained = k.chained;
    whole = k.whole;
  };
}
  where
    wider : (n m : ℕ) (x : Bool) → n ≡ m → m + (if x then 1 else 0) ≤ suc r → n + (if x then 1 else 0) ≤ suc r'
    wider n m true i le = let most = more.1 in omega (arith, i, le, most)
    wider n m false i le = let most = more.1 in omega (arith, i, le, most)
led_later p d sent c r c' r' (inr next) old = record {
  sound = old.sound;
  open_now = old.open_now;
  ahead = wide (of_branch false lags d.current p) old.ahead;
  quiet = old.quiet;
  kept = λ g at. let k = old.kept g at in record { control = λ pol. at_most_one (is_holding g) (given c' sent) r' nothing; chained = k.chained; whole = k.whole };
}
  where
    wide : (x : Bool) → closed sent ≤ c + (if x then 1 else 0) → closed sent ≤ c' + (if x then 1 else 0)
    wide true le = omega (arith, le, next)
    wide false le = omega (arith, le, next)

    nothing : given c' sent ≡ 0
    nothing = ap (λ (n : ℕ). given n sent) next ∙ nothing_ahead p d sent c r old

-- ---- the prelude

-- the peer's arc has the dialogue that it had, or is new
pub data Readied (p : ℕ) (d s : Digest) : Type 0 where
  Had_it : ((b : Arc) → find_arc s.arcs p ≡ Some b → (a : Arc) × (find_arc d.arcs p ≡ Some a) × (b.dialogue ≡ a.dialogue)) → (link_with s.arcs p ≡ link_with d.arcs p) ⊎ (link_with s.arcs p ≡ with_one_taken (link_with d.arcs p)) → Readied p d s
  Is_new : (u : ℕ) (z : Mark) → bad_bit u ≡ None → link_with d.arcs p ≡ Opening z → ((b : Arc) → find_arc s.arcs p ≡ Some b → b.dialogue ≡ fresh_dialogue u Side.Superior) → Readied p d s

had_same : (p : ℕ) (d s : Digest) → find_arc s.arcs p ≡ find_arc d.arcs p → Readied p d s
had_same p d s same = Had_it (λ b found. (b, sym same ∙ found, refl)) (inl (ap link_of same))

find_append : (arcs : List Arc) (a : Arc) (p : ℕ) → is_live a.link ≡ false → is_live (link_with (arcs ++ a ∷ []) p) ≡ true → find_arc (arcs ++ a ∷ []) p ≡ find_arc arcs p
find_append [] a p dead live = absurd (grind (arith, dead, live))
find_append (b ∷ arcs) a p dead live = go (b.peer.node == p) refl (find_append arcs a p dead)
  where
    go : (c : Bool) → (b.peer.node == p) ≡ c → (is_live (link_with (arcs ++ a ∷ []) p) ≡ true → find_arc (arcs ++ a ∷ []) p ≡ find_arc arcs p) → find_arc (b ∷ arcs ++ a ∷ []) p ≡ find_arc (b ∷ arcs) p
    go true i rest = grind (arith, i)
    go false i rest = let k = rest (grind (arith, i, live)) in grind (arith, i, k)

find_put_other : (arcs : List Arc) (b : Arc) (p : ℕ) → (b.peer.node == p) ≡ false → find_arc (put_arc arcs b) p ≡ find_arc arcs p
find_put_other [] b p h = refl
find_put_other (a ∷ arcs) b p h = grind (arith, nat_tests, h, find_put_other arcs b p h)

find_put_here : (arcs : List Arc) (b : Arc) (p : ℕ) (c : Arc) → (b.peer.node == p) ≡ true → find_arc (put_arc arcs b) p ≡ Some c → c ≡ b
find_put_here [] b p c h i = absurd (cc (i))
find_put_here (a ∷ arcs) b p c h i = go (a.peer.node == b.peer.node) refl (find_put_here arcs b p c h)
  where
    go : (x : Bool) → (a.peer.node == b.peer.node) ≡ x → (find_arc (put_arc arcs b) p ≡ Some c → c ≡ b) → c ≡ b
    go true j rest = let is : Some b ≡ Some c = grind (arith, i, j, h) in cc (is)
    go false j rest = let other : (a.peer.node == p) ≡ false = grind (arith, nat_tests, h, j) in rest (grind (arith, i, j, other))

counted_arc : (arcs : List Arc) (q p : ℕ) (b : Arc) → find_arc (with_link arcs q with_one_taken) p ≡ Some b → (a : Arc) × (find_arc arcs p ≡ Some a) × (b.dialogue ≡ a.dialogue)
counted_arc [] q p b h = absurd (cc (h))
counted_arc (a ∷ arcs) q p b h = go (a.peer.node == q) refl (a.peer.node == p) refl (counted_arc arcs q p b)
  where
    go : (x : Bool) → (a.peer.node == q) ≡ x → (y : Bool) → (a.peer.node == p) ≡ y → (find_arc (with_link arcs q with_one_taken) p ≡ Some b → (a : Arc) × (find_arc arcs p ≡ Some a) × (b.dialogue ≡ a.dialogue)) → (c : Arc) × (find_arc (a ∷ arcs) p ≡ Some c) × (b.dialogue ≡ c.dialogue)
    go true i true j rest =
        let is : Some (record a { link = with_one_taken a.link }) ≡ Some b = grind (arith, h, i, j) in
        let eq : record a { link = with_one_taken a.link } ≡ b = cc (is) in
        (a, grind (arith, j), ap (λ (x : Arc). x.dialogue) (sym eq))
    go true i false j rest = (b, grind (arith, h, i, j), refl)
    go false i true j rest = (b, grind (arith, h, i, j), refl)
    go false i false j rest = let k = rest (grind (arith, h, i, j)) in (k.0, grind (arith, j, k.1), k.2)

pub counted_link : (arcs : List Arc) (q p : ℕ) → (link_with (with_link arcs q with_one_taken) p ≡ link_with arcs p) ⊎ (link_with (with_link arcs q with_one_taken) p ≡ with_one_taken (link_with arcs p))
counted_link [] q p = inl refl
counted_link (a ∷ arcs) q p = go (a.peer.node == q) refl (a.peer.node == p) refl (counted_link arcs q p)
  where
    go : (b : Bool) → (a.peer.node == q) ≡ b → (c : Bool) → (a.peer.node == p) ≡ c → (link_with (with_link arcs q with_one_taken) p ≡ link_with arcs p) ⊎ (link_with (with_link arcs q with_one_taken) p ≡ with_one_taken (link_with arcs p))
        → (link_with (with_link (a ∷ arcs) q with_one_taken) p ≡ link_with (a ∷ arcs) p) ⊎ (link_with (with_link (a ∷ arcs) q with_one_taken) p ≡ with_one_taken (link_with (a ∷ arcs) p))
    go true i true j rest = inr (grind (arith, i, j))
    go true i false j rest = inl (grind (arith, i, j))
    go false i true j rest = inl (grind (arith, i, j))
    go false i false j (inl k) = inl (grind (arith, i, j, k))
    go false i false j (inr k) = inr (grind (arith, i, j, k))

counted_had : (d : Digest) (from : Addr) (p : ℕ) → Readied p d (counted_in d from)
counted_had d from p = Had_it (counted_arc d.arcs from.node p) (counted_link d.arcs from.node p)

accepted_had : (who : Who) (up : Option Addr) (d : Digest) (u p : ℕ) → ((a : Addr) → d.superior ≡ Some a → up ≡ Some a) → is_at up p ≡ false → (o : Option Arc) → superior_arc d ≡ o → Readied p d (accepted_by who u o d)
accepted_had who up d u p under below None i = had_same p d d refl
accepted_had who up d u p under below (Some a) i = on a.link
  where
    s : (s : Addr) × (d.superior ≡ Some s) × (find_arc d.arcs s.node ≡ Some a)
    s = superior_found d a i

    away : (a.peer.node == p) ≡ false
    away = go (a.peer.node == p) refl
      where
        go : (b : Bool) → (a.peer.node == p) ≡ b → b ≡ false
        go false j = refl
        go true j =
            let node : s.0.node ≡ p = sym (find_arc_is d.arcs s.0.node a s.2) ∙ grind (arith, nat_tests, j) in
            let at : is_at up p ≡ true = ap (λ (o : Option Addr). is_at o p) (under s.0 s.1) ∙ grind (arith, nat_tests, node) in
            absurd (cc (at, below))

    on : (l : Link) → Readied p d (accepted_on who u a l d)
    on Idle = had_same p d d refl
    on (Opening x) = had_same p d d refl
    on (Live x y v w) = had_same p d d refl
    on (Offered x) = had_same p d (accepted_on who u a (Offered x) d) (find_put_other d.arcs (record a { link = Live x (next_mark who d) 0 0; dialogue = fresh_dialogue u Side.Subordinate }) p away)

linked_had : (who : Who) (d : Digest) (from : Addr) (x y : Mark) (u p : ℕ) → refusal who d (Event.Arrive from (PeerRecord.AcceptAssoc x y u)) ≡ None → (o : Option Arc) → find_arc d.arcs from.node ≡ o → Readied p d (linked o x y u d)
unfolding refusal verdict refused_arrival
linked_had who d from x y u p ok None i = had_same p d d refl
linked_had who d from x y u p ok (Some a) i = go (a.peer.node == p) refl
  where
    new : Arc
    new = record a { link = Live x y 0 0; dialogue = fresh_dialogue u Side.Superior }

    opening : (l : Link) → a.link ≡ l → (z : Mark) × (a.link ≡ Opening z)
    opening (Opening z) j = (z, j)
    opening Idle j = absurd (grind (arith, ok, i, j))
    opening (Offered z) j = absurd (grind (arith, ok, i, j))
    opening (Live z w s t) j = absurd (grind (arith, ok, i, j))

    good : bad_bit u ≡ None
    good = bits (bad_bit u) refl
      where
        bits : (b : Option ℕ) → bad_bit u ≡ b → bad_bit u ≡ None
        bits None j = j
        bits (Some n) j = absurd (grind (arith, ok, i, j))

    go : (b : Bool) → (a.peer.node == p) ≡ b → Readied p d (linked (Some a) x y u d)
    go false j = had_same p d (linked (Some a) x y u d) (find_put_other d.arcs new p j)
    go true j =
        let node : from.node ≡ p = sym (find_arc_is d.arcs from.node a i) ∙ grind (arith, nat_tests, j) in
        let z = opening a.link refl in
        Is_new u z.0 good (ap (λ (n : ℕ). link_with d.arcs n) (sym node) ∙ ap link_of i ∙ z.1) (λ b found. ap (λ (c : Arc). c.dialogue) (find_put_here d.arcs new p b j found))

pub readied : (who : Who) (up : Option Addr) (d : Digest) (e : Event) (p : ℕ) → ((a : Addr) → d.superior ≡ Some a → up ≡ Some a) → is_at up p ≡ false → refusal who d e ≡ None → is_live (link_with (prelude who d e).arcs p) ≡ true → Readied p d (prelude who d e)
unfolding after_crash
readied who up d (Event.Declare s) p under below ok live = had_same p d _ refl
readied who up d (Event.Do (Request.BeginDialogue a u)) p under below ok live =
    had_same p d (called who a u d) (find_append d.arcs (record { peer = a; link = Opening (next_mark who d); dialogue = fresh_dialogue u Side.Superior }) p refl live)
readied who up d (Event.Do (Request.Accept u)) p under below ok live = accepted_had who up d u p under below (superior_arc d) refl
readied who up d (Event.Arrive from (PeerRecord.OpenAssoc x u)) p under below ok live = go (from.node == p) refl
  where
    new : Arc
    new = record { peer = from; link = Offered x; dialogue = fresh_dialogue u Side.Subordinate }

    go : (b : Bool) → (from.node == p) ≡ b → Readied p d (record d { arcs = new ∷ d.arcs })
    go true i = absurd (grind (arith, live, i))
    go false i = had_same p d (record d { arcs = new ∷ d.arcs }) (grind (arith, i))
readied who up d (Event.Arrive from (PeerRecord.AcceptAssoc x y u)) p under below ok live = linked_had who d from x y u p ok (find_arc d.arcs from.node) refl
readied who up d (Event.Arrive from (PeerRecord.OnAssoc x y q (DialogueRecord.Begin t b h))) p under below ok live = go (find_arc d.arcs from.node)
  where
    go : (o : Option Arc) → Readied p d (begun_in o t b (counted_in d from))
    go None = counted_had d from p
    go (Some a) = Had_it (counted_arc d.arcs from.node p) (counted_link d.arcs from.node p)
readied who up d (Event.Arrive from (PeerRecord.OnAssoc x y q r)) p under below ok live = counted_had d from p
readied who up d Event.Crash p under below ok live = absurd (cc (live))
readied who up d _ p under below ok live = had_same p d d refl

-- the branch with the peer stays in it
pub same_branch : (who : Who) (d : Digest) (e : Event) (p : ℕ) → IsLate d → (e ≡ Event.Crash → ⊥) → Came who d e → (v : Bool) (f : Phase → Branch → Bool) → of_branch v f (prelude who d e).current p ≡ of_branch v f d.current p
same_branch who d e p late alive (As_it_was i) v f = ap (λ (o : Option Current). of_branch v f o p) i
same_branch who d e p late alive (By_crash is cur) v f = absurd (alive is)
same_branch who d e p late alive (By_begin from x y q t b h a is found cur nil sup) v f = ap (λ (o : Option Current). of_branch v f o p) cur ∙ sym (idle d.current refl)
  where
    idle : (o : Option Current) → d.current ≡ o → of_branch v f d.current p ≡ v
    idle None i = ap (λ (x : Option Current). of_branch v f x p) i
    idle (Some c) i = let z : is_nil c.phase ≡ true = rw (i, phase_of) at nil in absurd (cc (late c i, z))

-- after the prelude
pub led_prelude : (p : ℕ) (d s : Digest) (sent : List DialogueRecord) (c r : ℕ) → ((v : Bool) (f : Phase → Branch → Bool) → of_branch v f s.current p ≡ of_branch v f d.current p)
    → ((b : Arc) → find_arc s.arcs p ≡ Some b → (a : Arc) × (find_arc d.arcs p ≡ Some a) × (b.dialogue ≡ a.dialogue)) → IsLed p d sent c r → IsLed p s sent c r
led_prelude p d s sent c r same arcs old = record {
  sound = same true is_sound ∙ old.sound;
  open_now = old.open_now ∙ sym (same false opens);
  ahead = subst (λ (x : Bool). closed sent ≤ c + (if x then 1 else 0)) (sym (same false lags)) old.ahead;
  quiet = λ has over. old.quiet (sym (same false (λ h b. true)) ∙ has) over;
  kept = λ g at. keep g at;
}
  where
    keep : (g : Dialogue) → dialogue_at p s.arcs ≡ Some g → IsKept g (has_branch s.current p) (given c sent) r
    keep g at =
        let b = found_of s.arcs p g at in
        let a = arcs b.0 b.1 in
        let eq : a.0.dialogue ≡ g = sym a.2 ∙ b.2 in
        subst (λ (x : Bool). IsKept g x (given c sent) r) (sym (same false (λ h b. true))) (subst (λ (x : Dialogue). IsKept x (has_branch d.current p) (given c sent) r) eq (old.kept a.0.dialogue (dialogue_is d.arcs p a.0 a.1)))

whole_units : (u : ℕ) → bad_bit u ≡ None → has_bit u 16 ≡ true → has_bit u 32 ≡ false
whole_units u good h = go (has_bit u 32) refl
  where
    go : (b : Bool) → has_bit u 32 ≡ b → b ≡ false
    go false i = refl
    go true i = absurd (grind (arith, good, h, i))

-- on an association that is new
pub led_new : (p : ℕ) (s : Digest) (u r : ℕ) → ((v : Bool) (f : Phase → Branch → Bool) → of_branch v f s.current p ≡ v) → bad_bit u ≡ None → ((b : Arc) → find_arc s.arcs p ≡ Some b → b.dialogue ≡ fresh_dialogue u Side.Superior) → IsLed p s [] 0 r
led_new p s u r none good fresh = record {
  sound = none true is_sound;
  open_now = sym (none false opens);
  ahead = omega arith;
  quiet = λ has over. refl;
  kept = λ g at. let b = found_of s.arcs p g at in subst (λ (x : Dialogue). IsKept x (has_branch s.current p) 0 r) (sym (fresh b.0 b.1) ∙ b.2) new;
}
  where
    new : IsKept (fresh_dialogue u Side.Superior) (has_branch s.current p) 0 r
    new = record { control = λ pol. at_most_one (is_holding (fresh_dialogue u Side.Superior)) 0 r refl; chained = λ x pol ch. grind (arith, pol); whole = λ ch. whole_units u good ch }

-- ---- control that is given by a request

pub seen_holds : (arcs : List Arc) (bs : List Branch) (p : ℕ) (f : Branch → Bool) → row_holds (seen_rows arcs bs) p f ≡ elim (find_branch bs p) [ None ↦ false | Some b ↦ f b ]
seen_holds arcs [] p f = refl
seen_holds arcs (b ∷ bs) p f = grind (arith, seen_holds arcs bs p f)

-- the situation of a peer that is no superior
pub record IsSituated (o : Option Current) (p : ℕ) (s : Situation) : Type 0 where
  pub branch : s.branch ≡ has_branch o p
  pub working : s.branch ≡ true → is_late s.phase ≡ false → s.left ≡ false → s.prepared ≡ false → of_branch false opens o p ≡ true

situated : (who : Who) (d : Digest) (p : ℕ) → IsLate d → ((c : Current) → d.current ≡ Some c → is_under_at c.key p ≡ false) → IsSituated d.current p (situation_at who d p)
unfolding situation_of
situated who d p late under = go d.current refl
  where
    go : (o : Option Current) → d.current ≡ o → IsSituated o p (elim o [ None ↦ idle_situation | Some c ↦ situation_of (seen who d.arcs c) p ])
    go None i = record { branch = refl; working = λ h. absurd (cc (h)) }
    go (Some c) i = on (find_branch c.branches p) refl
      where
        down : is_under_at c.key p ≡ false
        down = under c i

        young : is_nil c.phase ≡ false
        young = late c i

        holds : (f : Branch → Bool) → row_holds (seen_rows d.arcs c.branches) p f ≡ elim (find_branch c.branches p) [ None ↦ false | Some b ↦ f b ]
        holds f = seen_holds d.arcs c.branches p f

        active : (h : Phase) → is_nil h ≡ false → is_late h ≡ false → is_active h ≡ true
        active Phase.Nil x y = absurd (cc (x))
        active Phase.Active x y = refl
        active Phase.Ready x y = absurd (cc (y))
        active Phase.Committing x y = absurd (cc (y))
        active Phase.Rolling x y = absurd (cc (y))

        on : (b : Option Branch) → find_branch c.branches p ≡ b → IsSituated (Some c) p (situation_of (seen who d.arcs c) p)
        on None j =
            let rows = holds (λ b. true) in
            record { branch = grind (arith, down, young, j, rows); working = λ h. absurd (grind (arith, down, j, rows, h)) }
        on (Some b) j =
            let rows = holds (λ b. true) in
            let left = holds (λ b. b.left) in
            let told = holds (λ b. b.prepared) in
            record { branch = grind (arith, down, young, j, rows); working = λ h l n t. let act = active c.phase young l in grind (arith, young, act, j, left, told, n, t) }

-- a Grant, or a handshake that grants
abbrev gives_word : DialogueRecord → Bool
gives_word DialogueRecord.Grant = true
gives_word DialogueRecord.HandshakeGrant = true
gives_word _ = false

given_word : (sent : List DialogueRecord) (w : DialogueRecord) → gives_word w ≡ true → (begun (sent ++ w ∷ []) ≡ begun sent) × (closed (sent ++ w ∷ []) ≡ closed sent)
given_word sent DialogueRecord.Grant h =
    let sum = rounds_append closes_down begun_behind false sent (DialogueRecord.Grant ∷ []) in
    let none : rounds closes_down begun_behind (begun sent) (DialogueRecord.Grant ∷ []) ≡ 0 = grind arith in
    (flag_append begun_behind false sent (DialogueRecord.Grant ∷ []) ∙ grind arith, omega (arith, sum, none))
given_word sent DialogueRecord.HandshakeGrant h =
    let sum = rounds_append closes_down begun_behind false sent (DialogueRecord.HandshakeGrant ∷ []) in
    let none : rounds closes_down begun_behind (begun sent) (DialogueRecord.HandshakeGrant ∷ []) ≡ 0 = grind arith in
    (flag_append begun_behind false sent (DialogueRecord.HandshakeGrant ∷ []) ∙ grind arith, omega (arith, sum, none))
given_word sent w h = absurd (cc (h))

changed_dialogue : (arcs : List Arc) (q : ℕ) (f : Dialogue → Dialogue) (a b : Arc) → find_arc arcs q ≡ Some a → find_arc (with_dialogue arcs q f) q ≡ Some b → b.dialogue ≡ f a.dialogue
changed_dialogue [] q f a b i j = absurd cc
changed_dialogue (x ∷ arcs) q f a b i j = go (x.peer.node == q) refl (changed_dialogue arcs q f a b)
  where
    go : (y : Bool) → (x.peer.node == q) ≡ y → (find_arc arcs q ≡ Some a → find_arc (with_dialogue arcs q f) q ≡ Some b → b.dialogue ≡ f a.dialogue) → b.dialogue ≡ f a.dialogue
    go true e rest =
        let one : Some x ≡ Some a = grind (arith, i, e) in
        let two : Some (record x { dialogue = f x.dialogue }) ≡ Some b = grind (arith, j, e) in
        let is : x ≡ a = cc (one) in
        let eq : record x { dialogue = f x.dialogue } ≡ b = cc (two) in
        ap (λ (y : Arc). y.dialogue) (sym eq) ∙ ap (λ (y : Arc). f y.dialogue) is
    go false e rest = rest (grind (arith, i, e)) (grind (arith, j, e))

-- what the request was not refused for
record MayGive (d : Digest) (p : ℕ) (f : Dialogue → Dialogue) : Type 0 where
  arc : Arc
  found : find_arc d.arcs p ≡ Some arc
  opened : has_branch d.current p ≡ true → of_branch false opens d.current p ≡ true
  linked_so : has_branch d.current p ≡ false → is_chained arc.dialogue ≡ false
  held : is_holding arc.dialogue ≡ true
  none : is_holding (f arc.dialogue) ≡ false
  units : (f arc.dialogue).units ≡ arc.dialogue.units

led_gave : (d : Digest) (p : ℕ) (f : Dialogue → Dialogue) (w : DialogueRecord) (sent : List DialogueRecord) (k r : ℕ) → gives_word w ≡ true → MayGive d p f → said_to p (perform (TxOut.Carry p w ∷ []) (record d { arcs = with_dialogue d.arcs p f })).outs ≡ w ∷ [] → IsLed p d sent k r
    → IsLed p (perform (TxOut.Carry p w ∷ []) (record d { arcs = with_dialogue d.arcs p f })).next (sent ++ said_to p (perform (TxOut.Carry p w ∷ []) (record d { arcs = with_dialogue d.arcs p f })).outs) k r
led_gave d p f w sent k r word may said old = subst (λ (ws : List DialogueRecord). IsLed p m.next (sent ++ ws) k r) (sym said) after
  where
    m : Move
    m = perform (TxOut.Carry p w ∷ []) (record d { arcs = with_dialogue d.arcs p f })

    same : (begun (sent ++ w ∷ []) ≡ begun sent) × (closed (sent ++ w ∷ []) ≡ closed sent)
    same = given_word sent w word

    after : IsLed p m.next (sent ++ w ∷ []) k r
    after = record {
      sound = old.sound;
      open_now = same.0 ∙ old.open_now;
      ahead = subst (λ (n : ℕ). n ≤ k + (if of_branch false lags d.current p then 1 else 0)) (sym same.1) old.ahead;
      quiet = λ has over. absurd (cc (sym (same.0 ∙ old.open_now) ∙ over, may.opened has));
      kept = λ g at. keep g at;
    }
      where
        keep : (g : Dialogue) → dialogue_at p m.next.arcs ≡ Some g → IsKept g (has_branch d.current p) (given k (sent ++ w ∷ [])) r
        keep g at =
            let b = found_of m.next.arcs p g at in
            let was = was_performed (with_dialogue d.arcs p f) (TxOut.Carry p w ∷ []) p b.0 b.1 in
            let is : was.arc.dialogue ≡ f may.arc.dialogue = changed_dialogue d.arcs p f may.arc was.arc may.found was.found in
            let eq : f may.arc.dialogue ≡ g = sym is ∙ sym was.dialogue ∙ b.2 in
            subst (λ (x : Dialogue). IsKept x (has_branch d.current p) (given k (sent ++ w ∷ [])) r) eq now
          where
            before : IsKept may.arc.dialogue (has_branch d.current p) (given k sent) r
            before = old.kept may.arc.dialogue (dialogue_is d.arcs p may.arc may.found)

            now : IsKept (f may.arc.dialogue) (has_branch d.current p) (given k (sent ++ w ∷ [])) r
            now = record {
              control = λ pol.
                  let was_so : is_polarized may.arc.dialogue ≡ true = ap (λ (u : ℕ). has_bit u 2) (sym may.units) ∙ pol in
                  let room : given k sent + 1 ≤ suc r = subst (λ (x : Bool). given k sent + (if x then 1 else 0) ≤ suc r) may.held (before.control was_so) in
                  let more = behind_next is_giving closes_down begun_behind false k sent w in
                  subst (λ (x : Bool). given k (sent ++ w ∷ []) + (if x then 1 else 0) ≤ suc r) (sym may.none) (omega (arith, room, more));
              chained = λ x pol ch. absurd (cc (may.linked_so x, ap (λ (u : ℕ). has_bit u 16) (sym may.units) ∙ ch));
              whole = λ ch. ap (λ (u : ℕ). has_bit u 32) may.units ∙ before.whole (ap (λ (u : ℕ). has_bit u 16) (sym may.units) ∙ ch);
            }

may_grant : (who : Who) (d : Digest) (p : ℕ) → IsLate d → ((c : Current) → d.current ≡ Some c → is_under_at c.key p ≡ false) → refused_request who d (Request.Grant p) ≡ None → MayGive d p (said Ask_grant)
unfolding refused_request refused_on_arc said
may_grant who d p late under ok = go (find_arc d.arcs p) refl
  where
    s : IsSituated d.current p (situation_at who d p)
    s = situated who d p late under

    go : (o : Option Arc) → find_arc d.arcs p ≡ o → MayGive d p (said Ask_grant)
    go None i = absurd (grind (arith, i, ok))
    go (Some a) i = record {
      arc = a;
      found = i;
      opened = λ has.
          let branch : (situation_at who d p).branch ≡ true = s.branch ∙ has in
          s.working branch (grind (arith, i, ok, branch)) (grind (arith, i, ok, branch)) (grind (arith, i, ok));
      linked_so = λ has. let branch : (situation_at who d p).branch ≡ false = s.branch ∙ has in grind (arith, i, ok, branch);
      held = grind (arith, i, ok);
      none = grind (arith, i, ok);
      units = refl;
    }

may_handshake : (who : Who) (d : Digest) (p : ℕ) → IsLate d → ((c : Current) → d.current ≡ Some c → is_under_at c.key p ≡ false) → refused_request who d (Request.HandshakeGrant p) ≡ None → MayGive d p (said Ask_handshake_grant)
unfolding refused_request refused_on_arc said
may_handshake who d p late under ok = go (find_arc d.arcs p) refl
  where
    s : IsSituated d.current p (situation_at who d p)
    s = situated who d p late under

    go : (o : Option Arc) → find_arc d.arcs p ≡ o → MayGive d p (said Ask_handshake_grant)
    go None i = absurd (grind (arith, i, ok))
    go (Some a) i = record {
      arc = a;
      found = i;
      opened = λ has.
          let branch : (situation_at who d p).branch ≡ true = s.branch ∙ has in
          s.working branch (grind (arith, i, ok, branch)) (grind (arith, i, ok, branch)) (grind (arith, i, ok));
      linked_so = λ has. let branch : (situation_at who d p).branch ≡ false = s.branch ∙ has in grind (arith, i, ok, branch);
      held = grind (arith, i, ok);
      none = grind (arith, i, ok);
      units = refl;
    }

pub led_grant : (who : Who) (d : Digest) (p : ℕ) (sent : List DialogueRecord) (k r : ℕ) → IsLate d → ((c : Current) → d.current ≡ Some c → is_under_at c.key p ≡ false) → refusal who d (Event.Do (Request.Grant p)) ≡ None → IsLed p d sent k r
    → IsLed p (action who d (Event.Do (Request.Grant p))).next (sent ++ said_to p (action who d (Event.Do (Request.Grant p))).outs) k r
led_grant who d p sent k r late under ok old = led_gave d p (said Ask_grant) DialogueRecord.Grant sent k r refl (may_grant who d p late under (plain_request who d (Request.Grant p) ok)) (gave_grant who d p ok).said old

pub led_handshake : (who : Who) (d : Digest) (p : ℕ) (sent : List DialogueRecord) (k r : ℕ) → IsLate d → ((c : Current) → d.current ≡ Some c → is_under_at c.key p ≡ false) → refusal who d (Event.Do (Request.HandshakeGrant p)) ≡ None → IsLed p d sent k r
    → IsLed p (action who d (Event.Do (Request.HandshakeGrant p))).next (sent ++ said_to p (action who d (Event.Do (Request.HandshakeGrant p))).outs) k r
led_handshake who d p sent k r late under ok old = led_gave d p (said Ask_handshake_grant) DialogueRecord.HandshakeGrant sent k r refl (may_handshake who d p late under (plain_request who d (Request.HandshakeGrant p) ok)) (gave_handshake who d p ok).said old

-- ---- control that comes back

-- a dialogue that holds what it held
record Regains (g g' : Dialogue) : Type 0 where
  units : g'.units ≡ g.units
  holds : g.holds ≡ true → g'.holds ≡ true

kept_regains : (row : Bool) (g g' : Dialogue) (n r : ℕ) → Regains g g' → IsKept g row n r → IsKept g' row n (suc r)
kept_regains row g g' n r s old = record {
  control = λ pol. more (is_holding g) (is_holding g') (old.control (ap (λ (u : ℕ). has_bit u 2) (sym s.units) ∙ pol));
  chained = λ x pol ch. s.holds (old.chained x (ap (λ (u : ℕ). has_bit u 2) (sym s.units) ∙ pol) (ap (λ (u : ℕ). has_bit u 16) (sym s.units) ∙ ch));
  whole = λ ch. ap (λ (u : ℕ). has_bit u 32) s.units ∙ old.whole (ap (λ (u : ℕ). has_bit u 16) (sym s.units) ∙ ch);
}
  where
    more : (x y : Bool) → n + (if x then 1 else 0) ≤ suc r → n + (if y then 1 else 0) ≤ suc (suc r)
    more true true le = omega (arith, le)
    more true false le = omega (arith, le)
    more false true le = omega (arith, le)
    more false false le = omega (arith, le)

regains_heard : (h : Heard) (g : Dialogue) → (h ≡ Hear_grant) ⊎ (h ≡ Hear_handshake_grant) → Regains g (heard h (woken g))
unfolding heard woken
regains_heard h g w = record { units = grind (arith, w); holds = λ x. grind (arith, w, x) }

regains_plain : (h : Heard) (g : Dialogue) → (h ≡ Hear_grant) ⊎ (h ≡ Hear_handshake_grant) → Regains g (heard h g)
unfolding heard
regains_plain h g w = record { units = grind (arith, w); holds = λ x. grind (arith, w, x) }

regains_woken : (g : Dialogue) → Regains g (woken g)
unfolding woken
regains_woken g = record { units = refl; holds = λ x. x }

-- the digest before, with the record counted and the dialogue changed
regained : (p : ℕ) (d u : Digest) (sent : List DialogueRecord) (k r : ℕ) → u.current ≡ d.current → ((b : Arc) → find_arc u.arcs p ≡ Some b → (a : Arc) × (find_arc d.arcs p ≡ Some a) × Regains a.dialogue b.dialogue) → IsLed p d sent k r → IsLed p u sent k (suc r)
regained p d u sent k r same arcs old = record {
  sound = ap (λ (o : Option Current). of_branch true is_sound o p) same ∙ old.sound;
  open_now = old.open_now ∙ ap (λ (o : Option Current). of_branch false opens o p) (sym same);
  ahead = subst (λ (o : Option Current). closed sent ≤ k + (if of_branch false lags o p then 1 else 0)) (sym same) old.ahead;
  quiet = λ has over. old.quiet (ap (λ (o : Option Current). has_branch o p) (sym same) ∙ has) over;
  kept = λ g at.
      let b = found_of u.arcs p g at in
      let a = arcs b.0 b.1 in
      let step : IsKept g (has_branch d.current p) (given k sent) (suc r) = kept_regains (has_branch d.current p) a.0.dialogue g (given k sent) r (subst (λ (x : Dialogue). Regains a.0.dialogue x) b.2 a.2) (old.kept a.0.dialogue (dialogue_is d.arcs p a.0 a.1)) in
      subst (λ (o : Option Current). IsKept g (has_branch o p) (given k sent) (suc r)) (sym same) step;
}

dialogue_there : (arcs : List Arc) (q : ℕ) (f : Dialogue → Dialogue) (p : ℕ) (b : Arc) → find_arc (with_dialogue arcs q f) p ≡ Some b → (a : Arc) × (find_arc arcs p ≡ Some a) × ((b.dialogue ≡ a.dialogue) ⊎ (b.dialogue ≡ f a.dialogue))
dialogue_there [] q f p b h = absurd (cc (h))
dialogue_there (a ∷ arcs) q f p b h = go (a.peer.node == q) refl (a.peer.node == p) refl (dialogue_there arcs q f p b)
  where
    go : (x : Bool) → (a.peer.node == q) ≡ x → (y : Bool) → (a.peer.node == p) ≡ y → (find_arc (with_dialogue arcs q f) p ≡ Some b → (a : Arc) × (find_arc arcs p ≡ Some a) × ((b.dialogue ≡ a.dialogue) ⊎ (b.dialogue ≡ f a.dialogue)))
        → (c : Arc) × (find_arc (a ∷ arcs) p ≡ Some c) × ((b.dialogue ≡ c.dialogue) ⊎ (b.dialogue ≡ f c.dialogue))
    go true i true j rest =
        let is : Some (record a { dialogue = f a.dialogue }) ≡ Some b = grind (arith, h, i, j) in
        let eq : record a { dialogue = f a.dialogue } ≡ b = cc (is) in
        (a, grind (arith, j), inr (ap (λ (x : Arc). x.dialogue) (sym eq)))
    go true i false j rest = (b, grind (arith, h, i, j), inl refl)
    go false i true j rest = (b, grind (arith, h, i, j), inl refl)
    go false i false j rest = let k = rest (grind (arith, h, i, j)) in (k.0, grind (arith, j, k.1), k.2)

-- a record that gives control, counted, woken and perhaps heard
led_regains : (who : Who) (a : Arc) (w : DialogueRecord) (h : Heard) (i : Indication) (d : Digest) (p : ℕ) (sent : List DialogueRecord) (k r : ℕ) → is_response w ≡ false → (h ≡ Hear_grant) ⊎ (h ≡ Hear_handshake_grant)
    → ((u : Digest) → take_record who a w u ≡ perform (TxOut.Tell i ∷ []) (record u { arcs = with_dialogue u.arcs a.peer.node (heard h) })) → IsLed p d sent k r → IsLed p (take_on who a w d).next (sent ++ said_to p (take_on who a w d).outs) k (suc r)
led_regains who a w h i d p sent k r word kind takes old = go (sight_at who d a w)
  where
    n : ℕ
    n = a.peer.node

    g : Digest
    g = record d { arcs = with_link d.arcs n with_one_taken }

    u : Digest
    u = record g { arcs = with_dialogue g.arcs n woken }

    woken_is : woken_by w n g ≡ u
    woken_is = rw word refl

    counted : (b : Arc) → find_arc g.arcs p ≡ Some b → (a : Arc) × (find_arc d.arcs p ≡ Some a) × (b.dialogue ≡ a.dialogue)
    counted b found = counted_arc d.arcs n p b found

    quiet : IsLed p u (sent ++ []) k (suc r)
    quiet = subst (λ (xs : List DialogueRecord). IsLed p u xs k (suc r)) (sym (append-nil sent)) (regained p d u sent k r refl arcs old)
      where
        arcs : (b : Arc) → find_arc u.arcs p ≡ Some b → (a : Arc) × (find_arc d.arcs p ≡ Some a) × Regains a.dialogue b.dialogue
        arcs b found =
            let x = dialogue_there g.arcs n woken p b found in
            let y = counted x.0 x.1 in
            (y.0, y.1, subst (λ (z : Dialogue). Regains z b.dialogue) y.2 (elim x.2 [ inl e ↦ record { units = ap (λ (z : Dialogue). z.units) e; holds = λ t. ap (λ (z : Dialogue). z.holds) e ∙ t } | inr e ↦ subst (λ (z : Dialogue). Regains x.0.dialogue z) (sym e) (regains_woken x.0.dialogue) ]))

    heard_now : IsLed p (perform (TxOut.Tell i ∷ []) (record u { arcs = with_dialogue u.arcs n (heard h) })).next (sent ++ []) k (suc r)
    heard_now = subst (λ (xs : List DialogueRecord). IsLed p (record u { arcs = with_dialogue u.arcs n (heard h) }) xs k (suc r)) (sym (append-nil sent)) (regained p d (record u { arcs = with_dialogue u.arcs n (heard h) }) sent k r refl arcs old)
      where
        twice : (x b : Dialogue) → (b ≡ woken x) ⊎ (b ≡ x) → Regains x (heard h b)
        twice x b (inl e) = subst (λ (z : Dialogue). Regains x (heard h z)) (sym e) (regains_heard h x kind)
        twice x b (inr e) = subst (λ (z : Dialogue). Regains x (heard h z)) (sym e) (regains_plain h x kind)

        arcs : (b : Arc) → find_arc (with_dialogue u.arcs n (heard h)) p ≡ Some b → (a : Arc) × (find_arc d.arcs p ≡ Some a) × Regains a.dialogue b.dialogue
        arcs b found =
            let v = dialogue_there u.arcs n (heard h) p b found in
            let x = dialogue_there g.arcs n woken p v.0 v.1 in
            let y = counted x.0 x.1 in (
              y.0,
              y.1,
              subst (λ (z : Dialogue). Regains z b.dialogue) y.2 (elim v.2 [
                | inl e ↦ subst (λ (z : Dialogue). Regains x.0.dialogue z) (sym e) (elim x.2 [ inl f ↦ record { units = ap (λ (z : Dialogue). z.units) f; holds = λ t. ap (λ (z : Dialogue). z.holds) f ∙ t } | inr f ↦ subst (λ (z : Dialogue). Regains x.0.dialogue z) (sym f) (regains_woken x.0.dialogue) ])
                | inr e ↦ subst (λ (z : Dialogue). Regains x.0.dialogue z) (sym e) (twice x.0.dialogue v.0.dialogue (elim x.2 [ inl f ↦ inr f | inr f ↦ inl f ]))
              ]),
            )

    go : (v : Sight) → IsLed p (elim v as (λ _. Move) [ Acts ↦ take_record who a w (woken_by w n g) | Nothing_happens ↦ move [] (woken_by w n g) | Out_of_phase ↦ move [] (woken_by w n g) ]).next
        (sent ++ said_to p (elim v as (λ _. Move) [ Acts ↦ take_record who a w (woken_by w n g) | Nothing_happens ↦ move [] (woken_by w n g) | Out_of_phase ↦ move [] (woken_by w n g) ]).outs) k (suc r)
    go Acts = subst (λ (x : Digest). IsLed p (take_record who a w x).next (sent ++ said_to p (take_record who a w x).outs) k (suc r)) (sym woken_is) (subst (λ (m : Move). IsLed p m.next (sent ++ said_to p m.outs) k (suc r)) (sym (takes u)) heard_now)
    go Nothing_happens = subst (λ (x : Digest). IsLed p x (sent ++ []) k (suc r)) (sym woken_is) quiet
    go Out_of_phase = subst (λ (x : Digest). IsLed p x (sent ++ []) k (suc r)) (sym woken_is) quiet

pub led_gained : (who : Who) (d : Digest) (from : Addr) (x y : Mark) (q p : ℕ) (w : DialogueRecord) (sent : List DialogueRecord) (k r : ℕ) → (w ≡ DialogueRecord.Grant) ⊎ (w ≡ DialogueRecord.HandshakeGrant) → IsLed p d sent k r
    → IsLed p (action who d (Event.Arrive from (PeerRecord.OnAssoc x y q w))).next (sent ++ said_to p (action who d (Event.Arrive from (PeerRecord.OnAssoc x y q w))).outs) k (suc r)
led_gained who d from x y q p w sent k r kind old = go kind (find_arc d.arcs from.node)
  where
    none : IsLed p d (sent ++ []) k (suc r)
    none = subst (λ (xs : List DialogueRecord). IsLed p d xs k (suc r)) (sym (append-nil sent)) (regained p d d sent k r refl (λ b found. (b, found, record { units = refl; holds = λ t. t })) old)

    on : (w : DialogueRecord) → (w ≡ DialogueRecord.Grant) ⊎ (w ≡ DialogueRecord.HandshakeGrant) → (a : Arc) → IsLed p (take_on who a w d).next (sent ++ said_to p (take_on who a w d).outs) k (suc r)
    on DialogueRecord.Grant e a = led_regains who a DialogueRecord.Grant Hear_grant (Indication.Grant a.peer.node) d p sent k r refl (inl refl) (λ u. refl) old
    on DialogueRecord.HandshakeGrant e a = led_regains who a DialogueRecord.HandshakeGrant Hear_handshake_grant (Indication.HandshakeGrant a.peer.node) d p sent k r refl (inr refl) (λ u. refl) old
    on w e a = absurd (grind (arith, e))

    go : (w ≡ DialogueRecord.Grant) ⊎ (w ≡ DialogueRecord.HandshakeGrant) → (o : Option Arc) → IsLed p (elim o as (λ _. Move) [ None ↦ move [] d | Some a ↦ take_on who a w d ]).next (sent ++ said_to p (elim o as (λ _. Move) [ None ↦ move [] d | Some a ↦ take_on who a w d ]).outs) k (suc r)
    go e None = none
    go e (Some a) = on w e a

-- ---- a word that answers

-- Ready, Left, or RolledBack
abbrev pub is_answer : DialogueRecord → Bool
is_answer DialogueRecord.Ready = true
is_answer DialogueRecord.Left = true
is_answer DialogueRecord.LeftEnd = true
is_answer (DialogueRecord.RolledBack r) = true
is_answer _ = false

-- it acts on a branch whose round is closed
record ActsOn (o : Option Current) (p : ℕ) : Type 0 where
  has : has_branch o p ≡ true
  shut : of_branch false opens o p ≡ false

acts_tx : (who : Who) (arcs : List Arc) (c : Current) (p : ℕ) (w : DialogueRecord) → is_answer w ≡ true → is_nil c.phase ≡ false → sight_of_tx (seen who arcs c) p w ≡ Acts → ActsOn (Some c) p
unfolding sight_of_tx
acts_tx who arcs c p DialogueRecord.Ready k late h = on (find_branch c.branches p) refl
  where
    on : (b : Option Branch) → find_branch c.branches p ≡ b → ActsOn (Some c) p
    on None j = let rows : row_holds (seen_rows arcs c.branches) p (λ b. b.prepared && not b.counted) ≡ false = seen_holds arcs c.branches p _ ∙ rw j refl in absurd (grind (arith, h, rows))
    on (Some b) j = let rows : row_holds (seen_rows arcs c.branches) p (λ b. b.prepared && not b.counted) ≡ (b.prepared && not b.counted) = seen_holds arcs c.branches p _ ∙ rw j refl in record { has = grind (arith, late, j); shut = grind (arith, late, j, rows, h) }
acts_tx who arcs c p DialogueRecord.Left k late h = on (find_branch c.branches p) refl
  where
    on : (b : Option Branch) → find_branch c.branches p ≡ b → ActsOn (Some c) p
    on None j = let rows : row_holds (seen_rows arcs c.branches) p (λ b. is_active c.phase && b.prepared && not b.counted && not b.left || is_rolling c.phase && not b.ended && not b.left) ≡ false = seen_holds arcs c.branches p _ ∙ rw j refl in absurd (grind (arith, h, rows))
    on (Some b) j =
        let rows : row_holds (seen_rows arcs c.branches) p (λ b. is_active c.phase && b.prepared && not b.counted && not b.left || is_rolling c.phase && not b.ended && not b.left) ≡ (is_active c.phase && b.prepared && not b.counted && not b.left || is_rolling c.phase && not b.ended && not b.left) = seen_holds arcs c.branches p _ ∙ rw j refl in
        record { has = grind (arith, late, j); shut = grind (arith, late, j, rows, h) }
acts_tx who arcs c p DialogueRecord.LeftEnd k late h = on (find_branch c.branches p) refl
  where
    on : (b : Option Branch) → find_branch c.branches p ≡ b → ActsOn (Some c) p
    on None j = let rows : row_holds (seen_rows arcs c.branches) p (λ b. is_active c.phase && b.prepared && not b.counted && not b.left || is_rolling c.phase && not b.ended && not b.left) ≡ false = seen_holds arcs c.branches p _ ∙ rw j refl in absurd (grind (arith, h, rows))
    on (Some b) j =
        let rows : row_holds (seen_rows arcs c.branches) p (λ b. is_active c.phase && b.prepared && not b.counted && not b.left || is_rolling c.phase && not b.ended && not b.left) ≡ (is_active c.phase && b.prepared && not b.counted && not b.left || is_rolling c.phase && not b.ended && not b.left) = seen_holds arcs c.branches p _ ∙ rw j refl in
        record { has = grind (arith, late, j); shut = grind (arith, late, j, rows, h) }
acts_tx who arcs c p (DialogueRecord.RolledBack r) k late h = on (find_branch c.branches p) refl
  where
    on : (b : Option Branch) → find_branch c.branches p ≡ b → ActsOn (Some c) p
    on None j = let rows : row_holds (seen_rows arcs c.branches) p (λ b. not b.ended && not b.left) ≡ false = seen_holds arcs c.branches p _ ∙ rw j refl in absurd (grind (arith, h, rows))
    on (Some b) j = record { has = grind (arith, late, j); shut = grind (arith, late, j, h) }
acts_tx who arcs c p w k late h = absurd (cc (k))

acts_on : (who : Who) (d : Digest) (a : Arc) (w : DialogueRecord) → is_answer w ≡ true → IsLate d → sight_at who d a w ≡ Acts → ActsOn d.current a.peer.node
unfolding sight_of
acts_on who d a w k late h = go d.current refl
  where
    go : (o : Option Current) → d.current ≡ o → ActsOn o a.peer.node
    go (Some c) i = acts_tx who d.arcs c a.peer.node w k (late c i) (plain w k h)
      where
        plain : (w : DialogueRecord) → is_answer w ≡ true → sight_at who d a w ≡ Acts → sight_of_tx (seen who d.arcs c) a.peer.node w ≡ Acts
        plain DialogueRecord.Ready k h = grind (arith, h, i)
        plain DialogueRecord.Left k h = grind (arith, h, i)
        plain DialogueRecord.LeftEnd k h = grind (arith, h, i)
        plain (DialogueRecord.RolledBack r) k h = grind (arith, h, i)
        plain w k h = absurd (cc (k))
    go None i = none w k h
      where
        none : (w : DialogueRecord) → is_answer w ≡ true → sight_at who d a w ≡ Acts → ActsOn None a.peer.node
        none DialogueRecord.Ready k h = absurd (grind (arith, h, i))
        none DialogueRecord.Left k h = absurd (grind (arith, h, i))
        none DialogueRecord.LeftEnd k h = absurd (grind (arith, h, i))
        none (DialogueRecord.RolledBack r) k h = absurd (grind (arith, h, i))
        none w k h = absurd (cc (k))

reads_none : (who : Who) (g : Digest) (p : ℕ) → g.current ≡ None → Reads who Event.Retry p false true 1 g
reads_none who g p none = record {
  falls_so = λ c f arcs at asked fall. refl;
  closes_so = λ c f arcs at asked z. absurd (cc (z));
  under_superior = λ c at under. absurd (cc (none, at));
  is_superior_so = λ z live. absurd (cc (z));
}

calm_none : (who : Who) (g : Digest) (p : ℕ) → g.current ≡ None → is_superior g p ≡ false → IsCalm who Event.Retry g p
calm_none who g p none below = record {
  gives = refl;
  gains = refl;
  begins = λ h i. cc (i);
  leaves = λ i. cc (i);
  silent = λ c f arcs at asked. absurd (cc (none, at));
  below = below;
  under = λ c at. absurd (cc (none, at));
}

-- the event of the transaction that it is
led_transact : (who : Who) (w : DialogueRecord) (v : Digest) (n p : ℕ) (sent : List DialogueRecord) (k r : ℕ) → is_answer w ≡ true → IsLate v → ((c : Current) → v.current ≡ Some c → is_under_at c.key p ≡ false) → is_superior v p ≡ false → are_separate v.arcs ≡ true
    → closed sent ≤ k → begun sent ≡ false → IsLed p v sent k r → is_live (link_with (transact who (TxEvent.Took n w) v).next.arcs p) ≡ true → IsLed p (transact who (TxEvent.Took n w) v).next (sent ++ said_to p (transact who (TxEvent.Took n w) v).outs) k r
unfolding transact
led_transact who w v n p sent k r answer late under below sep le shut old = go v.current refl
  where
    f : TxEvent
    f = TxEvent.Took n w

    loses_none : (w : DialogueRecord) → is_answer w ≡ true → (m : ℕ) → loses (TxEvent.Took n w) m ≡ true → ⊥
    loses_none DialogueRecord.UAbort k m h = cc (k)
    loses_none w k m h = cc (h)

    put : (c : Current) → v.current ≡ Some c → IsPut f (seen who v.arcs c)
    put c at = record { late = late c at; ok = λ h. absurd (cc (h)); abort = λ q h. absurd (cc (h)); ordered = λ h. absurd (cc (h)); not_begun = λ arcs h. cc (h) }

    over : (c : Current) → v.current ≡ Some c → (b : Bool) → is_over (passed who f v c) ≡ b → is_live (link_with (if b then followed (turned who f v c) (try_start who) else turned who f v c).next.arcs p) ≡ true
        → IsLed p (if b then followed (turned who f v c) (try_start who) else turned who f v c).next (sent ++ said_to p (if b then followed (turned who f v c) (try_start who) else turned who f v c).outs) k r
    over c at false i live = led_turned who f v c p sent k r at (put c at) (under c at) below sep (λ m h. absurd (loses_none w answer m h)) (λ h. (le, shut)) old live
    over c at true i live =
        let a : Move = turned who f v c in
        let nil : is_nil (transacted f (seen who v.arcs c)).next.phase ≡ true = sym (over_nil (is_leaving f) (seen who v.arcs c).phase (transacted f (seen who v.arcs c)).next.phase (late c at)) ∙ i in
        let none : a.next.current ≡ None = rw (nil, remaining) refl in
        let start = led_start who a.next p false true 1 (reads_none who a.next p none) (calm_none who a.next p none below) ((thins_turned who f v c).apart sep) in
        let first = led_turned who f v c p sent k r at (put c at) (under c at) below sep (λ m h. absurd (loses_none w answer m h)) (λ h. (le, shut)) old (start.0 live) in
        let second = start.1 (sent ++ said_to p a.outs) k r first live in
        let words : said_to p (followed a (try_start who)).outs ≡ said_to p a.outs ++ said_to p (try_start who a.next).outs = said_append p a.outs (try_start who a.next).outs in
        subst (λ (xs : List DialogueRecord). IsLed p (try_start who a.next).next xs k r) (append_assoc sent (said_to p a.outs) (said_to p (try_start who a.next).outs) ∙ ap (λ (xs : List DialogueRecord). sent ++ xs) (sym words)) second

    go : (o : Option Current) → v.current ≡ o → is_live (link_with (elim o as (λ _. Move) [ None ↦ move [] v | Some c ↦ started_next who (passed who f v c) (turned who f v c) ]).next.arcs p) ≡ true
        → IsLed p (elim o as (λ _. Move) [ None ↦ move [] v | Some c ↦ started_next who (passed who f v c) (turned who f v c) ]).next (sent ++ said_to p (elim o as (λ _. Move) [ None ↦ move [] v | Some c ↦ started_next who (passed who f v c) (turned who f v c) ]).outs) k r
    go None i live = subst (λ (xs : List DialogueRecord). IsLed p v xs k r) (sym (append-nil sent)) old
    go (Some c) i live = over c i (is_over (passed who f v c)) refl live

kept_cleared : (g : Dialogue) (n r : ℕ) → IsKept g true n r → IsKept (cleared g) true n r
unfolding cleared
kept_cleared g n r old = record { control = λ pol. one_or_none n r false (is_holding g) (λ h. absurd (cc (h))) (old.control pol); chained = λ x. absurd (cc (x)); whole = old.whole }

led_cleared : (p n : ℕ) (u : Digest) (sent : List DialogueRecord) (k r : ℕ) → has_branch u.current p ≡ true → IsLed p u sent k r → IsLed p (record u { arcs = with_dialogue u.arcs n cleared }) sent k r
led_cleared p n u sent k r has old = record { sound = old.sound; open_now = old.open_now; ahead = old.ahead; quiet = old.quiet; kept = λ g at. keep g at }
  where
    keep : (g : Dialogue) → dialogue_at p (with_dialogue u.arcs n cleared) ≡ Some g → IsKept g (has_branch u.current p) (given k sent) r
    keep g at =
        let b = found_of (with_dialogue u.arcs n cleared) p g at in
        let x = dialogue_there u.arcs n cleared p b.0 b.1 in
        let before : IsKept x.0.dialogue (has_branch u.current p) (given k sent) r = old.kept x.0.dialogue (dialogue_is u.arcs p x.0 x.1) in
        subst (λ (d : Dialogue). IsKept d (has_branch u.current p) (given k sent) r) b.2
        (elim x.2 [
          | inl e ↦ subst (λ (d : Dialogue). IsKept d (has_branch u.current p) (given k sent) r) (sym e) before
          | inr e ↦ subst (λ (d : Dialogue). IsKept d (has_branch u.current p) (given k sent) r) (sym e) (subst (λ (y : Bool). IsKept (cleared x.0.dialogue) y (given k sent) r) (sym has) (kept_cleared x.0.dialogue (given k sent) r (subst (λ (y : Bool). IsKept x.0.dialogue y (given k sent) r) has before)))
        ])

pub led_answer : (who : Who) (d : Digest) (from : Addr) (x y : Mark) (q p : ℕ) (w : DialogueRecord) (sent : List DialogueRecord) (k r : ℕ) → is_answer w ≡ true → from.node ≡ p → IsLate d → ((c : Current) → d.current ≡ Some c → is_under_at c.key p ≡ false) → is_superior d p ≡ false
    → are_separate d.arcs ≡ true → closed sent ≤ k → IsLed p d sent k r → is_live (link_with (action who d (Event.Arrive from (PeerRecord.OnAssoc x y q w))).next.arcs p) ≡ true
    → IsLed p (action who d (Event.Arrive from (PeerRecord.OnAssoc x y q w))).next (sent ++ said_to p (action who d (Event.Arrive from (PeerRecord.OnAssoc x y q w))).outs) k r
led_answer who d from x y q p w sent k r answer node late under below sep le old = go (find_arc d.arcs from.node) refl
  where
    go : (o : Option Arc) → find_arc d.arcs from.node ≡ o → is_live (link_with (elim o as (λ _. Move) [ None ↦ move [] d | Some a ↦ take_on who a w d ]).next.arcs p) ≡ true
        → IsLed p (elim o as (λ _. Move) [ None ↦ move [] d | Some a ↦ take_on who a w d ]).next (sent ++ said_to p (elim o as (λ _. Move) [ None ↦ move [] d | Some a ↦ take_on who a w d ]).outs) k r
    go None i live = subst (λ (xs : List DialogueRecord). IsLed p d xs k r) (sym (append-nil sent)) old
    go (Some a) i live = on (sight_at who d a w) refl live
      where
        n : ℕ
        n = a.peer.node

        at : n ≡ p
        at = find_arc_is d.arcs from.node a i ∙ node

        g : Digest
        g = record d { arcs = with_link d.arcs n with_one_taken }

        u : Digest
        u = record g { arcs = with_dialogue g.arcs n woken }

        quiet_word : (w : DialogueRecord) → is_answer w ≡ true → is_response w ≡ false
        quiet_word DialogueRecord.Response k = absurd (cc (k))
        quiet_word w k = refl

        woken_is : woken_by w n g ≡ u
        woken_is = rw (quiet_word w answer) refl

        arcs : (b : Arc) → find_arc u.arcs p ≡ Some b → (a : Arc) × (find_arc d.arcs p ≡ Some a) × Softens a.dialogue b.dialogue
        arcs b found =
            let s = softens_dialogue g.arcs n woken p (λ here x. softens_woken x) b found in
            let y = counted_arc d.arcs n p s.0 s.1 in
            (y.0, y.1, subst (λ (z : Dialogue). Softens z b.dialogue) y.2 s.2)

        led_u : IsLed p u sent k r
        led_u = led_mute p d u sent k r refl arcs old

        sep_u : are_separate u.arcs ≡ true
        sep_u = (thins_dialogue g.arcs n woken).apart ((thins_taken d.arcs n).apart sep)

        acts : sight_at who d a w ≡ Acts → ActsOn d.current p
        acts act = subst (λ (m : ℕ). ActsOn d.current m) at (acts_on who d a w answer late act)

        takes : (w : DialogueRecord) → is_answer w ≡ true → (take_record who a w u ≡ transact who (TxEvent.Took n w) u) ⊎ (take_record who a w u ≡ transact who (TxEvent.Took n w) (record u { arcs = with_dialogue u.arcs n cleared }))
        takes DialogueRecord.Ready k = inl refl
        takes DialogueRecord.Left k = inr refl
        takes DialogueRecord.LeftEnd k = inr refl
        takes (DialogueRecord.RolledBack v) k = inl refl
        takes w k = absurd (cc (k))

        taken : sight_at who d a w ≡ Acts → is_live (link_with (take_record who a w u).next.arcs p) ≡ true → IsLed p (take_record who a w u).next (sent ++ said_to p (take_record who a w u).outs) k r
        taken act = by (takes w answer)
          where
            shut : begun sent ≡ false
            shut = old.open_now ∙ (acts act).shut

            by : (take_record who a w u ≡ transact who (TxEvent.Took n w) u) ⊎ (take_record who a w u ≡ transact who (TxEvent.Took n w) (record u { arcs = with_dialogue u.arcs n cleared })) → is_live (link_with (take_record who a w u).next.arcs p) ≡ true
                → IsLed p (take_record who a w u).next (sent ++ said_to p (take_record who a w u).outs) k r
            by (inl is) = subst (λ (m : Move). is_live (link_with m.next.arcs p) ≡ true → IsLed p m.next (sent ++ said_to p m.outs) k r) (sym is) (led_transact who w u n p sent k r answer late under below sep_u le shut led_u)
            by (inr is) =
                subst (λ (m : Move). is_live (link_with m.next.arcs p) ≡ true → IsLed p m.next (sent ++ said_to p m.outs) k r) (sym is)
                (led_transact who w (record u { arcs = with_dialogue u.arcs n cleared }) n p sent k r answer late under below ((thins_dialogue u.arcs n cleared).apart sep_u) le shut (led_cleared p n u sent k r (acts act).has led_u))

        on : (v : Sight) → sight_at who d a w ≡ v → is_live (link_with (elim v as (λ _. Move) [ Acts ↦ take_record who a w (woken_by w n g) | Nothing_happens ↦ move [] (woken_by w n g) | Out_of_phase ↦ move [] (woken_by w n g) ]).next.arcs p) ≡ true
            → IsLed p (elim v as (λ _. Move) [ Acts ↦ take_record who a w (woken_by w n g) | Nothing_happens ↦ move [] (woken_by w n g) | Out_of_phase ↦ move [] (woken_by w n g) ]).next
            (sent ++ said_to p (elim v as (λ _. Move) [ Acts ↦ take_record who a w (woken_by w n g) | Nothing_happens ↦ move [] (woken_by w n g) | Out_of_phase ↦ move [] (woken_by w n g) ]).outs) k r
        on Acts j = subst (λ (z : Digest). is_live (link_with (take_record who a w z).next.arcs p) ≡ true → IsLed p (take_record who a w z).next (sent ++ said_to p (take_record who a w z).outs) k r) (sym woken_is) (taken j)
        on Nothing_happens j = λ live. subst (λ (z : Digest). IsLed p z (sent ++ []) k r) (sym woken_is) (subst (λ (xs : List DialogueRecord). IsLed p u xs k r) (sym (append-nil sent)) led_u)
        on Out_of_phase j = λ live. subst (λ (z : Digest). IsLed p z (sent ++ []) k r) (sym woken_is) (subst (λ (xs : List DialogueRecord). IsLed p u xs k r) (sym (append-nil sent)) led_u)
