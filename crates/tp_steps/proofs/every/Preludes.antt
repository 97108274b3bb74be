-- What the prelude of an event makes of the link with a peer.
use Rattle.std.proofs.Common.{if◌then◌else◌, ◌≡◌, ◌≤◌, ℕ, suc, Bool, true, false, refl, ap, sym, subst, ◌∙◌, arith, Option, Some, None, List, [], ◌∷◌, ◌++◌, ◌==◌, not}
use Rattle.std.proofs.lemmas.Bool.Decides.{nat_tests}
use Rattle.tp_names.specs.declared.identifiers.Mark.{Mark}
use Rattle.tp_names.specs.declared.identifiers.Addr.{Addr}
use Rattle.tp_names.specs.declared.identifiers.Aaid.{Aaid}
use Rattle.tp_names.specs.declared.identifiers.BranchId.{BranchId}
use Rattle.tp_names.specs.Same.{is_mark}
use Rattle.tp_records.specs.declared.request.Request.{Request}
use Rattle.tp_records.specs.declared.dialogue.DialogueRecord.{DialogueRecord}
use Rattle.tp_records.specs.declared.peer.PeerRecord.{PeerRecord}
use Rattle.tp_model.specs.declared.arc.Side.{Side}
use Rattle.tp_model.specs.Parts.{Who, Event, Link, Idle, Opening, Offered, Live, Arc, Digest}
use Rattle.tp_model.specs.Links.{with_one_taken}
use Rattle.tp_model.specs.Dialogues.{is_nil, first, fresh_dialogue}
use Rattle.tp_model.specs.Arcs.{find_arc, link_of, link_with, put_arc, with_link}
use Rattle.tp_model.specs.Node.{next_mark, is_superior, superior_arc, phase_of}
use Rattle.tp_units.specs.Units.{bad_answer}
use Rattle.tp_model.specs.Requests.{is_branch_below, is_offered_arc, refused_request}
use Rattle.tp_model.specs.Arcs.{units_of}
use Rattle.std.specs.Prelude.{is_some}
use Rattle.tp_model.specs.Arrivals.{refused_arrival, is_from_superior}
use Rattle.tp_model.specs.Events.{refusal, verdict, after_crash}
use Rattle.tp_model.specs.Questions.{is_at}
use Rattle.tp_steps.specs.Moves.{prelude, called, accepted_by, accepted_on, linked, begun_in, counted_in}
use Rattle.tp_steps.specs.Traces.{took_of}
use Rattle.tp_steps.proofs.every.EveryRecord.{find_arc_is}
use Rattle.std.proofs.Math.Nat.{le_refl}
use Rattle.tp_model.specs.declared.refusal.Refusal.{Refusal}

pub made_same : (b b' n n' c c' : ℕ) → b ≡ b' → n ≡ n' → c ≡ c' → ◌≡◌ {A = Mark} (record { boot = b; node = n; count = c }) (record { boot = b'; node = n'; count = c' })
made_same b b' n n' c c' e f g = rw (e, f, g) refl

pub marks_same : (m n : Mark) → is_mark m n ≡ true → m ≡ n
marks_same m n h =
    let b : m.boot ≡ n.boot = grind (arith, nat_tests) in
    let c : m.node ≡ n.node = grind (arith, nat_tests) in
    let k : m.count ≡ n.count = grind (arith, nat_tests) in
    made_same m.boot n.boot m.node n.node m.count n.count b c k

-- ---- arcs

pub link_append : (arcs : List Arc) (a : Arc) (p : ℕ) → find_arc arcs a.peer.node ≡ None → link_with (arcs ++ a ∷ []) p ≡ (if a.peer.node == p then a.link else link_with arcs p)
link_append [] a p h = grind arith
link_append (b ∷ arcs) a p h = grind (arith, nat_tests, link_append arcs a p)

pub link_put : (arcs : List Arc) (a b : Arc) (p : ℕ) → find_arc arcs b.peer.node ≡ Some a → link_with (put_arc arcs b) p ≡ (if b.peer.node == p then b.link else link_with arcs p)
link_put [] a b p h = absurd cc
link_put (c ∷ arcs) a b p h = grind (arith, nat_tests, link_put arcs a b p)

pub link_counted : (arcs : List Arc) (q p : ℕ) → link_with (with_link arcs q with_one_taken) p ≡ (if q == p then with_one_taken (link_with arcs p) else link_with arcs p)
link_counted [] q p = grind arith
link_counted (c ∷ arcs) q p = grind (arith, nat_tests, link_counted arcs q p)

-- ---- the prelude

-- whom the event calls
abbrev pub called_at : Event → Option ℕ
called_at (Event.Do (Request.BeginDialogue a u)) = Some a.node
called_at _ = None

-- the link with a peer after the prelude, and what the event takes from the peer with it
pub data Prelinked (who : Who) (up : Option Addr) (p : ℕ) (d : Digest) (e : Event) (l : Link) : Type 0 where
  As_before : l ≡ link_with d.arcs p → ((x y : Mark) → took_of x y p e ≡ []) → Prelinked who up p d e l
  Now_idle : l ≡ Idle → ((x y : Mark) → took_of x y p e ≡ []) → Prelinked who up p d e l
  Now_called : l ≡ Opening (next_mark who d) → is_at up p ≡ false → suc d.drawn ≤ (prelude who d e).drawn → ((x y : Mark) → took_of x y p e ≡ []) → is_branch_below d p ≡ false → called_at e ≡ Some p → Prelinked who up p d e l
  Now_offered : (x : Mark) → l ≡ Offered x → is_at up p ≡ true → ((z w : Mark) → took_of z w p e ≡ []) → Prelinked who up p d e l
  Now_accepted : (x : Mark) → l ≡ Live x (next_mark who d) 0 0 → is_at up p ≡ true → suc d.drawn ≤ (prelude who d e).drawn → ((z w : Mark) → took_of z w p e ≡ []) → is_nil (phase_of d) ≡ true → Prelinked who up p d e l
  Now_confirmed : (x y : Mark) → link_with d.arcs p ≡ Opening x → l ≡ Live x y 0 0 → ((z w : Mark) → took_of z w p e ≡ []) → Prelinked who up p d e l
  Took_one : (a : Addr) (x y : Mark) (s t : ℕ) (r : DialogueRecord) → link_with d.arcs p ≡ Live x y s t → l ≡ Live x y s (suc t) → a.node ≡ p → e ≡ Event.Arrive a (PeerRecord.OnAssoc x y t r) → Prelinked who up p d e l

superior_at : (d : Digest) (up : Option Addr) (p : ℕ) → d.superior ≡ up → is_superior d p ≡ is_at up p
superior_at d None p h = rw (h, is_superior) refl
superior_at d (Some a) p h = rw (h, is_superior) refl

pre_call : (who : Who) (up : Option Addr) (p : ℕ) (d : Digest) (a : Addr) (u : ℕ) → (d.declared ≡ true → d.superior ≡ up) → refusal who d (Event.Do (Request.BeginDialogue a u)) ≡ None
    → Prelinked who up p d (Event.Do (Request.BeginDialogue a u)) (link_with (called who a u d).arcs p)
unfolding refusal verdict refused_request
pre_call who up p d a u here ok = go (a.node == p) refl
  where
    new : Arc
    new = record { peer = a; link = Opening (next_mark who d); dialogue = fresh_dialogue u Side.Superior }

    declared : d.declared ≡ true
    declared = grind (arith, ok)

    none : find_arc d.arcs a.node ≡ None
    none = grind (arith, ok)

    down : is_superior d a.node ≡ false
    down = grind (arith, ok)

    unbranched : is_branch_below d a.node ≡ false
    unbranched = grind (arith, ok)

    go : (b : Bool) → (a.node == p) ≡ b → Prelinked who up p d (Event.Do (Request.BeginDialogue a u)) (link_with (called who a u d).arcs p)
    go true i =
        let same : a.node ≡ p = grind (arith, nat_tests) in
        Now_called (link_append d.arcs new p none ∙ rw i refl) (sym (superior_at d up p (here declared)) ∙ subst (λ (n : ℕ). is_superior d n ≡ false) same down) (le_refl (suc d.drawn)) (λ x y. refl) (subst (λ (n : ℕ). is_branch_below d n ≡ false) same unbranched) (ap (λ (n : ℕ). Some n) same)
    go false i = As_before (link_append d.arcs new p none ∙ rw i refl) (λ x y. refl)

pub superior_found : (d : Digest) (a : Arc) → superior_arc d ≡ Some a → (s : Addr) × (d.superior ≡ Some s) × (find_arc d.arcs s.node ≡ Some a)
superior_found d a h = go d.superior refl
  where
    go : (o : Option Addr) → d.superior ≡ o → (s : Addr) × (d.superior ≡ Some s) × (find_arc d.arcs s.node ≡ Some a)
    go None i = let none : None ≡ Some a = rw (i, superior_arc) at h in absurd (cc (none))
    go (Some s) i = let found : find_arc d.arcs s.node ≡ Some a = rw (i, superior_arc) at h in (s, i, found)

accept_plain : (who : Who) (d : Digest) (u : ℕ) → refusal who d (Event.Do (Request.Accept u)) ≡ None → refused_request who d (Request.Accept u) ≡ None
unfolding refusal verdict
accept_plain who d u ok = grind (arith, ok)

accept_nil : (who : Who) (d : Digest) (u : ℕ) → refusal who d (Event.Do (Request.Accept u)) ≡ None → is_nil (phase_of d) ≡ true
unfolding refused_request
accept_nil who d u ok =
    let plain : refused_request who d (Request.Accept u) ≡ None = accept_plain who d u ok in
    go (is_offered_arc (superior_arc d)) (is_some (bad_answer (units_of (superior_arc d)) u)) (is_nil (phase_of d)) plain
  where
    go : (a b c : Bool) → first ((not a, Refusal.NoDialogue) ∷ (b, Refusal.UnitAbsent) ∷ (not c, Refusal.TransactionOpen) ∷ []) ≡ None → c ≡ true
    go a b true h = refl
    go a b false h = absurd (grind (arith, h))

pre_accept : (who : Who) (up : Option Addr) (p : ℕ) (d : Digest) (u : ℕ) → ((a : Addr) → d.superior ≡ Some a → up ≡ Some a) → refusal who d (Event.Do (Request.Accept u)) ≡ None
    → Prelinked who up p d (Event.Do (Request.Accept u)) (link_with (accepted_by who u (superior_arc d) d).arcs p)
unfolding refusal verdict refused_request
pre_accept who up p d u under ok = go (superior_arc d) refl
  where
    e : Event
    e = Event.Do (Request.Accept u)

    nil : is_nil (phase_of d) ≡ true
    nil = accept_nil who d u ok

    on : (a : Arc) (l : Link) → superior_arc d ≡ Some a → a.link ≡ l → ((prelude who d e).drawn ≡ (accepted_on who u a l d).drawn) → Prelinked who up p d e (link_with (accepted_on who u a l d).arcs p)
    on a Idle i j k = absurd (grind (arith, ok, i, j))
    on a (Opening x) i j k = absurd (grind (arith, ok, i, j))
    on a (Live x y v w) i j k = absurd (grind (arith, ok, i, j))
    on a (Offered x) i j k =
        let s = superior_found d a i in
        let at : a.peer.node ≡ s.0.node = find_arc_is d.arcs s.0.node a s.2 in
        let b : Arc = record a { link = Live x (next_mark who d) 0 0; dialogue = fresh_dialogue u Side.Subordinate } in
        let found : find_arc d.arcs b.peer.node ≡ Some a = ap (find_arc d.arcs) at ∙ s.2 in
        let put = link_put d.arcs a b p found in
        put_go (a.peer.node == p) refl s.0 (under s.0 s.1) at put
      where
        put_go : (c : Bool) → (a.peer.node == p) ≡ c → (s : Addr) → up ≡ Some s → a.peer.node ≡ s.node
            → link_with (put_arc d.arcs (record a { link = Live x (next_mark who d) 0 0; dialogue = fresh_dialogue u Side.Subordinate })) p ≡ (if a.peer.node == p then Live x (next_mark who d) 0 0 else link_with d.arcs p)
            → Prelinked who up p d e (link_with (put_arc d.arcs (record a { link = Live x (next_mark who d) 0 0; dialogue = fresh_dialogue u Side.Subordinate })) p)
        put_go true c s v at put = Now_accepted x (put ∙ rw c refl) (rw v (ap (λ (n : ℕ). n == p) (sym at) ∙ c)) (subst (λ (n : ℕ). suc d.drawn ≤ n) (sym k) (le_refl (suc d.drawn))) (λ z w. refl) nil
        put_go false c s v at put = As_before (put ∙ rw c refl) (λ z w. refl)

    go : (o : Option Arc) → superior_arc d ≡ o → Prelinked who up p d e (link_with (accepted_by who u o d).arcs p)
    go None i = absurd (grind (arith, ok, i))
    go (Some a) i = on a a.link i refl (ap (λ (o : Option Arc). (accepted_by who u o d).drawn) i)

pre_open : (who : Who) (up : Option Addr) (p : ℕ) (d : Digest) (from : Addr) (x : Mark) (u : ℕ) → ((a : Addr) → d.superior ≡ Some a → up ≡ Some a)
    → refusal who d (Event.Arrive from (PeerRecord.OpenAssoc x u)) ≡ None
    → Prelinked who up p d (Event.Arrive from (PeerRecord.OpenAssoc x u)) (link_with (record { peer = from; link = Offered x; dialogue = fresh_dialogue u Side.Subordinate } ∷ d.arcs) p)
unfolding refusal verdict refused_arrival
pre_open who up p d from x u under ok = go (from.node == p) refl
  where
    arcs : List Arc
    arcs = record { peer = from; link = Offered x; dialogue = fresh_dialogue u Side.Subordinate } ∷ d.arcs

    above : is_from_superior d from ≡ true
    above = grind (arith, ok)

    at_up : (o : Option Addr) → d.superior ≡ o → is_at up from.node ≡ true
    at_up None i = absurd (grind (arith, above, i))
    at_up (Some a) i = let same : (a.node == from.node) ≡ true = grind (arith, above, i) in rw (under a i) same

    go : (b : Bool) → (from.node == p) ≡ b → Prelinked who up p d (Event.Arrive from (PeerRecord.OpenAssoc x u)) (link_with arcs p)
    go true i =
        let same : from.node ≡ p = grind (arith, nat_tests) in
        Now_offered x (grind (arith, i)) (subst (λ (n : ℕ). is_at up n ≡ true) same (at_up d.superior refl)) (λ z w. refl)
    go false i = As_before (grind (arith, i)) (λ z w. refl)

pre_confirm : (who : Who) (up : Option Addr) (p : ℕ) (d : Digest) (from : Addr) (x y : Mark) (u : ℕ) → refusal who d (Event.Arrive from (PeerRecord.AcceptAssoc x y u)) ≡ None
    → Prelinked who up p d (Event.Arrive from (PeerRecord.AcceptAssoc x y u)) (link_with (linked (find_arc d.arcs from.node) x y u d).arcs p)
unfolding refusal verdict refused_arrival
pre_confirm who up p d from x y u ok = go (find_arc d.arcs from.node) refl
  where
    e : Event
    e = Event.Arrive from (PeerRecord.AcceptAssoc x y u)

    opened : (a : Arc) (l : Link) → find_arc d.arcs from.node ≡ Some a → a.link ≡ l → a.link ≡ Opening x
    opened a Idle i j = absurd (grind (arith, ok, i, j))
    opened a (Offered z) i j = absurd (grind (arith, ok, i, j))
    opened a (Live z w v n) i j = absurd (grind (arith, ok, i, j))
    opened a (Opening z) i j = let same : is_mark z x ≡ true = grind (arith, ok, i, j) in j ∙ ap (λ (m : Mark). Opening m) (marks_same z x same)

    on : (a : Arc) → find_arc d.arcs from.node ≡ Some a → (c : Bool) → (a.peer.node == p) ≡ c → Prelinked who up p d e (link_with (linked (Some a) x y u d).arcs p)
    on a i c j =
        let at : a.peer.node ≡ from.node = find_arc_is d.arcs from.node a i in
        let b : Arc = record a { link = Live x y 0 0; dialogue = fresh_dialogue u Side.Superior } in
        let put = link_put d.arcs a b p (ap (find_arc d.arcs) at ∙ i) in
        put_go c j at put (opened a a.link i refl)
      where
        put_go : (c : Bool) → (a.peer.node == p) ≡ c → a.peer.node ≡ from.node
            → link_with (put_arc d.arcs (record a { link = Live x y 0 0; dialogue = fresh_dialogue u Side.Superior })) p ≡ (if a.peer.node == p then Live x y 0 0 else link_with d.arcs p)
            → a.link ≡ Opening x → Prelinked who up p d e (link_with (put_arc d.arcs (record a { link = Live x y 0 0; dialogue = fresh_dialogue u Side.Superior })) p)
        put_go true j at put o =
            let same : p ≡ from.node = sym (grind (arith, nat_tests)) ∙ at in
            Now_confirmed x y (ap (link_with d.arcs) same ∙ ap link_of i ∙ o) (put ∙ rw j refl) (λ z w. refl)
        put_go false j at put o = As_before (put ∙ rw j refl) (λ z w. refl)

    go : (o : Option Arc) → find_arc d.arcs from.node ≡ o → Prelinked who up p d e (link_with (linked o x y u d).arcs p)
    go None i = As_before refl (λ z w. refl)
    go (Some a) i = on a i (a.peer.node == p) refl

-- the link that takes a record
pub record Taken (d : Digest) (from : Addr) (x y : Mark) (seq : ℕ) : Type 0 where
  pub sent : ℕ
  pub live : link_with d.arcs from.node ≡ Live x y sent seq

pub takes_next : (who : Who) (d : Digest) (from : Addr) (x y : Mark) (seq : ℕ) (r : DialogueRecord) → refusal who d (Event.Arrive from (PeerRecord.OnAssoc x y seq r)) ≡ None → Taken d from x y seq
unfolding refusal verdict refused_arrival
takes_next who d from x y seq r ok = go (find_arc d.arcs from.node) refl
  where
    on : (a : Arc) (l : Link) → find_arc d.arcs from.node ≡ Some a → a.link ≡ l → Taken d from x y seq
    on a Idle i j = absurd (grind (arith, ok, i, j))
    on a (Opening z) i j = absurd (grind (arith, ok, i, j))
    on a (Offered z) i j = absurd (grind (arith, ok, i, j))
    on a (Live z w s t) i j =
        let mx : is_mark z x ≡ true = grind (arith, ok, i, j) in
        let my : is_mark w y ≡ true = grind (arith, ok, i, j) in
        let n : seq ≡ t = grind (arith, nat_tests, ok, i, j) in
        record { sent = s; live = ap link_of i ∙ j ∙ live_same z x w y s t seq (marks_same z x mx) (marks_same w y my) (sym n) }
      where
        live_same : (z x w y : Mark) (s t q : ℕ) → z ≡ x → w ≡ y → t ≡ q → Live z w s t ≡ Live x y s q
        live_same z x w y s t q e f g = rw (e, f, g) refl

    go : (o : Option Arc) → find_arc d.arcs from.node ≡ o → Taken d from x y seq
    go None i = absurd (grind (arith, ok, i))
    go (Some a) i = on a a.link i refl

pub begun_arcs : (o : Option Arc) (t : Aaid) (b : BranchId) (d : Digest) → (begun_in o t b d).arcs ≡ d.arcs
begun_arcs None t b d = refl
begun_arcs (Some a) t b d = refl

pre_take : (who : Who) (up : Option Addr) (p : ℕ) (d : Digest) (from : Addr) (x y : Mark) (seq : ℕ) (r : DialogueRecord) → refusal who d (Event.Arrive from (PeerRecord.OnAssoc x y seq r)) ≡ None
    → Prelinked who up p d (Event.Arrive from (PeerRecord.OnAssoc x y seq r)) (link_with (with_link d.arcs from.node with_one_taken) p)
pre_take who up p d from x y seq r ok = go (from.node == p) refl
  where
    e : Event
    e = Event.Arrive from (PeerRecord.OnAssoc x y seq r)

    go : (b : Bool) → (from.node == p) ≡ b → Prelinked who up p d e (link_with (with_link d.arcs from.node with_one_taken) p)
    go false i = As_before (link_counted d.arcs from.node p ∙ rw i refl) (λ z w. grind (arith, i))
    go true i =
        let same : from.node ≡ p = grind (arith, nat_tests) in
        let t = takes_next who d from x y seq r ok in
        let live : link_with d.arcs p ≡ Live x y t.sent seq = ap (link_with d.arcs) (sym same) ∙ t.live in
        Took_one from x y t.sent seq r live (link_counted d.arcs from.node p ∙ rw (i, live) refl) same refl

pub prelinked : (who : Who) (up : Option Addr) (p : ℕ) (d : Digest) (e : Event) → ((a : Addr) → d.superior ≡ Some a → up ≡ Some a) → (d.declared ≡ true → d.superior ≡ up) → refusal who d e ≡ None
    → Prelinked who up p d e (link_with (prelude who d e).arcs p)
unfolding after_crash
prelinked who up p d (Event.Do (Request.BeginDialogue a u)) under here ok = pre_call who up p d a u here ok
prelinked who up p d (Event.Do (Request.Accept u)) under here ok = pre_accept who up p d u under ok
prelinked who up p d (Event.Arrive from (PeerRecord.OpenAssoc x u)) under here ok = pre_open who up p d from x u under ok
prelinked who up p d (Event.Arrive from (PeerRecord.AcceptAssoc x y u)) under here ok = pre_confirm who up p d from x y u ok
prelinked who up p d (Event.Arrive from (PeerRecord.OnAssoc x y q (DialogueRecord.Begin t b h))) under here ok =
    subst (λ (arcs : List Arc). Prelinked who up p d (Event.Arrive from (PeerRecord.OnAssoc x y q (DialogueRecord.Begin t b h))) (link_with arcs p)) (sym (begun_arcs (find_arc d.arcs from.node) t b (counted_in d from)))
    (pre_take who up p d from x y q (DialogueRecord.Begin t b h) ok)
prelinked who up p d (Event.Arrive from (PeerRecord.OnAssoc x y q r)) under here ok = pre_take who up p d from x y q r ok
prelinked who up p d Event.Crash under here ok = Now_idle refl (λ x y. refl)
prelinked who up p d _ under here ok = As_before refl (λ x y. refl)
