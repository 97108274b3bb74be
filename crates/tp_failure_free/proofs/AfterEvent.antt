-- What an event that is no failure leaves of the current transaction, while its tree is current: what was put to it leaves what
-- remains of the turn; where nothing is put, it stays, and branches may begin. What is noted of a branch stays.
use Rattle.std.proofs.Common.{if◌then◌else◌, ◌≡◌, inl, inr, ℕ, Bool, true, false, refl, ap, sym, subst, ◌∙◌, arith, Option, Some, None, List, [], ◌∷◌}
use Rattle.tp_names.specs.declared.identifiers.Mark.{Mark}
use Rattle.tp_names.specs.declared.identifiers.Addr.{Addr}
use Rattle.tp_records.specs.declared.peer.PeerRecord.{PeerRecord}
use Rattle.tp_names.specs.declared.identifiers.Aaid.{Aaid}
use Rattle.tp_names.specs.declared.children.Child.{Child}
use Rattle.tp_names.specs.Same.{is_aaid}
use Rattle.tp_model.specs.declared.arc.Phase.{Phase}
use Rattle.tp_model.specs.declared.transaction.TxEvent.{TxEvent}
use Rattle.tp_model.specs.declared.transaction.TxOut.{TxOut}
use Rattle.tp_model.specs.declared.recovery.Kept.{Kept}
use Rattle.tp_model.specs.Parts.{Who, Origin, Event, Entry, Arc, Branch, Current, Digest}
use Rattle.tp_model.specs.Dialogues.{is_nil}
use Rattle.tp_model.specs.Arcs.{find_arc}
use Rattle.tp_model.specs.Transactions.{Transaction, aaid_of, row_holds, transacted}
use Rattle.tp_model.specs.Arrivals.{broken_pair}
use Rattle.tp_model.specs.Node.{Move, move, followed, perform, next_mark, seen, remaining, passage, is_leaving, is_over, may_begin_on, begin_on, try_start, passed, turned, transact, started_next}
use Rattle.tp_model.specs.Events.{retry_each}
use Rattle.tp_model.specs.History.{digest}
use Rattle.tp_model.specs.Outcomes.{is_now}
use Rattle.tp_steps.specs.Traces.{is_old}
use Rattle.tp_steps.specs.Trees.{IsTreed}
use Rattle.tp_steps.specs.Moves.{IsPut}
use Rattle.tp_steps.specs.Facts.{find_branch}
use Rattle.tp_steps.specs.Heeding.{has_answered, has_ended}
use Rattle.tp_steps.specs.Puts.{Put, put_by, with_others, IsPutTo}
use Rattle.tp_histories.specs.Puts.{IsLeftAlone, Stays, Begins, Stops}
use Rattle.tp_failure_free.specs.Drained.{branch_is, IsUnfailed, Keeps, StaysCounted, StaysEnded}
use Rattle.tp_steps.proofs.every.EveryMove.{every_start}
use Rattle.tp_steps.proofs.words.Treed.{drawn_new}
use Rattle.tp_histories.proofs.trees.TreedMoves.{treed_moves}
use Rattle.tp_histories.proofs.worlds.TreeMembers.{now_old}
use Rattle.tp_histories.proofs.order.InOrderLaw.{empty_apart}
use Rattle.tp_histories.proofs.order.PutLaw.{put_law, alone_law}
use Rattle.tp_steps.proofs.log.Sound.{left_is, left_branches}
use Rattle.tp_steps.proofs.branches.Heeding.{heeding_event}
use Rattle.tp_failure_free.proofs.LiveTurned.{holds_left, more_branches}
use Rattle.tp_failure_free.proofs.LiveLaw.{mild_put, legal_of, mild_entry, no_crash, among_of}
use Rattle.tp_steps.proofs.every.BeginCases.{begun_over, begin_cases}
use Rattle.tp_control.proofs.LedEvents.{seen_holds}

-- ---- what is put

-- a transaction that is over
pub over_none : (l : Bool) (p q : Phase) → is_over (passage l p q) ≡ true → is_nil q ≡ true
over_none l p q h = grind (arith, h)

-- of a tree that is drawn no more, none is begun
start_other : (who : Who) (g : Digest) (t : Aaid) → g.current ≡ None → is_old who g t.mark ≡ true → is_now t (try_start who g).next.current ≡ true → ⊥
start_other who g t none old n = elim (starts.enters (λ c i. absurd (cc (none, i))) n) [
  | inl here ↦ cc (ap (is_now t) none, here)
  | inr x ↦ drawn_new who g (try_start who g).next t x old
]
  where
    starts : IsTreed who g true t 0 g (try_start who g)
    starts = every_start who Event.Retry g (IsTreed who g true t 0) (treed_moves who Event.Retry g true t 0 (λ x y z at asked h. refl)) g

pub remains_none : (t : Transaction) → is_nil t.phase ≡ true → remaining t ≡ None
remains_none t n = rw (n, remaining) refl

transact_current : (who : Who) (f : TxEvent) (g : Digest) (c : Current) (t : Aaid) (u : Current) → g.current ≡ Some c → is_old who g t.mark ≡ true → (transact who f g).next.current ≡ Some u → is_now t (Some u) ≡ true
    → remaining (transacted f (seen who g.arcs c)).next ≡ Some u
unfolding transact
transact_current who f g c t u i old = subst (λ (o : Option Current). (elim o as (λ _. Move) [ None ↦ move [] g | Some x ↦ started_next who (passed who f g x) (turned who f g x) ]).next.current ≡ Some u → is_now t (Some u) ≡ true → remaining (transacted f (seen who g.arcs c)).next ≡ Some u) (sym i) (go (is_over (passed who f g c)) refl)
  where
    go : (b : Bool) → is_over (passed who f g c) ≡ b → (if b then followed (turned who f g c) (try_start who) else turned who f g c).next.current ≡ Some u → is_now t (Some u) ≡ true → remaining (transacted f (seen who g.arcs c)).next ≡ Some u
    go false j is now = is
    go true j is now =
        let none : remaining (transacted f (seen who g.arcs c)).next ≡ None = remains_none (transacted f (seen who g.arcs c)).next (over_none (is_leaving f) c.phase (transacted f (seen who g.arcs c)).next.phase j) in
        absurd (start_other who (turned who f g c).next t none old (ap (is_now t) is ∙ now))

-- where it is not over, that is what is current
pub transact_forward : (who : Who) (f : TxEvent) (g : Digest) (c : Current) → g.current ≡ Some c → is_over (passed who f g c) ≡ false → (transact who f g).next.current ≡ remaining (transacted f (seen who g.arcs c)).next
unfolding transact
transact_forward who f g c i over =
    ap (λ (o : Option Current). (elim o as (λ _. Move) [ None ↦ move [] g | Some x ↦ started_next who (passed who f g x) (turned who f g x) ]).next.current) i
    ∙ ap (λ (b : Bool). (if b then followed (turned who f g c) (try_start who) else turned who f g c).next.current) over

pub retry_current : (ks : List Kept) (d : Digest) → (retry_each ks d).next.current ≡ d.current
retry_current [] d = refl
retry_current (k ∷ ks) d = retry_current ks _

pub others_current : (d : Digest) (e : Event) (m : Move) → (with_others d e m).next.current ≡ m.next.current
others_current d Event.Retry m = retry_current m.next.kept m.next
others_current d (Event.Break from r) m = go (broken_pair r)
  where
    go : (o : Option (Mark × Mark)) → (elim o as (λ _. Move) [ None ↦ m | Some xy ↦ followed (perform (TxOut.Recovery from (PeerRecord.ShutAssoc xy.0 (Some xy.1)) ∷ []) d) (λ g. m) ]).next.current ≡ m.next.current
    go None = refl
    go (Some xy) = refl
others_current d e m = refl

-- ---- what an entry leaves, while the tree is current

-- each branch is found as it was
abbrev pub FindsAll : Current → Current → Type 0
FindsAll c u = (p : ℕ) (b : Branch) → find_branch c.branches p ≡ Some b → find_branch u.branches p ≡ Some b

pub data IsAfter (o : Origin) (h : List Entry) (e : Entry) (c u : Current) : Type 0 where
  Untouched : put_by o.who (digest o h) e.event ≡ None → u.key ≡ c.key → u.phase ≡ c.phase → FindsAll c u → IsAfter o h e c u
  Was_put : (x : Put) → put_by o.who (digest o h) e.event ≡ Some x → IsPut x.event (seen o.who x.arcs c) → remaining (transacted x.event (seen o.who x.arcs c)).next ≡ Some u → IsAfter o h e c u

begun_after : (who : Who) (arcs : List Arc) (c u : Current) (n : Child) → remaining (transacted (TxEvent.Begun (n ∷ [])) (seen who arcs c)).next ≡ Some u → (u.key ≡ c.key) × (u.phase ≡ c.phase) × FindsAll c u
begun_after who arcs c u n is = (left.0, left.1, λ p b found. ap (λ (bs : List Branch). find_branch bs p) (left_branches t u is) ∙ more_branches arcs c.branches n p ∙ rw found refl)
  where
    t : Transaction
    t = (transacted (TxEvent.Begun (n ∷ [])) (seen who arcs c)).next

    left : (u.key ≡ t.key) × (u.phase ≡ t.phase) × (u.decision ≡ t.decision) × (is_nil t.phase ≡ false)
    left = left_is t u is

itself : (c u : Current) → Some c ≡ Some u → (u.key ≡ c.key) × (u.phase ≡ c.phase) × FindsAll c u
itself c u is = let same : c ≡ u = cc (is) in subst (λ (v : Current). (v.key ≡ c.key) × (v.phase ≡ c.phase) × FindsAll c v) same (refl, refl, λ p b found. found)

pub begin_after : (who : Who) (q : ℕ) (d : Digest) (c u : Current) → d.current ≡ Some c → (begin_on who q d).next.current ≡ Some u → (u.key ≡ c.key) × (u.phase ≡ c.phase) × FindsAll c u
begin_after who q d c u i = begin_cases (λ (m : Move). m.next.current ≡ Some u → (u.key ≡ c.key) × (u.phase ≡ c.phase) × FindsAll c u) who q d (λ is. itself c u (sym i ∙ is)) on
  where
    on : (x : Current) (a : Arc) → d.current ≡ Some x → find_arc d.arcs q ≡ Some a → may_begin_on who d a ≡ true → (begun_over who q d x a).next.current ≡ Some u → (u.key ≡ c.key) × (u.phase ≡ c.phase) × FindsAll c u
    on x a now found may is =
        let same : x ≡ c = cc (sym now ∙ i) in
        begun_after who d.arcs c u (record { addr = a.peer; branch = record { superior = who.site; mark = next_mark who d } }) (subst (λ (y : Current). (begun_over who q d y a).next.current ≡ Some u) same is)

pub after_event : (t : Aaid) (o : Origin) (up : Option Addr) (h : List Entry) (e : Entry) (c u : Current) → IsUnfailed t o up (e ∷ h) → (digest o h).current ≡ Some c → (digest o (e ∷ h)).current ≡ Some u → is_aaid t (aaid_of c.key) ≡ true → is_aaid t (aaid_of u.key) ≡ true
    → IsAfter o h e c u
after_event t o up h e c u k i is tree now = go (put_by o.who d e.event) refl
  where
    d : Digest
    d = digest o h

    late : is_nil c.phase ≡ false
    late = (among_of o up h c k.fresh k.grown.3 i).current

    old : is_old o.who d t.mark ≡ true
    old = now_old o up h t k.fresh k.grown.3 k.once.1 (ap (is_now t) i ∙ tree)

    aside : put_by o.who d e.event ≡ None → IsLeftAlone o.who d e.event c → IsAfter o h e c u
    aside j (Stays same) = let s = itself c u (sym same ∙ is) in Untouched j s.0 s.1 s.2
    aside j (Begins p g may at same) = let s = begin_after o.who p g c u at (ap (λ (x : Digest). x.current) (sym same) ∙ is) in Untouched j s.0 s.1 s.2
    aside j (Stops crash same) = absurd (no_crash t o up e h k (ap (is_now t) i ∙ tree) crash)

    go : (v : Option Put) → put_by o.who d e.event ≡ v → IsAfter o h e c u
    go None j = aside j (alone_law o up h e.event c k.grown.3 k.grown.0 i j)
    go (Some x) j =
        let g : Digest = record d { arcs = x.arcs } in
        let to : IsPutTo o.who d e.event c x = put_law o up h e.event c x (legal_of o up h k.fresh k.grown.3) (empty_apart o k.fresh) k.grown.0 i j in
        let next : (transact o.who x.event g).next.current ≡ Some u = sym (others_current d e.event (transact o.who x.event g)) ∙ ap (λ (m : Move). m.next.current) (sym to.acts) ∙ is in
        Was_put x j (mild_put o.who d e.event c x i late k.grown.0 (mild_entry t o up e h c k i tree) to j).put (transact_current o.who x.event g c t u i old next now)

-- ---- what is noted of a branch stays

pub holds_after : (who : Who) (arcs : List Arc) (c u : Current) (t : Transaction) (p : ℕ) (f : Branch → Bool) → remaining t ≡ Some u → row_holds t.rows p f ≡ true → branch_is f u p ≡ true
holds_after who arcs c u t p f is h = ap (λ (bs : List Branch). elim (find_branch bs p) as (λ _. Bool) [ None ↦ false | Some b ↦ f b ]) (left_branches t u is) ∙ holds_left t.rows p f ∙ h

pub found_holds : (c u : Current) (p : ℕ) (f : Branch → Bool) → FindsAll c u → branch_is f c p ≡ true → branch_is f u p ≡ true
found_holds c u p f finds h = go (find_branch c.branches p) refl
  where
    go : (o : Option Branch) → find_branch c.branches p ≡ o → branch_is f u p ≡ true
    go None i = absurd (grind (arith, h, i))
    go (Some b) i = rw (finds p b i, branch_is) (rw (i, branch_is) at h)

stays_by : (f : Branch → Bool) → ((e : TxEvent) (s : Transaction) → IsPut e s → (p : ℕ) → row_holds s.rows p f ≡ true → row_holds (transacted e s).next.rows p f ≡ true)
    → (t : Aaid) (o : Origin) (up : Option Addr) (h : List Entry) (e : Entry) → IsUnfailed t o up (e ∷ h) → Keeps f t o h e
stays_by f turns t o up h e k c u p i is tree now holds = go (after_event t o up h e c u k i is tree now)
  where
    go : IsAfter o h e c u → branch_is f u p ≡ true
    go (Untouched j key phase finds) = found_holds c u p f finds holds
    go (Was_put x j put is) =
        holds_after o.who x.arcs c u (transacted x.event (seen o.who x.arcs c)).next p f is (turns x.event (seen o.who x.arcs c) put p (seen_holds x.arcs c.branches p f ∙ holds))

pub stays_counted : (t : Aaid) (o : Origin) (up : Option Addr) (h : List Entry) (e : Entry) → IsUnfailed t o up (e ∷ h) → StaysCounted t o h e
stays_counted = stays_by has_answered (λ e s put. (heeding_event e s put).answered)

pub stays_ended : (t : Aaid) (o : Origin) (up : Option Addr) (h : List Entry) (e : Entry) → IsUnfailed t o up (e ∷ h) → StaysEnded t o h e
stays_ended = stays_by has_ended (λ e s put. (heeding_event e s put).ended)
