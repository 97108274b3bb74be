-- What a node refuses is the same in each version of its log, but for the room that it has for subordinates.
use Rattle.std.proofs.Common.{◌≡◌, ◌==◌, ◌+◌, ◌⊎◌, inl, inr, ◌&&◌, ◌||◌, ℕ, suc, not, Bool, true, false, refl, ap, sym, ◌∙◌, Option, Some, None, List, [], ◌∷◌, if◌then◌else◌, arith}
use Rattle.std.specs.Prelude.{nat_le, is_some}
use Rattle.std.proofs.lemmas.Bool.Decides.{nat_tests}
use Rattle.tp_names.specs.declared.identifiers.Addr.{Addr}
use Rattle.tp_units.specs.Units.{bad_bit}
use Rattle.tp_records.specs.declared.peer.PeerRecord.{PeerRecord}
use Rattle.tp_records.specs.declared.peer.RecState.{RecState}
use Rattle.tp_records.specs.declared.request.Request.{Request}
use Rattle.tp_logrec.specs.declared.record.LogVersion.{LogVersion}
use Rattle.tp_model.specs.declared.refusal.Refusal.{Refusal}
use Rattle.tp_model.specs.declared.refusal.Refusal.TheVariants.{WrongPhase, UnitAbsent, AlreadyAsked, TooMany, WrongSite, OldAssociation, NothingOwed, OutOfPhase}
use Rattle.tp_model.specs.Parts.{Who, Event, Arc, Digest, Verdict, Accepted, Refused, Breaks}
use Rattle.tp_model.specs.Links.{dropped_by}
use Rattle.tp_model.specs.Dialogues.{is_late, first, Sight}
use Rattle.tp_model.specs.Arcs.{find_arc, link_from}
use Rattle.tp_model.specs.Transactions.{out_of_phase}
use Rattle.tp_model.specs.Node.{Move, is_superior, phase_of, has_asked}
use Rattle.tp_model.specs.Requests.{is_branch_below, count_below, count_gone, count_subordinates, refused_request}
use Rattle.tp_model.specs.Arrivals.{sight_at, refused_arrival, break_off}
use Rattle.tp_model.specs.Events.{says_nothing, is_begin_dialogue, is_no_node, unless_missing, has_pair, is_out_of_phase, is_breaking, refused_plainly, unless_spent, may_need_numbers, verdict_within, verdict_against, verdict}
use Rattle.tp_processes.proofs.AnyVersion.{at, sees_at, breaks, retries, acts}

-- ---- a new dialogue

abbrev tests : Bool → Bool → Bool → Bool → Option Refusal
tests p q r full = first ((p, WrongPhase) ∷ (q, UnitAbsent) ∷ (r, AlreadyAsked) ∷ (full, TooMany) ∷ [])

-- where the one has no room, the other has or has not
tests_alike : (p q r b c : Bool) → (c ≡ true → b ≡ true) → (tests p q r b ≡ tests p q r c) ⊎ (tests p q r b ≡ Some TooMany)
tests_alike true q r b c more = inl refl
tests_alike false true r b c more = inl refl
tests_alike false false true b c more = inl refl
tests_alike false false false true c more = inr refl
tests_alike false false false false false more = inl refl
tests_alike false false false false true more = absurd (cc (more refl))

counts : (v : LogVersion) (d : Digest) (arcs : List Arc) → count_below (at v d) arcs ≡ count_below d arcs
counts v d [] = refl
counts v d (a ∷ arcs) = ap (λ (n : ℕ). if is_superior d a.peer.node then n else suc n) (counts v d arcs)

subordinates : (v : LogVersion) (d : Digest) → count_subordinates (at v d) ≡ count_subordinates d
subordinates v d = ap (λ (n : ℕ). n + elim d.current [ None ↦ 0 | Some c ↦ count_gone d.arcs c.branches ]) (counts v d d.arcs)

more_room : (n : ℕ) → nat_le 256 n ≡ true → nat_le 32 n ≡ true
more_room n h = grind (arith, nat_tests, h)

calls_alike : (who : Who) (d : Digest) (a : Addr) (u : ℕ)
    → (refused_request who (at LogVersion.One d) (Request.BeginDialogue a u) ≡ refused_request who (at LogVersion.Two d) (Request.BeginDialogue a u)) ⊎ (refused_request who (at LogVersion.One d) (Request.BeginDialogue a u) ≡ Some TooMany)
unfolding refused_request
calls_alike who d a u = elim (tests_alike p q (has_asked d) (nat_le 32 n) (nat_le 256 n) (more_room n)) [ inl same ↦ inl (one ∙ same ∙ sym two) | inr full ↦ inr (one ∙ full) ]
  where
    n : ℕ
    n = count_subordinates d

    p : Bool
    p = (a.node == who.node) || is_superior d a.node || is_some (find_arc d.arcs a.node) || is_branch_below d a.node || is_late (phase_of d)

    q : Bool
    q = is_some (bad_bit u)

    one : tests p q (has_asked d) (nat_le 32 (count_subordinates (at LogVersion.One d))) ≡ tests p q (has_asked d) (nat_le 32 n)
    one = ap (λ (k : ℕ). tests p q (has_asked d) (nat_le 32 k)) (subordinates LogVersion.One d)

    two : tests p q (has_asked d) (nat_le 256 (count_subordinates (at LogVersion.Two d))) ≡ tests p q (has_asked d) (nat_le 256 n)
    two = ap (λ (k : ℕ). tests p q (has_asked d) (nat_le 256 k)) (subordinates LogVersion.Two d)

-- ---- all other requests, and records

requests_same : (who : Who) (v : LogVersion) (d : Digest) (r : Request) → is_begin_dialogue r ≡ false → refused_request who (at v d) r ≡ refused_request who d r
unfolding refused_request
requests_same who v d (Request.BeginDialogue a u) h = absurd (cc (h))
requests_same who v d (Request.Accept u) h = refl
requests_same who v d Request.Reject h = refl
requests_same who v d (Request.EndDialogue p) h = refl
requests_same who v d (Request.UserData p xs) h = refl
requests_same who v d (Request.UError p) h = refl
requests_same who v d (Request.UAbort p) h = refl
requests_same who v d (Request.Grant p) h = refl
requests_same who v d (Request.AskControl p) h = refl
requests_same who v d (Request.Handshake p) h = refl
requests_same who v d (Request.Respond p) h = refl
requests_same who v d (Request.HandshakeGrant p) h = refl
requests_same who v d (Request.BeginTransaction p) h = refl
requests_same who v d (Request.DeferEnd p) h = refl
requests_same who v d (Request.DeferGrant p) h = refl
requests_same who v d (Request.Prepare p) h = refl
requests_same who v d Request.Commit h = refl
requests_same who v d Request.Done h = refl
requests_same who v d Request.Rollback h = refl
requests_same who v d Request.Unchanged h = refl

arrivals_same : (who : Who) (v : LogVersion) (d : Digest) (from : Addr) (r : PeerRecord) → refused_arrival who (at v d) from r ≡ refused_arrival who d from r
unfolding refused_arrival
arrivals_same who v d from (PeerRecord.OpenAssoc x u) = refl
arrivals_same who v d from (PeerRecord.AcceptAssoc x y u) = refl
arrivals_same who v d from (PeerRecord.ShutAssoc x y) = refl
arrivals_same who v d from (PeerRecord.OnAssoc x y seq r) = by (dropped_by (link_from d.arcs from) x y seq) (find_arc d.arcs from.node)
  where
    found : Digest → Option Arc → Option Refusal
    found e o = elim o as (λ _. Option Refusal) [ None ↦ Some OldAssociation | Some a ↦ out_of_phase (sight_at who e a r) ]

    by : (k : Option Refusal) (o : Option Arc)
        → (if not d.declared then Some WrongSite else elim k as (λ _. Option Refusal) [ Some n ↦ Some n | None ↦ found (at v d) o ]) ≡ (if not d.declared then Some WrongSite else elim k as (λ _. Option Refusal) [ Some n ↦ Some n | None ↦ found d o ])
    by (Some n) o = refl
    by None None = refl
    by None (Some a) = ap (λ (s : Sight). if not d.declared then Some WrongSite else out_of_phase s) (sees_at who v d a r)
arrivals_same who v d from (PeerRecord.RecReady t b) = refl
arrivals_same who v d from (PeerRecord.RecCommit t b) = refl
arrivals_same who v d from (PeerRecord.RecReply t b (RecState.Done r)) = refl
arrivals_same who v d from (PeerRecord.RecReply t b RecState.Commit) = refl
arrivals_same who v d from (PeerRecord.RecReply t b RecState.Unknown) = refl
arrivals_same who v d from (PeerRecord.RecReply t b RecState.RetryLater) = refl
arrivals_same who v d from (PeerRecord.Forget t b) = refl

breaking_same : (who : Who) (v : LogVersion) (d : Digest) (from : Addr) (r : PeerRecord) → is_breaking who (at v d) from r ≡ is_breaking who d from r
breaking_same who v d from r = ap (λ (x : Option Refusal). has_pair r && is_out_of_phase x) (arrivals_same who v d from r)

-- ---- every event

abbrev is_call : Event → Bool
is_call (Event.Do r) = is_begin_dialogue r
is_call _ = false

plainly_same : (who : Who) (v : LogVersion) (d : Digest) (e : Event) → is_call e ≡ false → refused_plainly who (at v d) e ≡ refused_plainly who d e
plainly_same who v d (Event.Declare s) h = refl
plainly_same who v d (Event.Do r) h = ap (unless_missing (is_no_node d || (not d.declared && is_begin_dialogue r))) (requests_same who v d r h)
plainly_same who v d (Event.Arrive from r) h = arrivals_same who v d from r
plainly_same who v d (Event.Break from r) h = ap (λ (b : Bool). if b then None else Some OutOfPhase) (breaking_same who v d from r)
plainly_same who v d (Event.Lose p) h = refl
plainly_same who v d (Event.Heur o) h = refl
plainly_same who v d (Event.GiveUp p) h = refl
plainly_same who v d Event.Retry h = ap (λ (m : Move). unless_missing (is_no_node d) (first ((says_nothing m.outs, NothingOwed) ∷ []))) (retries who v d)
plainly_same who v d Event.Purge h = refl
plainly_same who v d Event.Crash h = refl

within_same : (who : Who) (v : LogVersion) (d : Digest) (e : Event) → verdict_within who (at v d) e ≡ verdict_within who d e
within_same who v d e = ap (λ (m : Move). if may_need_numbers e then unless_spent m Accepted else Accepted) (acts who e v d)

against_same : (who : Who) (v : LogVersion) (d : Digest) (e : Event) (x : Refusal) → verdict_against who (at v d) e x ≡ verdict_against who d e x
against_same who v d (Event.Declare s) x = refl
against_same who v d (Event.Do r) x = refl
against_same who v d (Event.Arrive from r) x =
    ap (λ (b : Bool). if b then unless_spent (break_off who from r (at v d)) (Breaks from r) else Refused x) (breaking_same who v d from r)
    ∙ ap (λ (m : Move). if is_breaking who d from r then unless_spent m (Breaks from r) else Refused x) (breaks who from r v d)
against_same who v d (Event.Break from r) x = refl
against_same who v d (Event.Lose p) x = refl
against_same who v d (Event.Heur o) x = refl
against_same who v d (Event.GiveUp p) x = refl
against_same who v d Event.Retry x = refl
against_same who v d Event.Purge x = refl
against_same who v d Event.Crash x = refl

abbrev by_plain : Who → Digest → Event → Option Refusal → Verdict
by_plain who d e x = elim x as (λ _. Verdict) [ None ↦ verdict_within who d e | Some k ↦ verdict_against who d e k ]

by_same : (who : Who) (v : LogVersion) (d : Digest) (e : Event) (x : Option Refusal) → by_plain who (at v d) e x ≡ by_plain who d e x
by_same who v d e None = within_same who v d e
by_same who v d e (Some k) = against_same who v d e k

-- the verdict in version 1 is that in version 2, or it is that there is no room
abbrev pub IsVerdict : Who → Digest → Event → Type 0
IsVerdict who d e = (verdict who (at LogVersion.One d) e ≡ verdict who (at LogVersion.Two d) e) ⊎ (verdict who (at LogVersion.One d) e ≡ Refused TooMany)

pub verdicts : (who : Who) (d : Digest) (e : Event) → IsVerdict who d e
unfolding verdict
verdicts who d e = by e (is_call e) refl
  where
    one : Digest
    one = at LogVersion.One d

    two : Digest
    two = at LogVersion.Two d

    same : (e : Event) → refused_plainly who one e ≡ refused_plainly who two e → IsVerdict who d e
    same e is = inl (ap (by_plain who one e) is ∙ by_same who LogVersion.One d e (refused_plainly who two e) ∙ sym (by_same who LogVersion.Two d e (refused_plainly who two e)))

    missing : (b : Bool) (x y : Option Refusal) → (x ≡ y) ⊎ (x ≡ Some TooMany) → (unless_missing b x ≡ unless_missing b y) ⊎ (unless_missing b x ≡ Some TooMany)
    missing true x y is = inl refl
    missing false x y is = is

    by : (e : Event) (b : Bool) → is_call e ≡ b → IsVerdict who d e
    by e false h = same e (plainly_same who LogVersion.One d e h ∙ sym (plainly_same who LogVersion.Two d e h))
    by (Event.Do (Request.BeginDialogue a u)) true h = elim (missing (is_no_node d || (not d.declared && true)) _ _ (calls_alike who d a u)) [
      | inl is ↦ same (Event.Do (Request.BeginDialogue a u)) is
      | inr full ↦ inr (ap (by_plain who one (Event.Do (Request.BeginDialogue a u))) full)
    ]
    by e true h = absurd (cc (h))
