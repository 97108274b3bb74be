-- What a node answers to an event that is refused at once, or out of phase.
use Rattle.std.proofs.Common.{◌≡◌, ℕ, Bool, true, false, ◌==◌, ◌&&◌, Option, Some, None, [], ◌∷◌, ap, ◌∙◌, refl, arith, if◌then◌else◌}
use Rattle.tp_names.specs.declared.identifiers.Addr.{Addr}
use Rattle.tp_records.specs.declared.peer.PeerRecord.{PeerRecord}
use Rattle.tp_model.specs.Parts.{Who, Digest, Event, Declare, Do, Arrive, Break, Lose, Heur, GiveUp, Retry, Purge, Verdict}
use Rattle.tp_model.specs.Dialogues.{first}
use Rattle.tp_model.specs.Arrivals.{refused_arrival, break_off}
use Rattle.tp_model.specs.Events.{action, refusal, verdict, unless_spent, unless_missing, needs_numbers, says_nothing, retry, is_no_node, is_breaking, is_out_of_phase, has_pair, refusal_in}
use Rattle.tp_model.specs.declared.refusal.Refusal.{Refusal}
use Rattle.tp_model.specs.Refusal.{number_of, number_in}
use Rattle.tp_model.proofs.Verdicts.{plainly_by, accepted_by_none, refused_by_some, breaks_so, breaks_refused}
use Rattle.tp_node.specs.declared.event.NodeEvent.{NodeEvent}
use Rattle.tp_node.specs.NodeEvent.{Answer, Refuses, Happens, event_of, refused_at_once, breaks, answer_at}

-- the answer by the verdict
abbrev told_by : Who → Digest → Event → Verdict → Answer
told_by who d e v = elim v as (λ _. Answer) [
  | Verdict.Accepted ↦ Happens None (action who d e)
  | Verdict.Refused n ↦ Refuses (number_of n)
  | Verdict.Breaks from r ↦ Happens (Some 24) (action who d (Break from r))
]

answered : (who : Who) (d : Digest) (e : Event) (v : Verdict) → verdict who d e ≡ v → answer_at who d e ≡ told_by who d e v
answered who d e v h = ap (told_by who d e) h

pub happens : (who : Who) (d : Digest) (e : Event) → refusal who d e ≡ None → answer_at who d e ≡ Happens None (action who d e)
happens who d e h = answered who d e Verdict.Accepted (accepted_by_none who d e h)

refuses : (who : Who) (d : Digest) (e : Event) (n : Refusal) → verdict who d e ≡ Verdict.Refused n → answer_at who d e ≡ Refuses (number_of n)
refuses who d e n h = answered who d e (Verdict.Refused n) h

-- ---- a record that arrives

breaks_by : (who : Who) (d : Digest) (from : Addr) (r : PeerRecord) (n : Refusal) → refused_arrival who d from r ≡ Some n → is_breaking who d from r ≡ (has_pair r && (number_of n == 24))
breaks_by who d from r n h = ap (λ (x : Option Refusal). has_pair r && is_out_of_phase x) h

arrives : (who : Who) (d : Digest) (from : Addr) (r : PeerRecord) (n : Refusal) (b : Bool) → refused_arrival who d from r ≡ Some n → is_breaking who d from r ≡ b
    → verdict who d (Arrive from r) ≡ (if b then unless_spent (break_off who from r d) (Verdict.Breaks from r) else Verdict.Refused n)
arrives who d from r n b h is = plainly_by who d (Arrive from r) n h ∙ ap (λ (x : Bool). if x then unless_spent (break_off who from r d) (Verdict.Breaks from r) else Verdict.Refused n) is

-- ---- what is refused at once

turned : (a b : Bool) → (a && b) ≡ false → (b && a) ≡ false
turned a b h = grind (arith, h)

pub refused_whole : (who : Who) (d : Digest) (e : NodeEvent) (n : Refusal) → refused_at_once who d e ≡ Some n → ((number_of n == 24) && breaks e) ≡ false → answer_at who d (event_of e) ≡ Refuses (number_of n)
refused_whole who d (NodeEvent.Declare s) n h b = refuses who d (Declare s) n (plainly_by who d (Declare s) n h)
refused_whole who d (NodeEvent.Do r) n h b = refuses who d (Do r.now) n (plainly_by who d (Do r.now) n h)
refused_whole who d (NodeEvent.Arrive from r) n h b = refuses who d (Arrive from r.now) n (arrives who d from r.now n false h (breaks_by who d from r.now n h ∙ turned (number_of n == 24) (has_pair r.now) b))
refused_whole who d (NodeEvent.Lose p) n h b = refuses who d (Lose p) n (plainly_by who d (Lose p) n h)
refused_whole who d (NodeEvent.Heur o) n h b = refuses who d (Heur o) n (plainly_by who d (Heur o) n h)
refused_whole who d (NodeEvent.GiveUp p) n h b = refuses who d (GiveUp p) n (plainly_by who d (GiveUp p) n h)
refused_whole who d NodeEvent.Retry n h b = refuses who d Retry n (plainly_by who d Retry n (go (is_no_node d) refl h))
  where
    go : (x : Bool) → is_no_node d ≡ x → unless_missing x None ≡ Some n → unless_missing (is_no_node d) (first ((says_nothing (retry who d).outs, Refusal.NothingOwed) ∷ [])) ≡ Some n
    go true i j = ap (λ (x : Bool). unless_missing x (first ((says_nothing (retry who d).outs, Refusal.NothingOwed) ∷ []))) i ∙ j
    go false i j = absurd (cc (j))
refused_whole who d NodeEvent.Purge n h b = refuses who d Purge n (plainly_by who d Purge n h)

-- what ends no association is refused at once by no other answer
pub refused_plain : (who : Who) (d : Digest) (e : NodeEvent) (n : Refusal) (k : ℕ) → breaks e ≡ false → refused_at_once who d e ≡ Some n → number_of n ≡ k → answer_at who d (event_of e) ≡ Refuses k
refused_plain who d e n k b h is = refused_whole who d e n h (never (number_of n == 24) (breaks e) b) ∙ ap Refuses is
  where
    never : (x y : Bool) → y ≡ false → (x && y) ≡ false
    never true y h = h
    never false y h = refl

-- ---- what is refused once it was tried

pub refused_later : (who : Who) (d : Digest) (e : NodeEvent) (k : ℕ) → refused_at_once who d e ≡ None → number_in (refusal who d (event_of e)) ≡ Some k → answer_at who d (event_of e) ≡ Refuses k
refused_later who d e k none h = go (refusal who d (event_of e)) refl h
  where
    other : (v : Event) (from : Addr) (r : PeerRecord) → verdict who d v ≡ Verdict.Breaks from r → v ≡ Arrive from r
    other v from r b = (breaks_so who d v from r b).0

    unbroken : (g : NodeEvent) → refused_at_once who d g ≡ None → (from : Addr) (r : PeerRecord) → verdict who d (event_of g) ≡ Verdict.Breaks from r → ⊥
    unbroken (NodeEvent.Declare s) none from r b = let i = other (Declare s) from r b in absurd (cc (i))
    unbroken (NodeEvent.Do q) none from r b = let i = other (Do q.now) from r b in absurd (cc (i))
    unbroken (NodeEvent.Arrive a s) none from r b = breaks_refused who d (Arrive a s.now) from r b none
    unbroken (NodeEvent.Lose p) none from r b = let i = other (Lose p) from r b in absurd (cc (i))
    unbroken (NodeEvent.Heur o) none from r b = let i = other (Heur o) from r b in absurd (cc (i))
    unbroken (NodeEvent.GiveUp p) none from r b = let i = other (GiveUp p) from r b in absurd (cc (i))
    unbroken NodeEvent.Retry none from r b = let i = other Retry from r b in absurd (cc (i))
    unbroken NodeEvent.Purge none from r b = let i = other Purge from r b in absurd (cc (i))

    go : (o : Option Refusal) → refusal who d (event_of e) ≡ o → number_in o ≡ Some k → answer_at who d (event_of e) ≡ Refuses k
    go None i j = absurd (cc (j))
    go (Some n) i j = let same : number_of n ≡ k = cc (j) in refuses who d (event_of e) n (refused_by_some who d (event_of e) n i (unbroken e none)) ∙ ap Refuses same

-- ---- the loss that follows an answer out of phase

abbrev within : Bool → Verdict → Verdict
within spent v = if spent then Verdict.Refused Refusal.NumbersSpent else v

out_of_phase : (who : Who) (d : Digest) (from : Addr) (r : PeerRecord) → refused_arrival who d from r ≡ Some Refusal.OutOfPhase → has_pair r ≡ true → verdict who d (Arrive from r) ≡ within (needs_numbers (break_off who from r d)) (Verdict.Breaks from r)
out_of_phase who d from r h p = arrives who d from r Refusal.OutOfPhase true h (breaks_by who d from r Refusal.OutOfPhase h ∙ ap (λ (x : Bool). x && true) p)

pub broken : (who : Who) (d : Digest) (from : Addr) (r : PeerRecord) → refused_arrival who d from r ≡ Some Refusal.OutOfPhase → has_pair r ≡ true → refusal_in (unless_spent (break_off who from r d) Verdict.Accepted) ≡ None
    → answer_at who d (Arrive from r) ≡ Happens (Some 24) (break_off who from r d)
broken who d from r h p s = answered who d (Arrive from r) (Verdict.Breaks from r) (out_of_phase who d from r h p ∙ not_spent (needs_numbers (break_off who from r d)) s)
  where
    not_spent : (b : Bool) → refusal_in (within b Verdict.Accepted) ≡ None → within b (Verdict.Breaks from r) ≡ Verdict.Breaks from r
    not_spent true i = absurd (cc (i))
    not_spent false i = refl

pub broken_spent : (who : Who) (d : Digest) (from : Addr) (r : PeerRecord) (k : ℕ) → refused_arrival who d from r ≡ Some Refusal.OutOfPhase → has_pair r ≡ true → number_in (refusal_in (unless_spent (break_off who from r d) Verdict.Accepted)) ≡ Some k
    → answer_at who d (Arrive from r) ≡ Refuses k
broken_spent who d from r k h p s = go (needs_numbers (break_off who from r d)) (out_of_phase who d from r h p) s
  where
    go : (b : Bool) → verdict who d (Arrive from r) ≡ within b (Verdict.Breaks from r) → number_in (refusal_in (within b Verdict.Accepted)) ≡ Some k → answer_at who d (Arrive from r) ≡ Refuses k
    go true i j = let same : 17 ≡ k = cc (j) in refuses who d (Arrive from r) Refusal.NumbersSpent i ∙ ap Refuses same
    go false i j = absurd (cc (j))
