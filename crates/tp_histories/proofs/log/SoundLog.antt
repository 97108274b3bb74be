-- What a crash leaves of the current transaction is what the records of the history give.
use Rattle.std.proofs.Common.{◌≡◌, inl, inr, Bool, true, false, refl, ap, sym, subst, ◌∙◌, arith, Option, Some, None, List, [], ◌∷◌, ◌++◌, reverse}
use Rattle.std.proofs.lemmas.List.{reverse-append, reverse-reverse}
use Rattle.tp_names.specs.declared.identifiers.Mark.{Mark}
use Rattle.tp_names.specs.declared.identifiers.Aaid.{Aaid}
use Rattle.tp_names.specs.declared.identifiers.BranchId.{BranchId}
use Rattle.tp_names.specs.declared.identifiers.NodeKey.{NodeKey}
use Rattle.tp_names.specs.declared.identifiers.Addr.{Addr}
use Rattle.tp_names.specs.Same.{is_key}
use Rattle.tp_records.specs.declared.dialogue.DialogueRecord.{DialogueRecord}
use Rattle.tp_records.specs.declared.dialogue.Holder.{Holder}
use Rattle.tp_records.specs.declared.peer.PeerRecord.{PeerRecord}
use Rattle.tp_logrec.specs.declared.record.LogRec.{LogRec}
use Rattle.tp_model.specs.declared.arc.Phase.{Phase}
use Rattle.tp_model.specs.declared.recovery.Kept.{Kept}
use Rattle.tp_model.specs.Parts.{Who, Origin, Event, Entry, Arc, Key, Under, Branch, Current, Digest}
use Rattle.tp_model.specs.Dialogues.{is_nil, is_active}
use Rattle.tp_model.specs.Arcs.{find_arc}
use Rattle.tp_model.specs.Transactions.{node_key, fresh_branch}
use Rattle.tp_model.specs.Recovery.{not_forgotten, find_kept}
use Rattle.tp_model.specs.Node.{phase_of, fresh_current}
use Rattle.tp_model.specs.Arrivals.{branch_key, sight_of, refused_arrival}
use Rattle.tp_model.specs.Events.{recovered, named_again, recovered_current, after_crash, current_by, current_from, refusal, action}
use Rattle.tp_model.specs.History.{digest, with_rec, records}
use Rattle.tp_model.specs.Legal.{IsGrown}
use Rattle.tp_steps.specs.Moves.{prelude, begun_in, counted_in}
use Rattle.tp_steps.specs.Standing.{current_after, AreApart}
use Rattle.tp_steps.proofs.every.EveryEvent.{every_move, plain_arrival}
use Rattle.tp_histories.proofs.trees.Late.{late_law}
use Rattle.tp_steps.proofs.links.Marks.{Drawn, Same_boot, Later_boot, old_stays, prelude_drawn}
use Rattle.tp_steps.proofs.log.TurnLog.{key_self}
use Rattle.tp_steps.proofs.log.ApartLog.{logged_key}
use Rattle.tp_steps.proofs.log.SoundMoves.{IsOldKey, AreOld, IsSound, IsSoundMove, old_list, sound_same, apart_noted, keys_noted, nil_off, sound_moves}

-- ---- a Begin that is taken has a key that is not kept

begin_new : (who : Who) (d : Digest) (from : Addr) (x y : Mark) (q : _) (t : Aaid) (b : BranchId) (h : Holder) (a : Arc) → refused_arrival who d from (PeerRecord.OnAssoc x y q (DialogueRecord.Begin t b h)) ≡ None
    → find_arc d.arcs from.node ≡ Some a → (v : Option Kept) → find_kept d.kept (branch_key t b) ≡ v → v ≡ None
unfolding refused_arrival sight_of
begin_new who d from x y q t b h a ok i None j = refl
begin_new who d from x y q t b h a ok i (Some k) j = absurd (grind (arith, ok, i, j))

begin_first : (who : Who) (d : Digest) (from : Addr) (x y : Mark) (q : _) (t : Aaid) (b : BranchId) (h : Holder) (a : Arc) → refused_arrival who d from (PeerRecord.OnAssoc x y q (DialogueRecord.Begin t b h)) ≡ None
    → find_arc d.arcs from.node ≡ Some a → (v : Bool) → is_nil (phase_of d) ≡ v → v ≡ true
unfolding refused_arrival sight_of
begin_first who d from x y q t b h a ok i true j = refl
begin_first who d from x y q t b h a ok i false j = absurd (grind (arith, ok, i, j))

unfound_apart : (k : NodeKey) (ks : List Kept) → find_kept ks k ≡ None → AreApart k ks
unfound_apart k [] h = tt
unfound_apart k (x ∷ xs) h = go (is_key x.key k) refl h (unfound_apart k xs)
  where
    go : (b : Bool) → is_key x.key k ≡ b → find_kept (x ∷ xs) k ≡ None → (find_kept xs k ≡ None → AreApart k xs) → AreApart k (x ∷ xs)
    go true i h rest = let no : Some x ≡ None = rw (i, find_kept) at h in absurd (cc (no))
    go false i h rest = (
      λ same. let yes : is_key x.key k ≡ true = ap (λ (j : NodeKey). is_key x.key j) (sym same) ∙ key_self x.key in cc (yes, i),
      rest (rw (i, find_kept) at h),
    )

-- ---- what comes first in an event

abbrev IsSoundFirst : Who → Digest → Digest → Type 0
IsSoundFirst who d e = IsSound who e × (recovered_current e.current ≡ recovered_current d.current)

pub drawn_by : (who : Who) (d : Digest) (e : Event) → Drawn d (prelude who d e)
drawn_by who d e = elim (prelude_drawn who d e) as (λ _. Drawn d (prelude who d e)) [ inl h ↦ Same_boot h.0 h.1 | inr h ↦ Later_boot h ]

same_first : (who : Who) (d : Digest) (e : Event) → (prelude who d e).current ≡ d.current → (prelude who d e).kept ≡ d.kept → IsSound who d → IsSoundFirst who d (prelude who d e)
same_first who d e now kept s = (sound_same who d (prelude who d e) (drawn_by who d e) now kept s, ap recovered_current now)

begun_first : (who : Who) (d g : Digest) (t : Aaid) (b : BranchId) (a : Arc) → Drawn d g → g.kept ≡ d.kept → is_nil (phase_of d) ≡ true → find_kept d.kept (branch_key t b) ≡ None → IsSound who d
    → IsSoundFirst who d (record g { current = Some (fresh_current (Under t b a.peer)) })
begun_first who d g t b a drawn kept nil none s =
    let e : Digest = record g { current = Some (fresh_current (Under t b a.peer)) } in
    let own : (c : Current) → Some (fresh_current (Under t b a.peer)) ≡ Some c → fresh_current (Under t b a.peer) ≡ c = λ c is. cc (is) in (
      (
        λ c is rolls. subst (λ (x : Current). AreApart (node_key x.key) g.kept) (own c is) (subst (λ (ks : List Kept). AreApart (branch_key t b) ks) (sym kept) (unfound_apart (branch_key t b) d.kept none)),
        subst (λ (ks : List Kept). AreOld who e ks) (sym kept) (old_list who d e d.kept (wider drawn) s.1),
        λ c is. subst (λ (x : Current). IsOldKey who e (node_key x.key)) (own c is) (λ i. absurd (cc (i))),
        λ c is act. ap (λ (x : Current). x.decision) (sym (own c is)),
      ),
      sym (nil_off d nil),
    )
  where
    wider : Drawn d g → Drawn d (record g { current = Some (fresh_current (Under t b a.peer)) })
    wider (Same_boot i n) = Same_boot i n
    wider (Later_boot n) = Later_boot n

again_named : (bs : List Branch) → named_again (named_again bs) ≡ named_again bs
again_named [] = refl
again_named (b ∷ bs) = go b.left (again_named bs)
  where
    go : (l : Bool) → named_again (named_again bs) ≡ named_again bs
        → named_again (named_again (record b { left = l } ∷ bs)) ≡ named_again (record b { left = l } ∷ bs)
    go true rest = rest
    go false rest = ap (λ (xs : List Branch). fresh_branch (record { addr = b.peer; branch = b.id }) ∷ xs) rest

-- a crash after a crash leaves the same
pub recovered_again : (o : Option Current) → recovered_current (recovered_current o) ≡ recovered_current o
recovered_again None = refl
recovered_again (Some c) = go c.phase
  where
    go : (p : Phase) → recovered_current (recovered_current (Some (record c { phase = p }))) ≡ recovered_current (Some (record c { phase = p }))
    go Phase.Nil = refl
    go Phase.Active = refl
    go Phase.Ready = ap (λ (bs : List Branch). Some (recovered c.key Phase.Ready bs c.decision)) (again_named c.branches)
    go Phase.Committing = ap (λ (bs : List Branch). Some (recovered c.key Phase.Committing bs c.decision)) (again_named c.branches)
    go Phase.Rolling = refl

pub not_active : (o : Option Current) (c : Current) → recovered_current o ≡ Some c → is_active c.phase ≡ false
not_active None c h = absurd (cc (h))
not_active (Some u) c h = go u.phase h
  where
    go : (p : Phase) → recovered_current (Some (record u { phase = p })) ≡ Some c → is_active c.phase ≡ false
    go Phase.Nil h = absurd (cc (h))
    go Phase.Active h = absurd (cc (h))
    go Phase.Ready h = grind (arith, h)
    go Phase.Committing h = grind (arith, h)
    go Phase.Rolling h = absurd (cc (h))

crash_first : (who : Who) (d : Digest) → IsSound who d → IsSoundFirst who d (after_crash d)
unfolding after_crash
crash_first who d s =
    let e : Digest = after_crash d in (
      (
        λ c is rolls. let v = logged_key d.current c is in
            subst (λ (k : Key). AreApart (node_key k) (not_forgotten d.kept)) (sym v.2) (apart_noted (node_key v.0.key) d.kept (s.0 v.0 v.1 v.3)),
        keys_noted (IsOldKey who e) d.kept (old_list who d e d.kept (Later_boot (omega arith)) s.1),
        λ c is i. let v = logged_key d.current c is in
            old_stays who d e (node_key c.key).aaid.mark (Later_boot (omega arith)) (subst (λ (k : Key). IsOldKey who d (node_key k)) (sym v.2) (s.2 v.0 v.1) i),
        λ c is act. absurd (let no = not_active d.current c is in cc (no, act)),
      ),
      recovered_again d.current,
    )

pub sound_first : (who : Who) (d : Digest) (e : Event) → refusal who d e ≡ None → IsSound who d → IsSoundFirst who d (prelude who d e)
sound_first who d (Event.Declare u) ok s = same_first who d (Event.Declare u) refl refl s
sound_first who d (Event.Do r) ok s = same_first who d (Event.Do r) (grind arith) (grind arith) s
sound_first who d (Event.Arrive from (PeerRecord.OnAssoc x y q (DialogueRecord.Begin t b h))) ok s = go (find_arc d.arcs from.node) refl
  where
    ev : Event
    ev = Event.Arrive from (PeerRecord.OnAssoc x y q (DialogueRecord.Begin t b h))

    plain : refused_arrival who d from (PeerRecord.OnAssoc x y q (DialogueRecord.Begin t b h)) ≡ None
    plain = plain_arrival who d from (PeerRecord.OnAssoc x y q (DialogueRecord.Begin t b h)) ok

    go : (o : Option Arc) → find_arc d.arcs from.node ≡ o → IsSoundFirst who d (begun_in o t b (counted_in d from))
    go None i = (sound_same who d (counted_in d from) (Same_boot refl (omega arith)) refl refl s, refl)
    go (Some a) i =
        begun_first who d (counted_in d from) t b a (Same_boot refl (omega arith)) refl
        (begin_first who d from x y q t b h a plain i (is_nil (phase_of d)) refl)
        (begin_new who d from x y q t b h a plain i (find_kept d.kept (branch_key t b)) refl) s
sound_first who d (Event.Arrive from r) ok s = same_first who d (Event.Arrive from r) (grind arith) (grind arith) s
sound_first who d (Event.Break from r) ok s = same_first who d (Event.Break from r) refl refl s
sound_first who d (Event.Lose p) ok s = same_first who d (Event.Lose p) refl refl s
sound_first who d (Event.Heur o) ok s = same_first who d (Event.Heur o) refl refl s
sound_first who d (Event.GiveUp p) ok s = same_first who d (Event.GiveUp p) refl refl s
sound_first who d Event.Retry ok s = same_first who d Event.Retry refl refl s
sound_first who d Event.Purge ok s = same_first who d Event.Purge refl refl s
sound_first who d Event.Crash ok s = crash_first who d s

-- ---- every legal history

from_last : (c : Option Current) (rs : List LogRec) (r : LogRec) → current_from c (rs ++ r ∷ []) ≡ current_after (Some r) (current_from c rs)
from_last c [] r = refl
from_last c (x ∷ rs) r = from_last (current_by x c) rs r

pub from_newest : (o : Option LogRec) (rs : List LogRec) → current_from None (reverse (with_rec o rs)) ≡ current_after o (current_from None (reverse rs))
from_newest None rs = refl
from_newest (Some r) rs = ap (current_from None) (reverse-append (r ∷ []) rs) ∙ from_last None (reverse rs) r

-- where the start is sound and is what a crash leaves, every event keeps it so
pub sound_law : (o : Origin) (up : Option Addr) (h : List Entry) → IsSound o.who (digest o []) → recovered_current (digest o []).current ≡ current_from None o.start.records → IsGrown o up h
    → IsSound o.who (digest o h) × (current_from None (reverse (records o h)) ≡ recovered_current (digest o h).current)
sound_law o up [] s same legal = (s, ap (current_from None) (reverse-reverse o.start.records) ∙ sym same)
sound_law o up (e ∷ h) s same legal =
    let d : Digest = digest o h in
    let before = sound_law o up h s same legal.3 in
    let made : (action o.who d e.event).rec ≡ e.rec = ap (λ (x : Entry). x.rec) legal.1 in
    let first = sound_first o.who d e.event legal.0 before.0 in
    let moved : IsSoundMove o.who (prelude o.who d e.event) (action o.who d e.event) =
    every_move o.who d e.event (IsSoundMove o.who) (sound_moves o.who e.event (prelude o.who d e.event)) (late_law o up h legal.3) legal.0 in
    let after = moved first.0 in (
      after.0,
      from_newest e.rec (records o h) ∙ ap (current_after e.rec) (before.1 ∙ sym first.1) ∙ ap (λ (x : Option LogRec). current_after x (recovered_current (prelude o.who d e.event).current)) (sym made) ∙ after.1,
    )
