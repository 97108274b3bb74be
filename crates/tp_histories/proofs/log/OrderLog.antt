-- The records of a legal history stay in order.
use Rattle.std.proofs.Common.{◌≡◌, ◌≤◌, inl, inr, ℕ, suc, true, false, refl, ap, sym, subst, ◌∙◌, arith, Option, Some, None, List, [], ◌∷◌, ◌++◌, reverse}
use Rattle.std.specs.Prelude.{nat_le}
use Rattle.std.proofs.lemmas.List.{reverse-append, reverse-reverse}
use Rattle.tp_names.specs.declared.identifiers.NodeKey.{NodeKey}
use Rattle.tp_names.specs.declared.identifiers.Addr.{Addr}
use Rattle.tp_records.specs.declared.dialogue.DialogueRecord.{DialogueRecord}
use Rattle.tp_records.specs.declared.peer.PeerRecord.{PeerRecord}
use Rattle.tp_logrec.specs.declared.record.LogRec.{LogRec}
use Rattle.tp_logrec.specs.Order.{follows, follow_from}
use Rattle.tp_logrec.proofs.BriefOrders.{follow_from-append}
use Rattle.tp_model.specs.declared.recovery.Kept.{Kept}
use Rattle.tp_model.specs.Parts.{Who, Origin, Event, Entry, Arc, Key, Under, Current, Digest}
use Rattle.tp_model.specs.Arcs.{find_arc}
use Rattle.tp_model.specs.Transactions.{node_key, is_under}
use Rattle.tp_model.specs.Recovery.{kept_after, not_forgotten}
use Rattle.tp_model.specs.Node.{Move, fresh_current}
use Rattle.tp_model.specs.Events.{recovered_current, after_crash, started, action}
use Rattle.tp_model.specs.History.{digest, with_rec, records}
use Rattle.tp_model.specs.World.{Node}
use Rattle.tp_model.specs.Happenings.{Happening, run}
use Rattle.tp_model.specs.Promises.{IsIn}
use Rattle.tp_model.specs.Legal.{IsGrown, are_in_order}
use Rattle.tp_steps.specs.Moves.{prelude, begun_in, counted_in}
use Rattle.tp_steps.specs.Standing.{current_after}
use Rattle.tp_histories.specs.Restart.{IsFounded}
use Rattle.tp_steps.proofs.lemmas.Equality.{both_true}
use Rattle.tp_steps.proofs.every.EveryEvent.{every_move}
use Rattle.tp_histories.proofs.trees.Late.{late_law}
use Rattle.tp_steps.proofs.links.Marks.{prelude_drawn}
use Rattle.tp_histories.proofs.log.KeptLog.{kept_prelude}
use Rattle.tp_steps.proofs.log.ApartLog.{logged_key}
use Rattle.tp_steps.proofs.log.SoundMoves.{IsSound}
use Rattle.tp_histories.proofs.log.SoundLog.{sound_first}
use Rattle.tp_steps.proofs.log.StandLog.{IsFit}
use Rattle.tp_steps.proofs.log.StepLog.{fit_step}
use Rattle.tp_steps.proofs.log.NextLog.{MayFollow}
use Rattle.tp_histories.proofs.log.OrderMoves.{IsReached, IsOrderMove, order_moves, at_most_le}
use Rattle.tp_histories.proofs.log.StartLog.{IsSoundStart, sound_start}
use Rattle.tp_histories.proofs.log.RestartLog.{founded}

-- ---- what comes first in an event

pub rises : (who : Who) (d : Digest) (e : Event) → d.boot ≤ (prelude who d e).boot
rises who d e = elim (prelude_drawn who d e) as (λ _. d.boot ≤ (prelude who d e).boot) [ inl h ↦ same d.boot (prelude who d e).boot h.0 | inr h ↦ less d.boot (prelude who d e).boot h ]
  where
    same : (m n : ℕ) → n ≡ m → m ≤ n
    same m n h = omega (arith, h)

    less : (m n : ℕ) → suc m ≤ n → m ≤ n
    less m n h = omega (arith, h)

reached_same : (d e : Digest) → e.current ≡ d.current → d.boot ≤ e.boot → IsReached d → IsReached e
reached_same d e now le h c is root = at_most_le (node_key c.key).aaid.mark.boot d.boot e.boot (h c (sym now ∙ is) root) le

reached_crash : (d : Digest) → IsReached d → IsReached (after_crash d)
unfolding after_crash
reached_crash d h c is root =
    let v = logged_key d.current c is in
    let one : nat_le (node_key v.0.key).aaid.mark.boot d.boot ≡ true = h v.0 v.1 (ap is_under (sym v.2) ∙ root) in
    at_most_le (node_key c.key).aaid.mark.boot d.boot (suc d.boot) (subst (λ (k : Key). nat_le (node_key k).aaid.mark.boot d.boot ≡ true) (sym v.2) one) (omega arith)

pub reached_first : (who : Who) (d : Digest) (e : Event) → IsReached d → IsReached (prelude who d e)
reached_first who d (Event.Declare u) h = reached_same d (prelude who d (Event.Declare u)) refl (rises who d (Event.Declare u)) h
reached_first who d (Event.Do r) h = reached_same d (prelude who d (Event.Do r)) (grind arith) (rises who d (Event.Do r)) h
reached_first who d (Event.Arrive from (PeerRecord.OnAssoc x y q (DialogueRecord.Begin t b k))) h = go (find_arc d.arcs from.node)
  where
    go : (o : Option Arc) → IsReached (begun_in o t b (counted_in d from))
    go None = h
    go (Some a) = λ c is root. let same : fresh_current (Under t b a.peer) ≡ c = cc (is) in let off : true ≡ false = ap (λ (z : Current). is_under z.key) same ∙ root in absurd (cc (off))
reached_first who d (Event.Arrive from r) h = reached_same d (prelude who d (Event.Arrive from r)) (grind arith) (rises who d (Event.Arrive from r)) h
reached_first who d Event.Crash h = reached_crash d h
reached_first who d _ h = h

-- ---- every legal history

-- the records follow each other after every boot from the last on, and tell what is current and what is kept
pub record IsInOrder (o : Origin) (rs : List LogRec) (d : Digest) : Type 0 where
  pub follow : (b : ℕ) → d.boot ≤ b → follow_from (LogRec.Boot b ∷ []) rs ≡ true
  pub fit : IsFit o.who.node rs (recovered_current d.current) (not_forgotten d.kept)
  pub reached : IsReached d
  pub sound : IsSound o.who d

pub first_boot : (o : Origin) → (digest o []).boot ≡ o.start.boot
unfolding started
first_boot o = refl

order_event : (o : Origin) (rs : List LogRec) (d : Digest) (m : Move) (x : Option LogRec) → m.rec ≡ x → IsOrderMove o.who d m → IsInOrder o (reverse rs) d → IsInOrder o (reverse (with_rec x rs)) m.next
order_event o rs d m None made moved h =
    let sound = moved.1 h.sound in
    record {
      follow = λ b le. h.follow b (subst (λ (n : ℕ). n ≤ b) moved.0.0 le);
      fit =
          subst (λ (l : Option Current). IsFit o.who.node (reverse rs) l (not_forgotten m.next.kept)) (ap (λ (y : Option LogRec). current_after y (recovered_current d.current)) (sym made) ∙ sound.1)
          (subst (λ (ks : List Kept). IsFit o.who.node (reverse rs) (recovered_current d.current) ks) (ap (λ (y : Option LogRec). kept_after y (not_forgotten d.kept)) (sym made) ∙ sym moved.2.0) h.fit);
      reached = moved.0.1 h.reached;
      sound = sound.0;
    }
order_event o rs d m (Some r) made moved h =
    let sound = moved.1 h.sound in
    let n : ℕ = o.who.node in
    let may : (b : ℕ) → d.boot ≤ b → (k : NodeKey) × MayFollow n b (reverse rs) k r = λ b le. moved.3 (reverse rs) b le h.sound h.reached h.fit r made in
    let now = may d.boot (itself d.boot) in
    let grown : reverse (r ∷ rs) ≡ reverse rs ++ r ∷ [] = reverse-append (r ∷ []) rs in
    let fit = fit_step n d.boot (reverse rs) r (recovered_current d.current) (not_forgotten d.kept) now.0 now.1.0 now.1.1 h.fit in
    record {
      follow = λ b le.
          let le : d.boot ≤ b = subst (λ (n : ℕ). n ≤ b) moved.0.0 le in
          ap (follow_from (LogRec.Boot b ∷ [])) grown ∙ follow_from-append (LogRec.Boot b ∷ []) (reverse rs) (r ∷ [])
          ∙ both_true (follow_from (LogRec.Boot b ∷ []) (reverse rs)) (follow_from (LogRec.Boot b ∷ reverse rs) (r ∷ [])) (h.follow b le) (both_true (follows (LogRec.Boot b ∷ reverse rs) r) true (may b le).1.1 refl);
      fit =
          subst (λ (qs : List LogRec). IsFit n qs (recovered_current m.next.current) (not_forgotten m.next.kept)) (sym grown)
          (subst (λ (l : Option Current). IsFit n (reverse rs ++ r ∷ []) l (not_forgotten m.next.kept)) (ap (λ (y : Option LogRec). current_after y (recovered_current d.current)) (sym made) ∙ sound.1)
          (subst (λ (ks : List Kept). IsFit n (reverse rs ++ r ∷ []) (current_after (Some r) (recovered_current d.current)) ks) (ap (λ (y : Option LogRec). kept_after y (not_forgotten d.kept)) (sym made) ∙ sym moved.2.0) fit));
      reached = moved.0.1 h.reached;
      sound = sound.0;
    }
  where
    itself : (n : ℕ) → n ≤ n
    itself n = omega arith

order_prelude : (o : Origin) (rs : List LogRec) (d p : Digest) → d.boot ≤ p.boot → recovered_current p.current ≡ recovered_current d.current → not_forgotten p.kept ≡ not_forgotten d.kept → IsReached p → IsSound o.who p → IsInOrder o rs d
    → IsInOrder o rs p
order_prelude o rs d p le now kept reached sound h = record {
  follow = λ b i. h.follow b (through d.boot p.boot b le i);
  fit =
      subst (λ (l : Option Current). IsFit o.who.node rs l (not_forgotten p.kept)) (sym now) (subst (λ (ks : List Kept). IsFit o.who.node rs (recovered_current d.current) ks) (sym kept) h.fit);
  reached = reached;
  sound = sound;
}
  where
    through : (x y z : ℕ) → x ≤ y → y ≤ z → x ≤ z
    through x y z h i = omega (arith, h, i)

pub order_law : (o : Origin) (up : Option Addr) (h : List Entry) → IsSoundStart o → IsGrown o up h → IsInOrder o (reverse (records o h)) (digest o h)
order_law o up [] start legal =
    subst (λ (rs : List LogRec). IsInOrder o rs (digest o [])) (sym (reverse-reverse o.start.records))
    (record { follow = λ b le. start.follow b (subst (λ (n : ℕ). n ≤ b) (first_boot o) le); fit = start.fit; reached = start.reached; sound = start.sound })
order_law o up (e ∷ h) start legal =
    let d : Digest = digest o h in
    let p : Digest = prelude o.who d e.event in
    let before : IsInOrder o (reverse (records o h)) d = order_law o up h start legal.3 in
    let first = sound_first o.who d e.event legal.0 before.sound in
    let moved : IsOrderMove o.who p (action o.who d e.event) = every_move o.who d e.event (IsOrderMove o.who) (order_moves o.who e.event p) (late_law o up h legal.3) legal.0 in
    order_event o (records o h) p (action o.who d e.event) e.rec (ap (λ (x : Entry). x.rec) legal.1) moved
    (order_prelude o (reverse (records o h)) d p (rises o.who d e.event) first.1 (kept_prelude o.who d e.event).0 (reached_first o.who d e.event before.reached) first.0 before)

pub records_follow : (o : Origin) (up : Option Addr) (h : List Entry) → IsFounded o up h → are_in_order o h ≡ true
records_follow o up h is = (order_law o up h (sound_start o is.legal.start is.earlier) is.legal.grown).follow (digest o h).boot (itself (digest o h).boot)
  where
    itself : (n : ℕ) → n ≤ n
    itself n = omega arith

pub run_follows : (es : List Happening) (x : Node) → IsIn (run es) x → are_in_order x.origin x.history ≡ true
run_follows es x here = records_follow x.origin x.superior x.history (founded es x here)
