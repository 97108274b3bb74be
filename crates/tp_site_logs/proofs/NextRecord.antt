-- The record that an entry forces is one of its node, and follows what the log has of the node.
use Rattle.tp_site_logs.proofs.Vocabulary.{◌≡◌, ◌≤◌, ◌&&◌, ◌++◌, ℕ, true, refl, ap, sym, ◌∙◌, subst, Option, Some, List, [], ◌∷◌, reverse, reverse-append, both, Addr, LogRec, follows, follow_from, follow_from-append, Origin, Entry, Digest, digest, records, with_rec, IsGrown, IsOwnRec, IsSoundStart, is_start}
use Rattle.tp_model.specs.declared.recovery.Kept.{Kept}
use Rattle.tp_model.specs.Recovery.{not_forgotten}
use Rattle.tp_model.specs.Events.{action}
use Rattle.tp_steps.specs.Moves.{prelude}
use Rattle.tp_steps.proofs.every.EveryEvent.{every_move}
use Rattle.tp_steps.proofs.log.OwnRecords.{AreAt, IsAtMove, at_noted, at_unnoted, at_moves}
use Rattle.tp_steps.proofs.log.StandLog.{AreKept}
use Rattle.tp_histories.specs.Restart.{are_earlier}
use Rattle.tp_histories.proofs.trees.Late.{late_law}
use Rattle.tp_histories.proofs.log.KeptLog.{kept_prelude}
use Rattle.tp_histories.proofs.log.StartLog.{sound_start}
use Rattle.tp_histories.proofs.log.OrderLog.{IsInOrder, order_law}

-- what is kept is of the node
kept_at : (n : ℕ) (rs : List LogRec) (ks : List Kept) → AreKept n rs ks → AreAt n ks
kept_at n rs [] h = tt
kept_at n rs (k ∷ ks) h = (h.1.node, kept_at n rs ks h.2)

own_record : (o : Origin) (up : Option Addr) (h : List Entry) (e : Entry) → IsSoundStart o → IsGrown o up (e ∷ h) → IsOwnRec o.who.node e.rec
own_record o up h e start grown =
    let n : ℕ = o.who.node in
    let d : Digest = digest o h in
    let p : Digest = prelude o.who d e.event in
    let before : IsInOrder o (reverse (records o h)) d = order_law o up h start grown.3 in
    let at : AreAt n d.kept = at_unnoted n d.kept (kept_at n (reverse (records o h)) (not_forgotten d.kept) before.fit.kept) in
    let first : AreAt n p.kept = at_unnoted n p.kept (subst (AreAt n) (sym (kept_prelude o.who d e.event).0) (at_noted n d.kept at)) in
    let moved : IsAtMove n p (action o.who d e.event) = every_move o.who d e.event (IsAtMove n) (at_moves o.who e.event p) (late_law o up h grown.3) grown.0 in
    subst (IsOwnRec n) (ap (λ (x : Entry). x.rec) grown.1) (moved first).0

pub record IsNext (n boot : ℕ) (rs : List LogRec) (r : LogRec) : Type 0 where
  pub own : IsOwnRec n (Some r)
  pub fits : follows (LogRec.Boot boot ∷ rs) r ≡ true

pub next_record : (o : Origin) (up : Option Addr) (h : List Entry) (e : Entry) (r : LogRec) (boot : ℕ) → IsSoundStart o → IsGrown o up (e ∷ h) → e.rec ≡ Some r → (digest o (e ∷ h)).boot ≤ boot
    → IsNext o.who.node boot (reverse (records o h)) r
next_record o up h e r boot start grown made le =
    let rs : List LogRec = reverse (records o h) in
    let list : reverse (records o (e ∷ h)) ≡ rs ++ r ∷ [] = ap (λ (x : Option LogRec). reverse (with_rec x (records o h))) made ∙ reverse-append (r ∷ []) (records o h) in
    let all : follow_from (LogRec.Boot boot ∷ []) (rs ++ r ∷ []) ≡ true = ap (follow_from (LogRec.Boot boot ∷ [])) (sym list) ∙ (order_law o up (e ∷ h) start grown).follow boot le in
    record {
      own = subst (IsOwnRec o.who.node) made (own_record o up h e start grown);
      fits = (both (follows (LogRec.Boot boot ∷ rs) r) true (both (follow_from (LogRec.Boot boot ∷ []) rs) (follows (LogRec.Boot boot ∷ rs) r && true) (sym (follow_from-append (LogRec.Boot boot ∷ []) rs (r ∷ [])) ∙ all)).1).0;
    }

-- of a node whose log was empty at first
pub sound_empty : (o : Origin) → o.start.records ≡ [] → IsSoundStart o
sound_empty o empty = sound_start o (rw (empty, is_start) refl) (ap (are_earlier o.start.boot) empty)
