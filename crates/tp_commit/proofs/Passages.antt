-- The arcs after an event, as the transaction sees them: what its passage and its outputs make of them.
use Rattle.std.proofs.Common.{◌≡◌, ℕ, Bool, true, false, refl, ap, sym, ◌∙◌, arith, Option, Some, None, List, ◌&&◌, ◌||◌, ◌==◌, not}
use Rattle.std.proofs.lemmas.Bool.Decides.{nat_tests}
use Rattle.tp_records.specs.declared.dialogue.DialogueRecord.{DialogueRecord}
use Rattle.tp_model.specs.declared.arc.Phase.{Phase}
use Rattle.tp_model.specs.declared.transaction.TxOut.{TxOut}
use Rattle.tp_model.specs.Parts.{Arc, Digest}
use Rattle.tp_model.specs.Dialogues.{is_nil, is_committing, is_rolling, cleared}
use Rattle.tp_model.specs.Arcs.{find_arc, is_live_with_peer, without_arc, with_dialogues, carried, shut_with, performed}
use Rattle.tp_model.specs.Transactions.{Transaction, is_under_at, Turn}
use Rattle.tp_model.specs.Node.{is_end_deferred_at, without_deferral, is_arc_of, Passage, Stays, Enters, Falls, Falls_at_once, Commits, Rolls_back, Leaves, passage, is_over, entered, played}
use Rattle.tp_model.specs.AmongArcs.{IsAlike, IsCut}
use Rattle.tp_commit.proofs.Arcs.{alike, alike_carried, alike_performed, shuts_none, live_gone, ends_gone, alike_others, alike_cleared, live_forgotten, ends_forgotten}
use Rattle.tp_commit.proofs.Marks.{IsLater, has_row_at}

-- ---- while the transaction lasts

pub not_over : (leaving : Bool) (p q : Phase) → is_nil q ≡ false → is_over (passage leaving p q) ≡ false
not_over leaving Phase.Nil q h = refl
not_over leaving Phase.Active Phase.Nil h = absurd cc
not_over leaving Phase.Active Phase.Active h = refl
not_over leaving Phase.Active Phase.Ready h = refl
not_over leaving Phase.Active Phase.Committing h = refl
not_over leaving Phase.Active Phase.Rolling h = refl
not_over leaving Phase.Ready Phase.Nil h = absurd cc
not_over leaving Phase.Ready Phase.Active h = refl
not_over leaving Phase.Ready Phase.Ready h = refl
not_over leaving Phase.Ready Phase.Committing h = refl
not_over leaving Phase.Ready Phase.Rolling h = refl
not_over leaving Phase.Committing Phase.Nil h = absurd cc
not_over leaving Phase.Committing Phase.Active h = refl
not_over leaving Phase.Committing Phase.Ready h = refl
not_over leaving Phase.Committing Phase.Committing h = refl
not_over leaving Phase.Committing Phase.Rolling h = refl
not_over leaving Phase.Rolling Phase.Nil h = absurd cc
not_over leaving Phase.Rolling Phase.Active h = refl
not_over leaving Phase.Rolling Phase.Ready h = refl
not_over leaving Phase.Rolling Phase.Committing h = refl
not_over leaving Phase.Rolling Phase.Rolling h = refl

pub lasting : (d : Digest) (t : Transaction) (w : Passage) (asks : Turn) (arcs : List Arc) → is_over w ≡ false → (played d t w asks arcs).0 ≡ (performed arcs asks.outs).0
unfolding played
lasting d t Stays asks arcs h = refl
lasting d t Enters asks arcs h = refl
lasting d t Falls asks arcs h = refl
lasting d t Falls_at_once asks arcs h = absurd cc
lasting d t Commits asks arcs h = absurd cc
lasting d t Rolls_back asks arcs h = absurd cc
lasting d t Leaves asks arcs h = absurd cc

-- ---- what a passage does to an arc of the transaction

abbrev pub peer_of : Transaction → ℕ → Bool
peer_of t q = is_under_at t.key q || has_row_at t.rows q

and_true : (b : Bool) → b ≡ (b && true)
and_true true = refl
and_true false = refl

and_false : (b : Bool) → false ≡ (b && false)
and_false true = refl
and_false false = refl

later_alike : (q : ℕ) (arcs later : List Arc) → IsAlike q arcs later → IsLater false q arcs later
later_alike q arcs later k = record { live = k.live; ends = k.ends ∙ and_true (is_end_deferred_at arcs q) }

later_falls : (t : Transaction) (q : ℕ) (arcs : List Arc) → peer_of t q ≡ true → IsLater true q arcs (with_dialogues arcs (is_arc_of t) (λ a. without_deferral (cleared a.dialogue)))
later_falls t q arcs h = record {
  live = live_forgotten q arcs (is_arc_of t);
  ends = ends_forgotten q arcs (peer_of t) h ∙ and_false (is_end_deferred_at arcs q);
}

later_rolling : (q : ℕ) (arcs : List Arc) → is_end_deferred_at arcs q ≡ false → IsLater true q arcs arcs
later_rolling q arcs h = record { live = refl; ends = h ∙ and_false (is_end_deferred_at arcs q) }

pub passed_later : (t : Transaction) (leaving : Bool) (next : Phase) (arcs : List Arc) (q : ℕ) → is_nil t.phase ≡ false → is_nil next ≡ false → (is_committing t.phase ≡ true → is_committing next ≡ true)
    → peer_of t q ≡ true → (is_rolling t.phase ≡ true → is_end_deferred_at arcs q ≡ false) → IsLater (is_rolling next) q arcs (entered t (passage leaving t.phase next) arcs)
unfolding entered
passed_later t leaving next arcs q here late commits peer forgotten = go t.phase next here late commits forgotten
  where
    same : IsLater false q arcs arcs
    same = later_alike q arcs arcs (alike q arcs)

    enters : IsLater false q arcs (with_dialogues arcs (is_arc_of t) (λ a. cleared a.dialogue))
    enters = later_alike q arcs _ (alike_cleared q arcs (is_arc_of t))

    falls : IsLater true q arcs (with_dialogues arcs (is_arc_of t) (λ a. without_deferral (cleared a.dialogue)))
    falls = later_falls t q arcs peer

    go : (p n : Phase) → is_nil p ≡ false → is_nil n ≡ false → (is_committing p ≡ true → is_committing n ≡ true) → (is_rolling p ≡ true → is_end_deferred_at arcs q ≡ false)
        → IsLater (is_rolling n) q arcs (entered t (passage leaving p n) arcs)
    go Phase.Nil n h i c f = absurd cc
    go Phase.Active Phase.Nil h i c f = absurd cc
    go Phase.Active Phase.Active h i c f = same
    go Phase.Active Phase.Ready h i c f = enters
    go Phase.Active Phase.Committing h i c f = enters
    go Phase.Active Phase.Rolling h i c f = falls
    go Phase.Ready Phase.Nil h i c f = absurd cc
    go Phase.Ready Phase.Active h i c f = same
    go Phase.Ready Phase.Ready h i c f = same
    go Phase.Ready Phase.Committing h i c f = enters
    go Phase.Ready Phase.Rolling h i c f = falls
    go Phase.Committing Phase.Nil h i c f = absurd cc
    go Phase.Committing Phase.Active h i c f = same
    go Phase.Committing Phase.Ready h i c f = same
    go Phase.Committing Phase.Committing h i c f = same
    go Phase.Committing Phase.Rolling h i c f = absurd (cc (c refl))
    go Phase.Rolling Phase.Nil h i c f = absurd cc
    go Phase.Rolling Phase.Active h i c f = same
    go Phase.Rolling Phase.Ready h i c f = same
    go Phase.Rolling Phase.Committing h i c f = same
    go Phase.Rolling Phase.Rolling h i c f = later_rolling q arcs (f refl)

-- a transaction that stays in its phase
pub stays_put : (t : Transaction) (p : Phase) (arcs : List Arc) → entered t (passage false p p) arcs ≡ arcs
unfolding entered
stays_put t Phase.Nil arcs = refl
stays_put t Phase.Active arcs = refl
stays_put t Phase.Ready arcs = refl
stays_put t Phase.Committing arcs = refl
stays_put t Phase.Rolling arcs = refl

-- ---- after that

pub later_still : (rolls : Bool) (q : ℕ) (arcs mid later : List Arc) → IsLater rolls q arcs mid → IsAlike q mid later → IsLater rolls q arcs later
later_still rolls q arcs mid later one two = record { live = two.live ∙ one.live; ends = two.ends ∙ one.ends }

pub later_performed : (rolls : Bool) (q : ℕ) (arcs mid : List Arc) (outs : List TxOut) → IsLater rolls q arcs mid → shuts_none outs ≡ true → IsLater rolls q arcs (performed mid outs).0
later_performed rolls q arcs mid outs one none = later_still rolls q arcs mid (performed mid outs).0 one (alike_performed q mid outs none)

pub later_cut : (rolls : Bool) (p q : ℕ) (arcs mid : List Arc) → IsLater rolls q arcs mid → IsLater rolls q (without_arc arcs p) (without_arc mid p)
later_cut rolls p q arcs mid one = go (q == p) refl
  where
    cut : IsLater rolls p (without_arc arcs p) (without_arc mid p)
    cut = record {
      live = live_gone mid p ∙ sym (live_gone arcs p);
      ends = ends_gone mid p ∙ sym (ap (λ v. v && not rolls) (ends_gone arcs p));
    }

    go : (b : Bool) → (q == p) ≡ b → IsLater rolls q (without_arc arcs p) (without_arc mid p)
    go true i =
        let here : q ≡ p = grind (arith, nat_tests, i) in
        record {
          live = ap (is_live_with_peer (without_arc mid p)) here ∙ cut.live ∙ sym (ap (is_live_with_peer (without_arc arcs p)) here);
          ends = ap (is_end_deferred_at (without_arc mid p)) here ∙ cut.ends ∙ sym (ap (λ n. is_end_deferred_at (without_arc arcs p) n && not rolls) here);
        }
    go false i =
        let old = alike_others arcs p q i in
        let new = alike_others mid p q i in
        record {
          live = new.live ∙ one.live ∙ sym old.live;
          ends = new.ends ∙ one.ends ∙ sym (ap (λ v. v && not rolls) old.ends);
        }

-- after an abort or a close
pub later_aborted : (rolls : Bool) (p q : ℕ) (r : DialogueRecord) (arcs mid : List Arc) → IsLater rolls q arcs mid → IsLater rolls q (without_arc arcs p) (without_arc (carried mid p r).0 p)
later_aborted rolls p q r arcs mid one = later_cut rolls p q arcs (carried mid p r).0 (later_still rolls q arcs mid (carried mid p r).0 one (alike_carried q p mid r))

-- after a shut, which finds an arc or none
shut_alike : (p q : ℕ) (arcs : List Arc) → IsAlike q (without_arc arcs p) (shut_with arcs p).0
shut_alike p q arcs = go (find_arc arcs p) refl
  where
    none : find_arc arcs p ≡ None → (b : Bool) → (q == p) ≡ b → IsAlike q (without_arc arcs p) arcs
    none i true here =
        let same : q ≡ p = grind (arith, nat_tests, here) in
        let live : is_live_with_peer arcs p ≡ false = rw i refl in
        let ends : is_end_deferred_at arcs p ≡ false = rw (i, is_end_deferred_at) refl in
        record {
          live = ap (is_live_with_peer arcs) same ∙ live ∙ sym (ap (is_live_with_peer (without_arc arcs p)) same ∙ live_gone arcs p);
          ends = ap (is_end_deferred_at arcs) same ∙ ends ∙ sym (ap (is_end_deferred_at (without_arc arcs p)) same ∙ ends_gone arcs p);
        }
    none i false other =
        let k = alike_others arcs p q other in
        record { live = sym k.live; ends = sym k.ends }

    go : (o : Option Arc) → find_arc arcs p ≡ o → IsAlike q (without_arc arcs p) (shut_with arcs p).0
    go None i = rw (i, shut_with) (none i (q == p) refl)
    go (Some a) i = rw (i, shut_with) (alike q (without_arc arcs p))

pub later_shut : (rolls : Bool) (p q : ℕ) (arcs mid : List Arc) → IsLater rolls q arcs mid → IsLater rolls q (without_arc arcs p) (shut_with mid p).0
later_shut rolls p q arcs mid one = later_still rolls q (without_arc arcs p) (without_arc mid p) (shut_with mid p).0 (later_cut rolls p q arcs mid one) (shut_alike p q mid)

pub cut_off : (p : ℕ) (arcs : List Arc) → IsCut p arcs (without_arc arcs p)
cut_off p arcs = record { live = live_gone arcs p; ends = ends_gone arcs p; others = λ q other. alike_others arcs p q other }
