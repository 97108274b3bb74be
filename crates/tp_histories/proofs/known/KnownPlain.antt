-- Whether a node is declared, its superior and its boot number are what the questions answer.
use Rattle.std.proofs.Common.{◌≡◌, ℕ, Bool, true, false, refl, ap, sym, ◌∙◌, arith, Option, Some, None, List, [], ◌∷◌, ◌==◌}
use Rattle.std.proofs.lemmas.Bool.Decides.{nat_tests}
use Rattle.tp_names.specs.declared.identifiers.Addr.{Addr}
use Rattle.tp_names.specs.declared.identifiers.BranchId.{BranchId}
use Rattle.tp_names.specs.Same.{is_branch, is_addr, is_addr_option}
use Rattle.tp_records.specs.declared.dialogue.DialogueRecord.{DialogueRecord}
use Rattle.tp_records.specs.declared.peer.PeerRecord.{PeerRecord}
use Rattle.tp_model.specs.Parts.{Who, Origin, Event, Entry, Arc, Digest}
use Rattle.tp_model.specs.Arcs.{find_arc}
use Rattle.tp_model.specs.Events.{after_crash, started, action}
use Rattle.tp_model.specs.History.{digest}
use Rattle.tp_model.specs.Questions.{declared_by, declared_in, superior_by, superior_in, boot_by, boot_in}
use Rattle.tp_histories.specs.KnownTests.{same_bool}
use Rattle.tp_model.specs.Legal.{IsGrown, IsLegal}
use Rattle.tp_steps.specs.Moves.{prelude, begun_in, counted_in}
use Rattle.tp_steps.specs.Traces.{IsLinked}
use Rattle.tp_histories.specs.Known.{declared_agrees, superior_agrees, boot_agrees}
use Rattle.tp_steps.proofs.every.EveryEvent.{every_move}
use Rattle.tp_histories.proofs.trees.Late.{late_law}
use Rattle.tp_steps.proofs.links.Linked.{linked_moves}
use Rattle.tp_steps.proofs.log.NextTurns.{addr_self}
use Rattle.tp_steps.proofs.words.Leaves.{name_same}
use Rattle.tp_steps.proofs.links.Links.{mark_same}

pub bool_self : (b c : Bool) → b ≡ c → same_bool b c ≡ true
bool_self true true h = refl
bool_self true false h = absurd (cc (h))
bool_self false true h = absurd (cc (h))
bool_self false false h = refl

pub number_self : (m n : ℕ) → m ≡ n → (m == n) ≡ true
number_self m n h = grind (arith, nat_tests, h)

pub branch_self : (b : BranchId) → is_branch b b ≡ true
branch_self b = rw (name_same b.superior, mark_same b.mark) refl

pub superior_self : (a b : Option Addr) → a ≡ b → is_addr_option a b ≡ true
superior_self None None h = refl
superior_self (Some a) (Some b) h = let same : a ≡ b = cc (h) in ap (is_addr a) (sym same) ∙ addr_self a
superior_self _ _ h = absurd (cc (h))

-- ---- what comes first in an event

record IsPlainFirst (d : Digest) (e : Event) (s : Digest) : Type 0 where
  declared : s.declared ≡ declared_by e d.declared
  superior : s.superior ≡ superior_by e d.superior
  boot : s.boot ≡ boot_by e d.boot

plain_first : (who : Who) (d : Digest) (e : Event) → IsPlainFirst d e (prelude who d e)
unfolding after_crash
plain_first who d (Event.Do r) = record { declared = grind arith; superior = grind arith; boot = grind arith }
plain_first who d (Event.Arrive from (PeerRecord.OnAssoc x y q (DialogueRecord.Begin t b k))) = go (find_arc d.arcs from.node)
  where
    go : (o : Option Arc) → IsPlainFirst d (Event.Arrive from (PeerRecord.OnAssoc x y q (DialogueRecord.Begin t b k))) (begun_in o t b (counted_in d from))
    go None = record { declared = refl; superior = refl; boot = refl }
    go (Some a) = record { declared = refl; superior = refl; boot = refl }
plain_first who d (Event.Arrive from r) = record { declared = grind arith; superior = grind arith; boot = grind arith }
plain_first who d _ = record { declared = refl; superior = refl; boot = refl }

-- ---- every legal history

pub record IsPlain (o : Origin) (h : List Entry) : Type 0 where
  pub declared : (digest o h).declared ≡ declared_in h
  pub superior : (digest o h).superior ≡ superior_in h
  pub boot : (digest o h).boot ≡ boot_in o h

plain_start : (o : Origin) → IsPlain o []
unfolding started
plain_start o = record { declared = refl; superior = refl; boot = refl }

pub plain_law : (o : Origin) (up : Option Addr) (h : List Entry) → IsGrown o up h → IsPlain o h
plain_law o up [] legal = plain_start o
plain_law o up (e ∷ h) legal =
    let d : Digest = digest o h in
    let s : Digest = prelude o.who d e.event in
    let before : IsPlain o h = plain_law o up h legal.3 in
    let first : IsPlainFirst d e.event s = plain_first o.who d e.event in
    let moved : IsLinked 0 s (action o.who d e.event) = every_move o.who d e.event (IsLinked 0) (linked_moves o.who e.event s 0) (late_law o up h legal.3) legal.0 in
    record {
      declared = moved.declared ∙ first.declared ∙ ap (declared_by e.event) before.declared;
      superior = moved.superior ∙ first.superior ∙ ap (superior_by e.event) before.superior;
      boot = moved.boot ∙ first.boot ∙ ap (boot_by e.event) before.boot;
    }

pub declared_law : (o : Origin) (up : Option Addr) (h : List Entry) → IsLegal o up h → declared_agrees o h ≡ true
declared_law o up h legal = bool_self (digest o h).declared (declared_in h) (plain_law o up h legal.grown).declared

pub superior_law : (o : Origin) (up : Option Addr) (h : List Entry) → IsLegal o up h → superior_agrees o h ≡ true
superior_law o up h legal = superior_self (digest o h).superior (superior_in h) (plain_law o up h legal.grown).superior

pub boot_law : (o : Origin) (up : Option Addr) (h : List Entry) → IsLegal o up h → boot_agrees o h ≡ true
boot_law o up h legal = number_self (digest o h).boot (boot_in o h) (plain_law o up h legal.grown).boot
