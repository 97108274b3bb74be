-- What sending Begin on an arc makes of a node: nothing, or one Begin goes out for a new branch.
use Rattle.std.proofs.Common.{if◌then◌else◌, ◌≡◌, ℕ, Bool, true, false, refl, Option, Some, None, List, [], ◌∷◌, not}
use Rattle.tp_names.specs.declared.children.Child.{Child}
use Rattle.tp_records.specs.declared.dialogue.DialogueRecord.{DialogueRecord}
use Rattle.tp_model.specs.declared.arc.Side.{Side}
use Rattle.tp_model.specs.declared.transaction.TxOut.{TxOut}
use Rattle.tp_model.specs.Parts.{Who, Arc, Current, Digest}
use Rattle.tp_model.specs.Dialogues.{begun_by, named_holder}
use Rattle.tp_model.specs.Arcs.{find_arc, with_dialogue}
use Rattle.tp_model.specs.Transactions.{aaid_of}
use Rattle.tp_model.specs.Node.{Move, move, perform, next_mark, with_mark_drawn, with_begun, may_begin_on, begin_on}

-- the branch that the node draws next, at the peer of an arc
abbrev pub next_child : Who → Digest → Arc → Child
next_child who d a = record { addr = a.peer; branch = record { superior = who.site; mark = next_mark who d } }

abbrev pub begin_word : Who → Digest → Current → Arc → DialogueRecord
begin_word who d c a = DialogueRecord.Begin (aaid_of c.key) (next_child who d a).branch (named_holder a.dialogue)

abbrev pub begin_arcs : ℕ → Digest → Arc → List Arc
begin_arcs q d a = with_dialogue d.arcs q (begun_by (named_holder a.dialogue) Side.Superior)

-- Begin is sent
abbrev pub begun_over : Who → ℕ → Digest → Current → Arc → Move
begun_over who q d c a = perform (TxOut.Carry q (begin_word who d c a) ∷ []) (record (with_begun who (with_mark_drawn d) c (next_child who d a)) { arcs = begin_arcs q d a })

pub begin_cases : (P : Move → Type 0) (who : Who) (q : ℕ) (d : Digest) → P (move [] d)
    → ((c : Current) (a : Arc) → d.current ≡ Some c → find_arc d.arcs q ≡ Some a → may_begin_on who d a ≡ true → P (begun_over who q d c a)) → P (begin_on who q d)
unfolding begin_on
begin_cases P who q d still on = go d.current refl (find_arc d.arcs q) refl
  where
    over : (c : Current) (a : Arc) → d.current ≡ Some c → find_arc d.arcs q ≡ Some a → (b : Bool) → may_begin_on who d a ≡ b → P (if not b then move [] d else begun_over who q d c a)
    over c a now found true may = on c a now found may
    over c a now found false may = still

    go : (o : Option Current) → d.current ≡ o → (x : Option Arc) → find_arc d.arcs q ≡ x
        → P (elim o as (λ _. Move) [
          | None ↦ move [] d
          | Some c ↦ elim x as (λ _. Move) [ None ↦ move [] d | Some a ↦ if not (may_begin_on who d a) then move [] d else begun_over who q d c a ]
        ])
    go None now x found = still
    go (Some c) now None found = still
    go (Some c) now (Some a) found = over c a now found (may_begin_on who d a) refl
