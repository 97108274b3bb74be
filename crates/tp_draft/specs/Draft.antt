-- A draft: what an event makes of a node, before any of it is so. It is what the definitions call a move,
-- and each rule goes on from where the one before it left it.
use Rattle.std.specs.Prelude.{◌≡◌, true, Option, None, Some, Result, Ok, Err}
use Rattle.tp_logrec.specs.declared.record.LogRec.{LogRec}
use Rattle.tp_names.specs.declared.identifiers.NodeKey.{NodeKey}
use Rattle.tp_model.specs.declared.recovery.KeptEvent.{KeptEvent}
use Rattle.tp_model.specs.Recovery.{with_forget, noted, kept_after}
use Rattle.tp_node.specs.Node.{Node}
use Rattle.tp_model.specs.Parts.{Who, Current, Digest}
use Rattle.tp_model.specs.Node.{Move, followed}
use Rattle.tp_model.specs.Events.{needs_numbers}
use Rattle.tp_node.specs.declared.halt.Halt.{Halt}
use Rattle.tp_draft.specs.declared.draft.Draft.TheInside.{Inside}

pub record Draft : Type 0 where
  pub who : Who
  pub move : Move

-- of two records the later one
abbrev pub later : Option LogRec → Option LogRec → Option LogRec
later x y = elim y [ None ↦ x | Some r ↦ Some r ]

abbrev pub draft_of : Inside → Draft
draft_of v = record { who = v.node.value.who; move = record { rec = later v.earlier v.step.rec; outs = v.outs; next = v.node.value.digest } }

-- a rule, at what the draft has come to
abbrev pub goes_on : Draft → (Who → Digest → Move) → Draft
goes_on a f = record a { move = followed a.move (f a.who) }

-- how a rule answers: it is carried out; or it wants more numbers than there are; without memory nothing
-- is said
abbrev pub Plays : Result (Unit {0}) Halt → Draft → Draft → (Who → Digest → Move) → Type 0
Plays (Ok u) old new f = new ≡ goes_on old f
Plays (Err Halt.NumbersSpent) old new f = needs_numbers (followed old.move (f old.who)) ≡ true
Plays (Err Halt.NoMemory) old new f = Unit {0}

abbrev pub without_value : {A : Type 0} → Result A Halt → Result (Unit {0}) Halt
without_value (Ok a) = Ok tt
without_value (Err e) = Err e

-- the node, as the draft has it by now
abbrev pub node_in : Draft → Node
node_in a = record { who = a.who; digest = a.move.next }

-- Forget is noted of the kept transaction of that key
abbrev pub forgetting : NodeKey → Digest → Digest
forgetting k d = record d { kept = with_forget d.kept k (λ x. noted x KeptEvent.Forget) }

-- the current transaction has become that one
abbrev pub with_current : Draft → Option Current → Draft
with_current a o = record a { move = record a.move { next = record a.move.next { current = o } } }

-- a record is logged, and kept
abbrev pub recorded : Option LogRec → Draft → Draft
recorded r a = record a { move = record a.move { rec = later a.move.rec r; next = record a.move.next { kept = kept_after r a.move.next.kept } } }
