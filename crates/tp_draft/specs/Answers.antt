-- What a node answers to an event, with the draft of what happens.
use Rattle.std.specs.Prelude.{◌≡◌, false, Option, Some, Result, Ok, Err}
use Rattle.tp_model.specs.declared.transaction.TxFault.{TxFault}
use Rattle.tp_model.specs.declared.refusal.Refusal.{Refusal}
use Rattle.tp_model.specs.Refusal.{number_in}
use Rattle.tp_node.specs.Node.{Node}
use Rattle.tp_draft.specs.Draft.{Draft}
use Rattle.tp_node.specs.declared.event.NodeEvent.{NodeEvent}
use Rattle.tp_node.specs.NodeEvent.{Answer, Refuses, Happens, refused_at_once, breaks}

-- the answer as it is given, with the draft of what happens; without memory nothing is said
abbrev pub IsAnswer : Result (Option Refusal) TxFault → Draft → Node → Answer → Type 0
IsAnswer (Ok refusal) draft v a = (a ≡ Happens (number_in refusal) draft.move) × (draft.who ≡ v.who)
IsAnswer (Err (TxFault.Refused n)) draft v a = a ≡ Refuses n
IsAnswer (Err TxFault.NoMemory) draft v a = Unit {0}

-- it is refused at once so, and no association ends with it
abbrev pub IsPlain : Node → NodeEvent → Refusal → Type 0
IsPlain v e x = (breaks e ≡ false) × (refused_at_once v.who v.digest e ≡ Some x)
