-- A branch that begins on an arc. How a transaction stands among its arcs, before an event and after it, is in AmongArcs of
-- the definitions.
use Rattle.tp_names.specs.declared.children.Child.{Child}
use Rattle.tp_model.specs.Parts.{Who, Arc, Digest}
use Rattle.tp_model.specs.Node.{next_mark}

abbrev pub child_on : Who → Digest → Arc → Child
child_on who d a = record { addr = a.peer; branch = record { superior = who.site; mark = next_mark who d } }
