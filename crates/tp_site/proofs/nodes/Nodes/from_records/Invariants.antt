use Rattle.std.proofs.Common.{◌≡◌, take}
use Rattle.tp_site.specs.Nodes.{AreFrom}
use Rattle.tp_site.proofs.nodes.Nodes.from_records.Given as goal

-- the nodes are those of the records before
abbrev pub invariant-loop-i : goal.invariant-loop-i
invariant-loop-i l = AreFrom (take l.i l.records) l.nodes × (l.nodes.site ≡ l.fn.site) × (l.nodes.boot ≡ l.boot) × (l.nodes.version ≡ l.fn.version)
