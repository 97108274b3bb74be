use Rattle.std.proofs.Common.{◌≡◌, map, take}
use Rattle.tp_model.specs.Lanes.{records_in}
use Rattle.tp_journal.specs.Records.{version_of}
use Rattle.tp_site.specs.Nodes.{AreFrom}
use Rattle.tp_site.proofs.site.resume.lane_of.Given as goal

-- the nodes are those of the records before, of the lane
abbrev pub invariant-loop-i : goal.invariant-loop-i
invariant-loop-i g l =
    AreFrom (records_in l.lane l.lanes (map (λ r. r.rec) (take l.i (g.K.Keeper.standing l.keeper).told))) l.nodes
    × (l.nodes.site ≡ l.fn.name)
    × (l.nodes.boot ≡ l.boot)
    × (l.nodes.version ≡ version_of (g.K.Keeper.standing l.keeper).wide)
