-- One node of a site as the site keeps it, and what is known of it by the definitions. A node has arcs
-- exactly once it is declared. What its transaction sees of its arcs is looked at anew before each event of
-- it, and so is no part of what is kept.
use Rattle.std.specs.Prelude.{Box, ◌≡◌, Bool, true, false, Option, Some, None, List, [], nat_lt}
use Rattle.std.specs.Option.{option_map}
use Rattle.std.specs.declared.alloc.Global.{Global}
use Rattle.tp_names.specs.declared.identifiers.Addr.{Addr}
use Rattle.tp_logrec.specs.declared.record.LogRec.{LogRec}
use Rattle.tp_logrec.specs.declared.record.LogVersion.{LogVersion}
use Rattle.tp_model.specs.Parts.{Who, Arc, Current, Digest}
use Rattle.tp_model.specs.Transactions.{Transaction}
use Rattle.tp_model.specs.Node.{branches_of}
use Rattle.tp_model.specs.Events.{current_by, is_known}
use Rattle.tp_model.specs.Recovery.{kept_by}
use Rattle.tp_model.specs.declared.arc.Side.{Side}
use Rattle.tp_model.specs.Requests.{room, count_below}
use Rattle.tp_node_state.specs.Arcs.{Arcs}
use Rattle.tp_node.specs.declared.node.Node.TheInside.{Inside}

pub record Node : Type 0 where
  pub who : Who
  pub digest : Digest

-- what a transaction keeps, whatever it sees of its arcs
abbrev pub current_of : Transaction → Current
current_of t = record {
  key = t.key;
  phase = t.phase;
  branches = branches_of t.rows;
  told_prepare = t.told_prepare;
  asked = t.asked;
  owes = t.owes;
  superior_rolled = t.superior_rolled;
  decision = t.decision;
  own = t.own;
}

-- the transaction in its box
abbrev pub unboxed : Option (Box Transaction Global) → Option Transaction
unboxed None = None
unboxed (Some b) = Some b.value

abbrev pub is_declared : Option Arcs → Bool
is_declared None = false
is_declared (Some a) = true

abbrev pub superior_in : Option Arcs → Option Addr
superior_in None = None
superior_in (Some a) = a.superior

abbrev pub arcs_in : Option Arcs → List Arc
arcs_in None = []
arcs_in (Some a) = a.arcs

abbrev pub node_of : Inside → Node
node_of v = record {
  who = record { site = v.site; node = v.number };
  digest = record {
    declared = is_declared v.arcs;
    known = v.known;
    superior = superior_in v.arcs;
    arcs = arcs_in v.arcs;
    current = option_map current_of (unboxed v.current);
    kept = v.kept;
    drawn = v.drawn;
    boot = v.boot;
    version = v.version;
  };
}

-- there is room for as many subordinates as the log allows
abbrev pub FitsIn : LogVersion → Option Arcs → Type 0
FitsIn version None = Unit {0}
FitsIn version (Some a) = a.room ≡ room version

abbrev pub HasRoom : Inside → Type 0
HasRoom v = FitsIn v.version v.arcs

abbrev pub with_arcs : Node → List Arc → Node
with_arcs v arcs = record v { digest = record v.digest { arcs = arcs } }

-- ---- one arc more

-- there is a place for it: fewer subordinates than the log allows
abbrev pub has_place_at : Side → Digest → Bool
has_place_at Side.Superior d = nat_lt (count_below d d.arcs) (room d.version)
has_place_at Side.Subordinate d = true

-- ---- from the log

-- what one more record of the node makes of a node that was only recovered
abbrev pub recovered_by : LogRec → Digest → Digest
recovered_by r d = record d {
  current = current_by r d.current;
  kept = kept_by r d.kept;
  known = is_known (current_by r d.current) (kept_by r d.kept);
}
