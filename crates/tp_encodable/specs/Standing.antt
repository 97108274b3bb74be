-- What is kept true of what is known of a node: enough that each record which an event of it asks for is shaped as a text asks.
-- Statements alone; nothing is proved here.
use Rattle.std.specs.Prelude.{◌≡◌, ◌≤◌, ◌+◌, ◌&&◌, not, Bool, true, false, Option, Some, None, List, [], ◌∷◌, length}
use Rattle.tp_names.specs.Reports.{is_report_none}
use Rattle.tp_logrec.specs.declared.record.LogRec.{LogRec}
use Rattle.tp_logrec.specs.declared.record.LogVersion.{LogVersion}
use Rattle.tp_texts.specs.Texts.{most_children}
use Rattle.tp_model.specs.declared.recovery.Kept.{Kept}
use Rattle.tp_model.specs.Parts.{Branch, Current, Digest}
use Rattle.tp_model.specs.Dialogues.{is_nil, is_active, is_ready}
use Rattle.tp_model.specs.Transactions.{is_under}
use Rattle.tp_model.specs.Node.{Move, is_superior}
use Rattle.tp_model.specs.Requests.{has_branch_at, room, count_below, count_gone}
use Rattle.tp_texts.specs.Shapes.{has_branch, has_superior, IsShaped}

-- ---- transactions

abbrev pub IsShapedKept : LogVersion → Kept → Type 0
IsShapedKept ver k = (has_superior k.superior ≡ has_branch k.key) × (is_report_none k.report ≡ false) × (length k.owed ≤ most_children ver)

abbrev pub AreShapedKept : LogVersion → List Kept → Type 0
AreShapedKept ver [] = Unit {0}
AreShapedKept ver (k ∷ ks) = IsShapedKept ver k × AreShapedKept ver ks

-- what is ready came from a superior; there are no more branches than a record counts
pub record IsShapedCurrent (ver : LogVersion) (c : Current) : Type 0 where
  pub late : is_nil c.phase ≡ false
  pub under : is_ready c.phase ≡ true → is_under c.key ≡ true
  pub few : length c.branches ≤ most_children ver

-- no two branches are at one number, and none at the superior's
abbrev pub are_apart : Digest → List Branch → Bool
are_apart d [] = true
are_apart d (b ∷ bs) = not (is_superior d b.peer.node) && not (has_branch_at bs b.peer.node) && are_apart d bs

-- each branch of what is active has a place among the subordinates, of which there are no more than the log allows
pub record HasPlaces (d : Digest) (c : Current) : Type 0 where
  pub apart : are_apart d c.branches ≡ true
  pub room : count_below d d.arcs + count_gone d.arcs c.branches ≤ room d.version

-- a node that is not declared has no arcs, and what is active there has no branches
pub record IsBare (d : Digest) : Type 0 where
  pub arcs : d.arcs ≡ []
  pub branches : (c : Current) → d.current ≡ Some c → is_active c.phase ≡ true → c.branches ≡ []

-- ---- the whole

pub record StandsShaped (d : Digest) : Type 0 where
  pub kept : AreShapedKept d.version d.kept
  pub current : (c : Current) → d.current ≡ Some c → IsShapedCurrent d.version c
  pub room : count_below d d.arcs ≤ room d.version
  pub active : (c : Current) → d.current ≡ Some c → is_active c.phase ≡ true → HasPlaces d c
  pub bare : d.declared ≡ false → IsBare d

-- ---- an event of it

abbrev pub IsShapedOption : LogVersion → Option LogRec → Type 0
IsShapedOption ver None = Unit {0}
IsShapedOption ver (Some r) = IsShaped ver r

-- the record that is asked for is shaped, and the node stands so again
pub record IsShapedMove (d : Digest) (m : Move) : Type 0 where
  pub rec : IsShapedOption d.version m.rec
  pub next : StandsShaped m.next
  pub version : m.next.version ≡ d.version
