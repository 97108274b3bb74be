-- What the code does with the answer of a node, in its own values: lines after those shown before, the step of the node's parts,
-- the tree that starts, and the frames that are sent.
use Rattle.std.specs.Prelude.{ℕ, ◌≡◌, ◌≤◌, ◌<◌, ◌+◌, ◌++◌, ◌&&◌, not, true, false, Option, Some, None, List, [], ◌∷◌, length, Result, Ok, Err}
use Rattle.tp_names.specs.declared.identifiers.Aaid.{Aaid}
use Rattle.tp_names.specs.declared.identifiers.Addr.{Addr}
use Rattle.tp_model.specs.declared.out_line.OutLine.{OutLine}
use Rattle.tp_model.specs.Parts.{Out}
use Rattle.tp_model.specs.Happenings.{out_lines, frames_of, refused_lines, trees_of}
use Rattle.tp_network.specs.TreeSummary.{is_in}
use Rattle.tp_network.specs.Nodes.{AreChanged}
use Rattle.tp_network.specs.declared.fault.SendFault.{SendFault}
use Rattle.tp_network.specs.declared.tree_summary.TreeChange.{TreeChange}
use Rattle.tp_world_sites.specs.Shown.{forced_lines}
use Rattle.tp_world_sites.specs.Slots.{number_told, entry_told}
use Rattle.tp_world_sites.specs.NodeAnswers.{Answer}
use Rattle.tp_world_sites.specs.declared.site_slot.Entry.{Entry}
use Rattle.tp_world.specs.declared.world.World.{World as CodeWorld}

-- the tree that a step starts
abbrev pub tree_started : TreeChange → Option Aaid
tree_started s = elim s.after [
  | None ↦ None
  | Some b ↦ elim (b.is_root && not (is_in b.aaid s.before)) [ true ↦ Some b.aaid | false ↦ None ]
]

-- ---- what is shown before the outputs

abbrev pub entry_lines : List ℕ → Option Entry → List OutLine
entry_lines site None = []
entry_lines site (Some x) = forced_lines site x.change.rec

-- ---- outputs

-- their lines stand after those shown before, and their frames after those sent before
pub record AreGiven (from : Addr) (outs : List Out) (before after : List OutLine) (old new : CodeWorld) : Type 0 where
  pub lines : after ≡ before ++ out_lines from.node (length old.frames) outs
  pub frames : new.frames ≡ old.frames ++ frames_of from outs
  pub few : length old.frames ≤ 65535 → length new.frames ≤ 65535
  pub nodes : new.nodes ≡ old.nodes
  pub sites : new.sites ≡ old.sites
  pub trees : new.trees ≡ old.trees

-- or there are more frames than have numbers
abbrev pub GivesOuts : Addr → List Out → List OutLine → Result (Unit {0}) SendFault → List OutLine → CodeWorld → CodeWorld → Type 0
GivesOuts from outs before (Ok u) after old new = AreGiven from outs before after old new
GivesOuts from outs before (Err SendFault.Full) after old new = 65535 < length old.frames + length (frames_of from outs)
GivesOuts from outs before (Err SendFault.NoMemory) after old new = Unit {0}

-- ---- an entry

-- the node's parts take the step, and the tree that starts is known
pub record IsEntered (number : ℕ) (s : TreeChange) (old new : CodeWorld) : Type 0 where
  pub nodes : AreChanged number s old.nodes new.nodes
  pub trees : new.trees.items ≡ old.trees.items ++ trees_of (tree_started s)
  pub sites : new.sites ≡ old.sites
  pub frames : new.frames ≡ old.frames

-- and its outputs are given
pub record IsSettledEntry (at : Addr) (x : Entry) (before after : List OutLine) (old new : CodeWorld) : Type 0 where
  pub nodes : AreChanged at.node x.change old.nodes new.nodes
  pub trees : new.trees.items ≡ old.trees.items ++ trees_of (tree_started x.change)
  pub sites : new.sites ≡ old.sites
  pub frames : new.frames ≡ old.frames ++ frames_of at x.outs
  pub few : length old.frames ≤ 65535 → length new.frames ≤ 65535
  pub lines : after ≡ before ++ out_lines at.node (length old.frames) x.outs

abbrev pub SettlesEntry : Addr → Entry → List OutLine → Result (Unit {0}) SendFault → List OutLine → CodeWorld → CodeWorld → Type 0
SettlesEntry place x before (Ok u) after old new = IsSettledEntry place x before after old new
SettlesEntry place x before (Err SendFault.Full) after old new = 65535 < length old.frames + length (frames_of place x.outs)
SettlesEntry place x before (Err SendFault.NoMemory) after old new = Unit {0}

-- ---- an answer

-- the lines that stand before the outputs
abbrev pub head_lines : List ℕ → Answer → List OutLine
head_lines site a = entry_lines site (entry_told a) ++ refused_lines (number_told a)

abbrev pub SettlesSome : Addr → Option Entry → List OutLine → Result (Unit {0}) SendFault → List OutLine → CodeWorld → CodeWorld → Type 0
SettlesSome place (Some x) before r after old new = SettlesEntry place x before r after old new
SettlesSome place None before (Ok u) after old new = (new ≡ old) × (after ≡ before)
SettlesSome place None before (Err SendFault.Full) after old new = ⊥
SettlesSome place None before (Err SendFault.NoMemory) after old new = Unit {0}

abbrev pub Settles : Addr → Answer → List OutLine → Result (Unit {0}) SendFault → List OutLine → CodeWorld → CodeWorld → Type 0
Settles place a before r after old new = SettlesSome place (entry_told a) (before ++ head_lines place.site a) r after old new
