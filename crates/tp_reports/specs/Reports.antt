-- What a commitment with no report tells of the nodes below.
use Rattle.std.specs.Prelude.{◌≡◌, ◌⊎◌, true, Option, Some, List, false}
use Rattle.tp_names.specs.declared.identifiers.Aaid.{Aaid}
use Rattle.tp_names.specs.declared.identifiers.BranchId.{BranchId}
use Rattle.tp_names.specs.declared.identifiers.Addr.{Addr}
use Rattle.tp_names.specs.declared.outcome.Outcome.{Outcome}
use Rattle.tp_records.specs.declared.peer.PeerRecord.{PeerRecord}
use Rattle.tp_model.specs.Parts.{Origin, Entry}
use Rattle.tp_model.specs.History.{digest, records}
use Rattle.tp_model.specs.Outcomes.{is_now, rolled, has_left, completed_none}
use Rattle.tp_model.specs.Questions.{is_at}
use Rattle.tp_model.specs.World.{World, Node}
use Rattle.tp_model.specs.Promises.{IsOf, IsBranchOf, told_of, IsBelow, HasCommitted, has_told_in, has_sent_done_none, is_root}
use Rattle.tp_model.specs.Questions.{tells_commit_complete}
use Rattle.tp_histories.specs.Histories.{HasBrought}
use Rattle.tp_reports.specs.Clearing.{has_cleared, KeepsAt}
use Rattle.tp_model.specs.Trees.{stays, members_of, closing_line}
use Rattle.tp_model.specs.declared.out_line.OutLine.{OutLine}

-- a node that was told that the commitment is complete with no report was told commit
abbrev pub ClearIsCommitted : World → Type 0
ClearIsCommitted w = (t : Aaid) (x : Node) → IsOf w t x → completed_none x.origin t x.history ≡ true → told_of t x ≡ Some Outcome.Commit

-- where a node completed with no report each of its branches left, or completed with no report
abbrev pub ClearBelow : World → Type 0
ClearBelow w = (t : Aaid) (b : BranchId) (x y : Node) → IsBranchOf w t b x y → completed_none x.origin t x.history ≡ true
    → (has_left y.origin t y.history ≡ true) ⊎ (completed_none y.origin t y.history ≡ true)

-- the root's user was told that the commitment of the tree is complete with no report
pub record IsReportFree (w : World) (t : Aaid) : Type 0 where
  pub root : Node
  pub of : IsOf w t root
  pub drew : is_root t root ≡ true
  pub clear : completed_none root.origin t root.history ≡ true

-- then every staying node has committed
abbrev pub ReportFreeCommits : World → Type 0
ReportFreeCommits w = (t : Aaid) → IsReportFree w t → (y : Node) → IsOf w t y → stays t y ≡ true → HasCommitted t y

-- and the tree's closing line says that all agree on commitment
abbrev pub ReportFreeCloses : World → Type 0
ReportFreeCloses w = (t : Aaid) → IsReportFree w t → closing_line t (members_of t w.nodes) ≡ OutLine.Agreed t Outcome.Commit

-- a Done with no report means, while the superior has not completed, that every staying node at and below the branch has committed
abbrev pub DoneBelow : World → Type 0
DoneBelow w =
    (t : Aaid) (b : BranchId) (x y z : Node) → IsBranchOf w t b x y → has_told_in tells_commit_complete x.origin t x.history ≡ false
    → has_sent_done_none y.origin t b y.history ≡ true → IsBelow w t y z → stays t z ≡ true
    → HasCommitted t z

-- ---- what became of a tree at a node that took the Begin of its branch

-- it is current, rolled, was left, its commitment ended clear or is kept for its damage, or the superior's Forget of it was taken
pub data Fate (o : Origin) (up : Option Addr) (h : List Entry) (t : Aaid) (b : BranchId) : Type 0 where
  Is_now : is_now t (digest o h).current ≡ true → Fate o up h t b
  Has_rolled : rolled o t h ≡ true → Fate o up h t b
  Was_left : has_left o t h ≡ true → Fate o up h t b
  Ended_clear : has_cleared t (records o h) ≡ true → Fate o up h t b
  Stays_kept : KeepsAt t (digest o h).kept → Fate o up h t b
  Took_forget : (a : Addr) → HasBrought h a (PeerRecord.Forget t b) → is_at up a.node ≡ true → Fate o up h t b

abbrev pub BranchFate : World → Type 0
BranchFate w = (t : Aaid) (b : BranchId) (x y : Node) → IsBranchOf w t b x y → Fate y.origin y.superior y.history t b
