-- What is kept true of a site, so that each record that it forces has a text in its log: the log is of the version with which the
-- site was started, and every node stands as the texts of that version ask.
-- Statements alone; nothing is proved here.
use Rattle.std.specs.Prelude.{ℕ, ◌≡◌, Bool, Option, Some, None, Result, Ok, Err}
use Rattle.tp_logrec.specs.declared.record.LogRec.{LogRec}
use Rattle.tp_logrec.specs.declared.record.LogVersion.{LogVersion}
use Rattle.tp_model.specs.Parts.{Digest}
use Rattle.tp_model.specs.Node.{Move}
use Rattle.tp_journal.specs.Keeping.{Standing}
use Rattle.tp_journal.specs.Records.{version_of, HasText}
use Rattle.tp_encodable.specs.Standing.{StandsShaped, IsShapedOption}
use Rattle.tp_site.specs.declared.faults.SiteFault.{SiteFault}
use Rattle.tp_site.specs.declared.faults.StartFault.{StartFault}
use Rattle.tp_site.specs.Nodes.{Nodes, digest_at}

-- what is known of a node
pub record IsShapedNode (ver : LogVersion) (d : Digest) : Type 0 where
  pub version : d.version ≡ ver
  pub stands : StandsShaped d

abbrev pub AreShapedNodes : Nodes → Type 0
AreShapedNodes v = (n : ℕ) → IsShapedNode v.version (digest_at v n)

-- a site over that keeper
pub record IsShapedSite {K : Type 0} (standing : K → Standing) (keeper : K) (v : Nodes) : Type 0 where
  pub wide : version_of (standing keeper).wide ≡ v.version
  pub nodes : AreShapedNodes v

-- the record that an event asks for, and the node after it
pub record IsShapedDraft (ver : LogVersion) (m : Move) : Type 0 where
  pub rec : IsShapedOption ver m.rec
  pub next : IsShapedNode ver m.next

-- ---- the record that the keeper is asked for

-- it has a text, where there is one
abbrev pub HasTextOption : Bool → Option LogRec → Type 0
HasTextOption wide None = Unit {0}
HasTextOption wide (Some r) = HasText wide r

-- so it is, by what was answered, where the keeper was asked for it
abbrev pub HasTextIfAsked : {A : Type 0} → Bool → Option LogRec → Result A SiteFault → Type 0
HasTextIfAsked wide rec (Ok a) = HasTextOption wide rec
HasTextIfAsked wide rec (Err (SiteFault.Refused k)) = Unit {0}
HasTextIfAsked wide rec (Err (SiteFault.Full size)) = HasTextOption wide rec
HasTextIfAsked wide rec (Err (SiteFault.DiskFault faults)) = HasTextOption wide rec
HasTextIfAsked wide rec (Err (SiteFault.Shut faults)) = Unit {0}
HasTextIfAsked wide rec (Err SiteFault.NoMemory) = Unit {0}

-- and so it is of the boot of a start
abbrev pub HasTextIfStarted : {A B : Type 0} → Bool → LogRec → Result A (B × StartFault) → Type 0
HasTextIfStarted wide boot (Ok a) = HasText wide boot
HasTextIfStarted wide boot (Err (b, StartFault.Foreign at)) = Unit {0}
HasTextIfStarted wide boot (Err (b, StartFault.BootsSpent)) = Unit {0}
HasTextIfStarted wide boot (Err (b, StartFault.Full size)) = HasText wide boot
HasTextIfStarted wide boot (Err (b, StartFault.DiskFault faults)) = HasText wide boot
HasTextIfStarted wide boot (Err (b, StartFault.Shut faults)) = Unit {0}
HasTextIfStarted wide boot (Err (b, StartFault.NoMemory)) = Unit {0}
