-- The two steps of an event: what it says and changes is worked out, and nothing of it is so; then its record is forced and its
-- node changes.
-- Statements alone; nothing is proved here.
use Rattle.std.specs.Prelude.{ℕ, ◌≡◌, true, Bool, Option, None, List, [], Result, Ok, Err}
use Rattle.tp_logrec.specs.declared.record.LogRec.{LogRec}
use Rattle.tp_logrec.specs.declared.record.LogVersion.{LogVersion}
use Rattle.tp_model.specs.declared.refusal.Refusal.{Refusal}
use Rattle.tp_model.specs.declared.transaction.TxFault.{TxFault}
use Rattle.tp_model.specs.Parts.{Event, Out}
use Rattle.tp_model.specs.Node.{Move}
use Rattle.tp_journal.specs.declared.faults.ForceFault.{ForceFault}
use Rattle.tp_journal.specs.Keeping.{Standing}
use Rattle.tp_node.specs.declared.event.NodeEvent.{NodeEvent}
use Rattle.tp_node.specs.NodeEvent.{event_of}
use Rattle.tp_draft.specs.Draft.{Draft}
use Rattle.tp_site.specs.Faults.{fault_of}
use Rattle.tp_site.specs.declared.prepared.Prepared.{Prepared}
use Rattle.tp_site.specs.InPlace.{IsPlanned}
use Rattle.tp_site.specs.Nodes.{has_node, node_at, who_at}
use Rattle.tp_site.specs.Shaped.{IsShapedDraft, HasTextOption}
use Rattle.tp_site.specs.Site.{Site, IsAttempted, IsPlayed, Plays, Settles}

abbrev pub refusal_of : Prepared → Option Refusal
refusal_of Prepared.InPlace = None
refusal_of (Prepared.Drawn refusal) = refusal

-- ---- what is prepared

-- it can run on its node itself, and says that
pub record IsPlannedAt {K : Type 0} (s : Site K) (n : ℕ) (e : NodeEvent) (outs : List Out) : Type 0 where
  pub there : has_node s.nodes n ≡ true
  pub planned : IsPlanned (node_at s.nodes n) e outs

-- the draft whose outputs were taken out of it
abbrev pub emptied : Draft → Draft
emptied a = record a { move = record a.move { outs = [] } }

-- a draft has what it changes, and what it says was taken out of it
pub record IsDrawn {K : Type 0} (old : Site K) (n : ℕ) (e : Event) (refusal : Option Refusal) (draft : Draft) (said : List Out) (new : Site K) : Type 0 where
  pub whole : Draft
  pub attempted : IsAttempted old n e refusal whole new
  pub rest : draft ≡ emptied whole
  pub outs : said ≡ whole.move.outs

abbrev pub Prepares : {K : Type 0} → (K → Standing) → Site K → ℕ → NodeEvent → Result Prepared TxFault → Draft → List Out → Site K → Type 0
Prepares standing old n e (Ok Prepared.InPlace) draft outs new = IsPlannedAt old n e outs × (new ≡ old) × (old.shut ≡ None)
Prepares standing old n e (Ok (Prepared.Drawn refusal)) draft outs new = IsDrawn old n (event_of e) refusal draft outs new
Prepares standing old n e (Err fault) draft outs new = Plays standing old n (event_of e) (Err (fault_of fault)) new

-- the record that it asks for has a shape that texts have, and so has what it makes of its node
abbrev pub IsShapedPrepared : Prepared → LogVersion → Move → Type 0
IsShapedPrepared Prepared.InPlace ver m = Unit {0}
IsShapedPrepared (Prepared.Drawn refusal) ver m = IsShapedDraft ver m

-- ---- how it happens

-- what is asked of the site and of the draft
abbrev pub IsReady : {K : Type 0} → Site K → ℕ → NodeEvent → Prepared → Draft → Type 0
IsReady s n e Prepared.InPlace draft = (outs : List Out) × IsPlannedAt s n e outs
IsReady s n e (Prepared.Drawn refusal) draft = (has_node s.nodes n ≡ true) × (draft.who ≡ who_at s.nodes n) × IsShapedDraft s.nodes.version draft.move

-- it has run on its node itself
abbrev pub HasRun : {K : Type 0} → (K → Standing) → Site K → ℕ → NodeEvent → Site K → Type 0
HasRun standing old n e new = (outs : List Out) → IsPlannedAt old n e outs
    → (m : Move) × IsPlayed standing old n (event_of e) (record { refusal = None; outs = outs }) new m

abbrev pub CarriesOut : {K : Type 0} → (K → Standing) → Site K → ℕ → NodeEvent → Prepared → Draft → Result (Unit {0}) ForceFault → Site K → Type 0
CarriesOut standing old n e Prepared.InPlace draft (Ok u) new = HasRun standing old n e new
CarriesOut standing old n e Prepared.InPlace draft (Err fault) new = ⊥
CarriesOut standing old n e (Prepared.Drawn refusal) draft result new = Settles standing old n draft.move.next draft.move.rec result new

-- the record that is forced has a text
abbrev pub HasTextPrepared : Prepared → Bool → Option LogRec → Type 0
HasTextPrepared Prepared.InPlace wide rec = Unit {0}
HasTextPrepared (Prepared.Drawn refusal) wide rec = HasTextOption wide rec
