-- A face: a site, and one node of it at which a root's program begins and ends its transactions. What each call does: it is one event
-- of the site, or it is not taken and nothing has changed. Where the face has come to after a list of events.
use Rattle.std.specs.Prelude.{ℕ, ◌≡◌, ◌==◌, ◌&&◌, not, Bool, true, false, Option, Some, None, List, [], ◌∷◌, ◌++◌, Result, Ok, Err}
use Rattle.tp_names.specs.declared.identifiers.Aaid.{Aaid}
use Rattle.tp_records.specs.declared.request.Request.{Request}
use Rattle.tp_records.specs.declared.body.Event.{Event as Given}
use Rattle.tp_records.specs.declared.body.Output.{Output}
use Rattle.tp_model.specs.Parts.{Entry}
use Rattle.tp_model.specs.NodeRun.{Opening, asked}
use Rattle.tp_model.specs.World.{World, Node}
use Rattle.tp_model.specs.Promises.{is_root, AllCommitted}
use Rattle.tp_journal.specs.Keeping.{Standing}
use Rattle.tp_site.specs.declared.faults.SiteFault.{SiteFault}
use Rattle.tp_site.specs.Shaped.{HasTextIfAsked}
use Rattle.tp_site.specs.Site.{Site, known_at}
use Rattle.tp_site.specs.Events.{opening_at, PlaysAsked, IsAt, StepsTo, all_nodes, history_at, record_after}
use Rattle.tx_face.specs.declared.stand.Stand.{Stand}
use Rattle.tx_face.specs.declared.code.Code.{Code}
use Rattle.tx_face.specs.declared.fault.FaceFault.{FaceFault}
use Rattle.tx_face.specs.Stands.{stand}
use Rattle.tx_face.specs.Codes.{code_of, code_given, last_completed}

pub record Face (K : Type 0) : Type 0 where
  pub site : Site K
  -- the number of its node
  pub node : ℕ
  -- of the last completion
  pub code : Option Code

abbrev pub stand_at : {K : Type 0} → Face K → Stand
stand_at f = stand (known_at f.site f.node)

-- ---- which events are no call's

-- what a root's program asks for by a call, or never asks for: it does not leave its own tree
abbrev pub is_asked_by_call : Request → Bool
is_asked_by_call (Request.BeginDialogue a u) = false
is_asked_by_call (Request.Accept u) = false
is_asked_by_call Request.Reject = false
is_asked_by_call (Request.EndDialogue p) = false
is_asked_by_call (Request.UserData p xs) = false
is_asked_by_call (Request.UError p) = false
is_asked_by_call (Request.UAbort p) = false
is_asked_by_call (Request.Grant p) = false
is_asked_by_call (Request.AskControl p) = false
is_asked_by_call (Request.Handshake p) = false
is_asked_by_call (Request.Respond p) = false
is_asked_by_call (Request.HandshakeGrant p) = false
is_asked_by_call (Request.BeginTransaction p) = true
is_asked_by_call (Request.DeferEnd p) = false
is_asked_by_call (Request.DeferGrant p) = false
is_asked_by_call (Request.Prepare p) = false
is_asked_by_call Request.Commit = true
is_asked_by_call Request.Done = true
is_asked_by_call Request.Rollback = true
is_asked_by_call Request.Unchanged = true

abbrev pub is_fed : ℕ → Given → Bool
is_fed n (Given.Declare m s) = true
is_fed n (Given.Do m r) = not ((m == n) && is_asked_by_call r)
is_fed n (Given.Arrive from to octets) = true
is_fed n (Given.Lose m p) = true
is_fed n (Given.Heur m u) = true
is_fed n (Given.GiveUp m p) = true
is_fed n (Given.Retry m) = true
is_fed n (Given.Purge m) = true

-- ---- one event of the site

abbrev pub code_after : ℕ → Result (List Output) SiteFault → Option Code → Option Code
code_after n (Ok outputs) before = code_given n outputs before
code_after n (Err fault) before = before

-- the site answers that event, and the code is that of the last completion that the node is told
pub record Plays {K : Type 0} (standing : K → Standing) (old : Face K) (g : Given) (result : Result (List Output) SiteFault) (new : Face K) : Type 0 where
  pub site : PlaysAsked standing old.site (asked (opening_at old.site.nodes.site) g) result new.site
  pub node : new.node ≡ old.node
  pub code : new.code ≡ code_after old.node result old.code

-- a call that is taken is that event, and its fault is the site's; one that is not taken changes nothing
abbrev pub Calls : {K : Type 0} → (K → Standing) → Bool → Face K → Given → Result (List Output) FaceFault → Face K → Type 0
Calls standing true old g (Ok outputs) new = Plays standing old g (Ok outputs) new
Calls standing true old g (Err (FaceFault.Protocol s)) new = ⊥
Calls standing true old g (Err (FaceFault.Site fault)) new = Plays standing old g (Err fault) new
Calls standing false old g result new = (result ≡ Err (FaceFault.Protocol (stand_at old))) × (new ≡ old)

-- the node is declared, which gives no outputs, or the site answers that fault
abbrev pub IsMade : {K : Type 0} → (K → Standing) → Site K → ℕ → Result (Face K) (Site K × SiteFault) → Type 0
IsMade standing site n (Ok face) = PlaysAsked standing site (asked (opening_at site.nodes.site) (Given.Declare n None)) (Ok []) face.site
    × (face.node ≡ n) × (face.code ≡ None)
IsMade standing site n (Err (new, fault)) = PlaysAsked standing site (asked (opening_at site.nodes.site) (Given.Declare n None)) (Err fault) new

-- ---- a list of events

-- The face stands where a run of these events on that opening does, of which its node's history was `past` when the face was made.
-- Its code is that of the last completion told since.
pub record IsFaceAt {K : Type 0} (standing : K → Standing) (o : Opening) (gs : List Given) (past : List Entry) (f : Face K) : Type 0 where
  pub site : IsAt standing all_nodes o gs f.site
  -- the entries since, newest first
  pub since : List Entry
  pub history : history_at o gs f.node ≡ since ++ past
  pub code : f.code ≡ code_of since

-- the events, by what the last was answered: a refusal counts, and what did not happen for a fault does not
abbrev pub events_by : List Given → Given → Result (List Output) SiteFault → List Given
events_by gs g (Ok outputs) = gs ++ g ∷ []
events_by gs g (Err (SiteFault.Refused k)) = gs ++ g ∷ []
events_by gs g (Err (SiteFault.Full size)) = gs
events_by gs g (Err (SiteFault.DiskFault faults)) = gs
events_by gs g (Err (SiteFault.Shut faults)) = gs
events_by gs g (Err SiteFault.NoMemory) = gs

-- one event after these
pub record Goes {K : Type 0} (standing : K → Standing) (o : Opening) (gs : List Given) (past : List Entry) (old : Face K) (g : Given)
    (result : Result (List Output) SiteFault) (new : Face K) : Type 0 where
  pub steps : StepsTo standing all_nodes o gs old.site g result new.site
  -- the record for which the keeper was asked has a text
  pub text : HasTextIfAsked (standing old.site.keeper).wide (record_after o gs g) result
  pub node : new.node ≡ old.node
  pub at : IsFaceAt standing o (events_by gs g result) past new

-- a face before its node is declared
abbrev pub undeclared : {K : Type 0} → Site K → ℕ → Face K
undeclared site n = record { site = site; node = n; code = None }

-- the declaration after these events
abbrev pub GoesMade : {K : Type 0} → (K → Standing) → Opening → List Given → Site K → ℕ → Result (Face K) (Site K × SiteFault) → Type 0
GoesMade standing o gs site n (Ok face) = Goes standing o gs (history_at o gs n) (undeclared site n) (Given.Declare n None) (Ok []) face
GoesMade standing o gs site n (Err (new, fault)) = Goes standing o gs (history_at o gs n) (undeclared site n) (Given.Declare n None)
    (Err fault) (undeclared new n)

-- one call after these events
abbrev pub GoesOn : {K : Type 0} → (K → Standing) → Bool → Opening → List Given → List Entry → Face K → Given → Result (List Output) FaceFault → Face K → Type 0
GoesOn standing true o gs past old g (Ok outputs) new = Goes standing o gs past old g (Ok outputs) new
GoesOn standing true o gs past old g (Err (FaceFault.Protocol s)) new = ⊥
GoesOn standing true o gs past old g (Err (FaceFault.Site fault)) new = Goes standing o gs past old g (Err fault) new
GoesOn standing false o gs past old g result new = IsFaceAt standing o gs past new

-- ---- what a commitment means

-- of the tree that was complete last: where the node is its root, every node of it that stays is told commit
abbrev pub MeansAll : World → Node → List Entry → List Entry → Type 0
MeansAll w x since older = (t : Aaid) → last_completed x.origin older since ≡ Some t → is_root t x ≡ true → AllCommitted w t
