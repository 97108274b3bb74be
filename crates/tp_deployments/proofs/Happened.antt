-- A node of a world takes an event: the happening that it is, and what it leaves.
use Rattle.std.proofs.Common.{◌≡◌, ◌++◌, ℕ, zero, suc, Bool, true, false, cond, refl, ap, sym, ◌∙◌, subst, Option, Some, None, List, [], ◌∷◌, append-nil, inl, inr}
use Rattle.tp_names.specs.declared.identifiers.Addr.{Addr}
use Rattle.tp_names.specs.Same.{is_name}
use Rattle.tp_records.specs.declared.request.Request.{Request}
use Rattle.tp_records.specs.declared.peer.PeerRecord.{PeerRecord}
use Rattle.tp_records.specs.declared.body.Event.{Event as Given}
use Rattle.tp_records.specs.BodyReading.{peer_in}
use Rattle.tp_logrec.specs.declared.record.LogRec.{LogRec}
use Rattle.tp_model.specs.declared.line.LineRequest.{LineRequest}
use Rattle.tp_model.specs.declared.line.Action.{Action}
use Rattle.tp_model.specs.Parts.{Origin, Event, Entry, Out}
use Rattle.tp_model.specs.History.{answer, grown}
use Rattle.tp_model.specs.Disk.{forced}
use Rattle.tp_model.specs.World.{World, Node, Site, Frame, number_of, site_of, addr_of, find_node, put_node, addr_at, find_frame, find_site, put_site, with_disk}
use Rattle.tp_model.specs.Happenings.{Happening, Does, happens, task_at, task_of, request_in, frames_of, logged, world_with_entry, entry_turn, action_turn, declare_again_turn}
use Rattle.tp_model.specs.NodeRun.{Opening, AskedEvent, Refuses, Is, asked}
use Rattle.tp_histories.specs.Histories.{IsSentIn}
use Rattle.tp_histories.proofs.worlds.Traversal.{logged_nodes, logged_frames}
use Rattle.tp_histories.proofs.worlds.Turns.{declare_entry}
use Rattle.tp_runs.specs.Framed.{IsFrameTo}
use Rattle.tp_site_logs.proofs.Places.{site_put_at, with_disk_is}
use Rattle.tp_deployments.specs.Deployments.{Place, IsThere, IsPlaced}

-- ---- what an event of a node leaves of a world

pub record IsMoved (w : World) (x : Node) (y : Entry) (v : World) : Type 0 where
  pub nodes : v.nodes ≡ put_node w.nodes (record x { history = y ∷ x.history })
  pub frames : v.frames ≡ w.frames ++ frames_of (addr_of x) y.outs
  pub sites : (t : List ℕ) → (z : Site) × (find_site w.sites t ≡ Some z) → (z : Site) × (find_site v.sites t ≡ Some z)

disk_stays : (ss : List Site) (s t : List ℕ) (r : LogRec) → (z : Site) × (find_site ss t ≡ Some z) → (z : Site) × (find_site (with_disk ss s (forced r)) t ≡ Some z)
disk_stays ss s t r z = go (find_site ss s) refl
  where
    go : (o : Option Site) → find_site ss s ≡ o → (z : Site) × (find_site (with_disk ss s (forced r)) t ≡ Some z)
    go None i = rw (i, with_disk) z
    go (Some x) i =
        let y : Site = record x { disk = forced r x.disk } in
        let looks : find_site (put_site ss y) t ≡ cond (is_name s t) (Some y) (find_site ss t) = site_put_at ss s x y t i refl in
        subst (λ (l : List Site). (z : Site) × (find_site l t ≡ Some z)) (sym (with_disk_is ss s (forced r) x i)) (there (is_name s t) y looks)
      where
        there : (b : Bool) (y : Site) → find_site (put_site ss y) t ≡ cond b (Some y) (find_site ss t) → (z : Site) × (find_site (put_site ss y) t ≡ Some z)
        there true y looks = (y, looks)
        there false y looks = (z.0, looks ∙ z.1)

logged_sites : (w : World) (n : Node) (o : Option LogRec) (t : List ℕ) → (z : Site) × (find_site w.sites t ≡ Some z) → (z : Site) × (find_site (logged w n o).sites t ≡ Some z)
logged_sites w n None t z = z
logged_sites w n (Some r) t z = disk_stays w.sites (site_of n) t r z

entry_moved : (w : World) (x : Node) (number : Option ℕ) (y : Entry) (o : Option Entry) → o ≡ Some y → IsMoved w x y (entry_turn w x number o).world
entry_moved w x number y None i = absurd (cc (i))
entry_moved w x number y (Some z) i = subst (λ (u : Entry). IsMoved w x u (entry_turn w x number (Some z)).world) (let same : z ≡ y = cc (i) in same) (record {
  nodes = logged_nodes (world_with_entry w x z) x z.rec;
  frames = ap (λ (l : List Frame). l ++ frames_of (addr_of x) z.outs) (logged_frames (world_with_entry w x z) x z.rec);
  sites = λ t s. logged_sites (world_with_entry w x z) x z.rec t s;
})

pub does_moved : (w : World) (d : Action) (x : Node) (e : Event) (y : Entry) → task_of w d ≡ Some (record { node = x; event = e }) → (answer x.origin x.history e).entry ≡ Some y → IsMoved w x y (happens w (Does d)).world
does_moved w d x e y i made = let z : IsMoved w x y (action_turn w d).world = rw (i, action_turn) (entry_moved w x (answer x.origin x.history e).number y (answer x.origin x.history e).entry made) in z

-- ---- a declaration

grown_by : (o : Origin) (h : List Entry) (e : Event) (y : Entry) → (answer o h e).entry ≡ Some y → grown o h e ≡ y ∷ h
grown_by o h e y made = rw (made, grown) refl

pub declares_moved : (w : World) (x : Node) (y : Entry) → find_node w.nodes (number_of x) ≡ Some x → (answer x.origin x.history (Event.Declare x.superior)).entry ≡ Some y → IsMoved w x y (happens w (Happening.Declare_again (number_of x))).world
declares_moved w x y here made = rw (here, declare_again_turn) (record {
  nodes = ap (λ (h : List Entry). put_node w.nodes (record x { history = h })) (grown_by x.origin x.history (Event.Declare x.superior) y made);
  frames = sym (ap (λ (os : List Out). w.frames ++ frames_of (addr_of x) os) (ap (λ (z : Entry). z.outs) (declare_entry x.origin x.history x.superior y made)) ∙ append-nil w.frames);
  sites = λ t z. z;
})

-- ---- frames

pub to_more : (fs gs : List Frame) (a z : Addr) (r : PeerRecord) → IsFrameTo fs a z r → IsFrameTo (fs ++ gs) a z r
to_more [] gs a z r h = absurd h
to_more (f ∷ fs) gs a z r (inl h) = inl h
to_more (f ∷ fs) gs a z r (inr h) = inr (to_more fs gs a z r h)

pub to_behind : (fs gs : List Frame) (a z : Addr) (r : PeerRecord) → IsFrameTo gs a z r → IsFrameTo (fs ++ gs) a z r
to_behind [] gs a z r h = h
to_behind (f ∷ fs) gs a z r h = inr (to_behind fs gs a z r h)

pub said_to : (a z : Addr) (r : PeerRecord) (outs : List Out) → IsSentIn outs z r → IsFrameTo (frames_of a outs) a z r
said_to a z r [] h = absurd h
said_to a z r (Out.Tell i ∷ outs) h = said_to a z r outs h
said_to a z r (Out.Send b q ∷ outs) (inl h) = inl (refl, h.0, h.1)
said_to a z r (Out.Send b q ∷ outs) (inr h) = inr (said_to a z r outs h)

-- the number of a frame
record Numbered (fs : List Frame) (a z : Addr) (r : PeerRecord) : Type 0 where
  number : ℕ
  frame : Frame
  found : find_frame fs number ≡ Some frame
  from : frame.from ≡ a
  to : frame.to ≡ z
  rec : frame.rec ≡ r

one_later : (f : Frame) (fs : List Frame) (a z : Addr) (r : PeerRecord) (n : ℕ) (g : Frame) → find_frame fs n ≡ Some g → g.from ≡ a → g.to ≡ z → g.rec ≡ r → Numbered (f ∷ fs) a z r
one_later f fs a z r zero g found from to rec = absurd (none fs found)
  where
    none : (l : List Frame) → find_frame l zero ≡ Some g → ⊥
    none l i = cc (i)
one_later f fs a z r (suc k) g found from to rec = record { number = suc (suc k); frame = g; found = found; from = from; to = to; rec = rec }

frame_at : (fs : List Frame) (a z : Addr) (r : PeerRecord) → IsFrameTo fs a z r → Numbered fs a z r
frame_at [] a z r h = absurd h
frame_at (f ∷ fs) a z r (inl h) = record { number = suc zero; frame = f; found = refl; from = h.0; to = h.1; rec = h.2 }
frame_at (f ∷ fs) a z r (inr h) = let k = frame_at fs a z r h in one_later f fs a z r k.number k.frame k.found k.from k.to k.rec

-- ---- requests as a line asks for them

line_of : Request → LineRequest
line_of (Request.BeginDialogue a u) = LineRequest.BeginDialogue a.node u
line_of (Request.Accept u) = LineRequest.Accept u
line_of Request.Reject = LineRequest.Reject
line_of (Request.EndDialogue p) = LineRequest.EndDialogue p
line_of (Request.UserData p xs) = LineRequest.UserData p xs
line_of (Request.UError p) = LineRequest.UError p
line_of (Request.UAbort p) = LineRequest.UAbort p
line_of (Request.Grant p) = LineRequest.Grant p
line_of (Request.AskControl p) = LineRequest.AskControl p
line_of (Request.Handshake p) = LineRequest.Handshake p
line_of (Request.Respond p) = LineRequest.Respond p
line_of (Request.HandshakeGrant p) = LineRequest.HandshakeGrant p
line_of (Request.BeginTransaction p) = LineRequest.BeginTransaction p
line_of (Request.DeferEnd p) = LineRequest.DeferEnd p
line_of (Request.DeferGrant p) = LineRequest.DeferGrant p
line_of (Request.Prepare p) = LineRequest.Prepare p
line_of Request.Commit = LineRequest.Commit
line_of Request.Done = LineRequest.Done
line_of Request.Rollback = LineRequest.Rollback
line_of Request.Unchanged = LineRequest.Unchanged

line_says : (w : World) (qs : List Place) (q : Place) (r : Request) → IsPlaced qs q (Event.Do r) → ((a : Addr) → IsThere qs a → addr_at w a.node ≡ Some a) → request_in w (line_of r) ≡ Some r
unfolding line_of
line_says w qs q (Request.BeginDialogue a u) placed at = rw (at a placed, request_in) refl
line_says w qs q (Request.Accept u) placed at = refl
line_says w qs q Request.Reject placed at = refl
line_says w qs q (Request.EndDialogue p) placed at = refl
line_says w qs q (Request.UserData p xs) placed at = refl
line_says w qs q (Request.UError p) placed at = refl
line_says w qs q (Request.UAbort p) placed at = refl
line_says w qs q (Request.Grant p) placed at = refl
line_says w qs q (Request.AskControl p) placed at = refl
line_says w qs q (Request.Handshake p) placed at = refl
line_says w qs q (Request.Respond p) placed at = refl
line_says w qs q (Request.HandshakeGrant p) placed at = refl
line_says w qs q (Request.BeginTransaction p) placed at = refl
line_says w qs q (Request.DeferEnd p) placed at = refl
line_says w qs q (Request.DeferGrant p) placed at = refl
line_says w qs q (Request.Prepare p) placed at = refl
line_says w qs q Request.Commit placed at = refl
line_says w qs q Request.Done placed at = refl
line_says w qs q Request.Rollback placed at = refl
line_says w qs q Request.Unchanged placed at = refl

-- ---- the happening for an event that a node takes

-- what a site is given is no loss that follows an answer, and no crash
pub is_plain : Event → Bool
is_plain (Event.Break from r) = false
is_plain Event.Crash = false
is_plain _ = true

pub plain_given : (o : Opening) (g : Given) (n : ℕ) (e : Event) → asked o g ≡ Is n e → is_plain e ≡ true
unfolding is_plain
plain_given o (Given.Arrive from to octets) n e h = arrived (peer_in octets) (is_name to.site o.site) h
  where
    arrived : (r : Option PeerRecord) (b : Bool) → (elim r as (λ _. AskedEvent) [ None ↦ Refuses 25 | Some x ↦ elim b as (λ _. AskedEvent) [ true ↦ Is to.node (Event.Arrive from x) | false ↦ Refuses 23 ] ]) ≡ Is n e → is_plain e ≡ true
    arrived None b k = absurd (cc (k))
    arrived (Some x) true k = let same : Event.Arrive from x ≡ e = cc (k) in ap is_plain (sym same)
    arrived (Some x) false k = absurd (cc (k))
plain_given o (Given.Declare m s) n e h = let same : Event.Declare s ≡ e = cc (h) in ap is_plain (sym same)
plain_given o (Given.Do m r) n e h = let same : Event.Do r ≡ e = cc (h) in ap is_plain (sym same)
plain_given o (Given.Lose m p) n e h = let same : Event.Lose p ≡ e = cc (h) in ap is_plain (sym same)
plain_given o (Given.Heur m u) n e h = let same : Event.Heur u ≡ e = cc (h) in ap is_plain (sym same)
plain_given o (Given.GiveUp m p) n e h = let same : Event.GiveUp p ≡ e = cc (h) in ap is_plain (sym same)
plain_given o (Given.Retry m) n e h = let same : Event.Retry ≡ e = cc (h) in ap is_plain (sym same)
plain_given o (Given.Purge m) n e h = let same : Event.Purge ≡ e = cc (h) in ap is_plain (sym same)

-- what is there of the world for it
pub record IsReady (qs : List Place) (w : World) (q : Place) (x : Node) (e : Event) : Type 0 where
  pub here : find_node w.nodes (number_of x) ≡ Some x
  pub superior : x.superior ≡ q.superior
  pub placed : IsPlaced qs q e
  pub there : (a : Addr) → IsThere qs a → addr_at w a.node ≡ Some a
  pub came : (from : Addr) (r : PeerRecord) → e ≡ Event.Arrive from r → IsFrameTo w.frames from (addr_of x) r

task_here : (w : World) (x : Node) (e : Event) → find_node w.nodes (number_of x) ≡ Some x → task_at w (number_of x) e ≡ Some (record { node = x; event = e })
task_here w x e here = rw (here, task_at) refl

abbrev Happened : World → Node → Entry → Type 0
Happened w x y = (u : Happening) × IsMoved w x y (happens w u).world

does_so : (w : World) (d : Action) (x : Node) (e : Event) (y : Entry) → task_of w d ≡ task_at w (number_of x) e → find_node w.nodes (number_of x) ≡ Some x → (answer x.origin x.history e).entry ≡ Some y → Happened w x y
does_so w d x e y is here made = (Does d, does_moved w d x e y (is ∙ task_here w x e here) made)

pub happening_for : (qs : List Place) (w : World) (q : Place) (x : Node) (e : Event) (y : Entry) → is_plain e ≡ true → IsReady qs w q x e → (answer x.origin x.history e).entry ≡ Some y → Happened w x y
unfolding is_plain
happening_for qs w q x (Event.Declare s) y plain k made =
    let same : s ≡ x.superior = k.placed ∙ sym k.superior in
    (Happening.Declare_again (number_of x), declares_moved w x y k.here (ap (λ (u : Option Addr). (answer x.origin x.history (Event.Declare u)).entry) (sym same) ∙ made))
happening_for qs w q x (Event.Do r) y plain k made = does_so w (Action.Do (number_of x) (line_of r)) x (Event.Do r) y (rw (line_says w qs q r k.placed k.there, task_of) refl) k.here made
happening_for qs w q x (Event.Arrive from r) y plain k made =
    let f : Numbered w.frames from (addr_of x) r = frame_at w.frames from (addr_of x) r (k.came from r refl) in
    let is : task_at w f.frame.to.node (Event.Arrive f.frame.from f.frame.rec) ≡ task_at w (number_of x) (Event.Arrive from r) =
    ap (λ (a : Addr). task_at w a.node (Event.Arrive f.frame.from f.frame.rec)) f.to ∙ ap (λ (a : Addr). task_at w (number_of x) (Event.Arrive a f.frame.rec)) f.from
    ∙ ap (λ (s : PeerRecord). task_at w (number_of x) (Event.Arrive from s)) f.rec in
    does_so w (Action.Again f.number) x (Event.Arrive from r) y (rw (f.found, task_of) is) k.here made
happening_for qs w q x (Event.Break from r) y plain k made = absurd (cc (plain))
happening_for qs w q x (Event.Lose p) y plain k made = does_so w (Action.Lose (number_of x) p) x (Event.Lose p) y refl k.here made
happening_for qs w q x (Event.Heur o) y plain k made = does_so w (Action.Heur (number_of x) o) x (Event.Heur o) y refl k.here made
happening_for qs w q x (Event.GiveUp p) y plain k made = does_so w (Action.GiveUp (number_of x) p) x (Event.GiveUp p) y refl k.here made
happening_for qs w q x Event.Retry y plain k made = does_so w (Action.Retry (number_of x)) x Event.Retry y refl k.here made
happening_for qs w q x Event.Purge y plain k made = does_so w (Action.Purge (number_of x)) x Event.Purge y refl k.here made
happening_for qs w q x Event.Crash y plain k made = absurd (cc (plain))
