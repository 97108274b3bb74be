-- One line of a run in which a node takes an event: what it makes of the nodes and of the frames, and which number a new frame has.
use Rattle.std.proofs.Common.{◌≡◌, inl, inr, ℕ, zero, suc, ◌<◌, Bool, true, false, cond, refl, ap, sym, subst, ◌∙◌, arith, Option, Some, None, List, [], ◌∷◌, ◌++◌, ◌==◌, length}
use Rattle.std.proofs.lemmas.Bool.Decides.{nat_tests}
use Rattle.tp_names.specs.declared.identifiers.Addr.{Addr}
use Rattle.tp_records.specs.declared.peer.PeerRecord.{PeerRecord}
use Rattle.tp_model.specs.declared.line.Action.{Action}
use Rattle.tp_model.specs.declared.refusal.Refusal.{Refusal}
use Rattle.tp_model.specs.Parts.{Event, Out, Answer, Verdict}
use Rattle.tp_model.specs.Refusal.{number_of as refusal_number}
use Rattle.tp_model.specs.History.{digest, refuse, answer, entry_of}
use Rattle.tp_model.specs.World.{World, Node, Frame, number_of, addr_of, find_node, put_node, find_frame}
use Rattle.tp_model.specs.Happenings.{task_at, task_of, frames_of, world_with_entry, entry_turn, action_turn}
use Rattle.tp_model.proofs.Verdicts.{accepted_by_none}
use Rattle.tp_histories.specs.Histories.{IsSentIn}
use Rattle.tp_histories.specs.Worlds.{grown_node}
use Rattle.tp_histories.proofs.worlds.Traversal.{logged_nodes, logged_frames}
use Rattle.tp_histories.proofs.worlds.Nodes.{find_put}

-- ---- a node takes an event

pub record Takes (w : World) (x : Node) (e : Event) (v : World) : Type 0 where
  pub nodes : v.nodes ≡ put_node w.nodes (grown_node x e)
  pub frames : v.frames ≡ w.frames ++ frames_of (addr_of x) (entry_of x.origin x.history e).outs

entry_taken : (w : World) (x : Node) (e : Event) (number : Option ℕ) → Takes w x e (entry_turn w x number (Some (entry_of x.origin x.history e))).world
entry_taken w x e number = record {
  nodes = logged_nodes (world_with_entry w x (entry_of x.origin x.history e)) x (entry_of x.origin x.history e).rec;
  frames = ap (λ (l : List Frame). l ++ frames_of (addr_of x) (entry_of x.origin x.history e).outs) (logged_frames (world_with_entry w x (entry_of x.origin x.history e)) x (entry_of x.origin x.history e).rec);
}

accepted_answer : (x : Node) (e : Event) → refuse x.origin x.history e ≡ None → answer x.origin x.history e ≡ record { number = None; entry = Some (entry_of x.origin x.history e) }
accepted_answer x e ok = ap (λ (v : Verdict). elim v as (λ _. Answer) [
  | Verdict.Accepted ↦ record { number = None; entry = Some (entry_of x.origin x.history e) }
  | Verdict.Refused n ↦ record { number = Some (refusal_number n); entry = None }
  | Verdict.Breaks from r ↦ record { number = Some (refusal_number Refusal.OutOfPhase); entry = Some (entry_of x.origin x.history (Event.Break from r)) }
]) (accepted_by_none x.origin.who (digest x.origin x.history) e ok)

pub does_take : (w : World) (d : Action) (x : Node) (e : Event) → task_of w d ≡ Some (record { node = x; event = e }) → refuse x.origin x.history e ≡ None → Takes w x e (action_turn w d).world
does_take w d x e i ok = let z : Takes w x e (action_turn w d).world = rw (i, action_turn) (subst (λ (a : Answer). Takes w x e (entry_turn w x a.number a.entry).world) (sym (accepted_answer x e ok)) (entry_taken w x e None)) in z

-- a retry, a done or a purge of a node that is there
pub task_here : (w : World) (x : Node) (e : Event) → find_node w.nodes (number_of x) ≡ Some x → task_at w (number_of x) e ≡ Some (record { node = x; event = e })
task_here w x e here = rw (here, task_at) refl

-- ---- the frames of an event

pub record Numbered (fs : List Frame) (from to : Addr) (r : PeerRecord) : Type 0 where
  pub number : ℕ
  pub frame : Frame
  pub found : find_frame fs (suc number) ≡ Some frame
  pub from_is : frame.from ≡ from
  pub to_is : frame.to ≡ to
  pub rec_is : frame.rec ≡ r

one_later : (f : Frame) (fs : List Frame) (a z : Addr) (r : PeerRecord) → Numbered fs a z r → Numbered (f ∷ fs) a z r
one_later f fs a z r n = record { number = suc n.number; frame = n.frame; found = n.found; from_is = n.from_is; to_is = n.to_is; rec_is = n.rec_is }

sent_numbered : (a z : Addr) (r : PeerRecord) (outs : List Out) → IsSentIn outs z r → Numbered (frames_of a outs) a z r
sent_numbered a z r [] h = absurd h
sent_numbered a z r (Out.Tell i ∷ outs) h = sent_numbered a z r outs h
sent_numbered a z r (Out.Send b q ∷ outs) (inl h) = record { number = zero; frame = record { from = a; to = b; rec = q; handed = false }; found = refl; from_is = refl; to_is = h.0; rec_is = h.1 }
sent_numbered a z r (Out.Send b q ∷ outs) (inr h) = one_later (record { from = a; to = b; rec = q; handed = false }) (frames_of a outs) a z r (sent_numbered a z r outs h)

-- behind the frames that were there
pub record NewFrame (before : ℕ) (fs : List Frame) (from to : Addr) (r : PeerRecord) : Type 0 where
  pub number : ℕ
  pub new : before < number
  pub frame : Frame
  pub found : find_frame fs number ≡ Some frame
  pub from_is : frame.from ≡ from
  pub to_is : frame.to ≡ to
  pub rec_is : frame.rec ≡ r

found_behind : (fs gs : List Frame) (k : ℕ) (f : Frame) → find_frame gs (suc k) ≡ Some f → (n : ℕ) × (length fs < n) × (find_frame (fs ++ gs) n ≡ Some f)
found_behind [] gs k f h = (suc k, omega arith, h)
found_behind (x ∷ fs) gs k f h = go (found_behind fs gs k f h)
  where
    go : (n : ℕ) × (length fs < n) × (find_frame (fs ++ gs) n ≡ Some f) → (n : ℕ) × (length (x ∷ fs) < n) × (find_frame ((x ∷ fs) ++ gs) n ≡ Some f)
    go (zero, less, found) = absurd (omega arith)
    go (suc n, less, found) = (suc (suc n), omega arith, found)

pub new_frame : (w v : World) (x : Node) (e : Event) (z : Addr) (r : PeerRecord) → Takes w x e v → IsSentIn (entry_of x.origin x.history e).outs z r → NewFrame (length w.frames) v.frames (addr_of x) z r
new_frame w v x e z r t sent =
    let k : Numbered (frames_of (addr_of x) (entry_of x.origin x.history e).outs) (addr_of x) z r = sent_numbered (addr_of x) z r (entry_of x.origin x.history e).outs sent in
    let n = found_behind w.frames (frames_of (addr_of x) (entry_of x.origin x.history e).outs) k.number k.frame k.found in
    record { number = n.0; new = n.1; frame = k.frame; found = ap (λ (l : List Frame). find_frame l n.0) t.frames ∙ n.2; from_is = k.from_is; to_is = k.to_is; rec_is = k.rec_is }

-- a frame that is delivered
pub task_again : (w : World) (before : ℕ) (from : Addr) (r : PeerRecord) (to : Addr) (x : Node) → (k : NewFrame before w.frames from to r) → to.node ≡ number_of x → find_node w.nodes (number_of x) ≡ Some x
    → task_of w (Action.Again k.number) ≡ Some (record { node = x; event = Event.Arrive from r })
task_again w before from r to x k at here = rw (k.found, task_of) (
    ap (λ (a : Addr). task_at w a.node (Event.Arrive k.frame.from k.frame.rec)) k.to_is ∙ ap (λ (n : ℕ). task_at w n (Event.Arrive k.frame.from k.frame.rec)) at
    ∙ ap (λ (a : Addr). task_at w (number_of x) (Event.Arrive a k.frame.rec)) k.from_is ∙ ap (λ (s : PeerRecord). task_at w (number_of x) (Event.Arrive from s)) k.rec_is ∙ task_here w x (Event.Arrive from r) here)

-- ---- the nodes after it

pub taken_here : (w v : World) (x : Node) (e : Event) → find_node w.nodes (number_of x) ≡ Some x → Takes w x e v → find_node v.nodes (number_of x) ≡ Some (grown_node x e)
taken_here w v x e here t =
    ap (λ (ns : List Node). find_node ns (number_of x)) t.nodes ∙ find_put w.nodes (grown_node x e) x (number_of x) here ∙ ap (λ (b : Bool). cond b (Some (grown_node x e)) (find_node w.nodes (number_of x))) (self (number_of x))
  where
    self : (n : ℕ) → (n == n) ≡ true
    self n = grind (arith, nat_tests)

pub taken_there : (w v : World) (x : Node) (e : Event) (n : ℕ) → find_node w.nodes (number_of x) ≡ Some x → Takes w x e v → (number_of x == n) ≡ false → find_node v.nodes n ≡ find_node w.nodes n
taken_there w v x e n here t other =
    ap (λ (ns : List Node). find_node ns n) t.nodes ∙ find_put w.nodes (grown_node x e) x n here ∙ ap (λ (b : Bool). cond b (Some (grown_node x e)) (find_node w.nodes n)) other
