-- How it goes with one frame, by whether it is let in and how it is answered.
use Rattle.std.proofs.Common.{◌≡◌, ◌⊎◌, inl, inr, ◌<◌, ◌≤◌, ◌+◌, ℕ, Bool, true, false, ap, sym, subst, ◌∙◌, arith, Option, Some, None, List, Result, Ok, Err}
use Rattle.std.specs.Prelude.{nat_lt}
use Rattle.std.proofs.lemmas.Bool.Decides.{nat_tests}
use Rattle.tp_outside.specs.Story.{Story}
use Rattle.tp_records.specs.declared.body.Event.{Event as Given}
use Rattle.tp_model.specs.declared.verdict.What.{What}
use Rattle.tp_model.specs.declared.verdict.Why.{Why}
use Rattle.tp_model.specs.Transcript.{Bad_input, At_limit}
use Rattle.tp_model.specs.NodeRun.{Opening}
use Rattle.tp_model.specs.NodeTranscript.{is_past_limit}
use Rattle.tp_journal.specs.Keeping.{Standing}
use Rattle.tp_streams.specs.declared.stop.Stop.{Stop}
use Rattle.tx_face.specs.Face.{Face}
use Rattle.tp_tx.specs.declared.frame.Frame.{Frame}
use Rattle.tp_tx.specs.Frames.{frame_in, declared_by_frame, declared_in}
use Rattle.tp_tx.specs.Said.{IsRead}
use Rattle.tp_tx.specs.Admitted.{LetsIn, IsPast}
use Rattle.tp_tx.specs.Transcript.{Asks, Turn, Stops, Goes, stand_after, asks, events_with, turn_by, turn}
use Rattle.tp_tx.specs.Progress.{IsRunning, AnswersFrame, AnswersBody}

above : (m n : ℕ) → m < n → nat_lt m n ≡ true
above m n h = grind (arith, nat_tests)

within : (m n : ℕ) → n ≤ m → nat_lt m n ≡ false
within m n h = grind (arith, nat_tests)

-- by what the body says, and the two limits
abbrev turn_if : Opening → List Given → ℕ → Option Frame → Bool → (Frame → Bool) → Turn
turn_if o gs at said events nodes = elim said as (λ _. Turn) [
  | None ↦ Stops (Bad_input at Why.Body)
  | Some f ↦ elim events as (λ _. Turn) [
    | true ↦ Stops (At_limit What.Events at)
    | false ↦ elim (nodes f) as (λ _. Turn) [ true ↦ Stops (At_limit What.Nodes at) | false ↦ turn_by o gs at (asks (stand_after o gs) f) ]
  ]
]

module _ (o : Opening) (gs : List Given) (at declares : ℕ) (body : List ℕ) where
  abbrev nodes : Frame → Bool
  nodes f = nat_lt 256 (declares + declared_by_frame f)

  said : (f : Frame) → frame_in body ≡ Some f → turn o gs at declares body ≡ turn_if o gs at (Some f) (nat_lt 1000000 at) nodes
  said f says = ap (λ (s : Option Frame). turn_if o gs at s (nat_lt 1000000 at) nodes) says

  pub turns_in : (f : Frame) (new : ℕ) → LetsIn at declares body f new → turn o gs at declares body ≡ turn_by o gs at (asks (stand_after o gs) f)
  turns_in f new x =
      said f x.says
      ∙ ap (λ (b : Bool). turn_if o gs at (Some f) b nodes) (within 1000000 at x.frames)
      ∙ ap (λ (b : Bool). turn_if o gs at (Some f) false (λ _. b)) (within 256 (declares + declared_by_frame f) x.nodes)

  pub counts_in : (f : Frame) (new : ℕ) → LetsIn at declares body f new → new ≡ declares + declared_in body
  counts_in f new x = x.counts ∙ ap (λ (s : Option Frame). declares + (elim s as (λ _. ℕ) [ None ↦ 0 | Some f ↦ declared_by_frame f ])) (sym x.says)

  -- it is bad
  turns_bad : frame_in body ≡ None → turn o gs at declares body ≡ Stops (Bad_input at Why.Body)
  turns_bad none = ap (λ (s : Option Frame). turn_if o gs at s (nat_lt 1000000 at) nodes) none

  -- or passes a limit
  turns_past : (stop : Stop) → IsPast at declares body stop → (what : What) × (stop ≡ Stop.Limit what at) × (turn o gs at declares body ≡ Stops (At_limit what at))
  turns_past stop x = elim x.past [
    | inl y ↦ (What.Events, y.1, said x.frame x.says ∙ ap (λ (b : Bool). turn_if o gs at (Some x.frame) b nodes) (above 1000000 at y.0))
    | inr y ↦ (
      What.Nodes,
      y.2,
      said x.frame x.says
          ∙ ap (λ (b : Bool). turn_if o gs at (Some x.frame) b nodes) (within 1000000 at y.0)
          ∙ ap (λ (b : Bool). turn_if o gs at (Some x.frame) false (λ _. b)) (above 256 (declares + declared_by_frame x.frame) y.1),
    )
  ]

by_room : (o : Opening) (gs : List Given) (at : ℕ) (a : Asks) (b : Bool) → is_past_limit o (events_with gs a) ≡ b → turn_by o gs at a ≡ (elim b as (λ _. Turn) [ true ↦ Stops (At_limit What.Log at) | false ↦ Goes a ])
by_room o gs at a b is = ap (λ (x : Bool). elim x as (λ _. Turn) [ true ↦ Stops (At_limit What.Log at) | false ↦ Goes a ]) is

module _ {K : Type 0} (standing : K → Standing) (o : Opening) (gs : List Given) (begun : Option Story) (faults : ℕ) (at declares : ℕ) (body : List ℕ) (f : Face K) (count : ℕ) (old new : List ℕ) where
  abbrev Ends : Stop → Type 0
  Ends stop = AnswersBody standing o gs begun faults at declares body (Err stop) f count old new

  -- the frame is not let in, and nothing has changed
  pub kept_out : (stop : Stop) → IsRunning standing o gs begun faults f → new ≡ old → IsRead at body (Err stop) ⊎ IsPast at declares body stop → Ends stop
  kept_out stop running same (inl (inl bad)) = subst Ends (sym bad.0) (running, turns_bad o gs at declares body bad.1, same)
  kept_out stop running same (inl (inr memory)) = subst Ends (sym memory) (inl running, same)
  kept_out stop running same (inr past) = let x = turns_past o gs at declares body stop past in subst Ends (sym x.1) (running, x.2, same)

  -- it is let in, and was answered so
  pub let_in : (frame : Frame) (result : Result (Unit {0}) Stop) → LetsIn at declares body frame count → AnswersFrame standing o gs begun faults at (asks (stand_after o gs) frame) result f old new → AnswersBody standing o gs begun faults at declares body result f count old new
  let_in frame result lets x = go result x
    where
      a : Asks
      a = asks (stand_after o gs) frame

      goes : is_past_limit o (events_with gs a) ≡ false → turn o gs at declares body ≡ Goes a
      goes room = turns_in o gs at declares body frame count lets ∙ by_room o gs at a false room

      go : (result : Result (Unit {0}) Stop) → AnswersFrame standing o gs begun faults at a result f old new → AnswersBody standing o gs begun faults at declares body result f count old new
      go (Ok u) y = (a, goes y.0.serving.room, y.0, counts_in o gs at declares body frame count lets, y.1)
      go (Err (Stop.BadInput n why)) y = absurd y
      go (Err (Stop.Limit what n)) y = subst Ends (sym limit) (y.0, turns_in o gs at declares body frame count lets ∙ by_room o gs at a true y.3, y.4)
        where
          limit : Stop.Limit what n ≡ Stop.Limit What.Log at
          limit = ap (λ (w : What). Stop.Limit w n) y.1 ∙ ap (Stop.Limit What.Log) y.2
      go (Err (Stop.Foreign n)) y = absurd y
      go (Err (Stop.ReadFault n)) y = absurd y
      go (Err (Stop.WriteFault n)) y = absurd y
      go (Err (Stop.DiskFault n)) y = y
      go (Err Stop.NoMemory) (inl y, same) = (inl y, same)
      go (Err Stop.NoMemory) (inr y, same) = (inr (a, goes y.serving.room, y), same)
