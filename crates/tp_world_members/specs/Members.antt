-- The members that were handed in, numbered from 1, which of them are there, which nodes they drive, and what they may answer.
use Rattle.std.specs.Prelude.{ℕ, zero, suc, ◌≡◌, ◌⊎◌, ◌++◌, Bool, true, false, Option, Some, None, List, [], ◌∷◌, slice_index_or, nat_eq, ◌==◌, ◌≤◌, drop, length}
use Rattle.std.specs.Map.{lookup}
use Rattle.tp_records.specs.declared.request.Request.{Request}
use Rattle.tp_records.specs.Answers.{Answer}
use Rattle.tp_model.specs.declared.out_line.OutLine.{OutLine}
use Rattle.tp_model.specs.Transcript.{Put, answers_of}
use Rattle.tp_world_members.specs.Told.{puts_in}
use Rattle.tp_world_members.specs.declared.members.Asked.{Asked}

-- ---- which are there

-- of a member that was dropped, its place is left
abbrev pub slot_at : {M : Type 0} → List (Option M) → ℕ → Option M
slot_at xs zero = None
slot_at xs (suc i) = slice_index_or xs i None

abbrev pub is_there : {M : Type 0} → Option M → Bool
is_there None = false
is_there (Some m) = true

-- a node is driven by the member that was named last, while that is there
abbrev pub driver_in : {M : Type 0} → List (Option M) → List (ℕ × ℕ) → ℕ → Option ℕ
driver_in xs es n = elim (lookup (nat_eq n) es) [ None ↦ None | Some k ↦ elim (is_there (slot_at xs k)) [ true ↦ Some k | false ↦ None ] ]

-- as many, and the same are there
pub record AreSame {M : Type 0} (old new : List (Option M)) : Type 0 where
  pub count : length new ≡ length old
  pub there : (k : ℕ) → is_there (slot_at new k) ≡ is_there (slot_at old k)

-- what is noted of a node, by whether it is the one that is driven now
abbrev pub now_driven : Bool → ℕ → Option ℕ → Option ℕ
now_driven true k before = Some k
now_driven false k before = before

-- that one is dropped, and no other has changed
abbrev pub HasLeft : {M : Type 0} → ℕ → List (Option M) → List (Option M) → Type 0
HasLeft j old new = (k : ℕ) → slot_at new k ≡ elim (j == k) [ true ↦ None | false ↦ slot_at old k ]

-- ---- what they may answer

-- a member may answer so from now on; one that is asked no more, or never was, answers nothing
abbrev pub may : {M : Type 0} → (M → List Answer → Type 0) → Option M → List Answer → Type 0
may allowed None answers = answers ≡ []
may allowed (Some m) answers = (answers ≡ []) ⊎ allowed m answers

-- these answers were given to what was put: whatever a member may answer from now on, it might answer after its own among them
abbrev pub Gave : {M : Type 0} → (M → List Answer → Type 0) → List (Option M) → List (Option M) → List Put → List (Option Request) → Type 0
Gave allowed old new puts answers = (k : ℕ) (rest : List Answer) → may allowed (slot_at new k) rest
    → may allowed (slot_at old k) (answers_of k puts answers ++ rest)

-- ---- what is asked for next

-- each answered, and asked for nothing
abbrev pub silent : List Put → List (Option Request)
silent [] = []
silent (q ∷ qs) = None ∷ silent qs

-- the first request among the answers is that, and what is after it in the queue is left
pub record AsksFor {M : Type 0} (allowed : M → List Answer → Type 0) (old new : List (Option M)) (queue : List Put) (a : Asked) (rest : List Put) : Type 0 where
  pub passed : List Put
  pub put : Put
  pub is : queue ≡ passed ++ put ∷ rest
  pub node : put.node ≡ a.node
  pub gave : Gave allowed old new (passed ++ put ∷ []) (silent passed ++ Some a.request ∷ [])

abbrev pub Asks : {M : Type 0} → (M → List Answer → Type 0) → List (Option M) → List (Option M) → List Put → Option Asked → Type 0
Asks allowed old new queue None = Gave allowed old new queue (silent queue)
Asks allowed old new queue (Some a) = AsksFor allowed old new queue a []

-- of what these lines tell from that place on; the rest begins at the place that is handed out
abbrev pub AsksFrom : {M : Type 0} → (M → List Answer → Type 0) → List (Option M) → List (Option M) → (ℕ → Option ℕ) → List OutLine → ℕ
    → Option (Asked × ℕ) → Type 0
AsksFrom allowed old new driver lines from None = let queue : List Put = puts_in driver (drop from lines) in Gave allowed old new queue (silent queue)
AsksFrom allowed old new driver lines from (Some x) = (x.1 ≤ length lines)
    × AsksFor allowed old new (puts_in driver (drop from lines)) x.0 (puts_in driver (drop x.1 lines))
