-- Bytes that are fed to a reader of frames out of a source, and what comes next of them.
-- How a whole stream is read is said in Taken.
use Rattle.std.specs.Prelude.{ℕ, ◌≡◌, ◌+◌, ◌≤◌, Bool, true, false, Option, Some, None, option_map, Result, Ok, Err, List, [], ◌++◌, length}
use Rattle.tp_framing.specs.Frames.{Part, Whole, Bad, next_in, frame_bytes, IsBody}
use Rattle.tp_framing.specs.Fed.{Fed, HandsOut as FeedsOut}
use Rattle.tp_model.specs.declared.verdict.Why.{Why}
use Rattle.tp_streams.specs.declared.stop.Stop.{Stop}
use Rattle.tp_streams.specs.Stops.{IsFaultOf}
use Rattle.tp_streams.specs.Taken.{together}

-- nothing is left
abbrev pub IsAtEnd : Option (List ℕ) → Type 0
IsAtEnd None = Unit {0}
IsAtEnd (Some left) = left ≡ []

-- n bytes more are at hand: the first of those that were left
pub record Gains (old new : Fed) (left rest : Option (List ℕ)) (n : ℕ) : Type 0 where
  pub handed : new.handed ≡ old.handed
  pub count : length new.pending ≡ length old.pending + n
  pub few : n ≤ 8192
  pub same : together new.pending rest ≡ together old.pending left
  pub none : n ≡ 0 → new ≡ old
  pub at_end : n ≡ 0 → IsAtEnd rest

-- what stops a reading on
abbrev pub IsPullStop : ℕ → ℕ → Fed → Fed → Option (List ℕ) → Option (List ℕ) → Stop → Type 0
IsPullStop read now old new left rest (Stop.BadInput at why) = ⊥
IsPullStop read now old new left rest (Stop.Limit what at) = ⊥
IsPullStop read now old new left rest (Stop.Foreign at) = ⊥
IsPullStop read now old new left rest (Stop.ReadFault faults) = IsFaultOf faults read now × (new ≡ old) × (rest ≡ left)
IsPullStop read now old new left rest (Stop.WriteFault faults) = ⊥
IsPullStop read now old new left rest (Stop.DiskFault faults) = ⊥
IsPullStop read now old new left rest Stop.NoMemory = new ≡ old

-- a body is handed out of the bytes at hand
pub record Hands (old : Fed) (body : List ℕ) (new : Fed) : Type 0 where
  pub next : next_in old.pending ≡ Whole body new.pending
  pub out : FeedsOut old body new

-- what stops a handing out at the frame with that number
abbrev pub IsNextStop : ℕ → Fed → Fed → Stop → Type 0
IsNextStop number old new (Stop.BadInput at why) = (at ≡ number) × (why ≡ Why.Length) × (next_in old.pending ≡ Bad) × (new ≡ old)
IsNextStop number old new (Stop.Limit what at) = ⊥
IsNextStop number old new (Stop.Foreign at) = ⊥
IsNextStop number old new (Stop.ReadFault faults) = ⊥
IsNextStop number old new (Stop.WriteFault faults) = ⊥
IsNextStop number old new (Stop.DiskFault faults) = ⊥
IsNextStop number old new Stop.NoMemory = (old.handed ≤ new.handed) × (length new.pending ≤ length old.pending)

-- what comes next of the bytes at hand
abbrev pub ComesNext : ℕ → Fed → Result (Option (List ℕ)) Stop → Fed → Type 0
ComesNext number old (Ok None) new = (next_in old.pending ≡ Part) × (new ≡ old)
ComesNext number old (Ok (Some body)) new = Hands old body new
ComesNext number old (Err stop) new = IsNextStop number old new stop

-- ---- what is sought

-- the body came first, whatever was read on the way
pub record FindsBody (old : Fed) (left : Option (List ℕ)) (body : List ℕ) (new : Fed) (rest : Option (List ℕ)) : Type 0 where
  pub sound : IsBody body
  pub bytes : together old.pending left ≡ option_map (λ bytes. frame_bytes body ++ bytes) (together new.pending rest)
  pub handed : new.handed ≡ old.handed + length (frame_bytes body)

-- nothing is left
pub record FindsEnd (old : Fed) (left : Option (List ℕ)) (new : Fed) (rest : Option (List ℕ)) : Type 0 where
  pub bytes : together new.pending rest ≡ together old.pending left
  pub none : new.pending ≡ []

-- what a seeking leaves, by its answer
abbrev pub Finds : Fed → Option (List ℕ) → Result (Option (List ℕ)) Stop → Fed → Option (List ℕ) → Type 0
Finds old left (Ok None) new rest = FindsEnd old left new rest
Finds old left (Ok (Some body)) new rest = FindsBody old left body new rest
Finds old left (Err stop) new rest = Unit {0}

-- no byte is lost, and no whole frame is at hand
pub record IsParted (old : Fed) (left : Option (List ℕ)) (new : Fed) (rest : Option (List ℕ)) : Type 0 where
  pub bytes : together new.pending rest ≡ together old.pending left
  pub part : next_in new.pending ≡ Part

-- what is answered at the end of a stream, by whether nothing is at hand
abbrev pub at_end_of : ℕ → Bool → Result (Option (List ℕ)) Stop
at_end_of number true = Ok None
at_end_of number false = Err (Stop.BadInput number Why.Short)
