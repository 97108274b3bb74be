-- No run is stuck: from every world without associations in which nobody is active or rolls, recovery alone brings every transaction to
-- its end, in so many lines. Nothing is said of time; and each line is one that may always be written.
use Rattle.std.specs.Prelude.{ℕ, suc, ◌≡◌, ◌≢◌, ◌≤◌, ◌<◌, ◌+◌, ◌*◌, ◌&&◌, ◌||◌, not, Bool, true, false, if◌then◌else◌, Option, Some, None, List, [], ◌∷◌, ◌++◌, length}
use Rattle.tp_names.specs.declared.identifiers.Aaid.{Aaid}
use Rattle.tp_model.specs.declared.recovery.Kept.{Kept}
use Rattle.tp_model.specs.declared.line.LineRequest.{LineRequest}
use Rattle.tp_model.specs.declared.line.Action.{Action}
use Rattle.tp_model.specs.declared.out_line.OutLine.{OutLine}
use Rattle.tp_model.specs.Parts.{Branch, Current, Digest}
use Rattle.tp_model.specs.Dialogues.{is_ready}
use Rattle.tp_model.specs.Transactions.{is_under}
use Rattle.tp_model.specs.Recovery.{is_commit, is_root_key}
use Rattle.tp_model.specs.World.{World, Node}
use Rattle.tp_model.specs.Trees.{members_of, closing_line}
use Rattle.tp_model.specs.Happenings.{Happening, Does, run}
use Rattle.tp_model.specs.Promises.{IsIn}
use Rattle.tp_finishing.specs.Doubt.{known_of}
use Rattle.tp_finishing.specs.Quiet.{IsQuiet, Each, IsStop}
use Rattle.tp_finishing.specs.Cuts.{IsCut, AllMayBeCut, most_cuts}

-- ---- lines of recovery

-- A node is asked to retry; a frame that was sent since is delivered, and none of those that were under way before; a user says that it
-- has finished its part; a kept transaction that waits for nobody is purged. So many frames were sent before.
abbrev pub IsRecovery : ℕ → Happening → Type 0
IsRecovery sent (Does (Action.Retry n)) = Unit {0}
IsRecovery sent (Does (Action.Purge n)) = Unit {0}
IsRecovery sent (Does (Action.Again k)) = sent < k
IsRecovery sent (Does (Action.Do n LineRequest.Done)) = Unit {0}
IsRecovery sent _ = ⊥

-- ---- where it ends: no node has a transaction, neither a current one nor one that it keeps

pub record IsOverAt (d : Digest) : Type 0 where
  pub current : d.current ≡ None
  pub kept : d.kept ≡ []

abbrev pub IsOver : World → Type 0
IsOver w = (x : Node) → IsIn w x → IsOverAt (known_of x)

-- no tree is open: all its nodes that stay agree, or it is mixed and its closing line names who decided
abbrev pub IsClosed : World → Type 0
IsClosed w = (t : Aaid) → closing_line t (members_of t w.nodes) ≢ OutLine.Open t

abbrev pub OverIsClosed : Type 0
OverIsClosed = (es : List Happening) → IsOver (run es) → IsClosed (run es)

-- ---- in how many lines

-- branches that are neither done nor left
abbrev pub count_open : List Branch → ℕ
count_open [] = 0
count_open (b ∷ bs) = if b.left || b.ended then count_open bs else suc (count_open bs)

-- a transaction that is kept for its damage: a commitment of a branch until its superior lets it forget, another one until it is purged
abbrev pub lines_to_forget : Bool → ℕ
lines_to_forget true = 3
lines_to_forget false = 1

abbrev pub lines_of_current : Option Current → ℕ
lines_of_current None = 0
lines_of_current (Some c) =
    if is_ready c.phase then 7 + 3 * length c.branches else (if c.owes then 1 else 0) + lines_to_forget (is_under c.key) + 3 * count_open c.branches

abbrev pub lines_of_kept : List Kept → ℕ
lines_of_kept [] = 0
lines_of_kept (k ∷ ks) = lines_to_forget (is_commit k.side && not (is_root_key k.key)) + 3 * length k.owed + lines_of_kept ks

abbrev pub lines_at : Digest → ℕ
lines_at d = lines_of_current d.current + lines_of_kept d.kept

abbrev pub most_lines : List Node → ℕ
most_lines [] = 0
most_lines (x ∷ xs) = lines_at (known_of x) + most_lines xs

-- ---- after `more` of recovery alone nothing is left to do

pub record Finishes (es more : List Happening) : Type 0 where
  pub recovers : Each (IsRecovery (length (run es).frames)) more
  pub short : length more ≤ most_lines (run es).nodes
  pub over : IsOver (run (more ++ es))
  pub closed : IsClosed (run (more ++ es))

abbrev pub NoRunIsStuck : Type 0
NoRunIsStuck = (es : List Happening) → IsQuiet (run es) → (more : List Happening) × Finishes es more

-- ---- from every run: after some lines of another kind, at most so many, recovery alone ends all

pub record EndsBy (P : Happening → Type 0) (most : ℕ) (es first more : List Happening) : Type 0 where
  pub by : Each P first
  pub few : length first ≤ most
  pub finishes : Finishes (first ++ es) more

-- each site stops once
abbrev pub EveryRunEnds : Type 0
EveryRunEnds = (es : List Happening) → (stops : List Happening) × (more : List Happening) × EndsBy IsStop (length (run es).sites) es stops more

-- or each association is cut, where there are numbers left to say so
abbrev pub CutsEnd : Type 0
CutsEnd = (es : List Happening) → AllMayBeCut (run es)
    → (cuts : List Happening) × (more : List Happening) × EndsBy IsCut (most_cuts (run es).nodes) es cuts more
