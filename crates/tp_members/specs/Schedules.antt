-- A schedule with a member for worked examples, and its expansion.
use Rattle.std.specs.Prelude.{ℕ, Bool, true, false, Option, Some, None, List, [], ◌∷◌, ◌||◌, codes}
use Rattle.tp_names.specs.declared.outcome.Outcome.{Outcome}
use Rattle.tp_records.specs.declared.request.Request.{Request}
use Rattle.tp_model.specs.declared.line.LineRequest.{LineRequest}
use Rattle.tp_model.specs.declared.line.Line.{Line}
use Rattle.tp_model.specs.declared.out_line.OutLine.{OutLine}

-- a branch that a member drives accepts, asks for commitment and is done; then the member is dropped
abbrev pub driven_branch : List Line
driven_branch =
    Line.Node 1 (codes "a") None
    ∷ Line.Node 2 (codes "b") (Some 1)
    ∷ Line.Auto 2 1
    ∷ Line.Do 1 (LineRequest.BeginDialogue 2 41)
    ∷ Line.Drain
    ∷ Line.Drain
    ∷ Line.Do 1 (LineRequest.BeginTransaction 2)
    ∷ Line.Drain
    ∷ Line.Do 1 LineRequest.Commit
    ∷ Line.Drain
    ∷ Line.Drain
    ∷ Line.Leave 1
    ∷ Line.Do 1 LineRequest.Done
    ∷ Line.Drain
    ∷ []

abbrev pub as_text : List ℕ
as_text =
    codes "node 1 a\nnode 2 b under 1\nauto 2 1\ndo 1 begin-dialogue 2 scu\ndrain\ndrain\ndo 1 begin-transaction 2\ndrain\ndo 1 commit\ndrain\ndrain\nleave 1\ndo 1 done\ndrain\n"

-- to the offer of a dialogue, the transaction, Prepare, Commit and the completion; Done is too early in the transaction
abbrev pub its_answers : List (Option Request)
its_answers = Some (Request.Accept 41) ∷ Some Request.Done ∷ Some Request.Commit ∷ Some Request.Done ∷ None ∷ []

abbrev pub written_out : List Line
written_out =
    Line.Node 1 (codes "a") None
    ∷ Line.Node 2 (codes "b") (Some 1)
    ∷ Line.Do 1 (LineRequest.BeginDialogue 2 41)
    ∷ Line.Drain
    ∷ Line.Do 2 (LineRequest.Accept 41)
    ∷ Line.Drain
    ∷ Line.Do 1 (LineRequest.BeginTransaction 2)
    ∷ Line.Drain
    ∷ Line.Do 2 LineRequest.Done
    ∷ Line.Do 1 LineRequest.Commit
    ∷ Line.Drain
    ∷ Line.Do 2 LineRequest.Commit
    ∷ Line.Drain
    ∷ Line.Do 2 LineRequest.Done
    ∷ Line.Do 1 LineRequest.Done
    ∷ Line.Drain
    ∷ []

abbrev pub is_refusal : OutLine → Bool
is_refusal (OutLine.Refused n) = true
is_refusal _ = false

abbrev pub has_refusal : List OutLine → Bool
has_refusal [] = false
has_refusal (l ∷ ls) = is_refusal l || has_refusal ls

-- the outcome on which the nodes of a tree agree
abbrev pub agreed_on : OutLine → Option Outcome
agreed_on (OutLine.Agreed t o) = Some o
agreed_on _ = None
