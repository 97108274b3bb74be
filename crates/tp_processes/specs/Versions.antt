-- A log of version 1 has room for 32 subordinates of a node, where one of version 2 has room for 256. Nothing else tells a site of which
-- version its log is: on a log of version 1 it does what it does on one of version 2 for the same events, without those that it refused for
-- want of room.
use Rattle.std.specs.Prelude.{ℕ, ◌≡◌, ◌==◌, Bool, true, false, List, [], ◌∷◌}
use Rattle.tp_records.specs.declared.body.Event.{Event as Given}
use Rattle.tp_records.specs.declared.body.Output.{Output}
use Rattle.tp_logrec.specs.declared.record.LogRec.{LogRec}
use Rattle.tp_logrec.specs.declared.record.LogVersion.{LogVersion}
use Rattle.tp_model.specs.declared.refusal.Refusal.{Refusal}
use Rattle.tp_model.specs.Refusal.{number_of}
use Rattle.tp_model.specs.NodeRun.{Opening, history_of, node_run, log_after}
use Rattle.tp_briefs.specs.Starts.{on}

-- the site refused an event because its node has as many subordinates as the log has room for
abbrev pub is_too_many : List Output → Bool
is_too_many (Output.Refused n ∷ outs) = n == number_of Refusal.TooMany
is_too_many _ = false

-- of the events that a site was given, with the outputs for each, those that it did not refuse so
abbrev pub with_room : List Given → List (List Output) → List Given
with_room [] answers = []
with_room (g ∷ gs) [] = []
with_room (g ∷ gs) (outs ∷ answers) = elim (is_too_many outs) [ true ↦ with_room gs answers | false ↦ g ∷ with_room gs answers ]

-- and the outputs for these
abbrev pub answers_with_room : List (List Output) → List (List Output)
answers_with_room [] = []
answers_with_room (outs ∷ answers) = elim (is_too_many outs) [ true ↦ answers_with_room answers | false ↦ outs ∷ answers_with_room answers ]

-- the events that happened, of those that the site was given: on a log of version 2 all of them
abbrev pub happened : Opening → List Given → List Given
happened o gs = elim o.version [ LogVersion.One ↦ with_room gs (node_run o gs).outputs | LogVersion.Two ↦ gs ]

abbrev pub answers : Opening → List Given → List (List Output)
answers o gs = elim o.version [ LogVersion.One ↦ answers_with_room (node_run o gs).outputs | LogVersion.Two ↦ (node_run o gs).outputs ]

-- what happened is what happens on a log of version 2
pub record ActsAsTwo (s : List ℕ) (version : LogVersion) (rs : List LogRec) (gs : List Given) : Type 0 where
  pub outputs : answers (on s version rs) gs ≡ (node_run (on s LogVersion.Two rs) (happened (on s version rs) gs)).outputs
  pub histories : (n : ℕ) → history_of (node_run (on s version rs) gs).pasts n
      ≡ history_of (node_run (on s LogVersion.Two rs) (happened (on s version rs) gs)).pasts n
  pub log : log_after (on s version rs) gs ≡ log_after (on s LogVersion.Two rs) (happened (on s version rs) gs)

abbrev pub VersionsActAlike : Type 0
VersionsActAlike = (s : List ℕ) (version : LogVersion) (rs : List LogRec) (gs : List Given) → ActsAsTwo s version rs gs
