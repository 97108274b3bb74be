-- A turn of the transaction step by step: entering, what is said, and what stays.
use Rattle.std.specs.Prelude.{ℕ, suc, cond, Option, List, [], ◌∷◌, Bool, true, false, take, drop}
use Rattle.tp_logrec.specs.declared.record.LogRec.{LogRec}
use Rattle.tp_model.specs.declared.transaction.TxOut.{TxOut}
use Rattle.tp_model.specs.declared.transaction.Step.{Step}
use Rattle.tp_model.specs.Parts.{Who, Arc, Digest, Out}
use Rattle.tp_model.specs.Arcs.{performed}
use Rattle.tp_model.specs.declared.transaction.TxEvent.{TxEvent}
use Rattle.tp_model.specs.Transactions.{Transaction, transacted, step_of, turn}
use Rattle.tp_model.specs.Recovery.{kept_after}
use Rattle.tp_model.specs.Node.{Move, move, followed, perform, remaining, entered, played, committed_arcs, grants, is_leaving, passage, Passage as PassageValue, perform_commit, Commits}
use Rattle.tp_node_state.specs.declared.arc_step.ArcStep.{ArcStep}
use Rattle.tp_node_state.specs.ArcStep.{stepped_arcs}
use Rattle.tp_records.specs.declared.indication.Indication.{Indication}

-- ---- a turn, of the transaction t

abbrev pub with_arcs_by : (Digest → List Arc) → Digest → Move
with_arcs_by f d = move [] (record d { arcs = f d })

abbrev pub entering : Transaction → PassageValue → Who → Digest → Move
entering t w who = with_arcs_by (λ d. entered t w d.arcs)

-- the indication of a completed commitment
abbrev pub is_commit_complete : TxOut → Bool
is_commit_complete (TxOut.Tell (Indication.CommitComplete r)) = true
is_commit_complete _ = false

-- where it stands; after the others where there is none
abbrev pub place_of_completion : List TxOut → ℕ
place_of_completion [] = 0
place_of_completion (o ∷ outs) = cond (is_commit_complete o) 0 (suc (place_of_completion outs))

-- the outputs before it, and that one with those after it
abbrev pub around_completion : List TxOut → List TxOut × List TxOut
around_completion outs = (take (place_of_completion outs) outs, drop (place_of_completion outs) outs)

-- what a passage makes of the outputs of a turn: of a completed commitment they are cut where the Grants come
abbrev pub played_outs : Digest → Transaction → PassageValue → List TxOut → List Arc → List Arc × List Out
played_outs d t Commits outs arcs = perform_commit d t (around_completion outs) arcs
played_outs d t w outs arcs = played d t w (turn outs t) arcs

abbrev pub playing : Transaction → PassageValue → List TxOut → Who → Digest → Move
playing t w outs who d = let p = played_outs d t w outs d.arcs in move p.1 (record d { arcs = p.0 })

-- it is logged, and n is what it has become
abbrev pub settling : Option LogRec → Transaction → Who → Digest → Move
settling r n who d = record { rec = r; outs = []; next = record d { current = remaining n; kept = kept_after r d.kept } }

-- it is logged
abbrev pub recording : Option LogRec → Who → Digest → Move
recording r who d = record { rec = r; outs = []; next = record d { kept = kept_after r d.kept } }

-- before it is settled
abbrev pub speaking : Transaction → PassageValue → List TxOut → Who → Digest → Move
speaking t w outs who d = followed (entering t w who d) (playing t w outs who)

-- and what is logged is logged
abbrev pub acting : Transaction → PassageValue → Step → Who → Digest → Move
acting t w s who d = followed (speaking t w s.outs who d) (recording s.rec who)

abbrev pub turning : Transaction → PassageValue → Step → Transaction → Who → Digest → Move
turning t w s n who d = followed (speaking t w s.outs who d) (settling s.rec n who)

-- ---- a completed commitment

-- control goes back to the superior side, and the deferred grants are given
abbrev pub giving : Transaction → Who → Digest → Move
giving t who d = followed (with_arcs_by (λ e. committed_arcs e t e.arcs) d) (λ e. perform (grants t d.arcs) e)

-- from the Grants on
abbrev pub completing : Transaction → List TxOut → Who → Digest → Move
completing t outs who d = followed (giving t who d) (perform outs)

-- what is said, and then what a passage does to the arcs
abbrev pub said_then : ArcStep → Transaction → List TxOut → Who → Digest → Move
said_then s t outs who d = let p = performed d.arcs outs in move p.1 (record d { arcs = stepped_arcs s d.superior t p.0 })

-- ---- a turn by an event

abbrev pub passing : Transaction → TxEvent → PassageValue
passing t e = passage (is_leaving e) t.phase (transacted e t).next.phase

abbrev pub turning_by : Transaction → TxEvent → Who → Digest → Move
turning_by t e = turning t (passing t e) (step_of (transacted e t)) (transacted e t).next

-- the same before it is settled
abbrev pub acting_by : Transaction → TxEvent → Who → Digest → Move
acting_by t e = acting t (passing t e) (step_of (transacted e t))
