use Rattle.tp_history_state.proofs.handshakes.Due.{due_law}
use Rattle.tp_history_state.proofs.handshakes.Handshakes.{awaits_law}
use Rattle.tp_history_state.proofs.handshakes_are_known.Goals as goal

pub returns : goal.returns
returns c = record { awaits = awaits_law; due = due_law }
