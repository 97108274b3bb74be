use Rattle.std.proofs.Common.{refl}
use Rattle.tp_model.specs.Arrivals.{sight_of, take_begin, lose, take_abort, refused_arrival, take_accept, break_off}
use Rattle.tp_model.specs.Dialogues.{refused_on_arc, arrived, said, heard, cleared, begun_by, completed, rested, woken}
use Rattle.tp_model.specs.Events.{retry, purge, after_crash, started, refusal, verdict}
use Rattle.tp_model.specs.Node.{entered, played, begin_on, start_root, try_start, transact}
use Rattle.tp_model.specs.Recovery.{settled, owed, kept_by, recovery_answer}
use Rattle.tp_model.specs.Requests.{refused_request, call, accept, reject, abort, begin_transaction}
use Rattle.tp_model.specs.Transactions.{complete_commit, complete_rollback, begin_rolling, order, settle, ask_commit, leave, count_branch, end_branch, branch_left, lost_arc, sight_of_tx, refused_tx, situation_of}
use Rattle.tp_finishing.proofs.examples.a_tree_in_danger_is_cut.Goals as goal

pub returns : goal.returns
unfolding sight_of take_begin lose take_abort refused_arrival take_accept break_off refused_on_arc arrived said heard cleared begun_by completed rested woken retry purge after_crash started refusal verdict entered played begin_on start_root try_start transact recovery_answer settled owed kept_by refused_request call accept reject abort begin_transaction complete_commit complete_rollback begin_rolling order settle ask_commit leave count_branch end_branch branch_left lost_arc sight_of_tx refused_tx situation_of
returns c = record { told = refl; asked = refl; asked_since = refl; linked = refl; heard = refl; most = refl; quiet = refl; lines = refl; over = refl }
