-- The words of the definitions and of the lower laws that the proofs of this crate speak in.
pub use Rattle.std.proofs.Common.{Bool, List, None, Option, Some, [], ap, arith, false, if◌then◌else◌, refl, sym, true, ℕ, ◌&&◌, ◌==◌, ◌∙◌, ◌∷◌, ◌≡◌, ◌||◌, inl, inr, not, subst, append-nil, ◌++◌, ◌≤◌, ◌⊎◌, suc, ◌+◌, length, append_assoc, reverse}
pub use Rattle.std.proofs.Math.Bool.{and-true, or-false, or-true, and-false}
pub use Rattle.std.proofs.lemmas.Bool.Decides.{nat_tests}
pub use Rattle.std.proofs.lemmas.Bool.{and_parts, or_parts, or_right, false_from_ne_true, or_from}
pub use Rattle.tp_names.specs.declared.identifiers.Aaid.{Aaid}
pub use Rattle.tp_names.specs.declared.identifiers.Addr.{Addr}
pub use Rattle.tp_names.specs.declared.identifiers.BranchId.{BranchId}
pub use Rattle.tp_names.specs.declared.identifiers.Mark.{Mark}
pub use Rattle.tp_names.specs.declared.outcome.Outcome.{Outcome}
pub use Rattle.tp_names.specs.declared.children.Child.{Child}
pub use Rattle.tp_names.specs.declared.outcome.Report.{Report}
pub use Rattle.tp_names.specs.declared.identifiers.NodeKey.{NodeKey}
pub use Rattle.tp_names.specs.Same.{is_key, is_aaid, is_branch, is_outcome, is_addr_option}
pub use Rattle.tp_names.specs.Reports.{rank}
pub use Rattle.tp_units.specs.Units.{has_bit}
pub use Rattle.tp_records.specs.declared.dialogue.DialogueRecord.{DialogueRecord}
pub use Rattle.tp_records.specs.declared.dialogue.Holder.{Holder}
pub use Rattle.tp_records.specs.declared.indication.Indication.{Indication}
pub use Rattle.tp_records.specs.declared.peer.PeerRecord.{PeerRecord}
pub use Rattle.tp_records.specs.declared.request.Request.{Request}
pub use Rattle.tp_records.specs.declared.peer.RecState.{RecState}
pub use Rattle.tp_logrec.specs.declared.record.LogRec.{LogRec}
pub use Rattle.tp_model.specs.declared.transaction.TxOut.{TxOut}
pub use Rattle.tp_model.specs.declared.arc.Side.{Side}
pub use Rattle.tp_model.specs.declared.arc.Phase.{Phase}
pub use Rattle.tp_model.specs.declared.transaction.TxEvent.{TxEvent}
pub use Rattle.tp_model.specs.declared.recovery.Kept.{Kept}
pub use Rattle.tp_model.specs.declared.recovery.KeptEvent.{KeptEvent}
pub use Rattle.tp_model.specs.declared.arc.Deferral.{Deferral}
pub use Rattle.tp_model.specs.Dialogues.{is_polarized, gives_control, Sight, Acts, Nothing_happens, Out_of_phase, without_control, is_holder, is_late, is_rolling, is_superior_side, is_nil, first, fresh_dialogue, acts_or_out, Heard, Hear_grant, Hear_handshake, Hear_handshake_grant, is_silenced, is_due, is_active, named_holder, Asked, is_ready, Ask_abort, Ask_begin, Ask_control, Ask_data, Ask_defer_end, Ask_defer_grant, Ask_end, Ask_error, Ask_grant, Ask_handshake, Ask_handshake_grant, Ask_prepare, Ask_respond, Hear_control, Hear_data, Hear_defer_end, Hear_defer_grant, Hear_end, Hear_error, Hear_response, is_end_deferred, is_grant_deferred, is_unchained, is_committing, acts_nothing_or_out, acts_or_nothing}
unfoldable pub use Rattle.tp_model.specs.Dialogues.{begun_by, woken, heard, arrived, completed, rested, cleared, said, refused_on_arc}
pub use Rattle.tp_model.specs.Parts.{Arc, Dialogue, Link, Live, Offered, Opening, Out, Idle, Who, Origin, Event, Entry, Digest, Current, Due, No_response, Response_due, Response_with_control, Under, Branch, Key, Root, Tell, Send}
pub use Rattle.tp_model.specs.Transactions.{Transaction, part_by_part, acts, is_under_at, transacted, row_holds, find_row, Row, fresh_rows, node_key, Turn, is_under, aaid_of, carry_up, carry_down, prepare_each, forgets, done_up, ends_down, end_up, ask_each, retried, turn, and_then, with_row, takes, put_row, with_arc_lost, all_prepared, all_done, child_of, fresh_branch, takes_left, find_row_by_id, is_open_in_commit, with_branch, before, log_ready, roll, superior_rolls, rollback_rec, superior_of}
unfoldable pub use Rattle.tp_model.specs.Transactions.{leave, sight_of_tx, situation_of, refused_tx, ask_commit, order, count_branch, end_branch, branch_left, complete_commit, complete_rollback, begin_rolling, settle}
pub use Rattle.tp_model.specs.Arcs.{carried, find_arc, is_live_with_peer, link_of, performed, with_dialogue, with_dialogues, with_link, without_arc, carried_on, link_with, put_arc, performed_one}
pub use Rattle.tp_model.specs.Questions.{has_said, said_to, Cause, Begun_by, cause_by, holder_in, acting_from, was_branch, is_up, is_at, completes, enters, Completed_below, Granted_away, Granted_here, Handshake_granted_here, Left_transaction, is_grant_record, is_handshake_grant_record, is_left_record, Nothing_said, last_cause, holds_by, is_granting_cause, is_record, tells_commit_complete, tells_rollback_complete, logs_ready_or_commit, heard_from, holds_in, is_begin, units_before, is_defer_end_record, is_defer_grant_record, ends_deferral, set_deferral, deferral_in, is_handshake_record, clears_handshakes, owes_response_in, due_in, awaits_in, is_left_end, link_in, superior_in, shuts_to, is_abort, is_end_dialogue, sent_more, link_by, closes_by_deferral, is_crash, is_left_only, rests_in}
pub use Rattle.tp_model.specs.Node.{is_granting, grants, Move, move, followed, perform, phase_of, fresh_current, begin_each, begin_chained, chained_peers, situation_at, next_mark, superior_arc, is_over, seen, turned, passage, left_arcs, is_arc_below, is_end_deferred_at, with_mark_drawn, has_none, may_root, is_superior, seen_rows, branches_of, may_begin_on, remaining, Passage, Leaves, is_leaving, is_arc_of, Commits, Enters, Falls, Falls_at_once, Rolls_back, Stays, keep, without_deferral, completed_arcs, committed_arcs, committed_dialogue, around_grants, side_at, passed, with_begun, is_up_ending, perform_commit, seen_row, started_next}
unfoldable pub use Rattle.tp_model.specs.Node.{begin_on, transact, entered, played, try_start, start_root}
pub use Rattle.tp_model.specs.Links.{is_live, with_one_taken, is_idle}
pub use Rattle.tp_model.specs.Events.{action, named_again, recovered, recovered_current, key_in_log, current_in_log, decision_of, without_current, current_by, current_from}
unfoldable pub use Rattle.tp_model.specs.Events.{refusal, verdict, after_crash, started}
pub use Rattle.tp_model.specs.Arrivals.{sight_at, take_on, take_record, woken_by, is_response, sight_in_tx, from_subordinate, is_current_ready, named_by_key, branch_key, broken_pair, named_by_branch, Named, current_with, find_branch_by_id, key_of_branch}
unfoldable pub use Rattle.tp_model.specs.Arrivals.{take_begin, refused_arrival, sight_of, take_abort, lose, break_off}
pub use Rattle.tp_model.specs.History.{digest, entry_of, records, again}
pub use Rattle.tp_model.specs.Requests.{has_branch_at}
unfoldable pub use Rattle.tp_model.specs.Requests.{refused_request, call, abort, reject, accept}
pub use Rattle.tp_model.specs.Outcomes.{rolls, is_unchanged, is_fatal, rolls_by_record}
pub use Rattle.tp_model.specs.Legal.{IsGrown, IsLegal, IsUnder, is_apart, is_start, is_own_record, are_own_records}
pub use Rattle.tp_model.specs.Consistency.{peers_in, asked_for, not_idle, report_of, all_children, without_peer, peers_below}
pub use Rattle.tp_histories.specs.KnownTests.{same_bool, number_of_deferral, number_of_due, agrees_order, agrees_up, is_number, same_list, same_link, agrees_branches, same_option, number_of_phase, agrees_arc, agrees_arcs, agrees_current, agrees}
pub use Rattle.tp_logrec.specs.Order.{is_child}
pub use Rattle.std.specs.Prelude.{is_some}
pub use Rattle.tp_model.specs.Recovery.{forget_to}
unfoldable pub use Rattle.tp_model.specs.Recovery.{settled, kept_by}
pub use Rattle.tp_model.specs.Keys.{prepared_in, left_in, given_up_in, ended_in, begins, report_by, some_since, is_active_in, is_current_key, is_rolling_in, last_of, phase_by_rec, replied_report, rolls_for, ending_report, phase_in, takes_begin, is_give_up_of, is_ready_record, tells_order, is_done_request, owes_in, rolled_with_damage, own_in, is_rollback_record, superior_rolled_by, superior_rolled_in, decision_since, decision_for, tells_prepare, told_prepare_in, superior_for, branches_in, asked_in}
pub use Rattle.tp_logrec.specs.Order.{is_damage}
pub use Rattle.tp_steps.specs.Moves.{some_leads, prelude, IsLate, called, accepted_by, accepted_on, linked, counted_in, begun_in, is_said, are_said, are_spoken, gives_to, responds_to, is_word, IsChange, By_waking, By_saying, By_hearing, By_beginning, By_leaving, said_by, heard_by, left_by, begun_by_record, IsAsked, IsPut, Moves, is_spoken, closes_at, wakes, grants_to, hands_to, shakes_with, are_apart, may_put_off, IsSettling, is_apart_record}
pub use Rattle.tp_steps.specs.Ends.{are_separate, is_there}
pub use Rattle.tp_steps.specs.Steps.{Steps, puts_off_at, is_deferring, is_deferred_by, first_begin, AreAlike}
pub use Rattle.tp_steps.specs.Trees.{out_tells}
pub use Rattle.tp_steps.specs.Facts.{find_branch}
pub use Rattle.tp_steps.specs.Passages.{asks_tell, may_move, IsLogged}
pub use Rattle.tp_steps.specs.Turns.{falls, is_left_word, loses, is_outcome_told, vote, row_dead, shut_given_up, decide, Turns, hears_rollback, hears_prepare}
pub use Rattle.tp_steps.specs.Traces.{IsLinked, count_to, is_old}
pub use Rattle.tp_steps.proofs.lemmas.Equality.{and_left, and_right, branches_equal, both_true}
pub use Rattle.tp_steps.proofs.every.EveryRecord.{find_arc_is, the, on_none, begin_acts, on_live, woken_at, cleared_off, woken_off, begin_wakes, woken_on_begin, woken_on_other}
pub use Rattle.tp_steps.proofs.branches.Staged.{is_rolled_told, staged_turn, is_some_rec, IsStaged}
pub use Rattle.tp_steps.proofs.links.Links.{link_dialogue, said_append, link_without, link_dialogues, count_append, more_none, more_more, mark_same, carried_elsewhere, link_elsewhere, link_here, recovery_silent, shut_silent}
pub use Rattle.tp_steps.proofs.every.EveryEvent.{plain_arrival, step_move, plain_request, every_move, plain_give_up, named_current, tree_of_key, ready_named}
pub use Rattle.tp_steps.proofs.every.EveryMove.{quiet_each, step_chained, seen_branch, step_start, quiet_start, plain_steps, every_start, ends_dialogue, step_transact, abort_active, every_transact}
pub use Rattle.tp_steps.proofs.links.Told.{told_performed, told_append, told_played}
pub use Rattle.tp_steps.proofs.every.Preludes.{superior_found, link_counted, link_append, link_put, Prelinked, As_before, Now_idle, Now_called, Now_offered, Now_accepted, Now_confirmed, Took_one, called_at, prelinked, takes_next}
pub use Rattle.tp_steps.proofs.links.Whole.{IsWhole, whole_turn}
pub use Rattle.tp_steps.proofs.links.Linked.{link_left, linked_moves, link_entered, parts_apart}
pub use Rattle.tp_steps.proofs.every.Course.{tells_rolled, first_performed, first_played, spoken_none, Closed, Course, Free, Grew, Held, Rooted, some_same}
pub use Rattle.tp_steps.proofs.log.Sound.{left_branches, left_is}
pub use Rattle.tp_steps.proofs.log.KinTurns.{kids_left, kids_seen, kin, kin_turn, kids_more}
pub use Rattle.tp_steps.proofs.log.Passed.{passed_turn}
pub use Rattle.tp_steps.proofs.words.Hushed.{settled_spoken}
pub use Rattle.tp_steps.proofs.every.EveryTurn.{every_turn}
pub use Rattle.tp_steps.proofs.branches.Rolls.{rolls_so, rolls_from, phase_at, sight_rollback}
pub use Rattle.tp_steps.proofs.words.Fair.{find_put, row_phase, row_is}
pub use Rattle.tp_steps.proofs.links.Apart.{apart_spoken, apart_turn, apart_grants}
pub use Rattle.tp_steps.proofs.lemmas.Phases.{tell_append, still_up, still_down, still_forgets, still_ends, still_ask, still_done, still_end_up, still_prepare}
pub use Rattle.tp_steps.proofs.log.TurnLog.{key_self}
pub use Rattle.tp_histories.specs.Known.{with_an_arc, declared_agrees, superior_agrees, boot_agrees}
pub use Rattle.tp_histories.proofs.trees.Knowing.{begin_seen, Came, As_it_was, By_begin, By_crash, came_by}
pub use Rattle.tp_histories.proofs.trees.Late.{late_fresh, late_law, late_prelude, late_moves}
pub use Rattle.tp_histories.proofs.order.Headed.{placed_arcs, placed_law, IsPlaced, superior_at, headed_law, under_headed, IsHeadedMove, not_above, placed_then, headed_first, dead_without, headed_moves, is_headed_by, are_below, IsHeaded, kin_below, below_is, below_end, none_below}
pub use Rattle.tp_histories.proofs.marks.Separate.{separate_law, thins_dialogue, thins_taken, thins_turned, Thins, separate_prelude, thins_moves, thins_without, thins_entered, thins_performed, numbers, busy_there, thins_put, thins_self, thins_then}
pub use Rattle.tp_histories.proofs.marks.Traced.{traced_law}
pub use Rattle.tp_histories.proofs.known.KnownPlain.{bool_self, number_self, plain_law, branch_self, declared_law, superior_law, boot_law}
pub use Rattle.tp_histories.proofs.trees.Fallen.{down_turn, sight_acts, abort_sight}
pub use Rattle.tp_histories.proofs.known.KnownPhase.{rolled_tells}
pub use Rattle.tp_histories.proofs.trees.Entered.{Entered, Crashed, Begun, Plain, no_begin}
pub use Rattle.tp_runs.specs.Known.{now_agrees, all_arcs, known_agrees, drawn_agrees, kept_agrees, phase_agrees, key_agrees, above_agrees, branches_agree, asked_agrees}
pub use Rattle.tp_runs.proofs.AtPeer.{said_carried, Keeps, keeps_dialogues, keeps_performed, keeps_taken, keeps_without, part_at, said_both, said_none, keeps_append, keeps_front, all_found, carries_none, live_back, parts_none, first_part, part_dialogue, part_none, none_more, keeps_self, keeps_then, part_same, first_dialogue, carries_not, there_found}
pub use Rattle.tp_runs.proofs.CourseSteps.{means_of, leaves_so}
pub use Rattle.tp_runs.proofs.KnownKeys.{nothing_late, course_entry, phase_law, crash_next, key_law, sound_at, started_current, phase_agrees_law, key_agrees_law}
pub use Rattle.tp_runs.proofs.RollsBy.{left_active, down_event, IsDownMove}
pub use Rattle.tp_runs.proofs.KnownFlags.{IsStep, IsMark, mark_law, started_again, IsStepTo, recovered_is, IsNew, IsFlag, flag_law}
pub use Rattle.tp_runs.proofs.KnownForgot.{before_it, outcome_self, known_agrees_law, kept_agrees_law}
pub use Rattle.tp_runs.proofs.KnownBranches.{no_both, log_current, above_law, branches_law}
pub use Rattle.tp_runs.proofs.KnownAsked.{root_in, next_new, asked_agrees_law}
pub use Rattle.tp_history_state.specs.Known.{control_agrees, deferral_agrees, due_agrees, awaits_agrees, below_as_asked, links_agree, link_agrees, each_branch, prepared_agrees, marks_agree, ended_agrees, given_up_agrees, counted_agrees, left_agrees, owes_agrees, own_agrees, superior_rolled_agrees, decision_agrees, told_prepare_agrees, rests_agrees, order_agrees, node_agrees, arcs_agree, current_agrees, agrees_in_parts}
