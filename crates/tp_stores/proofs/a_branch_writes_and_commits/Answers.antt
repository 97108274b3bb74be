use Rattle.std.proofs.Common.{◌+◌, false, refl, Some, None, List, [], ◌∷◌, inl, codes}
use Rattle.tp_names.specs.declared.outcome.Report.{Report}
use Rattle.tp_records.specs.declared.indication.Indication.{Indication}
use Rattle.tp_records.specs.declared.request.Request.{Request}
use Rattle.tp_model.specs.Arrivals.{sight_of, take_begin, lose, take_abort, refused_arrival, take_accept, break_off}
use Rattle.tp_model.specs.Dialogues.{refused_on_arc, arrived, said, heard, cleared, begun_by, completed, rested, woken}
use Rattle.tp_model.specs.Events.{retry, purge, after_crash, started, refusal, verdict}
use Rattle.tp_model.specs.Node.{entered, played, begin_on, start_root, try_start, transact}
use Rattle.tp_model.specs.Recovery.{settled, owed, kept_by, recovery_answer}
use Rattle.tp_model.specs.Requests.{refused_request, call, accept, reject, abort, begin_transaction}
use Rattle.tp_model.specs.Transactions.{complete_commit, complete_rollback, begin_rolling, order, settle, ask_commit, leave, count_branch, end_branch, branch_left, lost_arc, sight_of_tx, refused_tx, situation_of}
use Rattle.tp_bound.specs.declared.write.Write.{Write}
use Rattle.tp_bound.specs.declared.body.Body.{Body}
use Rattle.tp_bound.specs.Gathered.{none_yet}
use Rattle.tp_bound.specs.Says.{Speaker, Goes}
use Rattle.tp_bound.specs.Kept.{Heard, Told}
use Rattle.tp_stores.specs.StoreTrials.{tree_of_two, one_write, at_first, at_last, size_of}
use Rattle.tp_stores.proofs.a_branch_writes_and_commits.Goals as goal

pub returns-clause-alone : goal.returns-clause-alone
unfolding sight_of take_begin lose take_abort refused_arrival take_accept break_off refused_on_arc arrived said heard cleared begun_by completed rested woken retry purge after_crash started refusal verdict entered played begin_on start_root try_start transact recovery_answer settled owed kept_by refused_request call accept reject abort begin_transaction complete_commit complete_rollback begin_rolling order settle ask_commit leave count_branch end_branch branch_left lost_arc sight_of_tx refused_tx situation_of
returns-clause-alone c = refl

pub returns-clause-served : goal.returns-clause-served
unfolding sight_of take_begin lose take_abort refused_arrival take_accept break_off refused_on_arc arrived said heard cleared begun_by completed rested woken retry purge after_crash started refusal verdict entered played begin_on start_root try_start transact recovery_answer settled owed kept_by refused_request call accept reject abort begin_transaction complete_commit complete_rollback begin_rolling order settle ask_commit leave count_branch end_branch branch_left lost_arc sight_of_tx refused_tx situation_of
returns-clause-served c =
    (up_to_commit, over ∷ [], refl, refl, (λ h. absurd (cc (h))), (up_to_vote, commit ∷ [], refl, refl, (λ h. absurd (cc (h))), (up_to_vote, [], refl, refl, (λ h. refl), (up_to_data, vote ∷ [], refl, refl, (λ h. absurd (cc (h))), (up_to_begin, data_told ∷ [], refl, refl, (λ h. absurd (cc (h))), (offer ∷ [], begin ∷ [], refl, refl, (λ h. absurd (cc (h))), (offer ∷ [], [], refl, refl, (λ h. absurd (cc (h))), ([], offer ∷ [], refl, refl, (λ h. absurd (cc (h))), ([], [], refl, refl, (λ h. absurd (cc (h))), refl)))))))))
  where
    offer : Heard
    offer = Told (Indication.BeginDialogue 1 41) (Some (Request.Accept 41))

    begin : Heard
    begin = Told (Indication.BeginTransaction 1 tree_of_two) None

    data_told : Heard
    data_told = Told (Indication.UserData 1 one_write) None

    vote : Heard
    vote = Told Indication.Prepare (Some Request.Commit)

    commit : Heard
    commit = Told Indication.Commit (Some Request.Done)

    over : Heard
    over = Told (Indication.CommitComplete Report.None) None

    up_to_begin : List Heard
    up_to_begin = offer ∷ begin ∷ []

    up_to_data : List Heard
    up_to_data = offer ∷ begin ∷ data_told ∷ []

    up_to_vote : List Heard
    up_to_vote = offer ∷ begin ∷ data_told ∷ vote ∷ []

    up_to_commit : List Heard
    up_to_commit = offer ∷ begin ∷ data_told ∷ vote ∷ commit ∷ []

pub returns-clause-hears : goal.returns-clause-hears
returns-clause-hears c =
    (at_first, ((refl, refl), refl), (begun, ((refl, refl), refl), (given, ((refl, refl), refl), (bound, (inl (refl, goes), refl), (at_last, (inl (refl, goes_on), refl), (at_last, ((refl, refl), refl), refl))))))
  where
    begun : Speaker
    begun = record at_first { current = Some (none_yet tree_of_two) }

    writes : List Write
    writes = Write.Put (codes "k") (codes "v") ∷ []

    given : Speaker
    given = record at_first { current = Some (record { aaid = tree_of_two; writes = writes; spoilt = false }) }

    bound : Speaker
    bound = record at_first { store = record { content = []; undecided = Some (record { aaid = tree_of_two; writes = writes }) }; gate = 5 + 3 + size_of (Body.Bind tree_of_two writes) }

    goes : Goes (Body.Bind tree_of_two writes) None given bound
    goes = record { bound_to = refl; gate = refl; store = refl; current_is = refl; open_before = refl; open_after = refl }

    goes_on : Goes (Body.Keep tree_of_two) None bound at_last
    goes_on = record { bound_to = refl; gate = refl; store = refl; current_is = refl; open_before = refl; open_after = refl }
