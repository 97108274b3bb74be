-- The premises of the deployments that are worked examples, deed by deed.
use Rattle.std.proofs.Common.{◌≡◌, ◌==◌, ℕ, Bool, true, false, refl, Some, None, List, [], ◌∷◌, length, inl, inr}
use Rattle.tp_names.specs.declared.identifiers.Addr.{Addr}
use Rattle.tp_deployments.specs.Deployments.{Deed, Starts, Takes, Place, IsAmong, AreArranged, life_after, IsTaken, IsDeployment}
use Rattle.tp_deployment_trials.specs.DeploymentTrials.{a1, b2, c1, root_place, branch_place, leaf_place, two, three, numbers, in_dialogue, ready, stopped_between, forged, in_doubt, in_a_ring, begun, IsButOne, SuperiorsStand}
use Rattle.tp_model.specs.Arrivals.{sight_of, take_begin, lose, take_abort, refused_arrival, take_accept, break_off}
use Rattle.tp_model.specs.Dialogues.{refused_on_arc, arrived, said, heard, cleared, begun_by, completed, rested, woken}
use Rattle.tp_model.specs.Events.{retry, purge, after_crash, started, refusal, verdict}
use Rattle.tp_model.specs.Node.{entered, played, begin_on, start_root, try_start, transact}
use Rattle.tp_model.specs.Recovery.{settled, owed, kept_by, recovery_answer}
use Rattle.tp_model.specs.Requests.{refused_request, call, accept, reject, abort, begin_transaction}
use Rattle.tp_model.specs.Transactions.{complete_commit, complete_rollback, begin_rolling, order, settle, ask_commit, leave, count_branch, end_branch, branch_left, lost_arc, sight_of_tx, refused_tx, situation_of}

-- ---- where nodes stand

root_is : (a : Addr) → Some a1 ≡ Some a → a1 ≡ a
root_is a i = cc (i)

branch_is : (a : Addr) → Some b2 ≡ Some a → b2 ≡ a
branch_is a i = cc (i)

pub arranged_two : AreArranged two
arranged_two = (refl, (λ a i. (root_place, inl refl, root_is a i)), (refl, (λ a i. absurd (cc (i))), tt))

pub arranged_three : AreArranged three
arranged_three = (refl, (λ a i. (branch_place, inl refl, branch_is a i)), arranged_two)

pub stand : SuperiorsStand numbers
stand = ((λ a i. (root_place, inl refl, root_is a i)), ((λ a i. absurd (cc (i))), ((λ a i. absurd (cc (i))), tt)))

-- ---- the whole, but for one deed

but_one : (qs : List Place) (k : ℕ) (ds : List Deed) → IsDeployment qs ds → IsButOne qs k ds
but_one qs k [] d = tt
but_one qs k (Starts s ∷ ds) d = but_one qs k ds d
but_one qs k (Takes s g ∷ ds) d = (go (length ds == k), but_one qs k ds d.1)
  where
    go : (b : Bool) → elim b as (λ _. Type 0) [ true ↦ Unit {0} | false ↦ IsTaken qs ds s (life_after ds s) g ]
    go true = tt
    go false = d.0

-- ---- deeds that several have in common

pub in_dialogue_is : (qs : List Place) → IsAmong branch_place qs → IsAmong root_place qs → IsDeployment qs in_dialogue
unfolding sight_of take_begin lose take_abort refused_arrival take_accept break_off refused_on_arc arrived said heard cleared begun_by completed rested woken retry purge after_crash started refusal verdict entered played begin_on start_root try_start transact recovery_answer settled owed kept_by refused_request call accept reject abort begin_transaction complete_commit complete_rollback begin_rolling order settle ask_commit leave count_branch end_branch branch_left lost_arc sight_of_tx refused_tx situation_of
in_dialogue_is qs b a = (
  (λ y h. record { place = root_place; among = a; here = refl; placed = tt; carried = ((branch_place, b, refl), inl (inl (refl, refl))) }),
  (
    (λ y h. record { place = branch_place; among = b; here = refl; placed = tt; carried = tt }),
    (
      (λ y h. record { place = branch_place; among = b; here = refl; placed = tt; carried = ((root_place, a, refl), inl (inl (refl, refl))) }),
      (
        (λ y h. record { place = root_place; among = a; here = refl; placed = (branch_place, b, refl); carried = tt }),
        (
          (λ y h. record { place = branch_place; among = b; here = refl; placed = refl; carried = tt }),
          (
            (λ y h. record { place = root_place; among = a; here = refl; placed = refl; carried = tt }),
            tt,
          ),
        ),
      ),
    ),
  ),
)

pub ready_is : IsDeployment two ready
unfolding sight_of take_begin lose take_abort refused_arrival take_accept break_off refused_on_arc arrived said heard cleared begun_by completed rested woken retry purge after_crash started refusal verdict entered played begin_on start_root try_start transact recovery_answer settled owed kept_by refused_request call accept reject abort begin_transaction complete_commit complete_rollback begin_rolling order settle ask_commit leave count_branch end_branch branch_left lost_arc sight_of_tx refused_tx situation_of
ready_is = (
  (λ y h. record { place = branch_place; among = (inl refl); here = refl; placed = tt; carried = tt }),
  (
    (λ y h. record { place = branch_place; among = (inl refl); here = refl; placed = tt; carried = ((root_place, (inr (inl refl)), refl), inl (inl (refl, refl))) }),
    (
      (λ y h. record { place = root_place; among = (inr (inl refl)); here = refl; placed = tt; carried = tt }),
      (
        (λ y h. record { place = branch_place; among = (inl refl); here = refl; placed = tt; carried = ((root_place, (inr (inl refl)), refl), inl (inl (refl, refl))) }),
        (
          (λ y h. record { place = root_place; among = (inr (inl refl)); here = refl; placed = tt; carried = tt }),
          in_dialogue_is two (inl refl) (inr (inl refl)),
        ),
      ),
    ),
  ),
)

-- ---- each of them

pub stopped_between_is : IsDeployment two stopped_between
unfolding sight_of take_begin lose take_abort refused_arrival take_accept break_off refused_on_arc arrived said heard cleared begun_by completed rested woken retry purge after_crash started refusal verdict entered played begin_on start_root try_start transact recovery_answer settled owed kept_by refused_request call accept reject abort begin_transaction complete_commit complete_rollback begin_rolling order settle ask_commit leave count_branch end_branch branch_left lost_arc sight_of_tx refused_tx situation_of
stopped_between_is = (
  (λ y h. record { place = root_place; among = (inr (inl refl)); here = refl; placed = tt; carried = ((branch_place, (inl refl), refl), inl (inl (refl, refl))) }),
  (
    (λ y h. record { place = branch_place; among = (inl refl); here = refl; placed = tt; carried = tt }),
    (
      (λ y h. record { place = branch_place; among = (inl refl); here = refl; placed = tt; carried = ((root_place, (inr (inl refl)), refl), inl (inl (refl, refl))) }),
      (
        (λ y h. record { place = branch_place; among = (inl refl); here = refl; placed = refl; carried = tt }),
        (
          (λ y h. absurd (cc (h))),
          (
            (λ y h. record { place = branch_place; among = (inl refl); here = refl; placed = tt; carried = ((root_place, (inr (inl refl)), refl), inl (inl (refl, refl))) }),
            (
              (λ y h. record { place = root_place; among = (inr (inl refl)); here = refl; placed = (branch_place, (inl refl), refl); carried = tt }),
              (
                (λ y h. record { place = branch_place; among = (inl refl); here = refl; placed = refl; carried = tt }),
                (
                  (λ y h. record { place = root_place; among = (inr (inl refl)); here = refl; placed = refl; carried = tt }),
                  tt,
                ),
              ),
            ),
          ),
        ),
      ),
    ),
  ),
)

pub forged_is : IsButOne two 14 forged
unfolding sight_of take_begin lose take_abort refused_arrival take_accept break_off refused_on_arc arrived said heard cleared begun_by completed rested woken retry purge after_crash started refusal verdict entered played begin_on start_root try_start transact recovery_answer settled owed kept_by refused_request call accept reject abort begin_transaction complete_commit complete_rollback begin_rolling order settle ask_commit leave count_branch end_branch branch_left lost_arc sight_of_tx refused_tx situation_of
forged_is = (
  tt,
  (
    (λ y h. record { place = root_place; among = (inr (inl refl)); here = refl; placed = tt; carried = tt }),
    but_one two 14 ready ready_is,
  ),
)

pub in_doubt_is : IsDeployment two in_doubt
unfolding sight_of take_begin lose take_abort refused_arrival take_accept break_off refused_on_arc arrived said heard cleared begun_by completed rested woken retry purge after_crash started refusal verdict entered played begin_on start_root try_start transact recovery_answer settled owed kept_by refused_request call accept reject abort begin_transaction complete_commit complete_rollback begin_rolling order settle ask_commit leave count_branch end_branch branch_left lost_arc sight_of_tx refused_tx situation_of
in_doubt_is = (
  (λ y h. record { place = branch_place; among = (inl refl); here = refl; placed = tt; carried = tt }),
  (
    (λ y h. record { place = root_place; among = (inr (inl refl)); here = refl; placed = tt; carried = ((branch_place, (inl refl), refl), inl (inl (refl, refl))) }),
    ready_is,
  ),
)

pub in_a_ring_is : IsButOne three 19 in_a_ring
unfolding sight_of take_begin lose take_abort refused_arrival take_accept break_off refused_on_arc arrived said heard cleared begun_by completed rested woken retry purge after_crash started refusal verdict entered played begin_on start_root try_start transact recovery_answer settled owed kept_by refused_request call accept reject abort begin_transaction complete_commit complete_rollback begin_rolling order settle ask_commit leave count_branch end_branch branch_left lost_arc sight_of_tx refused_tx situation_of
in_a_ring_is = (
  (λ y h. record { place = root_place; among = (inr (inr (inl refl))); here = refl; placed = tt; carried = ((leaf_place, (inl refl), refl), inl (inl (refl, refl))) }),
  (
    (λ y h. record { place = leaf_place; among = (inl refl); here = refl; placed = tt; carried = tt }),
    (
      (λ y h. record { place = leaf_place; among = (inl refl); here = refl; placed = tt; carried = ((root_place, (inr (inr (inl refl))), refl), inl (inl (refl, refl))) }),
      (
        (λ y h. record { place = root_place; among = (inr (inr (inl refl))); here = refl; placed = tt; carried = tt }),
        (
          (λ y h. record { place = root_place; among = (inr (inr (inl refl))); here = refl; placed = tt; carried = ((leaf_place, (inl refl), refl), inl (inl (refl, refl))) }),
          (
            (λ y h. record { place = leaf_place; among = (inl refl); here = refl; placed = (root_place, (inr (inr (inl refl))), refl); carried = tt }),
            (
              tt,
              (
                (λ y h. record { place = leaf_place; among = (inl refl); here = refl; placed = tt; carried = ((branch_place, (inr (inl refl)), refl), inl (inl (refl, refl))) }),
                (
                  (λ y h. record { place = branch_place; among = (inr (inl refl)); here = refl; placed = tt; carried = tt }),
                  (
                    (λ y h. record { place = branch_place; among = (inr (inl refl)); here = refl; placed = tt; carried = ((root_place, (inr (inr (inl refl))), refl), inl (inl (refl, refl))) }),
                    (
                      (λ y h. record { place = root_place; among = (inr (inr (inl refl))); here = refl; placed = tt; carried = tt }),
                      (
                        (λ y h. record { place = branch_place; among = (inr (inl refl)); here = refl; placed = tt; carried = ((leaf_place, (inl refl), refl), inl (inl (refl, refl))) }),
                        (
                          (λ y h. record { place = leaf_place; among = (inl refl); here = refl; placed = tt; carried = tt }),
                          (
                            (λ y h. record { place = leaf_place; among = (inl refl); here = refl; placed = tt; carried = ((branch_place, (inr (inl refl)), refl), inl (inl (refl, refl))) }),
                            (
                              (λ y h. record { place = branch_place; among = (inr (inl refl)); here = refl; placed = (leaf_place, (inl refl), refl); carried = tt }),
                              (
                                (λ y h. record { place = leaf_place; among = (inl refl); here = refl; placed = refl; carried = tt }),
                                but_one three 19 in_dialogue (in_dialogue_is three (inr (inl refl)) (inr (inr (inl refl)))),
                              ),
                            ),
                          ),
                        ),
                      ),
                    ),
                  ),
                ),
              ),
            ),
          ),
        ),
      ),
    ),
  ),
)

pub begun_is : IsDeployment numbers begun
unfolding sight_of take_begin lose take_abort refused_arrival take_accept break_off refused_on_arc arrived said heard cleared begun_by completed rested woken retry purge after_crash started refusal verdict entered played begin_on start_root try_start transact recovery_answer settled owed kept_by refused_request call accept reject abort begin_transaction complete_commit complete_rollback begin_rolling order settle ask_commit leave count_branch end_branch branch_left lost_arc sight_of_tx refused_tx situation_of
begun_is = (
  (λ y h. record { place = branch_place; among = (inl refl); here = refl; placed = tt; carried = ((root_place, (inr (inl refl)), refl), inl (inl (refl, refl))) }),
  (
    (λ y h. record { place = root_place; among = (inr (inl refl)); here = refl; placed = tt; carried = tt }),
    (
      (λ y h. record { place = record { addr = c1; superior = None }; among = (inr (inr (inl refl))); here = refl; placed = refl; carried = tt }),
      in_dialogue_is numbers (inl refl) (inr (inl refl)),
    ),
  ),
)
