-- A node that logged Commit, or Ready of a branch, is bound to the tree.
use Rattle.std.proofs.Common.{◌≡◌, true, arith, List, [], ◌∷◌}
use Rattle.tp_names.specs.declared.identifiers.Aaid.{Aaid}
use Rattle.tp_names.specs.declared.identifiers.BranchId.{BranchId}
use Rattle.tp_logrec.specs.declared.record.LogRec.{LogRec}
use Rattle.tp_model.specs.Outcomes.{has_commit_of}
use Rattle.tp_model.specs.Promises.{has_record, is_bound_of, is_ready_of_branch}

pub commit_bound : (t : Aaid) (rs : List LogRec) → has_commit_of t rs ≡ true → has_record (is_bound_of t) rs ≡ true
commit_bound t [] h = absurd cc
commit_bound t (LogRec.Commit n k s cs ∷ rs) h = let rest = commit_bound t rs in grind (arith, h, rest)
commit_bound t (LogRec.Ready n k s cs ∷ rs) h = let rest = commit_bound t rs in grind (arith, h, rest)
commit_bound t (LogRec.Boot n ∷ rs) h = commit_bound t rs h
commit_bound t (LogRec.Heuristic n k o ∷ rs) h = commit_bound t rs h
commit_bound t (LogRec.Damage n k s o r cs ∷ rs) h = commit_bound t rs h
commit_bound t (LogRec.End n k o ∷ rs) h = commit_bound t rs h

pub ready_bound : (t : Aaid) (b : BranchId) (rs : List LogRec) → has_record (is_ready_of_branch t b) rs ≡ true → has_record (is_bound_of t) rs ≡ true
ready_bound t b [] h = absurd cc
ready_bound t b (LogRec.Ready n k s cs ∷ rs) h = let rest = ready_bound t b rs in grind (arith, h, rest)
ready_bound t b (LogRec.Commit n k s cs ∷ rs) h = let rest = ready_bound t b rs in grind (arith, h, rest)
ready_bound t b (LogRec.Boot n ∷ rs) h = ready_bound t b rs h
ready_bound t b (LogRec.Heuristic n k o ∷ rs) h = ready_bound t b rs h
ready_bound t b (LogRec.Damage n k s o r cs ∷ rs) h = ready_bound t b rs h
ready_bound t b (LogRec.End n k o ∷ rs) h = ready_bound t b rs h
