-- What the logs of a world say together.
use Rattle.std.specs.Prelude.{◌≡◌, ◌&&◌, not, Bool, true, false}
use Rattle.tp_names.specs.declared.identifiers.Aaid.{Aaid}
use Rattle.tp_names.specs.Same.{is_aaid}
use Rattle.tp_logrec.specs.declared.record.LogRec.{LogRec}
use Rattle.tp_model.specs.Recovery.{is_commit}
use Rattle.tp_model.specs.Outcomes.{is_commit_of, decided, rolled}
use Rattle.tp_model.specs.World.{World, Node}
use Rattle.tp_model.specs.Promises.{IsIn, IsOf, has_logged}

-- an End or a Damage of the tree, with rollback
abbrev pub is_rollback_of : Aaid → LogRec → Bool
is_rollback_of t (LogRec.Boot n) = false
is_rollback_of t (LogRec.Ready n k s cs) = false
is_rollback_of t (LogRec.Heuristic n k u) = false
is_rollback_of t (LogRec.Commit n k s cs) = false
is_rollback_of t (LogRec.Damage n k s u r cs) = not (is_commit u) && is_aaid t k.aaid
is_rollback_of t (LogRec.End n k u) = not (is_commit u) && is_aaid t k.aaid

-- where a node of a tree logged Commit, none rolled in it
abbrev pub CommitsAlone : World → Type 0
CommitsAlone w = (t : Aaid) (x y : Node) → IsOf w t x → IsOf w t y → decided x.origin t x.history ≡ true → rolled y.origin t y.history ≡ true → ⊥

-- where a log has Commit of a tree, none has its end or its damage with rollback
abbrev pub LogsAgree : World → Type 0
LogsAgree w = (t : Aaid) (x y : Node) → IsIn w x → IsIn w y → has_logged (is_commit_of t) x ≡ true → has_logged (is_rollback_of t) y ≡ true → ⊥
