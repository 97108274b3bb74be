-- What comes of a record that was taken: two rows of the table by themselves.
use Rattle.std.specs.Prelude.{ℕ, ◌&&◌, ◌||◌, not, Bool, false, if◌then◌else◌, Option, Some, None}
use Rattle.tp_model.specs.Dialogues.{Sight, Nothing_happens, acts_or_out, acts_nothing_or_out, is_active, is_ready, is_rolling}
use Rattle.tp_model.specs.Transactions.{Row, Transaction, is_under_at, find_row}

-- a branch leaves that was told to prepare, or that a rollback still waits for
abbrev pub may_leave : Transaction → Option Row → Bool
may_leave t None = false
may_leave t (Some r) =
    is_active t.phase && r.branch.prepared && not r.branch.counted && not r.branch.left
    || is_rolling t.phase && not r.branch.ended && not r.branch.left

abbrev pub sight_of_rollback : Transaction → ℕ → Sight
sight_of_rollback t p =
    if is_under_at t.key p then acts_or_out (is_active t.phase || is_ready t.phase || is_rolling t.phase)
    else elim (find_row t.rows p) [
      | None ↦ Nothing_happens
      | Some r ↦ acts_nothing_or_out (is_active t.phase && not r.branch.counted) (is_rolling t.phase)
    ]
