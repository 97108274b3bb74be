-- What an event leaves undone: nothing. Where a transaction may vote, order commitment or be complete, the event that made it
-- so has done it.
use Rattle.std.specs.Prelude.{◌≡◌, ◌&&◌, ◌||◌, not, Bool, false}
use Rattle.tp_model.specs.Dialogues.{is_active, is_committing, is_rolling}
use Rattle.tp_model.specs.Transactions.{Transaction, Turn, all_settled, all_done, all_rolled_back}

-- ---- a transaction

-- it has asked for commitment, and each branch is counted or left: it may vote, or order as a root
abbrev pub may_settle : Transaction → Bool
may_settle t = is_active t.phase && t.asked && all_settled t.rows

-- its user has given done, and each branch is done, left or given up: its commitment may be complete
abbrev pub may_complete : Transaction → Bool
may_complete t = is_committing t.phase && not t.owes && all_done t.rows

-- its user owes no done, and each live branch and the live superior have rolled back: its rollback may be complete
abbrev pub may_roll_back : Transaction → Bool
may_roll_back t = is_rolling t.phase && not t.owes && all_rolled_back t.rows && (t.superior_rolled || not t.up)

-- an event, from s on: what was not left undone before is not left undone after it
pub record IsPromptTurn (s : Transaction) (a : Turn) : Type 0 where
  pub settles : may_settle s ≡ false → may_settle a.next ≡ false
  pub completes : may_complete s ≡ false → may_complete a.next ≡ false
  pub rolls_back : may_roll_back s ≡ false → may_roll_back a.next ≡ false
