-- One branch as the node keeps it, and what may be noted on it. A note changes the first branch with a
-- peer, and no other.
use Rattle.std.specs.Prelude.{ℕ, ◌==◌, true, false, if◌then◌else◌, List, [], ◌∷◌}
use Rattle.tp_names.specs.declared.outcome.Outcome.{Outcome}
use Rattle.tp_records.specs.declared.dialogue.DialogueRecord.{DialogueRecord}
use Rattle.tp_model.specs.Transactions.{Row as RowValue}
use Rattle.tp_commit.specs.declared.row.Row.TheInside.{Inside}
use Rattle.tp_commit.specs.declared.row.Note.{Note}

abbrev pub row_of : Inside → RowValue
row_of r = record {
  branch = record {
    peer = r.peer;
    id = r.id;
    prepared = r.prepared;
    counted = r.counted;
    left = r.left;
    ended = r.ended;
    given_up = r.given_up;
    report = r.report;
  };
  live = r.live;
  ends = r.ends;
}

abbrev pub inside_of : RowValue → Inside
inside_of r = record {
  peer = r.branch.peer;
  id = r.branch.id;
  prepared = r.branch.prepared;
  counted = r.branch.counted;
  left = r.branch.left;
  ended = r.branch.ended;
  given_up = r.branch.given_up;
  report = r.branch.report;
  live = r.live;
  ends = r.ends;
}

-- what a note makes of the branch
abbrev pub noted : Note → RowValue → RowValue
noted Note.Prepared r = record r { branch = record r.branch { prepared = true } }
noted Note.Counted r = record r { branch = record r.branch { counted = true } }
noted Note.Left r = record r { branch = record r.branch { left = true } }
noted (Note.Ended report) r = record r { branch = record r.branch { ended = true; report = report } }
noted Note.GivenUp r = record r { branch = record r.branch { given_up = true }; live = false; ends = false }
noted Note.Lost r = record r { live = false; ends = false }
noted Note.Ending r = record r { ends = true }

abbrev pub noted_at : List RowValue → ℕ → Note → List RowValue
noted_at [] p m = []
noted_at (r ∷ rs) p m = if r.branch.peer.node == p then noted m r ∷ rs else r ∷ noted_at rs p m

-- the numbers of the peers
abbrev pub numbers_of : List RowValue → List ℕ
numbers_of [] = []
numbers_of (r ∷ rs) = r.branch.peer.node ∷ numbers_of rs

-- the record by which an outcome is passed on
abbrev pub record_of : Outcome → DialogueRecord
record_of Outcome.Commit = DialogueRecord.Commit
record_of Outcome.Rollback = DialogueRecord.Rollback
