-- A node's current transaction as its calls tell it: the transaction of the definitions, which sees of its
-- arcs whether they are live and whether they end with it. What an event asks for and leaves stands there.
use Rattle.std.specs.Prelude.{ℕ, ◌≡◌, ◌&&◌, ◌||◌, not, Bool, true, false, Option, Some, None, List, [], ◌∷◌, ◌++◌, length}
use Rattle.tp_names.specs.declared.identifiers.BranchId.{BranchId}
use Rattle.tp_names.specs.declared.identifiers.NodeKey.{NodeKey}
use Rattle.tp_names.specs.declared.identifiers.Addr.{Addr}
use Rattle.tp_names.specs.declared.children.Child.{Child}
use Rattle.tp_names.specs.declared.outcome.Outcome.{Outcome}
use Rattle.tp_names.specs.declared.outcome.Report.{Report}
use Rattle.tp_logrec.specs.declared.record.LogRec.{LogRec}
use Rattle.tp_model.specs.declared.arc.Phase.{Phase}
use Rattle.tp_model.specs.declared.transaction.TxEvent.{TxEvent}
use Rattle.tp_model.specs.Parts.{Key, Root, Under}
use Rattle.tp_model.specs.Dialogues.{is_committing, is_rolling}
use Rattle.tp_model.specs.Transactions.{Row, Transaction, node_key, is_under, fresh_branch, fresh_rows, find_row_by_id}
use Rattle.tp_commit.specs.declared.branch.Branch.TheInside.{Inside}

-- ---- what is kept

-- the key with the superior's address; a key without a branch is a root's
abbrev pub key_from : NodeKey → Option Addr → Key
key_from k s = elim k.branch [ None ↦ Root k.aaid | Some b ↦ elim s [ None ↦ Root k.aaid | Some a ↦ Under k.aaid b a ] ]

abbrev pub transaction_of : Inside → Transaction
transaction_of b = record {
  node = b.node;
  key = key_from b.key b.superior;
  phase = b.phase;
  up = b.up;
  up_ends = b.up_ends;
  rows = b.rows;
  told_prepare = b.told_prepare;
  asked = b.asked;
  owes = b.owes;
  superior_rolled = b.superior_rolled;
  decision = b.decision;
  own = b.own;
}

-- the key is whole
abbrev pub IsKept : Inside → Type 0
IsKept b = node_key (key_from b.key b.superior) ≡ b.key

-- a superior is given where the key has a branch
abbrev pub has_superior : NodeKey → Option Addr → Bool
has_superior k s = elim k.branch [ None ↦ true | Some b ↦ elim s [ None ↦ false | Some a ↦ true ] ]

-- ---- how it begins

-- active, and over a live arc where it has a superior
abbrev pub begun : ℕ → Key → Transaction
begun n k = record {
  node = n;
  key = k;
  phase = Phase.Active;
  up = is_under k;
  up_ends = false;
  rows = [];
  told_prepare = false;
  asked = false;
  owes = false;
  superior_rolled = false;
  decision = None;
  own = Report.None;
}

-- ---- how it is found in the log: no arc is live, and where commit was ordered the user owes done

abbrev pub idle_rows : List Child → List Row
idle_rows [] = []
idle_rows (c ∷ cs) = record { branch = fresh_branch c; live = false; ends = false } ∷ idle_rows cs

abbrev pub found : ℕ → Key → Phase → List Child → Option Outcome → Transaction
found n k p cs o = record {
  node = n;
  key = k;
  phase = p;
  up = false;
  up_ends = false;
  rows = idle_rows cs;
  told_prepare = false;
  asked = false;
  owes = is_committing p;
  superior_rolled = false;
  decision = o;
  own = Report.None;
}

-- by a Ready or a Commit; another record tells of no transaction
abbrev pub found_by : LogRec → Option Outcome → Option Transaction
found_by (LogRec.Boot n) o = None
found_by (LogRec.Ready n k s cs) o = Some (found n (key_from k (Some s)) Phase.Ready cs o)
found_by (LogRec.Heuristic n k u) o = None
found_by (LogRec.Commit n k s cs) o = Some (found n (key_from k s) Phase.Committing cs o)
found_by (LogRec.Damage n k s u r cs) o = None
found_by (LogRec.End n k u) o = None

abbrev pub tells_transaction : LogRec → Bool
tells_transaction (LogRec.Boot n) = false
tells_transaction (LogRec.Ready n k s cs) = true
tells_transaction (LogRec.Heuristic n k u) = false
tells_transaction (LogRec.Commit n k s cs) = has_superior k s
tells_transaction (LogRec.Damage n k s u r cs) = false
tells_transaction (LogRec.End n k u) = false

-- ---- what it sees of its arcs

-- whether its arc is live matters as long as a branch is neither ended nor left
abbrev pub seen_at : Bool → Bool → Row → Row
seen_at live ends r = record r { live = live && not (r.branch.ended || r.branch.left); ends = ends }

-- ---- how it stands after an event

-- whether its arc is live matters as long as a branch is neither ended nor left; a rollback has forgotten
-- what was deferred
abbrev pub standing_row : Bool → Row → Row
standing_row rolls r = record r { live = r.live && not (r.branch.ended || r.branch.left); ends = r.ends && not rolls }

abbrev pub standing_rows : Bool → List Row → List Row
standing_rows rolls [] = []
standing_rows rolls (r ∷ rs) = standing_row rolls r ∷ standing_rows rolls rs

abbrev pub standing : Transaction → Transaction
standing t = record t { up_ends = t.up_ends && not (is_rolling t.phase); rows = standing_rows (is_rolling t.phase) t.rows }

-- how many branches the event begins
abbrev pub begins : TxEvent → ℕ
begins (TxEvent.Begun cs) = length cs
begins (TxEvent.User r) = 0
begins (TxEvent.Took p r) = 0
begins (TxEvent.Lost p) = 0
begins (TxEvent.Heur o) = 0
begins (TxEvent.GiveUp p) = 0
begins TxEvent.Ordered = 0
begins (TxEvent.Reply b s) = 0
begins TxEvent.Retry = 0

-- the branches, with those that the event begins after them
abbrev pub with_begun : TxEvent → List Row → List Row
with_begun (TxEvent.Begun cs) rs = rs ++ fresh_rows cs
with_begun (TxEvent.User r) rs = rs
with_begun (TxEvent.Took p r) rs = rs
with_begun (TxEvent.Lost p) rs = rs
with_begun (TxEvent.Heur o) rs = rs
with_begun (TxEvent.GiveUp p) rs = rs
with_begun TxEvent.Ordered rs = rs
with_begun (TxEvent.Reply b s) rs = rs
with_begun TxEvent.Retry rs = rs

-- ---- what it tells

abbrev pub child_at : List Row → BranchId → Option Addr
child_at rows b = elim (find_row_by_id rows b) [ None ↦ None | Some r ↦ Some r.branch.peer ]
