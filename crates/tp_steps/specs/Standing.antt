-- What of a transaction stands in the log, while it is ready or committing.
use Rattle.std.specs.Prelude.{◌≡◌, true, Option, Some, None, List, [], ◌∷◌, false}
use Rattle.tp_names.specs.declared.identifiers.NodeKey.{NodeKey}
use Rattle.tp_names.specs.declared.children.Child.{Child}
use Rattle.tp_names.specs.declared.outcome.Outcome.{Outcome}
use Rattle.tp_logrec.specs.declared.record.LogRec.{LogRec}
use Rattle.tp_model.specs.declared.arc.Phase.{Phase}
use Rattle.tp_model.specs.declared.recovery.Kept.{Kept}
use Rattle.tp_model.specs.Parts.{Key, Current, Digest}
use Rattle.tp_model.specs.Dialogues.{is_active, is_rolling}
use Rattle.tp_model.specs.Transactions.{Transaction, Turn, node_key, children_of}
use Rattle.tp_model.specs.Events.{fresh_branches, recovered, current_by}

abbrev pub standing : Key → Phase → List Child → Option Outcome → Option Current
standing k Phase.Nil cs o = None
standing k Phase.Active cs o = None
standing k Phase.Ready cs o = Some (recovered k Phase.Ready (fresh_branches cs) o)
standing k Phase.Committing cs o = Some (recovered k Phase.Committing (fresh_branches cs) o)
standing k Phase.Rolling cs o = None

abbrev pub in_log : Transaction → Option Current
in_log t = standing t.key t.phase (children_of t.rows) t.decision

-- what is current by the log, with one more record where there is one
abbrev pub current_after : Option LogRec → Option Current → Option Current
current_after None c = c
current_after (Some r) c = current_by r c

-- no decision stands before ready
abbrev pub IsUndecided : Transaction → Type 0
IsUndecided t = is_active t.phase ≡ true → t.decision ≡ None

-- no kept transaction has the key
abbrev pub AreApart : NodeKey → List Kept → Type 0
AreApart k [] = Unit {0}
AreApart k (x ∷ xs) = (x.key ≡ k → ⊥) × AreApart k xs

-- nor that of the current one, unless it rolls
abbrev pub IsApart : Digest → Type 0
IsApart d = (c : Current) → d.current ≡ Some c → is_rolling c.phase ≡ false → AreApart (node_key c.key) d.kept

-- the record that a turn forces makes of what stands in the log what stands there after it
pub record IsTold (t : Transaction) (a : Turn) : Type 0 where
  pub log : current_after a.rec (in_log t) ≡ in_log a.next
  pub undecided : IsUndecided a.next
  -- what is active after it was so before, and forced nothing
  pub active : is_active a.next.phase ≡ true → (is_active t.phase ≡ true) × (a.rec ≡ None)
