-- Associations that end.
use Rattle.std.proofs.Common.{◌≡◌, ◌≤◌, ℕ, Option, Some, None, [], ◌∷◌, ap, arith}
use Rattle.tp_names.specs.declared.identifiers.Addr.{Addr}
use Rattle.tp_names.specs.declared.identifiers.Mark.{Mark}
use Rattle.tp_records.specs.declared.indication.Indication.{Indication}
use Rattle.tp_records.specs.declared.peer.PeerRecord.{PeerRecord}
use Rattle.tp_model.specs.declared.transaction.TxEvent.{TxEvent}
use Rattle.tp_model.specs.declared.transaction.TxOut.{TxOut}
use Rattle.tp_model.specs.Parts.{Who, Current, Digest}
use Rattle.tp_model.specs.Arcs.{without_arc}
use Rattle.tp_model.specs.Node.{Move, move, perform, transact}
use Rattle.tp_model.specs.Arrivals.{lose, broken_pair, break_off}
use Rattle.tp_draft.specs.Calls.{breaking}
use Rattle.tp_draft.proofs.Turns.{transact_rises}

-- a loss takes no mark back
pub lose_rises : (p : ℕ) (who : Who) (d : Digest) → d.drawn ≤ (lose who p d).next.drawn
unfolding lose
lose_rises p who d = go d.current
  where
    gone : Digest
    gone = record d { arcs = without_arc d.arcs p }

    go : (o : Option Current) → d.drawn ≤ (elim o as (λ _. Move) [ None ↦ perform (TxOut.Tell (Indication.PAbort p) ∷ []) gone | Some c ↦ transact who (TxEvent.Lost p) gone ]).next.drawn
    go None = omega arith
    go (Some c) = transact_rises (TxEvent.Lost p) who gone

pub breaks_none : (who : Who) (from : Addr) (r : PeerRecord) (d : Digest) → broken_pair r ≡ None → break_off who from r d ≡ move [] d
unfolding break_off
breaks_none who from r d e = ap (λ (o : Option (Mark × Mark)). elim o as (λ _. Move) [ None ↦ move [] d | Some xy ↦ breaking from xy.0 xy.1 who d ]) e

pub breaks_pair : (who : Who) (from : Addr) (r : PeerRecord) (d : Digest) (x y : Mark) → broken_pair r ≡ Some (x, y) → break_off who from r d ≡ breaking from x y who d
unfolding break_off
breaks_pair who from r d x y e = ap (λ (o : Option (Mark × Mark)). elim o as (λ _. Move) [ None ↦ move [] d | Some xy ↦ breaking from xy.0 xy.1 who d ]) e
