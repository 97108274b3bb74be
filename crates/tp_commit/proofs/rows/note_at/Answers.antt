use Rattle.std.proofs.Common.{◌≡◌, ◌<◌, ◌==◌, ◌++◌, ℕ, zero, suc, List, [], ◌∷◌, true, set, take, drop, get_or, length, arith, ap, sym, ◌∙◌}
use Rattle.std.proofs.lemmas.Bool.Decides.{nat_tests}
use Rattle.tp_model.specs.Transactions.{Row as RowValue}
use Rattle.tp_commit.specs.declared.row.Note.{Note}
use Rattle.tp_commit.specs.Row.{noted, noted_at}
use Rattle.tp_commit.proofs.rows.note_at.Goals as goal

at_place : (xs : List RowValue) (i p : ℕ) (m : Note) (r new : RowValue) → i < length xs → ((get_or xs i r).branch.peer.node == p) ≡ true → new ≡ noted m (get_or xs i r)
    → set xs i new ≡ take i xs ++ noted_at (drop i xs) p m
at_place [] i p m r new h e s = absurd (omega arith)
at_place (x ∷ xs) zero p m r new h e s = grind (arith, e, s)
at_place (x ∷ xs) (suc i) p m r new h e s = ap (λ ys. x ∷ ys) (at_place xs i p m r new (omega arith) e s)

pub returns-then-row-peer : goal.returns-then-row-peer
returns-then-row-peer c =
    let e : ((get_or c.loop-row.rows c.loop-row.row-index c.row-item.result).branch.peer.node == c.args.peer) ≡ true = grind (arith, nat_tests, c.if-row-peer.true, c.row-item.is, c.row.view_is) in
    let s : c.note.new.self ≡ noted c.args.note (get_or c.loop-row.rows c.loop-row.row-index c.row-item.result) = grind (arith, c.note.ensures, c.row-item.is) in
    at_place c.loop-row.rows c.loop-row.row-index c.args.peer c.args.note c.row-item.result c.note.new.self (omega arith) e s ∙ sym c.loop-row.invariant.so_far
