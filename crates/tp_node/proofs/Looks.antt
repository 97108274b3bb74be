-- Branches whose arcs are seen anew, one after the other.
use Rattle.std.proofs.Common.{◌≡◌, ℕ, zero, suc, ◌<◌, Bool, List, [], ◌∷◌, ◌++◌, length, take, drop, slice_index_or, slice_set, refl, ap, sym, ◌∙◌, arith}
use Rattle.std.proofs.lemmas.Grind.{common_steps}
use Rattle.tp_names.specs.declared.identifiers.Addr.{Addr}
use Rattle.tp_model.specs.Parts.{Arc}
use Rattle.tp_model.specs.Arcs.{is_live_with_peer}
use Rattle.tp_model.specs.Transactions.{Row, Transaction}
use Rattle.tp_model.specs.Node.{is_end_deferred_at, branches_of, seen_row, seen_rows}
use Rattle.tp_commit.specs.Branch.{seen_at}

set_seen : (arcs : List Arc) (rows : List Row) (i : ℕ) (d : Row) → i < length rows → take i rows ++ seen_rows arcs (branches_of (drop i rows)) ≡ take (suc i) (slice_set rows i (seen_row arcs (slice_index_or rows i d).branch)) ++ seen_rows arcs (branches_of (drop (suc i) (slice_set rows i (seen_row arcs (slice_index_or rows i d).branch))))
set_seen arcs [] i d h = absurd (omega arith)
set_seen arcs (r ∷ rows) zero d h = refl
set_seen arcs (r ∷ rows) (suc i) d h = ap (λ (l : List Row). r ∷ l) (set_seen arcs rows i d (omega arith))

row_seen : (arcs : List Arc) (r : Row) (a : Addr) (live ends : Bool) → a ≡ r.branch.peer → live ≡ is_live_with_peer arcs a.node → ends ≡ is_end_deferred_at arcs a.node → seen_at live ends r ≡ seen_row arcs r.branch
row_seen arcs r a live ends at l e = grind (arith, common_steps)

pub see_step : (arcs : List Arc) (rows new : List Row) (i : ℕ) (live ends : Bool) (a : Addr) → i < length rows → ((d : Row) → a ≡ (slice_index_or rows i d).branch.peer) → live ≡ is_live_with_peer arcs a.node → ends ≡ is_end_deferred_at arcs a.node → ((d : Row) → new ≡ slice_set rows i (seen_at live ends (slice_index_or rows i d))) → take i rows ++ seen_rows arcs (branches_of (drop i rows)) ≡ take (suc i) new ++ seen_rows arcs (branches_of (drop (suc i) new))
see_step arcs [] new i live ends a h at l e is = absurd (omega arith)
see_step arcs (r ∷ rows) new i live ends a h at l e is =
    let all : List Row = r ∷ rows in
    let done : new ≡ slice_set all i (seen_row arcs (slice_index_or all i r).branch) = is r ∙ ap (slice_set all i) (row_seen arcs (slice_index_or all i r) a live ends (at r) l e) in
    set_seen arcs all i r h ∙ sym (ap (λ (l' : List Row). take (suc i) l' ++ seen_rows arcs (branches_of (drop (suc i) l'))) done)

pub set_long : (rows new : List Row) (i : ℕ) (f : Row → Row) → i < length rows → ((d : Row) → new ≡ slice_set rows i (f (slice_index_or rows i d))) → length new ≡ length rows
set_long [] new i f h is = absurd (omega arith)
set_long (r ∷ rows) new i f h is = grind (arith, common_steps, is r)

-- nothing else changes
pub all_seen : (t old new : Transaction) (i : ℕ) (f : Row → Row) → i < length t.rows → ((d : Row) → new ≡ record t { rows = slice_set t.rows i (f (slice_index_or t.rows i d)) }) → t ≡ record old { rows = t.rows } → new ≡ record old { rows = new.rows }
all_seen t old new i f h is rest = go t.rows refl h
  where
    go : (rows : List Row) → t.rows ≡ rows → i < length t.rows → new ≡ record old { rows = new.rows }
    go [] e k = absurd (omega (arith, ap length e))
    go (r ∷ rows) e k =
        let done : new ≡ record t { rows = slice_set t.rows i (f (slice_index_or t.rows i r)) } = is r in
        done ∙ ap (λ (u : Transaction). record u { rows = slice_set t.rows i (f (slice_index_or t.rows i r)) }) rest ∙ sym (ap (λ (u : Transaction). record old { rows = u.rows }) done)
