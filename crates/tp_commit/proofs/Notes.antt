-- What is noted on the first branch with a peer: found and put back, or noted in its place.
use Rattle.std.proofs.Common.{◌≡◌, ◌==◌, ℕ, true, Option, Some, None, List, [], ◌∷◌, arith, refl, ap, ◌∙◌}
use Rattle.std.proofs.lemmas.Bool.Decides.{nat_tests}
use Rattle.tp_model.specs.Transactions.{Row, Transaction, find_row, put_row, with_row}
use Rattle.tp_commit.specs.declared.row.Note.{Note}
use Rattle.tp_commit.specs.Row.{noted, noted_at}

-- a note changes no peer
peer_noted : (n : Note) (r : Row) → (noted n r).branch.peer ≡ r.branch.peer
peer_noted Note.Prepared r = refl
peer_noted Note.Counted r = refl
peer_noted Note.Left r = refl
peer_noted (Note.Ended report) r = refl
peer_noted Note.GivenUp r = refl
peer_noted Note.Lost r = refl
peer_noted Note.Ending r = refl

found_peer : (rs : List Row) (p : ℕ) (r : Row) → find_row rs p ≡ Some r → (r.branch.peer.node == p) ≡ true
found_peer [] p r e = grind (arith, e)
found_peer (x ∷ rs) p r e = grind (arith, nat_tests, e, found_peer rs p r)

abbrev put_back : List Row → Note → Option Row → List Row
put_back rs n None = rs
put_back rs n (Some r) = put_row rs (noted n r)

noted_there : (rs : List Row) (p : ℕ) (n : Note) → put_back rs n (find_row rs p) ≡ noted_at rs p n
noted_there [] p n = refl
noted_there (r ∷ rs) p n = go (find_row rs p) refl (noted_there rs p n)
  where
    go : (o : Option Row) → find_row rs p ≡ o → put_back rs n (find_row rs p) ≡ noted_at rs p n → put_back (r ∷ rs) n (find_row (r ∷ rs) p) ≡ noted_at (r ∷ rs) p n
    go None e h = grind (arith, nat_tests, peer_noted n r, e, h)
    go (Some q) e h = grind (arith, nat_tests, peer_noted n r, peer_noted n q, found_peer rs p q e, e, h)

pub noted_row : (t : Transaction) (p : ℕ) (n : Note) → with_row t p (noted n) ≡ record t { rows = noted_at t.rows p n }
noted_row t p n = go (find_row t.rows p) ∙ ap (λ rs. let u : Transaction = record t { rows = rs } in u) (noted_there t.rows p n)
  where
    go : (o : Option Row) → elim o as (λ _. Transaction) [ None ↦ t | Some r ↦ record t { rows = put_row t.rows (noted n r) } ] ≡ record t { rows = put_back t.rows n o }
    go None = refl
    go (Some r) = refl
