use Rattle.std.proofs.Common.{◌≡◌, ℕ, [], ◌∷◌, ◌++◌, length, false, arith, refl, ap, ◌∙◌}
use Rattle.tp_outside.specs.Changes.{written_over}
use Rattle.tp_outside.specs.declared.changes.Call.TheVariants.{Write}
use Rattle.tp_outside.proofs.Records.{writes}
use Rattle.tp_outside.proofs.changes.write.Goals as goal

pub returns-clause-ok : goal.returns-clause-ok
returns-clause-ok c =
    let old = c.args.bytes.now.items in
    let n = length c.args.piece.now in
    let list = c.args.changes.now.items.items in
    let puts = c.in_ok-put_piece.ensures {u = tt} in
    let lost : c.add.new.self.lost.items ≡ c.args.changes.now.lost.items ++ written_over c.args.at n old =
    c.add.ensures.lost ∙ puts.lost ∙ ap (λ l. l ++ written_over c.args.at n old) c.make_room.ensures.lost in
    let was : c.len-was.result ≡ length old = omega (arith, c.len-was.ensures, c.args.bytes.now.ok.0) in
    let items : c.add.new.self.items.items ≡ list ++ record { call = Write c.args.at n (length old); synced = false } ∷ [] =
    c.add.ensures.items ∙ ap (λ l. l ++ record { call = Write c.args.at n c.len-was.result; synced = false } ∷ []) c.make_room.ensures.items
    ∙ ap (λ (k : ℕ). list ++ record { call = Write c.args.at n k; synced = false } ∷ []) was in
    writes old _ _ _ c.args.at n c.args.piece.now _ _ refl lost items puts.written
