use Rattle.std.proofs.Common.{◌≡◌, ◌≤◌, ◌++◌, ◌∷◌, [], List, ℕ, get_or, length, ap, subst, sym, ◌∙◌, IfOk, OnErr}
use Rattle.atomic_table.specs.Table.{rest}
use Rattle.tp_journal.specs.Gathering.{Gathered}
use Rattle.tp_shared_log.specs.Locks.{told_by}
use Rattle.tp_shared_log.proofs.share.force_held.Goals as goal

pub slot_mut-held-requires : goal.slot_mut-held-requires
slot_mut-held-requires g c = let t = c.requires.held in (c.requires.pass, (t.0, t.1 ∙ ap (λ l. (0, t.0) ∷ rest l) (sym t.1)))

pub returns-clause-held : goal.returns-clause-held
returns-clause-held g c = λ x is.
    let none-left : rest c.args.pass.now.me.1 ≡ [] = ap rest is in
    let held = c.slot_mut-held.result.now in
    let left = c.force.new.self in
    let same : x ≡ held = ap (λ (l : List (ℕ × Gathered g.row.D.Denot)). (get_or l 0 (0, x)).1) (sym is ∙ c.slot_mut-held.ensures.value) in (
      left,
      ap (λ l. (0, left) ∷ l) none-left,
      subst (λ z. length g.L.Stood.stood ≤ length (told_by z)) (sym same) c.force.ensures.begins,
      subst (λ z. IfOk c.force.result (λ r. told_by left ≡ told_by z ++ r ∷ [])) (sym same) c.force.ensures.adds,
      subst (λ z. OnErr c.force.result (told_by left ≡ told_by z)) (sym same) c.force.ensures.stays,
    )
