use Rattle.std.proofs.Common.{◌≡◌, ◌+◌, ◌++◌, ◌∷◌, [], ℕ, suc, arith, length, subst, sym, ◌∙◌}
use Rattle.tp_network.specs.Nodes.{IsRun}
use Rattle.tp_network.proofs.Runs.{run_kept, run_longer}
use Rattle.tp_network.proofs.run.Run.with.Goals as goal

pub returns-then-comes_after : goal.returns-then-comes_after
returns-then-comes_after c = λ xs x all number run.
    let first = c.args.self.first in
    let follows : first + c.args.all ≡ c.args.number = c.comes_after.ensures c.if-comes_after.true in
    let whole : IsRun (length xs) first xs = subst (λ (k : ℕ). IsRun k first xs) (c.if-self-all.true ∙ sym all) run in
    let more : suc (length xs) ≡ c.args.all + 1 = omega (arith, all) in
    subst (λ (k : ℕ). IsRun k first (xs ++ x ∷ [])) more (run_longer first xs x (omega (arith, all, number, follows)) whole)

pub returns : goal.returns
returns c = λ xs x all number run. run_kept c.args.self.count c.args.self.first xs x run
