use Rattle.std.proofs.Common.{◌≡◌, ◌∙◌, List, Err, ap, subst, drop, take}
use Rattle.tp_model.specs.declared.transaction.TxOut.{TxOut}
use Rattle.tp_model.specs.Node.{perform, Commits}
use Rattle.tp_draft.specs.Draft.{goes_on, Plays}
use Rattle.tp_draft.specs.Passage.{playing, completing, place_of_completion}
use Rattle.tp_draft.proofs.Drafts.{plays_then, plays_halted}
use Rattle.tp_draft.proofs.Turns.{commit_parts, completing_rises}
use Rattle.tp_draft.proofs.draft.Draft.play_commit.Goals as goal

pub returns-in-Err : goal.returns-in-Err
returns-in-Err c =
    let t = c.args.branch.now in
    let outs = c.args.outs.now in
    let at = place_of_completion outs in
    let front : c.split_at.result.0.now ≡ take at outs = c.split_at.ensures.front ∙ ap (λ n. take n outs) c.place_of_completion.ensures.place in
    plays_halted c.in-Err.halt c.args.self.now c.perform.new.self c.perform.new.self (λ who. perform (take at outs)) (completing t (drop at outs)) (λ who. playing t Commits outs who) (commit_parts t outs) (completing_rises t (drop at outs))
    (subst (λ (l : List TxOut). Plays (Err c.in-Err.halt) c.args.self.now c.perform.new.self (λ who. perform l)) front (c.in-Err.ensures {u = tt}))

pub returns : goal.returns
returns c =
    let t = c.args.branch.now in
    let outs = c.args.outs.now in
    let at = place_of_completion outs in
    let front : c.split_at.result.0.now ≡ take at outs = c.split_at.ensures.front ∙ ap (λ n. take n outs) c.place_of_completion.ensures.place in
    let back : c.split_at.result.1.now ≡ drop at outs = c.split_at.ensures.back ∙ ap (λ n. drop n outs) c.place_of_completion.ensures.place in
    plays_then c.complete_commit.result c.args.self.now c.perform.new.self c.complete_commit.new.self (λ who. perform (take at outs)) (completing t (drop at outs)) (λ who. playing t Commits outs who)
    (c.in_default.ensures {u = tt} ∙ ap (λ (l : List TxOut). goes_on c.args.self.now (λ who. perform l)) front)
    (commit_parts t outs)
    (subst (λ (l : List TxOut). Plays c.complete_commit.result c.perform.new.self c.complete_commit.new.self (completing t l)) back c.complete_commit.ensures)
