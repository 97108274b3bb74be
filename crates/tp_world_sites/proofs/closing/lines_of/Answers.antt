use Rattle.std.proofs.Common.{◌++◌, ◌∷◌, [], ◌+◌, ◌∙◌, ap, sym, drop, List}
use Rattle.tp_names.specs.declared.identifiers.Aaid.{Aaid}
use Rattle.tp_model.specs.declared.out_line.OutLine.{OutLine}
use Rattle.tp_network.specs.TreeOutcomes.{outcomes_at}
use Rattle.tp_network.specs.declared.tree_outcomes.TreeOutcomes.{TreeOutcomes}
use Rattle.tp_world_sites.specs.Told.{line_by, closing_at}
use Rattle.tp_world_sites.proofs.ToldAt.{line_next}
use Rattle.tp_world_sites.proofs.closing.lines_of.Goals as goal

pub loop-i-preserved : goal.loop-i-preserved
loop-i-preserved c = λ h.
    let t : Aaid = c.index-trees-i.result in
    let xs = c.args.nodes.now in
    let ts = c.args.trees.now in
    let i = c.loop-i.i in
    let before = c.loop-i.lines in
    let after =
    c.in_ok-close_tree.ensures.shown
    ∙ ap (λ (o : TreeOutcomes). before ++ line_by t xs o ∷ []) (c.at.ensures ∙ h t)
    ∙ ap (λ (a : Aaid). before ++ line_by a xs (outcomes_at xs a) ∷ []) c.index-trees-i.is
    in
    line_next xs ts i t before c.loop-i-test.true (c.loop-i.invariant h) ∙ ap (λ (ls : List OutLine). ls ++ closing_at xs (drop (i + 1) ts)) (sym after)
