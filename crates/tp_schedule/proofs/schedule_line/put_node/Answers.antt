use Rattle.std.proofs.Common.{ℕ, Option, Some, ◌∷◌, [], codes, refl, sym, subst}
use Rattle.tp_text_builder.specs.Written.{Adds}
use Rattle.tp_text_builder.proofs.Joined.{joined}
use Rattle.tp_model.specs.declared.line.Line.{Line}
use Rattle.tp_model.specs.Words.{words, decimal}
use Rattle.tp_model.specs.LineText.{under_words, line_words}
use Rattle.tp_schedule.proofs.schedule_line.put_node.Goals as goal

pub returns-in-None : goal.returns-in-None
returns-in-None c = rw c.in-None.is (joined (codes "node") (decimal c.args.node ∷ []) (c.args.site.now ∷ []) refl c.put_one.ensures c.space.ensures c.site.ensures)

pub returns-in-Some : goal.returns-in-Some
returns-in-Some c =
    subst (λ (u : Option ℕ). Adds c.args.text.now (words (line_words (Line.Node c.args.node c.args.site.now u))) c.put_under.new.text) (sym c.in-Some.is)
    (joined (codes "node") (decimal c.args.node ∷ []) (c.args.site.now ∷ under_words (Some c.in-Some.superior)) refl c.put_one.ensures c.space.ensures c.put_under.ensures)
