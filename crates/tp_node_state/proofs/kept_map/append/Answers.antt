use Rattle.std.proofs.Common.{◌≡◌, ap, sym, ◌∙◌, refl, cond, subst, [], ◌∷◌, ◌++◌}
use Rattle.tp_names.specs.declared.identifiers.Aaid.{Aaid}
use Rattle.tp_names.specs.Same.{is_aaid}
use Rattle.tp_node_state.specs.Kept.{ages_in, listed, AreSingle}
use Rattle.tp_node_state.proofs.KeptTrees.{indexed_behind, indexed_back}
use Rattle.tp_node_state.proofs.kept_map.append.Goals as goal

pub returns-in_default-insert-clause-more : goal.returns-in_default-insert-clause-more
returns-in_default-insert-clause-more c =
    (indexed_behind c.args.by_age.now.entries c.insert.new.self.entries c.args.trees.now.entries c.push.new.trees.entries c.args.kept c.in-Some.age c.requires.indexed c.requires.absent c.in-Some.ensures
    c.in_default-insert.ensures.entries c.insert.ensures.ordered (subst (λ k. (t : Aaid) → ages_in c.push.new.trees.entries t ≡ cond (is_aaid k.key.aaid t) (ages_in c.args.trees.now.entries k.key.aaid ++ c.in-Some.age ∷ []) (ages_in c.args.trees.now.entries t)) c.deref.ensures c.in-Ok.ensures.more)).1

pub returns-in_default-insert-clause-indexed : goal.returns-in_default-insert-clause-indexed
returns-in_default-insert-clause-indexed c =
    (indexed_behind c.args.by_age.now.entries c.insert.new.self.entries c.args.trees.now.entries c.push.new.trees.entries c.args.kept c.in-Some.age c.requires.indexed c.requires.absent c.in-Some.ensures
    c.in_default-insert.ensures.entries c.insert.ensures.ordered (subst (λ k. (t : Aaid) → ages_in c.push.new.trees.entries t ≡ cond (is_aaid k.key.aaid t) (ages_in c.args.trees.now.entries k.key.aaid ++ c.in-Some.age ∷ []) (ages_in c.args.trees.now.entries t)) c.deref.ensures c.in-Ok.ensures.more)).0

pub returns-clause-indexed : goal.returns-clause-indexed
returns-clause-indexed c = (
  indexed_back c.args.by_age.now.entries c.insert.new.self.entries c.args.trees.now.entries c.push.new.trees.entries c.remove.new.trees.entries c.deref.result.now.key.aaid c.in-Some.age c.requires.indexed.0 c.in-Some.ensures
      c.in-Err.ensures.err c.in-Ok.ensures.more c.remove.ensures,
  subst (λ l. AreSingle (listed l)) (sym c.in-Err.ensures.err) c.requires.indexed.1,
)
