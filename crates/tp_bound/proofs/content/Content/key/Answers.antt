use Rattle.std.proofs.Common.{Some, [], get_or, ap, ◌∙◌}
use Rattle.std.specs.Map.{keys_of}
use Rattle.std.proofs.lemmas.Iterator.Consumers.{nth_from_yields_List, YieldsList-from_rest}
use Rattle.tp_bound.specs.Content.{Content}
use Rattle.tp_bound.proofs.Tables.{key_is}
use Rattle.tp_bound.proofs.content.Content.key.Goals as goal

pub returns : goal.returns
returns c =
    let at = nth_from_yields_List (Some c.in-Some.key) c.nth.new.self c.args.i c.in-Some.ensures.ran (YieldsList-from_rest (keys_of c.self.inside.table.entries) c.keys.ensures.rest) in
    c.as_slice.ensures.value ∙ key_is c.self.inside.table.entries c.args.i c.in-Some.key.now at ∙ ap (λ (w : Content). get_or (keys_of w) c.args.i []) c.self.view_is
