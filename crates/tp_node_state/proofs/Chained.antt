-- Chained dialogues and deferred grants, of which there may be none.
use Rattle.std.proofs.Common.{◌≡◌, true, false, List, [], ◌∷◌, refl, arith}
use Rattle.std.proofs.lemmas.Bool.Decides.{nat_tests}
use Rattle.tp_model.specs.Dialogues.{is_chained, is_grant_deferred}
use Rattle.tp_model.specs.Parts.{Arc}
use Rattle.tp_model.specs.Arcs.{put_arc}
use Rattle.tp_node_state.specs.SharedArcs.{has_none_chained, has_no_grant}

-- an arc that takes the place of another
pub none_put : (arcs : List Arc) (a : Arc) → has_none_chained arcs ≡ true → is_chained a.dialogue ≡ false → has_none_chained (put_arc arcs a) ≡ true
none_put [] a h n = refl
none_put (c ∷ arcs) a h n = grind (arith, nat_tests, n, h, none_put arcs a)

pub no_grant_put : (arcs : List Arc) (a : Arc) → has_no_grant arcs ≡ true → is_grant_deferred a.dialogue.deferral ≡ false → has_no_grant (put_arc arcs a) ≡ true
no_grant_put [] a h n = refl
no_grant_put (c ∷ arcs) a h n = grind (arith, nat_tests, n, h, no_grant_put arcs a)
