use Rattle.std.proofs.Common.{◌≡◌, ◌+◌, [], ◌∷◌, ◌++◌, take, arith, sym, subst, ap, ◌∙◌}
use Rattle.std.proofs.lemmas.List.{take_more}
use Rattle.tp_site.specs.Nodes.{AreFrom}
use Rattle.tp_site.proofs.nodes.Nodes.from_records.Goals as goal

pub loop-i-preserved : goal.loop-i-preserved
loop-i-preserved c =
    let rs = c.args.records.now in
    let i = c.loop-i.i in
    let r = c.index-records-i.result in
    let more : take (i + 1) rs ≡ take i rs ++ r ∷ [] = take_more rs i r (omega arith) ∙ ap (λ q. take i rs ++ q ∷ []) (sym c.index-records-i.is) in
    let site = (c.in_ok-recover.ensures {u = tt}).site in
    let was = c.loop-i.invariant in (
      subst (λ qs. AreFrom qs c.recover.new.self) (sym more) ((c.in_ok-recover.ensures {u = tt}).recovered (take i rs) was.0),
      site.site ∙ was.1,
      site.boot ∙ was.2,
      site.version ∙ was.3,
    )
