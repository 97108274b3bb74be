-- It is not refused, acts, and is only noted.
use Rattle.std.proofs.Common.{rules, ◌≡◌, ◌∙◌, ◌≤◌, ap, sym, Some, None, true, arith}
use Rattle.std.specs.Option.{option_map}
use Rattle.tp_model.specs.Dialogues.{Acts}
use Rattle.tp_model.specs.Disposition.{sight_value}
use Rattle.tp_model.specs.Links.{greatest}
use Rattle.tp_model.specs.Arrivals.{refused_arrival}
use Rattle.tp_node.specs.NodeEvent.{refusal_in, sight_from}
use Rattle.tp_site.specs.InPlace.{is_only_noted, acts_at}
use Rattle.tp_site.proofs.Noted.{planned, acts_seen}
use Rattle.tp_site.proofs.in_place.plan_arrival.Goals as goal

pub returns-clause-planned : goal.returns-clause-planned
returns-clause-planned c = λ _.
    let v = c.args.node.now in
    let from = c.args.from.now in
    let r = c.in-OnAssoc.said in
    let noted : is_only_noted v.digest from.node r ≡ true = grind (arith, c.is_only_noted.ensures, c.if-not-is_only_noted.false) in
    let ok : refused_arrival v.who v.digest from c.args.rec.now ≡ None = sym c.judge_arrival.ensures.refused ∙ ap refusal_in c.in-Ok-Some-Acts.is in
    let seen : Some Acts ≡ option_map sight_value c.in-Ok-Some-Acts.field-0 = sym (ap (λ s. Some (sight_value s)) c.in-Ok-Some-Acts.field-0-0-is) ∙ sym (ap (option_map sight_value) c.in-Ok-Some-Acts.field-0-is) in
    let acting : acts_at v.who v.digest from.node r ≡ true = acts_seen v.who v.digest from.node r (seen ∙ c.in-Ok-Some-Acts.ensures.sight ∙ ap (sight_from v.who v.digest from) c.in-OnAssoc.is) in
    let drawn : v.digest.drawn ≤ greatest = search rules in
    planned v from c.args.rec c.in-OnAssoc.x c.in-OnAssoc.y c.in-OnAssoc.seq r c.tell.new.outs c.in-OnAssoc.is ok acting noted (c.in_ok-tell.ensures {u = tt}) drawn
