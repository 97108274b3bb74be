-- The record is the next one, since it is not refused.
use Rattle.tp_site.proofs.Noted.{taken_rec}
use Rattle.tp_site.proofs.in_place.apply_arrival.Goals as goal

pub take-requires : goal.take-requires
take-requires c = taken_rec c.args.node.now.who c.args.node.now.digest c.args.from c.args.rec.now c.in-OnAssoc.x c.in-OnAssoc.y c.in-OnAssoc.seq c.in-OnAssoc.rec c.in-OnAssoc.is c.requires

pub take-requires-in-Done : goal.take-requires-in-Done
take-requires-in-Done c = taken_rec c.args.node.now.who c.args.node.now.digest c.args.from c.args.rec.now c.in-OnAssoc.x c.in-OnAssoc.y c.in-OnAssoc.seq c.in-OnAssoc.rec c.in-OnAssoc.is c.requires
