use Rattle.tp_unite.proofs.Trees.{seen_tells}
use Rattle.tp_unite.proofs.recording.Recording.see.Goals as goal

pub returns-clause-trees : goal.returns-clause-trees
returns-clause-trees c = λ qs q is here tell.
    let old = c.args.self.now in
    seen_tells q qs old.places c.args.addr c.superior_at-superior.result old.trees c.place.new.self is here c.superior_at-superior.ensures c.in_ok-place.ensures tell
