-- The next process has started, on the log that was left, and the nodes of its site stopped.
use Rattle.std.proofs.Common.{◌∷◌, subst}
use Rattle.tp_outside.specs.declared.mem_disk.MemDisk.{MemDisk}
use Rattle.tp_journal.specs.Journals.{Kept}
use Rattle.tp_deployments.specs.Deployments.{Starts}
use Rattle.tp_closing.specs.Closing.{deeds_of}
use Rattle.tp_unite.specs.declared.playing.Playing.{Playing}
use Rattle.tp_unite.specs.Playing.{StartsOn}
use Rattle.tp_unite.proofs.Played.{next_played}
use Rattle.tp_unite.proofs.Trees.{next_stops, next_tells}
use Rattle.tp_unite.proofs.playing.Playing.next.Goals as goal

pub returns-clause-plays : goal.returns-clause-plays
returns-clause-plays c = λ qs r is.
    let added = c.in_ok-push.ensures in
    let plain = c.plain.ensures in
    let started = subst (λ (j : Kept MemDisk). StartsOn j c.args.self.lane.name c.in_ok-site.site) c.keeper.ensures c.in_ok-site.ensures.starts in
    next_played qs r c.args.self c.push.new.self c.in_ok-site.site c.plain.result c.args.at is started added.name added.taken added.steps (record { says = plain.says; needs = plain.needs }) plain.at

pub returns-clause-trees : goal.returns-clause-trees
returns-clause-trees c = λ qs r rs is tell.
    let next : Playing = record { lane = c.push.new.self; site = c.in_ok-site.site } in
    let stops = next_stops qs r rs c.args.self next c.args.at is (returns-clause-plays c qs r is) tell.alone in
    next_tells qs r rs c.args.at c.args.trees.now c.stop.new.self tell (c.in_ok-stop.ensures (deeds_of (r ∷ rs)) (Starts r.site ∷ deeds_of (r ∷ rs)) qs stops tell.sees)
