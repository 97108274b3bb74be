use Rattle.std.proofs.Common.{◌≡◌, None, length, take, sym, ap, ◌∙◌, subst, arith}
use Rattle.tp_journal.specs.Log.{place_behind}
use Rattle.tp_journal.specs.Gathering.{bodies_settled}
use Rattle.tp_journal.specs.Records.{placed, bodies_of}
use Rattle.tp_journal.specs.Started.{IsKept}
use Rattle.tp_shared_log.specs.Locks.{Extends, ShutRose}
use Rattle.tp_shared_log.proofs.Fronts.{take_whole}
use Rattle.tp_shared_log.proofs.Keeping.{extends_none}
use Rattle.tp_shared_log.proofs.Placed.{length-placed}
use Rattle.tp_shared_log.proofs.Telling.{tells_at_first}
use Rattle.tp_shared_log.proofs.locked.Locked.new.Goals as goal

pub invariant_of-locked : goal.invariant_of-locked
invariant_of-locked g c =
    let j = c.args.journal.journal in
    let told = g.D.Disk.told j.disk in
    let gate = place_behind (bodies_settled c.args.journal) in
    let stood = g.L.Stood.stood in
    let many : length stood ≡ length j.list = ap length c.requires.stood.0 ∙ length-placed j.wide j.list in
    let all : take c.args.journal.settled j.list ≡ j.list = take_whole c.args.journal.settled j.list c.requires.settled in
    let rests : IsKept told gate (bodies_of j.wide j.list) None =
    subst (λ l. IsKept told gate (bodies_of j.wide l) None) all (subst (λ o. IsKept told gate (bodies_settled c.args.journal) o) (c.shut-shut.ensures.is ∙ c.requires.open) c.shut-shut.ensures.kept) in
    record {
      extends = subst (λ n. Extends stood n (placed j.wide j.list)) (sym c.open-forced.ensures.total) (extends_none stood (placed j.wide j.list) c.requires.stood.0);
      settled = omega (arith, many, c.requires.settled);
      same_version = sym c.requires.stood.2;
      shut = subst (λ o. ShutRose g.L.Stood.faults o (g.D.Disk.fault_count j.disk)) (sym c.requires.open) (omega (arith, c.requires.stood.1));
      images = tells_at_first told g.L.Stood.story (length stood) j.wide j.list gate c.requires.stood.4 (omega (arith, many)) rests;
      within = omega (arith, c.add.ensures.total, c.open-stakes.ensures.total, c.requires.stood.3);
      spent = λ less. absurd (omega (arith, less, c.add.ensures.total, c.open-stakes.ensures.total, c.requires.stood.3));
      no_room = tt;
      fits = λ some. absurd (omega (arith, some, c.open-forced.ensures.total));
    }
