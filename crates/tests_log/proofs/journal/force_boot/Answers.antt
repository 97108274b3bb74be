use Rattle.std.proofs.Common.{◌<◌, ◌^◌, rules}
use Rattle.tests_log.proofs.Boots.{boot_has_text}
use Rattle.tests_log.proofs.journal.force_boot.Goals as goal

pub force-requires : goal.force-requires
force-requires g c =
    let small : c.args.boot < 2 ^ 64 = search rules in
    boot_has_text c.args.journal.now.wide c.args.boot small
