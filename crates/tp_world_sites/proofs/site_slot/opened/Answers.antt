use Rattle.std.proofs.Common.{rules, refl, subst, Some}
use Rattle.tp_outside.specs.MemDisk.{recorded}
use Rattle.tp_journal.specs.Records.{record_body}
use Rattle.tp_journal.specs.Start.{RefusesStart}
use Rattle.tp_journal.specs.declared.faults.StartFault.{StartFault}
use Rattle.tp_world_sites.proofs.NotForeign.{not_foreign}
use Rattle.tp_world_sites.proofs.Reopened.{opened}
use Rattle.tp_world_sites.proofs.site_slot.opened.Goals as goal

pub returns-in-Ok : goal.returns-in-Ok
returns-in-Ok c = λ rs stands texts.
    opened _ rs c.in-Ok.journal (recorded c.args.disk).story refl (search rules) stands texts (c.in-Ok.ensures {u = tt}).started (c.in-Ok.ensures {u = tt}).texts

pub returns-in-Err-default-Foreign : goal.returns-in-Err-default-Foreign
returns-in-Err-default-Foreign c = λ rs stands texts.
    let refused = subst (λ (f : StartFault). RefusesStart record_body (Some (recorded c.args.disk).story) (Some (recorded c.in-Err-default-Foreign._disk).story) (recorded c.args.disk).faults (recorded c.in-Err-default-Foreign._disk).faults f) c.in-Err-default-Foreign.field-0-1-is c.in-Err-default-Foreign.ensures.refused in
    not_foreign _ rs c.in-Err-default-Foreign.field-0-1-0 (search rules) stands texts (refused.1 (recorded c.args.disk).story refl)
