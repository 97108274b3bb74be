use Rattle.std.proofs.Common.{inl, Some, refl, subst}
use Rattle.tp_outside.specs.FuseDisk.{fused, fault_count_of}
use Rattle.tp_journal.specs.Records.{record_body}
use Rattle.tp_journal.specs.Start.{RefusesStart}
use Rattle.tp_journal.specs.declared.faults.StartFault.{StartFault}
use Rattle.tp_world_sites.proofs.LeftBy.{fuse_started}
use Rattle.tp_world_sites.proofs.NotForeign.{not_foreign}
use Rattle.tp_world_sites.proofs.left.start_fused.Goals as goal

pub returns-in-Ok : goal.returns-in-Ok
returns-in-Ok c = λ rs stands small texts. fuse_started c.args.disk rs c.in-Ok.journal stands small texts (c.in-Ok.ensures {u = tt}).started (c.in-Ok.ensures {u = tt}).texts (c.in-Ok.ensures {u = tt}).passes

pub returns-in-Err-default-Foreign : goal.returns-in-Err-default-Foreign
returns-in-Err-default-Foreign c = λ rs stands small texts.
    let new = c.in-Err-default-Foreign._disk in
    let refused = subst (λ (f : StartFault). RefusesStart record_body (Some (fused c.args.disk).disk.story) (Some (fused new).disk.story) (fault_count_of (fused c.args.disk)) (fault_count_of (fused new)) f) c.in-Err-default-Foreign.field-0-1-is c.in-Err-default-Foreign.ensures.refused in
    not_foreign _ rs c.in-Err-default-Foreign.field-0-1-0 small (inl stands) texts (refused.1 (fused c.args.disk).disk.story refl)
