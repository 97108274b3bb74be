use Rattle.std.proofs.Common.{ℕ, List, refl, subst, Err}
use Rattle.tp_journal.specs.declared.faults.ForceFault.TheVariants as force
use Rattle.tp_site.specs.Site.{IsStarted, IsUnstarted, Starts}
use Rattle.tp_site.specs.declared.faults.StartFault.{StartFault}
use Rattle.tp_world_sites.specs.Slots.{standing}
use Rattle.tp_world_sites.proofs.Reopened.{in_order, boots_left, not_shut}
use Rattle.tp_world_sites.proofs.site_slot.SiteSlot.started_on.Goals as goal

pub returns-in-Ok : goal.returns-in-Ok
returns-in-Ok c = λ unshut may. subst (λ (n : List ℕ). IsStarted standing c.args.journal n c.in-Ok.site) c.name.ensures (c.in-Ok.ensures {u = tt}).starts

pub returns-in-Err-default-Full : goal.returns-in-Err-default-Full
returns-in-Err-default-Full c = λ unshut may.
    let j = c.args.journal in
    let full : IsUnstarted standing j c.name.result (force.Full c.in-Err-default-Full.field-0-1-0) c.in-Err-default-Full._journal =
    subst (λ (f : StartFault). Starts standing j c.name.result (Err (c.in-Err-default-Full._journal, f))) c.in-Err-default-Full.field-0-1-is c.in-Err-default-Full.ensures.starts in
    (refl, c.in-Err-default-Full.field-0-1-0, c.in-Err-default-Full._journal, subst (λ (n : List ℕ). IsUnstarted standing j n (force.Full c.in-Err-default-Full.field-0-1-0) c.in-Err-default-Full._journal) c.name.ensures full)

pub returns-in-Err-default-Foreign : goal.returns-in-Err-default-Foreign
returns-in-Err-default-Foreign c = λ unshut may.
    let j = c.args.journal in
    in_order j c.name.result c.in-Err-default-Foreign._journal c.in-Err-default-Foreign.field-0-1-0 j.list refl may.order
    (subst (λ (f : StartFault). Starts standing j c.name.result (Err (c.in-Err-default-Foreign._journal, f))) c.in-Err-default-Foreign.field-0-1-is c.in-Err-default-Foreign.ensures.starts)

pub returns-in-Err-default-BootsSpent : goal.returns-in-Err-default-BootsSpent
returns-in-Err-default-BootsSpent c = λ unshut may.
    let j = c.args.journal in
    boots_left j c.name.result c.in-Err-default-BootsSpent._journal j.list refl may.boot
    (subst (λ (f : StartFault). Starts standing j c.name.result (Err (c.in-Err-default-BootsSpent._journal, f))) c.in-Err-default-BootsSpent.field-0-1-is c.in-Err-default-BootsSpent.ensures.starts)

pub returns-in-Err-default-Shut : goal.returns-in-Err-default-Shut
returns-in-Err-default-Shut c = λ unshut may.
    let j = c.args.journal in
    not_shut j c.name.result c.in-Err-default-Shut._journal c.in-Err-default-Shut.field-0-1-0 unshut
    (subst (λ (f : StartFault). Starts standing j c.name.result (Err (c.in-Err-default-Shut._journal, f))) c.in-Err-default-Shut.field-0-1-is c.in-Err-default-Shut.ensures.starts)
