use Rattle.tp_names.proofs.Names.{padded_is_name}
use Rattle.tp_names.proofs.site_name.SiteName.new.Goals as goal

pub invariant_of-result : goal.invariant_of-result
invariant_of-result c = rw c.copy_from_slice.ensures.after (padded_is_name c.args.bytes.now (cc) c.if-bytes-gt-MAX_LEN.false (cc))
