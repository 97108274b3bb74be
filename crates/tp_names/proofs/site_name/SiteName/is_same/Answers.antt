use Rattle.tp_names.proofs.Padded.{names_compared}
use Rattle.tp_names.proofs.site_name.SiteName.is_same.Goals as goal

pub returns : goal.returns
returns c = rw (c.from_le_bytes.ensures, c.from_le_bytes-2.ensures, ← c.self.view_is, ← c.other.view_is) (names_compared c.self.inside c.other.inside c.self.invariant c.other.invariant)
