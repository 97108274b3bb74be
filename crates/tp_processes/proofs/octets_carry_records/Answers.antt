use Rattle.tp_processes.proofs.Octets.{said_is_read_back, octets_carry}
use Rattle.tp_processes.proofs.octets_carry_records.Goals as goal

pub returns : goal.returns
returns c = record { reads = said_is_read_back; carried = octets_carry }
