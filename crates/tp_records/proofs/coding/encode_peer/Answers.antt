use Rattle.tp_records.proofs.Short.{peer_short}
use Rattle.tp_records.proofs.coding.encode_peer.Goals as goal

pub write_peer_record-written-requires : goal.write_peer_record-written-requires
write_peer_record-written-requires c = peer_short c.args.v.now c.requires
