use Rattle.tp_history_state.proofs.links.Link.{links_law, peer_law}
use Rattle.tp_history_state.proofs.links_are_known.Goals as goal

pub returns : goal.returns
returns c = record { link = links_law; peer = peer_law }
