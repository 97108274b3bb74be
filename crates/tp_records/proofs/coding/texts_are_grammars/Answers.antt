use Rattle.tp_names.proofs.Texts.{is_grammar}
use Rattle.tp_records.specs.BodyReading.{body_grammar, peer_grammar}
use Rattle.tp_records.proofs.Scans.{peer_scan}
use Rattle.tp_records.proofs.Whole.{body_scan}
use Rattle.tp_records.proofs.Spelled.{peer_written, body_written}
use Rattle.tp_records.proofs.coding.texts_are_grammars.Goals as goal

pub returns : goal.returns
returns c = record {
  bodies = is_grammar body_grammar body_scan.steady body_written;
  peers = is_grammar peer_grammar peer_scan.steady peer_written;
}
