use Rattle.tp_names.proofs.Texts.{is_grammar}
use Rattle.tp_logrec.specs.RecordReading.{record_grammar}
use Rattle.tp_logrec.proofs.RecordScans.{record_scan}
use Rattle.tp_logrec.proofs.RecordWritten.{record_written}
use Rattle.tp_logrec.proofs.laws.records_have_texts.Goals as goal

pub returns : goal.returns
returns c = λ ver. is_grammar (record_grammar ver) (record_scan ver).steady (record_written ver)
