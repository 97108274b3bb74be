-- Logs whose records have texts.
-- Statements alone; nothing is proved here.
use Rattle.std.specs.Prelude.{List, [], ◌∷◌}
use Rattle.tp_names.specs.Grammar.{HasText}
use Rattle.tp_logrec.specs.declared.record.LogRec.{LogRec}
use Rattle.tp_logrec.specs.declared.record.LogVersion.{LogVersion}
use Rattle.tp_logrec.specs.RecordReading.{record_grammar}

-- each is read back from its bytes in a log of that version
abbrev pub HaveTexts : LogVersion → List LogRec → Type 0
HaveTexts ver [] = Unit {0}
HaveTexts ver (r ∷ rs) = HasText (record_grammar ver) r × HaveTexts ver rs
