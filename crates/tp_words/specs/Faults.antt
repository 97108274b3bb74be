-- What a refusal of clap is told as: want of memory as itself, and everything else as the one fault of words.
use Rattle.clap.specs.declared.error.kind.ErrorKind.{ErrorKind}
use Rattle.clap.specs.declared.error.kind.ErrorKind.TheVariants as kind
use Rattle.tp_words.specs.declared.fault.WordsFault.{WordsFault}

abbrev pub fault_by : ErrorKind → WordsFault
fault_by kind.OutOfMemory = WordsFault.NoMemory
fault_by _ = WordsFault.Usage
