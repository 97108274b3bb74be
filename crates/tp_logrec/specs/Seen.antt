-- What the code has read of a list, without where it lies.
use Rattle.std.specs.Option.{option_copied}
use Rattle.tp_logrec.specs.declared.rules.Seen.{Seen}
use Rattle.tp_logrec.specs.Order.{Before}

abbrev pub before_of : Seen → Before
before_of s = record { begun = s.begun; boot = s.boot; free = s.free; last = option_copied s.last; ready = option_copied s.ready }
