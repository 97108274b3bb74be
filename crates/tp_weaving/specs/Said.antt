-- The letters that were said so far.
use Rattle.std.specs.Prelude.{Bool}
use Rattle.indexmap.specs.IndexSet.{contains}
use Rattle.tp_weaving.specs.declared.letter.Letter.{Letter}
use Rattle.tp_weaving.specs.declared.said.Said.{Said}
use Rattle.tp_weaving.specs.Letters.{is_letter}

abbrev pub is_said : Said → Letter → Bool
is_said s l = contains is_letter s.letters l
