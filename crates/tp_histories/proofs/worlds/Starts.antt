-- In every run, every node's history is one that it can have: its log was empty when it was declared.
use Rattle.std.proofs.Common.{◌≡◌, true, refl, List, []}
use Rattle.tp_model.specs.Parts.{Origin}
use Rattle.tp_model.specs.Legal.{is_start}
use Rattle.tp_model.specs.World.{number_of}
use Rattle.tp_model.specs.Happenings.{Happening, run}
use Rattle.tp_model.specs.Promises.{AllLegal}
use Rattle.tp_histories.proofs.worlds.Good.{good_run}

fresh_start : (o : Origin) → o.start.records ≡ [] → is_start o ≡ true
fresh_start o h = rw (h, is_start) (refl)

pub all_legal : (es : List Happening) → AllLegal (run es)
all_legal es n here =
    let good = good_run es in
    record { start = fresh_start n.origin (good.fresh (number_of n) n here); grown = good.legal (number_of n) n here }
