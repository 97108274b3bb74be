-- Every run that the deeds of a recording are closes with the lines that are told of it.
use Rattle.std.proofs.Common.{◌≡◌, ap, sym, ◌∙◌, List}
use Rattle.tp_model.specs.World.{Node}
use Rattle.tp_model.specs.Happenings.{run}
use Rattle.tp_model.specs.Trees.{closing_from}
use Rattle.tp_closing.specs.Closing.{deeds_of, nodes_told, trees_begun, ClosesEveryRun}
use Rattle.tp_closing.proofs.Woven.{nodes_alike}
use Rattle.tp_closing.proofs.Listed.{each_listed}

pub closes_every_run : ClosesEveryRun
closes_every_run t ds es arr apart woven is =
    let same : (run es).nodes ≡ nodes_told t = is.nodes ∙ nodes_alike t.places ds t.records apart woven in
    record {
      trees = trees_begun (nodes_told t);
      lines_are = ap (λ (ns : List Node). closing_from ns (trees_begun (nodes_told t))) (sym same);
      each = λ u. each_listed t.places (deeds_of t.records) es u arr same;
    }
