-- How the listing of a store's keys ends, by what its call answers.
use Rattle.std.proofs.Common.{inl, inr, ℕ, Option, List, Ok, Err, refl}
use Rattle.tp_outside.specs.Story.{Story}
use Rattle.tp_streams.specs.declared.stop.Stop.{Stop}
use Rattle.tp_bound.specs.Bounds.{Standing, Opens}
use Rattle.tp_keys.specs.Printing.{Prints, PrintsSome, RefusesKeys}
use Rattle.tp_replay.specs.declared.status.Status.{Status}
use Rattle.tp_replay.specs.Status.{status_of}
use Rattle.tp_commands.specs.Keys.{OpensStore, ListsPart, StopsKeys, ListsKeys}

module _ (D : Type 0) (told story : Option Story) (written output : Option (List ℕ)) where
  abbrev opens_store : (b : Standing D) → Opens told story 0 b → OpensStore told story
  opens_store b o = record { bodies = b.bodies; gate = b.gate; starts = o.starts; store = b.store; stands = o.stands }

  pub lists_all : Prints D told story written output → ListsKeys Status.Ok told story written output
  lists_all p = record { answer = Ok tt; ends = refl; lists = record { opens = opens_store p.0 p.1; whole = p.2 }; stopped = tt }

  lists_part : PrintsSome D told story written output → ListsPart told story written output
  lists_part p = record { opens = opens_store p.0 p.1; part = p.2 }

  module _ (disk left sink now : ℕ) where
    stops_keys : (stop : Stop) → RefusesKeys D told story disk left written output sink now stop → StopsKeys told story written output stop
    stops_keys (Stop.BadInput at why) h = h
    stops_keys (Stop.Limit what at) h = h
    stops_keys (Stop.Foreign at) h = h
    stops_keys (Stop.ReadFault n) h = h
    stops_keys (Stop.WriteFault n) h = lists_part h.0
    stops_keys (Stop.DiskFault n) h = (h.0.0, h.1)
    stops_keys Stop.NoMemory (inl h) = inl h
    stops_keys Stop.NoMemory (inr h) = inr (lists_part h)

    pub lists_stopped : (stop : Stop) → RefusesKeys D told story disk left written output sink now stop → ListsKeys (status_of stop) told story written output
    lists_stopped stop h = record { answer = Err stop; ends = refl; lists = tt; stopped = stops_keys stop h }
