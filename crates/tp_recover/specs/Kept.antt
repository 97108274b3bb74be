-- The calls on a kept transaction: what one event asks for by itself.
use Rattle.std.specs.Prelude.{Bool, true, false, Some, None, List}
use Rattle.tp_names.specs.declared.identifiers.Addr.{Addr}
use Rattle.tp_names.specs.declared.identifiers.BranchId.{BranchId}
use Rattle.tp_names.specs.declared.children.Child.{Child}
use Rattle.tp_names.specs.declared.outcome.Report.{Report}
use Rattle.tp_model.specs.declared.transaction.Step.{Step}
use Rattle.tp_model.specs.declared.recovery.Kept.{Kept}
use Rattle.tp_model.specs.Recovery.{find_owed, rec_of_done, forget_to}

-- the branch is owed
abbrev pub is_owed : List Child → BranchId → Bool
is_owed cs b = elim (find_owed cs b) [ None ↦ false | Some c ↦ true ]

-- a branch says that it is done
abbrev pub done_step : Kept → Addr → BranchId → Report → Step
done_step k from b r = record {
  rec = elim (find_owed k.owed b) [ None ↦ None | Some c ↦ Some (rec_of_done k b r) ];
  outs = forget_to from k.key b r;
}
