-- In every run, behind a report of a commitment stands a node at or below that decided to roll back, or gave up a branch.
use Rattle.std.proofs.Common.{◌≡◌, inl, inr, true, refl, List, [], ◌∷◌, ◌⊎◌}
use Rattle.tp_names.specs.declared.outcome.Report.{Report}
use Rattle.tp_records.specs.declared.indication.Indication.{Indication}
use Rattle.tp_model.specs.Parts.{Out}
use Rattle.tp_model.specs.Happenings.{Happening, run}
use Rattle.tp_report_causes.specs.Causes.{tells_committed}
use Rattle.tp_report_causes.specs.Alarms.{tells_reported, Begins, NoFalseAlarm}
use Rattle.tp_report_causes.proofs.Heard.{told_split}
use Rattle.tp_report_causes.proofs.Commitments.{commitments_apart}

report_split : (outs : List Out) → tells_reported outs ≡ true → (tells_committed Report.Mix outs ≡ true) ⊎ (tells_committed Report.Hazard outs ≡ true)
report_split [] h = absurd (cc (h))
report_split (Out.Tell (Indication.CommitComplete Report.None) ∷ outs) h = report_split outs h
report_split (Out.Tell (Indication.CommitComplete Report.Hazard) ∷ outs) h = inr refl
report_split (Out.Tell (Indication.CommitComplete Report.Mix) ∷ outs) h = inl refl
report_split (Out.Tell i ∷ outs) h = report_split outs h
report_split (Out.Send a r ∷ outs) h = report_split outs h

pub no_false_alarm : (es : List Happening) → NoFalseAlarm (run es)
no_false_alarm es t x here told = elim (told_split tells_reported (tells_committed Report.Mix) (tells_committed Report.Hazard) report_split x.origin t x.history told) [
  | inl i ↦ (let k = (commitments_apart es).mixed t x here i in record { node = k.node; below = k.below; begins = Begins.decided k.is })
  | inr i ↦ (let k = (commitments_apart es).hazardous t x here i in record { node = k.node; below = k.below; begins = Begins.gave_up k.is })
]
