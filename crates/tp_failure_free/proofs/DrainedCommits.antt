-- A drained tree without failure whose users all asked for commitment, or left, has committed at every node that stays.
use Rattle.std.proofs.Common.{◌≡◌, inl, inr, Bool, true, false, refl, arith, List}
use Rattle.tp_model.specs.Outcomes.{has_left}
use Rattle.tp_model.specs.Happenings.{Happening, run}
use Rattle.tp_model.specs.Promises.{DrainedCommits}
use Rattle.tp_failure_free.specs.DrainedTrees.{SettledTreeCommits, SettledTreeCloses, SettledInItsTime, SettledCloses}
use Rattle.tp_reports.proofs.ReportFree.{clear_is_committed, commit_closes}
use Rattle.tp_failure_free.proofs.DrainedTaken.{frames_drain, no_failure_in_tree}
use Rattle.tp_failure_free.proofs.DrainedUp.{IsDone}
use Rattle.tp_failure_free.proofs.DrainedDown.{all_ordered}
use Rattle.tp_failure_free.proofs.DrainedDone.{all_done}

pub tree_commits : (es : List Happening) → SettledTreeCommits (run es)
tree_commits es t settled y of stay = record {
  logged = elim (all_ordered es t d y of) [ inl l ↦ absurd (grind (arith, l, stay)) | inr c ↦ c ];
  complete = all_done es t d y of (unleft (has_left y.origin t y.history) refl);
}
  where
    d : IsDone es t
    d = record { drained = settled.drained; calm = settled.unfailed; asked = settled.asked }

    unleft : (v : Bool) → has_left y.origin t y.history ≡ v → has_left y.origin t y.history ≡ false
    unleft false i = i
    unleft true i = absurd (grind (arith, stay, i))

-- and its closing line says so
pub tree_closes : (es : List Happening) → SettledTreeCloses (run es)
tree_closes es t settled = commit_closes es t (λ y of stay. clear_is_committed es t y of (tree_commits es t settled y of stay).complete)

-- ---- where its nodes never failed, and every frame of theirs was taken

pub settled_in_time : (es : List Happening) → SettledInItsTime (run es)
settled_in_time es t settled = record {
  started = settled.started;
  drained = frames_drain es t settled.drained settled.unfailed;
  unfailed = no_failure_in_tree es t settled.unfailed;
  asked = settled.asked;
}

pub drained_commits : (es : List Happening) → DrainedCommits (run es)
drained_commits es t there drained calm asked = tree_commits es t (settled_in_time es t (record { started = there; drained = drained; unfailed = calm; asked = asked }))

pub settled_closes : (es : List Happening) → SettledCloses (run es)
settled_closes es t settled = tree_closes es t (settled_in_time es t settled)
