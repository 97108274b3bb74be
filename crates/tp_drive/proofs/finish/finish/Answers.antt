use Rattle.std.proofs.Common.{◌≡◌, ◌||◌, ◌<◌, true, None, drop, length, get_or, is_some, ap, sym, ◌∙◌, subst, arith}
use Rattle.std.specs.List.{All}
use Rattle.std.proofs.lemmas.List.{get_or-map, length-map}
use Rattle.tp_model.specs.NodeRun.{node_run}
use Rattle.tp_model.specs.Lanes.{IsInterleaving, outputs_in}
use Rattle.tp_journal.specs.Log.{most_bytes, place_behind}
use Rattle.tp_journal.specs.Records.{bodies_of, placed}
use Rattle.tp_drive.specs.Begun.{booted}
use Rattle.tp_drive.specs.Drives.{IsCause}
use Rattle.tp_drive.specs.Endings.{IsLeastStop}
use Rattle.tp_drive.proofs.Causes.{cause_stops, closed_part, driven, kept_many, kept_places, kept_records_are, lane_answers}
use Rattle.tp_drive.proofs.Merging.{placed_rise}
use Rattle.tp_drive.proofs.Runs.{run_length}
use Rattle.tp_drive.proofs.finish.finish.Goals as goal

-- where a lane stopped for another cause than memory, the log shows why
pub fault_of-requires : goal.fault_of-requires
fault_of-requires g c = λ event is.
    subst (λ s. (is_some s || is_some c.args.unfit) ≡ true) (sym c.shut.ensures.is) (c.requires.cause event (subst (λ l. IsLeastStop l event) c.as_slice.ensures.value is))

-- lanes stopped, for the cause that the closed log shows
pub returns-in-Some-clause-stops : goal.returns-in-Some-clause-stops
returns-in-Some-clause-stops g c =
    let o = g.L.Begun.opening in
    let j = c.args.journal in
    let stops = c.args.left.stops.items in
    let begun = c.requires.begun ∙ ap (λ w. placed w (booted o)) (sym c.requires.wide) in
    let part = closed_part o c.args.count c.args.events.now _ c.args.left.queues.items stops c.requires.run j.wide j.list g.L.Stood.stood _ begun c.requires.list c.requires.woven in
    let cause = subst (λ l. IsCause l j.shut c.args.unfit c.in-Some.fault) c.as_slice.ensures.value (subst (λ s. IsCause c.as_slice.result.now s c.args.unfit c.in-Some.fault) c.shut.ensures.is c.in-Some.ensures.some) in
    cause_stops o c.args.count c.args.events.now stops g.L.Stood.faults j (g.D.Disk.fault_count j.disk) part c.args.unfit c.in-Some.fault c.requires.shut c.requires.unfit cause

-- memory ran out when the receipts were merged
pub returns-in_default-merge-clause-stops : goal.returns-in_default-merge-clause-stops
returns-in_default-merge-clause-stops g c =
    let o = g.L.Begun.opening in
    let j = c.args.journal in
    let stops = c.args.left.stops.items in
    let begun = c.requires.begun ∙ ap (λ w. placed w (booted o)) (sym c.requires.wide) in
    (stops, closed_part o c.args.count c.args.events.now _ c.args.left.queues.items stops c.requires.run j.wide j.list g.L.Stood.stood _ begun c.requires.list c.requires.woven)

-- no lane stopped, so each put out what one thread does for its events
pub by_event-requires : goal.by_event-requires
by_event-requires g c =
    let o = g.L.Begun.opening in
    let outs = c.as_mut_slice-2.result.now in
    let same = c.as_mut_slice-2.ensures.value in
    let run = c.requires.run in
    let going = subst (All (λ s. s ≡ None)) c.as_slice.ensures.value c.in_default.ensures.none in
    let counted : length outs ≡ c.args.count = ap length same ∙ sym (length-map c.args.left.outs.items (λ o. o.items)) ∙ run.outs_counted in (
      omega (arith, counted, c.requires.some),
      (
        run_length o c.args.events.now,
        λ i d h.
            let here : i < length c.args.left.outs.items = omega (arith, ap length same, h) in
            ap (λ xs. (get_or xs i d).items) same
            ∙ sym (get_or-map (λ o. o.items) c.args.left.outs.items i d d.items here)
            ∙ lane_answers o c.args.count c.args.events.now _ _ c.args.left.stops.items run going i d.items (omega (arith, counted, h))
            ∙ ap (λ n. outputs_in i n c.args.events.now (node_run o c.args.events.now).outputs) (sym counted),
      ),
    )

-- all of it together
pub returns-clause-done : goal.returns-clause-done
returns-clause-done g c =
    let o = g.L.Begun.opening in
    let j = c.args.journal in
    let stood = g.L.Stood.stood in
    let receipts = c.in-Ok.receipts in
    let whole = drop (length stood) (placed j.wide j.list) in
    let begun = c.requires.begun ∙ ap (λ w. placed w (booted o)) (sym c.requires.wide) in
    let same : receipts ≡ whole = c.in-Ok.ensures whole (placed_rise (length stood) j.wide j.list) (subst (IsInterleaving whole) (sym c.as_mut_slice.ensures.value) c.requires.woven) in
    let places = kept_places stood j.wide o j.list _ receipts begun c.requires.list same in
    let woven = subst (λ l. IsInterleaving l c.args.left.queues.items) (sym same) c.requires.woven in
    let going = subst (All (λ s. s ≡ None)) c.as_slice.ensures.value c.in_default.ensures.none in
    let many = kept_many stood (placed j.wide j.list) receipts _ c.requires.list same in
    let fits : 0 < length receipts → place_behind (bodies_of j.wide j.list) < most_bytes = λ some. omega (arith, c.requires.room (omega (arith, some, many)), c.shut.ensures.started.place) in
    driven o c.args.count c.args.events.now _ c.args.left.queues.items c.args.left.stops.items c.requires.run going j.wide j.list receipts c.in-Ok-by_event.outs c.in-Ok-by_event.ensures (kept_records_are j.wide o j.list receipts places) places woven fits

-- memory ran out when the outputs were put in order
pub returns-in_default-by_event-clause-stops : goal.returns-in_default-by_event-clause-stops
returns-in_default-by_event-clause-stops g c =
    let o = g.L.Begun.opening in
    let j = c.args.journal in
    let stops = c.args.left.stops.items in
    let begun = c.requires.begun ∙ ap (λ w. placed w (booted o)) (sym c.requires.wide) in
    (stops, closed_part o c.args.count c.args.events.now _ c.args.left.queues.items stops c.requires.run j.wide j.list g.L.Stood.stood _ begun c.requires.list c.requires.woven)
