-- What all lanes did, from what each did.
use Rattle.std.proofs.Common.{◌≡◌, ℕ, zero, suc, ◌<◌, ◌≤◌, ◌++◌, Bool, true, List, [], ◌∷◌, Option, Some, None, map, take, get_or, length, is_some, refl, ap, sym, ◌∙◌, subst, arith}
use Rattle.std.specs.List.{All, sum_by}
use Rattle.std.proofs.lemmas.List.{append_assoc, append_cancel_left, get_or-map, length-map, map-append}
use Rattle.std.proofs.lemmas.List.Sums.{sum_by-cons}
use Rattle.tp_logrec.specs.declared.record.LogRec.{LogRec}
use Rattle.tp_records.specs.declared.body.Event.{Event as Given}
use Rattle.tp_records.specs.declared.body.Output.{Output}
use Rattle.tp_model.specs.NodeRun.{Opening, boot_of, run_from}
use Rattle.tp_model.specs.Lanes.{lane}
use Rattle.tp_journal.specs.declared.receipts.Receipt.{Receipt}
use Rattle.tp_shared_log.specs.Shares.{Shared, stake_of}
use Rattle.tp_shared_log.specs.declared.spent.Spent.{Spent}
use Rattle.tp_site.specs.Resume.{is_in_lane}
use Rattle.tp_drive.specs.declared.stop.Cause.{Cause}
use Rattle.tp_drive.specs.declared.stop.Stop.{Stop}
use Rattle.tp_drive.specs.Begun.{recs, booted}
use Rattle.tp_drive.specs.Works.{Did, IsBacked, IsBackedBy, IsFresh, Worked, Working, HasOnePart}
use Rattle.tp_drive.specs.Endings.{IsLeastStop, IsLog, StoppedAt}
use Rattle.tp_drive.specs.Crews.{AreFresh, outs_of, receipts_of, stop_of, forced_by, stake_left}
use Rattle.tp_drive.specs.Runs.{AreRun, IsRun}

-- the receipts of a lane are the records of its events
did_records : (stood : List Receipt) (wide : Bool) (o : Opening) (mine : ℕ → Bool) (w : Working) (gs : List Given) → recs stood ≡ booted o → Did stood wide o mine w gs → recs w.site.keeper.receipts ≡ (run_from o [] gs).log
did_records stood wide o mine w gs begun d =
    append_cancel_left (booted o) (recs w.site.keeper.receipts) (run_from o [] gs).log
    (ap (λ (l : List LogRec). l ++ recs w.site.keeper.receipts) (sym begun)
    ∙ sym (map-append (λ (r : Receipt). r.rec) stood w.site.keeper.receipts)
    ∙ d.at.kept
    ∙ sym (append_assoc o.records (LogRec.Boot (boot_of o) ∷ []) (run_from o [] gs).log))

worked_run : (stood : List Receipt) (wide : Bool) (o : Opening) (lanes own : ℕ) (events : List Given) (w : Working) → recs stood ≡ booted o → Worked stood wide o lanes own events w
    → IsRun o lanes own events (outs_of w) (receipts_of w) (stop_of w)
worked_run stood wide o lanes own events w begun worked = record {
  forced = record {
    met = worked.met;
    within = worked.within;
    ends = worked.ends;
    records = did_records stood wide o (is_in_lane own lanes) w (lane (take worked.met events) own lanes) begun worked.did;
  };
  answers = worked.did.answers;
}

-- each lane did its own
pub are_run : (stood : List Receipt) (wide : Bool) (o : Opening) (lanes : ℕ) (events : List Given) (ws : List Working) → recs stood ≡ booted o → length ws ≡ lanes
    → ((i : ℕ) (d : Working) → i < lanes → Worked stood wide o lanes i events (get_or ws i d)) → AreRun o lanes events (map outs_of ws) (map receipts_of ws) (map stop_of ws)
are_run stood wide o lanes events ws begun counted worked = record {
  outs_counted = length-map ws outs_of ∙ counted;
  queues_counted = length-map ws receipts_of ∙ counted;
  stops_counted = length-map ws stop_of ∙ counted;
  each = λ i d q s h. each ws i d q s (omega (arith, h, counted)) (λ e. worked i e h);
}
  where
    each : (ws : List Working) (i : ℕ) (d : List (List Output)) (q : List Receipt) (s : Option Stop) → i < length ws → ((e : Working) → Worked stood wide o lanes i events (get_or ws i e))
        → IsRun o lanes i events (get_or (map outs_of ws) i d) (get_or (map receipts_of ws) i q) (get_or (map stop_of ws) i s)
    each [] i d q s h worked = absurd (omega arith)
    each (w ∷ ws) i d q s h worked =
        let run = worked_run stood wide o lanes i events (get_or (w ∷ ws) i w) begun (worked w) in
        let outs = get_or-map outs_of (w ∷ ws) i w d h in
        let queue = get_or-map receipts_of (w ∷ ws) i w q h in
        let stop = get_or-map stop_of (w ∷ ws) i w s h in
        subst (λ (x : List (List Output)). IsRun o lanes i events x (get_or (map receipts_of (w ∷ ws)) i q) (get_or (map stop_of (w ∷ ws)) i s)) (sym outs)
        (subst (λ (x : List Receipt). IsRun o lanes i events (outs_of (get_or (w ∷ ws) i w)) x (get_or (map stop_of (w ∷ ws)) i s)) (sym queue)
        (subst (λ (x : Option Stop). IsRun o lanes i events (outs_of (get_or (w ∷ ws) i w)) (receipts_of (get_or (w ∷ ws) i w)) x) (sym stop) run))

pub all_one_part : (stood : List Receipt) (wide : Bool) (o : Opening) (lanes : ℕ) (events : List Given) (ws : List Working) → length ws ≡ lanes
    → ((i : ℕ) (d : Working) → i < lanes → Worked stood wide o lanes i events (get_or ws i d)) → All HasOnePart ws
all_one_part stood wide o lanes events ws counted worked i d h = (worked i d (omega (arith, h, counted))).one_part

-- ---- lanes that have done nothing

none_forced : (ws : List Working) → ((i : ℕ) (d : Working) → i < length ws → forced_by (get_or ws i d) ≡ 0) → sum_by forced_by ws ≡ 0
none_forced [] none = refl
none_forced (w ∷ ws) none = omega (arith, none 0 w (omega arith), none_forced ws (λ i d h. none (suc i) d (omega (arith, h))), sum_by-cons forced_by w ws)

pub fresh_idle : (stood : List Receipt) (wide : Bool) (o : Opening) (lanes : ℕ) (ws : List Working) → recs stood ≡ booted o → AreFresh stood wide o lanes ws → sum_by forced_by ws ≡ 0
fresh_idle stood wide o lanes ws begun fresh = none_forced ws (λ i d h. one (get_or ws i d) i (fresh i d h))
  where
    one : (w : Working) (i : ℕ) → IsFresh stood wide o lanes i w → forced_by w ≡ 0
    one w i f = sym (length-map w.site.keeper.receipts (λ (r : Receipt). r.rec)) ∙ ap length (did_records stood wide o (is_in_lane i lanes) w [] begun f.did)

-- ---- stakes

-- a lane that stopped for another cause than memory has spent its stake
spent_stake : (o : Option Stop) (s : Shared) (event : ℕ) → IsBacked o s → StoppedAt o event → stake_of s.spent ≡ 0
spent_stake None s event b at = absurd at
spent_stake (Some stop) s event b at = by stop.cause b at.0
  where
    none : (o : Option Spent) → is_some o ≡ true → stake_of o ≡ 0
    none None h = absurd (cc h)
    none (Some x) h = refl

    by : (c : Cause) → IsBackedBy c s → IsLog c → stake_of s.spent ≡ 0
    by Cause.Memory b h = absurd h
    by Cause.Log b h = none s.spent b

stake_small : (o : Option Spent) → stake_of o ≤ 1
stake_small None = omega arith
stake_small (Some s) = omega arith

stakes_small : (ws : List Working) → sum_by stake_left ws ≤ length ws
stakes_small [] = omega arith
stakes_small (w ∷ ws) = omega (arith, stakes_small ws, stake_small w.site.keeper.spent, sum_by-cons stake_left w ws)

one_spent : (ws : List Working) (i : ℕ) (d : Working) → i < length ws → stake_left (get_or ws i d) ≡ 0 → sum_by stake_left ws < length ws
one_spent [] i d h e = absurd (omega arith)
one_spent (w ∷ ws) zero d h e = omega (arith, stakes_small ws, e, sum_by-cons stake_left w ws)
one_spent (w ∷ ws) (suc i) d h e = omega (arith, one_spent ws i d (omega arith) e, stake_small w.site.keeper.spent, sum_by-cons stake_left w ws)

pub some_spent : (ws : List Working) (event : ℕ) → ((i : ℕ) (d : Working) → i < length ws → IsBacked (get_or ws i d).stop (get_or ws i d).site.keeper) → IsLeastStop (map stop_of ws) event → sum_by stake_left ws < length ws
some_spent [] event backed is = absurd (omega (arith, is.within))
some_spent (w ∷ ws) event backed is =
    let within : is.lane < length (w ∷ ws) = omega (arith, is.within, length-map (w ∷ ws) stop_of) in
    let lane = get_or (w ∷ ws) is.lane w in
    let stopped : StoppedAt lane.stop event = subst (λ (s : Option Stop). StoppedAt s event) (get_or-map stop_of (w ∷ ws) is.lane w None within) (is.stopped None) in
    one_spent (w ∷ ws) is.lane w within (spent_stake lane.stop lane.site.keeper event (backed is.lane w within) stopped)
