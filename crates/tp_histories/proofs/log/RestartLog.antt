-- A crash, and a start over the records with the same boot number, leave the same.
use Rattle.std.proofs.Common.{◌≡◌, ℕ, suc, Bool, false, refl, ap, sym, ◌∙◌, Option, Some, None, List, [], ◌∷◌, reverse}
use Rattle.tp_names.specs.declared.identifiers.Addr.{Addr}
use Rattle.tp_logrec.specs.declared.record.LogVersion.{LogVersion}
use Rattle.tp_model.specs.declared.recovery.Kept.{Kept}
use Rattle.tp_model.specs.Parts.{Origin, Entry, Current, Digest}
use Rattle.tp_model.specs.Recovery.{not_forgotten}
use Rattle.tp_model.specs.Events.{recovered_current, current_from, kept_from, is_known, after_crash, started}
use Rattle.tp_model.specs.History.{digest, records, again, crashed}
use Rattle.tp_model.specs.World.{Node, number_of}
use Rattle.tp_model.specs.Happenings.{Happening, run}
use Rattle.tp_model.specs.Promises.{IsIn}
use Rattle.tp_histories.specs.Restart.{are_earlier, IsFounded}
use Rattle.tp_histories.proofs.log.KeptLog.{kept_law}
use Rattle.tp_histories.proofs.worlds.Good.{good_run}
use Rattle.tp_histories.proofs.worlds.Starts.{all_legal}
use Rattle.tp_histories.proofs.log.SoundLog.{sound_law}
use Rattle.tp_histories.proofs.log.StartLog.{IsSoundStart, sound_start}

known_noted : (o : Option Current) (ks : List Kept) → is_known o (not_forgotten ks) ≡ is_known o ks
known_noted None [] = refl
known_noted None (k ∷ ks) = refl
known_noted (Some c) ks = refl

started_as : (boot : ℕ) (v w : LogVersion) (known seen : Bool) (c u : Option Current) (ks xs : List Kept) → v ≡ w → known ≡ seen → c ≡ u → ks ≡ xs
    → ◌≡◌ {A = Digest} (record { declared = false; known = known; superior = None; arcs = []; current = c; kept = ks; drawn = 0; boot = boot; version = v }) (record { declared = false; known = seen; superior = None; arcs = []; current = u; kept = xs; drawn = 0; boot = boot; version = w })
started_as boot v w known seen c u ks xs h i j k = rw (h, i, j, k) refl

pub restart : (o : Origin) (up : Option Addr) (h : List Entry) → IsFounded o up h → digest (again o h) [] ≡ digest o (crashed h)
unfolding started after_crash
restart o up h is =
    let d : Digest = digest o h in
    let start : IsSoundStart o = sound_start o is.legal.start is.earlier in
    let current : current_from None (reverse (records o h)) ≡ recovered_current d.current = (sound_law o up h start.sound start.again is.legal.grown).1 in
    let kept = kept_law o up h is.legal.grown in
    let known : is_known (current_from None (reverse (records o h))) (kept_from [] (reverse (records o h))) ≡ is_known (recovered_current d.current) d.kept =
    ap (λ (c : Option Current). is_known c (kept_from [] (reverse (records o h)))) current ∙ ap (is_known (recovered_current d.current)) kept.0 ∙ known_noted (recovered_current d.current) d.kept in
    started_as (suc d.boot) o.start.version d.version _ _ _ _ _ _ (sym kept.1) known current kept.0

-- in a run a node's log is empty at first
pub founded : (es : List Happening) (x : Node) → IsIn (run es) x → IsFounded x.origin x.superior x.history
founded es x here = record { legal = all_legal es x here; earlier = ap (are_earlier x.origin.start.boot) ((good_run es).fresh (number_of x) x here) }

pub restart_run : (es : List Happening) (x : Node) → IsIn (run es) x → digest (again x.origin x.history) [] ≡ digest x.origin (crashed x.history)
restart_run es x here = restart x.origin x.superior x.history (founded es x here)
