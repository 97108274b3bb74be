-- A batch is the list of its events in the order of its records.
use Rattle.std.proofs.Common.{◌≡◌, ◌==◌, ◌%◌, ◌<◌, ℕ, Bool, true, false, refl, ap, sym, ◌∙◌, subst, arith, List, [], ◌∷◌, ◌++◌, take, drop, length, append-nil, append_assoc}
use Rattle.std.proofs.lemmas.List.{take-append-drop, take_all}
use Rattle.tp_records.specs.declared.body.Event.{Event as Given}
use Rattle.tp_logrec.specs.declared.record.LogRec.{LogRec}
use Rattle.tp_model.specs.NodeRun.{Opening, node_of, run_from}
use Rattle.tp_model.specs.Lanes.{lane, IsInterleaving}
use Rattle.tp_runs.proofs.Lanes.{lane_mine, lane_other, lane_outputs}
use Rattle.tp_batches.specs.Batches.{AreForced, FirstOfABatch, WholeBatch}
use Rattle.tp_batches.proofs.Steps.{lane_is_own}
use Rattle.tp_batches.proofs.Weaving.{Stands, Built, weave}

lane-append : (i w : ℕ) (gs hs : List Given) → lane (gs ++ hs) i w ≡ lane gs i w ++ lane hs i w
lane-append i w [] hs = refl
lane-append i w (g ∷ gs) hs = go (node_of g % w == i) refl (lane-append i w gs hs)
  where
    go : (b : Bool) → (node_of g % w == i) ≡ b → lane (gs ++ hs) i w ≡ lane gs i w ++ lane hs i w → lane ((g ∷ gs) ++ hs) i w ≡ lane (g ∷ gs) i w ++ lane hs i w
    go true h rest = lane_mine g (gs ++ hs) i w h ∙ ap (λ (l : List Given). g ∷ l) rest ∙ ap (λ (l : List Given). l ++ lane hs i w) (sym (lane_mine g gs i w h))
    go false h rest = lane_other g (gs ++ hs) i w h ∙ rest ∙ ap (λ (l : List Given). l ++ lane hs i w) (sym (lane_other g gs i w h))

-- before any event
stands : (o : Opening) (w : ℕ) (events : List Given) (met : ℕ → ℕ) (logs : List (List LogRec)) → AreForced o w events met logs → Stands o w [] (λ i. lane (take (met i) events) i w) (λ i. []) logs
stands o w events met logs f = record {
  counted = f.counted;
  agree = λ i h n own. refl;
  own = λ i h. lane_is_own i w (take (met i) events);
  logs = λ i h. f.each i [] h;
}

pub first_of : FirstOfABatch
first_of o w events met logs records later f woven =
    let b : Built o w [] (λ i. lane (take (met i) events) i w) records false = weave o w records later false logs (λ h. absurd (cc (h))) woven [] (λ i. lane (take (met i) events) i w) (λ i. []) (stands o w events met logs f) in
    record {
      given = b.events;
      log = b.log;
      each = λ i h. (
        b.rests i ++ lane (drop (met i) events) i w,
        ap (λ (l : List Given). lane l i w) (sym (take-append-drop (met i) events))
            ∙ lane-append i w (take (met i) events) (drop (met i) events)
            ∙ ap (λ (l : List Given). l ++ lane (drop (met i) events) i w) (b.lanes i h)
            ∙ append_assoc (lane b.events i w) (b.rests i) (lane (drop (met i) events) i w),
      );
    }

pub whole : WholeBatch
whole o w events logs records f woven =
    let es : ℕ → List Given = λ i. lane (take (length events) events) i w in
    let b : Built o w [] es records true = weave o w records [] true logs (λ h. refl) (subst (λ (l : List LogRec). IsInterleaving l logs) (sym (append-nil records)) woven) [] es (λ i. []) (stands o w events (λ i. length events) logs f) in
    let same : (i : ℕ) → i < w → lane b.events i w ≡ lane events i w = λ i h.
    sym (append-nil (lane b.events i w)) ∙ ap (λ (l : List Given). lane b.events i w ++ l) (sym (b.none refl i h)) ∙ sym (b.lanes i h) ∙ ap (λ (l : List Given). lane l i w) (take_all (length events) events (omega arith)) in
    record {
      given = b.events;
      log = b.log;
      each = same;
      outputs = λ i h.
          lane_outputs o i w b.events [] [] (λ n own. refl) ∙ ap (λ (l : List Given). (run_from o [] l).outputs) (same i h) ∙ sym (lane_outputs o i w events [] [] (λ n own. refl));
    }
