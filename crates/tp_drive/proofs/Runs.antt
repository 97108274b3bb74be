-- The outputs of a run, one event further, and how many there are.
use Rattle.std.proofs.Common.{◌≡◌, suc, List, [], ◌∷◌, ◌++◌, length, refl, ap, ◌∙◌}
use Rattle.tp_records.specs.declared.body.Event.{Event as Given}
use Rattle.tp_records.specs.declared.body.Output.{Output}
use Rattle.tp_model.specs.NodeRun.{Opening, Past, NodeRun, Refuses, Is, asked, node_of, run_from, node_run, AskedEvent}
use Rattle.tp_site.specs.Events.{answer_after, outputs_after}
use Rattle.tp_site.proofs.Runs.{asked_at, run_asked, run_next}

-- what is put out for one event more, by what it asks
last_outputs : (o : Opening) (gs : List Given) (g : Given) (a : AskedEvent) → asked o g ≡ a → (run_asked o (run_from o [] gs).pasts a []).outputs ≡ outputs_after o gs g ∷ []
last_outputs o gs g (Refuses n) is = rw (is, outputs_after, answer_after) refl
last_outputs o gs g (Is n e) is =
    let at : node_of g ≡ n = asked_at o g n e is in
    rw (is, at, outputs_after, answer_after) refl

pub outputs_next : (o : Opening) (gs : List Given) (g : Given) → (node_run o (gs ++ g ∷ [])).outputs ≡ (node_run o gs).outputs ++ outputs_after o gs g ∷ []
outputs_next o gs g =
    ap (λ (r : NodeRun). r.outputs) (run_next o gs g (asked o g) refl) ∙ ap (λ (l : List (List Output)). (run_from o [] gs).outputs ++ l) (last_outputs o gs g (asked o g) refl)

-- one list of outputs for each event
outputs_length : (o : Opening) (ps : List Past) (gs : List Given) → length (run_from o ps gs).outputs ≡ length gs
outputs_length o ps [] = refl
outputs_length o ps (g ∷ gs) = go (asked o g) refl (λ qs. outputs_length o qs gs)
  where
    go : (a : AskedEvent) → asked o g ≡ a → ((qs : List Past) → length (run_from o qs gs).outputs ≡ length gs) → length (run_from o ps (g ∷ gs)).outputs ≡ suc (length gs)
    go (Refuses n) is rest = rw (is, run_from) (ap suc (rest ps))
    go (Is n e) is rest = rw (is, run_from) (ap suc (rest _))

pub run_length : (o : Opening) (gs : List Given) → length (node_run o gs).outputs ≡ length gs
run_length o gs = outputs_length o [] gs
