-- The history of a node after one event more of its site.
use Rattle.std.proofs.Common.{◌≡◌, ◌==◌, ℕ, refl, ap, sym, ◌∙◌, cond, Option, Some, None, List, [], ◌∷◌, ◌++◌}
use Rattle.tp_records.specs.declared.body.Event.{Event as Given}
use Rattle.tp_model.specs.Parts.{Event, Entry}
use Rattle.tp_model.specs.NodeRun.{Opening, Refuses, Is, asked, node_of, history_of, with_entry, NodeRun, run_from, AskedEvent}
use Rattle.tp_site.specs.Events.{history_at, answer_asked, answer_after}
use Rattle.tp_site.proofs.Runs.{history_grown, asked_at, run_next}

ran : (o : Opening) (gs : List Given) (g : Given) (n : ℕ) (e : Event) (k : ℕ) → asked o g ≡ Is n e → history_at o (gs ++ g ∷ []) k ≡ history_of (with_entry (run_from o [] gs).pasts n (answer_asked o gs (Is n e)).entry) k
ran o gs g n e k is = ap (λ (r : NodeRun). history_of r.pasts k) (run_next o gs g (Is n e) is)

-- it is one entry longer, where the event is one of that node's
pub grown : (o : Opening) (gs : List Given) (g : Given) (entry : Entry) (k : ℕ) → (answer_after o gs g).entry ≡ Some entry → history_at o (gs ++ g ∷ []) k ≡ cond (node_of g == k) (entry ∷ history_at o gs (node_of g)) (history_at o gs k)
grown o gs g entry k happens = go (asked o g) refl
  where
    go : (a : AskedEvent) → asked o g ≡ a → history_at o (gs ++ g ∷ []) k ≡ cond (node_of g == k) (entry ∷ history_at o gs (node_of g)) (history_at o gs k)
    go (Refuses n) is = let none : (answer_asked o gs (Refuses n)).entry ≡ Some entry = ap (λ (a : AskedEvent). (answer_asked o gs a).entry) (sym is) ∙ happens in absurd (cc (none))
    go (Is n e) is =
        let some : (answer_asked o gs (Is n e)).entry ≡ Some entry = ap (λ (a : AskedEvent). (answer_asked o gs a).entry) (sym is) ∙ happens in
        ran o gs g n e k is
        ∙ ap (λ (x : Option Entry). history_of (with_entry (run_from o [] gs).pasts n x) k) some
        ∙ history_grown (run_from o [] gs).pasts n entry k
        ∙ ap (λ (m : ℕ). cond (m == k) (entry ∷ history_at o gs m) (history_at o gs k)) (sym (asked_at o g n e is))

-- it stays, where nothing happened
pub stayed : (o : Opening) (gs : List Given) (g : Given) (k : ℕ) → (answer_after o gs g).entry ≡ None → history_at o (gs ++ g ∷ []) k ≡ history_at o gs k
stayed o gs g k nothing = go (asked o g) refl
  where
    go : (a : AskedEvent) → asked o g ≡ a → history_at o (gs ++ g ∷ []) k ≡ history_at o gs k
    go (Refuses n) is = ap (λ (r : NodeRun). history_of r.pasts k) (run_next o gs g (Refuses n) is)
    go (Is n e) is =
        let none : (answer_asked o gs (Is n e)).entry ≡ None = ap (λ (a : AskedEvent). (answer_asked o gs a).entry) (sym is) ∙ nothing in
        ran o gs g n e k is ∙ ap (λ (x : Option Entry). history_of (with_entry (run_from o [] gs).pasts n x) k) none
