-- The call of a face that a frame asks for.
use Rattle.std.proofs.Common.{◌≡◌, ℕ, Bool, true, false, refl, ap, sym, subst, ◌∙◌, List, [], Result, Err}
use Rattle.std.proofs.lemmas.List.{append-nil}
use Rattle.tp_records.specs.declared.body.Event.{Event as Given}
use Rattle.tp_records.specs.declared.body.Output.{Output}
use Rattle.tp_model.specs.History.{digest}
use Rattle.tp_model.specs.NodeRun.{Opening, origin_at}
use Rattle.tp_journal.specs.Keeping.{Standing}
use Rattle.tp_site.specs.Events.{history_at}
use Rattle.tx_face.specs.declared.stand.Stand.{Stand}
use Rattle.tx_face.specs.declared.fault.FaceFault.{FaceFault}
use Rattle.tx_face.specs.Stands.{stand}
use Rattle.tx_face.specs.Codes.{code_of}
use Rattle.tx_face.specs.Face.{Face, stand_at, Calls, IsFaceAt, GoesOn}
use Rattle.tp_tx.specs.Transcript.{if_taken, stand_after, code_after}
use Rattle.tp_tx.specs.Progress.{CallsFor}

-- where the program stands is said by the history of node 1
stand_so : (o : Opening) (gs : List Given) (n : ℕ) → n ≡ 1 → stand (digest (origin_at o n) (history_at o gs n)) ≡ stand_after o gs
stand_so o gs n is = ap (λ (k : ℕ). stand (digest (origin_at o k) (history_at o gs k))) is

pub stands : {K : Type 0} (standing : K → Standing) (o : Opening) (gs : List Given) (f : Face K) → IsFaceAt standing o gs [] f → f.node ≡ 1 → stand_at f ≡ stand_after o gs
stands standing o gs f at node = ap stand (at.site.known f.node refl) ∙ stand_so o gs f.node node

-- and so is its code
pub coded : {K : Type 0} (standing : K → Standing) (o : Opening) (gs : List Given) (f : Face K) → IsFaceAt standing o gs [] f → f.node ≡ 1 → f.code ≡ code_after o gs
coded standing o gs f at node = at.code ∙ ap code_of (sym (append-nil at.since) ∙ sym at.history ∙ ap (history_at o gs) node)

-- a call that is taken by the node's number and where the program stands
pub called : {K : Type 0} (standing : K → Standing) (o : Opening) (gs : List Given) (old : Face K) (f : ℕ → Stand → Bool) (ask : ℕ → Given) (result : Result (List Output) FaceFault) (new : Face K) → IsFaceAt standing o gs [] old → old.node ≡ 1
    → Calls standing (f old.node (stand_at old)) old (ask old.node) result new → GoesOn standing (f old.node (stand_at old)) o gs [] old (ask old.node) result new
    → CallsFor standing o gs (if_taken (f 1 (stand_after o gs)) (ask 1)) old result new
called {K} standing o gs old f ask result new at node calls goes =
    by (f 1 (stand_after o gs)) (ask 1)
    (subst (λ (b : Bool). Calls standing b old (ask 1) result new) taken (subst (λ (n : ℕ). Calls standing (f old.node (stand_at old)) old (ask n) result new) node calls))
    (subst (λ (b : Bool). GoesOn standing b o gs [] old (ask 1) result new) taken (subst (λ (n : ℕ). GoesOn standing (f old.node (stand_at old)) o gs [] old (ask n) result new) node goes))
  where
    taken : f old.node (stand_at old) ≡ f 1 (stand_after o gs)
    taken = ap (λ (n : ℕ). f n (stand_at old)) node ∙ ap (f 1) (stands standing o gs old at node)

    by : (b : Bool) (g : Given) → Calls standing b old g result new → GoesOn standing b o gs [] old g result new → CallsFor standing o gs (if_taken b g) old result new
    by true g c h = h
    by false g c h = (c.0 ∙ ap (λ (s : Stand). Err (FaceFault.Protocol s)) (stands standing o gs old at node), c.1)
