-- What a site answers to an event, for the program.
use Rattle.std.proofs.Common.{◌≡◌, inl, inr, ℕ, Option, Some, None, Result, Ok, Err, List, [], ◌∷◌, ◌++◌, refl, sym, ap, subst, ◌∙◌}
use Rattle.std.specs.Prelude.{OnOk}
use Rattle.tp_records.specs.declared.body.Event.{Event as Given}
use Rattle.tp_records.specs.declared.body.Output.{Output}
use Rattle.tp_logrec.specs.declared.record.LogRec.{LogRec}
use Rattle.tp_model.specs.Parts.{Answer}
use Rattle.tp_model.specs.NodeRun.{Opening, node_of, refusal_of, entry_outputs}
use Rattle.tp_journal.specs.Keeping.{Standing}
use Rattle.tp_site.specs.declared.faults.SiteFault.{SiteFault}
use Rattle.tp_site.specs.Site.{Site, IsForced}
use Rattle.tp_site.specs.Shaped.{HasTextOption, HasTextIfAsked}
use Rattle.tp_site.specs.Events.{all_nodes, StepsTo, record_after, record_of}
use Rattle.tp_serve.specs.Answering.{stopped_by, IsAnswered, Answers, IsAnswerStop}

module _ {K : Type 0} (standing : K → Standing) (o : Opening) (gs : List Given) (at : ℕ) (old : Site K) (g : Given) (new : Site K) where
  pub given_so : (outputs : List Output) → StepsTo standing all_nodes o gs old g (Ok outputs) new → HasTextOption (standing old.keeper).wide (record_after o gs g) → IsAnswered standing o gs old g outputs new
  given_so outputs x text = record { at = x.at; given = x.given; forced = x.forced; text = text; is_open = x.open_after }

  -- the answer to one that is refused is the refusal
  pub refused_so : (k : ℕ) (outputs : List Output) → StepsTo standing all_nodes o gs old g (Err (SiteFault.Refused k)) new → outputs ≡ Output.Refused k ∷ [] → IsAnswered standing o gs old g outputs new
  refused_so k outputs x is = record {
    at = x.0;
    given = is ∙ ap (λ (a : Answer). refusal_of a.number ++ entry_outputs o (node_of g) a.entry) (sym x.1);
    forced = subst (λ (r : Option LogRec). IsForced standing old.keeper r new.keeper) (ap (λ (a : Answer). record_of a.entry) (sym x.1)) (ap (λ (s : Site K). s.keeper) x.3);
    text = subst (HasTextOption (standing old.keeper).wide) (ap (λ (a : Answer). record_of a.entry) (sym x.1)) tt;
    is_open = ap (λ (s : Site K). s.shut) x.3 ∙ x.2;
  }

  pub stops_so : (fault : SiteFault) → old.shut ≡ None → StepsTo standing all_nodes o gs old g (Err fault) new → HasTextIfAsked {A = List Output} (standing old.keeper).wide (record_after o gs g) (Err fault) → Answers standing o gs at old g (Err (stopped_by at fault)) new
  stops_so (SiteFault.Refused k) is_open x text = inr (Output.Refused k ∷ [], refused_so k (Output.Refused k ∷ []) x refl)
  stops_so (SiteFault.Full size) is_open x text = (refl, refl, (size, record { at = x.0.at; unforced = x.0.unforced }), x.1)
  stops_so (SiteFault.DiskFault faults) is_open x text = inl (record { at = x.0.at; unforced = x.0.unforced }, text)
  stops_so (SiteFault.Shut faults) is_open (inl x) text = absurd (let clash : None ≡ Some faults = sym is_open ∙ x.1 in cc)
  stops_so (SiteFault.Shut faults) is_open (inr x) text = inr (record { at = x.0.at; unforced = x.0.unforced })
  stops_so SiteFault.NoMemory is_open x text = inl (x.0, x.1, x.3)

pub answer_stop : (at : ℕ) (fault : SiteFault) → IsAnswerStop at (stopped_by at fault)
answer_stop at (SiteFault.Refused k) = tt
answer_stop at (SiteFault.Full size) = (refl, refl)
answer_stop at (SiteFault.DiskFault faults) = tt
answer_stop at (SiteFault.Shut faults) = tt
answer_stop at SiteFault.NoMemory = tt

pub on_ok : {E : Type 0} (r : Result (Unit {0}) E) (P Q : Type 0) → (P → Q) → OnOk r P → OnOk r Q
on_ok (Ok u) P Q implies holds = implies holds
on_ok (Err e) P Q implies holds = tt
