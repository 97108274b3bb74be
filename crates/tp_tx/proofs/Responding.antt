-- How a frame is answered, by what the call that it asks for gave.
use Rattle.std.proofs.Common.{◌≡◌, inl, inr, ℕ, refl, ap, sym, subst, ◌∙◌, Option, List, [], ◌∷◌, ◌++◌, Result, Ok, Err}
use Rattle.std.specs.Prelude.{OnOk, IfErr}
use Rattle.tp_outside.specs.Story.{Story}
use Rattle.tp_records.specs.declared.body.Event.{Event as Given}
use Rattle.tp_records.specs.declared.body.Output.{Output}
use Rattle.tp_model.specs.declared.verdict.What.{What}
use Rattle.tp_model.specs.NodeRun.{Opening, log_after}
use Rattle.tp_model.specs.NodeTranscript.{outputs_bytes}
use Rattle.tp_journal.specs.Keeping.{Standing}
use Rattle.tp_streams.specs.declared.stop.Stop.{Stop}
use Rattle.tp_site.specs.declared.faults.SiteFault.{SiteFault}
use Rattle.tp_serve.specs.Answering.{stopped_by, IsAnswered}
use Rattle.tp_serve.specs.Images.{IsNodeImage}
use Rattle.tp_serve.specs.Progress.{Holds}
use Rattle.tp_serve.proofs.Served.{answered, unanswered}
use Rattle.tp_serve.proofs.Replies.{given_so, refused_so, stops_so}
use Rattle.tx_face.specs.declared.stand.Stand.{Stand}
use Rattle.tx_face.specs.declared.fault.FaceFault.{FaceFault}
use Rattle.tx_face.specs.Face.{Face, IsFaceAt, Goes}
use Rattle.tp_tx.specs.Transcript.{Asks, Not_taken, Nothing, An_event, stand_after, code_after, events_with, standing_frame, refusing_frame, given_first}
use Rattle.tp_tx.specs.Progress.{CallsFor, PutsGiven, IsRunning, Responds}

module _ {K : Type 0} (standing : K → Standing) (o : Opening) (gs : List Given) (begun : Option Story) (faults : ℕ) (old : Face K) (running : IsRunning standing o gs begun faults old) where
  -- nothing has changed
  stays : (new : Face K) → new ≡ old → IsRunning standing o gs begun faults new
  stays new same = subst (IsRunning standing o gs begun faults) (sym same) running

  module _ (g : Given) (new : Face K) where
    -- the event happened, or was refused
    pub happened : (outputs : List Output) → Goes standing o gs [] old g (Ok outputs) new → IsRunning standing o (gs ++ g ∷ []) begun faults new
    happened outputs x = record {
      face = x.at;
      node = x.node ∙ running.node;
      serving = answered standing o gs begun faults old.site running.serving g outputs new.site (given_so standing o gs 0 old.site g new.site outputs x.steps x.text);
    }

    refused : (k : ℕ) → Goes standing o gs [] old g (Err (SiteFault.Refused k)) new → IsAnswered standing o gs old.site g (Output.Refused k ∷ []) new.site
    refused k x = refused_so standing o gs 0 old.site g new.site k (Output.Refused k ∷ []) x.steps refl

    turned_down : (k : ℕ) → Goes standing o gs [] old g (Err (SiteFault.Refused k)) new → IsRunning standing o (gs ++ g ∷ []) begun faults new
    turned_down k x = record {
      face = x.at;
      node = x.node ∙ running.node;
      serving = answered standing o gs begun faults old.site running.serving g (Output.Refused k ∷ []) new.site (refused k x);
    }

    abbrev Stopped : ℕ → SiteFault → List ℕ → Type 0
    Stopped at fault out = Responds standing o gs begun faults at (An_event g) (Err (stopped_by at fault)) new out

    -- it did not happen
    full : (at size : ℕ) (out : List ℕ) → Goes standing o gs [] old g (Err (SiteFault.Full size)) new → Stopped at (SiteFault.Full size) out
    full at size out x =
        let y = unanswered standing o gs begun faults old.site running.serving g at (Stop.Limit What.Log at) new.site [] (stops_so standing o gs at old.site g new.site (SiteFault.Full size) running.serving.is_open x.steps x.text) in
        (record { face = x.at; node = x.node ∙ running.node; serving = y.0 }, refl, refl, y.3)

    failed : (at n : ℕ) (out : List ℕ) → Goes standing o gs [] old g (Err (SiteFault.DiskFault n)) new → Stopped at (SiteFault.DiskFault n) out
    failed at n out x =
        let y = unanswered standing o gs begun faults old.site running.serving g at (Stop.DiskFault n) new.site [] (stops_so standing o gs at old.site g new.site (SiteFault.DiskFault n) running.serving.is_open x.steps x.text) in
        y.0

    shut : (at n : ℕ) (out : List ℕ) → Goes standing o gs [] old g (Err (SiteFault.Shut n)) new → Stopped at (SiteFault.Shut n) out
    shut at n out x =
        let y = unanswered standing o gs begun faults old.site running.serving g at (Stop.DiskFault n) new.site [] (stops_so standing o gs at old.site g new.site (SiteFault.Shut n) running.serving.is_open x.steps x.text) in
        y.0

    starved : (at : ℕ) (out : List ℕ) → Goes standing o gs [] old g (Err SiteFault.NoMemory) new → Stopped at SiteFault.NoMemory out
    starved at out x =
        inl (record {
          face = x.at;
          node = x.node ∙ running.node;
          serving = record {
            at = x.steps.0;
            is_open = x.steps.3;
            log = subst (λ (s : Standing). Holds (IsNodeImage o gs 0) o.version (log_after o gs) begun faults s) (sym x.steps.1) running.serving.log;
            room = running.serving.room;
          };
        })

  -- ---- the call gave this, and it is written

  module _ (new : Face K) (at : ℕ) where
    abbrev Given_so : Asks → List ℕ → Type 0
    Given_so a out = IsRunning standing o (events_with gs a) begun faults new × (out ≡ given_first o gs a)

    pub gave : (a : Asks) (given : Result (List Output) FaceFault) (out : List ℕ) → CallsFor standing o gs a old given new → PutsGiven at given (Ok tt) out → Given_so a out
    gave Not_taken (Ok outputs) out x put = absurd (cc (x.0))
    gave Not_taken (Err (FaceFault.Protocol s)) out x put = (stays new x.1, put ∙ ap refusing_frame (protocol s x.0))
      where
        protocol : (s : Stand) → ◌≡◌ {A = Result (List Output) FaceFault} (Err (FaceFault.Protocol s)) (Err (FaceFault.Protocol (stand_after o gs))) → s ≡ stand_after o gs
        protocol s e = cc (e)
    gave Not_taken (Err (FaceFault.Site fault)) out x put = absurd (cc (x.0))
    gave Nothing (Ok outputs) out x put = (stays new x.1, put ∙ ap outputs_bytes (none outputs x.0))
      where
        none : (outputs : List Output) → ◌≡◌ {A = Result (List Output) FaceFault} (Ok outputs) (Ok []) → outputs ≡ []
        none outputs e = cc (e)
    gave Nothing (Err fault) out x put = absurd (cc (x.0))
    gave (An_event g) (Ok outputs) out x put = (happened g new outputs x, put ∙ ap outputs_bytes x.steps.given)
    gave (An_event g) (Err (FaceFault.Protocol s)) out x put = absurd x
    gave (An_event g) (Err (FaceFault.Site (SiteFault.Refused k))) out x put = (turned_down g new k x, put ∙ ap outputs_bytes (refused g new k x).given)
    gave (An_event g) (Err (FaceFault.Site (SiteFault.Full size))) out x put = absurd put
    gave (An_event g) (Err (FaceFault.Site (SiteFault.DiskFault n))) out x put = absurd put
    gave (An_event g) (Err (FaceFault.Site (SiteFault.Shut n))) out x put = absurd put
    gave (An_event g) (Err (FaceFault.Site SiteFault.NoMemory)) out x put = absurd put

    -- there was no memory after it
    pub after_it : (a : Asks) (out : List ℕ) → IsRunning standing o (events_with gs a) begun faults new → Responds standing o gs begun faults at a (Err Stop.NoMemory) new out
    after_it a out run = inr run

    memory : (a : Asks) (stop : Stop) (out : List ℕ) → stop ≡ Stop.NoMemory → IsRunning standing o (events_with gs a) begun faults new → Responds standing o gs begun faults at a (Err stop) new out
    memory a stop out is run = subst (λ (s : Stop). Responds standing o gs begun faults at a (Err s) new out) (sym is) (inr run)

    pub gave_not : (a : Asks) (given : Result (List Output) FaceFault) (stop : Stop) (out : List ℕ) → CallsFor standing o gs a old given new → PutsGiven at given (Err stop) out → Responds standing o gs begun faults at a (Err stop) new out
    gave_not Not_taken (Ok outputs) stop out x put = absurd (cc (x.0))
    gave_not Not_taken (Err (FaceFault.Protocol s)) stop out x put = memory Not_taken stop out put (stays new x.1)
    gave_not Not_taken (Err (FaceFault.Site fault)) stop out x put = absurd (cc (x.0))
    gave_not Nothing (Ok outputs) stop out x put = memory Nothing stop out put (stays new x.1)
    gave_not Nothing (Err fault) stop out x put = absurd (cc (x.0))
    gave_not (An_event g) (Ok outputs) stop out x put = memory (An_event g) stop out put (happened g new outputs x)
    gave_not (An_event g) (Err (FaceFault.Protocol s)) stop out x put = absurd x
    gave_not (An_event g) (Err (FaceFault.Site (SiteFault.Refused k))) stop out x put = memory (An_event g) stop out put (turned_down g new k x)
    gave_not (An_event g) (Err (FaceFault.Site (SiteFault.Full size))) stop out x put = subst (λ (s : Stop). Responds standing o gs begun faults at (An_event g) (Err s) new out) (sym put) (full g new at size out x)
    gave_not (An_event g) (Err (FaceFault.Site (SiteFault.DiskFault n))) stop out x put = subst (λ (s : Stop). Responds standing o gs begun faults at (An_event g) (Err s) new out) (sym put) (failed g new at n out x)
    gave_not (An_event g) (Err (FaceFault.Site (SiteFault.Shut n))) stop out x put = subst (λ (s : Stop). Responds standing o gs begun faults at (An_event g) (Err s) new out) (sym put) (shut g new at n out x)
    gave_not (An_event g) (Err (FaceFault.Site SiteFault.NoMemory)) stop out x put = subst (λ (s : Stop). Responds standing o gs begun faults at (An_event g) (Err s) new out) (sym put) (starved g new at out x)

    -- and where the program stands
    pub ended : (a : Asks) (given : Result (List Output) FaceFault) (mid out : List ℕ) (result : Result (Unit {0}) Stop) → CallsFor standing o gs a old given new → PutsGiven at given (Ok tt) mid
        → OnOk result ((o : Opening) (gs : List Given) → IsFaceAt standing o gs [] new → new.node ≡ 1 → out ≡ mid ++ standing_frame (stand_after o gs) (code_after o gs)) → IfErr result (λ stop. stop ≡ Stop.NoMemory)
        → Responds standing o gs begun faults at a result new out
    ended a given mid out (Ok u) calls put end none =
        let hs : List Given = events_with gs a in
        let x = gave a given mid calls put in (
          x.0,
          x.0.serving.room,
          end o hs x.0.face x.0.node ∙ ap (λ (l : List ℕ). l ++ standing_frame (stand_after o hs) (code_after o hs)) x.1,
        )
    ended a given mid out (Err stop) calls put end none = let x = gave a given mid calls put in memory a stop out none x.0
