-- Where a face has come to after one event of its site.
use Rattle.std.proofs.Common.{◌≡◌, ◌==◌, ℕ, Bool, true, false, refl, ap, sym, subst, ◌∙◌, arith, cond, Option, None, List, [], ◌∷◌, ◌++◌, Result, Ok, Err, inl, inr}
use Rattle.std.proofs.lemmas.Bool.Decides.{nat_tests}
use Rattle.tp_records.specs.declared.body.Event.{Event as Given}
use Rattle.tp_records.specs.declared.body.Output.{Output}
use Rattle.tp_model.specs.Parts.{Entry, Answer}
use Rattle.tp_model.specs.NodeRun.{Opening, asked, node_of, refusal_of, outputs_of, entry_outputs}
use Rattle.tp_journal.specs.Keeping.{Standing}
use Rattle.tp_site.specs.declared.faults.SiteFault.{SiteFault}
use Rattle.tp_site.specs.Shaped.{HasTextIfAsked}
use Rattle.tp_site.specs.Site.{Site}
use Rattle.tp_site.specs.Events.{opening_at, PlaysAsked, IsAt, IsStepped, StepsTo, all_nodes, history_at, answer_after, record_after}
use Rattle.tx_face.specs.declared.code.Code.{Code}
use Rattle.tx_face.specs.Codes.{code_told, code_given}
use Rattle.tx_face.specs.Face.{Face, undeclared, code_after, Plays, IsFaceAt, Goes}
use Rattle.tx_face.proofs.Told.{given_refusal, given_own, given_other}
use Rattle.tx_face.proofs.Histories.{grown, stayed}

module _ {K : Type 0} (standing : K → Standing) (o : Opening) (gs : List Given) (past : List Entry) (old : Face K) (g : Given) (new : Face K) (at : IsFaceAt standing o gs past old) (node : new.node ≡ old.node) where
  -- the history of its node is as it was, and so is the code
  same : (hs : List Given) → IsAt standing all_nodes o hs new.site → history_at o hs old.node ≡ history_at o gs old.node → new.code ≡ old.code → IsFaceAt standing o hs past new
  same hs site history code = record {
    site = site;
    since = at.since;
    history = ap (history_at o hs) node ∙ history ∙ at.history;
    code = code ∙ at.code;
  }

  -- the outputs of what happened
  module _ (outputs : List Output) (step : IsStepped standing all_nodes o gs old.site g outputs new.site) (code : new.code ≡ code_given old.node outputs old.code) where
    given : new.code ≡ code_given old.node (outputs_of o (node_of g) step.entry.outs) old.code
    given =
        code
        ∙ ap (λ (os : List Output). code_given old.node os old.code) step.given
        ∙ ap (λ (e : Option Entry). code_given old.node (refusal_of (answer_after o gs g).number ++ entry_outputs o (node_of g) e) old.code) step.happens
        ∙ given_refusal old.node (answer_after o gs g).number (outputs_of o (node_of g) step.entry.outs) old.code

    happened : IsFaceAt standing o (gs ++ g ∷ []) past new
    happened = go (node_of g == old.node) refl
      where
        history : history_at o (gs ++ g ∷ []) old.node ≡ cond (node_of g == old.node) (step.entry ∷ history_at o gs (node_of g)) (history_at o gs old.node)
        history = grown o gs g step.entry old.node step.happens

        go : (b : Bool) → (node_of g == old.node) ≡ b → IsFaceAt standing o (gs ++ g ∷ []) past new
        go true i =
            let own : node_of g ≡ old.node = grind (arith, nat_tests, i) in
            record {
              site = step.at;
              since = step.entry ∷ at.since;
              history =
                  ap (history_at o (gs ++ g ∷ [])) node
                  ∙ history
                  ∙ ap (λ (b : Bool). cond b (step.entry ∷ history_at o gs (node_of g)) (history_at o gs old.node)) i
                  ∙ ap (λ (n : ℕ). step.entry ∷ history_at o gs n) own
                  ∙ ap (λ (h : List Entry). step.entry ∷ h) at.history;
              code =
                  given
                  ∙ ap (λ (n : ℕ). code_given old.node (outputs_of o n step.entry.outs) old.code) own
                  ∙ given_own o old.node step.entry.outs old.code
                  ∙ ap (code_told step.entry.outs) at.code;
            }
        go false i =
            same (gs ++ g ∷ []) step.at (history ∙ ap (λ (b : Bool). cond b (step.entry ∷ history_at o gs (node_of g)) (history_at o gs old.node)) i)
            (given ∙ given_other o old.node (node_of g) step.entry.outs old.code i)

pub going : {K : Type 0} (standing : K → Standing) (o : Opening) (gs : List Given) (past : List Entry) (old : Face K) (g : Given) (result : Result (List Output) SiteFault) (new : Face K) → IsFaceAt standing o gs past old → Plays standing old g result new
    → StepsTo standing all_nodes o gs old.site g result new.site → HasTextIfAsked (standing old.site.keeper).wide (record_after o gs g) result → Goes standing o gs past old g result new
going standing o gs past old g (Ok outputs) new at plays x t = record { steps = x; text = t; node = plays.node; at = happened standing o gs past old g new at plays.node outputs x plays.code }
going standing o gs past old g (Err (SiteFault.Refused k)) new at plays x t =
    record { steps = x; text = t; node = plays.node; at = same standing o gs past old g new at plays.node (gs ++ g ∷ []) x.0 (stayed o gs g old.node (ap (λ (a : Answer). a.entry) x.1)) plays.code }
going standing o gs past old g (Err (SiteFault.Full size)) new at plays x t = record { steps = x; text = t; node = plays.node; at = same standing o gs past old g new at plays.node gs x.0.at refl plays.code }
going standing o gs past old g (Err (SiteFault.DiskFault faults)) new at plays x t = record { steps = x; text = t; node = plays.node; at = same standing o gs past old g new at plays.node gs x.0.at refl plays.code }
going standing o gs past old g (Err (SiteFault.Shut faults)) new at plays (inl x) t = record { steps = inl x; text = t; node = plays.node; at = same standing o gs past old g new at plays.node gs x.0 refl plays.code }
going standing o gs past old g (Err (SiteFault.Shut faults)) new at plays (inr x) t = record { steps = inr x; text = t; node = plays.node; at = same standing o gs past old g new at plays.node gs x.0.at refl plays.code }
going standing o gs past old g (Err SiteFault.NoMemory) new at plays x t = record { steps = x; text = t; node = plays.node; at = same standing o gs past old g new at plays.node gs x.0 refl plays.code }

-- the same of a face by its parts
pub gone : {K : Type 0} (standing : K → Standing) (old : Face K) (site : Site K) (n : ℕ) (code : Option Code) → old ≡ record { site = site; node = n; code = code } → (g : Given) (result : Result (List Output) SiteFault) (after : Site K) (told : Option Code)
    → PlaysAsked standing site (asked (opening_at site.nodes.site) g) result after → told ≡ code_after n result code
    → ((mine : ℕ → Bool) (o : Opening) (gs : List Given) → IsAt standing mine o gs site → mine (node_of g) ≡ true → StepsTo standing mine o gs site g result after)
    → ((mine : ℕ → Bool) (o : Opening) (gs : List Given) → IsAt standing mine o gs site → mine (node_of g) ≡ true → HasTextIfAsked (standing site.keeper).wide (record_after o gs g) result)
    → (o : Opening) (gs : List Given) (past : List Entry) → IsFaceAt standing o gs past old → Goes standing o gs past old g result (record { site = after; node = n; code = told })
gone {K} standing old site n code is g result after told plays same steps text o gs past at =
    subst (λ (f : Face K). Goes standing o gs past f g result (record { site = after; node = n; code = told })) (sym is)
    (going standing o gs past (record { site = site; node = n; code = code }) g result (record { site = after; node = n; code = told }) there (record { site = plays; node = refl; code = same }) (steps all_nodes o gs there.site refl) (text all_nodes o gs there.site refl))
  where
    there : IsFaceAt standing o gs past (record { site = site; node = n; code = code })
    there = subst (IsFaceAt standing o gs past) is at

pub face_is : {K : Type 0} (f : Face K) (n : ℕ) → f.node ≡ n → f.code ≡ None → f ≡ undeclared f.site n
face_is {K} f n i j = ap (λ (m : ℕ). let w : Face K = record { site = f.site; node = m; code = f.code } in w) i ∙ ap (λ (c : Option Code). let w : Face K = record { site = f.site; node = n; code = c } in w) j
