-- A declaration gives no outputs.
use Rattle.std.proofs.Common.{◌≡◌, ℕ, false, refl, ap, sym, subst, ◌∙◌, Option, Some, None, List, [], Ok, Err, inl, inr}
use Rattle.tp_names.specs.declared.identifiers.Addr.{Addr}
use Rattle.tp_records.specs.declared.body.Event.{Event as Given}
use Rattle.tp_records.specs.declared.body.Output.{Output}
use Rattle.tp_model.specs.Parts.{Who, Event, Digest, Verdict}
use Rattle.tp_model.specs.Events.{verdict, action}
use Rattle.tp_model.specs.Node.{Move}
use Rattle.tp_model.specs.NodeRun.{asked}
use Rattle.tp_model.specs.Refusal.{number_in, number_of}
use Rattle.tp_model.proofs.Verdicts.{breaks_so}
use Rattle.tp_journal.specs.Keeping.{Standing}
use Rattle.tp_node.specs.NodeEvent.{Answer, Refuses, Happens, answer_at}
use Rattle.tp_site.specs.declared.site.Played.{Played}
use Rattle.tp_logrec.specs.declared.record.LogRec.{LogRec}
use Rattle.tp_journal.specs.declared.faults.ForceFault.{ForceFault}
use Rattle.tp_journal.specs.declared.faults.ForceFault.TheVariants as force
use Rattle.tp_site.specs.declared.faults.SiteFault.{SiteFault}
use Rattle.tp_site.specs.Site.{Site, Plays, IsPlayed, IsUnforced, rec_of, known_at}
use Rattle.tp_site.specs.Nodes.{who_at}
use Rattle.tp_site.specs.Events.{opening_at, given_out, PlaysAsked}

abbrev IsQuiet : Answer → Type 0
IsQuiet (Refuses k) = Unit {0}
IsQuiet (Happens number m) = (number ≡ None) × (m.outs ≡ [])

quiet : (who : Who) (d : Digest) (s : Option Addr) → IsQuiet (answer_at who d (Event.Declare s))
quiet who d s = go (verdict who d (Event.Declare s)) refl
  where
    go : (v : Verdict) → verdict who d (Event.Declare s) ≡ v
        → IsQuiet (elim v as (λ _. Answer) [
          | Verdict.Accepted ↦ Happens None (action who d (Event.Declare s))
          | Verdict.Refused k ↦ Refuses (number_of k)
          | Verdict.Breaks from r ↦ Happens (Some 24) (action who d (Event.Break from r))
        ])
    go Verdict.Accepted i = (refl, refl)
    go (Verdict.Refused k) i = tt
    go (Verdict.Breaks from r) i = let other : Event.Declare s ≡ Event.Arrive from r = (breaks_so who d (Event.Declare s) from r i).0 in absurd (cc (other))

pub declared_quietly : {K : Type 0} (standing : K → Standing) (old : Site K) (n : ℕ) (outputs : List Output) (new : Site K) → PlaysAsked standing old (asked (opening_at old.nodes.site) (Given.Declare n None)) (Ok outputs) new → outputs ≡ []
declared_quietly standing old n outputs new plays = by plays.0 plays.1.0 plays.1.1 plays.2
  where
    by : (p : Played) (m : Move) → IsPlayed standing old n (Event.Declare None) p new m → outputs ≡ given_out old.nodes.site n (number_in p.refusal) p.outs → outputs ≡ []
    by p m played is =
        let still : IsQuiet (Happens (number_in p.refusal) m) = subst IsQuiet played.answer (quiet (who_at old.nodes n) (known_at old n) None) in
        is ∙ ap (given_out old.nodes.site n (number_in p.refusal)) (played.outs ∙ still.1) ∙ ap (λ (k : Option ℕ). given_out old.nodes.site n k []) still.0

-- and asks for no record; nor is it refused, where the node is not declared
abbrev IsUnrecorded : Answer → Type 0
IsUnrecorded (Refuses k) = ⊥
IsUnrecorded (Happens number m) = m.rec ≡ None

unrecorded : (who : Who) (d : Digest) (s : Option Addr) → d.declared ≡ false → IsUnrecorded (answer_at who d (Event.Declare s))
unfolding verdict
unrecorded who d s is = rw is refl

no_force : {K : Type 0} (standing : K → Standing) (old : K) (fault : ForceFault) (new : K) (a : Answer) → IsUnrecorded a → IsUnforced standing old (rec_of a) fault new → ⊥
no_force standing old fault new (Refuses k) r u = r
no_force standing old fault new (Happens number m) r u = absurd (subst (λ (x : Option LogRec). IsUnforced standing old x fault new) r u)

pub declared_freely : {K : Type 0} (standing : K → Standing) (old : Site K) (n : ℕ) (fault : SiteFault) (new : Site K) → (known_at old n).declared ≡ false → old.shut ≡ None → PlaysAsked standing old (asked (opening_at old.nodes.site) (Given.Declare n None)) (Err fault) new → fault ≡ SiteFault.NoMemory
declared_freely standing old n fault new fresh unshut plays = by fault plays
  where
    a : IsUnrecorded (answer_at (who_at old.nodes n) (known_at old n) (Event.Declare None))
    a = unrecorded (who_at old.nodes n) (known_at old n) None fresh

    by : (fault : SiteFault) → Plays standing old n (Event.Declare None) (Err fault) new → fault ≡ SiteFault.NoMemory
    by (SiteFault.Refused k) x = absurd (subst IsUnrecorded x.0 a)
    by (SiteFault.Full size) x = absurd (no_force standing old.keeper (force.Full size) new.keeper (answer_at (who_at old.nodes n) (known_at old n) (Event.Declare None)) a x.0.unforced)
    by (SiteFault.DiskFault k) x = absurd (no_force standing old.keeper (force.DiskFault k) new.keeper (answer_at (who_at old.nodes n) (known_at old n) (Event.Declare None)) a x.0.unforced)
    by (SiteFault.Shut k) (inl x) = let clash : None ≡ Some k = sym unshut ∙ x.0 in absurd (cc (clash))
    by (SiteFault.Shut k) (inr x) = absurd (no_force standing old.keeper (force.Shut k) new.keeper (answer_at (who_at old.nodes n) (known_at old n) (Event.Declare None)) a x.0.unforced)
    by SiteFault.NoMemory x = refl
