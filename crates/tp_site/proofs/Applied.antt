-- What a planned event answers, and what it leaves of the site.
use Rattle.std.proofs.Common.{◌≡◌, ◌≤◌, ◌==◌, ℕ, Bool, false, ◌&&◌, ◌||◌, cond, Option, None, List, refl, ap, sym, subst, ◌∙◌, arith, nat_lt}
use Rattle.std.proofs.lemmas.Bool.Decides.{nat_tests}
use Rattle.tp_model.specs.Links.{greatest}
use Rattle.tp_model.specs.Parts.{Who, Digest, Out}
use Rattle.tp_model.specs.Node.{Move, move}
use Rattle.tp_model.specs.Events.{action, some_past_numbers, says_nothing}
use Rattle.tp_journal.specs.Keeping.{Standing}
use Rattle.tp_node.specs.declared.event.NodeEvent.{NodeEvent}
use Rattle.tp_node.specs.Node.{Node}
use Rattle.tp_node.specs.NodeEvent.{Happens, event_of, answer_at, is_retry}
use Rattle.tp_site.specs.InPlace.{IsPlanned, run_in_place}
use Rattle.tp_site.specs.Nodes.{Nodes, who_at, node_at, digest_at, IsSameSite}
use Rattle.tp_site.specs.Shaped.{IsShapedSite}
use Rattle.tp_site.specs.Site.{Site, IsPlayed}
use Rattle.tp_draft.proofs.Answered.{happens}
use Rattle.tp_draft.proofs.Quiet.{refused_not}
use Rattle.tp_site.proofs.Shaped.{drawn_shaped, put_shaped}

within : (n : ℕ) → n ≤ greatest → nat_lt greatest n ≡ false
within n h = grind (arith, nat_tests, h)

both_false : (a b : Bool) → a ≡ false → b ≡ false → (a || b) ≡ false
both_false a b h i = grind (arith, h, i)

pub planned_answer : (v : Node) (e : NodeEvent) (outs : List Out) → IsPlanned v e outs → answer_at v.who v.digest (event_of e) ≡ Happens None (move outs (run_in_place v.who e v.digest))
planned_answer v e outs plan =
    let who : Who = v.who in
    let d : Digest = v.digest in
    let m : Move = action who d (event_of e) in
    let drawn : nat_lt greatest m.next.drawn ≡ false = ap (λ (x : Move). nat_lt greatest x.next.drawn) plan.move ∙ within (run_in_place who e d).drawn plan.marks in
    let numbers : some_past_numbers m.outs ≡ false = ap (λ (x : Move). some_past_numbers x.outs) plan.move ∙ plan.numbers in
    let quiet : (is_retry e && says_nothing m.outs) ≡ false = ap (λ (b : Bool). b && says_nothing m.outs) plan.retry in
    happens who d (event_of e) (refused_not who d e plan.drawn plan.refused (both_false (nat_lt greatest m.next.drawn) (some_past_numbers m.outs) drawn numbers) quiet)
    ∙ ap (λ (x : Move). Happens None x) plan.move

-- ---- the nodes after it

pub applied_shaped : {K : Type 0} (standing : K → Standing) (keeper : K) (here old new : Nodes) (n : ℕ) (e : NodeEvent) (outs : List Out) → old ≡ here → IsShapedSite standing keeper old → IsPlanned (node_at here n) e outs
    → ((k : ℕ) → digest_at new k ≡ cond (n == k) (run_in_place (who_at old n) e (digest_at old n)) (digest_at old k)) → IsSameSite old new → IsShapedSite standing keeper new
applied_shaped standing keeper here old new n e outs same was plan put site =
    let planned : IsPlanned (node_at old n) e outs = subst (λ (v : Nodes). IsPlanned (node_at v n) e outs) (sym same) plan in
    let after : Digest = run_in_place (who_at old n) e (digest_at old n) in
    record {
      wide = was.wide ∙ sym site.version;
      nodes = put_shaped old new n after was.nodes (drawn_shaped old n (event_of e) None (move outs after) was.nodes (planned_answer (node_at old n) e outs planned)).next put site;
    }

-- ---- the site after it

pub applied : {K : Type 0} (standing : K → Standing) (here : Site K) (keeper : K) (old new : Nodes) (shut : Option ℕ) (n : ℕ) (e : NodeEvent) (outs : List Out)
    → (let s : Site K = record { keeper = keeper; nodes = old; shut = shut } in s ≡ here) → IsPlanned (node_at here.nodes n) e outs → here.shut ≡ None
    → ((k : ℕ) → digest_at new k ≡ cond (n == k) (run_in_place (who_at old n) e (digest_at old n)) (digest_at old k)) → IsSameSite old new
    → (x : Move) × IsPlayed standing here n (event_of e) (record { refusal = None; outs = outs }) (record { keeper = keeper; nodes = new; shut = shut }) x
applied standing here keeper old new shut n e outs same plan is put site =
    let nodes : old ≡ here.nodes = ap (λ s. s.nodes) same in
    let after : Digest = run_in_place (who_at here.nodes n) e (digest_at here.nodes n) in (
      move outs after,
      record {
        answer = planned_answer (node_at here.nodes n) e outs plan;
        outs = refl;
        forced = ap (λ s. s.keeper) same;
        known = λ k. put k ∙ ap (λ (v : Nodes). cond (n == k) (run_in_place (who_at v n) e (digest_at v n)) (digest_at v k)) nodes;
        site = subst (λ (v : Nodes). IsSameSite v new) nodes site;
        open_before = is;
        open_after = ap (λ s. s.shut) same ∙ is;
      },
    )
