-- The summary of a legal history tells what the history tells.
use Rattle.std.proofs.Common.{if◌then◌else◌, ◌≡◌, ◌&&◌, ◌||◌, not, Bool, true, false, refl, ap, sym, ◌∙◌, Option, Some, None, List, [], ◌∷◌}
use Rattle.std.specs.Prelude.{reverse}
use Rattle.std.specs.Option.{option_map, is_some}
use Rattle.tp_names.specs.declared.identifiers.Aaid.{Aaid}
use Rattle.tp_names.specs.declared.outcome.Outcome.{Outcome}
use Rattle.tp_names.specs.Same.{is_aaid}
use Rattle.tp_logrec.specs.declared.record.LogRec.{LogRec}
use Rattle.tp_model.specs.declared.arc.Phase.{Phase}
use Rattle.tp_model.specs.Parts.{Origin, Entry, Key, Root, Under, Current, Digest}
use Rattle.tp_model.specs.Dialogues.{is_active, is_ready, is_rolling}
use Rattle.tp_model.specs.Transactions.{aaid_of, node_key}
use Rattle.tp_model.specs.History.{digest, records, with_rec}
use Rattle.tp_model.specs.Happenings.{log_shown}
use Rattle.tp_model.specs.Outcomes.{is_now, is_member, is_unchanged, has_left, has_commit_of, last_decision, decided, decision}
use Rattle.tp_laws.specs.RolledSeen.{is_rolling_at, is_open_at, is_same_end, goes_on as goes_on_in, rolls_seen, rolled_seen}
use Rattle.tp_laws.proofs.Knowing.{current_none}
use Rattle.tp_laws.proofs.SeenRolled.{rolled_seen_law}
use Rattle.tp_site.specs.State.{tree_of, tree_in}
use Rattle.tp_network.specs.TreeSummary.{is_in, phase_in, is_commit_of, decision_in, is_alike, goes_on, has_rolled}
use Rattle.tp_world_sites.specs.Summary.{change_of, summary, SummaryTells}

-- ---- the tree that is current, as the code has it

key_tree : (t : Aaid) (k : Key) → is_aaid t (node_key k).aaid ≡ is_aaid t (aaid_of k)
key_tree t (Root u) = refl
key_tree t (Under u b a) = refl

in_same : (t : Aaid) (v : Option Current) → is_in t (option_map tree_of v) ≡ is_now t v
in_same t None = refl
in_same t (Some c) = key_tree t c.key

rolling_same : (t : Aaid) (v : Option Current) → is_rolling (phase_in t (option_map tree_of v)) ≡ is_rolling_at t v
rolling_same t None = refl
rolling_same t (Some c) = go (is_aaid t (aaid_of c.key)) (key_tree t c.key)
  where
    go : (b : Bool) → is_aaid t (node_key c.key).aaid ≡ b → is_rolling (if is_aaid t (node_key c.key).aaid then c.phase else Phase.Nil) ≡ (b && is_rolling c.phase)
    go true i = rw i refl
    go false i = rw i refl

open_same : (t : Aaid) (v : Option Current) → (is_active (phase_in t (option_map tree_of v)) || is_ready (phase_in t (option_map tree_of v))) ≡ is_open_at t v
open_same t None = refl
open_same t (Some c) = go (is_aaid t (aaid_of c.key)) (key_tree t c.key)
  where
    go : (b : Bool) → is_aaid t (node_key c.key).aaid ≡ b
        → (is_active (if is_aaid t (node_key c.key).aaid then c.phase else Phase.Nil) || is_ready (if is_aaid t (node_key c.key).aaid then c.phase else Phase.Nil)) ≡ (b && (is_active c.phase || is_ready c.phase))
    go true i = rw i refl
    go false i = rw i refl

ends_same : (k j : Key) → is_alike (not (is_some (node_key k).branch)) (not (is_some (node_key j).branch)) ≡ is_same_end k j
ends_same (Root t) (Root u) = refl
ends_same (Root t) (Under u b a) = refl
ends_same (Under t b a) (Root u) = refl
ends_same (Under t b a) (Under u c d) = refl

goes_same : (t : Aaid) (v w : Option Current) → goes_on t (option_map tree_of v) (option_map tree_of w) ≡ goes_on_in t v w
goes_same t None w = refl
goes_same t (Some c) None = refl
goes_same t (Some c) (Some u) = ap (λ (b : Bool). b && is_alike (not (is_some (node_key c.key).branch)) (not (is_some (node_key u.key).branch))) (key_tree t u.key) ∙ ap (λ (b : Bool). is_aaid t (aaid_of u.key) && b) (ends_same c.key u.key)

rolls_same : (t : Aaid) (d : Digest) (e : Entry) (n : Digest) → has_rolled t (change_of d e n) ≡ rolls_seen t d.current (is_unchanged e.event) n.current
rolls_same t d e n =
    ap (λ (b : Bool). b || ((is_active (phase_in t (tree_in d)) || is_ready (phase_in t (tree_in d))) && not (goes_on t (tree_in d) (tree_in n)) && not (is_unchanged e.event))) (rolling_same t n.current)
    ∙ ap (λ (b : Bool). is_rolling_at t n.current || (b && not (goes_on t (tree_in d) (tree_in n)) && not (is_unchanged e.event))) (open_same t d.current)
    ∙ ap (λ (b : Bool). is_rolling_at t n.current || (is_open_at t d.current && not b && not (is_unchanged e.event))) (goes_same t d.current n.current)

-- ---- records

commit_same : (t : Aaid) (r : Option LogRec) (rs : List LogRec) → (is_commit_of t (option_map log_shown r) || has_commit_of t rs) ≡ has_commit_of t (with_rec r rs)
commit_same t None rs = refl
commit_same t (Some (LogRec.Boot n)) rs = refl
commit_same t (Some (LogRec.Ready n k s cs)) rs = refl
commit_same t (Some (LogRec.Heuristic n k u)) rs = refl
commit_same t (Some (LogRec.Commit n k s cs)) rs = refl
commit_same t (Some (LogRec.Damage n k s u r cs)) rs = refl
commit_same t (Some (LogRec.End n k u)) rs = refl

decision_same : (t : Aaid) (r : Option LogRec) (rs : List LogRec) → elim (decision_in t (option_map log_shown r)) as (λ _. Option Outcome) [ Some o ↦ Some o | None ↦ last_decision t rs ] ≡ last_decision t (with_rec r rs)
decision_same t None rs = refl
decision_same t (Some (LogRec.Boot n)) rs = refl
decision_same t (Some (LogRec.Ready n k s cs)) rs = refl
decision_same t (Some (LogRec.Heuristic n k u)) rs = refl
decision_same t (Some (LogRec.Commit n k s cs)) rs = refl
decision_same t (Some (LogRec.Damage n k s u r cs)) rs = refl
decision_same t (Some (LogRec.End n k u)) rs = refl

-- ---- every history

summary_member : (o : Origin) (t : Aaid) (h : List Entry) → o.start.records ≡ [] → (summary o t h).member ≡ is_member o t h
summary_member o t [] empty = sym (ap (is_now t) (current_none o empty))
summary_member o t (e ∷ h) empty = ap (λ (b : Bool). b || (summary o t h).member) (in_same t (digest o (e ∷ h)).current) ∙ ap (λ (b : Bool). is_now t (digest o (e ∷ h)).current || b) (summary_member o t h empty)

summary_left : (o : Origin) (t : Aaid) (h : List Entry) → (summary o t h).left ≡ has_left o t h
summary_left o t [] = refl
summary_left o t (e ∷ h) = ap (λ (b : Bool). (b && is_unchanged e.event) || (summary o t h).left) (in_same t (digest o h).current) ∙ ap (λ (b : Bool). (is_now t (digest o h).current && is_unchanged e.event) || b) (summary_left o t h)

summary_decided : (o : Origin) (t : Aaid) (h : List Entry) → o.start.records ≡ [] → (summary o t h).decided ≡ decided o t h
summary_decided o t [] empty = sym (ap (λ (rs : List LogRec). has_commit_of t (reverse rs)) empty)
summary_decided o t (e ∷ h) empty = ap (λ (b : Bool). is_commit_of t (option_map log_shown e.rec) || b) (summary_decided o t h empty) ∙ commit_same t e.rec (records o h)

summary_decision : (o : Origin) (t : Aaid) (h : List Entry) → o.start.records ≡ [] → (summary o t h).decision ≡ decision o t h
summary_decision o t [] empty = sym (ap (λ (rs : List LogRec). last_decision t (reverse rs)) empty)
summary_decision o t (e ∷ h) empty =
    ap (λ (v : Option Outcome). elim (decision_in t (option_map log_shown e.rec)) as (λ _. Option Outcome) [ Some u ↦ Some u | None ↦ v ]) (summary_decision o t h empty) ∙ decision_same t e.rec (records o h)

summary_rolled : (o : Origin) (t : Aaid) (h : List Entry) → (summary o t h).rolled ≡ rolled_seen o t h
summary_rolled o t [] = refl
summary_rolled o t (e ∷ h) =
    ap (λ (b : Bool). b || (summary o t h).rolled) (rolls_same t (digest o h) e (digest o (e ∷ h)))
    ∙ ap (λ (b : Bool). rolls_seen t (digest o h).current (is_unchanged e.event) (digest o (e ∷ h)).current || b) (summary_rolled o t h)

pub summary_tells : SummaryTells
summary_tells o up t h legal empty = record {
  member = summary_member o t h empty;
  left = summary_left o t h;
  decided = summary_decided o t h empty;
  decision = summary_decision o t h empty;
  rolled = summary_rolled o t h ∙ rolled_seen_law o up t h legal empty;
}
