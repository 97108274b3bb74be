-- What stands in a copy of a log was forced by the node that it is of.
use Rattle.std.proofs.Common.{◌≡◌, ◌==◌, ◌⊎◌, inl, inr, ◌<◌, ◌^◌, ℕ, suc, Bool, true, false, refl, ap, sym, ◌∙◌, subst, arith, Option, Some, None, List, [], ◌∷◌, reverse, length}
use Rattle.std.specs.Prelude.{Any, if◌then◌else◌}
use Rattle.std.proofs.lemmas.Bool.Decides.{nat_tests}
use Rattle.tp_names.specs.declared.identifiers.Addr.{Addr}
use Rattle.tp_names.specs.Same.{is_name}
use Rattle.tp_names.proofs.Sames.{name_self}
use Rattle.tp_logrec.specs.declared.owner.Owner.{Owner}
use Rattle.tp_logrec.specs.declared.record.LogRec.{LogRec}
use Rattle.tp_logrec.specs.LogText.{IsLog}
use Rattle.tp_logrec.specs.Order.{owner_of, brief}
use Rattle.tp_logrec.proofs.Logs.{one_list}
use Rattle.tp_model.specs.History.{records}
use Rattle.tp_model.specs.NodeRun.{is_record_at, records_at, node_run}
use Rattle.tp_model.specs.World.{World, Node, Site, find_node}
use Rattle.tp_site_logs.specs.Lives.{Life, opening_after, history_over, first_origin}
use Rattle.tp_site_logs.proofs.Lives.{logged}
use Rattle.tp_site_logs.proofs.Places.{find_name}
use Rattle.tp_laws.specs.SiteLogs.{DisksTell, log_of, forced_by}
use Rattle.tp_deployments.specs.Deployments.{Deed, Place, AreArranged, IsDeployment, life_after, history_at}
use Rattle.tp_deployments.specs.RunOf.{node_at, nodes_of, IsRunOf}
use Rattle.tp_processes.specs.Processes.{Process, IsShortened, AreProcesses, IsLogOf, StandsIn, happened_in, life_of}
use Rattle.tp_processes.proofs.Parts.{in_front, brief_part}
use Rattle.tp_processes.proofs.Chained.{leave_the_log}
use Rattle.tp_audit.specs.Runs.{records_on}
use Rattle.tp_readers.specs.Audits.{IsOneOf}
use Rattle.tp_readers.proofs.Nodes.{found_there}
use Rattle.tp_readers.proofs.Placed.{NoneOr, none_or_there}

-- ---- a copy has no other records than the whole log

one_process : (p : Process) (file : List ℕ) (records : List LogRec) (s : List ℕ) (life : Life) (r : LogRec) (o : Owner) → (file ≡ p.left) ⊎ IsShortened file p.left → length file < 2 ^ 64 → IsLog file records → IsLogOf s life p.left
    → owner_of r ≡ Some o → StandsIn records r → StandsIn (opening_after s life).records r
one_process p file records s life r o (inl same) small log k own is =
    let one : records ≡ k.records = one_list file records k.records small log (subst (λ (f : List ℕ). IsLog f k.records) (sym same) k.log) in
    k.part r o own (subst (λ (l : List LogRec). StandsIn l r) one is)
one_process p file records s life r o (inr x) small log k own is =
    let one : x.records ≡ k.records = one_list p.left x.records k.records x.small x.before k.log in
    let short : records ≡ brief k.records = one_list file records (brief k.records) small log (subst (λ (l : List LogRec). IsLog file (brief l)) one x.after) in
    k.part r o own (brief_part k.records r o own (subst (λ (l : List LogRec). StandsIn l r) short is))

goes_on : (s : List ℕ) (p : Process) (ps : List Process) (r : LogRec) → StandsIn (opening_after s (life_of s ps)).records r → StandsIn (opening_after s (life_of s (p ∷ ps))).records r
goes_on s p ps r is = go p.begun
  where
    go : (b : Bool) → StandsIn (opening_after s (elim b as (λ _. Life) [ true ↦ happened_in s p ∷ life_of s ps | false ↦ life_of s ps ])).records r
    go true = in_front (opening_after s (life_of s ps)).records (node_run (opening_after s (life_of s ps)) (happened_in s p)).log r is
    go false = is

pub in_whole : (s : List ℕ) (ps : List Process) (r : LogRec) (o : Owner) → AreProcesses s ps → owner_of r ≡ Some o → (q : Process) (file : List ℕ) (records : List LogRec) → IsOneOf q ps → (file ≡ q.left) ⊎ IsShortened file q.left → length file < 2 ^ 64 → IsLog file records
    → StandsIn records r → StandsIn (opening_after s (life_of s ps)).records r
in_whole s [] r o are own q file records among from small log is = absurd among
in_whole s (p ∷ ps) r o are own q file records (inl here) from small log is =
    one_process p file records s (life_of s (p ∷ ps)) r o (subst (λ (x : Process). (file ≡ x.left) ⊎ IsShortened file x.left) (sym here) from) small log (leave_the_log s p ps are) own is
in_whole s (p ∷ ps) r o are own q file records (inr more) from small log is = goes_on s p ps r (in_whole s ps r o are.2 own q file records more from small log is)

-- ---- on the disk of the run

at_own : (r : LogRec) (o : Owner) (rs : List LogRec) → owner_of r ≡ Some o → StandsIn rs r → StandsIn (records_at o.node rs) r
at_own r o [] own is = is
at_own r o (q ∷ rs) own is = go (is_record_at o.node q) refl is (λ more. at_own r o rs own more)
  where
    own_number : is_record_at o.node r ≡ true
    own_number = let itself : (o.node == o.node) ≡ true = grind (arith, nat_tests) in ap (λ (x : Option Owner). elim x as (λ _. Bool) [ None ↦ false | Some p ↦ p.node == o.node ]) own ∙ itself

    go : (b : Bool) → is_record_at o.node q ≡ b → (q ≡ r) ⊎ StandsIn rs r → (StandsIn rs r → StandsIn (records_at o.node rs) r) → StandsIn (elim b as (λ _. List LogRec) [ true ↦ q ∷ records_at o.node rs | false ↦ records_at o.node rs ]) r
    go true i (inl here) rest = inl here
    go true i (inr more) rest = inr (rest more)
    go false i (inl here) rest = absurd (let off : is_record_at o.node r ≡ false = ap (is_record_at o.node) (sym here) ∙ i in cc (own_number, off))
    go false i (inr more) rest = rest more

among_all : (n : ℕ) (r : LogRec) (rs : List LogRec) → StandsIn (records_at n rs) r → StandsIn rs r
among_all n r [] is = is
among_all n r (q ∷ rs) is = go (is_record_at n q) is (among_all n r rs)
  where
    go : (b : Bool) → StandsIn (elim b as (λ _. List LogRec) [ true ↦ q ∷ records_at n rs | false ↦ records_at n rs ]) r → (StandsIn (records_at n rs) r → StandsIn rs r) → (q ≡ r) ⊎ StandsIn rs r
    go true (inl here) rest = inl here
    go true (inr more) rest = inr (rest more)
    go false more rest = inr (rest more)

-- of each number the log has what one history forced
logged_over : (s : List ℕ) (life : Life) (n : ℕ) → records_at n (opening_after s life).records ≡ reverse (records (first_origin s n) (history_over s life n))
logged_over s [] n = refl
logged_over s (gs ∷ life) n = logged s gs life n

pub any_of : (rs : List LogRec) (r : LogRec) → StandsIn rs r → Any (λ (q : LogRec). q ≡ r) rs
any_of [] r is = absurd is
any_of (q ∷ rs) r (inl here) = (0, q, omega arith, refl, here)
any_of (q ∷ rs) r (inr more) = let k = any_of rs r more in (suc k.0, k.1, omega (arith, k.2), k.3, k.4)

module _ (qs : List Place) (ds : List Deed) (w : World) (arr : AreArranged qs) (dep : IsDeployment qs ds) (is_run : IsRunOf qs ds w) (tell : DisksTell w) where
  here_forced : (s : List ℕ) (n : ℕ) (q : Place) → q.addr ≡ record { site = s; node = n } → forced_by s (Some (node_at ds q)) ≡ reverse (records (first_origin s n) (history_at ds (record { site = s; node = n })))
  here_forced s n q is =
      ap (λ (b : Bool). if b then reverse (records (first_origin q.addr.site q.addr.node) (history_at ds q.addr)) else []) (ap (λ (a : Addr). is_name a.site s) is ∙ name_self s)
      ∙ ap (λ (a : Addr). reverse (records (first_origin a.site a.node) (history_at ds a))) is

  pub on_disk : (s : List ℕ) (r : LogRec) (o : Owner) → owner_of r ≡ Some o → StandsIn (opening_after s (life_after ds s)).records r → StandsIn (records_on w s) r
  on_disk s r o own stands = go (none_or_there qs ds dep a)
    where
      n : ℕ
      n = o.node

      a : Addr
      a = record { site = s; node = n }

      forced : StandsIn (reverse (records (first_origin s n) (history_at ds a))) r
      forced = subst (λ (l : List LogRec). StandsIn l r) (logged_over s (life_after ds s) n) (at_own r o (opening_after s (life_after ds s)).records own stands)

      go : NoneOr qs ds a → StandsIn (records_on w s) r
      go (inl none) = absurd (subst (λ (l : List LogRec). StandsIn (reverse l) r) none forced)
      go (inr there) =
          let q : Place = there.0 in
          let x = is_run.sites a there in
          let name : x.0.name ≡ s = find_name w.sites s x.0 x.1 in
          let found : find_node w.nodes n ≡ Some (node_at ds q) =
          ap (λ (ns : List Node). find_node ns n) is_run.nodes ∙ ap (λ (b : Addr). find_node (nodes_of qs ds) b.node) (sym there.2) ∙ found_there qs ds q arr there.1 in
          let told : records_at n (log_of x.0) ≡ reverse (records (first_origin s n) (history_at ds a)) =
          (tell s x.0 x.1).nodes n ∙ ap (λ (t : List ℕ). forced_by t (find_node w.nodes n)) name ∙ ap (forced_by s) found ∙ here_forced s n q there.2 in
          let log : StandsIn (log_of x.0) r = among_all n r (log_of x.0) (subst (λ (l : List LogRec). StandsIn l r) (sym told) forced) in
          subst (λ (f : Option Site). StandsIn (elim f as (λ _. List LogRec) [ None ↦ [] | Some y ↦ log_of y ]) r) (sym x.1) log
