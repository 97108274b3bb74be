-- An event that was tried, and has happened now that its record is forced.
use Rattle.std.proofs.Common.{◌≡◌, ◌==◌, inr, ℕ, refl, ap, sym, ◌∙◌, subst, cond, Option, Some, None, List, [], ◌∷◌, ◌++◌, map, Ok, Err}
use Rattle.tp_logrec.specs.declared.record.LogRec.{LogRec}
use Rattle.tp_logrec.specs.declared.record.LogVersion.{LogVersion}
use Rattle.tp_model.specs.declared.refusal.Refusal.{Refusal}
use Rattle.tp_model.specs.declared.transaction.TxFault.{TxFault}
use Rattle.tp_model.specs.Parts.{Event, Digest, Out}
use Rattle.tp_model.specs.Node.{Move}
use Rattle.tp_node.specs.declared.event.NodeEvent.{NodeEvent}
use Rattle.tp_node.specs.NodeEvent.{event_of}
use Rattle.tp_model.specs.Events.{started}
use Rattle.tp_model.specs.NodeRun.{boot_of, records_at}
use Rattle.tp_journal.specs.declared.faults.ForceFault.{ForceFault}
use Rattle.tp_journal.specs.declared.faults.ForceFault.TheVariants as force
use Rattle.tp_journal.specs.Keeping.{Standing}
use Rattle.tp_journal.specs.Records.{version_of}
use Rattle.tp_journal.specs.declared.receipts.Receipt.{Receipt}
use Rattle.tp_draft.specs.Draft.{Draft}
use Rattle.tp_site.specs.declared.faults.LogFault.{LogFault}
use Rattle.tp_site.specs.declared.faults.SiteFault.{SiteFault}
use Rattle.tp_site.specs.Faults.{fault_of, site_fault, start_fault, unfound}
use Rattle.tp_site.specs.Nodes.{Nodes, IsSameSite, digest_at}
use Rattle.tp_site.specs.Events.{IsAt, all_nodes}
use Rattle.tp_site.specs.declared.prepared.Prepared.{Prepared}
use Rattle.tp_site.specs.Prepared.{emptied, refusal_of, Prepares, CarriesOut, HasRun}
use Rattle.tp_site.specs.Site.{Site, IsSame, IsForced, IsUnforced, IsAttempted, IsSettled, IsPlayed, IsHalted, IsFound, IsUnfound, IsUnstarted, Attempts, Settles, Plays, Opens, Starts, told_records, opening_of, rec_of, known_at}
use Rattle.tp_site.proofs.Stepping.{wide_forced, kept_forced}

pub settled : {K : Type 0} (standing : K → Standing) (old mid new : Site K) (n : ℕ) (e : Event) (refusal : Option Refusal) (a b : Draft) → IsAttempted old n e refusal a mid → b ≡ emptied a
    → IsSettled standing mid n b.move.next b.move.rec new → IsPlayed standing old n e (record { refusal = refusal; outs = a.move.outs }) new a.move
settled standing old mid new n e refusal a b tried taken done = record {
  answer = tried.answer;
  outs = refl;
  forced = subst (λ (r : Option LogRec). IsForced standing old.keeper r new.keeper) (ap (λ (d : Draft). d.move.rec) taken) (subst (λ k. IsForced standing k b.move.rec new.keeper) tried.keeper done.forced);
  known = λ k. done.known k ∙ ap (λ (d : Draft). cond (n == k) d.move.next (known_at mid k)) taken ∙ ap (cond (n == k) a.move.next) (tried.same.known k);
  site = record {
    site = done.site.site ∙ tried.same.site.site;
    boot = done.site.boot ∙ tried.same.site.boot;
    version = done.site.version ∙ tried.same.site.version;
  };
  open_before = tried.open_before;
  open_after = done.shut ∙ tried.open_after;
}

-- ---- what was prepared and was carried out

pub carried : {K : Type 0} (standing : K → Standing) (old mid new : Site K) (n : ℕ) (e : NodeEvent) (p : Prepared) (draft : Draft) (outs : List Out) → Prepares standing old n e (Ok p) draft outs mid
    → CarriesOut standing mid n e p draft (Ok tt) new → (m : Move) × IsPlayed standing old n (event_of e) (record { refusal = refusal_of p; outs = outs }) new m
carried {K} standing old mid new n e Prepared.InPlace draft outs h done = subst (λ (s : Site K). HasRun standing s n e new) h.1 done outs h.0
carried standing old mid new n e (Prepared.Drawn r) draft outs h done =
    subst (λ (l : List Out). (m : Move) × IsPlayed standing old n (event_of e) (record { refusal = r; outs = l }) new m) (sym h.outs)
    (h.whole.move, settled standing old mid new n (event_of e) r h.whole draft h.attempted h.rest done)

pub same_site : {K : Type 0} (standing : K → Standing) (old mid : Site K) (n : ℕ) (e : NodeEvent) (p : Prepared) (draft : Draft) (outs : List Out) → Prepares standing old n e (Ok p) draft outs mid → mid.nodes.site ≡ old.nodes.site
same_site standing old mid n e Prepared.InPlace draft outs h = ap (λ s. s.nodes.site) h.1
same_site standing old mid n e (Prepared.Drawn r) draft outs h = h.attempted.same.site.site

-- ---- what was tried and does not happen

pub attempted : {K : Type 0} (standing : K → Standing) (old new : Site K) (n : ℕ) (e : Event) (f : TxFault) (a : Draft) → Attempts standing old n e (Err f) a new → Plays standing old n e (Err (fault_of f)) new
attempted standing old new n e (TxFault.Refused k) a h = h
attempted standing old new n e TxFault.NoMemory a h = (h.0, ap standing h.1, h.2, h.3)

-- the nodes are as before where they are those of a site that was
abbrev IsSameNodes : {K : Type 0} → Site K → Nodes → Type 0
IsSameNodes old v = IsSameSite old.nodes v × ((n : ℕ) → digest_at v n ≡ known_at old n)

same_after : {K : Type 0} (old mid new : Site K) → IsSame old mid → new.nodes ≡ mid.nodes → IsSame old new
same_after old mid new same nodes =
    let both : IsSameNodes old new.nodes = subst (λ (v : Nodes). IsSameNodes old v) (sym nodes) (same.site, same.known) in
    record { site = both.0; known = both.1 }

-- where memory is wanting before anything is tried, nothing changes
pub unplanned : {K : Type 0} (standing : K → Standing) (s : Site K) (n : ℕ) (e : Event) → s.shut ≡ None → Plays standing s n e (Err SiteFault.NoMemory) s
unplanned standing s n e is = (record { site = record { site = refl; boot = refl; version = refl }; known = λ k. refl }, refl, is, is)

-- its record was not forced
unforced : {K : Type 0} (standing : K → Standing) (old mid new : Site K) (n : ℕ) (e : Event) (refusal : Option Refusal) (a : Draft) (rec : Option LogRec) (fault : ForceFault) → IsAttempted old n e refusal a mid → rec ≡ a.move.rec
    → IsUnforced standing mid.keeper rec fault new.keeper → new.nodes ≡ mid.nodes → IsHalted standing old n e fault new
unforced standing old mid new n e refusal a rec fault tried is un nodes = record {
  unforced =
      subst (λ (r : Option LogRec). IsUnforced standing old.keeper r fault new.keeper) (is ∙ sym (ap rec_of tried.answer))
      (subst (λ k. IsUnforced standing k rec fault new.keeper) tried.keeper un);
  open_before = tried.open_before;
  same = same_after old mid new tried.same nodes;
}

pub halted : {K : Type 0} (standing : K → Standing) (old mid new : Site K) (n : ℕ) (e : Event) (refusal : Option Refusal) (a : Draft) (d : Digest) (rec : Option LogRec) (f : ForceFault) → IsAttempted old n e refusal a mid → rec ≡ a.move.rec
    → Settles standing mid n d rec (Err f) new → Plays standing old n e (Err (site_fault f)) new
halted standing old mid new n e refusal a d rec (force.Full size) tried is h = (unforced standing old mid new n e refusal a rec (force.Full size) tried is h.0 h.1, h.2 ∙ tried.open_after)
halted standing old mid new n e refusal a d rec (force.DiskFault faults) tried is h = (unforced standing old mid new n e refusal a rec (force.DiskFault faults) tried is h.0 h.1, h.2)
halted standing old mid new n e refusal a d rec (force.Shut faults) tried is h = inr (unforced standing old mid new n e refusal a rec (force.Shut faults) tried is h.0 h.1, h.2 ∙ tried.open_after)
halted standing old mid new n e refusal a d rec force.NoMemory tried is h =
    (same_after old mid new tried.same h.1, h.0 ∙ ap standing tried.keeper, tried.open_before, h.2 ∙ tried.open_after)

-- ---- a start that fails

pub unfound_starts : {K : Type 0} (standing : K → Standing) (keeper : K) (name : List ℕ) (f : LogFault) → IsUnfound (standing keeper) name f → Starts standing keeper name (Err (keeper, unfound f))
unfound_starts standing keeper name (LogFault.Foreign at) h = (h, refl)
unfound_starts standing keeper name LogFault.BootsSpent h = (h.0, h.1, refl)
unfound_starts standing keeper name LogFault.NoMemory h = refl

unstarted : {K : Type 0} (standing : K → Standing) (old new : K) (name : List ℕ) (v : Nodes) (fault : ForceFault) → IsFound (standing old) name v → IsUnforced standing old (Some (LogRec.Boot v.boot)) fault new → IsUnstarted standing old name fault new
unstarted standing old new name v fault found h = record {
  order = found.order;
  unforced = subst (λ (n : ℕ). IsUnforced standing old (Some (LogRec.Boot n)) fault new) found.boot h;
}

pub opened_starts : {K : Type 0} (standing : K → Standing) (old new : K) (name : List ℕ) (v : Nodes) (f : ForceFault) → IsFound (standing old) name v → Opens standing old v (Err (new, f)) → Starts standing old name (Err (new, start_fault f))
opened_starts standing old new name v (force.Full size) found h = unstarted standing old new name v (force.Full size) found h
opened_starts standing old new name v (force.DiskFault faults) found h = unstarted standing old new name v (force.DiskFault faults) found h
opened_starts standing old new name v (force.Shut faults) found h = unstarted standing old new name v (force.Shut faults) found h
opened_starts standing old new name v force.NoMemory found h = h

-- ---- a start

pub opened_at : {K : Type 0} (standing : K → Standing) (old : K) (name : List ℕ) (v : Nodes) (s : Site K) → IsFound (standing old) name v → Opens standing old v (Ok s) → (standing old).told ≡ (standing old).kept
    → IsAt standing all_nodes (opening_of (standing old) name) [] s
opened_at standing old name v s found done whole =
    let boot : v.boot ≡ boot_of (opening_of (standing old) name) = found.boot in
    record {
      site = ap (λ (x : Nodes). x.site) done.0 ∙ found.site;
      boot = ap (λ (x : Nodes). x.boot) done.0 ∙ boot;
      version = ap (λ (x : Nodes). x.version) done.0 ∙ found.version;
      wide = ap version_of (wide_forced standing old s.keeper (Some (LogRec.Boot v.boot)) done.1);
      known = λ n mine. ap (λ (x : Nodes). digest_at x n) done.0 ∙ found.from n
          ∙ ap (λ (b : ℕ). started (record { boot = b; version = v.version; records = records_at n (told_records (standing old)) })) boot
          ∙ ap (λ (x : LogVersion). started (record { boot = boot_of (opening_of (standing old) name); version = x; records = records_at n (told_records (standing old)) })) found.version;
      kept = kept_forced standing old s.keeper (Some (LogRec.Boot v.boot)) done.1
          ∙ ap (λ (l : List Receipt). map (λ (r : Receipt). r.rec) l ++ LogRec.Boot v.boot ∷ []) (sym whole)
          ∙ ap (λ (b : ℕ). told_records (standing old) ++ LogRec.Boot b ∷ []) boot;
    }
