-- A site that starts on a fresh log is the new site of the definitions.
use Rattle.std.proofs.Common.{◌≡◌, ◌+◌, ◌++◌, ℕ, Bool, refl, ap, sym, ◌∙◌, subst, Some, List, [], ◌∷◌, arith}
use Rattle.tp_logrec.specs.declared.record.LogRec.{LogRec}
use Rattle.tp_logrec.specs.declared.record.LogVersion.{LogVersion}
use Rattle.tp_outside.specs.declared.mem_disk.MemDisk.{MemDisk}
use Rattle.tp_journal.specs.Journals.{Kept}
use Rattle.tp_journal.specs.Keeping.{longer}
use Rattle.tp_journal.specs.Records.{first_place, version_of}
use Rattle.tp_model.specs.Events.{started}
use Rattle.tp_model.specs.Happenings.{new_site}
use Rattle.tp_model.specs.Lines.{log_size}
use Rattle.tp_model.specs.NodeRun.{Opening, boot_of, origin_at}
use Rattle.tp_site.specs.Site.{IsForced, IsStarted, told_records, opening_of}
use Rattle.tp_world_sites.specs.declared.site_slot.SiteSlot.{SiteSlot}
use Rattle.tp_world_sites.specs.Sites.{IsLogged}
use Rattle.tp_world_sites.specs.Slots.{standing, IsBlank, IsFresh}
use Rattle.tp_model.specs.Disk.{fresh_disk}
use Rattle.tp_world_sites.proofs.Logs.{recs_of, stored_list, stored_gate, bytes_forced}

abbrev first_opening : List ℕ → Opening
first_opening name = record { site = name; version = LogVersion.Two; records = [] }

opening_is : (j : Kept MemDisk) (name : List ℕ) → IsBlank j → opening_of (standing j) name ≡ first_opening name
opening_is j name blank =
    made (version_of j.wide) LogVersion.Two (told_records (standing j)) [] (ap version_of blank.wide) (recs_of (first_place j.wide) j.wide j.list ∙ blank.list)
  where
    made : (v w : LogVersion) (rs qs : List LogRec) → v ≡ w → rs ≡ qs → ◌≡◌ {A = Opening} (record { site = name; version = v; records = rs }) (record { site = name; version = w; records = qs })
    made v w rs qs e f = rw (e, f) refl

-- the length of a log with one boot
boot_size : (m : ℕ) (wide : Bool) → m ≡ 10 → longer (m + 1) wide (LogRec.Boot 1) ≡ log_size (LogRec.Boot 1 ∷ [])
boot_size m wide e = ap (λ (k : ℕ). longer (k + 1) wide (LogRec.Boot 1)) e

first_log : (j : Kept MemDisk) (name : List ℕ) (x : SiteSlot) → IsBlank j → IsForced standing j (Some (LogRec.Boot 1)) x.site.keeper → IsLogged (new_site name) x
first_log j name x blank (receipt, stores) = record {
  list = stored_list j x.site.keeper (LogRec.Boot 1) receipt stores ∙ ap (λ (l : List LogRec). l ++ LogRec.Boot 1 ∷ []) blank.list;
  wide = stores.wide ∙ blank.wide;
  gate = stored_gate j x.site.keeper (LogRec.Boot 1) receipt stores ∙ boot_size j.gate j.wide blank.gate;
  unshut = stores.open_after;
  room = refl;
  closed = λ e. absurd (omega (arith, e));
  bytes = bytes_forced fresh_disk j x.site.keeper (LogRec.Boot 1) receipt blank.wide (ap (λ (n : ℕ). n + 1) blank.gate) stores blank.bytes;
}

pub fresh_started : (j : Kept MemDisk) (name : List ℕ) (x : SiteSlot) → IsBlank j → IsStarted standing j name x.site → IsFresh name x
fresh_started j name x blank first =
    let opening : opening_of (standing j) name ≡ first_opening name = opening_is j name blank in
    let boot : x.site.nodes.boot ≡ 1 = first.boot ∙ ap boot_of opening in
    let version : x.site.nodes.version ≡ LogVersion.Two = first.version ∙ ap version_of blank.wide in
    record {
      site = record {
        name = first.site;
        boot = boot;
        version = version;
        unshut = first.shut;
        log = first_log j name x blank (subst (λ (n : ℕ). IsForced standing j (Some (LogRec.Boot n)) x.site.keeper) boot first.forced);
      };
      unknown = λ k. first.known k ∙ ap (λ (o : Opening). started (origin_at o k).start) opening ∙ sym (start_is x.site.nodes.boot x.site.nodes.version boot version);
    }
  where
    start_is : (n : ℕ) (v : LogVersion) → n ≡ 1 → v ≡ LogVersion.Two → started (record { boot = n; version = v; records = [] }) ≡ started (record { boot = 1; version = LogVersion.Two; records = [] })
    start_is n v e f = rw (e, f) refl
