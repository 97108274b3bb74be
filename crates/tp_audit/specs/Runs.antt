-- The logs that stand on the disks of a world's sites.
use Rattle.std.specs.Prelude.{ℕ, ◌≡◌, Some, None, List, [], ◌∷◌, Any}
use Rattle.std.specs.List.{AllByRecursion}
use Rattle.tp_logrec.specs.declared.record.LogRec.{LogRec}
use Rattle.tp_model.specs.World.{World, Site, find_site}
use Rattle.tp_laws.specs.SiteLogs.{log_of}
use Rattle.tp_audit.specs.Entries.{SiteLog}

-- the records on the disk of the site of that name
abbrev pub records_on : World → List ℕ → List LogRec
records_on w s = elim (find_site w.sites s) [ None ↦ [] | Some x ↦ log_of x ]

-- the whole logs of these sites
abbrev pub logs_on : World → List Site → List SiteLog
logs_on w [] = []
logs_on w (x ∷ xs) = record { site = x.name; records = records_on w x.name } ∷ logs_on w xs

-- of all sites
abbrev pub logs_of : World → List SiteLog
logs_of w = logs_on w w.sites

-- Each is the whole log of its site. They may be of some of the sites, in any order.
abbrev pub AreWhole : World → List SiteLog → Type 0
AreWhole w logs = AllByRecursion (λ (l : SiteLog). l.records ≡ records_on w l.site) logs

-- Each record stands on the disk of its site. The logs may be of some of the sites, in any order, and want some of the records, as
-- those that were copied earlier do.
abbrev pub AreOn : World → List SiteLog → Type 0
AreOn w logs = AllByRecursion (λ (l : SiteLog). AllByRecursion (λ (r : LogRec). Any (λ q. q ≡ r) (records_on w l.site)) l.records) logs
