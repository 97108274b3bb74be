-- The next start of a site on its log: its boot number, and what it finds of each number.
use Rattle.tp_site_logs.proofs.Vocabulary.{◌≡◌, ◌≤◌, ◌++◌, ◌+◌, ℕ, zero, suc, Bool, true, false, refl, ap, sym, ◌∙◌, subst, arith, Option, Some, None, List, [], ◌∷◌, length, reverse, is_name, name_same, LogRec, LogVersion, boots, last_number, Origin, started, digest, records, again, is_start, records_at, World, Node, Site, number_of, site_of, find_node, find_site, log_of, forced_by, one_to}
use Rattle.tp_model.specs.NodeRun.{boot_of, origin_at}
use Rattle.tp_model.specs.Happenings.{Happening, run}
use Rattle.tp_histories.proofs.log.RestartLog.{restart_run}
use Rattle.tp_histories.proofs.log.WellLog.{run_starts}
use Rattle.tp_histories.proofs.worlds.Nodes.{find_is}
use Rattle.tp_site_logs.specs.SiteLogs.{TellsItsNodes, StartsNext, DisksStart, next_opening, stops}
use Rattle.tp_site_logs.proofs.Tells.{forced_there}
use Rattle.tp_site_logs.proofs.EveryLog.{run_tells, disks_tell}

-- ---- boots

last_one : (ms : List ℕ) (m : ℕ) → last_number (ms ++ m ∷ []) ≡ m
last_one [] m = refl
last_one (k ∷ []) m = refl
last_one (k ∷ j ∷ ms) m = last_one (j ∷ ms) m

last_to : (n : ℕ) → last_number (one_to n) ≡ n
last_to zero = refl
last_to (suc n) = last_one (one_to n) (suc n)

length_one : (ms : List ℕ) (m : ℕ) → length (ms ++ m ∷ []) ≡ suc (length ms)
length_one [] m = refl
length_one (k ∷ ms) m = ap suc (length_one ms m)

length_to : (n : ℕ) → length (one_to n) ≡ n
length_to zero = refl
length_to (suc n) = length_one (one_to n) (suc n) ∙ ap suc (length_to n)

boots_fewer : (rs : List LogRec) → length (boots rs) ≤ length rs
boots_fewer [] = omega arith
boots_fewer (LogRec.Boot n ∷ rs) = let h = boots_fewer rs in omega (arith, h)
boots_fewer (LogRec.Ready n k a cs ∷ rs) = let h = boots_fewer rs in omega (arith, h)
boots_fewer (LogRec.Heuristic n k o ∷ rs) = let h = boots_fewer rs in omega (arith, h)
boots_fewer (LogRec.Commit n k a cs ∷ rs) = let h = boots_fewer rs in omega (arith, h)
boots_fewer (LogRec.Damage n k a o r cs ∷ rs) = let h = boots_fewer rs in omega (arith, h)
boots_fewer (LogRec.End n k o ∷ rs) = let h = boots_fewer rs in omega (arith, h)

next_boot : (x : Site) → boots (log_of x) ≡ one_to x.boot → boot_of (next_opening x) ≡ suc x.boot
next_boot x starts = ap (λ (ms : List ℕ). suc (last_number ms)) starts ∙ ap suc (last_to x.boot)

-- ---- where a history begins

pub begin_at : (s t : List ℕ) (n a b : ℕ) (v u : LogVersion) (rs qs : List LogRec) → s ≡ t → a ≡ b → v ≡ u → rs ≡ qs
    → ◌≡◌ {A = Origin} (record { who = record { site = s; node = n }; start = record { boot = a; version = v; records = rs } }) (record { who = record { site = t; node = n }; start = record { boot = b; version = u; records = qs } })
begin_at s t n a b v u rs qs h i j k = rw (h, i, j, k) refl

-- of a node of the site: as after a crash
as_again : (w : World) (x : Site) (n : Node) → TellsItsNodes w x → find_node w.nodes (number_of n) ≡ Some n → is_name (site_of n) x.name ≡ true → n.origin.start.version ≡ LogVersion.Two
    → origin_at (next_opening x) (number_of n) ≡ again n.origin n.history
as_again w x n told here on version =
    begin_at x.name (site_of n) (number_of n) (boot_of (next_opening x)) (suc (digest n.origin n.history).boot) LogVersion.Two n.origin.start.version (records_at (number_of n) (log_of x)) (reverse (records n.origin n.history))
    (sym (name_same (site_of n) x.name on)) (next_boot x told.starts ∙ ap suc (sym (told.last n here on))) (sym version)
    (told.nodes (number_of n) ∙ ap (forced_by x.name) here ∙ rw (on, forced_by) refl)

-- of a number without records: as of one that never was
started_with : (a b : ℕ) (v : LogVersion) (rs qs : List LogRec) → a ≡ b → rs ≡ qs
    → started (record { boot = a; version = v; records = rs }) ≡ started (record { boot = b; version = v; records = qs })
started_with a b v rs qs h i = rw (h, i) refl

empty_start : (o : Origin) → o.start.records ≡ [] → is_start o ≡ true
empty_start o empty = rw (empty, is_start) refl

starts_next : (es : List Happening) (s : List ℕ) (x : Site) → find_site (run es).sites s ≡ Some x → TellsItsNodes (run es) x → StartsNext (run es) x
starts_next es s x at told = record {
  order = told.order;
  legal = λ k. legal k (find_node (run es).nodes k) refl;
  boot = next_boot x told.starts;
  most = subst (λ (m : ℕ). m ≤ length (log_of x)) (ap length told.starts ∙ length_to x.boot) (boots_fewer (log_of x));
  nodes = λ n here on. ap (λ (o : Origin). digest o []) (as_again (run es) x n told here on (version n here)) ∙ restart_run es n here;
  others = λ k none. started_with (boot_of (next_opening x)) (suc x.boot) LogVersion.Two (records_at k (log_of x)) [] (next_boot x told.starts) none;
}
  where
    version : (n : Node) → find_node (run es).nodes (number_of n) ≡ Some n → n.origin.start.version ≡ LogVersion.Two
    version n here = ((run_tells es).sound (number_of n) n here).version

    stands : (n : Node) (b : Bool) → find_node (run es).nodes (number_of n) ≡ Some n → is_name (site_of n) x.name ≡ b → is_start (origin_at (next_opening x) (number_of n)) ≡ true
    stands n true here on = ap is_start (as_again (run es) x n told here on (version n here)) ∙ run_starts es n here
    stands n false here off = empty_start (origin_at (next_opening x) (number_of n)) (told.nodes (number_of n) ∙ ap (forced_by x.name) here ∙ forced_there x.name n off)

    legal : (k : ℕ) (o : Option Node) → find_node (run es).nodes k ≡ o → is_start (origin_at (next_opening x) k) ≡ true
    legal k None here = empty_start (origin_at (next_opening x) k) (told.nodes k ∙ ap (forced_by x.name) here)
    legal k (Some n) here =
        let same : number_of n ≡ k = find_is (run es).nodes k n here in
        subst (λ (m : ℕ). is_start (origin_at (next_opening x) m) ≡ true) same (stands n (is_name (site_of n) x.name) (ap (find_node (run es).nodes) same ∙ here) refl)

pub disks_start : (es : List Happening) → DisksStart (run es)
disks_start es s x at = starts_next es s x at (disks_tell es s x at)

pub boots_most : (es : List Happening) (s : List ℕ) (x : Site) → find_site (run es).sites s ≡ Some x → boot_of (next_opening x) ≤ stops es + 2
boots_most es s x at = below x.boot (stops es) (boot_of (next_opening x)) ((run_tells es).boots s x at) (next_boot x (disks_tell es s x at).starts)
  where
    below : (b m c : ℕ) → b ≤ suc m → c ≡ suc b → c ≤ m + 2
    below b m c h i = omega (arith, h, i)
