-- A force over a disk that stops: what it leaves is what the definitions say.
use Rattle.std.proofs.Common.{◌≡◌, ◌⊎◌, inl, inr, ◌≤◌, ◌<◌, ◌+◌, ◌-◌, ◌^◌, ℕ, suc, max, nat_le, Bool, true, false, refl, ap, sym, ◌∙◌, subst, arith, Some, None, Result, Ok, Err, List, [], ◌∷◌, length, reverse}
use Rattle.std.specs.List.{AllByRecursion}
use Rattle.std.proofs.lemmas.Bool.Decides.{nat_tests}
use Rattle.tp_logrec.specs.declared.record.LogRec.{LogRec}
use Rattle.tp_outside.specs.Story.{Story, Made, Synced, seen, IsSettled}
use Rattle.tp_outside.specs.Fill.{filled, filled_range}
use Rattle.tp_outside.specs.MemDisk.{Recorded, recorded, fresh, settled}
use Rattle.std.specs.Result.{IsErrAnd}
use Rattle.tp_world_sites.specs.declared.fault.WorldFault.{WorldFault}
use Rattle.tp_outside.specs.FuseDisk.{Fused, fused, fault_count_of, IsReady, GoesOn, StopsAfter, Starves}
use Rattle.tp_outside.specs.declared.fuse_disk.FuseDisk.{FuseDisk}
use Rattle.tp_outside.specs.declared.mem_disk.MemDisk.{MemDisk}
use Rattle.tp_outside.proofs.Fills.{filled_is_image}
use Rattle.tp_journal.specs.Journals.{Kept, bodies_in}
use Rattle.tp_journal.specs.Journals.{standing_of}
use Rattle.tp_journal.specs.Keeping.{Standing, Stored, Forces}
use Rattle.tp_journal.specs.declared.receipts.Receipt.{Receipt}
use Rattle.tp_journal.specs.declared.faults.ForceFault.TheVariants as force
use Rattle.tp_journal.specs.Log.{StandsInFront, place_behind}
use Rattle.tp_journal.specs.Records.{HasText, text, bodies_of, wide_of, recs_of}
use Rattle.tp_journal.specs.Start.{Starts, SyncsAlone}
use Rattle.tp_journal.specs.Stops.{Opens, StopsOpening, body_piece, with_piece, with_gate}
use Rattle.tp_journal.proofs.RecordBodies.{wide_is, recs_is}
use Rattle.tp_journal.proofs.Unique.{one_meaning}
use Rattle.tp_model.specs.declared.out_line.RecordFate.{RecordFate}
use Rattle.tp_model.specs.Disk.{Disk, Remains, disk_bytes, forced, remains, remains_before_gate, remains_at_gate}
use Rattle.tp_model.specs.Lines.{log_size, most_bytes}
use Rattle.tp_world_sites.specs.Left.{IsReadable, LeavesBy, IsFused, FuseStarts}
use Rattle.tp_world_sites.specs.declared.left.Stop.{Stop}
use Rattle.tp_world_sites.proofs.Remaining.{stands_for_records, place_is, size_is, left_before_gate, left_at_gate, gate_remains, left_forced}

-- ---- the start

pub fuse_started : (disk : FuseDisk) (rs : List LogRec) (j : Kept FuseDisk) → StandsInFront (seen (fused disk).disk.story) (bodies_of true rs) → length (seen (fused disk).disk.story) < 2 ^ 64 → AllByRecursion (HasText true) rs
    → Starts (Some (fused disk).disk.story) (Some (fused j.disk).disk.story) j.gate (bodies_in j) × (j.shut ≡ None) → AllByRecursion (HasText j.wide) j.list
    → SyncsAlone (Some (fused disk).disk.story) (Some (fused disk)) (Some (fused j.disk)) → IsFused disk rs j
fuse_started disk rs j stands small texts started again syncs =
    let s : Story = (fused disk).disk.story in
    let at = started.0.2 s refl in
    let one : bodies_in j ≡ bodies_of true rs = one_meaning (seen s) (bodies_in j) (bodies_of true rs) small at.0 (inl stands) in
    record {
      list = sym (recs_is j.wide j.list again) ∙ ap recs_of one ∙ recs_is true rs texts;
      wide = sym (wide_is j.wide j.list) ∙ ap wide_of one ∙ wide_is true rs;
      gate = started.0.3 ∙ ap place_behind one;
      unshut = started.1;
      syncs = syncs s (bodies_of true rs) refl stands;
    }

-- ---- the answer

-- what a `?` hands on
pub gives_memory : (stop : Stop) (r : LogRec) (d : Disk) (f : WorldFault) (res : Result MemDisk WorldFault) → f ≡ WorldFault.NoMemory → IsErrAnd res (λ y. y ≡ f) → LeavesBy stop r d res
gives_memory stop r d f (Ok m) e h = absurd h
gives_memory stop r d f (Err g) e h = subst (λ (q : WorldFault). LeavesBy stop r d (Err q)) (sym (h ∙ e)) tt

pub memory_alone : (disk : FuseDisk) (rs : List LogRec) (f : WorldFault) → FuseStarts disk rs (Err f) → f ≡ WorldFault.NoMemory
memory_alone disk rs WorldFault.Name h = absurd h
memory_alone disk rs (WorldFault.Limit what) h = absurd h
memory_alone disk rs WorldFault.NoMemory h = refl

-- the force over the fuse
abbrev pub standing : Kept FuseDisk → Standing
standing j = standing_of j (fault_count_of (fused j.disk)) (Some (fused j.disk).disk.story) (Some (fused j.disk))

same_gate : (n : ℕ) → n + 1 - 1 ≡ n
same_gate n = omega arith

pub opens_at : (j h : Kept FuseDisk) (r : LogRec) (receipt : Receipt) → j.wide ≡ true → Stored (standing j) r receipt (standing h) → Opens j.gate (body_piece (text true r)) (fused j.disk) (fused h.disk)
opens_at j h r receipt wide stored =
    subst (λ (b : Bool). Opens j.gate (body_piece (text b r)) (fused j.disk) (fused h.disk)) wide (subst (λ (n : ℕ). Opens n (body_piece (text j.wide r)) (fused j.disk) (fused h.disk)) (same_gate j.gate) stored.fuse)

pub stops_at : (j h : Kept FuseDisk) (r : LogRec) (n : ℕ) → j.wide ≡ true → Forces (standing j) r (Err (force.DiskFault n)) (standing h) → StopsOpening j.gate (body_piece (text true r)) (fused j.disk) (fused h.disk)
stops_at j h r n wide forces =
    subst (λ (b : Bool). StopsOpening j.gate (body_piece (text b r)) (fused j.disk) (fused h.disk)) wide (subst (λ (k : ℕ). StopsOpening k (body_piece (text j.wide r)) (fused j.disk) (fused h.disk)) (same_gate j.gate) forces.6)

-- it is not full, and not shut
pub never_full : (j h : Kept FuseDisk) (r : LogRec) (n : ℕ) → j.wide ≡ true → j.gate + 1 + 3 + length (text true r) ≤ most_bytes → Forces (standing j) r (Err (force.Full n)) (standing h) → ⊥
never_full j h r n wide room forces =
    let size : n ≡ j.gate + 1 + 3 + length (text true r) = forces.1.0 ∙ ap (λ (b : Bool). j.gate + 1 + 3 + length (text b r)) wide in
    let over : most_bytes < n = forces.1.1 in
    absurd (omega (arith, size, over, room))

pub never_shut : (j h : Kept FuseDisk) (r : LogRec) (n : ℕ) → j.shut ≡ None → Forces (standing j) r (Err (force.Shut n)) (standing h) → ⊥
never_shut j h r n unshut forces = absurd (let clash = sym unshut ∙ forces.1 in cc (clash))

-- ---- the force

-- the disk with a fuse, as it was made of these bytes
pub record IsMadeOf (d : Disk) (stop : Stop) (number : ℕ) (disk : FuseDisk) : Type 0 where
  pub story : (fused disk).disk.story ≡ Made (disk_bytes d)
  pub fails : (fused disk).disk.fails ≡ []
  pub last : (fused disk).last ≡ number
  pub fill : (fused disk).fill ≡ stop.fill
  pub calls : (fused disk).calls ≡ 0

pub made_of : (d : Disk) (stop : Stop) (last : ℕ) (mem : MemDisk) (disk : FuseDisk) → recorded mem ≡ fresh (disk_bytes d) [] → fused disk ≡ record { disk = settled (recorded mem); last = last; fill = stop.fill; calls = 0; stopped = false; refused = 0 }
    → IsMadeOf d stop last disk
made_of d stop last mem disk is made = record {
  story = ap (λ (f : Fused). f.disk.story) made ∙ ap (λ (r : Recorded). Made (seen r.story)) is;
  fails = ap (λ (f : Fused). f.disk.fails) made ∙ ap (λ (r : Recorded). r.fails) is;
  last = ap (λ (f : Fused). f.last) made;
  fill = ap (λ (f : Fused). f.fill) made;
  calls = ap (λ (f : Fused). f.calls) made;
}

-- the start over it
pub starts_on : (d : Disk) (stop : Stop) (number : ℕ) (disk : FuseDisk) (r : Result (Kept FuseDisk) WorldFault) → IsMadeOf d stop number disk → IsReadable d → length (disk_bytes d) < 2 ^ 64
    → ((rs : List LogRec) → StandsInFront (seen (fused disk).disk.story) (bodies_of true rs) → length (seen (fused disk).disk.story) < 2 ^ 64 → AllByRecursion (HasText true) rs → FuseStarts disk rs r) → FuseStarts disk (reverse d.records) r
starts_on d stop number disk r made readable small h =
    let bytes : disk_bytes d ≡ seen (fused disk).disk.story = sym (ap seen made.story) in
    h (reverse d.records) (subst (λ (f : List ℕ). StandsInFront f (bodies_of true (reverse d.records))) bytes (stands_for_records d readable)) (subst (λ (f : List ℕ). length f < 2 ^ 64) bytes small) readable.texts

module _ (d : Disk) (r : LogRec) (stop : Stop) (last : ℕ) (disk : FuseDisk) (j : Kept FuseDisk) (readable : IsReadable d) (has : HasText true r) (made : IsMadeOf d stop last disk) (is : IsFused disk (reverse d.records) j) (at_last : last ≡ max (stop.call + 1) 2) where
  abbrev g : Fused
  g = fused j.disk

  gate_is : j.gate + 1 ≡ log_size d.records
  gate_is = let same : j.gate ≡ place_behind (bodies_of true (reverse d.records)) = is.gate in let place = place_is d.records readable.texts in omega (arith, same, place)

  story : g.disk.story ≡ Synced (fused disk).disk.story
  story = is.syncs.done.0

  calls : g.calls ≡ 1
  calls = let one = ap (λ (f : Fused). f.calls) is.syncs.steps in omega (arith, one, made.calls)

  g_last : g.last ≡ last
  g_last = ap (λ (f : Fused). f.last) is.syncs.steps ∙ made.last

  g_fill : g.fill ≡ stop.fill
  g_fill = ap (λ (f : Fused). f.fill) is.syncs.steps ∙ made.fill

  ready : IsReady g (disk_bytes d)
  ready = record {
    running = is.syncs.after;
    sound = ap (λ (q : Recorded). q.fails) is.syncs.done.1.counts ∙ made.fails;
    settled = subst IsSettled (sym story) (λ c image. image);
    sees = ap seen story ∙ ap seen made.story;
  }

  within : j.gate < length (disk_bytes d)
  within = let size : length (disk_bytes d) ≡ j.gate + suc (length d.behind) = size_is stop.fill r d j.gate gate_is has in omega (arith, size)

  -- the definitions, by the call
  early : nat_le stop.call 2 ≡ true → disk_bytes (remains_before_gate stop.fill r d).disk ≡ disk_bytes (remains stop.call stop.fill r d).disk
  early e = sym (ap (λ (b : Bool). disk_bytes (elim b as (λ _. Remains) [
    | true ↦ remains_before_gate stop.fill r d
    | false ↦ elim (nat_le stop.call 4) as (λ _. Remains) [ true ↦ remains_at_gate stop.fill r d | false ↦ record { disk = forced r d; fate = RecordFate.Kept } ]
  ]).disk) e)

  abbrev by_calls : Bool → Bool → List ℕ
  by_calls a b = disk_bytes (elim a as (λ _. Remains) [
    | true ↦ remains_before_gate stop.fill r d
    | false ↦ elim b as (λ _. Remains) [ true ↦ remains_at_gate stop.fill r d | false ↦ record { disk = forced r d; fate = RecordFate.Kept } ]
  ]).disk

  at_gate : nat_le stop.call 2 ≡ false → nat_le stop.call 4 ≡ true → disk_bytes (remains_at_gate stop.fill r d).disk ≡ disk_bytes (remains stop.call stop.fill r d).disk
  at_gate e f = sym (ap (λ (b : Bool). by_calls b (nat_le stop.call 4)) e ∙ ap (λ (b : Bool). by_calls false b) f)

  past : nat_le stop.call 2 ≡ false → nat_le stop.call 4 ≡ false → disk_bytes (forced r d) ≡ disk_bytes (remains stop.call stop.fill r d).disk
  past e f = sym (ap (λ (b : Bool). by_calls b (nat_le stop.call 4)) e ∙ ap (λ (b : Bool). by_calls false b) f)

  -- the whole force was done: the stop comes after it
  pub left_whole : (h : Fused) → Opens j.gate (body_piece (text true r)) g h → filled h.fill h.disk.story ≡ disk_bytes (remains stop.call stop.fill r d).disk
  left_whole h opens =
      let goes : GoesOn 4 g h (with_gate j.gate (body_piece (text true r)) (disk_bytes d)) = opens (disk_bytes d) ready within (omega (arith, calls)) in
      let image : filled h.fill h.disk.story ≡ with_gate j.gate (body_piece (text true r)) (disk_bytes d) = goes.ready.settled (filled h.fill h.disk.story) (filled_is_image h.fill h.disk.story) ∙ goes.ready.sees in
      image ∙ left_forced stop.fill r d j.gate gate_is has ∙ go goes.passed
    where
      go : (g.last ≤ g.calls) ⊎ (g.calls + 4 < g.last) → disk_bytes (forced r d) ≡ disk_bytes (remains stop.call stop.fill r d).disk
      go (inl le) = absurd (omega (arith, le, calls, g_last, at_last))
      go (inr lt) =
          let far : 4 < stop.call = omega (arith, lt, calls, g_last, at_last) in
          past (grind (arith, nat_tests, far)) (grind (arith, nat_tests, far))

  -- it stopped in one of its calls
  pub left_part : (h : Fused) → h.stopped ≡ true → StopsOpening j.gate (body_piece (text true r)) g h → filled h.fill h.disk.story ≡ disk_bytes (remains stop.call stop.fill r d).disk
  left_part h stopped stops = go (stops (disk_bytes d) ready within (omega (arith, calls)))
    where
      go : StopsAfter 0 2 g h (filled_range g.fill (j.gate + 1) (length (body_piece (text true r))) (disk_bytes d)) ⊎ StopsAfter 2 4 g h (filled_range g.fill j.gate 1 (with_piece j.gate (body_piece (text true r)) (disk_bytes d))) ⊎ Starves g h
          → filled h.fill h.disk.story ≡ disk_bytes (remains stop.call stop.fill r d).disk
      go (inl first) =
          let near : stop.call ≤ 2 = omega (arith, first.to, calls, g_last, at_last) in
          first.image ∙ ap (λ (n : ℕ). filled_range n (j.gate + 1) (length (body_piece (text true r))) (disk_bytes d)) g_fill ∙ left_before_gate stop.fill r d j.gate gate_is has ∙ early (grind (arith, nat_tests, near))
      go (inr (inl second)) =
          let more : 2 < stop.call = omega (arith, second.from, calls, g_last, at_last) in
          let most : stop.call ≤ 4 = omega (arith, second.to, calls, g_last, at_last) in
          second.image ∙ ap (λ (n : ℕ). filled_range n j.gate 1 (with_piece j.gate (body_piece (text true r)) (disk_bytes d))) g_fill ∙ left_at_gate stop.fill r d j.gate gate_is has ∙ gate_remains stop.fill r d j.gate gate_is has
          ∙ at_gate (grind (arith, nat_tests, more)) (grind (arith, nat_tests, most))
      go (inr (inr starves)) = absurd (let clash = sym stopped ∙ starves.running in cc (clash))

  -- the record has room
  pub has_room : log_size (r ∷ d.records) ≤ most_bytes → j.gate + 1 + 3 + length (text true r) ≤ most_bytes
  has_room fits = omega (arith, gate_is, fits)
