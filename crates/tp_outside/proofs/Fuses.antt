-- A write and a sync over a fuse, done or stopped, and two such runs, one after the other.
use Rattle.std.proofs.Common.{◌≡◌, ◌≢◌, ◌⊎◌, inl, inr, ◌+◌, ◌<◌, ◌≤◌, ◌^◌, ◌==◌, ℕ, true, false, Option, Some, None, List, [], length, refl, sym, ap, ◌∙◌, subst, arith}
use Rattle.std.proofs.lemmas.Bool.Decides.{nat_tests}
use Rattle.tp_outside.specs.Faults.{one_more, HasRisen}
use Rattle.tp_outside.specs.Story.{Wrote, Synced, seen, IsSettled}
use Rattle.tp_outside.specs.Disk.{IsWritten, Writes}
use Rattle.tp_outside.specs.Fill.{filled, filled_range}
use Rattle.tp_outside.specs.MemDisk.{Recorded, IsCounted, DiskWrites, DiskSyncs}
use Rattle.tp_outside.specs.declared.mem_disk.Attempt.{Attempt}
use Rattle.tp_outside.specs.declared.mem_disk.Attempt.TheVariants.{Done, Failed, Starved}
use Rattle.tp_outside.specs.FuseDisk.{Fused, refuse, step, Passes, StopsIn, StarvesBelow, FuseFails, IsMade, OnFuse, IsReady, GoesOn, StopsAfter, Starves}
use Rattle.tp_outside.proofs.Fills.{filled_is_image}
use Rattle.tp_outside.proofs.Stories.{split_le}

-- ---- one relation after another

pub on_both : (R S T : Fused → Fused → Type 0) (old mid new : Option Fused) → ((f m g : Fused) → R f m → S m g → T f g) → OnFuse R old mid → OnFuse S mid new → OnFuse T old new
on_both R S T None None new both first second = second
on_both R S T None (Some m) new both first second = absurd (cc first)
on_both R S T (Some f) None new both first second = absurd first
on_both R S T (Some f) (Some m) None both first second = absurd second
on_both R S T (Some f) (Some m) (Some g) both first second = both f m g first second

pub on_weaker : (R S : Fused → Fused → Type 0) (old new : Option Fused) → ((f g : Fused) → R f g → S f g) → OnFuse R old new → OnFuse S old new
on_weaker R S None new implies here = here
on_weaker R S (Some f) None implies here = absurd here
on_weaker R S (Some f) (Some g) implies here = implies f g here

-- ---- a write and a sync

-- the fuse after a call that is done
passed : (effect : Recorded → Attempt → Recorded → Type 0) (f g : Fused) → Passes effect f g → f.calls + 1 < 2 ^ 64 → (g.calls ≡ f.calls + 1) × (f.calls + 1 ≢ f.last) × (g.last ≡ f.last) × (g.fill ≡ f.fill)
passed effect f g passes few =
    let calls : g.calls ≡ one_more f.calls = ap (λ (x : Fused). x.calls) passes.steps in
    let stopped : false ≡ (one_more f.calls == f.last) = sym passes.after ∙ ap (λ (x : Fused). x.stopped) passes.steps in
    let here : one_more f.calls ≡ f.calls + 1 = omega (arith, few) in (
      calls ∙ here,
      grind (arith, nat_tests, stopped, here),
      ap (λ (x : Fused). x.last) passes.steps,
      ap (λ (x : Fused). x.fill) passes.steps,
    )

-- and after the one in which it stops
stopped_in : (left : Recorded → Recorded → Type 0) (f g : Fused) → StopsIn left f g → f.calls + 1 < 2 ^ 64 → (f.last ≡ f.calls + 1) × (g.fill ≡ f.fill)
stopped_in left f g stops few =
    let stopped : true ≡ (one_more f.calls == f.last) = sym stops.after ∙ ap (λ (x : Fused). x.stopped) stops.steps in
    let here : one_more f.calls ≡ f.calls + 1 = omega (arith, few) in (
      grind (arith, nat_tests, stopped, here),
      ap (λ (x : Fused). x.fill) stops.steps,
    )

starves_in : (effect : Recorded → Attempt → Recorded → Type 0) (f g : Fused) → ((old new : Recorded) → effect old Starved new → HasRisen old.starved new.starved) → f.stopped ≡ false → StarvesBelow effect f g → Starves f g
starves_in effect f g rises running starves = record { running = ap (λ (x : Fused). x.stopped) starves.same ∙ running; starved = rises f.disk g.disk starves.starved }

counted_starved : (old new : Recorded) → IsCounted old Starved new → HasRisen old.starved new.starved
counted_starved old new counts = let rose : new.starved ≡ one_more old.starved = ap (λ (r : Recorded). r.starved) counts.counts in omega (arith, rose)

-- a changing call below found memory, and the fuse counted it
module _ (effect : Recorded → Attempt → Recorded → Type 0) (old new : Fused) (disk : Recorded) (running : old.stopped ≡ false) where
  made_below : (came : Attempt) → ¬ (came ≡ Starved) → effect old.disk came disk → IsMade effect old.disk disk
  made_below Done fed does = inl does
  made_below Failed fed does = inr does
  made_below Starved fed does = absurd (fed refl)

  pub counted_fails : (came : Attempt) → ¬ (came ≡ Starved) → effect old.disk came disk
      → (new.stopped ≡ true) × (new ≡ refuse (step old disk)) ⊎ (new.stopped ≡ false) × (new ≡ step old disk) × (came ≡ Failed) → FuseFails effect (IsMade effect) old new
  counted_fails came fed does (inl (after, is)) =
      let below : disk ≡ new.disk = sym (ap (λ (f : Fused). f.disk) is) in
      inr (inl (record {
        before = running;
        after = after;
        steps = is ∙ ap (λ (d : Recorded). refuse (step old d)) below;
        leaves = subst (IsMade effect old.disk) below (made_below came fed does);
      }))
  counted_fails came fed does (inr (after, is, failed)) =
      let below : disk ≡ new.disk = sym (ap (λ (f : Fused). f.disk) is) in
      inr (inr (inl (record {
        before = running;
        after = after;
        steps = is ∙ ap (λ (d : Recorded). step old d) below;
        failed = subst (effect old.disk Failed) below (subst (λ (a : Attempt). effect old.disk a disk) failed does);
      })))

-- a disk that fails at no listed call
never : (old new : Recorded) → old.fails ≡ [] → IsCounted old Failed new → ⊥
never old new sound counts = let listed = rw sound at counts.listed in omega (arith, listed.1)

module _ (at : ℕ) (piece : List ℕ) (f : Fused) (file : List ℕ) (ready : IsReady f file) (few : f.calls + 2 < 2 ^ 64) where
  -- what a write leaves
  left_filled : (fill : ℕ) (new : Recorded) → Writes at piece (Some f.disk.story) (Some new.story) → filled fill new.story ≡ filled_range fill at (length piece) file
  left_filled fill new (now, written, is) =
      let story : new.story ≡ Wrote at (length piece) now f.disk.story = cc is in
      let whole : filled fill f.disk.story ≡ file = ready.settled (filled fill f.disk.story) (filled_is_image fill f.disk.story) ∙ ready.sees in
      ap (λ s. filled fill s) story ∙ ap (λ (l : List ℕ). filled_range fill at (length piece) l) whole

  pub write_stops : (g : Fused) → FuseFails (DiskWrites at piece) (IsMade (DiskWrites at piece)) f g → StopsAfter 0 2 f g (filled_range f.fill at (length piece) file) ⊎ Starves f g
  write_stops g (inl refused) = absurd (cc (refused.before, ready.running))
  write_stops g (inr (inl stops)) =
      let at_last = stopped_in _ f g stops (omega (arith, few)) in
      inl (record {
        stopped = stops.after;
        from = omega (arith, at_last.0);
        to = omega (arith, at_last.0);
        fill = at_last.1;
        image = ap (λ (n : ℕ). filled n g.disk.story) at_last.1 ∙ made stops.leaves;
      })
    where
      made : IsMade (DiskWrites at piece) f.disk g.disk → filled f.fill g.disk.story ≡ filled_range f.fill at (length piece) file
      made (inl done) = left_filled f.fill g.disk done.0
      made (inr failed) = left_filled f.fill g.disk failed.0
  write_stops g (inr (inr (inl below))) = absurd (never f.disk g.disk ready.sound below.failed.1)
  write_stops g (inr (inr (inr starves))) = inr (starves_in (DiskWrites at piece) f g (λ old new does. counted_starved old new does.1) ready.running starves)

  module _ (mid : Fused) (writes : Passes (DiskWrites at piece) f mid) where
    through : (mid.calls ≡ f.calls + 1) × (f.calls + 1 ≢ f.last) × (mid.last ≡ f.last) × (mid.fill ≡ f.fill)
    through = passed _ f mid writes (omega (arith, few))

    sound : mid.disk.fails ≡ []
    sound = ap (λ (r : Recorded). r.fails) writes.done.1.counts ∙ ready.sound

    starved : mid.disk.starved ≡ f.disk.starved
    starved = ap (λ (r : Recorded). r.starved) writes.done.1.counts

    pub sync_stops : (g : Fused) → FuseFails DiskSyncs (λ old new. new ≡ old) mid g → StopsAfter 0 2 f g (filled_range f.fill at (length piece) file) ⊎ Starves f g
    sync_stops g (inl refused) = absurd (cc (refused.before, writes.after))
    sync_stops g (inr (inl stops)) =
        let at_last = stopped_in _ mid g stops (omega (arith, through.0, few)) in
        let fill : g.fill ≡ f.fill = at_last.1 ∙ through.3 in
        inl (record {
          stopped = stops.after;
          from = omega (arith, at_last.0, through.0, through.2);
          to = omega (arith, at_last.0, through.0, through.2);
          fill = fill;
          image = ap (λ (n : ℕ). filled n g.disk.story) fill ∙ ap (λ (r : Recorded). filled f.fill r.story) stops.leaves ∙ left_filled f.fill mid.disk writes.done.0;
        })
    sync_stops g (inr (inr (inl below))) = absurd (never mid.disk g.disk sound below.failed.1)
    sync_stops g (inr (inr (inr starves))) =
        let rose = starves_in DiskSyncs mid g (λ old new does. counted_starved old new does.1) writes.after starves in
        inr (record { running = rose.running; starved = omega (arith, rose.starved, starved) })

    pub both_pass : (g : Fused) → Passes DiskSyncs mid g → (now : List ℕ) × IsWritten at piece file now × GoesOn 2 f g now
    both_pass g syncs =
        let did = writes.done.0 in
        let now = did.0 in
        let wrote : mid.disk.story ≡ Wrote at (length piece) now f.disk.story = let is = did.2 in cc is in
        let story : g.disk.story ≡ Synced mid.disk.story = syncs.done.0 in
        let last = passed _ mid g syncs (omega (arith, through.0, few)) in (
          now,
          subst (λ l. IsWritten at piece l now) ready.sees did.1,
          record {
            ready = record {
              running = syncs.after;
              sound = ap (λ (r : Recorded). r.fails) syncs.done.1.counts ∙ sound;
              settled = subst IsSettled (sym story) (λ c image. image);
              sees = ap seen story ∙ ap seen wrote;
            };
            last = last.2 ∙ through.2;
            fill = last.3 ∙ through.3;
            calls = omega (arith, last.0, through.0);
            starved = ap (λ (r : Recorded). r.starved) syncs.done.1.counts ∙ starved;
            passed = beside (omega (arith, through.1)) (omega (arith, last.1, through.0, through.2));
          },
        )
      where
        beside : f.calls + 1 ≢ f.last → f.calls + 2 ≢ f.last → (f.last ≤ f.calls) ⊎ (f.calls + 2 < f.last)
        beside one two = elim (split_le f.last f.calls) [ inl le ↦ inl le | inr lt ↦ inr (omega (arith, one, two, lt)) ]

-- ---- two runs

pub goes_twice : (m n : ℕ) (f h g : Fused) (mid file : List ℕ) → GoesOn m f h mid → GoesOn n h g file → GoesOn (m + n) f g file
goes_twice m n f h g mid file first second = record {
  ready = second.ready;
  last = second.last ∙ first.last;
  fill = second.fill ∙ first.fill;
  calls = omega (arith, second.calls, first.calls);
  starved = second.starved ∙ first.starved;
  passed = beside first.passed second.passed;
}
  where
    beside : (f.last ≤ f.calls) ⊎ (f.calls + m < f.last) → (h.last ≤ h.calls) ⊎ (h.calls + n < h.last) → (f.last ≤ f.calls) ⊎ (f.calls + (m + n) < f.last)
    beside (inl le) also = inl le
    beside (inr lt) (inl le) = absurd (omega (arith, lt, le, first.calls, first.last))
    beside (inr lt) (inr also) = inr (omega (arith, also, first.calls, first.last))

pub stops_later : (m low high : ℕ) (f h g : Fused) (mid left : List ℕ) → GoesOn m f h mid → StopsAfter low high h g left → StopsAfter (m + low) (m + high) f g left
stops_later m low high f h g mid left first stops = record {
  stopped = stops.stopped;
  from = omega (arith, stops.from, first.calls, first.last);
  to = omega (arith, stops.to, first.calls, first.last);
  fill = stops.fill ∙ first.fill;
  image = stops.image;
}

pub starves_later : (m : ℕ) (f h g : Fused) (mid : List ℕ) → GoesOn m f h mid → Starves h g → Starves f g
starves_later m f h g mid first starves = record { running = starves.running; starved = omega (arith, starves.starved, first.starved) }
