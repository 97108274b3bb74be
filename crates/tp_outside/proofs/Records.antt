-- The record of a disk in memory, one change on.
use Rattle.std.proofs.Common.{◌≡◌, ℕ, zero, suc, ◌+◌, ◌-◌, ◌≤◌, ◌<◌, min, Bool, true, false, List, [], ◌∷◌, ◌++◌, length, take, drop, reverse, refl, sym, ◌∙◌, ap, Some, arith, slice_index_or, slice_set, length-append, length-take, length-drop}
use Rattle.std.proofs.lemmas.List.{reverse-append, take-append-drop, take_at, drop_at, take_all, drop-drop, drop_min, append-nil}
use Rattle.tp_outside.specs.Story.{Story, Synced, seen, Torn}
use Rattle.tp_outside.specs.Disk.{IsWritten, IsResized, Writes, Resizes}
use Rattle.tp_outside.specs.Changes.{story_from, story_after, covered, written_over, before, after, synced_if}
use Rattle.tp_outside.specs.declared.changes.Call.{Call}
use Rattle.tp_outside.specs.declared.changes.Call.TheVariants.{Write, Resize, Nothing}
use Rattle.tp_outside.specs.declared.changes.Change.{Change}
use Rattle.tp_outside.specs.declared.changes.Changes.{Changes}
use Rattle.tp_outside.proofs.Lists.{resized_front}

seen_synced : (b : Bool) (s : Story) → seen (synced_if b s) ≡ seen s
seen_synced true s = refl
seen_synced false s = refl

seen_call : (call : Call) (now lost : List ℕ) (s : Story) → seen s ≡ before call now lost → seen (after call now s) ≡ now
seen_call (Write at len was) now lost s is = refl
seen_call (Resize len was) now lost s is = refl
seen_call Nothing now lost s is = is

-- what it tells of now is what there is
seen_from : (now lost : List ℕ) (changes : List Change) → seen (story_from now lost changes) ≡ now
seen_from now lost [] = refl
seen_from now lost (c ∷ cs) =
    let part = drop (length lost - covered c.call) lost in
    let left = take (length lost - covered c.call) lost in
    let s = story_from (before c.call now part) left cs in
    seen_synced c.synced (after c.call now s) ∙ seen_call c.call now part s (seen_from (before c.call now part) left cs)

pub seen_after : (now : List ℕ) (changes : Changes) → seen (story_after now changes) ≡ now
seen_after now changes = seen_from now changes.lost.items (reverse changes.items.items)

-- ---- one call more

module _ (now old lost part : List ℕ) (changes : List Change) (call : Call) (long : length part ≡ covered call) (undoes : before call now part ≡ old) where
  -- the record of a call that undoes it
  pub one_more : story_from now (lost ++ part) (reverse (changes ++ record { call = call; synced = false } ∷ [])) ≡ after call now (story_from old lost (reverse changes))
  one_more =
      let at_front : length (lost ++ part) - covered call ≡ length lost = omega (arith, length-append lost part, long) in
      ap (story_from now (lost ++ part)) (reverse-append changes (record { call = call; synced = false } ∷ []))
      ∙ ap (λ (k : ℕ). after call now (story_from (before call now (drop k (lost ++ part))) (take k (lost ++ part)) (reverse changes))) at_front
      ∙ ap (λ (l : List ℕ). after call now (story_from (before call now l) (take (length lost) (lost ++ part)) (reverse changes))) (drop_at lost part (length lost) refl)
      ∙ ap (λ (l : List ℕ). after call now (story_from (before call now part) l (reverse changes))) (take_at lost part (length lost) refl)
      ∙ ap (λ (l : List ℕ). after call now (story_from l lost (reverse changes))) undoes

-- a list is its part from one place to another, between what stands at its two ends
in_three : (from to : ℕ) (old : List ℕ) → from ≤ to → take from old ++ (take (to - from) (drop from old) ++ drop to old) ≡ old
in_three from to old le =
    let e : from + (to - from) ≡ to = omega arith in
    let last : drop to old ≡ drop (to - from) (drop from old) = sym (drop-drop (to - from) from old ∙ ap (λ (k : ℕ). drop k old) e) in
    ap (λ (l : List ℕ). take from old ++ (take (to - from) (drop from old) ++ l)) last
    ∙ ap (λ (l : List ℕ). take from old ++ l) (take-append-drop (to - from) (drop from old)) ∙ take-append-drop from old

-- a write at the end goes over nothing
pub none_over : (at n : ℕ) (old lost : List ℕ) → at ≡ length old → lost ++ written_over at n old ≡ lost
none_over at n old lost is =
    let none : min (at + n) (length old) - min at (length old) ≡ 0 = omega (arith, is) in
    ap (λ (k : ℕ). lost ++ take k (drop (min at (length old)) old)) none ∙ append-nil lost

first_from : (at : ℕ) (old : List ℕ) (d : ℕ) → at < length old → take 1 (drop at old) ≡ slice_index_or old at d ∷ []
first_from at [] d inside = absurd (omega (arith, inside))
first_from zero (b ∷ bs) d inside = refl
first_from (suc k) (b ∷ bs) d inside = first_from k bs d (omega (arith, inside))

-- a write of one byte before the end goes over one
pub one_over : (at : ℕ) (old : List ℕ) (d : ℕ) → at < length old → written_over at 1 old ≡ slice_index_or old at d ∷ []
one_over at old d inside =
    let low : min at (length old) ≡ at = omega (arith, inside) in
    let one : min (at + 1) (length old) - min at (length old) ≡ 1 = omega (arith, inside) in
    ap (λ (k : ℕ). take k (drop (min at (length old)) old)) one ∙ ap (λ (k : ℕ). take 1 (drop k old)) low ∙ first_from at old d inside

module _ (old now lost : List ℕ) (changes : List Change) (at n : ℕ) where
  -- the bytes that a write covers
  abbrev overwritten : List ℕ
  overwritten = written_over at n old

  overwritten_long : length overwritten ≡ min (at + n) (length old) - min at (length old)
  overwritten_long = length-take (min (at + n) (length old) - min at (length old)) (drop (min at (length old)) old) ∙ omega (arith, length-drop (min at (length old)) old)

  rest_of : Torn at n old now → take (length old - (at + n)) (drop (at + n) now) ≡ drop (min (at + n) (length old)) old
  rest_of torn =
      ap (λ (l : List ℕ). take (length old - (at + n)) l) torn.after
      ∙ take_all (length old - (at + n)) (drop (at + n) old) (omega (arith, length-drop (at + n) old)) ∙ sym (drop_min (at + n) old)

  undone : Torn at n old now → before (Write at n (length old)) now overwritten ≡ old
  undone torn =
      ap (λ (l : List ℕ). l ++ (overwritten ++ take (length old - (at + n)) (drop (at + n) now))) torn.before
      ∙ ap (λ (l : List ℕ). take (min at (length old)) old ++ (overwritten ++ l)) (rest_of torn)
      ∙ in_three (min at (length old)) (min (at + n) (length old)) old (omega arith)

  pub writes : (piece all : List ℕ) (later : List Change) → length piece ≡ n → all ≡ lost ++ overwritten → later ≡ changes ++ record { call = Write at n (length old); synced = false } ∷ [] → IsWritten at piece old now
      → Writes at piece (Some (story_from old lost (reverse changes))) (Some (story_from now all (reverse later)))
  writes piece all later long lost_is is written =
      rw (lost_is, is) (
        now,
        rw (seen_from old lost (reverse changes)) written,
        ap Some (rw long (one_more now old lost overwritten changes (Write at n (length old)) overwritten_long (undone (rw (← long) written.torn)))),
      )

module _ (old now lost : List ℕ) (changes : List Change) (len : ℕ) where
  pub resizes : (all : List ℕ) (later : List Change) → all ≡ lost ++ drop (min len (length old)) old → later ≡ changes ++ record { call = Resize len (length old); synced = false } ∷ [] → IsResized len old now
      → Resizes len (Some (story_from old lost (reverse changes))) (Some (story_from now all (reverse later)))
  resizes all later lost_is is so =
      let undoes : before (Resize len (length old)) now (drop (min len (length old)) old) ≡ old =
      ap (λ (l : List ℕ). l ++ drop (min len (length old)) old) (resized_front len old now so) ∙ take-append-drop (min len (length old)) old in
      rw (lost_is, is) (
        now,
        rw (seen_from old lost (reverse changes)) so,
        ap Some (one_more now old lost (drop (min len (length old)) old) changes (Resize len (length old)) (length-drop (min len (length old)) old) undoes),
      )

-- ---- a sync

pub synced_alone : (now lost : List ℕ) (changes : List Change) → story_from now lost (reverse (changes ++ record { call = Nothing; synced = true } ∷ [])) ≡ Synced (story_from now lost (reverse changes))
synced_alone now lost changes =
    ap (story_from now lost) (reverse-append changes (record { call = Nothing; synced = true } ∷ []))
    ∙ ap (λ (l : List ℕ). Synced (story_from now l (reverse changes))) (take_all (length lost - 0) lost (omega arith))

record Ends (changes : List Change) : Type 0 where
  front : List Change
  last : Change
  is : changes ≡ front ++ last ∷ []

ends : (c : Change) (cs : List Change) → Ends (c ∷ cs)
ends c [] = record { front = []; last = c; is = refl }
ends c (d ∷ cs) = let e = ends d cs in record { front = c ∷ e.front; last = e.last; is = ap (λ (l : List Change). c ∷ l) e.is }

last_there : (front : List Change) (c d : Change) → slice_index_or (front ++ c ∷ []) (length front) d ≡ c
last_there [] c d = refl
last_there (f ∷ front) c d = last_there front c d

last_set : (front : List Change) (c d : Change) → slice_set (front ++ c ∷ []) (length front) d ≡ front ++ d ∷ []
last_set [] c d = refl
last_set (f ∷ front) c d = ap (λ (l : List Change). f ∷ l) (last_set front c d)

abbrev noted : Change → Change
noted c = record { call = c.call; synced = true }

noted_last : (now lost : List ℕ) (front : List Change) (c : Change) → c.synced ≡ false → story_from now lost (reverse (front ++ noted c ∷ [])) ≡ Synced (story_from now lost (reverse (front ++ c ∷ [])))
noted_last now lost front c none =
    let part = drop (length lost - covered c.call) lost in
    let left = take (length lost - covered c.call) lost in
    let s = story_from (before c.call now part) left (reverse front) in
    let was : story_from now lost (reverse (front ++ c ∷ [])) ≡ after c.call now s =
    ap (story_from now lost) (reverse-append front (c ∷ [])) ∙ ap (λ (b : Bool). synced_if b (after c.call now s)) none in
    ap (story_from now lost) (reverse-append front (noted c ∷ [])) ∙ sym (ap Synced was)

pub marked : (now lost : List ℕ) (changes : List Change) (i : ℕ) (x y : Change) → suc i ≡ length changes → y ≡ slice_index_or changes i y → y.synced ≡ false → x ≡ slice_index_or changes i x
    → story_from now lost (reverse (slice_set changes i (record { call = x.call; synced = true }))) ≡ Synced (story_from now lost (reverse changes))
marked now lost [] i x y is this none that = absurd (omega (arith, is))
marked now lost (d ∷ ds) i x y is this none that =
    let e = ends d ds in
    let c = e.last in
    let at : i ≡ length e.front = omega (arith, is, ap length e.is, length-append e.front (c ∷ [])) in
    let item : (z : Change) → slice_index_or (d ∷ ds) i z ≡ c =
    λ z. ap (λ (l : List Change). slice_index_or l i z) e.is ∙ ap (λ (k : ℕ). slice_index_or (e.front ++ c ∷ []) k z) at ∙ last_there e.front c z in
    let set : (z : Change) → slice_set (d ∷ ds) i z ≡ e.front ++ z ∷ [] =
    λ z. ap (λ (l : List Change). slice_set l i z) e.is ∙ ap (λ (k : ℕ). slice_set (e.front ++ c ∷ []) k z) at ∙ last_set e.front c z in
    let fresh : c.synced ≡ false = sym (ap (λ (z : Change). z.synced) (this ∙ item y)) ∙ none in
    ap (λ (l : List Change). story_from now lost (reverse l)) (set (noted x))
    ∙ ap (λ (z : Change). story_from now lost (reverse (e.front ++ noted z ∷ []))) (that ∙ item x)
    ∙ noted_last now lost e.front c fresh
    ∙ ap (λ (l : List Change). Synced (story_from now lost (reverse l))) (sym e.is)
