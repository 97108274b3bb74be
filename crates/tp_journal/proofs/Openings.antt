-- What a start has found, and what it leaves on the disk.
use Rattle.std.proofs.Common.{◌≡◌, inl, inr, ℕ, suc, ◌+◌, ◌-◌, ◌<◌, ◌≤◌, ◌^◌, Option, Some, None, List, [], ◌∷◌, ◌++◌, length, take, drop, sym, ap, ◌∙◌, subst, arith, append_assoc, length-append}
use Rattle.std.proofs.lemmas.List.{take_at, drop_at}
use Rattle.std.specs.Int.{to_be_bytes, w64}
use Rattle.tp_outside.specs.Story.{Story, Synced, seen}
use Rattle.tp_outside.specs.Disk.{Syncs}
use Rattle.tp_outside.proofs.Stories.{started}
use Rattle.tp_journal.specs.Log.{blocks, head, StandsInFront, StandsBehind, StandsFor}
use Rattle.tp_journal.specs.Foreign.{Grammar, IsForeign}
use Rattle.tp_journal.specs.Told.{IsOn, LeavesOnly, RestsAt, IsTextOf}
use Rattle.tp_journal.specs.Start.{started_bytes, Starts, StaysSynced, StaysReadable}

-- the text that stands further back, as it is cut out of the file
pub cut_out : (bodies : List (List ℕ)) (file : List ℕ) (place gate : ℕ) (behind : StandsBehind file bodies) → place ≡ 5 + length behind.front → gate ≡ place + length (blocks bodies)
    → take (gate + 1 - place) (drop place file) ≡ blocks bodies ++ (behind.gate ∷ [])
cut_out bodies file place gate behind at closes =
    let front = head 2 ++ behind.front in
    let tail = to_be_bytes w64 (5 + length behind.front) in
    let text = blocks bodies ++ (behind.gate ∷ []) in
    let parts : file ≡ front ++ (text ++ (behind.rest ++ tail)) = behind.whole ∙ group front (blocks bodies) (behind.gate ∷ []) behind.rest tail in
    let from : drop place file ≡ text ++ (behind.rest ++ tail) = ap (λ (l : List ℕ). drop place l) parts ∙ drop_at front (text ++ (behind.rest ++ tail)) place (omega (arith, at)) in
    let size : length text ≡ gate + 1 - place = omega (arith, length-append (blocks bodies) (behind.gate ∷ []), closes) in
    ap (λ (l : List ℕ). take (gate + 1 - place) l) from ∙ take_at text (behind.rest ++ tail) (gate + 1 - place) size
  where
    group : (f b g r t : List ℕ) → f ++ b ++ (g ++ r) ++ t ≡ f ++ ((b ++ g) ++ (r ++ t))
    group f b g r t = simp append_assoc

pub text_behind : (bodies : List (List ℕ)) (file : List ℕ) (place gate : ℕ) (behind : StandsBehind file bodies) → place ≡ 5 + length behind.front → gate ≡ place + length (blocks bodies) → IsTextOf bodies (take (gate + 1 - place) (drop place file))
text_behind bodies file place gate behind at closes = record {
  gate = behind.gate;
  whole = cut_out bodies file place gate behind at closes;
  closed = behind.closed;
  each = behind.each;
}

-- what a start leaves, of the file that was read and of the one that stood
moved : (last : Option Story) (file stood : List ℕ) (bodies : List (List ℕ)) → file ≡ stood → (stands : StandsFor file bodies) → IsOn last (started_bytes file bodies stands)
    → (now : StandsFor stood bodies) × IsOn last (started_bytes stood bodies now)
moved last file stood bodies is stands on = subst (λ f. (now : StandsFor f bodies) × IsOn last (started_bytes f bodies now)) is (stands, on)

pub gate_small : (bodies : List (List ℕ)) (file : List ℕ) (gate : ℕ) → StandsInFront file bodies → gate ≡ 5 + length (blocks bodies) → length file ≤ 2 ^ 62 → gate < 2 ^ 63
gate_small bodies file gate stands is few =
    let size : length file ≡ 5 + length (blocks bodies) + suc (length stands.rest) =
    ap length stands.whole ∙ length-append (head stands.selector ++ blocks bodies) (stands.gate ∷ stands.rest) ∙ omega (arith, length-append (head stands.selector) (blocks bodies)) in
    omega (arith, few)

module _ (old synced now : Option Story) (syncs : Syncs old synced) (same : now ≡ synced) where
  pub untold : old ≡ None → now ≡ None
  untold none = same ∙ (rw none at syncs)

  pub is_synced : (s : Story) → old ≡ Some s → now ≡ Some (Synced s)
  is_synced s is = same ∙ (rw is at syncs)

  pub stays_synced : StaysSynced old now
  stays_synced s is = inr (is_synced s is)

  module _ (file : List ℕ) (reads : (s : Story) → synced ≡ Some s → file ≡ seen s) where
    pub file_is : (s : Story) → old ≡ Some s → file ≡ seen s
    file_is s is = reads (Synced s) (rw is at syncs)

    pub on_disk : (s : Story) → old ≡ Some s → IsOn now file
    on_disk s is = subst (λ o. IsOn o file) (sym (is_synced s is)) ((λ c image. image, sym (file_is s is)))

    pub foreign : (accepts : Grammar) (at : ℕ) → IsForeign accepts file at → StaysSynced old now × ((s : Story) → old ≡ Some s → IsForeign accepts (seen s) at)
    foreign accepts at is_none = (stays_synced, λ s is. subst (λ f. IsForeign accepts f at) (file_is s is) is_none)

    pub in_front : (gate : ℕ) (bodies : List (List ℕ)) → StandsInFront file bodies → gate ≡ 5 + length (blocks bodies) → length file ≤ 2 ^ 62 → Starts old now gate bodies
    in_front gate bodies stands is few = (
      gate_small bodies file gate stands is few,
      untold,
      λ s was.
          let left = moved now file (seen s) bodies (file_is s was) (inl stands) (on_disk s was) in (
            left.0,
            record { file = file; on = on_disk s was; stands = stands; place = is },
            (Synced s, is_synced s was, started (λ c. StandsFor c bodies) (Synced s) (λ c image. subst (λ f. StandsFor f bodies) (file_is s was ∙ sym image) (inl stands))),
            left.1,
          ),
      is,
    )

    module _ (place gate : ℕ) (bodies : List (List ℕ)) (behind : StandsBehind file bodies) (last : Option Story) where
      abbrev Still : List ℕ → Type 0
      Still c = StandsFor c bodies

      -- from the sync on
      pub since_sync : (s : Story) → old ≡ Some s → LeavesOnly Still now last → LeavesOnly Still (Some (Synced s)) last
      since_sync s was leaves = subst (λ o. LeavesOnly Still o last) (is_synced s was) leaves

      pub stays_readable : ((s : Story) → old ≡ Some s → LeavesOnly Still now last) → StaysReadable old last
      stays_readable leaves s was = inr (inr (bodies, subst (λ f. StandsFor f bodies) (file_is s was) (inr behind), since_sync s was (leaves s was)))

      pub from_behind : (size : ℕ) → place ≡ 5 + length behind.front → gate ≡ place + length (blocks bodies) → size ≡ gate + 1 - place → length file ≤ 2 ^ 62 → (now ≡ None → last ≡ None)
          → ((s : Story) → old ≡ Some s → LeavesOnly Still now last × RestsAt last (4 + size) bodies × IsOn last (head 1 ++ (blocks bodies ++ (behind.gate ∷ [])))) → Starts old last (5 + gate - place) bodies
      from_behind size at closes is few none ends = (
        omega (arith, closes, at, few, length_behind),
        λ was. none (untold was),
        λ s was.
            let gate_is : 4 + size ≡ 5 + gate - place = omega (arith, is, closes) in
            let left = moved last file (seen s) bodies (file_is s was) (inr behind) (ends s was).2 in (
              left.0,
              subst (λ (n : ℕ). RestsAt last n bodies) gate_is (ends s was).1,
              since_sync s was (ends s was).0,
              left.1,
            ),
        omega (arith, closes, at),
      )
        where
          length_behind : length (blocks bodies) ≤ length file
          length_behind =
              let tail = to_be_bytes w64 (5 + length behind.front) in
              omega (arith, ap length behind.whole, length-append (head 2 ++ behind.front ++ blocks bodies ++ (behind.gate ∷ behind.rest)) tail, length-append (head 2 ++ behind.front ++ blocks bodies) (behind.gate ∷ behind.rest), length-append (head 2 ++ behind.front) (blocks bodies))
