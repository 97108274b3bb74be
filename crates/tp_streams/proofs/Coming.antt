-- What comes next in bytes, and how many there are where no whole frame does.
use Rattle.std.proofs.Common.{◌≡◌, ℕ, ◌+◌, ◌*◌, ◌<◌, ◌≤◌, ◌⊎◌, inl, inr, Bool, true, false, List, [], ◌∷◌, length, take, drop, refl, sym, ◌∙◌, arith}
use Rattle.std.proofs.lemmas.Bool.{cases_lt}
use Rattle.tp_framing.specs.Frames.{Part, Whole, Bad, next_in, is_frame_length}
use Rattle.tp_framing.proofs.Numbers.{read_short_is}
use Rattle.tp_framing.proofs.Fronts.{next_bad, next_whole, frame_length_most}

-- fewer than the longest frame has
pub part_few : (bytes : List ℕ) → next_in bytes ≡ Part → length bytes < 2050
part_few [] is = omega arith
part_few (b ∷ []) is = omega arith
part_few (b ∷ d ∷ bs) is = tested (is_frame_length (b * 256 + d)) refl
  where
    counted : is_frame_length (b * 256 + d) ≡ true → (length bs < b * 256 + d) ⊎ (b * 256 + d ≤ length bs) → length (b ∷ d ∷ bs) < 2050
    counted good (inl few) = let most : b * 256 + d ≤ 2048 = frame_length_most (b * 256 + d) good in omega arith
    counted good (inr fits) = absurd (let clash : Whole (take (b * 256 + d) bs) (drop (b * 256 + d) bs) ≡ Part = sym (next_whole (b ∷ d ∷ bs) (b * 256 + d) bs (read_short_is b d bs) good fits) ∙ is in cc)

    tested : (t : Bool) → is_frame_length (b * 256 + d) ≡ t → length (b ∷ d ∷ bs) < 2050
    tested true good = counted good (cases_lt (length bs) (b * 256 + d))
    tested false bad = absurd (let clash : Bad ≡ Part = sym (next_bad (b ∷ d ∷ bs) (b * 256 + d) bs (read_short_is b d bs) bad) ∙ is in cc)
