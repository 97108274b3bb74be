-- What a text is seen as, and what puts more at its end.
use Rattle.std.specs.Prelude.{ℕ, ◌≡◌, Bool, true, false, Option, Some, None, List, ◌++◌, take}
use Rattle.std.specs.Option.{option_map}

-- the bytes that were there before, and the whole with them, none once memory was wanting
pub record Written : Type 0 where
  pub before : List ℕ
  pub whole : Option (List ℕ)

-- what these bytes are seen as, of which the first were there before
abbrev pub written : List ℕ → ℕ → Bool → Written
written bytes before is_wanting = record { before = take before bytes; whole = elim is_wanting [ true ↦ None | false ↦ Some bytes ] }

-- a text after these bytes
abbrev pub text_after : List ℕ → Written
text_after bytes = record { before = bytes; whole = Some bytes }

-- the text with more at its end
unfoldable pub with_more : Written → List ℕ → Written
with_more t more = record { before = t.before; whole = option_map (λ (s : List ℕ). s ++ more) t.whole }

-- the text once memory was wanting
unfoldable pub wanting : Written → Written
wanting t = record { before = t.before; whole = None }

-- the second text is the first with more at its end, or memory was wanting
pub data Adds (old : Written) (more : List ℕ) (new : Written) : Type 0 where
  Added : new ≡ with_more old more → Adds old more new
  Wanting : new ≡ wanting old → Adds old more new
