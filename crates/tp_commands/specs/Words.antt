-- The words of the program's command line.
use Rattle.std.specs.Prelude.{ℕ, List, [], ◌∷◌, codes}

-- the one command that the program has
abbrev pub replay_words : List (List ℕ)
replay_words = codes "replay" ∷ []
