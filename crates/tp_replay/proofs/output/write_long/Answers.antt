use Rattle.std.proofs.Common.{◌≡◌, ◌++◌, ℕ, List, [], ◌∷◌, take, refl, sym, ap, ◌∙◌, Some}
use Rattle.std.proofs.lemmas.List.{append-nil}
use Rattle.tp_replay.proofs.output.write_long.Goals as goal

take_none : (xs : List ℕ) → take 0 xs ≡ []
take_none [] = refl
take_none (x ∷ xs) = refl

pub returns-clause-whole : goal.returns-clause-whole
returns-clause-whole g c = λ before h. (
  c.args.text.now,
  sym (append-nil c.args.text.now) ∙ ap (λ t. c.args.text.now ++ t) (sym (c.truncate.ensures ∙ take_none c.args.text.now)),
  (c.in_ok-write_all.ensures {u = tt}).whole before h ∙ ap (λ t. Some (before ++ t)) c.as_slice.ensures,
)
