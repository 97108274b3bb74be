use Rattle.std.proofs.Common.{◌≡◌, ◌≤◌, ◌++◌, ◌+◌, ◌-◌, ℕ, zero, suc, List, [], ◌∷◌, take, drop, length, arith, append_assoc, ap, length-drop, length-take, sym, ◌∙◌}
use Rattle.std.proofs.lemmas.List.{take-append-drop}
use Rattle.std.proofs.lemmas.Grind.{common_steps}
use Rattle.tp_replay.proofs.output.write_all.Goals as goal

-- one more piece
more : (xs : List ℕ) (i n : ℕ) → take (i + n) xs ≡ take i xs ++ take n (drop i xs)
more [] i n = grind (arith, common_steps)
more (x ∷ xs) zero n = grind (arith, common_steps)
more (x ∷ xs) (suc i) n = let e : suc i + n ≡ suc (i + n) = omega arith in rw e (ap (λ ys. x ∷ ys) (more xs i n))

took : (xs : List ℕ) (i n : ℕ) → n ≤ length (take (length xs - i) (drop i xs)) → take n (take (length xs - i) (drop i xs)) ≡ take n (drop i xs)
took xs i n h = grind (arith, common_steps)

pub loop-at-preserved : goal.loop-at-preserved
loop-at-preserved g c = record {
  inside = omega (arith, (c.in-Ok.ensures {u = tt}).within, length-take {A = ℕ}, length-drop {A = ℕ});
  kept = omega arith;
  so_far = λ ys h.
      let i = c.loop-at.invariant.so_far ys h in
      let now = rw i at (c.in-Ok.ensures {u = tt}).bytes in
      rw (now, took c.args.text.now c.loop-at.at c.in-Ok.count (c.in-Ok.ensures {u = tt}).within, more c.args.text.now c.loop-at.at c.in-Ok.count, append_assoc);
}

pub returns-in-Err-clause-prefix : goal.returns-in-Err-clause-prefix
returns-in-Err-clause-prefix g c = λ before h. (
  take c.loop-at.at c.args.text.now,
  (drop c.loop-at.at c.args.text.now, sym (take-append-drop c.loop-at.at c.args.text.now)),
  (c.in-Err.ensures {u = tt}).same ∙ c.loop-at.invariant.so_far before h,
)
