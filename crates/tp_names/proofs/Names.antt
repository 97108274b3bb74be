-- A name's bytes with zeros after them are what a name is kept as.
use Rattle.std.proofs.Common.{◌≡◌, ◌≤◌, ◌-◌, ◌==◌, ℕ, Bool, true, false, ◌&&◌, List, ◌++◌, length, take, drop, replicate, refl, ◌∙◌, arith, IsTrue, length-append, length-drop}
use Rattle.std.proofs.lemmas.List.{drop-replicate, take_at, drop_at}
use Rattle.std.proofs.lemmas.Bool.Decides.{nat_tests}
use Rattle.std.specs.Prelude.{nat_le}
use Rattle.tp_names.specs.Bytes.{is_site_byte, is_site_name, all_bytes}
use Rattle.tp_names.specs.Names.{IsName}

name_of_bytes : (b : List ℕ) → (length b == 0) ≡ false → length b ≤ 16 → all_bytes is_site_byte b ≡ true → IsTrue (is_site_name b)
name_of_bytes b some short each = go (length b) (all_bytes is_site_byte b) some short each
  where
    go : (n : ℕ) (t : Bool) → (n == 0) ≡ false → n ≤ 16 → t ≡ true → IsTrue ((nat_le 1 n && nat_le n 16) && t)
    go n t some short each = grind (arith, nat_tests)

pub padded_is_name : (b : List ℕ) → (length b == 0) ≡ false → length b ≤ 16 → all_bytes is_site_byte b ≡ true
    → IsName (record { len = length b; bytes = b ++ drop (length b) (replicate 16 0) })
padded_is_name b some short each =
    let zeros : drop (length b) (replicate {A = ℕ} 16 0) ≡ replicate (16 - length b) 0 = drop-replicate {X = ℕ} (length b) 16 0 in
    let long : length (b ++ drop (length b) (replicate 16 0)) ≡ 16 = let sixteen : length (drop (length b) (replicate {A = ℕ} 16 0)) ≡ 16 - length b = length-drop {A = ℕ} (length b) (replicate 16 0) in omega (arith, sixteen, length-append b (drop (length b) (replicate 16 0))) in
    let back : drop (length b) (b ++ drop (length b) (replicate 16 0)) ≡ replicate (16 - length b) 0 = drop_at b (drop (length b) (replicate 16 0)) (length b) refl ∙ zeros in
    let front : take (length b) (b ++ drop (length b) (replicate 16 0)) ≡ b = take_at b (drop (length b) (replicate 16 0)) (length b) refl in
    ((short, long, back), rw front (name_of_bytes b some short each))
