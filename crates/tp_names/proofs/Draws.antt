-- Marks of one counter differ in their counts, marks of two in their boots or nodes.
use Rattle.std.proofs.Common.{◌≡◌, ◌≢◌, ℕ, zero, suc, ◌+◌, inl, inr, refl, ap, arith}
use Rattle.tp_names.specs.declared.identifiers.Mark.{Mark}
use Rattle.tp_names.specs.Marks.{Drawing, after_draws, drawn, AreApart}

last_after : (k : ℕ) (d : Drawing) → (after_draws k d).last ≡ d.last + k
last_after zero d = omega arith
last_after (suc k) d = omega (arith, last_after k d)

boot_after : (k : ℕ) (d : Drawing) → (after_draws k d).boot ≡ d.boot
boot_after zero d = refl
boot_after (suc k) d = boot_after k d

node_after : (k : ℕ) (d : Drawing) → (after_draws k d).node ≡ d.node
node_after zero d = refl
node_after (suc k) d = node_after k d

pub drawn_once : (d : Drawing) (j k : ℕ) → j ≢ k → drawn d j ≢ drawn d k
drawn_once d j k apart e =
    let counts : (drawn d j).count ≡ (drawn d k).count = ap (λ (m : Mark). m.count) e in
    apart (omega (arith, last_after j d, last_after k d, counts))

pub drawn_apart : (d e : Drawing) (j k : ℕ) → AreApart d e → drawn d j ≢ drawn e k
drawn_apart d e j k (inl boots) same =
    let both : (drawn d j).boot ≡ (drawn e k).boot = ap (λ (m : Mark). m.boot) same in
    boots (cc (boot_after j d, boot_after k e))
drawn_apart d e j k (inr nodes) same =
    let both : (drawn d j).node ≡ (drawn e k).node = ap (λ (m : Mark). m.node) same in
    nodes (cc (node_after j d, node_after k e))
