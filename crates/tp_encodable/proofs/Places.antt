-- How many branches a transaction can have: each is on an arc to a subordinate, or its arc is gone.
use Rattle.std.proofs.Common.{if◌then◌else◌, ◌≡◌, ◌≤◌, ◌+◌, ◌==◌, ◌&&◌, ◌||◌, not, ℕ, suc, Bool, true, false, refl, ap, sym, ◌∙◌, arith, Option, Some, None, List, [], ◌∷◌, ◌++◌, length}
use Rattle.std.proofs.lemmas.Bool.Decides.{nat_tests}
use Rattle.tp_names.specs.declared.identifiers.Addr.{Addr}
use Rattle.tp_names.specs.declared.children.Child.{Child}
use Rattle.tp_model.specs.Parts.{Arc, Branch, Digest}
use Rattle.tp_model.specs.Arcs.{find_arc}
use Rattle.tp_model.specs.Requests.{count_below, count_gone}
use Rattle.std.specs.Prelude.{is_some}
use Rattle.tp_steps.proofs.log.KinTurns.{kin}

-- the numbers of the peers with which there are arcs
abbrev pub peers : List Arc → List ℕ
peers [] = []
peers (a ∷ arcs) = a.peer.node ∷ peers arcs

abbrev pub is_up : Option Addr → ℕ → Bool
is_up s p = elim s [ None ↦ false | Some a ↦ a.node == p ]

abbrev pub has : List ℕ → ℕ → Bool
has [] p = false
has (n ∷ ns) p = (n == p) || has ns p

abbrev pub without : List ℕ → ℕ → List ℕ
without [] p = []
without (n ∷ ns) p = if n == p then without ns p else n ∷ without ns p

-- how many of them are subordinates
abbrev pub below : Option Addr → List ℕ → ℕ
below s [] = 0
below s (n ∷ ns) = if is_up s n then below s ns else suc (below s ns)

-- how many of the branches have no arc
abbrev pub gone : List ℕ → List Child → ℕ
gone ns [] = 0
gone ns (c ∷ cs) = if has ns c.addr.node then gone ns cs else suc (gone ns cs)

abbrev pub is_at : List Child → ℕ → Bool
is_at [] p = false
is_at (c ∷ cs) p = (c.addr.node == p) || is_at cs p

-- no two are at one number, and none is at the superior's
abbrev pub are_apart : Option Addr → List Child → Bool
are_apart s [] = true
are_apart s (c ∷ cs) = not (is_up s c.addr.node) && not (is_at cs c.addr.node) && are_apart s cs

-- ---- in the words of the definitions

pub count_is : (d : Digest) (arcs : List Arc) → count_below d arcs ≡ below d.superior (peers arcs)
count_is d [] = refl
count_is d (a ∷ arcs) = rw (count_is d arcs) refl

pub some_is : (arcs : List Arc) (p : ℕ) → is_some (find_arc arcs p) ≡ has (peers arcs) p
some_is [] p = refl
some_is (a ∷ arcs) p = go (a.peer.node == p) (some_is arcs p)
  where
    go : (b : Bool) → is_some (find_arc arcs p) ≡ has (peers arcs) p → is_some (if b then Some a else find_arc arcs p) ≡ (b || has (peers arcs) p)
    go true rest = refl
    go false rest = rest

pub gone_is : (arcs : List Arc) (bs : List Branch) → count_gone arcs bs ≡ gone (peers arcs) (kin bs)
gone_is arcs [] = refl
gone_is arcs (b ∷ bs) = rw (some_is arcs b.peer.node, gone_is arcs bs) refl

pub kin_length : (bs : List Branch) → length (kin bs) ≡ length bs
kin_length [] = refl
kin_length (b ∷ bs) = ap (λ (n : ℕ). suc n) (kin_length bs)

-- ---- one number less

has_without : (ns : List ℕ) (p q : ℕ) → has (without ns p) q ≡ (not (p == q) && has ns q)
has_without [] p q = grind arith
has_without (n ∷ ns) p q = grind (arith, nat_tests, has_without ns p q)

below_up : (s : Option Addr) (ns : List ℕ) (p : ℕ) → is_up s p ≡ true → below s (without ns p) ≡ below s ns
below_up s [] p h = refl
below_up s (n ∷ ns) p h = go (n == p) refl (below_up s ns p h)
  where
    go : (b : Bool) → (n == p) ≡ b → below s (without ns p) ≡ below s ns → below s (if b then without ns p else n ∷ without ns p) ≡ below s (n ∷ ns)
    go true i rest = let same : n ≡ p = grind (arith, nat_tests, i) in let up : is_up s n ≡ true = ap (is_up s) same ∙ h in rw (up, below) rest
    go false i rest = rw rest refl

pub below_less : (s : Option Addr) (ns : List ℕ) (p : ℕ) → below s (without ns p) ≤ below s ns
below_less s [] p = omega arith
below_less s (n ∷ ns) p = go (n == p) (is_up s n) refl (below_less s ns p)
  where
    go : (b u : Bool) → is_up s n ≡ u → below s (without ns p) ≤ below s ns → below s (if b then without ns p else n ∷ without ns p) ≤ (if u then below s ns else suc (below s ns))
    go true true i rest = rest
    go true false i rest = omega (arith, rest)
    go false true i rest = rw (i, below) rest
    go false false i rest = rw (i, below) (omega (arith, rest))

below_down : (s : Option Addr) (ns : List ℕ) (p : ℕ) → is_up s p ≡ false → has ns p ≡ true → suc (below s (without ns p)) ≤ below s ns
below_down s [] p u h = absurd (cc (h))
below_down s (n ∷ ns) p u h = go (n == p) refl (is_up s n) refl (below_down s ns p u)
  where
    less : below s (without ns p) ≤ below s ns
    less = below_less s ns p

    later : (n == p) ≡ false → has ns p ≡ true
    later i = rw (i, has) at h

    go : (b : Bool) → (n == p) ≡ b → (v : Bool) → is_up s n ≡ v → (has ns p ≡ true → suc (below s (without ns p)) ≤ below s ns) → suc (below s (if b then without ns p else n ∷ without ns p)) ≤ (if v then below s ns else suc (below s ns))
    go true i true j rest = let same : n ≡ p = grind (arith, nat_tests, i) in absurd (cc (j, u, ap (is_up s) same))
    go true i false j rest = omega (arith, less)
    go false i true j rest = rw (j, below) (rest (later i))
    go false i false j rest = let more : suc (below s (without ns p)) ≤ below s ns = rest (later i) in rw (j, below) (omega (arith, more))

gone_other : (ns : List ℕ) (cs : List Child) (p : ℕ) → is_at cs p ≡ false → gone (without ns p) cs ≡ gone ns cs
gone_other ns [] p h = refl
gone_other ns (c ∷ cs) p h = go (c.addr.node == p) refl (gone_other ns cs p)
  where
    go : (b : Bool) → (c.addr.node == p) ≡ b → (is_at cs p ≡ false → gone (without ns p) cs ≡ gone ns cs) → gone (without ns p) (c ∷ cs) ≡ gone ns (c ∷ cs)
    go true i rest = absurd (grind (arith, h, i))
    go false i rest =
        let off : (p == c.addr.node) ≡ false = grind (arith, nat_tests, i) in
        let there : has (without ns p) c.addr.node ≡ has ns c.addr.node = has_without ns p c.addr.node ∙ rw off refl in
        let more : is_at cs p ≡ false = grind (arith, h, i) in
        rw (there, gone) (rw (rest more) refl)

gone_one : (s : Option Addr) (ns : List ℕ) (cs : List Child) (p : ℕ) → are_apart s cs ≡ true → gone (without ns p) cs ≤ suc (gone ns cs)
gone_one s ns [] p h = omega arith
gone_one s ns (c ∷ cs) p h = go (c.addr.node == p) refl (has ns c.addr.node) refl (gone_one s ns cs p (grind (arith, h)))
  where
    none : is_at cs c.addr.node ≡ false
    none = grind (arith, h)

    here : (v : Bool) → has ns c.addr.node ≡ v → gone ns (c ∷ cs) ≡ (if v then gone ns cs else suc (gone ns cs))
    here v i = rw (i, gone) refl

    there : (v : Bool) → has (without ns p) c.addr.node ≡ v → gone (without ns p) (c ∷ cs) ≡ (if v then gone (without ns p) cs else suc (gone (without ns p) cs))
    there v i = rw (i, gone) refl

    go : (b : Bool) → (c.addr.node == p) ≡ b → (v : Bool) → has ns c.addr.node ≡ v → gone (without ns p) cs ≤ suc (gone ns cs) → gone (without ns p) (c ∷ cs) ≤ suc (gone ns (c ∷ cs))
    go true i v j rest =
        let same : c.addr.node ≡ p = grind (arith, nat_tests, i) in
        let off : has (without ns p) c.addr.node ≡ false = has_without ns p c.addr.node ∙ grind (arith, nat_tests, same) in
        let eq : gone (without ns p) cs ≡ gone ns cs = gone_other ns cs p (ap (is_at cs) (sym same) ∙ none) in
        let one = there false off in
        let two = here v j in
        last v one two eq
      where
        last : (v : Bool) → gone (without ns p) (c ∷ cs) ≡ suc (gone (without ns p) cs) → gone ns (c ∷ cs) ≡ (if v then gone ns cs else suc (gone ns cs)) → gone (without ns p) cs ≡ gone ns cs → gone (without ns p) (c ∷ cs) ≤ suc (gone ns (c ∷ cs))
        last true a b e = omega (arith, a, b, e)
        last false a b e = omega (arith, a, b, e)
    go false i v j rest =
        let off : (p == c.addr.node) ≡ false = grind (arith, nat_tests, i) in
        let on : has (without ns p) c.addr.node ≡ v = has_without ns p c.addr.node ∙ rw off j in
        let one = there v on in
        let two = here v j in
        last v one two
      where
        last : (v : Bool) → gone (without ns p) (c ∷ cs) ≡ (if v then gone (without ns p) cs else suc (gone (without ns p) cs)) → gone ns (c ∷ cs) ≡ (if v then gone ns cs else suc (gone ns cs)) → gone (without ns p) (c ∷ cs) ≤ suc (gone ns (c ∷ cs))
        last true a b = omega (arith, a, b, rest)
        last false a b = omega (arith, a, b, rest)

apart_up : (s : Option Addr) (cs : List Child) (p : ℕ) → are_apart s cs ≡ true → is_up s p ≡ true → is_at cs p ≡ false
apart_up s [] p h u = refl
apart_up s (c ∷ cs) p h u = go (c.addr.node == p) refl (apart_up s cs p (grind (arith, h)) u)
  where
    go : (b : Bool) → (c.addr.node == p) ≡ b → is_at cs p ≡ false → (b || is_at cs p) ≡ false
    go true i rest = let same : c.addr.node ≡ p = grind (arith, nat_tests, i) in let up : is_up s c.addr.node ≡ true = ap (is_up s) same ∙ u in absurd (grind (arith, h, up))
    go false i rest = rest

gone_same : (ns : List ℕ) (cs : List Child) (p : ℕ) → has ns p ≡ false → gone (without ns p) cs ≡ gone ns cs
gone_same ns [] p h = refl
gone_same ns (c ∷ cs) p h = go (p == c.addr.node) refl (gone_same ns cs p h)
  where
    go : (b : Bool) → (p == c.addr.node) ≡ b → gone (without ns p) cs ≡ gone ns cs → gone (without ns p) (c ∷ cs) ≡ gone ns (c ∷ cs)
    go true i rest =
        let same : p ≡ c.addr.node = grind (arith, nat_tests, i) in
        let there : has (without ns p) c.addr.node ≡ has ns c.addr.node = has_without ns p c.addr.node ∙ rw i (sym (ap (has ns) (sym same) ∙ h)) in
        rw (there, gone) (rw rest refl)
    go false i rest =
        let there : has (without ns p) c.addr.node ≡ has ns c.addr.node = has_without ns p c.addr.node ∙ rw i refl in
        rw (there, gone) (rw rest refl)

-- an arc that goes leaves no more to count
pub counted_without : (s : Option Addr) (ns : List ℕ) (cs : List Child) (p : ℕ) → are_apart s cs ≡ true → below s (without ns p) + gone (without ns p) cs ≤ below s ns + gone ns cs
counted_without s ns cs p h = go (has ns p) refl (is_up s p) refl
  where
    go : (b : Bool) → has ns p ≡ b → (u : Bool) → is_up s p ≡ u → below s (without ns p) + gone (without ns p) cs ≤ below s ns + gone ns cs
    go false i u j = let one = below_less s ns p in let two = gone_same ns cs p i in omega (arith, one, two)
    go true i true j = let one = below_up s ns p j in let two = gone_other ns cs p (apart_up s cs p h j) in omega (arith, one, two)
    go true i false j = let one = below_down s ns p j i in let two = gone_one s ns cs p h in omega (arith, one, two)

-- ---- the branches are counted

pub counted : (s : Option Addr) (cs : List Child) (ns : List ℕ) → are_apart s cs ≡ true → length cs ≤ below s ns + gone ns cs
counted s [] ns h = omega arith
counted s (c ∷ cs) ns h = go (has ns c.addr.node) refl (λ ms. counted s cs ms (grind (arith, h)))
  where
    p : ℕ
    p = c.addr.node

    off : is_up s p ≡ false
    off = grind (arith, h)

    none : is_at cs p ≡ false
    none = grind (arith, h)

    go : (b : Bool) → has ns p ≡ b → ((ms : List ℕ) → length cs ≤ below s ms + gone ms cs) → suc (length cs) ≤ below s ns + (if b then gone ns cs else suc (gone ns cs))
    go true i rest =
        let one = rest (without ns p) in
        let two = below_down s ns p off i in
        let three = gone_other ns cs p none in
        omega (arith, one, two, three)
    go false i rest = let one = rest ns in omega (arith, one)

-- ---- one branch more, on an arc

pub gone_more : (ns : List ℕ) (cs : List Child) (c : Child) → has ns c.addr.node ≡ true → gone ns (cs ++ c ∷ []) ≡ gone ns cs
gone_more ns [] c h = rw (h, gone) refl
gone_more ns (b ∷ cs) c h = rw (gone_more ns cs c h) refl

at_more : (cs : List Child) (c : Child) (p : ℕ) → is_at (cs ++ c ∷ []) p ≡ (is_at cs p || (c.addr.node == p))
at_more [] c p = grind arith
at_more (b ∷ cs) c p = grind (arith, at_more cs c p)

pub apart_more : (s : Option Addr) (cs : List Child) (c : Child) → are_apart s cs ≡ true → is_up s c.addr.node ≡ false → is_at cs c.addr.node ≡ false → are_apart s (cs ++ c ∷ []) ≡ true
apart_more s [] c h u n = rw u refl
apart_more s (b ∷ cs) c h u n =
    let rest : are_apart s (cs ++ c ∷ []) ≡ true = apart_more s cs c (grind (arith, h)) u (grind (arith, n)) in
    let off : (b.addr.node == c.addr.node) ≡ false = grind (arith, n) in
    let other : (c.addr.node == b.addr.node) ≡ false = grind (arith, nat_tests, off) in
    let here : is_at (cs ++ c ∷ []) b.addr.node ≡ false = at_more cs c b.addr.node ∙ grind (arith, h, other) in
    grind (arith, h, here, rest)

pub length_more : (cs : List Child) (c : Child) → length (cs ++ c ∷ []) ≡ suc (length cs)
length_more [] c = refl
length_more (b ∷ cs) c = ap (λ (n : ℕ). suc n) (length_more cs c)
