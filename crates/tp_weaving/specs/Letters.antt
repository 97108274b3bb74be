-- Letters: those that a node says; and as keys of tables: their test is equality.
use Rattle.std.specs.Prelude.{ℕ, ◌≡◌, ◌==◌, ◌&&◌, Bool, true, false, Some, List, [], ◌∷◌}
use Rattle.std.specs.Cmp.{IsEquivalence}
use Rattle.std.proofs.Common.{refl, sym, ◌∙◌, ap}
use Rattle.tp_names.specs.declared.identifiers.Addr.{Addr}
use Rattle.tp_names.specs.declared.identifiers.Mark.{Mark}
use Rattle.tp_names.specs.Same.{is_name, is_addr}
use Rattle.tp_records.specs.declared.peer.PeerRecord.{PeerRecord}
use Rattle.tp_records.specs.Bodies.{peer_bytes}
use Rattle.tp_records.specs.BodyReading.{peer_in}
use Rattle.tp_model.specs.Parts.{Out}
use Rattle.tp_names.proofs.Sames.{both, name_same, name_self, mark_same}
use Rattle.tp_weaving.specs.declared.letter.Letter.{Letter}

abbrev pub is_letter : Letter → Letter → Bool
is_letter a b = is_name a.octets b.octets && (is_addr a.from b.from && is_addr a.to b.to)

-- ---- what a node says

-- the letter in which the node at the one address says that to the other
abbrev pub letter_to : Addr → Addr → PeerRecord → Letter
letter_to from to r = record { from = from; to = to; octets = peer_bytes r }

-- those among the outputs of the node at that address
abbrev pub letters_in : Addr → List Out → List Letter
letters_in from [] = []
letters_in from (Out.Tell i ∷ outs) = letters_in from outs
letters_in from (Out.Send to r ∷ outs) = letter_to from to r ∷ letters_in from outs

-- each of them is read back
abbrev pub AreRead : List Out → Type 0
AreRead [] = Unit {0}
AreRead (Out.Tell i ∷ outs) = AreRead outs
AreRead (Out.Send to r ∷ outs) = (peer_in (peer_bytes r) ≡ Some r) × AreRead outs

-- ---- addresses

abbrev addr_of : List ℕ → ℕ → Addr
addr_of s n = record { site = s; node = n }

abbrev number : ℕ → Mark
number n = record { boot = n; node = 0; count = 0 }

number_same : (m n : ℕ) → (m == n) ≡ true → m ≡ n
number_same m n e = ap (λ (x : Mark). x.boot) (mark_same (number m) (number n) (ap (λ (b : Bool). b && (0 == 0) && (0 == 0)) e))

number_self : (n : ℕ) → (n == n) ≡ true
number_self n = (both (n == n) (is_name [] []) (name_self (n ∷ []))).0

both_true : (a b : Bool) → a ≡ true → b ≡ true → (a && b) ≡ true
both_true a b e f = ap (λ (c : Bool). c && b) e ∙ f

pub addr_same : (a b : Addr) → is_addr a b ≡ true → a ≡ b
addr_same a b e =
    let p = both (is_name a.site b.site) (a.node == b.node) e in
    ap (λ s. addr_of s a.node) (name_same a.site b.site p.0) ∙ ap (addr_of b.site) (number_same a.node b.node p.1)

pub addr_self : (a : Addr) → is_addr a a ≡ true
addr_self a = both_true (is_name a.site a.site) (a.node == a.node) (name_self a.site) (number_self a.node)

-- ---- letters

abbrev letter_of : Addr → Addr → List ℕ → Letter
letter_of from to octets = record { from = from; to = to; octets = octets }

pub letter_same : (a b : Letter) → is_letter a b ≡ true → a ≡ b
letter_same a b e =
    let p = both (is_name a.octets b.octets) (is_addr a.from b.from && is_addr a.to b.to) e in
    let q = both (is_addr a.from b.from) (is_addr a.to b.to) p.1 in
    ap (λ x. letter_of x a.to a.octets) (addr_same a.from b.from q.0)
    ∙ ap (λ x. letter_of b.from x a.octets) (addr_same a.to b.to q.1)
    ∙ ap (letter_of b.from b.to) (name_same a.octets b.octets p.0)

pub letter_self : (a : Letter) → is_letter a a ≡ true
letter_self a =
    both_true (is_name a.octets a.octets) (is_addr a.from a.from && is_addr a.to a.to) (name_self a.octets)
    (both_true (is_addr a.from a.from) (is_addr a.to a.to) (addr_self a.from) (addr_self a.to))

letter_either : (a b : Letter) → is_letter a b ≡ is_letter b a
letter_either a b = go (is_letter a b) (is_letter b a) refl refl
  where
    go : (x y : Bool) → is_letter a b ≡ x → is_letter b a ≡ y → is_letter a b ≡ is_letter b a
    go true y e f = ap (λ c. is_letter a c) (sym (letter_same a b e)) ∙ ap (λ c. is_letter c a) (letter_same a b e)
    go false true e f = ap (λ c. is_letter a c) (letter_same b a f) ∙ ap (λ c. is_letter c a) (sym (letter_same b a f))
    go false false e f = e ∙ sym f

pub letter_equivalence : IsEquivalence is_letter
letter_equivalence = record { refl = letter_self; symm = letter_either; congr = λ a b c e. ap (λ x. is_letter x c) (letter_same a b e) }
