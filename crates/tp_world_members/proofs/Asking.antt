-- What lines tell is put to members, one line after the other.
use Rattle.std.proofs.Common.{◌≡◌, ◌≤◌, ◌<◌, ◌+◌, ◌++◌, ℕ, Bool, true, false, refl, ap, sym, ◌∙◌, subst, arith, append_assoc, Option, Some, None, List, [], ◌∷◌, length, drop, slice_index_or, nat_eq}
use Rattle.std.proofs.lemmas.List.{append-nil, drop_more, drop_all}
use Rattle.std.specs.Map.{lookup}
use Rattle.tp_records.specs.declared.request.Request.{Request}
use Rattle.tp_records.specs.declared.indication.Indication.{Indication}
use Rattle.tp_records.specs.Answers.{Answer}
use Rattle.tp_model.specs.declared.out_line.OutLine.{OutLine}
use Rattle.tp_model.specs.Happenings.{Told}
use Rattle.tp_model.specs.Transcript.{Put}
use Rattle.tp_world_members.specs.Told.{told_by, told_in, put_to, puts_by, puts_in}
use Rattle.tp_world_members.specs.Members.{is_there, slot_at, driver_in, silent, AreSame, Gave, AsksFor, Asks, AsksFrom}
use Rattle.tp_world_members.specs.declared.members.Asked.{Asked}
use Rattle.tp_world_members.proofs.Gave.{gave_none, gave_more, silent_length, silent_joined}

-- ---- the queue

pub told_more : (ls ms : List OutLine) → told_in (ls ++ ms) ≡ told_in ls ++ told_in ms
told_more [] ms = refl
told_more (l ∷ ls) ms = ap (λ (t : List Told). told_by l ++ t) (told_more ls ms) ∙ sym (append_assoc (told_by l) (told_in ls) (told_in ms))

puts_joined : (d : ℕ → Option ℕ) (ts us : List Told) → puts_by d (ts ++ us) ≡ puts_by d ts ++ puts_by d us
puts_joined d [] us = refl
puts_joined d (t ∷ ts) us = ap (λ (q : List Put). put_to d t ++ q) (puts_joined d ts us) ∙ sym (append_assoc (put_to d t) (puts_by d ts) (puts_by d us))

pub puts_more : (d : ℕ → Option ℕ) (ls ms : List OutLine) → puts_in d (ls ++ ms) ≡ puts_in d ls ++ puts_in d ms
puts_more d ls ms = ap (puts_by d) (told_more ls ms) ∙ puts_joined d (told_in ls) (told_in ms)

pub puts_next : (d : ℕ → Option ℕ) (ls : List OutLine) (i : ℕ) (l : OutLine) → i < length ls → l ≡ slice_index_or ls i l → puts_in d (drop i ls) ≡ puts_in d (l ∷ []) ++ puts_in d (drop (i + 1) ls)
puts_next d ls i l within is = ap (puts_in d) (drop_more ls i l within ∙ ap (λ (x : OutLine). x ∷ drop (i + 1) ls) (sym is)) ∙ puts_more d (l ∷ []) (drop (i + 1) ls)

-- the same members drive the same nodes
puts_alike : (d e : ℕ → Option ℕ) (ts : List Told) → ((n : ℕ) → d n ≡ e n) → puts_by d ts ≡ puts_by e ts
puts_alike d e [] same = refl
puts_alike d e (t ∷ ts) same = go (d t.node) (e t.node) (same t.node) (puts_alike d e ts same)
  where
    to : Option ℕ → List Put
    to o = elim o [ None ↦ [] | Some k ↦ record { member = k; node = t.node; indication = t.indication } ∷ [] ]

    go : (a b : Option ℕ) → a ≡ b → puts_by d ts ≡ puts_by e ts → to a ++ puts_by d ts ≡ to b ++ puts_by e ts
    go a b i j = ap (λ (o : Option ℕ). to o ++ puts_by d ts) i ∙ ap (λ (q : List Put). to b ++ q) j

pub puts_same : (d e : ℕ → Option ℕ) (ls : List OutLine) → ((n : ℕ) → d n ≡ e n) → puts_in d ls ≡ puts_in e ls
puts_same d e ls same = puts_alike d e (told_in ls) same

pub driver_same : {M : Type 0} (old new : List (Option M)) (es fs : List (ℕ × ℕ)) → AreSame old new → fs ≡ es → (n : ℕ) → driver_in new fs n ≡ driver_in old es n
driver_same old new es fs same is n = ap (λ (l : List (ℕ × ℕ)). driver_in new l n) is ∙ go (lookup (nat_eq n) es)
  where
    if_there : ℕ → Bool → Option ℕ
    if_there k b = elim b [ true ↦ Some k | false ↦ None ]

    go : (o : Option ℕ) → (elim o as (λ _. Option ℕ) [ None ↦ None | Some k ↦ if_there k (is_there (slot_at new k)) ]) ≡ (elim o as (λ _. Option ℕ) [ None ↦ None | Some k ↦ if_there k (is_there (slot_at old k)) ])
    go None = refl
    go (Some k) = ap (if_there k) (same.there k)

-- ---- one line

pub driver_there : {M : Type 0} (xs : List (Option M)) (es : List (ℕ × ℕ)) (n k : ℕ) → driver_in xs es n ≡ Some k → is_there (slot_at xs k) ≡ true
driver_there xs es n k is = go (lookup (nat_eq n) es) is
  where
    cases : (j : ℕ) (b : Bool) → is_there (slot_at xs j) ≡ b → (elim b as (λ _. Option ℕ) [ true ↦ Some j | false ↦ None ]) ≡ Some k → is_there (slot_at xs k) ≡ true
    cases j true e i = let same : j ≡ k = cc in subst (λ (m : ℕ). is_there (slot_at xs m) ≡ true) same e
    cases j false e i = absurd cc

    go : (o : Option ℕ) → (elim o as (λ _. Option ℕ) [ None ↦ None | Some j ↦ elim (is_there (slot_at xs j)) as (λ _. Option ℕ) [ true ↦ Some j | false ↦ None ] ]) ≡ Some k → is_there (slot_at xs k) ≡ true
    go None i = absurd cc
    go (Some j) i = cases j (is_there (slot_at xs j)) refl i

pub asks_for : {M : Type 0} (allowed : M → List Answer → Type 0) (old new : List (Option M)) (d : ℕ → Option ℕ) (line : OutLine) (n m : ℕ) (i : Indication) (r : Request) → line ≡ OutLine.Tell n i → d n ≡ Some m
    → (a : Option Request) → a ≡ Some r → Gave allowed old new (record { member = m; node = n; indication = i } ∷ []) (a ∷ []) → AsksFor allowed old new (puts_in d (line ∷ [])) (record { node = n; request = r }) []
asks_for allowed old new d line n m i r is drives a some gave = record {
  passed = [];
  put = record { member = m; node = n; indication = i };
  is = ap (λ (l : OutLine). puts_in d (l ∷ [])) is ∙ ap (λ (o : Option ℕ). to o ++ []) drives;
  node = refl;
  gave = subst (λ (x : Option Request). Gave allowed old new (record { member = m; node = n; indication = i } ∷ []) (x ∷ [])) some gave;
}
  where
    to : Option ℕ → List Put
    to o = elim o [ None ↦ [] | Some k ↦ record { member = k; node = n; indication = i } ∷ [] ]

-- ---- many lines

-- what these lines tell from the one place to the other was put, and nothing was asked for
pub record Passed {M : Type 0} (allowed : M → List Answer → Type 0) (old new : List (Option M)) (d : ℕ → Option ℕ) (ls : List OutLine) (from to : ℕ) : Type 0 where
  pub put : List Put
  pub is : puts_in d (drop from ls) ≡ put ++ puts_in d (drop to ls)
  pub gave : Gave allowed old new put (silent put)

pub passed_none : {M : Type 0} (allowed : M → List Answer → Type 0) (xs : List (Option M)) (d : ℕ → Option ℕ) (ls : List OutLine) (from : ℕ) → Passed allowed xs xs d ls from from
passed_none allowed xs d ls from = record { put = []; is = refl; gave = gave_none allowed xs }

pub passed_more : {M : Type 0} (allowed : M → List Answer → Type 0) (a b c : List (Option M)) (d : ℕ → Option ℕ) (ls : List OutLine) (from i : ℕ) (l : OutLine) → i < length ls → l ≡ slice_index_or ls i l → Passed allowed a b d ls from i
    → Asks allowed b c (puts_in d (l ∷ [])) None → Passed allowed a c d ls from (i + 1)
passed_more allowed a b c d ls from i l within is p h =
    let q : List Put = puts_in d (l ∷ []) in
    record {
      put = p.put ++ q;
      is = p.is ∙ ap (λ (r : List Put). p.put ++ r) (puts_next d ls i l within is) ∙ sym (append_assoc p.put q (puts_in d (drop (i + 1) ls)));
      gave = subst (λ (xs : List (Option Request)). Gave allowed a c (p.put ++ q) xs) (sym (silent_joined p.put q)) (gave_more allowed a b c p.put q (silent p.put) (silent q) (silent_length p.put) p.gave h);
    }

pub asked_there : {M : Type 0} (allowed : M → List Answer → Type 0) (a b c : List (Option M)) (d : ℕ → Option ℕ) (ls : List OutLine) (from i : ℕ) (l : OutLine) (x : Asked) → i < length ls → l ≡ slice_index_or ls i l
    → Passed allowed a b d ls from i → Asks allowed b c (puts_in d (l ∷ [])) (Some x) → AsksFrom allowed a c d ls from (Some (x, i + 1))
asked_there allowed a b c d ls from i l x within is p h =
    let rest : List Put = puts_in d (drop (i + 1) ls) in
    let one : puts_in d (l ∷ []) ≡ h.passed ++ h.put ∷ [] = h.is in (
      omega (arith, within),
      record {
        passed = p.put ++ h.passed;
        put = h.put;
        is = p.is ∙ ap (λ (r : List Put). p.put ++ r) (puts_next d ls i l within is ∙ ap (λ (r : List Put). r ++ rest) one ∙ append_assoc h.passed (h.put ∷ []) rest) ∙ sym (append_assoc p.put h.passed (h.put ∷ rest));
        node = h.node;
        gave = subst (λ (qs : List Put). Gave allowed a c qs (silent (p.put ++ h.passed) ++ Some x.request ∷ [])) (sym (append_assoc p.put h.passed (h.put ∷ [])))
            (subst (λ (xs : List (Option Request)). Gave allowed a c (p.put ++ (h.passed ++ h.put ∷ [])) xs) (sym (ap (λ (xs : List (Option Request)). xs ++ Some x.request ∷ []) (silent_joined p.put h.passed) ∙ append_assoc (silent p.put) (silent h.passed) (Some x.request ∷ [])))
            (gave_more allowed a b c p.put (h.passed ++ h.put ∷ []) (silent p.put) (silent h.passed ++ Some x.request ∷ []) (silent_length p.put) p.gave h.gave));
      },
    )

pub asked_never : {M : Type 0} (allowed : M → List Answer → Type 0) (a b : List (Option M)) (d : ℕ → Option ℕ) (ls : List OutLine) (from to : ℕ) → length ls ≤ to → Passed allowed a b d ls from to → AsksFrom allowed a b d ls from None
asked_never allowed a b d ls from to all p =
    let whole : p.put ≡ puts_in d (drop from ls) = sym (p.is ∙ ap (λ (r : List Put). p.put ++ r) (ap (puts_in d) (drop_all to ls all)) ∙ append-nil p.put) in
    subst (λ (q : List Put). Gave allowed a b q (silent q)) whole p.gave

pub same_more : {M : Type 0} (a b c : List (Option M)) → AreSame a b → AreSame b c → AreSame a c
same_more a b c x y = record { count = y.count ∙ x.count; there = λ k. y.there k ∙ x.there k }

-- by what drove the nodes before
pub asks_as : {M : Type 0} (allowed : M → List Answer → Type 0) (a b c : List (Option M)) (es fs : List (ℕ × ℕ)) (l : OutLine) (x y : Option Asked) → AreSame a b → fs ≡ es → x ≡ y → Asks allowed b c (puts_in (driver_in b fs) (l ∷ [])) x
    → Asks allowed b c (puts_in (driver_in a es) (l ∷ [])) y
asks_as allowed a b c es fs l x y same is now h =
    subst (λ (q : List Put). Asks allowed b c q y) (puts_same (driver_in b fs) (driver_in a es) (l ∷ []) (driver_same a b es fs same is))
    (subst (λ (z : Option Asked). Asks allowed b c (puts_in (driver_in b fs) (l ∷ [])) z) now h)

-- ---- where no node is driven

none_put : {M : Type 0} (xs : List (Option M)) (ts : List Told) → puts_by (driver_in xs []) ts ≡ []
none_put xs [] = refl
none_put xs (t ∷ ts) = none_put xs ts

-- nothing is put to a member
pub none_asked : {M : Type 0} (allowed : M → List Answer → Type 0) (xs : List (Option M)) (es : List (ℕ × ℕ)) (lines : List OutLine) (from : ℕ) → es ≡ [] → AsksFrom allowed xs xs (driver_in xs es) lines from None
none_asked {M} allowed xs es lines from none =
    subst (λ (fs : List (ℕ × ℕ)). AsksFrom allowed xs xs (driver_in xs fs) lines from None) (sym none)
    (subst (λ (queue : List Put). Gave allowed xs xs queue (silent queue)) (sym (none_put xs (told_in (drop from lines)))) (gave_none allowed xs))
