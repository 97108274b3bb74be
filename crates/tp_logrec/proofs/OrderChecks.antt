-- A check of a list tells what follows it, and with one record more is that of the longer list.
use Rattle.std.proofs.Common.{◌≡◌, ℕ, Option, Some, None, List, [], ◌∷◌, ◌++◌, refl, sym, ◌∙◌, ap, arith, append-nil, Bool, true, false}
use Rattle.std.specs.Prelude.{◌&&◌, ◌==◌, not, cond}
use Rattle.std.specs.Cmp.{unsigned_Decides}
use Rattle.tp_logrec.specs.declared.record.LogRec.{LogRec}
use Rattle.tp_logrec.specs.Order.{Owner, owner, owner_of, is_owner, is_end, is_bound, others, bound, bound_by, bound_after, is_free, boots, last_from, last_by, ready_from, ready_by, last_boot_from, boot_by, is_begun, Before, before, may_follow, follows}
use Rattle.tp_logrec.specs.OrderCheck.{is_above, greatest_after}
use Rattle.tp_logrec.specs.OrderCheck.{Recent, OrderCheck, recent, binding, last_in, ready_in, recent_with, recent_by, recent_after, bound_at, binding_after, is_none, IsCheckOf, IsSame, IsWith, before_by, follows_by}
use Rattle.tp_logrec.proofs.Sames.{owner_same}
use Rattle.tp_logrec.proofs.Stands.{above_greatest, greatest_after_is, boot_after_is, bound_after_is, begun_after_is}

-- ---- the keys that bind a node

pub none_is_free : (n : ℕ) (os : List Owner) → is_none (bound_at n os) ≡ is_free n os
none_is_free n [] = refl
none_is_free n (o ∷ os) = go (o.node == n) (none_is_free n os)
  where
    go : (b : Bool) → is_none (bound_at n os) ≡ is_free n os → is_none (elim b as (λ _. List Owner) [ true ↦ o ∷ bound_at n os | false ↦ bound_at n os ]) ≡ (not b && is_free n os)
    go true e = refl
    go false e = e

pub at-append : (n : ℕ) (os ps : List Owner) → bound_at n (os ++ ps) ≡ bound_at n os ++ bound_at n ps
at-append n [] ps = refl
at-append n (o ∷ os) ps = go (o.node == n) (at-append n os ps)
  where
    go : (b : Bool) → bound_at n (os ++ ps) ≡ bound_at n os ++ bound_at n ps
        → elim b as (λ _. List Owner) [ true ↦ o ∷ bound_at n (os ++ ps) | false ↦ bound_at n (os ++ ps) ] ≡ elim b as (λ _. List Owner) [ true ↦ o ∷ bound_at n os | false ↦ bound_at n os ] ++ bound_at n ps
    go true e = ap (λ w. o ∷ w) e
    go false e = e

-- taking a key away there, and at another node
pub others_at : (n : ℕ) (p : Owner) (os : List Owner) → bound_at n (others os p) ≡ others (bound_at n os) p
others_at n p [] = refl
others_at n p (o ∷ os) = go (is_owner o p) (o.node == n) refl refl (others_at n p os)
  where
    go : (s b : Bool) → is_owner o p ≡ s → (o.node == n) ≡ b → bound_at n (others os p) ≡ others (bound_at n os) p → bound_at n (others (o ∷ os) p) ≡ others (bound_at n (o ∷ os)) p
    go true true e f rest = grind (arith, e, f, rest)
    go true false e f rest = grind (arith, e, f, rest)
    go false true e f rest = grind (arith, e, f, rest)
    go false false e f rest = grind (arith, e, f, rest)

pub others_elsewhere : (n : ℕ) (p : Owner) (os : List Owner) → (p.node == n) ≡ false → bound_at n (others os p) ≡ bound_at n os
others_elsewhere n p [] away = refl
others_elsewhere n p (o ∷ os) away = go (is_owner o p) (o.node == n) refl refl (others_elsewhere n p os away)
  where
    go : (s b : Bool) → is_owner o p ≡ s → (o.node == n) ≡ b → bound_at n (others os p) ≡ bound_at n os → bound_at n (others (o ∷ os) p) ≡ bound_at n (o ∷ os)
    go true true e f rest = absurd (let clash : true ≡ false = sym f ∙ ap (λ (w : Owner). w.node == n) (owner_same o p e) ∙ away in cc)
    go true false e f rest = grind (arith, e, f, rest)
    go false true e f rest = grind (arith, e, f, rest)
    go false false e f rest = grind (arith, e, f, rest)

pub bound_at_by : (n : ℕ) (p : Owner) (os : List Owner) (r : LogRec) → bound_at n (bound_by os p r) ≡ elim (p.node == n) as (λ _. List Owner) [ true ↦ bound_by (bound_at n os) p r | false ↦ bound_at n os ]
bound_at_by n p os r = go (is_bound r) (p.node == n) refl refl
  where
    go : (s b : Bool) → is_bound r ≡ s → (p.node == n) ≡ b → bound_at n (bound_by os p r) ≡ elim b as (λ _. List Owner) [ true ↦ bound_by (bound_at n os) p r | false ↦ bound_at n os ]
    go true true e f = let a = at-append n (others os p) (p ∷ []) in let b = others_at n p os in grind (arith, e, f, a, b)
    go true false e f = let a = at-append n (others os p) (p ∷ []) in let b = others_elsewhere n p os f in let c = append-nil (bound_at n os) in grind (arith, e, f, a, b, c)
    go false true e f = let b = others_at n p os in grind (arith, e, f, b)
    go false false e f = let b = others_elsewhere n p os f in grind (arith, e, f, b)

pub binding_step : (n : ℕ) (os : List Owner) (r : LogRec) → bound_at n (bound_after os r) ≡ binding_after (bound_at n os) n r
binding_step n os (LogRec.Boot m) = refl
binding_step n os (LogRec.Ready m k a cs) = bound_at_by n (owner m k) os (LogRec.Ready m k a cs)
binding_step n os (LogRec.Heuristic m k o) = bound_at_by n (owner m k) os (LogRec.Heuristic m k o)
binding_step n os (LogRec.Commit m k a cs) = bound_at_by n (owner m k) os (LogRec.Commit m k a cs)
binding_step n os (LogRec.Damage m k a o r cs) = bound_at_by n (owner m k) os (LogRec.Damage m k a o r cs)
binding_step n os (LogRec.End m k o) = bound_at_by n (owner m k) os (LogRec.End m k o)

-- ---- one key

pub last_by_recent : (k : Option Recent) (o : Owner) (r : LogRec) → last_in (recent_after k o r) ≡ last_by o (last_in k) r
last_by_recent k o (LogRec.Boot m) = refl
last_by_recent k o (LogRec.Ready m j a cs) = go (is_owner (owner m j) o)
  where
    go : (b : Bool) → last_in (elim b as (λ _. Option Recent) [ true ↦ recent_by k (LogRec.Ready m j a cs) | false ↦ k ]) ≡ elim b as (λ _. Option LogRec) [ false ↦ last_in k | true ↦ Some (LogRec.Ready m j a cs) ]
    go true = refl
    go false = refl
last_by_recent k o (LogRec.Heuristic m j u) = go (is_owner (owner m j) o)
  where
    go : (b : Bool) → last_in (elim b as (λ _. Option Recent) [ true ↦ recent_by k (LogRec.Heuristic m j u) | false ↦ k ]) ≡ elim b as (λ _. Option LogRec) [ false ↦ last_in k | true ↦ Some (LogRec.Heuristic m j u) ]
    go true = refl
    go false = refl
last_by_recent k o (LogRec.Commit m j a cs) = go (is_owner (owner m j) o)
  where
    go : (b : Bool) → last_in (elim b as (λ _. Option Recent) [ true ↦ recent_by k (LogRec.Commit m j a cs) | false ↦ k ]) ≡ elim b as (λ _. Option LogRec) [ false ↦ last_in k | true ↦ Some (LogRec.Commit m j a cs) ]
    go true = refl
    go false = refl
last_by_recent k o (LogRec.Damage m j a u q cs) = go (is_owner (owner m j) o)
  where
    go : (b : Bool) → last_in (elim b as (λ _. Option Recent) [ true ↦ recent_by k (LogRec.Damage m j a u q cs) | false ↦ k ]) ≡ elim b as (λ _. Option LogRec) [ false ↦ last_in k | true ↦ Some (LogRec.Damage m j a u q cs) ]
    go true = refl
    go false = refl
last_by_recent k o (LogRec.End m j u) = go (is_owner (owner m j) o)
  where
    go : (b : Bool) → last_in (elim b as (λ _. Option Recent) [ true ↦ recent_by k (LogRec.End m j u) | false ↦ k ]) ≡ elim b as (λ _. Option LogRec) [ false ↦ last_in k | true ↦ None ]
    go true = refl
    go false = refl

pub ready_by_recent : (k : Option Recent) (o : Owner) (r : LogRec) → ready_in (recent_after k o r) ≡ ready_by o (ready_in k) r
ready_by_recent k o (LogRec.Boot m) = refl
ready_by_recent k o (LogRec.Ready m j a cs) = go (is_owner (owner m j) o)
  where
    go : (b : Bool) → ready_in (elim b as (λ _. Option Recent) [ true ↦ recent_by k (LogRec.Ready m j a cs) | false ↦ k ]) ≡ elim b as (λ _. Option LogRec) [ false ↦ ready_in k | true ↦ Some (LogRec.Ready m j a cs) ]
    go true = refl
    go false = refl
ready_by_recent k o (LogRec.Heuristic m j u) = go (is_owner (owner m j) o)
  where
    go : (b : Bool) → ready_in (elim b as (λ _. Option Recent) [ true ↦ recent_by k (LogRec.Heuristic m j u) | false ↦ k ]) ≡ elim b as (λ _. Option LogRec) [ false ↦ ready_in k | true ↦ ready_in k ]
    go true = refl
    go false = refl
ready_by_recent k o (LogRec.Commit m j a cs) = go (is_owner (owner m j) o)
  where
    go : (b : Bool) → ready_in (elim b as (λ _. Option Recent) [ true ↦ recent_by k (LogRec.Commit m j a cs) | false ↦ k ]) ≡ elim b as (λ _. Option LogRec) [ false ↦ ready_in k | true ↦ ready_in k ]
    go true = refl
    go false = refl
ready_by_recent k o (LogRec.Damage m j a u q cs) = go (is_owner (owner m j) o)
  where
    go : (b : Bool) → ready_in (elim b as (λ _. Option Recent) [ true ↦ recent_by k (LogRec.Damage m j a u q cs) | false ↦ k ]) ≡ elim b as (λ _. Option LogRec) [ false ↦ ready_in k | true ↦ ready_in k ]
    go true = refl
    go false = refl
ready_by_recent k o (LogRec.End m j u) = go (is_owner (owner m j) o)
  where
    go : (b : Bool) → ready_in (elim b as (λ _. Option Recent) [ true ↦ recent_by k (LogRec.End m j u) | false ↦ k ]) ≡ elim b as (λ _. Option LogRec) [ false ↦ ready_in k | true ↦ None ]
    go true = refl
    go false = refl

-- what the map has of a key after its record
pub after_end : (ks : List (Owner × Recent)) (p o : Owner) (r : LogRec) → owner_of r ≡ Some p → is_end r ≡ true → cond (is_owner p o) None (recent ks o) ≡ recent_after (recent ks o) o r
after_end ks p o r of e = go (is_owner p o) refl
  where
    go : (b : Bool) → is_owner p o ≡ b → cond (is_owner p o) None (recent ks o) ≡ recent_after (recent ks o) o r
    go true f = grind (arith, of, e, f)
    go false f = grind (arith, of, e, f)

pub after_put : (ks : List (Owner × Recent)) (p o : Owner) (r : LogRec) → owner_of r ≡ Some p → is_end r ≡ false → cond (is_owner p o) (Some (recent_with (recent ks p) r)) (recent ks o) ≡ recent_after (recent ks o) o r
after_put ks p o r of e = go (is_owner p o) refl
  where
    go : (b : Bool) → is_owner p o ≡ b → cond (is_owner p o) (Some (recent_with (recent ks p) r)) (recent ks o) ≡ recent_after (recent ks o) o r
    go true f = let same : recent ks p ≡ recent ks o = ap (recent ks) (owner_same p o f) in grind (arith, of, e, f, same)
    go false f = grind (arith, of, e, f)

-- ---- one record more of a list

pub last_from_more : (o : Owner) (k : Option LogRec) (rs : List LogRec) (r : LogRec) → last_from o k (rs ++ r ∷ []) ≡ last_by o (last_from o k rs) r
last_from_more o k [] r = refl
last_from_more o k (q ∷ qs) r = last_from_more o (last_by o k q) qs r

pub ready_from_more : (o : Owner) (k : Option LogRec) (rs : List LogRec) (r : LogRec) → ready_from o k (rs ++ r ∷ []) ≡ ready_by o (ready_from o k rs) r
ready_from_more o k [] r = refl
ready_from_more o k (q ∷ qs) r = ready_from_more o (ready_by o k q) qs r

pub check_grows : (rs : List LogRec) (r : LogRec) (c d : OrderCheck) → IsCheckOf rs c → IsWith c r d → IsCheckOf (rs ++ r ∷ []) d
check_grows rs r c d is with = record {
  begun = with.begun ∙ sym (begun_after_is rs r);
  greatest = with.greatest ∙ ap (λ g. greatest_after g r) is.greatest ∙ sym (greatest_after_is rs r);
  boot = with.boot ∙ ap (λ n. boot_by n r) is.boot ∙ sym (boot_after_is 0 rs r);
  last = λ o. ap last_in (with.recent o) ∙ last_by_recent (recent c.keys o) o r ∙ ap (λ k. last_by o k r) (is.last o) ∙ sym (last_from_more o None rs r);
  ready = λ o. ap ready_in (with.recent o) ∙ ready_by_recent (recent c.keys o) o r ∙ ap (λ k. ready_by o k r) (is.ready o) ∙ sym (ready_from_more o None rs r);
  binding = λ n. with.binding n ∙ ap (λ os. binding_after os n r) (is.binding n) ∙ sym (binding_step n (bound rs) r) ∙ sym (ap (bound_at n) (bound_after_is [] rs r));
}

pub check_stays : (rs : List LogRec) (c d : OrderCheck) → IsCheckOf rs c → IsSame c d → IsCheckOf rs d
check_stays rs c d is same = record {
  begun = same.begun ∙ is.begun;
  greatest = same.greatest ∙ is.greatest;
  boot = same.boot ∙ is.boot;
  last = λ o. ap last_in (same.recent o) ∙ is.last o;
  ready = λ o. ap ready_in (same.recent o) ∙ is.ready o;
  binding = λ n. same.binding n ∙ is.binding n;
}

-- ---- what follows

pub before_by_check : (rs : List LogRec) (c : OrderCheck) (o : Owner) → IsCheckOf rs c → before_by c o ≡ before rs o
before_by_check rs c o is =
    let free : is_none (binding c.nodes o.node) ≡ is_free o.node (bound rs) = ap is_none (is.binding o.node) ∙ none_is_free o.node (bound rs) in
    ap (λ x. let b : Before = record { begun = x; boot = c.boot; free = is_none (binding c.nodes o.node); last = last_in (recent c.keys o); ready = ready_in (recent c.keys o) } in b) is.begun
    ∙ ap (λ x. let b : Before = record { begun = is_begun rs; boot = x; free = is_none (binding c.nodes o.node); last = last_in (recent c.keys o); ready = ready_in (recent c.keys o) } in b) is.boot
    ∙ ap (λ x. let b : Before = record { begun = is_begun rs; boot = last_boot_from 0 rs; free = x; last = last_in (recent c.keys o); ready = ready_in (recent c.keys o) } in b) free
    ∙ ap (λ x. let b : Before = record { begun = is_begun rs; boot = last_boot_from 0 rs; free = is_free o.node (bound rs); last = x; ready = ready_in (recent c.keys o) } in b) (is.last o)
    ∙ ap (λ x. let b : Before = record { begun = is_begun rs; boot = last_boot_from 0 rs; free = is_free o.node (bound rs); last = last_from o None rs; ready = x } in b) (is.ready o)

pub follows_by_check : (rs : List LogRec) (c : OrderCheck) (r : LogRec) → IsCheckOf rs c → follows_by c r ≡ follows rs r
follows_by_check rs c (LogRec.Boot n) is = ap (λ g. is_above g n) is.greatest ∙ above_greatest n (boots rs)
follows_by_check rs c (LogRec.Ready n k a cs) is = ap (λ b. may_follow b (LogRec.Ready n k a cs)) (before_by_check rs c (owner n k) is)
follows_by_check rs c (LogRec.Heuristic n k o) is = ap (λ b. may_follow b (LogRec.Heuristic n k o)) (before_by_check rs c (owner n k) is)
follows_by_check rs c (LogRec.Commit n k a cs) is = ap (λ b. may_follow b (LogRec.Commit n k a cs)) (before_by_check rs c (owner n k) is)
follows_by_check rs c (LogRec.Damage n k a o r cs) is = ap (λ b. may_follow b (LogRec.Damage n k a o r cs)) (before_by_check rs c (owner n k) is)
follows_by_check rs c (LogRec.End n k o) is = ap (λ b. may_follow b (LogRec.End n k o)) (before_by_check rs c (owner n k) is)

-- ---- what binds a node after a record of one of its keys

pub after_binding : (ns : List (ℕ × List Owner)) (p : Owner) (n : ℕ) (r : LogRec) → owner_of r ≡ Some p
    → cond (p.node == n) (bound_by (binding ns p.node) p r) (binding ns n) ≡ binding_after (binding ns n) n r
after_binding ns p n r of = go (p.node == n) refl
  where
    go : (b : Bool) → (p.node == n) ≡ b → cond (p.node == n) (bound_by (binding ns p.node) p r) (binding ns n) ≡ binding_after (binding ns n) n r
    go true f = let same : binding ns p.node ≡ binding ns n = ap (binding ns) ((unsigned_Decides p.node n).0 f) in grind (arith, of, f, same)
    go false f = grind (arith, of, f)
