-- The brief of a list in order is in order: after its Boot the briefs of the lives stand one after the other,
-- and records of one key change nothing of what the rules read of another.
use Rattle.std.proofs.Common.{◌≡◌, ℕ, Option, Some, None, List, [], ◌∷◌, ◌++◌, refl, sym, subst, ◌∙◌, ap, append_assoc, append-nil, arith, Bool, true, false}
use Rattle.std.specs.Prelude.{◌&&◌, ◌||◌, ◌==◌, nat_le}
use Rattle.std.proofs.lemmas.Bool.Decides.{nat_tests}
use Rattle.tp_names.proofs.Sames.{both}
use Rattle.tp_logrec.specs.declared.record.LogRec.{LogRec}
use Rattle.tp_logrec.specs.Order.{Owner, owner, owner_of, is_owner, is_end, is_ready, is_heuristic, is_as_ready, is_bound, holds, Before, before, may_follow, is_new, may_commit, may_damage, may_end, Life, lives, last_or, last, last_by, last_from, ready_by, ready_from, is_begun, boot_by, last_boot_from, bound, is_free, brief_life, brief_lives, boot_record, brief, follows, follow_from, all_follow}
use Rattle.tp_logrec.proofs.Sames.{owner_self, owner_same, owner_either}
use Rattle.tp_logrec.proofs.Frees.{and_assoc}
use Rattle.tp_logrec.proofs.Stands.{chosen, begun_after_is, boot_after_is}
use Rattle.tp_logrec.proofs.Briefs.{AllOwn, own_brief, brief_begun, begun_before, Absent, AreLives, lives_all}
use Rattle.tp_logrec.proofs.BoundKeys.{IsLoose, loose_is_free}
use Rattle.tp_logrec.proofs.LifeOrders.{in_life, ready_now, and_both, runs, life_briefed}
use Rattle.tp_logrec.proofs.LivesInOrder.{at_node, InOrder, or_left, or_right, order_all}

-- ---- what records of one key change

pub last_own : (p o : Owner) (before : Option LogRec) (r : LogRec) → owner_of r ≡ Some p → is_end r ≡ false → last_by o before r ≡ chosen (is_owner p o) before (Some r)
last_own p o before r own alive =
    ap (λ (x : Option Owner). chosen (elim x as (λ _. Bool) [ None ↦ false | Some q ↦ is_owner q o ]) before (elim (is_end r) as (λ _. Option LogRec) [ true ↦ None | false ↦ Some r ])) own
    ∙ ap (λ (b : Bool). chosen (is_owner p o) before (elim b as (λ _. Option LogRec) [ true ↦ None | false ↦ Some r ])) alive

pub ready_own : (p o : Owner) (before : Option LogRec) (r : LogRec) → owner_of r ≡ Some p → is_end r ≡ false → ready_by o before r ≡ chosen (is_owner p o) before (ready_now before r)
ready_own p o before r own alive =
    ap (λ (x : Option Owner). chosen (elim x as (λ _. Bool) [ None ↦ false | Some q ↦ is_owner q o ]) before (elim (is_end r) as (λ _. Option LogRec) [ true ↦ None | false ↦ ready_now before r ])) own
    ∙ ap (λ (b : Bool). chosen (is_owner p o) before (elim b as (λ _. Option LogRec) [ true ↦ None | false ↦ ready_now before r ])) alive

pub last_apart : (p o : Owner) (before : Option LogRec) (rs : List LogRec) → is_owner p o ≡ false → AllOwn p rs → last_from o before rs ≡ before
last_apart p o before [] apart own = refl
last_apart p o before (r ∷ rs) apart own =
    ap (λ x. last_from o x rs) (last_own p o before r own.0 own.1 ∙ ap (λ b. chosen b before (Some r)) apart) ∙ last_apart p o before rs apart own.2

pub ready_apart : (p o : Owner) (before : Option LogRec) (rs : List LogRec) → is_owner p o ≡ false → AllOwn p rs → ready_from o before rs ≡ before
ready_apart p o before [] apart own = refl
ready_apart p o before (r ∷ rs) apart own =
    ap (λ x. ready_from o x rs) (ready_own p o before r own.0 own.1 ∙ ap (λ b. chosen b before (ready_now before r)) apart) ∙ ready_apart p o before rs apart own.2

pub last_mine : (p o : Owner) (before : Option LogRec) (rs : List LogRec) → is_owner p o ≡ true → AllOwn p rs → last_from o before rs ≡ last_or before rs
last_mine p o before [] mine own = refl
last_mine p o before (r ∷ rs) mine own =
    ap (λ x. last_from o x rs) (last_own p o before r own.0 own.1 ∙ ap (λ b. chosen b before (Some r)) mine) ∙ last_mine p o (Some r) rs mine own.2

pub last_from-append : (o : Owner) (before : Option LogRec) (rs qs : List LogRec) → last_from o before (rs ++ qs) ≡ last_from o (last_from o before rs) qs
last_from-append o before [] qs = refl
last_from-append o before (r ∷ rs) qs = last_from-append o (last_by o before r) rs qs

pub ready_from-append : (o : Owner) (before : Option LogRec) (rs qs : List LogRec) → ready_from o before (rs ++ qs) ≡ ready_from o (ready_from o before rs) qs
ready_from-append o before [] qs = refl
ready_from-append o before (r ∷ rs) qs = ready_from-append o (ready_by o before r) rs qs

pub boot_own : (o : Owner) (n : ℕ) (r : LogRec) → owner_of r ≡ Some o → boot_by n r ≡ n
boot_own o n (LogRec.Boot m) own = absurd cc
boot_own o n _ own = refl

pub boot_same : (o : Owner) (n : ℕ) (front rs : List LogRec) → AllOwn o rs → last_boot_from n (front ++ rs) ≡ last_boot_from n front
boot_same o n front [] own = ap (λ w. last_boot_from n w) (append-nil front)
boot_same o n front (r ∷ rs) own =
    ap (λ w. last_boot_from n w) (sym (append_assoc front (r ∷ []) rs)) ∙ boot_same o n (front ++ r ∷ []) rs own.2
    ∙ boot_after_is n front r ∙ boot_own o (last_boot_from n front) r own.0

-- ---- the records of one life after a list

-- that the node is free is asked of the first alone
pub as_in_life : (b : Before) (r : LogRec) → b.begun ≡ true → (b.last ≡ None → b.free ≡ true) → may_follow b r ≡ may_follow (in_life b.boot b.last b.ready) r
as_in_life b r begun free = swap r
  where
    alone : (last : Option LogRec) → (last ≡ None → b.free ≡ true)
        → (b.free && elim last as (λ _. Bool) [ None ↦ true | Some q ↦ false ]) ≡ elim last as (λ _. Bool) [ None ↦ true | Some q ↦ false ]
    alone None f = ap (λ x. x && true) (f refl)
    alone (Some q) f = go b.free
      where
        go : (x : Bool) → (x && false) ≡ false
        go true = refl
        go false = refl

    swap : (r : LogRec) → may_follow b r ≡ may_follow (in_life b.boot b.last b.ready) r
    swap (LogRec.Boot n) = refl
    swap (LogRec.Ready n k a cs) = ap (λ x. x && is_new b) begun ∙ alone b.last free
    swap (LogRec.Heuristic n k h) = ap (λ x. x && holds b.last is_ready) begun
    swap (LogRec.Commit n k a cs) =
        ap (λ x. x && may_commit b k a cs) begun
        ∙ ap (λ x. elim k.branch as (λ _. Bool) [ None ↦ x && nat_le k.aaid.mark.boot b.boot | Some c ↦ (holds b.last is_ready || holds b.last is_heuristic) && holds b.ready (is_as_ready a cs) ]) (alone b.last free)
    swap (LogRec.Damage n k a h p cs) = ap (λ x. x && may_damage b k a h p cs) begun
    swap (LogRec.End n k h) = ap (λ x. x && holds b.last (may_end h)) begun

pub follows_own : (rs : List LogRec) (o : Owner) (r : LogRec) → owner_of r ≡ Some o → follows rs r ≡ may_follow (before rs o) r
follows_own rs o (LogRec.Boot n) own = absurd cc
follows_own rs o (LogRec.Ready n k a cs) own = let e : owner n k ≡ o = cc in ap (λ p. may_follow (before rs p) (LogRec.Ready n k a cs)) e
follows_own rs o (LogRec.Heuristic n k h) own = let e : owner n k ≡ o = cc in ap (λ p. may_follow (before rs p) (LogRec.Heuristic n k h)) e
follows_own rs o (LogRec.Commit n k a cs) own = let e : owner n k ≡ o = cc in ap (λ p. may_follow (before rs p) (LogRec.Commit n k a cs)) e
follows_own rs o (LogRec.Damage n k a h p cs) own = let e : owner n k ≡ o = cc in ap (λ q. may_follow (before rs q) (LogRec.Damage n k a h p cs)) e
follows_own rs o (LogRec.End n k h) own = let e : owner n k ≡ o = cc in ap (λ p. may_follow (before rs p) (LogRec.End n k h)) e

pub life_follows : (front : List LogRec) (o : Owner) (rs : List LogRec) → is_begun front ≡ true → AllOwn o rs → (last_from o None front ≡ None → is_free o.node (bound front) ≡ true)
    → runs (last_boot_from 0 front) (last_from o None front) (ready_from o None front) rs ≡ true → follow_from front rs ≡ true
life_follows front o [] begun own free e = refl
life_follows front o (r ∷ rs) begun own free e =
    let boot = last_boot_from 0 front in
    let last = last_from o None front in
    let ready = ready_from o None front in
    let p = both (may_follow (in_life boot last ready) r) (runs boot (Some r) (ready_now ready r) rs) e in
    let self = owner_self o in
    let now : last_from o None (front ++ r ∷ []) ≡ Some r = last_from-append o None front (r ∷ []) ∙ last_own o o last r own.0 own.1 ∙ ap (λ b. chosen b last (Some r)) self in
    let its : ready_from o None (front ++ r ∷ []) ≡ ready_now ready r = ready_from-append o None front (r ∷ []) ∙ ready_own o o ready r own.0 own.1 ∙ ap (λ b. chosen b ready (ready_now ready r)) self in
    let same : last_boot_from 0 (front ++ r ∷ []) ≡ boot = boot_same o 0 front (r ∷ []) (own.0, own.1, tt) in
    and_both (follows front r) (follow_from (front ++ r ∷ []) rs)
    (follows_own front o r own.0 ∙ as_in_life (before front o) r begun free ∙ p.0)
    (life_follows (front ++ r ∷ []) o rs (begun_after_is front r) own.2 (λ none. absurd (let clash : Some r ≡ None = sym now ∙ none in cc))
    (ap (λ n. runs n (last_from o None (front ++ r ∷ [])) (ready_from o None (front ++ r ∷ [])) rs) same
    ∙ ap (λ x. runs boot x (ready_from o None (front ++ r ∷ [])) rs) now
    ∙ ap (λ x. runs boot (Some r) x rs) its ∙ p.1))

pub follow_from-append : (front rs qs : List LogRec) → follow_from front (rs ++ qs) ≡ (follow_from front rs && follow_from (front ++ rs) qs)
follow_from-append front [] qs = ap (λ w. follow_from w qs) (sym (append-nil front))
follow_from-append front (r ∷ rs) qs =
    ap (λ b. follows front r && b) (follow_from-append (front ++ r ∷ []) rs qs ∙ ap (λ w. follow_from (front ++ r ∷ []) rs && follow_from w qs) (append_assoc front (r ∷ []) rs))
    ∙ sym (and_assoc (follows front r) (follow_from (front ++ r ∷ []) rs) (follow_from (front ++ r ∷ rs) qs))

-- ---- the lives of a brief, one after the other

-- after the list a life of the key may begin
pub record IsOpen (front : List LogRec) (o : Owner) : Type 0 where
  pub last : last_from o None front ≡ None
  pub ready : ready_from o None front ≡ None
  pub loose : IsLoose o.node front

abbrev pub AllOpen : List LogRec → List Life → Type 0
AllOpen front [] = Unit {0}
AllOpen front (l ∷ ls) = IsOpen front l.owner × AllOpen front ls

-- records of one key leave the others open
pub open_behind : (front : List LogRec) (p o : Owner) (rs : List LogRec) → AllOwn p rs → is_begun rs ≡ true → is_owner p o ≡ false
    → ((p.node == o.node) ≡ true → holds (last rs) is_bound ≡ false) → IsOpen front o → IsOpen (front ++ rs) o
open_behind front p o rs own begun apart quiet is = record {
  last = last_from-append o None front rs ∙ last_apart p o (last_from o None front) rs apart own ∙ is.last;
  ready = ready_from-append o None front rs ∙ ready_apart p o (ready_from o None front) rs apart own ∙ is.ready;
  loose = λ q at. ap (λ x. holds x is_bound) (last_from-append q None front rs) ∙ go q at (is_owner p q) refl;
}
  where
    behind : (before : Option LogRec) (rs : List LogRec) → is_begun rs ≡ true → last_or before rs ≡ last rs
    behind before [] e = absurd cc
    behind before (r ∷ rs) e = refl

    go : (q : Owner) → (q.node == o.node) ≡ true → (b : Bool) → is_owner p q ≡ b → holds (last_from q (last_from q None front) rs) is_bound ≡ false
    go q at true mine =
        ap (λ x. holds x is_bound) (last_mine p q (last_from q None front) rs mine own ∙ behind (last_from q None front) rs begun)
        ∙ quiet (ap (λ (w : Owner). w.node == o.node) (owner_same p q mine) ∙ at)
    go q at false other = ap (λ x. holds x is_bound) (last_apart p q (last_from q None front) rs other own) ∙ is.loose q at

pub all_open_behind : (front : List LogRec) (p : Owner) (rs : List LogRec) (ls : List Life) → AllOwn p rs → is_begun rs ≡ true → Absent p ls
    → (at_node p.node ls ≡ true → holds (last rs) is_bound ≡ false) → AllOpen front ls → AllOpen (front ++ rs) ls
all_open_behind front p rs [] own begun absent quiet opened = tt
all_open_behind front p rs (l ∷ ls) own begun absent quiet opened = (
  open_behind front p l.owner rs own begun (owner_either p l.owner ∙ absent.0) (λ at. quiet (or_left (l.owner.node == p.node) (at_node p.node ls) (let h : (l.owner.node == p.node) ≡ true = grind (arith, nat_tests, at) in h))) opened.0,
  all_open_behind front p rs ls own begun absent.1 (λ at. quiet (or_right (l.owner.node == p.node) (at_node p.node ls) at)) opened.1,
)

pub lives_follow : (front : List LogRec) (ls : List Life) → is_begun front ≡ true → AreLives ls → InOrder (last_boot_from 0 front) ls → AllOpen front ls → follow_from front (brief_lives ls) ≡ true
lives_follow front [] begun are order opened = refl
lives_follow front (l ∷ ls) begun are order opened =
    let short = brief_life l.records in
    let boot = last_boot_from 0 front in
    let own = own_brief l.owner l.records are.1 in
    let is = life_briefed boot l.owner l.records are.1 order.0 in
    let first : runs boot (last_from l.owner None front) (ready_from l.owner None front) short ≡ true =
    ap (λ x. runs boot x (ready_from l.owner None front) short) opened.0.last ∙ ap (λ x. runs boot None x short) opened.0.ready ∙ is.runs in
    follow_from-append front short (brief_lives ls)
    ∙ and_both (follow_from front short) (follow_from (front ++ short) (brief_lives ls))
    (life_follows front l.owner short begun own (λ _. loose_is_free l.owner.node front opened.0.loose) first)
    (lives_follow (front ++ short) ls (begun_before front short begun) are.3
    (subst (λ (n : ℕ). InOrder n ls) (sym (boot_same l.owner 0 front short own)) order.2)
    (all_open_behind front l.owner short ls own (brief_begun l.owner l.records are.1 are.2) are.0 (λ at. ap (λ x. holds x is_bound) is.last ∙ order.1 at) opened.1))

pub all_open : (n : ℕ) (ls : List Life) → AllOpen (LogRec.Boot n ∷ []) ls
all_open n [] = tt
all_open n (l ∷ ls) = (record { last = refl; ready = refl; loose = λ o at. refl }, all_open n ls)

pub brief_in_order : (rs : List LogRec) → all_follow rs ≡ true → all_follow (brief rs) ≡ true
brief_in_order [] e = refl
brief_in_order (r ∷ rs) e =
    let is = order_all [] (r ∷ rs) e (record { booted = λ f. absurd (let clash : false ≡ true = f in cc); order = tt }) in
    let boot = last_boot_from 0 (r ∷ rs) in
    let ls = lives (r ∷ rs) in
    ap (λ g. all_follow (boot_record g ++ brief_lives ls)) (is.booted refl)
    ∙ lives_follow (LogRec.Boot boot ∷ []) ls refl (lives_all [] (r ∷ rs) tt) is.order (all_open boot ls)
