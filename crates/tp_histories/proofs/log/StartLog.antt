-- A start is sound: its records tell what is current and what is kept, and the roots among them are of earlier boots.
use Rattle.std.proofs.Common.{◌≡◌, ◌≤◌, ℕ, Bool, true, false, refl, ap, sym, subst, ◌∙◌, arith, append_assoc, append-nil, Option, Some, None, List, [], ◌∷◌, ◌++◌}
use Rattle.std.specs.Prelude.{nat_lt, nat_le}
use Rattle.std.proofs.lemmas.Bool.Decides.{nat_tests}
use Rattle.tp_names.specs.declared.identifiers.NodeKey.{NodeKey}
use Rattle.tp_names.specs.declared.identifiers.BranchId.{BranchId}
use Rattle.tp_names.specs.declared.identifiers.Addr.{Addr}
use Rattle.tp_names.specs.declared.children.Child.{Child}
use Rattle.tp_names.specs.declared.outcome.Outcome.{Outcome}
use Rattle.tp_names.specs.Same.{is_key}
use Rattle.tp_logrec.specs.declared.record.LogRec.{LogRec}
use Rattle.tp_logrec.specs.Order.{owner, owner_of, holds, is_damage, is_bound, last_boot_from, follows, follow_from, all_follow}
use Rattle.tp_model.specs.declared.arc.Phase.{Phase}
use Rattle.tp_model.specs.declared.recovery.Kept.{Kept}
use Rattle.tp_model.specs.Parts.{Who, Origin, Key, Root, Under, Branch, Current, Digest}
use Rattle.tp_model.specs.Transactions.{node_key, is_under, fresh_branch}
use Rattle.tp_model.specs.Recovery.{kept_by, not_forgotten}
use Rattle.tp_model.specs.Keys.{key_of}
use Rattle.tp_model.specs.Events.{recovered, fresh_branches, named_again, recovered_current, key_in_log, current_in_log, without_current, current_by, current_from, kept_from, started}
use Rattle.tp_model.specs.History.{digest}
use Rattle.tp_model.specs.Legal.{is_start, is_own_record, are_own_records}
use Rattle.tp_steps.specs.Standing.{AreApart}
use Rattle.tp_histories.specs.Restart.{are_earlier}
use Rattle.tp_model.specs.Legal.{is_older}
use Rattle.tp_steps.proofs.lemmas.Equality.{and_left, and_right, both_true}
use Rattle.tp_histories.proofs.log.KeptLog.{from_unnoted}
use Rattle.tp_steps.proofs.log.SoundMoves.{IsOldKey, AreOld, KeepsKeys, IsSound, keys_after}
use Rattle.tp_histories.proofs.log.SoundLog.{not_active}
use Rattle.tp_steps.proofs.log.StandLog.{last_at, Nothing, AreKept, IsFit, stands_bound, no_both}
use Rattle.tp_steps.proofs.log.StepLog.{none_boots, fit_step}
use Rattle.tp_histories.proofs.log.OrderMoves.{IsReached}

-- ---- the records follow each other

pub own_key : (n boot : ℕ) (r : LogRec) → is_own_record n boot r ≡ true → (k : NodeKey) × (owner_of r ≡ Some (owner n k))
own_key n boot (LogRec.Boot m) h = absurd (cc (h))
own_key n boot (LogRec.Ready m k s cs) h = (k, grind (arith, nat_tests, h))
own_key n boot (LogRec.Heuristic m k o) h = (k, grind (arith, nat_tests, h))
own_key n boot (LogRec.Commit m k s cs) h = (k, grind (arith, nat_tests, h))
own_key n boot (LogRec.Damage m k s o r cs) h = (k, grind (arith, nat_tests, h))
own_key n boot (LogRec.End m k o) h = (k, grind (arith, nat_tests, h))

-- each record is one of the node
abbrev pub AreOf : ℕ → List LogRec → Type 0
AreOf n [] = Unit {0}
AreOf n (r ∷ rs) = ((k : NodeKey) × (owner_of r ≡ Some (owner n k))) × AreOf n rs

all_own : (n boot : ℕ) (rs : List LogRec) → are_own_records n boot rs ≡ true → AreOf n rs
all_own n boot [] h = tt
all_own n boot (r ∷ rs) h = (own_key n boot r (and_left (is_own_record n boot r) (are_own_records n boot rs) h), all_own n boot rs (and_right (is_own_record n boot r) (are_own_records n boot rs) h))

fit_from : (n b : ℕ) (ps rs : List LogRec) (o : Option Current) (ks : List Kept) → follow_from (LogRec.Boot b ∷ ps) rs ≡ true → AreOf n rs → IsFit n ps o ks
    → IsFit n (ps ++ rs) (current_from o rs) (kept_from ks rs)
fit_from n b ps [] o ks f own h = subst (λ (qs : List LogRec). IsFit n qs o ks) (sym (append-nil ps)) h
fit_from n b ps (r ∷ rs) o ks f own h =
    subst (λ (qs : List LogRec). IsFit n qs (current_from (current_by r o) rs) (kept_from (kept_by r ks) rs)) (append_assoc ps (r ∷ []) rs)
    (fit_from n b (ps ++ r ∷ []) rs (current_by r o) (kept_by r ks) (and_right (follows (LogRec.Boot b ∷ ps) r) (follow_from (LogRec.Boot b ∷ ps ++ r ∷ []) rs) f) own.1
    (fit_step n b ps r o ks own.0.0 own.0.1 (and_left (follows (LogRec.Boot b ∷ ps) r) (follow_from (LogRec.Boot b ∷ ps ++ r ∷ []) rs) f) h))

pub fit_first : (n : ℕ) → IsFit n [] None []
fit_first n = record { now = Nothing refl; kept = tt; none = λ k a off. refl; boots = λ b. refl }

-- they do so after a later boot
follows_later : (m b : ℕ) (ps : List LogRec) (r : LogRec) (n : ℕ) (k : NodeKey) → owner_of r ≡ Some (owner n k) → ((x : ℕ) → last_boot_from x ps ≡ x) → m ≤ b → follows (LogRec.Boot m ∷ ps) r ≡ true → follows (LogRec.Boot b ∷ ps) r ≡ true
follows_later m b ps (LogRec.Boot x) n k own boots le f = absurd (cc (own))
follows_later m b ps (LogRec.Commit x j a cs) n k own boots le f = go j.branch f
  where
    reach : (i : ℕ) → nat_le i (last_boot_from m ps) ≡ true → nat_le i (last_boot_from b ps) ≡ true
    reach i h = let one = boots m in let two = boots b in grind (arith, nat_tests, h, one, two, le)

    go : (c : Option BranchId) → follows (LogRec.Boot m ∷ ps) (LogRec.Commit x (record j { branch = c }) a cs) ≡ true → follows (LogRec.Boot b ∷ ps) (LogRec.Commit x (record j { branch = c }) a cs) ≡ true
    go None f = both_true _ (nat_le j.aaid.mark.boot (last_boot_from b ps)) (and_left _ (nat_le j.aaid.mark.boot (last_boot_from m ps)) f) (reach j.aaid.mark.boot (and_right _ (nat_le j.aaid.mark.boot (last_boot_from m ps)) f))
    go (Some c) f = f
follows_later m b ps _ n k own boots le f = f

follow_later : (n m b : ℕ) (ps rs : List LogRec) → AreOf n rs → ((x : ℕ) → last_boot_from x ps ≡ x) → m ≤ b → follow_from (LogRec.Boot m ∷ ps) rs ≡ true → follow_from (LogRec.Boot b ∷ ps) rs ≡ true
follow_later n m b ps [] own boots le f = refl
follow_later n m b ps (r ∷ rs) own boots le f =
    both_true (follows (LogRec.Boot b ∷ ps) r) (follow_from (LogRec.Boot b ∷ ps ++ r ∷ []) rs)
    (follows_later m b ps r n own.0.0 own.0.1 boots le (and_left (follows (LogRec.Boot m ∷ ps) r) (follow_from (LogRec.Boot m ∷ ps ++ r ∷ []) rs) f))
    (follow_later n m b (ps ++ r ∷ []) rs own.1 (none_boots n own.0.0 ps r own.0.1 boots) le (and_right (follows (LogRec.Boot m ∷ ps) r) (follow_from (LogRec.Boot m ∷ ps ++ r ∷ []) rs) f))

fit_apart : (n : ℕ) (ps : List LogRec) (k : NodeKey) (ks : List Kept) → holds (last_at n k ps) is_bound ≡ true → AreKept n ps ks → AreApart k ks
fit_apart n ps k [] h i = tt
fit_apart n ps k (x ∷ xs) h i =
    ((λ same. no_both (last_at n k ps) (ap (λ (j : NodeKey). holds (last_at n j ps) is_damage) (sym same) ∙ ap (λ (v : Option LogRec). holds v is_damage) i.1.last) h), fit_apart n ps k xs h i.2)

-- ---- what the records give is what a crash leaves

fresh_again : (cs : List Child) → named_again (fresh_branches cs) ≡ fresh_branches cs
fresh_again [] = refl
fresh_again (c ∷ cs) = ap (λ (bs : List Branch). fresh_branch c ∷ bs) (fresh_again cs)

log_again : (k : Option Key) (cs : List Child) (o : Option Outcome) → (recovered_current (current_in_log k Phase.Ready cs o) ≡ current_in_log k Phase.Ready cs o) × (recovered_current (current_in_log k Phase.Committing cs o) ≡ current_in_log k Phase.Committing cs o)
log_again None cs o = (refl, refl)
log_again (Some k) cs o = (ap (λ (bs : List Branch). Some (recovered k Phase.Ready bs o)) (fresh_again cs), ap (λ (bs : List Branch). Some (recovered k Phase.Committing bs o)) (fresh_again cs))

decided_again : (c : Current) (u : Outcome) → recovered_current (Some c) ≡ Some c → recovered_current (Some (record c { decision = Some u })) ≡ Some (record c { decision = Some u })
decided_again c u h = go c.phase c refl h
  where
    go : (p : Phase) (x : Current) → x ≡ c → recovered_current (Some (record c { phase = p })) ≡ Some c
        → recovered_current (Some (record c { phase = p; decision = Some u })) ≡ Some (record c { decision = Some u })
    go Phase.Nil x i h = absurd (cc (h))
    go Phase.Active x i h = absurd (cc (h))
    go Phase.Ready x i h = let same : ◌≡◌ {A = Current} (recovered c.key Phase.Ready (named_again c.branches) c.decision) c = cc (h) in ap (λ (y : Current). Some (record y { decision = Some u })) same
    go Phase.Committing x i h = let same : ◌≡◌ {A = Current} (recovered c.key Phase.Committing (named_again c.branches) c.decision) c = cc (h) in ap (λ (y : Current). Some (record y { decision = Some u })) same
    go Phase.Rolling x i h = absurd (cc (h))

without_again : (k : NodeKey) (o : Option Current) → recovered_current o ≡ o → recovered_current (without_current k o) ≡ without_current k o
without_again k None h = refl
without_again k (Some c) h = go (is_key (node_key c.key) k) refl
  where
    go : (b : Bool) → is_key (node_key c.key) k ≡ b → recovered_current (without_current k (Some c)) ≡ without_current k (Some c)
    go true e = rw (e, without_current) refl
    go false e = rw (e, without_current) h

by_again : (r : LogRec) (o : Option Current) → recovered_current o ≡ o → recovered_current (current_by r o) ≡ current_by r o
by_again (LogRec.Boot n) o h = h
by_again (LogRec.Ready n k s cs) o h = (log_again (key_in_log k (Some s)) cs None).0
by_again (LogRec.Heuristic n k u) None h = refl
by_again (LogRec.Heuristic n k u) (Some c) h = decided_again c u h
by_again (LogRec.Commit n k s cs) o h = (log_again (key_in_log k s) cs _).1
by_again (LogRec.Damage n k s u r cs) o h = without_again k o h
by_again (LogRec.End n k u) o h = without_again k o h

from_again : (rs : List LogRec) (o : Option Current) → recovered_current o ≡ o → recovered_current (current_from o rs) ≡ current_from o rs
from_again [] o h = h
from_again (r ∷ rs) o h = from_again rs (current_by r o) (by_again r o h)

-- ---- roots of earlier boots

key_logged : (k : NodeKey) (s : Option Addr) (p : Phase) (cs : List Child) (o : Option Outcome) (c : Current) → current_in_log (key_in_log k s) p cs o ≡ Some c → k ≡ node_key c.key
key_logged k s p cs o c h = go k.branch s h
  where
    go : (b : Option BranchId) (s : Option Addr) → current_in_log (key_in_log (record k { branch = b }) s) p cs o ≡ Some c → ◌≡◌ {A = NodeKey} (record k { branch = b }) (node_key c.key)
    go None s h = grind (arith, h)
    go (Some b) None h = absurd (cc (h))
    go (Some b) (Some a) h = grind (arith, h)

abbrev IsEarlierNow : ℕ → Option Current → Type 0
IsEarlierNow boot o = (c : Current) → o ≡ Some c → is_older boot (node_key c.key) ≡ true

earlier_old : (who : Who) (d : Digest) (k : NodeKey) → is_older d.boot k ≡ true → IsOldKey who d k
earlier_old who d k h i = let below : nat_lt k.aaid.mark.boot d.boot ≡ true = rw (i, is_older) at h in grind (arith, below)

earlier_logged : (boot : ℕ) (k : NodeKey) (s : Option Addr) (p : Phase) (cs : List Child) (o : Option Outcome) → is_older boot k ≡ true → IsEarlierNow boot (current_in_log (key_in_log k s) p cs o)
earlier_logged boot k s p cs o h c is = subst (λ (j : NodeKey). is_older boot j ≡ true) (key_logged k s p cs o c is) h

earlier_without : (boot : ℕ) (k : NodeKey) (o : Option Current) → IsEarlierNow boot o → IsEarlierNow boot (without_current k o)
earlier_without boot k None h c is = absurd (cc (is))
earlier_without boot k (Some x) h c is = h c (grind (arith, is))

abbrev is_earlier_rec : ℕ → LogRec → Bool
is_earlier_rec boot r = elim (key_of r) [ None ↦ true | Some k ↦ is_older boot k ]

earlier_by : (boot : ℕ) (r : LogRec) (o : Option Current) → is_earlier_rec boot r ≡ true → IsEarlierNow boot o → IsEarlierNow boot (current_by r o)
earlier_by boot (LogRec.Boot n) o e h = h
earlier_by boot (LogRec.Ready n k s cs) o e h = earlier_logged boot k (Some s) Phase.Ready cs None e
earlier_by boot (LogRec.Heuristic n k u) None e h = λ c is. absurd (cc (is))
earlier_by boot (LogRec.Heuristic n k u) (Some x) e h = λ c is. let same : ◌≡◌ {A = Current} (record x { decision = Some u }) c = cc (is) in subst (λ (y : Current). is_older boot (node_key y.key) ≡ true) same (h x refl)
earlier_by boot (LogRec.Commit n k s cs) o e h = earlier_logged boot k s Phase.Committing cs _ e
earlier_by boot (LogRec.Damage n k s u w cs) o e h = earlier_without boot k o h
earlier_by boot (LogRec.End n k u) o e h = earlier_without boot k o h

earlier_keeps : (who : Who) (d : Digest) (r : LogRec) → is_earlier_rec d.boot r ≡ true → KeepsKeys (IsOldKey who d) (Some r)
earlier_keeps who d (LogRec.Damage n k s u w cs) e = earlier_old who d k e
earlier_keeps who d _ e = tt

earlier_from : (who : Who) (d : Digest) (rs : List LogRec) (o : Option Current) (ks : List Kept) → are_earlier d.boot rs ≡ true → IsEarlierNow d.boot o → AreOld who d ks
    → IsEarlierNow d.boot (current_from o rs) × AreOld who d (kept_from ks rs)
earlier_from who d [] o ks e h i = (h, i)
earlier_from who d (r ∷ rs) o ks e h i =
    let one : is_earlier_rec d.boot r ≡ true = and_left (is_earlier_rec d.boot r) (are_earlier d.boot rs) e in
    earlier_from who d rs (current_by r o) (kept_by r ks) (and_right (is_earlier_rec d.boot r) (are_earlier d.boot rs) e) (earlier_by d.boot r o one h) (keys_after (IsOldKey who d) (Some r) ks i (earlier_keeps who d r one))

-- ---- the start

-- what a start finds
pub record IsSoundStart (o : Origin) : Type 0 where
  pub sound : IsSound o.who (digest o [])
  pub again : recovered_current (digest o []).current ≡ current_from None o.start.records
  pub fit : IsFit o.who.node o.start.records (recovered_current (digest o []).current) (not_forgotten (digest o []).kept)
  pub reached : IsReached (digest o [])
  pub follow : (b : ℕ) → o.start.boot ≤ b → follow_from (LogRec.Boot b ∷ []) o.start.records ≡ true

kept_again : (rs : List LogRec) → not_forgotten (kept_from [] rs) ≡ kept_from [] rs
kept_again rs = from_unnoted [] rs

-- where the records are the node's, follow each other after every boot from that of the start on, and have no root of a later one
pub sound_from : (o : Origin) → AreOf o.who.node o.start.records → ((b : ℕ) → o.start.boot ≤ b → follow_from (LogRec.Boot b ∷ []) o.start.records ≡ true) → are_earlier o.start.boot o.start.records ≡ true → IsSoundStart o
unfolding started
sound_from o own follow earlier =
    let rs : List LogRec = o.start.records in
    let n : ℕ = o.who.node in
    let boot : ℕ = o.start.boot in
    let d : Digest = digest o [] in
    let plain : recovered_current (current_from None rs) ≡ current_from None rs = from_again rs None refl in
    let fit : IsFit n rs (current_from None rs) (kept_from [] rs) = fit_from n boot [] rs None [] (follow boot (omega arith)) own (fit_first n) in
    let old = earlier_from o.who d rs None [] earlier (λ c is. absurd (cc (is))) tt in
    record {
      sound = (
        (λ c is rolls. fit_apart n rs (node_key c.key) (kept_from [] rs) (stands_bound n rs (current_from None rs) c fit.now is) fit.kept),
        old.1,
        (λ c is. earlier_old o.who d (node_key c.key) (old.0 c is)),
        λ c is act. absurd (let off = not_active (current_from None rs) c (plain ∙ is) in cc (off, act)),
      );
      again = plain;
      fit = subst (λ (l : Option Current). IsFit n rs l (not_forgotten (kept_from [] rs))) (sym plain) (subst (λ (ks : List Kept). IsFit n rs (current_from None rs) ks) (sym (kept_again rs)) fit);
      reached = λ c is root. below c.key boot root (old.0 c is);
      follow = follow;
    }
  where
    below : (k : Key) (b : ℕ) → is_under k ≡ false → is_older b (node_key k) ≡ true → nat_le (node_key k).aaid.mark.boot b ≡ true
    below (Root t) b root h = grind (arith, nat_tests, h)
    below (Under t c a) b root h = absurd (cc (root))

pub sound_start : (o : Origin) → is_start o ≡ true → are_earlier o.start.boot o.start.records ≡ true → IsSoundStart o
sound_start o start earlier =
    let rs : List LogRec = o.start.records in
    let n : ℕ = o.who.node in
    let boot : ℕ = o.start.boot in
    let order : all_follow (LogRec.Boot boot ∷ rs) ≡ true = and_left (all_follow (LogRec.Boot boot ∷ rs)) (are_own_records n boot rs) start in
    let own : AreOf n rs = all_own n boot rs (and_right (all_follow (LogRec.Boot boot ∷ rs)) (are_own_records n boot rs) start) in
    sound_from o own (λ b le. follow_later n boot b [] rs own (λ x. refl) le (and_right (follows [] (LogRec.Boot boot)) (follow_from (LogRec.Boot boot ∷ []) rs) order)) earlier
