-- What is noted of a kept transaction is that a Forget came for it since its last record or a crash.
use Rattle.std.proofs.Common.{if◌then◌else◌, ◌≡◌, ◌⊎◌, inl, inr, ℕ, Bool, true, false, refl, ap, sym, subst, ◌∙◌, arith, Option, Some, None, List, [], ◌∷◌, ◌&&◌, ◌||◌, reverse}
use Rattle.tp_names.specs.declared.identifiers.Aaid.{Aaid}
use Rattle.tp_names.specs.declared.identifiers.BranchId.{BranchId}
use Rattle.tp_names.specs.declared.identifiers.NodeKey.{NodeKey}
use Rattle.tp_names.specs.declared.identifiers.Addr.{Addr}
use Rattle.tp_names.specs.declared.children.Child.{Child}
use Rattle.tp_names.specs.declared.outcome.Outcome.{Outcome}
use Rattle.tp_names.specs.Same.{is_key, is_outcome}
use Rattle.tp_names.specs.Reports.{rank}
use Rattle.tp_records.specs.declared.dialogue.DialogueRecord.{DialogueRecord}
use Rattle.tp_records.specs.declared.peer.PeerRecord.{PeerRecord}
use Rattle.tp_logrec.specs.declared.record.LogRec.{LogRec}
use Rattle.tp_logrec.specs.Order.{is_damage, is_bound, is_end, holds}
use Rattle.tp_model.specs.declared.recovery.Kept.{Kept}
use Rattle.tp_model.specs.declared.recovery.KeptEvent.{KeptEvent}
use Rattle.tp_model.specs.Parts.{Who, Origin, Event, Entry, Arc, Current, Digest}
use Rattle.tp_model.specs.Arcs.{find_arc}
use Rattle.tp_model.specs.Recovery.{is_commit, settled, noted, find_kept, put_kept, without_kept, with_forget, kept_by, kept_after, not_forgotten}
use Rattle.tp_model.specs.Node.{Move, move, followed, perform, keep, turned, begin_on}
use Rattle.tp_model.specs.Arrivals.{branch_key, take_forget}
use Rattle.tp_model.specs.Events.{recovered_current, after_crash, started, is_known, kept_from, action}
use Rattle.tp_model.specs.History.{digest, entry_of, with_rec, records}
use Rattle.tp_model.specs.Questions.{is_crash}
use Rattle.tp_model.specs.Keys.{has_key, last_of, is_kept_commit, is_forget_of, ends_key, forgot_in, known_in, has_keys, standing_keys}
use Rattle.tp_histories.specs.KnownTests.{same_list, same_kept}
use Rattle.tp_logrec.specs.Order.{is_child}
use Rattle.tp_model.specs.Legal.{IsLegal}
use Rattle.tp_steps.specs.Moves.{Moves, prelude, begun_in, counted_in}
use Rattle.tp_steps.specs.Steps.{IsNotedBy, Steps}
use Rattle.tp_steps.specs.Standing.{AreApart}
use Rattle.tp_runs.specs.Known.{known_agrees, kept_agrees}
use Rattle.tp_steps.proofs.every.EveryMove.{quiet_begin}
use Rattle.tp_steps.proofs.every.EveryEvent.{step_move, every_move}
use Rattle.tp_steps.proofs.lemmas.Equality.{both_true}
use Rattle.tp_histories.proofs.trees.Late.{late_law}
use Rattle.tp_steps.proofs.log.TurnLog.{key_self}
use Rattle.tp_steps.proofs.log.ApartLog.{keys_equal}
use Rattle.tp_steps.proofs.log.Sound.{apart_put, apart_without}
use Rattle.tp_steps.proofs.log.SoundMoves.{apart_unnoted, apart_noted}
use Rattle.tp_steps.proofs.log.StandLog.{last_at, key_other, key_swap, AreKept, IsFit, stands_bound, no_both}
use Rattle.tp_histories.proofs.log.KeptLog.{from_unnoted}
use Rattle.tp_histories.proofs.log.StandingKeys.{keys_of, Place, New, Here, There, place}
use Rattle.tp_histories.proofs.known.KnownKept.{alive, noted_as, IsLogTold, log_told, kept_is, stands_known, start_known}
use Rattle.tp_histories.proofs.known.KnownPlain.{bool_self, number_self, superior_self, branch_self}
use Rattle.tp_steps.proofs.log.NextTurns.{addr_self}

abbrev pub forgot_of : List Kept → NodeKey → Bool
forgot_of ks k = elim (find_kept ks k) [ None ↦ false | Some x ↦ x.forgot ]

abbrev pub commits_of : List Kept → NodeKey → Bool
commits_of ks k = elim (find_kept ks k) [ None ↦ false | Some x ↦ is_commit x.side ]

-- no two are of one key
abbrev pub AreDistinct : List Kept → Type 0
AreDistinct [] = Unit {0}
AreDistinct (x ∷ xs) = AreApart x.key xs × AreDistinct xs

-- ---- one record

distinct_put : (ks : List Kept) (x : Kept) → AreDistinct ks → AreDistinct (put_kept ks x)
distinct_put [] x h = (tt, tt)
distinct_put (y ∷ ys) x h = go (is_key y.key x.key) refl (distinct_put ys x h.1)
  where
    go : (b : Bool) → is_key y.key x.key ≡ b → AreDistinct (put_kept ys x) → AreDistinct (put_kept (y ∷ ys) x)
    go true e rest = rw (e, put_kept) (subst (λ (k : NodeKey). AreApart k ys) (keys_equal y.key x.key e) h.0, h.1)
    go false e rest = rw (e, put_kept) (apart_put y.key ys x h.0 (λ same. let self : is_key y.key x.key ≡ true = ap (λ (k : NodeKey). is_key y.key k) same ∙ key_self y.key in cc (self, e)), rest)

distinct_without : (ks : List Kept) (k : NodeKey) → AreDistinct ks → AreDistinct (without_kept ks k)
distinct_without [] k h = tt
distinct_without (y ∷ ys) k h = go (is_key y.key k) refl (distinct_without ys k h.1)
  where
    go : (b : Bool) → is_key y.key k ≡ b → AreDistinct (without_kept ys k) → AreDistinct (without_kept (y ∷ ys) k)
    go true e rest = rw (e, without_kept) h.1
    go false e rest = rw (e, without_kept) (apart_without y.key ys k h.0, rest)

distinct_after : (r : Option LogRec) (ks : List Kept) → AreDistinct ks → AreDistinct (kept_after r ks)
unfolding kept_by
distinct_after (Some (LogRec.Damage n k s o r cs)) ks h = distinct_put ks (record { node = n; key = k; superior = s; side = o; report = r; owed = cs; forgot = false }) h
distinct_after (Some (LogRec.End n k o)) ks h = distinct_without ks k h
distinct_after _ ks h = h

find_apart : (ks : List Kept) (k : NodeKey) → AreApart k ks → find_kept ks k ≡ None
find_apart [] k h = refl
find_apart (y ∷ ys) k h = let other : is_key y.key k ≡ false = key_other y.key k h.0 in rw (other, find_kept) (find_apart ys k h.1)

forgot_put : (ks : List Kept) (x : Kept) (k : NodeKey) → x.forgot ≡ false → forgot_of (put_kept ks x) k ≡ forgot_of ks k
forgot_put [] x k off = go (is_key x.key k) refl
  where
    go : (b : Bool) → is_key x.key k ≡ b → forgot_of (x ∷ []) k ≡ false
    go true e = rw (e, find_kept, forgot_of) off
    go false e = rw (e, find_kept, forgot_of) refl
forgot_put (y ∷ ys) x k off = go (is_key y.key x.key) refl (forgot_put ys x k off)
  where
    go : (b : Bool) → is_key y.key x.key ≡ b → forgot_of (put_kept ys x) k ≡ forgot_of ys k → forgot_of (put_kept (y ∷ ys) x) k ≡ forgot_of (y ∷ ys) k
    go true e rest = let same : is_key x.key k ≡ is_key y.key k = ap (λ (j : NodeKey). is_key j k) (sym (keys_equal y.key x.key e)) in rw (e, put_kept) (on (is_key y.key k) refl same)
      where
        on : (b : Bool) → is_key y.key k ≡ b → is_key x.key k ≡ is_key y.key k → forgot_of (record x { forgot = y.forgot } ∷ ys) k ≡ forgot_of (y ∷ ys) k
        on true i same = let here : is_key x.key k ≡ true = same ∙ i in rw (here, i, find_kept, forgot_of) refl
        on false i same = let here : is_key x.key k ≡ false = same ∙ i in rw (here, i, find_kept, forgot_of) refl
    go false e rest = rw (e, put_kept) (on (is_key y.key k) refl rest)
      where
        on : (b : Bool) → is_key y.key k ≡ b → forgot_of (put_kept ys x) k ≡ forgot_of ys k → forgot_of (y ∷ put_kept ys x) k ≡ forgot_of (y ∷ ys) k
        on true i rest = rw (i, find_kept, forgot_of) refl
        on false i rest = rw (i, find_kept, forgot_of) rest

forgot_without : (ks : List Kept) (j k : NodeKey) → AreDistinct ks → forgot_of (without_kept ks j) k ≡ (if is_key k j then false else forgot_of ks k)
forgot_without [] j k h = grind arith
forgot_without (y ∷ ys) j k h = go (is_key y.key j) refl (forgot_without ys j k h.1)
  where
    go : (b : Bool) → is_key y.key j ≡ b → forgot_of (without_kept ys j) k ≡ (if is_key k j then false else forgot_of ys k) → forgot_of (without_kept (y ∷ ys) j) k ≡ (if is_key k j then false else forgot_of (y ∷ ys) k)
    go true e rest = rw (e, without_kept) (on (is_key k j) refl)
      where
        same : y.key ≡ j
        same = keys_equal y.key j e

        on : (b : Bool) → is_key k j ≡ b → forgot_of ys k ≡ (if is_key k j then false else forgot_of (y ∷ ys) k)
        on true i =
            let none : find_kept ys k ≡ None = find_apart ys k (subst (λ (x : NodeKey). AreApart x ys) (same ∙ sym (keys_equal k j i)) h.0) in
            rw (i, none, forgot_of) refl
        on false i =
            let other : is_key y.key k ≡ false = ap (λ (x : NodeKey). is_key x k) same ∙ key_swap k j i in
            rw (i, other, find_kept, forgot_of) refl
    go false e rest = rw (e, without_kept) (on (is_key y.key k) refl rest)
      where
        on : (b : Bool) → is_key y.key k ≡ b → forgot_of (without_kept ys j) k ≡ (if is_key k j then false else forgot_of ys k) → forgot_of (y ∷ without_kept ys j) k ≡ (if is_key k j then false else forgot_of (y ∷ ys) k)
        on true i rest =
            let other : is_key k j ≡ false = ap (λ (x : NodeKey). is_key x j) (sym (keys_equal y.key k i)) ∙ e in
            rw (i, other, find_kept, forgot_of) refl
        on false i rest = rw (i, find_kept, forgot_of) rest

pub forgot_after : (r : Option LogRec) (ks : List Kept) (k : NodeKey) → AreDistinct ks → forgot_of (kept_after r ks) k ≡ (if ends_key k r then false else forgot_of ks k)
unfolding kept_by
forgot_after None ks k h = refl
forgot_after (Some (LogRec.Boot n)) ks k h = refl
forgot_after (Some (LogRec.Damage n j s o r cs)) ks k h =
    let put = forgot_put ks (record { node = n; key = j; superior = s; side = o; report = r; owed = cs; forgot = false }) k refl in
    put ∙ never (is_key k j) (forgot_of ks k)
  where
    never : (a b : Bool) → b ≡ (if a && false then false else b)
    never true b = refl
    never false b = refl
forgot_after (Some (LogRec.End n j o)) ks k h = forgot_without ks j k h ∙ always (is_key k j) (forgot_of ks k)
  where
    always : (a b : Bool) → (if a then false else b) ≡ (if a && true then false else b)
    always true b = refl
    always false b = refl
forgot_after _ ks k h = grind arith

-- ---- the steps of an event that notes nothing

abbrev IsForgotMove : Digest → Move → Type 0
IsForgotMove d m = AreDistinct d.kept → AreDistinct m.next.kept × ((k : NodeKey) → forgot_of m.next.kept k ≡ (if ends_key k m.rec then false else forgot_of d.kept k))

forgot_same : (d : Digest) (m : Move) → m.rec ≡ None → m.next.kept ≡ d.kept → IsForgotMove d m
forgot_same d m none same h = (
  subst AreDistinct (sym same) h,
  λ k. ap (λ (ks : List Kept). forgot_of ks k) same ∙ ap (λ (r : Option LogRec). if ends_key k r then false else forgot_of d.kept k) (sym none),
)

forgot_record : (d : Digest) (m : Move) → m.next.kept ≡ kept_after m.rec d.kept → IsForgotMove d m
forgot_record d m same h = (
  subst AreDistinct (sym same) (distinct_after m.rec d.kept h),
  λ k. ap (λ (ks : List Kept). forgot_of ks k) same ∙ forgot_after m.rec d.kept k h,
)

pub begun_kept : (who : Who) (q : ℕ) (d : Digest) → (begin_on who q d).next.kept ≡ d.kept
unfolding begin_on
begun_kept who q d = grind arith

forgot_then : (d : Digest) (a : Move) (f : Digest → Move) → IsForgotMove d a → IsForgotMove a.next (f a.next) → (a.rec ≡ None) ⊎ ((f a.next).rec ≡ None) → IsForgotMove d (followed a f)
forgot_then d a f one two quiet h =
    let x = one h in
    let y = two x.0 in
    (y.0, λ k. y.1 k ∙ which a.rec (f a.next).rec quiet k (x.1 k))
  where
    which : (u v : Option LogRec) → (u ≡ None) ⊎ (v ≡ None) → (k : NodeKey) → forgot_of a.next.kept k ≡ (if ends_key k u then false else forgot_of d.kept k)
        → (if ends_key k v then false else forgot_of a.next.kept k) ≡ (if ends_key k (elim v as (λ _. Option LogRec) [ None ↦ u | Some r ↦ Some r ]) then false else forgot_of d.kept k)
    which u None q k i = i
    which None (Some r) q k i = ap (λ (b : Bool). if ends_key k (Some r) then false else b) i
    which (Some s) (Some r) (inl z) k i = absurd (cc (z))
    which (Some s) (Some r) (inr z) k i = absurd (cc (z))

forgot_steps : (who : Who) (e : Event) (s : Digest) → ((d : Digest) (ks : List Kept) → IsNotedBy e d ks → ⊥) → Steps who e s IsForgotMove
forgot_steps who e s off = record {
  still = λ d. forgot_same d (move [] d) refl refl;
  chain = λ d a f one two quiet. forgot_then d a f one two quiet;
  speaks = λ d outs h own said last. forgot_same d (perform outs d) refl refl;
  changes_dialogue = λ d p f m by one. one;
  drops_arc = λ d p m at one. one;
  notes_kept = λ d ks m held noted one. absurd (off d ks noted);
  keeps = λ d k f held. forgot_record d (keep (settled k f) d) refl;
  turns = λ d c f now at asked put gone like alike. forgot_record d (turned who f d c) refl;
  begins = λ d p may. forgot_same d (begin_on who p d) (quiet_begin who p d) (begun_kept who p d);
  roots = λ d m nil may says one. one;
}

-- ---- which event it is

data Kind (e : Event) : Type 0 where
  Crashes : e ≡ Event.Crash → Kind e
  Forgets : (from : Addr) (t : Aaid) (b : BranchId) → e ≡ Event.Arrive from (PeerRecord.Forget t b) → Kind e
  Others : is_crash e ≡ false → ((k : NodeKey) → is_forget_of k e ≡ false) → ((d : Digest) (ks : List Kept) → IsNotedBy e d ks → ⊥) → ((who : Who) (d : Digest) → (prelude who d e).kept ≡ d.kept) → Kind e

kind : (e : Event) → Kind e
kind (Event.Do r) = Others refl (λ k. refl) (λ d ks h. absurd h) (λ who d. grind arith)
kind (Event.Arrive from (PeerRecord.Forget t b)) = Forgets from t b refl
kind (Event.Arrive from (PeerRecord.OnAssoc x y q (DialogueRecord.Begin t b h))) = Others refl (λ k. refl) (λ d ks h. absurd h) (λ who d. go who d (find_arc d.arcs from.node))
  where
    go : (who : Who) (d : Digest) (o : Option Arc) → (begun_in o t b (counted_in d from)).kept ≡ d.kept
    go who d None = refl
    go who d (Some a) = refl
kind (Event.Arrive from r) = Others refl (λ k. refl) (λ d ks h. absurd h) (λ who d. grind arith)
kind Event.Crash = Crashes refl
kind _ = Others refl (λ k. refl) (λ d ks h. absurd h) (λ who d. refl)

-- ---- a Forget

forgot_noted : (ks : List Kept) (j k : NodeKey) → forgot_of (with_forget ks j (λ y. noted y KeptEvent.Forget)) k ≡ ((is_key k j && commits_of ks k) || forgot_of ks k)
forgot_noted [] j k = grind arith
forgot_noted (y ∷ ys) j k = go (is_key y.key j) refl (is_key y.key k) refl (forgot_noted ys j k)
  where
    key_noted : (x : Kept) → (noted x KeptEvent.Forget).key ≡ x.key
    key_noted x = grind arith

    mark : (b : Bool) (x : Kept) → (if b then record x { forgot = true } else x).forgot ≡ (b || x.forgot)
    mark true x = refl
    mark false x = refl

    go : (b : Bool) → is_key y.key j ≡ b → (c : Bool) → is_key y.key k ≡ c → forgot_of (with_forget ys j (λ y. noted y KeptEvent.Forget)) k ≡ ((is_key k j && commits_of ys k) || forgot_of ys k)
        → forgot_of (with_forget (y ∷ ys) j (λ y. noted y KeptEvent.Forget)) k ≡ ((is_key k j && commits_of (y ∷ ys) k) || forgot_of (y ∷ ys) k)
    go true e true i rest =
        let here : is_key k j ≡ true = ap (λ (x : NodeKey). is_key x j) (sym (keys_equal y.key k i)) ∙ e in
        let at : is_key (noted y KeptEvent.Forget).key k ≡ true = ap (λ (x : NodeKey). is_key x k) (key_noted y) ∙ i in
        rw (e, i, here, at, with_forget, find_kept, forgot_of, commits_of) (mark (is_commit y.side) y)
    go true e false i rest =
        let other : is_key k j ≡ false = go2 (is_key k j) refl in
        let at : is_key (noted y KeptEvent.Forget).key k ≡ false = ap (λ (x : NodeKey). is_key x k) (key_noted y) ∙ i in
        rw (e, i, other, at, with_forget, find_kept, forgot_of, commits_of) refl
      where
        go2 : (b : Bool) → is_key k j ≡ b → is_key k j ≡ false
        go2 false z = z
        go2 true z = absurd (let yes : is_key y.key k ≡ true = ap (is_key y.key) (keys_equal k j z) ∙ e in cc (yes, i))
    go false e true i rest =
        let other : is_key k j ≡ false = ap (λ (x : NodeKey). is_key x j) (sym (keys_equal y.key k i)) ∙ e in
        rw (e, i, other, with_forget, find_kept, forgot_of, commits_of) refl
    go false e false i rest = rw (e, i, with_forget, find_kept, forgot_of, commits_of) rest

distinct_noted : (ks : List Kept) (j : NodeKey) → AreDistinct ks → AreDistinct (with_forget ks j (λ y. noted y KeptEvent.Forget))
distinct_noted [] j h = tt
distinct_noted (y ∷ ys) j h = go (is_key y.key j) refl (distinct_noted ys j h.1)
  where
    key_noted : (x : Kept) → (noted x KeptEvent.Forget).key ≡ x.key
    key_noted x = grind arith

    apart : (k : NodeKey) (xs : List Kept) → AreApart k xs → AreApart k (with_forget xs j (λ y. noted y KeptEvent.Forget))
    apart k [] a = tt
    apart k (x ∷ xs) a = on (is_key x.key j) refl (apart k xs a.1)
      where
        on : (b : Bool) → is_key x.key j ≡ b → AreApart k (with_forget xs j (λ y. noted y KeptEvent.Forget)) → AreApart k (with_forget (x ∷ xs) j (λ y. noted y KeptEvent.Forget))
        on true e rest = rw (e, with_forget) ((λ same. a.0 (sym (key_noted x) ∙ same)), a.1)
        on false e rest = rw (e, with_forget) (a.0, rest)

    go : (b : Bool) → is_key y.key j ≡ b → AreDistinct (with_forget ys j (λ y. noted y KeptEvent.Forget)) → AreDistinct (with_forget (y ∷ ys) j (λ y. noted y KeptEvent.Forget))
    go true e rest = rw (e, with_forget) (subst (λ (k : NodeKey). AreApart k ys) (sym (key_noted y)) h.0, h.1)
    go false e rest = rw (e, with_forget) (apart y.key ys h.0, rest)

-- ---- a commitment that is kept

distinct_kept : (n : ℕ) (ps : List LogRec) (ks : List Kept) → AreKept n ps (not_forgotten ks) → AreDistinct ks
distinct_kept n ps [] h = tt
distinct_kept n ps (x ∷ xs) h = (apart_unnoted x.key xs h.0, distinct_kept n ps xs h.2)

commit_found : (n : ℕ) (ps rs : List LogRec) (ks : List Kept) (k : NodeKey) → alive (last_of k rs) ≡ last_at n k ps → AreKept n ps (not_forgotten ks) → (x : Kept) → find_kept ks k ≡ Some x → is_kept_commit k rs ≡ is_commit x.side
commit_found n ps rs [] k last h x i = absurd (cc (i))
commit_found n ps rs (y ∷ ys) k last h x i = go (is_key y.key k) refl (commit_found n ps rs ys k last h.2 x)
  where
    some_alive : (v : Option LogRec) (r : LogRec) → alive v ≡ Some r → v ≡ Some r
    some_alive None r h = absurd (cc (h))
    some_alive (Some q) r h = grind (arith, h)

    go : (b : Bool) → is_key y.key k ≡ b → (find_kept ys k ≡ Some x → is_kept_commit k rs ≡ is_commit x.side) → is_kept_commit k rs ≡ is_commit x.side
    go true e rest =
        let one : Some y ≡ Some x = rw (e, find_kept) at i in
        let same : y ≡ x = cc (one) in
        let key : y.key ≡ k = keys_equal y.key k e in
        let damage : last_of k rs ≡ Some (LogRec.Damage n y.key y.superior y.side y.report y.owed) =
        some_alive (last_of k rs) (LogRec.Damage n y.key y.superior y.side y.report y.owed) (last ∙ ap (λ (j : NodeKey). last_at n j ps) (sym key) ∙ h.1.last) in
        rw (damage, is_kept_commit) (ap (λ (z : Kept). is_commit z.side) same)
    go false e rest = rest (rw (e, find_kept) at i)

-- no damage is the last record of a key that is not kept
unkept : (n : ℕ) (ps : List LogRec) (o : Option Current) (ks : List Kept) (k : NodeKey) → IsFit n ps o ks → AreApart k ks → holds (last_at n k ps) is_damage ≡ true → ⊥
unkept n ps o ks k fit apart d = go (place n ps o ks k fit)
  where
    go : Place k o ks → ⊥
    go (New a off) = let none : false ≡ true = ap (λ (v : Option LogRec). holds v is_damage) (sym (fit.none k a off)) ∙ d in cc (none)
    go (Here c i same a) = no_both (last_at n k ps) d (subst (λ (j : NodeKey). holds (last_at n j ps) is_bound ≡ true) same (stands_bound n ps o c fit.now i))
    go (There h off) = there ks apart h
      where
        there : (xs : List Kept) → AreApart k xs → has_key k (keys_of xs) ≡ true → ⊥
        there [] a h = cc (h)
        there (x ∷ xs) a h = on (is_key k x.key) refl (there xs a.1)
          where
            on : (b : Bool) → is_key k x.key ≡ b → (has_key k (keys_of xs) ≡ true → ⊥) → ⊥
            on true e rest = a.0 (sym (keys_equal k x.key e))
            on false e rest = rest (rw (e, has_key) at h)

commit_none : (o : Origin) (h : List Entry) (k : NodeKey) → IsLogTold o h → AreApart k (digest o h).kept → is_kept_commit k (records o h) ≡ false
commit_none o h k told apart = go (last_of k (records o h)) refl
  where
    off : (r : LogRec) → last_of k (records o h) ≡ Some r → is_end r ≡ false → is_damage r ≡ true → ⊥
    off r i live d =
        let one : alive (Some r) ≡ Some r = rw (live, alive) refl in
        let last = sym (told.last k) ∙ ap alive i ∙ one in
        unkept o.who.node (reverse (records o h)) (recovered_current (digest o h).current) (not_forgotten (digest o h).kept) k told.fit (apart_noted k (digest o h).kept apart)
        (ap (λ (v : Option LogRec). holds v is_damage) last ∙ d)

    go : (v : Option LogRec) → last_of k (records o h) ≡ v → is_kept_commit k (records o h) ≡ false
    go None i = rw (i, is_kept_commit) refl
    go (Some (LogRec.Boot n)) i = rw (i, is_kept_commit) refl
    go (Some (LogRec.Ready n j s cs)) i = rw (i, is_kept_commit) refl
    go (Some (LogRec.Heuristic n j u)) i = rw (i, is_kept_commit) refl
    go (Some (LogRec.Commit n j s cs)) i = rw (i, is_kept_commit) refl
    go (Some (LogRec.Damage n j s u r cs)) i = absurd (off (LogRec.Damage n j s u r cs) i refl refl)
    go (Some (LogRec.End n j u)) i = rw (i, is_kept_commit) refl

unfound : (ks : List Kept) (k : NodeKey) → find_kept ks k ≡ None → AreApart k ks
unfound [] k h = tt
unfound (x ∷ xs) k h = go (is_key x.key k) refl (unfound xs k)
  where
    go : (b : Bool) → is_key x.key k ≡ b → (find_kept xs k ≡ None → AreApart k xs) → AreApart k (x ∷ xs)
    go true e rest = let no : Some x ≡ None = rw (e, find_kept) at h in absurd (cc (no))
    go false e rest = ((λ same. let self : is_key x.key k ≡ true = ap (is_key x.key) (sym same) ∙ key_self x.key in cc (self, e)), rest (rw (e, find_kept) at h))

-- the records say which keys are kept for a commitment
commit_is : (o : Origin) (h : List Entry) (k : NodeKey) → IsLogTold o h → is_kept_commit k (records o h) ≡ commits_of (digest o h).kept k
commit_is o h k told = go (find_kept (digest o h).kept k) refl
  where
    go : (v : Option Kept) → find_kept (digest o h).kept k ≡ v → is_kept_commit k (records o h) ≡ commits_of (digest o h).kept k
    go None i = commit_none o h k told (unfound (digest o h).kept k i) ∙ sym (ap (λ (v : Option Kept). elim v as (λ _. Bool) [ None ↦ false | Some x ↦ is_commit x.side ]) i)
    go (Some x) i =
        commit_found o.who.node (reverse (records o h)) (records o h) (digest o h).kept k (told.last k) told.fit.kept x i
        ∙ sym (ap (λ (v : Option Kept). elim v as (λ _. Bool) [ None ↦ false | Some x ↦ is_commit x.side ]) i)

-- ---- every legal history

never_noted : (ks : List Kept) (k : NodeKey) → forgot_of (not_forgotten ks) k ≡ false
never_noted [] k = refl
never_noted (x ∷ xs) k = go (is_key x.key k) refl (never_noted xs k)
  where
    go : (b : Bool) → is_key x.key k ≡ b → forgot_of (not_forgotten xs) k ≡ false → forgot_of (not_forgotten (x ∷ xs)) k ≡ false
    go true e rest = rw (e, find_kept, forgot_of) refl
    go false e rest = rw (e, find_kept, forgot_of) rest

forgot_start : (o : Origin) (k : NodeKey) → forgot_of (digest o []).kept k ≡ false
unfolding started
forgot_start o k = ap (λ (ks : List Kept). forgot_of ks k) (sym (from_unnoted [] o.start.records)) ∙ never_noted (kept_from [] o.start.records) k

forgot_crash : (d : Digest) (k : NodeKey) → forgot_of (after_crash d).kept k ≡ false
unfolding after_crash
forgot_crash d k = never_noted d.kept k

-- what a Forget does
forget_step : (o : Origin) (h : List Entry) (from : Addr) (t : Aaid) (b : BranchId) (k : NodeKey) → IsLogTold o h
    → forgot_of (take_forget (branch_key t b) (digest o h)).next.kept k
    ≡ (if ends_key k (take_forget (branch_key t b) (digest o h)).rec then false else (is_key k (branch_key t b) && is_kept_commit k (records o h)) || forgot_of (digest o h).kept k)
forget_step o h from t b k told = go (find_kept d.kept j) refl
  where
    d : Digest
    d = digest o h

    j : NodeKey
    j = branch_key t b

    commits : is_kept_commit k (records o h) ≡ commits_of d.kept k
    commits = commit_is o h k told

    at : Option Kept → Move
    at v = elim v as (λ _. Move) [ None ↦ move [] d | Some x ↦ keep (settled x KeptEvent.Forget) (record d { kept = with_forget d.kept j (λ y. noted y KeptEvent.Forget) }) ]

    is : (v : Option Kept) → find_kept d.kept j ≡ v → take_forget j d ≡ at v
    is v i = ap at i

    goal : Move → Type 0
    goal m = forgot_of m.next.kept k ≡ (if ends_key k m.rec then false else (is_key k j && is_kept_commit k (records o h)) || forgot_of d.kept k)

    none : find_kept d.kept j ≡ None → (is_key k j && commits_of d.kept k) ≡ false
    none i = on (is_key k j) refl
      where
        on : (v : Bool) → is_key k j ≡ v → (is_key k j && commits_of d.kept k) ≡ false
        on true e =
            let no : find_kept d.kept k ≡ None = ap (find_kept d.kept) (keys_equal k j e) ∙ i in
            rw (e, no, commits_of) refl
        on false e = rw e refl

    go : (v : Option Kept) → find_kept d.kept j ≡ v → goal (take_forget j d)
    go None i = subst goal (sym (is None i)) (let off : (is_key k j && is_kept_commit k (records o h)) ≡ false = ap (λ (c : Bool). is_key k j && c) commits ∙ none i in rw off refl)
    go (Some x) i =
        let g : Digest = record d { kept = with_forget d.kept j (λ y. noted y KeptEvent.Forget) } in
        let distinct : AreDistinct d.kept = distinct_kept o.who.node (reverse (records o h)) d.kept told.fit.kept in
        let one = forgot_after (settled x KeptEvent.Forget).rec g.kept k (distinct_noted d.kept j distinct) in
        let two : forgot_of g.kept k ≡ ((is_key k j && is_kept_commit k (records o h)) || forgot_of d.kept k) = forgot_noted d.kept j k ∙ ap (λ (c : Bool). (is_key k j && c) || forgot_of d.kept k) (sym commits) in
        subst goal (sym (is (Some x) i)) (one ∙ ap (λ (c : Bool). if ends_key k (settled x KeptEvent.Forget).rec then false else c) two)

pub before_it : (o : Origin) (up : Option Addr) (e : Entry) (h : List Entry) → IsLegal o up (e ∷ h) → IsLegal o up h
before_it o up e h legal = record { start = legal.start; grown = legal.grown.3 }

pub forgot_law : (o : Origin) (up : Option Addr) (h : List Entry) → IsLegal o up h → (k : NodeKey) → forgot_of (digest o h).kept k ≡ forgot_in o k h
forgot_law o up [] legal k = forgot_start o k
forgot_law o up (e ∷ h) legal k = go (kind e.event) (forgot_law o up h (before_it o up e h legal) k)
  where
    d : Digest
    d = digest o h

    told : IsLogTold o h
    told = log_told o up h (before_it o up e h legal)

    made : (action o.who d e.event).rec ≡ e.rec
    made = ap (λ (x : Entry). x.rec) legal.grown.1

    distinct : AreDistinct d.kept
    distinct = distinct_kept o.who.node (reverse (records o h)) d.kept told.fit.kept

    go : Kind e.event → forgot_of d.kept k ≡ forgot_in o k h → forgot_of (digest o (e ∷ h)).kept k ≡ forgot_in o k (e ∷ h)
    go (Crashes i) before =
        let crash : is_crash e.event ≡ true = ap is_crash i in
        ap (λ (f : Event). forgot_of (action o.who d f).next.kept k) i ∙ forgot_crash d k ∙ rw (crash, forgot_in) refl
    go (Forgets from t b i) before =
        let calm : is_crash e.event ≡ false = ap is_crash i in
        let of : is_forget_of k e.event ≡ is_key k (branch_key t b) = ap (is_forget_of k) i in
        let acts : (action o.who d e.event) ≡ take_forget (branch_key t b) d = ap (action o.who d) i in
        let rec : (take_forget (branch_key t b) d).rec ≡ e.rec = ap (λ (m : Move). m.rec) (sym acts) ∙ made in
        ap (λ (m : Move). forgot_of m.next.kept k) acts ∙ forget_step o h from t b k told
        ∙ rw (rec, before, forgot_in) (rw (calm, of) refl)
    go (Others calm off quiet first) before =
        let s : Digest = prelude o.who d e.event in
        let same : s.kept ≡ d.kept = first o.who d in
        let moved : IsForgotMove s (action o.who d e.event) = step_move o.who d e.event IsForgotMove (forgot_steps o.who e.event s quiet) (late_law o up h legal.grown.3) legal.grown.0 in
        (moved (subst AreDistinct (sym same) distinct)).1 k
        ∙ ap (λ (r : Option LogRec). if ends_key k r then false else forgot_of s.kept k) made
        ∙ ap (λ (ks : List Kept). if ends_key k e.rec then false else forgot_of ks k) same
        ∙ ap (λ (c : Bool). if ends_key k e.rec then false else c) before
        ∙ rw (calm, off k, forgot_in) refl

-- ---- the whole

pub outcome_self : (u : _) → is_outcome u u ≡ true
outcome_self Outcome.Commit = refl
outcome_self Outcome.Rollback = refl

child_self : (c : Child) → is_child c c ≡ true
child_self c = both_true _ _ (addr_self c.addr) (branch_self c.branch)

pub children_self : (cs : List Child) → same_list is_child cs cs ≡ true
children_self [] = refl
children_self (c ∷ cs) = both_true _ _ (child_self c) (children_self cs)

kept_self : (x : Kept) (f : Bool) → x.forgot ≡ f → same_kept x (record x { forgot = f }) ≡ true
kept_self x f i =
    rw (number_self x.node x.node refl, key_self x.key, superior_self x.superior x.superior refl, outcome_self x.side, number_self (rank x.report) (rank x.report) refl, children_self x.owed) (bool_self x.forgot f i)

kept_same : (f : NodeKey → Bool) (ks : List Kept) → AreDistinct ks → ((k : NodeKey) → has_key k (keys_of ks) ≡ true → forgot_of ks k ≡ f k) → same_list same_kept ks (noted_as f ks) ≡ true
kept_same f [] h agree = refl
kept_same f (x ∷ xs) h agree = both_true (same_kept x (record x { forgot = f x.key })) (same_list same_kept xs (noted_as f xs)) (kept_self x (f x.key) here) (kept_same f xs h.1 rest)
  where
    self : is_key x.key x.key ≡ true
    self = key_self x.key

    here : x.forgot ≡ f x.key
    here = sym (rw (self, find_kept, forgot_of) refl) ∙ agree x.key (rw (self, has_key) refl)

    rest : (k : NodeKey) → has_key k (keys_of xs) ≡ true → forgot_of xs k ≡ f k
    rest k i = on (is_key x.key k) refl
      where
        on : (b : Bool) → is_key x.key k ≡ b → forgot_of xs k ≡ f k
        on true e = absurd (off xs (subst (λ (j : NodeKey). AreApart j xs) (keys_equal x.key k e) h.0) i)
          where
            off : (ys : List Kept) → AreApart k ys → has_key k (keys_of ys) ≡ true → ⊥
            off [] a j = cc (j)
            off (y ∷ ys) a j = at (is_key k y.key) refl (off ys a.1)
              where
                at : (b : Bool) → is_key k y.key ≡ b → (has_key k (keys_of ys) ≡ true → ⊥) → ⊥
                at true z more = a.0 (sym (keys_equal k y.key z))
                at false z more = more (rw (z, has_key) at j)
        on false e =
            let other : is_key k x.key ≡ false = key_swap x.key k e in
            sym (rw (e, find_kept, forgot_of) refl) ∙ agree k (rw (other, has_key) i)

pub kept_agrees_law : (o : Origin) (up : Option Addr) (h : List Entry) → IsLegal o up h → kept_agrees o h ≡ true
kept_agrees_law o up h legal =
    let told : IsLogTold o h = log_told o up h legal in
    ap (λ (l : List Kept). same_list same_kept (digest o h).kept l) (kept_is o h told)
    ∙ kept_same (λ k. forgot_in o k h) (digest o h).kept (distinct_kept o.who.node (reverse (records o h)) (digest o h).kept told.fit.kept) (λ k i. forgot_law o up h legal k)

-- ---- known from the log

pub begun_known : (who : Who) (q : ℕ) (d : Digest) → (begin_on who q d).next.known ≡ d.known
unfolding begin_on
begun_known who q d = grind arith

pub known_moves : (who : Who) (e : Event) (s : Digest) → Moves who e s (λ d m. m.next.known ≡ d.known)
known_moves who e s = record {
  still = λ d. refl;
  chain = λ d a f one two quiet. two ∙ one;
  speaks = λ d outs h own said. refl;
  changes_dialogue = λ d p f m by one. one;
  drops_arc = λ d p m at one. one;
  notes_kept = λ d ks m held one. one;
  keeps = λ d k f held. refl;
  turns = λ d c f now at asked put gone. refl;
  begins = λ d p may. begun_known who p d;
  roots = λ d m nil may one. one;
}

first_known : (who : Who) (d : Digest) (e : Event) → is_crash e ≡ false → (prelude who d e).known ≡ d.known
first_known who d (Event.Do r) h = grind arith
first_known who d (Event.Arrive from (PeerRecord.OnAssoc x y q (DialogueRecord.Begin t b k))) h = go (find_arc d.arcs from.node)
  where
    go : (o : Option Arc) → (begun_in o t b (counted_in d from)).known ≡ d.known
    go None = refl
    go (Some a) = refl
first_known who d (Event.Arrive from r) h = grind arith
first_known who d Event.Crash h = absurd (cc (h))
first_known who d _ h = refl

known_start : (o : Origin) → (digest o []).known ≡ is_known (digest o []).current (digest o []).kept
unfolding started
known_start o = refl

known_crash : (d : Digest) → (after_crash d).known ≡ is_known (recovered_current d.current) d.kept
unfolding after_crash
known_crash d = refl

pub crash_rec : (o : Origin) (h : List Entry) (e : Entry) → entry_of o h e.event ≡ e → e.event ≡ Event.Crash → e.rec ≡ None
crash_rec o h e made is = ap (λ (x : Entry). x.rec) (sym made) ∙ ap (λ (f : Event). (action o.who (digest o h) f).rec) is

pub known_law : (o : Origin) (up : Option Addr) (h : List Entry) → IsLegal o up h → (digest o h).known ≡ known_in o h
known_law o up [] legal = known_start o ∙ sym (start_known o legal.start)
known_law o up (e ∷ h) legal = go (kind e.event) (known_law o up h (before_it o up e h legal))
  where
    d : Digest
    d = digest o h

    before : IsLegal o up h
    before = before_it o up e h legal

    calm_case : is_crash e.event ≡ false → d.known ≡ known_in o h → (digest o (e ∷ h)).known ≡ known_in o (e ∷ h)
    calm_case calm was =
        every_move o.who d e.event (λ d m. m.next.known ≡ d.known) (known_moves o.who e.event (prelude o.who d e.event)) (late_law o up h legal.grown.3) legal.grown.0
        ∙ first_known o.who d e.event calm ∙ was ∙ rw (calm, known_in) refl

    go : Kind e.event → d.known ≡ known_in o h → (digest o (e ∷ h)).known ≡ known_in o (e ∷ h)
    go (Crashes i) was =
        let crash : is_crash e.event ≡ true = ap is_crash i in
        let none : records o (e ∷ h) ≡ records o h = ap (λ (r : Option LogRec). with_rec r (records o h)) (crash_rec o h e legal.grown.1 i) in
        ap (λ (f : Event). (action o.who d f).next.known) i ∙ known_crash d ∙ sym (stands_known o h (log_told o up h before))
        ∙ ap (λ (rs : List LogRec). has_keys (standing_keys rs)) (sym none) ∙ rw (crash, known_in) refl
    go (Forgets from t b i) was = calm_case (ap is_crash i) was
    go (Others calm off quiet first) was = calm_case calm was

pub known_agrees_law : (o : Origin) (up : Option Addr) (h : List Entry) → IsLegal o up h → known_agrees o h ≡ true
known_agrees_law o up h legal = bool_self (digest o h).known (known_in o h) (known_law o up h legal)
