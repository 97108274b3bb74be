-- What is kept is what the last record of each key that stands says, and what was noted of it; and what is known from the
-- log is that a key stands in it.
use Rattle.std.proofs.Common.{if◌then◌else◌, ◌≡◌, ℕ, suc, Bool, true, false, refl, ap, sym, subst, ◌∙◌, arith, append_assoc, append-nil, Option, Some, None, List, [], ◌∷◌, ◌++◌, reverse}
use Rattle.std.proofs.lemmas.List.{reverse-append, reverse-reverse}
use Rattle.tp_names.specs.declared.identifiers.NodeKey.{NodeKey}
use Rattle.tp_names.specs.declared.identifiers.Addr.{Addr}
use Rattle.tp_names.specs.Same.{is_key}
use Rattle.tp_logrec.specs.declared.record.LogRec.{LogRec}
use Rattle.tp_logrec.specs.Order.{owner, owner_of, is_end, is_bound, holds, follow_from, follows, all_follow}
use Rattle.tp_model.specs.declared.recovery.Kept.{Kept}
use Rattle.tp_model.specs.Parts.{Origin, Entry, Current, Digest}
use Rattle.tp_model.specs.Transactions.{node_key}
use Rattle.tp_model.specs.Recovery.{not_forgotten}
use Rattle.tp_model.specs.Events.{recovered_current, after_crash, started, is_known, current_from, kept_from}
use Rattle.tp_model.specs.History.{digest, records, again, crashed}
use Rattle.tp_model.specs.Keys.{key_of, is_of_key, last_of, standing_keys, forgot_in, kept_by_rec, kept_among, kept_in, has_keys}
use Rattle.tp_model.specs.Legal.{is_start, is_own_record, are_own_records, IsLegal}
use Rattle.tp_histories.specs.Restart.{IsFounded}
use Rattle.tp_steps.proofs.lemmas.Equality.{and_left, and_right}
use Rattle.tp_steps.proofs.log.ApartLog.{keys_equal}
use Rattle.tp_steps.proofs.log.StandLog.{last_at, last_other, last_mine, last_ended, IsKept, AreKept, IsFit, stands_bound}
use Rattle.tp_histories.proofs.log.StartLog.{own_key, sound_start}
use Rattle.tp_histories.proofs.log.OrderLog.{order_law}
use Rattle.tp_histories.proofs.log.RestartLog.{restart}
use Rattle.tp_histories.proofs.log.WellLog.{founded_by, start_again}
use Rattle.tp_histories.proofs.log.StandingKeys.{keys_of, key_now, key_sym, standing_law}

-- ---- the last record of a key, which may be its end

abbrev pub alive : Option LogRec → Option LogRec
alive None = None
alive (Some r) = if is_end r then None else Some r

owned_key : (n : ℕ) (j : NodeKey) (r : LogRec) → owner_of r ≡ Some (owner n j) → key_of r ≡ Some j
owned_key n j (LogRec.Boot m) h = absurd (cc (h))
owned_key n j _ h = grind (arith, h)

last_step : (n : ℕ) (k j : NodeKey) (ps : List LogRec) (r : LogRec) → owner_of r ≡ Some (owner n j) → alive (last_of k (reverse ps)) ≡ last_at n k ps → alive (last_of k (r ∷ reverse ps)) ≡ last_at n k (ps ++ r ∷ [])
last_step n k j ps r own h = go (is_key j k) refl
  where
    of_key : is_of_key k r ≡ is_key k j
    of_key = rw (owned_key n j r own, is_of_key) refl

    ends : (b : Bool) → is_end r ≡ b → j ≡ k → alive (Some r) ≡ last_at n k (ps ++ r ∷ [])
    ends true e same = rw (e, alive) (sym (last_ended n k ps r (own ∙ ap (λ (x : NodeKey). Some (owner n x)) same) e))
    ends false e same = rw (e, alive) (sym (last_mine n k ps r (own ∙ ap (λ (x : NodeKey). Some (owner n x)) same) e))

    go : (b : Bool) → is_key j k ≡ b → alive (last_of k (r ∷ reverse ps)) ≡ last_at n k (ps ++ r ∷ [])
    go true e =
        let mine : is_of_key k r ≡ true = of_key ∙ key_sym k j ∙ e in
        ap (λ (v : Bool). alive (if v then Some r else last_of k (reverse ps))) mine ∙ ends (is_end r) refl (keys_equal j k e)
    go false e =
        let other : is_of_key k r ≡ false = of_key ∙ key_sym k j ∙ e in
        ap (λ (v : Bool). alive (if v then Some r else last_of k (reverse ps))) other ∙ h ∙ sym (last_other n j k ps r own e)

last_from_law : (n boot : ℕ) (k : NodeKey) (ps rs : List LogRec) → are_own_records n boot rs ≡ true → alive (last_of k (reverse ps)) ≡ last_at n k ps → alive (last_of k (reverse (ps ++ rs))) ≡ last_at n k (ps ++ rs)
last_from_law n boot k ps [] own h = ap (λ (l : List LogRec). alive (last_of k (reverse l))) (append-nil ps) ∙ h ∙ ap (last_at n k) (sym (append-nil ps))
last_from_law n boot k ps (r ∷ rs) own h =
    let x = own_key n boot r (and_left (is_own_record n boot r) (are_own_records n boot rs) own) in
    let one : alive (last_of k (reverse (ps ++ r ∷ []))) ≡ last_at n k (ps ++ r ∷ []) = ap (λ (l : List LogRec). alive (last_of k l)) (reverse-append ps (r ∷ [])) ∙ last_step n k x.0 ps r x.1 h in
    subst (λ (l : List LogRec). alive (last_of k (reverse l)) ≡ last_at n k l) (append_assoc ps (r ∷ []) rs) (last_from_law n boot k (ps ++ r ∷ []) rs (and_right (is_own_record n boot r) (are_own_records n boot rs) own) one)

pub last_law : (n boot : ℕ) (k : NodeKey) (rs : List LogRec) → are_own_records n boot rs ≡ true → alive (last_of k (reverse rs)) ≡ last_at n k rs
last_law n boot k rs own = last_from_law n boot k [] rs own refl

-- ---- what the records of a legal history tell

pub record IsLogTold (o : Origin) (h : List Entry) : Type 0 where
  pub standing : standing_keys (records o h) ≡ keys_of (digest o h).kept ++ key_now (recovered_current (digest o h).current)
  pub fit : IsFit o.who.node (reverse (records o h)) (recovered_current (digest o h).current) (not_forgotten (digest o h).kept)
  pub last : (k : NodeKey) → alive (last_of k (records o h)) ≡ last_at o.who.node k (reverse (records o h))

keys_noted : (ks : List Kept) → keys_of (not_forgotten ks) ≡ keys_of ks
keys_noted [] = refl
keys_noted (k ∷ ks) = ap (λ (l : List NodeKey). k.key ∷ l) (keys_noted ks)

started_parts : (o : Origin) → ((digest o []).current ≡ current_from None o.start.records) × ((digest o []).kept ≡ kept_from [] o.start.records)
unfolding started
started_parts o = (refl, refl)

crashed_parts : (o : Origin) (h : List Entry) → ((digest o (crashed h)).current ≡ recovered_current (digest o h).current) × ((digest o (crashed h)).kept ≡ not_forgotten (digest o h).kept)
unfolding after_crash
crashed_parts o h = (refl, refl)

-- of any start that a log can give
pub start_stands : (o : Origin) → is_start o ≡ true → standing_keys (reverse o.start.records) ≡ keys_of (digest o []).kept ++ key_now (digest o []).current
start_stands o start =
    let rs : List LogRec = o.start.records in
    let n : ℕ = o.who.node in
    let b : ℕ = o.start.boot in
    let order : all_follow (LogRec.Boot b ∷ rs) ≡ true = and_left (all_follow (LogRec.Boot b ∷ rs)) (are_own_records n b rs) start in
    let own : are_own_records n b rs ≡ true = and_right (all_follow (LogRec.Boot b ∷ rs)) (are_own_records n b rs) start in
    let follow : follow_from (LogRec.Boot b ∷ []) rs ≡ true = and_right (follows [] (LogRec.Boot b)) (follow_from (LogRec.Boot b ∷ []) rs) order in
    let p = started_parts o in
    standing_law n b b rs follow own ∙ ap (λ (ks : List Kept). keys_of ks ++ key_now (current_from None rs)) (sym p.1) ∙ ap (λ (c : Option Current). keys_of (digest o []).kept ++ key_now c) (sym p.0)

pub log_told : (o : Origin) (up : Option Addr) (h : List Entry) → IsLegal o up h → IsLogTold o h
log_told o up h legal =
    let founded : IsFounded o up h = founded_by o up h legal in
    let start : is_start (again o h) ≡ true = start_again o up h legal in
    let rs : List LogRec = reverse (records o h) in
    let b : ℕ = suc (digest o h).boot in
    let own : are_own_records o.who.node b rs ≡ true = and_right (all_follow (LogRec.Boot b ∷ rs)) (are_own_records o.who.node b rs) start in
    let back : reverse rs ≡ records o h = reverse-reverse (records o h) in
    let same : digest (again o h) [] ≡ digest o (crashed h) = restart o up h founded in
    let p = crashed_parts o h in
    let kept : (digest (again o h) []).kept ≡ not_forgotten (digest o h).kept = ap (λ (d : Digest). d.kept) same ∙ p.1 in
    let current : (digest (again o h) []).current ≡ recovered_current (digest o h).current = ap (λ (d : Digest). d.current) same ∙ p.0 in
    record {
      standing =
          ap standing_keys (sym back) ∙ start_stands (again o h) start
          ∙ ap (λ (ks : List Kept). keys_of ks ++ key_now (digest (again o h) []).current) kept
          ∙ ap (λ (l : List NodeKey). l ++ key_now (digest (again o h) []).current) (keys_noted (digest o h).kept)
          ∙ ap (λ (c : Option Current). keys_of (digest o h).kept ++ key_now c) current;
      fit = (order_law o up h (sound_start o legal.start founded.earlier) legal.grown).fit;
      last = λ k. ap (λ (l : List LogRec). alive (last_of k l)) (sym back) ∙ last_law o.who.node b k rs own;
    }

-- ---- what is kept, as the records tell it

-- of a kept transaction, with what is noted of its key
abbrev pub noted_as : (NodeKey → Bool) → List Kept → List Kept
noted_as f [] = []
noted_as f (x ∷ xs) = record x { forgot = f x.key } ∷ noted_as f xs

alive_some : (v : Option LogRec) (r : LogRec) → alive v ≡ Some r → v ≡ Some r
alive_some None r h = absurd (cc (h))
alive_some (Some q) r h = go (is_end q) refl
  where
    go : (b : Bool) → is_end q ≡ b → Some q ≡ Some r
    go true e = let no : None ≡ Some r = rw (e, alive) at h in absurd (cc (no))
    go false e = rw (e, alive) at h

among_append : (o : Origin) (h : List Entry) (xs ys : List NodeKey) → kept_among o h (xs ++ ys) ≡ kept_among o h xs ++ kept_among o h ys
among_append o h [] ys = refl
among_append o h (k ∷ xs) ys =
    ap (λ (l : List Kept). kept_by_rec o h (last_of k (records o h)) ++ l) (among_append o h xs ys) ∙ sym (append_assoc (kept_by_rec o h (last_of k (records o h))) (kept_among o h xs) (kept_among o h ys))

among_kept : (o : Origin) (h : List Entry) (ks : List Kept) → ((k : NodeKey) → alive (last_of k (records o h)) ≡ last_at o.who.node k (reverse (records o h))) → AreKept o.who.node (reverse (records o h)) (not_forgotten ks)
    → kept_among o h (keys_of ks) ≡ noted_as (λ k. forgot_in o k h) ks
among_kept o h [] last are = refl
among_kept o h (x ∷ xs) last are =
    let is : IsKept o.who.node (reverse (records o h)) (record x { forgot = false }) = are.1 in
    let found : last_of x.key (records o h) ≡ Some (LogRec.Damage x.node x.key x.superior x.side x.report x.owed) =
    alive_some (last_of x.key (records o h)) (LogRec.Damage x.node x.key x.superior x.side x.report x.owed) (last x.key ∙ is.last ∙ ap (λ (n : ℕ). Some (LogRec.Damage n x.key x.superior x.side x.report x.owed)) (sym is.node)) in
    ap (λ (v : Option LogRec). kept_by_rec o h v ++ kept_among o h (keys_of xs)) found
    ∙ ap (λ (l : List Kept). record x { forgot = forgot_in o x.key h } ∷ l) (among_kept o h xs last are.2)

-- nothing is kept of a key that is bound
bound_kept : (o : Origin) (h : List Entry) (v : Option LogRec) → holds v is_bound ≡ true → kept_by_rec o h v ≡ []
bound_kept o h None b = absurd (cc (b))
bound_kept o h (Some (LogRec.Damage n k s u r cs)) b = absurd (cc (b))
bound_kept o h _ b = refl

alive_bound : (v w : Option LogRec) → alive v ≡ w → holds w is_bound ≡ true → holds v is_bound ≡ true
alive_bound None w h b = ap (λ (x : Option LogRec). holds x is_bound) h ∙ b
alive_bound (Some r) w h b = go (is_end r) refl
  where
    go : (e : Bool) → is_end r ≡ e → is_bound r ≡ true
    go true e = let no : None ≡ w = rw (e, alive) at h in absurd (let off : false ≡ true = ap (λ (x : Option LogRec). holds x is_bound) no ∙ b in cc (off))
    go false e = let yes : Some r ≡ w = rw (e, alive) at h in ap (λ (x : Option LogRec). holds x is_bound) yes ∙ b

among_now : (o : Origin) (h : List Entry) → IsLogTold o h → (v : Option Current) → recovered_current (digest o h).current ≡ v → kept_among o h (key_now v) ≡ []
among_now o h told None i = refl
among_now o h told (Some c) i =
    let k : NodeKey = node_key c.key in
    let binds : holds (last_at o.who.node k (reverse (records o h))) is_bound ≡ true = stands_bound o.who.node (reverse (records o h)) (recovered_current (digest o h).current) c told.fit.now i in
    ap (λ (l : List Kept). l ++ []) (bound_kept o h (last_of k (records o h)) (alive_bound (last_of k (records o h)) _ (told.last k) binds))

pub kept_is : (o : Origin) (h : List Entry) → IsLogTold o h → kept_in o h ≡ noted_as (λ k. forgot_in o k h) (digest o h).kept
kept_is o h told =
    ap (kept_among o h) told.standing
    ∙ among_append o h (keys_of (digest o h).kept) (key_now (recovered_current (digest o h).current))
    ∙ ap (λ (l : List Kept). kept_among o h (keys_of (digest o h).kept) ++ l) (among_now o h told (recovered_current (digest o h).current) refl)
    ∙ append-nil (kept_among o h (keys_of (digest o h).kept))
    ∙ among_kept o h (digest o h).kept told.last told.fit.kept

-- ---- known from the log

has_either : (ks : List Kept) (c : Option Current) → has_keys (keys_of ks ++ key_now c) ≡ is_known c ks
has_either [] None = refl
has_either [] (Some c) = refl
has_either (k ∷ ks) None = refl
has_either (k ∷ ks) (Some c) = refl

pub stands_known : (o : Origin) (h : List Entry) → IsLogTold o h → has_keys (standing_keys (records o h)) ≡ is_known (recovered_current (digest o h).current) (digest o h).kept
stands_known o h told = ap has_keys told.standing ∙ has_either (digest o h).kept (recovered_current (digest o h).current)

pub start_known : (o : Origin) → is_start o ≡ true → has_keys (standing_keys (records o [])) ≡ is_known (digest o []).current (digest o []).kept
start_known o start = ap has_keys (start_stands o start) ∙ has_either (digest o []).kept (digest o []).current
