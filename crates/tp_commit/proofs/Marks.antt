-- Rows of branches: what is marked on them while the arcs look alike, and an arc that is cut off.
use Rattle.std.proofs.Common.{◌≡◌, ℕ, Bool, true, false, refl, ap, sym, ◌∙◌, arith, List, [], ◌∷◌, ◌++◌, ◌&&◌, ◌||◌, ◌==◌, not, if◌then◌else◌}
use Rattle.std.proofs.lemmas.Bool.Decides.{nat_tests}
use Rattle.tp_names.specs.declared.children.Child.{Child}
use Rattle.tp_model.specs.Parts.{Arc, Key, Root, Under, Branch, Current}
use Rattle.tp_model.specs.Arcs.{is_live_with_peer}
use Rattle.tp_model.specs.Transactions.{Row, row_holds, is_under_at, all_prepared, fresh_rows}
use Rattle.tp_model.specs.Requests.{has_branch_at}
use Rattle.tp_model.specs.Node.{is_end_deferred_at, is_up_live, is_up_ending, seen_row, seen_rows, branches_of}
use Rattle.tp_commit.specs.declared.row.Note.{Note}
use Rattle.tp_commit.specs.Row.{noted, noted_at}
use Rattle.tp_commit.specs.Branch.{standing_row, standing_rows}
use Rattle.tp_model.specs.AmongArcs.{are_distinct, IsAlike, IsCut, IsPutOff, AreNew}

-- ---- marks

pub record IsMarkedRow (r s : Row) : Type 0 where
  pub peer : s.branch.peer.node ≡ r.branch.peer.node
  pub live : s.live ≡ r.live
  pub ends : s.ends ≡ r.ends
  pub over : (r.branch.ended || r.branch.left) ≡ true → (s.branch.ended || s.branch.left) ≡ true

abbrev pub IsMarked : List Row → List Row → Type 0
IsMarked [] [] = Unit {0}
IsMarked [] (s ∷ ss) = ⊥
IsMarked (r ∷ rs) [] = ⊥
IsMarked (r ∷ rs) (s ∷ ss) = IsMarkedRow r s × IsMarked rs ss

same_row : (r : Row) → IsMarkedRow r r
same_row r = record { peer = refl; live = refl; ends = refl; over = λ h. h }

pub unmarked : (rs : List Row) → IsMarked rs rs
unmarked [] = tt
unmarked (r ∷ rs) = (same_row r, unmarked rs)

row_then : (r s w : Row) → IsMarkedRow r s → IsMarkedRow s w → IsMarkedRow r w
row_then r s w one two = record {
  peer = two.peer ∙ one.peer;
  live = two.live ∙ one.live;
  ends = two.ends ∙ one.ends;
  over = λ h. two.over (one.over h);
}

pub marked_then : (rs ss ws : List Row) → IsMarked rs ss → IsMarked ss ws → IsMarked rs ws
marked_then [] [] [] one two = tt
marked_then [] [] (w ∷ ws) one two = absurd two
marked_then [] (s ∷ ss) ws one two = absurd one
marked_then (r ∷ rs) [] ws one two = absurd one
marked_then (r ∷ rs) (s ∷ ss) [] one two = absurd two
marked_then (r ∷ rs) (s ∷ ss) (w ∷ ws) one two = (row_then r s w one.0 two.0, marked_then rs ss ws one.1 two.1)

abbrev pub is_mark : Note → Bool
is_mark Note.Prepared = true
is_mark Note.Counted = true
is_mark Note.Left = true
is_mark (Note.Ended r) = true
is_mark Note.GivenUp = false
is_mark Note.Lost = false
is_mark Note.Ending = false

or_true : (a : Bool) → (a || true) ≡ true
or_true true = refl
or_true false = refl

marked_row : (n : Note) (r : Row) → is_mark n ≡ true → IsMarkedRow r (noted n r)
marked_row Note.Prepared r h = record { peer = refl; live = refl; ends = refl; over = λ i. i }
marked_row Note.Counted r h = record { peer = refl; live = refl; ends = refl; over = λ i. i }
marked_row Note.Left r h = record { peer = refl; live = refl; ends = refl; over = λ i. or_true r.branch.ended }
marked_row (Note.Ended v) r h = record { peer = refl; live = refl; ends = refl; over = λ i. refl }
marked_row Note.GivenUp r h = absurd cc
marked_row Note.Lost r h = absurd cc
marked_row Note.Ending r h = absurd cc

pub marked_note : (rs : List Row) (p : ℕ) (n : Note) → is_mark n ≡ true → IsMarked rs (noted_at rs p n)
marked_note [] p n h = tt
marked_note (r ∷ rs) p n h = go (r.branch.peer.node == p) (marked_note rs p n h)
  where
    go : (b : Bool) → IsMarked rs (noted_at rs p n) → IsMarked (r ∷ rs) (if b then noted n r ∷ rs else r ∷ noted_at rs p n)
    go true rest = (marked_row n r h, unmarked rs)
    go false rest = (same_row r, rest)

pub marked_prepared : (rs : List Row) → IsMarked rs (all_prepared rs)
marked_prepared [] = tt
marked_prepared (r ∷ rs) = (record { peer = refl; live = refl; ends = refl; over = λ i. i }, marked_prepared rs)

-- ---- later arcs: each as live as before, and where the transaction rolls no end is deferred any more

pub record IsLater (rolls : Bool) (q : ℕ) (arcs later : List Arc) : Type 0 where
  pub live : is_live_with_peer later q ≡ is_live_with_peer arcs q
  pub ends : is_end_deferred_at later q ≡ (is_end_deferred_at arcs q && not rolls)

row_stands : (arcs later : List Arc) (rolls : Bool) (r s : Row) → seen_row arcs r.branch ≡ r → IsMarkedRow r s → IsLater rolls r.branch.peer.node arcs later → standing_row rolls s ≡ seen_row later s.branch
row_stands arcs later rolls r s e m k =
    let with_parts : Bool → Bool → Row = λ l v. record s { live = l; ends = v } in
    ap (λ l. with_parts l (s.ends && not rolls)) live ∙ ap (with_parts (is_live_with_peer later s.branch.peer.node && not (s.branch.ended || s.branch.left))) ends
  where
    here : is_live_with_peer later s.branch.peer.node ≡ is_live_with_peer arcs r.branch.peer.node
    here = ap (is_live_with_peer later) m.peer ∙ k.live

    was : s.live ≡ (is_live_with_peer arcs r.branch.peer.node && not (r.branch.ended || r.branch.left))
    was = m.live ∙ sym (ap (λ (x : Row). x.live) e)

    ended : is_end_deferred_at arcs r.branch.peer.node ≡ s.ends
    ended = ap (λ (x : Row). x.ends) e ∙ sym m.ends

    ends : (s.ends && not rolls) ≡ is_end_deferred_at later s.branch.peer.node
    ends = sym (ap (is_end_deferred_at later) m.peer ∙ k.ends ∙ ap (λ v. v && not rolls) ended)

    go : (x y l : Bool) → (x ≡ true → y ≡ true) → ((l && not x) && not y) ≡ (l && not y)
    go true true l h = grind arith
    go true false l h = absurd (cc (h refl))
    go false y true h = refl
    go false y false h = refl

    live : (s.live && not (s.branch.ended || s.branch.left)) ≡ (is_live_with_peer later s.branch.peer.node && not (s.branch.ended || s.branch.left))
    live =
        ap (λ l. l && not (s.branch.ended || s.branch.left)) was
        ∙ go (r.branch.ended || r.branch.left) (s.branch.ended || s.branch.left) (is_live_with_peer arcs r.branch.peer.node) m.over
        ∙ ap (λ l. l && not (s.branch.ended || s.branch.left)) (sym here)

abbrev pub has_row_at : List Row → ℕ → Bool
has_row_at rs q = row_holds rs q (λ b. true)

head_has : (r : Row) (rs : List Row) → has_row_at (r ∷ rs) r.branch.peer.node ≡ true
head_has r rs = grind (arith, nat_tests)

tail_has : (r : Row) (rs : List Row) (q : ℕ) → has_row_at rs q ≡ true → has_row_at (r ∷ rs) q ≡ true
tail_has r rs q h = grind (arith, nat_tests, h)

pub rows_stand : (arcs later : List Arc) (rolls : Bool) (rs ss : List Row) → seen_rows arcs (branches_of rs) ≡ rs → IsMarked rs ss → ((q : ℕ) → has_row_at rs q ≡ true → IsLater rolls q arcs later)
    → standing_rows rolls ss ≡ seen_rows later (branches_of ss)
rows_stand arcs later rolls [] [] e m k = refl
rows_stand arcs later rolls [] (s ∷ ss) e m k = absurd m
rows_stand arcs later rolls (r ∷ rs) [] e m k = absurd m
rows_stand arcs later rolls (r ∷ rs) (s ∷ ss) e m k =
    let first : seen_row arcs r.branch ≡ r = cc (e) in
    let others : seen_rows arcs (branches_of rs) ≡ rs = cc (e) in
    let row = row_stands arcs later rolls r s first m.0 (k r.branch.peer.node (head_has r rs)) in
    let rest = rows_stand arcs later rolls rs ss others m.1 (λ q h. k q (tail_has r rs q h)) in
    ap (λ (x : Row). x ∷ standing_rows rolls ss) row ∙ ap (λ (xs : List Row). seen_row later s.branch ∷ xs) rest

-- ---- the rows that a node sees

pub seen_has : (arcs : List Arc) (bs : List Branch) (q : ℕ) → has_row_at (seen_rows arcs bs) q ≡ has_branch_at bs q
seen_has arcs [] q = refl
seen_has arcs (b ∷ bs) q = grind (arith, nat_tests, seen_has arcs bs q)

pub noted_has : (rs : List Row) (p q : ℕ) (n : Note) → has_row_at (noted_at rs p n) q ≡ has_row_at rs q
noted_has [] p q n = refl
noted_has (r ∷ rs) p q n = go (r.branch.peer.node == p) (noted_has rs p q n)
  where
    same : (n : Note) → (noted n r).branch.peer.node ≡ r.branch.peer.node
    same Note.Prepared = refl
    same Note.Counted = refl
    same Note.Left = refl
    same (Note.Ended v) = refl
    same Note.GivenUp = refl
    same Note.Lost = refl
    same Note.Ending = refl

    go : (b : Bool) → has_row_at (noted_at rs p n) q ≡ has_row_at rs q → has_row_at (if b then noted n r ∷ rs else r ∷ noted_at rs p n) q ≡ has_row_at (r ∷ rs) q
    go true rest = grind (arith, nat_tests, same n)
    go false rest = grind (arith, nat_tests, rest)

pub seen_twice : (arcs : List Arc) (bs : List Branch) → seen_rows arcs (branches_of (seen_rows arcs bs)) ≡ seen_rows arcs bs
seen_twice arcs [] = refl
seen_twice arcs (b ∷ bs) = ap (λ (xs : List Row). seen_row arcs b ∷ xs) (seen_twice arcs bs)

-- ---- an arc that is cut off

abbrev pub cuts : Note → Bool
cuts Note.Prepared = false
cuts Note.Counted = false
cuts Note.Left = false
cuts (Note.Ended r) = false
cuts Note.GivenUp = true
cuts Note.Lost = true
cuts Note.Ending = false

pub row_alike : (arcs later : List Arc) (b : Branch) → IsAlike b.peer.node arcs later → seen_row later b ≡ seen_row arcs b
row_alike arcs later b k =
    let with_parts : Bool → Bool → Row = λ l v. record { branch = b; live = l && not (b.ended || b.left); ends = v } in
    ap (λ l. with_parts l (is_end_deferred_at later b.peer.node)) k.live ∙ ap (with_parts (is_live_with_peer arcs b.peer.node)) k.ends

pub rest_alike : (p : ℕ) (arcs later : List Arc) → IsCut p arcs later → (bs : List Branch) → has_branch_at bs p ≡ false → seen_rows later (branches_of (seen_rows arcs bs)) ≡ seen_rows arcs bs
rest_alike p arcs later cut [] none = refl
rest_alike p arcs later cut (b ∷ bs) none =
    let other : (b.peer.node == p) ≡ false = grind arith in
    let rest : has_branch_at bs p ≡ false = grind arith in
    ap (λ (x : Row). x ∷ seen_rows later (branches_of (seen_rows arcs bs))) (row_alike arcs later b (cut.others b.peer.node other))
    ∙ ap (λ (xs : List Row). seen_row arcs b ∷ xs) (rest_alike p arcs later cut bs rest)

row_cut : (p : ℕ) (arcs later : List Arc) → IsCut p arcs later → (n : Note) → cuts n ≡ true → (b : Branch) → b.peer.node ≡ p → seen_row later (noted n (seen_row arcs b)).branch ≡ noted n (seen_row arcs b)
row_cut p arcs later cut n h b here = go n h
  where
    dead : is_live_with_peer later b.peer.node ≡ false
    dead = ap (is_live_with_peer later) here ∙ cut.live

    none : is_end_deferred_at later b.peer.node ≡ false
    none = ap (is_end_deferred_at later) here ∙ cut.ends

    with_parts : Branch → Bool → Bool → Row
    with_parts x l v = record { branch = x; live = l && not (x.ended || x.left); ends = v }

    step : (x : Branch) → with_parts x (is_live_with_peer later b.peer.node) (is_end_deferred_at later b.peer.node) ≡ record { branch = x; live = false; ends = false }
    step x = ap (λ l. with_parts x l (is_end_deferred_at later b.peer.node)) dead ∙ ap (with_parts x false) none

    go : (m : Note) → cuts m ≡ true → seen_row later (noted m (seen_row arcs b)).branch ≡ noted m (seen_row arcs b)
    go Note.Prepared i = absurd cc
    go Note.Counted i = absurd cc
    go Note.Left i = absurd cc
    go (Note.Ended v) i = absurd cc
    go Note.GivenUp i = step (record b { given_up = true })
    go Note.Lost i = step b
    go Note.Ending i = absurd cc

pub cut_seen : (p : ℕ) (arcs later : List Arc) → IsCut p arcs later → (n : Note) → cuts n ≡ true → (bs : List Branch) → are_distinct bs ≡ true
    → seen_rows later (branches_of (noted_at (seen_rows arcs bs) p n)) ≡ noted_at (seen_rows arcs bs) p n
cut_seen p arcs later cut n h [] d = refl
cut_seen p arcs later cut n h (b ∷ bs) d = go (b.peer.node == p) refl (cut_seen p arcs later cut n h bs (grind arith))
  where
    go : (v : Bool) → (b.peer.node == p) ≡ v → seen_rows later (branches_of (noted_at (seen_rows arcs bs) p n)) ≡ noted_at (seen_rows arcs bs) p n
        → seen_rows later (branches_of (if v then noted n (seen_row arcs b) ∷ seen_rows arcs bs else seen_row arcs b ∷ noted_at (seen_rows arcs bs) p n))
        ≡ (if v then noted n (seen_row arcs b) ∷ seen_rows arcs bs else seen_row arcs b ∷ noted_at (seen_rows arcs bs) p n)
    go true i rest =
        let here : b.peer.node ≡ p = grind (arith, nat_tests, i) in
        let first : has_branch_at bs b.peer.node ≡ false = grind arith in
        let none : has_branch_at bs p ≡ false = ap (has_branch_at bs) (sym here) ∙ first in
        ap (λ (x : Row). x ∷ seen_rows later (branches_of (seen_rows arcs bs))) (row_cut p arcs later cut n h b here)
        ∙ ap (λ (xs : List Row). noted n (seen_row arcs b) ∷ xs) (rest_alike p arcs later cut bs none)
    go false i rest =
        ap (λ (x : Row). x ∷ seen_rows later (branches_of (noted_at (seen_rows arcs bs) p n))) (row_alike arcs later b (cut.others b.peer.node i))
        ∙ ap (λ (xs : List Row). seen_row arcs b ∷ xs) rest

-- a cut arc is what the note says
branches_lost : (arcs : List Arc) (bs : List Branch) (p : ℕ) → branches_of (noted_at (seen_rows arcs bs) p Note.Lost) ≡ bs
branches_lost arcs [] p = refl
branches_lost arcs (b ∷ bs) p = go (b.peer.node == p) (branches_lost arcs bs p)
  where
    all : (xs : List Branch) → branches_of (seen_rows arcs xs) ≡ xs
    all [] = refl
    all (x ∷ xs) = ap (λ (l : List Branch). x ∷ l) (all xs)

    go : (v : Bool) → branches_of (noted_at (seen_rows arcs bs) p Note.Lost) ≡ bs
        → branches_of (if v then noted Note.Lost (seen_row arcs b) ∷ seen_rows arcs bs else seen_row arcs b ∷ noted_at (seen_rows arcs bs) p Note.Lost) ≡ b ∷ bs
    go true rest = ap (λ (l : List Branch). b ∷ l) (all bs)
    go false rest = ap (λ (l : List Branch). b ∷ l) rest

pub cut_rows : (p : ℕ) (arcs later : List Arc) → IsCut p arcs later → (bs : List Branch) → are_distinct bs ≡ true → noted_at (seen_rows arcs bs) p Note.Lost ≡ seen_rows later bs
cut_rows p arcs later cut bs d = sym (cut_seen p arcs later cut Note.Lost refl bs d) ∙ ap (seen_rows later) (branches_lost arcs bs p)

pub rows_alike : (arcs later : List Arc) (bs : List Branch) → ((q : ℕ) → has_branch_at bs q ≡ true → IsAlike q arcs later) → seen_rows arcs bs ≡ seen_rows later bs
rows_alike arcs later [] k = refl
rows_alike arcs later (b ∷ bs) k =
    let here : has_branch_at (b ∷ bs) b.peer.node ≡ true = grind (arith, nat_tests) in
    ap (λ (x : Row). x ∷ seen_rows arcs bs) (sym (row_alike arcs later b (k b.peer.node here)))
    ∙ ap (λ (xs : List Row). seen_row later b ∷ xs) (rows_alike arcs later bs (λ q h. k q (more q h)))
  where
    more : (q : ℕ) → has_branch_at bs q ≡ true → has_branch_at (b ∷ bs) q ≡ true
    more q h = grind (arith, h)

-- an end that is deferred is what the note says
off_row : (p : ℕ) (arcs later : List Arc) → IsPutOff p arcs later → (b : Branch) → b.peer.node ≡ p → noted Note.Ending (seen_row arcs b) ≡ seen_row later b
off_row p arcs later off b here =
    let with_parts : Bool → Bool → Row = λ l v. record { branch = b; live = l && not (b.ended || b.left); ends = v } in
    ap (λ l. with_parts l true) (ap (is_live_with_peer arcs) here ∙ off.before ∙ sym (ap (is_live_with_peer later) here ∙ off.live))
    ∙ ap (with_parts (is_live_with_peer later b.peer.node)) (sym (ap (is_end_deferred_at later) here ∙ off.ends))

not_at : (bs : List Branch) (p q : ℕ) → has_branch_at bs p ≡ false → has_branch_at bs q ≡ true → (q == p) ≡ false
not_at bs p q none some = go (q == p) refl
  where
    go : (v : Bool) → (q == p) ≡ v → (q == p) ≡ false
    go true i = let same : q ≡ p = grind (arith, nat_tests, i) in absurd (cc (sym some ∙ ap (has_branch_at bs) same, none))
    go false i = i

pub apart_rows : (p : ℕ) (arcs later : List Arc) → ((q : ℕ) → (q == p) ≡ false → IsAlike q arcs later) → (bs : List Branch) → has_branch_at bs p ≡ false → seen_rows arcs bs ≡ seen_rows later bs
apart_rows p arcs later others bs none = rows_alike arcs later bs (λ q h. others q (not_at bs p q none h))

pub off_rows : (p : ℕ) (arcs later : List Arc) → IsPutOff p arcs later → (bs : List Branch) → are_distinct bs ≡ true → noted_at (seen_rows arcs bs) p Note.Ending ≡ seen_rows later bs
off_rows p arcs later off [] d = refl
off_rows p arcs later off (b ∷ bs) d = go (b.peer.node == p) refl (off_rows p arcs later off bs (grind arith))
  where
    go : (v : Bool) → (b.peer.node == p) ≡ v → noted_at (seen_rows arcs bs) p Note.Ending ≡ seen_rows later bs
        → (if v then noted Note.Ending (seen_row arcs b) ∷ seen_rows arcs bs else seen_row arcs b ∷ noted_at (seen_rows arcs bs) p Note.Ending) ≡ seen_row later b ∷ seen_rows later bs
    go true i rest =
        let here : b.peer.node ≡ p = grind (arith, nat_tests, i) in
        let first : has_branch_at bs b.peer.node ≡ false = grind arith in
        let none : has_branch_at bs p ≡ false = ap (has_branch_at bs) (sym here) ∙ first in
        ap (λ (x : Row). x ∷ seen_rows arcs bs) (off_row p arcs later off b here) ∙ ap (λ (xs : List Row). seen_row later b ∷ xs) (apart_rows p arcs later off.others bs none)
    go false i rest =
        ap (λ (x : Row). x ∷ noted_at (seen_rows arcs bs) p Note.Ending) (sym (row_alike arcs later b (off.others b.peer.node i)))
        ∙ ap (λ (xs : List Row). seen_row later b ∷ xs) rest

-- what the arcs say already, noted once more
lost_row : (p : ℕ) (arcs : List Arc) → is_live_with_peer arcs p ≡ false → is_end_deferred_at arcs p ≡ false → (b : Branch) → b.peer.node ≡ p → noted Note.Lost (seen_row arcs b) ≡ seen_row arcs b
lost_row p arcs dead none b here =
    let with_parts : Bool → Bool → Row = λ l v. record { branch = b; live = l && not (b.ended || b.left); ends = v } in
    sym (ap (λ l. with_parts l (is_end_deferred_at arcs b.peer.node)) (ap (is_live_with_peer arcs) here ∙ dead) ∙ ap (with_parts false) (ap (is_end_deferred_at arcs) here ∙ none))

pub lost_again : (p : ℕ) (arcs : List Arc) → is_live_with_peer arcs p ≡ false → is_end_deferred_at arcs p ≡ false → (bs : List Branch) → noted_at (seen_rows arcs bs) p Note.Lost ≡ seen_rows arcs bs
lost_again p arcs dead none [] = refl
lost_again p arcs dead none (b ∷ bs) = go (b.peer.node == p) refl (lost_again p arcs dead none bs)
  where
    go : (v : Bool) → (b.peer.node == p) ≡ v → noted_at (seen_rows arcs bs) p Note.Lost ≡ seen_rows arcs bs
        → (if v then noted Note.Lost (seen_row arcs b) ∷ seen_rows arcs bs else seen_row arcs b ∷ noted_at (seen_rows arcs bs) p Note.Lost) ≡ seen_row arcs b ∷ seen_rows arcs bs
    go true i rest = ap (λ (x : Row). x ∷ seen_rows arcs bs) (lost_row p arcs dead none b (grind (arith, nat_tests, i)))
    go false i rest = ap (λ (xs : List Row). seen_row arcs b ∷ xs) rest

ending_row : (p : ℕ) (arcs : List Arc) → is_end_deferred_at arcs p ≡ true → (b : Branch) → b.peer.node ≡ p → noted Note.Ending (seen_row arcs b) ≡ seen_row arcs b
ending_row p arcs off b here = sym (ap (λ v. let r : Row = record (seen_row arcs b) { ends = v } in r) (ap (is_end_deferred_at arcs) here ∙ off))

pub ending_again : (p : ℕ) (arcs : List Arc) → is_end_deferred_at arcs p ≡ true → (bs : List Branch) → noted_at (seen_rows arcs bs) p Note.Ending ≡ seen_rows arcs bs
ending_again p arcs off [] = refl
ending_again p arcs off (b ∷ bs) = go (b.peer.node == p) refl (ending_again p arcs off bs)
  where
    go : (v : Bool) → (b.peer.node == p) ≡ v → noted_at (seen_rows arcs bs) p Note.Ending ≡ seen_rows arcs bs
        → (if v then noted Note.Ending (seen_row arcs b) ∷ seen_rows arcs bs else seen_row arcs b ∷ noted_at (seen_rows arcs bs) p Note.Ending) ≡ seen_row arcs b ∷ seen_rows arcs bs
    go true i rest = ap (λ (x : Row). x ∷ seen_rows arcs bs) (ending_row p arcs off b (grind (arith, nat_tests, i)))
    go false i rest = ap (λ (xs : List Row). seen_row arcs b ∷ xs) rest

-- ---- the superior's arc

pub up_later : (rolls : Bool) (arcs later : List Arc) (k : Key) → ((q : ℕ) → is_under_at k q ≡ true → IsLater rolls q arcs later)
    → (is_up_live later k ≡ is_up_live arcs k) × (is_up_ending later k ≡ (is_up_ending arcs k && not rolls))
up_later rolls arcs later (Root t) h = (refl, refl)
up_later rolls arcs later (Under t b a) h = let here = h a.node (grind (arith, nat_tests)) in (here.live, here.ends)

-- ---- branches that begin

fresh_stand : (arcs : List Arc) (c : Current) (cs : List Child) → AreNew cs arcs c → standing_rows false (fresh_rows cs) ≡ seen_rows arcs (branches_of (fresh_rows cs))
fresh_stand arcs c [] h = refl
fresh_stand arcs c (x ∷ xs) h = let rest = fresh_stand arcs c xs h.4 in grind (arith, rest, h.0, h.1)

pub begun_stand : (arcs : List Arc) (c : Current) (bs : List Branch) (cs : List Child) → AreNew cs arcs c → standing_rows false (seen_rows arcs bs ++ fresh_rows cs) ≡ seen_rows arcs (branches_of (seen_rows arcs bs ++ fresh_rows cs))
begun_stand arcs c [] cs h = fresh_stand arcs c cs h
begun_stand arcs c (b ∷ bs) cs h =
    ap (λ (x : Row). x ∷ standing_rows false (seen_rows arcs bs ++ fresh_rows cs)) (row b)
    ∙ ap (λ (xs : List Row). seen_row arcs b ∷ xs) (begun_stand arcs c bs cs h)
  where
    live : (l x : Bool) → ((l && x) && x) ≡ (l && x)
    live true true = refl
    live true false = refl
    live false x = refl

    ends : (v : Bool) → (v && true) ≡ v
    ends true = refl
    ends false = refl

    row : (b : Branch) → standing_row false (seen_row arcs b) ≡ seen_row arcs b
    row b = grind (arith, live, ends)
