-- Words that go up, folded with the ends before them.
use Rattle.std.proofs.Common.{◌≡◌, ◌+◌, ℕ, Bool, true, false, refl, ap, sym, ◌∙◌, arith, List, [], ◌∷◌, ◌++◌, ◌&&◌, ◌||◌, not}
use Rattle.tp_records.specs.declared.dialogue.DialogueRecord.{DialogueRecord}
use Rattle.tp_names.specs.declared.outcome.Outcome.{Outcome}
use Rattle.tp_names.specs.declared.outcome.Report.{Report}
use Rattle.tp_names.specs.Reports.{is_report_none}
use Rattle.tp_steps.specs.Moves.{is_word}
use Rattle.tp_steps.specs.Facts.{is_vote, is_rollback, is_end, ends, ends_in, none_of, only_words, BranchKey}
use Rattle.tp_steps.specs.Upward.{voting, voting_from, each_up, Deeds, holds_at, may_say}
use Rattle.tp_steps.proofs.lemmas.Equality.{and_left, and_right, both_true}

pub up_append : (f : ℕ → Bool → DialogueRecord → Bool) (n : ℕ) (v : Bool) (xs ys : List DialogueRecord) → each_up f n v (xs ++ ys) ≡ (each_up f n v xs && each_up f (ends_in xs + n) (voting_from v xs) ys)
up_append f n v [] ys = let e : 0 + n ≡ n = omega arith in rw e refl
up_append f n v (x ∷ xs) ys = let e : ends_in xs + (ends x + n) ≡ ends x + ends_in xs + n = omega arith in grind (arith, up_append f (ends x + n) (voting v x) xs ys, e)

pub voting_append : (v : Bool) (xs ys : List DialogueRecord) → voting_from v (xs ++ ys) ≡ voting_from (voting_from v xs) ys
voting_append v [] ys = refl
voting_append v (x ∷ xs) ys = voting_append (voting v x) xs ys

pub up_weaker : (f g : ℕ → Bool → DialogueRecord → Bool) → ((n : ℕ) (v : Bool) (r : DialogueRecord) → f n v r ≡ true → g n v r ≡ true) → (n : ℕ) (v : Bool) (xs : List DialogueRecord) → each_up f n v xs ≡ true → each_up g n v xs ≡ true
up_weaker f g w n v [] h = refl
up_weaker f g w n v (x ∷ xs) h = both_true (g n v x) (each_up g (ends x + n) (voting v x) xs) (w n v x (and_left _ _ h)) (up_weaker f g w (ends x + n) (voting v x) xs (and_right _ _ h))

-- ---- words that are no matter upwards

abbrev pub is_upward : DialogueRecord → Bool
is_upward r = is_vote r || is_end r

-- or of which something is told
abbrev pub is_telling : DialogueRecord → Bool
is_telling r = is_upward r || is_rollback r

pub none_telling : (xs : List DialogueRecord) → none_of is_telling xs ≡ true → none_of is_upward xs ≡ true
none_telling [] h = refl
none_telling (x ∷ xs) h =
    let rest = none_telling xs (grind (arith, h)) in
    let quiet : is_upward x ≡ false = grind (arith, h) in
    rw (quiet, rest) refl

quiet_say : (ks : List BranchKey) (g : Deeds) (n : ℕ) (v : Bool) (r : DialogueRecord) → is_telling r ≡ false → may_say ks g n v r ≡ true
quiet_say ks g n v DialogueRecord.Rollback h = absurd cc
quiet_say ks g n v DialogueRecord.Ready h = absurd cc
quiet_say ks g n v (DialogueRecord.Done r) h = absurd cc
quiet_say ks g n v (DialogueRecord.RolledBack r) h = absurd cc
quiet_say ks g n v DialogueRecord.Left h = absurd cc
quiet_say ks g n v DialogueRecord.LeftEnd h = absurd cc
quiet_say ks g n v r h = refl

quiet_voting : (v : Bool) (r : DialogueRecord) → is_upward r ≡ false → voting v r ≡ v
quiet_voting v r h = grind (arith, h)

pub none_up : (ks : List BranchKey) (g : Deeds) (n : ℕ) (v : Bool) (xs : List DialogueRecord) → none_of is_telling xs ≡ true → each_up (may_say ks g) n v xs ≡ true
none_up ks g n v [] h = refl
none_up ks g n v (x ∷ xs) h =
    let quiet : is_telling x ≡ false = grind (arith, h) in
    let rest : none_of is_telling xs ≡ true = grind (arith, h) in
    both_true (may_say ks g n v x) (each_up (may_say ks g) (ends x + n) (voting v x) xs) (quiet_say ks g n v x quiet) (none_up ks g (ends x + n) (voting v x) xs rest)

pub none_voting : (v : Bool) (xs : List DialogueRecord) → none_of is_upward xs ≡ true → voting_from v xs ≡ v
none_voting v [] h = refl
none_voting v (x ∷ xs) h =
    let quiet : is_upward x ≡ false = grind (arith, h) in
    let rest : none_of is_upward xs ≡ true = grind (arith, h) in
    ap (λ (b : Bool). voting_from b xs) (quiet_voting v x quiet) ∙ none_voting v xs rest

-- ---- over all records and over words alone

quiet_word : (r : DialogueRecord) → is_word r ≡ false → is_telling r ≡ false
quiet_word DialogueRecord.Ready h = absurd cc
quiet_word DialogueRecord.Rollback h = absurd cc
quiet_word (DialogueRecord.Done r) h = absurd cc
quiet_word (DialogueRecord.RolledBack r) h = absurd cc
quiet_word DialogueRecord.Left h = absurd cc
quiet_word DialogueRecord.LeftEnd h = absurd cc
quiet_word r h = refl

quiet_ends : (r : DialogueRecord) → is_upward r ≡ false → ends r ≡ 0
quiet_ends r h = grind (arith, h)

pub words_up : (ks : List BranchKey) (g : Deeds) (n : ℕ) (v : Bool) (rs : List DialogueRecord) → each_up (may_say ks g) n v (only_words rs) ≡ true → each_up (may_say ks g) n v rs ≡ true
words_up ks g n v [] h = refl
words_up ks g n v (r ∷ rs) h = go (is_word r) refl (words_up ks g (ends r + n) (voting v r) rs) (words_up ks g n v rs)
  where
    zero_plus : (m : ℕ) → m ≡ 0 → m + n ≡ n
    zero_plus m z = omega (arith, z)

    go : (b : Bool) → is_word r ≡ b → (each_up (may_say ks g) (ends r + n) (voting v r) (only_words rs) ≡ true → each_up (may_say ks g) (ends r + n) (voting v r) rs ≡ true)
        → (each_up (may_say ks g) n v (only_words rs) ≡ true → each_up (may_say ks g) n v rs ≡ true) → each_up (may_say ks g) n v (r ∷ rs) ≡ true
    go true i one two =
        let all : (may_say ks g n v r && each_up (may_say ks g) (ends r + n) (voting v r) (only_words rs)) ≡ true = rw (i, only_words) at h in
        both_true (may_say ks g n v r) (each_up (may_say ks g) (ends r + n) (voting v r) rs) (and_left (may_say ks g n v r) (each_up (may_say ks g) (ends r + n) (voting v r) (only_words rs)) all)
        (one (and_right (may_say ks g n v r) (each_up (may_say ks g) (ends r + n) (voting v r) (only_words rs)) all))
    go false i one two =
        let old : each_up (may_say ks g) n v (only_words rs) ≡ true = rw (i, only_words) at h in
        let q = quiet_word r i in
        let u : is_upward r ≡ false = grind (arith, q) in
        let rest : each_up (may_say ks g) (ends r + n) (voting v r) rs ≡ true = rw (zero_plus (ends r) (quiet_ends r u), quiet_voting v r u) (two old) in
        both_true (may_say ks g n v r) (each_up (may_say ks g) (ends r + n) (voting v r) rs) (quiet_say ks g n v r q) rest

pub words_voting : (v : Bool) (rs : List DialogueRecord) → voting_from v (only_words rs) ≡ voting_from v rs
words_voting v [] = refl
words_voting v (r ∷ rs) = go (is_word r) refl (words_voting (voting v r) rs) (words_voting v rs)
  where
    go : (b : Bool) → is_word r ≡ b → voting_from (voting v r) (only_words rs) ≡ voting_from (voting v r) rs → voting_from v (only_words rs) ≡ voting_from v rs → voting_from v (only_words (r ∷ rs)) ≡ voting_from v (r ∷ rs)
    go true i one two = rw (i, only_words) one
    go false i one two = rw (i, only_words) (two ∙ ap (λ (b : Bool). voting_from b rs) (sym (quiet_voting v r (let q = quiet_word r i in grind (arith, q)))))

-- ---- more keys and more deeds

abbrev pub IsWider : List BranchKey → Deeds → List BranchKey → Deeds → Type 0
IsWider ks g ls k = (n : ℕ) → (holds_at ks n g.committed ≡ true → holds_at ls n k.committed ≡ true) × (holds_at ks n g.rolled ≡ true → holds_at ls n k.rolled ≡ true) × (holds_at ks n g.left ≡ true → holds_at ls n k.left ≡ true) × (holds_at ks n g.completed ≡ true → holds_at ls n k.completed ≡ true) × (holds_at ks n g.damaged ≡ true → holds_at ls n k.damaged ≡ true) × ((u : Outcome) (r : Report) → holds_at ks n (g.told u r) ≡ true → holds_at ls n (k.told u r) ≡ true)

pub still_kept : (b c d : Bool) → (c ≡ true → d ≡ true) → (b || c) ≡ true → (b || d) ≡ true
still_kept true c d f h = refl
still_kept false c d f h = f h

pub say_wider : (ks ls : List BranchKey) (g k : Deeds) → IsWider ks g ls k → (n : ℕ) (v : Bool) (r : DialogueRecord) → may_say ks g n v r ≡ true → may_say ls k n v r ≡ true
say_wider ks ls g k w n v DialogueRecord.Ready h = h
say_wider ks ls g k w n v (DialogueRecord.Done r) h =
    let spoilt : (holds_at ks n g.committed && (not (is_report_none r) || holds_at ks n g.completed) && (is_report_none r || holds_at ks n g.damaged)) ≡ true = and_left (holds_at ks n g.committed && (not (is_report_none r) || holds_at ks n g.completed) && (is_report_none r || holds_at ks n g.damaged)) (holds_at ks n (g.told Outcome.Commit r)) h in
    let told : (holds_at ks n g.committed && (not (is_report_none r) || holds_at ks n g.completed)) ≡ true = and_left (holds_at ks n g.committed && (not (is_report_none r) || holds_at ks n g.completed)) (is_report_none r || holds_at ks n g.damaged) spoilt in
    both_true (holds_at ls n k.committed && (not (is_report_none r) || holds_at ls n k.completed) && (is_report_none r || holds_at ls n k.damaged)) (holds_at ls n (k.told Outcome.Commit r))
    (both_true (holds_at ls n k.committed && (not (is_report_none r) || holds_at ls n k.completed)) (is_report_none r || holds_at ls n k.damaged)
    (both_true (holds_at ls n k.committed) (not (is_report_none r) || holds_at ls n k.completed) ((w n).0 (and_left (holds_at ks n g.committed) (not (is_report_none r) || holds_at ks n g.completed) told))
    (still_kept (not (is_report_none r)) (holds_at ks n g.completed) (holds_at ls n k.completed) (w n).3 (and_right (holds_at ks n g.committed) (not (is_report_none r) || holds_at ks n g.completed) told)))
    (still_kept (is_report_none r) (holds_at ks n g.damaged) (holds_at ls n k.damaged) (w n).4 (and_right (holds_at ks n g.committed && (not (is_report_none r) || holds_at ks n g.completed)) (is_report_none r || holds_at ks n g.damaged) spoilt)))
    ((w n).5 Outcome.Commit r (and_right (holds_at ks n g.committed && (not (is_report_none r) || holds_at ks n g.completed) && (is_report_none r || holds_at ks n g.damaged)) (holds_at ks n (g.told Outcome.Commit r)) h))
say_wider ks ls g k w n v DialogueRecord.Rollback h = (w n).1 h
say_wider ks ls g k w n v (DialogueRecord.RolledBack r) h =
    both_true (holds_at ls n k.rolled) (holds_at ls n (k.told Outcome.Rollback r)) ((w n).1 (and_left (holds_at ks n g.rolled) (holds_at ks n (g.told Outcome.Rollback r)) h))
    ((w n).5 Outcome.Rollback r (and_right (holds_at ks n g.rolled) (holds_at ks n (g.told Outcome.Rollback r)) h))
say_wider ks ls g k w n v DialogueRecord.Left h = both_true (not v) (holds_at ls n k.left) (and_left (not v) (holds_at ks n g.left) h) ((w n).2 (and_right (not v) (holds_at ks n g.left) h))
say_wider ks ls g k w n v DialogueRecord.LeftEnd h = both_true (not v) (holds_at ls n k.left) (and_left (not v) (holds_at ks n g.left) h) ((w n).2 (and_right (not v) (holds_at ks n g.left) h))
say_wider ks ls g k w n v r h = refl
