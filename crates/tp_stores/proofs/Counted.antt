-- A store counts a branch among the committed where its node was told to commit it, and no other.
use Rattle.std.proofs.Common.{◌≡◌, ◌⊎◌, ◌&&◌, Bool, true, false, refl, ap, sym, ◌∙◌, Option, Some, None, List, [], ◌∷◌, inl, inr}
use Rattle.tp_names.specs.declared.identifiers.Aaid.{Aaid}
use Rattle.tp_names.specs.declared.identifiers.Addr.{Addr}
use Rattle.tp_names.specs.Same.{is_aaid}
use Rattle.tp_records.specs.declared.indication.Indication.{Indication}
use Rattle.tp_model.specs.Parts.{Origin, Entry, Out, Tell, Send, Digest}
use Rattle.tp_model.specs.Transactions.{aaid_of}
use Rattle.tp_model.specs.History.{digest}
use Rattle.tp_model.specs.Outcomes.{is_now, root_of}
use Rattle.tp_model.specs.World.{number_of}
use Rattle.tp_model.specs.Happenings.{Happening, run}
use Rattle.tp_model.specs.Promises.{has_told_in}
use Rattle.tp_model.specs.Legal.{IsGrown}
use Rattle.tp_steps.specs.Passages.{is_commit_told}
use Rattle.tp_steps.specs.Trees.{out_tells}
use Rattle.tp_steps.proofs.lemmas.Equality.{or_case, and_left, and_right}
use Rattle.tp_histories.specs.Worlds.{IsGood}
use Rattle.tp_histories.proofs.worlds.Good.{good_run}
use Rattle.tp_encodable.specs.Begins.{is_begin_told}
use Rattle.tp_bound.specs.Kept.{Heard, Told, Reopened}
use Rattle.tp_bound.specs.Branches.{Branch, written, is_told_commit, with_branch, committed}
use Rattle.tp_stores.specs.Stores.{told_in, all_told, heard_of, is_none, only_under, is_among, has_committed}
use Rattle.tp_stores.specs.Served.{tells_to_commit, CountsCommits}
use Rattle.tp_stores.proofs.Hearing.{last_begun, is_of, hears, is_commit, or_first, or_over, hears_append, committed_heard}
use Rattle.tp_stores.proofs.Telling.{some, some_told, some_weaker}
use Rattle.tp_stores.proofs.Begun.{begun_law}
use Rattle.tp_stores.proofs.Agree.{none_is, commit_weaker, now_commit, IsOutcome, heard_told}
use Rattle.tp_stores.proofs.Whole.{all_heard}
use Rattle.tp_stores.proofs.Served.{none_begins}

-- ---- a list of indications

-- of what is heard of a branch: it is counted, or it goes on with what was heard before
pub heard_committed : (t : Aaid) (c : Option Aaid) (hs : List Heard) → hears is_commit t c (heard_of hs) ≡ true → (has_committed t hs ≡ true) ⊎ ((is_of t c ≡ true) × (is_told_commit hs ≡ true))
heard_committed t c [] h = absurd (cc (h))
heard_committed t c (Told (Indication.BeginTransaction p a) answer ∷ hs) h = inl (go (heard_committed t (Some a) hs h))
  where
    among : (b : Bool) (x : Branch) (bs : List Branch) → is_among t bs ≡ true → is_among t (with_branch b x bs) ≡ true
    among true x bs i = or_over (is_aaid t x.aaid) (is_among t bs) i
    among false x bs i = i

    first : (b : Bool) (x : Branch) (bs : List Branch) → b ≡ true → is_aaid t x.aaid ≡ true → is_among t (with_branch b x bs) ≡ true
    first true x bs i j = or_first (is_aaid t x.aaid) (is_among t bs) j
    first false x bs i j = absurd (cc (i))

    go : (has_committed t hs ≡ true) ⊎ ((is_aaid t a ≡ true) × (is_told_commit hs ≡ true)) → is_among t (with_branch (is_told_commit hs) (record { aaid = a; writes = written hs }) (committed hs)) ≡ true
    go (inl i) = among (is_told_commit hs) (record { aaid = a; writes = written hs }) (committed hs) i
    go (inr i) = first (is_told_commit hs) (record { aaid = a; writes = written hs }) (committed hs) i.1 i.0
heard_committed t c (Told Indication.Commit answer ∷ hs) h =
    elim (or_case (is_of t c) (hears is_commit t c (heard_of hs)) h) [
      | inl i ↦ inr (i, refl)
      | inr i ↦ on (heard_committed t c hs i)
    ]
  where
    on : (has_committed t hs ≡ true) ⊎ ((is_of t c ≡ true) × (is_told_commit hs ≡ true)) → (has_committed t hs ≡ true) ⊎ ((is_of t c ≡ true) × (true ≡ true))
    on (inl i) = inl i
    on (inr i) = inr (i.0, refl)
heard_committed t c (Told i answer ∷ hs) h = heard_committed t c hs h
heard_committed t c (Reopened ∷ hs) h = heard_committed t c hs h

all_committed : (t : Aaid) (hs : List Heard) → hears is_commit t None (heard_of hs) ≡ true → has_committed t hs ≡ true
all_committed t hs h = go (heard_committed t None hs h)
  where
    go : (has_committed t hs ≡ true) ⊎ ((false ≡ true) × (is_told_commit hs ≡ true)) → has_committed t hs ≡ true
    go (inl i) = i
    go (inr i) = absurd (let no = i.0 in cc (no))

-- what is told where no branch begins is of the branch that began last
some_hears : (f : Indication → Bool) (t : Aaid) (c : Option Aaid) (is : List Indication) → some f is ≡ true → is_of t c ≡ true → some is_begin_told is ≡ false → hears f t c is ≡ true
some_hears f t c [] h of q = absurd (cc (h))
some_hears f t c (Indication.BeginTransaction p u ∷ is) h of q = absurd (cc (q))
some_hears f t c (i ∷ is) h of q =
    elim (or_case (f i) (some f is) h) [
      | inl k ↦ (let both : (f i && is_of t c) ≡ true = rw (k, of) refl in or_first (f i && is_of t c) (hears f t c is) both)
      | inr k ↦ or_over (f i && is_of t c) (hears f t c is) (some_hears f t c is k of q)
    ]

-- ---- a history

tells_so : (outs : List Out) → tells_to_commit outs ≡ out_tells is_commit outs
tells_so [] = refl
tells_so (Tell Indication.Commit ∷ outs) = refl
tells_so (Tell i ∷ outs) = tells_so outs
tells_so (Send a r ∷ outs) = tells_so outs

told_weaker : (outs : List Out) → out_tells is_commit outs ≡ true → out_tells is_commit_told outs ≡ true
told_weaker outs h = sym (some_told is_commit_told outs) ∙ some_weaker is_commit is_commit_told commit_weaker (told_in outs) (some_told is_commit outs ∙ h)

ordering : IsOutcome is_commit is_commit tells_to_commit
ordering = record { weaker = λ i h. h; tells_so = λ outs h. tells_so outs ∙ h; now = λ o up e h t legal told. now_commit o up e h t legal (told_weaker e.outs told) }

told_heard : (o : Origin) (up : Option Addr) (h : List Entry) (t : Aaid) → o.start.records ≡ [] → IsGrown o up h → only_under o h ≡ true → has_told_in tells_to_commit o t h ≡ true → hears is_commit t None (all_told h) ≡ true
told_heard o up [] t empty legal only told = absurd (cc (told))
told_heard o up (e ∷ h) t empty legal only told =
    hears_append is_commit t None before own
    ∙ elim (or_case (is_now t d.current && tells_to_commit e.outs) (has_told_in tells_to_commit o t h) told) [
      | inl i ↦ or_over (hears is_commit t None before) (hears is_commit t last own) (new (and_left (is_now t d.current) (tells_to_commit e.outs) i) (and_right (is_now t d.current) (tells_to_commit e.outs) i))
      | inr i ↦ or_first (hears is_commit t None before) (hears is_commit t last own) (told_heard o up h t empty legal.3 (and_right (is_none (root_of d.current)) (only_under o h) only) i)
    ]
  where
    d : Digest
    d = digest o h

    before : List Indication
    before = all_told h

    own : List Indication
    own = told_in e.outs

    last : Option Aaid
    last = last_begun None before

    new : is_now t d.current ≡ true → tells_to_commit e.outs ≡ true → hears is_commit t last own ≡ true
    new at tells =
        let out : out_tells is_commit e.outs ≡ true = sym (tells_so e.outs) ∙ tells in
        let c = now_commit o up e h t legal (told_weaker e.outs out) in
        let under : root_of (Some c.0) ≡ None = ap root_of (sym c.1) ∙ none_is (root_of d.current) (and_left (is_none (root_of d.current)) (only_under o h) only) in
        let begun : last ≡ Some (aaid_of c.0.key) = begun_law o up h false before c.0 empty legal.3 (all_heard false h before refl) c.1 under (λ no. absurd (cc (no))) in
        let of_tree : is_of t last ≡ true = ap (is_of t) begun ∙ ap (is_now t) (sym c.1) ∙ at in
        some_hears is_commit t last own (some_told is_commit e.outs ∙ out) of_tree (some_told is_begin_told e.outs ∙ none_begins o up e h c.0 legal c.1)

-- ---- every run

pub counts_commits : (es : List Happening) → CountsCommits (run es)
counts_commits es = record {
  counted_is_told = λ t x hs here alone heard counted.
      heard_told is_commit is_commit tells_to_commit ordering x.origin x.superior x.history t false (heard_of hs) (good.fresh (number_of x) x here) (good.legal (number_of x) x here) alone heard (committed_heard t None hs counted);
  told_is_counted = λ t x hs here alone all told.
      all_committed t hs (ap (hears is_commit t None) all ∙ told_heard x.origin x.superior x.history t (good.fresh (number_of x) x here) (good.legal (number_of x) x here) alone told);
}
  where
    good : IsGood (run es).nodes (run es).frames
    good = good_run es
