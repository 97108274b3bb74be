-- The logs of a run: no two of their keys ended apart.
use Rattle.std.proofs.Common.{◌≡◌, ℕ, zero, suc, ◌<◌, Bool, true, false, Option, Some, None, List, [], ◌∷◌, ◌++◌, length, refl, sym, ap, ◌∙◌, subst, arith, append_assoc, ◌⊎◌, inl, inr}
use Rattle.std.specs.Prelude.{◌&&◌, ◌||◌, ◌==◌, reverse, Any, slice_index_or, if◌then◌else◌}
use Rattle.std.specs.List.{AllByRecursion}
use Rattle.std.proofs.lemmas.Bool.Decides.{nat_tests}
use Rattle.std.proofs.lemmas.List.{reverse-append}
use Rattle.std.proofs.Math.Seq.{get_or-append_seam}
use Rattle.tp_names.specs.declared.identifiers.Aaid.{Aaid}
use Rattle.tp_names.specs.declared.identifiers.NodeKey.{NodeKey}
use Rattle.tp_names.specs.declared.outcome.Outcome.{Outcome}
use Rattle.tp_names.specs.Same.{is_name, is_aaid, is_key}
use Rattle.tp_names.proofs.Sames.{both, aaid_same, aaid_self}
use Rattle.tp_logrec.specs.declared.owner.Owner.{Owner}
use Rattle.tp_logrec.specs.declared.record.LogRec.{LogRec}
use Rattle.tp_logrec.specs.Order.{Life, owner, owner_of, is_owner, is_of, with_record, is_commit, is_heuristic}
use Rattle.tp_logrec.specs.Owners.{owner_same, owner_self}
use Rattle.tp_model.specs.Promises.{IsIn, has_record, has_logged}
use Rattle.tp_model.specs.Outcomes.{is_commit_of}
use Rattle.tp_model.specs.NodeRun.{is_record_at, records_at}
use Rattle.tp_model.specs.History.{records}
use Rattle.tp_model.specs.World.{World, Node, Site, find_node, find_site, number_of, site_of}
use Rattle.tp_agreement.specs.Logs.{is_rollback_of, LogsAgree}
use Rattle.tp_laws.specs.SiteLogs.{DisksTell, log_of, forced_by}
use Rattle.tp_audit.specs.declared.verdict.Verdict.{Verdict}
use Rattle.tp_audit.specs.Entries.{SiteLog, Entry, addr_of, tree_of, keys_after, keys_from, keys_of, entries_at, entries}
use Rattle.tp_audit.specs.Verdicts.{is_rollback, outcome_of, settled_of, are_apart, clash, first_clash, verdict_by, verdict}
use Rattle.tp_audit.specs.Runs.{records_on, logs_on, logs_of, AreOn}
use Rattle.tp_audit.proofs.Summed.{has_more}

or_true : (b : Bool) → (b || true) ≡ true
or_true true = refl
or_true false = refl

and_false : (b : Bool) → (b && false) ≡ false
and_false true = refl
and_false false = refl

-- ---- records that pass a test

abbrev pub Stands : List LogRec → LogRec → Type 0
Stands rs r = Any (λ q. q ≡ r) rs

-- one that stands and passes
has_at : (test : LogRec → Bool) (rs : List LogRec) (k : ℕ) (x : LogRec) → k < length rs → slice_index_or rs k x ≡ x → test x ≡ true → has_record test rs ≡ true
has_at test [] k x below is passes = absurd (omega arith)
has_at test (q ∷ rs) zero x below is passes = ap (λ (y : LogRec). test y || has_record test rs) is ∙ ap (λ b. b || has_record test rs) passes
has_at test (q ∷ rs) (suc k) x below is passes = let under : k < length rs = omega arith in ap (λ b. test q || b) (has_at test rs k x under is passes) ∙ or_true (test q)

has_any : (test : LogRec → Bool) (rs : List LogRec) (r : LogRec) → Stands rs r → test r ≡ true → has_record test rs ≡ true
has_any test rs r stands passes = has_at test rs stands.0 stands.1 stands.2 stands.3 (ap test stands.4 ∙ passes)

-- a record that passes the first test passes the second
has_weaker : (p q : LogRec → Bool) (rs : List LogRec) → ((r : LogRec) → p r ≡ true → q r ≡ true) → has_record p rs ≡ true → has_record q rs ≡ true
has_weaker p q [] implies has = absurd cc
has_weaker p q (r ∷ rs) implies has = go (p r) refl has (has_weaker p q rs implies)
  where
    go : (b : Bool) → p r ≡ b → (b || has_record p rs) ≡ true → (has_record p rs ≡ true → has_record q rs ≡ true) → (q r || has_record q rs) ≡ true
    go true i h rest = ap (λ c. c || has_record q rs) (implies r i)
    go false i h rest = ap (λ c. q r || c) (rest h) ∙ or_true (q r)

-- ---- what a key's records have, the log has of that key

abbrev pub IsOfLog : List LogRec → Owner → List LogRec → Type 0
IsOfLog log o rs = (test : LogRec → Bool) → has_record test rs ≡ true → has_record (λ r. test r && is_of o r) log ≡ true

abbrev pub AreOfLog : List LogRec → List Life → Type 0
AreOfLog log ls = AllByRecursion (λ (l : Life). IsOfLog log l.owner l.records) ls

one_more : (log : List LogRec) (o : Owner) (rs : List LogRec) (r : LogRec) → IsOfLog log o rs → Stands log r → is_of o r ≡ true → IsOfLog log o (rs ++ r ∷ [])
one_more log o rs r is stands own test has = go (has_record test rs) (test r) refl refl (sym (has_more test rs r) ∙ has)
  where
    go : (a b : Bool) → has_record test rs ≡ a → test r ≡ b → (has_record test rs || test r) ≡ true → has_record (λ q. test q && is_of o q) log ≡ true
    go true b i j h = is test i
    go false true i j h = has_any (λ q. test q && is_of o q) log r stands (ap (λ t. t && is_of o r) j ∙ own)
    go false false i j h = absurd (let never : false ≡ true = sym (ap (λ t. t || test r) i ∙ j) ∙ h in cc)

with_one : (log : List LogRec) (ls : List Life) (o : Owner) (r : LogRec) → AreOfLog log ls → Stands log r → is_of o r ≡ true → AreOfLog log (with_record ls o r)
with_one log [] o r are stands own = (one_more log o [] r (λ test has. absurd cc) stands own, tt)
with_one log (l ∷ ls) o r are stands own = go (is_owner l.owner o) refl (with_one log ls o r are.1 stands own)
  where
    go : (b : Bool) → is_owner l.owner o ≡ b → AreOfLog log (with_record ls o r)
        → AreOfLog log (elim b as (λ _. List Life) [ true ↦ record l { records = l.records ++ r ∷ [] } ∷ ls | false ↦ l ∷ with_record ls o r ])
    go true i rest = (one_more log l.owner l.records r are.0 stands (subst (λ p. is_of p r ≡ true) (sym (owner_same l.owner o i)) own), are.1)
    go false i rest = (are.0, rest)

own_record : (r : LogRec) (o : Owner) → owner_of r ≡ Some o → is_of o r ≡ true
own_record r o is = ap (λ p. elim p as (λ _. Bool) [ None ↦ false | Some q ↦ is_owner q o ]) is ∙ owner_self o

keys_one : (log : List LogRec) (ls : List Life) (r : LogRec) → AreOfLog log ls → Stands log r → AreOfLog log (keys_after ls r)
keys_one log ls r are stands = go (owner_of r) refl
  where
    go : (p : Option Owner) → owner_of r ≡ p → AreOfLog log (elim p as (λ _. List Life) [ None ↦ ls | Some o ↦ with_record ls o r ])
    go None i = are
    go (Some o) i = with_one log ls o r are stands (own_record r o i)

keys_all : (log : List LogRec) (ls : List Life) (rs : List LogRec) → AreOfLog log ls → AllByRecursion (Stands log) rs → AreOfLog log (keys_from ls rs)
keys_all log ls [] are stand = are
keys_all log ls (r ∷ rs) are stand = keys_all log (keys_after ls r) rs (keys_one log ls r are stand.0) stand.1

-- ---- and so of every entry

abbrev pub IsOn : World → Entry → Type 0
IsOn w e = IsOfLog (records_on w e.site) e.owner e.records

entries_of_site : (w : World) (s : List ℕ) (ls : List Life) (es : List Entry) → AreOfLog (records_on w s) ls → AllByRecursion (IsOn w) es → AllByRecursion (IsOn w) (entries_at s ls ++ es)
entries_of_site w s [] es are rest = rest
entries_of_site w s (l ∷ ls) es are rest = (are.0, entries_of_site w s ls es are.1 rest)

pub entries_stand : (w : World) (logs : List SiteLog) → AreOn w logs → AllByRecursion (IsOn w) (entries logs)
entries_stand w [] on = tt
entries_stand w (l ∷ logs) on = entries_of_site w l.site (keys_of l.records) (entries logs) (keys_all (records_on w l.site) [] l.records tt on.0) (entries_stand w logs on.1)

-- ---- what a log has, a node forced

-- the records of a number
at_number : (p : LogRec → Bool) (n : ℕ) (rs : List LogRec) → ((r : LogRec) → p r ≡ true → is_record_at n r ≡ true) → has_record p rs ≡ true → has_record p (records_at n rs) ≡ true
at_number p n [] there has = has
at_number p n (r ∷ rs) there has = go (p r) (is_record_at n r) refl refl has (at_number p n rs there)
  where
    go : (a b : Bool) → p r ≡ a → is_record_at n r ≡ b → (a || has_record p rs) ≡ true → (has_record p rs ≡ true → has_record p (records_at n rs) ≡ true)
        → has_record p (elim b as (λ _. List LogRec) [ true ↦ r ∷ records_at n rs | false ↦ records_at n rs ]) ≡ true
    go true true i j h rest = ap (λ c. c || has_record p (records_at n rs)) i
    go true false i j h rest = absurd (let never : false ≡ true = sym j ∙ there r i in cc)
    go false true i j h rest = ap (λ c. p r || c) (rest h) ∙ or_true (p r)
    go false false i j h rest = rest h

of_number : (o : Owner) (r : LogRec) → is_of o r ≡ true → is_record_at o.node r ≡ true
of_number o r is = go (owner_of r) is
  where
    go : (p : Option Owner) → elim p as (λ _. Bool) [ None ↦ false | Some q ↦ is_owner q o ] ≡ true → elim p as (λ _. Bool) [ None ↦ false | Some q ↦ q.node == o.node ] ≡ true
    go None i = i
    go (Some q) i = (both (q.node == o.node) (is_key q.key o.key) i).0

in_reverse : (p : LogRec → Bool) (rs : List LogRec) → has_record p (reverse rs) ≡ true → has_record p rs ≡ true
in_reverse p [] has = has
in_reverse p (r ∷ rs) has = go (has_record p (reverse rs)) (p r) refl refl (sym (has_more p (reverse rs) r) ∙ ap (has_record p) (sym (reverse-append (r ∷ []) rs)) ∙ has) (in_reverse p rs)
  where
    go : (a b : Bool) → has_record p (reverse rs) ≡ a → p r ≡ b → (has_record p (reverse rs) || p r) ≡ true → (has_record p (reverse rs) ≡ true → has_record p rs ≡ true) → (p r || has_record p rs) ≡ true
    go a true i j h rest = ap (λ c. c || has_record p rs) j
    go true false i j h rest = ap (λ c. p r || c) (rest i) ∙ or_true (p r)
    go false false i j h rest = absurd (let never : false ≡ true = sym (ap (λ t. t || p r) i ∙ j) ∙ h in cc)

number_found : (ns : List Node) (n : ℕ) (x : Node) → find_node ns n ≡ Some x → number_of x ≡ n
number_found [] n x is = absurd cc
number_found (y ∷ ys) n x is = go (number_of y == n) refl is (number_found ys n x)
  where
    go : (b : Bool) → (number_of y == n) ≡ b → elim b as (λ _. Option Node) [ true ↦ Some y | false ↦ find_node ys n ] ≡ Some x → (find_node ys n ≡ Some x → number_of x ≡ n) → number_of x ≡ n
    go true i j rest = let same : y ≡ x = cc in let at : number_of y ≡ n = grind (arith, nat_tests, i) in ap number_of (sym same) ∙ at
    go false i j rest = rest j

-- a node that forced a record that passes
abbrev pub Forced : World → (LogRec → Bool) → Type 0
Forced w p = (x : Node) × IsIn w x × (has_logged p x ≡ true)

forced_at : (w : World) (s : List ℕ) (n : ℕ) (p : LogRec → Bool) → has_record p (forced_by s (find_node w.nodes n)) ≡ true → Forced w p
forced_at w s n p has = go (find_node w.nodes n) refl has
  where
    if_case : (x : Node) (b : Bool) → has_record p (if b then reverse (records x.origin x.history) else []) ≡ true → has_record p (reverse (records x.origin x.history)) ≡ true
    if_case x true h = h
    if_case x false h = absurd cc

    go : (f : Option Node) → find_node w.nodes n ≡ f → has_record p (forced_by s f) ≡ true → Forced w p
    go None i h = absurd cc
    go (Some x) i h = (x, ap (find_node w.nodes) (number_found w.nodes n x i) ∙ i, in_reverse p (records x.origin x.history) (if_case x (is_name (site_of x) s) h))

forced_of : (w : World) (s : List ℕ) (o : Owner) (test : LogRec → Bool) → DisksTell w → has_record (λ r. test r && is_of o r) (records_on w s) ≡ true → Forced w (λ r. test r && is_of o r)
forced_of w s o test tell has = go (find_site w.sites s) refl has
  where
    p : LogRec → Bool
    p r = test r && is_of o r

    go : (f : Option Site) → find_site w.sites s ≡ f → has_record (λ r. test r && is_of o r) (elim f as (λ _. List LogRec) [ None ↦ [] | Some x ↦ log_of x ]) ≡ true → Forced w (λ r. test r && is_of o r)
    go None i h = absurd cc
    go (Some x) i h =
        forced_at w x.name o.node (λ r. test r && is_of o r)
        (ap (has_record (λ r. test r && is_of o r)) (sym ((tell s x i).nodes o.node)) ∙ at_number (λ r. test r && is_of o r) o.node (log_of x) (λ r pass. of_number o r (both (test r) (is_of o r) pass).1) h)

-- ---- no two keys of a run ended apart

key_of_owner : (n : ℕ) (k : NodeKey) (o : Owner) → is_owner (owner n k) o ≡ true → is_aaid o.key.aaid k.aaid ≡ true
key_of_owner n k o is = subst (λ (q : Owner). is_aaid q.key.aaid k.aaid ≡ true) (owner_same (owner n k) o is) (aaid_self k.aaid)

commit_of : (o : Owner) (r : LogRec) → (is_commit r && is_of o r) ≡ true → is_commit_of o.key.aaid r ≡ true
commit_of o (LogRec.Boot n) is = absurd cc
commit_of o (LogRec.Ready n k a cs) is = absurd cc
commit_of o (LogRec.Heuristic n k u) is = absurd cc
commit_of o (LogRec.Commit n k a cs) is = key_of_owner n k o is
commit_of o (LogRec.Damage n k a u q cs) is = absurd cc
commit_of o (LogRec.End n k u) is = absurd cc

rollback_of : (o : Owner) (r : LogRec) → (is_rollback r && is_of o r) ≡ true → is_rollback_of o.key.aaid r ≡ true
rollback_of o (LogRec.Boot n) is = absurd cc
rollback_of o (LogRec.Ready n k a cs) is = absurd cc
rollback_of o (LogRec.Heuristic n k u) is = absurd cc
rollback_of o (LogRec.Commit n k a cs) is = absurd cc
rollback_of o (LogRec.Damage n k a Outcome.Commit q cs) is = absurd cc
rollback_of o (LogRec.Damage n k a Outcome.Rollback q cs) is = key_of_owner n k o is
rollback_of o (LogRec.End n k Outcome.Commit) is = absurd cc
rollback_of o (LogRec.End n k Outcome.Rollback) is = key_of_owner n k o is

-- what an entry says of its end, a node of the world logged
outcome_commits : (rs : List LogRec) → outcome_of rs ≡ Some Outcome.Commit → has_record is_commit rs ≡ true
outcome_commits rs is = go (has_record is_commit rs) (has_record is_rollback rs) is
  where
    go : (a b : Bool) → elim a as (λ _. Option Outcome) [ true ↦ Some Outcome.Commit | false ↦ elim b as (λ _. Option Outcome) [ true ↦ Some Outcome.Rollback | false ↦ None ] ] ≡ Some Outcome.Commit → a ≡ true
    go true b i = refl
    go false true i = absurd cc
    go false false i = absurd cc

outcome_rolls : (rs : List LogRec) → outcome_of rs ≡ Some Outcome.Rollback → has_record is_rollback rs ≡ true
outcome_rolls rs is = go (has_record is_commit rs) (has_record is_rollback rs) is
  where
    go : (a b : Bool) → elim a as (λ _. Option Outcome) [ true ↦ Some Outcome.Commit | false ↦ elim b as (λ _. Option Outcome) [ true ↦ Some Outcome.Rollback | false ↦ None ] ] ≡ Some Outcome.Rollback → b ≡ true
    go true b i = absurd cc
    go false true i = refl
    go false false i = absurd cc

weaker_forced : (w : World) (p q : LogRec → Bool) → ((r : LogRec) → p r ≡ true → q r ≡ true) → Forced w p → Forced w q
weaker_forced w p q implies f = (f.0, f.1, has_weaker p q (records f.0.origin f.0.history) implies f.2)

pub commits_logged : (w : World) (e : Entry) → DisksTell w → IsOn w e → outcome_of e.records ≡ Some Outcome.Commit → Forced w (is_commit_of (tree_of e))
commits_logged w e tell on is =
    weaker_forced w (λ r. is_commit r && is_of e.owner r) (is_commit_of (tree_of e)) (commit_of e.owner) (forced_of w e.site e.owner is_commit tell (on is_commit (outcome_commits e.records is)))

rolls_logged : (w : World) (e : Entry) → DisksTell w → IsOn w e → outcome_of e.records ≡ Some Outcome.Rollback → Forced w (is_rollback_of (tree_of e))
rolls_logged w e tell on is =
    weaker_forced w (λ r. is_rollback r && is_of e.owner r) (is_rollback_of (tree_of e)) (rollback_of e.owner) (forced_of w e.site e.owner is_rollback tell (on is_rollback (outcome_rolls e.records is)))

never_apart : (w : World) (t : Aaid) → LogsAgree w → Forced w (is_commit_of t) → Forced w (is_rollback_of t) → ⊥
never_apart w t agree f g = agree t f.0 g.0 f.1 g.1 f.2 g.2

no_clash : (w : World) (a b : Entry) → LogsAgree w → DisksTell w → IsOn w a → IsOn w b → clash outcome_of a b ≡ false
no_clash w a b agree tell on_a on_b = go (is_aaid (tree_of a) (tree_of b)) (outcome_of a.records) (outcome_of b.records) refl refl refl
  where
    go : (s : Bool) (p q : Option Outcome) → is_aaid (tree_of a) (tree_of b) ≡ s → outcome_of a.records ≡ p → outcome_of b.records ≡ q → (s && are_apart p q) ≡ false
    go false p q i j k = refl
    go true None q i j k = refl
    go true (Some o) None i j k = refl
    go true (Some Outcome.Commit) (Some Outcome.Commit) i j k = refl
    go true (Some Outcome.Rollback) (Some Outcome.Rollback) i j k = refl
    go true (Some Outcome.Commit) (Some Outcome.Rollback) i j k =
        absurd (never_apart w (tree_of b) agree (subst (λ t. Forced w (is_commit_of t)) (aaid_same (tree_of a) (tree_of b) i) (commits_logged w a tell on_a j)) (rolls_logged w b tell on_b k))
    go true (Some Outcome.Rollback) (Some Outcome.Commit) i j k =
        absurd (never_apart w (tree_of b) agree (commits_logged w b tell on_b k) (subst (λ t. Forced w (is_rollback_of t)) (aaid_same (tree_of a) (tree_of b) i) (rolls_logged w a tell on_a j)))

-- a reading that says less
abbrev pub SaysLess : (List LogRec → Option Outcome) → Type 0
SaysLess read = (rs : List LogRec) → (read rs ≡ None) ⊎ (read rs ≡ outcome_of rs)

still_no_clash : (read : List LogRec → Option Outcome) (a b : Entry) → SaysLess read → clash outcome_of a b ≡ false → clash read a b ≡ false
still_no_clash read a b less none = go (less a.records) (less b.records)
  where
    silent : (p : Option Outcome) → are_apart p None ≡ false
    silent None = refl
    silent (Some o) = refl

    go : (read a.records ≡ None) ⊎ (read a.records ≡ outcome_of a.records) → (read b.records ≡ None) ⊎ (read b.records ≡ outcome_of b.records) → clash read a b ≡ false
    go (inl i) j = ap (λ p. is_aaid (tree_of a) (tree_of b) && are_apart p (read b.records)) i ∙ and_false (is_aaid (tree_of a) (tree_of b))
    go (inr i) (inl j) = ap (λ q. is_aaid (tree_of a) (tree_of b) && are_apart (read a.records) q) j ∙ ap (λ c. is_aaid (tree_of a) (tree_of b) && c) (silent (read a.records)) ∙ and_false (is_aaid (tree_of a) (tree_of b))
    go (inr i) (inr j) = ap (λ p. is_aaid (tree_of a) (tree_of b) && are_apart p (read b.records)) i ∙ ap (λ q. is_aaid (tree_of a) (tree_of b) && are_apart (outcome_of a.records) q) j ∙ none

none_first : (w : World) (read : List LogRec → Option Outcome) (a : Entry) (es : List Entry) → LogsAgree w → DisksTell w → SaysLess read → IsOn w a → AllByRecursion (IsOn w) es → first_clash read a es ≡ None
none_first w read a [] agree tell less on_a on = refl
none_first w read a (b ∷ bs) agree tell less on_a on = go (clash read a b) (still_no_clash read a b less (no_clash w a b agree tell on_a on.0)) (none_first w read a bs agree tell less on_a on.1)
  where
    go : (c : Bool) → c ≡ false → first_clash read a bs ≡ None → elim c as (λ _. Option Entry) [ true ↦ Some b | false ↦ first_clash read a bs ] ≡ None
    go true i rest = absurd cc
    go false i rest = rest

all_yes : (w : World) (read : List LogRec → Option Outcome) (es : List Entry) → LogsAgree w → DisksTell w → SaysLess read → AllByRecursion (IsOn w) es → verdict_by read es ≡ Verdict.Yes
all_yes w read [] agree tell less on = refl
all_yes w read (a ∷ es) agree tell less on =
    ap (λ f. elim f as (λ _. Verdict) [ Some b ↦ Verdict.Differ (tree_of a) (addr_of a) (addr_of b) | None ↦ verdict_by read es ]) (none_first w read a es agree tell less on.0 on.1)
    ∙ all_yes w read es agree tell less on.1

settled_less : SaysLess settled_of
settled_less rs = go (has_record is_heuristic rs)
  where
    go : (b : Bool) → (elim b as (λ _. Option Outcome) [ true ↦ None | false ↦ outcome_of rs ] ≡ None) ⊎ (elim b as (λ _. Option Outcome) [ true ↦ None | false ↦ outcome_of rs ] ≡ outcome_of rs)
    go true = inl refl
    go false = inr refl

pub outcomes_agree : (w : World) (logs : List SiteLog) → LogsAgree w → DisksTell w → AreOn w logs → verdict_by outcome_of (entries logs) ≡ Verdict.Yes
outcomes_agree w logs agree tell on = all_yes w outcome_of (entries logs) agree tell (λ rs. inr refl) (entries_stand w logs on)

pub verdict_yes : (w : World) (logs : List SiteLog) → LogsAgree w → DisksTell w → AreOn w logs → verdict logs ≡ Verdict.Yes
verdict_yes w logs agree tell on = all_yes w settled_of (entries logs) agree tell settled_less (entries_stand w logs on)

-- ---- the whole logs

pub stand_behind : (front rs : List LogRec) → AllByRecursion (Stands (front ++ rs)) rs
stand_behind front [] = tt
stand_behind front (r ∷ rs) =
    ((length front, r, within front, get_or-append_seam front r rs r, refl), subst (λ all. AllByRecursion (Stands all) rs) (append_assoc front (r ∷ []) rs) (stand_behind (front ++ r ∷ []) rs))
  where
    within : (xs : List LogRec) → length xs < length (xs ++ r ∷ rs)
    within [] = omega arith
    within (x ∷ xs) = omega (arith, within xs)

logs_stand : (w : World) (xs : List Site) → AreOn w (logs_on w xs)
logs_stand w [] = tt
logs_stand w (x ∷ xs) = (stand_behind [] (records_on w x.name), logs_stand w xs)

pub all_stand : (w : World) → AreOn w (logs_of w)
all_stand w = logs_stand w w.sites
