-- What is kept of the records of a key, and of all keys of a log, with one record more.
use Rattle.std.proofs.Common.{◌≡◌, ℕ, ◌+◌, ◌<◌, Bool, true, false, cond, Option, Some, None, List, [], ◌∷◌, ◌++◌, length, take, get_or, refl, sym, ap, ◌∙◌}
use Rattle.std.specs.Prelude.{◌||◌}
use Rattle.std.specs.Map.{lookup, set_value}
use Rattle.std.proofs.lemmas.List.{take_more}
use Rattle.indexmap.specs.IndexMap.{insert_entry}
use Rattle.tp_names.specs.declared.identifiers.Addr.{Addr}
use Rattle.tp_logrec.specs.declared.owner.Owner.{Owner}
use Rattle.tp_logrec.specs.declared.record.LogRec.{LogRec}
use Rattle.tp_logrec.specs.Order.{Life, owner_of, is_commit, is_heuristic, is_owner, with_record, last_or, holds}
use Rattle.tp_logrec.specs.Owners.{owner_either}
use Rattle.tp_model.specs.Promises.{has_record}
use Rattle.tp_audit.specs.declared.summary.Summary.{Summary}
use Rattle.tp_audit.specs.Entries.{keys_after, keys_from}
use Rattle.tp_audit.specs.Verdicts.{is_rollback}
use Rattle.tp_audit.specs.Doubts.{is_doubtful, superior_by, superior_from}
use Rattle.tp_audit.specs.Summaries.{summary_of, summary_by, summaries}

-- ---- one key

or_assoc : (a b c : Bool) → (a || (b || c)) ≡ ((a || b) || c)
or_assoc true b c = refl
or_assoc false b c = refl

or_none : (a : Bool) → (a || false) ≡ a
or_none true = refl
or_none false = refl

pub has_more : (test : LogRec → Bool) (rs : List LogRec) (r : LogRec) → has_record test (rs ++ r ∷ []) ≡ (has_record test rs || test r)
has_more test [] r = or_none (test r)
has_more test (q ∷ qs) r = ap (λ b. test q || b) (has_more test qs r) ∙ or_assoc (test q) (has_record test qs) (test r)

last_more : (before : Option LogRec) (rs : List LogRec) (r : LogRec) → last_or before (rs ++ r ∷ []) ≡ Some r
last_more before [] r = refl
last_more before (q ∷ qs) r = last_more (Some q) qs r

superior_more : (a : Option Addr) (rs : List LogRec) (r : LogRec) → superior_from a (rs ++ r ∷ []) ≡ superior_by (superior_from a rs) r
superior_more a [] r = refl
superior_more a (q ∷ qs) r = superior_more (superior_by a q) qs r

pub summary_more : (rs : List LogRec) (r : LogRec) → summary_of (rs ++ r ∷ []) ≡ summary_by (summary_of rs) r
summary_more rs r = (λ i. record {
  committed = has_more is_commit rs r i;
  rolled_back = has_more is_rollback rs r i;
  decided = has_more is_heuristic rs r i;
  doubtful = holds (last_more None rs r i) is_doubtful;
  superior = superior_more None rs r i;
})

-- ---- all keys

-- a key that is there, and one that is new
pub summaries_set : (ls : List Life) (o : Owner) (r : LogRec) (s : Summary) → lookup (is_owner o) (summaries ls) ≡ Some s
    → set_value (is_owner o) (summaries ls) (summary_by s r) ≡ summaries (with_record ls o r)
summaries_set [] o r s is = absurd cc
summaries_set (l ∷ ls) o r s is = go (is_owner o l.owner) (is_owner l.owner o) (owner_either l.owner o) is (summaries_set ls o r s)
  where
    go : (b c : Bool) → c ≡ b → cond b (Some (summary_of l.records)) (lookup (is_owner o) (summaries ls)) ≡ Some s
        → (lookup (is_owner o) (summaries ls) ≡ Some s → set_value (is_owner o) (summaries ls) (summary_by s r) ≡ summaries (with_record ls o r))
        → cond b ((l.owner, summary_by s r) ∷ summaries ls) ((l.owner, summary_of l.records) ∷ set_value (is_owner o) (summaries ls) (summary_by s r))
        ≡ summaries (elim c as (λ _. List Life) [ true ↦ record l { records = l.records ++ r ∷ [] } ∷ ls | false ↦ l ∷ with_record ls o r ])
    go true true e f rest =
        let same : summary_of l.records ≡ s = cc in
        ap (λ t. let p : Owner × Summary = (l.owner, t) in p ∷ summaries ls) (ap (λ t. summary_by t r) (sym same) ∙ sym (summary_more l.records r))
    go true false e f rest = absurd cc
    go false true e f rest = absurd cc
    go false false e f rest = ap (λ ps. let p : Owner × Summary = (l.owner, summary_of l.records) in p ∷ ps) (rest f)

pub summaries_put : (ls : List Life) (o : Owner) (r : LogRec) → lookup (is_owner o) (summaries ls) ≡ None
    → insert_entry is_owner (summaries ls) o (summary_by (summary_of []) r) ≡ summaries (with_record ls o r)
summaries_put [] o r is = ap (λ t. let p : Owner × Summary = (o, t) in p ∷ []) (sym (summary_more [] r))
summaries_put (l ∷ ls) o r is = go (is_owner o l.owner) (is_owner l.owner o) (owner_either l.owner o) is (summaries_put ls o r)
  where
    go : (b c : Bool) → c ≡ b → cond b (Some (summary_of l.records)) (lookup (is_owner o) (summaries ls)) ≡ None
        → (lookup (is_owner o) (summaries ls) ≡ None → insert_entry is_owner (summaries ls) o (summary_by (summary_of []) r) ≡ summaries (with_record ls o r))
        → cond b ((l.owner, summary_by (summary_of []) r) ∷ summaries ls) ((l.owner, summary_of l.records) ∷ insert_entry is_owner (summaries ls) o (summary_by (summary_of []) r))
        ≡ summaries (elim c as (λ _. List Life) [ true ↦ record l { records = l.records ++ r ∷ [] } ∷ ls | false ↦ l ∷ with_record ls o r ])
    go true c e f rest = absurd cc
    go false true e f rest = absurd cc
    go false false e f rest = ap (λ ps. let p : Owner × Summary = (l.owner, summary_of l.records) in p ∷ ps) (rest f)

-- ---- the keys of a log

pub keys_more : (ls : List Life) (rs : List LogRec) (r : LogRec) → keys_from ls (rs ++ r ∷ []) ≡ keys_after (keys_from ls rs) r
keys_more ls [] r = refl
keys_more ls (q ∷ qs) r = keys_more (keys_after ls q) qs r

pub keys_next : (rs : List LogRec) (i : ℕ) (r : LogRec) → i < length rs → r ≡ get_or rs i r → keys_from [] (take (i + 1) rs) ≡ keys_after (keys_from [] (take i rs)) r
keys_next rs i r below is = ap (keys_from []) (take_more rs i r below) ∙ keys_more [] (take i rs) (get_or rs i r) ∙ ap (keys_after (keys_from [] (take i rs))) (sym is)

-- what a record makes of the keys: it speaks of none, of one that is there, of a new one
pub none_next : (ls : List Life) (r : LogRec) → owner_of r ≡ None → keys_after ls r ≡ ls
none_next ls r none = ap (λ o. elim o as (λ _. List Life) [ None ↦ ls | Some p ↦ with_record ls p r ]) none

pub some_next : (ls : List Life) (r : LogRec) (o : Owner) → owner_of r ≡ Some o → keys_after ls r ≡ with_record ls o r
some_next ls r o some = ap (λ o. elim o as (λ _. List Life) [ None ↦ ls | Some p ↦ with_record ls p r ]) some
