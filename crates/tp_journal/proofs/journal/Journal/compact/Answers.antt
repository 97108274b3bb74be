use Rattle.std.proofs.Common.{◌≡◌, ℕ, List, Some, ◌++◌, [], ◌∷◌, sym, ap, ◌∙◌, subst}
use Rattle.std.specs.List.{AllByRecursion}
use Rattle.tp_logrec.specs.Order.{brief}
use Rattle.tp_journal.specs.Log.{blocks, head}
use Rattle.tp_journal.specs.Records.{HasText, bodies_of, log_bytes, wide_of, recs_of}
use Rattle.tp_journal.specs.Journals.{Kept, kept_of, Becomes}
use Rattle.tp_journal.specs.Told.{IsOn}
use Rattle.tp_journal.proofs.Briefs.{each-brief}
use Rattle.tp_journal.proofs.Compacting.{still_now, text_is, records_are, becomes}
use Rattle.tp_journal.proofs.journal.Journal.compact.Goals as goal

pub returns-in_err-short-clause-moments : goal.returns-in_err-short-clause-moments
returns-in_err-short-clause-moments g c open_now s is =
    still_now g.D.Disk.told c.self.inside.log c.args.self.now _ c.shut.result c.self.view_is c.self.invariant c.shut.ensures.started (c.shut.ensures.is ∙ ap (λ (v : Kept _). v.shut) c.self.view_is ∙ open_now) s is

pub returns-in_err-records-clause-moments : goal.returns-in_err-records-clause-moments
returns-in_err-records-clause-moments g c open_now s is =
    still_now g.D.Disk.told c.self.inside.log c.args.self.now _ c.shut.result c.self.view_is c.self.invariant c.shut.ensures.started (c.shut.ensures.is ∙ ap (λ (v : Kept _). v.shut) c.self.view_is ∙ open_now) s is

pub generation-requires : goal.generation-requires
generation-requires g c =
    let shelf = c.self.inside.log.shelf in
    let version : c.wide.result ≡ wide_of shelf = c.wide.ensures ∙ ap wide_of c.shelf-shelf.ensures in
    let list : c.list.result.now ≡ recs_of shelf = c.list.ensures.is ∙ ap recs_of c.shelf-shelf.ensures in
    let short : c.as_slice.result.now ≡ brief (recs_of shelf) = c.as_slice.ensures.value ∙ (c.in_ok-short.ensures {u = tt}) ∙ ap brief list in
    subst (λ w. AllByRecursion (HasText w) c.as_slice.result.now) (sym version)
    (subst (AllByRecursion (HasText (wide_of shelf))) (sym short) (each-brief (HasText (wide_of shelf)) (recs_of shelf) c.self.invariant.each))

pub replace-requires-clause-text : goal.replace-requires-clause-text
replace-requires-clause-text g c =
    let shelf = c.self.inside.log.shelf in
    let version : c.wide.result ≡ wide_of shelf = c.wide.ensures ∙ ap wide_of c.shelf-shelf.ensures in
    let list : c.list.result.now ≡ recs_of shelf = c.list.ensures.is ∙ ap recs_of c.shelf-shelf.ensures in
    let short : c.as_slice.result.now ≡ brief (recs_of shelf) = c.as_slice.ensures.value ∙ (c.in_ok-short.ensures {u = tt}) ∙ ap brief list in
    let each : AllByRecursion (HasText (wide_of shelf)) (brief (recs_of shelf)) = each-brief (HasText (wide_of shelf)) (recs_of shelf) c.self.invariant.each in
    let bodies : bodies_of c.wide.result c.as_slice.result.now ≡ bodies_of (wide_of shelf) (brief (recs_of shelf)) = ap (λ w. bodies_of w c.as_slice.result.now) version ∙ ap (λ l. bodies_of (wide_of shelf) l) short in
    let made : c.in_ok-records.records ≡ bodies_of (wide_of shelf) (brief (recs_of shelf)) = (c.in_ok-records.ensures {u = tt}).bodies ∙ bodies in
    let text : c.as_slice-2.result.now ≡ blocks (bodies_of (wide_of shelf) (brief (recs_of shelf))) ++ 0 ∷ [] = c.as_slice-2.ensures.value ∙ (c.in_ok-records.ensures {u = tt}).text ∙ ap (λ b. blocks b ++ 0 ∷ []) bodies in
    text_is (wide_of shelf) (brief (recs_of shelf)) each c.in_ok-records.records made c.as_slice-2.result.now text

pub invariant_of-self-2 : goal.invariant_of-self-2
invariant_of-self-2 g c =
    let shelf = c.self.inside.log.shelf in
    let version : c.wide.result ≡ wide_of shelf = c.wide.ensures ∙ ap wide_of c.shelf-shelf.ensures in
    let list : c.list.result.now ≡ recs_of shelf = c.list.ensures.is ∙ ap recs_of c.shelf-shelf.ensures in
    let short : c.as_slice.result.now ≡ brief (recs_of shelf) = c.as_slice.ensures.value ∙ (c.in_ok-short.ensures {u = tt}) ∙ ap brief list in
    let each : AllByRecursion (HasText (wide_of shelf)) (brief (recs_of shelf)) = each-brief (HasText (wide_of shelf)) (recs_of shelf) c.self.invariant.each in
    let bodies : bodies_of c.wide.result c.as_slice.result.now ≡ bodies_of (wide_of shelf) (brief (recs_of shelf)) = ap (λ w. bodies_of w c.as_slice.result.now) version ∙ ap (λ l. bodies_of (wide_of shelf) l) short in
    let made : c.in_ok-records.records ≡ bodies_of (wide_of shelf) (brief (recs_of shelf)) = (c.in_ok-records.ensures {u = tt}).bodies ∙ bodies in
    records_are (wide_of shelf) (brief (recs_of shelf)) each c.in_ok-records.records made c.replace.new.self.shelf ((c.in_ok-replace.ensures {u = tt}).replaced.bodies_new)

pub returns-clause-compacted : goal.returns-clause-compacted
returns-clause-compacted g c =
    let log = c.self.inside.log in
    let shelf = log.shelf in
    let faults = g.D.Disk.fault_count in
    let version : c.wide.result ≡ wide_of shelf = c.wide.ensures ∙ ap wide_of c.shelf-shelf.ensures in
    let list : c.list.result.now ≡ recs_of shelf = c.list.ensures.is ∙ ap recs_of c.shelf-shelf.ensures in
    let short : c.as_slice.result.now ≡ brief (recs_of shelf) = c.as_slice.ensures.value ∙ (c.in_ok-short.ensures {u = tt}) ∙ ap brief list in
    let each : AllByRecursion (HasText (wide_of shelf)) (brief (recs_of shelf)) = each-brief (HasText (wide_of shelf)) (recs_of shelf) c.self.invariant.each in
    let bodies : bodies_of c.wide.result c.as_slice.result.now ≡ bodies_of (wide_of shelf) (brief (recs_of shelf)) = ap (λ w. bodies_of w c.as_slice.result.now) version ∙ ap (λ l. bodies_of (wide_of shelf) l) short in
    let made : c.in_ok-records.records ≡ bodies_of (wide_of shelf) (brief (recs_of shelf)) = (c.in_ok-records.ensures {u = tt}).bodies ∙ bodies in
    let text : c.as_slice-2.result.now ≡ blocks (bodies_of (wide_of shelf) (brief (recs_of shelf))) ++ 0 ∷ [] = c.as_slice-2.ensures.value ∙ (c.in_ok-records.ensures {u = tt}).text ∙ ap (λ b. blocks b ++ 0 ∷ []) bodies in
    subst (λ (v : Kept _). Becomes v.wide (brief v.list) v (faults v.disk) (kept_of c.replace.new.self) (faults c.replace.new.self.disk)) c.self.view_is
    (becomes (wide_of shelf) (brief (recs_of shelf)) each c.in_ok-records.records made log c.replace.new.self (faults log.disk) (faults c.replace.new.self.disk) c.as_slice-2.result.now text ((c.in_ok-replace.ensures {u = tt}).replaced))

pub returns-clause-bytes : goal.returns-clause-bytes
returns-clause-bytes g c s is =
    let log = c.self.inside.log in
    let shelf = log.shelf in
    let version : c.wide.result ≡ wide_of shelf = c.wide.ensures ∙ ap wide_of c.shelf-shelf.ensures in
    let list : c.list.result.now ≡ recs_of shelf = c.list.ensures.is ∙ ap recs_of c.shelf-shelf.ensures in
    let short : c.as_slice.result.now ≡ brief (recs_of shelf) = c.as_slice.ensures.value ∙ (c.in_ok-short.ensures {u = tt}) ∙ ap brief list in
    let bodies : bodies_of c.wide.result c.as_slice.result.now ≡ bodies_of (wide_of shelf) (brief (recs_of shelf)) = ap (λ w. bodies_of w c.as_slice.result.now) version ∙ ap (λ l. bodies_of (wide_of shelf) l) short in
    let text : c.as_slice-2.result.now ≡ blocks (bodies_of (wide_of shelf) (brief (recs_of shelf))) ++ 0 ∷ [] = c.as_slice-2.ensures.value ∙ (c.in_ok-records.ensures {u = tt}).text ∙ ap (λ b. blocks b ++ 0 ∷ []) bodies in
    let told = g.D.Disk.told in
    let log_is : told log.disk ≡ Some s = ap (λ (v : Kept _). told v.disk) c.self.view_is ∙ is in
    let written : IsOn (told c.replace.new.self.disk) (log_bytes (wide_of shelf) (brief (recs_of shelf))) = subst (λ (t : List ℕ). IsOn (told c.replace.new.self.disk) (head 1 ++ t)) text ((c.in_ok-replace.ensures {u = tt}).bytes s log_is) in
    subst (λ (v : Kept _). IsOn (told c.replace.new.self.disk) (log_bytes v.wide (brief v.list))) c.self.view_is written
