-- What a start finds in a file that is a log.
use Rattle.std.proofs.Common.{◌≡◌, ◌<◌, ◌^◌, ℕ, Bool, true, false, Option, Some, None, List, [], ◌∷◌, ◌++◌, length, refl, sym, ap, ◌∙◌}
use Rattle.tp_names.proofs.Sames.{both}
use Rattle.tp_logrec.specs.declared.record.LogRec.{LogRec}
use Rattle.tp_logrec.specs.declared.record.LogVersion.{LogVersion}
use Rattle.tp_logrec.specs.LogText.{LogReading, Foreign, Reads, Placed, recs, IsLog, IsReadAs}
use Rattle.tp_logrec.specs.Order.{follows, follow_from, all_follow}
use Rattle.tp_logrec.proofs.Logs.{log_back}
use Rattle.tp_model.specs.LogCommands.{Opened, Is_foreign, Has, opened, in_order, moved, moved_by, disordered}

recs_moved : (n : ℕ) (ps : List Placed) → recs (moved n ps) ≡ recs ps
recs_moved n [] = refl
recs_moved n (p ∷ ps) = ap (λ (rs : List LogRec). p.rec ∷ rs) (recs_moved n ps)

none_disordered : (before : List LogRec) (ps : List Placed) → follow_from before (recs ps) ≡ true → disordered before ps ≡ None
none_disordered before [] order = refl
none_disordered before (p ∷ ps) order =
    let b = both (follows before p.rec) (follow_from (before ++ p.rec ∷ []) (recs ps)) order in
    ap (λ (t : Bool). elim t as (λ _. Option ℕ) [ true ↦ disordered (before ++ p.rec ∷ []) ps | false ↦ Some p.place ]) b.0 ∙ none_disordered (before ++ p.rec ∷ []) ps b.1

abbrev by_reading : List ℕ → LogReading → Opened
by_reading file w = elim w as (λ _. Opened) [ Foreign at ↦ Is_foreign at | Reads ver ps gate ↦ in_order ver (moved (moved_by file) ps) ]

-- the records that are found are those of the log
pub finds : (file : List ℕ) (rs : List LogRec) (version : LogVersion) (listed : List Placed) → length file < 2 ^ 64 → IsLog file rs → opened file ≡ Has version listed → recs listed ≡ rs
finds file rs version listed small log is = go (disordered [] places) refl
  where
    x : IsReadAs file rs
    x = log_back file rs small log

    places : List Placed
    places = moved (moved_by file) x.placed

    reads : opened file ≡ in_order x.version places
    reads = ap (by_reading file) x.reads

    go : (o : Option ℕ) → disordered [] places ≡ o → recs listed ≡ rs
    go (Some at) broken = absurd (let clash : Is_foreign at ≡ Has version listed = sym (reads ∙ ap (λ (o : Option ℕ). elim o as (λ _. Opened) [ None ↦ Has x.version places | Some p ↦ Is_foreign p ]) broken) ∙ is in cc (clash))
    go None whole =
        let same : Has x.version places ≡ Has version listed = sym (reads ∙ ap (λ (o : Option ℕ). elim o as (λ _. Opened) [ None ↦ Has x.version places | Some p ↦ Is_foreign p ]) whole) ∙ is in
        let one : places ≡ listed = cc (same) in
        ap recs (sym one) ∙ recs_moved (moved_by file) x.placed ∙ x.records

-- and where they are in order, nothing is foreign
pub opens : (file : List ℕ) (rs : List LogRec) → length file < 2 ^ 64 → IsLog file rs → all_follow rs ≡ true → (version : LogVersion) × (listed : List Placed) × (opened file ≡ Has version listed) × (recs listed ≡ rs)
opens file rs small log order =
    let x : IsReadAs file rs = log_back file rs small log in
    let places : List Placed = moved (moved_by file) x.placed in
    let are : recs places ≡ rs = recs_moved (moved_by file) x.placed ∙ x.records in
    let whole : disordered [] places ≡ None = none_disordered [] places (ap all_follow are ∙ order) in
    (x.version, places, ap (by_reading file) x.reads ∙ ap (λ (o : Option ℕ). elim o as (λ _. Opened) [ None ↦ Has x.version places | Some p ↦ Is_foreign p ]) whole, are)
