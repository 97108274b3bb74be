-- The first event whose record has no room ends a run: what the definitions then say of it.
use Rattle.std.proofs.Common.{◌≡◌, ◌≤◌, ◌<◌, ℕ, suc, Bool, true, false, Option, Some, None, List, [], ◌∷◌, ◌++◌, length, refl, sym, ap, subst, ◌∙◌, ◌-◌, arith, append_assoc}
use Rattle.std.specs.Prelude.{nat_lt}
use Rattle.std.proofs.lemmas.Bool.Decides.{nat_tests}
use Rattle.std.proofs.lemmas.List.{append-nil}
use Rattle.tp_records.specs.declared.body.Event.{Event as Given}
use Rattle.tp_model.specs.declared.verdict.What.{What}
use Rattle.tp_model.specs.Transcript.{Ending, At_limit}
use Rattle.tp_model.specs.NodeRun.{Opening, log_after, node_run}
use Rattle.tp_model.specs.NodeTranscript.{Input, NodeTranscript, taken, written_of, size_of, fitting_from, transcript_of, limited, is_past_limit}
use Rattle.tp_streams.specs.Written.{IsPrefix}
use Rattle.tp_serve.proofs.Lists.{taken_front, taken_past, length_more}
use Rattle.tp_serve.proofs.Runs.{log_appended, log_beyond, size_grows, written_beyond}

-- ---- over the limit, or not

pub over_so : (n : ℕ) → 268435456 < n → nat_lt 268435456 n ≡ true
over_so n h = grind (arith, nat_tests)

pub within_so : (n : ℕ) → n ≤ 268435456 → nat_lt 268435456 n ≡ false
within_so n h = grind (arith, nat_tests)

pub not_over : (n : ℕ) → nat_lt 268435456 n ≡ false → n ≤ 268435456
not_over n h = grind (arith, nat_tests)

-- what has room has room with fewer events
pub fewer_fit : (o : Opening) (gs hs : List Given) → is_past_limit o (gs ++ hs) ≡ false → is_past_limit o gs ≡ false
fewer_fit o gs hs fits =
    let all : size_of o.version (log_after o (gs ++ hs)) ≤ 268435456 = not_over (size_of o.version (log_after o (gs ++ hs))) fits in
    let same : size_of o.version (log_after o (gs ++ hs)) ≡ size_of o.version (log_after o gs ++ log_beyond o gs hs) = ap (size_of o.version) (log_appended o gs hs) in
    within_so (size_of o.version (log_after o gs)) (omega (arith, all, same, size_grows o.version (log_after o gs) (log_beyond o gs hs)))

-- and what is over stays so
pub more_over : (o : Opening) (gs hs : List Given) → is_past_limit o gs ≡ true → is_past_limit o (gs ++ hs) ≡ true
more_over o gs hs over = go (is_past_limit o (gs ++ hs)) refl
  where
    go : (b : Bool) → is_past_limit o (gs ++ hs) ≡ b → is_past_limit o (gs ++ hs) ≡ true
    go true i = i
    go false i = absurd (let clash : true ≡ false = sym over ∙ fewer_fit o gs hs i in cc)

-- ---- the first that is over

fitting_step : (o : Opening) (before : List Given) (g : Given) (gs : List Given) (b : Bool) → is_past_limit o (before ++ g ∷ []) ≡ b
    → fitting_from o before (g ∷ gs) ≡ (elim b as (λ _. Option ℕ) [ true ↦ Some (length before) | false ↦ fitting_from o (before ++ g ∷ []) gs ])
fitting_step o before g gs b i = ap (λ (t : Bool). elim t as (λ _. Option ℕ) [ true ↦ Some (length before) | false ↦ fitting_from o (before ++ g ∷ []) gs ]) i

-- after events that all have room
pub fitting_at : (o : Opening) (before gs : List Given) (g : Given) (more : List Given) → is_past_limit o (before ++ gs) ≡ false → is_past_limit o ((before ++ gs) ++ g ∷ []) ≡ true
    → fitting_from o before (gs ++ g ∷ more) ≡ Some (length (before ++ gs))
fitting_at o before [] g more fits over =
    fitting_step o before g more true (ap (λ (l : List Given). is_past_limit o (l ++ g ∷ [])) (sym (append-nil before)) ∙ over)
    ∙ ap (λ (l : List Given). Some (length l)) (sym (append-nil before))
fitting_at o before (h ∷ gs) g more fits over =
    let same : before ++ h ∷ gs ≡ (before ++ h ∷ []) ++ gs = sym (append_assoc before (h ∷ []) gs) in
    let fits_so : is_past_limit o ((before ++ h ∷ []) ++ gs) ≡ false = ap (is_past_limit o) (sym same) ∙ fits in
    fitting_step o before h (gs ++ g ∷ more) false (fewer_fit o (before ++ h ∷ []) gs fits_so)
    ∙ fitting_at o (before ++ h ∷ []) gs g more fits_so (ap (λ (l : List Given). is_past_limit o (l ++ g ∷ [])) (sym same) ∙ over)
    ∙ ap (λ (l : List Given). Some (length l)) (sym same)

-- none is found before the events that have room
least_by : (o : Opening) (before : List Given) (g : Given) (gs : List Given) (n : ℕ) (b : Bool) → is_past_limit o (before ++ g ∷ []) ≡ b → fitting_from o before (g ∷ gs) ≡ Some n
    → (fitting_from o (before ++ g ∷ []) gs ≡ Some n → length (before ++ g ∷ []) ≤ n) → length before ≤ n
least_by o before g gs n true i is later = let same : Some (length before) ≡ Some n = sym (fitting_step o before g gs true i) ∙ is in let e : length before ≡ n = cc in omega arith
least_by o before g gs n false i is later =
    let more : length (before ++ g ∷ []) ≤ n = later (sym (fitting_step o before g gs false i) ∙ is) in
    omega (arith, more, length_more before g)

least : (o : Opening) (before gs : List Given) (n : ℕ) → fitting_from o before gs ≡ Some n → length before ≤ n
least o before [] n is = absurd cc
least o before (g ∷ gs) n is = least_by o before g gs n (is_past_limit o (before ++ g ∷ [])) refl is (λ later. least o (before ++ g ∷ []) gs n later)

pub fitting_beyond : (o : Opening) (before gs more : List Given) (n : ℕ) → is_past_limit o (before ++ gs) ≡ false → fitting_from o before (gs ++ more) ≡ Some n → length (before ++ gs) ≤ n
fitting_beyond o before [] more n fits is =
    let e : length (before ++ []) ≡ length before = ap length (append-nil before) in
    omega (arith, e, least o before more n is)
fitting_beyond o before (h ∷ gs) more n fits is =
    let same : before ++ h ∷ gs ≡ (before ++ h ∷ []) ++ gs = sym (append_assoc before (h ∷ []) gs) in
    let fits_so : is_past_limit o ((before ++ h ∷ []) ++ gs) ≡ false = ap (is_past_limit o) (sym same) ∙ fits in
    let step : fitting_from o (before ++ h ∷ []) (gs ++ more) ≡ Some n = sym (fitting_step o before h (gs ++ more) false (fewer_fit o (before ++ h ∷ []) gs fits_so)) ∙ is in
    let e : length (before ++ h ∷ gs) ≡ length ((before ++ h ∷ []) ++ gs) = ap length same in
    omega (arith, e, fitting_beyond o (before ++ h ∷ []) gs more n fits_so step)

-- ---- the whole

limited_step : (o : Opening) (i : Input) (b : Bool) (f : Option ℕ) → is_past_limit o i.events ≡ b → fitting_from o [] i.events ≡ f
    → limited o i ≡ (elim b as (λ _. NodeTranscript) [
      | false ↦ transcript_of o i.events i.ending
      | true ↦ elim f as (λ _. NodeTranscript) [ None ↦ transcript_of o i.events i.ending | Some n ↦ transcript_of o (taken n i.events) (At_limit What.Log (suc n)) ]
    ])
limited_step o i b f over fitting =
    ap (λ (t : Bool). elim t as (λ _. NodeTranscript) [
      | false ↦ transcript_of o i.events i.ending
      | true ↦ elim (fitting_from o [] i.events) as (λ _. NodeTranscript) [ None ↦ transcript_of o i.events i.ending | Some n ↦ transcript_of o (taken n i.events) (At_limit What.Log (suc n)) ]
    ]) over
    ∙ ap (λ (x : Option ℕ). elim b as (λ _. NodeTranscript) [
      | false ↦ transcript_of o i.events i.ending
      | true ↦ elim x as (λ _. NodeTranscript) [ None ↦ transcript_of o i.events i.ending | Some n ↦ transcript_of o (taken n i.events) (At_limit What.Log (suc n)) ]
    ]) fitting

-- all of them have room
pub limited_whole : (o : Opening) (i : Input) → is_past_limit o i.events ≡ false → limited o i ≡ transcript_of o i.events i.ending
limited_whole o i fits = limited_step o i false (fitting_from o [] i.events) fits refl

-- these have room, and the next has none
pub limited_at : (o : Opening) (gs : List Given) (g : Given) (more : List Given) (e : Ending) → is_past_limit o gs ≡ false → is_past_limit o (gs ++ g ∷ []) ≡ true
    → limited o (record { events = gs ++ g ∷ more; ending = e }) ≡ transcript_of o gs (At_limit What.Log (suc (length gs)))
limited_at o gs g more e fits over =
    let all : is_past_limit o (gs ++ g ∷ more) ≡ true = ap (is_past_limit o) (sym (append_assoc gs (g ∷ []) more)) ∙ more_over o (gs ++ g ∷ []) more over in
    limited_step o (record { events = gs ++ g ∷ more; ending = e }) true (Some (length gs)) all (fitting_at o [] gs g more fits over)
    ∙ ap (λ (l : List Given). transcript_of o l (At_limit What.Log (suc (length gs)))) (taken_front gs (g ∷ more))

-- whatever comes after events that have room, their outputs are written first
written_first : (o : Opening) (gs hs : List Given) → IsPrefix (written_of (node_run o gs).outputs) (written_of (node_run o (gs ++ hs)).outputs)
written_first o gs hs = (_, written_beyond o gs hs)

pub limited_prefix : (o : Opening) (gs more : List Given) (e : Ending) → is_past_limit o gs ≡ false → IsPrefix (written_of (node_run o gs).outputs) (limited o (record { events = gs ++ more; ending = e })).written
limited_prefix o gs more e fits = go (is_past_limit o (gs ++ more)) (fitting_from o [] (gs ++ more)) refl refl
  where
    go : (b : Bool) (f : Option ℕ) → is_past_limit o (gs ++ more) ≡ b → fitting_from o [] (gs ++ more) ≡ f → IsPrefix (written_of (node_run o gs).outputs) (limited o (record { events = gs ++ more; ending = e })).written
    go false f over fitting =
        subst (λ (t : NodeTranscript). IsPrefix (written_of (node_run o gs).outputs) t.written) (sym (limited_step o (record { events = gs ++ more; ending = e }) false f over fitting)) (written_first o gs more)
    go true None over fitting =
        subst (λ (t : NodeTranscript). IsPrefix (written_of (node_run o gs).outputs) t.written) (sym (limited_step o (record { events = gs ++ more; ending = e }) true None over fitting)) (written_first o gs more)
    go true (Some n) over fitting =
        let far : length gs ≤ n = fitting_beyond o [] gs more n fits fitting in
        let first : IsPrefix (written_of (node_run o gs).outputs) (written_of (node_run o (taken n (gs ++ more))).outputs) =
        subst (λ (l : List Given). IsPrefix (written_of (node_run o gs).outputs) (written_of (node_run o l).outputs)) (sym (taken_past n gs more far)) (written_first o gs (taken (n - length gs) more)) in
        subst (λ (t : NodeTranscript). IsPrefix (written_of (node_run o gs).outputs) t.written) (sym (limited_step o (record { events = gs ++ more; ending = e }) true (Some n) over fitting)) first
