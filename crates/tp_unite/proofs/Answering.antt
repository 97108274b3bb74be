-- What a frame does to a recording that was heard so far, by its kind.
use Rattle.std.proofs.Common.{◌≡◌, ◌≤◌, ℕ, suc, Bool, true, false, refl, ap, sym, ◌∙◌, subst, arith, Option, Some, None, Result, Err, List, [], ◌∷◌, inr, length}
use Rattle.std.specs.Prelude.{nat_le}
use Rattle.std.proofs.lemmas.Bool.Decides.{nat_tests}
use Rattle.tp_names.specs.Same.{is_name}
use Rattle.tp_model.specs.declared.verdict.What.{What}
use Rattle.tp_model.specs.declared.verdict.Why.{Why}
use Rattle.tp_model.specs.Transcript.{Ending, Done, Bad_input, At_limit}
use Rattle.tp_records.specs.declared.body.Event.{Event as Given}
use Rattle.tp_deployments.specs.Deployments.{Starts, Place, AreArranged}
use Rattle.tp_weaving.specs.declared.frame.Frame.{Frame}
use Rattle.tp_weaving.specs.Frames.{Record, Recording as Told, first_deed, with_deed, with_start, with_records, frame_in, told_frame, told_body, has_record}
use Rattle.tp_weaving.specs.Places.{placed}
use Rattle.tp_unite.specs.declared.playing.Playing.{Playing}
use Rattle.tp_unite.specs.declared.playing.PlayFault.{PlayFault}
use Rattle.tp_unite.specs.declared.recording.Recording.{Recording}
use Rattle.tp_unite.specs.declared.recording.HearFault.{HearFault}
use Rattle.tp_unite.specs.Placing.{IsMisplaced, MisplacesOf}
use Rattle.tp_unite.specs.Playing.{IsPlaying}
use Rattle.tp_unite.specs.Endings.{place_ending, opening_ending, start_ending, event_ending, frame_ending, body_ending}
use Rattle.tp_unite.specs.Recording.{IsHeard, Answers, MisplacesIn, Misplaces, fault_at}
use Rattle.tp_unite.proofs.Heard.{Holds, holds, none_told}

-- ---- faults of a site

pub faults_so : (at : ℕ) (ending : Ending) (told : Option Told) (misplaced : Type 0) (fault : PlayFault) (new : Recording) → ending ≡ Done → (fault ≡ PlayFault.NotPlaced → misplaced) → Answers at ending told misplaced (Err (fault_at fault at)) new
faults_so at ending told misplaced PlayFault.NotPlaced new done m = (done, m refl)
faults_so at ending told misplaced PlayFault.Full new done m = inr (refl, refl, done)
faults_so at ending told misplaced PlayFault.NoMemory new done m = tt

pub no_memory : (at : ℕ) (ending : Ending) (told : Option Told) (misplaced : Type 0) (new : Recording) → (stop : HearFault) → stop ≡ fault_at PlayFault.NoMemory at → Answers at ending told misplaced (Err stop) new
no_memory at ending told misplaced new stop is = subst (λ (f : HearFault). Answers at ending told misplaced (Err f) new) (sym is) tt

-- ---- places

place_by : (at : ℕ) (t : Told) (n : ℕ) (under : Option ℕ) (s : List ℕ) (many : Bool) (o : Option (List Place)) → t.records ≡ [] → nat_le 256 (length t.places) ≡ many → placed t.places n under s ≡ o
    → place_ending at t n under s ≡ (elim many as (λ _. Ending) [ true ↦ At_limit What.Nodes at | false ↦ elim o as (λ _. Ending) [ None ↦ Bad_input at Why.Name | Some qs ↦ Done ] ])
place_by at t n under s many o none few fits =
    ap (λ (rs : List Record). elim rs as (λ _. Ending) [ [] ↦ elim (nat_le 256 (length t.places)) as (λ _. Ending) [ true ↦ At_limit What.Nodes at | false ↦ elim (placed t.places n under s) as (λ _. Ending) [ None ↦ Bad_input at Why.Name | Some qs ↦ Done ] ] | r ∷ more ↦ Bad_input at Why.Body ]) none
    ∙ ap (λ (b : Bool). elim b as (λ _. Ending) [ true ↦ At_limit What.Nodes at | false ↦ elim (placed t.places n under s) as (λ _. Ending) [ None ↦ Bad_input at Why.Name | Some qs ↦ Done ] ]) few
    ∙ ap (λ (p : Option (List Place)). elim many as (λ _. Ending) [ true ↦ At_limit What.Nodes at | false ↦ elim p as (λ _. Ending) [ None ↦ Bad_input at Why.Name | Some qs ↦ Done ] ]) fits

is_many : (n : ℕ) → 256 ≤ n → nat_le 256 n ≡ true
is_many n h = grind (arith, nat_tests, h)

is_few : (n : ℕ) → n ≤ 255 → nat_le 256 n ≡ false
is_few n h = grind (arith, nat_tests, h)

pub place_late : (at : ℕ) (t : Told) (n : ℕ) (under : Option ℕ) (s : List ℕ) (c : Recording) (p : Playing) → IsHeard t c → c.playing ≡ Some p → place_ending at t n under s ≡ Bad_input at Why.Body
place_late at t n under s c p is some =
    let h = holds t c p is some in
    ap (λ (rs : List Record). elim rs as (λ _. Ending) [ [] ↦ elim (nat_le 256 (length t.places)) as (λ _. Ending) [ true ↦ At_limit What.Nodes at | false ↦ elim (placed t.places n under s) as (λ _. Ending) [ None ↦ Bad_input at Why.Name | Some qs ↦ Done ] ] | r ∷ more ↦ Bad_input at Why.Body ]) h.are

pub place_many : (at : ℕ) (t : Told) (n : ℕ) (under : Option ℕ) (s : List ℕ) (c : Recording) → IsHeard t c → c.playing ≡ None → 256 ≤ length c.places → place_ending at t n under s ≡ At_limit What.Nodes at
place_many at t n under s c is none many =
    place_by at t n under s true (placed t.places n under s) (none_told t c is none) (ap (λ (qs : List Place). nat_le 256 (length qs)) (sym is.places) ∙ is_many (length c.places) many) refl

pub place_unfit : (at : ℕ) (t : Told) (n : ℕ) (under : Option ℕ) (s : List ℕ) (c : Recording) → IsHeard t c → c.playing ≡ None → length c.places ≤ 255 → placed c.places n under s ≡ None → place_ending at t n under s ≡ Bad_input at Why.Name
place_unfit at t n under s c is none few off =
    place_by at t n under s false None (none_told t c is none) (ap (λ (qs : List Place). nat_le 256 (length qs)) (sym is.places) ∙ is_few (length c.places) few) (ap (λ (qs : List Place). placed qs n under s) (sym is.places) ∙ off)

pub place_fits : (at : ℕ) (t : Told) (n : ℕ) (under : Option ℕ) (s : List ℕ) (c : Recording) (new : List Place) → IsHeard t c → c.playing ≡ None → length c.places ≤ 255 → placed c.places n under s ≡ Some new → place_ending at t n under s ≡ Done
place_fits at t n under s c new is none few on =
    place_by at t n under s false (Some new) (none_told t c is none) (ap (λ (qs : List Place). nat_le 256 (length qs)) (sym is.places) ∙ is_few (length c.places) few) (ap (λ (qs : List Place). placed qs n under s) (sym is.places) ∙ on)

-- ---- a first process

opening_by : (at : ℕ) (t : Told) (s : List ℕ) (among many : Bool) → has_record t.records s ≡ among → nat_le 16 (length t.records) ≡ many
    → opening_ending at t s ≡ (elim among as (λ _. Ending) [ true ↦ Bad_input at Why.Name | false ↦ elim many as (λ _. Ending) [ true ↦ At_limit What.Sites at | false ↦ Done ] ])
opening_by at t s among many on few =
    ap (λ (a : Bool). elim a as (λ _. Ending) [ true ↦ Bad_input at Why.Name | false ↦ elim (nat_le 16 (length t.records)) as (λ _. Ending) [ true ↦ At_limit What.Sites at | false ↦ Done ] ]) on
    ∙ ap (λ (b : Bool). elim among as (λ _. Ending) [ true ↦ Bad_input at Why.Name | false ↦ elim b as (λ _. Ending) [ true ↦ At_limit What.Sites at | false ↦ Done ] ]) few

pub opens_again : (at : ℕ) (t : Told) (s : List ℕ) → has_record t.records s ≡ true → opening_ending at t s ≡ Bad_input at Why.Name
opens_again at t s on = opening_by at t s true (nat_le 16 (length t.records)) on refl

pub opens_many : (at : ℕ) (t : Told) (s : List ℕ) → has_record t.records s ≡ false → 16 ≤ length t.records → opening_ending at t s ≡ At_limit What.Sites at
opens_many at t s off many = opening_by at t s false true off (is_full (length t.records) many)
  where
    is_full : (n : ℕ) → 16 ≤ n → nat_le 16 n ≡ true
    is_full n h = grind (arith, nat_tests, h)

pub opens : (at : ℕ) (t : Told) (s : List ℕ) → has_record t.records s ≡ false → length t.records ≤ 15 → opening_ending at t s ≡ Done
opens at t s off few = opening_by at t s false false off (has_room (length t.records) few)
  where
    has_room : (n : ℕ) → n ≤ 15 → nat_le 16 n ≡ false
    has_room n h = grind (arith, nat_tests, h)

-- ---- a process

same_answer : (at : ℕ) (e f : Ending) (o p : Option Told) (result : Result (Unit {0}) HearFault) (new : Recording) → e ≡ f → o ≡ p → Answers at e o ⊥ result new → Answers at f p ⊥ result new
same_answer at e f o p result new i j h = subst (λ (x : Option Told). Answers at f x ⊥ result new) j (subst (λ (x : Ending). Answers at x o ⊥ result new) i h)

abbrev start_in : ℕ → Told → List ℕ → List Record → Ending
start_in at t name rs = elim rs as (λ _. Ending) [ [] ↦ opening_ending at t name | r ∷ more ↦ elim (is_name r.site name) as (λ _. Ending) [ true ↦ Done | false ↦ opening_ending at t name ] ]

abbrev told_in : Told → ℕ → List ℕ → List Record → Option Told
told_in t at name rs = Some (with_records t (with_start rs at name))

-- of the first site
pub first_start : (at : ℕ) (t : Told) (name : List ℕ) (c new : Recording) (result : Result (Unit {0}) HearFault) → IsHeard t c → c.playing ≡ None → Answers at (opening_ending at t name) (Some (with_records t (first_deed at name ∷ t.records))) ⊥ result new
    → Answers at (start_ending at t name) (told_in t at name t.records) ⊥ result new
first_start at t name c new result is none h =
    let empty = none_told t c is none in
    same_answer at (opening_ending at t name) (start_ending at t name) (Some (with_records t (first_deed at name ∷ t.records))) (told_in t at name t.records) result new
    (sym (ap (start_in at t name) empty))
    (ap (λ (rs : List Record). Some (with_records t (first_deed at name ∷ rs))) empty ∙ sym (ap (told_in t at name) empty)) h

-- of the site that is played
pub next_start : (at : ℕ) (t : Told) (name : List ℕ) (c new : Recording) (p : Playing) (h : Holds t c p) (result : Result (Unit {0}) HearFault) → is_name p.lane.name name ≡ true
    → Answers at Done (Some (with_records t (with_deed h.first at (Starts h.first.site) ∷ h.rest))) ⊥ result new → Answers at (start_ending at t name) (told_in t at name t.records) ⊥ result new
next_start at t name c new p h result same k =
    let by : is_name h.first.site name ≡ true = ap (λ (s : List ℕ). is_name s name) (sym h.left.playing.name) ∙ same in
    same_answer at Done (start_ending at t name) (Some (with_records t (with_deed h.first at (Starts h.first.site) ∷ h.rest))) (told_in t at name t.records) result new
    (sym (ap (start_in at t name) h.are ∙ ap (λ (b : Bool). elim b as (λ _. Ending) [ true ↦ Done | false ↦ opening_ending at t name ]) by))
    (sym (ap (told_in t at name) h.are ∙ ap (λ (b : Bool). Some (with_records t (elim b as (λ _. List Record) [ true ↦ with_deed h.first at (Starts h.first.site) ∷ h.rest | false ↦ first_deed at name ∷ h.first ∷ h.rest ]))) by)) k

-- of another one
pub other_start : (at : ℕ) (t : Told) (name : List ℕ) (c new : Recording) (p : Playing) (h : Holds t c p) (result : Result (Unit {0}) HearFault) → is_name p.lane.name name ≡ false
    → Answers at (opening_ending at t name) (Some (with_records t (first_deed at name ∷ t.records))) ⊥ result new → Answers at (start_ending at t name) (told_in t at name t.records) ⊥ result new
other_start at t name c new p h result other k =
    let by : is_name h.first.site name ≡ false = ap (λ (s : List ℕ). is_name s name) (sym h.left.playing.name) ∙ other in
    same_answer at (opening_ending at t name) (start_ending at t name) (Some (with_records t (first_deed at name ∷ t.records))) (told_in t at name t.records) result new
    (sym (ap (start_in at t name) h.are ∙ ap (λ (b : Bool). elim b as (λ _. Ending) [ true ↦ Done | false ↦ opening_ending at t name ]) by))
    (ap (λ (rs : List Record). Some (with_records t (first_deed at name ∷ rs))) h.are
    ∙ sym (ap (told_in t at name) h.are ∙ ap (λ (b : Bool). Some (with_records t (elim b as (λ _. List Record) [ true ↦ with_deed h.first at (Starts h.first.site) ∷ h.rest | false ↦ first_deed at name ∷ h.first ∷ h.rest ]))) by)) k

-- ---- an event

abbrev event_in_records : ℕ → List Record → Ending
event_in_records at rs = elim rs as (λ _. Ending) [ [] ↦ Bad_input at Why.Body | r ∷ more ↦ Done ]

pub event_early : (at : ℕ) (t : Told) (c : Recording) → IsHeard t c → c.playing ≡ None → event_ending at t ≡ Bad_input at Why.Body
event_early at t c is none = ap (event_in_records at) (none_told t c is none)

pub event_taken : (at : ℕ) (t : Told) (c : Recording) (p : Playing) → IsHeard t c → c.playing ≡ Some p → event_ending at t ≡ Done
event_taken at t c p is some = ap (event_in_records at) (holds t c p is some).are

pub misplaced_so : (t : Told) (g : Given) (c : Recording) (p : Playing) → IsHeard t c → c.playing ≡ Some p → ((r : Record) → IsPlaying c.places r p → AreArranged c.places → IsMisplaced c.places r g) → MisplacesOf t.places t.records g
misplaced_so t g c p is some goes =
    let h = holds t c p is some in
    let on : (r : Record) → IsPlaying t.places r p → AreArranged t.places → IsMisplaced t.places r g = subst (λ (qs : List Place). (r : Record) → IsPlaying qs r p → AreArranged qs → IsMisplaced qs r g) is.places goes in
    subst (λ (rs : List Record). MisplacesOf t.places rs g) (sym h.are) (on h.first h.left.playing is.arranged)

-- ---- the frame that stands in a body

pub not_a_frame : (t : Told) (body : List ℕ) (at : ℕ) → None ≡ frame_in body → at ≡ suc t.count → body_ending t body ≡ Bad_input at Why.Body
not_a_frame t body at none number =
    ap (λ (o : Option Frame). elim o as (λ _. Ending) [ None ↦ Bad_input (suc t.count) Why.Body | Some f ↦ frame_ending (suc t.count) t f ]) (sym none)
    ∙ ap (λ (n : ℕ). Bad_input n Why.Body) (sym number)

pub frame_answers : (t : Told) (body : List ℕ) (at : ℕ) (f : Frame) (result : Result (Unit {0}) HearFault) (new : Recording) → Some f ≡ frame_in body → at ≡ suc t.count → Answers at (frame_ending at t f) (told_frame at t f) (MisplacesIn t f) result new
    → Answers at (body_ending t body) (told_body t body) (Misplaces t body) result new
frame_answers t body at f result new is number h =
    subst
    (λ (o : Option Frame).
    Answers at (elim o as (λ _. Ending) [ None ↦ Bad_input (suc t.count) Why.Body | Some k ↦ frame_ending (suc t.count) t k ]) (elim o as (λ _. Option Told) [ None ↦ None | Some k ↦ told_frame (suc t.count) t k ])
    (elim o as (λ _. Type 0) [ None ↦ ⊥ | Some k ↦ MisplacesIn t k ]) result new)
    is (subst (λ (n : ℕ). Answers at (frame_ending n t f) (told_frame n t f) (MisplacesIn t f) result new) number h)
