-- The lanes on their way: one takes its next step, and at the end all were taken.
use Rattle.std.proofs.Common.{◌≡◌, ◌==◌, ◌⊎◌, ◌+◌, ◌-◌, ◌<◌, ◌≤◌, length, take, if◌then◌else◌, ℕ, zero, suc, Bool, true, false, refl, ap, sym, ◌∙◌, subst, arith, Option, Some, None, List, [], ◌∷◌, inl, inr, drop}
use Rattle.std.specs.Prelude.{◌||◌, nat_le, option_map, slice_get, slice_set, slice_index_or}
use Rattle.std.proofs.lemmas.Bool.Decides.{nat_tests}
use Rattle.std.proofs.lemmas.List.{take_all}
use Rattle.std.proofs.lemmas.Option.{slice_get_read, get_or_from_slice_get}
use Rattle.std.specs.List.{AllByRecursion}
use Rattle.tp_names.specs.Same.{is_name}
use Rattle.tp_names.proofs.Sames.{name_same, name_self}
use Rattle.tp_site_logs.proofs.Places.{name_swap}
use Rattle.tp_deployments.specs.Deployments.{Deed, Place}
use Rattle.tp_weaving.specs.declared.letter.Letter.{Letter}
use Rattle.tp_weaving.specs.declared.lane.Lane.{Lane}
use Rattle.tp_weaving.specs.declared.step.Step.{Step}
use Rattle.tp_weaving.specs.Frames.{Record, has_record}
use Rattle.tp_weaving.specs.Parts.{part, site_of_deed, ArePartsOf, AreApart}
use Rattle.tp_weaving.specs.Steps.{IsSaid, IsStep, Leads, numbered}
use Rattle.tp_weaving.specs.Letters.{is_letter, letter_same, letter_self, letter_to}
use Rattle.tp_weaving.specs.Said.{is_said}
use Rattle.tp_weaving.specs.declared.said.Said.{Said}
use Rattle.tp_weaving.specs.Weaving.{AreLanes, IsOnWay, AreOnWay, is_held, IsOneOf, Says, Way, TakesNext, IsStuck, AreStuck, Weaves, next_of, AreDone, earlier, waiting}
use Rattle.tp_weaving.proofs.Parts.{part_there, part_here}
use Rattle.tp_weaving.proofs.Taken.{IsReady, Follows, follows, deed_site}

-- ---- what is left of the steps

left_after : (ts : List Step) (n : ℕ) (t : Step) → slice_get ts n ≡ Some t → drop n ts ≡ t ∷ drop (suc n) ts
left_after [] n t h = absurd (cc (h))
left_after (u ∷ ts) zero t h = let same : u ≡ t = cc (h) in ap (λ (x : Step). x ∷ ts) same
left_after (u ∷ ts) (suc n) t h = left_after ts n t h

pub left_next : (ts : List Step) (n : ℕ) (t : Step) → slice_get ts n ≡ Some t → drop n ts ≡ t ∷ drop (n + 1) ts
left_next ts n t h = let one : suc n ≡ n + 1 = omega arith in left_after ts n t h ∙ ap (λ (k : ℕ). t ∷ drop k ts) one

pub none_left : (ts : List Step) (n : ℕ) → slice_get ts n ≡ None → drop n ts ≡ []
none_left [] zero h = refl
none_left [] (suc n) h = refl
none_left (u ∷ ts) zero h = absurd (cc (h))
none_left (u ∷ ts) (suc n) h = none_left ts n h

-- ---- sites

other_site : (rs : List Record) (s t : List ℕ) → has_record rs s ≡ true → has_record rs t ≡ false → is_name s t ≡ false
other_site rs s t on off = go (is_name s t) refl
  where
    go : (b : Bool) → is_name s t ≡ b → is_name s t ≡ false
    go false i = i
    go true i = absurd (let same : has_record rs t ≡ true = ap (has_record rs) (sym (name_same s t i)) ∙ on in cc (same, off))

has_head : (r : Record) (rs : List Record) → has_record (r ∷ rs) r.site ≡ true
has_head r rs = rw (name_self r.site, has_record) refl

has_tail : (r : Record) (rs : List Record) (s : List ℕ) → has_record rs s ≡ true → has_record (r ∷ rs) s ≡ true
has_tail r rs s h = go (is_name r.site s) refl
  where
    go : (b : Bool) → is_name r.site s ≡ b → has_record (r ∷ rs) s ≡ true
    go true i = rw (i, has_record) refl
    go false i = rw (i, has_record) h

lacks : (r : Record) (rs : List Record) (s : List ℕ) → has_record (r ∷ rs) s ≡ false → (is_name r.site s ≡ false) × (has_record rs s ≡ false)
lacks r rs s h = go (is_name r.site s) refl h
  where
    go : (b : Bool) → is_name r.site s ≡ b → (elim b as (λ _. Bool) [ true ↦ true | false ↦ has_record rs s ]) ≡ false → (is_name r.site s ≡ false) × (has_record rs s ≡ false)
    go true i k = absurd (cc (k))
    go false i k = (i, k)

-- ---- the others stay where they are

stays_on_way : (qs : List Place) (ds : List Deed) (d : Deed) (r : Record) (x : Lane) → is_name (site_of_deed d) r.site ≡ false → IsOnWay qs ds r x → IsOnWay qs (d ∷ ds) r x
stays_on_way qs ds d r x away h = record {
  leads = subst (λ (p : List Deed). Leads qs r.site p (drop x.taken x.steps.items) r.deeds) (sym (part_there r.site d ds away)) h.leads;
  before = h.before;
  frames = h.frames;
}

others_stay : (qs : List Place) (ds : List Deed) (d : Deed) (rs : List Record) (xs : List Lane) → has_record rs (site_of_deed d) ≡ false → AreOnWay qs ds rs xs → AreOnWay qs (d ∷ ds) rs xs
others_stay qs ds d [] [] off h = tt
others_stay qs ds d [] (x ∷ xs) off h = absurd h
others_stay qs ds d (r ∷ rs) [] off h = absurd h
others_stay qs ds d (r ∷ rs) (x ∷ xs) off h =
    let l = lacks r rs (site_of_deed d) off in
    let away : is_name (site_of_deed d) r.site ≡ false = name_swap (site_of_deed d) r.site ∙ l.0 in
    (stays_on_way qs ds d r x away h.0, others_stay qs ds d rs xs l.1 h.1)

abbrev moved : Lane → Lane
moved x = record x { taken = x.taken + 1 }

record Moves (qs : List Place) (ds : List Deed) (rs : List Record) (xs : List Lane) (k : ℕ) (x : Lane) (t : Step) : Type 0 where
  site : List ℕ
  named : has_record rs site ≡ true
  deed : Deed
  step : IsStep qs site (part site ds) deed t
  lanes : AreOnWay qs (deed ∷ ds) rs (slice_set xs k (moved x))

moves : (qs : List Place) (ds : List Deed) (rs : List Record) (xs : List Lane) (k : ℕ) (x : Lane) (t : Step) → AreApart rs → AreOnWay qs ds rs xs → slice_get xs k ≡ Some x → slice_get x.steps.items x.taken ≡ Some t → Moves qs ds rs xs k x t
moves qs ds [] [] k x t apart h is next = absurd (cc (is))
moves qs ds [] (y ∷ xs) k x t apart h is next = absurd h
moves qs ds (r ∷ rs) [] k x t apart h is next = absurd h
moves qs ds (r ∷ rs) (y ∷ xs) zero x t apart h is next = record {
  site = r.site;
  named = has_head r rs;
  deed = l.0;
  step = l.1;
  lanes = (
    record {
      leads = subst (λ (p : List Deed). Leads qs r.site p (drop (x.taken + 1) x.steps.items) r.deeds) (sym (part_here r.site l.0 ds site)) l.2;
      before = t.at ∷ on.before;
      frames = ap (numbered on.before) (sym left) ∙ on.frames;
    },
    others_stay qs ds l.0 rs xs (ap (has_record rs) site ∙ apart.0) h.1,
  );
}
  where
    same : y ≡ x
    same = cc (is)

    on : IsOnWay qs ds r x
    on = subst (IsOnWay qs ds r) same h.0

    left : drop x.taken x.steps.items ≡ t ∷ drop (x.taken + 1) x.steps.items
    left = left_next x.steps.items x.taken t next

    l : Leads qs r.site (part r.site ds) (t ∷ drop (x.taken + 1) x.steps.items) r.deeds
    l = subst (λ (ts : List Step). Leads qs r.site (part r.site ds) ts r.deeds) left on.leads

    site : site_of_deed l.0 ≡ r.site
    site = deed_site qs r.site (part r.site ds) l.0 t l.1
moves qs ds (r ∷ rs) (y ∷ xs) (suc k) x t apart h is next = behind (moves qs ds rs xs k x t apart.1 h.1 is next)
  where
    behind : Moves qs ds rs xs k x t → Moves qs ds (r ∷ rs) (y ∷ xs) (suc k) x t
    behind m = record {
      site = m.site;
      named = has_tail r rs m.site m.named;
      deed = m.deed;
      step = m.step;
      lanes = (
        stays_on_way qs ds m.deed r y (ap (λ (s : List ℕ). is_name s r.site) (deed_site qs m.site (part m.site ds) m.deed t m.step) ∙ other_site rs m.site r.site m.named apart.0) h.0,
        m.lanes,
      );
    }

-- ---- one step more

ready_by : (ds : List Deed) (said : Letter → Bool) (needs : Option Letter) → ((x : Letter) → said x ≡ true → IsSaid ds x) → is_held said needs ≡ true → IsReady ds needs
ready_by ds said None was held = tt
ready_by ds said (Some x) was held = was x held

one_of : (P : Letter → Type 0) (ls : List Letter) (l : Letter) → AllByRecursion P ls → IsOneOf l ls → P l
one_of P [] l all is = absurd is
one_of P (m ∷ ls) l all (inl same) = subst P same all.0
one_of P (m ∷ ls) l all (inr more) = one_of P ls l all.1 more

pub goes_on : (qs : List Place) (rs : List Record) (old new : Letter → Bool) (xs : List Lane) (k : ℕ) (x : Lane) (t : Step) → Way qs rs old xs → slice_get xs k ≡ Some x → slice_get x.steps.items x.taken ≡ Some t → is_held old t.needs ≡ true
    → ((l : Letter) → new l ≡ true → (old l ≡ true) ⊎ IsOneOf l t.says.items) → ((l : Letter) → old l ≡ true → new l ≡ true) → ((l : Letter) → IsOneOf l t.says.items → new l ≡ true) → Way qs rs new (slice_set xs k (moved x))
goes_on qs rs old new xs k x t way is next held said stays all = record {
  apart = way.apart;
  deeds = m.deed ∷ way.deeds;
  fits = f.fits;
  lanes = m.lanes;
  others = λ s off. part_there s m.deed way.deeds (ap (λ (n : List ℕ). is_name n s) (deed_site qs m.site (part m.site way.deeds) m.deed t m.step) ∙ other_site rs m.site s m.named off) ∙ way.others s off;
  was_said = λ l i. elim (said l i) [ inl before ↦ f.stays l (way.was_said l before) | inr now ↦ one_of (IsSaid (m.deed ∷ way.deeds)) t.says.items l f.says now ];
  counts = λ from to r h. elim (f.heard from to r h) [ inl before ↦ stays (letter_to from to r) (way.counts from to r before) | inr now ↦ all (letter_to from to r) now ];
}
  where
    m : Moves qs way.deeds rs xs k x t
    m = moves qs way.deeds rs xs k x t way.apart way.lanes is next

    f : Follows qs way.deeds m.deed t
    f = follows qs m.site way.deeds m.deed t way.fits m.step (ready_by way.deeds old t.needs way.was_said held)

pub goes_on_at : (qs : List Place) (rs : List Record) (old new : Said) (xs : List Lane) (k : ℕ) (x d e : Lane) → k < length xs → x ≡ slice_index_or xs k x → Way qs rs (is_said old) xs → TakesNext old new x
    → Way qs rs (is_said new) (slice_set xs k (record { name = (slice_index_or xs k e).name; steps = (slice_index_or xs k e).steps; taken = (slice_index_or xs k d).taken + 1 }))
goes_on_at qs rs old new xs k x d e within is way next =
    subst (λ (y : Lane). Way qs rs (is_said new) (slice_set xs k y)) same (goes_on qs rs (is_said old) (is_said new) xs k x next.step way there next.next next.held next.says.only next.says.stays next.says.all)
  where
    there : slice_get xs k ≡ Some x
    there = slice_get_read xs (length xs) k x refl within is

    at : (y : Lane) → slice_index_or xs k y ≡ x
    at y = get_or_from_slice_get xs k x y there

    same : moved x ≡ record { name = (slice_index_or xs k e).name; steps = (slice_index_or xs k e).steps; taken = (slice_index_or xs k d).taken + 1 }
    same = rw (at d, at e) refl

-- the first letter is said, and then the others
pub one_said : (old mid new : Said) (m : Letter) (ms : List Letter) → ((l : Letter) → is_said mid l ≡ (is_letter m l || is_said old l)) → Says mid new ms → Says old new (m ∷ ms)
one_said old mid new m ms ins rest = record {
  only = λ l h. elim (rest.only l h) [ inl before ↦ by l (is_letter m l) refl (sym (ins l) ∙ before) | inr more ↦ inr (inr more) ];
  stays = λ l h. rest.stays l (ins l ∙ either (is_letter m l) (is_said old l) h);
  all = λ l h. elim h [ inl same ↦ subst (λ (x : Letter). is_said new x ≡ true) same (rest.stays m (ins m ∙ ap (λ (b : Bool). b || is_said old m) (letter_self m))) | inr more ↦ rest.all l more ];
}
  where
    by : (l : Letter) (b : Bool) → is_letter m l ≡ b → (is_letter m l || is_said old l) ≡ true → (is_said old l ≡ true) ⊎ IsOneOf l (m ∷ ms)
    by l true i k = inr (inl (letter_same m l i))
    by l false i k = inl (ap (λ (b : Bool). b || is_said old l) (sym i) ∙ k)

    either : (a b : Bool) → b ≡ true → (a || b) ≡ true
    either true b h = refl
    either false b h = h

-- the first of a list, and the others
pub parted : {A : Type 0} (ms : List A) (d m : A) → 1 ≤ length ms → m ≡ slice_index_or ms 0 d → ms ≡ m ∷ take (length ms - 1) (drop 1 ms)
parted {A} [] d m some is = absurd (omega (arith, some))
parted {A} (n ∷ ms) d m some is = ap (λ (x : A). x ∷ ms) (sym is) ∙ ap (λ (l : List A). m ∷ l) (sym (take_all (length (n ∷ ms) - 1) ms (omega arith)))

pub got : (ts : List Step) (i : ℕ) (t : Step) → i < length ts → t ≡ slice_index_or ts i t → slice_get ts i ≡ Some t
got ts i t within is = slice_get_read ts (length ts) i t refl within is

-- ---- lanes that are stuck

pub none_next : (said : Letter → Bool) (x : Lane) → next_of x ≡ None → IsStuck said x
none_next said x none = λ t some. absurd (cc (none, some))

pub next_unheld : (said : Letter → Bool) (x : Lane) (t : Step) → next_of x ≡ Some t → is_held said t.needs ≡ false → IsStuck said x
next_unheld said x t some off = λ u same.
    let both : Some t ≡ Some u = sym some ∙ same in
    let eq : t ≡ u = cc (both) in
    subst (λ (v : Step). is_held said v.needs ≡ false) eq off

abbrev pub AreStuckTo : ℕ → (Letter → Bool) → List Lane → Type 0
AreStuckTo n said xs = (k : ℕ) (x : Lane) → k < n → slice_get xs k ≡ Some x → IsStuck said x

pub more_stuck : (k : ℕ) (said : Letter → Bool) (xs : List Lane) → AreStuckTo k said xs → ((x : Lane) → slice_get xs k ≡ Some x → IsStuck said x) → AreStuckTo (k + 1) said xs
more_stuck k said xs before here = λ j x within is. by j x within is (j == k) refl
  where
    by : (j : ℕ) (x : Lane) → j < k + 1 → slice_get xs j ≡ Some x → (b : Bool) → (j == k) ≡ b → IsStuck said x
    by j x within is true i = let same : j ≡ k = grind (arith, nat_tests, i) in here x (ap (slice_get xs) (sym same) ∙ is)
    by j x within is false i = let less : j < k = grind (arith, nat_tests, i, within) in before j x less is

pub all_stuck : (said : Letter → Bool) (xs : List Lane) → AreStuckTo (length xs) said xs → AreStuck said xs
all_stuck said [] h = tt
all_stuck said (x ∷ xs) h = (h 0 x (omega arith) refl, all_stuck said xs (λ k y within is. h (suc k) y (omega (arith, within)) is))

-- ---- the beginning and the end

first_way : (qs : List Place) (rs : List Record) (xs : List Lane) → AreLanes qs rs xs → AreOnWay qs [] rs xs
first_way qs [] [] h = tt
first_way qs [] (x ∷ xs) h = absurd h
first_way qs (r ∷ rs) [] h = absurd h
first_way qs (r ∷ rs) (x ∷ xs) h = (
  record {
    leads = subst (λ (n : ℕ). Leads qs r.site [] (drop n x.steps.items) r.deeds) (sym h.0.taken) h.0.leads;
    before = [];
    frames = subst (λ (n : ℕ). numbered [] (drop n x.steps.items) ≡ r.frames) (sym h.0.taken) h.0.frames;
  },
  first_way qs rs xs h.1,
)

pub begins : (qs : List Place) (rs : List Record) (said : Letter → Bool) (xs : List Lane) → AreApart rs → AreLanes qs rs xs → ((l : Letter) → said l ≡ false) → Way qs rs said xs
begins qs rs said xs apart lanes none = record {
  apart = apart;
  deeds = [];
  fits = tt;
  lanes = first_way qs rs xs lanes;
  others = λ s off. refl;
  was_said = λ x i. absurd (let no = none x in cc (i, no));
  counts = λ from to r h. absurd h;
}

all_parts : (qs : List Place) (ds : List Deed) (rs : List Record) (xs : List Lane) → AreOnWay qs ds rs xs → AreDone xs → ArePartsOf ds rs
all_parts qs ds [] [] h done = tt
all_parts qs ds [] (x ∷ xs) h done = absurd h
all_parts qs ds (r ∷ rs) [] h done = absurd h
all_parts qs ds (r ∷ rs) (x ∷ xs) h done = (subst (λ (ts : List Step). Leads qs r.site (part r.site ds) ts r.deeds) (none_left x.steps.items x.taken done.0) h.0.leads, all_parts qs ds rs xs h.1 done.1)

pub ends : (qs : List Place) (rs : List Record) (said : Letter → Bool) (xs : List Lane) → Way qs rs said xs → AreDone xs → Weaves qs rs
ends qs rs said xs way done = record {
  deeds = way.deeds;
  are = record { parts = all_parts qs way.deeds rs xs way.lanes done; others = way.others };
  fits = way.fits;
}

pub none_waiting : (xs : List Lane) → waiting xs ≡ None → AreDone xs
none_waiting [] h = tt
none_waiting (x ∷ xs) h = by (next_of x) refl (waiting xs) refl (none_waiting xs) h
  where
    by : (o : Option Step) → next_of x ≡ o → (w : Option ℕ) → waiting xs ≡ w → (waiting xs ≡ None → AreDone xs) → earlier (option_map (λ (t : Step). t.at) (next_of x)) (waiting xs) ≡ None → AreDone (x ∷ xs)
    by None i w j rest k = (i, rest (sym (ap (λ (a : Option Step). earlier (option_map (λ (t : Step). t.at) a) (waiting xs)) i) ∙ k))
    by (Some t) i None j rest k = absurd (let e = sym (ap (λ (a : Option Step). earlier (option_map (λ (u : Step). u.at) a) (waiting xs)) i) ∙ k in let f = sym (ap (earlier (Some t.at)) j) ∙ e in cc (f))
    by (Some t) i (Some m) j rest k = absurd (let e = sym (ap (λ (a : Option Step). earlier (option_map (λ (u : Step). u.at) a) (waiting xs)) i) ∙ k in let f = sym (ap (earlier (Some t.at)) j) ∙ e in some_of (nat_le t.at m) f)
      where
        some_of : (b : Bool) → (if b then Some t.at else Some m) ≡ None → ⊥
        some_of true f = cc (f)
        some_of false f = cc (f)
