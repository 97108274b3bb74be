-- Where no lane goes on, no order of the deeds reaches more.
use Rattle.std.proofs.Common.{◌≡◌, ◌+◌, length, if◌then◌else◌, ℕ, suc, Bool, true, false, refl, ap, sym, ◌∙◌, subst, arith, Option, Some, None, List, [], ◌∷◌, ◌++◌, append-nil, append_assoc, length-append, inl, inr, drop}
use Rattle.std.specs.Prelude.{nat_le, option_map}
use Rattle.tp_names.specs.declared.identifiers.Addr.{Addr}
use Rattle.tp_names.specs.Same.{is_name}
use Rattle.tp_names.proofs.Sames.{name_same, name_self}
use Rattle.tp_records.specs.declared.peer.PeerRecord.{PeerRecord}
use Rattle.tp_records.specs.declared.body.Event.{Event as Given}
use Rattle.tp_model.specs.Parts.{Event, Entry}
use Rattle.tp_model.specs.NodeRun.{AskedEvent, Refuses, Is, asked}
use Rattle.tp_histories.specs.Histories.{HasSent}
use Rattle.tp_site_logs.specs.Lives.{Life, opening_after, history_over}
use Rattle.tp_deployments.specs.Deployments.{Deed, Starts, Takes, Place, IsCarried, IsHeeded, IsFit, IsTaken, IsDeployment, life_after, history_at, answered}
use Rattle.tp_weaving.specs.declared.letter.Letter.{Letter}
use Rattle.tp_weaving.specs.declared.lane.Lane.{Lane}
use Rattle.tp_weaving.specs.declared.step.Step.{Step}
use Rattle.tp_weaving.specs.Letters.{letter_to}
use Rattle.tp_weaving.specs.Frames.{Record, has_record}
use Rattle.tp_weaving.specs.Parts.{part, site_of_deed, ArePartsOf, AreBegunOf, IsBegunOf, ReachesAll}
use Rattle.tp_weaving.specs.Steps.{Brings, IsIdle, IsStepOf, IsTakenBy, IsTaking, IsStep, Leads, numbered}
use Rattle.tp_weaving.specs.Weaving.{IsOnWay, AreOnWay, is_held, Way, IsStuck, AreStuck, IsNextOf, IsNextOfOne, Waits, next_of, earlier, waiting, woven_of, Ends}
use Rattle.tp_weaving.proofs.Parts.{life_of_part, part_there, part_here}
use Rattle.tp_weaving.proofs.Grown.{at_node, sent_then}
use Rattle.tp_weaving.proofs.Lanes.{left_next, none_left, ends, none_waiting}

-- ---- lists

-- what is next before the same rest is the same
same_next : (later back : List Deed) (d e : Deed) (rest : List Deed) → later ++ d ∷ rest ≡ back ++ e ∷ rest → d ≡ e
same_next [] [] d e rest h = cc (h)
same_next [] (b ∷ back) d e rest h = absurd (let l = ap length h ∙ ap suc (length-append back (e ∷ rest)) in omega (arith, l))
same_next (a ∷ later) [] d e rest h = absurd (let l = sym (ap length h) ∙ ap suc (length-append later (d ∷ rest)) in omega (arith, l))
same_next (a ∷ later) (b ∷ back) d e rest h = same_next later back d e rest (let t : later ++ d ∷ rest ≡ back ++ e ∷ rest = cc (h) in t)

not_longer : (later : List Deed) (d : Deed) (rest : List Deed) → rest ≡ later ++ d ∷ rest → ⊥
not_longer later d rest h = let l = ap length h ∙ length-append later (d ∷ rest) in omega (arith, l)

-- the last one of a list
record Last (ds : List Deed) : Type 0 where
  front : List Deed
  last : Deed
  are : ds ≡ front ++ last ∷ []

last_of : (d : Deed) (ds : List Deed) → Last (d ∷ ds)
last_of d [] = record { front = []; last = d; are = refl }
last_of d (e ∷ ds) = let l = last_of e ds in record { front = d ∷ l.front; last = l.last; are = ap (λ (xs : List Deed). d ∷ xs) l.are }

-- ---- what steps leave behind

record Back (s : List ℕ) (before after : List Deed) (n : ℕ) : Type 0 where
  later : List Deed
  are : after ≡ later ++ before
  long : length later ≡ n

leads_back : (qs : List Place) (s : List ℕ) (before after : List Deed) (ts : List Step) → Leads qs s before ts after → Back s before after (length ts)
leads_back qs s before after [] same = record { later = []; are = sym same; long = refl }
leads_back qs s before after (t ∷ ts) (d, step, rest) =
    let b = leads_back qs s (d ∷ before) after ts rest in
    record {
      later = b.later ++ d ∷ [];
      are = b.are ∙ sym (append_assoc b.later (d ∷ []) before);
      long = let l = length-append b.later (d ∷ []) in omega (arith, l, b.long);
    }

record NumbersBack (before after : List ℕ) (n : ℕ) : Type 0 where
  later : List ℕ
  are : after ≡ later ++ before
  long : length later ≡ n

numbers_back : (before after : List ℕ) (ts : List Step) → numbered before ts ≡ after → NumbersBack before after (length ts)
numbers_back before after [] same = record { later = []; are = sym same; long = refl }
numbers_back before after (t ∷ ts) same =
    let b = numbers_back (t.at ∷ before) after ts same in
    record {
      later = b.later ++ t.at ∷ [];
      are = b.are ∙ sym (append_assoc b.later (t.at ∷ []) before);
      long = let l = length-append b.later (t.at ∷ []) in omega (arith, l, b.long);
    }

-- ---- what was said in part of the deeds was said in all of them

sent_after : (more ds : List Deed) (a to : Addr) (r : PeerRecord) → HasSent (history_at ds a) to r → HasSent (history_at (more ++ ds) a) to r
sent_after [] ds a to r h = h
sent_after (d ∷ more) ds a to r h = sent_then d (more ++ ds) a to r (sent_after more ds a to r h)

own_history : (a : Addr) (ds : List Deed) → history_at (part a.site ds) a ≡ history_at ds a
own_history a ds = ap (λ (l : Life). history_over a.site l a.node) (life_of_part a.site ds)

sent_in_reached : (reached ds : List Deed) (a to : Addr) (r : PeerRecord) → ReachesAll reached ds → HasSent (history_at ds a) to r → HasSent (history_at reached a) to r
sent_in_reached reached ds a to r all h =
    let m = all a.site in
    subst (λ (l : List Entry). HasSent l to r) (own_history a reached)
    (subst (λ (p : List Deed). HasSent (history_at p a) to r) (sym m.1)
    (sent_after m.0 (part a.site ds) a to r (subst (λ (l : List Entry). HasSent l to r) (sym (own_history a ds)) h)))

-- ---- where a deed fits, its step needs nothing that does not count as said

abbrev Heard : (Letter → Bool) → List Deed → Type 0
Heard said ds = (from to : Addr) (r : PeerRecord) → HasSent (history_at ds from) to r → said (letter_to from to r) ≡ true

idle_held : (said : Letter → Bool) (t : Step) → IsIdle t → is_held said t.needs ≡ true
idle_held said t idle = ap (is_held said) idle.needs

brought_held : (qs : List Place) (said : Letter → Bool) (ds : List Deed) (at : Addr) (e : Event) (needs : Option Letter) → Heard said ds → IsCarried qs ds at e → Brings at e needs → is_held said needs ≡ true
brought_held qs said ds at (Event.Arrive from r) None heard carried brings = absurd brings
brought_held qs said ds at (Event.Arrive from r) (Some x) heard carried brings =
    let same : x ≡ letter_to from at r =
    ap (λ (a : Addr). let l : Letter = record { from = a; to = x.to; octets = x.octets } in l) brings.0
    ∙ ap (λ (a : Addr). let l : Letter = record { from = from; to = a; octets = x.octets } in l) brings.1
    ∙ ap (λ (o : List ℕ). let l : Letter = record { from = from; to = at; octets = o } in l) brings.3 in
    ap said same ∙ heard from at r carried.1
brought_held qs said ds at _ needs heard carried brings = ap (is_held said) brings

taken_held : (qs : List Place) (said : Letter → Bool) (ds : List Deed) (s : List ℕ) (gs : List Given) (life : Life) (a : AskedEvent) (t : Step) → Heard said ds → IsFit qs ds s gs life a → IsTakenBy qs s gs life a t → is_held said t.needs ≡ true
taken_held qs said ds s gs life (Refuses k) t heard fit h = idle_held said t h
taken_held qs said ds s gs life (Is n e) t heard fit h = by (answered s gs life n e).entry refl h
  where
    by : (o : Option Entry) → (answered s gs life n e).entry ≡ o → IsStepOf qs (at_node s n) e o t → is_held said t.needs ≡ true
    by None i idle = idle_held said t idle
    by (Some y) i has = let heeds : IsHeeded qs ds (at_node s n) e = fit y i in brought_held qs said ds (at_node s n) e t.needs heard heeds.carried has.brings

step_held : (qs : List Place) (said : Letter → Bool) (ds : List Deed) (s : List ℕ) (d : Deed) (t : Step) → Heard said ds → IsDeployment qs (d ∷ ds) → IsStep qs s (part s ds) d t → is_held said t.needs ≡ true
step_held qs said ds s (Starts n) t heard fits step = idle_held said t step.1
step_held qs said ds s (Takes n g) t heard fits step = go (life_after ds s) refl (subst (λ (l : Life). IsTaking qs s l g t) (life_of_part s ds) step.1) taken
  where
    taken : IsTaken qs ds s (life_after ds s) g
    taken = subst (λ (m : List ℕ). IsTaken qs ds m (life_after ds m) g) step.0 fits.0

    go : (l : Life) → life_after ds s ≡ l → IsTaking qs s l g t → IsTaken qs ds s (life_after ds s) g → is_held said t.needs ≡ true
    go [] is h k = absurd h
    go (gs ∷ life) is h k = taken_held qs said ds s gs life (asked (opening_after s life) g) t heard (subst (λ (l : Life). IsTaken qs ds s l g) is k) h

-- ---- one deed less

begun_before : (d : Deed) (ds : List Deed) (rs : List Record) → AreBegunOf (d ∷ ds) rs → AreBegunOf ds rs
begun_before d ds [] h = tt
begun_before d ds (r ∷ rs) (first, rest) = (by (is_name (site_of_deed d) r.site) refl, begun_before d ds rs rest)
  where
    by : (b : Bool) → is_name (site_of_deed d) r.site ≡ b → (later : List Deed) × (r.deeds ≡ later ++ part r.site ds)
    by false i = (first.0, first.1 ∙ ap (λ (p : List Deed). first.0 ++ p) (part_there r.site d ds i))
    by true i =
        let own : part r.site (d ∷ ds) ≡ d ∷ part r.site ds = part_here r.site d ds (name_same (site_of_deed d) r.site i) in
        (first.0 ++ d ∷ [], first.1 ∙ ap (λ (p : List Deed). first.0 ++ p) own ∙ sym (append_assoc first.0 (d ∷ []) (part r.site ds)))

none_before : (d : Deed) (ds : List Deed) (s : List ℕ) → part s (d ∷ ds) ≡ [] → (is_name (site_of_deed d) s ≡ false) × (part s ds ≡ [])
none_before d ds s none = by (is_name (site_of_deed d) s) refl
  where
    by : (b : Bool) → is_name (site_of_deed d) s ≡ b → (is_name (site_of_deed d) s ≡ false) × (part s ds ≡ [])
    by true i = absurd (let own : part s (d ∷ ds) ≡ d ∷ part s ds = part_here s d ds (name_same (site_of_deed d) s i) in cc (own, none))
    by false i = (i, sym (part_there s d ds i) ∙ none)

one_less : (rs : List Record) (d : Deed) (ds : List Deed) → IsBegunOf rs (d ∷ ds) → IsBegunOf rs ds
one_less rs d ds h = record { parts = begun_before d ds rs h.parts; others = λ s off. (none_before d ds s (h.others s off)).1 }

fits_before : (qs : List Place) (d : Deed) (ds : List Deed) → IsDeployment qs (d ∷ ds) → IsDeployment qs ds
fits_before qs (Starts s) ds h = h
fits_before qs (Takes s g) ds h = h.1

-- ---- the lane of a site

record LaneOf (qs : List Place) (said : Letter → Bool) (reached ds : List Deed) (s : List ℕ) : Type 0 where
  rec : Record
  site : rec.site ≡ s
  later : List Deed
  deeds : rec.deeds ≡ later ++ part rec.site ds
  lane : Lane
  way : IsOnWay qs reached rec lane
  stuck : IsStuck said lane

lane_of : (qs : List Place) (said : Letter → Bool) (reached ds : List Deed) (s : List ℕ) (rs : List Record) (xs : List Lane) → has_record rs s ≡ true → AreBegunOf ds rs → AreOnWay qs reached rs xs → AreStuck said xs → LaneOf qs said reached ds s
lane_of qs said reached ds s [] [] on begun way stuck = absurd (cc (on))
lane_of qs said reached ds s [] (x ∷ xs) on begun way stuck = absurd way
lane_of qs said reached ds s (r ∷ rs) [] on begun way stuck = absurd way
lane_of qs said reached ds s (r ∷ rs) (x ∷ xs) on begun way stuck = by (is_name r.site s) refl on (λ k. lane_of qs said reached ds s rs xs k begun.1 way.1 stuck.1)
  where
    by : (b : Bool) → is_name r.site s ≡ b → (elim b as (λ _. Bool) [ true ↦ true | false ↦ has_record rs s ]) ≡ true → (has_record rs s ≡ true → LaneOf qs said reached ds s) → LaneOf qs said reached ds s
    by true i k rest = record { rec = r; site = name_same r.site s i; later = begun.0.0; deeds = begun.0.1; lane = x; way = way.0; stuck = stuck.0 }
    by false i k rest = rest k

-- what was reached of a site is more than these, or its lane is stuck at the next of them
reaches_next : (qs : List Place) (said : Letter → Bool) (reached ds : List Deed) (d : Deed) → Heard said ds → IsDeployment qs (d ∷ ds) → (x : LaneOf qs said reached (d ∷ ds) (site_of_deed d)) → (more : List Deed) → part x.rec.site reached ≡ more ++ part x.rec.site ds
    → (rest : List Deed) × (part x.rec.site reached ≡ rest ++ part x.rec.site (d ∷ ds))
reaches_next qs said reached ds d heard fits x more is = go more is
  where
    s : List ℕ
    s = x.rec.site

    own : part s (d ∷ ds) ≡ d ∷ part s ds
    own = part_here s d ds (sym x.site)

    all : x.rec.deeds ≡ x.later ++ d ∷ part s ds
    all = x.deeds ∙ ap (λ (p : List Deed). x.later ++ p) own

    ts : List Step
    ts = drop x.lane.taken x.lane.steps.items

    stops : part s reached ≡ part s ds → (o : Option Step) → next_of x.lane ≡ o → (rest : List Deed) × (part s reached ≡ rest ++ part s (d ∷ ds))
    stops same None none =
        let done : part s reached ≡ x.rec.deeds = subst (λ (us : List Step). Leads qs s (part s reached) us x.rec.deeds) (none_left x.lane.steps.items x.lane.taken none) x.way.leads in
        absurd (not_longer x.later d (part s ds) (sym same ∙ done ∙ all))
    stops same (Some t) some =
        let l : Leads qs s (part s reached) (t ∷ drop (x.lane.taken + 1) x.lane.steps.items) x.rec.deeds = subst (λ (us : List Step). Leads qs s (part s reached) us x.rec.deeds) (left_next x.lane.steps.items x.lane.taken t some) x.way.leads in
        let b = leads_back qs s (l.0 ∷ part s reached) x.rec.deeds (drop (x.lane.taken + 1) x.lane.steps.items) l.2 in
        let deed : l.0 ≡ d = same_next b.later x.later l.0 d (part s ds) (sym (ap (λ (p : List Deed). b.later ++ l.0 ∷ p) same) ∙ sym b.are ∙ all) in
        let step : IsStep qs s (part s ds) d t = subst (λ (e : Deed). IsStep qs s (part s ds) e t) deed (subst (λ (p : List Deed). IsStep qs s p l.0 t) same l.1) in
        let on = step_held qs said ds s d t heard fits step in
        let off = x.stuck t some in
        absurd (cc (on, off))

    go : (ms : List Deed) → part s reached ≡ ms ++ part s ds → (rest : List Deed) × (part s reached ≡ rest ++ part s (d ∷ ds))
    go [] same = stops same (next_of x.lane) refl
    go (m ∷ ms) same =
        let l = last_of m ms in
        let long : part s reached ≡ l.front ++ l.last ∷ part s ds = same ∙ ap (λ (ks : List Deed). ks ++ part s ds) l.are ∙ append_assoc l.front (l.last ∷ []) (part s ds) in
        let b = leads_back qs s (part s reached) x.rec.deeds ts x.way.leads in
        let deed : l.last ≡ d = same_next (b.later ++ l.front) x.later l.last d (part s ds)
        (append_assoc b.later l.front (l.last ∷ part s ds) ∙ sym (ap (λ (p : List Deed). b.later ++ p) long) ∙ sym b.are ∙ all) in
        (l.front, long ∙ ap (λ (e : Deed). l.front ++ e ∷ part s ds) deed ∙ sym (ap (λ (p : List Deed). l.front ++ p) own))

-- ---- no order reaches more

abbrev IsReached : List Deed → Deed → List Deed → List ℕ → Type 0
IsReached reached d ds s = (more : List Deed) × (part s reached ≡ more ++ part s (d ∷ ds))

one_more : (qs : List Place) (rs : List Record) (said : Letter → Bool) (xs : List Lane) (way : Way qs rs said xs) → AreStuck said xs → (d : Deed) (ds : List Deed) → IsBegunOf rs (d ∷ ds) → IsDeployment qs (d ∷ ds) → ReachesAll way.deeds ds → ReachesAll way.deeds (d ∷ ds)
one_more qs rs said xs way stuck d ds begun fits before = λ s. by s (is_name (site_of_deed d) s) refl
  where
    heard : Heard said ds
    heard = λ from to r h. way.counts from to r (sent_in_reached way.deeds ds from to r before h)

    here : (b : Bool) → has_record rs (site_of_deed d) ≡ b → IsReached way.deeds d ds (site_of_deed d)
    here false off = absurd (let l = none_before d ds (site_of_deed d) (begun.others (site_of_deed d) off) in let self = name_self (site_of_deed d) in cc (l.0, self))
    here true on =
        let x = lane_of qs said way.deeds (d ∷ ds) (site_of_deed d) rs xs on begun.parts way.lanes stuck in
        let m = before x.rec.site in
        subst (IsReached way.deeds d ds) x.site (reaches_next qs said way.deeds ds d heard fits x m.0 m.1)

    by : (s : List ℕ) (b : Bool) → is_name (site_of_deed d) s ≡ b → IsReached way.deeds d ds s
    by s true i = subst (IsReached way.deeds d ds) (name_same (site_of_deed d) s i) (here (has_record rs (site_of_deed d)) refl)
    by s false i = let m = before s in (m.0, m.1 ∙ ap (λ (p : List Deed). m.0 ++ p) (sym (part_there s d ds i)))

most : (qs : List Place) (rs : List Record) (said : Letter → Bool) (xs : List Lane) (way : Way qs rs said xs) → AreStuck said xs → (ds : List Deed) → IsBegunOf rs ds → IsDeployment qs ds → ReachesAll way.deeds ds
most qs rs said xs way stuck [] begun fits = λ s. (part s way.deeds, sym (append-nil (part s way.deeds)))
most qs rs said xs way stuck (d ∷ ds) begun fits = one_more qs rs said xs way stuck d ds begun fits (most qs rs said xs way stuck ds (one_less rs d ds begun) (fits_before qs d ds fits))

-- ---- the frame at which a lane waits

next_in : (qs : List Place) (ds : List Deed) (r : Record) (x : Lane) (t : Step) → IsOnWay qs ds r x → next_of x ≡ Some t → IsNextOf r ds t.at
next_in qs ds r x t way some = record {
  deed = l.0;
  later = b.later;
  deeds = b.are;
  after = n.later;
  before = way.before;
  frames = n.are;
  place = n.long ∙ sym b.long;
}
  where
    left : drop x.taken x.steps.items ≡ t ∷ drop (x.taken + 1) x.steps.items
    left = left_next x.steps.items x.taken t some

    l : Leads qs r.site (part r.site ds) (t ∷ drop (x.taken + 1) x.steps.items) r.deeds
    l = subst (λ (us : List Step). Leads qs r.site (part r.site ds) us r.deeds) left way.leads

    b : Back r.site (l.0 ∷ part r.site ds) r.deeds (length (drop (x.taken + 1) x.steps.items))
    b = leads_back qs r.site (l.0 ∷ part r.site ds) r.deeds (drop (x.taken + 1) x.steps.items) l.2

    n : NumbersBack (t.at ∷ way.before) r.frames (length (drop (x.taken + 1) x.steps.items))
    n = numbers_back (t.at ∷ way.before) r.frames (drop (x.taken + 1) x.steps.items) (ap (numbered way.before) (sym left) ∙ way.frames)

abbrev number_in : Option Step → Option ℕ
number_in o = option_map (λ (t : Step). t.at) o

next_waiting : (qs : List Place) (ds : List Deed) (rs : List Record) (xs : List Lane) (at : ℕ) → AreOnWay qs ds rs xs → waiting xs ≡ Some at → IsNextOfOne rs ds at
next_waiting qs ds [] [] at way h = absurd (cc (h))
next_waiting qs ds [] (x ∷ xs) at way h = absurd way
next_waiting qs ds (r ∷ rs) [] at way h = absurd way
next_waiting qs ds (r ∷ rs) (x ∷ xs) at way h = by (next_of x) refl (waiting xs) refl (λ k. inr (next_waiting qs ds rs xs at way.1 k)) h
  where
    first : (t : Step) → next_of x ≡ Some t → Some t.at ≡ Some at → IsNextOfOne (r ∷ rs) ds at
    first t i k = let same : t.at ≡ at = cc (k) in inl (subst (IsNextOf r ds) same (next_in qs ds r x t way.0 i))

    by : (o : Option Step) → next_of x ≡ o → (w : Option ℕ) → waiting xs ≡ w → (waiting xs ≡ Some at → IsNextOfOne (r ∷ rs) ds at) → earlier (number_in (next_of x)) (waiting xs) ≡ Some at → IsNextOfOne (r ∷ rs) ds at
    by None i w j rest k = rest (sym (ap (λ (o : Option Step). earlier (number_in o) (waiting xs)) i) ∙ k)
    by (Some t) i None j rest k = first t i (sym (ap (λ (o : Option Step). earlier (number_in o) (waiting xs)) i ∙ ap (earlier (Some t.at)) j) ∙ k)
    by (Some t) i (Some m) j rest k = choose (nat_le t.at m) (sym (ap (λ (o : Option Step). earlier (number_in o) (waiting xs)) i ∙ ap (earlier (Some t.at)) j) ∙ k)
      where
        choose : (b : Bool) → (if b then Some t.at else Some m) ≡ Some at → IsNextOfOne (r ∷ rs) ds at
        choose true l = first t i l
        choose false l = rest (j ∙ l)

-- ---- no order is a deployment

begun_whole : (ds : List Deed) (rs : List Record) → ArePartsOf ds rs → AreBegunOf ds rs
begun_whole ds [] h = tt
begun_whole ds (r ∷ rs) h = (([], sym h.0), begun_whole ds rs h.1)

not_all : (reached ds : List Deed) (rs : List Record) (at : ℕ) → ReachesAll reached ds → ArePartsOf ds rs → IsNextOfOne rs reached at → ⊥
not_all reached ds [] at all parts next = next
not_all reached ds (r ∷ rs) at all parts (inr next) = not_all reached ds rs at all parts.1 next
not_all reached ds (r ∷ rs) at all parts (inl next) =
    let m = all r.site in
    let long = ap length next.deeds ∙ length-append next.later (next.deed ∷ part r.site reached) in
    let short = ap length (m.1 ∙ ap (λ (p : List Deed). m.0 ++ p) parts.0) ∙ length-append m.0 r.deeds in
    omega (arith, long, short)

begun_so : (qs : List Place) (ds : List Deed) (rs : List Record) (xs : List Lane) → AreOnWay qs ds rs xs → AreBegunOf ds rs
begun_so qs ds [] [] way = tt
begun_so qs ds [] (x ∷ xs) way = absurd way
begun_so qs ds (r ∷ rs) [] way = absurd way
begun_so qs ds (r ∷ rs) (x ∷ xs) way =
    let b = leads_back qs r.site (part r.site ds) r.deeds (drop x.taken x.steps.items) way.0.leads in
    ((b.later, b.are), begun_so qs ds rs xs way.1)

waits : (qs : List Place) (rs : List Record) (said : Letter → Bool) (xs : List Lane) (at : ℕ) → Way qs rs said xs → AreStuck said xs → waiting xs ≡ Some at → Waits qs rs at
waits qs rs said xs at way stuck is = record {
  reached = way.deeds;
  begun = record { parts = begun_so qs way.deeds rs xs way.lanes; others = way.others };
  fits = way.fits;
  most = most qs rs said xs way stuck;
  next = next;
  none = λ ds are fits. not_all way.deeds ds rs at (most qs rs said xs way stuck ds (record { parts = begun_whole ds rs are.parts; others = are.others }) fits) are.parts next;
}
  where
    next : IsNextOfOne rs way.deeds at
    next = next_waiting qs way.deeds rs xs at way.lanes is

-- ---- the end

pub ends_so : (qs : List Place) (rs : List Record) (said : Letter → Bool) (xs : List Lane) → Way qs rs said xs → AreStuck said xs → Ends qs rs (woven_of (waiting xs))
ends_so qs rs said xs way stuck = by (waiting xs) refl
  where
    by : (o : Option ℕ) → waiting xs ≡ o → Ends qs rs (woven_of (waiting xs))
    by None i = subst (λ (o : Option ℕ). Ends qs rs (woven_of o)) (sym i) (ends qs rs said xs way (none_waiting xs i))
    by (Some at) i = subst (λ (o : Option ℕ). Ends qs rs (woven_of o)) (sym i) (waits qs rs said xs at way stuck i)
