-- A recording is heard, frame by frame.
use Rattle.std.proofs.Common.{◌≡◌, ℕ, suc, false, refl, ap, sym, ◌∙◌, subst, Option, Some, None, List, [], ◌∷◌}
use Rattle.std.specs.Prelude.{option_map}
use Rattle.std.specs.Option.{is_some}
use Rattle.tp_names.specs.declared.identifiers.Addr.{Addr}
use Rattle.tp_records.specs.declared.body.Event.{Event as Given}
use Rattle.tp_deployments.specs.Deployments.{Starts, Takes, Place}
use Rattle.tp_weaving.specs.declared.lane.Lane.{Lane}
use Rattle.tp_weaving.specs.Frames.{Record, Recording as Told, first_deed, with_deed, with_event, with_records, told_place, has_record}
use Rattle.tp_weaving.specs.Parts.{AreApart}
use Rattle.tp_weaving.specs.Places.{addr_at, with_place, placed_under, placed}
use Rattle.tp_weaving.specs.Weaving.{IsLane, AreLanes}
use Rattle.tp_weaving.proofs.Placed.{stays_arranged}
use Rattle.tp_closing.specs.declared.trees.Trees.{Trees}
use Rattle.tp_closing.specs.Told.{TellTrees}
use Rattle.tp_unite.specs.declared.playing.Playing.{Playing}
use Rattle.tp_unite.specs.declared.recording.Recording.{Recording}
use Rattle.tp_unite.specs.Playing.{IsPlaying}
use Rattle.tp_unite.proofs.Trees.{first_tells}
use Rattle.tp_unite.specs.Recording.{ArePlayed, IsHeard, Comes, AreWhole, IsLeft}

-- ---- what is played

record Plays (qs : List Place) (rs : List Record) (xs : List Lane) (p : Playing) : Type 0 where
  first : Record
  rest : List Record
  are : rs ≡ first ∷ rest
  playing : IsPlaying qs first p
  lanes : AreLanes qs rest xs

plays : (qs : List Place) (rs : List Record) (xs : List Lane) (o : Option Playing) (p : Playing) → o ≡ Some p → ArePlayed qs rs xs o → Plays qs rs xs p
plays qs [] xs o p is h = absurd (subst (ArePlayed qs [] xs) is h)
plays qs (r ∷ rs) xs o p is h =
    let k : IsPlaying qs r p × AreLanes qs rs xs = subst (ArePlayed qs (r ∷ rs) xs) is h in
    record { first = r; rest = rs; are = refl; playing = k.0; lanes = k.1 }

none_played : (qs : List Place) (rs : List Record) (xs : List Lane) (o : Option Playing) → o ≡ None → ArePlayed qs rs xs o → (rs ≡ []) × (xs ≡ [])
none_played qs [] xs o is h = (refl, subst (ArePlayed qs [] xs) is h)
none_played qs (r ∷ rs) xs o is h = absurd (subst (ArePlayed qs (r ∷ rs) xs) is h)

pub none_of : (o : Option Playing) → is_some o ≡ false → o ≡ None
none_of None h = refl
none_of (Some p) h = absurd (cc (h))

no_lanes : (qs : List Place) (rs : List Record) (xs : List Lane) → rs ≡ [] → xs ≡ [] → AreLanes qs rs xs
no_lanes qs rs xs i j = subst (λ (l : List Record). AreLanes qs l xs) (sym i) (subst (AreLanes qs []) (sym j) tt)

whole_lane : (qs : List Place) (r : Record) (p : Playing) → IsPlaying qs r p → IsLane qs r p.lane
whole_lane qs r p is = record { name = is.name; taken = is.taken; leads = is.leads; frames = is.frames }

-- ---- places

placed_one : (qs : List Place) (n : ℕ) (under : Option ℕ) (s : List ℕ) (new : List Place) → placed qs n under s ≡ Some new → (q : Place) × (new ≡ q ∷ qs) × (q.addr ≡ record { site = s; node = n })
placed_one qs n under s new fits = go (addr_at qs n) refl
  where
    alone : (superior : Option Addr) → Some (with_place qs n s superior) ≡ Some new → (q : Place) × (new ≡ q ∷ qs) × (q.addr ≡ record { site = s; node = n })
    alone superior h = let same : with_place qs n s superior ≡ new = cc (h) in (record { addr = record { site = s; node = n }; superior = superior }, sym same, refl)

    by : (u : Option ℕ) → placed_under qs n s u ≡ Some new → (q : Place) × (new ≡ q ∷ qs) × (q.addr ≡ record { site = s; node = n })
    by None h = alone None h
    by (Some p) h = at (addr_at qs p) refl
      where
        at : (o : Option Addr) → addr_at qs p ≡ o → (q : Place) × (new ≡ q ∷ qs) × (q.addr ≡ record { site = s; node = n })
        at None i = absurd (let none : placed_under qs n s (Some p) ≡ None = rw (i, placed_under) refl in cc (none, h))
        at (Some a) i = let some : placed_under qs n s (Some p) ≡ Some (with_place qs n s (Some a)) = rw (i, placed_under) refl in alone (Some a) (sym some ∙ h)

    go : (o : Option Addr) → addr_at qs n ≡ o → (q : Place) × (new ≡ q ∷ qs) × (q.addr ≡ record { site = s; node = n })
    go (Some a) i = absurd (let none : placed qs n under s ≡ None = rw (i, placed) refl in cc (none, fits))
    go None i = let same : placed qs n under s ≡ placed_under qs n s under = rw (i, placed) refl in by under (sym same ∙ fits)

pub placed_so : (t : Told) (n : ℕ) (under : Option ℕ) (s : List ℕ) (c d : Recording) → IsHeard t c → c.playing ≡ None → placed c.places n under s ≡ Some d.places → d.lanes ≡ c.lanes → d.playing ≡ c.playing
    → ((qs : List Place) (q : Place) → d.places ≡ q ∷ qs → q.addr ≡ record { site = s; node = n } → TellTrees qs [] c.trees → TellTrees (q ∷ qs) [] d.trees) → Comes (told_place t n under s) d
placed_so t n under s c d is none h lanes playing trees = subst (λ (o : Option Told). Comes o d) (sym told) heard
  where
    empty : (t.records ≡ []) × (c.lanes.items ≡ [])
    empty = none_played t.places t.records c.lanes.items c.playing none is.played

    fits : placed t.places n under s ≡ Some d.places
    fits = ap (λ (qs : List Place). placed qs n under s) (sym is.places) ∙ h

    next : Told
    next = record { count = suc t.count; places = d.places; records = [] }

    told : told_place t n under s ≡ Some next
    told =
        ap (λ (rs : List Record). elim rs as (λ _. Option Told) [ [] ↦ option_map (λ (qs : List Place). record { count = suc t.count; places = qs; records = [] }) (placed t.places n under s) | r ∷ more ↦ None ]) empty.0
        ∙ ap (option_map (λ (qs : List Place). record { count = suc t.count; places = qs; records = [] })) fits

    one : (q : Place) × (d.places ≡ q ∷ t.places) × (q.addr ≡ record { site = s; node = n })
    one = placed_one t.places n under s d.places fits

    heard : IsHeard next d
    heard = record {
      places = refl;
      arranged = stays_arranged t.places n under s d.places is.arranged fits;
      apart = tt;
      played = subst (ArePlayed d.places [] d.lanes.items) (sym (playing ∙ none)) (ap (λ l. l.items) lanes ∙ empty.1);
      trees = subst (λ (qs : List Place). TellTrees qs [] d.trees) (sym one.1) (trees t.places one.0 one.1 one.2 (subst (λ (rs : List Record). TellTrees t.places rs c.trees) empty.0 is.trees));
    }

-- ---- a process starts

pub opened : (t : Told) (at : ℕ) (name : List ℕ) (c : Recording) (p : Playing) → AreWhole t c → has_record t.records name ≡ false → IsPlaying t.places (first_deed at name) p → IsHeard (with_records t (first_deed at name ∷ t.records)) (record c { playing = Some p })
opened t at name c p is new playing = record {
  places = is.places;
  arranged = is.arranged;
  apart = (new, is.apart);
  played = (playing, is.lanes);
  trees = first_tells t.places t.records at name c.trees new is.trees;
}

pub gone_on : (t : Told) (at : ℕ) (r : Record) (rs : List Record) (p q : Playing) (c : Recording) (w : Trees) → IsLeft t r rs p c → IsPlaying t.places (with_deed r at (Starts r.site)) q → TellTrees t.places (with_deed r at (Starts r.site) ∷ rs) w
    → IsHeard (with_records t (with_deed r at (Starts r.site) ∷ rs)) (record c { playing = Some q; trees = w })
gone_on t at r rs p q c w is playing trees = record {
  places = is.places;
  arranged = is.arranged;
  apart = is.apart;
  played = (playing, is.lanes);
  trees = trees;
}

-- where no site is played
pub first_whole : (t : Told) (c : Recording) → IsHeard t c → c.playing ≡ None → AreWhole t c
first_whole t c is none =
    let empty = none_played t.places t.records c.lanes.items c.playing none is.played in
    record { places = is.places; arranged = is.arranged; apart = is.apart; lanes = no_lanes t.places t.records c.lanes.items empty.0 empty.1; trees = is.trees }

pub none_told : (t : Told) (c : Recording) → IsHeard t c → c.playing ≡ None → t.records ≡ []
none_told t c is none = (none_played t.places t.records c.lanes.items c.playing none is.played).0

-- where one is
pub record Holds (t : Told) (c : Recording) (p : Playing) : Type 0 where
  pub first : Record
  pub rest : List Record
  pub are : t.records ≡ first ∷ rest
  pub left : IsLeft t first rest p (record c { playing = None })

pub holds : (t : Told) (c : Recording) (p : Playing) → IsHeard t c → c.playing ≡ Some p → Holds t c p
holds t c p is some =
    let k = plays t.places t.records c.lanes.items c.playing p some is.played in
    record { first = k.first; rest = k.rest; are = k.are; left = record { places = is.places; arranged = is.arranged; apart = subst AreApart k.are is.apart; playing = k.playing; lanes = k.lanes; trees = subst (λ (l : List Record). TellTrees t.places l c.trees) k.are is.trees } }

pub other_whole : (t : Told) (c d : Recording) (p : Playing) (h : Holds t c p) → d.places ≡ c.places → d.lanes.items ≡ p.lane ∷ c.lanes.items → d.trees ≡ c.trees → AreWhole t d
other_whole t c d p h places lanes trees = record {
  places = places ∙ h.left.places;
  arranged = h.left.arranged;
  apart = subst AreApart (sym h.are) h.left.apart;
  lanes = subst (λ (l : List Record). AreLanes t.places l d.lanes.items) (sym h.are) (subst (AreLanes t.places (h.first ∷ h.rest)) (sym lanes) (whole_lane t.places h.first p h.left.playing, h.left.lanes));
  trees = subst (λ (l : List Record). TellTrees t.places l d.trees) (sym h.are) (subst (TellTrees t.places (h.first ∷ h.rest)) (sym trees) h.left.trees);
}

-- ---- an event

pub given_so : (t : Told) (at : ℕ) (g : Given) (c : Recording) (p q : Playing) (w : Trees) → IsHeard t c → c.playing ≡ Some p → ((r : Record) → IsPlaying c.places r p → IsPlaying c.places (with_deed r at (Takes r.site g)) q)
    → ((r : Record) (rs : List Record) → IsPlaying c.places r p → TellTrees c.places (r ∷ rs) c.trees → TellTrees c.places (with_deed r at (Takes r.site g) ∷ rs) w)
    → Comes (option_map (with_records t) (with_event t.records at g)) (record c { playing = Some q; trees = w })
given_so t at g c p q w is some goes told =
    let h = holds t c p is some in
    let on : (r : Record) → IsPlaying t.places r p → IsPlaying t.places (with_deed r at (Takes r.site g)) q = subst (λ (qs : List Place). (r : Record) → IsPlaying qs r p → IsPlaying qs (with_deed r at (Takes r.site g)) q) is.places goes in
    let tells : (r : Record) (rs : List Record) → IsPlaying t.places r p → TellTrees t.places (r ∷ rs) c.trees → TellTrees t.places (with_deed r at (Takes r.site g) ∷ rs) w =
    subst (λ (qs : List Place). (r : Record) (rs : List Record) → IsPlaying qs r p → TellTrees qs (r ∷ rs) c.trees → TellTrees qs (with_deed r at (Takes r.site g) ∷ rs) w) is.places told in
    subst (λ (l : List Record). Comes (option_map (with_records t) (with_event l at g)) (record c { playing = Some q; trees = w })) (sym h.are)
    (record { places = is.places; arranged = is.arranged; apart = h.left.apart; played = (on h.first h.left.playing, h.left.lanes); trees = tells h.first h.rest h.left.playing h.left.trees })

-- ---- the end

pub closed_with : (t : Told) (c : Recording) (p : Playing) → IsHeard t c → c.playing ≡ Some p → AreLanes t.places t.records (p.lane ∷ c.lanes.items) × TellTrees t.places t.records c.trees
closed_with t c p is some =
    let h = holds t c p is some in
    (subst (λ (l : List Record). AreLanes t.places l (p.lane ∷ c.lanes.items)) (sym h.are) (whole_lane t.places h.first p h.left.playing, h.left.lanes), is.trees)

pub closed_without : (t : Told) (c : Recording) → IsHeard t c → c.playing ≡ None → AreLanes t.places t.records c.lanes.items × TellTrees t.places t.records c.trees
closed_without t c is none = ((first_whole t c is none).lanes, is.trees)
