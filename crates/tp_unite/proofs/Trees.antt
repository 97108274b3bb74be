-- What is kept of the trees, as a site goes on: it tells the deeds of one more frame.
use Rattle.std.proofs.Common.{◌≡◌, ◌==◌, ◌++◌, ◌&&◌, ℕ, Bool, true, false, refl, ap, sym, ◌∙◌, subst, arith, length, Option, Some, None, Ok, List, [], ◌∷◌}
use Rattle.std.specs.Option.{option_map}
use Rattle.std.proofs.lemmas.Bool.Decides.{nat_tests}
use Rattle.tp_names.specs.declared.identifiers.Addr.{Addr}
use Rattle.tp_names.specs.Same.{is_name, is_addr}
use Rattle.tp_names.proofs.Sames.{name_same, name_self}
use Rattle.tp_outside.specs.declared.mem_disk.MemDisk.{MemDisk}
use Rattle.tp_logrec.specs.declared.record.LogRec.{LogRec}
use Rattle.tp_records.specs.declared.body.Event.{Event as Given}
use Rattle.tp_journal.specs.Journals.{Kept}
use Rattle.tp_model.specs.declared.out_line.LogWords.{LogWords}
use Rattle.tp_model.specs.declared.refusal.Refusal.{Refusal}
use Rattle.tp_model.specs.Parts.{Event, Entry, Digest, Out, Answer as Told}
use Rattle.tp_model.specs.Happenings.{log_shown}
use Rattle.tp_model.specs.History.{digest, crashed}
use Rattle.tp_model.specs.Node.{Move}
use Rattle.tp_model.specs.NodeRun.{AskedEvent, Refuses, Is, asked, origin_at}
use Rattle.tp_model.specs.Outcomes.{is_unchanged}
use Rattle.tp_model.specs.Refusal.{number_in}
use Rattle.tp_model.specs.World.{Node}
use Rattle.tp_node.specs.NodeEvent.{answer_at, Refuses as NoAnswer}
use Rattle.tp_node.specs.State.{tree_in}
use Rattle.tp_runs.proofs.Lanes.{chosen}
use Rattle.tp_site.specs.Events.{opening_at, history_at as history_by}
use Rattle.tp_site.specs.Nodes.{who_at}
use Rattle.tp_site.specs.Site.{Site, PlaysInto, IsPlayed, Plays, known_at}
use Rattle.tp_site.specs.declared.faults.SiteFault.{SiteFault}
use Rattle.tp_site.proofs.Entries.{IsGained, IsTurnedDown, has_gained, turned_down}
use Rattle.tp_site_logs.specs.Lives.{Life, opening_after, history_in, history_over, first_origin}
use Rattle.tp_site_logs.proofs.Lives.{knows}
use Rattle.tp_deployments.specs.Deployments.{Deed, Starts, Takes, Place, with_given, life_after, history_at, answered}
use Rattle.tp_deployments.specs.RunOf.{node_at}
use Rattle.tp_deployments.proofs.Given.{in_refused, in_asked, in_taken, same_at}
use Rattle.tp_weaving.specs.Frames.{Record, first_deed, with_deed, has_record}
use Rattle.tp_weaving.specs.Places.{find_place}
use Rattle.tp_weaving.proofs.Grown.{gains}
use Rattle.tp_world_sites.specs.Slots.{shown_behind}
use Rattle.tp_world_sites.proofs.Logs.{shown_forced}
use Rattle.tp_closing.specs.declared.trees.Trees.{Trees}
use Rattle.tp_closing.specs.Closing.{deeds_of}
use Rattle.tp_closing.specs.Seen.{words_heeded, AreSeen, Sees, IsEntered, IsStopped, oldest_first}
use Rattle.tp_closing.specs.Told.{IsAlone, TellTrees}
use Rattle.tp_closing.proofs.SeenTo.{seen_still}
use Rattle.tp_unite.specs.declared.playing.Playing.{Playing}
use Rattle.tp_unite.specs.Playing.{standing, IsPlaying}
use Rattle.tp_unite.specs.Recording.{superior_at}
use Rattle.tp_unite.proofs.Played.{asks_on, site_is}

-- ---- lives

on_start : (n s : List ℕ) (ds : List Deed) → is_name n s ≡ true → life_after (Starts n ∷ ds) s ≡ [] ∷ life_after ds s
on_start n s ds i = rw (i, life_after) refl

off_start : (n s : List ℕ) (ds : List Deed) → is_name n s ≡ false → life_after (Starts n ∷ ds) s ≡ life_after ds s
off_start n s ds i = rw (i, life_after) refl

on_take : (n s : List ℕ) (g : Given) (ds : List Deed) → is_name n s ≡ true → life_after (Takes n g ∷ ds) s ≡ with_given g (life_after ds s)
on_take n s g ds i = rw (i, life_after) refl

off_take : (n s : List ℕ) (g : Given) (ds : List Deed) → is_name n s ≡ false → life_after (Takes n g ∷ ds) s ≡ life_after ds s
off_take n s g ds i = rw (i, life_after) refl

first_off : (r : Record) (rs : List Record) (s : List ℕ) → has_record (r ∷ rs) s ≡ false → is_name r.site s ≡ false
first_off r rs s h = go (is_name r.site s) refl
  where
    go : (b : Bool) → is_name r.site s ≡ b → is_name r.site s ≡ false
    go false i = i
    go true i = absurd (let on : has_record (r ∷ rs) s ≡ true = rw (i, has_record) refl in cc (on, h))

rest_off : (r : Record) (rs : List Record) (s : List ℕ) → has_record (r ∷ rs) s ≡ false → has_record rs s ≡ false
rest_off r rs s h = let i : is_name r.site s ≡ false = first_off r rs s h in let same : has_record (r ∷ rs) s ≡ has_record rs s = rw (i, has_record) refl in sym same ∙ h

-- ---- where nothing happens to a node

still : (qs : List Place) (old new : List Deed) (v : Trees) → ((a : Addr) → history_at new a ≡ history_at old a) → Sees old qs v → Sees new qs v
still qs old new v same sees = seen_still new old (oldest_first qs) v.slots.items v.states.items (λ q. node_same q (same q.addr)) sees
  where
    node_same : (q : Place) → history_at new q.addr ≡ history_at old q.addr → node_at new q ≡ node_at old q
    node_same q h = ap (λ (l : List Entry). let n : Node = record { origin = first_origin q.addr.site q.addr.node; superior = q.superior; history = l } in n) h

-- ---- nothing was told

pub none_tells : (v : Trees) → Sees [] [] v → TellTrees [] [] v
none_tells v sees = record { sees = sees; others = λ s h. refl; alone = tt }

-- and a node has its place

pub place_tells : (q : Place) (qs : List Place) (v w : Trees) → (Sees [] qs v → Sees [] (q ∷ qs) w) → TellTrees qs [] v → TellTrees (q ∷ qs) [] w
place_tells q qs v w more tell = record { sees = more tell.sees; others = λ s h. refl; alone = tt }

first_superior : (q : Place) (qs ps : List Place) (a : Addr) → ps ≡ q ∷ qs → q.addr ≡ a → superior_at ps a ≡ q.superior
first_superior q qs ps a is here = ap (λ (l : List Place). superior_at l a) is ∙ ap (superior_at (q ∷ qs)) (sym here) ∙ first
  where
    self : is_addr q.addr q.addr ≡ true
    self = rw (name_self q.addr.site) (grind (arith, nat_tests))

    first : superior_at (q ∷ qs) q.addr ≡ q.superior
    first = rw (self, superior_at, find_place) refl

pub seen_tells : (q : Place) (qs ps : List Place) (a : Addr) (superior : Option Addr) (v w : Trees) → ps ≡ q ∷ qs → q.addr ≡ a → superior ≡ superior_at ps a
    → ((ds : List Deed) (rs : List Place) → history_at ds a ≡ [] → Sees ds rs v → Sees ds (record { addr = a; superior = superior } ∷ rs) w) → TellTrees qs [] v → TellTrees (q ∷ qs) [] w
seen_tells q qs ps a superior v w is here found more tell = place_tells q qs v w (λ sees. subst (λ (p : Place). Sees [] (p ∷ qs) w) same (more [] qs refl sees)) tell
  where
    same : ◌≡◌ {A = Place} (record { addr = a; superior = superior }) q
    same =
        ap (λ (x : Addr). let p : Place = record { addr = x; superior = superior } in p) (sym here)
        ∙ ap (λ (s : Option Addr). let p : Place = record { addr = q.addr; superior = s } in p) (found ∙ first_superior q qs ps a is here)

-- ---- a site comes

pub first_tells : (qs : List Place) (rs : List Record) (at : ℕ) (s : List ℕ) (v : Trees) → has_record rs s ≡ false → TellTrees qs rs v → TellTrees qs (first_deed at s ∷ rs) v
first_tells qs rs at s v new tell = record {
  sees = still qs (deeds_of rs) (Starts s ∷ deeds_of rs) v (λ a. same a (is_name s a.site) refl) tell.sees;
  others = λ t h. off_start s t (deeds_of rs) (first_off (first_deed at s) rs t h) ∙ tell.others t (rest_off (first_deed at s) rs t h);
  alone = on_start s s (deeds_of rs) (name_self s) ∙ ap (λ (l : Life). [] ∷ l) (tell.others s new) ∙ sym (on_start s s [] (name_self s));
}
  where
    same : (a : Addr) (b : Bool) → is_name s a.site ≡ b → history_at (Starts s ∷ deeds_of rs) a ≡ history_at (deeds_of rs) a
    same a false i = ap (λ (l : Life). history_over a.site l a.node) (off_start s a.site (deeds_of rs) i)
    same a true i =
        let none : life_after (deeds_of rs) a.site ≡ [] = ap (life_after (deeds_of rs)) (sym (name_same s a.site i)) ∙ tell.others s new in
        ap (λ (l : Life). history_over a.site l a.node) (on_start s a.site (deeds_of rs) i ∙ ap (λ (l : Life). [] ∷ l) none) ∙ sym (ap (λ (l : Life). history_over a.site l a.node) none)

-- ---- the next process

-- what the site knows of a node is what the node's history tells
known_here : (qs : List Place) (r : Record) (p : Playing) (is : IsPlaying qs r p) (n : ℕ) → known_at p.site n ≡ digest (first_origin r.site n) (history_over r.site (life_after r.deeds r.site) n)
known_here qs r p is n = is.at.known n refl ∙ knows r.site is.given is.life n ∙ ap (λ (l : Life). digest (first_origin r.site n) (history_over r.site l n)) (sym is.lived)

name_here : (qs : List Place) (r : Record) (p : Playing) (is : IsPlaying qs r p) → p.site.nodes.site ≡ r.site
name_here qs r p is = is.at.site ∙ site_is r.site is.life

abbrev pub all_with : Record → List Record → Deed → List Deed
all_with r rs d = d ∷ deeds_of (r ∷ rs)

next_alone : (r : Record) (rs : List Record) → IsAlone (r ∷ rs) → life_after (Starts r.site ∷ deeds_of (r ∷ rs)) r.site ≡ life_after (Starts r.site ∷ r.deeds) r.site
next_alone r rs alone = on_start r.site r.site (deeds_of (r ∷ rs)) (name_self r.site) ∙ ap (λ (l : Life). [] ∷ l) alone ∙ sym (on_start r.site r.site r.deeds (name_self r.site))

pub next_stops : (qs : List Place) (r : Record) (rs : List Record) (p q : Playing) (at : ℕ) → IsPlaying qs r p → IsPlaying qs (with_deed r at (Starts r.site)) q → IsAlone (r ∷ rs)
    → IsStopped (deeds_of (r ∷ rs)) (Starts r.site ∷ deeds_of (r ∷ rs)) q.site.nodes.site (λ n. tree_in (known_at q.site n))
next_stops qs r rs p q at was is alone = record {
  here = λ a h. here a (named a h);
  there = λ a h. ap (λ (l : Life). history_over a.site l a.node) (off_start r.site a.site all (off a h));
  after_is = λ a h. let same : a.site ≡ r.site = named a h in
      ap tree_in (known_here qs (with_deed r at (Starts r.site)) q is a.node
      ∙ ap (λ (l : Life). digest (first_origin r.site a.node) (history_over r.site l a.node)) (sym (next_alone r rs alone))
      ∙ ap (λ (s : List ℕ). digest (first_origin s a.node) (history_over s (life_after (Starts r.site ∷ all) s) a.node)) (sym same));
}
  where
    all : List Deed
    all = deeds_of (r ∷ rs)

    name : q.site.nodes.site ≡ r.site
    name = name_here qs (with_deed r at (Starts r.site)) q is

    named : (a : Addr) → is_name a.site q.site.nodes.site ≡ true → a.site ≡ r.site
    named a h = name_same a.site q.site.nodes.site h ∙ name

    off : (a : Addr) → is_name a.site q.site.nodes.site ≡ false → is_name r.site a.site ≡ false
    off a h = go (is_name r.site a.site) refl
      where
        go : (b : Bool) → is_name r.site a.site ≡ b → is_name r.site a.site ≡ false
        go false i = i
        go true i = absurd (let on : is_name a.site q.site.nodes.site ≡ true = ap (is_name a.site) (name ∙ name_same r.site a.site i) ∙ name_self a.site in cc (on, h))

    lived : (s : List ℕ) → s ≡ r.site → life_after all s ≡ was.given ∷ was.life
    lived s same = ap (life_after all) same ∙ alone ∙ was.lived

    here : (a : Addr) → a.site ≡ r.site → history_at (Starts r.site ∷ all) a ≡ crashed (history_at all a)
    here a same =
        ap (λ (l : Life). history_over a.site l a.node) (on_start r.site a.site all (ap (is_name r.site) same ∙ name_self r.site) ∙ ap (λ (l : Life). [] ∷ l) (lived a.site same))
        ∙ sym (ap (λ (l : Life). crashed (history_over a.site l a.node)) (lived a.site same))

pub next_tells : (qs : List Place) (r : Record) (rs : List Record) (at : ℕ) (v w : Trees) → TellTrees qs (r ∷ rs) v → Sees (Starts r.site ∷ deeds_of (r ∷ rs)) qs w → TellTrees qs (with_deed r at (Starts r.site) ∷ rs) w
next_tells qs r rs at v w tell sees = record {
  sees = sees;
  others = λ t h. off_start r.site t (deeds_of (r ∷ rs)) (first_off (with_deed r at (Starts r.site)) rs t h) ∙ tell.others t (same t h);
  alone = next_alone r rs tell.alone;
}
  where
    same : (t : List ℕ) → has_record (with_deed r at (Starts r.site) ∷ rs) t ≡ false → has_record (r ∷ rs) t ≡ false
    same t h = h

-- ---- an event

pub take_tells : (qs : List Place) (r : Record) (rs : List Record) (g : Given) (at : ℕ) (v w : Trees) → TellTrees qs (r ∷ rs) v → Sees (Takes r.site g ∷ deeds_of (r ∷ rs)) qs w → TellTrees qs (with_deed r at (Takes r.site g) ∷ rs) w
take_tells qs r rs g at v w tell sees = record {
  sees = sees;
  others = λ t h. off_take r.site t g (deeds_of (r ∷ rs)) (first_off (with_deed r at (Takes r.site g)) rs t h) ∙ tell.others t h;
  alone = on_take r.site r.site g (deeds_of (r ∷ rs)) (name_self r.site) ∙ ap (with_given g) tell.alone ∙ sym (on_take r.site r.site g r.deeds (name_self r.site));
}

-- that is refused, by the site or by the node
quiet_tells : (qs : List Place) (r : Record) (rs : List Record) (p : Playing) (is : IsPlaying qs r p) (g : Given) (at : ℕ) (v : Trees) → ((m : ℕ) → history_in r.site is.life (is.given ++ g ∷ []) m ≡ history_in r.site is.life is.given m)
    → TellTrees qs (r ∷ rs) v → TellTrees qs (with_deed r at (Takes r.site g) ∷ rs) v
quiet_tells qs r rs p is g at v same tell =
    take_tells qs r rs g at v v tell (still qs (deeds_of (r ∷ rs)) (Takes r.site g ∷ deeds_of (r ∷ rs)) v (λ a. same_at r.site g (deeds_of (r ∷ rs)) is.given is.life a (tell.alone ∙ is.lived) (λ here. same a.node)) tell.sees)

pub declined_tells : (qs : List Place) (r : Record) (rs : List Record) (p : Playing) (g : Given) (k : ℕ) (at : ℕ) (v : Trees) → IsPlaying qs r p → asked (opening_at r.site) g ≡ Refuses k → TellTrees qs (r ∷ rs) v → TellTrees qs (with_deed r at (Takes r.site g) ∷ rs) v
declined_tells qs r rs p g k at v is asks tell = quiet_tells qs r rs p is g at v (λ m. in_refused r.site is.life is.given g k m (asks_on r.site is.life g ∙ asks)) tell

-- what the node answers, by its history in this process
answers_here : (qs : List Place) (r : Record) (p : Playing) (is : IsPlaying qs r p) (n : ℕ) (e : Event)
    → answer_at (who_at p.site.nodes n) (known_at p.site n) e ≡ answer_at (origin_at (opening_after r.site is.life) n).who (digest (origin_at (opening_after r.site is.life) n) (history_in r.site is.life is.given n)) e
answers_here qs r p is n e =
    ap (λ (s : List ℕ). answer_at (record { site = s; node = n }) (known_at p.site n) e) is.at.site
    ∙ ap (λ (d : Digest). answer_at (origin_at (opening_after r.site is.life) n).who d e) (is.at.known n refl)

pub refused_tells : (qs : List Place) (r : Record) (rs : List Record) (p : Playing) (g : Given) (n : ℕ) (e : Event) (k : ℕ) (at : ℕ) (v : Trees) → IsPlaying qs r p → asked (opening_at r.site) g ≡ Is n e
    → answer_at (who_at p.site.nodes n) (known_at p.site n) e ≡ NoAnswer k → TellTrees qs (r ∷ rs) v → TellTrees qs (with_deed r at (Takes r.site g) ∷ rs) v
refused_tells qs r rs p g n e k at v is asks refuses tell =
    let down = turned_down (origin_at (opening_after r.site is.life) n) (history_in r.site is.life is.given n) e k (sym (answers_here qs r p is n e) ∙ refuses) in
    quiet_tells qs r rs p is g at v (λ m. in_asked r.site is.life is.given g n e None m (asks_on r.site is.life g ∙ asks) down.entry_is) tell

abbrev pub address : List ℕ → ℕ → Addr
address s n = record { site = s; node = n }

-- it happens
pub happened_enters : (qs : List Place) (r : Record) (rs : List Record) (p q : Playing) (is : IsPlaying qs r p) (g : Given) (n : ℕ) (e : Event) (refusal : Option Refusal) (outs : List Out) (site : Site (Kept MemDisk)) (count : ℕ) (at : ℕ) → asked (opening_at r.site) g ≡ Is n e
    → PlaysInto standing p.site n e (Ok refusal) outs site → IsPlaying qs (with_deed r at (Takes r.site g)) q → q.site ≡ site → count ≡ length p.site.keeper.list → IsAlone (r ∷ rs)
    → IsEntered (deeds_of (r ∷ rs)) (Takes r.site g ∷ deeds_of (r ∷ rs)) (address p.lane.name n) (record { after = tree_in (known_at site n); leaves = is_unchanged e; rec = words_heeded (shown_behind site.keeper.list count) })
happened_enters qs r rs p q is g n e refusal outs site count at asks plays next same counts alone =
    subst (λ (s : List ℕ). IsEntered all (Takes r.site g ∷ all) (address s n) (record { after = tree_in (known_at site n); leaves = is_unchanged e; rec = words_heeded (shown_behind site.keeper.list count) })) (sym is.name) (record {
      entry = gained.entry;
      here = gains r.site g all is.given is.life n e gained.entry lived on gained.entry_is;
      there = λ a off. others a off;
      after_is = ap (λ (x : Site (Kept MemDisk)). tree_in (known_at x n)) (sym same) ∙ ap tree_in (known_here qs (with_deed r at (Takes r.site g)) q next n)
          ∙ ap (λ (l : Life). tree_in (digest (first_origin r.site n) (history_over r.site l n))) (sym alone_then);
      leaves_is = sym gained.leaves;
      rec_is = ap (λ (k : ℕ). words_heeded (shown_behind site.keeper.list k)) counts ∙ ap words_heeded (shown_forced p.site.keeper site.keeper m.rec x.forced ∙ ap (option_map log_shown) (sym gained.rec));
    })
  where
    all : List Deed
    all = deeds_of (r ∷ rs)

    lived : life_after all r.site ≡ is.given ∷ is.life
    lived = alone ∙ is.lived

    on : asked (opening_after r.site is.life) g ≡ Is n e
    on = asks_on r.site is.life g ∙ asks

    m : Move
    m = plays.0

    x : IsPlayed standing p.site n e (record { refusal = refusal; outs = outs }) site m
    x = plays.1

    gained : IsGained (origin_at (opening_after r.site is.life) n) (history_in r.site is.life is.given n) e (number_in refusal) m
    gained = has_gained (origin_at (opening_after r.site is.life) n) (history_in r.site is.life is.given n) e (number_in refusal) m (sym (answers_here qs r p is n e) ∙ x.answer)

    alone_then : life_after (Takes r.site g ∷ all) r.site ≡ life_after (Takes r.site g ∷ r.deeds) r.site
    alone_then = on_take r.site r.site g all (name_self r.site) ∙ ap (with_given g) alone ∙ sym (on_take r.site r.site g r.deeds (name_self r.site))

    others : (a : Addr) → is_addr a (address r.site n) ≡ false → history_at (Takes r.site g ∷ all) a ≡ history_at all a
    others a off = same_at r.site g all is.given is.life a lived (λ here.
        in_taken r.site is.life is.given g n e gained.entry a.node on gained.entry_is ∙ ap (λ (b : Bool). chosen b (gained.entry ∷ history_in r.site is.life is.given n) (history_in r.site is.life is.given a.node)) (apart a off here))
      where
        apart : (a : Addr) → is_addr a (address r.site n) ≡ false → is_name r.site a.site ≡ true → (n == a.node) ≡ false
        apart a off here = go (n == a.node) refl
          where
            go : (b : Bool) → (n == a.node) ≡ b → (n == a.node) ≡ false
            go false i = i
            go true i = absurd (
                let name : is_name a.site r.site ≡ true = ap (is_name a.site) (name_same r.site a.site here) ∙ name_self a.site in
                let number : (a.node == n) ≡ true = grind (arith, nat_tests, i) in
                let both : is_addr a (address r.site n) ≡ true = grind (arith, name, number) in
                cc (both, off))
