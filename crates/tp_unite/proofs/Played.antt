-- A site that is played goes on.
use Rattle.std.proofs.Common.{◌≡◌, ◌++◌, ℕ, refl, ap, sym, ◌∙◌, subst, Option, Some, None, Ok, Err, List, [], ◌∷◌}
use Rattle.tp_names.specs.declared.identifiers.Addr.{Addr}
use Rattle.tp_names.specs.Same.{is_name}
use Rattle.tp_names.proofs.Sames.{name_self}
use Rattle.tp_outside.specs.declared.mem_disk.MemDisk.{MemDisk}
use Rattle.tp_logrec.specs.declared.record.LogRec.{LogRec}
use Rattle.tp_logrec.specs.declared.record.LogVersion.{LogVersion}
use Rattle.tp_records.specs.declared.body.Event.{Event as Given}
use Rattle.tp_journal.specs.Journals.{Kept}
use Rattle.tp_journal.specs.Records.{version_of}
use Rattle.tp_model.specs.declared.refusal.Refusal.{Refusal}
use Rattle.tp_model.specs.Parts.{Event, Entry, Digest, Out, Answer as Told}
use Rattle.tp_model.specs.History.{digest}
use Rattle.tp_model.specs.NodeRun.{Opening, AskedEvent, Refuses, Is, asked, origin_at}
use Rattle.tp_model.specs.Refusal.{number_in}
use Rattle.tp_node.specs.NodeEvent.{answer_at}
use Rattle.tp_site.specs.Nodes.{who_at}
use Rattle.tp_site.specs.Site.{Site, Plays, PlaysInto, known_at, opening_of, told_records}
use Rattle.tp_site.specs.Events.{IsAt, all_nodes, opening_at, history_at, answer_after, given_out, PlaysAsked, StepsTo, IsStepped}
use Rattle.tp_site.specs.declared.faults.SiteFault.{SiteFault}
use Rattle.tp_site.proofs.Entries.{IsGained, has_gained}
use Rattle.tp_site.proofs.Runs.{asked_by_name}
use Rattle.tp_site.proofs.Stepping.{stepping}
use Rattle.tp_site_logs.specs.Lives.{Life, opening_after}
use Rattle.tp_deployments.specs.Deployments.{Deed, Starts, Takes, Place, life_after, answered}
use Rattle.tp_deployments.proofs.Given.{take_here}
use Rattle.tp_weaving.specs.declared.lane.Lane.{Lane}
use Rattle.tp_weaving.specs.declared.step.Step.{Step}
use Rattle.tp_weaving.specs.Frames.{Record, first_deed, with_deed}
use Rattle.tp_weaving.specs.Letters.{letters_in, AreRead}
use Rattle.tp_weaving.specs.Steps.{HasPlace, Brings, IsIdle, IsStepOf, IsTakenBy, IsTaking, IsStep, Leads, numbered}
use Rattle.tp_unite.specs.declared.playing.Playing.{Playing}
use Rattle.tp_unite.specs.Placing.{IsMisplaced}
use Rattle.tp_unite.specs.Playing.{standing, IsPlaying, IsFreshLog, StartsOn}
use Rattle.tp_unite.specs.Said.{AddsLetters}

-- ---- steps

pub leads_more : (qs : List Place) (s : List ℕ) (before after : List Deed) (ts : List Step) (d : Deed) (t : Step) → Leads qs s before ts after → IsStep qs s after d t → Leads qs s before (ts ++ t ∷ []) (d ∷ after)
leads_more qs s before after [] d t same step = (d, subst (λ (b : List Deed). IsStep qs s b d t) (sym same) step, ap (λ (b : List Deed). d ∷ b) same)
leads_more qs s before after (u ∷ ts) d t (c, first, rest) step = (c, first, leads_more qs s (c ∷ before) after ts d t rest step)

pub numbers_more : (before : List ℕ) (ts : List Step) (t : Step) → numbered before (ts ++ t ∷ []) ≡ t.at ∷ numbered before ts
numbers_more before [] t = refl
numbers_more before (u ∷ ts) t = numbers_more (u.at ∷ before) ts t

-- the numbers of the frames, with that of one step more
numbers_are : (r : Record) (at : ℕ) (old new : List Step) (t : Step) → numbered [] old ≡ r.frames → new ≡ old ++ t ∷ [] → t.at ≡ at → numbered [] new ≡ at ∷ r.frames
numbers_are r at old new t is more number = ap (numbered []) more ∙ numbers_more [] old t ∙ ap (λ (n : ℕ). n ∷ numbered [] old) number ∙ ap (λ (ns : List ℕ). at ∷ ns) is

-- ---- a process starts

first_life : (s : List ℕ) → life_after (Starts s ∷ []) s ≡ [] ∷ []
first_life s = rw (name_self s, life_after) refl

next_life : (r : Record) (life : Life) → life_after r.deeds r.site ≡ life → life_after (Starts r.site ∷ r.deeds) r.site ≡ [] ∷ life
next_life r life is = rw (name_self r.site, life_after) (ap (λ (l : Life). [] ∷ l) is)

made : (name : List ℕ) (v w : LogVersion) (rs qs : List LogRec) → v ≡ w → rs ≡ qs → ◌≡◌ {A = Opening} (record { site = name; version = v; records = rs }) (record { site = name; version = w; records = qs })
made name v w rs qs e f = rw (e, f) refl

none_told : (j : Kept MemDisk) → j.list ≡ [] → told_records (standing j) ≡ []
none_told j none = rw (none, told_records) refl

pub first_played : (qs : List Place) (name : List ℕ) (j : Kept MemDisk) (lane : Lane) (site : Site (Kept MemDisk)) (t : Step) (at : ℕ) → IsFreshLog j → StartsOn j name site → lane.name ≡ name → lane.taken ≡ 0 → lane.steps.items ≡ t ∷ [] → IsIdle t → t.at ≡ at
    → IsPlaying qs (first_deed at name) (record { lane = lane; site = site })
first_played qs name j lane site t at fresh starts is_name taken steps idle number = record {
  name = is_name;
  taken = taken;
  leads = subst (λ (ts : List Step). Leads qs name [] ts (Starts name ∷ [])) (sym steps) (Starts name, (refl, idle), refl);
  frames = ap (numbered []) steps ∙ ap (λ (n : ℕ). n ∷ []) number;
  given = [];
  life = [];
  lived = first_life name;
  at = subst (λ (o : Opening). IsAt standing all_nodes o [] site) (made name (version_of j.wide) LogVersion.Two (told_records (standing j)) [] (ap version_of fresh.wide) (none_told j fresh.list)) starts.at;
  is_open = starts.is_open;
}

pub next_played : (qs : List Place) (r : Record) (p : Playing) (lane : Lane) (site : Site (Kept MemDisk)) (t : Step) (at : ℕ) → IsPlaying qs r p → StartsOn p.site.keeper p.lane.name site → lane.name ≡ p.lane.name → lane.taken ≡ p.lane.taken → lane.steps.items ≡ p.lane.steps.items ++ t ∷ [] → IsIdle t → t.at ≡ at
    → IsPlaying qs (with_deed r at (Starts r.site)) (record { lane = lane; site = site })
next_played qs r p lane site t at is starts name taken steps idle number = record {
  name = name ∙ is.name;
  taken = taken ∙ is.taken;
  leads = subst (λ (ts : List Step). Leads qs r.site [] ts (Starts r.site ∷ r.deeds)) (sym steps) (leads_more qs r.site [] r.deeds p.lane.steps.items (Starts r.site) t is.leads (refl, idle));
  frames = numbers_are r at p.lane.steps.items lane.steps.items t is.frames steps number;
  given = [];
  life = is.given ∷ is.life;
  lived = next_life r (is.given ∷ is.life) is.lived;
  at = subst (λ (o : Opening). IsAt standing all_nodes o [] site) opening starts.at;
  is_open = starts.is_open;
}
  where
    two : (s : List ℕ) (life : Life) → (opening_after s life).version ≡ LogVersion.Two
    two s [] = refl
    two s (gs ∷ life) = refl

    opening : opening_of (standing p.site.keeper) p.lane.name ≡ opening_after r.site (is.given ∷ is.life)
    opening =
        ap (opening_of (standing p.site.keeper)) is.name
        ∙ made r.site (version_of (standing p.site.keeper).wide) LogVersion.Two (told_records (standing p.site.keeper)) (opening_after r.site (is.given ∷ is.life)).records (is.at.wide ∙ two r.site is.life) is.at.kept

-- ---- an event is given

abbrev address : List ℕ → ℕ → Addr
address s n = record { site = s; node = n }

pub site_is : (s : List ℕ) (life : Life) → (opening_after s life).site ≡ s
site_is s [] = refl
site_is s (gs ∷ life) = refl

pub asks_on : (s : List ℕ) (life : Life) (g : Given) → asked (opening_after s life) g ≡ asked (opening_at s) g
asks_on s life g = sym (asked_by_name (opening_after s life) g) ∙ ap (λ (n : List ℕ). asked (opening_at n) g) (site_is s life)

went : (qs : List Place) (r : Record) (p : Playing) (is : IsPlaying qs r p) (g : Given) (lane : Lane) (site : Site (Kept MemDisk)) (t : Step) (at : ℕ) → lane.name ≡ p.lane.name → lane.taken ≡ p.lane.taken → lane.steps.items ≡ p.lane.steps.items ++ t ∷ [] → t.at ≡ at
    → IsAt standing all_nodes (opening_after r.site is.life) (is.given ++ g ∷ []) site → site.shut ≡ None → IsTaking qs r.site (is.given ∷ is.life) g t → IsPlaying qs (with_deed r at (Takes r.site g)) (record { lane = lane; site = site })
went qs r p is g lane site t at name taken steps number stands shut taking = record {
  name = name ∙ is.name;
  taken = taken ∙ is.taken;
  leads = subst (λ (ts : List Step). Leads qs r.site [] ts (Takes r.site g ∷ r.deeds)) (sym steps)
      (leads_more qs r.site [] r.deeds p.lane.steps.items (Takes r.site g) t is.leads (refl, subst (λ (l : Life). IsTaking qs r.site l g t) (sym is.lived) taking));
  frames = numbers_are r at p.lane.steps.items lane.steps.items t is.frames steps number;
  given = is.given ++ g ∷ [];
  life = is.life;
  lived = take_here r.site g r.deeds r.site is.given is.life (name_self r.site) is.lived;
  at = stands;
  is_open = shut;
}

-- what is asked of the site in its own name
asked_here : (qs : List Place) (r : Record) (p : Playing) (is : IsPlaying qs r p) (g : Given) (a : AskedEvent) → asked (opening_at r.site) g ≡ a → asked (opening_at p.site.nodes.site) g ≡ a
asked_here qs r p is g a i = ap (λ (n : List ℕ). asked (opening_at n) g) (is.at.site ∙ site_is r.site is.life) ∙ i

-- it says and needs nothing
idle_so : (qs : List Place) (r : Record) (p : Playing) (is : IsPlaying qs r p) (g : Given) (k : ℕ) (t : Step) → answer_after (opening_after r.site is.life) is.given g ≡ record { number = Some k; entry = None } → IsIdle t → IsTaking qs r.site (is.given ∷ is.life) g t
idle_so qs r p is g k t none idle = by (asked (opening_after r.site is.life) g) refl
  where
    answer_by : AskedEvent → Told
    answer_by (Refuses m) = record { number = Some m; entry = None }
    answer_by (Is m f) = answered r.site is.given is.life m f

    by : (a : AskedEvent) → asked (opening_after r.site is.life) g ≡ a → IsTakenBy qs r.site is.given is.life a t
    by (Refuses j) i = idle
    by (Is n e) i =
        let same : answered r.site is.given is.life n e ≡ record { number = Some k; entry = None } = ap (λ (a : AskedEvent). answer_by a) (sym i) ∙ none in
        subst (λ (o : Option Entry). IsStepOf qs (address r.site n) e o t) (sym (ap (λ (a : Told). a.entry) same)) idle

-- it is refused, and the site stays as it was
refused_on : (qs : List Place) (r : Record) (p : Playing) (is : IsPlaying qs r p) (g : Given) (k : ℕ) (lane : Lane) (site : Site (Kept MemDisk)) (t : Step) (at : ℕ) → StepsTo standing all_nodes (opening_after r.site is.life) is.given p.site g (Err (SiteFault.Refused k)) site
    → lane.name ≡ p.lane.name → lane.taken ≡ p.lane.taken → lane.steps.items ≡ p.lane.steps.items ++ t ∷ [] → IsIdle t → t.at ≡ at → IsPlaying qs (with_deed r at (Takes r.site g)) (record { lane = lane; site = site })
refused_on qs r p is g k lane site t at steps name taken more idle number =
    went qs r p is g lane site t at name taken more number steps.0 (ap (λ (x : Site (Kept MemDisk)). x.shut) steps.3 ∙ is.is_open) (idle_so qs r p is g k t steps.1 idle)

pub declined : (qs : List Place) (r : Record) (p : Playing) (is : IsPlaying qs r p) (g : Given) (k : ℕ) (lane : Lane) (t : Step) (at : ℕ) → asked (opening_at r.site) g ≡ Refuses k
    → lane.name ≡ p.lane.name → lane.taken ≡ p.lane.taken → lane.steps.items ≡ p.lane.steps.items ++ t ∷ [] → IsIdle t → t.at ≡ at → IsPlaying qs (with_deed r at (Takes r.site g)) (record { lane = lane; site = p.site })
declined qs r p is g k lane t at asks name taken more idle number =
    refused_on qs r p is g k lane p.site t at
    (stepping standing all_nodes (opening_after r.site is.life) is.given p.site g (Err (SiteFault.Refused k)) p.site is.at refl
    (subst (λ (a : AskedEvent). PlaysAsked standing p.site a (Err (SiteFault.Refused k)) p.site) (sym (asked_here qs r p is g (Refuses k) asks)) (refl, is.is_open, refl)))
    name taken more idle number

pub refused : (qs : List Place) (r : Record) (p : Playing) (is : IsPlaying qs r p) (g : Given) (n : ℕ) (e : Event) (k : ℕ) (lane : Lane) (site : Site (Kept MemDisk)) (t : Step) (at : ℕ) → asked (opening_at r.site) g ≡ Is n e → Plays standing p.site n e (Err (SiteFault.Refused k)) site
    → lane.name ≡ p.lane.name → lane.taken ≡ p.lane.taken → lane.steps.items ≡ p.lane.steps.items ++ t ∷ [] → IsIdle t → t.at ≡ at → IsPlaying qs (with_deed r at (Takes r.site g)) (record { lane = lane; site = site })
refused qs r p is g n e k lane site t at asks plays name taken more idle number =
    refused_on qs r p is g k lane site t at
    (stepping standing all_nodes (opening_after r.site is.life) is.given p.site g (Err (SiteFault.Refused k)) site is.at refl
    (subst (λ (a : AskedEvent). PlaysAsked standing p.site a (Err (SiteFault.Refused k)) site) (sym (asked_here qs r p is g (Is n e) asks)) plays))
    name taken more idle number

-- ---- it happens

asks_here : (qs : List Place) (r : Record) (p : Playing) (is : IsPlaying qs r p) (g : Given) (n : ℕ) (e : Event) → asked (opening_at r.site) g ≡ Is n e → asked (opening_after r.site is.life) g ≡ Is n e
asks_here qs r p is g n e asks = asks_on r.site is.life g ∙ asks

-- what the node gains
gain : (qs : List Place) (r : Record) (p : Playing) (is : IsPlaying qs r p) (n : ℕ) (e : Event) (refusal : Option Refusal) (outs : List Out) (site : Site (Kept MemDisk)) (plays : PlaysInto standing p.site n e (Ok refusal) outs site)
    → IsGained (origin_at (opening_after r.site is.life) n) (history_at (opening_after r.site is.life) is.given n) e (number_in refusal) plays.0
gain qs r p is n e refusal outs site plays = has_gained (origin_at o n) (history_at o is.given n) e (number_in refusal) plays.0 (sym answers ∙ plays.1.answer)
  where
    o : Opening
    o = opening_after r.site is.life

    answers : answer_at (who_at p.site.nodes n) (known_at p.site n) e ≡ answer_at (origin_at o n).who (digest (origin_at o n) (history_at o is.given n)) e
    answers =
        ap (λ (s : List ℕ). answer_at (record { site = s; node = n }) (known_at p.site n) e) is.at.site
        ∙ ap (λ (d : Digest). answer_at (origin_at o n).who d e) (is.at.known n refl)

pub happened : (qs : List Place) (r : Record) (p : Playing) (is : IsPlaying qs r p) (g : Given) (n : ℕ) (e : Event) (refusal : Option Refusal) (outs : List Out) (lane : Lane) (site : Site (Kept MemDisk)) (t : Step) → asked (opening_at r.site) g ≡ Is n e
    → PlaysInto standing p.site n e (Ok refusal) outs site → HasPlace qs (address p.lane.name n) e → Brings (address r.site n) e t.needs → AddsLetters (address p.lane.name n) outs [] t.says.items
    → lane.name ≡ p.lane.name → lane.taken ≡ p.lane.taken → lane.steps.items ≡ p.lane.steps.items ++ t ∷ [] → IsPlaying qs (with_deed r t.at (Takes r.site g)) (record { lane = lane; site = site })
happened qs r p is g n e refusal outs lane site t asks plays has brings adds name taken more =
    went qs r p is g lane site t t.at name taken more refl steps.at steps.open_after
    (subst (λ (a : AskedEvent). IsTakenBy qs r.site is.given is.life a t) (sym on)
    (subst (λ (o : Option Entry). IsStepOf qs (address r.site n) e o t) (sym gained.entry_is)
    (record {
      has = subst (λ (s : List ℕ). HasPlace qs (address s n) e) is.name has;
      brings = brings;
      says = adds.says ∙ ap (λ (s : List ℕ). letters_in (address s n) outs) is.name ∙ ap (letters_in (address r.site n)) same;
      are_read = subst AreRead same adds.are_read;
    })))
  where
    o : Opening
    o = opening_after r.site is.life

    on : asked o g ≡ Is n e
    on = asks_here qs r p is g n e asks

    steps : IsStepped standing all_nodes o is.given p.site g (given_out p.site.nodes.site n (number_in refusal) outs) site
    steps = stepping standing all_nodes o is.given p.site g (Ok (given_out p.site.nodes.site n (number_in refusal) outs)) site is.at refl
        (subst (λ (a : AskedEvent). PlaysAsked standing p.site a (Ok (given_out p.site.nodes.site n (number_in refusal) outs)) site) (sym (asked_here qs r p is g (Is n e) asks)) (record { refusal = refusal; outs = outs }, plays, refl))

    gained : IsGained (origin_at o n) (history_at o is.given n) e (number_in refusal) plays.0
    gained = gain qs r p is n e refusal outs site plays

    same : outs ≡ gained.entry.outs
    same = plays.1.outs ∙ sym gained.outs

-- or something that the event names has no place
pub displaced : (qs : List Place) (r : Record) (p : Playing) (is : IsPlaying qs r p) (g : Given) (n : ℕ) (e : Event) (refusal : Option Refusal) (outs : List Out) (site : Site (Kept MemDisk)) → asked (opening_at r.site) g ≡ Is n e → PlaysInto standing p.site n e (Ok refusal) outs site
    → (HasPlace qs (address p.lane.name n) e → ⊥) → IsMisplaced qs r g
displaced qs r p is g n e refusal outs site asks plays none =
    let gained = gain qs r p is n e refusal outs site plays in
    record {
      given = is.given;
      life = is.life;
      lived = is.lived;
      node = n;
      event = e;
      asks = asks_here qs r p is g n e asks;
      entry = gained.entry;
      made = gained.entry_is;
      unplaced = λ has. none (subst (λ (s : List ℕ). HasPlace qs (address s n) e) (sym is.name) has);
    }
