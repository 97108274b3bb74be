-- A deployment is a run: each deed is a happening of the world, or none.
use Rattle.std.proofs.Common.{◌≡◌, ◌==◌, ◌++◌, ℕ, Bool, true, false, cond, refl, ap, sym, ◌∙◌, subst, arith, Option, Some, None, List, [], ◌∷◌, inl, inr}
use Rattle.std.proofs.lemmas.Bool.Decides.{nat_tests}
use Rattle.tp_names.specs.declared.identifiers.Addr.{Addr}
use Rattle.tp_names.specs.Same.{is_name}
use Rattle.tp_names.proofs.Sames.{name_same, name_self}
use Rattle.tp_records.specs.declared.peer.PeerRecord.{PeerRecord}
use Rattle.tp_records.specs.declared.body.Event.{Event as Given}
use Rattle.tp_model.specs.Parts.{Event, Entry, Answer}
use Rattle.tp_model.specs.History.{answer}
use Rattle.tp_model.specs.World.{World, Node, Site, Frame, addr_of, find_node, put_node, addr_at, find_site, put_site}
use Rattle.tp_model.specs.Happenings.{Happening, happens, run, frames_of, booted, stopped_at}
use Rattle.tp_model.specs.NodeRun.{AskedEvent, Refuses, Is, asked}
use Rattle.tp_histories.specs.Histories.{IsSentIn, HasSent}
use Rattle.tp_histories.proofs.worlds.Turns.{halts, by_start}
use Rattle.tp_runs.specs.Framed.{IsFrameTo}
use Rattle.tp_runs.proofs.Lanes.{chosen}
use Rattle.tp_site_logs.proofs.Places.{site_put_at}
use Rattle.tp_site_logs.specs.Lives.{Life, opening_after, history_in, history_over, first_origin}
use Rattle.tp_deployments.specs.Deployments.{Deed, Starts, Takes, life_after, history_at, Place, IsAmong, IsThere, AreArranged, IsCarried, IsHeeded, answered, IsFit, IsTaken, IsDeployment}
use Rattle.tp_deployments.specs.RunOf.{node_at, nodes_of, IsRunOf, ADeploymentIsARun, ADeploymentGoesOn}
use Rattle.tp_deployments.proofs.Places.{find_there, put_there}
use Rattle.tp_deployments.proofs.Placing.{placing, IsLaidOut, laid_out}
use Rattle.tp_deployments.proofs.Starting.{all_stopped, none_started, none_here, start_says}
use Rattle.tp_deployments.proofs.Given.{in_refused, in_asked, in_taken, before, over_in, take_here, same_at, node_with, all_same, answers_alike}
use Rattle.tp_deployments.proofs.Happened.{IsMoved, to_more, to_behind, said_to, plain_given, happening_for}

-- ---- the deeds, one by one

-- after these happenings, the newest first
abbrev pub Run : List Happening → List Place → List Deed → Type 0
Run es qs ds = (us : List Happening) × IsRunOf qs ds (run (us ++ es))

nothing_yet : (qs : List Place) → AreArranged qs → IsRunOf qs [] (run (placing qs))
nothing_yet qs arr =
    let k : IsLaidOut qs (run (placing qs)) = laid_out qs arr in
    record {
      nodes = k.nodes;
      frames = λ a to r t h. absurd h;
      sites = λ a t. subst (λ (b : Addr). (x : Site) × (find_site (run (placing qs)).sites b.site ≡ Some x)) t.2 (k.sites t.0 t.1);
    }

sites_stay : (w : World) (s t : List ℕ) (u : Site) → find_site w.sites s ≡ Some u → (x : Site) × (find_site w.sites t ≡ Some x) → (x : Site) × (find_site (put_site w.sites (booted u)) t ≡ Some x)
sites_stay w s t u i x = there (is_name s t) (site_put_at w.sites s u (booted u) t i refl)
  where
    there : (b : Bool) → find_site (put_site w.sites (booted u)) t ≡ cond b (Some (booted u)) (find_site w.sites t) → (z : Site) × (find_site (put_site w.sites (booted u)) t ≡ Some z)
    there true looks = (booted u, looks)
    there false looks = (x.0, looks ∙ x.1)

-- no node stands at a site that is not there
none_there : (w : World) (s : List ℕ) (qs : List Place) → find_site w.sites s ≡ None → ((a : Addr) → IsThere qs a → (x : Site) × (find_site w.sites a.site ≡ Some x)) → (q : Place) → IsAmong q qs → is_name s q.addr.site ≡ false
none_there w s qs none sites q among = go (is_name s q.addr.site) refl
  where
    go : (b : Bool) → is_name s q.addr.site ≡ b → is_name s q.addr.site ≡ false
    go false i = i
    go true i = let x = sites q.addr (q, among, refl) in absurd (let off : None ≡ Some x.0 = sym none ∙ ap (find_site w.sites) (name_same s q.addr.site i) ∙ x.1 in cc (off))

starts_run : (es : List Happening) (qs : List Place) (s : List ℕ) (ds : List Deed) → Run es qs ds → Run es qs (Starts s ∷ ds)
starts_run es qs s ds k = go (life_after ds s) refl
  where
    w : World
    w = run (k.0 ++ es)

    says : (a to : Addr) (r : PeerRecord) → IsThere qs a → HasSent (history_at (Starts s ∷ ds) a) to r → IsFrameTo w.frames a to r
    says a to r t h = k.1.frames a to r t (start_says s ds a to r h)

    go : (life : Life) → life_after ds s ≡ life → Run es qs (Starts s ∷ ds)
    go [] is = (k.0, record { nodes = k.1.nodes ∙ none_started s qs ds is; frames = says; sites = k.1.sites })
    go (gs ∷ life) is = (
      Happening.Stop s ∷ k.0,
      by_start (IsRunOf qs (Starts s ∷ ds)) halts w s
          (λ i. record { nodes = k.1.nodes ∙ none_here s qs ds (none_there w s qs i k.1.sites); frames = says; sites = k.1.sites })
          (λ x i. record { nodes = ap (stopped_at s) k.1.nodes ∙ all_stopped s qs ds gs life is; frames = says; sites = λ a t. sites_stay w s a.site x i (k.1.sites a t) }),
    )

-- nothing happens to any node
quiet_run : (es : List Happening) (qs : List Place) (s : List ℕ) (g : Given) (ds : List Deed) → ((a : Addr) → history_at (Takes s g ∷ ds) a ≡ history_at ds a) → Run es qs ds → Run es qs (Takes s g ∷ ds)
quiet_run es qs s g ds same k = (
  k.0,
  record {
    nodes = k.1.nodes ∙ all_same s g ds qs same;
    frames = λ a to r t h. k.1.frames a to r t (subst (λ (l : List Entry). HasSent l to r) (same a) h);
    sites = k.1.sites;
  },
)

-- a node takes the event
addr_same : (s t : List ℕ) (m n : ℕ) → s ≡ t → m ≡ n → ◌≡◌ {A = Addr} (record { site = s; node = m }) (record { site = t; node = n })
addr_same s t m n h i = rw (h, i) refl

takes_at : (s : List ℕ) (g : Given) (ds : List Deed) (gs : List Given) (life : Life) (n : ℕ) (e : Event) (y : Entry) → life_after ds s ≡ gs ∷ life → asked (opening_after s life) g ≡ Is n e → (answered s gs life n e).entry ≡ Some y
    → history_at (Takes s g ∷ ds) (record { site = s; node = n }) ≡ y ∷ history_at ds (record { site = s; node = n })
takes_at s g ds gs life n e y is i made =
    ap (λ (l : Life). history_over s l n) (take_here s g ds s gs life (name_self s) is)
    ∙ over_in s (gs ++ g ∷ []) life n
    ∙ ap (λ (h : List Entry). h ++ before s life n) (in_taken s life gs g n e y n i made ∙ ap (λ (b : Bool). chosen b (y ∷ history_in s life gs n) (history_in s life gs n)) itself)
    ∙ ap (λ (h : List Entry). y ∷ h) (sym (over_in s gs life n) ∙ ap (λ (l : Life). history_over s l n) (sym is))
  where
    itself : (n == n) ≡ true
    itself = grind (arith, nat_tests)

others_at : (s : List ℕ) (g : Given) (ds : List Deed) (gs : List Given) (life : Life) (n : ℕ) (e : Event) (y : Entry) (a : Addr) → life_after ds s ≡ gs ∷ life → asked (opening_after s life) g ≡ Is n e → (answered s gs life n e).entry ≡ Some y
    → (is_name s a.site ≡ true → (n == a.node) ≡ false) → history_at (Takes s g ∷ ds) a ≡ history_at ds a
others_at s g ds gs life n e y a is i made off =
    same_at s g ds gs life a is (λ here. in_taken s life gs g n e y a.node i made ∙ ap (λ (b : Bool). chosen b (y ∷ history_in s life gs n) (history_in s life gs a.node)) (off here))

record Taking (qs : List Place) (ds : List Deed) (s : List ℕ) (g : Given) (n : ℕ) (e : Event) (y : Entry) : Type 0 where
  gs : List Given
  life : Life
  is : life_after ds s ≡ gs ∷ life
  asks : asked (opening_after s life) g ≡ Is n e
  made : (answered s gs life n e).entry ≡ Some y
  heeded : IsHeeded qs ds (record { site = s; node = n }) e

taking_run : (es : List Happening) (qs : List Place) → AreArranged qs → (ds : List Deed) (s : List ℕ) (g : Given) (n : ℕ) (e : Event) (y : Entry) → Taking qs ds s g n e y → Run es qs ds → Run es qs (Takes s g ∷ ds)
taking_run es qs arr ds s g n e y t k = (
  m.0 ∷ k.0,
  record {
    nodes = m.1.nodes ∙ ap (λ (l : List Node). put_node l (record x { history = y ∷ x.history })) k.1.nodes ∙ ap (put_node (nodes_of qs ds)) (sym now) ∙ put_there qs ds (Takes s g ∷ ds) q arr t.heeded.among (λ r h off. ap (node_with r) (others r off));
    frames = λ a to r there h. says a to r there h (is_name s a.site) refl (n == a.node) refl;
    sites = λ a there. m.1.sites a.site (k.1.sites a there);
  },
)
  where
    at : Addr
    at = record { site = s; node = n }

    w : World
    w = run (k.0 ++ es)

    q : Place
    q = t.heeded.place

    x : Node
    x = node_at ds q

    here : q.addr ≡ at
    here = t.heeded.here

    found : (p : Place) → IsAmong p qs → find_node w.nodes p.addr.node ≡ Some (node_at ds p)
    found p h = ap (λ (l : List Node). find_node l p.addr.node) k.1.nodes ∙ find_there qs ds p arr h

    there : (a : Addr) → IsThere qs a → addr_at w a.node ≡ Some a
    there a h =
        let f : find_node w.nodes a.node ≡ Some (node_at ds h.0) = ap (λ (b : Addr). find_node w.nodes b.node) (sym h.2) ∙ found h.0 h.1 in
        rw (f, addr_at) (ap (λ (b : Addr). Some b) h.2)

    came : (from : Addr) (r : PeerRecord) → e ≡ Event.Arrive from r → IsFrameTo w.frames from (addr_of x) r
    came from r is =
        let c : IsThere qs from × HasSent (history_at ds from) at r = subst (λ (f : Event). IsCarried qs ds at f) is t.heeded.carried in
        subst (λ (a : Addr). IsFrameTo w.frames from a r) (sym here) (k.1.frames from at r c.0 c.1)

    made : (answer x.origin x.history e).entry ≡ Some y
    made =
        ap (λ (a : Addr). (answer (first_origin a.site a.node) (history_at ds a) e).entry) here
        ∙ ap (λ (l : Life). (answer (first_origin s n) (history_over s l n) e).entry) t.is
        ∙ sym (ap (λ (a : Answer). a.entry) (answers_alike s t.gs t.life n e)) ∙ t.made

    m : (u : Happening) × IsMoved w x y (happens w u).world
    m = happening_for qs w q x e y (plain_given (opening_after s t.life) g n e t.asks) (record { here = found q t.heeded.among; superior = refl; placed = t.heeded.placed; there = there; came = came }) made

    now : node_at (Takes s g ∷ ds) q ≡ record x { history = y ∷ x.history }
    now = ap (node_with q) (ap (history_at (Takes s g ∷ ds)) here ∙ takes_at s g ds t.gs t.life n e y t.is t.asks t.made ∙ ap (λ (a : Addr). y ∷ history_at ds a) (sym here))

    swap : (a b : ℕ) → (a == b) ≡ false → (b == a) ≡ false
    swap a b h = grind (arith, nat_tests, h)

    others : (r : Place) → (r.addr.node == q.addr.node) ≡ false → history_at (Takes s g ∷ ds) r.addr ≡ history_at ds r.addr
    others r off = others_at s g ds t.gs t.life n e y r.addr t.is t.asks t.made (λ i. swap r.addr.node n (subst (λ (a : Addr). (r.addr.node == a.node) ≡ false) here off))

    old : (a to : Addr) (r : PeerRecord) → IsThere qs a → HasSent (history_at ds a) to r → IsFrameTo (happens w m.0).world.frames a to r
    old a to r i h = subst (λ (fs : List Frame). IsFrameTo fs a to r) (sym m.1.frames) (to_more w.frames (frames_of (addr_of x) y.outs) a to r (k.1.frames a to r i h))

    fresh : (to : Addr) (r : PeerRecord) → IsSentIn y.outs to r → IsFrameTo (happens w m.0).world.frames at to r
    fresh to r h = subst (λ (fs : List Frame). IsFrameTo fs at to r) (sym m.1.frames) (to_behind w.frames (frames_of (addr_of x) y.outs) at to r (subst (λ (a : Addr). IsFrameTo (frames_of a y.outs) at to r) (sym here) (said_to at to r y.outs h)))

    says : (a to : Addr) (r : PeerRecord) → IsThere qs a → HasSent (history_at (Takes s g ∷ ds) a) to r → (b : Bool) → is_name s a.site ≡ b → (c : Bool) → (n == a.node) ≡ c → IsFrameTo (happens w m.0).world.frames a to r
    says a to r i h false off c j = old a to r i (subst (λ (l : List Entry). HasSent l to r) (others_at s g ds t.gs t.life n e y a t.is t.asks t.made (λ on. absurd (cc (on, off)))) h)
    says a to r i h true on false j = old a to r i (subst (λ (l : List Entry). HasSent l to r) (others_at s g ds t.gs t.life n e y a t.is t.asks t.made (λ k. j)) h)
    says a to r i h true on true j =
        let number : n ≡ a.node = grind (arith, nat_tests, j) in
        let same : at ≡ a = addr_same s a.site n a.node (name_same s a.site on) number in
        let both : HasSent (y ∷ history_at ds at) to r = subst (λ (l : List Entry). HasSent l to r) (takes_at s g ds t.gs t.life n e y t.is t.asks t.made) (subst (λ (b : Addr). HasSent (history_at (Takes s g ∷ ds) b) to r) (sym same) h) in
        subst (λ (b : Addr). IsFrameTo (happens w m.0).world.frames b to r) same (elim both [
          | inl new ↦ fresh to r new
          | inr more ↦ old at to r (subst (IsThere qs) (sym same) i) more
        ])

takes_run : (es : List Happening) (qs : List Place) → AreArranged qs → (ds : List Deed) (s : List ℕ) (g : Given) → IsTaken qs ds s (life_after ds s) g → Run es qs ds → Run es qs (Takes s g ∷ ds)
takes_run es qs arr ds s g t k = go (life_after ds s) refl t
  where
    asks : (gs : List Given) (life : Life) → life_after ds s ≡ gs ∷ life → (a : AskedEvent) → asked (opening_after s life) g ≡ a → IsFit qs ds s gs life a → Run es qs (Takes s g ∷ ds)
    asks gs life is (Refuses j) i t = quiet_run es qs s g ds (λ a. same_at s g ds gs life a is (λ here. in_refused s life gs g j a.node i)) k
    asks gs life is (Is n e) i t = answers (answered s gs life n e).entry refl
      where
        answers : (o : Option Entry) → (answered s gs life n e).entry ≡ o → Run es qs (Takes s g ∷ ds)
        answers None made = quiet_run es qs s g ds (λ a. same_at s g ds gs life a is (λ here. in_asked s life gs g n e None a.node i made)) k
        answers (Some y) made = taking_run es qs arr ds s g n e y (record { gs = gs; life = life; is = is; asks = i; made = made; heeded = t y made }) k

    go : (l : Life) → life_after ds s ≡ l → IsTaken qs ds s l g → Run es qs (Takes s g ∷ ds)
    go [] is t = absurd t
    go (gs ∷ life) is t = asks gs life is (asked (opening_after s life) g) refl t

from_run : (es : List Happening) (qs : List Place) → AreArranged qs → (more ds : List Deed) → IsDeployment qs (more ++ ds) → IsRunOf qs ds (run es) → Run es qs (more ++ ds)
from_run es qs arr [] ds d k = ([], k)
from_run es qs arr (Starts s ∷ more) ds d k = starts_run es qs s (more ++ ds) (from_run es qs arr more ds d k)
from_run es qs arr (Takes s g ∷ more) ds d k = takes_run es qs arr (more ++ ds) s g d.0 (from_run es qs arr more ds d.1 k)

pub a_deployment : ADeploymentIsARun
a_deployment qs [] arr d = (placing qs, nothing_yet qs arr)
a_deployment qs (Starts s ∷ ds) arr d = let r = a_deployment qs ds arr d in let u = starts_run r.0 qs s ds ([], r.1) in (u.0 ++ r.0, u.1)
a_deployment qs (Takes s g ∷ ds) arr d = let r = a_deployment qs ds arr d.1 in let u = takes_run r.0 qs arr ds s g d.0 ([], r.1) in (u.0 ++ r.0, u.1)

-- what a deployment was is one too
older : (qs : List Place) (more ds : List Deed) → IsDeployment qs (more ++ ds) → IsDeployment qs ds
older qs [] ds d = d
older qs (Starts s ∷ more) ds d = older qs more ds d
older qs (Takes s g ∷ more) ds d = older qs more ds d.1

pub a_deployment_on : ADeploymentGoesOn
a_deployment_on qs more ds arr d =
    let r = a_deployment qs ds arr (older qs more ds d) in
    let u = from_run r.0 qs arr more ds d r.1 in
    (r.0, u.0, r.1, u.1)
