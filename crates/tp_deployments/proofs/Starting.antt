-- A process starts: at its own site each history gains a stop, where a process ran before.
use Rattle.std.proofs.Common.{◌≡◌, ◌++◌, ℕ, Bool, true, false, refl, ap, sym, ◌∙◌, subst, List, [], ◌∷◌, inl, inr}
use Rattle.tp_names.specs.declared.identifiers.Addr.{Addr}
use Rattle.tp_names.specs.Same.{is_name}
use Rattle.tp_names.proofs.Sames.{name_same}
use Rattle.tp_records.specs.declared.peer.PeerRecord.{PeerRecord}
use Rattle.tp_records.specs.declared.body.Event.{Event as Given}
use Rattle.tp_model.specs.World.{Node, site_of}
use Rattle.tp_model.specs.Happenings.{stopped, stopped_at}
use Rattle.tp_histories.specs.Histories.{HasSent}
use Rattle.tp_site_logs.proofs.Places.{name_swap}
use Rattle.tp_site_logs.specs.Lives.{Life, history_over, first_origin}
use Rattle.tp_deployments.specs.Deployments.{Deed, Starts, life_after, history_at, Place, IsAmong}
use Rattle.tp_deployments.specs.RunOf.{node_at, nodes_of}

-- at its own site the history gains a stop, where a process ran before

life_here : (s : List ℕ) (ds : List Deed) (t : List ℕ) → is_name s t ≡ true → life_after (Starts s ∷ ds) t ≡ [] ∷ life_after ds s
life_here s ds t i = rw i (ap (λ (u : List ℕ). [] ∷ life_after ds u) (sym (name_same s t i)))

life_there : (s : List ℕ) (ds : List Deed) (t : List ℕ) → is_name s t ≡ false → life_after (Starts s ∷ ds) t ≡ life_after ds t
life_there s ds t i = rw i refl

-- a node whose site had that life
abbrev lived : Place → Life → Node
lived q l = record { origin = first_origin q.addr.site q.addr.node; superior = q.superior; history = history_over q.addr.site l q.addr.node }

node_there : (s : List ℕ) (ds : List Deed) (q : Place) → is_name s q.addr.site ≡ false → node_at (Starts s ∷ ds) q ≡ node_at ds q
node_there s ds q i = ap (lived q) (life_there s ds q.addr.site i)

-- where nothing ran before, nothing changes
first_start : (s : List ℕ) (ds : List Deed) (q : Place) → life_after ds s ≡ [] → node_at (Starts s ∷ ds) q ≡ node_at ds q
first_start s ds q none = go (is_name s q.addr.site) refl
  where
    go : (b : Bool) → is_name s q.addr.site ≡ b → node_at (Starts s ∷ ds) q ≡ node_at ds q
    go false i = node_there s ds q i
    go true i = ap (lived q) (life_here s ds q.addr.site i ∙ ap (λ (l : Life). [] ∷ l) none) ∙ sym (ap (lived q) (ap (life_after ds) (sym (name_same s q.addr.site i)) ∙ none))

abbrev stopped_if : Bool → Node → Node
stopped_if true x = stopped x
stopped_if false x = x

next_start : (s : List ℕ) (ds : List Deed) (q : Place) (gs : List Given) (life : Life) → life_after ds s ≡ gs ∷ life → (b : Bool) → is_name s q.addr.site ≡ b → node_at (Starts s ∷ ds) q ≡ stopped_if b (node_at ds q)
next_start s ds q gs life is false i = node_there s ds q i
next_start s ds q gs life is true i =
    ap (lived q) (life_here s ds q.addr.site i ∙ ap (λ (l : Life). [] ∷ l) is) ∙ sym (ap (λ (l : Life). stopped (lived q l)) (ap (life_after ds) (sym (name_same s q.addr.site i)) ∙ is))

stopped_append : (s : List ℕ) (ns : List Node) (x : Node) (b : Bool) → is_name (site_of x) s ≡ b → stopped_at s (ns ++ x ∷ []) ≡ stopped_at s ns ++ stopped_if b x ∷ []
stopped_append s [] x true i = rw (i, stopped_at) refl
stopped_append s [] x false i = rw (i, stopped_at) refl
stopped_append s (y ∷ ns) x b i = go (is_name (site_of y) s) refl (stopped_append s ns x b i)
  where
    go : (c : Bool) → is_name (site_of y) s ≡ c → stopped_at s (ns ++ x ∷ []) ≡ stopped_at s ns ++ stopped_if b x ∷ [] → stopped_at s ((y ∷ ns) ++ x ∷ []) ≡ stopped_at s (y ∷ ns) ++ stopped_if b x ∷ []
    go true j rest = rw (j, stopped_at) (ap (λ (l : List Node). stopped y ∷ l) rest)
    go false j rest = rw (j, stopped_at) (ap (λ (l : List Node). y ∷ l) rest)

pub all_stopped : (s : List ℕ) (qs : List Place) (ds : List Deed) (gs : List Given) (life : Life) → life_after ds s ≡ gs ∷ life → stopped_at s (nodes_of qs ds) ≡ nodes_of qs (Starts s ∷ ds)
all_stopped s [] ds gs life is = refl
all_stopped s (q ∷ qs) ds gs life is =
    stopped_append s (nodes_of qs ds) (node_at ds q) (is_name s q.addr.site) (name_swap q.addr.site s)
    ∙ ap (λ (l : List Node). l ++ stopped_if (is_name s q.addr.site) (node_at ds q) ∷ []) (all_stopped s qs ds gs life is)
    ∙ ap (λ (x : Node). nodes_of qs (Starts s ∷ ds) ++ x ∷ []) (sym (next_start s ds q gs life is (is_name s q.addr.site) refl))

pub none_started : (s : List ℕ) (qs : List Place) (ds : List Deed) → life_after ds s ≡ [] → nodes_of qs ds ≡ nodes_of qs (Starts s ∷ ds)
none_started s [] ds none = refl
none_started s (q ∷ qs) ds none = ap (λ (l : List Node). l ++ node_at ds q ∷ []) (none_started s qs ds none) ∙ ap (λ (x : Node). nodes_of qs (Starts s ∷ ds) ++ x ∷ []) (sym (first_start s ds q none))

-- nor where no node stands at the site
pub none_here : (s : List ℕ) (qs : List Place) (ds : List Deed) → ((q : Place) → IsAmong q qs → is_name s q.addr.site ≡ false) → nodes_of qs ds ≡ nodes_of qs (Starts s ∷ ds)
none_here s [] ds off = refl
none_here s (q ∷ qs) ds off =
    ap (λ (l : List Node). l ++ node_at ds q ∷ []) (none_here s qs ds (λ r h. off r (inr h))) ∙ ap (λ (x : Node). nodes_of qs (Starts s ∷ ds) ++ x ∷ []) (sym (node_there s ds q (off q (inl refl))))

-- what was said before is what was said
pub start_says : (s : List ℕ) (ds : List Deed) (a to : Addr) (r : PeerRecord) → HasSent (history_at (Starts s ∷ ds) a) to r → HasSent (history_at ds a) to r
start_says s ds a to r h = go (life_after ds s) refl (is_name s a.site) refl
  where
    go : (life : Life) → life_after ds s ≡ life → (b : Bool) → is_name s a.site ≡ b → HasSent (history_at ds a) to r
    go life is false i = subst (λ (l : Life). HasSent (history_over a.site l a.node) to r) (life_there s ds a.site i) h
    go [] is true i =
        let k : HasSent (history_over a.site ([] ∷ []) a.node) to r = subst (λ (l : Life). HasSent (history_over a.site l a.node) to r) (life_here s ds a.site i ∙ ap (λ (l : Life). [] ∷ l) is) h in
        absurd k
    go (gs ∷ life) is true i =
        let k : HasSent (history_over a.site ([] ∷ gs ∷ life) a.node) to r = subst (λ (l : Life). HasSent (history_over a.site l a.node) to r) (life_here s ds a.site i ∙ ap (λ (l : Life). [] ∷ l) is) h in
        let same : life_after ds a.site ≡ gs ∷ life = ap (life_after ds) (sym (name_same s a.site i)) ∙ is in
        subst (λ (l : Life). HasSent (history_over a.site l a.node) to r) (sym same) (elim k [ inl none ↦ absurd none | inr more ↦ more ])
