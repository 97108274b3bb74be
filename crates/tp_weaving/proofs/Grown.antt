-- What was said stays said, what a node says now is said then, and nothing else is.
use Rattle.std.proofs.Common.{◌≡◌, ◌==◌, ◌++◌, ◌⊎◌, ℕ, Bool, true, false, refl, ap, sym, ◌∙◌, subst, arith, Option, Some, None, List, [], ◌∷◌, inl, inr}
use Rattle.std.proofs.lemmas.Bool.Decides.{nat_tests}
use Rattle.tp_names.specs.declared.identifiers.Addr.{Addr}
use Rattle.tp_names.specs.Same.{is_name}
use Rattle.tp_names.proofs.Sames.{name_same, name_self}
use Rattle.tp_records.specs.declared.peer.PeerRecord.{PeerRecord}
use Rattle.tp_records.specs.declared.body.Event.{Event as Given}
use Rattle.tp_model.specs.Parts.{Event, Entry, Out, Tell, Send}
use Rattle.tp_model.specs.NodeRun.{AskedEvent, Refuses, Is, asked}
use Rattle.tp_histories.specs.Histories.{IsSentIn, HasSent}
use Rattle.tp_runs.proofs.Lanes.{chosen}
use Rattle.tp_site_logs.specs.Lives.{Life, opening_after, history_in, history_over}
use Rattle.tp_deployments.specs.Deployments.{Deed, Starts, Takes, with_given, life_after, history_at, answered}
use Rattle.tp_deployments.proofs.Given.{in_refused, in_asked, in_taken, before, over_in, take_here, same_at}
use Rattle.tp_weaving.specs.declared.letter.Letter.{Letter}
use Rattle.std.specs.List.{AllByRecursion}
use Rattle.tp_weaving.specs.Letters.{letter_to, letters_in, AreRead}
use Rattle.tp_weaving.specs.Steps.{IsSaid}
use Rattle.tp_weaving.specs.Weaving.{IsOneOf}

-- ---- a process takes an event

take_there : (s : List ℕ) (g : Given) (ds : List Deed) (t : List ℕ) → is_name s t ≡ false → life_after (Takes s g ∷ ds) t ≡ life_after ds t
take_there s g ds t i = rw i refl

abbrev pub at_node : List ℕ → ℕ → Addr
at_node s n = record { site = s; node = n }

-- the node gains the entry
pub gains : (s : List ℕ) (g : Given) (ds : List Deed) (gs : List Given) (life : Life) (n : ℕ) (e : Event) (y : Entry) → life_after ds s ≡ gs ∷ life → asked (opening_after s life) g ≡ Is n e → (answered s gs life n e).entry ≡ Some y
    → history_at (Takes s g ∷ ds) (at_node s n) ≡ y ∷ history_at ds (at_node s n)
gains s g ds gs life n e y is i made =
    ap (λ (l : Life). history_over s l n) (take_here s g ds s gs life (name_self s) is)
    ∙ over_in s (gs ++ g ∷ []) life n
    ∙ ap (λ (h : List Entry). h ++ before s life n) (in_taken s life gs g n e y n i made ∙ ap (λ (b : Bool). chosen b (y ∷ history_in s life gs n) (history_in s life gs n)) itself)
    ∙ ap (λ (h : List Entry). y ∷ h) (sym (over_in s gs life n) ∙ ap (λ (l : Life). history_over s l n) (sym is))
  where
    itself : (n == n) ≡ true
    itself = grind (arith, nat_tests)

-- every node has what it had, or it is the one that gains the entry
pub record IsGain (s : List ℕ) (g : Given) (ds : List Deed) (gs : List Given) (life : Life) (a : Addr) : Type 0 where
  pub node : ℕ
  pub event : Event
  pub asks : asked (opening_after s life) g ≡ Is node event
  pub entry : Entry
  pub made : (answered s gs life node event).entry ≡ Some entry
  pub here : at_node s node ≡ a
  pub more : history_at (Takes s g ∷ ds) a ≡ entry ∷ history_at ds a

abbrev pub Grows : List ℕ → Given → List Deed → List Given → Life → Addr → Type 0
Grows s g ds gs life a = (history_at (Takes s g ∷ ds) a ≡ history_at ds a) ⊎ IsGain s g ds gs life a

pub grows : (s : List ℕ) (g : Given) (ds : List Deed) (gs : List Given) (life : Life) (a : Addr) → life_after ds s ≡ gs ∷ life → Grows s g ds gs life a
grows s g ds gs life a is = by (asked (opening_after s life) g) refl
  where
    same : (m : ℕ) (h : history_in s life (gs ++ g ∷ []) m ≡ history_in s life gs m) → a.node ≡ m → Grows s g ds gs life a
    same m h k = inl (same_at s g ds gs life a is (λ here. ap (history_in s life (gs ++ g ∷ [])) k ∙ h ∙ ap (history_in s life gs) (sym k)))

    by : (q : AskedEvent) → asked (opening_after s life) g ≡ q → Grows s g ds gs life a
    by (Refuses k) i = same a.node (in_refused s life gs g k a.node i) refl
    by (Is n e) i = made (answered s gs life n e).entry refl
      where
        made : (o : Option Entry) → (answered s gs life n e).entry ≡ o → Grows s g ds gs life a
        made None j = same a.node (in_asked s life gs g n e None a.node i j) refl
        made (Some y) j = at (is_name s a.site) refl (n == a.node) refl
          where
            at : (b : Bool) → is_name s a.site ≡ b → (c : Bool) → (n == a.node) ≡ c → Grows s g ds gs life a
            at false h c k = inl (ap (λ (l : Life). history_over a.site l a.node) (take_there s g ds a.site h))
            at true h false k = same a.node (in_taken s life gs g n e y a.node i j ∙ ap (λ (b : Bool). chosen b (y ∷ history_in s life gs n) (history_in s life gs a.node)) k) refl
            at true h true k =
                let number : n ≡ a.node = grind (arith, nat_tests, k) in
                let here : at_node s n ≡ a = ap (λ (t : List ℕ). at_node t n) (name_same s a.site h) ∙ ap (at_node a.site) number in
                inr (record {
                  node = n;
                  event = e;
                  asks = i;
                  entry = y;
                  made = j;
                  here = here;
                  more = subst (λ (b : Addr). history_at (Takes s g ∷ ds) b ≡ y ∷ history_at ds b) here (gains s g ds gs life n e y is i j);
                })

-- ---- what was said stays said

taking_sent : (s : List ℕ) (g : Given) (ds : List Deed) (gs : List Given) (life : Life) (a to : Addr) (r : PeerRecord) → Grows s g ds gs life a → HasSent (history_at ds a) to r → HasSent (history_at (Takes s g ∷ ds) a) to r
taking_sent s g ds gs life a to r (inl same) h = subst (λ (l : List Entry). HasSent l to r) (sym same) h
taking_sent s g ds gs life a to r (inr gain) h = subst (λ (l : List Entry). HasSent l to r) (sym gain.more) (inr h)

life_here : (s : List ℕ) (ds : List Deed) (t : List ℕ) → is_name s t ≡ true → life_after (Starts s ∷ ds) t ≡ [] ∷ life_after ds s
life_here s ds t i = rw i (ap (λ (u : List ℕ). [] ∷ life_after ds u) (sym (name_same s t i)))

life_there : (s : List ℕ) (ds : List Deed) (t : List ℕ) → is_name s t ≡ false → life_after (Starts s ∷ ds) t ≡ life_after ds t
life_there s ds t i = rw i refl

-- a process that starts says nothing, and takes nothing back
abbrev Same : List Entry → List Entry → Addr → PeerRecord → Type 0
Same new old to r = (HasSent old to r → HasSent new to r) × (HasSent new to r → HasSent old to r)

same_sent : (new old : List Entry) (to : Addr) (r : PeerRecord) → new ≡ old → Same new old to r
same_sent new old to r same = (λ h. subst (λ (l : List Entry). HasSent l to r) (sym same) h, λ h. subst (λ (l : List Entry). HasSent l to r) same h)

starting : (s : List ℕ) (ds : List Deed) (a to : Addr) (r : PeerRecord) → Same (history_at (Starts s ∷ ds) a) (history_at ds a) to r
starting s ds a to r = go (life_after ds s) refl (is_name s a.site) refl
  where
    go : (life : Life) → life_after ds s ≡ life → (b : Bool) → is_name s a.site ≡ b → Same (history_at (Starts s ∷ ds) a) (history_at ds a) to r
    go life is false i = same_sent (history_at (Starts s ∷ ds) a) (history_at ds a) to r (ap (λ (l : Life). history_over a.site l a.node) (life_there s ds a.site i))
    go [] is true i = same_sent (history_at (Starts s ∷ ds) a) (history_at ds a) to r
        (ap (λ (l : Life). history_over a.site l a.node) (life_here s ds a.site i ∙ ap (λ (l : Life). [] ∷ l) is) ∙ ap (λ (l : Life). history_over a.site l a.node) (sym (ap (life_after ds) (sym (name_same s a.site i)) ∙ is)))
    go (gs ∷ life) is true i = (
      λ h. subst (λ (l : Life). HasSent (history_over a.site l a.node) to r) (sym new) (inr (subst (λ (l : Life). HasSent (history_over a.site l a.node) to r) old h)),
      λ h. back (subst (λ (l : Life). HasSent (history_over a.site l a.node) to r) new h),
    )
      where
        old : life_after ds a.site ≡ gs ∷ life
        old = ap (life_after ds) (sym (name_same s a.site i)) ∙ is

        new : life_after (Starts s ∷ ds) a.site ≡ [] ∷ gs ∷ life
        new = life_here s ds a.site i ∙ ap (λ (l : Life). [] ∷ l) is

        back : HasSent (history_over a.site ([] ∷ gs ∷ life) a.node) to r → HasSent (history_at ds a) to r
        back (inl none) = absurd none
        back (inr h) = subst (λ (l : Life). HasSent (history_over a.site l a.node) to r) (sym old) h

-- whatever happens
pub sent_then : (d : Deed) (ds : List Deed) (a to : Addr) (r : PeerRecord) → HasSent (history_at ds a) to r → HasSent (history_at (d ∷ ds) a) to r
sent_then (Starts s) ds a to r h = (starting s ds a to r).0 h
sent_then (Takes s g) ds a to r h = go (life_after ds s) refl
  where
    none : life_after ds s ≡ [] → (b : Bool) → is_name s a.site ≡ b → life_after (Takes s g ∷ ds) a.site ≡ life_after ds a.site
    none is false i = take_there s g ds a.site i
    none is true i =
        let old : life_after ds a.site ≡ [] = ap (life_after ds) (sym (name_same s a.site i)) ∙ is in
        rw (i, life_after) (ap (with_given g) old ∙ sym old)

    go : (life : Life) → life_after ds s ≡ life → HasSent (history_at (Takes s g ∷ ds) a) to r
    go [] is = subst (λ (l : Life). HasSent (history_over a.site l a.node) to r) (sym (none is (is_name s a.site) refl)) h
    go (gs ∷ life) is = taking_sent s g ds gs life a to r (grows s g ds gs life a is) h

pub said_then : (d : Deed) (ds : List Deed) (x : Letter) → IsSaid ds x → IsSaid (d ∷ ds) x
said_then d ds x h = record { rec = h.rec; reads = h.reads; sent = sent_then d ds x.from x.to h.rec h.sent }

pub starting_says : (s : List ℕ) (ds : List Deed) (a to : Addr) (r : PeerRecord) → HasSent (history_at (Starts s ∷ ds) a) to r → HasSent (history_at ds a) to r
starting_says s ds a to r h = (starting s ds a to r).1 h

-- ---- what a node says now

letters_said : (ds : List Deed) (from : Addr) (outs : List Out) → AreRead outs → ((to : Addr) (r : PeerRecord) → IsSentIn outs to r → HasSent (history_at ds from) to r) → AllByRecursion (IsSaid ds) (letters_in from outs)
letters_said ds from [] are sent = tt
letters_said ds from (Tell i ∷ outs) are sent = letters_said ds from outs are (λ to r h. sent to r h)
letters_said ds from (Send b q ∷ outs) are sent = (record { rec = q; reads = are.0; sent = sent b q (inl (refl, refl)) }, letters_said ds from outs are.1 (λ to r h. sent to r (inr h)))

pub now_said : (s : List ℕ) (g : Given) (ds : List Deed) (gs : List Given) (life : Life) (n : ℕ) (e : Event) (y : Entry) → life_after ds s ≡ gs ∷ life → asked (opening_after s life) g ≡ Is n e → (answered s gs life n e).entry ≡ Some y → AreRead y.outs
    → AllByRecursion (IsSaid (Takes s g ∷ ds)) (letters_in (at_node s n) y.outs)
now_said s g ds gs life n e y is asks made are =
    letters_said (Takes s g ∷ ds) (at_node s n) y.outs are
    (λ to r h. subst (λ (l : List Entry). HasSent l to r) (sym (gains s g ds gs life n e y is asks made)) (inl h))

-- and each letter among its outputs is one of these
pub one_in : (from : Addr) (outs : List Out) (to : Addr) (r : PeerRecord) → IsSentIn outs to r → IsOneOf (letter_to from to r) (letters_in from outs)
one_in from [] to r h = absurd h
one_in from (Tell i ∷ outs) to r h = one_in from outs to r h
one_in from (Send b q ∷ outs) to r (inl same) = inl (ap (λ (x : Addr). letter_to from x q) same.0 ∙ ap (letter_to from to) same.1)
one_in from (Send b q ∷ outs) to r (inr more) = inr (one_in from outs to r more)
