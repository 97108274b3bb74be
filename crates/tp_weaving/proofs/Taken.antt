-- A step more of a site: the deeds are a deployment still.
use Rattle.std.proofs.Common.{◌≡◌, ◌⊎◌, ℕ, refl, sym, ◌∙◌, subst, Option, Some, None, List, [], ◌∷◌, inl, inr}
use Rattle.std.specs.List.{AllByRecursion}
use Rattle.tp_names.specs.declared.identifiers.Addr.{Addr}
use Rattle.tp_records.specs.declared.peer.PeerRecord.{PeerRecord}
use Rattle.tp_records.specs.declared.body.Event.{Event as Given}
use Rattle.tp_model.specs.Parts.{Event, Entry}
use Rattle.tp_model.specs.NodeRun.{AskedEvent, Refuses, Is, asked}
use Rattle.tp_histories.specs.Histories.{HasSent}
use Rattle.tp_site_logs.specs.Lives.{Life, opening_after}
use Rattle.tp_deployments.specs.Deployments.{Deed, Starts, Takes, Place, IsCarried, IsHeeded, IsFit, IsTaken, IsDeployment, life_after, history_at, answered}
use Rattle.tp_weaving.specs.declared.letter.Letter.{Letter}
use Rattle.tp_weaving.specs.declared.step.Step.{Step}
use Rattle.tp_weaving.specs.Letters.{letter_to}
use Rattle.tp_weaving.specs.Parts.{part, site_of_deed}
use Rattle.tp_weaving.specs.Steps.{IsLetterOf, IsSaid, IsFromThere, Brings, IsIdle, Happened, IsStepOf, IsTakenBy, IsTaking, IsStep}
use Rattle.tp_weaving.specs.Weaving.{IsOneOf}
use Rattle.tp_weaving.proofs.Parts.{life_of_part}
use Rattle.tp_weaving.proofs.Grown.{at_node, Grows, grows, said_then, starting_says, now_said, one_in}

-- what is needed was said
abbrev pub IsReady : List Deed → Option Letter → Type 0
IsReady ds None = Unit {0}
IsReady ds (Some x) = IsSaid ds x

letter_said : (ds : List Deed) (from to : Addr) (r : PeerRecord) (needs : Option Letter) → IsReady ds needs → IsLetterOf from to r needs → HasSent (history_at ds from) to r
letter_said ds from to r None ready is = absurd is
letter_said ds from to r (Some x) ready is =
    let both : Some ready.rec ≡ Some r = sym ready.reads ∙ is.2 in
    let rec : ready.rec ≡ r = cc (both) in
    subst (λ (a : Addr). HasSent (history_at ds a) to r) is.0 (subst (λ (b : Addr). HasSent (history_at ds x.from) b r) is.1 (subst (λ (q : PeerRecord). HasSent (history_at ds x.from) x.to q) rec ready.sent))

carried : (qs : List Place) (ds : List Deed) (at : Addr) (e : Event) (needs : Option Letter) → IsReady ds needs → IsFromThere qs e → Brings at e needs → IsCarried qs ds at e
carried qs ds at (Event.Arrive from r) needs ready there brings = (there, letter_said ds from at r needs ready brings)
carried qs ds at _ needs ready there brings = tt

heeded : (qs : List Place) (ds : List Deed) (at : Addr) (e : Event) (y : Entry) (t : Step) → IsReady ds t.needs → Happened qs at e y t → IsHeeded qs ds at e
heeded qs ds at e y t ready h = record { place = h.has.place; among = h.has.among; here = h.has.here; placed = h.has.placed; carried = carried qs ds at e t.needs ready h.has.from h.brings }

fits : (qs : List Place) (ds : List Deed) (s : List ℕ) (gs : List Given) (life : Life) (a : AskedEvent) (t : Step) → IsReady ds t.needs → IsTakenBy qs s gs life a t → IsFit qs ds s gs life a
fits qs ds s gs life (Refuses k) t ready h = tt
fits qs ds s gs life (Is n e) t ready h = λ y made. heeded qs ds (at_node s n) e y t ready (subst (λ (o : Option Entry). IsStepOf qs (at_node s n) e o t) made h)

-- ---- what is said

idle_says : (ds : List Deed) (t : Step) → IsIdle t → AllByRecursion (IsSaid ds) t.says.items
idle_says ds t idle = subst (AllByRecursion (IsSaid ds)) (sym idle.says) tt

taking_says : (qs : List Place) (s : List ℕ) (g : Given) (ds : List Deed) (gs : List Given) (life : Life) (t : Step) → life_after ds s ≡ gs ∷ life → IsTakenBy qs s gs life (asked (opening_after s life) g) t → AllByRecursion (IsSaid (Takes s g ∷ ds)) t.says.items
taking_says qs s g ds gs life t is h = by (asked (opening_after s life) g) refl h
  where
    by : (a : AskedEvent) → asked (opening_after s life) g ≡ a → IsTakenBy qs s gs life a t → AllByRecursion (IsSaid (Takes s g ∷ ds)) t.says.items
    by (Refuses k) i idle = idle_says (Takes s g ∷ ds) t idle
    by (Is n e) i k = made (answered s gs life n e).entry refl k
      where
        made : (o : Option Entry) → (answered s gs life n e).entry ≡ o → IsStepOf qs (at_node s n) e o t → AllByRecursion (IsSaid (Takes s g ∷ ds)) t.says.items
        made None j idle = idle_says (Takes s g ∷ ds) t idle
        made (Some y) j has = subst (AllByRecursion (IsSaid (Takes s g ∷ ds))) (sym has.says) (now_said s g ds gs life n e y is i j has.are_read)

taking_heard : (qs : List Place) (s : List ℕ) (g : Given) (ds : List Deed) (gs : List Given) (life : Life) (t : Step) → life_after ds s ≡ gs ∷ life → IsTakenBy qs s gs life (asked (opening_after s life) g) t
    → (from to : Addr) (r : PeerRecord) → HasSent (history_at (Takes s g ∷ ds) from) to r → (HasSent (history_at ds from) to r) ⊎ IsOneOf (letter_to from to r) t.says.items
taking_heard qs s g ds gs life t is h from to r sent = by (grows s g ds gs life from is)
  where
    by : Grows s g ds gs life from → (HasSent (history_at ds from) to r) ⊎ IsOneOf (letter_to from to r) t.says.items
    by (inl same) = inl (subst (λ (l : List Entry). HasSent l to r) same sent)
    by (inr gain) = elim (subst (λ (l : List Entry). HasSent l to r) gain.more sent) [
      | inl now ↦ inr (subst (λ (a : Addr). IsOneOf (letter_to a to r) t.says.items) gain.here (subst (IsOneOf (letter_to (at_node s gain.node) to r)) (sym has.says) (one_in (at_node s gain.node) gain.entry.outs to r now)))
      | inr old ↦ inl old
    ]
      where
        has : Happened qs (at_node s gain.node) gain.event gain.entry t
        has = subst (λ (o : Option Entry). IsStepOf qs (at_node s gain.node) gain.event o t) gain.made (subst (λ (a : AskedEvent). IsTakenBy qs s gs life a t) gain.asks h)

-- ---- one step more

pub record Follows (qs : List Place) (ds : List Deed) (d : Deed) (t : Step) : Type 0 where
  pub fits : IsDeployment qs (d ∷ ds)
  pub stays : (x : Letter) → IsSaid ds x → IsSaid (d ∷ ds) x
  pub says : AllByRecursion (IsSaid (d ∷ ds)) t.says.items
  pub heard : (from to : Addr) (r : PeerRecord) → HasSent (history_at (d ∷ ds) from) to r → (HasSent (history_at ds from) to r) ⊎ IsOneOf (letter_to from to r) t.says.items

pub follows : (qs : List Place) (s : List ℕ) (ds : List Deed) (d : Deed) (t : Step) → IsDeployment qs ds → IsStep qs s (part s ds) d t → IsReady ds t.needs → Follows qs ds d t
follows qs s ds (Starts n) t dep step ready = record {
  fits = dep;
  stays = λ x h. said_then (Starts n) ds x h;
  says = idle_says (Starts n ∷ ds) t step.1;
  heard = λ from to r h. inl (starting_says n ds from to r h);
}
follows qs s ds (Takes n g) t dep step ready = subst (λ (m : List ℕ). Follows qs ds (Takes m g) t) (sym step.0) (go (life_after ds s) refl (subst (λ (l : Life). IsTaking qs s l g t) (life_of_part s ds) step.1))
  where
    go : (l : Life) → life_after ds s ≡ l → IsTaking qs s l g t → Follows qs ds (Takes s g) t
    go [] is h = absurd h
    go (gs ∷ life) is h = record {
      fits = (subst (λ (l : Life). IsTaken qs ds s l g) (sym is) (fits qs ds s gs life (asked (opening_after s life) g) t ready h), dep);
      stays = λ x k. said_then (Takes s g) ds x k;
      says = taking_says qs s g ds gs life t is h;
      heard = taking_heard qs s g ds gs life t is h;
    }

pub deed_site : (qs : List Place) (s : List ℕ) (before : List Deed) (d : Deed) (t : Step) → IsStep qs s before d t → site_of_deed d ≡ s
deed_site qs s before (Starts n) t step = step.0
deed_site qs s before (Takes n g) t step = step.0
