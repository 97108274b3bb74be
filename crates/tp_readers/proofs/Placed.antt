-- Where no node stands, nothing is recorded.
use Rattle.std.proofs.Common.{◌≡◌, ◌==◌, ◌⊎◌, inl, inr, ℕ, Bool, true, false, cond, refl, ap, sym, ◌∙◌, subst, arith, Option, Some, None, List, [], ◌∷◌, ◌++◌}
use Rattle.std.proofs.lemmas.Bool.Decides.{nat_tests}
use Rattle.tp_names.specs.declared.identifiers.Addr.{Addr}
use Rattle.tp_names.specs.Same.{is_name}
use Rattle.tp_names.proofs.Sames.{name_same}
use Rattle.tp_records.specs.declared.body.Event.{Event as Given}
use Rattle.tp_logrec.specs.declared.record.LogRec.{LogRec}
use Rattle.tp_model.specs.Parts.{Event, Entry}
use Rattle.tp_model.specs.History.{records}
use Rattle.tp_model.specs.NodeRun.{AskedEvent, Refuses, Is, asked}
use Rattle.tp_runs.proofs.Lanes.{chosen}
use Rattle.tp_site_logs.specs.Lives.{Life, opening_after, history_in, history_over, first_origin}
use Rattle.tp_deployments.specs.Deployments.{Deed, Starts, Takes, with_given, life_after, history_at, Place, IsThere, IsHeeded, answered, IsFit, IsTaken, IsDeployment}
use Rattle.tp_deployments.proofs.Given.{in_refused, in_asked, in_taken, before, over_in}

-- ---- a process is given one event more

-- the history of a node is as it was, or the event is its own and was taken
abbrev Moves : List ℕ → Life → List Given → Given → ℕ → Type 0
Moves s life gs g n = (history_in s life (gs ++ g ∷ []) n ≡ history_in s life gs n) ⊎ ((e : Event) × (y : Entry) × (asked (opening_after s life) g ≡ Is n e) × ((answered s gs life n e).entry ≡ Some y))

moved : (s : List ℕ) (life : Life) (gs : List Given) (g : Given) (n : ℕ) → Moves s life gs g n
moved s life gs g n = go (asked (opening_after s life) g) refl
  where
    go : (a : AskedEvent) → asked (opening_after s life) g ≡ a → Moves s life gs g n
    go (Refuses k) i = inl (in_refused s life gs g k n i)
    go (Is m e) i = by (answered s gs life m e).entry refl (m == n) refl
      where
        by : (y : Option Entry) → (answered s gs life m e).entry ≡ y → (b : Bool) → (m == n) ≡ b → Moves s life gs g n
        by None made b j = inl (in_asked s life gs g m e None n i made)
        by (Some y) made false j = inl (in_taken s life gs g m e y n i made ∙ ap (λ (b : Bool). chosen b (y ∷ history_in s life gs m) (history_in s life gs n)) j)
        by (Some y) made true j =
            let same : m ≡ n = grind (arith, nat_tests, j) in
            inr (e, y, i ∙ ap (λ (k : ℕ). Is k e) same, ap (λ (k : ℕ). (answered s gs life k e).entry) (sym same) ∙ made)

-- ---- all that happened

abbrev pub NoneOr : List Place → List Deed → Addr → Type 0
NoneOr qs ds a = (records (first_origin a.site a.node) (history_at ds a) ≡ []) ⊎ IsThere qs a

records_over : (s : List ℕ) (n : ℕ) (h k base : List Entry) → h ≡ k → records (first_origin s n) (h ++ base) ≡ records (first_origin s n) (k ++ base)
records_over s n h k base same = ap (λ (l : List Entry). records (first_origin s n) (l ++ base)) same

pub none_or_there : (qs : List Place) (ds : List Deed) → IsDeployment qs ds → (a : Addr) → NoneOr qs ds a
none_or_there qs [] dep a = inl refl
none_or_there qs (Starts s ∷ ds) dep a = go (is_name s a.site) refl (none_or_there qs ds dep a)
  where
    none_in : (l : Life) → records (first_origin a.site a.node) (history_over a.site l a.node) ≡ [] → records (first_origin a.site a.node) (history_over a.site ([] ∷ l) a.node) ≡ []
    none_in [] none = refl
    none_in (hs ∷ l) none = none

    go : (b : Bool) → is_name s a.site ≡ b → NoneOr qs ds a → NoneOr qs (Starts s ∷ ds) a
    go b i (inr there) = inr there
    go false i (inl none) = inl (ap (λ (b : Bool). records (first_origin a.site a.node) (history_over a.site (if_starts b) a.node)) i ∙ none)
      where
        if_starts : Bool → Life
        if_starts b = cond b ([] ∷ life_after ds a.site) (life_after ds a.site)
    go true i (inl none) = inl (ap (λ (b : Bool). records (first_origin a.site a.node) (history_over a.site (if_starts b) a.node)) i ∙ none_in (life_after ds a.site) none)
      where
        if_starts : Bool → Life
        if_starts b = cond b ([] ∷ life_after ds a.site) (life_after ds a.site)
none_or_there qs (Takes s g ∷ ds) dep a = go (is_name s a.site) refl (none_or_there qs ds dep.1 a)
  where
    if_taken : Bool → Life
    if_taken b = cond b (with_given g (life_after ds a.site)) (life_after ds a.site)

    recorded : Life → List LogRec
    recorded l = records (first_origin a.site a.node) (history_over a.site l a.node)

    by : s ≡ a.site → (l : Life) → life_after ds a.site ≡ l → IsTaken qs ds a.site l g → recorded l ≡ [] → (recorded (with_given g l) ≡ []) ⊎ IsThere qs a
    by name [] is taken none = absurd taken
    by name (gs ∷ life) is taken none = elim (moved a.site life gs g a.node) [
      | inl same ↦ inl (
          ap (λ (h : List Entry). records (first_origin a.site a.node) h) (over_in a.site (gs ++ g ∷ []) life a.node)
          ∙ records_over a.site a.node (history_in a.site life (gs ++ g ∷ []) a.node) (history_in a.site life gs a.node) (before a.site life a.node) same
          ∙ ap (λ (h : List Entry). records (first_origin a.site a.node) h) (sym (over_in a.site gs life a.node))
          ∙ none
          )
      | inr own ↦
          let h : IsHeeded qs ds a own.0 = subst (IsFit qs ds a.site gs life) own.2 taken own.1 own.3 in
          inr (h.place, h.among, h.here)
    ]

    go : (b : Bool) → is_name s a.site ≡ b → NoneOr qs ds a → NoneOr qs (Takes s g ∷ ds) a
    go b i (inr there) = inr there
    go false i (inl none) = inl (ap (λ (b : Bool). recorded (if_taken b)) i ∙ none)
    go true i (inl none) =
        let name : s ≡ a.site = name_same s a.site i in
        elim (by name (life_after ds a.site) refl (subst (λ (t : List ℕ). IsTaken qs ds t (life_after ds t) g) name dep.0) none) [
          | inl still ↦ inl (ap (λ (b : Bool). recorded (if_taken b)) i ∙ still)
          | inr there ↦ inr there
        ]
