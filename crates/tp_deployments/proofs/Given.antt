-- A process is given one event more: what that makes of the histories of its site, and that it answers by the whole history.
use Rattle.std.proofs.Common.{◌≡◌, ◌==◌, ◌++◌, ℕ, Bool, true, false, refl, ap, sym, ◌∙◌, Option, Some, None, List, [], ◌∷◌, append-nil}
use Rattle.tp_names.specs.declared.identifiers.Addr.{Addr}
use Rattle.tp_names.specs.Same.{is_name}
use Rattle.tp_names.proofs.Sames.{name_same}
use Rattle.tp_records.specs.declared.body.Event.{Event as Given}
use Rattle.tp_model.specs.Parts.{Who, Event, Entry, Digest, Answer, Verdict}
use Rattle.tp_model.specs.Events.{verdict, effects_of}
use Rattle.tp_model.specs.Refusal.{number_of as refusal_number}
use Rattle.tp_model.specs.History.{digest, answer, crashed}
use Rattle.tp_model.specs.World.{Node}
use Rattle.tp_model.specs.NodeRun.{Opening, AskedEvent, Refuses, Is, asked, origin_at, Past, history_of, with_entry, run_from, NodeRun}
use Rattle.tp_runs.proofs.Lanes.{chosen, past_with, given, run_asked, run_step}
use Rattle.tp_site_logs.proofs.Lives.{knows}
use Rattle.tp_site_logs.specs.Lives.{Life, opening_after, history_in, history_over, first_origin}
use Rattle.tp_deployments.specs.Deployments.{Deed, Takes, with_given, life_after, history_at, Place, answered}
use Rattle.tp_deployments.specs.RunOf.{node_at, nodes_of}

-- ---- a process is given one event more

last_pasts : (o : Opening) (gs : List Given) (g : Given) (ps : List Past) → (run_from o ps (gs ++ g ∷ [])).pasts ≡ (run_asked o (run_from o ps gs).pasts (asked o g) []).pasts
last_pasts o [] g ps = ap (λ (r : NodeRun). r.pasts) (run_step o ps g [] (asked o g) refl)
last_pasts o (h ∷ gs) g ps = go (asked o h) refl (λ qs. last_pasts o gs g qs)
  where
    go : (a : AskedEvent) → asked o h ≡ a → ((qs : List Past) → (run_from o qs (gs ++ g ∷ [])).pasts ≡ (run_asked o (run_from o qs gs).pasts (asked o g) []).pasts)
        → (run_from o ps (h ∷ (gs ++ g ∷ []))).pasts ≡ (run_asked o (run_from o ps (h ∷ gs)).pasts (asked o g) []).pasts
    go (Refuses k) i rest =
        ap (λ (r : NodeRun). r.pasts) (run_step o ps h (gs ++ g ∷ []) (Refuses k) i) ∙ rest ps
        ∙ sym (ap (λ (r : NodeRun). (run_asked o r.pasts (asked o g) []).pasts) (run_step o ps h gs (Refuses k) i))
    go (Is n e) i rest =
        ap (λ (r : NodeRun). r.pasts) (run_step o ps h (gs ++ g ∷ []) (Is n e) i) ∙ rest (with_entry ps n (given o ps n e).entry)
        ∙ sym (ap (λ (r : NodeRun). (run_asked o r.pasts (asked o g) []).pasts) (run_step o ps h gs (Is n e) i))

-- what it is refused leaves each history as it was
pub in_refused : (s : List ℕ) (life : Life) (gs : List Given) (g : Given) (k m : ℕ) → asked (opening_after s life) g ≡ Refuses k → history_in s life (gs ++ g ∷ []) m ≡ history_in s life gs m
in_refused s life gs g k m i =
    let o : Opening = opening_after s life in
    ap (λ (ps : List Past). history_of ps m) (last_pasts o gs g [] ∙ ap (λ (a : AskedEvent). (run_asked o (run_from o [] gs).pasts a []).pasts) i)

pub in_asked : (s : List ℕ) (life : Life) (gs : List Given) (g : Given) (n : ℕ) (e : Event) (y : Option Entry) (m : ℕ) → asked (opening_after s life) g ≡ Is n e → (answered s gs life n e).entry ≡ y
    → history_in s life (gs ++ g ∷ []) m ≡ history_of (with_entry (run_from (opening_after s life) [] gs).pasts n y) m
in_asked s life gs g n e y m i made =
    let o : Opening = opening_after s life in
    ap (λ (ps : List Past). history_of ps m) (last_pasts o gs g [] ∙ ap (λ (a : AskedEvent). (run_asked o (run_from o [] gs).pasts a []).pasts) i)
    ∙ ap (λ (z : Option Entry). history_of (with_entry (run_from o [] gs).pasts n z) m) made

pub in_taken : (s : List ℕ) (life : Life) (gs : List Given) (g : Given) (n : ℕ) (e : Event) (y : Entry) (m : ℕ) → asked (opening_after s life) g ≡ Is n e → (answered s gs life n e).entry ≡ Some y
    → history_in s life (gs ++ g ∷ []) m ≡ chosen (n == m) (y ∷ history_in s life gs n) (history_in s life gs m)
in_taken s life gs g n e y m i made = in_asked s life gs g n e (Some y) m i made ∙ past_with (run_from (opening_after s life) [] gs).pasts n (y ∷ history_in s life gs n) m

-- the whole history, by that of the last process
abbrev pub before : List ℕ → Life → ℕ → List Entry
before s [] m = []
before s (hs ∷ life) m = crashed (history_over s (hs ∷ life) m)

pub over_in : (s : List ℕ) (gs : List Given) (life : Life) (m : ℕ) → history_over s (gs ∷ life) m ≡ history_in s life gs m ++ before s life m
over_in s gs [] m = sym (append-nil (history_in s [] gs m))
over_in s gs (hs ∷ life) m = refl

take_there : (s : List ℕ) (g : Given) (ds : List Deed) (t : List ℕ) → is_name s t ≡ false → life_after (Takes s g ∷ ds) t ≡ life_after ds t
take_there s g ds t i = rw i refl

pub take_here : (s : List ℕ) (g : Given) (ds : List Deed) (t : List ℕ) (gs : List Given) (life : Life) → is_name s t ≡ true → life_after ds s ≡ gs ∷ life → life_after (Takes s g ∷ ds) t ≡ (gs ++ g ∷ []) ∷ life
take_here s g ds t gs life i is = rw i (ap (λ (u : List ℕ). with_given g (life_after ds u)) (sym (name_same s t i)) ∙ ap (with_given g) is)

-- a node whose history in the process is as it was
pub same_at : (s : List ℕ) (g : Given) (ds : List Deed) (gs : List Given) (life : Life) (a : Addr) → life_after ds s ≡ gs ∷ life → (is_name s a.site ≡ true → history_in s life (gs ++ g ∷ []) a.node ≡ history_in s life gs a.node)
    → history_at (Takes s g ∷ ds) a ≡ history_at ds a
same_at s g ds gs life a is same = go (is_name s a.site) refl
  where
    go : (b : Bool) → is_name s a.site ≡ b → history_at (Takes s g ∷ ds) a ≡ history_at ds a
    go false i = ap (λ (l : Life). history_over a.site l a.node) (take_there s g ds a.site i)
    go true i =
        let name : s ≡ a.site = name_same s a.site i in
        let old : life_after ds a.site ≡ gs ∷ life = ap (life_after ds) (sym name) ∙ is in
        ap (λ (l : Life). history_over a.site l a.node) (take_here s g ds a.site gs life i is)
        ∙ ap (λ (t : List ℕ). history_over t ((gs ++ g ∷ []) ∷ life) a.node) (sym name)
        ∙ over_in s (gs ++ g ∷ []) life a.node ∙ ap (λ (h : List Entry). h ++ before s life a.node) (same i) ∙ sym (over_in s gs life a.node)
        ∙ ap (λ (t : List ℕ). history_over t (gs ∷ life) a.node) name
        ∙ ap (λ (l : Life). history_over a.site l a.node) (sym old)

abbrev pub node_with : Place → List Entry → Node
node_with q h = record { origin = first_origin q.addr.site q.addr.node; superior = q.superior; history = h }

same_node : (s : List ℕ) (g : Given) (ds : List Deed) (q : Place) → history_at (Takes s g ∷ ds) q.addr ≡ history_at ds q.addr → node_at (Takes s g ∷ ds) q ≡ node_at ds q
same_node s g ds q same = ap (node_with q) same

pub all_same : (s : List ℕ) (g : Given) (ds : List Deed) (qs : List Place) → ((a : Addr) → history_at (Takes s g ∷ ds) a ≡ history_at ds a) → nodes_of qs ds ≡ nodes_of qs (Takes s g ∷ ds)
all_same s g ds [] same = refl
all_same s g ds (q ∷ qs) same = ap (λ (l : List Node). l ++ node_at ds q ∷ []) (all_same s g ds qs same) ∙ ap (λ (x : Node). nodes_of qs (Takes s g ∷ ds) ++ x ∷ []) (sym (same_node s g ds q (same q.addr)))

-- ---- the answer is that of the whole history

abbrev answer_at : Who → Event → Digest → Answer
answer_at who e d = elim (verdict who d e) as (λ _. Answer) [
  | Verdict.Accepted ↦ record { number = None; entry = Some (record { event = e; rec = (effects_of who d e).rec; outs = (effects_of who d e).outs }) }
  | Verdict.Refused n ↦ record { number = Some (refusal_number n); entry = None }
  | Verdict.Breaks from r ↦ record { number = Some 24; entry = Some (record { event = Event.Break from r; rec = (effects_of who d (Event.Break from r)).rec; outs = (effects_of who d (Event.Break from r)).outs }) }
]

who_is : (s : List ℕ) (life : Life) (n : ℕ) → (origin_at (opening_after s life) n).who ≡ (first_origin s n).who
who_is s [] n = refl
who_is s (gs ∷ life) n = refl

pub answers_alike : (s : List ℕ) (gs : List Given) (life : Life) (n : ℕ) (e : Event) → answered s gs life n e ≡ answer (first_origin s n) (history_over s (gs ∷ life) n) e
answers_alike s gs life n e =
    ap (λ (w : Who). answer_at w e (digest (origin_at (opening_after s life) n) (history_in s life gs n))) (who_is s life n)
    ∙ ap (answer_at (first_origin s n).who e) (knows s gs life n)
