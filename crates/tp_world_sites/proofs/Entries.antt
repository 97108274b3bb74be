-- What a node answers to an event, as the site says it, and the entry that its history gains.
use Rattle.std.proofs.Common.{◌≡◌, ℕ, Bool, refl, ap, sym, ◌∙◌, Option, Some, None, List, [], ◌∷◌}
use Rattle.tp_names.specs.declared.identifiers.Addr.{Addr}
use Rattle.tp_model.specs.Refusal.{number_of}
use Rattle.tp_model.specs.Parts.{Who, Origin, Event, Entry, Digest, Verdict, Answer as Given}
use Rattle.tp_model.specs.Events.{action, refusal, verdict, started}
use Rattle.tp_model.specs.History.{digest, answer, entry_of}
use Rattle.tp_model.specs.Node.{Move}
use Rattle.tp_model.specs.Outcomes.{is_unchanged}
use Rattle.tp_model.proofs.Verdicts.{breaks_so}
use Rattle.tp_model.specs.declared.out_line.LogWords.{LogWords}
use Rattle.tp_node.specs.declared.state.NodeTree.{NodeTree}
use Rattle.tp_site.specs.NodeEvent.{Answer, Refuses, Happens, answer_at}
use Rattle.tp_network.specs.declared.tree_summary.TreeChange.{TreeChange}

-- the history gains an entry, which is what the move makes
pub record IsGained (o : Origin) (h : List Entry) (e : Event) (number : Option ℕ) (m : Move) : Type 0 where
  pub entry : Entry
  pub number_is : (answer o h e).number ≡ number
  pub entry_is : (answer o h e).entry ≡ Some entry
  pub rec : entry.rec ≡ m.rec
  pub outs : entry.outs ≡ m.outs
  pub next : digest o (entry ∷ h) ≡ m.next
  pub leaves : is_unchanged entry.event ≡ is_unchanged e

-- it gains none
pub record IsTurnedDown (o : Origin) (h : List Entry) (e : Event) (k : ℕ) : Type 0 where
  pub number_is : (answer o h e).number ≡ Some k
  pub entry_is : (answer o h e).entry ≡ None

-- both answers, by the verdict
abbrev given_by : Origin → List Entry → Event → Verdict → Given
given_by o h e v = elim v as (λ _. Given) [
  | Verdict.Accepted ↦ record { number = None; entry = Some (entry_of o h e) }
  | Verdict.Refused n ↦ record { number = Some (number_of n); entry = None }
  | Verdict.Breaks from r ↦ record { number = Some 24; entry = Some (entry_of o h (Event.Break from r)) }
]

abbrev site_by : Who → Digest → Event → Verdict → Answer
site_by who d e v = elim v as (λ _. Answer) [
  | Verdict.Accepted ↦ Happens None (action who d e)
  | Verdict.Refused n ↦ Refuses (number_of n)
  | Verdict.Breaks from r ↦ Happens (Some 24) (action who d (Event.Break from r))
]

move_of : (number other : Option ℕ) (m n : Move) → Happens number m ≡ Happens other n → (number ≡ other) × (m ≡ n)
move_of number other m n is = (cc (is), cc (is))

gained : (o : Origin) (h : List Entry) (e v : Event) (number found : Option ℕ) (m : Move) → is_unchanged v ≡ is_unchanged e
    → answer o h e ≡ record { number = found; entry = Some (entry_of o h v) } → Happens found (action o.who (digest o h) v) ≡ Happens number m → IsGained o h e number m
gained o h e v number found m leaves same is =
    let parts = move_of found number (action o.who (digest o h) v) m is in
    record {
      entry = entry_of o h v;
      number_is = ap (λ (a : Given). a.number) same ∙ parts.0;
      entry_is = ap (λ (a : Given). a.entry) same;
      rec = ap (λ (x : Move). x.rec) parts.1;
      outs = ap (λ (x : Move). x.outs) parts.1;
      next = ap (λ (x : Move). x.next) parts.1;
      leaves = leaves;
    }

pub has_gained : (o : Origin) (h : List Entry) (e : Event) (number : Option ℕ) (m : Move) → answer_at o.who (digest o h) e ≡ Happens number m → IsGained o h e number m
has_gained o h e number m is = go (verdict o.who (digest o h) e) refl refl is
  where
    go : (v : Verdict) → verdict o.who (digest o h) e ≡ v → answer o h e ≡ given_by o h e v → site_by o.who (digest o h) e v ≡ Happens number m → IsGained o h e number m
    go Verdict.Accepted i same here = gained o h e e number None m refl same here
    go (Verdict.Refused n) i same here = absurd (cc (here))
    go (Verdict.Breaks from r) i same here = gained o h e (Event.Break from r) number (Some 24) m (ap is_unchanged (sym (breaks_so o.who (digest o h) e from r i).0)) same here

pub turned_down : (o : Origin) (h : List Entry) (e : Event) (k : ℕ) → answer_at o.who (digest o h) e ≡ Refuses k → IsTurnedDown o h e k
turned_down o h e k is = go (verdict o.who (digest o h) e) refl is
  where
    go : (v : Verdict) → answer o h e ≡ given_by o h e v → site_by o.who (digest o h) e v ≡ Refuses k → IsTurnedDown o h e k
    go Verdict.Accepted same here = absurd (cc (here))
    go (Verdict.Refused n) same here = let same_number : number_of n ≡ k = cc (here) in record { number_is = ap (λ (a : Given). a.number) same ∙ ap Some same_number; entry_is = ap (λ (a : Given). a.entry) same }
    go (Verdict.Breaks from r) same here = absurd (cc (here))

-- ---- a declaration

-- a number that had nothing to do with the site is not refused, and the declaration has no record
pub declared_first : (who : Who) (o : Origin) (s : Option Addr) → o.start.records ≡ [] → answer_at who (digest o []) (Event.Declare s) ≡ Happens None (action who (digest o []) (Event.Declare s))
unfolding refusal verdict started
declared_first who o s none = refl

-- ---- a step, from its parts

pub step_made : (a a' b b' : Option NodeTree) (c c' : Bool) (d d' : Option LogWords) → a ≡ a' → b ≡ b' → c ≡ c' → d ≡ d'
    → ◌≡◌ {A = TreeChange} (record { before = a; after = b; leaves = c; rec = d }) (record { before = a'; after = b'; leaves = c'; rec = d' })
step_made a a' b b' c c' d d' p q r s = rw (p, q, r, s) refl
