-- What a check of the order keeps of the records that it has taken: by key what the rules ask of it, and by node the keys
-- that bind it. A question reads one key and one node of this.
use Rattle.std.specs.Prelude.{ℕ, max, nat_lt, nat_eq, ◌≡◌, ◌==◌, Bool, true, false, Option, Some, None, List, [], ◌∷◌}
use Rattle.std.specs.Map.{lookup}
use Rattle.tp_logrec.specs.declared.record.LogRec.{LogRec}
use Rattle.tp_logrec.specs.Order.{Owner, owner, owner_of, is_owner, is_ready, is_end, boots, greatest, is_begun, boot_by, last_boot_from, last_from, ready_from, bound, bound_by, Before, may_follow}

-- ---- the greatest boot number

abbrev pub greatest_by : Option ℕ → ℕ → ℕ
greatest_by None n = n
greatest_by (Some m) n = max m n

abbrev pub greatest_after : Option ℕ → LogRec → Option ℕ
greatest_after g (LogRec.Boot n) = Some (greatest_by g n)
greatest_after g (LogRec.Ready n k a cs) = g
greatest_after g (LogRec.Heuristic n k o) = g
greatest_after g (LogRec.Commit n k a cs) = g
greatest_after g (LogRec.Damage n k a o r cs) = g
greatest_after g (LogRec.End n k o) = g

-- the number is above the greatest
abbrev pub is_above : Option ℕ → ℕ → Bool
is_above None n = true
is_above (Some m) n = nat_lt m n

-- ---- one key that is not at its end

pub record Recent : Type 0 where
  pub last : LogRec
  pub ready : Option LogRec

abbrev pub ready_only : LogRec → Option LogRec
ready_only r = elim (is_ready r) [ true ↦ Some r | false ↦ None ]

abbrev pub ready_in : Option Recent → Option LogRec
ready_in None = None
ready_in (Some k) = k.ready

abbrev pub last_in : Option Recent → Option LogRec
last_in None = None
last_in (Some k) = Some k.last

-- with one more record of the key, which is no End
abbrev pub recent_with : Option Recent → LogRec → Recent
recent_with k r = record { last = r; ready = elim (is_ready r) [ true ↦ Some r | false ↦ ready_in k ] }

-- the records of both, one after the other
abbrev pub gone_on : Recent → Recent → Recent
gone_on k next = record { last = next.last; ready = elim next.ready [ None ↦ k.ready | Some r ↦ Some r ] }

abbrev pub recent_by : Option Recent → LogRec → Option Recent
recent_by k r = elim (is_end r) [ true ↦ None | false ↦ Some (recent_with k r) ]

-- ---- the keys that bind one node

abbrev pub bound_at : ℕ → List Owner → List Owner
bound_at n [] = []
bound_at n (o ∷ os) = elim (o.node == n) [ true ↦ o ∷ bound_at n os | false ↦ bound_at n os ]

abbrev pub is_none : List Owner → Bool
is_none [] = true
is_none (o ∷ os) = false

-- ---- the whole: keys and nodes stand in no order

pub record OrderCheck : Type 0 where
  pub begun : Bool
  pub greatest : Option ℕ
  pub boot : ℕ
  pub keys : List (Owner × Recent)
  pub nodes : List (ℕ × List Owner)

-- what is kept of the key
abbrev pub recent : List (Owner × Recent) → Owner → Option Recent
recent ks o = lookup (is_owner o) ks

-- an entry of the node is there
abbrev pub has_node : List (ℕ × List Owner) → ℕ → Bool
has_node ns n = elim (lookup (nat_eq n) ns) [ None ↦ false | Some os ↦ true ]

-- the keys that bind the node
abbrev pub binding : List (ℕ × List Owner) → ℕ → List Owner
binding ns n = elim (lookup (nat_eq n) ns) [ None ↦ [] | Some os ↦ os ]

-- it is that of the list
pub record IsCheckOf (rs : List LogRec) (c : OrderCheck) : Type 0 where
  pub begun : c.begun ≡ is_begun rs
  pub greatest : c.greatest ≡ greatest (boots rs)
  pub boot : c.boot ≡ last_boot_from 0 rs
  pub last : (o : Owner) → last_in (recent c.keys o) ≡ last_from o None rs
  pub ready : (o : Owner) → ready_in (recent c.keys o) ≡ ready_from o None rs
  pub binding : (n : ℕ) → binding c.nodes n ≡ bound_at n (bound rs)

-- both answer every question alike
pub record IsSame (c d : OrderCheck) : Type 0 where
  pub begun : d.begun ≡ c.begun
  pub greatest : d.greatest ≡ c.greatest
  pub boot : d.boot ≡ c.boot
  pub recent : (o : Owner) → recent d.keys o ≡ recent c.keys o
  pub binding : (n : ℕ) → binding d.nodes n ≡ binding c.nodes n

-- ---- with one record more

abbrev pub recent_after : Option Recent → Owner → LogRec → Option Recent
recent_after k o r = elim (owner_of r) [ None ↦ k | Some p ↦ elim (is_owner p o) [ true ↦ recent_by k r | false ↦ k ] ]

abbrev pub binding_after : List Owner → ℕ → LogRec → List Owner
binding_after os n r = elim (owner_of r) [ None ↦ os | Some p ↦ elim (p.node == n) [ true ↦ bound_by os p r | false ↦ os ] ]

pub record IsWith (c : OrderCheck) (r : LogRec) (d : OrderCheck) : Type 0 where
  pub begun : d.begun ≡ true
  pub greatest : d.greatest ≡ greatest_after c.greatest r
  pub boot : d.boot ≡ boot_by c.boot r
  pub recent : (o : Owner) → recent d.keys o ≡ recent_after (recent c.keys o) o r
  pub binding : (n : ℕ) → binding d.nodes n ≡ binding_after (binding c.nodes n) n r

-- ---- what may follow, by what is kept

abbrev pub before_by : OrderCheck → Owner → Before
before_by c o = record {
  begun = c.begun;
  boot = c.boot;
  free = is_none (binding c.nodes o.node);
  last = last_in (recent c.keys o);
  ready = ready_in (recent c.keys o);
}

abbrev pub follows_by : OrderCheck → LogRec → Bool
follows_by c (LogRec.Boot n) = is_above c.greatest n
follows_by c (LogRec.Ready n k a cs) = may_follow (before_by c (owner n k)) (LogRec.Ready n k a cs)
follows_by c (LogRec.Heuristic n k o) = may_follow (before_by c (owner n k)) (LogRec.Heuristic n k o)
follows_by c (LogRec.Commit n k a cs) = may_follow (before_by c (owner n k)) (LogRec.Commit n k a cs)
follows_by c (LogRec.Damage n k a o r cs) = may_follow (before_by c (owner n k)) (LogRec.Damage n k a o r cs)
follows_by c (LogRec.End n k o) = may_follow (before_by c (owner n k)) (LogRec.End n k o)
