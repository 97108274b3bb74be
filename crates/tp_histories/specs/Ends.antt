-- What tells the associations of a node apart: its arcs lead to different nodes, and a mark that it drew for one stands on
-- no other.
use Rattle.std.specs.Prelude.{ℕ, ◌==◌, ◌≡◌, ◌⊎◌, Bool, true, false, Option, Some, None, List, []}
use Rattle.tp_names.specs.declared.identifiers.Mark.{Mark}
use Rattle.tp_names.specs.declared.identifiers.Addr.{Addr}
use Rattle.tp_model.specs.Parts.{Who, Entry, Link, Idle, Opening, Offered, Live, Digest}
use Rattle.tp_model.specs.Arcs.{link_with}
use Rattle.tp_model.specs.Questions.{is_at}
use Rattle.tp_histories.specs.Traces.{sent_on, own_mark}

-- the mark that stands for this end of a link was drawn by the node
abbrev pub own_is : Who → Option Addr → ℕ → Link → Bool
own_is who up p Idle = true
own_is who up p (Opening x) = x.node == who.node
own_is who up p (Offered x) = true
own_is who up p (Live x y s t) = (own_mark up p x y).node == who.node

-- the mark of the end that offered, where it is this node's superior end of a link
abbrev pub opened : Link → Option Mark
opened Idle = None
opened (Opening x) = Some x
opened (Offered x) = None
opened (Live x y s t) = Some x

pub record IsAlone (who : Who) (up : Option Addr) (d : Digest) (h : List Entry) : Type 0 where
  pub own : (p : ℕ) → own_is who up p (link_with d.arcs p) ≡ true
  -- what was sent on a pair went out with a mark of the node
  pub said : (p : ℕ) (x y : Mark) → (sent_on x y p h ≡ []) ⊎ ((own_mark up p x y).node ≡ who.node)
  -- two subordinates are never offered one mark, and nothing went to the one with the mark of the other
  pub apart : (p q : ℕ) (x : Mark) → is_at up p ≡ false → is_at up q ≡ false → opened (link_with d.arcs p) ≡ Some x
      → opened (link_with d.arcs q) ≡ Some x → p ≡ q
  pub quiet : (p q : ℕ) (x y : Mark) → is_at up p ≡ false → is_at up q ≡ false → opened (link_with d.arcs p) ≡ Some x → (sent_on x y q h ≡ []) ⊎ (p ≡ q)
