-- What the nodes and the frames of every run have in common: which history sent a frame, and that
-- what a node took is a frame.
use Rattle.std.specs.Prelude.{ℕ, suc, ◌≡◌, ◌≤◌, ◌==◌, Bool, true, false, Some, None, List, [], ◌∷◌, ◌++◌, ◌⊎◌}
use Rattle.tp_names.specs.declared.identifiers.Addr.{Addr}
use Rattle.tp_records.specs.declared.peer.PeerRecord.{PeerRecord}
use Rattle.tp_model.specs.Parts.{Event}
use Rattle.tp_model.specs.History.{refuse, entry_of}
use Rattle.tp_model.specs.World.{Node, Frame, number_of, addr_of, find_node}
use Rattle.tp_model.specs.Legal.{IsGrown, IsUnder}
use Rattle.tp_steps.specs.Histories.{brought}
use Rattle.tp_histories.specs.Histories.{HasSent, HasBrought}

abbrev pub Each : (Frame → Type 0) → List Frame → Type 0
Each P [] = Unit {0}
Each P (f ∷ fs) = P f × Each P fs

-- the history that sent the frame
abbrev pub WasSent : List Node → Frame → Type 0
WasSent ns f = (x : Node) × (find_node ns f.from.node ≡ Some x) × (addr_of x ≡ f.from) × HasSent x.history f.to f.rec

abbrev pub IsFrameOf : List Frame → Addr → ℕ → PeerRecord → Type 0
IsFrameOf [] a n r = ⊥
IsFrameOf (f ∷ fs) a n r = (f.from ≡ a) × (f.to.node ≡ n) × (f.rec ≡ r) ⊎ IsFrameOf fs a n r

-- how many nodes were declared before this one
abbrev pub place : List Node → ℕ → ℕ
place [] n = 0
place (x ∷ xs) n = elim (number_of x == n) [ true ↦ 0 | false ↦ suc (place xs n) ]

-- no two of the later nodes have one number, nor has one of them that of an earlier node
abbrev pub AreDistinct : List Node → List Node → Type 0
AreDistinct old [] = Unit {0}
AreDistinct old (x ∷ xs) = (find_node old (number_of x) ≡ None) × AreDistinct (old ++ x ∷ []) xs

-- the node that has the address, declared before
pub record Above (ns : List Node) (s : Addr) (n : ℕ) : Type 0 where
  pub node : Node
  pub found : find_node ns s.node ≡ Some node
  pub is : addr_of node ≡ s
  pub before : suc (place ns s.node) ≤ place ns n

pub record IsGood (ns : List Node) (fs : List Frame) : Type 0 where
  pub legal : (n : ℕ) (x : Node) → find_node ns n ≡ Some x → IsGrown x.origin x.superior x.history
  -- its log was empty when it was declared
  pub fresh : (n : ℕ) (x : Node) → find_node ns n ≡ Some x → x.origin.start.records ≡ []
  pub above : (n : ℕ) (x : Node) (s : Addr) → find_node ns n ≡ Some x → x.superior ≡ Some s → Above ns s n
  pub sent : Each (WasSent ns) fs
  pub taken : (n : ℕ) (x : Node) (a : Addr) (r : PeerRecord) → find_node ns n ≡ Some x → HasBrought x.history a r → IsFrameOf fs a n r

-- ---- one step of a run: an event that a node accepts

abbrev pub grown_node : Node → Event → Node
grown_node x e = record x { history = entry_of x.origin x.history e ∷ x.history }

pub record Accepts (ns : List Node) (fs : List Frame) (x : Node) (e : Event) : Type 0 where
  pub here : find_node ns (number_of x) ≡ Some x
  pub ok : refuse x.origin x.history e ≡ None
  pub came : (a : Addr) (r : PeerRecord) → brought e ≡ Some (a, r) → IsFrameOf fs a (number_of x) r
  pub under : IsUnder x.superior e

-- of a node that is declared: no events yet, an empty log, and a superior that is there
pub record Comes (ns : List Node) (x : Node) : Type 0 where
  pub none : find_node ns (number_of x) ≡ None
  pub bare : x.history ≡ []
  pub fresh : x.origin.start.records ≡ []
  pub above : (s : Addr) → x.superior ≡ Some s → (u : Node) × (find_node ns s.node ≡ Some u) × (addr_of u ≡ s)

-- the frames of an event go out, or the site stops before they do
abbrev pub shown : Bool → List Frame → List Frame
shown true fs = fs
shown false fs = []
