-- What an arc refuses by itself.
use Rattle.std.proofs.Common.{◌≡◌, ℕ, true, List, [], ◌∷◌, Option, Some, min, nat_lt, zero, suc, ◌<◌, length, drop, slice_index_or, refl, ap, sym, ◌∙◌, arith}
use Rattle.std.proofs.lemmas.Bool.Decides.{nat_tests}
use Rattle.std.proofs.lemmas.Grind.{common_steps}
use Rattle.tp_names.specs.declared.identifiers.Addr.{Addr}
use Rattle.tp_model.specs.declared.refusal.Refusal.{Refusal}
use Rattle.tp_model.specs.Parts.{Arc, Branch, Digest}
use Rattle.tp_model.specs.Transactions.{Row}
use Rattle.tp_model.specs.Links.{is_live}
use Rattle.tp_model.specs.Dialogues.{Asked, Ask_data, refused_on_arc}
use Rattle.tp_model.specs.Arcs.{find_arc}
use Rattle.tp_model.specs.Node.{branches_of, side_at, situation_at}
use Rattle.tp_model.specs.Requests.{room, least, refused_at, count_below}
use Rattle.tp_model.specs.declared.arc.Side.{Side}
use Rattle.tp_node_state.specs.Arcs.{Arcs, has_place, count_subordinates_in}
use Rattle.tp_node.specs.Node.{Node, has_place_at}

pub refused_on : (v : Node) (p octets : ℕ) (kind : Asked) (others : Option Refusal) (a : Arc) → find_arc v.digest.arcs p ≡ Some a → is_live a.link ≡ true → refused_at v.who v.digest p octets kind others ≡ least (refused_on_arc (side_at v.digest p) a.dialogue (situation_at v.who v.digest p) octets kind) others
refused_on v p octets kind others a found live = grind (arith, common_steps)

-- the arcs to subordinates
pub counted : (d : Digest) (arcs : List Arc) → count_subordinates_in d.superior arcs ≡ count_below d arcs
counted d [] = refl
counted d (a ∷ arcs) = grind (arith, common_steps, counted d arcs)

-- more octets than are counted are as many as too many
pub data_cut : (v : Node) (p n : ℕ) (others : Option Refusal) → refused_at v.who v.digest p (min n 2000) Ask_data others ≡ refused_at v.who v.digest p n Ask_data others
unfolding refused_on_arc
data_cut v p n others = grind (arith, common_steps, cut n)
  where
    cut : (k : ℕ) → nat_lt 1024 (min k 2000) ≡ nat_lt 1024 k
    cut k = grind (arith, nat_tests)

pub counted_in : (d : Digest) (a : Arcs) (n : ℕ) → d.superior ≡ a.superior → d.arcs ≡ a.arcs → n ≡ count_subordinates_in a.superior a.arcs → n ≡ count_below d d.arcs
counted_in d a n s l is = is ∙ sym (ap (λ x. count_subordinates_in x a.arcs) s) ∙ sym (ap (count_subordinates_in d.superior) l) ∙ counted d d.arcs

-- ---- loops over branches

pub branch_at : (rows : List Row) (i : ℕ) (a : Addr) → i < length rows → ((d : Row) → a ≡ (slice_index_or rows i d).branch.peer) → (b : Branch) × (a ≡ b.peer) × (branches_of (drop i rows) ≡ b ∷ branches_of (drop (suc i) rows))
branch_at [] i a h at = absurd (omega arith)
branch_at (r ∷ rows) zero a h at = (r.branch, at r, refl)
branch_at (r ∷ rows) (suc i) a h at = branch_at rows i a (omega arith) at

-- a place among the arcs, where the log allows it
pub place_there : (side : Side) (a : Arcs) (d : Digest) → d.superior ≡ a.superior → d.arcs ≡ a.arcs → a.room ≡ room d.version → has_place_at side d ≡ true → has_place side a ≡ true
place_there Side.Subordinate a d s l room h = refl
place_there Side.Superior a d s l fits h =
    ap (λ n. nat_lt n a.room) (counted_in d a (count_subordinates_in a.superior a.arcs) s l refl) ∙ ap (λ n. nat_lt (count_below d d.arcs) n) fits ∙ h
