-- What the answer to an offered association makes of a node: nothing, or the offer is accepted or refused.
use Rattle.std.proofs.Common.{◌≡◌, ℕ, refl, Option, Some, None, [], ◌∷◌}
use Rattle.tp_names.specs.declared.identifiers.Mark.{Mark}
use Rattle.tp_records.specs.declared.peer.PeerRecord.{PeerRecord}
use Rattle.tp_model.specs.declared.arc.Side.{Side}
use Rattle.tp_model.specs.declared.transaction.TxOut.{TxOut}
use Rattle.tp_model.specs.Parts.{Who, Link, Idle, Opening, Offered, Live, Arc, Digest}
use Rattle.tp_model.specs.Dialogues.{fresh_dialogue}
use Rattle.tp_model.specs.Arcs.{put_arc}
use Rattle.tp_model.specs.Node.{Move, move, perform, next_mark, with_mark_drawn, superior_arc}
use Rattle.tp_model.specs.Requests.{accept, reject}

abbrev pub accept_over : Who → ℕ → Digest → Arc → Mark → Move
accept_over who u d a x =
    perform
    (TxOut.Recovery a.peer (PeerRecord.AcceptAssoc x (next_mark who d) u) ∷ [])
    (record (with_mark_drawn d) { arcs = put_arc d.arcs (record a { link = Live x (next_mark who d) 0 0; dialogue = fresh_dialogue u Side.Subordinate }) })

abbrev pub reject_over : Digest → Arc → Mark → Move
reject_over d a x = perform (TxOut.Recovery a.peer (PeerRecord.ShutAssoc x None) ∷ TxOut.Close a.peer.node ∷ []) d

offer_cases : (P : Move → Type 0) (d : Digest) (over : Arc → Mark → Move) → P (move [] d) → ((a : Arc) (x : Mark) → superior_arc d ≡ Some a → a.link ≡ Offered x → P (over a x)) → (o : Option Arc) → superior_arc d ≡ o
    → P (elim o as (λ _. Move) [
      | None ↦ move [] d
      | Some a ↦ elim a.link as (λ _. Move) [ Idle ↦ move [] d | Opening x ↦ move [] d | Offered x ↦ over a x | Live x y sent taken ↦ move [] d ]
    ])
offer_cases P d over still on None i = still
offer_cases P d over still on (Some a) i = by a.link refl
  where
    by : (l : Link) → a.link ≡ l → P (elim l as (λ _. Move) [ Idle ↦ move [] d | Opening x ↦ move [] d | Offered x ↦ over a x | Live x y sent taken ↦ move [] d ])
    by (Offered x) j = on a x i j
    by Idle j = still
    by (Opening x) j = still
    by (Live x y sent taken) j = still

pub accept_cases : (P : Move → Type 0) (who : Who) (u : ℕ) (d : Digest) → P (move [] d) → ((a : Arc) (x : Mark) → superior_arc d ≡ Some a → a.link ≡ Offered x → P (accept_over who u d a x)) → P (accept who u d)
unfolding accept
accept_cases P who u d still on = offer_cases P d (λ a x. accept_over who u d a x) still on (superior_arc d) refl

pub reject_cases : (P : Move → Type 0) (d : Digest) → P (move [] d) → ((a : Arc) (x : Mark) → superior_arc d ≡ Some a → a.link ≡ Offered x → P (reject_over d a x)) → P (reject d)
unfolding reject
reject_cases P d still on = offer_cases P d (λ a x. reject_over d a x) still on (superior_arc d) refl
