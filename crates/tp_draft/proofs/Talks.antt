-- Where there is a transaction, and where there is none.
use Rattle.std.proofs.Common.{◌≡◌, ℕ, Bool, true, false, Option, Some, None, [], ◌∷◌, refl, ap}
use Rattle.std.specs.Prelude.{cond}
use Rattle.std.specs.Option.{is_some}
use Rattle.tp_records.specs.declared.indication.Indication.{Indication}
use Rattle.tp_records.specs.declared.dialogue.DialogueRecord.{DialogueRecord}
use Rattle.tp_records.specs.declared.request.Request.{Request}
use Rattle.tp_model.specs.declared.transaction.TxEvent.{TxEvent}
use Rattle.tp_model.specs.declared.transaction.TxOut.{TxOut}
use Rattle.tp_model.specs.Parts.{Who, Current, Digest}
use Rattle.tp_model.specs.Node.{Move, perform, begin_on, start_root, transact, situation_at}
use Rattle.tp_model.specs.Requests.{begin_transaction, abort}
use Rattle.tp_model.specs.Arrivals.{lose, take_abort}
use Rattle.tp_model.specs.Arcs.{without_arc}

-- ---- where there is a transaction, and where there is none

pub begins_there : (who : Who) (p : ℕ) (d : Digest) → is_some d.current ≡ true → begin_transaction who p d ≡ begin_on who p d
unfolding begin_transaction
begins_there who p d h = go d.current refl h
  where
    go : (o : Option Current) → d.current ≡ o → is_some o ≡ true → begin_transaction who p d ≡ begin_on who p d
    go None e f = absurd (let clash : false ≡ true = f in cc)
    go (Some c) e f = ap (λ (x : Option Current). elim x as (λ _. Move) [ None ↦ start_root who (p ∷ []) d | Some y ↦ begin_on who p d ]) e

pub begins_root : (who : Who) (p : ℕ) (d : Digest) → is_some d.current ≡ false → begin_transaction who p d ≡ start_root who (p ∷ []) d
unfolding begin_transaction
begins_root who p d h = go d.current refl h
  where
    go : (o : Option Current) → d.current ≡ o → is_some o ≡ false → begin_transaction who p d ≡ start_root who (p ∷ []) d
    go None e f = ap (λ (x : Option Current). elim x as (λ _. Move) [ None ↦ start_root who (p ∷ []) d | Some y ↦ begin_on who p d ]) e
    go (Some c) e f = absurd (let clash : true ≡ false = f in cc)

pub loses_there : (who : Who) (p : ℕ) (d : Digest) → is_some d.current ≡ true → lose who p d ≡ transact who (TxEvent.Lost p) (record d { arcs = without_arc d.arcs p })
unfolding lose
loses_there who p d h = go d.current refl h
  where
    go : (o : Option Current) → d.current ≡ o → is_some o ≡ true → lose who p d ≡ transact who (TxEvent.Lost p) (record d { arcs = without_arc d.arcs p })
    go None e f = absurd (let clash : false ≡ true = f in cc)
    go (Some c) e f = ap (λ (x : Option Current). elim x as (λ _. Move) [ None ↦ perform (TxOut.Tell (Indication.PAbort p) ∷ []) (record d { arcs = without_arc d.arcs p }) | Some y ↦ transact who (TxEvent.Lost p) (record d { arcs = without_arc d.arcs p }) ]) e

pub loses_alone : (who : Who) (p : ℕ) (d : Digest) → is_some d.current ≡ false → lose who p d ≡ perform (TxOut.Tell (Indication.PAbort p) ∷ []) (record d { arcs = without_arc d.arcs p })
unfolding lose
loses_alone who p d h = go d.current refl h
  where
    go : (o : Option Current) → d.current ≡ o → is_some o ≡ false → lose who p d ≡ perform (TxOut.Tell (Indication.PAbort p) ∷ []) (record d { arcs = without_arc d.arcs p })
    go None e f = ap (λ (x : Option Current). elim x as (λ _. Move) [ None ↦ perform (TxOut.Tell (Indication.PAbort p) ∷ []) (record d { arcs = without_arc d.arcs p }) | Some y ↦ transact who (TxEvent.Lost p) (record d { arcs = without_arc d.arcs p }) ]) e
    go (Some c) e f = absurd (let clash : true ≡ false = f in cc)

pub takes_there : (who : Who) (p : ℕ) (d : Digest) → is_some d.current ≡ true → take_abort who p d ≡ transact who (TxEvent.Took p DialogueRecord.UAbort) (record d { arcs = without_arc d.arcs p })
unfolding take_abort
takes_there who p d h = go d.current refl h
  where
    go : (o : Option Current) → d.current ≡ o → is_some o ≡ true → take_abort who p d ≡ transact who (TxEvent.Took p DialogueRecord.UAbort) (record d { arcs = without_arc d.arcs p })
    go None e f = absurd (let clash : false ≡ true = f in cc)
    go (Some c) e f =
        ap (λ (x : Option Current). elim x as (λ _. Move) [
          | None ↦ perform (TxOut.Tell (Indication.UAbort p) ∷ []) (record d { arcs = without_arc d.arcs p })
          | Some y ↦ transact who (TxEvent.Took p DialogueRecord.UAbort) (record d { arcs = without_arc d.arcs p })
        ]) e

pub takes_alone : (who : Who) (p : ℕ) (d : Digest) → is_some d.current ≡ false → take_abort who p d ≡ perform (TxOut.Tell (Indication.UAbort p) ∷ []) (record d { arcs = without_arc d.arcs p })
unfolding take_abort
takes_alone who p d h = go d.current refl h
  where
    go : (o : Option Current) → d.current ≡ o → is_some o ≡ false → take_abort who p d ≡ perform (TxOut.Tell (Indication.UAbort p) ∷ []) (record d { arcs = without_arc d.arcs p })
    go None e f =
        ap (λ (x : Option Current). elim x as (λ _. Move) [
          | None ↦ perform (TxOut.Tell (Indication.UAbort p) ∷ []) (record d { arcs = without_arc d.arcs p })
          | Some y ↦ transact who (TxEvent.Took p DialogueRecord.UAbort) (record d { arcs = without_arc d.arcs p })
        ]) e
    go (Some c) e f = absurd (let clash : true ≡ false = f in cc)

pub aborts_there : (who : Who) (p : ℕ) (d : Digest) → (situation_at who d p).branch ≡ true → abort who p d ≡ transact who (TxEvent.User (Request.UAbort p)) d
unfolding abort
aborts_there who p d h = ap (λ (b : Bool). cond b (transact who (TxEvent.User (Request.UAbort p)) d) (perform (TxOut.Carry p DialogueRecord.UAbort ∷ TxOut.Close p ∷ []) d)) h

pub aborts_alone : (who : Who) (p : ℕ) (d : Digest) → (situation_at who d p).branch ≡ false → abort who p d ≡ perform (TxOut.Carry p DialogueRecord.UAbort ∷ TxOut.Close p ∷ []) d
unfolding abort
aborts_alone who p d h = ap (λ (b : Bool). cond b (transact who (TxEvent.User (Request.UAbort p)) d) (perform (TxOut.Carry p DialogueRecord.UAbort ∷ TxOut.Close p ∷ []) d)) h
