-- A force over a fuse, call by call.
use Rattle.std.proofs.Common.{◌≡◌, inl, inr, ◌+◌, ℕ, List, [], ◌∷◌, ap, ◌∙◌, subst, arith}
use Rattle.tp_outside.specs.MemDisk.{DiskWrites, DiskSyncs}
use Rattle.tp_outside.specs.Fill.{filled_range}
use Rattle.tp_outside.specs.FuseDisk.{Fused, Passes, FuseFails, IsMade, GoesOn, StopsAfter}
use Rattle.tp_outside.proofs.Fuses.{write_stops, sync_stops, both_pass, goes_twice, stops_later, starves_later}
use Rattle.tp_journal.specs.Stops.{Stores, StopsStoring, with_piece, Opens, StopsOpening}
use Rattle.tp_journal.proofs.Exactly.{written_is, gate_opened}

pub stores : (at : ℕ) (piece : List ℕ) (f m g : Fused) → Passes (DiskWrites at piece) f m → Passes DiskSyncs m g → Stores at piece f g
stores at piece f m g writes syncs file ready few = both_pass at piece f file ready few m writes g syncs

pub write_fails : (at : ℕ) (piece : List ℕ) (f g : Fused) → FuseFails (DiskWrites at piece) (IsMade (DiskWrites at piece)) f g → StopsStoring at piece f g
write_fails at piece f g fails file ready few = write_stops at piece f file ready few g fails

pub sync_fails : (at : ℕ) (piece : List ℕ) (f m g : Fused) → Passes (DiskWrites at piece) f m → FuseFails DiskSyncs (λ old new. new ≡ old) m g → StopsStoring at piece f g
sync_fails at piece f m g writes fails file ready few = sync_stops at piece f file ready few m writes g fails

-- the piece is stored, and then the gate
pub opens : (gate : ℕ) (piece : List ℕ) (f m g : Fused) → Stores (gate + 1) piece f m → Stores gate (1 ∷ []) m g → Opens gate piece f g
opens gate piece f m g first second file ready within few =
    let put = first file ready (omega (arith, few)) in
    let turned = second put.0 put.2.ready (omega (arith, few, put.2.calls)) in
    subst (GoesOn 4 f g) (gate_opened gate piece file put.0 turned.0 within put.1 turned.1) (goes_twice 2 2 f m g put.0 turned.0 put.2 turned.2)

pub piece_fails : (gate : ℕ) (piece : List ℕ) (f g : Fused) → StopsStoring (gate + 1) piece f g → StopsOpening gate piece f g
piece_fails gate piece f g stops file ready within few = elim (stops file ready (omega (arith, few))) [ inl stopped ↦ inl stopped | inr starves ↦ inr (inr starves) ]

pub gate_fails : (gate : ℕ) (piece : List ℕ) (f m g : Fused) → Stores (gate + 1) piece f m → StopsStoring gate (1 ∷ []) m g → StopsOpening gate piece f g
gate_fails gate piece f m g first stops file ready within few =
    let put = first file ready (omega (arith, few)) in
    let now : put.0 ≡ with_piece gate piece file = written_is (gate + 1) piece file put.0 (omega (arith, within)) put.1 in
    elim (stops put.0 put.2.ready (omega (arith, few, put.2.calls))) [
      | inl stopped ↦
          let image : filled_range m.fill gate 1 put.0 ≡ filled_range f.fill gate 1 (with_piece gate piece file) =
          ap (λ (n : ℕ). filled_range n gate 1 put.0) put.2.fill ∙ ap (λ (l : List ℕ). filled_range f.fill gate 1 l) now in
          inr (inl (subst (StopsAfter 2 4 f g) image (stops_later 2 0 2 f m g put.0 (filled_range m.fill gate 1 put.0) put.2 stopped)))
      | inr starves ↦ inr (inr (starves_later 2 f m g put.0 put.2 starves))
    ]
