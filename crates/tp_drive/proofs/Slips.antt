-- The slips of lanes.
use Rattle.std.proofs.Common.{◌≡◌, ◌<◌, ℕ, List, [], ◌∷◌, map, get_or, length, refl, sym, ap, subst, ◌∙◌, arith}
use Rattle.std.specs.List.{All, sum_by}
use Rattle.std.proofs.lemmas.List.{get_or-map, length-map}
use Rattle.std.proofs.lemmas.List.Sums.{sum_by-cons}
use Rattle.atomic_table.specs.Seated.{TableId}
use Rattle.tp_journal.specs.declared.receipts.Receipt.{Receipt}
use Rattle.tp_shared_log.specs.Shares.{Noted}
use Rattle.tp_drive.specs.Crews.{IsOf, receipts_of, slip_of}
use Rattle.tp_drive.specs.Works.{Working}

-- they are of the log of the lanes
pub slips_of : (log : TableId) (ws : List Working) → All (IsOf log) ws → All (λ (n : Noted). n.of ≡ log) (map slip_of ws)
slips_of log [] all i d h = absurd (omega arith)
slips_of log (w ∷ ws) all i d h =
    let within : i < length (w ∷ ws) = omega (arith, h, length-map (w ∷ ws) slip_of) in
    subst (λ (n : Noted). n.of ≡ log) (sym (get_or-map slip_of (w ∷ ws) i w d within)) (all i w within)

-- and tell the receipts of these
pub slips_told : (ws : List Working) → map (λ (n : Noted). n.receipts) (map slip_of ws) ≡ map receipts_of ws
slips_told [] = refl
slips_told (w ∷ ws) = ap (λ (l : List (List Receipt)). receipts_of w ∷ l) (slips_told ws)

pub slips_many : (ns : List Noted) → sum_by (λ (n : Noted). length n.receipts) ns ≡ sum_by (λ (l : List Receipt). length l) (map (λ (n : Noted). n.receipts) ns)
slips_many [] = refl
slips_many (n ∷ ns) =
    omega (arith, slips_many ns, sum_by-cons (λ (m : Noted). length m.receipts) n ns, sum_by-cons (λ (l : List Receipt). length l) n.receipts (map (λ (m : Noted). m.receipts) ns))

-- a lane of the log is one after its work
pub stays_of : (log : TableId) (old new : List Working) → length new ≡ length old
    → ((i : ℕ) (d : Working) → i < length old → (get_or new i d).site.keeper.of ≡ (get_or old i d).site.keeper.of) → All (IsOf log) old → All (IsOf log) new
stays_of log old new counted same all i d h = let within : i < length old = omega (arith, h, counted) in same i d within ∙ all i d within
