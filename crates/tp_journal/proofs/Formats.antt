-- A disk that is written anew.
use Rattle.std.proofs.Common.{◌≡◌, ℕ, Option, Some, List, [], length, refl, sym, subst, arith}
use Rattle.tp_outside.specs.Story.{Story, Resized, Wrote}
use Rattle.tp_outside.specs.Disk.{Resizes, Writes, Syncs}
use Rattle.tp_outside.proofs.Torn.{written_end}
use Rattle.tp_journal.specs.Told.{IsOn}

-- cut to nothing, written and synced
pub written_anew : (bytes : List ℕ) (old cut wrote new : Option Story) → Resizes 0 old cut → Writes 0 bytes cut wrote → Syncs wrote new → (s : Story) → old ≡ Some s → IsOn new bytes
written_anew bytes old cut wrote new resizes writes syncs s is =
    let r : Resizes 0 (Some s) cut = subst (λ o. Resizes 0 o cut) is resizes in
    let w : Writes 0 bytes (Some (Resized 0 r.0 s)) wrote = subst (λ o. Writes 0 bytes o wrote) r.2 writes in
    let y : Syncs (Some (Wrote 0 (length bytes) w.0 (Resized 0 r.0 s))) new = subst (λ o. Syncs o new) w.2 syncs in
    let now : w.0 ≡ bytes = written_end 0 [] r.0 bytes w.0 refl (omega (arith, r.1.is)) w.1 in
    subst (λ o. IsOn o bytes) (sym y) ((λ c image. image), now)
