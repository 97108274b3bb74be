-- In every legal history each key but the current one is in no phase, whether anything is known of it or not; and the version of the
-- log is that of the start.
use Rattle.tp_history_state.proofs.Vocabulary.{if◌then◌else◌, ◌≡◌, Bool, true, false, refl, ap, ◌∙◌, Option, Some, None, List, ◌||◌, ◌==◌, Addr, NodeKey, Phase, is_key, Origin, Entry, Current, node_key, digest, phase_in, IsLegal, number_of_phase, number_self, key_self}
use Rattle.tp_model.specs.Consistency.{is_current}
use Rattle.tp_histories.specs.KnownTests.{is_quiet}
use Rattle.tp_histories.proofs.known.KnownPhase.{phase_at}
use Rattle.tp_histories.proofs.log.KeptLog.{kept_law}
use Rattle.tp_steps.proofs.log.ApartLog.{keys_equal}
use Rattle.tp_runs.proofs.KnownKeys.{phase_law}

pub quiet_law : (o : Origin) (up : Option Addr) (h : List Entry) (k : NodeKey) → IsLegal o up h → is_quiet o h (Some k) ≡ true
quiet_law o up h k legal = go (digest o h).current refl
  where
    phase : phase_in o k h ≡ phase_at (digest o h).current k
    phase = phase_law o up h k legal

    nil : phase_in o k h ≡ Phase.Nil → (number_of_phase (phase_in o k h) == 0) ≡ true
    nil i = number_self (number_of_phase (phase_in o k h)) 0 (ap number_of_phase i)

    turned : (c : Current) → is_key (node_key c.key) k ≡ false → (v : Bool) → is_key k (node_key c.key) ≡ v → v ≡ false
    turned c off true i =
        absurd (let same : k ≡ node_key c.key = keys_equal k (node_key c.key) i in
        let on : is_key (node_key c.key) k ≡ true = ap (is_key (node_key c.key)) same ∙ key_self (node_key c.key) in
        cc (on, off))
    turned c off false i = refl

    go : (v : Option Current) → (digest o h).current ≡ v → (is_current v k || (number_of_phase (phase_in o k h) == 0)) ≡ true
    go None i = nil (phase ∙ ap (λ (x : Option Current). phase_at x k) i)
    go (Some c) i = on (is_key (node_key c.key) k) refl
      where
        on : (b : Bool) → is_key (node_key c.key) k ≡ b → (is_current (Some c) k || (number_of_phase (phase_in o k h) == 0)) ≡ true
        on true j = rw j refl
        on false j = rw j (nil (phase ∙ ap (λ (x : Option Current). phase_at x k) i ∙ ap (λ (b : Bool). if b then c.phase else Phase.Nil) (turned c j (is_key k (node_key c.key)) refl)))

pub version_law : (o : Origin) (up : Option Addr) (h : List Entry) → IsLegal o up h → (digest o h).version ≡ o.start.version
version_law o up h legal = (kept_law o up h legal.grown).1
