-- What a subordinate answers: a round that its superior closed. At a transaction and at a node, for each number of rounds
-- that the two ends closed before.
use Rattle.std.specs.Prelude.{ℕ, suc, ◌+◌, ◌≤◌, ◌≡◌, ◌||◌, ◌⊎◌, Bool, true, false, Option, Some}
use Rattle.tp_model.specs.declared.arc.Phase.{Phase}
use Rattle.tp_model.specs.declared.transaction.TxEvent.{TxEvent}
use Rattle.tp_model.specs.Parts.{Current, Digest}
use Rattle.tp_model.specs.Links.{is_live}
use Rattle.tp_model.specs.Arcs.{link_with}
use Rattle.tp_model.specs.Dialogues.{is_nil, is_ready, is_committing}
use Rattle.tp_model.specs.Transactions.{Transaction, Turn, is_under_at}
use Rattle.tp_model.specs.Node.{Move}
use Rattle.tp_steps.specs.Turns.{loses, hears_close}
use Rattle.tp_steps.specs.Passages.{IsPassed}
use Rattle.tp_steps.specs.Facts.{spoken, stays, sees, words_to, IsFair}
use Rattle.tp_steps.specs.Control.{rounds, flag_from, closes_up, voted_behind}

-- where it answered c rounds of b that the superior closed: v, Ready was said since; f, a Begin is open; cl, the event closes one.
-- What is asked of the transaction, its phase, whether Prepare was told and the superior rolled
pub record MayAnswer (cl : Bool) (c b : ℕ) (v f : Bool) (asked : Bool) (phase : Phase) (told rolled : Bool) : Type 0 where
  pub marks : (asked || is_ready phase || is_committing phase) ≡ true → told ≡ true
  pub opens : v ≡ false → (f ≡ true) ⊎ (suc c ≤ b)
  pub closes : v ≡ false → (told || rolled || cl) ≡ true → suc c ≤ b

abbrev pub Answers : Bool → ℕ → ℕ → Bool → Bool → Transaction → ℕ → Type 0
Answers cl c b v f t p = is_nil t.phase ≡ false → is_under_at t.key p ≡ true → MayAnswer cl c b v f t.asked t.phase t.told_prepare t.superior_rolled

-- an event e at a transaction s, from t on, and the superior p
pub record IsAnswering (e : TxEvent) (s : Transaction) (p : ℕ) (t : Transaction) (a : Turn) : Type 0 where
  pub fair : IsFair e s p t a
  pub passed : IsPassed e s t a
  pub answers : sees t p ≡ true → loses e p ≡ false → (cl : Bool) → (is_under_at s.key p ≡ true → hears_close e s ≡ true → cl ≡ true)
      → (c b : ℕ) (v f : Bool) → c ≤ b → Answers cl c b v f t p → stays true p a.outs ≡ true
      → (d : ℕ) (w : Bool) → d ≡ c + rounds closes_up voted_behind v (spoken true p a.outs)
      → w ≡ flag_from voted_behind v (spoken true p a.outs) → (d ≤ b) × Answers cl d b w f a.next p

-- ---- at a node

abbrev pub AnswersAt : Bool → ℕ → ℕ → Bool → Bool → Option Current → ℕ → Type 0
AnswersAt cl c b v f o p = (x : Current) → o ≡ Some x → is_nil x.phase ≡ false → is_under_at x.key p ≡ true
    → MayAnswer cl c b v f x.asked x.phase x.told_prepare x.superior_rolled

-- from d on
pub record IsAnswered (p : ℕ) (cl : Bool) (d : Digest) (m : Move) : Type 0 where
  pub answers : (c b : ℕ) (v f : Bool) → c ≤ b → AnswersAt cl c b v f d.current p → is_live (link_with m.next.arcs p) ≡ true
      → (n : ℕ) (w : Bool) → n ≡ c + rounds closes_up voted_behind v (words_to p m.outs) → w ≡ flag_from voted_behind v (words_to p m.outs)
      → (n ≤ b) × AnswersAt cl n b w f m.next.current p
