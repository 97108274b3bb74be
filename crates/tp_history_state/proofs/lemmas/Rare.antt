-- Words that no event of a transaction carries but its user's leaving, or what defers something.
use Rattle.tp_history_state.proofs.Vocabulary.{if◌then◌else◌, ◌≡◌, ℕ, Bool, true, false, refl, ap, ◌∙◌, arith, List, [], ◌∷◌, ◌++◌, ◌&&◌, not, Aaid, Report, Request, Indication, DialogueRecord, TxEvent, TxOut, Row, Transaction, Turn, aaid_of, carry_up, carry_down, prepare_each, forgets, done_up, ends_down, end_up, ask_each, retried, ask_commit, order, count_branch, end_branch, branch_left, complete_commit, complete_rollback, begin_rolling, transacted, is_leaving, Turns, IsPut, carries_none, none_more, every_turn}

-- a question to records that none of a transaction's own words answers
pub record IsRare (g : DialogueRecord → Bool) : Type 0 where
  pub prepare : g DialogueRecord.Prepare ≡ false
  pub ready : g DialogueRecord.Ready ≡ false
  pub commit : g DialogueRecord.Commit ≡ false
  pub done : (r : Report) → g (DialogueRecord.Done r) ≡ false
  pub rollback : g DialogueRecord.Rollback ≡ false
  pub rolled : (r : Report) → g (DialogueRecord.RolledBack r) ≡ false
  pub abort : g DialogueRecord.UAbort ≡ false

abbrev pub IsSilent : (DialogueRecord → Bool) → Transaction → Turn → Type 0
IsSilent g t a = carries_none g a.outs ≡ true

pub more : (g : DialogueRecord → Bool) (xs ys : List TxOut) → carries_none g xs ≡ true → carries_none g ys ≡ true → carries_none g (xs ++ ys) ≡ true
more g xs ys h i = none_more g xs ys ∙ rw (h, i) refl

pub up : (g : DialogueRecord → Bool) (t : Transaction) (r : DialogueRecord) → g r ≡ false → carries_none g (carry_up t r) ≡ true
up g t r h = grind (arith, h)

pub down : (g : DialogueRecord → Bool) (rows : List Row) (r : DialogueRecord) → g r ≡ false → carries_none g (carry_down rows r) ≡ true
down g [] r h = refl
down g (w ∷ rows) r h = grind (arith, h, down g rows r h)

prepares : (g : DialogueRecord → Bool) (rows : List Row) → g DialogueRecord.Prepare ≡ false → carries_none g (prepare_each rows) ≡ true
prepares g [] h = refl
prepares g (w ∷ rows) h = grind (arith, h, prepares g rows h)

forgetting : (g : DialogueRecord → Bool) (a : Aaid) (rows : List Row) → carries_none g (forgets a rows) ≡ true
forgetting g a [] = refl
forgetting g a (w ∷ rows) = grind (arith, forgetting g a rows)

ending : (g : DialogueRecord → Bool) (rows : List Row) → carries_none g (ends_down rows) ≡ true
ending g [] = refl
ending g (w ∷ rows) = grind (arith, ending g rows)

asking : (g : DialogueRecord → Bool) (a : Aaid) (rows : List Row) → carries_none g (ask_each a rows) ≡ true
asking g a [] = refl
asking g a (w ∷ rows) = grind (arith, asking g a rows)

ending_up : (g : DialogueRecord → Bool) (t : Transaction) → carries_none g (end_up t) ≡ true
ending_up g t = grind arith

pub ordering : (g : DialogueRecord → Bool) → g DialogueRecord.Commit ≡ false → (t : Transaction) → IsSilent g t (order t)
unfolding order
ordering g off t = more g (carry_down t.rows DialogueRecord.Commit) (TxOut.Tell Indication.Commit ∷ []) (down g t.rows DialogueRecord.Commit off) refl

pub rolling : (g : DialogueRecord → Bool) → g DialogueRecord.Rollback ≡ false → (asked : Bool) (t : Transaction) → IsSilent g t (begin_rolling asked t)
unfolding begin_rolling
rolling g off asked t =
    let told : List TxOut = if asked then [] else TxOut.Tell Indication.Rollback ∷ [] in
    more g (told ++ carry_up t DialogueRecord.Rollback) (carry_down t.rows DialogueRecord.Rollback)
    (more g told (carry_up t DialogueRecord.Rollback) (grind arith) (up g t DialogueRecord.Rollback off)) (down g t.rows DialogueRecord.Rollback off)

pub committing : (g : DialogueRecord → Bool) → ((r : Report) → g (DialogueRecord.Done r) ≡ false) → (t : Transaction) → IsSilent g t (complete_commit t)
unfolding complete_commit
committing g off t =
    let f = forgetting g (aaid_of t.key) t.rows in
    let e = ending g t.rows in
    let u = ending_up g t in
    let d : (r : Report) → carries_none g (done_up t r) ≡ true = λ r. let one = off r in grind (arith, one) in
    grind (arith, none_more, f, e, u, d)

pub unrolling : (g : DialogueRecord → Bool) → ((r : Report) → g (DialogueRecord.RolledBack r) ≡ false) → (t : Transaction) → IsSilent g t (complete_rollback t)
unfolding complete_rollback
unrolling g off t = let u : (r : Report) → carries_none g (carry_up t (DialogueRecord.RolledBack r)) ≡ true = λ r. up g t (DialogueRecord.RolledBack r) (off r) in grind (arith, none_more, u)

pub retrying : (g : DialogueRecord → Bool) (t : Transaction) → carries_none g (retried t) ≡ true
retrying g t = let a = asking g (aaid_of t.key) t.rows in grind (arith, none_more, a)

abbrev carried_alone : (DialogueRecord → Bool) → DialogueRecord → Bool
carried_alone g r = not (g r) && true

alone : (g : DialogueRecord → Bool) (r : DialogueRecord) → g r ≡ false → carried_alone g r ≡ true
alone g r h = rw h refl

silent_turns : (g : DialogueRecord → Bool) → IsRare g → (e : TxEvent) (s : Transaction) → is_leaving e ≡ false → ((q : ℕ) → e ≡ TxEvent.User (Request.DeferEnd q) → g DialogueRecord.DeferEnd ≡ false)
    → ((q : ℕ) → e ≡ TxEvent.User (Request.DeferGrant q) → g DialogueRecord.DeferGrant ≡ false) → Turns e s (IsSilent g)
unfolding ask_commit count_branch end_branch branch_left
silent_turns g rare e s off no_end no_grant = record {
  still = λ t. refl;
  first = λ t u outs a one two. more g outs a.outs one two;
  chain = λ t a f one two none. more g a.outs (f a.next).outs one two;
  tells = λ t i n. refl;
  notes_prepare = λ pr h. refl;
  notes_done = λ is. refl;
  notes_end = λ q is. refl;
  notes_rollback = λ ro h. refl;
  defers_end = λ q is. alone g DialogueRecord.DeferEnd (no_end q is);
  defers_grant = λ q is. alone g DialogueRecord.DeferGrant (no_grant q is);
  prepares = λ q. alone g DialogueRecord.Prepare rare.prepare;
  asks = λ is act asked told. prepares g s.rows rare.prepare;
  asks_again = retrying g s;
  decides = λ o is ready. refl;
  aborts = λ q is. alone g DialogueRecord.UAbort rare.abort;
  loses_arc = λ q gone. refl;
  closes_left = λ q is. refl;
  gives_up = λ q r is c found. grind arith;
  counts = λ q is act row. refl;
  ends_done = λ q r is c row. grind arith;
  ends_replied = λ b w r is found o. grind arith;
  ends_rolled = λ q r is c row. grind arith;
  leaves_below = λ q w t is left at act. refl;
  leaves_rolling = λ q w t is left at c. refl;
  votes = λ t act asked all under. up g t DialogueRecord.Ready rare.ready;
  orders_root = λ t act asked all root. ordering g rare.commit t;
  orders_ready = λ ready is. ordering g rare.commit s;
  rolls = λ t asked f ok. rolling g rare.rollback asked t;
  completes_commit = λ t c. committing g rare.done t;
  completes_rollback = λ t c. unrolling g rare.rolled t;
  leaves = λ is act under asked all. absurd (cc (ap is_leaving is, off));
}

pub silent_turn : (g : DialogueRecord → Bool) → IsRare g → (e : TxEvent) (s : Transaction) → is_leaving e ≡ false → ((q : ℕ) → e ≡ TxEvent.User (Request.DeferEnd q) → g DialogueRecord.DeferEnd ≡ false)
    → ((q : ℕ) → e ≡ TxEvent.User (Request.DeferGrant q) → g DialogueRecord.DeferGrant ≡ false) → IsPut e s → carries_none g (transacted e s).outs ≡ true
silent_turn g rare e s off no_end no_grant put = every_turn e s (IsSilent g) (silent_turns g rare e s off no_end no_grant) put
