-- What the rules of a transaction tell its user.
use Rattle.tp_history_state.proofs.Vocabulary.{if◌then◌else◌, ◌≡◌, Bool, true, false, refl, ◌∙◌, arith, List, [], ◌∷◌, ◌++◌, ◌&&◌, ◌||◌, not, and-false, Report, Indication, DialogueRecord, Phase, TxOut, Transaction, aaid_of, carry_up, carry_down, forgets, done_up, ends_down, end_up, retried, order, leave, begin_rolling, asks_tell, tell_append, still_up, still_down, still_forgets, still_ends, still_ask, still_done, still_end_up}

pub ordering_tells : (f : Indication → Bool) (t : Transaction) → asks_tell f (order t).outs ≡ (f Indication.Commit || false)
unfolding order
ordering_tells f t = tell_append f (carry_down t.rows DialogueRecord.Commit) (TxOut.Tell Indication.Commit ∷ []) ∙ rw ((still_down t.rows DialogueRecord.Commit refl).1 f) refl

pub rolls_tell : (f : Indication → Bool) (asked : Bool) (t : Transaction) → asks_tell f (begin_rolling asked t).outs ≡ (not asked && f Indication.Rollback)
unfolding begin_rolling
rolls_tell f asked t =
    tell_append f (told ++ carry_up t DialogueRecord.Rollback) (carry_down t.rows DialogueRecord.Rollback)
    ∙ rw (tell_append f told (carry_up t DialogueRecord.Rollback), first asked, (still_up t DialogueRecord.Rollback refl).1 f, (still_down t.rows DialogueRecord.Rollback refl).1 f) (flat (not asked && f Indication.Rollback))
  where
    told : List TxOut
    told = if asked then [] else TxOut.Tell Indication.Rollback ∷ []

    flat : (b : Bool) → ((b || false) || false) ≡ b
    flat b = grind arith

    first : (b : Bool) → asks_tell f (if b then [] else TxOut.Tell Indication.Rollback ∷ []) ≡ (not b && f Indication.Rollback)
    first b = grind arith

pub rolls_untold : (f : Indication → Bool) (asked : Bool) (t : Transaction) → f Indication.Rollback ≡ false → asks_tell f (begin_rolling asked t).outs ≡ false
rolls_untold f asked t h = rolls_tell f asked t ∙ rw h (and-false (not asked))

-- at the end of a commitment
pub completion_tells : (f : Indication → Bool) (t : Transaction) (r : Report) → asks_tell f (forgets (aaid_of t.key) t.rows ++ done_up t r ++ (TxOut.Tell (Indication.CommitComplete r) ∷ []) ++ ends_down t.rows ++ end_up t) ≡ f (Indication.CommitComplete r)
completion_tells f t r =
    let v = (still_forgets (aaid_of t.key) t.rows).1 f in
    let w = (still_done t r).1 f in
    let x = (still_ends t.rows).1 f in
    let y = (still_end_up t).1 f in
    grind (arith, tell_append, v, w, x, y)

-- and at that of a rollback
pub unrolling_tells : (f : Indication → Bool) (t : Transaction) (r : Report) → asks_tell f (carry_up t (DialogueRecord.RolledBack r) ++ (TxOut.Tell (Indication.RollbackComplete r) ∷ [])) ≡ f (Indication.RollbackComplete r)
unrolling_tells f t r = let v = (still_up t (DialogueRecord.RolledBack r) refl).1 f in grind (arith, tell_append, v)

pub leave_tells : (f : Indication → Bool) (t : Transaction) → asks_tell f (leave t).outs ≡ false
unfolding leave
leave_tells f t = grind (arith, tell_append)

pub retried_tells : (f : Indication → Bool) (t : Transaction) → f Indication.Commit ≡ false → asks_tell f (retried t) ≡ false
retried_tells f t h = go t.phase
  where
    owed : (b : Bool) → asks_tell f (if b then TxOut.Tell Indication.Commit ∷ [] else []) ≡ false
    owed true = rw h refl
    owed false = refl

    go : (p : Phase) → asks_tell f (retried (record t { phase = p })) ≡ false
    go Phase.Ready = grind arith
    go Phase.Committing = let ask = (still_ask (aaid_of t.key) t.rows).1 f in grind (arith, tell_append, owed t.owes, ask)
    go _ = refl
