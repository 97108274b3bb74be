-- Sentence 1: where one node committed none rolled back; so of two that are told different outcomes one decided.
use Rattle.std.proofs.Common.{◌≡◌, ◌⊎◌, inl, inr, ℕ, refl, ap, sym, ◌∙◌, Option, Some, None}
use Rattle.std.specs.Prelude.{◌≢◌}
use Rattle.tp_names.specs.declared.outcome.Outcome.{Outcome}
use Rattle.tp_tree_commit.specs.TreeCommit.{Ending, Part, Tree, IsRoot, HasVoted, HasCommitted, HasRolled, Reached, CommitsAlone, OneOutcome}
use Rattle.tp_tree_commit.proofs.Kept.{Kept}
use Rattle.tp_tree_commit.proofs.Runs.{kept}
use Rattle.tp_tree_commit.proofs.Walking.{Downward, from_above, same_superior, the_root}

-- a root, which committed where p did
record Top (s : Tree) (p : Part) : Type 0 where
  node : ℕ
  part : Part
  here : s node ≡ Some part
  root : IsRoot part
  committed : HasCommitted p → HasCommitted part

tops : (s : Tree) → Kept s → Downward s (Top s)
tops s k = record {
  top = λ n p h r. record { node = n; part = p; here = h; root = r; committed = λ e. e };
  down = λ m n q p at h i t. record {
    node = t.node;
    part = t.part;
    here = t.here;
    root = t.root;
    committed = λ e. t.committed (elim (k.commits n p h e) [ inl r ↦ absurd (cc (r, i)) | inr w ↦ same_superior s p m q HasCommitted i at w ]);
  };
}

-- under a root that committed nobody rolled back, and every branch has voted
record Sound (p : Part) : Type 0 where
  sound : HasRolled p → ⊥
  voted : HasVoted p ⊎ HasCommitted p

sounds : (s : Tree) → Kept s → (r : ℕ) (t : Part) → s r ≡ Some t → IsRoot t → HasCommitted t → Downward s Sound
sounds s k r t top root done = record {
  top = λ n p h i. let e : HasCommitted p = ap (λ (x : Part). x.ending) (sym (the_root s k r n t p top h root i)) ∙ done in record { sound = λ f. cc (e, f); voted = inr e };
  down = λ m n q p at h i b. let v : HasVoted p = k.voted m q at b.voted n p h i in record { sound = λ f. fallen m n q p at h i b f v; voted = inl v };
}
  where
    fallen : (m n : ℕ) (q p : Part) → s m ≡ Some q → s n ≡ Some p → p.superior ≡ Some m → Sound q → HasRolled p → HasVoted p → ⊥
    fallen m n q p at h i b f (inl ready) = b.sound (same_superior s p m q HasRolled i at (k.rolls n p h f ready))
    fallen m n q p at h i b f (inr gone) = let e = (k.left n p h gone).0 in cc (e, f)

pub commits_alone : (s : Tree) → Reached s → CommitsAlone s
commits_alone s reached m n p q h i e f =
    let k : Kept s = kept s reached in
    let t : Top s p = from_above s k (Top s) (tops s k) m p h in
    Sound.sound (from_above s k Sound (sounds s k t.node t.part t.here t.root (t.committed e)) n q i) f

-- of two that are told different outcomes one decided
abbrev told_by : Option Outcome → Ending → Option Outcome
told_by d e = elim d [ Some o ↦ Some o | None ↦ elim e [ Ending.Open ↦ None | Ending.Committed ↦ Some Outcome.Commit | Ending.Rolled ↦ Some Outcome.Rollback ] ]

apart_ends : (e f : Ending) (o u : Outcome) → told_by None e ≡ Some o → told_by None f ≡ Some u → o ≢ u → ((e ≡ Ending.Committed) × (f ≡ Ending.Rolled)) ⊎ ((e ≡ Ending.Rolled) × (f ≡ Ending.Committed))
apart_ends Ending.Open f o u i j differ = absurd (cc (i))
apart_ends e Ending.Open o u i j differ = absurd (cc (j))
apart_ends Ending.Committed Ending.Rolled o u i j differ = inl (refl, refl)
apart_ends Ending.Rolled Ending.Committed o u i j differ = inr (refl, refl)
apart_ends Ending.Committed Ending.Committed o u i j differ = absurd (differ (let same : o ≡ u = cc (sym i ∙ j) in same))
apart_ends Ending.Rolled Ending.Rolled o u i j differ = absurd (differ (let same : o ≡ u = cc (sym i ∙ j) in same))

pub one_outcome : (s : Tree) → Reached s → OneOutcome s
one_outcome s reached m n p q o u h i a b differ = go p.decision refl q.decision refl
  where
    go : (d : Option Outcome) → p.decision ≡ d → (e : Option Outcome) → q.decision ≡ e → (p.decision ≢ None) ⊎ (q.decision ≢ None)
    go (Some x) is e ie = inl (λ none. cc (is, none))
    go None is (Some x) ie = inr (λ none. cc (ie, none))
    go None is None ie = absurd (elim (apart_ends p.ending q.ending o u (ap (λ (d : Option Outcome). told_by d p.ending) (sym is) ∙ a) (ap (λ (d : Option Outcome). told_by d q.ending) (sym ie) ∙ b) differ) [
      | inl w ↦ commits_alone s reached m n p q h i w.0 w.1
      | inr w ↦ commits_alone s reached n m q p i h w.1 w.0
    ])
