-- What a crash and a declaration make of a node's part in a tree: nothing, but that an active node rolls back.
use Rattle.std.proofs.Common.{◌≡◌, ℕ, Bool, true, false, refl, ap, sym, ◌∙◌, Option, Some, None, List, [], ◌∷◌, ◌&&◌, ◌||◌}
use Rattle.tp_names.specs.declared.identifiers.Aaid.{Aaid}
use Rattle.tp_names.specs.declared.identifiers.Addr.{Addr}
use Rattle.tp_names.specs.declared.outcome.Outcome.{Outcome}
use Rattle.tp_model.specs.Parts.{Origin, Event, Entry, Key, Digest}
use Rattle.tp_model.specs.Dialogues.{is_active, is_committing}
use Rattle.tp_model.specs.declared.arc.Phase.{Phase}
use Rattle.tp_names.specs.Same.{is_aaid}
use Rattle.tp_model.specs.Transactions.{aaid_of}
use Rattle.tp_model.specs.Node.{phase_of}
use Rattle.tp_model.specs.History.{digest, records, answer, entry_of, grown, with_entry, crashed, crash_entry}
use Rattle.tp_model.specs.Outcomes.{is_now, is_member, has_commit_of, last_decision, decided, decision, is_active_at, rolled, has_left, completed_none}
use Rattle.tp_model.specs.World.{Node}
use Rattle.tp_model.specs.Promises.{is_of_tree, has_record}
use Rattle.tp_histories.specs.Fates.{has_ready_in}
use Rattle.tp_tree_commit.specs.TreeCommit.{Ending, Part, IsActive}
use Rattle.tp_refinement.specs.Refinement.{vote_of, ending_of, above_of, part_of, part_in}
use Rattle.tp_steps.proofs.words.Treed.{now_some}
use Rattle.tp_histories.proofs.worlds.Turns.{declare_entry}
use Rattle.tp_histories.proofs.trees.Above.{recovered_key}
use Rattle.tp_histories.proofs.trees.Fated.{fated_law}
use Rattle.tp_histories.proofs.trees.Knowing.{current_none}
use Rattle.tp_runs.proofs.Bare.{bare_law}
use Rattle.tp_runs.proofs.Left.{left_law}
use Rattle.tp_runs.proofs.Hanging.{member_head}
use Rattle.tp_runs.proofs.KnownKeys.{crash_next}
use Rattle.tp_refinement.proofs.Nodes.{Sound, not_true}

-- ---- a part, by what its history tells

abbrev pub made : Option ℕ → Bool → Bool → Bool → Bool → Option Outcome → Bool → Part
made m left ready commits rolls d done = record { superior = m; vote = vote_of left ready; ending = ending_of commits rolls; decision = d; clear = done }

-- the node with another history
abbrev pub with_history : Node → List Entry → Node
with_history x h = record x { history = h }

pub made_same : (m : Option ℕ) (l l2 r r2 c c2 b b2 : Bool) (d d2 : Option Outcome) (k k2 : Bool) → l2 ≡ l → r2 ≡ r → c2 ≡ c → b2 ≡ b → d2 ≡ d → k2 ≡ k → made m l2 r2 c2 b2 d2 k2 ≡ made m l r c b d k
made_same m l l2 r r2 c c2 b b2 d d2 k k2 i1 i2 i3 i4 i5 i6 = rw (i1, i2, i3, i4, i5, i6) refl

member_part : (t : Aaid) (x : Node) (b : Bool) → is_member x.origin t x.history ≡ b → part_in t (Some x) ≡ elim b as (λ _. Option Part) [ true ↦ Some (part_of t x) | false ↦ None ]
member_part t x b i = ap (λ (v : Bool). elim v as (λ _. Option Part) [ true ↦ Some (part_of t x) | false ↦ None ]) i

pub part_there : (t : Aaid) (x : Node) → is_member x.origin t x.history ≡ true → part_in t (Some x) ≡ Some (part_of t x)
part_there t x i = member_part t x true i

pub part_none : (t : Aaid) (x : Node) → is_member x.origin t x.history ≡ false → part_in t (Some x) ≡ None
part_none t x i = member_part t x false i

-- what is there is a node of the tree
pub record Seen (t : Aaid) (o : Option Node) (p : Part) : Type 0 where
  pub node : Node
  pub found : o ≡ Some node
  pub member : is_member node.origin t node.history ≡ true
  pub is : p ≡ part_of t node

pub seen : (t : Aaid) (o : Option Node) (p : Part) → part_in t o ≡ Some p → Seen t o p
seen t None p h = absurd (cc (h))
seen t (Some x) p h = go (is_member x.origin t x.history) refl
  where
    same : (a b : Part) → ◌≡◌ {A = Option Part} (Some a) (Some b) → b ≡ a
    same a b e = cc (e)

    go : (b : Bool) → is_member x.origin t x.history ≡ b → Seen t (Some x) p
    go true i = record { node = x; found = refl; member = i; is = same (part_of t x) p (sym (part_there t x i) ∙ h) }
    go false i = absurd (let off : None ≡ Some p = sym (part_none t x i) ∙ h in cc (off))

-- the same as it was, where each of these is
same_part : (t : Aaid) (x : Node) (g : List Entry) → is_member x.origin t g ≡ is_member x.origin t x.history → has_left x.origin t g ≡ has_left x.origin t x.history → records x.origin g ≡ records x.origin x.history → rolled x.origin t g ≡ rolled x.origin t x.history
    → completed_none x.origin t g ≡ completed_none x.origin t x.history → part_in t (Some (with_history x g)) ≡ part_in t (Some x)
same_part t x g member left recs rolls done = go (is_member x.origin t x.history) refl
  where
    parts : part_of t (with_history x g) ≡ part_of t x
    parts = made_same (above_of t x) (has_left x.origin t x.history) (has_left x.origin t g) (has_ready_in t (records x.origin x.history)) (has_ready_in t (records x.origin g)) (decided x.origin t x.history) (decided x.origin t g) (rolled x.origin t x.history) (rolled x.origin t g) (decision x.origin t x.history) (decision x.origin t g)
        (completed_none x.origin t x.history) (completed_none x.origin t g) left (ap (has_ready_in t) recs) (ap (has_commit_of t) recs) rolls (ap (last_decision t) recs) done

    go : (b : Bool) → is_member x.origin t x.history ≡ b → part_in t (Some (with_history x g)) ≡ part_in t (Some x)
    go true i = part_there t (with_history x g) (member ∙ i) ∙ ap (λ (p : Part). Some p) parts ∙ sym (part_there t x i)
    go false i = part_none t (with_history x g) (member ∙ i) ∙ sym (part_none t x i)

-- ---- a crash

-- what does not count adds nothing
skipped : (b y : Bool) → (b && false || y) ≡ y
skipped true y = refl
skipped false y = refl

skipped_by : (b x y : Bool) → x ≡ false → (b && x || y) ≡ y
skipped_by b x y i = ap (λ (v : Bool). b && v || y) i ∙ skipped b y

-- what holds now held before
or_old : (x y : Bool) → (x ≡ true → y ≡ true) → (x || y) ≡ y
or_old true y f = sym (f refl)
or_old false y f = refl

crash_member : (o : Origin) (t : Aaid) (h : List Entry) → is_member o t (crashed h) ≡ is_member o t h
crash_member o t h = or_old (is_now t (digest o (crashed h)).current) (is_member o t h) back
  where
    back : is_now t (digest o (crashed h)).current ≡ true → is_member o t h ≡ true
    back n =
        let c = now_some t (digest o (crashed h)).current n in
        let x = recovered_key (digest o h).current c.0 (sym (crash_next o crash_entry h refl) ∙ c.1) in
        member_head o t h (ap (is_now t) x.1 ∙ ap (λ (v : Key). is_aaid t (aaid_of v)) (sym x.2) ∙ c.2)

pub data Stops (t : Aaid) (x y : Node) : Type 0 where
  As_before : part_in t (Some y) ≡ part_in t (Some x) → Stops t x y
  Rolls_back : (p : Part) → part_in t (Some x) ≡ Some p → IsActive p → part_in t (Some y) ≡ Some (record p { ending = Ending.Rolled }) → Stops t x y

pub stops : (t : Aaid) (x : Node) → Sound x.origin x.superior x.history → Stops t x (with_history x (crashed x.history))
stops t x k = go (is_now t d.current) refl (is_active_at d) refl (rolled o t h) refl
  where
    o : Origin
    o = x.origin

    h : List Entry
    h = x.history

    d : Digest
    d = digest o h

    y : Node
    y = with_history x (crashed h)

    left : has_left o t (crashed h) ≡ has_left o t h
    left = skipped (is_now t d.current) (has_left o t h)

    done : completed_none o t (crashed h) ≡ completed_none o t h
    done = skipped (is_now t d.current) (completed_none o t h)

    rolls_by : (b : Bool) → is_now t d.current ≡ b → (a : Bool) → is_active_at d ≡ a → rolled o t (crashed h) ≡ (b && a || rolled o t h)
    rolls_by b i a j = ap (λ (v : Bool). v && is_active_at d || rolled o t h) i ∙ ap (λ (v : Bool). b && v || rolled o t h) j

    still : rolled o t (crashed h) ≡ rolled o t h → Stops t x y
    still same = As_before (same_part t x (crashed h) (crash_member o t h) left refl same done)

    rolls : is_now t d.current ≡ true → is_active_at d ≡ true → rolled o t h ≡ false → Stops t x y
    rolls n act whole = Rolls_back (part_of t x) (part_there t x member) active (part_there t y (crash_member o t h ∙ member) ∙ ap (λ (p : Part). Some p) fallen)
      where
        member : is_member o t h ≡ true
        member = member_head o t h n

        bare : has_record (is_of_tree t) (records o h) ≡ false
        bare = not_true (has_record (is_of_tree t) (records o h)) (λ r. cc ((bare_law o x.superior h t k.empty k.legal k.once).active r n, act))

        unready : has_ready_in t (records o h) ≡ false
        unready = not_true (has_ready_in t (records o h)) (λ r. cc ((fated_law o x.superior h t k.empty k.legal k.once).ready_now r n, act))

        uncommitted : decided o t h ≡ false
        uncommitted = not_true (decided o t h) (λ r. both (phase_of d) act ((fated_law o x.superior h t k.empty k.legal k.once).commit_now r n))
          where
            both : (p : Phase) → is_active p ≡ true → is_committing p ≡ true → ⊥
            both Phase.Active i j = cc (j)
            both _ i j = cc (i)

        unleft : has_left o t h ≡ false
        unleft = not_true (has_left o t h) (λ l. (left_law o x.superior h t k.empty k.legal k.once l).gone n)

        active : IsActive (part_of t x)
        active = (rw (unleft, unready) refl, rw (uncommitted, whole) refl)

        fallen : part_of t y ≡ record (part_of t x) { ending = Ending.Rolled }
        fallen = by (has_left o t (crashed h)) left (completed_none o t (crashed h)) done (rolled o t (crashed h)) (rolls_by true n true act) (decided o t h) uncommitted
          where
            by : (l : Bool) → l ≡ has_left o t h → (c : Bool) → c ≡ completed_none o t h → (f : Bool) → f ≡ true → (e : Bool) → e ≡ false
                → ◌≡◌ {A = Part} (made (above_of t x) l (has_ready_in t (records o h)) e f (decision o t h) c) (record (part_of t x) { ending = Ending.Rolled })
            by l li c ci f fi e ei = rw (li, ci, fi, ei) refl

    go : (b : Bool) → is_now t d.current ≡ b → (a : Bool) → is_active_at d ≡ a → (f : Bool) → rolled o t h ≡ f → Stops t x y
    go false i a j f m = still (rolls_by false i a j)
    go true i false j f m = still (rolls_by true i false j)
    go true i true j true m = still (rolls_by true i true j ∙ sym m)
    go true i true j false m = rolls i j m

-- ---- a declaration

pub declares : (t : Aaid) (x : Node) (s : Option Addr) → part_in t (Some (with_history x (grown x.origin x.history (Event.Declare s)))) ≡ part_in t (Some x)
declares t x s = go (answer o h (Event.Declare s)).entry refl
  where
    o : Origin
    o = x.origin

    h : List Entry
    h = x.history

    entry : part_in t (Some (with_history x (entry_of o h (Event.Declare s) ∷ h))) ≡ part_in t (Some x)
    entry = same_part t x (entry_of o h (Event.Declare s) ∷ h) (or_old (is_now t (digest o h).current) (is_member o t h) (λ n. member_head o t h n)) (skipped (is_now t (digest o h).current) (has_left o t h)) refl
        (skipped (is_now t (digest o h).current) (rolled o t h)) (skipped (is_now t (digest o h).current) (completed_none o t h))

    go : (v : Option Entry) → (answer o h (Event.Declare s)).entry ≡ v → part_in t (Some (with_history x (with_entry (answer o h (Event.Declare s)).entry h))) ≡ part_in t (Some x)
    go None i = ap (λ (v : Option Entry). part_in t (Some (with_history x (with_entry v h)))) i
    go (Some y) i = ap (λ (v : Option Entry). part_in t (Some (with_history x (with_entry v h)))) i ∙ ap (λ (y : Entry). part_in t (Some (with_history x (y ∷ h)))) (declare_entry o h s y i) ∙ entry

-- ---- a node that comes

pub comes_bare : (t : Aaid) (x : Node) → x.history ≡ [] → x.origin.start.records ≡ [] → part_in t (Some x) ≡ None
comes_bare t x bare empty = part_none t x (ap (is_member x.origin t) bare ∙ ap (is_now t) (current_none x.origin empty))
