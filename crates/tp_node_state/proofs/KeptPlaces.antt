-- The list of kept transactions: one put in the place of its key, one taken away, one found, and a change of one that waits.
use Rattle.std.proofs.Common.{◌≡◌, ℕ, zero, suc, Bool, true, false, Option, Some, None, List, [], ◌∷◌, ◌++◌, length, refl, ap, sym, ◌∙◌, arith}
use Rattle.std.specs.Prelude.{Box, slice_get, ◌||◌, if◌then◌else◌}
use Rattle.std.specs.Map.{values_of}
use Rattle.std.specs.Option.{option_to_list}
use Rattle.std.specs.declared.alloc.Global.{Global}
use Rattle.tp_names.specs.declared.outcome.Outcome.{Outcome}
use Rattle.tp_names.specs.declared.identifiers.Aaid.{Aaid}
use Rattle.tp_names.specs.declared.identifiers.BranchId.{BranchId}
use Rattle.tp_names.specs.declared.identifiers.NodeKey.{NodeKey}
use Rattle.tp_names.specs.Same.{is_key}
use Rattle.tp_names.proofs.Sames.{key_same}
use Rattle.tp_model.specs.declared.recovery.Kept.{Kept}
use Rattle.tp_model.specs.declared.recovery.KeptEvent.{KeptEvent}
use Rattle.tp_model.specs.Recovery.{is_commit, noted, find_kept, with_forget, put_kept, without_kept}
use Rattle.tp_node_state.specs.declared.change.Change.{Change}
use Rattle.tp_node_state.specs.Changes.{changed_one, changed_all, newcomer, changed, first_put, first_removed}
use Rattle.tp_node_state.specs.Kept.{with_kept, first_in, listed, AreSingle}

-- ---- one more that is kept

pub put_new : (ks : List Kept) (k : Kept) → find_kept ks k.key ≡ None → with_kept ks k ≡ put_kept ks k
put_new [] k h = refl
put_new (x ∷ ks) k h = grind (arith, h, put_new ks k)

pub put_again : (ks : List Kept) (k o : Kept) → find_kept ks k.key ≡ Some o → with_kept ks (record k { forgot = o.forgot }) ≡ put_kept ks k
put_again [] k o h = absurd (cc)
put_again (x ∷ ks) k o h = grind (arith, h, put_again ks k o)

-- ---- Forget is noted

pub noted_not : (ks : List Kept) (k : NodeKey) (f : Kept → Kept) → find_kept ks k ≡ None → with_forget ks k f ≡ ks
noted_not [] k f h = refl
noted_not (x ∷ ks) k f h = grind (arith, h, noted_not ks k f)

found_key : (ks : List Kept) (k : NodeKey) (o : Kept) → find_kept ks k ≡ Some o → is_key o.key k ≡ true
found_key [] k o h = absurd (cc)
found_key (x ∷ ks) k o h = go (is_key x.key k) refl (found_key ks k o)
  where
    go : (b : Bool) → is_key x.key k ≡ b → (find_kept ks k ≡ Some o → is_key o.key k ≡ true) → is_key o.key k ≡ true
    go true e rest = let found : find_kept (x ∷ ks) k ≡ Some x = grind (arith, e) in let same : Some x ≡ Some o = sym found ∙ h in grind (arith, e, same)
    go false e rest = rest (let same : find_kept (x ∷ ks) k ≡ find_kept ks k = grind (arith, e) in sym same ∙ h)

noted_is : (x : Kept) → noted x KeptEvent.Forget ≡ record x { forgot = is_commit x.side || x.forgot }
noted_is x = go x.side refl
  where
    go : (o : Outcome) → x.side ≡ o → noted x KeptEvent.Forget ≡ record x { forgot = is_commit x.side || x.forgot }
    go Outcome.Commit e = grind (arith, e)
    go Outcome.Rollback e = grind (arith, e)

noted_at : (ks : List Kept) (k : Kept) (o : Kept) (f : Kept → Kept) → find_kept ks k.key ≡ Some o → f o ≡ k → with_kept ks k ≡ with_forget ks k.key f
noted_at [] k o f h e = absurd (cc)
noted_at (x ∷ ks) k o f h is = go (is_key x.key k.key) refl (noted_at ks k o f)
  where
    go : (b : Bool) → is_key x.key k.key ≡ b → (find_kept ks k.key ≡ Some o → f o ≡ k → with_kept ks k ≡ with_forget ks k.key f) → with_kept (x ∷ ks) k ≡ with_forget (x ∷ ks) k.key f
    go true e rest = let found : find_kept (x ∷ ks) k.key ≡ Some x = grind (arith, e) in let same : Some x ≡ Some o = sym found ∙ h in grind (arith, e, same, is)
    go false e rest = let tail : with_kept ks k ≡ with_forget ks k.key f = rest (let same : find_kept (x ∷ ks) k.key ≡ find_kept ks k.key = grind (arith, e) in sym same ∙ h) is in grind (arith, e, tail)

pub noted_there : (ks : List Kept) (k : NodeKey) (o : Kept) → find_kept ks k ≡ Some o → with_kept ks (record o { forgot = is_commit o.side || o.forgot }) ≡ with_forget ks k (λ x. noted x KeptEvent.Forget)
noted_there ks k o h =
    let same : o.key ≡ k = key_same o.key k (found_key ks k o h) in
    let n : Kept = record o { forgot = is_commit o.side || o.forgot } in
    noted_at ks n o (λ x. noted x KeptEvent.Forget) (ap (find_kept ks) same ∙ h) (noted_is o)
    ∙ ap (λ (q : NodeKey). with_forget ks q (λ x. noted x KeptEvent.Forget)) same

-- ---- one change over another of the same key

pub put_put : (ks : List Kept) (k l : Kept) → is_key k.key l.key ≡ true → with_kept ks l ≡ with_kept (with_kept ks k) l
put_put [] k l h = grind (arith, h)
put_put (x ∷ ks) k l h = let same = ap (is_key x.key) (key_same k.key l.key h) in grind (arith, h, same, put_put ks k l h)

pub put_removed : (ks : List Kept) (k : Kept) (q : NodeKey) → is_key k.key q ≡ true → without_kept ks q ≡ without_kept (with_kept ks k) q
put_removed [] k q h = grind (arith, h)
put_removed (x ∷ ks) k q h = let same = ap (is_key x.key) (key_same k.key q h) in grind (arith, h, same, put_removed ks k q h)

-- ---- with a change

append_none : (ks : List Kept) → ks ++ [] ≡ ks
append_none [] = refl
append_none (x ∷ ks) = ap (λ (l : List Kept). x ∷ l) (append_none ks)

pub removed_nowhere : (ks : List Kept) (q : NodeKey) → find_kept ks q ≡ None → without_kept ks q ≡ ks
removed_nowhere [] q h = refl
removed_nowhere (x ∷ ks) q h = grind (arith, h, removed_nowhere ks q)

pub put_same : (ks : List Kept) (k o : Kept) → find_kept ks k.key ≡ Some o → length (with_kept ks k) ≡ length ks
put_same [] k o h = absurd (cc h)
put_same (x ∷ ks) k o h = grind (arith, h, put_same ks k o)

pub put_longer : (ks : List Kept) (k : Kept) → find_kept ks k.key ≡ None → length (with_kept ks k) ≡ suc (length ks)
put_longer [] k h = refl
put_longer (x ∷ ks) k h = grind (arith, h, put_longer ks k)

pub removed_shorter : (ks : List Kept) (q : NodeKey) (o : Kept) → find_kept ks q ≡ Some o → suc (length (without_kept ks q)) ≡ length ks
removed_shorter [] q o h = absurd (cc h)
removed_shorter (x ∷ ks) q o h = grind (arith, h, removed_shorter ks q o)

pub put_first : (ks : List Kept) (k : Kept) → slice_get (with_kept ks k) 0 ≡ first_put (slice_get ks 0) k
put_first [] k = refl
put_first (x ∷ ks) k = grind arith

pub removed_first : (ks : List Kept) (q : NodeKey) → slice_get (without_kept ks q) 0 ≡ first_removed (slice_get ks 0) (slice_get ks 1) q
removed_first [] q = refl
removed_first (x ∷ ks) q = grind arith

first_behind : (xs ys : List Kept) (t : Aaid) (b : Option BranchId) → first_in (xs ++ ys) t b ≡ elim (first_in xs t b) [ None ↦ first_in ys t b | Some k ↦ Some k ]
first_behind [] ys t b = refl
first_behind (x ∷ xs) ys t b = grind (arith, first_behind xs ys t b)

unchanged : (ks : List Kept) → changed_all None ks ≡ ks
unchanged [] = refl
unchanged (x ∷ ks) = ap (λ (l : List Kept). x ∷ l) (unchanged ks)

put_apart : (ks : List Kept) (c : Box Kept Global) → find_kept ks c.value.key ≡ None → changed_all (Some (Change.Put c)) ks ≡ ks
put_apart [] c h = refl
put_apart (x ∷ ks) c h = grind (arith, h, put_apart ks c)

removed_apart : (ks : List Kept) (q : NodeKey) → find_kept ks q ≡ None → changed_all (Some (Change.Remove q)) ks ≡ ks
removed_apart [] q h = refl
removed_apart (x ∷ ks) q h = grind (arith, h, removed_apart ks q)

put_all : (ks : List Kept) (c : Box Kept Global) → AreSingle ks → with_kept ks c.value ≡ changed_all (Some (Change.Put c)) ks ++ option_to_list (newcomer (Some (Change.Put c)) ks)
put_all [] c h = refl
put_all (x ∷ ks) c h = go (is_key x.key c.value.key) refl (put_all ks c h.1)
  where
    go : (b : Bool) → is_key x.key c.value.key ≡ b → with_kept ks c.value ≡ changed_all (Some (Change.Put c)) ks ++ option_to_list (newcomer (Some (Change.Put c)) ks)
        → with_kept (x ∷ ks) c.value ≡ changed_all (Some (Change.Put c)) (x ∷ ks) ++ option_to_list (newcomer (Some (Change.Put c)) (x ∷ ks))
    go true e rest = let apart = put_apart ks c (ap (find_kept ks) (sym (key_same x.key c.value.key e)) ∙ h.0) in let end = append_none ks in grind (arith, e, apart, end)
    go false e rest = grind (arith, e, rest)

removed_all : (ks : List Kept) (q : NodeKey) → AreSingle ks → without_kept ks q ≡ changed_all (Some (Change.Remove q)) ks
removed_all [] q h = refl
removed_all (x ∷ ks) q h = go (is_key x.key q) refl (removed_all ks q h.1)
  where
    go : (b : Bool) → is_key x.key q ≡ b → without_kept ks q ≡ changed_all (Some (Change.Remove q)) ks → without_kept (x ∷ ks) q ≡ changed_all (Some (Change.Remove q)) (x ∷ ks)
    go true e rest = let apart = removed_apart ks q (ap (find_kept ks) (sym (key_same x.key q e)) ∙ h.0) in grind (arith, e, apart)
    go false e rest = grind (arith, e, rest)

-- each with the change, and the one that is new
pub changed_is : (c : Option Change) (ks : List Kept) → AreSingle ks → changed c ks ≡ changed_all c ks ++ option_to_list (newcomer c ks)
changed_is None ks h = sym (append_none (changed_all None ks) ∙ unchanged ks)
changed_is (Some (Change.Put b)) ks h = put_all ks b h
changed_is (Some (Change.Remove q)) ks h = removed_all ks q h ∙ sym (append_none (changed_all (Some (Change.Remove q)) ks))

pub first_changed : (c : Option Change) (ks : List Kept) (t : Aaid) (b : Option BranchId) → AreSingle ks
    → first_in (changed c ks) t b ≡ elim (first_in (changed_all c ks) t b) [ None ↦ first_in (option_to_list (newcomer c ks)) t b | Some k ↦ Some k ]
first_changed c ks t b h = ap (λ l. first_in l t b) (changed_is c ks h) ∙ first_behind (changed_all c ks) (option_to_list (newcomer c ks)) t b

-- ---- copies

abbrev pub shown : List (Box Kept Global) → List Kept
shown [] = []
shown (b ∷ bs) = b.value ∷ shown bs

pub shown_values : (es : List (ℕ × Box Kept Global)) → shown (values_of es) ≡ listed es
shown_values [] = refl
shown_values (e ∷ es) = ap (λ (l : List Kept). e.1.value ∷ l) (shown_values es)

more_behind : (xs : List Kept) (y : Kept) (zs : List Kept) → (xs ++ y ∷ []) ++ zs ≡ xs ++ y ∷ zs
more_behind [] y zs = refl
more_behind (x ∷ xs) y zs = ap (λ (l : List Kept). x ∷ l) (more_behind xs y zs)

pub copied_more : (c : Option Change) (done : List Kept) (b : Box Kept Global) (bs : List (Box Kept Global)) (x : Kept) → changed_one c b.value ≡ Some x
    → (done ++ x ∷ []) ++ changed_all c (shown bs) ≡ done ++ changed_all c (shown (b ∷ bs))
copied_more c done b bs x is = more_behind done x (changed_all c (shown bs)) ∙ ap (λ (o : Option Kept). done ++ (option_to_list o ++ changed_all c (shown bs))) (sym is)

pub copied_none : (c : Option Change) (done : List Kept) (b : Box Kept Global) (bs : List (Box Kept Global)) → changed_one c b.value ≡ None
    → done ++ changed_all c (shown bs) ≡ done ++ changed_all c (shown (b ∷ bs))
copied_none c done b bs is = ap (λ (o : Option Kept). done ++ (option_to_list o ++ changed_all c (shown bs))) (sym is)

pub copied_all : (done ks : List Kept) (c : Option Change) (bs : List (Box Kept Global)) → bs ≡ [] → done ++ changed_all c (shown bs) ≡ ks → done ≡ ks
copied_all done ks c bs none is = sym (append_none done) ∙ ap (λ l. done ++ changed_all c (shown l)) (sym none) ∙ is

pub copies_changed : (c : Option Change) (ks copies more : List Kept) → AreSingle ks → copies ≡ changed_all c ks → more ≡ copies ++ option_to_list (newcomer c ks) → more ≡ changed c ks
copies_changed c ks copies more h all new = new ∙ ap (λ (l : List Kept). l ++ option_to_list (newcomer c ks)) all ∙ sym (changed_is c ks h)
