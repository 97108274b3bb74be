-- Sites and nodes of a world by their names and numbers: after a site comes or is another, and after a site has started again.
use Rattle.tp_site_logs.proofs.Vocabulary.{◌≡◌, ◌==◌, ◌++◌, ℕ, Bool, true, false, cond, refl, ap, sym, ◌∙◌, arith, Option, Some, None, List, [], ◌∷◌, if◌then◌else◌, is_name, name_same, name_self, Entry, Node, Site, number_of, site_of, find_node, find_site, put_site}
use Rattle.tp_model.specs.World.{with_disk}
use Rattle.tp_model.specs.Disk.{Disk}
use Rattle.tp_histories.proofs.worlds.Turns.{anew, anew_at}

-- ---- sites

pub name_swap : (s t : List ℕ) → is_name s t ≡ is_name t s
name_swap s t = go (is_name s t) (is_name t s) refl refl
  where
    go : (b c : Bool) → is_name s t ≡ b → is_name t s ≡ c → b ≡ c
    go true true i j = refl
    go false false i j = refl
    go true false i j = absurd (let yes : is_name t s ≡ true = ap (is_name t) (name_same s t i) ∙ name_self t in cc (yes, j))
    go false true i j = absurd (let yes : is_name s t ≡ true = ap (is_name s) (name_same t s j) ∙ name_self s in cc (yes, i))

pub find_name : (ss : List Site) (s : List ℕ) (x : Site) → find_site ss s ≡ Some x → x.name ≡ s
find_name [] s x h = absurd cc
find_name (y ∷ ss) s x h = go (is_name y.name s) refl (find_name ss s x)
  where
    go : (b : Bool) → is_name y.name s ≡ b → (find_site ss s ≡ Some x → x.name ≡ s) → x.name ≡ s
    go true e rest = let same : y ≡ x = grind (arith, e, h) in ap (λ (z : Site). z.name) (sym same) ∙ name_same y.name s e
    go false e rest = rest (grind (arith, e, h))

pub site_appended : (ss : List Site) (y : Site) (t : List ℕ) → find_site ss y.name ≡ None → find_site (ss ++ y ∷ []) t ≡ cond (is_name y.name t) (Some y) (find_site ss t)
site_appended [] y t none = grind arith
site_appended (x ∷ ss) y t none = go (is_name x.name t) (is_name x.name y.name) refl refl (site_appended ss y t)
  where
    go : (b c : Bool) → is_name x.name t ≡ b → is_name x.name y.name ≡ c → (find_site ss y.name ≡ None → find_site (ss ++ y ∷ []) t ≡ cond (is_name y.name t) (Some y) (find_site ss t))
        → find_site ((x ∷ ss) ++ y ∷ []) t ≡ cond (is_name y.name t) (Some y) (find_site (x ∷ ss) t)
    go b true i j rest = absurd (grind (arith, j, none))
    go false false i j rest = let tail = rest (grind (arith, j, none)) in grind (arith, i, tail)
    go true false i j rest =
        let off : is_name y.name t ≡ false = ap (is_name y.name) (sym (name_same x.name t i)) ∙ name_swap y.name x.name ∙ j in
        grind (arith, i, off)

pub site_put : (ss : List Site) (y x : Site) (t : List ℕ) → find_site ss y.name ≡ Some x → find_site (put_site ss y) t ≡ cond (is_name y.name t) (Some y) (find_site ss t)
site_put [] y x t found = absurd cc
site_put (z ∷ ss) y x t found = go (is_name z.name t) (is_name z.name y.name) refl refl (site_put ss y x t)
  where
    go : (b c : Bool) → is_name z.name t ≡ b → is_name z.name y.name ≡ c → (find_site ss y.name ≡ Some x → find_site (put_site ss y) t ≡ cond (is_name y.name t) (Some y) (find_site ss t))
        → find_site (put_site (z ∷ ss) y) t ≡ cond (is_name y.name t) (Some y) (find_site (z ∷ ss) t)
    go b true i j rest = let same : is_name z.name t ≡ is_name y.name t = ap (λ (n : List ℕ). is_name n t) (name_same z.name y.name j) in grind (arith, i, j, same)
    go false false i j rest = let tail = rest (grind (arith, j, found)) in grind (arith, i, j, tail)
    go true false i j rest =
        let off : is_name y.name t ≡ false = ap (is_name y.name) (sym (name_same z.name t i)) ∙ name_swap y.name z.name ∙ j in
        grind (arith, i, j, off)

-- by the name under which it was found
pub site_put_at : (ss : List Site) (s : List ℕ) (x z : Site) (t : List ℕ) → find_site ss s ≡ Some x → z.name ≡ x.name → find_site (put_site ss z) t ≡ cond (is_name s t) (Some z) (find_site ss t)
site_put_at ss s x z t found same =
    let name : z.name ≡ s = same ∙ find_name ss s x found in
    site_put ss z x t (ap (find_site ss) name ∙ found) ∙ ap (λ (n : List ℕ). cond (is_name n t) (Some z) (find_site ss t)) name

pub site_same : (ss : List Site) (s : List ℕ) (x : Site) (t : List ℕ) → find_site ss s ≡ Some x → find_site ss t ≡ cond (is_name s t) (Some x) (find_site ss t)
site_same ss s x t found = go (is_name s t) refl
  where
    go : (b : Bool) → is_name s t ≡ b → find_site ss t ≡ cond b (Some x) (find_site ss t)
    go true e = ap (find_site ss) (sym (name_same s t e)) ∙ found
    go false e = refl

pub with_disk_is : (ss : List Site) (s : List ℕ) (f : Disk → Disk) (x : Site) → find_site ss s ≡ Some x → with_disk ss s f ≡ put_site ss (record x { disk = f x.disk })
with_disk_is ss s f x found = rw (found, with_disk) refl

-- ---- nodes of a site that starts again

abbrev pub after_start : (Node → List Entry) → List ℕ → Option Node → Option Node
after_start h s None = None
after_start h s (Some n) = Some (if is_name (site_of n) s then anew h n else n)

pub find_anew : (h : Node → List Entry) (s : List ℕ) (ns : List Node) (k : ℕ) → find_node (anew_at h s ns) k ≡ after_start h s (find_node ns k)
find_anew h s [] k = refl
find_anew h s (n ∷ ns) k = go (is_name (site_of n) s) (number_of n == k) refl refl (find_anew h s ns k)
  where
    go : (b c : Bool) → is_name (site_of n) s ≡ b → (number_of n == k) ≡ c → find_node (anew_at h s ns) k ≡ after_start h s (find_node ns k) → find_node (anew_at h s (n ∷ ns)) k ≡ after_start h s (find_node (n ∷ ns) k)
    go true true i j rest = rw (i, anew_at) (rw (j, find_node) (rw (i, after_start) refl))
    go true false i j rest = rw (i, anew_at) (rw (j, find_node) rest)
    go false true i j rest = rw (i, anew_at) (rw (j, find_node) (rw (i, after_start) refl))
    go false false i j rest = rw (i, anew_at) (rw (j, find_node) rest)
