-- The logs of a world tell its nodes: when a site or a node comes, when a node has one entry more, and when a site starts again.
use Rattle.tp_site_logs.proofs.Vocabulary.{◌≡◌, ◌≤◌, ◌==◌, ◌++◌, ℕ, zero, suc, Bool, true, false, cond, refl, ap, sym, ◌∙◌, subst, arith, Option, Some, None, List, [], ◌∷◌, reverse, if◌then◌else◌, nat_tests, append-nil, reverse-append, Addr, is_name, name_same, name_self, LogRec, LogVersion, boots, all_below, follows, boots-append, Origin, Event, Entry, refusal, verdict, after_crash, started, digest, records, with_rec, IsGrown, Node, Site, number_of, site_of, find_node, find_site, IsOwnRec, log_of, forced_by, one_to}
use Rattle.tp_model.specs.Disk.{Disk, forced}
use Rattle.tp_model.specs.Questions.{boot_by, boot_in, is_crash}
use Rattle.tp_model.specs.Happenings.{new_site, new_node, bare_node, booted}
use Rattle.tp_histories.proofs.worlds.Turns.{restarts, halts, anew}
use Rattle.tp_histories.proofs.known.KnownPlain.{plain_law}
use Rattle.tp_site_logs.proofs.Logged.{IsLog, below_more, log_more, log_kept, log_booted, votes_append}
use Rattle.tp_site_logs.specs.SiteLogs.{only_branches_vote}
use Rattle.tp_site_logs.proofs.Votes.{IsVote, vote_entry}
use Rattle.tp_site_logs.proofs.NextRecord.{IsNext, next_record, sound_empty}
use Rattle.tp_site_logs.proofs.Places.{after_start}

-- ---- boots

above_all : (b n : ℕ) → b ≤ n → all_below (suc n) (one_to b) ≡ true
above_all zero n le = refl
above_all (suc b) n le = below_more (suc n) (one_to b) (suc b) (above_all b n (omega arith)) (grind (arith, nat_tests, le))

boots_own : (n : ℕ) (rs : List LogRec) (r : LogRec) → IsOwnRec n (Some r) → boots (rs ++ r ∷ []) ≡ boots rs
boots_own n rs (LogRec.Boot m) own = absurd own
boots_own n rs r own = boots-append rs (r ∷ []) ∙ append-nil (boots rs)

-- ---- one site

-- a node that grew from an empty log of version 2
pub record IsNode (n : Node) : Type 0 where
  pub grown : IsGrown n.origin n.superior n.history
  pub empty : n.origin.start.records ≡ []
  pub version : n.origin.start.version ≡ LogVersion.Two

pub record IsTold (ns : List Node) (s : List ℕ) (x : Site) : Type 0 where
  pub log : IsLog (λ k. forced_by s (find_node ns k)) x.boot (log_of x)
  pub starts : boots (log_of x) ≡ one_to x.boot
  pub votes : only_branches_vote (log_of x) ≡ true
  pub last : (k : ℕ) (n : Node) → find_node ns k ≡ Some n → is_name (site_of n) s ≡ true → (digest n.origin n.history).boot ≡ x.boot

-- of another site's nodes nothing has changed there
told_other : (ns now : List Node) (s : List ℕ) (x : Site) → ((k : ℕ) → forced_by s (find_node now k) ≡ forced_by s (find_node ns k))
    → ((k : ℕ) (n : Node) → find_node now k ≡ Some n → is_name (site_of n) s ≡ true → find_node ns k ≡ Some n) → IsTold ns s x → IsTold now s x
told_other ns now s x same old told = record {
  log = log_kept (λ k. forced_by s (find_node ns k)) (λ k. forced_by s (find_node now k)) x.boot (log_of x) told.log same;
  starts = told.starts;
  votes = told.votes;
  last = λ k n at here. told.last k n (old k n at here) here;
}

-- ---- the sites of a world

-- and no site has started more often than that
pub record Tells (most : ℕ) (ns : List Node) (ss : List Site) : Type 0 where
  pub sound : (k : ℕ) (n : Node) → find_node ns k ≡ Some n → IsNode n
  -- each node's site is there
  pub placed : (k : ℕ) (n : Node) → find_node ns k ≡ Some n → (x : Site) × (find_site ss (site_of n) ≡ Some x)
  pub sites : (s : List ℕ) (x : Site) → find_site ss s ≡ Some x → IsTold ns s x
  pub boots : (s : List ℕ) (x : Site) → find_site ss s ≡ Some x → x.boot ≤ most

-- where one site is another, each has started at most so often
boots_put : (m n : ℕ) (s : List ℕ) (z : Site) (ss new : List Site) → ((t : List ℕ) → find_site new t ≡ cond (is_name s t) (Some z) (find_site ss t)) → z.boot ≤ n → m ≤ n
    → ((t : List ℕ) (x : Site) → find_site ss t ≡ Some x → x.boot ≤ m) → (t : List ℕ) (x : Site) → find_site new t ≡ Some x → x.boot ≤ n
boots_put m n s z ss new looks most le before t x at = go (is_name s t) refl
  where
    go : (b : Bool) → is_name s t ≡ b → x.boot ≤ n
    go true b = let one : z ≡ x = grind (arith, looks t) in subst (λ (u : Site). u.boot ≤ n) one most
    go false b = let old : x.boot ≤ m = before t x (grind (arith, looks t)) in omega arith

itself : (n : ℕ) → n ≤ n
itself n = omega arith

-- a node is another from now on, and so is its site
pub record IsPut (ns now : List Node) (ss new : List Site) (y : Node) (z : Site) : Type 0 where
  pub nodes : (k : ℕ) → find_node now k ≡ cond (number_of y == k) (Some y) (find_node ns k)
  pub sites : (t : List ℕ) → find_site new t ≡ cond (is_name (site_of y) t) (Some z) (find_site ss t)
  -- it did not stand at another site before
  pub apart : (t : List ℕ) → is_name (site_of y) t ≡ false → forced_by t (find_node ns (number_of y)) ≡ []

pub forced_there : (t : List ℕ) (n : Node) → is_name (site_of n) t ≡ false → forced_by t (Some n) ≡ []
forced_there t n off = rw (off, forced_by) refl

pub tells_put : (m : ℕ) (ns now : List Node) (ss new : List Site) (y : Node) (z : Site) → IsPut ns now ss new y z → IsNode y → IsTold now (site_of y) z → z.boot ≤ m → Tells m ns ss → Tells m now new
tells_put m ns now ss new y z put node told most w = record {
  sound = λ k n at. sound k n (number_of y == k) refl at;
  placed = λ k n at. placed k n (number_of y == k) refl at;
  sites = λ t x at. site t x (is_name (site_of y) t) refl at;
  boots = boots_put m m (site_of y) z ss new put.sites most (itself m) w.boots;
}
  where
    mine : (k : ℕ) (n : Node) → (number_of y == k) ≡ true → find_node now k ≡ Some n → y ≡ n
    mine k n b at = grind (arith, put.nodes k)

    other : (k : ℕ) (n : Node) → (number_of y == k) ≡ false → find_node now k ≡ Some n → find_node ns k ≡ Some n
    other k n b at = grind (arith, put.nodes k)

    sound : (k : ℕ) (n : Node) (b : Bool) → (number_of y == k) ≡ b → find_node now k ≡ Some n → IsNode n
    sound k n true b at = subst IsNode (mine k n b at) node
    sound k n false b at = w.sound k n (other k n b at)

    there : (t : List ℕ) (b : Bool) → is_name (site_of y) t ≡ b → (x : Site) → find_site ss t ≡ Some x → (u : Site) × (find_site new t ≡ Some u)
    there t true b x at = (z, grind (arith, put.sites t))
    there t false b x at = (x, grind (arith, put.sites t))

    placed : (k : ℕ) (n : Node) (b : Bool) → (number_of y == k) ≡ b → find_node now k ≡ Some n → (x : Site) × (find_site new (site_of n) ≡ Some x)
    placed k n true b at = subst (λ (u : Node). (x : Site) × (find_site new (site_of u) ≡ Some x)) (mine k n b at) (z, put.sites (site_of y) ∙ ap (λ (c : Bool). cond c (Some z) (find_site ss (site_of y))) (name_self (site_of y)))
    placed k n false b at = let x = w.placed k n (other k n b at) in there (site_of n) (is_name (site_of y) (site_of n)) refl x.0 x.1

    same : (t : List ℕ) → is_name (site_of y) t ≡ false → (k : ℕ) (b : Bool) → (number_of y == k) ≡ b → forced_by t (find_node now k) ≡ forced_by t (find_node ns k)
    same t off k true b =
        let m : number_of y ≡ k = grind (arith, nat_tests, b) in
        ap (forced_by t) (put.nodes k ∙ ap (λ (c : Bool). cond c (Some y) (find_node ns k)) b) ∙ forced_there t y off ∙ sym (put.apart t off) ∙ ap (λ (i : ℕ). forced_by t (find_node ns i)) m
    same t off k false b = ap (forced_by t) (put.nodes k ∙ ap (λ (c : Bool). cond c (Some y) (find_node ns k)) b)

    old : (t : List ℕ) → is_name (site_of y) t ≡ false → (k : ℕ) (n : Node) (b : Bool) → (number_of y == k) ≡ b → find_node now k ≡ Some n → is_name (site_of n) t ≡ true → find_node ns k ≡ Some n
    old t off k n true b at here = absurd (let on : is_name (site_of y) t ≡ true = ap (λ (u : Node). is_name (site_of u) t) (mine k n b at) ∙ here in cc (on, off))
    old t off k n false b at here = other k n b at

    site : (t : List ℕ) (x : Site) (b : Bool) → is_name (site_of y) t ≡ b → find_site new t ≡ Some x → IsTold now t x
    site t x true b at =
        let one : z ≡ x = grind (arith, put.sites t) in
        subst (λ (u : List ℕ). IsTold now u x) (name_same (site_of y) t b) (subst (IsTold now (site_of y)) one told)
    site t x false b at = told_other ns now t x (λ k. same t b k (number_of y == k) refl) (λ k n i. old t b k n (number_of y == k) refl i) (w.sites t x (grind (arith, put.sites t)))

-- ---- a node has one entry more

abbrev pub site_after : Site → Option LogRec → Site
site_after x None = x
site_after x (Some r) = record x { disk = forced r x.disk }

boot_calm : (e : Event) (n : ℕ) → is_crash e ≡ false → boot_by e n ≡ n
boot_calm Event.Crash n h = absurd cc
boot_calm _ n h = refl

pub same_boot : (o : Origin) (up : Option Addr) (h : List Entry) (e : Entry) → IsGrown o up (e ∷ h) → is_crash e.event ≡ false → (digest o (e ∷ h)).boot ≡ (digest o h).boot
same_boot o up h e grown calm = (plain_law o up (e ∷ h) grown).boot ∙ boot_calm e.event (boot_in o h) calm ∙ sym (plain_law o up h grown.3).boot

forced_here : (n : Node) → forced_by (site_of n) (Some n) ≡ reverse (records n.origin n.history)
forced_here n = rw (name_self (site_of n), forced_by) refl

pub told_entry : (ns now : List Node) (x : Site) (n : Node) (e : Entry) → find_node ns (number_of n) ≡ Some n → IsNode (record n { history = e ∷ n.history }) → is_crash e.event ≡ false
    → ((k : ℕ) → find_node now k ≡ cond (number_of n == k) (Some (record n { history = e ∷ n.history })) (find_node ns k)) → IsTold ns (site_of n) x → IsTold now (site_of n) (site_after x e.rec)
told_entry ns now x n e found node calm looks told = go e.rec refl
  where
    s : List ℕ
    s = site_of n

    y : Node
    y = record n { history = e ∷ n.history }

    has : ℕ → List LogRec
    has k = forced_by s (find_node ns k)

    boot : (digest y.origin y.history).boot ≡ x.boot
    boot = same_boot n.origin n.superior n.history e node.grown calm ∙ told.last (number_of n) n found (name_self s)

    last : (k : ℕ) (u : Node) (b : Bool) → (number_of n == k) ≡ b → find_node now k ≡ Some u → is_name (site_of u) s ≡ true → (digest u.origin u.history).boot ≡ x.boot
    last k u true b at here = let same : y ≡ u = grind (arith, looks k) in ap (λ (v : Node). (digest v.origin v.history).boot) (sym same) ∙ boot
    last k u false b at here = told.last k u (grind (arith, looks k)) here

    its : has (number_of n) ≡ reverse (records n.origin n.history)
    its = ap (forced_by s) found ∙ forced_here n

    now_at : (k : ℕ) (b : Bool) → (number_of n == k) ≡ b → forced_by s (find_node now k) ≡ cond b (reverse (with_rec e.rec (records n.origin n.history))) (has k)
    now_at k true b = ap (forced_by s) (looks k ∙ ap (λ (c : Bool). cond c (Some y) (find_node ns k)) b) ∙ forced_here y
    now_at k false b = ap (forced_by s) (looks k ∙ ap (λ (c : Bool). cond c (Some y) (find_node ns k)) b)

    kept : (k : ℕ) (b : Bool) → (number_of n == k) ≡ b → e.rec ≡ None → forced_by s (find_node now k) ≡ has k
    kept k true b none =
        let m : number_of n ≡ k = grind (arith, nat_tests, b) in
        now_at k true b ∙ ap (λ (r : Option LogRec). reverse (with_rec r (records n.origin n.history))) none ∙ sym its ∙ ap has m
    kept k false b none = now_at k false b

    more : (r : LogRec) → e.rec ≡ Some r → (k : ℕ) (b : Bool) → (number_of n == k) ≡ b → forced_by s (find_node now k) ≡ cond (number_of n == k) (has (number_of n) ++ r ∷ []) (has k)
    more r made k true b =
        now_at k true b ∙ ap (λ (q : Option LogRec). reverse (with_rec q (records n.origin n.history))) made ∙ reverse-append (r ∷ []) (records n.origin n.history)
        ∙ ap (λ (l : List LogRec). l ++ r ∷ []) (sym its) ∙ sym (ap (λ (c : Bool). cond c (has (number_of n) ++ r ∷ []) (has k)) b)
    more r made k false b = now_at k false b ∙ sym (ap (λ (c : Bool). cond c (has (number_of n) ++ r ∷ []) (has k)) b)

    go : (o : Option LogRec) → e.rec ≡ o → IsTold now s (site_after x o)
    go None none = record {
      log = log_kept has (λ k. forced_by s (find_node now k)) x.boot (log_of x) told.log (λ k. kept k (number_of n == k) refl none);
      starts = told.starts;
      votes = told.votes;
      last = λ k u at here. last k u (number_of n == k) refl at here;
    }
    go (Some r) made =
        let next : IsNext (number_of n) x.boot (reverse (records n.origin n.history)) r =
        next_record n.origin n.superior n.history e r x.boot (sound_empty n.origin node.empty) node.grown made (itself (digest y.origin y.history).boot x.boot boot) in
        let list : log_of (site_after x (Some r)) ≡ log_of x ++ r ∷ [] = reverse-append (r ∷ []) x.disk.records in
        let fits : follows (LogRec.Boot x.boot ∷ has (number_of n)) r ≡ true = ap (λ (l : List LogRec). follows (LogRec.Boot x.boot ∷ l) r) its ∙ next.fits in
        record {
          log = subst (IsLog (λ k. forced_by s (find_node now k)) x.boot) (sym list)
              (log_more has (λ k. forced_by s (find_node now k)) x.boot (number_of n) (log_of x) r told.log next.own fits (λ k. more r made k (number_of n == k) refl));
          votes = ap only_branches_vote list ∙ votes_append (log_of x) r told.votes (subst IsVote made (vote_entry n.origin n.superior n.history e node.grown));
          starts = ap boots list ∙ boots_own (number_of n) (log_of x) r next.own ∙ told.starts;
          last = λ k u at here. last k u (number_of n == k) refl at here;
        }
      where
        itself : (a b : ℕ) → a ≡ b → a ≤ b
        itself a b h = omega (arith, h)

-- ---- a site comes

pub told_new_site : (ns : List Node) (s : List ℕ) → ((k : ℕ) (n : Node) → find_node ns k ≡ Some n → is_name (site_of n) s ≡ true → ⊥) → IsTold ns s (new_site s)
told_new_site ns s nobody = record {
  log = record { nodes = λ k. nothing k (find_node ns k) refl; last = refl; begun = refl; order = refl };
  starts = refl;
  votes = refl;
  last = λ k n at here. absurd (nobody k n at here);
}
  where
    off : (k : ℕ) (n : Node) (b : Bool) → find_node ns k ≡ Some n → is_name (site_of n) s ≡ b → [] ≡ forced_by s (Some n)
    off k n true at here = absurd (nobody k n at here)
    off k n false at here = sym (forced_there s n here)

    nothing : (k : ℕ) (o : Option Node) → find_node ns k ≡ o → [] ≡ forced_by s (find_node ns k)
    nothing k None at = sym (ap (forced_by s) at)
    nothing k (Some n) at = off k n (is_name (site_of n) s) at refl ∙ sym (ap (forced_by s) at)

-- ---- a node comes

pub node_new : (s : List ℕ) (n boot : ℕ) (up : Option Addr) → IsNode (new_node s n boot up)
unfolding refusal verdict started
node_new s n boot up = record { grown = (refl, refl, refl, tt); empty = refl; version = refl }

pub node_bare : (s : List ℕ) (n boot : ℕ) (up : Option Addr) → IsNode (bare_node s n boot up)
node_bare s n boot up = record { grown = tt; empty = refl; version = refl }

-- it has forced nothing, and is in the boot that its site is in
pub record IsFresh (s : List ℕ) (b : ℕ) (y : Node) : Type 0 where
  pub node : IsNode y
  pub at : site_of y ≡ s
  pub bare : records y.origin y.history ≡ []
  pub boot : (digest y.origin y.history).boot ≡ b

pub new_fresh : (s : List ℕ) (n boot : ℕ) (up : Option Addr) → IsFresh s boot (new_node s n boot up)
unfolding refusal verdict started
new_fresh s n boot up = record { node = node_new s n boot up; at = refl; bare = refl; boot = refl }

pub bare_fresh : (s : List ℕ) (n boot : ℕ) (up : Option Addr) → IsFresh s boot (bare_node s n boot up)
unfolding started
bare_fresh s n boot up = record { node = node_bare s n boot up; at = refl; bare = refl; boot = refl }

pub told_new_node : (ns now : List Node) (s : List ℕ) (y : Node) (x : Site) → IsFresh s x.boot y → find_node ns (number_of y) ≡ None → ((k : ℕ) → find_node now k ≡ cond (number_of y == k) (Some y) (find_node ns k)) → IsTold ns s x → IsTold now s x
told_new_node ns now s y x fresh none looks told = record {
  log = log_kept (λ k. forced_by s (find_node ns k)) (λ k. forced_by s (find_node now k)) x.boot (log_of x) told.log (λ k. same k (number_of y == k) refl);
  starts = told.starts;
  votes = told.votes;
  last = λ k u at here. last k u (number_of y == k) refl at here;
}
  where
    nothing : forced_by s (Some y) ≡ []
    nothing = ap (λ (t : List ℕ). forced_by t (Some y)) (sym fresh.at) ∙ forced_here y ∙ ap reverse fresh.bare

    same : (k : ℕ) (b : Bool) → (number_of y == k) ≡ b → forced_by s (find_node now k) ≡ forced_by s (find_node ns k)
    same k true b =
        let m : number_of y ≡ k = grind (arith, nat_tests, b) in
        ap (forced_by s) (looks k ∙ ap (λ (c : Bool). cond c (Some y) (find_node ns k)) b) ∙ nothing ∙ sym (ap (forced_by s) (ap (find_node ns) (sym m) ∙ none))
    same k false b = ap (forced_by s) (looks k ∙ ap (λ (c : Bool). cond c (Some y) (find_node ns k)) b)

    last : (k : ℕ) (u : Node) (b : Bool) → (number_of y == k) ≡ b → find_node now k ≡ Some u → is_name (site_of u) s ≡ true → (digest u.origin u.history).boot ≡ x.boot
    last k u true b at here = let is : y ≡ u = grind (arith, looks k) in ap (λ (v : Node). (digest v.origin v.history).boot) (sym is) ∙ fresh.boot
    last k u false b at here = told.last k u (grind (arith, looks k)) here

-- ---- a site starts again

-- what its start makes of each node: it has forced what it had forced, and is in the next boot
pub record Begins (h : Node → List Entry) : Type 0 where
  pub node : (n : Node) → IsNode n → IsNode (anew h n)
  pub forced : (n : Node) → records n.origin (h n) ≡ records n.origin n.history
  pub next : (n : Node) → (digest n.origin (h n)).boot ≡ suc (digest n.origin n.history).boot

pub restarts_begin : Begins restarts
unfolding refusal verdict after_crash
restarts_begin = record { node = λ n node. record { grown = (refl, refl, refl, (refl, refl, tt, node.grown)); empty = node.empty; version = node.version }; forced = λ n. refl; next = λ n. refl }

pub halts_begin : Begins halts
unfolding refusal verdict after_crash
halts_begin = record { node = λ n node. record { grown = (refl, refl, tt, node.grown); empty = node.empty; version = node.version }; forced = λ n. refl; next = λ n. refl }

forced_again : (h : Node → List Entry) → Begins h → (s t : List ℕ) (o : Option Node) → forced_by t (after_start h s o) ≡ forced_by t o
forced_again h begins s t None = refl
forced_again h begins s t (Some n) = go (is_name (site_of n) s) (is_name (site_of n) t) refl
  where
    go : (b c : Bool) → is_name (site_of n) t ≡ c → forced_by t (Some (if b then anew h n else n)) ≡ forced_by t (Some n)
    go true true here = rw (here, forced_by) (ap reverse (begins.forced n))
    go true false here = rw (here, forced_by) refl
    go false c here = refl

-- a node behind the start came from one before it
came : (h : Node → List Entry) (s : List ℕ) (o : Option Node) (u : Node) → after_start h s o ≡ Some u → (n : Node) × (o ≡ Some n) × ((if is_name (site_of n) s then anew h n else n) ≡ u)
came h s None u i = absurd (cc (i))
came h s (Some n) u i = (n, refl, cc (i))

told_booted : (h : Node → List Entry) → Begins h → (ns now : List Node) (s t : List ℕ) (x : Site) → ((k : ℕ) → find_node now k ≡ after_start h s (find_node ns k)) → is_name s t ≡ true → IsTold ns t x → IsTold now t (booted x)
told_booted h begins ns now s t x looks here told = record {
  log = subst (IsLog (λ k. forced_by t (find_node now k)) (suc x.boot)) (sym list)
      (log_booted (λ k. forced_by t (find_node ns k)) (λ k. forced_by t (find_node now k)) (suc x.boot) (log_of x) (ap (all_below (suc x.boot)) told.starts ∙ above_all x.boot x.boot (omega arith)) told.log.order told.log.nodes
      (λ k. ap (forced_by t) (looks k) ∙ forced_again h begins s t (find_node ns k)));
  votes = ap only_branches_vote list ∙ votes_append (log_of x) (LogRec.Boot (suc x.boot)) told.votes refl;
  starts = ap boots list ∙ boots-append (log_of x) (LogRec.Boot (suc x.boot) ∷ []) ∙ ap (λ (l : List ℕ). l ++ suc x.boot ∷ []) told.starts;
  last = λ k u at on. let n = came h s (find_node ns k) u (sym (looks k) ∙ at) in again k n.0 u (is_name (site_of n.0) s) refl n.1 n.2 on;
}
  where
    list : log_of (booted x) ≡ log_of x ++ LogRec.Boot (suc x.boot) ∷ []
    list = reverse-append (LogRec.Boot (suc x.boot) ∷ []) x.disk.records

    again : (k : ℕ) (n u : Node) (b : Bool) → is_name (site_of n) s ≡ b → find_node ns k ≡ Some n → (if b then anew h n else n) ≡ u → is_name (site_of u) t ≡ true → (digest u.origin u.history).boot ≡ suc x.boot
    again k n u true e found is on =
        let stands : is_name (site_of n) t ≡ true = ap (λ (v : Node). is_name (site_of v) t) is ∙ on in
        ap (λ (v : Node). (digest v.origin v.history).boot) (sym is) ∙ begins.next n ∙ ap suc (told.last k n found stands)
    again k n u false e found is on = absurd
        (let stands : is_name (site_of n) t ≡ true = ap (λ (v : Node). is_name (site_of v) t) is ∙ on in
        let yes : is_name (site_of n) s ≡ true = ap (is_name (site_of n)) (name_same s t here) ∙ stands in
        cc (yes, e))

-- the site of that name is another from now on, and each of its nodes
pub record IsAgain (h : Node → List Entry) (s : List ℕ) (ns now : List Node) (ss new : List Site) (x : Site) : Type 0 where
  pub found : find_site ss s ≡ Some x
  pub nodes : (k : ℕ) → find_node now k ≡ after_start h s (find_node ns k)
  pub sites : (t : List ℕ) → find_site new t ≡ cond (is_name s t) (Some (booted x)) (find_site ss t)

pub tells_again : (h : Node → List Entry) → Begins h → (m : ℕ) (s : List ℕ) (ns now : List Node) (ss new : List Site) (x : Site) → IsAgain h s ns now ss new x → Tells m ns ss → Tells (suc m) now new
tells_again h begins m s ns now ss new x w told = record {
  sound = λ k u at. let n = before k u at in subst IsNode n.2 (after_sound n.0 (is_name (site_of n.0) s) (told.sound k n.0 n.1));
  placed = λ k u at. let n = before k u at in placed n.0 u (is_name (site_of n.0) s) n.2 (told.placed k n.0 n.1);
  sites = λ t y at. site t y (is_name s t) refl at;
  boots = boots_put m (suc m) s (booted x) ss new w.sites (next x.boot (told.boots s x w.found)) (omega arith) told.boots;
}
  where
    next : (b : ℕ) → b ≤ m → suc b ≤ suc m
    next b le = omega (arith, le)

    before : (k : ℕ) (u : Node) → find_node now k ≡ Some u → (n : Node) × (find_node ns k ≡ Some n) × ((if is_name (site_of n) s then anew h n else n) ≡ u)
    before k u at = came h s (find_node ns k) u (sym (w.nodes k) ∙ at)

    after_sound : (n : Node) (b : Bool) → IsNode n → IsNode (if b then anew h n else n)
    after_sound n true node = begins.node n node
    after_sound n false node = node

    there : (t : List ℕ) (b : Bool) → is_name s t ≡ b → (y : Site) → find_site ss t ≡ Some y → (z : Site) × (find_site new t ≡ Some z)
    there t true b y at = (booted x, grind (arith, w.sites t))
    there t false b y at = (y, grind (arith, w.sites t))

    after_site : (n u : Node) (b : Bool) → (if b then anew h n else n) ≡ u → site_of n ≡ site_of u
    after_site n u true is = ap site_of is
    after_site n u false is = ap site_of is

    placed : (n u : Node) (b : Bool) → (if b then anew h n else n) ≡ u → (y : Site) × (find_site ss (site_of n) ≡ Some y) → (z : Site) × (find_site new (site_of u) ≡ Some z)
    placed n u b is y = there (site_of u) (is_name s (site_of u)) refl y.0 (ap (find_site ss) (sym (after_site n u b is)) ∙ y.1)

    again : (t : List ℕ) (k : ℕ) (n u : Node) (b : Bool) → is_name s t ≡ false → is_name (site_of n) s ≡ b → find_node ns k ≡ Some n → (if b then anew h n else n) ≡ u → is_name (site_of u) t ≡ true → find_node ns k ≡ Some u
    again t k n u false off e found is on = found ∙ ap (λ (v : Node). Some v) is
    again t k n u true off e found is on = absurd
        (let stands : is_name (site_of n) t ≡ true = ap (λ (v : Node). is_name (site_of v) t) is ∙ on in
        let yes : is_name s t ≡ true = ap (λ (l : List ℕ). is_name l t) (sym (name_same (site_of n) s e)) ∙ stands in
        cc (yes, off))

    old : (t : List ℕ) (k : ℕ) (u : Node) → is_name s t ≡ false → find_node now k ≡ Some u → is_name (site_of u) t ≡ true → find_node ns k ≡ Some u
    old t k u off at on = let n = before k u at in again t k n.0 u (is_name (site_of n.0) s) off refl n.1 n.2 on

    site : (t : List ℕ) (y : Site) (b : Bool) → is_name s t ≡ b → find_site new t ≡ Some y → IsTold now t y
    site t y true b at =
        let one : booted x ≡ y = grind (arith, w.sites t) in
        let found : find_site ss t ≡ Some x = ap (find_site ss) (sym (name_same s t b)) ∙ w.found in
        subst (IsTold now t) one (told_booted h begins ns now s t x w.nodes b (told.sites t x found))
    site t y false b at =
        told_other ns now t y (λ k. ap (forced_by t) (w.nodes k) ∙ forced_again h begins s t (find_node ns k)) (λ k u is on. old t k u b is on) (told.sites t y (grind (arith, w.sites t)))

-- ---- a site is another, with what it has logged

pub tells_site : (m : ℕ) (ns : List Node) (ss new : List Site) (s : List ℕ) (z : Site) → ((t : List ℕ) → find_site new t ≡ cond (is_name s t) (Some z) (find_site ss t)) → IsTold ns s z → z.boot ≤ m → Tells m ns ss → Tells m ns new
tells_site m ns ss new s z looks told most w = record {
  sound = w.sound;
  placed = λ k n at. let x = w.placed k n at in there (site_of n) (is_name s (site_of n)) refl x.0 x.1;
  sites = λ t y at. site t y (is_name s t) refl at;
  boots = boots_put m m s z ss new looks most (itself m) w.boots;
}
  where
    there : (t : List ℕ) (b : Bool) → is_name s t ≡ b → (x : Site) → find_site ss t ≡ Some x → (u : Site) × (find_site new t ≡ Some u)
    there t true b x at = (z, grind (arith, looks t))
    there t false b x at = (x, grind (arith, looks t))

    site : (t : List ℕ) (y : Site) (b : Bool) → is_name s t ≡ b → find_site new t ≡ Some y → IsTold ns t y
    site t y true b at =
        let one : z ≡ y = grind (arith, looks t) in
        subst (λ (u : List ℕ). IsTold ns u y) (name_same s t b) (subst (IsTold ns s) one told)
    site t y false b at = w.sites t y (grind (arith, looks t))

pub tells_later : (m : ℕ) (ns : List Node) (ss : List Site) → Tells m ns ss → Tells (suc m) ns ss
tells_later m ns ss w = record { sound = w.sound; placed = w.placed; sites = w.sites; boots = λ s x at. later x.boot (w.boots s x at) }
  where
    later : (b : ℕ) → b ≤ m → b ≤ suc m
    later b le = omega (arith, le)

-- only the records of its disk matter
pub told_as : (ns : List Node) (s : List ℕ) (x : Site) (d : Disk) → d.records ≡ x.disk.records → IsTold ns s x → IsTold ns s (record x { disk = d })
told_as ns s x d same told = record {
  log = subst (IsLog (λ k. forced_by s (find_node ns k)) x.boot) (ap reverse (sym same)) told.log;
  starts = ap (λ (l : List LogRec). boots (reverse l)) same ∙ told.starts;
  votes = ap (λ (l : List LogRec). only_branches_vote (reverse l)) same ∙ told.votes;
  last = told.last;
}
