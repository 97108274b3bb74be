-- What is kept true of what is known of a node, so that each record that it forces is shaped as a text asks.
use Rattle.std.proofs.Common.{if◌then◌else◌, ◌≡◌, ◌≤◌, ◌+◌, ◌==◌, ℕ, Bool, true, false, refl, ap, sym, subst, ◌∙◌, arith, Option, Some, None, List, [], ◌∷◌, length, inl, inr}
use Rattle.std.proofs.lemmas.Bool.Decides.{nat_tests}
use Rattle.tp_names.specs.declared.identifiers.Addr.{Addr}
use Rattle.tp_names.specs.declared.children.Child.{Child}
use Rattle.tp_records.specs.declared.dialogue.DialogueRecord.{DialogueRecord}
use Rattle.tp_logrec.specs.declared.record.LogVersion.{LogVersion}
use Rattle.tp_model.specs.declared.transaction.TxOut.{TxOut}
use Rattle.tp_model.specs.declared.recovery.Kept.{Kept}
use Rattle.tp_model.specs.Parts.{Out, Link, Dialogue, Arc, Key, Current, Digest}
use Rattle.tp_model.specs.Dialogues.{is_active, is_ready}
use Rattle.tp_model.specs.Arcs.{find_arc, put_arc, without_arc, with_dialogue, with_dialogues, with_link, carried_on, carried, shut_with, performed_one, performed}
use Rattle.tp_model.specs.Transactions.{Transaction, is_under, Turn}
use Rattle.tp_model.specs.Node.{Passage, Enters, Falls, Falls_at_once, Commits, Rolls_back, Leaves, entered, played, perform_commit, committed_arcs, grants, fresh_current, around_grants}
use Rattle.tp_steps.specs.Moves.{IsLate, StandsIn}
use Rattle.tp_steps.proofs.log.KinTurns.{kin}
use Rattle.tp_steps.proofs.lemmas.EachKept.{IsEach}
use Rattle.tp_histories.proofs.trees.Late.{late_fresh}
use Rattle.tp_texts.specs.Texts.{most_children}
use Rattle.tp_encodable.proofs.Places.{peers, without, below, gone, are_apart, counted_without, below_less}
use Rattle.tp_encodable.specs.Standing.{IsBare, IsShapedKept}

-- ---- kept transactions

abbrev pub AreShapedKept : LogVersion → List Kept → Type 0
AreShapedKept ver [] = Unit {0}
AreShapedKept ver (k ∷ ks) = IsShapedKept ver k × AreShapedKept ver ks

pub each_kept : (ver : LogVersion) → IsEach (IsShapedKept ver) (AreShapedKept ver)
each_kept ver = record { none = tt; both = λ k ks h i. (h, i); first = λ k ks h. h.0; rest = λ k ks h. h.1 }

pub kept_in : (ver : LogVersion) (ks : List Kept) (k : Kept) → AreShapedKept ver ks → StandsIn ks k → IsShapedKept ver k
kept_in ver [] k h i = absurd i
kept_in ver (x ∷ xs) k h (inl same) = subst (IsShapedKept ver) same h.0
kept_in ver (x ∷ xs) k h (inr i) = kept_in ver xs k h.1 i

-- ---- the whole

pub record IsFitCurrent (ver : LogVersion) (c : Current) : Type 0 where
  pub under : is_ready c.phase ≡ true → is_under c.key ≡ true
  pub few : length (kin c.branches) ≤ most_children ver

-- the branches of what is active are at different numbers, and each has its place among the subordinates
pub record HasPlaces (d : Digest) (c : Current) : Type 0 where
  pub apart : are_apart d.superior (kin c.branches) ≡ true
  pub room : below d.superior (peers d.arcs) + gone (peers d.arcs) (kin c.branches) ≤ most_children d.version

pub record Stands (d : Digest) : Type 0 where
  pub late : IsLate d
  pub kept : AreShapedKept d.version d.kept
  pub current : (c : Current) → d.current ≡ Some c → IsFitCurrent d.version c
  pub room : below d.superior (peers d.arcs) ≤ most_children d.version
  pub active : (c : Current) → d.current ≡ Some c → is_active c.phase ≡ true → HasPlaces d c
  pub bare : d.declared ≡ false → IsBare d

-- ---- arcs that grow fewer

pub record Thins (xs ys : List Arc) : Type 0 where
  pub fewer : (s : Option Addr) → below s (peers ys) ≤ below s (peers xs)
  pub counted : (s : Option Addr) (cs : List Child) → are_apart s cs ≡ true → below s (peers ys) + gone (peers ys) cs ≤ below s (peers xs) + gone (peers xs) cs
  pub none : xs ≡ [] → ys ≡ []

pub no_peers : (arcs : List Arc) → peers arcs ≡ [] → arcs ≡ []
no_peers [] h = refl
no_peers (a ∷ arcs) h = absurd (cc (h))

equal_most : (a b : ℕ) → a ≡ b → a ≤ b
equal_most a b h = omega (arith, h)

pub thins_same : (xs ys : List Arc) → peers ys ≡ peers xs → Thins xs ys
thins_same xs ys same = record {
  fewer = λ s. equal_most _ _ (ap (below s) same);
  counted = λ s cs h. equal_most _ _ (ap (λ (ns : List ℕ). below s ns + gone ns cs) same);
  none = λ h. no_peers ys (same ∙ ap peers h);
}

most_then : (a b c : ℕ) → b ≤ a → c ≤ b → c ≤ a
most_then a b c h i = omega (arith, h, i)

pub thins_then : (xs ys zs : List Arc) → Thins xs ys → Thins ys zs → Thins xs zs
thins_then xs ys zs one two = record {
  fewer = λ s. most_then _ _ _ (one.fewer s) (two.fewer s);
  counted = λ s cs h. most_then _ _ _ (one.counted s cs h) (two.counted s cs h);
  none = λ h. two.none (one.none h);
}

peers_without : (arcs : List Arc) (p : ℕ) → peers (without_arc arcs p) ≡ without (peers arcs) p
peers_without [] p = refl
peers_without (a ∷ arcs) p = go (a.peer.node == p) (peers_without arcs p)
  where
    go : (b : Bool) → peers (without_arc arcs p) ≡ without (peers arcs) p → peers (if b then without_arc arcs p else a ∷ without_arc arcs p) ≡ (if b then without (peers arcs) p else a.peer.node ∷ without (peers arcs) p)
    go true rest = rest
    go false rest = ap (λ (ns : List ℕ). a.peer.node ∷ ns) rest

pub thins_without : (arcs : List Arc) (p : ℕ) → Thins arcs (without_arc arcs p)
thins_without arcs p =
    let same : peers (without_arc arcs p) ≡ without (peers arcs) p = peers_without arcs p in
    record {
      fewer = λ s. subst (λ (ns : List ℕ). below s ns ≤ below s (peers arcs)) (sym same) (below_less s (peers arcs) p);
      counted = λ s cs h. subst (λ (ns : List ℕ). below s ns + gone ns cs ≤ below s (peers arcs) + gone (peers arcs) cs) (sym same) (counted_without s (peers arcs) cs p h);
      none = λ h. no_peers (without_arc arcs p) (same ∙ ap (λ (xs : List Arc). without (peers xs) p) h);
    }

peers_more : (a b : Arc) (xs ys : List Arc) → b.peer.node ≡ a.peer.node → peers ys ≡ peers xs → peers (b ∷ ys) ≡ peers (a ∷ xs)
peers_more a b xs ys h i = rw (h, i) refl

pub peers_dialogue : (arcs : List Arc) (p : ℕ) (f : Dialogue → Dialogue) → peers (with_dialogue arcs p f) ≡ peers arcs
peers_dialogue [] p f = refl
peers_dialogue (a ∷ arcs) p f = go (a.peer.node == p) (peers_dialogue arcs p f)
  where
    go : (b : Bool) → peers (with_dialogue arcs p f) ≡ peers arcs → peers (if b then record a { dialogue = f a.dialogue } ∷ arcs else a ∷ with_dialogue arcs p f) ≡ peers (a ∷ arcs)
    go true rest = refl
    go false rest = peers_more a a arcs (with_dialogue arcs p f) refl rest

pub peers_link : (arcs : List Arc) (p : ℕ) (f : Link → Link) → peers (with_link arcs p f) ≡ peers arcs
peers_link [] p f = refl
peers_link (a ∷ arcs) p f = go (a.peer.node == p) (peers_link arcs p f)
  where
    go : (b : Bool) → peers (with_link arcs p f) ≡ peers arcs → peers (if b then record a { link = f a.link } ∷ arcs else a ∷ with_link arcs p f) ≡ peers (a ∷ arcs)
    go true rest = refl
    go false rest = peers_more a a arcs (with_link arcs p f) refl rest

pub peers_put : (arcs : List Arc) (b : Arc) → peers (put_arc arcs b) ≡ peers arcs
peers_put [] b = refl
peers_put (a ∷ arcs) b = go (a.peer.node == b.peer.node) refl (peers_put arcs b)
  where
    go : (c : Bool) → (a.peer.node == b.peer.node) ≡ c → peers (put_arc arcs b) ≡ peers arcs → peers (if c then b ∷ arcs else a ∷ put_arc arcs b) ≡ peers (a ∷ arcs)
    go true i rest = let same : b.peer.node ≡ a.peer.node = grind (arith, nat_tests, i) in peers_more a b arcs arcs same refl
    go false i rest = peers_more a a arcs (put_arc arcs b) refl rest

peers_dialogues : (arcs : List Arc) (t : Arc → Bool) (f : Arc → Dialogue) → peers (with_dialogues arcs t f) ≡ peers arcs
peers_dialogues [] t f = refl
peers_dialogues (a ∷ arcs) t f = go (t a) (peers_dialogues arcs t f)
  where
    go : (b : Bool) → peers (with_dialogues arcs t f) ≡ peers arcs → peers ((if b then record a { dialogue = f a } else a) ∷ with_dialogues arcs t f) ≡ peers (a ∷ arcs)
    go true rest = peers_more a a arcs (with_dialogues arcs t f) refl rest
    go false rest = peers_more a a arcs (with_dialogues arcs t f) refl rest

thins_dialogues : (arcs : List Arc) (t : Arc → Bool) (f : Arc → Dialogue) → Thins arcs (with_dialogues arcs t f)
thins_dialogues arcs t f = thins_same arcs (with_dialogues arcs t f) (peers_dialogues arcs t f)

peers_carried : (arcs : List Arc) (q : ℕ) (r : DialogueRecord) → peers (carried arcs q r).0 ≡ peers arcs
peers_carried [] q r = refl
peers_carried (a ∷ arcs) q r = go (a.peer.node == q) (peers_carried arcs q r)
  where
    one : (carried_on a r).0.peer.node ≡ a.peer.node
    one = grind arith

    go : (b : Bool) → peers (carried arcs q r).0 ≡ peers arcs
        → peers (if◌then◌else◌ {A = List Arc × List Out} b (let s = carried_on a r in (s.0 ∷ arcs, s.1)) (let s = carried arcs q r in (a ∷ s.0, s.1))).0 ≡ peers (a ∷ arcs)
    go true rest = peers_more a (carried_on a r).0 arcs arcs one refl
    go false rest = peers_more a a arcs (carried arcs q r).0 refl rest

thins_shut : (arcs : List Arc) (q : ℕ) → Thins arcs (shut_with arcs q).0
thins_shut arcs q = go (find_arc arcs q) refl
  where
    go : (o : Option Arc) → find_arc arcs q ≡ o → Thins arcs (shut_with arcs q).0
    go None i = rw (i, shut_with) (thins_same arcs arcs refl)
    go (Some a) i = rw (i, shut_with) (thins_without arcs q)

thins_one : (arcs : List Arc) (o : TxOut) → Thins arcs (performed_one arcs o).0
thins_one arcs (TxOut.Carry q r) = thins_same arcs (carried arcs q r).0 (peers_carried arcs q r)
thins_one arcs (TxOut.Shut q) = thins_shut arcs q
thins_one arcs (TxOut.Close q) = thins_without arcs q
thins_one arcs _ = thins_same arcs arcs refl

pub thins_performed : (arcs : List Arc) (outs : List TxOut) → Thins arcs (performed arcs outs).0
thins_performed arcs [] = thins_same arcs arcs refl
thins_performed arcs (o ∷ outs) =
    let next : List Arc = (performed_one arcs o).0 in
    thins_then arcs next (performed next outs).0 (thins_one arcs o) (thins_performed next outs)

thins_entered : (t : Transaction) (w : Passage) (arcs : List Arc) → Thins arcs (entered t w arcs)
unfolding entered
thins_entered t Enters arcs = thins_dialogues arcs _ _
thins_entered t Falls arcs = thins_dialogues arcs _ _
thins_entered t Falls_at_once arcs = thins_dialogues arcs _ _
thins_entered t _ arcs = thins_same arcs arcs refl

thins_commit : (d : Digest) (t : Transaction) (s : List TxOut × List TxOut) (arcs : List Arc) → Thins arcs (perform_commit d t s arcs).0
thins_commit d t s arcs =
    let one : List Arc = (performed arcs s.0).0 in
    let mid : List Arc = committed_arcs d t one in
    let two : List Arc = (performed mid (grants t one)).0 in
    thins_then arcs one (performed two s.1).0 (thins_performed arcs s.0)
    (thins_then one mid (performed two s.1).0 (thins_dialogues one _ _) (thins_then mid two (performed two s.1).0 (thins_performed mid (grants t one)) (thins_performed two s.1)))

thins_after : (d : Digest) (t : Transaction) (w : Passage) (asks : Turn) (arcs : List Arc) → Thins arcs (played d t w asks arcs).0
unfolding played
thins_after d t Falls_at_once asks arcs = thins_then arcs (performed arcs asks.outs).0 _ (thins_performed arcs asks.outs) (thins_dialogues (performed arcs asks.outs).0 _ _)
thins_after d t Commits asks arcs = thins_commit d t (around_grants asks) arcs
thins_after d t Rolls_back asks arcs = thins_then arcs (performed arcs asks.outs).0 _ (thins_performed arcs asks.outs) (thins_dialogues (performed arcs asks.outs).0 _ _)
thins_after d t Leaves asks arcs = thins_then arcs (performed arcs asks.outs).0 _ (thins_performed arcs asks.outs) (thins_then (performed arcs asks.outs).0 _ _ (thins_dialogues (performed arcs asks.outs).0 _ _) (thins_dialogues _ _ _))
thins_after d t _ asks arcs = thins_performed arcs asks.outs

pub thins_played : (d : Digest) (t : Transaction) (w : Passage) (asks : Turn) (arcs : List Arc) → Thins arcs (played d t w asks (entered t w arcs)).0
thins_played d t w asks arcs = thins_then arcs (entered t w arcs) _ (thins_entered t w arcs) (thins_after d t w asks (entered t w arcs))

-- ---- what stays

pub stands_arcs : (d : Digest) (arcs : List Arc) → Thins d.arcs arcs → Stands d → Stands (record d { arcs = arcs })
stands_arcs d arcs thins s = record {
  late = s.late;
  kept = s.kept;
  current = s.current;
  room = most_then _ _ _ s.room (thins.fewer d.superior);
  active = λ c now act. let p = s.active c now act in record { apart = p.apart; room = most_then _ _ _ p.room (thins.counted d.superior (kin c.branches) p.apart) };
  bare = λ off. let b = s.bare off in record { arcs = thins.none b.arcs; branches = b.branches };
}

pub stands_drawn : (d : Digest) (n : ℕ) → Stands d → Stands (record d { drawn = n })
stands_drawn d n s = record {
  late = s.late;
  kept = s.kept;
  current = s.current;
  room = s.room;
  active = λ c now act. let p = s.active c now act in record { apart = p.apart; room = p.room };
  bare = λ off. let b = s.bare off in record { arcs = b.arcs; branches = b.branches };
}

pub stands_kept : (d : Digest) (ks : List Kept) → AreShapedKept d.version ks → Stands d → Stands (record d { kept = ks })
stands_kept d ks h s = record {
  late = s.late;
  kept = h;
  current = s.current;
  room = s.room;
  active = λ c now act. let p = s.active c now act in record { apart = p.apart; room = p.room };
  bare = λ off. let b = s.bare off in record { arcs = b.arcs; branches = b.branches };
}

no_more : (a n : ℕ) → a ≤ n → a + 0 ≤ n
no_more a n h = omega (arith, h)

-- a transaction that has just begun
pub stands_fresh : (d : Digest) (k : Key) → Stands d → Stands (record d { current = Some (fresh_current k) })
stands_fresh d k s = record {
  late = late_fresh k;
  kept = s.kept;
  current = λ c now. subst (IsFitCurrent d.version) (is c now) (record { under = λ r. absurd (cc (r)); few = omega arith });
  room = s.room;
  active = λ c now act. subst (HasPlaces (record d { current = Some (fresh_current k) })) (is c now) (record { apart = refl; room = no_more _ _ s.room });
  bare = λ off. let b = s.bare off in record { arcs = b.arcs; branches = λ c now act. ap (λ (x : Current). x.branches) (sym (is c now)) };
}
  where
    is : (c : Current) → ◌≡◌ {A = Option Current} (Some (fresh_current k)) (Some c) → fresh_current k ≡ c
    is c h = cc (h)
