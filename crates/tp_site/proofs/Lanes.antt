-- What a site that goes on over a log finds for the nodes of one lane.
use Rattle.std.proofs.Common.{◌≡◌, ◌==◌, ◌%◌, ◌<◌, ◌+◌, ℕ, Bool, true, false, Option, Some, None, List, [], ◌∷◌, ◌++◌, length, map, take, refl, ap, sym, subst, ◌∙◌, arith, slice_index_or}
use Rattle.std.proofs.lemmas.Bool.Decides.{nat_tests}
use Rattle.std.proofs.Math.Seq.{take-length}
use Rattle.std.proofs.Math.Nat.{mod-one}
use Rattle.tp_logrec.specs.declared.record.LogRec.{LogRec}
use Rattle.tp_logrec.specs.declared.record.LogVersion.{LogVersion}
use Rattle.tp_logrec.specs.declared.owner.Owner.{Owner}
use Rattle.tp_logrec.specs.Order.{owner_of, boots, last_number, all_follow}
use Rattle.tp_model.specs.Events.{started}
use Rattle.tp_model.specs.NodeRun.{Opening, boot_of, is_record_at, records_at}
use Rattle.tp_model.specs.Lanes.{records_in}
use Rattle.tp_journal.specs.Keeping.{Standing}
use Rattle.tp_journal.specs.Records.{version_of}
use Rattle.tp_journal.specs.declared.receipts.Receipt.{Receipt}
use Rattle.tp_site.specs.Nodes.{Nodes, AreFrom}
use Rattle.tp_site.specs.Site.{Site, IsFound, told_records}
use Rattle.tp_site.specs.Events.{kept_records, IsAt}
use Rattle.tp_site.specs.Resume.{is_in_lane, is_record_in, IsLaneOf, IsResumed, IsStartedOn}
use Rattle.tp_site.proofs.Starting.{told_more}

-- ---- one record more

abbrev kept_if : Bool → LogRec → List LogRec
kept_if true r = r ∷ []
kept_if false r = []

one_in : (i w : ℕ) (r : LogRec) → records_in i w (r ∷ []) ≡ kept_if (is_record_in i w r) r
one_in i w r = go (owner_of r) refl
  where
    go : (o : Option Owner) → owner_of r ≡ o
        → elim o as (λ _. List LogRec) [ None ↦ [] | Some p ↦ elim (p.node % w == i) as (λ _. List LogRec) [ true ↦ r ∷ [] | false ↦ [] ] ]
        ≡ kept_if (elim o as (λ _. Bool) [ None ↦ false | Some p ↦ p.node % w == i ]) r
    go None is = refl
    go (Some p) is = by (p.node % w == i)
      where
        by : (b : Bool) → elim b as (λ _. List LogRec) [ true ↦ r ∷ [] | false ↦ [] ] ≡ kept_if b r
        by true = refl
        by false = refl

more_of_lane : (i w : ℕ) (rs : List LogRec) (r : LogRec) → records_in i w (rs ++ r ∷ []) ≡ records_in i w rs ++ records_in i w (r ∷ [])
more_of_lane i w [] r = refl
more_of_lane i w (q ∷ rs) r = go (owner_of q) (more_of_lane i w rs r)
  where
    go : (o : Option Owner) → records_in i w (rs ++ r ∷ []) ≡ records_in i w rs ++ records_in i w (r ∷ [])
        → elim o as (λ _. List LogRec) [ None ↦ records_in i w (rs ++ r ∷ []) | Some p ↦ elim (p.node % w == i) as (λ _. List LogRec) [ true ↦ q ∷ records_in i w (rs ++ r ∷ []) | false ↦ records_in i w (rs ++ r ∷ []) ] ]
        ≡ elim o as (λ _. List LogRec) [ None ↦ records_in i w rs | Some p ↦ elim (p.node % w == i) as (λ _. List LogRec) [ true ↦ q ∷ records_in i w rs | false ↦ records_in i w rs ] ] ++ records_in i w (r ∷ [])
    go None more = more
    go (Some p) more = by (p.node % w == i)
      where
        by : (b : Bool) → elim b as (λ _. List LogRec) [ true ↦ q ∷ records_in i w (rs ++ r ∷ []) | false ↦ records_in i w (rs ++ r ∷ []) ]
            ≡ elim b as (λ _. List LogRec) [ true ↦ q ∷ records_in i w rs | false ↦ records_in i w rs ] ++ records_in i w (r ∷ [])
        by true = ap (λ (l : List LogRec). q ∷ l) more
        by false = more

none_more : (l : List LogRec) → l ++ [] ≡ l
none_more [] = refl
none_more (q ∷ l) = ap (λ (m : List LogRec). q ∷ m) (none_more l)

pub more_in : (i w : ℕ) (old new : Nodes) (rs : List LogRec) (r : LogRec) → is_record_in i w r ≡ true → AreFrom (records_in i w rs ++ r ∷ []) new → AreFrom (records_in i w (rs ++ r ∷ [])) new
more_in i w old new rs r is from = subst (λ (l : List LogRec). AreFrom l new) (sym (more_of_lane i w rs r ∙ ap (λ (l : List LogRec). records_in i w rs ++ l) (one_in i w r ∙ ap (λ (b : Bool). kept_if b r) is))) from

pub more_out : (i w : ℕ) (v : Nodes) (rs : List LogRec) (r : LogRec) → is_record_in i w r ≡ false → AreFrom (records_in i w rs) v → AreFrom (records_in i w (rs ++ r ∷ [])) v
more_out i w v rs r is from =
    subst (λ (l : List LogRec). AreFrom l v)
    (sym (more_of_lane i w rs r ∙ ap (λ (l : List LogRec). records_in i w rs ++ l) (one_in i w r ∙ ap (λ (b : Bool). kept_if b r) is) ∙ none_more (records_in i w rs)))
    from

-- ---- the records of a node of the lane

pub at_of_lane : (i w n : ℕ) (rs : List LogRec) → is_in_lane i w n ≡ true → records_at n (records_in i w rs) ≡ records_at n rs
at_of_lane i w n [] mine = refl
at_of_lane i w n (r ∷ rs) mine = go (owner_of r) refl (at_of_lane i w n rs mine)
  where
    go : (o : Option Owner) → owner_of r ≡ o → records_at n (records_in i w rs) ≡ records_at n rs
        → records_at n (elim o as (λ _. List LogRec) [ None ↦ records_in i w rs | Some p ↦ elim (p.node % w == i) as (λ _. List LogRec) [ true ↦ r ∷ records_in i w rs | false ↦ records_in i w rs ] ])
        ≡ elim (elim o as (λ _. Bool) [ None ↦ false | Some p ↦ p.node == n ]) as (λ _. List LogRec) [ true ↦ r ∷ records_at n rs | false ↦ records_at n rs ]
    go None is rest = rest
    go (Some p) is rest = by (p.node % w == i) refl (p.node == n) refl
      where
        here : is_record_at n r ≡ (p.node == n)
        here = ap (λ (o : Option Owner). elim o as (λ _. Bool) [ None ↦ false | Some q ↦ q.node == n ]) is

        by : (a : Bool) → (p.node % w == i) ≡ a → (b : Bool) → (p.node == n) ≡ b
            → records_at n (elim a as (λ _. List LogRec) [ true ↦ r ∷ records_in i w rs | false ↦ records_in i w rs ]) ≡ elim b as (λ _. List LogRec) [ true ↦ r ∷ records_at n rs | false ↦ records_at n rs ]
        by true j true k = rw (here ∙ k, records_at) (ap (λ (l : List LogRec). r ∷ l) rest)
        by true j false k = rw (here ∙ k, records_at) rest
        by false j true k = (let same : p.node ≡ n = grind (arith, nat_tests, k) in let on : (p.node % w == i) ≡ true = ap (λ (m : ℕ). m % w == i) same ∙ mine in absurd (cc (on, j)))
        by false j false k = rest

-- ---- the whole log

pub told_lane : (i w : ℕ) (told : List Receipt) (k : ℕ) (r : LogRec) (old new : Nodes) → k < length told → ((d : Receipt) → r ≡ (slice_index_or told k d).rec)
    → ((rs : List LogRec) → AreFrom (records_in i w rs) old → AreFrom (records_in i w (rs ++ r ∷ [])) new)
    → AreFrom (records_in i w (map (λ q. q.rec) (take k told))) old → AreFrom (records_in i w (map (λ q. q.rec) (take (k + 1) told))) new
told_lane i w [] k r old new h is more from = absurd (omega arith)
told_lane i w (t ∷ told) k r old new h is more from =
    subst (λ (l : List LogRec). AreFrom (records_in i w l) new)
    (ap (λ (q : LogRec). map (λ x. x.rec) (take k (t ∷ told)) ++ q ∷ []) (is t) ∙ sym (told_more (t ∷ told) k t h))
    (more (map (λ q. q.rec) (take k (t ∷ told))) from)

pub all_lane : (i w : ℕ) (told : List Receipt) (k : ℕ) (v : Nodes) → k ≡ length told → AreFrom (records_in i w (map (λ q. q.rec) (take k told))) v → AreFrom (records_in i w (map (λ q. q.rec) told)) v
all_lane i w told k v is from = subst (λ (l : List Receipt). AreFrom (records_in i w (map (λ q. q.rec) l)) v) (ap (λ (n : ℕ). take n told) is ∙ take-length told) from

pub resumed : {K : Type 0} (standing : K → Standing) (old : K) (name : List ℕ) (boot i w : ℕ) (v : Nodes) → IsLaneOf (standing old) name boot i w v
    → IsResumed standing old name boot i w (record { keeper = old; nodes = v; shut = None })
resumed standing old name boot i w v is = record {
  site = is.site;
  boot = is.boot;
  version = is.version;
  known = λ n mine. is.from n ∙ ap (λ (l : List LogRec). started (record { boot = v.boot; version = v.version; records = l })) (at_of_lane i w n (told_records (standing old)) mine)
      ∙ ap (λ (b : ℕ). started (record { boot = b; version = v.version; records = records_at n (told_records (standing old)) })) is.boot
      ∙ ap (λ (x : LogVersion). started (record { boot = boot; version = x; records = records_at n (told_records (standing old)) })) is.version;
  keeper = refl;
  shut = refl;
}

-- ---- a lane that is alone

pub alone : (s : Standing) (name : List ℕ) (last : ℕ) (v : Nodes) → all_follow (told_records s) ≡ true → last ≡ last_number (boots (told_records s)) → IsLaneOf s name (last + 1) 0 1 v
    → IsFound s name v
alone s name last v order is lane = record {
  order = order;
  site = lane.site;
  boot = lane.boot ∙ ap (λ (k : ℕ). k + 1) is ∙ omega arith;
  version = lane.version;
  from = λ n. lane.from n ∙ ap (λ (l : List LogRec). started (record { boot = v.boot; version = v.version; records = l }))
      (at_of_lane 0 1 n (told_records s) (ap (λ (k : ℕ). k == 0) (mod-one n)));
}

-- ---- a run of no events

at_booted : (n : ℕ) (rs : List LogRec) (b : ℕ) → records_at n (rs ++ LogRec.Boot b ∷ []) ≡ records_at n rs
at_booted n [] b = refl
at_booted n (r ∷ rs) b = go (is_record_at n r) (at_booted n rs b)
  where
    go : (c : Bool) → records_at n (rs ++ LogRec.Boot b ∷ []) ≡ records_at n rs
        → elim c as (λ _. List LogRec) [ true ↦ r ∷ records_at n (rs ++ LogRec.Boot b ∷ []) | false ↦ records_at n (rs ++ LogRec.Boot b ∷ []) ] ≡ elim c as (λ _. List LogRec) [ true ↦ r ∷ records_at n rs | false ↦ records_at n rs ]
    go true rest = ap (λ (l : List LogRec). r ∷ l) rest
    go false rest = rest

pub resumed_at : {K : Type 0} (standing : K → Standing) (old : K) (name : List ℕ) (boot i w : ℕ) (s : Site K) (o : Opening) → IsResumed standing old name boot i w s → IsStartedOn (standing old) name boot o
    → IsAt standing (is_in_lane i w) o [] s
resumed_at {K} standing old name boot i w s o is on = record {
  site = is.site ∙ sym on.site;
  boot = is.boot ∙ sym on.boot;
  version = is.version ∙ sym on.version;
  wide = ap (λ (k : K). version_of (standing k).wide) is.keeper ∙ sym on.version;
  known = λ n mine. is.known n mine
      ∙ ap (λ (l : List LogRec). started (record { boot = boot; version = version_of (standing old).wide; records = l })) (ap (records_at n) on.told ∙ at_booted n o.records boot)
      ∙ ap (λ (b : ℕ). started (record { boot = b; version = version_of (standing old).wide; records = records_at n o.records })) (sym on.boot)
      ∙ ap (λ (v : LogVersion). started (record { boot = boot_of o; version = v; records = records_at n o.records })) (sym on.version);
  kept = ap (λ (k : K). kept_records (standing k)) is.keeper ∙ on.kept ∙ on.told ∙ ap (λ (b : ℕ). o.records ++ LogRec.Boot b ∷ []) (sym on.boot);
}
