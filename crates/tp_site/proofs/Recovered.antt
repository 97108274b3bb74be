-- One record more of the log, for all nodes of a site.
use Rattle.std.proofs.Common.{◌≡◌, ℕ, Bool, true, false, ◌==◌, cond, Option, Some, None, List, [], ◌∷◌, ◌++◌, refl, ap, sym, ◌∙◌}
use Rattle.tp_logrec.specs.declared.record.LogRec.{LogRec}
use Rattle.tp_model.specs.Parts.{Current, Digest}
use Rattle.tp_model.specs.declared.recovery.Kept.{Kept}
use Rattle.tp_model.specs.Recovery.{kept_by}
use Rattle.tp_model.specs.NodeRun.{is_record_at, records_at}
use Rattle.tp_logrec.specs.declared.record.LogVersion.{LogVersion}
use Rattle.tp_logrec.specs.declared.owner.Owner.{Owner}
use Rattle.tp_logrec.specs.Order.{owner_of}
use Rattle.tp_model.specs.Events.{current_by, current_from, kept_from, started, is_known}
use Rattle.tp_node.specs.Node.{recovered_by}
use Rattle.tp_site.specs.Nodes.{Nodes, digest_at, AreFrom, IsSameSite}

-- ---- one record more

current_more : (c : Option Current) (rs : List LogRec) (r : LogRec) → current_from c (rs ++ r ∷ []) ≡ current_by r (current_from c rs)
current_more c [] r = refl
current_more c (q ∷ rs) r = current_more (current_by q c) rs r

kept_more : (ks : List Kept) (rs : List LogRec) (r : LogRec) → kept_from ks (rs ++ r ∷ []) ≡ kept_by r (kept_from ks rs)
kept_more ks [] r = refl
kept_more ks (q ∷ rs) r = kept_more (kept_by q ks) rs r

started_more : (boot : ℕ) (ver : LogVersion) (rs : List LogRec) (r : LogRec) → started (record { boot = boot; version = ver; records = rs ++ r ∷ [] }) ≡ recovered_by r (started (record { boot = boot; version = ver; records = rs }))
unfolding started
started_more boot ver rs r = ap (made (kept_from [] (rs ++ r ∷ []))) (current_more None rs r) ∙ ap (λ (ks : List Kept). made ks (current_by r (current_from None rs))) (kept_more [] rs r)
  where
    made : List Kept → Option Current → Digest
    made ks c = record { declared = false; known = is_known c ks; superior = None; arcs = []; current = c; kept = ks; drawn = 0; boot = boot; version = ver }

records_more : (n : ℕ) (rs : List LogRec) (r : LogRec) → records_at n (rs ++ r ∷ []) ≡ records_at n rs ++ records_at n (r ∷ [])
records_more n [] r = refl
records_more n (q ∷ rs) r = go (records_more n rs r) (is_record_at n q)
  where
    go : (records_at n (rs ++ r ∷ []) ≡ records_at n rs ++ records_at n (r ∷ [])) → (b : Bool) → elim b as (λ _. List LogRec) [ true ↦ q ∷ records_at n (rs ++ r ∷ []) | false ↦ records_at n (rs ++ r ∷ []) ] ≡ elim b as (λ _. List LogRec) [ true ↦ q ∷ records_at n rs | false ↦ records_at n rs ] ++ records_at n (r ∷ [])
    go more true = ap (λ (l : List LogRec). q ∷ l) more
    go more false = more

pub more_recovered : (old mid new : Nodes) (rs : List LogRec) (r : LogRec) (o : Owner) → owner_of r ≡ Some o → AreFrom rs old → ((n : ℕ) → digest_at mid n ≡ digest_at old n) → ((n : ℕ) → digest_at new n ≡ cond (o.node == n) (recovered_by r (digest_at mid n)) (digest_at mid n)) → IsSameSite old mid → IsSameSite mid new → AreFrom (rs ++ r ∷ []) new
more_recovered old mid new rs r o is from same put first second n = put n ∙ ap (λ (d : Digest). cond (o.node == n) (recovered_by r d) d) (same n ∙ from n) ∙ go (o.node == n) refl
  where
    site : IsSameSite old new
    site = record { site = second.site ∙ first.site; boot = second.boot ∙ first.boot; version = second.version ∙ first.version }

    start : List LogRec → Digest
    start l = started (record { boot = new.boot; version = new.version; records = l })

    old_start : List LogRec → Digest
    old_start l = started (record { boot = old.boot; version = old.version; records = l })

    here : (l : List LogRec) → old_start l ≡ start l
    here l = ap (λ (b : ℕ). started (record { boot = b; version = old.version; records = l })) (sym site.boot) ∙ ap (λ (v : LogVersion). started (record { boot = new.boot; version = v; records = l })) (sym site.version)

    one : (b : Bool) → (o.node == n) ≡ b → records_at n (r ∷ []) ≡ elim b as (λ _. List LogRec) [ true ↦ r ∷ [] | false ↦ [] ]
    one b j = ap (λ (x : Bool). elim x as (λ _. List LogRec) [ true ↦ r ∷ [] | false ↦ [] ]) (ap (λ (x : Option Owner). elim x as (λ _. Bool) [ None ↦ false | Some p ↦ p.node == n ]) is ∙ j)

    none_more : (l : List LogRec) → l ++ [] ≡ l
    none_more [] = refl
    none_more (q ∷ l) = ap (λ (m : List LogRec). q ∷ m) (none_more l)

    go : (b : Bool) → (o.node == n) ≡ b → cond b (recovered_by r (old_start (records_at n rs))) (old_start (records_at n rs)) ≡ start (records_at n (rs ++ r ∷ []))
    go true j = ap (recovered_by r) (here (records_at n rs)) ∙ sym (started_more new.boot new.version (records_at n rs) r) ∙ ap start (sym (records_more n rs r ∙ ap (λ (l : List LogRec). records_at n rs ++ l) (one true j)))
    go false j = here (records_at n rs) ∙ ap start (sym (records_more n rs r ∙ ap (λ (l : List LogRec). records_at n rs ++ l) (one false j) ∙ none_more (records_at n rs)))

pub more_skipped : (v : Nodes) (rs : List LogRec) (r : LogRec) → owner_of r ≡ None → AreFrom rs v → AreFrom (rs ++ r ∷ []) v
more_skipped v rs r is from n = from n ∙ ap (λ (l : List LogRec). started (record { boot = v.boot; version = v.version; records = l })) (sym (records_more n rs r ∙ ap (λ (l : List LogRec). records_at n rs ++ l) none ∙ none_more (records_at n rs)))
  where
    none : records_at n (r ∷ []) ≡ []
    none = ap (λ (x : Option Owner). elim (elim x as (λ _. Bool) [ None ↦ false | Some p ↦ p.node == n ]) as (λ _. List LogRec) [ true ↦ r ∷ [] | false ↦ [] ]) is

    none_more : (l : List LogRec) → l ++ [] ≡ l
    none_more [] = refl
    none_more (q ∷ l) = ap (λ (m : List LogRec). q ∷ m) (none_more l)
