-- An image of a log that a run may leave is what a process leaves.
use Rattle.std.proofs.Common.{◌≡◌, inl, inr, ℕ, true, false, refl, sym, ap, ◌∙◌, subst, Option, List, [], ◌∷◌, ◌++◌, length}
use Rattle.std.specs.Prelude.{◌-◌}
use Rattle.tp_outside.specs.Story.{Story, seen}
use Rattle.tp_records.specs.declared.body.Event.{Event as Given}
use Rattle.tp_logrec.specs.declared.record.LogVersion.{LogVersion}
use Rattle.tp_logrec.specs.LogText.{Placed, recs, IsLog}
use Rattle.tp_model.specs.LogCommands.{Has, Is_foreign, opened}
use Rattle.tp_model.specs.NodeRun.{Opening, log_after}
use Rattle.tp_model.specs.NodeTranscript.{taken}
use Rattle.tp_journal.specs.Told.{LeavesOnly, LeavesNow}
use Rattle.tp_serve.specs.Images.{IsNodeImage}
use Rattle.tp_serve.specs.Starting.{opening}
use Rattle.tp_serve.specs.Serving.{Ran}
use Rattle.tp_serve.proofs.Lists.{taken_past}
use Rattle.tp_serve.proofs.Holding.{leaves_now, now_weaker}
use Rattle.tp_briefs.specs.Starts.{on}
use Rattle.tp_programs.specs.Stopped.{IsStopped}
use Rattle.tp_programs.specs.Runs.{Stops, IsStart}

none_given : (gs : List Given) → length gs ≡ 0 → gs ≡ []
none_given [] h = refl
none_given (g ∷ gs) h = absurd (cc (h))

-- it never began
unbegun : (name : List ℕ) (r : Ran) (version : LogVersion) (listed : List Placed) (left : List ℕ) → IsStart r version listed → IsLog left (recs listed) → IsStopped name (seen r.told) [] left
unbegun name r version listed left s log = record {
  process = record { found = seen r.told; left = left; begun = false; given = [] };
  is = record { small = s.small; version = version; listed = listed; opens = s.opens; leaves = log };
  from = refl;
  to = refl;
  more = [];
  given = refl;
}

begun : (name : List ℕ) (r : Ran) (version : LogVersion) (listed : List Placed) (events rest : List Given) (left : List ℕ) → IsStart r version listed → IsLog left (log_after (on name version (recs listed)) (events ++ rest)) → IsStopped name (seen r.told) events left
begun name r version listed events rest left s log = record {
  process = record { found = seen r.told; left = left; begun = true; given = events ++ rest };
  is = record { small = s.small; version = version; listed = listed; opens = s.opens; leaves = log };
  from = refl;
  to = refl;
  more = rest;
  given = refl;
}

image : (name : List ℕ) (r : Ran) (version : LogVersion) (listed : List Placed) (events next : List Given) (left : List ℕ) → IsStart r version listed → IsNodeImage (on name version (recs listed)) (events ++ next) (length events) left → IsStopped name (seen r.told) events left
image name r version listed events next left s (inl k) =
    let rest : List Given = taken (k.0 - length events) next in
    let is : taken k.0 (events ++ next) ≡ events ++ rest = taken_past k.0 events next k.1 in
    begun name r version listed events rest left s (subst (λ (gs : List Given). IsLog left (log_after (on name version (recs listed)) gs)) is k.3)
image name r version listed events next left s (inr k) =
    subst (λ (gs : List Given). IsStopped name (seen r.told) gs left) (sym (none_given events k.0)) (unbegun name r version listed left s k.1)

-- the log that was opened is the one that is there
pub one_opening : (name : List ℕ) (file : List ℕ) (ver version : LogVersion) (list listed : List Placed) → opened file ≡ Has version listed → opened file ≡ Has ver list → opening name ver list ≡ on name version (recs listed)
one_opening name file ver version list listed opens is =
    let same : Has ver list ≡ Has version listed = sym is ∙ opens in
    let v : ver ≡ version = cc (same) in
    let l : list ≡ listed = cc (same) in
    ap (λ (x : LogVersion). opening name x list) v ∙ ap (λ (ps : List Placed). opening name version ps) l

pub foreign_clash : (file : List ℕ) (at : ℕ) (version : LogVersion) (listed : List Placed) → opened file ≡ Has version listed → opened file ≡ Is_foreign at → ⊥
foreign_clash file at version listed opens is = let clash : Is_foreign at ≡ Has version listed = sym is ∙ opens in cc (clash)

pub stops_at : (name : List ℕ) (r : Ran) (ver version : LogVersion) (list listed : List Placed) (events next : List Given) → IsStart r version listed → opened (seen r.told) ≡ Has ver list
    → LeavesNow (IsNodeImage (opening name ver list) (events ++ next) (length events)) r.story → Stops name r events
stops_at name r ver version list listed events next s is last =
    now_weaker (IsNodeImage (on name version (recs listed)) (events ++ next) (length events)) (IsStopped name (seen r.told) events) r.story (λ left i. image name r version listed events next left s i)
    (subst (λ (o : Opening). LeavesNow (IsNodeImage o (events ++ next) (length events)) r.story) (one_opening name (seen r.told) ver version list listed s.opens is) last)

-- where nothing but the start was tried
pub stops_before : (name : List ℕ) (r : Ran) (ver version : LogVersion) (list listed : List Placed) (from : Option Story) → IsStart r version listed → opened (seen r.told) ≡ Has ver list
    → LeavesOnly (IsNodeImage (opening name ver list) [] 0) from r.story → Stops name r []
stops_before name r ver version list listed from s is moments = stops_at name r ver version list listed [] [] s is (leaves_now (IsNodeImage (opening name ver list) [] 0) from r.story moments)

pub stops_unbegun : (name : List ℕ) (r : Ran) (ver version : LogVersion) (list listed : List Placed) (from : Option Story) → IsStart r version listed → opened (seen r.told) ≡ Has ver list
    → LeavesOnly (λ c. IsLog c (recs list)) from r.story → Stops name r []
stops_unbegun name r ver version list listed from s is moments =
    let same : recs list ≡ recs listed = ap (λ (o : Opening). o.records) (one_opening name (seen r.told) ver version list listed s.opens is) in
    now_weaker (λ c. IsLog c (recs list)) (IsStopped name (seen r.told) []) r.story (λ left log. unbegun name r version listed left s (subst (IsLog left) same log))
    (leaves_now (λ c. IsLog c (recs list)) from r.story moments)
