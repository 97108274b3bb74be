-- In every run, the records that a node forced of a tree have one key, and each may stand where it stands.
use Rattle.std.proofs.Common.{◌≡◌, Bool, true, false, refl, ap, sym, ◌∙◌, arith, Option, Some, None, List, [], ◌∷◌, ◌||◌}
use Rattle.tp_names.specs.declared.identifiers.Aaid.{Aaid}
use Rattle.tp_names.specs.declared.identifiers.NodeKey.{NodeKey}
use Rattle.tp_names.specs.declared.identifiers.Addr.{Addr}
use Rattle.tp_names.specs.declared.outcome.Outcome.{Outcome}
use Rattle.tp_names.specs.Same.{is_aaid}
use Rattle.tp_model.specs.declared.arc.Phase.{Phase}
use Rattle.tp_model.specs.Parts.{Origin, Entry, Key, Under, Current, Digest}
use Rattle.tp_model.specs.Dialogues.{is_ready, is_committing}
use Rattle.tp_model.specs.Transactions.{aaid_of, node_key}
use Rattle.tp_model.specs.Recovery.{not_forgotten}
use Rattle.tp_model.specs.Node.{fresh_current}
use Rattle.tp_model.specs.Events.{action, started, recovered_current}
use Rattle.tp_model.specs.History.{digest, records}
use Rattle.tp_model.specs.Outcomes.{is_now}
use Rattle.tp_model.specs.World.{Node, number_of}
use Rattle.tp_model.specs.Happenings.{Happening, run}
use Rattle.tp_model.specs.Promises.{IsIn, is_of_tree, has_record}
use Rattle.tp_model.specs.Legal.{IsGrown}
use Rattle.tp_steps.specs.Moves.{prelude}
use Rattle.tp_steps.specs.Traces.{is_old}
use Rattle.tp_histories.specs.Members.{is_known, is_own, has_taken_begin, IsOnce}
use Rattle.tp_runs.specs.Bare.{IsBare, keeps_tree}
use Rattle.tp_forced.specs.TreeLog.{Stage, of_tree, stage, OneLog}
use Rattle.tp_steps.proofs.every.EveryEvent.{every_move}
use Rattle.tp_steps.proofs.lemmas.Equality.{aaids_equal}
use Rattle.tp_steps.proofs.lemmas.Options.{some_same}
use Rattle.tp_histories.proofs.trees.Late.{late_law}
use Rattle.tp_histories.proofs.trees.Knowing.{Came, As_it_was, By_begin, By_crash, came_by, nil_now, old_prelude, foreign_old, begun_is, current_none}
use Rattle.tp_histories.proofs.log.KeptLog.{kept_prelude}
use Rattle.tp_histories.proofs.worlds.Good.{good_run}
use Rattle.tp_histories.proofs.worlds.Unique.{unique_run}
use Rattle.tp_runs.proofs.Bare.{bare_law}
use Rattle.tp_forced.proofs.Stages.{fits, is_away, is_blank, log_stage, log_step, log_more, no_records}
use Rattle.tp_forced.proofs.Sides.{sides, sides_same, none_kept}
use Rattle.tp_forced.proofs.StageMoves.{Fits, StagedMove, IsStagedMove, staged_moves}

pub record IsStagedLog (o : Origin) (h : List Entry) (t : Aaid) : Type 0 where
  pub key : NodeKey
  pub stage : Stage
  pub stands : log_stage t key (records o h) ≡ Some stage
  pub fits : Fits o.who t key stage (digest o h)

-- ---- what comes first in an event

-- the stage is that of the records; the key is another one only where nothing is known of the tree
record First (o : Origin) (h : List Entry) (t : Aaid) (s : Digest) : Type 0 where
  key : NodeKey
  stage : Stage
  stands : log_stage t key (records o h) ≡ Some stage
  fits : Fits o.who t key stage s

-- what a crash leaves of a transaction
left_phase : (p : Phase) (u : Option Outcome) (g : Stage) → (is_ready p || is_committing p) ≡ false → fits p u g ≡ true → is_away g ≡ true
left_phase Phase.Nil u g h f = f
left_phase Phase.Rolling u g h f = f
left_phase Phase.Active None g h f = blank g f
  where
    blank : (g : Stage) → is_blank g ≡ true → is_away g ≡ true
    blank Stage.Blank i = refl
    blank _ i = absurd (cc (i))
left_phase Phase.Active (Some v) g h f = absurd (cc (f))
left_phase Phase.Ready u g h f = absurd (cc (h))
left_phase Phase.Committing u g h f = absurd (cc (h))

pub record Recovered (c u : Current) : Type 0 where
  pub key : u.key ≡ c.key
  pub phase : u.phase ≡ c.phase
  pub decision : u.decision ≡ c.decision

recovered_is : (c u : Current) → recovered_current (Some c) ≡ Some u → Recovered c u
recovered_is c u h = go (is_ready c.phase || is_committing c.phase) refl
  where
    go : (b : Bool) → (is_ready c.phase || is_committing c.phase) ≡ b → Recovered c u
    go true i = record { key = grind (arith, h, i); phase = grind (arith, h, i); decision = grind (arith, h, i) }
    go false i = absurd (grind (arith, h, i))

crash_first : (o : Origin) (h : List Entry) (t : Aaid) (s : Digest) → s.current ≡ recovered_current (digest o h).current → not_forgotten s.kept ≡ not_forgotten (digest o h).kept
    → (is_old o.who (digest o h) t.mark ≡ true → is_old o.who s t.mark ≡ true) → IsStagedLog o h t → First o h t s
crash_first o h t s cur kept older l = record {
  key = l.key;
  stage = l.stage;
  stands = l.stands;
  fits = record {
    now = λ c is own. now c d.current refl (sym cur ∙ is) own;
    away = λ n. away d.current refl n;
    kept = sides_same t s.kept d.kept kept ∙ l.fits.kept;
    old = λ n. older (l.fits.old (was d.current refl n));
    fresh = λ y. l.fits.fresh (young (is_old o.who d t.mark) refl y);
  };
}
  where
    d : Digest
    d = digest o h

    young : (b : Bool) → is_old o.who d t.mark ≡ b → is_old o.who s t.mark ≡ false → is_old o.who d t.mark ≡ false
    young false i y = i
    young true i y = absurd (cc (older i, y))

    now : (c : Current) (v : Option Current) → d.current ≡ v → recovered_current d.current ≡ Some c → is_aaid t (aaid_of c.key) ≡ true → (node_key c.key ≡ l.key) × (fits c.phase c.decision l.stage ≡ true)
    now c None i is own = absurd (let off : None ≡ Some c = sym (ap recovered_current i) ∙ is in cc (off))
    now c (Some u) i is own =
        let r : Recovered u c = recovered_is u c (sym (ap recovered_current i) ∙ is) in
        let n = l.fits.now u i (ap (λ (k : Key). is_aaid t (aaid_of k)) (sym r.key) ∙ own) in (
          ap node_key r.key ∙ n.0,
          ap (λ (p : Phase). fits p c.decision l.stage) r.phase ∙ ap (λ (v : Option Outcome). fits u.phase v l.stage) r.decision ∙ n.1,
        )

    was : (v : Option Current) → d.current ≡ v → is_now t s.current ≡ true → is_now t d.current ≡ true
    was None i n = absurd (let off : false ≡ true = sym (ap (λ (x : Option Current). is_now t (recovered_current x)) i) ∙ sym (ap (is_now t) cur) ∙ n in cc (off))
    was (Some u) i n = ap (is_now t) i ∙ on (recovered_current (Some u)) refl
      where
        there : is_now t (recovered_current (Some u)) ≡ true
        there = sym (ap (λ (x : Option Current). is_now t (recovered_current x)) i) ∙ sym (ap (is_now t) cur) ∙ n

        on : (v : Option Current) → recovered_current (Some u) ≡ v → is_aaid t (aaid_of u.key) ≡ true
        on None j = absurd (let off : false ≡ true = sym (ap (is_now t) j) ∙ there in cc (off))
        on (Some c) j = ap (λ (k : Key). is_aaid t (aaid_of k)) (sym (recovered_is u c j).key) ∙ sym (ap (is_now t) j) ∙ there

    away : (v : Option Current) → d.current ≡ v → is_now t s.current ≡ false → is_away l.stage ≡ true
    away None i n = l.fits.away (ap (is_now t) i)
    away (Some u) i n = on (is_aaid t (aaid_of u.key)) refl
      where
        off : is_now t (recovered_current (Some u)) ≡ false
        off = sym (ap (λ (x : Option Current). is_now t (recovered_current x)) i) ∙ sym (ap (is_now t) cur) ∙ n

        on : (b : Bool) → is_aaid t (aaid_of u.key) ≡ b → is_away l.stage ≡ true
        on false j = l.fits.away (ap (is_now t) i ∙ j)
        on true j = left_phase u.phase u.decision l.stage (gone (is_ready u.phase || is_committing u.phase) refl) (l.fits.now u i j).1
          where
            gone : (b : Bool) → (is_ready u.phase || is_committing u.phase) ≡ b → (is_ready u.phase || is_committing u.phase) ≡ false
            gone false m = m
            gone true m = absurd (grind (arith, off, j, m))

same_first : (o : Origin) (h : List Entry) (t : Aaid) (s : Digest) → s.current ≡ (digest o h).current → not_forgotten s.kept ≡ not_forgotten (digest o h).kept
    → (is_old o.who (digest o h) t.mark ≡ true → is_old o.who s t.mark ≡ true) → IsStagedLog o h t → First o h t s
same_first o h t s cur kept older l = record {
  key = l.key;
  stage = l.stage;
  stands = l.stands;
  fits = record {
    now = λ c is own. l.fits.now c (sym cur ∙ is) own;
    away = λ n. l.fits.away (ap (is_now t) (sym cur) ∙ n);
    kept = sides_same t s.kept (digest o h).kept kept ∙ l.fits.kept;
    old = λ n. older (l.fits.old (ap (is_now t) (sym cur) ∙ n));
    fresh = λ y. l.fits.fresh (young (is_old o.who (digest o h) t.mark) refl y);
  };
}
  where
    young : (b : Bool) → is_old o.who (digest o h) t.mark ≡ b → is_old o.who s t.mark ≡ false → is_old o.who (digest o h) t.mark ≡ false
    young false i y = i
    young true i y = absurd (cc (older i, y))

not_true : (b : Bool) → (b ≡ true → ⊥) → b ≡ false
not_true false h = refl
not_true true h = absurd (h refl)

-- the tree that begins is not known before
begun_first : (o : Origin) (up : Option Addr) (h : List Entry) (t : Aaid) (s : Digest) (k : Key) → o.start.records ≡ [] → IsGrown o up h → IsOnce o h → is_known o t h ≡ false → is_own o.who t ≡ false
    → aaid_of k ≡ t → s.current ≡ Some (fresh_current k) → not_forgotten s.kept ≡ not_forgotten (digest o h).kept → First o h t s
begun_first o up h t s k empty legal once unknown foreign tree cur kept = record {
  key = node_key k;
  stage = Stage.Blank;
  stands = ap (stage (node_key k)) none;
  fits = record {
    now = λ c is own. let same : fresh_current k ≡ c = some_same (fresh_current k) c (sym cur ∙ is) in (
      ap (λ (v : Current). node_key v.key) (sym same),
      ap (λ (v : Current). fits v.phase v.decision Stage.Blank) (sym same),
    );
    away = λ n. refl;
    kept = sides_same t s.kept (digest o h).kept kept ∙ none_kept t (digest o h).kept unkept;
    old = λ n. foreign_old o.who s t foreign;
    fresh = λ y. absurd (cc (foreign_old o.who s t foreign, y));
  };
}
  where
    bare : IsBare o h t
    bare = bare_law o up h t empty legal once

    unlogged : has_record (is_of_tree t) (records o h) ≡ false
    unlogged = not_true (has_record (is_of_tree t) (records o h)) (λ r. cc (bare.known r, unknown))

    unkept : keeps_tree t (digest o h).kept ≡ false
    unkept = not_true (keeps_tree t (digest o h).kept) (λ r. cc (bare.kept r, unlogged))

    none : of_tree t (records o h) ≡ []
    none = no_records t (records o h) unlogged

first : (o : Origin) (up : Option Addr) (e : Entry) (h : List Entry) (t : Aaid) → o.start.records ≡ [] → IsGrown o up (e ∷ h) → IsOnce o (e ∷ h) → IsStagedLog o h t → First o h t (prelude o.who (digest o h) e.event)
first o up e h t empty legal once l = go (came_by o.who d e.event legal.0)
  where
    d : Digest
    d = digest o h

    s : Digest
    s = prelude o.who d e.event

    kept : not_forgotten s.kept ≡ not_forgotten d.kept
    kept = (kept_prelude o.who d e.event).0

    older : is_old o.who d t.mark ≡ true → is_old o.who s t.mark ≡ true
    older = old_prelude o.who d e.event t.mark

    go : Came o.who d e.event → First o h t s
    go (As_it_was i) = same_first o h t s i kept older l
    go (By_crash is cur) = crash_first o h t s cur kept older l
    go (By_begin from x y q u b k a is found cur nil above) = on (is_aaid t u) refl
      where
        none : is_now t d.current ≡ false
        none = nil_now d t (late_law o up h legal.3) nil

        on : (v : Bool) → is_aaid t u ≡ v → First o h t s
        on true i =
            let new = once.0 t (begun_is t u from x y q b k e.event is i) in
            begun_first o up h t s (Under u b a.peer) empty legal.3 once.1 (unknown new.0 new.1) new.0 (sym (aaids_equal t u i)) cur kept
          where
            unknown : is_own o.who t ≡ false → has_taken_begin t h ≡ false → is_known o t h ≡ false
            unknown m n = rw (m, n) refl
        on false i = record {
          key = l.key;
          stage = l.stage;
          stands = l.stands;
          fits = record {
            now = λ c at own. absurd (cc (i, ap (λ (v : Current). is_aaid t (aaid_of v.key)) (some_same (fresh_current (Under u b a.peer)) c (sym cur ∙ at)) ∙ own));
            away = λ n. l.fits.away none;
            kept = sides_same t s.kept d.kept kept ∙ l.fits.kept;
            old = λ n. absurd (let off : false ≡ true = sym (ap (is_now t) cur ∙ i) ∙ n in cc (off));
            fresh = λ y. l.fits.fresh (young (is_old o.who d t.mark) refl y);
          };
        }
          where
            young : (b : Bool) → is_old o.who d t.mark ≡ b → is_old o.who s t.mark ≡ false → is_old o.who d t.mark ≡ false
            young false j y = j
            young true j y = absurd (cc (older j, y))

-- ---- every legal history

records_none : (o : Origin) → o.start.records ≡ [] → records o [] ≡ []
records_none o empty = rw empty refl

kept_none : (o : Origin) → o.start.records ≡ [] → (digest o []).kept ≡ []
unfolding started
kept_none o empty = rw empty refl

pub staged_law : (o : Origin) (up : Option Addr) (h : List Entry) (t : Aaid) → o.start.records ≡ [] → IsGrown o up h → IsOnce o h → IsStagedLog o h t
staged_law o up [] t empty legal once = record {
  key = record { aaid = t; branch = None };
  stage = Stage.Blank;
  stands = ap (log_stage t (record { aaid = t; branch = None })) (records_none o empty);
  fits = record {
    now = λ c is own. absurd (let off : None ≡ Some c = sym (current_none o empty) ∙ is in cc (off));
    away = λ n. refl;
    kept = ap (sides t) (kept_none o empty);
    old = λ n. absurd (let off : false ≡ true = sym (ap (is_now t) (current_none o empty)) ∙ n in cc (off));
    fresh = λ y. (refl, refl);
  };
}
staged_law o up (e ∷ h) t empty legal once =
    let d : Digest = digest o h in
    let f : First o h t (prelude o.who d e.event) = first o up e h t empty legal once (staged_law o up h t empty legal.3 once.1) in
    let m : StagedMove o.who t f.key f.stage (action o.who d e.event) =
    every_move o.who d e.event (IsStagedMove o.who t f.key) (staged_moves o.who e.event (prelude o.who d e.event) t f.key) (late_law o up h legal.3) legal.0 f.stage f.fits in
    record {
      key = f.key;
      stage = m.next;
      stands = log_more t f.key f.stage e.rec (records o h) (Some m.next) f.stands (ap (λ (v : Entry). log_step t f.key f.stage v.rec) (sym legal.1) ∙ m.steps);
      fits = m.fits;
    }

pub staged_run : (es : List Happening) (t : Aaid) (x : Node) → IsIn (run es) x → IsStagedLog x.origin x.history t
staged_run es t x here =
    let good = good_run es in
    staged_law x.origin x.superior x.history t (good.fresh (number_of x) x here) (good.legal (number_of x) x here) ((unique_run es).once (number_of x) x here)

pub one_log : (es : List Happening) → OneLog (run es)
one_log es t x here = let l = staged_run es t x here in (l.key, l.stage, l.stands)
