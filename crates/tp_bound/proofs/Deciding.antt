-- A Bind, a Keep and a Drop that a store adds: what the store tells of it, what its log then opens to, and what a stop leaves.
use Rattle.std.proofs.Common.{◌≡◌, inl, ℕ, Bool, true, false, Option, Some, None, List, [], ◌∷◌, ◌++◌, length, refl, sym, ap, subst, ◌∙◌}
use Rattle.tp_outside.specs.Story.{Story}
use Rattle.tp_journal.specs.Log.{place_behind, StandsForEither}
use Rattle.tp_journal.specs.Gates.{Gated, face}
use Rattle.tp_journal.specs.Started.{Face}
use Rattle.tp_journal.specs.Told.{LeavesOnly}
use Rattle.tp_records.specs.declared.request.Request.{Request}
use Rattle.tp_bound.specs.declared.body.Body.{Body}
use Rattle.tp_bound.specs.declared.store.Pending.{Pending}
use Rattle.tp_bound.specs.declared.store.Store.{Store}
use Rattle.tp_bound.specs.Bodies.{body_bytes, body_in}
use Rattle.tp_bound.specs.Content.{Content, made}
use Rattle.tp_bound.specs.Gathered.{Gathered}
use Rattle.tp_bound.specs.Stores.{has_room, Stands, opened}
use Rattle.tp_bound.specs.Bounds.{Standing}
use Rattle.tp_bound.specs.Told.{Wish, Adds, dropping, keeping, preparing, content_with, Tells, Appended, OpensThroughout}
use Rattle.tp_bound.proofs.Added.{log_of, is_added}
use Rattle.tp_bound.proofs.Telling.{settled, pending_with, keep_leads, drop_leads, bind_leads, added_opens, adding_opens, vote_adds}

-- where a log that is running stands
pub record At (f : Face) (s : Store) : Type 0 where
  pub place : f.gate ≡ place_behind f.bodies
  pub opens : opened f.bodies ≡ Stands s

-- at every moment of an append the images stand for the bodies or for one more
abbrev pub Leaves : {D : Type 0} → Standing D → List ℕ → Option Story → Option Story → Type 0
Leaves old text before after = old.shut ≡ None → (s : Story) → before ≡ Some s → LeavesOnly (StandsForEither old.bodies (old.bodies ++ text ∷ [])) before after

-- ---- a Drop

pub drop_opens : (old new : Face) (text : List ℕ) (s : Store) (p : Pending) → Appended old text new true → At old s → s.undecided ≡ Some p → body_in text ≡ Some (Body.Drop p.aaid)
    → opened new.bodies ≡ Stands (settled s.content)
drop_opens old new text s p x at is read = added_opens old new text (Body.Drop p.aaid) s (settled s.content) x at.place at.opens read (drop_leads s p old.gate (length text) is)

pub drop_tells : {D : Type 0} (old new : Standing D) (text : List ℕ) (p : Pending) (answer : Option Request) (current : Option Gathered) (before after : ℕ) → Appended (log_of old before) text (log_of new after) true
    → old.store.undecided ≡ Some p → text ≡ body_bytes (Body.Drop p.aaid) → new.node ≡ old.node → new.store ≡ settled old.store.content → new.current ≡ current
    → Tells (dropping old.store.undecided answer current) old before answer new after
drop_tells old new text p answer current before after x is spelled node store same =
    let leads = drop_leads old.store p old.gate (length text) is ∙ ap (λ (s : Store). Some s) (sym store) in
    subst (λ (o : Option Pending). Tells (dropping o answer current) old before answer new after) (sym is)
    (inl (refl, is_added old new (Body.Drop p.aaid) text current before after x spelled node same leads))

pub drop_leaves : {D : Type 0} (old : Standing D) (text : List ℕ) (p : Pending) (answer : Option Request) (current : Option Gathered) (faults : ℕ) (before after : Option Story) → At (log_of old faults) old.store
    → old.store.undecided ≡ Some p → body_in text ≡ Some (Body.Drop p.aaid) → Leaves old text before after → OpensThroughout (dropping old.store.undecided answer current) old before after
drop_leaves old text p answer current faults before after at is read leaves =
    let w : Wish = Adds (Body.Drop p.aaid) answer None current in
    subst (λ (o : Option Pending). OpensThroughout (dropping o answer current) old before after) (sym is)
    (adding_opens w old text (Body.Drop p.aaid) (settled old.store.content) before after at.place at.opens read (drop_leads old.store p old.gate (length text) is)
    (ap (λ (o : Option Pending). content_with old.store.content o w) is) leaves)

-- ---- a Keep

pub keep_opens : (old new : Face) (text : List ℕ) (s : Store) (p : Pending) → Appended old text new true → At old s → s.undecided ≡ Some p → body_in text ≡ Some (Body.Keep p.aaid)
    → opened new.bodies ≡ Stands (settled (made s.content p.writes))
keep_opens old new text s p x at is read =
    added_opens old new text (Body.Keep p.aaid) s (settled (made s.content p.writes)) x at.place at.opens read (keep_leads s p old.gate (length text) is)

pub keep_tells : {D : Type 0} (old new : Standing D) (text : List ℕ) (p : Pending) (before after : ℕ) → Appended (log_of old before) text (log_of new after) true
    → old.store.undecided ≡ Some p → text ≡ body_bytes (Body.Keep p.aaid) → new.node ≡ old.node → new.store ≡ settled (made old.store.content p.writes) → new.current ≡ old.current
    → Tells (keeping old.store.undecided old.current) old before (Some Request.Done) new after
keep_tells old new text p before after x is spelled node store same =
    let leads = keep_leads old.store p old.gate (length text) is ∙ ap (λ (s : Store). Some s) (sym store) in
    subst (λ (o : Option Pending). Tells (keeping o old.current) old before (Some Request.Done) new after) (sym is)
    (inl (refl, is_added old new (Body.Keep p.aaid) text old.current before after x spelled node same leads))

pub keep_leaves : {D : Type 0} (old : Standing D) (text : List ℕ) (p : Pending) (faults : ℕ) (before after : Option Story) → At (log_of old faults) old.store
    → old.store.undecided ≡ Some p → body_in text ≡ Some (Body.Keep p.aaid) → Leaves old text before after → OpensThroughout (keeping old.store.undecided old.current) old before after
keep_leaves old text p faults before after at is read leaves =
    let w : Wish = Adds (Body.Keep p.aaid) (Some Request.Done) None old.current in
    subst (λ (o : Option Pending). OpensThroughout (keeping o old.current) old before after) (sym is)
    (adding_opens w old text (Body.Keep p.aaid) (settled (made old.store.content p.writes)) before after at.place at.opens read (keep_leads old.store p old.gate (length text) is)
    (ap (λ (o : Option Pending). content_with old.store.content o w) is) leaves)

-- ---- a Bind

none_undecided : (u : Option Pending) (current : Option Gathered) (g : Gathered) → ((p : Pending) → u ≡ Some p → current ≡ None) → current ≡ Some g → u ≡ None
none_undecided None current g none is = refl
none_undecided (Some p) current g none is = let e : Some g ≡ None = sym is ∙ none p refl in absurd cc

-- a store with a transaction that goes on, sound and with room for its Bind
pub record Votes (s : Store) (current : Option Gathered) (g : Gathered) (gate : ℕ) (text : List ℕ) : Type 0 where
  pub alone : (p : Pending) → s.undecided ≡ Some p → current ≡ None
  pub is : current ≡ Some g
  pub sound : g.spoilt ≡ false
  pub spelled : text ≡ body_bytes (Body.Bind g.aaid g.writes)
  pub read : body_in text ≡ Some (Body.Bind g.aaid g.writes)
  pub room : has_room gate (length text) ≡ true

-- what was taken is what stood there
pub same_taken : (o : Option Gathered) (x y : Gathered) → Some x ≡ o → o ≡ Some y → x ≡ y
same_taken o x y taken stood = let e : Some x ≡ Some y = taken ∙ stood in cc

bind_leads_on : (s : Store) (current : Option Gathered) (g : Gathered) (gate : ℕ) (text : List ℕ) (v : Votes s current g gate text) → s.undecided ≡ None
bind_leads_on s current g gate text v = none_undecided s.undecided current g v.alone v.is

pub bind_opens : (old new : Face) (text : List ℕ) (s : Store) (current : Option Gathered) (g : Gathered) → Appended old text new true → At old s → Votes s current g old.gate text
    → opened new.bodies ≡ Stands (pending_with s.content g.aaid g.writes)
bind_opens old new text s current g x at v =
    added_opens old new text (Body.Bind g.aaid g.writes) s (pending_with s.content g.aaid g.writes) x at.place at.opens v.read
    (bind_leads s g.aaid g.writes old.gate (length text) (bind_leads_on s current g old.gate text v) v.room)

-- what is wished where the vote is for commit
wishes : (s : Store) (current : Option Gathered) (g : Gathered) (gate : ℕ) (text : List ℕ) → Votes s current g gate text
    → preparing gate current ≡ Adds (Body.Bind g.aaid g.writes) (Some Request.Commit) (Some Request.Rollback) None
wishes s current g gate text v =
    ap (λ (o : Option Gathered). preparing gate o) v.is ∙ vote_adds gate g v.sound (ap (λ (t : List ℕ). has_room gate (length t)) (sym v.spelled) ∙ v.room)

pub bind_tells : {D : Type 0} (old new : Standing D) (text : List ℕ) (g : Gathered) (before after : ℕ) → Appended (log_of old before) text (log_of new after) true
    → Votes old.store old.current g old.gate text → new.node ≡ old.node → new.store ≡ pending_with old.store.content g.aaid g.writes → new.current ≡ None
    → Tells (preparing old.gate old.current) old before (Some Request.Commit) new after
bind_tells old new text g before after x v node store same =
    let none = bind_leads_on old.store old.current g old.gate text v in
    let leads = bind_leads old.store g.aaid g.writes old.gate (length text) none v.room ∙ ap (λ (s : Store). Some s) (sym store) in
    subst (λ (w : Wish). Tells w old before (Some Request.Commit) new after) (sym (wishes old.store old.current g old.gate text v))
    (inl (refl, is_added old new (Body.Bind g.aaid g.writes) text None before after x v.spelled node same leads))

pub bind_leaves : {D : Type 0} (old : Standing D) (text : List ℕ) (g : Gathered) (faults : ℕ) (before after : Option Story) → At (log_of old faults) old.store
    → Votes old.store old.current g old.gate text → Leaves old text before after → OpensThroughout (preparing old.gate old.current) old before after
bind_leaves old text g faults before after at v leaves =
    let w : Wish = Adds (Body.Bind g.aaid g.writes) (Some Request.Commit) (Some Request.Rollback) None in
    let none = bind_leads_on old.store old.current g old.gate text v in
    subst (λ (v : Wish). OpensThroughout v old before after) (sym (wishes old.store old.current g old.gate text v))
    (adding_opens w old text (Body.Bind g.aaid g.writes) (pending_with old.store.content g.aaid g.writes) before after at.place at.opens v.read
    (bind_leads old.store g.aaid g.writes old.gate (length text) none v.room)
    (ap (λ (o : Option Pending). content_with old.store.content o w) none) leaves)

-- ---- as a call of append answers it

-- what a call of append has answered for a body of a store, and what the store's log was before
pub record Answered {D : Type 0} (told : D → Option Story) (count : D → ℕ) (b : Standing D) (new : Gated D) (body text : List ℕ) (t : Bool) : Type 0 where
  pub appended : Appended (log_of b (count b.disk)) body (face new (count new.disk)) t
  pub moments : b.shut ≡ None → (s : Story) → told b.disk ≡ Some s → LeavesOnly (StandsForEither b.bodies (b.bodies ++ body ∷ [])) (told b.disk) (told new.disk)
  pub same : body ≡ text
  pub at : At (log_of b (count b.disk)) b.store

pub answered : {D : Type 0} (told : D → Option Story) (count : D → ℕ) (b old : Standing D) (new : Gated D) (body text : List ℕ) (t : Bool) → b ≡ old
    → Appended (log_of b (count b.disk)) body (face new (count new.disk)) t
    → (b.shut ≡ None → (s : Story) → told b.disk ≡ Some s → LeavesOnly (StandsForEither b.bodies (b.bodies ++ body ∷ [])) (told b.disk) (told new.disk))
    → body ≡ text → b.gate ≡ place_behind b.bodies → opened b.bodies ≡ Stands b.store → Answered told count b new body text t
answered told count b old new body text t is_old appended moments same place opens = record {
  appended = appended;
  moments = moments;
  same = same;
  at = record { place = place; opens = opens };
}

added_text : {D : Type 0} (told : D → Option Story) (count : D → ℕ) (b : Standing D) (new : Gated D) (body text : List ℕ) (t : Bool) → Answered told count b new body text t → t ≡ true
    → Appended (log_of b (count b.disk)) text (face new (count new.disk)) true
added_text {D} told count b new body text t x so =
    subst (λ (s : List ℕ). Appended (log_of b (count b.disk)) s (face new (count new.disk)) true) x.same
    (subst (λ (s : Bool). Appended (log_of b (count b.disk)) body (face new (count new.disk)) s) so x.appended)

leaves_text : {D : Type 0} (told : D → Option Story) (count : D → ℕ) (b : Standing D) (new : Gated D) (body text : List ℕ) (t : Bool) → Answered told count b new body text t → Leaves b text (told b.disk) (told new.disk)
leaves_text {D} told count b new body text t x = subst (λ (s : List ℕ). Leaves b s (told b.disk) (told new.disk)) x.same x.moments

abbrev pub undecided_with : Content → Pending → Store
undecided_with content p = record { content = content; undecided = Some p }

module _ {D : Type 0} (told : D → Option Story) (count : D → ℕ) (b old : Standing D) (new : Gated D) (body text : List ℕ) (t : Bool) (is_old : b ≡ old) (x : Answered told count b new body text t) where
  abbrev pub after_add : Store → Option Gathered → Standing D
  after_add store current = record { node = b.node; disk = new.disk; bodies = new.bodies; gate = new.gate; shut = new.shut; store = store; current = current }

  pub drop_opens_on : (p : Pending) → t ≡ true → b.store.undecided ≡ Some p → body_in text ≡ Some (Body.Drop p.aaid) → opened new.bodies ≡ Stands (settled b.store.content)
  drop_opens_on p so is read = drop_opens (log_of b (count b.disk)) (face new (count new.disk)) text b.store p (added_text told count b new body text t x so) x.at is read

  pub drop_leaves_on : (p : Pending) (answer : Option Request) (current : Option Gathered) → b.store.undecided ≡ Some p → body_in text ≡ Some (Body.Drop p.aaid)
      → OpensThroughout (dropping old.store.undecided answer current) old (told old.disk) (told new.disk)
  drop_leaves_on p answer current is read =
      subst (λ (o : Standing D). OpensThroughout (dropping o.store.undecided answer current) o (told o.disk) (told new.disk)) is_old
      (drop_leaves b text p answer current (count b.disk) (told b.disk) (told new.disk) x.at is read (leaves_text told count b new body text t x))

  pub keep_opens_on : (p : Pending) (content : Content) → t ≡ true → b.store.undecided ≡ Some p → body_in text ≡ Some (Body.Keep p.aaid) → content ≡ made b.store.content p.writes
      → opened new.bodies ≡ Stands (settled content)
  keep_opens_on p content so is read made_so =
      keep_opens (log_of b (count b.disk)) (face new (count new.disk)) text b.store p (added_text told count b new body text t x so) x.at is read ∙ ap (λ (w : Content). Stands (settled w)) (sym made_so)

  pub keep_leaves_on : (p : Pending) → b.store.undecided ≡ Some p → body_in text ≡ Some (Body.Keep p.aaid)
      → OpensThroughout (keeping old.store.undecided old.current) old (told old.disk) (told new.disk)
  keep_leaves_on p is read =
      subst (λ (o : Standing D). OpensThroughout (keeping o.store.undecided o.current) o (told o.disk) (told new.disk)) is_old
      (keep_leaves b text p (count b.disk) (told b.disk) (told new.disk) x.at is read (leaves_text told count b new body text t x))

  pub bind_opens_on : (v : Gathered) (p : Pending) → t ≡ true → Votes b.store b.current v b.gate text → p ≡ record { aaid = v.aaid; writes = v.writes } → opened new.bodies ≡ Stands (undecided_with b.store.content p)
  bind_opens_on v p so votes bound_so =
      bind_opens (log_of b (count b.disk)) (face new (count new.disk)) text b.store b.current v (added_text told count b new body text t x so) x.at votes
      ∙ ap (λ (q : Pending). Stands (undecided_with b.store.content q)) (sym bound_so)

  pub bind_leaves_on : (v : Gathered) → Votes b.store b.current v b.gate text → OpensThroughout (preparing old.gate old.current) old (told old.disk) (told new.disk)
  bind_leaves_on v votes =
      subst (λ (o : Standing D). OpensThroughout (preparing o.gate o.current) o (told o.disk) (told new.disk)) is_old
      (bind_leaves b text v (count b.disk) (told b.disk) (told new.disk) x.at votes (leaves_text told count b new body text t x))

  pub drop_tells_on : (p : Pending) (answer : Option Request) (current : Option Gathered) → t ≡ true → b.store.undecided ≡ Some p → text ≡ body_bytes (Body.Drop p.aaid)
      → Tells (dropping old.store.undecided answer current) old (count old.disk) answer (after_add (settled b.store.content) current) (count new.disk)
  drop_tells_on p answer current so is spelled =
      subst (λ (o : Standing D). Tells (dropping o.store.undecided answer current) o (count o.disk) answer (after_add (settled b.store.content) current) (count new.disk)) is_old
      (drop_tells b (after_add (settled b.store.content) current) text p answer current (count b.disk) (count new.disk) (added_text told count b new body text t x so) is spelled refl refl refl)

  pub keep_tells_on : (p : Pending) (content : Content) → t ≡ true → b.store.undecided ≡ Some p → text ≡ body_bytes (Body.Keep p.aaid) → content ≡ made b.store.content p.writes
      → Tells (keeping old.store.undecided old.current) old (count old.disk) (Some Request.Done) (after_add (settled content) b.current) (count new.disk)
  keep_tells_on p content so is spelled made_so =
      let next : Standing D = after_add (settled content) b.current in
      subst (λ (o : Standing D). Tells (keeping o.store.undecided o.current) o (count o.disk) (Some Request.Done) next (count new.disk)) is_old
      (keep_tells b next text p (count b.disk) (count new.disk) (added_text told count b new body text t x so) is spelled refl (ap settled made_so) refl)

  pub bind_tells_on : (v : Gathered) (p : Pending) (current : Option Gathered) → t ≡ true → Votes b.store b.current v b.gate text → p ≡ record { aaid = v.aaid; writes = v.writes } → current ≡ None
      → Tells (preparing old.gate old.current) old (count old.disk) (Some Request.Commit) (after_add (undecided_with b.store.content p) current) (count new.disk)
  bind_tells_on v p current so votes bound_so none =
      let next : Standing D = after_add (undecided_with b.store.content p) current in
      subst (λ (o : Standing D). Tells (preparing o.gate o.current) o (count o.disk) (Some Request.Commit) next (count new.disk)) is_old
      (bind_tells b next text v (count b.disk) (count new.disk) (added_text told count b new body text t x so) votes refl (ap (λ (q : Pending). undecided_with b.store.content q) bound_so) none)
