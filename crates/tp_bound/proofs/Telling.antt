-- A body that is added leads to the store that the call leaves, and what a stop leaves meanwhile.
use Rattle.std.proofs.Common.{◌≡◌, ◌≤◌, ◌+◌, ◌↔◌, IsTrue, nat_le, ◌⊎◌, inl, inr, ℕ, Bool, true, false, Option, Some, None, List, [], ◌∷◌, ◌++◌, length, refl, sym, ap, subst, ◌∙◌, arith}
use Rattle.std.proofs.lemmas.Bool.Decides.{nat_tests}
use Rattle.tp_names.specs.declared.identifiers.Aaid.{Aaid}
use Rattle.tp_names.proofs.Sames.{aaid_self}
use Rattle.tp_outside.specs.Story.{Story, IsImage}
use Rattle.tp_outside.proofs.Stories.{started}
use Rattle.tp_journal.specs.Log.{place_behind, most_bytes, StandsInFront, StandsForEither}
use Rattle.tp_journal.specs.Told.{LeavesOnly, RestsAt}
use Rattle.tp_journal.specs.Started.{Face, IsStarted}
use Rattle.tp_bound.specs.declared.write.Write.{Write}
use Rattle.tp_bound.specs.declared.body.Body.{Body}
use Rattle.tp_bound.specs.declared.store.Pending.{Pending}
use Rattle.tp_bound.specs.declared.store.Store.{Store}
use Rattle.tp_records.specs.declared.request.Request.{Request}
use Rattle.tp_bound.specs.Bodies.{body_bytes, body_in}
use Rattle.tp_bound.specs.Gathered.{Gathered}
use Rattle.tp_bound.specs.Content.{Content, made}
use Rattle.tp_bound.specs.Stores.{bound, decided, has_room, with_body, taken, Stands, opened}
use Rattle.tp_bound.specs.Bounds.{Standing}
use Rattle.tp_bound.specs.Told.{Wish, Answers, Adds, binding, preparing, Appended, content_with, OpensToEither, OpensThroughout}
use Rattle.tp_bound.proofs.Adding.{opened_more, opens_to_either}

abbrev pub settled : Content → Store
settled content = record { content = content; undecided = None }

abbrev pub pending_with : Content → Aaid → List Write → Store
pending_with content aaid writes = record { content = content; undecided = Some (record { aaid = aaid; writes = writes }) }

pub decides : (s : Store) (p : Pending) (f : List Write → Content) → s.undecided ≡ Some p → decided p.aaid s.undecided f ≡ Some (settled (f p.writes))
decides s p f is =
    ap (λ (o : Option Pending). decided p.aaid o f) is
    ∙ ap (λ (t : Bool). elim t as (λ _. Option Store) [ true ↦ Some (settled (f p.writes)) | false ↦ None ]) (aaid_self p.aaid)

pub keep_leads : (s : Store) (p : Pending) (place bytes : ℕ) → s.undecided ≡ Some p → with_body place bytes (Body.Keep p.aaid) s ≡ Some (settled (made s.content p.writes))
keep_leads s p place bytes is = decides s p (made s.content) is

pub drop_leads : (s : Store) (p : Pending) (place bytes : ℕ) → s.undecided ≡ Some p → with_body place bytes (Body.Drop p.aaid) s ≡ Some (settled s.content)
drop_leads s p place bytes is = decides s p (λ writes. s.content) is

pub bind_leads : (s : Store) (aaid : Aaid) (writes : List Write) (place bytes : ℕ) → s.undecided ≡ None → has_room place bytes ≡ true → with_body place bytes (Body.Bind aaid writes) s ≡ Some (pending_with s.content aaid writes)
bind_leads s aaid writes place bytes none room =
    ap (λ (t : Bool). bound aaid writes t s) room
    ∙ ap (λ (o : Option Pending). elim o as (λ _. Option Store) [ Some p ↦ None | None ↦ Some (pending_with s.content aaid writes) ]) none

taken_is : (place : ℕ) (text : List ℕ) (b : Body) (s u : Store) → body_in text ≡ Some b → with_body place (length text) b s ≡ Some u → taken place text s ≡ Some u
taken_is place text b s u is leads = ap (λ (o : Option Body). elim o as (λ _. Option Store) [ None ↦ None | Some body ↦ with_body place (length text) body s ]) is ∙ leads

-- the log with the body opens to the store that it leads to
pub opens_with : (bodies : List (List ℕ)) (text : List ℕ) (b : Body) (s u : Store) (gate : ℕ) → gate ≡ place_behind bodies → opened bodies ≡ Stands s
    → body_in text ≡ Some b → with_body gate (length text) b s ≡ Some u → opened (bodies ++ text ∷ []) ≡ Stands u
opens_with bodies text b s u gate at is read leads = opened_more bodies text s u gate at is (taken_is gate text b s u read leads)

-- ---- what a stop leaves

weakened : (P Q : List ℕ → Type 0) → ((c : List ℕ) → P c → Q c) → (before after : Option Story) → LeavesOnly P before after → LeavesOnly Q before after
weakened P Q f None after x = x
weakened P Q f (Some old) after x = (x.0, x.1, record { changes = x.2.changes; from = x.2.from; each = λ k within c image. f c (x.2.each k within c image) })

pub images_open : (bodies : List (List ℕ)) (text : List ℕ) (s u : Store) (before after : Option Story) → opened bodies ≡ Stands s → opened (bodies ++ text ∷ []) ≡ Stands u
    → LeavesOnly (StandsForEither bodies (bodies ++ text ∷ [])) before after → LeavesOnly (OpensToEither s.content u.content) before after
images_open bodies text s u before after is then leaves =
    weakened (StandsForEither bodies (bodies ++ text ∷ [])) (OpensToEither s.content u.content) (λ c x. opens_to_either bodies text s u c is then x) before after leaves

-- a log whose disk has not failed opens to its content, and a call that leaves the disk alone leaves it so
stays_on : (story : Story) (gate : ℕ) (bodies : List (List ℕ)) (s : Store) (other : Content) → RestsAt (Some story) gate bodies → opened bodies ≡ Stands s
    → LeavesOnly (OpensToEither s.content other) (Some story) (Some story)
stays_on story gate bodies s other rests is =
    let opens : (c : List ℕ) → IsImage story c → OpensToEither s.content other c = λ c image.
    let same : c ≡ rests.file = rests.on.0 c image ∙ rests.on.1 in
    inl (bodies, inl (subst (λ (f : List ℕ). StandsInFront f bodies) (sym same) rests.stands), s, is, refl) in
    (story, refl, started (OpensToEither s.content other) story opens)

pub stays_open : (told : Option Story) (gate : ℕ) (bodies : List (List ℕ)) (shut : Option ℕ) (s : Store) (other : Content) → IsStarted told gate bodies shut → opened bodies ≡ Stands s
    → shut ≡ None → (story : Story) → told ≡ Some story → LeavesOnly (OpensToEither s.content other) told told
stays_open told gate bodies (Some n) s other x is running story on = absurd cc
stays_open told gate bodies None s other x is running story on = go x.kept
  where
    go : (told ≡ None) ⊎ RestsAt told gate bodies → LeavesOnly (OpensToEither s.content other) told told
    go (inl none) = let e : Some story ≡ None = sym on ∙ none in absurd cc
    go (inr rests) =
        subst (λ (t : Option Story). LeavesOnly (OpensToEither s.content other) t t) (sym on)
        (stays_on story gate bodies s other (subst (λ (t : Option Story). RestsAt t gate bodies) on rests) is)

-- a call that leaves the disk alone
pub throughout : {D : Type 0} (w : Wish) (old : Standing D) (before after : Option Story) → IsStarted before old.gate old.bodies old.shut → opened old.bodies ≡ Stands old.store → after ≡ before
    → OpensThroughout w old before after
throughout w old before after started is same = λ unshut story on.
    let other : Content = content_with old.store.content old.store.undecided w in
    subst (λ (t : Option Story). LeavesOnly (OpensToEither old.store.content other) before t) (sym same) (stays_open before old.gate old.bodies old.shut old.store other started is unshut story on)

-- ---- a body that was added

pub added_opens : (old new : Face) (text : List ℕ) (b : Body) (s u : Store) → Appended old text new true → old.gate ≡ place_behind old.bodies → opened old.bodies ≡ Stands s
    → body_in text ≡ Some b → with_body old.gate (length text) b s ≡ Some u → opened new.bodies ≡ Stands u
added_opens old new text b s u x at is read leads =
    ap opened x.bodies ∙ opens_with old.bodies text b s u old.gate at is read leads

-- whether it was added or the disk failed, the images open to what stood or to what it leads to
pub adding_opens : {D : Type 0} (w : Wish) (old : Standing D) (text : List ℕ) (b : Body) (u : Store) (before after : Option Story) → old.gate ≡ place_behind old.bodies → opened old.bodies ≡ Stands old.store
    → body_in text ≡ Some b → with_body old.gate (length text) b old.store ≡ Some u → content_with old.store.content old.store.undecided w ≡ u.content
    → (old.shut ≡ None → (s : Story) → before ≡ Some s → LeavesOnly (StandsForEither old.bodies (old.bodies ++ text ∷ [])) before after) → OpensThroughout w old before after
adding_opens w old text b u before after at is read leads content leaves = λ unshut story on.
    let later : opened (old.bodies ++ text ∷ []) ≡ Stands u = opens_with old.bodies text b old.store u old.gate at is read leads in
    subst (λ (c : Content). LeavesOnly (OpensToEither old.store.content c) before after) (sym content)
    (images_open old.bodies text old.store u before after is later (leaves unshut story on))

-- what is added for a vote
pub vote_adds : (gate : ℕ) (g : Gathered) → g.spoilt ≡ false → has_room gate (length (body_bytes (Body.Bind g.aaid g.writes))) ≡ true
    → preparing gate (Some g) ≡ Adds (Body.Bind g.aaid g.writes) (Some Request.Commit) (Some Request.Rollback) None
vote_adds gate g sound room =
    let rollback : Wish = Answers (Some Request.Rollback) (Some g) in
    let fits : Bool = has_room gate (length (body_bytes (Body.Bind g.aaid g.writes))) in
    ap (λ (t : Bool). elim t as (λ _. Wish) [ true ↦ rollback | false ↦ binding g fits ]) sound ∙ ap (λ (t : Bool). binding g t) room

pub has_its_room : (place bytes n : ℕ) (fits : Bool) → fits ≡ true → n ≡ bytes → (IsTrue fits ↔ (place + 4 + (n + 256) ≤ most_bytes)) → has_room place bytes ≡ true
has_its_room place bytes n fits so same says = go (place + 4 + bytes + 256) (omega (arith, says.0 so, same))
  where
    go : (n : ℕ) → n ≤ most_bytes → nat_le n most_bytes ≡ true
    go n le = grind (arith, nat_tests)

-- a call that left the disk alone, or whose images open throughout
pub opens_still : {D : Type 0} (told : D → Option Story) (w : Wish) (b old : Standing D) (disk : D) → b ≡ old → IsStarted (told b.disk) b.gate b.bodies b.shut → opened b.bodies ≡ Stands b.store
    → ((disk ≡ old.disk) ⊎ OpensThroughout w old (told old.disk) (told disk)) → OpensThroughout w old (told old.disk) (told disk)
opens_still told w b old disk is started opens (inr x) = x
opens_still {D} told w b old disk is started opens (inl same) =
    let on = subst (λ (o : Standing D). IsStarted (told o.disk) o.gate o.bodies o.shut × (opened o.bodies ≡ Stands o.store)) is (started, opens) in
    throughout w old (told old.disk) (told disk) on.0 on.1 (ap told same)
