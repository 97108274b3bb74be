-- A store whose disk does not fail holds the writes of the branches that were told commit.
use Rattle.std.proofs.Common.{◌≡◌, ℕ, Bool, true, false, cond, Option, Some, None, List, [], ◌∷◌, ◌++◌, length, refl, sym, ap, subst, ◌∙◌, append_assoc, append-nil}
use Rattle.tp_names.specs.declared.identifiers.Aaid.{Aaid}
use Rattle.tp_records.specs.declared.indication.Indication.{Indication}
use Rattle.tp_records.specs.declared.request.Request.{Request}
use Rattle.tp_bound.specs.declared.write.Write.{Write}
use Rattle.tp_bound.specs.Bodies.{body_bytes}
use Rattle.tp_bound.specs.declared.body.Body.{Body}
use Rattle.tp_bound.specs.declared.store.Store.{Store}
use Rattle.tp_bound.specs.Content.{Content, write_made, made}
use Rattle.tp_bound.specs.Gathered.{Gathered, none_yet, write_in, fits_beside, spoilt, with_write, with_data}
use Rattle.tp_bound.specs.Stores.{empty, has_room}
use Rattle.tp_bound.specs.Told.{Answers, binding, preparing, gathering}
use Rattle.tp_bound.specs.Says.{Speaker, Speaks}
use Rattle.tp_bound.specs.Kept.{Heard, Told, Reopened, Tally, nothing_heard, heard, tally_from, Hears, HearsAll}
use Rattle.tp_bound.specs.Branches.{Branch, one_write, written, is_told_commit, with_branch, committed, all_written, FollowVotes, OfBranches}
use Rattle.tp_bound.proofs.Hearing.{writes_of, tally, tally_of, is_heard, content_is_kept}

made_more : (c : Content) (ws more : List Write) → made (made c ws) more ≡ made c (ws ++ more)
made_more c [] more = refl
made_more c (w ∷ ws) more = made_more (write_made c w) ws more

-- ---- what the answers say of a transaction that goes on

-- a transaction that votes for commit goes on and is sound
abbrev IsSound : Tally → Heard → Type 0
IsSound t (Told Indication.Prepare (Some Request.Commit)) = (g : Gathered) × (t.current ≡ Some g) × (g.spoilt ≡ false)
IsSound t h = Unit {0}

abbrev AreSound : Tally → List Heard → Type 0
AreSound t [] = Unit {0}
AreSound t (h ∷ hs) = IsSound t h × AreSound (heard t h) hs

vote_is_sound : (old new : Speaker) (current : Option Gathered) → old.current ≡ current → Speaks (preparing old.gate current) old (Some Request.Commit) new → (g : Gathered) × (old.current ≡ Some g) × (g.spoilt ≡ false)
vote_is_sound old new None is x = absurd cc
vote_is_sound old new (Some g) is x = go g.spoilt refl x
  where
    go : (t : Bool) → g.spoilt ≡ t → Speaks (elim t [ true ↦ Answers (Some Request.Rollback) (Some g) | false ↦ binding g (has_room old.gate (length (body_bytes (Body.Bind g.aaid g.writes)))) ]) old (Some Request.Commit) new
        → (g : Gathered) × (old.current ≡ Some g) × (g.spoilt ≡ false)
    go true e y = absurd cc
    go false e y = (g, is, e)

is_sound : (old new : Speaker) (h : Heard) → Hears old h new → IsSound (tally_of old) h
is_sound old new (Told Indication.Prepare (Some Request.Commit)) x = vote_is_sound old new old.current refl x.0
is_sound old new h x = tt

are_sound : (old last : Speaker) (hs : List Heard) → HearsAll old hs last → AreSound (tally_of old) hs
are_sound old last [] x = tt
are_sound old last (h ∷ hs) x = (is_sound old x.0 h x.1, subst (λ (t : Tally). AreSound t hs) (is_heard old x.0 h x.1) (are_sound x.0 last hs x.2))

-- ---- a transaction that cannot vote for commit is not told commit

abbrev IsUnsound : Option Gathered → Type 0
IsUnsound None = Unit {0}
IsUnsound (Some g) = g.spoilt ≡ true

abbrev added_as : Gathered → Option Write → Bool → Gathered
added_as g o fits = elim o [ None ↦ spoilt g | Some w ↦ with_write g w fits ]

stays_spoilt : (g : Gathered) (o : Option Write) (fits : Bool) → g.spoilt ≡ true → (added_as g o fits).spoilt ≡ true
stays_spoilt g None fits is = refl
stays_spoilt g (Some w) true is = is
stays_spoilt g (Some w) false is = refl

stays_unsound : (current : Option Gathered) (xs : List ℕ) → IsUnsound current → IsUnsound (gathering current xs)
stays_unsound None xs is = tt
stays_unsound (Some g) xs is = stays_spoilt g (write_in xs) (fits_beside g.writes (length xs)) is

no_vote : {A : Type 0} (current : Option Gathered) → IsUnsound current → ((g : Gathered) × (current ≡ Some g) × (g.spoilt ≡ false)) → A
no_vote None is x = absurd cc
no_vote (Some g) is x = absurd cc

not_told : (c : Content) (current : Option Gathered) → IsUnsound current → (hs : List Heard) → AreSound (tally c None current) hs → FollowVotes false hs → is_told_commit hs ≡ false
not_told c current is [] x f = refl
not_told c current is (Reopened ∷ hs) x f = not_told c None tt hs x.1 f.1
not_told c current is (Told (Indication.UserData p xs) answer ∷ hs) x f = not_told c (gathering current xs) (stays_unsound current xs is) hs x.1 f.1
not_told c current is (Told (Indication.BeginTransaction p aaid) answer ∷ hs) x f = refl
not_told c current is (Told Indication.Prepare (Some Request.Commit) ∷ hs) x f = no_vote current is x.0
not_told c current is (Told Indication.Commit answer ∷ hs) x f = absurd cc
not_told c current is (Told Indication.Rollback answer ∷ hs) x f = not_told c None tt hs x.1 f.1
not_told c current is (h ∷ hs) x f = not_told c current is hs x.1 f.1

-- ---- the content

-- what a branch adds, if it is told commit, and those after it
abbrev owed : Bool → List Write → List Branch → List Write
owed told ws bs = cond told ws [] ++ all_written bs

begun : (told : Bool) (b : Branch) (bs : List Branch) → owed told b.writes bs ≡ all_written (with_branch told b bs)
begun true b bs = refl
begun false b bs = refl

unowed : (told : Bool) (ws : List Write) (bs : List Branch) → told ≡ false → all_written bs ≡ owed told ws bs
unowed true ws bs is = absurd cc
unowed false ws bs is = refl

more_data : (g : Gathered) (o : Option Write) (fits : Bool) (more : List Write) (told : Bool) → ((added_as g o fits).spoilt ≡ true → told ≡ false)
    → cond told ((added_as g o fits).writes ++ more) [] ≡ cond told (g.writes ++ (one_write o ++ more)) []
more_data g o fits more false unless = refl
more_data g None fits more true unless = let e : true ≡ false = unless refl in absurd cc
more_data g (Some w) true more true unless = append_assoc g.writes (w ∷ []) more
more_data g (Some w) false more true unless = let e : true ≡ false = unless refl in absurd cc

-- no branch goes on, and none is bound
abbrev WithNothing : List Heard → Type 0
WithNothing hs = (c : Content) (voted : Bool) → AreSound (tally c None None) hs → FollowVotes voted hs → (tally_from (tally c None None) hs).content ≡ made c (all_written (committed hs))

-- a branch goes on
abbrev WithCurrent : List Heard → Type 0
WithCurrent hs = (c : Content) (g : Gathered) → AreSound (tally c None (Some g)) hs → FollowVotes false hs
    → (tally_from (tally c None (Some g)) hs).content ≡ made c (owed (is_told_commit hs) (g.writes ++ written hs) (committed hs))

-- a branch is bound
abbrev WithBind : List Heard → Type 0
WithBind hs = (c : Content) (ws : List Write) → AreSound (tally c (Some ws) None) hs → FollowVotes true hs
    → (tally_from (tally c (Some ws) None) hs).content ≡ made c (owed (is_told_commit hs) ws (committed hs))

record Holds (hs : List Heard) : Type 0 where
  pub nothing : WithNothing hs
  pub current : WithCurrent hs
  pub bind : WithBind hs

begins : (c : Content) (aaid : Aaid) (hs : List Heard) → Holds hs → AreSound (tally c None (Some (none_yet aaid))) hs → FollowVotes false hs
    → (tally_from (tally c None (Some (none_yet aaid))) hs).content ≡ made c (all_written (with_branch (is_told_commit hs) (record { aaid = aaid; writes = written hs }) (committed hs)))
begins c aaid hs on x f =
    on.current c (none_yet aaid) x f ∙ ap (made c) (begun (is_told_commit hs) (record { aaid = aaid; writes = written hs }) (committed hs))

-- what was written and is not told commit is not made
ends : (c : Content) (ws : List Write) (hs : List Heard) → Holds hs → AreSound (tally c None None) hs → FollowVotes false hs → (tally_from (tally c None None) hs).content ≡ made c (owed (is_told_commit hs) ws (committed hs))
ends c ws hs on x f = on.nothing c false x f ∙ ap (made c) (unowed (is_told_commit hs) ws (committed hs) (not_told c None tt hs x f))

with_nothing : (h : Heard) (hs : List Heard) → Holds hs → WithNothing (h ∷ hs)
with_nothing (Told (Indication.BeginTransaction p aaid) answer) hs on c voted x f = begins c aaid hs on x.1 f.1
with_nothing (Told Indication.Prepare (Some Request.Commit)) hs on c voted x f = no_vote None tt x.0
with_nothing (Told Indication.Rollback answer) hs on c voted x f = on.nothing c false x.1 f.1
with_nothing h hs on c voted x f = on.nothing c voted x.1 f.1

with_data_more : (c : Content) (g : Gathered) (xs : List ℕ) (hs : List Heard) → Holds hs → AreSound (tally c None (Some (with_data g xs))) hs → FollowVotes false hs
    → (tally_from (tally c None (Some (with_data g xs))) hs).content ≡ made c (owed (is_told_commit hs) (g.writes ++ (one_write (write_in xs) ++ written hs)) (committed hs))
with_data_more c g xs hs on x f =
    on.current c (with_data g xs) x f
    ∙ ap (λ (ws : List Write). made c (ws ++ all_written (committed hs)))
    (more_data g (write_in xs) (fits_beside g.writes (length xs)) (written hs) (is_told_commit hs) (λ is. not_told c (Some (with_data g xs)) is hs x f))

with_current : (h : Heard) (hs : List Heard) → Holds hs → WithCurrent (h ∷ hs)
with_current (Told (Indication.UserData p xs) answer) hs on c g x f = with_data_more c g xs hs on x.1 f.1
with_current (Told (Indication.BeginTransaction p aaid) answer) hs on c g x f = begins c aaid hs on x.1 f.1
with_current (Told Indication.Prepare (Some Request.Commit)) hs on c g x f =
    on.bind c g.writes x.1 f.1 ∙ ap (λ (ws : List Write). made c (owed (is_told_commit hs) ws (committed hs))) (sym (append-nil g.writes))
with_current (Told Indication.Commit answer) hs on c g x f = absurd cc
with_current (Told Indication.Rollback answer) hs on c g x f = ends c (g.writes ++ written hs) hs on x.1 f.1
with_current Reopened hs on c g x f = ends c (g.writes ++ written hs) hs on x.1 f.1
with_current h hs on c g x f = on.current c g x.1 f.1

with_bind : (h : Heard) (hs : List Heard) → Holds hs → WithBind (h ∷ hs)
with_bind (Told (Indication.BeginTransaction p aaid) answer) hs on c ws x f = begins c aaid hs on x.1 f.1
with_bind (Told Indication.Prepare (Some Request.Commit)) hs on c ws x f = no_vote None tt x.0
with_bind (Told Indication.Commit answer) hs on c ws x f = on.nothing (made c ws) true x.1 f.1 ∙ made_more c ws (all_written (committed hs))
with_bind (Told Indication.Rollback answer) hs on c ws x f = ends c ws hs on x.1 f.1
with_bind h hs on c ws x f = on.bind c ws x.1 f.1

holds : (hs : List Heard) → Holds hs
holds [] = record { nothing = λ c voted x f. refl; current = λ c g x f. refl; bind = λ c ws x f. refl }
holds (h ∷ hs) = record { nothing = with_nothing h hs (holds hs); current = with_current h hs (holds hs); bind = with_bind h hs (holds hs) }

pub content_is_of_branches : (first last : Speaker) (hs : List Heard) → first.store ≡ empty → first.current ≡ None → HearsAll first hs last → OfBranches hs → last.store.content ≡ made [] (all_written (committed hs))
content_is_of_branches first last hs none no_current x f =
    let begin : tally_of first ≡ nothing_heard = ap (λ (s : Store). tally s.content (writes_of s.undecided) first.current) none ∙ ap (λ (g : Option Gathered). tally [] None g) no_current in
    content_is_kept first last hs none no_current x ∙ (holds hs).nothing [] false (subst (λ (t : Tally). AreSound t hs) begin (are_sound first last hs x)) f
