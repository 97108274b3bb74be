-- A store whose disk does not fail holds what was kept of what it heard.
use Rattle.std.proofs.Common.{◌≡◌, inl, inr, Bool, true, false, Option, Some, None, List, [], ◌∷◌, length, refl, sym, ap, ◌∙◌}
use Rattle.std.specs.Option.{option_map}
use Rattle.tp_records.specs.declared.indication.Indication.{Indication}
use Rattle.tp_records.specs.declared.request.Request.{Request}
use Rattle.tp_bound.specs.declared.write.Write.{Write}
use Rattle.tp_bound.specs.declared.body.Body.{Body}
use Rattle.tp_bound.specs.declared.store.Pending.{Pending}
use Rattle.tp_bound.specs.declared.store.Store.{Store}
use Rattle.tp_bound.specs.Bodies.{body_bytes}
use Rattle.tp_bound.specs.Content.{Content, made}
use Rattle.tp_bound.specs.Gathered.{Gathered, none_yet}
use Rattle.tp_bound.specs.Stores.{empty, bound, decided, has_room}
use Rattle.tp_bound.specs.Told.{Answers, dropping, keeping, binding, preparing}
use Rattle.tp_bound.specs.Says.{Speaker, Fails, Speaks, gathered}
use Rattle.tp_bound.specs.Kept.{Heard, Told, Reopened, Tally, kept_writes, vote_heard, heard, tally_from, kept, Hears, HearsAll}
use Rattle.tp_bound.proofs.Telling.{settled, pending_with, decides}

abbrev pub writes_of : Option Pending → Option (List Write)
writes_of u = option_map (λ (p : Pending). p.writes) u

-- what a store holds, as what it has heard has come to
abbrev pub tally_of : Speaker → Tally
tally_of s = record { content = s.store.content; voted = writes_of s.store.undecided; current = s.current }

abbrev pub tally : Content → Option (List Write) → Option Gathered → Tally
tally content voted current = record { content = content; voted = voted; current = current }

-- the tally of a store with this current
abbrev at_store : Store → Option Gathered → Tally
at_store s current = tally s.content (writes_of s.undecided) current

some_store : (s t : Store) → Some s ≡ Some t → s ≡ t
some_store s t same = cc

-- ---- a decision

decided_store : (s t : Store) (p : Pending) (f : List Write → Content) → s.undecided ≡ Some p → decided p.aaid s.undecided f ≡ Some t → t ≡ settled (f p.writes)
decided_store s t p f is leads = some_store t (settled (f p.writes)) (sym leads ∙ decides s p f is)

no_fault : {A : Type 0} (old new : Speaker) → Fails old new → new.shut ≡ None → A
no_fault old new x none = let e : Some x.shut.0 ≡ None = sym x.shut.1 ∙ none in absurd cc

drop_heard : (old new : Speaker) (told answer : Option Request) (current : Option Gathered) (u : Option Pending) → old.store.undecided ≡ u
    → Speaks (dropping u answer current) old told new → new.shut ≡ None → tally_of new ≡ tally old.store.content None current
drop_heard old new told answer current None is x running =
    ap tally_of x.1 ∙ ap (λ (o : Option Pending). tally old.store.content (writes_of o) current) is
drop_heard old new told answer current (Some p) is (inl x) running =
    let same : new.store ≡ settled old.store.content = decided_store old.store new.store p (λ writes. old.store.content) is x.1.store in
    ap (λ (s : Store). at_store s new.current) same ∙ ap (λ (g : Option Gathered). tally old.store.content None g) x.1.current_is
drop_heard old new told answer current (Some p) is (inr x) running = no_fault old new x.1 running

keep_heard : (old new : Speaker) (told : Option Request) (u : Option Pending) → old.store.undecided ≡ u
    → Speaks (keeping u old.current) old told new → new.shut ≡ None → tally_of new ≡ tally (kept_writes old.store.content (writes_of u)) None old.current
keep_heard old new told None is x running =
    ap tally_of x.1 ∙ ap (λ (o : Option Pending). tally old.store.content (writes_of o) old.current) is
keep_heard old new told (Some p) is (inl x) running =
    let same : new.store ≡ settled (made old.store.content p.writes) = decided_store old.store new.store p (made old.store.content) is x.1.store in
    ap (λ (s : Store). at_store s new.current) same ∙ ap (λ (g : Option Gathered). tally (made old.store.content p.writes) None g) x.1.current_is
keep_heard old new told (Some p) is (inr x) running = no_fault old new x.1 running

-- ---- a vote

bound_store : (s t : Store) (g : Gathered) (room : Bool) → bound g.aaid g.writes room s ≡ Some t → t ≡ pending_with s.content g.aaid g.writes
bound_store s t g room leads = go s.undecided refl room leads
  where
    go : (u : Option Pending) → s.undecided ≡ u → (r : Bool)
        → (elim u as (λ _. Option Store) [ Some p ↦ None | None ↦ elim r as (λ _. Option Store) [ true ↦ Some (pending_with s.content g.aaid g.writes) | false ↦ None ] ]) ≡ Some t
        → t ≡ pending_with s.content g.aaid g.writes
    go None is true h = sym (some_store (pending_with s.content g.aaid g.writes) t h)
    go None is false h = absurd cc
    go (Some p) is r h = absurd cc

stays_heard : (old new : Speaker) (current : Option Gathered) (told : Option Request) → old.current ≡ current → told ≡ Some Request.Rollback → new ≡ gathered old current
    → tally_of new ≡ vote_heard (tally_of old) told
stays_heard old new current told is says same =
    ap tally_of same ∙ ap (λ (g : Option Gathered). at_store old.store g) (sym is) ∙ ap (λ (o : Option Request). vote_heard (tally_of old) o) (sym says)

bind_heard : (old new : Speaker) (g : Gathered) (told : Option Request) (room : Bool) → old.current ≡ Some g → Speaks (binding g room) old told new → new.shut ≡ None
    → tally_of new ≡ vote_heard (tally_of old) told
bind_heard old new g told true is (inl x) running =
    let room : Bool = has_room old.gate (length (body_bytes (Body.Bind g.aaid g.writes))) in
    let same : new.store ≡ pending_with old.store.content g.aaid g.writes = bound_store old.store new.store g room x.1.store in
    ap (λ (s : Store). at_store s new.current) same ∙ ap (λ (c : Option Gathered). tally old.store.content (Some g.writes) c) x.1.current_is
    ∙ ap (λ (c : Option Gathered). vote_heard (at_store old.store c) (Some Request.Commit)) (sym is) ∙ ap (λ (o : Option Request). vote_heard (tally_of old) o) (sym x.0)
bind_heard old new g told true is (inr x) running = no_fault old new x.1 running
bind_heard old new g told false is x running = stays_heard old new (Some g) told is x.0 x.1

vote_is_heard : (old new : Speaker) (current : Option Gathered) (told : Option Request) → old.current ≡ current → Speaks (preparing old.gate current) old told new → new.shut ≡ None
    → tally_of new ≡ vote_heard (tally_of old) told
vote_is_heard old new None told is x running = stays_heard old new None told is x.0 x.1
vote_is_heard old new (Some g) told is x running = go g.spoilt x
  where
    go : (t : Bool) → Speaks (elim t [ true ↦ Answers (Some Request.Rollback) (Some g) | false ↦ binding g (has_room old.gate (length (body_bytes (Body.Bind g.aaid g.writes)))) ]) old told new
        → tally_of new ≡ vote_heard (tally_of old) told
    go true y = stays_heard old new (Some g) told is y.0 y.1
    go false y = bind_heard old new g told (has_room old.gate (length (body_bytes (Body.Bind g.aaid g.writes)))) is y running

-- ---- one after the other

indication_is_heard : (old new : Speaker) (ind : Indication) (answer : Option Request) → Hears old (Told ind answer) new → tally_of new ≡ heard (tally_of old) (Told ind answer)
indication_is_heard old new (Indication.BeginTransaction p aaid) answer x = drop_heard old new answer None (Some (none_yet aaid)) old.store.undecided refl x.0 x.1
indication_is_heard old new Indication.Prepare answer x = vote_is_heard old new old.current answer refl x.0 x.1
indication_is_heard old new Indication.Commit answer x = keep_heard old new answer old.store.undecided refl x.0 x.1
indication_is_heard old new Indication.Rollback answer x = drop_heard old new answer (Some Request.Done) None old.store.undecided refl x.0 x.1
indication_is_heard old new _ answer x = ap tally_of x.0.1

pub is_heard : (old new : Speaker) (h : Heard) → Hears old h new → tally_of new ≡ heard (tally_of old) h
is_heard old new (Told ind answer) x = indication_is_heard old new ind answer x
is_heard old new Reopened x = ap (λ (s : Store). at_store s new.current) x.store ∙ ap (λ (c : Option Gathered). at_store old.store c) x.none_current

all_heard : (old new : Speaker) (hs : List Heard) → HearsAll old hs new → tally_of new ≡ tally_from (tally_of old) hs
all_heard old new [] x = ap tally_of x
all_heard old new (h ∷ hs) x = all_heard x.0 new hs x.2 ∙ ap (λ (t : Tally). tally_from t hs) (is_heard old x.0 h x.1)

pub content_is_kept : (first last : Speaker) (hs : List Heard) → first.store ≡ empty → first.current ≡ None → HearsAll first hs last → last.store.content ≡ kept hs
content_is_kept first last hs none no_current x =
    ap (λ (t : Tally). t.content) (all_heard first last hs x) ∙ ap (λ (s : Store). (tally_from (at_store s first.current) hs).content) none
    ∙ ap (λ (c : Option Gathered). (tally_from (at_store empty c) hs).content) no_current
