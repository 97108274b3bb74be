use Rattle.std.proofs.Common.{◌≡◌, ℕ, Bool, true, false, Option, Some, None, List, [], ◌∷◌, ◌++◌, refl, ap, sym, ◌∙◌}
use Rattle.tp_names.specs.Same.{is_name}
use Rattle.tp_schedule.specs.Keywords.{named, request_word_text, request_word_list}
use Rattle.tp_schedule.specs.declared.schedule_words.PeerRequest.{PeerRequest}
use Rattle.tp_schedule.specs.declared.schedule_words.RequestWord.{RequestWord}
use Rattle.tp_schedule.proofs.schedule_words.request_word.Goals as goal

abbrev first_list : List RequestWord
first_list =
    RequestWord.BeginDialogue
    ∷ RequestWord.Accept
    ∷ RequestWord.Reject
    ∷ RequestWord.OfPeer PeerRequest.EndDialogue
    ∷ RequestWord.UserData
    ∷ RequestWord.OfPeer PeerRequest.UError
    ∷ RequestWord.OfPeer PeerRequest.UAbort
    ∷ RequestWord.OfPeer PeerRequest.Grant
    ∷ RequestWord.OfPeer PeerRequest.AskControl
    ∷ []

abbrev other_list : List RequestWord
other_list =
    RequestWord.OfPeer PeerRequest.Handshake
    ∷ RequestWord.OfPeer PeerRequest.Respond
    ∷ RequestWord.OfPeer PeerRequest.HandshakeGrant
    ∷ RequestWord.OfPeer PeerRequest.BeginTransaction
    ∷ RequestWord.OfPeer PeerRequest.DeferEnd
    ∷ RequestWord.OfPeer PeerRequest.DeferGrant
    ∷ RequestWord.OfPeer PeerRequest.Prepare
    ∷ RequestWord.Commit
    ∷ RequestWord.Done
    ∷ RequestWord.Rollback
    ∷ RequestWord.Unchanged
    ∷ []

-- the first answer, or the second where there is none
abbrev or_else : Option RequestWord → Option RequestWord → Option RequestWord
or_else None second = second
or_else (Some k) second = Some k

named_both : (xs ys : List RequestWord) (w : List ℕ)
    → named request_word_text (xs ++ ys) w ≡ or_else (named request_word_text xs w) (named request_word_text ys w)
named_both [] ys w = refl
named_both (x ∷ xs) ys w = go (is_name (request_word_text x) w) (named_both xs ys w)
  where
    go : (b : Bool)
        → named request_word_text (xs ++ ys) w ≡ or_else (named request_word_text xs w) (named request_word_text ys w)
        → elim b as (λ _. Option RequestWord) [ true ↦ Some x | false ↦ named request_word_text (xs ++ ys) w ]
        ≡ or_else (elim b as (λ _. Option RequestWord) [ true ↦ Some x | false ↦ named request_word_text xs w ]) (named request_word_text ys w)
    go true rest = refl
    go false rest = rest

both : (w : List ℕ) (o : Option RequestWord) → o ≡ named request_word_text first_list w
    → named request_word_text request_word_list w ≡ or_else o (named request_word_text other_list w)
both w o is = named_both first_list other_list w ∙ ap (λ (p : Option RequestWord). or_else p (named request_word_text other_list w)) (sym is)

last : (w : List ℕ) (o s : Option RequestWord) → o ≡ named request_word_text first_list w → ((k : RequestWord) → o ≡ Some k → ⊥)
    → s ≡ named request_word_text other_list w → s ≡ named request_word_text request_word_list w
last w None s is none second = second ∙ sym (both w None is)
last w (Some k) s is none second = absurd (none k refl)

pub returns-in-Some : goal.returns-in-Some
returns-in-Some c = sym (both c.args.word.now (Some c.in-Some.request) (sym c.in-Some.is ∙ c.find.ensures))

pub returns : goal.returns
returns c = last c.args.word.now c.find.result c.find-2.result c.find.ensures c.in_default.not-Some c.find-2.ensures
