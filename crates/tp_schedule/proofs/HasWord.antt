-- No request and no action is written without a word.
use Rattle.std.proofs.Common.{◌≡◌, true, refl}
use Rattle.tp_model.specs.declared.line.LineRequest.{LineRequest}
use Rattle.tp_model.specs.declared.line.Action.{Action}
use Rattle.tp_model.specs.LineText.{request_words, action_words}
use Rattle.tp_text_builder.proofs.Joined.{has_word}

pub request_has : (r : LineRequest) → has_word (request_words r) ≡ true
request_has LineRequest.Reject = refl
request_has _ = refl

pub action_has : (l : Action) → has_word (action_words l) ≡ true
action_has (Action.Again k) = refl
action_has _ = refl
