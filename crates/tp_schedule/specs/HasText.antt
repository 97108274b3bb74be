-- Which lines of a schedule have a text: those whose numbers, sites, units and octets the words of a line can say.
use Rattle.std.specs.Prelude.{ℕ, ◌&&◌, Bool, true, Option, Some, None, List, length, nat_le, nat_lt}
use Rattle.tp_names.specs.Bytes.{all_bytes, is_site_name}
use Rattle.tp_model.specs.declared.line.LineRequest.{LineRequest}
use Rattle.tp_model.specs.declared.line.Action.{Action}
use Rattle.tp_model.specs.declared.line.Line.{Line}

-- a node, a frame, a member
abbrev pub is_number : ℕ → Bool
is_number n = nat_le 1 n && nat_le n 65535

abbrev pub is_byte : ℕ → Bool
is_byte b = nat_lt b 256

-- some of the six units
abbrev pub are_units : ℕ → Bool
are_units u = nat_le 1 u && nat_lt u 64

abbrev pub are_octets : List ℕ → Bool
are_octets xs = nat_le (length xs) 2000 && all_bytes is_byte xs

abbrev pub request_has_text : LineRequest → Bool
request_has_text (LineRequest.BeginDialogue p u) = is_number p && are_units u
request_has_text (LineRequest.Accept u) = are_units u
request_has_text LineRequest.Reject = true
request_has_text (LineRequest.EndDialogue p) = is_number p
request_has_text (LineRequest.UserData p xs) = is_number p && are_octets xs
request_has_text (LineRequest.UError p) = is_number p
request_has_text (LineRequest.UAbort p) = is_number p
request_has_text (LineRequest.Grant p) = is_number p
request_has_text (LineRequest.AskControl p) = is_number p
request_has_text (LineRequest.Handshake p) = is_number p
request_has_text (LineRequest.Respond p) = is_number p
request_has_text (LineRequest.HandshakeGrant p) = is_number p
request_has_text (LineRequest.BeginTransaction p) = is_number p
request_has_text (LineRequest.DeferEnd p) = is_number p
request_has_text (LineRequest.DeferGrant p) = is_number p
request_has_text (LineRequest.Prepare p) = is_number p
request_has_text LineRequest.Commit = true
request_has_text LineRequest.Done = true
request_has_text LineRequest.Rollback = true
request_has_text LineRequest.Unchanged = true

abbrev pub action_has_text : Action → Bool
action_has_text (Action.Do n r) = is_number n && request_has_text r
action_has_text (Action.Pass a b) = is_number a && is_number b
action_has_text (Action.Again k) = is_number k
action_has_text (Action.Lose n p) = is_number n && is_number p
action_has_text (Action.Heur n o) = is_number n
action_has_text (Action.GiveUp n p) = is_number n && is_number p
action_has_text (Action.Retry n) = is_number n
action_has_text (Action.Purge n) = is_number n

abbrev pub under_has_text : Option ℕ → Bool
under_has_text None = true
under_has_text (Some p) = is_number p

abbrev pub line_has_text : Line → Bool
line_has_text (Line.Node n s p) = is_number n && is_site_name s && under_has_text p
line_has_text (Line.Do n r) = is_number n && request_has_text r
line_has_text (Line.Pass a b) = is_number a && is_number b
line_has_text (Line.Skip a b) = is_number a && is_number b
line_has_text (Line.Again k) = is_number k
line_has_text Line.Drain = true
line_has_text (Line.Lose n p) = is_number n && is_number p
line_has_text (Line.Heur n o) = is_number n
line_has_text (Line.GiveUp n p) = is_number n && is_number p
line_has_text (Line.Retry n) = is_number n
line_has_text (Line.Purge n) = is_number n
line_has_text (Line.Crash s) = is_site_name s
line_has_text (Line.CrashIn s k x l) = is_site_name s && nat_le 1 k && nat_le k 99 && is_byte x && action_has_text l
line_has_text (Line.Show n) = is_number n
line_has_text (Line.Image s) = is_site_name s
line_has_text (Line.Auto n k) = is_number n && is_number k
line_has_text (Line.Leave k) = is_number k
