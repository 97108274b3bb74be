-- The request of a line, as the node has it: the peer of a new dialogue has the address of its number.
use Rattle.std.specs.Prelude.{Option, Some, None, List}
use Rattle.tp_records.specs.declared.request.Request.{Request}
use Rattle.tp_model.specs.declared.line.LineRequest.{LineRequest}
use Rattle.tp_network.specs.Nodes.{address_at}
use Rattle.tp_network.specs.declared.nodes.NodeSlot.{NodeSlot}

-- one that wants no address; of another it says nothing
abbrev pub plain_request : LineRequest → Request
plain_request (LineRequest.BeginDialogue p u) = Request.Reject
plain_request (LineRequest.Accept u) = Request.Accept u
plain_request LineRequest.Reject = Request.Reject
plain_request (LineRequest.EndDialogue p) = Request.EndDialogue p
plain_request (LineRequest.UserData p xs) = Request.UserData p xs
plain_request (LineRequest.UError p) = Request.UError p
plain_request (LineRequest.UAbort p) = Request.UAbort p
plain_request (LineRequest.Grant p) = Request.Grant p
plain_request (LineRequest.AskControl p) = Request.AskControl p
plain_request (LineRequest.Handshake p) = Request.Handshake p
plain_request (LineRequest.Respond p) = Request.Respond p
plain_request (LineRequest.HandshakeGrant p) = Request.HandshakeGrant p
plain_request (LineRequest.BeginTransaction p) = Request.BeginTransaction p
plain_request (LineRequest.DeferEnd p) = Request.DeferEnd p
plain_request (LineRequest.DeferGrant p) = Request.DeferGrant p
plain_request (LineRequest.Prepare p) = Request.Prepare p
plain_request LineRequest.Commit = Request.Commit
plain_request LineRequest.Done = Request.Done
plain_request LineRequest.Rollback = Request.Rollback
plain_request LineRequest.Unchanged = Request.Unchanged

abbrev pub request_in : List NodeSlot → LineRequest → Option Request
request_in ns (LineRequest.BeginDialogue p u) = elim (address_at ns p) [ None ↦ None | Some a ↦ Some (Request.BeginDialogue a u) ]
request_in ns (LineRequest.Accept u) = Some (Request.Accept u)
request_in ns LineRequest.Reject = Some Request.Reject
request_in ns (LineRequest.EndDialogue p) = Some (Request.EndDialogue p)
request_in ns (LineRequest.UserData p xs) = Some (Request.UserData p xs)
request_in ns (LineRequest.UError p) = Some (Request.UError p)
request_in ns (LineRequest.UAbort p) = Some (Request.UAbort p)
request_in ns (LineRequest.Grant p) = Some (Request.Grant p)
request_in ns (LineRequest.AskControl p) = Some (Request.AskControl p)
request_in ns (LineRequest.Handshake p) = Some (Request.Handshake p)
request_in ns (LineRequest.Respond p) = Some (Request.Respond p)
request_in ns (LineRequest.HandshakeGrant p) = Some (Request.HandshakeGrant p)
request_in ns (LineRequest.BeginTransaction p) = Some (Request.BeginTransaction p)
request_in ns (LineRequest.DeferEnd p) = Some (Request.DeferEnd p)
request_in ns (LineRequest.DeferGrant p) = Some (Request.DeferGrant p)
request_in ns (LineRequest.Prepare p) = Some (Request.Prepare p)
request_in ns LineRequest.Commit = Some Request.Commit
request_in ns LineRequest.Done = Some Request.Done
request_in ns LineRequest.Rollback = Some Request.Rollback
request_in ns LineRequest.Unchanged = Some Request.Unchanged
