-- One end of an association, as its calls tell and change it. Which record is taken, and what taking it
-- does, stands with the definitions of the service.
use Rattle.std.specs.Prelude.{ℕ, suc, ◌-◌, ◌==◌, ◌≡◌, ◌&&◌, Bool, true, false, if◌then◌else◌, Option, Some, None, Result, Ok, Err}
use Rattle.std.proofs.Common.{refl, ap}
use Rattle.tp_names.specs.declared.identifiers.Mark.{Mark}
use Rattle.tp_names.specs.Same.{is_mark}
use Rattle.tp_model.specs.declared.refusal.Refusal.{Refusal}
use Rattle.tp_model.specs.Parts.{Link as LinkValue, Idle, Opening, Offered, Live}
use Rattle.tp_model.specs.Links.{greatest, is_opening_with}
use Rattle.tp_link.specs.declared.link.Link.TheInside.{Inside}
use Rattle.tp_link.specs.declared.link.End.{End}
use Rattle.tp_link.specs.declared.state.LinkState.{LinkState}
use Rattle.tp_link.specs.declared.dropped.Dropped.{Dropped}

-- ---- what an end keeps

abbrev pub link_of_end : End → LinkValue
link_of_end End.Idle = Idle
link_of_end (End.Opening x) = Opening x
link_of_end (End.Offered x) = Offered x
link_of_end (End.Live x y sent taken) = Live x y sent taken

abbrev pub end_of_link : LinkValue → End
end_of_link Idle = End.Idle
end_of_link (Opening x) = End.Opening x
end_of_link (Offered x) = End.Offered x
end_of_link (Live x y sent taken) = End.Live x y sent taken

abbrev pub link_of : Inside → LinkValue
link_of l = link_of_end l.end

abbrev pub inside_of : LinkValue → Inside
inside_of l = record { end = end_of_link l }

end_of_link-link_of_end : (e : End) → end_of_link (link_of_end e) ≡ e
end_of_link-link_of_end End.Idle = refl
end_of_link-link_of_end (End.Opening x) = refl
end_of_link-link_of_end (End.Offered x) = refl
end_of_link-link_of_end (End.Live x y sent taken) = refl

pub inside_of-link_of : (l : Inside) → inside_of (link_of l) ≡ l
inside_of-link_of l = let f : End → Inside = λ e. record { end = e } in ap f (end_of_link-link_of_end l.end)

-- ---- what it tells

abbrev pub state_of : LinkValue → LinkState
state_of Idle = LinkState.Idle
state_of (Opening x) = LinkState.Opening
state_of (Offered x) = LinkState.Offered
state_of (Live x y sent taken) = LinkState.Live

abbrev pub caller_mark : LinkValue → Option Mark
caller_mark Idle = None
caller_mark (Opening x) = Some x
caller_mark (Offered x) = Some x
caller_mark (Live x y sent taken) = Some x

abbrev pub answerer_mark : LinkValue → Option Mark
answerer_mark Idle = None
answerer_mark (Opening x) = None
answerer_mark (Offered x) = None
answerer_mark (Live x y sent taken) = Some y

-- how many records can still be sent
abbrev pub left_of : LinkValue → ℕ
left_of Idle = 0
left_of (Opening x) = 0
left_of (Offered x) = 0
left_of (Live x y sent taken) = greatest - sent

-- the refusal by which a call dropped a record
abbrev pub refusal_of : Dropped → Refusal
refusal_of Dropped.OldAssociation = Refusal.OldAssociation
refusal_of Dropped.OutOfOrder = Refusal.OutOfOrder

-- its number
abbrev pub refusal_answered : {A : Type 0} → Result A Dropped → Option Refusal
refusal_answered (Ok a) = None
refusal_answered (Err d) = Some (refusal_of d)

-- ---- what changes it

-- this end answers the call that was offered
abbrev pub with_answer : Mark → LinkValue → LinkValue
with_answer y Idle = Idle
with_answer y (Opening x) = Opening x
with_answer y (Offered x) = Live x y 0 0
with_answer y (Live x z sent taken) = Live x z sent taken

-- the peer answers the call with that mark; another one is an old association
abbrev pub bound_by : LinkValue → Mark → Mark → Option Refusal × LinkValue
bound_by l x y = if is_opening_with l x then (None, Live x y 0 0) else (Some Refusal.OldAssociation, l)

-- these are the pair and the number of the next record to be sent
abbrev pub is_next : LinkValue → Mark → Mark → ℕ → Bool
is_next Idle x y seq = false
is_next (Opening z) x y seq = false
is_next (Offered z) x y seq = false
is_next (Live z w sent taken) x y seq = is_mark z x && is_mark w y && (sent == seq)

abbrev pub with_one_sent : LinkValue → LinkValue
with_one_sent Idle = Idle
with_one_sent (Opening x) = Opening x
with_one_sent (Offered x) = Offered x
with_one_sent (Live x y sent taken) = Live x y (suc sent) taken
