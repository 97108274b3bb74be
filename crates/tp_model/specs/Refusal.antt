-- The refusals by their names: the number of each, which the definitions of the service speak of, and how a call
-- answers by one. When each comes stands with what it refuses: `Dialogues`, `Requests`, `Transactions`, `Arrivals`.
use Rattle.std.specs.Prelude.{ℕ, ◌≡◌, Bool, true, false, Option, Some, None, Result, Ok, Err}
use Rattle.tp_model.specs.declared.refusal.Refusal.{Refusal}
use Rattle.tp_model.specs.declared.transaction.TxFault.{TxFault}

abbrev pub number_of : Refusal → ℕ
number_of Refusal.NoDialogue = 1
number_of Refusal.WrongPhase = 2
number_of Refusal.WrongControl = 3
number_of Refusal.UnitAbsent = 4
number_of Refusal.HandshakeOpen = 5
number_of Refusal.NoTransaction = 6
number_of Refusal.TransactionOpen = 7
number_of Refusal.NotAsked = 8
number_of Refusal.AlreadyAsked = 9
number_of Refusal.NotInReady = 10
number_of Refusal.AlreadyDecided = 11
number_of Refusal.NothingOwed = 12
number_of Refusal.TooMany = 13
number_of Refusal.NotKept = 14
number_of Refusal.StillOwed = 15
number_of Refusal.NoNode = 16
number_of Refusal.NumbersSpent = 17
number_of Refusal.OldAssociation = 21
number_of Refusal.OutOfOrder = 22
number_of Refusal.WrongSite = 23
number_of Refusal.OutOfPhase = 24
number_of Refusal.BadRecord = 25

-- the number of a refusal, where there is one
abbrev pub number_in : Option Refusal → Option ℕ
number_in None = None
number_in (Some r) = Some (number_of r)

-- the refusal by which a call answers
abbrev pub refusal_answered : {A : Type 0} → Result A Refusal → Option Refusal
refusal_answered (Ok a) = None
refusal_answered (Err r) = Some r

-- a call is refused so, by its number, or it is not refused; where there was no memory for it nothing is said
abbrev pub IsRefusedAs : {A : Type 0} → Result A TxFault → Option Refusal → Type 0
IsRefusedAs (Ok a) r = r ≡ None
IsRefusedAs (Err (TxFault.Refused k)) r = number_in r ≡ Some k
IsRefusedAs (Err TxFault.NoMemory) r = Unit {0}
