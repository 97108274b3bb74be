mod KeptTurns
mod BegunOnce
mod Numbers
mod Awake
mod Deliveries
mod Retries
mod Kindred
mod Answering
mod Hearing
pub mod Doubts
mod Sites
pub mod Stops
mod Still
mod Costs
mod Ending
mod Taking
mod Keeping
mod Rounds
mod Picks
mod Noted
mod Exchanges
mod Owed
pub mod Closed
mod Waiting
pub mod WaitingLaw
mod Losing
pub mod Cutting
pub mod Again
pub mod Finish
