pub mod lemmas
mod Stood
mod SummaryTold
pub mod Tellings
mod Limits
mod Outputs
mod EntryTurns
mod Settling
mod Tasks
mod Trying
mod Drained
mod Resolved
pub mod Lines
mod Coming
mod Shows
mod Booting
mod Crashing
mod Imaged
mod Halted
mod Restarting
mod StopTurns
mod StopTells
mod StopCases
mod StopDeeds
