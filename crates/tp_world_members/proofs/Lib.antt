pub mod Gave
pub mod Asking
pub mod Steady
pub mod Running
pub mod Standing
pub mod Answered
pub mod DrivenLines
