mod Asking
mod Dispatched
mod Replayed
mod Listed
mod Judged
