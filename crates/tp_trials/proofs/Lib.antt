mod Settled
mod Troubled
