pub mod Doubting
