pub mod InOrder
pub mod InOrderMoves
pub mod PutTo
