pub mod InOrderLaw
pub mod Headed
pub mod LeftAlone
pub mod PutLaw
