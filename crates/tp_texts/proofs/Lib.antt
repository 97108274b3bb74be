pub mod TakenValues
pub mod RecordParts
pub mod RecordTexts
pub mod PeerParts
pub mod PeerTexts
pub mod PeerReading
