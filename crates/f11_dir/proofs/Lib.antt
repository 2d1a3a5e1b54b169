pub mod RecordPlaces
pub mod RecordTests
pub mod RecordWords
