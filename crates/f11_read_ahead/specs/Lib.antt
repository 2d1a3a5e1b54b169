pub mod Asked
pub mod Buffer
pub mod ReadAhead
