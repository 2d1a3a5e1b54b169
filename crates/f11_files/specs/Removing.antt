-- Files that are deleted or cut, and the headers and blocks that go.
pub mod Drops
pub mod Delete
pub mod Truncate
