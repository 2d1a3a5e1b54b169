pub mod RtPack
pub mod RtSize
pub mod RtLines
pub mod RtCopy
