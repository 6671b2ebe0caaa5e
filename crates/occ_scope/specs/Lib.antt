pub mod Silent
pub mod Bits
pub mod Paired
pub mod Change
pub mod Results
pub mod Tables
