pub mod Rows
pub mod Reads
pub mod Joined
pub mod ProveJoined
pub mod OneProof
pub mod Has
pub mod Witnessed
