pub mod Offering
pub mod Alternation
pub mod Inputs
pub use Rattle.occ_norm_frame.specs.occ_follow as occ_follow
pub use Rattle.occ_norm_frame.specs as occ_norm_frame
pub use Rattle.occ_norm_frame.specs.occ_usage as occ_usage
pub use Rattle.occ_norm_frame.specs.occ_weave as occ_weave
