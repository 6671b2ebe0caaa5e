pub mod Spans
pub mod Starting
pub mod Edges
pub mod Adding
pub mod Strings
pub mod Pictures
pub mod Grouping
pub mod Words
pub mod Steps
pub mod Stopping
pub mod Refusals
pub mod Answers
pub mod Replies
unfoldable pub use Rattle.occ_syntax.specs.View.{tree}
