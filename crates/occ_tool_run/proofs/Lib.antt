pub mod Judging
pub mod Measured
pub mod Pairs
pub mod Leaving
pub mod Once
pub mod Taken
pub mod OneAnswer
pub mod BothWays
pub mod EitherOrder
pub mod Known
pub mod Accepting
pub mod Named
pub mod Stages
pub mod Members
pub mod Scripted
pub mod Scheduled
pub mod OneReplay
pub mod OneTransform
pub mod Engine
pub mod Deriving
mod OneEnd
pub mod AsWritten
pub use Rattle.occ_call.proofs as from_call
pub use Rattle.occ_derive.proofs.from_derive_moves as from_derive_moves
pub use Rattle.occ_engine_written.proofs as from_engine_written
pub use Rattle.occ_replay.proofs.from_lex as from_lex
pub use Rattle.occ_run_schedule.proofs.from_meaning as from_meaning
pub use Rattle.occ_run_schedule.proofs.from_nform_table as from_nform_table
pub use Rattle.occ_tool_words.proofs.from_parse_unroll as from_parse_unroll
pub use Rattle.occ_replay.proofs.from_print as from_print
pub use Rattle.occ_read_renamed.proofs as from_read_renamed
pub use Rattle.occ_read_renamed.proofs.from_renamed as from_renamed
pub use Rattle.occ_run_schedule.proofs.from_run as from_run
pub use Rattle.occ_run_schedule.proofs as from_run_schedule
pub use Rattle.occ_derive.proofs.from_script_back as from_script_back
pub use Rattle.occ_read_renamed.proofs.from_script_table as from_script_table
pub use Rattle.occ_run_schedule.proofs.from_usage as from_usage
