mod Telling
pub use Rattle.occ_tool_run.proofs.from_call as from_call
pub use Rattle.occ_tool_run.proofs.from_engine_written as from_engine_written
pub use Rattle.occ_tool_run.proofs.from_lex as from_lex
pub use Rattle.occ_tool_run.proofs.from_meaning as from_meaning
pub use Rattle.occ_tool_run.proofs.from_nform_table as from_nform_table
pub use Rattle.occ_tool_run.proofs.from_parse_unroll as from_parse_unroll
pub use Rattle.occ_tool_run.proofs.from_read_renamed as from_read_renamed
pub use Rattle.occ_tool_run.proofs.from_renamed as from_renamed
pub use Rattle.occ_tool_run.proofs.from_script_table as from_script_table
pub use Rattle.occ_tool_run.proofs as from_tool_run
pub use Rattle.occ_tool_run.proofs.from_usage as from_usage
