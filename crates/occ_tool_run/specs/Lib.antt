pub mod Texts
pub mod Accepts
pub mod Stored
pub mod Derivations
pub mod Runs
pub mod Transforms
pub mod Derived
pub mod Ends
pub mod Pairs
pub mod Answers
pub mod Replies
pub mod Ran
pub mod Judged
pub mod Transformed
pub use Rattle.occ_syntax.specs.occ_base as occ_base
pub use Rattle.occ_run_schedule.specs.occ_behaviour as occ_behaviour
pub use Rattle.occ_run_schedule.specs.occ_behaviour_read as occ_behaviour_read
pub use Rattle.occ_call.specs as occ_call
pub use Rattle.occ_derive.specs as occ_derive
pub use Rattle.occ_derive.specs.occ_derive_moves as occ_derive_moves
pub use Rattle.occ_derive.specs.occ_derive_search as occ_derive_search
pub use Rattle.occ_call.specs.occ_desk as occ_desk
pub use Rattle.occ_engine_written.specs.occ_engine as occ_engine
pub use Rattle.occ_engine_written.specs.occ_engine_known as occ_engine_known
pub use Rattle.occ_engine_written.specs as occ_engine_written
pub use Rattle.occ_tool_words.specs.occ_gen as occ_gen
pub use Rattle.occ_replay.specs.occ_law as occ_law
pub use Rattle.occ_replay.specs.occ_lex as occ_lex
pub use Rattle.occ_run_schedule.specs.occ_meaning as occ_meaning
pub use Rattle.occ_read_renamed.specs.occ_nform as occ_nform
pub use Rattle.occ_run_schedule.specs.occ_nform_table as occ_nform_table
pub use Rattle.occ_tool_words.specs.occ_parse as occ_parse
pub use Rattle.occ_replay.specs.occ_parse_part as occ_parse_part
pub use Rattle.occ_replay.specs.occ_parse_rules as occ_parse_rules
pub use Rattle.occ_tool_words.specs.occ_parse_unroll as occ_parse_unroll
pub use Rattle.occ_replay.specs.occ_print as occ_print
pub use Rattle.occ_tool_words.specs.occ_print_back as occ_print_back
pub use Rattle.occ_read_renamed.specs as occ_read_renamed
pub use Rattle.occ_read_renamed.specs.occ_renamed as occ_renamed
pub use Rattle.occ_replay.specs as occ_replay
pub use Rattle.occ_replay.specs.occ_replay_rules as occ_replay_rules
pub use Rattle.occ_run_schedule.specs as occ_run_schedule
pub use Rattle.occ_replay.specs.occ_script as occ_script
pub use Rattle.occ_derive.specs.occ_script_back as occ_script_back
pub use Rattle.occ_replay.specs.occ_script_lines as occ_script_lines
pub use Rattle.occ_derive.specs.occ_script_write as occ_script_write
pub use Rattle.occ_syntax.specs as occ_syntax
pub use Rattle.occ_derive.specs.occ_target as occ_target
pub use Rattle.occ_tool_words.specs as occ_tool_words
pub use Rattle.occ_run_schedule.specs.occ_usage as occ_usage
