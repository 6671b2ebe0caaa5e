-- The command line as its parser is given it, and what a parse finds.
use Rattle.std.specs.Prelude.{ℕ, ◌==◌, true, List, [], ◌∷◌, Option, Some, None, codes, if◌then◌else◌}
use Rattle.std.specs.List.{fold}
use Rattle.clap.specs.Words.{App, Row, Rule, new_app, new_rule, first_of, with_rule, with_subcommand}
use Rattle.occ_tool_words.specs.Words.{Job, with_one, with_two}

abbrev pub required_word : List ℕ → Rule
required_word id = record (new_rule id) { required = true }

abbrev pub one_word_line : List ℕ → App
one_word_line name = with_rule (new_app name) (required_word (codes "first"))

abbrev pub two_word_line : List ℕ → App
two_word_line name = with_rule (one_word_line name) (required_word (codes "second"))

abbrev pub command_line : (List ℕ × ℕ) → App
command_line command = if command.1 == 1 then one_word_line command.0 else two_word_line command.0

abbrev pub later_commands : List (List ℕ × ℕ)
later_commands =
    (codes "refine", 2) ∷ (codes "deadlock", 1) ∷ (codes "replay", 1) ∷ (codes "run", 2) ∷ (codes "transform", 2) ∷ (codes "expand", 2)
    ∷ (codes "derive", 1) ∷ []

-- the commands, and how many words each takes
abbrev pub commands : List (List ℕ × ℕ)
commands = (codes "same", 2) ∷ (codes "normalise", 1) ∷ (codes "normal", 1) ∷ (codes "belongs", 2) ∷ (codes "stress", 2) ∷ later_commands

abbrev pub bare_line : App
bare_line = record (new_app (codes "occam")) {
  top = record (new_app (codes "occam")).top { disable_help_flag = true; disable_help_subcommand = true; subcommand_required = true };
}

abbrev pub with_command : App → (List ℕ × ℕ) → App
with_command app command = with_subcommand app (command_line command).top

abbrev pub line : App
line = fold with_command bare_line commands

-- the command of a name and the words that were found with it
abbrev pub job_named : List ℕ → Option (List ℕ) → Option (List ℕ) → Option Job
job_named name None second = None
job_named name (Some first) None = with_one name first
job_named name (Some first) (Some second) = with_two name first second

-- the command that a parse found, by its rows
abbrev pub job_found : (List ℕ × List Row) → Option Job
job_found found = job_named found.0 (first_of (codes "first") found.1) (first_of (codes "second") found.1)
