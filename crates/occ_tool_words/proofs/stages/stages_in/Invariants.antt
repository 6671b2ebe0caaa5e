use Rattle.std.proofs.Common.{◌≡◌}
use Rattle.occ_tool_words.specs.Words.{stages_of}
use Rattle.occ_tool_words.proofs.Numerals.{found_from}
use Rattle.occ_tool_words.proofs.stages.stages_in.Given as goal

-- no number before is the word's
abbrev pub invariant-loop-stages : goal.invariant-loop-stages
invariant-loop-stages l = stages_of l.word ≡ found_from l.word l.stages
