use Rattle.std.proofs.Common.{◌≡◌, length}
use Rattle.occ_nform_table.specs.Words.{each, items_of, words, small_number_of}
use Rattle.occ_nform_read.proofs.Splitting.{with_items}
use Rattle.occ_nform_read.proofs.words.numbers_of.Given as goal

abbrev pub invariant-loop-word : goal.invariant-loop-word
invariant-loop-word l = with_items l.numbers (each small_number_of (words l.rest)) ≡ each small_number_of (items_of l.text)

abbrev pub decreases-loop-word : goal.decreases-loop-word
decreases-loop-word l = length l.rest
