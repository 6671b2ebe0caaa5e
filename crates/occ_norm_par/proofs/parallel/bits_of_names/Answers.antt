use Rattle.std.proofs.lemmas.Nat.Bits.{bit_at-zero}
use Rattle.occ_syntax.specs.occ_base.declared.width.Width.TheVariants.{Bool as TruthValue}
use Rattle.occ_norm_frame.proofs.Placing.{entry_at}
use Rattle.occ_syntax.specs.View.{numbers}
use Rattle.occ_norm_par.proofs.Writing.{bits_end, bits_more}
use Rattle.occ_norm_par.proofs.parallel.bits_of_names.Goals as goal

pub entry_bits-more-requires : goal.entry_bits-more-requires
entry_bits-more-requires c = entry_at c.args.entries.now c.requires c.loop-entry.entry-index (record { 0 = record { 0 = 0 }; 1 = TruthValue; 2 = 0 }) c.loop-entry-test.true

pub loop-entry-init : goal.loop-entry-init
loop-entry-init c = λ k h. bit_at-zero k

pub loop-entry-preserved : goal.loop-entry-preserved
loop-entry-preserved c = bits_more _ _ _ (numbers c.args.names.now) _ _ c.loop-entry-test.true c.loop-entry.invariant c.entry_bits-more.ensures

pub returns : goal.returns
returns c = bits_end _ _ (numbers c.args.names.now) _ c.loop-entry-test.false c.loop-entry.invariant
