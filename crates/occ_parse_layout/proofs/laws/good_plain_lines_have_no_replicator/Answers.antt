use Rattle.std.proofs.Common.{refl}
use Rattle.occ_parse_layout.specs.declared.placed.Frame.TheVariants.{Part, Plain}
use Rattle.occ_parse_layout.proofs.Framed.{single_of}
use Rattle.occ_parse_layout.proofs.laws.good_plain_lines_have_no_replicator.Goals as goal

pub returns-clause-plain : goal.returns-clause-plain
returns-clause-plain c = λ rows forest e h. single_of Plain 0 rows forest (λ k. refl) e h

pub returns-clause-part : goal.returns-clause-part
returns-clause-part c = λ rows forest e h. single_of Part 1 rows forest (λ k. refl) e h
