use Rattle.std.proofs.Common.{length}
use Rattle.occ_parse.specs.occ_parse_rules.Names.{name_fault}
use Rattle.occ_parse.specs.occ_parse_rules.Types.{direction_fault, type_fault}
use Rattle.occ_print_back.proofs.Ordering.{name_ok, type_ok, direction_ok, program_order}
use Rattle.occ_print_back.proofs.laws.printed_lines_are_in_order.Goals as goal

pub returns : goal.returns
returns c = record {
  names = λ names P N number name ps body numbered h. program_order (length names) P N numbered name_fault name_ok number name ps body h.known.params_are h.known.body_is h.scope h.types;
  types = λ names P N number name ps body numbered h. program_order (length names) P N numbered type_fault type_ok number name ps body h.known.params_are h.known.body_is h.scope h.types;
  directions = λ names P N number name ps body numbered h. program_order (length names) P N numbered direction_fault direction_ok number name ps body h.known.params_are h.known.body_is h.scope h.types;
}
