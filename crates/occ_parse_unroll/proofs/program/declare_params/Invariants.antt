use Rattle.std.proofs.Common.{◌≡◌, ◌++◌, ℕ, List, drop}
use Rattle.occ_parse_forms.specs.occ_lex.Symbols.{Extends}
use Rattle.occ_parse_rules.specs.Places.{declared_in, param_entries}
use Rattle.occ_parse_rules.specs.Unrolled.{params_named}
use Rattle.occ_parse_unroll.specs.Numbers.{number_in}
use Rattle.occ_parse_unroll.specs.Elements.{params_places, with_places}
use Rattle.occ_parse_unroll.proofs.program.declare_params.Given as goal

-- what is declared so far and what is left are all
abbrev pub invariant-loop-param : goal.invariant-loop-param
invariant-loop-param l = record {
  scopes : declared_in l.context.scopes (param_entries (drop l.param-index l.params)) ≡ declared_in l.fn.context.scopes (param_entries l.params);
  values : l.context.values ≡ l.fn.context.values;
  names : (t : List (List ℕ)) → Extends l.names t → l.scope ++ params_named (number_in t) (drop l.param-index l.params) ≡ params_named (number_in t) l.params;
  table : with_places l.names (params_places (drop l.param-index l.params)) ≡ with_places l.fn.names (params_places l.params);
  grown : Extends l.fn.names l.names;
}
