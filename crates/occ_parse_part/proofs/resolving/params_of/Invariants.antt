use Rattle.std.proofs.Common.{◌≡◌, ◌++◌, drop}
use Rattle.occ_parse_part.specs.Resolving.{scope_params}
use Rattle.occ_parse_part.specs.Seen.{seen}
use Rattle.occ_parse_part.proofs.resolving.params_of.Given as goal

-- the declarations so far and those that are left are all
abbrev pub invariant-loop-entry : goal.invariant-loop-entry
invariant-loop-entry l = l.params.items ++ scope_params (seen l.elements) (drop l.entry-index l.scope) ≡ scope_params (seen l.elements) l.scope
