use Rattle.std.proofs.Common.{◌≡◌, ◌<◌, ◌++◌, take}
use Rattle.std.specs.List.{flat_map}
use Rattle.occ_syntax.specs.occ_base.Names.{IsDistinct}
use Rattle.occ_nform.specs.Lines.{param_line}
use Rattle.occ_nform.proofs.lines.push_params.Given as goal

abbrev pub invariant-loop-name : goal.invariant-loop-name
invariant-loop-name l = (l.text.items ≡ l.fn.text.items ++ flat_map (param_line l.names) (take l.name-index l.params)) × (0 < l.name-index → IsDistinct l.names)
