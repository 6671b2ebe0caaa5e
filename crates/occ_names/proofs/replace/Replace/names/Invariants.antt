use Rattle.std.proofs.Common.{◌≡◌, map, take}
use Rattle.occ_syntax.specs.occ_base.declared.names.Name.{Name}
use Rattle.occ_syntax.specs.View.{numbers}
use Rattle.occ_meaning.specs.Rename.{replacing}
use Rattle.occ_names.proofs.replace.Replace.names.Given as goal

abbrev pub invariant-loop-name : goal.invariant-loop-name
invariant-loop-name l = numbers l.made ≡ map (λ (k : Name). replacing l.self.old.0 l.self.new.0 k.0) (take l.name-index l.names)
