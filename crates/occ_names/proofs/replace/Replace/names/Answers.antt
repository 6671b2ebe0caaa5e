use Rattle.std.proofs.Common.{map, ap, sym, ◌∙◌}
use Rattle.std.proofs.lemmas.List.{take_all}
use Rattle.occ_syntax.specs.occ_base.declared.names.Name.{Name}
use Rattle.occ_meaning.specs.Rename.{replacing}
use Rattle.occ_names.proofs.Replaced.{renamed_numbers}
use Rattle.occ_names.proofs.replace.Replace.names.Goals as goal

pub returns : goal.returns
returns c =
    let r = replacing c.args.self.old.0 c.args.self.new.0 in
    c.loop-name.invariant ∙ ap (map (λ (k : Name). r k.0)) (take_all _ _ c.loop-name-test.false) ∙ sym (renamed_numbers r _)
