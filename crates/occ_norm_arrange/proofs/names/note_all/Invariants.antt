use Rattle.std.proofs.Common.{drop}
use Rattle.occ_syntax.specs.Names.{is_in}
use Rattle.occ_syntax.specs.View.{numbers}
use Rattle.occ_norm_arrange.proofs.Noting.{Opened}
use Rattle.occ_norm_arrange.proofs.names.note_all.Given as goal

-- all but the names that are left are noted
abbrev pub invariant-loop-name : goal.invariant-loop-name
invariant-loop-name l = Opened l.initial.set (λ x. is_in (numbers l.names) x) l.set (λ x. is_in (numbers (drop l.name-index l.names)) x)
