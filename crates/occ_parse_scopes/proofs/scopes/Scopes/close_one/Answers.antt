use Rattle.std.proofs.Common.{◌∷◌, [], reverse, ap, ◌∙◌, subst, arith}
use Rattle.std.proofs.lemmas.List.{reverse-append}
use Rattle.occ_parse_scopes.specs.Chain.{IsTable}
use Rattle.occ_parse_scopes.proofs.Walk.{table_within}
use Rattle.occ_parse_scopes.proofs.scopes.Scopes.close_one.Goals as goal

pub index_mut-requires : goal.index_mut-requires
index_mut-requires c =
    let rest = c.pop.new.self.items in
    let newest = c.self.inside.newest in
    let front = ap reverse c.in-Some.ensures.items ∙ reverse-append rest (c.in-Some.linked ∷ []) in
    let within = table_within newest.items c.in-Some.linked (reverse rest) (subst (IsTable newest.items) front c.self.invariant.1) in
    omega (arith, within, c.name_of-name.ensures, newest.ok.0)
