use Rattle.std.proofs.Common.{◌∙◌, ◌&&◌, ap, arith, refl, rules}
use Rattle.occ_parse_layout.specs.declared.passed.Open.{Open}
use Rattle.occ_parse_layout.specs.declared.kind.Kind.{Kind}
use Rattle.occ_parse_layout.specs.Layout.{laid, is_declaration, takes}
use Rattle.std.specs.Prelude.{slice_index_or}
use Rattle.occ_parse_layout.specs.Scan.{shut}
use Rattle.occ_parse_layout.proofs.Rooms.{passes}
use Rattle.occ_parse_layout.proofs.passed.Passed.pass.Goals as goal

pub returns-clause-describes : goal.returns-clause-describes
returns-clause-describes c = λ before d.
    passes before c.args.self.now _ (laid c.args.row.now) c.with_child.result c.inside.result (omega (arith, c.args.self.now.open.ok.0))
    (search rules)
    (c.with_child.ensures.room ∙ ap (λ (o : Open). o.room) c.at-open.ensures)
    (c.with_child.ensures.free ∙ ap (λ (o : Open). o.free && is_declaration c.kind_of-kind.result) c.at-open.ensures ∙ ap (λ (k : Kind). (slice_index_or c.args.self.now.open.items c.args.row.now.level shut).free && is_declaration k) c.kind_of-kind.ensures)
    (c.inside.ensures.room ∙ ap (λ (o : Open). takes o.room c.kind_of-kind.result) c.at-open.ensures ∙ ap (λ (k : Kind). takes (slice_index_or c.args.self.now.open.items c.args.row.now.level shut).room k) c.kind_of-kind.ensures)
    c.inside.ensures.free refl refl c.is_closed_by-self.ensures d
