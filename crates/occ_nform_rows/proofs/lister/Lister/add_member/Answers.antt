use Rattle.std.proofs.Common.{[], ◌∷◌, ◌++◌, ap, ◌∙◌, refl}
use Rattle.occ_nform_rows.proofs.Halving.{one_added, none_added}
use Rattle.occ_nform_rows.proofs.lister.Lister.add_member.Goals as goal

pub returns-in_ok-push : goal.returns-in_ok-push
returns-in_ok-push c = one_added c.args.self.now.params.now c.args.member c.args.assignment c.args.found.now.items c.push.new.self.items c.if-member.true (c.in_ok-push.ensures.items ∙ ap (λ n. c.args.found.now.items ++ n ∷ []) c.place.ensures)

pub returns-else-member : goal.returns-else-member
returns-else-member c = none_added c.args.self.now.params.now (λ x. c.args.member) 0 c.args.assignment c.args.found.now.items c.args.found.now.items (λ x. c.if-member.false) refl
