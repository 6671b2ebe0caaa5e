use Rattle.std.proofs.Common.{◌≡◌, ◌||◌, ◌&&◌, true, ap, sym, ◌∙◌, rules}
use Rattle.occ_accept.specs.Accept.{refuses, is_unmatched, misses}
use Rattle.occ_accept.proofs.Strict.{and_skip}
use Rattle.occ_accept.proofs.Chains.{misses_union}
use Rattle.occ_accept.proofs.pairs.add_union.Goals as goal

pub returns-clause-refuses : goal.returns-clause-refuses
returns-clause-refuses c X =
    let u : is_unmatched c.args.a.now c.args.b.now ≡ true = search rules in
    c.in_ok-add.ensures.refuses X ∙ ap (λ t. refuses c.args.sets.now.items X || t)
    (misses_union X c.args.a.now c.args.b.now c.in_ok-union.field-0 c.in_ok-union.ensures ∙ sym (and_skip (is_unmatched c.args.a.now c.args.b.now) (misses X c.args.a.now && misses X c.args.b.now) u))
