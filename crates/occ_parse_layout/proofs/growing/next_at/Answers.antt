use Rattle.std.proofs.Common.{◌∙◌, ◌-◌, ap, sym, arith, Some, ℕ}
use Rattle.std.specs.Prelude.{slice_index_or}
use Rattle.occ_parse_layout.proofs.Forests.{popped}
use Rattle.occ_parse_layout.proofs.growing.next_at.Goals as goal

pub returns-clause-takes : goal.returns-clause-takes
returns-clause-takes c =
    let q = c.index.result.now in
    popped c.args.level c.args.rows.now.items c.pop.new.self.items c.pop.result q c.pop.ensures.items
    (c.pop.ensures.value q (omega arith) ∙ ap Some (sym (c.index.ensures ∙ ap (λ (n : ℕ). slice_index_or c.args.rows.now.items (n - 1) q) c.len-len.ensures)))
    (sym c.from.ensures ∙ c.if-from-level.false)
