use Rattle.std.proofs.Common.{◌==◌, not, ap, ◌∙◌}
use Rattle.std.specs.List.{list_all}
use Rattle.occ_syntax.specs.occ_base.declared.names.Name.{Name}
use Rattle.occ_norm_frame.proofs.FrameBits.{among_all}
use Rattle.occ_norm_frame.proofs.frame.Frame.is_closed.Goals as goal

pub returns : goal.returns
returns c = c.contains.ensures.value ∙ among_all c.deref.result.now c.args.chan ∙ ap (λ cs. not (list_all (λ (k : Name). not (c.args.chan.0 == k.0)) cs)) c.deref.ensures.value
