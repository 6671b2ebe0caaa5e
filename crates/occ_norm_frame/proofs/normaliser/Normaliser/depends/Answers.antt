use Rattle.occ_norm_frame.proofs.Worlds.{dependent, independent}
use Rattle.occ_norm_frame.proofs.normaliser.Normaliser.depends.Goals as goal

pub returns-clause-independent : goal.returns-clause-independent
returns-clause-independent c = λ e. independent c.args.self.now c.flip.new.self c.args.map c.in_ok-turned.turned _ c.requires.map c.flip.ensures.extends.maps c.in_ok-turned.ensures.map e

pub returns-clause-dependent : goal.returns-clause-dependent
returns-clause-dependent c = λ e. dependent c.args.self.now c.flip.new.self c.args.map c.in_ok-turned.turned _ c.requires.map c.flip.ensures.extends.maps c.in_ok-turned.ensures.map e
