use Rattle.occ_norm_par.proofs.Spanning.{users_found}
use Rattle.occ_norm_par.proofs.users.users_of.Goals as goal

pub returns : goal.returns
returns c = users_found c.args.parts.now _ _ _ c.in_ok-used.ensures c.in_ok-users.ensures
