use Rattle.std.proofs.Common.{length}
use Rattle.occ_engine.specs.Moved.{orders_of}
use Rattle.occ_engine_known.proofs.Given.{orders_give}
use Rattle.occ_engine_known.proofs.Moving.{orders_known}
use Rattle.occ_engine_known.proofs.known_names.followed_orders_have_known_names.Goals as goal

pub returns : goal.returns
returns c = λ text old new orders S p q moves read h k names f.
    orders_known (length new) S p q (orders_of orders) moves h k names (orders_give text old new orders read) f
