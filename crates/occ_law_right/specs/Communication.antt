-- What a guard waits for that does what a part does.
use Rattle.std.specs.Prelude.{Option, None, Some}
use Rattle.occ_syntax.specs.declared.expr.Wait.{Wait}
use Rattle.occ_syntax.specs.Tree.{Tree, Waiting}
use Rattle.occ_syntax.specs.View.{waiting}
use Rattle.occ_law_seq.specs.Communication.{Communicates}

-- what a guard waits for that communicates as the part does; or the part is no communication
abbrev pub IsWait : Tree → Option Wait → Type 0
IsWait p None = (w : Waiting) → Communicates p w → ⊥
IsWait p (Some wait) = Communicates p (waiting wait)
