-- Parts of which it is plain what they do first.
use Rattle.std.specs.Prelude.{ℕ, true, List}
use Rattle.occ_derive_laws.specs.occ_base.declared.width.Width.{Width}
use Rattle.occ_derive_laws.specs.occ_law.Lists.{all_cases}
use Rattle.occ_derive_laws.specs.occ_meaning.Parallel.{two}
use Rattle.occ_derive_laws.specs.occ_syntax.Tree.{Exp, truth, Tree, skip, assign, seq, select, alt, declare, Cases, no_case, and_case, Branches}

-- choices with a last one, TRUE, behind them
abbrev pub or_else : Cases → Tree → Cases
or_else cs p = all_cases cs (and_case (truth true) p no_case)

-- Nothing is done; or an assignment, and then nothing or a part; or there is an IF whose last condition is TRUE, an ALT, or the
-- declaration of a variable.
pub data IsHead : Tree → Type 0 where
  nothing : IsHead skip
  assigns : (xs : List ℕ) (es : List Exp) → IsHead (assign xs es)
  assigns_first : (xs : List ℕ) (es : List Exp) (p : Tree) → IsHead (seq (two (assign xs es) p))
  chooses : (cs : Cases) (p : Tree) → IsHead (select (or_else cs p))
  waits : (gs : Branches) → IsHead (alt gs)
  declares : (y : ℕ) (w : Width) (p : Tree) → IsHead (declare y w p)
