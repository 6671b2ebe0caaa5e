-- The figures of a program's normal text.
use Rattle.std.specs.Prelude.{ℕ, ◌≡◌, ◌<◌, ◌^◌, List, [], length}
use Rattle.occ_syntax.specs.occ_base.declared.names.Name.{Name}
use Rattle.occ_syntax.specs.Counts.{capped}
use Rattle.occ_syntax.specs.declared.scope.Kind.{Kind}
use Rattle.occ_syntax.specs.Tree.{Tree}
use Rattle.occ_nform_rows.specs.occ_nform_table.Normal.{Parts}
use Rattle.occ_nform.specs.declared.figures.Counts.{Counts}
use Rattle.occ_nform.specs.Counts.{greatest, heights_of, offers_in}
use Rattle.occ_nform.specs.Written.{IsNormalText}

-- The figures of a table. A count that 64 bits don't hold is the greatest that they do.
abbrev pub counts_of : Parts → Counts
counts_of t = record { rows = length t.rows; offers = capped (offers_in t.rows); height = greatest (heights_of [] t.rows); states = length t.states }

-- A program with these parameters has a normal text whose table has these figures.
pub record HasCounts (names : List (List ℕ)) (params : List (Name × Kind)) (p : Tree) (counts : Counts) : Type 0 where
  pub text : List ℕ
  pub short : length text < 2 ^ 64
  pub is : IsNormalText names params p text
  pub counts_are : counts ≡ counts_of is.table
