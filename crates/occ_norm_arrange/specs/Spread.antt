-- PARs taken apart from outside in, each in the last part of the one before.
use Rattle.std.specs.Prelude.{ℕ, ◌≡◌, ◌++◌, List, [], ◌∷◌, None, false}
use Rattle.occ_syntax.specs.occ_base.declared.names.Name.{Name}
use Rattle.occ_syntax.specs.occ_base.declared.width.Width.{Width}
use Rattle.occ_meaning.specs.Parallel.{all_of}
use Rattle.occ_syntax.specs.Declarations.{declaring_all}
use Rattle.occ_syntax.specs.Names.{is_in}
use Rattle.occ_syntax.specs.Tree.{Tree, Trees, no_tree, and_tree, par, connect}
use Rattle.occ_syntax.specs.declared.scope.Kind.{Kind}
use Rattle.occ_syntax.specs.declared.scope.Kind.TheVariants.{Chan}
use Rattle.occ_norm_arrange.specs.Declares.{some_declare}

-- declarations, the first outermost
abbrev pub Row : Type 0
Row = List (Name × Kind)

-- a PAR within declarations, the last of whose parts may be taken apart yet
abbrev pub spread : Row → Trees → Tree → Tree
spread ds ps last = declaring_all ds (par (all_of ps (and_tree last no_tree)))

-- the names that the parts declare are among these
abbrev pub AreKnown : List ℕ → Trees → Type 0
AreKnown names ps = (x : ℕ) → is_in names x ≡ false → some_declare ps x ≡ false

-- One step: the last part declares a channel whose name no other part declares, or is a PAR with parts, the last of which is
-- last now.
pub data IsNext (ds : Row) (ps : Trees) (last : Tree) (ds' : Row) (ps' : Trees) (last' : Tree) : Type 0 where
  channel : (c : Name) (w : Width) → some_declare ps c.0 ≡ false → last ≡ connect c.0 w last' → ds' ≡ ds ++ (c, Chan w None) ∷ []
      → ps' ≡ ps → IsNext ds ps last ds' ps' last'
  parts : (qs : Trees) → last ≡ par (all_of qs (and_tree last' no_tree)) → ps' ≡ all_of ps qs → ds' ≡ ds
      → IsNext ds ps last ds' ps' last'
