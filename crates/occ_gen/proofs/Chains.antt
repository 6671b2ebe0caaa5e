-- Generated programs as lines: the forest of a chain, and the names of its text in the order in which they come.
use Rattle.std.specs.Prelude.{ℕ, zero, suc, ◌+◌, ◌-◌, ◌*◌, ◌%◌, true, ◌==◌, if◌then◌else◌, List, [], ◌∷◌, ◌++◌, map, None, Some, codes}
use Rattle.occ_script.specs.occ_base.declared.event.Dir.TheVariants as dir
use Rattle.occ_script.specs.occ_base.declared.names.Name.{Name}
use Rattle.occ_script.specs.occ_base.declared.width.Width.{Width}
use Rattle.occ_script.specs.occ_base.declared.width.Width.TheVariants.{Word}
use Rattle.occ_gen.specs.Programs.{channel, messages}
use Rattle.occ_gen.specs.declared.shape.Shape.{Shape as Kind}
use Rattle.occ_gen.specs.declared.shape.Shape.TheVariants.{Adders, Buffers, Muxes}
use Rattle.occ_print_back.specs.occ_parse_forms.declared.form.Declared.TheVariants.{Plain}
use Rattle.occ_print_back.specs.occ_parse_forms.declared.form.Group.TheVariants as word
use Rattle.occ_print_back.specs.occ_parse_forms.declared.form.Item.{Item}
use Rattle.occ_print_back.specs.occ_parse_forms.declared.form.Param.{Param}
use Rattle.occ_print_back.specs.occ_parse_forms.Shape as line
use Rattle.occ_print_back.specs.occ_parse_rules.Forest.{Forest, and_line, no_line}
use Rattle.occ_print_back.specs.occ_parse_rules.Places.{numbers_from}
use Rattle.occ_script.specs.occ_syntax.declared.expr.Op.TheVariants as op
use Rattle.occ_script.specs.occ_syntax.declared.scope.Kind.TheVariants.{Chan, Var}

-- ---- names

abbrev pub first_names : Kind → List (List ℕ)
first_names Buffers = codes "buffers" ∷ codes "in" ∷ codes "out" ∷ []
first_names Adders = codes "adders" ∷ codes "in" ∷ codes "out" ∷ []
first_names Muxes = codes "muxes" ∷ codes "s" ∷ codes "in" ∷ codes "out" ∷ []

-- how many of them
abbrev pub base : Kind → ℕ
base Buffers = 3
base Adders = 3
base Muxes = 4

-- the names of a chain of n stages: the channel behind the first stage comes before the names of a cell
abbrev pub names : Kind → ℕ → List (List ℕ)
names shape n =
    if n == 1 then first_names shape ++ codes "v" ∷ codes "i" ∷ []
    else first_names shape ++ channel 1 ∷ codes "v" ∷ codes "i" ∷ map channel (numbers_from 2 (n - 2))

-- the numbers of a chain's names
pub record Numbered : Type 0 where
  pub input : ℕ
  pub output : ℕ
  pub value : ℕ
  pub index : ℕ
  pub first : ℕ

abbrev pub numbered : Kind → ℕ → Numbered
numbered shape n = record {
  input = base shape - 2;
  output = base shape - 1;
  value = if n == 1 then base shape else base shape + 1;
  index = if n == 1 then base shape + 1 else base shape + 2;
  first = base shape;
}

abbrev pub between : Numbered → ℕ → ℕ
between N k = if k == 1 then N.first else N.first + 1 + k

abbrev pub behind : Numbered → ℕ → ℕ
behind N k = if k == 1 then N.input else between N (k - 1)

-- ---- lines

abbrev pub name : ℕ → Name
name x = record { 0 = x }

abbrev pub plain : ℕ → Item
plain x = record { name = name x; index = None }

abbrev pub width : Kind → Width
width Buffers = Word 1
width Adders = Word 2
width Muxes = Word 1

-- a line alone, and a line with lines below it alone
abbrev only : ℕ → line.Shape → Forest
only a s = and_line a s no_line no_line

abbrev over : ℕ → line.Shape → Forest → Forest
over a s below = and_line a s below no_line

abbrev pub sends : Kind → Numbered → ℕ → ℕ → ℕ → Forest
sends Buffers N a k o = only a (line.send (plain o) (line.item (plain N.value)))
sends Adders N a k o = only a (line.send (plain o) (line.operation op.Plus (line.item (plain N.value)) (line.numeral 1)))
sends Muxes N a k o =
    over a (line.group word.If None)
    (and_line (a + 1) (line.condition (line.operation op.Equal (line.item (plain 1)) (line.numeral (k % 16))))
    (only (a + 2) (line.send (plain o) (line.complement (line.item (plain N.value)))))
    (over (a + 3) (line.condition (line.truth true)) (only (a + 4) (line.send (plain o) (line.item (plain N.value))))))

-- a cell's lines, and those behind it
abbrev pub cell : Kind → Numbered → ℕ → ℕ → ℕ → Forest → Forest
cell shape N a k o rest =
    and_line a (line.declare (Var (width shape)) (Plain (name N.value) ∷ [])) no_line
    (and_line (a + 1) (line.group word.Seq (Some (record { index = name N.index; base = 0; count = messages shape })))
    (over (a + 2) (line.group word.Seq None)
    (and_line (a + 3) (line.receive (plain (behind N k)) (plain N.value)) no_line (sends shape N (a + 4) k o)))
    rest)

-- how many lines a cell has
abbrev pub height : Kind → ℕ
height Buffers = 5
height Adders = 5
height Muxes = 9

abbrev pub stages : Kind → Numbered → ℕ → ℕ → ℕ → Forest
stages shape N a k zero = cell shape N a k N.output no_line
stages shape N a k (suc more) =
    and_line a (line.declare (Chan (width shape) None) (Plain (name (between N k)) ∷ [])) no_line
    (over (a + 1) (line.group word.Par None)
    (cell shape N (a + 2) k (between N k) (stages shape N (a + 2 + height shape) (k + 1) more)))

abbrev pub parameters : Kind → Numbered → List Param
parameters shape N =
    (if base shape == 4 then record { declared = Plain (name 1); kind = Var (Word 4) } ∷ [] else [])
    ++ record { declared = Plain (name N.input); kind = Chan (width shape) (Some dir.Input) }
    ∷ record { declared = Plain (name N.output); kind = Chan (width shape) (Some dir.Output) } ∷ []

-- the last line's number
abbrev pub last : Kind → ℕ → ℕ
last Buffers n = 7 * n
last Adders n = 7 * n
last Muxes n = 11 * n

abbrev pub below : Kind → ℕ → Forest
below shape n = stages shape (numbered shape n) 2 1 (n - 1)

abbrev pub chain : Kind → ℕ → Forest
chain shape n = and_line 1 (line.header (name 0) (parameters shape (numbered shape n))) (below shape n) (only (last shape n) line.close)
