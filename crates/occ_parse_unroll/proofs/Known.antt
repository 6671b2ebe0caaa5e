-- What is known in a table is known in each table that goes on from it.
use Rattle.std.proofs.Common.{ℕ, ◌<◌, ◌≤◌, List, [], ◌∷◌, length, get_or, arith, Option, Some, None, zero, suc}
use Rattle.std.specs.List.{AllByRecursion}
use Rattle.occ_parse_forms.specs.declared.form.Declared.{Declared}
use Rattle.occ_parse_forms.specs.declared.form.Declared.TheVariants as declared
use Rattle.occ_parse_forms.specs.declared.form.Item.{Item}
use Rattle.occ_parse_forms.specs.declared.phrase.Index.{Index}
use Rattle.occ_parse_forms.specs.Shape.{Said, Waiting, Shape}
use Rattle.occ_parse_forms.specs.Shape as line
use Rattle.occ_parse_rules.specs.Forest.{Forest, no_line, and_line}
use Rattle.occ_parse_unroll.specs.Known.{IsKnownElement, IsKnownItem, IsKnownDeclared, IsKnownSaid, IsKnownWaiting, IsKnownLine, AreKnownLines}

pub all_at_or : {X : Type 0} (P : X → Type 0) (xs : List X) (i : ℕ) (z : X) → AllByRecursion P xs → i < length xs → P (get_or xs i z)
all_at_or P [] i z h lt = absurd (omega arith)
all_at_or P (y ∷ ys) zero z h lt = h.0
all_at_or P (y ∷ ys) (suc i) z h lt = all_at_or P ys i z h.1 (omega (arith, lt))

all_later : {X : Type 0} (P Q : X → Type 0) → ((x : X) → P x → Q x) → (xs : List X) → AllByRecursion P xs → AllByRecursion Q xs
all_later P Q f [] h = h
all_later P Q f (x ∷ xs) h = (f x h.0, all_later P Q f xs h.1)

element_known : (n m x : ℕ) (i : Option Index) → n ≤ m → IsKnownElement n x i → IsKnownElement m x i
element_known n m x None le h = h
element_known n m x (Some i) le h = omega (arith, le, h)

pub item_known : (n m : ℕ) (i : Item) → n ≤ m → IsKnownItem n i → IsKnownItem m i
item_known n m i le h = element_known n m i.name.0 i.index le h

pub items_known : (n m : ℕ) (is : List Item) → n ≤ m → AllByRecursion (IsKnownItem n) is → AllByRecursion (IsKnownItem m) is
items_known n m is le h = all_later (IsKnownItem n) (IsKnownItem m) (λ i. item_known n m i le) is h

pub declared_known : (n m : ℕ) (d : Declared) → n ≤ m → IsKnownDeclared n d → IsKnownDeclared m d
declared_known n m (declared.Plain x) le h = h
declared_known n m (declared.Element x k) le h = omega (arith, le, h)
declared_known n m (declared.Array x count) le h = omega (arith, le, h)

pub all_declared_known : (n m : ℕ) (ds : List Declared) → n ≤ m → AllByRecursion (IsKnownDeclared n) ds → AllByRecursion (IsKnownDeclared m) ds
all_declared_known n m ds le h = all_later (IsKnownDeclared n) (IsKnownDeclared m) (λ d. declared_known n m d le) ds h

pub said_known : (n m : ℕ) (e : Said) → n ≤ m → IsKnownSaid n e → IsKnownSaid m e
said_known n m (line.item i) le h = item_known n m i le h
said_known n m (line.numeral value) le h = h
said_known n m (line.typed value width) le h = h
said_known n m (line.truth b) le h = h
said_known n m (line.negation e) le h = said_known n m e le h
said_known n m (line.complement e) le h = said_known n m e le h
said_known n m (line.operation op left right) le h = (said_known n m left le h.0, said_known n m right le h.1)

pub all_said_known : (n m : ℕ) (es : List Said) → n ≤ m → AllByRecursion (IsKnownSaid n) es → AllByRecursion (IsKnownSaid m) es
all_said_known n m es le h = all_later (IsKnownSaid n) (IsKnownSaid m) (λ e. said_known n m e le) es h

pub waiting_known : (n m : ℕ) (w : Waiting) → n ≤ m → IsKnownWaiting n w → IsKnownWaiting m w
waiting_known n m line.ready le h = h
waiting_known n m (line.input c x) le h = (item_known n m c le h.0, item_known n m x le h.1)
waiting_known n m (line.output c e) le h = (item_known n m c le h.0, said_known n m e le h.1)

pub line_known : (n m : ℕ) (s : Shape) → n ≤ m → IsKnownLine n s → IsKnownLine m s
line_known n m (line.header name params) le h = h
line_known n m line.close le h = h
line_known n m line.skip le h = h
line_known n m line.stop le h = h
line_known n m (line.assign xs es) le h = (items_known n m xs le h.0, all_said_known n m es le h.1)
line_known n m (line.receive c x) le h = (item_known n m c le h.0, item_known n m x le h.1)
line_known n m (line.send c e) le h = (item_known n m c le h.0, said_known n m e le h.1)
line_known n m (line.group g times) le h = h
line_known n m (line.declare kind ds) le h = all_declared_known n m ds le h
line_known n m (line.condition e) le h = said_known n m e le h
line_known n m (line.guard e w) le h = (said_known n m e le h.0, waiting_known n m w le h.1)
line_known n m line.nothing le h = h

pub lines_known : (n m : ℕ) (f : Forest) → n ≤ m → AreKnownLines n f → AreKnownLines m f
lines_known n m no_line le h = h
lines_known n m (and_line number s below rest) le h = (line_known n m s le h.0, lines_known n m below le h.1, lines_known n m rest le h.2)
