-- Lines whose arrays are known: the name of each array that they speak of has a number below n.
use Rattle.std.specs.Prelude.{ℕ, ◌<◌, Option, Some, None}
use Rattle.std.specs.List.{AllByRecursion}
use Rattle.occ_parse_forms.specs.declared.form.Declared.{Declared}
use Rattle.occ_parse_forms.specs.declared.form.Declared.TheVariants as declared
use Rattle.occ_parse_forms.specs.declared.form.Item.{Item}
use Rattle.occ_parse_forms.specs.declared.form.Param.{Param}
use Rattle.occ_parse_forms.specs.declared.phrase.Index.{Index}
use Rattle.occ_parse_forms.specs.Shape.{Said, item, numeral, typed, truth, negation, complement, operation, Waiting, ready, input, output, Shape, header, close, skip, stop, assign, receive, send, group, declare, condition, guard, nothing}
use Rattle.occ_parse_rules.specs.Forest.{Forest, no_line, and_line}

abbrev pub IsKnownElement : ℕ → ℕ → Option Index → Type 0
IsKnownElement n x None = Unit {0}
IsKnownElement n x (Some i) = x < n

abbrev pub IsKnownItem : ℕ → Item → Type 0
IsKnownItem n i = IsKnownElement n i.name.0 i.index

abbrev pub IsKnownDeclared : ℕ → Declared → Type 0
IsKnownDeclared n (declared.Plain x) = Unit {0}
IsKnownDeclared n (declared.Element x k) = x.0 < n
IsKnownDeclared n (declared.Array x count) = x.0 < n

abbrev pub IsKnownParam : ℕ → Param → Type 0
IsKnownParam n p = IsKnownDeclared n p.declared

abbrev pub IsKnownSaid : ℕ → Said → Type 0
IsKnownSaid n (item i) = IsKnownItem n i
IsKnownSaid n (numeral value) = Unit {0}
IsKnownSaid n (typed value width) = Unit {0}
IsKnownSaid n (truth b) = Unit {0}
IsKnownSaid n (negation e) = IsKnownSaid n e
IsKnownSaid n (complement e) = IsKnownSaid n e
IsKnownSaid n (operation op left right) = IsKnownSaid n left × IsKnownSaid n right

abbrev pub IsKnownWaiting : ℕ → Waiting → Type 0
IsKnownWaiting n ready = Unit {0}
IsKnownWaiting n (input c x) = IsKnownItem n c × IsKnownItem n x
IsKnownWaiting n (output c e) = IsKnownItem n c × IsKnownSaid n e

abbrev pub IsKnownLine : ℕ → Shape → Type 0
IsKnownLine n (header name params) = Unit {0}
IsKnownLine n close = Unit {0}
IsKnownLine n skip = Unit {0}
IsKnownLine n stop = Unit {0}
IsKnownLine n (assign xs es) = AllByRecursion (IsKnownItem n) xs × AllByRecursion (IsKnownSaid n) es
IsKnownLine n (receive c x) = IsKnownItem n c × IsKnownItem n x
IsKnownLine n (send c e) = IsKnownItem n c × IsKnownSaid n e
IsKnownLine n (group g times) = Unit {0}
IsKnownLine n (declare kind ds) = AllByRecursion (IsKnownDeclared n) ds
IsKnownLine n (condition e) = IsKnownSaid n e
IsKnownLine n (guard e w) = IsKnownSaid n e × IsKnownWaiting n w
IsKnownLine n nothing = Unit {0}

abbrev pub AreKnownLines : ℕ → Forest → Type 0
AreKnownLines n no_line = Unit {0}
AreKnownLines n (and_line number s below rest) = IsKnownLine n s × AreKnownLines n below × AreKnownLines n rest
