-- What a line says, apart from where its parts lie in memory.
use Rattle.std.specs.Prelude.{ℕ, Bool, List, map, Option}
use Rattle.occ_lex.specs.occ_base.declared.names.Name.{Name}
use Rattle.occ_lex.specs.occ_base.declared.width.Width.{Width}
use Rattle.occ_syntax.specs.declared.expr.Op.{Op}
use Rattle.occ_syntax.specs.declared.scope.Kind.{Kind}
use Rattle.occ_parse_forms.specs.declared.form.Item.{Item}
use Rattle.occ_parse_forms.specs.declared.form.Param.{Param}
use Rattle.occ_parse_forms.specs.declared.form.Declared.{Declared}
use Rattle.occ_parse_forms.specs.declared.form.Times.{Times}
use Rattle.occ_parse_forms.specs.declared.form.Group.{Group}
use Rattle.occ_parse_forms.specs.declared.form.Wants.{Wants}
use Rattle.occ_parse_forms.specs.declared.form.Wants.TheVariants as wants
use Rattle.occ_parse_forms.specs.declared.form.Form.{Form}
use Rattle.occ_parse_forms.specs.declared.form.Form.TheVariants as form
use Rattle.occ_parse_forms.specs.declared.phrase.Phrase.{Phrase, Item as ItemPhrase, Numeral, Typed, Truth, Not', Flip', Two'}

-- an expression as it is written, without its brackets
pub data Said : Type 0 where
  item : Item → Said
  numeral : ℕ → Said
  typed : ℕ → Width → Said
  truth : Bool → Said
  negation : Said → Said
  complement : Said → Said
  operation : Op → Said → Said → Said

abbrev pub said : Phrase → Said
said (ItemPhrase i) = item i
said (Numeral value) = numeral value
said (Typed value width) = typed value width
said (Truth b) = truth b
said (Not' p e) = negation (said e)
said (Flip' p e) = complement (said e)
said (Two' op p left q right) = operation op (said left) (said right)

abbrev pub all_said : List Phrase → List Said
all_said es = map said es

-- what a guard waits for
pub data Waiting : Type 0 where
  ready : Waiting
  input : (chan var : Item) → Waiting
  output : (chan : Item) → Said → Waiting

abbrev pub waiting : Wants → Waiting
waiting wants.Skip = ready
waiting (wants.Input chan var) = input chan var
waiting (wants.Output chan value) = output chan (said value)

-- what a line says
pub data Shape : Type 0 where
  header : Name → List Param → Shape
  close : Shape
  skip : Shape
  stop : Shape
  assign : List Item → List Said → Shape
  receive : (chan var : Item) → Shape
  send : (chan : Item) → Said → Shape
  group : Group → Option Times → Shape
  declare : Kind → List Declared → Shape
  condition : Said → Shape
  guard : Said → Waiting → Shape
  nothing : Shape

abbrev pub shape : Form → Shape
shape (form.Header name params) = header name params
shape form.Close = close
shape form.Skip = skip
shape form.Stop = stop
shape (form.Assign left right) = assign left (all_said right)
shape (form.Input chan var) = receive chan var
shape (form.Output chan value) = send chan (said value)
shape (form.Group g times) = group g times
shape (form.Declare d) = declare d.kind d.declared
shape (form.Condition e) = condition (said e)
shape (form.Guard e w) = guard (said e) (waiting w)
shape form.Nothing = nothing
