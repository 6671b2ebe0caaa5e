-- What a line is, as the code asks it.
use Rattle.std.specs.Prelude.{ℕ, ◌≡◌, Bool, true, false, Option, Some, None}
use Rattle.std.specs.Borrow.{Bor}
use Rattle.occ_parse_forms.specs.declared.form.Declaration.{Declaration}
use Rattle.occ_parse_forms.specs.declared.form.Group.{Group}
use Rattle.occ_parse_forms.specs.declared.form.Group.TheVariants as word
use Rattle.occ_parse_forms.specs.declared.form.Times.{Times}
use Rattle.occ_parse_forms.specs.declared.phrase.Phrase.{Phrase}
use Rattle.occ_parse_forms.specs.Shape.{Shape, receive, send, group, declare, condition, guard, said}

-- the line of a fault
abbrev pub line_of : {F : Type 0} → Option (ℕ × F) → Option ℕ
line_of (Some fault) = Some fault.0
line_of None = None

abbrev pub is_declaration : Shape → Bool
is_declaration (declare kind ds) = true
is_declaration other = false

-- the declaration that a line is, where it is one
abbrev pub IsDeclaration : Shape → Option (Bor Declaration) → Type 0
IsDeclaration s (Some d) = s ≡ declare d.now.kind d.now.declared
IsDeclaration s None = is_declaration s ≡ false

abbrev pub is_group : Shape → Bool
is_group (group g times) = true
is_group other = false

-- the construct that a line begins, where it begins one
abbrev pub IsGroup : Shape → Option (Group × Option Times) → Type 0
IsGroup s (Some found) = s ≡ group found.0 found.1
IsGroup s None = is_group s ≡ false

abbrev pub same_group : Group → Group → Bool
same_group word.Seq word.Seq = true
same_group word.Par word.Par = true
same_group word.If word.If = true
same_group word.Alt word.Alt = true
same_group g h = false

abbrev pub begins : Group → Shape → Bool
begins w (group g times) = same_group g w
begins w other = false

-- how often a line that begins that construct has it, where it begins one
abbrev pub IsNested : Shape → Group → Option (Option Times) → Type 0
IsNested s w (Some times) = s ≡ group w times
IsNested s w None = begins w s ≡ false

abbrev pub is_condition : Shape → Bool
is_condition (condition e) = true
is_condition other = false

-- the condition that a line is, where it is one
abbrev pub IsCondition : Shape → Option (Bor Phrase) → Type 0
IsCondition s (Some e) = s ≡ condition (said e.now)
IsCondition s None = is_condition s ≡ false

-- a line that is a guard where it stands among alternatives
abbrev pub is_guard : Shape → Bool
is_guard (receive c x) = true
is_guard (send c e) = true
is_guard (guard e w) = true
is_guard other = false
