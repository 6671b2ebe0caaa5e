-- What a line gives that is none of the lines asked for.
use Rattle.std.proofs.Common.{◌≡◌, ℕ, ◌+◌, false, List, [], refl, ◌⊎◌, inl, inr}
use Rattle.occ_syntax.specs.occ_base.declared.names.Name.{Name}
use Rattle.occ_syntax.specs.declared.scope.Kind.{Kind}
use Rattle.occ_syntax.specs.Tree.{and_tree}
use Rattle.occ_syntax.specs.Declarations.{declaring_all}
use Rattle.occ_parse_forms.specs.declared.form.Declared.{Declared}
use Rattle.occ_parse_forms.specs.Shape.{Shape}
use Rattle.occ_parse_forms.specs.Shape as line
use Rattle.occ_parse_rules.specs.Places.{Sorts, Indices}
use Rattle.occ_parse_rules.specs.Unrolled.{Numbers, Lines, process, part_line}
use Rattle.occ_parse_unroll.specs.Reading.{is_declaration}
use Rattle.occ_parse_unroll.specs.Sizes.{Sizes, process_size, parts_size, first_size}

-- a line that isn't a declaration begins a process
pub part_other : (N : Numbers) (s : Shape) (below rest : Lines) (outer Γ : Sorts) (waiting : List (Name × Kind)) (ρ : Indices) → is_declaration s ≡ false → part_line N s below rest outer Γ waiting ρ ≡ and_tree (declaring_all waiting (process N s below Γ ρ)) (rest.parts outer outer [] ρ)
part_other N (line.header name params) below rest outer Γ waiting ρ h = refl
part_other N line.close below rest outer Γ waiting ρ h = refl
part_other N line.skip below rest outer Γ waiting ρ h = refl
part_other N line.stop below rest outer Γ waiting ρ h = refl
part_other N (line.assign xs es) below rest outer Γ waiting ρ h = refl
part_other N (line.receive c x) below rest outer Γ waiting ρ h = refl
part_other N (line.send c e) below rest outer Γ waiting ρ h = refl
part_other N (line.group g times) below rest outer Γ waiting ρ h = refl
part_other N (line.declare kind ds) below rest outer Γ waiting ρ h = cc
part_other N (line.condition e) below rest outer Γ waiting ρ h = refl
part_other N (line.guard e w) below rest outer Γ waiting ρ h = refl
part_other N line.nothing below rest outer Γ waiting ρ h = refl

pub parts_size_other : (s : Shape) (below rest : Sizes) (waiting : ℕ) → is_declaration s ≡ false → parts_size s below rest waiting ≡ waiting + process_size s below + rest.parts 0
parts_size_other (line.header name params) below rest waiting h = refl
parts_size_other line.close below rest waiting h = refl
parts_size_other line.skip below rest waiting h = refl
parts_size_other line.stop below rest waiting h = refl
parts_size_other (line.assign xs es) below rest waiting h = refl
parts_size_other (line.receive c x) below rest waiting h = refl
parts_size_other (line.send c e) below rest waiting h = refl
parts_size_other (line.group g times) below rest waiting h = refl
parts_size_other (line.declare kind ds) below rest waiting h = cc
parts_size_other (line.condition e) below rest waiting h = refl
parts_size_other (line.guard e w) below rest waiting h = refl
parts_size_other line.nothing below rest waiting h = refl

pub first_size_other : (s : Shape) (below rest : Sizes) (waiting : ℕ) → is_declaration s ≡ false → first_size s below rest waiting ≡ waiting + process_size s below
first_size_other (line.header name params) below rest waiting h = refl
first_size_other line.close below rest waiting h = refl
first_size_other line.skip below rest waiting h = refl
first_size_other line.stop below rest waiting h = refl
first_size_other (line.assign xs es) below rest waiting h = refl
first_size_other (line.receive c x) below rest waiting h = refl
first_size_other (line.send c e) below rest waiting h = refl
first_size_other (line.group g times) below rest waiting h = refl
first_size_other (line.declare kind ds) below rest waiting h = cc
first_size_other (line.condition e) below rest waiting h = refl
first_size_other (line.guard e w) below rest waiting h = refl
first_size_other line.nothing below rest waiting h = refl

-- a line is a declaration or it is none
pub declaration_or_other : (s : Shape) → (is_declaration s ≡ false) ⊎ ((kind : Kind) × (ds : List Declared) × (s ≡ line.declare kind ds))
declaration_or_other (line.header name params) = inl refl
declaration_or_other line.close = inl refl
declaration_or_other line.skip = inl refl
declaration_or_other line.stop = inl refl
declaration_or_other (line.assign xs es) = inl refl
declaration_or_other (line.receive c x) = inl refl
declaration_or_other (line.send c e) = inl refl
declaration_or_other (line.group g times) = inl refl
declaration_or_other (line.declare kind ds) = inr (kind, ds, refl)
declaration_or_other (line.condition e) = inl refl
declaration_or_other (line.guard e w) = inl refl
declaration_or_other line.nothing = inl refl
