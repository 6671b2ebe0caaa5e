-- What the readings of single symbols find.
use Rattle.std.proofs.Common.{◌≡◌, ℕ, ◌⊎◌, inl, inr, true, List, [], ◌∷◌, Option, Some, None, refl, sym, ap, ◌∙◌, rules}
use Rattle.std.proofs.lemmas.Bool.{cases_Bool, cond-true, cond-false}
use Rattle.occ_lex.specs.occ_base.declared.names.Name.{Name}
use Rattle.occ_lex.specs.occ_base.declared.width.Width.{Width}
use Rattle.occ_lex.specs.declared.symbol.Keyword.{Keyword}
use Rattle.occ_lex.specs.declared.symbol.Keyword.TheVariants as word
use Rattle.occ_lex.specs.declared.symbol.Symbol.{Symbol}
use Rattle.occ_lex.specs.declared.symbol.Symbol.TheVariants as symbol
use Rattle.occ_parse_forms.specs.Symbols.{then_read, alone, same_symbol, behind, name_first, numeral_first, width_in, width_first}

pub read_ok : {A B : Type 0} (o : Option A) (f : A → Option B) (y : B) → then_read o f ≡ Some y → (x : A) × (o ≡ Some x) × (f x ≡ Some y)
read_ok None f y h = absurd cc
read_ok (Some x) f y h = (x, refl, h)

pub alone_ok : {A : Type 0} (x y : A) (rest : List Symbol) → alone x rest ≡ Some y → (rest ≡ []) × (x ≡ y)
alone_ok x y [] h = (refl, cc)
alone_ok x y (s ∷ rest) h = absurd cc

pub some_is : {A : Type 0} (x y : A) → Some x ≡ Some y → x ≡ y
some_is x y h = cc

pub same_is : (s t : Symbol) → same_symbol s t ≡ true → s ≡ t
same_is s t h = search rules

pub behind_ok : (wanted : Symbol) (symbols rest : List Symbol) → behind wanted symbols ≡ Some rest → symbols ≡ wanted ∷ rest
behind_ok wanted [] rest h = absurd cc
behind_ok wanted (s ∷ symbols) rest h = elim (cases_Bool (same_symbol s wanted)) [
  | inl t ↦
      let e : symbols ≡ rest = some_is symbols rest (sym (cond-true (same_symbol s wanted) _ _ t) ∙ h) in
      λ i. same_is s wanted t i ∷ e i
  | inr f ↦ let e : None ≡ Some rest = sym (cond-false (same_symbol s wanted) _ _ f) ∙ h in absurd cc
]

pub name_ok : (symbols : List Symbol) (f : Name × List Symbol) → name_first symbols ≡ Some f → symbols ≡ symbol.Name f.0 ∷ f.1
name_ok [] f h = absurd cc
name_ok (symbol.Name name ∷ rest) f h = ap (λ f. symbol.Name f.0 ∷ f.1) (some_is (name, rest) f h)
name_ok (symbol.Numeral value ∷ rest) f h = absurd cc
name_ok (symbol.Keyword k ∷ rest) f h = absurd cc
name_ok (symbol.Sign s ∷ rest) f h = absurd cc

pub numeral_ok : (symbols : List Symbol) (f : ℕ × List Symbol) → numeral_first symbols ≡ Some f → symbols ≡ symbol.Numeral f.0 ∷ f.1
numeral_ok [] f h = absurd cc
numeral_ok (symbol.Name name ∷ rest) f h = absurd cc
numeral_ok (symbol.Numeral value ∷ rest) f h = ap (λ f. symbol.Numeral f.0 ∷ f.1) (some_is (value, rest) f h)
numeral_ok (symbol.Keyword k ∷ rest) f h = absurd cc
numeral_ok (symbol.Sign s ∷ rest) f h = absurd cc

width_in_ok : (k : Keyword) (w : Width) → width_in k ≡ Some w → k ≡ word.Width w
width_in_ok (word.Width v) w h = ap (λ w. word.Width w) (some_is v w h)
width_in_ok k w h = absurd cc

pub width_ok : (symbols : List Symbol) (f : Width × List Symbol) → width_first symbols ≡ Some f → symbols ≡ symbol.Keyword (word.Width f.0) ∷ f.1
width_ok [] f h = absurd cc
width_ok (symbol.Name name ∷ rest) f h = absurd cc
width_ok (symbol.Numeral value ∷ rest) f h = absurd cc
width_ok (symbol.Keyword k ∷ rest) f h =
    let r = read_ok (width_in k) (λ width. Some (width, rest)) f h in
    (λ i. symbol.Keyword (width_in_ok k r.0 r.1 i) ∷ rest) ∙ ap (λ f. symbol.Keyword (word.Width f.0) ∷ f.1) (some_is (r.0, rest) f r.2)
width_ok (symbol.Sign s ∷ rest) f h = absurd cc

pub inspect : {A : Type 0} (o : Option A) → (o ≡ None) ⊎ ((x : A) × (o ≡ Some x))
inspect None = inl refl
inspect (Some x) = inr (x, refl)
