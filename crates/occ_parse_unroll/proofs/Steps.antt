-- Counting controls line by line, up to a limit.
use Rattle.std.proofs.Common.{◌≡◌, ℕ, zero, suc, ◌+◌, min, false, List, length, refl, ap, sym, ◌∙◌, arith, ⊎_elim}
use Rattle.occ_syntax.specs.occ_base.declared.names.Name.{Name}
use Rattle.occ_syntax.specs.declared.scope.Kind.{Kind}
use Rattle.occ_parse_forms.specs.declared.form.Declared.{Declared}
use Rattle.occ_parse_forms.specs.declared.form.Declared.TheVariants as declared
use Rattle.occ_parse_forms.specs.Shape.{Shape}
use Rattle.occ_parse_forms.specs.Shape as line
use Rattle.occ_parse_rules.specs.Forest.{Forest, no_line, and_line}
use Rattle.occ_parse_rules.specs.Places.{places, elements_from}
use Rattle.occ_parse_unroll.specs.Reading.{is_declaration}
use Rattle.occ_parse_unroll.specs.Sizes.{names_in, process_size, parts_size, first_size, case_size, branch_size, sizes}
use Rattle.occ_parse_unroll.proofs.Others.{parts_size_other, first_size_other, declaration_or_other}

pub length-elements_from : (x k n : ℕ) → length (elements_from x k n) ≡ n
length-elements_from x k zero = refl
length-elements_from x k (suc n) = omega (arith, length-elements_from x (k + 1) n)

pub places_of_array : (d : Declared) (x : Name) (n : ℕ) → d ≡ declared.Array x n → n ≡ length (places d)
places_of_array d x n e = sym (ap (λ d'. length (places d')) e ∙ length-elements_from x.0 0 n)

pub parts_cap : (f : Forest) (w : ℕ) → min 4097 ((sizes f).parts (min 4097 w)) ≡ min 4097 ((sizes f).parts w)
parts_cap no_line w = refl
parts_cap (and_line number s below rest) w = ⊎_elim
    (λ (h : is_declaration s ≡ false).
    omega (arith, parts_size_other s (sizes below) (sizes rest) w h, parts_size_other s (sizes below) (sizes rest) (min 4097 w) h))
    (λ (d : (kind : Kind) × (ds : List Declared) × (s ≡ line.declare kind ds)).
    let n = names_in d.1 in
    let inner : min 4097 (min 4097 w + n) ≡ min 4097 (w + n) = omega arith in
    ap (λ s'. min 4097 (parts_size s' (sizes below) (sizes rest) (min 4097 w))) d.2
    ∙ sym (parts_cap rest (min 4097 w + n))
    ∙ ap (λ m. min 4097 ((sizes rest).parts m)) inner
    ∙ parts_cap rest (w + n)
    ∙ sym (ap (λ s'. min 4097 (parts_size s' (sizes below) (sizes rest) w)) d.2))
    (declaration_or_other s)

pub first_cap : (f : Forest) (w : ℕ) → min 4097 ((sizes f).first (min 4097 w)) ≡ min 4097 ((sizes f).first w)
first_cap no_line w = refl
first_cap (and_line number s below rest) w = ⊎_elim
    (λ (h : is_declaration s ≡ false).
    omega (arith, first_size_other s (sizes below) (sizes rest) w h, first_size_other s (sizes below) (sizes rest) (min 4097 w) h))
    (λ (d : (kind : Kind) × (ds : List Declared) × (s ≡ line.declare kind ds)).
    let n = names_in d.1 in
    let inner : min 4097 (min 4097 w + n) ≡ min 4097 (w + n) = omega arith in
    ap (λ s'. min 4097 (first_size s' (sizes below) (sizes rest) (min 4097 w))) d.2
    ∙ sym (first_cap rest (min 4097 w + n))
    ∙ ap (λ m. min 4097 ((sizes rest).first m)) inner
    ∙ first_cap rest (w + n)
    ∙ sym (ap (λ s'. min 4097 (first_size s' (sizes below) (sizes rest) w)) d.2))
    (declaration_or_other s)

-- ---- one line more

module _ (f : Forest) (number : ℕ) (s : Shape) (below rest : Forest) (e : f ≡ and_line number s below rest) where
  pub parts_declaration : (kind : Kind) (ds : List Declared) (count waiting names next total : ℕ) → s ≡ line.declare kind ds
      → names ≡ min 4097 (names_in ds) → next ≡ min (waiting + names) 4097
      → min 4097 (count + (sizes f).parts waiting) ≡ total → min 4097 (count + (sizes rest).parts next) ≡ total
  parts_declaration kind ds count waiting names next total d n w h =
      let here : (sizes f).parts waiting ≡ (sizes rest).parts (waiting + names_in ds) =
      ap (λ g. (sizes g).parts waiting) e ∙ ap (λ s'. parts_size s' (sizes below) (sizes rest) waiting) d in
      let same : next ≡ min 4097 (waiting + names_in ds) = omega arith in
      let capped : min 4097 ((sizes rest).parts next) ≡ min 4097 ((sizes rest).parts (waiting + names_in ds)) =
      ap (λ m. min 4097 ((sizes rest).parts m)) same ∙ parts_cap rest (waiting + names_in ds) in
      omega (arith, here, capped, h)

  pub parts_process : (count waiting p next total : ℕ) → is_declaration s ≡ false
      → p ≡ min 4097 (process_size s (sizes below)) → next ≡ min (count + waiting + p) 4097
      → min 4097 (count + (sizes f).parts waiting) ≡ total → min 4097 (next + (sizes rest).parts 0) ≡ total
  parts_process count waiting p next total d n w h =
      let here : (sizes f).parts waiting ≡ waiting + process_size s (sizes below) + (sizes rest).parts 0 =
      ap (λ g. (sizes g).parts waiting) e ∙ parts_size_other s (sizes below) (sizes rest) waiting d in
      omega (arith, here, n, w, h)

  pub first_declaration : (kind : Kind) (ds : List Declared) (waiting names next total : ℕ) → s ≡ line.declare kind ds
      → names ≡ min 4097 (names_in ds) → next ≡ min (waiting + names) 4097
      → min 4097 ((sizes f).first waiting) ≡ total → min 4097 ((sizes rest).first next) ≡ total
  first_declaration kind ds waiting names next total d n w h =
      let here : (sizes f).first waiting ≡ (sizes rest).first (waiting + names_in ds) =
      ap (λ g. (sizes g).first waiting) e ∙ ap (λ s'. first_size s' (sizes below) (sizes rest) waiting) d in
      let same : next ≡ min 4097 (waiting + names_in ds) = omega arith in
      let capped : min 4097 ((sizes rest).first next) ≡ min 4097 ((sizes rest).first (waiting + names_in ds)) =
      ap (λ m. min 4097 ((sizes rest).first m)) same ∙ first_cap rest (waiting + names_in ds) in
      omega (arith, here, capped, h)

  pub cases_more : (count c next total : ℕ) → c ≡ min 4097 (case_size s (sizes below)) → next ≡ min (count + c) 4097
      → min 4097 (count + (sizes f).cases) ≡ total → min 4097 (next + (sizes rest).cases) ≡ total
  cases_more count c next total n w h =
      let here : (sizes f).cases ≡ case_size s (sizes below) + (sizes rest).cases = ap (λ g. (sizes g).cases) e in
      omega (arith, here, n, w, h)

  pub branches_more : (count c next total : ℕ) → c ≡ min 4097 (branch_size s (sizes below)) → next ≡ min (count + c) 4097
      → min 4097 (count + (sizes f).branches) ≡ total → min 4097 (next + (sizes rest).branches) ≡ total
  branches_more count c next total n w h =
      let here : (sizes f).branches ≡ branch_size s (sizes below) + (sizes rest).branches = ap (λ g. (sizes g).branches) e in
      omega (arith, here, n, w, h)
