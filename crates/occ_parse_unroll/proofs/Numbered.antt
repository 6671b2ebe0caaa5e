-- The numbers of the lines of processes, one after another.
use Rattle.std.proofs.Common.{◌≡◌, ℕ, zero, suc, ◌+◌, ◌-◌, ◌<◌, List, [], ◌∷◌, ◌++◌, length, get_or, drop, replicate, refl, sym, ap, ◌∙◌, arith, append_assoc, length-append}
use Rattle.std.specs.List.{flat_map}
use Rattle.std.proofs.lemmas.List.{drop_more, append-nil}
use Rattle.occ_parse_forms.specs.declared.form.Declared.{Declared}
use Rattle.occ_parse_forms.specs.Shape.{Shape}
use Rattle.occ_parse_rules.specs.Forest.{Forest, and_line}
use Rattle.occ_parse_rules.specs.Places.{places}
use Rattle.occ_parse_rules.specs.Unrolled.{lined, lined_part, lined_option, repeated}

replicate_more : {A : Type 0} (n m : ℕ) (a : A) → replicate n a ++ replicate m a ≡ replicate (n + m) a
replicate_more zero m a = ap (λ k. replicate k a) (omega arith)
replicate_more (suc n) m a =
    let e : suc n + m ≡ suc (n + m) = omega arith in
    ap (λ xs. a ∷ xs) (replicate_more n m a) ∙ sym (ap (λ k. replicate k a) e)

-- the names of one declaration more
pub declared_more : (ds : List Declared) (i : ℕ) (z : Declared) (n line : ℕ) (xs ys total : List ℕ) → i < length ds → n ≡ length (places (get_or ds i z)) → ys ≡ xs ++ replicate n line
    → xs ++ replicate (length (flat_map places (drop i ds))) line ≡ total → ys ++ replicate (length (flat_map places (drop (i + 1) ds))) line ≡ total
declared_more ds i z n line xs ys total h e p t =
    let rest = length (flat_map places (drop (i + 1) ds)) in
    let all : length (flat_map places (drop i ds)) ≡ n + rest =
    ap (λ us. length (flat_map places us)) (drop_more ds i z h) ∙ length-append (places (get_or ds i z)) (flat_map places (drop (i + 1) ds)) ∙ ap (λ m. m + rest) (sym e) in
    ap (λ zs. zs ++ replicate rest line) p
    ∙ append_assoc xs (replicate n line) (replicate rest line)
    ∙ ap (λ zs. xs ++ zs) (replicate_more n rest line)
    ∙ sym (ap (λ m. xs ++ replicate m line) all)
    ∙ t

-- one copy more
pub again_more : (n k : ℕ) (one xs ys total : List ℕ) → k < n → ys ≡ xs ++ one → xs ++ repeated (n - k) one ≡ total → ys ++ repeated (n - (k + 1)) one ≡ total
again_more n k one xs ys total h e t =
    let more : n - k ≡ suc (n - (k + 1)) = omega arith in
    ap (λ zs. zs ++ repeated (n - (k + 1)) one) e
    ∙ append_assoc xs one (repeated (n - (k + 1)) one)
    ∙ sym (ap (λ m. xs ++ repeated m one) more)
    ∙ t

-- copies of nothing are nothing
nothing_again : (n : ℕ) → repeated {A = ℕ} n [] ≡ []
nothing_again zero = refl
nothing_again (suc n) = nothing_again n

no_length : (xs : List ℕ) → length xs ≡ 0 → xs ≡ []
no_length [] h = refl
no_length (x ∷ xs) h = absurd (omega arith)

pub again_nothing : (n : ℕ) (one xs ys total : List ℕ) → ys ≡ xs ++ one → length ys ≡ length xs → xs ++ repeated n one ≡ total → ys ≡ total
again_nothing n one xs ys total e l t =
    let none : one ≡ [] = no_length one (omega (arith, l, ap length e, length-append xs one)) in
    e ∙ ap (λ o. xs ++ o) none ∙ append-nil xs ∙ sym (append-nil xs) ∙ sym (ap (λ o. xs ++ o) (ap (repeated n) none ∙ nothing_again n)) ∙ t

-- one line more
module _ (f : Forest) (number : ℕ) (s : Shape) (below rest : Forest) (e : f ≡ and_line number s below rest) where
  pub parts_numbered : (xs ys total : List ℕ) → ys ≡ xs ++ lined_part number s (lined below) → xs ++ (lined f).parts ≡ total → ys ++ (lined rest).parts ≡ total
  parts_numbered xs ys total h t =
      ap (λ zs. zs ++ (lined rest).parts) h
      ∙ append_assoc xs (lined_part number s (lined below)) (lined rest).parts
      ∙ sym (ap (λ g. xs ++ (lined g).parts) e)
      ∙ t

  pub options_numbered : (xs ys total : List ℕ) → ys ≡ xs ++ lined_option s (lined below) → xs ++ (lined f).options ≡ total → ys ++ (lined rest).options ≡ total
  options_numbered xs ys total h t =
      ap (λ zs. zs ++ (lined rest).options) h
      ∙ append_assoc xs (lined_option s (lined below)) (lined rest).options
      ∙ sym (ap (λ g. xs ++ (lined g).options) e)
      ∙ t
