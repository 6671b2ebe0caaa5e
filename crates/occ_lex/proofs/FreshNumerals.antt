-- A letter, a dot and a number are a name.
use Rattle.std.proofs.Common.{◌≡◌, ℕ, ◌<◌, ◌≤◌, ◌^◌, true, List, [], ◌∷◌, length, Result, Ok, Err, OnOk, OnErr, refl, sym, subst, arith, lit<}
use Rattle.std.specs.Fmt.{decimal}
use Rattle.std.specs.List.{list_all}
use Rattle.std.specs.Str.Parse.{AllDigits}
use Rattle.std.proofs.lemmas.Bool.{and_from, le-leb}
use Rattle.std.proofs.lemmas.Fmt.{decimal_is_IsNumeral, length-decimal-le}
use Rattle.std.proofs.lemmas.Str.Parse.{digit_from_value}
use Rattle.occ_base.specs.declared.memory.Memory.{Memory}
use Rattle.occ_base.specs.declared.names.Name.{Name}
use Rattle.occ_base.specs.Names.{with_text}
use Rattle.occ_lex.specs.Spelling.{is_digit, is_letter, is_name_byte}
use Rattle.occ_lex.proofs.Classes.{digit_name_byte}
use Rattle.occ_lex.specs.Growth.{GrowsByNames, IsNameText, numbered_text}
use Rattle.occ_lex.proofs.Growing.{grows_not, grows_once}
use Rattle.occ_lex.proofs.Spelled.{is_name_text}

digits_of_names : (ds : List ℕ) → AllDigits 10 ds → list_all is_name_byte ds ≡ true
digits_of_names [] h = refl
digits_of_names (d ∷ ds) h =
    let range = digit_from_value d h.0 in
    let digit : is_digit d ≡ true = and_from _ _ (le-leb 48 d range.0) (le-leb d 57 range.1) in
    and_from (is_name_byte d) (list_all is_name_byte ds) (digit_name_byte d digit) (digits_of_names ds h.1)

numbered_name : (letter number : ℕ) → is_letter letter ≡ true → number < 2 ^ 64 → IsNameText (numbered_text letter number)
numbered_name letter number h low =
    let digits = decimal_is_IsNumeral number low in
    let short : length (decimal number) ≤ 20 = length-decimal-le 20 number (lit< tt) (omega (arith, low)) low in
    let few : length (numbered_text letter number) ≤ 32 = omega (arith, short) in
    is_name_text letter 46 (decimal number) h (lit< tt) (digits_of_names (decimal number) digits.0.1) few

-- what a table is behind an attempt to give it the name
pub numbered_grown : (old new : List (List ℕ)) (letter number : ℕ) (text : List ℕ) (r : Result Name Memory) → is_letter letter ≡ true → number < 2 ^ 64
    → text ≡ numbered_text letter number → OnOk r (new ≡ with_text old text) → OnErr r (new ≡ old) → GrowsByNames old new
numbered_grown old new letter number text (Ok name) h low e made failed =
    subst (GrowsByNames old) (sym made)
    (subst (λ t. GrowsByNames old (with_text old t)) (sym e) (grows_once old (numbered_text letter number) (numbered_name letter number h low)))
numbered_grown old new letter number text (Err m) h low e made failed = subst (GrowsByNames old) (sym failed) (grows_not old)
