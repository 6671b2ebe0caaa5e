-- The bytes of names of parameters, and which parameter a name is.
use Rattle.std.proofs.Common.{◌≡◌, ℕ, ◌<◌, Bool, true, false, eqb, ◌&&◌, ◌||◌, List, [], ◌∷◌, ◌++◌, length, Option, None, Some, refl, sym, ap, ◌∙◌, subst}
use Rattle.std.specs.Prelude.{slice_get, unwrap_or}
use Rattle.std.specs.List.{list_all, AllByRecursion}
use Rattle.std.proofs.lemmas.Bool.{and_parts, and_from, or_left, both_ways}
use Rattle.std.proofs.lemmas.List.Folds.{list_all-append}
use Rattle.std.proofs.lemmas.Option.{slice_get-get_or}
use Rattle.occ_lex.specs.occ_base.declared.names.Name.{Name}
use Rattle.occ_lex.specs.occ_base.Names.{IsDistinct}
use Rattle.occ_syntax.specs.declared.scope.Kind.{Kind}
use Rattle.occ_lex.specs.declared.token.TokenKind.{TokenKind}
use Rattle.occ_lex.specs.declared.token.TokenKind.TheVariants as token
use Rattle.occ_lex.specs.Spelling.{is_letter, is_digit, is_name_byte, is_name, kind_of}
use Rattle.occ_lex.proofs.Classes.{letter_name_byte, digit_name_byte}
use Rattle.occ_lex.proofs.Printing.{spelled}
use Rattle.occ_nform_table.specs.Words.{then_read, before, cut, small_number_of}
use Rattle.occ_nform_table.specs.Lines.{is_name_kind, is_plain, is_place, closes, is_element, is_param_name, text_of, can_follow}
use Rattle.occ_nform_table.specs.Tables.{is_marked, are_params}
use Rattle.occ_nform_table.proofs.WrittenWords.{all_weaker, before_is, cut_is}
use Rattle.occ_nform_table.proofs.WrittenNumerals.{number_digits}

-- a letter, a digit, a dot or a bracket
abbrev pub is_param_byte : ℕ → Bool
is_param_byte b = is_name_byte b || (eqb b 91 || eqb b 93)

name_byte : (b : ℕ) → is_name_byte b ≡ true → is_param_byte b ≡ true
name_byte b h = or_left (is_name_byte b) (eqb b 91 || eqb b 93) h

name_bytes : (text : List ℕ) → is_name text ≡ true → list_all is_param_byte text ≡ true
unfolding is_name
name_bytes [] h = refl
name_bytes (b ∷ text) h =
    let parts = and_parts (is_letter b) (list_all is_name_byte text) h in
    and_from (is_param_byte b) (list_all is_param_byte text) (name_byte b (letter_name_byte b parts.0)) (all_weaker is_name_byte is_param_byte name_byte text parts.1)

kind_bytes : (text : List ℕ) (k : Option TokenKind) → kind_of text ≡ k → is_name_kind k ≡ true → list_all is_param_byte text ≡ true
kind_bytes text (Some token.Name) e h = name_bytes text (spelled text token.Name e)
kind_bytes text (Some token.Word) e h = absurd cc
kind_bytes text (Some token.Numeral) e h = absurd cc
kind_bytes text (Some token.Sign) e h = absurd cc
kind_bytes text None e h = absurd cc

plain_bytes : (text : List ℕ) → is_plain text ≡ true → list_all is_param_byte text ≡ true
unfolding is_plain
plain_bytes text h = kind_bytes text (kind_of text) refl (and_parts _ (is_name_kind (kind_of text)) h).1

digits_bytes : (text : List ℕ) → list_all is_digit text ≡ true → list_all is_param_byte text ≡ true
digits_bytes text h = all_weaker is_digit is_param_byte (λ b k. name_byte b (digit_name_byte b k)) text h

all-append : (p : ℕ → Bool) (front rest : List ℕ) → list_all p front ≡ true → list_all p rest ≡ true → list_all p (front ++ rest) ≡ true
all-append p front rest h k = list_all-append p front rest ∙ and_from (list_all p front) (list_all p rest) h k

closes_bytes : (text : List ℕ) → closes text ≡ true → list_all is_param_byte text ≡ true
unfolding closes
closes_bytes text h = at (before (93 ∷ []) text) refl h
  where
    number_at : (front : List ℕ) (o : Option ℕ) → small_number_of front ≡ o → is_place o ≡ true → list_all is_param_byte front ≡ true
    number_at front None e k = absurd cc
    number_at front (Some n) e k = digits_bytes front (number_digits front n e)

    at : (o : Option (List ℕ)) → before (93 ∷ []) text ≡ o → is_place (then_read o small_number_of) ≡ true → list_all is_param_byte text ≡ true
    at None e k = absurd cc
    at (Some front) e k =
        subst (λ t. list_all is_param_byte t ≡ true) (sym (before_is (93 ∷ []) text front e))
        (all-append is_param_byte front (93 ∷ []) (number_at front (small_number_of front) refl k) refl)

pub param_bytes : (text : List ℕ) → is_param_name text ≡ true → list_all is_param_byte text ≡ true
unfolding is_param_name
param_bytes text h = at (cut 91 text) refl h
  where
    at : (o : Option (List ℕ × List ℕ)) → cut 91 text ≡ o → is_element o text ≡ true → list_all is_param_byte text ≡ true
    at None e k = plain_bytes text k
    at (Some (front, rest)) e k =
        let parts = and_parts (is_plain front) (closes rest) k in
        subst (λ t. list_all is_param_byte t ≡ true) (sym (cut_is 91 text front rest e))
        (all-append is_param_byte front (91 ∷ rest) (plain_bytes front parts.0) (and_from (is_param_byte 91) (list_all is_param_byte rest) refl (closes_bytes rest parts.1)))

-- ---- texts in front of a byte that they don't have

first_byte : {x y : ℕ} {xs ys : List ℕ} → x ∷ xs ≡ y ∷ ys → x ≡ y
first_byte e = cc

other_bytes : {x y : ℕ} {xs ys : List ℕ} → x ∷ xs ≡ y ∷ ys → xs ≡ ys
other_bytes e = cc

outside : (p : ℕ → Bool) (x y : ℕ) (ys : List ℕ) → p x ≡ false → x ≡ y → list_all p (y ∷ ys) ≡ true → ⊥
outside p x y ys out e h = both_ways (p x) out (ap p e ∙ (and_parts (p y) (list_all p ys) h).0)

pub one_front : (p : ℕ → Bool) (a b : List ℕ) (x y : ℕ) (s t : List ℕ) → list_all p a ≡ true → list_all p b ≡ true → p x ≡ false → p y ≡ false → a ++ x ∷ s ≡ b ++ y ∷ t → a ≡ b
one_front p [] [] x y s t h k out other e = refl
one_front p [] (c ∷ b) x y s t h k out other e = absurd (outside p x c b out (first_byte e) k)
one_front p (c ∷ a) [] x y s t h k out other e = absurd (outside p y c a other (sym (first_byte e)) h)
one_front p (c ∷ a) (d ∷ b) x y s t h k out other e =
    let rest = one_front p a b x y s t (and_parts (p c) (list_all p a) h).1 (and_parts (p d) (list_all p b) k).1 out other (other_bytes e) in
    ap (λ z. z ∷ a) (first_byte e) ∙ ap (λ zs. d ∷ zs) rest

-- ---- the parameters' names

module _ (names : List (List ℕ)) where
  pub text_there : (name : Name) → name.0 < length names → slice_get names name.0 ≡ Some (text_of names name)
  text_there name h = let e = slice_get-get_or names name.0 [] h in e ∙ sym (ap (λ o. Some (unwrap_or o [])) e)

  pub one_number : IsDistinct names → (x y : Name) → x.0 < length names → y.0 < length names → text_of names x ≡ text_of names y → x.0 ≡ y.0
  one_number distinct x y h k e = distinct x.0 y.0 (text_of names y) (text_there x h ∙ ap Some e) (text_there y k)

  -- a parameter has a name as a program can have it, and a mark where it is a channel
  abbrev pub IsNamed : Name × Kind → Type 0
  IsNamed p = (is_param_name (text_of names p.0) ≡ true) × (is_marked p.1 ≡ true)

  pub are_named : (before params : List (Name × Kind)) → are_params names before params ≡ true → AllByRecursion IsNamed params
  unfolding are_params
  are_named front [] h = tt
  are_named front (p ∷ params) h =
      let follow = can_follow names front (text_of names p.0, p.1) in
      let parts = and_parts (is_param_name (text_of names p.0) && is_marked p.1 && follow) (are_params names (front ++ p ∷ []) params) h in
      (and_parts (is_param_name (text_of names p.0)) (is_marked p.1) (and_parts (is_param_name (text_of names p.0) && is_marked p.1) follow parts.0).0, are_named (front ++ p ∷ []) params parts.1)
