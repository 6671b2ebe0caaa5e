-- Texts that are names, since their second byte is none of a reserved word.
use Rattle.std.proofs.Common.{◌≡◌, ℕ, ◌<◌, ◌≤◌, Bool, true, false, cond, get_or, leb, ◌&&◌, List, [], ◌∷◌, length, Some, None, refl, sym, ◌∙◌, arith}
use Rattle.std.specs.List.{list_all}
use Rattle.std.proofs.lemmas.Bool.{and_from, false_from_ne_true, leb-true}
use Rattle.occ_lex.specs.declared.token.TokenKind.TheVariants as kind
use Rattle.occ_lex.specs.Spelling.{is_letter, is_name, is_name_byte, is_numeral, is_reserved, is_sign, kind_of, reserved_words}
use Rattle.occ_lex.proofs.Classes.{in_table}
use Rattle.occ_lex.specs.Growth.{IsNameText}

-- the second byte of a reserved word is a capital letter
has_capital : List ℕ → Bool
has_capital text = leb 65 (get_or text 1 0)

reserved_capital : (text : List ℕ) → is_reserved text ≡ true → has_capital text ≡ true
unfolding is_reserved has_capital
reserved_capital text h = in_table has_capital reserved_words text refl h

not_reserved : (a b : ℕ) (rest : List ℕ) → b < 65 → is_reserved (a ∷ b ∷ rest) ≡ false
unfolding has_capital
not_reserved a b rest low =
    false_from_ne_true (is_reserved (a ∷ b ∷ rest)) (λ h. let high : 65 ≤ b = leb-true 65 b (reserved_capital (a ∷ b ∷ rest) h) in absurd (omega (arith, low, high)))

named : (reserved name numeral sign : Bool) → reserved ≡ false → name ≡ true
    → cond reserved (Some kind.Word) (cond name (Some kind.Name) (cond numeral (Some kind.Numeral) (cond sign (Some kind.Sign) None))) ≡ Some kind.Name
named true name numeral sign r n = absurd cc
named false true numeral sign r n = refl
named false false numeral sign r n = absurd cc

-- a letter, and behind it a byte that is no letter, and more bytes of names
pub is_name_text : (a b : ℕ) (rest : List ℕ) → is_letter a ≡ true → b < 65 → list_all is_name_byte (b ∷ rest) ≡ true → length (a ∷ b ∷ rest) ≤ 32 → IsNameText (a ∷ b ∷ rest)
unfolding kind_of is_name
is_name_text a b rest letter low bytes short = record {
  kind = named (is_reserved (a ∷ b ∷ rest)) (is_name (a ∷ b ∷ rest)) (is_numeral (a ∷ b ∷ rest)) (is_sign (a ∷ b ∷ rest)) (not_reserved a b rest low)
      (and_from (is_letter a) (list_all is_name_byte (b ∷ rest)) letter bytes);
  short = short;
}
