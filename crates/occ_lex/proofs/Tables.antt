-- Each reserved word and each sign is in its table, and what stands behind an entry of a table.
use Rattle.std.proofs.Common.{◌≡◌, ℕ, Bool, true, false, cond, List, length, Option, Some, None, Ok, Err, refl, sym, ap, subst, ◌∙◌, leb, ◌&&◌}
use Rattle.std.specs.Prelude.{is_some, is_ok, IsSome, IsTrue}
use Rattle.std.proofs.lemmas.Bool.{both_ways, and_from, cond-true}
use Rattle.occ_lex.specs.declared.token.TokenKind.{TokenKind}
use Rattle.occ_lex.specs.declared.token.TokenKind.TheVariants as kind
use Rattle.occ_lex.specs.Spelling.{is_name, is_numeral, is_reserved, is_sign, kind_of, numeral_value, reserved_words, signs, value_of}
use Rattle.occ_lex.specs.Tokens.{judged}
use Rattle.occ_lex.proofs.Classes.{in_table}
use Rattle.occ_lex.specs.declared.fault.LineFault.TheVariants as fault
use Rattle.occ_lex.specs.declared.symbol.Keyword.{Keyword}
use Rattle.occ_lex.specs.declared.symbol.Sign.{Sign}
use Rattle.occ_lex.specs.SymbolWords.{keyword_of, sign_of}

is_keyword : List ℕ → Bool
is_keyword text = is_some (keyword_of text)

has_sign : List ℕ → Bool
has_sign text = is_some (sign_of text)

pub word_known : (text : List ℕ) → is_reserved text ≡ true → IsSome (keyword_of text)
unfolding is_reserved is_keyword keyword_of
word_known text h = in_table is_keyword reserved_words text refl h

pub sign_known : (text : List ℕ) → is_sign text ≡ true → IsSome (sign_of text)
unfolding is_sign has_sign sign_of
sign_known text h = in_table has_sign signs text refl h

-- a kind says which test holds
kind_cases : (reserved named numeral sign : Bool) (k : TokenKind)
    → cond reserved (Some kind.Word) (cond named (Some kind.Name) (cond numeral (Some kind.Numeral) (cond sign (Some kind.Sign) None))) ≡ Some k
    → (k ≡ kind.Word → reserved ≡ true) × (k ≡ kind.Sign → sign ≡ true) × (k ≡ kind.Numeral → numeral ≡ true)
kind_cases true named numeral sign k h = (λ e. refl, λ e. absurd cc, λ e. absurd cc)
kind_cases false true numeral sign k h = (λ e. absurd cc, λ e. absurd cc, λ e. absurd cc)
kind_cases false false true sign k h = (λ e. absurd cc, λ e. absurd cc, λ e. refl)
kind_cases false false false true k h = (λ e. absurd cc, λ e. refl, λ e. absurd cc)
kind_cases false false false false k h = absurd cc

pub word_is : (text : List ℕ) → kind_of text ≡ Some kind.Word → is_reserved text ≡ true
unfolding kind_of
word_is text h = (kind_cases (is_reserved text) (is_name text) (is_numeral text) (is_sign text) kind.Word h).0 refl

pub sign_is : (text : List ℕ) → kind_of text ≡ Some kind.Sign → is_sign text ≡ true
unfolding kind_of
sign_is text h = (kind_cases (is_reserved text) (is_name text) (is_numeral text) (is_sign text) kind.Sign h).1 refl

pub numeral_is : (text : List ℕ) → kind_of text ≡ Some kind.Numeral → is_numeral text ≡ true
unfolding kind_of
numeral_is text h = (kind_cases (is_reserved text) (is_name text) (is_numeral text) (is_sign text) kind.Numeral h).2 refl

ok_cond : {A E : Type 0} (b : Bool) (x : A) (e : E) → is_ok (cond b (Ok x) (Err e)) ≡ true → b ≡ true
ok_cond true x e h = refl
ok_cond false x e h = absurd (both_ways false refl h)

-- a numeral without fault has its value
value_known : (text : List ℕ) → kind_of text ≡ Some kind.Numeral → IsTrue (is_ok (judged (Some kind.Numeral) text)) → numeral_value text ≡ Some (value_of text)
unfolding numeral_value
value_known text k good = cond-true (is_numeral text && leb (value_of text) 255) (Some (value_of text)) None (and_from (is_numeral text) (leb (value_of text) 255) (numeral_is text k) (ok_cond (leb (value_of text) 255) (kind.Numeral, length text) fault.Number good))

pub token_value : (text t : List ℕ) (k : TokenKind) (r : Option ℕ) → kind_of text ≡ Some k → IsTrue (is_ok (judged (Some k) text)) → k ≡ kind.Numeral → t ≡ text → r ≡ numeral_value t → r ≡ Some (value_of text)
token_value text t k r spelled good is same found =
    found ∙ ap numeral_value same ∙ value_known text (spelled ∙ ap (λ k. Some k) is) (subst (λ k. IsTrue (is_ok (judged (Some k) text))) is good)

pub token_word : (text t : List ℕ) (k : TokenKind) (r : Option Keyword) → kind_of text ≡ Some k → k ≡ kind.Word → t ≡ text → r ≡ keyword_of t → IsSome r
token_word text t k r spelled is same found =
    subst (λ r. IsSome r) (sym (found ∙ ap keyword_of same)) (word_known text (word_is text (spelled ∙ ap (λ k. Some k) is)))

pub token_sign : (text t : List ℕ) (k : TokenKind) (r : Option Sign) → kind_of text ≡ Some k → k ≡ kind.Sign → t ≡ text → r ≡ sign_of t → IsSome r
token_sign text t k r spelled is same found =
    subst (λ r. IsSome r) (sym (found ∙ ap sign_of same)) (sign_known text (sign_is text (spelled ∙ ap (λ k. Some k) is)))

pub no_some : {A : Type 0} (r : Option A) → r ≡ None → IsSome r → ⊥
no_some r none some = both_ways (is_some r) (ap (λ r. is_some r) none) some
