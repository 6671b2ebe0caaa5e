-- The longest token in front of bytes.
use Rattle.std.proofs.Common.{◌≡◌, ℕ, zero, suc, ◌+◌, ◌<◌, ◌≤◌, Bool, true, false, cond, leb, ◌&&◌, List, [], ◌∷◌, length, get_or, take, refl, sym, subst, ◌∙◌, arith, ⊎_elim}
use Rattle.std.specs.Prelude.{is_some}
use Rattle.std.specs.List.{list_all, prefix_len}
use Rattle.std.proofs.lemmas.Bool.{and_parts, and_from, and_left, and_right, leb-true, le-leb, cases_Bool, cases_eq, cases_lt, cond-true, cond-false, both_ways}
use Rattle.std.proofs.lemmas.List.{length-take-le}
use Rattle.std.proofs.lemmas.List.Sums.{prefix_len-le-length}
use Rattle.occ_lex.specs.Spelling.{is_letter, is_digit, is_name_byte, is_sign, kind_of}
use Rattle.occ_lex.specs.Tokens.{longest, longest_within}
use Rattle.occ_lex.specs.Scan.{sign_len}
use Rattle.occ_lex.proofs.Classes.{kind_letter, kind_digit, kind_other, letter_name_byte, no_long_sign}

-- n is the length of the longest token in front
pub record IsLongest (bytes : List ℕ) (n : ℕ) : Type 0 where
  pub within : n ≤ length bytes
  pub token : 0 < n → is_some (kind_of (take n bytes)) ≡ true
  pub none_longer : (m : ℕ) → n < m → m ≤ length bytes → is_some (kind_of (take m bytes)) ≡ false

longest_down : (bytes : List ℕ) (n m : ℕ) → IsLongest bytes n → n ≤ m → m ≤ length bytes → longest_within m bytes ≡ n
unfolding longest_within
longest_down bytes n zero is le within = omega arith
longest_down bytes n (suc m) is le within = ⊎_elim
    (λ (e : n ≡ suc m).
    let token : is_some (kind_of (take (suc m) bytes)) ≡ true = subst (λ k. is_some (kind_of (take k bytes)) ≡ true) e (is.token (omega arith)) in
    cond-true _ (suc m) (longest_within m bytes) token ∙ sym e)
    (λ (ne : n ≡ suc m → ⊥).
    let shorter : n ≤ m = omega arith in
    cond-false _ (suc m) (longest_within m bytes) (is.none_longer (suc m) (omega arith) within) ∙ longest_down bytes n m is shorter (omega arith))
    (cases_eq n (suc m))

pub longest_is : (bytes : List ℕ) (n : ℕ) → IsLongest bytes n → longest bytes ≡ n
unfolding longest
longest_is bytes n is = longest_down bytes n (length bytes) is is.within (omega arith)

-- the front up to the first byte that fails passes, and no longer one does
pub all_to : (test : ℕ → Bool) (bytes : List ℕ) (m : ℕ) → m ≤ prefix_len test bytes → list_all test (take m bytes) ≡ true
all_to test bytes zero h = refl
all_to test [] (suc m) h = refl
all_to test (byte ∷ bytes) (suc m) h = ⊎_elim
    (λ (t : test byte ≡ true).
    let more : prefix_len test (byte ∷ bytes) ≡ 1 + prefix_len test bytes = cond-true (test byte) _ 0 t in
    and_from (test byte) (list_all test (take m bytes)) t (all_to test bytes m (omega (arith, more, h))))
    (λ (f : test byte ≡ false).
    let none : prefix_len test (byte ∷ bytes) ≡ 0 = cond-false (test byte) (1 + prefix_len test bytes) 0 f in
    absurd (omega (arith, none, h)))
    (cases_Bool (test byte))

pub all_past : (test : ℕ → Bool) (bytes : List ℕ) (m : ℕ) → prefix_len test bytes < m → m ≤ length bytes → list_all test (take m bytes) ≡ false
all_past test bytes zero h within = absurd (omega (arith, h))
all_past test [] (suc m) h within = absurd (omega (arith, within))
all_past test (byte ∷ bytes) (suc m) h within = ⊎_elim
    (λ (t : test byte ≡ true).
    let more : prefix_len test (byte ∷ bytes) ≡ 1 + prefix_len test bytes = cond-true (test byte) _ 0 t in
    and_right (test byte) (list_all test (take m bytes)) (all_past test bytes m (omega (arith, more, h)) (omega (arith, within))))
    (λ (f : test byte ≡ false). and_left (test byte) (list_all test (take m bytes)) f)
    (cases_Bool (test byte))

-- where the bytes behind the first one decide by a test of each
pub run_longest : (test : ℕ → Bool) (byte : ℕ) (bytes : List ℕ) → ((rest : List ℕ) → is_some (kind_of (byte ∷ rest)) ≡ list_all test rest) → IsLongest (byte ∷ bytes) (suc (prefix_len test bytes))
run_longest test byte bytes decides =
    let within : prefix_len test bytes ≤ length bytes = prefix_len-le-length test bytes in
    record {
      within = omega arith;
      token = λ h. decides (take (prefix_len test bytes) bytes) ∙ all_to test bytes (prefix_len test bytes) (omega arith);
      none_longer = longer;
    }
  where
    longer : (m : ℕ) → suc (prefix_len test bytes) < m → m ≤ length (byte ∷ bytes) → is_some (kind_of (take m (byte ∷ bytes))) ≡ false
    longer zero h le = absurd (omega (arith, h))
    longer (suc m) h le = decides (take m bytes) ∙ all_past test bytes m (omega (arith, h)) (omega (arith, le))

prefix_more : (test : ℕ → Bool) (byte : ℕ) (bytes : List ℕ) → test byte ≡ true → prefix_len test (byte ∷ bytes) ≡ suc (prefix_len test bytes)
prefix_more test byte bytes h = cond-true (test byte) (1 + prefix_len test bytes) 0 h ∙ omega arith

pub longest_name : (bytes : List ℕ) → 0 < length bytes → is_letter (get_or bytes 0 0) ≡ true → prefix_len is_name_byte bytes ≡ longest bytes
longest_name [] some h = absurd (omega (arith, some))
longest_name (byte ∷ bytes) some h =
    prefix_more is_name_byte byte bytes (letter_name_byte byte h)
    ∙ sym (longest_is (byte ∷ bytes) (suc (prefix_len is_name_byte bytes)) (run_longest is_name_byte byte bytes (λ rest. kind_letter byte rest h)))

pub longest_numeral : (bytes : List ℕ) → 0 < length bytes → is_digit (get_or bytes 0 0) ≡ true → prefix_len is_digit bytes ≡ longest bytes
longest_numeral [] some h = absurd (omega (arith, some))
longest_numeral (byte ∷ bytes) some h =
    prefix_more is_digit byte bytes h
    ∙ sym (longest_is (byte ∷ bytes) (suc (prefix_len is_digit bytes)) (run_longest is_digit byte bytes (λ rest. kind_digit byte rest h)))

-- a sign of two bytes is taken, else one of one
pub record IsSignLen (bytes : List ℕ) (n : ℕ) : Type 0 where
  pub short : n ≤ 2
  pub fits : n ≤ length bytes
  pub sign : 0 < n → is_sign (take n bytes) ≡ true
  pub two : n < 2 → 2 ≤ length bytes → is_sign (take 2 bytes) ≡ false
  pub one : n < 1 → 1 ≤ length bytes → is_sign (take 1 bytes) ≡ false

failed : (a b : Bool) → (a && b) ≡ false → a ≡ true → b ≡ false
failed true b h t = h
failed false b h t = absurd (both_ways true (sym t) refl)

sign_len_is : (bytes : List ℕ) → IsSignLen bytes (sign_len bytes)
sign_len_is bytes = ⊎_elim
    (λ (t : (leb 2 (length bytes) && is_sign (take 2 bytes)) ≡ true).
    let parts = and_parts (leb 2 (length bytes)) (is_sign (take 2 bytes)) t in
    let long : 2 ≤ length bytes = leb-true 2 (length bytes) parts.0 in
    subst (IsSignLen bytes) (sym (cond-true _ 2 shorter t)) (record { short = omega arith; fits = long; sign = λ h. parts.1; two = λ h. absurd (omega (arith, h)); one = λ h. absurd (omega (arith, h)) }))
    (λ (f : (leb 2 (length bytes) && is_sign (take 2 bytes)) ≡ false).
    let no_two : 2 ≤ length bytes → is_sign (take 2 bytes) ≡ false = λ le. failed (leb 2 (length bytes)) (is_sign (take 2 bytes)) f (le-leb 2 (length bytes) le) in
    subst (IsSignLen bytes) (sym (cond-false _ 2 shorter f)) (⊎_elim
    (λ (t : (leb 1 (length bytes) && is_sign (take 1 bytes)) ≡ true).
    let parts = and_parts (leb 1 (length bytes)) (is_sign (take 1 bytes)) t in
    subst (IsSignLen bytes) (sym (cond-true _ 1 0 t)) (record { short = omega arith; fits = leb-true 1 (length bytes) parts.0; sign = λ h. parts.1; two = λ h le. no_two le; one = λ h. absurd (omega (arith, h)) }))
    (λ (g : (leb 1 (length bytes) && is_sign (take 1 bytes)) ≡ false).
    subst (IsSignLen bytes) (sym (cond-false _ 1 0 g)) (record { short = omega arith; fits = omega arith; sign = λ h. absurd (omega (arith, h)); two = λ h le. no_two le; one = λ h le. failed (leb 1 (length bytes)) (is_sign (take 1 bytes)) g (le-leb 1 (length bytes) le) }))
    (cases_Bool (leb 1 (length bytes) && is_sign (take 1 bytes)))))
    (cases_Bool (leb 2 (length bytes) && is_sign (take 2 bytes)))
  where
    shorter : ℕ
    shorter = cond (leb 1 (length bytes) && is_sign (take 1 bytes)) 1 0

front_other : (byte : ℕ) (bytes : List ℕ) (m : ℕ) → 0 < m → is_letter byte ≡ false → is_digit byte ≡ false → is_some (kind_of (take m (byte ∷ bytes))) ≡ is_sign (take m (byte ∷ bytes))
front_other byte bytes zero some l d = absurd (omega (arith, some))
front_other byte bytes (suc m) some l d = kind_other byte (take m bytes) l d

sign_is_longest : (byte : ℕ) (bytes : List ℕ) (n : ℕ) → is_letter byte ≡ false → is_digit byte ≡ false → IsSignLen (byte ∷ bytes) n → IsLongest (byte ∷ bytes) n
sign_is_longest byte bytes n l d is = record {
  within = is.fits;
  token = λ some. front_other byte bytes n some l d ∙ is.sign some;
  none_longer = λ m h le. front_other byte bytes m (omega arith) l d ∙ ⊎_elim
      (λ (long : 2 < m).
      let len : length (take m (byte ∷ bytes)) ≡ m = length-take-le m (byte ∷ bytes) le in
      no_long_sign (take m (byte ∷ bytes)) (omega (arith, len, long)))
      (λ (short : m ≤ 2). ⊎_elim
      (λ (e : m ≡ 2). subst (λ k. is_sign (take k (byte ∷ bytes)) ≡ false) (sym e) (is.two (omega (arith, h, e)) (omega (arith, le, e))))
      (λ (ne : m ≡ 2 → ⊥).
      let e : m ≡ 1 = omega arith in
      subst (λ k. is_sign (take k (byte ∷ bytes)) ≡ false) (sym e) (is.one (omega (arith, h, e)) (omega (arith, le, e))))
      (cases_eq m 2))
      (cases_lt 2 m);
}

pub longest_nil : (bytes : List ℕ) → length bytes < 1 → 0 ≡ longest bytes
unfolding longest longest_within
longest_nil [] h = refl
longest_nil (byte ∷ bytes) h = absurd (omega (arith, h))

pub longest_sign : (bytes : List ℕ) → 0 < length bytes → is_letter (get_or bytes 0 0) ≡ false → is_digit (get_or bytes 0 0) ≡ false → sign_len bytes ≡ longest bytes
longest_sign [] some l d = absurd (omega (arith, some))
longest_sign (byte ∷ bytes) some l d = sym (longest_is (byte ∷ bytes) (sign_len (byte ∷ bytes)) (sign_is_longest byte bytes (sign_len (byte ∷ bytes)) l d (sign_len_is (byte ∷ bytes))))
