-- A row of digits, followed one after the other.
use Rattle.std.proofs.Common.{◌≡◌, ◌<◌, ◌≤◌, ◌+◌, ◌∙◌, ℕ, List, [], Option, None, Some, refl, ap, sym, drop, get_or, length}
use Rattle.std.proofs.lemmas.List.{drop_all, drop_more}
use Rattle.std.specs.Option.{option_and_then}
use Rattle.occ_derive_search.specs.Codes.{follows, runs}
use Rattle.occ_derive_search.specs.Piles.{Held}

goes_on : (code : List ℕ) (o : Option Held) (t next : Held) → ((m : Held) → o ≡ Some m → t ≡ m) → option_and_then (runs code) o ≡ Some next
    → runs code t ≡ Some next
goes_on code None t next is h = cc
goes_on code (Some m) t next is h = ap (runs code) (is m refl) ∙ h

-- one digit more
pub run_goes_on : (code : List ℕ) (i : ℕ) (s t next : Held) → i < length code → ((m : Held) → follows (get_or code i 0) s ≡ Some m → t ≡ m)
    → runs (drop i code) s ≡ Some next → runs (drop (i + 1) code) t ≡ Some next
run_goes_on code i s t next low is h =
    goes_on (drop (i + 1) code) (follows (get_or code i 0) s) t next is (ap (λ ds. runs ds s) (sym (drop_more code i 0 low)) ∙ h)

-- the last was followed
pub run_ends : (code : List ℕ) (i : ℕ) (s next : Held) → length code ≤ i → runs (drop i code) s ≡ Some next → s ≡ next
run_ends code i s next high h =
    let e : runs [] s ≡ Some next = ap (λ ds. runs ds s) (sym (drop_all i code high)) ∙ h in cc
