use Rattle.std.specs.Prelude.{ℕ, ◌&&◌, nat_le, if◌then◌else◌, List, length, take}
use Rattle.occ_lex.specs.Spelling.{is_sign}

-- the length of the sign in front, 0 where there is none: two bytes come before one
abbrev pub sign_len : List ℕ → ℕ
sign_len bytes = if nat_le 2 (length bytes) && is_sign (take 2 bytes) then 2
    else (if nat_le 1 (length bytes) && is_sign (take 1 bytes) then 1 else 0)
