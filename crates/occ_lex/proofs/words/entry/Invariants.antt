use Rattle.std.proofs.Common.{◌≡◌, drop}
use Rattle.occ_lex.specs.SymbolWords.{look_up}
use Rattle.occ_lex.proofs.words.entry.Given as goal

-- what is found among the entries that are left is what is found among all
abbrev pub invariant-loop-word : goal.invariant-loop-word
invariant-loop-word g l = look_up (λ entry. entry.0.now) (λ entry. entry.1) (drop l.word-index l.table) l.text ≡ look_up (λ entry. entry.0.now) (λ entry. entry.1) l.table l.text
