-- Events on one channel in one direction, and events that are the same.
use Rattle.std.proofs.Common.{◌≡◌, ◌==◌, Bool, true, false, refl, sym, ◌∙◌}
use Rattle.std.proofs.lemmas.Bool.{and_parts, and_from, eqb-true, eq-eqb, true≢false, false≢true}
use Rattle.occ_syntax.specs.occ_base.declared.event.Dir.{Dir}
use Rattle.occ_syntax.specs.occ_base.declared.event.Dir.TheVariants.{Input, Output}
use Rattle.occ_syntax.specs.occ_base.declared.event.Event.{Event}
use Rattle.occ_syntax.specs.Scopes.{same_dir}
use Rattle.occ_draw.specs.Spans.{same_end}

-- two tests that are true together are one
pub same_bools : (a b : Bool) → (a ≡ true → b ≡ true) → (b ≡ true → a ≡ true) → a ≡ b
same_bools true b f g = sym (f refl)
same_bools false true f g = g refl
same_bools false false f g = refl

dirs : (a b : Dir) → same_dir a b ≡ true → a ≡ b
dirs Input Input h = refl
dirs Output Output h = refl
dirs Input Output h = absurd (false≢true h)
dirs Output Input h = absurd (false≢true h)

pub dir_itself : (a b : Dir) → a ≡ b → same_dir a b ≡ true
dir_itself Input Input h = refl
dir_itself Output Output h = refl
dir_itself Input Output h = ap_dir h
  where
    is_input : Dir → Bool
    is_input Input = true
    is_input Output = false

    ap_dir : Input ≡ Output → same_dir Input Output ≡ true
    ap_dir h = absurd (true≢false (λ i. is_input (h i)))
dir_itself Output Input h = ap_dir h
  where
    is_output : Dir → Bool
    is_output Input = false
    is_output Output = true

    ap_dir : Output ≡ Input → same_dir Output Input ≡ true
    ap_dir h = absurd (true≢false (λ i. is_output (h i)))

-- the events are on one channel, in one direction
pub record OneEnd (e f : Event) : Type 0 where
  pub chan : e.chan.0 ≡ f.chan.0
  pub dir : e.dir ≡ f.dir

pub one_end : (e f : Event) → same_end e f ≡ true → OneEnd e f
one_end e f h = let p = and_parts (e.chan.0 == f.chan.0) (same_dir e.dir f.dir) h in record { chan = eqb-true e.chan.0 f.chan.0 p.0; dir = dirs e.dir f.dir p.1 }

pub end_same : (e f : Event) → OneEnd e f → same_end e f ≡ true
end_same e f h = and_from (e.chan.0 == f.chan.0) (same_dir e.dir f.dir) (eq-eqb e.chan.0 f.chan.0 h.chan) (dir_itself e.dir f.dir h.dir)

pub turned : (e f : Event) → OneEnd e f → OneEnd f e
turned e f h = record { chan = sym h.chan; dir = sym h.dir }

pub through : (e f g : Event) → OneEnd e f → OneEnd f g → OneEnd e g
through e f g h k = record { chan = h.chan ∙ k.chan; dir = h.dir ∙ k.dir }

-- an event that is one of a channel is so with each event of it
pub same_with : (e f g : Event) → OneEnd f g → same_end e f ≡ same_end e g
same_with e f g h = same_bools (same_end e f) (same_end e g) (λ s. end_same e g (through e f g (one_end e f s) h)) (λ s. end_same e f (through e g f (one_end e g s) (turned f g h)))
