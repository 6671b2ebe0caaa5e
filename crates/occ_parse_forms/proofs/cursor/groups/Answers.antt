use Rattle.std.proofs.Common.{sym, ap, ◌∙◌, arith, refl}
use Rattle.std.proofs.lemmas.List.{take_rest}
use Rattle.occ_parse_forms.specs.Symbols.{is_comma}
use Rattle.occ_parse_forms.proofs.Splitting.{step_separator, step_other, step_end}
use Rattle.occ_parse_forms.proofs.cursor.groups.Goals as goal
use Rattle.occ_parse_forms.proofs.cursor.groups.Goals.{then-eq+in_ok-push, else-eq}

pub loop-i-preserved : goal.loop-i-preserved
loop-i-preserved c =
    elim c.if-eq.branch [
      | then-eq+in_ok-push w ↦ record {
        within = omega (arith, w.start-is);
        groups = step_separator is_comma (λ g. g.now) c.loop-i.groups.items c.if-eq.groups.items _ c.args.symbols.now _ c.loop-i.start c.if-eq.start c.loop-i.i _ c.loop-i.invariant.within c.loop-i-test.true (sym c.eq.ensures ∙ w.if-eq.true) (ap (λ v. v.items) w.groups-is ∙ w.in_ok-push.ensures.items) refl w.start-is c.loop-i.invariant.groups;
      }
      | else-eq w ↦ record {
        within = omega (arith, w.start-is);
        groups = step_other is_comma (λ g. g.now) c.loop-i.groups.items c.if-eq.groups.items c.args.symbols.now _ c.loop-i.start c.if-eq.start c.loop-i.i _ c.loop-i.invariant.within c.loop-i-test.true (sym c.eq.ensures ∙ w.if-eq.false) (ap (λ v. v.items) w.groups-is) w.start-is c.loop-i.invariant.groups;
      }
    ]

pub returns : goal.returns
returns c = step_end is_comma (λ g. g.now) c.loop-i.groups.items c.push-2.new.self.items _ c.args.symbols.now _ c.loop-i.start c.loop-i.i c.loop-i.invariant.within c.loop-i-test.false c.in_ok-push-2.ensures.items (take_rest c.args.symbols.now c.loop-i.start) c.loop-i.invariant.groups
