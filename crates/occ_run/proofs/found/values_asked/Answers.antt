use Rattle.std.proofs.Common.{Some, Option, sym, ap, ◌∙◌, arith}
use Rattle.occ_syntax.specs.occ_base.declared.event.Event.{Event}
use Rattle.occ_run.specs.Founds.{asked, asks, inputs}
use Rattle.occ_run.proofs.Processes.{input_above, input_asked, input_at, input_missed, inputs_all, inputs_none}
use Rattle.occ_run.proofs.found.values_asked.Goals as goal

pub returns-then-not-asks-clause-whole : goal.returns-then-not-asks-clause-whole
returns-then-not-asks-clause-whole c = λ x e.
    let hidden = c.args.wanted.hidden.now in
    ap (λ (o : Option Event). asked hidden o (inputs c.args.chan x e c.args.size)) c.in-None.is
    ∙ inputs_none hidden c.args.chan x e c.args.size (sym (ap (λ (o : Option Event). asks hidden o (Some (input_at c.args.chan 0))) c.in-None.is) ∙ sym c.asks.ensures ∙ c.if-not-asks.true)

pub returns-else-not-asks-clause-whole : goal.returns-else-not-asks-clause-whole
returns-else-not-asks-clause-whole c = λ x e.
    let hidden = c.args.wanted.hidden.now in
    ap (λ (o : Option Event). asked hidden o (inputs c.args.chan x e c.args.size)) c.in-None.is
    ∙ inputs_all hidden c.args.chan x e c.args.size (sym (ap (λ (o : Option Event). asks hidden o (Some (input_at c.args.chan 0))) c.in-None.is) ∙ sym c.asks.ensures ∙ c.if-not-asks.false)

pub returns-then-not-asks-2-clause-whole : goal.returns-then-not-asks-2-clause-whole
returns-then-not-asks-2-clause-whole c = λ x e.
    let hidden = c.args.wanted.hidden.now in
    let only = c.in-Some.only in
    ap (λ (o : Option Event). asked hidden o (inputs c.args.chan x e c.args.size)) c.in-Some.is
    ∙ input_missed hidden c.args.chan x e c.args.size only
    (sym (ap (λ (o : Option Event). asks hidden o (Some (input_at c.args.chan only.value))) c.in-Some.is) ∙ sym c.asks-in-Some.ensures ∙ c.if-not-asks-2.true)

pub returns-then-value-count-clause-whole : goal.returns-then-value-count-clause-whole
returns-then-value-count-clause-whole c = λ x e.
    let hidden = c.args.wanted.hidden.now in
    let only = c.in-Some.only in
    ap (λ (o : Option Event). asked hidden o (inputs c.args.chan x e c.args.size)) c.in-Some.is
    ∙ input_above hidden c.args.chan x e c.args.size only
    (sym (ap (λ (o : Option Event). asks hidden o (Some (input_at c.args.chan only.value))) c.in-Some.is) ∙ sym c.asks-in-Some.ensures ∙ c.if-not-asks-2.false) (omega (arith, c.if-value-count.true))

pub returns-else-value-count-clause-whole : goal.returns-else-value-count-clause-whole
returns-else-value-count-clause-whole c = λ x e.
    let hidden = c.args.wanted.hidden.now in
    let only = c.in-Some.only in
    ap (λ (o : Option Event). asked hidden o (inputs c.args.chan x e c.args.size)) c.in-Some.is
    ∙ input_asked hidden c.args.chan x e c.args.size only
    (sym (ap (λ (o : Option Event). asks hidden o (Some (input_at c.args.chan only.value))) c.in-Some.is) ∙ sym c.asks-in-Some.ensures ∙ c.if-not-asks-2.false) (omega (arith, c.if-value-count.false))
