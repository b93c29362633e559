use Rattle.std.proofs.Common.{[], ◌∷◌, refl, sym, subst, arith, ap, ◌∙◌}
use Rattle.xvalue.specs.declared.fun.Fun.{Fun}
use Rattle.xvalue.specs.declared.fun.Fun.TheVariants.{ToText}
use Rattle.xvalue.specs.declared.fun.TextFun.{TextFun}
use Rattle.xvalue.specs.declared.value.Value.TheVariants.{Text}
use Rattle.xvalue.specs.Functions.{applied}
use Rattle.run_values.specs.Calling.{IsGiven}
use Rattle.run_values.proofs.TextCalls.{short_part}
use Rattle.run_values.proofs.calling.part_of_text.Goals as goal

pub returns-in-ToText-Trim-clause-given : goal.returns-in-ToText-Trim-clause-given
unfolding applied
returns-in-ToText-Trim-clause-given c = λ settings.
    let is = c.in-ToText-Trim.is
    ∙ ap (λ (f : TextFun). ToText f) (rw c.in-ToText-Trim.is at c.in-ToText-Trim.field-0-is) in
    subst (λ (f : Fun). IsGiven f settings (Text (record { items = c.args.text.now }) ∷ []) (Text (record
    { items = c.without_last_blanks.result.now }))) (sym is)
    (record {
      many = refl;
      same = short_part _ _ c.without_last_blanks.ensures.same
          (omega (arith, c.requires.short, c.without_last_blanks.ensures.shorter));
    })

pub returns-in-ToText-Ltrim-clause-given : goal.returns-in-ToText-Ltrim-clause-given
unfolding applied
returns-in-ToText-Ltrim-clause-given c = λ settings.
    let is = c.in-ToText-Ltrim.is
    ∙ ap (λ (f : TextFun). ToText f) (rw c.in-ToText-Ltrim.is at c.in-ToText-Ltrim.field-0-is) in
    subst (λ (f : Fun). IsGiven f settings (Text (record { items = c.args.text.now }) ∷ []) (Text (record
    { items = c.without_blanks.result.now }))) (sym is)
    (record {
      many = refl;
      same = short_part _ _ c.without_blanks.ensures.same
          (omega (arith, c.requires.short, c.without_blanks.ensures.shorter));
    })
