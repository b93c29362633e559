use Rattle.std.proofs.Common.{◌-◌, [], ◌∷◌, length, take, refl, sym, ap, ◌∙◌, subst, arith}
use Rattle.std.proofs.lemmas.List.{length-take, length-drop}
use Rattle.xvalue.specs.declared.fun.Fun.{Fun}
use Rattle.xvalue.specs.declared.fun.Fun.TheVariants.{ToText}
use Rattle.xvalue.specs.declared.fun.TextFun.{TextFun}
use Rattle.xvalue.specs.declared.value.Value.TheVariants.{Number, Text}
use Rattle.xvalue.specs.Functions.{applied}
use Rattle.xvalue.specs.Texts.{last_part}
use Rattle.run_values.specs.Calling.{IsGiven}
use Rattle.run_values.proofs.TextCalls.{short_part}
use Rattle.run_values.proofs.calling.end_of_text.Goals as goal

pub returns-in-ToText-Left-clause-short : goal.returns-in-ToText-Left-clause-short
returns-in-ToText-Left-clause-short c = omega
    (arith, c.requires.short, ap length c.front.ensures, length-take c.count_of.result c.args.text.now)

pub returns-in-ToText-Left-clause-given : goal.returns-in-ToText-Left-clause-given
unfolding applied
returns-in-ToText-Left-clause-given c = λ settings.
    let is = c.in-ToText-Left.is
    ∙ ap (λ (f : TextFun). ToText f) (rw c.in-ToText-Left.is at c.in-ToText-Left.field-0-is) in
    subst (λ (f : Fun). IsGiven f settings (Text (record { items = c.args.text.now }) ∷ Number c.args.count ∷ [])
    (Text (record { items = c.front.result.now }))) (sym is)
    (record {
      many = refl;
      same = short_part _ _ (c.front.ensures ∙ ap (λ k. take k c.args.text.now) c.count_of.ensures)
          (returns-in-ToText-Left-clause-short c);
    })

pub returns-in-ToText-Right-clause-short : goal.returns-in-ToText-Right-clause-short
returns-in-ToText-Right-clause-short c = omega (
  arith,
  c.requires.short,
  ap length c.last_part.ensures,
  length-drop (length c.args.text.now - c.count_of-in-ToText-Right.result) c.args.text.now,
)

pub returns-in-ToText-Right-clause-given : goal.returns-in-ToText-Right-clause-given
unfolding applied
returns-in-ToText-Right-clause-given c = λ settings.
    let is = c.in-ToText-Right.is
    ∙ ap (λ (f : TextFun). ToText f) (rw c.in-ToText-Right.is at c.in-ToText-Right.field-0-is) in
    subst (λ (f : Fun). IsGiven f settings (Text (record { items = c.args.text.now }) ∷ Number c.args.count ∷ [])
    (Text (record { items = c.last_part.result.now }))) (sym is)
    (record {
      many = refl;
      same = short_part _ _
          (c.last_part.ensures ∙ ap (λ k. last_part k c.args.text.now) c.count_of-in-ToText-Right.ensures)
          (returns-in-ToText-Right-clause-short c);
    })
