use Rattle.std.proofs.Common.{[], ◌∷◌, length, refl, sym, ap, ◌∙◌, subst, arith}
use Rattle.fixed_num.specs.Rounding.{whole_part}
use Rattle.xvalue.specs.declared.fun.Fun.{Fun}
use Rattle.xvalue.specs.declared.fun.Fun.TheVariants.{ToText}
use Rattle.xvalue.specs.declared.fun.TextFun.{TextFun}
use Rattle.xvalue.specs.declared.value.Value.TheVariants.{Number, Text}
use Rattle.xvalue.specs.Functions.{applied}
use Rattle.xvalue.specs.Texts.{bytes_cut_from, count_of}
use Rattle.run_values.specs.Calling.{IsGiven}
use Rattle.run_values.proofs.TextCalls.{short_part, cut_shorter}
use Rattle.run_values.proofs.calling.piece_of_text.Goals as goal

pub returns-clause-short : goal.returns-clause-short
returns-clause-short c = omega (
  arith,
  c.requires.short,
  ap length c.part_from.ensures,
  cut_shorter c.count_of.result c.count_of-in-ToText-Substr.result c.args.text.now,
)

pub returns-clause-given : goal.returns-clause-given
unfolding applied
returns-clause-given c = λ settings.
    let is = c.in-ToText-Substr.is
    ∙ ap (λ (f : TextFun). ToText f) (rw c.in-ToText-Substr.is at c.in-ToText-Substr.field-0-is) in
    subst (λ (f : Fun). IsGiven f settings
    (Text (record { items = c.args.text.now }) ∷ Number c.args.place ∷ Number c.args.count ∷ [])
    (Text (record { items = c.part_from.result.now }))) (sym is)
    (record {
      many = refl;
      same = short_part _ _
          (c.part_from.ensures
          ∙ ap (λ k. bytes_cut_from k c.count_of-in-ToText-Substr.result c.args.text.now) c.count_of.ensures
          ∙ ap (λ k. bytes_cut_from (count_of (whole_part c.args.place)) k c.args.text.now)
          c.count_of-in-ToText-Substr.ensures)
          (returns-clause-short c);
    })
