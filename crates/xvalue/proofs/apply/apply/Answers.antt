-- A function of two numbers sees the first two alone.
use Rattle.std.proofs.Common.{sym, ap, ◌∙◌}
use Rattle.fixed_num.specs.Number.{Number as Decimal}
use Rattle.fixed_num.specs.Order.{compared}
use Rattle.xvalue.specs.declared.fun.Fun.{Fun}
use Rattle.xvalue.specs.declared.value.Value.TheVariants.{Number, Logical}
use Rattle.xvalue.specs.Given.{given}
use Rattle.xvalue.specs.Functions.{applied, of_two, is_in_order, number_given}
use Rattle.xvalue.proofs.apply.apply.Goals as goal

pub returns-in-OfTwo : goal.returns-in-OfTwo
unfolding applied
returns-in-OfTwo c =
    let g = given c.args.arguments.now in
    let fun = c.in-OfTwo.fun in
    c.number_of_two.ensures c.args.settings
    ∙ ap (λ (x : Decimal). Number (of_two fun x c.number-in-OfTwo.result)) c.number.ensures
    ∙ ap (λ (y : Decimal). Number (of_two fun (number_given 0 g) y)) c.number-in-OfTwo.ensures
    ∙ ap (λ (f : Fun). applied f c.args.settings g) (sym c.in-OfTwo.is)

pub returns-in-Compares : goal.returns-in-Compares
unfolding applied
returns-in-Compares c =
    let g = given c.args.arguments.now in
    let order = c.in-Compares.order in
    c.truth_of_two.ensures c.args.settings
    ∙ ap (λ (x : Decimal). Logical (is_in_order order (compared x c.number-in-Compares-2.result)))
    c.number-in-Compares.ensures
    ∙ ap (λ (y : Decimal). Logical (is_in_order order (compared (number_given 0 g) y))) c.number-in-Compares-2.ensures
    ∙ ap (λ (f : Fun). applied f c.args.settings g) (sym c.in-Compares.is)
