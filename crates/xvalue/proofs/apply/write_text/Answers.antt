-- IIF of texts gives the one that is chosen, and a date's text is never cut.
use Rattle.std.proofs.Common.{◌≡◌, ℕ, ◌+◌, List, Bool, Option, true, false, if◌then◌else◌, refl, sym, ap, ◌∙◌}
use Rattle.xvalue.specs.declared.fun.Fun.TheVariants.{ToText}
use Rattle.xvalue.specs.declared.fun.TextFun.{TextFun}
use Rattle.xvalue.specs.declared.value.Value.TheVariants.{Text}
use Rattle.xvalue.specs.Given.{Given, given}
use Rattle.xvalue.specs.Functions.{applied, text_given, truth_given, text_value}
use Rattle.calendar.specs.declared.day.DayParts.{DayParts}
use Rattle.xvalue.specs.Shown.{shown_day}
use Rattle.xvalue.proofs.ShownLemmas.{day_fits}
use Rattle.xvalue.proofs.apply.write_text.Goals as goal

at_chosen : (truth : Bool) (g : Given)
    → text_given (if truth then 0 else 0 + 1) g ≡ (if truth then text_given 0 g else text_given 1 g)
at_chosen true g = refl
at_chosen false g = refl

pub returns-in-IifText : goal.returns-in-IifText
unfolding applied
returns-in-IifText c =
    let g = given c.args.arguments.now in
    ap (λ (cs : List ℕ). Text (record { items = cs })) c.write.ensures
    ∙ ap text_value (c.text-in-IifText.ensures.same ∙ ap (λ (k : ℕ). text_given k g) c.chosen.ensures
    ∙ at_chosen (truth_given 0 g) g)
    ∙ ap (λ (f : TextFun). applied (ToText f) c.args.settings g) (sym c.in-IifText.is)

pub returns-in-Dtoc : goal.returns-in-Dtoc
unfolding applied
returns-in-Dtoc c =
    let g = given c.args.arguments.now in
    let settings = c.args.settings in
    ap (λ (cs : List ℕ). Text (record { items = cs })) (c.write_day.ensures ∙ day_fits settings c.date.result)
    ∙ ap (λ (d : Option DayParts). text_value (shown_day settings d)) c.date.ensures
    ∙ ap (λ (f : TextFun). applied (ToText f) settings g) (sym c.in-Dtoc.is)
