-- A step that goes on leads to a world of the code's shape.
use Rattle.std.proofs.Common.{◌≡◌, ◌≤◌, true, false, length, sym, ap, subst, ◌∙◌}
use Rattle.std.specs.Prelude.{map}
use Rattle.std.proofs.lemmas.Bool.{ltb-false}
use Rattle.std.proofs.lemmas.List.{length-map}
use Rattle.xvalue.specs.Kinds.{kind_of}
use Rattle.work_area.specs.Areas.{AreApart}
use Rattle.code_items.specs.declared.code.Code.{Code}
use Rattle.code_items.specs.declared.instr.Instr.{Instr}
use Rattle.code_items.specs.Facts.{Facts}
use Rattle.code_items.specs.Instrs.{is_instr}
use Rattle.code_rules.specs.Rules.{height_after}
use Rattle.run_steps.specs.World.{World, state_of, kind_held}
use Rattle.run_steps.specs.Control.{effect, finishes}
use Rattle.run_steps.specs.Faults.{IsClear}
use Rattle.run_steps.specs.Shapes.{HasShape}
use Rattle.run_steps.proofs.Results.{ResultLaw}
use Rattle.run_laws.proofs.Tests.{Same}
use Rattle.run_laws.proofs.Known.{known_of, open_there}
use Rattle.run_laws.proofs.Ready.{ready}
use Rattle.run_laws.proofs.Shaped.{sound_from, fits_of, desk_is, state_is}
use Rattle.run_laws.proofs.Heights.{slots_stay, height_is, goes_within, few_calls}
use Rattle.run_laws.proofs.Changes.{Stay, leaves}

pub steps_kept : Same → ResultLaw → Stay → (code : Code) (w : World) (i : Instr) → Facts code → HasShape code w
    → AreApart w.env.store.areas → is_instr code.declared.version i ≡ true → IsClear code w i → finishes w i ≡ false
    → HasShape code (effect code w i) × AreApart (effect code w i).env.store.areas
steps_kept same law stay code w i f h apart legal c goes =
    let d = code.declared in
    let s = w.env.store in
    let v : World = effect code w i in
    let k = known_of d (state_of w) h.state in
    let needs = (ready same law code w i f h legal c).needs in
    let sound = sound_from d s k.areas k.ten k.one k.last h.store apart in
    let after = leaves code w i f stay sound (open_there d s s.selected k.areas h.store) c needs in
    let slots : length (map kind_held v.values.slots) ≡ d.slots =
    length-map v.values.slots kind_held ∙ slots_stay code i w.values w.env
    ∙ sym (length-map w.values.slots kind_held) ∙ k.slots in
    let height : length (map kind_of v.values.stack) ≡ height_after (length (map kind_of w.values.stack)) i =
    length-map v.values.stack kind_of ∙ height_is code i w.values w.env needs
    ∙ ap (λ n. height_after n i) (sym (length-map w.values.stack kind_of)) in
    let bound : height_after (length (map kind_of w.values.stack)) i ≤ d.stack_bound =
    ltb-false d.stack_bound (height_after (length (map kind_of w.values.stack)) i) c.room in (
      record {
        place = goes_within code w i c goes;
        state =
            state_is d (state_of v) (desk_is d v.env.store after) slots
            (subst (λ n. n ≤ d.stack_bound) (sym height) bound);
        calls = few_calls code w i h.calls c;
        store = fits_of d v.env.store after;
      },
      after.apart,
    )
