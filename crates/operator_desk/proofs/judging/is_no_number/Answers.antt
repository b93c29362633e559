use Rattle.std.proofs.Common.{◌≡◌, ◌↔◌, ◌∙◌, ap, IsTrue, refl, Bool, true, false}
use Rattle.fixed_num.specs.Number.{Number, asterisk, finite}
use Rattle.operator_desk.specs.Asked.{is_no_number}
use Rattle.operator_desk.proofs.judging.is_no_number.Goals as goal

told : (truth : Bool) (number : Number) → (IsTrue truth ↔ (number ≡ asterisk)) → truth ≡ is_no_number number
told true asterisk h = refl
told false asterisk h = let bad : false ≡ true = h.1 refl in cc
told true (finite digits decimals) h = let bad : finite digits decimals ≡ asterisk = h.0 refl in cc
told false (finite digits decimals) h = refl

pub returns : goal.returns
returns c = told c.is_asterisk.result c.parse.result c.is_asterisk.ensures ∙ ap is_no_number c.parse.ensures
