use Rattle.std.proofs.Common.{sym, ap, ◌∙◌}
use Rattle.std.proofs.lemmas.Bool.{false≢true}
use Rattle.open_table.specs.Marks.{is_among}
use Rattle.open_table.specs.Slots.{SlotState}
use Rattle.open_table.proofs.slot.Slot.reserve.Goals as goal

pub returns-then-not-is_among-clause-ok : goal.returns-then-not-is_among-clause-ok
returns-then-not-is_among-clause-ok g c = λ there.
    let same = ap (λ (s : SlotState). is_among c.args.list.now s.number) c.self.view_is in
    absurd (false≢true (sym c.if-not-is_among.true ∙ c.is_among.ensures ∙ same ∙ there))
