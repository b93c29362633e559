use Rattle.std.proofs.Common.{ap, ◌∙◌, take}
use Rattle.screen_lines.specs.Roll.{lines_sent}
use Rattle.screen_lines.proofs.Reading.{sent_of}
use Rattle.screen_lines.proofs.screen.Screen.sent.Goals as goal

pub returns : goal.returns
returns c = c.as_slice.ensures.value ∙ sent_of c.self.inside.display.sent.items c.self.inside.display.rows.items
    c.self.inside.display.cursor c.self.invariant.0 ∙ ap (λ s. lines_sent (take s.roll.base s.roll.rows)) c.self.view_is
