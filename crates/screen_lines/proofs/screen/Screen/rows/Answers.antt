use Rattle.std.proofs.Common.{ap, ◌∙◌, drop}
use Rattle.screen_lines.proofs.Reading.{seen_of}
use Rattle.screen_lines.proofs.screen.Screen.rows.Goals as goal

pub returns : goal.returns
returns c = c.as_slice.ensures.value ∙ seen_of c.self.inside.display.sent.items c.self.inside.display.rows.items
    c.self.inside.display.cursor ∙ ap (λ s. drop s.roll.base s.roll.rows) c.self.view_is
