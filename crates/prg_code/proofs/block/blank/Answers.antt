use Rattle.std.proofs.Common.{◌∙◌, ap, reverse}
use Rattle.prg_code.proofs.block.blank.Goals as goal

pub returns : goal.returns
returns c = λ i. record {
  desk = record { selected = 1; areas = (c.of.ensures ∙ c.in_ok-areas.ensures.items_if_clones_equal (λ y e. e)) i };
  slots = (c.of-2.ensures ∙ c.in_ok-kinds.ensures) i;
  stack = (c.of-3.ensures ∙ ap reverse c.new.ensures.items) i;
}
