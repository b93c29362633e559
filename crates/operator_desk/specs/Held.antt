-- Lines of a text that is there already. 10 ends a line; the last one needs no end.
use Rattle.std.specs.Prelude.{ℕ, ◌+◌, ◌==◌, not, List, drop, take}
use Rattle.std.specs.List.{prefix_len}
use Rattle.operator_desk.specs.declared.held_lines.HeldLines.{HeldLines}
use Rattle.operator_desk.specs.declared.held_lines.OwnLines.{OwnLines}

-- how many bytes come before the first line end
abbrev pub line_length : List ℕ → ℕ
line_length text = prefix_len (λ byte. not (byte == 10)) text

-- the first line, without its end
abbrev pub first_line : List ℕ → List ℕ
first_line text = take (line_length text) text

-- what stands behind its end
abbrev pub behind_line : List ℕ → List ℕ
behind_line text = drop (line_length text + 1) text

-- what is left
abbrev pub left_of : HeldLines → List ℕ
left_of lines = lines.left.now

abbrev pub left_of_own : OwnLines → List ℕ
left_of_own lines = drop lines.used lines.text.items
