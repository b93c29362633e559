-- Who types lines that are all there.
use Rattle.std.specs.Prelude.{ℕ, List}
use Rattle.operator_desk.specs.declared.held_lines.HeldLines.{HeldLines}
use Rattle.operator_desk.specs.declared.typist.Typist.{Typist}

-- the lines that are still to be typed, and the bytes of those that were
abbrev pub lines_to_type : {R W : Type 0} → Typist R W → HeldLines
lines_to_type typist = typist.left

abbrev pub lines_taken : {R W : Type 0} → Typist R W → List ℕ
lines_taken typist = typist.taken.lines.bytes.items

-- who is told how far the run has come
abbrev pub watcher_of : {R W : Type 0} → Typist R W → W
watcher_of typist = typist.watcher
