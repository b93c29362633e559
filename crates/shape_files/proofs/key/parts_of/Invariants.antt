use Rattle.std.proofs.Common.{◌≡◌, ◌≤◌, ◌++◌, List, length}
use Rattle.std.specs.List.{AllByRecursion}
use Rattle.prg_expr.specs.Word.{words}
use Rattle.shape.specs.declared.parts.KeyPart.{KeyPart}
use Rattle.shape_files.specs.Keys.{NamesField, key_words}
use Rattle.shape_files.proofs.KeyLemmas.{PartsLeft}
use Rattle.shape_files.proofs.key.parts_of.Given as goal

abbrev pub invariant-loop-others : goal.invariant-loop-others
invariant-loop-others l = record {
  spelled : words l.fn.tokens ≡ key_words l.fn.fields l.parts.items ++ words l.rest;
  some : 1 ≤ length l.parts.items;
  left : (all : List KeyPart) → 1 ≤ length all → AllByRecursion (NamesField l.fn.fields) all
      → words l.fn.tokens ≡ key_words l.fn.fields all
      → PartsLeft l.fn.fields all (length l.parts.items) (words l.rest);
}

abbrev pub decreases-loop-others : goal.decreases-loop-others
decreases-loop-others l = length l.rest
