-- What was written since a mark is given up whole.
use Rattle.std.proofs.Common.{◌≡◌, ℕ, List, take, length, ap, sym, ◌∙◌}
use Rattle.std.proofs.lemmas.List.{take_at}
use Rattle.code_items.specs.declared.state.State.{State}
use Rattle.prg_code.specs.Numbers.{Grows}
use Rattle.prg_writer.specs.declared.writer.Writer.{Writer}
use Rattle.prg_writer.specs.declared.writer.WrittenMark.{WrittenMark}
use Rattle.prg_writer.specs.Writing.{IsMark, IsBackAt, StillStands, IsWrittenAs}

-- so many of a list that has grown are those that were there
first : {A : Type 0} (n : ℕ) (earlier later back : List A) → n ≡ length earlier → Grows earlier later
    → back ≡ take n later → back ≡ earlier
first n earlier later back many grown is = is ∙ ap (λ xs. take n xs) grown.1 ∙ take_at earlier grown.0 n (sym many)

pub given_up_whole : (mark : WrittenMark) (known : State) (marked written back : Writer) → IsMark marked mark
    → StillStands marked written → IsBackAt mark known written back → IsWrittenAs marked back
given_up_whole mark known marked written back m s b = record {
  pieces =
      first mark.pieces marked.work.block.pieces.items written.work.block.pieces.items back.work.block.pieces.items
      m.pieces s.pieces b.pieces;
  constants =
      first mark.constants marked.out.pool written.out.pool back.out.pool m.constants s.output.constants b.constants;
  lists = first mark.lists marked.out.lists written.out.lists back.out.lists m.lists s.output.lists b.lists;
  filters =
      first mark.filters marked.out.filters written.out.filters back.out.filters m.filters s.output.filters b.filters;
  slots = b.slots ∙ m.slots;
  century = b.century ∙ m.century;
  copies = first mark.copies marked.copies.items written.copies.items back.copies.items m.copies s.copies b.copies;
  own = first mark.own marked.work.own.items written.work.own.items back.work.own.items m.own s.own b.own;
  level = b.level ∙ m.level;
  names = b.names ∙ m.names;
  exit = b.exit ∙ m.exit;
}
