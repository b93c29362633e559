use Rattle.std.proofs.Common.{◌≡◌, ◌≤◌, ◌∙◌, false, length, take, refl, sym, arith}
use Rattle.std.proofs.lemmas.Option.{slice_get_read}
use Rattle.std.specs.Str.{bytes_eq}
use Rattle.shape_files.specs.Shapes.{is_table_named}
use Rattle.shape_files.proofs.NameLemmas.{none_before, none_at_all, same_bytes}
use Rattle.shape_files.proofs.declarations.table_of.Goals as goal

pub returns-in_err-number : goal.returns-in_err-number
returns-in_err-number c =
    let none : is_table_named (take 256 c.args.tables.now) c.args.name.now ≡ false =
    none_before (λ t. bytes_eq t.name.items c.args.name.now) c.args.tables.now 256 c.loop-t.t
    (omega (arith, c.in_err-number.ensures)) c.loop-t.invariant in
    rw (c.from_residual.ensures) none

pub returns-then-is_word : goal.returns-then-is_word
returns-then-is_word c = record {
  of = c.index-tables-t.result;
  there = rw (c.in_ok-number.ensures)
      (slice_get_read c.args.tables.now (length c.args.tables.now) c.loop-t.t c.index-tables-t.result refl (search)
      (c.index-tables-t.is));
  named = same_bytes _ _ (sym c.is_word.ensures ∙ c.if-is_word.true);
  fields_are = sym c.as_slice.ensures;
  first = rw (c.in_ok-number.ensures) c.loop-t.invariant;
}

pub returns : goal.returns
returns c =
    let all : length c.args.tables.now ≤ c.loop-t.t = search in
    none_at_all (λ t. bytes_eq t.name.items c.args.name.now) c.args.tables.now 256 c.loop-t.t all c.loop-t.invariant
