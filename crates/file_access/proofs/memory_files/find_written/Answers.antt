use Rattle.std.proofs.Common.{ap, sym, ◌∙◌, string_bytes, Some}
use Rattle.std.specs.Cmp.Lexicographic.{same_text, other_text}
use Rattle.file_access.specs.declared.memory_files.WrittenFile.{WrittenFile}
use Rattle.file_access.proofs.Entries.{written_at, not_written_at}
use Rattle.file_access.proofs.memory_files.find_written.Goals as goal

pub returns-then-eq : goal.returns-then-eq
returns-then-eq c =
    let here = c.file-item.is in
    λ es found h. c.loop-file.invariant es found
    (written_at c.args.written.now c.loop-file.file-index c.file-item.result es c.args.name.now found
    c.loop-file-test.true
    (ap (λ (w : WrittenFile). string_bytes w.name) (sym here) ∙ sym c.as_str.ensures.value
    ∙ same_text c.as_str.result.now c.args.name.now c.if-eq.ensures)
    (h ∙ ap Some (c.as_slice.ensures.value ∙ ap (λ (w : WrittenFile). w.bytes.items) here)))

pub loop-file-preserved : goal.loop-file-preserved
loop-file-preserved c =
    let here = c.file-item.is in
    λ es found h. c.loop-file.invariant es found
    (not_written_at c.args.written.now c.loop-file.file-index c.file-item.result es c.args.name.now found
    c.loop-file-test.true
    (λ same. other_text c.as_str.result.now c.args.name.now c.if-eq.ensures
    (c.as_str.ensures.value ∙ ap (λ (w : WrittenFile). string_bytes w.name) here ∙ same))
    h)
