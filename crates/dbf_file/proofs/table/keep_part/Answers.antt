use Rattle.std.proofs.Common.{◌≡◌, ◌+◌, ◌-◌, ◌≤◌, length, take, drop, ap, sym, subst, ◌∙◌, arith}
use Rattle.std.proofs.Math.Seq.{paste}
use Rattle.std.proofs.lemmas.List.{length-drop}
use Rattle.std.proofs.lemmas.List.Edits.{take-paste}
use Rattle.dbf_file.proofs.table.keep_part.Goals as goal

pub returns : goal.returns
returns c =
    let xs = c.args.bytes.now.items in
    let start = c.args.start in
    let count = c.args.count in
    let part = drop start xs in
    let within : count ≤ length part = omega (arith, c.requires, length-drop start xs) in
    let moved : start + count - start ≡ count = omega arith in
    let front : take count (paste xs 0 part count) ≡ take count part = subst
    (λ n. take n (paste xs 0 part count) ≡ take count part) (omega arith)
    (take-paste xs 0 part count (omega arith) within) in
    c.truncate.ensures.items ∙ ap (take count) (c.copy_within.ensures.items ∙ ap (paste xs 0 part) moved) ∙ front
    ∙ sym (ap (λ n. take n part) moved)
