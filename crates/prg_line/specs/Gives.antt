-- What a reader of words returned, beside what reading finds.
use Rattle.std.specs.Prelude.{◌≡◌, Result, Ok, Err, true, false}
use Rattle.prg_expr.specs.Reading.{WordsFail}
use Rattle.prg_expr.specs.Word.{words}
use Rattle.prg_expr.specs.declared.fault.ParseFaultKind.{ParseFaultKind}
use Rattle.prg_expr.specs.declared.fault.FormFault.{FormFault}
use Rattle.prg_expr.specs.declared.fault.FormFault.TheVariants.{Kind, Memory}
use Rattle.prg_line.specs.declared.reader.Reader.{Reader}
use Rattle.prg_line.specs.Forms.{At, FormRead, at, is_at_end, unexpected}

-- where a reader stands
abbrev pub at_of : Reader → At
at_of r = at (words r.words.now) r.behind_expression

-- what a function returned, seen by view, and where it left the reader are what reading gives, unless memory ran out
abbrev pub ReadsAs : {X Y : Type 0} → (X → Y) → Result X FormFault → Reader → FormRead Y → Type 0
ReadsAs view (Ok x) left read = read ≡ Ok (view x, at_of left)
ReadsAs view (Err e) left read = WordsFail e read

-- the same of a function that returns nothing but where it left the reader
abbrev pub LeavesReader : {X : Type 0} → Result X FormFault → Reader → Result At ParseFaultKind → Type 0
LeavesReader (Ok x) left read = read ≡ Ok (at_of left)
LeavesReader (Err e) left read = WordsFail e read

-- nothing was left, or the fault is that of what stands there
abbrev pub Ends : {X : Type 0} → Result X FormFault → At → Type 0
Ends (Ok x) a = is_at_end a ≡ true
Ends (Err Memory) a = ⊥
Ends (Err (Kind kind)) a = (is_at_end a ≡ false) × (kind ≡ unexpected a)
