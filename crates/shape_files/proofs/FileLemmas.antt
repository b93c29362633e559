-- What lines declare of files that stay the same, lines that were taken, and what is told.
use Rattle.std.proofs.Common.{◌≡◌, ◌≤◌, ◌+◌, ℕ, List, [], ◌∷◌, ◌++◌, Some, length, length-append, append_assoc}
use Rattle.std.proofs.Common.{append-nil, inl, inr, refl, sym, ap, ◌∙◌, subst, arith}
use Rattle.std.specs.Prelude.{◌⊎◌, None}
use Rattle.dbf_file.specs.declared.field.Field.{Field}
use Rattle.file_access.specs.Holding.{Holds, SameFiles}
use Rattle.file_access.proofs.Holding.{rose_later}
use Rattle.shape.specs.declared.tables.TableShape.{TableShape}
use Rattle.shape.specs.declared.whole.Shape.{Shape}
use Rattle.text_lines.specs.Lines.{lines}
use Rattle.shape_files.specs.declared.refusal.DeclFault.TheVariants.{Absent, TooLong, Line}
use Rattle.shape_files.specs.declared.refusal.LineFault.{LineFault}
use Rattle.shape_files.specs.declared.refusal.LineFault.TheVariants as fault
use Rattle.shape_files.specs.declared.refusal.ShapeRefusal.{ShapeRefusal}
use Rattle.shape_files.specs.declared.refusal.ShapeRefusal.TheVariants.{Refused, Disk, TableDisk, Memory}
use Rattle.shape_files.specs.Lines.{Said, Nothing, Table, Index, Other, said_in_line}
use Rattle.shape_files.specs.Refusals.{AtLineIs, IsUnfitTable, LacksTable, LineFaultIs, LinesRefusalIs, LongFile}
use Rattle.shape_files.specs.Refusals.{NoFile, OtherFile, ShapeRefusalIs, TableFaultIs}
use Rattle.shape_files.specs.Shapes.{Declare, HasFields, LineDeclares, DeclaresTable, file_name, no_shape}

-- ---- what lines declare of the same files

fields_before : (a b : Holds) (name : List ℕ) (fields : List Field) → SameFiles a b
    → HasFields (b (file_name name)) fields → HasFields (a (file_name name)) fields
fields_before a b name fields same h = record {
  bytes = h.bytes;
  held = (same (file_name name) (Some h.bytes)).1 h.held;
  short = h.short;
  table = h.table;
}

table_before : (a b : Holds) (name : List ℕ) (before after : Shape) → SameFiles a b → DeclaresTable b name before after
    → DeclaresTable a name before after
table_before a b name before after same d = record {
  table = d.table;
  named = d.named;
  file = fields_before a b name d.table.fields same d.file;
  next = d.next;
  room = d.room;
  added = d.added;
}

pub declares_before : (a b : Holds) (s : Said) (before after : Shape) → SameFiles a b → LineDeclares b s before after
    → LineDeclares a s before after
declares_before a b Nothing before after same d = d
declares_before a b (Table name) before after same d = table_before a b name before after same d
declares_before a b (Index name table key) before after same d = d
declares_before a b Other before after same d = d

pub declare_before : (a b : Holds) (ls : List (List ℕ)) (before after : Shape) → SameFiles a b
    → Declare b ls before after → Declare a ls before after
declare_before a b [] before after same d = d
declare_before a b (l ∷ ls) before after same d =
    (d.0, declares_before a b (said_in_line l) before d.0 same d.1, declare_before a b ls d.0 after same d.2)

pub no_lines : (rest : List ℕ) → length rest ≡ 0 → lines rest ≡ []
unfolding lines
no_lines [] e = refl
no_lines (b ∷ rest) e = absurd (omega (arith, e))

-- ---- what faults lines have of the same files

no_table_before : (a b : Holds) (name : List ℕ) → SameFiles a b → LacksTable (b (file_name name))
    → LacksTable (a (file_name name))
no_table_before a b name same (NoFile absent) = NoFile ((same (file_name name) None).1 absent)
no_table_before a b name same (LongFile l) = LongFile (record {
  bytes = l.bytes;
  held = (same (file_name name) (Some l.bytes)).1 l.held;
  long = l.long;
})
no_table_before a b name same (OtherFile bytes held none) =
    OtherFile bytes ((same (file_name name) (Some bytes)).1 held) none

unfit_before : (a b : Holds) (tables : List TableShape) (name : List ℕ) → SameFiles a b
    → IsUnfitTable (b (file_name name)) tables name → IsUnfitTable (a (file_name name)) tables name
unfit_before a b tables name same u = record {
  table = u.table;
  named = u.named;
  file = fields_before a b name u.table.fields same u.file;
  unfit = u.unfit;
}

file_before : (a b : Holds) (tables : List TableShape) (name : List ℕ) → SameFiles a b
    → LacksTable (b (file_name name)) ⊎ IsUnfitTable (b (file_name name)) tables name
    → LacksTable (a (file_name name)) ⊎ IsUnfitTable (a (file_name name)) tables name
file_before a b tables name same (inl none) = inl (no_table_before a b name same none)
file_before a b tables name same (inr unfit) = inr (unfit_before a b tables name same unfit)

table_fault_before : (a b : Holds) (s : Shape) (name : List ℕ) (f : LineFault) → SameFiles a b → TableFaultIs b s name f
    → TableFaultIs a s name f
table_fault_before a b s name fault.Word same t = t
table_fault_before a b s name fault.Name same t = t
table_fault_before a b s name fault.Key same t = t
table_fault_before a b s name fault.Limit same t = t
table_fault_before a b s name fault.Table same t = (t.0, t.1, file_before a b s.tables name same t.2)

pub fault_before : (a b : Holds) (s : Shape) (says : Said) (f : LineFault) → SameFiles a b → LineFaultIs b s says f
    → LineFaultIs a s says f
fault_before a b s Nothing f same t = t
fault_before a b s (Table name) f same t = table_fault_before a b s name f same t
fault_before a b s (Index name table key) f same t = t
fault_before a b s Other f same t = t

-- ---- lines that were taken

pub declare_more : (a : Holds) (ls : List (List ℕ)) (l : List ℕ) (s t u : Shape) → Declare a ls s t
    → LineDeclares a (said_in_line l) t u → Declare a (ls ++ l ∷ []) s u
declare_more a [] l s t u d e = (u, subst (λ (x : Shape). LineDeclares a (said_in_line l) x u) (sym d) e, refl)
declare_more a (m ∷ ls) l s t u d e = (d.0, d.1, declare_more a ls l d.0 t u d.2 e)

-- of all lines so many are taken, which declare the shape, and the rest are left
pub record Passed (holds : Holds) (all rest : List (List ℕ)) (number : ℕ) (shape : Shape) : Type 0 where
  pub front : List (List ℕ)
  pub cut : all ≡ front ++ rest
  pub count : number ≡ length front
  pub declared : Declare holds front no_shape shape

pub none_passed : (a : Holds) (all : List (List ℕ)) → Passed a all all 0 no_shape
none_passed a all = record { front = []; cut = refl; count = refl; declared = refl }

pub one_passed : (a : Holds) (all rest behind : List (List ℕ)) (text : List ℕ) (n : ℕ) (s t : Shape)
    → rest ≡ text ∷ behind → Passed a all rest n s → LineDeclares a (said_in_line text) s t
    → Passed a all behind (n + 1) t
one_passed a all rest behind text n s t e p d = record {
  front = p.front ++ text ∷ [];
  cut = p.cut ∙ ap (λ r. p.front ++ r) e ∙ sym (append_assoc p.front (text ∷ []) behind);
  count = omega (arith, p.count, length-append p.front (text ∷ []));
  declared = declare_more a p.front text no_shape s t p.declared d;
}

pub all_passed : (a : Holds) (all rest : List (List ℕ)) (n : ℕ) (s : Shape) → rest ≡ [] → Passed a all rest n s
    → Declare a all no_shape s
all_passed a all rest n s e p =
    subst (λ (ls : List (List ℕ)). Declare a ls no_shape s)
    (sym (p.cut ∙ ap (λ r. p.front ++ r) e ∙ append-nil p.front)) p.declared

-- ---- what is told

pub line_told : (r : ShapeRefusal) (holds read : Holds) (all rest behind : List (List ℕ)) (text : List ℕ) (n : ℕ)
    (s : Shape) (a b c : ℕ) → rest ≡ text ∷ behind → SameFiles holds read → Passed holds all rest n s → a ≤ b → b ≤ c
    → AtLineIs read (n + 1) s (said_in_line text) b c r → LinesRefusalIs holds all a c r
line_told (Refused Absent) holds read all rest behind text n s a b c e same p l m t = absurd t
line_told (Refused TooLong) holds read all rest behind text n s a b c e same p l m t = absurd t
line_told (Refused (Line told f)) holds read all rest behind text n s a b c e same p l m t = record {
  front = p.front;
  text = text;
  behind = behind;
  cut = p.cut ∙ ap (λ r. p.front ++ r) e;
  place = t.0 ∙ ap (λ x. x + 1) p.count;
  shape = s;
  declared = p.declared;
  faulty = fault_before holds read s (said_in_line text) f same t.1;
}
line_told Disk holds read all rest behind text n s a b c e same p l m t = absurd t
line_told (TableDisk name) holds read all rest behind text n s a b c e same p l m t = (
  record { front = p.front; text = text; behind = behind; cut = p.cut ∙ ap (λ r. p.front ++ r) e; says = t.0 },
  rose_later a b c l m t.1,
)
line_told Memory holds read all rest behind text n s a b c e same p l m t = tt

pub lines_told : (r : ShapeRefusal) (first read : Holds) (name bytes : List ℕ) (a b c : ℕ) → SameFiles first read
    → first name (Some bytes) → a ≤ b → b ≤ c → LinesRefusalIs read (lines bytes) b c r
    → ShapeRefusalIs first name a c r
lines_told (Refused Absent) first read name bytes a b c same held l m t = absurd t
lines_told (Refused TooLong) first read name bytes a b c same held l m t = absurd t
lines_told (Refused (Line number f)) first read name bytes a b c same held l m t = record {
  bytes = bytes;
  held = held;
  line = record {
    front = t.front;
    text = t.text;
    behind = t.behind;
    cut = t.cut;
    place = t.place;
    shape = t.shape;
    declared = declare_before first read t.front no_shape t.shape same t.declared;
    faulty = fault_before first read t.shape (said_in_line t.text) f same t.faulty;
  };
}
lines_told Disk first read name bytes a b c same held l m t = absurd t
lines_told (TableDisk table) first read name bytes a b c same held l m t =
    (record { bytes = bytes; held = held; said = t.0 }, rose_later a b c l m t.1)
lines_told Memory first read name bytes a b c same held l m t = tt
