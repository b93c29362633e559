-- Of a file without a fault each line says its part, and the other way.
use Rattle.std.proofs.Common.{◌≡◌, ℕ, List, [], ◌∷◌, Option, Some, None, map, refl, sym, ◌∙◌, ap}
use Rattle.std.specs.List.{All}
use Rattle.std.proofs.lemmas.List.Elements.{All-nil, All-cons, All-head, All-tail}
use Rattle.prg_expr.specs.declared.fault.ParseFaultKind.{ParseFaultKind}
use Rattle.prg_line.specs.declared.role.Role.{Role}
use Rattle.prg_line.specs.LineSays.{LineSays}
use Rattle.prg_line.specs.Alone.{role_at, fault_at, saying_at}
use Rattle.prg_line.specs.Saying.{Saying, role_of}
use Rattle.prg_parser.specs.declared.blocks.Part.{Part}
use Rattle.prg_expr.specs.declared.fault.ParseFault.{ParseFault}
use Rattle.prg_parser.specs.declared.judging.LineMark.{LineMark}
use Rattle.prg_parser.specs.declared.program.Program.{Program}
use Rattle.prg_parser.specs.Blocks.{parts_after, fault_of_place}
use Rattle.prg_parser.specs.Files.{SaysAll, LinesFit, IsProgramOf, numbers, plain_mark, plain_marks}
use Rattle.prg_parser.specs.Layout.{program_lines, said_lines}
use Rattle.prg_parser.specs.Lines.{Joined, joined_lines}
use Rattle.prg_parser.specs.Marks.{line_mark, marks}
use Rattle.prg_parser.specs.Verdict as spec
use Rattle.prg_parser.specs.Verdict.{verdict}
use Rattle.prg_line.proofs.ReadLemmas.{own_fault}

-- what the crate of lines proves: a line without a fault says what is read
abbrev pub SoundLaw : Type 0
SoundLaw = (text : List ℕ) → fault_at text ≡ None → LineSays (saying_at text) text

-- and is to the blocks around it what that is
abbrev pub PlacedLaw : Type 0
PlacedLaw = (text : List ℕ) → fault_at text ≡ None → role_at text ≡ role_of (saying_at text)

-- and what a line says is read, without a fault
abbrev pub FullLaw : Type 0
FullLaw = (text : List ℕ) (s : Saying) → LineSays s text → (fault_at text ≡ None) × (saying_at text ≡ s)

-- what a joined line says
abbrev pub says_at : Joined → Saying
says_at j = saying_at j.text

abbrev Clean : LineMark → Type 0
Clean mark = mark.fault ≡ None

some_none : (x : ParseFault) → Some x ≡ None → ⊥
some_none x h = cc

neither : (o : Option ParseFaultKind) (line : ℕ) (others : Option ParseFault) → spec.or_fault o line others ≡ None
    → (o ≡ None) × (others ≡ None)
neither None line others h = (refl, h)
neither (Some k) line others h = absurd (some_none (record { line = line; kind = k }) h)

clean_marks : (parts : List Part) (unended : Option ℕ) (ms : List LineMark) → verdict parts unended ms ≡ None
    → All Clean ms
unfolding verdict
clean_marks parts unended [] h = All-nil Clean
clean_marks parts unended (m ∷ ms) h =
    let s =
    neither (spec.wrong_in_line parts m) m.line
    (verdict (parts_after parts m.line m.role) (spec.unended_after parts unended m) ms) h in
    All-cons Clean m ms (own_fault m.fault (fault_of_place parts m.role) s.0)
    (clean_marks (parts_after parts m.line m.role) (spec.unended_after parts unended m) ms s.1)

abbrev mark_with_parts : ℕ → Role → Option ParseFaultKind → LineMark
mark_with_parts n r k = record { line = n; role = r; fault = k }

plain_by : (j : Joined) (s : Saying) → role_at j.text ≡ role_of s → fault_at j.text ≡ None
    → line_mark j ≡ plain_mark j s
plain_by j s r f =
    ap (λ (x : Role). mark_with_parts j.first x (fault_at j.text)) r
    ∙ ap (λ (k : Option ParseFaultKind). mark_with_parts j.first (role_of s) k) f

says_all : SoundLaw → (js : List Joined) → All Clean (map line_mark js) → SaysAll (map says_at js) js
says_all sound [] h = tt
says_all sound (j ∷ js) h = (
  sound j.text (All-head Clean (line_mark j) (map line_mark js) h),
  says_all sound js
      (All-tail Clean (line_mark j) (map line_mark js) h),
)

plain_same : PlacedLaw → (js : List Joined) → All Clean (map line_mark js)
    → map line_mark js ≡ plain_marks js (map says_at js)
plain_same placed [] h = refl
plain_same placed (j ∷ js) h =
    let clean = All-head Clean (line_mark j) (map line_mark js) h in
    ap (λ (m : LineMark). m ∷ map line_mark js) (plain_by j (says_at j) (placed j.text clean) clean)
    ∙ ap (λ (ms : List LineMark). plain_mark j (says_at j) ∷ ms)
    (plain_same placed js (All-tail Clean (line_mark j) (map line_mark js) h))

pub is_program : SoundLaw → PlacedLaw → (bytes : List ℕ) (p : Program) → verdict [] None (marks bytes) ≡ None
    → p.name.items ≡ []
    → program_lines p ≡ said_lines (numbers (joined_lines bytes)) (map says_at (joined_lines bytes))
    → IsProgramOf bytes p
is_program sound placed bytes p h n e =
    let clean = clean_marks [] None (marks bytes) h in
    record {
      sayings = map says_at (joined_lines bytes);
      fits = record {
        said = says_all sound (joined_lines bytes) clean;
        blocks = ap (λ (l : List LineMark). verdict [] None l) (sym (plain_same placed (joined_lines bytes) clean)) ∙ h;
      };
      unnamed = n;
      laid_out = e;
    }

-- the other way

all_found : FullLaw → (says : List Saying) (js : List Joined) → SaysAll says js
    → All Clean (map line_mark js) × (map says_at js ≡ says)
all_found found [] [] h = (All-nil Clean, refl)
all_found found [] (j ∷ js) h = absurd h
all_found found (s ∷ says) [] h = absurd h
all_found found (s ∷ says) (j ∷ js) h =
    let l = found j.text s h.0 in
    let r = all_found found says js h.1 in (
      All-cons Clean (line_mark j) (map line_mark js) l.0 r.0,
      ap (λ (x : Saying). x ∷ map says_at js) l.1
          ∙ ap (λ (xs : List Saying). s ∷ xs) r.1,
    )

-- a file that fits has no fault
fits_faultless : PlacedLaw → FullLaw → (bytes : List ℕ) (says : List Saying) → LinesFit bytes says
    → verdict [] None (marks bytes) ≡ None
fits_faultless placed found bytes says h =
    let r = all_found found says (joined_lines bytes) h.said in
    ap (λ (l : List LineMark). verdict [] None l)
    (plain_same placed (joined_lines bytes) r.0 ∙ ap (plain_marks (joined_lines bytes)) r.1) ∙ h.blocks

pub not_refused : PlacedLaw → FullLaw → (bytes : List ℕ) (fault : ParseFault)
    → verdict [] None (marks bytes) ≡ Some fault → (says : List Saying) → LinesFit bytes says → ⊥
not_refused placed found bytes fault v says h = some_none fault (sym v ∙ fits_faultless placed found bytes says h)
