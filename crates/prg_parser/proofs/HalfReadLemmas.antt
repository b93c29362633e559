-- Lemmas on a file that is read line by line.
use Rattle.std.proofs.Common.{◌≡◌, ◌≤◌, ◌==◌, not, ℕ, zero, suc, List, [], ◌∷◌, ◌++◌, length, take, map, arith, Option}
use Rattle.std.proofs.Common.{Some, None, Bool, true, false, subst, refl, sym, ap, ◌∙◌, append_assoc}
use Rattle.std.specs.Prelude.{option_map, is_some, if◌then◌else◌}
use Rattle.std.specs.List.{prefix_len}
use Rattle.std.proofs.lemmas.List.{append-nil}
use Rattle.prg_expr.specs.declared.fault.ParseFault.{ParseFault}
use Rattle.prg_expr.specs.declared.fault.ParseFaultKind.{ParseFaultKind}
use Rattle.prg_expr.specs.declared.fault.ParseRefusal.{ParseRefusal}
use Rattle.prg_expr.specs.Faults.{Tells}
use Rattle.prg_line.specs.Alone.{role_at, fault_at, saying_at}
use Rattle.prg_line.specs.Saying.{Saying, role_of}
use Rattle.prg_parser.specs.declared.blocks.Part.{Part}
use Rattle.prg_parser.specs.declared.builder.Builder.{Builder}
use Rattle.prg_parser.specs.declared.judging.LineMark.{LineMark}
use Rattle.prg_parser.specs.declared.program.Program.{Program}
use Rattle.prg_parser.specs.Blocks.{fault_of_place, parts_after, begins_procedure}
use Rattle.prg_parser.specs.Building.{Took, built_lines, built_parts}
use Rattle.prg_parser.specs.Files.{numbers}
use Rattle.prg_parser.specs.HalfRead.{Passes, IsHalfRead, Ended, sayings}
use Rattle.prg_parser.specs.Layout.{Lines, program_lines, lines_of_saying, said_lines}
use Rattle.prg_parser.specs.Lines.{Joined, before_end, joined}
use Rattle.prg_parser.specs.Marks.{line_mark}
use Rattle.prg_parser.specs.Verdict as spec
use Rattle.prg_parser.specs.Verdict.{verdict}
use Rattle.text_lines.specs.Lines as files
use Rattle.prg_parser.proofs.FileLemmas.{PlacedLaw}
use Rattle.prg_parser.proofs.JoinLemmas.{none_left}
use Rattle.prg_line.proofs.ReadLemmas.{no_fault, own_fault}
use Rattle.prg_parser.proofs.VerdictLemmas.{at-end, front-passed, front-told}

none_before : (b : Bool) (o l : Option ℕ) → (if b then spec.earlier o l else o) ≡ None → o ≡ None
none_before b None l e = refl
none_before true (Some n) l e = cc
none_before false (Some n) l e = cc

none_opened : (parts : List Part) → spec.opening_line parts ≡ None → parts ≡ []
none_opened [] e = refl
none_opened (p ∷ parts) e = cc

-- a block that is open before a procedure is left open
none_open : (parts : List Part) (o : Option ℕ) (b : Bool)
    → (if b then spec.earlier o (spec.opening_line parts) else o) ≡ None → b ≡ true → parts ≡ []
none_open parts None true e t = none_opened parts e
none_open parts (Some n) true e t = cc
none_open parts o false e t = cc

-- a line without a fault is passed
pub passes : PlacedLaw → (ps qs : List Part) (o u : Option ℕ) (j : Joined) (b c : Builder) (t : Bool) (s : Saying)
    → spec.wrong_in_line ps (line_mark j) ≡ None → qs ≡ parts_after ps j.first (role_at j.text)
    → u ≡ spec.unended_after ps o (line_mark j) → t ≡ is_some u → s ≡ saying_at j.text
    → (t ≡ false → fault_of_place (built_parts b) (role_of s) ≡ None
    → (begins_procedure (role_of s) ≡ true → built_parts b ≡ []) → Took b j.first s c)
    → Passes ps o b j qs u c
passes placed ps qs o u j b c t s w q e ts se h =
    let clean = own_fault (fault_at j.text) (fault_of_place ps (role_at j.text)) w in
    let stands = no_fault (fault_at j.text) (fault_of_place ps (role_at j.text)) w in
    let role : role_at j.text ≡ role_of s = placed j.text clean ∙ ap role_of (sym se) in
    let took : u ≡ None → built_parts b ≡ ps → Took b j.first s c =
    λ n same. h (ts ∙ ap is_some n)
    (ap (λ (x : List Part). fault_of_place x (role_of s)) same ∙ ap (fault_of_place ps) (sym role) ∙ stands)
    (λ p. same ∙ none_open ps o (begins_procedure (role_at j.text)) (sym e ∙ n) (ap begins_procedure role ∙ p)) in
    record {
      fault = λ others. front-passed ps o (line_mark j) others w
          ∙ ap (λ (x : List Part). verdict x (spec.unended_after ps o (line_mark j)) others) (sym q)
          ∙ ap (λ (x : Option ℕ). verdict qs x others) (sym e);
      before = λ n. none_before (begins_procedure (role_at j.text)) o (spec.opening_line ps) (sym e ∙ n);
      taken = λ n same. subst (λ (x : Saying). Took b j.first x c) se (took n same);
      opened =
          λ n same. (took n same).parts ∙ ap (λ (x : List Part). parts_after x j.first (role_of s)) same
          ∙ ap (parts_after ps j.first) (sym role) ∙ sym q;
    }

-- and one with a fault is told, whatever follows
pub told_first : (ps : List Part) (o : Option ℕ) (j : Joined) (kind : ParseFaultKind) (others : List LineMark)
    → spec.wrong_in_line ps (line_mark j) ≡ Some kind
    → verdict ps o (line_mark j ∷ others) ≡ Some (record { line = j.first; kind = kind })
told_first ps o j kind others w = front-told ps o (line_mark j) others kind w

pub begins : (all : List Joined) (ps : List Part) (o : Option ℕ) (b : Builder) → ps ≡ [] → o ≡ None → built_parts b ≡ []
    → built_lines b ≡ [] → IsHalfRead all all ps o b
begins all ps o b p n bp bl = record {
  fault =
      ap (λ (x : List Part). verdict x o (map line_mark all)) p
      ∙ ap (λ (x : Option ℕ). verdict [] x (map line_mark all)) n;
  opened = λ _. bp ∙ sym p;
  said = λ _. ap (λ (x : Lines). x ++ said_lines (numbers all) (sayings all)) bl;
}

-- the loop's step
pub goes_on : (all left : List Joined) (j : Joined) (ps qs : List Part) (o u : Option ℕ) (b c : Builder)
    → Passes ps o b j qs u c → IsHalfRead all (j ∷ left) ps o b → IsHalfRead all left qs u c
goes_on all left j ps qs o u b c p h = record {
  fault = sym (p.fault (map line_mark left)) ∙ h.fault;
  opened = λ n. p.opened n (h.opened (p.before n));
  said =
      λ n. ap (λ (ls : Lines). ls ++ said_lines (numbers left) (sayings left)) (p.taken n (h.opened (p.before n))).lines
      ∙ append_assoc (built_lines b) (lines_of_saying j.first (saying_at j.text))
      (said_lines (numbers left) (sayings left))
      ∙ h.said (p.before n);
}

-- a refusal of the first line that is left is one of the whole
pub tells_whole : (whole : Option ParseFault) (ps : List Part) (o : Option ℕ) (j : Joined) (left : List Joined)
    (r : ParseRefusal) → ((others : List LineMark) → Tells (verdict ps o (line_mark j ∷ others)) r)
    → verdict ps o (map line_mark (j ∷ left)) ≡ whole → Tells whole r
tells_whole whole ps o j left r h e = subst (λ (v : Option ParseFault). Tells v r) e (h (map line_mark left))

none_marked : (o : Option ℕ) → option_map spec.block_fault_at o ≡ None → o ≡ None
none_marked None e = refl
none_marked (Some n) e = cc

none_earlier : (o l : Option ℕ) → spec.earlier o l ≡ None → (o ≡ None) × (l ≡ None)
none_earlier None l e = (refl, e)
none_earlier (Some n) l e = cc

-- behind the last line
pub ends : (ps : List Part) (o : Option ℕ) (b : Builder) (p : Program)
    → option_map spec.block_fault_at (spec.earlier o (spec.opening_line ps)) ≡ None
    → (built_parts b ≡ [] → program_lines p ≡ built_lines b) → p.name.items ≡ [] → Ended ps o b p
ends ps o b p e l n =
    let both = none_earlier o (spec.opening_line ps) (none_marked (spec.earlier o (spec.opening_line ps)) e) in
    record {
      faultless = at-end ps o ∙ e;
      none_left = both.0;
      unnamed = n;
      laid_out = λ same. l (same ∙ none_opened ps both.1);
    }

-- the fault of a file of which no line is left
pub tells_end : (whole : Option ParseFault) (ps : List Part) (o : Option ℕ) (r : ParseRefusal) → verdict ps o [] ≡ whole
    → Tells (verdict ps o []) r → Tells whole r
tells_end whole ps o r e h = subst (λ (v : Option ParseFault). Tells v r) e h

-- all that was put together
pub all_said : (all : List Joined) (ps : List Part) (o : Option ℕ) (b : Builder) (p : Program)
    → IsHalfRead all [] ps o b → Ended ps o b p → program_lines p ≡ said_lines (numbers all) (sayings all)
all_said all ps o b p h e = e.laid_out (h.opened e.none_left) ∙ sym (append-nil (built_lines b)) ∙ h.said e.none_left

-- the marks of all lines, where no bytes are left
pub all_marked : (done : List LineMark) (line : ℕ) (rest : List ℕ) (all : List LineMark)
    → done ++ map line_mark (joined line (files.lines rest)) ≡ all → rest ≡ [] → done ≡ all
all_marked done line rest all e nothing =
    sym (append-nil done) ∙ ap (λ (l : List Joined). done ++ map line_mark l) (sym (none_left line rest nothing)) ∙ e

-- and what stands of the lines then
pub all_stand : (all : List Joined) (line : ℕ) (rest : List ℕ) (ps : List Part) (o : Option ℕ) (b : Builder)
    → IsHalfRead all (joined line (files.lines rest)) ps o b → rest ≡ [] → IsHalfRead all [] ps o b
all_stand all line rest ps o b h nothing = subst (λ (left : List Joined). IsHalfRead all left ps o b)
    (none_left line rest nothing) h

front_within : (k : ℕ) (xs : List ℕ) → length (take k xs) ≤ length xs
front_within zero xs = omega arith
front_within (suc k) [] = omega arith
front_within (suc k) (x ∷ xs) = let h = front_within k xs in omega (arith, h)

-- a file is no shorter than its part before the byte that ends it
pub before_within : (bytes : List ℕ) → length (before_end bytes) ≤ length bytes
before_within bytes = front_within (prefix_len (λ b. not (b == 26)) bytes) bytes
