-- What is told of command files that stay the same.
use Rattle.std.proofs.Common.{◌≡◌, ◌<◌, ◌≤◌, ℕ, List, [], Some, None, length, get_or, map, refl, sym, ap, ◌∙◌, subst}
use Rattle.std.proofs.Common.{Bor}
use Rattle.std.proofs.lemmas.List.{get_or-map, length-map}
use Rattle.file_access.specs.Holding.{Holds, SameFiles}
use Rattle.file_access.proofs.Holding.{rose_later}
use Rattle.compile_commands.specs.declared.refusal.CompileFilesRefusal.{CompileFilesRefusal}
use Rattle.compile_commands.specs.declared.refusal.CompileFilesRefusal.TheVariants.{Declarations, Source, SourceDisk}
use Rattle.compile_commands.specs.declared.refusal.CompileFilesRefusal.TheVariants.{CodeDisk, Memory}
use Rattle.compile_commands.specs.declared.refusal.SourceFault.{SourceFault}
use Rattle.compile_commands.specs.declared.refusal.SourceFault.TheVariants.{Absent, TooLong, Parse, Compile}
use Rattle.compile_commands.specs.Compiling.{IsRead, name_at}
use Rattle.compile_commands.specs.Refusals.{IsOfFiles, SourceFaultIs, SourceRefusalIs, SourcesRefusalIs}

-- ---- command files

pub read_before : (a b : Holds) (name : List ℕ) → SameFiles a b → IsRead (b name) → IsRead (a name)
read_before a b name s r = record { bytes = r.bytes; held = (s name (Some r.bytes)).1 r.held; faultless = r.faultless }

fault_before : (a b : Holds) (name : List ℕ) (fault : SourceFault) → SameFiles a b → SourceFaultIs (b name) fault
    → SourceFaultIs (a name) fault
fault_before a b name Absent s f = (s name None).1 f
fault_before a b name TooLong s f = record { bytes = f.bytes; held = (s name (Some f.bytes)).1 f.held; long = f.long }
fault_before a b name (Parse line kind) s f = record {
  bytes = f.bytes;
  held = (s name (Some f.bytes)).1 f.held;
  told = f.told;
}
fault_before a b name (Compile line _) s f = f

of_files : (fault : SourceFault) (names : List (List ℕ)) (file : ℕ) → file < length names → IsOfFiles names file fault
of_files Absent names file h = h
of_files TooLong names file h = h
of_files (Parse line kind) names file h = h
of_files (Compile line _) names file h = tt

-- what is told of one is told of all
source_told : (r : CompileFilesRefusal) (a b : Holds) (names : List (List ℕ)) (name : List ℕ) (number k m n : ℕ)
    → SameFiles a b → name_at names number ≡ name → number < length names → k ≤ m → m ≤ n
    → SourceRefusalIs number (b name) m n r → SourcesRefusalIs a names k n r
source_told (Declarations refusal) a b names name number k m n s e within l h t = t
source_told (Source file fault) a b names name number k m n s e within l h t = (
  of_files fault names file (subst (λ x. x < length names) (sym t.0) within),
  subst (λ x. SourceFaultIs (a x) fault) (sym e ∙ ap (λ x. name_at names x) (sym t.0))
      (fault_before a b name fault s t.1),
)
source_told (SourceDisk file) a b names name number k m n s e within l h t =
    (subst (λ x. x < length names) (sym t.0) within, rose_later k m n l h t.1)
source_told CodeDisk a b names name number k m n s e within l h t = t
source_told Memory a b names name number k m n s e within l h t = tt

-- the same where names are lent
pub told_at : (r : CompileFilesRefusal) (a b : Holds) (names : List (Bor (List ℕ))) (none : Bor (List ℕ))
    (number k m n : ℕ) → SameFiles a b
    → number < length names → k ≤ m → m ≤ n → SourceRefusalIs number (b (get_or names number none).now) m n r
    → SourcesRefusalIs a (map (λ name. name.now) names) k n r
told_at r a b names none number k m n s lt l h t =
    let lent = λ (name : Bor (List ℕ)). name.now in
    let within : number < length (map lent names) = subst (λ many. number < many) (sym (length-map names lent)) lt in
    let e = get_or-map lent names number none [] lt in
    source_told r a b (map lent names) (name_at (map lent names) number) number k m n s refl within l h
    (subst (λ (x : List ℕ). SourceRefusalIs number (b x) m n r) (sym e) t)
