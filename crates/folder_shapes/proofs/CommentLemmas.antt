-- Command files add comments.
use Rattle.std.proofs.Common.{◌≡◌, ℕ, ◌+◌, ◌==◌, Bool, true, false, List, [], ◌∷◌, ◌++◌, Option, Some, None, length}
use Rattle.std.proofs.Common.{if◌then◌else◌, inl, inr, refl, sym, ap, subst, ◌∙◌, append_assoc, append-nil}
use Rattle.std.proofs.lemmas.List.Folds.{list_all-append}
use Rattle.std.specs.List.{list_all}
use Rattle.file_access.specs.Holding.{Holds}
use Rattle.folder_shapes.specs.declared.line.FolderLine.{FolderLine}
use Rattle.folder_shapes.specs.declared.line.FolderLine.TheVariants as line
use Rattle.folder_shapes.specs.declared.mention.Proposal.{Proposal}
use Rattle.folder_shapes.specs.declared.names.Sort.{Sort}
use Rattle.folder_shapes.specs.declared.names.Sort.TheVariants as sort
use Rattle.folder_shapes.specs.Folder.{AddsComments, DeclaresBefore, TakesFolder, is_comment_line}
use Rattle.folder_shapes.specs.Names.{sort_of}
use Rattle.folder_shapes.specs.Programs.{Named}
use Rattle.folder_shapes.specs.Proposals.{last_line, proposal_line, proposal_of, proposals_from, proposed_lines}
use Rattle.folder_shapes.specs.Proposals.{with_proposals}
use Rattle.folder_shapes.specs.Told.{State, ProgramStep, TakePrograms, TakesProgram}

adds_nothing : (x : State) → AddsComments x x
adds_nothing x = record {
  tables = refl;
  found = refl;
  indexes = refl;
  comments = [];
  lines = sym (append-nil x.lines);
  only = refl;
}

both : (a b : List FolderLine) → list_all is_comment_line a ≡ true → list_all is_comment_line b ≡ true
    → list_all is_comment_line (a ++ b) ≡ true
both a b h k = list_all-append is_comment_line a b ∙ rw (h, k) refl

adds_then : (x y z : State) → AddsComments x y → AddsComments y z → AddsComments x z
adds_then x y z h k = record {
  tables = k.tables ∙ h.tables;
  found = k.found ∙ h.found;
  indexes = k.indexes ∙ h.indexes;
  comments = h.comments ++ k.comments;
  lines = k.lines ∙ ap (λ (ls : List FolderLine). ls ++ k.comments) h.lines
      ∙ append_assoc x.lines h.comments k.comments;
  only = both h.comments k.comments h.only k.only;
}

along : (x y z : State) → z ≡ y → AddsComments x y → AddsComments x z
along x y z e h = subst (λ (s : State). AddsComments x s) (sym e) h

program_adds : (a : Holds) (n : ℕ) (name : List ℕ) (x y : State) → TakesProgram a n name x y → AddsComments x y
program_adds a n name x y (inl (bytes, read, after)) =
    subst (λ (s : State). AddsComments x s) (sym after) (record {
      tables = refl;
      found = refl;
      indexes = refl;
      comments = [];
      lines = sym (append-nil x.lines);
      only = refl;
    })
program_adds a n name x y (inr (told, why, after)) =
    subst (λ (s : State). AddsComments x s) (sym after) (record {
      tables = refl;
      found = refl;
      indexes = refl;
      comments = line.Noted n told ∷ [];
      lines = refl;
      only = refl;
    })

step_adds : (k : Sort) (a : Holds) (n : ℕ) (name : List ℕ) (x y : State) → ProgramStep k a n name x y → AddsComments x y
step_adds sort.Table a n name x y h = along x x y h (adds_nothing x)
step_adds sort.Index a n name x y h = along x x y h (adds_nothing x)
step_adds sort.Program a n name x y h = program_adds a n name x y h
step_adds sort.Other a n name x y h = along x x y h (adds_nothing x)

programs_add : (a : Holds) (n : ℕ) (names : List (List ℕ)) (x y : State) → TakePrograms a n names x y → AddsComments x y
programs_add a n [] x y e = along x x y (sym e) (adds_nothing x)
programs_add a n (name ∷ names) x y (next, step, others) =
    adds_then x next y (step_adds (sort_of name) a n name x next step) (programs_add a (n + 1) names next y others)

one_comment : (n : ℕ) (p : Option Proposal) → list_all is_comment_line (proposal_line n p) ≡ true
one_comment n None = refl
one_comment n (Some p) = refl

all_comments : (s : State) (n : ℕ) (ms : List Named) → list_all is_comment_line (proposals_from s n ms) ≡ true
all_comments s n [] = refl
all_comments s n (m ∷ ms) =
    both (proposal_line n (proposal_of s m)) (proposals_from s (n + 1) ms) (one_comment n (proposal_of s m))
    (all_comments s (n + 1) ms)

last_by : (b : Bool) (e : List FolderLine) → (if b then line.More ∷ [] else []) ≡ e → list_all is_comment_line e ≡ true
last_by true e h = subst (λ (ls : List FolderLine). list_all is_comment_line ls ≡ true) h refl
last_by false e h = subst (λ (ls : List FolderLine). list_all is_comment_line ls ≡ true) h refl

proposals_add : (s : State) → AddsComments s (with_proposals s)
proposals_add s = record {
  tables = refl;
  found = refl;
  indexes = refl;
  comments = proposed_lines s;
  lines = refl;
  only = both (proposals_from s 0 s.mentions) (last_line s.mentions) (all_comments s 0 s.mentions)
      (last_by (length s.mentions == 256) (last_line s.mentions) refl);
}

pub declares_before : (a : Holds) (names : List (List ℕ)) (y : State) → TakesFolder a names y → DeclaresBefore a names y
declares_before a names y (declared, read, taken, programs, after) = (
  declared,
  taken,
  adds_then declared read y (programs_add a 0 names declared read programs)
      (along read (with_proposals read) y after (proposals_add read)),
)
