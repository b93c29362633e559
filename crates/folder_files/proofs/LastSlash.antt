-- Where the last slash of a path stands.
use Rattle.std.proofs.Common.{◌≡◌, ◌≢◌, ◌<◌, ◌+◌, ◌-◌, ◌==◌, [], not, ap, arith, drop, length, get_or, take, ℕ, List}
use Rattle.std.proofs.Common.{true, false}
use Rattle.std.proofs.lemmas.Bool.Decides.{nat_tests}
use Rattle.std.proofs.lemmas.List.Sums.{suffix_len_is}
use Rattle.std.specs.List.{suffix_len}
use Rattle.folder_files.specs.Paths.{folder_of_path, name_of_path}

is_other : (byte : ℕ) → byte ≢ 47 → not (byte == 47) ≡ true
is_other byte other = grind (arith, nat_tests)

is_slash : (byte : ℕ) → byte ≡ 47 → not (byte == 47) ≡ false
is_slash byte same = grind (arith, nat_tests)

-- how many bytes stand behind it
pub behind_last : (path : List ℕ) (slash : ℕ) → slash < length path → get_or path slash 0 ≡ 47
    → ((place : ℕ) → slash < place → place < length path → get_or path place 0 ≢ 47)
    → suffix_len (λ byte. not (byte == 47)) path ≡ length path - (slash + 1)
behind_last path slash there here only =
    suffix_len_is (λ byte. not (byte == 47)) path (slash + 1) 0 (omega arith)
    (λ place from below. is_other (get_or path place 0) (only place (omega arith) below))
    (λ _. let same : slash + 1 - 1 ≡ slash = omega arith in rw same (is_slash (get_or path slash 0) here))

-- and where there is none
pub behind_none : (path : List ℕ) → ((place : ℕ) → place < length path → get_or path place 0 ≢ 47)
    → suffix_len (λ byte. not (byte == 47)) path ≡ length path - 0
behind_none path only =
    suffix_len_is (λ byte. not (byte == 47)) path 0 0 (omega arith)
    (λ place from below. is_other (get_or path place 0) (only place below))
    (λ some. absurd (omega arith))

-- ---- a path that is cut there

pub folder_to : (path : List ℕ) (slash cut : ℕ) → slash < length path → get_or path slash 0 ≡ 47
    → ((place : ℕ) → slash < place → place < length path → get_or path place 0 ≢ 47) → cut ≡ slash + 1
    → take cut path ≡ folder_of_path path
folder_to path slash cut there here only is =
    let behind = behind_last path slash there here only in
    let same : cut ≡ length path - suffix_len (λ byte. not (byte == 47)) path = omega arith in
    ap (λ n. take n path) same

pub name_from : (path : List ℕ) (slash cut : ℕ) → slash < length path → get_or path slash 0 ≡ 47
    → ((place : ℕ) → slash < place → place < length path → get_or path place 0 ≢ 47) → cut ≡ slash + 1
    → drop cut path ≡ name_of_path path
name_from path slash cut there here only is =
    let behind = behind_last path slash there here only in
    let same : cut ≡ length path - suffix_len (λ byte. not (byte == 47)) path = omega arith in
    ap (λ n. drop n path) same

pub folder_none : (path : List ℕ) → ((place : ℕ) → place < length path → get_or path place 0 ≢ 47)
    → [] ≡ folder_of_path path
folder_none path only =
    let behind = behind_none path only in
    let same : 0 ≡ length path - suffix_len (λ byte. not (byte == 47)) path = omega arith in
    ap (λ n. take n path) same

pub name_whole : (path : List ℕ) → ((place : ℕ) → place < length path → get_or path place 0 ≢ 47)
    → path ≡ name_of_path path
name_whole path only =
    let behind = behind_none path only in
    let same : 0 ≡ length path - suffix_len (λ byte. not (byte == 47)) path = omega arith in
    ap (λ n. drop n path) same
