-- A line more.
use Rattle.std.proofs.Common.{◌≡◌, ℕ, ◌+◌, ◌<◌, List, [], ◌∷◌, ◌++◌, length, take, map, get_or, sym, ap, ◌∙◌}
use Rattle.std.proofs.Common.{append-nil}
use Rattle.std.proofs.lemmas.List.{take_more, map-append, flat_map_more}
use Rattle.std.specs.List.{flat_map}
use Rattle.csv.specs.Writing.{default_writer, row_text}
use Rattle.dbf_file.specs.Rows.{Row}
use Rattle.table_csv.specs.Cells.{lines_text}

more : (g : List (List ℕ) → List ℕ) (names line : List (List ℕ)) (f : Row → List (List ℕ)) (rows : List Row) (r : ℕ)
    (d : Row) → r < length rows → line ≡ f (get_or rows r d)
    → flat_map g (names ∷ map f (take r rows)) ++ g line ≡ flat_map g (names ∷ map f (take (r + 1) rows))
more g names line f rows r d h e =
    ap (λ l. flat_map g (names ∷ map f (take r rows)) ++ g l) e
    ∙ flat_map_more g [] (names ∷ map f (take r rows)) (f (get_or rows r d))
    ∙ ap (λ ls. flat_map g (names ∷ ls)) (sym (map-append f (take r rows) (get_or rows r d ∷ [])))
    ∙ ap (λ rs. flat_map g (names ∷ map f rs)) (sym (take_more rows r d h))

first : (g : List (List ℕ) → List ℕ) (names line : List (List ℕ)) → line ≡ names → g line ≡ flat_map g (names ∷ [])
first g names line e = ap g e ∙ sym (append-nil (g names))

pub first_line : (names line : List (List ℕ)) → line ≡ names → [] ++ row_text default_writer line
    ≡ lines_text (names ∷ [])
unfolding lines_text
first_line names line e = first (row_text default_writer) names line e

pub more_lines : (names line : List (List ℕ)) (f : Row → List (List ℕ)) (rows : List Row) (r : ℕ) (d : Row)
    → r < length rows → line ≡ f (get_or rows r d)
    → lines_text (names ∷ map f (take r rows)) ++ row_text default_writer line
    ≡ lines_text (names ∷ map f (take (r + 1) rows))
unfolding lines_text
more_lines names line f rows r d h e = more (row_text default_writer) names line f rows r d h e
