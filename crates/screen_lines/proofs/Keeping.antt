-- What is kept stands for the roll, through each change of it.
use Rattle.std.proofs.Common.{◌≡◌, ℕ, ◌+◌, ◌-◌, ◌<◌, ◌≤◌, List, [], ◌∷◌, ◌++◌, length, get_or, set, take, drop, map}
use Rattle.std.proofs.Common.{min, refl, sym, ◌∙◌, ap, arith, append_assoc, length-append, length-take, length-drop}
use Rattle.std.specs.List.{All, suffix_len}
use Rattle.std.proofs.lemmas.List.{length-map, length-set, set-append_right, get_or-append-add, get_or_default, set_at}
use Rattle.std.proofs.lemmas.List.{take_more, drop_more, append-nil, length_push, take_at, drop_at}
use Rattle.std.proofs.lemmas.List.Elements.{All-set, All-get_or, All-append, All-take, All-drop, All-map, All-replicate}
use Rattle.std.proofs.lemmas.List.Elements.{All-cons, All-nil}
use Rattle.std.proofs.lemmas.Bool.Decides.{nat_tests}
use Rattle.screen_lines.specs.declared.cursor.Cursor.{Cursor}
use Rattle.screen_lines.specs.declared.cursor.Cursor.TheVariants.{BeforeFirst, At}
use Rattle.screen_lines.specs.Roll.{Roll, blank_screen_row, row_with, shown_byte, shown_at, scrolled, line_sent}
use Rattle.screen_lines.specs.Roll.{lines_sent, blank_rows, blank_roll, rows_shown, without_end, is_blank_row}
use Rattle.screen_lines.specs.Roll.{roll_cleared}
use Rattle.screen_lines.specs.Kept.{rows_sent, roll_with, AreLines, Keeps}
use Rattle.screen_lines.specs.Shape.{Shows, IsRow}
use Rattle.screen_lines.proofs.Sending.{length-blank_row, get_or-blank_row, rows_sent-append, AreLines-append}
use Rattle.screen_lines.proofs.Sending.{AreLines-nil}

shown_byte-Shows : (byte : ℕ) → Shows (shown_byte byte)
shown_byte-Shows byte = (grind (arith, nat_tests), λ is. grind (arith, nat_tests))

pub IsRow-blank : IsRow blank_screen_row
IsRow-blank =
    let all : (i : ℕ) (d : ℕ) → i < length blank_screen_row → Shows (get_or blank_screen_row i d) =
    λ i d h. let at : get_or blank_screen_row i d ≡ 32 = get_or-blank_row i d (omega (arith, length-blank_row)) in
    (omega arith, λ is. absurd (omega arith)) in
    record { wide = length-blank_row; plain = all }

pub IsRow-with : (column : ℕ) (text row : List ℕ) → column ≤ 80 → IsRow row → IsRow (row_with column text row)
IsRow-with column text row inside is =
    let wide = is.wide in
    record {
      wide = simp (length-take, length-append, length-map, length-drop) (omega arith);
      plain = All-take Shows 80 (take column row ++ map shown_byte text ++ drop (column + length text) row)
          (All-append Shows (take column row ++ map shown_byte text) (drop (column + length text) row)
          (All-append Shows (take column row) (map shown_byte text)
          (All-take Shows column row is.plain)
          (All-map Shows shown_byte text (λ k d h. shown_byte-Shows (get_or text k d))))
          (All-drop Shows (column + length text) row is.plain));
    }

-- a text shown in a row seen
pub Keeps-show : (sent : List ℕ) (seen : List (List ℕ)) (cursor : Cursor) (row column end : ℕ) (text now : List ℕ)
    → Keeps sent seen cursor →
    row < 25 → column ≤ 80 → end ≤ 80 → now ≡ get_or seen row now → Keeps sent (set seen row (row_with column text now))
    (At row end)
Keeps-show sent seen cursor row column end text now kept low inside within is =
    let count = kept.count in
    let here : IsRow (get_or seen row now) = All-get_or IsRow seen row now (omega arith) kept.rows in
    let Q : List ℕ → Type 0 = λ r. IsRow r in
    record {
      count = length-set seen row (row_with column text now) ∙ kept.count;
      rows = All-set IsRow seen row (row_with column text now) (IsRow-with column text now inside (rw (← is) at here))
          kept.rows;
      cursor = (low, within);
      lines = kept.lines;
    }

pub roll-show : (sent : List ℕ) (seen : List (List ℕ)) (cursor : Cursor) (row column end : ℕ) (text now : List ℕ)
    → length seen ≡ 25 → row < 25 →
    now ≡ get_or seen row now → end ≡ min (column + length text) 80 →
    roll_with sent (set seen row (row_with column text now)) (At row end)
    ≡ shown_at row column text (roll_with sent seen cursor)
roll-show sent seen cursor row column end text now count low is behind =
    let past = rows_sent sent in
    let inside : row < length seen = omega arith in
    let at : get_or (past ++ seen) (length past + row) blank_screen_row ≡ now =
    get_or-append-add past seen row blank_screen_row ∙ get_or_default seen row blank_screen_row now inside ∙ sym is in
    let off : length past + row - length past ≡ row = omega arith in
    let put : set (past ++ seen) (length past + row) (row_with column text now)
    ≡ past ++ set seen row (row_with column text now) =
    set-append_right past seen (length past) (length past + row) (row_with column text now) refl (omega arith)
    ∙ rw off refl in
    rw (at, put, behind) refl

-- the rows seen after a scroll
pub seen_scrolled : (seen : List (List ℕ)) (blank : List ℕ) → length seen ≡ 25
    → set (drop 1 seen ++ take 1 seen) 24 blank ≡ drop 1 seen ++ blank ∷ []
seen_scrolled seen blank count =
    let one : take 1 seen ≡ get_or seen 0 [] ∷ [] = take_more seen 0 [] (omega arith) in
    let len : length (drop 1 seen) ≡ 24 = simp length-drop (omega arith) in
    rw one (set_at (drop 1 seen) (get_or seen 0 []) [] blank 24 len)

pub sent_top : (seen : List (List ℕ)) (top : List ℕ) → 0 < length seen → top ≡ get_or seen 0 top
    → seen ≡ top ∷ drop 1 seen
sent_top seen top some is = drop_more seen 0 top some ∙ ap (λ t. t ∷ drop 1 seen) (sym is)

pub All-one : (row : List ℕ) → IsRow row → All IsRow (row ∷ [])
All-one row is = All-cons IsRow row [] is (All-nil IsRow)

line_alone : (sent now top : List ℕ) → now ≡ sent ++ line_sent top → now ≡ sent ++ lines_sent (top ∷ [])
line_alone sent now top sends = sends ∙ ap (λ l. sent ++ l) (sym (append-nil (line_sent top)))

top_row : (sent : List ℕ) (seen : List (List ℕ)) (place : Cursor) (top : List ℕ) → Keeps sent seen place
    → top ≡ get_or seen 0 top → IsRow top
top_row sent seen place top kept is =
    let count = kept.count in
    let here : IsRow (get_or seen 0 top) = All-get_or IsRow seen 0 top (omega arith) kept.rows in
    rw (← is) at here

moved_up : (seen moved : List (List ℕ)) (blank : List ℕ) → length seen ≡ 25 → moved ≡ drop 1 seen ++ take 1 seen
    → blank ≡ blank_screen_row →
    set moved 24 blank ≡ drop 1 seen ++ blank_screen_row ∷ []
moved_up seen moved blank count moves shows = rw (moves, shows) (seen_scrolled seen blank_screen_row count)

same_split : (past seen rest : List (List ℕ)) (top : List ℕ) → seen ≡ top ∷ rest →
    (past ++ top ∷ []) ++ (rest ++ blank_screen_row ∷ []) ≡ (past ++ seen) ++ blank_screen_row ∷ []
same_split past seen rest top split = rw split (simp append_assoc)

-- the top row sent, and a blank row below the others
pub Keeps-scroll : (sent now : List ℕ) (seen moved : List (List ℕ)) (place : Cursor) (top blank : List ℕ)
    → Keeps sent seen place →
    now ≡ sent ++ line_sent top → moved ≡ drop 1 seen ++ take 1 seen → top ≡ get_or seen 0 top
    → blank ≡ blank_screen_row → Keeps now (set moved 24 blank) place
Keeps-scroll sent now seen moved place top blank kept sends moves is shows =
    let count = kept.count in
    let row = top_row sent seen place top kept is in
    let up = moved_up seen moved blank kept.count moves shows in
    let all : All IsRow (drop 1 seen ++ blank_screen_row ∷ []) =
    All-append IsRow (drop 1 seen) (blank_screen_row ∷ []) (All-drop IsRow 1 seen kept.rows)
    (All-one blank_screen_row IsRow-blank) in
    let len : length (drop 1 seen ++ blank_screen_row ∷ []) ≡ 25 = simp (length-append, length-drop) (omega arith) in
    record {
      count = rw up len;
      rows = rw up all;
      cursor = kept.cursor;
      lines = rw (line_alone sent now top sends) (AreLines-append sent (top ∷ []) kept.lines (All-one top row));
    }

pub roll-scroll : (sent now : List ℕ) (seen moved : List (List ℕ)) (place : Cursor) (top blank : List ℕ)
    → Keeps sent seen place →
    now ≡ sent ++ line_sent top → moved ≡ drop 1 seen ++ take 1 seen → top ≡ get_or seen 0 top
    → blank ≡ blank_screen_row →
    roll_with now (set moved 24 blank) place ≡ scrolled (roll_with sent seen place)
roll-scroll sent now seen moved place top blank kept sends moves is shows =
    let count = kept.count in
    let row = top_row sent seen place top kept is in
    let up = moved_up seen moved blank kept.count moves shows in
    let past = rows_sent sent in
    let reads : rows_sent now ≡ past ++ top ∷ [] =
    ap rows_sent (line_alone sent now top sends) ∙ rows_sent-append sent (top ∷ []) kept.lines (All-one top row) in
    let split : seen ≡ top ∷ drop 1 seen = sent_top seen top (omega arith) is in
    let all : rows_sent now ++ set moved 24 blank ≡ (past ++ seen) ++ blank_screen_row ∷ [] =
    ap (λ r. r ++ set moved 24 blank) reads ∙ ap (λ r. (past ++ top ∷ []) ++ r) up
    ∙ same_split past seen (drop 1 seen) top split in
    let base : length (rows_sent now) ≡ length past + 1 = ap length reads ∙ length_push past top in
    rw (all, base) refl

-- nothing sent yet, and blank rows
pub length-blank_rows : length blank_rows ≡ 25
unfolding blank_rows
length-blank_rows = refl

pub All-blank_rows : All IsRow blank_rows
unfolding blank_rows
All-blank_rows = All-replicate IsRow 25 blank_screen_row IsRow-blank

pub Keeps-blank : (sent : List ℕ) → AreLines sent → Keeps sent blank_rows BeforeFirst
Keeps-blank sent are = record {
  count = length-blank_rows;
  rows = All-blank_rows;
  cursor = tt;
  lines = are;
}

pub Keeps-new : (sent : List ℕ) (seen : List (List ℕ)) → sent ≡ [] → seen ≡ blank_rows → Keeps sent seen BeforeFirst
Keeps-new sent seen none blank = rw (none, blank) (Keeps-blank [] AreLines-nil)

pub roll-new : (sent : List ℕ) (seen : List (List ℕ)) → sent ≡ [] → seen ≡ blank_rows
    → roll_with sent seen BeforeFirst ≡ blank_roll
roll-new sent seen none blank = rw (none, blank) refl

-- the rows shown sent, and blank ones in their place
pub seen_blank : (count : ℕ) (old now : List (List ℕ)) → now ≡ blank_rows → length old ≡ 25 → count ≡ length old →
    take count (now ++ drop (length now) old) ≡ blank_rows
seen_blank count old now blank wide all =
    let len : length now ≡ 25 = ap length blank ∙ length-blank_rows in
    let same : count ≡ length now = omega arith in
    take_at now (drop (length now) old) count (sym same) ∙ blank

pub Keeps-clear : (sent now : List ℕ) (seen left : List (List ℕ)) (place : Cursor) (n : ℕ) → Keeps sent seen place →
    now ≡ sent ++ lines_sent (take n seen) → left ≡ blank_rows → Keeps now left BeforeFirst
Keeps-clear sent now seen left place n kept sends blank =
    rw (sends, blank) (Keeps-blank (sent ++ lines_sent (take n seen))
    (AreLines-append sent (take n seen) kept.lines (All-take IsRow n seen kept.rows)))

rows_shown-with : (past seen : List (List ℕ)) (place : Cursor) →
    rows_shown (record { rows = past ++ seen; base = length past; cursor = place })
    ≡ past ++ without_end is_blank_row seen
rows_shown-with past seen place =
    let front : take (length past) (past ++ seen) ≡ past = take_at past seen (length past) refl in
    let back : drop (length past) (past ++ seen) ≡ seen = drop_at past seen (length past) refl in
    rw (front, back) refl

pub roll-clear : (sent now : List ℕ) (seen left : List (List ℕ)) (place : Cursor) (n : ℕ) → Keeps sent seen place →
    now ≡ sent ++ lines_sent (take n seen) → left ≡ blank_rows → n ≡ length seen - suffix_len is_blank_row seen →
    roll_with now left BeforeFirst ≡ roll_cleared (roll_with sent seen place)
unfolding roll_cleared
roll-clear sent now seen left place n kept sends blank used =
    let past = rows_sent sent in
    let reads : rows_sent now ≡ past ++ take n seen =
    ap rows_sent sends ∙ rows_sent-append sent (take n seen) kept.lines (All-take IsRow n seen kept.rows) in
    let shown : rows_shown (roll_with sent seen place) ≡ past ++ take n seen =
    rows_shown-with past seen place ∙ ap (λ (m : ℕ). past ++ take m seen) (sym used) in
    let make : List (List ℕ) → Roll =
    λ rows. record { rows = rows ++ blank_rows; base = length rows; cursor = BeforeFirst } in
    rw blank (ap make reads ∙ sym (ap make shown))
