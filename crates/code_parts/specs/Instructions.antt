-- The bytes of instructions, and reading them.
use Rattle.std.specs.Prelude.{ℕ, List, ◌∷◌, ◌++◌, Bool, ◌&&◌, ◌==◌, nat_lt, if◌then◌else◌, Option, Some, None}
use Rattle.std.specs.Prelude.{option_map}
use Rattle.std.specs.Option.{option_and_then}
use Rattle.std.specs.Int.{w16, w32, to_le_bytes}
use Rattle.xvalue.specs.declared.kind.Kind.{Kind}
use Rattle.xvalue.specs.Signature.{function_number, numbered}
use Rattle.code_items.specs.declared.declared.Version.{Version}
use Rattle.xvalue.specs.declared.settings.Setting.{Setting}
use Rattle.xvalue.specs.declared.settings.Setting.TheVariants.{Exact, Deleted, Century}
use Rattle.code_items.specs.declared.instr.Question.{Question}
use Rattle.code_items.specs.declared.instr.Question.TheVariants.{Recno, Reccount, Eof, Bof, Found, Deleted as IsDeleted}
use Rattle.code_items.specs.declared.instr.ValueInstr.{ValueInstr}
use Rattle.code_items.specs.declared.instr.ValueInstr.TheVariants.{Constant, Load, Store, Unset, Discard, Function}
use Rattle.code_items.specs.declared.instr.ValueInstr.TheVariants.{Today, Set}
use Rattle.code_items.specs.declared.instr.FlowInstr.{FlowInstr}
use Rattle.code_items.specs.declared.instr.FlowInstr.TheVariants.{Jump, JumpFalse, Call, Return, End}
use Rattle.code_items.specs.declared.instr.ScreenInstr.{ScreenInstr}
use Rattle.code_items.specs.declared.instr.ScreenInstr.TheVariants.{NewLine, Print, Say, SayOn, Input, Line, Clear}
use Rattle.code_items.specs.declared.instr.AreaInstr.{AreaInstr}
use Rattle.code_items.specs.declared.instr.AreaInstr.TheVariants.{Open, Close, CloseAll, Select, Order, Filter}
use Rattle.code_items.specs.declared.instr.MoveInstr.{MoveInstr}
use Rattle.code_items.specs.declared.instr.MoveInstr.TheVariants.{Top, Bottom, Skip, Go, Seek}
use Rattle.code_items.specs.declared.instr.RecordInstr.{RecordInstr}
use Rattle.code_items.specs.declared.instr.RecordInstr.TheVariants.{Field, RowField, Ask, Append, Replace, Delete}
use Rattle.code_items.specs.declared.instr.RecordInstr.TheVariants.{Recall, Pack, Zap, Reindex, Index}
use Rattle.code_items.specs.declared.instr.Instr.{Instr}
use Rattle.code_items.specs.declared.instr.Instr.TheVariants.{Values, Flow, Screen, Areas, Moves, Records}
use Rattle.code_items.specs.Instrs.{is_instr}
use Rattle.code_parts.specs.declared.flaw.Flaw.TheVariants.{Operation}
use Rattle.code_parts.specs.declared.operands.InstrParts.{InstrParts}
use Rattle.code_parts.specs.Reading.{Reader, byte_at, number_read_at, Judged, sure, pair_read_at, made_at}
use Rattle.code_parts.specs.Texts.{two, kind_number, truth_number}
use Rattle.code_parts.specs.Items.{wanted, there, kind_of_byte, truth_of_byte}

-- ---- the bytes

abbrev pub setting_number : Setting → ℕ
setting_number Exact = 1
setting_number Deleted = 2
setting_number Century = 3

abbrev pub question_number : Question → ℕ
question_number Recno = 1
question_number Reccount = 2
question_number Eof = 3
question_number Bof = 4
question_number Found = 5
question_number IsDeleted = 6

-- an operation and its operands a, b and c
abbrev pub instr_parts : ℕ → ℕ → ℕ → ℕ → InstrParts
instr_parts operation a b c = record { operation = operation; a = a; b = b; c = c }

-- an instruction's operation and operands; those that it has no use for are 0

abbrev pub parts_of_values : ValueInstr → InstrParts
parts_of_values (Constant number) = instr_parts 0x01 0 number 0
parts_of_values (Load kind slot) = instr_parts 0x02 (kind_number kind) slot 0
parts_of_values (Store kind slot) = instr_parts 0x03 (kind_number kind) slot 0
parts_of_values (Unset slot) = instr_parts 0x04 0 slot 0
parts_of_values (Discard kind) = instr_parts 0x05 (kind_number kind) 0 0
parts_of_values (Function fun) = instr_parts 0x08 (function_number fun) 0 0
parts_of_values Today = instr_parts 0x09 7 0 0
parts_of_values (Set setting on) = instr_parts 0x46 (setting_number setting) (truth_number on) 0

abbrev pub parts_of_flow : FlowInstr → InstrParts
parts_of_flow (Jump place) = instr_parts 0x10 0 0 place
parts_of_flow (JumpFalse place) = instr_parts 0x11 0 0 place
parts_of_flow (Call procedure) = instr_parts 0x12 0 procedure 0
parts_of_flow Return = instr_parts 0x13 0 0 0
parts_of_flow End = instr_parts 0x14 0 0 0

abbrev pub parts_of_screen : ScreenInstr → InstrParts
parts_of_screen NewLine = instr_parts 0x40 0 0 0
parts_of_screen (Print kind) = instr_parts 0x41 (kind_number kind) 0 0
parts_of_screen (Say kind) = instr_parts 0x42 (kind_number kind) 0 0
parts_of_screen (SayOn kind) = instr_parts 0x47 (kind_number kind) 0 0
parts_of_screen (Input kind) = instr_parts 0x43 (kind_number kind) 0 0
parts_of_screen Line = instr_parts 0x44 0 0 0
parts_of_screen Clear = instr_parts 0x45 0 0 0

abbrev pub parts_of_areas : AreaInstr → InstrParts
parts_of_areas (Open table list) = instr_parts 0x20 0 table list
parts_of_areas Close = instr_parts 0x21 0 0 0
parts_of_areas CloseAll = instr_parts 0x22 0 0 0
parts_of_areas (Select area) = instr_parts 0x23 area 0 0
parts_of_areas (Order number) = instr_parts 0x24 0 number 0
parts_of_areas (Filter number) = instr_parts 0x25 0 number 0

abbrev pub parts_of_moves : MoveInstr → InstrParts
parts_of_moves Top = instr_parts 0x26 0 0 0
parts_of_moves Bottom = instr_parts 0x27 0 0 0
parts_of_moves Skip = instr_parts 0x28 0 0 0
parts_of_moves Go = instr_parts 0x29 0 0 0
parts_of_moves Seek = instr_parts 0x2A 0 0 0

abbrev pub parts_of_records : RecordInstr → InstrParts
parts_of_records (Field area field) = instr_parts 0x06 area field 0
parts_of_records (RowField field) = instr_parts 0x07 0 field 0
parts_of_records (Ask question) = instr_parts 0x09 (question_number question) 0 0
parts_of_records Append = instr_parts 0x30 0 0 0
parts_of_records (Replace field) = instr_parts 0x31 0 field 0
parts_of_records Delete = instr_parts 0x32 0 0 0
parts_of_records Recall = instr_parts 0x33 0 0 0
parts_of_records Pack = instr_parts 0x34 0 0 0
parts_of_records Zap = instr_parts 0x35 0 0 0
parts_of_records Reindex = instr_parts 0x36 0 0 0
parts_of_records (Index list) = instr_parts 0x37 0 list 0

abbrev pub parts_of : Instr → InstrParts
parts_of (Values i) = parts_of_values i
parts_of (Flow i) = parts_of_flow i
parts_of (Screen i) = parts_of_screen i
parts_of (Areas i) = parts_of_areas i
parts_of (Moves i) = parts_of_moves i
parts_of (Records i) = parts_of_records i

-- eight bytes: the operation, a, b in two bytes and c in four
abbrev pub parts_text : InstrParts → List ℕ
parts_text p = p.operation ∷ p.a ∷ (two p.b ++ to_le_bytes w32 p.c)

abbrev pub instr_text : Instr → List ℕ
instr_text i = parts_text (parts_of i)

-- ---- reading: which instruction it can only be, by its operation and the operands that that has a use for

abbrev pub setting_of_byte : ℕ → Option Setting
setting_of_byte byte =
    if byte == 1 then Some Exact else (
    if byte == 2 then Some Deleted else (
    if byte == 3 then Some Century else None))

abbrev pub question_of_byte : ℕ → Option Question
question_of_byte byte =
    if byte == 1 then Some Recno else (
    if byte == 2 then Some Reccount else (
    if byte == 3 then Some Eof else (
    if byte == 4 then Some Bof else (
    if byte == 5 then Some Found else (
    if byte == 6 then Some IsDeleted else None)))))

abbrev pub of_kind : (Kind → ValueInstr) → ℕ → Option Instr
of_kind make byte = option_map (λ kind. Values (make kind)) (kind_of_byte byte)

abbrev pub shown_kind : (Kind → ScreenInstr) → ℕ → Option Instr
shown_kind make byte = option_map (λ kind. Screen (make kind)) (kind_of_byte byte)

abbrev pub asked : ℕ → Option Instr
asked byte = if byte == 7 then Some (Values Today)
    else option_map (λ question. Records (Ask question)) (question_of_byte byte)

abbrev pub set_to : ℕ → ℕ → Option Instr
set_to setting on =
    option_and_then (λ s. option_map (λ t. Values (Set s t)) (truth_of_byte on)) (setting_of_byte setting)

unfoldable pub low_instr : InstrParts → Option Instr
low_instr p =
    if p.operation == 0x01 then Some (Values (Constant p.b)) else (
    if p.operation == 0x02 then of_kind (λ kind. Load kind p.b) p.a else (
    if p.operation == 0x03 then of_kind (λ kind. Store kind p.b) p.a else (
    if p.operation == 0x04 then Some (Values (Unset p.b)) else (
    if p.operation == 0x05 then of_kind (λ kind. Discard kind) p.a else (
    if p.operation == 0x06 then Some (Records (Field p.a p.b)) else (
    if p.operation == 0x07 then Some (Records (RowField p.b)) else (
    if p.operation == 0x08 then option_map (λ fun. Values (Function fun)) (numbered p.a) else (
    if p.operation == 0x09 then asked p.a else None))))))))

unfoldable pub flow_instr : InstrParts → Option Instr
flow_instr p =
    if p.operation == 0x10 then Some (Flow (Jump p.c)) else (
    if p.operation == 0x11 then Some (Flow (JumpFalse p.c)) else (
    if p.operation == 0x12 then Some (Flow (Call p.b)) else (
    if p.operation == 0x13 then Some (Flow Return) else (
    if p.operation == 0x14 then Some (Flow End) else None))))

unfoldable pub area_instr : InstrParts → Option Instr
area_instr p =
    if p.operation == 0x20 then Some (Areas (Open p.b p.c)) else (
    if p.operation == 0x21 then Some (Areas Close) else (
    if p.operation == 0x22 then Some (Areas CloseAll) else (
    if p.operation == 0x23 then Some (Areas (Select p.a)) else (
    if p.operation == 0x24 then Some (Areas (Order p.b)) else (
    if p.operation == 0x25 then Some (Areas (Filter p.b)) else (
    if p.operation == 0x26 then Some (Moves Top) else (
    if p.operation == 0x27 then Some (Moves Bottom) else (
    if p.operation == 0x28 then Some (Moves Skip) else (
    if p.operation == 0x29 then Some (Moves Go) else (
    if p.operation == 0x2A then Some (Moves Seek) else None))))))))))

unfoldable pub record_instr : InstrParts → Option Instr
record_instr p =
    if p.operation == 0x30 then Some (Records Append) else (
    if p.operation == 0x31 then Some (Records (Replace p.b)) else (
    if p.operation == 0x32 then Some (Records Delete) else (
    if p.operation == 0x33 then Some (Records Recall) else (
    if p.operation == 0x34 then Some (Records Pack) else (
    if p.operation == 0x35 then Some (Records Zap) else (
    if p.operation == 0x36 then Some (Records Reindex) else (
    if p.operation == 0x37 then Some (Records (Index p.b)) else None)))))))

unfoldable pub screen_instr : InstrParts → Option Instr
screen_instr p =
    if p.operation == 0x40 then Some (Screen NewLine) else (
    if p.operation == 0x41 then shown_kind (λ kind. Print kind) p.a else (
    if p.operation == 0x42 then shown_kind (λ kind. Say kind) p.a else (
    if p.operation == 0x43 then shown_kind (λ kind. Input kind) p.a else (
    if p.operation == 0x44 then Some (Screen Line) else (
    if p.operation == 0x45 then Some (Screen Clear) else (
    if p.operation == 0x46 then set_to p.a p.b else (
    if p.operation == 0x47 then shown_kind (λ kind. SayOn kind) p.a else None)))))))

unfoldable pub any_instr : InstrParts → Option Instr
any_instr p =
    if nat_lt p.operation 0x10 then low_instr p else (
    if nat_lt p.operation 0x20 then flow_instr p else (
    if nat_lt p.operation 0x30 then area_instr p else (
    if nat_lt p.operation 0x40 then record_instr p else screen_instr p)))

abbrev pub same_parts : InstrParts → InstrParts → Bool
same_parts p q = p.operation == q.operation && p.a == q.a && p.b == q.b && p.c == q.c

-- an instruction of the version of which these are just the parts: no operand is left over
abbrev pub is_just : Version → InstrParts → Instr → Bool
is_just version p i = is_instr version i && same_parts p (parts_of i)

unfoldable pub instr_from : Version → InstrParts → Judged Instr
instr_from version p = there Operation (any_instr p) (λ i. wanted Operation (is_just version p i) i)

unfoldable pub instr_read_at : Version → Reader (Judged Instr)
instr_read_at version = made_at (pair_read_at (sure byte_at)
    (pair_read_at (sure byte_at) (pair_read_at (sure (number_read_at w16)) (sure (number_read_at w32)))))
    (λ (operation, (a, (b, c))). instr_from version (instr_parts operation a b c))
