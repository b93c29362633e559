-- Laws of the reader of instructions.
use Rattle.std.proofs.Common.{◌≡◌, ℕ, ◌^◌, ◌<◌, Bool, true, false, eqb, eq-eqb, Some, Ok, refl, subst, arith}
use Rattle.std.specs.Prelude.{◌&&◌}
use Rattle.std.proofs.lemmas.Bool.{eqb-true, ltb-true, and_parts, and_from}
use Rattle.xvalue.specs.Signature.{function_number, NumbersAgree}
use Rattle.code_items.specs.declared.declared.Version.{Version}
use Rattle.xvalue.specs.declared.settings.Setting.TheVariants.{Exact, Deleted, Century}
use Rattle.code_items.specs.declared.instr.Question.TheVariants.{Recno, Reccount, Eof, Bof, Found, Deleted as IsDeleted}
use Rattle.code_items.specs.declared.instr.ValueInstr.{ValueInstr}
use Rattle.code_items.specs.declared.instr.ValueInstr.TheVariants.{Constant, Load, Store, Unset, Discard, Function}
use Rattle.code_items.specs.declared.instr.ValueInstr.TheVariants.{Today, Set}
use Rattle.code_items.specs.declared.instr.FlowInstr.{FlowInstr}
use Rattle.code_items.specs.declared.instr.FlowInstr.TheVariants.{Jump, JumpFalse, Call, Return, End}
use Rattle.code_items.specs.declared.instr.ScreenInstr.{ScreenInstr}
use Rattle.code_items.specs.declared.instr.ScreenInstr.TheVariants.{NewLine, Print, Say, SayOn, Input, Line, Clear}
use Rattle.code_items.specs.declared.instr.AreaInstr.{AreaInstr}
use Rattle.code_items.specs.declared.instr.AreaInstr.TheVariants.{Open, Close, CloseAll, Select, Order, Filter}
use Rattle.code_items.specs.declared.instr.MoveInstr.{MoveInstr}
use Rattle.code_items.specs.declared.instr.MoveInstr.TheVariants.{Top, Bottom, Skip, Go, Seek}
use Rattle.code_items.specs.declared.instr.RecordInstr.{RecordInstr}
use Rattle.code_items.specs.declared.instr.RecordInstr.TheVariants.{Field, RowField, Ask, Append, Replace, Delete}
use Rattle.code_items.specs.declared.instr.RecordInstr.TheVariants.{Recall, Pack, Zap, Reindex, Index}
use Rattle.code_items.specs.declared.instr.Instr.{Instr}
use Rattle.code_items.specs.declared.instr.Instr.TheVariants.{Values, Flow, Screen, Areas, Moves, Records}
use Rattle.code_items.specs.Instrs.{is_instr, is_two, is_four, is_area}
use Rattle.code_parts.specs.declared.flaw.Flaw.TheVariants.{Operation}
use Rattle.code_parts.specs.declared.operands.InstrParts.{InstrParts}
use Rattle.code_parts.specs.Laws.{ReadsTexts, IsLegalInstr}
use Rattle.code_parts.specs.Texts.{kind_number, truth_number}
use Rattle.code_parts.specs.Items.{wanted}
use Rattle.code_parts.specs.Instructions.{setting_number, question_number, instr_parts, parts_of, parts_text}
use Rattle.code_parts.specs.Instructions.{instr_text, low_instr, flow_instr, area_instr, record_instr, screen_instr}
use Rattle.code_parts.specs.Instructions.{any_instr, same_parts, is_just, instr_from, instr_read_at}
use Rattle.code_parts.proofs.Combine.{pair_spells, made_spells, byte_spells}
use Rattle.code_parts.proofs.Numbers.{two_spells, four_spells}
use Rattle.code_parts.proofs.Choices.{wanted_ok, there_ok, kind_is}

parts_same : (p q : InstrParts) → same_parts p q ≡ true → parts_text p ≡ parts_text q
parts_same p q e =
    let x = and_parts (eqb p.operation q.operation && eqb p.a q.a && eqb p.b q.b) (eqb p.c q.c) e in
    let y = and_parts (eqb p.operation q.operation && eqb p.a q.a) (eqb p.b q.b) x.0 in
    let z = and_parts (eqb p.operation q.operation) (eqb p.a q.a) y.0 in
    texts p.operation p.a p.b p.c q.operation q.a q.b q.c (eqb-true p.operation q.operation z.0) (eqb-true p.a q.a z.1)
    (eqb-true p.b q.b y.1) (eqb-true p.c q.c x.1)
  where
    texts : (o a b c o' a' b' c' : ℕ) → o ≡ o' → a ≡ a' → b ≡ b' → c ≡ c'
        → parts_text (instr_parts o a b c) ≡ parts_text (instr_parts o' a' b' c')
    texts o a b c o' a' b' c' e f g h = rw (e, f, g, h) refl

same_again : (p : InstrParts) → same_parts p p ≡ true
same_again p = rw (eq-eqb p.operation p.operation refl, eq-eqb p.a p.a refl, eq-eqb p.b p.b refl, eq-eqb p.c p.c refl)
    refl

-- each instruction is the one that its parts can only be

values_found : NumbersAgree → (i : ValueInstr) → any_instr (parts_of (Values i)) ≡ Some (Values i)
unfolding any_instr low_instr screen_instr
values_found agree (Constant number) = refl
values_found agree (Load kind slot) = rw (kind_is kind) refl
values_found agree (Store kind slot) = rw (kind_is kind) refl
values_found agree (Unset slot) = refl
values_found agree (Discard kind) = rw (kind_is kind) refl
values_found agree (Function fun) = rw (agree.found fun) refl
values_found agree Today = refl
values_found agree (Set Exact true) = refl
values_found agree (Set Exact false) = refl
values_found agree (Set Deleted true) = refl
values_found agree (Set Deleted false) = refl
values_found agree (Set Century true) = refl
values_found agree (Set Century false) = refl

flow_found : (i : FlowInstr) → any_instr (parts_of (Flow i)) ≡ Some (Flow i)
unfolding any_instr flow_instr
flow_found (Jump place) = refl
flow_found (JumpFalse place) = refl
flow_found (Call procedure) = refl
flow_found Return = refl
flow_found End = refl

screen_found : (i : ScreenInstr) → any_instr (parts_of (Screen i)) ≡ Some (Screen i)
unfolding any_instr screen_instr
screen_found NewLine = refl
screen_found (Print kind) = rw (kind_is kind) refl
screen_found (Say kind) = rw (kind_is kind) refl
screen_found (SayOn kind) = rw (kind_is kind) refl
screen_found (Input kind) = rw (kind_is kind) refl
screen_found Line = refl
screen_found Clear = refl

areas_found : (i : AreaInstr) → any_instr (parts_of (Areas i)) ≡ Some (Areas i)
unfolding any_instr area_instr
areas_found (Open table list) = refl
areas_found Close = refl
areas_found CloseAll = refl
areas_found (Select area) = refl
areas_found (Order number) = refl
areas_found (Filter number) = refl

moves_found : (i : MoveInstr) → any_instr (parts_of (Moves i)) ≡ Some (Moves i)
unfolding any_instr area_instr
moves_found Top = refl
moves_found Bottom = refl
moves_found Skip = refl
moves_found Go = refl
moves_found Seek = refl

records_found : (i : RecordInstr) → any_instr (parts_of (Records i)) ≡ Some (Records i)
unfolding any_instr low_instr record_instr
records_found (Field area field) = refl
records_found (RowField field) = refl
records_found (Ask Recno) = refl
records_found (Ask Reccount) = refl
records_found (Ask Eof) = refl
records_found (Ask Bof) = refl
records_found (Ask Found) = refl
records_found (Ask IsDeleted) = refl
records_found Append = refl
records_found (Replace field) = refl
records_found Delete = refl
records_found Recall = refl
records_found Pack = refl
records_found Zap = refl
records_found Reindex = refl
records_found (Index list) = refl

found : NumbersAgree → (i : Instr) → any_instr (parts_of i) ≡ Some i
found agree (Values i) = values_found agree i
found agree (Flow i) = flow_found i
found agree (Screen i) = screen_found i
found agree (Areas i) = areas_found i
found agree (Moves i) = moves_found i
found agree (Records i) = records_found i

-- operands fit their bytes

abbrev Fit : InstrParts → Type 0
Fit p = (p.b < 2 ^ 16) × (p.c < 2 ^ 32)

no_numbers : (o a : ℕ) → Fit (instr_parts o a 0 0)
no_numbers o a = (omega arith, omega arith)

number_fits : (o a b : ℕ) → is_two b ≡ true → Fit (instr_parts o a b 0)
number_fits o a b e = let lt = ltb-true b 65536 e in (omega (arith, lt), omega arith)

place_fits : (o c : ℕ) → is_four c ≡ true → Fit (instr_parts o 0 0 c)
place_fits o c e = let lt = ltb-true c 4294967296 e in (omega arith, omega (arith, lt))

open_fits : (b c : ℕ) → (is_two b && is_four c) ≡ true → Fit (instr_parts 0x20 0 b c)
open_fits b c e =
    let p = and_parts (is_two b) (is_four c) e in
    let lt = ltb-true b 65536 p.0 in
    let lt' = ltb-true c 4294967296 p.1 in
    (omega (arith, lt), omega (arith, lt'))

truth_fits : (o a : ℕ) (on : Bool) → Fit (instr_parts o a (truth_number on) 0)
truth_fits o a true = (omega arith, omega arith)
truth_fits o a false = (omega arith, omega arith)

values_fit : (version : Version) (i : ValueInstr) → is_instr version (Values i) ≡ true → Fit (parts_of (Values i))
values_fit version (Constant number) h = number_fits 0x01 0 number h
values_fit version (Load kind slot) h = number_fits 0x02 (kind_number kind) slot h
values_fit version (Store kind slot) h = number_fits 0x03 (kind_number kind) slot h
values_fit version (Unset slot) h = number_fits 0x04 0 slot h
values_fit version (Discard kind) h = no_numbers 0x05 (kind_number kind)
values_fit version (Function fun) h = no_numbers 0x08 (function_number fun)
values_fit version Today h = no_numbers 0x09 7
values_fit version (Set setting on) h = truth_fits 0x46 (setting_number setting) on

flow_fit : (version : Version) (i : FlowInstr) → is_instr version (Flow i) ≡ true → Fit (parts_of (Flow i))
flow_fit version (Jump place) h = place_fits 0x10 place h
flow_fit version (JumpFalse place) h = place_fits 0x11 place h
flow_fit version (Call procedure) h = number_fits 0x12 0 procedure h
flow_fit version Return h = no_numbers 0x13 0
flow_fit version End h = no_numbers 0x14 0

screen_fit : (i : ScreenInstr) → Fit (parts_of (Screen i))
screen_fit NewLine = no_numbers 0x40 0
screen_fit (Print kind) = no_numbers 0x41 (kind_number kind)
screen_fit (Say kind) = no_numbers 0x42 (kind_number kind)
screen_fit (SayOn kind) = no_numbers 0x47 (kind_number kind)
screen_fit (Input kind) = no_numbers 0x43 (kind_number kind)
screen_fit Line = no_numbers 0x44 0
screen_fit Clear = no_numbers 0x45 0

areas_fit : (version : Version) (i : AreaInstr) → is_instr version (Areas i) ≡ true → Fit (parts_of (Areas i))
areas_fit version (Open table list) h = open_fits table list h
areas_fit version Close h = no_numbers 0x21 0
areas_fit version CloseAll h = no_numbers 0x22 0
areas_fit version (Select area) h = no_numbers 0x23 area
areas_fit version (Order number) h = number_fits 0x24 0 number h
areas_fit version (Filter number) h = number_fits 0x25 0 number h

moves_fit : (i : MoveInstr) → Fit (parts_of (Moves i))
moves_fit Top = no_numbers 0x26 0
moves_fit Bottom = no_numbers 0x27 0
moves_fit Skip = no_numbers 0x28 0
moves_fit Go = no_numbers 0x29 0
moves_fit Seek = no_numbers 0x2A 0

records_fit : (version : Version) (i : RecordInstr) → is_instr version (Records i) ≡ true → Fit (parts_of (Records i))
records_fit version (Field area field) h = number_fits 0x06 area field (and_parts (is_area area) (is_two field) h).1
records_fit version (RowField field) h = number_fits 0x07 0 field h
records_fit version (Ask question) h = no_numbers 0x09 (question_number question)
records_fit version Append h = no_numbers 0x30 0
records_fit version (Replace field) h = number_fits 0x31 0 field h
records_fit version Delete h = no_numbers 0x32 0
records_fit version Recall h = no_numbers 0x33 0
records_fit version Pack h = no_numbers 0x34 0
records_fit version Zap h = no_numbers 0x35 0
records_fit version Reindex h = no_numbers 0x36 0
records_fit version (Index list) h = number_fits 0x37 0 list h

fit : (version : Version) (i : Instr) → is_instr version i ≡ true → Fit (parts_of i)
fit version (Values i) h = values_fit version i h
fit version (Flow i) h = flow_fit version i h
fit version (Screen i) h = screen_fit i
fit version (Areas i) h = areas_fit version i h
fit version (Moves i) h = moves_fit i
fit version (Records i) h = records_fit version i h

made_of : NumbersAgree → (version : Version) (i : Instr) → is_instr version i ≡ true
    → instr_from version (parts_of i) ≡ Ok i
unfolding instr_from
made_of agree version i h = rw
    (found agree i, and_from (is_instr version i) (same_parts (parts_of i) (parts_of i)) h (same_again (parts_of i)))
    refl

was_made : (version : Version) (p : InstrParts) (i : Instr) → instr_from version p ≡ Ok i
    → (parts_text p ≡ instr_text i) × IsLegalInstr version i
unfolding instr_from
was_made version p i e =
    let make = λ (j : Instr). wanted Operation (is_just version p j) j in
    let j = there_ok Operation (any_instr p) make i e in
    let w = wanted_ok Operation (is_just version p j.0) j.0 i j.2 in
    let both = and_parts (is_instr version j.0) (same_parts p (parts_of j.0)) w.0 in
    subst (λ (k : Instr). (parts_text p ≡ instr_text k) × IsLegalInstr version k) w.1
    (parts_same p (parts_of j.0) both.1, both.0)

pub instr_spells : NumbersAgree → (version : Version)
    → ReadsTexts (instr_read_at version) instr_text (IsLegalInstr version) (IsLegalInstr version)
unfolding instr_read_at
instr_spells agree version = made_spells
    (pair_spells byte_spells (pair_spells byte_spells (pair_spells two_spells four_spells))) _ instr_text
    (IsLegalInstr version) (IsLegalInstr version)
    (λ p i h e. was_made version _ i e)
    (λ i h. (
      ((parts_of i).operation, ((parts_of i).a, ((parts_of i).b, (parts_of i).c))),
      (tt, (tt, fit version i h)),
      made_of agree version i h,
      refl,
    ))
