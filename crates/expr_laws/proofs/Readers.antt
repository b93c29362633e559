-- The instructions of an expression only read.
use Rattle.std.proofs.Common.{◌≡◌, ℕ, Bool, true, false, List, [], ◌∷◌, ◌++◌, Option, Some, None, refl, sym, subst}
use Rattle.std.specs.Prelude.{if◌then◌else◌, codes, ◌==◌, slice_get}
use Rattle.std.specs.List.{AllZip}
use Rattle.std.specs.Str.{bytes_eq}
use Rattle.std.proofs.lemmas.Option.{same_Some, none-some}
use Rattle.xvalue.specs.declared.fun.Fun.{Fun}
use Rattle.xvalue.specs.declared.value.Value.{Value}
use Rattle.code_items.specs.declared.desk.AreaState.{AreaState}
use Rattle.code_items.specs.declared.desk.AreaState.TheVariants.{Closed, Open as IsOpen, Unsure}
use Rattle.code_items.specs.declared.instr.RecordInstr.TheVariants as record_instr
use Rattle.code_items.specs.declared.instr.Instr.{Instr}
use Rattle.code_items.specs.declared.instr.Instr.TheVariants.{Records}
use Rattle.prg_expr.specs.Tree.{Tree, Trees}
use Rattle.prg_expr.specs.Tree as tree
use Rattle.prg_code.specs.Bindings.{slot_named}
use Rattle.prg_values.specs.declared.calls.Called.{Called}
use Rattle.prg_values.specs.declared.calls.Called.TheVariants as called
use Rattle.prg_values.specs.declared.operators.OperatorMeaning.{OperatorMeaning}
use Rattle.prg_values.specs.declared.scope.FieldPlace.{FieldPlace}
use Rattle.prg_values.specs.declared.scope.Reading.{Reading}
use Rattle.prg_values.specs.Operators.{prefix_fun}
use Rattle.prg_values.specs.Readings.{Scoped, on_some, read_name, read_qualified, variable, loads, field_reading}
use Rattle.prg_values.specs.Readings.{field_here, here_reading, alias_area, field_of_area, field_in, area_at}
use Rattle.prg_values.specs.declared.pieces.Piece.{Piece}
use Rattle.prg_values.specs.declared.pieces.Piece.TheVariants.{Constant, Does}
use Rattle.prg_values.specs.Written.{IsPiece, meaning, defaults, kind_in, kinds_in, reading_pieces, constants, chosen}
use Rattle.prg_values.specs.Written.{call_pieces, prefix_pieces, denial, operation_pieces, operation_in}
use Rattle.prg_values.specs.Written.{operator_pieces, swapped_if, pieces_in, all_pieces}
use Rattle.expr_laws.proofs.Names.{is_load}
use Rattle.expr_laws.proofs.Options.{found}
use Rattle.expr_laws.proofs.Steps.{only_reads, AllRead}

abbrev Reads : List Piece → Type 0
Reads [] = Unit {0}
Reads (Constant c ∷ ps) = Reads ps
Reads (Does i ∷ ps) = (only_reads i ≡ true) × Reads ps

both_read : (ps qs : List Piece) → Reads ps → Reads qs → Reads (ps ++ qs)
both_read [] qs h g = g
both_read (Constant c ∷ ps) qs h g = both_read ps qs h g
both_read (Does i ∷ ps) qs h g = (h.0, both_read ps qs h.1 g)

-- ---- readings

variable_reads : (s : Scoped) (name : List ℕ) (r : Reading) → variable s name ≡ Some r → only_reads r.instr ≡ true
variable_reads s name r e =
    let w = found (slot_named s.names name) (λ slot. loads slot (slice_get s.state.slots slot)) r e in
    let l = is_load (slice_get s.state.slots w.a) w.a r w.made in
    subst (λ (x : Reading). only_reads x.instr ≡ true) l.is refl

field_reads : (s : Scoped) (area : ℕ) (f : FieldPlace) (r : Reading) → field_reading s area f ≡ Some r
    → only_reads r.instr ≡ true
field_reads s area f r e = by s.in_filter (area == s.state.desk.selected) e
  where
    by : (inside own : Bool)
        → (if inside then (if own then Some (record { instr = Records (record_instr.RowField f.number); kind = f.kind })
        else None) else Some (record { instr = Records (record_instr.Field area f.number); kind = f.kind })) ≡ Some r
        → only_reads r.instr ≡ true
    by true true e = subst (λ (x : Reading). only_reads x.instr ≡ true)
        (same_Some (record { instr = Records (record_instr.RowField f.number); kind = f.kind }) r e) refl
    by true false e = absurd (none-some r e)
    by false own e = subst (λ (x : Reading). only_reads x.instr ≡ true)
        (same_Some (record { instr = Records (record_instr.Field area f.number); kind = f.kind }) r e) refl

name_reads : (s : Scoped) (name : List ℕ) (r : Reading) → read_name s name ≡ Some r → only_reads r.instr ≡ true
unfolding read_name
name_reads s name r e =
    let w = found (field_here s name) (here_reading s name) r e in
    by w.a w.made
  where
    by : (x : Option FieldPlace) → here_reading s name x ≡ Some r → only_reads r.instr ≡ true
    by None e = variable_reads s name r e
    by (Some f) e = field_reads s s.state.desk.selected f r e

alias_reads : (s : Scoped) (alias name : List ℕ) (r : Reading) → read_qualified s alias name ≡ Some r
    → only_reads r.instr ≡ true
unfolding read_qualified
alias_reads s alias name r e = by (bytes_eq alias (codes "M")) e
  where
    of_area : (n : ℕ) (a : AreaState) → field_of_area s name n a ≡ Some r → only_reads r.instr ≡ true
    of_area n Closed e = absurd (none-some r e)
    of_area n Unsure e = absurd (none-some r e)
    of_area n (IsOpen a) e =
        let w = found (field_in s.shape a name) (field_reading s n) r e in
        field_reads s n w.a r w.made

    by : (b : Bool) → (if b then variable s name else on_some (alias_area s alias) None
        (λ area. field_of_area s name area (area_at s.state.desk area))) ≡ Some r → only_reads r.instr ≡ true
    by true e = variable_reads s name r e
    by false e =
        let w = found (alias_area s alias) (λ area. field_of_area s name area (area_at s.state.desk area)) r e in
        of_area w.a (area_at s.state.desk w.a) w.made

reading_reads : (x : Option Reading) → ((r : Reading) → x ≡ Some r → only_reads r.instr ≡ true)
    → Reads (reading_pieces x)
reading_reads None h = tt
reading_reads (Some r) h = (h r refl, tt)

-- ---- pieces

constants_read : (values : List Value) → Reads (constants values)
constants_read [] = tt
constants_read (c ∷ values) = constants_read values

call_reads : (c : Called) (x : Option Fun) → Reads (call_pieces c x)
call_reads (called.Function g) x = (refl, tt)
call_reads (called.Question q) x = (refl, tt)
call_reads called.Today x = (refl, tt)
call_reads called.Choice None = tt
call_reads called.Choice (Some g) = (refl, tt)

prefix_reads : (x : Option Fun) → Reads (prefix_pieces x)
prefix_reads None = tt
prefix_reads (Some f) = (refl, tt)

denial_reads : (negated : Bool) → Reads (denial negated)
denial_reads true = (refl, tt)
denial_reads false = tt

turned_read : (swapped : Bool) (ps qs : List Piece) → Reads ps → Reads qs → Reads (swapped_if swapped ps qs)
turned_read true ps qs h g = both_read qs ps g h
turned_read false ps qs h g = both_read ps qs h g

operator_reads : (x : Option OperatorMeaning) (ps qs : List Piece) → Reads ps → Reads qs
    → Reads (operator_pieces x ps qs)
operator_reads None ps qs h g = tt
operator_reads (Some o) ps qs h g = both_read (swapped_if o.swapped ps qs) (operation_pieces o)
    (turned_read o.swapped ps qs h g) (refl, denial_reads o.negated)

mutual
  tree_reads : (s : Scoped) (e : Tree) → Reads (pieces_in s e)
  tree_reads s (tree.Number n) = tt
  tree_reads s (tree.Text t) = tt
  tree_reads s (tree.Logical b) = tt
  tree_reads s (tree.Name n) = reading_reads (read_name s n) (name_reads s n)
  tree_reads s (tree.Qualified a n) = reading_reads (read_qualified s a n) (alias_reads s a n)
  tree_reads s (tree.Call f es) =
      both_read (all_pieces s es ++ constants (defaults f (tree.count es)))
      (call_pieces (meaning f) (chosen (kinds_in s es)))
      (both_read (all_pieces s es) (constants (defaults f (tree.count es))) (trees_read s es)
      (constants_read (defaults f (tree.count es)))) (call_reads (meaning f) (chosen (kinds_in s es)))
  tree_reads s (tree.Parentheses e) = tree_reads s e
  tree_reads s (tree.Prefixed p e) = both_read (pieces_in s e) (prefix_pieces (prefix_fun p)) (tree_reads s e)
      (prefix_reads (prefix_fun p))
  tree_reads s (tree.Binary o a b) = operator_reads (operation_in o (kind_in s a) (kind_in s b)) (pieces_in s a)
      (pieces_in s b) (tree_reads s a) (tree_reads s b)

  trees_read : (s : Scoped) (es : Trees) → Reads (all_pieces s es)
  trees_read s tree.None = tt
  trees_read s (tree.More e es) = both_read (pieces_in s e) (all_pieces s es) (tree_reads s e) (trees_read s es)

block_reads : (constants : List Value) (ps : List Piece) (block : List Instr) → Reads ps
    → AllZip (IsPiece constants) ps block → AllRead block
block_reads constants [] [] h g = tt
block_reads constants [] (i ∷ block) h g = absurd g
block_reads constants (p ∷ ps) [] h g = absurd g
block_reads constants (Constant c ∷ ps) (i ∷ block) h g =
    (subst (λ j. only_reads j ≡ true) (sym g.0.2) refl, block_reads constants ps block h g.1)
block_reads constants (Does j ∷ ps) (i ∷ block) h g =
    (subst (λ x. only_reads x ≡ true) (sym g.0) h.0, block_reads constants ps block h.1 g.1)

pub expression_reads : (s : Scoped) (e : Tree) (constants : List Value) (block : List Instr)
    → AllZip (IsPiece constants) (pieces_in s e) block → AllRead block
expression_reads s e constants block g = block_reads constants (pieces_in s e) block (tree_reads s e) g
