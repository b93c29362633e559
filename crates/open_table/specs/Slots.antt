-- A declared index with its list, and what changes do to it.
use Rattle.std.specs.Prelude.{◌≡◌, ℕ, ◌<◌, Bool, true, not, Option, Some, None, List, length, is_none, is_some}
use Rattle.std.specs.Prelude.{slice_index_or, if◌then◌else◌, IfSome, IsSomeAnd, MatchBool, ⊤, ◌||◌, ◌&&◌}
use Rattle.dbf_file.specs.Rows.{Row}
use Rattle.dbf_file.specs.Tables.{StructureState}
use Rattle.key_lists.specs.KeyForm.{IsKeyText}
use Rattle.shape.specs.declared.parts.KeyPart.{KeyPart}
use Rattle.shape.specs.Keys.{IsKey}
use Rattle.key_lists.specs.SortedList.{SortedList}
use Rattle.row_keys.specs.Lists.{IsExact}
use Rattle.open_table.specs.Marks.{IndexMark, is_among}

-- its number, how keys are made and the text that says so; its list, none where it is stale; and a list made anew that
-- is to take its place
pub record SlotState : Type 0 where
  pub number : ℕ
  pub parts : List KeyPart
  pub text : List ℕ
  pub index : Option SortedList
  pub fresh : Option SortedList

abbrev pub mark_of : SlotState → IndexMark
mark_of slot = record { number = slot.number; parts = slot.parts; text = slot.text; stale = is_none slot.index }

-- a list that names the declared key, of which a fact holds
pub record IsListed (E : SortedList → Type 0) (key_text : List ℕ) (list : SortedList) : Type 0 where
  pub exact : E list
  pub text : list.form.key_text ≡ key_text

-- an index of a table of this structure, with nothing put by; a fact holds of its key and its list
pub record IsSlotBy (E : List KeyPart → SortedList → Type 0) (structure : StructureState) (slot : SlotState) : Type 0 where
  pub key : IsKey structure slot.parts
  pub text : IsKeyText slot.text
  pub listed : IfSome slot.index (IsListed (E slot.parts) slot.text)
  pub idle : slot.fresh ≡ None

-- its list, if it has one, lists the rows
abbrev pub IsSlot : StructureState → List Row → SlotState → Type 0
IsSlot structure rows slot = IsSlotBy (IsExact structure rows) structure slot

-- a list has become one that stands so to what it was
abbrev pub OnBoth : (SortedList → SortedList → Type 0) → Option SortedList → Option SortedList → Type 0
OnBoth R None None = ⊤
OnBoth R None (Some b) = ⊥
OnBoth R (Some a) None = ⊥
OnBoth R (Some a) (Some b) = R a b

-- the same declared index
pub record IsSameSlot (old new : SlotState) : Type 0 where
  pub number : new.number ≡ old.number
  pub parts : new.parts ≡ old.parts
  pub text : new.text ≡ old.text

-- the same index, whose list, by its key, stands so to what it was
pub record GoesBy (R : List KeyPart → SortedList → SortedList → Type 0) (old new : SlotState) : Type 0 where
  pub same : IsSameSlot old new
  pub index : OnBoth (R old.parts) old.index new.index
  pub fresh : new.fresh ≡ old.fresh

-- an open one has room for one more pair
abbrev pub HasRoomForPair : List ℕ → SlotState → Type 0
HasRoomForPair open_numbers slot = is_among open_numbers slot.number ≡ true → IfSome slot.index (λ x. 0 < x.spare)

-- without its list, unless it is open
abbrev pub left_if_open : List ℕ → SlotState → SlotState
left_if_open open_numbers slot =
    record {
      number = slot.number;
      parts = slot.parts;
      text = slot.text;
      index = if is_among open_numbers slot.number then slot.index else None;
      fresh = slot.fresh;
    }

-- each has become one that stands so to what it was
pub record Along (R : SlotState → SlotState → Type 0) (old new : List SlotState) : Type 0 where
  pub count : length new ≡ length old
  pub each : (i : ℕ) (d : SlotState) → i < length old → R (slice_index_or old i d) (slice_index_or new i d)

-- ---- lists made anew

-- whether an index is to be made anew: one of these, and maybe only if it is stale
abbrev pub is_wanted : List ℕ → Bool → SlotState → Bool
is_wanted numbers only_stale slot = is_among numbers slot.number && (is_none slot.index || not only_stale)

-- the same index with the same list, maybe with another put by
pub record PutsBy (old new : SlotState) : Type 0 where
  pub same : IsSameSlot old new
  pub index : new.index ≡ old.index

-- where it is wanted, a list of these rows is put by
pub record Prepares (structure : StructureState) (rows : List Row) (numbers : List ℕ) (only_stale : Bool)
    (old new : SlotState) : Type 0 where
  pub puts : PutsBy old new
  pub fresh : MatchBool (is_wanted numbers only_stale old)
      (IsSomeAnd new.fresh (IsListed (IsExact structure rows old.parts) old.text)) (new.fresh ≡ None)

-- the list that was put by in the place of the other, which else stays or is given up
abbrev pub committed : Bool → SlotState → SlotState
committed gives_up slot =
    record {
      number = slot.number;
      parts = slot.parts;
      text = slot.text;
      index = if is_some slot.fresh then slot.fresh else if gives_up then None else slot.index;
      fresh = None;
    }

-- with nothing put by
abbrev pub discarded : SlotState → SlotState
discarded slot = record { number = slot.number; parts = slot.parts; text = slot.text; index = slot.index; fresh = None }
