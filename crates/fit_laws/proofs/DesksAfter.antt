-- What an instruction makes of work areas that are covered is covered too.
use Rattle.std.proofs.Common.{◌≡◌, ℕ, zero, suc, true, false, ◌==◌, List, [], ◌∷◌, length, Option, Some, None}
use Rattle.std.proofs.Common.{refl, subst, arith}
use Rattle.std.specs.Prelude.{is_none, replicate, slice_set}
use Rattle.std.proofs.lemmas.Bool.{and_parts, and_from, eq-eqb}
use Rattle.code_items.specs.declared.desk.OpenArea.{OpenArea}
use Rattle.code_items.specs.declared.desk.AreaState.{AreaState}
use Rattle.code_items.specs.declared.desk.AreaState.TheVariants.{Closed, Open as IsOpen}
use Rattle.code_items.specs.declared.desk.Desk.{Desk}
use Rattle.code_items.specs.Desks.{area_covered, areas_covered, desk_covered, put_at, with_selected_area}
use Rattle.code_items.specs.declared.instr.AreaInstr.{AreaInstr}
use Rattle.code_items.specs.declared.instr.AreaInstr.TheVariants.{Open, Close, CloseAll, Select, Order, Filter}
use Rattle.code_items.specs.declared.instr.RecordInstr.{RecordInstr}
use Rattle.code_items.specs.declared.instr.RecordInstr.TheVariants.{Field, RowField, Ask, Append, Replace, Delete}
use Rattle.code_items.specs.declared.instr.RecordInstr.TheVariants.{Recall, Pack, Zap, Reindex, Index}
use Rattle.code_items.specs.declared.instr.Instr.{Instr}
use Rattle.code_items.specs.declared.instr.Instr.TheVariants.{Values, Flow, Screen, Areas, Moves, Records}
use Rattle.code_rules.specs.Flow.{just_opened, ordered, filtered, in_list_order, if_area, on_selected, desk_after_area}
use Rattle.code_rules.specs.Flow.{desk_after_record, desk_after}
use Rattle.code_rules.specs.Rules.{selected_in}
use Rattle.code_rules.proofs.Covering.{area_self}
use Rattle.fit_laws.proofs.Covered.{Desks, selects}
use Rattle.fit_laws.proofs.Desks.{IsKnown}

same_length : (as' bs : List AreaState) → areas_covered as' bs ≡ true → length as' ≡ length bs
same_length [] [] e = refl
same_length [] (b ∷ bs) e = absurd (cc)
same_length (a ∷ as') [] e = absurd (cc)
same_length (a ∷ as') (b ∷ bs) e =
    omega (arith, same_length as' bs (and_parts (area_covered (a, b)) (areas_covered as' bs) e).1)

set_covered : (x y : AreaState) → area_covered (x, y) ≡ true → (as' bs : List AreaState) (n : ℕ)
    → areas_covered as' bs ≡ true → areas_covered (slice_set as' n x) (slice_set bs n y) ≡ true
set_covered x y e [] [] n c = c
set_covered x y e [] (b ∷ bs) n c = absurd (cc)
set_covered x y e (a ∷ as') [] n c = absurd (cc)
set_covered x y e (a ∷ as') (b ∷ bs) zero c =
    and_from (area_covered (x, y)) (areas_covered as' bs) e (and_parts (area_covered (a, b)) (areas_covered as' bs) c).1
set_covered x y e (a ∷ as') (b ∷ bs) (suc n) c =
    let p = and_parts (area_covered (a, b)) (areas_covered as' bs) c in
    and_from (area_covered (a, b)) (areas_covered (slice_set as' n x) (slice_set bs n y)) p.0
    (set_covered x y e as' bs n p.1)

put_covered : (x y : AreaState) → area_covered (x, y) ≡ true → (as' bs : List AreaState) (n : ℕ)
    → areas_covered as' bs ≡ true → areas_covered (put_at n x as') (put_at n y bs) ≡ true
put_covered x y e as' bs zero c = c
put_covered x y e as' bs (suc n) c = set_covered x y e as' bs n c

closed_covered : (n : ℕ) → areas_covered (replicate n Closed) (replicate n Closed) ≡ true
closed_covered zero = refl
closed_covered (suc n) = closed_covered n

put_selected : (m s : Desk) → Desks m s → (x y : AreaState) → area_covered (x, y) ≡ true
    → Desks (with_selected_area x m) (with_selected_area y s)
put_selected m s d x y e = record {
  selected = d.selected;
  areas =
      subst (λ n. areas_covered (put_at m.selected x m.areas) (put_at n y s.areas) ≡ true) d.selected
      (put_covered x y e m.areas s.areas m.selected d.areas);
}

-- a change of the selected area, which is open
on_both : (change : OpenArea → OpenArea) (m s : Desk) → Desks m s → (x y : Option OpenArea) → x ≡ y → is_none x ≡ false
    → Desks (if_area change x m) (if_area change y s)
on_both change m s d None y e n = absurd (cc)
on_both change m s d (Some a) None e n = absurd (cc)
on_both change m s d (Some a) (Some b) e n =
    let same : a ≡ b = cc in
    put_selected m s d (IsOpen (change a)) (IsOpen (change b))
    (subst (λ z. area_covered (IsOpen (change a), IsOpen (change z)) ≡ true) same (area_self (IsOpen (change a))))

selected_on : (change : OpenArea → OpenArea) (m s : Desk) → Desks m s → is_none (selected_in m) ≡ false
    → Desks (on_selected change m) (on_selected change s)
selected_on change m s d n = on_both change m s d (selected_in m) (selected_in s) (selects m s d n) n

area_on : (m s : Desk) → Desks m s → (i : AreaInstr) → IsKnown m (Areas i)
    → Desks (desk_after_area i m) (desk_after_area i s)
area_on m s d (Open t l) k =
    put_selected m s d (IsOpen (just_opened t l)) (IsOpen (just_opened t l)) (area_self (IsOpen (just_opened t l)))
area_on m s d Close k = put_selected m s d Closed Closed refl
area_on m s d CloseAll k = record {
  selected = refl;
  areas =
      subst (λ n. areas_covered (replicate (length m.areas) Closed) (replicate n Closed) ≡ true)
      (same_length m.areas s.areas d.areas) (closed_covered (length m.areas));
}
area_on m s d (Select a) k = record { selected = refl; areas = d.areas }
area_on m s d (Order n) k = selected_on (ordered n) m s d k
area_on m s d (Filter n) k = selected_on (filtered n) m s d k

record_on : (m s : Desk) → Desks m s → (i : RecordInstr) → IsKnown m (Records i)
    → Desks (desk_after_record i m) (desk_after_record i s)
record_on m s d (Field a f) k = d
record_on m s d (RowField f) k = d
record_on m s d (Ask q) k = d
record_on m s d Append k = d
record_on m s d (Replace f) k = d
record_on m s d Delete k = d
record_on m s d Recall k = d
record_on m s d Pack k = d
record_on m s d Zap k = d
record_on m s d Reindex k = d
record_on m s d (Index l) k = selected_on (in_list_order l) m s d k

pub desk_on : (m s : Desk) → Desks m s → (i : Instr) → IsKnown m i → Desks (desk_after i m) (desk_after i s)
desk_on m s d (Values i) k = d
desk_on m s d (Flow i) k = d
desk_on m s d (Screen i) k = d
desk_on m s d (Areas i) k = area_on m s d i k
desk_on m s d (Moves i) k = d
desk_on m s d (Records i) k = record_on m s d i k

pub desks_covered : (m s : Desk) → Desks m s → desk_covered m s ≡ true
desks_covered m s d =
    and_from (m.selected == s.selected) (areas_covered m.areas s.areas) (eq-eqb m.selected s.selected d.selected)
    d.areas
