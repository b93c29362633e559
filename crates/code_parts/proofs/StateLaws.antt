-- Laws of the readers of filters, states, procedures and maps.
use Rattle.std.proofs.Common.{◌≡◌, ℕ, zero, suc, ◌+◌, ◌-◌, ◌^◌, ◌<◌, ◌≤◌, true, false, eqb, leb, List, [], ◌∷◌, ◌++◌}
use Rattle.std.proofs.Common.{length, reverse, Option, Some, Ok, refl, sym, ap, subst, ◌∙◌, append_assoc, arith}
use Rattle.std.specs.Prelude.{◌&&◌}
use Rattle.std.specs.Int.{w16}
use Rattle.std.specs.List.{flat_map}
use Rattle.std.proofs.lemmas.Bool.{eqb-true, le-leb, and_parts}
use Rattle.std.proofs.lemmas.List.{reverse-reverse, length-reverse}
use Rattle.xvalue.specs.declared.kind.Kind.{Kind}
use Rattle.code_items.specs.declared.declared.Version.{Version}
use Rattle.code_items.specs.declared.declared.Need.{Need}
use Rattle.code_items.specs.declared.desk.AreaState.{AreaState}
use Rattle.code_items.specs.declared.desk.AreaState.TheVariants.{Closed, Open, Unsure}
use Rattle.code_items.specs.declared.state.State.{State}
use Rattle.code_items.specs.States.{may_be_unsure}
use Rattle.code_parts.specs.declared.flaw.Flaw.TheVariants.{Shape, Limit}
use Rattle.code_parts.specs.Reading.{Front, Reader, ◌>>=◌, read_behind, Judged, give, number_read_at, several, sure}
use Rattle.code_parts.specs.Reading.{byte_at, made_at}
use Rattle.code_parts.specs.Laws.{ReadsTexts, Any, FilterFits, AreaFits, StateFits, ProcedureFits, MapFits}
use Rattle.code_parts.specs.Texts.{two, kind_number, kind_text, slot_text, need_text, filter_text, area_byte, open_text}
use Rattle.code_parts.specs.Texts.{area_text, state_text, procedure_text, map_text}
use Rattle.code_parts.specs.Items.{kind_of_byte, need_from, need_at, needs_at, filter_at, open_from, open_read_at}
use Rattle.code_parts.specs.Items.{area_behind, area_read_at, state_from, state_read_at, level_from, procedure_read_at}
use Rattle.code_parts.specs.Items.{map_read_at}
use Rattle.code_parts.proofs.Combine.{behind_some, given, are_left, done, ok_is, steady_then, steady_give, pair_spells}
use Rattle.code_parts.proofs.Combine.{made_spells, byte_spells, choice_spells}
use Rattle.code_parts.proofs.Numbers.{steady_number, steady_several, several_spells, counted_spells, two_spells}
use Rattle.code_parts.proofs.Choices.{all_any, wanted_ok, there_ok, kind_was, kind_is, if_spells}
use Rattle.code_parts.proofs.ShapeLaws.{kind_spells, slot_spells}

-- ---- filters

need_spells : ReadsTexts need_at need_text Any Any
unfolding need_at
need_spells = made_spells (pair_spells byte_spells byte_spells) need_from need_text Any Any
    (λ (slot, number) need fit e.
    let make = λ (kind : Kind). let made : Need = record { slot = slot; kind = kind } in done made in
    let k = there_ok Shape (kind_of_byte number) make need e in
    let made : Need = record { slot = slot; kind = k.0 } in
    (ap (λ (n : ℕ). slot ∷ n ∷ []) (kind_was number k.0 k.1) ∙ ap need_text (ok_is made need k.2), tt))
    (λ need h. ((need.slot, kind_number need.kind), (tt, tt), rw (kind_is need.kind) refl, refl))

-- a thing without a flaw is read where its reader reads it
surely : {A : Type 0} (r : Reader A) (bytes rest : List ℕ) (x : A) → sure r bytes ≡ Some (Ok x, rest)
    → r bytes ≡ Some (x, rest)
surely {A} r bytes rest x e =
    let a = behind_some (r bytes) (λ y. give (done y)) (Ok x, rest) e in
    let end = given (done a.0.0) (done x) a.0.1 rest a.2 in
    a.1 ∙ ap (λ (y : A). Some (y, a.0.1)) (ok_is a.0.0 x end.0) ∙ ap (λ (l : List ℕ). Some (x, l)) end.1

and_surely : {A : Type 0} (r : Reader A) (bytes rest : List ℕ) (x : A) → r bytes ≡ Some (x, rest)
    → sure r bytes ≡ Some (Ok x, rest)
and_surely r bytes rest x e = rw e refl

abbrev needs_text : List Need → List ℕ
needs_text needs = two (length needs) ++ flat_map need_text needs

needs_spells : ReadsTexts needs_at needs_text (λ needs. length needs < 2 ^ 16) Any
unfolding needs_at
needs_spells = record {
  again = λ needs rest h.
      let count : number_read_at w16 (two (length needs) ++ (flat_map need_text needs ++ rest))
      ≡ Some (length needs, flat_map need_text needs ++ rest) =
      surely (number_read_at w16) (two (length needs) ++ (flat_map need_text needs ++ rest))
      (flat_map need_text needs ++ rest) (length needs)
      (two_spells.again (length needs) (flat_map need_text needs ++ rest) h) in
      let all : several need_at (length needs) (flat_map need_text needs ++ rest) ≡ Some (Ok needs, rest) =
      (several_spells need_spells (length needs)).again needs rest (refl, all_any needs) in
      ap (number_read_at w16 >>= several need_at) (append_assoc (two (length needs)) (flat_map need_text needs) rest)
      ∙ ap (λ (front : Front ℕ). read_behind front (several need_at)) count ∙ all;
  takes = λ bytes rest needs fit e.
      let a = behind_some (number_read_at w16 bytes) (several need_at) (Ok needs, rest) e in
      let count = two_spells.takes bytes a.0.1 a.0.0 fit (and_surely (number_read_at w16) bytes a.0.1 a.0.0 a.1) in
      let all = (several_spells need_spells a.0.0).takes a.0.1 rest needs (are_left bytes (two a.0.0) a.0.1 count.0 fit)
      a.2 in (
        count.0 ∙ ap (λ (n : ℕ). two n ++ a.0.1) (sym all.1.0) ∙ ap (λ (l : List ℕ). two (length needs) ++ l) all.0
            ∙ sym (append_assoc (two (length needs)) (flat_map need_text needs) rest),
        tt,
      );
  steady = steady_then (steady_number w16) (steady_several need_spells.steady);
}

pub filter_spells : ReadsTexts filter_at filter_text FilterFits Any
unfolding filter_at
filter_spells = made_spells (pair_spells byte_spells (pair_spells two_spells needs_spells)) _ filter_text FilterFits Any
    (λ p f fit e. (ap filter_text (ok_is _ f e), tt))
    (λ f h. ((f.table, (f.length, f.needs)), (tt, (h.short, h.few)), refl, refl))

-- ---- work areas

-- an area of this number that a file of the version holds
abbrev Numbered : Version → ℕ → AreaState → Type 0
Numbered version b area = AreaFits version area × (area_byte area ≡ b)

closed_spells : (version : Version)
    → ReadsTexts (give (Ok Closed)) open_text (Numbered version 0) (λ area. Unit {0} × (area_byte area ≡ 0))
closed_spells version = record {
  again = λ area rest h. closed_again area rest h.1;
  takes = λ bytes rest area fit e.
      let end = given (done Closed) (done area) bytes rest e in
      subst (λ (x : AreaState). (bytes ≡ open_text x ++ rest) × (Unit {0} × (area_byte x ≡ 0)))
      (ok_is Closed area end.0) (end.1, (tt, refl));
  steady = steady_give (Ok Closed);
}
  where
    closed_again : (area : AreaState) (rest : List ℕ) → area_byte area ≡ 0
        → give {A = Judged AreaState} (Ok Closed) (open_text area ++ rest) ≡ Some (Ok area, rest)
    closed_again Closed rest h = refl
    closed_again (Open a) rest h = absurd (let e : a.table + 1 ≡ 0 = h in omega arith)
    closed_again Unsure rest h = absurd (let e : 255 ≡ 0 = h in omega arith)

unsure_spells : (version : Version) → may_be_unsure version ≡ true
    → ReadsTexts (give (Ok Unsure)) open_text (Numbered version 255) (λ area. Unit {0} × (area_byte area ≡ 255))
unsure_spells version may = record {
  again = λ area rest h. unsure_again area rest h;
  takes = λ bytes rest area fit e.
      let end = given (done Unsure) (done area) bytes rest e in
      subst (λ (x : AreaState). (bytes ≡ open_text x ++ rest) × (Unit {0} × (area_byte x ≡ 255)))
      (ok_is Unsure area end.0) (end.1, (tt, refl));
  steady = steady_give (Ok Unsure);
}
  where
    unsure_again : (area : AreaState) (rest : List ℕ) → Numbered version 255 area
        → give {A = Judged AreaState} (Ok Unsure) (open_text area ++ rest) ≡ Some (Ok area, rest)
    unsure_again Closed rest h = absurd (let e : 0 ≡ 255 = h.1 in omega arith)
    unsure_again (Open a) rest h = absurd (
        let open_is : (eqb (a.table + 1) 255 && may_be_unsure version) ≡ false = h.0 in
        let e : (eqb 255 255 && may_be_unsure version) ≡ false =
        subst (λ (n : ℕ). (eqb n 255 && may_be_unsure version) ≡ false) h.1 open_is in
        let f : true ≡ false = rw may at e in cc)
    unsure_again Unsure rest h = refl

-- what an open area of this number was read from
abbrev FromParts : ℕ → AreaState → Type 0
FromParts b area = (p : ℕ × (ℕ × ℕ)) × (Unit {0} × (Unit {0} × Unit {0})) × (open_from b p ≡ Ok area)
    × (open_text area ≡ p.0 ∷ p.1.0 ∷ p.1.1 ∷ [])

open_spells : (version : Version) (b : ℕ) → eqb b 0 ≡ false → (eqb b 255 && may_be_unsure version) ≡ false
    → ReadsTexts (open_read_at b) open_text (Numbered version b) (λ area. Unit {0} × (area_byte area ≡ b))
unfolding open_read_at
open_spells version b some known =
    made_spells (pair_spells byte_spells (pair_spells byte_spells byte_spells)) (open_from b) open_text
    (Numbered version b) (λ area. Unit {0} × (area_byte area ≡ b))
    (λ (list, (order, filter)) area fit e.
    subst (λ (x : AreaState). (list ∷ order ∷ filter ∷ [] ≡ open_text x) × (Unit {0} × (area_byte x ≡ b)))
    (ok_is _ area e) (refl, (tt, up b some)))
    (λ area h. parts_of_area area h)
  where
    up : (n : ℕ) → eqb n 0 ≡ false → n - 1 + 1 ≡ n
    up zero e = absurd cc
    up (suc n) e = omega arith

    parts_of_area : (area : AreaState) → Numbered version b area → FromParts b area
    parts_of_area Closed h = absurd (let e : eqb b 0 ≡ true = rw (← h.1) refl in cc)
    parts_of_area (Open a) h =
        let table : b - 1 ≡ a.table = (let e : a.table + 1 ≡ b = h.1 in omega arith) in (
          (a.list, (a.order, a.filter)),
          (tt, (tt, tt)),
          ap
              (λ (n : ℕ). done (Open (record { table = n; list = a.list; order = a.order; filter = a.filter }))) table,
          refl,
        )
    parts_of_area Unsure h = absurd (
        let e : (eqb 255 255 && may_be_unsure version) ≡ false =
        subst (λ (n : ℕ). (eqb n 255 && may_be_unsure version) ≡ false) (sym h.1) known in
        let may : may_be_unsure version ≡ true = h.0 in
        let f : true ≡ false = rw may at e in cc)

area_spells : (version : Version) → ReadsTexts (area_read_at version) area_text (AreaFits version) Any
unfolding area_read_at
area_spells version = choice_spells (area_behind version) area_byte open_text (AreaFits version) Any (λ b.
    if_spells (eqb b 0) (λ is. subst
    (λ (n : ℕ). ReadsTexts (give (Ok Closed)) open_text (Numbered version n) (λ area. Unit {0} × (area_byte area ≡ n)))
    (sym (eqb-true b 0 is)) (closed_spells version))
    (λ some. if_spells (eqb b 255 && may_be_unsure version) (λ is.
    let both = and_parts (eqb b 255) (may_be_unsure version) is in
    subst (λ (n : ℕ). ReadsTexts (give (Ok Unsure)) open_text (Numbered version n)
    (λ area. Unit {0} × (area_byte area ≡ n))) (sym (eqb-true b 255 both.0)) (unsure_spells version both.1))
    (λ known. open_spells version b some known)))

-- ---- states, procedures and maps

state_spelled : (selected : ℕ) (areas : List AreaState) (slots : List (Option Kind)) (kinds : List Kind) (s : State)
    → state_from (selected, (areas, (slots, kinds))) ≡ Ok s
    → selected ∷ (flat_map area_text areas ++ (flat_map slot_text slots ++ (length kinds ∷ flat_map kind_text kinds)))
    ≡ state_text s
state_spelled selected areas slots kinds s e =
    subst (λ (t : State). selected
    ∷ (flat_map area_text areas ++ (flat_map slot_text slots ++ (length kinds ∷ flat_map kind_text kinds)))
    ≡ state_text t) (ok_is _ s e) (rw (length-reverse kinds, reverse-reverse kinds) refl)

state_again : (s : State) → state_from (s.desk.selected, (s.desk.areas, (s.slots, reverse s.stack))) ≡ Ok s
state_again s = rw (reverse-reverse s.stack) refl

state_spells : (version : Version) (slots : ℕ)
    → ReadsTexts (state_read_at version slots) state_text (StateFits version slots) Any
unfolding state_read_at
state_spells version slots = made_spells
    (pair_spells byte_spells (pair_spells (several_spells (area_spells version) 10)
    (pair_spells (several_spells slot_spells slots) (counted_spells kind_spells)))) state_from state_text
    (StateFits version slots) Any
    (λ (selected, (areas, (slots, kinds))) s fit e. (state_spelled selected areas slots kinds s e, tt))
    (λ s h. (
      (s.desk.selected, (s.desk.areas, (s.slots, reverse s.stack))),
      (tt, ((h.ten, h.areas), ((h.known, all_any s.slots), all_any (reverse s.stack)))),
      state_again s,
      sym
          (state_spelled s.desk.selected s.desk.areas s.slots (reverse s.stack) s (state_again s)),
    ))

level_spells : ReadsTexts (made_at (sure byte_at) level_from) (λ level. level ∷ []) (λ level. level ≤ 20) Any
level_spells = made_spells byte_spells level_from (λ level. level ∷ []) (λ level. level ≤ 20) Any
    (λ byte level fit e. (ap (λ (n : ℕ). n ∷ []) (wanted_ok Limit (leb byte 20) byte level e).1, tt))
    (λ level h. (level, tt, rw (le-leb level 20 h) refl, refl))

pub procedure_spells : (version : Version) (slots : ℕ)
    → ReadsTexts (procedure_read_at version slots) procedure_text (ProcedureFits version slots) Any
unfolding procedure_read_at
procedure_spells version slots =
    made_spells (pair_spells two_spells
    (pair_spells level_spells (pair_spells (state_spells version slots) (state_spells version slots)))) _ procedure_text
    (ProcedureFits version slots) Any
    (λ p x fit e. (ap procedure_text (ok_is _ x e), tt))
    (λ x h. ((x.length, (x.level, (x.entry, x.exit))), (h.short, (h.level, (h.entry, h.exit))), refl, refl))

pub map_spells : (version : Version) (slots : ℕ)
    → ReadsTexts (map_read_at version slots) map_text (MapFits version slots) Any
unfolding map_read_at
map_spells version slots = made_spells (pair_spells two_spells (state_spells version slots)) _ map_text
    (MapFits version slots) Any
    (λ p m fit e. (ap map_text (ok_is _ m e), tt))
    (λ m h. ((m.place, m.state), (h.place, h.state), refl, refl))
