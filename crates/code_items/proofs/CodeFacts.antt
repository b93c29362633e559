-- What is known of a legal code.
use Rattle.std.proofs.Common.{◌≡◌, ℕ, ◌≤◌, ◌-◌, true, ◌&&◌, nat_le, List, [], ◌∷◌, ◌++◌, length}
use Rattle.std.proofs.Common.{arith}
use Rattle.std.specs.Prelude.{map}
use Rattle.shape.specs.Lists.{is_list}
use Rattle.std.specs.List.{list_all}
use Rattle.std.proofs.lemmas.Bool.{leb-true, and_parts}
use Rattle.shape.specs.Whole.{is_shape}
use Rattle.code_items.specs.declared.code.Proc.{Proc}
use Rattle.code_items.specs.declared.code.Code.{Code}
use Rattle.code_items.specs.Declarations.{are_declared, is_filter, lists_are_legal, constants_are_legal}
use Rattle.code_items.specs.Declarations.{filters_are_legal}
use Rattle.code_items.specs.Instrs.{is_instr}
use Rattle.code_items.specs.Legal.{places_in_all, is_procedure, begins_blank, is_map, places_of, blocks_of, blocks_fill}
use Rattle.code_items.specs.Legal.{maps_rise, procedures_are_legal, maps_are_legal, instructions_are_legal, is_code}
use Rattle.code_items.specs.Legal.{IsCode}
use Rattle.code_items.specs.Facts.{Facts}

some_there : (procedures : List Proc) → begins_blank procedures ≡ true → 1 ≤ length procedures
some_there [] e = absurd (cc)
some_there (p ∷ ps) e = omega arith

-- blocks that fill some places have no more
filled_within : (left : ℕ) (ns ms : List ℕ) → blocks_fill left (ns ++ ms) ≡ true → places_in_all ns ≤ left
filled_within left [] ms e = omega arith
filled_within left (n ∷ ns) ms e =
    let a = and_parts (nat_le 1 n && nat_le n left) (blocks_fill (left - n) (ns ++ ms)) e in
    let b = and_parts (nat_le 1 n) (nat_le n left) a.0 in
    omega (arith, leb-true n left b.1, filled_within (left - n) ns ms a.1)

pub facts : (code : Code) → IsCode code → Facts code
unfolding is_code are_declared
facts code e =
    let a = and_parts (are_declared code.declared && procedures_are_legal code && maps_are_legal code)
    (instructions_are_legal code) e in
    let b = and_parts (are_declared code.declared && procedures_are_legal code) (maps_are_legal code) a.0 in
    let c = and_parts (are_declared code.declared) (procedures_are_legal code) b.0 in
    let d = and_parts
    (nat_le code.declared.stack_bound 64 && nat_le code.declared.slots 256 && is_shape code.declared.shape
    && lists_are_legal code.declared && constants_are_legal code.declared) (filters_are_legal code.declared) c.0 in
    let f = and_parts
    (nat_le code.declared.stack_bound 64 && nat_le code.declared.slots 256 && is_shape code.declared.shape
    && lists_are_legal code.declared) (constants_are_legal code.declared) d.0 in
    let g = and_parts
    (nat_le code.declared.stack_bound 64 && nat_le code.declared.slots 256 && is_shape code.declared.shape)
    (lists_are_legal code.declared) f.0 in
    let h = and_parts (nat_le code.declared.stack_bound 64 && nat_le code.declared.slots 256)
    (is_shape code.declared.shape) g.0 in
    let k = and_parts (nat_le code.declared.stack_bound 64) (nat_le code.declared.slots 256) h.0 in
    let l = and_parts (nat_le (length code.declared.filters) 64)
    (list_all (is_filter (length code.declared.shape.tables) code.declared.slots) code.declared.filters) d.1 in
    let m = and_parts (nat_le (length code.procedures) 256 && list_all (is_procedure code.declared) code.procedures)
    (begins_blank code.procedures) c.1 in
    let n = and_parts (nat_le (length code.procedures) 256)
    (list_all (is_procedure code.declared) code.procedures) m.0 in
    let o = and_parts (nat_le (length code.maps) 4096 && list_all (is_map code.declared) code.maps)
    (maps_rise 0 (places_of code.procedures) code.maps) b.1 in
    let ls = and_parts (nat_le (length code.declared.lists) 64)
    (list_all (is_list code.declared.shape.indexes) code.declared.lists) g.1 in
    let w = and_parts
    (nat_le 1 (length code.instructions) && nat_le (length code.instructions) 65535
    && list_all (is_instr code.declared.version) code.instructions)
    (blocks_fill (length code.instructions) (blocks_of code.procedures code.declared.filters)) a.1 in
    let p = and_parts (nat_le 1 (length code.instructions) && nat_le (length code.instructions) 65535)
    (list_all (is_instr code.declared.version) code.instructions) w.0 in
    let q = and_parts (nat_le 1 (length code.instructions) && nat_le (length code.instructions) 65535)
    (list_all (is_instr code.declared.version) code.instructions) w.0 in
    let r = and_parts (nat_le 1 (length code.instructions)) (nat_le (length code.instructions) 65535) q.0 in
    record {
      stack_bound = leb-true code.declared.stack_bound 64 k.0;
      slots = leb-true code.declared.slots 256 k.1;
      filters = leb-true (length code.declared.filters) 64 l.0;
      some = some_there code.procedures m.1;
      procedures = leb-true (length code.procedures) 256 n.0;
      maps = o.1;
      begun = leb-true 1 (length code.instructions) r.0;
      instructions = leb-true (length code.instructions) 65535 r.1;
      places = filled_within (length code.instructions) (map (λ p. p.length) code.procedures)
          (map (λ f. f.length) code.declared.filters) w.1;
      legal = p.1;
      lists = ls.1;
      shape = h.1;
    }
