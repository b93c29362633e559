-- What grows and grows again has grown.
use Rattle.std.proofs.Common.{◌≡◌, ℕ, List, [], ◌∷◌, ◌++◌, map, length, take, get_or, ◌+◌, ◌<◌, add-one, subst, sym, ap}
use Rattle.std.proofs.Common.{◌∙◌, refl}
use Rattle.std.proofs.lemmas.List.{append_assoc, append-nil, map-append}
use Rattle.std.proofs.Math.Nat.{le_refl, le_trans}
use Rattle.std.proofs.Math.Seq.{take-suc}
use Rattle.code_items.specs.declared.instr.Instr.{Instr}
use Rattle.code_items.specs.declared.state.State.{State}
use Rattle.prg_code.specs.declared.block.Draft.TheVariants as draft
use Rattle.prg_code.specs.declared.block.DraftBlock.{DraftBlock}
use Rattle.prg_code.specs.Numbers.{Grows}
use Rattle.prg_code.specs.Growth.{BlockGrows, Puts, drafts_of, known_behind}

pub no_more : {A : Type 0} (a : List A) → Grows a a
no_more a = ([], sym (append-nil a))

pub grown_twice : {A : Type 0} (a b c : List A) → Grows a b → Grows b c → Grows a c
grown_twice a b c g h = (g.0 ++ h.0, h.1 ∙ ap (λ xs. xs ++ h.0) g.1 ∙ append_assoc a g.0 h.0)

-- ---- a block

pub same_block : (b : DraftBlock) → BlockGrows b b
same_block b = record {
  pieces = no_more b.pieces.items;
  labels = le_refl (length b.labels.items);
  highest = le_refl b.highest;
}

pub more_block : {a b c : DraftBlock} → BlockGrows a b → BlockGrows b c → BlockGrows a c
more_block {a} {b} {c} g h = record {
  pieces = grown_twice a.pieces.items b.pieces.items c.pieces.items g.pieces h.pieces;
  labels = le_trans g.labels h.labels;
  highest = le_trans g.highest h.highest;
}

-- ---- what is put

known_twice : (is js : List Instr) (s : State) → known_behind (is ++ js) s ≡ known_behind js (known_behind is s)
known_twice [] js s = refl
known_twice (i ∷ is) js s = known_twice is js _

-- instructions behind instructions
pub put_behind : {a b c : DraftBlock} (is js : List Instr) → Puts is a b → Puts js b c → Puts (is ++ js) a c
put_behind {a} {b} {c} is js g h = record {
  drafts = h.drafts ∙ ap (λ ds. ds ++ map draft.Instr js) g.drafts
      ∙ append_assoc (drafts_of a) (map draft.Instr is) (map draft.Instr js)
      ∙ ap (λ ds. drafts_of a ++ ds) (sym (map-append draft.Instr is js));
  known = h.known ∙ ap (λ (s : State). known_behind js s) g.known ∙ sym (known_twice is js a.state);
}

-- the next of some instructions
pub put_next : {a b c : DraftBlock} (xs : List Instr) (i : ℕ) (d : Instr) → i < length xs → Puts (take i xs) a b
    → Puts (get_or xs i d ∷ []) b c → Puts (take (i + 1) xs) a c
put_next {a} {b} {c} xs i d low g h =
    subst (λ (is : List Instr). Puts is a c) (sym (ap (λ n. take n xs) (add-one i) ∙ take-suc xs i d low))
    (put_behind (take i xs) (get_or xs i d ∷ []) g h)
