-- What is kept of a list in little room is the list again.
use Rattle.std.proofs.Common.{◌≡◌, ℕ, suc, ◌+◌, ◌-◌, ◌≤◌, List, [], ◌∷◌, ◌++◌, None, length, replicate, ap, sym, ◌∙◌}
use Rattle.std.proofs.Common.{arith}
use Rattle.std.proofs.lemmas.List.{append_assoc, append-nil, length-append, length-replicate, take_all}
use Rattle.code_items.specs.declared.desk.AreaState.TheVariants.{Closed}
use Rattle.code_items.specs.declared.state.State.{State}
use Rattle.prg_code.specs.declared.seen.Seen.{Seen}
use Rattle.prg_code.specs.Remembering.{AreAllBut, filled_up, Remembers, state_remembered}

pub all_kept : {A : Type 0} (blank : A) (all : List A) → AreAllBut blank all all
all_kept blank all = (0, sym (append-nil all))

-- the last of what is kept is left out
pub one_less : {A : Type 0} (blank : A) (kept all : List A) (last : A) (others : List A) → AreAllBut blank kept all
    → kept ≡ others ++ last ∷ [] → last ≡ blank → AreAllBut blank others all
one_less blank kept all last others h cut is = (
  suc h.0,
  h.1 ∙ ap (λ xs. xs ++ replicate h.0 blank) (cut ∙ ap (λ x. others ++ x ∷ []) is)
      ∙ append_assoc others (blank ∷ []) (replicate h.0 blank),
)

filled : {A : Type 0} (blank : A) (kept all : List A) (size : ℕ) → AreAllBut blank kept all → length all ≡ size
    → filled_up blank size kept ≡ all
filled blank kept all size h long =
    let many : size ≡ length kept + h.0 =
    sym long ∙ ap length h.1 ∙ length-append kept (replicate h.0 blank)
    ∙ ap (λ n. length kept + n) (length-replicate h.0 blank) in
    let low : length kept ≤ size = omega arith in
    let rest : size - length kept ≡ h.0 = omega arith in
    ap (λ xs. xs ++ replicate (size - length kept) blank) (take_all size kept low)
    ∙ ap (λ n. kept ++ replicate n blank) rest ∙ sym h.1

-- with ten work areas and so many slots, all is known again but the stack
pub known_again : (seen : Seen) (state : State) → Remembers seen state → length state.desk.areas ≡ 10
    → state_remembered seen (length state.slots) ≡ record state { stack = [] }
known_again seen state h ten = λ i. record {
  desk = record {
    selected = h.selected i;
    areas = filled Closed seen.areas.items state.desk.areas 10 h.areas ten i;
  };
  slots = filled None seen.kinds.items state.slots (length state.slots) h.slots (λ j. length state.slots) i;
  stack = [];
}
