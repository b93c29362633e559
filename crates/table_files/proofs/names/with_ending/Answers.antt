use Rattle.std.proofs.Common.{◌≡◌, ◌≤◌, ◌++◌, List, ℕ, Result, Ok, Err, MatchResult, IsUtf8, length, arith, ap, ◌∙◌}
use Rattle.std.proofs.Common.{sym, subst, refl, lit<}
use Rattle.std.specs.Result.{IsOk}
use Rattle.table_files.proofs.names.with_ending.Goals as goal

is_ok_of : {T E : Type 0} (r : Result T E) (P : T → Type 0) (Q : E → Type 0) → MatchResult r P Q → ((e : E) → Q e → ⊥)
    → IsOk r
is_ok_of (Ok x) P Q h n = refl
is_ok_of (Err e) P Q h n = absurd (n e h)

value_of : {T E : Type 0} (r : Result T E) (x : T) (P : T → Type 0) (Q : E → Type 0) → r ≡ Ok x → MatchResult r P Q
    → P x
value_of {T = T} {E = E} r x P Q e h = subst (λ (s : Result T E). MatchResult s P Q) e h

pub unwrap-text-requires : goal.unwrap-text-requires
unwrap-text-requires c =
    let text = c.file_names_are_texts.ensures _ c.requires.name in
    is_ok_of c.from_utf8.result _ _ c.from_utf8.ensures.cases
    (λ e h. h.0 (subst IsUtf8 (sym c.as_slice.ensures.value) text.0))

pub push_str-requires-2 : goal.push_str-requires-2
push_str-requires-2 c =
    let short = (c.file_names_are_texts.ensures _ c.requires.name).1 in
    let text = value_of c.from_utf8.result c.unwrap-text.result _ _ c.unwrap-text.ensures c.from_utf8.ensures.cases in
    let bytes : c.push_str.new.self.bytes ≡ c.args.name.now.items = c.push_str.ensures.bytes
    ∙ ap (λ (front : List ℕ). front ++ c.unwrap-text.result.now) c.new-file.ensures ∙ text.0
    ∙ c.as_slice.ensures.value in
    let count : length c.push_str.new.self.bytes ≤ 8 = subst (λ (b : List ℕ). length b ≤ 8) (sym bytes) short in
    (lit< tt, omega (arith, c.requires.ending))
