-- Laws of whole code files.
use Rattle.std.proofs.Common.{◌≡◌, ℕ, ◌^◌, ◌<◌, Bool, true, false, cond, eqb, List, ◌++◌, Some, None, Ok, Err}
use Rattle.std.proofs.Common.{refl, sym, ap, subst, ◌∙◌, arith}
use Rattle.std.specs.Prelude.{◌==◌}
use Rattle.std.specs.Int.{w16, w32, to_le_bytes}
use Rattle.std.proofs.lemmas.Bool.{eqb-true}
use Rattle.code_items.specs.declared.declared.Version.{Version}
use Rattle.code_items.specs.declared.declared.Version.TheVariants.{One, Two}
use Rattle.code_parts.specs.Reading.{Front, Reader, Judged, read_behind, give, sure, number_read_at}
use Rattle.code_parts.specs.Laws.{ReadsTexts, Any}
use Rattle.code_parts.specs.Texts.{two}
use Rattle.code_parts.proofs.Combine.{some_is, done, ok_is}
use Rattle.xcode.specs.declared.fault.CodeFault.{CodeFault}
use Rattle.xcode.specs.declared.fault.CodeFault.TheVariants.{Magic, Version as OtherVersion, Short, Limit}
use Rattle.xcode.specs.declared.header.Counts.{Counts}
use Rattle.xcode.specs.declared.header.Header.{Header}
use Rattle.xcode.specs.Decoding.{there_or, within_limits, number_at_front, counts_from, counts_at, version_from}
use Rattle.xcode.specs.Decoding.{magic_at, version_at, limited_at, header_at}
use Rattle.xcode.specs.CodeFile.{version_number, counts_text, header_text}
use Rattle.xcode.specs.Laws.{Lasts, IsSpelled}
use Rattle.xcode.proofs.PartLaws.{bad, fine_is, bad_is, not_both, joint_spelled, made_spelled, shaped_spelled}
use Rattle.xcode.proofs.PartLaws.{checked_spelled}

-- ---- numbers of the header

surely : {A : Type 0} (front : Front A) (x : A) (rest : List ℕ) → read_behind {B = Judged A} front (λ y. give (done y))
    ≡ Some (Ok x, rest) → front ≡ Some (x, rest)
surely None x rest e = absurd cc
surely {A} (Some p) x rest e =
    let same : (done p.0, p.1) ≡ (done x, rest) = some_is {A = Judged A × List ℕ} (done p.0, p.1) (done x, rest) e in
    ap (λ (y : A). Some (y, p.1)) (ok_is p.0 x (ap (λ (q : Judged A × List ℕ). q.0) same))
    ∙ ap (λ (l : List ℕ). Some (x, l)) (ap (λ (q : Judged A × List ℕ). q.1) same)

there_fine : {A : Type 0} (fault : CodeFault) (front : Front A) (x : A) (rest : List ℕ)
    → there_or fault front ≡ Ok (x, rest) → read_behind {B = Judged A} front (λ y. give (done y)) ≡ Some (Ok x, rest)
there_fine fault None x rest e = absurd cc
there_fine {A} fault (Some p) x rest e = ap (λ (q : A × List ℕ). Some (done q.0, q.1)) (fine_is p (x, rest) e)

there_bad : {A : Type 0} (fault : CodeFault) (front : Front A) (e : CodeFault) → there_or fault front ≡ Err e
    → fault ≡ e
there_bad {A} fault None e h = bad_is {A = A × List ℕ} fault e h
there_bad fault (Some p) e h = absurd (not_both p e h)

there_spelled : {A : Type 0} (r : Reader A) {t : A → List ℕ} {P G : A → Type 0} → ReadsTexts (sure r) t P G
    → (fault : CodeFault) → (Lasts fault → ⊥) → IsSpelled (λ bytes. there_or fault (r bytes)) t P G
there_spelled {A} r {t} {P} {G} law fault brief = record {
  again = λ x rest h. rw (surely (r (t x ++ rest)) x rest (law.again x rest h)) refl;
  takes = λ bytes rest x fit e. law.takes bytes rest x fit (there_fine fault (r bytes) x rest e);
  stays = λ bytes more rest x e. rw (surely (r (bytes ++ more)) x (rest ++ more)
      (law.steady.stays bytes more rest (Ok x) (there_fine fault (r bytes) x rest e))) refl;
  fails = λ bytes more f lasts e. absurd (brief (subst Lasts (sym (there_bad fault (r bytes) f e)) lasts));
}

-- numbers of two and four bytes, by the lower crate's law
pub record NumberLaws : Type 0 where
  pub two : ReadsTexts (sure (number_read_at w16)) (to_le_bytes w16) (λ n. n < 2 ^ 16) (λ n. n < 2 ^ 16)
  pub four : ReadsTexts (sure (number_read_at w32)) (to_le_bytes w32) (λ n. n < 2 ^ 32) (λ n. n < 2 ^ 32)

abbrev pub Small : ℕ → Type 0
Small n = n < 2 ^ 16

number_spelled : NumberLaws → IsSpelled number_at_front two Small Small
unfolding number_at_front
number_spelled laws = there_spelled (number_read_at w16) laws.two Short (λ h. h)

abbrev pub CountsFit : Counts → Type 0
CountsFit c = Small c.stack_bound
    × (Small c.slots × (Small c.tables
    × (Small c.indexes × (Small c.lists
    × (Small c.constants × (Small c.filters × (Small c.procedures × (Small c.maps × Small c.instructions))))))))

counts_spelled : NumberLaws → IsSpelled counts_at counts_text CountsFit (λ c. Small c.instructions)
unfolding counts_at
counts_spelled laws =
    let n = number_spelled laws in
    shaped_spelled (joint_spelled n (λ _. joint_spelled n
    (λ _. joint_spelled n (λ _. joint_spelled n
    (λ _. joint_spelled n (λ _. joint_spelled n
    (λ _. joint_spelled n (λ _. joint_spelled n (λ _. joint_spelled n (λ _. n))))))))))
    counts_from counts_text CountsFit (λ c. Small c.instructions)
    (λ x (_, (_, (_, (_, (_, (_, (_, (_, (_, instructions))))))))). (refl, instructions))
    (λ c h. (
      (
        c.stack_bound,
        (
          c.slots,
          (c.tables, (c.indexes, (c.lists, (c.constants, (c.filters, (c.procedures, (c.maps, c.instructions))))))),
        ),
      ),
      h,
      refl,
      refl,
    ))

abbrev pub WithinLimits : Counts → Type 0
WithinLimits c = within_limits c ≡ true

-- what is known of counts that were read
abbrev pub CountsRead : Counts → Type 0
CountsRead c = Small c.instructions × WithinLimits c

limited_spelled : NumberLaws → IsSpelled limited_at counts_text (λ c. CountsFit c × WithinLimits c) CountsRead
unfolding limited_at
limited_spelled laws = checked_spelled (counts_spelled laws) Limit within_limits

abbrev IsMagic : ℕ → Type 0
IsMagic n = (n == 0x46434258) ≡ true

magic_spelled : NumberLaws → IsSpelled magic_at (to_le_bytes w32) (λ n. (n < 2 ^ 32) × IsMagic n)
    (λ n. (n < 2 ^ 32) × IsMagic n)
unfolding magic_at
magic_spelled laws = checked_spelled (there_spelled (number_read_at w32) laws.four Magic (λ h. h)) Magic
    (λ n. n == 0x46434258)

version_was : (n : ℕ) (v : Version) → version_from n ≡ Ok v → n ≡ version_number v
version_was n v e = first (eqb n 1) refl e
  where
    second : (b : Bool) → eqb n 2 ≡ b → cond b (Ok Two) (bad OtherVersion) ≡ Ok v → n ≡ version_number v
    second true is e = eqb-true n 2 is ∙ ap version_number (fine_is Two v e)
    second false is e = absurd cc

    first : (b : Bool) → eqb n 1 ≡ b → cond b (Ok One) (cond (eqb n 2) (Ok Two) (bad OtherVersion)) ≡ Ok v
        → n ≡ version_number v
    first true is e = eqb-true n 1 is ∙ ap version_number (fine_is One v e)
    first false is e = second (eqb n 2) refl e

version_is : (v : Version) → (Small (version_number v)) × (version_from (version_number v) ≡ Ok v)
version_is One = (omega arith, refl)
version_is Two = (omega arith, refl)

version_spelled : NumberLaws → IsSpelled version_at (λ v. two (version_number v)) Any Any
unfolding version_at
version_spelled laws = made_spelled (there_spelled (number_read_at w16) laws.two OtherVersion (λ h. h)) version_from
    (λ v. two (version_number v)) Any Any
    (λ n v h e. (ap two (version_was n v e), tt))
    (λ v h. (version_number v, (version_is v).0, (version_is v).1, refl))

pub record HeaderFits (h : Header) : Type 0 where
  pub fit : CountsFit h.counts
  pub within : WithinLimits h.counts

pub header_spelled : NumberLaws → IsSpelled header_at header_text HeaderFits (λ h. CountsRead h.counts)
unfolding header_at
header_spelled laws = shaped_spelled (joint_spelled (magic_spelled laws)
    (λ _. joint_spelled (version_spelled laws) (λ _. limited_spelled laws))) _ header_text HeaderFits
    (λ h. CountsRead h.counts)
    (λ (magic, (version, counts)) (is_magic, (_, within)). (
      ap (λ (n : ℕ). to_le_bytes w32 n ++ (two (version_number version) ++ counts_text counts))
          (eqb-true magic 0x46434258 is_magic.1),
      within,
    ))
    (λ y h. ((0x46434258, (y.version, y.counts)), ((omega arith, refl), (tt, (h.fit, h.within))), refl, refl))
