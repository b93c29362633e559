-- A whole paper that is read is spelled so, and one that is spelled so is read.
use Rattle.std.proofs.Common.{◌≡◌, ℕ, zero, suc, ◌-◌, ◌≤◌, Bool, true, false, cond, eqb, ltb, List, []}
use Rattle.std.proofs.Common.{◌∷◌, ◌++◌, length, take, drop, Some, None, Result, Ok, Err, refl, sym, ap, subst}
use Rattle.std.proofs.Common.{◌∙◌, append_assoc, arith, rules}
use Rattle.std.specs.Prelude.{IfOk}
use Rattle.std.specs.List.{flat_map}
use Rattle.std.specs.Int.{w32, to_be_bytes}
use Rattle.std.specs.Str.{bytes_eq}
use Rattle.std.proofs.lemmas.Bool.{eqb-true, ltb-false, le-ltb}
use Rattle.std.proofs.lemmas.List.{append-nil, nil_from_length, take_at, drop_at, take-append-drop, length-append}
use Rattle.std.proofs.lemmas.List.{length-drop}
use Rattle.std.proofs.lemmas.Slice.Eq.{bytes_eq-Decides}
use Rattle.save_steps.proofs.Judged.{same_bytes}
use Rattle.save_papers.specs.declared.paper.PaperError.{PaperError}
use Rattle.save_papers.specs.declared.paper.SavePaper.{SavePaper}
use Rattle.save_papers.specs.Papers.{PaperSays, head, seal_of, noted_text, paper_entry_text, sealed_text}
use Rattle.save_papers.specs.Papers.{paper_view, IsPaper, IsPaperText}
use Rattle.save_papers.specs.Reading.{◌>>=◌, PaperGives, number_in_front, noted_at, after_head, paper_entries_at}
use Rattle.save_papers.specs.Reading.{body_of, unsealed, paper_of}
use Rattle.save_papers.proofs.Fields.{IsBytes, IsBytes-take, IsBytes-drop, bind_some, some_is, Takes}
use Rattle.save_papers.proofs.Fields.{Takes-then, number_takes, number_again}
use Rattle.save_papers.proofs.Entries.{entries_take, entries_again}

bytes_are : (a b : List ℕ) → bytes_eq a b ≡ true → a ≡ b
bytes_are a b e = search (rules, bytes_eq-Decides)

-- a test that had to hold
held_some : {A : Type 0} (b : Bool) (x y : A) → cond b (Some x) None ≡ Some y → (b ≡ true) × (x ≡ y)
held_some true x y e = (refl, cc)
held_some false x y e = absurd cc

-- ---- the head and the kind

head_takes : (bytes rest : List ℕ) → IsBytes bytes → after_head bytes ≡ Some rest → Takes bytes head rest
head_takes bytes rest fits e =
    let g = held_some (bytes_eq (take (length head) bytes) head) (drop (length head) bytes) rest e in
    let front : take (length head) bytes ≡ head = bytes_are (take (length head) bytes) head g.0 in
    subst (λ (r : List ℕ). Takes bytes head r) g.1 (record {
      parts = sym (take-append-drop (length head) bytes) ∙ ap (λ (x : List ℕ). x ++ drop (length head) bytes) front;
      rest_fits = IsBytes-drop (length head) bytes fits;
    })

head_again : (rest : List ℕ) → after_head (head ++ rest) ≡ Some rest
head_again rest = rw (take_at head rest (length head) refl, same_bytes head, drop_at head rest (length head) refl) refl

kind_takes : (bytes : List ℕ) (kind : Bool) (rest : List ℕ) → IsBytes bytes → noted_at bytes ≡ Some (kind, rest)
    → Takes bytes (noted_text kind) rest
kind_takes [] kind rest fits e = absurd cc
kind_takes (zero ∷ bytes) kind rest fits e =
    subst (λ (x : Bool × List ℕ). Takes (0 ∷ bytes) (noted_text x.0) x.1) (some_is (false, bytes) (kind, rest) e)
    (record { parts = refl; rest_fits = λ i. fits (suc i) })
kind_takes (suc zero ∷ bytes) kind rest fits e =
    subst (λ (x : Bool × List ℕ). Takes (1 ∷ bytes) (noted_text x.0) x.1) (some_is (true, bytes) (kind, rest) e)
    (record { parts = refl; rest_fits = λ i. fits (suc i) })
kind_takes (suc (suc b) ∷ bytes) kind rest fits e = absurd cc

kind_again : (kind : Bool) (rest : List ℕ) → noted_at (noted_text kind ++ rest) ≡ Some (kind, rest)
kind_again true rest = refl
kind_again false rest = refl

-- ---- the body

pub body_takes : (bytes : List ℕ) (p : PaperSays) → IsBytes bytes → body_of bytes ≡ Some p
    → IsPaper p × (bytes ≡ sealed_text p)
unfolding body_of
body_takes bytes p fits e =
    let a = bind_some (after_head bytes)
    (λ rest. noted_at rest >>= λ kind. number_in_front w32 kind.1 >>= λ n. paper_entries_at n.0 n.1 >>= λ es. cond
    (eqb (length es.1) 0) (Some (record { noted = kind.0; entries = es.0 })) None) p e in
    let b = bind_some (noted_at a.0) (λ kind. number_in_front w32 kind.1 >>= λ n. paper_entries_at n.0 n.1 >>=
    λ es. cond (eqb (length es.1) 0) (Some (record { noted = kind.0; entries = es.0 })) None) p a.2 in
    let c = bind_some (number_in_front w32 b.0.1)
    (λ n. paper_entries_at n.0 n.1 >>= λ es. cond (eqb (length es.1) 0)
    (Some (record { noted = b.0.0; entries = es.0 })) None) p b.2 in
    let d = bind_some (paper_entries_at c.0.0 c.0.1)
    (λ es. cond (eqb (length es.1) 0) (Some (record { noted = b.0.0; entries = es.0 })) None) p c.2 in
    let made : PaperSays = record { noted = b.0.0; entries = d.0.0 } in
    let g = held_some (eqb (length d.0.1) 0) made p d.2 in
    let t0 = head_takes bytes a.0 fits a.1 in
    let t1 = kind_takes a.0 b.0.0 b.0.1 t0.rest_fits b.1 in
    let t2 = number_takes b.0.1 c.0.0 c.0.1 t1.rest_fits c.1 in
    let t3 = entries_take c.0.0 c.0.1 d.0 t2.0.rest_fits d.1 in
    let nothing : d.0.1 ≡ [] = nil_from_length d.0.1 (eqb-true _ _ g.0) in
    let e01 = Takes-then bytes head a.0 (noted_text b.0.0) b.0.1 t0 t1 in
    let e02 = Takes-then bytes (head ++ noted_text b.0.0) b.0.1 (to_be_bytes w32 c.0.0) c.0.1 e01 t2.0 in
    let front = (head ++ noted_text b.0.0) ++ to_be_bytes w32 c.0.0 in
    let e03 = Takes-then bytes ((head ++ noted_text b.0.0) ++ to_be_bytes w32 c.0.0) c.0.1
    (flat_map paper_entry_text d.0.0) d.0.1 e02 t3.0 in
    let whole : bytes ≡ sealed_text made = e03.parts
    ∙ ap (λ (r : List ℕ). (((head ++ noted_text b.0.0) ++ to_be_bytes w32 c.0.0) ++ flat_map paper_entry_text d.0.0)
    ++ r) nothing
    ∙ append-nil (((head ++ noted_text b.0.0) ++ to_be_bytes w32 c.0.0) ++ flat_map paper_entry_text d.0.0)
    ∙ ap (λ (k : ℕ). ((head ++ noted_text b.0.0) ++ to_be_bytes w32 k) ++ flat_map paper_entry_text d.0.0) (sym t3.1) in
    subst (λ (v : PaperSays). IsPaper v × (bytes ≡ sealed_text v)) g.1 ((omega (arith, t3.1, t2.1), t3.2), whole)

pub body_again : (p : PaperSays) → IsPaper p → body_of (sealed_text p) ≡ Some p
unfolding body_of
body_again p fits =
    let n = to_be_bytes w32 (length p.entries) in
    let es = flat_map paper_entry_text p.entries in
    let regrouped : sealed_text p ≡ head
    ++ (noted_text p.noted ++ (to_be_bytes w32 (length p.entries) ++ flat_map paper_entry_text p.entries)) =
    append_assoc (head ++ noted_text p.noted) (to_be_bytes w32 (length p.entries)) (flat_map paper_entry_text p.entries)
    ∙ append_assoc head (noted_text p.noted)
    (to_be_bytes w32 (length p.entries) ++ flat_map paper_entry_text p.entries) in
    let rest : paper_entries_at (length p.entries) (flat_map paper_entry_text p.entries) ≡ Some (p.entries, []) =
    ap (paper_entries_at (length p.entries)) (sym (append-nil (flat_map paper_entry_text p.entries)))
    ∙ entries_again p.entries [] fits.1 in
    ap body_of regrouped ∙ rw (
      head_again (noted_text p.noted ++ (to_be_bytes w32 (length p.entries) ++ flat_map paper_entry_text p.entries)),
      kind_again p.noted (to_be_bytes w32 (length p.entries) ++ flat_map paper_entry_text p.entries),
      number_again
          (length p.entries) (flat_map paper_entry_text p.entries) fits.0,
      rest,
    ) refl

-- ---- the seal

pub unsealed_takes : (bytes body : List ℕ) → unsealed bytes ≡ Some body
    → (seal : List ℕ) × (bytes ≡ body ++ seal) × (seal_of body ≡ seal) × (length seal ≡ 32)
    × (body ≡ take (length bytes - 32) bytes)
unfolding unsealed
unsealed_takes bytes body e =
    let n = length bytes - 32 in
    let test = bytes_eq (seal_of (take (length bytes - 32) bytes)) (drop (length bytes - 32) bytes) in
    parted (ltb (length bytes) 32) (bytes_eq (seal_of (take (length bytes - 32) bytes))
    (drop (length bytes - 32) bytes)) refl refl e
  where
    parted : (short is : Bool) → ltb (length bytes) 32 ≡ short → bytes_eq (seal_of (take (length bytes - 32) bytes))
        (drop (length bytes - 32) bytes) ≡ is
        → cond short None (cond is (Some (take (length bytes - 32) bytes)) None) ≡ Some body
        → (seal : List ℕ) × (bytes ≡ body ++ seal) × (seal_of body ≡ seal) × (length seal ≡ 32)
        × (body ≡ take (length bytes - 32) bytes)
    parted true is a b e = absurd cc
    parted false false a b e = absurd cc
    parted false true a b e =
        let body-is : take (length bytes - 32) bytes ≡ body = some_is (take (length bytes - 32) bytes) body e in
        let long : 32 ≤ length bytes = ltb-false _ _ a in
        let seal = drop (length bytes - 32) bytes in (
          drop (length bytes - 32) bytes,
          sym (take-append-drop (length bytes - 32) bytes) ∙ ap (λ (x : List ℕ). x ++ drop (length bytes - 32) bytes)
              body-is,
          ap seal_of (sym body-is) ∙ bytes_are (seal_of (take (length bytes - 32) bytes))
              (drop (length bytes - 32) bytes) b,
          omega (arith, length-drop (length bytes - 32) bytes),
          sym body-is,
        )

pub unsealed_again : (body seal : List ℕ) → seal_of body ≡ seal → length seal ≡ 32 → unsealed (body ++ seal) ≡ Some body
unfolding unsealed
unsealed_again body seal e len =
    let short : ltb (length (body ++ seal)) 32 ≡ false = le-ltb _ _ (omega (arith, length-append body seal)) in
    let at : length (body ++ seal) - 32 ≡ length body = omega (arith, length-append body seal) in
    rw (short, at, take_at body seal (length body) refl, drop_at body seal (length body) refl, e, same_bytes seal) refl

-- ---- the whole

pub paper_takes : (bytes : List ℕ) (p : PaperSays) → IsBytes bytes → paper_of bytes ≡ Some p
    → IsPaper p × IsPaperText p bytes
unfolding paper_of
paper_takes bytes p fits e =
    let a = bind_some (unsealed bytes) (λ body. body_of body) p e in
    let t = unsealed_takes bytes a.0 a.1 in
    let body_fits : IsBytes a.0 = rw t.4 (IsBytes-take (length bytes - 32) bytes fits) in
    let b = body_takes a.0 p body_fits a.2 in (
      b.0,
      record {
        seal = t.0;
        whole = t.1 ∙ ap (λ (x : List ℕ). x ++ t.0) b.1;
        is = ap seal_of (sym b.1)
            ∙ t.2;
        len = t.3;
      },
    )

pub paper_again : (p : PaperSays) (bytes : List ℕ) → IsPaper p → IsPaperText p bytes → paper_of bytes ≡ Some p
unfolding paper_of
paper_again p bytes fits text =
    ap paper_of text.whole ∙ rw (unsealed_again (sealed_text p) text.seal text.is text.len) (body_again p fits)

pub is_found : (bytes : List ℕ) (r : Result SavePaper PaperError) → IsBytes bytes
    → PaperGives paper_view r (paper_of bytes) → IfOk r (λ p. IsPaper (paper_view p) × IsPaperText (paper_view p) bytes)
is_found bytes (Ok p) fits given = paper_takes bytes (paper_view p) fits given
is_found bytes (Err e) fits given = tt
