use Rattle.std.proofs.Common.{◌≡◌, ◌≤◌, List, [], ◌∷◌, ◌++◌, length, false, length-append, append-nil}
use Rattle.std.proofs.Common.{refl, sym, subst, ap, ◌∙◌, rules, arith}
use Rattle.std.specs.Prelude.{◌==◌}
use Rattle.prg_expr.specs.Word.{words}
use Rattle.shape.specs.declared.parts.KeyPart.{KeyPart}
use Rattle.shape_files.specs.Keys.{key_words, part_words}
use Rattle.shape_files.proofs.KeyLemmas.{PartsLeft, first_taken, grown, next_taken, no_words, none_first}
use Rattle.shape_files.proofs.KeyLemmas.{none_left, none_next, too_many}
use Rattle.shape_files.proofs.key.parts_of.Goals as goal

one_part : (c : goal.After-push) → c.push.new.self.items ≡ c.in_ok-first.first ∷ []
one_part c = c.push.ensures.items ∙ ap (λ (ps : List KeyPart). ps ++ c.in_ok-first.first ∷ []) c.new-parts.ensures

pub loop-others-init : goal.loop-others-init
loop-others-init c = record {
  spelled =
      c.in_ok-first.ensures.part
      ∙ ap (λ ws. ws ++ words c.in_ok-first.rest.now)
      (sym (append-nil (part_words c.args.fields.now c.in_ok-first.first)))
      ∙ ap (λ ps. key_words c.args.fields.now ps ++ words c.in_ok-first.rest.now) (sym (one_part c));
  some = rw (one_part c) (omega arith);
  left = λ all some names key.
      subst (λ (ps : List KeyPart). PartsLeft c.args.fields.now all (length ps) (words c.in_ok-first.rest.now))
      (sym (one_part c))
      (first_taken c.args.fields.now c.in_ok-first.first all (words c.args.tokens.now) (words c.in_ok-first.rest.now)
      c.in_ok-first.ensures.part c.in_ok-first.ensures.plain some names key);
}

pub loop-others-preserved : goal.loop-others-preserved
loop-others-preserved c =
    let ps = c.loop-others.parts.items in
    let p = c.in_ok-part.part in
    record {
      spelled =
          grown c.args.fields.now ps c.push-in-Some.new.self.items p (words c.args.tokens.now)
          (words c.loop-others.rest.now) (words c.in-Some.others.now) (words c.in_ok-part.behind.now)
          c.loop-others.invariant.some c.loop-others.invariant.spelled c.in-Some.ensures.plus c.in_ok-part.ensures.part
          c.push-in-Some.ensures.items;
      some = subst (λ (l : List KeyPart). 1 ≤ length l) (sym c.push-in-Some.ensures.items)
          (omega (arith, length-append ps (p ∷ [])));
      left = λ all some names key.
          let next = next_taken c.args.fields.now p all (length ps) (words c.loop-others.rest.now)
          (words c.in-Some.others.now) (words c.in_ok-part.behind.now)
          (c.loop-others.invariant.left all some names key) c.in-Some.ensures.plus c.in_ok-part.ensures.part
          c.in_ok-part.ensures.plain in
          subst (λ n. PartsLeft c.args.fields.now all n (words c.in_ok-part.behind.now))
          (sym (ap (λ (l : List KeyPart). length l) c.push-in-Some.ensures.items ∙ length-append ps (p ∷ []))) next;
    }

pub returns-in_err-first-clause-none : goal.returns-in_err-first-clause-none
returns-in_err-first-clause-none c = λ _ all some few names key.
    none_first c.args.fields.now all (words c.args.tokens.now)
    (c.part_at.ensures.none c.in_err-first.was) some names key

pub returns-in_err-part-clause-none : goal.returns-in_err-part-clause-none
returns-in_err-part-clause-none c = λ _ all some few names key.
    none_next c.args.fields.now all (length c.loop-others.parts.items) (words c.loop-others.rest.now)
    (words c.in-Some.others.now) (c.loop-others.invariant.left all some names key) c.in-Some.ensures.plus
    (c.part_at-in-Some.ensures.none c.in_err-part.was)

pub returns-then-is_full-clause-none : goal.returns-then-is_full-clause-none
returns-then-is_full-clause-none c = λ _ all some few names key.
    too_many c.args.fields.now all (length c.loop-others.parts.items) (words c.loop-others.rest.now)
    (words c.in-Some.others.now) (c.loop-others.invariant.left all some names key) c.in-Some.ensures.plus
    (search rules) few

pub returns-then-not-is_empty-clause-none : goal.returns-then-not-is_empty-clause-none
returns-then-not-is_empty-clause-none c = λ _ all some few names key.
    let none = none_left c.args.fields.now all (length c.loop-others.parts.items) (words c.loop-others.rest.now)
    (c.loop-others.invariant.left all some names key) (c.in_default.ensures.none refl) in
    let nothing = subst (λ n. false ≡ (n == 0)) (no_words c.loop-others.rest.now none) c.if-not-is_empty.ensures in
    absurd (cc)
