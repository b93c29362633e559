use Rattle.std.proofs.Common.{arith, ap, sym, subst, ◌∙◌, ◌≡◌, ◌∷◌, [], length}
use Rattle.std.proofs.lemmas.List.{map_push}
use Rattle.prg_expr.specs.Word.{word_of, words}
use Rattle.prg_expr.specs.Scanning.{FoundWord, word_at}
use Rattle.prg_expr.proofs.Takes.{word_shorter}
use Rattle.prg_expr.proofs.Scan.{SoFar, starts, skips, takes, ends, stops, no_length}
use Rattle.prg_expr.proofs.lexer.cut.Goals as goal

pub loop-b-init : goal.loop-b-init
loop-b-init c = rw c.new-words.ensures.items (starts c.args.line.now)

pub loop-b-preserved-then-is_blank : goal.loop-b-preserved-then-is_blank
loop-b-preserved-then-is_blank c =
    let e : c.loop-b.rest.now ≡ c.in-Some.b.now ∷ c.in-Some.after.now = c.in-Some.ensures.cases.0 in
    skips c.args.line.now (words c.loop-b.words.items) c.loop-b.fault c.in-Some.b.now c.in-Some.after.now
    (subst (SoFar c.args.line.now (words c.loop-b.words.items) c.loop-b.fault) e c.loop-b.invariant)
    (sym c.is_blank.ensures ∙ c.if-is_blank.true)

pub returns-then-is_comment : goal.returns-then-is_comment
returns-then-is_comment c =
    let e : c.loop-b.rest.now ≡ c.in-Some.b.now ∷ c.in-Some.after.now = c.in-Some.ensures.cases.0 in
    stops c.args.line.now (record { words = c.loop-b.words; fault = c.loop-b.fault }) c.in-Some.b.now
    c.in-Some.after.now (subst (SoFar c.args.line.now (words c.loop-b.words.items) c.loop-b.fault) e
    c.loop-b.invariant) (sym c.is_blank.ensures ∙ c.if-is_blank.false)
    (sym c.is_comment.ensures ∙ c.if-is_comment.true)

pub loop-b-smaller : goal.loop-b-smaller
loop-b-smaller c =
    let lt = word_shorter c.in-Some.b.now c.in-Some.after.now (sym c.is_blank.ensures ∙ c.if-is_blank.false)
    (sym c.is_comment.ensures ∙ c.if-is_comment.false) in
    let len : length c.word_at-found.result.rest.now ≡ length (word_at c.in-Some.b.now c.in-Some.after.now).2 =
    ap (λ (x : FoundWord). length x.2) c.word_at-found.ensures in
    omega (arith, lt, len, c.in-Some.ensures.cases)

pub loop-b-preserved : goal.loop-b-preserved
loop-b-preserved c =
    let e : c.loop-b.rest.now ≡ c.in-Some.b.now ∷ c.in-Some.after.now = c.in-Some.ensures.cases.0 in
    let m : words c.push.new.self.items ≡ _ = ap words c.in_ok-push.ensures.items
    ∙ map_push word_of c.loop-b.words.items c.word_at-found.result.token in
    rw (m, c.least-fault.ensures) (takes c.args.line.now
    (words c.loop-b.words.items) c.loop-b.fault c.in-Some.b.now c.in-Some.after.now
    (word_of c.word_at-found.result.token) c.word_at-found.result.fault c.word_at-found.result.rest.now
    (subst (SoFar c.args.line.now (words c.loop-b.words.items) c.loop-b.fault) e c.loop-b.invariant)
    (sym c.is_blank.ensures ∙ c.if-is_blank.false)
    (sym c.is_comment.ensures ∙ c.if-is_comment.false) c.word_at-found.ensures)

pub returns : goal.returns
returns c =
    let e : c.loop-b.rest.now ≡ [] = no_length c.loop-b.rest.now c.in_default.ensures.cases in
    ends c.args.line.now (record { words = c.loop-b.words; fault = c.loop-b.fault })
    (subst (SoFar c.args.line.now (words c.loop-b.words.items) c.loop-b.fault) e c.loop-b.invariant)
