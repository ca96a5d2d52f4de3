use Rattle.std.proofs.Common.{◌≡◌, ◌≤◌, Option, Some, None, sym, ap, length, length-drop, slice_get, arith}
use Rattle.std.proofs.lemmas.Result.{err_from_is_err_and}
use Rattle.co_base.specs.declared.span.Span.{Span}
use Rattle.co_first_parse.specs.Lex.{first_token, blank}
use Rattle.co_first_parse.proofs.Spelled.{first_sound}
use Rattle.co_first_parse.proofs.Tokens.{reading_blank, reading_token, reading_none, reading_end}
use Rattle.co_first_parse.proofs.lex.lex.Goals as goal

pub loop-byte-preserved-in-Some-blank : goal.loop-byte-preserved-in-Some-blank
loop-byte-preserved-in-Some-blank c =
    reading_blank _ _ _ _ _ _ _ c.loop-byte.invariant (sym c.in-Some.ensures.value) (sym c.in-Some-blank.ensures) c.after-rest.ensures

pub returns-in_err-kind-clause-refused : goal.returns-in_err-kind-clause-refused
returns-in_err-kind-clause-refused c h =
    let p = err_from_is_err_and c.from_residual.result c.from_residual.ensures.1 in
    reading_none _ _ _ _ _ c.loop-byte.invariant (sym c.in-Some.ensures.value) (sym c.in_default-blank.ensures) (c.in_err-kind.ensures.refused (cc (p.1, p.2, h)))

pub overflow_cast-at : goal.overflow_cast-at
overflow_cast-at c =
    let w = (first_sound _ _ _ c.in_ok-kind.ensures.ok).within in
    omega (arith, w, c.loop-byte.invariant.room)

pub overflow_add-at : goal.overflow_add-at
overflow_add-at c =
    let w = (first_sound _ _ _ c.in_ok-kind.ensures.ok).within in
    omega (arith, w, c.loop-byte.invariant.room)

pub after-rest-requires-in-Some : goal.after-rest-requires-in-Some
after-rest-requires-in-Some c = (first_sound _ _ _ c.in_ok-kind.ensures.ok).within

pub loop-byte-smaller : goal.loop-byte-smaller
loop-byte-smaller c =
    let w = first_sound _ _ _ c.in_ok-kind.ensures.ok in
    omega (arith, w.within, w.some, simp length-drop at (ap length c.after-rest-in-Some.ensures))

pub loop-byte-preserved : goal.loop-byte-preserved
loop-byte-preserved c =
    reading_token _ _ _ _ _ _ _ _ c.loop-byte.invariant c.in_ok-kind.ensures.ok c.in_ok-push.ensures.ok c.after-rest-in-Some.ensures

pub returns-clause-ok : goal.returns-clause-ok
returns-clause-ok c = reading_end _ _ _ _ c.loop-byte.invariant (sym c.in_default.ensures.value)
