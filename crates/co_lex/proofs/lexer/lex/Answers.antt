use Rattle.std.proofs.Common.{◌<◌, length, arith, rules}
use Rattle.std.proofs.lemmas.Bool.Decides.{nat_tests}
use Rattle.std.proofs.lemmas.List.{take_rest}
use Rattle.std.proofs.lemmas.Result.{err_from_is_err_and}
use Rattle.co_lex.specs.Lexer.{lexed}
use Rattle.co_lex.proofs.Steps.{lexed-fault, lexed-piece, with_front-nil}
use Rattle.co_lex.proofs.lexer.lex.Goals as goal

pub returns-in_err-piece-clause-err : goal.returns-in_err-piece-clause-err
returns-in_err-piece-clause-err c =
    let z = c.loop-rest.rest.now in
    let some : 0 < length z = grind (arith, nat_tests) in
    let p = err_from_is_err_and c.from_residual.result c.from_residual.ensures.1 in
    rw (p.1, p.2) (λ other. lexed-fault c.args.bytes.now c.loop-rest.tokens c.loop-rest.line c.loop-rest.at z _ some c.loop-rest.invariant.0 c.in_err-piece.ensures.value other)

pub loop-rest-init : goal.loop-rest-init
unfolding lexed
loop-rest-init c = (rw c.new-tokens.ensures (with_front-nil (lexed c.args.bytes.now)), omega arith, omega arith)

pub loop-rest-preserved : goal.loop-rest-preserved
loop-rest-preserved c =
    let z = c.loop-rest.rest.now in
    let some : 0 < length z = grind (arith, nat_tests) in
    let p = c.in_ok-piece.piece in
    (rw (take_rest z p.len) (lexed-piece c.args.bytes.now c.loop-rest.tokens c.put.new.tokens c.loop-rest.line c.loop-rest.at c.position_after-at.result z p some c.in_ok-piece.ensures.within.0 c.loop-rest.invariant.0 c.in_ok-piece.ensures.value c.in_ok-put.ensures.ok c.position_after-at.ensures.value), search rules, search rules)
