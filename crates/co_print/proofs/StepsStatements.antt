-- What a statement and a nested class put, by what their parts put one after the other.
use Rattle.std.specs.Prelude.{◌≡◌, ℕ, suc, ◌+◌, ◌<◌, List, ◌∷◌, ◌++◌, Option, drop, length}
use Rattle.std.proofs.Common.{ap, sym, ◌∙◌, get_or, drop-cons, add-one}
use Rattle.co_base.specs.declared.span.Span.{Span}
use Rattle.co_lex.specs.declared.token.TokenKind.TheVariants as kind
use Rattle.co_lex.specs.declared.token.Word.{Word}
use Rattle.co_lex.specs.declared.token.Word.TheVariants as word
use Rattle.co_lex.specs.declared.token.Mark.TheVariants as mark
use Rattle.co_tree.specs.declared.declarations.ClassKey.{ClassKey}
use Rattle.co_tree.specs.declared.declarations.MemberDeclaration.{MemberDeclaration}
use Rattle.co_tree.specs.declared.declarations.MemberDeclaration.TheVariants as member_of
use Rattle.co_tree.specs.declared.expressions.Expression.{Expression}
use Rattle.co_tree.specs.declared.statements.ForInit.{ForInit}
use Rattle.co_tree.specs.declared.statements.Block.{Block}
use Rattle.co_tree.specs.declared.statements.Handler.{Handler}
use Rattle.co_tree.specs.declared.statements.Statement.{Statement}
use Rattle.co_tree.specs.declared.statements.Statement.TheVariants as stmt
use Rattle.co_tree.specs.Piece.{Piece}
use Rattle.co_tree.specs.Statements.{condition, for_parentheses, statement, block, handlers}
use Rattle.co_tree.specs.Declarations.{key_word, member, members}
use Rattle.co_print.specs.declared.printer.Printer.{Printer}
use Rattle.co_print.specs.Printed.{put_token, put_line, put_all}
use Rattle.co_print.proofs.Puts.{put_append}
use Rattle.co_print.proofs.OpeningStatements as opening
use Rattle.co_print.proofs.OpeningMembers.{sentence_class}

-- one more part of a list in a loop
pub each_step : {A : Type 0} (one : A → List Piece) (all : List A → List Piece) → ((x : A) (xs : List A) → all (x ∷ xs) ≡ one x ++ all xs) →
    (s s' s0 : Printer) (xs : List A) (i : ℕ) (x : A) → i < length xs → x ≡ get_or xs i x → s' ≡ put_all s (one x) → put_all s (all (drop i xs)) ≡ s0 → put_all s' (all (drop (i + 1) xs)) ≡ s0
each_step one all opened s s' s0 xs i x lt is e h =
    let cons : drop i xs ≡ x ∷ drop (i + 1) xs = rw add-one (drop-cons xs i x lt ∙ ap (λ y. y ∷ drop (suc i) xs) (sym is)) in
    ap (λ t. put_all t (all (drop (i + 1) xs))) e
    ∙ sym (put_append s (one x) (all (drop (i + 1) xs)))
    ∙ ap (put_all s) (sym (ap all cons ∙ opened x (drop (i + 1) xs)))
    ∙ h

pub block_step : (x : Statement) (b : Block) (s s1 s2 : Printer) → x ≡ stmt.Block b → s1 ≡ put_line s → s2 ≡ put_all s1 (block b) → s2 ≡ put_all s (statement x)
block_step x b s s1 s2 is e1 e2 =
    let whole : put_all s (statement (stmt.Block b)) ≡ put_all (put_line s) (block b) = ap (put_all s) (opening.sentence_block b) in cc

pub try_step : (x : Statement) (b : Block) (hs hs' : List Handler) (at : Span) (s s1 s2 s3 s4 : Printer) → x ≡ stmt.Try b hs at → s1 ≡ put_line s → s2 ≡ put_token s1 (kind.Word word.Try) → s3 ≡ put_all s2 (block b) → hs' ≡ hs → s4 ≡ put_all s3 (handlers hs') → s4 ≡ put_all s (statement x)
try_step x b hs hs' at s s1 s2 s3 s4 is e1 e2 e3 i4 e4 =
    let whole : put_all s (statement (stmt.Try b hs at)) ≡ put_all (put_all (put_token (put_line s) (kind.Word word.Try)) (block b)) (handlers hs) = ap (put_all s) (opening.sentence_try b hs at) ∙ simp put_append in cc

pub if_step : (x : Statement) (e : Expression) (then then' : Statement) (at : Span) (s s1 s2 s3 s4 : Printer) → x ≡ stmt.If e then at → s1 ≡ put_line s → s2 ≡ put_token s1 (kind.Word word.If) → s3 ≡ put_all s2 (condition e) → then' ≡ then → s4 ≡ put_all s3 (statement then') → s4 ≡ put_all s (statement x)
if_step x e then then' at s s1 s2 s3 s4 is e1 e2 e3 i4 e4 =
    let whole : put_all s (statement (stmt.If e then at)) ≡ put_all (put_all (put_token (put_line s) (kind.Word word.If)) (condition e)) (statement then) = ap (put_all s) (opening.sentence_if e then at) ∙ simp put_append in cc

pub if_else_step : (x : Statement) (e : Expression) (then then' other other' : Statement) (at : Span) (s s1 s2 s3 s4 s5 s6 : Printer) → x ≡ stmt.IfElse e then other at → s1 ≡ put_line s → s2 ≡ put_token s1 (kind.Word word.If) → s3 ≡ put_all s2 (condition e) → then' ≡ then → s4 ≡ put_all s3 (statement then') → s5 ≡ put_token s4 (kind.Word word.Else) → other' ≡ other → s6 ≡ put_all s5 (statement other') → s6 ≡ put_all s (statement x)
if_else_step x e then then' other other' at s s1 s2 s3 s4 s5 s6 is e1 e2 e3 i4 e4 e5 i6 e6 =
    let whole : put_all s (statement (stmt.IfElse e then other at)) ≡ put_all (put_token (put_all (put_all (put_token (put_line s) (kind.Word word.If)) (condition e)) (statement then)) (kind.Word word.Else)) (statement other) = ap (put_all s) (opening.sentence_if_else e then other at) ∙ simp put_append in cc

pub while_step : (x : Statement) (e : Expression) (body body' : Statement) (at : Span) (s s1 s2 s3 s4 : Printer) → x ≡ stmt.While e body at → s1 ≡ put_line s → s2 ≡ put_token s1 (kind.Word word.While) → s3 ≡ put_all s2 (condition e) → body' ≡ body → s4 ≡ put_all s3 (statement body') → s4 ≡ put_all s (statement x)
while_step x e body body' at s s1 s2 s3 s4 is e1 e2 e3 i4 e4 =
    let whole : put_all s (statement (stmt.While e body at)) ≡ put_all (put_all (put_token (put_line s) (kind.Word word.While)) (condition e)) (statement body) = ap (put_all s) (opening.sentence_while e body at) ∙ simp put_append in cc

pub for_step : (x : Statement) (init : ForInit) (c step : Option Expression) (body body' : Statement) (at : Span) (s s1 s2 s3 s4 : Printer) → x ≡ stmt.For init c step body at → s1 ≡ put_line s → s2 ≡ put_token s1 (kind.Word word.For) → s3 ≡ put_all s2 (for_parentheses init c step) → body' ≡ body → s4 ≡ put_all s3 (statement body') → s4 ≡ put_all s (statement x)
for_step x init c step body body' at s s1 s2 s3 s4 is e1 e2 e3 i4 e4 =
    let whole : put_all s (statement (stmt.For init c step body at)) ≡ put_all (put_all (put_token (put_line s) (kind.Word word.For)) (for_parentheses init c step)) (statement body) = ap (put_all s) (opening.sentence_for init c step body at) ∙ simp put_append in cc

pub class_step : (x : MemberDeclaration) (key : ClassKey) (kw : Word) (n n' : List ℕ) (ds ds' : List MemberDeclaration) (at : Span) (s s1 s2 s3 s4 s5 s6 s7 : Printer) → x ≡ member_of.Class key n ds at → s1 ≡ put_line s → kw ≡ key_word key → s2 ≡ put_token s1 (kind.Word kw) → n' ≡ n → s3 ≡ put_token s2 (kind.Name n') →
    s4 ≡ put_token s3 (kind.Mark mark.OpenBrace) → ds' ≡ ds → s5 ≡ put_all s4 (members ds') → s6 ≡ put_token s5 (kind.Mark mark.CloseBrace) → s7 ≡ put_token s6 (kind.Mark mark.Semicolon) → s7 ≡ put_all s (member x)
class_step x key kw n n' ds ds' at s s1 s2 s3 s4 s5 s6 s7 is e1 ik e2 i3 e3 e4 i5 e5 e6 e7 =
    let whole : put_all s (member (member_of.Class key n ds at)) ≡ put_token (put_token (put_all (put_token (put_token (put_token (put_line s) (kind.Word (key_word key))) (kind.Name n)) (kind.Mark mark.OpenBrace)) (members ds)) (kind.Mark mark.CloseBrace)) (kind.Mark mark.Semicolon) = ap (put_all s) (sentence_class key n ds at) ∙ simp put_append in cc
