-- What the pieces of a sentence put, one after the other.
use Rattle.std.specs.Prelude.{◌≡◌, List, [], ◌∷◌, ◌++◌, Bool, true, false}
use Rattle.std.proofs.Common.{refl}
use Rattle.co_lex.specs.declared.token.TokenKind.TheVariants as kind
use Rattle.co_lex.specs.declared.token.Mark.TheVariants as mark
use Rattle.co_tree.specs.Piece.{Piece, m, leave, rule, in_parentheses, in_braces}
use Rattle.co_tree.specs.Sentence.{part}
use Rattle.co_print.specs.declared.printer.Printer.{Printer}
use Rattle.co_print.specs.Printed.{put, put_token, put_all}

pub put_append : (s : Printer) (xs ys : List Piece) → put_all s (xs ++ ys) ≡ put_all (put_all s xs) ys
put_append s [] ys = refl
put_append s (x ∷ xs) ys = put_append (put s x) xs ys

pub put_rule : (s : Printer) (xs : List Piece) → put_all s (rule xs) ≡ put_all s xs
put_rule s xs = put_append s xs (leave ∷ [])

pub put_part : (b : Bool) (s : Printer) (xs : List Piece) → put_all s (part b xs) ≡ put_all s xs
put_part true s xs = refl
put_part false s xs = put_rule s xs

pub put_parentheses : (s : Printer) (xs : List Piece) → put_all s (in_parentheses xs) ≡ put_token (put_all (put_token s (kind.Mark mark.OpenParen)) xs) (kind.Mark mark.CloseParen)
put_parentheses s xs = put_append (put_token s (kind.Mark mark.OpenParen)) xs (m mark.CloseParen ∷ leave ∷ [])

pub put_braces : (s : Printer) (xs : List Piece) → put_all s (in_braces xs) ≡ put_token (put_all (put_token s (kind.Mark mark.OpenBrace)) xs) (kind.Mark mark.CloseBrace)
put_braces s xs = put_append (put_token s (kind.Mark mark.OpenBrace)) xs (m mark.CloseBrace ∷ leave ∷ [])

pub ruleset puts = (put_append, put_rule, put_part, put_parentheses, put_braces)
