-- The canonical text of a tree: its tokens in order, one space apart, and a new line in place of the space where a declaration,
-- a member or a statement begins, and at the end.
use Rattle.std.specs.Prelude.{ℕ, List, [], ◌∷◌, ◌++◌}
use Rattle.co_lex.specs.declared.token.TokenKind.{TokenKind}
use Rattle.co_tree.specs.Piece.{Piece, token, line, node, opens, enter, leave}
use Rattle.co_tree.specs.Declarations.{sentence_of}
use Rattle.co_tree.specs.declared.declarations.Tree.{Tree}
use Rattle.co_print.specs.declared.printer.Gap.{Gap}
use Rattle.co_print.specs.declared.printer.Gap.TheVariants as gap
use Rattle.co_print.specs.declared.printer.Printer.{Printer}
use Rattle.co_print.specs.Spelling.{spelling}

abbrev pub gap_text : Gap → List ℕ
gap_text gap.Nothing = []
gap_text gap.Space = 32 ∷ []
gap_text gap.NewLine = 10 ∷ []

-- nothing stands before the first line
abbrev pub before_line : Gap → Gap
before_line gap.Nothing = gap.Nothing
before_line gap.Space = gap.NewLine
before_line gap.NewLine = gap.NewLine

-- the bytes of one more token, after the gap before it
unfoldable pub put_bytes : Printer → List ℕ → Printer
put_bytes s bytes = record { text = s.text ++ (gap_text s.gap ++ bytes); gap = gap.Space }

unfoldable pub put_token : Printer → TokenKind → Printer
put_token s k = put_bytes s (spelling k)

-- the next token begins a line
unfoldable pub put_line : Printer → Printer
put_line s = record { text = s.text; gap = before_line s.gap }

abbrev pub put : Printer → Piece → Printer
put s (token k) = put_token s k
put s line = put_line s
put s (node at) = s
put s opens = s
put s enter = s
put s leave = s

abbrev pub put_all : Printer → List Piece → Printer
put_all s [] = s
put_all s (p ∷ ps) = put_all (put s p) ps

-- nothing is printed yet
abbrev pub start : Printer
start = record { text = []; gap = gap.Nothing }

abbrev pub printed : Tree → List ℕ
printed tree = (put_all start (sentence_of tree)).text
