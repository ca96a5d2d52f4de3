-- The tokens of a tree. Each relation takes the tokens of a part of the tree off the front of a list: what stood before, and what is left.
use Rattle.std.specs.Prelude.{◌≡◌, ℕ, ◌^◌, ◌<◌, ◌≤◌, List, [], ◌∷◌, length, slice_get, Some, codes}
use Rattle.co_base.specs.declared.span.Span.{Span}
use Rattle.co_first_tree.specs.declared.tree.Program.{Program}
use Rattle.co_first_tree.specs.declared.tree.Stmt.{Stmt}
use Rattle.co_first_tree.specs.declared.tree.Stmt.TheVariants as stmt
use Rattle.co_first_tree.specs.declared.tree.Sum.{Sum}
use Rattle.co_first_tree.specs.declared.tree.Sum.TheVariants as sum
use Rattle.co_first_tree.specs.declared.tree.Term.{Term}
use Rattle.co_first_tree.specs.declared.tree.SumOp.{SumOp}
use Rattle.co_first_tree.specs.declared.tree.SumOp.TheVariants.{Add, Sub}
use Rattle.co_first_tree.specs.declared.tree.Atom.{Atom}
use Rattle.co_first_tree.specs.declared.tree.Atom.TheVariants as operand
use Rattle.co_first_tree.specs.Form.{IsFormed, IsVariable}
use Rattle.co_first_parse.specs.declared.token.Mark.{Mark}
use Rattle.co_first_parse.specs.declared.token.Mark.TheVariants as m
use Rattle.co_first_parse.specs.declared.token.Kind.{Kind}
use Rattle.co_first_parse.specs.declared.token.Kind.TheVariants.{Fixed, Name, Number}
use Rattle.co_first_parse.specs.declared.token.Token.{Token}
use Rattle.co_first_parse.specs.Spelling.{token, Spells, first_place}

abbrev pub Names : Type 0
Names = List (List ℕ)

-- a keyword or a punctuator at this place
abbrev pub sign : Mark → Span → Token
sign mark at = token (Fixed mark) at

abbrev pub mark_of : SumOp → Mark
mark_of Add = m.Plus
mark_of Sub = m.Minus

-- the name of the variable, or the literal
abbrev pub IsAtom : Names → Atom → Kind → Type 0
IsAtom names (operand.Int value) kind = kind ≡ Number value
IsAtom names (operand.Name x) kind = (name : List ℕ) × (kind ≡ Name name) × (slice_get names x ≡ Some name)

abbrev pub term : SumOp → Atom → Term
term op atom = record { op = op; atom = atom }

-- { ( "+" | "-" ) ( NAME | INT ) }
pub data AreTerms (names : Names) : List Term → List Token → List Token → Type 0 where
  none : (after : List Token) → AreTerms names [] after after
  more : (op : SumOp) (atom : Atom) (terms : List Term) (kind : Kind) (a b : Span) (rest after : List Token) → IsAtom names atom kind → AreTerms names terms rest after
      → AreTerms names (term op atom ∷ terms) (sign (mark_of op) a ∷ token kind b ∷ rest) after

-- INT | NAME { ( "+" | "-" ) ( NAME | INT ) }
pub data IsSum (names : Names) : Sum → List Token → List Token → Type 0 where
  literal : (value : ℕ) (at : Span) (after : List Token) → IsSum names (sum.Int value at) (token (Number value) at ∷ after) after
  variable : (x : ℕ) (name : List ℕ) (terms : List Term) (at : Span) (rest after : List Token) → slice_get names x ≡ Some name → AreTerms names terms rest after
      → IsSum names (sum.Name x terms at) (token (Name name) at ∷ rest) after

mutual
  pub data IsStmt (names : Names) : Stmt → List Token → List Token → Type 0 where
    -- "long" NAME "=" sum ";"
    declares : (x : ℕ) (name : List ℕ) (value : Sum) (a b c d : Span) (rest after : List Token) → slice_get names x ≡ Some name
        → IsSum names value rest (sign m.Semicolon d ∷ after) → IsStmt names (stmt.Declare x value) (sign m.Long a ∷ token (Name name) b ∷ sign m.Assign c ∷ rest) after
    -- NAME "=" sum ";"
    assigns : (x : ℕ) (name : List ℕ) (value : Sum) (a b c : Span) (rest after : List Token) → slice_get names x ≡ Some name
        → IsSum names value rest (sign m.Semicolon c ∷ after) → IsStmt names (stmt.Assign x value) (token (Name name) a ∷ sign m.Assign b ∷ rest) after
    -- "while" "(" sum ")" "{" { stmt } "}"
    loops : (value : Sum) (body : List Stmt) (a b c d e : Span) (rest inner after : List Token)
        → IsSum names value rest (sign m.CloseParenthesis c ∷ sign m.OpenBrace d ∷ inner) → AreStmts names body inner (sign m.CloseBrace e ∷ after)
        → IsStmt names (stmt.While value body) (sign m.While a ∷ sign m.OpenParenthesis b ∷ rest) after
    -- "corun" "::" "print" "(" sum ")" ";"
    prints : (value : Sum) (a b c d e f : Span) (rest after : List Token) → IsSum names value rest (sign m.CloseParenthesis e ∷ sign m.Semicolon f ∷ after)
        → IsStmt names (stmt.Print value) (sign m.Corun a ∷ sign m.Scope b ∷ token (Name (codes "print")) c ∷ sign m.OpenParenthesis d ∷ rest) after

  -- { stmt }
  pub data AreStmts (names : Names) : List Stmt → List Token → List Token → Type 0 where
    no_stmt : (after : List Token) → AreStmts names [] after after
    one_more : (first : Stmt) (stmts : List Stmt) (before between after : List Token) → IsStmt names first before between → AreStmts names stmts between after
        → AreStmts names (first ∷ stmts) before after

-- "return" "0" ";" "}"
pub data IsEnd : List Token → Type 0 where
  returns : (a b c d : Span) → IsEnd (sign m.Return a ∷ token (Number 0) b ∷ sign m.Semicolon c ∷ sign m.CloseBrace d ∷ [])

-- "int" "main" "(" ")" "{" { stmt } "return" "0" ";" "}"
pub data IsMain (program : Program) : List Token → Type 0 where
  mains : (a b c d e : Span) (rest after : List Token) → AreStmts program.names program.body rest after → IsEnd after
      → IsMain program (sign m.Int a ∷ sign m.Main b ∷ sign m.OpenParenthesis c ∷ sign m.CloseParenthesis d ∷ sign m.OpenBrace e ∷ rest)

-- the literals and the names are those that may stand in a file
abbrev pub IsLawful : Kind → Type 0
IsLawful (Fixed mark) = Unit {0}
IsLawful (Name name) = IsVariable name
IsLawful (Number value) = value < 2 ^ 31

abbrev pub AreLawful : List Token → Type 0
AreLawful [] = Unit {0}
AreLawful (first ∷ tokens) = IsLawful first.kind × AreLawful tokens

-- the tokens are those of a tree that keeps the rules
pub record IsTree (tokens : List Token) (program : Program) : Type 0 where
  pub tree : IsMain program tokens
  pub formed : IsFormed program

-- the bytes are a file of the form, and this is its tree
pub record IsFile (bytes : List ℕ) (program : Program) : Type 0 where
  pub size : length bytes ≤ 2 ^ 20
  pub tokens : List Token
  pub spelled : Spells first_place bytes tokens
  pub tree : IsMain program tokens
  pub formed : IsFormed program

-- the bytes are those of one tree at most
abbrev pub HasOneTree : List ℕ → Type 0
HasOneTree bytes = (p q : Program) → IsFile bytes p → IsFile bytes q → p ≡ q
