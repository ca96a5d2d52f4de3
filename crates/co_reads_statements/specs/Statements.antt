-- What is so of a statement that is read.
use Rattle.std.specs.Prelude.{◌≡◌, ℕ, true, false, List}
use Rattle.co_lex.specs.declared.token.Token.{Token}
use Rattle.co_lex.specs.declared.token.Word.TheVariants as word
use Rattle.co_tree.specs.declared.statements.ForInit.{ForInit}
use Rattle.co_tree.specs.declared.statements.Statement.{Statement}
use Rattle.co_tree.specs.FormedTree.{FormedForInit, FormedStatement, ends_in_if}
use Rattle.co_tree.specs.Statements as tree
use Rattle.co_reader.specs.Reading.{sees_word}
use Rattle.co_reads.specs.Spells.{Spells}

-- The tokens spell a local, an expression or nothing, and the `;`, up to these, and it is formed.
pub record IsShort (C : List (List ℕ)) (ts : List Token) (i : ForInit) (left : List Token) : Type 0 where
  pub spelled : Spells (tree.for_head i) ts left
  pub formed : FormedForInit C i

-- The tokens spell the statement up to these, it is formed, and no `else` comes next that would belong to it.
pub record IsStatement (C : List (List ℕ)) (ts : List Token) (s : Statement) (left : List Token) : Type 0 where
  pub spelled : Spells (tree.statement s) ts left
  pub formed : FormedStatement C s
  pub no_else : ends_in_if s ≡ true → sees_word word.Else left ≡ false
