-- The rules derive the blocks of functions.
use Rattle.std.proofs.Common.{ℕ, List, [], ◌∷◌, ◌++◌, refl}
use Rattle.std.specs.List.{AllByRecursion}
use Rattle.co_lex.specs.declared.token.TokenKind.TheVariants as kind
use Rattle.co_lex.specs.declared.token.Mark.TheVariants as mark
use Rattle.co_lex.specs.declared.token.Word.TheVariants as word
use Rattle.co_rules.specs.Terminal.{terminal_of}
use Rattle.co_rules.specs.declared.symbol.Nonterminal.{Nonterminal}
use Rattle.co_rules.specs.declared.symbol.Nonterminal.TheVariants as n
use Rattle.co_rules.specs.declared.symbol.Pattern.TheVariants as pattern
use Rattle.co_rules.specs.declared.symbol.Symbol.{Symbol}
use Rattle.co_rules.specs.declared.symbol.Symbol.TheVariants.{Token, One, Many, Close}
use Rattle.co_rules.specs.declared.symbol.Terminal.{Terminal}
use Rattle.co_rules.specs.Derives.{Begins, Derives, NoneNext}
use Rattle.co_rules.specs.Pattern.{admits}
use Rattle.co_tree.specs.declared.statements.Block.{Block}
use Rattle.co_tree.specs.declared.statements.Statement.{Statement}
use Rattle.co_tree.specs.FormedTree.{FormedStatement, FormedBlock}
use Rattle.co_tree.specs.Piece.{leave, m}
use Rattle.co_tree.specs.Statements.{statement, statements, block}
use Rattle.co_covers.proofs.Seen.{seen, both, by_token, go, enough, shut}
use Rattle.co_covers.proofs.NoElse.{no_else, many}
use Rattle.co_covers.proofs.Statements.{statement_at}
use Rattle.co_covers.proofs.RulesOfStatements.{block-brace}

statements_at : (C : List (List ℕ)) (ss : List Statement) → AllByRecursion (FormedStatement C) ss → (R : List Symbol) (ts : List Terminal) → NoneNext (pattern.Keyword word.Else) ts → Derives R ts → Derives (Many n.Statement ∷ R) (seen C (statements ss) ts) × NoneNext (pattern.Keyword word.Else) (seen C (statements ss) ts)
statements_at C [] h R ts f d = (enough d, f)
statements_at C (s ∷ ss) h R ts f d =
    let later = statements_at C ss h.1 R ts f d in
    let z : Derives (One n.Statement ∷ Many n.Statement ∷ R) (seen C (statement s ++ statements ss) ts) = both C (statement s) (statements ss) ts (statement_at C s h.0 (Many n.Statement ∷ R) (seen C (statements ss) ts) (λ x. later.1) later.0) in
    (many z, no_else z)

-- a block, where the nonterminal has the rule of one
pub braced : {N : Nonterminal} {R : List Symbol} (C : List (List ℕ)) (b : Block) → FormedBlock C b → (ts : List Terminal) → Begins N (terminal_of C (kind.Mark mark.OpenBrace)) (Many n.Statement ∷ Token (pattern.Punctuator mark.CloseBrace) ∷ Close ∷ []) → Derives R ts → Derives (One N ∷ R) (seen C (block b) ts)
unfolding admits
braced {N} {R} C b h ts g d =
    let end = m mark.CloseBrace ∷ leave ∷ [] in
    go g (both C (statements b.statements) end ts ((statements_at C b.statements h (Token (pattern.Punctuator mark.CloseBrace) ∷ Close ∷ R) (seen C end ts) refl (by_token refl (shut d))).0))

pub block_at : {R : List Symbol} (C : List (List ℕ)) (b : Block) → FormedBlock C b → (ts : List Terminal) → Derives R ts → Derives (One n.Block ∷ R) (seen C (block b) ts)
unfolding admits
block_at C b h ts d = braced C b h ts (block-brace (terminal_of C (kind.Mark mark.OpenBrace)) refl) d
