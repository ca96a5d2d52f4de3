-- Which statements the readers read by their first token alone.
use Rattle.std.proofs.Common.{◌≡◌, ℕ, Bool, false, List, Some, refl, sym, ◌∙◌}
use Rattle.co_base.specs.declared.span.Span.{Span}
use Rattle.co_lex.specs.declared.token.Token.{Token}
use Rattle.co_lex.specs.declared.token.Mark.TheVariants as mark
use Rattle.co_lex.specs.declared.token.Word.TheVariants as word
use Rattle.co_rules.specs.declared.symbol.Nonterminal.TheVariants as n
use Rattle.co_rules.specs.declared.symbol.Symbol.{Symbol}
use Rattle.co_rules.proofs.Sets.{never}
use Rattle.co_tree.specs.declared.expressions.Expression.{Expression}
use Rattle.co_tree.specs.declared.statements.Statement.{Statement}
use Rattle.co_reader.specs.declared.lead.Lead.{Lead}
use Rattle.co_reader.specs.declared.lead.Lead.TheVariants as l
use Rattle.co_reader.specs.Reading.{Reader, and_then, lead, place, sees, sees_word, is_mark, is_word}
use Rattle.co_statements.specs.Statements.{statement_of, short, jump_by, jump, statement_by, statement_level}
use Rattle.co_reads.proofs.Cases.{Among}
use Rattle.co_reads.proofs.Steps.{unseen, unseen_word, BeginNot, BeginNotWord}
use Rattle.co_reads_statements.proofs.Shorts.{after_semicolon}

-- neither a block nor a word that only statements begin with comes next
pub record NoWord (k : Lead) : Type 0 where
  pub brace : is_mark mark.OpenBrace k ≡ false
  pub no_try : is_word word.Try k ≡ false
  pub no_if : is_word word.If k ≡ false
  pub no_while : is_word word.While k ≡ false
  pub no_for : is_word word.For k ≡ false
  pub no_break : is_word word.Break k ≡ false
  pub no_continue : is_word word.Continue k ≡ false
  pub no_return : is_word word.Return k ≡ false
  pub no_co_return : is_word word.CoReturn k ≡ false

no_block : (class : List ℕ → Bool) (expression : ℕ → Reader Expression) (inside : Reader Statement) (at : Span) (k : Lead) (ts : List Token) → NoWord k → statement_by class expression inside at k ts ≡ jump class expression inside at ts
no_block class expression inside at (l.Mark mark.OpenBrace) ts h = never (sym h.brace)
no_block class expression inside at (l.Word word.Try) ts h = never (sym h.no_try)
no_block class expression inside at (l.Word word.If) ts h = never (sym h.no_if)
no_block class expression inside at (l.Word word.While) ts h = never (sym h.no_while)
no_block class expression inside at (l.Word word.For) ts h = never (sym h.no_for)
no_block class expression inside at k ts h = refl

no_jump : (class : List ℕ → Bool) (expression : ℕ → Reader Expression) (inside : Reader Statement) (at : Span) (k : Lead) (ts : List Token) → NoWord k
    → jump_by class expression inside at k ts ≡ and_then (short class expression ts) (λ i us. Some (statement_of at i, us))
no_jump class expression inside at (l.Word word.Break) ts h = never (sym h.no_break)
no_jump class expression inside at (l.Word word.Continue) ts h = never (sym h.no_continue)
no_jump class expression inside at (l.Word word.Return) ts h = never (sym h.no_return)
no_jump class expression inside at (l.Word word.CoReturn) ts h = never (sym h.no_co_return)
no_jump class expression inside at k ts h = refl

-- what begins with none of them is a local, an expression or a lone `;`
pub as_short : (class : List ℕ → Bool) (expression : ℕ → Reader Expression) (inside : Reader Statement) (ts : List Token) → NoWord (lead ts)
    → statement_level class expression inside ts ≡ and_then (short class expression ts) (λ i us. Some (statement_of (place ts) i, us))
unfolding statement_level jump
as_short class expression inside ts h = no_block class expression inside (place ts) (lead ts) ts h ∙ no_jump class expression inside (place ts) (lead ts) ts h

not_brace : BeginNot mark.OpenBrace (after_semicolon n.Statement)
not_brace = (refl, (refl, (refl, (refl, (refl, (refl, (refl, (refl, (refl, (refl, (refl, (refl, (refl, (refl, (refl, (refl, tt))))))))))))))))

not_try : BeginNotWord word.Try (after_semicolon n.Statement)
not_try = (refl, (refl, (refl, (refl, (refl, (refl, (refl, (refl, (refl, (refl, (refl, (refl, (refl, (refl, (refl, (refl, tt))))))))))))))))

not_if : BeginNotWord word.If (after_semicolon n.Statement)
not_if = (refl, (refl, (refl, (refl, (refl, (refl, (refl, (refl, (refl, (refl, (refl, (refl, (refl, (refl, (refl, (refl, tt))))))))))))))))

not_while : BeginNotWord word.While (after_semicolon n.Statement)
not_while = (refl, (refl, (refl, (refl, (refl, (refl, (refl, (refl, (refl, (refl, (refl, (refl, (refl, (refl, (refl, (refl, tt))))))))))))))))

not_for : BeginNotWord word.For (after_semicolon n.Statement)
not_for = (refl, (refl, (refl, (refl, (refl, (refl, (refl, (refl, (refl, (refl, (refl, (refl, (refl, (refl, (refl, (refl, tt))))))))))))))))

not_break : BeginNotWord word.Break (after_semicolon n.Statement)
not_break = (refl, (refl, (refl, (refl, (refl, (refl, (refl, (refl, (refl, (refl, (refl, (refl, (refl, (refl, (refl, (refl, tt))))))))))))))))

not_continue : BeginNotWord word.Continue (after_semicolon n.Statement)
not_continue = (refl, (refl, (refl, (refl, (refl, (refl, (refl, (refl, (refl, (refl, (refl, (refl, (refl, (refl, (refl, (refl, tt))))))))))))))))

not_return : BeginNotWord word.Return (after_semicolon n.Statement)
not_return = (refl, (refl, (refl, (refl, (refl, (refl, (refl, (refl, (refl, (refl, (refl, (refl, (refl, (refl, (refl, (refl, tt))))))))))))))))

not_co_return : BeginNotWord word.CoReturn (after_semicolon n.Statement)
not_co_return = (refl, (refl, (refl, (refl, (refl, (refl, (refl, (refl, (refl, (refl, (refl, (refl, (refl, (refl, (refl, (refl, tt))))))))))))))))

pub no_word : (C : List (List ℕ)) (R : List Symbol) (ts : List Token) → Among C R (after_semicolon n.Statement) ts → NoWord (lead ts)
unfolding sees sees_word
no_word C R ts h =
    record {
      brace = unseen C R ts mark.OpenBrace (after_semicolon n.Statement) not_brace h;
      no_try = unseen_word C R ts word.Try (after_semicolon n.Statement) not_try h;
      no_if = unseen_word C R ts word.If (after_semicolon n.Statement) not_if h;
      no_while = unseen_word C R ts word.While (after_semicolon n.Statement) not_while h;
      no_for = unseen_word C R ts word.For (after_semicolon n.Statement) not_for h;
      no_break = unseen_word C R ts word.Break (after_semicolon n.Statement) not_break h;
      no_continue = unseen_word C R ts word.Continue (after_semicolon n.Statement) not_continue h;
      no_return = unseen_word C R ts word.Return (after_semicolon n.Statement) not_return h;
      no_co_return = unseen_word C R ts word.CoReturn (after_semicolon n.Statement) not_co_return h;
    }
