-- Aliases and access specifiers where the rules read them.
use Rattle.std.proofs.Common.{ℕ, List, [], ◌∷◌, ◌++◌, refl}
use Rattle.co_base.specs.declared.span.Span.{Span}
use Rattle.co_lex.specs.declared.token.Token.{Token}
use Rattle.co_lex.specs.declared.token.TokenKind.TheVariants as kind
use Rattle.co_lex.specs.declared.token.Mark.TheVariants as mark
use Rattle.co_lex.specs.declared.token.Word.TheVariants as word
use Rattle.co_rules.specs.declared.symbol.Nonterminal.TheVariants as n
use Rattle.co_rules.specs.declared.symbol.Pattern.TheVariants as pattern
use Rattle.co_rules.specs.declared.symbol.Symbol.{Symbol}
use Rattle.co_rules.specs.declared.symbol.Symbol.TheVariants.{Token as Terminal, One}
use Rattle.co_rules.specs.Names.{is_class}
use Rattle.co_tree.specs.Piece.{m, name}
use Rattle.co_tree.specs.Types as tree_type
use Rattle.co_tree.specs.Declarations as tree
use Rattle.co_tree.specs.FormedTree.{FormedAlias}
use Rattle.co_parse.specs.Declarations.{alias}
use Rattle.co_reads.specs.Runs.{Runs}
use Rattle.co_reads.specs.Spells.{Spells}
use Rattle.co_reads.specs.Takes.{Takes}
use Rattle.co_reads.proofs.Spells.{spells_append}
use Rattle.co_reads.proofs.TypeIds.{type_taken}
use Rattle.co_reads.proofs.Steps.{expected, taken_name}

-- what is read after `using`
abbrev pub AliasTaken : List (List ℕ) → Span → List Symbol → Token → List Token → Type 0
AliasTaken C at R t ts = Takes (alias (is_class C) at) (λ a left. Spells (tree.alias a) (t ∷ ts) left × FormedAlias C a) C R ts

pub alias_taken : (C : List (List ℕ)) (R : List Symbol) (at : Span) (ts : List Token) → Runs C (Terminal pattern.Name ∷ Terminal (pattern.Punctuator mark.Assign) ∷ One n.TypeId ∷ Terminal (pattern.Punctuator mark.Semicolon) ∷ R) ts
    → AliasTaken C at R (record { kind = kind.Word word.Using; span = at }) ts
unfolding alias
alias_taken C R at ts h =
    let x = taken_name h in
    let a = expected mark.Assign x.runs in
    let t = type_taken a.runs in
    let c = expected mark.Semicolon t.runs in
    let tail = tree_type.type_id t.part ++ m mark.Semicolon ∷ [] in
    record {
      part = record { name = x.part; of = t.part; span = at };
      left = c.left;
      read = rw (x.read, a.read, t.read, c.read);
      is = (
        (refl, (refl, spells_append (name x.part ∷ []) (m mark.Assign ∷ tail) ts x.left c.left x.is.0 (spells_append (m mark.Assign ∷ []) tail x.left a.left c.left a.is (spells_append (tree_type.type_id t.part) (m mark.Semicolon ∷ []) a.left t.left c.left t.is.0 c.is)))),
        (x.is.1, t.is.1),
      );
      runs = c.runs;
    }
