-- The rules derive the initializers of globals and of the data members of a class.
use Rattle.std.proofs.Common.{◌≡◌, ℕ, true, List, [], ◌∷◌, ◌++◌, refl}
use Rattle.co_lex.specs.declared.token.TokenKind.TheVariants as kind
use Rattle.co_lex.specs.declared.token.Mark.TheVariants as mark
use Rattle.co_rules.specs.Terminal.{terminal_of}
use Rattle.co_rules.specs.declared.symbol.Nonterminal.{Nonterminal}
use Rattle.co_rules.specs.declared.symbol.Nonterminal.TheVariants as n
use Rattle.co_rules.specs.declared.symbol.Pattern.TheVariants as pattern
use Rattle.co_rules.specs.declared.symbol.Symbol.{Symbol}
use Rattle.co_rules.specs.declared.symbol.Symbol.TheVariants.{Token, One, Maybe, Close}
use Rattle.co_rules.specs.declared.symbol.Terminal.{Terminal}
use Rattle.co_rules.specs.Derives.{Begins, Derives}
use Rattle.co_rules.specs.Pattern.{admits}
use Rattle.co_tree.specs.declared.statements.Initializer.{Initializer}
use Rattle.co_tree.specs.declared.statements.Initializer.TheVariants as init
use Rattle.co_tree.specs.declared.statements.Variable.{Variable}
use Rattle.co_tree.specs.declared.types.TypeId.{TypeId}
use Rattle.co_tree.specs.Formed.{PlainType}
use Rattle.co_tree.specs.FormedTree.{FieldInitializer, FormedField}
use Rattle.co_tree.specs.Piece.{leave, m, name, rule}
use Rattle.co_tree.specs.Types.{type_id}
use Rattle.co_tree.specs.Sentence.{arguments, expression}
use Rattle.co_tree.specs.Statements.{initializer, variable}
use Rattle.co_covers.proofs.Names as names_of
use Rattle.co_covers.proofs.Seen.{seen, both, by_token, go}
use Rattle.co_covers.proofs.Expressions.{covered, full}
use Rattle.co_covers.proofs.Locals.{list_inside}
use Rattle.co_covers.proofs.RulesOfDeclarations.{global_name-name, global_rest-assign, global_rest-brace, global_rest-semicolon, field_name-name, field_rest-assign, field_rest-brace, field_rest-semicolon}

-- A nonterminal that a field's name begins, and what follows the name.
pub record OfField (N M : Nonterminal) : Type 0 where
  pub name : (t : Terminal) → admits pattern.Name t ≡ true → Begins N t (One M ∷ [])
  pub assign : (t : Terminal) → admits (pattern.Punctuator mark.Assign) t ≡ true → Begins M t (One n.Expression ∷ Token (pattern.Punctuator mark.Semicolon) ∷ [])
  pub brace : (t : Terminal) → admits (pattern.Punctuator mark.OpenBrace) t ≡ true → Begins M t (Maybe n.Arguments ∷ Token (pattern.Punctuator mark.CloseBrace) ∷ Close ∷ Token (pattern.Punctuator mark.Semicolon) ∷ [])
  pub semicolon : (t : Terminal) → admits (pattern.Punctuator mark.Semicolon) t ≡ true → Begins M t []

pub global_name : OfField n.GlobalName n.GlobalRest
global_name = record { name = global_name-name; assign = global_rest-assign; brace = global_rest-brace; semicolon = global_rest-semicolon }

pub field_name : OfField n.FieldName n.FieldRest
field_name = record { name = field_name-name; assign = field_rest-assign; brace = field_rest-brace; semicolon = field_rest-semicolon }

field_initializer_at : {N M : Nonterminal} {R : List Symbol} (C : List (List ℕ)) → OfField N M → (i : Initializer) → FieldInitializer C i → (ts : List Terminal) → Derives R ts → Derives (One M ∷ R) (seen C (initializer i ++ m mark.Semicolon ∷ []) ts)
unfolding admits
field_initializer_at C o init.None h ts d = go (o.semicolon (terminal_of C (kind.Mark mark.Semicolon)) refl) d
field_initializer_at {N} {M} {R} C o (init.Equals e) h ts d =
    let semicolon = m mark.Semicolon ∷ [] in
    go (o.assign (terminal_of C (kind.Mark mark.Assign)) refl) (both C (rule (expression e)) semicolon ts (full C e (covered C e h) (Token (pattern.Punctuator mark.Semicolon) ∷ R) (seen C semicolon ts) refl (by_token refl d)))
field_initializer_at C o (init.EqualsBraces es) h ts d = absurd h
field_initializer_at C o (init.Parentheses es) h ts d = absurd h
field_initializer_at C o (init.Braces es) h ts d =
    let semicolon = m mark.Semicolon ∷ [] in
    go (o.brace (terminal_of C (kind.Mark mark.OpenBrace)) refl) (both C (arguments es ++ m mark.CloseBrace ∷ leave ∷ []) semicolon ts (list_inside C es h mark.CloseBrace (seen C semicolon ts) refl refl (by_token refl d)))

-- a field, where the type is followed by a field's name
pub field_at : {N M K : Nonterminal} {R : List Symbol} (C : List (List ℕ)) → OfField N M → ((of : TypeId) (us : List Terminal) → PlainType C of → Derives (One N ∷ R) us → Derives (One K ∷ R) (seen C (type_id of) us)) → (v : Variable) → FormedField C v → (ts : List Terminal) → Derives R ts → Derives (One K ∷ R) (seen C (variable v) ts)
field_at C o typed v h ts d =
    let later = name v.name ∷ (initializer v.initializer ++ m mark.Semicolon ∷ []) in
    both C (type_id v.of) later ts (typed v.of (seen C later ts) h.0 (go (o.name (terminal_of C (kind.Name v.name)) (names_of.name C v.name h.1)) (field_initializer_at C o v.initializer h.2 ts d)))
