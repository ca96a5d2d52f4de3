-- The rules derive constructors and destructors.
use Rattle.std.proofs.Common.{◌≡◌, ℕ, Bool, true, false, List, [], ◌∷◌, ◌++◌, refl}
use Rattle.std.specs.List.{AllByRecursion}
use Rattle.co_lex.specs.declared.token.TokenKind.TheVariants as kind
use Rattle.co_lex.specs.declared.token.Mark.TheVariants as mark
use Rattle.co_lex.specs.declared.token.Word.TheVariants as word
use Rattle.co_rules.specs.Terminal.{terminal_of}
use Rattle.co_rules.specs.Names.{is_class}
use Rattle.co_rules.specs.declared.symbol.Nonterminal.{Nonterminal}
use Rattle.co_rules.specs.declared.symbol.Nonterminal.TheVariants as n
use Rattle.co_rules.specs.declared.symbol.Pattern.TheVariants as pattern
use Rattle.co_rules.specs.declared.symbol.Symbol.{Symbol}
use Rattle.co_rules.specs.declared.symbol.Symbol.TheVariants.{Token, One, Maybe, Many, Close}
use Rattle.co_rules.specs.declared.symbol.Terminal.{Terminal}
use Rattle.co_rules.specs.Derives.{Begins, Derives}
use Rattle.co_rules.specs.Pattern.{admits}
use Rattle.co_tree.specs.declared.declarations.MemberInitializer.{MemberInitializer}
use Rattle.co_tree.specs.declared.declarations.ConstructorBody.{ConstructorBody}
use Rattle.co_tree.specs.declared.declarations.ConstructorBody.TheVariants as constructor_body
use Rattle.co_tree.specs.declared.declarations.Constructor.{Constructor}
use Rattle.co_tree.specs.declared.declarations.DestructorBody.{DestructorBody}
use Rattle.co_tree.specs.declared.declarations.DestructorBody.TheVariants as destructor_body
use Rattle.co_tree.specs.declared.declarations.Destructor.{Destructor}
use Rattle.co_tree.specs.declared.expressions.Brackets.{Brackets}
use Rattle.co_tree.specs.declared.expressions.Brackets.TheVariants.{Parentheses, Braces}
use Rattle.co_tree.specs.declared.expressions.Expression.{Expression}
use Rattle.co_tree.specs.Formed.{IsName, FormedAll}
use Rattle.co_tree.specs.FormedTree.{FormedMemberInitializer, FormedConstructorBody, FormedConstructor, FormedDestructorBody, FormedDestructor}
use Rattle.co_tree.specs.Piece.{Piece, w, name, if_said, in_parentheses}
use Rattle.co_tree.specs.Sentence.{arguments, in_brackets}
use Rattle.co_tree.specs.Statements.{block}
use Rattle.co_tree.specs.Declarations.{parameters, member_initializer, member_initializers_after, constructor_end, constructor, destructor_end, destructor}
use Rattle.co_covers.proofs.Names as names_of
use Rattle.co_covers.proofs.Seen.{seen, both, by_token, go, again, enough, shut}
use Rattle.co_covers.proofs.Operands.{OfBrackets, built}
use Rattle.co_covers.proofs.Locals.{list_inside}
use Rattle.co_covers.proofs.Blocks.{braced, block_at}
use Rattle.co_covers.proofs.Functions.{parameters_in, noexcept_at}
use Rattle.co_covers.proofs.RulesOfDeclarations.{member-explicit, member-tilde, member-class_name, member-other_name, member_of_class-paren, member_of_other-paren, constructor_rest-paren, constructor_body-colon, constructor_body-brace, constructor_body-assign, defaulted-default, defaulted-delete, initializer-name, next_initializer-comma, no_parameters-paren, destructor_body-brace, destructor_body-assign}

-- ---- initializers of members

arguments_in : {N : Nonterminal} {R : List Symbol} (C : List (List ℕ)) → OfBrackets N → (how : Brackets) (es : List Expression) → FormedAll C es → (ts : List Terminal) → Derives R ts → Derives (One N ∷ R) (seen C (in_brackets how (arguments es)) ts)
unfolding admits
arguments_in C o Parentheses es h ts d = go (o.paren (terminal_of C (kind.Mark mark.OpenParen)) refl) (list_inside C es h mark.CloseParen ts refl refl d)
arguments_in C o Braces es h ts d = go (o.brace (terminal_of C (kind.Mark mark.OpenBrace)) refl) (list_inside C es h mark.CloseBrace ts refl refl d)

member_initializer_at : {R : List Symbol} (C : List (List ℕ)) (i : MemberInitializer) → FormedMemberInitializer C i → (ts : List Terminal) → Derives R ts → Derives (One n.Initializer ∷ R) (seen C (member_initializer i) ts)
member_initializer_at C i h ts d = go (initializer-name (terminal_of C (kind.Name i.name)) (names_of.name C i.name h.0)) (arguments_in C built i.brackets i.arguments h.1 ts d)

member_initializers_behind : {R : List Symbol} (C : List (List ℕ)) (is : List MemberInitializer) → AllByRecursion (FormedMemberInitializer C) is → (ts : List Terminal) → Derives R ts → Derives (Many n.NextInitializer ∷ R) (seen C (member_initializers_after is) ts)
unfolding admits
member_initializers_behind C [] h ts d = enough d
member_initializers_behind C (i ∷ is) h ts d =
    let later = member_initializers_after is in
    again (next_initializer-comma (terminal_of C (kind.Mark mark.Comma)) refl) (both C (member_initializer i) later ts (member_initializer_at C i h.0 (seen C later ts) (member_initializers_behind C is h.1 ts d)))

-- ---- what follows the parameters

constructor_body_at : {R : List Symbol} (C : List (List ℕ)) (b : ConstructorBody) → FormedConstructorBody C b → (ts : List Terminal) → Derives R ts → Derives (One n.ConstructorBody ∷ R) (seen C (constructor_end b) ts)
unfolding admits
constructor_body_at C (constructor_body.Block [] b) h ts d = braced C b h.1 ts (constructor_body-brace (terminal_of C (kind.Mark mark.OpenBrace)) refl) d
constructor_body_at C (constructor_body.Block (i ∷ is) b) h ts d =
    let later = member_initializers_after is in
    go (constructor_body-colon (terminal_of C (kind.Mark mark.Colon)) refl) (both C (member_initializer i ++ later) (block b) ts (both C (member_initializer i) later (seen C (block b) ts) (member_initializer_at C i h.0.0 (seen C later (seen C (block b) ts)) (member_initializers_behind C is h.0.1 (seen C (block b) ts) (block_at C b h.1 ts d)))))
constructor_body_at C constructor_body.Default h ts d = go (constructor_body-assign (terminal_of C (kind.Mark mark.Assign)) refl) (go (defaulted-default (terminal_of C (kind.Word word.Default)) refl) (by_token refl d))
constructor_body_at C constructor_body.Delete h ts d = go (constructor_body-assign (terminal_of C (kind.Mark mark.Assign)) refl) (go (defaulted-delete (terminal_of C (kind.Word word.Delete)) refl) (by_token refl d))

destructor_body_at : {R : List Symbol} (C : List (List ℕ)) (b : DestructorBody) → FormedDestructorBody C b → (ts : List Terminal) → Derives R ts → Derives (One n.DestructorBody ∷ R) (seen C (destructor_end b) ts)
unfolding admits
destructor_body_at C (destructor_body.Block b) h ts d = braced C b h ts (destructor_body-brace (terminal_of C (kind.Mark mark.OpenBrace)) refl) d
destructor_body_at C destructor_body.Default h ts d = go (destructor_body-assign (terminal_of C (kind.Mark mark.Assign)) refl) (by_token refl (by_token refl d))

-- ---- constructors

-- what follows the name of a constructor
abbrev constructor_rest : Constructor → List Piece
constructor_rest c = in_parentheses (parameters c.parameters) ++ (if_said c.is_noexcept (w word.Noexcept) ++ constructor_end c.body)

constructor_rest_at : {N : Nonterminal} {R : List Symbol} (C : List (List ℕ)) → Begins N (terminal_of C (kind.Mark mark.OpenParen)) (Maybe n.Parameters ∷ Token (pattern.Punctuator mark.CloseParen) ∷ Close ∷ Maybe n.Noexcept ∷ One n.ConstructorBody ∷ []) → (c : Constructor) → FormedConstructor C c → (ts : List Terminal) → Derives R ts → Derives (One N ∷ R) (seen C (constructor_rest c) ts)
constructor_rest_at C b c h ts d =
    let body = constructor_end c.body in
    let later = if_said c.is_noexcept (w word.Noexcept) ++ body in
    both C (in_parentheses (parameters c.parameters)) later ts (parameters_in C c.parameters h.1 (seen C later ts) b (both C (if_said c.is_noexcept (w word.Noexcept)) body ts (noexcept_at C c.is_noexcept (seen C body ts) (constructor_body_at C c.body h.2 ts d))))

-- the name of a class, or another name: a `(` follows either
constructor_named : {R : List Symbol} (C : List (List ℕ)) (x : List ℕ) → IsName x → (b : Bool) → is_class C x ≡ b → (ts : List Terminal) → Derives (One n.MemberOfClass ∷ R) ts → Derives (One n.MemberOfOther ∷ R) ts → Derives (One n.Member ∷ R) (terminal_of C (kind.Name x) ∷ ts)
constructor_named C x h true e ts d f = go (member-class_name (terminal_of C (kind.Name x)) (names_of.class_name C x h e)) d
constructor_named C x h false e ts d f = go (member-other_name (terminal_of C (kind.Name x)) (names_of.other_name C x h e)) f

constructor_led : {R : List Symbol} (C : List (List ℕ)) (is_explicit : Bool) (c : Constructor) → FormedConstructor C c → (ts : List Terminal) → Derives R ts → Derives (One n.Member ∷ R) (seen C (if_said is_explicit (w word.Explicit) ++ name c.name ∷ constructor_rest c) ts)
unfolding admits
constructor_led C true c h ts d =
    go (member-explicit (terminal_of C (kind.Word word.Explicit)) refl) (by_token (names_of.name C c.name h.0) (constructor_rest_at C (constructor_rest-paren (terminal_of C (kind.Mark mark.OpenParen)) refl) c h ts d))
constructor_led C false c h ts d =
    constructor_named C c.name h.0 (is_class C c.name) refl (seen C (constructor_rest c) ts) (constructor_rest_at C (member_of_class-paren (terminal_of C (kind.Mark mark.OpenParen)) refl) c h ts d) (constructor_rest_at C (member_of_other-paren (terminal_of C (kind.Mark mark.OpenParen)) refl) c h ts d)

pub constructor_at : {R : List Symbol} (C : List (List ℕ)) (c : Constructor) → FormedConstructor C c → (ts : List Terminal) → Derives R ts → Derives (One n.Member ∷ R) (seen C (constructor c) ts)
constructor_at C c h ts d = constructor_led C c.is_explicit c h ts d

-- ---- destructors

pub destructor_at : {R : List Symbol} (C : List (List ℕ)) (x : Destructor) → FormedDestructor C x → (ts : List Terminal) → Derives R ts → Derives (One n.Member ∷ R) (seen C (destructor x) ts)
unfolding admits
destructor_at C x h ts d =
    let body = destructor_end x.body in
    go (member-tilde (terminal_of C (kind.Mark mark.Tilde)) refl) (by_token (names_of.name C x.name h.0) (go (no_parameters-paren (terminal_of C (kind.Mark mark.OpenParen)) refl) (by_token refl (shut (both C (if_said x.is_noexcept (w word.Noexcept)) body ts (noexcept_at C x.is_noexcept (seen C body ts) (destructor_body_at C x.body h.1 ts d)))))))
