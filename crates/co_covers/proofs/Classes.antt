-- The rules derive classes, declarations of classes and aliases.
use Rattle.std.proofs.Common.{◌≡◌, ℕ, true, List, [], ◌∷◌, ◌++◌, refl}
use Rattle.co_lex.specs.declared.token.TokenKind.TheVariants as kind
use Rattle.co_lex.specs.declared.token.Mark.TheVariants as mark
use Rattle.co_lex.specs.declared.token.Word.TheVariants as word
use Rattle.co_rules.specs.Terminal.{terminal_of}
use Rattle.co_rules.specs.declared.symbol.Nonterminal.{Nonterminal}
use Rattle.co_rules.specs.declared.symbol.Nonterminal.TheVariants as n
use Rattle.co_rules.specs.declared.symbol.Pattern.TheVariants as pattern
use Rattle.co_rules.specs.declared.symbol.Symbol.{Symbol}
use Rattle.co_rules.specs.declared.symbol.Symbol.TheVariants.{Token, One, Many, Close}
use Rattle.co_rules.specs.declared.symbol.Terminal.{Terminal}
use Rattle.co_rules.specs.Derives.{Begins, Derives}
use Rattle.co_rules.specs.Pattern.{admits}
use Rattle.co_tree.specs.declared.declarations.ClassKey.{ClassKey}
use Rattle.co_tree.specs.declared.declarations.ClassKey.TheVariants as key
use Rattle.co_tree.specs.declared.declarations.ForwardDeclaration.{ForwardDeclaration}
use Rattle.co_tree.specs.declared.declarations.AliasDeclaration.{AliasDeclaration}
use Rattle.co_tree.specs.Formed.{IsName}
use Rattle.co_tree.specs.FormedTree.{FormedForward, FormedAlias}
use Rattle.co_tree.specs.Piece.{Piece, leave, w, m, name, in_braces}
use Rattle.co_tree.specs.Types.{type_id}
use Rattle.co_tree.specs.Declarations.{key_word, forward, alias}
use Rattle.co_covers.proofs.Names as names_of
use Rattle.co_covers.proofs.Seen.{seen, both, by_token, go, shut}
use Rattle.co_covers.proofs.Types.{type_at, type_id_of}
use Rattle.co_covers.proofs.RulesOfDeclarations.{class_rest-semicolon, class_rest-brace}

-- A nonterminal that a class or an alias begins.
pub record OfClass (N : Nonterminal) : Type 0 where
  pub class : (t : Terminal) → admits pattern.ClassKey t ≡ true → Begins N t (Token pattern.Name ∷ One n.ClassRest ∷ [])
  pub alias : (t : Terminal) → admits (pattern.Keyword word.Using) t ≡ true → Begins N t (Token pattern.Name ∷ Token (pattern.Punctuator mark.Assign) ∷ One n.TypeId ∷ Token (pattern.Punctuator mark.Semicolon) ∷ [])

is_class_key : (C : List (List ℕ)) (k : ClassKey) → admits pattern.ClassKey (terminal_of C (kind.Word (key_word k))) ≡ true
unfolding admits
is_class_key C key.Struct = refl
is_class_key C key.Class = refl

-- the pieces of the members, by what the rules derive before any others
abbrev pub AreMembers : List (List ℕ) → List Piece → Type 0
AreMembers C pieces = (R : List Symbol) (ts : List Terminal) → Derives R ts → Derives (Many n.Member ∷ R) (seen C pieces ts)

pub class_at : {N : Nonterminal} {R : List Symbol} (C : List (List ℕ)) → OfClass N → (k : ClassKey) (x : List ℕ) → IsName x → (pieces : List Piece) → AreMembers C pieces → (ts : List Terminal) → Derives R ts → Derives (One N ∷ R) (seen C (w (key_word k) ∷ name x ∷ (in_braces pieces ++ m mark.Semicolon ∷ [])) ts)
unfolding admits
class_at {N} {R} C o k x h pieces p ts d =
    let end = m mark.CloseBrace ∷ leave ∷ [] in
    let semicolon = m mark.Semicolon ∷ [] in
    go (o.class (terminal_of C (kind.Word (key_word k))) (is_class_key C k)) (by_token (names_of.name C x h) (go (class_rest-brace (terminal_of C (kind.Mark mark.OpenBrace)) refl) (both C (pieces ++ end) semicolon ts (both C pieces end (seen C semicolon ts) (p (Token (pattern.Punctuator mark.CloseBrace) ∷ Close ∷ Token (pattern.Punctuator mark.Semicolon) ∷ R) (seen C end (seen C semicolon ts)) (by_token refl (shut (by_token refl d))))))))

pub forward_at : {N : Nonterminal} {R : List Symbol} (C : List (List ℕ)) → OfClass N → (f : ForwardDeclaration) → FormedForward f → (ts : List Terminal) → Derives R ts → Derives (One N ∷ R) (seen C (forward f) ts)
unfolding admits
forward_at C o f h ts d = go (o.class (terminal_of C (kind.Word (key_word f.key))) (is_class_key C f.key)) (by_token (names_of.name C f.name h) (go (class_rest-semicolon (terminal_of C (kind.Mark mark.Semicolon)) refl) d))

pub alias_at : {N : Nonterminal} {R : List Symbol} (C : List (List ℕ)) → OfClass N → (a : AliasDeclaration) → FormedAlias C a → (ts : List Terminal) → Derives R ts → Derives (One N ∷ R) (seen C (alias a) ts)
unfolding admits
alias_at {N} {R} C o a h ts d =
    let semicolon = m mark.Semicolon ∷ [] in
    go (o.alias (terminal_of C (kind.Word word.Using)) refl) (by_token (names_of.name C a.name h.0) (by_token refl (both C (type_id a.of) semicolon ts (type_at C n.TypeId [] (Token (pattern.Punctuator mark.Semicolon) ∷ R) type_id_of a.of (seen C semicolon ts) h.1 (by_token refl d)))))
