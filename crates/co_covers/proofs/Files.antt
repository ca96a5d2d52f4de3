-- The rules derive a whole file.
use Rattle.std.proofs.Common.{◌≡◌, ℕ, List, [], ◌∷◌, map, refl, ap, ◌∙◌, sym, subst}
use Rattle.std.specs.List.{AllByRecursion}
use Rattle.co_lex.specs.declared.token.Token.{Token}
use Rattle.co_lex.specs.declared.token.TokenKind.TheVariants as kind
use Rattle.co_rules.specs.Terminal.{terminal_of, terminals}
use Rattle.co_rules.specs.Rule.{start}
use Rattle.co_rules.specs.declared.symbol.Nonterminal.TheVariants as n
use Rattle.co_rules.specs.declared.symbol.Symbol.{Symbol}
use Rattle.co_rules.specs.declared.symbol.Symbol.TheVariants.{One, Many}
use Rattle.co_rules.specs.declared.symbol.Terminal.{Terminal}
use Rattle.co_rules.specs.Derives.{Derives, nothing}
use Rattle.co_rules.specs.Pattern.{admits}
use Rattle.co_tree.specs.declared.declarations.Declaration.{Declaration}
use Rattle.co_tree.specs.declared.declarations.Declaration.TheVariants as declaration
use Rattle.co_tree.specs.FormedTree.{FormedDeclaration}
use Rattle.co_tree.specs.Piece.{line, token}
use Rattle.co_tree.specs.Declarations.{members, item, items, sentence_of}
use Rattle.co_tree.proofs.Tokens.{reads_tokens}
use Rattle.co_covers.specs.Laws.{RulesCover, EachTreeIsAFile}
use Rattle.co_covers.proofs.Seen.{seen, seen-kinds, both, by_token, enough}
use Rattle.co_covers.proofs.NoElse.{many}
use Rattle.co_covers.proofs.Types.{OfType, type_at}
use Rattle.co_covers.proofs.Classes.{OfClass, class_at, forward_at, alias_at}
use Rattle.co_covers.proofs.Fields.{global_name, field_at}
use Rattle.co_covers.proofs.Functions.{OfFunction, function_at}
use Rattle.co_covers.proofs.Members.{members_at}
use Rattle.co_covers.proofs.RulesOfDeclarations.{item-class_key, item-using, item-function_specifier, item-auto, item-const, item-built_in_type, item-std, item-class_name, item-other_name}

of_type : OfType n.Item (One n.GlobalName ∷ [])
of_type = record { const = item-const; base = record { built_in = item-built_in_type; library = item-std; path = record { class = item-class_name; outer = item-other_name } } }

of_class : OfClass n.Item
of_class = record { class = item-class_key; alias = item-using }

of_function : OfFunction n.Item n.FunctionName n.GlobalName
of_function = record { specifier = item-function_specifier; auto = item-auto; typed = λ C R t ts h d. type_at C n.Item (One n.GlobalName ∷ []) R of_type t ts h d }

item_at : {R : List Symbol} (C : List (List ℕ)) (d : Declaration) → FormedDeclaration C d → (ts : List Terminal) → Derives R ts → Derives (One n.Item ∷ R) (seen C (item d) ts)
item_at C (declaration.Class c) h ts d = class_at C of_class c.key c.name h.0 (members c.members) (members_at C c.members h.1) ts d
item_at C (declaration.Forward f) h ts d = forward_at C of_class f h ts d
item_at C (declaration.Alias a) h ts d = alias_at C of_class a h ts d
item_at {R} C (declaration.Global v) h ts d = field_at C global_name (λ t us g e. type_at C n.Item (One n.GlobalName ∷ []) R of_type t us g e) v h ts d
item_at C (declaration.Function f) h ts d = function_at C of_function f h ts d

items_at : {R : List Symbol} (C : List (List ℕ)) (ds : List Declaration) → AllByRecursion (FormedDeclaration C) ds → (ts : List Terminal) → Derives R ts → Derives (Many n.Item ∷ R) (seen C (items ds) ts)
items_at C [] h ts d = enough d
items_at C (x ∷ xs) h ts d = many (both C (item x) (items xs) ts (item_at C x h.0 (seen C (items xs) ts) (items_at C xs h.1 ts d)))

pub rules_cover : RulesCover
unfolding admits
rules_cover C tree h =
    let end = line ∷ token kind.End ∷ [] in
    subst (λ us. Derives start us) (seen-kinds C (sentence_of tree)) (both C (items tree.declarations) end [] (items_at C tree.declarations h (seen C end []) (by_token refl nothing)))

-- the terminals of a list of tokens are those of their kinds
terminals-kinds : (C : List (List ℕ)) (ts : List Token) → map (terminal_of C) (map (λ t. t.kind) ts) ≡ terminals C ts
terminals-kinds C [] = refl
terminals-kinds C (t ∷ ts) = ap (λ us. terminal_of C t.kind ∷ us) (terminals-kinds C ts)

pub each_tree_is_a_file : EachTreeIsAFile
each_tree_is_a_file C tree tokens h =
    subst (λ us. Derives start us) (sym (ap (map (terminal_of C)) (reads_tokens tree tokens h.reads)) ∙ terminals-kinds C tokens) (rules_cover C tree h.formed)
