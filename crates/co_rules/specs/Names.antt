-- The names that the grammar spells, and the names of classes.
use Rattle.std.specs.Prelude.{◌≡◌, ℕ, Bool, true, false, ◌||◌, if◌then◌else◌, List, [], ◌∷◌, ◌++◌, map}
use Rattle.std.specs.List.{list_any}
use Rattle.std.specs.BTreeSet.{contains_by}
use Rattle.std.specs.Cmp.Lexicographic.{slice_cmp}
use Rattle.std.specs.Ordering.{nat_cmp}
use Rattle.std.specs.Str.{bytes_eq}
use Rattle.co_lex.specs.declared.token.Token.{Token}
use Rattle.co_lex.specs.declared.token.TokenKind.{TokenKind}
use Rattle.co_lex.specs.declared.token.TokenKind.TheVariants as kind
use Rattle.co_lex.specs.declared.token.Word.TheVariants as word
use Rattle.co_rules.specs.declared.names.ClassNames.{ClassNames}
use Rattle.co_rules.specs.declared.names.TheConstants.{SPELLINGS}
use Rattle.co_rules.specs.declared.symbol.Known.{Known}
use Rattle.co_rules.specs.declared.symbol.Known.TheVariants.{Other}
use Rattle.co_rules.specs.Pattern.{is_plain}

abbrev pub lookup : List (List ℕ × Known) → List ℕ → Known
lookup [] name = Other
lookup (w ∷ ws) name = if bytes_eq w.0 name then w.1 else lookup ws name

-- which of the names that the grammar spells this one is
unfoldable pub known : List ℕ → Known
known = lookup (map (λ k. (k.0.now, k.1)) SPELLINGS)

-- whether a name right after this token is that of a class
abbrev pub introduces : TokenKind → Bool
introduces (kind.Word word.Struct) = true
introduces (kind.Word word.Class) = true
introduces (kind.Word word.Using) = true
introduces _ = false

-- the name of a class that the token is, if it stands where one is named; `std` and `corun` are none
abbrev pub named : Bool → TokenKind → List (List ℕ)
named true (kind.Name text) = if is_plain (known text) then text ∷ [] else []
named _ _ = []

abbrev pub classes_from : Bool → List Token → List (List ℕ)
classes_from is_named [] = []
classes_from is_named (t ∷ ts) = named is_named t.kind ++ classes_from (introduces t.kind) ts

-- The names that stand right after `struct`, `class` or `using`: a name is of a class exactly where it is one of these.
abbrev pub classes : List Token → List (List ℕ)
classes tokens = classes_from false tokens

abbrev pub is_class : List (List ℕ) → List ℕ → Bool
is_class names name = list_any (λ c. bytes_eq name c) names

abbrev pub has_some : {A : Type 0} → List A → Bool
has_some [] = false
has_some (x ∷ xs) = true

-- whether the code's list holds a name
abbrev pub holds : ClassNames → List ℕ → Bool
holds c name = contains_by (λ k. slice_cmp nat_cmp name k.items) c.names

abbrev pub Gains : ClassNames → List ℕ → ClassNames → Type 0
Gains c name after = ((q : List ℕ) → holds after q ≡ (bytes_eq q name || holds c q)) × (after.has_some ≡ true)

abbrev pub GainsAll : ClassNames → List (List ℕ) → ClassNames → Type 0
GainsAll c names after = ((q : List ℕ) → holds after q ≡ (is_class names q || holds c q)) × (after.has_some ≡ (has_some names || c.has_some))

-- the code's list is these names
abbrev pub Knows : ClassNames → List (List ℕ) → Type 0
Knows c names = ((q : List ℕ) → holds c q ≡ is_class names q) × (c.has_some ≡ has_some names)
