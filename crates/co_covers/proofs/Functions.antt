-- The rules derive the functions of a file and the methods of a class.
use Rattle.std.proofs.Common.{◌≡◌, ℕ, Bool, true, false, List, [], ◌∷◌, ◌++◌, inl, inr, Option, None, Some, refl, sym, subst}
use Rattle.co_lex.specs.declared.token.TokenKind.TheVariants as kind
use Rattle.co_lex.specs.declared.token.Mark.TheVariants as mark
use Rattle.co_lex.specs.declared.token.Word.TheVariants as word
use Rattle.co_rules.specs.Terminal.{terminal_of}
use Rattle.co_rules.specs.declared.symbol.Nonterminal.{Nonterminal}
use Rattle.co_rules.specs.declared.symbol.Nonterminal.TheVariants as n
use Rattle.co_rules.specs.declared.symbol.Pattern.TheVariants as pattern
use Rattle.co_rules.specs.declared.symbol.Symbol.{Symbol}
use Rattle.co_rules.specs.declared.symbol.Symbol.TheVariants.{Token, One, Maybe, Many, Close}
use Rattle.co_rules.specs.declared.symbol.Terminal.{Terminal}
use Rattle.co_rules.specs.Derives.{Begins, Derives}
use Rattle.co_rules.specs.Pattern.{admits}
use Rattle.co_tree.specs.declared.declarations.Parameter.{Parameter}
use Rattle.co_tree.specs.declared.declarations.FunctionSpecifier.{FunctionSpecifier}
use Rattle.co_tree.specs.declared.declarations.FunctionSpecifier.TheVariants as specifier
use Rattle.co_tree.specs.declared.declarations.FunctionName.{FunctionName}
use Rattle.co_tree.specs.declared.declarations.FunctionName.TheVariants as function_name
use Rattle.co_tree.specs.declared.declarations.Function.{Function}
use Rattle.co_tree.specs.declared.statements.Block.{Block}
use Rattle.co_tree.specs.declared.types.Reference.TheVariants as reference
use Rattle.co_tree.specs.declared.types.TypeId.{TypeId}
use Rattle.co_tree.specs.Formed.{PlainType, IsAuto, ResultType}
use Rattle.co_tree.specs.FormedTree.{FormedParameters, FormedBody, HasBody, FileName, MemberName, FormedFunction, FormedMethod}
use Rattle.co_tree.specs.Piece.{Piece, leave, w, m, if_said, in_parentheses}
use Rattle.co_tree.specs.Types.{simple_type, stars, reference_mark, type_id}
use Rattle.co_tree.specs.Declarations.{specifier_word, specifiers, function_named, parameters, block_or_semicolon, function}
use Rattle.co_covers.proofs.Names as names_of
use Rattle.co_covers.proofs.Seen.{seen, both, ruled, by_token, go, may, again, skip, enough, shut}
use Rattle.co_covers.proofs.Types.{OfType, type_at}
use Rattle.co_covers.proofs.Locals.{auto_parts}
use Rattle.co_covers.proofs.Parameters.{parameters_at}
use Rattle.co_covers.proofs.Blocks.{braced, block_at}
use Rattle.co_covers.proofs.RulesOfDeclarations.{specifier-function_specifier, result_type-auto, result_type-const, result_type-built_in_type, result_type-std, result_type-class_name, result_type-other_name, global_name-name, global_name-operator, global_rest-paren, function_name-name, function_name-operator, function_rest-paren, function_body-brace, function_body-semicolon, noexcept-noexcept, const-const, method_name-name, method_name-operator, method_rest-paren, field_name-name, field_name-operator, field_rest-paren}

-- ---- specifiers and results

is_specifier : (C : List (List ℕ)) (s : FunctionSpecifier) → admits pattern.FunctionSpecifier (terminal_of C (kind.Word (specifier_word s))) ≡ true
unfolding admits
is_specifier C specifier.Static = refl
is_specifier C specifier.Inline = refl

specifiers_at : {R : List Symbol} (C : List (List ℕ)) (ss : List FunctionSpecifier) (ts : List Terminal) → Derives R ts → Derives (Many n.Specifier ∷ R) (seen C (specifiers ss) ts)
specifiers_at C [] ts d = enough d
specifiers_at C (s ∷ ss) ts d = again (specifier-function_specifier (terminal_of C (kind.Word (specifier_word s))) (is_specifier C s)) (specifiers_at C ss ts d)

-- `auto` as the whole type
auto_at : {S : List Symbol} (C : List (List ℕ)) (t : TypeId) → IsAuto t → t.reference ≡ reference.None → (ts : List Terminal) → Derives S (terminal_of C (kind.Word word.Auto) ∷ ts) → Derives S (seen C (type_id t) ts)
auto_at {S} C t h e ts d =
    ruled C (if_said t.is_const (w word.Const) ++ (simple_type t.base ++ (if_said t.is_const_after (w word.Const) ++ (stars t.pointers ++ reference_mark t.reference)))) ts (auto_parts C t.base.span t.is_const t.is_const_after t.base.kind t.pointers t.reference ts h.base h.before h.after h.pointers (subst (λ r. Derives S (seen C (w word.Auto ∷ reference_mark r) ts)) (sym e) d))

result_type : OfType n.ResultType []
result_type = record { const = result_type-const; base = record { built_in = result_type-built_in_type; library = result_type-std; path = record { class = result_type-class_name; outer = result_type-other_name } } }

result_at : {R : List Symbol} (C : List (List ℕ)) (t : TypeId) → ResultType C t → (ts : List Terminal) → Derives R ts → Derives (One n.ResultType ∷ R) (seen C (type_id t) ts)
unfolding admits
result_at {R} C t (inl h) ts d = type_at C n.ResultType [] R result_type t ts h d
result_at C t (inr h) ts d = auto_at C t h.0 h.1 ts (go (result_type-auto (terminal_of C (kind.Word word.Auto)) refl) d)

-- A nonterminal that a function begins, and the names that follow a result after specifiers, or the type alone.
pub record OfFunction (N M K : Nonterminal) : Type 0 where
  pub specifier : (t : Terminal) → admits pattern.FunctionSpecifier t ≡ true → Begins N t (Many n.Specifier ∷ One n.ResultType ∷ One M ∷ [])
  pub auto : (t : Terminal) → admits (pattern.Keyword word.Auto) t ≡ true → Begins N t (One M ∷ [])
  pub typed : (C : List (List ℕ)) (R : List Symbol) (t : TypeId) (ts : List Terminal) → PlainType C t → Derives (One K ∷ R) ts → Derives (One N ∷ R) (seen C (type_id t) ts)

-- the specifiers and the result, and what follows them
led_by_result : {N M K : Nonterminal} {R : List Symbol} (C : List (List ℕ)) → OfFunction N M K → (ss : List FunctionSpecifier) (t : TypeId) → ResultType C t → (later : List Piece) (ts : List Terminal) → Derives (One M ∷ R) (seen C later ts) → Derives (One K ∷ R) (seen C later ts) → Derives (One N ∷ R) (seen C (specifiers ss ++ (type_id t ++ later)) ts)
unfolding admits
led_by_result {N} {M} {K} {R} C o [] t (inl h) later ts d e = both C (type_id t) later ts (o.typed C R t (seen C later ts) h e)
led_by_result C o [] t (inr h) later ts d e = both C (type_id t) later ts (auto_at C t h.0 h.1 (seen C later ts) (go (o.auto (terminal_of C (kind.Word word.Auto)) refl) d))
led_by_result C o (s ∷ ss) t h later ts d e =
    go (o.specifier (terminal_of C (kind.Word (specifier_word s))) (is_specifier C s)) (both C (specifiers ss) (type_id t ++ later) ts (specifiers_at C ss (seen C (type_id t ++ later) ts) (both C (type_id t) later ts (result_at C t h (seen C later ts) d))))

-- ---- what follows the name

-- parameters in parentheses, where the nonterminal begins with them
pub parameters_in : {N : Nonterminal} {tail R : List Symbol} (C : List (List ℕ)) (ps : List Parameter) → FormedParameters C ps → (ts : List Terminal) → Begins N (terminal_of C (kind.Mark mark.OpenParen)) (Maybe n.Parameters ∷ Token (pattern.Punctuator mark.CloseParen) ∷ Close ∷ tail) → Derives (tail ++ R) ts → Derives (One N ∷ R) (seen C (in_parentheses (parameters ps)) ts)
unfolding admits
parameters_in {N} {tail} {R} C ps h ts b d =
    let end = m mark.CloseParen ∷ leave ∷ [] in
    go b (both C (parameters ps) end ts (parameters_at C ps h (Token (pattern.Punctuator mark.CloseParen) ∷ Close ∷ tail ++ R) (seen C end ts) (by_token refl (shut d))))

pub noexcept_at : {R : List Symbol} (C : List (List ℕ)) (b : Bool) (ts : List Terminal) → Derives R ts → Derives (Maybe n.Noexcept ∷ R) (seen C (if_said b (w word.Noexcept)) ts)
unfolding admits
noexcept_at C true ts d = may (noexcept-noexcept (terminal_of C (kind.Word word.Noexcept)) refl) d
noexcept_at C false ts d = skip d

const_at : {R : List Symbol} (C : List (List ℕ)) (b : Bool) (ts : List Terminal) → Derives R ts → Derives (Maybe n.Const ∷ R) (seen C (if_said b (w word.Const)) ts)
unfolding admits
const_at C true ts d = may (const-const (terminal_of C (kind.Word word.Const)) refl) d
const_at C false ts d = skip d

unsaid : {S : List Symbol} (C : List (List ℕ)) (b : Bool) → b ≡ false → (p : Piece) (ts : List Terminal) → Derives S ts → Derives S (seen C (if_said b p) ts)
unsaid {S} C b e p ts d = subst (λ x. Derives S (seen C (if_said x p) ts)) (sym e) d

body_at : {R : List Symbol} (C : List (List ℕ)) (b : Option Block) → FormedBody C b → (ts : List Terminal) → Derives R ts → Derives (One n.FunctionBody ∷ R) (seen C (block_or_semicolon b) ts)
unfolding admits
body_at C None h ts d = go (function_body-semicolon (terminal_of C (kind.Mark mark.Semicolon)) refl) d
body_at C (Some b) h ts d = braced C b h ts (function_body-brace (terminal_of C (kind.Mark mark.OpenBrace)) refl) d

method_body_at : {R : List Symbol} (C : List (List ℕ)) (b : Option Block) → HasBody b → FormedBody C b → (ts : List Terminal) → Derives R ts → Derives (One n.Block ∷ R) (seen C (block_or_semicolon b) ts)
method_body_at C None h g ts d = absurd h
method_body_at C (Some b) h g ts d = block_at C b g ts d

-- what follows the name of a function
abbrev function_rest : Function → List Piece
function_rest f = in_parentheses (parameters f.parameters) ++ (if_said f.is_const (w word.Const) ++ (if_said f.is_noexcept (w word.Noexcept) ++ block_or_semicolon f.body))

abbrev OfRest : Nonterminal → List Symbol → Type 0
OfRest N tail = (t : Terminal) → admits (pattern.Punctuator mark.OpenParen) t ≡ true → Begins N t (Maybe n.Parameters ∷ Token (pattern.Punctuator mark.CloseParen) ∷ Close ∷ tail)

function_rest_at : {N : Nonterminal} {R : List Symbol} (C : List (List ℕ)) → OfRest N (Maybe n.Noexcept ∷ One n.FunctionBody ∷ []) → (f : Function) → FormedFunction C f → (ts : List Terminal) → Derives R ts → Derives (One N ∷ R) (seen C (function_rest f) ts)
unfolding admits
function_rest_at {N} {R} C o f h ts d =
    let body = block_or_semicolon f.body in
    let after = if_said f.is_noexcept (w word.Noexcept) ++ body in
    let later = if_said f.is_const (w word.Const) ++ after in
    both C (in_parentheses (parameters f.parameters)) later ts (parameters_in C f.parameters h.parameters (seen C later ts) (o (terminal_of C (kind.Mark mark.OpenParen)) refl) (both C (if_said f.is_const (w word.Const)) after ts (unsaid C f.is_const h.is_const (w word.Const) (seen C after ts) (both C (if_said f.is_noexcept (w word.Noexcept)) body ts (noexcept_at C f.is_noexcept (seen C body ts) (body_at C f.body h.body ts d))))))

method_rest_at : {N : Nonterminal} {R : List Symbol} (C : List (List ℕ)) → OfRest N (Maybe n.Const ∷ Maybe n.Noexcept ∷ One n.Block ∷ []) → (f : Function) → FormedMethod C f → (ts : List Terminal) → Derives R ts → Derives (One N ∷ R) (seen C (function_rest f) ts)
unfolding admits
method_rest_at {N} {R} C o f h ts d =
    let body = block_or_semicolon f.body in
    let after = if_said f.is_noexcept (w word.Noexcept) ++ body in
    let later = if_said f.is_const (w word.Const) ++ after in
    both C (in_parentheses (parameters f.parameters)) later ts (parameters_in C f.parameters h.parameters (seen C later ts) (o (terminal_of C (kind.Mark mark.OpenParen)) refl) (both C (if_said f.is_const (w word.Const)) after ts (const_at C f.is_const (seen C after ts) (both C (if_said f.is_noexcept (w word.Noexcept)) body ts (noexcept_at C f.is_noexcept (seen C body ts) (method_body_at C f.body h.has_body h.body ts d))))))

-- ---- names

-- A nonterminal that the name of a function of the file begins, and what follows a plain name.
record OfFileName (N M : Nonterminal) : Type 0 where
  name : (t : Terminal) → admits pattern.Name t ≡ true → Begins N t (One M ∷ [])
  operator : (t : Terminal) → admits (pattern.Keyword word.Operator) t ≡ true → Begins N t (Token (pattern.Keyword word.CoAwait) ∷ One n.FunctionRest ∷ [])
  rest : OfRest M (Maybe n.Noexcept ∷ One n.FunctionBody ∷ [])

-- and one that the name of a method begins
record OfMethodName (N M : Nonterminal) : Type 0 where
  name : (t : Terminal) → admits pattern.Name t ≡ true → Begins N t (One M ∷ [])
  operator : (t : Terminal) → admits (pattern.Keyword word.Operator) t ≡ true → Begins N t (Token pattern.OperatorName ∷ One n.MethodRest ∷ [])
  rest : OfRest M (Maybe n.Const ∷ Maybe n.Noexcept ∷ One n.Block ∷ [])

of_function_name : OfFileName n.FunctionName n.FunctionRest
of_function_name = record { name = function_name-name; operator = function_name-operator; rest = function_rest-paren }

of_global_name : OfFileName n.GlobalName n.GlobalRest
of_global_name = record { name = global_name-name; operator = global_name-operator; rest = global_rest-paren }

of_method_name : OfMethodName n.MethodName n.MethodRest
of_method_name = record { name = method_name-name; operator = method_name-operator; rest = method_rest-paren }

of_field_name : OfMethodName n.FieldName n.FieldRest
of_field_name = record { name = field_name-name; operator = field_name-operator; rest = field_rest-paren }

file_name_at : {N M : Nonterminal} {R : List Symbol} (C : List (List ℕ)) → OfFileName N M → (x : FunctionName) → FileName x → (ts : List Terminal) → Derives (One M ∷ R) ts → Derives (One n.FunctionRest ∷ R) ts → Derives (One N ∷ R) (seen C (function_named x) ts)
unfolding admits
file_name_at C o (function_name.Name x) h ts d e = go (o.name (terminal_of C (kind.Name x)) (names_of.name C x h)) d
file_name_at C o function_name.OperatorCoAwait h ts d e = go (o.operator (terminal_of C (kind.Word word.Operator)) refl) (by_token refl e)
file_name_at C o function_name.OperatorNew h ts d e = absurd h
file_name_at C o function_name.OperatorDelete h ts d e = absurd h

method_name_at : {N M : Nonterminal} {R : List Symbol} (C : List (List ℕ)) → OfMethodName N M → (x : FunctionName) → MemberName x → (ts : List Terminal) → Derives (One M ∷ R) ts → Derives (One n.MethodRest ∷ R) ts → Derives (One N ∷ R) (seen C (function_named x) ts)
unfolding admits
method_name_at C o (function_name.Name x) h ts d e = go (o.name (terminal_of C (kind.Name x)) (names_of.name C x h)) d
method_name_at C o function_name.OperatorCoAwait h ts d e = go (o.operator (terminal_of C (kind.Word word.Operator)) refl) (by_token refl e)
method_name_at C o function_name.OperatorNew h ts d e = go (o.operator (terminal_of C (kind.Word word.Operator)) refl) (by_token refl e)
method_name_at C o function_name.OperatorDelete h ts d e = go (o.operator (terminal_of C (kind.Word word.Operator)) refl) (by_token refl e)

-- ---- functions and methods

file_function_named : {N M : Nonterminal} {R : List Symbol} (C : List (List ℕ)) → OfFileName N M → (f : Function) → FormedFunction C f → (ts : List Terminal) → Derives R ts → Derives (One N ∷ R) (seen C (function_named f.name ++ function_rest f) ts)
file_function_named C o f h ts d = both C (function_named f.name) (function_rest f) ts (file_name_at C o f.name h.name (seen C (function_rest f) ts) (function_rest_at C o.rest f h ts d) (function_rest_at C function_rest-paren f h ts d))

method_named : {N M : Nonterminal} {R : List Symbol} (C : List (List ℕ)) → OfMethodName N M → (f : Function) → FormedMethod C f → (ts : List Terminal) → Derives R ts → Derives (One N ∷ R) (seen C (function_named f.name ++ function_rest f) ts)
method_named C o f h ts d = both C (function_named f.name) (function_rest f) ts (method_name_at C o f.name h.name (seen C (function_rest f) ts) (method_rest_at C o.rest f h ts d) (method_rest_at C method_rest-paren f h ts d))

pub function_at : {N : Nonterminal} {R : List Symbol} (C : List (List ℕ)) → OfFunction N n.FunctionName n.GlobalName → (f : Function) → FormedFunction C f → (ts : List Terminal) → Derives R ts → Derives (One N ∷ R) (seen C (function f) ts)
function_at C o f h ts d = led_by_result C o f.specifiers f.result h.result (function_named f.name ++ function_rest f) ts (file_function_named C of_function_name f h ts d) (file_function_named C of_global_name f h ts d)

pub method_at : {N : Nonterminal} {R : List Symbol} (C : List (List ℕ)) → OfFunction N n.MethodName n.FieldName → (f : Function) → FormedMethod C f → (ts : List Terminal) → Derives R ts → Derives (One N ∷ R) (seen C (function f) ts)
method_at C o f h ts d = led_by_result C o f.specifiers f.result h.result (function_named f.name ++ function_rest f) ts (method_named C of_method_name f h ts d) (method_named C of_field_name f h ts d)
