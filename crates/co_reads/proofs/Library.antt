-- Which name of the library a token is.
use Rattle.std.proofs.Common.{◌≡◌, ℕ, Bool, true, List, ◌∷◌, Some, None, refl, sym, ap, subst}
use Rattle.co_lex.specs.declared.token.Token.{Token}
use Rattle.co_rules.specs.declared.symbol.Known.{Known}
use Rattle.co_rules.specs.declared.symbol.Known.TheVariants as known_name
use Rattle.co_rules.specs.declared.symbol.Pattern.TheVariants as pattern
use Rattle.co_rules.specs.declared.symbol.Symbol.{Symbol}
use Rattle.co_rules.specs.declared.symbol.Symbol.TheVariants.{Token as Terminal}
use Rattle.co_rules.specs.declared.symbol.Terminal.TheVariants as terminal
use Rattle.co_rules.specs.Names.{known, is_class}
use Rattle.co_rules.specs.Pattern.{admits}
use Rattle.co_rules.proofs.Sets.{never}
use Rattle.co_tree.specs.declared.expressions.HandleFunction.{HandleFunction}
use Rattle.co_tree.specs.declared.expressions.HandleFunction.TheVariants as handle_fn
use Rattle.co_tree.specs.declared.expressions.StandardFunction.{StandardFunction}
use Rattle.co_tree.specs.declared.expressions.StandardFunction.TheVariants as std_fn
use Rattle.co_tree.specs.declared.expressions.CorunFunction.{CorunFunction}
use Rattle.co_tree.specs.declared.expressions.CorunFunction.TheVariants as corun_fn
use Rattle.co_tree.specs.declared.types.SimpleTypeKind.{SimpleTypeKind}
use Rattle.co_tree.specs.declared.types.SimpleTypeKind.TheVariants as simple
use Rattle.co_tree.specs.Piece.{name, standard}
use Rattle.co_tree.specs.Sentence.{handle_function as handle_piece, standard_name, corun_name}
use Rattle.co_tree.specs.Types.{simple_kind}
use Rattle.co_tree.specs.Formed.{PlainKind}
use Rattle.co_reader.specs.Leads.{library_object, library_function, handle_function, run_function}
use Rattle.co_reader.specs.Types.{library_type}
use Rattle.co_reads.specs.Runs.{Runs}
use Rattle.co_reads.proofs.Firsts.{Named, name_by, spelled}

-- the name is of a function of the library
pub record IsFunction (text : List ℕ) : Type 0 where
  pub function : StandardFunction
  pub found : library_function text ≡ Some function
  pub spelled : text ≡ standard_name function

function_of : (b : Bool) (text : List ℕ) (k : Known) → known text ≡ k → admits pattern.LibraryFunction (terminal.Name b k) ≡ true → IsFunction text
unfolding admits
function_of b text known_name.Move e h = let s = spelled text known_name.Move e tt in record { function = std_fn.Move; found = ap library_function s; spelled = s }
function_of b text known_name.Exchange e h = let s = spelled text known_name.Exchange e tt in record { function = std_fn.Exchange; found = ap library_function s; spelled = s }
function_of b text known_name.NoopCoroutine e h = let s = spelled text known_name.NoopCoroutine e tt in record { function = std_fn.NoopCoroutine; found = ap library_function s; spelled = s }
function_of b text known_name.Terminate e h = let s = spelled text known_name.Terminate e tt in record { function = std_fn.Terminate; found = ap library_function s; spelled = s }
function_of b text known_name.CurrentException e h = let s = spelled text known_name.CurrentException e tt in record { function = std_fn.CurrentException; found = ap library_function s; spelled = s }
function_of b text known_name.RethrowException e h = let s = spelled text known_name.RethrowException e tt in record { function = std_fn.RethrowException; found = ap library_function s; spelled = s }
function_of b text k e h = never h

pub function_first : {C : List (List ℕ)} {R : List Symbol} {ts : List Token} → Runs C (Terminal pattern.LibraryFunction ∷ R) ts → Named C IsFunction R ts
function_first {C} h = name_by IsFunction tt (λ text a. function_of (is_class C text) text (known text) refl a) h

-- the name is of an object of the library, and of no function of it
pub record IsObject (text : List ℕ) : Type 0 where
  pub object : SimpleTypeKind
  pub found : library_object text ≡ Some object
  pub spelled : simple_kind object ≡ standard text
  pub plain : (C : List (List ℕ)) → PlainKind C object
  pub no_function : library_function text ≡ None
  pub read : (is_class : List ℕ → Bool) (ts : List Token) → library_type is_class text ts ≡ Some (object, ts)

object_of : (b : Bool) (text : List ℕ) (k : Known) → known text ≡ k → admits pattern.LibraryObject (terminal.Name b k) ≡ true → IsObject text
unfolding admits library_type
object_of b text known_name.SizeT e h =
    subst IsObject (sym (spelled text known_name.SizeT e tt)) (record { object = simple.Size; found = refl; spelled = refl; plain = λ C. tt; no_function = refl; read = λ c ts. refl })
object_of b text known_name.ExceptionPtr e h =
    subst IsObject (sym (spelled text known_name.ExceptionPtr e tt)) (record { object = simple.ExceptionPtr; found = refl; spelled = refl; plain = λ C. tt; no_function = refl; read = λ c ts. refl })
object_of b text known_name.SuspendAlways e h =
    subst IsObject (sym (spelled text known_name.SuspendAlways e tt)) (record { object = simple.SuspendAlways; found = refl; spelled = refl; plain = λ C. tt; no_function = refl; read = λ c ts. refl })
object_of b text known_name.SuspendNever e h =
    subst IsObject (sym (spelled text known_name.SuspendNever e tt)) (record { object = simple.SuspendNever; found = refl; spelled = refl; plain = λ C. tt; no_function = refl; read = λ c ts. refl })
object_of b text k e h = never h

pub object_first : {C : List (List ℕ)} {R : List Symbol} {ts : List Token} → Runs C (Terminal pattern.LibraryObject ∷ R) ts → Named C IsObject R ts
object_first {C} h = name_by IsObject tt (λ text a. object_of (is_class C text) text (known text) refl a) h

-- the name is of a static function of handles
pub record IsHandleFunction (text : List ℕ) : Type 0 where
  pub function : HandleFunction
  pub found : handle_function text ≡ Some function
  pub spelled : handle_piece function ≡ name text

handle_of : (b : Bool) (text : List ℕ) (k : Known) → known text ≡ k → admits pattern.HandleFunction (terminal.Name b k) ≡ true → IsHandleFunction text
unfolding admits
handle_of b text known_name.FromAddress e h = subst IsHandleFunction (sym (spelled text known_name.FromAddress e tt)) (record { function = handle_fn.FromAddress; found = refl; spelled = refl })
handle_of b text known_name.FromPromise e h = subst IsHandleFunction (sym (spelled text known_name.FromPromise e tt)) (record { function = handle_fn.FromPromise; found = refl; spelled = refl })
handle_of b text k e h = never h

pub handle_first : {C : List (List ℕ)} {R : List Symbol} {ts : List Token} → Runs C (Terminal pattern.HandleFunction ∷ R) ts → Named C IsHandleFunction R ts
handle_first {C} h = name_by IsHandleFunction tt (λ text a. handle_of (is_class C text) text (known text) refl a) h

-- the name is of a function of `corun`
pub record IsRunFunction (text : List ℕ) : Type 0 where
  pub function : CorunFunction
  pub found : run_function text ≡ Some function
  pub spelled : text ≡ corun_name function

run_of : (b : Bool) (text : List ℕ) (k : Known) → known text ≡ k → admits pattern.RunFunction (terminal.Name b k) ≡ true → IsRunFunction text
unfolding admits
run_of b text known_name.Print e h = let s = spelled text known_name.Print e tt in record { function = corun_fn.Print; found = ap run_function s; spelled = s }
run_of b text known_name.Post e h = let s = spelled text known_name.Post e tt in record { function = corun_fn.Post; found = ap run_function s; spelled = s }
run_of b text known_name.Input e h = let s = spelled text known_name.Input e tt in record { function = corun_fn.Input; found = ap run_function s; spelled = s }
run_of b text known_name.Inputs e h = let s = spelled text known_name.Inputs e tt in record { function = corun_fn.Inputs; found = ap run_function s; spelled = s }
run_of b text k e h = never h

pub run_first : {C : List (List ℕ)} {R : List Symbol} {ts : List Token} → Runs C (Terminal pattern.RunFunction ∷ R) ts → Named C IsRunFunction R ts
run_first {C} h = name_by IsRunFunction tt (λ text a. run_of (is_class C text) text (known text) refl a) h
