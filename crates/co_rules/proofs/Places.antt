-- A nonterminal is told by its place in the list of all.
use Rattle.std.proofs.Common.{◌≡◌, true, nat_eq, List, [], ◌∷◌, get_or, refl, sym, ap, ◌∙◌}
use Rattle.co_rules.specs.declared.symbol.Nonterminal.{Nonterminal}
use Rattle.co_rules.specs.declared.symbol.Nonterminal.TheVariants.{Item, Specifier, ClassRest, ResultType, GlobalName, FunctionName, GlobalRest, FunctionRest, FunctionBody, Noexcept, Const, Member, MemberOfClass, MemberOfOther, MethodName, FieldName, MethodRest, FieldRest, ConstructorRest, ConstructorBody, Defaulted, Initializer, NextInitializer, NoParameters, DestructorBody, Parameters, NextParameter, ParameterName, TypeId, Base, InnerClass, ClassPath, LibraryType, AtomicArgument, AtomicPointer, TypeRest, Pointers, Block, Statement, Else, Condition, ForHead, ForInit, Catch, CatchHead, CatchParameter, AfterBuiltin, AfterClass, AfterHandle, LibraryStatement, StatementPath, AfterOther, LocalRest, Value, Expression, Arguments, NextArgument, FirstArgument, FirstScope, FirstPath, Unary, GlobalScope, GivenArguments, NewRest, RunName, TextArgument, Built, LibraryOperand, HandleOperand, ClassOperand, Scope, Path, Postfix, Operators, ExpressionRest, Reference}
use Rattle.co_rules.specs.Pattern.{nonterminal_number}
use Rattle.co_rules.proofs.Sets.{eq_true}

abbrev pub every : List Nonterminal
every = Item ∷ Specifier ∷ ClassRest ∷ ResultType ∷ GlobalName ∷ FunctionName ∷ GlobalRest ∷ FunctionRest ∷ FunctionBody ∷ Noexcept ∷ Const ∷ Member ∷ MemberOfClass ∷ MemberOfOther ∷ MethodName ∷ FieldName ∷ MethodRest ∷ FieldRest ∷ ConstructorRest ∷ ConstructorBody ∷ Defaulted ∷ Initializer ∷ NextInitializer ∷ NoParameters ∷ DestructorBody ∷ Parameters ∷ NextParameter ∷ ParameterName ∷ TypeId ∷ Base ∷ InnerClass ∷ ClassPath ∷ LibraryType ∷ AtomicArgument ∷ AtomicPointer ∷ TypeRest ∷ Pointers ∷ Block ∷ Statement ∷ Else ∷ Condition ∷ ForHead ∷ ForInit ∷ Catch ∷ CatchHead ∷ CatchParameter ∷ AfterBuiltin ∷ AfterClass ∷ AfterHandle ∷ LibraryStatement ∷ StatementPath ∷ AfterOther ∷ LocalRest ∷ Value ∷ Expression ∷ Arguments ∷ NextArgument ∷ FirstArgument ∷ FirstScope ∷ FirstPath ∷ Unary ∷ GlobalScope ∷ GivenArguments ∷ NewRest ∷ RunName ∷ TextArgument ∷ Built ∷ LibraryOperand ∷ HandleOperand ∷ ClassOperand ∷ Scope ∷ Path ∷ Postfix ∷ Operators ∷ ExpressionRest ∷ Reference ∷ []

pub at_place : (n : Nonterminal) → get_or every (nonterminal_number n) Item ≡ n
at_place Item = refl
at_place Specifier = refl
at_place ClassRest = refl
at_place ResultType = refl
at_place GlobalName = refl
at_place FunctionName = refl
at_place GlobalRest = refl
at_place FunctionRest = refl
at_place FunctionBody = refl
at_place Noexcept = refl
at_place Const = refl
at_place Member = refl
at_place MemberOfClass = refl
at_place MemberOfOther = refl
at_place MethodName = refl
at_place FieldName = refl
at_place MethodRest = refl
at_place FieldRest = refl
at_place ConstructorRest = refl
at_place ConstructorBody = refl
at_place Defaulted = refl
at_place Initializer = refl
at_place NextInitializer = refl
at_place NoParameters = refl
at_place DestructorBody = refl
at_place Parameters = refl
at_place NextParameter = refl
at_place ParameterName = refl
at_place TypeId = refl
at_place Base = refl
at_place InnerClass = refl
at_place ClassPath = refl
at_place LibraryType = refl
at_place AtomicArgument = refl
at_place AtomicPointer = refl
at_place TypeRest = refl
at_place Pointers = refl
at_place Block = refl
at_place Statement = refl
at_place Else = refl
at_place Condition = refl
at_place ForHead = refl
at_place ForInit = refl
at_place Catch = refl
at_place CatchHead = refl
at_place CatchParameter = refl
at_place AfterBuiltin = refl
at_place AfterClass = refl
at_place AfterHandle = refl
at_place LibraryStatement = refl
at_place StatementPath = refl
at_place AfterOther = refl
at_place LocalRest = refl
at_place Value = refl
at_place Expression = refl
at_place Arguments = refl
at_place NextArgument = refl
at_place FirstArgument = refl
at_place FirstScope = refl
at_place FirstPath = refl
at_place Unary = refl
at_place GlobalScope = refl
at_place GivenArguments = refl
at_place NewRest = refl
at_place RunName = refl
at_place TextArgument = refl
at_place Built = refl
at_place LibraryOperand = refl
at_place HandleOperand = refl
at_place ClassOperand = refl
at_place Scope = refl
at_place Path = refl
at_place Postfix = refl
at_place Operators = refl
at_place ExpressionRest = refl
at_place Reference = refl

-- two nonterminals of one number are one
pub number-same : (n m : Nonterminal) → nat_eq (nonterminal_number n) (nonterminal_number m) ≡ true → n ≡ m
number-same n m h = sym (at_place n) ∙ (ap (λ k. get_or every k Item) (eq_true (nonterminal_number n) (nonterminal_number m) h) ∙ at_place m)
