-- The parser, computed: what each part reads off the front of the tokens.
use Rattle.std.specs.Prelude.{◌≡◌, ℕ, zero, suc, ◌+◌, Bool, true, false, ◌&&◌, ◌==◌, nat_lt, nat_le, if◌then◌else◌, List, [], ◌∷◌, ◌++◌, length, drop, Option, Some, None, bytes_eq, codes, Result, Ok, Err}
use Rattle.std.specs.List.{list_any}
use Rattle.co_base.specs.declared.span.Span.{Span}
use Rattle.co_first_tree.specs.declared.tree.Stmt.{Stmt}
use Rattle.co_first_tree.specs.declared.tree.Stmt.TheVariants as stmt
use Rattle.co_first_tree.specs.declared.tree.Sum.{Sum}
use Rattle.co_first_tree.specs.declared.tree.Sum.TheVariants as sum
use Rattle.co_first_tree.specs.declared.tree.Term.{Term}
use Rattle.co_first_tree.specs.declared.tree.SumOp.{SumOp}
use Rattle.co_first_tree.specs.declared.tree.SumOp.TheVariants.{Add, Sub}
use Rattle.co_first_tree.specs.declared.tree.Atom.{Atom}
use Rattle.co_first_tree.specs.declared.tree.Atom.TheVariants as operand
use Rattle.co_first_parse.specs.declared.token.Mark.{Mark}
use Rattle.co_first_parse.specs.declared.token.Mark.TheVariants as m
use Rattle.co_first_parse.specs.declared.token.Kind.{Kind}
use Rattle.co_first_parse.specs.declared.token.Kind.TheVariants.{Fixed, Name, Number}
use Rattle.co_first_parse.specs.declared.token.Token.{Token}
use Rattle.co_first_parse.specs.declared.fault.ParseFault.{ParseFault}
use Rattle.co_first_parse.specs.declared.fault.ParseFault.TheVariants.{Syntax, NoMemory}
use Rattle.co_first_parse.specs.Grammar.{term}
use Rattle.co_first_parse.specs.Known.{Known}

-- ---- what a function ensures that reads a part of type A and leaves a state of type S

abbrev pub Reads : {A S : Type 0} → Option (A × S) → Result A ParseFault → S → Type 0
Reads outcome (Ok part) new = outcome ≡ Some (part, new)
Reads outcome (Err Syntax) new = outcome ≡ None
Reads outcome (Err NoMemory) new = Unit {0}

abbrev pub Steps : {S : Type 0} → Option S → Result (Unit {0}) ParseFault → S → Type 0
Steps outcome (Ok _) new = outcome ≡ Some new
Steps outcome (Err Syntax) new = outcome ≡ None
Steps outcome (Err NoMemory) new = Unit {0}

abbrev pub Reads2 : {A S T : Type 0} → Option (A × S × T) → Result A ParseFault → S → T → Type 0
Reads2 outcome (Ok part) first second = outcome ≡ Some (part, first, second)
Reads2 outcome (Err Syntax) first second = outcome ≡ None
Reads2 outcome (Err NoMemory) first second = Unit {0}

infixl 10 ◌>>=◌
abbrev pub ◌>>=◌ : {A B : Type 0} → Option A → (A → Option B) → Option B
None >>= f = None
(Some a) >>= f = f a

-- ---- tokens

abbrev pub rank : Mark → ℕ
rank m.Int = 0
rank m.Main = 1
rank m.Return = 2
rank m.Long = 3
rank m.While = 4
rank m.Corun = 5
rank m.OpenParenthesis = 6
rank m.CloseParenthesis = 7
rank m.OpenBrace = 8
rank m.CloseBrace = 9
rank m.Semicolon = 10
rank m.Assign = 11
rank m.Plus = 12
rank m.Minus = 13
rank m.Scope = 14

abbrev pub is_mark : Mark → Kind → Bool
is_mark mark (Fixed other) = rank other == rank mark
is_mark mark (Name name) = false
is_mark mark (Number value) = false

unfoldable pub take_mark : Mark → List Token → Option (List Token)
take_mark mark [] = None
take_mark mark (token ∷ tokens) = if is_mark mark token.kind then Some tokens else None

abbrev pub named : Kind → Option (List ℕ)
named (Name name) = Some name
named (Fixed mark) = None
named (Number value) = None

abbrev pub and_rest : {A : Type 0} → Option A → List Token → Option (A × List Token)
and_rest None tokens = None
and_rest (Some part) tokens = Some (part, tokens)

unfoldable pub take_name : List Token → Option (List ℕ × List Token)
take_name [] = None
take_name (token ∷ tokens) = and_rest (named token.kind) tokens

-- ---- names

abbrev pub index_from : ℕ → List (List ℕ) → List ℕ → Option ℕ
index_from index [] name = None
index_from index (other ∷ names) name = if bytes_eq other name then Some index else index_from (index + 1) names name

abbrev pub seen_by : List ℕ → Option ℕ → Option ℕ
seen_by visible None = None
seen_by visible (Some x) = if list_any (λ y. y == x) visible then Some x else None

-- the variable of this name, if it is seen
unfoldable pub variable : Known → List ℕ → Option ℕ
variable known name = seen_by known.visible (index_from 0 known.names name)

abbrev pub is_missing : Option ℕ → Bool
is_missing None = true
is_missing (Some x) = false

-- whether there may be one more variable of this name
unfoldable pub is_new : Known → List ℕ → Bool
is_new known name = is_missing (index_from 0 known.names name) && nat_lt (length known.names) 32

abbrev pub declared : Known → List ℕ → Known
declared known name = record { names = known.names ++ name ∷ []; visible = length known.names ∷ known.visible }

abbrev pub left : Known → List ℕ → Known
left known visible = record { names = known.names; visible = visible }

-- ---- sums

abbrev pub op_of : Kind → Option SumOp
op_of (Fixed m.Plus) = Some Add
op_of (Fixed m.Minus) = Some Sub
op_of _ = None

abbrev pub next_op : List Token → Option SumOp
next_op [] = None
next_op (token ∷ tokens) = op_of token.kind

abbrev pub named_atom : Option ℕ → Option Atom
named_atom None = None
named_atom (Some x) = Some (operand.Name x)

unfoldable pub atom_of : Known → Kind → Option Atom
atom_of known (Number value) = Some (operand.Int value)
atom_of known (Name name) = named_atom (variable known name)
atom_of known (Fixed mark) = None

unfoldable pub next_atom : Known → List Token → Option (Atom × List Token)
next_atom known [] = None
next_atom known (token ∷ tokens) = and_rest (atom_of known token.kind) tokens

abbrev pub joined : Option SumOp → Option Atom → Option (List Term × List Token) → List Token → Option (List Term × List Token)
joined None atom more tokens = Some ([], tokens)
joined (Some op) None more tokens = None
joined (Some op) (Some atom) None tokens = None
joined (Some op) (Some atom) (Some more) tokens = Some (term op atom ∷ more.0, more.1)

abbrev pub lone : Option SumOp → Token → Option (List Term × List Token)
lone None token = Some ([], token ∷ [])
lone (Some op) token = None

unfoldable pub terms_of : Known → List Token → Option (List Term × List Token)
terms_of known [] = Some ([], [])
terms_of known (first ∷ []) = lone (op_of first.kind) first
terms_of known (first ∷ second ∷ tokens) = joined (op_of first.kind) (atom_of known second.kind) (terms_of known tokens) (first ∷ second ∷ tokens)

abbrev pub limited : ℕ → Span → List Term × List Token → Option (Sum × List Token)
limited x at r = if nat_le (length r.0) 64 then Some (sum.Name x r.0 at, r.1) else None

unfoldable pub sum_by : Known → Kind → Span → List Token → Option (Sum × List Token)
sum_by known (Number value) at tokens = Some (sum.Int value at, tokens)
sum_by known (Name name) at tokens = variable known name >>= (λ x. terms_of known tokens >>= limited x at)
sum_by known (Fixed mark) at tokens = None

unfoldable pub sum_of : Known → List Token → Option (Sum × List Token)
sum_of known [] = None
sum_of known (token ∷ tokens) = sum_by known token.kind token.span tokens

-- ---- statements

-- sum and a mark
unfoldable pub sum_and : Mark → Known → List Token → Option (Sum × List Token)
sum_and mark known tokens = sum_of known tokens >>= (λ r. take_mark mark r.1 >>= (λ rest. Some (r.0, rest)))

-- after `long`
unfoldable pub declare : Known → List Token → Option (Stmt × Known × List Token)
declare known tokens = take_name tokens >>= (λ n. take_mark m.Assign n.1 >>= (λ rest.
    if is_new known n.0 then sum_and m.Semicolon known rest >>= (λ r. Some (stmt.Declare (length known.names) r.0, declared known n.0, r.1)) else None))

-- after a name
unfoldable pub assign : Known → List ℕ → List Token → Option (Stmt × List Token)
assign known name tokens = variable known name >>= (λ x. take_mark m.Assign tokens >>= (λ rest.
    sum_and m.Semicolon known rest >>= (λ r. Some (stmt.Assign x r.0, r.1))))

-- `(` sum `)` and a mark
unfoldable pub enclosed : Mark → Known → List Token → Option (Sum × List Token)
enclosed mark known tokens = take_mark m.OpenParenthesis tokens >>= (λ rest. sum_and m.CloseParenthesis known rest >>= (λ r. take_mark mark r.1 >>= (λ last. Some (r.0, last))))

-- after `corun`
unfoldable pub print : Known → List Token → Option (Stmt × List Token)
print known tokens = take_mark m.Scope tokens >>= (λ rest. take_name rest >>= (λ n.
    if bytes_eq n.0 (codes "print") then enclosed m.Semicolon known n.1 >>= (λ r. Some (stmt.Print r.0, r.1)) else None))
