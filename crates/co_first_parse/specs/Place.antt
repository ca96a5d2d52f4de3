-- Where a parser stands, and its steps, computed: each reads a statement, opens a block or closes one.
use Rattle.std.specs.Prelude.{◌≡◌, ℕ, ◌+◌, Bool, true, false, ◌==◌, nat_lt, if◌then◌else◌, List, [], ◌∷◌, ◌++◌, length, Option, Some, None}
use Rattle.co_first_tree.specs.declared.tree.Program.{Program}
use Rattle.co_first_tree.specs.declared.tree.Stmt.{Stmt}
use Rattle.co_first_tree.specs.declared.tree.Stmt.TheVariants as stmt
use Rattle.co_first_tree.specs.declared.tree.Sum.{Sum}
use Rattle.co_first_parse.specs.declared.token.Mark.{Mark}
use Rattle.co_first_parse.specs.declared.token.Mark.TheVariants as m
use Rattle.co_first_parse.specs.declared.token.Kind.{Kind}
use Rattle.co_first_parse.specs.declared.token.Kind.TheVariants.{Fixed, Name, Number}
use Rattle.co_first_parse.specs.declared.token.Token.{Token}
use Rattle.co_first_parse.specs.declared.frame.Frame.{Frame}
use Rattle.co_first_parse.specs.Known.{Known, no_names}
use Rattle.co_first_parse.specs.Parse.{◌>>=◌, is_mark, take_mark, left, declare, assign, enclosed, print}

-- the tokens that are left, what is known, the open blocks from the innermost out, and the statements of the block so far
pub record Place : Type 0 where
  pub tokens : List Token
  pub known : Known
  pub outer : List Frame
  pub done : List Stmt

abbrev pub added : Place → Known → Stmt → List Token → Place
added place known stmt tokens = record { tokens = tokens; known = known; outer = place.outer; done = place.done ++ stmt ∷ [] }

unfoldable pub assign_step : List ℕ → Place → Option Place
assign_step name place = assign place.known name place.tokens >>= (λ r. Some (added place place.known r.0 r.1))

unfoldable pub declare_step : Place → Option Place
declare_step place = declare place.known place.tokens >>= (λ r. Some (added place r.1 r.0 r.2))

unfoldable pub print_step : Place → Option Place
print_step place = print place.known place.tokens >>= (λ r. Some (added place place.known r.0 r.1))

abbrev pub frame : Sum → List Stmt → List ℕ → Frame
frame sum before visible = record { sum = sum; before = before; visible = visible }

abbrev pub opened : Place → Sum → List Token → Place
opened place sum tokens = record { tokens = tokens; known = place.known; outer = frame sum place.done place.known.visible ∷ place.outer; done = [] }

unfoldable pub open_step : Place → Option Place
open_step place = if nat_lt (length place.outer) 31 then (enclosed m.OpenBrace place.known place.tokens >>= (λ r. Some (opened place r.0 r.1))) else None

abbrev pub closed : Place → List Frame → Option Place
closed place [] = None
closed place (frame ∷ outer) = Some (record { tokens = place.tokens; known = left place.known frame.visible; outer = outer; done = frame.before ++ stmt.While frame.sum place.done ∷ [] })

unfoldable pub close_step : Place → Option Place
close_step place = closed place place.outer

abbrev pub step_by : Kind → Place → Option Place
step_by (Name name) place = assign_step name place
step_by (Number value) place = None
step_by (Fixed m.Long) place = declare_step place
step_by (Fixed m.Corun) place = print_step place
step_by (Fixed m.While) place = open_step place
step_by (Fixed m.CloseBrace) place = close_step place
step_by (Fixed _) place = None

abbrev pub past : Place → List Token → Place
past place tokens = record { tokens = tokens; known = place.known; outer = place.outer; done = place.done }

abbrev pub step_from : Place → List Token → Option Place
step_from place [] = None
step_from place (token ∷ tokens) = step_by token.kind (past place tokens)

unfoldable pub step : Place → Option Place
step place = step_from place place.tokens

abbrev pub is_zero : Kind → Bool
is_zero (Number value) = value == 0
is_zero (Name name) = false
is_zero (Fixed mark) = false

-- the end of the file
unfoldable pub ends_main : List Token → Bool
ends_main (a ∷ b ∷ c ∷ d ∷ []) = if is_mark m.Return a.kind then (if is_zero b.kind then (if is_mark m.Semicolon c.kind then is_mark m.CloseBrace d.kind else false) else false) else false
ends_main _ = false

abbrev pub is_empty : List Frame → Bool
is_empty [] = true
is_empty (frame ∷ outer) = false

unfoldable pub is_end : Place → Bool
is_end place = if is_empty place.outer then ends_main place.tokens else false

-- the beginning of the file
unfoldable pub opening : List Token → Option (List Token)
opening tokens = take_mark m.Int tokens >>= (λ a. take_mark m.Main a >>= (λ b. take_mark m.OpenParenthesis b >>= (λ c. take_mark m.CloseParenthesis c >>= (λ d. take_mark m.OpenBrace d))))

abbrev pub start : List Token → Place
start tokens = record { tokens = tokens; known = no_names; outer = []; done = [] }

abbrev pub program_of : Place → Program
program_of place = record { names = place.known.names; body = place.done }
