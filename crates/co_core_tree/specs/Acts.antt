-- What an expression does, in the order of evaluation [intro.execution], and which values it keeps over an await.
use Rattle.std.specs.Prelude.{Bool, true, false, ◌||◌, if◌then◌else◌, List, [], ◌∷◌, ◌++◌}
use Rattle.std.specs.List.{list_any}
use Rattle.co_base.specs.declared.ids.FuncId.{FuncId}
use Rattle.co_core_tree.specs.declared.exprs.CoreExpr.{CoreExpr, Row_of-CoreExpr, end_of-CoreExpr, more_of-CoreExpr, Row_of-Init, end_of-Init, more_of-Init, end_of-AwaitPlan, more_of-AwaitPlan, end_of-NewPlan, more_of-NewPlan, end_of-DeletePlan, more_of-DeletePlan}
use Rattle.co_core_tree.specs.declared.exprs.CoreExpr.TheVariants as expr
use Rattle.co_core_tree.specs.declared.exprs.Init.{Init}
use Rattle.co_core_tree.specs.declared.exprs.Init.TheVariants as init

-- an expression or an initializer, as a part of another
pub data Part : Type 0 where
  OfExpr : (e : CoreExpr) → Part
  OfInit : (i : Init) → Part

-- One act of an evaluation. The flag tells whether it is conditional: done in the right operand of `&&` or `||`, in the
-- second or the third of `?:`, or in the initializer of a `new` that may be null.
pub data Act : Type 0 where
  Does : (conditional : Bool) (e : CoreExpr) → Act  -- an expression's own act, once its parts are evaluated
  Passes : (e : CoreExpr) → Act  -- a `Temp` makes the object of a class parameter of a call
  Starts : (i : Init) → Act  -- an initializer's own act, once its parts are evaluated
  Keeps : (part : Part) → Act  -- the value of a part is kept while an await of a later part may suspend

abbrev pub is_await : CoreExpr → Bool
is_await (expr.Await' n plan) = true
is_await e = false

abbrev pub is_suspension : Act → Bool
is_suspension (Does conditional e) = is_await e
is_suspension act = false

-- whether an await is among the acts
abbrev pub suspends : List Act → Bool
suspends acts = list_any is_suspension acts

-- A part whose value the whole still needs is kept where a later part may suspend the coroutine [expr.await].
abbrev pub kept : Part → List Act → List Act
kept part later = if suspends later then Keeps part ∷ later else later

abbrev pub kept_unless : Bool → Part → List Act → List Act
kept_unless true part later = later
kept_unless false part later = kept part later

-- a `Temp` that is the argument for a class parameter makes the object of that parameter
abbrev pub temp_act : Bool → Bool → CoreExpr → Act
temp_act conditional true e = Passes e
temp_act conditional false e = Does conditional e

abbrev pub first : List Bool → Bool
first [] = false
first (flag ∷ flags) = flag

abbrev pub others : List Bool → List Bool
others [] = []
others (flag ∷ flags) = flags

-- `objects f` tells of each parameter of the function f whether it is an object of a class
module _ (objects : FuncId → List Bool) where
  abbrev mutual
    -- The acts of an expression: its operands stand from the left to the right, but for `Store` and `Update`, whose value
    -- comes before their place [expr.ass].
    pub acts : Bool → Bool → CoreExpr → List Act
    acts c o (expr.Const num v at) =
        Does c (expr.Const num v at) ∷ []
    acts c o (expr.Null at) =
        Does c (expr.Null at) ∷ []
    acts c o (expr.Slot slot at) =
        Does c (expr.Slot slot at) ∷ []
    acts c o (expr.Global k at) =
        Does c (expr.Global k at) ∷ []
    acts c o (expr.Field' n (more_of-CoreExpr e end_of-CoreExpr) k at) =
        acts c false e ++ Does c (expr.Field' n (more_of-CoreExpr e end_of-CoreExpr) k at) ∷ []
    acts c o (expr.Deref' n (more_of-CoreExpr e end_of-CoreExpr) at) =
        acts c false e ++ Does c (expr.Deref' n (more_of-CoreExpr e end_of-CoreExpr) at) ∷ []
    acts c o (expr.Address' n (more_of-CoreExpr e end_of-CoreExpr) at) =
        acts c false e ++ Does c (expr.Address' n (more_of-CoreExpr e end_of-CoreExpr) at) ∷ []
    acts c o (expr.Whole k at) =
        Does c (expr.Whole k at) ∷ []
    acts c o (expr.Load' n (more_of-CoreExpr e end_of-CoreExpr) at) =
        acts c false e ++ Does c (expr.Load' n (more_of-CoreExpr e end_of-CoreExpr) at) ∷ []
    acts c o (expr.Store' n (more_of-CoreExpr place end_of-CoreExpr) m (more_of-CoreExpr value end_of-CoreExpr) at) =
        acts c false value ++ (kept (OfExpr value) (acts c false place) ++ Does c (expr.Store' n (more_of-CoreExpr place end_of-CoreExpr) m (more_of-CoreExpr value end_of-CoreExpr) at) ∷ [])
    acts c o (expr.Exchange' n (more_of-CoreExpr place end_of-CoreExpr) m (more_of-CoreExpr value end_of-CoreExpr) at) =
        acts c false place ++ (kept (OfExpr place) (acts c false value) ++ Does c (expr.Exchange' n (more_of-CoreExpr place end_of-CoreExpr) m (more_of-CoreExpr value end_of-CoreExpr) at) ∷ [])
    acts c o (expr.Update' op num n (more_of-CoreExpr place end_of-CoreExpr) m (more_of-CoreExpr value end_of-CoreExpr) old at) =
        acts c false value ++ (kept (OfExpr value) (acts c false place) ++ Does c (expr.Update' op num n (more_of-CoreExpr place end_of-CoreExpr) m (more_of-CoreExpr value end_of-CoreExpr) old at) ∷ [])
    acts c o (expr.Arith' op num n (more_of-CoreExpr l end_of-CoreExpr) m (more_of-CoreExpr r end_of-CoreExpr) at) =
        acts c false l ++ (kept (OfExpr l) (acts c false r) ++ Does c (expr.Arith' op num n (more_of-CoreExpr l end_of-CoreExpr) m (more_of-CoreExpr r end_of-CoreExpr) at) ∷ [])
    acts c o (expr.Convert' num n (more_of-CoreExpr e end_of-CoreExpr) at) =
        acts c false e ++ Does c (expr.Convert' num n (more_of-CoreExpr e end_of-CoreExpr) at) ∷ []
    acts c o (expr.Test' n (more_of-CoreExpr e end_of-CoreExpr) at) =
        acts c false e ++ Does c (expr.Test' n (more_of-CoreExpr e end_of-CoreExpr) at) ∷ []
    acts c o (expr.Same' n (more_of-CoreExpr l end_of-CoreExpr) m (more_of-CoreExpr r end_of-CoreExpr) at) =
        acts c false l ++ (kept (OfExpr l) (acts c false r) ++ Does c (expr.Same' n (more_of-CoreExpr l end_of-CoreExpr) m (more_of-CoreExpr r end_of-CoreExpr) at) ∷ [])
    acts c o (expr.Both' n (more_of-CoreExpr l end_of-CoreExpr) m (more_of-CoreExpr r end_of-CoreExpr) at) =
        acts c false l ++ (acts true false r ++ Does c (expr.Both' n (more_of-CoreExpr l end_of-CoreExpr) m (more_of-CoreExpr r end_of-CoreExpr) at) ∷ [])
    acts c o (expr.Either' n (more_of-CoreExpr l end_of-CoreExpr) m (more_of-CoreExpr r end_of-CoreExpr) at) =
        acts c false l ++ (acts true false r ++ Does c (expr.Either' n (more_of-CoreExpr l end_of-CoreExpr) m (more_of-CoreExpr r end_of-CoreExpr) at) ∷ [])
    acts c o (expr.Pick' n (more_of-CoreExpr e end_of-CoreExpr) m (more_of-CoreExpr x end_of-CoreExpr) k (more_of-CoreExpr y end_of-CoreExpr) at) =
        acts c false e ++ (acts true false x ++ (acts true false y ++ Does c (expr.Pick' n (more_of-CoreExpr e end_of-CoreExpr) m (more_of-CoreExpr x end_of-CoreExpr) k (more_of-CoreExpr y end_of-CoreExpr) at) ∷ []))
    acts c o (expr.Call' f n args at) =
        args_acts (objects f) c args ++ Does c (expr.Call' f n args at) ∷ []
    acts c o (expr.Temp' slot n (more_of-Init i end_of-Init) at) =
        init_acts c false i ++ temp_act c o (expr.Temp' slot n (more_of-Init i end_of-Init) at) ∷ []
    acts c o (expr.Throw' of n (more_of-CoreExpr e end_of-CoreExpr) at) =
        acts c false e ++ Does c (expr.Throw' of n (more_of-CoreExpr e end_of-CoreExpr) at) ∷ []
    acts c o (expr.Rethrow at) =
        Does c (expr.Rethrow at) ∷ []
    acts c o (expr.Terminate at) =
        Does c (expr.Terminate at) ∷ []
    acts c o (expr.Current at) =
        Does c (expr.Current at) ∷ []
    acts c o (expr.RethrowPtr' n (more_of-CoreExpr e end_of-CoreExpr) at) =
        acts c false e ++ Does c (expr.RethrowPtr' n (more_of-CoreExpr e end_of-CoreExpr) at) ∷ []
    acts c o (expr.Await' n (more_of-AwaitPlan operand holder ready suspend answer resume point span end_of-AwaitPlan)) =
        acts c false operand ++ (acts c false ready ++ (acts c false suspend ++ (acts c false resume ++ Does c (expr.Await' n (more_of-AwaitPlan operand holder ready suspend answer resume point span end_of-AwaitPlan)) ∷ [])))
    acts c o (expr.Handle' op n operands at) =
        list_acts c operands ++ Does c (expr.Handle' op n operands at) ∷ []
    acts c o (expr.Atomic' op n operands at) =
        list_acts c operands ++ Does c (expr.Atomic' op n operands at) ∷ []
    acts c o (expr.Lib' op n operands at) =
        list_acts c operands ++ Does c (expr.Lib' op n operands at) ∷ []
    acts c o (expr.New' n (more_of-NewPlan of take may_be_null i give span end_of-NewPlan)) =
        init_acts (c || may_be_null) false i ++ Does c (expr.New' n (more_of-NewPlan of take may_be_null i give span end_of-NewPlan)) ∷ []
    acts c o (expr.Delete' n (more_of-DeletePlan of pointer destroy give span end_of-DeletePlan)) =
        acts c false pointer ++ Does c (expr.Delete' n (more_of-DeletePlan of pointer destroy give span end_of-DeletePlan)) ∷ []

    -- the acts of an initializer; the first parameter of a constructor refers to the object, and has no argument
    pub init_acts : Bool → Bool → Init → List Act
    init_acts c o (init.Ctor' f n args) = args_acts (others (objects f)) c args ++ Starts (init.Ctor' f n args) ∷ []
    init_acts c o (init.Members' n members) = members_acts c members ++ Starts (init.Members' n members) ∷ []
    init_acts c o (init.Value e) = acts c o e ++ Starts (init.Value e) ∷ []
    init_acts c o (init.Result e) = acts c false e ++ Starts (init.Result e) ∷ []
    init_acts c o init.Raw = Starts init.Raw ∷ []
    init_acts c o (init.Choose' e n (more_of-Init x end_of-Init) m (more_of-Init y end_of-Init)) =
        acts c false e ++ (init_acts true false x ++ (init_acts true false y ++ Starts (init.Choose' e n (more_of-Init x end_of-Init) m (more_of-Init y end_of-Init)) ∷ []))

    -- the operands of a handle's, an atomic's or a library's act, from the left to the right
    pub list_acts : {m : _} → Bool → Row_of-CoreExpr m → List Act
    list_acts c end_of-CoreExpr = []
    list_acts c (more_of-CoreExpr e rest) = acts c false e ++ kept (OfExpr e) (list_acts c rest)

    -- members are made one after the other, each in its place
    pub members_acts : {m : _} → Bool → Row_of-Init m → List Act
    members_acts c end_of-Init = []
    members_acts c (more_of-Init i rest) = init_acts c false i ++ members_acts c rest

    -- arguments are evaluated from the left to the right; the object of a class parameter stays in its slot
    pub args_acts : {m : _} → List Bool → Bool → Row_of-Init m → List Act
    args_acts flags c end_of-Init = []
    args_acts flags c (more_of-Init i rest) = init_acts c (first flags) i ++ kept_unless (first flags) (OfInit i) (args_acts (others flags) c rest)
