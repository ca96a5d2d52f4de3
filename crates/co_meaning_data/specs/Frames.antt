-- What the agents of a run are at: what each is doing, and what is left to be done after it.
use Rattle.std.specs.Prelude.{ℕ, Bool, List, Option, ℤ}
use Rattle.co_base.specs.declared.ids.ClassId.{ClassId}
use Rattle.co_base.specs.declared.ids.FuncId.{FuncId}
use Rattle.co_base.specs.declared.kinds.Num.{Num}
use Rattle.co_base.specs.declared.kinds.Op.{Op}
use Rattle.co_base.specs.declared.kinds.Thrown.{Thrown}
use Rattle.co_base.specs.declared.span.Span.{Span}
use Rattle.co_types.specs.declared.types.CoType.{CoType}
use Rattle.co_core_tree.specs.declared.exprs.AwaitPlan.{AwaitPlan}
use Rattle.co_core_tree.specs.declared.exprs.CoreExpr.{CoreExpr}
use Rattle.co_core_tree.specs.declared.exprs.DeletePlan.{DeletePlan}
use Rattle.co_core_tree.specs.declared.exprs.Init.{Init}
use Rattle.co_core_tree.specs.declared.exprs.NewPlan.{NewPlan}
use Rattle.co_core_tree.specs.declared.kinds.Answer.{Answer}
use Rattle.co_core_tree.specs.declared.kinds.AtomicOp.{AtomicOp}
use Rattle.co_core_tree.specs.declared.kinds.GivePlan.{GivePlan}
use Rattle.co_core_tree.specs.declared.kinds.HandleOp.{HandleOp}
use Rattle.co_core_tree.specs.declared.kinds.LibOp.{LibOp}
use Rattle.co_core_tree.specs.declared.stmts.CoreStmt.{CoreStmt}
use Rattle.co_core_tree.specs.declared.stmts.Handler.{Handler}
use Rattle.co_core_tree.specs.declared.units.CopyPlan.{CopyPlan}
use Rattle.co_meaning_data.specs.Store.{Place, Store}
use Rattle.co_meaning_data.specs.declared.events.Event.{Event}
use Rattle.co_meaning_data.specs.declared.values.Value.{Value}

-- ---- what an evaluation comes to

-- What an expression has given: the value of a scalar, the parts of a `std::exception_ptr`, a place, or nothing. A call that
-- gives an object of a class has made it at its own place, and gives nothing.
pub data Given : Type 0 where
  Scalar : (v : Value) → Given
  Parts : (vs : List Value) → Given
  At : (place : Place) → Given
  Nothing : Given

-- why frames are left before they are done [except.throw] [stmt.jump] [dcl.fct.def.coroutine]
pub data Going : Type 0 where
  Throwing : (value : Thrown) → Going
  Breaking : Going
  Continuing : Going
  Returning : (g : Given) → Going  -- out of a function, with what it gives
  Leaving : Going  -- to the final suspend point
  Destroying : Going  -- by the destruction of a suspended coroutine

-- what comes to a frame: what the expression above it has given, the end of what stands above it, or the leaving of it
pub data Outcome : Type 0 where
  Gives : (g : Given) → Outcome
  Passes : Outcome
  Goes : (going : Going) → Outcome

-- ---- what is left to be done

-- An object that is alive, or is to be, and the coroutine, if there is one, in which its birth and its death are seen.
pub record Alive : Type 0 where
  pub object : ℕ
  pub coroutine : Option ℕ

-- where an object stands while it is alive: in its block, in its full-expression, or with the promise
pub data Spot : Type 0 where
  InScope : Spot
  InFull : (slot : ℕ) → Spot
  InHold : Spot

-- A temporary of a full-expression: its slot, whether it has a mark, whether it is live, to which its mark is set, and its object,
-- once its birth was seen.
pub record Temporal : Type 0 where
  pub slot : ℕ
  pub marked : Bool
  pub live : Bool
  pub object : Option Alive

-- what is to end: a whole object, a part of one, or where a mark is set the object of a temporary
pub data Ending : Type 0 where
  EndsObject : (x : Alive) → Ending
  EndsPart : (place : Place) → Ending
  PassesMark : (object : Option Alive) → Ending

-- an act of the library whose operands are evaluated first
pub data Operation : Type 0 where
  OnHandle : (op : HandleOp) → Operation
  OnAtomic : (op : AtomicOp) → Operation
  OfLibrary : (op : LibOp) → Operation

-- A call whose arguments are evaluated: those that are there, the newest first, the objects among them that were made for class
-- parameters, the initializers left, where the result is made, if it is of a class, and the place in the text.
pub record Call : Type 0 where
  pub func : FuncId
  pub given : List Given
  pub objects : List ℕ
  pub rest : List Init
  pub into : Option Place
  pub at : Span

-- What stands around the frames of a coroutine's body: its number, the block of its frame, and its parameter copies and promise
-- that are alive, newest first.
pub record Hold : Type 0 where
  pub coroutine : ℕ
  pub block : ℕ
  pub alive : List Alive

-- One thing that is left to be done. In a list of frames the innermost stands first.
pub data Frame : Type 0 where
  -- expressions [expr]
  FieldOf : (field : ℕ) → Frame
  Referent : (at : Span) → Frame
  AddressOf : Frame
  LoadFrom : (at : Span) → Frame
  StoreValue : (place : CoreExpr) (at : Span) → Frame
  StoreInto : (value : Given) (at : Span) → Frame
  ExchangePlace : (value : CoreExpr) (at : Span) → Frame
  ExchangeWith : (place : Place) (at : Span) → Frame
  ExchangeFrom : (place : Place) (value : Given) (at : Span) → Frame
  UpdateValue : (op : Op) (num : Num) (place : CoreExpr) (old : Bool) (at : Span) → Frame
  UpdateAt : (op : Op) (num : Num) (value : Given) (old : Bool) (at : Span) → Frame
  UpdateFrom : (op : Op) (num : Num) (value : Given) (place : Place) (old : Bool) (at : Span) → Frame
  ArithRight : (op : Op) (num : Num) (right : CoreExpr) (at : Span) → Frame
  ArithWith : (op : Op) (num : Num) (left : Given) (at : Span) → Frame
  ConvertTo : (num : Num) → Frame
  TestOf : Frame
  SameRight : (right : CoreExpr) (at : Span) → Frame
  SameWith : (left : Given) (at : Span) → Frame
  BothRight : (right : CoreExpr) → Frame
  EitherRight : (right : CoreExpr) → Frame
  PickOne : (x y : CoreExpr) → Frame
  Joined : Frame  -- the end of a branch
  TempMade : (slot : ℕ) (x : Alive) → Frame
  ThrowOf : (of : CoType) (at : Span) → Frame
  ThrowRead : (class : ClassId) → Frame  -- awaits the members of a thrown object
  RethrowOf : (at : Span) → Frame
  Operands : (op : Operation) (given : List Given) (rest : List CoreExpr) (at : Span) → Frame
  CompareAt : (place expected : Place) (desired : Given) (at : Span) → Frame  -- awaits the expected value
  -- calls [expr.call]
  Calling : (call : Call) → Frame
  ArgumentMade : (x : ℕ) → Frame
  Called : (objects : List ℕ) → Frame  -- awaits the return, after which the objects of the class parameters die
  -- storage [expr.new] [expr.delete]
  NewTaken : (plan : NewPlan) → Frame
  NewMade : (x block : ℕ) (plan : NewPlan) → Frame
  DeleteOf : (plan : DeletePlan) → Frame
  DeleteEnded : (x block : ℕ) (plan : DeletePlan) → Frame
  -- awaits [expr.await]
  AwaitOperand : (plan : AwaitPlan) (into : Option Place) → Frame
  AwaitReady : (plan : AwaitPlan) (into : Option Place) → Frame
  AwaitSuspend : (plan : AwaitPlan) (into : Option Place) (own : List ℕ) → Frame  -- with the temporaries of the agent's own
  AwaitResume : (plan : AwaitPlan) (into : Option Place) → Frame
  Answers : (coroutine serial : ℕ) (answer : Answer) (own : List ℕ) (at : Span) → Frame  -- awaits what `await_suspend` gives
  -- initialization [dcl.init]
  ValueInto : (place : Place) (at : Span) → Frame
  ResultInto : Frame
  ChooseOne : (x y : Init) (place : Option Place) → Frame
  FieldMade : Frame  -- awaits the initialization of a field of the object of the next frame
  Building : (place : Place) (built : ℕ) (rest : List Init) → Frame  -- the fields below number `built` are made
  Constructing : (place : Place) (class : ClassId) (built : ℕ) (rest : List Init) (body : List CoreStmt) → Frame
  -- the ends of objects [class.dtor]
  FieldsEnd : (place : Place) (class : ClassId) → Frame  -- the fields end after the body of a destructor
  Ends : (rest : List Ending) (outcome : Outcome) → Frame
  ObjectEnds : (x : Alive) → Frame
  PartEnds : (place : Place) → Frame
  -- statements [stmt]
  Drops : Frame
  Full : (temporaries : List Temporal) → Frame  -- a full-expression, its last temporary first
  Scope : (alive : List Alive) (rest : List CoreStmt) → Frame
  Declares : (x : Alive) → Frame
  BranchOn : (x y : CoreStmt) → Frame
  LoopTest : (condition step : CoreExpr) (body : CoreStmt) → Frame
  LoopBody : (condition step : CoreExpr) (body : CoreStmt) → Frame
  LoopStep : (condition step : CoreExpr) (body : CoreStmt) → Frame
  Returns : Frame
  -- exceptions [except]
  Tries : (handlers : List Handler) → Frame
  Handled : Frame
  Border : Frame  -- a function that no exception may leave
  -- functions [dcl.fct.def]
  Function : (own : List ℕ) → Frame  -- the parameters that are its own, the last first
  -- coroutines [dcl.fct.def.coroutine]
  RampTake : Frame
  RampTaken : Frame
  RampCopies : (rest : List CopyPlan) → Frame
  RampMade : (x : Alive) → Frame  -- a parameter copy or the promise is being made
  RampResult : Frame  -- the result follows the promise
  RampBody : Frame  -- awaits the call that makes the result
  RampDone : Frame  -- awaits the return of the body
  NullDone : Frame  -- awaits what the call gives where there is no storage
  Holds : (hold : Hold) → Frame
  Closes : (coroutine block : ℕ) (outcome : Outcome) → Frame
  Started : Frame  -- the body follows the initial await
  Guards : (resumed : Bool) → Frame  -- the handler around the body, and whether the initial `await_resume` was reached
  Unhandled : Frame

-- ---- what is being done

pub data Doing : Type 0 where
  Idle : Doing
  Evaluate : (e : CoreExpr) (into : Option Place) → Doing
  Awaits : (plan : AwaitPlan) (into : Option Place) → Doing
  Initialize : (i : Init) (place : Option Place) → Doing  -- an object at a place, or a value
  Execute : (s : CoreStmt) → Doing
  Opens : (marks : ℕ) (first : Doing) → Doing  -- so many marks of a full-expression are still to be made unset
  Reads : (place : Place) (left : ℕ) (done : List Value) (at : Span) → Doing
  Writes : (initial : Bool) (place : Place) (done : ℕ) (left : List Value) (outcome : Outcome) (at : Span) → Doing
  Comes : (outcome : Outcome) → Doing
  IsBorn : (x : Alive) (spot : Spot) (outcome : Outcome) → Doing  -- the event of the birth of an object that is live
  Dies : (x : Alive) → Doing  -- the object ends, after its destructor
  HasDied : (coroutine x : ℕ) → Doing  -- the event of its death
  Draws : (block : ℕ) → Doing  -- the next coroutine number
  IsMade : (coroutine : ℕ) → Doing  -- the event of its making
  HasEnded : (coroutine block : ℕ) (outcome : Outcome) → Doing  -- the event of its end
  Releases : (block words : ℕ) (give : GivePlan) (outcome : Outcome) (at : Span) → Doing

-- ---- agents

pub data Kind : Type 0 where
  OfFunction : Kind
  OfRamp : Kind  -- the call of a coroutine
  OfBody : Kind
  OfDestroy : Kind
  OfParked : (coroutine serial : ℕ) (answer : Answer) → Kind

-- An activation: its function, the object of each slot, the coroutine whose slots these are, where a result of a class is made,
-- and what is left to be done. Control returns to the activation below it.
pub record Activation : Type 0 where
  pub kind : Kind
  pub func : ℕ
  pub slots : List (Option ℕ)
  pub coroutine : Option ℕ
  pub into : Option Place
  pub frames : List Frame

-- what a worker does: its activations, the newest first, and the exceptions that it handles, the newest first
pub record Agent : Type 0 where
  pub doing : Doing
  pub activations : List Activation
  pub handled : List Thrown
  pub halted : Bool

-- ---- coroutines

-- what a suspended coroutine has left to be done
pub record Continuation : Type 0 where
  pub slots : List (Option ℕ)
  pub frames : List Frame

-- the state of a coroutine; the serial counts its suspensions
pub data Condition : Type 0 where
  Running : (serial : ℕ) → Condition
  Suspended : (point serial : ℕ) (rest : Continuation) → Condition
  Final : (point serial : ℕ) (rest : Continuation) → Condition  -- suspended at its final suspend point
  Over : Condition  -- ended

-- a coroutine: its function, the block of its frame, and its promise, once that has an object
pub record Coroutine : Type 0 where
  pub func : ℕ
  pub block : ℕ
  pub promise : Option ℕ
  pub condition : Condition

-- ---- configurations

-- What all agents share: the store, the coroutines by number from 1 on, the posted handles, the oldest first, the value of `main`
-- once it has returned, and whether the run ended in an undefined act.
pub record Shared : Type 0 where
  pub store : Store
  pub coroutines : List Coroutine
  pub posted : List Value
  pub main : Option ℤ
  pub undefined : Bool

-- a run: what all agents share, the agents by number, and the events, the oldest first
pub record Config : Type 0 where
  pub shared : Shared
  pub agents : List Agent
  pub events : List Event
