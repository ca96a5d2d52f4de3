-- How much an agent has pending.
use Rattle.std.specs.Prelude.{ℕ, suc, ◌+◌, ◌*◌, List, [], ◌∷◌, length}
use Rattle.co_meaning_data.specs.Frames.{Activation, Agent, AddressOf, Answers, ArgumentMade, ArithRight, ArithWith, AwaitOperand, AwaitReady, AwaitResume, AwaitSuspend, BothRight, Building, Called, Calling, ChooseOne, CompareAt, Constructing, ConvertTo, DeleteEnded, DeleteOf, EitherRight, Ends, ExchangeFrom, ExchangePlace, ExchangeWith, FieldOf, Frame, Gives, Goes, Joined, LoadFrom, NewMade, NewTaken, Operands, Outcome, Passes, PickOne, Referent, ResultInto, RethrowOf, Returns, SameRight, SameWith, StoreInto, StoreValue, TempMade, TestOf, ThrowOf, ThrowRead, UpdateAt, UpdateFrom, UpdateValue, ValueInto}

-- the values that are kept while what stands above ends
abbrev pub kept_values : Outcome → ℕ
kept_values (Gives g) = 1
kept_values Passes = 0
kept_values (Goes going) = 0

-- One for a pending expression, and one for each value or place that it holds.
abbrev pub pending : Frame → ℕ
pending (FieldOf k) = 1
pending (Referent at) = 1
pending AddressOf = 1
pending (LoadFrom at) = 1
pending (StoreValue e at) = 1
pending (StoreInto g at) = 2
pending (ExchangePlace e at) = 1
pending (ExchangeWith p at) = 2
pending (ExchangeFrom p g at) = 3
pending (UpdateValue o n e old at) = 1
pending (UpdateAt o n g old at) = 2
pending (UpdateFrom o n g p old at) = 3
pending (ArithRight o n e at) = 1
pending (ArithWith o n g at) = 2
pending (ConvertTo n) = 1
pending TestOf = 1
pending (SameRight e at) = 1
pending (SameWith g at) = 2
pending (BothRight e) = 1
pending (EitherRight e) = 1
pending (PickOne x y) = 1
pending Joined = 1
pending (TempMade slot x) = 1
pending (ThrowOf of at) = 1
pending (ThrowRead class) = 1
pending (RethrowOf at) = 1
pending (Operands o given rest at) = suc (length given)
pending (CompareAt p q g at) = 4
pending (Calling call) = suc (length call.given)
pending (ArgumentMade x) = 1
pending (Called objects) = 1
pending (NewTaken plan) = 1
pending (NewMade x b plan) = 2
pending (DeleteOf plan) = 1
pending (DeleteEnded x b plan) = 2
pending (AwaitOperand plan into) = 1
pending (AwaitReady plan into) = 1
pending (AwaitSuspend plan into own) = 1
pending (AwaitResume plan into) = 1
pending (Answers n serial a own at) = 1
pending (ValueInto p at) = 2
pending ResultInto = 1
pending (ChooseOne x y p) = 1
pending (Building p built rest) = 2
pending (Constructing p class built rest body) = 2
pending (Ends rest outcome) = kept_values outcome
pending Returns = 1
pending f = 0

abbrev pub all_pending : List Frame → ℕ
all_pending [] = 0
all_pending (f ∷ fs) = pending f + all_pending fs

-- `need` tells how many words the slots of each function take.
module _ (need : ℕ → ℕ) where
  -- the words of an activation's slots and 8, and 4 for each expression that it has pending and each value that one holds
  abbrev pub activation_room : Activation → ℕ
  activation_room a = need a.func + 8 + 4 * all_pending a.frames

  abbrev pub activations_room : List Activation → ℕ
  activations_room [] = 0
  activations_room (a ∷ rest) = activation_room a + activations_room rest

  -- The room of an agent.
  abbrev pub room : Agent → ℕ
  room agent = activations_room agent.activations
