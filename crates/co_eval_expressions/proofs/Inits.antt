-- How an object is initialized, at each form.
use Rattle.std.specs.Prelude.{◌≡◌, List, [], ◌∷◌, Option, None, Some}
use Rattle.std.proofs.Common.{refl, ap}
use Rattle.co_base.specs.declared.ids.FuncId.{FuncId}
use Rattle.co_core_tree.specs.declared.exprs.CoreExpr.{CoreExpr, items_hidden-the_row-Init-1}
use Rattle.co_core_tree.specs.declared.exprs.CoreExpr.TheBlock.{shape-the_row-Init-2, hidden-the_row-Init-2, shown-the_row-Init-2}
use Rattle.co_core_tree.specs.declared.exprs.Init.{Init}
use Rattle.co_core_tree.specs.declared.exprs.Init.TheVariants as init
use Rattle.co_meaning_data.specs.declared.values.Value.TheVariants as value
use Rattle.co_meaning_data.specs.Frames as meaning
use Rattle.co_meaning_data.specs.Store.{Place}
use Rattle.co_meaning_data.specs.Turn.{Local, gives, nowhere, pushed, under}
use Rattle.co_meaning.specs.Expressions.{initialize, members}

pub constructor : (f : FuncId) (args : List Init) (p : Place) (l : Local) → initialize (init.Ctor f args) (Some p) l ≡ under (meaning.Calling (record { func = f; given = meaning.At p ∷ []; objects = []; rest = args; into = None; at = nowhere })) (meaning.Comes meaning.Passes) (pushed meaning.Drops l)
constructor f args p l = ap (λ list. under (meaning.Calling (record { func = f; given = meaning.At p ∷ []; objects = []; rest = list; into = None; at = nowhere })) (meaning.Comes meaning.Passes) (pushed meaning.Drops l)) (items_hidden-the_row-Init-1 args)

pub by_members : (is : List Init) (p : Place) (l : Local) → initialize (init.Members is) (Some p) l ≡ members p is l
by_members is p l = ap (λ list. members p list l) (items_hidden-the_row-Init-1 is)

pub empty : (is : List Init) (l : Local) → initialize (init.Members is) None l ≡ gives (meaning.Scalar value.Empty) l
empty is l = refl

pub no_constructor : (f : FuncId) (args : List Init) (l : Local) → initialize (init.Ctor f args) None l ≡ None
no_constructor f args l = refl

pub choose : (e : CoreExpr) (x y : Init) (p : Option Place) (l : Local) → initialize (init.Choose e x y) p l ≡ under (meaning.ChooseOne x y p) (meaning.Evaluate e None) l
unfolding shape-the_row-Init-2 hidden-the_row-Init-2 shown-the_row-Init-2 denote.Hole.Carrier.hidden
choose e x y None l = refl
choose e x y (Some p) l = refl

pub ruleset initialized = (constructor, by_members, empty, no_constructor, choose)
