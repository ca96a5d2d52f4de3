-- The acts of each form, and the awaits among them.
use Rattle.std.specs.Prelude.{◌≡◌, ℕ, Bool, true, false, ◌||◌, List, [], ◌∷◌, ◌++◌}
use Rattle.std.proofs.Common.{refl, ap, ◌∙◌, drop}
use mathlib.Core.Former.{Count}
use Rattle.co_base.specs.declared.kinds.Num.{Num}
use Rattle.co_base.specs.declared.kinds.Op.{Op}
use Rattle.co_base.specs.declared.ids.FuncId.{FuncId}
use Rattle.co_base.specs.declared.ids.SlotId.{SlotId}
use Rattle.co_base.specs.declared.span.Span.{Span}
use Rattle.co_types.specs.declared.types.CoType.{CoType}
use Rattle.co_core_tree.specs.declared.kinds.HandleOp.{HandleOp}
use Rattle.co_core_tree.specs.declared.kinds.AtomicOp.{AtomicOp}
use Rattle.co_core_tree.specs.declared.kinds.LibOp.{LibOp}
use Rattle.co_core_tree.specs.declared.exprs.CoreExpr.{CoreExpr, Row_of-CoreExpr, end_of-CoreExpr, more_of-CoreExpr, items-the_row-CoreExpr, items_hidden-the_row-CoreExpr-4, Row_of-Init, end_of-Init, more_of-Init, items-the_row-Init, items_hidden-the_row-Init-1}
use Rattle.co_core_tree.specs.declared.exprs.CoreExpr.TheVariants as expr
use Rattle.co_core_tree.specs.declared.exprs.CoreExpr.TheBlock.{shape-the_row-CoreExpr-0, hidden-the_row-CoreExpr-0, shown-the_row-CoreExpr-0, shape-the_row-Init-2, hidden-the_row-Init-2, shown-the_row-Init-2, shape-the_row-AwaitPlan-3, hidden-the_row-AwaitPlan-3, shown-the_row-AwaitPlan-3, shape-the_row-NewPlan-5, hidden-the_row-NewPlan-5, shown-the_row-NewPlan-5, shape-the_row-DeletePlan-6, hidden-the_row-DeletePlan-6, shown-the_row-DeletePlan-6}
use Rattle.co_core_tree.specs.declared.exprs.Init.{Init}
use Rattle.co_core_tree.specs.declared.exprs.Init.TheVariants as init
use Rattle.co_core_tree.specs.declared.exprs.AwaitPlan.{AwaitPlan}
use Rattle.co_core_tree.specs.declared.exprs.NewPlan.{NewPlan}
use Rattle.co_core_tree.specs.declared.exprs.DeletePlan.{DeletePlan}
use Rattle.co_core_tree.specs.declared.units.CoreFunc.{CoreFunc}
use Rattle.co_core_tree.specs.Acts.{OfExpr, OfInit, Does, Starts, acts, args_acts, first, init_acts, kept, kept_unless, list_acts, members_acts, others, suspends, temp_act}
use Rattle.co_core_tree.specs.Slots.{class_params}
use Rattle.co_core_acts.specs.Visits.{arguments_acts, awaits_of, inits_acts, joined, operands_acts, plan_acts}
use Rattle.co_core_acts.proofs.Lists.{allocating, others_drop, plan_end, silent, silent_kept, silent_three, silent_two, suspending}

-- the row of a form that holds a list
abbrev init_row : CoreExpr → (n : Count) × Row_of-Init n
init_row (expr.Call' f n args at) = (_, args)
init_row e = (_, end_of-Init)

abbrev expr_row : CoreExpr → (n : Count) × Row_of-CoreExpr n
expr_row (expr.Handle' o n operands at) = (_, operands)
expr_row (expr.Atomic' o n operands at) = (_, operands)
expr_row (expr.Lib' o n operands at) = (_, operands)
expr_row e = (_, end_of-CoreExpr)

abbrev part_row : Init → (n : Count) × Row_of-Init n
part_row (init.Ctor' f n args) = (_, args)
part_row (init.Members' n members) = (_, members)
part_row i = (_, end_of-Init)

module _ (funcs : List CoreFunc) where
  pub acts_field : (c o : Bool) (e : CoreExpr) (k : ℕ) (at : Span) → acts (class_params funcs) c o (expr.Field e k at) ≡ acts (class_params funcs) c false e ++ Does c (expr.Field e k at) ∷ []
  unfolding shape-the_row-CoreExpr-0 hidden-the_row-CoreExpr-0 shown-the_row-CoreExpr-0 denote.Hole.Carrier.hidden
  acts_field c o e k at = refl

  pub awaits_field : (c o : Bool) (e : CoreExpr) (k : ℕ) (at : Span) → awaits_of funcs (acts (class_params funcs) c o (expr.Field e k at)) ≡ awaits_of funcs (acts (class_params funcs) c false e)
  unfolding shape-the_row-CoreExpr-0 hidden-the_row-CoreExpr-0 shown-the_row-CoreExpr-0 denote.Hole.Carrier.hidden
  awaits_field c o e k at = silent funcs (acts (class_params funcs) c false e) (Does c (expr.Field e k at)) refl

  pub acts_deref : (c o : Bool) (e : CoreExpr) (at : Span) → acts (class_params funcs) c o (expr.Deref e at) ≡ acts (class_params funcs) c false e ++ Does c (expr.Deref e at) ∷ []
  unfolding shape-the_row-CoreExpr-0 hidden-the_row-CoreExpr-0 shown-the_row-CoreExpr-0 denote.Hole.Carrier.hidden
  acts_deref c o e at = refl

  pub awaits_deref : (c o : Bool) (e : CoreExpr) (at : Span) → awaits_of funcs (acts (class_params funcs) c o (expr.Deref e at)) ≡ awaits_of funcs (acts (class_params funcs) c false e)
  unfolding shape-the_row-CoreExpr-0 hidden-the_row-CoreExpr-0 shown-the_row-CoreExpr-0 denote.Hole.Carrier.hidden
  awaits_deref c o e at = silent funcs (acts (class_params funcs) c false e) (Does c (expr.Deref e at)) refl

  pub acts_address : (c o : Bool) (e : CoreExpr) (at : Span) → acts (class_params funcs) c o (expr.Address e at) ≡ acts (class_params funcs) c false e ++ Does c (expr.Address e at) ∷ []
  unfolding shape-the_row-CoreExpr-0 hidden-the_row-CoreExpr-0 shown-the_row-CoreExpr-0 denote.Hole.Carrier.hidden
  acts_address c o e at = refl

  pub awaits_address : (c o : Bool) (e : CoreExpr) (at : Span) → awaits_of funcs (acts (class_params funcs) c o (expr.Address e at)) ≡ awaits_of funcs (acts (class_params funcs) c false e)
  unfolding shape-the_row-CoreExpr-0 hidden-the_row-CoreExpr-0 shown-the_row-CoreExpr-0 denote.Hole.Carrier.hidden
  awaits_address c o e at = silent funcs (acts (class_params funcs) c false e) (Does c (expr.Address e at)) refl

  pub acts_load : (c o : Bool) (e : CoreExpr) (at : Span) → acts (class_params funcs) c o (expr.Load e at) ≡ acts (class_params funcs) c false e ++ Does c (expr.Load e at) ∷ []
  unfolding shape-the_row-CoreExpr-0 hidden-the_row-CoreExpr-0 shown-the_row-CoreExpr-0 denote.Hole.Carrier.hidden
  acts_load c o e at = refl

  pub awaits_load : (c o : Bool) (e : CoreExpr) (at : Span) → awaits_of funcs (acts (class_params funcs) c o (expr.Load e at)) ≡ awaits_of funcs (acts (class_params funcs) c false e)
  unfolding shape-the_row-CoreExpr-0 hidden-the_row-CoreExpr-0 shown-the_row-CoreExpr-0 denote.Hole.Carrier.hidden
  awaits_load c o e at = silent funcs (acts (class_params funcs) c false e) (Does c (expr.Load e at)) refl

  pub acts_convert : (c o : Bool) (n : Num) (e : CoreExpr) (at : Span) → acts (class_params funcs) c o (expr.Convert n e at) ≡ acts (class_params funcs) c false e ++ Does c (expr.Convert n e at) ∷ []
  unfolding shape-the_row-CoreExpr-0 hidden-the_row-CoreExpr-0 shown-the_row-CoreExpr-0 denote.Hole.Carrier.hidden
  acts_convert c o n e at = refl

  pub awaits_convert : (c o : Bool) (n : Num) (e : CoreExpr) (at : Span) → awaits_of funcs (acts (class_params funcs) c o (expr.Convert n e at)) ≡ awaits_of funcs (acts (class_params funcs) c false e)
  unfolding shape-the_row-CoreExpr-0 hidden-the_row-CoreExpr-0 shown-the_row-CoreExpr-0 denote.Hole.Carrier.hidden
  awaits_convert c o n e at = silent funcs (acts (class_params funcs) c false e) (Does c (expr.Convert n e at)) refl

  pub acts_test : (c o : Bool) (e : CoreExpr) (at : Span) → acts (class_params funcs) c o (expr.Test e at) ≡ acts (class_params funcs) c false e ++ Does c (expr.Test e at) ∷ []
  unfolding shape-the_row-CoreExpr-0 hidden-the_row-CoreExpr-0 shown-the_row-CoreExpr-0 denote.Hole.Carrier.hidden
  acts_test c o e at = refl

  pub awaits_test : (c o : Bool) (e : CoreExpr) (at : Span) → awaits_of funcs (acts (class_params funcs) c o (expr.Test e at)) ≡ awaits_of funcs (acts (class_params funcs) c false e)
  unfolding shape-the_row-CoreExpr-0 hidden-the_row-CoreExpr-0 shown-the_row-CoreExpr-0 denote.Hole.Carrier.hidden
  awaits_test c o e at = silent funcs (acts (class_params funcs) c false e) (Does c (expr.Test e at)) refl

  pub acts_throw : (c o : Bool) (of : CoType) (e : CoreExpr) (at : Span) → acts (class_params funcs) c o (expr.Throw of e at) ≡ acts (class_params funcs) c false e ++ Does c (expr.Throw of e at) ∷ []
  unfolding shape-the_row-CoreExpr-0 hidden-the_row-CoreExpr-0 shown-the_row-CoreExpr-0 denote.Hole.Carrier.hidden
  acts_throw c o of e at = refl

  pub awaits_throw : (c o : Bool) (of : CoType) (e : CoreExpr) (at : Span) → awaits_of funcs (acts (class_params funcs) c o (expr.Throw of e at)) ≡ awaits_of funcs (acts (class_params funcs) c false e)
  unfolding shape-the_row-CoreExpr-0 hidden-the_row-CoreExpr-0 shown-the_row-CoreExpr-0 denote.Hole.Carrier.hidden
  awaits_throw c o of e at = silent funcs (acts (class_params funcs) c false e) (Does c (expr.Throw of e at)) refl

  pub acts_rethrow_ptr : (c o : Bool) (e : CoreExpr) (at : Span) → acts (class_params funcs) c o (expr.RethrowPtr e at) ≡ acts (class_params funcs) c false e ++ Does c (expr.RethrowPtr e at) ∷ []
  unfolding shape-the_row-CoreExpr-0 hidden-the_row-CoreExpr-0 shown-the_row-CoreExpr-0 denote.Hole.Carrier.hidden
  acts_rethrow_ptr c o e at = refl

  pub awaits_rethrow_ptr : (c o : Bool) (e : CoreExpr) (at : Span) → awaits_of funcs (acts (class_params funcs) c o (expr.RethrowPtr e at)) ≡ awaits_of funcs (acts (class_params funcs) c false e)
  unfolding shape-the_row-CoreExpr-0 hidden-the_row-CoreExpr-0 shown-the_row-CoreExpr-0 denote.Hole.Carrier.hidden
  awaits_rethrow_ptr c o e at = silent funcs (acts (class_params funcs) c false e) (Does c (expr.RethrowPtr e at)) refl

  pub acts_store : (c o : Bool) (p v : CoreExpr) (at : Span) → acts (class_params funcs) c o (expr.Store p v at) ≡ acts (class_params funcs) c false v ++ (kept (OfExpr v) (acts (class_params funcs) c false p) ++ Does c (expr.Store p v at) ∷ [])
  unfolding shape-the_row-CoreExpr-0 hidden-the_row-CoreExpr-0 shown-the_row-CoreExpr-0 denote.Hole.Carrier.hidden
  acts_store c o p v at = refl

  pub awaits_store : (c o : Bool) (p v : CoreExpr) (at : Span) → awaits_of funcs (acts (class_params funcs) c o (expr.Store p v at)) ≡ joined (awaits_of funcs (acts (class_params funcs) c false v)) (awaits_of funcs (acts (class_params funcs) c false p))
  unfolding shape-the_row-CoreExpr-0 hidden-the_row-CoreExpr-0 shown-the_row-CoreExpr-0 denote.Hole.Carrier.hidden
  awaits_store c o p v at = silent_kept funcs (acts (class_params funcs) c false v) (OfExpr v) (acts (class_params funcs) c false p) (Does c (expr.Store p v at)) refl

  pub acts_exchange : (c o : Bool) (p v : CoreExpr) (at : Span) → acts (class_params funcs) c o (expr.Exchange p v at) ≡ acts (class_params funcs) c false p ++ (kept (OfExpr p) (acts (class_params funcs) c false v) ++ Does c (expr.Exchange p v at) ∷ [])
  unfolding shape-the_row-CoreExpr-0 hidden-the_row-CoreExpr-0 shown-the_row-CoreExpr-0 denote.Hole.Carrier.hidden
  acts_exchange c o p v at = refl

  pub awaits_exchange : (c o : Bool) (p v : CoreExpr) (at : Span) → awaits_of funcs (acts (class_params funcs) c o (expr.Exchange p v at)) ≡ joined (awaits_of funcs (acts (class_params funcs) c false p)) (awaits_of funcs (acts (class_params funcs) c false v))
  unfolding shape-the_row-CoreExpr-0 hidden-the_row-CoreExpr-0 shown-the_row-CoreExpr-0 denote.Hole.Carrier.hidden
  awaits_exchange c o p v at = silent_kept funcs (acts (class_params funcs) c false p) (OfExpr p) (acts (class_params funcs) c false v) (Does c (expr.Exchange p v at)) refl

  pub acts_update : (c o : Bool) (op : Op) (n : Num) (p v : CoreExpr) (old : Bool) (at : Span) → acts (class_params funcs) c o (expr.Update op n p v old at) ≡ acts (class_params funcs) c false v ++ (kept (OfExpr v) (acts (class_params funcs) c false p) ++ Does c (expr.Update op n p v old at) ∷ [])
  unfolding shape-the_row-CoreExpr-0 hidden-the_row-CoreExpr-0 shown-the_row-CoreExpr-0 denote.Hole.Carrier.hidden
  acts_update c o op n p v old at = refl

  pub awaits_update : (c o : Bool) (op : Op) (n : Num) (p v : CoreExpr) (old : Bool) (at : Span) → awaits_of funcs (acts (class_params funcs) c o (expr.Update op n p v old at)) ≡ joined (awaits_of funcs (acts (class_params funcs) c false v)) (awaits_of funcs (acts (class_params funcs) c false p))
  unfolding shape-the_row-CoreExpr-0 hidden-the_row-CoreExpr-0 shown-the_row-CoreExpr-0 denote.Hole.Carrier.hidden
  awaits_update c o op n p v old at = silent_kept funcs (acts (class_params funcs) c false v) (OfExpr v) (acts (class_params funcs) c false p) (Does c (expr.Update op n p v old at)) refl

  pub acts_arith : (c o : Bool) (op : Op) (n : Num) (l r : CoreExpr) (at : Span) → acts (class_params funcs) c o (expr.Arith op n l r at) ≡ acts (class_params funcs) c false l ++ (kept (OfExpr l) (acts (class_params funcs) c false r) ++ Does c (expr.Arith op n l r at) ∷ [])
  unfolding shape-the_row-CoreExpr-0 hidden-the_row-CoreExpr-0 shown-the_row-CoreExpr-0 denote.Hole.Carrier.hidden
  acts_arith c o op n l r at = refl

  pub awaits_arith : (c o : Bool) (op : Op) (n : Num) (l r : CoreExpr) (at : Span) → awaits_of funcs (acts (class_params funcs) c o (expr.Arith op n l r at)) ≡ joined (awaits_of funcs (acts (class_params funcs) c false l)) (awaits_of funcs (acts (class_params funcs) c false r))
  unfolding shape-the_row-CoreExpr-0 hidden-the_row-CoreExpr-0 shown-the_row-CoreExpr-0 denote.Hole.Carrier.hidden
  awaits_arith c o op n l r at = silent_kept funcs (acts (class_params funcs) c false l) (OfExpr l) (acts (class_params funcs) c false r) (Does c (expr.Arith op n l r at)) refl

  pub acts_same : (c o : Bool) (l r : CoreExpr) (at : Span) → acts (class_params funcs) c o (expr.Same l r at) ≡ acts (class_params funcs) c false l ++ (kept (OfExpr l) (acts (class_params funcs) c false r) ++ Does c (expr.Same l r at) ∷ [])
  unfolding shape-the_row-CoreExpr-0 hidden-the_row-CoreExpr-0 shown-the_row-CoreExpr-0 denote.Hole.Carrier.hidden
  acts_same c o l r at = refl

  pub awaits_same : (c o : Bool) (l r : CoreExpr) (at : Span) → awaits_of funcs (acts (class_params funcs) c o (expr.Same l r at)) ≡ joined (awaits_of funcs (acts (class_params funcs) c false l)) (awaits_of funcs (acts (class_params funcs) c false r))
  unfolding shape-the_row-CoreExpr-0 hidden-the_row-CoreExpr-0 shown-the_row-CoreExpr-0 denote.Hole.Carrier.hidden
  awaits_same c o l r at = silent_kept funcs (acts (class_params funcs) c false l) (OfExpr l) (acts (class_params funcs) c false r) (Does c (expr.Same l r at)) refl

  pub acts_both : (c o : Bool) (l r : CoreExpr) (at : Span) → acts (class_params funcs) c o (expr.Both l r at) ≡ acts (class_params funcs) c false l ++ (acts (class_params funcs) true false r ++ Does c (expr.Both l r at) ∷ [])
  unfolding shape-the_row-CoreExpr-0 hidden-the_row-CoreExpr-0 shown-the_row-CoreExpr-0 denote.Hole.Carrier.hidden
  acts_both c o l r at = refl

  pub awaits_both : (c o : Bool) (l r : CoreExpr) (at : Span) → awaits_of funcs (acts (class_params funcs) c o (expr.Both l r at)) ≡ joined (awaits_of funcs (acts (class_params funcs) c false l)) (awaits_of funcs (acts (class_params funcs) true false r))
  unfolding shape-the_row-CoreExpr-0 hidden-the_row-CoreExpr-0 shown-the_row-CoreExpr-0 denote.Hole.Carrier.hidden
  awaits_both c o l r at = silent_two funcs (acts (class_params funcs) c false l) (acts (class_params funcs) true false r) (Does c (expr.Both l r at)) refl

  pub acts_either : (c o : Bool) (l r : CoreExpr) (at : Span) → acts (class_params funcs) c o (expr.Either l r at) ≡ acts (class_params funcs) c false l ++ (acts (class_params funcs) true false r ++ Does c (expr.Either l r at) ∷ [])
  unfolding shape-the_row-CoreExpr-0 hidden-the_row-CoreExpr-0 shown-the_row-CoreExpr-0 denote.Hole.Carrier.hidden
  acts_either c o l r at = refl

  pub awaits_either : (c o : Bool) (l r : CoreExpr) (at : Span) → awaits_of funcs (acts (class_params funcs) c o (expr.Either l r at)) ≡ joined (awaits_of funcs (acts (class_params funcs) c false l)) (awaits_of funcs (acts (class_params funcs) true false r))
  unfolding shape-the_row-CoreExpr-0 hidden-the_row-CoreExpr-0 shown-the_row-CoreExpr-0 denote.Hole.Carrier.hidden
  awaits_either c o l r at = silent_two funcs (acts (class_params funcs) c false l) (acts (class_params funcs) true false r) (Does c (expr.Either l r at)) refl

  pub acts_pick : (c o : Bool) (e x y : CoreExpr) (at : Span) → acts (class_params funcs) c o (expr.Pick e x y at) ≡ acts (class_params funcs) c false e ++ (acts (class_params funcs) true false x ++ (acts (class_params funcs) true false y ++ Does c (expr.Pick e x y at) ∷ []))
  unfolding shape-the_row-CoreExpr-0 hidden-the_row-CoreExpr-0 shown-the_row-CoreExpr-0 denote.Hole.Carrier.hidden
  acts_pick c o e x y at = refl

  pub awaits_pick : (c o : Bool) (e x y : CoreExpr) (at : Span) → awaits_of funcs (acts (class_params funcs) c o (expr.Pick e x y at)) ≡ joined (awaits_of funcs (acts (class_params funcs) c false e)) (joined (awaits_of funcs (acts (class_params funcs) true false x)) (awaits_of funcs (acts (class_params funcs) true false y)))
  unfolding shape-the_row-CoreExpr-0 hidden-the_row-CoreExpr-0 shown-the_row-CoreExpr-0 denote.Hole.Carrier.hidden
  awaits_pick c o e x y at = silent_three funcs (acts (class_params funcs) c false e) (acts (class_params funcs) true false x) (acts (class_params funcs) true false y) (Does c (expr.Pick e x y at)) refl

  pub acts_temp : (c o : Bool) (slot : SlotId) (i : Init) (at : Span) → acts (class_params funcs) c o (expr.Temp slot i at) ≡ init_acts (class_params funcs) c false i ++ temp_act c o (expr.Temp slot i at) ∷ []
  unfolding shape-the_row-Init-2 hidden-the_row-Init-2 shown-the_row-Init-2 denote.Hole.Carrier.hidden
  acts_temp c o slot i at = refl

  pub awaits_temp : (c o : Bool) (slot : SlotId) (i : Init) (at : Span) → awaits_of funcs (acts (class_params funcs) c o (expr.Temp slot i at)) ≡ awaits_of funcs (init_acts (class_params funcs) c false i)
  unfolding shape-the_row-Init-2 hidden-the_row-Init-2 shown-the_row-Init-2 denote.Hole.Carrier.hidden
  awaits_temp c o slot i at = silent funcs (init_acts (class_params funcs) c false i) (temp_act c o (expr.Temp slot i at)) (silent_temp o)
    where
      silent_temp : (b : Bool) → awaits_of funcs (temp_act c b (expr.Temp slot i at) ∷ []) ≡ record { any = false; in_new = false }
      silent_temp true = refl
      silent_temp false = refl

  pub acts_await : (c o : Bool) (p : AwaitPlan) → acts (class_params funcs) c o (expr.Await p) ≡ plan_acts funcs c p ++ Does c (expr.Await p) ∷ []
  unfolding shape-the_row-AwaitPlan-3 hidden-the_row-AwaitPlan-3 shown-the_row-AwaitPlan-3 denote.Hole.Carrier.hidden
  acts_await c o p = plan_end (acts (class_params funcs) c false p.operand) (acts (class_params funcs) c false p.ready) (acts (class_params funcs) c false p.suspend) (acts (class_params funcs) c false p.resume) (Does c (expr.Await p))

  pub awaits_await : (c o : Bool) (p : AwaitPlan) → awaits_of funcs (acts (class_params funcs) c o (expr.Await p)) ≡ record { any = true; in_new = (awaits_of funcs (plan_acts funcs c p)).in_new }
  unfolding shape-the_row-AwaitPlan-3 hidden-the_row-AwaitPlan-3 shown-the_row-AwaitPlan-3 denote.Hole.Carrier.hidden
  awaits_await c o p = ap (awaits_of funcs) (acts_await c o p) ∙ suspending funcs (plan_acts funcs c p) (Does c (expr.Await p)) refl

  pub acts_new : (c o : Bool) (p : NewPlan) → acts (class_params funcs) c o (expr.New p) ≡ init_acts (class_params funcs) (c || p.may_be_null) false p.init ++ Does c (expr.New p) ∷ []
  unfolding shape-the_row-NewPlan-5 hidden-the_row-NewPlan-5 shown-the_row-NewPlan-5 denote.Hole.Carrier.hidden
  acts_new c o p = refl

  pub awaits_new : (c o : Bool) (p : NewPlan) → awaits_of funcs (acts (class_params funcs) c o (expr.New p)) ≡ record { any = suspends (init_acts (class_params funcs) (c || p.may_be_null) false p.init); in_new = (awaits_of funcs (init_acts (class_params funcs) (c || p.may_be_null) false p.init)).in_new || suspends (init_acts (class_params funcs) false false p.init) }
  unfolding shape-the_row-NewPlan-5 hidden-the_row-NewPlan-5 shown-the_row-NewPlan-5 denote.Hole.Carrier.hidden
  awaits_new c o p = allocating funcs (init_acts (class_params funcs) (c || p.may_be_null) false p.init) (Does c (expr.New p)) _ refl

  pub acts_delete : (c o : Bool) (p : DeletePlan) → acts (class_params funcs) c o (expr.Delete p) ≡ acts (class_params funcs) c false p.pointer ++ Does c (expr.Delete p) ∷ []
  unfolding shape-the_row-DeletePlan-6 hidden-the_row-DeletePlan-6 shown-the_row-DeletePlan-6 denote.Hole.Carrier.hidden
  acts_delete c o p = refl

  pub awaits_delete : (c o : Bool) (p : DeletePlan) → awaits_of funcs (acts (class_params funcs) c o (expr.Delete p)) ≡ awaits_of funcs (acts (class_params funcs) c false p.pointer)
  unfolding shape-the_row-DeletePlan-6 hidden-the_row-DeletePlan-6 shown-the_row-DeletePlan-6 denote.Hole.Carrier.hidden
  awaits_delete c o p = silent funcs (acts (class_params funcs) c false p.pointer) (Does c (expr.Delete p)) refl

  rows_operands : (m : Count) (row : Row_of-CoreExpr m) (c : Bool) → list_acts (class_params funcs) c row ≡ operands_acts funcs c (items-the_row-CoreExpr m row)
  rows_operands m end_of-CoreExpr c = refl
  rows_operands m (more_of-CoreExpr e rest) c = ap (λ l. acts (class_params funcs) c false e ++ kept (OfExpr e) l) (rows_operands _ rest c)

  rows_members : (m : Count) (row : Row_of-Init m) (c : Bool) → members_acts (class_params funcs) c row ≡ inits_acts funcs c (items-the_row-Init m row)
  rows_members m end_of-Init c = refl
  rows_members m (more_of-Init i rest) c = ap (λ l. init_acts (class_params funcs) c false i ++ l) (rows_members _ rest c)

  rows_arguments : (m : Count) (row : Row_of-Init m) (flags : List Bool) (c : Bool) → args_acts (class_params funcs) flags c row ≡ arguments_acts funcs flags c (items-the_row-Init m row)
  rows_arguments m end_of-Init flags c = refl
  rows_arguments m (more_of-Init i rest) flags c = ap (λ l. init_acts (class_params funcs) c (first flags) i ++ kept_unless (first flags) (OfInit i) l) (rows_arguments _ rest (others flags) c)

  pub acts_call : (c o : Bool) (f : FuncId) (args : List Init) (at : Span) → acts (class_params funcs) c o (expr.Call f args at) ≡ arguments_acts funcs (class_params funcs f) c args ++ Does c (expr.Call f args at) ∷ []
  acts_call c o f args at = let row = init_row (expr.Call f args at) in ap (λ l. l ++ Does c (expr.Call f args at) ∷ []) (rows_arguments row.0 row.1 (class_params funcs f) c ∙ ap (arguments_acts funcs (class_params funcs f) c) (items_hidden-the_row-Init-1 args))

  pub awaits_call : (c o : Bool) (f : FuncId) (args : List Init) (at : Span) → awaits_of funcs (acts (class_params funcs) c o (expr.Call f args at)) ≡ awaits_of funcs (arguments_acts funcs (class_params funcs f) c args)
  awaits_call c o f args at = ap (awaits_of funcs) (acts_call c o f args at) ∙ silent funcs (arguments_acts funcs (class_params funcs f) c args) (Does c (expr.Call f args at)) refl

  pub acts_handle : (c o : Bool) (op : HandleOp) (operands : List CoreExpr) (at : Span) → acts (class_params funcs) c o (expr.Handle op operands at) ≡ operands_acts funcs c operands ++ Does c (expr.Handle op operands at) ∷ []
  acts_handle c o op operands at = let row = expr_row (expr.Handle op operands at) in ap (λ l. l ++ Does c (expr.Handle op operands at) ∷ []) (rows_operands row.0 row.1 c ∙ ap (operands_acts funcs c) (items_hidden-the_row-CoreExpr-4 operands))

  pub awaits_handle : (c o : Bool) (op : HandleOp) (operands : List CoreExpr) (at : Span) → awaits_of funcs (acts (class_params funcs) c o (expr.Handle op operands at)) ≡ awaits_of funcs (operands_acts funcs c operands)
  awaits_handle c o op operands at = ap (awaits_of funcs) (acts_handle c o op operands at) ∙ silent funcs (operands_acts funcs c operands) (Does c (expr.Handle op operands at)) refl

  pub acts_atomic : (c o : Bool) (op : AtomicOp) (operands : List CoreExpr) (at : Span) → acts (class_params funcs) c o (expr.Atomic op operands at) ≡ operands_acts funcs c operands ++ Does c (expr.Atomic op operands at) ∷ []
  acts_atomic c o op operands at = let row = expr_row (expr.Atomic op operands at) in ap (λ l. l ++ Does c (expr.Atomic op operands at) ∷ []) (rows_operands row.0 row.1 c ∙ ap (operands_acts funcs c) (items_hidden-the_row-CoreExpr-4 operands))

  pub awaits_atomic : (c o : Bool) (op : AtomicOp) (operands : List CoreExpr) (at : Span) → awaits_of funcs (acts (class_params funcs) c o (expr.Atomic op operands at)) ≡ awaits_of funcs (operands_acts funcs c operands)
  awaits_atomic c o op operands at = ap (awaits_of funcs) (acts_atomic c o op operands at) ∙ silent funcs (operands_acts funcs c operands) (Does c (expr.Atomic op operands at)) refl

  pub acts_lib : (c o : Bool) (op : LibOp) (operands : List CoreExpr) (at : Span) → acts (class_params funcs) c o (expr.Lib op operands at) ≡ operands_acts funcs c operands ++ Does c (expr.Lib op operands at) ∷ []
  acts_lib c o op operands at = let row = expr_row (expr.Lib op operands at) in ap (λ l. l ++ Does c (expr.Lib op operands at) ∷ []) (rows_operands row.0 row.1 c ∙ ap (operands_acts funcs c) (items_hidden-the_row-CoreExpr-4 operands))

  pub awaits_lib : (c o : Bool) (op : LibOp) (operands : List CoreExpr) (at : Span) → awaits_of funcs (acts (class_params funcs) c o (expr.Lib op operands at)) ≡ awaits_of funcs (operands_acts funcs c operands)
  awaits_lib c o op operands at = ap (awaits_of funcs) (acts_lib c o op operands at) ∙ silent funcs (operands_acts funcs c operands) (Does c (expr.Lib op operands at)) refl

  pub acts_ctor : (c o : Bool) (f : FuncId) (args : List Init) → init_acts (class_params funcs) c o (init.Ctor f args) ≡ arguments_acts funcs (drop 1 (class_params funcs f)) c args ++ Starts (init.Ctor f args) ∷ []
  acts_ctor c o f args = let row = part_row (init.Ctor f args) in ap (λ l. l ++ Starts (init.Ctor f args) ∷ []) (rows_arguments row.0 row.1 (others (class_params funcs f)) c ∙ ap (arguments_acts funcs (others (class_params funcs f)) c) (items_hidden-the_row-Init-1 args) ∙ ap (λ flags. arguments_acts funcs flags c args) (others_drop (class_params funcs f)))

  pub awaits_ctor : (c o : Bool) (f : FuncId) (args : List Init) → awaits_of funcs (init_acts (class_params funcs) c o (init.Ctor f args)) ≡ awaits_of funcs (arguments_acts funcs (drop 1 (class_params funcs f)) c args)
  awaits_ctor c o f args = ap (awaits_of funcs) (acts_ctor c o f args) ∙ silent funcs (arguments_acts funcs (drop 1 (class_params funcs f)) c args) (Starts (init.Ctor f args)) refl

  pub acts_members : (c o : Bool) (members : List Init) → init_acts (class_params funcs) c o (init.Members members) ≡ inits_acts funcs c members ++ Starts (init.Members members) ∷ []
  acts_members c o members = let row = part_row (init.Members members) in ap (λ l. l ++ Starts (init.Members members) ∷ []) (rows_members row.0 row.1 c ∙ ap (inits_acts funcs c) (items_hidden-the_row-Init-1 members))

  pub awaits_members : (c o : Bool) (members : List Init) → awaits_of funcs (init_acts (class_params funcs) c o (init.Members members)) ≡ awaits_of funcs (inits_acts funcs c members)
  awaits_members c o members = ap (awaits_of funcs) (acts_members c o members) ∙ silent funcs (inits_acts funcs c members) (Starts (init.Members members)) refl

  pub acts_value : (c o : Bool) (e : CoreExpr) → init_acts (class_params funcs) c o (init.Value e) ≡ acts (class_params funcs) c o e ++ Starts (init.Value e) ∷ []
  acts_value c o e = refl

  pub awaits_value : (c o : Bool) (e : CoreExpr) → awaits_of funcs (init_acts (class_params funcs) c o (init.Value e)) ≡ awaits_of funcs (acts (class_params funcs) c o e)
  awaits_value c o e = silent funcs (acts (class_params funcs) c o e) (Starts (init.Value e)) refl

  pub acts_result : (c o : Bool) (e : CoreExpr) → init_acts (class_params funcs) c o (init.Result e) ≡ acts (class_params funcs) c false e ++ Starts (init.Result e) ∷ []
  acts_result c o e = refl

  pub awaits_result : (c o : Bool) (e : CoreExpr) → awaits_of funcs (init_acts (class_params funcs) c o (init.Result e)) ≡ awaits_of funcs (acts (class_params funcs) c false e)
  awaits_result c o e = silent funcs (acts (class_params funcs) c false e) (Starts (init.Result e)) refl

  pub acts_choose : (c o : Bool) (e : CoreExpr) (x y : Init) → init_acts (class_params funcs) c o (init.Choose e x y) ≡ acts (class_params funcs) c false e ++ (init_acts (class_params funcs) true false x ++ (init_acts (class_params funcs) true false y ++ Starts (init.Choose e x y) ∷ []))
  unfolding shape-the_row-Init-2 hidden-the_row-Init-2 shown-the_row-Init-2 denote.Hole.Carrier.hidden
  acts_choose c o e x y = refl

  pub awaits_choose : (c o : Bool) (e : CoreExpr) (x y : Init) → awaits_of funcs (init_acts (class_params funcs) c o (init.Choose e x y)) ≡ joined (awaits_of funcs (acts (class_params funcs) c false e)) (joined (awaits_of funcs (init_acts (class_params funcs) true false x)) (awaits_of funcs (init_acts (class_params funcs) true false y)))
  unfolding shape-the_row-Init-2 hidden-the_row-Init-2 shown-the_row-Init-2 denote.Hole.Carrier.hidden
  awaits_choose c o e x y = silent_three funcs (acts (class_params funcs) c false e) (init_acts (class_params funcs) true false x) (init_acts (class_params funcs) true false y) (Starts (init.Choose e x y)) refl

pub ruleset opened = (acts_field, awaits_field, acts_deref, awaits_deref, acts_address, awaits_address, acts_load, awaits_load, acts_convert, awaits_convert, acts_test, awaits_test, acts_throw, awaits_throw, acts_rethrow_ptr, awaits_rethrow_ptr, acts_store, awaits_store, acts_exchange, awaits_exchange, acts_update, awaits_update, acts_arith, awaits_arith, acts_same, awaits_same, acts_both, awaits_both, acts_either, awaits_either, acts_pick, awaits_pick, acts_temp, awaits_temp, acts_await, awaits_await, acts_new, awaits_new, acts_delete, awaits_delete, acts_call, awaits_call, acts_handle, awaits_handle, acts_atomic, awaits_atomic, acts_lib, awaits_lib, acts_ctor, awaits_ctor, acts_members, awaits_members, acts_value, awaits_value, acts_result, awaits_result, acts_choose, awaits_choose)
