-- Where nothing awaits, nothing is kept.
use Rattle.std.specs.Prelude.{◌≡◌, Bool, true, false, ◌||◌, if◌then◌else◌, List, [], ◌∷◌, ◌++◌}
use Rattle.std.proofs.Common.{refl, ap, arith, length, sym, ◌∙◌}
use Rattle.std.proofs.lemmas.Bool.{true≢false}
use Rattle.co_base.specs.declared.ids.FuncId.{FuncId}
use Rattle.co_core_tree.specs.declared.exprs.CoreExpr.{CoreExpr, Row_of-CoreExpr, end_of-CoreExpr, more_of-CoreExpr, Row_of-Init, end_of-Init, more_of-Init, end_of-AwaitPlan, more_of-AwaitPlan, end_of-NewPlan, more_of-NewPlan, end_of-DeletePlan, more_of-DeletePlan}
use Rattle.co_core_tree.specs.declared.exprs.CoreExpr.TheVariants as expr
use Rattle.co_core_tree.specs.declared.exprs.Init.{Init}
use Rattle.co_core_tree.specs.declared.exprs.Init.TheVariants as init
use Rattle.co_core_tree.specs.Acts.{Act, Does, Passes, Starts, Keeps, Part, OfExpr, OfInit, acts, init_acts, list_acts, members_acts, args_acts, first, others, kept, kept_unless, temp_act, is_suspension, suspends}
use Rattle.co_core_tree.specs.Slots.{class_params, held_of}
use Rattle.co_core.specs.Laws.{KeepsForAwaitsAlone}

abbrev Calm : List Act → Type 0
Calm acts = suspends acts ≡ false → held_of acts ≡ []

left_false : (a b : Bool) → (a || b) ≡ false → a ≡ false
left_false false b h = refl
left_false true b h = h

right_false : (a b : Bool) → (a || b) ≡ false → b ≡ false
right_false false b h = h
right_false true b h = absurd (true≢false h)

some_is_not_none : (part : Part) (parts : List Part) → part ∷ parts ≡ [] → ⊥
some_is_not_none part parts h = omega (arith, ap length h)

joined_false : (a b : Bool) → a ≡ false → b ≡ false → (a || b) ≡ false
joined_false false b h k = k
joined_false true b h k = h

calm_front : (xs ys : List Act) → suspends (xs ++ ys) ≡ false → suspends xs ≡ false
calm_front [] ys h = refl
calm_front (x ∷ xs) ys h = joined_false (is_suspension x) (suspends xs) (left_false (is_suspension x) (suspends (xs ++ ys)) h) (calm_front xs ys (right_false (is_suspension x) (suspends (xs ++ ys)) h))

never_kept : (part : Part) (xs : List Act) → held_of (Keeps part ∷ xs) ≡ [] → ⊥
never_kept part xs h = some_is_not_none part (held_of xs) h

calm_append : (xs ys : List Act) → Calm xs → Calm ys → Calm (xs ++ ys)
calm_append [] ys p q h = q h
calm_append (Does c e ∷ xs) ys p q h =
    calm_append xs ys (λ k. p (joined_false (is_suspension (Does c e)) (suspends xs) (left_false (is_suspension (Does c e)) (suspends (xs ++ ys)) h) k)) q (right_false (is_suspension (Does c e)) (suspends (xs ++ ys)) h)
calm_append (Passes e ∷ xs) ys p q h = calm_append xs ys p q h
calm_append (Starts i ∷ xs) ys p q h = calm_append xs ys p q h
calm_append (Keeps part ∷ xs) ys p q h = absurd (never_kept part xs (p (calm_front xs ys h)))

kept_by : (part : Part) (ys : List Act) (b : Bool) → suspends ys ≡ b → Calm ys → Calm (if b then Keeps part ∷ ys else ys)
kept_by part ys true e p h = absurd (true≢false (sym e ∙ h))
kept_by part ys false e p h = p h

kept_calm : (part : Part) (ys : List Act) → Calm ys → Calm (kept part ys)
kept_calm part ys p = kept_by part ys (suspends ys) refl p

unless_calm : (b : Bool) (part : Part) (ys : List Act) → Calm ys → Calm (kept_unless b part ys)
unless_calm true part ys p = p
unless_calm false part ys p = kept_calm part ys p

temp_calm : (c o : Bool) (e : CoreExpr) → Calm (temp_act c o e ∷ [])
temp_calm c true e h = refl
temp_calm c false e h = refl

module _ (objects : FuncId → List Bool) where
  mutual
    calm : (c o : Bool) (e : CoreExpr) → Calm (acts objects c o e)
    calm c o (expr.Const num v at) = λ h. refl
    calm c o (expr.Null at) = λ h. refl
    calm c o (expr.Slot slot at) = λ h. refl
    calm c o (expr.Global k at) = λ h. refl
    calm c o (expr.Field' n (more_of-CoreExpr e end_of-CoreExpr) k at) = calm_append (acts objects c false e) (Does c (expr.Field' n (more_of-CoreExpr e end_of-CoreExpr) k at) ∷ []) (calm c false e) (λ h. refl)
    calm c o (expr.Deref' n (more_of-CoreExpr e end_of-CoreExpr) at) = calm_append (acts objects c false e) (Does c (expr.Deref' n (more_of-CoreExpr e end_of-CoreExpr) at) ∷ []) (calm c false e) (λ h. refl)
    calm c o (expr.Address' n (more_of-CoreExpr e end_of-CoreExpr) at) = calm_append (acts objects c false e) (Does c (expr.Address' n (more_of-CoreExpr e end_of-CoreExpr) at) ∷ []) (calm c false e) (λ h. refl)
    calm c o (expr.Whole k at) = λ h. refl
    calm c o (expr.Load' n (more_of-CoreExpr e end_of-CoreExpr) at) = calm_append (acts objects c false e) (Does c (expr.Load' n (more_of-CoreExpr e end_of-CoreExpr) at) ∷ []) (calm c false e) (λ h. refl)
    calm c o (expr.Store' n (more_of-CoreExpr place end_of-CoreExpr) m (more_of-CoreExpr value end_of-CoreExpr) at) = calm_append (acts objects c false value) ((kept (OfExpr value) (acts objects c false place) ++ Does c (expr.Store' n (more_of-CoreExpr place end_of-CoreExpr) m (more_of-CoreExpr value end_of-CoreExpr) at) ∷ [])) (calm c false value) (calm_append (kept (OfExpr value) (acts objects c false place)) (Does c (expr.Store' n (more_of-CoreExpr place end_of-CoreExpr) m (more_of-CoreExpr value end_of-CoreExpr) at) ∷ []) (kept_calm (OfExpr value) (acts objects c false place) (calm c false place)) (λ h. refl))
    calm c o (expr.Exchange' n (more_of-CoreExpr place end_of-CoreExpr) m (more_of-CoreExpr value end_of-CoreExpr) at) = calm_append (acts objects c false place) ((kept (OfExpr place) (acts objects c false value) ++ Does c (expr.Exchange' n (more_of-CoreExpr place end_of-CoreExpr) m (more_of-CoreExpr value end_of-CoreExpr) at) ∷ [])) (calm c false place) (calm_append (kept (OfExpr place) (acts objects c false value)) (Does c (expr.Exchange' n (more_of-CoreExpr place end_of-CoreExpr) m (more_of-CoreExpr value end_of-CoreExpr) at) ∷ []) (kept_calm (OfExpr place) (acts objects c false value) (calm c false value)) (λ h. refl))
    calm c o (expr.Update' op num n (more_of-CoreExpr place end_of-CoreExpr) m (more_of-CoreExpr value end_of-CoreExpr) old at) = calm_append (acts objects c false value) ((kept (OfExpr value) (acts objects c false place) ++ Does c (expr.Update' op num n (more_of-CoreExpr place end_of-CoreExpr) m (more_of-CoreExpr value end_of-CoreExpr) old at) ∷ [])) (calm c false value) (calm_append (kept (OfExpr value) (acts objects c false place)) (Does c (expr.Update' op num n (more_of-CoreExpr place end_of-CoreExpr) m (more_of-CoreExpr value end_of-CoreExpr) old at) ∷ []) (kept_calm (OfExpr value) (acts objects c false place) (calm c false place)) (λ h. refl))
    calm c o (expr.Arith' op num n (more_of-CoreExpr l end_of-CoreExpr) m (more_of-CoreExpr r end_of-CoreExpr) at) = calm_append (acts objects c false l) ((kept (OfExpr l) (acts objects c false r) ++ Does c (expr.Arith' op num n (more_of-CoreExpr l end_of-CoreExpr) m (more_of-CoreExpr r end_of-CoreExpr) at) ∷ [])) (calm c false l) (calm_append (kept (OfExpr l) (acts objects c false r)) (Does c (expr.Arith' op num n (more_of-CoreExpr l end_of-CoreExpr) m (more_of-CoreExpr r end_of-CoreExpr) at) ∷ []) (kept_calm (OfExpr l) (acts objects c false r) (calm c false r)) (λ h. refl))
    calm c o (expr.Convert' num n (more_of-CoreExpr e end_of-CoreExpr) at) = calm_append (acts objects c false e) (Does c (expr.Convert' num n (more_of-CoreExpr e end_of-CoreExpr) at) ∷ []) (calm c false e) (λ h. refl)
    calm c o (expr.Test' n (more_of-CoreExpr e end_of-CoreExpr) at) = calm_append (acts objects c false e) (Does c (expr.Test' n (more_of-CoreExpr e end_of-CoreExpr) at) ∷ []) (calm c false e) (λ h. refl)
    calm c o (expr.Same' n (more_of-CoreExpr l end_of-CoreExpr) m (more_of-CoreExpr r end_of-CoreExpr) at) = calm_append (acts objects c false l) ((kept (OfExpr l) (acts objects c false r) ++ Does c (expr.Same' n (more_of-CoreExpr l end_of-CoreExpr) m (more_of-CoreExpr r end_of-CoreExpr) at) ∷ [])) (calm c false l) (calm_append (kept (OfExpr l) (acts objects c false r)) (Does c (expr.Same' n (more_of-CoreExpr l end_of-CoreExpr) m (more_of-CoreExpr r end_of-CoreExpr) at) ∷ []) (kept_calm (OfExpr l) (acts objects c false r) (calm c false r)) (λ h. refl))
    calm c o (expr.Both' n (more_of-CoreExpr l end_of-CoreExpr) m (more_of-CoreExpr r end_of-CoreExpr) at) = calm_append (acts objects c false l) ((acts objects true false r ++ Does c (expr.Both' n (more_of-CoreExpr l end_of-CoreExpr) m (more_of-CoreExpr r end_of-CoreExpr) at) ∷ [])) (calm c false l) (calm_append (acts objects true false r) (Does c (expr.Both' n (more_of-CoreExpr l end_of-CoreExpr) m (more_of-CoreExpr r end_of-CoreExpr) at) ∷ []) (calm true false r) (λ h. refl))
    calm c o (expr.Either' n (more_of-CoreExpr l end_of-CoreExpr) m (more_of-CoreExpr r end_of-CoreExpr) at) = calm_append (acts objects c false l) ((acts objects true false r ++ Does c (expr.Either' n (more_of-CoreExpr l end_of-CoreExpr) m (more_of-CoreExpr r end_of-CoreExpr) at) ∷ [])) (calm c false l) (calm_append (acts objects true false r) (Does c (expr.Either' n (more_of-CoreExpr l end_of-CoreExpr) m (more_of-CoreExpr r end_of-CoreExpr) at) ∷ []) (calm true false r) (λ h. refl))
    calm c o (expr.Pick' n (more_of-CoreExpr e end_of-CoreExpr) m (more_of-CoreExpr x end_of-CoreExpr) k (more_of-CoreExpr y end_of-CoreExpr) at) = calm_append (acts objects c false e) ((acts objects true false x ++ (acts objects true false y ++ Does c (expr.Pick' n (more_of-CoreExpr e end_of-CoreExpr) m (more_of-CoreExpr x end_of-CoreExpr) k (more_of-CoreExpr y end_of-CoreExpr) at) ∷ []))) (calm c false e) (calm_append (acts objects true false x) ((acts objects true false y ++ Does c (expr.Pick' n (more_of-CoreExpr e end_of-CoreExpr) m (more_of-CoreExpr x end_of-CoreExpr) k (more_of-CoreExpr y end_of-CoreExpr) at) ∷ [])) (calm true false x) (calm_append (acts objects true false y) (Does c (expr.Pick' n (more_of-CoreExpr e end_of-CoreExpr) m (more_of-CoreExpr x end_of-CoreExpr) k (more_of-CoreExpr y end_of-CoreExpr) at) ∷ []) (calm true false y) (λ h. refl)))
    calm c o (expr.Call' f n args at) = calm_append (args_acts objects (objects f) c args) (Does c (expr.Call' f n args at) ∷ []) (args_calm (objects f) c args) (λ h. refl)
    calm c o (expr.Temp' slot n (more_of-Init i end_of-Init) at) = calm_append (init_acts objects c false i) (temp_act c o (expr.Temp' slot n (more_of-Init i end_of-Init) at) ∷ []) (init_calm c false i) (temp_calm c o (expr.Temp' slot n (more_of-Init i end_of-Init) at))
    calm c o (expr.Throw' of n (more_of-CoreExpr e end_of-CoreExpr) at) = calm_append (acts objects c false e) (Does c (expr.Throw' of n (more_of-CoreExpr e end_of-CoreExpr) at) ∷ []) (calm c false e) (λ h. refl)
    calm c o (expr.Rethrow at) = λ h. refl
    calm c o (expr.Terminate at) = λ h. refl
    calm c o (expr.Current at) = λ h. refl
    calm c o (expr.RethrowPtr' n (more_of-CoreExpr e end_of-CoreExpr) at) = calm_append (acts objects c false e) (Does c (expr.RethrowPtr' n (more_of-CoreExpr e end_of-CoreExpr) at) ∷ []) (calm c false e) (λ h. refl)
    calm c o (expr.Await' n (more_of-AwaitPlan operand holder ready suspend answer resume point span end_of-AwaitPlan)) = calm_append (acts objects c false operand) ((acts objects c false ready ++ (acts objects c false suspend ++ (acts objects c false resume ++ Does c (expr.Await' n (more_of-AwaitPlan operand holder ready suspend answer resume point span end_of-AwaitPlan)) ∷ [])))) (calm c false operand) (calm_append (acts objects c false ready) ((acts objects c false suspend ++ (acts objects c false resume ++ Does c (expr.Await' n (more_of-AwaitPlan operand holder ready suspend answer resume point span end_of-AwaitPlan)) ∷ []))) (calm c false ready) (calm_append (acts objects c false suspend) ((acts objects c false resume ++ Does c (expr.Await' n (more_of-AwaitPlan operand holder ready suspend answer resume point span end_of-AwaitPlan)) ∷ [])) (calm c false suspend) (calm_append (acts objects c false resume) (Does c (expr.Await' n (more_of-AwaitPlan operand holder ready suspend answer resume point span end_of-AwaitPlan)) ∷ []) (calm c false resume) (λ h. refl))))
    calm c o (expr.Handle' op n operands at) = calm_append (list_acts objects c operands) (Does c (expr.Handle' op n operands at) ∷ []) (list_calm c operands) (λ h. refl)
    calm c o (expr.Atomic' op n operands at) = calm_append (list_acts objects c operands) (Does c (expr.Atomic' op n operands at) ∷ []) (list_calm c operands) (λ h. refl)
    calm c o (expr.Lib' op n operands at) = calm_append (list_acts objects c operands) (Does c (expr.Lib' op n operands at) ∷ []) (list_calm c operands) (λ h. refl)
    calm c o (expr.New' n (more_of-NewPlan of take may_be_null i give span end_of-NewPlan)) = calm_append (init_acts objects (c || may_be_null) false i) (Does c (expr.New' n (more_of-NewPlan of take may_be_null i give span end_of-NewPlan)) ∷ []) (init_calm (c || may_be_null) false i) (λ h. refl)
    calm c o (expr.Delete' n (more_of-DeletePlan of pointer destroy give span end_of-DeletePlan)) = calm_append (acts objects c false pointer) (Does c (expr.Delete' n (more_of-DeletePlan of pointer destroy give span end_of-DeletePlan)) ∷ []) (calm c false pointer) (λ h. refl)

    init_calm : (c o : Bool) (i : Init) → Calm (init_acts objects c o i)
    init_calm c o (init.Ctor' f n args) = calm_append (args_acts objects (others (objects f)) c args) (Starts (init.Ctor' f n args) ∷ []) (args_calm (others (objects f)) c args) (λ h. refl)
    init_calm c o (init.Members' n members) = calm_append (members_acts objects c members) (Starts (init.Members' n members) ∷ []) (members_calm c members) (λ h. refl)
    init_calm c o (init.Value e) = calm_append (acts objects c o e) (Starts (init.Value e) ∷ []) (calm c o e) (λ h. refl)
    init_calm c o (init.Result e) = calm_append (acts objects c false e) (Starts (init.Result e) ∷ []) (calm c false e) (λ h. refl)
    init_calm c o init.Raw = λ h. refl
    init_calm c o (init.Choose' e n (more_of-Init x end_of-Init) m (more_of-Init y end_of-Init)) = calm_append (acts objects c false e) ((init_acts objects true false x ++ (init_acts objects true false y ++ Starts (init.Choose' e n (more_of-Init x end_of-Init) m (more_of-Init y end_of-Init)) ∷ []))) (calm c false e) (calm_append (init_acts objects true false x) ((init_acts objects true false y ++ Starts (init.Choose' e n (more_of-Init x end_of-Init) m (more_of-Init y end_of-Init)) ∷ [])) (init_calm true false x) (calm_append (init_acts objects true false y) (Starts (init.Choose' e n (more_of-Init x end_of-Init) m (more_of-Init y end_of-Init)) ∷ []) (init_calm true false y) (λ h. refl)))

    list_calm : {m : _} (c : Bool) (row : Row_of-CoreExpr m) → Calm (list_acts objects c row)
    list_calm c end_of-CoreExpr = λ h. refl
    list_calm c (more_of-CoreExpr e rest) = calm_append (acts objects c false e) (kept (OfExpr e) (list_acts objects c rest)) (calm c false e) (kept_calm (OfExpr e) (list_acts objects c rest) (list_calm c rest))

    members_calm : {m : _} (c : Bool) (row : Row_of-Init m) → Calm (members_acts objects c row)
    members_calm c end_of-Init = λ h. refl
    members_calm c (more_of-Init i rest) = calm_append (init_acts objects c false i) (members_acts objects c rest) (init_calm c false i) (members_calm c rest)

    args_calm : {m : _} (flags : List Bool) (c : Bool) (row : Row_of-Init m) → Calm (args_acts objects flags c row)
    args_calm flags c end_of-Init = λ h. refl
    args_calm flags c (more_of-Init i rest) =
        calm_append (init_acts objects c (first flags) i) (kept_unless (first flags) (OfInit i) (args_acts objects (others flags) c rest)) (init_calm c (first flags) i)
        (unless_calm (first flags) (OfInit i) (args_acts objects (others flags) c rest) (args_calm (others flags) c rest))

pub keeps_for_awaits : KeepsForAwaitsAlone
keeps_for_awaits funcs e = calm (class_params funcs) false false e
