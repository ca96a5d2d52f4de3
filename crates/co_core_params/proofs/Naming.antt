-- A test of all acts, one list of acts before the other.
use Rattle.std.specs.Prelude.{◌≡◌, Bool, true, false, ◌&&◌, List, [], ◌∷◌}
use Rattle.std.specs.List.{list_all}
use Rattle.std.proofs.Common.{refl, ap, sym, ◌∙◌}
use Rattle.co_core_tree.specs.declared.exprs.Init.{Init}
use Rattle.co_core_tree.specs.declared.units.CoreFunc.{CoreFunc}
use Rattle.co_core_tree.specs.declared.units.PromisePlan.{PromisePlan}
use Rattle.co_core_tree.specs.Acts.{Act}
use Rattle.co_core.specs.Bodies.{await_acts, body_of, inits_fulls, joined_acts, placed_fulls}
use Rattle.co_core.specs.Plans.{act_names_no_param}
use Rattle.co_core_acts.specs.Visits.{back}
use Rattle.co_core_params.specs.declared.names.Unnamed.{Unnamed}
use Rattle.co_core_params.specs.Limited.{names_copies}
use Rattle.co_core_params.specs.Unnamed.{unnamed_after}

and_true : (b : Bool) → (b && true) ≡ b
and_true true = refl
and_true false = refl

and_front : (h p q : Bool) → ((h && q) && p) ≡ (h && (p && q))
and_front false p q = refl
and_front true true true = refl
and_front true true false = refl
and_front true false true = refl
and_front true false false = refl

and_turned : (a b : Bool) → (a && b) ≡ (b && a)
and_turned true true = refl
and_turned true false = refl
and_turned false true = refl
and_turned false false = refl

unnamed_back : (v : Unnamed) (acts : List Act) → back unnamed_after v acts ≡ record v { holds = v.holds && list_all (act_names_no_param v.func.now) acts }
unnamed_back v [] = ap (λ (b : Bool). record v { holds = b }) (sym (and_true v.holds))
unnamed_back v (a ∷ acts) =
    ap (λ (w : Unnamed). unnamed_after w a) (unnamed_back v acts)
    ∙ ap (λ (b : Bool). record v { holds = b }) (and_front v.holds (act_names_no_param v.func.now a) (list_all (act_names_no_param v.func.now) acts))

module _ (f : CoreFunc) where
  abbrev unnamed_in : List Act → Bool
  unnamed_in acts = list_all (act_names_no_param f) acts

  visited : (v w : Unnamed) (acts : List Act) → v.func.now ≡ f → w ≡ back unnamed_after v acts → (w.func.now ≡ f) × (w.holds ≡ (v.holds && unnamed_in acts))
  visited v w acts e m =
      let h : w ≡ record v { holds = v.holds && list_all (act_names_no_param v.func.now) acts } = m ∙ unnamed_back v acts in
      (ap (λ (u : Unnamed). u.func.now) h ∙ e, ap (λ (u : Unnamed). u.holds) h ∙ ap (λ g. v.holds && list_all (act_names_no_param g) acts) e)

  -- the acts are visited from the last to the first
  all_unnamed : (v v1 v2 v3 v4 : Unnamed) (args initial last body : List Act) → v.func.now ≡ f → v.holds ≡ true → v1 ≡ back unnamed_after v body → v2 ≡ back unnamed_after v1 last → v3 ≡ back unnamed_after v2 initial → v4 ≡ back unnamed_after v3 args →
      v4.holds ≡ (unnamed_in args && (unnamed_in initial && (unnamed_in last && unnamed_in body)))
  all_unnamed v v1 v2 v3 v4 args initial last body e holds m1 m2 m3 m4 =
      let h1 = visited v v1 body e m1 in
      let h2 = visited v1 v2 last h1.0 m2 in
      let h3 = visited v2 v3 initial h2.0 m3 in
      let h4 = visited v3 v4 args h3.0 m4 in
      let k1 : v1.holds ≡ unnamed_in body = h1.1 ∙ ap (λ b. b && unnamed_in body) holds in
      let k2 : v2.holds ≡ (unnamed_in last && unnamed_in body) = h2.1 ∙ ap (λ b. b && unnamed_in last) k1 ∙ and_turned (unnamed_in body) (unnamed_in last) in
      let k3 : v3.holds ≡ (unnamed_in initial && (unnamed_in last && unnamed_in body)) = h3.1 ∙ ap (λ b. b && unnamed_in initial) k2 ∙ and_turned (unnamed_in last && unnamed_in body) (unnamed_in initial) in
      h4.1 ∙ ap (λ b. b && unnamed_in args) k3 ∙ and_turned (unnamed_in initial && (unnamed_in last && unnamed_in body)) (unnamed_in args)

pub names_are : (funcs : List CoreFunc) (f : CoreFunc) (plan : PromisePlan) (inits : List Init) (v v1 v2 v3 v4 : Unnamed) → inits ≡ plan.ctor_args → v.func.now ≡ f → v.holds ≡ true → v1 ≡ back unnamed_after v (joined_acts funcs (placed_fulls funcs (body_of f))) → v2 ≡ back unnamed_after v1 (await_acts funcs plan.last) → v3 ≡ back unnamed_after v2 (await_acts funcs plan.initial) → v4 ≡ back unnamed_after v3 (joined_acts funcs (inits_fulls funcs inits)) →
    v4.holds ≡ names_copies funcs f plan
names_are funcs f plan inits v v1 v2 v3 v4 is e holds m1 m2 m3 m4 =
    all_unnamed f v v1 v2 v3 v4 (joined_acts funcs (inits_fulls funcs plan.ctor_args)) (await_acts funcs plan.initial) (await_acts funcs plan.last) (joined_acts funcs (placed_fulls funcs (body_of f))) e holds m1 m2 m3
    (m4 ∙ ap (λ l. back unnamed_after v3 (joined_acts funcs (inits_fulls funcs l))) is)
