-- A call has one choice.
use Rattle.std.specs.Prelude.{◌≡◌, ℕ, Bool, true, false, ◌==◌, List}
use Rattle.std.proofs.Common.{refl, ap, sym}
use Rattle.std.proofs.lemmas.Bool.{eqb-false}
use Rattle.std.proofs.lemmas.Map.Views.{exact_unsigned_eq}
use Rattle.co_types.specs.declared.classes.FuncInfo.{FuncInfo}
use Rattle.co_types.specs.declared.overloads.Arg.{Arg}
use Rattle.co_types.specs.declared.overloads.Choice.{Choice}
use Rattle.co_types.specs.declared.overloads.Choice.TheVariants as choice
use Rattle.co_types.specs.Choosing.{viable_at, IsBest, IsChoice}
use Rattle.co_types.proofs.Best.{clash, one_better}
use Rattle.std.specs.Prelude.{slice_get}

module _ (cs : List FuncInfo) (args : List Arg) where
  one_best : (j k : ℕ) (same : Bool) → (j == k) ≡ same → IsBest cs args j → IsBest cs args k → j ≡ k
  one_best j k true e a b = exact_unsigned_eq j k e
  one_best j k false e a b =
      let apart : j ≡ k → ⊥ = eqb-false j k e in
      absurd (one_better args (slice_get cs j) (slice_get cs k) (a.better k b.within (λ s. apart (sym s)) b.viable) (b.better j a.within apart a.viable))

  pub once : (x y : Choice) → IsChoice cs args x → IsChoice cs args y → x ≡ y
  once (choice.One j) (choice.One k) a b = ap choice.One (one_best j k (j == k) refl a b)
  once (choice.One j) choice.None a b = absurd (clash (viable_at cs args j) a.viable (b j a.within))
  once (choice.One j) choice.Several a b = absurd (b.1 j a)
  once choice.None (choice.One k) a b = absurd (clash (viable_at cs args k) b.viable (a k b.within))
  once choice.None choice.None a b = refl
  once choice.None choice.Several a b = absurd (clash (viable_at cs args b.0.0) b.0.2 (a b.0.0 b.0.1))
  once choice.Several (choice.One k) a b = absurd (a.1 k b)
  once choice.Several choice.None a b = absurd (clash (viable_at cs args a.0.0) a.0.2 (b a.0.0 a.0.1))
  once choice.Several choice.Several a b = refl
