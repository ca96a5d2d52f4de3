-- Types are told apart exactly.
use Rattle.std.specs.Prelude.{◌≡◌, ℕ, true, ◌==◌, None, Some}
use Rattle.std.proofs.Common.{refl, ap, rules, subst}
use Rattle.std.proofs.lemmas.Map.Views.{exact_unsigned_eq}
use Rattle.co_base.specs.declared.ids.ClassId.{ClassId}
use Rattle.co_base.specs.declared.kinds.Num.{Num}
use Rattle.co_base.specs.declared.kinds.Num.TheVariants as num
use Rattle.co_base.specs.declared.kinds.AtomicKind.{AtomicKind}
use Rattle.co_base.specs.declared.kinds.AtomicKind.TheVariants as atomic
use Rattle.co_types.specs.declared.types.CoType.{CoType, end_of-CoType, more_of-CoType}
use Rattle.co_types.specs.declared.types.CoType.TheVariants as type
use Rattle.co_types.specs.declared.types.CoType.TheBlock.{shape-the_row-CoType-0, hidden-the_row-CoType-0, shown-the_row-CoType-0}
use Rattle.co_types.specs.Types.{same_atomic, same_num, same_type}

nums : (a b : Num) → same_num a b ≡ true → a ≡ b
nums num.Bool num.Bool e = refl
nums num.Int num.Int e = refl
nums num.Long num.Long e = refl
nums num.Size num.Size e = refl
nums a b e = cc

atomics : (a b : AtomicKind) → same_atomic a b ≡ true → a ≡ b
atomics atomic.Int atomic.Int e = refl
atomics atomic.Long atomic.Long e = refl
atomics atomic.Bool atomic.Bool e = refl
atomics atomic.VoidPointer atomic.VoidPointer e = refl
atomics a b e = cc

classes : (a b : ClassId) → (a.0 == b.0) ≡ true → a ≡ b
classes a b e = ap (λ n. record { 0 = n }) (exact_unsigned_eq a.0 b.0 e)

pub equal : (a b : CoType) → same_type a b ≡ true → a ≡ b
unfolding shape-the_row-CoType-0 hidden-the_row-CoType-0 shown-the_row-CoType-0 denote.Hole.Carrier.hidden
equal (type.Pointer' n (more_of-CoType a end_of-CoType)) (type.Pointer' m (more_of-CoType b end_of-CoType)) e = ap (λ t. type.Pointer' n (more_of-CoType t end_of-CoType)) (equal a b e)
equal (type.Ref' n (more_of-CoType a end_of-CoType)) (type.Ref' m (more_of-CoType b end_of-CoType)) e = ap (λ t. type.Ref' n (more_of-CoType t end_of-CoType)) (equal a b e)
equal (type.ConstRef' n (more_of-CoType a end_of-CoType)) (type.ConstRef' m (more_of-CoType b end_of-CoType)) e = ap (λ t. type.ConstRef' n (more_of-CoType t end_of-CoType)) (equal a b e)
equal (type.RefRef' n (more_of-CoType a end_of-CoType)) (type.RefRef' m (more_of-CoType b end_of-CoType)) e = ap (λ t. type.RefRef' n (more_of-CoType t end_of-CoType)) (equal a b e)
equal type.Void type.Void e = refl
equal (type.Num a) (type.Num b) e = ap type.Num (nums a b e)
equal (type.Class a) (type.Class b) e = ap type.Class (classes a b e)
equal (type.Handle None) (type.Handle None) e = refl
equal (type.Handle (Some a)) (type.Handle (Some b)) e = ap (λ c. type.Handle (Some c)) (classes a b e)
equal (type.Atomic a) (type.Atomic b) e = ap type.Atomic (atomics a b e)
equal type.ExceptionPtr type.ExceptionPtr e = refl
equal type.SuspendAlways type.SuspendAlways e = refl
equal type.SuspendNever type.SuspendNever e = refl
equal type.NullPtr type.NullPtr e = refl
equal a b e = cc

num_is : (a : Num) → same_num a a ≡ true
num_is num.Bool = refl
num_is num.Int = refl
num_is num.Long = refl
num_is num.Size = refl

atomic_is : (a : AtomicKind) → same_atomic a a ≡ true
atomic_is atomic.Int = refl
atomic_is atomic.Long = refl
atomic_is atomic.Bool = refl
atomic_is atomic.VoidPointer = refl

number_is : (n : ℕ) → (n == n) ≡ true
number_is n = search rules

pub reflexive : (a : CoType) → same_type a a ≡ true
reflexive (type.Pointer' n (more_of-CoType a end_of-CoType)) = reflexive a
reflexive (type.Ref' n (more_of-CoType a end_of-CoType)) = reflexive a
reflexive (type.ConstRef' n (more_of-CoType a end_of-CoType)) = reflexive a
reflexive (type.RefRef' n (more_of-CoType a end_of-CoType)) = reflexive a
reflexive type.Void = refl
reflexive (type.Num a) = num_is a
reflexive (type.Class a) = number_is a.0
reflexive (type.Handle None) = refl
reflexive (type.Handle (Some a)) = number_is a.0
reflexive (type.Atomic a) = atomic_is a
reflexive type.ExceptionPtr = refl
reflexive type.SuspendAlways = refl
reflexive type.SuspendNever = refl
reflexive type.NullPtr = refl

pub same : (a b : CoType) → a ≡ b → same_type a b ≡ true
same a b e = subst (λ x. same_type a x ≡ true) e (reflexive a)
