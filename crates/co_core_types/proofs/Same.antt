-- Two types of which one points and refers to nothing.
use Rattle.std.specs.Prelude.{◌≡◌}
use Rattle.std.proofs.Common.{refl}
use Rattle.co_base.specs.declared.ids.ClassId.{ClassId}
use Rattle.co_types.specs.declared.types.CoType.{CoType, end_of-CoType, more_of-CoType}
use Rattle.co_types.specs.declared.types.CoType.TheVariants as type
use Rattle.co_types.specs.declared.types.Head.TheVariants as head
use Rattle.co_types.specs.Types.{head_of, same_head, same_type}

pub same_class : (a : CoType) (c : ClassId) → same_type a (type.Class c) ≡ same_head (head_of a) (head.Class c)
same_class (type.Pointer' n (more_of-CoType a end_of-CoType)) c = refl
same_class (type.Ref' n (more_of-CoType a end_of-CoType)) c = refl
same_class (type.ConstRef' n (more_of-CoType a end_of-CoType)) c = refl
same_class (type.RefRef' n (more_of-CoType a end_of-CoType)) c = refl
same_class type.Void c = refl
same_class (type.Num n) c = refl
same_class (type.Class d) c = refl
same_class (type.Handle p) c = refl
same_class (type.Atomic k) c = refl
same_class type.ExceptionPtr c = refl
same_class type.SuspendAlways c = refl
same_class type.SuspendNever c = refl
same_class type.NullPtr c = refl

pub same_void : (a : CoType) → same_type a type.Void ≡ same_head (head_of a) head.Void
same_void (type.Pointer' n (more_of-CoType a end_of-CoType)) = refl
same_void (type.Ref' n (more_of-CoType a end_of-CoType)) = refl
same_void (type.ConstRef' n (more_of-CoType a end_of-CoType)) = refl
same_void (type.RefRef' n (more_of-CoType a end_of-CoType)) = refl
same_void type.Void = refl
same_void (type.Num n) = refl
same_void (type.Class d) = refl
same_void (type.Handle p) = refl
same_void (type.Atomic k) = refl
same_void type.ExceptionPtr = refl
same_void type.SuspendAlways = refl
same_void type.SuspendNever = refl
same_void type.NullPtr = refl

pub ruleset same = (same_class, same_void)
