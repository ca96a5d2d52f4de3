-- Types, and when two are one.
use Rattle.std.specs.Prelude.{Bool, true, false, ◌&&◌, ◌==◌, Option, None, Some}
use Rattle.co_base.specs.declared.kinds.Num.{Num}
use Rattle.co_base.specs.declared.kinds.Num.TheVariants as num
use Rattle.co_base.specs.declared.kinds.AtomicKind.{AtomicKind}
use Rattle.co_base.specs.declared.kinds.AtomicKind.TheVariants as atomic
use Rattle.co_types.specs.declared.types.CoType.{CoType, end_of-CoType, more_of-CoType}
use Rattle.co_types.specs.declared.types.CoType.TheVariants as type
use Rattle.co_types.specs.declared.types.Head.{Head}
use Rattle.co_types.specs.declared.types.Head.TheVariants as head

-- a type without what it points or refers to
abbrev pub head_of : CoType → Head
head_of type.Void = head.Void
head_of (type.Num n) = head.Num n
head_of (type.Class c) = head.Class c
head_of (type.Pointer' n to) = head.Pointer
head_of (type.Ref' n to) = head.Ref
head_of (type.ConstRef' n to) = head.ConstRef
head_of (type.RefRef' n to) = head.RefRef
head_of (type.Handle p) = head.Handle p
head_of (type.Atomic k) = head.Atomic k
head_of type.ExceptionPtr = head.ExceptionPtr
head_of type.SuspendAlways = head.SuspendAlways
head_of type.SuspendNever = head.SuspendNever
head_of type.NullPtr = head.NullPtr

-- what a pointer points to, or a reference refers to
abbrev pub target_of : CoType → Option CoType
target_of (type.Pointer' n (more_of-CoType to end_of-CoType)) = Some to
target_of (type.Ref' n (more_of-CoType to end_of-CoType)) = Some to
target_of (type.ConstRef' n (more_of-CoType to end_of-CoType)) = Some to
target_of (type.RefRef' n (more_of-CoType to end_of-CoType)) = Some to
target_of t = None

abbrev pub same_num : Num → Num → Bool
same_num num.Bool num.Bool = true
same_num num.Int num.Int = true
same_num num.Long num.Long = true
same_num num.Size num.Size = true
same_num a b = false

abbrev pub same_atomic : AtomicKind → AtomicKind → Bool
same_atomic atomic.Int atomic.Int = true
same_atomic atomic.Long atomic.Long = true
same_atomic atomic.Bool atomic.Bool = true
same_atomic atomic.VoidPointer atomic.VoidPointer = true
same_atomic a b = false

abbrev pub same_head : Head → Head → Bool
same_head head.Void head.Void = true
same_head (head.Num a) (head.Num b) = same_num a b
same_head (head.Class a) (head.Class b) = a.0 == b.0
same_head head.Pointer head.Pointer = true
same_head head.Ref head.Ref = true
same_head head.ConstRef head.ConstRef = true
same_head head.RefRef head.RefRef = true
same_head (head.Handle None) (head.Handle None) = true
same_head (head.Handle (Some a)) (head.Handle (Some b)) = a.0 == b.0
same_head (head.Atomic a) (head.Atomic b) = same_atomic a b
same_head head.ExceptionPtr head.ExceptionPtr = true
same_head head.SuspendAlways head.SuspendAlways = true
same_head head.SuspendNever head.SuspendNever = true
same_head head.NullPtr head.NullPtr = true
same_head a b = false

-- whether a test holds of what a type points or refers to, where it does
abbrev pub on_target : (CoType → Bool) → Option CoType → Bool
on_target holds None = true
on_target holds (Some to) = holds to

-- Two types are one where they are so but for what they point or refer to, and that is one type too.
abbrev pub same_type : CoType → CoType → Bool
same_type (type.Pointer' n (more_of-CoType a end_of-CoType)) b = same_head head.Pointer (head_of b) && on_target (same_type a) (target_of b)
same_type (type.Ref' n (more_of-CoType a end_of-CoType)) b = same_head head.Ref (head_of b) && on_target (same_type a) (target_of b)
same_type (type.ConstRef' n (more_of-CoType a end_of-CoType)) b = same_head head.ConstRef (head_of b) && on_target (same_type a) (target_of b)
same_type (type.RefRef' n (more_of-CoType a end_of-CoType)) b = same_head head.RefRef (head_of b) && on_target (same_type a) (target_of b)
same_type a b = same_head (head_of a) (head_of b)
