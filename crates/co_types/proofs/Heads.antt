-- Two types by their heads.
use Rattle.std.specs.Prelude.{◌≡◌, true, false, ◌&&◌, None}
use Rattle.std.proofs.Common.{refl, ap}
use Rattle.co_types.specs.declared.types.CoType.{CoType, end_of-CoType, more_of-CoType}
use Rattle.co_types.specs.declared.types.CoType.TheVariants as type
use Rattle.co_types.specs.Types.{head_of, on_target, same_head, same_type, target_of}

-- types whose heads differ are two
pub heads_differ : (a b : CoType) → same_head (head_of a) (head_of b) ≡ false → same_type a b ≡ false
heads_differ (type.Pointer' n (more_of-CoType a end_of-CoType)) b h = ap (λ x. x && on_target (same_type a) (target_of b)) h
heads_differ (type.Ref' n (more_of-CoType a end_of-CoType)) b h = ap (λ x. x && on_target (same_type a) (target_of b)) h
heads_differ (type.ConstRef' n (more_of-CoType a end_of-CoType)) b h = ap (λ x. x && on_target (same_type a) (target_of b)) h
heads_differ (type.RefRef' n (more_of-CoType a end_of-CoType)) b h = ap (λ x. x && on_target (same_type a) (target_of b)) h
heads_differ type.Void b h = h
heads_differ (type.Num n) b h = h
heads_differ (type.Class c) b h = h
heads_differ (type.Handle p) b h = h
heads_differ (type.Atomic k) b h = h
heads_differ type.ExceptionPtr b h = h
heads_differ type.SuspendAlways b h = h
heads_differ type.SuspendNever b h = h
heads_differ type.NullPtr b h = h

-- types with one head are one, where the second points or refers to nothing
pub heads_alone : (a b : CoType) → same_head (head_of a) (head_of b) ≡ true → target_of b ≡ None → same_type a b ≡ true
heads_alone (type.Pointer' n (more_of-CoType a end_of-CoType)) b h e = rw (h, e) refl
heads_alone (type.Ref' n (more_of-CoType a end_of-CoType)) b h e = rw (h, e) refl
heads_alone (type.ConstRef' n (more_of-CoType a end_of-CoType)) b h e = rw (h, e) refl
heads_alone (type.RefRef' n (more_of-CoType a end_of-CoType)) b h e = rw (h, e) refl
heads_alone type.Void b h e = h
heads_alone (type.Num n) b h e = h
heads_alone (type.Class c) b h e = h
heads_alone (type.Handle p) b h e = h
heads_alone (type.Atomic k) b h e = h
heads_alone type.ExceptionPtr b h e = h
heads_alone type.SuspendAlways b h e = h
heads_alone type.SuspendNever b h e = h
heads_alone type.NullPtr b h e = h
