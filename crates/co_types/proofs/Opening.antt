-- What the definitions on types come to at a type that points or refers to another.
use Rattle.std.specs.Prelude.{◌≡◌, ◌&&◌, Some}
use Rattle.std.proofs.Common.{refl}
use Rattle.co_types.specs.declared.types.CoType.{CoType}
use Rattle.co_types.specs.declared.types.CoType.TheVariants as type
use Rattle.co_types.specs.declared.types.Head.TheVariants as head
use Rattle.co_types.specs.Types.{head_of, on_target, same_head, same_type, target_of}
use Rattle.co_types.specs.declared.types.CoType.TheBlock.{shape-the_row-CoType-0, hidden-the_row-CoType-0, shown-the_row-CoType-0}

pub head_pointer : (to : CoType) → head_of (type.Pointer to) ≡ head.Pointer
unfolding shape-the_row-CoType-0 hidden-the_row-CoType-0 shown-the_row-CoType-0 denote.Hole.Carrier.hidden
head_pointer to = refl

pub target_pointer : (to : CoType) → target_of (type.Pointer to) ≡ Some to
unfolding shape-the_row-CoType-0 hidden-the_row-CoType-0 shown-the_row-CoType-0 denote.Hole.Carrier.hidden
target_pointer to = refl

pub same_pointer : (a b : CoType) → same_type (type.Pointer a) b ≡ (same_head head.Pointer (head_of b) && on_target (same_type a) (target_of b))
unfolding shape-the_row-CoType-0 hidden-the_row-CoType-0 shown-the_row-CoType-0 denote.Hole.Carrier.hidden
same_pointer a b = refl

pub head_ref : (to : CoType) → head_of (type.Ref to) ≡ head.Ref
unfolding shape-the_row-CoType-0 hidden-the_row-CoType-0 shown-the_row-CoType-0 denote.Hole.Carrier.hidden
head_ref to = refl

pub target_ref : (to : CoType) → target_of (type.Ref to) ≡ Some to
unfolding shape-the_row-CoType-0 hidden-the_row-CoType-0 shown-the_row-CoType-0 denote.Hole.Carrier.hidden
target_ref to = refl

pub same_ref : (a b : CoType) → same_type (type.Ref a) b ≡ (same_head head.Ref (head_of b) && on_target (same_type a) (target_of b))
unfolding shape-the_row-CoType-0 hidden-the_row-CoType-0 shown-the_row-CoType-0 denote.Hole.Carrier.hidden
same_ref a b = refl

pub head_constref : (to : CoType) → head_of (type.ConstRef to) ≡ head.ConstRef
unfolding shape-the_row-CoType-0 hidden-the_row-CoType-0 shown-the_row-CoType-0 denote.Hole.Carrier.hidden
head_constref to = refl

pub target_constref : (to : CoType) → target_of (type.ConstRef to) ≡ Some to
unfolding shape-the_row-CoType-0 hidden-the_row-CoType-0 shown-the_row-CoType-0 denote.Hole.Carrier.hidden
target_constref to = refl

pub same_constref : (a b : CoType) → same_type (type.ConstRef a) b ≡ (same_head head.ConstRef (head_of b) && on_target (same_type a) (target_of b))
unfolding shape-the_row-CoType-0 hidden-the_row-CoType-0 shown-the_row-CoType-0 denote.Hole.Carrier.hidden
same_constref a b = refl

pub head_refref : (to : CoType) → head_of (type.RefRef to) ≡ head.RefRef
unfolding shape-the_row-CoType-0 hidden-the_row-CoType-0 shown-the_row-CoType-0 denote.Hole.Carrier.hidden
head_refref to = refl

pub target_refref : (to : CoType) → target_of (type.RefRef to) ≡ Some to
unfolding shape-the_row-CoType-0 hidden-the_row-CoType-0 shown-the_row-CoType-0 denote.Hole.Carrier.hidden
target_refref to = refl

pub same_refref : (a b : CoType) → same_type (type.RefRef a) b ≡ (same_head head.RefRef (head_of b) && on_target (same_type a) (target_of b))
unfolding shape-the_row-CoType-0 hidden-the_row-CoType-0 shown-the_row-CoType-0 denote.Hole.Carrier.hidden
same_refref a b = refl

pub ruleset opened = (head_pointer, target_pointer, same_pointer, head_ref, target_ref, same_ref, head_constref, target_constref, same_constref, head_refref, target_refref, same_refref)
