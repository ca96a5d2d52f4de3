-- Types with other spans.
use Rattle.std.specs.Prelude.{◌≡◌, ◌≢◌, ℕ, List, [], ◌∷◌, Option, None, Some}
use Rattle.std.specs.Option.{option_map}
use Rattle.std.proofs.Common.{refl, ap, sym, ◌∙◌, subst, inl, inr}
use Rattle.co_base.specs.declared.kinds.AtomicKind.TheVariants as atomic
use Rattle.co_lex.specs.declared.token.Token.{Token}
use Rattle.co_lex.specs.declared.token.TokenKind.TheVariants as kind
use Rattle.co_lex.specs.declared.token.Word.TheVariants as word
use Rattle.co_tree.specs.declared.types.Path.{Path}
use Rattle.co_tree.specs.declared.types.SimpleType.{SimpleType}
use Rattle.co_tree.specs.declared.types.SimpleTypeKind.{SimpleTypeKind}
use Rattle.co_tree.specs.declared.types.SimpleTypeKind.TheVariants as simple
use Rattle.co_tree.specs.declared.types.Reference.{Reference}
use Rattle.co_tree.specs.declared.types.Reference.TheVariants as reference
use Rattle.co_tree.specs.declared.types.TypeId.{TypeId}
use Rattle.co_tree.specs.declared.expressions.Brackets.{Brackets}
use Rattle.co_tree.specs.declared.expressions.Brackets.TheVariants as brackets
use Rattle.co_tree.specs.Formed.{ClassPathIf, PlainKind, PlainBase, PlainType, IsAuto, LocalType, ResultType, is_class_call}
use Rattle.co_tree.specs.Piece.{w, if_said}
use Rattle.co_tree.specs.Strip.{first_place, strip_path, strip_kind, strip_base, strip_type}
use Rattle.co_tree.specs.Types.{names_after, path_names, path, handle, simple_kind, simple_type, reference_mark, type_id}
use Rattle.co_print_laws.proofs.Placed.{place_of, after, behind, Placed, nothing, by_token, by_node, both, by_rule, NoNodes, still, still_if, still_stars, Moved}

-- ---- paths

abbrev pub path_at : List Token → Path → Path
path_at ts p = record { names = p.names; span = place_of ts }

no_nodes_after : (ns : List (List ℕ)) → NoNodes (names_after ns)
no_nodes_after [] = tt
no_nodes_after (n ∷ ns) = no_nodes_after ns

no_nodes_path : (ns : List (List ℕ)) → NoNodes (path_names ns)
no_nodes_path [] = tt
no_nodes_path (n ∷ ns) = no_nodes_after ns

pub path_placed : {ts : List Token} (p : Path) → Placed ts (path p) (path (path_at ts p)) (behind (path_names p.names) ts)
path_placed p = by_node (still (path_names p.names) (no_nodes_path p.names))

pub record AlikePromise (C : List (List ℕ)) (p q : Option Path) : Type 0 where
  pub strip : option_map strip_path q ≡ option_map strip_path p
  pub formed : ClassPathIf C p → ClassPathIf C q

abbrev pub MovedPromise : List (List ℕ) → Option Path → List Token → Type 0
MovedPromise C p ts = Moved handle (AlikePromise C) p ts

pub promise_moved : (C : List (List ℕ)) (p : Option Path) (ts : List Token) → MovedPromise C p ts
promise_moved C None ts = record { it = None; rest = _; alike = record { strip = refl; formed = λ h. h }; placed = still (handle None) tt }
promise_moved C (Some p) ts = record {
  it = Some (path_at (after (after (after (after ts)))) p);
  rest = _;
  alike = record { strip = refl; formed = λ h. h };
  placed = by_token (by_token (by_token (by_token (both (path_placed p) (by_token nothing)))));
}

-- ---- what a type is built on

pub record AlikeKind (C : List (List ℕ)) (k l : SimpleTypeKind) : Type 0 where
  pub strip : strip_kind l ≡ strip_kind k
  pub plain : PlainKind C k → PlainKind C l
  pub auto : k ≡ simple.Auto → l ≡ simple.Auto
  pub class_call : (how : Brackets) → is_class_call l how ≡ is_class_call k how

abbrev pub MovedKind : List (List ℕ) → SimpleTypeKind → List Token → Type 0
MovedKind C k ts = Moved simple_kind (AlikeKind C) k ts

same_kind : (C : List (List ℕ)) (k : SimpleTypeKind) (ts : List Token) → NoNodes (simple_kind k) → MovedKind C k ts
same_kind C k ts h = record {
  it = k;
  rest = behind (simple_kind k) ts;
  alike = record { strip = refl; plain = λ p. p; auto = λ e. e; class_call = λ how. refl };
  placed = still (simple_kind k) h;
}

kind_moved : (C : List (List ℕ)) (k : SimpleTypeKind) (ts : List Token) → MovedKind C k ts
kind_moved C simple.Void ts = same_kind C simple.Void ts tt
kind_moved C simple.Bool ts = same_kind C simple.Bool ts tt
kind_moved C simple.Int ts = same_kind C simple.Int ts tt
kind_moved C simple.Long ts = same_kind C simple.Long ts tt
kind_moved C simple.Auto ts = same_kind C simple.Auto ts tt
kind_moved C simple.Size ts = same_kind C simple.Size ts tt
kind_moved C simple.ExceptionPtr ts = same_kind C simple.ExceptionPtr ts tt
kind_moved C simple.SuspendAlways ts = same_kind C simple.SuspendAlways ts tt
kind_moved C simple.SuspendNever ts = same_kind C simple.SuspendNever ts tt
kind_moved C (simple.Handle promise) ts =
    let p = promise_moved C promise ts in
    record { it = simple.Handle p.it; rest = p.rest; alike = record { strip = ap simple.Handle p.alike.strip; plain = p.alike.formed; auto = λ e. absurd (cc); class_call = λ how. refl }; placed = p.placed }
kind_moved C (simple.Atomic atomic.Int) ts = same_kind C (simple.Atomic atomic.Int) ts tt
kind_moved C (simple.Atomic atomic.Long) ts = same_kind C (simple.Atomic atomic.Long) ts tt
kind_moved C (simple.Atomic atomic.Bool) ts = same_kind C (simple.Atomic atomic.Bool) ts tt
kind_moved C (simple.Atomic atomic.VoidPointer) ts = same_kind C (simple.Atomic atomic.VoidPointer) ts tt
kind_moved C (simple.Class p) ts = record {
  it = simple.Class (path_at ts p);
  rest = _;
  alike = record { strip = refl; plain = λ p. p; auto = λ e. absurd (cc); class_call = class_call };
  placed = path_placed p;
}
  where
    class_call : (how : Brackets) → is_class_call (simple.Class (path_at ts p)) how ≡ is_class_call (simple.Class p) how
    class_call brackets.Parentheses = refl
    class_call brackets.Braces = refl

pub record AlikeBase (C : List (List ℕ)) (b c : SimpleType) : Type 0 where
  pub strip : strip_base c ≡ strip_base b
  pub plain : PlainBase C b → PlainBase C c
  pub auto : b.kind ≡ simple.Auto → c.kind ≡ simple.Auto
  pub class_call : (how : Brackets) → is_class_call c.kind how ≡ is_class_call b.kind how

abbrev pub MovedBase : List (List ℕ) → SimpleType → List Token → Type 0
MovedBase C b ts = Moved simple_type (AlikeBase C) b ts

pub base_moved : (C : List (List ℕ)) (b : SimpleType) (ts : List Token) → MovedBase C b ts
base_moved C b ts =
    let k = kind_moved C b.kind ts in
    record {
      it = record { kind = k.it; span = place_of ts };
      rest = k.rest;
      alike = record {
        strip = ap (λ z. record { kind = z; span = first_place }) k.alike.strip;
        plain = k.alike.plain;
        auto = k.alike.auto;
        class_call = k.alike.class_call;
      };
      placed = by_node k.placed;
    }

-- ---- types

pub record AlikeType (C : List (List ℕ)) (t u : TypeId) : Type 0 where
  pub strip : strip_type u ≡ strip_type t
  pub plain : PlainType C t → PlainType C u
  pub local : LocalType C t → LocalType C u
  pub result : ResultType C t → ResultType C u

abbrev pub MovedType : List (List ℕ) → TypeId → List Token → Type 0
MovedType C t ts = Moved type_id (AlikeType C) t ts

still_reference : {ts : List Token} (r : Reference) → Placed ts (reference_mark r) (reference_mark r) (behind (reference_mark r) ts)
still_reference reference.None = still [] tt
still_reference reference.Lvalue = still (reference_mark reference.Lvalue) tt
still_reference reference.Rvalue = still (reference_mark reference.Rvalue) tt

pub type_moved : (C : List (List ℕ)) (t : TypeId) (ts : List Token) → MovedType C t ts
type_moved C t ts =
    let base = base_moved C t.base (behind (if_said t.is_const (w word.Const)) ts) in
    let u : TypeId = record { is_const = t.is_const; base = base.it; is_const_after = t.is_const_after; pointers = t.pointers; reference = t.reference; span = place_of ts } in
    let auto : IsAuto t → IsAuto u = λ a. record { base = base.alike.auto a.base; before = a.before; after = a.after; pointers = a.pointers } in
    record {
      it = u;
      rest = _;
      alike = record {
        strip = ap (λ z. record { is_const = t.is_const; base = z; is_const_after = t.is_const_after; pointers = t.pointers; reference = t.reference; span = first_place }) base.alike.strip;
        plain = base.alike.plain;
        local = local_type C t u base.alike.plain auto refl;
        result = result_type C t u base.alike.plain auto refl;
      };
      placed = by_node (by_rule (both (still_if t.is_const (kind.Word word.Const)) (both base.placed (both (still_if t.is_const_after (kind.Word word.Const)) (both (still_stars t.pointers) (still_reference t.reference))))));
    }
  where
    local_type : (C : List (List ℕ)) (t u : TypeId) → (PlainType C t → PlainType C u) → (IsAuto t → IsAuto u) → u.reference ≡ t.reference → LocalType C t → LocalType C u
    local_type C t u plain auto e (inl h) = inl (plain h)
    local_type C t u plain auto e (inr h) = inr (auto h.0, subst (λ z. z ≢ reference.Rvalue) (sym e) h.1)

    result_type : (C : List (List ℕ)) (t u : TypeId) → (PlainType C t → PlainType C u) → (IsAuto t → IsAuto u) → u.reference ≡ t.reference → ResultType C t → ResultType C u
    result_type C t u plain auto e (inl h) = inl (plain h)
    result_type C t u plain auto e (inr h) = inr (auto h.0, e ∙ h.1)
