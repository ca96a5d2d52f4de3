-- Declarations and whole trees with other spans.
use Rattle.std.specs.Prelude.{◌≡◌, ℕ, List, [], ◌∷◌, Option, None, Some, map}
use Rattle.std.specs.List.{AllByRecursion}
use Rattle.std.specs.Option.{option_map}
use Rattle.std.proofs.Common.{refl, ap}
use mathlib.Core.Former.{Count}
use Rattle.co_lex.specs.declared.token.Token.{Token}
use Rattle.co_lex.specs.declared.token.TokenKind.TheVariants as kind
use Rattle.co_lex.specs.declared.token.Word.TheVariants as word
use Rattle.co_tree.specs.declared.declarations.Parameter.{Parameter}
use Rattle.co_tree.specs.declared.declarations.ForwardDeclaration.{ForwardDeclaration}
use Rattle.co_tree.specs.declared.declarations.AliasDeclaration.{AliasDeclaration}
use Rattle.co_tree.specs.declared.declarations.FunctionSpecifier.{FunctionSpecifier}
use Rattle.co_tree.specs.declared.declarations.FunctionName.{FunctionName}
use Rattle.co_tree.specs.declared.declarations.FunctionName.TheVariants as function_name
use Rattle.co_tree.specs.declared.declarations.Function.{Function}
use Rattle.co_tree.specs.declared.declarations.MemberInitializer.{MemberInitializer}
use Rattle.co_tree.specs.declared.declarations.ConstructorBody.{ConstructorBody}
use Rattle.co_tree.specs.declared.declarations.ConstructorBody.TheVariants as constructor_body
use Rattle.co_tree.specs.declared.declarations.Constructor.{Constructor}
use Rattle.co_tree.specs.declared.declarations.DestructorBody.{DestructorBody}
use Rattle.co_tree.specs.declared.declarations.DestructorBody.TheVariants as destructor_body
use Rattle.co_tree.specs.declared.declarations.Destructor.{Destructor}
use Rattle.co_tree.specs.declared.declarations.ClassDefinition.{ClassDefinition}
use Rattle.co_tree.specs.declared.declarations.MemberDeclaration.{MemberDeclaration, Row_of-MemberDeclaration, end_of-MemberDeclaration, more_of-MemberDeclaration}
use Rattle.co_tree.specs.declared.declarations.MemberDeclaration.TheVariants as member_of
use Rattle.co_tree.specs.declared.declarations.Declaration.{Declaration}
use Rattle.co_tree.specs.declared.declarations.Declaration.TheVariants as declaration
use Rattle.co_tree.specs.declared.statements.Block.{Block}
use Rattle.co_tree.specs.FormedTree.{FormedParameters, FormedBody, HasBody, FormedFunction, FormedMethod, FormedForward, FormedAlias, FormedMemberInitializer, FormedConstructorBody, FormedConstructor, FormedDestructorBody, FormedDestructor, FormedMember, FormedMembers, FormedClass, FormedDeclaration}
use Rattle.co_tree.specs.Piece.{if_said, w}
use Rattle.co_tree.specs.Declarations.{forward, alias, specifiers, function_named, parameters_after, parameters, block_or_semicolon, function, member_initializer, member_initializers_after, member_initializers, constructor_end, constructor, destructor_end, destructor, member, row_members, members, class, item, items}
use Rattle.co_tree.specs.Strip.{first_place, strip_parameter, strip_block, strip_forward, strip_alias, strip_function, strip_member_initializer, strip_constructor_body, strip_constructor, strip_destructor_body, strip_destructor, strip_member, strip_members, strip_class, strip_declaration}
use Rattle.co_print_laws.proofs.Congruence.{ap_two, ap_three}
use Rattle.co_print_laws.proofs.Placed.{place_of, after, behind, Placed, nothing, by_token, by_line, by_node, both, by_parentheses, by_braces, NoNodes, still, still_if, Moved}
use Rattle.co_print_laws.proofs.Types.{type_moved}
use Rattle.co_print_laws.proofs.Expressions.{by_brackets}
use Rattle.co_print_laws.proofs.Statements.{all_moved, variable_moved, parameter_moved, block_moved}

-- ---- forward declarations and aliases

pub record AlikeForward (f g : ForwardDeclaration) : Type 0 where
  pub strip : strip_forward g ≡ strip_forward f
  pub formed : FormedForward f → FormedForward g

forward_moved : (f : ForwardDeclaration) (ts : List Token) → Moved forward AlikeForward f ts
forward_moved f ts = record {
  it = record { key = f.key; name = f.name; span = place_of ts };
  rest = _;
  alike = record { strip = refl; formed = λ h. h };
  placed = by_node (by_token (by_token (by_token nothing)));
}

pub record AlikeAlias (C : List (List ℕ)) (a b : AliasDeclaration) : Type 0 where
  pub strip : strip_alias b ≡ strip_alias a
  pub formed : FormedAlias C a → FormedAlias C b

alias_moved : (C : List (List ℕ)) (a : AliasDeclaration) (ts : List Token) → Moved alias (AlikeAlias C) a ts
alias_moved C a ts =
    let t = type_moved C a.of (after (after (after ts))) in
    record {
      it = record { name = a.name; of = t.it; span = place_of ts };
      rest = after t.rest;
      alike = record { strip = ap (λ z. record { name = a.name; of = z; span = first_place }) t.alike.strip; formed = λ h. (h.0, t.alike.plain h.1) };
      placed = by_node (by_token (by_token (by_token (both t.placed (by_token nothing)))));
    }

-- ---- functions

still_specifiers : {ts : List Token} (ss : List FunctionSpecifier) → Placed ts (specifiers ss) (specifiers ss) (behind (specifiers ss) ts)
still_specifiers ss = still (specifiers ss) (none ss)
  where
    none : (ss : List FunctionSpecifier) → NoNodes (specifiers ss)
    none [] = tt
    none (s ∷ ss) = none ss

still_function_name : {ts : List Token} (n : FunctionName) → Placed ts (function_named n) (function_named n) (behind (function_named n) ts)
still_function_name (function_name.Name n) = by_token nothing
still_function_name function_name.OperatorCoAwait = by_token (by_token nothing)
still_function_name function_name.OperatorNew = by_token (by_token nothing)
still_function_name function_name.OperatorDelete = by_token (by_token nothing)

pub record AlikeParameters (C : List (List ℕ)) (ps qs : List Parameter) : Type 0 where
  pub strip : map strip_parameter qs ≡ map strip_parameter ps
  pub formed : FormedParameters C ps → FormedParameters C qs

parameters_after_moved : (C : List (List ℕ)) (ps : List Parameter) (ts : List Token) → Moved parameters_after (AlikeParameters C) ps ts
parameters_after_moved C [] ts = record { it = []; rest = ts; alike = record { strip = refl; formed = λ h. h }; placed = nothing }
parameters_after_moved C (p ∷ ps) ts =
    let x = parameter_moved C p (after ts) in
    let y = parameters_after_moved C ps x.rest in
    record {
      it = x.it ∷ y.it;
      rest = y.rest;
      alike = record { strip = ap_two (λ z zs. z ∷ zs) x.alike.strip y.alike.strip; formed = λ h. (x.alike.formed h.0, y.alike.formed h.1) };
      placed = by_token (both x.placed y.placed);
    }

parameters_moved : (C : List (List ℕ)) (ps : List Parameter) (ts : List Token) → Moved parameters (AlikeParameters C) ps ts
parameters_moved C [] ts = record { it = []; rest = ts; alike = record { strip = refl; formed = λ h. h }; placed = nothing }
parameters_moved C (p ∷ ps) ts =
    let x = parameter_moved C p ts in
    let y = parameters_after_moved C ps x.rest in
    record {
      it = x.it ∷ y.it;
      rest = y.rest;
      alike = record { strip = ap_two (λ z zs. z ∷ zs) x.alike.strip y.alike.strip; formed = λ h. (x.alike.formed h.0, y.alike.formed h.1) };
      placed = both x.placed y.placed;
    }

pub record AlikeBody (C : List (List ℕ)) (b d : Option Block) : Type 0 where
  pub strip : option_map strip_block d ≡ option_map strip_block b
  pub formed : FormedBody C b → FormedBody C d
  pub has : HasBody b → HasBody d

body_moved : (C : List (List ℕ)) (b : Option Block) (ts : List Token) → Moved block_or_semicolon (AlikeBody C) b ts
body_moved C None ts = record { it = None; rest = after ts; alike = record { strip = refl; formed = λ h. h; has = λ h. h }; placed = by_token nothing }
body_moved C (Some b) ts =
    let x = block_moved C b ts in
    record { it = Some x.it; rest = x.rest; alike = record { strip = ap Some x.alike.strip; formed = x.alike.formed; has = λ h. h }; placed = x.placed }

pub record AlikeFunction (C : List (List ℕ)) (f g : Function) : Type 0 where
  pub strip : strip_function g ≡ strip_function f
  pub function : FormedFunction C f → FormedFunction C g
  pub method : FormedMethod C f → FormedMethod C g

function_moved : (C : List (List ℕ)) (f : Function) (ts : List Token) → Moved function (AlikeFunction C) f ts
function_moved C f ts =
    let t = type_moved C f.result (behind (specifiers f.specifiers) ts) in
    let p = parameters_moved C f.parameters (after (behind (function_named f.name) t.rest)) in
    let b = body_moved C f.body (behind (if_said f.is_noexcept (w word.Noexcept)) (behind (if_said f.is_const (w word.Const)) (after p.rest))) in
    record {
      it = record { specifiers = f.specifiers; result = t.it; name = f.name; parameters = p.it; is_const = f.is_const; is_noexcept = f.is_noexcept; body = b.it; span = place_of ts };
      rest = b.rest;
      alike = record {
        strip = ap_three (λ i j k. record {
          specifiers = f.specifiers;
          result = i;
          name = f.name;
          parameters = j;
          is_const = f.is_const;
          is_noexcept = f.is_noexcept;
          body = k;
          span = first_place;
        }) t.alike.strip p.alike.strip b.alike.strip;
        function = λ h. record { result = t.alike.result h.result; name = h.name; parameters = p.alike.formed h.parameters; is_const = h.is_const; body = b.alike.formed h.body };
        method = λ h. record { result = t.alike.result h.result; name = h.name; parameters = p.alike.formed h.parameters; has_body = b.alike.has h.has_body; body = b.alike.formed h.body };
      };
      placed = by_node (both (still_specifiers f.specifiers) (both t.placed (both (still_function_name f.name) (both (by_parentheses p.placed)
          (both (still_if f.is_const (kind.Word word.Const)) (both (still_if f.is_noexcept (kind.Word word.Noexcept)) b.placed))))));
    }

-- ---- constructors and destructors

pub record AlikeMemberInitializer (C : List (List ℕ)) (i j : MemberInitializer) : Type 0 where
  pub strip : strip_member_initializer j ≡ strip_member_initializer i
  pub formed : FormedMemberInitializer C i → FormedMemberInitializer C j

member_initializer_moved : (C : List (List ℕ)) (i : MemberInitializer) (ts : List Token) → Moved member_initializer (AlikeMemberInitializer C) i ts
member_initializer_moved C i ts =
    let x = all_moved C i.arguments (after (after ts)) in
    record {
      it = record { name = i.name; brackets = i.brackets; arguments = x.it; span = place_of ts };
      rest = after x.rest;
      alike = record { strip = ap (λ z. record { name = i.name; brackets = i.brackets; arguments = z; span = first_place }) x.alike.strip; formed = λ h. (h.0, x.alike.formed h.1) };
      placed = by_node (by_token (by_brackets i.brackets x.placed));
    }

pub record AlikeMemberInitializers (C : List (List ℕ)) (is js : List MemberInitializer) : Type 0 where
  pub strip : map strip_member_initializer js ≡ map strip_member_initializer is
  pub formed : AllByRecursion (FormedMemberInitializer C) is → AllByRecursion (FormedMemberInitializer C) js

member_initializers_after_moved : (C : List (List ℕ)) (is : List MemberInitializer) (ts : List Token) → Moved member_initializers_after (AlikeMemberInitializers C) is ts
member_initializers_after_moved C [] ts = record { it = []; rest = ts; alike = record { strip = refl; formed = λ h. h }; placed = nothing }
member_initializers_after_moved C (i ∷ is) ts =
    let x = member_initializer_moved C i (after ts) in
    let y = member_initializers_after_moved C is x.rest in
    record {
      it = x.it ∷ y.it;
      rest = y.rest;
      alike = record { strip = ap_two (λ z zs. z ∷ zs) x.alike.strip y.alike.strip; formed = λ h. (x.alike.formed h.0, y.alike.formed h.1) };
      placed = by_token (both x.placed y.placed);
    }

member_initializers_moved : (C : List (List ℕ)) (is : List MemberInitializer) (ts : List Token) → Moved member_initializers (AlikeMemberInitializers C) is ts
member_initializers_moved C [] ts = record { it = []; rest = ts; alike = record { strip = refl; formed = λ h. h }; placed = nothing }
member_initializers_moved C (i ∷ is) ts =
    let x = member_initializer_moved C i (after ts) in
    let y = member_initializers_after_moved C is x.rest in
    record {
      it = x.it ∷ y.it;
      rest = y.rest;
      alike = record { strip = ap_two (λ z zs. z ∷ zs) x.alike.strip y.alike.strip; formed = λ h. (x.alike.formed h.0, y.alike.formed h.1) };
      placed = by_token (both x.placed y.placed);
    }

pub record AlikeConstructorBody (C : List (List ℕ)) (b d : ConstructorBody) : Type 0 where
  pub strip : strip_constructor_body d ≡ strip_constructor_body b
  pub formed : FormedConstructorBody C b → FormedConstructorBody C d

constructor_body_moved : (C : List (List ℕ)) (b : ConstructorBody) (ts : List Token) → Moved constructor_end (AlikeConstructorBody C) b ts
constructor_body_moved C (constructor_body.Block is b) ts =
    let x = member_initializers_moved C is ts in
    let y = block_moved C b x.rest in
    record {
      it = constructor_body.Block x.it y.it;
      rest = y.rest;
      alike = record { strip = ap_two constructor_body.Block x.alike.strip y.alike.strip; formed = λ h. (x.alike.formed h.0, y.alike.formed h.1) };
      placed = both x.placed y.placed;
    }
constructor_body_moved C constructor_body.Default ts =
    record { it = constructor_body.Default; rest = _; alike = record { strip = refl; formed = λ h. h }; placed = by_token (by_token (by_token nothing)) }
constructor_body_moved C constructor_body.Delete ts =
    record { it = constructor_body.Delete; rest = _; alike = record { strip = refl; formed = λ h. h }; placed = by_token (by_token (by_token nothing)) }

pub record AlikeConstructor (C : List (List ℕ)) (c d : Constructor) : Type 0 where
  pub strip : strip_constructor d ≡ strip_constructor c
  pub formed : FormedConstructor C c → FormedConstructor C d

constructor_moved : (C : List (List ℕ)) (c : Constructor) (ts : List Token) → Moved constructor (AlikeConstructor C) c ts
constructor_moved C c ts =
    let p = parameters_moved C c.parameters (after (after (behind (if_said c.is_explicit (w word.Explicit)) ts))) in
    let b = constructor_body_moved C c.body (behind (if_said c.is_noexcept (w word.Noexcept)) (after p.rest)) in
    record {
      it = record { is_explicit = c.is_explicit; name = c.name; parameters = p.it; is_noexcept = c.is_noexcept; body = b.it; span = place_of ts };
      rest = b.rest;
      alike = record {
        strip = ap_two (λ i j. record { is_explicit = c.is_explicit; name = c.name; parameters = i; is_noexcept = c.is_noexcept; body = j; span = first_place }) p.alike.strip b.alike.strip;
        formed = λ h. (h.0, p.alike.formed h.1, b.alike.formed h.2);
      };
      placed = by_node (both (still_if c.is_explicit (kind.Word word.Explicit)) (by_token (both (by_parentheses p.placed) (both (still_if c.is_noexcept (kind.Word word.Noexcept)) b.placed))));
    }

pub record AlikeDestructorBody (C : List (List ℕ)) (b d : DestructorBody) : Type 0 where
  pub strip : strip_destructor_body d ≡ strip_destructor_body b
  pub formed : FormedDestructorBody C b → FormedDestructorBody C d

destructor_body_moved : (C : List (List ℕ)) (b : DestructorBody) (ts : List Token) → Moved destructor_end (AlikeDestructorBody C) b ts
destructor_body_moved C (destructor_body.Block b) ts =
    let x = block_moved C b ts in
    record { it = destructor_body.Block x.it; rest = x.rest; alike = record { strip = ap destructor_body.Block x.alike.strip; formed = x.alike.formed }; placed = x.placed }
destructor_body_moved C destructor_body.Default ts =
    record { it = destructor_body.Default; rest = _; alike = record { strip = refl; formed = λ h. h }; placed = by_token (by_token (by_token nothing)) }

pub record AlikeDestructor (C : List (List ℕ)) (c d : Destructor) : Type 0 where
  pub strip : strip_destructor d ≡ strip_destructor c
  pub formed : FormedDestructor C c → FormedDestructor C d

destructor_moved : (C : List (List ℕ)) (d : Destructor) (ts : List Token) → Moved destructor (AlikeDestructor C) d ts
destructor_moved C d ts =
    let b = destructor_body_moved C d.body (behind (if_said d.is_noexcept (w word.Noexcept)) (after (after (after (after ts))))) in
    record {
      it = record { name = d.name; is_noexcept = d.is_noexcept; body = b.it; span = place_of ts };
      rest = b.rest;
      alike = record { strip = ap (λ z. record { name = d.name; is_noexcept = d.is_noexcept; body = z; span = first_place }) b.alike.strip; formed = λ h. (h.0, b.alike.formed h.1) };
      placed = by_node (by_token (by_token (both (by_parentheses nothing) (both (still_if d.is_noexcept (kind.Word word.Noexcept)) b.placed))));
    }

-- ---- members and classes

pub record AlikeMember (C : List (List ℕ)) (d e : MemberDeclaration) : Type 0 where
  pub strip : strip_member e ≡ strip_member d
  pub formed : FormedMember C d → FormedMember C e

pub record AlikeMembers {k : Count} (C : List (List ℕ)) (row other : Row_of-MemberDeclaration k) : Type 0 where
  pub strip : strip_members other ≡ strip_members row
  pub formed : FormedMembers C row → FormedMembers C other

mutual
  member_moved : (C : List (List ℕ)) (d : MemberDeclaration) (ts : List Token) → Moved member (AlikeMember C) d ts
  member_moved C (member_of.Access specifier at) ts =
      record { it = member_of.Access specifier (place_of ts); rest = _; alike = record { strip = refl; formed = λ h. h }; placed = by_line (by_node (by_token (by_token nothing))) }
  member_moved C (member_of.Class' key n s row at) ts =
      let x = members_moved C row (after (after (after ts))) in
      record {
        it = member_of.Class' key n s x.it (place_of ts);
        rest = after (after x.rest);
        alike = record { strip = ap (λ z. member_of.Class key n z first_place) x.alike.strip; formed = λ h. (h.0, x.alike.formed h.1) };
        placed = by_line (by_node (by_token (by_token (both (by_braces x.placed) (by_token nothing)))));
      }
  member_moved C (member_of.Forward f) ts =
      let x = forward_moved f ts in
      record { it = member_of.Forward x.it; rest = x.rest; alike = record { strip = ap member_of.Forward x.alike.strip; formed = x.alike.formed }; placed = by_line x.placed }
  member_moved C (member_of.Alias a) ts =
      let x = alias_moved C a ts in
      record { it = member_of.Alias x.it; rest = x.rest; alike = record { strip = ap member_of.Alias x.alike.strip; formed = x.alike.formed }; placed = by_line x.placed }
  member_moved C (member_of.Field v) ts =
      let x = variable_moved C v ts in
      record { it = member_of.Field x.it; rest = x.rest; alike = record { strip = ap member_of.Field x.alike.strip; formed = x.alike.field }; placed = by_line x.placed }
  member_moved C (member_of.Method f) ts =
      let x = function_moved C f ts in
      record { it = member_of.Method x.it; rest = x.rest; alike = record { strip = ap member_of.Method x.alike.strip; formed = x.alike.method }; placed = by_line x.placed }
  member_moved C (member_of.Constructor c) ts =
      let x = constructor_moved C c ts in
      record { it = member_of.Constructor x.it; rest = x.rest; alike = record { strip = ap member_of.Constructor x.alike.strip; formed = x.alike.formed }; placed = by_line x.placed }
  member_moved C (member_of.Destructor d) ts =
      let x = destructor_moved C d ts in
      record { it = member_of.Destructor x.it; rest = x.rest; alike = record { strip = ap member_of.Destructor x.alike.strip; formed = x.alike.formed }; placed = by_line x.placed }

  members_moved : {k : Count} (C : List (List ℕ)) (row : Row_of-MemberDeclaration k) (ts : List Token) → Moved row_members (AlikeMembers C) row ts
  members_moved C end_of-MemberDeclaration ts = record { it = end_of-MemberDeclaration; rest = ts; alike = record { strip = refl; formed = λ h. h }; placed = nothing }
  members_moved C (more_of-MemberDeclaration d rest) ts =
      let x = member_moved C d ts in
      let y = members_moved C rest x.rest in
      record {
        it = more_of-MemberDeclaration x.it y.it;
        rest = y.rest;
        alike = record { strip = ap_two (λ z zs. z ∷ zs) x.alike.strip y.alike.strip; formed = λ h. (x.alike.formed h.0, y.alike.formed h.1) };
        placed = both x.placed y.placed;
      }

pub record AlikeMemberList (C : List (List ℕ)) (ds es : List MemberDeclaration) : Type 0 where
  pub strip : map strip_member es ≡ map strip_member ds
  pub formed : AllByRecursion (FormedMember C) ds → AllByRecursion (FormedMember C) es

member_list_moved : (C : List (List ℕ)) (ds : List MemberDeclaration) (ts : List Token) → Moved members (AlikeMemberList C) ds ts
member_list_moved C [] ts = record { it = []; rest = ts; alike = record { strip = refl; formed = λ h. h }; placed = nothing }
member_list_moved C (d ∷ ds) ts =
    let x = member_moved C d ts in
    let y = member_list_moved C ds x.rest in
    record {
      it = x.it ∷ y.it;
      rest = y.rest;
      alike = record { strip = ap_two (λ z zs. z ∷ zs) x.alike.strip y.alike.strip; formed = λ h. (x.alike.formed h.0, y.alike.formed h.1) };
      placed = both x.placed y.placed;
    }

pub record AlikeClass (C : List (List ℕ)) (c d : ClassDefinition) : Type 0 where
  pub strip : strip_class d ≡ strip_class c
  pub formed : FormedClass C c → FormedClass C d

class_moved : (C : List (List ℕ)) (c : ClassDefinition) (ts : List Token) → Moved class (AlikeClass C) c ts
class_moved C c ts =
    let x = member_list_moved C c.members (after (after (after ts))) in
    record {
      it = record { key = c.key; name = c.name; members = x.it; span = place_of ts };
      rest = after (after x.rest);
      alike = record { strip = ap (λ z. record { key = c.key; name = c.name; members = z; span = first_place }) x.alike.strip; formed = λ h. (h.0, x.alike.formed h.1) };
      placed = by_node (by_token (by_token (both (by_braces x.placed) (by_token nothing))));
    }

-- ---- files

pub record AlikeDeclaration (C : List (List ℕ)) (d e : Declaration) : Type 0 where
  pub strip : strip_declaration e ≡ strip_declaration d
  pub formed : FormedDeclaration C d → FormedDeclaration C e

declaration_moved : (C : List (List ℕ)) (d : Declaration) (ts : List Token) → Moved item (AlikeDeclaration C) d ts
declaration_moved C (declaration.Class c) ts =
    let x = class_moved C c ts in
    record { it = declaration.Class x.it; rest = x.rest; alike = record { strip = ap declaration.Class x.alike.strip; formed = x.alike.formed }; placed = by_line x.placed }
declaration_moved C (declaration.Forward f) ts =
    let x = forward_moved f ts in
    record { it = declaration.Forward x.it; rest = x.rest; alike = record { strip = ap declaration.Forward x.alike.strip; formed = x.alike.formed }; placed = by_line x.placed }
declaration_moved C (declaration.Alias a) ts =
    let x = alias_moved C a ts in
    record { it = declaration.Alias x.it; rest = x.rest; alike = record { strip = ap declaration.Alias x.alike.strip; formed = x.alike.formed }; placed = by_line x.placed }
declaration_moved C (declaration.Global v) ts =
    let x = variable_moved C v ts in
    record { it = declaration.Global x.it; rest = x.rest; alike = record { strip = ap declaration.Global x.alike.strip; formed = x.alike.field }; placed = by_line x.placed }
declaration_moved C (declaration.Function f) ts =
    let x = function_moved C f ts in
    record { it = declaration.Function x.it; rest = x.rest; alike = record { strip = ap declaration.Function x.alike.strip; formed = x.alike.function }; placed = by_line x.placed }

pub record AlikeDeclarations (C : List (List ℕ)) (ds es : List Declaration) : Type 0 where
  pub strip : map strip_declaration es ≡ map strip_declaration ds
  pub formed : AllByRecursion (FormedDeclaration C) ds → AllByRecursion (FormedDeclaration C) es

pub declarations_moved : (C : List (List ℕ)) (ds : List Declaration) (ts : List Token) → Moved items (AlikeDeclarations C) ds ts
declarations_moved C [] ts = record { it = []; rest = ts; alike = record { strip = refl; formed = λ h. h }; placed = nothing }
declarations_moved C (d ∷ ds) ts =
    let x = declaration_moved C d ts in
    let y = declarations_moved C ds x.rest in
    record {
      it = x.it ∷ y.it;
      rest = y.rest;
      alike = record { strip = ap_two (λ z zs. z ∷ zs) x.alike.strip y.alike.strip; formed = λ h. (x.alike.formed h.0, y.alike.formed h.1) };
      placed = both x.placed y.placed;
    }
