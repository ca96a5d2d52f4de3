-- Paths where the rules read them.
use Rattle.std.proofs.Common.{◌≡◌, ℕ, zero, suc, ◌≤◌, Bool, true, false, List, [], ◌∷◌, ◌++◌, append_assoc, length, Some, codes, refl, ap, ◌∙◌, ◌⊎◌, inl, inr, arith}
use Rattle.std.specs.List.{AllByRecursion}
use Rattle.co_base.specs.declared.span.Span.{Span}
use Rattle.co_lex.specs.declared.token.Token.{Token}
use Rattle.co_lex.specs.declared.token.TokenKind.TheVariants as kind
use Rattle.co_lex.specs.declared.token.Mark.TheVariants as mark
use Rattle.co_rules.specs.declared.symbol.Nonterminal.TheVariants as n
use Rattle.co_rules.specs.declared.symbol.Pattern.TheVariants as pattern
use Rattle.co_rules.specs.declared.symbol.Symbol.{Symbol}
use Rattle.co_rules.specs.declared.symbol.Symbol.TheVariants.{Token as Terminal, One, Maybe}
use Rattle.co_rules.specs.Names.{is_class, has_some}
use Rattle.co_tree.specs.Piece.{name}
use Rattle.co_tree.specs.Derives.{StandsAt}
use Rattle.co_tree.specs.Types as tree
use Rattle.co_tree.specs.Formed.{IsName, IsPath, ClassPath, NamesClass, last_of}
use Rattle.co_tree.specs.declared.types.Path.{Path}
use Rattle.co_reader.specs.Reading.{place, lead, spells, sees, any_name, name as name_reader}
use Rattle.co_reader.specs.Types.{names_from, names, path, names_class, last_is_class, class_path}
use Rattle.co_reader.specs.declared.lead.Lead.TheVariants as l
use Rattle.co_reads.specs.Runs.{Runs}
use Rattle.co_reads.specs.Spells.{Spells}
use Rattle.co_reads.specs.Takes.{Takes}
use Rattle.co_reads.proofs.Cases.{Among, NoneNext, which, whether, none_left, some_among}
use Rattle.co_reads.proofs.Firsts.{Named, named, class_first, other_first, IsClassName, IsOtherName, Marked, marked, mark_first, tested_name, other_text, some_class}
use Rattle.co_reads.proofs.Fronts.{after-left}
use Rattle.co_reads.proofs.Steps.{sees_here, after_here, unseen_mark, usable_so}
use Rattle.co_reads.proofs.RulesOfTypes.{of_class_path, those_class_path, of_inner_class, those_inner_class}
use Rattle.co_reads.proofs.Told.{tells}

-- the names of a path come next, and no `::` behind them
pub data NamesNext : List ℕ → List (List ℕ) → List Token → List Token → Type 0 where
  only : (text : List ℕ) (at : Span) (ts : List Token) → IsName text → sees mark.Scope ts ≡ false → NamesNext text [] (record { kind = kind.Name text; span = at } ∷ ts) ts
  then : (text first : List ℕ) (later : List (List ℕ)) (at scope : Span) (ts left : List Token) → IsName text → NamesNext first later ts left
      → NamesNext text (first ∷ later) (record { kind = kind.Name text; span = at } ∷ record { kind = kind.Mark mark.Scope; span = scope } ∷ ts) left

pub names_read : {first : List ℕ} {later : List (List ℕ)} {ts left : List Token} (k : ℕ) (found : List (List ℕ)) → NamesNext first later ts left → length ts ≤ k → names_from k found ts ≡ Some (found ++ first ∷ later, left)
unfolding names_from name_reader any_name
names_read zero found (only text at ts is e) l = absurd (omega (arith, l))
names_read (suc k) found (only text at ts is e) l = rw (tested_name text is, e, after-left mark.Scope ts e)
names_read zero found (then text first later at scope ts left is h) l = absurd (omega (arith, l))
names_read (suc k) found (then text first later at scope ts left is h) l =
    let more = names_read k (found ++ text ∷ []) h (omega (arith, l)) in
    rw (tested_name text is, sees_here mark.Scope scope ts, after_here mark.Scope scope ts) (more ∙ ap (λ all. Some (all, left)) (append_assoc found (text ∷ []) (first ∷ later)))

pub names_spelled : {first : List ℕ} {later : List (List ℕ)} {ts left : List Token} → NamesNext first later ts left → Spells (name first ∷ tree.names_after later) ts left
names_spelled (only text at ts is e) = (refl, refl)
names_spelled (then text first later at scope ts left is h) = (refl, (refl, names_spelled h))

pub names_are : {first : List ℕ} {later : List (List ℕ)} {ts left : List Token} → NamesNext first later ts left → AllByRecursion IsName (first ∷ later)
names_are (only text at ts is e) = (is, tt)
names_are (then text first later at scope ts left is h) = (is, names_are h)

-- ---- class paths

last_told : (class : List ℕ → Bool) (first : List ℕ) (later : List (List ℕ)) (b : Bool) → last_is_class class b (first ∷ later) ≡ class (last_of later first)
last_told class first [] b = refl
last_told class first (next ∷ later) b = last_told class next later (class first)

-- where the names of a path come next, it is read
pub record PathNext (C : List (List ℕ)) (R : List Symbol) (ts : List Token) : Type 0 where
  pub first : List ℕ
  pub later : List (List ℕ)
  pub left : List Token
  pub names : NamesNext first later ts left
  pub runs : Runs C R left

-- the last of them is the name of a class
pub record ClassNext (C : List (List ℕ)) (R : List Symbol) (ts : List Token) : Type 0 where
  pub next : PathNext C R ts
  pub class : is_class C (last_of next.later next.first) ≡ true

-- after a name of a class
inner : (C : List (List ℕ)) (R : List Symbol) (text : List ℕ) (at : Span) (ts : List Token) → IsClassName C text → ((us : List Token) → length us ≤ length ts → Runs C (One n.ClassPath ∷ R) us → ClassNext C R us)
    → Among C R of_inner_class ts ⊎ (NoneNext C of_inner_class ts × Runs C R ts) → ClassNext C R (record { kind = kind.Name text; span = at } ∷ ts)
inner C R text at ts is more (inl (inl h)) = inner_on (mark_first h) more
  where
    inner_on : {us : List Token} → Marked C mark.Scope (One n.ClassPath ∷ R) us → ((vs : List Token) → length vs ≤ length us → Runs C (One n.ClassPath ∷ R) vs → ClassNext C R vs) → ClassNext C R (record { kind = kind.Name text; span = at } ∷ us)
    inner_on (marked scope vs r) more =
        let c = more vs (omega arith) r in
        record { next = record { first = text; later = c.next.first ∷ c.next.later; left = c.next.left; names = then text c.next.first c.next.later at scope vs c.next.left is.name c.next.names; runs = c.next.runs }; class = c.class }
inner C R text at ts is more (inl (inr h)) = absurd h
inner C R text at ts is more (inr h) =
    record { next = record { first = text; later = []; left = ts; names = only text at ts is.name (unseen_scope C ts (some_class C text is.class) h.0); runs = h.1 }; class = is.class }
  where
    unseen_scope : (C : List (List ℕ)) (ts : List Token) → has_some C ≡ true → NoneNext C of_inner_class ts → sees mark.Scope ts ≡ false
    unseen_scope C [] some h = absurd h
    unseen_scope C (t ∷ ts) some h = unseen_mark C mark.Scope t ts (h.0 (usable_so (has_some C) _ some))

class_names : (C : List (List ℕ)) (R : List Symbol) (k : ℕ) (ts : List Token) → length ts ≤ k → Runs C (One n.ClassPath ∷ R) ts → ClassNext C R ts
class_names C R k ts l h = by_names k ts l (which those_class_path h)
  where
    by_class : (k : ℕ) {ts : List Token} → ((us : List Token) → length us ≤ k → Runs C (One n.ClassPath ∷ R) us → ClassNext C R us) → length ts ≤ suc k → Named C (IsClassName C) (Maybe n.InnerClass ∷ R) ts → ClassNext C R ts
    by_class k more l (named text at ts is r) = inner C R text at ts is (λ us b. more us (omega (arith, l, b))) (whether those_inner_class r)

    scoped : {us : List Token} (k : ℕ) (text : List ℕ) (at : Span) → IsName text → ((us : List Token) → length us ≤ k → Runs C (One n.ClassPath ∷ R) us → ClassNext C R us) → length us ≤ k → Marked C mark.Scope (One n.ClassPath ∷ R) us → ClassNext C R (record { kind = kind.Name text; span = at } ∷ us)
    scoped k text at is more l (marked scope vs r) =
        let c = more vs (omega (arith, l)) r in
        record { next = record { first = text; later = c.next.first ∷ c.next.later; left = c.next.left; names = then text c.next.first c.next.later at scope vs c.next.left is c.next.names; runs = c.next.runs }; class = c.class }

    by_other : (k : ℕ) {ts : List Token} → ((us : List Token) → length us ≤ k → Runs C (One n.ClassPath ∷ R) us → ClassNext C R us) → length ts ≤ suc k → Named C (IsOtherName C) (Terminal (pattern.Punctuator mark.Scope) ∷ One n.ClassPath ∷ R) ts → ClassNext C R ts
    by_other k more l (named text at ts is r) = scoped k text at is.name more (omega (arith, l)) (mark_first r)

    by_names : (k : ℕ) (ts : List Token) → length ts ≤ k → Among C R of_class_path ts → ClassNext C R ts
    by_names zero ts l h = absurd (none_left ts (some_among C R ts of_class_path h) l)
    by_names (suc k) ts l (inl h) = by_class k (λ us b r. by_names k us b (which those_class_path r)) l (class_first h)
    by_names (suc k) ts l (inr (inl h)) = by_other k (λ us b r. by_names k us b (which those_class_path r)) l (other_first h)
    by_names (suc k) ts l (inr (inr h)) = absurd h

-- ---- the path

pub names_stand : {first : List ℕ} {later : List (List ℕ)} {ts left : List Token} → NamesNext first later ts left → StandsAt ts (place ts)
names_stand (only text at ts is e) = refl
names_stand (then text first later at scope ts left is h) = refl

-- the path of the names that come next
abbrev pub path_of : List ℕ → List (List ℕ) → List Token → Path
path_of first later ts = record { names = first ∷ later; span = place ts }

pub path_read : {first : List ℕ} {later : List (List ℕ)} {ts left : List Token} → NamesNext first later ts left → path ts ≡ Some (path_of first later ts, left)
unfolding path names
path_read {ts = ts} h = rw (names_read (length ts) [] h (omega arith))

pub path_spelled : {first : List ℕ} {later : List (List ℕ)} {ts left : List Token} → NamesNext first later ts left → Spells (tree.path (path_of first later ts)) ts left
path_spelled h = (names_stand h, names_spelled h)

pub path_is : {first : List ℕ} {later : List (List ℕ)} {ts left : List Token} → NamesNext first later ts left → IsPath (path_of first later ts)
path_is h = ((λ none. absurd cc), names_are h)

pub path_class : {first : List ℕ} {later : List (List ℕ)} {ts left : List Token} {b : Bool} (C : List (List ℕ)) → NamesNext first later ts left → is_class C (last_of later first) ≡ b → names_class (is_class C) (path_of first later ts) ≡ b
unfolding names_class
path_class {first} {later} C h e = last_told (is_class C) first later false ∙ e

pub is_class_path : {first : List ℕ} {later : List (List ℕ)} {ts left : List Token} (C : List (List ℕ)) → NamesNext first later ts left → is_class C (last_of later first) ≡ true → ClassPath C (path_of first later ts)
is_class_path {first} {later} C h e = (path_is h, (tells C).told (last_of later first) e)

pub no_class_path : {first : List ℕ} {later : List (List ℕ)} {ts left : List Token} (C : List (List ℕ)) → NamesNext first later ts left → is_class C (last_of later first) ≡ false → NamesClass C (path_of first later ts) → ⊥
no_class_path {first} {later} C h e = (tells C).not_told (last_of later first) e

abbrev pub ClassTaken : List (List ℕ) → List Symbol → List Token → Type 0
ClassTaken C R ts = Takes (class_path (is_class C)) (λ p left. Spells (tree.path p) ts left × ClassPath C p) C R ts

pub class_taken : {C : List (List ℕ)} {R : List Symbol} {ts : List Token} → Runs C (One n.ClassPath ∷ R) ts → ClassTaken C R ts
unfolding class_path
class_taken {C} {R} {ts} h =
    let c = class_names C R (length ts) ts (omega arith) h in
    record {
      part = path_of c.next.first c.next.later ts;
      left = c.next.left;
      read = rw (path_read c.next.names, path_class C c.next.names c.class);
      is = (path_spelled c.next.names, is_class_path C c.next.names c.class);
      runs = c.next.runs;
    }

-- what the path begins with is none of `std`, `corun` and the words
pub record NameNext (ts : List Token) : Type 0 where
  pub no_std : spells (codes "std") ts ≡ false
  pub no_corun : spells (codes "corun") ts ≡ false
  pub lead_is : lead ts ≡ l.Name

pub names_begin : {first : List ℕ} {later : List (List ℕ)} {ts left : List Token} → NamesNext first later ts left → NameNext ts
unfolding spells
names_begin (only text at ts is e) = record { no_std = other_text text (codes "std") is.0; no_corun = other_text text (codes "corun") is.1; lead_is = refl }
names_begin (then text first later at scope ts left is h) = record { no_std = other_text text (codes "std") is.0; no_corun = other_text text (codes "corun") is.1; lead_is = refl }

pub class_begins : {C : List (List ℕ)} {R : List Symbol} {ts : List Token} → Runs C (One n.ClassPath ∷ R) ts → NameNext ts
class_begins {C} {R} {ts} h = names_begin (class_names C R (length ts) ts (omega arith) h).next.names
