-- The code's list of classes as it grows.
use Rattle.std.proofs.Common.{◌≡◌, ℕ, ◌+◌, ◌<◌, length, drop, get_or, Bool, true, false, ◌||◌, List, [], ◌∷◌, ◌++◌, refl, sym, ap, ◌∙◌, subst}
use Rattle.std.specs.List.{list_any}
use Rattle.std.specs.BTreeSet.{insert_key}
use Rattle.std.specs.Cmp.Lexicographic.{slice_cmp}
use Rattle.std.specs.Ordering.{nat_cmp, is_eq, match_ordering}
use Rattle.std.specs.Str.{bytes_eq}
use Rattle.std.proofs.lemmas.List.{drop_more}
use Rattle.std.proofs.lemmas.List.Folds.{list_any-append}
use Rattle.std.proofs.lemmas.Map.Text.{is_eq-slice_cmp}
use Rattle.std.proofs.lemmas.Slice.Eq.{bytes_eq-Decides}
use Rattle.std.specs.declared.cmp.Ordering.{Ordering}
use Rattle.std.specs.declared.cmp.Ordering.TheVariants.{Less, Equal, Greater}
use Rattle.co_lex.specs.declared.token.Token.{Token}
use Rattle.co_rules.specs.declared.names.ClassNames.{ClassNames}
use Rattle.co_rules.specs.Names.{named, introduces, holds, GainsAll, is_class, has_some, classes_from}

-- what the code holds and what is still to come are the classes of all tokens
abbrev pub Gathers : ClassNames → Bool → List Token → List (List ℕ) → Type 0
Gathers c is_named rest all =
    ((q : List ℕ) → (is_class (classes_from is_named rest) q || holds c q) ≡ is_class all q) × ((has_some (classes_from is_named rest) || c.has_some) ≡ has_some all)

moved : (x y h : Bool) → (y || (x || h)) ≡ ((x || y) || h)
moved true true h = refl
moved true false h = refl
moved false true h = refl
moved false false h = refl

has_some-append : {A : Type 0} (xs ys : List A) → has_some (xs ++ ys) ≡ (has_some xs || has_some ys)
has_some-append [] ys = refl
has_some-append (x ∷ xs) ys = refl

gathered : (c after : ClassNames) (is_named : Bool) (t : Token) (rest more : List Token) (all : List (List ℕ)) → rest ≡ t ∷ more → GainsAll c (named is_named t.kind) after → Gathers c is_named rest all → Gathers after (introduces t.kind) more all
gathered c after is_named t rest more all e g h =
    let xs = named is_named t.kind in
    let ys = classes_from (introduces t.kind) more in (
      λ q. ap (λ b. is_class ys q || b) (g.0 q) ∙ (moved (is_class xs q) (is_class ys q) (holds c q) ∙ (ap (λ b. b || holds c q) (sym (list_any-append (λ k. bytes_eq q k) xs ys)) ∙ (ap (λ r. is_class (classes_from is_named r) q || holds c q) (sym e) ∙ h.0 q))),
      ap (λ b. has_some ys || b) g.1 ∙ (moved (has_some xs) (has_some ys) c.has_some ∙ (ap (λ b. b || c.has_some) (sym (has_some-append xs ys)) ∙ (ap (λ r. has_some (classes_from is_named r) || c.has_some) (sym e) ∙ h.1))),
    )

pub gathered-next : (c after : ClassNames) (is_named then_named : Bool) (tokens : List Token) (at : ℕ) (t : Token) (all : List (List ℕ)) → at < length tokens → t ≡ get_or tokens at t → then_named ≡ introduces t.kind → GainsAll c (named is_named t.kind) after → Gathers c is_named (drop at tokens) all → Gathers after then_named (drop (at + 1) tokens) all
gathered-next c after is_named then_named tokens at t all h e i g k =
    subst (λ b. Gathers after b (drop (at + 1) tokens) all) (sym i) (gathered c after is_named t (drop at tokens) (drop (at + 1) tokens) all (drop_more tokens at t h ∙ ap (λ x. x ∷ drop (at + 1) tokens) (sym e)) g k)

-- ---- one name more

again : (a b : Bool) → (a || b) ≡ (a || (a || b))
again true b = refl
again false b = refl

turned : (x k a : Bool) → (x || (k || a)) ≡ (k || (x || a))
turned true true a = refl
turned true false a = refl
turned false k a = refl

inserted : {K : Type 0} (cmp : K → K → Ordering) (test : K → Bool) (k x : K) (xs : List K) (o : Ordering) → o ≡ cmp k x → ((x : K) → cmp k x ≡ Equal → test k ≡ test x) → list_any test (insert_key cmp xs k) ≡ (test k || list_any test xs) → list_any test (match_ordering o (k ∷ x ∷ xs) (x ∷ xs) (x ∷ insert_key cmp xs k)) ≡ (test k || (test x || list_any test xs))
inserted cmp test k x xs Less e same h = refl
inserted cmp test k x xs Equal e same h = again (test x) (list_any test xs) ∙ ap (λ b. b || (test x || list_any test xs)) (sym (same x (sym e)))
inserted cmp test k x xs Greater e same h = ap (λ b. test x || b) h ∙ turned (test x) (test k) (list_any test xs)

any-inserted : {K : Type 0} (cmp : K → K → Ordering) (test : K → Bool) (k : K) (xs : List K) → ((x : K) → cmp k x ≡ Equal → test k ≡ test x) → list_any test (insert_key cmp xs k) ≡ (test k || list_any test xs)
any-inserted cmp test k [] same = refl
any-inserted cmp test k (x ∷ xs) same = inserted cmp test k x xs (cmp k x) refl same (any-inserted cmp test k xs same)

equal_bytes : (xs ys : List ℕ) → slice_cmp nat_cmp xs ys ≡ Equal → xs ≡ ys
equal_bytes xs ys h = (bytes_eq-Decides xs ys).0 (sym (is_eq-slice_cmp xs ys) ∙ ap is_eq h)

pub gained : {K : Type 0} (cmp : K → K → Ordering) (bytes : K → List ℕ) (k : K) (xs after : List K) (name : List ℕ) → ((x : K) → cmp k x ≡ slice_cmp nat_cmp (bytes k) (bytes x)) → after ≡ insert_key cmp xs k → bytes k ≡ name → (q : List ℕ) → list_any (λ x. is_eq (slice_cmp nat_cmp q (bytes x))) after ≡ (bytes_eq q name || list_any (λ x. is_eq (slice_cmp nat_cmp q (bytes x))) xs)
gained cmp bytes k xs after name is keys at q =
    ap (list_any (λ x. is_eq (slice_cmp nat_cmp q (bytes x)))) keys ∙ (any-inserted cmp (λ x. is_eq (slice_cmp nat_cmp q (bytes x))) k xs (λ x e. ap (λ b. is_eq (slice_cmp nat_cmp q b)) (equal_bytes (bytes k) (bytes x) (sym (is x) ∙ e))) ∙ ap (λ b. b || list_any (λ x. is_eq (slice_cmp nat_cmp q (bytes x))) xs) (is_eq-slice_cmp q (bytes k) ∙ ap (bytes_eq q) at))
