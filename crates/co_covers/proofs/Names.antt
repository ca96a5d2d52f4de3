-- The patterns that admit names.
use Rattle.std.proofs.Common.{◌≡◌, ℕ, Bool, true, false, not, ◌&&◌, cond, zero, suc, ◌<◌, List, [], ◌∷◌, map, length, slice_index_or, arith, Contains, codes, refl, ap, ◌∙◌, sym, ◌⊎◌, inl, inr}
use Rattle.std.specs.Str.{bytes_eq}
use Rattle.std.proofs.lemmas.Slice.Eq.{bytes_eq-Decides}
use Rattle.std.proofs.lemmas.Map.Views.{Contains-from_any}
use Rattle.co_lex.specs.declared.token.TokenKind.TheVariants as kind
use Rattle.co_rules.specs.declared.names.TheConstants.{SPELLINGS}
use Rattle.co_rules.specs.Names.{known, is_class, lookup}
use Rattle.co_rules.specs.Terminal.{terminal_of}
use Rattle.co_rules.specs.declared.symbol.Known.{Known}
use Rattle.co_rules.specs.declared.symbol.Pattern.TheVariants as pattern
use Rattle.co_rules.specs.Pattern.{admits, is_plain}
use Rattle.co_rules.proofs.Sets.{never, or_left, or_right}
use Rattle.co_tree.specs.Formed.{IsName}

-- each spelling of the list is one of a name that a file may declare, or `std` or `corun`
abbrev pub Plain : List (List ℕ × Known) → Type 0
Plain [] = Unit {0}
Plain (w ∷ ws) = ((is_plain w.1 ≡ true) ⊎ ((w.0 ≡ codes "std") ⊎ (w.0 ≡ codes "corun"))) × Plain ws

found : (w : List ℕ × Known) (n : List ℕ) (o : Known) (b : Bool) → IsName n → (b ≡ true → w.0 ≡ n) → (is_plain w.1 ≡ true) ⊎ ((w.0 ≡ codes "std") ⊎ (w.0 ≡ codes "corun")) → is_plain o ≡ true → is_plain (cond b w.1 o) ≡ true
found w n k false h same p q = q
found w n k true h same (inl p) q = p
found w n k true h same (inr (inl e)) q = absurd (h.0 (sym (same refl) ∙ e))
found w n k true h same (inr (inr e)) q = absurd (h.1 (sym (same refl) ∙ e))

plain-lookup : (ws : List (List ℕ × Known)) (n : List ℕ) → IsName n → Plain ws → is_plain (lookup ws n) ≡ true
plain-lookup [] n h p = refl
plain-lookup (w ∷ ws) n h p = found w n (lookup ws n) (bytes_eq w.0 n) h (λ e. (bytes_eq-Decides w.0 n).0 e) p.0 (plain-lookup ws n h p.1)

-- a NAME is a name that a file may declare
pub plain : (n : List ℕ) → IsName n → is_plain (known n) ≡ true
unfolding known
plain n h = plain-lookup (map (λ k. (k.0.now, k.1)) SPELLINGS) n h (inr (inl refl), (inr (inr refl), (inl refl, (inl refl, (inl refl, (inl refl, (inl refl, (inl refl, (inl refl, (inl refl, (inl refl, (inl refl, (inl refl, (inl refl, (inl refl, (inl refl, (inl refl, (inl refl, (inl refl, (inl refl, (inl refl, tt)))))))))))))))))))))

pub name : (C : List (List ℕ)) (n : List ℕ) → IsName n → admits pattern.Name (terminal_of C (kind.Name n)) ≡ true
unfolding admits
name C n h = plain n h

both_true : (a b : Bool) → a ≡ true → b ≡ true → (a && b) ≡ true
both_true true b h e = e
both_true false b h e = never h

pub class_name : (C : List (List ℕ)) (n : List ℕ) → IsName n → is_class C n ≡ true → admits pattern.ClassName (terminal_of C (kind.Name n)) ≡ true
unfolding admits
class_name C n h e = both_true (is_class C n) (is_plain (known n)) e (plain n h)

pub other_name : (C : List (List ℕ)) (n : List ℕ) → IsName n → is_class C n ≡ false → admits pattern.OtherName (terminal_of C (kind.Name n)) ≡ true
unfolding admits
other_name C n h e = both_true (not (is_class C n)) (is_plain (known n)) (ap not e) (plain n h)

-- what the test finds is in the list, and the other way round
pub contained : (C : List (List ℕ)) (n : List ℕ) → is_class C n ≡ true → Contains C n
contained C n h = Contains-from_any (λ x y e. (bytes_eq-Decides x y).0 e) n C h

any_at : (xs : List (List ℕ)) (n : List ℕ) (k : ℕ) → k < length xs → slice_index_or xs k n ≡ n → is_class xs n ≡ true
any_at [] n k l e = absurd (omega (arith, l))
any_at (x ∷ xs) n zero l e = or_left (bytes_eq n x) (is_class xs n) ((bytes_eq-Decides n x).1 (sym e))
any_at (x ∷ xs) n (suc k) l e = or_right (bytes_eq n x) (is_class xs n) (any_at xs n k (omega (arith, l)) e)

pub is_in : (C : List (List ℕ)) (n : List ℕ) → Contains C n → is_class C n ≡ true
is_in C n h = any_at C n h.0 h.1 h.2
