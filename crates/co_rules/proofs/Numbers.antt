-- A terminal's number is one of the numbers of each pattern that it may stand for.
use Rattle.std.proofs.Common.{◌≡◌, ℕ, ◌+◌, Bool, true, false, nat_eq, List, [], ◌∷◌, map, refl, ap, inl, inr}
use Rattle.std.specs.List.{list_any}
use Rattle.co_rules.specs.declared.symbol.Known.{Known}
use Rattle.co_rules.specs.declared.symbol.Pattern.{Pattern}
use Rattle.co_rules.specs.declared.symbol.Terminal.{Terminal}
use Rattle.co_rules.specs.declared.symbol.Terminal.TheVariants as terminal
use Rattle.co_rules.specs.Pattern.{words, marks, names, suits, is_literal, is_text, is_end, admits, word_number, mark_number, known_number}
use Rattle.co_rules.proofs.Follow.{number, numbers, single, under}
use Rattle.co_rules.proofs.Sets.{never, eq_true, and_split, or_split, In, in_left, in_right}

-- an element that is found by its number has that number among them
found : {A : Type 0} (f : A → ℕ) (g : ℕ → ℕ) (n : ℕ) (xs : List A) → list_any (λ v. nat_eq (f v) n) xs ≡ true → In (g n) (map (λ v. g (f v)) xs)
found f g n [] h = never h
found f g n (x ∷ xs) h = elim (or_split (nat_eq (f x) n) (list_any (λ v. nat_eq (f v) n) xs) h) [ inl e ↦ inl (ap g (eq_true (f x) n e)) | inr r ↦ inr (found f g n xs r) ]

single-in : (b : Bool) (n : ℕ) → b ≡ true → In n (single b n)
single-in true n h = inl refl
single-in false n h = never h

under-in : (b : Bool) (base n : ℕ) (ks : List Known) → b ≡ true → list_any (λ v. nat_eq (known_number v) n) ks ≡ true → In (base + n) (under b base ks)
under-in true base n ks h any = found known_number (λ a. base + a) n ks any
under-in false base n ks h any = never h

pub admits-number : (p : Pattern) (t : Terminal) → admits p t ≡ true → In (number t) (numbers p)
unfolding admits numbers
admits-number p (terminal.Word w) h = in_left (word_number w) (map word_number (words p)) _ (found word_number (λ a. a) (word_number w) (words p) h)
admits-number p (terminal.Mark m) h =
    in_right (100 + mark_number m) (map word_number (words p)) _ (in_left (100 + mark_number m) (map (λ m. 100 + mark_number m) (marks p)) _ (found mark_number (λ a. 100 + a) (mark_number m) (marks p) h))
admits-number p terminal.Number h =
    in_right 200 (map word_number (words p)) _ (in_right 200 (map (λ m. 100 + mark_number m) (marks p)) _ (in_left 200 (single (is_literal p) 200) _ (single-in (is_literal p) 200 h)))
admits-number p terminal.Text h =
    in_right 201 (map word_number (words p)) _ (in_right 201 (map (λ m. 100 + mark_number m) (marks p)) _ (in_right 201 (single (is_literal p) 200) _ (in_left 201 (single (is_text p) 201) _ (single-in (is_text p) 201 h))))
admits-number p terminal.End h =
    in_right 202 (map word_number (words p)) _ (in_right 202 (map (λ m. 100 + mark_number m) (marks p)) _ (in_right 202 (single (is_literal p) 200) _ (in_right 202 (single (is_text p) 201) _ (in_left 202 (single (is_end p) 202) _ (single-in (is_end p) 202 h)))))
admits-number p (terminal.Name true k) h =
    let a = 300 + known_number k in
    let e = and_split (suits p true) (list_any (λ v. nat_eq (known_number v) (known_number k)) (names p)) h in
    in_right a (map word_number (words p)) _ (in_right a (map (λ m. 100 + mark_number m) (marks p)) _ (in_right a (single (is_literal p) 200) _ (in_right a (single (is_text p) 201) _ (in_right a (single (is_end p) 202) _ (in_left a (under (suits p true) 300 (names p)) _ (under-in (suits p true) 300 (known_number k) (names p) e.0 e.1))))))
admits-number p (terminal.Name false k) h =
    let a = 400 + known_number k in
    let e = and_split (suits p false) (list_any (λ v. nat_eq (known_number v) (known_number k)) (names p)) h in
    in_right a (map word_number (words p)) _ (in_right a (map (λ m. 100 + mark_number m) (marks p)) _ (in_right a (single (is_literal p) 200) _ (in_right a (single (is_text p) 201) _ (in_right a (single (is_end p) 202) _ (in_right a (under (suits p true) 300 (names p)) _ (under-in (suits p false) 400 (known_number k) (names p) e.0 e.1))))))
