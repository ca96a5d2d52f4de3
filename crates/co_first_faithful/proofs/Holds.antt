-- What the words of a state hold: the variables' values, and above them what waits on the stack.
use Rattle.std.proofs.Common.{◌≡◌, ◌≢◌, ℕ, ◌+◌, ◌-◌, ◌<◌, ◌≤◌, List, [], ◌∷◌, ◌++◌, length, get_or, set, sym, ap, ◌∙◌, subst, arith, ⊎_elim, get_or-set_other, get_or-set_same}
use Rattle.std.specs.Prelude.{ℤ, pos}
use Rattle.std.proofs.lemmas.List.{length-set}
use Rattle.std.proofs.lemmas.Bool.{cases_eq}
use mir.Val.{to_z}
use mir.Syntax.{w64}
use Rattle.co_first_exec.specs.declared.local.Local.{Local}
use Rattle.co_first_exec.specs.declared.instr.Stop.TheVariants.{Running}
use Rattle.co_first_exec.specs.Opening.{stack_words}

-- a word on the stack: the value of a sum so far, or the address of a variable
pub data Item : Type 0 where
  value : ℤ → Item
  address : ℕ → Item

abbrev pub IsItem : Item → ℕ → Type 0
IsItem (value z) word = to_z w64 word ≡ z
IsItem (address x) word = word ≡ x

-- the stack from `low` on, its top first
abbrev pub StackIs : ℕ → List ℕ → List Item → Type 0
StackIs low words [] = Unit {0}
StackIs low words (item ∷ items) = IsItem item (get_or words (low + length items) 0) × StackIs low words items

pub record Holds (count : ℕ) (k : Local) (stack : List Item) (vars out : List ℤ) : Type 0 where
  pub stop : k.stop ≡ Running
  pub prints : k.prints ≡ out
  pub fp : k.fp ≡ 0
  pub few : count ≤ 32
  pub size : length k.words ≡ stack_words
  pub deep : length stack ≤ 2
  pub top : k.sp ≡ count + length stack
  pub slots : length vars ≡ count
  pub values : (x : ℕ) → x < count → to_z w64 (get_or k.words x 0) ≡ get_or vars x (pos 0)
  pub items : StackIs count k.words stack

pub stack_room : 100 ≤ stack_words
unfolding stack_words
stack_room = omega arith

-- a write at or above the top leaves the stack
stack_kept : (low at word : ℕ) (words : List ℕ) (items : List Item) → low + length items ≤ at → StackIs low words items → StackIs low (set words at word) items
stack_kept low at word words [] le h = tt
stack_kept low at word words (item ∷ items) le h =
    let other : low + length items ≢ at = λ e. absurd (omega (arith, e)) in
    (subst (IsItem item) (sym (get_or-set_other words at (low + length items) word 0 other)) h.0, stack_kept low at word words items (omega arith) h.1)

pub pushed : (count : ℕ) (k : Local) (stack : List Item) (vars out : List ℤ) (item : Item) (place made : ℕ) → Holds count k stack vars out → length stack ≤ 1 → IsItem item k.a → Holds count (record k { words = set k.words k.sp k.a; sp = k.sp + 1; place = place; made = made }) (item ∷ stack) vars out
pushed count k stack vars out item place made h short is =
    let room = stack_room in
    let within : k.sp < length k.words = omega (arith, h.top, h.size, h.few) in
    let above : count + length stack ≤ k.sp = omega (arith, h.top) in
    record {
      stop = h.stop;
      prints = h.prints;
      fp = h.fp;
      few = h.few;
      size = length-set k.words k.sp k.a ∙ h.size;
      deep = omega arith;
      top = omega (arith, h.top);
      slots = h.slots;
      values = λ x lt. let other : x ≢ k.sp = λ e. absurd (omega (arith, e, h.top)) in ap (to_z w64) (get_or-set_other k.words k.sp x k.a 0 other) ∙ h.values x lt;
      items = (subst (λ at. IsItem item (get_or (set k.words k.sp k.a) at 0)) h.top (subst (IsItem item) (sym (get_or-set_same k.words k.sp k.a 0 within)) is), stack_kept count k.sp k.a k.words stack above h.items);
    }

pub popped : (count : ℕ) (k : Local) (stack : List Item) (vars out : List ℤ) (item : Item) (place made : ℕ) → Holds count k (item ∷ stack) vars out → Holds count (record k { b = get_or k.words (k.sp - 1) 0; sp = k.sp - 1; place = place; made = made }) stack vars out
popped count k stack vars out item place made h =
    record {
      stop = h.stop;
      prints = h.prints;
      fp = h.fp;
      few = h.few;
      size = h.size;
      deep = omega (arith, h.deep);
      top = omega (arith, h.top);
      slots = h.slots;
      values = h.values;
      items = h.items.1;
    }

-- the word on top of the stack
pub top_is : (count : ℕ) (k : Local) (stack : List Item) (vars out : List ℤ) (item : Item) → Holds count k (item ∷ stack) vars out → IsItem item (get_or k.words (k.sp - 1) 0)
top_is count k stack vars out item h =
    let at : count + length stack ≡ k.sp - 1 = omega (arith, h.top) in
    subst (λ n. IsItem item (get_or k.words n 0)) at h.items.0

pub stored : (count : ℕ) (k : Local) (vars out : List ℤ) (x word place made : ℕ) (z : ℤ) → Holds count k [] vars out → x < count → to_z w64 word ≡ z → Holds count (record k { words = set k.words x word; place = place; made = made }) [] (set vars x z) out
stored count k vars out x word place made z h lt is =
    let room = stack_room in
    let low : x < length k.words = omega (arith, h.size, h.few) in
    let slot : x < length vars = omega (arith, h.slots) in
    record {
      stop = h.stop;
      prints = h.prints;
      fp = h.fp;
      few = h.few;
      size = length-set k.words x word ∙ h.size;
      deep = h.deep;
      top = h.top;
      slots = length-set vars x z ∙ h.slots;
      values = λ y below. ⊎_elim (λ (e : y ≡ x). subst (λ (n : ℕ). to_z w64 (get_or (set k.words x word) n 0) ≡ get_or (set vars x z) n (pos 0)) (sym e) (ap (to_z w64) (get_or-set_same k.words x word 0 low) ∙ is ∙ sym (get_or-set_same vars x z (pos 0) slot))) (λ (ne : y ≢ x). ap (to_z w64) (get_or-set_other k.words x y word 0 ne) ∙ h.values y below ∙ sym (get_or-set_other vars x y z (pos 0) ne)) (cases_eq y x);
      items = tt;
    }

pub showed : (count : ℕ) (k : Local) (vars out : List ℤ) (z : ℤ) (place made : ℕ) → Holds count k [] vars out → to_z w64 k.a ≡ z → Holds count (record k { prints = k.prints ++ to_z w64 k.a ∷ []; place = place; made = made }) [] vars (out ++ z ∷ [])
showed count k vars out z place made h is =
    record {
      stop = h.stop;
      prints = ap (λ l. l ++ to_z w64 k.a ∷ []) h.prints ∙ ap (λ v. out ++ v ∷ []) is;
      fp = h.fp;
      few = h.few;
      size = h.size;
      deep = h.deep;
      top = h.top;
      slots = h.slots;
      values = h.values;
      items = tt;
    }

-- another place, and other registers
pub moved : (count : ℕ) (k : Local) (stack : List Item) (vars out : List ℤ) (a place made : ℕ) → Holds count k stack vars out → Holds count (record k { a = a; place = place; made = made }) stack vars out
moved count k stack vars out a place made h =
    record {
      stop = h.stop;
      prints = h.prints;
      fp = h.fp;
      few = h.few;
      size = h.size;
      deep = h.deep;
      top = h.top;
      slots = h.slots;
      values = h.values;
      items = h.items;
    }
