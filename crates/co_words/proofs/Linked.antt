-- What a write to one link leaves of the chains, and what is said of the blocks that they list.
use Rattle.std.proofs.Common.{◌≡◌, ◌≢◌, ℕ, zero, suc, ◌+◌, ◌<◌, ◌≤◌, false, Some, List, [], ◌∷◌, ◌++◌, length, set, get_or, ap, arith, refl, sym, subst, ◌∙◌}
use Rattle.std.proofs.lemmas.List.{length-set, length-append, get_or-set_other}
use Rattle.co_words.specs.declared.links.Block.{Block}
use Rattle.co_words.specs.declared.links.Link.{Link}
use Rattle.co_words.specs.declared.links.Chain.{Chain}
use Rattle.co_words.specs.Storage.{has, newest_of, without, joined}
use Rattle.co_words.specs.Chains.{no_link, no_chain, link, chain, listed, Chained, AllChained, AllFrom}
use Rattle.co_words.proofs.Groups.{AllOf, all_of_push, from_of, from_less, has_none, has_skip, newest_skip, without_skip, joined_skip, joined_larger, newest_pushed, without_pushed, joined_pushed}

-- a is no size of the n chains from k on
abbrev pub Away : ℕ → ℕ → ℕ → Type 0
Away a k n = (j : ℕ) → k ≤ j → j < k + n → a ≢ j

another : (links : List Link) (x s n at : ℕ) → Chained links s (suc n) at → ((link links x).block.size ≡ s → suc n ≤ (link links x).rank) → at ≢ x
unfolding Chained
another links x s n at h apart q =
    let low = apart (subst (λ y. (link links y).block.size ≡ s) q h.1) in
    let rank = subst (λ y. (link links y).rank ≡ n) q h.2 in
    omega (arith, low, rank)

pub frame : (links : List Link) (x : ℕ) (e : Link) (s n at : ℕ) → Chained links s n at → ((link links x).block.size ≡ s → n ≤ (link links x).rank) → Chained (set links x e) s n at
unfolding Chained
frame links x e s zero at h apart = tt
frame links x e s (suc n) at h apart =
    subst
    (λ (l : Link). (at < length (set links x e)) × (l.block.size ≡ s) × (l.rank ≡ n) × Chained (set links x e) s n l.older)
    (sym (get_or-set_other links x at e no_link (another links x s n at h apart)))
    (omega (arith, h.0, length-set links x e), h.1, h.2, frame links x e s n (link links at).older h.3 (λ q. omega (arith, apart q)))

pub frame_chain : (links : List Link) (x : ℕ) (e : Link) (s n at : ℕ) → Chained links s n at → ((link links x).block.size ≡ s → n ≤ (link links x).rank) → chain (set links x e) n at ≡ chain links n at
unfolding Chained chain
frame_chain links x e s zero at h apart = refl
frame_chain links x e s (suc n) at h apart =
    ap
    (λ (l : Link). chain (set links x e) n l.older ++ l.block ∷ [])
    (get_or-set_other links x at e no_link (another links x s n at h apart))
    ∙ ap
    (λ (bs : List Block). bs ++ (link links at).block ∷ [])
    (frame_chain links x e s n (link links at).older h.3 (λ q. omega (arith, apart q)))

pub frame_all : (links : List Link) (x : ℕ) (e : Link) (k : ℕ) (cs : List Chain) → AllChained links k cs → Away (link links x).block.size k (length cs) → AllChained (set links x e) k cs
unfolding AllChained
frame_all links x e k [] h away = tt
frame_all links x e k (c ∷ cs) h away = (
  frame links x e k c.count c.newest h.0 (λ q. absurd (away k (omega arith) (omega arith) q)),
  frame_all links x e (k + 1) cs h.1 (λ j lo hi. away j (omega arith) (omega arith)),
)

pub frame_listed : (links : List Link) (x : ℕ) (e : Link) (larger : List Block) (k : ℕ) (cs : List Chain) → AllChained links k cs → Away (link links x).block.size k (length cs) → listed (set links x e) larger cs ≡ listed links larger cs
unfolding AllChained listed
frame_listed links x e larger k [] h away = refl
frame_listed links x e larger k (c ∷ cs) h away =
    ap
    (λ (bs : List Block). bs ++ listed (set links x e) larger cs)
    (frame_chain links x e k c.count c.newest h.0 (λ q. absurd (away k (omega arith) (omega arith) q)))
    ∙ ap
    (λ (bs : List Block). chain links c.count c.newest ++ bs)
    (frame_listed links x e larger (k + 1) cs h.1 (λ j lo hi. away j (omega arith) (omega arith)))

pub chain_of : (links : List Link) (s n at : ℕ) → Chained links s n at → AllOf s (chain links n at)
unfolding Chained chain
chain_of links s zero at h = tt
chain_of links s (suc n) at h =
    all_of_push s (chain links n (link links at).older) (link links at).block (chain_of links s n (link links at).older h.3) h.1

pub length-chain : (links : List Link) (n at : ℕ) → length (chain links n at) ≡ n
unfolding chain
length-chain links zero at = refl
length-chain links (suc n) at =
    omega (
      arith,
      length-append (chain links n (link links at).older) ((link links at).block ∷ []),
      length-chain links n (link links at).older,
    )

pub listed_from : (links : List Link) (larger : List Block) (k : ℕ) (cs : List Chain) → AllChained links k cs → AllFrom 1025 larger → k + length cs ≡ 1025 → AllFrom k (listed links larger cs)
unfolding AllChained listed
listed_from links larger k [] h large all = from_less k 1025 larger large (omega arith)
listed_from links larger k (c ∷ cs) h large all =
    from_of k k (chain links c.count c.newest) (listed links larger cs) (chain_of links k c.count c.newest h.0) (omega arith)
    (from_less k (k + 1) (listed links larger cs) (listed_from links larger (k + 1) cs h.1 large (omega arith)) (omega arith))

pub chained_at : (links : List Link) (k : ℕ) (cs : List Chain) (i s : ℕ) → AllChained links k cs → i < length cs → s ≡ k + i → Chained links s (get_or cs i no_chain).count (get_or cs i no_chain).newest
unfolding AllChained
chained_at links k [] i s h low is = absurd (omega arith)
chained_at links k (c ∷ cs) zero s h low is =
    let same : k ≡ s = omega arith in
    subst (λ y. Chained links y c.count c.newest) same h.0
chained_at links k (c ∷ cs) (suc i) s h low is = chained_at links (k + 1) cs i s h.1 (omega arith) (omega arith)

pub length-listed : (links : List Link) (larger : List Block) (cs : List Chain) → length (listed links larger cs) ≡ length (listed links [] cs) + length larger
unfolding listed
length-listed links larger [] = omega arith
length-listed links larger (c ∷ cs) =
    omega (
      arith,
      length-listed links larger cs,
      length-append (chain links c.count c.newest) (listed links larger cs),
      length-append (chain links c.count c.newest) (listed links [] cs),
    )

pub counts : (links : List Link) (cs : List Chain) (i : ℕ) → (get_or cs i no_chain).count ≤ length (listed links [] cs)
unfolding listed
counts links [] i = omega arith
counts links (c ∷ cs) zero =
    omega (arith, length-append (chain links c.count c.newest) (listed links [] cs), length-chain links c.count c.newest)
counts links (c ∷ cs) (suc i) =
    omega (arith, counts links cs i, length-append (chain links c.count c.newest) (listed links [] cs))

pub set_chained : (links : List Link) (x : ℕ) (e : Link) (k : ℕ) (cs : List Chain) (i s : ℕ) (c' : Chain) → AllChained links k cs → s ≡ k + i → ((j : ℕ) → k ≤ j → j < k + length cs → j ≢ s → (link links x).block.size ≢ j) → Chained (set links x e) s c'.count c'.newest → AllChained (set links x e) k (set cs i c')
unfolding AllChained
set_chained links x e k [] i s c' h is away new = tt
set_chained links x e k (c ∷ cs) zero s c' h is away new =
    let same : s ≡ k = omega arith in (
      subst (λ y. Chained (set links x e) y c'.count c'.newest) same new,
      frame_all links x e (k + 1) cs h.1 (λ j lo hi. away j (omega arith) (omega arith) (λ q. omega arith)),
    )
set_chained links x e k (c ∷ cs) (suc i) s c' h is away new = (
  frame links x e k c.count c.newest h.0 (λ q. absurd (away k (omega arith) (omega arith) (λ r. omega arith) q)),
  set_chained links x e (k + 1) cs i s c' h.1 (omega arith) (λ j lo hi. away j (omega arith) (omega arith)) new,
)

pub removed_listed : (links : List Link) (x : ℕ) (e : Link) (larger : List Block) (k : ℕ) (cs : List Chain) (i s : ℕ) (c' : Chain) (b : Block) → AllChained links k cs → AllFrom 1025 larger → k + length cs ≡ 1025 → s ≡ k + i → i < length cs → (link links x).block.size ≡ s → b.size ≡ s → chain links (get_or cs i no_chain).count (get_or cs i no_chain).newest ≡ chain (set links x e) c'.count c'.newest ++ b ∷ [] → listed (set links x e) larger (set cs i c') ≡ without s (listed links larger cs)
unfolding AllChained listed
removed_listed links x e larger k [] i s c' b h large all is low size of_b eq = absurd (omega arith)
removed_listed links x e larger k (c ∷ cs) zero s c' b h large all is low size of_b eq =
    let rest : AllFrom (k + 1) (listed links larger cs) = listed_from links larger (k + 1) cs h.1 large (omega arith) in
    ap
    (λ (bs : List Block). chain (set links x e) c'.count c'.newest ++ bs)
    (frame_listed links x e larger (k + 1) cs h.1 (λ j lo hi q. omega arith))
    ∙ sym
    (ap (λ (bs : List Block). without s (bs ++ listed links larger cs)) eq
    ∙ without_pushed s (chain (set links x e) c'.count c'.newest) b (listed links larger cs) of_b (has_none s (k + 1) (listed links larger cs) rest (omega arith)))
removed_listed links x e larger k (c ∷ cs) (suc i) s c' b h large all is low size of_b eq =
    ap
    (λ (bs : List Block). bs ++ listed (set links x e) larger (set cs i c'))
    (frame_chain links x e k c.count c.newest h.0 (λ q. absurd (omega arith)))
    ∙ ap
    (λ (bs : List Block). chain links c.count c.newest ++ bs)
    (removed_listed links x e larger (k + 1) cs i s c' b h.1 large (omega arith) (omega arith) (omega arith) size of_b eq)
    ∙ sym (without_skip s k (chain links c.count c.newest) (listed links larger cs) (chain_of links k c.count c.newest h.0) (λ q. omega arith))

pub newest_listed : (links : List Link) (larger : List Block) (k : ℕ) (cs : List Chain) (i s : ℕ) (front : List Block) (b : Block) → AllChained links k cs → AllFrom 1025 larger → k + length cs ≡ 1025 → s ≡ k + i → i < length cs → b.size ≡ s → chain links (get_or cs i no_chain).count (get_or cs i no_chain).newest ≡ front ++ b ∷ [] → newest_of s (listed links larger cs) ≡ Some b.place
unfolding AllChained listed
newest_listed links larger k [] i s front b h large all is low of_b eq = absurd (omega arith)
newest_listed links larger k (c ∷ cs) zero s front b h large all is low of_b eq =
    let rest : AllFrom (k + 1) (listed links larger cs) = listed_from links larger (k + 1) cs h.1 large (omega arith) in
    ap (λ (bs : List Block). newest_of s (bs ++ listed links larger cs)) eq
    ∙ newest_pushed s front b (listed links larger cs) of_b (has_none s (k + 1) (listed links larger cs) rest (omega arith))
newest_listed links larger k (c ∷ cs) (suc i) s front b h large all is low of_b eq =
    newest_skip s k (chain links c.count c.newest) (listed links larger cs) (chain_of links k c.count c.newest h.0) (λ q. omega arith)
    ∙ newest_listed links larger (k + 1) cs i s front b h.1 large (omega arith) (omega arith) (omega arith) of_b eq

pub none_listed : (links : List Link) (larger : List Block) (k : ℕ) (cs : List Chain) (i s : ℕ) → AllChained links k cs → AllFrom 1025 larger → k + length cs ≡ 1025 → s ≡ k + i → i < length cs → (get_or cs i no_chain).count ≡ 0 → has s (listed links larger cs) ≡ false
unfolding AllChained listed chain
none_listed links larger k [] i s h large all is low empty = absurd (omega arith)
none_listed links larger k (c ∷ cs) zero s h large all is low empty =
    let rest : AllFrom (k + 1) (listed links larger cs) = listed_from links larger (k + 1) cs h.1 large (omega arith) in
    ap (λ n. has s (chain links n c.newest ++ listed links larger cs)) empty
    ∙ has_none s (k + 1) (listed links larger cs) rest (omega arith)
none_listed links larger k (c ∷ cs) (suc i) s h large all is low empty =
    has_skip s k (chain links c.count c.newest) (listed links larger cs) (chain_of links k c.count c.newest h.0) (λ q. omega arith)
    ∙ none_listed links larger (k + 1) cs i s h.1 large (omega arith) (omega arith) (omega arith) empty

pub added_listed : (links : List Link) (x : ℕ) (e : Link) (larger : List Block) (k : ℕ) (cs : List Chain) (i : ℕ) (c' : Chain) (b : Block) → AllChained links k cs → AllFrom 1025 larger → k + length cs ≡ 1025 → b.size ≡ k + i → i < length cs → (link links x).block.size ≡ 1025 → chain (set links x e) c'.count c'.newest ≡ chain links (get_or cs i no_chain).count (get_or cs i no_chain).newest ++ b ∷ [] → listed (set links x e) larger (set cs i c') ≡ joined b (listed links larger cs)
unfolding AllChained listed
added_listed links x e larger k [] i c' b h large all is low size eq = absurd (omega arith)
added_listed links x e larger k (c ∷ cs) zero c' b h large all is low size eq =
    let same : k ≡ b.size = omega arith in
    let more : k + 1 ≡ b.size + 1 = omega arith in
    let rest : AllFrom (k + 1) (listed links larger cs) = listed_from links larger (k + 1) cs h.1 large (omega arith) in
    ap
    (λ (bs : List Block). chain (set links x e) c'.count c'.newest ++ bs)
    (frame_listed links x e larger (k + 1) cs h.1 (λ j lo hi q. omega arith))
    ∙ ap (λ (bs : List Block). bs ++ listed links larger cs) eq
    ∙ sym
    (joined_pushed
    b
    (chain links c.count c.newest)
    (listed links larger cs)
    (subst (λ y. AllOf y (chain links c.count c.newest)) same (chain_of links k c.count c.newest h.0))
    (subst (λ y. AllFrom y (listed links larger cs)) more rest)
    (omega arith))
added_listed links x e larger k (c ∷ cs) (suc i) c' b h large all is low size eq =
    ap
    (λ (bs : List Block). bs ++ listed (set links x e) larger (set cs i c'))
    (frame_chain links x e k c.count c.newest h.0 (λ q. absurd (omega arith)))
    ∙ ap
    (λ (bs : List Block). chain links c.count c.newest ++ bs)
    (added_listed links x e larger (k + 1) cs i c' b h.1 large (omega arith) (omega arith) (omega arith) size eq)
    ∙ sym (joined_skip b k (chain links c.count c.newest) (listed links larger cs) (chain_of links k c.count c.newest h.0) (omega arith))

pub newest_past : (links : List Link) (larger : List Block) (k : ℕ) (cs : List Chain) (s : ℕ) → AllChained links k cs → k + length cs ≤ s → newest_of s (listed links larger cs) ≡ newest_of s larger
unfolding AllChained listed
newest_past links larger k [] s h past = refl
newest_past links larger k (c ∷ cs) s h past =
    newest_skip s k (chain links c.count c.newest) (listed links larger cs) (chain_of links k c.count c.newest h.0) (λ q. omega arith)
    ∙ newest_past links larger (k + 1) cs s h.1 (omega arith)

pub without_past : (links : List Link) (larger : List Block) (k : ℕ) (cs : List Chain) (s : ℕ) → AllChained links k cs → k + length cs ≤ s → listed links (without s larger) cs ≡ without s (listed links larger cs)
unfolding AllChained listed
without_past links larger k [] s h past = refl
without_past links larger k (c ∷ cs) s h past =
    ap (λ (bs : List Block). chain links c.count c.newest ++ bs) (without_past links larger (k + 1) cs s h.1 (omega arith))
    ∙ sym (without_skip s k (chain links c.count c.newest) (listed links larger cs) (chain_of links k c.count c.newest h.0) (λ q. omega arith))

pub joined_past : (links : List Link) (larger : List Block) (k : ℕ) (cs : List Chain) (b : Block) → AllChained links k cs → AllFrom 1025 larger → k + length cs ≤ b.size → 1025 ≤ b.size → listed links (larger ++ b ∷ []) cs ≡ joined b (listed links larger cs)
unfolding AllChained listed
joined_past links larger k [] b h large past big = sym (joined_larger b larger large big)
joined_past links larger k (c ∷ cs) b h large past big =
    ap (λ (bs : List Block). chain links c.count c.newest ++ bs) (joined_past links larger (k + 1) cs b h.1 large (omega arith) big)
    ∙ sym (joined_skip b k (chain links c.count c.newest) (listed links larger cs) (chain_of links k c.count c.newest h.0) (omega arith))
