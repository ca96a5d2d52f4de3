-- A block that leaves or joins leaves the chains as they have to be, and the list as it is said.
use Rattle.std.proofs.Common.{◌≡◌, ◌≢◌, ℕ, zero, suc, ◌+◌, ◌-◌, ◌<◌, ◌≤◌, false, Some, List, [], ◌∷◌, ◌++◌, length, set, get_or, ap, arith, refl, sym, subst, ◌∙◌}
use Rattle.std.proofs.lemmas.List.{length-set, length-append, get_or-set_same, get_or_append_left, get_or_push, get_or_read}
use Rattle.co_words.specs.declared.links.Block.{Block}
use Rattle.co_words.specs.declared.links.Link.{Link}
use Rattle.co_words.specs.declared.links.Chain.{Chain}
use Rattle.co_words.specs.Storage.{has, newest_of, without, joined}
use Rattle.co_words.specs.Chains.{no_link, no_chain, link, chain, listed, placed, moved, shorter, longer, Chained, AllChained, AllFrom, AllEmpty, Holds}
use Rattle.co_words.proofs.Groups.{length_joined, length_without}
use Rattle.co_words.proofs.Linked.{frame, frame_chain, chained_at, set_chained, removed_listed, length-listed, counts, newest_listed, none_listed, added_listed}

at_set : (links : List Link) (x : ℕ) (e : Link) → x < length links → link (set links x e) x ≡ e
at_set links x e low = get_or-set_same links x e no_link low

more : (n : ℕ) → suc n ≡ n + 1
more n = omega arith

pub opened : (links : List Link) (s n at : ℕ) → 0 < n → Chained links s n at → (at < length links) × ((link links at).block.size ≡ s) × ((link links at).rank ≡ n - 1) × Chained links s (n - 1) (link links at).older
unfolding Chained
opened links s zero at some h = absurd (omega arith)
opened links s (suc n) at some h =
    let same : n ≡ suc n - 1 = omega arith in
    (h.0, h.1, h.2 ∙ same, subst (λ m. Chained links s m (link links at).older) same h.3)

opened_chain : (links : List Link) (n at : ℕ) → 0 < n → chain links n at ≡ chain links (n - 1) (link links at).older ++ (link links at).block ∷ []
unfolding chain
opened_chain links zero at some = absurd (omega arith)
opened_chain links (suc n) at some =
    let same : n ≡ suc n - 1 = omega arith in
    ap (λ m. chain links m (link links at).older ++ (link links at).block ∷ []) same

chained_more : (links : List Link) (s n at : ℕ) → at < length links → (link links at).block.size ≡ s → (link links at).rank ≡ n → Chained links s n (link links at).older → Chained links s (n + 1) at
unfolding Chained
chained_more links s n at low size rank h = subst (λ m. Chained links s m at) (more n) (low, size, rank, h)

joins : (links : List Link) (x s : ℕ) (to : Chain) (b : Block) → x < length links → b.size ≡ s → Chained links s to.count to.newest → (link links x).block.size ≢ s → Chained (set links x (placed to b)) s (to.count + 1) x
joins links x s to b low size h differs =
    let here = at_set links x (placed to b) low in
    chained_more
    (set links x (placed to b))
    s
    to.count
    x
    (omega (arith, length-set links x (placed to b)))
    (ap (λ (l : Link). l.block.size) here ∙ size)
    (ap (λ (l : Link). l.rank) here)
    (subst
    (λ (l : Link). Chained (set links x (placed to b)) s to.count l.older)
    (sym here)
    (frame links x (placed to b) s to.count to.newest h (λ q. absurd (differs q))))

joins_chain : (links : List Link) (x s : ℕ) (to : Chain) (b : Block) → x < length links → Chained links s to.count to.newest → (link links x).block.size ≢ s → chain (set links x (placed to b)) (to.count + 1) x ≡ chain links to.count to.newest ++ b ∷ []
unfolding chain
joins_chain links x s to b low h differs =
    ap (λ m. chain (set links x (placed to b)) m x) (sym (more to.count))
    ∙ ap
    (λ (l : Link). chain (set links x (placed to b)) to.count l.older ++ l.block ∷ [])
    (at_set links x (placed to b) low)
    ∙ ap
    (λ (bs : List Block). bs ++ b ∷ [])
    (frame_chain links x (placed to b) s to.count to.newest h (λ q. absurd (differs q)))

-- the chain of that size
pub chained_here : (links : List Link) (chains : List Chain) (free : Chain) (larger : List Block) (s : ℕ) (c : Chain) → Holds links chains free larger → s < 1025 → get_or chains s no_chain ≡ c → Chained links s c.count c.newest
chained_here links chains free larger s c h small eq =
    subst
    (λ (d : Chain). Chained links s d.count d.newest)
    eq
    (chained_at links 0 chains s s h.chained (omega (arith, h.chains_all)) (omega arith))

pub removes_listed : (links : List Link) (chains : List Chain) (free : Chain) (larger rest : List Block) (s : ℕ) (from : Chain) (b : Block) → Holds links chains free larger → AllFrom 1025 rest → s < 1025 → get_or chains s no_chain ≡ from → 0 < from.count → listed (moved links from free b) rest (set chains s (shorter links from)) ≡ without s (listed links rest chains)
removes_listed links chains free larger rest s from b h large small eq some =
    let o = opened links s from.count from.newest some (chained_here links chains free larger s from h small eq) in
    removed_listed
    links
    from.newest
    (placed free b)
    rest
    0
    chains
    s
    s
    (shorter links from)
    (link links from.newest).block
    h.chained
    large
    (omega (arith, h.chains_all))
    (omega arith)
    (omega (arith, h.chains_all))
    o.1
    o.1
    (ap (λ (c : Chain). chain links c.count c.newest) eq
    ∙ opened_chain links from.count from.newest some
    ∙ ap
    (λ (bs : List Block). bs ++ (link links from.newest).block ∷ [])
    (sym (frame_chain links from.newest (placed free b) s (from.count - 1) (link links from.newest).older o.3 (λ q. omega (arith, o.2)))))

pub removes_newest : (links : List Link) (chains : List Chain) (free : Chain) (larger rest : List Block) (s : ℕ) (from : Chain) → Holds links chains free larger → AllFrom 1025 rest → s < 1025 → get_or chains s no_chain ≡ from → 0 < from.count → newest_of s (listed links rest chains) ≡ Some (link links from.newest).block.place
removes_newest links chains free larger rest s from h large small eq some =
    let o = opened links s from.count from.newest some (chained_here links chains free larger s from h small eq) in
    newest_listed
    links
    rest
    0
    chains
    s
    s
    (chain links (from.count - 1) (link links from.newest).older)
    (link links from.newest).block
    h.chained
    large
    (omega (arith, h.chains_all))
    (omega arith)
    (omega (arith, h.chains_all))
    o.1
    (ap (λ (c : Chain). chain links c.count c.newest) eq ∙ opened_chain links from.count from.newest some)

pub removes_holds : (links : List Link) (chains : List Chain) (free : Chain) (larger : List Block) (s : ℕ) (from : Chain) (b : Block) → Holds links chains free larger → s < 1025 → get_or chains s no_chain ≡ from → 0 < from.count → b.size ≡ 1025 → Holds (moved links from free b) (set chains s (shorter links from)) (longer from free) larger
removes_holds links chains free larger s from b h small eq some size =
    let o = opened links s from.count from.newest some (chained_here links chains free larger s from h small eq) in
    record {
      links_all = length-set links from.newest (placed free b) ∙ h.links_all;
      chains_all = length-set chains s (shorter links from) ∙ h.chains_all;
      chained =
          set_chained links from.newest (placed free b) 0 chains s s (shorter links from) h.chained (omega arith)
          (λ j lo hi differs q. differs (sym q ∙ o.1))
          (frame links from.newest (placed free b) s (from.count - 1) (link links from.newest).older o.3 (λ q. omega (arith, o.2)));
      free_chained = joins links from.newest 1025 free b o.0 size h.free_chained (λ q. omega (arith, o.1));
      all_larger = h.all_larger;
      counted =
          omega (
            arith,
            h.counted,
            ap length (removes_listed links chains free larger [] s from b h tt small eq some),
            length_without s (link links from.newest).block.place (listed links [] chains) (removes_newest links chains free larger [] s from h tt small eq some),
          );
    }

pub adds_listed : (links : List Link) (chains : List Chain) (free : Chain) (larger rest : List Block) (to : Chain) (b : Block) → Holds links chains free larger → AllFrom 1025 rest → b.size < 1025 → get_or chains b.size no_chain ≡ to → 0 < free.count → listed (moved links free to b) rest (set chains b.size (longer free to)) ≡ joined b (listed links rest chains)
adds_listed links chains free larger rest to b h large small eq some =
    let o = opened links 1025 free.count free.newest some h.free_chained in
    let here = chained_here links chains free larger b.size to h small eq in
    added_listed
    links
    free.newest
    (placed to b)
    rest
    0
    chains
    b.size
    (longer free to)
    b
    h.chained
    large
    (omega (arith, h.chains_all))
    (omega arith)
    (omega (arith, h.chains_all))
    o.1
    (joins_chain links free.newest b.size to b o.0 here (λ q. omega (arith, o.1))
    ∙ ap (λ (c : Chain). chain links c.count c.newest ++ b ∷ []) (sym eq))

pub adds_holds : (links : List Link) (chains : List Chain) (free : Chain) (larger : List Block) (to : Chain) (b : Block) → Holds links chains free larger → b.size < 1025 → get_or chains b.size no_chain ≡ to → 0 < free.count → Holds (moved links free to b) (set chains b.size (longer free to)) (shorter links free) larger
adds_holds links chains free larger to b h small eq some =
    let o = opened links 1025 free.count free.newest some h.free_chained in
    let here = chained_here links chains free larger b.size to h small eq in
    record {
      links_all = length-set links free.newest (placed to b) ∙ h.links_all;
      chains_all = length-set chains b.size (longer free to) ∙ h.chains_all;
      chained =
          set_chained links free.newest (placed to b) 0 chains b.size b.size (longer free to) h.chained (omega arith)
          (λ j lo hi differs q. omega (arith, o.1, h.chains_all))
          (joins links free.newest b.size to b o.0 refl here (λ q. omega (arith, o.1)));
      free_chained =
          frame links free.newest (placed to b) 1025 (free.count - 1) (link links free.newest).older o.3 (λ q. omega (arith, o.2));
      all_larger = h.all_larger;
      counted =
          omega (
            arith,
            h.counted,
            ap length (adds_listed links chains free larger [] to b h tt small eq some),
            length_joined b (listed links [] chains),
          );
    }

pub holds_with : (links : List Link) (chains : List Chain) (free : Chain) (larger rest : List Block) → Holds links chains free larger → AllFrom 1025 rest → Holds links chains free rest
holds_with links chains free larger rest h large = record {
  links_all = h.links_all;
  chains_all = h.chains_all;
  chained = h.chained;
  free_chained = h.free_chained;
  all_larger = large;
  counted = h.counted;
}

frame_push : (links : List Link) (e : Link) (s n at : ℕ) → Chained links s n at → Chained (links ++ e ∷ []) s n at
unfolding Chained
frame_push links e s zero at h = tt
frame_push links e s (suc n) at h =
    subst
    (λ (l : Link). (at < length (links ++ e ∷ [])) × (l.block.size ≡ s) × (l.rank ≡ n) × Chained (links ++ e ∷ []) s n l.older)
    (sym (get_or_append_left links (e ∷ []) no_link at h.0))
    (omega (arith, h.0, length-append links (e ∷ [])), h.1, h.2, frame_push links e s n (link links at).older h.3)

pub push_free : (links : List Link) (e : Link) (s n : ℕ) → length links ≡ n → Chained links s n (n - 1) → e.block.size ≡ s → e.rank ≡ n → e.older ≡ n - 1 → Chained (links ++ e ∷ []) s (n + 1) (n + 1 - 1)
push_free links e s n len h size rank older =
    let here : link (links ++ e ∷ []) n ≡ e = get_or_push links e no_link n len in
    let last : n ≡ n + 1 - 1 = omega arith in
    subst
    (λ m. Chained (links ++ e ∷ []) s (n + 1) m)
    last
    (chained_more
    (links ++ e ∷ [])
    s
    n
    n
    (omega (arith, length-append links (e ∷ [])))
    (ap (λ (l : Link). l.block.size) here ∙ size)
    (ap (λ (l : Link). l.rank) here ∙ rank)
    (subst
    (λ m. Chained (links ++ e ∷ []) s n m)
    (sym (ap (λ (l : Link). l.older) here ∙ older))
    (frame_push links e s n (n - 1) h)))

pub none_free : (links : List Link) (s : ℕ) → Chained links s 0 0
unfolding Chained
none_free links s = tt

pub none_empty : AllEmpty []
unfolding AllEmpty
none_empty = tt

pub push_empty : (cs : List Chain) (c : Chain) → AllEmpty cs → c.count ≡ 0 → AllEmpty (cs ++ c ∷ [])
unfolding AllEmpty
push_empty [] c h e = (e, tt)
push_empty (d ∷ cs) c h e = (h.0, push_empty cs c h.1 e)

pub empty_chained : (links : List Link) (k : ℕ) (cs : List Chain) → AllEmpty cs → AllChained links k cs
unfolding AllEmpty AllChained Chained
empty_chained links k [] h = tt
empty_chained links k (c ∷ cs) h =
    (subst (λ n. Chained links k n c.newest) (sym h.0) tt, empty_chained links (k + 1) cs h.1)

pub empty_listed : (links : List Link) (larger : List Block) (cs : List Chain) → AllEmpty cs → listed links larger cs ≡ larger
unfolding AllEmpty listed chain
empty_listed links larger [] h = refl
empty_listed links larger (c ∷ cs) h =
    ap (λ n. chain links n c.newest ++ listed links larger cs) h.0 ∙ empty_listed links larger cs h.1

-- what is known of a list that a push was asked of, once it was done
pub pushed : {X : Type 0} (xs ys : List X) (x : X) (n : ℕ) → ys ≡ xs ++ x ∷ [] → length xs ≡ n → length ys ≡ n + 1
pushed xs ys x n is len = ap length is ∙ length-append xs (x ∷ []) ∙ ap (λ m. m + 1) len

pub opening_holds : (links : List Link) (chains : List Chain) (free : Chain) (larger : List Block) → length links ≡ 4096 → length chains ≡ 1025 → AllEmpty chains → Chained links 1025 free.count free.newest → free.count ≡ 4096 → larger ≡ [] → Holds links chains free larger
opening_holds links chains free larger links_all chains_all none all count no_larger = record {
  links_all = links_all;
  chains_all = chains_all;
  chained = empty_chained links 0 chains none;
  free_chained = all;
  all_larger = subst (AllFrom 1025) (sym no_larger) tt;
  counted = omega (arith, ap length (empty_listed links [] chains none));
}

pub carried : (P : List Link → Chain → Chain → Type 0) (xs ys : List Link) (c d f g : Chain) → ys ≡ xs → d ≡ c → g ≡ f → P xs c f → P ys d g
carried P xs ys c d f g p q r h =
    subst (λ (x : List Link). P x d g) (sym p) (subst (λ (y : Chain). P xs y g) (sym q) (subst (λ (z : Chain). P xs c z) (sym r) h))

pub at_chain : (links : List Link) (chains : List Chain) (free : Chain) (larger : List Block) (s : ℕ) (c : Chain) → Holds links chains free larger → s < 1025 → c ≡ get_or chains s c → get_or chains s no_chain ≡ c
at_chain links chains free larger s c h small is =
    sym (get_or_read chains s c (omega (arith, h.chains_all)) is no_chain)

pub low_here : (links : List Link) (chains : List Chain) (free : Chain) (larger : List Block) (s : ℕ) (c : Chain) → Holds links chains free larger → s < 1025 → c ≡ get_or chains s c → 0 < c.count → c.newest < length links
low_here links chains free larger s c h small is some =
    (opened links s c.count c.newest some (chained_here links chains free larger s c h small (at_chain links chains free larger s c h small is))).0

pub none_here : (links : List Link) (chains : List Chain) (free : Chain) (larger : List Block) (s : ℕ) (c : Chain) → Holds links chains free larger → s < 1025 → c ≡ get_or chains s c → c.count ≡ 0 → has s (listed links larger chains) ≡ false
none_here links chains free larger s c h small is none =
    none_listed links larger 0 chains s s h.chained h.all_larger (omega (arith, h.chains_all)) (omega arith) (omega (arith, h.chains_all))
    (ap (λ (d : Chain). d.count) (at_chain links chains free larger s c h small is) ∙ none)

pub place_here : (links : List Link) (chains : List Chain) (free : Chain) (larger : List Block) (s : ℕ) (c : Chain) (l : Link) → Holds links chains free larger → s < 1025 → c ≡ get_or chains s c → 0 < c.count → l ≡ get_or links c.newest l → newest_of s (listed links larger chains) ≡ Some l.block.place
place_here links chains free larger s c l h small is some at =
    removes_newest links chains free larger larger s c h h.all_larger small (at_chain links chains free larger s c h small is) some
    ∙ ap
    (λ (k : Link). Some k.block.place)
    (sym (get_or_read links c.newest l (low_here links chains free larger s c h small is some) at no_link))

-- how many a chain has, where one has a link
pub few : (links : List Link) (chains : List Chain) (free : Chain) (larger : List Block) (s : ℕ) (c : Chain) → Holds links chains free larger → s < 1025 → c ≡ get_or chains s c → c.count + free.count ≤ 4096
few links chains free larger s c h small is =
    omega (arith, counts links chains s, ap (λ (d : Chain). d.count) (at_chain links chains free larger s c h small is), h.counted)

pub length_kept : (links : List Link) (chains : List Chain) (free : Chain) (larger : List Block) → Holds links chains free larger → length (listed links larger chains) + free.count ≡ 4096 + length larger
length_kept links chains free larger h = omega (arith, length-listed links larger chains, h.counted)
