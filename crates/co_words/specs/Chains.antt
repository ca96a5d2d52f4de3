-- How the spare blocks lie: a chain of links for each size up to 1,024, a chain of the links that are free, and the
-- larger blocks.
use Rattle.std.specs.Prelude.{ℕ, zero, suc, ◌+◌, ◌-◌, ◌<◌, ◌≤◌, ◌≡◌, List, [], ◌∷◌, ◌++◌, length, slice_index_or, slice_set}
use Rattle.co_words.specs.declared.links.Block.{Block}
use Rattle.co_words.specs.declared.links.Link.{Link}
use Rattle.co_words.specs.declared.links.Chain.{Chain}

abbrev pub no_link : Link
no_link = record { block = record { size = 0; place = 0 }; older = 0; rank = 0 }

abbrev pub no_chain : Chain
no_chain = record { newest = 0; count = 0 }

abbrev pub link : List Link → ℕ → Link
link links at = slice_index_or links at no_link

-- the blocks of the chain of that many links whose newest is at that place, the newest last
unfoldable pub chain : List Link → ℕ → ℕ → List Block
chain links zero at = []
chain links (suc n) at = chain links n (link links at).older ++ (link links at).block ∷ []

-- the blocks of these chains, and then the larger ones
unfoldable pub listed : List Link → List Block → List Chain → List Block
listed links larger [] = larger
listed links larger (c ∷ chains) = chain links c.count c.newest ++ listed links larger chains

-- each link of the chain has a block of that size, and its rank is how many are older
unfoldable pub Chained : List Link → ℕ → ℕ → ℕ → Type 0
Chained links size zero at = Unit {0}
Chained links size (suc n) at = (at < length links) × ((link links at).block.size ≡ size) × ((link links at).rank ≡ n) × Chained links size n (link links at).older

-- the chains are those of that size, of the next size, and so on
unfoldable pub AllChained : List Link → ℕ → List Chain → Type 0
AllChained links size [] = Unit {0}
AllChained links size (c ∷ chains) = Chained links size c.count c.newest × AllChained links (size + 1) chains

-- each block has that size or a greater one
abbrev pub AllFrom : ℕ → List Block → Type 0
AllFrom size [] = Unit {0}
AllFrom size (b ∷ blocks) = (size ≤ b.size) × AllFrom size blocks

-- no chain has a link
unfoldable pub AllEmpty : List Chain → Type 0
AllEmpty [] = Unit {0}
AllEmpty (c ∷ chains) = (c.count ≡ 0) × AllEmpty chains

-- the link as the newest of the chain, with that block
abbrev pub placed : Chain → Block → Link
placed to b = record { block = b; older = to.newest; rank = to.count }

-- the links once the newest of a chain has become the newest of another one, with this block
abbrev pub moved : List Link → Chain → Chain → Block → List Link
moved links from to b = slice_set links from.newest (placed to b)

-- the first of these chains then
abbrev pub shorter : List Link → Chain → Chain
shorter links from = record { newest = (link links from.newest).older; count = from.count - 1 }

-- the second one
abbrev pub longer : Chain → Chain → Chain
longer from to = record { newest = from.newest; count = to.count + 1 }

-- The chains of the sizes 0 to 1,024 and that of the free links have all the 4,096 links. A free link has 1,025 as its
-- size.
pub record Holds (links : List Link) (chains : List Chain) (free : Chain) (larger : List Block) : Type 0 where
  pub links_all : length links ≡ 4096
  pub chains_all : length chains ≡ 1025
  pub chained : AllChained links 0 chains
  pub free_chained : Chained links 1025 free.count free.newest
  pub all_larger : AllFrom 1025 larger
  pub counted : length (listed links [] chains) + free.count ≡ 4096
