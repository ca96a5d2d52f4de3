-- What holds of each listing.
use Rattle.std.specs.Prelude.{ℕ, ◌≡◌, ◌==◌, Bool, length, count_by}
use Rattle.co_code.specs.declared.image.Image.{Image}
use Rattle.co_code.specs.Listing.{dump_of}

-- the byte that ends a line
abbrev pub is_newline : ℕ → Bool
is_newline b = b == 10

-- a listing has one line for each instruction
abbrev pub ListsEach : Type 0
ListsEach = (image : Image) → count_by is_newline (dump_of image) ≡ length image.code
