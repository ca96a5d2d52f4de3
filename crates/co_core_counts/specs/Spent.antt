-- What is left after the suspension points of one more act.
use Rattle.std.specs.Prelude.{ℕ, Bool, true, false}
use Rattle.co_core_tree.specs.Acts.{Act, is_suspension}
use Rattle.co_core_counts.specs.declared.points.Points.{Points}
use Rattle.co_core_counts.specs.Left.{less}

abbrev pub one_if : Bool → ℕ
one_if true = 1
one_if false = 0

abbrev pub points_after : Points → Act → Points
points_after v a = record { left = less v.left (one_if (is_suspension a)) }
