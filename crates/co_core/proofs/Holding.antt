-- A test of several is each of them.
use Rattle.std.specs.Prelude.{Bool, true, false, ◌&&◌, IsTrue}
use Rattle.std.proofs.Common.{refl}
use Rattle.std.proofs.lemmas.Bool.{false≢true}
use Rattle.co_core_tree.specs.declared.units.UnitParts.{UnitParts}
use Rattle.co_core.specs.Ids.{ids_held}
use Rattle.co_core.specs.Typed.{all_typed}
use Rattle.co_core.specs.Numbers.{numbers_fit}
use Rattle.co_core.specs.Scopes.{all_visible, made_once}
use Rattle.co_core.specs.Jumps.{ends_placed, jumps_placed, points_differ}
use Rattle.co_core.specs.Plans.{ends_noexcept, finals_noexcept, main_fits, params_listed, plans_call, storage_fits}
use Rattle.co_core.specs.Counts.{classes_nest, counts_fit, held_match, marks_match, sizes_fit}
use Rattle.co_core.specs.Valid.{HoldsIsValid, IsValid, holds_of}

first_holds : (a b : Bool) → IsTrue (a && b) → IsTrue a
first_holds true b h = refl
first_holds false b h = h

rest_holds : (a b : Bool) → IsTrue (a && b) → IsTrue b
rest_holds true b h = h
rest_holds false b h = absurd (false≢true h)

both_hold : (a b : Bool) → IsTrue a → IsTrue b → IsTrue (a && b)
both_hold true b h k = k
both_hold false b h k = h

pub to_valid : (unit : UnitParts) → IsTrue (holds_of unit) → IsValid unit
to_valid unit h0 =
    let h1 = rest_holds (ids_held unit) (all_typed unit && (numbers_fit unit && (all_visible unit && (jumps_placed unit && (points_differ unit && (ends_noexcept unit && (finals_noexcept unit && (main_fits unit && (made_once unit && (ends_placed unit && (params_listed unit && (plans_call unit && (marks_match unit && (storage_fits unit && (held_match unit && (classes_nest unit.classes && (sizes_fit unit && (counts_fit unit)))))))))))))))))) h0 in
    let h2 = rest_holds (all_typed unit) (numbers_fit unit && (all_visible unit && (jumps_placed unit && (points_differ unit && (ends_noexcept unit && (finals_noexcept unit && (main_fits unit && (made_once unit && (ends_placed unit && (params_listed unit && (plans_call unit && (marks_match unit && (storage_fits unit && (held_match unit && (classes_nest unit.classes && (sizes_fit unit && (counts_fit unit))))))))))))))))) h1 in
    let h3 = rest_holds (numbers_fit unit) (all_visible unit && (jumps_placed unit && (points_differ unit && (ends_noexcept unit && (finals_noexcept unit && (main_fits unit && (made_once unit && (ends_placed unit && (params_listed unit && (plans_call unit && (marks_match unit && (storage_fits unit && (held_match unit && (classes_nest unit.classes && (sizes_fit unit && (counts_fit unit)))))))))))))))) h2 in
    let h4 = rest_holds (all_visible unit) (jumps_placed unit && (points_differ unit && (ends_noexcept unit && (finals_noexcept unit && (main_fits unit && (made_once unit && (ends_placed unit && (params_listed unit && (plans_call unit && (marks_match unit && (storage_fits unit && (held_match unit && (classes_nest unit.classes && (sizes_fit unit && (counts_fit unit))))))))))))))) h3 in
    let h5 = rest_holds (jumps_placed unit) (points_differ unit && (ends_noexcept unit && (finals_noexcept unit && (main_fits unit && (made_once unit && (ends_placed unit && (params_listed unit && (plans_call unit && (marks_match unit && (storage_fits unit && (held_match unit && (classes_nest unit.classes && (sizes_fit unit && (counts_fit unit)))))))))))))) h4 in
    let h6 = rest_holds (points_differ unit) (ends_noexcept unit && (finals_noexcept unit && (main_fits unit && (made_once unit && (ends_placed unit && (params_listed unit && (plans_call unit && (marks_match unit && (storage_fits unit && (held_match unit && (classes_nest unit.classes && (sizes_fit unit && (counts_fit unit))))))))))))) h5 in
    let h7 = rest_holds (ends_noexcept unit) (finals_noexcept unit && (main_fits unit && (made_once unit && (ends_placed unit && (params_listed unit && (plans_call unit && (marks_match unit && (storage_fits unit && (held_match unit && (classes_nest unit.classes && (sizes_fit unit && (counts_fit unit)))))))))))) h6 in
    let h8 = rest_holds (finals_noexcept unit) (main_fits unit && (made_once unit && (ends_placed unit && (params_listed unit && (plans_call unit && (marks_match unit && (storage_fits unit && (held_match unit && (classes_nest unit.classes && (sizes_fit unit && (counts_fit unit))))))))))) h7 in
    let h9 = rest_holds (main_fits unit) (made_once unit && (ends_placed unit && (params_listed unit && (plans_call unit && (marks_match unit && (storage_fits unit && (held_match unit && (classes_nest unit.classes && (sizes_fit unit && (counts_fit unit)))))))))) h8 in
    let h10 = rest_holds (made_once unit) (ends_placed unit && (params_listed unit && (plans_call unit && (marks_match unit && (storage_fits unit && (held_match unit && (classes_nest unit.classes && (sizes_fit unit && (counts_fit unit))))))))) h9 in
    let h11 = rest_holds (ends_placed unit) (params_listed unit && (plans_call unit && (marks_match unit && (storage_fits unit && (held_match unit && (classes_nest unit.classes && (sizes_fit unit && (counts_fit unit)))))))) h10 in
    let h12 = rest_holds (params_listed unit) (plans_call unit && (marks_match unit && (storage_fits unit && (held_match unit && (classes_nest unit.classes && (sizes_fit unit && (counts_fit unit))))))) h11 in
    let h13 = rest_holds (plans_call unit) (marks_match unit && (storage_fits unit && (held_match unit && (classes_nest unit.classes && (sizes_fit unit && (counts_fit unit)))))) h12 in
    let h14 = rest_holds (marks_match unit) (storage_fits unit && (held_match unit && (classes_nest unit.classes && (sizes_fit unit && (counts_fit unit))))) h13 in
    let h15 = rest_holds (storage_fits unit) (held_match unit && (classes_nest unit.classes && (sizes_fit unit && (counts_fit unit)))) h14 in
    let h16 = rest_holds (held_match unit) (classes_nest unit.classes && (sizes_fit unit && (counts_fit unit))) h15 in
    let h17 = rest_holds (classes_nest unit.classes) (sizes_fit unit && (counts_fit unit)) h16 in
    let h18 = rest_holds (sizes_fit unit) (counts_fit unit) h17 in
    record {
      ids = first_holds (ids_held unit) (all_typed unit && (numbers_fit unit && (all_visible unit && (jumps_placed unit && (points_differ unit && (ends_noexcept unit && (finals_noexcept unit && (main_fits unit && (made_once unit && (ends_placed unit && (params_listed unit && (plans_call unit && (marks_match unit && (storage_fits unit && (held_match unit && (classes_nest unit.classes && (sizes_fit unit && (counts_fit unit)))))))))))))))))) h0;
      types = first_holds (all_typed unit) (numbers_fit unit && (all_visible unit && (jumps_placed unit && (points_differ unit && (ends_noexcept unit && (finals_noexcept unit && (main_fits unit && (made_once unit && (ends_placed unit && (params_listed unit && (plans_call unit && (marks_match unit && (storage_fits unit && (held_match unit && (classes_nest unit.classes && (sizes_fit unit && (counts_fit unit))))))))))))))))) h1;
      numbers = first_holds (numbers_fit unit) (all_visible unit && (jumps_placed unit && (points_differ unit && (ends_noexcept unit && (finals_noexcept unit && (main_fits unit && (made_once unit && (ends_placed unit && (params_listed unit && (plans_call unit && (marks_match unit && (storage_fits unit && (held_match unit && (classes_nest unit.classes && (sizes_fit unit && (counts_fit unit)))))))))))))))) h2;
      scopes = first_holds (all_visible unit) (jumps_placed unit && (points_differ unit && (ends_noexcept unit && (finals_noexcept unit && (main_fits unit && (made_once unit && (ends_placed unit && (params_listed unit && (plans_call unit && (marks_match unit && (storage_fits unit && (held_match unit && (classes_nest unit.classes && (sizes_fit unit && (counts_fit unit))))))))))))))) h3;
      jumps = first_holds (jumps_placed unit) (points_differ unit && (ends_noexcept unit && (finals_noexcept unit && (main_fits unit && (made_once unit && (ends_placed unit && (params_listed unit && (plans_call unit && (marks_match unit && (storage_fits unit && (held_match unit && (classes_nest unit.classes && (sizes_fit unit && (counts_fit unit)))))))))))))) h4;
      points = first_holds (points_differ unit) (ends_noexcept unit && (finals_noexcept unit && (main_fits unit && (made_once unit && (ends_placed unit && (params_listed unit && (plans_call unit && (marks_match unit && (storage_fits unit && (held_match unit && (classes_nest unit.classes && (sizes_fit unit && (counts_fit unit))))))))))))) h5;
      ends = first_holds (ends_noexcept unit) (finals_noexcept unit && (main_fits unit && (made_once unit && (ends_placed unit && (params_listed unit && (plans_call unit && (marks_match unit && (storage_fits unit && (held_match unit && (classes_nest unit.classes && (sizes_fit unit && (counts_fit unit)))))))))))) h6;
      finals = first_holds (finals_noexcept unit) (main_fits unit && (made_once unit && (ends_placed unit && (params_listed unit && (plans_call unit && (marks_match unit && (storage_fits unit && (held_match unit && (classes_nest unit.classes && (sizes_fit unit && (counts_fit unit))))))))))) h7;
      main = first_holds (main_fits unit) (made_once unit && (ends_placed unit && (params_listed unit && (plans_call unit && (marks_match unit && (storage_fits unit && (held_match unit && (classes_nest unit.classes && (sizes_fit unit && (counts_fit unit)))))))))) h8;
      made = first_holds (made_once unit) (ends_placed unit && (params_listed unit && (plans_call unit && (marks_match unit && (storage_fits unit && (held_match unit && (classes_nest unit.classes && (sizes_fit unit && (counts_fit unit))))))))) h9;
      returns = first_holds (ends_placed unit) (params_listed unit && (plans_call unit && (marks_match unit && (storage_fits unit && (held_match unit && (classes_nest unit.classes && (sizes_fit unit && (counts_fit unit)))))))) h10;
      params = first_holds (params_listed unit) (plans_call unit && (marks_match unit && (storage_fits unit && (held_match unit && (classes_nest unit.classes && (sizes_fit unit && (counts_fit unit))))))) h11;
      plans = first_holds (plans_call unit) (marks_match unit && (storage_fits unit && (held_match unit && (classes_nest unit.classes && (sizes_fit unit && (counts_fit unit)))))) h12;
      marks = first_holds (marks_match unit) (storage_fits unit && (held_match unit && (classes_nest unit.classes && (sizes_fit unit && (counts_fit unit))))) h13;
      storage = first_holds (storage_fits unit) (held_match unit && (classes_nest unit.classes && (sizes_fit unit && (counts_fit unit)))) h14;
      held = first_holds (held_match unit) (classes_nest unit.classes && (sizes_fit unit && (counts_fit unit))) h15;
      classes = first_holds (classes_nest unit.classes) (sizes_fit unit && (counts_fit unit)) h16;
      sizes = first_holds (sizes_fit unit) (counts_fit unit) h17;
      counts = h18;
    }

pub from_valid : (unit : UnitParts) → IsValid unit → IsTrue (holds_of unit)
from_valid unit v =
    let k17 = both_hold (sizes_fit unit) (counts_fit unit) v.sizes v.counts in
    let k16 = both_hold (classes_nest unit.classes) (sizes_fit unit && (counts_fit unit)) v.classes k17 in
    let k15 = both_hold (held_match unit) (classes_nest unit.classes && (sizes_fit unit && (counts_fit unit))) v.held k16 in
    let k14 = both_hold (storage_fits unit) (held_match unit && (classes_nest unit.classes && (sizes_fit unit && (counts_fit unit)))) v.storage k15 in
    let k13 = both_hold (marks_match unit) (storage_fits unit && (held_match unit && (classes_nest unit.classes && (sizes_fit unit && (counts_fit unit))))) v.marks k14 in
    let k12 = both_hold (plans_call unit) (marks_match unit && (storage_fits unit && (held_match unit && (classes_nest unit.classes && (sizes_fit unit && (counts_fit unit)))))) v.plans k13 in
    let k11 = both_hold (params_listed unit) (plans_call unit && (marks_match unit && (storage_fits unit && (held_match unit && (classes_nest unit.classes && (sizes_fit unit && (counts_fit unit))))))) v.params k12 in
    let k10 = both_hold (ends_placed unit) (params_listed unit && (plans_call unit && (marks_match unit && (storage_fits unit && (held_match unit && (classes_nest unit.classes && (sizes_fit unit && (counts_fit unit)))))))) v.returns k11 in
    let k9 = both_hold (made_once unit) (ends_placed unit && (params_listed unit && (plans_call unit && (marks_match unit && (storage_fits unit && (held_match unit && (classes_nest unit.classes && (sizes_fit unit && (counts_fit unit))))))))) v.made k10 in
    let k8 = both_hold (main_fits unit) (made_once unit && (ends_placed unit && (params_listed unit && (plans_call unit && (marks_match unit && (storage_fits unit && (held_match unit && (classes_nest unit.classes && (sizes_fit unit && (counts_fit unit)))))))))) v.main k9 in
    let k7 = both_hold (finals_noexcept unit) (main_fits unit && (made_once unit && (ends_placed unit && (params_listed unit && (plans_call unit && (marks_match unit && (storage_fits unit && (held_match unit && (classes_nest unit.classes && (sizes_fit unit && (counts_fit unit))))))))))) v.finals k8 in
    let k6 = both_hold (ends_noexcept unit) (finals_noexcept unit && (main_fits unit && (made_once unit && (ends_placed unit && (params_listed unit && (plans_call unit && (marks_match unit && (storage_fits unit && (held_match unit && (classes_nest unit.classes && (sizes_fit unit && (counts_fit unit)))))))))))) v.ends k7 in
    let k5 = both_hold (points_differ unit) (ends_noexcept unit && (finals_noexcept unit && (main_fits unit && (made_once unit && (ends_placed unit && (params_listed unit && (plans_call unit && (marks_match unit && (storage_fits unit && (held_match unit && (classes_nest unit.classes && (sizes_fit unit && (counts_fit unit))))))))))))) v.points k6 in
    let k4 = both_hold (jumps_placed unit) (points_differ unit && (ends_noexcept unit && (finals_noexcept unit && (main_fits unit && (made_once unit && (ends_placed unit && (params_listed unit && (plans_call unit && (marks_match unit && (storage_fits unit && (held_match unit && (classes_nest unit.classes && (sizes_fit unit && (counts_fit unit)))))))))))))) v.jumps k5 in
    let k3 = both_hold (all_visible unit) (jumps_placed unit && (points_differ unit && (ends_noexcept unit && (finals_noexcept unit && (main_fits unit && (made_once unit && (ends_placed unit && (params_listed unit && (plans_call unit && (marks_match unit && (storage_fits unit && (held_match unit && (classes_nest unit.classes && (sizes_fit unit && (counts_fit unit))))))))))))))) v.scopes k4 in
    let k2 = both_hold (numbers_fit unit) (all_visible unit && (jumps_placed unit && (points_differ unit && (ends_noexcept unit && (finals_noexcept unit && (main_fits unit && (made_once unit && (ends_placed unit && (params_listed unit && (plans_call unit && (marks_match unit && (storage_fits unit && (held_match unit && (classes_nest unit.classes && (sizes_fit unit && (counts_fit unit)))))))))))))))) v.numbers k3 in
    let k1 = both_hold (all_typed unit) (numbers_fit unit && (all_visible unit && (jumps_placed unit && (points_differ unit && (ends_noexcept unit && (finals_noexcept unit && (main_fits unit && (made_once unit && (ends_placed unit && (params_listed unit && (plans_call unit && (marks_match unit && (storage_fits unit && (held_match unit && (classes_nest unit.classes && (sizes_fit unit && (counts_fit unit))))))))))))))))) v.types k2 in
    let k0 = both_hold (ids_held unit) (all_typed unit && (numbers_fit unit && (all_visible unit && (jumps_placed unit && (points_differ unit && (ends_noexcept unit && (finals_noexcept unit && (main_fits unit && (made_once unit && (ends_placed unit && (params_listed unit && (plans_call unit && (marks_match unit && (storage_fits unit && (held_match unit && (classes_nest unit.classes && (sizes_fit unit && (counts_fit unit)))))))))))))))))) v.ids k1 in
    k0

pub holds_valid : HoldsIsValid
holds_valid unit = (to_valid unit, from_valid unit)
