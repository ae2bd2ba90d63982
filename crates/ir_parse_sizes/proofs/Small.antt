-- Measures within bounds.
use Rattle.std.proofs.Common.{◌≡◌, ◌≤◌, ◌<◌, ℕ, zero, suc, ◌+◌, List, [], ◌∷◌, ◌++◌, length, drop, get_or, max, Bool, true, false, arith}
use Rattle.ir_tree.proofs.Layouts.{rounded_least}
use Rattle.ir_parse_sizes.specs.declared.measure.Measure.{Measure}
use Rattle.ir_parse_sizes.specs.Measures.{IsSmall, AreSmall, begins, ends, widest, deepest_of}

pub widest_least : (ms : List Measure) → 1 ≤ widest ms
widest_least [] = omega arith
widest_least (m ∷ ms) = omega (arith, widest_least ms)

pub widest_most : (ms : List Measure) → AreSmall ms → widest ms ≤ 8
widest_most [] h = omega arith
widest_most (m ∷ ms) h = omega (arith, h.0.most, widest_most ms h.1)

pub max_widest : (ms : List Measure) → max 1 (widest ms) ≡ widest ms
max_widest ms = omega (arith, widest_least ms)

pub deepest_most : (ms : List Measure) → AreSmall ms → deepest_of ms ≤ 32
deepest_most [] h = omega arith
deepest_most (m ∷ ms) h = omega (arith, h.0.levels, deepest_most ms h.1)

begins_least : (packed : Bool) (place : ℕ) (m : Measure) → IsSmall m → place ≤ begins packed place m
begins_least true place m h = omega arith
begins_least false place m h = rounded_least place m.align h.least

pub ends_least : (packed : Bool) (place : ℕ) (ms : List Measure) → AreSmall ms → place ≤ ends packed place ms
ends_least packed place [] h = omega arith
ends_least packed place (m ∷ ms) h = omega (arith, begins_least packed place m h.0, ends_least packed (begins packed place m + m.size) ms h.1)

-- the end of the next part is no greater than that of all
pub step_least : (packed : Bool) (place : ℕ) (ms : List Measure) (k : ℕ) (d : Measure) → k < length ms → AreSmall (drop k ms) → begins packed place (get_or ms k d) + (get_or ms k d).size ≤ ends packed place (drop k ms)
step_least packed place [] k d lt h = absurd (omega (arith, lt))
step_least packed place (n ∷ ms) zero d lt h = ends_least packed (begins packed place n + n.size) ms h.1
step_least packed place (n ∷ ms) (suc k) d lt h = step_least packed place ms k d (omega (arith, lt)) h

pub small_push : (ms : List Measure) (m : Measure) → AreSmall ms → IsSmall m → AreSmall (ms ++ m ∷ [])
small_push [] m h last = (last, tt)
small_push (n ∷ ms) m h last = (h.0, small_push ms m h.1 last)
