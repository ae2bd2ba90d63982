-- How often a number stands in a list.
use Rattle.std.specs.Prelude.{◌≡◌, ℕ, ◌+◌, ◌<◌, ◌≤◌, ◌==◌, if◌then◌else◌, List, [], ◌∷◌}

abbrev pub times : ℕ → List ℕ → ℕ
times x [] = 0
times x (y ∷ ys) = (if y == x then 1 else 0) + times x ys

-- a number that stands t times: once where it is below m, and else never
abbrev pub OnceBelow : ℕ → ℕ → ℕ → Type 0
OnceBelow m x t = (x < m → t ≡ 1) × (m ≤ x → t ≡ 0)

-- the list has each number below m once, and no other
abbrev pub EachOnceBelow : ℕ → List ℕ → Type 0
EachOnceBelow m xs = (x : ℕ) → OnceBelow m x (times x xs)
