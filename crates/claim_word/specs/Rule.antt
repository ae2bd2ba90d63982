-- The rule of the claim word, which holds between any two steps, and what a step on a word tells.
-- Place 0 has the next number, and place b + 1 has 1 where the pass b was made.
use Rattle.std.specs.Prelude.{◌≡◌, ◌≢◌, ℕ, ◌+◌, ◌-◌, ◌<◌, ◌≤◌, ◌^◌, true, if◌then◌else◌, [], length, min, sum_by, slice_index}
use mathlib.Core.Option.{some}
use lib.ListN.{get_elem?}
use Rattle.atomic_table.specs.Table.{State, Me, Step}
use Rattle.claim_word.specs.declared.view.Draws.{Draws}
use Rattle.claim_word.specs.Counting.{times, OnceBelow}
use Rattle.claim_word.specs.Views.{drew, met_end, knows, numbered}

-- what is counted of a pass, and summed over all: how often it drew x, how many numbers it drew
abbrev pub times_drawn : ℕ → Draws → ℕ
times_drawn x v = times x v.numbers

abbrev pub count_drawn : Draws → ℕ
count_drawn v = length v.numbers

-- how many of its draws found the word at or past the limit
abbrev pub count_overruns : Draws → ℕ
count_overruns v = v.overruns

-- how often it holds the bit b, how many bits it holds, and how many where it has met the end
abbrev pub times_held : ℕ → Draws → ℕ
times_held b v = times b v.bits

abbrev pub bits_held : Draws → ℕ
bits_held v = length v.bits

abbrev pub bits_ended : Draws → ℕ
bits_ended v = if v.ended then length v.bits else 0

-- what the rule says of each pass, where the next number is `word` and `made` passes were made
-- (what is left of a pass that was taken in has no bits)
pub record PassRule (limit word made : ℕ) (v : Draws) : Type 0 where
  -- a pass without bits has drawn nothing
  pub idle : length v.bits ≡ 0 → (v.numbers ≡ []) × (v.overruns ≡ 0)
  -- where a pass has met the end, the word is at or past the limit
  pub past : v.ended ≡ true → limit ≤ word
  -- as many passes were made as it knows of
  pub seen : v.seen ≤ made
  -- each pass that is held knows the limit and the first pass
  pub limit_known : 0 < length v.bits → v.limit ≡ limit
  pub first_known : 0 < length v.bits → 0 < times 0 v.made

-- the rule. `made` is how many passes were made, and `parent` is the pass that each was split from
pub record ClaimRule (limit callers : ℕ) (s : State (Unit {0}) Draws) : Type 0 where
  -- a word each for the next number and for 65 callers
  pub wide : length s.words ≡ 66
  pub limit_fits : limit < 2 ^ 32
  pub callers_fit : callers ≤ 65
  pub made : ℕ
  pub parent : ℕ → ℕ
  pub some_made : 0 < made
  pub made_fit : made ≤ callers
  -- each number below the word and the limit was drawn by one pass, once, and no other number was
  pub drawn_once : (x : ℕ) → OnceBelow (min (slice_index s.words 0) limit) x (sum_by (times_drawn x) s.views)
  pub drawn : sum_by count_drawn s.views ≡ min (slice_index s.words 0) limit
  -- the word counts all draws
  pub counted : slice_index s.words 0 ≡ sum_by count_drawn s.views + sum_by count_overruns s.views
  -- a pass past the end draws no more, so the word stays small
  pub room : slice_index s.words 0 ≤ limit + sum_by bits_ended s.views
  -- the bits that are set are the first ones, and each is held by one pass
  pub set_bits : (b : ℕ) → b < made → slice_index s.words (b + 1) ≡ 1
  pub clear_bits : (b : ℕ) → made ≤ b → b < callers → slice_index s.words (b + 1) ≡ 0
  pub held_once : (b : ℕ) → OnceBelow made b (sum_by (times_held b) s.views)
  pub held : sum_by bits_held s.views ≡ made
  pub each_pass : (j : ℕ) (v : Draws) → get_elem? s.views j ≡ some v → PassRule limit (slice_index s.words 0) made v
  -- who holds a pass knows of each that was split from it
  pub rooted : (c : ℕ) → 0 < c → c < made → parent c < c
  pub known : (c : ℕ) → 0 < c → c < made → (j : ℕ) (v : Draws) → get_elem? s.views j ≡ some v → 0 < times (parent c) v.bits → 0 < times c v.made

abbrev SeatView : Type 0
SeatView = Me (Unit {0}) Draws

-- a draw: the number found is drawn where it is below the limit, and else the pass has met the end
abbrev pub DrawStep : Step (Unit {0}) → SeatView → ℕ → SeatView → Type 0
DrawStep at me found after =
    (found < me.0.limit → after.0 ≡ drew me.0 found) × (me.0.limit ≤ found → after.0 ≡ met_end me.0)
    × (after.1 ≡ me.1) × (length after.0.numbers ≤ me.0.limit)

-- a try to number a new pass: it has the number of the bit that was clear, or the bit was set before
abbrev pub NumberStep : Step (Unit {0}) → SeatView → ℕ → SeatView → Type 0
NumberStep at me found after =
    (found ≡ 0 → after.0 ≡ numbered me.0 (at.word - 1)) × (found ≢ 0 → after.0 ≡ knows me.0 at.word) × (after.1 ≡ me.1)
