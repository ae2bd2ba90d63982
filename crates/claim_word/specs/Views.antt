-- How each kind of step changes what a pass has drawn and holds.
use Rattle.std.specs.Prelude.{ℕ, ◌+◌, ◌<◌, true, false, ◌||◌, List, [], ◌∷◌, ◌++◌, max}
use Rattle.claim_word.specs.declared.view.Draws.{Draws}
use Rattle.claim_word.specs.Counting.{times}

-- the first pass, whose number is 0
abbrev pub opening_draws : ℕ → Draws
opening_draws limit = record { numbers = []; overruns = 0; ended = false; bits = 0 ∷ []; made = 0 ∷ []; seen = 1; limit = limit }

-- what is left of a pass that another has taken in
abbrev pub no_draws : Draws
no_draws = record { numbers = []; overruns = 0; ended = false; bits = []; made = []; seen = 0; limit = 0 }

-- the number k was drawn
abbrev pub drew : Draws → ℕ → Draws
drew v k = record v { numbers = v.numbers ++ k ∷ [] }

-- a draw found the word at or past the limit
abbrev pub met_end : Draws → Draws
met_end v = record v { overruns = v.overruns + 1; ended = true }

-- at least k passes were made
abbrev pub knows : Draws → ℕ → Draws
knows v k = record v { seen = max v.seen k }

-- the bit b was set, for a pass that is still to be cut off
abbrev pub numbered : Draws → ℕ → Draws
numbered v b = record v { bits = b ∷ v.bits; made = b ∷ v.made; seen = b + 1 }

-- a pass that was numbered is cut in two: the new pass gets the bit that was set last, and nothing that was drawn
abbrev pub head_of : List ℕ → List ℕ
head_of [] = []
head_of (x ∷ xs) = x ∷ []

abbrev pub tail_of : List ℕ → List ℕ
tail_of [] = []
tail_of (x ∷ xs) = xs

abbrev pub kept_part : Draws → Draws
kept_part v = record v { bits = tail_of v.bits }

abbrev pub cut_part : Draws → Draws
cut_part v = record v { numbers = []; overruns = 0; bits = head_of v.bits }

-- both at once: a pass from which the pass b was split, and the pass b
abbrev pub cut_from : Draws → ℕ → Draws
cut_from v b = record v { made = b ∷ v.made; seen = b + 1 }

abbrev pub new_pass : Draws → ℕ → Draws
new_pass v b = record { numbers = []; overruns = 0; ended = v.ended; bits = b ∷ []; made = b ∷ v.made; seen = b + 1; limit = v.limit }

-- a pass that has taken another in
abbrev pub both_draws : Draws → Draws → Draws
both_draws v w =
    record {
      numbers = v.numbers ++ w.numbers;
      overruns = v.overruns + w.overruns;
      ended = v.ended || w.ended;
      bits = v.bits ++ w.bits;
      made = v.made ++ w.made;
      seen = max v.seen w.seen;
      limit = v.limit;
    }

-- the pass holds each pass that it knows to have been made
abbrev pub HoldsAll : Draws → Type 0
HoldsAll v = (b : ℕ) → 0 < times b v.made → 0 < times b v.bits
