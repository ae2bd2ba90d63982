-- The numbers of variables where some are dropped: what IsEmitted asks of them, from a flag for each variable.
use Rattle.std.proofs.Common.{◌≡◌, ℕ, zero, suc, ◌<◌, Bool, true, false, List, [], ◌∷◌, length, map, option_map, Some, slice_get, refl, ap, ◌∙◌, arith}
use Rattle.ir_meaning.specs.Memory.{MemoryBlock, Memory}
use Rattle.ir_meaning.specs.Refine.{Naming}
use Rattle.ir_meaning.specs.Rename.{cells_under, IsThere}

-- how many are kept
abbrev pub kept_count : List Bool → ℕ
kept_count [] = 0
kept_count (true ∷ bs) = suc (kept_count bs)
kept_count (false ∷ bs) = kept_count bs

-- the number of the l-th that is kept
abbrev pub kept_at : List Bool → ℕ → ℕ
kept_at [] l = l
kept_at (true ∷ bs) zero = 0
kept_at (true ∷ bs) (suc l) = suc (kept_at bs l)
kept_at (false ∷ bs) l = suc (kept_at bs l)

-- how many before this one are kept
abbrev pub place_among : List Bool → ℕ → ℕ
place_among [] r = 0
place_among (b ∷ bs) zero = 0
place_among (true ∷ bs) (suc r) = suc (place_among bs r)
place_among (false ∷ bs) (suc r) = place_among bs r

-- those that are kept
abbrev pub sieve : {X : Type 0} → List Bool → List X → List X
sieve [] xs = []
sieve (b ∷ bs) [] = []
sieve (true ∷ bs) (x ∷ xs) = x ∷ sieve bs xs
sieve (false ∷ bs) (x ∷ xs) = sieve bs xs

pub kept_within : (bs : List Bool) (l : ℕ) → l < kept_count bs → kept_at bs l < length bs
kept_within [] l lt = absurd (omega (arith, lt))
kept_within (true ∷ bs) zero lt = omega arith
kept_within (true ∷ bs) (suc l) lt = let x = kept_within bs l (omega (arith, lt)) in omega (arith, x)
kept_within (false ∷ bs) l lt = let x = kept_within bs l lt in omega (arith, x)

pub kept_back : (bs : List Bool) (l : ℕ) → l < kept_count bs → place_among bs (kept_at bs l) ≡ l
kept_back [] l lt = absurd (omega (arith, lt))
kept_back (true ∷ bs) zero lt = refl
kept_back (true ∷ bs) (suc l) lt = ap (λ (k : ℕ). suc k) (kept_back bs l (omega (arith, lt)))
kept_back (false ∷ bs) l lt = kept_back bs l lt

pub kept_there : (bs : List Bool) (r : ℕ) → slice_get bs r ≡ Some true → (place_among bs r < kept_count bs) ×
    (kept_at bs (place_among bs r) ≡ r)
kept_there [] r e = absurd (cc e)
kept_there (true ∷ bs) zero e = (omega arith, refl)
kept_there (false ∷ bs) zero e = absurd (cc e)
kept_there (true ∷ bs) (suc r) e =
    let x = kept_there bs r e in
    let lt = x.0 in
    (omega (arith, lt), ap (λ (k : ℕ). suc k) x.1)
kept_there (false ∷ bs) (suc r) e =
    let x = kept_there bs r e in
    (x.0, ap (λ (k : ℕ). suc k) x.1)

pub sieve_length : {X : Type 0} (bs : List Bool) (xs : List X) → length bs ≡ length xs → length (sieve bs xs) ≡ kept_count bs
sieve_length [] xs e = refl
sieve_length (b ∷ bs) [] e = absurd (omega (arith, e))
sieve_length (true ∷ bs) (x ∷ xs) e = ap (λ (k : ℕ). suc k) (sieve_length bs xs (omega (arith, e)))
sieve_length (false ∷ bs) (x ∷ xs) e = sieve_length bs xs (omega (arith, e))

pub sieve_get : {X : Type 0} (bs : List Bool) (xs : List X) (l : ℕ) → length bs ≡ length xs → l < kept_count bs →
    slice_get (sieve bs xs) l ≡ slice_get xs (kept_at bs l)
sieve_get [] xs l e lt = absurd (omega (arith, lt))
sieve_get (b ∷ bs) [] l e lt = absurd (omega (arith, e))
sieve_get (true ∷ bs) (x ∷ xs) zero e lt = refl
sieve_get (true ∷ bs) (x ∷ xs) (suc l) e lt = sieve_get bs xs l (omega (arith, e)) (omega (arith, lt))
sieve_get (false ∷ bs) (x ∷ xs) l e lt = sieve_get bs xs l (omega (arith, e)) lt

map_get : (f : MemoryBlock → MemoryBlock) (m : Memory) (l : ℕ) → slice_get (map f m) l ≡ option_map f (slice_get m l)
map_get f [] l = refl
map_get f (b ∷ m) zero = refl
map_get f (b ∷ m) (suc l) = map_get f m l

-- the variables that are kept, under the final names, are what IsEmitted asks
pub sieved_opening : (final : Naming) (bs : List Bool) (m : Memory) (l : ℕ) → length bs ≡ length m → l < kept_count bs →
    slice_get (map (cells_under final) (sieve bs m)) l ≡ option_map (cells_under final) (slice_get m (kept_at bs l))
sieved_opening final bs m l e lt = map_get (cells_under final) (sieve bs m) l ∙ ap (option_map (cells_under final)) (sieve_get bs m l e lt)

-- a variable that is kept is there
pub sieved_there : (t : Naming) (bs : List Bool) (r : ℕ) → t.count ≡ kept_count bs → ((l : ℕ) → t.variable l ≡ kept_at bs l) →
    slice_get bs r ≡ Some true → IsThere t r
sieved_there t bs r c v e =
    let x = kept_there bs r e in
    let lt = x.0 in
    (place_among bs r, omega (arith, c, lt), v (place_among bs r) ∙ x.1)
