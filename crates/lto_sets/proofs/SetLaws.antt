-- Sets as lists of booleans.
use Rattle.std.proofs.Common.{◌≡◌, ℕ, zero, suc, ◌<◌, Bool, false, ◌&&◌, ◌||◌, List, [], ◌∷◌, length, get_or, refl, sym, ap, arith}
use Rattle.lto_sets.specs.Sets.{combined}
use Rattle.lto_sets.specs.Laws.{MeetIsIntersection, JoinIsUnion}

pub length-combined : (f : Bool → Bool → Bool) (s t : List Bool) → length s ≡ length t → length (combined f s t) ≡ length s
length-combined f [] t e = refl
length-combined f (x ∷ s) [] e = absurd (omega arith)
length-combined f (x ∷ s) (y ∷ t) e =
    let rest : length s ≡ length t = omega arith in
    ap suc (length-combined f s t rest)

-- a number is in both, or in either, as the operation says of it alone
pub get_or-combined : (f : Bool → Bool → Bool) (s t : List Bool) (k : ℕ) → length s ≡ length t → k < length s → get_or (combined f s t) k false ≡ f (get_or s k false) (get_or t k false)
get_or-combined f [] t k e h = absurd (omega arith)
get_or-combined f (x ∷ s) [] k e h = absurd (omega arith)
get_or-combined f (x ∷ s) (y ∷ t) zero e h = refl
get_or-combined f (x ∷ s) (y ∷ t) (suc k) e h =
    let rest : length s ≡ length t = omega arith in
    let below : k < length s = omega arith in
    get_or-combined f s t k rest below

-- no number past the size is in a set, so what holds below it holds everywhere
contains-combined : (f : Bool → Bool → Bool) (s t : List Bool) (k : ℕ) → f false false ≡ false → length s ≡ length t → get_or (combined f s t) k false ≡ f (get_or s k false) (get_or t k false)
contains-combined f [] [] k z e = sym z
contains-combined f [] (y ∷ t) k z e = absurd (omega arith)
contains-combined f (x ∷ s) [] k z e = absurd (omega arith)
contains-combined f (x ∷ s) (y ∷ t) zero z e = refl
contains-combined f (x ∷ s) (y ∷ t) (suc k) z e =
    let rest : length s ≡ length t = omega arith in
    contains-combined f s t k z rest

pub contains-meet : MeetIsIntersection
contains-meet s t e k = contains-combined (λ x y. x && y) s t k refl e

pub contains-join : JoinIsUnion
contains-join s t e k = contains-combined (λ x y. x || y) s t k refl e
