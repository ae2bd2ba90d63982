-- The places of the definitions of a sort, in a list of sorts in the order of a text.
use Rattle.std.proofs.Common.{◌≡◌, ℕ, zero, suc, ◌+◌, nat_eq, ◌≤◌, Bool, true, false, List, [], ◌∷◌, ◌++◌, length, Some, refl, sym, ◌∙◌, ap, subst, arith, if◌then◌else◌}
use Rattle.std.specs.Prelude.{slice_get}
use Rattle.std.proofs.lemmas.Bool.{eq-eqb, or_left, or_right}
use Rattle.ir_tree.specs.Flow.{holds}
use Rattle.ir_tree.specs.Formed.{Distinct}
use Rattle.ir_edit.proofs.Tally.{tally, tally_both, distinct_less}
use Rattle.ir_parse_names.specs.declared.locals.Sort.{Sort}
use Rattle.ir_parse_names.specs.declared.locals.Sort.TheVariants.{Value, Block}
use Rattle.ir_parse_names.specs.Locals.{same_sort}

-- the first of the list stands at n
abbrev pub positions : Sort → ℕ → List Sort → List ℕ
positions s n [] = []
positions s n (t ∷ ts) = if same_sort s t then n ∷ positions s (n + 1) ts else positions s (n + 1) ts

pub positions_both : (s : Sort) (n : ℕ) (a b : List Sort) → positions s n (a ++ b) ≡ positions s n a ++ positions s (n + length a) b
positions_both s n [] b = ap (λ m. positions s m b) (omega arith)
positions_both s n (t ∷ a) b = by (same_sort s t) (positions_both s (n + 1) a b ∙ ap (λ m. positions s (n + 1) a ++ positions s m b) (omega arith))
  where
    by : (same : Bool) → positions s (n + 1) (a ++ b) ≡ positions s (n + 1) a ++ positions s (n + length (t ∷ a)) b
        → (if same then n ∷ positions s (n + 1) (a ++ b) else positions s (n + 1) (a ++ b)) ≡ (if same then n ∷ positions s (n + 1) a else positions s (n + 1) a) ++ positions s (n + length (t ∷ a)) b
    by true h = ap (λ (ns : List ℕ). n ∷ ns) h
    by false h = h

-- ---- what stands at a place is among the places of its sort

itself : (s : Sort) → same_sort s s ≡ true
itself Value = refl
itself Block = refl

pub among : (s : Sort) (n : ℕ) (ts : List Sort) (k : ℕ) → slice_get ts k ≡ Some s → holds (positions s n ts) (n + k) ≡ true
among s n [] k e = absurd cc
among s n (t ∷ ts) zero e =
    let same : t ≡ s = cc in
    let here : same_sort s t ≡ true = ap (same_sort s) same ∙ itself s in
    subst (λ (b : Bool). holds (if b then n ∷ positions s (n + 1) ts else positions s (n + 1) ts) (n + 0) ≡ true) (sym here)
    (or_left (nat_eq (n + 0) n) (holds (positions s (n + 1) ts) (n + 0)) (eq-eqb (n + 0) n (omega arith)))
among s n (t ∷ ts) (suc k) e = by (same_sort s t) (subst (λ (m : ℕ). holds (positions s (n + 1) ts) m ≡ true) (omega arith) (among s (n + 1) ts k e))
  where
    by : (same : Bool) → holds (positions s (n + 1) ts) (n + suc k) ≡ true → holds (if same then n ∷ positions s (n + 1) ts else positions s (n + 1) ts) (n + suc k) ≡ true
    by true h = or_right (nat_eq (n + suc k) n) (holds (positions s (n + 1) ts) (n + suc k)) h
    by false h = h

-- ---- the places of both sorts differ

-- all places
abbrev counting : ℕ → List Sort → List ℕ
counting n [] = []
counting n (t ∷ ts) = n ∷ counting (n + 1) ts

counted : (n : ℕ) (ts : List Sort) (i x : ℕ) → slice_get (counting n ts) i ≡ Some x → x ≡ n + i
counted n [] i x e = absurd cc
counted n (t ∷ ts) zero x e = let same : n ≡ x = cc in omega (arith, same)
counted n (t ∷ ts) (suc i) x e = let more : x ≡ n + 1 + i = counted (n + 1) ts i x e in omega (arith, more)

counting_differs : (n : ℕ) (ts : List Sort) → Distinct (counting n ts)
counting_differs n ts i j x e g = let a : x ≡ n + i = counted n ts i x e in let b : x ≡ n + j = counted n ts j x g in omega (arith, a, b)

shared : (x n : ℕ) (ts : List Sort) → tally x (positions Value n ts) + tally x (positions Block n ts) ≡ tally x (counting n ts)
shared x n [] = omega arith
shared x n (Value ∷ ts) =
    let more : tally x (positions Value (n + 1) ts) + tally x (positions Block (n + 1) ts) ≡ tally x (counting (n + 1) ts) = shared x (n + 1) ts in omega (arith, more)
shared x n (Block ∷ ts) =
    let more : tally x (positions Value (n + 1) ts) + tally x (positions Block (n + 1) ts) ≡ tally x (counting (n + 1) ts) = shared x (n + 1) ts in omega (arith, more)

pub places_differ : (n : ℕ) (ts : List Sort) → Distinct (positions Value n ts ++ positions Block n ts)
places_differ n ts = distinct_less (positions Value n ts ++ positions Block n ts) (counting n ts) less (counting_differs n ts)
  where
    less : (x : ℕ) → tally x (positions Value n ts ++ positions Block n ts) ≤ tally x (counting n ts)
    less x =
        let a : tally x (positions Value n ts ++ positions Block n ts) ≡ tally x (positions Value n ts) + tally x (positions Block n ts) = tally_both x (positions Value n ts) (positions Block n ts) in
        let b : tally x (positions Value n ts) + tally x (positions Block n ts) ≡ tally x (counting n ts) = shared x n ts in
        omega (arith, a, b)
