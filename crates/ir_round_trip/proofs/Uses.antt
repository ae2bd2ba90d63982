-- A number that is used is known by its place.
use Rattle.std.proofs.Common.{◌≡◌, ℕ, zero, suc, ◌+◌, ◌<◌, Bool, true, false, cond, nat_eq, Option, Some, Ok, Err, List, [], ◌∷◌, map, length, slice_get, refl, ap, ◌∙◌, arith}
use Rattle.std.specs.List.{position_or_len}
use Rattle.ir_lex.specs.Tok.{Tok}
use Rattle.ir_parse_names.specs.Keys.{Key, written, same_key, key_of}
use Rattle.ir_parse_names.specs.Locals.{LocalTable, sort_of, same_sort, is_used_as, unknown, number_in}
use Rattle.ir_parse_names.specs.declared.locals.Sort.{Sort}
use Rattle.ir_parse_names.specs.declared.locals.Sort.TheVariants.{Value, Block}

-- what counts from this number on
abbrev pub keys_from : ℕ → List Sort → List (Key × Sort)
keys_from k [] = []
keys_from k (s ∷ ss) = (written k, s) ∷ keys_from (k + 1) ss

-- definitions of these sorts, by their places
abbrev pub known_with : List Sort → LocalTable
known_with ss = record { definitions = keys_from 0 ss; counter = length ss }

-- x is the key at this place, where the first is k
record IsAt (k x i : ℕ) (ss : List Sort) (s : Sort) : Type 0 where
  sort : sort_of (keys_from k ss) (written x) ≡ Some s
  place : position_or_len (same_key (written x)) (map (λ d. d.0) (keys_from k ss)) ≡ i

same : (a b : ℕ) → a ≡ b → nat_eq a b ≡ true
same a b e = grind arith

other : (a b : ℕ) → b < a → nat_eq a b ≡ false
other a b lt = grind arith

at_place : (k x i : ℕ) (ss : List Sort) (s : Sort) → x ≡ k + i → slice_get ss i ≡ Some s → IsAt k x i ss s
at_place k x i [] s at e = absurd cc
at_place k x zero (y ∷ ss) s at e = let here : nat_eq x k ≡ true = same x k (omega (arith, at)) in record { sort = rw here e; place = rw here refl }
at_place k x (suc i) (y ∷ ss) s at e =
    let further : nat_eq x k ≡ false = other x k (omega (arith, at)) in
    let rest : IsAt (k + 1) x i ss s = at_place (k + 1) x i ss s (omega (arith, at)) e in
    let one : 1 + i ≡ suc i = omega arith in
    record { sort = rw further rest.sort; place = rw further (ap (λ (n : ℕ). 1 + n) rest.place ∙ one) }

sort_same : (s : Sort) → same_sort s s ≡ true
sort_same Value = refl
sort_same Block = refl

pub number_again : (ss : List Sort) (s : Sort) (n : ℕ) (t : Tok) → slice_get ss n ≡ Some s → key_of t ≡ written n → number_in (known_with ss) s t ≡ Ok n
number_again ss s n t e key =
    let at : IsAt 0 n n ss s = at_place 0 n n ss s (omega arith) e in
    let definitions = keys_from 0 ss in
    ap (λ (k : Key). cond (is_used_as s (sort_of definitions k)) (Ok (position_or_len (same_key k) (map (λ d. d.0) definitions))) (Err (unknown t.line))) key
    ∙ ap (λ (o : Option Sort). cond (is_used_as s o) (Ok (position_or_len (same_key (written n)) (map (λ d. d.0) definitions))) (Err (unknown t.line))) at.sort
    ∙ ap (λ (b : Bool). cond b (Ok (position_or_len (same_key (written n)) (map (λ d. d.0) definitions))) (Err (unknown t.line))) (sort_same s)
    ∙ ap (λ (p : ℕ). Ok p) at.place
