-- What a use resolves to is the place of a definition of its sort.
use Rattle.std.proofs.Common.{◌≡◌, ℕ, suc, ◌+◌, Bool, true, false, List, [], ◌∷◌, map, Some, Ok, Err, refl, ◌∙◌, ap, arith, if◌then◌else◌}
use Rattle.std.specs.Prelude.{slice_get}
use Rattle.std.specs.List.{position_or_len}
use Rattle.ir_lex.specs.Tok.{Tok}
use Rattle.ir_parse_names.specs.declared.locals.Sort.{Sort}
use Rattle.ir_parse_names.specs.declared.locals.Sort.TheVariants.{Value, Block}
use Rattle.ir_parse_names.specs.Keys.{Key, key_of, same_key}
use Rattle.ir_parse_names.specs.Locals.{LocalTable, is_used_as, number_in, same_sort, sort_of, unknown}
use Rattle.ir_parse.proofs.Gives.{Gives, gives, fails}
use Rattle.ir_parse.proofs.Numbering.{sorts_of}

one_sort : (s t : Sort) → same_sort s t ≡ true → Some t ≡ Some s
one_sort Value Value h = refl
one_sort Value Block h = absurd cc
one_sort Block Value h = absurd cc
one_sort Block Block h = refl

abbrev place : List (Key × Sort) → Key → ℕ
place ds key = position_or_len (same_key key) (map (λ d. d.0) ds)

found : (s : Sort) (key : Key) (ds : List (Key × Sort)) → is_used_as s (sort_of ds key) ≡ true → slice_get (map (λ d. d.1) ds) (place ds key) ≡ Some s
found s key [] h = absurd cc
found s key (d ∷ ds) h = by (same_key key d.0) refl h (found s key ds)
  where
    later : slice_get (map (λ d. d.1) ds) (place ds key) ≡ Some s → slice_get (map (λ d. d.1) (d ∷ ds)) (1 + place ds key) ≡ Some s
    later h = let next : 1 + place ds key ≡ suc (place ds key) = omega arith in ap (slice_get (map (λ d. d.1) (d ∷ ds))) next ∙ h

    by : (b : Bool) → same_key key d.0 ≡ b → is_used_as s (if b then Some d.1 else sort_of ds key) ≡ true
        → (is_used_as s (sort_of ds key) ≡ true → slice_get (map (λ d. d.1) ds) (place ds key) ≡ Some s)
        → slice_get (map (λ d. d.1) (d ∷ ds)) (place (d ∷ ds) key) ≡ Some s
    by true e h more = rw e (one_sort s d.1 h)
    by false e h more = rw e (later (more h))

abbrev pub IsPlace : LocalTable → Sort → ℕ → Type 0
IsPlace known s n = slice_get (sorts_of known) n ≡ Some s

pub used : (known : LocalTable) (s : Sort) (name : Tok) → Gives (number_in known s name) (IsPlace known s)
used known s name = by (is_used_as s (sort_of known.definitions (key_of name))) refl
  where
    by : (b : Bool) → is_used_as s (sort_of known.definitions (key_of name)) ≡ b → Gives (if b then Ok (place known.definitions (key_of name)) else Err (unknown name.line)) (IsPlace known s)
    by true e = gives (IsPlace known s) (place known.definitions (key_of name)) (found s (key_of name) known.definitions e)
    by false e = fails (IsPlace known s) (unknown name.line)
