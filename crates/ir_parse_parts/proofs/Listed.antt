-- The reader of lists of numbers reads them.
use Rattle.std.proofs.Common.{◌≡◌, ℕ, suc, nat_lt, Bool, true, false, cond, List, [], ◌∷◌, Ok, Err, refl, ap, arith}
use Rattle.ir_parse_parts.specs.declared.fault.Fault.{Fault}
use Rattle.ir_parse_parts.specs.declared.fault.TokenFault.TheVariants.{Syntax, Number, Limit}
use Rattle.ir_parse_parts.specs.Alphabet.{among, is_number}
use Rattle.ir_parse_parts.specs.Faults.{StopsAt, FitsBound, FitsKind}
use Rattle.ir_parse_parts.specs.Forms as form
use Rattle.ir_parse_parts.specs.Forms.{Form}
use Rattle.ir_parse_parts.specs.Lawful.{SameRefusal}
use Rattle.ir_parse_parts.specs.Listing.{Sign, class_of, opening, closing, comma, numeral, signs, not_here, sign, within, further, numbers, listing, all_numbers, any_listing, further_at, numbers_at, listing_at, list_of}
use Rattle.ir_parse_parts.specs.Readers.{token_at}
use Rattle.ir_parse_parts.specs.Rules.{Rule, Opens, is_class}
use Rattle.ir_parse_parts.proofs.Composed.{token_lawful}
use Rattle.ir_parse_parts.proofs.FaultPlaces.{one_place}
use Rattle.ir_parse_parts.proofs.Rules as rules
use Rattle.ir_parse_parts.proofs.Bounds.{whole_bound}
use Rattle.ir_parse_parts.proofs.Whole as whole

not_number : (n : ℕ) → not_here n ≡ Number → ⊥
not_number n e = cc

not_limit : (n : ℕ) → not_here n ≡ Limit → ⊥
not_limit n e = cc

sign_rule : (n : ℕ) (sample : Sign) → sign n sample ≡ Ok tt → Rule signs (form.token (sign n)) (form.token (sign n)) (token_at (sign n)) (n ∷ []) [] false
sign_rule n sample e = rules.class_rule signs not_here not_number not_limit n sample e tt

opening_rule : Rule signs (form.token (sign 0)) (form.token (sign 0)) (token_at (sign 0)) (0 ∷ []) [] false
unfolding is_class
opening_rule = sign_rule 0 opening refl

closing_rule : Rule signs (form.token (sign 1)) (form.token (sign 1)) (token_at (sign 1)) (1 ∷ []) [] false
unfolding is_class
closing_rule = sign_rule 1 closing refl

comma_rule : Rule signs (form.token (sign 2)) (form.token (sign 2)) (token_at (sign 2)) (2 ∷ []) [] false
unfolding is_class
comma_rule = sign_rule 2 comma refl

module _ (most : ℕ) where
  zero_within : within most (numeral 0) ≡ Ok 0
  unfolding within
  zero_within = ap (λ (b : Bool). cond b (Ok 0) (Err Number)) (less most)
    where
      less : (n : ℕ) → nat_lt 0 (suc n) ≡ true
      less n = grind arith

  range : (t : Sign) → within most t ≡ Err Number → (is_number signs t ≡ true) × (u : Sign) × (b : ℕ) × (class_of u ≡ class_of t) × (within most u ≡ Ok b) × signs.Real u
  unfolding within
  range opening e = absurd cc
  range closing e = absurd cc
  range comma e = absurd cc
  range (numeral n) e = (refl, numeral 0, 0, refl, zero_within, tt)

  never_limit : (t : Sign) → within most t ≡ Err Limit → ⊥
  unfolding within
  never_limit opening e = cc
  never_limit closing e = cc
  never_limit comma e = cc
  never_limit (numeral n) e = by_test (nat_lt n (suc most)) e
    where
      by_test : (b : Bool) → cond b (Ok n) (Err Number) ≡ Err Limit → ⊥
      by_test true h = cc
      by_test false h = cc

  alike : (t u : Sign) → is_number signs t ≡ true → class_of u ≡ class_of t → SameRefusal (within most t) (within most u)
  unfolding within
  alike opening u e d = absurd cc
  alike closing u e d = absurd cc
  alike comma u e d = absurd cc
  alike (numeral n) u e d = by_test (nat_lt n (suc most))
    where
      by_test : (b : Bool) → SameRefusal {A = ℕ} (cond b (Ok n) (Err Number)) (within most u)
      by_test true = tt
      by_test false = tt

  begins : (t : Sign) (a : ℕ) → within most t ≡ Ok a → among signs (3 ∷ []) t ≡ true
  unfolding within
  begins opening a e = absurd cc
  begins closing a e = absurd cc
  begins comma a e = absurd cc
  begins (numeral n) a e = refl

  within_rule : Rule signs (form.token (within most)) (form.token (within most)) (token_at (within most)) (3 ∷ []) [] false
  within_rule = record { law = token_lawful signs (within most) (among signs (3 ∷ [])) (record { range = range; alike = alike; never = never_limit }) begins (numeral 0) 0 zero_within tt }

  further_rule : Rule signs (further most) (further most) (further_at most) (2 ∷ []) [] false
  unfolding further further_at
  further_rule = rules.seq signs comma_rule (λ _. within_rule) refl

  further_opens : Opens signs (2 ∷ []) (further most)
  unfolding further is_class form.◌>>=◌
  further_opens comma h = (numeral 0 ∷ [], 0, (comma ∷ [], numeral 0 ∷ [], tt, refl, refl, zero_within), (tt, tt))
  further_opens opening h = absurd cc
  further_opens closing h = absurd cc
  further_opens (numeral n) h = absurd cc

  numbers_rule : (room : ℕ) → Rule signs (numbers most room) (all_numbers most) (numbers_at most room) (3 ∷ []) (2 ∷ 3 ∷ []) true
  unfolding numbers all_numbers numbers_at
  numbers_rule room =
      rules.alt signs (3 ∷ []) (rules.seq signs within_rule (λ first. rules.seq signs (rules.many signs (2 ∷ []) room further_rule further_opens refl refl) (λ others. rules.nothing signs (first ∷ others)) refl) refl) (rules.nothing signs []) refl refl

  pub listing_rule : (room : ℕ) → Rule signs (listing most room) (any_listing most) (listing_at most room) (0 ∷ []) [] false
  unfolding listing any_listing listing_at
  listing_rule room = rules.seq signs opening_rule (λ _. rules.seq signs (numbers_rule room) (λ ns. rules.seq signs closing_rule (λ _. rules.nothing signs ns) refl) refl) refl

  module _ (room : ℕ) where
    pub found : (ts : List Sign) (ns : List ℕ) → list_of most room ts ≡ Ok ns → listing most room ts ns
    found ts ns e = whole.whole_sound signs (listing most room) (any_listing most) (listing_at most room) (among signs (0 ∷ [])) (among signs []) false (λ t. Syntax) (λ t d. not_number 0 d) (listing_rule room).law ts ns e

    pub only : (ts : List Sign) (ns : List ℕ) → listing most room ts ns → list_of most room ts ≡ Ok ns
    only ts ns s = whole.whole_again signs (listing most room) (any_listing most) (listing_at most room) (among signs (0 ∷ [])) (among signs []) false (λ t. Syntax) (λ t d. not_number 0 d) (listing_rule room).law ts ns s

    pub stops : (ts : List Sign) (e : Fault) → list_of most room ts ≡ Err e → StopsAt signs (listing most room) ts e.left
    stops ts e d = whole.whole_stops signs (listing most room) (any_listing most) (listing_at most room) (among signs (0 ∷ [])) (among signs []) false (λ t. Syntax) (λ t d. not_number 0 d) (listing_rule room).law ts e d

    pub kind : (ts : List Sign) (e : Fault) → list_of most room ts ≡ Err e → FitsKind signs (listing most room) ts e.left e.kind
    kind ts e d = whole.whole_kind signs (listing most room) (any_listing most) (listing_at most room) (among signs (0 ∷ [])) (among signs []) false (λ t. Syntax) (λ t d. not_number 0 d) (listing_rule room).law ts e d

    pub limit : (ts : List Sign) (e : Fault) → list_of most room ts ≡ Err e → FitsBound signs (any_listing most) ts e.left e.kind
    limit ts e d = whole_bound signs (listing most room) (any_listing most) (listing_at most room) (among signs (0 ∷ [])) (among signs []) false (λ t. Syntax) (λ t e. not_number 0 e) (λ t e. not_limit 0 e) (listing_rule room).law ts e d

    pub place : (ts : List Sign) (n m : ℕ) → StopsAt signs (listing most room) ts n → StopsAt signs (listing most room) ts m → n ≡ m
    place = one_place signs (listing most room)
