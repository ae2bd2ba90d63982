-- What may begin behind the head of a declaration: an attribute, or an item.
use Rattle.std.proofs.Common.{◌≡◌, ℕ, nat_eq, Bool, true, false, ◌||◌, List, [], ◌∷◌, ◌++◌, refl, ap, ◌∙◌}
use Rattle.ir_parse_parts.specs.Alphabet.{contains}
use Rattle.ir_parse_parts.specs.declared.places.Before.{Before}
use Rattle.ir_parse_parts.specs.declared.places.Before.TheVariants as befores
use Rattle.ir_parse_heads.specs.AttributesAt.{HEAD}
use Rattle.ir_parse.specs.ItemFormsAt.{ITEM, beginnings}

contains_either : (xs ys : List ℕ) (n : ℕ) → contains (xs ++ ys) n ≡ contains xs n || contains ys n
contains_either [] ys n = refl
contains_either (x ∷ xs) ys n = by_test (nat_eq n x) (contains_either xs ys n)
  where
    by_test : (b : Bool) → contains (xs ++ ys) n ≡ contains xs n || contains ys n → b || contains (xs ++ ys) n ≡ (b || contains xs n) || contains ys n
    by_test true e = refl
    by_test false e = e

pub attribute_begins : (before : Before) (n : ℕ) → before ≡ befores.Declaration → contains HEAD n ≡ true → contains (beginnings before) n ≡ true
attribute_begins before n d h = ap (λ (b : Before). contains (beginnings b) n) d ∙ contains_either HEAD ITEM n ∙ ap (λ (b : Bool). b || contains ITEM n) h

pub item_begins : (before : Before) (n : ℕ) → before ≡ befores.Declaration → contains HEAD n ≡ false → contains (beginnings before) n ≡ contains ITEM n
item_begins before n d h = ap (λ (b : Before). contains (beginnings b) n) d ∙ contains_either HEAD ITEM n ∙ ap (λ (b : Bool). b || contains ITEM n) h
