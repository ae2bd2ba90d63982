-- One more definition.
use Rattle.std.proofs.Common.{◌≡◌, refl, ap, ◌∙◌, Bool, true, false, ℕ, ◌+◌, ◌≤◌, ◌^◌, inl, inr, nat_eq, List, [], ◌∷◌, ◌++◌, Option, None, Some, is_some, arith, ltb-false, eqb-true}
use Rattle.indexmap.proofs.CallerLemmas.{insert_entry-new}
use Rattle.indexmap.specs.IndexMap.{IndexMap, insert_entry}
use Rattle.ir_parse_names.specs.declared.key.Key as code
use Rattle.ir_parse_names.specs.contracts.key.KeyPartialEq.TheImpl as derived
use Rattle.ir_parse_names.specs.declared.locals.Sort.{Sort}
use Rattle.ir_parse_names.specs.Keys.{Key, spelled, written, IsWritten}
use Rattle.ir_parse_names.specs.KeyViews.{key}
use Rattle.ir_parse_names.specs.Locals.{sort_of, stands, is_below, counted, IsBelow, AreBelow, MayFollow}
use Rattle.ir_parse_names.specs.LocalsViews.{definition, definitions}
use Rattle.ir_parse_names.proofs.SameKeys.{sorts}

none_of : {A : Type 0} (o : Option A) → is_some o ≡ false → o ≡ None
none_of None h = refl
none_of (Some x) h = absurd (cc h)

behind : (es : List (code.Key × Sort)) (k : code.Key) (s : Sort) → definitions (es ++ (k, s) ∷ []) ≡ definitions es ++ (key k, s) ∷ []
behind [] k s = refl
behind (e ∷ es) k s = ap (λ ds. definition e ∷ ds) (behind es k s)

-- a new key goes behind the others
pub pushed : {S : Type 0} (m : IndexMap code.Key Sort S) (k : code.Key) (s : Sort) → stands (definitions m.entries) (key k) ≡ false → definitions (insert_entry (derived.eq-value.it) m.entries k s) ≡ definitions m.entries ++ (key k, s) ∷ []
pushed m k s free = ap definitions (insert_entry-new derived.eq-value.it m k s (sorts k m.entries ∙ none_of (sort_of (definitions m.entries) (key k)) free)) ∙ behind m.entries k s

wider : (low high : ℕ) (k : Key) → low ≤ high → IsBelow low k → IsBelow high k
wider low high (spelled name) le h = tt
wider low high (written n) le h = omega (arith, le, h)

all_wider : (low high : ℕ) (ds : List (Key × Sort)) (k : Key) (s : Sort) → low ≤ high → IsBelow high k → AreBelow low ds → AreBelow high (ds ++ (k, s) ∷ [])
all_wider low high [] k s le last h = (last, tt)
all_wider low high (d ∷ ds) k s le last h = (wider low high d.0 le h.0, all_wider low high ds k s le last h.1)

-- the counter is past each number again
pub keeps : (counter : ℕ) (ds : List (Key × Sort)) (k : Key) (s : Sort) → is_below counter k ≡ false → AreBelow counter ds → AreBelow (counted counter k) (ds ++ (k, s) ∷ [])
keeps counter ds (spelled name) s above h = all_wider counter counter ds (spelled name) s (omega arith) tt h
keeps counter ds (written n) s above h =
    let le : counter ≤ n = ltb-false n counter above in all_wider counter (n + 1) ds (written n) s (omega (arith, le)) (omega arith) h

pub follows : (counter : ℕ) (k : Key) → IsWritten k → MayFollow counter k
follows counter (spelled name) h = tt
follows counter (written n) h = inl h

-- the counter is past 2 ^ 32 by one for each definition at most
pub bounded : (counter many : ℕ) (k : Key) → counter ≤ 2 ^ 32 + many → MayFollow counter k → counted counter k ≤ 2 ^ 32 + many + 1
bounded counter many (spelled name) low h = omega (arith, low)
bounded counter many (written n) low (inl h) = omega (arith, h)
bounded counter many (written n) low (inr h) = omega (arith, low, h)

-- no definition stands under the counter
pub unnamed : (counter : ℕ) (ds : List (Key × Sort)) → AreBelow counter ds → stands ds (written counter) ≡ false
unnamed counter [] h = refl
unnamed counter ((spelled name, s) ∷ ds) h = unnamed counter ds h.1
unnamed counter ((written n, s) ∷ ds) h = by (nat_eq counter n) refl (unnamed counter ds h.1)
  where
    by : (b : Bool) → nat_eq counter n ≡ b → stands ds (written counter) ≡ false → stands ((written n, s) ∷ ds) (written counter) ≡ false
    by true e rest = absurd (omega (arith, eqb-true counter n e, h.0))
    by false e rest = rw e rest
