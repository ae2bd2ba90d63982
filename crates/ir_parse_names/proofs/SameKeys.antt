-- Two keys are equal in the code exactly where what they stand for is.
use Rattle.std.proofs.Common.{◌≡◌, refl, ap, suc, List, [], ◌∷◌, map, length, position}
use Rattle.std.specs.List.{position_or_len}
use Rattle.std.specs.Map.{keys_of, lookup}
use Rattle.ir_parse_names.specs.declared.key.Key as code
use Rattle.ir_parse_names.specs.declared.key.Key.TheVariants.{Spelled, Written}
use Rattle.ir_parse_names.specs.contracts.key.KeyPartialEq.TheImpl as derived
use Rattle.ir_parse_names.specs.declared.locals.Sort.{Sort}
use Rattle.ir_parse_names.specs.Keys.{same_key}
use Rattle.ir_parse_names.specs.KeyViews.{key}
use Rattle.ir_parse_names.specs.Locals.{place_of, sort_of}
use Rattle.ir_parse_names.specs.LocalsViews.{definitions}

pub same : (a b : code.Key) → derived.eq-value.it a b ≡ same_key (key a) (key b)
same (Spelled x) (Spelled y) = refl
same (Written m) (Written n) = refl
same (Spelled x) (Written n) = refl
same (Written m) (Spelled y) = refl

module _ (k : code.Key) where
  lengths : (es : List (code.Key × Sort)) → length (keys_of es) ≡ length (map (λ d. d.0) (definitions es))
  lengths [] = refl
  lengths (e ∷ es) = ap (λ n. suc n) (lengths es)

  fronts : (es : List (code.Key × Sort)) → position_or_len (derived.eq-value.it k) (keys_of es) ≡ position_or_len (same_key (key k)) (map (λ d. d.0) (definitions es))
  fronts [] = refl
  fronts (e ∷ es) = rw (same k e.0, fronts es) refl

  -- the place of a key in the map is that of what it stands for
  pub places : (es : List (code.Key × Sort)) → position (derived.eq-value.it k) (keys_of es) ≡ place_of (definitions es) (key k)
  places es = rw (fronts es, lengths es) refl

  pub sorts : (es : List (code.Key × Sort)) → lookup (derived.eq-value.it k) es ≡ sort_of (definitions es) (key k)
  sorts [] = refl
  sorts (e ∷ es) = rw (same k e.0, sorts es) refl
