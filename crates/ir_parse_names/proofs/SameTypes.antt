-- Type names in the map, and what they stand for.
use Rattle.std.proofs.Common.{sym, ◌∙◌, zero, ◌+◌, nat_lt, lt-ltb, le-ltb, ltb-true, ltb-false, arith, position, map, slice_get, option_copied, is_some, ◌++◌, ◌≡◌, refl, ap, Bool, true, false, None, Some, ℕ, suc, List, [], ◌∷◌, length, cond, Option, option_map}
use Rattle.std.specs.Borrow.{Bor}
use Rattle.std.specs.Map.{keys_of, lookup}
use Rattle.indexmap.proofs.CallerLemmas.{insert_entry-new}
use Rattle.indexmap.specs.IndexMap.{IndexMap, insert_entry}
use Rattle.std.specs.List.{position_or_len}
use Rattle.ir_parse_parts.specs.Shapes.{Written}
use Rattle.ir_parse_names.specs.declared.key.Key as code
use Rattle.ir_parse_names.specs.contracts.key.KeyPartialEq.TheImpl as derived
use Rattle.ir_parse_names.specs.Keys.{same_key}
use Rattle.ir_parse_names.specs.KeyViews.{key}
use Rattle.ir_parse_names.specs.TypeNames.{place_of}
use Rattle.ir_parse_names.specs.Types.{entry_of, shape_at}
use Rattle.ir_parse_names.specs.TypesViews.{types, type_def}
use Rattle.ir_parse_names.proofs.SameKeys.{same}

place_behind : {A : Type 0} (f g : ℕ → A) (k n : ℕ) → ((p : ℕ) → f (suc p) ≡ g p) → option_map f (cond (nat_lt (1 + k) (suc n)) (Some (1 + k)) None) ≡ option_map g (cond (nat_lt k n) (Some k) None)
place_behind f g k n h = by (nat_lt k n) refl
  where
    next : 1 + k ≡ suc k
    next = omega arith

    by : (b : Bool) → nat_lt k n ≡ b → option_map f (cond (nat_lt (1 + k) (suc n)) (Some (1 + k)) None) ≡ option_map g (cond (nat_lt k n) (Some k) None)
    by true e = rw (e, lt-ltb (1 + k) (suc n) (omega (arith, ltb-true k n e)), next) (ap (λ x. Some x) (h k))
    by false e = rw (e, le-ltb (1 + k) (suc n) (omega (arith, ltb-false k n e))) refl

-- what the definition at the place of a key says
pub entries : (k : code.Key) (es : List (code.Key × Option (Bor Written))) → option_map (λ p. shape_at (types es) p) (position (derived.eq-value.it k) (keys_of es)) ≡ entry_of (types es) (key k)
entries k [] = refl
entries k (e ∷ es) = by (derived.eq-value.it k e.0) refl (sym (same k e.0)) (entries k es)
  where
    front : ℕ
    front = position_or_len (derived.eq-value.it k) (keys_of es)

    by : (b : Bool) → derived.eq-value.it k e.0 ≡ b → same_key (key k) (key e.0) ≡ derived.eq-value.it k e.0
        → option_map (λ p. shape_at (types es) p) (position (derived.eq-value.it k) (keys_of es)) ≡ entry_of (types es) (key k)
        → option_map (λ p. shape_at (types (e ∷ es)) p) (position (derived.eq-value.it k) (keys_of (e ∷ es))) ≡ entry_of (types (e ∷ es)) (key k)
    by true h s rest = rw (s, h, lt-ltb 0 (suc (length (keys_of es))) (omega arith)) refl
    by false h s rest = rw (s, h) (place_behind (λ p. shape_at (types (e ∷ es)) p) (λ p. shape_at (types es) p) front (length (keys_of es)) (λ p. refl) ∙ rest)

keys_long : (es : List (code.Key × Option (Bor Written))) → length (keys_of es) ≡ length (map (λ d. d.0) (types es))
keys_long [] = refl
keys_long (e ∷ es) = ap (λ n. suc n) (keys_long es)

fronts : (k : code.Key) (es : List (code.Key × Option (Bor Written))) → position_or_len (derived.eq-value.it k) (keys_of es) ≡ position_or_len (same_key (key k)) (map (λ d. d.0) (types es))
fronts k [] = refl
fronts k (e ∷ es) = rw (same k e.0, fronts k es) refl

-- the place of a key in the map is that of what it stands for
pub places : (k : code.Key) (es : List (code.Key × Option (Bor Written))) → position (derived.eq-value.it k) (keys_of es) ≡ place_of (types es) (key k)
places k es = rw (fronts k es, keys_long es) refl

abbrev pub said : Option (code.Key × Option (Bor Written)) → Option Written
said None = None
said (Some e) = option_map (λ (s : Bor Written). s.now) e.1

pub at_place : (es : List (code.Key × Option (Bor Written))) (n : ℕ) → said (slice_get es n) ≡ shape_at (types es) n
at_place [] n = refl
at_place (e ∷ es) zero = refl
at_place (e ∷ es) (suc n) = at_place es n

pub lengths : (es : List (code.Key × Option (Bor Written))) → length es ≡ length (types es)
lengths [] = refl
lengths (e ∷ es) = ap (λ n. suc n) (lengths es)

pub copied : (s : Option (Bor Written)) → option_copied s ≡ option_map (λ (x : Bor Written). x.now) s
copied None = refl
copied (Some s) = refl

kept : (es : List (code.Key × Option (Bor Written))) (k : code.Key) (s : Option (Bor Written)) → types (es ++ (k, s) ∷ []) ≡ types es ++ (key k, option_copied s) ∷ []
kept [] k s = ap (λ o. (key k, o) ∷ []) (sym (copied s))
kept (e ∷ es) k s = ap (λ ts. type_def e ∷ ts) (kept es k s)

found : (k : code.Key) (es : List (code.Key × Option (Bor Written))) → is_some (lookup (derived.eq-value.it k) es) ≡ is_some (entry_of (types es) (key k))
found k [] = refl
found k (e ∷ es) = rw (same k e.0) (by (same_key (key k) (key e.0)) (found k es))
  where
    by : (b : Bool) → is_some (lookup (derived.eq-value.it k) es) ≡ is_some (entry_of (types es) (key k)) → is_some (cond b (Some e.1) (lookup (derived.eq-value.it k) es)) ≡ is_some (cond b (Some (type_def e).1) (entry_of (types es) (key k)))
    by true h = refl
    by false h = h

none_of : {A : Type 0} (o : Option A) → is_some o ≡ false → o ≡ None
none_of None h = refl
none_of (Some x) h = absurd (cc h)

-- a new type name goes behind the others
pub pushed : {S : Type 0} (m : IndexMap code.Key (Option (Bor Written)) S) (k : code.Key) (s : Option (Bor Written)) → is_some (entry_of (types m.entries) (key k)) ≡ false
    → types (insert_entry (derived.eq-value.it) m.entries k s) ≡ types m.entries ++ (key k, option_copied s) ∷ []
pushed m k s free = ap types (insert_entry-new derived.eq-value.it m k s (none_of (lookup (derived.eq-value.it k) m.entries) (found k m.entries ∙ free))) ∙ kept m.entries k s
