-- Lists with commas between.
use Rattle.std.proofs.Common.{◌≡◌, ◌∙◌, ◌<◌, ◌≤◌, ◌+◌, ℕ, sym, ap, refl, Bool, true, false, cond, List, [], ◌∷◌, ◌++◌, length, map, drop, fold, Option, Some, None, append_assoc, append-nil, drop-cons, drop_of_length-le, slice_index_or, add-one}
use Rattle.std.proofs.lemmas.List.{map-append}
use Rattle.std.specs.Borrow.{Bor}
use Rattle.std.specs.List.{list_any}
use Rattle.std.specs.Str.{bytes_eq}
use Rattle.clap.specs.Walk.{texts}
use Rattle.clap.specs.Words.{Text}
use Rattle.clap.proofs.WalkLemmas.{list_any-map}
use Rattle.indexmap.specs.IndexSet.{insert_key}
use Rattle.lto_words.specs.Values.{decimal, once, with_name}
use Rattle.lto_words.specs.declared.list.Decimal.{Decimal}

-- what is left, as its first item and the rest
left : {X : Type 0} (xs : List X) (i : ℕ) (d : X) → i < length xs → drop i xs ≡ slice_index_or xs i d ∷ drop (i + 1) xs
left xs i d lt = drop-cons xs i d lt ∙ ap (λ n. slice_index_or xs i d ∷ drop n xs) (sym (add-one i))

-- ---- copies

-- one more copy
pub text_more : (rows : List Text) (names : List (Bor Text)) (i : ℕ) (d : Bor Text) → i < length names → rows ++ texts (drop i names) ≡ texts names
    → (rows ++ (slice_index_or names i d).now ∷ []) ++ texts (drop (i + 1) names) ≡ texts names
text_more rows names i d lt so_far =
    append_assoc rows ((slice_index_or names i d).now ∷ []) (texts (drop (i + 1) names))
    ∙ ap (λ (z : List (Bor Text)). rows ++ texts z) (sym (left names i d lt)) ∙ so_far

-- all copies
pub texts_done : (rows : List Text) (names : List (Bor Text)) (i : ℕ) → length names ≤ i → rows ++ texts (drop i names) ≡ texts names → rows ≡ texts names
texts_done rows names i past so_far = sym (append-nil rows) ∙ ap (λ (z : List (Bor Text)). rows ++ texts z) (sym (drop_of_length-le names past)) ∙ so_far

-- ---- names

abbrev alike : Bor Text → Bor Text → Bool
alike x y = bytes_eq x.now y.now

-- one more name in the set
pub keys_more : (keys : List (Bor Text)) (name : Bor Text) → texts (insert_key alike keys name) ≡ with_name (texts keys) name.now
keys_more keys name = go (list_any (alike name) keys) ∙ ap (λ b. cond b (texts keys) (texts keys ++ name.now ∷ [])) (list_any-map (bytes_eq name.now) (λ (s : Bor Text). s.now) keys)
  where
    go : (b : Bool) → texts (cond b keys (keys ++ name ∷ [])) ≡ cond b (texts keys) (texts keys ++ name.now ∷ [])
    go true = refl
    go false = map-append (λ (s : Bor Text). s.now) keys (name ∷ [])

pub name_more : (keys names : List (Bor Text)) (i : ℕ) (d : Bor Text) → i < length names → fold with_name (texts keys) (texts (drop i names)) ≡ once (texts names)
    → fold with_name (texts (insert_key alike keys (slice_index_or names i d))) (texts (drop (i + 1) names)) ≡ once (texts names)
name_more keys names i d lt so_far =
    ap (λ (ns : List Text). fold with_name ns (texts (drop (i + 1) names))) (keys_more keys (slice_index_or names i d))
    ∙ ap (λ (z : List (Bor Text)). fold with_name (texts keys) (texts z)) (sym (left names i d lt)) ∙ so_far

pub names_done : (keys names : List (Bor Text)) (i : ℕ) → length names ≤ i → fold with_name (texts keys) (texts (drop i names)) ≡ once (texts names)
    → texts keys ≡ once (texts names)
names_done keys names i past so_far = sym (ap (λ (z : List (Bor Text)). fold with_name (texts keys) (texts z)) (drop_of_length-le names past)) ∙ so_far

-- ---- decimals

abbrev found : List Decimal → List (Option Decimal)
found = map (λ d. Some d)

-- a text that is no decimal stands in no list of them
none_stands : (numbers : List Decimal) (rest : List (Option Decimal)) (all : List Decimal) → found numbers ++ (None ∷ rest) ≡ found all → ⊥
none_stands [] rest [] e = cc
none_stands [] rest (d ∷ ds) e = cc
none_stands (x ∷ xs) rest [] e = cc
none_stands (x ∷ xs) rest (d ∷ ds) e =
    let tail : found xs ++ (None ∷ rest) ≡ found ds = cc in
    none_stands xs rest ds tail

first_left : (parts : List (Bor Text)) (i : ℕ) (d : Bor Text) (o : Option Decimal) → i < length parts → decimal (slice_index_or parts i d).now ≡ o
    → map decimal (texts (drop i parts)) ≡ o ∷ map decimal (texts (drop (i + 1) parts))
first_left parts i d o lt is =
    ap (λ (z : List (Bor Text)). map decimal (texts z)) (left parts i d lt)
    ∙ ap (λ (x : Option Decimal). x ∷ map decimal (texts (drop (i + 1) parts))) is

pub no_decimal : (numbers : List Decimal) (parts : List (Bor Text)) (i : ℕ) (d : Bor Text) → i < length parts
    → found numbers ++ map decimal (texts (drop i parts)) ≡ map decimal (texts parts) → decimal (slice_index_or parts i d).now ≡ None
    → (all : List Decimal) → map decimal (texts parts) ≡ found all → ⊥
no_decimal numbers parts i d lt so_far is all same =
    none_stands numbers (map decimal (texts (drop (i + 1) parts))) all
    (ap (λ (z : List (Option Decimal)). found numbers ++ z) (sym (first_left parts i d None lt is)) ∙ so_far ∙ same)

pub decimal_more : (numbers : List Decimal) (parts : List (Bor Text)) (i : ℕ) (d : Bor Text) (n : Decimal) → i < length parts
    → found numbers ++ map decimal (texts (drop i parts)) ≡ map decimal (texts parts) → decimal (slice_index_or parts i d).now ≡ Some n
    → found (numbers ++ n ∷ []) ++ map decimal (texts (drop (i + 1) parts)) ≡ map decimal (texts parts)
decimal_more numbers parts i d n lt so_far is =
    let rest = map decimal (texts (drop (i + 1) parts)) in
    ap (λ (z : List (Option Decimal)). z ++ rest) (map-append (λ (d : Decimal). Some d) numbers (n ∷ []))
    ∙ append_assoc (found numbers) (Some n ∷ []) rest
    ∙ ap (λ (z : List (Option Decimal)). found numbers ++ z) (sym (first_left parts i d (Some n) lt is)) ∙ so_far

pub decimals_done : (numbers : List Decimal) (parts : List (Bor Text)) (i : ℕ) → length parts ≤ i
    → found numbers ++ map decimal (texts (drop i parts)) ≡ map decimal (texts parts) → map decimal (texts parts) ≡ found numbers
decimals_done numbers parts i past so_far =
    sym so_far ∙ ap (λ (z : List (Bor Text)). found numbers ++ map decimal (texts z)) (drop_of_length-le parts past) ∙ append-nil (found numbers)
